-- Data that is read again as what it was written for.
use Rattle.std.specs.Prelude.{◌≡◌, ℕ, List, false, Option, Some}
use Rattle.serde_json.specs.Data.{Data, Items}
use Rattle.serde_json.specs.Written.{has_float, items_have_float}
use Rattle.hir_input_json.specs.Reading.{Reading, right}
use Rattle.hir_input_json.specs.Forms.{each_from, maybe, unless_null}

-- the data is no null and is read as the value, and has no float
pub record Holds {A : Type 0} (form : Data → Reading A) (a : A) (d : Data) : Type 0 where
  pub there : unless_null d ≡ Some d
  pub reads : form d ≡ right a
  pub exact : has_float d ≡ false

-- the same of what may be absent
pub record MayHold {A : Type 0} (form : Data → Reading A) (o : Option A) (d : Data) : Type 0 where
  pub reads : maybe form (unless_null d) ≡ right o
  pub exact : has_float d ≡ false

-- and of the items of a list, whatever number the first one has
pub record HoldEach {A : Type 0} (form : Data → Reading A) (as' : List A) (ds : Items) : Type 0 where
  pub reads : (n : ℕ) → each_from n form ds ≡ right as'
  pub exact : items_have_float ds ≡ false
