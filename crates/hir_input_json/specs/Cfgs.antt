-- The reading of an atom and of a condition.
use Rattle.std.specs.Prelude.{ℕ, List, codes, []}
use Rattle.serde_json.specs.Data.{Data}
use Rattle.serde_json.specs.Find.{get, as_null, as_str}
use Rattle.hir_input.specs.Cfg.{AtomView, flag_atom, key_value, CfgView, CfgViews, invalid, all_of, any_of, not_of, cfgs_from}
use Rattle.hir_input.specs.Cfg as condition
use Rattle.hir_input_json.specs.Reading.{Reading, right, wrong, reading_map, reading_both, here, under, ◌>>=◌}
use Rattle.hir_input.specs.Name.{name_in}
use Rattle.hir_input_json.specs.Forms.{field, required_at, by_form, text_form, identifier_form, object_members, list_of}
use Rattle.hir_input_json.specs.Nested.{nested_reading}

-- an atom of this key, and of the value beside it, which is required
abbrev pub keyed_by : Data → Data → Reading AtomView
keyed_by e d = reading_both key_value (under (codes "key") (identifier_form e)) (required_at (codes "value") text_form d)

-- a key, which is required, and its value
abbrev pub keyed_atom : Data → Reading AtomView
keyed_atom d = do
  _ ← object_members d
  e ← required_at (codes "key") right d
  keyed_by e d

-- an atom: a name for a flag, or an object with a key
abbrev pub atom : Data → Reading AtomView
atom d = by_form (as_str d) (λ s. reading_map flag_atom (here (name_in s))) (keyed_atom d)

-- conditions within one another: a list at this key
abbrev pub listed_with : List ℕ → (CfgViews → CfgView) → (Data → Reading CfgView) → Data → Reading CfgView
listed_with key of cfg e = under key (reading_map (λ cs. of (cfgs_from cs)) (list_of cfg e))

-- a condition that is an object, by the first key that it holds; under `not` a null is held too
abbrev pub cfg_by : (Data → Reading CfgView) → Data → Reading CfgView
cfg_by cfg d =
    by_form (field (codes "key") d) (λ e. reading_map condition.atom (keyed_by e d))
    (by_form (field (codes "all") d) (listed_with (codes "all") all_of cfg)
    (by_form (field (codes "any") d) (listed_with (codes "any") any_of cfg)
    (by_form (get (codes "not") d) (λ e. under (codes "not") (reading_map not_of (cfg e)))
    (wrong []))))

-- a condition, over the reading of those inside: a null for what could not be read, a text, or an object
abbrev pub cfg_with : (Data → Reading CfgView) → Data → Reading CfgView
cfg_with cfg d =
    by_form (as_null d) (λ _. right invalid)
    (by_form (as_str d) (λ _. reading_map condition.atom (atom d))
    (do
      _ ← object_members d
      cfg_by cfg d))

-- a condition, with those inside it
abbrev pub cfg : Data → Reading CfgView
cfg = nested_reading cfg_with
