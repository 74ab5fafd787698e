-- What is told of changes holds no float.
use Rattle.std.proofs.Common.{◌≡◌, ℕ, false, List, Option, Some, None, refl}
use Rattle.line_index.specs.declared.Position.{Position}
use Rattle.list_forms.specs.Lines.{column_number, line_number}
use Rattle.serde_json.specs.Written.{has_float}
use Rattle.source_changes.specs.declared.change_kind.ChangeKind.{ChangeKind}
use Rattle.source_changes.specs.Told.{change_object, item_form}

line_none : (p : Option Position) → has_float (line_number p) ≡ false
line_none None = refl
line_none (Some p) = refl

column_none : (p : Option Position) → has_float (column_number p) ≡ false
column_none None = refl
column_none (Some p) = refl

item_none : (label : Option (List ℕ)) → has_float (item_form label) ≡ false
item_none None = refl
item_none (Some label) = refl

pub change_none : (path : List ℕ) (p : Option Position) (kind : ChangeKind) (label : Option (List ℕ)) → has_float (change_object path p kind label) ≡ false
change_none path p kind label = rw (column_none p, item_none label, line_none p) refl
