-- What is listed of imports holds no float.
use Rattle.std.proofs.Common.{◌≡◌, false, List, [], ◌∷◌, Option, Some, None, map, refl}
use Rattle.line_index.specs.declared.Position.{Position}
use Rattle.list_forms.specs.Lines.{column_number, line_number}
use Rattle.serde_json.specs.View.{items_of}
use Rattle.serde_json.specs.Written.{has_float, items_have_float}
use Rattle.itemtree_commands.specs.ImportTargets.{PlacedTarget, ToldImport, target_object, lead_object}

line_none : (p : Option Position) → has_float (line_number p) ≡ false
line_none None = refl
line_none (Some p) = refl

column_none : (p : Option Position) → has_float (column_number p) ≡ false
column_none None = refl
column_none (Some p) = refl

target_none : (t : PlacedTarget) → has_float (target_object t) ≡ false
target_none t = rw (column_none t.position, line_none t.position) refl

targets_none : (ts : List PlacedTarget) → items_have_float (items_of (map target_object ts)) ≡ false
targets_none [] = refl
targets_none (t ∷ ts) = rw (target_none t, targets_none ts) refl

pub import_none : (t : ToldImport) → has_float (lead_object t) ≡ false
import_none t = rw (column_none t.position, line_none t.position, targets_none t.targets) refl
