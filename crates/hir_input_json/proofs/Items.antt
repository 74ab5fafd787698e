-- An item's form reads itself.
use Rattle.std.proofs.Common.{codes, refl}
use Rattle.hir_input_json.proofs.Common.{field, list_of, item_with}
use Rattle.hir_input_json.proofs.Laws.{LooksInside, ReadsItself}
use Rattle.hir_input_json.proofs.NestedForms.{maybe_same, list_in, reads_itself}

item_inside : LooksInside item_with
item_inside f g d same = rw (maybe_same (list_of f) (list_of g) (field (codes "items") d) (list_in f g (codes "items") d same)) refl

pub item_reads_itself : ReadsItself item_with
item_reads_itself = reads_itself item_with item_inside
