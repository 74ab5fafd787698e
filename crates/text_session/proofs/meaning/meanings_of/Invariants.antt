-- what was made is what the edits so far mean
use Rattle.std.proofs.Common.{◌≡◌, List, ◌++◌, All, length, map}
use Rattle.item_tree_db.specs.Edits as table
use Rattle.text_session.proofs.Common.{text_edit_view, LeavesPlaced, text_in, AreMeant}
use Rattle.text_session.specs.declared.edit.TextEdit.{TextEdit}
use Rattle.text_session.proofs.meaning.meanings_of.Given as goal

abbrev pub invariant-loop-edit : goal.invariant-loop-edit
invariant-loop-edit l =
    (done : List TextEdit)
    × (l.fn.edits.items ≡ done ++ l.edit-iterator.rest.items)
    × AreMeant l.edition (text_in l.texts.entries) (map text_edit_view done) (map table.edit_view l.made.items) l.changes.items
    × All LeavesPlaced l.changes.items
    × (length l.made.items ≡ length done)
