use Rattle.std.proofs.Common.{◌≡◌, map}
use Rattle.lsp.specs.Changes.{text_with_changes}
use Rattle.lsp.specs.Views.{change_view}
use Rattle.lsp.proofs.change.make_changes.Given as goal

abbrev pub invariant-loop-change : goal.invariant-loop-change
invariant-loop-change l = text_with_changes l.units (map change_view l.fn.changes.items) l.fn.text ≡ text_with_changes l.units (map change_view l.change-iterator.rest.items) l.text
