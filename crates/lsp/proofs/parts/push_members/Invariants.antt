use Rattle.std.proofs.Common.{◌≡◌, ◌++◌, map, take}
use Rattle.source_rows.specs.ListedViews.{listed_view}
use Rattle.lsp.specs.Parts.{listed_part}
use Rattle.lsp.proofs.parts.push_members.Given as goal

abbrev pub invariant-loop-member : goal.invariant-loop-member
invariant-loop-member l = l.parts.items ≡ l.initial.parts.items ++ map (listed_part l.text) (map listed_view (take l.member-index l.members))
