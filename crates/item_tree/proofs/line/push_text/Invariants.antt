use Rattle.std.proofs.Common.{◌≡◌, ◌++◌, map, string_bytes}
use Rattle.item_tree.proofs.Common.{text, lines_text}
use Rattle.item_tree.proofs.line.push_text.Given as goal

abbrev pub invariant-loop-part : goal.invariant-loop-part
invariant-loop-part l = string_bytes l.out ≡ string_bytes l.fn.out ++ lines_text (map (text l.level) (map (λ part. part.now) l.yielded))
