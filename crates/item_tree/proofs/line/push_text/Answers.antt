use Rattle.std.proofs.Common.{◌++◌, ap, ◌∙◌, map, string_bytes, lit<}
use Rattle.std.proofs.lemmas.Iterator.Splits.{YieldsList-from_str_split}
use Rattle.std.proofs.lemmas.Iterator.Consumers.{YieldsList-end}
use Rattle.item_tree.proofs.Common.{text, lines_text}
use Rattle.item_tree.proofs.line.push_text.Goals as goal

pub returns : goal.returns
returns c =
    let all = YieldsList-end (YieldsList-from_str_split 10 c.args.bytes.now (lit< tt) (cc) (cc) (cc)) c.loop-part.yielded _ c.loop-part.yielded_by _ _ c.in-None.is c.next.ensures.steps in
    c.loop-part.invariant ∙ ap (λ parts. string_bytes c.args.out.now ++ lines_text (map (text c.args.level) parts)) all.0
