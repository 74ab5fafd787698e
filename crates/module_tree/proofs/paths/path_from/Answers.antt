use Rattle.std.proofs.Common.{ap, ◌∙◌, map, lit<}
use Rattle.std.specs.List.{fold}
use Rattle.std.proofs.lemmas.Iterator.Splits.{YieldsList-from_str_split}
use Rattle.std.proofs.lemmas.Iterator.Consumers.{YieldsList-end}
use Rattle.module_tree.specs.{Inner.texts, Paths.path_base, Paths.stepped_words}
use Rattle.module_tree.proofs.paths.path_from.Goals as goal

pub returns : goal.returns
returns c =
    let all = YieldsList-end (YieldsList-from_str_split 47 c.args.path.now (lit< tt) (cc) (cc) (cc)) c.loop-word.yielded _ c.loop-word.yielded_by _ _ c.in-None.is c.next.ensures.steps in
    c.loop-word.invariant ∙ ap (λ names. fold stepped_words names (map (λ word. word.now) c.loop-word.yielded)) c.in_ok-names.ensures
    ∙ ap (fold stepped_words (path_base (texts c.args.folder.now) c.args.path.now)) all.0
