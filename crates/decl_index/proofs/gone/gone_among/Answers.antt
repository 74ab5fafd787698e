use Rattle.decl_index.proofs.Common.{◌++◌, List, sym, ap, ◌∙◌, append_assoc, flat_map, Change, Entry, gone_at}
use Rattle.decl_index.proofs.gone.gone_among.Goals as goal

pub loop-place-preserved : goal.loop-place-preserved
loop-place-preserved c =
    let gone = λ (d : Change). gone_at c.args.sources.now c.args.trees.now d.0 d.1 in
    let left = flat_map gone c.next.new.self in
    ap (λ (xs : List Entry). xs ++ left) c.in_ok-push_tree.ensures ∙ append_assoc c.loop-place.gone.items (gone_at c.args.sources.now c.args.trees.now c.in-Some.place c.in-Some.krate) left
    ∙ ap (λ (cs : List Change). c.loop-place.gone.items ++ flat_map gone cs) (sym c.in-Some.ensures.steps)
    ∙ c.loop-place.invariant
