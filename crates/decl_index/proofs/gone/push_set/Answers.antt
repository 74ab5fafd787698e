use Rattle.decl_index.proofs.Common.{◌++◌, List, sym, ap, ◌∙◌, append_assoc, flat_map, Entry, gone_by}
use Rattle.decl_index.proofs.gone.push_set.Goals as goal

pub loop-entry-preserved : goal.loop-entry-preserved
loop-entry-preserved c =
    let gone = gone_by c.args.sources.now in
    let left = flat_map gone c.next.new.self in
    ap (λ (xs : List Entry). xs ++ left) c.in_ok-push_gone.ensures ∙ append_assoc c.loop-entry.gone.items (gone c.in-Some.entry.now) left
    ∙ ap (λ (es : List Entry). c.loop-entry.gone.items ++ flat_map gone es) (sym c.in-Some.ensures.steps)
    ∙ c.loop-entry.invariant
