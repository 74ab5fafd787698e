use Rattle.decl_index.proofs.Common.{◌++◌, All, List, sym, ap, subst, ◌∙◌, append_assoc, All-head, All-tail, Change, IsKnown, Entry, entries_at, entries_of}
use Rattle.decl_index.proofs.index.read_changed.Goals as goal

pub read_tree-requires : goal.read_tree-requires
read_tree-requires c =
    let known = λ (d : Change). IsKnown c.args.sources.now d.1 in
    All-head known (c.in-Some.place, c.in-Some.krate, c.in-Some.field-0-2) c.next.new.self (subst (All known) c.in-Some.ensures.steps c.loop-place.invariant.known)

pub loop-place-preserved : goal.loop-place-preserved
loop-place-preserved c =
    let s = c.args.sources.now in
    let left = entries_of s c.next.new.self in
    let known = λ (d : Change). IsKnown s d.1 in
    record {
      known = All-tail known _ c.next.new.self (subst (All known) c.in-Some.ensures.steps c.loop-place.invariant.known);
      read = ap (λ (xs : List Entry). xs ++ left) c.in_ok-read_tree.ensures ∙ append_assoc c.loop-place.fresh.items (entries_at s c.in-Some.place c.in-Some.krate) left
          ∙ ap (λ (cs : List Change). c.loop-place.fresh.items ++ entries_of s cs) (sym c.in-Some.ensures.steps)
          ∙ c.loop-place.invariant.read;
    }
