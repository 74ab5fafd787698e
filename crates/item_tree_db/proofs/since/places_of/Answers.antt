use Rattle.std.proofs.Common.{Bool, ◌||◌, List, ap, sym, ◌∙◌}
use Rattle.std.specs.BTreeSet.{contains}
use Rattle.item_tree_db.proofs.Common.{Change, has_change, place_cmp}
use Rattle.item_tree_db.proofs.Changes.{none_more, places_more}
use Rattle.item_tree_db.proofs.since.places_of.Goals as goal

pub loop-place-preserved : goal.loop-place-preserved
loop-place-preserved c q =
    let met = contains place_cmp c.loop-place.places q in
    ap (λ (b : Bool). b || has_change c.next.new.self q) (c.in_ok-insert.ensures.updates.0 q)
    ∙ places_more met _ _
    ∙ ap (λ (cs : List Change). met || has_change cs q) (sym c.in-Some.ensures.steps)
    ∙ c.loop-place.invariant q

pub returns : goal.returns
returns c q =
    let met = contains place_cmp c.loop-place.places q in
    sym (none_more met)
    ∙ ap (λ (cs : List Change). met || has_change cs q) (sym c.in-None.ensures.steps.0)
    ∙ c.loop-place.invariant q
