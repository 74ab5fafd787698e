use Rattle.std.proofs.Common.{◌++◌, All, List, map, sym, ap, subst, ◌∙◌, append_assoc, flat_map}
use Rattle.std.proofs.lemmas.List.Elements.{All-head, All-tail}
use Rattle.serde_json.specs.Data.{Data}
use Rattle.serde_json.specs.View.{view}
use Rattle.item_tree_db.specs.Since.{Change}
use Rattle.item_tree_db.specs.State.{IsKnown}
use Rattle.source_session.specs.Searches.{change_matches, place_matches}
use Rattle.source_session.proofs.searched.matches.Goals as goal

pub push_place_matches-requires : goal.push_place_matches-requires
push_place_matches-requires c =
    let known = λ (x : Change). IsKnown c.args.session.now.session.table x.1 in
    All-head known (c.in-Some.place, c.in-Some.krate, c.in-Some.field-0-2) c.next.new.self (subst (All known) c.in-Some.ensures.steps c.loop-place.invariant.known)

pub loop-place-preserved : goal.loop-place-preserved
loop-place-preserved c =
    let u = c.args.session.now.session in
    let q = c.args.searched.now in
    let left = flat_map (change_matches u q) c.next.new.self in
    let old = map view c.loop-place.values.items in
    let known = λ (x : Change). IsKnown u.table x.1 in
    record {
      known = All-tail known _ c.next.new.self (subst (All known) c.in-Some.ensures.steps c.loop-place.invariant.known);
      values = ap (λ (ds : List Data). ds ++ left) c.in_ok-push_place_matches.ensures ∙ append_assoc old (place_matches u q c.in-Some.place c.in-Some.krate) left
          ∙ ap (λ (cs : List Change). old ++ flat_map (change_matches u q) cs) (sym c.in-Some.ensures.steps)
          ∙ c.loop-place.invariant.values;
    }
