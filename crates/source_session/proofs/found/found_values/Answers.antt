use Rattle.std.proofs.Common.{◌++◌, All, List, map, sym, ap, subst, ◌∙◌, append_assoc, flat_map}
use Rattle.std.proofs.lemmas.List.Elements.{All-head, All-tail}
use Rattle.serde_json.specs.Data.{Data}
use Rattle.serde_json.specs.View.{view}
use Rattle.source_session.proofs.Common.{Entry, IsDeclared, found_one}
use Rattle.source_session.proofs.found.found_values.Goals as goal

pub push_found-requires-clause-declared : goal.push_found-requires-clause-declared
push_found-requires-clause-declared c =
    let known = IsDeclared c.args.session.now.session.table in
    All-head known c.in-Some.entry.now c.next.new.self (subst (All known) c.in-Some.ensures.steps c.loop-entry.invariant.declared)

pub loop-entry-preserved : goal.loop-entry-preserved
loop-entry-preserved c =
    let u = c.args.session.now.session in
    let known = IsDeclared u.table in
    let found = found_one u c.args.sought.now in
    let x = c.in-Some.entry.now in
    let left = c.next.new.self in
    let old = map view c.loop-entry.values.items in
    let steps = c.in-Some.ensures.steps in
    record {
      declared = All-tail known x left (subst (All known) steps c.loop-entry.invariant.declared);
      values = ap (λ (ds : List Data). ds ++ flat_map found left) c.in_ok-finder.ensures.found ∙ append_assoc old (found x) (flat_map found left)
          ∙ ap (λ (es : List Entry). old ++ flat_map found es) (sym steps)
          ∙ c.loop-entry.invariant.values;
      finder = c.in_ok-finder.ensures.finder;
    }
