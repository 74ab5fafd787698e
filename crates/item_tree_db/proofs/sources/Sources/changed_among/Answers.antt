use Rattle.std.proofs.Common.{ℕ, ◌≤◌, List, max, subst, ap, sym, ◌∙◌}
use Rattle.item_tree_db.proofs.Common.{length-map, crate_view, Change, IsGrounded, IsSinceAmong, State, crate_limit, table_from, all_changes, late_changes, walk_over}
use Rattle.item_tree_db.proofs.Changes.{among_is, few_rows}
use Rattle.item_tree_db.proofs.Steps.{grounded}
use Rattle.item_tree_db.proofs.sources.Sources.changed_among.Goals as goal

pub late_among-requires : goal.late_among-requires
late_among-requires c = let i = c.self.inside in few_rows (table_from i.crates.items i.skipped.items i.start i.number i.places) c.self.invariant.sound (subst (λ (m : ℕ). m ≤ crate_limit) (sym (length-map i.crates.items crate_view)) c.self.invariant.few)

pub returns-clause-among : goal.returns-clause-among
returns-clause-among c =
    let i = c.self.inside in
    let is = c.late_among.ensures.value ∙ ap (λ (m : ℕ). late_changes m (all_changes (walk_over i.places c.args.places.now.keys))) c.max.ensures in
    let among = among_is (table_from i.crates.items i.skipped.items i.start i.number i.places) c.self.invariant.sound c.args.n c.args.places.now.keys c.late_among.ensures.in_order in
    subst (λ (l : List Change). IsSinceAmong c.args.self.now c.args.n c.args.places.now.keys l) (sym is) (subst (λ (s : State). IsSinceAmong s c.args.n c.args.places.now.keys (late_changes (max c.args.n i.start) (all_changes (walk_over i.places c.args.places.now.keys)))) c.self.view_is among)

pub returns-clause-grounded : goal.returns-clause-grounded
returns-clause-grounded c = let i = c.self.inside in subst IsGrounded c.self.view_is (grounded (table_from i.crates.items i.skipped.items i.start i.number i.places) c.self.invariant.sound)
