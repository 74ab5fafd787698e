use Rattle.std.proofs.Common.{ℕ, ◌≤◌, ap, max, subst, sym, ◌∙◌}
use Rattle.item_tree_db.proofs.Common.{length-map, crate_view, IsGrounded, IsSince, State, crate_limit, table_from, all_changes, late_changes, over_all}
use Rattle.item_tree_db.proofs.Changes.{since_is, few_rows}
use Rattle.item_tree_db.proofs.Steps.{grounded}
use Rattle.item_tree_db.proofs.sources.Sources.changed_since.Goals as goal

pub changes_above-requires : goal.changes_above-requires
changes_above-requires c = let i = c.self.inside in few_rows (table_from i.crates.items i.skipped.items i.start i.number i.places) c.self.invariant.sound (subst (λ (m : ℕ). m ≤ crate_limit) (sym (length-map i.crates.items crate_view)) c.self.invariant.few)

pub returns-clause-since : goal.returns-clause-since
returns-clause-since c =
    let i = c.self.inside in
    let is = c.changes_above.ensures.value ∙ ap (λ (m : ℕ). late_changes m (all_changes (over_all i.places))) c.max.ensures in
    let since = since_is (table_from i.crates.items i.skipped.items i.start i.number i.places) c.self.invariant.sound c.args.n c.changes_above.ensures.in_order in
    let changes = late_changes (max c.args.n i.start) (all_changes (over_all i.places)) in
    subst (IsSince c.args.self.now c.args.n) (sym is) (subst (λ (s : State). IsSince s c.args.n changes) c.self.view_is since)

pub returns-clause-grounded : goal.returns-clause-grounded
returns-clause-grounded c = let i = c.self.inside in subst IsGrounded c.self.view_is (grounded (table_from i.crates.items i.skipped.items i.start i.number i.places) c.self.invariant.sound)
