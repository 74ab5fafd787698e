use Rattle.std.proofs.Common.{ℕ, Some, refl, ap, subst, sym, unwrap_or}
use Rattle.decl_index.proofs.Common.{AreAsOf, AreChangedEntries, AreGone, IndexView, IsBehind, IsBehindAt, IsListing}
use Rattle.decl_index.proofs.Laws.{behind_at_index, behind_index}
use Rattle.decl_index.proofs.Refreshes.{refreshed}
use Rattle.decl_index.proofs.index.DeclIndex.renew.Goals as goal

new_listing : (c : goal.After-self-1) → IsListing c.args.sources.now c.take.new.self
new_listing c =
    let s = c.args.sources.now in
    let behind = subst (λ (index : IndexView). IsBehind index s) (sym c.self.view_is) c.requires.behind in
    let read = subst (λ (index : IndexView). AreChangedEntries s (unwrap_or index.0 0) c.args.fresh.items) (sym c.self.view_is) c.requires.read in
    let gone = subst (λ (index : IndexView). AreGone s index.1 c.args.gone.now) (sym c.self.view_is) c.requires.gone in
    refreshed s c.self.inside.number c.self.inside.entries c.args.fresh.items c.args.gone.now c.put.new.self c.take.new.self behind read gone c.in_ok-put.ensures.ok c.take.ensures.left c.take.ensures.sorted

pub invariant_of-self-2 : goal.invariant_of-self-2
invariant_of-self-2 c = (new_listing c).in_order

pub returns-clause-index : goal.returns-clause-index
returns-clause-index c = record { number = ap Some c.number-number.ensures; listing = new_listing c }

pub returns-clause-behind : goal.returns-clause-behind
returns-clause-behind c =
    let s = c.args.sources.now in
    subst (λ (n : ℕ). AreAsOf n c.take.new.self s) (sym c.number-number.ensures) (behind_index s (Some s.number, c.take.new.self) c.requires.read.grounded.started (record { number = refl; listing = new_listing c }))

pub returns-clause-at : goal.returns-clause-at
returns-clause-at c =
    let s = c.args.sources.now in
    let entries = c.take.new.self in
    λ named. subst (λ (n : ℕ). IsBehindAt (Some n, entries) named s) (sym c.number-number.ensures) (behind_at_index s (Some s.number, entries) named c.requires.read.grounded (record { number = refl; listing = new_listing c }))
