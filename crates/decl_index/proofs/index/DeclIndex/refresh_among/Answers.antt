use Rattle.decl_index.proofs.Common.{rules, ◌≡◌, ℕ, [], List, Some, refl, ap, subst, sym, arith, Contains, unwrap_or, IndexView, IsBehindAt, IsListing, Change, HoldLate, IsLate, IsSince}
use Rattle.item_tree_db.proofs.Changes.{since_among}
use Rattle.decl_index.proofs.Laws.{behind_at_index}
use Rattle.decl_index.proofs.Refreshes.{gone_late, unmoved}
use Rattle.decl_index.proofs.index.DeclIndex.refresh_among.Goals as goal

same_listing : (c : goal.After-self-1) → IsListing c.args.sources.now c.self.inside.entries
same_listing c =
    let s = c.args.sources.now in
    let i = c.self.inside in
    let behind = subst (λ (index : IndexView). IsBehindAt index c.args.places.now.keys s) (sym c.self.view_is) c.requires in
    let ended : c.changed_among.result ≡ [] = search rules in
    let none = λ (d : Change) (l : IsLate s (unwrap_or i.number 0) d).
    let late = subst (λ (n : ℕ). IsLate s n d) (sym c.unwrap_or-since.ensures) l in
    let there : Contains [] d = subst (λ (cs : List Change). Contains cs d) ended (c.changed_among.ensures.among.whole d late (behind.late d l)) in
    absurd (omega (arith, there.1)) in
    unmoved s i.entries i.number c.args.places.now.keys behind c.changed_among.ensures.grounded none c.self.invariant

pub returns-then-is_none-clause-index : goal.returns-then-is_none-clause-index
returns-then-is_none-clause-index c = record { number = ap Some c.number.ensures; listing = same_listing c }

pub returns-then-is_none-clause-at : goal.returns-then-is_none-clause-at
returns-then-is_none-clause-at c =
    let s = c.args.sources.now in
    let entries = c.self.inside.entries in
    λ named. subst (λ (n : ℕ). IsBehindAt (Some n, entries) named s) (sym c.number.ensures) (behind_at_index s (Some s.number, entries) named c.changed_among.ensures.grounded (record { number = refl; listing = same_listing c }))

pub read_late-requires-clause-since : goal.read_late-requires-clause-since
read_late-requires-clause-since c =
    let s = c.args.sources.now in
    let keys = c.args.places.now.keys in
    let behind = subst (λ (index : IndexView). IsBehindAt index keys s) (sym c.self.view_is) c.requires in
    since_among s c.unwrap_or-since.result keys c.changed_among-changes.result (subst (λ (n : ℕ). HoldLate s n keys) (sym c.unwrap_or-since.ensures) behind.late) c.changed_among-changes.ensures.among

pub gone_among-requires : goal.gone_among-requires
gone_among-requires c =
    let s = c.args.sources.now in
    let i = c.self.inside in
    let keys = c.args.places.now.keys in
    let behind = subst (λ (index : IndexView). IsBehindAt index keys s) (sym c.self.view_is) c.requires in
    let since = since_among s c.unwrap_or-since.result keys c.changed_among-again.result (subst (λ (n : ℕ). HoldLate s n keys) (sym c.unwrap_or-since.ensures) behind.late) c.changed_among-again.ensures.among in
    gone_late s i.entries i.number keys c.changed_among-again.result behind (subst (λ (n : ℕ). IsSince s n c.changed_among-again.result) c.unwrap_or-since.ensures since)
