-- The order of entries.
use Rattle.std.specs.Prelude.{◌≡◌, ℕ, List}
use Rattle.std.specs.declared.cmp.Ordering.{Ordering}
use Rattle.std.specs.Cmp.{IsTotalOrder, IsPartialOrder, partial_order_from_own_ties, partial_order_from_total, nat_cmp_total, on_total, then_total}
use Rattle.std.specs.Cmp.Lexicographic.{slice_cmp, nat_list_cmp_total, texts_ties}
use Rattle.std.specs.Ordering.{as_partial_cmp, eq_by_cmp, nat_cmp, on, then_cmp}
use Rattle.std.proofs.Common.{arith}
use Rattle.std.proofs.lemmas.Bool.Decides.{nat_tests}
use Rattle.item_tree.specs.IdOrder.{id_cmp, id_cmp_total, id_cmp_ties}
use Rattle.item_tree_db.specs.PlaceOrder.{place_cmp, place_cmp_total, place_cmp_ties}
use Rattle.decl_index.specs.declared.entry.Entry.{Entry}
use Rattle.decl_index.specs.contracts.entry.EntryPartialEq.TheImpl as entry

-- by the bytes
abbrev pub name_cmp : List ℕ → List ℕ → Ordering
name_cmp = slice_cmp nat_cmp

-- by the names, then the places, the crates and the ids
abbrev pub entry_cmp : Entry → Entry → Ordering
entry_cmp = then_cmp (then_cmp (then_cmp (on (λ e. e.name) name_cmp) (on (λ e. e.place) place_cmp)) (on (λ e. e.krate.0) nat_cmp)) (on (λ e. e.id) id_cmp)

-- the order is total
pub entry_cmp_total : IsTotalOrder entry_cmp
entry_cmp_total = then_total (then_total (then_total (on_total (λ e. e.name) nat_list_cmp_total) (on_total (λ e. e.place) place_cmp_total)) (on_total (λ e. e.krate.0) nat_cmp_total)) (on_total (λ e. e.id) id_cmp_total)

-- equal in the order is equal
pub entry_cmp_ties : (a b : Entry) → entry.ghosts.eq a b ≡ eq_by_cmp entry_cmp a b
entry_cmp_ties a b = grind (arith, nat_tests, texts_ties a.name b.name, place_cmp_ties a.place b.place, id_cmp_ties a.id b.id)

-- the partial order is the same
pub entry_cmp_partial : IsPartialOrder entry.ghosts.eq (as_partial_cmp entry_cmp)
entry_cmp_partial = partial_order_from_own_ties (partial_order_from_total entry_cmp_total) entry_cmp_ties
