-- What stands on an index: it is the one of its table, and stays behind a table under edits.
use Rattle.decl_index.proofs.Common.{◌≡◌, ℕ, ◌<◌, ◌≤◌, true, false, cond, IfSome, List, length, All, [], ◌∷◌, Option, Some, None, Result, Ok, Err, OnOk, OnErr, refl, sym, ap, subst, ◌∙◌, arith, Contains, option_map, unwrap_or, All-cons, All-contains, All-nil, All-weaker, Unfolding, of_id, Place, IsGrounded, node_name, Entry, same_place, same_is, State, IsKnown, new_table, present, unfolding_at, change_number, IsDeclared, IsListing, IndexView, IsIndexOf, IsBehind, IsBehindAt}
use Rattle.hir_input.specs.Bodies.{without_bodies}
use Rattle.item_tree.specs.CrateView.{CrateView}
use Rattle.item_tree_db.specs.declared.edit.EditRefused.{EditRefused}
use Rattle.item_tree_db.specs.Again.{IsSetAgain}
use Rattle.item_tree_db.specs.Edits.{EditView, NamesPlaceOf, set}
use Rattle.item_tree_db.specs.History.{ChangesBodiesOnly, IsAfter, IsFooting}
use Rattle.item_tree_db.proofs.Histories.{late_after}
use Rattle.decl_index.proofs.Order.{alike}

-- the index of a table is behind it
pub behind_index : (s : State) (index : IndexView) → s.start ≤ s.number → IsIndexOf s index → IsBehind index s
behind_index s (number, entries) started h = subst (λ (o : Option ℕ). IsBehind (o, entries) s) (sym h.number) (record {
  started = started;
  reached = omega arith;
  unchanged = λ e k low. (λ c. All-contains (IsDeclared s) entries e h.listing.declared c, h.listing.whole e);
})

-- and stays so under edits
pub behind_after : (s u : State) (edits : List EditView) (index : IndexView) → IsAfter s edits u → IsFooting s u → IsBehind index s → IsBehind index u
behind_after s u edits (None, entries) after footing h = h
behind_after s u edits (Some n, entries) after footing h = record {
  started = let a = after.start in let b = h.started in omega arith;
  reached = let a = after.number in let b = h.reached in omega arith;
  unchanged = λ e k low.
      let known : IsKnown s e.krate = rw (← after.count) k in
      let reached = h.reached in
      let before : change_number u e.place e.krate.0 ≤ s.number = omega arith in
      let number = footing.numbers e.place e.krate.0 known before in
      let tree : unfolding_at u e.place e.krate.0 ≡ unfolding_at s e.place e.krate.0 = footing.trees e.place e.krate.0 known before in
      let was = h.unchanged e known (omega arith) in (
        λ c. let d = was.0 c in record { known = k; named = ap (λ (t : Unfolding). of_id t None node_name e.id) tree ∙ d.named },
        λ d. was.1 (record { known = known; named = ap (λ (t : Unfolding). of_id t None node_name e.id) (sym tree) ∙ d.named }),
      );
}

-- a new index is behind a new table by no places
pub behind_at_new : (crates : List CrateView) (skipped : List (List ℕ)) (start : ℕ) (places : List Place) → IsBehindAt (None, []) places (new_table crates skipped start)
behind_at_new crates skipped start places = record {
  behind = refl;
  known = All-nil (λ e. IsKnown (new_table crates skipped start) e.krate);
  late = λ c l. let number : c.2 ≡ start = l.number in let above = l.above_start in absurd (omega arith);
}

-- and that of a table is behind it by none
pub behind_at_index : (s : State) (index : IndexView) (places : List Place) → IsGrounded s → IsIndexOf s index → IsBehindAt index places s
behind_at_index s index places grounded h = record {
  behind = behind_index s index grounded.started h;
  known = All-weaker (IsDeclared s) (λ e. IsKnown s e.krate) (λ e d. d.known) index.1 h.listing.declared;
  late = λ c l.
      let bounded = grounded.bounded c.0 c.1.0 l.known in
      let number = l.number in
      let above : s.number < c.2 = subst (λ (n : Option ℕ). unwrap_or n 0 < c.2) h.number l.above in
      absurd (omega arith);
}

-- under edits that name places alone it is by those too
pub behind_at_after : (s u : State) (edits : List EditView) (index : IndexView) (old new : List Place) → IsAfter s edits u → IsFooting s u
    → ((place : Place) → Contains old place → Contains new place) → All (NamesPlaceOf new) edits → IsBehindAt index old s → IsBehindAt index new u
behind_at_after s u edits index old new after footing more named h = record {
  behind = behind_after s u edits index after footing h.behind;
  known = All-weaker (λ e. IsKnown s e.krate) (λ e. IsKnown u e.krate) (λ e k. rw after.count k) index.1 h.known;
  late = late_after s u edits (unwrap_or index.0 0) old new after more named h.late;
}

-- a place set again to the syntax that it has moves no change number
again_moves_none : (s u : State) (at : Place) → IsSetAgain s at u → (place : Place) (i : ℕ) → i < length s.crates → change_number u place i ≡ change_number s place i
again_moves_none s u at again place i p =
    let bodies = ChangesBodiesOnly s place i in
    again.bodies place i p (All-cons bodies (set at again.syntax) [] (record {
      syntax = elim (same_place at place) as (λ b. same_place at place ≡ b → IfSome (cond b (Some (Some again.syntax)) None) (λ left. option_map without_bodies left ≡ option_map without_bodies (present s place))) [
        | true ↦ λ t. ap (option_map without_bodies) (sym (ap (present s) (same_is place at t) ∙ again.had))
        | false ↦ λ t. tt
      ] refl;
      krate = tt;
    }) (All-nil bodies))

-- so then it is behind by the same places
pub behind_at_again : (s u : State) (at : Place) (index : IndexView) (places : List Place) → IsSetAgain s at u → IsFooting s u → IsBehindAt index places s → IsBehindAt index places u
behind_at_again s u at index places again footing h = record {
  behind = behind_after s u (set at again.syntax ∷ []) index again.after footing h.behind;
  known = All-weaker (λ e. IsKnown s e.krate) (λ e. IsKnown u e.krate) (λ e k. rw again.after.count k) index.1 h.known;
  late = λ c l.
      let known : IsKnown s c.1 = rw (← again.after.count) l.known in
      h.late c (record {
        known = known;
        number = l.number ∙ again_moves_none s u at again c.0 c.1.0 known;
        above = l.above;
        above_start = subst (λ (n : ℕ). n < c.2) again.after.start l.above_start;
      });
}

-- of an edit that is made or refused
pub behind_edit : (s u : State) (edit : EditView) (result : Result ℕ EditRefused) → OnOk result (IsAfter s (edit ∷ []) u) → OnErr result (u ≡ s) → IsFooting s u → (index : IndexView) → IsBehind index s → IsBehind index u
behind_edit s u edit (Ok number) ok err footing index h = behind_after s u (edit ∷ []) index ok footing h
behind_edit s u edit (Err refused) ok err footing index h = subst (IsBehind index) (sym err) h

-- ---- a table has one index

pub one_index : (s : State) (a b : IndexView) → IsIndexOf s a → IsIndexOf s b → a ≡ b
one_index s a b h k =
    let other = λ (c d : List Entry) (l : IsListing s c) (m : IsListing s d) (q : Entry) (i : Contains c q). m.whole q (All-contains (IsDeclared s) c q l.declared i) in
    let entries = alike a.1 b.1 h.listing.in_order k.listing.in_order (other a.1 b.1 h.listing k.listing) (other b.1 a.1 k.listing h.listing) in
    λ j. ((h.number ∙ sym k.number) j, entries j)
