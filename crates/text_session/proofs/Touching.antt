-- The places that edits touch.
use Rattle.std.proofs.Common.{◌≡◌, ℕ, Bool, true, false, cond, List, [], ◌∷◌, ◌++◌, Some, None, Contains, take, refl, ap, ◌∙◌, arith, IsTrue}
use Rattle.std.specs.BTreeSet.{BTreeSet, Updates, contains}
use Rattle.std.specs.BTreeMap.{is_at}
use Rattle.text_session.proofs.Common.{is_eq, All-cons, All-nil, All-push, All-take, All-weaker, Place, IsSetAgain, EditView, NamesPlaceOf, set, remove, set_cfg, IsAfter, IsFooting, State, IndexView, IsBehind, AreTouched, IsBehindBy, Touched}
use Rattle.std.proofs.lemmas.Map.Lookups.{CmpEqualImpliesEq}
use Rattle.std.proofs.lemmas.Map.Views.{btree_set_contains_iff}
use Rattle.item_tree_db.specs.PlaceOrder.{place_cmp, place_cmp_total}
use Rattle.item_tree_db.proofs.Places.{equal_of}
use Rattle.decl_index.proofs.Laws.{behind_after, behind_at_after, behind_at_again}

-- ---- one more place

exact_places : CmpEqualImpliesEq place_cmp
exact_places p q h = equal_of p q (ap is_eq h)

has : (s : BTreeSet Place) (p : Place) → IsTrue (contains place_cmp s p) → Contains s.keys p
has s p h = (btree_set_contains_iff place_cmp_total exact_places s p).0 h

had : (s : BTreeSet Place) (p : Place) → Contains s.keys p → IsTrue (contains place_cmp s p)
had s p h = (btree_set_contains_iff place_cmp_total exact_places s p).1 h

or_true : (b c : Bool) → c ≡ true → cond b true c ≡ true
or_true true c e = refl
or_true false c e = e

-- a place, where no other is lost
pub touched_one : (old new : BTreeSet Place) (place : Place) (e : EditView) → Updates place_cmp old new place true → ((places : List Place) → Contains places place → NamesPlaceOf places e) → AreTouched (e ∷ []) (Some old.keys) (Some new.keys)
touched_one old new place e updates names = (
  λ p h. has new p (updates.0 p ∙ or_true (is_at (place_cmp place) p) (contains place_cmp old p) (had old p h)),
  All-cons (NamesPlaceOf new.keys) e [] (names new.keys (has new place updates.1)) (All-nil (NamesPlaceOf new.keys)),
)

-- ---- more edits

pub touched_none : (t : Touched) → AreTouched [] t t
touched_none None = tt
touched_none (Some places) = (λ p h. h, All-nil (NamesPlaceOf places))

names_more : (old new : List Place) → ((p : Place) → Contains old p → Contains new p) → (e : EditView) → NamesPlaceOf old e → NamesPlaceOf new e
names_more old new more (set place syntax) h = more place h
names_more old new more (remove place) h = more place h
names_more old new more (set_cfg k options) h = absurd h

pub touched_more : (es : List EditView) (e : EditView) (old mid new : Touched) → AreTouched es old mid → AreTouched (e ∷ []) mid new → AreTouched (es ++ e ∷ []) old new
touched_more es e old mid None h k = tt
touched_more es e old None (Some new) h k = absurd k
touched_more es e None (Some mid) (Some new) h k = absurd h
touched_more es e (Some old) (Some mid) (Some new) h k = (
  λ p c. k.0 p (h.0 p c),
  All-push (NamesPlaceOf new) es e (All-weaker (NamesPlaceOf mid) (NamesPlaceOf new) (names_more mid new k.0) es h.1) (k.1 0 e (omega arith)),
)

-- the first of them
pub touched_first : (n : ℕ) (es : List EditView) (old new : Touched) → AreTouched es old new → AreTouched (take n es) old new
touched_first n es old None h = tt
touched_first n es None (Some new) h = absurd h
touched_first n es (Some old) (Some new) h = (h.0, All-take (NamesPlaceOf new) n es h.1)

-- ---- an index

pub behind_by_after : (s u : State) (es : List EditView) (index : IndexView) (old new : Touched) → IsAfter s es u → IsFooting s u → AreTouched es old new → IsBehindBy index old s → IsBehindBy index new u
behind_by_after s u es index None None after footing touched h = behind_after s u es index after footing h
behind_by_after s u es index (Some old) None after footing touched h = behind_after s u es index after footing h.behind
behind_by_after s u es index None (Some new) after footing touched h = absurd touched
behind_by_after s u es index (Some old) (Some new) after footing touched h = behind_at_after s u es index old new after footing touched.0 touched.1 h

pub behind_still : (index : IndexView) (touched : Touched) (s : State) → IsBehindBy index touched s → IsBehind index s
behind_still index None s h = h
behind_still index (Some places) s h = h.behind

-- a place that is set again touches none
pub behind_by_again : (s u : State) (at : Place) (index : IndexView) (places : Touched) → IsSetAgain s at u → IsFooting s u → IsBehindBy index places s → IsBehindBy index places u
behind_by_again s u at index None again footing h = behind_after s u (set at again.syntax ∷ []) index again.after footing h
behind_by_again s u at index (Some places) again footing h = behind_at_again s u at index places again footing h
