-- Different names have different numbers, and each name of a path has one; items of numbers.
use denote.Enum.Bare.{same_true}
use Rattle.std.proofs.Common.{rules, unwrap_or, ◌≡◌, ◌+◌, ◌<◌, ◌||◌, ℕ, zero, suc, Bool, true, false, not, cond, List, [], ◌∷◌, length, get_or, Some, None, slice_get, refl, sym, ap, subst, ◌∙◌, arith}
use Rattle.std.specs.{Borrow.Bor, List.list_any, List.flat_map, List.position, List.position_or_len, List.Contains, Bool.Decides, Str.bytes_eq}
use Rattle.std.proofs.lemmas.Bool.{eqb-true, false≢true, lt-ltb}
use Rattle.std.proofs.lemmas.List.Folds.{list_any_at, list_any-append}
use Rattle.std.proofs.lemmas.List.Quantifiers.{position-Some}
use Rattle.std.proofs.lemmas.Option.{none-some, same_Some, slice_get-get_or}
use Rattle.std.proofs.lemmas.Slice.Eq.{bytes_eq-Decides}
use Rattle.hir_input.specs.contracts.ids.AstIdKind.{the_type}
use Rattle.hir_input.specs.contracts.ids.AstIdKindPartialEq.TheImpl as kinds
use Rattle.hir_input.specs.declared.ids.AstIdKind.{AstIdKind}
use Rattle.def_map.specs.declared.rows.ItemKey.{ItemKey}
use Rattle.def_map.specs.declared.targets.Target.{Target}
use Rattle.def_map.specs.declared.targets.Target.TheVariants.{Module, Item, Unseen}
use Rattle.def_map.specs.Targets.{target_eq}
use Rattle.def_map.specs.Crates.{Crate, PathImport}
use Rattle.def_map.specs.Facts.{IsImport}
use Rattle.def_map.specs.Numbers.{IsNumbering}
use Rattle.def_map.specs.Numbering.{number_in, has_number, is_item_numbered, item_eq, item_number, is_name_asked, named_items, asked_items}
use Rattle.def_map.proofs.Deciding.{both_of, both, itself}

or_either : (a b : Bool) → b ≡ true → (a || b) ≡ true
or_either true b e = refl
or_either false b e = e

or_first : (a b : Bool) → a ≡ true → (a || b) ≡ true
or_first true b e = refl
or_first false b e = absurd (false≢true e)

-- what is in one of the lists is in all of them
any_joined : {X Y : Type 0} (test : Y → Bool) (f : X → List Y) (xs : List X) (i : ℕ) (x : X) → slice_get xs i ≡ Some x → list_any test (f x) ≡ true → list_any test (flat_map f xs) ≡ true
any_joined test f [] i x is e = absurd (none-some x is)
any_joined test f (y ∷ ys) zero x is e = list_any-append test (f y) (flat_map f ys) ∙ or_first _ _ (subst (λ z. list_any test (f z) ≡ true) (sym (same_Some y x is)) e)
any_joined test f (y ∷ ys) (suc i) x is e = list_any-append test (f y) (flat_map f ys) ∙ or_either _ _ (any_joined test f ys i x is e)

module _ {K : Type 0} (test : K → Bool) where
  place_within : (xs : List K) → list_any test xs ≡ true → position_or_len test xs < length xs
  place_within [] h = absurd (false≢true h)
  place_within (x ∷ xs) h = by (test x) refl (place_within xs)
    where
      by : (b : Bool) → test x ≡ b → (list_any test xs ≡ true → position_or_len test xs < length xs) → position_or_len test (x ∷ xs) < length (x ∷ xs)
      by true e more = let at : position_or_len test (x ∷ xs) ≡ 0 = ap (λ b. cond (not b) (1 + position_or_len test xs) 0) e in omega arith
      by false e more =
          let at : position_or_len test (x ∷ xs) ≡ 1 + position_or_len test xs = ap (λ b. cond (not b) (1 + position_or_len test xs) 0) e in
          omega (arith, more (sym (ap (λ b. b || list_any test xs) e) ∙ h))

  pub has_place : (xs : List K) → list_any test xs ≡ true → position test xs ≡ Some (position_or_len test xs)
  has_place xs h = ap (λ b. cond b (Some (position_or_len test xs)) None) (lt-ltb _ _ (place_within xs h))

pub name_asked : {I : Type 0} (c : Crate (List ℕ) I) (i : ℕ) (u : PathImport (List ℕ)) (n : List ℕ) → IsImport c i u → Contains u.names n → is_name_asked c n ≡ true
name_asked c i u n is has = any_joined (bytes_eq n) (λ (u : PathImport (List ℕ)). u.names) c.imports i u is (list_any_at (bytes_eq n) u.names has.0 n has.1 ((bytes_eq-Decides n _).1 (sym has.2)))

module _ (symbols : List (Bor (List ℕ))) (items : List ItemKey) (c : Crate (List ℕ) ItemKey) (known : (name : List ℕ) → has_number symbols name ≡ is_name_asked c name) where
  named_at : (a : List ℕ) (n : ℕ) → number_in symbols a ≡ Some n → a ≡ (get_or symbols n (record { ref_ptr = (0, 0); now = [] })).now
  named_at a n e = (bytes_eq-Decides a _).0 (position-Some (λ (s : Bor (List ℕ)). bytes_eq a s.now) symbols n (record { ref_ptr = (0, 0); now = [] }) e).1

  pub is_numbering : IsNumbering (number_in symbols) (item_number items) c
  is_numbering = record {
    different = λ a b n e f. named_at a n e ∙ sym (named_at b n f);
    asked = λ i u n is has. (_, has_place (λ (s : Bor (List ℕ)). bytes_eq n s.now) symbols (known n ∙ name_asked c i u n is has));
  }

  pub same_items : named_items (has_number symbols) c ≡ asked_items c
  same_items = λ i. named_items (λ name. known name i) c

-- ---- items of numbers

same_kind : (a b : AstIdKind) → kinds.ghosts.eq a b ≡ true → a ≡ b
same_kind a b h = same_true the_type (search rules) a b h

kind_itself : (a : AstIdKind) → kinds.ghosts.eq a a ≡ true
kind_itself a = by a
  where
    by : (a : AstIdKind) → kinds.ghosts.eq a a ≡ true
    by a = search rules

item_same : (a b : ItemKey) → item_eq a b ≡ true → a ≡ b
item_same a b h =
    let first = both_of _ _ h in let second = both_of _ _ first.1 in let third = both_of _ _ second.1 in
    λ i. record {
      at = eqb-true a.at b.at first.0 i;
      id = record { kind = same_kind a.id.kind b.id.kind second.0 i; hash = eqb-true a.id.hash b.id.hash third.0 i; number = eqb-true a.id.number b.id.number third.1 i };
    }

item_itself : (a : ItemKey) → item_eq a a ≡ true
item_itself a = both _ _ (itself a.at) (both _ _ (kind_itself a.id.kind) (both _ _ (itself a.id.hash) (itself a.id.number)))

pub item_decides : (a b : ItemKey) → Decides (item_eq a b) (a ≡ b)
item_decides a b = (item_same a b, λ e. subst (λ x. item_eq a x ≡ true) e (item_itself a))

target_same : (a b : Target) → target_eq a b ≡ true → a ≡ b
target_same (Module m) (Module n) h = λ i. Module (record { 0 = eqb-true m.0 n.0 h i })
target_same (Item m a) (Item n b) h =
    let first = both_of _ _ h in let second = both_of _ _ first.1 in let third = both_of _ _ second.1 in
    λ i. Item (record { 0 = eqb-true m.0 n.0 first.0 i }) (record { kind = same_kind a.kind b.kind second.0 i; hash = eqb-true a.hash b.hash third.0 i; number = eqb-true a.number b.number third.1 i })
target_same Unseen Unseen h = refl
target_same _ _ h = absurd (false≢true h)

target_itself : (a : Target) → target_eq a a ≡ true
target_itself (Module m) = itself m.0
target_itself (Item m a) = both _ _ (itself m.0) (both _ _ (kind_itself a.kind) (both _ _ (itself a.hash) (itself a.number)))
target_itself Unseen = refl

pub target_decides : (a b : Target) → Decides (target_eq a b) (a ≡ b)
target_decides a b = (target_same a b, λ e. subst (λ x. target_eq a x ≡ true) e (target_itself a))

pub item_of_number : (items : List ItemKey) (number : ℕ) (key : ItemKey) → is_item_numbered items key ≡ true → number ≡ item_number items key → slice_get items number ≡ Some key
item_of_number items number key has is =
    let place = position_or_len (item_eq key) items in
    let at = has_place (item_eq key) items has in
    let found = position-Some (item_eq key) items place key at in
    ap (slice_get items) (is ∙ ap (λ o. unwrap_or o 0) at) ∙ slice_get-get_or items place key found.0 ∙ ap Some (sym (item_same key _ found.1))
