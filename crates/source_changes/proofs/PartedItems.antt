-- The items of a text before a function with braces, and those behind it.
use Rattle.std.specs.List.{list_any}
use Rattle.std.proofs.Common.{◌≡◌, ◌≤◌, ◌<◌, ◌+◌, ◌++◌, ◌⊎◌, inl, inr, ℕ, Bool, true, false, Some, List, [], ◌∷◌, refl, sym, ap, ◌∙◌, subst, arith, append_assoc, ⊎_elim}
use Rattle.hir_input.specs.Syntax.{ItemView, ItemViews, no_items, listed_module, listed_extern_block}
use Rattle.hir_input.specs.declared.ids.AstIdKind.{AstIdKind}
use Rattle.hir_input.specs.declared.ids.AstIdKind.TheVariants as kind
use Rattle.hir_input.specs.declared.ids.FileAstId.{FileAstId}
use Rattle.rust_paths.specs.declared.names.TextRange.{TextRange}
use Rattle.rust_items.specs.declared.source_file.ItemPlace.{ItemPlace}
use Rattle.rust_items.specs.Places.{Telling, id_of, items_held, IsBodyIn, IsPlace, ArePlaces, nothing, placed}
use Rattle.rust_lexer.proofs.Cases.{when}

-- ---- where items stand

-- an item from a byte place on and up to another, with its braces in it
pub record Stands (from to : ℕ) (p : ItemPlace) : Type 0 where
  pub begins : from ≤ p.range.start
  pub some : p.range.start < p.range.end
  pub ends : p.range.end ≤ to
  pub body : IsBodyIn p.range p.body

abbrev pub AllStand : ℕ → ℕ → List ItemPlace → Type 0
AllStand from to [] = Unit {0}
AllStand from to (p ∷ ps) = Stands from to p × AllStand from to ps

-- items of these kinds may hold others
abbrev pub may_hold : AstIdKind → Bool
may_hold kind.Module = true
may_hold kind.ExternBlock = true
may_hold _ = false

-- each ends before a place, or may hold others
abbrev pub AreBefore : ℕ → List ItemPlace → Type 0
AreBefore at [] = Unit {0}
AreBefore at (p ∷ ps) = (Stands 0 at p ⊎ (may_hold p.id.kind ≡ true)) × AreBefore at ps

stands_on : (low high from to : ℕ) (p : ItemPlace) → low ≤ from → to ≤ high → Stands from to p → Stands low high p
stands_on low high from to p a b s = record { begins = omega (arith, s.begins); some = s.some; ends = omega (arith, s.ends); body = s.body }

all_on : (low high from to : ℕ) (ps : List ItemPlace) → low ≤ from → to ≤ high → AllStand from to ps → AllStand low high ps
all_on low high from to [] a b s = tt
all_on low high from to (p ∷ ps) a b s = (stands_on low high from to p a b s.0, all_on low high from to ps a b s.1)

all_append : (from to : ℕ) (ps qs : List ItemPlace) → AllStand from to ps → AllStand from to qs → AllStand from to (ps ++ qs)
all_append from to [] qs s t = t
all_append from to (p ∷ ps) qs s t = (s.0, all_append from to ps qs s.1 t)

all_before : (from to : ℕ) (ps qs : List ItemPlace) → AllStand from to ps → AreBefore to qs → AreBefore to (ps ++ qs)
all_before from to [] qs s t = t
all_before from to (p ∷ ps) qs s t = (inl (stands_on 0 to from to p (omega arith) (omega arith) s.0), all_before from to ps qs s.1 t)

place_stands : {N : Telling} {from to : ℕ} {i : ItemView} {p : ItemPlace} → IsPlace N from to i p → Stands from to p
place_stands place = record { begins = place.begins; some = place.some; ends = place.ends; body = place.body }

-- items, and what comes behind them
record Listed (from to : ℕ) (ps rest : List ItemPlace) : Type 0 where
  list : List ItemPlace
  is : ps ≡ list ++ rest
  stand : AllStand from to list

listed : {N : Telling} {from to : ℕ} {is : ItemViews} {ps rest : List ItemPlace} → ArePlaces N from to is ps rest → Listed from to ps rest
listed nothing = record { list = []; is = refl; stand = tt }
listed {from = from} {to = to} {rest = rest} (placed {p = p} place inside behind) =
    let held = listed inside in
    let later = listed behind in
    record {
      list = p ∷ (held.list ++ later.list);
      is = ap (λ l. p ∷ l) (held.is ∙ ap (λ l. held.list ++ l) later.is ∙ sym (append_assoc held.list later.list rest));
      stand = (place_stands place, all_append from to held.list later.list (all_on from to (p.range.start + 1) p.range.end held.list (omega (arith, place.begins)) place.ends held.stand) (all_on from to p.range.end to later.list (omega (arith, place.begins, place.some)) (omega arith) later.stand));
    }

-- ---- items that hold none

pub held_none : (i : ItemView) (id : FileAstId) → id_of i ≡ Some id → may_hold id.kind ≡ false → items_held i ≡ no_items
held_none (listed_module n semicolon is) id e h = absurd cc
held_none (listed_extern_block n is) id e h = absurd cc
held_none _ id e h = refl

pub none_placed : {N : Telling} {from to : ℕ} {ps rest : List ItemPlace} → ArePlaces N from to no_items ps rest → ps ≡ rest
none_placed nothing = refl

-- ---- a function with braces

module _ (body : TextRange) (has : ItemPlace → Bool) (is_fn : (p : ItemPlace) → has p ≡ true → may_hold p.id.kind ≡ false) (is_body : (p : ItemPlace) → has p ≡ true → p.body ≡ Some body) where
  -- the items before the function, the function, and the items behind it
  pub record Parted (from to : ℕ) (ps rest : List ItemPlace) : Type 0 where
    pub before : List ItemPlace
    pub one : ItemPlace
    pub behind : List ItemPlace
    pub is : ps ≡ before ++ one ∷ (behind ++ rest)
    pub are_before : AreBefore body.start before
    pub stands : Stands from to one
    pub has_it : has one ≡ true
    pub are_behind : AllStand body.end to behind

  -- it ends with the braces
  ends : (p : ItemPlace) → has p ≡ true → IsBodyIn p.range p.body → (p.range.start ≤ body.start) × (body.end ≡ p.range.end)
  ends p e b = let here : IsBodyIn p.range (Some body) = subst (IsBodyIn p.range) (is_body p e) b in (here.0, here.2)

  module _ {N : Telling} {from to : ℕ} {i : ItemView} {is : ItemViews} {p : ItemPlace} {ps mid rest : List ItemPlace} (place : IsPlace N from to i p) (inside : ArePlaces N (p.range.start + 1) p.range.end (items_held i) ps mid)
      (behind : ArePlaces N p.range.end to is mid rest) where
    leaf : may_hold p.id.kind ≡ false → ps ≡ mid
    leaf h = none_placed (subst (λ l. ArePlaces N (p.range.start + 1) p.range.end l ps mid) (held_none i p.id place.id h) inside)

    this : has p ≡ true → Parted from to (p ∷ ps) rest
    this e =
        let more = listed behind in
        let end = ends p e place.body in
        record {
          before = [];
          one = p;
          behind = more.list;
          is = ap (λ l. p ∷ l) (leaf (is_fn p e) ∙ more.is);
          are_before = tt;
          stands = place_stands place;
          has_it = e;
          are_behind = all_on body.end to p.range.end to more.list (omega (arith, end.1)) (omega arith) more.stand;
        }

    held : may_hold p.id.kind ≡ true → Parted (p.range.start + 1) p.range.end ps mid → Parted from to (p ∷ ps) rest
    held h x =
        let more = listed behind in
        let end = ends x.one x.has_it x.stands.body in
        record {
          before = p ∷ x.before;
          one = x.one;
          behind = x.behind ++ more.list;
          is = ap (λ l. p ∷ l) (x.is ∙ ap (λ l. x.before ++ x.one ∷ l) (ap (λ l. x.behind ++ l) more.is ∙ sym (append_assoc x.behind more.list rest)));
          are_before = (inr h, x.are_before);
          stands = stands_on from to (p.range.start + 1) p.range.end x.one (omega (arith, place.begins)) place.ends x.stands;
          has_it = x.has_it;
          are_behind = all_append body.end to x.behind more.list (all_on body.end to body.end p.range.end x.behind (omega arith) place.ends x.are_behind) (all_on body.end to p.range.end to more.list (omega (arith, end.1, x.stands.ends)) (omega arith) more.stand);
        }

    later : Parted p.range.end to mid rest → Parted from to (p ∷ ps) rest
    later x =
        let more = listed inside in
        let end = ends x.one x.has_it x.stands.body in
        let low : p.range.end ≤ body.start = omega (arith, end.0, x.stands.begins) in
        record {
          before = p ∷ (more.list ++ x.before);
          one = x.one;
          behind = x.behind;
          is = ap (λ l. p ∷ l) (more.is ∙ ap (λ l. more.list ++ l) x.is ∙ sym (append_assoc more.list x.before (x.one ∷ (x.behind ++ rest))));
          are_before = (
            inl (stands_on 0 body.start from p.range.end p (omega arith) low (record { begins = place.begins; some = place.some; ends = omega arith; body = place.body })),
            all_before (p.range.start + 1) body.start more.list x.before (all_on (p.range.start + 1) body.start (p.range.start + 1) p.range.end more.list (omega arith) low more.stand) x.are_before,
          );
          stands = stands_on from to p.range.end to x.one (omega (arith, place.begins, place.some)) (omega arith) x.stands;
          has_it = x.has_it;
          are_behind = x.are_behind;
        }

  pub parted : {N : Telling} {from to : ℕ} {is : ItemViews} {ps rest : List ItemPlace} → ArePlaces N from to is ps rest → list_any has ps ≡ true → Parted from to ps rest ⊎ (list_any has rest ≡ true)
  parted nothing e = inr e
  parted {N} {from} {to} {rest = rest} (placed {i = i} {p = p} {ps = ps} {mid = mid} place inside behind) e =
      when (has p) (λ h. inl (this place inside behind h))
      (λ other. let more : list_any has ps ≡ true = rw other at e in
      let found = parted behind in
      let on : list_any has mid ≡ true → Parted from to (p ∷ ps) rest ⊎ (list_any has rest ≡ true) = λ h. ⊎_elim (λ x. inl (later place inside behind x)) (λ k. inr k) (found h) in
      when (may_hold p.id.kind) (λ h. ⊎_elim (λ x. inl (held place inside behind h x)) on (parted inside more)) (λ h. on (sym (ap (list_any has) (leaf place inside behind h)) ∙ more)))

  -- those of a whole text
  pub all_parted : {N : Telling} {to : ℕ} {is : ItemViews} {ps : List ItemPlace} → ArePlaces N 0 to is ps [] → list_any has ps ≡ true → Parted 0 to ps []
  all_parted are e = ⊎_elim (λ x. x) (λ k. absurd cc) (parted are e)
