-- Each item to which an import leads is one that a name of a path stands for.
use Rattle.std.proofs.Common.{◌≡◌, ℕ, Bool, true, List, Option, Some, None, if◌then◌else◌, refl, sym, ap, subst, ◌∙◌, map, Contains}
use Rattle.std.specs.{Borrow.Bor, List.filter_map, List.list_any, Option.option_map}
use Rattle.std.proofs.lemmas.List.Elements.{Contains-append_left, Contains-append_right}
use Rattle.def_map.specs.declared.rows.{CrateRows.CrateRows, ItemKey.ItemKey}
use Rattle.def_map.specs.Crates.{Crate, Thing, a_module, an_item, a_scope, unseen, NameDeclaration, a_name, PathImport, Hides}
use Rattle.def_map.specs.CrateView.{rows_view, other_view}
use Rattle.def_map.specs.Facts.{names, declared, IsImport, IsOther, IsOpen, Derives}
use Rattle.def_map.specs.Verdicts.{LeadsTo, HasNames}
use Rattle.def_map.specs.Numbering.{thing_item, declared_item, macro_item, is_name_asked, asked_items, is_item_numbered, item_eq}
use Rattle.def_map.proofs.Listing.{contains_kept, mapped_source}
use Rattle.def_map.proofs.LikeCrates.{IsLike, leads_like}
use Rattle.def_map.proofs.NumberedLists.{got}
use Rattle.def_map.proofs.NumberLaws.{name_asked, item_decides}
use Rattle.def_map.proofs.Telling.{of_any}

module _ {I : Type 0} (K : I → Type 0) where
  -- the item of a thing, if it is one, is known
  abbrev pub IsKnown : Thing I → Type 0
  IsKnown (a_module m) = Unit {0}
  IsKnown (an_item x) = K x
  IsKnown (a_scope x) = K x
  IsKnown unseen = Unit {0}

module _ {N I : Type 0} (c : Crate N I) (A : N → Type 0) (K : I → Type 0) where
  -- those that names which are asked for stand for are known
  pub record AreKnown : Type 0 where
    pub asked : (i : ℕ) (u : PathImport N) (n : N) → IsImport c i u → Contains u.names n → A n
    pub declarations : (x : NameDeclaration N I) → Contains c.declarations x → A x.name → IsKnown K x.thing
    pub others : (n : N) (t : Thing I) → IsOther c.others n t → IsKnown K t
    pub macros : (n : N) (x : I) → Contains c.macro_rules (n, x) → A n → K x

  abbrev Same : N → N → Type 0
  Same n k = (n ≡ k) × A n

  abbrev Stays : Thing I → Thing I → Type 0
  Stays t s = (t ≡ s) × IsKnown K t

  module _ (known : AreKnown) where
    like_itself : IsLike Same Stays c c
    like_itself = record {
      modules = λ m. (refl, tt);
      module_alone = λ m t s. sym s.0;
      unseen_too = (refl, tt);
      open_too = λ t s same h. subst (λ (z : Thing I). IsOpen z) same.0 h;
      parents = refl;
      edition = refl;
      veils = λ x has. has;
      declarations = λ x n has r. (
        x.thing,
        (refl, known.declarations x has r.1),
        subst (λ z. Derives c (names x.parent x.namespace (Some z) x.thing x.visibility)) r.0 (declared x has),
      );
      hides = λ m ns n k r h. subst (λ z. Hides c m ns z) (sym r.0) h;
      imports = λ i u is. (
        u,
        is,
        record {
          parent = refl;
          start = refl;
          of_types = refl;
          visibility = refl;
          length = refl;
          names = λ k n at. (n, at, (refl, known.asked i u n is (got u.names k n at)));
          glob = refl;
          bound = λ n m binds r. binds ∙ ap a_name r.0;
        },
      );
      others = λ n k t r h. (t, subst (λ z. IsOther c.others z t) r.0 h, (refl, known.others n t h));
      macros = λ n k x r has. (x, subst (λ z. Contains c.macro_rules (z, x)) r.0 has, (refl, known.macros n x has r.1));
    }

    -- so is what imports lead to
    pub leads_known : (i : ℕ) (t : Thing I) → LeadsTo c i t → IsKnown K t
    leads_known i t h = (leads_like Same Stays c c like_itself (λ x y same n. subst (λ (z : Thing I). HasNames z) same.0 n) i t h).1.1

-- ---- of a crate by names

module _ (rows : CrateRows) where
  abbrev c : Crate (List ℕ) ItemKey
  c = rows_view rows

  abbrev asks : List ℕ → Bool
  asks = is_name_asked c

  abbrev pub IsAsked : ItemKey → Type 0
  IsAsked key = Contains (asked_items c) key

  if_asked : (b : Bool) (o : Option ItemKey) (key : ItemKey) → b ≡ true → o ≡ Some key → (if b then o else None) ≡ Some key
  if_asked b o key asked is = ap (λ (z : Bool). if z then o else None) asked ∙ is

  of_declared : (x : NameDeclaration (List ℕ) ItemKey) (key : ItemKey) → Contains c.declarations x → asks x.name ≡ true → thing_item x.thing ≡ Some key → IsAsked key
  of_declared x key has asked is = Contains-append_left (filter_map (declared_item asks) c.declarations) (filter_map (macro_item asks) c.macro_rules) key
      (contains_kept (declared_item asks) c.declarations x key has (if_asked (asks x.name) (thing_item x.thing) key asked is))

  by_thing : (x : NameDeclaration (List ℕ) ItemKey) → Contains c.declarations x → asks x.name ≡ true → (t : Thing ItemKey) → x.thing ≡ t → IsKnown IsAsked t
  by_thing x has asked (a_module m) same = tt
  by_thing x has asked (an_item key) same = of_declared x key has asked (ap thing_item same)
  by_thing x has asked (a_scope key) same = of_declared x key has asked (ap thing_item same)
  by_thing x has asked unseen same = tt

  others_known : {V : Type 0} (list : V → List (Bor (List ℕ))) (o : Option V) (n : List ℕ) (t : Thing ItemKey) → IsOther (option_map (λ v. map other_view (list v)) o) n t → IsKnown IsAsked t
  others_known list None n t h = subst (IsKnown IsAsked) (sym h) tt
  others_known list (Some v) n t h = let m = mapped_source other_view (list v) (n, t) h in subst (IsKnown IsAsked) (ap (λ (p : List ℕ × Thing ItemKey). p.1) m.2) tt

  are_known : AreKnown c (λ n. asks n ≡ true) IsAsked
  are_known = record {
    asked = λ i u n is has. name_asked c i u n is has;
    declarations = λ x has asked. by_thing x has asked x.thing refl;
    others = λ n t h. others_known (λ v. v.items) rows.others n t h;
    macros = λ n x has asked. Contains-append_right (filter_map (declared_item asks) c.declarations) (filter_map (macro_item asks) c.macro_rules) x
        (contains_kept (macro_item asks) c.macro_rules (n, x) x has (if_asked (asks n) (Some x) x asked refl));
  }

  pub leads_asked : (i : ℕ) (t : Thing ItemKey) → LeadsTo c i t → IsKnown IsAsked t
  leads_asked i t h = leads_known c (λ n. asks n ≡ true) IsAsked are_known i t h

  weaker : {K L : ItemKey → Type 0} → ((key : ItemKey) → K key → L key) → (t : Thing ItemKey) → IsKnown K t → IsKnown L t
  weaker f (a_module m) k = tt
  weaker f (an_item key) k = f key k
  weaker f (a_scope key) k = f key k
  weaker f unseen k = tt

  pub known_numbered : (items : List ItemKey) → ((key : ItemKey) → is_item_numbered items key ≡ list_any (item_eq key) (asked_items c)) → (i : ℕ) (t : Thing ItemKey) → LeadsTo c i t
      → IsKnown (λ key. is_item_numbered items key ≡ true) t
  known_numbered items all i t h = weaker (λ key has. all key ∙ of_any (item_eq key) (asked_items c) key has ((item_decides key key).1 refl)) t (leads_asked i t h)
