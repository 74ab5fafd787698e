-- What is derived of a completion lies over what is derived of the crate.
use Rattle.std.proofs.Common.{◌≡◌, ◌<◌, ◌⊎◌, inl, inr, ⊎_elim, ℕ, suc, Bool, true, false, [], Option, Some, None, slice_get, if◌then◌else◌, refl, sym, ap, subst, ◌∙◌, length, Contains, arith}
use Rattle.std.proofs.lemmas.Bool.{false≢true}
use Rattle.std.proofs.lemmas.Option.{same_Some}
use Rattle.def_map.specs.declared.kinds.Namespace.{Namespace}
use Rattle.def_map.specs.declared.kinds.Namespace.TheVariants.{Types, Macros}
use Rattle.def_map.specs.declared.kinds.PathStart.{PathStart}
use Rattle.def_map.specs.declared.kinds.PathStart.TheVariants.{Crate as from_root, Super, Plain, Abs}
use Rattle.def_map.specs.declared.kinds.Visibility.{Visibility}
use Rattle.def_map.specs.declared.kinds.Visibility.TheVariants.{Public, Module}
use Rattle.def_map.specs.Crates.{Crate, Thing, a_module, an_item, a_scope, unseen, NameDeclaration, Binding, a_glob, a_name, underscore, nameless, PathImport, Veil, module_sees, narrower, Hides}
use Rattle.def_map.specs.Facts.{Fact, names, stands, gives, is_glob_import, is_glob_binding, reading, IsOpen, IsImport, start_by, import_start, may_leave, IsElsewhere, an_other, any_other, a_macro, Covers, IsFree, Derives, declared, veiled, begins, elsewhere, leads, ends, gives_start, copies, imports, opens, exports, passes}
use Rattle.def_map.specs.Verdicts.{is_at_least}
use Rattle.def_map.specs.Laws.{Becomes, IsWhole, IsNew, IsUnderVeil, IsDeclarationKept, IsExported, BindsUnderVeil, Completes}
use Rattle.def_map.proofs.Order.{same_above, same_sees, narrower_second, narrower_first, narrower_both, narrower_public, at_least_sees, at_least_public}
use Rattle.def_map.proofs.Things.{same_module, not_module}
use Rattle.def_map.proofs.Reading.{reading_inner, reading_last, reading_cases, speaks_of}

module _ {I : Type 0} where
  pub becomes_itself : (t : Thing I) → Becomes t t
  becomes_itself (a_module m) = refl
  becomes_itself (an_item x) = refl
  becomes_itself (a_scope x) = inl refl
  becomes_itself unseen = tt

  -- what turns out to be open was so before
  open_before : (t t' : Thing I) → Becomes t t' → IsOpen t' → IsOpen t
  open_before (a_module m) t' e h = subst IsOpen e h
  open_before (an_item x) t' e h = subst IsOpen e h
  open_before (a_scope x) t' e h = tt
  open_before unseen t' e h = tt

abbrev is_of_macros : Namespace → Bool
is_of_macros Macros = true
is_of_macros ns = false

types_not_macros : Types ≡ Macros → ⊥
types_not_macros e = false≢true (ap is_of_macros e)

module _ {N I : Type 0} (c d : Crate N I) (whole : IsWhole c) (all : Completes c d) where
  -- the modules of c that see the second see the first, and the first is for everybody if the second is
  pub record IsWider (v w : Visibility) : Type 0 where
    pub everybody : w ≡ Public → v ≡ Public
    pub others : (k : ℕ) → k < length c.parents → module_sees d.parents k w ≡ true → module_sees d.parents k v ≡ true

  -- a name of c stands for one of d
  pub data Stands (m : ℕ) (ns : Namespace) : Option N → Thing I → Option N → Thing I → Type 0 where
    as_named : {name : Option N} {t t' : Thing I} → Becomes t t' → Stands m ns name t name t'
    as_veil : {name : Option N} {t' : Thing I} → IsFree c m ns name → Stands m ns None unseen name t'

  abbrev pub Over : Fact N I → Type 0
  Over (names m ns name t' v') = IsNew c d m
      ⊎ ((before : Option N) × (t : Thing I) × (v : Visibility) × Derives c (names m ns before t v) × Stands m ns before t name t' × IsWider v v')
  Over (stands i k t') = (u : PathImport N) → IsImport c i u → (t : Thing I) × Derives c (stands i k t) × Becomes t t'
  Over (gives i ns t' v') = (u : PathImport N) → IsImport c i u → (t : Thing I) × (v : Visibility) × Derives c (gives i ns t v) × Becomes t t'
      × IsWider v v' × IsWider (narrower c.parents v u.visibility) (narrower d.parents v' u.visibility)

  -- ---- visibilities

  everybody_wider : (w : Visibility) → IsWider Public w
  everybody_wider w = record { everybody = λ e. refl; others = λ k low h. refl }

  kept_wider : (v w : Visibility) → is_at_least d.parents v w ≡ true → IsWider v w
  kept_wider v w h = record { everybody = at_least_public d.parents v w h; others = λ k low s. at_least_sees d.parents all.rising k v w h s }

  narrower_wider : (v w : Visibility) → IsWider w (narrower d.parents v w)
  narrower_wider v w = record { everybody = λ e. (narrower_public d.parents v w e).1; others = λ k low s. narrower_second d.parents all.rising k v w s }

  wider_trans : (a b e : Visibility) → IsWider a b → IsWider b e → IsWider a e
  wider_trans a b e one two = record { everybody = λ h. one.everybody (two.everybody h); others = λ k low s. one.others k low (two.others k low s) }

  pub sees_same : (m : ℕ) (v : Visibility) → m < length c.parents → module_sees d.parents m v ≡ true → module_sees c.parents m v ≡ true
  sees_same m v low s = sym (same_sees c.parents d.parents all.rising all.modules m v low) ∙ s

  sees_more : (m : ℕ) (v : Visibility) → m < length c.parents → module_sees c.parents m v ≡ true → module_sees d.parents m v ≡ true
  sees_more m v low s = same_sees c.parents d.parents all.rising all.modules m v low ∙ s

  -- the smaller of two for an import that module_sees the first
  narrows_wider : (i : ℕ) (u : PathImport N) (v v' : Visibility) → IsImport c i u → module_sees d.parents u.parent v' ≡ true → IsWider v v'
      → IsWider (narrower c.parents v u.visibility) (narrower d.parents v' u.visibility)
  narrows_wider i u v v' is seen wider = record {
    everybody = λ e.
        let p = narrower_public d.parents v' u.visibility e in
        ap (λ x. narrower c.parents x u.visibility) (wider.everybody p.0) ∙ p.1;
    others = λ k low s.
        let here = whole.imports i u is in
        let own = sees_more u.parent u.visibility here.0 here.1 in
        let first = narrower_first d.parents all.rising u.parent k v' u.visibility seen own s in
        let second = narrower_second d.parents all.rising k v' u.visibility s in
        sees_more k (narrower c.parents v u.visibility) low
        (narrower_both c.parents k v u.visibility (sees_same k v low (wider.others k low first)) (sees_same k u.visibility low second));
  }

  -- ---- the same import

  pub same_import : (i : ℕ) (u w : PathImport N) → IsImport d i u → IsImport c i w → IsImport c i u
  same_import i u w is old = subst (IsImport c i) (same_Some w u (sym (all.imports i w old) ∙ is)) old

  start_same : (i : ℕ) (u : PathImport N) → IsImport c i u → import_start d u ≡ import_start c u
  start_same i u is = by u.start
    where
      by : (start : PathStart) → start_by d start u.parent ≡ start_by c start u.parent
      by from_root = refl
      by (Super count) = same_above c.parents d.parents all.rising all.modules count u.parent (whole.imports i u is).0
      by Plain = ap (λ (b : Bool). if b then Some 0 else Some u.parent) all.edition
      by Abs = ap (λ (b : Bool). if b then Some 0 else None) all.edition

  read_over : (i : ℕ) (u : PathImport N) (k : ℕ) (ns : Namespace) (t : Thing I) (v : Visibility) (f : Fact N I) → IsImport d i u → reading i u k ns t v ≡ Some f
      → (IsImport c i u → Over f) → Over f
  read_over i u k ns t v f is says = reading_cases (λ f. (IsImport c i u → Over f) → Over f) i u k ns t v f says
      (λ inner types h w old. h (same_import i u w is old) w old) (λ last wanted h w old. h (same_import i u w is old) w old)

  -- ---- names

  free_less : (m : ℕ) (ns : Namespace) (name : Option N) → IsFree d m ns name → IsFree c m ns name
  free_less m ns (Some n) free = λ h. free (all.sure m ns n h)
  free_less m ns None free = tt

  covers_less : (m : ℕ) (ns : Namespace) (name : Option N) (n : N) → Covers d m ns name n → Covers c m ns name n
  covers_less m ns (Some x) n covers = covers
  covers_less m ns None n covers = λ h. covers (all.sure m ns n h)

  covers_veil : (m : ℕ) (ns : Namespace) (name : Option N) (n : N) → IsFree c m ns name → Covers d m ns name n → Covers c m ns None n
  covers_veil m ns (Some x) n free covers = λ h. free (subst (Hides c m ns) (sym covers) h)
  covers_veil m ns None n free covers = λ h. covers (all.sure m ns n h)

  -- what passes through what is not seen lies under anything
  passed : (i : ℕ) (u : PathImport N) (k : ℕ) (n : N) (ns : Namespace) (t t' : Thing I) (v' : Visibility) (f : Fact N I) → IsImport c i u → Derives c (stands i k t) → IsOpen t
      → slice_get u.names k ≡ Some n → reading i u k ns t' v' ≡ Some f → Over f
  passed i u k n ns t t' v' f is stand open' has says = reading_cases Over i u k ns t' v' f says
      (λ inner types w old. (unseen, passes u Types is stand open' has (reading_inner i u k unseen Public inner), tt))
      (λ last wanted w old. (unseen, Public, passes u ns is stand open' has (reading_last i u k ns unseen Public last wanted), tt, everybody_wider v', narrower_wider v' w.visibility))

  -- where the path stands in a module of d, it stands in that of c, or in what is not seen
  Place : (i k m : ℕ) → Type 0
  Place i k m = (Derives c (stands i k (a_module m)) × (m < length c.parents)) ⊎ ((t : Thing I) × Derives c (stands i k t) × IsOpen t)

  place_of : (i k m : ℕ) (t : Thing I) → Derives c (stands i k t) → Becomes t (a_module m) → Place i k m
  unfolding Place
  place_of i k m (a_module x) stand e =
      let same = sym (same_module m x e) in
      inl (subst (λ y. Derives c (stands i k (a_module y)) × (y < length c.parents)) same (stand, speaks_of c whole (stands i k (a_module x)) stand))
  place_of i k m (an_item x) stand e = absurd (not_module (an_item x) m refl (sym e))
  place_of i k m (a_scope x) stand e = inr (a_scope x, stand, tt)
  place_of i k m unseen stand e = inr (unseen, stand, tt)

  -- what a name of c gives, where one of d is read
  named_over : (i : ℕ) (u : PathImport N) (k m : ℕ) (n : N) (ns : Namespace) (before name : Option N) (t t' : Thing I) (v v' : Visibility) (f : Fact N I) → IsImport c i u
      → Derives c (stands i k (a_module m)) → slice_get u.names k ≡ Some n → Derives c (names m ns before t v) → Covers c m ns before n → Becomes t t' → IsWider v v'
      → module_sees d.parents u.parent v' ≡ true → reading i u k ns t' v' ≡ Some f → Over f
  named_over i u k m n ns before name t t' v v' f is stand has named covers becomes wider seen says =
      let low = (whole.imports i u is).0 in
      let here = sees_same u.parent v low (wider.others u.parent low seen) in
      reading_cases Over i u k ns t' v' f says
      (λ inner types w old. (t, leads u is stand has inner (subst (λ s. Derives c (names m s before t v)) types named) (subst (λ s. Covers c m s before n) types covers) here, becomes))
      (λ last wanted w old. (
        t,
        v,
        ends u is stand has last wanted named covers here,
        becomes,
        wider,
        narrows_wider i w v v' old (subst (λ (x : PathImport N). module_sees d.parents x.parent v' ≡ true) (same_Some u w (sym is ∙ old)) seen) wider,
      ))

  read_name : (i : ℕ) (u : PathImport N) (k m : ℕ) (n : N) (ns : Namespace) (name : Option N) (t' : Thing I) (v' : Visibility) (f : Fact N I) → IsImport d i u
      → Over (stands i k (a_module m)) → slice_get u.names k ≡ Some n → Over (names m ns name t' v') → Covers d m ns name n → module_sees d.parents u.parent v' ≡ true
      → reading i u k ns t' v' ≡ Some f → Over f
  unfolding Place
  read_name i u k m n ns name t' v' f is stand has named covers seen says = read_over i u k ns t' v' f is says (λ old.
      let s = stand u old in
      by old named (place_of i k m s.0 s.1 s.2))
    where
      under : (before : Option N) (t : Thing I) (v : Visibility) → IsImport c i u → Derives c (stands i k (a_module m)) → Derives c (names m ns before t v) → IsWider v v'
          → (name : Option N) (t' : Thing I) → Stands m ns before t name t' → Covers d m ns name n → reading i u k ns t' v' ≡ Some f → Over f
      under before t v old here it wider name t' (as_named {name = x} {t = a} {t' = b} becomes) cover say =
          named_over i u k m n ns x x a b v v' f old here has it (covers_less m ns x n cover) becomes wider seen say
      under before t v old here it wider name t' (as_veil {name = x} {t' = b} free) cover say =
          named_over i u k m n ns None x unseen b v v' f old here has it (covers_veil m ns x n free cover) tt wider seen say

      by : IsImport c i u → Over (names m ns name t' v') → Place i k m → Over f
      by old it (inr there) = passed i u k n ns there.0 t' v' f old there.1 there.2 has says
      by old (inl new) (inl here) = absurd (omega (arith, new, here.1))
      by old (inr it) (inl here) = under it.0 it.1 it.2 old here.0 it.3 it.5 name t' it.4 covers says

  -- ---- under veils

  veil_over : (m : ℕ) (ns : Namespace) (name : Option N) (t' : Thing I) (v w : Visibility) → IsUnderVeil c d m ns name w → IsWider w v → Over (names m ns name t' v)
  veil_over m ns name t' v w (x, has, parent, namespace, least, free) wider =
      inr (
        None,
        unseen,
        x.visibility,
        subst (λ s. Derives c (names m s None unseen x.visibility)) namespace (subst (λ p. Derives c (names p x.namespace None unseen x.visibility)) parent (veiled x has)),
        as_veil free,
        wider_trans x.visibility w v (kept_wider x.visibility w least) wider,
      )

  glob_under : (u : PathImport N) (b : Binding N) → is_glob_binding b ≡ true → BindsUnderVeil c d u b → (ns : Namespace) → IsUnderVeil c d u.parent ns None u.visibility
  glob_under u a_glob e h ns = h ns
  glob_under u (a_name n) e h ns = absurd (false≢true e)
  glob_under u underscore e h ns = absurd (false≢true e)
  glob_under u nameless e h ns = absurd (false≢true e)

  under_free : (m : ℕ) (ns : Namespace) (name : Option N) (v : Visibility) → IsUnderVeil c d m ns None v → IsFree c m ns name → IsUnderVeil c d m ns name v
  under_free m ns name v (x, has, parent, namespace, least, free) more = (x, has, parent, namespace, least, more)

  -- ---- the rules

  over_declared : (y : NameDeclaration N I) → (IsExported c d y → Over (names y.parent y.namespace (Some y.name) y.thing y.visibility)) → Contains d.declarations y
      → Over (names y.parent y.namespace (Some y.name) y.thing y.visibility)
  over_declared y exported has = by (all.declarations y has)
    where
      by : IsDeclarationKept c d y ⊎ (IsNew c d y.parent ⊎ (IsUnderVeil c d y.parent y.namespace (Some y.name) y.visibility ⊎ IsExported c d y))
          → Over (names y.parent y.namespace (Some y.name) y.thing y.visibility)
      by (inl (x, old, parent, namespace, name, becomes, least)) = inr (
        Some y.name,
        x.thing,
        x.visibility,
        subst (λ n. Derives c (names y.parent y.namespace (Some n) x.thing x.visibility)) name
            (subst (λ s. Derives c (names y.parent s (Some x.name) x.thing x.visibility)) namespace
            (subst (λ p. Derives c (names p x.namespace (Some x.name) x.thing x.visibility)) parent (declared x old))),
        as_named becomes,
        kept_wider x.visibility y.visibility least,
      )
      by (inr (inl new)) = inl new
      by (inr (inr (inl under))) = veil_over y.parent y.namespace (Some y.name) y.thing y.visibility y.visibility under (record { everybody = λ e. e; others = λ k low s. s })
      by (inr (inr (inr out))) = exported out

  over_veiled : (y : Veil) → Contains d.veils y → Over (names y.parent y.namespace None unseen y.visibility)
  over_veiled y has = ⊎_elim (λ (new : IsNew c d y.parent). inl new)
      (λ (under : IsUnderVeil c d y.parent y.namespace None y.visibility).
      veil_over y.parent y.namespace None unseen y.visibility y.visibility under (record { everybody = λ e. e; others = λ k low s. s })) (all.veils y has)

  over_begins : (i m : ℕ) (u : PathImport N) → IsImport d i u → import_start d u ≡ Some m → Over (stands i 0 (a_module m))
  over_begins i m u is start w old = let same = same_import i u w is old in (a_module m, begins u same (sym (start_same i u same) ∙ start), refl)

  over_elsewhere : (i : ℕ) (u : PathImport N) (n : N) (ns : Namespace) (t : Thing I) (v : Visibility) (f : Fact N I) → IsImport d i u → may_leave u.start ≡ true
      → slice_get u.names 0 ≡ Some n → IsElsewhere d u n ns t v → ((m : ℕ) → import_start d u ≡ Some m → Hides d m ns n → ⊥) → reading i u 0 ns t v ≡ Some f → Over f
  over_elsewhere i u n ns t v f is leave first other free says = read_over i u 0 ns t v f is says (λ old. by old leave (λ m start h. free m (start_same i u old ∙ start) (all.sure m _ n h)) other says)
    where
      by : {s : Namespace} {x : Thing I} {w : Visibility} → IsImport c i u → may_leave u.start ≡ true → ((m : ℕ) → import_start c u ≡ Some m → Hides c m s n → ⊥) → IsElsewhere d u n s x w
          → reading i u 0 s x w ≡ Some f → Over f
      by old may clear (an_other {t = y} inner o) say =
          let before = all.others n y o in
          reading_cases Over i u 0 Types y Public f say
          (λ inner' types w old'. (before.0, elsewhere i u old may first (an_other inner before.1) clear (reading_inner i u 0 before.0 Public inner), before.2))
          (λ last wanted w old'. absurd (false≢true (sym last ∙ inner)))
      by old may clear (any_other s last) say = reading_cases Over i u 0 s unseen Public f say
          (λ inner types w old'. absurd (false≢true (sym last ∙ inner)))
          (λ last' wanted w old'. (unseen, Public, elsewhere i u old may first (any_other s last) clear (reading_last i u 0 s unseen Public last wanted), tt, everybody_wider Public, narrower_wider Public w.visibility))
      by old may clear (a_macro x plain last has) say = reading_cases Over i u 0 Macros (an_item x) (Module 0) f say
          (λ inner types w old'. absurd (false≢true (sym last ∙ inner)))
          (λ last' wanted w old'. (unseen, Public, elsewhere i u old may first (any_other Macros last) clear (reading_last i u 0 Macros unseen Public last wanted), tt, everybody_wider (Module 0), narrower_wider (Module 0) w.visibility))

  over_start : (i : ℕ) (u : PathImport N) (t : Thing I) → IsImport d i u → is_glob_import u ≡ false → u.names ≡ [] → Over (stands i 0 t) → Over (gives i Types t Public)
  over_start i u t is glob none stand w old =
      let s = stand w old in
      (s.0, Public, gives_start u (same_import i u w is old) glob none s.1, s.2, everybody_wider Public, narrower_wider Public w.visibility)

  over_copies : (i m : ℕ) (ns : Namespace) (name : Option N) (t' : Thing I) (v' : Visibility) (u : PathImport N) → IsImport d i u → is_glob_import u ≡ true
      → Over (stands i (length u.names) (a_module m)) → Over (names m ns name t' v') → module_sees d.parents u.parent v' ≡ true → IsFree d u.parent ns name
      → Over (names u.parent ns name t' (narrower d.parents v' u.visibility))
  unfolding Place
  over_copies i m ns name t' v' u is glob stand named seen free = by (all.more_imports i u is)
    where
      under : (before : Option N) (t : Thing I) (v : Visibility) → IsImport c i u → Derives c (stands i (length u.names) (a_module m)) → Derives c (names m ns before t v) → IsWider v v'
          → (name : Option N) (t' : Thing I) → Stands m ns before t name t' → IsFree c u.parent ns name → Over (names u.parent ns name t' (narrower d.parents v' u.visibility))
      under before t v old here it wider name t' (as_named {name = x} {t = a} {t' = b} becomes) clear =
          let low = (whole.imports i u old).0 in
          inr (x, a, narrower c.parents v u.visibility, copies u old glob here it (sees_same u.parent v low (wider.others u.parent low seen)) clear, as_named becomes, narrows_wider i u v v' old seen wider)
      under before t v old here it wider name t' (as_veil {name = x} {t' = b} inside) clear =
          let low = (whole.imports i u old).0 in
          inr (None, unseen, narrower c.parents v u.visibility, copies u old glob here it (sees_same u.parent v low (wider.others u.parent low seen)) tt, as_veil clear, narrows_wider i u v v' old seen wider)

      within : IsImport c i u → Over (names m ns name t' v') → Place i (length u.names) m → Over (names u.parent ns name t' (narrower d.parents v' u.visibility))
      within old it (inr there) =
          inr (None, unseen, u.visibility, opens u ns old glob there.1 there.2, as_veil (free_less u.parent ns name free), narrower_wider v' u.visibility)
      within old (inl new) (inl here) = absurd (omega (arith, new, here.1))
      within old (inr it) (inl here) = under it.0 it.1 it.2 old here.0 it.3 it.5 name t' it.4 (free_less u.parent ns name free)

      by : IsImport c i u ⊎ (IsNew c d u.parent ⊎ BindsUnderVeil c d u u.binding) → Over (names u.parent ns name t' (narrower d.parents v' u.visibility))
      by (inl old) = let s = stand u old in within old named (place_of i (length u.names) m s.0 s.1 s.2)
      by (inr (inl new)) = inl new
      by (inr (inr veil)) = veil_over u.parent ns name t' (narrower d.parents v' u.visibility) u.visibility
          (under_free u.parent ns name u.visibility (glob_under u u.binding glob veil ns) (free_less u.parent ns name free)) (narrower_wider v' u.visibility)

  over_imports : (i : ℕ) (ns : Namespace) (n : N) (t' : Thing I) (v' : Visibility) (u : PathImport N) → IsImport d i u → u.binding ≡ a_name n → Over (gives i ns t' v')
      → Over (names u.parent ns (Some n) t' (narrower d.parents v' u.visibility))
  over_imports i ns n t' v' u is binds given = by (all.more_imports i u is)
    where
      by : IsImport c i u ⊎ (IsNew c d u.parent ⊎ BindsUnderVeil c d u u.binding) → Over (names u.parent ns (Some n) t' (narrower d.parents v' u.visibility))
      by (inl old) = let g = given u old in inr (Some n, g.0, narrower c.parents g.1 u.visibility, imports u old binds g.2, as_named g.3, g.5)
      by (inr (inl new)) = inl new
      by (inr (inr veil)) = veil_over u.parent ns (Some n) t' (narrower d.parents v' u.visibility) u.visibility (subst (BindsUnderVeil c d u) binds veil ns) (narrower_wider v' u.visibility)

  over_opens : (i : ℕ) (ns : Namespace) (t' : Thing I) (u : PathImport N) → IsImport d i u → is_glob_import u ≡ true → Over (stands i (length u.names) t') → IsOpen t'
      → Over (names u.parent ns None unseen u.visibility)
  over_opens i ns t' u is glob stand open' = by (all.more_imports i u is)
    where
      by : IsImport c i u ⊎ (IsNew c d u.parent ⊎ BindsUnderVeil c d u u.binding) → Over (names u.parent ns None unseen u.visibility)
      by (inl old) = let s = stand u old in inr (None, unseen, u.visibility, opens u ns old glob s.1 (open_before s.0 t' s.2 open'), as_named tt, record { everybody = λ e. e; others = λ k low g. g })
      by (inr (inl new)) = inl new
      by (inr (inr veil)) = veil_over u.parent ns None unseen u.visibility u.visibility (glob_under u u.binding glob veil ns) (record { everybody = λ e. e; others = λ k low s. s })

  over_exports : (i : ℕ) (u : PathImport N) → IsImport d i u → is_glob_import u ≡ true → Over (stands i (length u.names) (a_module 0)) → Over (names u.parent Macros None unseen u.visibility)
  unfolding Place
  over_exports i u is glob stand = by (all.more_imports i u is)
    where
      at : IsImport c i u → Place i (length u.names) 0 → Over (names u.parent Macros None unseen u.visibility)
      at old (inl here) = inr (None, unseen, u.visibility, exports u old glob here.0, as_named tt, record { everybody = λ e. e; others = λ k low g. g })
      at old (inr there) = inr (None, unseen, u.visibility, opens u Macros old glob there.1 there.2, as_named tt, record { everybody = λ e. e; others = λ k low g. g })

      by : IsImport c i u ⊎ (IsNew c d u.parent ⊎ BindsUnderVeil c d u u.binding) → Over (names u.parent Macros None unseen u.visibility)
      by (inl old) = let s = stand u old in at old (place_of i (length u.names) 0 s.0 s.1 s.2)
      by (inr (inl new)) = inl new
      by (inr (inr veil)) = veil_over u.parent Macros None unseen u.visibility u.visibility (glob_under u u.binding glob veil Macros) (record { everybody = λ e. e; others = λ k low s. s })

  -- a macro that a macro call exports
  over_exported : (y : NameDeclaration N I) (i : ℕ) (u : PathImport N) → IsImport d i u → is_glob_import u ≡ true → Over (stands i (length u.names) (a_module 0)) → u.parent ≡ y.parent
      → y.namespace ≡ Macros → is_at_least d.parents u.visibility y.visibility ≡ true → IsFree c y.parent Macros (Some y.name) → Over (names y.parent y.namespace (Some y.name) y.thing y.visibility)
  unfolding Place
  over_exported y i u is glob stand parent space least free =
      subst (λ s. Over (names y.parent s (Some y.name) y.thing y.visibility)) (sym space) (subst (λ m. Over (names m Macros (Some y.name) y.thing y.visibility)) parent (by (all.more_imports i u is)))
    where
      clear : IsFree c u.parent Macros (Some y.name)
      clear = subst (λ m. IsFree c m Macros (Some y.name)) (sym parent) free

      wide : IsWider u.visibility y.visibility
      wide = kept_wider u.visibility y.visibility least

      at : IsImport c i u → Place i (length u.names) 0 → Over (names u.parent Macros (Some y.name) y.thing y.visibility)
      at old (inl here) = inr (None, unseen, u.visibility, exports u old glob here.0, as_veil clear, wide)
      at old (inr there) = inr (None, unseen, u.visibility, opens u Macros old glob there.1 there.2, as_veil clear, wide)

      by : IsImport c i u ⊎ (IsNew c d u.parent ⊎ BindsUnderVeil c d u u.binding) → Over (names u.parent Macros (Some y.name) y.thing y.visibility)
      by (inl old) = let s = stand u old in at old (place_of i (length u.names) 0 s.0 s.1 s.2)
      by (inr (inl new)) = inl new
      by (inr (inr veil)) = veil_over u.parent Macros (Some y.name) y.thing y.visibility u.visibility (under_free u.parent Macros (Some y.name) u.visibility (glob_under u u.binding glob veil Macros) clear) wide

  over_passes : (i k : ℕ) (n : N) (t' : Thing I) (f : Fact N I) (u : PathImport N) (ns : Namespace) → IsImport d i u → Over (stands i k t') → IsOpen t' → slice_get u.names k ≡ Some n
      → reading i u k ns unseen Public ≡ Some f → Over f
  over_passes i k n t' f u ns is stand open' has says = read_over i u k ns unseen Public f is says (λ old.
      let s = stand u old in passed i u k n ns s.0 unseen Public f old s.1 (open_before s.0 t' s.2 open') has says)

  -- a fact of these namespaces
  abbrev Within : (Namespace → Type 0) → Fact N I → Type 0
  Within P (names m ns name t v) = P ns
  Within P (stands i k t) = Unit {0}
  Within P (gives i ns t v) = P ns

  module _ (P : Namespace → Type 0) (types : P Types) (exported : (y : NameDeclaration N I) → P y.namespace → IsExported c d y → Over (names y.parent y.namespace (Some y.name) y.thing y.visibility)) where
    over_within : (f : Fact N I) → Derives d f → Within P f → Over f
    over_within f (declared y has) w = over_declared y (exported y w) has
    over_within f (veiled y has) w = over_veiled y has
    over_within f (begins {i = i} {m = m} u is start) w = over_begins i m u is start
    over_within f (elsewhere {ns = ns} {n = n} {t = t} {v = v} {f = g} i u is leave first other free says) w = over_elsewhere i u n ns t v g is leave first other free says
    over_within f (leads {i = i} {k = k} {m = m} {n = n} {name = name} {t = t} {v = v} u is stand has inner named covers seen) w =
        read_name i u k m n Types name t v (stands i (suc k) t) is (over_within _ stand tt) has (over_within _ named types) covers seen (reading_inner i u k t v inner)
    over_within f (ends {i = i} {k = k} {m = m} {ns = ns} {n = n} {name = name} {t = t} {v = v} u is stand has last wanted named covers seen) w =
        read_name i u k m n ns name t v (gives i ns t v) is (over_within _ stand tt) has (over_within _ named w) covers seen (reading_last i u k ns t v last wanted)
    over_within f (gives_start {i = i} {t = t} u is glob none stand) w = over_start i u t is glob none (over_within _ stand tt)
    over_within f (copies {i = i} {m = m} {ns = ns} {name = name} {t = t} {v = v} u is glob stand named seen free) w =
        over_copies i m ns name t v u is glob (over_within _ stand tt) (over_within _ named w) seen free
    over_within f (imports {i = i} {ns = ns} {n = n} {t = t} {v = v} u is binds given) w = over_imports i ns n t v u is binds (over_within _ given w)
    over_within f (opens {i = i} {t = t} u ns is glob stand open') w = over_opens i ns t u is glob (over_within _ stand tt) open'
    over_within f (exports {i = i} u is glob stand) w = over_exports i u is glob (over_within _ stand tt)
    over_within f (passes {i = i} {k = k} {n = n} {t = t} {f = g} u ns is stand open' has says) w = over_passes i k n t g u ns is (over_within _ stand tt) open' has says

  -- where a path stands does not hang on macros
  over_stands : (i k : ℕ) (t : Thing I) → Derives d (stands i k t) → Over (stands i k t)
  over_stands i k t stand = over_within (λ ns. ns ≡ Types) refl (λ y types out. absurd (types_not_macros (sym types ∙ out.6))) (stands i k t) stand tt

  exported_over : (y : NameDeclaration N I) → IsExported c d y → Over (names y.parent y.namespace (Some y.name) y.thing y.visibility)
  exported_over y (i, u, is, glob, stand, parent, space, least, free) = over_exported y i u is glob (over_stands i (length u.names) (a_module 0) stand) parent space least free

  pub over : (f : Fact N I) → Derives d f → Over f
  over f it = over_within (λ ns. Unit {0}) tt (λ y any out. exported_over y out) f it (any f)
    where
      any : (f : Fact N I) → Within (λ ns. Unit {0}) f
      any (names m ns name t v) = tt
      any (stands i k t) = tt
      any (gives i ns t v) = tt
