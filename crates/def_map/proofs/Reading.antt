-- What a name of a path gives, and the modules of which facts speak.
use Rattle.std.proofs.Common.{◌≡◌, ◌<◌, ℕ, suc, Bool, true, false, Some, None, if◌then◌else◌, refl, ap, subst, ◌∙◌, length}
use Rattle.std.proofs.lemmas.Option.{none-some, same_Some}
use Rattle.def_map.specs.declared.kinds.Namespace.{Namespace}
use Rattle.def_map.specs.declared.kinds.Namespace.TheVariants.{Types, Values, Macros}
use Rattle.def_map.specs.declared.kinds.PathStart.{PathStart}
use Rattle.def_map.specs.declared.kinds.PathStart.TheVariants.{Crate as from_root, Super, Plain, Abs}
use Rattle.def_map.specs.declared.kinds.Visibility.{Visibility}
use Rattle.def_map.specs.declared.kinds.Visibility.TheVariants.{Public}
use Rattle.def_map.specs.Crates.{Crate, Thing, unseen, PathImport}
use Rattle.def_map.specs.Facts.{Fact, names, stands, gives, is_inner_name, is_wanted, read_inner, reading, start_by, IsElsewhere, an_other, any_other, a_macro, Derives, declared, veiled, begins, elsewhere, leads, ends, gives_start, copies, imports, opens, exports, passes}
use Rattle.def_map.specs.Laws.{IsModuleOf, IsWhole}
use Rattle.def_map.proofs.Order.{old_above}

module _ {N I : Type 0} where
  pub reading_inner : (i : ℕ) (u : PathImport N) (k : ℕ) (t : Thing I) (v : Visibility) → is_inner_name u k ≡ true → reading i u k Types t v ≡ Some (stands i (suc k) t)
  reading_inner i u k t v inner = ap (λ (b : Bool). if b then Some (stands i (suc k) t) else if is_wanted u Types then Some (gives i Types t v) else None) inner

  pub reading_last : (i : ℕ) (u : PathImport N) (k : ℕ) (ns : Namespace) (t : Thing I) (v : Visibility) → is_inner_name u k ≡ false → is_wanted u ns ≡ true
      → reading i u k ns t v ≡ Some (gives i ns t v)
  reading_last i u k ns t v last wanted = ap (λ (b : Bool). if b then read_inner i k ns t else if is_wanted u ns then Some (gives i ns t v) else None) last
      ∙ ap (λ (b : Bool). if b then Some (gives i ns t v) else None) wanted

  -- it is one of two
  pub reading_cases : (P : Fact N I → Type 0) (i : ℕ) (u : PathImport N) (k : ℕ) (ns : Namespace) (t : Thing I) (v : Visibility) (f : Fact N I)
      → reading i u k ns t v ≡ Some f
      → (is_inner_name u k ≡ true → ns ≡ Types → P (stands i (suc k) t))
      → (is_inner_name u k ≡ false → is_wanted u ns ≡ true → P (gives i ns t v)) → P f
  reading_cases P i u k ns t v f says inner last = by (is_inner_name u k) refl says
    where
      within : (s : Namespace) → ns ≡ s → is_inner_name u k ≡ true → read_inner i k s t ≡ Some f → P f
      within Types e b h = subst P (same_Some (stands i (suc k) t) f h) (inner b e)
      within Values e b h = absurd (none-some f h)
      within Macros e b h = absurd (none-some f h)

      given : (w : Bool) → is_wanted u ns ≡ w → is_inner_name u k ≡ false → (if w then Some (gives i ns t v) else None) ≡ Some f → P f
      given true e b h = subst P (same_Some (gives i ns t v) f h) (last b e)
      given false e b h = absurd (none-some f h)

      by : (b : Bool) → is_inner_name u k ≡ b → (if b then read_inner i k ns t else if is_wanted u ns then Some (gives i ns t v) else None) ≡ Some f → P f
      by true e h = within ns refl e h
      by false e h = given (is_wanted u ns) refl e h

module _ {N I : Type 0} (c : Crate N I) (whole : IsWhole c) where
  start_old : (start : PathStart) (m other : ℕ) → m < length c.parents → start_by c start m ≡ Some other → other < length c.parents
  start_old from_root m other low e = subst (λ k. k < length c.parents) (same_Some 0 other e) whole.root
  start_old (Super count) m other low e = old_above c.parents c.parents whole.rising (λ k below. refl) count m other low e
  start_old Plain m other low e = by c.is_2015 e
    where
      by : (b : Bool) → (if b then Some 0 else Some m) ≡ Some other → other < length c.parents
      by true h = subst (λ k. k < length c.parents) (same_Some 0 other h) whole.root
      by false h = subst (λ k. k < length c.parents) (same_Some m other h) low
  start_old Abs m other low e = by c.is_2015 e
    where
      by : (b : Bool) → (if b then Some 0 else None) ≡ Some other → other < length c.parents
      by true h = subst (λ k. k < length c.parents) (same_Some 0 other h) whole.root
      by false h = absurd (none-some other h)

  -- the thing of which a fact speaks
  abbrev pub thing_of : Fact N I → Thing I
  thing_of (names m ns name t v) = t
  thing_of (stands i k t) = t
  thing_of (gives i ns t v) = t

  abbrev pub SpeaksOf : Fact N I → Type 0
  SpeaksOf f = IsModuleOf c.parents (thing_of f)

  read_of : (i : ℕ) (u : PathImport N) (k : ℕ) (ns : Namespace) (t : Thing I) (v : Visibility) (f : Fact N I) → reading i u k ns t v ≡ Some f → IsModuleOf c.parents t → SpeaksOf f
  read_of i u k ns t v f says old = reading_cases SpeaksOf i u k ns t v f says (λ a b. old) (λ a b. old)

  elsewhere_old : (u : PathImport N) (n : N) (ns : Namespace) (t : Thing I) (v : Visibility) → IsElsewhere c u n ns t v → IsModuleOf c.parents t
  elsewhere_old u n ns t v (an_other {t = t'} inner other) = whole.others n t' other
  elsewhere_old u n ns t v (any_other s last) = tt
  elsewhere_old u n ns t v (a_macro x plain last has) = tt

  pub speaks_of : (f : Fact N I) → Derives c f → SpeaksOf f
  speaks_of f (declared x has) = whole.declarations x has
  speaks_of f (veiled x has) = tt
  speaks_of f (begins {i = i} {m = m} u is start) = start_old u.start u.parent m (whole.imports i u is).0 start
  speaks_of f (elsewhere {ns = ns} {n = n} {t = t} {v = v} {f = g} i u is leave first other free says) = read_of i u 0 ns t v g says (elsewhere_old u n ns t v other)
  speaks_of f (leads u is stand has inner named covers seen) = speaks_of _ named
  speaks_of f (ends u is stand has last wanted named covers seen) = speaks_of _ named
  speaks_of f (gives_start u is glob none stand) = speaks_of _ stand
  speaks_of f (copies u is glob stand named seen free) = speaks_of _ named
  speaks_of f (imports u is binds given) = speaks_of _ given
  speaks_of f (opens u ns is glob stand open') = tt
  speaks_of f (exports u is glob stand) = tt
  speaks_of f (passes {i = i} {k = k} {f = g} u ns is stand open' has says) = read_of i u k ns unseen Public g says tt
