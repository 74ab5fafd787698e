-- The rules say the same of a crate by numbers.
use Rattle.std.proofs.Common.{◌≡◌, ◌↔◌, ℕ, false, List, Option, Some, None, slice_get, refl, sym, ap, subst, ◌∙◌, length, Contains, option_map, filter_map}
use Rattle.std.specs.Option.{option_map_or}
use Rattle.std.proofs.lemmas.Option.{none-some, same_Some, slice_get-map}
use Rattle.def_map.specs.declared.kinds.Namespace.{Namespace}
use Rattle.def_map.specs.declared.kinds.Visibility.{Visibility}
use Rattle.def_map.specs.declared.kinds.Visibility.TheVariants.{Public}
use Rattle.def_map.specs.Crates.{Crate, Thing, a_module, an_item, a_scope, unseen, NameDeclaration, Binding, a_glob, a_name, underscore, nameless, PathImport, narrower, Hides}
use Rattle.def_map.specs.Facts.{Fact, names, stands, gives, is_glob_binding, IsOpen, IsImport, IsGlobCopy, IsOther, Derives, declared, veiled, begins, elsewhere, leads, ends, gives_start, copies, imports, opens, exports, passes}
use Rattle.def_map.specs.Numbers.{numbered_thing, numbered_declaration, numbered_binding, renumbered_import, numbered_macro, numbered_other, crate_by_numbers, IsNumbering, numbered_fact, DerivesAlike}
use Rattle.def_map.proofs.Listing.{contains_kept, contains_source}
use Rattle.def_map.proofs.Things.{bound, same_module, not_module}
use Rattle.def_map.proofs.Reading.{reading_cases}
use Rattle.def_map.proofs.NumberedLists.{map_source, AllNumbered, kept_length, kept_get, kept_source, got}
use Rattle.def_map.proofs.LikeCrates.{IsImportLike, IsLike, Goes, goes}

module _ {N I M J : Type 0} (number : N → Option M) (item : I → J) (c : Crate N I) (ok : IsNumbering number item c) where
  abbrev e : Crate M J
  e = crate_by_numbers number item c

  abbrev nt : Thing I → Thing J
  nt = numbered_thing number item

  abbrev nu : PathImport N → PathImport M
  nu = renumbered_import number item

  abbrev IsNumber : N → M → Type 0
  IsNumber n k = number n ≡ Some k

  abbrev IsName : M → N → Type 0
  IsName k n = number n ≡ Some k

  abbrev To : Thing I → Thing J → Type 0
  To t t' = nt t ≡ t'

  abbrev From : Thing J → Thing I → Type 0
  From t' t = nt t ≡ t'

  abbrev nd : NameDeclaration N I → M → NameDeclaration M J
  nd x k = record { parent = x.parent; namespace = x.namespace; name = k; thing = nt x.thing; visibility = x.visibility; is_sure = x.is_sure }

  path_numbered : (i : ℕ) (u : PathImport N) → IsImport c i u → AllNumbered number u.names
  unfolding AllNumbered
  path_numbered i u is n has = ok.asked i u n is has

  glob_same : (b : Binding N) → is_glob_binding (numbered_binding number item b) ≡ is_glob_binding b
  glob_same a_glob = refl
  glob_same (a_name n) = by (number n)
    where
      by : (o : Option M) → is_glob_binding (option_map_or a_name o underscore) ≡ false
      by None = refl
      by (Some k) = refl
  glob_same underscore = refl
  glob_same nameless = refl

  binding_to : (b : Binding N) (n : N) (k : M) → b ≡ a_name n → number n ≡ Some k → numbered_binding number item b ≡ a_name k
  binding_to b n k binds numbers = ap (numbered_binding number item) binds ∙ ap (λ o. option_map_or a_name o underscore) numbers

  binding_from : (b : Binding N) (k : M) (n : N) → numbered_binding number item b ≡ a_name k → number n ≡ Some k → b ≡ a_name n
  binding_from a_glob k n binds is = absurd (none-some k (ap bound binds))
  binding_from (a_name m) k n binds is = ap a_name (ok.different m n k (by (number m) binds) is)
    where
      by : (o : Option M) → option_map_or a_name o underscore ≡ a_name k → o ≡ Some k
      by None h = absurd (none-some k (ap bound h))
      by (Some j) h = ap bound h
  binding_from underscore k n binds is = absurd (none-some k (ap bound binds))
  binding_from nameless k n binds is = absurd (none-some k (ap bound binds))

  module_from : (m : ℕ) (t : Thing I) → nt t ≡ a_module m → t ≡ a_module m
  module_from m (a_module x) same = ap a_module (same_module x m same)
  module_from m (an_item x) same = absurd (not_module (an_item (item x)) m refl same)
  module_from m (a_scope x) same = absurd (not_module (a_scope (item x)) m refl same)
  module_from m unseen same = absurd (not_module {K = J} unseen m refl same)

  open_to : (t : Thing I) → IsOpen t ↔ IsOpen (nt t)
  open_to (a_module m) = (λ h. h, λ h. h)
  open_to (an_item x) = (λ h. h, λ h. h)
  open_to (a_scope x) = (λ h. h, λ h. h)
  open_to unseen = (λ h. h, λ h. h)

  hides_to : (m : ℕ) (ns : Namespace) (n : N) (k : M) → number n ≡ Some k → Hides c m ns n → Hides e m ns k
  hides_to m ns n k is (x, has, parent, namespace, name, sure) =
      (nd x k, contains_kept (numbered_declaration number item) c.declarations x (nd x k) has (ap (option_map (nd x)) (ap number name ∙ is)), parent, namespace, refl, sure)

  declaration_from : (y : NameDeclaration M J) → Contains e.declarations y → (x : NameDeclaration N I) × (k : M) × Contains c.declarations x × (number x.name ≡ Some k) × (nd x k ≡ y)
  declaration_from y has =
      let (x, from, says) = contains_source (numbered_declaration number item) c.declarations y has in
      let (k, is, same) = map_source (nd x) (number x.name) y says in (x, k, from, is, same)

  hides_from : (m : ℕ) (ns : Namespace) (k : M) (n : N) → number n ≡ Some k → Hides e m ns k → Hides c m ns n
  hides_from m ns k n is (y, has, parent, namespace, name, sure) =
      let (x, j, from, numbers, same) = declaration_from y has in (
        x,
        from,
        ap (λ (z : NameDeclaration M J). z.parent) same ∙ parent,
        ap (λ (z : NameDeclaration M J). z.namespace) same ∙ namespace,
        ok.different x.name n k (numbers ∙ ap Some (ap (λ (z : NameDeclaration M J). z.name) same ∙ name)) is,
        ap (λ (z : NameDeclaration M J). z.is_sure) same ∙ sure,
      )

  pub import_to : (i : ℕ) (u : PathImport N) → IsImport c i u → (w : PathImport M) × IsImport e i w × IsImportLike IsNumber u w
  import_to i u is = (
    nu u,
    slice_get-map nu c.imports i ∙ ap (option_map nu) is,
    record {
      parent = refl;
      start = refl;
      of_types = refl;
      visibility = refl;
      length = kept_length number u.names (path_numbered i u is);
      names = λ k n has.
          let (y, numbers) = ok.asked i u n is (got u.names k n has) in
          (y, kept_get number u.names k n y (path_numbered i u is) has numbers, numbers);
      glob = glob_same u.binding;
      bound = λ n k binds numbers. binding_to u.binding n k binds numbers;
    },
  )

  pub import_from : (i : ℕ) (w : PathImport M) → IsImport e i w → (u : PathImport N) × IsImport c i u × IsImportLike IsName w u
  import_from i w is =
      let (u, from, same) = map_source nu (slice_get c.imports i) w (sym (slice_get-map nu c.imports i) ∙ is) in (
        u,
        from,
        subst (λ (z : PathImport M). IsImportLike IsName z u) same (record {
          parent = refl;
          start = refl;
          of_types = refl;
          visibility = refl;
          length = sym (kept_length number u.names (path_numbered i u from));
          names = λ k y has. kept_source number u.names k y (path_numbered i u from) has;
          glob = sym (glob_same u.binding);
          bound = λ k n binds numbers. binding_from u.binding k n binds numbers;
        }),
      )

  others_to : (n : N) (k : M) (t : Thing I) → number n ≡ Some k → IsOther c.others n t → (t' : Thing J) × IsOther e.others k t' × To t t'
  others_to n k t is other = (nt t, by c.others other, refl)
    where
      by : (o : Option (List (N × Thing I))) → IsOther o n t → IsOther (option_map (filter_map (numbered_other number item)) o) k (nt t)
      by None h = ap nt h
      by (Some others) h = contains_kept (numbered_other number item) others (n, t) (k, nt t) h (ap (option_map (λ (z : M). (z, nt t))) is)

  others_from : (k : M) (n : N) (t' : Thing J) → number n ≡ Some k → IsOther e.others k t' → (t : Thing I) × IsOther c.others n t × From t' t
  others_from k n t' is other = by c.others other
    where
      by : (o : Option (List (N × Thing I))) → IsOther (option_map (filter_map (numbered_other number item)) o) k t' → (t : Thing I) × IsOther o n t × From t' t
      by None h = (unseen, refl, sym h)
      by (Some others) h =
          let (p, from, says) = contains_source (numbered_other number item) others (k, t') h in
          let (j, numbers, same) = map_source (λ (z : M). (z, nt p.1)) (number p.0) (k, t') says in
          (p.1, subst (λ (z : N). Contains others (z, p.1)) (ok.different p.0 n k (numbers ∙ ap Some (ap (λ (q : M × Thing J). q.0) same)) is) from, ap (λ (q : M × Thing J). q.1) same)

  macros_from : (k : M) (n : N) (y : J) → number n ≡ Some k → Contains e.macro_rules (k, y) → (x : I) × Contains c.macro_rules (n, x) × From (an_item y) (an_item x)
  macros_from k n y is has =
      let (p, from, says) = contains_source (numbered_macro number item) c.macro_rules (k, y) has in
      let (j, numbers, same) = map_source (λ (z : M). (z, item p.1)) (number p.0) (k, y) says in
      (p.1, subst (λ (z : N). Contains c.macro_rules (z, p.1)) (ok.different p.0 n k (numbers ∙ ap Some (ap (λ (q : M × J). q.0) same)) is) from, ap (λ (q : M × J). an_item q.1) same)

  pub like_to : IsLike IsNumber To c e
  like_to = record {
    modules = λ m. refl;
    module_alone = λ m t same. sym same;
    unseen_too = refl;
    open_too = λ t t' same h. subst IsOpen same ((open_to t).0 h);
    parents = refl;
    edition = refl;
    veils = λ x has. has;
    declarations = λ x k has is. (nt x.thing, refl, declared (nd x k) (contains_kept (numbered_declaration number item) c.declarations x (nd x k) has (ap (option_map (nd x)) is)));
    hides = hides_from';
    imports = import_to;
    others = others_to;
    macros = λ n k x is has. (item x, contains_kept (numbered_macro number item) c.macro_rules (n, x) (k, item x) has (ap (option_map (λ (z : M). (z, item x))) is), refl);
  }
    where
      hides_from' : (m : ℕ) (ns : Namespace) (n : N) (k : M) → number n ≡ Some k → Hides e m ns k → Hides c m ns n
      hides_from' m ns n k is h = hides_from m ns k n is h

  pub like_from : IsLike IsName From e c
  like_from = record {
    modules = λ m. refl;
    module_alone = module_from;
    unseen_too = refl;
    open_too = λ t' t same h. (open_to t).1 (subst IsOpen (sym same) h);
    parents = refl;
    edition = refl;
    veils = λ x has. has;
    declarations = λ y n has is.
        let (x, k, from, numbers, same) = declaration_from y has in (
          x.thing,
          ap (λ (z : NameDeclaration M J). z.thing) same,
          subst (λ (z : N). Derives c (names y.parent y.namespace (Some z) x.thing y.visibility))
              (ok.different x.name n y.name (numbers ∙ ap Some (ap (λ (z : NameDeclaration M J). z.name) same)) is)
              (subst (λ (z : NameDeclaration M J). Derives c (names z.parent z.namespace (Some x.name) x.thing z.visibility)) same (declared x from)),
        );
    hides = λ m ns k n is h. hides_to m ns n k is h;
    imports = import_from;
    others = others_from;
    macros = macros_from;
  }

  -- ---- both

  to_fact : (f : Fact N I) (g : Fact M J) → numbered_fact number item f ≡ Some g → Goes IsNumber To c e like_to f → Derives e g
  to_fact (names m ns None t v) g is (t', same, h) = subst (Derives e) (ap (λ z. names m ns None z v) (sym same) ∙ same_Some (names m ns None (nt t) v) g is) h
  to_fact (names m ns (Some n) t v) g is h =
      let (name, some, is_g) = map_source (λ (x : Option M). names m ns x (nt t) v) (option_map Some (number n)) g is in
      let (k, numbers, is_name) = map_source Some (number n) name some in
      let (t', same, named) = h k numbers in
      subst (Derives e) (ap (λ z. names m ns (Some k) z v) (sym same) ∙ ap (λ z. names m ns z (nt t) v) is_name ∙ is_g) named
  to_fact (stands i k t) g is (t', same, h) = subst (Derives e) (ap (λ z. stands i k z) (sym same) ∙ same_Some (stands i k (nt t)) g is) h
  to_fact (gives i ns t v) g is (t', same, h) = subst (Derives e) (ap (λ z. gives i ns z v) (sym same) ∙ same_Some (gives i ns (nt t) v) g is) h

  abbrev pub Back : Fact M J → Type 0
  Back g = (same : Fact N I) × (numbered_fact number item same ≡ Some g) × Derives c same

  -- each name that is derived is a number
  abbrev IsNumbered : Fact M J → Type 0
  IsNumbered (names m ns None t v) = Unit {0}
  IsNumbered (names m ns (Some k) t v) = (n : N) × (number n ≡ Some k)
  IsNumbered (stands i k t) = Unit {0}
  IsNumbered (gives i ns t v) = Unit {0}

  bound_number : (b : Binding N) (k : M) → numbered_binding number item b ≡ a_name k → (n : N) × (number n ≡ Some k)
  bound_number a_glob k binds = absurd (none-some k (ap bound binds))
  bound_number (a_name n) k binds = (n, by (number n) binds)
    where
      by : (o : Option M) → option_map_or a_name o underscore ≡ a_name k → o ≡ Some k
      by None h = absurd (none-some k (ap bound h))
      by (Some j) h = ap bound h
  bound_number underscore k binds = absurd (none-some k (ap bound binds))
  bound_number nameless k binds = absurd (none-some k (ap bound binds))

  copied_name : (m into : ℕ) (ns : Namespace) (name : Option M) (t : Thing J) (v w : Visibility) → IsNumbered (names m ns name t v) → IsNumbered (names into ns name t w)
  copied_name m into ns None t v w h = tt
  copied_name m into ns (Some k) t v w h = h

  numbered : (g : Fact M J) → Derives e g → IsNumbered g
  numbered g (declared x has) = let (y, k, from, is, same) = declaration_from x has in (y.name, is ∙ ap Some (ap (λ (z : NameDeclaration M J). z.name) same))
  numbered g (veiled x has) = tt
  numbered g (begins u is start) = tt
  numbered g (elsewhere {ns = ns} {t = t} {v = v} {f = f} i u is leave first other free says) = reading_cases IsNumbered i u 0 ns t v f says (λ inner types. tt) (λ last wanted. tt)
  numbered g (leads u is stand has inner named covers seen) = tt
  numbered g (ends u is stand has last wanted named covers seen) = tt
  numbered g (gives_start u is glob none stand) = tt
  numbered g (copies {m = m} {ns = ns} {name = name} {t = t} {v = v} u is glob stand named seen free) =
      copied_name m u.parent ns name t v (narrower e.parents v u.visibility) (numbered (names m ns name t v) named)
  numbered g (imports {n = k} u is binds given) =
      let (w, from, same) = map_source nu (slice_get c.imports _) u (sym (slice_get-map nu c.imports _) ∙ is) in bound_number w.binding k (ap (λ (z : PathImport M). z.binding) same ∙ binds)
  numbered g (opens u ns is glob stand open') = tt
  numbered g (exports u is glob stand) = tt
  numbered g (passes {i = i} {k = k} {f = f} u ns is stand open' has says) = reading_cases IsNumbered i u k ns unseen Public f says (λ inner types. tt) (λ last wanted. tt)

  pub derived_back : (g : Fact M J) → Derives e g → Back g
  derived_back (names m ns None t v) h = let (x, same, named) = goes IsName From e c like_from (names m ns None t v) h in (names m ns None x v, ap (λ z. Some (names m ns None z v)) same, named)
  derived_back (names m ns (Some k) t v) h =
      let (n, is) = numbered (names m ns (Some k) t v) h in
      let (x, same, named) = goes IsName From e c like_from (names m ns (Some k) t v) h n is in
      (names m ns (Some n) x v, ap (λ z. option_map (λ (y : Option M). names m ns y z v) (option_map Some (number n))) same ∙ ap (λ o. option_map (λ (y : Option M). names m ns y t v) (option_map Some o)) is, named)
  derived_back (stands i k t) h = let (x, same, stand) = goes IsName From e c like_from (stands i k t) h in (stands i k x, ap (λ z. Some (stands i k z)) same, stand)
  derived_back (gives i ns t v) h = let (x, same, given) = goes IsName From e c like_from (gives i ns t v) h in (gives i ns x v, ap (λ z. Some (gives i ns z v)) same, given)

  pub copied_back : (from into : ℕ) (v : Visibility) → IsGlobCopy e from into v → IsGlobCopy c from into v
  copied_back from into v (i, w, is', glob, parent, visibility, stand) =
      let (u, is, l) = import_from i w is' in
      let (t, same, h) = goes IsName From e c like_from (stands i (length w.names) (a_module from)) stand in
      (i, u, is, l.glob ∙ glob, l.parent ∙ parent, l.visibility ∙ visibility, subst (λ z. Derives c (stands i z (a_module from))) (sym l.length) (subst (λ z. Derives c (stands i (length w.names) z)) (module_from from t same) h))

  pub derives_alike : DerivesAlike number item c
  derives_alike = record { to_numbers = λ f g is h. to_fact f g is (goes IsNumber To c e like_to f h); from_numbers = λ g h. derived_back g h }
