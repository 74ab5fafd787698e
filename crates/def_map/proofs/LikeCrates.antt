-- The rules say the same of two crates that are alike by relations of their names and things.
use Rattle.std.proofs.Common.{◌≡◌, ℕ, suc, Bool, true, false, List, [], ◌∷◌, Option, Some, None, slice_get, if◌then◌else◌, refl, sym, ap, subst, ◌∙◌, length, Contains, arith, ltb}
use Rattle.std.proofs.lemmas.Option.{same_Some}
use Rattle.def_map.specs.declared.kinds.Namespace.{Namespace}
use Rattle.def_map.specs.declared.kinds.Namespace.TheVariants.{Types, Values, Macros}
use Rattle.def_map.specs.declared.kinds.PathStart.{PathStart}
use Rattle.def_map.specs.declared.kinds.PathStart.TheVariants.{Crate as from_root, Super, Plain, Abs}
use Rattle.def_map.specs.declared.kinds.Visibility.{Visibility}
use Rattle.def_map.specs.declared.kinds.Visibility.TheVariants.{Public}
use Rattle.def_map.specs.Crates.{Crate, Thing, a_module, an_item, unseen, NameDeclaration, a_name, PathImport, Veil, module_above, module_sees, narrower, Hides}
use Rattle.def_map.specs.Facts.{Fact, names, stands, gives, is_glob_import, is_inner_name, is_wanted, reading, IsOpen, IsImport, start_by, import_start, may_leave, IsOther, IsElsewhere, an_other, any_other, a_macro, Covers, IsFree, Derives, declared, veiled, begins, elsewhere, leads, ends, gives_start, copies, imports, opens, exports, passes}
use Rattle.def_map.specs.Verdicts.{IsSeen, HasNames, is_at_least, LeadsTo, to_given, to_glob, IsTooWide, IsPrivate, Asks, asks_inner, asks_last}
use Rattle.def_map.proofs.Reading.{reading_inner, reading_last, reading_cases}

-- an import after another
pub record IsImportLike {N M : Type 0} (R : N → M → Type 0) (u : PathImport N) (w : PathImport M) : Type 0 where
  pub parent : w.parent ≡ u.parent
  pub start : w.start ≡ u.start
  pub of_types : w.of_types ≡ u.of_types
  pub visibility : w.visibility ≡ u.visibility
  pub length : length w.names ≡ length u.names
  pub names : (k : ℕ) (n : N) → slice_get u.names k ≡ Some n → (m : M) × (slice_get w.names k ≡ Some m) × R n m
  pub glob : is_glob_import w ≡ is_glob_import u
  pub bound : (n : N) (m : M) → u.binding ≡ a_name n → R n m → w.binding ≡ a_name m

pub record IsLike {N I M J : Type 0} (R : N → M → Type 0) (S : Thing I → Thing J → Type 0) (c : Crate N I) (e : Crate M J) : Type 0 where
  pub modules : (m : ℕ) → S (a_module m) (a_module m)
  pub module_alone : (m : ℕ) (t : Thing J) → S (a_module m) t → t ≡ a_module m
  pub unseen_too : S unseen unseen
  pub open_too : (t : Thing I) (t' : Thing J) → S t t' → IsOpen t → IsOpen t'
  pub parents : e.parents ≡ c.parents
  pub edition : e.is_2015 ≡ c.is_2015
  pub veils : (x : Veil) → Contains c.veils x → Contains e.veils x
  pub declarations : (x : NameDeclaration N I) (n : M) → Contains c.declarations x → R x.name n → (t : Thing J) × S x.thing t × Derives e (names x.parent x.namespace (Some n) t x.visibility)
  pub hides : (m : ℕ) (ns : Namespace) (n : N) (k : M) → R n k → Hides e m ns k → Hides c m ns n
  pub imports : (i : ℕ) (u : PathImport N) → IsImport c i u → (w : PathImport M) × IsImport e i w × IsImportLike R u w
  pub others : (n : N) (k : M) (t : Thing I) → R n k → IsOther c.others n t → (t' : Thing J) × IsOther e.others k t' × S t t'
  pub macros : (n : N) (k : M) (x : I) → R n k → Contains c.macro_rules (n, x) → (y : J) × Contains e.macro_rules (k, y) × S (an_item x) (an_item y)

module _ {N I M J : Type 0} (R : N → M → Type 0) (S : Thing I → Thing J → Type 0) (c : Crate N I) (e : Crate M J) (like : IsLike R S c e) where
  -- what is derived of the first is derived of the second
  abbrev pub Goes : Fact N I → Type 0
  Goes (names m ns None t v) = (t' : Thing J) × S t t' × Derives e (names m ns None t' v)
  Goes (names m ns (Some n) t v) = (k : M) → R n k → (t' : Thing J) × S t t' × Derives e (names m ns (Some k) t' v)
  Goes (stands i k t) = (t' : Thing J) × S t t' × Derives e (stands i k t')
  Goes (gives i ns t v) = (t' : Thing J) × S t t' × Derives e (gives i ns t' v)

  inner_like : (u : PathImport N) (w : PathImport M) (k : ℕ) → IsImportLike R u w → is_inner_name w k ≡ is_inner_name u k
  inner_like u w k l = ap (λ (b : Bool). if b then true else ltb (suc k) (length w.names)) l.glob ∙ ap (λ z. if is_glob_import u then true else ltb (suc k) z) l.length

  wanted_like : (u : PathImport N) (w : PathImport M) (ns : Namespace) → IsImportLike R u w → is_wanted w ns ≡ is_wanted u ns
  wanted_like u w Types l = refl
  wanted_like u w Values l = ap (λ (b : Bool). if b then false else true) l.of_types
  wanted_like u w Macros l = ap (λ (b : Bool). if b then false else true) l.of_types

  start_like : (u : PathImport N) (w : PathImport M) → IsImportLike R u w → import_start e w ≡ import_start c u
  start_like u w l = ap (λ z. start_by e z w.parent) l.start ∙ ap (start_by e u.start) l.parent ∙ by u.start
    where
      by : (start : PathStart) → start_by e start u.parent ≡ start_by c start u.parent
      by from_root = refl
      by (Super count) = ap (λ z. module_above z count u.parent) like.parents
      by Plain = ap (λ (b : Bool). if b then Some 0 else Some u.parent) like.edition
      by Abs = ap (λ (b : Bool). if b then Some 0 else None) like.edition

  sees_like : (u : PathImport N) (w : PathImport M) (v : Visibility) → IsImportLike R u w → module_sees c.parents u.parent v ≡ true → module_sees e.parents w.parent v ≡ true
  sees_like u w v l h = ap (λ z. module_sees z w.parent v) like.parents ∙ ap (λ z. module_sees c.parents z v) l.parent ∙ h

  -- the names of w's module are those of u's
  at_home : (u : PathImport N) (w : PathImport M) (ns : Namespace) (name : Option M) (t : Thing J) (v : Visibility) → IsImportLike R u w
      → Derives e (names w.parent ns name t (narrower e.parents v w.visibility)) → Derives e (names u.parent ns name t (narrower c.parents v u.visibility))
  at_home u w ns name t v l h = subst (λ z. Derives e (names z ns name t (narrower c.parents v u.visibility))) l.parent
      (subst (λ z. Derives e (names w.parent ns name t (narrower c.parents v z))) l.visibility
      (subst (λ z. Derives e (names w.parent ns name t (narrower z v w.visibility))) like.parents h))

  read_like : (i : ℕ) (u : PathImport N) (w : PathImport M) (k : ℕ) (ns : Namespace) (t : Thing I) (t' : Thing J) (v : Visibility) (f : Fact N I) → IsImportLike R u w → S t t'
      → reading i u k ns t v ≡ Some f → ((g : Fact M J) → reading i w k ns t' v ≡ Some g → Derives e g) → Goes f
  read_like i u w k ns t t' v f l s says h = reading_cases Goes i u k ns t v f says
      (λ inner types. (t', s, h (stands i (suc k) t') (subst (λ z. reading i w k z t' v ≡ Some (stands i (suc k) t')) (sym types) (reading_inner i w k t' v (inner_like u w k l ∙ inner)))))
      (λ last wanted. (t', s, h (gives i ns t' v) (reading_last i w k ns t' v (inner_like u w k l ∙ last) (wanted_like u w ns l ∙ wanted))))

  stand_like : (i k m : ℕ) → Goes (stands i k (a_module m)) → Derives e (stands i k (a_module m))
  stand_like i k m (t, s, stand) = subst (λ z. Derives e (stands i k z)) (like.module_alone m t s) stand

  -- a name that is asked for
  asked_like : (m : ℕ) (ns : Namespace) (n : N) (k : M) (name : Option N) (t : Thing I) (v : Visibility) → R n k → Goes (names m ns name t v) → Covers c m ns name n
      → (name' : Option M) × (t' : Thing J) × S t t' × Derives e (names m ns name' t' v) × Covers e m ns name' k
  asked_like m ns n k None t v r (t', s, named) covers = (None, t', s, named, λ h. covers (like.hides m ns n k r h))
  asked_like m ns n k (Some x) t v r named covers = let g = named k (subst (λ z. R z k) (sym covers) r) in (Some k, g.0, g.1, g.2, refl)

  elsewhere_like : (u : PathImport N) (w : PathImport M) (n : N) (k : M) (ns : Namespace) (t : Thing I) (v : Visibility) → IsImportLike R u w → R n k → IsElsewhere c u n ns t v
      → (t' : Thing J) × S t t' × IsElsewhere e w k ns t' v
  elsewhere_like u w n k ns t v l r (an_other {t = x} inner other) = let o = like.others n k x r other in (o.0, o.2, an_other (inner_like u w 0 l ∙ inner) o.1)
  elsewhere_like u w n k ns t v l r (any_other s last) = (unseen, like.unseen_too, any_other s (inner_like u w 0 l ∙ last))
  elsewhere_like u w n k ns t v l r (a_macro x plain last has) = let m = like.macros n k x r has in (an_item m.0, m.2, a_macro m.0 (l.start ∙ plain) (inner_like u w 0 l ∙ last) m.1)

  go_elsewhere : (i : ℕ) (ns : Namespace) (n : N) (t : Thing I) (v : Visibility) (f : Fact N I) (u : PathImport N) → IsImport c i u → may_leave u.start ≡ true → slice_get u.names 0 ≡ Some n
      → IsElsewhere c u n ns t v → ((m : ℕ) → import_start c u ≡ Some m → Hides c m ns n → ⊥) → reading i u 0 ns t v ≡ Some f → Goes f
  go_elsewhere i ns n t v f u is leave first other free says =
      let (w, is', l) = like.imports i u is in
      let (k, has, r) = l.names 0 n first in
      let (t', s, other') = elsewhere_like u w n k ns t v l r other in
      read_like i u w 0 ns t t' v f l s says
      (λ g say. elsewhere i w is' (ap may_leave l.start ∙ leave) has other' (λ m start h. free m (sym (start_like u w l) ∙ start) (like.hides m ns n k r h)) say)

  go_reads : (i k m : ℕ) (ns : Namespace) (n : N) (name : Option N) (t : Thing I) (v : Visibility) (f : Fact N I) (u : PathImport N) → IsImport c i u → Goes (stands i k (a_module m))
      → slice_get u.names k ≡ Some n → Goes (names m ns name t v) → Covers c m ns name n → module_sees c.parents u.parent v ≡ true → reading i u k ns t v ≡ Some f → Goes f
  go_reads i k m ns n name t v f u is stand has named covers seen says =
      let (w, is', l) = like.imports i u is in
      let (y, has', r) = l.names k n has in
      let (name', t', s, named', covers') = asked_like m ns n y name t v r named covers in
      let here = sees_like u w v l seen in
      reading_cases Goes i u k ns t v f says
      (λ inner types. (
        t',
        s,
        leads w is' (stand_like i k m stand) has' (inner_like u w k l ∙ inner) (subst (λ z. Derives e (names m z name' t' v)) types named')
            (subst (λ z. Covers e m z name' y) types covers') here,
      ))
      (λ last wanted. (t', s, ends w is' (stand_like i k m stand) has' (inner_like u w k l ∙ last) (wanted_like u w ns l ∙ wanted) named' covers' here))

  go_copies : (i m : ℕ) (ns : Namespace) (name : Option N) (t : Thing I) (v : Visibility) (u : PathImport N) → IsImport c i u → is_glob_import u ≡ true → Goes (stands i (length u.names) (a_module m))
      → Goes (names m ns name t v) → module_sees c.parents u.parent v ≡ true → IsFree c u.parent ns name → Goes (names u.parent ns name t (narrower c.parents v u.visibility))
  go_copies i m ns name t v u is glob stand named seen free =
      let (w, is', l) = like.imports i u is in
      by w is' l (subst (λ z. Derives e (stands i z (a_module m))) (sym l.length) (stand_like i (length u.names) m stand)) name named free
    where
      by : (w : PathImport M) → IsImport e i w → IsImportLike R u w → Derives e (stands i (length w.names) (a_module m)) → (name : Option N) → Goes (names m ns name t v) → IsFree c u.parent ns name
          → Goes (names u.parent ns name t (narrower c.parents v u.visibility))
      by w is' l there None (t', s, h) free = (t', s, at_home u w ns None t' v l (copies w is' (l.glob ∙ glob) there h (sees_like u w v l seen) tt))
      by w is' l there (Some n) h free = λ k r.
          let (t', s, named') = h k r in (
            t',
            s,
            at_home u w ns (Some k) t' v l (copies w is' (l.glob ∙ glob) there named' (sees_like u w v l seen)
                (λ x. free (like.hides u.parent ns n k r (subst (λ z. Hides e z ns k) l.parent x)))),
          )

  go_imports : (i : ℕ) (ns : Namespace) (n : N) (t : Thing I) (v : Visibility) (u : PathImport N) → IsImport c i u → u.binding ≡ a_name n → Goes (gives i ns t v)
      → Goes (names u.parent ns (Some n) t (narrower c.parents v u.visibility))
  go_imports i ns n t v u is binds (t', s, given) = λ k r.
      let (w, is', l) = like.imports i u is in (t', s, at_home u w ns (Some k) t' v l (imports w is' (l.bound n k binds r) given))

  go_opens : (i : ℕ) (ns : Namespace) (t : Thing I) (u : PathImport N) → IsImport c i u → is_glob_import u ≡ true → Goes (stands i (length u.names) t) → IsOpen t → Goes (names u.parent ns None unseen u.visibility)
  go_opens i ns t u is glob (t', s, stand) open' =
      let (w, is', l) = like.imports i u is in (
        unseen,
        like.unseen_too,
        subst (λ z. Derives e (names z ns None unseen u.visibility)) l.parent (subst (λ z. Derives e (names w.parent ns None unseen z)) l.visibility
            (opens w ns is' (l.glob ∙ glob) (subst (λ z. Derives e (stands i z t')) (sym l.length) stand) (like.open_too t t' s open'))),
      )

  go_exports : (i : ℕ) (u : PathImport N) → IsImport c i u → is_glob_import u ≡ true → Goes (stands i (length u.names) (a_module 0)) → Goes (names u.parent Macros None unseen u.visibility)
  go_exports i u is glob stand =
      let (w, is', l) = like.imports i u is in (
        unseen,
        like.unseen_too,
        subst (λ z. Derives e (names z Macros None unseen u.visibility)) l.parent (subst (λ z. Derives e (names w.parent Macros None unseen z)) l.visibility
            (exports w is' (l.glob ∙ glob) (subst (λ z. Derives e (stands i z (a_module 0))) (sym l.length) (stand_like i (length u.names) 0 stand)))),
      )

  go_passes : (i k : ℕ) (n : N) (t : Thing I) (f : Fact N I) (u : PathImport N) (ns : Namespace) → IsImport c i u → Goes (stands i k t) → IsOpen t → slice_get u.names k ≡ Some n
      → reading i u k ns unseen Public ≡ Some f → Goes f
  go_passes i k n t f u ns is (t', s, stand) open' has says =
      let (w, is', l) = like.imports i u is in
      let (y, has', r) = l.names k n has in
      read_like i u w k ns unseen unseen Public f l like.unseen_too says (λ g say. passes w ns is' stand (like.open_too t t' s open') has' say)

  go_start : (i : ℕ) (t : Thing I) (u : PathImport N) → IsImport c i u → is_glob_import u ≡ false → u.names ≡ [] → Goes (stands i 0 t) → Goes (gives i Types t Public)
  go_start i t u is glob none (t', s, stand) =
      let (w, is', l) = like.imports i u is in (t', s, gives_start w is' (l.glob ∙ glob) (empty w.names (l.length ∙ ap (λ z. length z) none)) stand)
    where
      empty : (xs : List M) → length xs ≡ 0 → xs ≡ []
      empty [] h = refl
      empty (x ∷ xs) h = absurd (omega (arith, h))

  pub goes : (f : Fact N I) → Derives c f → Goes f
  goes f (declared x has) = λ k r. like.declarations x k has r
  goes f (veiled x has) = (unseen, like.unseen_too, veiled x (like.veils x has))
  goes f (begins {i = i} {m = m} u is start) = let (w, is', l) = like.imports i u is in (a_module m, like.modules m, begins w is' (start_like u w l ∙ start))
  goes f (elsewhere {ns = ns} {n = n} {t = t} {v = v} {f = g} i u is leave first other free says) = go_elsewhere i ns n t v g u is leave first other free says
  goes f (leads {i = i} {k = k} {m = m} {n = n} {name = name} {t = t} {v = v} u is stand has inner named covers seen) =
      go_reads i k m Types n name t v (stands i (suc k) t) u is (goes (stands i k (a_module m)) stand) has (goes (names m Types name t v) named) covers seen (reading_inner i u k t v inner)
  goes f (ends {i = i} {k = k} {m = m} {ns = ns} {n = n} {name = name} {t = t} {v = v} u is stand has last wanted named covers seen) =
      go_reads i k m ns n name t v (gives i ns t v) u is (goes (stands i k (a_module m)) stand) has (goes (names m ns name t v) named) covers seen (reading_last i u k ns t v last wanted)
  goes f (gives_start {i = i} {t = t} u is glob none stand) = go_start i t u is glob none (goes (stands i 0 t) stand)
  goes f (copies {i = i} {m = m} {ns = ns} {name = name} {t = t} {v = v} u is glob stand named seen free) =
      go_copies i m ns name t v u is glob (goes (stands i (length u.names) (a_module m)) stand) (goes (names m ns name t v) named) seen free
  goes f (imports {i = i} {ns = ns} {n = n} {t = t} {v = v} u is binds given) = go_imports i ns n t v u is binds (goes (gives i ns t v) given)
  goes f (opens {i = i} {t = t} u ns is glob stand open') = go_opens i ns t u is glob (goes (stands i (length u.names) t) stand) open'
  goes f (exports {i = i} u is glob stand) = go_exports i u is glob (goes (stands i (length u.names) (a_module 0)) stand)
  goes f (passes {i = i} {k = k} {n = n} {t = t} {f = g} u ns is stand open' has says) = go_passes i k n t g u ns is (goes (stands i k t) stand) open' has says

  -- where an import leads
  pub leads_like : (names_too : (t : Thing I) (t' : Thing J) → S t t' → HasNames t → HasNames t') (i : ℕ) (t : Thing I) → LeadsTo c i t → (t' : Thing J) × S t t' × LeadsTo e i t'
  leads_like names_too i t (to_given {ns = ns} {t = x} {v = v} given) = let (t', s, h) = goes (gives i ns x v) given in (t', s, to_given h)
  leads_like names_too i t (to_glob {t = x} u is glob stand has) =
      let (t', s, h) = goes (stands i (length u.names) x) stand in
      let (w, is', l) = like.imports i u is in
      (t', s, to_glob w is' (l.glob ∙ glob) (subst (λ z. Derives e (stands i z t')) (sym l.length) h) (names_too x t' s has))

  pub wide_like : (seen_back : (t : Thing I) (t' : Thing J) → S t t' → IsSeen t' → IsSeen t) (i : ℕ) (u : PathImport N) → IsImport c i u → IsTooWide e i → IsTooWide c i
  wide_like seen_back i u is (w, is', glob, wide) =
      let (x, x_is, l) = like.imports i u is in
      let same : x ≡ w = same_Some x w (sym x_is ∙ is') in (
        u,
        is,
        sym l.glob ∙ ap (λ z. is_glob_import z) same ∙ glob,
        λ ns t v given.
            let (t', s, given') = goes (gives i ns t v) given in
            let h = wide ns t' v given' in
            (seen_back t t' s h.0, ap (λ z. is_at_least z v u.visibility) (sym like.parents) ∙ ap (is_at_least e.parents v) (sym l.visibility ∙ ap (λ (z : PathImport M). z.visibility) same) ∙ h.1),
      )

  asks_like : (i m : ℕ) (ns : Namespace) (n : N) → Asks c i m ns n → (k : M) × R n k × Asks e i m ns k
  asks_like i m ns n (asks_inner {k = k} {m = at} {n = x} u is stand has inner) =
      let (w, is', l) = like.imports i u is in
      let (y, has', r) = l.names k x has in
      (y, r, asks_inner w is' (stand_like i k at (goes (stands i k (a_module at)) stand)) has' (inner_like u w k l ∙ inner))
  asks_like i m ns n (asks_last {k = k} {m = at} {n = x} u s is stand has last wanted) =
      let (w, is', l) = like.imports i u is in
      let (y, has', r) = l.names k x has in
      (y, r, asks_last w s is' (stand_like i k at (goes (stands i k (a_module at)) stand)) has' (inner_like u w k l ∙ last) (wanted_like u w s l ∙ wanted))

  pub private_like : (i : ℕ) → IsPrivate c i → IsPrivate e i
  private_like i (u, m, ns, n, t, v, is, asks, named, hidden) =
      let (w, is', l) = like.imports i u is in
      let (k, r, asks') = asks_like i m ns n asks in
      let (t', s, named') = goes (names m ns (Some n) t v) named k r in
      (w, m, ns, k, t', v, is', asks', named', ap (λ z. module_sees z w.parent v) like.parents ∙ ap (λ z. module_sees c.parents z v) l.parent ∙ hidden)
