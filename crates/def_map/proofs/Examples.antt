-- Tiny crates: what is derived of them, and what is not.
use Rattle.std.proofs.Common.{◌≡◌, ℕ, zero, suc, ◌==◌, eq-eqb, Bool, true, false, List, [], ◌∷◌, Some, None, refl, sym, ap, subst, ◌∙◌, arith}
use Rattle.std.proofs.lemmas.Option.{none-some, same_Some}
use Rattle.std.proofs.lemmas.Bool.{false≢true, true≢false}
use Rattle.def_map.specs.declared.kinds.{Namespace.Namespace, PathStart.PathStart}
use Rattle.def_map.specs.declared.kinds.Namespace.TheVariants.{Types}
use Rattle.def_map.specs.declared.kinds.PathStart.TheVariants.{Crate as from_root, Super}
use Rattle.def_map.specs.declared.kinds.Visibility.TheVariants.{Public, Module}
use Rattle.def_map.specs.Crates.{Crate, Thing, a_module, unseen, NameDeclaration, Binding, a_glob, a_name, PathImport, Veil, Hides}
use Rattle.def_map.specs.Facts.{Fact, names, stands, gives, IsImport, Derives, IsOpen, import_start, may_leave, is_glob_import, declared, veiled, begins, elsewhere, leads, ends, gives_start, copies, imports, opens, exports, passes}
use Rattle.def_map.proofs.Telling.{of_any}
use Rattle.def_map.specs.Verdicts.{LeadsTo, to_given, to_glob, LeadsNowhere}

abbrev public : ℕ → Namespace → ℕ → Thing ℕ → NameDeclaration ℕ ℕ
public m ns n t = record { parent = m; namespace = ns; name = n; thing = t; visibility = Public; is_sure = true }

abbrev use_in : ℕ → PathStart → List ℕ → Binding ℕ → PathImport ℕ
use_in m start path binding = record { parent = m; start = start; names = path; binding = binding; of_types = false; visibility = Module m }

-- `pub mod x { pub mod n { pub mod k {} } pub mod p { pub mod q {} } } mod m { use crate::x::*; use self::n::k as p; use self::p::q as n; }`
-- The modules: 0 the root, 1 x, 2 x::n, 3 x::n::k, 4 x::p, 5 x::p::q, 6 m; the names: 0 x, 1 n, 2 k, 3 p, 4 q, 5 m.
abbrev round : Crate ℕ ℕ
round = record {
  parents = None ∷ Some 0 ∷ Some 1 ∷ Some 2 ∷ Some 1 ∷ Some 4 ∷ Some 0 ∷ [];
  declarations = public 0 Types 0 (a_module 1) ∷ public 1 Types 1 (a_module 2) ∷ public 2 Types 2 (a_module 3) ∷ public 1 Types 3 (a_module 4) ∷ public 4 Types 4 (a_module 5) ∷ public 0 Types 5 (a_module 6) ∷ [];
  imports = use_in 6 from_root (0 ∷ []) a_glob ∷ use_in 6 (Super 0) (1 ∷ 2 ∷ []) (a_name 3) ∷ use_in 6 (Super 0) (3 ∷ 4 ∷ []) (a_name 1) ∷ [];
  veils = [];
  macro_rules = [];
  others = Some [];
  is_2015 = false;
}

-- m declares nothing
round_free : (ns : Namespace) (n : ℕ) → Hides round 6 ns n → ⊥
round_free ns n (x, has, parent, same, named, sure) = false≢true (of_any (λ (y : NameDeclaration ℕ ℕ). y.parent == 6) round.declarations x has (eq-eqb x.parent 6 parent))

-- the glob stands in x
round_glob : Derives round (stands 0 1 (a_module 1))
round_glob = leads {name = Some 0} (use_in 6 from_root (0 ∷ []) a_glob) refl (begins (use_in 6 from_root (0 ∷ []) a_glob) refl refl) refl refl
    (declared (public 0 Types 0 (a_module 1)) (0, omega arith, refl)) refl refl

-- m has the n and the p of x
round_n : Derives round (names 6 Types (Some 1) (a_module 2) (Module 6))
round_n = copies (use_in 6 from_root (0 ∷ []) a_glob) refl refl round_glob (declared (public 1 Types 1 (a_module 2)) (1, omega arith, refl)) refl (round_free Types 1)

round_p : Derives round (names 6 Types (Some 3) (a_module 4) (Module 6))
round_p = copies (use_in 6 from_root (0 ∷ []) a_glob) refl refl round_glob (declared (public 1 Types 3 (a_module 4)) (3, omega arith, refl)) refl (round_free Types 3)

-- so both imports resolve, and none hides what the other needs
round_k : LeadsTo round 1 (a_module 3)
round_k =
    to_given (ends {name = Some 2} (use_in 6 (Super 0) (1 ∷ 2 ∷ []) (a_name 3)) refl
    (leads {name = Some 1} (use_in 6 (Super 0) (1 ∷ 2 ∷ []) (a_name 3)) refl (begins (use_in 6 (Super 0) (1 ∷ 2 ∷ []) (a_name 3)) refl refl) refl refl round_n refl refl)
    refl refl refl (declared (public 2 Types 2 (a_module 3)) (2, omega arith, refl)) refl refl)

round_q : LeadsTo round 2 (a_module 5)
round_q =
    to_given (ends {name = Some 4} (use_in 6 (Super 0) (3 ∷ 4 ∷ []) (a_name 1)) refl
    (leads {name = Some 3} (use_in 6 (Super 0) (3 ∷ 4 ∷ []) (a_name 1)) refl (begins (use_in 6 (Super 0) (3 ∷ 4 ∷ []) (a_name 1)) refl refl) refl refl round_p refl refl)
    refl refl refl (declared (public 4 Types 4 (a_module 5)) (4, omega arith, refl)) refl refl)

-- ---- `use crate::a;`, where the root has nothing, or a macro call

abbrev lonely : List Veil → Crate ℕ ℕ
lonely veils = record {
  parents = None ∷ [];
  declarations = [];
  imports = use_in 0 from_root (0 ∷ []) (a_name 0) ∷ [];
  veils = veils;
  macro_rules = [];
  others = Some [];
  is_2015 = false;
}

-- nothing is derived but where the path begins
abbrev LonelyFact : Fact ℕ ℕ → Type 0
LonelyFact (names m ns name t v) = ⊥
LonelyFact (stands i k t) = (k ≡ 0) × (t ≡ a_module 0)
LonelyFact (gives i ns t v) = ⊥

lonely_import : (i : ℕ) (u : PathImport ℕ) → IsImport (lonely []) i u → use_in 0 from_root (0 ∷ []) (a_name 0) ≡ u
lonely_import zero u is = same_Some _ u is
lonely_import (suc i) u is = absurd (none-some u is)

open_module : (t : Thing ℕ) → t ≡ a_module 0 → IsOpen t → ⊥
open_module t same h = subst IsOpen same h

lonely_facts : (f : Fact ℕ ℕ) → Derives (lonely []) f → LonelyFact f
lonely_facts f (declared x (k, low, e)) = omega (arith, low)
lonely_facts f (veiled x (k, low, e)) = omega (arith, low)
lonely_facts f (begins {i = i} {m = m} u is start) = (refl, ap a_module (sym (same_Some 0 m (subst (λ (z : PathImport ℕ). import_start (lonely []) z ≡ Some m) (sym (lonely_import i u is)) start))))
lonely_facts f (elsewhere i u is leave first other free says) = absurd (false≢true (subst (λ (z : PathImport ℕ). may_leave z.start ≡ true) (sym (lonely_import i u is)) leave))
lonely_facts f (leads u is stand has inner named covers seen) = absurd (lonely_facts _ named)
lonely_facts f (ends u is stand has last wanted named covers seen) = lonely_facts _ named
lonely_facts f (gives_start {i = i} u is glob none stand) = absurd (true≢false (ap is_empty (sym (ap (λ (z : PathImport ℕ). z.names) (lonely_import i u is) ∙ none))))
  where
    is_empty : List ℕ → Bool
    is_empty [] = true
    is_empty (n ∷ l) = false
lonely_facts f (copies u is glob stand named seen free) = lonely_facts _ named
lonely_facts f (imports u is binds given) = lonely_facts _ given
lonely_facts f (opens {t = t} u ns is glob stand open') = open_module t (lonely_facts _ stand).1 open'
lonely_facts f (exports {i = i} u is glob stand) = absurd (false≢true (subst (λ (z : PathImport ℕ). is_glob_import z ≡ true) (sym (lonely_import i u is)) glob))
lonely_facts f (passes {t = t} u ns is stand open' has says) = absurd (open_module t (lonely_facts _ stand).1 open')

lonely_fails : LeadsNowhere (lonely []) 0
lonely_fails = (use_in 0 from_root (0 ∷ []) (a_name 0), refl, by)
  where
    by : (t : Thing ℕ) → LeadsTo (lonely []) 0 t → ⊥
    by t (to_given given) = lonely_facts _ given
    by t (to_glob u is glob stand has) = false≢true (subst (λ (z : PathImport ℕ). is_glob_import z ≡ true) (sym (lonely_import 0 u is)) glob)

-- a veil of the root gives it, unseen
veiled_leads : LeadsTo (lonely (record { parent = 0; namespace = Types; visibility = Public } ∷ [])) 0 unseen
veiled_leads = to_given (ends {name = None} (use_in 0 from_root (0 ∷ []) (a_name 0)) refl (begins (use_in 0 from_root (0 ∷ []) (a_name 0)) refl refl) refl refl refl
    (veiled (record { parent = 0; namespace = Types; visibility = Public }) (0, omega arith, refl)) (λ h. omega (arith, h.1.1)) refl)
