-- What a caller of `Use::expand` proves of its closure, and learns of the calls.
use Rattle.std.proofs.Common.{◌≡◌, ℕ, ◌+◌, ◌<◌, ◌≤◌, List, [], ◌∷◌, ◌++◌, length, Option, Some, None, refl, sym, ap, ◌∙◌, append-nil, length-append, arith, flat_map}
use Rattle.std.proofs.lemmas.Fn.{chained_keeps}
use Rattle.item_tree.proofs.Common.{flat_map_more, map-id, flat_map_single, Path, ImportAlias, MayCallAt, CalledAtAll, is_self, import_of, read_below, read_star, kind_below, imports_from, all_imports_from, imports, Tree, Branches, single, glob, prefixed, no_branches, branch_and, tree_nodes, branch_nodes, tree_count}
use Rattle.item_tree.specs.declared.use_tree.ImportKind.{ImportKind}
use Rattle.item_tree.specs.declared.use_tree.ImportKind.TheVariants.{Glob}

-- a closure that may be called in any state
pub may_call_always : {F A : Type 0} (pre : F → A → Type 0) (step : F → A → F → Type 0) (f : F) (xs : List A) → ((g : F) (x : A) → pre g x) → MayCallAt pre step f xs
may_call_always pre step f [] ready = tt
may_call_always pre step f (x ∷ xs) ready = (ready f x, λ g s. may_call_always pre step g xs ready)

-- what holds after the calls done, as each call keeps it, holds after all
pub calls_keep : {F A : Type 0} (step : F → A → F → Type 0) (Holds : List A → F → Type 0) (f : F) (xs : List A) (g : F)
    → ((ys : List A) (k : F) (x : A) (h : F) → Holds ys k → step k x h → Holds (ys ++ x ∷ []) h)
    → Holds [] f → CalledAtAll step f xs g → Holds xs g
calls_keep step Holds f xs g keeps h c = chained_keeps step Holds keeps xs f g h c.calls

-- what no call changes is unchanged after all
pub calls_leave : {F A B : Type 0} (step : F → A → F → Type 0) (part : F → B) (f : F) (xs : List A) (g : F)
    → ((k : F) (x : A) (h : F) → step k x h → part h ≡ part k)
    → CalledAtAll step f xs g → part g ≡ part f
calls_leave step part f xs g same c = calls_keep step (λ ys k. part k ≡ part f) f xs g (λ ys k x h e s. same k x h s ∙ e) refl c

-- a closure that counts its calls
pub may_call_counting : {F A : Type 0} (pre : F → A → Type 0) (step : F → A → F → Type 0) (count : F → ℕ) (most : ℕ) (f : F) (xs : List A)
    → ((g : F) (x : A) → count g < most → pre g x)
    → ((g : F) (x : A) (h : F) → step g x h → count h ≡ count g + 1)
    → count f + length xs ≤ most → MayCallAt pre step f xs
may_call_counting pre step count most f [] ready more fits = tt
may_call_counting pre step count most f (x ∷ xs) ready more fits = (
  ready f x (omega arith),
  λ g s. may_call_counting pre step count most g xs ready more (let e = more f x g s in omega arith),
)

pub calls_count : {F A : Type 0} (step : F → A → F → Type 0) (count : F → ℕ) (f : F) (xs : List A) (g : F)
    → ((k : F) (x : A) (h : F) → step k x h → count h ≡ count k + 1)
    → CalledAtAll step f xs g → count g ≡ count f + length xs
calls_count step count f xs g more c =
    calls_keep step (λ ys k. count k ≡ count f + length ys) f xs g
    (λ ys k x h e s. let m = more k x h s in omega (arith, length-append ys (x ∷ [])))
    (omega arith) c

-- a closure that adds to a list, for each call, what is made of its argument, as long as nothing is refused
pub calls_add : {F A B : Type 0} (step : F → A → F → Type 0) (Whole : F → Type 0) (list : F → List B) (made : A → List B) (f : F) (xs : List A) (g : F)
    → ((k : F) (x : A) (h : F) → step k x h → Whole h → Whole k × (list h ≡ list k ++ made x))
    → CalledAtAll step f xs g → Whole g → list g ≡ list f ++ flat_map made xs
calls_add step Whole list made f xs g adds c =
    calls_keep step (λ ys k. Whole k → list k ≡ list f ++ flat_map made ys) f xs g
    (λ ys k x h e s w.
    let m = adds k x h s w in
    m.1 ∙ ap (λ zs. zs ++ made x) (e m.0) ∙ flat_map_more made (list f) ys x)
    (λ w. sym (append-nil (list f))) c

-- a closure that gathers what it is called at, as long as nothing is refused
pub calls_gather : {F A : Type 0} (step : F → A → F → Type 0) (Whole : F → Type 0) (list : F → List A) (f : F) (xs : List A) (g : F)
    → ((k : F) (x : A) (h : F) → step k x h → Whole h → Whole k × (list h ≡ list k ++ x ∷ []))
    → CalledAtAll step f xs g → Whole g → list g ≡ list f ++ xs
calls_gather step Whole list f xs g more c w =
    calls_add step Whole list (λ x. x ∷ []) f xs g more c w ∙ ap (λ zs. list f ++ zs) (flat_map_single (λ x. x) xs ∙ map-id xs)

import_of-one : (i : ℕ) (k : ImportKind) (a : Option ImportAlias) (p : Option Path) → length (import_of i k a p) ≤ 1
import_of-one i k a None = omega arith
import_of-one i k a (Some p) = omega arith

mutual
  count_from : (ps : List Path) (i : ℕ) (t : Tree) → length (imports_from ps i t) ≤ tree_count t
  count_from ps i (single p a) = import_of-one i (kind_below (is_self p) ps) a (read_below (is_self p) ps p)
  count_from ps i (glob p) = import_of-one i Glob None (read_star ps p)
  count_from ps i (prefixed None ts) = omega (arith, count_all ps (i + 1) ts)
  count_from ps i (prefixed (Some p) ts) = omega (arith, count_all (ps ++ p ∷ []) (i + 1) ts)

  count_all : (ps : List Path) (i : ℕ) (ts : Branches) → length (all_imports_from ps i ts) ≤ length (branch_nodes ts)
  count_all ps i no_branches = omega arith
  count_all ps i (branch_and t ts) =
      omega (
        arith,
        length-append (imports_from ps i t) (all_imports_from ps (i + tree_count t) ts),
        length-append (tree_nodes t) (branch_nodes ts),
        count_from ps i t,
        count_all ps (i + tree_count t) ts,
      )

-- there are no more imports than nodes
pub imports_count : (t : Tree) → length (imports t) ≤ tree_count t
imports_count t = count_from [] 0 t
