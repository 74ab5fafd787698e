-- Steps over the segments of a path, and over what stands in brackets behind `pub`.
use Rattle.std.proofs.Common.{◌≡◌, ◌<◌, ◌+◌, ◌-◌, ℕ, zero, suc, Bool, true, false, List, [], ◌∷◌, Option, Some, refl, sym, ap, ◌∙◌, arith, ◌==◌, ◌&&◌, codes, bytes_eq}
use Rattle.rust_paths.proofs.Common.{PathNode, Path, PathWord, Tokens, bumped, path_node, path_start, then_word, meaning, with_word, with_words, front_of_path, has_more, segment, more_from, is_path_part, reads, sees, past_from, symbol, word, when, scope, scope_of, scope_path, plain_scope, is_in, scoped_visibility}
use Rattle.hir_input.specs.declared.ast.Visibility.TheVariants.{Pub}
use Rattle.rust_paths.proofs.MeantPaths.{meaning-step, meaning-start}

-- no segment more
pub more_stop : (in_use : Bool) (n : ℕ) (ts : Tokens) → sees (has_more in_use) ts ≡ false → reads (more_from in_use n) ts ≡ ([], ts)
more_stop in_use zero ts e = refl
more_stop in_use (suc n) ts e = rw e refl

more-turn : (in_use : Bool) (n : ℕ) (p : Option Path) (ts : Tokens) → sees (has_more in_use) ts ≡ true
    → with_words p (reads (more_from in_use (suc n)) ts) ≡ with_words (then_word p (reads segment (bumped (bumped ts))).0) (reads (more_from in_use n) (reads segment (bumped (bumped ts))).1)
more-turn in_use n p ts e =
    rw e (ap (λ node. (node, (reads (more_from in_use n) (reads segment (bumped (bumped ts))).1).1)) (sym (meaning-step p (reads segment (bumped (bumped ts))).0 (reads (more_from in_use n) (reads segment (bumped (bumped ts))).1).0)))

-- one more
pub more_step : (in_use : Bool) (bound at : ℕ) (p q : Option Path) (ts once twice mid : Tokens) (all : PathNode × Tokens) → at < bound → sees (has_more in_use) ts ≡ true → once ≡ bumped ts → twice ≡ bumped once
    → with_word p (reads segment twice) ≡ (q, mid) → with_words p (reads (more_from in_use (bound - at)) ts) ≡ all → with_words q (reads (more_from in_use (bound - (at + 1))) mid) ≡ all
more_step in_use bound at p q ts once twice mid all below e o w told before =
    let turn : bound - at ≡ suc (bound - (at + 1)) = omega arith in
    let there : bumped (bumped ts) ≡ twice = ap bumped (sym o) ∙ sym w in
    let both : with_word p (reads segment (bumped (bumped ts))) ≡ (q, mid) = ap (λ t. with_word p (reads segment t)) there ∙ told in
    ap (λ r. with_words r.0 (reads (more_from in_use (bound - (at + 1))) r.1)) (sym both)
    ∙ sym (more-turn in_use (bound - (at + 1)) p ts e)
    ∙ ap (λ n. with_words p (reads (more_from in_use n) ts)) (sym turn) ∙ before

-- the whole of a path
pub written : (absolute : Bool) (first : Option PathWord) (more : List (Option PathWord)) (p : Option Path) → then_word (Some (path_start absolute)) first ≡ p → path_node (front_of_path absolute (first ∷ more)) ≡ meaning p more
written absolute first more p e = meaning-start absolute (first ∷ more) ∙ sym (meaning-step (Some (path_start absolute)) first more) ∙ ap (λ o. meaning o more) e

-- ---- in brackets

pub parts_stop : (n : ℕ) (ts : Tokens) → sees is_path_part ts ≡ false → past_from (sees is_path_part) n ts ≡ ts
parts_stop zero ts e = refl
parts_stop (suc n) ts e = rw e refl

pub parts_more : (bound at : ℕ) (ts : Tokens) → at < bound → sees is_path_part ts ≡ true → past_from (sees is_path_part) (bound - at) ts ≡ past_from (sees is_path_part) (bound - (at + 1)) (bumped ts)
parts_more bound at ts below e = let turn : bound - at ≡ suc (bound - (at + 1)) = omega arith in rw (turn, e) refl

-- no bracket
pub scoped_none : (ts : Tokens) → (symbol ts == 40) ≡ false → reads scoped_visibility ts ≡ (Pub, ts)
unfolding scoped_visibility
scoped_none ts e = rw e refl

-- `(in`
pub scoped_in : (ts : Tokens) → (symbol ts == 40) ≡ true → is_in ts ≡ true → reads scoped_visibility ts ≡ reads scope_path (bumped (bumped ts))
unfolding scoped_visibility is_in
scoped_in ts e f = rw (e, f) refl

and_false : (b : Bool) → (b && false) ≡ false
and_false true = refl
and_false false = refl

-- another bracket
pub scoped_plain : (ts : Tokens) → (symbol ts == 40) ≡ true → is_in ts ≡ false → reads scoped_visibility ts ≡ plain_scope (scope ts) ts
unfolding scoped_visibility is_in scope scope_of
scoped_plain ts e f =
    when (symbol (bumped (bumped ts)) == 41)
    (λ g. when (bytes_eq (word (bumped ts)) (codes "crate")) (λ h. rw (e, f, g, h) refl)
    (λ h. when (bytes_eq (word (bumped ts)) (codes "super")) (λ i. rw (e, f, g, h, i) refl)
    (λ i. when (bytes_eq (word (bumped ts)) (codes "self")) (λ j. rw (e, f, g, h, i, j) refl) (λ j. rw (e, f, g, h, i, j) refl))))
    (λ g. rw (e, f, g, and_false (bytes_eq (word (bumped ts)) (codes "crate")), and_false (bytes_eq (word (bumped ts)) (codes "super")), and_false (bytes_eq (word (bumped ts)) (codes "self"))) refl)
