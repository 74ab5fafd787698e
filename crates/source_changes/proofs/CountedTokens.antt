-- What two texts go on with alike counts alike.
use Rattle.std.proofs.Common.{◌≡◌, ◌↔◌, ◌≤◌, ◌<◌, ◌+◌, ◌-◌, ◌++◌, ◌||◌, ℕ, Bool, false, List, [], ◌∷◌, length, All, refl, sym, ap, ◌∙◌, arith, nat_le, append_assoc, drop, get_or, not, subst, take, true}
use Rattle.std.specs.Bool.{beq}
use Rattle.std.proofs.lemmas.List.{append_cancel_left, take_rest}
use Rattle.std.proofs.lemmas.List.Elements.{All-head, All-tail}
use Rattle.rust_lexer.specs.Piece.{Piece}
use Rattle.rust_lexer.specs.Symbol.{symbol_of}
use Rattle.rust_lexer.specs.Tokens.{ArePassed}
use Rattle.rust_lexer.proofs.Cases.{when}
use Rattle.source_changes.specs.DocAttributes.{docs_as_comments, inner_doc_list}
use Rattle.source_changes.specs.Inner.{AreSameUntil, ComeBehind, IsBefore, IsLone, are_apart}
use Rattle.source_changes.specs.Skeletons.{is_one_mark, kept_tokens, not_over, text_if_kept}
use Rattle.source_changes.specs.declared.kept.Hole.{Hole}
use Rattle.source_changes.proofs.Common.{nat_tests}
use Rattle.source_changes.proofs.Texts.{hole_told, is_hole}
use Rattle.source_changes.proofs.AsComments.{in_parts, placed, still_behind}
use Rattle.source_changes.proofs.Holes.{come_behind, docs_alone, kept_later}

-- ---- parts

kept_before : (docs : Bool) (before place : ℕ) (holes : List Hole) (front : List Piece) → IsBefore place holes → All (λ t. t.at < place) front → kept_tokens docs holes before front ≡ kept_tokens docs [] before front
kept_before docs before place [] front b a = refl
kept_before docs before place (h ∷ hs) [] b a = refl
kept_before docs before place (h ∷ hs) (t ∷ ts) b a =
    let first = All-head (λ t. t.at < place) t ts a in
    let over : nat_le h.end t.at ≡ false = grind (arith, nat_tests) in
    let begun : nat_le h.start t.at ≡ false = grind (arith, nat_tests) in
    rw (over, begun) (ap (λ l. text_if_kept docs [] before t ++ l) (kept_before docs (symbol_of t) place (h ∷ hs) ts b (All-tail (λ t. t.at < place) t ts a)))

pub nearer : (place further : ℕ) (holes : List Hole) → place ≤ further → IsBefore further holes → IsBefore place holes
nearer place further [] le b = tt
nearer place further (h ∷ hs) le b = (omega (arith, le, b.0), omega (arith, le, b.1))

-- none of them comes before the place
pub same_before : (place : ℕ) (holes others : List Hole) → IsBefore place holes → IsBefore place others → AreSameUntil place holes others
same_before place holes others b b' docs before front a = kept_before docs before place holes front b a ∙ sym (kept_before docs before place others front b' a)

same_first : (h : Hole) (place : ℕ) (hs ks : List Hole) → AreSameUntil place hs ks → AreSameUntil place (h ∷ hs) (h ∷ ks)
same_first h place hs ks same docs before [] a = refl
same_first h place hs ks same docs before (t ∷ ts) a =
    when (nat_le h.end t.at)
    (λ e. rw e (same docs before (t ∷ ts) a))
    (λ e. rw e (ap (λ l. text_if_kept docs (h ∷ hs) before t ++ l) (same_first h place hs ks same docs (symbol_of t) ts (All-tail (λ t. t.at < place) t ts a))))

-- and the rest of both is the same so far
pub same_turn : (place : ℕ) (hs ks : List Hole) (none : Hole) (differ : Bool) → 1 ≤ length hs → 1 ≤ length ks → differ ≡ not (is_hole (get_or hs 0 none) (get_or ks 0 none)) → differ ≡ false
    → AreSameUntil place (take (length hs - 1) (drop 1 hs)) (take (length ks - 1) (drop 1 ks)) → AreSameUntil place hs ks
same_turn place [] ks none differ some some' is e same = absurd (omega (arith, some))
same_turn place (h ∷ hs) [] none differ some some' is e same = absurd (omega (arith, some'))
same_turn place (h ∷ hs) (k ∷ ks) none differ some some' is e same =
    subst (λ l. AreSameUntil place (h ∷ hs) (l ∷ ks)) (hole_told h k (sym is ∙ e))
    (same_first h place hs ks (subst (AreSameUntil place hs) (take_rest (k ∷ ks) 1) (subst (λ l. AreSameUntil place l (take (length (k ∷ ks) - 1) (drop 1 (k ∷ ks)))) (take_rest (h ∷ hs) 1) same)))

-- ---- tokens

-- the symbol of the last of these, behind this one
abbrev last_symbol : ℕ → List Piece → ℕ
last_symbol before [] = before
last_symbol before (t ∷ ts) = last_symbol (symbol_of t) ts

kept_append : (docs : Bool) (holes : List Hole) (before place : ℕ) (front ts : List Piece) → ComeBehind place (front ++ ts) → kept_tokens docs holes before (front ++ ts) ≡ kept_tokens docs holes before front ++ kept_tokens docs holes (last_symbol before front) ts
kept_append docs holes before place [] ts b = refl
kept_append docs holes before place (t ∷ front) ts b =
    let left = not_over t.at holes in
    let next = t.at + length t.text in
    let last = last_symbol (symbol_of t) front in
    ap (λ l. text_if_kept docs left before t ++ l) (kept_append docs left (symbol_of t) next front ts b.1.1
    ∙ ap (λ l. kept_tokens docs left (symbol_of t) front ++ l) (kept_later docs t.at next holes last ts (omega arith) (come_behind next front ts b.1.1)))
    ∙ sym (append_assoc (text_if_kept docs left before t) (kept_tokens docs left (symbol_of t) front) (kept_tokens docs holes last ts))

-- of these tokens and of those behind them, which are told alike whatever stands before them
parted : (docs : Bool) (holes : List Hole) (before other : ℕ) (front ts us : List Piece) → ts ≡ front ++ us → ComeBehind 0 ts → IsLone docs us
    → kept_tokens docs holes before (docs_as_comments docs 0 ts) ≡ kept_tokens docs holes before (docs_as_comments docs 0 front) ++ kept_tokens docs holes other (docs_as_comments docs 0 us)
parted docs holes before other front ts us is b lone =
    let first = docs_as_comments docs 0 front in
    let rest = docs_as_comments docs 0 us in
    let parts : docs_as_comments docs 0 ts ≡ first ++ rest = ap (docs_as_comments docs 0) is ∙ lone.apart front in
    ap (kept_tokens docs holes before) parts
    ∙ kept_append docs holes before 0 first rest (subst (ComeBehind 0) parts (still_behind docs 0 0 ts b))
    ∙ ap (λ l. kept_tokens docs holes before first ++ l) (lone.no_mark holes (last_symbol before first) other)

-- the same is left of both where the same is passed
pub left_alike : (docs docs' : Bool) (before before' place : ℕ) (holes others : List Hole) (ts copy us ts' copy' us' : List Piece) → docs ≡ docs' → before ≡ before' → AreSameUntil place holes others → ComeBehind 0 ts → ComeBehind 0 ts' → IsLone docs us → IsLone docs us' → copy ≡ ts → copy' ≡ ts' → ArePassed place copy us copy' us'
    → (kept_tokens docs holes before (docs_as_comments docs 0 us) ≡ kept_tokens docs' others before' (docs_as_comments docs' 0 us')) ↔ (kept_tokens docs holes before (docs_as_comments docs 0 ts) ≡ kept_tokens docs' others before' (docs_as_comments docs' 0 ts'))
left_alike docs docs' before before' place holes others ts copy us ts' copy' us' e e' same b b' lone lone' is is' p =
    subst (λ d. (kept_tokens docs holes before (docs_as_comments docs 0 us) ≡ kept_tokens d others before' (docs_as_comments d 0 us')) ↔ (kept_tokens docs holes before (docs_as_comments docs 0 ts) ≡ kept_tokens d others before' (docs_as_comments d 0 ts'))) e
    (subst (λ c. (kept_tokens docs holes before (docs_as_comments docs 0 us) ≡ kept_tokens docs others c (docs_as_comments docs 0 us')) ↔ (kept_tokens docs holes before (docs_as_comments docs 0 ts) ≡ kept_tokens docs others c (docs_as_comments docs 0 ts'))) e' both)
  where
    first : List (List ℕ)
    first = kept_tokens docs holes before (docs_as_comments docs 0 p.0)

    ours : kept_tokens docs holes before (docs_as_comments docs 0 ts) ≡ first ++ kept_tokens docs holes before (docs_as_comments docs 0 us)
    ours = parted docs holes before before p.0 ts us (sym is ∙ p.1) b lone

    theirs : kept_tokens docs others before (docs_as_comments docs 0 ts') ≡ first ++ kept_tokens docs others before (docs_as_comments docs 0 us')
    theirs =
        parted docs others before before p.0 ts' us' (sym is' ∙ p.2) b' lone'
        ∙ ap (λ l. l ++ kept_tokens docs others before (docs_as_comments docs 0 us')) (sym (same docs before (docs_as_comments docs 0 p.0) (placed (λ k. k < place) docs 0 p.0 p.3)))

    both : (kept_tokens docs holes before (docs_as_comments docs 0 us) ≡ kept_tokens docs others before (docs_as_comments docs 0 us')) ↔ (kept_tokens docs holes before (docs_as_comments docs 0 ts) ≡ kept_tokens docs others before (docs_as_comments docs 0 ts'))
    both = (λ k. ours ∙ ap (λ l. first ++ l) k ∙ sym theirs, λ k. append_cancel_left first _ _ (sym ours ∙ k ∙ theirs))

-- what begins with no mark, and ends no attribute, stands alone
pub stands_alone : (docs : Bool) (symbol : ℕ) (t : Piece) (ts us : List Piece) → us ≡ t ∷ ts → symbol ≡ symbol_of t → ((before : ℕ) → is_one_mark before symbol ≡ false) → docs || are_apart inner_doc_list us ≡ true → IsLone docs us
stands_alone docs symbol t ts us is e m a = subst (IsLone docs) (sym is) (record {
  no_mark = λ holes before other. docs_alone t ts (λ b. ap (is_one_mark b) (sym e) ∙ m b) docs holes before other;
  apart = λ front. in_parts docs front (t ∷ ts) (ap (λ l. docs || are_apart inner_doc_list l) (sym is) ∙ a);
})

pub none_alone : (docs : Bool) → IsLone docs []
none_alone docs = record { no_mark = λ holes before other. refl; apart = λ front. in_parts docs front [] (none docs) }
  where
    none : (docs : Bool) → docs || are_apart inner_doc_list [] ≡ true
    none true = refl
    none false = refl

pub same_docs : (d d' : Bool) → not (beq d d') ≡ false → d ≡ d'
same_docs true true e = refl
same_docs true false e = absurd cc
same_docs false true e = absurd cc
same_docs false false e = refl
