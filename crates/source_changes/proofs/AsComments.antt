-- Attributes that document, as comments: in parts of texts, and further on.
use Rattle.std.proofs.Common.{◌≡◌, ◌+◌, ◌++◌, ◌==◌, ◌&&◌, ◌||◌, not, ℕ, zero, suc, Bool, true, false, None, List, [], ◌∷◌, length, map, All, is_some, if◌then◌else◌, refl, sym, ap, ◌∙◌, subst, arith}
use Rattle.std.proofs.lemmas.Bool.Decides.{nat_tests}
use Rattle.std.proofs.lemmas.List.Elements.{All-cons, All-head, All-nil, All-tail}
use Rattle.rust_lexer.specs.Alone.{moved_piece}
use Rattle.rust_lexer.specs.Piece.{Piece}
use Rattle.rust_lexer.specs.Symbol.{symbol_from, symbol_of}
use Rattle.rust_lexer.specs.Tokens.{is_significant, is_significant_kind}
use Rattle.rust_lexer.specs.declared.kind.TokenKind.{TokenKind}
use Rattle.rust_lexer.specs.declared.kind.TokenKind.TheVariants as kinds
use Rattle.rust_cursor.proofs.LocalReaders.{both_true}
use Rattle.rust_lexer.proofs.Cases.{when}
use Rattle.source_changes.specs.DocAttributes.{as_comment, behind_tests, comment_if, doc_left, doc_length, doc_list, docs_as_comments, inner_doc_list, is_string_kind, is_symbol, names_doc}
use Rattle.source_changes.specs.Inner.{ComeBehind, are_apart}

-- ---- where tokens stand

at_if : (n : ℕ) (t : Piece) → t.at ≡ (comment_if n t).at
at_if zero t = refl
at_if (suc n) t = refl

pub placed : (P : ℕ → Type 0) (docs : Bool) (left : ℕ) (ts : List Piece) → All (λ t. P t.at) ts → All (λ t. P t.at) (docs_as_comments docs left ts)
placed P docs left [] a = All-nil (λ t. P t.at)
placed P docs zero (t ∷ ts) a =
    let n = doc_left docs t ts in
    All-cons (λ t. P t.at) (comment_if n t) (docs_as_comments docs n ts) (subst P (at_if n t) (All-head (λ t. P t.at) t ts a)) (placed P docs n ts (All-tail (λ t. P t.at) t ts a))
placed P docs (suc left) (t ∷ ts) a =
    All-cons (λ t. P t.at) (as_comment t) (docs_as_comments docs (if is_significant t then left else suc left) ts) (All-head (λ t. P t.at) t ts a)
    (placed P docs (if is_significant t then left else suc left) ts (All-tail (λ t. P t.at) t ts a))

behind_if : (n place : ℕ) (t : Piece) (ts : List Piece) → ComeBehind place (t ∷ ts) → ComeBehind place (comment_if n t ∷ ts)
behind_if zero place t ts b = b
behind_if (suc n) place t ts b = b

pub still_behind : (docs : Bool) (left place : ℕ) (ts : List Piece) → ComeBehind place ts → ComeBehind place (docs_as_comments docs left ts)
still_behind docs left place [] b = tt
still_behind docs zero place (t ∷ ts) b =
    let n = doc_left docs t ts in behind_if n place t (docs_as_comments docs n ts) (b.0, (b.1.0, still_behind docs n (t.at + length t.text) ts b.1.1))
still_behind docs (suc left) place (t ∷ ts) b = (b.0, (b.1.0, still_behind docs (if is_significant t then left else suc left) (t.at + length t.text) ts b.1.1))

-- ---- further on

-- tests that ask for no place
abbrev AskNoPlace : List (Piece → Bool) → Type 0
AskNoPlace [] = Unit {0}
AskNoPlace (p ∷ ps) = ((d : ℕ) (t : Piece) → p (moved_piece d t) ≡ p t) × AskNoPlace ps

moved_tests : (ps : List (Piece → Bool)) (d : ℕ) (ts : List Piece) → AskNoPlace ps → is_some (behind_tests ps (map (moved_piece d) ts)) ≡ is_some (behind_tests ps ts)
moved_tests [] d ts a = refl
moved_tests (p ∷ ps) d [] a = refl
moved_tests (p ∷ ps) d (t ∷ ts) a =
    let same = a.0 d t in
    when (is_significant t)
    (λ s. when (p t) (λ q. rw (s, same, q) (moved_tests ps d ts a.1)) (λ q. rw (s, same, q) refl))
    (λ s. rw s (moved_tests (p ∷ ps) d ts a))

moved_length : (d : ℕ) (ts : List Piece) → doc_length (map (moved_piece d) ts) ≡ doc_length ts
moved_length d ts =
    let in_list : AskNoPlace doc_list = (λ d t. refl, (λ d t. refl, (λ d t. refl, (λ d t. refl, (λ d t. refl, tt))))) in
    rw (moved_tests doc_list d ts in_list, moved_tests inner_doc_list d ts (λ d t. refl, in_list)) refl

moved_if : (n d : ℕ) (t : Piece) → comment_if n (moved_piece d t) ≡ moved_piece d (comment_if n t)
moved_if zero d t = refl
moved_if (suc n) d t = refl

pub moved_docs : (docs : Bool) (left d : ℕ) (ts : List Piece) → docs_as_comments docs left (map (moved_piece d) ts) ≡ map (moved_piece d) (docs_as_comments docs left ts)
moved_docs docs left d [] = refl
moved_docs docs zero d (t ∷ ts) =
    let n = doc_left docs t ts in
    let same = ap (λ k. if docs || not (is_symbol 35 t) then 0 else k) (moved_length d ts) in
    ap (λ k. comment_if k (moved_piece d t) ∷ docs_as_comments docs k (map (moved_piece d) ts)) same
    ∙ ap (λ u. u ∷ docs_as_comments docs n (map (moved_piece d) ts)) (moved_if n d t)
    ∙ ap (λ l. moved_piece d (comment_if n t) ∷ l) (moved_docs docs n d ts)
moved_docs docs (suc left) d (t ∷ ts) = ap (λ l. moved_piece d (as_comment t) ∷ l) (moved_docs docs (if is_significant t then left else suc left) d ts)

-- ---- in two parts of a text

not_true : (b c : Bool) → not b && c ≡ true → b ≡ false
not_true false c e = refl
not_true true c e = absurd cc

tests_apart : (ps : List (Piece → Bool)) (front us : List Piece) → are_apart ps us ≡ true → is_some (behind_tests ps (front ++ us)) ≡ is_some (behind_tests ps front)
tests_apart [] front us a = refl
tests_apart (p ∷ ps) [] us a = not_true (is_some (behind_tests (p ∷ ps) us)) (are_apart ps us) a
tests_apart (p ∷ ps) (t ∷ front) us a =
    when (is_significant t)
    (λ s. when (p t) (λ q. rw (s, q) (tests_apart ps front us (both_true _ _ a).1)) (λ q. rw (s, q) refl))
    (λ s. rw s (tests_apart (p ∷ ps) front us a))

left_apart : (docs : Bool) (t : Piece) (front us : List Piece) → docs || are_apart inner_doc_list us ≡ true → doc_left docs t (front ++ us) ≡ doc_left docs t front
left_apart true t front us a = refl
left_apart false t front us a =
    let outer = tests_apart doc_list front us (both_true (not (is_some (behind_tests inner_doc_list us))) (are_apart doc_list us) a).1 in
    let same : doc_length (front ++ us) ≡ doc_length front = rw (outer, tests_apart inner_doc_list front us a) refl in
    ap (λ k. if not (is_symbol 35 t) then 0 else k) same

-- so much of an attribute comes next
abbrev Comes : ℕ → List Piece → Type 0
Comes left ts = (ps : List (Piece → Bool)) × (left ≡ length ps) × (is_some (behind_tests ps ts) ≡ true)

nothing_comes : (ts : List Piece) → Comes 0 ts
nothing_comes ts = ([], refl, refl)

comes_behind : (docs : Bool) (t : Piece) (ts : List Piece) → Comes (doc_left docs t ts) ts
comes_behind docs t ts =
    when (docs || not (is_symbol 35 t))
    (λ e. rw e (nothing_comes ts))
    (λ e. when (is_some (behind_tests doc_list ts))
    (λ o. rw (e, o) (doc_list, refl, o))
    (λ o. when (is_some (behind_tests inner_doc_list ts)) (λ i. rw (e, o, i) (inner_doc_list, refl, i)) (λ i. rw (e, o, i) (nothing_comes ts))))

passed_test : (p : Piece → Bool) (ps : List (Piece → Bool)) (t : Piece) (ts : List Piece) → is_significant t ≡ true → is_some (behind_tests (p ∷ ps) (t ∷ ts)) ≡ true → is_some (behind_tests ps ts) ≡ true
passed_test p ps t ts s e =
    when (p t)
    (λ q. let is : behind_tests (p ∷ ps) (t ∷ ts) ≡ behind_tests ps ts = rw (s, q) refl in ap is_some (sym is) ∙ e)
    (λ q. let is : behind_tests (p ∷ ps) (t ∷ ts) ≡ None = rw (s, q) refl in let no : false ≡ true = ap is_some (sym is) ∙ e in absurd cc)

comes_on : (left : ℕ) (t : Piece) (ts : List Piece) → Comes (suc left) (t ∷ ts) → Comes (if is_significant t then left else suc left) ts
comes_on left t ts c = by c.0 c.1 c.2
  where
    by : (ps : List (Piece → Bool)) → suc left ≡ length ps → is_some (behind_tests ps (t ∷ ts)) ≡ true → Comes (if is_significant t then left else suc left) ts
    by [] e f = absurd (omega (arith, e))
    by (p ∷ ps) e f =
        when (is_significant t)
        (λ s. let fewer : left ≡ length ps = omega (arith, e) in rw s (ps, fewer, passed_test p ps t ts s f))
        (λ s. let is : behind_tests (p ∷ ps) (t ∷ ts) ≡ behind_tests (p ∷ ps) ts = rw s refl in rw s (p ∷ ps, e, ap is_some (sym is) ∙ f))

over : (left : ℕ) (ps : List (Piece → Bool)) → left ≡ length ps → is_some (behind_tests ps []) ≡ true → left ≡ 0
over left [] e f = e
over left (p ∷ ps) e f = absurd cc

-- What ends no attribute that began before it is told by itself.
pub docs_apart : (docs : Bool) (left : ℕ) (front us : List Piece) → docs || are_apart inner_doc_list us ≡ true → Comes left front
    → docs_as_comments docs left (front ++ us) ≡ docs_as_comments docs left front ++ docs_as_comments docs 0 us
docs_apart docs left [] us a c = ap (λ n. docs_as_comments docs n us) (over left c.0 c.1 c.2)
docs_apart docs zero (t ∷ front) us a c =
    let n = doc_left docs t front in
    ap (λ k. comment_if k t ∷ docs_as_comments docs k (front ++ us)) (left_apart docs t front us a)
    ∙ ap (λ l. comment_if n t ∷ l) (docs_apart docs n front us a (comes_behind docs t front))
docs_apart docs (suc left) (t ∷ front) us a c = ap (λ l. as_comment t ∷ l) (docs_apart docs (if is_significant t then left else suc left) front us a (comes_on left t front c))

pub in_parts : (docs : Bool) (front us : List Piece) → docs || are_apart inner_doc_list us ≡ true → docs_as_comments docs 0 (front ++ us) ≡ docs_as_comments docs 0 front ++ docs_as_comments docs 0 us
in_parts docs front us a = docs_apart docs 0 front us a (nothing_comes front)

-- ---- braces

symbol_kind : (k : TokenKind) (b : ℕ) (text : List ℕ) → (symbol_from k b == 0) ≡ false → (is_significant_kind k ≡ true) × (names_doc k text ≡ false) × (is_string_kind k ≡ false)
symbol_kind kinds.OpenDelim b text e = (refl, refl, refl)
symbol_kind kinds.CloseDelim b text e = (refl, refl, refl)
symbol_kind kinds.Punct b text e = (refl, refl, refl)
symbol_kind _ b text e = absurd cc

abbrev pub is_brace : Piece → Bool
is_brace o = symbol_of o == 123 || symbol_of o == 125

brace_apart : (o : Piece) (ts : List Piece) → is_brace o ≡ true → are_apart inner_doc_list (o ∷ ts) ≡ true
brace_apart o ts is =
    let some : (symbol_of o == 0) ≡ false = grind (arith, nat_tests) in
    let k = symbol_kind o.kind _ o.text some in
    let bang : (symbol_of o == 33) ≡ false = grind (arith, nat_tests) in
    let opens : (symbol_of o == 91) ≡ false = grind (arith, nat_tests) in
    let equals : (symbol_of o == 61) ≡ false = grind (arith, nat_tests) in
    let close : (symbol_of o == 93) ≡ false = grind (arith, nat_tests) in
    rw (k.0, bang, opens, k.1, equals, k.2, close) refl

brace_first : (docs : Bool) (o : Piece) (ts : List Piece) → is_brace o ≡ true → docs || are_apart inner_doc_list (o ∷ ts) ≡ true
brace_first true o ts is = refl
brace_first false o ts is = brace_apart o ts is

-- a token that begins no attribute that documents
pub no_attribute : (docs : Bool) (t : Piece) (ts : List Piece) → doc_left docs t ts ≡ 0 → docs_as_comments docs 0 (t ∷ ts) ≡ t ∷ docs_as_comments docs 0 ts
no_attribute docs t ts n = ap (λ k. comment_if k t ∷ docs_as_comments docs k ts) n

-- up to a brace, and from it on
pub brace_parts : (docs : Bool) (front : List Piece) (o : Piece) (ts : List Piece) → is_brace o ≡ true → docs_as_comments docs 0 (front ++ o ∷ ts) ≡ docs_as_comments docs 0 front ++ o ∷ docs_as_comments docs 0 ts
brace_parts docs front o ts is =
    in_parts docs front (o ∷ ts) (brace_first docs o ts is) ∙ ap (λ l. docs_as_comments docs 0 front ++ l) (no_attribute docs o ts (none docs))
  where
    none : (docs : Bool) → doc_left docs o ts ≡ 0
    none true = refl
    none false = let hash : (symbol_of o == 35) ≡ false = grind (arith, nat_tests) in rw hash refl

-- in braces of a text, the second of which begins what stands further on
pub in_braces : (docs : Bool) (d : ℕ) (front inside : List Piece) (o e : Piece) (ts : List Piece) → symbol_of o ≡ 123 → symbol_of e ≡ 125
    → docs_as_comments docs 0 (front ++ o ∷ (inside ++ map (moved_piece d) (e ∷ ts))) ≡ docs_as_comments docs 0 front ++ o ∷ (docs_as_comments docs 0 inside ++ map (moved_piece d) (e ∷ docs_as_comments docs 0 ts))
in_braces docs d front inside o e ts opens closes =
    let first : is_brace o ≡ true = rw opens refl in
    let last : is_brace (moved_piece d e) ≡ true = rw closes refl in
    brace_parts docs front o (inside ++ map (moved_piece d) (e ∷ ts)) first
    ∙ ap (λ l. docs_as_comments docs 0 front ++ o ∷ l) (brace_parts docs inside (moved_piece d e) (map (moved_piece d) ts) last)
    ∙ ap (λ l. docs_as_comments docs 0 front ++ o ∷ (docs_as_comments docs 0 inside ++ moved_piece d e ∷ l)) (moved_docs docs 0 d ts)
