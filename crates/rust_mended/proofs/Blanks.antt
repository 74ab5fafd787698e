-- White space up to the end of a line: what is behind it is read as if it began a text.
use Rattle.std.proofs.Common.{◌≡◌, refl, ◌∙◌, ap, sym, ℕ, suc, ◌+◌, ◌<◌, ◌==◌, true, false, List, [], ◌∷◌, ◌++◌, length, take, arith, append_assoc, slice_index, length-append}
use Rattle.std.proofs.Math.Seq.{take-append-add}
use Rattle.std.proofs.lemmas.Bool.Decides.{nat_tests}
use Rattle.std.specs.List.{list_all}
use Rattle.rust_lexer.specs.declared.kind.TokenKind.TheVariants as kind
use Rattle.rust_lexer.specs.Bytes.{is_continuation, is_white}
use Rattle.rust_lexer.specs.Cut.{cut, first_cut}
use Rattle.rust_lexer.specs.Inner.{is_blank_byte}
use Rattle.rust_lexer.specs.Piece.{Piece}
use Rattle.rust_lexer.specs.Tokens.{piece, tokens_from, whole_length}
use Rattle.rust_lexer.proofs.Cases.{when}
use Rattle.rust_lexer.proofs.WholeTokens.{white_whole}
use Rattle.rust_mended.specs.declared.line.Line.{Line}
use Rattle.rust_mended.specs.Marks.{blank_behind, blanks_behind, line_behind_all, marks_from, with_behind}

-- ---- what these tell of lines

-- the same is read of both
abbrev pub ReadAlike : Line → List Piece → Line → List Piece → Type 0
ReadAlike l ts m us = (marks_from l ts ≡ marks_from m us) × (line_behind_all l ts ≡ line_behind_all m us)

-- at the beginning of a line
abbrev pub line_begin : ℕ → Line
line_begin at = record { indent = 0; is_first = true; behind = at }

blanks_append : (l : Line) (x y : List ℕ) → blanks_behind l (x ++ y) ≡ blanks_behind (blanks_behind l x) y
blanks_append l [] y = refl
blanks_append l (b ∷ x) y = blanks_append (blank_behind l b) x y

-- white space leaves the place behind the last token
blank_keeps : (l : Line) (b : ℕ) → (blank_behind l b).behind ≡ l.behind
blank_keeps l b = when (b == 10) (λ e. rw e refl) (λ e. when l.is_first (λ f. rw (e, f) refl) (λ f. rw (e, f) refl))

blanks_keep : (l : Line) (z : List ℕ) → (blanks_behind l z).behind ≡ l.behind
blanks_keep l [] = refl
blanks_keep l (b ∷ z) = blanks_keep (blank_behind l b) z ∙ blank_keeps l b

-- behind the end of a line a line begins
feed_behind : (l : Line) (z : List ℕ) → blanks_behind l (z ++ 10 ∷ []) ≡ line_begin l.behind
feed_behind l z = blanks_append l z (10 ∷ []) ∙ ap line_begin (blanks_keep l z)

-- white space is no mark
white_marks : (l : Line) (t : Piece) (ts : List Piece) → t.kind ≡ kind.Whitespace → ReadAlike l (t ∷ ts) (with_behind l.behind (blanks_behind l t.text)) ts
white_marks l t ts e = rw e (when l.is_first (λ f. rw f (refl, refl)) (λ f. rw f (refl, refl)))

-- ---- what these are as tokens

blank_white : (b : ℕ) (y : List ℕ) → is_blank_byte b ≡ true → is_white b y ≡ true
blank_white b y e = grind (arith, nat_tests)

-- how many bytes at the front are white space
abbrev pub whites : List ℕ → ℕ
whites y = (first_cut 32 y).len

no_whites : whites [] ≡ 0
unfolding first_cut
no_whites = refl

white_in : (b : ℕ) (y : List ℕ) → is_white b y ≡ true → whites (b ∷ y) ≡ suc (whites y)
unfolding first_cut
white_in b y e = rw e refl

white_out : (b : ℕ) (y : List ℕ) → is_white b y ≡ false → is_continuation b ≡ false → whites (b ∷ y) ≡ 0
unfolding first_cut
white_out b y e f = rw (e, f) refl

blanks_run : (z s : List ℕ) → list_all is_blank_byte z ≡ true → whites (z ++ s) ≡ length z + whites s
blanks_run [] s h = let e : whites s ≡ 0 + whites s = omega arith in e
blanks_run (b ∷ z) s h =
    when (is_blank_byte b) (λ e. white_in b (z ++ s) (blank_white b (z ++ s) e) ∙ ap suc (blanks_run z s (rw e at h)) ∙ (let e : suc (length z + whites s) ≡ suc (length z) + whites s = omega arith in e))
    (λ e. absurd cc)

-- white space at the front, as a token
white_cut : (b : ℕ) (y : List ℕ) → is_white b y ≡ true → first_cut b y ≡ cut kind.Whitespace (whites y)
unfolding first_cut
white_cut b y e = rw e refl

white_len : (y : List ℕ) → whole_length (cut kind.Whitespace (whites y)) y ≡ whites y
unfolding first_cut
white_len y = let none = white_whole (whites y) y refl in omega (arith, none)

abbrev white_piece : ℕ → ℕ → ℕ → List ℕ → Piece
white_piece n at b y = record { kind = kind.Whitespace; text = b ∷ take n y; at = at }

white_first : (at b : ℕ) (y : List ℕ) → is_white b y ≡ true → tokens_from 0 at (b ∷ y) ≡ white_piece (whites y) at b y ∷ tokens_from (whites y) (suc at) y
white_first at b y e =
    ap (λ c. piece c at b y ∷ tokens_from (whole_length c y) (suc at) y) (white_cut b y e)
    ∙ ap (λ n. white_piece n at b y ∷ tokens_from n (suc at) y) (white_len y)

-- the bytes of a token are passed
pass : (x w : List ℕ) (n at : ℕ) → tokens_from (length x + n) at (x ++ w) ≡ tokens_from n (at + length x) w
pass [] w n at = let e : at ≡ at + 0 = omega arith in let f : 0 + n ≡ n = omega arith in ap (λ i. tokens_from i at w) f ∙ ap (λ k. tokens_from n k w) e
pass (b ∷ x) w n at =
    let e : suc (length x) + n ≡ suc (length x + n) = omega arith in
    let f : suc at + length x ≡ at + suc (length x) = omega arith in
    ap (λ i. tokens_from i at (b ∷ (x ++ w))) e ∙ pass x w n (suc at) ∙ ap (λ k. tokens_from n k w) f

-- white space joined with what is behind it, as one token
joined : (l : Line) (at : ℕ) (z s : List ℕ) → list_all is_blank_byte z ≡ true → 0 < length z
    → ReadAlike l (tokens_from 0 at (z ++ s)) (with_behind l.behind (blanks_behind (blanks_behind l z) (take (whites s) s))) (tokens_from (whites s) (at + length z) s)
joined l at [] s h some = absurd (omega arith)
joined l at (b ∷ z) s h some =
    when (is_blank_byte b)
    (λ e. let n = whites s in
    let tail : whites (z ++ s) ≡ length z + n = blanks_run z s (rw e at h) in
    let first : tokens_from 0 at (b ∷ (z ++ s)) ≡ white_piece (length z + n) at b (z ++ s) ∷ tokens_from n (at + suc (length z)) s =
    white_first at b (z ++ s) (blank_white b (z ++ s) e)
    ∙ ap (λ k. white_piece k at b (z ++ s) ∷ tokens_from k (suc at) (z ++ s)) tail
    ∙ ap (λ ts. white_piece (length z + n) at b (z ++ s) ∷ ts) (pass z s n (suc at) ∙ (let e : suc at + length z ≡ at + suc (length z) = omega arith in ap (λ k. tokens_from n k s) e)) in
    let text : blanks_behind l (b ∷ take (length z + n) (z ++ s)) ≡ blanks_behind (blanks_behind l (b ∷ z)) (take n s) =
    ap (λ x. blanks_behind l (b ∷ x)) (take-append-add z s n) ∙ blanks_append l (b ∷ z) (take n s) in
    let two = white_marks l (white_piece (length z + n) at b (z ++ s)) (tokens_from n (at + suc (length z)) s) refl in (
      ap (marks_from l) first ∙ two.0 ∙ ap (λ m. marks_from (with_behind l.behind m) (tokens_from n (at + suc (length z)) s)) text,
      ap (line_behind_all l) first ∙ two.1 ∙ ap (λ m. line_behind_all (with_behind l.behind m) (tokens_from n (at + suc (length z)) s)) text,
    ))
    (λ e. absurd cc)

-- white space at the front, at the beginning of a line
fronted : (behind at : ℕ) (s : List ℕ) → is_continuation (slice_index s 0) ≡ false
    → ReadAlike (line_begin behind) (tokens_from 0 at s) (with_behind behind (blanks_behind (line_begin behind) (take (whites s) s))) (tokens_from (whites s) at s)
fronted behind at [] u = rw no_whites (refl, refl)
fronted behind at (b ∷ y) u =
    when (is_white b y)
    (λ e. let n = whites y in
    let first = white_first at b y e in
    let two = white_marks (line_begin behind) (white_piece n at b y) (tokens_from n (suc at) y) refl in
    rw (white_in b y e) (ap (marks_from (line_begin behind)) first ∙ two.0, ap (line_behind_all (line_begin behind)) first ∙ two.1))
    (λ e. rw (white_out b y e u) (refl, refl))

-- behind white space up to the end of a line
pub blanks_alike : (l : Line) (at : ℕ) (z s : List ℕ) → list_all is_blank_byte z ≡ true → is_continuation (slice_index s 0) ≡ false
    → ReadAlike l (tokens_from 0 at (z ++ 10 ∷ s)) (line_begin l.behind) (tokens_from 0 (at + (length z + 1)) s)
blanks_alike l at z s h u =
    let zs : List ℕ = z ++ 10 ∷ [] in
    let all : list_all is_blank_byte zs ≡ true = blanks_all z h in
    let long : length zs ≡ length z + 1 = length-append z (10 ∷ []) in
    let parts : z ++ 10 ∷ s ≡ zs ++ s = sym (append_assoc z (10 ∷ []) s) in
    let n = whites s in
    let one = joined l at zs s all (omega (arith, long)) in
    let two = fronted l.behind (at + length zs) s u in (
      ap (λ x. marks_from l (tokens_from 0 at x)) parts ∙ one.0
          ∙ ap (λ m. marks_from (with_behind l.behind (blanks_behind m (take n s))) (tokens_from n (at + length zs) s)) (feed_behind l z)
          ∙ sym two.0 ∙ ap (λ k. marks_from (line_begin l.behind) (tokens_from 0 (at + k) s)) long,
      ap (λ x. line_behind_all l (tokens_from 0 at x)) parts ∙ one.1
          ∙ ap (λ m. line_behind_all (with_behind l.behind (blanks_behind m (take n s))) (tokens_from n (at + length zs) s)) (feed_behind l z)
          ∙ sym two.1 ∙ ap (λ k. line_behind_all (line_begin l.behind) (tokens_from 0 (at + k) s)) long,
    )
  where
    blanks_all : (z : List ℕ) → list_all is_blank_byte z ≡ true → list_all is_blank_byte (z ++ 10 ∷ []) ≡ true
    blanks_all [] h = refl
    blanks_all (b ∷ z) h = when (is_blank_byte b) (λ e. rw e (blanks_all z (rw e at h))) (λ e. absurd cc)
