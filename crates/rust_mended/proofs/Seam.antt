-- The marks of texts that stand apart are those of the first, and those of the second further on.
use Rattle.std.proofs.Common.{◌≡◌, refl, ◌∙◌, ap, sym, ℕ, ◌+◌, ◌<◌, ◌==◌, false, if◌then◌else◌, List, [], ◌∷◌, ◌++◌, length, map, Option, Some, None, arith}
use Rattle.std.proofs.lemmas.Bool.{ne_eqb}
use Rattle.rust_lexer.specs.declared.kind.TokenKind.{TokenKind}
use Rattle.rust_lexer.specs.declared.kind.TokenKind.TheVariants as kind
use Rattle.rust_lexer.specs.Alone.{moved_piece}
use Rattle.rust_lexer.specs.Piece.{Piece}
use Rattle.rust_lexer.specs.Tokens.{tokens, tokens_from}
use Rattle.rust_lexer.proofs.TextsApart.{tokens_moved}
use Rattle.rust_lexer.proofs.Cases.{when}
use Rattle.rust_lexer.proofs.Laws.{AreSome, tokens_not_empty}
use Rattle.rust_mended.specs.declared.line.Line.{Line}
use Rattle.rust_mended.specs.declared.mark.Mark.{Mark}
use Rattle.rust_mended.specs.declared.mark.MarkKind.{MarkKind}
use Rattle.rust_mended.specs.Apart.{StandApart, behind_further, mark_further, seam}
use Rattle.rust_mended.specs.Marks.{and_marks, blank_behind, blanks_behind, is_between, last_end, line_behind, line_behind_all, line_by, mark_kind_of, marks, marks_from, place_behind, text_begin, with_behind}
use Rattle.rust_mended.proofs.Blanks.{ReadAlike, blanks_alike, line_begin}
use Rattle.rust_mended.proofs.Places.{some_first, some_rest}

-- ---- one behind the other

and_marks_join : (k : Option MarkKind) (l : Line) (t : Piece) (ms ns : List Mark) → and_marks k l t (ms ++ ns) ≡ and_marks k l t ms ++ ns
and_marks_join None l t ms ns = refl
and_marks_join (Some k) l t ms ns = refl

pub marks_join : (l : Line) (ts us : List Piece) → marks_from l (ts ++ us) ≡ marks_from l ts ++ marks_from (line_behind_all l ts) us
marks_join l [] us = refl
marks_join l (t ∷ ts) us =
    ap (and_marks (mark_kind_of l t) l t) (marks_join (line_behind l t) ts us)
    ∙ and_marks_join (mark_kind_of l t) l t (marks_from (line_behind l t) ts) (marks_from (line_behind_all (line_behind l t) ts) us)

pub lines_join : (l : Line) (ts us : List Piece) → line_behind_all l (ts ++ us) ≡ line_behind_all (line_behind_all l ts) us
lines_join l [] us = refl
lines_join l (t ∷ ts) us = lines_join (line_behind l t) ts us

-- ---- further on

-- Tokens that stand so many bytes further on, where the place behind the token before them is this one.
module _ (from d : ℕ) where
  abbrev pub behind_by : ℕ → ℕ
  behind_by at = if at == 0 then from else at + d

  abbrev pub line_by_places : Line → Line
  line_by_places l = record { indent = l.indent; is_first = l.is_first; behind = behind_by l.behind }

  abbrev pub mark_by_places : Mark → Mark
  mark_by_places t = record { kind = t.kind; at = t.at + d; behind = behind_by t.behind; indent = t.indent; begins_line = t.begins_line }

  blank_on : (l : Line) (b : ℕ) → blank_behind (line_by_places l) b ≡ line_by_places (blank_behind l b)
  blank_on l b = when (b == 10) (λ e. rw e refl) (λ e. when l.is_first (λ f. rw (e, f) refl) (λ f. rw (e, f) refl))

  blanks_on : (l : Line) (x : List ℕ) → blanks_behind (line_by_places l) x ≡ line_by_places (blanks_behind l x)
  blanks_on l [] = refl
  blanks_on l (b ∷ x) = ap (λ m. blanks_behind m x) (blank_on l b) ∙ blanks_on (blank_behind l b) x

  kind_on : (k : TokenKind) (l : Line) (x : List ℕ) → line_by k (line_by_places l) x ≡ line_by_places (line_by k l x)
  kind_on kind.Whitespace l x = blanks_on l x
  kind_on _ l x = refl

  place_on : (l : Line) (t : Piece) → 0 < length t.text → place_behind (line_by_places l) (moved_piece d t) ≡ behind_by (place_behind l t)
  place_on l t some =
      let other : (t.at + length t.text == 0) ≡ false = ne_eqb (t.at + length t.text) 0 (omega arith) in
      let on : t.at + d + length t.text ≡ t.at + length t.text + d = omega arith in
      when (is_between t.kind) (λ e. rw e refl) (λ e. rw (e, other) on)

  pub token_on : (l : Line) (t : Piece) → 0 < length t.text → line_behind (line_by_places l) (moved_piece d t) ≡ line_by_places (line_behind l t)
  token_on l t some =
      ap (λ m. with_behind (place_behind (line_by_places l) (moved_piece d t)) m) (kind_on t.kind l t.text)
      ∙ ap (λ n. with_behind n (line_by t.kind l t.text)) (place_on l t some)

  and_marks_on : (k : Option MarkKind) (l : Line) (t : Piece) (ms : List Mark) → and_marks k (line_by_places l) (moved_piece d t) (map mark_by_places ms) ≡ map mark_by_places (and_marks k l t ms)
  and_marks_on None l t ms = refl
  and_marks_on (Some k) l t ms = refl

  pub marks_on : (l : Line) (ts : List Piece) → AreSome ts → marks_from (line_by_places l) (map (moved_piece d) ts) ≡ map mark_by_places (marks_from l ts)
  marks_on l [] s = refl
  marks_on l (t ∷ ts) s =
      ap (λ m. and_marks (mark_kind_of l t) (line_by_places l) (moved_piece d t) (marks_from m (map (moved_piece d) ts))) (token_on l t (some_first t ts s))
      ∙ ap (and_marks (mark_kind_of l t) (line_by_places l) (moved_piece d t)) (marks_on (line_behind l t) ts (some_rest t ts s))
      ∙ and_marks_on (mark_kind_of l t) l t (marks_from (line_behind l t) ts)

  pub lines_on : (l : Line) (ts : List Piece) → AreSome ts → line_behind_all (line_by_places l) (map (moved_piece d) ts) ≡ line_by_places (line_behind_all l ts)
  lines_on l [] s = refl
  lines_on l (t ∷ ts) s =
      ap (λ m. line_behind_all m (map (moved_piece d) ts)) (token_on l t (some_first t ts s)) ∙ lines_on (line_behind l t) ts (some_rest t ts s)

-- ---- both

module _ (q z s : List ℕ) (h : StandApart q z s) where
  abbrev all : List ℕ
  all = q ++ (z ++ 10 ∷ s)

  -- behind the tokens of the first
  abbrev line : Line
  line = line_behind_all text_begin (tokens q)

  all_tokens : tokens all ≡ tokens q ++ tokens_from 0 (length q) (z ++ 10 ∷ s)
  all_tokens =
      let on : 0 + length q ≡ length q = omega arith in
      h.ends ∙ ap (λ ts. tokens q ++ ts) (sym (tokens_moved (length q) 0 0 (z ++ 10 ∷ s)) ∙ ap (λ k. tokens_from 0 k (z ++ 10 ∷ s)) on)

  second_tokens : tokens_from 0 (seam q z) s ≡ map (moved_piece (seam q z)) (tokens s)
  second_tokens =
      let on : seam q z ≡ 0 + seam q z = omega arith in
      ap (λ k. tokens_from 0 k s) on ∙ tokens_moved (seam q z) 0 0 s ∙ ap (map (moved_piece (seam q z))) (sym h.bare)

  alike : ReadAlike line (tokens_from 0 (length q) (z ++ 10 ∷ s)) (line_begin (last_end q)) (tokens_from 0 (seam q z) s)
  alike = blanks_alike line (length q) z s h.blanks h.uncut

  pub all_marks : marks all ≡ marks q ++ map (mark_further q z) (marks s)
  all_marks =
      ap (marks_from text_begin) all_tokens
      ∙ marks_join text_begin (tokens q) (tokens_from 0 (length q) (z ++ 10 ∷ s))
      ∙ ap (λ ms. marks q ++ ms) (alike.0 ∙ ap (marks_from (line_begin (last_end q))) second_tokens ∙ marks_on (last_end q) (seam q z) text_begin (tokens s) (tokens_not_empty s))

  pub all_last : last_end all ≡ behind_further q z (last_end s)
  all_last =
      ap (λ (l : Line). l.behind) (ap (line_behind_all text_begin) all_tokens
      ∙ lines_join text_begin (tokens q) (tokens_from 0 (length q) (z ++ 10 ∷ s))
      ∙ alike.1 ∙ ap (line_behind_all (line_begin (last_end q))) second_tokens ∙ lines_on (last_end q) (seam q z) text_begin (tokens s) (tokens_not_empty s))
