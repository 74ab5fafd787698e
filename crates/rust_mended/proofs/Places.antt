-- The marks of a text stand where its tokens begin and end, in their order.
use Rattle.std.proofs.Common.{◌≡◌, refl, ◌∙◌, ap, sym, subst, ℕ, zero, suc, ◌≤◌, ◌<◌, ◌+◌, Bool, true, false, ◌&&◌, if◌then◌else◌, List, [], ◌∷◌, ◌++◌, length, drop, get_or, append_assoc, append-nil, length-append, Option, Some, None, arith, IsCharBoundary}
use Rattle.std.proofs.Math.Seq.{get_or-append_seam}
use Rattle.std.proofs.lemmas.Bool.{cond_both}
use Rattle.std.proofs.lemmas.Bool.Decides.{nat_tests}
use Rattle.std.proofs.lemmas.List.{get_or-drop}
use Rattle.std.proofs.lemmas.Str.{IsCharBoundary-after_ascii, IsCharBoundary-end, IsCharBoundary-start}
use Rattle.std.specs.List.{slice_index}
use Rattle.std.specs.Str.{IsUtf8}
use Rattle.rust_lexer.specs.declared.kind.TokenKind.{TokenKind}
use Rattle.rust_lexer.specs.declared.kind.TokenKind.TheVariants as kind
use Rattle.rust_lexer.specs.Cut.{first_cut}
use Rattle.rust_lexer.specs.Piece.{Piece}
use Rattle.rust_lexer.specs.Symbol.{symbol_from, symbol_of}
use Rattle.rust_lexer.specs.Tokens.{AreInPlace, has_mark, is_shebang, lines_from, mark_from, matter_by, matter_from, shebang_from, text_of, tokens, tokens_from, whole_length}
use Rattle.rust_lexer.proofs.Boundaries.{IsLead, run_leads_behind}
use Rattle.rust_lexer.proofs.Laws.{AreSome, tokens_lossless, tokens_not_empty, tokens_placed}
use Rattle.rust_mended.specs.declared.line.Line.{Line}
use Rattle.rust_mended.specs.declared.mark.Mark.{Mark}
use Rattle.rust_mended.specs.declared.mark.MarkKind.TheVariants as mark
use Rattle.rust_mended.specs.Marks.{bracket_of, text_begin, is_between, is_opening_symbol, is_closing_symbol, may_begin_item, line_behind, place_behind, and_marks, marks_from, line_behind_all, marks, last_end}
use Rattle.rust_mended.proofs.Order.{MarksFit}
use Rattle.rust_mended.proofs.MatchedMarks.{no_truth}

-- ---- the first byte of each token begins a character

abbrev Leads : List Piece → Type 0
Leads [] = Unit {0}
Leads (t ∷ ts) = IsLead (slice_index t.text 0) × Leads ts

leads_from : (left at : ℕ) (z : List ℕ) → IsLead (slice_index z left) → Leads (tokens_from left at z)
leads_from zero at [] h = tt
leads_from (suc left) at [] h = tt
leads_from (suc left) at (b ∷ z) h = leads_from left (suc at) z h
leads_from zero at (b ∷ z) h = (h, leads_from (whole_length (first_cut b z) z) (suc at) z (run_leads_behind z _ _ refl))

leads_matter : (found : Option ℕ) (at : ℕ) (z : List ℕ) → IsLead (slice_index z 0) → Leads (matter_by found at z)
leads_matter None at z h = leads_from 0 at z h
leads_matter (Some n) at [] h = tt
leads_matter (Some n) at (b ∷ z) h = (h, leads_from _ (suc at) z (run_leads_behind z _ _ refl))

-- behind a token
leads_dropped : (n : ℕ) (z : List ℕ) → IsLead (slice_index z n) → IsLead (slice_index (drop n z) 0)
leads_dropped n z h =
    let at : n + 0 ≡ n = omega arith in subst IsLead (sym (get_or-drop n z 0 0 ∙ ap (λ i. get_or z i 0) at)) h

leads_shebang : (at : ℕ) (z : List ℕ) → IsLead (slice_index z 0) → Leads (shebang_from at z)
leads_shebang at [] h = tt
leads_shebang at (b ∷ z) h = (h, leads_matter _ _ _ (leads_dropped _ z (run_leads_behind z _ _ refl)))

leads_lines : (at : ℕ) (z : List ℕ) → IsLead (slice_index z 0) → Leads (lines_from at z)
leads_lines at z h =
    cond_both (is_shebang (tokens_from 0 at z)) (shebang_from at z) (matter_from at z) Leads (λ _. leads_shebang at z h) (λ _. leads_matter _ at z h)

leads_mark : (at : ℕ) (z : List ℕ) → IsLead (slice_index z 0) → Leads (mark_from at z)
leads_mark at [] h = tt
leads_mark at (b ∷ z) h = (h, leads_lines _ _ (leads_dropped _ z (run_leads_behind z _ _ refl)))

leads_tokens : (z : List ℕ) → IsLead (slice_index z 0) → Leads (tokens z)
unfolding tokens
leads_tokens z h = cond_both (has_mark z) (mark_from 0 z) (lines_from 0 z) Leads (λ _. leads_mark 0 z h) (λ _. leads_lines 0 z h)

lead_first : (z : List ℕ) → IsUtf8 z → IsLead (slice_index z 0)
lead_first [] u h = absurd (omega arith)
lead_first (b ∷ z) u h = (IsCharBoundary-start (b ∷ z) u).1 (omega arith) h

-- ---- tokens stand at such places

-- it begins and ends at such places, and so does its first byte, if it is a closer
abbrev pub TokenFits : (ℕ → Type 0) → Piece → Type 0
TokenFits P t = P t.at × (P (t.at + length t.text) × ((0 < length t.text) × (is_closing_symbol (symbol_of t) ≡ true → P (t.at + 1))))

abbrev pub TokensFit : (ℕ → Type 0) → List Piece → Type 0
TokensFit P [] = Unit {0}
TokensFit P (t ∷ ts) = TokenFits P t × TokensFit P ts

-- a closer is its own first byte, and neither white space nor a comment
abbrev IsCloser : TokenKind → ℕ → Type 0
IsCloser k b = is_closing_symbol (symbol_from k b) ≡ true → (is_between k ≡ false) × (b < 128)

close_small : (b : ℕ) → is_closing_symbol b ≡ true → b < 128
close_small b e = grind (arith, nat_tests)

is_closer : (k : TokenKind) (b : ℕ) → IsCloser k b
is_closer kind.ByteOrderMark b e = absurd (no_truth e)
is_closer kind.Shebang b e = absurd (no_truth e)
is_closer kind.Frontmatter b e = absurd (no_truth e)
is_closer kind.Whitespace b e = absurd (no_truth e)
is_closer (kind.LineComment d) b e = absurd (no_truth e)
is_closer (kind.BlockComment d) b e = absurd (no_truth e)
is_closer kind.Ident b e = absurd (no_truth e)
is_closer kind.RawIdent b e = absurd (no_truth e)
is_closer kind.Lifetime b e = absurd (no_truth e)
is_closer kind.RawLifetime b e = absurd (no_truth e)
is_closer (kind.Literal l) b e = absurd (no_truth e)
is_closer kind.OpenDelim b e = (refl, close_small b e)
is_closer kind.CloseDelim b e = (refl, close_small b e)
is_closer kind.Punct b e = (refl, close_small b e)
is_closer kind.Unknown b e = absurd (no_truth e)

-- the byte of a text at a part that is not empty
byte_at : (x t y : List ℕ) → 0 < length t → slice_index (x ++ (t ++ y)) (length x) ≡ slice_index t 0
byte_at x [] y l = absurd (omega arith)
byte_at x (b ∷ t) y l = get_or-append_seam x b (t ++ y) 0

pub some_first : (t : Piece) (ts : List Piece) → AreSome (t ∷ ts) → 0 < length t.text
some_first t ts h = h 0 t (omega arith)

pub some_rest : (t : Piece) (ts : List Piece) → AreSome (t ∷ ts) → AreSome ts
some_rest t ts h = λ i d l. h (suc i) d (omega arith)

start_fits : (text x : List ℕ) (ts : List Piece) → text ≡ x ++ text_of ts → Leads ts → AreSome ts → IsCharBoundary text (length x)
start_fits text x [] e h s = let same : text ≡ x = e ∙ append-nil x in subst (λ z. IsCharBoundary text (length z)) same (IsCharBoundary-end text)
start_fits text x (t ∷ ts) e h s =
    let long : length text ≡ length x + length (t.text ++ text_of ts) = ap length e ∙ length-append x (t.text ++ text_of ts) in
    let byte : slice_index text (length x) ≡ slice_index t.text 0 = ap (λ z. slice_index z (length x)) e ∙ byte_at x t.text (text_of ts) (some_first t ts s) in
    (omega (arith, long), λ _. subst IsLead (sym byte) h.0)

tokens_fit : (text x : List ℕ) (q : ℕ) (ts : List Piece) → IsUtf8 text → text ≡ x ++ text_of ts → length x ≡ q → AreInPlace q ts → Leads ts → AreSome ts → TokensFit (IsCharBoundary text) ts
tokens_fit text x q [] u e n p h s = tt
tokens_fit text x q (t ∷ ts) u e n p h s =
    let some : 0 < length t.text = some_first t ts s in
    let rest : AreSome ts = some_rest t ts s in
    let at : length x ≡ t.at = n ∙ sym p.0 in
    let next : text ≡ (x ++ t.text) ++ text_of ts = e ∙ sym (append_assoc x t.text (text_of ts)) in
    let past : length (x ++ t.text) ≡ q + length t.text = length-append x t.text ∙ ap (λ k. k + length t.text) n in
    let end : length (x ++ t.text) ≡ t.at + length t.text = length-append x t.text ∙ ap (λ k. k + length t.text) at in
    let byte : slice_index text (length x) ≡ slice_index t.text 0 = ap (λ z. slice_index z (length x)) e ∙ byte_at x t.text (text_of ts) some in
    let long : length text ≡ length x + length (t.text ++ text_of ts) = ap length e ∙ length-append x (t.text ++ text_of ts) in
    let more : length (t.text ++ text_of ts) ≡ length t.text + length (text_of ts) = length-append t.text (text_of ts) in (
      (
        subst (IsCharBoundary text) at (start_fits text x (t ∷ ts) e h s),
        (
          subst (IsCharBoundary text) end (start_fits text (x ++ t.text) ts next h.1 rest),
          (
            some,
            λ c. subst (λ k. IsCharBoundary text (k + 1)) at
                (IsCharBoundary-after_ascii text (length x) u (omega (arith, long, more, some)) (subst (λ b. b < 128) (sym byte) (is_closer t.kind (slice_index t.text 0) c).1)),
          ),
        ),
      ),
      tokens_fit text (x ++ t.text) (q + length t.text) ts u next past p.1 h.1 rest,
    )

-- ---- and so do marks

-- the place behind a token is not before that
pub behind_more : (l : Line) (t : Piece) (q : ℕ) → l.behind ≤ q → t.at ≡ q → (l.behind ≤ place_behind l t) × (place_behind l t ≤ q + length t.text)
behind_more l t q h e =
    cond_both (is_between t.kind) l.behind (t.at + length t.text) (λ n. (l.behind ≤ n) × (n ≤ q + length t.text)) (λ _. (omega arith, omega arith)) (λ _. (omega arith, omega arith))

pub behind_fits : (P : ℕ → Type 0) (l : Line) (t : Piece) → P l.behind → P (t.at + length t.text) → P (place_behind l t)
behind_fits P l t h g = cond_both (is_between t.kind) l.behind (t.at + length t.text) P (λ _. h) (λ _. g)

-- the place behind a closer
behind_close : (l : Line) (t : Piece) → is_closing_symbol (symbol_of t) ≡ true → 0 < length t.text → t.at + 1 ≤ place_behind l t
behind_close l t c s = rw (is_closer t.kind (slice_index t.text 0) c).0 (omega arith)

and_marks_fit : (P : ℕ → Type 0) (last_end n : ℕ) (l : Line) (t : Piece) (ms : List Mark) (a b may : Bool) → is_closing_symbol (symbol_of t) ≡ b → n ≤ l.behind → P l.behind → l.behind ≤ t.at → TokenFits P t
    → ((m : ℕ) → m ≤ place_behind l t → MarksFit P last_end m ms) → (l.behind ≤ place_behind l t)
    → MarksFit P last_end n (and_marks (if a then Some (mark.Open (bracket_of (symbol_of t))) else (if b then Some (mark.Close (bracket_of (symbol_of t))) else (if may then Some mark.Item else None))) l t ms)
and_marks_fit P last_end n l t ms true b may c h p at f rest more = (h, (p, (tt, rest l.behind more)))
and_marks_fit P last_end n l t ms false true may c h p at f rest more =
    (h, (p, ((at, (f.0, f.1.1.1 c)), rest (t.at + 1) (behind_close l t c f.1.1.0))))
and_marks_fit P last_end n l t ms false false true c h p at f rest more = (h, (p, (tt, rest l.behind more)))
and_marks_fit P last_end n l t ms false false false c h p at f rest more = rest n (omega arith)

pub marks_from_fit : (P : ℕ → Type 0) (l : Line) (q : ℕ) (ts : List Piece) → l.behind ≤ q → P l.behind → AreInPlace q ts → TokensFit P ts
    → (n : ℕ) → n ≤ l.behind → MarksFit P (line_behind_all l ts).behind n (marks_from l ts)
marks_from_fit P l q [] b p i f n h = (h, p)
marks_from_fit P l q (t ∷ ts) b p i f n h =
    let more : (l.behind ≤ place_behind l t) × (place_behind l t ≤ q + length t.text) = behind_more l t q b i.0 in
    let at : l.behind ≤ t.at = rw i.0 b in
    and_marks_fit P (line_behind_all (line_behind l t) ts).behind n l t (marks_from (line_behind l t) ts) (is_opening_symbol (symbol_of t)) (is_closing_symbol (symbol_of t)) (l.is_first && may_begin_item t.kind (symbol_of t))
    refl h p at f.0 (marks_from_fit P (line_behind l t) (q + length t.text) ts more.1 (behind_fits P l t p f.0.1.0) i.1 f.1) more.0

pub marks_fit : (text : List ℕ) → IsUtf8 text → MarksFit (IsCharBoundary text) (last_end text) 0 (marks text)
marks_fit text u =
    marks_from_fit (IsCharBoundary text) text_begin 0 (tokens text) (omega arith) (IsCharBoundary-start text u) (tokens_placed text)
    (tokens_fit text [] 0 (tokens text) u (sym (tokens_lossless text)) refl (tokens_placed text) (leads_tokens text (lead_first text u)) (tokens_not_empty text)) 0 (omega arith)
