-- For the crate's own functions.
use Rattle.std.specs.Prelude.{◌≡◌, ◌<◌, ℕ, ◌+◌, ◌-◌, ◌^◌, Bool, false, ◌==◌, ◌&&◌, nat_le, if◌then◌else◌, List, [], ◌∷◌, ◌++◌, IsUtf8, filter}
use Rattle.rust_lexer.specs.Piece.{Piece}
use Rattle.rust_lexer.specs.Symbol.{symbol_of}
use Rattle.rust_lexer.specs.Tokens.{is_nil, is_significant, tokens}
use Rattle.rust_cursor.specs.Words.{rest}
use Rattle.rust_paths.specs.declared.names.TextRange.{TextRange}
use Rattle.rust_edits.specs.Typing.Laws.{first_plain}
use Rattle.rust_edits.specs.Typing.Loose.{Loose, none_loose, loose_from}
use Rattle.rust_edits.specs.declared.alone.Brackets.{Brackets}
use Rattle.rust_edits.specs.declared.parts.Parts.{Parts}
use Rattle.rust_edits.specs.declared.shift.Shift.{Shift}
use Rattle.rust_edits.specs.Edits.{ArePartsAbout}

-- a text in braces
abbrev pub in_braces : List ℕ → List ℕ
in_braces m = 123 ∷ (m ++ 125 ∷ [])

-- the braces that are open so many deep before these tokens are closed by the last of them, and no sooner
abbrev pub closes_last : ℕ → List Piece → Bool
closes_last depth [] = false
closes_last depth (t ∷ ts) =
    if symbol_of t == 123 then closes_last (depth + 1) ts
    else (if symbol_of t == 125 then (if nat_le depth 1 then is_nil ts else closes_last (depth - 1) ts) else closes_last depth ts)

-- no inner attribute stands behind the first token
abbrev pub begins_plain : List Piece → Bool
begins_plain ts = first_plain (rest (filter is_significant ts))

-- a text with braces around it begins with no inner attribute, and its braces stand alone
abbrev pub is_alone : List ℕ → Bool
is_alone w = begins_plain (tokens w) && closes_last 0 (tokens w)

abbrev pub brackets_view : Brackets → Loose
brackets_view b = record { closing = b.closing; opening = b.opening }

-- the brackets that are loose in a text with braces around it
abbrev pub loose_inside : List ℕ → Loose
loose_inside w = loose_from none_loose (tokens w)

-- as many are loose in both
abbrev pub same_loose : Loose → Loose → Bool
same_loose l m = l.closing == m.closing && l.opening == m.opening

-- these are the parts of a text about a range in these braces
pub record AreCut (text : List ℕ) (body range : TextRange) (p : Parts) : Type 0 where
  pub about : ArePartsAbout text body range p.before.now p.front.now p.replaced.now p.back.now p.behind.now
  pub before_utf8 : IsUtf8 p.before.now

-- a range of a text does not stand in these braces, or cuts a character
abbrev pub IsUncut : List ℕ → TextRange → TextRange → Type 0
IsUncut text body range = (before front replaced back behind : List ℕ) → ArePartsAbout text body range before front replaced back behind → ⊥

-- a text does not begin with a byte of ASCII
abbrev pub LacksByte : List ℕ → ℕ → Type 0
LacksByte text byte = byte < 128 → (rest : List ℕ) → text ≡ byte ∷ rest → ⊥

-- the shift of an edit in these braces, by how many bytes were typed, and how many stand between the range and the `}`
pub record IsShift (body range : TextRange) (typed back : ℕ) (s : Shift) : Type 0 where
  pub opening : s.opening ≡ body.start
  pub closing : s.closing ≡ range.end + back
  pub closing_new : s.closing_new ≡ range.start + typed + back

-- the places of the `}` in both texts fit into memory
abbrev pub EndsFit : TextRange → ℕ → ℕ → Type 0
EndsFit range typed back = (range.end + back < 2 ^ 64) × (range.start + typed + back < 2 ^ 64)
