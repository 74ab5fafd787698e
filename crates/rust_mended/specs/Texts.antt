-- The mended text of a text, and places in it.
use Rattle.std.specs.Prelude.{◌≡◌, ℕ, suc, ◌+◌, ◌-◌, ◌==◌, Bool, true, false, not, ◌&&◌, if◌then◌else◌, nat_eq, nat_lt, List, [], ◌∷◌, ◌++◌, drop, flat_map, slice_range}
use Rattle.std.specs.List.{AllByRecursion, filter, prefix_len}
use Rattle.rust_lexer.specs.Piece.{Piece}
use Rattle.rust_lexer.specs.Symbol.{symbol_of}
use Rattle.rust_lexer.specs.Tokens.{tokens}
use Rattle.rust_mended.specs.declared.bracket.Bracket.{Bracket}
use Rattle.rust_mended.specs.declared.bracket.Bracket.TheVariants as bracket
use Rattle.rust_mended.specs.declared.edit.Edit.{Edit}
use Rattle.rust_mended.specs.declared.edit.EditKind.{EditKind}
use Rattle.rust_mended.specs.declared.edit.EditKind.TheVariants as edit
use Rattle.rust_mended.specs.declared.mark.Mark.{Mark}
use Rattle.rust_mended.specs.declared.mark.MarkKind.{MarkKind}
use Rattle.rust_mended.specs.declared.mark.MarkKind.TheVariants as mark
use Rattle.rust_mended.specs.Marks.{bracket_of, is_closing_symbol, is_opening_symbol, last_end, marks}
use Rattle.rust_mended.specs.Mended.{Written, kept, put, left, closed, is_closer_of, is_same, matches_last, none_left, all_written}

-- ---- edits

abbrev pub mending_edit : Written → List Edit
mending_edit (kept t) = []
mending_edit (put at o) = record { at = at; told = o.at; kind = edit.Put o.bracket } ∷ []
mending_edit (left t) = record { at = t.at; told = t.at; kind = edit.Leave } ∷ []
mending_edit (closed t b) = if is_closer_of b t.kind then [] else record { at = t.at; told = t.at; kind = edit.Turn b } ∷ []

-- the edits that mend a text, in the order of their places: all that is wrong with its brackets
unfoldable pub edits : List ℕ → List Edit
edits text = flat_map mending_edit (all_written (last_end text) (marks text))

-- an edit, its places changed so
abbrev pub edit_moved : (ℕ → ℕ) → Edit → Edit
edit_moved place e = record { at = place e.at; told = place e.told; kind = e.kind }

-- tells of such a mark: of a bracket that nothing closes, of a closer that closes nothing, or of one that closes a bracket of another kind
abbrev pub tells_of : EditKind → MarkKind → Bool
tells_of (edit.Put b) (mark.Open c) = is_same b c
tells_of edit.Leave (mark.Close c) = true
tells_of (edit.Turn b) (mark.Close c) = not (is_same b c)
tells_of _ _ = false

-- what is told is told of this mark
abbrev pub tells : Edit → Mark → Bool
tells e t = nat_eq e.told t.at && tells_of e.kind t.kind

-- The brackets of tokens match behind these: each closer closes the last open bracket, which is of its kind, and none is open at the end.
abbrev pub matched_symbol : ℕ → (List Bracket → Bool) → List Bracket → Bool
matched_symbol c rest os = if is_opening_symbol c then rest (bracket_of c ∷ os) else (if is_closing_symbol c then matches_last (bracket_of c) rest os else rest os)

abbrev pub tokens_match : List Piece → List Bracket → Bool
tokens_match [] os = none_left os
tokens_match (t ∷ ts) os = matched_symbol (symbol_of t) (tokens_match ts) os

-- all brackets of a text match
unfoldable pub is_matched : List ℕ → Bool
is_matched text = tokens_match (tokens text) []

-- ---- the text

abbrev pub close_byte : Bracket → ℕ
close_byte bracket.Brace = 125
close_byte bracket.Round = 41
close_byte bracket.Square = 93

-- the byte that an edit writes
abbrev pub sign : EditKind → ℕ
sign (edit.Put b) = close_byte b
sign edit.Leave = 32
sign (edit.Turn b) = close_byte b

-- the place behind what it replaces
abbrev pub past_by : EditKind → ℕ → ℕ
past_by (edit.Put b) at = at
past_by edit.Leave at = at + 1
past_by (edit.Turn b) at = at + 1

abbrev pub past_edit : Edit → ℕ
past_edit e = past_by e.kind e.at

-- a text from a place on, with these edits
abbrev pub with_edits : List ℕ → ℕ → List Edit → List ℕ
with_edits text at [] = drop at text
with_edits text at (e ∷ es) = slice_range text at e.at ++ (sign e.kind ∷ with_edits text (past_edit e) es)

-- the mended text of a text
unfoldable pub mended_text : List ℕ → List ℕ
mended_text text = with_edits text 0 (edits text)

-- ---- places

-- The places of the closers that are put, in the mended text. The number counts those before.
abbrev pub put_by : EditKind → ℕ → ℕ → (ℕ → List ℕ) → List ℕ
put_by (edit.Put b) at n rest = (at + n) ∷ rest (suc n)
put_by edit.Leave at n rest = rest n
put_by (edit.Turn b) at n rest = rest n

abbrev pub puts_from : ℕ → List Edit → List ℕ
puts_from n [] = []
puts_from n (e ∷ es) = put_by e.kind e.at n (λ m. puts_from m es)

unfoldable pub puts : List ℕ → List ℕ
puts text = puts_from 0 (edits text)

-- the place in a text of what stands here in the mended text, by where closers were put in that
abbrev pub place_back_by : List ℕ → ℕ → ℕ
place_back_by places at = at - prefix_len (λ q. nat_lt q at) places

-- the same of a text: a closer that was put stands where it was put
unfoldable pub place_back : List ℕ → ℕ → ℕ
place_back text at = place_back_by (puts text) at

-- ---- what a mended text has of its text

-- bytes without those at these places, the first byte being at this one
abbrev pub without_bytes_at : ℕ → List ℕ → List ℕ → List ℕ
without_bytes_at at places [] = []
without_bytes_at at [] (b ∷ z) = b ∷ z
without_bytes_at at (p ∷ places) (b ∷ z) = if at == p then without_bytes_at (at + 1) places z else b ∷ without_bytes_at (at + 1) (p ∷ places) z

-- replaces a byte
abbrev pub is_turn : EditKind → Bool
is_turn (edit.Put b) = false
is_turn edit.Leave = true
is_turn (edit.Turn b) = true

-- what replaces a byte replaces that of which it is told
abbrev pub AreTurnedWhereTold : List Edit → Type 0
AreTurnedWhereTold es = AllByRecursion (λ e. is_turn e.kind ≡ true → e.at ≡ e.told) es

-- a text with the edits alone that replace a byte
unfoldable pub turned_text : List ℕ → List ℕ
turned_text text = with_edits text 0 (filter (λ e. is_turn e.kind) (edits text))
