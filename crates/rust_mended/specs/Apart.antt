-- Two texts one behind the other, which stand apart: what is in the second, further on.
use Rattle.std.specs.Prelude.{◌≡◌, ℕ, ◌+◌, ◌==◌, Bool, true, false, ◌&&◌, if◌then◌else◌, List, [], ◌∷◌, ◌++◌, map, length, slice_index}
use Rattle.std.specs.List.{list_all}
use Rattle.rust_lexer.specs.Alone.{moved_piece}
use Rattle.rust_lexer.specs.Bytes.{is_continuation}
use Rattle.rust_lexer.specs.Inner.{is_blank_byte}
use Rattle.rust_lexer.specs.Tokens.{tokens, tokens_from}
use Rattle.rust_mended.specs.declared.edit.Edit.{Edit}
use Rattle.rust_mended.specs.declared.mark.Mark.{Mark}
use Rattle.rust_mended.specs.declared.mark.MarkKind.{MarkKind}
use Rattle.rust_mended.specs.declared.mark.MarkKind.TheVariants as mark
use Rattle.rust_mended.specs.Marks.{last_end}
use Rattle.rust_mended.specs.Texts.{edit_moved}

-- Behind a text come blanks up to the end of a line, and another text. A token of the first ends before the blanks, whatever it is alone and
-- here. The second begins with a whole character, and with neither a byte order mark, a shebang line nor frontmatter.
pub record StandApart (q z s : List ℕ) : Type 0 where
  pub blanks : list_all is_blank_byte z ≡ true
  pub ends : tokens (q ++ (z ++ 10 ∷ s)) ≡ tokens q ++ map (moved_piece (length q)) (tokens_from 0 0 (z ++ 10 ∷ s))
  pub bare : tokens s ≡ tokens_from 0 0 s
  pub uncut : is_continuation (slice_index s 0) ≡ false

-- where the second begins
abbrev pub seam : List ℕ → List ℕ → ℕ
seam q z = length q + (length z + 1)

-- The place behind the last token that is no comment, by that place in the second text: 0 is before its first token.
abbrev pub behind_further : List ℕ → List ℕ → ℕ → ℕ
behind_further q z at = if at == 0 then last_end q else at + seam q z

-- a mark of the second, in the whole
abbrev pub mark_further : List ℕ → List ℕ → Mark → Mark
mark_further q z t = record { kind = t.kind; at = t.at + seam q z; behind = behind_further q z t.behind; indent = t.indent; begins_line = t.begins_line }

-- an edit of the second, in the whole
abbrev pub edit_further : List ℕ → List ℕ → Edit → Edit
edit_further q z = edit_moved (λ at. at + seam q z)

abbrev pub is_item_mark : MarkKind → Bool
is_item_mark mark.Item = true
is_item_mark _ = false

-- the first of these is an item of column 0, before which no token stands but comments
abbrev pub begin_with_item : List Mark → Bool
begin_with_item [] = false
begin_with_item (t ∷ ts) = is_item_mark t.kind && (t.indent == 0 && t.behind == 0)
