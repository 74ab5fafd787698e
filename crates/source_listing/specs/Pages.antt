-- Debug pages without the lines of ids.
use Rattle.std.specs.Prelude.{ℕ, Bool, not, ◌==◌, if◌then◌else◌, List, [], ◌∷◌, codes, filter, nat_eq}
use Rattle.std.specs.List.{join_by, slice_split, starts_with}

-- a text behind its blanks
abbrev pub behind_indent : List ℕ → List ℕ
behind_indent [] = []
behind_indent (b ∷ bs) = if b == 32 then behind_indent bs else b ∷ bs

-- how the line of an id begins
abbrev pub id_opening : List ℕ
id_opening = codes "// AstId: "

abbrev pub is_id_line : List ℕ → Bool
is_id_line line = starts_with nat_eq (behind_indent line) id_opening

-- the lines of a text, which stand between its line feeds
abbrev pub text_lines : List ℕ → List (List ℕ)
text_lines text = slice_split (λ b. b == 10) text

abbrev pub joined_lines : List (List ℕ) → List ℕ
joined_lines lines = join_by (λ line. line) (10 ∷ []) lines

-- the other lines
abbrev pub lines_without_ids : List ℕ → List ℕ
lines_without_ids page = joined_lines (filter (λ line. not (is_id_line line)) (text_lines page))
