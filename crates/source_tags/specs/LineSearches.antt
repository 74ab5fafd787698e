-- The lines of a text, and the searches for them in a tags file.
use Rattle.std.specs.Prelude.{ℕ, zero, suc, Bool, ◌+◌, ◌==◌, ◌&&◌, ◌||◌, nat_lt, if◌then◌else◌, List, [], ◌∷◌, ◌++◌, codes, length, chars, encode_utf8, flat_map, Option, Some, None, is_some, option_map, unwrap_or}
use Rattle.std.specs.List.{before_first, after_first, position_or_len}
use Rattle.line_index.specs.Positions.{continues_character, mark_length}
use Rattle.source_rows.specs.Labels.{text_at}

-- ---- lines

-- a line without its line feed, and what stands behind that, if it has one
pub record TextLine : Type 0 where
  pub text : List ℕ
  pub behind : Option (List ℕ)

abbrev pub is_line_feed : ℕ → Bool
is_line_feed b = b == 10

abbrev pub behind_feed : List ℕ → Option (List ℕ)
behind_feed bs = if nat_lt (position_or_len is_line_feed bs) (length bs) then Some (after_first is_line_feed bs) else None

-- the first line of a text
unfoldable pub text_line : List ℕ → TextLine
text_line bs = record { text = before_first is_line_feed bs; behind = behind_feed bs }

abbrev pub next_line : TextLine → TextLine
next_line l = text_line (unwrap_or l.behind [])

-- the line that stands so many lines on; behind the last one lines are empty
abbrev pub line_on : ℕ → TextLine → TextLine
line_on zero l = l
line_on (suc n) l = next_line (line_on n l)

-- the line of a text with so many before it
abbrev pub line_after : ℕ → List ℕ → TextLine
line_after n bs = line_on n (text_line bs)

-- what an editor shows of a text: all but a byte order mark
abbrev pub shown_text : List ℕ → List ℕ
shown_text text = text_at text (record { start = mark_length text; end = length text })

-- ---- searches

-- what of a text stands before its last byte, if that is this one
abbrev pub before_last : ℕ → List ℕ → Option (List ℕ)
before_last c [] = None
before_last c (b ∷ []) = if b == c then Some [] else None
before_last c (b ∷ x ∷ bs) = option_map (λ front. b ∷ front) (before_last c (x ∷ bs))

-- a carriage return before a line feed belongs to it
abbrev pub own_text : Bool → List ℕ → List ℕ
own_text is_ended text = if is_ended then unwrap_or (before_last 13 text) text else text

-- what stands behind a backslash in a search: `/` and `\`
abbrev pub is_marked : ℕ → Bool
is_marked b = b == 47 || b == 92

abbrev pub width : ℕ → ℕ
width b = if is_marked b then 2 else 1

-- a search of so many bytes with one more byte of the line; from 96 on they are not counted
abbrev pub search_length : ℕ → ℕ → ℕ
search_length n b = if nat_lt n 96 then n + width b else n

-- whether a byte of the line is searched for, behind a search of so many
abbrev pub is_searched : ℕ → ℕ → Bool
is_searched n b = nat_lt n 96 || continues_character b

-- how many bytes of a line are searched for, behind a search of so many: characters, until it has 96
abbrev pub searched_size : ℕ → List ℕ → ℕ
searched_size n [] = 0
searched_size n (b ∷ bs) = if is_searched n b then suc (searched_size (search_length n b) bs) else 0

abbrev pub searched_char : ℕ → List ℕ
searched_char c = (if is_marked c then codes "\\" else []) ++ encode_utf8 c

abbrev pub searched_text : List ℕ → List ℕ
searched_text text = flat_map searched_char (chars text)

abbrev pub searched_before : Option (List ℕ) → List ℕ → List ℕ
searched_before None text = searched_text text
searched_before (Some front) text = searched_text front ++ codes "\\$"

-- a `$` at the end stands behind a backslash too, since alone it is the end of the line
abbrev pub search_text : List ℕ → List ℕ
search_text text = searched_before (before_last 36 text) text

abbrev pub search_end : Bool → Bool → List ℕ
search_end is_ended is_whole = if is_ended && is_whole then codes "$/" else codes "/"

-- the front of a line of so many bytes, and its end if that is reached
abbrev pub search_of : Bool → List ℕ → ℕ → List ℕ
search_of is_ended text size =
    codes "/^" ++ search_text (text_at text (record { start = 0; end = size })) ++ search_end is_ended (size == length text)

-- the search for a line with this text, which a line feed ends or not
abbrev pub search_by : Bool → List ℕ → List ℕ
search_by is_ended text = search_of is_ended text (searched_size 0 text)

-- the search for a line
abbrev pub line_search : TextLine → List ℕ
line_search l = search_by (is_some l.behind) (own_text (is_some l.behind) l.text)
