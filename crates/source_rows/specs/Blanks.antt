-- The blanks between the tokens of a header: those that rustfmt writes, told by the tokens alone.
use Rattle.std.specs.Prelude.{ℕ, Bool, true, false, ◌==◌, ◌&&◌, ◌||◌, not, if◌then◌else◌, List, [], ◌∷◌, codes, nat_lt, bytes_eq}
use Rattle.std.specs.List.{list_any}
use Rattle.rust_cursor.specs.Tokens.{Tokens}
use Rattle.rust_cursor.specs.Words.{symbol, word, kind, is_at_open, is_pair, bumped}
use Rattle.rust_cursor.specs.Brackets.{behind_tree}
use Rattle.rust_cursor.specs.Angles.{behind_angles, is_lifetime, is_lone_for}
use Rattle.source_rows.specs.declared.blanks.Last.{Last}
use Rattle.source_rows.specs.declared.blanks.Last.TheVariants as last
use Rattle.source_rows.specs.declared.blanks.Spacing.{Spacing}

-- nothing came yet
abbrev pub first_spacing : Spacing
first_spacing = record { last = last.Opening; reach = 0; values = 0; types = 0 }

abbrev pub is_behind_end : Last → Bool
is_behind_end last.End = true
is_behind_end _ = false

-- a value comes next, or what stands between values: in braces, and in no angle brackets there
abbrev pub is_value : Spacing → Tokens → Bool
is_value s ts = nat_lt ts.past s.values && not (nat_lt ts.past s.types)

-- the `!` of a macro call comes next
abbrev pub is_call_mark : Tokens → Bool
is_call_mark ts = symbol ts == 33 && is_at_open (bumped ts)

-- ---- tokens that are one mark

-- `{}`
abbrev pub has_empty_braces : Tokens → Bool
has_empty_braces ts = symbol ts == 123 && symbol (bumped ts) == 125

-- `!`, `%`, `&`, `*`, `+`, `-`, `/`, `<`, `=`, `>`, `^` and `|`: an `=` behind them is of one mark with them, and behind some they themselves
abbrev pub takes_equals : ℕ → Bool
takes_equals c = c == 33 || (c == 37 || (c == 38 || (c == 42 || (c == 43 || (c == 45 || (c == 47 || (c == 60 || (c == 61 || (c == 62 || (c == 94 || c == 124))))))))))

-- `&`, `<`, `>` and `|`
abbrev pub takes_itself : ℕ → Bool
takes_itself c = c == 38 || (c == 60 || (c == 62 || c == 124))

-- a mark of two that stands between values, as `&&` and `>=`
abbrev pub is_operator : Tokens → Bool
is_operator ts = (takes_equals (symbol ts) && is_pair (symbol ts) 61 ts) || (takes_itself (symbol ts) && is_pair (symbol ts) (symbol ts) ts)

-- one of two anywhere: `::`, `->`, `=>` and `..`
abbrev pub is_double : Tokens → Bool
is_double ts = is_pair 58 58 ts || (is_pair 45 62 ts || (is_pair 61 62 ts || is_pair 46 46 ts))

-- the first of two tokens that are one mark comes next
abbrev pub is_half : Spacing → Tokens → Bool
is_half s ts = is_double ts || (has_empty_braces ts || (is_behind_end s.last && (is_value s ts && is_operator ts)))

-- ---- what comes behind a token

-- the words from which all stands apart, beside a `for` that no lifetimes follow
abbrev pub words_apart : List (List ℕ)
words_apart =
    codes "as" ∷ codes "const" ∷ codes "dyn" ∷ codes "if" ∷ codes "impl" ∷ codes "in" ∷ codes "let" ∷ codes "match" ∷ codes "mut" ∷ codes "return"
    ∷ codes "while" ∷ []

abbrev pub is_word_apart : Tokens → Bool
is_word_apart ts = is_lifetime (kind ts) || (is_lone_for ts || list_any (bytes_eq (word ts)) words_apart)

-- `!`, `#`, `&`, `*`, `-` and `?` stand in front of what follows, but for behind an end
abbrev pub is_prefix : ℕ → Bool
is_prefix c = c == 33 || (c == 35 || (c == 38 || (c == 42 || (c == 45 || c == 63))))

-- `(`, `.`, `[`, a `<` that is not between values, and a mark in front
abbrev pub opens_part : Spacing → Tokens → Bool
opens_part s ts = symbol ts == 40 || (symbol ts == 46 || (symbol ts == 91 || (not (is_behind_end s.last) && is_prefix (symbol ts) || (symbol ts == 60 && not (is_behind_end s.last && is_value s ts)))))

-- `)`, `]`, `}`, a `>` that is not between values, and the `!` of a macro call
abbrev pub ends_part : Spacing → Tokens → Bool
ends_part s ts = symbol ts == 41 || (symbol ts == 93 || (symbol ts == 125 || (symbol ts == 62 && not (is_value s ts) || is_call_mark ts)))

-- of the second of two that are one mark: `::` and `..` open, others stand apart
abbrev pub behind_half : ℕ → Last
behind_half c = if c == 46 || c == 58 then last.Opening else last.Apart

abbrev pub behind_word : Tokens → Last
behind_word ts = if is_word_apart ts then last.Apart else last.End

abbrev pub behind_sign : Spacing → Tokens → Last
behind_sign s ts = if is_half s ts then last.Half else (if opens_part s ts then last.Opening else (if ends_part s ts then last.End else last.Apart))

abbrev pub behind_whole : Spacing → Tokens → Last
behind_whole s ts = if symbol ts == 0 then behind_word ts else behind_sign s ts

-- what the next token is to what follows it
abbrev pub last_behind : Last → Spacing → Tokens → Last
last_behind last.Half s ts = behind_half (symbol ts)
last_behind _ s ts = behind_whole s ts

-- up to where brackets reach behind the next token
abbrev pub reach_behind : ℕ → Tokens → ℕ
reach_behind reach ts = if nat_lt ts.past reach || not (is_at_open ts) then reach else (behind_tree ts).past

-- the same of braces
abbrev pub values_behind : ℕ → Tokens → ℕ
values_behind values ts = if nat_lt ts.past values || not (symbol ts == 123) then values else (behind_tree ts).past

-- and of angle brackets in them
abbrev pub types_behind : Spacing → Tokens → ℕ
types_behind s ts = if symbol ts == 60 && (is_value s ts && not (is_behind_end s.last)) then (behind_angles ts).past else s.types

abbrev pub spacing_behind : Spacing → Tokens → Spacing
spacing_behind s ts = record { last = last_behind s.last s ts; reach = reach_behind s.reach ts; values = values_behind s.values ts; types = types_behind s ts }

-- ---- blanks

-- no blank stands before `)`, `,`, `;`, `]`, a lone `:` and a `>` that is not between values
abbrev pub clings : Spacing → Tokens → Bool
clings s ts = symbol ts == 41 || (symbol ts == 44 || (symbol ts == 59 || (symbol ts == 93 || (symbol ts == 58 && not (is_pair 58 58 ts) || (symbol ts == 62 && not (is_value s ts))))))

-- nor, behind an end, before `(`, `.`, `::`, `[`, a `<` that is not between values, and the `!` of a macro call
abbrev pub clings_to_end : Spacing → Tokens → Bool
clings_to_end s ts = symbol ts == 40 || (symbol ts == 46 || (symbol ts == 58 || (symbol ts == 91 || (symbol ts == 60 && not (is_value s ts) || is_call_mark ts))))

abbrev pub stands_close : Last → Spacing → Tokens → Bool
stands_close last.Opening s ts = true
stands_close last.Half s ts = true
stands_close last.Apart s ts = clings s ts
stands_close last.End s ts = clings s ts || clings_to_end s ts

-- what stands before the next token
abbrev pub gap_text : Spacing → Tokens → List ℕ
gap_text s ts = if stands_close s.last s ts then [] else 32 ∷ []
