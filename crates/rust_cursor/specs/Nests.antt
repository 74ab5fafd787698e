-- Where a token stands: in which brackets, and behind what.
use Rattle.std.specs.Prelude.{ℕ, ◌+◌, ◌-◌, ◌==◌, Bool, true, false, not, ◌&&◌, ◌||◌, if◌then◌else◌, Option, Some, List, [], ◌∷◌, codes, bytes_eq}
use Rattle.std.specs.List.{list_any}
use Rattle.rust_lexer.specs.Piece.{Piece}
use Rattle.rust_lexer.specs.declared.kind.TokenKind.{TokenKind}
use Rattle.rust_lexer.specs.declared.kind.TokenKind.TheVariants as kinds
use Rattle.rust_cursor.specs.declared.cursor.nest.Before.{Before}
use Rattle.rust_cursor.specs.declared.cursor.nest.Before.TheVariants as befores
use Rattle.rust_cursor.specs.declared.cursor.nest.Nest.{Nest}
use Rattle.rust_cursor.specs.Tokens.{Tokens}
use Rattle.rust_cursor.specs.Words.{symbol, word, kind, bumped, is_at_end, is_at_identifier, is_at_doc, is_glued}

-- ---- brackets, by the symbol of the next token

-- `(` and `[`, which are counted together
abbrev pub opens_other : ℕ → Bool
opens_other c = c == 40 || c == 91

abbrev pub closes_other : ℕ → Bool
closes_other c = c == 41 || c == 93

-- in how many braces what stands behind it is
abbrev pub braces_behind : ℕ → ℕ → ℕ
braces_behind braces c = if c == 123 then braces + 1 else (if c == 125 then braces - 1 else braces)

-- In how many of `(` and `[`.
abbrev pub count_behind : ℕ → ℕ → ℕ
count_behind count c = if opens_other c then count + 1 else (if closes_other c then count - 1 else count)

-- one of them closes nothing
abbrev pub closes_none : ℕ → ℕ → Bool
closes_none count c = count == 0 && closes_other c

-- The same where no brace is open: a `}` closes what is around, and all of them with it.
abbrev pub others_behind : ℕ → ℕ → ℕ
others_behind others c = if opens_other c then others + 1 else (if closes_other c then others - 1 else (if c == 125 then 0 else others))

abbrev pub is_mark : Before → Bool
is_mark befores.Mark = true
is_mark _ = false

abbrev pub is_star : Before → Bool
is_star befores.Star = true
is_star _ = false

-- a bracket that comes next is that of a macro call or an attribute
abbrev pub lets_any : Before → Bool
lets_any befores.Mark = true
lets_any befores.Hash = true
lets_any _ = false

abbrev pub free_open : Nest → ℕ
free_open nest = if nest.free == 0 && lets_any nest.before then nest.others + 1 else nest.free

abbrev pub free_closed : Nest → ℕ
free_closed nest = if nest.others == nest.free then 0 else nest.free

-- The place among these of the first that is a macro call's or an attribute's, or 0: any tokens may stand in it.
abbrev pub free_behind : Nest → ℕ → ℕ
free_behind nest c = if opens_other c then free_open nest else (if closes_other c then free_closed nest else (if c == 125 then 0 else nest.free))

-- ---- angle brackets

abbrev pub is_dash : Before → Bool
is_dash befores.Dash = true
is_dash _ = false

-- a `>` that comes next is that of `->` or `=>`
abbrev pub is_arrow : Before → Tokens → Bool
is_arrow before ts = is_dash before && is_glued ts

-- in how many angle brackets what stands behind the next token is
abbrev pub angles_behind : Nest → Tokens → ℕ
angles_behind nest ts =
    if symbol ts == 60 then nest.angles + 1
    else (if symbol ts == 62 then (if is_arrow nest.before ts then nest.angles else nest.angles - 1) else nest.angles)

-- ---- what a token is for the next

-- a keyword with which neither a type nor a value ends; the most frequent ones come first
unfoldable pub leads_on : List ℕ → Bool
leads_on w =
    list_any (bytes_eq w) (codes "for" ∷ codes "mut" ∷ codes "where" ∷ codes "const" ∷ codes "impl" ∷ codes "fn" ∷ codes "dyn" ∷ codes "as"
    ∷ codes "unsafe" ∷ codes "pub" ∷ codes "async" ∷ codes "break" ∷ codes "continue" ∷ codes "else" ∷ codes "enum" ∷ codes "extern"
    ∷ codes "if" ∷ codes "in" ∷ codes "let" ∷ codes "loop" ∷ codes "match" ∷ codes "mod" ∷ codes "move" ∷ codes "ref" ∷ codes "return"
    ∷ codes "static" ∷ codes "struct" ∷ codes "trait" ∷ codes "type" ∷ codes "use" ∷ codes "while" ∷ codes "yield" ∷ [])

abbrev pub is_literal_kind : Option TokenKind → Bool
is_literal_kind (Some (kinds.Literal k)) = true
is_literal_kind _ = false

-- a type or a value can end with the next token: a name, a literal, or a bracket that closes
abbrev pub can_end : Tokens → Bool
can_end ts = if is_at_identifier ts then not (leads_on (word ts)) else is_literal_kind (kind ts) || is_at_end ts

-- a `!` is a macro call's behind a name, and an inner attribute's behind `#`
abbrev pub mark_behind : Before → Before
mark_behind befores.End = befores.Mark
mark_behind befores.Block = befores.Mark
mark_behind befores.Hash = befores.Hash
mark_behind _ = befores.Other

abbrev pub symbol_before : Before → Tokens → Before
symbol_before before ts =
    if symbol ts == 45 || symbol ts == 61 then befores.Dash
    else (if symbol ts == 33 then mark_behind before
    else (if symbol ts == 35 then befores.Hash
    else (if symbol ts == 42 then befores.Star
    else (if symbol ts == 62 then (if is_arrow before ts then befores.Other else befores.Angle) else befores.Other))))

-- what the next token is for the one behind it; documentation is nothing
abbrev pub before_behind : Before → Tokens → Before
before_behind before ts = if is_at_doc ts then before else (if can_end ts then befores.End else symbol_before before ts)

-- behind the bracket of a macro call a type or a value can end, behind that of an attribute none does
abbrev pub behind_free : Before → Before
behind_free befores.Hash = befores.Other
behind_free _ = befores.End

-- The same in no brace: in the bracket of a macro call or an attribute, and in braces, it stays what it was before them.
abbrev pub before_outside : Nest → Tokens → Before
before_outside nest ts =
    if symbol ts == 123 || not (free_behind nest (symbol ts) == 0) then nest.before
    else (if nest.free == 0 then before_behind nest.before ts else behind_free nest.before)

-- behind braces: they are a block, unless they are a macro call's
abbrev pub behind_block : Before → Before
behind_block befores.Mark = befores.End
behind_block _ = befores.Block

-- behind the last brace that closes
abbrev pub behind_braces : Nest → Before
behind_braces nest = if nest.free == 0 then behind_block nest.before else nest.before

-- ---- nests

-- in no bracket, behind this
abbrev pub flat_behind : Before → Nest
flat_behind before = record { braces = 0; others = 0; free = 0; angles = 0; inner = 0; is_torn = false; before = before }

-- in no bracket, where a type or a value may have ended
abbrev pub no_bracket : Nest
no_bracket = flat_behind befores.End

-- in no bracket, where a type begins
abbrev pub before_type : Nest
before_type = flat_behind befores.Other

-- no bracket in braces was left open, and none closed nothing
abbrev pub is_whole : Nest → Bool
is_whole nest = nest.inner == 0 && not nest.is_torn

-- in no bracket, but for angle brackets
abbrev pub is_flat : Nest → Bool
is_flat nest = nest.braces == 0 && nest.others == 0

-- behind the next token, in no brace; in brackets of another kind, angle brackets are not counted
abbrev pub nest_outside : Nest → Tokens → Nest
nest_outside nest ts = record {
  braces = braces_behind 0 (symbol ts);
  others = others_behind nest.others (symbol ts);
  free = free_behind nest (symbol ts);
  angles = if nest.others == 0 then angles_behind nest ts else nest.angles;
  inner = nest.inner;
  is_torn = nest.is_torn || closes_none nest.others (symbol ts);
  before = before_outside nest ts;
}

-- Behind this symbol, in braces. Other brackets in them are counted by themselves, and a brace closes whatever their number is.
abbrev pub inside_behind : Nest → ℕ → Nest
inside_behind nest c = record {
  braces = braces_behind nest.braces c;
  others = nest.others;
  free = nest.free;
  angles = nest.angles;
  inner = count_behind nest.inner c;
  is_torn = nest.is_torn || closes_none nest.inner c;
  before = if nest.braces == 1 && c == 125 then behind_braces nest else nest.before;
}

-- the same behind the next token
abbrev pub nest_inside : Nest → Tokens → Nest
nest_inside nest ts = inside_behind nest (symbol ts)

-- where what stands behind the next token is
unfoldable pub nest_behind : Nest → Tokens → Nest
nest_behind nest ts = if nest.braces == 0 then nest_outside nest ts else nest_inside nest ts

-- What is left where this stops, or behind the token that is the last by what is behind it. At most as many are passed over as are in this list.
abbrev pub passing_from : (Nest → Tokens → Bool) → (Nest → Bool) → Nest → Tokens → List Piece → Tokens
passing_from is_stop is_last nest ts [] = ts
passing_from is_stop is_last nest ts (_ ∷ more) =
    if is_stop nest ts then ts
    else (if is_last (nest_behind nest ts) then bumped ts else passing_from is_stop is_last (nest_behind nest ts) (bumped ts) more)
