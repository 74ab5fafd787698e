-- Lookaheads, as data: what is seen of the next tokens, with none taken.
use Rattle.std.specs.Prelude.{ℕ, zero, suc, ◌+◌, max, min, Bool, true, not, ◌==◌, ◌&&◌, ◌||◌, nat_le, if◌then◌else◌, Option, Some, None, List, [], bytes_eq}
use Rattle.hir_input.specs.declared.edition.EditionYear.{EditionYear}
use Rattle.rust_lexer.specs.declared.kind.TokenKind.{TokenKind}
use Rattle.rust_lexer.specs.declared.kind.TokenKind.TheVariants as kinds
use Rattle.rust_cursor.specs.Tokens.{Tokens}
use Rattle.rust_cursor.specs.Words.{symbol, word, kind, text, bumped, is_at_end, is_at_identifier, is_at_open, is_pair}
use Rattle.rust_cursor.specs.Elements.{most_tokens}
use Rattle.rust_cursor.specs.Extents.{begins_item}

-- texts may part at such a symbol
abbrev pub is_edge : ℕ → Bool
is_edge c = c == 123 || (c == 59 || c == 125)

-- a view of the next token that asks not where it stands
abbrev pub View : Type 0 → Type 0
View A = EditionYear → Option TokenKind → List ℕ → A

pub data Lookahead : Type 0 where
  -- this, whatever comes next
  fixed_look : Bool → Lookahead
  -- the next token is such a one
  token_is : View Bool → Lookahead
  -- it is of such a kind
  kind_is : (Option TokenKind → Bool) → Lookahead
  -- it is this bracket or punctuation
  symbol_is : ℕ → Lookahead
  -- it is this keyword or name
  word_is : List ℕ → Lookahead
  -- its word is such a one
  word_meets : (List ℕ → Bool) → Lookahead
  -- an identifier comes next
  at_identifier : Lookahead
  -- an opening bracket comes next
  at_open : Lookahead
  -- a bracket that closes comes next, or nothing
  at_end : Lookahead
  -- a word comes next that can begin an item only
  at_item : Lookahead
  -- these two symbols come next with nothing between them
  pair_is : ℕ → ℕ → Lookahead
  not_seen : Lookahead → Lookahead
  both_seen : Lookahead → Lookahead → Lookahead
  either_seen : Lookahead → Lookahead → Lookahead
  -- where the first is seen the second is, and else the third
  look_by : Lookahead → Lookahead → Lookahead → Lookahead
  -- the first is seen, and behind so many tokens the second
  then_seen : Lookahead → ℕ → Lookahead → Lookahead
  -- the second is seen behind all tokens, one after another, of which the first is
  past_seen : Lookahead → Lookahead → Lookahead

-- behind so many tokens
abbrev pub skip : ℕ → Tokens → Tokens
skip zero ts = ts
skip (suc n) ts = skip n (bumped ts)

-- behind the tokens, one after another and at most so many, that meet a test
abbrev pub past_from : (Tokens → Bool) → ℕ → Tokens → Tokens
past_from test zero ts = ts
past_from test (suc n) ts = if test ts then past_from test n (bumped ts) else ts

-- whether it is seen
abbrev pub sees : Lookahead → Tokens → Bool
sees (fixed_look b) ts = b
sees (token_is view) ts = view ts.edition (kind ts) (text ts)
sees (kind_is f) ts = f (kind ts)
sees (symbol_is c) ts = symbol ts == c
sees (word_is w) ts = bytes_eq (word ts) w
sees (word_meets f) ts = f (word ts)
sees at_identifier ts = is_at_identifier ts
sees at_open ts = is_at_open ts
sees at_end ts = is_at_end ts
sees at_item ts = begins_item ts
sees (pair_is c d) ts = is_pair c d ts
sees (not_seen l) ts = not (sees l ts)
sees (both_seen l m) ts = sees l ts && sees m ts
sees (either_seen l m) ts = sees l ts || sees m ts
sees (look_by l m k) ts = if sees l ts then sees m ts else sees k ts
sees (then_seen l n m) ts = sees l ts && sees m (skip n ts)
sees (past_seen l m) ts = sees m (past_from (sees l) most_tokens ts)

-- no bracket and no punctuation is of such a kind, nor is nothing
abbrev pub is_flat_kind : (Option TokenKind → Bool) → Bool
is_flat_kind f = not (f (Some kinds.OpenDelim)) && (not (f (Some kinds.CloseDelim)) && (not (f (Some kinds.Punct)) && not (f None)))

-- of how many tokens, from the next on, it is seen that none has such a symbol
abbrev pub clear_of : (ℕ → Bool) → Lookahead → ℕ
clear_of bars (kind_is f) = if is_flat_kind f then 1 else 0
clear_of bars (symbol_is c) = if bars c then 0 else 1
clear_of bars (word_is w) = if bytes_eq [] w then 0 else 1
clear_of bars at_identifier = 1
clear_of bars (pair_is c d) = if bars c then 0 else (if bars d then 1 else 2)
clear_of bars (both_seen l m) = max (clear_of bars l) (clear_of bars m)
clear_of bars (either_seen l m) = min (clear_of bars l) (clear_of bars m)
clear_of bars (look_by l m k) = min (max (clear_of bars l) (clear_of bars m)) (clear_of bars k)
clear_of bars (then_seen l n m) = if nat_le n (clear_of bars l) then n + clear_of bars m else clear_of bars l
clear_of bars _ = 0

-- It looks behind no token at which texts may part.
abbrev pub stays_short : Lookahead → Bool
stays_short (pair_is c d) = not (is_edge c)
stays_short (not_seen l) = stays_short l
stays_short (both_seen l m) = stays_short l && stays_short m
stays_short (either_seen l m) = stays_short l && stays_short m
stays_short (look_by l m k) = stays_short l && (stays_short m && stays_short k)
stays_short (then_seen l n m) = stays_short l && (nat_le n (clear_of is_edge l) && stays_short m)
stays_short (past_seen l m) = stays_short l && (nat_le 1 (clear_of is_edge l) && stays_short m)
stays_short _ = true

-- and where it is seen, no texts part at so many tokens
abbrev pub may_skip : Lookahead → ℕ → Bool
may_skip l n = stays_short l && nat_le n (clear_of is_edge l)
