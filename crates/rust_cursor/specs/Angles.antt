-- What stands in angle brackets, and what is found beside them.
use Rattle.std.specs.Prelude.{ℕ, ◌==◌, nat_lt, Bool, true, false, not, ◌&&◌, ◌||◌, if◌then◌else◌, Option, Some, codes, bytes_eq}
use Rattle.rust_lexer.specs.declared.kind.TokenKind.{TokenKind}
use Rattle.rust_lexer.specs.declared.kind.TokenKind.TheVariants as kinds
use Rattle.rust_cursor.specs.declared.cursor.nest.Before.{Before}
use Rattle.rust_cursor.specs.declared.cursor.nest.Before.TheVariants as befores
use Rattle.rust_cursor.specs.declared.cursor.nest.Nest.{Nest}
use Rattle.rust_cursor.specs.declared.cursor.generics.Reach.{Reach}
use Rattle.rust_cursor.specs.declared.cursor.generics.Reach.TheVariants as reaches
use Rattle.rust_cursor.specs.Tokens.{Tokens}
use Rattle.rust_cursor.specs.Words.{symbol, word, kind, is_empty, is_at_end, bumped}
use Rattle.rust_cursor.specs.Nests.{before_type, is_flat, is_mark, passing_from}
use Rattle.rust_cursor.specs.Extents.{begins, goes_on}

abbrev pub is_lifetime : Option TokenKind → Bool
is_lifetime (Some kinds.Lifetime) = true
is_lifetime (Some kinds.RawLifetime) = true
is_lifetime _ = false

-- `<` and a lifetime or `>`: what stands behind `for` in `for<'a>`, and before no type
abbrev pub begins_binder : Tokens → Bool
begins_binder ts = symbol ts == 60 && (is_lifetime (kind (bumped ts)) || symbol (bumped ts) == 62)

-- a `for` that is not one of `for<'a>`
abbrev pub is_lone_for : Tokens → Bool
is_lone_for ts = bytes_eq (word ts) (codes "for") && not (begins_binder (bumped ts))

-- the end of what is around
abbrev pub closes_around : Nest → Tokens → Bool
closes_around nest ts = symbol ts == 125 || (nest.others == 0 && is_at_end ts)

-- an item's block comes next, and not the braces of a macro call
abbrev pub is_block : Nest → Tokens → Bool
is_block nest ts = symbol ts == 123 && not (is_mark nest.before)

abbrev pub is_after_block : Before → Bool
is_after_block befores.Block = true
is_after_block _ = false

-- in no bracket but angle brackets, behind a block that an item ends with: neither `>` nor `,` follows it
abbrev pub is_behind_item : Nest → Tokens → Bool
is_behind_item nest ts = is_after_block nest.before && not (goes_on ts)

-- an impl's header is over, in no bracket but angle brackets
abbrev pub is_header_end : Nest → Tokens → Bool
is_header_end nest ts =
    if symbol ts == 59 then true
    else (if nest.angles == 0 then is_block nest ts || (bytes_eq (word ts) (codes "where") || is_lone_for ts) else is_behind_item nest ts)

-- nothing more is passed over from here on, in no brace
abbrev pub is_barred : Reach → Nest → Tokens → Bool
is_barred reaches.Angles nest ts = closes_around nest ts || (begins nest ts || (nest.others == 0 && (symbol ts == 59 || is_behind_item nest ts)))
is_barred reaches.Field nest ts = closes_around nest ts || (begins nest ts || (nest.others == 0 && (nest.angles == 0 && symbol ts == 44)))
is_barred reaches.Header nest ts = symbol ts == 125 || (begins nest ts || (nest.others == 0 && is_header_end nest ts))

unfoldable pub is_reached : Reach → Nest → Tokens → Bool
is_reached reach nest ts = if is_empty ts then true else (if nest.braces == 0 then is_barred reach nest ts else false)

-- the next token is the last, where this is behind it
unfoldable pub is_closed : Reach → Nest → Bool
is_closed reaches.Angles nest = is_flat nest && nest.angles == 0
is_closed reaches.Field nest = false
is_closed reaches.Header nest = false

unfoldable pub reach_from : Reach → Nest → Tokens → Tokens
reach_from reach nest ts = passing_from (is_reached reach) (is_closed reach) nest ts ts.left

unfoldable pub reach_end : Reach → Tokens → Tokens
reach_end reach ts = reach_from reach before_type ts

-- What is left behind the `>` that closes a `<`, if that comes next; where none does, before a semicolon, a bracket that closes or what begins an
-- item, and behind a block that an item ends with.
unfoldable pub behind_angles : Tokens → Tokens
behind_angles ts = if symbol ts == 60 then reach_end reaches.Angles ts else ts

-- what is left from the comma or the bracket that closes on that ends a field's type, or from what begins an item
abbrev pub behind_field : Tokens → Tokens
behind_field = reach_end reaches.Field

-- what is left from the end of an impl's header on
abbrev pub behind_header : Tokens → Tokens
behind_header = reach_end reaches.Header

-- Behind `impl` and its generics: a `for` stands in no bracket before the items and in the impl, which ends here; and so before it a trait's name.
unfoldable pub is_trait_impl : ℕ → Tokens → Bool
is_trait_impl end ts = bytes_eq (word (behind_header ts)) (codes "for") && nat_lt (behind_header ts).past end
