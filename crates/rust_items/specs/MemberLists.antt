-- The members in the braces of an item.
use Rattle.std.specs.Prelude.{ℕ, Bool, ◌==◌, ◌&&◌, ◌||◌, nat_le, nat_lt, if◌then◌else◌, Option, Some, None, List, [], map, length, slice_index, slice_range}
use Rattle.hir_input.specs.declared.edition.EditionYear.{EditionYear}
use Rattle.hir_input.specs.declared.ids.AstIdKind.{AstIdKind}
use Rattle.hir_input.specs.declared.ids.AstIdKind.TheVariants as kind
use Rattle.rust_cursor.specs.Tokens.{Tokens, tokens_of}
use Rattle.rust_cursor.specs.Reader.{Reader}
use Rattle.rust_cursor.specs.Words.{symbol, is_empty, bumped}
use Rattle.rust_cursor.specs.Elements.{turns, perhaps}
use Rattle.rust_paths.specs.declared.names.TextRange.{TextRange}
use Rattle.rust_metas.specs.Attributes.{inner_attributes}
use Rattle.rust_metas.specs.declared.wanted.WantedMetas.{WantedMetas}
use Rattle.rust_items.specs.declared.member.MemberKind.TheVariants as member
use Rattle.rust_items.specs.Members.{MemberRead, moved_member}
use Rattle.rust_items.specs.MemberParts.{associated_item, part_member}

-- a member of an item of this kind, with those of its metas that are wanted, or none
unfoldable pub member_turn : WantedMetas → AstIdKind → Reader (Option MemberRead)
member_turn metas kind.Enum = part_member metas member.Variant
member_turn metas kind.Struct = part_member metas member.Field
member_turn metas kind.Union = part_member metas member.Field
member_turn metas _ = associated_item metas

-- a list of members ends with the text, and before its `}`
unfoldable pub is_list_over : Tokens → Bool
is_list_over ts = is_empty ts || symbol ts == 125

abbrev pub member_list : WantedMetas → AstIdKind → Reader (List MemberRead)
member_list metas k = turns is_list_over (perhaps (member_turn metas k))

-- behind the `{` inner attributes may stand
unfoldable pub members_from : WantedMetas → AstIdKind → Tokens → List MemberRead
members_from metas k ts = if symbol ts == 123 then (member_list metas k (inner_attributes (bumped ts)).1).0 else []

-- the members in a text of an edition that begins with the `{` of an item of this kind
abbrev pub members_in : WantedMetas → EditionYear → AstIdKind → List ℕ → List MemberRead
members_in metas edition k text = members_from metas k (tokens_of edition text)

-- ---- in a text

-- a place at which no character is cut
abbrev pub is_boundary : List ℕ → ℕ → Bool
is_boundary text at = nat_le at (length text) && (nat_le (length text) at || (nat_lt (slice_index text at) 128 || nat_le 192 (slice_index text at)))

abbrev pub is_cut : List ℕ → TextRange → Bool
is_cut text range = nat_le range.start range.end && (is_boundary text range.start && is_boundary text range.end)

-- what stands in a range of a text, if that cuts no character
abbrev pub cut_out : List ℕ → TextRange → Option (List ℕ)
cut_out text range = if is_cut text range then Some (slice_range text range.start range.end) else None

abbrev pub members_at : WantedMetas → EditionYear → AstIdKind → ℕ → Option (List ℕ) → List MemberRead
members_at metas edition k place None = []
members_at metas edition k place (Some braces) = map (moved_member place) (members_in metas edition k braces)

-- the members in these braces of a text, at their places in it, with those of their metas that are wanted
abbrev pub members : WantedMetas → EditionYear → AstIdKind → List ℕ → TextRange → List MemberRead
members metas edition k text body = members_at metas edition k body.start (cut_out text body)
