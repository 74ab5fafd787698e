-- One member: of a trait or an impl, a variant, or a field.
use Rattle.std.specs.Prelude.{ℕ, zero, suc, Bool, true, false, not, ◌==◌, ◌&&◌, ◌||◌, if◌then◌else◌, Option, Some, None, List, codes, option_map, bytes_eq}
use Rattle.hir_input.specs.declared.ast.PlainKind.TheVariants as plain_kind
use Rattle.hir_input.specs.declared.ast.Visibility.{Visibility}
use Rattle.hir_input.specs.Attr.{MetaView}
use Rattle.hir_input.specs.Syntax.{CallView, ItemView, NamedView, plain_item, const_item, macro_call}
use Rattle.rust_cursor.specs.Tokens.{Tokens}
use Rattle.rust_cursor.specs.Reader.{Reader, ◌>>=◌, pure, look, pass}
use Rattle.rust_cursor.specs.Words.{symbol, word, at, is_at_doc, is_at_end, is_at_identifier, is_at_open, is_pair, eat, eat_word, bumped}
use Rattle.rust_cursor.specs.Nests.{can_end}
use Rattle.rust_cursor.specs.Brackets.{behind_tree}
use Rattle.rust_cursor.specs.Elements.{most_tokens}
use Rattle.rust_cursor.specs.Angles.{behind_angles}
use Rattle.rust_paths.specs.declared.names.TextRange.{TextRange}
use Rattle.rust_paths.specs.Visibilities.{visibility}
use Rattle.rust_cursor.specs.Grammar.{reads}
use Rattle.rust_metas.specs.Attributes.{outer_attributes}
use Rattle.rust_metas.specs.Docs.{kept_by, kept_metas}
use Rattle.rust_metas.specs.declared.wanted.WantedMetas.{WantedMetas}
use Rattle.rust_leaves.specs.Fronts.{FrontRead, front}
use Rattle.rust_leaves.specs.Heads.{behind_others}
use Rattle.rust_leaves.specs.Leaves.{LeafRead, written_name}
use Rattle.rust_leaves.specs.Kinds.{leaf}
use Rattle.rust_items.specs.declared.member.MemberKind.{MemberKind}
use Rattle.rust_items.specs.declared.member.MemberKind.TheVariants as member
use Rattle.rust_items.specs.declared.part.Stand.{Stand}
use Rattle.rust_items.specs.declared.part.Stand.TheVariants as stands
use Rattle.rust_items.specs.Members.{MemberRead}

-- ---- of a trait or an impl

-- what an item is as a member
pub record MemberTold : Type 0 where
  pub kind : MemberKind
  pub identifier : Option (List ℕ)
  pub attrs : List MetaView
  pub visibility : Option Visibility

abbrev pub told_as : MemberKind → NamedView → MemberTold
told_as kind n = record { kind = kind; identifier = n.name; attrs = n.node.attrs; visibility = n.visibility }

abbrev pub told_call : CallView → MemberTold
told_call c = record { kind = member.MacroCall; identifier = None; attrs = c.node.attrs; visibility = None }

-- what may stand in a trait or an impl
abbrev pub told_of : ItemView → Option MemberTold
told_of (plain_item plain_kind.Fn n) = Some (told_as member.Function n)
told_of (plain_item plain_kind.TypeAlias n) = Some (told_as member.TypeAlias n)
told_of (const_item n) = Some (told_as member.Constant n)
told_of (macro_call c) = Some (told_call c)
told_of _ = None

-- the braces of a function alone
abbrev pub body_of : MemberKind → Option TextRange → Option TextRange
body_of member.Function body = body
body_of _ body = None

-- the same with those of its metas that are wanted
abbrev pub told_keeping : WantedMetas → MemberTold → MemberTold
told_keeping metas t = record { kind = t.kind; identifier = t.identifier; attrs = kept_metas metas t.attrs; visibility = t.visibility }

abbrev pub told_with : WantedMetas → ItemView → Option MemberTold
told_with metas i = option_map (told_keeping metas) (told_of i)

-- a member from a place on up to another
abbrev pub member_kept : ℕ → ℕ → LeafRead → Option MemberTold → Option MemberRead
member_kept start end l None = None
member_kept start end l (Some t) = Some (record {
  kind = t.kind;
  identifier = t.identifier;
  name = l.named;
  range = record { start = start; end = end };
  body = body_of t.kind l.body;
  attrs = t.attrs;
  visibility = t.visibility;
})

-- another item that stands there is none
abbrev pub leaf_member : (ItemView → Option MemberTold) → ℕ → Option LeafRead → Reader (Option MemberRead)
leaf_member told start None ts = (None, behind_others ts)
leaf_member told start (Some l) ts = (member_kept start ts.past l (told l.item), ts)

abbrev pub member_behind_front : WantedMetas → FrontRead → Reader (Option MemberRead)
member_behind_front metas h ts = leaf_member (told_with metas) h.start (leaf h ts).0 (leaf h ts).1

-- AssociatedItem, or none: then tokens are passed over
unfoldable pub associated_item : WantedMetas → Reader (Option MemberRead)
associated_item metas ts = if is_at_end ts then (None, bumped ts) else member_behind_front metas (front ts).0 (front ts).1

-- ---- the part behind a missing comma

-- documentation, an attribute or `pub`: neither a type nor a value goes on with it
abbrev pub begins_marked_part : Tokens → Bool
begins_marked_part ts = is_at_doc ts || ((symbol ts == 35 && symbol (bumped ts) == 91) || bytes_eq (word ts) (codes "pub"))

-- a name and its colon
abbrev pub is_name_with_colon : Tokens → Bool
is_name_with_colon ts = is_at_identifier ts && (symbol (bumped ts) == 58 && not (is_pair 58 58 (bumped ts)))

-- such, or a name and its colon: no type goes on with it
abbrev pub begins_field : Tokens → Bool
begins_field ts = begins_marked_part ts || is_name_with_colon ts

-- such, or a name: no operand goes on with it
abbrev pub begins_part : Tokens → Bool
begins_part ts = begins_marked_part ts || (is_at_identifier ts && can_end ts)

-- ---- values

-- In a value `<` opens generics where an operand begins, behind `::`, and in the type behind `as` or `->`; elsewhere it compares or shifts.
abbrev pub opens_generics : Stand → Tokens → Bool
opens_generics stands.Ended ts = false
opens_generics stands.Parameters ts = false
opens_generics _ ts = symbol ts == 60

-- behind an operand or a type
abbrev pub ended_operand : Stand → Stand
ended_operand stands.Begun = stands.Ended
ended_operand stands.Type = stands.TypeEnded
ended_operand stand = stand

-- behind `::`, or a word with which no operand ends: it goes on
abbrev pub going_on : Stand → Stand
going_on stands.Ended = stands.Begun
going_on stands.TypeEnded = stands.Type
going_on stand = stand

-- behind another mark: an operand begins, but a type may begin with `&` or `*`, and a closure's parameters with `|`
abbrev pub behind_mark : Stand → ℕ → Stand
behind_mark stands.Begun c = if c == 124 then stands.Parameters else stands.Begun
behind_mark stands.Ended c = stands.Begun
behind_mark stands.Parameters c = if c == 124 then stands.Begun else stands.Parameters
behind_mark stands.Type c = stands.Type
behind_mark stands.TypeEnded c = stands.Begun

abbrev pub has_ended : Stand → Bool
has_ended stands.Ended = true
has_ended stands.TypeEnded = true
has_ended _ = false

-- an operand, or a type, may end with the next token; `?` stands behind one
abbrev pub can_end_here : Tokens → Bool
can_end_here ts = is_at_open ts || (can_end ts || symbol ts == 63)

-- `::`, `->`, and an operator of two marks that would mean something else each by itself: `<<` and `||`
abbrev pub is_pair_here : Stand → Tokens → Bool
is_pair_here stand ts = is_pair 58 58 ts || (is_pair 45 62 ts || has_ended stand && (is_pair 60 60 ts || is_pair 124 124 ts))

-- in a closure's parameters only its `|` counts
abbrev pub stand_outside : Stand → Tokens → Stand
stand_outside stand ts =
    if bytes_eq (word ts) (codes "as") || is_pair 45 62 ts then stands.Type
    else (if is_pair 58 58 ts then going_on stand
    else (if opens_generics stand ts || can_end_here ts then ended_operand stand
    else (if symbol ts == 0 then going_on stand else behind_mark stand (symbol ts))))

-- where what is behind the next token stands, or behind the brackets that it opens
abbrev pub stand_behind : Stand → Tokens → Stand
stand_behind stands.Parameters ts = behind_mark stands.Parameters (symbol ts)
stand_behind stand ts = stand_outside stand ts

abbrev pub behind_operand : Stand → Tokens → Tokens
behind_operand stand ts =
    if opens_generics stand ts then behind_angles ts
    else (if is_pair_here stand ts then bumped (bumped ts) else behind_tree ts)

abbrev pub is_parameters : Stand → Bool
is_parameters stands.Parameters = true
is_parameters _ = false

-- the comma or the bracket that closes that ends a variant or a field, or without a comma the next one
abbrev pub is_part_end : Stand → Tokens → Bool
is_part_end stand ts = is_at_end ts || ((symbol ts == 44 && not (is_parameters stand)) || (has_ended stand && begins_part ts))

abbrev pub behind_operands : ℕ → Stand → Tokens → Tokens
behind_operands zero stand ts = ts
behind_operands (suc n) stand ts =
    if is_part_end stand ts then ts else behind_operands n (stand_behind stand ts) (behind_operand stand ts)

-- what is left from the end of a variant or a field on, behind its name or its type
unfoldable pub behind_value : Tokens → Tokens
behind_value ts = behind_operands most_tokens stands.Ended ts

-- ---- types

-- a field's type ends before its value, too, and before the next field
abbrev pub is_type_end : Tokens → Bool
is_type_end ts = is_at_end ts || ((symbol ts == 44 || symbol ts == 61) || begins_field ts)

abbrev pub behind_type_part : Tokens → Tokens
behind_type_part ts = if symbol ts == 60 then behind_angles ts else behind_tree ts

abbrev pub behind_type_parts : ℕ → Tokens → Tokens
behind_type_parts zero ts = ts
behind_type_parts (suc n) ts = if is_type_end ts then ts else behind_type_parts n (behind_type_part ts)

unfoldable pub behind_type : Tokens → Tokens
behind_type ts = behind_type_parts most_tokens ts

abbrev pub behind_part : MemberKind → Tokens → Tokens
behind_part member.Variant ts = behind_value ts
behind_part _ ts = behind_value (behind_type ts)

-- ---- variants and fields

-- without a name it is none
abbrev pub part_of : MemberKind → ℕ → List MetaView → Option Visibility → Option (List ℕ) → Option TextRange → ℕ → Option MemberRead
part_of kind start attrs v identifier None end = None
part_of kind start attrs v identifier (Some name) end = Some (record {
  kind = kind;
  identifier = identifier;
  name = Some name;
  range = record { start = start; end = end };
  body = None;
  attrs = attrs;
  visibility = v;
})

-- EnumVariant or StructField: up to the comma, which is taken too; a field may be `unsafe`
unfoldable pub part_member : WantedMetas → MemberKind → Reader (Option MemberRead)
part_member metas kind = do
  start ← look at
  attrs ← kept_by metas outer_attributes
  v ← reads visibility
  _ ← eat_word (codes "unsafe")
  n ← written_name
  _ ← pass (behind_part kind)
  end ← look (λ ts. ts.past)
  _ ← eat 44
  pure (part_of kind start attrs v n.name n.range end)
