-- What is seen in its module alone, by what is written of it: it is hidden.
use Rattle.std.specs.Prelude.{ℕ, Bool, true, false, not, ◌&&◌, if◌then◌else◌, List, Option, Some, None}
use Rattle.hir_input.specs.declared.ast.Visibility.{Visibility}
use Rattle.hir_input.specs.declared.ast.Visibility.TheVariants as written
use Rattle.hir_input.specs.declared.edition.EditionYear.{EditionYear}
use Rattle.hir_input.specs.declared.ids.AstIdKind.{AstIdKind}
use Rattle.hir_input.specs.declared.ids.AstIdKind.TheVariants as kind
use Rattle.rust_cursor.specs.Tokens.{tokens_of}
use Rattle.rust_leaves.specs.Fronts.{front}
use Rattle.rust_lexer.specs.Tokens.{tokens}
use Rattle.rust_paths.specs.declared.names.TextRange.{TextRange}
use Rattle.rust_items.specs.declared.source_file.ItemPlace.{ItemPlace}
use Rattle.rust_items.specs.declared.member.MemberKind.{MemberKind}
use Rattle.rust_items.specs.declared.member.MemberKind.TheVariants as member
use Rattle.rust_items.specs.Members.{MemberRead}
use Rattle.source_changes.specs.Bodies.{is_seen_beyond}
use Rattle.source_rows.specs.Labels.{text_at}
use Rattle.source_rows.specs.Types.{is_of_trait}

-- a visibility ends at the module around it: nothing is written, or `pub(self)`
abbrev pub ends_here : Option Visibility → Bool
ends_here None = true
ends_here (Some written.PubSelf) = true
ends_here (Some _) = false

-- what stands in a range is seen whatever its visibility: linkers see it, or something in its value, if it has one, reaches out of that
abbrev pub reaches_out : List ℕ → TextRange → Option TextRange → Bool
reaches_out text range None = false
reaches_out text range (Some value) = is_seen_beyond (tokens (text_at text range)) (tokens (text_at text value))

-- ---- items

-- items of a kind may have a visibility
abbrev pub has_visibility : AstIdKind → Bool
has_visibility kind.ExternBlock = false
has_visibility kind.Impl = false
has_visibility kind.MacroCall = false
has_visibility kind.MacroRules = false
has_visibility _ = true

-- the braces of a function, and all of what has a value
abbrev pub item_value : AstIdKind → TextRange → Option TextRange → Option TextRange
item_value kind.Fn range body = body
item_value kind.Const range body = Some range
item_value kind.Static range body = Some range
item_value _ range body = None

-- the visibility that is written of an item, which this is the text of, ends at its module
abbrev pub is_for_its_module : EditionYear → List ℕ → Bool
is_for_its_module edition item = ends_here (front (tokens_of edition item)).0.visibility

-- an item is hidden that can have a visibility and has none, or one that ends at its module
abbrev pub is_item_hidden : EditionYear → List ℕ → ItemPlace → Bool
is_item_hidden edition text s = has_visibility s.id.kind && (not (reaches_out text s.range (item_value s.id.kind s.range s.body)) && is_for_its_module edition (text_at text s.range))

-- ---- members

-- Whether the members of an item, which is hidden or not, are so too, or nothing where each has a visibility of its own: variants and what is in a
-- trait are as the item, and what is in an impl of a trait is seen.
abbrev pub hides_members : EditionYear → List ℕ → AstIdKind → Bool → Option Bool
hides_members edition item kind.Enum is_hidden = Some is_hidden
hides_members edition item kind.Trait is_hidden = Some is_hidden
hides_members edition item kind.Impl is_hidden = if is_of_trait edition item then Some false else None
hides_members edition item _ is_hidden = None

-- the braces of a function, and all of a constant
abbrev pub member_value : MemberKind → TextRange → Option TextRange → Option TextRange
member_value member.Function range body = body
member_value member.Constant range body = Some range
member_value _ range body = None

-- by its own visibility; a macro call has none
abbrev pub is_hidden_itself : List ℕ → MemberKind → MemberRead → Bool
is_hidden_itself text member.MacroCall m = false
is_hidden_itself text k m = not (reaches_out text m.range (member_value k m.range m.body)) && ends_here m.visibility

-- a member is hidden as its item's members are, or else by itself
abbrev pub is_member_hidden : Option Bool → List ℕ → MemberRead → Bool
is_member_hidden (Some is_hidden) text m = is_hidden
is_member_hidden None text m = is_hidden_itself text m.kind m
