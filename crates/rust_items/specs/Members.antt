-- Members: what stands in the braces of an item, one level deep.
use Rattle.std.specs.Prelude.{ℕ, ◌+◌, Option, option_map, List}
use Rattle.hir_input.specs.declared.ast.Visibility.{Visibility}
use Rattle.hir_input.specs.Attr.{MetaView}
use Rattle.rust_paths.specs.declared.names.TextRange.{TextRange}
use Rattle.rust_items.specs.declared.member.MemberKind.{MemberKind}

-- a member: its name, and where that, all of it with its attributes, and its body stand in the text that was read
pub record MemberRead : Type 0 where
  pub kind : MemberKind
  pub identifier : Option (List ℕ)
  pub name : Option TextRange
  pub range : TextRange
  pub body : Option TextRange
  pub attrs : List MetaView
  pub visibility : Option Visibility

-- ---- the same in a text with so many bytes in front

abbrev pub range_moved_by : ℕ → TextRange → TextRange
range_moved_by by r = record { start = by + r.start; end = by + r.end }

abbrev pub moved_member : ℕ → MemberRead → MemberRead
moved_member by m = record {
  kind = m.kind;
  identifier = m.identifier;
  name = option_map (range_moved_by by) m.name;
  range = range_moved_by by m.range;
  body = option_map (range_moved_by by) m.body;
  attrs = m.attrs;
  visibility = m.visibility;
}
