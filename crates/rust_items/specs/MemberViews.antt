-- What was read, as plain data.
use Rattle.std.specs.Prelude.{map}
use Rattle.hir_input.specs.Attr.{meta_view}
use Rattle.rust_items.specs.declared.member.Member.{Member}
use Rattle.rust_items.specs.declared.associated.Told as code_told
use Rattle.rust_items.specs.Members.{MemberRead}
use Rattle.rust_items.specs.MemberParts.{MemberTold}

-- a member as plain data
abbrev pub member_view : Member → MemberRead
member_view m = record { kind = m.kind; identifier = m.identifier; name = m.name; range = m.range; body = m.body; attrs = map meta_view m.attrs.items; visibility = m.visibility }

abbrev pub told_view : code_told.Told → MemberTold
told_view t = record { kind = t.kind; identifier = t.identifier; attrs = map meta_view t.attrs.items; visibility = t.visibility }
