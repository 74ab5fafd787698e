-- Attributes that are lent, and the name of a path.
use Rattle.std.specs.Prelude.{ℕ, List, [], Bool, false, Option, Some, None, nat_eq}
use Rattle.std.specs.{Option.option_map_or, Borrow.Bor, Cmp.Lexicographic.pointwise}
use Rattle.hir_input.specs.{declared.attr.Attr.Attr, Path.ident_of}

-- the path is one plain name, and it is the key
abbrev pub has_key : List ℕ → Attr → Bool
has_key key attr = option_map_or (λ name. pointwise nat_eq name key) (ident_of attr.path) false

-- the attributes behind a reference, or none
abbrev pub referred_attrs : Option (Bor (List Attr)) → List Attr
referred_attrs None = []
referred_attrs (Some attrs) = attrs.now
