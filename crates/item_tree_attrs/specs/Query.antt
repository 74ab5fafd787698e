-- What is asked of attributes.
use Rattle.std.specs.Prelude.{ℕ, ◌+◌, List, Option, Some, None, filter}
use Rattle.hir_input.specs.declared.attr.Attr.{Attr}
use Rattle.item_tree_attrs.specs.{Key.has_key, Key.referred_attrs, declared.query.Attrs.Attrs, declared.query.AttrQuery.AttrQuery}

-- the attributes, in order
abbrev pub listed_attrs : Attrs → List Attr
listed_attrs a = referred_attrs a.attrs

-- the attributes that a query asks for, in order
abbrev pub asked_attrs : AttrQuery → List Attr
asked_attrs q = filter (has_key q.key.now) (listed_attrs q.attrs)

-- where the attributes behind an id begin
abbrev pub place_after : Option ℕ → ℕ
place_after None = 0
place_after (Some id) = id + 1
