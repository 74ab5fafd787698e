-- What a look-up lends.
use Rattle.std.specs.Prelude.{ℕ, Bool, nat_eq, List}
use Rattle.std.specs.Cmp.Lexicographic.{pointwise}
use Rattle.decl_index.specs.declared.entry.Entry.{Entry}

-- whether the entry has this name
abbrev pub entry_has_name : List ℕ → Entry → Bool
entry_has_name name e = pointwise nat_eq e.name name
