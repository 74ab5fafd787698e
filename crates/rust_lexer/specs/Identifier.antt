-- Which words are identifiers.
use Rattle.std.specs.Prelude.{ℕ, Bool, false, ◌&&◌, ◌||◌, ◌==◌, List, slice_get, Option, Some, None, chars}
use Rattle.std.specs.List.{list_all}
use Rattle.unicode_ident.specs.Ident.{is_xid_start, is_xid_continue}

-- whether there is a character, and an identifier may begin with it
abbrev pub may_start : Option ℕ → Bool
may_start None = false
may_start (Some c) = is_xid_start c || c == 95

-- IDENTIFIER_OR_KEYWORD: one of XID_Start or `_`, and all of XID_Continue
abbrev pub is_identifier : List ℕ → Bool
is_identifier word = may_start (slice_get (chars word) 0) && list_all is_xid_continue (chars word)
