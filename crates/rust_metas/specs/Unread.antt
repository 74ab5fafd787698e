-- Attributes that are passed over unread: those that plainly tell no condition.
use Rattle.std.specs.Prelude.{ℕ, ◌==◌, Bool, false, ◌&&◌, ◌||◌, if◌then◌else◌, List, [], codes, bytes_eq}
use Rattle.hir_input.specs.Name.{is_name}
use Rattle.rust_lexer.specs.declared.kind.DocStyle.{DocStyle}
use Rattle.rust_cursor.specs.Tokens.{Tokens}
use Rattle.rust_cursor.specs.Reader.{Reader}
use Rattle.rust_cursor.specs.Words.{symbol, word, bumped, is_at_open}
use Rattle.rust_cursor.specs.Brackets.{behind_tree}
use Rattle.rust_cursor.specs.Looks.{sees}
use Rattle.rust_paths.specs.Names.{has_name}
use Rattle.rust_metas.specs.Literals.{is_literal, is_ended}
use Rattle.rust_metas.specs.Attributes.{past_mark}

-- no word, or one with which a condition may begin
abbrev pub may_condition : List ℕ → Bool
may_condition w = bytes_eq w [] || (bytes_eq w (codes "cfg") || (bytes_eq w (codes "cfg_attr") || bytes_eq w (codes "unsafe")))

-- a name comes next, not as `r#name`, with which no condition begins
unfoldable pub is_plain_name : Tokens → Bool
is_plain_name ts = if may_condition (word ts) then false else sees has_name ts && is_name (word ts)

-- whether `=` and a literal come next, brackets of the first kind, or the end of the attribute, and what is left behind that
unfoldable pub plain_input : Reader Bool
plain_input ts =
    if symbol ts == 61 then (sees is_literal (bumped ts) && sees is_ended (bumped (bumped ts)), bumped (bumped ts))
    else (if is_at_open ts then (symbol ts == 40, behind_tree ts) else (symbol ts == 93, ts))

-- the same from the attribute's bracket on, up to the one that closes it, and it
unfoldable pub plain_bracketed : Reader Bool
plain_bracketed ts =
    let read = plain_input (bumped (bumped ts)) in
    (is_plain_name (bumped ts) && (read.0 && symbol read.1 == 93), bumped read.1)

-- an attribute comes next that is a name in which no condition is told, with such an input or with none
abbrev pub is_unread : DocStyle → Tokens → Bool
is_unread style ts = (plain_bracketed (past_mark style ts)).0

-- what is left behind it
abbrev pub behind_unread : DocStyle → Tokens → Tokens
behind_unread style ts = (plain_bracketed (past_mark style ts)).1
