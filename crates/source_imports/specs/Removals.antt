-- The bytes that must go of a text for one import to go.
use Rattle.std.specs.Prelude.{ℕ, zero, suc, ◌+◌, ◌-◌, Bool, true, ◌==◌, ◌&&◌, ◌||◌, if◌then◌else◌, List, [], ◌∷◌, Option, Some, None, option_map, unwrap_or}
use Rattle.hir_input.specs.declared.ids.FileAstId.{FileAstId}
use Rattle.rust_lexer.specs.Piece.{Piece}
use Rattle.rust_lexer.specs.Symbol.{symbol_of}
use Rattle.rust_lexer.specs.Tokens.{is_significant, tokens}
use Rattle.rust_cursor.specs.Tokens.{end_of}
use Rattle.rust_cursor.specs.Words.{is_close, is_open}
use Rattle.rust_paths.specs.declared.names.TextRange.{TextRange}
use Rattle.source_rows.specs.Labels.{text_at}
use Rattle.source_rows.specs.Places.{place_of}
use Rattle.source_imports.specs.declared.removals.TreeEnd.{TreeEnd}
use Rattle.source_listing.specs.Uses.{FilePlaces, Trees, tree_start, use_trees_at}

-- ---- where a use tree ends

-- in so many brackets of its own a token ends a tree: a comma, a semicolon, or a bracket that closes what is around it
abbrev pub ends_use_tree : ℕ → Piece → Bool
ends_use_tree depth t = depth == 0 && (symbol_of t == 44 || symbol_of t == 59 || is_close t)

-- in how many brackets what is behind a token stands
abbrev pub depth_past : ℕ → Piece → ℕ
depth_past depth t = if is_open t then depth + 1 else (if is_close t then depth - 1 else depth)

-- where a token ends, if it counts, and else this place
abbrev pub end_past : ℕ → Piece → ℕ
end_past past t = if is_significant t then end_of t else past

-- no more trees come in a list
abbrev pub ends_tree_list : List Piece → Bool
ends_tree_list [] = true
ends_tree_list (t ∷ ts) = if is_significant t then is_close t else ends_tree_list ts

-- a tree ends there, and behind it come this token and these
abbrev pub use_tree_ended : ℕ → Piece → List Piece → TreeEnd
use_tree_ended past t ts =
    if symbol_of t == 44 then record { end = past; comma = Some (end_of t); is_last = ends_tree_list ts }
    else record { end = past; comma = None; is_last = true }

-- where a tree of these tokens ends, in so many of its brackets and behind what ends there
abbrev pub use_tree_end : ℕ → ℕ → List Piece → TreeEnd
use_tree_end depth past [] = record { end = past; comma = None; is_last = true }
use_tree_end depth past (t ∷ ts) = if ends_use_tree depth t then use_tree_ended past t ts else use_tree_end (depth_past depth t) (end_past past t) ts

-- ---- what goes with it

-- the last token that counts of these, or this one
abbrev pub last_significant : Option Piece → List Piece → Option Piece
last_significant last [] = last
last_significant last (t ∷ ts) = last_significant (if is_significant t then Some t else last) ts

abbrev pub bytes_of : ℕ → ℕ → TextRange
bytes_of start end = record { start = start; end = end }

-- the first tree of a list, which begins there, goes with the comma behind it, if others follow
abbrev pub first_removal : ℕ → TreeEnd → Option TextRange
first_removal start e = if e.is_last then None else option_map (λ comma. bytes_of start (start + comma)) e.comma

-- a later one goes with the comma behind it, or else with the one in front of it
abbrev pub later_removal : ℕ → ℕ → Option ℕ → ℕ → TextRange
later_removal front start (Some comma) end = bytes_of start (start + comma)
later_removal front start None end = bytes_of front (start + end)

-- by the token in front of it, which is counted from a place on: there is none of a tree that is not alone in a list
abbrev pub removal_behind : ℕ → Option Piece → ℕ → TreeEnd → Option TextRange
removal_behind before None start e = None
removal_behind before (Some t) start e =
    if symbol_of t == 44 then Some (later_removal (before + t.at) start e.comma e.end)
    else (if symbol_of t == 123 then first_removal start e else None)

-- the bytes that go with a tree of a list, where it is not the only one there: it begins at a place, the tree before it at another, and the item ends there
abbrev pub own_removal : List ℕ → ℕ → ℕ → ℕ → Option TextRange
own_removal text before start end =
    removal_behind before (last_significant None (tokens (text_at text (bytes_of before start)))) start (use_tree_end 0 0 (tokens (text_at text (bytes_of start end))))

-- Those that go with the tree of a number, of an item's, each before those in it: its own; if it is alone, those of the tree that it is in, which is the one before it; and at last the item's.
abbrev pub removal : List ℕ → Trees → ℕ → TextRange
removal text t zero = t.place.range
removal text t (suc index) = unwrap_or (own_removal text (tree_start index t) (tree_start (suc index) t) t.place.range.end) (removal text t index)

abbrev pub removals : List ℕ → Option Trees → ℕ → Option TextRange
removals text trees index = option_map (λ t. removal text t index) trees

-- of the use tree of this number in the item of an id
abbrev pub import_removal : List ℕ → FilePlaces → FileAstId → ℕ → Option TextRange
import_removal text places id = removals text (option_map (use_trees_at places.use_trees) (place_of id places.items))
