-- Which bodies of functions are holes: others see the same, whatever stands in them.
use Rattle.std.specs.Prelude.{ℕ, Bool, true, false, not, ◌==◌, ◌&&◌, ◌||◌, if◌then◌else◌, Option, Some, None, List, [], ◌∷◌, codes, bytes_eq}
use Rattle.std.specs.List.{list_any}
use Rattle.rust_lexer.specs.Piece.{Piece}
use Rattle.rust_lexer.specs.Symbol.{symbol_of}
use Rattle.rust_lexer.specs.Tokens.{tokens}
use Rattle.rust_cursor.specs.Words.{word_by}
use Rattle.rust_paths.specs.declared.names.TextRange.{TextRange}
use Rattle.source_rows.specs.Labels.{text_at}

-- a token is this word
abbrev pub is_this_word : List ℕ → Piece → Bool
is_this_word w t = bytes_eq (word_by t.kind t.text) w

abbrev pub has_word : List Piece → List ℕ → Bool
has_word ts w = list_any (is_this_word w) ts

-- `const` comes, and `fn` behind it with nothing but words and literals between them; the first argument says that a `const` came
abbrev pub has_const_fn : Bool → List Piece → Bool
has_const_fn has_const [] = false
has_const_fn has_const (t ∷ ts) = if has_const && is_this_word (codes "fn") t then true else has_const_fn (is_this_word (codes "const") t || (has_const && symbol_of t == 0)) ts

-- a body of one of these functions runs while others are compiled
abbrev pub macro_words : List (List ℕ)
macro_words = codes "proc_macro" ∷ codes "proc_macro_derive" ∷ codes "proc_macro_attribute" ∷ []

-- with one of these words something in a body reaches out of it
abbrev pub outer_words : List (List ℕ)
outer_words = codes "impl" ∷ codes "macro_export" ∷ codes "no_mangle" ∷ codes "export_name" ∷ codes "extern" ∷ codes "global_asm" ∷ []

-- linkers see what has one of these words, whatever its visibility
abbrev pub linked_words : List (List ℕ)
linked_words = codes "no_mangle" ∷ codes "export_name" ∷ []

-- linkers see an item of these tokens, or something in these reaches out of it
abbrev pub is_seen_beyond : List Piece → List Piece → Bool
is_seen_beyond item inside = list_any (has_word item) linked_words || list_any (has_word inside) outer_words

-- what stands in front of a function's body makes others see the body
abbrev pub is_run_early : List Piece → Bool
is_run_early ts = has_const_fn false ts || list_any (has_word ts) macro_words

-- With these tokens in front of its body and these in its braces a function is neither a `const fn` nor a macro, and no word in them reaches out.
abbrev pub is_unseen : List Piece → List Piece → Bool
is_unseen front inside = not (is_run_early front) && not (list_any (has_word inside) outer_words)

-- the braces of a function, which stands there in a text, are a hole
abbrev pub is_hole : List ℕ → TextRange → TextRange → Bool
is_hole text item body = is_unseen (tokens (text_at text (record { start = item.start; end = body.start }))) (tokens (text_at text body))

-- the braces of a function, if they are a hole
abbrev pub hole_of : List ℕ → TextRange → Option TextRange → Option TextRange
hole_of text item None = None
hole_of text item (Some body) = if is_hole text item body then Some body else None
