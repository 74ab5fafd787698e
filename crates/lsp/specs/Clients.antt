-- What a client can do, as it says when it opens the conversation.
use Rattle.std.specs.Prelude.{ℕ, Bool, false, ◌||◌, if◌then◌else◌, List, [], ◌∷◌, codes, bytes_eq, Option, Some, None, option_and_then, unwrap_or}
use Rattle.serde_json.specs.Data.{Data, Items, no_items, item}
use Rattle.serde_json.specs.Find.{get, as_array, as_bool, as_str}
use Rattle.line_index.specs.declared.Units.{Units}
use Rattle.lsp.specs.declared.client.Client.{Client}
use Rattle.line_index.specs.declared.Units.TheVariants.{Bytes, Utf16}

-- the value under each of these keys in turn
abbrev pub value_inside : List (List ℕ) → Data → Option Data
value_inside [] d = Some d
value_inside (key ∷ keys) d = option_and_then (value_inside keys) (get key d)

-- a value is this text
abbrev pub is_this_text : List ℕ → Option (List ℕ) → Bool
is_this_text text None = false
is_this_text text (Some s) = bytes_eq s text

-- this text is among some values
abbrev pub has_text : List ℕ → Items → Bool
has_text text no_items = false
has_text text (item d ds) = is_this_text text (as_str d) || has_text text ds

-- a list that there may be has this text
abbrev pub lists_text : List ℕ → Option Items → Bool
lists_text text None = false
lists_text text (Some ds) = has_text text ds

-- a value that there may be is true
abbrev pub is_true : Option Data → Bool
is_true d = unwrap_or (option_and_then as_bool d) false

-- the client offers to count bytes
abbrev pub offers_bytes : Data → Bool
offers_bytes d = lists_text (codes "utf-8") (option_and_then as_array (value_inside (codes "capabilities" ∷ codes "general" ∷ codes "positionEncodings" ∷ []) d))

-- symbols may stand in symbols
abbrev pub is_hierarchical : Data → Bool
is_hierarchical d = is_true (value_inside (codes "capabilities" ∷ codes "textDocument" ∷ codes "documentSymbol" ∷ codes "hierarchicalDocumentSymbolSupport" ∷ []) d)

-- the client that opens a conversation by these parameters: it counts bytes where it offers that, and else units of UTF-16
abbrev pub client_of : Data → Client
client_of d = record { units = if offers_bytes d then Bytes else Utf16; is_hierarchical = is_hierarchical d }

-- what characters of positions count, in the words of the protocol
abbrev pub encoding : Units → List ℕ
encoding Bytes = codes "utf-8"
encoding _ = codes "utf-16"
