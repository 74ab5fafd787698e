-- What the code holds, as plain data.
use Rattle.std.specs.Prelude.{List, ℕ, String, map, string_bytes}
use Rattle.std.specs.declared.alloc.Global.{Global}
use Rattle.std.specs.BTreeMap.{BTreeMap}
use Rattle.serde_json.specs.View.{view}
use Rattle.lsp.specs.declared.message.Incoming as code
use Rattle.lsp.specs.declared.message.Incoming.TheVariants as code_incoming
use Rattle.lsp.specs.declared.document.Document as code_document
use Rattle.lsp.specs.declared.change.Change as code_change
use Rattle.lsp.specs.declared.symbol.Symbol as code_symbol
use Rattle.lsp.specs.Symbols.{Symbol}
use Rattle.lsp.specs.declared.selection.Chain as code_chain
use Rattle.lsp.specs.Selection.{Chain}
use Rattle.lsp.specs.Messages.{Incoming, request, notification, response, no_message}
use Rattle.lsp.specs.Documents.{Document, Documents}
use Rattle.lsp.specs.Changes.{SpanChange}

-- a message as plain data
abbrev pub incoming_view : code.Incoming → Incoming
incoming_view (code_incoming.Request id method params) = request (view id) (string_bytes method) (view params)
incoming_view (code_incoming.Notification method params) = notification (string_bytes method) (view params)
incoming_view code_incoming.Response = response
incoming_view code_incoming.NoMessage = no_message

-- a document as plain data
abbrev pub document_view : code_document.Document → Document
document_view d = record { text = d.text; is_rust = d.is_rust; version = d.version }

-- a document with its name as plain data
abbrev pub document_entry_view : String Global × code_document.Document → List ℕ × Document
document_entry_view d = (string_bytes d.0, document_view d.1)

-- the open documents as plain data
abbrev pub documents_view : BTreeMap (String Global) code_document.Document → Documents
documents_view ds = map document_entry_view ds.entries

-- a change as plain data
abbrev pub change_view : code_change.Change → SpanChange
change_view c = record { span = c.span; text = string_bytes c.text }

-- a symbol as plain data
abbrev pub symbol_view : code_symbol.Symbol → Symbol
symbol_view s = record { name = string_bytes s.name; detail = string_bytes s.detail; kind = s.kind; range = s.range; selection = s.selection }

-- a range in others as plain data
abbrev pub chain_view : code_chain.Chain → Chain
chain_view c = record { range = c.range; value = view c.value }
