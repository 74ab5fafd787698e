-- Words that private contracts alone cite.
use Rattle.std.specs.Prelude.{◌≡◌, ℕ, Bool, false, List, [], ◌∷◌, Option, Some, None, option_copied, Result, Ok, Err, IfOk}
use Rattle.serde_json.specs.Data.{Data}
use Rattle.item_tree.specs.Node.{Unfolding}
use Rattle.item_tree.specs.Walk.{of_id}
use Rattle.rust_items.specs.declared.source_file.ItemPlace.{ItemPlace}
use Rattle.rust_paths.specs.declared.names.TextRange.{TextRange}
use Rattle.source_rows.specs.Listed.{MemberReading}
use Rattle.lsp.specs.declared.symbols.Page as code_symbols
use Rattle.hir_input_json.specs.declared.fault.Fault.{Fault}
use Rattle.hir_input_json.specs.declared.fault.Fault.TheVariants.{WrongForm, OutOfMemory}
use Rattle.itemtree_commands.specs.declared.Options.{Options}
use Rattle.source_rows.specs.ListedFiles.{closers_in}
use Rattle.source_rows.specs.ListedViews.{reading_view, text_read}
use Rattle.source_rows.specs.declared.mended_file.MendedFile.{MendedFile}
use Rattle.serde_json.specs.declared.value.Value.{Value}
use Rattle.lsp.specs.declared.response.ResponseError.{ResponseError}
use Rattle.lsp.specs.Highlight.{highlight_ranges}
use Rattle.lsp.specs.Responses.{RequestOutcome}
use Rattle.lsp.specs.declared.parts.Part.{Part}
use Rattle.lsp.specs.Servers.{ServerState}
use Rattle.lsp.specs.Symbols.{Page, node_symbols}
use Rattle.serde_json.specs.View.{view}
use Rattle.serde_json.specs.Written.{has_float}
use Rattle.lsp.specs.declared.message.Incoming.{Incoming}
use Rattle.lsp.specs.declared.message.Incoming.TheVariants.{Request, Notification, Response, NoMessage}

-- an id is no float
abbrev pub HasPlainId : Incoming → Type 0
HasPlainId (Request id method params) = has_float (view id) ≡ false
HasPlainId (Notification method params) = Unit {0}
HasPlainId Response = Unit {0}
HasPlainId NoMessage = Unit {0}

-- what symbols are told of, as plain data
abbrev pub page_view : code_symbols.Page → Page
page_view p = record { units = p.units; text = p.text.now; flat_in = option_copied p.flat_in; reading = reading_view p.reading; reserved = p.edition.now.reserved.items }

-- the symbols of the item of an id, in what is called so, or in nothing
abbrev pub symbols_at : Page → List ItemPlace → Unfolding → Option (List ℕ) → Bool → ℕ → List Data
symbols_at p places u container is_active i = of_id u [] (node_symbols p places container is_active) i

-- ---- ranges

-- the marks of a part, if there is one
abbrev pub marks_of : Option Part → List (Option TextRange)
marks_of None = []
marks_of (Some p) = highlight_ranges p

-- ---- outcomes

-- an outcome as plain data
abbrev pub request_outcome_view : Result Value ResponseError → RequestOutcome
request_outcome_view (Ok value) = Ok (view value)
request_outcome_view (Err e) = Err e

-- a result holds no float
abbrev pub IsPlainOutcome : Result Value ResponseError → Type 0
IsPlainOutcome out = IfOk out (λ value. has_float (view value) ≡ false)

-- unless memory runs out
abbrev pub OnRead : {A : Type 0} → Result A Fault → Type 0 → Type 0
OnRead (Ok a) P = P
OnRead (Err (WrongForm pointer)) P = P
OnRead (Err OutOfMemory) P = Unit {0}

-- nothing but the documents, and what is told of them, may be other
abbrev pub IsSameButDocuments : ServerState → ServerState → Type 0
IsSameButDocuments s new = (new.options ≡ s.options) × ((new.phase ≡ s.phase) × (new.client ≡ s.client))

-- how headers and members of a listed text are read
abbrev pub listed_reading : Options → List ℕ → Option MendedFile → MemberReading
listed_reading o text mended = record { text = text_read text mended; closers = closers_in mended; edition = o.edition.year; options = Some o.krate.cfg }
