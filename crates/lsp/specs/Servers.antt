-- A server: what stands between messages, what messages do, and what they are answered with.
use Rattle.std.specs.Prelude.{◌≡◌, ◌⊎◌, ℕ, Bool, true, false, List, [], ◌∷◌, codes, if◌then◌else◌, Option, Some, None, is_some, option_map, Ok, Err}
use Rattle.serde_json.specs.Data.{Data, null, boolean, string, array, object, no_items, no_members, member}
use Rattle.serde_json.specs.View.{items_of}
use Rattle.serde_json.specs.Written.{compact_text}
use Rattle.list_forms.specs.Lines.{count_form}
use Rattle.hir_input_json.specs.Reading.{Reading, right, wrong, ◌>>=◌}
use Rattle.item_tree_request.specs.Requests.{IsJsonText}
use Rattle.message_stream.specs.Answers.{Conduct}
use Rattle.message_stream.specs.Messages.{Told, whole, too_long, no_memory}
use Rattle.line_index.specs.declared.Units.{Units}
use Rattle.line_index.specs.declared.Units.TheVariants.{Utf16}
use Rattle.source_rows.specs.Listed.{Closers}
use Rattle.itemtree_commands.specs.Answers.{HasListed, HasNoList, reading_in}
use Rattle.itemtree_commands.specs.declared.Options.{Options}
use Rattle.itemtree_commands.specs.declared.trees.SourceTree.{SourceTree}
use Rattle.itemtree_commands.specs.declared.trees.SourceError.{SourceError}
use Rattle.lsp.specs.Messages.{Incoming, request, notification, response, no_message, incoming}
use Rattle.lsp.specs.Clients.{client_of, encoding}
use Rattle.lsp.specs.Documents.{Document, Documents, asked_document, document_in, with_document, without_document, open_form, named_version, uri_in}
use Rattle.lsp.specs.Changes.{text_with_changes, changes_form}
use Rattle.lsp.specs.Diagnostics.{IsNoticeOf, closed_notice}
use Rattle.lsp.specs.Methods.{request_method, notification_method}
use Rattle.lsp.specs.Ranges.{AreAskedRanges, asked_places}
use Rattle.lsp.specs.Responses.{RequestOutcome, of_source, response_data}
use Rattle.lsp.specs.Surrogates.{surrogates_mended}
use Rattle.lsp.specs.Symbols.{Page, tree_symbols}
use Rattle.lsp.specs.Untold.{told_at_once, untold_after, untold_text}
use Rattle.lsp.specs.declared.client.Client.{Client}
use Rattle.lsp.specs.declared.method.RequestMethod.{RequestMethod}
use Rattle.lsp.specs.declared.method.RequestMethod.TheVariants.{Initialize, Shutdown, DocumentSymbol, Ranges, Unknown}
use Rattle.lsp.specs.declared.method.NotificationMethod.{NotificationMethod}
use Rattle.lsp.specs.declared.method.NotificationMethod.TheVariants.{Exit, DidOpen, DidChange, DidClose, Other}
use Rattle.lsp.specs.declared.response.ResponseError.{ResponseError}
use Rattle.lsp.specs.declared.response.ResponseError.TheVariants.{NotJson, InvalidRequest, MethodNotFound, InvalidParams, NotInitialized, OutOfMemory}
use Rattle.lsp.specs.declared.phase.Phase.{Phase}
use Rattle.lsp.specs.declared.phase.Phase.TheVariants.{Waiting, Running, ShutDown, Ended}

-- what stands between messages: also the names of documents whose problems are not told yet
pub record ServerState : Type 0 where
  pub options : Options
  pub phase : Phase
  pub client : Client
  pub documents : Documents
  pub untold : List (List ℕ)

-- a server whose conversation is not opened
abbrev pub new_server : Options → ServerState
new_server options = record { options = options; phase = Waiting; client = record { units = Utf16; is_hierarchical = false }; documents = []; untold = [] }

-- whether the conversation is over, and if so, whether it ended as it should
abbrev pub conversation_end : Phase → Option Bool
conversation_end (Ended is_clean) = Some is_clean
conversation_end _ = None

abbrev pub is_conversation_over : ServerState → Bool
is_conversation_over s = is_some (conversation_end s.phase)

-- nothing is left to tell
abbrev pub is_all_told : List (List ℕ) → Bool
is_all_told [] = true
is_all_told (uri ∷ uris) = false

-- ---- requests

-- why a request may not stand in a phase, if it may not
abbrev pub refusal : Phase → RequestMethod → Option ResponseError
refusal Waiting Initialize = None
refusal Waiting _ = Some NotInitialized
refusal Running Initialize = Some InvalidRequest
refusal Running Unknown = Some MethodNotFound
refusal Running _ = None
refusal ShutDown _ = Some InvalidRequest
refusal (Ended is_clean) _ = Some InvalidRequest

-- what the server can do
abbrev pub capabilities : Units → Data
capabilities units =
    object
    (member (codes "documentHighlightProvider") (boolean true)
    (member (codes "documentSymbolProvider") (boolean true)
    (member (codes "foldingRangeProvider") (boolean true)
    (member (codes "positionEncoding") (string (encoding units))
    (member (codes "selectionRangeProvider") (boolean true)
    (member (codes "textDocumentSync") (object (member (codes "change") (count_form 2) (member (codes "openClose") (boolean true) no_members))) no_members))))))

-- the answer that opens a conversation
abbrev pub initialize_data : Units → Data
initialize_data units =
    object (member (codes "capabilities") (capabilities units) (member (codes "serverInfo") (object (member (codes "name") (string (codes "itemtree")) no_members)) no_members))

-- the name of a document, for a client that does not know symbols in one another
abbrev pub flat_in : Client → List ℕ → Option (List ℕ)
flat_in c uri = if c.is_hierarchical then None else Some uri

-- what symbols of a document are told of
abbrev pub page_of : Options → Client → List ℕ → Document → Option Closers → Page
page_of o c uri d closers = record {
  units = c.units;
  text = d.text;
  flat_in = flat_in c uri;
  reading = reading_in o true (record { path = []; text = d.text }) closers;
  reserved = o.edition.reserved.items;
}

-- the symbols of a document, by what lists read of its text, or that this has no tree
abbrev pub AreSymbolsOf : Options → Client → List ℕ → Document → RequestOutcome → Type 0
AreSymbolsOf o c uri d (Ok symbols) =
    (closers : Option Closers) × (t : SourceTree) × HasListed o d.text closers t
    × (symbols ≡ array (items_of (tree_symbols (page_of o c uri d closers) t.places.items t.tree)))
AreSymbolsOf o c uri d (Err e) = (why : SourceError) × HasNoList o d.text why × (e ≡ of_source why)

-- those of a document that is Rust, or not
abbrev pub AreRustSymbols : Options → Client → Bool → List ℕ → Document → RequestOutcome → Type 0
AreRustSymbols o c true uri d out = AreSymbolsOf o c uri d out
AreRustSymbols o c false uri d out = out ≡ Ok (array no_items)

-- those that parameters ask for
abbrev pub AreAskedSymbols : Options → Client → Reading (List ℕ × Document) → RequestOutcome → Type 0
AreAskedSymbols o c (wrong pointer) out = out ≡ Err (InvalidParams pointer)
AreAskedSymbols o c (right (uri, d)) out = AreRustSymbols o c d.is_rust uri d out

-- what a request does that may stand where it stands: behind a shutdown nothing is told any more
abbrev pub IsRequestDone : ServerState → RequestMethod → Data → ServerState → RequestOutcome → Type 0
IsRequestDone s Initialize params new out =
    (new ≡ record { options = s.options; phase = Running; client = client_of params; documents = s.documents; untold = s.untold }) × (out ≡ Ok (initialize_data (client_of params).units))
IsRequestDone s Shutdown params new out = (new ≡ record { options = s.options; phase = ShutDown; client = s.client; documents = s.documents; untold = [] }) × (out ≡ Ok null)
IsRequestDone s DocumentSymbol params new out = (new ≡ s) × AreAskedSymbols s.options s.client (asked_document s.documents params) out
IsRequestDone s (Ranges kind) params new out = (new ≡ s) × AreAskedRanges s.options s.client.units kind (asked_places kind s.documents params) out
IsRequestDone s Unknown params new out = ⊥

-- memory runs out for a request, and nothing changes
abbrev pub IsOutOfMemory : ServerState → ServerState → RequestOutcome → Type 0
IsOutOfMemory s new out = (new ≡ s) × (out ≡ Err OutOfMemory)

-- a request that may not stand there changes nothing
abbrev pub IsDoneUnless : Option ResponseError → ServerState → RequestMethod → Data → ServerState → RequestOutcome → Type 0
IsDoneUnless (Some e) s method params new out = (new ≡ s) × (out ≡ Err e)
IsDoneUnless None s method params new out = IsRequestDone s method params new out

-- what a request does: where memory runs out, nothing
abbrev pub IsRequestAnswered : ServerState → RequestMethod → Data → ServerState → RequestOutcome → Type 0
IsRequestAnswered s method params new out = IsOutOfMemory s new out ⊎ IsDoneUnless (refusal s.phase method) s method params new out

-- ---- notifications

-- these documents in the place of those that are open
abbrev pub with_documents : ServerState → Documents → ServerState
with_documents s ds = record { options = s.options; phase = s.phase; client = s.client; documents = ds; untold = s.untold }

-- the problems of these documents are not told yet
abbrev pub with_untold : ServerState → List (List ℕ) → ServerState
with_untold s uris = record { options = s.options; phase = s.phase; client = s.client; documents = s.documents; untold = uris }

-- a document after the changes that parameters ask for, by the units of the client
abbrev pub changed_document : Units → Data → Document → Reading Document
changed_document units params d = do
  changes ← changes_form params
  right (record { text = text_with_changes units changes d.text; is_rust = d.is_rust; version = named_version params })

-- the documents after one is opened
abbrev pub opened_documents : Documents → Reading (List ℕ × Document) → Documents
opened_documents ds (wrong pointer) = ds
opened_documents ds (right (uri, d)) = with_document ds uri d

-- after the document of a name is changed: one whose changes cannot be read is closed
abbrev pub changed_by : Documents → List ℕ → Option (Reading Document) → Documents
changed_by ds uri None = ds
changed_by ds uri (Some (wrong pointer)) = without_document ds uri
changed_by ds uri (Some (right d)) = with_document (without_document ds uri) uri d

-- the documents after a notification about that of a name, in an open conversation
abbrev pub documents_named : ServerState → NotificationMethod → Data → List ℕ → Documents
documents_named s DidOpen params uri = opened_documents s.documents (open_form params)
documents_named s DidChange params uri = changed_by s.documents uri (option_map (changed_document s.client.units params) (document_in s.documents uri))
documents_named s DidClose params uri = without_document s.documents uri
documents_named s _ params uri = s.documents

-- one that names none does nothing
abbrev pub documents_by : ServerState → NotificationMethod → Data → Option (List ℕ) → Documents
documents_by s method params None = s.documents
documents_by s method params (Some uri) = documents_named s method params uri

abbrev pub documents_after : ServerState → NotificationMethod → Data → Documents
documents_after s method params = documents_by s method params (uri_in params)

-- what a notification about documents leaves in an open conversation
abbrev pub noticed_documents : ServerState → NotificationMethod → Data → ServerState
noticed_documents s method params = with_untold (with_documents s (documents_after s method params)) (untold_after s.untold method (uri_in params))

-- and what in this phase
abbrev pub noticed_in : Phase → ServerState → NotificationMethod → Data → ServerState
noticed_in Running s method params = noticed_documents s method params
noticed_in _ s method params = s

-- the conversation ended: after a shutdown as it should
abbrev pub ended_phase : Phase → Phase
ended_phase ShutDown = Ended true
ended_phase (Ended is_clean) = Ended is_clean
ended_phase _ = Ended false

-- the client has left
abbrev pub client_left : ServerState → ServerState
client_left s = record { options = s.options; phase = ended_phase s.phase; client = s.client; documents = s.documents; untold = s.untold }

-- what a notification leaves
abbrev pub state_behind : ServerState → NotificationMethod → Data → ServerState
state_behind s Exit params = client_left s
state_behind s Other params = s
state_behind s method params = noticed_in s.phase s method params

-- ---- what is told of documents

-- what is told of a document that is open, or not: what is wrong with it, or nothing
abbrev pub IsToldOfOpen : ServerState → List ℕ → Option Document → List (List ℕ) → Type 0
IsToldOfOpen s uri None texts = texts ≡ closed_notice uri ∷ []
IsToldOfOpen s uri (Some d) texts = (text : List ℕ) × IsNoticeOf s.options s.client.units uri d text × (texts ≡ text ∷ [])

-- what is told at once behind a notification, in this phase
abbrev pub told_in_phase : Phase → NotificationMethod → Data → List (List ℕ)
told_in_phase Running method params = told_at_once method (uri_in params)
told_in_phase _ method params = []

-- a rest where these are not told yet: the first is told, as it stands then, or that there is no memory for that, and the others are left
abbrev pub IsRestOf : List (List ℕ) → ServerState → ServerState → List (List ℕ) → Type 0
IsRestOf [] s new texts = (new ≡ s) × (texts ≡ [])
IsRestOf (uri ∷ uris) s new texts =
    (new ≡ with_untold s uris) × (IsToldOfOpen s uri (document_in s.documents uri) texts ⊎ (texts ≡ untold_text ∷ []))

-- what is told at a rest
abbrev pub TellsAtRest : ServerState → ServerState → List (List ℕ) → Type 0
TellsAtRest s new texts = IsRestOf s.untold s new texts

-- ---- messages

-- no document is open any more
abbrev pub without_documents : ServerState → ServerState
without_documents s = with_untold (with_documents s []) []

-- what the user is told where memory ran out, or a message was too long: a change may be lost, so each document is closed
abbrev pub lost_text : List ℕ
lost_text = codes "{\"jsonrpc\":\"2.0\",\"method\":\"window/showMessage\",\"params\":{\"message\":\"open the documents again\",\"type\":1}}"

-- a message is lost, and the user is told so
abbrev pub IsLost : ServerState → ServerState → List (List ℕ) → Type 0
IsLost old new texts = (new ≡ without_documents old) × (texts ≡ lost_text ∷ [])

-- what is said where there is no memory for the text of an answer
abbrev pub no_memory_text : List ℕ
no_memory_text = codes "{\"error\":{\"code\":-32603,\"message\":\"out of memory\"},\"id\":null,\"jsonrpc\":\"2.0\"}"

-- an outcome is answered under an id, or memory runs out for its text
abbrev pub IsToldOutcome : Data → RequestOutcome → List (List ℕ) → Type 0
IsToldOutcome id out texts = (texts ≡ compact_text (response_data id out) ∷ []) ⊎ (texts ≡ no_memory_text ∷ [])

-- a request does what it asks, and is answered under its id
abbrev pub IsResponse : ServerState → Data → RequestMethod → Data → ServerState → List (List ℕ) → Type 0
IsResponse old id method params new texts = (out : RequestOutcome) × IsRequestAnswered old method params new out × IsToldOutcome id out texts

-- what is said to a text that is no request
abbrev pub IsRefusalText : ResponseError → List (List ℕ) → Type 0
IsRefusalText e texts = IsToldOutcome null (Err e) texts

-- a message does what it asks, and is answered by these texts
abbrev pub IsMessageStep : ServerState → Incoming → ServerState → List (List ℕ) → Type 0
IsMessageStep old (request id method params) new texts = IsResponse old id (request_method method) params new texts
IsMessageStep old (notification method params) new texts =
    let m = notification_method method in ((new ≡ state_behind old m params) × (texts ≡ told_in_phase old.phase m params)) ⊎ IsLost old new texts
IsMessageStep old response new texts = (new ≡ old) × (texts ≡ [])
IsMessageStep old no_message new texts = (new ≡ old) × IsRefusalText InvalidRequest texts

-- the bytes are no JSON text: a change may be lost, so each document is closed
pub record HasNoJson (bytes : List ℕ) (old new : ServerState) (texts : List (List ℕ)) : Type 0 where
  pub none : (d : Data) → ¬ IsJsonText bytes d
  pub forgets : new ≡ without_documents old
  pub refused : IsRefusalText NotJson texts

-- the bytes are the JSON text of a value, which is a message
pub record IsRead (bytes : List ℕ) (old new : ServerState) (texts : List (List ℕ)) : Type 0 where
  pub value : Data
  pub text : IsJsonText bytes value
  pub step : IsMessageStep old (incoming value) new texts

-- bytes are answered by these texts
abbrev pub AnswersBytes : List ℕ → ServerState → ServerState → List (List ℕ) → Type 0
AnswersBytes bytes old new texts = IsLost old new texts ⊎ (HasNoJson bytes old new texts ⊎ IsRead bytes old new texts)

-- what is told of a message is answered by these texts: escapes of lone surrogates, which JSON does not have, stand for U+FFFD
abbrev pub Answers : ServerState → Told → ServerState → List (List ℕ) → Type 0
Answers old (whole bytes) new texts = AnswersBytes (surrogates_mended bytes) old new texts
Answers old too_long new texts = IsLost old new texts
Answers old no_memory new texts = IsLost old new texts

-- what a server does: it answers by `Answers`, and tells by `TellsAtRest`
abbrev pub server_conduct : Conduct ServerState
server_conduct = record { Answers = Answers; Rests = TellsAtRest; is_rested = λ s. is_all_told s.untold; is_over = is_conversation_over }
