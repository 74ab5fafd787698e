-- A server that has opened one document, and nothing else.
use Rattle.std.specs.Prelude.{◌≡◌, ◌↔◌, ℕ, List, ⊤}
use Rattle.serde_json.specs.Data.{Data}
use Rattle.hir_input_json.specs.Reading.{right}
use Rattle.itemtree_commands.specs.declared.Options.{Options}
use Rattle.lsp.specs.Clients.{client_of}
use Rattle.lsp.specs.Documents.{Document, open_form, uri_form}
use Rattle.lsp.specs.Responses.{RequestOutcome}
use Rattle.lsp.specs.Servers.{ServerState, IsRequestAnswered, IsRequestDone, new_server, state_behind}
use Rattle.lsp.specs.declared.client.Client.{Client}
use Rattle.lsp.specs.declared.method.RequestMethod.{RequestMethod}
use Rattle.lsp.specs.declared.method.RequestMethod.TheVariants.{Initialize, DocumentSymbol, Ranges}
use Rattle.lsp.specs.declared.method.NotificationMethod.TheVariants.{DidOpen}

-- the text and the kind of a document are those of another
pub record IsSameText (d e : Document) : Type 0 where
  pub text : d.text ≡ e.text
  pub is_rust : d.is_rust ≡ e.is_rust

-- a new server for this client has opened a document of the same name and text, and nothing else
pub record HasJustOpened (o : Options) (c : Client) (uri : List ℕ) (d : Document) (fresh : ServerState) : Type 0 where
  pub init : Data
  pub between : ServerState
  pub outcome : RequestOutcome
  pub client : client_of init ≡ c
  pub initialized : IsRequestDone (new_server o) Initialize init between outcome
  pub opening : Data
  pub document : Document
  pub opens : open_form opening ≡ right (uri, document)
  pub same : IsSameText document d
  pub is : fresh ≡ state_behind between DidOpen opening

-- the request asks about a document
abbrev pub IsAboutDocument : RequestMethod → Type 0
IsAboutDocument DocumentSymbol = ⊤
IsAboutDocument (Ranges kind) = ⊤
IsAboutDocument _ = ⊥

-- two servers have the same answers to requests about the document of a name
abbrev pub AreAnsweredAlike : ServerState → ServerState → List ℕ → Type 0
AreAnsweredAlike s t uri =
    (method : RequestMethod) (params : Data) (out : RequestOutcome) → IsAboutDocument method → uri_form params ≡ right uri
    → IsRequestAnswered s method params s out ↔ IsRequestAnswered t method params t out
