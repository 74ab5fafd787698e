-- Open documents.
use Rattle.std.specs.Prelude.{ℤ, ℕ, Bool, ◌||◌, List, [], codes, bytes_eq, nat_eq, Option, Some, None, option_and_then}
use Rattle.std.specs.BTreeMap.{insert_entry, is_at}
use Rattle.std.specs.Cmp.Lexicographic.{slice_cmp}
use Rattle.std.specs.List.{ends_with}
use Rattle.std.specs.Map.{lookup, remove_entry}
use Rattle.std.specs.Ordering.{nat_cmp}
use Rattle.serde_json.specs.Data.{Data}
use Rattle.serde_json.specs.Find.{as_number, as_i64, as_str, get}
use Rattle.hir_input_json.specs.Reading.{Reading, right, wrong, ◌>>=◌, pointer_behind}
use Rattle.hir_input_json.specs.Forms.{object_members, required_at, text_form, field}

-- an open document: its text, whether it is Rust, and its version, where that is known
pub record Document : Type 0 where
  pub text : List ℕ
  pub is_rust : Bool
  pub version : Option ℤ

-- the open documents, each with its name, in the order of names
abbrev pub Documents : Type 0
Documents = List (List ℕ × Document)

-- the document of a name
abbrev pub document_in : Documents → List ℕ → Option Document
document_in ds uri = lookup (is_at (slice_cmp nat_cmp uri)) ds

-- all but that of a name
abbrev pub without_document : Documents → List ℕ → Documents
without_document ds uri = remove_entry (is_at (slice_cmp nat_cmp uri)) ds

-- with a document of a name, in the place of an earlier one
abbrev pub with_document : Documents → List ℕ → Document → Documents
with_document ds uri d = insert_entry (slice_cmp nat_cmp) ds uri d

-- a text is Rust by what the client calls its language, or else by its name
abbrev pub is_rust : (language uri : List ℕ) → Bool
is_rust language uri = bytes_eq language (codes "rust") || ends_with nat_eq uri (codes ".rs")

-- the version of a document, where a whole number is given
abbrev pub version_in : Data → Option ℤ
version_in d = option_and_then as_i64 (option_and_then as_number (field (codes "version") d))

-- a document that is opened, with its name
abbrev pub opened_form : Data → Reading (List ℕ × Document)
opened_form d = do
  _ ← object_members d
  uri ← required_at (codes "uri") text_form d
  language ← required_at (codes "languageId") text_form d
  text ← required_at (codes "text") text_form d
  right (uri, record { text = text; is_rust = is_rust language uri; version = version_in d })

-- the parameters by which one is opened
abbrev pub open_form : Data → Reading (List ℕ × Document)
open_form d = do
  _ ← object_members d
  required_at (codes "textDocument") opened_form d

-- the name of the document that a notification is about, if it has one
abbrev pub uri_in : Data → Option (List ℕ)
uri_in d = option_and_then as_str (option_and_then (get (codes "uri")) (get (codes "textDocument") d))

-- its version, where a whole number is given
abbrev pub named_version : Data → Option ℤ
named_version d = option_and_then as_i64 (option_and_then as_number (option_and_then (get (codes "version")) (get (codes "textDocument") d)))

-- the name that a document is given by
abbrev pub uri_member_form : Data → Reading (List ℕ)
uri_member_form d = do
  _ ← object_members d
  required_at (codes "uri") text_form d

-- the name of the document that parameters are about
abbrev pub uri_form : Data → Reading (List ℕ)
uri_form d = do
  _ ← object_members d
  required_at (codes "textDocument") uri_member_form d

-- an open document, or parameters that name none
abbrev pub open_document : Option Document → Reading Document
open_document None = wrong (pointer_behind (codes "textDocument") (pointer_behind (codes "uri") []))
open_document (Some d) = right d

-- the document that parameters are about, with its name
abbrev pub asked_document : Documents → Data → Reading (List ℕ × Document)
asked_document ds params = do
  uri ← uri_form params
  d ← open_document (document_in ds uri)
  right (uri, d)
