-- Documents whose problems are not told yet, by their names.
use Rattle.std.specs.Prelude.{ℕ, not, List, [], ◌∷◌, ◌++◌, codes, bytes_eq, filter, Option, Some, None}
use Rattle.lsp.specs.Diagnostics.{closed_notice}
use Rattle.lsp.specs.declared.method.NotificationMethod.{NotificationMethod}
use Rattle.lsp.specs.declared.method.NotificationMethod.TheVariants.{DidOpen, DidChange, DidClose}

-- names without this one
abbrev pub without_name : List (List ℕ) → List ℕ → List (List ℕ)
without_name names uri = filter (λ name. not (bytes_eq name uri)) names

-- names with this one behind the others, once
abbrev pub with_name_last : List (List ℕ) → List ℕ → List (List ℕ)
with_name_last names uri = without_name names uri ++ uri ∷ []

-- those that are not told yet behind a notification about the document of a name: one that is opened or changed, and none that is closed
abbrev pub untold_named : List (List ℕ) → NotificationMethod → List ℕ → List (List ℕ)
untold_named names DidOpen uri = with_name_last names uri
untold_named names DidChange uri = with_name_last names uri
untold_named names DidClose uri = without_name names uri
untold_named names _ uri = names

-- one that names none changes nothing
abbrev pub untold_after : List (List ℕ) → NotificationMethod → Option (List ℕ) → List (List ℕ)
untold_after names method None = names
untold_after names method (Some uri) = untold_named names method uri

-- what is told at once: that nothing is wrong with a document that is closed
abbrev pub told_at_once : NotificationMethod → Option (List ℕ) → List (List ℕ)
told_at_once DidClose (Some uri) = closed_notice uri ∷ []
told_at_once _ _ = []

-- what is told at a rest where there is no memory to tell what is wrong with a document
abbrev pub untold_text : List ℕ
untold_text = codes "{\"jsonrpc\":\"2.0\",\"method\":\"window/showMessage\",\"params\":{\"message\":\"no memory to tell problems\",\"type\":2}}"
