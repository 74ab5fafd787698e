-- What requests are answered with.
use Rattle.std.specs.Prelude.{ℕ, ℤ, negsuc, List, ◌++◌, codes, Result, Ok, Err}
use Rattle.serde_json.specs.Data.{Data, number, string, object, no_members, member}
use Rattle.serde_json.specs.Find.{of_integer}
use Rattle.hir_input_json.specs.declared.fault.Fault.{Fault}
use Rattle.hir_input_json.specs.declared.fault.Fault.TheVariants.{WrongForm}
use Rattle.hir_input_json.specs.declared.fault.Fault.TheVariants as fault
use Rattle.item_tree.specs.declared.fault.LowerError.TheVariants as lowering
use Rattle.source_rows.specs.declared.read_texts.ReadError.{ReadError}
use Rattle.source_rows.specs.declared.read_texts.ReadError.TheVariants as read
use Rattle.itemtree_commands.specs.declared.trees.SourceError.{SourceError}
use Rattle.itemtree_commands.specs.declared.trees.SourceError.TheVariants.{Lower}
use Rattle.lsp.specs.declared.response.ResponseError.{ResponseError}
use Rattle.lsp.specs.declared.response.ResponseError.TheVariants.{NotJson, InvalidRequest, MethodNotFound, InvalidParams, NotInitialized, TooLarge, OutOfMemory}

-- the result of a request, or why it has none
abbrev pub RequestOutcome : Type 0
RequestOutcome = Result Data ResponseError

-- why parameters are not read
abbrev pub of_fault : Fault → ResponseError
of_fault (WrongForm pointer) = InvalidParams pointer
of_fault fault.OutOfMemory = OutOfMemory

-- why a text has no tree
abbrev pub of_source : SourceError → ResponseError
of_source (Lower lowering.OutOfMemory) = OutOfMemory
of_source _ = TooLarge

-- why a text is not read
abbrev pub of_read : ReadError → ResponseError
of_read read.TooLong = TooLarge
of_read read.OutOfMemory = OutOfMemory

-- the number that the protocol has for an error
abbrev pub error_code : ResponseError → ℤ
error_code NotJson = negsuc 32699
error_code InvalidRequest = negsuc 32599
error_code MethodNotFound = negsuc 32600
error_code (InvalidParams pointer) = negsuc 32601
error_code OutOfMemory = negsuc 32602
error_code NotInitialized = negsuc 32001
error_code TooLarge = negsuc 32802

-- what is said of it, without the place of what has the wrong form
abbrev pub error_words : ResponseError → List ℕ
error_words NotJson = codes "no JSON"
error_words InvalidRequest = codes "no request that may stand here"
error_words MethodNotFound = codes "no such method"
error_words (InvalidParams pointer) = codes "wrong form at "
error_words OutOfMemory = codes "out of memory"
error_words NotInitialized = codes "initialize comes first"
error_words TooLarge = codes "the text is too large"

abbrev pub error_message : ResponseError → List ℕ
error_message (InvalidParams pointer) = codes "wrong form at " ++ pointer
error_message e = error_words e

-- the object of an error
abbrev pub error_data : ResponseError → Data
error_data e = object (member (codes "code") (number (of_integer (error_code e))) (member (codes "message") (string (error_message e)) no_members))

-- the answer to a request under an id
abbrev pub response_data : Data → RequestOutcome → Data
response_data id (Ok d) = object (member (codes "id") id (member (codes "jsonrpc") (string (codes "2.0")) (member (codes "result") d no_members)))
response_data id (Err e) = object (member (codes "error") (error_data e) (member (codes "id") id (member (codes "jsonrpc") (string (codes "2.0")) no_members)))
