-- What a run has read and written when it answers, over what its program writes of shows.
use Rattle.std.specs.Prelude.{◌≡◌, ℕ, List, length, Option, Result, MatchResult}
use Rattle.std.specs.Io.KnownBytes.{Keeps, Appends}
use Rattle.serde_json.specs.Data.{Data}
use Rattle.item_tree.specs.declared.fault.EditFault.{EditFault}
use Rattle.item_tree_request.specs.declared.error.RunError.{RunError}
use Rattle.item_tree_request.specs.declared.error.RunError.TheVariants.{NotJson, NotRequest, Refused, OutOfMemory, Read, Write}
use Rattle.hir_input_json.specs.Reading.{wrong}
use Rattle.item_tree_request.specs.Outputs.{ShowText, first_table, IsOutput, NonePasses, PassesAt}
use Rattle.item_tree_request.specs.Requests.{Request, request, IsJsonText, IsRequest}
use Rattle.item_tree_request.specs.Streams.{IsReadToEnd, TakesOnlyBeginning}

-- the bytes are a request, no edit of it passes a size, and the text is its output
pub record IsOutputOf (IsText : ShowText) (bytes text : List ℕ) : Type 0 where
  pub asked : Request
  pub is_request : IsRequest bytes asked
  pub none_passes : NonePasses (first_table asked) asked.edits (length asked.edits)
  pub is_output : IsOutput IsText asked text

-- the bytes are a request, whose edit at this place is the first that passes a size, and passes this one
pub record IsRefusedAt (bytes : List ℕ) (place : ℕ) (cause : EditFault) : Type 0 where
  pub asked : Request
  pub is_request : IsRequest bytes asked
  pub none_before : NonePasses (first_table asked) asked.edits place
  pub passes : PassesAt (first_table asked) asked.edits place cause

-- the bytes are refused for this cause
abbrev pub IsRefusedFor : List ℕ → RunError → Type 0
IsRefusedFor bytes NotJson = (d : Data) → ¬ IsJsonText bytes d
IsRefusedFor bytes NotRequest = (d : Data) × (pointer : List ℕ) × IsJsonText bytes d × (request d ≡ wrong pointer)
IsRefusedFor bytes (Refused place cause) = IsRefusedAt bytes place cause
IsRefusedFor bytes OutOfMemory = Unit {0}
IsRefusedFor bytes Read = ⊥
IsRefusedFor bytes Write = ⊥

-- all that the reader gave is a request, and the writer took its output
abbrev pub IsDone : ShowText → (had left : Option (List ℕ)) (held holds : Option (List ℕ)) → Type 0
IsDone IsText had left held holds = (bytes : List ℕ) × (text : List ℕ) × IsReadToEnd had left bytes × IsOutputOf IsText bytes text × Appends held holds text

-- all that the reader gave is refused for this cause, and nothing was written
abbrev pub IsRunRefused : (had left : Option (List ℕ)) (held holds : Option (List ℕ)) → RunError → Type 0
IsRunRefused had left held holds e = ((bytes : List ℕ) × IsReadToEnd had left bytes × IsRefusedFor bytes e) × Keeps held holds

-- what stands after an error: only where a write failed was anything written, and then a beginning of the output
abbrev pub IsFailure : ShowText → (had left : Option (List ℕ)) (held holds : Option (List ℕ)) → RunError → Type 0
IsFailure IsText had left held holds NotJson = IsRunRefused had left held holds NotJson
IsFailure IsText had left held holds NotRequest = IsRunRefused had left held holds NotRequest
IsFailure IsText had left held holds (Refused place cause) = IsRunRefused had left held holds (Refused place cause)
IsFailure IsText had left held holds OutOfMemory = Keeps held holds
IsFailure IsText had left held holds Read = Keeps held holds
IsFailure IsText had left held holds Write = (bytes : List ℕ) × (text : List ℕ) × IsReadToEnd had left bytes × IsOutputOf IsText bytes text × TakesOnlyBeginning held holds text

-- what a run has read and written when it answers: all was done, or what stands after its error
abbrev pub HasRun : {A : Type 0} → ShowText → Result A RunError → (had left : Option (List ℕ)) (held holds : Option (List ℕ)) → Type 0
HasRun IsText result had left held holds = MatchResult result (λ _. IsDone IsText had left held holds) (IsFailure IsText had left held holds)
