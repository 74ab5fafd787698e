-- What messages are, and what is answered where none is understood.
use Rattle.std.specs.Prelude.{ℕ, Bool, true, false, not, if◌then◌else◌, List, codes, Option, Some, None, is_some, option_and_then, unwrap_or}
use Rattle.serde_json.specs.Data.{Data, null, boolean, number, string, array, object}
use Rattle.serde_json.specs.Find.{as_str}
use Rattle.serde_json.specs.Written.{has_float}
use Rattle.hir_input_json.specs.Forms.{field}

-- a message: a request under an id, a notification, an answer to a request of ours, or JSON that is none of them
pub data Incoming : Type 0 where
  request : Data → List ℕ → Data → Incoming
  notification : List ℕ → Data → Incoming
  response : Incoming
  no_message : Incoming

-- an id is a text or a whole number
abbrev pub is_request_id : Data → Bool
is_request_id null = false
is_request_id (boolean b) = false
is_request_id (number n) = not (has_float (number n))
is_request_id (string s) = true
is_request_id (array ds) = false
is_request_id (object ms) = false

-- what a message has as its parameters: null, where it has none
abbrev pub params_of : Data → Data
params_of d = unwrap_or (field (codes "params") d) null

-- a request under an id
abbrev pub asked_message : Data → List ℕ → Data → Incoming
asked_message id method params = if is_request_id id then request id method params else no_message

-- a message with a method is a request under its id, or a notification without one; one without a method answers something, if it has an id or an error
abbrev pub by_method : Option (List ℕ) → Option Data → Data → Bool → Incoming
by_method None None params has_error = if has_error then response else no_message
by_method None (Some id) params has_error = response
by_method (Some method) None params has_error = notification method params
by_method (Some method) (Some id) params has_error = asked_message id method params

-- what a value is as a message; a member that is null counts as absent
abbrev pub incoming : Data → Incoming
incoming d =
    by_method (option_and_then as_str (field (codes "method") d)) (field (codes "id") d) (params_of d) (is_some (field (codes "error") d))
