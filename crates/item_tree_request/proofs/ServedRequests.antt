-- From what is said of a request to what is said of the bytes that it was read from.
use Rattle.std.proofs.Common.{List, ℕ, Result, Ok, Err, MatchResult, String, Global, string_bytes}
use Rattle.item_tree_request.specs.declared.error.RunError.{RunError}
use Rattle.item_tree_request.specs.declared.error.RunError.TheVariants.{NotJson, NotRequest, Refused, OutOfMemory, Read, Write}
use Rattle.item_tree_request.proofs.Common.{IsRequestServed, IsUnmade, ShowText, first_table, IsOutputOf, IsRefusedFor}
use Rattle.item_tree_request.specs.Requests.{Request, IsRequest}

refused_for : (bytes : List ℕ) (q : Request) (e : RunError) → IsRequest bytes q → IsUnmade (first_table q) q.edits e → IsRefusedFor bytes e
refused_for bytes q (Refused place cause) request unmade = record { asked = q; is_request = request; none_before = unmade.0; passes = unmade.1 }
refused_for bytes q OutOfMemory request unmade = tt
refused_for bytes q NotJson request unmade = absurd unmade
refused_for bytes q NotRequest request unmade = absurd unmade
refused_for bytes q Read request unmade = absurd unmade
refused_for bytes q Write request unmade = absurd unmade

pub answered : (IsText : ShowText) (bytes : List ℕ) (q : Request) (r : Result (String Global) RunError) → IsRequest bytes q
    → MatchResult r (λ text. IsRequestServed IsText q (string_bytes text)) (IsUnmade (first_table q) q.edits)
    → MatchResult r (λ text. IsOutputOf IsText bytes (string_bytes text)) (IsRefusedFor bytes)
answered IsText bytes q (Ok text) request served = record { asked = q; is_request = request; none_passes = served.none_passes; is_output = served.is_output }
answered IsText bytes q (Err e) request unmade = refused_for bytes q e request unmade
