-- A text of a request is read as the request.
use Rattle.std.proofs.Common.{◌≡◌, ◌≤◌, ◌<◌, ℕ, List, Bool, true, false, IsUtf8, Option, Some, Result, Ok, Err, IfErr, IfOk, String, Global, string_bytes, MatchResult, ◌∙◌, sym}
use Rattle.serde_json.specs.Data.{Data, depth}
use Rattle.serde_json.specs.Read.{max_depth, read}
use Rattle.item_tree_request.proofs.Writing.Common.{right, IsJsonText, IsRequest, Request, request, nests_past}
use Rattle.item_tree_request.specs.declared.write.request.RequestFault.{RequestFault}
use Rattle.item_tree_request.specs.declared.write.request.RequestFault.TheVariants.{NoForm, TooDeep, OutOfMemory}
use Rattle.item_tree_request.specs.Writing.Faults.{IsNoText, IsDataUnwritten}
use Rattle.item_tree_request.proofs.Writing.Depths.{past, within}

pub json_text : (d : Data) (text : List ℕ) (deep : Bool) → deep ≡ nests_past 127 d → deep ≡ false → (depth d ≤ max_depth → read text ≡ Some d) → IsUtf8 text → IsJsonText text d
json_text d text deep is shallow reads utf8 = (utf8, reads (within 127 d (sym is ∙ shallow)))

pub too_deep : (d : Data) (deep : Bool) → deep ≡ nests_past 127 d → deep ≡ true → max_depth < depth d
too_deep d deep is past_it = past 127 d (sym is ∙ past_it)

unread : (d : Data) (wanted : Option Data) (e : RequestFault) → wanted ≡ Some d → IsNoText d e → IsDataUnwritten wanted e
unread d wanted NoForm w h = absurd h
unread d wanted TooDeep w h = (d, w, h)
unread d wanted OutOfMemory w h = h

pub asked_for : (r : Result (String Global) RequestFault) (d : Data) (q : Request) → MatchResult r (λ text. IsJsonText (string_bytes text) d) (IsNoText d) → request d ≡ right q → IfOk r (λ text. IsRequest (string_bytes text) q)
asked_for (Ok text) d q h is = (d, h, is)
asked_for (Err e) d q h is = tt

pub refused_for : (r : Result (String Global) RequestFault) (d : Data) (wanted : Option Data) → MatchResult r (λ text. IsJsonText (string_bytes text) d) (IsNoText d) → wanted ≡ Some d → IfErr r (IsDataUnwritten wanted)
refused_for (Ok text) d wanted h is = tt
refused_for (Err e) d wanted h is = unread d wanted e is h
