-- The keys that the objects of a line may have.
use Rattle.std.specs.Prelude.{ℕ, Bool, ◌||◌, if◌then◌else◌, List, [], ◌∷◌, codes, bytes_eq, Option, Some, None, is_none, option_and_then}
use Rattle.std.specs.List.{list_any}
use Rattle.serde_json.specs.Data.{Data, Members, no_members, member}
use Rattle.serde_json.specs.Find.{as_object}
use Rattle.hir_input_json.specs.Reading.{Reading, right}
use Rattle.hir_input_json.specs.Forms.{by_form, field, unless_null, wrong_at}
use Rattle.source_session.specs.declared.keys.LineObject.{LineObject}
use Rattle.source_session.specs.declared.keys.LineObject.TheVariants.{Whole, OfEdits, OfShows}

-- those of a line, of any edit and of any show
abbrev pub keys_of : LineObject → List (List ℕ)
keys_of Whole = codes "id" ∷ codes "crates" ∷ codes "skipped" ∷ codes "edition" ∷ codes "start" ∷ codes "edits" ∷ codes "shows" ∷ []
keys_of OfEdits =
    codes "edit" ∷ codes "file" ∷ codes "block" ∷ codes "crate" ∷ codes "syntax" ∷ codes "attrs" ∷ codes "stmts" ∷ codes "tail" ∷ codes "cfg" ∷ codes "text" ∷ codes "range" ∷ []
keys_of OfShows = codes "show" ∷ codes "crate" ∷ codes "file" ∷ codes "block" ∷ codes "since" ∷ codes "as" ∷ codes "name" ∷ codes "units" ∷ codes "members" ∷ []

abbrev pub is_known : LineObject → List ℕ → Bool
is_known o key = list_any (bytes_eq key) (keys_of o)

-- the key of the first member that is no null and has none of these keys
abbrev pub unknown_key : LineObject → Members → Option (List ℕ)
unknown_key o no_members = None
unknown_key o (member key d ms) = if is_none (unless_null d) || is_known o key then unknown_key o ms else Some key

-- the members of an object have its keys alone
abbrev pub only_known : LineObject → Data → Reading (Unit {0})
only_known o d = by_form (option_and_then (unknown_key o) (as_object d)) (λ key. wrong_at key) (right tt)

-- no member stands at this key
abbrev pub none_at : List ℕ → Data → Reading (Unit {0})
none_at key d = by_form (field key d) (λ _. wrong_at key) (right tt)
