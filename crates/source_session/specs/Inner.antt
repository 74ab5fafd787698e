-- Words that private contracts alone cite.
use Rattle.std.specs.Prelude.{◌≡◌, false, if◌then◌else◌, List, [], ◌∷◌, codes, map, Result, Ok, Err, IfOk}
use Rattle.std.specs.declared.alloc.Global.{Global}
use Rattle.std.specs.declared.vec.Vec.{Vec}
use Rattle.serde_json.specs.declared.value.Value.{Value}
use Rattle.serde_json.specs.Data.{Data, string, Members, no_members, member}
use Rattle.serde_json.specs.View.{items_of, view}
use Rattle.serde_json.specs.Written.{items_have_float}
use Rattle.hir_input.specs.declared.ids.Crate.{Crate}
use Rattle.list_forms.specs.Lines.{count_form}
use Rattle.source_listing.specs.Search.{Candidate, joined_scope}
use Rattle.decl_index.specs.declared.entry.Entry.{Entry}
use Rattle.text_session.specs.Sessions.{Session}
use Rattle.source_session.specs.declared.error.LineError.{LineError}
use Rattle.source_session.specs.declared.expected.Steps as code_steps
use Rattle.source_session.specs.Expected.{Steps}
use Rattle.source_session.specs.Found.{found_form, id_form}
use Rattle.source_session.specs.Sought.{SoughtItem, is_at, entry_path}
use Rattle.source_session.specs.declared.reply.Reply as reply
use Rattle.source_session.specs.Replies.{Outcome, Reply}

-- the object of an entry, if its item has the path that is looked for
abbrev pub found_one : Session → SoughtItem → Entry → List Data
found_one u q e = if is_at q.path (entry_path u.table e) then found_form q.units u e ∷ [] else []

-- the members of each object of what is found, in the order of their keys
abbrev pub match_names : Crate → Candidate → Members
match_names krate c =
    member (codes "crate") (count_form krate.0)
    (member (codes "id") (id_form c.id)
    (member (codes "kind") (string c.word)
    (member (codes "name") (string c.name)
    (member (codes "scope") (string (joined_scope c.scope)) no_members))))

-- the steps of a pointer as data
abbrev pub steps_view : code_steps.Steps → Steps
steps_view s = record { count = s.count; list = s.list.now; before = s.before.now; last = s.last.now }

-- no value of a list holds a float
abbrev pub AreUnfloating : List Data → Type 0
AreUnfloating values = items_have_float (items_of values) ≡ false

-- the values of an outcome as data
abbrev pub outcome_view : Result (Vec Value Global) LineError → Outcome
outcome_view (Ok values) = Ok (map view values.items)
outcome_view (Err e) = Err e

-- no value of an outcome holds a float
abbrev pub IsUnfloating : Result (Vec Value Global) LineError → Type 0
IsUnfloating r = IfOk r (λ values. AreUnfloating (map view values.items))

-- a reply as data
abbrev pub reply_view : reply.Reply → Reply
reply_view r = record { id = view r.id; outcome = outcome_view r.outcome }
