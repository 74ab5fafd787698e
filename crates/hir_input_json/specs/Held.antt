-- An object whose members are taken out as they are read.
use Rattle.std.specs.Prelude.{◌≡◌, ℕ, List, String}
use Rattle.std.specs.declared.alloc.Global.{Global}
use Rattle.std.specs.BTreeMap.{BTreeMap}
use Rattle.std.specs.Ordering.{nat_cmp, match_ordering}
use Rattle.std.specs.Cmp.Lexicographic.{slice_cmp}
use Rattle.serde_json.specs.declared.value.Value.{Value}
use Rattle.serde_json.specs.Data.{Data, null, object, Members, no_members, member}
use Rattle.serde_json.specs.View.{members_view}

-- the object of these members
abbrev pub object_held : BTreeMap (String Global) Value → Data
object_held m = object (members_view m.entries)

-- the members, with a null for the one at this key
abbrev pub with_null : List ℕ → Members → Members
with_null key no_members = no_members
with_null key (member l e ms) = match_ordering (slice_cmp nat_cmp key l) (member l e (with_null key ms)) (member l null ms) (member l e (with_null key ms))

-- the object after its member at this key was taken out, which leaves a null
unfoldable pub without_key : List ℕ → Data → Data
without_key key (object ms) = object (with_null key ms)
without_key key d = d

-- an object whose member at this key was taken out
abbrev pub IsLeftWithout : List ℕ → BTreeMap (String Global) Value → BTreeMap (String Global) Value → Type 0
IsLeftWithout key old new = object_held new ≡ without_key key (object_held old)
