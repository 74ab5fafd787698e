-- Whether data nests too deep.
use Rattle.std.specs.Prelude.{ℕ, zero, suc, Bool, true, false, ◌||◌}
use Rattle.serde_json.specs.Data.{Data, null, boolean, number, string, array, object, Items, no_items, item, Members, no_members, member}

-- deeper than this
abbrev mutual
  pub nests_past : ℕ → Data → Bool
  nests_past n null = false
  nests_past n (boolean b) = false
  nests_past n (number x) = false
  nests_past n (string s) = false
  nests_past zero (array ds) = true
  nests_past zero (object ms) = true
  nests_past (suc n) (array ds) = items_nest_past n ds
  nests_past (suc n) (object ms) = members_nest_past n ms

  pub items_nest_past : ℕ → Items → Bool
  items_nest_past n no_items = false
  items_nest_past n (item d ds) = nests_past n d || items_nest_past n ds

  pub members_nest_past : ℕ → Members → Bool
  members_nest_past n no_members = false
  members_nest_past n (member k d ms) = nests_past n d || members_nest_past n ms
