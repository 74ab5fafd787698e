-- Data that does not nest past a depth nests at most so deep.
use Rattle.std.proofs.Common.{◌≡◌, ◌<◌, ◌≤◌, ℕ, zero, suc, max, Bool, true, false, ◌||◌, refl, arith}
use Rattle.serde_json.specs.Data.{Data, array, object, Items, no_items, item, Members, no_members, member, depth, items_depth, members_depth}
use Rattle.item_tree_request.proofs.Writing.Common.{nests_past, items_nest_past, members_nest_past}

first_false : (a b : Bool) → (a || b) ≡ false → a ≡ false
first_false false b h = refl
first_false true b h = absurd cc

second_false : (a b : Bool) → (a || b) ≡ false → b ≡ false
second_false false b h = h
second_false true b h = absurd cc

mutual
  pub within : (n : ℕ) (d : Data) → nests_past n d ≡ false → depth d ≤ n
  within zero (array ds) h = absurd cc
  within zero (object ms) h = absurd cc
  within (suc n) (array ds) h = omega (arith, items_within n ds h)
  within (suc n) (object ms) h = omega (arith, members_within n ms h)
  within n d h = omega arith

  items_within : (n : ℕ) (ds : Items) → items_nest_past n ds ≡ false → items_depth ds ≤ n
  items_within n no_items h = omega arith
  items_within n (item d ds) h = omega (arith, within n d (first_false _ _ h), items_within n ds (second_false _ _ h))

  members_within : (n : ℕ) (ms : Members) → members_nest_past n ms ≡ false → members_depth ms ≤ n
  members_within n no_members h = omega arith
  members_within n (member k d ms) h = omega (arith, within n d (first_false _ _ h), members_within n ms (second_false _ _ h))

either_past : (a b : Bool) (n x y : ℕ) → (a || b) ≡ true → (a ≡ true → n < x) → (b ≡ true → n < y) → n < max x y
either_past true b n x y h f g = let l = f refl in omega (arith, l)
either_past false b n x y h f g = let l = g h in omega (arith, l)

mutual
  pub past : (n : ℕ) (d : Data) → nests_past n d ≡ true → n < depth d
  past zero (array ds) h = omega arith
  past zero (object ms) h = omega arith
  past (suc n) (array ds) h = omega (arith, items_past n ds h)
  past (suc n) (object ms) h = omega (arith, members_past n ms h)
  past n d h = absurd cc

  items_past : (n : ℕ) (ds : Items) → items_nest_past n ds ≡ true → n < items_depth ds
  items_past n no_items h = absurd cc
  items_past n (item d ds) h = either_past (nests_past n d) (items_nest_past n ds) n (depth d) (items_depth ds) h (past n d) (items_past n ds)

  members_past : (n : ℕ) (ms : Members) → members_nest_past n ms ≡ true → n < members_depth ms
  members_past n no_members h = absurd cc
  members_past n (member k d ms) h = either_past (nests_past n d) (members_nest_past n ms) n (depth d) (members_depth ms) h (past n d) (members_past n ms)

pub ruleset nestings = (within, past)
