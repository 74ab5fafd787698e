-- The entries of a tree are those that the table declares there.
use Rattle.decl_index.proofs.Common.{◌≡◌, ℕ, zero, true, List, [], ◌∷◌, Option, Some, None, refl, sym, subst, ◌∙◌, arith, Contains, All, is_some, All-nil, All-cons, All-weaker, none-some, Crate, Place, State, IsKnown, unfolding_at, node_name, Entry, Node, Unfolding, each_walked_once, IsDeclared, entry_name, entry_of, entries_by, entries_at}
use Rattle.std.specs.Option.{option_map_or}
use Rattle.item_tree.specs.Reach.{all_ids}
use Rattle.decl_index.proofs.Lists.{flat_map_all, flat_map_contains}

-- the tree of an entry
abbrev pub tree_of : Entry → Place × Crate
tree_of e = (e.place, e.krate)

named_node : (o : Option Node) (name : List ℕ) → option_map_or node_name o None ≡ Some name → is_some o ≡ true
named_node None name h = absurd (none-some name h)
named_node (Some n) name h = refl

module _ (s : State) (place : Place) (krate : Crate) where
  abbrev u : Unfolding
  u = unfolding_at s place krate.0

  -- the entry tells of the item of an id
  record IsOf (i : ℕ) (e : Entry) : Type 0 where
    pub in_tree : tree_of e ≡ (place, krate)
    pub id : e.id ≡ i
    pub name : entry_name s place krate i ≡ Some e.name

  told : (i : ℕ) (o : Option (List ℕ)) → entry_name s place krate i ≡ o → All (IsOf i) (option_map_or (λ name. entry_of place krate i name ∷ []) o [])
  told i None h = All-nil (IsOf i)
  told i (Some name) h = All-cons (IsOf i) (entry_of place krate i name) [] (record { in_tree = refl; id = refl; name = h }) (All-nil (IsOf i))

  pub all_in_tree : All (λ e. tree_of e ≡ (place, krate)) (entries_at s place krate)
  all_in_tree = flat_map_all (entries_by u place krate) (λ e. tree_of e ≡ (place, krate)) (all_ids u) (λ k d l. All-weaker (IsOf _) (λ e. tree_of e ≡ (place, krate)) (λ e h. h.in_tree) _ (told _ _ refl))

  pub all_declared : IsKnown s krate → All (IsDeclared s) (entries_at s place krate)
  all_declared known = flat_map_all (entries_by u place krate) (IsDeclared s) (all_ids u) (λ k d l.
      All-weaker (IsOf _) (IsDeclared s)
      (λ e h. record { known = subst (λ (t : Place × Crate). IsKnown s t.1) (sym h.in_tree) known; named = (λ j. entry_name s (h.in_tree j).0 (h.in_tree j).1 (h.id j)) ∙ h.name })
      _ (told _ _ refl))

-- each that is declared is of its tree
pub declared_there : (s : State) (e : Entry) → IsDeclared s e → Contains (entries_at s e.place e.krate) e
declared_there s e d =
    let u : Unfolding = unfolding_at s e.place e.krate.0 in
    flat_map_contains (entries_by u e.place e.krate) (all_ids u) e.id e (((each_walked_once u).all e.id).0 (named_node _ e.name d.named))
    (subst (λ (o : Option (List ℕ)). Contains (option_map_or (λ name. entry_of e.place e.krate e.id name ∷ []) o []) e) (sym d.named) (zero, omega arith, refl))
