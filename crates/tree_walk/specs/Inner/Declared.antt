-- For the crate's own functions: what is declared by the ids of items, and by items that are lent.
use Rattle.std.specs.Prelude.{ℕ, List, [], map, Option, option_map, slice_get}
use Rattle.item_tree.specs.{Layout.leaf_vis, Layout.trunk_vis, Node.Leaf, Node.Trunk, Node.Unfolding, Shown.Lent, Shown.lent_leaf, Shown.lent_parent, Walk.of_id}
use Rattle.tree_walk.specs.Declarations.{Declared, declared_name, leaf_name, trunk_name, leaf_declares, node_declares, Declaration, declaration_of, with_id}
use Rattle.tree_walk.specs.DeclarationView.{DeclarationView, with_definition}
use Rattle.tree_walk.specs.Rows.{Around}

-- the declaration of the item of an id alone
abbrev pub own_from : Unfolding → List (List ℕ) → ℕ → List (ℕ × Declaration)
own_from u path i = of_id u [] (λ n. with_id i (declaration_of path n (node_declares n))) i

-- as what is collected of it
abbrev pub own_defined : Unfolding → List (List ℕ) → ℕ → List (ℕ × DeclarationView)
own_defined u path i = map with_definition (own_from u path i)

-- that of an item in what it stands in
abbrev pub own_in : Unfolding → ℕ × Around → List (ℕ × DeclarationView)
own_in u s = own_defined u s.1.scope s.0

-- a word of an item that is lent, by that word of an item without children and of one with them
abbrev pub lent_by : {A : Type 0} → (Leaf ℕ → A) → (Trunk ℕ → A) → Lent → A
lent_by of_leaf of_trunk (lent_leaf a l) = of_leaf l
lent_by of_leaf of_trunk (lent_parent a t is) = of_trunk t

-- the same words of an item that is lent
abbrev pub lent_name : Lent → Option (List ℕ)
lent_name = lent_by leaf_name trunk_name

abbrev pub lent_declares : Lent → Option Declared
lent_declares = lent_by leaf_declares (λ t. option_map declared_name (trunk_name t))

abbrev pub lent_visibility : Lent → Option ℕ
lent_visibility = lent_by (λ l. slice_get (leaf_vis l) 0) (λ t. slice_get (trunk_vis t) 0)
