-- For the crate's own functions.
use Rattle.std.specs.Prelude.{◌≡◌, ◌==◌, ◌&&◌, if◌then◌else◌, ℕ, Bool, true, false, List, [], Option, Some, None, option_map, string_bytes, find, bytes_eq}
use Rattle.std.specs.Borrow.{Bor}
use Rattle.std.specs.HashMap.{get, HashMap}
use Rattle.std.specs.Option.{option_or}
use Rattle.std.specs.declared.hash.BuildHasherDefault.{BuildHasherDefault}
use Rattle.std.specs.declared.hash.FoldHasher.{FoldHasher}
use Rattle.hir_input.specs.declared.ids.FileAstId.{FileAstId}
use Rattle.item_tree.specs.Node.{Node, leaf, parent, node_ast, Unfolding}
use Rattle.item_tree.specs.Shown.{Lent, lent_leaf, lent_parent}
use Rattle.item_tree.specs.Walk.{of_id}
use Rattle.rust_ids.specs.Ids.{kind_place}
use Rattle.source_imports.specs.declared.repeated.Named as code_named
use Rattle.source_imports.specs.declared.repeated.Key as code_key
use Rattle.source_imports.specs.contracts.repeated.KeyPartialEq.TheImpl as keys
use Rattle.source_imports.specs.Repeated.{Named, are_excluded, first_alike, leaf_named, node_named}
use Rattle.source_imports.specs.ImportCfgs.{ImportChoice}
use Rattle.source_listing.specs.Uses.{FilePlaces}

-- ---- imports by the ids of items

abbrev pub listed_named_view : code_named.Named → Named
listed_named_view x = record { around = x.around; at = x.at; spot = x.spot; text = string_bytes x.text }

module _ (text : List ℕ) (places : FilePlaces) (reserved : List (List ℕ)) (c : ImportChoice) where
  -- those of a node itself
  abbrev pub own_named : Option FileAstId → Node → List Named
  own_named around (leaf h l) = leaf_named text places reserved c around (node_ast (leaf h l)) l
  own_named around (parent h t f) = []

  -- those of what is lent
  abbrev pub lent_named : Option FileAstId → FileAstId → Lent → List Named
  lent_named around at (lent_leaf a l) = leaf_named text places reserved c around at l
  lent_named around at (lent_parent a t is) = []

  -- those of the item of an id itself, and of all that stand in it
  abbrev pub own_named_at : Unfolding → Option FileAstId → ℕ → List Named
  own_named_at u around i = of_id u [] (own_named around) i

  abbrev pub named_at : Unfolding → Option FileAstId → ℕ → List Named
  named_at u around i = of_id u [] (node_named text places reserved c around) i

-- ---- the first imports that are alike, by what they have in common

pub record NamedKey : Type 0 where
  pub around : Option (ℕ × ℕ × ℕ)
  pub text : List ℕ

abbrev pub named_key_view : code_key.Key → NamedKey
named_key_view k = record { around = k.around; text = k.text.now }

abbrev pub id_key : FileAstId → ℕ × ℕ × ℕ
id_key id = (kind_place id.kind, id.hash, id.number)

abbrev pub key : Named → NamedKey
key x = record { around = option_map id_key x.around; text = x.text }

abbrev pub is_around : Option (ℕ × ℕ × ℕ) → Option FileAstId → Bool
is_around None None = true
is_around (Some a) (Some id) = a.0 == kind_place id.kind && (a.1 == id.hash && a.2 == id.number)
is_around _ _ = false

abbrev pub has_named_key : NamedKey → Named → Bool
has_named_key k x = is_around k.around x.around && bytes_eq k.text x.text

abbrev pub same_named_key : code_key.Key → code_key.Key → Bool
same_named_key = keys.ghosts.eq

abbrev pub Firsts : Type 0
Firsts = HashMap code_key.Key (Bor code_named.Named) (BuildHasherDefault FoldHasher)

abbrev pub first_in : Firsts → code_key.Key → Option Named
first_in table k = option_map (λ n. listed_named_view n.now) (get same_named_key table k)

-- what is alike, by the first of its key and those before: where that is excluded, the first of those before that is alike
abbrev pub alike_by : ImportChoice → Named → Option Named → List Named → Option Named
alike_by c x None before = None
alike_by c x (Some first) before = if are_excluded c x first then first_alike c x before else Some first

-- this import is put in, unless one of its key is there
abbrev pub PutsFirst : Firsts → Firsts → code_key.Key → Named → Type 0
PutsFirst old new k x = (q : code_key.Key) → first_in new q ≡ (if same_named_key k q then option_or (first_in old q) (Some x) else first_in old q)

-- the table finds the first of each key among these imports
abbrev pub FindsFirsts : Firsts → List Named → Type 0
FindsFirsts table xs = (q : code_key.Key) → first_in table q ≡ find (has_named_key (named_key_view q)) xs
