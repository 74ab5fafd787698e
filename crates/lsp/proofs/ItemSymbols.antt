-- Symbols by the ids of items.
use Rattle.std.proofs.Common.{◌≡◌, ℕ, Bool, List, [], ◌∷◌, ◌++◌, Option, Some, None, refl, ap, sym, ◌∙◌, flat_map}
use Rattle.serde_json.specs.Data.{Data}
use Rattle.item_tree.specs.Layout.{node_at}
use Rattle.item_tree.specs.Node.{Forest, Node, Unfolding, empty, leaf, more, nodes, parent}
use Rattle.item_tree.specs.Shown.{StandFor}
use Rattle.item_tree.specs.Walk.{children, children_at}
use Rattle.item_tree.proofs.Walking.{flat_map_of_id}
use Rattle.rust_items.specs.declared.source_file.ItemPlace.{ItemPlace}
use Rattle.source_rows.specs.Places.{place_of}
use Rattle.tree_walk.specs.Rows.{is_file_enabled}
use Rattle.std.specs.Option.{option_map_or}
use Rattle.lsp.specs.Bytes.{range_span}
use Rattle.lsp.specs.Inner.{symbols_at}
use Rattle.source_listing.specs.Entries.{ItemView, item_at, item_in}
use Rattle.lsp.specs.Symbols.{Page, Symbol, symbol_called, forest_symbols, information, item_symbol, member_symbols, node_symbols, own_symbols, placed_symbols, protocol_kind, with_symbol, told_in, tree_symbols}

-- a symbol that stands alone, in front of others
pub told_alone : (p : Page) (c : Option (List ℕ)) (s : Symbol) (inner : List Data) (uri : List ℕ) (d : Data) → p.flat_in ≡ Some uri → d ≡ information uri c (range_span p.units p.text s.range) s → d ∷ inner ≡ with_symbol p c s inner
told_alone p c s inner uri d is e = ap (λ d. d ∷ inner) e ∙ sym (ap (λ o. told_in o p c s inner) is)

module _ (p : Page) (places : List ItemPlace) where
  forest_is : (c : Option (List ℕ)) (a : Bool) (f : Forest) → flat_map (node_symbols p places c a) (nodes f) ≡ forest_symbols p places c a f
  forest_is c a empty = refl
  forest_is c a (more n f) = ap (λ ds. node_symbols p places c a n ++ ds) (forest_is c a f)

  -- the symbols of ids that stand for a forest
  ids_symbols : (u : Unfolding) (c : Option (List ℕ)) (a : Bool) (is : List ℕ) (f : Forest) → StandFor u is f → flat_map (symbols_at p places u c a) is ≡ forest_symbols p places c a f
  ids_symbols u c a is f e = flat_map_of_id u (node_symbols p places c a) is (nodes f) e ∙ forest_is c a f

  -- those of what stands in an item
  abbrev inside : ItemView → Forest → List Data
  inside y f = forest_symbols p places (Some (symbol_called p places y)) y.is_active f

  node_is : (c : Option (List ℕ)) (a : Bool) (n : Node) → node_symbols p places c a n ≡ own_symbols p places c (item_in a n) (inside (item_in a n) (children n))
  node_is c a (leaf h l) = refl
  node_is c a (parent h t f) = refl

  one_is : (c : Option (List ℕ)) (a : Bool) (o : Option Node) (y : ItemView) → y ∷ [] ≡ option_map_or (λ n. item_in a n ∷ []) o [] → option_map_or (node_symbols p places c a) o [] ≡ own_symbols p places c y (inside y (option_map_or children o empty))
  one_is c a None y e = absurd (cc)
  one_is c a (Some n) y e = let e : item_in a n ≡ y = cc in node_is c a n ∙ ap (λ y. own_symbols p places c y (inside y (children n))) e

  item_is : (u : Unfolding) (c : Option (List ℕ)) (a : Bool) (i : ℕ) (y : ItemView) → y ∷ [] ≡ item_at u a i → symbols_at p places u c a i ≡ own_symbols p places c y (inside y (children_at u i))
  item_is u c a i y e = one_is c a (node_at u.forest i) y e

  unplaced : (c : Option (List ℕ)) (y : ItemView) (k : Option ℕ) (ds : List Data) → placed_symbols p places c y k None ds ≡ []
  unplaced c y None ds = refl
  unplaced c y (Some number) ds = refl

  -- nothing is told of what is no symbol, nor of what has no place
  pub none_of_kind : (u : Unfolding) (c : Option (List ℕ)) (a : Bool) (i : ℕ) (y : ItemView) → y ∷ [] ≡ item_at u a i → protocol_kind y.id.kind ≡ None → symbols_at p places u c a i ≡ []
  none_of_kind u c a i y e k = item_is u c a i y e ∙ ap (λ o. placed_symbols p places c y o (place_of y.id places) (inside y (children_at u i))) k

  pub none_of_place : (u : Unfolding) (c : Option (List ℕ)) (a : Bool) (i : ℕ) (y : ItemView) → y ∷ [] ≡ item_at u a i → place_of y.id places ≡ None → symbols_at p places u c a i ≡ []
  none_of_place u c a i y e o = item_is u c a i y e ∙ ap (λ o. placed_symbols p places c y (protocol_kind y.id.kind) o (inside y (children_at u i))) o ∙ unplaced c y (protocol_kind y.id.kind) (inside y (children_at u i))

  -- what is told of a symbol
  pub item_symbols : (u : Unfolding) (c : Option (List ℕ)) (a : Bool) (i number : ℕ) (is : List ℕ) (y : ItemView) (place : ItemPlace) (s : Symbol) → y ∷ [] ≡ item_at u a i → StandFor u is (children_at u i)
      → protocol_kind y.id.kind ≡ Some number → place_of y.id places ≡ Some place → s ≡ item_symbol p.reading p.reserved y number place
      → symbols_at p places u c a i ≡ with_symbol p c s (member_symbols p s.name y.is_active place ++ flat_map (symbols_at p places u (Some s.name) y.is_active) is)
  item_symbols u c a i number is y place s e f k o t =
      item_is u c a i y e
      ∙ ap (λ ds. own_symbols p places c y ds) (sym (ids_symbols u (Some (symbol_called p places y)) y.is_active is (children_at u i) f))
      ∙ rw (k, o, t) refl

  -- those of all ids
  pub all_symbols : (u : Unfolding) (a : Bool) (is : List ℕ) → StandFor u is u.forest → a ≡ is_file_enabled u → flat_map (symbols_at p places u None a) is ≡ tree_symbols p places u
  all_symbols u a is f t = ids_symbols u None a is u.forest f ∙ ap (λ b. forest_symbols p places None b u.forest) t
