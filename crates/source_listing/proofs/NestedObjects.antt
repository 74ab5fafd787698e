-- Objects by the ids of items.
use Rattle.source_listing.proofs.Common.{Units, ◌≡◌, ℕ, ◌+◌, Bool, true, List, [], ◌∷◌, ◌++◌, Option, Some, None, refl, ap, sym, ◌∙◌, flat_map, option_map, option_map_or, items_of, Node, leaf, parent, Forest, empty, more, nodes, Unfolding, StandFor, is_file_enabled, children, children_at, ItemPlace, MemberReading, header_of, members_of, Choice, Source, is_chosen, place_of, spot_in, ItemView, item_in, item_entry, member_objects, entry_object, whole_object, own_objects, node_objects, listed_objects, tree_objects, Spot, Edition, Printer, node_at, flat_map_of_id, IsPrinterOf, file_of, item_at, objects_at, places_of, reserved_of, FilePlaces}
use Rattle.serde_json.specs.Data.{Data}
use Rattle.source_listing.proofs.Printers.{file_is, places_are}

module _ (units : Units) (s : Source) (x : MemberReading) (reserved : List (List ℕ)) (places : List ItemPlace) (c : Choice) where
  forest_is : (level : ℕ) (a : Bool) (f : Forest) → flat_map (node_objects units s x reserved places c level a) (nodes f) ≡ listed_objects units s x reserved places c level a f
  forest_is level a empty = refl
  forest_is level a (more n f) = ap (λ ds. node_objects units s x reserved places c level a n ++ ds) (forest_is level a f)

  -- the objects of ids that stand for a forest
  pub ids_objects : (u : Unfolding) (level : ℕ) (a : Bool) (is : List ℕ) (f : Forest) → StandFor u is f
      → flat_map (objects_at units s x reserved places c u level a) is ≡ listed_objects units s x reserved places c level a f
  ids_objects u level a is f e = flat_map_of_id u (node_objects units s x reserved places c level a) is (nodes f) e ∙ forest_is level a f

  node_is : (level : ℕ) (a : Bool) (n : Node)
      → node_objects units s x reserved places c level a n ≡ own_objects units s x reserved places c level (item_in a n) (listed_objects units s x reserved places c (level + 1) (item_in a n).is_active (children n))
  node_is level a (leaf h l) = refl
  node_is level a (parent h t f) = refl

  one_objects : (u : Unfolding) (level : ℕ) (a : Bool) (is : List ℕ) (o : Option Node) (y : ItemView) → y ∷ [] ≡ option_map_or (λ n. item_in a n ∷ []) o [] → StandFor u is (option_map_or children o empty)
      → option_map_or (node_objects units s x reserved places c level a) o [] ≡ own_objects units s x reserved places c level y (flat_map (objects_at units s x reserved places c u (level + 1) y.is_active) is)
  one_objects u level a is None y e f = absurd (cc)
  one_objects u level a is (Some n) y e f =
      let e : item_in a n ≡ y = cc in
      node_is level a n ∙ ap (λ y. own_objects units s x reserved places c level y (listed_objects units s x reserved places c (level + 1) y.is_active (children n))) e
      ∙ ap (own_objects units s x reserved places c level y) (sym (ids_objects u (level + 1) y.is_active is (children n) f))

  -- the object of an item is around those of its children
  pub item_objects : (u : Unfolding) (level : ℕ) (a : Bool) (i : ℕ) (is : List ℕ) (y : ItemView) → y ∷ [] ≡ item_at u a i → StandFor u is (children_at u i)
      → objects_at units s x reserved places c u level a i ≡ own_objects units s x reserved places c level y (flat_map (objects_at units s x reserved places c u (level + 1) y.is_active) is)
  item_objects u level a i is y e f = one_objects u level a is (node_at u.forest i) y e f

  own_chosen : (level : ℕ) (y : ItemView) (ds : List Data) → is_chosen c level y.is_active ≡ true
      → own_objects units s x reserved places c level y ds ≡ whole_object units s x reserved places c level y (place_of y.id places) ds ∷ []
  own_chosen level y ds e = rw e refl

  -- the object of an item that is chosen, pushed behind others
  pub object_adds : (u : Unfolding) (level : ℕ) (a : Bool) (i : ℕ) (is : List ℕ) (y : ItemView) (d : Data) (before after : List Data)
      → y ∷ [] ≡ item_at u a i → StandFor u is (children_at u i) → is_chosen c level y.is_active ≡ true
      → d ≡ whole_object units s x reserved places c level y (place_of y.id places) (flat_map (objects_at units s x reserved places c u (level + 1) y.is_active) is)
      → after ≡ before ++ d ∷ [] → after ≡ before ++ objects_at units s x reserved places c u level a i
  object_adds u level a i is y d before after e f t h p =
      p ∙ ap (λ d. before ++ d ∷ []) h
      ∙ ap (λ xs. before ++ xs) (sym (own_chosen level y (flat_map (objects_at units s x reserved places c u (level + 1) y.is_active) is) t) ∙ sym (item_objects u level a i is y e f))

  -- what is made of an item that stands there is its object
  pub object_is : (u : Unfolding) (level : ℕ) (is : List ℕ) (y : ItemView) (place : Option ItemPlace) (spot : Option Spot) (members inner : List Data) (d : Data)
      → place ≡ place_of y.id places → spot ≡ option_map (spot_in units s.text) place → members ≡ member_objects units s.text reserved c level (members_of x place y.is_active)
      → inner ≡ members ++ flat_map (objects_at units s x reserved places c u (level + 1) y.is_active) is
      → d ≡ entry_object reserved (item_entry (header_of x y.id.kind place) spot y) (items_of inner)
      → d ≡ whole_object units s x reserved places c level y (place_of y.id places) (flat_map (objects_at units s x reserved places c u (level + 1) y.is_active) is)
  object_is u level is y place spot members inner d e f g h k = rw (k, h, g, f, e) refl

-- ---- under printers

-- of all ids by a printer that is made for a file
pub objects_are : (units : Units) (s : Source) (places : FilePlaces) (edition : Edition) (p : Printer) (x : MemberReading) (c : Choice) (u : Unfolding) (a : Bool) (is : List ℕ) (none ds : List Data) → IsPrinterOf s places edition p
    → StandFor u is u.forest → a ≡ is_file_enabled u → none ≡ [] → ds ≡ none ++ flat_map (objects_at units (file_of p) x (reserved_of p) (places_of p).items c u 0 a) is → ds ≡ tree_objects units s x edition.reserved.items places.items c u
objects_are units s places edition p x c u a is none ds h f t g e =
    e ∙ ap (λ xs. xs ++ flat_map (objects_at units (file_of p) x (reserved_of p) (places_of p).items c u 0 a) is) g
    ∙ ids_objects units (file_of p) x (reserved_of p) (places_of p).items c u 0 a is u.forest f
    ∙ ap (λ b. listed_objects units (file_of p) x (reserved_of p) (places_of p).items c 0 b u.forest) t
    ∙ ap (λ file. tree_objects units file x (reserved_of p) (places_of p).items c u) (file_is s places edition p h)
    ∙ ap (λ (z : Edition). tree_objects units s x z.reserved.items (places_of p).items c u) h.1
    ∙ ap (λ (ps : FilePlaces). tree_objects units s x edition.reserved.items ps.items c u) (places_are s places edition p h)
