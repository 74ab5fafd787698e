-- Imports that repeat an earlier one of their module, under cfgs that may be true together.
use Rattle.std.specs.Prelude.{Bool, true, false, not, ◌&&◌, if◌then◌else◌, List, [], ◌∷◌, ◌++◌, ℕ, codes, decimal, map, Option, Some, None, find, flat_map, bytes_eq}
use Rattle.hir_input.specs.declared.ids.FileAstId.{FileAstId}
use Rattle.item_tree.specs.Imports.{Import, imports}
use Rattle.item_tree.specs.Node.{Leaf, use_item, Node, leaf, parent, Forest, empty, more, node_ast}
use Rattle.line_index.specs.declared.Position.{Position}
use Rattle.source_rows.specs.declared.finder.Spot.{Spot}
use Rattle.source_listing.specs.ImportTexts.{import_text}
use Rattle.source_rows.specs.Places.{is_id, item_place}
use Rattle.list_forms.specs.Colors.{bold_code, colored_text, faint_code}
use Rattle.source_imports.specs.ImportCfgs.{ImportChoice, cfgs_at, is_use_listed}
use Rattle.source_imports.specs.ImportExclusion.{exclude_each_other}
use Rattle.source_listing.specs.Uses.{FilePlaces, import_spot}

-- an import: the item that its use stands in, the use, its place, and how a use of it alone would be written
pub record Named : Type 0 where
  pub around : Option FileAstId
  pub at : FileAstId
  pub spot : Option Spot
  pub text : List ℕ

-- an import of a use in the item around it, by where the use trees of that stand
abbrev pub named_import : List (List ℕ) → Option FileAstId → FileAstId → (ℕ → Option Spot) → Import → Named
named_import reserved around at spots x = record { around = around; at = at; spot = spots x.index; text = import_text reserved x.kind x.path x.alias }

module _ (text : List ℕ) (places : FilePlaces) (reserved : List (List ℕ)) (c : ImportChoice) where
  -- the listed imports of an item itself, of which a use alone has any
  abbrev pub leaf_named : {V : Type 0} → Option FileAstId → FileAstId → Leaf V → List Named
  leaf_named around at (use_item v t) = if is_use_listed c at then map (named_import reserved around at (import_spot text places at)) (imports t) else []
  leaf_named around at _ = []

  -- the imports of a node and of those in it, and of a forest, in the order in which they are written
  abbrev mutual
    pub node_named : Option FileAstId → Node → List Named
    node_named around (leaf h l) = leaf_named around (node_ast (leaf h l)) l
    node_named around (parent h t f) = forest_named (Some (node_ast (parent h t f))) f

    pub forest_named : Option FileAstId → Forest → List Named
    forest_named around empty = []
    forest_named around (more n f) = node_named around n ++ forest_named around f

-- the items around two are one, or both stand at the top
abbrev pub is_one_around : Option FileAstId → Option FileAstId → Bool
is_one_around None None = true
is_one_around None (Some b) = false
is_one_around (Some a) None = false
is_one_around (Some a) (Some b) = is_id a b

-- the cfgs of two imports are seen never to be true together
abbrev pub are_excluded : ImportChoice → Named → Named → Bool
are_excluded c x y = exclude_each_other (cfgs_at c x.at) (cfgs_at c y.at)

-- in one module, written alike, and not excluded
abbrev pub is_alike : ImportChoice → Named → Named → Bool
is_alike c x y = (is_one_around x.around y.around && bytes_eq x.text y.text) && not (are_excluded c x y)

-- the first that is alike
abbrev pub first_alike : ImportChoice → Named → List Named → Option Named
first_alike c x ys = find (is_alike c x) ys

-- an import that repeats an earlier one: its place, how a use of it alone would be written, and where the first that is alike stands
pub record Repeat : Type 0 where
  pub spot : Option Spot
  pub text : List ℕ
  pub first : Option Spot

-- an import, if there is one that is alike
abbrev pub repeat_if_any : Named → Option Named → List Repeat
repeat_if_any x None = []
repeat_if_any x (Some first) = record { spot = x.spot; text = x.text; first = first.spot } ∷ []

-- those among these that repeat one of them, or one of those before
abbrev pub repeats : ImportChoice → List Named → List Named → List Repeat
repeats c before [] = []
repeats c before (x ∷ xs) = repeat_if_any x (first_alike c x before) ++ repeats c (before ++ x ∷ []) xs

-- the listed imports of a text that repeat an earlier one of their module, in the order in which they are written
abbrev pub repeated_imports : List ℕ → List (List ℕ) → ImportChoice → FilePlaces → Forest → List Repeat
repeated_imports text reserved c places f = repeats c [] (forest_named text places reserved c None f)

abbrev pub position_text : List ℕ → Position → List ℕ
position_text path p = path ++ codes ":" ++ decimal p.line ++ codes ":" ++ decimal p.column

abbrev pub spot_text : List ℕ → Option Spot → List ℕ
spot_text path None = path
spot_text path (Some spot) = position_text path spot.position

-- the place of an import, the import, and the place of the first that is alike
abbrev pub repeat_line : Bool → List ℕ → Repeat → List ℕ
repeat_line is_colored path r =
    colored_text is_colored faint_code (item_place path r.spot) ++ colored_text is_colored bold_code r.text ++ codes " (again, first at " ++ spot_text path r.first ++ codes ")\n"

-- a line for each
abbrev pub repeat_lines : Bool → List ℕ → List Repeat → List ℕ
repeat_lines is_colored path rs = flat_map (repeat_line is_colored path) rs
