-- The cfgs under which uses stand, and which imports are listed by these.
use Rattle.std.specs.Prelude.{Bool, true, if◌then◌else◌, List, [], ◌∷◌, ◌++◌, flat_map, Option, Some, None}
use Rattle.hir_input.specs.declared.ids.AstIdKind.TheVariants as kind
use Rattle.hir_input.specs.declared.ids.FileAstId.{FileAstId}
use Rattle.hir_input.specs.Cfg.{AtomView, CfgView}
use Rattle.source_rows.specs.Places.{is_id}
use Rattle.source_listing.specs.MetaCfgs.{holds_no_false, meta_cfgs}
use Rattle.hir_input.specs.Syntax.{ItemView, ItemViews, listed_module, use_item, no_items, item_and, NodeView, SyntaxView, source_file}

-- a use by its id, and the cfgs under which it stands, of which there are some
pub record UseCfgs : Type 0 where
  pub id : FileAstId
  pub cfgs : List CfgView

-- a use, if it stands under cfgs
abbrev pub use_under : NodeView → List CfgView → List UseCfgs
use_under n [] = []
use_under n (c ∷ cs) = record { id = record { kind = kind.Use; hash = n.hash; number = n.number }; cfgs = c ∷ cs } ∷ []

-- the uses of an item that stand under cfgs, and of items, in the order of the text: those around come first, and then their own
abbrev mutual
  pub item_cfgs : List CfgView → ItemView → List UseCfgs
  item_cfgs around (use_item u) = use_under u.node (around ++ flat_map meta_cfgs u.node.attrs)
  item_cfgs around (listed_module m semicolon is) = items_cfgs (around ++ flat_map meta_cfgs m.node.attrs) is
  item_cfgs around _ = []

  pub items_cfgs : List CfgView → ItemViews → List UseCfgs
  items_cfgs around no_items = []
  items_cfgs around (item_and i is) = item_cfgs around i ++ items_cfgs around is

-- the uses of a file that stand under cfgs, in the order of the text
abbrev pub file_cfgs : SyntaxView → List UseCfgs
file_cfgs (source_file attrs is) = items_cfgs (flat_map meta_cfgs attrs) is
file_cfgs _ = []

-- ---- which imports are listed

-- the uses of a file that stand under cfgs; where cfgs are given, what these disable is not listed
pub record ImportChoice : Type 0 where
  pub uses : List UseCfgs
  pub active_under : Option (List AtomView)

-- the cfgs of the use of an id
abbrev pub cfgs_in : List UseCfgs → FileAstId → List CfgView
cfgs_in [] id = []
cfgs_in (u ∷ us) id = if is_id id u.id then u.cfgs else cfgs_in us id

abbrev pub cfgs_at : ImportChoice → FileAstId → List CfgView
cfgs_at c id = cfgs_in c.uses id

-- an import under these cfgs is listed
abbrev pub is_import_listed : Option (List AtomView) → List CfgView → Bool
is_import_listed None cfgs = true
is_import_listed (Some options) cfgs = holds_no_false options cfgs

-- the use of an id lists its imports
abbrev pub is_use_listed : ImportChoice → FileAstId → Bool
is_use_listed c id = is_import_listed c.active_under (cfgs_at c id)
