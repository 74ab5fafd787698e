-- The rows of a text's tree depend on no attributes but conditions.
use Rattle.std.proofs.Common.{◌≡◌, ℕ, Bool, true, false, ◌&&◌, not, List, [], ◌∷◌, ◌++◌, Option, Some, None, is_some, refl, ap, ◌∙◌, sym, subst, option_map, flat_map}
use Rattle.std.specs.List.{filter_map}
use Rattle.std.specs.Option.{option_and_then}
use Rattle.std.proofs.lemmas.List.Elements.{filter_map-append}
use Rattle.hir_input.specs.declared.ast.PathNode.{PathNode}
use Rattle.hir_input.specs.declared.attr.AttrInput.{AttrInput}
use Rattle.hir_input.specs.declared.ids.SyntaxContext.{SyntaxContext}
use Rattle.itemtree_commands.proofs.Common.{EditionYear, NodeView, ItemView, ItemViews, plain_item, const_item, struct_item, bare_module, listed_module, use_item, extern_crate, bare_extern_block, listed_extern_block, impl_item, macro_call, macro_rules, asm_item, no_items, item_and, SyntaxView, source_file, CrateData, crate_view, shape_of, readable_path, module_node, head_of, kept, kept_all, kept_in}
use Rattle.hir_input.specs.Attr.{MetaView, path_meta, key_value_meta, token_tree_meta, cfg_meta, cfg_attr_meta, unsafe_meta}
use Rattle.hir_input.specs.Cfg.{AtomView, CfgView}
use Rattle.either.specs.Either.{right}
use Rattle.item_tree_attrs.specs.Collected.{Event, is_skipped, attr_events, events, first, collected_from}
use Rattle.item_tree.specs.declared.visibility.RawVisibility.{RawVisibility}
use Rattle.item_tree.specs.Constructor.{ctor_of}
use Rattle.item_tree.specs.KeptUse.{alias_of, kept_tree}
use Rattle.item_tree.specs.Node.{Leaf, Trunk, Node, Forest, leaf, parent, add, empty}
use Rattle.item_tree.specs.Node as node
use Rattle.item_tree.specs.Visibility.{read_visibility}
use Rattle.tree_walk.specs.Rows.{Around, RowView, row, around_inside, node_rows, forest_rows, rows}
use Rattle.rust_metas.specs.declared.wanted.WantedMetas.TheVariants.{Conditions}
use Rattle.rust_metas.specs.Docs.{is_condition_meta, kept_metas}
use Rattle.rust_leaves.specs.Clipped.{clipped_node, clipped_item, clipped_list}
use Rattle.rust_items.specs.SourceFiles.{FileView, clipped_syntax}
use Rattle.source_rows.specs.ListedFiles.{closers_in}
use Rattle.source_listing.specs.Uses.{FilePlaces, file_places}
use Rattle.itemtree_commands.specs.Answers.{all_places}
use Rattle.itemtree_commands.specs.declared.listed.ListedTree.{ListedTree}
use Rattle.itemtree_commands.specs.Inner.{HasListedRows, IsClippedTree, row_wanted}
use Rattle.itemtree_commands.specs.Trees.{IsListedTree}

-- ---- attributes

-- the false cfgs of events
abbrev falses : List Event → List CfgView
falses es = filter_map right es

-- an attribute is none
attr_none : (skipped : List (List ℕ)) (path : Option PathNode) (input : Option AttrInput) (ctxt : SyntaxContext) → falses (attr_events skipped path input ctxt) ≡ []
attr_none skipped path input ctxt = by (is_skipped skipped path) refl
  where
    by : (b : Bool) → is_skipped skipped path ≡ b → falses (attr_events skipped path input ctxt) ≡ []
    by true e = rw e refl
    by false e = rw e refl

module _ (options : List AtomView) (skipped : List (List ℕ)) where
  -- a meta that is no condition gives none
  none_of : (m : MetaView) → is_condition_meta m ≡ false → falses (events options skipped m) ≡ []
  none_of (path_meta path ctxt) e = attr_none skipped path _ ctxt
  none_of (key_value_meta path value ctxt) e = attr_none skipped path _ ctxt
  none_of (token_tree_meta path tokens ctxt) e = attr_none skipped path _ ctxt
  none_of (cfg_meta condition) e = absurd cc
  none_of (cfg_attr_meta condition metas) e = absurd cc
  none_of (unsafe_meta inner) e = absurd cc

  -- one more meta in front
  before : (m : MetaView) (ms : List MetaView) (b : Bool) → is_condition_meta m ≡ b → falses (flat_map (events options skipped) (kept_metas Conditions ms)) ≡ falses (flat_map (events options skipped) ms)
      → falses (flat_map (events options skipped) (kept_metas Conditions (m ∷ ms))) ≡ falses (flat_map (events options skipped) (m ∷ ms))
  unfolding kept_metas
  before m ms true e rest =
      rw e (filter_map-append right (events options skipped m) (flat_map (events options skipped) (kept_metas Conditions ms)) ∙ ap (λ fs. falses (events options skipped m) ++ fs) rest
      ∙ sym (filter_map-append right (events options skipped m) (flat_map (events options skipped) ms)))
  before m ms false e rest =
      rw e (rest ∙ ap (λ fs. fs ++ falses (flat_map (events options skipped) ms)) (sym (none_of m e)) ∙ sym (filter_map-append right (events options skipped m) (flat_map (events options skipped) ms)))

  same_falses : (ms : List MetaView) → falses (flat_map (events options skipped) (kept_metas Conditions ms)) ≡ falses (flat_map (events options skipped) ms)
  unfolding kept_metas
  same_falses [] = refl
  same_falses (m ∷ ms) = before m ms (is_condition_meta m) refl (same_falses ms)

  same_false : (ms : List MetaView) → (collected_from options skipped (kept_metas Conditions ms)).false_cfg ≡ (collected_from options skipped ms).false_cfg
  same_false ms = ap first (same_falses ms)

  -- ---- rows

  -- what an item's node is told by, but for its attributes
  leaf_row : (a : Around) (n : NodeView) (l : Leaf RawVisibility) → row a (leaf (head_of options skipped (clipped_node row_wanted n)) l) ≡ row a (leaf (head_of options skipped n) l)
  leaf_row a n l = ap (λ c. record (row a (leaf (head_of options skipped n) l)) { is_active = a.is_active && not (is_some c) }) (same_false n.attrs)

  parent_row : (a : Around) (n : NodeView) (t : Trunk RawVisibility) (f g : Forest) → row a (parent (head_of options skipped (clipped_node row_wanted n)) t f) ≡ row a (parent (head_of options skipped n) t g)
  parent_row a n t f g = ap (λ c. record (row a (parent (head_of options skipped n) t g)) { is_active = a.is_active && not (is_some c) }) (same_false n.attrs)

  leaf_rows : (a : Around) (n : NodeView) (l : Leaf RawVisibility) → node_rows a (leaf (head_of options skipped (clipped_node row_wanted n)) l) ≡ node_rows a (leaf (head_of options skipped n) l)
  leaf_rows a n l = ap (λ r. r ∷ []) (leaf_row a n l)

  parent_rows : (a : Around) (n : NodeView) (t : Trunk RawVisibility) (f g : Forest) → ((b : Around) → forest_rows b f ≡ forest_rows b g)
      → node_rows a (parent (head_of options skipped (clipped_node row_wanted n)) t f) ≡ node_rows a (parent (head_of options skipped n) t g)
  parent_rows a n t f g h = λ j. parent_row a n t f g j ∷ h (around_inside (parent_row a n t f g j)) j

  -- the rows of an item that may be kept
  abbrev kept_rows : Around → Option Node → List RowView
  kept_rows a None = []
  kept_rows a (Some n) = node_rows a n

  added_rows : (a : Around) (n : Option Node) (f : Forest) → forest_rows a (add n f) ≡ kept_rows a n ++ forest_rows a f
  added_rows a None f = refl
  added_rows a (Some n) f = refl

  leaf_if_some : {B : Type 0} (a : Around) (n : NodeView) (x : Option B) (item : B → Leaf RawVisibility)
      → kept_rows a (option_map (λ y. leaf (head_of options skipped (clipped_node row_wanted n)) (item y)) x) ≡ kept_rows a (option_map (λ y. leaf (head_of options skipped n) (item y)) x)
  leaf_if_some a n None item = refl
  leaf_if_some a n (Some y) item = leaf_rows a n (item y)

  module_rows : (a : Around) (n : NodeView) (semicolon : Bool) (v : RawVisibility) (f g : Forest) (name : Option (List ℕ)) → ((b : Around) → forest_rows b f ≡ forest_rows b g)
      → kept_rows a (option_map (λ s. module_node semicolon (head_of options skipped (clipped_node row_wanted n)) s v f) name) ≡ kept_rows a (option_map (λ s. module_node semicolon (head_of options skipped n) s v g) name)
  module_rows a n semicolon v f g None h = refl
  module_rows a n true v f g (Some s) h = leaf_rows a n (node.outline s v)
  module_rows a n false v f g (Some s) h = parent_rows a n (node.inline s v) f g h

  mutual
    item_rows : (i : ItemView) (a : Around) → kept_rows a (kept options skipped (clipped_item row_wanted i)) ≡ kept_rows a (kept options skipped i)
    item_rows (plain_item k n) a = leaf_if_some a n.node n.name (λ s. node.plain k s (read_visibility n.visibility))
    item_rows (const_item n) a = leaf_rows a n.node (node.constant n.name (read_visibility n.visibility))
    item_rows (struct_item n fields) a = leaf_if_some a n.node n.name (λ s. node.struct_item s (read_visibility n.visibility) (shape_of fields) (ctor_of fields (read_visibility n.visibility)))
    item_rows (bare_module n semicolon) a = module_rows a n.node semicolon (read_visibility n.visibility) empty empty n.name (λ b. refl)
    item_rows (listed_module n semicolon is) a = module_rows a n.node semicolon (read_visibility n.visibility) (kept_all options skipped (clipped_list row_wanted is)) (kept_all options skipped is) n.name (list_rows is)
    item_rows (use_item u) a = leaf_if_some a u.node (option_and_then kept_tree u.use_tree) (node.use_item (read_visibility u.visibility))
    item_rows (extern_crate n rename) a = leaf_if_some a n.node n.name (λ s. node.extern_crate s (read_visibility n.visibility) (alias_of rename))
    item_rows (bare_extern_block n) a = parent_rows a n node.extern_block empty empty (λ b. refl)
    item_rows (listed_extern_block n is) a = parent_rows a n node.extern_block (kept_all options skipped (clipped_list row_wanted is)) (kept_all options skipped is) (list_rows is)
    item_rows (impl_item n of_trait) a = leaf_rows a n (node.impl_item of_trait)
    item_rows (macro_call c) a = leaf_if_some a c.node (option_and_then readable_path c.path) (λ p. node.macro_call p c.expand_to c.ctxt)
    item_rows (macro_rules n name) a = leaf_if_some a n name (λ s. node.macro_rules s)
    item_rows (asm_item n) a = refl

    list_rows : (is : ItemViews) (a : Around) → forest_rows a (kept_all options skipped (clipped_list row_wanted is)) ≡ forest_rows a (kept_all options skipped is)
    list_rows no_items a = refl
    list_rows (item_and i is) a =
        added_rows a (kept options skipped (clipped_item row_wanted i)) (kept_all options skipped (clipped_list row_wanted is)) ∙ (λ j. item_rows i a j ++ list_rows is a j)
        ∙ sym (added_rows a (kept options skipped i) (kept_all options skipped is))

-- ---- trees

-- of a file: other syntaxes are not read of a text
same_rows : (krate : CrateData) (skipped : List (List ℕ)) (s : SyntaxView) (attrs : List MetaView) (is : ItemViews) → s ≡ source_file attrs is
    → rows (kept_in krate false skipped (clipped_syntax row_wanted s)) ≡ rows (kept_in krate false skipped s)
same_rows krate skipped s attrs is e =
    let options = (crate_view krate).options in
    let around : Option CfgView → Around = λ c. record { level = 0; scope = []; is_active = not (is_some c) } in
    subst (λ z. rows (kept_in krate false skipped (clipped_syntax row_wanted z)) ≡ rows (kept_in krate false skipped z)) (sym e)
    (λ j. list_rows options skipped is (around (same_false options skipped attrs j)) j)

-- the tree of what is read for rows has the rows of the tree that lists tell
pub rows_kept : (krate : CrateData) (skipped : List (List ℕ)) (edition : EditionYear) (text : List ℕ) (x : ListedTree) → IsClippedTree row_wanted krate skipped edition text x → HasListedRows krate skipped edition text x
rows_kept krate skipped edition text x b =
    let read = b.is_clipped.read in
    let clipped = b.is_clipped.clipped in
    let source = ap (λ (f : FileView). f.syntax) b.is_clipped.is_read.told ∙ b.is_clipped.is_read.is_read.syntax in
    record {
      whole = record x.source { tree = kept_in krate false skipped read.syntax };
      is_listed = record {
        file = read;
        is_listed = b.is_clipped.is_read;
        is_tree = record {
          tree = refl;
          places = b.is_tree.places ∙ ap (λ (f : FileView). f.places) clipped;
          use_trees = b.is_tree.use_trees ∙ ap (λ (f : FileView). f.use_trees) clipped;
          problems = b.is_tree.problems ∙ ap (λ (f : FileView). f.problems) clipped;
        };
      };
      rows = ap rows (b.is_tree.tree ∙ ap (λ (f : FileView). kept_in krate false skipped f.syntax) clipped) ∙ same_rows krate skipped read.syntax _ _ source;
      places = refl;
      use_trees = refl;
    }

-- a tree that lists tell has its own rows
pub own_rows : (krate : CrateData) (skipped : List (List ℕ)) (edition : EditionYear) (text : List ℕ) (x : ListedTree) → IsListedTree krate skipped edition text (closers_in x.mended) x.source → HasListedRows krate skipped edition text x
own_rows krate skipped edition text x h = record { whole = x.source; is_listed = h; rows = refl; places = refl; use_trees = refl }

-- a list of the rows and the places is that of the tree that is listed
pub same_listed : {A : Type 0} {krate : CrateData} {skipped : List (List ℕ)} {edition : EditionYear} {text : List ℕ} {x : ListedTree} (h : HasListedRows krate skipped edition text x) (list : FilePlaces → List RowView → A)
    → list (all_places x.source) (rows x.source.tree) ≡ list (all_places h.whole) (rows h.whole.tree)
same_listed h list = λ j. list (file_places (h.places j) (h.use_trees j)) (h.rows j)
