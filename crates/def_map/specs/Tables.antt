-- The crate data of a crate: a recursion on its modules, and on the items of their files.
use Rattle.std.specs.Prelude.{ℕ, zero, suc, ◌==◌, nat_lt, Bool, true, false, not, ◌&&◌, List, [], ◌∷◌, ◌++◌, map, length, flat_map, sum_by, count_by, codes, nat_eq, Option, Some, None, option_map, slice_get, if◌then◌else◌}
use Rattle.std.specs.{List.fold, List.position, List.enumerate_from, List.list_any, Option.option_and_then, Option.option_eq, Option.option_map_or, Cmp.Lexicographic.pointwise}
use Rattle.hir_input.specs.declared.ast.PlainKind.{PlainKind}
use Rattle.hir_input.specs.declared.ast.PlainKind.TheVariants as plain_kind
use Rattle.hir_input.specs.declared.ids.FileAstId.{FileAstId}
use Rattle.hir_input.specs.declared.mod_path.PathKind.{PathKind}
use Rattle.hir_input.specs.declared.mod_path.PathKind.TheVariants as path
use Rattle.hir_input.specs.{Cfg.CfgView, Path.Path}
use Rattle.item_tree.specs.Imports as kept
use Rattle.item_tree.specs.declared.use_tree.{ImportAlias.ImportAlias, ImportAlias.TheVariants.Underscore, ImportAlias.TheVariants.Alias, ImportKind.ImportKind, ImportKind.TheVariants.Glob, ImportKind.TheVariants.Plain as plain_import, ImportKind.TheVariants.TypeOnly}
use Rattle.item_tree.specs.declared.visibility.RawVisibility.{RawVisibility}
use Rattle.item_tree.specs.declared.visibility.RawVisibility.TheVariants as raw
use Rattle.item_tree.specs.Node.{Ctor, no_ctor, ctor_with, ctor_with_min, Leaf, plain, constant, struct_item, outline, use_item, extern_crate, impl_item, macro_call, macro_rules, Trunk, inline, extern_block, Node, leaf, parent, Forest, empty, more, node_ast, node_head, Unfolding}
use Rattle.item_tree.specs.Tree.{Tree}
use Rattle.item_tree_attrs.specs.{Collected.Collected, Key.has_key}
use Rattle.tree_walk.specs.{Declarations.crate_name, Preorder.preorder}
use Rattle.module_tree.specs.Paths.{final_name}
use Rattle.module_tree.specs.declared.data.{ModuleData.ModuleData, ModuleOrigin.ModuleOrigin, ModuleOrigin.TheVariants.CrateRoot, ModuleOrigin.TheVariants.File as file_origin, ModuleOrigin.TheVariants.Inline as inline_origin}
use Rattle.def_map.specs.declared.kinds.{Namespace.Namespace, Namespace.TheVariants.Types, Namespace.TheVariants.Values, Namespace.TheVariants.Macros}
use Rattle.def_map.specs.declared.kinds.{PathStart.PathStart, Visibility.Visibility}
use Rattle.def_map.specs.declared.kinds.PathStart.TheVariants as start
use Rattle.def_map.specs.declared.kinds.Visibility.TheVariants as seen_by
use Rattle.def_map.specs.declared.{push.Owner.Owner, push.Place.Place, rows.ItemKey.ItemKey}
use Rattle.def_map.specs.declared.attributes.Marks.{Marks}
use Rattle.def_map.specs.Attributes.{attr_marks}
use Rattle.def_map.specs.Crates.{Thing, a_module, an_item, a_scope, unseen, NameDeclaration, Binding, a_glob, a_name, underscore, nameless, PathImport, Veil, Crate, module_above, parent_of, narrower}
use Rattle.def_map.specs.UseLeaves.{leaf_count}
use Rattle.def_map.specs.Verdicts.{is_at_least}
use Rattle.def_map.specs.Language.{builtin_crates, prelude_types, root_crates}
use Rattle.language_names.specs.LanguageNames.{has_unknown, tools}

-- what the manifest says: the features, and the names of other crates, if they are known
pub record Manifest : Type 0 where
  pub is_2015 : Bool
  pub features : List (List ℕ)
  pub crates : Option (List (List ℕ))

-- what a crate is made of: its modules, the tree of each file by its number, and of the texts what no tree holds
pub record CrateSources : Type 0 where
  pub modules : List ModuleData
  pub trees : List Unfolding
  -- how often the word `macro_export` stands in each file
  pub export_words : List ℕ
  -- a file has the word `macro_expanded_macro_exports_accessed_by_absolute_paths`
  pub allows_expanded : Bool
  pub manifest : Manifest

-- ---- what a place of a crate adds to its table

pub data CrateRow : Type 0 where
  declares : NameDeclaration (List ℕ) ItemKey → CrateRow
  -- an import of a use in a module, by the id of the use, for those who see it
  imports : ℕ → FileAstId → Visibility → kept.Import → CrateRow
  -- a module may have names in each namespace that are not seen
  veil : ℕ → Visibility → CrateRow
  -- the root may have macros that are not seen
  macro_veil : CrateRow
  defines_macro : List ℕ → ItemKey → CrateRow
  -- the root may name another crate so
  names_crate : List ℕ → CrateRow

-- ---- imports

-- the names of a path, and where it begins
abbrev pub kind_start : PathKind → PathStart
kind_start path.Plain = start.Plain
kind_start (path.Super count) = start.Super count
kind_start path.Crate = start.Crate
kind_start path.Abs = start.Abs
kind_start (path.DollarCrate c) = start.Crate

-- what is bound by an import of names: the last name, unless it is renamed
abbrev pub name_binding : Option ImportAlias → Option (List ℕ) → Binding (List ℕ)
name_binding (Some Underscore) name = underscore
name_binding (Some (Alias alias)) name = a_name alias
name_binding None None = nameless
name_binding None (Some name) = a_name name

abbrev pub binding_by : ImportKind → Option ImportAlias → Option (List ℕ) → Binding (List ℕ)
binding_by Glob alias name = a_glob
binding_by plain_import alias name = name_binding alias name
binding_by TypeOnly alias name = name_binding alias name

abbrev pub is_of_types : ImportKind → Bool
is_of_types TypeOnly = true
is_of_types kind = false

-- an import of a use in a module, for those who see the use
abbrev pub import_in : ℕ → Visibility → kept.Import → PathImport (List ℕ)
import_in at v x = record {
  parent = at;
  start = kind_start x.path.kind;
  names = x.path.names;
  binding = binding_by x.kind x.alias (final_name x.path.names);
  of_types = is_of_types x.kind;
  visibility = v;
}

-- ---- modules

-- one id is another; both are those of a `mod`
abbrev pub is_same_id : FileAstId → FileAstId → Bool
is_same_id a b = a.hash == b.hash && a.number == b.number

-- the id of the `mod` that a module comes from
abbrev pub origin_id : ModuleOrigin → Option FileAstId
origin_id CrateRoot = None
origin_id (file_origin a) = Some a
origin_id (inline_origin a) = Some a

-- the module of a `mod` in a module
abbrev pub is_module_of : ℕ → FileAstId → ModuleData → Bool
is_module_of at a found = option_eq nat_eq (option_map (λ id. id.0) found.parent) (Some at) && option_map_or (is_same_id a) (origin_id found.origin) false

abbrev pub module_of : List ModuleData → ℕ → FileAstId → Option ℕ
module_of modules at a = position (is_module_of at a) modules

-- ---- what an item adds in a module, by its id and its marks

module _ (o : Owner) where
  -- the item, and whether it is there for sure
  abbrev pub owner_key : ItemKey
  owner_key = record { at = o.place.at; id = o.id }

  abbrev pub is_sure : Bool
  is_sure = o.place.is_certain && not o.marks.is_foreign && not o.marks.is_test

  -- a name that the item declares in its module
  abbrev pub name_row : Namespace → List ℕ → Thing ItemKey → Visibility → CrateRow
  name_row ns name t v = declares (record { parent = o.place.at; namespace = ns; name = name; thing = t; visibility = v; is_sure = is_sure })

  abbrev pub plain_declared : PlainKind → List ℕ → Visibility → CrateRow
  plain_declared plain_kind.Fn name v = name_row Values name (an_item owner_key) v
  plain_declared plain_kind.Static name v = name_row Values name (an_item owner_key) v
  plain_declared plain_kind.MacroDef name v = name_row Macros name (an_item owner_key) v
  plain_declared plain_kind.Enum name v = name_row Types name (a_scope owner_key) v
  plain_declared plain_kind.Trait name v = name_row Types name (a_scope owner_key) v
  plain_declared plain_kind.TypeAlias name v = name_row Types name (an_item owner_key) v
  plain_declared plain_kind.Union name v = name_row Types name (an_item owner_key) v

  abbrev pub const_rows : Option (List ℕ) → Visibility → List CrateRow
  const_rows None v = []
  const_rows (Some name) v = name_row Values name (an_item owner_key) v ∷ []

  -- the root names another crate by an `extern crate`
  abbrev pub crate_rows : Option (List ℕ) → Visibility → List CrateRow
  crate_rows None v = []
  crate_rows (Some name) v = name_row Types name unseen v ∷ (if o.place.at == 0 then names_crate name ∷ [] else [])

  -- a `macro_rules` is in no module, but in the root if it is exported
  abbrev pub macro_rows : List ℕ → List CrateRow
  macro_rows name =
      defines_macro name owner_key
      ∷ (if o.marks.is_exported then declares (record { parent = 0; namespace = Macros; name = name; thing = an_item owner_key; visibility = seen_by.Public; is_sure = is_sure }) ∷ [] else [])

  -- a macro call may write any items
  abbrev pub call_rows : List CrateRow
  call_rows = veil o.place.at seen_by.Public ∷ []

  -- ---- imports
  abbrev pub import_row : Visibility → kept.Import → CrateRow
  import_row v x = imports o.place.at o.id v x

  -- of a use: where an attribute may rewrite it, nothing; a leaf that gives no import (`use *`) is a veil for those who see the use
  abbrev pub use_rows : Visibility → Tree → List CrateRow
  use_rows v t =
      if o.place.is_certain && not o.marks.is_foreign
      then map (import_row v) (kept.imports t) ++ (if length (kept.imports t) == leaf_count t then [] else veil o.place.at v ∷ [])
      else []

  -- ---- all of it

  -- where the items in this one stand
  abbrev pub inner_place : ℕ → Place
  inner_place at = record { at = at; is_certain = o.place.is_certain && not o.marks.is_foreign }

  -- a `mod` whose module is found, or is not: it has no file, or its file is disabled
  abbrev pub mod_rows : List ℕ → Visibility → Option ℕ → List CrateRow
  mod_rows name v None = declares (record { parent = o.place.at; namespace = Types; name = name; thing = unseen; visibility = v; is_sure = false }) ∷ macro_veil ∷ []
  mod_rows name v (Some at) = name_row Types name (a_module at) v ∷ (if (inner_place at).is_certain then [] else veil at seen_by.Public ∷ [])

-- ---- who sees what

-- the name of a module
abbrev pub module_name : List ModuleData → ℕ → Option (List ℕ)
module_name modules m = option_and_then (λ found. found.name) (slice_get modules m)

module _ (parents : List (Option ℕ)) where
  -- of a module and those around it the one that stands in m, if it is reached by so many steps up
  abbrev pub child_toward : ℕ → ℕ → ℕ → Option ℕ
  child_toward m zero at = None
  child_toward m (suc steps) at = option_and_then (λ above. if above == m then Some at else child_toward m steps above) (parent_of parents at)

  -- who sees what needs all of these
  abbrev pub least_visibility : List Visibility → Visibility
  least_visibility vs = fold (narrower parents) seen_by.Public vs

  -- who sees the constructor of a struct, by what is read of its visibilities
  abbrev pub ctor_visibility : {V : Type 0} → (V → Visibility) → Ctor V → Option Visibility
  ctor_visibility see no_ctor = None
  ctor_visibility see (ctor_with v) = Some (see v)
  ctor_visibility see (ctor_with_min vs) = Some (least_visibility (map see vs))

  -- nobody outside of the crate, if it is `#[non_exhaustive]`
  abbrev pub ctor_limit : Marks → Visibility → Visibility
  ctor_limit m v = if m.is_non_exhaustive then narrower parents (seen_by.Module 0) v else v

  -- the constructor of a struct that these see; a cfg may take a field away that fewer see, and then it is not known who sees the constructor
  abbrev pub ctor_rows : Owner → List ℕ → Visibility → Option Visibility → List CrateRow
  ctor_rows o name own None = []
  ctor_rows o name own (Some v) =
      if is_at_least parents v own then name_row o Values name (an_item (owner_key o)) v ∷ [] else name_row o Values name unseen own ∷ []

-- ---- attributes

abbrev pub marked_rows : ℕ → Marks → List CrateRow
marked_rows at m = if m.is_veiling then veil at seen_by.Public ∷ [] else []

-- by the features: of an item, or of a file, behind a false cfg nothing is seen but the cfg
abbrev pub disabled_rows : List (List ℕ) → ℕ → CfgView → List CrateRow
disabled_rows features at cfg = if has_unknown features cfg then veil at seen_by.Public ∷ macro_veil ∷ [] else []

abbrev pub present_by : List (List ℕ) → ℕ → Marks → Option CfgView → List CrateRow → List CrateRow
present_by features at m None rows = marked_rows at m ++ rows
present_by features at m (Some cfg) rows = disabled_rows features at cfg

abbrev pub present_rows : List (List ℕ) → ℕ → Collected → List CrateRow → List CrateRow
present_rows features at c rows = present_by features at (attr_marks c.attrs) c.false_cfg rows

-- ---- words of a text that its tree lacks

-- how often an attribute `macro_export` stands in a tree
abbrev pub node_exports : Node → ℕ
node_exports n = count_by (has_key (codes "macro_export")) (node_head n).attrs.attrs

abbrev pub tree_exports : Unfolding → ℕ
tree_exports u = sum_by node_exports (preorder u.forest)

-- the text has the word more often, or it is not known how often
abbrev pub hides_exports : Unfolding → Option ℕ → Bool
hides_exports u None = true
hides_exports u (Some words) = nat_lt (tree_exports u) words

abbrev pub hidden_rows : Unfolding → Option ℕ → List CrateRow
hidden_rows u words = if hides_exports u words then macro_veil ∷ [] else []

-- ---- all that is added

-- where a text allows macros that macros make to be named
abbrev pub expanded_rows : Bool → List CrateRow
expanded_rows allows_expanded = if allows_expanded then macro_veil ∷ [] else []

-- a crate that the root has by its edition, unless it declares that name
abbrev pub root_crate : List ℕ → CrateRow
root_crate name = declares (record { parent = 0; namespace = Types; name = name; thing = unseen; visibility = seen_by.Module 0; is_sure = false })

module _ (parents : List (Option ℕ)) (s : CrateSources) where
  -- of those around a module the one to which names lead from m
  abbrev pub around_by_names : ℕ → List (List ℕ) → ℕ → Option ℕ
  around_by_names at [] m = Some m
  around_by_names at (name ∷ names) m = option_and_then (λ child. if option_eq (pointwise nat_eq) (module_name s.modules child) (Some name) then around_by_names at names child else None) (child_toward parents m at at)

  -- where a path begins that is to lead to a module around
  abbrev pub around_start : PathKind → ℕ → Option ℕ
  around_start path.Crate at = Some 0
  around_start (path.Super count) at = module_above parents count at
  around_start (path.DollarCrate c) at = None
  around_start kind at = if s.manifest.is_2015 then Some 0 else None

  abbrev pub named_module_around : ℕ → Path → Option ℕ
  named_module_around at p = option_and_then (around_by_names at p.names) (around_start p.kind at)

  -- who sees what has this visibility in a module; one in a path that leads to no module around counts as everybody's
  abbrev pub visibility_in : ℕ → RawVisibility → Visibility
  visibility_in at raw.Public = seen_by.Public
  visibility_in at raw.PubCrate = seen_by.Module 0
  visibility_in at (raw.PubSelf e) = seen_by.Module at
  visibility_in at (raw.Module p e) = option_map_or seen_by.Module (named_module_around at p) seen_by.Public

  -- what an item adds, without those in it: over what stands for a visibility, and who sees what has it
  abbrev pub leaf_rows : {V : Type 0} → Owner → (V → Visibility) → Leaf V → List CrateRow
  leaf_rows o see (plain k name v) = plain_declared o k name (see v) ∷ []
  leaf_rows o see (constant name v) = const_rows o name (see v)
  leaf_rows o see (struct_item name v shape c) = name_row o Types name (an_item (owner_key o)) (see v) ∷ ctor_rows parents o name (ctor_limit parents o.marks (see v)) (option_map (ctor_limit parents o.marks) (ctor_visibility parents see c))
  leaf_rows o see (outline name v) = mod_rows o name (see v) (module_of s.modules o.place.at o.id)
  leaf_rows o see (use_item v t) = use_rows o (see v) t
  leaf_rows o see (extern_crate name v alias) = crate_rows o (crate_name name alias) (see v)
  leaf_rows o see (impl_item of_trait) = []
  leaf_rows o see (macro_call called expand_to ctxt) = call_rows o
  leaf_rows o see (macro_rules name) = macro_rows o name

  abbrev pub trunk_rows : {V : Type 0} → Owner → (V → Visibility) → Trunk V → List CrateRow
  trunk_rows o see (inline name v) = mod_rows o name (see v) (module_of s.modules o.place.at o.id)
  trunk_rows o see extern_block = []

  -- where the items in it stand, if anywhere: those of an extern block are the module's
  abbrev pub place_inside : {V : Type 0} → Owner → Trunk V → Option Place
  place_inside o (inline name v) = option_map (inner_place o) (module_of s.modules o.place.at o.id)
  place_inside o extern_block = Some (inner_place o o.place.at)

  -- an item where it stands
  abbrev pub owner_of : Place → Node → Owner
  owner_of p n = record { place = p; id = node_ast n; marks = attr_marks (node_head n).attrs.attrs }

  -- of an item with those in it, and of the items of a forest
  abbrev mutual
    pub node_rows : Place → Node → List CrateRow
    node_rows p (leaf h l) = present_rows s.manifest.features p.at h.attrs (leaf_rows (owner_of p (leaf h l)) (visibility_in p.at) l)
    node_rows p (parent h t f) =
        let o = owner_of p (parent h t f) in
        present_rows s.manifest.features p.at h.attrs (trunk_rows o (visibility_in p.at) t ++ option_map_or (λ inner. forest_rows inner f) (place_inside o t) [])

    pub forest_rows : Place → Forest → List CrateRow
    forest_rows p empty = []
    forest_rows p (more n f) = node_rows p n ++ forest_rows p f

  -- of a module that is a file
  abbrev pub tree_rows : ℕ → Unfolding → List CrateRow
  tree_rows at u = present_rows s.manifest.features at u.top_attrs (forest_rows (record { at = at; is_certain = not (attr_marks u.top_attrs.attrs).is_foreign }) u.forest)

  abbrev pub file_rows : ℕ → Option ℕ → Option Unfolding → List CrateRow
  file_rows at words None = veil at seen_by.Public ∷ macro_veil ∷ []
  file_rows at words (Some u) = hidden_rows u words ++ tree_rows at u

  -- the items of an inline module are told with those of the file
  abbrev pub origin_rows : ℕ → ℕ → ModuleOrigin → List CrateRow
  origin_rows at file CrateRoot = file_rows at (slice_get s.export_words file) (slice_get s.trees file)
  origin_rows at file (file_origin a) = file_rows at (slice_get s.export_words file) (slice_get s.trees file)
  origin_rows at file (inline_origin a) = []

  abbrev pub module_rows : ℕ × ModuleData → List CrateRow
  module_rows found = origin_rows found.0 found.1.file found.1.origin

  abbrev pub rows_with : List CrateRow
  rows_with = map root_crate (root_crates s.manifest.is_2015) ++ expanded_rows s.allows_expanded ++ flat_map module_rows (enumerate_from 0 s.modules)

-- ---- the crate

-- the parent of each module
abbrev pub parent_number : ModuleData → Option ℕ
parent_number found = option_map (λ id. id.0) found.parent

abbrev pub parents_of : List ModuleData → List (Option ℕ)
parents_of modules = map parent_number modules

-- what all places of a crate add
abbrev pub rows_of : CrateSources → List CrateRow
rows_of s = rows_with (parents_of s.modules) s

abbrev pub row_declarations : CrateRow → List (NameDeclaration (List ℕ) ItemKey)
row_declarations (declares d) = d ∷ []
row_declarations _ = []

abbrev pub row_imports : CrateRow → List (PathImport (List ℕ))
row_imports (imports at a v x) = import_in at v x ∷ []
row_imports _ = []

abbrev pub row_veils : CrateRow → List Veil
row_veils (veil at v) = map (λ ns. record { parent = at; namespace = ns; visibility = v }) (Types ∷ Values ∷ Macros ∷ [])
row_veils macro_veil = record { parent = 0; namespace = Macros; visibility = seen_by.Public } ∷ []
row_veils _ = []

abbrev pub row_macros : CrateRow → List (List ℕ × ItemKey)
row_macros (defines_macro name owner_key) = (name, owner_key) ∷ []
row_macros _ = []

abbrev pub row_crates : CrateRow → List (List ℕ)
row_crates (names_crate name) = name ∷ []
row_crates _ = []

-- the names that another crate, or the language, may stand behind
abbrev pub other_names : List CrateRow → List (List ℕ) → List (List ℕ)
other_names rows crates = crates ++ builtin_crates ++ prelude_types ++ tools ++ flat_map row_crates rows

-- the root may have names that are not seen, crates among them
abbrev pub is_root_veil : CrateRow → Bool
is_root_veil (veil at v) = at == 0
is_root_veil _ = false

-- then any name may be another crate's
abbrev pub others_from : List CrateRow → Option (List (List ℕ)) → Option (List (List ℕ × Thing ItemKey))
others_from rows None = None
others_from rows (Some crates) = if list_any is_root_veil rows then None else Some (map (λ name. (name, unseen)) (other_names rows crates))

-- the crate that rows make
abbrev pub crate_from : List (Option ℕ) → Manifest → List CrateRow → Crate (List ℕ) ItemKey
crate_from parents manifest rows = record {
  parents = parents;
  declarations = flat_map row_declarations rows;
  imports = flat_map row_imports rows;
  veils = flat_map row_veils rows;
  macro_rules = flat_map row_macros rows;
  others = others_from rows manifest.crates;
  is_2015 = manifest.is_2015;
}

-- the crate data of a crate
abbrev pub crate_of : CrateSources → Crate (List ℕ) ItemKey
crate_of s = crate_from (parents_of s.modules) s.manifest (rows_of s)
