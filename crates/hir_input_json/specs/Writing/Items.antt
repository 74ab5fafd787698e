-- The data of an item, with its body or without.
use Rattle.std.specs.Prelude.{ℕ, ◌^◌, List, Bool, true, false, codes, Option, Some, None, option_map}
use Rattle.serde_json.specs.Data.{Data, null, boolean, number as number_value, unsigned, string, array, object, Items, no_items, Members, no_members, member}
use Rattle.hir_input.specs.declared.ast.PlainKind.TheVariants as plain_kind
use Rattle.hir_input.specs.declared.ast.Rename.{Rename}
use Rattle.hir_input.specs.declared.ast.Visibility.{Visibility}
use Rattle.hir_input.specs.Attr.{MetaView, metas_from}
use Rattle.hir_input.specs.Id.{shown_expand_to}
use Rattle.hir_input.specs.Syntax.{NodeView, NamedView, UseView, CallView, FieldsView, record_fields, tuple_fields, no_fields, ItemView, ItemViews, plain_item, const_item, struct_item, bare_module, listed_module, use_item, extern_crate, bare_extern_block, listed_extern_block, impl_item, macro_call, macro_rules, asm_item, items_from}
use Rattle.hir_input.specs.declared.ast.PlainKind.{PlainKind}
use Rattle.hir_input.specs.Syntax as syntax
use Rattle.hir_input_json.specs.Writing.Literals.{context_data}
use Rattle.hir_input_json.specs.Writing.Metas.{metas_data}
use Rattle.hir_input_json.specs.Writing.Parts.{led_items, list_data, maybe_data, name_data, whole_data, ◌>>=◌}
use Rattle.hir_input_json.specs.Writing.Paths.{path_data, visibility_data}
use Rattle.hir_input_json.specs.Writing.UseTrees.{rename_data, use_tree_data}

-- a body's text, or null where bodies are left out
abbrev pub body_data : Bool → List ℕ → Data
body_data true text = string text
body_data false text = null

-- the parts of every item
pub record NodeData : Type 0 where
  pub hash : Data
  pub number : Data
  pub attrs : Data
  pub body : Data

-- and of an item that may have a name and a visibility
pub record NamedData : Type 0 where
  pub node : NodeData
  pub name : Data
  pub vis : Data

-- metas, each in its place
abbrev pub attrs_data : List MetaView → Option Data
attrs_data ms = option_map array (metas_data (metas_from ms))

abbrev pub node_data : Bool → NodeView → Option NodeData
node_data bodies n = do
  hash ← whole_data (2 ^ 16) n.hash
  number ← whole_data (2 ^ 32) n.number
  attrs ← attrs_data n.attrs
  Some (record { hash = hash; number = number; attrs = attrs; body = body_data bodies n.body })

-- with a name and a visibility
abbrev pub with_name : NodeData → Option (List ℕ) → Option Visibility → Option NamedData
with_name node called visibility = do
  name ← maybe_data name_data called
  vis ← maybe_data visibility_data visibility
  Some (record { node = node; name = name; vis = vis })

abbrev pub named_data : Bool → NamedView → Option NamedData
named_data bodies n = do
  node ← node_data bodies n.node
  with_name node n.name n.visibility

-- ---- the objects, whose members are in the order of their keys

-- the members that are no values of others
abbrev pub numbered_members : List ℕ → (hash number : ℕ) → Members
numbered_members word hash n = member (codes "hash") (number_value (unsigned hash)) (member (codes "is") (string word) (member (codes "number") (number_value (unsigned n)) no_members))

-- the members that every item has
abbrev pub node_members : List ℕ → NodeData → Members
node_members word n = member (codes "attrs") n.attrs (member (codes "body") n.body (member (codes "hash") n.hash (member (codes "is") (string word) (member (codes "number") n.number no_members))))

-- and with a name and a visibility
abbrev pub named_members : List ℕ → NamedData → Members
named_members word n =
    member (codes "attrs") n.node.attrs (member (codes "body") n.node.body (member (codes "hash") n.node.hash (member (codes "is") (string word)
    (member (codes "name") n.name (member (codes "number") n.node.number (member (codes "vis") n.vis no_members))))))

abbrev pub plain_object : List ℕ → NamedData → Data
plain_object word n = object (named_members word n)

abbrev pub struct_object : NamedData → Data → Data
struct_object n fields =
    object (member (codes "attrs") n.node.attrs (member (codes "body") n.node.body (member (codes "fields") fields (member (codes "hash") n.node.hash (member (codes "is") (string (codes "struct"))
    (member (codes "name") n.name (member (codes "number") n.node.number (member (codes "vis") n.vis no_members))))))))

abbrev pub module_object : NamedData → Bool → Data → Data
module_object n semicolon items =
    object (member (codes "attrs") n.node.attrs (member (codes "body") n.node.body (member (codes "hash") n.node.hash (member (codes "is") (string (codes "module")) (member (codes "items") items
    (member (codes "name") n.name (member (codes "number") n.node.number (member (codes "semicolon") (boolean semicolon) (member (codes "vis") n.vis no_members)))))))))

abbrev pub use_object : NodeData → (tree vis : Data) → Data
use_object n tree vis =
    object (member (codes "attrs") n.attrs (member (codes "body") n.body (member (codes "hash") n.hash (member (codes "is") (string (codes "use"))
    (member (codes "number") n.number (member (codes "tree") tree (member (codes "vis") vis no_members)))))))

abbrev pub extern_crate_object : NamedData → Data → Data
extern_crate_object n renamed =
    object (member (codes "attrs") n.node.attrs (member (codes "body") n.node.body (member (codes "hash") n.node.hash (member (codes "is") (string (codes "extern_crate"))
    (member (codes "name") n.name (member (codes "number") n.node.number (member (codes "rename") renamed (member (codes "vis") n.vis no_members))))))))

abbrev pub extern_block_object : NodeData → Data → Data
extern_block_object n items =
    object (member (codes "attrs") n.attrs (member (codes "body") n.body (member (codes "hash") n.hash (member (codes "is") (string (codes "extern_block"))
    (member (codes "items") items (member (codes "number") n.number no_members))))))

abbrev pub impl_object : NodeData → Bool → Data
impl_object n of_trait =
    object (member (codes "attrs") n.attrs (member (codes "body") n.body (member (codes "hash") n.hash (member (codes "is") (string (codes "impl"))
    (member (codes "number") n.number (member (codes "trait") (boolean of_trait) no_members))))))

abbrev pub call_object : NodeData → (path expand_to ctxt : Data) → Data
call_object n path expand_to ctxt =
    object (member (codes "attrs") n.attrs (member (codes "body") n.body (member (codes "ctxt") ctxt (member (codes "expand_to") expand_to (member (codes "hash") n.hash (member (codes "is") (string (codes "macro_call"))
    (member (codes "number") n.number (member (codes "path") path no_members))))))))

abbrev pub macro_rules_object : NodeData → Data → Data
macro_rules_object n name =
    object (member (codes "attrs") n.attrs (member (codes "body") n.body (member (codes "hash") n.hash (member (codes "is") (string (codes "macro_rules"))
    (member (codes "name") name (member (codes "number") n.number no_members))))))

abbrev pub asm_object : NodeData → Data
asm_object n = object (node_members (codes "asm") n)

-- ---- the kinds of items

abbrev pub kind_word : PlainKind → List ℕ
kind_word plain_kind.Fn = codes "fn"
kind_word plain_kind.Union = codes "union"
kind_word plain_kind.Enum = codes "enum"
kind_word plain_kind.Static = codes "static"
kind_word plain_kind.Trait = codes "trait"
kind_word plain_kind.TypeAlias = codes "type_alias"
kind_word plain_kind.MacroDef = codes "macro_def"

-- an item that has no parts but a name and a visibility
abbrev pub plain_data : Bool → List ℕ → NamedView → Option Data
plain_data bodies word n = option_map (plain_object word) (named_data bodies n)

-- the fields of a struct
abbrev pub fields_data : FieldsView → Option Data
fields_data record_fields = Some (string (codes "record"))
fields_data (tuple_fields fields) = list_data (maybe_data visibility_data) fields
fields_data no_fields = Some (string (codes "unit"))

abbrev pub struct_data : Bool → NamedView → FieldsView → Option Data
struct_data bodies n fields = do
  named ← named_data bodies n
  kind ← fields_data fields
  Some (struct_object named kind)

-- a module, whose items are written
abbrev pub module_data : Bool → NamedView → Bool → Data → Option Data
module_data bodies n semicolon items = option_map (λ named. module_object named semicolon items) (named_data bodies n)

abbrev pub use_data : Bool → UseView → Option Data
use_data bodies u = do
  node ← node_data bodies u.node
  vis ← maybe_data visibility_data u.visibility
  tree ← maybe_data use_tree_data u.use_tree
  Some (use_object node tree vis)

abbrev pub extern_crate_data : Bool → NamedView → Option Rename → Option Data
extern_crate_data bodies n rename = do
  named ← named_data bodies n
  renamed ← maybe_data rename_data rename
  Some (extern_crate_object named renamed)

-- an extern block, whose items are written
abbrev pub extern_block_data : Bool → NodeView → Data → Option Data
extern_block_data bodies n items = option_map (λ node. extern_block_object node items) (node_data bodies n)

abbrev pub impl_data : Bool → NodeView → Bool → Option Data
impl_data bodies n of_trait = option_map (λ node. impl_object node of_trait) (node_data bodies n)

abbrev pub call_data : Bool → CallView → Option Data
call_data bodies c = do
  node ← node_data bodies c.node
  path ← maybe_data path_data c.path
  ctxt ← context_data c.ctxt
  Some (call_object node path (string (shown_expand_to c.expand_to)) ctxt)

abbrev pub macro_rules_data : Bool → NodeView → Option (List ℕ) → Option Data
macro_rules_data bodies n name = do
  node ← node_data bodies n
  called ← maybe_data name_data name
  Some (macro_rules_object node called)

abbrev pub asm_data : Bool → NodeView → Option Data
asm_data bodies n = option_map asm_object (node_data bodies n)

-- an item of an extern block; no other stands in one
abbrev pub extern_item_data : Bool → ItemView → Option Data
extern_item_data bodies (plain_item plain_kind.Fn n) = plain_data bodies (codes "fn") n
extern_item_data bodies (plain_item plain_kind.Static n) = plain_data bodies (codes "static") n
extern_item_data bodies (plain_item plain_kind.TypeAlias n) = plain_data bodies (codes "type_alias") n
extern_item_data bodies (macro_call c) = call_data bodies c
extern_item_data bodies i = None

abbrev pub extern_items_data : Bool → ItemViews → Option Items
extern_items_data bodies syntax.no_items = Some no_items
extern_items_data bodies (syntax.item_and i is) = led_items (extern_item_data bodies i) (extern_items_data bodies is)

-- the items of a list, null where none is written
abbrev pub listed_data : (ItemViews → Option Items) → Option (List ItemView) → Option Data
listed_data write None = Some null
listed_data write (Some is) = option_map array (write (items_from is))

-- an item
abbrev mutual
  pub item_data : Bool → ItemView → Option Data
  item_data bodies (plain_item kind n) = plain_data bodies (kind_word kind) n
  item_data bodies (const_item n) = plain_data bodies (codes "const") n
  item_data bodies (struct_item n fields) = struct_data bodies n fields
  item_data bodies (bare_module n semicolon) = module_data bodies n semicolon null
  item_data bodies (listed_module n semicolon is) = do
    ds ← items_data bodies is
    module_data bodies n semicolon (array ds)
  item_data bodies (use_item u) = use_data bodies u
  item_data bodies (extern_crate n rename) = extern_crate_data bodies n rename
  item_data bodies (bare_extern_block n) = extern_block_data bodies n null
  item_data bodies (listed_extern_block n is) = do
    ds ← extern_items_data bodies is
    extern_block_data bodies n (array ds)
  item_data bodies (impl_item n of_trait) = impl_data bodies n of_trait
  item_data bodies (macro_call c) = call_data bodies c
  item_data bodies (macro_rules n name) = macro_rules_data bodies n name
  item_data bodies (asm_item n) = asm_data bodies n

  pub items_data : Bool → ItemViews → Option Items
  items_data bodies syntax.no_items = Some no_items
  items_data bodies (syntax.item_and i is) = led_items (item_data bodies i) (items_data bodies is)
