-- The page of a tree.
use Rattle.std.specs.Prelude.{ℕ, ◌+◌, List, [], ◌∷◌, ◌++◌, codes, Option, Some, None}
use Rattle.std.specs.List.{join_by, flat_map}
use Rattle.hir_input.specs.declared.ast.PlainKind.TheVariants as plain_kind
use Rattle.hir_input.specs.declared.attr.Attr.{Attr}
use Rattle.hir_input.specs.declared.attr.AttrInput.{AttrInput}
use Rattle.hir_input.specs.declared.attr.AttrInput.TheVariants.{Literal, TokenTree}
use Rattle.hir_input.specs.declared.ids.FileAstId.{FileAstId}
use Rattle.hir_input.specs.Cfg.{CfgView, shown_cfg}
use Rattle.hir_input.specs.declared.ids.SyntaxContext.{SyntaxContext}
use Rattle.hir_input.specs.declared.expand_to.ExpandTo.{ExpandTo}
use Rattle.hir_input.specs.Id.{shown_id, shown_context, shown_expand_to}
use Rattle.hir_input.specs.Name.{shown_name}
use Rattle.hir_input.specs.Path.{Path, shown_path}
use Rattle.hir_input.specs.declared.ast.PlainKind.{PlainKind}
use Rattle.item_tree_attrs.specs.Collected.{Collected}
use Rattle.item_tree.specs.declared.visibility.RawVisibility.{RawVisibility}
use Rattle.item_tree.specs.declared.visibility.RawVisibility.TheVariants.{Module, PubSelf, PubCrate, Public}
use Rattle.item_tree.specs.Column.{has_no_attributes, unless}
use Rattle.item_tree.specs.Line.{Line, text, blank, lines_text, lines_of_text}
use Rattle.item_tree.specs.Tree.{Tree}
use Rattle.item_tree.specs.UseText.{shown_rename, shown_tree}
use Rattle.item_tree.specs.declared.use_tree.ImportAlias.{ImportAlias}
use Rattle.item_tree.specs.Node.{Leaf, plain, constant, struct_item, outline, use_item, extern_crate, impl_item, macro_call, macro_rules, Trunk, inline, extern_block, leaf_kind, trunk_kind, Node, leaf, parent, Forest, empty, more, node_head, file_id, Unfolding}

-- lists of lines with one blank between each two
abbrev pub with_blanks : List (List Line) → List Line
with_blanks parts = join_by (λ part. part) (blank ∷ []) parts

-- the lines of a page of parts: one blank where there are none
abbrev pub page_lines : List (List Line) → List Line
page_lines [] = blank ∷ []
page_lines (part ∷ others) = with_blanks (part ∷ others)

-- the text of an id line
unfoldable pub id_text : FileAstId → List ℕ
id_text a = codes "// AstId: " ++ shown_id a

-- that of a macro call also tells its context and what it expands to
unfoldable pub call_id_text : FileAstId → SyntaxContext → ExpandTo → List ℕ
call_id_text a ctxt expand_to = id_text a ++ codes ", SyntaxContextId: " ++ shown_context ctxt ++ codes ", ExpandTo: " ++ shown_expand_to expand_to

abbrev pub leaf_id_text : FileAstId → Leaf RawVisibility → List ℕ
leaf_id_text a (macro_call path expand_to ctxt) = call_id_text a ctxt expand_to
leaf_id_text a l = id_text a

-- how an attribute of an item begins, and how one of the top does
abbrev pub item_opening : List ℕ
item_opening = codes "#["

abbrev pub top_opening : List ℕ
top_opening = codes "#!["

-- what stands behind the path of an attribute
abbrev pub shown_input : Option AttrInput → List ℕ
shown_input None = []
shown_input (Some (Literal l)) = codes " = " ++ l.rendered
shown_input (Some (TokenTree t)) = t

-- the cfg that is false
unfoldable pub false_cfg_text : List ℕ → CfgView → List ℕ
false_cfg_text opening cfg = opening ++ codes "cfg(" ++ shown_cfg cfg ++ codes ")]"

abbrev pub false_cfg_lines : List ℕ → ℕ → Option CfgView → List Line
false_cfg_lines opening k None = []
false_cfg_lines opening k (Some cfg) = lines_of_text k (false_cfg_text opening cfg)

-- under these reserved words
module _ (reserved : List (List ℕ)) where
  -- a visibility, with a space at its end
  abbrev pub shown_visibility : RawVisibility → List ℕ
  shown_visibility Public = codes "pub "
  shown_visibility PubCrate = codes "pub(crate) "
  shown_visibility (PubSelf e) = codes "pub(self) "
  shown_visibility (Module p e) = codes "pub(in " ++ shown_path reserved p ++ codes ") "

  -- an attribute
  unfoldable pub attr_text : List ℕ → Attr → List ℕ
  attr_text opening a = opening ++ shown_path reserved a.path ++ shown_input a.input ++ codes "]"

  -- the lines of attributes at a level: each attribute, and then the cfg
  abbrev pub attrs_lines : List ℕ → ℕ → Collected → List Line
  attrs_lines opening k c = flat_map (λ a. lines_of_text k (attr_text opening a)) c.attrs ++ false_cfg_lines opening k c.false_cfg

  -- a visibility, the word of a kind, a name, and what stands behind it
  unfoldable pub named_header : List ℕ → List ℕ → List ℕ → RawVisibility → List ℕ
  named_header word end name v = shown_visibility v ++ word ++ codes " " ++ shown_name reserved name ++ end

  abbrev pub plain_header : PlainKind → List ℕ → RawVisibility → List ℕ
  plain_header plain_kind.Fn = named_header (codes "fn") (codes ";")
  plain_header plain_kind.Union = named_header (codes "union") (codes " { ... }")
  plain_header plain_kind.Enum = named_header (codes "enum") (codes " { ... }")
  plain_header plain_kind.Static = named_header (codes "static") (codes " = _;")
  plain_header plain_kind.Trait = named_header (codes "trait") (codes " { ... }")
  plain_header plain_kind.TypeAlias = named_header (codes "type") (codes ";")
  plain_header plain_kind.MacroDef = named_header (codes "macro") (codes " { ... }")

  -- a missing name is `_`
  abbrev pub shown_name_or_none : Option (List ℕ) → List ℕ
  shown_name_or_none None = codes "_"
  shown_name_or_none (Some name) = shown_name reserved name

  unfoldable pub constant_header : Option (List ℕ) → RawVisibility → List ℕ
  constant_header name v = shown_visibility v ++ codes "const " ++ shown_name_or_none name ++ codes " = _;"

  unfoldable pub use_header : RawVisibility → Tree → List ℕ
  use_header v t = shown_visibility v ++ codes "use " ++ shown_tree reserved t ++ codes ";"

  unfoldable pub extern_crate_header : List ℕ → RawVisibility → Option ImportAlias → List ℕ
  extern_crate_header name v alias = shown_visibility v ++ codes "extern crate " ++ shown_name reserved name ++ shown_rename reserved alias ++ codes ";"

  unfoldable pub macro_call_header : Path → List ℕ
  macro_call_header path = shown_path reserved path ++ codes "!(...);"

  unfoldable pub macro_rules_header : List ℕ → List ℕ
  macro_rules_header name = codes "macro_rules! " ++ shown_name reserved name ++ codes " { ... }"

  abbrev pub leaf_header : Leaf RawVisibility → List ℕ
  leaf_header (plain k name v) = plain_header k name v
  leaf_header (constant name v) = constant_header name v
  leaf_header (struct_item name v shape ctor) = named_header (codes "struct") (codes " { ... }") name v
  leaf_header (outline name v) = named_header (codes "mod") (codes ";") name v
  leaf_header (use_item v t) = use_header v t
  leaf_header (extern_crate name v alias) = extern_crate_header name v alias
  leaf_header (impl_item of_trait) = codes "impl { ... }"
  leaf_header (macro_call path expand_to ctxt) = macro_call_header path
  leaf_header (macro_rules name) = macro_rules_header name

  abbrev pub trunk_header : Trunk RawVisibility → List ℕ
  trunk_header (inline name v) = named_header (codes "mod") (codes " {") name v
  trunk_header extern_block = codes "extern {"

  -- the lines of a node at a level behind its attributes, with its children one level deeper; and all lines of each node
  -- of a forest
  abbrev mutual
    pub own_lines : Node → ℕ → List Line
    own_lines (leaf h l) k = text k (leaf_id_text (file_id (leaf_kind l) h) l) ∷ text k (leaf_header l) ∷ []
    own_lines (parent h t f) k =
        text k (id_text (file_id (trunk_kind t) h)) ∷ text k (trunk_header t) ∷ (with_blanks (parts f (k + 1)) ++ text k (codes "}") ∷ [])

    pub parts : Forest → ℕ → List (List Line)
    parts empty k = []
    parts (more n f) k = (attrs_lines item_opening k (node_head n).attrs ++ own_lines n k) ∷ parts f k

  -- the parts of a page: the top attributes, if there are any, and the items
  abbrev pub page_parts : Unfolding → List (List Line)
  page_parts u = unless (has_no_attributes u.top_attrs) (attrs_lines top_opening 0 u.top_attrs) ++ parts u.forest 0

  -- the page of a tree
  abbrev pub page : Unfolding → List ℕ
  page u = lines_text (page_lines (page_parts u))
