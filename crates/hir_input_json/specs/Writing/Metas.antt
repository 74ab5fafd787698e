-- The data of a meta.
use Rattle.std.specs.Prelude.{ℕ, List, codes, Option, Some, option_map}
use Rattle.serde_json.specs.Data.{Data, string, array, object, Items, no_items, no_members, member}
use Rattle.hir_input.specs.declared.ast.PathNode.{PathNode}
use Rattle.hir_input.specs.declared.ids.SyntaxContext.{SyntaxContext}
use Rattle.hir_input.specs.Attr.{MetaView, MetaViews, path_meta, key_value_meta, token_tree_meta, cfg_meta, cfg_attr_meta, unsafe_meta, no_metas, meta_and}
use Rattle.hir_input.specs.Literal.{LiteralView}
use Rattle.hir_input_json.specs.Writing.Cfgs.{cfg_data}
use Rattle.hir_input_json.specs.Writing.Literals.{context_data, literal_data}
use Rattle.hir_input_json.specs.Writing.Parts.{led_items, maybe_data, ◌>>=◌}
use Rattle.hir_input_json.specs.Writing.Paths.{path_data}

abbrev pub path_object : (path ctxt : Data) → Data
path_object path ctxt = object (member (codes "ctxt") ctxt (member (codes "meta") (string (codes "path")) (member (codes "path") path no_members)))

abbrev pub key_value_object : (path value ctxt : Data) → Data
key_value_object path value ctxt = object (member (codes "ctxt") ctxt (member (codes "meta") (string (codes "key_value")) (member (codes "path") path (member (codes "value") value no_members))))

abbrev pub tokens_object : Data → List ℕ → Data → Data
tokens_object path tokens ctxt = object (member (codes "ctxt") ctxt (member (codes "meta") (string (codes "tokens")) (member (codes "path") path (member (codes "tokens") (string tokens) no_members))))

-- a path alone
abbrev pub path_meta_data : Option PathNode → SyntaxContext → Option Data
path_meta_data path ctxt = do
  p ← maybe_data path_data path
  c ← context_data ctxt
  Some (path_object p c)

-- a path and a literal
abbrev pub key_value_data : Option PathNode → Option LiteralView → SyntaxContext → Option Data
key_value_data path value ctxt = do
  p ← maybe_data path_data path
  v ← maybe_data (literal_data ctxt) value
  c ← context_data ctxt
  Some (key_value_object p v c)

-- a path and the text of tokens
abbrev pub tokens_data : Option PathNode → List ℕ → SyntaxContext → Option Data
tokens_data path tokens ctxt = do
  p ← maybe_data path_data path
  c ← context_data ctxt
  Some (tokens_object p tokens c)

abbrev pub cfg_object : Data → Data
cfg_object c = object (member (codes "cfg") c (member (codes "meta") (string (codes "cfg")) no_members))

abbrev pub cfg_attr_object : Data → Items → Data
cfg_attr_object c ms = object (member (codes "cfg") c (member (codes "meta") (string (codes "cfg_attr")) (member (codes "metas") (array ms) no_members)))

abbrev pub unsafe_object : Data → Data
unsafe_object m = object (member (codes "inner") m (member (codes "meta") (string (codes "unsafe")) no_members))

-- a meta
abbrev mutual
  pub meta_data : MetaView → Option Data
  meta_data (path_meta path ctxt) = path_meta_data path ctxt
  meta_data (key_value_meta path value ctxt) = key_value_data path value ctxt
  meta_data (token_tree_meta path tokens ctxt) = tokens_data path tokens ctxt
  meta_data (cfg_meta condition) = option_map cfg_object (cfg_data condition)
  meta_data (cfg_attr_meta condition metas) = do
    c ← cfg_data condition
    ms ← metas_data metas
    Some (cfg_attr_object c ms)
  meta_data (unsafe_meta inner) = option_map unsafe_object (meta_data inner)

  pub metas_data : MetaViews → Option Items
  metas_data no_metas = Some no_items
  metas_data (meta_and m ms) = led_items (meta_data m) (metas_data ms)
