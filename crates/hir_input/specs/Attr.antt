-- Attributes, and metas as plain data.
use Rattle.std.specs.Prelude.{ℕ, List, Option, Some, None, option_map}
use Rattle.hir_input.specs.declared.ast.PathNode.{PathNode}
use Rattle.hir_input.specs.declared.ids.SyntaxContext.{SyntaxContext}
use Rattle.hir_input.specs.declared.span.Span.{Span}
use Rattle.hir_input.specs.declared.attr.AttrInput.{AttrInput}
use Rattle.hir_input.specs.declared.attr.AttrInput.TheVariants as input
use Rattle.hir_input.specs.declared.attr.Attr.{Attr}
use Rattle.hir_input.specs.declared.attr.Meta.{Meta, fold-Meta}
use Rattle.hir_input.specs.declared.attr.Meta.TheOpen.{Meta-F}
use Rattle.hir_input.specs.Cfg.{CfgView, cfg_view}
use Rattle.hir_input.specs.Lists.{list_as}
use Rattle.hir_input.specs.Literal.{LiteralView}

abbrev pub token_tree_in : Option AttrInput → Option (List ℕ)
token_tree_in None = None
token_tree_in (Some (input.Literal l)) = None
token_tree_in (Some (input.TokenTree t)) = Some t

-- the token tree of an attribute, which is its text, if its input is one
abbrev pub token_tree_of : Attr → Option (List ℕ)
token_tree_of a = token_tree_in a.input

abbrev pub string_with_span_in : Option AttrInput → Option (List ℕ × Span)
string_with_span_in None = None
string_with_span_in (Some (input.Literal l)) = option_map (λ string. (string, l.span)) l.string
string_with_span_in (Some (input.TokenTree t)) = None

-- the string of an attribute and its span, if its input is a literal that has a string
abbrev pub string_with_span_of : Attr → Option (List ℕ × Span)
string_with_span_of a = string_with_span_in a.input

-- a meta
mutual
  pub data MetaView : Type 0 where
    path_meta : Option PathNode → SyntaxContext → MetaView
    key_value_meta : Option PathNode → Option LiteralView → SyntaxContext → MetaView
    token_tree_meta : Option PathNode → List ℕ → SyntaxContext → MetaView
    cfg_meta : CfgView → MetaView
    cfg_attr_meta : CfgView → MetaViews → MetaView
    unsafe_meta : MetaView → MetaView

  pub data MetaViews : Type 0 where
    no_metas : MetaViews
    meta_and : MetaView → MetaViews → MetaViews

-- a list of metas
abbrev pub metas_from : List MetaView → MetaViews
metas_from = list_as no_metas meta_and

-- a meta's plain data, with each meta inside seen in its place
abbrev pub meta_step : Meta-F MetaView → MetaView
meta_step (Meta-F.Path path ctxt) = path_meta path ctxt
meta_step (Meta-F.KeyValue path value ctxt) = key_value_meta path value ctxt
meta_step (Meta-F.TokenTree path tokens ctxt) = token_tree_meta path tokens ctxt
meta_step (Meta-F.Cfg condition) = cfg_meta (cfg_view condition)
meta_step (Meta-F.CfgAttr condition metas) = cfg_attr_meta (cfg_view condition) (metas_from metas.items)
meta_step (Meta-F.Unsafe inner) = unsafe_meta inner.value

-- a meta as plain data
abbrev pub meta_view : Meta → MetaView
meta_view = fold-Meta MetaView meta_step
