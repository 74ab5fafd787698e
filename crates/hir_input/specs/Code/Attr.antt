-- Codes of conditions and of metas.
use Rattle.std.specs.Prelude.{◌≡◌, ℕ, List, Option, refl}
use Rattle.std.specs.Coded.{Coded, code_by, coded×, coded_ℕ, coded_list, coded_option}
use Rattle.std.proofs.Common.{ap}
use base.Stored.{Gv, gnil, gnum, gcons}
use Rattle.hir_input.specs.declared.ast.PathNode.{PathNode}
use Rattle.hir_input.specs.declared.ids.SyntaxContext.{SyntaxContext}
use Rattle.hir_input.specs.declared.span.Span.{Span}
use Rattle.hir_input.specs.contracts.ast.PathNode as path_node
use Rattle.hir_input.specs.contracts.ids.SyntaxContext as context
use Rattle.hir_input.specs.contracts.span.Span as span
use Rattle.hir_input.specs.Cfg.{AtomView, CfgView, CfgViews, invalid, atom, all_of, any_of, not_of, no_cfgs, cfg_and}
use Rattle.hir_input.specs.Literal.{LiteralView}
use Rattle.hir_input.specs.Code.Parts.{front_code, behind_code}
use Rattle.hir_input.specs.Attr.{MetaView, MetaViews, path_meta, key_value_meta, token_tree_meta, cfg_meta, cfg_attr_meta, unsafe_meta, no_metas, meta_and}

-- ---- conditions

abbrev pub text_code : Coded (List ℕ)
text_code = coded_list coded_ℕ

abbrev pub atom_code : Coded AtomView
atom_code =
    code_by (List ℕ × Option (List ℕ)) (coded× text_code (coded_option text_code)) (λ a. (a.name, a.value)) (λ p. record { name = p.0; value = p.1 }) (λ _. refl)

-- the options of a crate
abbrev pub options_code : Coded (List AtomView)
options_code = coded_list atom_code

abbrev mutual
  pub cfg_to : CfgView → Gv
  cfg_to invalid = gnil
  cfg_to (atom a) = gcons (gnum 0) (atom_code.code a)
  cfg_to (all_of cs) = gcons (gnum 1) (cfgs_to cs)
  cfg_to (any_of cs) = gcons (gnum 2) (cfgs_to cs)
  cfg_to (not_of c) = gcons (gnum 3) (cfg_to c)

  pub cfgs_to : CfgViews → Gv
  cfgs_to no_cfgs = gnil
  cfgs_to (cfg_and c cs) = gcons (cfg_to c) (cfgs_to cs)

mutual
  pub cfg_inj : (c d : CfgView) → cfg_to c ≡ cfg_to d → c ≡ d
  cfg_inj invalid invalid h = refl
  cfg_inj (atom a) (atom b) h = ap atom (atom_code.inj a b (ap behind_code h))
  cfg_inj (all_of cs) (all_of ds) h = ap all_of (cfgs_inj cs ds (ap behind_code h))
  cfg_inj (any_of cs) (any_of ds) h = ap any_of (cfgs_inj cs ds (ap behind_code h))
  cfg_inj (not_of c) (not_of d) h = ap not_of (cfg_inj c d (ap behind_code h))
  cfg_inj _ _ h = cc

  cfgs_inj : (cs ds : CfgViews) → cfgs_to cs ≡ cfgs_to ds → cs ≡ ds
  cfgs_inj no_cfgs no_cfgs h = refl
  cfgs_inj (cfg_and c cs) (cfg_and d ds) h = λ i. cfg_and (cfg_inj c d (ap front_code h) i) (cfgs_inj cs ds (ap behind_code h) i)
  cfgs_inj _ _ h = cc

abbrev pub cfg_code : Coded CfgView
cfg_code = record { code = cfg_to; inj = cfg_inj }

-- ---- metas

abbrev pub path_code : Coded (Option PathNode × SyntaxContext)
path_code = coded× (coded_option path_node.the_row.coded) context.the_row.coded

abbrev pub literal_code : Coded LiteralView
literal_code =
    code_by (List ℕ × (Option (List ℕ) × Span))
    (coded× text_code (coded× (coded_option text_code) span.the_row.coded))
    (λ l. (l.rendered, (l.string, l.span)))
    (λ p. record { rendered = p.0; string = p.1.0; span = p.1.1 })
    (λ _. refl)

abbrev pub key_value_code : Coded ((Option PathNode × SyntaxContext) × Option LiteralView)
key_value_code = coded× path_code (coded_option literal_code)

abbrev pub tokens_code : Coded ((Option PathNode × SyntaxContext) × List ℕ)
tokens_code = coded× path_code text_code

abbrev mutual
  pub meta_to : MetaView → Gv
  meta_to (path_meta p x) = gcons (gnum 0) (path_code.code (p, x))
  meta_to (key_value_meta p v x) = gcons (gnum 1) (key_value_code.code ((p, x), v))
  meta_to (token_tree_meta p t x) = gcons (gnum 2) (tokens_code.code ((p, x), t))
  meta_to (cfg_meta c) = gcons (gnum 3) (cfg_to c)
  meta_to (cfg_attr_meta c ms) = gcons (gnum 4) (gcons (cfg_to c) (metas_to ms))
  meta_to (unsafe_meta m) = gcons (gnum 5) (meta_to m)

  pub metas_to : MetaViews → Gv
  metas_to no_metas = gnil
  metas_to (meta_and m ms) = gcons (meta_to m) (metas_to ms)

mutual
  pub meta_inj : (m n : MetaView) → meta_to m ≡ meta_to n → m ≡ n
  meta_inj (path_meta p x) (path_meta q y) h = ap (λ r. path_meta r.0 r.1) (path_code.inj (p, x) (q, y) (ap behind_code h))
  meta_inj (key_value_meta p v x) (key_value_meta q w y) h = ap (λ r. key_value_meta r.0.0 r.1 r.0.1) (key_value_code.inj ((p, x), v) ((q, y), w) (ap behind_code h))
  meta_inj (token_tree_meta p t x) (token_tree_meta q u y) h = ap (λ r. token_tree_meta r.0.0 r.1 r.0.1) (tokens_code.inj ((p, x), t) ((q, y), u) (ap behind_code h))
  meta_inj (cfg_meta c) (cfg_meta d) h = ap cfg_meta (cfg_inj c d (ap behind_code h))
  meta_inj (cfg_attr_meta c ms) (cfg_attr_meta d ns) h =
      λ i. cfg_attr_meta (cfg_inj c d (ap (λ g. front_code (behind_code g)) h) i) (metas_inj ms ns (ap (λ g. behind_code (behind_code g)) h) i)
  meta_inj (unsafe_meta m) (unsafe_meta n) h = ap unsafe_meta (meta_inj m n (ap behind_code h))
  meta_inj _ _ h = cc

  metas_inj : (ms ns : MetaViews) → metas_to ms ≡ metas_to ns → ms ≡ ns
  metas_inj no_metas no_metas h = refl
  metas_inj (meta_and m ms) (meta_and n ns) h = λ i. meta_and (meta_inj m n (ap front_code h) i) (metas_inj ms ns (ap behind_code h) i)
  metas_inj _ _ h = cc

abbrev pub meta_code : Coded MetaView
meta_code = record { code = meta_to; inj = meta_inj }

-- the attributes of a node or of a crate
abbrev pub attrs_code : Coded (List MetaView)
attrs_code = coded_list meta_code
