-- A code of unfoldings.
use Rattle.std.specs.Prelude.{◌≡◌, ℕ, List, Option, refl}
use Rattle.std.specs.Coded.{Coded, code_by, coded×, coded_list, coded_option, coded_bool, coded_ℕ}
use Rattle.std.proofs.Common.{ap, arith}
use base.Stored.{Gv, gnil, gnum, gcons}
use Rattle.hir_input.specs.declared.ids.SyntaxContext.{SyntaxContext}
use Rattle.hir_input.specs.declared.expand_to.ExpandTo.{ExpandTo}
use Rattle.hir_input.specs.contracts.ids.SyntaxContext as context
use Rattle.hir_input.specs.contracts.expand_to.ExpandTo as expand_to
use Rattle.hir_input.specs.contracts.mod_path.ModPath as mod_path
use Rattle.hir_input.specs.Code.Parts.{front_code, behind_code, number_of}
use Rattle.hir_input.specs.Path.{Path}
use Rattle.hir_input.specs.declared.ast.PlainKind.{PlainKind}
use Rattle.hir_input.specs.contracts.ast.PlainKind as plain_kind
use Rattle.item_tree_attrs.specs.Collected.{Collected}
use Rattle.item_tree_attrs.specs.Code.Collected.{collected_code}
use Rattle.item_tree.specs.declared.visibility.RawVisibility.{RawVisibility}
use Rattle.item_tree.specs.contracts.visibility.RawVisibility as raw
use Rattle.item_tree.specs.declared.items.FieldsShape.{FieldsShape}
use Rattle.item_tree.specs.contracts.items.FieldsShape as shape
use Rattle.item_tree.specs.declared.use_tree.ImportAlias.{ImportAlias}
use Rattle.item_tree.specs.contracts.use_tree.ImportAlias as alias
use Rattle.item_tree.specs.Tree.{Tree}
use Rattle.item_tree.specs.Code.Tree.{tree_code}
use Rattle.item_tree.specs.Node.{Ctor, no_ctor, ctor_with, ctor_with_min, Leaf, plain, constant, struct_item, outline, use_item, extern_crate, impl_item, macro_call, macro_rules, Trunk, inline, extern_block, Head, Node, leaf, parent, Forest, empty, more, Unfolding}

abbrev pub head_code : Coded Head
head_code =
    code_by (ℕ × (ℕ × Collected))
    (coded× coded_ℕ (coded× coded_ℕ collected_code))
    (λ h. (h.hash, (h.number, h.attrs)))
    (λ p. record { hash = p.0; number = p.1.0; attrs = p.1.1 })
    (λ _. refl)

abbrev pub vis_code : Coded RawVisibility
vis_code = raw.the_row.coded

abbrev pub leaf_name_code : Coded (List ℕ)
leaf_name_code = coded_list coded_ℕ

abbrev pub ctor_to : Ctor RawVisibility → Gv
ctor_to no_ctor = gnil
ctor_to (ctor_with v) = gcons (gnum 0) (vis_code.code v)
ctor_to (ctor_with_min vs) = gcons (gnum 1) ((coded_list vis_code).code vs)

pub ctor_inj : (c d : Ctor RawVisibility) → ctor_to c ≡ ctor_to d → c ≡ d
ctor_inj no_ctor no_ctor h = refl
ctor_inj (ctor_with v) (ctor_with w) h = ap ctor_with (vis_code.inj v w (ap behind_code h))
ctor_inj (ctor_with_min vs) (ctor_with_min ws) h = ap ctor_with_min ((coded_list vis_code).inj vs ws (ap behind_code h))
ctor_inj _ _ h = cc

abbrev pub ctor_code : Coded (Ctor RawVisibility)
ctor_code = record { code = ctor_to; inj = ctor_inj }

-- ---- items without their children

abbrev pub plain_leaf_code : Coded (PlainKind × (List ℕ × RawVisibility))
plain_leaf_code = coded× plain_kind.the_row.coded (coded× leaf_name_code vis_code)

abbrev pub constant_code : Coded (Option (List ℕ) × RawVisibility)
constant_code = coded× (coded_option leaf_name_code) vis_code

abbrev pub struct_leaf_code : Coded ((List ℕ × RawVisibility) × (FieldsShape × Ctor RawVisibility))
struct_leaf_code = coded× (coded× leaf_name_code vis_code) (coded× shape.the_row.coded ctor_code)

abbrev pub named_leaf_code : Coded (List ℕ × RawVisibility)
named_leaf_code = coded× leaf_name_code vis_code

abbrev pub use_leaf_code : Coded (RawVisibility × Tree)
use_leaf_code = coded× vis_code tree_code

abbrev pub extern_crate_leaf_code : Coded ((List ℕ × RawVisibility) × Option ImportAlias)
extern_crate_leaf_code = coded× named_leaf_code (coded_option alias.the_row.coded)

abbrev pub call_leaf_code : Coded (Path × (ExpandTo × SyntaxContext))
call_leaf_code = coded× mod_path.the_row.coded (coded× expand_to.the_row.coded context.the_row.coded)

abbrev pub leaf_to : Leaf RawVisibility → Gv
leaf_to (plain k n v) = gcons (gnum 0) (plain_leaf_code.code (k, (n, v)))
leaf_to (constant n v) = gcons (gnum 1) (constant_code.code (n, v))
leaf_to (struct_item n v s c) = gcons (gnum 2) (struct_leaf_code.code ((n, v), (s, c)))
leaf_to (outline n v) = gcons (gnum 3) (named_leaf_code.code (n, v))
leaf_to (use_item v t) = gcons (gnum 4) (use_leaf_code.code (v, t))
leaf_to (extern_crate n v a) = gcons (gnum 5) (extern_crate_leaf_code.code ((n, v), a))
leaf_to (impl_item b) = gcons (gnum 6) (coded_bool.code b)
leaf_to (macro_call p e x) = gcons (gnum 7) (call_leaf_code.code (p, (e, x)))
leaf_to (macro_rules n) = gcons (gnum 8) (leaf_name_code.code n)

pub leaf_inj : (l m : Leaf RawVisibility) → leaf_to l ≡ leaf_to m → l ≡ m
leaf_inj (plain k n v) (plain l m w) h = ap (λ p. plain p.0 p.1.0 p.1.1) (plain_leaf_code.inj (k, (n, v)) (l, (m, w)) (ap behind_code h))
leaf_inj (constant n v) (constant m w) h = ap (λ p. constant p.0 p.1) (constant_code.inj (n, v) (m, w) (ap behind_code h))
leaf_inj (struct_item n v s c) (struct_item m w t d) h = ap (λ p. struct_item p.0.0 p.0.1 p.1.0 p.1.1) (struct_leaf_code.inj ((n, v), (s, c)) ((m, w), (t, d)) (ap behind_code h))
leaf_inj (outline n v) (outline m w) h = ap (λ p. outline p.0 p.1) (named_leaf_code.inj (n, v) (m, w) (ap behind_code h))
leaf_inj (use_item v t) (use_item w u) h = ap (λ p. use_item p.0 p.1) (use_leaf_code.inj (v, t) (w, u) (ap behind_code h))
leaf_inj (extern_crate n v a) (extern_crate m w b) h = ap (λ p. extern_crate p.0.0 p.0.1 p.1) (extern_crate_leaf_code.inj ((n, v), a) ((m, w), b) (ap behind_code h))
leaf_inj (impl_item b) (impl_item c) h = ap impl_item (coded_bool.inj b c (ap behind_code h))
leaf_inj (macro_call p e x) (macro_call q f y) h = ap (λ z. macro_call z.0 z.1.0 z.1.1) (call_leaf_code.inj (p, (e, x)) (q, (f, y)) (ap behind_code h))
leaf_inj (macro_rules n) (macro_rules m) h = ap macro_rules (leaf_name_code.inj n m (ap behind_code h))
leaf_inj l m h = let e : number_of (leaf_to l) ≡ number_of (leaf_to m) = ap number_of h in absurd (omega arith)

abbrev pub leaf_code : Coded (Leaf RawVisibility)
leaf_code = record { code = leaf_to; inj = leaf_inj }

abbrev pub trunk_to : Trunk RawVisibility → Gv
trunk_to (inline n v) = gcons (gnum 0) (named_leaf_code.code (n, v))
trunk_to extern_block = gnil

pub trunk_inj : (t u : Trunk RawVisibility) → trunk_to t ≡ trunk_to u → t ≡ u
trunk_inj (inline n v) (inline m w) h = ap (λ p. inline p.0 p.1) (named_leaf_code.inj (n, v) (m, w) (ap behind_code h))
trunk_inj extern_block extern_block h = refl
trunk_inj _ _ h = cc

abbrev pub trunk_code : Coded (Trunk RawVisibility)
trunk_code = record { code = trunk_to; inj = trunk_inj }

-- ---- nodes and forests

abbrev pub leaf_node_code : Coded (Head × Leaf RawVisibility)
leaf_node_code = coded× head_code leaf_code

abbrev pub parent_code : Coded (Head × Trunk RawVisibility)
parent_code = coded× head_code trunk_code

abbrev mutual
  pub node_to : Node → Gv
  node_to (leaf h l) = gcons (gnum 0) (leaf_node_code.code (h, l))
  node_to (parent h t f) = gcons (gcons (gnum 1) (parent_code.code (h, t))) (forest_to f)

  pub forest_to : Forest → Gv
  forest_to empty = gnil
  forest_to (more n f) = gcons (node_to n) (forest_to f)

mutual
  pub node_inj : (m n : Node) → node_to m ≡ node_to n → m ≡ n
  node_inj (leaf h l) (leaf i m) e = ap (λ p. leaf p.0 p.1) (leaf_node_code.inj (h, l) (i, m) (ap behind_code e))
  node_inj (parent h t f) (parent i u g) e =
      let p = parent_code.inj (h, t) (i, u) (ap (λ z. behind_code (front_code z)) e) in
      let q = forest_inj f g (ap behind_code e) in
      λ k. parent (p k).0 (p k).1 (q k)
  node_inj m n e = let d : number_of (node_to m) ≡ number_of (node_to n) = ap number_of e in absurd (omega arith)

  pub forest_inj : (f g : Forest) → forest_to f ≡ forest_to g → f ≡ g
  forest_inj empty empty e = refl
  forest_inj (more m f) (more n g) e = λ k. more (node_inj m n (ap front_code e) k) (forest_inj f g (ap behind_code e) k)
  forest_inj _ _ e = cc

abbrev pub forest_code : Coded Forest
forest_code = record { code = forest_to; inj = forest_inj }

abbrev pub unfolding_code : Coded Unfolding
unfolding_code =
    code_by (Collected × Forest)
    (coded× collected_code forest_code)
    (λ u. (u.top_attrs, u.forest))
    (λ p. record { top_attrs = p.0; forest = p.1 })
    (λ _. refl)
