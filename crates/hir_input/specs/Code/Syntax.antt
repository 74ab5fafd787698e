-- A code of the syntax's view.
use Rattle.std.specs.Prelude.{◌≡◌, ℕ, List, Bool, Option, refl}
use Rattle.std.specs.Coded.{Coded, code_by, coded×, coded_list, coded_option, coded_bool, coded_ℕ}
use Rattle.std.proofs.Common.{ap, arith}
use base.Stored.{Gv, gnil, gnum, gcons}
use Rattle.hir_input.specs.declared.ids.SyntaxContext.{SyntaxContext}
use Rattle.hir_input.specs.declared.expand_to.ExpandTo.{ExpandTo}
use Rattle.hir_input.specs.declared.ast.PathNode.{PathNode}
use Rattle.hir_input.specs.declared.ast.Rename.{Rename}
use Rattle.hir_input.specs.declared.ast.Visibility.{Visibility}
use Rattle.hir_input.specs.contracts.ids.SyntaxContext as context
use Rattle.hir_input.specs.contracts.expand_to.ExpandTo as expand_to
use Rattle.hir_input.specs.contracts.ast.PathNode as path_node
use Rattle.hir_input.specs.contracts.ast.PlainKind as plain_kind
use Rattle.hir_input.specs.contracts.ast.Rename as rename
use Rattle.hir_input.specs.contracts.ast.Visibility as visibility
use Rattle.hir_input.specs.Attr.{MetaView}
use Rattle.hir_input.specs.Code.Parts.{front_code, behind_code, number_of}
use Rattle.hir_input.specs.Code.Attr.{attrs_code}
use Rattle.hir_input.specs.UseTreeView.{UseTreeView}
use Rattle.hir_input.specs.Code.UseTree.{use_tree_code}
use Rattle.hir_input.specs.Syntax.{NodeView, NamedView, UseView, CallView, FieldsView, record_fields, tuple_fields, no_fields, ItemView, plain_item, const_item, struct_item, bare_module, listed_module, use_item, extern_crate, bare_extern_block, listed_extern_block, impl_item, macro_call, macro_rules, asm_item, ItemViews, no_items, item_and, StmtView, item_stmt, call_stmt, other_stmt, TailView, no_tail, call_tail, other_tail, SyntaxView, source_file, macro_items, macro_stmts, block_expr, error}
use Rattle.hir_input.specs.declared.ast.PlainKind.{PlainKind}

-- ---- nodes without the items in them

abbrev pub node_view_code : Coded NodeView
node_view_code =
    code_by (ℕ × (ℕ × (List MetaView × List ℕ)))
    (coded× coded_ℕ (coded× coded_ℕ (coded× attrs_code (coded_list coded_ℕ))))
    (λ n. (n.hash, (n.number, (n.attrs, n.body))))
    (λ p. record { hash = p.0; number = p.1.0; attrs = p.1.1.0; body = p.1.1.1 })
    (λ _. refl)

abbrev pub name_code : Coded (Option (List ℕ))
name_code = coded_option (coded_list coded_ℕ)

abbrev pub visibility_code : Coded (Option Visibility)
visibility_code = coded_option visibility.the_row.coded

abbrev pub named_code : Coded NamedView
named_code =
    code_by (NodeView × (Option (List ℕ) × Option Visibility))
    (coded× node_view_code (coded× name_code visibility_code))
    (λ n. (n.node, (n.name, n.visibility)))
    (λ p. record { node = p.0; name = p.1.0; visibility = p.1.1 })
    (λ _. refl)

abbrev pub use_code : Coded UseView
use_code =
    code_by (NodeView × (Option Visibility × Option UseTreeView))
    (coded× node_view_code (coded× visibility_code (coded_option use_tree_code)))
    (λ u. (u.node, (u.visibility, u.use_tree)))
    (λ p. record { node = p.0; visibility = p.1.0; use_tree = p.1.1 })
    (λ _. refl)

abbrev pub call_code : Coded CallView
call_code =
    code_by (NodeView × (Option PathNode × (ExpandTo × SyntaxContext)))
    (coded× node_view_code (coded× (coded_option path_node.the_row.coded) (coded× expand_to.the_row.coded context.the_row.coded)))
    (λ c. (c.node, (c.path, (c.expand_to, c.ctxt))))
    (λ p. record { node = p.0; path = p.1.0; expand_to = p.1.1.0; ctxt = p.1.1.1 })
    (λ _. refl)

abbrev pub fields_to : FieldsView → Gv
fields_to record_fields = gnum 0
fields_to (tuple_fields fields) = gcons gnil ((coded_list visibility_code).code fields)
fields_to no_fields = gnum 1

pub fields_inj : (x y : FieldsView) → fields_to x ≡ fields_to y → x ≡ y
fields_inj record_fields record_fields h = refl
fields_inj (tuple_fields xs) (tuple_fields ys) h = ap tuple_fields ((coded_list visibility_code).inj xs ys (ap behind_code h))
fields_inj no_fields no_fields h = refl
fields_inj _ _ h = cc

abbrev pub fields_code : Coded FieldsView
fields_code = record { code = fields_to; inj = fields_inj }

-- ---- what items are made of

abbrev pub plain_code : Coded (PlainKind × NamedView)
plain_code = coded× plain_kind.the_row.coded named_code

abbrev pub struct_code : Coded (NamedView × FieldsView)
struct_code = coded× named_code fields_code

abbrev pub module_code : Coded (NamedView × Bool)
module_code = coded× named_code coded_bool

abbrev pub extern_crate_code : Coded (NamedView × Option Rename)
extern_crate_code = coded× named_code (coded_option rename.the_row.coded)

abbrev pub impl_code : Coded (NodeView × Bool)
impl_code = coded× node_view_code coded_bool

abbrev pub macro_rules_code : Coded (NodeView × Option (List ℕ))
macro_rules_code = coded× node_view_code name_code

-- ---- items

abbrev mutual
  pub item_to : ItemView → Gv
  item_to (plain_item k n) = gcons (gnum 0) (plain_code.code (k, n))
  item_to (const_item n) = gcons (gnum 1) (named_code.code n)
  item_to (struct_item n fields) = gcons (gnum 2) (struct_code.code (n, fields))
  item_to (bare_module n b) = gcons (gnum 3) (module_code.code (n, b))
  item_to (listed_module n b is) = gcons (gnum 4) (gcons (module_code.code (n, b)) (items_to is))
  item_to (use_item u) = gcons (gnum 5) (use_code.code u)
  item_to (extern_crate n r) = gcons (gnum 6) (extern_crate_code.code (n, r))
  item_to (bare_extern_block n) = gcons (gnum 7) (node_view_code.code n)
  item_to (listed_extern_block n is) = gcons (gnum 8) (gcons (node_view_code.code n) (items_to is))
  item_to (impl_item n b) = gcons (gnum 9) (impl_code.code (n, b))
  item_to (macro_call c) = gcons (gnum 10) (call_code.code c)
  item_to (macro_rules n name) = gcons (gnum 11) (macro_rules_code.code (n, name))
  item_to (asm_item n) = gcons (gnum 12) (node_view_code.code n)

  pub items_to : ItemViews → Gv
  items_to no_items = gnil
  items_to (item_and i is) = gcons (item_to i) (items_to is)

mutual
  pub item_inj : (i j : ItemView) → item_to i ≡ item_to j → i ≡ j
  item_inj (plain_item k n) (plain_item l m) h = ap (λ p. plain_item p.0 p.1) (plain_code.inj (k, n) (l, m) (ap behind_code h))
  item_inj (const_item n) (const_item m) h = ap const_item (named_code.inj n m (ap behind_code h))
  item_inj (struct_item n x) (struct_item m y) h = ap (λ p. struct_item p.0 p.1) (struct_code.inj (n, x) (m, y) (ap behind_code h))
  item_inj (bare_module n b) (bare_module m c) h = ap (λ p. bare_module p.0 p.1) (module_code.inj (n, b) (m, c) (ap behind_code h))
  item_inj (listed_module n b is) (listed_module m c js) h =
      let p = module_code.inj (n, b) (m, c) (ap (λ g. front_code (behind_code g)) h) in
      let q = items_inj is js (ap (λ g. behind_code (behind_code g)) h) in
      λ k. listed_module (p k).0 (p k).1 (q k)
  item_inj (use_item u) (use_item v) h = ap use_item (use_code.inj u v (ap behind_code h))
  item_inj (extern_crate n r) (extern_crate m s) h = ap (λ p. extern_crate p.0 p.1) (extern_crate_code.inj (n, r) (m, s) (ap behind_code h))
  item_inj (bare_extern_block n) (bare_extern_block m) h = ap bare_extern_block (node_view_code.inj n m (ap behind_code h))
  item_inj (listed_extern_block n is) (listed_extern_block m js) h =
      let p = node_view_code.inj n m (ap (λ g. front_code (behind_code g)) h) in
      let q = items_inj is js (ap (λ g. behind_code (behind_code g)) h) in
      λ k. listed_extern_block (p k) (q k)
  item_inj (impl_item n b) (impl_item m c) h = ap (λ p. impl_item p.0 p.1) (impl_code.inj (n, b) (m, c) (ap behind_code h))
  item_inj (macro_call c) (macro_call d) h = ap macro_call (call_code.inj c d (ap behind_code h))
  item_inj (macro_rules n x) (macro_rules m y) h = ap (λ p. macro_rules p.0 p.1) (macro_rules_code.inj (n, x) (m, y) (ap behind_code h))
  item_inj (asm_item n) (asm_item m) h = ap asm_item (node_view_code.inj n m (ap behind_code h))
  item_inj i j h = let e : number_of (item_to i) ≡ number_of (item_to j) = ap number_of h in absurd (omega arith)

  pub items_inj : (is js : ItemViews) → items_to is ≡ items_to js → is ≡ js
  items_inj no_items no_items h = refl
  items_inj (item_and i is) (item_and j js) h = λ k. item_and (item_inj i j (ap front_code h) k) (items_inj is js (ap behind_code h) k)
  items_inj _ _ h = cc

abbrev pub items_code : Coded ItemViews
items_code = record { code = items_to; inj = items_inj }

-- ---- syntaxes

abbrev pub stmt_to : StmtView → Gv
stmt_to other_stmt = gnum 2
stmt_to (item_stmt i) = gcons (gnum 0) (item_to i)
stmt_to (call_stmt c) = gcons (gnum 1) (call_code.code c)

pub stmt_inj : (s t : StmtView) → stmt_to s ≡ stmt_to t → s ≡ t
stmt_inj other_stmt other_stmt h = refl
stmt_inj (item_stmt i) (item_stmt j) h = ap item_stmt (item_inj i j (ap behind_code h))
stmt_inj (call_stmt c) (call_stmt d) h = ap call_stmt (call_code.inj c d (ap behind_code h))
stmt_inj s t h = let e : number_of (stmt_to s) ≡ number_of (stmt_to t) = ap number_of h in absurd (omega arith)

abbrev pub stmt_code : Coded StmtView
stmt_code = record { code = stmt_to; inj = stmt_inj }

abbrev pub tail_to : TailView → Gv
tail_to no_tail = gnum 0
tail_to (call_tail c) = gcons gnil (call_code.code c)
tail_to other_tail = gnum 1

pub tail_inj : (s t : TailView) → tail_to s ≡ tail_to t → s ≡ t
tail_inj no_tail no_tail h = refl
tail_inj (call_tail c) (call_tail d) h = ap call_tail (call_code.inj c d (ap behind_code h))
tail_inj other_tail other_tail h = refl
tail_inj _ _ h = cc

abbrev pub tail_code : Coded TailView
tail_code = record { code = tail_to; inj = tail_inj }

abbrev pub source_code : Coded (List MetaView × ItemViews)
source_code = coded× attrs_code items_code

abbrev pub stmts_code : Coded (List StmtView × TailView)
stmts_code = coded× (coded_list stmt_code) tail_code

abbrev pub block_code : Coded (List MetaView × (List StmtView × TailView))
block_code = coded× attrs_code stmts_code

abbrev pub syntax_to : SyntaxView → Gv
syntax_to error = gnum 4
syntax_to (source_file attrs is) = gcons (gnum 0) (source_code.code (attrs, is))
syntax_to (macro_items is) = gcons (gnum 1) (items_to is)
syntax_to (macro_stmts stmts tail) = gcons (gnum 2) (stmts_code.code (stmts, tail))
syntax_to (block_expr attrs stmts tail) = gcons (gnum 3) (block_code.code (attrs, (stmts, tail)))

pub syntax_inj : (s t : SyntaxView) → syntax_to s ≡ syntax_to t → s ≡ t
syntax_inj error error h = refl
syntax_inj (source_file attrs is) (source_file others js) h = ap (λ p. source_file p.0 p.1) (source_code.inj (attrs, is) (others, js) (ap behind_code h))
syntax_inj (macro_items is) (macro_items js) h = ap macro_items (items_inj is js (ap behind_code h))
syntax_inj (macro_stmts stmts tail) (macro_stmts others last) h = ap (λ p. macro_stmts p.0 p.1) (stmts_code.inj (stmts, tail) (others, last) (ap behind_code h))
syntax_inj (block_expr attrs stmts tail) (block_expr metas others last) h = ap (λ p. block_expr p.0 p.1.0 p.1.1) (block_code.inj (attrs, (stmts, tail)) (metas, (others, last)) (ap behind_code h))
syntax_inj s t h = let e : number_of (syntax_to s) ≡ number_of (syntax_to t) = ap number_of h in absurd (omega arith)

abbrev pub syntax_code : Coded SyntaxView
syntax_code = record { code = syntax_to; inj = syntax_inj }
