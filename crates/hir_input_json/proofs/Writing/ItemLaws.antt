-- An item that is written is read again.
use Rattle.hir_input.specs.declared.ast.PlainKind.TheVariants as plain_kind
use Rattle.std.proofs.Common.{◌≡◌, List, [], ◌∷◌, Bool, false, IfSome, Option, Some, None, codes, refl, ap, subst, ◌∙◌}
use Rattle.serde_json.specs.Data.{Data, null, array, object}
use Rattle.serde_json.specs.Written.{has_float}
use Rattle.hir_input_json.proofs.Writing.Common.{NodeView, NamedView, CallView, PlainKind, ItemView, ItemViews, plain_item, const_item, struct_item, bare_module, listed_module, use_item, extern_crate, bare_extern_block, listed_extern_block, impl_item, macro_call, macro_rules, asm_item, no_items, item_and, extern_block_from, items_from, module_from, Reading, right, reading_map, field, flag, list_of, maybe, maybe_at, optional_at, unless_null, item, extern_item, named_item, item_reads_itself, Holds, call_data, extern_block_data, extern_block_object, extern_item_data, extern_items_data, item_data, items_data, kind_word, module_data, module_object, named_data, node_data, call_kept, item_kept, items_kept, named_kept, node_kept}
use Rattle.hir_input_json.specs.Reading.{◌>>=◌}
use Rattle.hir_input_json.proofs.Writing.WrittenParts.{HoldAll, bind, held_of, mapped, none_of, weaker}
use Rattle.hir_input_json.proofs.Writing.KindLaws.{CallHolds, asm_law, call_law, extern_crate_law, impl_law, macro_rules_law, plain_law, struct_law, use_law, with_part}
use Rattle.hir_input_json.proofs.Writing.NodeLaws.{NamedHolds, NodeHolds, named_law, named_reads, node_law, node_reads}

plain_item_law : (kind : PlainKind) (bodies : Bool) (n : NamedView) → IfSome (item_data bodies (plain_item kind n)) (Holds item (plain_item kind (named_kept bodies n)))
unfolding named_item
plain_item_law plain_kind.Fn = plain_law item (codes "fn") (plain_item plain_kind.Fn) (λ ms e. item_reads_itself (object ms) ∙ rw e refl)
plain_item_law kind = plain_law item (kind_word kind) (plain_item kind) (λ ms e. item_reads_itself (object ms) ∙ rw e refl)

const_law : (bodies : Bool) (n : NamedView) → IfSome (item_data bodies (const_item n)) (Holds item (const_item (named_kept bodies n)))
unfolding named_item
const_law = plain_law item (codes "const") const_item (λ ms e. item_reads_itself (object ms) ∙ rw e refl)

call_item_law : (bodies : Bool) (c : CallView) → IfSome (call_data bodies c) (Holds item (macro_call (call_kept bodies c)))
call_item_law bodies c =
    weaker (call_data bodies c) (CallHolds bodies c) (Holds item (macro_call (call_kept bodies c))) (call_law bodies c)
    (λ d h. record { there = h.there; reads = item_reads_itself d ∙ rw (h.object, h.is) (ap (reading_map macro_call) h.reads); exact = h.exact })

-- ---- extern blocks

extern_item_law : (bodies : Bool) (i : ItemView) → IfSome (extern_item_data bodies i) (Holds extern_item (item_kept bodies i))
unfolding extern_item
extern_item_law bodies (plain_item plain_kind.Fn n) = plain_law extern_item (codes "fn") (plain_item plain_kind.Fn) (λ ms e. rw e refl) bodies n
extern_item_law bodies (plain_item plain_kind.Static n) = plain_law extern_item (codes "static") (plain_item plain_kind.Static) (λ ms e. rw e refl) bodies n
extern_item_law bodies (plain_item plain_kind.TypeAlias n) = plain_law extern_item (codes "type_alias") (plain_item plain_kind.TypeAlias) (λ ms e. rw e refl) bodies n
extern_item_law bodies (macro_call c) =
    weaker (call_data bodies c) (CallHolds bodies c) (Holds extern_item (macro_call (call_kept bodies c))) (call_law bodies c)
    (λ d h. record { there = h.there; reads = rw (h.object, h.is) (ap (reading_map macro_call) h.reads); exact = h.exact })
extern_item_law bodies i = tt

extern_items_law : (bodies : Bool) (is : ItemViews) → IfSome (extern_items_data bodies is) (HoldAll extern_item items_from (items_kept bodies is))
extern_items_law bodies no_items = none_of extern_item items_from
extern_items_law bodies (item_and i is) =
    held_of extern_item items_from item_and (item_kept bodies i) (items_kept bodies is) (extern_item_data bodies i) (extern_items_data bodies is) (λ all. refl) (extern_item_law bodies i) (extern_items_law bodies is)

-- over the reading of the list that is written
block_law : (bodies : Bool) (n : NodeView) (list : Data) (is : Option (List ItemView)) → maybe (list_of extern_item) (unless_null list) ≡ right is → has_float list ≡ false
    → IfSome (extern_block_data bodies n list) (Holds item (extern_block_from (node_kept bodies n) is))
unfolding field
block_law bodies n list is reads exact =
    mapped (node_data bodies n) _ (NodeHolds bodies n) (Holds item (extern_block_from (node_kept bodies n) is)) (node_law bodies n) (λ nd h.
    record {
      there = refl;
      reads = item_reads_itself _
          ∙ ap (with_part extern_block_from (maybe_at (codes "items") (list_of extern_item) (extern_block_object nd list))) (node_reads bodies n nd (extern_block_object nd list) h refl refl refl refl)
          ∙ rw reads refl;
      exact = rw (h.attrs.exact, h.body.exact, h.hash.exact, exact, h.number.exact) refl;
    })

listed_block_law : (bodies : Bool) (n : NodeView) (is : ItemViews) → IfSome (item_data bodies (listed_extern_block n is)) (Holds item (item_kept bodies (listed_extern_block n is)))
listed_block_law bodies n is =
    bind (extern_items_data bodies is) _ (HoldAll extern_item items_from (items_kept bodies is)) (Holds item (item_kept bodies (listed_extern_block n is))) (extern_items_law bodies is) (λ ds h.
    subst (λ us. IfSome (extern_block_data bodies n (array ds)) (Holds item (listed_extern_block (node_kept bodies n) us))) h.made
    (block_law bodies n (array ds) (Some h.list) (ap (reading_map Some) (h.each.reads 0)) h.each.exact))

-- ---- modules

-- a module, over what was read of the keys of every item
abbrev module_by : Data → Reading NamedView → Reading ItemView
module_by d r = do
  n ← r
  semicolon ← optional_at false (codes "semicolon") flag d
  items ← maybe_at (codes "items") (list_of item) d
  right (module_from n semicolon items)

module_law : (bodies : Bool) (n : NamedView) (semicolon : Bool) (list : Data) (is : Option (List ItemView)) → maybe (list_of item) (unless_null list) ≡ right is → has_float list ≡ false
    → IfSome (module_data bodies n semicolon list) (Holds item (module_from (named_kept bodies n) semicolon is))
unfolding field
module_law bodies n semicolon list is reads exact =
    mapped (named_data bodies n) _ (NamedHolds bodies n) (Holds item (module_from (named_kept bodies n) semicolon is)) (named_law bodies n) (λ nd h.
    record {
      there = refl;
      reads = item_reads_itself _
          ∙ ap (module_by (module_object nd semicolon list)) (named_reads bodies n nd (module_object nd semicolon list) h refl refl refl refl refl refl)
          ∙ rw reads refl;
      exact = rw (h.node.attrs.exact, h.node.body.exact, h.node.hash.exact, exact, h.name.exact, h.node.number.exact, h.vis.exact) refl;
    })

mutual
  pub item_law : (bodies : Bool) (i : ItemView) → IfSome (item_data bodies i) (Holds item (item_kept bodies i))
  item_law bodies (plain_item kind n) = plain_item_law kind bodies n
  item_law bodies (const_item n) = const_law bodies n
  item_law bodies (struct_item n fields) = struct_law bodies n fields
  item_law bodies (bare_module n semicolon) = module_law bodies n semicolon null None refl refl
  item_law bodies (listed_module n semicolon is) =
      bind (items_data bodies is) _ (HoldAll item items_from (items_kept bodies is)) (Holds item (item_kept bodies (listed_module n semicolon is))) (items_law bodies is) (λ ds h.
      subst (λ us. IfSome (module_data bodies n semicolon (array ds)) (Holds item (listed_module (named_kept bodies n) semicolon us))) h.made
      (module_law bodies n semicolon (array ds) (Some h.list) (ap (reading_map Some) (h.each.reads 0)) h.each.exact))
  item_law bodies (use_item u) = use_law bodies u
  item_law bodies (extern_crate n rename) = extern_crate_law bodies n rename
  item_law bodies (bare_extern_block n) = block_law bodies n null None refl refl
  item_law bodies (listed_extern_block n is) = listed_block_law bodies n is
  item_law bodies (impl_item n of_trait) = impl_law bodies n of_trait
  item_law bodies (macro_call c) = call_item_law bodies c
  item_law bodies (macro_rules n name) = macro_rules_law bodies n name
  item_law bodies (asm_item n) = asm_law bodies n

  pub items_law : (bodies : Bool) (is : ItemViews) → IfSome (items_data bodies is) (HoldAll item items_from (items_kept bodies is))
  items_law bodies no_items = none_of item items_from
  items_law bodies (item_and i is) =
      held_of item items_from item_and (item_kept bodies i) (items_kept bodies is) (item_data bodies i) (items_data bodies is) (λ all. refl) (item_law bodies i) (items_law bodies is)
