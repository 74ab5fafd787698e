-- The reading of an item.
use Rattle.std.specs.Prelude.{ℕ, ◌^◌, List, [], codes, false, Option}
use Rattle.serde_json.specs.Data.{Data}
use Rattle.serde_json.specs.Find.{as_str}
use Rattle.hir_input.specs.declared.ast.PlainKind.TheVariants as plain_kind
use Rattle.hir_input.specs.declared.ast.Visibility.{Visibility}
use Rattle.hir_input.specs.declared.expand_to.ExpandTo.{ExpandTo}
use Rattle.hir_input.specs.declared.expand_to.ExpandTo.TheVariants.{Statements, Items, Pattern, Ty, Expr}
use Rattle.hir_input.specs.Syntax.{NodeView, NamedView, FieldsView, record_fields, tuple_fields, no_fields, CallView, ItemView, plain_item, const_item, struct_item, module_from, use_item, extern_crate, extern_block_from, impl_item, macro_call, macro_rules, asm_item}
use Rattle.hir_input.specs.declared.ast.PlainKind.{PlainKind}
use Rattle.hir_input_json.specs.Reading.{Reading, right, wrong, reading_map, reading_both, ◌>>=◌}
use Rattle.hir_input_json.specs.Forms.{required_at, optional_at, maybe, maybe_at, by_form, on_word, wrong_at, unless_null, whole_form, text_form, flag, identifier_form, object_by, list_of}
use Rattle.hir_input_json.specs.Literals.{context_at}
use Rattle.hir_input_json.specs.Metas.{attrs_form}
use Rattle.hir_input_json.specs.Nested.{nested_reading}
use Rattle.hir_input_json.specs.Paths.{path_at, vis_form}
use Rattle.hir_input_json.specs.UseTrees.{rename_form, use_tree_form}

-- the keys of every item
abbrev pub node_form : Data → Reading NodeView
node_form d = do
  hash ← optional_at 0 (codes "hash") (whole_form (2 ^ 16)) d
  number ← optional_at 0 (codes "number") (whole_form (2 ^ 32)) d
  attrs ← attrs_form d
  body ← optional_at [] (codes "body") text_form d
  right (record { hash = hash; number = number; attrs = attrs; body = body })

-- and of an item that may have a name and a visibility
abbrev pub named_form : Data → Reading NamedView
named_form d = do
  n ← node_form d
  called ← maybe_at (codes "name") identifier_form d
  vis ← maybe_at (codes "vis") vis_form d
  right (record { node = n; name = called; visibility = vis })

-- an item that differs from others of its parts in nothing but the kind
abbrev pub plain_form : PlainKind → Data → Reading ItemView
plain_form kind d = reading_map (plain_item kind) (named_form d)

-- the words for the fields of a struct that are no list
abbrev pub fields_word : List ℕ → Reading FieldsView
fields_word word = on_word word (codes "record") (right record_fields) (on_word word (codes "unit") (right no_fields) (wrong []))

-- a field of a tuple struct: its visibility, or a null for none
abbrev pub tuple_field : Data → Reading (Option Visibility)
tuple_field d = maybe vis_form (unless_null d)

-- the fields of a struct: a text or a list
abbrev pub fields_form : Data → Reading FieldsView
fields_form d = by_form (as_str d) fields_word (reading_map tuple_fields (list_of tuple_field d))

-- a struct, with its fields
abbrev pub struct_form : Data → Reading ItemView
struct_form d = reading_both struct_item (named_form d) (required_at (codes "fields") fields_form d)

-- a module, with its semicolon and its items
abbrev pub module_form : (Data → Reading ItemView) → Data → Reading ItemView
module_form item d = do
  n ← named_form d
  semicolon ← optional_at false (codes "semicolon") flag d
  items ← maybe_at (codes "items") (list_of item) d
  right (module_from n semicolon items)

-- a use, with its use tree, which may be absent
abbrev pub use_form : Data → Reading ItemView
use_form d = do
  n ← node_form d
  vis ← maybe_at (codes "vis") vis_form d
  tree ← maybe_at (codes "tree") use_tree_form d
  right (use_item (record { node = n; visibility = vis; use_tree = tree }))

-- an extern crate, with its rename
abbrev pub extern_crate_form : Data → Reading ItemView
extern_crate_form d = reading_both extern_crate (named_form d) (maybe_at (codes "rename") rename_form d)

-- an impl, of a trait or not
abbrev pub impl_form : Data → Reading ItemView
impl_form d = reading_both impl_item (node_form d) (optional_at false (codes "trait") flag d)

-- what a macro call expands to, by its word
abbrev pub expand_to : Data → Reading ExpandTo
expand_to d = do
  word ← text_form d
  on_word word (codes "Statements") (right Statements)
      (on_word word (codes "Items") (right Items)
      (on_word word (codes "Pattern") (right Pattern)
      (on_word word (codes "Type") (right Ty)
      (on_word word (codes "Expr") (right Expr)
      (wrong [])))))

-- items where it is absent
abbrev pub expand_to_at : Data → Reading ExpandTo
expand_to_at = optional_at Items (codes "expand_to") expand_to

-- a macro call, with its path, what it expands to and its context
abbrev pub call_form : Data → Reading CallView
call_form d = do
  n ← node_form d
  p ← path_at d
  expands ← expand_to_at d
  ctxt ← context_at d
  right (record { node = n; path = p; expand_to = expands; ctxt = ctxt })

abbrev pub macro_call_form : Data → Reading ItemView
macro_call_form d = reading_map macro_call (call_form d)

-- a macro by example, with its name
abbrev pub macro_rules_form : Data → Reading ItemView
macro_rules_form d = reading_both macro_rules (node_form d) (maybe_at (codes "name") identifier_form d)

-- an item of an extern block, by the word of its kind
unfoldable pub extern_item : Data → Reading ItemView
extern_item d = object_by (codes "is") d (λ word.
    on_word word (codes "fn") (plain_form plain_kind.Fn d)
    (on_word word (codes "static") (plain_form plain_kind.Static d)
    (on_word word (codes "type_alias") (plain_form plain_kind.TypeAlias d)
    (on_word word (codes "macro_call") (macro_call_form d)
    (wrong_at (codes "is"))))))

-- an extern block, with its items
abbrev pub extern_block_form : Data → Reading ItemView
extern_block_form d = reading_both extern_block_from (node_form d) (maybe_at (codes "items") (list_of extern_item) d)

-- an item of a kind that has a name and a visibility, and no keys of its own, by the word of its kind
unfoldable pub named_item : Data → Reading ItemView
named_item d = do
  word ← required_at (codes "is") text_form d
  on_word word (codes "fn") (plain_form plain_kind.Fn d)
      (on_word word (codes "union") (plain_form plain_kind.Union d)
      (on_word word (codes "enum") (plain_form plain_kind.Enum d)
      (on_word word (codes "static") (plain_form plain_kind.Static d)
      (on_word word (codes "trait") (plain_form plain_kind.Trait d)
      (on_word word (codes "type_alias") (plain_form plain_kind.TypeAlias d)
      (on_word word (codes "macro_def") (plain_form plain_kind.MacroDef d)
      (on_word word (codes "const") (reading_map const_item (named_form d))
      (wrong_at (codes "is")))))))))

-- an item, over the reading of those inside, by the word of its kind
abbrev pub item_with : (Data → Reading ItemView) → Data → Reading ItemView
item_with item d = object_by (codes "is") d (λ word.
    on_word word (codes "struct") (struct_form d)
    (on_word word (codes "module") (module_form item d)
    (on_word word (codes "use") (use_form d)
    (on_word word (codes "extern_crate") (extern_crate_form d)
    (on_word word (codes "extern_block") (extern_block_form d)
    (on_word word (codes "impl") (impl_form d)
    (on_word word (codes "macro_call") (macro_call_form d)
    (on_word word (codes "macro_rules") (macro_rules_form d)
    (on_word word (codes "asm") (reading_map asm_item (node_form d))
    (named_item d))))))))))

-- an item, with those inside it
abbrev pub item : Data → Reading ItemView
item = nested_reading item_with
