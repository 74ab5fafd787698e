-- The reading of a syntax and of a block.
use Rattle.std.specs.Prelude.{List, ℕ, [], codes}
use Rattle.serde_json.specs.Data.{Data}
use Rattle.serde_json.specs.Find.{as_str}
use Rattle.hir_input.specs.Syntax.{CallView, items_from, StmtView, item_stmt, call_stmt, other_stmt, TailView, no_tail, call_tail, other_tail, SyntaxView, source_file, macro_items, macro_stmts, block_expr, error}
use Rattle.hir_input_json.specs.Reading.{Reading, right, wrong, reading_map, reading_both, under, ◌>>=◌}
use Rattle.hir_input_json.specs.Forms.{field, required_at, optional_at, by_form, on_word, wrong_at, text_form, object_members, object_by, list_at}
use Rattle.hir_input_json.specs.Items.{item, call_form}
use Rattle.hir_input_json.specs.Metas.{attrs_form}

-- a macro call of a statement or a tail; the word of its kind may be absent
abbrev pub call : Data → Reading CallView
call d = do
  _ ← object_members d
  word ← optional_at (codes "macro_call") (codes "is") text_form d
  on_word word (codes "macro_call") (call_form d) (wrong_at (codes "is"))

-- a statement that is an object: an item, or else a call
abbrev pub stmt_by : Data → Reading StmtView
stmt_by d =
    by_form (field (codes "item") d) (λ e. under (codes "item") (reading_map item_stmt (item e)))
    (by_form (field (codes "call") d) (λ e. under (codes "call") (reading_map call_stmt (call e)))
    (wrong []))

-- a statement: the word for what is no item and no call, or an object
abbrev pub stmt : Data → Reading StmtView
stmt d =
    by_form (as_str d) (λ word. on_word word (codes "other") (right other_stmt) (wrong []))
    (do
      _ ← object_members d
      stmt_by d)

-- a tail: the word for what is no call, or a call
abbrev pub tail : Data → Reading TailView
tail d =
    by_form (as_str d) (λ word. on_word word (codes "other") (right other_tail) (wrong []))
    (do
      _ ← object_members d
      reading_map call_tail (required_at (codes "call") call d))

-- nothing where it is absent
abbrev pub tail_at : Data → Reading TailView
tail_at = optional_at no_tail (codes "tail") tail

-- a source file, with its attributes and its items
abbrev pub source_form : Data → Reading SyntaxView
source_form d = do
  attrs ← attrs_form d
  items ← list_at item (codes "items") d
  right (source_file attrs (items_from items))

-- the items of a macro's result
abbrev pub macro_items_form : Data → Reading SyntaxView
macro_items_form d = reading_map (λ items. macro_items (items_from items)) (list_at item (codes "items") d)

-- the statements and the tail of a macro's result
abbrev pub macro_stmts_form : Data → Reading SyntaxView
macro_stmts_form d = reading_both macro_stmts (list_at stmt (codes "stmts") d) (tail_at d)

-- a syntax, by the word of its root
abbrev pub syntax : Data → Reading SyntaxView
syntax d = object_by (codes "root") d (λ word.
    on_word word (codes "source_file") (source_form d)
    (on_word word (codes "macro_items") (macro_items_form d)
    (on_word word (codes "macro_stmts") (macro_stmts_form d)
    (on_word word (codes "error") (right error)
    (wrong_at (codes "root"))))))

-- a block, with its attributes, its statements and its tail
abbrev pub block_form : Data → Reading SyntaxView
block_form d = do
  attrs ← attrs_form d
  stmts ← list_at stmt (codes "stmts") d
  end ← tail_at d
  right (block_expr attrs stmts end)
