-- The items that hold no items, kind by kind. Each begins behind its attributes, its visibility, its modifiers and its word.
use Rattle.std.specs.Prelude.{ℕ, Bool, false, ◌&&◌, if◌then◌else◌, Option, Some, None, is_some, List, [], ◌++◌, codes}
use Rattle.std.specs.Option.{option_or}
use Rattle.hir_input.specs.declared.ast.PlainKind.TheVariants as plain_kind
use Rattle.hir_input.specs.declared.ids.AstIdKind.{AstIdKind}
use Rattle.hir_input.specs.declared.ids.AstIdKind.TheVariants as kind
use Rattle.hir_input.specs.declared.ids.SyntaxContext.TheVariants as context
use Rattle.hir_input.specs.declared.edition.EditionYear.TheVariants as year
use Rattle.hir_input.specs.declared.expand_to.ExpandTo.TheVariants as expand_to
use Rattle.hir_input.specs.declared.ast.PathNode.{PathNode}
use Rattle.hir_input.specs.declared.ast.Visibility.{Visibility}
use Rattle.hir_input.specs.Attr.{MetaView}
use Rattle.hir_input.specs.UseTreeView.{UseTreeView}
use Rattle.hir_input.specs.Syntax.{NodeView, NamedView, ast_kind, ItemView, plain_item, const_item, struct_item, use_item, extern_crate, impl_item, macro_call, macro_rules}
use Rattle.hir_input.specs.declared.ast.PlainKind.{PlainKind}
use Rattle.rust_cursor.specs.Extents.{ExcerptRead, impl_rest, item_rest, macro_rest, value_rest}
use Rattle.rust_cursor.specs.Tokens.{Tokens}
use Rattle.rust_cursor.specs.Reader.{Reader, ◌>>=◌, pure, look}
use Rattle.rust_cursor.specs.Words.{eat, eat_word, bumped}
use Rattle.rust_paths.specs.declared.names.TextRange.{TextRange}
use Rattle.rust_paths.specs.Paths.{path}
use Rattle.rust_paths.specs.UseTrees.{FoundInUse, use_tree}
use Rattle.rust_leaves.specs.declared.head.Head.{Head}
use Rattle.rust_leaves.specs.declared.head.Head.TheVariants as head
use Rattle.rust_leaves.specs.Fronts.{FrontRead}
use Rattle.rust_leaves.specs.Heads.{begins_call, is_called}
use Rattle.rust_leaves.specs.Texts.{bare_name, last_text}
use Rattle.rust_leaves.specs.Leaves.{NameRead, RestRead, LeafRead, no_name, written_name, named_or, written_rename, rename_of, past, bare_end, rest_by, call_end, block_attributes, struct_fields, has_trait}
use Rattle.rust_cursor.specs.Grammar.{reads}
use Rattle.rust_cursor.specs.Looks.{sees}

-- the ids are given later
abbrev pub node : List MetaView → List ℕ → NodeView
node attrs body = record { hash = 0; number = 0; attrs = attrs; body = body }

abbrev pub named_node : List MetaView → Option (List ℕ) → Option Visibility → List ℕ → NamedView
named_node attrs name visibility body = record { node = node attrs body; name = name; visibility = visibility }

abbrev pub leaf_read : ItemView → AstIdKind → NameRead → RestRead → LeafRead
leaf_read item kind n r = record { item = item; kind = kind; name = n.hashed; named = n.range; body = r.braces; is_ended = r.is_ended; too_deep = None; use_trees = [] }

abbrev pub plain_read : PlainKind → List MetaView → Option Visibility → NameRead → RestRead → LeafRead
plain_read k attrs visibility n r = leaf_read (plain_item k (named_node attrs n.name visibility r.body)) (ast_kind k) n r

-- what is left
abbrev pub left_here : Tokens → Tokens
left_here ts = ts

-- what is taken of an item up to its end, by its word
abbrev pub excerpt_of : Head → Reader ExcerptRead
excerpt_of head.Impl = impl_rest
excerpt_of head.Const = value_rest
excerpt_of (head.Plain plain_kind.MacroDef) = macro_rest
excerpt_of (head.Plain plain_kind.Static) = value_rest
excerpt_of (head.Plain plain_kind.TypeAlias) = value_rest
excerpt_of _ = item_rest

-- the rest of an item, by its word
abbrev pub rest_of : Head → Reader RestRead
rest_of h = rest_by (excerpt_of h)

-- the `mut` of a static
abbrev pub mut_word : PlainKind → Reader Bool
mut_word plain_kind.Static = eat_word (codes "mut")
mut_word _ = pure false

-- of the inner attributes in braces, those that are the item's own: a function's and a trait's
abbrev pub own_attributes : PlainKind → Option Tokens → List MetaView
own_attributes plain_kind.Fn block = block_attributes block
own_attributes plain_kind.Trait block = block_attributes block
own_attributes _ block = []

-- Function, TypeAlias, Enumeration, Union, StaticItem, Trait, or a macro 2.0: a name, and all that is left
unfoldable pub plain_leaf : PlainKind → List MetaView → Option Visibility → Reader LeafRead
plain_leaf k attrs visibility = do
  _ ← mut_word k
  n ← written_name
  r ← rest_of (head.Plain k)
  pure (plain_read k (attrs ++ own_attributes k r.block) visibility n r)

-- ConstantItem: `_` is no name
unfoldable pub constant : List MetaView → Option Visibility → Reader LeafRead
constant attrs visibility = do
  n ← written_name
  _ ← eat_word (codes "_")
  r ← rest_of head.Const
  pure (leaf_read (const_item (named_node attrs n.name visibility r.body)) kind.Const n r)

-- Struct
unfoldable pub structure : List MetaView → Option Visibility → Reader LeafRead
structure attrs visibility = do
  n ← written_name
  header ← look left_here
  r ← rest_of head.Struct
  end ← look past
  pure (leaf_read (struct_item (named_node attrs n.name visibility r.body) (struct_fields end r.block header)) kind.Struct n r)

-- Implementation
unfoldable pub implementation : List MetaView → Reader LeafRead
implementation attrs = do
  header ← look left_here
  r ← rest_of head.Impl
  end ← look past
  pure (leaf_read (impl_item (node (attrs ++ block_attributes r.block) r.body) (has_trait end header)) kind.Impl no_name r)

-- the place of the name that an extern crate is told by: the one behind its `as`, or else its own
abbrev pub told_at : Option TextRange → Option NameRead → Option TextRange
told_at range None = range
told_at range (Some alias) = option_or alias.range range

-- ExternCrate: its id is made from its own name
unfoldable pub crate_item : List MetaView → Option Visibility → Reader LeafRead
crate_item attrs visibility = do
  n ← named_or (codes "self")
  alias ← written_rename
  semicolon ← eat 59
  pure (leaf_read (extern_crate (named_node attrs n.name visibility []) (rename_of alias)) kind.ExternCrate (record { name = n.name; hashed = n.hashed; range = told_at n.range alias }) (bare_end semicolon))

abbrev pub use_read : List MetaView → Option Visibility → FoundInUse (Option UseTreeView) → Bool → LeafRead
use_read attrs visibility tree is_ended = record {
  item = use_item (record { node = node attrs []; visibility = visibility; use_tree = tree.value });
  kind = kind.Use;
  name = [];
  named = None;
  body = None;
  is_ended = is_ended;
  too_deep = tree.too_deep;
  use_trees = tree.starts;
}

-- UseDeclaration
unfoldable pub use_declaration : List MetaView → Option Visibility → Reader LeafRead
use_declaration attrs visibility = do
  tree ← use_tree
  semicolon ← eat 59
  pure (use_read attrs visibility tree semicolon)

-- MacroRulesDefinition
unfoldable pub macro_definition : List MetaView → Reader LeafRead
macro_definition attrs = do
  n ← named_or (codes "try")
  r ← call_end
  pure (leaf_read (macro_rules (node attrs r.body) n.name) kind.MacroRules n r)

abbrev pub call_leaf : List MetaView → Option PathNode → List ℕ → RestRead → LeafRead
call_leaf attrs path last r =
    let c = macro_call (record { node = node attrs r.body; path = path; expand_to = expand_to.Items; ctxt = context.Root year.E2024 }) in
    record { item = c; kind = kind.MacroCall; name = last; named = None; body = r.braces; is_ended = r.is_ended; too_deep = None; use_trees = [] }

-- a macro's name is hashed as the last word of its path
abbrev pub call_behind : List MetaView → Option PathNode → List ℕ → Reader LeafRead
call_behind attrs path last = do
  r ← call_end
  pure (call_leaf attrs path last r)

abbrev pub some_read : {A : Type 0} → A × Tokens → Option A × Tokens
some_read r = (Some r.0, r.1)

-- what a macro is called by: its path, and the last word of it
pub record CalleeRead : Type 0 where
  pub path : Option PathNode
  pub name : List ℕ

-- the path of a macro and its `!`, if a macro call comes next
unfoldable pub callee : Reader (Option CalleeRead)
callee ts =
    if is_some (reads path ts).0 && sees is_called (reads path ts).1
    then (Some (record { path = (reads path ts).0; name = bare_name (last_text (reads path ts).1.past ts) }), bumped (reads path ts).1)
    else (None, ts)

-- MacroInvocationSemi, or nothing, where none is written
unfoldable pub invocation : List MetaView → Reader (Option LeafRead)
invocation attrs ts =
    if is_some (reads path ts).0 && sees is_called (reads path ts).1
    then some_read (call_behind attrs (reads path ts).0 (bare_name (last_text (reads path ts).1.past ts)) (bumped (reads path ts).1))
    else (None, ts)

-- the same in the place of an item
unfoldable pub item_call : List MetaView → Reader (Option LeafRead)
item_call attrs ts = if begins_call ts then invocation attrs ts else (None, ts)

-- an item that holds no items, by its word, if one is written
abbrev pub leaf_by : Head → List MetaView → Option Visibility → Reader (Option LeafRead)
leaf_by head.Use attrs v ts = some_read (use_declaration attrs v ts)
leaf_by head.ExternCrate attrs v ts = some_read (crate_item attrs v ts)
leaf_by head.Impl attrs v ts = some_read (implementation attrs ts)
leaf_by head.Struct attrs v ts = some_read (structure attrs v ts)
leaf_by head.Const attrs v ts = some_read (constant attrs v ts)
leaf_by (head.Plain k) attrs v ts = some_read (plain_leaf k attrs v ts)
leaf_by head.MacroRules attrs v ts = some_read (macro_definition attrs ts)
leaf_by _ attrs v ts = item_call attrs ts

-- an item that holds no items, behind what stands in front of it
unfoldable pub leaf : FrontRead → Reader (Option LeafRead)
leaf h ts = leaf_by h.head h.attrs h.visibility ts
