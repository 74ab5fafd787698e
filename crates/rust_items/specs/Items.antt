-- Items: those of a list one after another, and those that hold others.
use Rattle.std.specs.Prelude.{ℕ, zero, suc, ◌+◌, ◌-◌, Bool, true, false, not, ◌==◌, ◌&&◌, ◌||◌, if◌then◌else◌, Option, Some, None, is_none, option_to_list, List, [], ◌++◌}
use Rattle.hir_input.specs.declared.ast.PlainKind.TheVariants as plain_kind
use Rattle.hir_input.specs.declared.ids.AstIdKind.{AstIdKind}
use Rattle.hir_input.specs.declared.ids.AstIdKind.TheVariants as kind
use Rattle.hir_input.specs.Attr.{MetaView}
use Rattle.hir_input.specs.Syntax.{ItemView, plain_item, macro_call, module_from, extern_block_from}
use Rattle.rust_cursor.specs.Tokens.{Tokens}
use Rattle.rust_cursor.specs.Words.{symbol, at, eat, is_empty, is_at_end, bumped}
use Rattle.rust_cursor.specs.Brackets.{behind_tree}
use Rattle.rust_cursor.specs.Elements.{most_tokens, progress_from}
use Rattle.rust_paths.specs.declared.names.TextRange.{TextRange}
use Rattle.rust_metas.specs.Attributes.{inner_attributes}
use Rattle.rust_leaves.specs.declared.head.Head.{Head}
use Rattle.rust_leaves.specs.declared.head.Head.TheVariants as heads
use Rattle.rust_items.specs.declared.log.ItemSpan.{ItemSpan}
use Rattle.rust_items.specs.declared.log.ProblemKind.TheVariants as problem
use Rattle.rust_items.specs.Found.{Found, Finder, nothing_found, and_problem, and_problem_if, and_problem_at, and_row, and_use_trees, and_all}
use Rattle.rust_leaves.specs.Fronts.{FrontRead, front}
use Rattle.rust_leaves.specs.Heads.{behind_others}
use Rattle.rust_leaves.specs.Leaves.{NameRead, LeafRead, no_name, written_name}
use Rattle.rust_leaves.specs.Kinds.{named_node, node, leaf}

-- ---- what is found

abbrev pub span_of : ℕ → ℕ → Option TextRange → Option TextRange → ItemSpan
span_of start end body name = record { range = record { start = start; end = end }; name = name; body = body }

-- a constant may go without a name
abbrev pub needs_name : AstIdKind → Bool
needs_name kind.Const = false
needs_name kind.ExternBlock = false
needs_name kind.Impl = false
needs_name kind.MacroCall = false
needs_name kind.Use = false
needs_name _ = true

-- an item without its end, or else without the name that it needs, is a problem at its start
abbrev pub and_flaw : Bool → Bool → ℕ → Found → Found
and_flaw is_ended is_nameless start f = if is_ended then and_problem_if is_nameless problem.Nameless start f else and_problem problem.Unfinished start f

abbrev pub and_item : ℕ → ℕ → ℕ → Option TextRange → AstIdKind → List ℕ → Option TextRange → Bool → Found → Found
and_item depth start end body kind name written_name is_ended f =
    and_flaw is_ended (is_none written_name && needs_name kind) start (and_row (record { depth = depth; kind = kind; name = name }) (span_of start end body written_name) f)

abbrev pub and_leaf : ℕ → ℕ → ℕ → LeafRead → Found → Found
and_leaf depth start end l f =
    and_use_trees l.use_trees (and_problem_at problem.TooDeep l.too_deep (and_item depth start end l.body l.kind l.name l.named l.is_ended f))

abbrev pub leaf_kept : ℕ → ℕ → ℕ → LeafRead → Found → Option ItemView × Found
leaf_kept depth start end l f = (Some l.item, and_leaf depth start end l f)

-- ---- items that hold none

-- an item that holds none, or tokens that begin no item
abbrev pub leaf_found : ℕ → ℕ → Option LeafRead → Finder (Option ItemView)
leaf_found depth start None f ts = (None, (and_problem problem.NoItem start f, behind_others ts))
leaf_found depth start (Some l) f ts = (Some l.item, (and_leaf depth start ts.past l f, ts))

unfoldable pub leaf_turn : ℕ → FrontRead → Finder (Option ItemView)
leaf_turn depth h f ts = leaf_found depth h.start (leaf h ts).0 f (leaf h ts).1

-- ---- lists

-- what turns give one after another, at most so many; a turn that takes nothing passes over a token
abbrev pub finding_from : (Tokens → Bool) → Finder (Option ItemView) → ℕ → List ItemView → Finder (List ItemView)
finding_from ends turn zero done f ts = (done, (f, ts))
finding_from ends turn (suc n) done f ts =
    if ends ts then (done, (f, ts))
    else finding_from ends turn n (done ++ option_to_list (turn f ts).0) (turn f ts).1.0 (progress_from ts.past (turn f ts).1.1)

unfoldable pub finding : (Tokens → Bool) → Finder (Option ItemView) → Finder (List ItemView)
finding ends turn f ts = finding_from ends turn most_tokens [] f ts

-- a list of items ends with the text, and before its `}` where it has one
unfoldable pub is_list_end : Bool → Tokens → Bool
is_list_end is_top ts = is_empty ts || not is_top && symbol ts == 125

-- ---- blocks

-- what stands in an item's braces: inner attributes and items, if there are braces, and whether they are closed
pub record BlockRead : Type 0 where
  pub attrs : List MetaView
  pub items : Option (List ItemView)
  pub is_ended : Bool

abbrev pub empty_block : Bool → BlockRead
empty_block is_ended = record { attrs = []; items = None; is_ended = is_ended }

abbrev pub no_block : BlockRead
no_block = empty_block false

-- braces that stand too deep
abbrev pub deep_block : BlockRead
deep_block = empty_block true

-- from its `{` on
abbrev pub block_of : Finder (Option ItemView) → Finder BlockRead
block_of turn f ts =
    let inner = inner_attributes (bumped ts) in
    let list = finding (is_list_end false) turn f inner.1 in
    (record { attrs = inner.0; items = Some list.0; is_ended = (eat 125 list.1.1).0 }, (list.1.0, (eat 125 list.1.1).1))

-- ---- extern blocks

-- what may stand in an extern block
abbrev pub as_extern : ItemView → Option ItemView
as_extern (plain_item plain_kind.Fn n) = Some (plain_item plain_kind.Fn n)
as_extern (plain_item plain_kind.Static n) = Some (plain_item plain_kind.Static n)
as_extern (plain_item plain_kind.TypeAlias n) = Some (plain_item plain_kind.TypeAlias n)
as_extern (macro_call c) = Some (macro_call c)
as_extern _ = None

-- another item that stands there is none
abbrev pub extern_kept : ℕ → ℕ → ℕ → LeafRead → Option ItemView → Found → Option ItemView × Found
extern_kept depth start end l None f = (None, and_problem problem.NoItem start f)
extern_kept depth start end l (Some i) f = (Some i, and_leaf depth start end l f)

abbrev pub and_rest : {A B : Type 0} → A × B → Tokens → A × (B × Tokens)
and_rest r ts = (r.0, (r.1, ts))

abbrev pub extern_found : ℕ → ℕ → Option LeafRead → Finder (Option ItemView)
extern_found depth start None f ts = (None, (and_problem problem.NoItem start f, behind_others ts))
extern_found depth start (Some l) f ts = and_rest (extern_kept depth start ts.past l (as_extern l.item) f) ts

abbrev pub extern_behind : ℕ → FrontRead → Finder (Option ItemView)
extern_behind depth h f ts = extern_found depth h.start (leaf h ts).0 f (leaf h ts).1

abbrev pub extern_by : ℕ → Finder (Option ItemView)
extern_by depth f ts = extern_behind depth (front ts).0 f (front ts).1

abbrev pub unmatched_token : Finder (Option ItemView)
unmatched_token f ts = (None, (and_problem problem.Unmatched (at ts) f, bumped ts))

-- an item of an extern block, or none
unfoldable pub extern_turn : ℕ → Finder (Option ItemView)
extern_turn depth f ts = if is_at_end ts then unmatched_token f ts else extern_by depth f ts

unfoldable pub extern_inside : ℕ → Finder BlockRead
extern_inside depth f ts = if symbol ts == 123 then block_of (extern_turn depth) f ts else (no_block, (f, ts))

-- an item that holds items: its row, and then theirs; what is between its braces are these, and no body
abbrev pub and_parent : ℕ → ℕ → ℕ → AstIdKind → NameRead → Bool → Found → Found → Found
and_parent depth start end kind n is_ended inner f = and_all inner (and_item depth start end None kind n.hashed n.range is_ended f)

-- what stands in an extern block is one deeper
abbrev pub one_more : ℕ → ℕ
one_more depth = depth + 1

-- ExternBlock
unfoldable pub extern_block : ℕ → ℕ → List MetaView → Finder ItemView
extern_block depth start attrs f ts =
    let b = extern_inside (one_more depth) nothing_found ts in
    (extern_block_from (node (attrs ++ b.0.attrs) []) b.0.items, (and_parent depth start b.1.1.past kind.ExternBlock no_name b.0.is_ended b.1.0 f, b.1.1))

-- ---- modules

-- in how many modules an item stands where so many more may stand in one another
abbrev pub depth_of : ℕ → ℕ
depth_of left = 128 - left

abbrev pub inside_unless : Bool → Finder BlockRead → Finder BlockRead
inside_unless semicolon inside f ts = if semicolon then (no_block, (f, ts)) else inside f ts

-- Module: with a semicolon, with items, or with neither
abbrev pub module_with : Finder BlockRead → ℕ → FrontRead → Finder ItemView
module_with inside depth h f ts =
    let n = written_name ts in
    let semicolon = eat 59 n.1 in
    let b = inside_unless semicolon.0 inside nothing_found semicolon.1 in (
      module_from (named_node (h.attrs ++ b.0.attrs) n.0.name h.visibility []) semicolon.0 b.0.items,
      (and_parent depth h.start b.1.1.past kind.Module n.0 (semicolon.0 || b.0.is_ended) b.1.0 f, b.1.1),
    )

abbrev pub some_item : {A : Type 0} → ItemView × A → Option ItemView × A
some_item r = (Some r.0, r.1)

abbrev pub by_head : Finder BlockRead → ℕ → Head → FrontRead → Finder (Option ItemView)
by_head inside depth heads.Module h f ts = some_item (module_with inside depth h f ts)
by_head inside depth heads.ExternBlock h f ts = some_item (extern_block depth h.start h.attrs f ts)
by_head inside depth _ h f ts = leaf_turn depth h f ts

-- Item: an item, or none: then tokens are passed over
abbrev pub turn_with : Finder BlockRead → ℕ → Finder (Option ItemView)
turn_with inside depth f ts =
    if is_at_end ts then unmatched_token f ts else by_head inside depth (front ts).0.head (front ts).0 f (front ts).1

-- The items of a module. The number bounds how deep modules stand in one another; one that is deeper is passed over.
unfoldable pub inside : ℕ → Finder BlockRead
inside zero f ts = if symbol ts == 123 then (deep_block, (and_problem problem.TooDeep (at ts) f, behind_tree ts)) else (no_block, (f, ts))
inside (suc left) f ts = if symbol ts == 123 then block_of (turn_with (inside left) (depth_of left)) f ts else (no_block, (f, ts))

-- an item behind what stands in front of it
unfoldable pub behind_front : ℕ → FrontRead → Finder (Option ItemView)
behind_front left h = by_head (inside left) (depth_of left) h.head h

unfoldable pub turn : ℕ → Finder (Option ItemView)
turn left = turn_with (inside left) (depth_of left)

unfoldable pub module_item : ℕ → FrontRead → Finder ItemView
module_item left = module_with (inside left) (depth_of left)

-- the items of a file, or of a module
abbrev pub items : Bool → ℕ → Finder (List ItemView)
items is_top left = finding (is_list_end is_top) (turn left)
