-- What is read with what is wanted of it, step by step.
use Rattle.std.proofs.Common.{◌≡◌, ◌==◌, ◌&&◌, ℕ, Bool, true, false, Option, Some, None, List, [], ◌++◌, refl, sym, ap, ◌∙◌, append-nil, if◌then◌else◌, is_some, codes}
use Rattle.hir_input.specs.declared.ids.AstIdKind.TheVariants as kind
use Rattle.hir_input.specs.declared.ast.PathNode.{PathNode}
use Rattle.rust_leaves.proofs.Common.{Visibility, MetaView, const_item, struct_item, impl_item, macro_rules, Tokens, Reader, when, symbol, at, eat_word, bumped, is_at_open, clipped_excerpt, kept_text, ExcerptRead, tree_body, Head, RestRead, LeafRead, no_name, written_name, named_or, rest_read, bare_end, semicolon_end, rest_by, rest_of, call_end, block_attributes, struct_fields, has_trait, node, named_node, leaf_read, plain_read, mut_word, own_attributes, plain_leaf, PlainKind, constant, structure, implementation, macro_definition, crate_item, use_declaration, begins_call, is_called, call_leaf, call_behind, some_read, invocation, item_call, leaf_by, leaf, bare_name, last_text}
use Rattle.rust_paths.specs.Paths.{path}
use Rattle.rust_metas.specs.Attributes.{outer_attributes}
use Rattle.rust_metas.specs.Docs.{kept_metas}
use Rattle.rust_metas.proofs.KeptMetas.{kept_append, kept_none}
use Rattle.rust_metas.specs.declared.wanted.WantedMetas.{WantedMetas}
use Rattle.rust_metas.specs.declared.wanted.WantedMetas.TheVariants as wanted
use Rattle.rust_leaves.specs.declared.head.Head.TheVariants as head
use Rattle.rust_leaves.specs.declared.wanted.Wanted.{Wanted}
use Rattle.rust_leaves.specs.Clipped.{with_value, clipped_rest, clipped_front, clipped_leaf, clipped_leaf_if, wanted_item, wanted_leaf, wanted_leaf_if, leaf_behind}
use Rattle.rust_leaves.specs.Fronts.{FrontRead, front_behind, front}
use Rattle.rust_cursor.specs.Grammar.{reads}
use Rattle.rust_cursor.specs.Looks.{sees}

-- one of two readings
pub with_if : {A B C : Type 0} (change : A → B) (b : Bool) (x y : A × C) → with_value change (if b then x else y) ≡ (if b then with_value change x else with_value change y)
with_if change true x y = refl
with_if change false x y = refl

-- ---- ends

pub rest_clipped : (keeps : Bool) (taken : Reader ExcerptRead) (ts : Tokens) → with_value (clipped_rest keeps) (rest_by taken ts) ≡ (let r = clipped_excerpt keeps (taken ts) in (rest_read r.0 r.1.past, r.1))
unfolding with_value rest_by clipped_rest
rest_clipped keeps taken ts = refl

ended_clipped : (keeps is_open is_brace : Bool) (ts : Tokens)
    → with_value (clipped_rest keeps) (if is_open then (if is_brace then (rest_read (tree_body ts).0 (tree_body ts).1.past, (tree_body ts).1) else semicolon_end (tree_body ts).0 (tree_body ts).1) else (bare_end false, ts))
    ≡ (let r = clipped_excerpt keeps (tree_body ts) in if is_open then (if is_brace then (rest_read r.0 r.1.past, r.1) else semicolon_end r.0 r.1) else (bare_end false, ts))
unfolding with_value clipped_rest
ended_clipped keeps true true ts = refl
ended_clipped keeps true false ts = refl
ended_clipped true false is_brace ts = refl
ended_clipped false false is_brace ts = refl

pub call_end_clipped : (keeps : Bool) (ts : Tokens) → with_value (clipped_rest keeps) (call_end ts)
    ≡ (let r = clipped_excerpt keeps (tree_body ts) in if is_at_open ts then (if symbol ts == 123 then (rest_read r.0 r.1.past, r.1) else semicolon_end r.0 r.1) else (bare_end false, ts))
unfolding call_end
call_end_clipped keeps ts = ended_clipped keeps (is_at_open ts) (symbol ts == 123) ts

-- ---- items behind attributes

abbrev pub up_to : Bool → Reader RestRead → Reader RestRead
up_to keeps end ts = with_value (clipped_rest keeps) (end ts)

-- an item that has no attributes of its own
pub none_behind : (w : WantedMetas) (attrs : List MetaView) → attrs ++ kept_metas w [] ≡ attrs
none_behind w attrs = ap (λ ms. attrs ++ ms) (kept_none w) ∙ append-nil attrs

at_none : {A : Type 0} (w : Wanted) (attrs : List MetaView) (made : List MetaView → A) → made (attrs ++ kept_metas w.metas []) ≡ made attrs
at_none w attrs made = ap made (none_behind w.metas attrs)

pub text_none : (keeps : Bool) → kept_text keeps [] ≡ []
text_none true = refl
text_none false = refl

pub implementation_clipped : (w : Wanted) (attrs : List MetaView) (ts : Tokens) → with_value (wanted_leaf w attrs) (implementation [] ts)
    ≡ (let r = up_to w.bodies (rest_of head.Impl) ts in (leaf_read (impl_item (node (attrs ++ kept_metas w.metas (block_attributes r.0.block)) r.0.body) (has_trait r.1.past ts)) kind.Impl no_name r.0, r.1))
unfolding with_value implementation clipped_rest wanted_leaf wanted_item
implementation_clipped w attrs ts = refl

pub plain_leaf_clipped : (w : Wanted) (k : PlainKind) (attrs : List MetaView) (visibility : Option Visibility) (ts : Tokens) → with_value (wanted_leaf w attrs) (plain_leaf k [] visibility ts)
    ≡ (let n = written_name (mut_word k ts).1 in let r = up_to w.bodies (rest_of (head.Plain k)) n.1 in (plain_read k (attrs ++ kept_metas w.metas (own_attributes k r.0.block)) visibility n.0 r.0, r.1))
unfolding with_value plain_leaf clipped_rest wanted_leaf wanted_item
plain_leaf_clipped w k attrs visibility ts = refl

pub constant_clipped : (w : Wanted) (attrs : List MetaView) (visibility : Option Visibility) (ts : Tokens) → with_value (wanted_leaf w attrs) (constant [] visibility ts)
    ≡ (let n = written_name ts in let r = up_to w.bodies (rest_of head.Const) (eat_word (codes "_") n.1).1 in (leaf_read (const_item (named_node attrs n.0.name visibility r.0.body)) kind.Const n.0 r.0, r.1))
unfolding with_value constant clipped_rest wanted_leaf wanted_item
constant_clipped w attrs visibility ts =
    let n = written_name ts in let r = up_to w.bodies (rest_of head.Const) (eat_word (codes "_") n.1).1 in at_none w attrs (λ a. (leaf_read (const_item (named_node a n.0.name visibility r.0.body)) kind.Const n.0 r.0, r.1))

pub structure_clipped : (w : Wanted) (attrs : List MetaView) (visibility : Option Visibility) (ts : Tokens) → with_value (wanted_leaf w attrs) (structure [] visibility ts)
    ≡ (let n = written_name ts in let r = up_to w.bodies (rest_of head.Struct) n.1 in (leaf_read (struct_item (named_node attrs n.0.name visibility r.0.body) (struct_fields r.1.past r.0.block n.1)) kind.Struct n.0 r.0, r.1))
unfolding with_value structure clipped_rest wanted_leaf wanted_item
structure_clipped w attrs visibility ts =
    let n = written_name ts in let r = up_to w.bodies (rest_of head.Struct) n.1 in
    at_none w attrs (λ a. (leaf_read (struct_item (named_node a n.0.name visibility r.0.body) (struct_fields r.1.past r.0.block n.1)) kind.Struct n.0 r.0, r.1))

pub macro_definition_clipped : (w : Wanted) (attrs : List MetaView) (ts : Tokens) → with_value (wanted_leaf w attrs) (macro_definition [] ts)
    ≡ (let n = named_or (codes "try") ts in let r = up_to w.bodies call_end n.1 in (leaf_read (macro_rules (node attrs r.0.body) n.0.name) kind.MacroRules n.0 r.0, r.1))
unfolding with_value macro_definition clipped_rest wanted_leaf wanted_item
macro_definition_clipped w attrs ts =
    let n = named_or (codes "try") ts in let r = up_to w.bodies call_end n.1 in at_none w attrs (λ a. (leaf_read (macro_rules (node a r.0.body) n.0.name) kind.MacroRules n.0 r.0, r.1))

pub call_clipped : (w : Wanted) (attrs : List MetaView) (p : Option PathNode) (last : List ℕ) (ts : Tokens) → with_value (wanted_leaf w attrs) (call_behind [] p last ts)
    ≡ (let r = up_to w.bodies call_end ts in (call_leaf attrs p last r.0, r.1))
unfolding with_value clipped_rest wanted_leaf wanted_item
call_clipped w attrs p last ts = let r = up_to w.bodies call_end ts in at_none w attrs (λ a. (call_leaf a p last r.0, r.1))

pub invocation_clipped : (w : Wanted) (attrs : List MetaView) (ts : Tokens) → with_value (wanted_leaf_if w attrs) (invocation [] ts)
    ≡ (if is_some (reads path ts).0 && sees is_called (reads path ts).1
    then some_read (with_value (wanted_leaf w attrs) (call_behind [] (reads path ts).0 (bare_name (last_text (reads path ts).1.past ts)) (bumped (reads path ts).1)))
    else (None, ts))
unfolding with_value wanted_leaf_if invocation
invocation_clipped w attrs ts =
    with_if (wanted_leaf_if w attrs) (is_some (reads path ts).0 && sees is_called (reads path ts).1) (some_read (call_behind [] (reads path ts).0 (bare_name (last_text (reads path ts).1.past ts)) (bumped (reads path ts).1))) (None, ts)

-- an item without its body text, if that is not wanted
abbrev textless : Bool → Option LeafRead × Tokens → Option LeafRead × Tokens
textless bodies = with_value (clipped_leaf_if (record { bodies = bodies; metas = wanted.All }))

-- a use and an extern crate have no body
use_whole : (bodies : Bool) (attrs : List MetaView) (v : Option Visibility) (ts : Tokens) → textless bodies (some_read (use_declaration attrs v ts)) ≡ some_read (use_declaration attrs v ts)
unfolding with_value clipped_leaf_if clipped_leaf use_declaration kept_metas
use_whole true attrs v ts = refl
use_whole false attrs v ts = refl

crate_whole : (bodies : Bool) (attrs : List MetaView) (v : Option Visibility) (ts : Tokens) → textless bodies (some_read (crate_item attrs v ts)) ≡ some_read (crate_item attrs v ts)
unfolding with_value clipped_leaf_if clipped_leaf crate_item kept_metas
crate_whole true attrs v ts = refl
crate_whole false attrs v ts = refl

-- an item that holds no items, by its word
abbrev pub wanted_by : Wanted → Head → List MetaView → Option Visibility → Reader (Option LeafRead)
wanted_by w head.Use attrs v ts = some_read (use_declaration attrs v ts)
wanted_by w head.ExternCrate attrs v ts = some_read (crate_item attrs v ts)
wanted_by w head.Impl attrs v ts = some_read (with_value (wanted_leaf w attrs) (implementation [] ts))
wanted_by w head.Struct attrs v ts = some_read (with_value (wanted_leaf w attrs) (structure [] v ts))
wanted_by w head.Const attrs v ts = some_read (with_value (wanted_leaf w attrs) (constant [] v ts))
wanted_by w (head.Plain k) attrs v ts = some_read (with_value (wanted_leaf w attrs) (plain_leaf k [] v ts))
wanted_by w head.MacroRules attrs v ts = some_read (with_value (wanted_leaf w attrs) (macro_definition [] ts))
wanted_by w _ attrs v ts = with_value (wanted_leaf_if w attrs) (item_call [] ts)

by_clipped : (w : Wanted) (h : Head) (attrs : List MetaView) (v : Option Visibility) (ts : Tokens) → with_value (wanted_leaf_if w attrs) (leaf_by h [] v ts) ≡ wanted_by w h attrs v ts
unfolding with_value wanted_leaf wanted_leaf_if wanted_item clipped_leaf clipped_leaf_if kept_metas use_declaration crate_item
by_clipped w head.Use attrs v ts = at_none w attrs (λ a. textless w.bodies (some_read (use_declaration a v ts))) ∙ use_whole w.bodies attrs v ts
by_clipped w head.ExternCrate attrs v ts = at_none w attrs (λ a. textless w.bodies (some_read (crate_item a v ts))) ∙ crate_whole w.bodies attrs v ts
by_clipped w _ attrs v ts = refl

pub leaf_clipped : (w : Wanted) (h : FrontRead) (ts : Tokens) → leaf_behind w h ts ≡ wanted_by w h.head h.attrs h.visibility ts
unfolding leaf leaf_behind
leaf_clipped w h ts = by_clipped w h.head h.attrs h.visibility ts

-- ---- attributes before items

invocation_front : (w : Wanted) (attrs : List MetaView) (ts : Tokens) → with_value (clipped_leaf_if w) (invocation attrs ts) ≡ with_value (wanted_leaf_if w (kept_metas w.metas attrs)) (invocation [] ts)
unfolding with_value clipped_rest clipped_leaf clipped_leaf_if invocation
invocation_front w attrs ts =
    let last = bare_name (last_text (reads path ts).1.past ts) in
    with_if (clipped_leaf_if w) (is_some (reads path ts).0 && sees is_called (reads path ts).1) (some_read (call_behind attrs (reads path ts).0 last (bumped (reads path ts).1))) (None, ts)
    ∙ ap (λ r. if is_some (reads path ts).0 && sees is_called (reads path ts).1 then some_read r else (None, ts)) (sym (call_clipped w (kept_metas w.metas attrs) (reads path ts).0 last (bumped (reads path ts).1)))
    ∙ sym (invocation_clipped w (kept_metas w.metas attrs) ts)

item_call_front : (w : Wanted) (attrs : List MetaView) (ts : Tokens) → with_value (clipped_leaf_if w) (item_call attrs ts) ≡ with_value (wanted_leaf_if w (kept_metas w.metas attrs)) (item_call [] ts)
unfolding with_value clipped_leaf_if wanted_leaf_if item_call
item_call_front w attrs ts = when (begins_call ts) (λ e. rw e (invocation_front w attrs ts)) (λ e. rw e refl)

-- those that begin an item stand before its inner ones, if it has any
by_front : (w : Wanted) (h : Head) (attrs : List MetaView) (v : Option Visibility) (ts : Tokens) → with_value (clipped_leaf_if w) (leaf_by h attrs v ts) ≡ with_value (wanted_leaf_if w (kept_metas w.metas attrs)) (leaf_by h [] v ts)
unfolding with_value clipped_rest clipped_leaf clipped_leaf_if wanted_leaf wanted_leaf_if wanted_item kept_metas plain_leaf implementation use_declaration crate_item constant structure macro_definition
by_front w (head.Plain k) attrs v ts =
    let n = written_name (mut_word k ts).1 in let r = up_to w.bodies (rest_of (head.Plain k)) n.1 in
    ap (λ a. (Some (plain_read k a v n.0 r.0), r.1)) (kept_append w.metas attrs (own_attributes k (rest_of (head.Plain k) n.1).0.block))
by_front w head.Impl attrs v ts =
    let r = up_to w.bodies (rest_of head.Impl) ts in ap (λ a. (Some (leaf_read (impl_item (node a r.0.body) (has_trait r.1.past ts)) kind.Impl no_name r.0), r.1)) (kept_append w.metas attrs (block_attributes (rest_of head.Impl ts).0.block))
by_front w head.Module attrs v ts = item_call_front w attrs ts
by_front w head.ExternBlock attrs v ts = item_call_front w attrs ts
by_front w head.Other attrs v ts = item_call_front w attrs ts
by_front w h attrs v ts = sym (at_none w (kept_metas w.metas attrs) (λ a. textless w.bodies (leaf_by h a v ts)))

-- an item with what is wanted of it stands behind what is wanted of what stands before it
pub leaf_front : (w : Wanted) (h : FrontRead) (ts : Tokens) → with_value (clipped_leaf_if w) (leaf h ts) ≡ leaf_behind w (clipped_front w h) ts
unfolding leaf leaf_behind clipped_front
leaf_front w h ts = by_front w h.head h.attrs h.visibility ts

-- what stands before an item, step by step
pub front_clipped : (w : Wanted) (ts : Tokens) → with_value (clipped_front w) (front ts) ≡ front_behind (at ts) (kept_metas w.metas (outer_attributes ts).0) (outer_attributes ts).1
unfolding with_value clipped_front front front_behind
front_clipped w ts = refl
