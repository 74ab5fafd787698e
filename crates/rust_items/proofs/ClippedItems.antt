-- What is read with what is wanted, step by step.
use Rattle.std.proofs.Common.{◌≡◌, ◌≢◌, ◌<◌, ◌-◌, ◌==◌, ◌||◌, ℕ, zero, suc, Bool, true, false, Option, Some, None, List, [], ◌++◌, map, refl, sym, ap, ◌∙◌, if◌then◌else◌, option_map, option_to_list, IfOk, Result, Ok, Err}
use Rattle.rust_items.proofs.Common.{AllocError, map-append, Visibility, MetaView, ItemView, bare_module, listed_module, bare_extern_block, listed_extern_block, items_from, module_from, extern_block_from, Tokens, symbol, at, eat, is_at_end, bumped, behind_tree, most_tokens, progress_from, kept_text, inner_attributes, kept_metas, kept_by, Head, Wanted, with_value, clipped_front, clipped_item, clipped_list, clipped_leaf, clipped_leaf_if, wanted_item, wanted_leaf, wanted_leaf_if, without_attributes, leaf_behind, FrontRead, front, named_node, node, leaf, LeafRead, no_name, written_name, clipped_item_if, clipped_items, clipped_block, clipped_turn, wanted_item_if, wanted_behind, Found, Finder, Finds, nothing_found, and_problem, BlockRead, finding_from, finding, is_list_end, empty_block, deep_block, block_of, leaf_found, leaf_turn, as_extern, and_rest, extern_kept, extern_found, extern_by, extern_turn, extern_inside, extern_block, one_more, unmatched_token, and_parent, depth_of, inside_unless, some_item, by_head, inside, behind_front, turn, module_item}
use Rattle.hir_input.specs.declared.ids.AstIdKind.TheVariants as kind
use Rattle.rust_metas.proofs.KeptMetas.{kept_append, kept_none}
use Rattle.rust_leaves.specs.declared.head.Head.TheVariants as heads
use Rattle.rust_leaves.proofs.ClippedLeaves.{with_if, text_none, leaf_front}
use Rattle.rust_items.specs.declared.log.ProblemKind.TheVariants as problem
use Rattle.rust_items.specs.Items.{no_block}
use Rattle.rust_items.proofs.BareItems.{list_of, all, item_whole, wanted_from, extern_clipped}
use Rattle.rust_items.proofs.Steps.{inside_deep, inside_none, inside_some}

-- ---- items that hold none

leaf_found_wanted : (w : Wanted) (attrs : List MetaView) (depth start : ℕ) (o : Option LeafRead) (f : Found) (ts : Tokens)
    → with_value (wanted_item_if w attrs) (leaf_found depth start o f ts) ≡ leaf_found depth start (wanted_leaf_if w attrs o) f ts
unfolding with_value wanted_leaf wanted_leaf_if wanted_item_if
leaf_found_wanted w attrs depth start None f ts = refl
leaf_found_wanted w attrs depth start (Some l) f ts = refl

pub leaf_turn_clipped : (w : Wanted) (depth : ℕ) (h : FrontRead) (f : Found) (ts : Tokens) → wanted_behind w (leaf_turn depth) h f ts
    ≡ (let l = leaf_behind w h ts in leaf_found depth h.start l.0 f l.1)
unfolding with_value wanted_behind leaf_turn leaf_behind
leaf_turn_clipped w depth h f ts = leaf_found_wanted w h.attrs depth h.start (leaf (without_attributes h) ts).0 f (leaf (without_attributes h) ts).1

leaf_found_clipped : (w : Wanted) (depth start : ℕ) (o : Option LeafRead) (f : Found) (ts : Tokens) → with_value (clipped_item_if w) (leaf_found depth start o f ts) ≡ leaf_found depth start (clipped_leaf_if w o) f ts
unfolding with_value clipped_leaf clipped_leaf_if clipped_item_if
leaf_found_clipped w depth start None f ts = refl
leaf_found_clipped w depth start (Some l) f ts = refl

leaf_turn_front : (w : Wanted) (depth : ℕ) (h : FrontRead) (f : Found) (ts : Tokens) → with_value (clipped_item_if w) (leaf_turn depth h f ts) ≡ wanted_behind w (leaf_turn depth) (clipped_front w h) f ts
unfolding leaf_turn with_value clipped_front
leaf_turn_front w depth h f ts =
    leaf_found_clipped w depth h.start (leaf h ts).0 f (leaf h ts).1
    ∙ ap (λ l. leaf_found depth h.start l.0 f l.1) (leaf_front w h ts)
    ∙ sym (leaf_turn_clipped w depth (clipped_front w h) f ts)

-- what is found, with what is left
pub finds_by : {X Y : Type 0} (view : X → Y) (r : Result X AllocError) (x : Y × Found) (reading : Y × (Found × Tokens)) (found : Found) (rest : Tokens) → reading ≡ and_rest x rest → IfOk r (λ v. x ≡ (view v, found)) → Finds view reading r found rest
finds_by view (Err e) x reading found rest a b = tt
finds_by view (Ok v) x reading found rest a b = a ∙ ap (λ r. and_rest r rest) b

-- ---- lists

finding_from_clipped : (w : Wanted) (ends : Tokens → Bool) (turn : Finder (Option ItemView)) (n : ℕ) (done : List ItemView) (f : Found) (ts : Tokens)
    → with_value (clipped_items w) (finding_from ends turn n done f ts) ≡ finding_from ends (clipped_turn w turn) n (map (clipped_item w) done) f ts
unfolding with_value clipped_items clipped_item_if
finding_from_clipped w ends turn zero done f ts = refl
finding_from_clipped w ends turn (suc n) done f ts =
    let more = finding_from ends turn n (done ++ option_to_list (turn f ts).0) (turn f ts).1.0 (progress_from ts.past (turn f ts).1.1) in
    let same : map (clipped_item w) (done ++ option_to_list (turn f ts).0) ≡ map (clipped_item w) done ++ option_to_list (option_map (clipped_item w) (turn f ts).0) =
    map-append (clipped_item w) done (option_to_list (turn f ts).0) ∙ ap (λ l. map (clipped_item w) done ++ l) (list_of (clipped_item w) (turn f ts).0) in
    with_if (clipped_items w) (ends ts) (done, (f, ts)) more
    ∙ ap (λ r. if ends ts then (map (clipped_item w) done, (f, ts)) else r)
    (finding_from_clipped w ends turn n (done ++ option_to_list (turn f ts).0) (turn f ts).1.0 (progress_from ts.past (turn f ts).1.1)
    ∙ ap (λ l. finding_from ends (clipped_turn w turn) n l (turn f ts).1.0 (progress_from ts.past (turn f ts).1.1)) same)

pub finding_clipped : (w : Wanted) (ends : Tokens → Bool) (turn : Finder (Option ItemView)) (f : Found) (ts : Tokens)
    → with_value (clipped_items w) (finding ends turn f ts) ≡ finding ends (clipped_turn w turn) f ts
unfolding finding
finding_clipped w ends turn f ts = finding_from_clipped w ends turn most_tokens [] f ts

-- what stands in braces, from the `{` on, as far as its attributes are kept
abbrev pub block_kept : Wanted → Finder (Option ItemView) → Finder BlockRead
block_kept w turn f ts =
    let inner = kept_by w.metas inner_attributes (bumped ts) in
    let list = finding (is_list_end false) turn f inner.1 in
    (record { attrs = inner.0; items = Some list.0; is_ended = (eat 125 list.1.1).0 }, (list.1.0, (eat 125 list.1.1).1))

block_clipped : (w : Wanted) (turn : Finder (Option ItemView)) (f : Found) (ts : Tokens) → with_value (clipped_block w) (block_of turn f ts) ≡ block_kept w (clipped_turn w turn) f ts
unfolding with_value clipped_block
block_clipped w turn f ts =
    let inner = kept_by w.metas inner_attributes (bumped ts) in
    let around : List ItemView × (Found × Tokens) → BlockRead × (Found × Tokens) =
    λ list. (record { attrs = inner.0; items = Some list.0; is_ended = (eat 125 list.1.1).0 }, (list.1.0, (eat 125 list.1.1).1)) in
    ap around (finding_clipped w (is_list_end false) turn f inner.1)

-- no braces hold no attributes
empty_clipped : {A : Type 0} (w : Wanted) (is_ended : Bool) (rest : A) → with_value (clipped_block w) (empty_block is_ended, rest) ≡ (empty_block is_ended, rest)
unfolding with_value clipped_block
empty_clipped w is_ended rest = ap (λ (ms : List MetaView). (record (empty_block is_ended) { attrs = ms }, rest)) (kept_none w.metas)

-- ---- extern blocks

extern_kept_clipped : (w : Wanted) (depth start end : ℕ) (l : LeafRead) (o : Option ItemView) (f : Found)
    → with_value (clipped_item_if w) (extern_kept depth start end l o f) ≡ extern_kept depth start end (clipped_leaf w l) (option_map (clipped_item w) o) f
unfolding with_value clipped_leaf clipped_item_if
extern_kept_clipped w depth start end l None f = refl
extern_kept_clipped w depth start end l (Some i) f = refl

extern_found_clipped : (w : Wanted) (depth start : ℕ) (o : Option LeafRead) (f : Found) (ts : Tokens)
    → with_value (clipped_item_if w) (extern_found depth start o f ts) ≡ extern_found depth start (clipped_leaf_if w o) f ts
unfolding with_value clipped_leaf clipped_leaf_if clipped_item_if
extern_found_clipped w depth start None f ts = refl
extern_found_clipped w depth start (Some l) f ts =
    ap (λ r. and_rest r ts)
    (extern_kept_clipped w depth start ts.past l (as_extern l.item) f ∙ ap (λ o. extern_kept depth start ts.past (clipped_leaf w l) o f) (sym (extern_clipped w l.item)))

pub extern_by_clipped : (w : Wanted) (depth : ℕ) (f : Found) (ts : Tokens) → with_value (clipped_item_if w) (extern_by depth f ts)
    ≡ (let h = with_value (clipped_front w) (front ts) in let l = leaf_behind w h.0 h.1 in extern_found depth h.0.start l.0 f l.1)
unfolding with_value clipped_front
extern_by_clipped w depth f ts =
    extern_found_clipped w depth (front ts).0.start (leaf (front ts).0 (front ts).1).0 f (leaf (front ts).0 (front ts).1).1
    ∙ ap (λ l. extern_found depth (front ts).0.start l.0 f l.1) (leaf_front w (front ts).0 (front ts).1)

pub extern_turn_clipped : (w : Wanted) (depth : ℕ) (f : Found) (ts : Tokens) → with_value (clipped_item_if w) (extern_turn depth f ts)
    ≡ (if is_at_end ts then unmatched_token f ts else with_value (clipped_item_if w) (extern_by depth f ts))
unfolding with_value clipped_item_if extern_turn
extern_turn_clipped w depth f ts = with_if (clipped_item_if w) (is_at_end ts) (unmatched_token f ts) (extern_by depth f ts)

pub extern_inside_clipped : (w : Wanted) (depth : ℕ) (f : Found) (ts : Tokens) → with_value (clipped_block w) (extern_inside depth f ts)
    ≡ (if symbol ts == 123 then block_kept w (clipped_turn w (extern_turn depth)) f ts else (no_block, (f, ts)))
unfolding extern_inside
extern_inside_clipped w depth f ts =
    with_if (clipped_block w) (symbol ts == 123) (block_of (extern_turn depth) f ts) (no_block, (f, ts))
    ∙ ap (λ b. if symbol ts == 123 then b else with_value (clipped_block w) (no_block, (f, ts))) (block_clipped w (extern_turn depth) f ts)
    ∙ ap (λ b. if symbol ts == 123 then block_kept w (clipped_turn w (extern_turn depth)) f ts else b) (empty_clipped w false (f, ts))

block_held : (w : Wanted) (attrs inner : List MetaView) (is : Option (List ItemView))
    → wanted_item w attrs (extern_block_from (node inner []) is) ≡ extern_block_from (node (attrs ++ kept_metas w.metas inner) []) (option_map (clipped_items w) is)
unfolding wanted_item clipped_items
block_held w attrs inner None = ap (λ b. bare_extern_block (node (attrs ++ kept_metas w.metas inner) b)) (text_none w.bodies)
block_held w attrs inner (Some is) =
    ap (λ b. listed_extern_block (node (attrs ++ kept_metas w.metas inner) b) (clipped_list w (items_from is))) (text_none w.bodies)
    ∙ ap (listed_extern_block (node (attrs ++ kept_metas w.metas inner) [])) (wanted_from w is)

pub extern_block_clipped : (w : Wanted) (depth start : ℕ) (attrs : List MetaView) (f : Found) (ts : Tokens) → with_value (wanted_item w attrs) (extern_block depth start [] f ts)
    ≡ (let b = with_value (clipped_block w) (extern_inside (one_more depth) nothing_found ts) in
    (extern_block_from (node (attrs ++ b.0.attrs) []) b.0.items, (and_parent depth start b.1.1.past kind.ExternBlock no_name b.0.is_ended b.1.0 f, b.1.1)))
unfolding with_value clipped_block extern_block
extern_block_clipped w depth start attrs f ts =
    let b = extern_inside (one_more depth) nothing_found ts in
    ap (λ i. (i, (and_parent depth start b.1.1.past kind.ExternBlock no_name b.0.is_ended b.1.0 f, b.1.1))) (block_held w attrs b.0.attrs b.0.items)

block_front : (w : Wanted) (attrs inner : List MetaView) (is : Option (List ItemView)) → clipped_item w (extern_block_from (node (attrs ++ inner) []) is) ≡ wanted_item w (kept_metas w.metas attrs) (extern_block_from (node inner []) is)
unfolding wanted_item
block_front w attrs inner None = ap (λ a. bare_extern_block (node a (kept_text w.bodies []))) (kept_append w.metas attrs inner)
block_front w attrs inner (Some is) = ap (λ a. listed_extern_block (node a (kept_text w.bodies [])) (clipped_list w (items_from is))) (kept_append w.metas attrs inner)

extern_block_front : (w : Wanted) (depth start : ℕ) (attrs : List MetaView) (f : Found) (ts : Tokens) → with_value (clipped_item w) (extern_block depth start attrs f ts) ≡ with_value (wanted_item w (kept_metas w.metas attrs)) (extern_block depth start [] f ts)
unfolding with_value extern_block
extern_block_front w depth start attrs f ts =
    let b = extern_inside (one_more depth) nothing_found ts in
    ap (λ i. (i, (and_parent depth start b.1.1.past kind.ExternBlock no_name b.0.is_ended b.1.0 f, b.1.1))) (block_front w attrs b.0.attrs b.0.items)

-- ---- modules

pub deep_clipped : (w : Wanted) (left : ℕ) (f : Found) (ts : Tokens) → left ≡ 0 → (symbol ts == 123) ≡ true
    → with_value (clipped_block w) (inside left f ts) ≡ (deep_block, (and_problem problem.TooDeep (at ts) f, behind_tree ts))
deep_clipped w left f ts e b = ap (with_value (clipped_block w)) (inside_deep left f ts e b) ∙ empty_clipped w true _

pub none_clipped : (w : Wanted) (left : ℕ) (f : Found) (ts : Tokens) → symbol ts ≢ 123 → with_value (clipped_block w) (inside left f ts) ≡ (no_block, (f, ts))
none_clipped w left f ts e = ap (with_value (clipped_block w)) (inside_none left f ts e) ∙ empty_clipped w false _

pub some_clipped : (w : Wanted) (left : ℕ) (f : Found) (ts : Tokens) → 0 < left → (symbol ts == 123) ≡ true
    → with_value (clipped_block w) (inside left f ts) ≡ block_kept w (clipped_turn w (turn (left - 1))) f ts
some_clipped w left f ts h e = ap (with_value (clipped_block w)) (inside_some left f ts h e) ∙ block_clipped w (turn (left - 1)) f ts

pub unless_clipped : (w : Wanted) (semicolon : Bool) (left : ℕ) (f : Found) (ts : Tokens) → with_value (clipped_block w) (inside_unless semicolon (inside left) f ts)
    ≡ (if semicolon then (no_block, (f, ts)) else with_value (clipped_block w) (inside left f ts))
unless_clipped w semicolon left f ts =
    with_if (clipped_block w) semicolon (no_block, (f, ts)) (inside left f ts) ∙ ap (λ b. if semicolon then b else with_value (clipped_block w) (inside left f ts)) (empty_clipped w false (f, ts))

module_held : (w : Wanted) (attrs inner : List MetaView) (name : Option (List ℕ)) (visibility : Option Visibility) (semicolon : Bool) (is : Option (List ItemView))
    → wanted_item w attrs (module_from (named_node inner name visibility []) semicolon is) ≡ module_from (named_node (attrs ++ kept_metas w.metas inner) name visibility []) semicolon (option_map (clipped_items w) is)
unfolding wanted_item clipped_items
module_held w attrs inner name visibility semicolon None = ap (λ b. bare_module (named_node (attrs ++ kept_metas w.metas inner) name visibility b) semicolon) (text_none w.bodies)
module_held w attrs inner name visibility semicolon (Some is) =
    ap (λ b. listed_module (named_node (attrs ++ kept_metas w.metas inner) name visibility b) semicolon (clipped_list w (items_from is))) (text_none w.bodies)
    ∙ ap (listed_module (named_node (attrs ++ kept_metas w.metas inner) name visibility []) semicolon) (wanted_from w is)

pub module_clipped : (w : Wanted) (left : ℕ) (attrs : List MetaView) (start : ℕ) (visibility : Option Visibility) (head : Head) (f : Found) (ts : Tokens)
    → with_value (wanted_item w attrs) (module_item left (record { start = start; attrs = []; visibility = visibility; head = head }) f ts)
    ≡ (let n = written_name ts in
    let semicolon = eat 59 n.1 in
    let b = with_value (clipped_block w) (inside_unless semicolon.0 (inside left) nothing_found semicolon.1) in
    (module_from (named_node (attrs ++ b.0.attrs) n.0.name visibility []) semicolon.0 b.0.items, (and_parent (depth_of left) start b.1.1.past kind.Module n.0 (semicolon.0 || b.0.is_ended) b.1.0 f, b.1.1)))
unfolding with_value clipped_block module_item
module_clipped w left attrs start visibility head f ts =
    let n = written_name ts in
    let semicolon = eat 59 n.1 in
    let b = inside_unless semicolon.0 (inside left) nothing_found semicolon.1 in
    ap (λ i. (i, (and_parent (depth_of left) start b.1.1.past kind.Module n.0 (semicolon.0 || b.0.is_ended) b.1.0 f, b.1.1))) (module_held w attrs b.0.attrs n.0.name visibility semicolon.0 b.0.items)

listed_front : (w : Wanted) (attrs inner : List MetaView) (name : Option (List ℕ)) (visibility : Option Visibility) (semicolon : Bool) (is : Option (List ItemView))
    → clipped_item w (module_from (named_node (attrs ++ inner) name visibility []) semicolon is) ≡ wanted_item w (kept_metas w.metas attrs) (module_from (named_node inner name visibility []) semicolon is)
unfolding wanted_item
listed_front w attrs inner name visibility semicolon None = ap (λ a. bare_module (named_node a name visibility (kept_text w.bodies [])) semicolon) (kept_append w.metas attrs inner)
listed_front w attrs inner name visibility semicolon (Some is) =
    ap (λ a. listed_module (named_node a name visibility (kept_text w.bodies [])) semicolon (clipped_list w (items_from is))) (kept_append w.metas attrs inner)

module_front : (w : Wanted) (left : ℕ) (h : FrontRead) (f : Found) (ts : Tokens) → with_value (clipped_item w) (module_item left h f ts) ≡ with_value (wanted_item w (kept_metas w.metas h.attrs)) (module_item left (without_attributes h) f ts)
unfolding with_value module_item
module_front w left h f ts =
    let n = written_name ts in
    let semicolon = eat 59 n.1 in
    let b = inside_unless semicolon.0 (inside left) nothing_found semicolon.1 in
    ap (λ i. (i, (and_parent (depth_of left) h.start b.1.1.past kind.Module n.0 (semicolon.0 || b.0.is_ended) b.1.0 f, b.1.1))) (listed_front w h.attrs b.0.attrs n.0.name h.visibility semicolon.0 b.0.items)

-- an item behind what stands in front of it, by its word
abbrev pub wanted_by_head : Wanted → ℕ → Head → FrontRead → Finder (Option ItemView)
wanted_by_head w left heads.Module h f ts = some_item (with_value (wanted_item w h.attrs) (module_item left (without_attributes h) f ts))
wanted_by_head w left heads.ExternBlock h f ts = some_item (with_value (wanted_item w h.attrs) (extern_block (depth_of left) h.start [] f ts))
wanted_by_head w left _ h f ts = wanted_behind w (leaf_turn (depth_of left)) h f ts

by_head_clipped : (w : Wanted) (left : ℕ) (head : Head) (h : FrontRead) (f : Found) (ts : Tokens)
    → with_value (wanted_item_if w h.attrs) (by_head (inside left) (depth_of left) head (without_attributes h) f ts) ≡ wanted_by_head w left head h f ts
unfolding with_value wanted_item_if wanted_behind module_item
by_head_clipped w left heads.Module h f ts = refl
by_head_clipped w left _ h f ts = refl

pub behind_front_clipped : (w : Wanted) (left : ℕ) (h : FrontRead) (f : Found) (ts : Tokens) → wanted_behind w (behind_front left) h f ts ≡ wanted_by_head w left h.head h f ts
unfolding behind_front wanted_behind
behind_front_clipped w left h f ts = by_head_clipped w left h.head h f ts

by_head_front : (w : Wanted) (left : ℕ) (head : Head) (h : FrontRead) (f : Found) (ts : Tokens)
    → with_value (clipped_item_if w) (by_head (inside left) (depth_of left) head h f ts) ≡ wanted_by_head w left head (clipped_front w h) f ts
unfolding with_value clipped_item_if clipped_front module_item
by_head_front w left heads.Module h f ts = ap some_item (module_front w left h f ts)
by_head_front w left heads.ExternBlock h f ts = ap some_item (extern_block_front w (depth_of left) h.start h.attrs f ts)
by_head_front w left _ h f ts = leaf_turn_front w (depth_of left) h f ts

behind_front_front : (w : Wanted) (left : ℕ) (h : FrontRead) (f : Found) (ts : Tokens) → with_value (clipped_item_if w) (behind_front left h f ts) ≡ wanted_behind w (behind_front left) (clipped_front w h) f ts
unfolding behind_front wanted_behind clipped_front
behind_front_front w left h f ts = by_head_front w left h.head h f ts ∙ sym (by_head_clipped w left h.head (clipped_front w h) f ts)

-- where all is wanted
option_whole : (o : Option ItemView) → option_map (clipped_item all) o ≡ o
option_whole None = refl
option_whole (Some i) = ap Some (item_whole i)

pub behind_front_whole : (left : ℕ) (h : FrontRead) (f : Found) (ts : Tokens) → wanted_behind all (behind_front left) h f ts ≡ behind_front left h f ts
unfolding with_value clipped_item_if clipped_front kept_metas
behind_front_whole left h f ts = sym (behind_front_front all left h f ts) ∙ ap (λ o. (o, (behind_front left h f ts).1)) (option_whole (behind_front left h f ts).0)

pub turn_clipped : (w : Wanted) (left : ℕ) (f : Found) (ts : Tokens) → with_value (clipped_item_if w) (turn left f ts)
    ≡ (if is_at_end ts then unmatched_token f ts else (let h = with_value (clipped_front w) (front ts) in wanted_behind w (behind_front left) h.0 f h.1))
unfolding with_value clipped_item_if turn behind_front
turn_clipped w left f ts =
    with_if (clipped_item_if w) (is_at_end ts) (unmatched_token f ts) (behind_front left (front ts).0 f (front ts).1)
    ∙ ap (λ i. if is_at_end ts then unmatched_token f ts else i) (behind_front_front w left (front ts).0 f (front ts).1)
