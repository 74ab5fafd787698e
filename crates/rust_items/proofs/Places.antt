-- Items stand where their places say.
use Rattle.std.proofs.Common.{◌≡◌, ◌≤◌, ◌<◌, ◌+◌, ◌==◌, ◌&&◌, ℕ, zero, suc, Bool, true, false, Option, Some, None, List, [], ◌∷◌, ◌++◌, refl, sym, subst, ap, ◌∙◌, arith, append-nil, option_to_list, All, is_none}
use Rattle.rust_items.proofs.Common.{AllZip, All-nil, All-cons, AstIdKind, Visibility, MetaView, ItemView, ItemViews, plain_item, macro_call, no_items, item_and, items_from, module_from, extern_block_from, UseTreeView, Tokens, symbol, at, eat, is_empty, is_at_end, bumped, LeadsTo, here, further, through, when, bumped_leads, eat_leads, behind_tree_leads, Takes, takes_leads, takes_before, IsLaid, at_behind, taken_behind, takes_strict, TextRange, inner_attributes, inner_attributes_leads, Head, ProblemKind, Found, Finder, nothing_found, and_problem_at, and_row, LeafRead, NameRead, no_name, written_name, node, named_node, FrontRead, front, BlockRead, span_of, needs_name, and_flaw, and_item, and_leaf, and_parent, leaf_found, leaf_turn, finding, is_list_end, block_of, as_extern, extern_kept, extern_found, extern_turn, extern_inside, extern_block, one_more, unmatched_token, inside_unless, module_with, by_head, turn_with, inside, turn, depth_of, items, id_of, name_of, items_held, IsNameIn, IsBodyIn, IsPlace, nothing, placed, trees_in, trees_within}
use Rattle.hir_input.specs.declared.ast.PlainKind.TheVariants as plain_kind
use Rattle.hir_input.specs.declared.ids.AstIdKind.TheVariants as kind
use Rattle.rust_cursor.proofs.TokenPlaces.{behind}
use Rattle.rust_leaves.specs.declared.head.Head.TheVariants as heads
use Rattle.rust_items.specs.declared.log.ProblemKind.TheVariants as problem
use Rattle.rust_items.proofs.ItemRests.{IsNamed, nameless, by_token, name_behind, name_before, IsBraced, unbraced, braced, blank, IsTaken, LeafFound, TakesBy, front_takes, front_start, named_leads, named_named, behind_others_leads}
use Rattle.rust_items.proofs.ItemRests as leads
use Rattle.rust_items.proofs.TreesRead.{IsRead, read_around}
use Rattle.rust_items.proofs.UsesFound.{IsWithin, IsIn, UsesIn, no_uses, leaf_uses, holder_uses, widened_uses, retold_uses}
use Rattle.rust_items.proofs.Names.{IsToken, untold, told_behind, named_told}
use Rattle.rust_items.proofs.FoundItems.{list_found, widened, retold, adds_none, adds_problem, adds_problem_at, adds_use_trees, adds_more, adds_all, unnumbered, adds_item, AreFound, none_found, Finds}

-- ---- one item

-- a token that is left of these, with what is left behind it
record Stands (end : ℕ) (ts t : Tokens) : Type 0 where
  first : at ts ≤ at t
  strict : at t < (bumped t).past
  laid : IsLaid end (bumped t)

stands : (end : ℕ) (ts t : Tokens) → IsLaid end ts → LeadsTo ts t → is_empty t ≡ false → Stands end ts t
stands end ts t laid before some =
    let first = behind end before laid in
    record { first = first.place; strict = taken_behind end t first.laid some; laid = (behind end (bumped_leads t) first.laid).laid }

pub name_in : (end : ℕ) (ts us : Tokens) (name : Option TextRange) → IsLaid end ts → IsNamed ts us name → IsNameIn (record { start = at ts; end = us.past }) name
name_in end ts us None laid n = tt
name_in end ts us (Some range) laid (by_token t before some later) =
    let token = stands end ts t laid before some in
    (token.first, token.strict, (behind end later token.laid).past)

body_in : (end : ℕ) (ts us : Tokens) (body : Option TextRange) → IsLaid end ts → IsBraced ts us body → IsBodyIn (record { start = at ts; end = us.past }) body
body_in end ts us None laid n = tt
body_in end ts us (Some range) laid (braced b before some t) =
    let brace = stands end ts b laid before some in
    let width = brace.strict in
    let inside = at_behind end (bumped b) brace.laid in
    let strict = takes_strict end t brace.laid in
    (brace.first, omega arith, refl)

pub place_is : (end : ℕ) (ts us : Tokens) (i : ItemView) (k : AstIdKind) (body name : Option TextRange) → IsLaid end ts → Takes ts us → id_of i ≡ Some (blank k) → IsNamed ts us name → IsBraced ts us body → ((k ≡ kind.ExternCrate → ⊥) → IsToken ts (name_of i) name)
    → IsPlace (IsToken ts) ts.past us.past i (unnumbered k (at ts) us.past body name)
place_is end ts us i k body name laid t e n b spelled =
    record { id = e; begins = at_behind end ts laid; some = takes_strict end t laid; ends = omega arith; name = name_in end ts us name laid n; body = body_in end ts us body laid b; named = spelled }

-- ---- where its use trees begin

pub same_problem_at : (kind : ProblemKind) (place : Option ℕ) (f : Found) → (and_problem_at kind place f).use_trees ≡ f.use_trees
same_problem_at kind None f = refl
same_problem_at kind (Some place) f = refl

same_flaw : (is_ended is_nameless : Bool) (start : ℕ) (f : Found) → (and_flaw is_ended is_nameless start f).use_trees ≡ f.use_trees
same_flaw true true start f = refl
same_flaw true false start f = refl
same_flaw false is_nameless start f = refl

same_item : (depth start end : ℕ) (body : Option TextRange) (kind : AstIdKind) (hashed : List ℕ) (name : Option TextRange) (is_ended : Bool) (f : Found)
    → (and_item depth start end body kind hashed name is_ended f).use_trees ≡ f.use_trees
same_item depth start end body kind hashed name is_ended f =
    same_flaw is_ended (is_none name && needs_name kind) start (and_row (record { depth = depth; kind = kind; name = hashed }) (span_of start end body name) f)

pub place_within : (end : ℕ) (ts us : Tokens) → IsLaid end ts → Takes ts us → IsWithin ts.past us.past (record { start = at ts; end = us.past })
place_within end ts us laid t = let strict = takes_strict end t laid in record { begins = at_behind end ts laid; some = omega arith; ends = omega arith }

read_in : (end : ℕ) (ts us : Tokens) (start : ℕ) (w : UseTreeView) → IsLaid end ts → IsRead ts us start w → IsIn (at ts) us.past start
read_in end ts us start w laid r =
    let first = behind end r.before laid in
    let strict = takes_strict end r.taken first.laid in
    let place = first.place in
    let same = r.first in
    (omega arith, omega arith)

starts_in : (end : ℕ) (ts us : Tokens) (starts : List ℕ) (ws : List UseTreeView) → IsLaid end ts → AllZip (IsRead ts us) starts ws → All (IsIn (at ts) us.past) starts
starts_in end ts us [] [] laid z = All-nil (IsIn (at ts) us.past)
starts_in end ts us (s ∷ ss) (w ∷ ws) laid z = All-cons (IsIn (at ts) us.past) s ss (read_in end ts us s w laid z.0) (starts_in end ts us ss ws laid z.1)
starts_in end ts us _ _ laid z = absurd z

-- an item that holds none
leaf_is : (end : ℕ) (ts us : Tokens) (depth : ℕ) (l : LeafRead) (f : Found) → IsLaid end ts → IsTaken ts us l → AreFound ts us f (and_leaf depth (at ts) us.past l f) (item_and l.item no_items)
leaf_is end ts us depth l f laid t = record {
  leads = takes_leads t.takes;
  places = unnumbered l.kind (at ts) us.past l.body l.named ∷ [];
  adds = adds_use_trees l.use_trees (adds_problem_at _ l.too_deep (adds_item f depth (at ts) us.past l.body l.kind l.name l.named l.is_ended));
  are = placed (place_is end ts us l.item l.kind l.body l.named laid t.takes t.leaf.id t.leaf.name t.leaf.body t.leaf.told) (rw t.leaf.alone nothing) nothing;
  starts = l.use_trees;
  more = ap (λ k. k ++ l.use_trees) (same_problem_at problem.TooDeep l.too_deep (and_item depth (at ts) us.past l.body l.kind l.name l.named l.is_ended f) ∙ same_item depth (at ts) us.past l.body l.kind l.name l.named l.is_ended f);
  uses = leaf_uses l.use_trees [] (sym (append-nil l.use_trees)) t.leaf.alone (place_within end ts us laid t.takes) (starts_in end ts us l.use_trees (trees_in l.item) laid t.leaf.uses) t.leaf.uses no_uses;
}

-- the items of a block, if there is one
abbrev pub listed : Option (List ItemView) → ItemViews
listed None = no_items
listed (Some is) = items_from is

-- an item of a kind that holds these, with this name
record Holds (k : AstIdKind) (name : Option (List ℕ)) (is : ItemViews) (i : ItemView) : Type 0 where
  id : id_of i ≡ Some (blank k)
  named : name_of i ≡ name
  held : items_held i ≡ is
  trees : trees_in i ≡ trees_within (items_held i)

parent_is : (end : ℕ) (ts ms us : Tokens) (f g : Found) (depth : ℕ) (k : AstIdKind) (n : NameRead) (is_ended : Bool) (i : ItemView) (is : ItemViews) → Holds k n.name is i → IsLaid end ts → Takes ts ms
    → AreFound ms us nothing_found g is → IsNamed ts ms n.range → IsToken ts n.name n.range → AreFound ts us f (and_parent depth (at ts) us.past k n is_ended g f) (item_and i no_items)
parent_is end ts ms us f g depth k n is_ended i is h laid t b name spelled =
    let strict = takes_strict end t laid in
    record {
      leads = through (takes_leads t) b.leads;
      places = unnumbered k (at ts) us.past None n.range ∷ b.places;
      adds = adds_more (adds_item f depth (at ts) us.past None k n.hashed n.range is_ended) (adds_all _ g b.places b.adds);
      are = placed (place_is end ts us i k None n.range laid (takes_before t b.leads) h.id (name_before name b.leads) unbraced (λ _. rw h.named spelled)) (rw h.held (widened (at ts + 1) us.past (omega arith) (omega arith) (retold (told_behind (takes_leads t)) b.are))) nothing;
      starts = b.starts;
      more = ap (λ l. l ++ g.use_trees) (same_item depth (at ts) us.past None k n.hashed n.range is_ended f) ∙ ap (λ l. f.use_trees ++ l) b.more;
      uses = holder_uses b.places [] b.starts [] (sym (append-nil b.places)) (sym (append-nil b.starts)) h.trees (place_within end ts us laid (takes_before t b.leads))
          (subst (λ (js : ItemViews). UsesIn (IsRead ts us) (at ts) us.past js b.places b.starts) (sym h.held) (widened_uses (at ts) us.past (omega arith) (omega arith) (retold_uses (read_around (takes_leads t) here) b.uses))) no_uses;
    }

-- ---- items that hold none

option_found : (end : ℕ) (ts us : Tokens) (depth : ℕ) (o : Option LeafRead) (f : Found) → IsLaid end ts → LeafFound ts us o
    → AreFound ts (leaf_found depth (at ts) o f us).1.1 f (leaf_found depth (at ts) o f us).1.0 (items_from (option_to_list (leaf_found depth (at ts) o f us).0))
option_found end ts us depth None f laid p = none_found f _ (through p (behind_others_leads us)) (adds_problem _ _ (adds_none f)) refl
option_found end ts us depth (Some l) f laid t = leaf_is end ts us depth l f laid t

-- the same where an item's start is said otherwise
start_found : (end : ℕ) (ts us : Tokens) (depth start : ℕ) (o : Option LeafRead) (f : Found) → start ≡ at ts → IsLaid end ts → LeafFound ts us o
    → AreFound ts (leaf_found depth start o f us).1.1 f (leaf_found depth start o f us).1.0 (items_from (option_to_list (leaf_found depth start o f us).0))
start_found end ts us depth start o f s laid p =
    subst (λ n. AreFound ts (leaf_found depth n o f us).1.1 f (leaf_found depth n o f us).1.0 (items_from (option_to_list (leaf_found depth n o f us).0))) (sym s) (option_found end ts us depth o f laid p)

leaf_turn_found : (end : ℕ) (ts us : Tokens) (depth : ℕ) (h : FrontRead) (f : Found) → h.start ≡ at ts → IsLaid end ts → TakesBy h.head ts us
    → AreFound ts (leaf_turn depth h f us).1.1 f (leaf_turn depth h f us).1.0 (items_from (option_to_list (leaf_turn depth h f us).0))
unfolding leaf_turn
leaf_turn_found end ts us depth h f s laid t = start_found end ts _ depth h.start _ f s laid (leads.leaf_found h ts us t)

unmatched_found : (ts : Tokens) (f : Found) → AreFound ts (unmatched_token f ts).1.1 f (unmatched_token f ts).1.0 no_items
unmatched_found ts f = none_found f _ (bumped_leads ts) (adds_problem _ _ (adds_none f)) refl

-- ---- blocks

-- what a reader of a block finds
abbrev pub FindsIn : ℕ → Finder BlockRead → Type 0
FindsIn end inside = (f : Found) (ts : Tokens) → IsLaid end ts → AreFound ts (inside f ts).1.1 f (inside f ts).1.0 (listed (inside f ts).0.items)

pub block_found : (end : ℕ) (turn : Finder (Option ItemView)) → Finds end turn → FindsIn end (block_of turn)
block_found end turn t f ts laid =
    let open_leads : LeadsTo ts (inner_attributes (bumped ts)).1 = further (inner_attributes_leads (bumped ts)) in
    let first = behind end open_leads laid in
    let list = list_found end (is_list_end false) turn t f (inner_attributes (bumped ts)).1 first.laid in
    let next = behind end list.leads first.laid in
    let close_leads = eat_leads 125 (finding (is_list_end false) turn f (inner_attributes (bumped ts)).1).1.1 in
    let last = behind end close_leads next.laid in
    record {
      leads = through open_leads (through list.leads close_leads);
      places = list.places;
      adds = list.adds;
      are = widened ts.past _ first.past last.past (retold (told_behind open_leads) list.are);
      starts = list.starts;
      more = list.more;
      uses = widened_uses ts.past _ first.past last.past (retold_uses (read_around open_leads close_leads) list.uses);
    }

no_block_found : (f : Found) (ts : Tokens) → AreFound ts ts f f no_items
no_block_found f ts = none_found f f here (adds_none f) refl

-- ---- extern blocks

extern_same : (i j : ItemView) → as_extern i ≡ Some j → i ≡ j
extern_same (plain_item plain_kind.Fn n) j e = cc
extern_same (plain_item plain_kind.Static n) j e = cc
extern_same (plain_item plain_kind.TypeAlias n) j e = cc
extern_same (macro_call c) j e = cc
extern_same _ j e = absurd cc

kept_found : (end : ℕ) (ts us : Tokens) (depth : ℕ) (l : LeafRead) (o : Option ItemView) (f : Found) → IsLaid end ts → IsTaken ts us l → as_extern l.item ≡ o
    → AreFound ts us f (extern_kept depth (at ts) us.past l o f).1 (items_from (option_to_list (extern_kept depth (at ts) us.past l o f).0))
kept_found end ts us depth l None f laid t e = none_found f _ (takes_leads t.takes) (adds_problem _ _ (adds_none f)) refl
kept_found end ts us depth l (Some i) f laid t e = let same = extern_same l.item i e in rw (← same) (leaf_is end ts us depth l f laid t)

extern_option_found : (end : ℕ) (ts us : Tokens) (depth : ℕ) (o : Option LeafRead) (f : Found) → IsLaid end ts → LeafFound ts us o
    → AreFound ts (extern_found depth (at ts) o f us).1.1 f (extern_found depth (at ts) o f us).1.0 (items_from (option_to_list (extern_found depth (at ts) o f us).0))
extern_option_found end ts us depth None f laid p = none_found f _ (through p (behind_others_leads us)) (adds_problem _ _ (adds_none f)) refl
extern_option_found end ts us depth (Some l) f laid t = kept_found end ts us depth l (as_extern l.item) f laid t refl

pub extern_turn_found : (end depth : ℕ) → Finds end (extern_turn depth)
unfolding extern_turn
extern_turn_found end depth f ts laid =
    when (is_at_end ts) (λ e. rw e (unmatched_found ts f))
    (λ e. rw (e, front_start ts) (extern_option_found end ts _ depth _ f laid (leads.leaf_found (front ts).0 ts (front ts).1 (front_takes ts))))

pub extern_inside_found : (end depth : ℕ) → FindsIn end (extern_inside depth)
unfolding extern_inside
extern_inside_found end depth f ts laid =
    when (symbol ts == 123) (λ e. rw e (block_found end (extern_turn depth) (extern_turn_found end depth) f ts laid)) (λ e. rw e (no_block_found f ts))

extern_holds : (attrs : List MetaView) (is : Option (List ItemView)) → Holds kind.ExternBlock None (listed is) (extern_block_from (node attrs []) is)
extern_holds attrs None = record { id = refl; named = refl; held = refl; trees = refl }
extern_holds attrs _ = record { id = refl; named = refl; held = refl; trees = refl }

extern_block_found : (end : ℕ) (ts us : Tokens) (depth : ℕ) (attrs : List MetaView) (f : Found) → IsLaid end ts → Takes ts us
    → AreFound ts (extern_block depth (at ts) attrs f us).1.1 f (extern_block depth (at ts) attrs f us).1.0 (item_and (extern_block depth (at ts) attrs f us).0 no_items)
unfolding extern_block
extern_block_found end ts us depth attrs f laid t =
    let first = behind end (takes_leads t) laid in
    parent_is end ts us _ f _ depth kind.ExternBlock no_name _ _ _ (extern_holds _ _) laid t (extern_inside_found end (one_more depth) nothing_found us first.laid) nameless untold

-- ---- modules

module_holds : (attrs : List MetaView) (name : Option (List ℕ)) (v : Option Visibility) (semicolon : Bool) (is : Option (List ItemView))
    → Holds kind.Module name (listed is) (module_from (named_node attrs name v []) semicolon is)
module_holds attrs name v semicolon None = record { id = refl; named = refl; held = refl; trees = refl }
module_holds attrs name v semicolon _ = record { id = refl; named = refl; held = refl; trees = refl }

module _ (end : ℕ) (inside : Finder BlockRead) (finds : FindsIn end inside) (depth : ℕ) where
  pub unless_found : (semicolon : Bool) → FindsIn end (inside_unless semicolon inside)
  unless_found true f ts laid = no_block_found f ts
  unless_found false f ts laid = finds f ts laid

  module_found : (ts us : Tokens) (h : FrontRead) (f : Found) → h.start ≡ at ts → IsLaid end ts → Takes ts us
      → AreFound ts (module_with inside depth h f us).1.1 f (module_with inside depth h f us).1.0 (item_and (module_with inside depth h f us).0 no_items)
  module_found ts us h f s laid t =
      let name_leads = through (named_leads us) (eat_leads 59 (written_name us).1) in
      let first = behind end (through (takes_leads t) name_leads) laid in
      let b = unless_found (eat 59 (written_name us).1).0 nothing_found (eat 59 (written_name us).1).1 first.laid in
      rw s (parent_is end ts (eat 59 (written_name us).1).1 _ f _ depth kind.Module (written_name us).0 _ _ _ (module_holds _ _ _ _ _) laid (takes_before t name_leads) b
      (name_behind (takes_leads t) (name_before (named_named us) (eat_leads 59 (written_name us).1))) (told_behind (takes_leads t) _ _ (named_told us)))

  head_found : (head : Head) (ts us : Tokens) (h : FrontRead) (f : Found) → h.start ≡ at ts → IsLaid end ts → TakesBy head ts us → TakesBy h.head ts us
      → AreFound ts (by_head inside depth head h f us).1.1 f (by_head inside depth head h f us).1.0 (items_from (option_to_list (by_head inside depth head h f us).0))
  head_found heads.Module ts us h f s laid t u = module_found ts us h f s laid (t.word (λ e. absurd cc))
  head_found heads.ExternBlock ts us h f s laid t u = rw s (extern_block_found end ts us depth h.attrs f laid (t.word (λ e. absurd cc)))
  head_found _ ts us h f s laid t u = leaf_turn_found end ts us depth h f s laid u

  pub turn_with_found : Finds end (turn_with inside depth)
  turn_with_found f ts laid =
      when (is_at_end ts) (λ e. rw e (unmatched_found ts f))
      (λ e. rw e (head_found (front ts).0.head ts (front ts).1 (front ts).0 f (front_start ts) laid (front_takes ts) (front_takes ts)))

pub inside_found : (end left : ℕ) → FindsIn end (inside left)
unfolding inside
inside_found end zero f ts laid =
    when (symbol ts == 123) (λ e. rw e (none_found f _ (behind_tree_leads ts) (adds_problem _ _ (adds_none f)) refl)) (λ e. rw e (no_block_found f ts))
inside_found end (suc left) f ts laid =
    when (symbol ts == 123)
    (λ e. rw e (block_found end (turn_with (inside left) (depth_of left)) (turn_with_found end (inside left) (inside_found end left) (depth_of left)) f ts laid))
    (λ e. rw e (no_block_found f ts))

pub turn_found : (end left : ℕ) → Finds end (turn left)
unfolding turn
turn_found end left f ts laid = turn_with_found end (inside left) (inside_found end left) (depth_of left) f ts laid

-- the items of a file
pub items_found : (end : ℕ) (is_top : Bool) (left : ℕ) (f : Found) (ts : Tokens) → IsLaid end ts
    → AreFound ts (items is_top left f ts).1.1 f (items is_top left f ts).1.0 (items_from (items is_top left f ts).0)
items_found end is_top left f ts laid = list_found end (is_list_end is_top) (turn left) (turn_found end left) f ts laid
