-- What stays so of what was found, whatever is read: items one after another, and those in items.
use Rattle.std.proofs.Common.{◌==◌, ◌&&◌, ◌||◌, ◌++◌, ℕ, zero, suc, Bool, true, false, Option, Some, None, List, [], sym, subst}
use Rattle.rust_edits.proofs.Common.{is_none, option_to_list, AstIdKind, MetaView, ItemView, Row, most_tokens, progress_from, Tokens, symbol, at, eat, is_at_end, bumped, TextRange, inner_attributes, Head, FrontRead, front, leaf, LeafRead, NameRead, written_name, no_name, ProblemKind, Found, Finder, nothing_found, and_problem, and_problem_at, and_row, and_use_trees, and_all, BlockRead, span_of, needs_name, and_flaw, and_item, and_leaf, and_parent, leaf_found, leaf_turn, finding_from, finding, is_list_end, items, block_of, as_extern, extern_kept, extern_found, extern_turn, extern_inside, extern_block, inside_unless, module_with, by_head, turn_with, inside, depth_of, turn, LeadsTo, further, through, when, beyond_leads, eat_leads, inner_attributes_leads, front_start, front_takes, named_leads, Span, Finds, extern_turn_found, turn_with_found, inside_found, turn_found}
use Rattle.hir_input.specs.declared.ids.AstIdKind.TheVariants as kind
use Rattle.rust_leaves.specs.declared.head.Head.TheVariants as heads
use Rattle.rust_items.specs.declared.log.ProblemKind.TheVariants as problem
use Rattle.rust_items.specs.Items.{one_more}

abbrev pub IfPlace : (ℕ → Type 0) → Option ℕ → Type 0
IfPlace P None = Unit {0}
IfPlace P (Some n) = P n

-- the braces of an item that holds none, and where a use list in it is too deep
abbrev pub IfLeaf : (Option TextRange → Type 0) → (ℕ → Type 0) → Option LeafRead → Type 0
IfLeaf B P None = Unit {0}
IfLeaf B P (Some l) = B l.body × IfPlace P l.too_deep

pub any_place : (o : Option ℕ) → IfPlace (λ _. Unit {0}) o
any_place None = tt
any_place (Some n) = tt

-- How what was found before stands to what was found behind: so that a problem at one of these places, an item with such braces, use trees and what
-- an item holds may be added. These come from tokens that are reached.
pub record Keeping (end : ℕ) : Type 1 where
  pub keeps : Found → Found → Type 0
  pub place : ℕ → Type 0
  pub body : Option TextRange → Type 0
  pub reached : Tokens → Type 0
  pub same : (f : Found) → keeps f f
  pub joined : (f g h : Found) → keeps f g → keeps g h → keeps f h
  pub told : (f g : Found) (k : ProblemKind) (n : ℕ) → place n → keeps f g → keeps f (and_problem k n g)
  pub row : (f g : Found) (r : Row) (s : Span) → body s.body → keeps f g → keeps f (and_row r s g)
  pub uses : (f g : Found) (ns : List ℕ) → keeps f g → keeps f (and_use_trees ns g)
  pub held : (f g more : Found) → keeps nothing_found more → keeps f g → keeps f (and_all more g)
  pub none : body None
  pub on : (ts us : Tokens) → LeadsTo ts us → reached ts → reached us
  pub behind : (each : Finder (Option ItemView)) → Finds end each → (f : Found) (ts : Tokens) → reached ts → reached (each f ts).1.1
  pub starts : (ts : Tokens) → reached ts → place (at ts)
  pub leaves : (h : FrontRead) (ts : Tokens) → reached ts → IfLeaf body place (leaf h ts).0

module _ (end : ℕ) (w : Keeping end) where
  abbrev pub Keeps : {A : Type 0} → Finder A → Type 0
  Keeps finder = (f : Found) (ts : Tokens) → w.reached ts → w.keeps f (finder f ts).1.0

  pub maybe : (f g : Found) (k : ProblemKind) (o : Option ℕ) → IfPlace w.place o → w.keeps f g → w.keeps f (and_problem_at k o g)
  maybe f g k None s h = h
  maybe f g k (Some n) s h = w.told f g k n s h

  flaw : (f g : Found) (ended nameless : Bool) (start : ℕ) → w.place start → w.keeps f g → w.keeps f (and_flaw ended nameless start g)
  flaw f g true true start s h = w.told f g problem.Nameless start s h
  flaw f g true false start s h = h
  flaw f g false nameless start s h = w.told f g problem.Unfinished start s h

  item : (depth start last : ℕ) (body written_name : Option TextRange) (k : AstIdKind) (name : List ℕ) (ended : Bool) (f : Found) → w.place start → w.body body → w.keeps f (and_item depth start last body k name written_name ended f)
  item depth start last body written_name k name ended f s b =
      let r : Row = record { depth = depth; kind = k; name = name } in
      flaw f (and_row r (span_of start last body written_name) f) ended (is_none written_name && needs_name k) start s (w.row f f r (span_of start last body written_name) b (w.same f))

  one_leaf : (depth start last : ℕ) (l : LeafRead) (f : Found) → w.place start → IfLeaf w.body w.place (Some l) → w.keeps f (and_leaf depth start last l f)
  one_leaf depth start last l f s b =
      let own = and_item depth start last l.body l.kind l.name l.named l.is_ended f in
      w.uses f (and_problem_at problem.TooDeep l.too_deep own) l.use_trees (maybe f own problem.TooDeep l.too_deep b.1 (item depth start last l.body l.named l.kind l.name l.is_ended f s b.0))

  parent : (depth start last : ℕ) (k : AstIdKind) (n : NameRead) (ended : Bool) (more f : Found) → w.place start → w.keeps nothing_found more → w.keeps f (and_parent depth start last k n ended more f)
  parent depth start last k n ended more f s h =
      w.held f (and_item depth start last None k n.hashed n.range ended f) more h (item depth start last None n.range k n.hashed ended f s w.none)

  leaf_keeps : (depth start : ℕ) (o : Option LeafRead) (f : Found) (us : Tokens) → w.place start → IfLeaf w.body w.place o → w.keeps f (leaf_found depth start o f us).1.0
  leaf_keeps depth start None f us s b = w.told f f problem.NoItem start s (w.same f)
  leaf_keeps depth start (Some l) f us s b = one_leaf depth start us.past l f s b

  leaf_turn_keeps : (depth : ℕ) (h : FrontRead) → w.place h.start → Keeps (leaf_turn depth h)
  unfolding leaf_turn
  leaf_turn_keeps depth h s f ts p = leaf_keeps depth h.start (leaf h ts).0 f (leaf h ts).1 s (w.leaves h ts p)

  front_place : (ts : Tokens) → w.reached ts → w.place (front ts).0.start
  front_place ts p = subst w.place (sym (front_start ts)) (w.starts ts p)

  front_on : (ts : Tokens) → w.reached ts → w.reached (front ts).1
  front_on ts p = w.on ts (front ts).1 (front_takes ts).leads p

  -- ---- lists

  list_keeps : (ends : Tokens → Bool) (each : Finder (Option ItemView)) → Finds end each → Keeps each → (n : ℕ) (done : List ItemView) → Keeps (finding_from ends each n done)
  list_keeps ends each finds own zero done f ts p = w.same f
  list_keeps ends each finds own (suc n) done f ts p =
      let r = each f ts in
      let next = progress_from ts.past r.1.1 in
      let rest = list_keeps ends each finds own n (done ++ option_to_list r.0) r.1.0 next (w.on r.1.1 next (beyond_leads ts.past r.1.1) (w.behind each finds f ts p)) in
      when (ends ts) (λ e. rw e (w.same f)) (λ e. rw e (w.joined f r.1.0 (finding_from ends each n (done ++ option_to_list r.0) r.1.0 next).1.0 (own f ts p) rest))

  block_keeps : (each : Finder (Option ItemView)) → Finds end each → Keeps each → Keeps (block_of each)
  unfolding finding
  block_keeps each finds own f ts p =
      list_keeps (is_list_end false) each finds own most_tokens [] f (inner_attributes (bumped ts)).1 (w.on ts (inner_attributes (bumped ts)).1 (further (inner_attributes_leads (bumped ts))) p)

  -- ---- extern blocks

  extern_one : (depth start last : ℕ) (l : LeafRead) (o : Option ItemView) (f : Found) → w.place start → IfLeaf w.body w.place (Some l) → w.keeps f (extern_kept depth start last l o f).1
  extern_one depth start last l None f s b = w.told f f problem.NoItem start s (w.same f)
  extern_one depth start last l (Some i) f s b = one_leaf depth start last l f s b

  extern_keeps : (depth start : ℕ) (o : Option LeafRead) (f : Found) (us : Tokens) → w.place start → IfLeaf w.body w.place o → w.keeps f (extern_found depth start o f us).1.0
  extern_keeps depth start None f us s b = w.told f f problem.NoItem start s (w.same f)
  extern_keeps depth start (Some l) f us s b = extern_one depth start us.past l (as_extern l.item) f s b

  unmatched_keeps : (f : Found) (ts : Tokens) → w.reached ts → w.keeps f (and_problem problem.Unmatched (at ts) f)
  unmatched_keeps f ts p = w.told f f problem.Unmatched (at ts) (w.starts ts p) (w.same f)

  pub extern_turn_keeps : (depth : ℕ) → Keeps (extern_turn depth)
  unfolding extern_turn
  extern_turn_keeps depth f ts p =
      let h = (front ts).0 in
      let us = (front ts).1 in
      when (is_at_end ts) (λ e. rw e (unmatched_keeps f ts p))
      (λ e. rw e (extern_keeps depth h.start (leaf h us).0 f (leaf h us).1 (front_place ts p) (w.leaves h us (front_on ts p))))

  extern_inside_keeps : (depth : ℕ) → Keeps (extern_inside depth)
  unfolding extern_inside
  extern_inside_keeps depth f ts p =
      when (symbol ts == 123) (λ e. rw e (block_keeps (extern_turn depth) (extern_turn_found end depth) (extern_turn_keeps depth) f ts p)) (λ e. rw e (w.same f))

  extern_block_keeps : (depth start : ℕ) (attrs : List MetaView) → w.place start → Keeps (extern_block depth start attrs)
  unfolding extern_block
  extern_block_keeps depth start attrs s f ts p =
      let b = extern_inside (one_more depth) nothing_found ts in
      parent depth start b.1.1.past kind.ExternBlock no_name b.0.is_ended b.1.0 f s (extern_inside_keeps (one_more depth) nothing_found ts p)

  -- ---- modules

  module _ (within : Finder BlockRead) (own : Keeps within) (depth : ℕ) where
    unless_keeps : (semicolon : Bool) → Keeps (inside_unless semicolon within)
    unless_keeps true f ts p = w.same f
    unless_keeps false f ts p = own f ts p

    module_keeps : (h : FrontRead) → w.place h.start → Keeps (module_with within depth h)
    module_keeps h s f ts p =
        let c = eat 59 (written_name ts).1 in
        let b = inside_unless c.0 within nothing_found c.1 in
        parent depth h.start b.1.1.past kind.Module (written_name ts).0 (c.0 || b.0.is_ended) b.1.0 f s
        (unless_keeps c.0 nothing_found c.1 (w.on ts c.1 (through (named_leads ts) (eat_leads 59 (written_name ts).1)) p))

    head_keeps : (k : Head) (h : FrontRead) → w.place h.start → Keeps (by_head within depth k h)
    head_keeps heads.Module h s f ts p = module_keeps h s f ts p
    head_keeps heads.ExternBlock h s f ts p = extern_block_keeps depth h.start h.attrs s f ts p
    head_keeps _ h s f ts p = leaf_turn_keeps depth h s f ts p

    turn_with_keeps : Keeps (turn_with within depth)
    turn_with_keeps f ts p =
        when (is_at_end ts) (λ e. rw e (unmatched_keeps f ts p)) (λ e. rw e (head_keeps (front ts).0.head (front ts).0 (front_place ts p) f (front ts).1 (front_on ts p)))

  inside_keeps : (left : ℕ) → Keeps (inside left)
  unfolding inside
  inside_keeps zero f ts p = when (symbol ts == 123) (λ e. rw e (w.told f f problem.TooDeep (at ts) (w.starts ts p) (w.same f))) (λ e. rw e (w.same f))
  inside_keeps (suc left) f ts p =
      when (symbol ts == 123)
      (λ e. rw e (block_keeps (turn_with (inside left) (depth_of left)) (turn_with_found end (inside left) (inside_found end left) (depth_of left)) (turn_with_keeps (inside left) (inside_keeps left) (depth_of left)) f ts p))
      (λ e. rw e (w.same f))

  pub next_keeps : (left : ℕ) → Keeps (turn_with (inside left) (depth_of left))
  next_keeps left = turn_with_keeps (inside left) (inside_keeps left) (depth_of left)

  pub turn_keeps : (left : ℕ) → Keeps (turn left)
  unfolding turn
  turn_keeps left f ts p = next_keeps left f ts p

  pub items_keeps : (is_top : Bool) (left : ℕ) → Keeps (items is_top left)
  unfolding finding
  items_keeps is_top left f ts p = list_keeps (is_list_end is_top) (turn left) (turn_found end left) (turn_keeps left) most_tokens [] f ts p
