-- An item that ends with the last token of a text is the same in a longer text.
use Rattle.std.proofs.Common.{length-append, length, ◌≤◌, ◌≡◌, ◌<◌, ◌+◌, ◌==◌, ◌||◌, ◌&&◌, ℕ, zero, suc, Bool, true, false, Option, Some, None, List, [], ◌++◌, refl, sym, ap, ◌∙◌, subst, arith}
use Rattle.rust_edits.proofs.Common.{common_steps, front_start, Finds, is_none, and_row, and_flaw, span_of, AstIdKind, MetaView, ItemView, extern_block_from, module_from, behind_tree, Tokens, symbol, at, eat, bumped, is_at_end, Head, FrontRead, front, named_node, node, leaf, NameRead, written_name, no_name, Found, Finder, nothing_found, and_problem, and_item, leaf_turn, BlockRead, deep_block, unmatched_token, extern_inside, and_parent, extern_block, depth_of, inside_unless, module_with, some_item, by_head, turn_with, inside, turn, nat_tests, IsLaid, behind, LeadsTo, through, when, eat_leads, Ending, Near, fewer, nothing, bumped_onward, at_same, past_same, near_twins, behind_tree_near, Step, at_last, next, step, untaken, eat_fewer, by_next, by_kept, symbol_same, end_same, named_leads, FindsIn, turn_with_found, inside_found, extern_inside_found, unless_found}
use Rattle.hir_input.specs.declared.ids.AstIdKind.TheVariants as ast
use Rattle.rust_leaves.specs.declared.head.Head.TheVariants as heads
use Rattle.rust_items.specs.declared.log.ProblemKind.TheVariants as problem
use Rattle.rust_items.specs.Items.{needs_name, no_block, one_more}
use Rattle.rust_edits.proofs.ItemJoins.EndingFronts.{FrontNear, front_until}
use Rattle.rust_edits.proofs.ItemJoins.EndingParts.{NameNear, named_until, Given, given_on}
use Rattle.rust_edits.proofs.ItemJoins.EndingLeaves.{Ends, passes, before_end, at_end, weaker}
use Rattle.rust_edits.proofs.ItemJoins.EndingItems.{FoundNear, problem_near, item_near, all_near, flat, FoundAlike, told, TellsMore, told_problem, found_told, ends_long, TurnLong, TurnEnds, BlockEnds, IsOpen, is_open, is_told, block_ends, block_fewer, IsClosed, is_finished, leaf_strict, extern_inside_fewer, leaf_leads, leaf_fewer, found_leads, leaf_turn_ends, extern_unended, extern_inside_ends, front_leads}

-- ---- items that hold others

-- of an item that is not ended a problem is told, and of one in which one is told
told_flaw : (ended nameless : Bool) (start : ℕ) (f : Found) → told f ≤ told (and_flaw ended nameless start f)
told_flaw true true start f = let more = told_problem problem.Nameless start f in omega arith
told_flaw true false start f = omega arith
told_flaw false nameless start f = let more = told_problem problem.Unfinished start f in omega arith

told_open : (depth start end : ℕ) (k : AstIdKind) (n : NameRead) (inner f : Found) → told f < told (and_parent depth start end k n false inner f)
told_open depth start end k n inner f =
    let first = told_problem problem.Unfinished start (and_row (record { depth = depth; kind = k; name = n.hashed }) (span_of start end None n.range) f) in
    let sum = length-append (and_item depth start end None k n.hashed n.range false f).problems inner.problems in omega arith

pub parent_told : (depth start end : ℕ) (k : AstIdKind) (n : NameRead) (r : BlockRead) (inner f : Found) → IsOpen nothing_found (r, inner) → told f < told (and_parent depth start end k n r.is_ended inner f)
parent_told depth start end k n r inner f (is_open e) = rw e (told_open depth start end k n inner f)
parent_told depth start end k n r inner f (is_told l) =
    let own = told_flaw r.is_ended (is_none n.range && needs_name k) start (and_row (record { depth = depth; kind = k; name = n.hashed }) (span_of start end None n.range) f) in
    let sum = length-append (and_item depth start end None k n.hashed n.range r.is_ended f).problems inner.problems in omega arith

-- what is finished is ended
finished_parent : (depth start end : ℕ) (k : AstIdKind) (n : NameRead) (ended : Bool) (inner f : Found) (i : ItemView) → is_finished start (Some i, and_parent depth start end k n ended inner f) ≡ true → ended ≡ true
finished_parent depth start end k n ended inner f i e = grind (arith, common_steps)

-- an item is whole where it is finished, if braces that stand too deep are not asked about
abbrev ItemWhole : Type 0 → ℕ → ItemView × Found → Type 0
ItemWhole Strict start r = Strict × (is_finished start (Some r.0, r.1) ≡ true)

abbrev TurnWhole : Type 0 → ℕ → Option ItemView × Found → Type 0
TurnWhole Strict start r = Strict × (is_finished start r ≡ true)

-- an item that holds what stands in its block
abbrev parent_of : (BlockRead → ItemView) → ℕ → ℕ → AstIdKind → NameRead → Bool → Found → (BlockRead × Found) × Tokens → (ItemView × Found) × Tokens
parent_of make depth start k n flag f p = ((make p.0.0, and_parent depth start p.1.past k n (flag || p.0.0.is_ended) p.0.1 f), p.1)

module _ (b : Ending) (before f g : Found) (a : FoundNear b before f g) (make make' : BlockRead → ItemView) (made : (r : BlockRead) → make' r ≡ make r) (depth start start' : ℕ) (s : start ≡ start' + b.by)
    (k : AstIdKind) (n n' : NameRead) (nn : NameNear b n n') where
  parent_near : (flag : Bool) (r r' : BlockRead × Found) (end end' : ℕ) → end ≡ end' + b.by → FoundAlike b nothing_found r r'
      → FoundAlike b before (make r.0, and_parent depth start end k n (flag || r.0.is_ended) r.1 f) (make' r'.0, and_parent depth start' end' k n' (flag || r'.0.is_ended) r'.1 g)
  parent_near flag r r' end end' e i = record {
    value = made r'.0 ∙ ap make i.value;
    found = all_near b before _ _ r.1 r'.1
        (subst (λ (z : List ℕ). FoundNear b before (and_item depth start end None k n.hashed n.range (flag || r.0.is_ended) f) (and_item depth start' end' None k z n'.range (flag || r'.0.is_ended) g)) (sym nn.hashed)
        (item_near b before f g depth start start' end end' None None k n.hashed n.range n'.range _ _ s e refl nn.range (ap (λ (z : BlockRead). flag || z.is_ended) i.value) a))
        i.found;
  }

  parent_ends : (Strict : Type 0) {p q : (BlockRead × Found) × Tokens} → Ends (FoundAlike b nothing_found) (IsOpen nothing_found) (λ r. Strict × IsClosed r) b p q
      → Ends (FoundAlike b before) (TellsMore g) (ItemWhole Strict start) b (parent_of make depth start k n false f p) (parent_of make' depth start' k n' false g q)
  parent_ends Strict {p = p} {q = q} (passes few uneven none never strict) =
      passes {p = parent_of make depth start k n false f p} few uneven none (λ s. parent_told depth start' q.1.past k n' q.0.0 q.0.1 g (never s))
      (λ e. strict (e.0, finished_parent depth start p.1.past k n p.0.0.is_ended p.0.1 f (make p.0.0) e.1))
  parent_ends Strict {p = p} {q = q} (before_end w) = before_end (record { value = parent_near false p.0 q.0 p.1.past q.1.past (past_same b p.1 q.1 w.rest) w.value; rest = w.rest })
  parent_ends Strict {p = p} {q = q} (at_end t e) = at_end (parent_near false p.0 q.0 p.1.past q.1.past e.past t) e

-- ---- extern blocks

abbrev make_extern : List MetaView → BlockRead → ItemView
make_extern attrs r = extern_block_from (node (attrs ++ r.attrs) []) r.items

extern_block_ends : (n m : ℕ) (b : Ending) (before f g : Found) (depth start start' : ℕ) (attrs attrs' : List MetaView) (ts us : Tokens) → start ≡ start' + b.by → attrs' ≡ attrs → Given n m ts us → Near b ts us → FoundNear b before f g
    → (Strict : Type 0) → Ends (FoundAlike b before) (TellsMore g) (ItemWhole Strict start) b (flat (extern_block depth start attrs f ts)) (flat (extern_block depth start' attrs' g us))
unfolding extern_block
extern_block_ends n m b before f g depth start start' attrs attrs' ts us s e given h a Strict =
    parent_ends b before f g a (make_extern attrs) (make_extern attrs') (λ r. ap (λ z. make_extern z r) e) depth start start' s ast.ExternBlock no_name no_name (record { name = refl; hashed = refl; range = refl }) Strict
    (weaker (λ c. c.1) (extern_inside_ends b (one_more depth) n m nothing_found nothing_found nothing_found ts us given h (record { rows = refl; spans = refl; use_trees = refl; problems = refl })))

-- ---- modules

-- what is ended takes a token
abbrev InsideTakes : Type 0 → Finder BlockRead → Type 0
InsideTakes Strict inside = (n : ℕ) (f : Found) (ts : Tokens) → IsLaid n ts → Strict → (inside f ts).0.is_ended ≡ true → length (inside f ts).1.1.left < length ts.left

-- where nothing is left, nothing is ended
abbrev pub InsideUnended : Finder BlockRead → Type 0
InsideUnended inside = (f : Found) (ts : Tokens) → ts.left ≡ [] → (inside f ts).0.is_ended ≡ false

unless_unended : (inside : Finder BlockRead) → InsideUnended inside → (t : Bool) (f : Found) (ts : Tokens) → t ≡ false → ts.left ≡ [] → (t || (inside_unless t inside f ts).0.is_ended) ≡ false
unless_unended inside e t f ts g h = grind (arith, nat_tests)

module_unended : (inside : Finder BlockRead) → InsideUnended inside → (ts : Tokens) → ts.left ≡ [] → ((eat 59 ts).0 || (inside_unless (eat 59 ts).0 inside nothing_found (eat 59 ts).1).0.is_ended) ≡ false
module_unended inside unended ts e = unless_unended inside unended (eat 59 ts).0 nothing_found (eat 59 ts).1 (untaken ts e (eat_fewer 59 ts (omega arith))) (nothing (eat_leads 59 ts) e)

-- the item that is not ended, where nothing is left behind its first words
module_told : (inside : Finder BlockRead) → InsideUnended inside → (depth : ℕ) (h : FrontRead) (f : Found) (ts : Tokens) → (written_name ts).1.left ≡ [] → told f < told (module_with inside depth h f ts).1.0
module_told inside unended depth h f ts none =
    let nm = written_name ts in
    let semi = eat 59 nm.1 in
    let inner = inside_unless semi.0 inside nothing_found semi.1 in
    let open_here : (semi.0 || inner.0.is_ended) ≡ false = module_unended inside unended nm.1 none in
    rw open_here (told_open depth h.start inner.1.1.past ast.Module nm.0 inner.1.0 f)

head_told : (inside : Finder BlockRead) → InsideUnended inside → (depth : ℕ) (w : Head) (h : FrontRead) (f : Found) (ts : Tokens) → ts.left ≡ [] → told f < told (by_head inside depth w h f ts).1.0
unfolding extern_block leaf_turn
head_told inside unended depth heads.Module h f ts e = module_told inside unended depth h f ts (nothing (named_leads ts) e)
head_told inside unended depth heads.ExternBlock h f ts e =
    let inner = extern_inside (one_more depth) nothing_found ts in
    parent_told depth h.start inner.1.1.past ast.ExternBlock no_name inner.0 inner.1.0 f (is_open (extern_unended (one_more depth) nothing_found ts e))
head_told inside unended depth _ h f ts e = found_told depth h.start (leaf h ts).0 f (leaf h ts).1 (untaken ts e (leaf_fewer h ts))

abbrev make_module : FrontRead → Option (List ℕ) → Bool → BlockRead → ItemView
make_module h name semicolon r = module_from (named_node (h.attrs ++ r.attrs) name h.visibility []) semicolon r.items

made_module : (b : Ending) (h h' : FrontRead) (n n' : NameRead) (semicolon : Bool) → FrontNear b h h' → NameNear b n n' → (r : BlockRead) → make_module h' n'.name semicolon r ≡ make_module h n.name semicolon r
made_module b h h' n n' semicolon k nn r = rw (k.attrs, k.visibility, nn.name) refl

module _ (b : Ending) (Strict : Type 0) (inside : Finder BlockRead) (ends : BlockEnds (λ r. Strict × IsClosed r) b inside) (takes_one : InsideTakes Strict inside) (finds : (end : ℕ) → FindsIn end inside) (unended : InsideUnended inside) (depth : ℕ) where
  module_takes : (n : ℕ) (ts : Tokens) → IsLaid n ts → Strict → ((eat 59 ts).0 || (inside_unless (eat 59 ts).0 inside nothing_found (eat 59 ts).1).0.is_ended) ≡ true
      → length (inside_unless (eat 59 ts).0 inside nothing_found (eat 59 ts).1).1.1.left < length ts.left
  module_takes n ts laid s e =
      when (eat 59 ts).0
      (λ f. rw f (eat_fewer 59 ts (omega arith) f))
      (λ f. let less = fewer (eat_leads 59 ts) in
      let strictly = takes_one n nothing_found (eat 59 ts).1 (behind n (eat_leads 59 ts) laid).laid s (rw f at e) in rw f (omega arith))

  -- a module with a semicolon
  abbrev with_semicolon : FrontRead → Found → NameRead → Tokens → (ItemView × Found) × Tokens
  with_semicolon h f n us = ((make_module h n.name true no_block, and_parent depth h.start us.past ast.Module n true nothing_found f), us)

  alone : (before f g : Found) (h h' : FrontRead) → FrontNear b h h' → (n n' : NameRead) (end end' : ℕ) → end ≡ end' + b.by → NameNear b n n' → FoundNear b before f g
      → FoundAlike b before (make_module h n.name true no_block, and_parent depth h.start end ast.Module n true nothing_found f) (make_module h' n'.name true no_block, and_parent depth h'.start end' ast.Module n' true nothing_found g)
  alone before f g h h' k n n' end end' e nn a =
      parent_near b before f g a (make_module h n.name true) (make_module h' n'.name true) (made_module b h h' n n' true k nn) depth h.start h'.start k.start ast.Module n n' nn true (no_block, nothing_found) (no_block, nothing_found) end end' e
      (record { value = refl; found = record { rows = refl; spans = refl; use_trees = refl; problems = refl } })

  semicolon : (before f g : Found) (h h' : FrontRead) → FrontNear b h h' → (ts us : Tokens) → NameNear b (written_name ts).0 (written_name us).0 → FoundNear b before f g → Step b (written_name ts).1 (written_name us).1
      → Ends (FoundAlike b before) (TellsMore g) (ItemWhole Strict h.start) b (with_semicolon h f (written_name ts).0 (bumped (written_name ts).1)) (with_semicolon h' g (written_name us).0 (bumped (written_name us).1))
  semicolon before f g h h' k ts us nn a (at_last e) = at_end (alone before f g h h' k (written_name ts).0 (written_name us).0 _ _ e.past nn a) e
  semicolon before f g h h' k ts us nn a (next w) = before_end (record { value = alone before f g h h' k (written_name ts).0 (written_name us).0 _ _ (past_same b _ _ w) nn a; rest = w })

  module_ends : (n m : ℕ) (before f g : Found) (h h' : FrontRead) → FrontNear b h h' → (ts us : Tokens) → Given n m ts us → Near b ts us → FoundNear b before f g
      → Ends (FoundAlike b before) (TellsMore g) (ItemWhole Strict h.start) b (flat (module_with inside depth h f ts)) (flat (module_with inside depth h' g us))
  unfolding eat
  module_ends n m before f g h h' k ts us given w a =
      let nm = written_name ts in
      let nm' = written_name us in
      let semi = eat 59 nm.1 in
      let given' = given_on given (named_leads ts) (named_leads us) in
      let laid = (behind n (eat_leads 59 nm.1) given'.laid).laid in
      let inner = inside_unless semi.0 inside nothing_found semi.1 in
      let to : LeadsTo semi.1 inner.1.1 = (unless_found n inside (finds n) depth semi.0 nothing_found semi.1 laid).leads in
      let semi' = eat 59 nm'.1 in
      let to' : LeadsTo semi'.1 (inside_unless semi'.0 inside nothing_found semi'.1).1.1 = (unless_found m inside (finds m) depth semi'.0 nothing_found semi'.1 (behind m (eat_leads 59 nm'.1) given'.short.laid).laid).leads in
      by_kept (named_until b ts us w)
      (λ o. passes {p = flat (module_with inside depth h f ts)}
      (let few = o.few in let less = fewer to in let first = fewer (eat_leads 59 nm.1) in omega arith) o.uneven (nothing (through (eat_leads 59 nm'.1) to') o.none)
      (λ s. module_told inside unended depth h' g us o.none)
      (λ e. let few = o.few in
      let ended : (semi.0 || inner.0.is_ended) ≡ true = finished_parent depth h.start inner.1.1.past ast.Module nm.0 (semi.0 || inner.0.is_ended) inner.1.0 f (module_with inside depth h f ts).0 e.1 in
      let strictly = module_takes n nm.1 given'.laid e.0 ended in omega arith))
      (λ l. when (symbol nm.1 == 59)
      (λ e. rw (symbol_same (near_twins b) nm.1 nm'.1 l.rest, e) (semicolon before f g h h' k ts us l.value a (step b nm.1 nm'.1 l.rest)))
      (λ e. rw (symbol_same (near_twins b) nm.1 nm'.1 l.rest, e)
      (parent_ends b before f g a (make_module h nm.0.name false) (make_module h' nm'.0.name false) (made_module b h h' nm.0 nm'.0 false k l.value) depth h.start h'.start k.start ast.Module nm.0 nm'.0 l.value Strict
      (ends n m nothing_found nothing_found nothing_found nm.1 nm'.1 given' l.rest (record { rows = refl; spans = refl; use_trees = refl; problems = refl })))))

  -- ---- one item

  item_ends : {p q : ItemView × (Found × Tokens)} (before g : Found) (start : ℕ) → Ends (FoundAlike b before) (TellsMore g) (ItemWhole Strict start) b (flat p) (flat q)
      → Ends (FoundAlike b before) (TellsMore g) (TurnWhole Strict start) b (flat (some_item p)) (flat (some_item q))
  item_ends {p = p} {q = q} before g start (passes few uneven none never strict) = passes {p = flat (some_item p)} few uneven none never strict
  item_ends before g start (before_end k) = before_end (record { value = record { value = ap Some k.value.value; found = k.value.found }; rest = k.rest })
  item_ends before g start (at_end t a) = at_end (record { value = ap Some t.value; found = t.found }) a

  abbrev HeadEnds : Found → Found → ℕ → Option ItemView × (Found × Tokens) → Option ItemView × (Found × Tokens) → Type 0
  HeadEnds before g start r r' = Ends (FoundAlike b before) (TellsMore g) (TurnWhole Strict start) b (flat r) (flat r')

  head_ends : (w : Head) (n m : ℕ) (before f g : Found) (h h' : FrontRead) → FrontNear b h h' → (ts us : Tokens) → Given n m ts us → Near b ts us → FoundNear b before f g
      → HeadEnds before g h.start (by_head inside depth w h f ts) (by_head inside depth w h' g us)
  head_ends heads.Module n m before f g h h' k ts us given i a = item_ends before g h.start (module_ends n m before f g h h' k ts us given i a)
  head_ends heads.ExternBlock n m before f g h h' k ts us given i a =
      item_ends before g h.start (extern_block_ends n m b before f g depth h.start h'.start h.attrs h'.attrs ts us k.start k.attrs given i a Strict)
  head_ends _ n m before f g h h' k ts us given i a = weaker (λ e. e.1) (leaf_turn_ends n m b before f g depth h h' k ts us given i a)

  head_leads : (w : Head) (n : ℕ) (h : FrontRead) (f : Found) (ts : Tokens) → IsLaid n ts → LeadsTo ts (by_head inside depth w h f ts).1.1
  unfolding extern_block leaf_turn
  head_leads heads.Module n h f ts laid =
      let to = through (named_leads ts) (eat_leads 59 (written_name ts).1) in
      through to (unless_found n inside (finds n) depth (eat 59 (written_name ts).1).0 nothing_found (eat 59 (written_name ts).1).1 (behind n to laid).laid).leads
  head_leads heads.ExternBlock n h f ts laid = (extern_inside_found n (one_more depth) nothing_found ts laid).leads
  head_leads _ n h f ts laid = through (leaf_leads h ts) (found_leads depth h.start (leaf h ts).0 f (leaf h ts).1)

  -- what is finished takes a token behind what stands in front of it
  head_takes : (w : Head) (n : ℕ) (h : FrontRead) (f : Found) (ts : Tokens) → IsLaid n ts → TurnWhole Strict h.start ((by_head inside depth w h f ts).0, (by_head inside depth w h f ts).1.0)
      → length (by_head inside depth w h f ts).1.1.left < length ts.left
  unfolding extern_block leaf_turn
  head_takes heads.Module n h f ts laid e =
      let nm = written_name ts in
      let semi = eat 59 nm.1 in
      let inner = inside_unless semi.0 inside nothing_found semi.1 in
      let first = fewer (named_leads ts) in
      let strictly = module_takes n nm.1 (behind n (named_leads ts) laid).laid e.0 (finished_parent depth h.start inner.1.1.past ast.Module nm.0 (semi.0 || inner.0.is_ended) inner.1.0 f (module_with inside depth h f ts).0 e.1) in omega arith
  head_takes heads.ExternBlock n h f ts laid e =
      let inner = extern_inside (one_more depth) nothing_found ts in
      extern_inside_fewer b (one_more depth) n nothing_found ts laid (finished_parent depth h.start inner.1.1.past ast.ExternBlock no_name inner.0.is_ended inner.1.0 f (extern_block_from (node (h.attrs ++ inner.0.attrs) []) inner.0.items) e.1)
  head_takes _ n h f ts laid e = leaf_strict (length ts.left) depth h.start (leaf h ts).0 f (leaf h ts).1 (leaf_fewer h ts) e.1

  turn_with_ends : (n m : ℕ) (before f g : Found) (ts us : Tokens) → Given n m ts us → Near b ts us → FoundNear b before f g → HeadEnds before g (at ts) (turn_with inside depth f ts) (turn_with inside depth g us)
  turn_with_ends n m before f g ts us given h a =
      let fr = front ts in
      let fr' = front us in
      let r = by_head inside depth fr.0.head fr.0 f fr.1 in
      let laid = (behind n (front_leads ts) given.laid).laid in
      let laid' = (behind m (front_leads us) given.short.laid).laid in
      when (is_at_end ts)
      (λ e. rw (end_same (near_twins b) ts us h, e)
      (by_next (bumped_onward b ts us h) (λ o. passes {p = flat (unmatched_token f ts)} o.few o.uneven o.none (λ s. told_problem problem.Unmatched (at us) g) (λ e. absurd (let no = e.1 in cc)))
      (λ w. before_end (record { value = record { value = refl; found = problem_near b before f g problem.Unmatched (at ts) (at us) (at_same b ts us h) a }; rest = w }))))
      (λ e. rw (end_same (near_twins b) ts us h, e)
      (subst (λ (z : ℕ). HeadEnds before g z r (by_head inside depth fr'.0.head fr'.0 g fr'.1)) (front_start ts)
      (by_kept (front_until b ts us h)
      (λ o. passes {p = flat r} (let few = o.few in let less = fewer (head_leads fr.0.head n fr.0 f fr.1 laid) in omega arith) o.uneven
      (nothing (head_leads fr'.0.head m fr'.0 g fr'.1 laid') o.none) (λ s. head_told inside unended depth fr'.0.head fr'.0 g fr'.1 o.none)
      (λ c. let few = o.few in let strictly = head_takes fr.0.head n fr.0 f fr.1 laid c in omega arith))
      (λ k. rw k.value.head (head_ends fr.0.head n m before f g fr.0 fr'.0 k.value fr.1 fr'.1 (given_on given (front_leads ts) (front_leads us)) k.rest a)))))

-- ---- items in items

pub turn_long : (b : Ending) (inside : Finder BlockRead) → BlockEnds (λ r. ⊥ × IsClosed r) b inside → ((end : ℕ) → FindsIn end inside) → InsideUnended inside → (depth : ℕ) → TurnLong b (turn_with inside depth)
turn_long b inside ends finds unended depth n m before f g ts us given h a = ends_long (turn_with_ends b ⊥ inside ends (λ n f ts laid s e. absurd s) finds unended depth n m before f g ts us given h a)

pub inside_unended : (left : ℕ) → InsideUnended (inside left)
unfolding inside symbol
inside_unended zero f ts e = rw e refl
inside_unended (suc left) f ts e = rw e refl

-- the block of a module that does not stand too deep
module _ (b : Ending) (left : ℕ) (t : TurnLong b (turn_with (inside left) (depth_of left))) where
  abbrev finds : (end : ℕ) → Finds end (turn_with (inside left) (depth_of left))
  finds end = turn_with_found end (inside left) (inside_found end left) (depth_of left)

  level_ends : BlockEnds IsClosed b (inside (suc left))
  unfolding inside
  level_ends n m before f g ts us given h a =
      when (symbol ts == 123)
      (λ e. rw (symbol_same (near_twins b) ts us h, e) (block_ends b (turn_with (inside left) (depth_of left)) t finds n m before f g ts us given h a))
      (λ e. rw (symbol_same (near_twins b) ts us h, e) (before_end (record { value = record { value = refl; found = a }; rest = h })))

  level_takes : InsideTakes (Unit {0}) (inside (suc left))
  unfolding inside
  level_takes n f ts laid s e =
      when (symbol ts == 123)
      (λ g. rw g (block_fewer b (turn_with (inside left) (depth_of left)) t finds n f ts laid (rw g at e)))
      (λ g. absurd (let no = rw g at e in cc))

inside_ends : (b : Ending) (left : ℕ) → BlockEnds (λ r. ⊥ × IsClosed r) b (inside left)
unfolding inside
inside_ends b zero n m before f g ts us given h a =
    when (symbol ts == 123)
    (λ e. rw (symbol_same (near_twins b) ts us h, e)
    (by_next (behind_tree_near b ts us h) (λ o. passes {p = ((deep_block, and_problem problem.TooDeep (at ts) f), behind_tree ts)} o.few o.uneven o.none (λ s. is_told (told_problem problem.TooDeep (at us) g)) (λ c. absurd c.0))
    (λ w. before_end (record { value = record { value = refl; found = problem_near b before f g problem.TooDeep (at ts) (at us) (at_same b ts us h) a }; rest = w }))))
    (λ e. rw (symbol_same (near_twins b) ts us h, e) (before_end (record { value = record { value = refl; found = a }; rest = h })))
inside_ends b (suc left) n m before f g ts us given h a =
    weaker (λ c. c.1) (level_ends b left (turn_long b (inside left) (inside_ends b left) (λ end. inside_found end left) (inside_unended left) (depth_of left)) n m before f g ts us given h a)

pub inner_turn : (b : Ending) (left : ℕ) → TurnLong b (turn_with (inside left) (depth_of left))
inner_turn b left = turn_long b (inside left) (inside_ends b left) (λ end. inside_found end left) (inside_unended left) (depth_of left)

-- An item of a long text, from its first token on: where it is ended at the end of a short one, that has the same item, and nothing behind it.
pub turn_ends : (n m left : ℕ) (b : Ending) (before f g : Found) (ts us : Tokens) → Given n m ts us → Near b ts us → FoundNear b before f g → TurnEnds b before g (at ts) (turn (suc left) f ts) (turn (suc left) g us)
unfolding turn
turn_ends n m left b before f g ts us given h a =
    let t = inner_turn b left in
    weaker (λ e. (tt, e))
    (turn_with_ends b (Unit {0}) (inside (suc left)) (λ n m before f g ts us given h a. weaker (λ c. c.1) (level_ends b left t n m before f g ts us given h a)) (level_takes b left t) (λ end. inside_found end (suc left)) (inside_unended (suc left))
    (depth_of (suc left)) n m before f g ts us given h a)
