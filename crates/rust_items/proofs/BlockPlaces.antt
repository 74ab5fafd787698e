-- The places of a block are those of its items and macro calls.
use Rattle.std.proofs.Common.{◌≡◌, ◌<◌, ◌==◌, ◌&&◌, ℕ, zero, suc, Bool, true, false, not, Option, Some, None, List, [], ◌∷◌, ◌++◌, length, refl, sym, subst, ap, ◌∙◌, arith, append_assoc, append-nil, is_some, option_to_list}
use Rattle.rust_items.proofs.Common.{and_parts, ne_eqb, All-nil, EditionYear, FileAstId, MetaView, ItemView, ItemViews, macro_call, no_items, item_and, items_from, items_of, StmtView, item_stmt, call_stmt, other_stmt, TailView, no_tail, call_tail, other_tail, stmt_items, block_view, Tokens, tokens_of, symbol, at, eat, is_at_end, bumped, most_tokens, progress_from, LeadsTo, here, through, when, bumped_leads, eat_leads, beyond_leads, Takes, takes, takes_leads, takes_behind, taken_block, IsLaid, at_behind, takes_strict, tokens_laid, path, outer_attributes, outer_attributes_leads, inner_attributes_leads, front_behind, front, is_called, SourceBlock, PartView, no_part, stmt_part, tail_part, BodyRead, empty_body, and_part, item_found, other_part, other_read, other_found, and_call, is_operand, call_found, called_found, taken_item, part_behind_attributes, part, parts_from, parts, stmts_with_ids, tail_with_id, is_bare, attributes_of, block_body, found_of, IsBlockRead, Found, nothing_found, first_numbers, numbered_call, item_with_ids, with_ids, is_list_end, turn, behind_front, with_feeds, id_of, IsWritten, ArePlaces, nothing, placed}
use Rattle.hir_input.specs.declared.ids.AstIdKind.TheVariants as ast
use Rattle.rust_cursor.proofs.TokenPlaces.{behind}
use Rattle.rust_leaves.specs.Statements.{CallRead, statement, statement_call, is_item}
use Rattle.rust_leaves.proofs.StatementLeads.{statement_leads}
use Rattle.rust_items.proofs.FilePlaces.{IsText, whole_text, placed_text}
use Rattle.rust_items.proofs.ItemRests.{blank, IsBraced, braces_behind, block_braced, nameless, tree_body_leads, called_some}
use Rattle.rust_items.proofs.Names.{untold}
use Rattle.rust_items.proofs.Parts.{parts_stop}
use Rattle.rust_items.proofs.Places.{place_is, place_within, turn_found}
use Rattle.rust_items.proofs.FoundItems.{AreFound, adds_none, adds_problem, adds_item, none_found, found_more, unnumbered, widened}
use Rattle.rust_items.proofs.UsesFound.{leaf_uses, no_uses, widened_uses}
use Rattle.rust_cursor.specs.Grammar.{reads}
use Rattle.rust_cursor.proofs.Rules.{rule_leads}
use Rattle.rust_cursor.specs.Looks.{sees}

-- ---- statements as a list of items

abbrev stmt_list : StmtView → List ItemView
stmt_list (item_stmt i) = i ∷ []
stmt_list (call_stmt c) = macro_call c ∷ []
stmt_list other_stmt = []

abbrev tail_list : TailView → List ItemView
tail_list (call_tail c) = macro_call c ∷ []
tail_list _ = []

abbrev stmts_list : List StmtView → List ItemView
stmts_list [] = []
stmts_list (s ∷ ss) = stmt_list s ++ stmts_list ss

abbrev part_list : PartView → List ItemView
part_list no_part = []
part_list (stmt_part s) = stmt_list s
part_list (tail_part t) = tail_list t

stmts_push : (ss : List StmtView) (s : StmtView) → stmts_list (ss ++ s ∷ []) ≡ stmts_list ss ++ stmt_list s
stmts_push [] s = append-nil (stmt_list s)
stmts_push (r ∷ ss) s = ap (λ l. stmt_list r ++ l) (stmts_push ss s) ∙ sym (append_assoc (stmt_list r) (stmts_list ss) (stmt_list s))

items_listed : (ss : List StmtView) (t : TailView) → stmt_items ss t ≡ items_from (stmts_list ss ++ tail_list t)
items_listed [] (call_tail c) = refl
items_listed [] _ = refl
items_listed (item_stmt i ∷ ss) t = ap (λ is. item_and i is) (items_listed ss t)
items_listed (call_stmt c ∷ ss) t = ap (λ is. item_and (macro_call c) is) (items_listed ss t)
items_listed (other_stmt ∷ ss) t = items_listed ss t

-- statements with their ids hold the items with the same ids
block_with_ids : (ss : List StmtView) (t : TailView) (ids : List FileAstId) → stmt_items (stmts_with_ids ss ids).0 (tail_with_id t (stmts_with_ids ss ids).1) ≡ (with_ids (stmt_items ss t) ids).0
block_with_ids [] (call_tail c) ids = refl
block_with_ids [] _ ids = refl
block_with_ids (item_stmt i ∷ ss) t ids = ap (λ is. item_and (item_with_ids i ids).0 is) (block_with_ids ss t (item_with_ids i ids).1)
block_with_ids (call_stmt c ∷ ss) t ids = ap (λ is. item_and (macro_call (numbered_call (first_numbers ids).0 c)) is) (block_with_ids ss t (first_numbers ids).1)
block_with_ids (other_stmt ∷ ss) t ids = block_with_ids ss t ids

-- ---- a macro call

record IsCall (ts us : Tokens) (c : CallRead) : Type 0 where
  taken : Takes ts us
  id : id_of (macro_call c.call) ≡ Some (blank ast.MacroCall)
  body : IsBraced ts us c.body

abbrev CallFound : Tokens → Tokens → Option CallRead → Type 0
CallFound ts us None = LeadsTo ts us
CallFound ts us (Some c) = IsCall ts us c

call_is_found : (attrs : List MetaView) (ts : Tokens) → CallFound ts (statement_call attrs ts).1 (statement_call attrs ts).0
unfolding statement_call
call_is_found attrs ts =
    when (is_some (reads path ts).0 && sees is_called (reads path ts).1)
    (λ e. rw e (record {
      taken = takes (reads path ts).1 (rule_leads path ts) (called_some (reads path ts).1 (and_parts (is_some (reads path ts).0) (sees is_called (reads path ts).1) e).1) (tree_body_leads _);
      id = refl;
      body = braces_behind (through (rule_leads path ts) (bumped_leads _)) (block_braced (taken_block _ _ (bumped (reads path ts).1)));
    }))
    (λ e. rw e here)

call_behind : (ts us vs : Tokens) (o : Option CallRead) → LeadsTo ts us → CallFound us vs o → CallFound ts vs o
call_behind ts us vs None p c = through p c
call_behind ts us vs (Some r) p c = record { taken = takes_behind p c.taken; id = c.id; body = braces_behind p c.body }

call_placed : (end : ℕ) (ts us vs : Tokens) (f : Found) (c : CallRead) → IsLaid end ts → IsCall ts us c → LeadsTo us vs → AreFound ts vs f (and_call (at ts) us.past c f) (item_and (macro_call c.call) no_items)
call_placed end ts us vs f c laid t p =
    let first = behind end (takes_leads t.taken) laid in
    let last = behind end p first.laid in
    record {
      leads = through (takes_leads t.taken) p;
      places = unnumbered ast.MacroCall (at ts) us.past c.body None ∷ [];
      adds = adds_item f 0 (at ts) us.past c.body ast.MacroCall c.name None true;
      are = widened ts.past vs.past (omega arith) last.past (placed (place_is end ts us (macro_call c.call) ast.MacroCall c.body None laid t.taken t.id nameless t.body (λ _. untold)) nothing nothing);
      starts = [];
      more = sym (append-nil f.use_trees);
      uses = widened_uses ts.past vs.past (omega arith) last.past (leaf_uses [] [] refl refl (place_within end ts us laid t.taken) (All-nil _) tt no_uses);
    }

-- ---- a part

-- a macro call that stands last ends the block
abbrev EndsAt : Bool → Tokens → PartView → Tokens → Type 0
EndsAt is_top ts (tail_part (call_tail c)) us = (is_list_end is_top us ≡ true) × Takes ts us
EndsAt is_top ts _ us = Unit {0}

record IsPart (is_top : Bool) (ts : Tokens) (f : Found) (r : PartView × (Found × Tokens)) : Type 0 where
  found : AreFound ts r.1.1 f r.1.0 (items_from (part_list r.0))
  last : EndsAt is_top ts r.0 r.1.1

by_last : (is_top : Bool) (ts us : Tokens) (f : Found) (is_last : Bool) → LeadsTo ts us → IsPart is_top ts f (other_part is_last, (f, us))
by_last is_top ts us f true p = record { found = none_found f f p (adds_none f) refl; last = tt }
by_last is_top ts us f false p = record { found = none_found f f p (adds_none f) refl; last = tt }

other_is : (is_top : Bool) (ts us : Tokens) (f : Found) → LeadsTo ts us → IsPart is_top ts f (other_found is_top f us)
unfolding other_read
other_is is_top ts us f p = by_last is_top ts (statement us).1 f _ (through p (statement_leads us))

called_is : (end : ℕ) (is_top : Bool) (ts us : Tokens) (f : Found) (c : CallRead) → IsLaid end ts → IsCall ts us c → IsPart is_top ts f (call_found is_top (at ts) c f us)
unfolding call_found
called_is end is_top ts us f c laid t =
    when (symbol us == 59) (λ e. rw e (record { found = call_placed end ts us (bumped us) f c laid t (bumped_leads us); last = tt }))
    (λ e. rw e (when (is_list_end is_top us) (λ g. rw g (record { found = call_placed end ts us us f c laid t here; last = (g, t.taken) }))
    (λ g. rw g (when (c.is_braced && not (is_operand us)) (λ h. rw h (record { found = call_placed end ts us us f c laid t here; last = tt }))
    (λ h. rw h (other_is is_top ts us f (takes_leads t.taken)))))))

option_is : (end : ℕ) (is_top : Bool) (ts us : Tokens) (f : Found) (o : Option CallRead) → IsLaid end ts → CallFound ts us o → IsPart is_top ts f (called_found is_top (at ts) o f us)
option_is end is_top ts us f None laid p = other_is is_top ts us f p
option_is end is_top ts us f (Some c) laid t = called_is end is_top ts us f c laid t

item_is : (is_top : Bool) (ts : Tokens) (f : Found) (o : Option ItemView) (r : Found × Tokens) → AreFound ts r.1 f r.0 (items_from (option_to_list o)) → IsPart is_top ts f (item_found (o, r))
item_is is_top ts f None r a = record { found = a; last = tt }
item_is is_top ts f (Some i) r a = record { found = a; last = tt }

turn_is : (f : Found) (ts : Tokens) → is_at_end ts ≡ false → turn 128 f ts ≡ behind_front 128 (front ts).0 f (front ts).1
unfolding turn behind_front
turn_is f ts e = rw e refl

front_is : (ts : Tokens) → front ts ≡ front_behind (at ts) (outer_attributes ts).0 (outer_attributes ts).1
unfolding front
front_is ts = refl

item_taken : (end : ℕ) (is_top : Bool) (f : Found) (ts : Tokens) → IsLaid end ts → is_at_end ts ≡ false → IsPart is_top ts f (taken_item (at ts) (outer_attributes ts).0 f (outer_attributes ts).1)
item_taken end is_top f ts laid e =
    let h = front_behind (at ts) (outer_attributes ts).0 (outer_attributes ts).1 in
    let r = behind_front 128 h.0 f h.1 in
    let same : turn 128 f ts ≡ r = turn_is f ts e ∙ ap (λ k. behind_front 128 k.0 f k.1) (front_is ts) in
    item_is is_top ts f r.0 r.1 (subst (λ (k : Option ItemView × (Found × Tokens)). AreFound ts k.1.1 f k.1.0 (items_from (option_to_list k.0))) same (turn_found end 128 f ts laid))

behind_is : (end : ℕ) (is_top : Bool) (f : Found) (ts : Tokens) → IsLaid end ts → is_at_end ts ≡ false → IsPart is_top ts f (part_behind_attributes is_top (at ts) (outer_attributes ts).0 f (outer_attributes ts).1)
unfolding part_behind_attributes
behind_is end is_top f ts laid e =
    let us = (outer_attributes ts).1 in
    let p = outer_attributes_leads ts in
    when (is_at_end us) (λ g. rw g (record { found = none_found f f p (adds_none f) refl; last = tt }))
    (λ g. rw g (when (is_item us) (λ h. rw h (item_taken end is_top f ts laid e))
    (λ h. rw h (option_is end is_top ts (statement_call (outer_attributes ts).0 us).1 f (statement_call (outer_attributes ts).0 us).0 laid
    (call_behind ts us _ _ p (call_is_found (outer_attributes ts).0 us))))))

part_is : (end : ℕ) (is_top : Bool) (f : Found) (ts : Tokens) → IsLaid end ts → IsPart is_top ts f (part is_top f ts)
unfolding part
part_is end is_top f ts laid =
    when (is_at_end ts) (λ e. rw e (record { found = none_found f _ (bumped_leads ts) (adds_problem _ _ (adds_none f)) refl; last = tt }))
    (λ e. rw e (when (symbol ts == 59) (λ g. rw g (record { found = none_found f f (bumped_leads ts) (adds_none f) refl; last = tt }))
    (λ g. rw g (behind_is end is_top f ts laid e))))

-- ---- all parts

record AreParts (ts : Tokens) (f : Found) (done : BodyRead) (r : BodyRead × (Found × Tokens)) : Type 0 where
  new : List ItemView
  list : stmts_list r.0.stmts ++ tail_list r.0.tail ≡ stmts_list done.stmts ++ new
  found : AreFound ts r.1.1 f r.1.0 (items_from new)

parts_end : (done : BodyRead) (f : Found) (ts : Tokens) → tail_list done.tail ≡ [] → AreParts ts f done (done, (f, ts))
parts_end done f ts e = record { new = []; list = ap (λ l. stmts_list done.stmts ++ l) e; found = none_found f f here (adds_none f) refl }

stays : (past : ℕ) (us : Tokens) → past < us.past → progress_from past us ≡ us
unfolding progress_from
stays past us l = let other : (us.past == past) ≡ false = ne_eqb us.past past (λ e. absurd (omega arith)) in rw other refl

module _ (end : ℕ) (is_top : Bool) (n : ℕ) (rest : (done : BodyRead) (f : Found) (ts : Tokens) → IsLaid end ts → tail_list done.tail ≡ [] → AreParts ts f done (parts_from is_top n done f ts))
    (done : BodyRead) (f : Found) (ts : Tokens) (laid : IsLaid end ts) (none : tail_list done.tail ≡ []) where
  part_more : (next : BodyRead) (q : PartView) (r : Found × Tokens) → IsPart is_top ts f (q, r) → tail_list next.tail ≡ [] → stmts_list next.stmts ≡ stmts_list done.stmts ++ part_list q
      → AreParts ts f done (parts_from is_top n next r.0 (progress_from ts.past r.1))
  part_more next q r p e step =
      let first = behind end p.found.leads laid in
      let passed = beyond_leads ts.past r.1 in
      let last = behind end passed first.laid in
      let more = rest next r.0 (progress_from ts.past r.1) last.laid e in
      record {
        new = part_list q ++ more.new;
        list = more.list ∙ ap (λ l. l ++ more.new) step ∙ append_assoc (stmts_list done.stmts) (part_list q) more.new;
        found = found_more end ts r.1 (progress_from ts.past r.1) _ f r.0 _ (part_list q) more.new laid passed p.found more.found;
      }

  part_next : (q : PartView) (r : Found × Tokens) → IsPart is_top ts f (q, r) → AreParts ts f done (parts_from is_top n (and_part done q) r.0 (progress_from ts.past r.1))
  part_next no_part r p = part_more done no_part r p none (sym (append-nil (stmts_list done.stmts)))
  part_next (stmt_part s) r p = part_more (record { stmts = done.stmts ++ s ∷ []; tail = done.tail }) (stmt_part s) r p none (stmts_push done.stmts s)
  part_next (tail_part no_tail) r p = part_more (record { stmts = done.stmts; tail = no_tail }) (tail_part no_tail) r p refl (sym (append-nil (stmts_list done.stmts)))
  part_next (tail_part other_tail) r p = part_more (record { stmts = done.stmts; tail = other_tail }) (tail_part other_tail) r p refl (sym (append-nil (stmts_list done.stmts)))
  part_next (tail_part (call_tail c)) r p =
      let next : BodyRead = record { stmts = done.stmts; tail = call_tail c } in
      let begins = at_behind end ts laid in
      let strict = takes_strict end p.last.1 laid in
      let same : parts_from is_top n next r.0 (progress_from ts.past r.1) ≡ (next, (r.0, r.1)) =
      ap (λ k. parts_from is_top n next r.0 k) (stays ts.past r.1 (omega arith)) ∙ parts_stop is_top n next r.0 r.1 p.last.0 in
      subst (AreParts ts f done) (sym same) (record { new = macro_call c ∷ []; list = refl; found = p.found })

parts_are : (end : ℕ) (is_top : Bool) (n : ℕ) (done : BodyRead) (f : Found) (ts : Tokens) → IsLaid end ts → tail_list done.tail ≡ [] → AreParts ts f done (parts_from is_top n done f ts)
parts_are end is_top zero done f ts laid none = parts_end done f ts none
parts_are end is_top (suc n) done f ts laid none =
    when (is_list_end is_top ts) (λ e. rw e (parts_end done f ts none))
    (λ e. rw e (part_next end is_top n (parts_are end is_top n) done f ts laid none (part is_top f ts).0 (part is_top f ts).1 (part_is end is_top f ts laid)))

parts_found : (end : ℕ) (is_top : Bool) (f : Found) (ts : Tokens) → IsLaid end ts
    → AreFound ts (parts is_top f ts).1.1 f (parts is_top f ts).1.0 (stmt_items (parts is_top f ts).0.stmts (parts is_top f ts).0.tail)
parts_found end is_top f ts laid =
    let all = parts_are end is_top most_tokens empty_body f ts laid refl in
    subst (AreFound ts (parts is_top f ts).1.1 f (parts is_top f ts).1.0) (sym (items_listed (parts is_top f ts).0.stmts (parts is_top f ts).0.tail ∙ ap items_from all.list)) all.found

-- ---- a text

block_found : (edition : EditionYear) (text : List ℕ) → IsText edition text (found_of edition text) (stmt_items (block_body edition text).0.stmts (block_body edition text).0.tail)
unfolding found_of
block_found edition text =
    let p = through (eat_leads 123 (tokens_of edition text)) (inner_attributes_leads (eat 123 (tokens_of edition text)).1) in
    let first = behind (length text) p (tokens_laid edition text) in
    whole_text edition text (attributes_of edition text).1 _ _ _ _ _ p (parts_found (length text) (is_bare edition text) nothing_found (attributes_of edition text).1 first.laid)

-- the places of a block are those of its items and its macro calls
pub block_placed : (edition : EditionYear) (text : List ℕ) (read : SourceBlock) → IsBlockRead edition text read → ArePlaces (IsWritten text) 0 (length text) (items_of (block_view read.block)) read.places.items []
block_placed edition text read is =
    let body = (block_body edition (with_feeds text)).0 in
    let same : items_of (block_view read.block) ≡ (with_ids (stmt_items body.stmts body.tail) is.ids).0 = ap items_of is.value ∙ block_with_ids body.stmts body.tail is.ids in
    subst (λ (is : ItemViews). ArePlaces (IsWritten text) 0 (length text) is read.places.items []) (sym same)
    (rw is.places (placed_text edition text _ _ (block_found edition (with_feeds text)) is.ids is.are_ids))
