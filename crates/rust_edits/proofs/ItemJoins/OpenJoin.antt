-- What is read of an item without its end, and of the text that begins with an item behind it.
use Rattle.std.proofs.Common.{◌≡◌, ◌<◌, ◌+◌, ◌==◌, ◌||◌, ℕ, zero, suc, true, false, Option, Some, None, List, [], ◌∷◌, ◌++◌, length, map, refl, sym, ap, ◌∙◌, subst, arith, length-append, append_assoc}
use Rattle.rust_edits.proofs.Common.{symbol_same, is_nil, eat, module_with, some_item, written_name, named_or_leads, renamed_leads, use_tree_leads, Span, Problem, TextRange, moved_range, moved_span, moved_problem, map-append, Ending, EditionYear, MetaView, ItemView, Piece, Found, Head, FrontRead, LeafRead, Tokens, tokens_of, tokens, filter, is_significant, last_unended, option_map, is_some, by_first, rest, end_of, symbol, is_empty, bumped, progress_from, excerpt_behind, most_tokens, moved_piece, front, leaf, leaf_turn, leaf_found, by_head, inside, depth_of, turn, nothing_found, and_all, and_problem_at, found_on, items, read_of, found_in, behind_attributes, is_list_end, LeadsTo, here, further, through, when, eat_word_leads, inner_attributes_leads, named_leads, fewer, IsLaid, behind, at_behind, tokens_laid, tokens_sound, tokens_short, ne_eqb, filter-append, filter_moved, near_twins, Near, BlockRead, Finder, items_found, mut_word_leads}
use Rattle.rust_items.specs.declared.log.ProblemKind.TheVariants as problem
use Rattle.rust_leaves.specs.declared.head.Head.TheVariants as heads
use Rattle.rust_cursor.specs.declared.cursor.nest.Nest.{Nest}
use Rattle.rust_cursor.specs.Extents.{begins}
use Rattle.rust_cursor.specs.Nests.{flat_behind}
use Rattle.rust_items.specs.Items.{no_block}
use Rattle.rust_cursor.specs.declared.cursor.nest.Before.TheVariants as befores
use Rattle.rust_cursor.proofs.Tests.{begins_same}
use Rattle.rust_edits.specs.ItemJoins.Open.{IsOpenItem, OpenItemsEnd, ReadsOn, StandsBefore, nothing_before, whole_before, open_before, reaches_end, nest_through, behind_name, end_behind, before_rest}
use Rattle.rust_edits.proofs.ItemJoins.OwnEnds.{start_near}
use Rattle.rust_edits.proofs.ItemJoins.LongerTexts.{last_moved}
use Rattle.rust_edits.proofs.ItemJoins.Inner.{no_inner}
use Rattle.rust_edits.proofs.ItemJoins.Joins.{edition_stays, found_same, found_still, found_both, items_join, items_top, level_at, level_near, unended_join}
use Rattle.rust_edits.proofs.ItemJoins.EndingItems.{top_end, front_leads}
use Rattle.rust_edits.proofs.ItemJoins.EndingParts.{Given}
use Rattle.rust_edits.proofs.ItemJoins.ReadingOn.{IsRead, read_on}
use Rattle.rust_edits.proofs.ItemJoins.OpenItems.{Reaches, TakesUp, taking_open, leaf_open, nil_left, nil_plain}
use Rattle.rust_edits.proofs.ItemJoins.Tops.{turn_strict}
use Rattle.rust_edits.proofs.ItemJoins.EndingFields.{empty_left}
use Rattle.std.proofs.lemmas.List.{length-map}
use Rattle.rust_edits.proofs.ItemJoins.Turns.{top_is, turn_leads, run, run_stop, next_fewer, beyond_none}
use Rattle.rust_edits.proofs.Typing.ProblemsIn.{unended_kept}
use Rattle.rust_edits.proofs.Typing.UnendedTokens.{last_append}

-- ---- where what is left begins

-- the place behind what was taken
behind_past : {ts us : Tokens} → LeadsTo ts us → (xs Y : List Piece) → 0 < length Y → ts.left ≡ xs ++ Y → us.left ≡ Y → us.past ≡ end_behind ts.past xs
unfolding bumped
behind_past here [] Y some e f = refl
behind_past {ts} here (t ∷ xs) Y some e f = absurd (let one = ap length (sym e ∙ f) in let sum = length-append (t ∷ xs) Y in omega arith)
behind_past {ts} {us} (further p) [] Y some e f = absurd (let less = fewer p in let same = ap length f in let fewer_left = rest_fewer ts.left (ap length e) in omega arith)
  where
    rest_fewer : (l : List Piece) → length l ≡ length Y → length (rest l) < length Y
    rest_fewer [] e = absurd (omega arith)
    rest_fewer (t ∷ l) e = omega arith
behind_past {ts} (further p) (t ∷ xs) Y some e f =
    behind_past p xs Y some (ap rest e) f ∙ ap (λ n. end_behind n xs) (ap (by_first ts.past end_of) e)

name_leads : (w : Head) (ts : Tokens) → LeadsTo ts (behind_name w ts)
name_leads heads.Use ts = use_tree_leads ts
name_leads heads.ExternCrate ts = through (named_or_leads _ ts) (renamed_leads _)
name_leads heads.Impl ts = here
name_leads heads.Const ts = through (named_leads ts) (eat_word_leads _ _)
name_leads (heads.Plain k) ts = through (mut_word_leads k ts) (named_leads _)
name_leads _ ts = named_leads ts

head_leaf : (w : Head) (xs : List Piece) → (w ≡ heads.Module → ⊥) → reaches_end w xs ≡ true → (inside : Finder BlockRead) (depth : ℕ) (h : FrontRead) (f : Found) (ts : Tokens) → by_head inside depth w h f ts ≡ leaf_turn depth h f ts
head_leaf heads.Module xs n e inside depth h f ts = absurd (n refl)
head_leaf heads.ExternBlock xs n e inside depth h f ts = absurd cc
head_leaf _ xs n e inside depth h f ts = refl

-- an item that takes all up to there
record TurnsTo (Y : List Piece) (r : Option ItemView × (Found × Tokens)) : Type 0 where
  item : ItemView
  is : r.0 ≡ Some item
  left : r.1.1.left ≡ Y

found_to : (Y : List Piece) (depth start : ℕ) (o : Option LeafRead) (f : Found) (ts : Tokens) → is_some o ≡ true → ts.left ≡ Y → TurnsTo Y (leaf_found depth start o f ts)
found_to Y depth start None f ts e l = absurd cc
found_to Y depth start (Some m) f ts e l = record { item = m.item; is = refl; left = l }

-- neither a `;` nor a block is taken there
no_semicolon : (us : Tokens) → (symbol us == 59) ≡ false → eat 59 us ≡ (false, us)
unfolding eat
no_semicolon us other = rw other refl

no_inside : (left : ℕ) (f : Found) (us : Tokens) → (symbol us == 123) ≡ false → inside (suc left) f us ≡ (no_block, (f, us))
unfolding inside
no_inside left f us other = rw other refl

-- so a module ends behind its name
module_to : (Y : List Piece) (h : FrontRead) (f : Found) (ts : Tokens) → (written_name ts).1.left ≡ Y → (symbol (written_name ts).1 == 59) ≡ false → (symbol (written_name ts).1 == 123) ≡ false → TurnsTo Y (some_item (module_with (inside 128) (depth_of 128) h f ts))
module_to Y h f ts left no_end no_open =
    let semi = no_semicolon (written_name ts).1 no_end in
    let block = no_inside 127 nothing_found (written_name ts).1 no_open in
    record { item = (module_with (inside 128) (depth_of 128) h f ts).0; is = refl; left = rw (semi, block) left }

last_any : (a b : Option ℕ) (l : List Piece) → 0 < length l → last_unended a l ≡ last_unended b l
last_any a b [] some = absurd (omega arith)
last_any a b (t ∷ l) some = refl

filter_some : (l : List Piece) → 0 < length (filter is_significant l) → 0 < length l
filter_some [] some = some
filter_some (t ∷ l) some = omega arith

some_left : (us : Tokens) → is_empty us ≡ false → 0 < length us.left
unfolding is_empty
some_left us some = by us.left some
  where
    by : (l : List Piece) → by_first true (λ _. false) l ≡ false → 0 < length l
    by [] e = absurd cc
    by (t ∷ l) e = omega arith

module _ (edition : EditionYear) (x y : List ℕ) (h : IsOpenItem edition x y) (short : length (x ++ y) < most_tokens) where
  abbrev text : List ℕ
  text = x ++ y

  abbrev d : ℕ
  d = length x

  abbrev ts : Tokens
  ts = tokens_of edition text

  abbrev vs : Tokens
  vs = tokens_of edition y

  abbrev Y : List Piece
  Y = map (moved_piece d) vs.left

  abbrev b : Ending
  b = level_at d ts.unended

  laid : IsLaid (length text) ts
  laid = tokens_laid edition text

  left_is : ts.left ≡ (tokens_of edition x).left ++ Y
  unfolding tokens_of
  left_is = ap (filter is_significant) h.parted ∙ filter-append is_significant (tokens x) (map (moved_piece d) (tokens y)) ∙ ap (λ l. filter is_significant (tokens x) ++ l) (filter_moved d (tokens y))

  starts : ts.past ≡ 0
  unfolding tokens_of
  starts = refl

  some_second : 0 < length vs.left
  some_second = some_left vs h.some

  some_there : 0 < length Y
  some_there = let n = length-map vs.left (moved_piece d) in let some = some_second in omega arith

  -- where nothing else is left, both are level
  there : (us : Tokens) → LeadsTo ts us → us.left ≡ Y → us.past ≡ d
  there us to e = behind_past to (tokens_of edition x).left Y some_there left_is e ∙ ap (λ n. end_behind n (tokens_of edition x).left) starts ∙ h.ends

  level : (us : Tokens) → LeadsTo ts us → us.left ≡ Y → Near b us vs
  unfolding tokens_of
  level us to e = level_near d 0 vs.left ts.unended vs.unended edition us (there us to e ∙ (let none : d ≡ 0 + d = omega arith in none)) e (unended_kept to) (edition_stays to)

  abbrev fr : FrontRead
  fr = (front ts).0

  abbrev ts1 : Tokens
  ts1 = (front ts).1

  abbrev named_at : Tokens
  named_at = behind_name h.head ts1

  abbrev last_nest : Nest
  last_nest = nest_through (length h.rest) (flat_behind (before_rest h.head)) named_at

  to_name : LeadsTo ts named_at
  to_name = through (front_leads ts) (name_leads h.head ts1)

  begins_there : (us : Tokens) → LeadsTo ts us → us.left ≡ Y → begins last_nest us ≡ true
  begins_there us to e = sym (begins_same (near_twins b) last_nest us vs (level us to e)) ∙ h.begins

  plain_there : (us : Tokens) → LeadsTo ts us → us.left ≡ Y → (symbol us == 59 || symbol us == 123) ≡ false
  plain_there us to e = ap (λ c. c == 59 || c == 123) (sym (symbol_same (near_twins b) us vs (level us to e))) ∙ h.plain

  reaches : Reaches Y h.rest (before_rest h.head) named_at
  unfolding excerpt_behind
  reaches = record {
    inner = λ i e s n. taking_open Y e s n ts last_nest begins_there h.rest 0 [] 0 None (flat_behind (before_rest h.head)) named_at to_name h.left i refl refl refl;
    left = h.left;
    plain = λ e. plain_there named_at to_name (h.left ∙ ap (λ l. l ++ Y) e);
  }

  by_word : (w : Head) → h.head ≡ w → (f : Found) → TurnsTo Y (by_head (inside 128) (depth_of 128) w fr f ts1)
  unfolding leaf_turn
  by_word heads.Module e f =
      let there : Reaches Y h.rest befores.End (written_name ts1).1 = subst (λ (w : Head). Reaches Y h.rest (before_rest w) (behind_name w ts1)) e reaches in
      let none : is_nil h.rest ≡ true = subst (λ (w : Head). reaches_end w h.rest ≡ true) e h.reaches in
      let plain = nil_plain Y h.rest befores.End (written_name ts1).1 there none in
      module_to Y fr f ts1 (nil_left Y h.rest befores.End (written_name ts1).1 there none) plain.0 plain.1
  by_word w e f =
      let all : reaches_end w h.rest ≡ true = subst (λ (w : Head). reaches_end w h.rest ≡ true) e h.reaches in
      let there : Reaches Y h.rest (before_rest w) (behind_name w ts1) = subst (λ (w : Head). Reaches Y h.rest (before_rest w) (behind_name w ts1)) e reaches in
      let leaf_to : TakesUp Y (leaf fr ts1) = leaf_open Y h.rest fr ts1 w (λ m. absurd cc) (h.is_head ∙ e) all there in
      rw (head_leaf w h.rest (λ m. absurd cc) all (inside 128) (depth_of 128) fr f ts1) (found_to Y (depth_of 128) fr.start (leaf fr ts1).0 f (leaf fr ts1).1 leaf_to.some leaf_to.left)

  turned : (f : Found) → TurnsTo Y (turn 128 f ts)
  unfolding turn
  turned f = rw (h.item, h.is_head) (by_word h.head refl f)

  abbrev r : Option ItemView × (Found × Tokens)
  r = turn 128 nothing_found ts

  abbrev one : TurnsTo Y r
  one = turned nothing_found

  to_there : LeadsTo ts r.1.1
  to_there = turn_leads true 127 (length text) nothing_found ts laid

  next_is : progress_from ts.past r.1.1 ≡ r.1.1
  next_is =
      let start = at_behind (length text) ts laid in
      let less = turn_strict (length text) 128 nothing_found ts one.item laid one.is in
      beyond_none ts.past r.1.1 (ne_eqb r.1.1.past ts.past (λ same. absurd (omega arith)))

  sizes : length text ≡ d + length y
  sizes = length-append x y

  second_read : read_of edition y ≡ run true 127 most_tokens [] nothing_found vs
  second_read = ap (λ (p : List MetaView × Tokens). items true 128 nothing_found p.1) (no_inner vs h.outer_behind) ∙ items_top true 127 nothing_found vs

  first_read : read_of edition text ≡ run true 127 most_tokens [] nothing_found ts
  first_read = ap (λ (p : List MetaView × Tokens). items true 128 nothing_found p.1) (no_inner ts h.outer) ∙ items_top true 127 nothing_found ts

  given : Given (length text) (length y) r.1.1 vs
  given = record { laid = (behind (length text) to_there laid).laid; short = tokens_sound edition y }

  two : IsRead true 127 b r.1.0 (one.item ∷ []) [] r.1.0 r.1.1 (run true 127 most_tokens [] nothing_found vs)
  two =
      let few = tokens_short edition y in
      let sum = sizes in
      read_on true 127 b (length text) (length y) most_tokens r.1.0 (one.item ∷ []) [] r.1.0 nothing_found r.1.1 vs given (level r.1.1 to_there one.left) (start_near b r.1.0) (omega (arith, short)) (λ l. absurd cc)

  going : is_list_end true ts ≡ false
  going = when (is_list_end true ts) (λ e. absurd (none_going e)) (λ e. e)
    where
      none_going : is_list_end true ts ≡ true → ⊥
      none_going e = let none = empty_left ts (sym (top_is ts) ∙ e) in let same = ap length (sym left_is ∙ none) in let sum = length-append (tokens_of edition x).left Y in let some = some_there in omega arith

  whole : (j : ℕ) → length ts.left < j → run true 127 j [] nothing_found ts ≡ ((one.item ∷ []) ++ two.new, (two.found, two.rest))
  whole zero few = absurd (omega arith)
  whole (suc j) few =
      let less = next_fewer true 127 (length text) nothing_found ts laid going in
      let same = ap (λ (t : Tokens). length t.left) next_is in
      let left_two = fewer two.leads in
      let first_few = tokens_short edition text in
      rw (going, one.is, next_is)
      (two.long j most_tokens (omega arith) (let behind_all = fewer to_there in omega (arith, short))
      ∙ run_stop true 127 most_tokens ((one.item ∷ []) ++ two.new) two.found two.rest (sym (top_end true b two.rest (run true 127 most_tokens [] nothing_found vs).1.1 (two.level refl)) ∙ two.ended))

  read : read_of edition text ≡ ((one.item ∷ []) ++ two.new, (two.found, two.rest))
  read = let few = tokens_short edition text in first_read ∙ whole most_tokens (omega (arith, short))

  found_both_texts : (read_of edition text).1.0 ≡ and_all (found_on d (read_of edition y).1.0) r.1.0
  found_both_texts =
      ap (λ (q : List ItemView × (Found × Tokens)). q.1.0) read ∙ found_both b r.1.0 two.found (run true 127 most_tokens [] nothing_found vs).1.0 two.same
      ∙ ap (λ (q : List ItemView × (Found × Tokens)). and_all (found_on d q.1.0) r.1.0) (sym second_read)

  last_token : ts.unended ≡ option_map (λ n. n + d) vs.unended
  unfolding tokens_of
  last_token =
      let some = filter_some (tokens y) some_second in
      let many = length-map (tokens y) (moved_piece d) in
      ap (last_unended None) h.parted ∙ last_append None (tokens x) (map (moved_piece d) (tokens y)) ∙ last_any (last_unended None (tokens x)) None (map (moved_piece d) (tokens y)) (omega arith) ∙ last_moved d None (tokens y)

  y_unended : (read_of edition y).1.1.unended ≡ vs.unended
  y_unended =
      let vs_laid = (behind (length y) (inner_attributes_leads vs) (tokens_laid edition y)).laid in
      unended_kept (through (inner_attributes_leads vs) (items_found (length y) true 128 nothing_found (behind_attributes edition y) vs_laid).leads)

  unended : (read_of edition text).1.1.unended ≡ option_map (λ n. n + d) (read_of edition y).1.1.unended
  unended = ap (λ (q : List ItemView × (Found × Tokens)). q.1.1.unended) read ∙ unended_kept (through to_there two.leads) ∙ last_token ∙ ap (option_map (λ n. n + d)) (sym y_unended)

  reads_on : ReadsOn edition text d y
  unfolding found_in
  reads_on = record {
    first = one.item ∷ [];
    items = ap (λ (q : List ItemView × (Found × Tokens)). q.0) read ∙ ap (λ l. one.item ∷ l) (sym (ap (λ (q : List ItemView × (Found × Tokens)). q.0) second_read ∙ two.list));
    before = r.1.0;
    found =
        ap (λ u. and_problem_at problem.Unterminated u (read_of edition text).1.0) unended ∙ ap (and_problem_at problem.Unterminated (option_map (λ n. n + d) (read_of edition y).1.1.unended)) found_both_texts
        ∙ unended_join d (read_of edition y).1.1.unended r.1.0 (read_of edition y).1.0;
  }

-- ---- behind other items

ranges_on : (m n : ℕ) (r : TextRange) → moved_range (λ k. k + m) (moved_range (λ k. k + n) r) ≡ moved_range (λ k. k + (m + n)) r
ranges_on m n r = let s : r.start + n + m ≡ r.start + (m + n) = omega arith in let e : r.end + n + m ≡ r.end + (m + n) = omega arith in rw (s, e) refl

some_on : (m n : ℕ) (o : Option TextRange) → option_map (moved_range (λ k. k + m)) (option_map (moved_range (λ k. k + n)) o) ≡ option_map (moved_range (λ k. k + (m + n))) o
some_on m n None = refl
some_on m n (Some r) = ap Some (ranges_on m n r)

spans_on : (m n : ℕ) (s : Span) → moved_span (λ k. k + m) (moved_span (λ k. k + n) s) ≡ moved_span (λ k. k + (m + n)) s
spans_on m n s = rw (ranges_on m n s.range, some_on m n s.name, some_on m n s.body) refl

places_on : (m n k : ℕ) → k + n + m ≡ k + (m + n)
places_on m n k = omega arith

problems_on : (m n : ℕ) (p : Problem) → moved_problem (λ k. k + m) (moved_problem (λ k. k + n) p) ≡ moved_problem (λ k. k + (m + n)) p
problems_on m n p = let e = places_on m n p.at in rw e refl

both_on : {A : Type 0} (f g h : A → A) → ((a : A) → f (g a) ≡ h a) → (l : List A) → map f (map g l) ≡ map h l
both_on f g h e [] = refl
both_on f g h e (a ∷ l) = ap (λ b. b ∷ map f (map g l)) (e a) ∙ ap (λ m. h a ∷ m) (both_on f g h e l)

joined_on : {A : Type 0} (f g h : A → A) → ((a : A) → f (g a) ≡ h a) → (p q l : List A) → p ++ map f (q ++ map g l) ≡ (p ++ map f q) ++ map h l
joined_on f g h e p q l = ap (λ m. p ++ m) (map-append f q (map g l) ∙ ap (λ m. map f q ++ m) (both_on f g h e l)) ∙ sym (append_assoc p (map f q) (map h l))

-- what is found of three texts
found_three : (m n : ℕ) (f g h : Found) → and_all (found_on m (and_all (found_on n h) g)) f ≡ and_all (found_on (m + n) h) (and_all (found_on m g) f)
found_three m n f g h =
    found_same _ _ _ _ _ _ _ _ (sym (append_assoc f.rows g.rows h.rows)) (joined_on _ _ _ (spans_on m n) f.spans g.spans h.spans)
    (joined_on _ _ _ (places_on m n) f.use_trees g.use_trees h.use_trees) (joined_on _ _ _ (problems_on m n) f.problems g.problems h.problems)

-- what goes on behind what goes on
reads_through : (edition : EditionYear) (text : List ℕ) (m n : ℕ) (x y : List ℕ) → ReadsOn edition text m x → ReadsOn edition x n y → ReadsOn edition text (m + n) y
reads_through edition z m n x y one two = record {
  first = one.first ++ two.first;
  items = one.items ∙ ap (λ l. one.first ++ l) two.items ∙ sym (append_assoc one.first two.first (read_of edition y).0);
  before = and_all (found_on m two.before) one.before;
  found = one.found ∙ ap (λ (f : Found). and_all (found_on m f) one.before) two.found ∙ found_three m n one.before two.before (found_in edition y);
}

pub open_items_end : OpenItemsEnd
open_items_end edition p y before short = by p y before short
  where
    by : (p y : List ℕ) → StandsBefore edition p y → length (p ++ y) < most_tokens → ReadsOn edition (p ++ y) (length p) y
    by _ _ (nothing_before y) short = record { first = []; items = refl; before = nothing_found; found = found_still (found_in edition y) }
    by _ _ (whole_before p y holds anew) short =
        let j = items_join edition p y holds anew short in record { first = (read_of edition p).0; items = j.items; before = found_in edition p; found = j.found }
    by _ _ (open_before p x y outer h) short =
        let all : (p ++ x) ++ y ≡ p ++ (x ++ y) = append_assoc p x y in
        let less : length (p ++ (x ++ y)) < most_tokens = subst (λ (t : List ℕ). length t < most_tokens) all short in
        let sum = length-append p (x ++ y) in
        let one = by p (x ++ y) outer less in
        let two = reads_on edition x y h (omega (arith, less)) in
        subst (λ (t : List ℕ). ReadsOn edition t (length (p ++ x)) y) (sym all)
        (subst (λ (d : ℕ). ReadsOn edition (p ++ (x ++ y)) d y) (sym (length-append p x)) (reads_through edition (p ++ (x ++ y)) (length p) (length x) (x ++ y) y one two))
