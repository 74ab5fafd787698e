-- Whole items and what is behind them are read one after the other.
use Rattle.std.proofs.Common.{◌≡◌, Bool, ◌<◌, ◌+◌, ◌==◌, ◌||◌, ℕ, suc, true, false, Option, None, List, [], ◌∷◌, ◌++◌, length, refl, sym, ap, ◌∙◌, subst, arith, map, append_assoc, append-nil, length-append}
use Rattle.std.proofs.lemmas.List.{length-map}
use Rattle.rust_edits.proofs.Common.{own, stop_at, tokens_in_front, option_map, not, slice_index, filter, EditionYear, MetaView, ItemView, Row, Stop, stop, EndsAlone, moved_piece, is_continuation, Piece, symbol_of, is_significant, tokens, most_tokens, Tokens, tokens_of, last_unended, by_first, symbol, TextRange, inner_attributes, Problem, Found, nothing_found, and_problem_at, and_all, finding, items, moved_range, moved_span, moved_problem, behind_attributes, found_in, read_of, ends_items, read_at, turn, turn_found, Kept, EndsWhole, InsideJoin, ItemsJoin, IsBare, found_on, BeginsAnew, common_steps, nat_tests, tokens_sound, behind, tokens_laid, LeadsTo, here, further, bumped, through, by_kept, inner_attributes_until, inner_attributes_leads, Span, items_found, Ending, Near, near, fewer, near_parting, near_enters, near_levels, is_still, tokens_short}
use Rattle.rust_items.specs.declared.log.ProblemKind.TheVariants as problem
use Rattle.rust_cursor.proofs.PartingReaders as parting
use Rattle.rust_edits.proofs.ItemJoins.EndingParts.{Given, given_on}
use Rattle.rust_edits.proofs.ItemJoins.EndingItems.{top_end, FoundNear, FoundAlike, flat, list_long, by_long, ends_long, told}
use Rattle.rust_edits.proofs.ItemJoins.EndingTurns.{turn_ends}
use Rattle.rust_edits.specs.ItemJoins.Joined.{read_so_far}
use Rattle.rust_edits.proofs.ItemJoins.OwnEnds.{last_is, part_in, part_near, part_ended, start_near, ended, IsPart, tokens_behind}
use Rattle.rust_edits.proofs.ItemJoins.LongerTexts.{last_stop, plain_on, behind_moved, first_moved, unended_behind, past_whole, plain_tokens}
use Rattle.rust_edits.proofs.ItemJoins.Inner.{no_inner}
use Rattle.rust_edits.proofs.ItemJoins.ReadingOn.{IsRead, read_on}
use Rattle.rust_edits.proofs.ItemJoins.Turns.{run, run_stop, run_ended, run_done, true_false, top_is, Calm, calm_left, calm_by}
use Rattle.rust_edits.proofs.ItemJoins.EndingFields.{empty_left}
use Rattle.rust_edits.proofs.Typing.ProblemsIn.{unended_kept}
use Rattle.rust_edits.proofs.Typing.UnendedTokens.{last_append}

pub edition_stays : {ts us : Tokens} → LeadsTo ts us → us.edition ≡ ts.edition
unfolding bumped
edition_stays here = refl
edition_stays (further p) = edition_stays p

pub items_top : (is_top : Bool) (left : ℕ) (f : Found) (ts : Tokens) → items is_top (suc left) f ts ≡ run is_top left most_tokens [] f ts
unfolding finding
items_top is_top left f ts = refl

-- at the top nothing is left
pub all_spent : (is_top : Bool) (left : ℕ) (edition : EditionYear) (text : List ℕ) → length text < most_tokens → (is_top ≡ false → (read_at is_top (suc left) edition text).1.1.left ≡ []) → (read_at is_top (suc left) edition text).1.1.left ≡ []
all_spent false left edition text short h = h refl
all_spent true left edition text short h =
    let ts = tokens_of edition text in
    let us = (inner_attributes ts).1 in
    let laid = (behind (length text) (inner_attributes_leads ts) (tokens_laid edition text)).laid in
    let few = tokens_short edition text in
    let less = fewer (inner_attributes_leads ts) in
    let ended = run_ended true left (length text) most_tokens [] nothing_found us laid (omega (arith, short)) in
    ap (λ (r : List ItemView × (Found × Tokens)). r.1.1.left) (items_top true left nothing_found us) ∙ empty_left (run true left most_tokens [] nothing_found us).1.1 (sym (top_is (run true left most_tokens [] nothing_found us).1.1) ∙ ended)

-- ---- what is found, moved by nothing

range_still : (r : TextRange) → moved_range (λ n. n + 0) r ≡ r
range_still r = let s : r.start + 0 ≡ r.start = omega arith in let e : r.end + 0 ≡ r.end = omega arith in rw (s, e) refl

range_if_still : (o : Option TextRange) → option_map (moved_range (λ n. n + 0)) o ≡ o
range_if_still o = grind (arith, nat_tests)

span_still : (s : Span) → moved_span (λ n. n + 0) s ≡ s
span_still s = rw (range_still s.range, range_if_still s.name, range_if_still s.body) refl

problem_still : (p : Problem) → moved_problem (λ n. n + 0) p ≡ p
problem_still p = let e : p.at + 0 ≡ p.at = omega arith in rw e refl

number_still : (n : ℕ) → n + 0 ≡ n
number_still n = omega arith

map_still : {A : Type 0} (on : A → A) → ((a : A) → on a ≡ a) → (l : List A) → map on l ≡ l
map_still on e [] = refl
map_still on e (a ∷ l) = ap (λ b. b ∷ map on l) (e a) ∙ ap (λ m. a ∷ m) (map_still on e l)

abbrev pub found : List Row → List Span → List ℕ → List Problem → Found
found rows spans use_trees problems = record { rows = rows; spans = spans; use_trees = use_trees; problems = problems }

pub found_same : (rows rows' : List Row) (spans spans' : List Span) (trees trees' : List ℕ) (problems problems' : List Problem) → rows ≡ rows' → spans ≡ spans' → trees ≡ trees' → problems ≡ problems'
    → found rows spans trees problems ≡ found rows' spans' trees' problems'
found_same rows rows' spans spans' trees trees' problems problems' a b c d = rw (a, b, c, d) refl

-- of the first text, and of both
pub found_first : (b : Ending) (f g : Found) → b.by ≡ 0 → FoundNear b nothing_found f g → f ≡ g
found_first b f g e n =
    found_same f.rows g.rows f.spans g.spans f.use_trees g.use_trees f.problems g.problems n.rows
    (n.spans ∙ ap (λ (d : ℕ). map (moved_span (λ n. n + d)) g.spans) e ∙ map_still _ span_still g.spans)
    (n.use_trees ∙ ap (λ (d : ℕ). map (λ n. n + d) g.use_trees) e ∙ map_still _ number_still g.use_trees)
    (n.problems ∙ ap (λ (d : ℕ). map (moved_problem (λ n. n + d)) g.problems) e ∙ map_still _ problem_still g.problems)

pub found_both : (b : Ending) (before f g : Found) → FoundNear b before f g → f ≡ and_all (found_on b.by g) before
found_both b before f g n = found_same f.rows _ f.spans _ f.use_trees _ f.problems _ n.rows n.spans n.use_trees n.problems

pub found_still : (f : Found) → f ≡ and_all (found_on 0 f) nothing_found
found_still f = sym (found_same f.rows f.rows _ f.spans _ f.use_trees _ f.problems refl (map_still _ span_still f.spans) (map_still _ number_still f.use_trees) (map_still _ problem_still f.problems))

-- with the problem that a token is not ended
pub unended_join : (d : ℕ) (o : Option ℕ) (f g : Found) → and_problem_at problem.Unterminated (option_map (λ n. n + d) o) (and_all (found_on d g) f) ≡ and_all (found_on d (and_problem_at problem.Unterminated o g)) f
unended_join d o f g = grind (arith, common_steps)

-- a text that ends with such a token ends no other token's
open_none : (edition : EditionYear) (w : List ℕ) (o : Stop) → EndsAlone w o → IsBare (ended w o) → (tokens_of edition (ended w o)).unended ≡ None
unfolding tokens_of
open_none edition w o alone p =
    let xs = tokens_in_front 0 0 w (stop o ∷ []) in
    ap (last_unended None) (plain_tokens (ended w o) p ∙ own o 0 w [] alone refl) ∙ last_append None xs (stop_at o (0 + length w) ∷ []) ∙ last_stop o (0 + length w) (last_unended None xs) []

pub found_whole : (edition : EditionYear) (w : List ℕ) (o : Stop) → EndsAlone w o → IsBare (ended w o) → found_in edition (ended w o) ≡ (read_of edition (ended w o)).1.0
unfolding found_in
found_whole edition w o alone p =
    let x = ended w o in
    let laid = (behind (length x) (inner_attributes_leads (tokens_of edition x)) (tokens_laid edition x)).laid in
    let kept = unended_kept (through (inner_attributes_leads (tokens_of edition x)) (items_found (length x) true 128 nothing_found (behind_attributes edition x) laid).leads) in
    ap (λ u. and_problem_at problem.Unterminated u (read_of edition x).1.0) (kept ∙ open_none edition w o alone p)

-- ---- the two texts

abbrev pub level_at : ℕ → Option ℕ → Ending
level_at d u = record { by = d; behind = []; unended = u; level = true; none = λ _. refl }

pub level_near : (d past : ℕ) (left : List Piece) (u v : Option ℕ) (edition : EditionYear) (ts : Tokens) → ts.past ≡ past + d → ts.left ≡ map (moved_piece d) left → ts.unended ≡ u → ts.edition ≡ edition
    → Near (level_at d u) ts (record { past = past; left = left; unended = v; edition = edition })
level_near d past left u v edition ts p l e y =
    subst (λ (t : Tokens). Near (level_at d u) t (record { past = past; left = left; unended = v; edition = edition })) (sym (same ts.past (past + d) ts.left (map (moved_piece d) left ++ []) ts.unended u ts.edition edition p (l ∙ sym (append-nil (map (moved_piece d) left))) e y))
    (near past left v edition refl)
  where
    same : (a b : ℕ) (c d : List Piece) (e f : Option ℕ) (g h : EditionYear) → a ≡ b → c ≡ d → e ≡ f → g ≡ h
        → ◌≡◌ {A = Tokens} (record { past = a; left = c; unended = e; edition = g }) (record { past = b; left = d; unended = f; edition = h })
    same a b c d e f g h i j k l = rw (i, j, k, l) refl

-- how the tokens of a text stand in a longer one
module _ (edition : EditionYear) (w : List ℕ) (o : Stop) (y : List ℕ) (alone : EndsAlone w o) (last : ends_items o ≡ true) (plain : IsBare (ended w o)) (clean : is_continuation (slice_index y 0) ≡ false) where
  abbrev both : Tokens
  both = tokens_of edition (w ++ stop o ∷ y)

  both_are : both ≡ tokens_behind edition both.unended [] (w ++ stop o ∷ y)
  unfolding tokens_of
  both_are =
      ap (λ (l : List Piece). record { past = 0; left = filter is_significant l; unended = last_unended None (tokens (w ++ stop o ∷ y)); edition = edition })
      (plain_tokens (w ++ stop o ∷ y) (plain_on w o y alone clean plain))

  pub tokens_near : Near (part_in edition both.unended [] w o y) both (tokens_of edition (ended w o))
  tokens_near =
      let part : IsPart w o y = record { ends = alone; behind = clean; plain = plain } in
      subst (λ (t : Tokens). Near (part_in edition both.unended [] w o y) t (tokens_of edition (ended w o))) (sym both_are) (part_near edition both.unended [] w o y part (part_ended edition [] w o y part (last_is o last)))

near_length : (d : ℕ) (u : Option ℕ) (ts us : Tokens) → Near (level_at d u) ts us → length ts.left ≡ length us.left
near_length d u ts us (near past l v y e) = ap length (append-nil (map (moved_piece d) l)) ∙ length-map l (moved_piece d)

-- what is read of a text so far, and of another
pub record IsAsFar (d : ℕ) (first : List Problem) (r r' : List ItemView × (Found × Tokens)) : Type 0 where
  pub left : length r.1.1.left ≡ length r'.1.1.left
  pub problems : r.1.0.problems ≡ first ++ map (moved_problem (λ n. n + d)) r'.1.0.problems

-- what is read of both
pub record Joined (is_top : Bool) (left : ℕ) (edition : EditionYear) (text x y : List ℕ) (d : ℕ) : Type 0 where
  pub attrs : (inner_attributes (tokens_of edition text)).0 ≡ (inner_attributes (tokens_of edition x)).0
  pub items : (read_at is_top (suc left) edition text).0 ≡ (read_at is_top (suc left) edition x).0 ++ (read_at is_top (suc left) edition y).0
  pub found : (read_at is_top (suc left) edition text).1.0 ≡ and_all (found_on d (read_at is_top (suc left) edition y).1.0) (read_at is_top (suc left) edition x).1.0
  pub unended : (read_at is_top (suc left) edition text).1.1.unended ≡ option_map (λ n. n + d) (read_at is_top (suc left) edition y).1.1.unended
  pub rest : length (read_at is_top (suc left) edition text).1.1.left ≡ length (read_at is_top (suc left) edition y).1.1.left
  -- behind so many turns the first is read, and the second so far as alone
  pub turns : ℕ
  pub far : (n : ℕ) → IsAsFar d (read_at is_top (suc left) edition x).1.0.problems (read_so_far (turns + n) is_top (suc left) edition text) (read_so_far n is_top (suc left) edition y)

module _ (is_top : Bool) (left : ℕ) (edition : EditionYear) (w : List ℕ) (o : Stop) (y : List ℕ) (alone : EndsAlone w o) (last : ends_items o ≡ true) (plain : IsBare (ended w o)) (plain' : IsBare y) (begins : BeginsAnew edition y) (short : length (w ++ stop o ∷ y) < most_tokens) where
  abbrev x : List ℕ
  x = ended w o

  abbrev text : List ℕ
  text = w ++ stop o ∷ y

  abbrev ts : Tokens
  ts = tokens_of edition text

  abbrev us : Tokens
  us = tokens_of edition x

  abbrev vs : Tokens
  vs = tokens_of edition y

  abbrev by : ℕ
  by = suc (length w)

  -- how the first stands in both
  abbrev first : Ending
  first = part_in edition ts.unended [] w o y

  long_plain : IsBare text
  long_plain = plain_on w o y alone begins.uncut plain

  pub first_near : Near first ts us
  first_near = tokens_near edition w o y alone last plain begins.uncut

  first_given : Given (length text) (length x) ts us
  first_given = record { laid = tokens_laid edition text; short = tokens_sound edition x }

  sizes : length text ≡ length x + length y
  sizes = grind (arith, common_steps)

  -- the tokens behind the first are those of the second
  behind_is : first.behind ≡ map (moved_piece by) vs.left
  unfolding tokens_of
  behind_is = behind_moved by y plain'

  first_still : is_still first ≡ true
  unfolding symbol
  first_still =
      let same : by_first 0 symbol_of first.behind ≡ by_first 0 symbol_of vs.left = ap (by_first 0 symbol_of) behind_is ∙ first_moved by vs.left in
      let still : not (by_first 0 symbol_of vs.left == 62 || by_first 0 symbol_of vs.left == 44) ≡ true = ap not begins.still in
      ap (λ c. not (c == 62 || c == 44)) same ∙ still

  -- the second is read with no attributes of its own
  no_attrs : inner_attributes vs ≡ ([], vs)
  no_attrs = no_inner vs begins.outer

  second_read : read_at is_top (suc left) edition y ≡ run is_top left most_tokens [] nothing_found vs
  second_read = ap (λ (p : List MetaView × Tokens). items is_top (suc left) nothing_found p.1) no_attrs ∙ items_top is_top left nothing_found vs

  module _ (calms : Calm is_top left most_tokens [] nothing_found (inner_attributes us).1) (spent : (read_at is_top (suc left) edition x).1.1.left ≡ []) (k : parting.Kept parting.Same (Near first) (inner_attributes ts) (inner_attributes us)) where
    abbrev ts' : Tokens
    ts' = (inner_attributes ts).1

    abbrev us' : Tokens
    us' = (inner_attributes us).1

    first_read : read_at is_top (suc left) edition x ≡ run is_top left most_tokens [] nothing_found us'
    first_read = items_top is_top left nothing_found us'

    text_few : length ts.left < most_tokens
    text_few = let few = tokens_short edition text in omega (arith, short)

    one : IsRead is_top left first nothing_found [] [] nothing_found ts' (run is_top left most_tokens [] nothing_found us')
    one =
        let few = tokens_short edition x in
        let less = fewer (inner_attributes_leads us) in
        let sum = sizes in
        read_on is_top left first (length text) (length x) most_tokens nothing_found [] [] nothing_found nothing_found ts' us' (given_on first_given (inner_attributes_leads ts) (inner_attributes_leads us)) k.rest
        (record { rows = refl; spans = refl; use_trees = refl; problems = refl }) (omega (arith, short)) (λ _. (first_still, (calms, ap (λ (r : List ItemView × (Found × Tokens)). r.1.1.left) (sym first_read) ∙ spent)))

    to_left : LeadsTo ts one.rest
    to_left = through (inner_attributes_leads ts) one.leads

    first_past : (read_at is_top (suc left) edition x).1.1.past ≡ by
    first_past =
        let laid = (behind (length x) (inner_attributes_leads us) (tokens_laid edition x)).laid in
        let leads = (items_found (length x) is_top (suc left) nothing_found (behind_attributes edition x) laid).leads in
        past_whole edition w o (read_at is_top (suc left) edition x).1.1 alone plain (through (inner_attributes_leads us) leads) spent

    second_near : Near (level_at by ts.unended) one.rest vs
    unfolding tokens_of
    second_near =
        let past : one.rest.past ≡ 0 + by = (one.spent refl).past ∙ (let none : (run is_top left most_tokens [] nothing_found us').1.1.past + 0 ≡ (run is_top left most_tokens [] nothing_found us').1.1.past = omega arith in none)
        ∙ ap (λ (r : List ItemView × (Found × Tokens)). r.1.1.past) (sym first_read) ∙ first_past ∙ (let none : by ≡ 0 + by = omega arith in none) in
        level_near by 0 vs.left ts.unended vs.unended edition one.rest past ((one.spent refl).behind ∙ behind_is) (unended_kept to_left) (edition_stays to_left)

    second_given : Given (length text) (length y) one.rest vs
    second_given = record { laid = (behind (length text) to_left (tokens_laid edition text)).laid; short = tokens_sound edition y }

    two : IsRead is_top left (level_at by ts.unended) one.found ([] ++ one.new) [] one.found one.rest (run is_top left most_tokens [] nothing_found vs)
    two =
        let few = tokens_short edition y in
        let sum = sizes in
        read_on is_top left (level_at by ts.unended) (length text) (length y) most_tokens one.found ([] ++ one.new) [] one.found nothing_found one.rest vs second_given second_near (start_near (level_at by ts.unended) one.found) (omega (arith, short)) (λ l. absurd cc)

    all_read : read_at is_top (suc left) edition text ≡ (([] ++ one.new) ++ two.new, (two.found, two.rest))
    all_read =
        let a = fewer (inner_attributes_leads ts) in
        let b = fewer to_left in
        let c = fewer (through to_left two.leads) in
        let few = text_few in
        items_top is_top left nothing_found ts' ∙ one.long most_tokens most_tokens (omega arith) (omega arith) ∙ two.long most_tokens most_tokens (omega arith) (omega arith)
        ∙ run_stop is_top left most_tokens (([] ++ one.new) ++ two.new) two.found two.rest (sym (top_end is_top (level_at by ts.unended) two.rest (run is_top left most_tokens [] nothing_found vs).1.1 (two.level refl)) ∙ two.ended)

    first_found : one.found ≡ (read_at is_top (suc left) edition x).1.0
    first_found = found_first first one.found (run is_top left most_tokens [] nothing_found us').1.0 refl one.same ∙ ap (λ (r : List ItemView × (Found × Tokens)). r.1.0) (sym first_read)

    abbrev level : Ending
    level = level_at by ts.unended

    abbrev second_far : ℕ → List ItemView → List ItemView × (Found × Tokens)
    second_far n done = run is_top left n done nothing_found vs

    both_far : (n : ℕ) → Kept (FoundAlike level one.found) level (flat (run is_top left n ([] ++ one.new) one.found one.rest)) (flat (second_far n ([] ++ one.new)))
    both_far n =
        by_long
        (list_long is_top level (turn (suc left)) (λ n m before f g ts us given h a. ends_long (turn_ends n m left level before f g ts us given h a)) (λ end. turn_found end (suc left)) (length text) (length y) n
        one.found ([] ++ one.new) ([] ++ one.new) one.found nothing_found one.rest vs second_given second_near refl (start_near level one.found))
        (λ few uneven none. absurd (true_false refl uneven)) (λ w. w)

    far_as : (n : ℕ) → IsAsFar by (read_at is_top (suc left) edition x).1.0.problems (read_so_far (one.turns + n) is_top (suc left) edition text) (read_so_far n is_top (suc left) edition y)
    far_as n =
        let r = run is_top left n ([] ++ one.new) one.found one.rest in
        let k = both_far n in
        let same : (second_far n ([] ++ one.new)).1 ≡ (read_so_far n is_top (suc left) edition y).1 = run_done is_top left n ([] ++ one.new) [] nothing_found vs ∙ ap (λ (p : List MetaView × Tokens). (run is_top left n [] nothing_found p.1).1) (sym no_attrs) in
        let on = map (moved_problem (λ n. n + by)) in
        record {
          left = ap (λ (r : List ItemView × (Found × Tokens)). length r.1.1.left) (one.exact (one.turns + n) n refl) ∙ near_length by ts.unended r.1.1 (second_far n ([] ++ one.new)).1.1 k.rest ∙ ap (λ (p : Found × Tokens). length p.1.left) same;
          problems = ap (λ (r : List ItemView × (Found × Tokens)). r.1.0.problems) (one.exact (one.turns + n) n refl) ∙ k.value.found.problems ∙ ap (λ (f : Found). f.problems ++ on (second_far n ([] ++ one.new)).1.0.problems) first_found
              ∙ ap (λ (p : Found × Tokens). (read_at is_top (suc left) edition x).1.0.problems ++ on p.0.problems) same;
        }

    second_left : length (read_at is_top (suc left) edition text).1.1.left ≡ length (read_at is_top (suc left) edition y).1.1.left
    second_left =
        ap (λ (r : List ItemView × (Found × Tokens)). length r.1.1.left) all_read ∙ near_length by ts.unended two.rest (run is_top left most_tokens [] nothing_found vs).1.1 (two.level refl)
        ∙ ap (λ (r : List ItemView × (Found × Tokens)). length r.1.1.left) (sym second_read)

    first_items : (read_at is_top (suc left) edition x).0 ≡ one.new
    first_items = ap (λ (r : List ItemView × (Found × Tokens)). r.0) first_read ∙ one.list

    second_items : (read_at is_top (suc left) edition y).0 ≡ two.new
    second_items = ap (λ (r : List ItemView × (Found × Tokens)). r.0) second_read ∙ two.list

    found_all : two.found ≡ and_all (found_on by (read_at is_top (suc left) edition y).1.0) (read_at is_top (suc left) edition x).1.0
    found_all =
        found_both (level_at by ts.unended) one.found two.found (run is_top left most_tokens [] nothing_found vs).1.0 two.same
        ∙ ap (λ (f : Found). and_all (found_on by f) one.found) (ap (λ (r : List ItemView × (Found × Tokens)). r.1.0) (sym second_read))
        ∙ ap (and_all (found_on by (read_at is_top (suc left) edition y).1.0)) first_found

    y_unended : (read_at is_top (suc left) edition y).1.1.unended ≡ vs.unended
    y_unended =
        let laid = (behind (length y) (inner_attributes_leads vs) (tokens_laid edition y)).laid in
        unended_kept (through (inner_attributes_leads vs) (items_found (length y) is_top (suc left) nothing_found (behind_attributes edition y) laid).leads)

    joins : Joined is_top left edition text x y by
    joins = record {
      attrs = sym k.value;
      items = ap (λ (r : List ItemView × (Found × Tokens)). r.0) all_read ∙ ap (λ l. l ++ two.new) (sym first_items) ∙ ap (λ l. (read_at is_top (suc left) edition x).0 ++ l) (sym second_items);
      found = ap (λ (r : List ItemView × (Found × Tokens)). r.1.0) all_read ∙ found_all;
      unended = ap (λ (r : List ItemView × (Found × Tokens)). r.1.1.unended) all_read ∙ unended_kept (through to_left two.leads) ∙ unended_behind edition w o y alone begins.uncut long_plain plain'
          ∙ ap (option_map (λ n. n + by)) (sym y_unended);
      rest = second_left;
      turns = one.turns;
      far = far_as;
    }

  joined : EndsWhole is_top (suc left) edition x → Joined is_top left edition text x y by
  joined h =
      let us' = (inner_attributes us).1 in
      let first = items_top is_top left nothing_found us' in
      let laid = (behind (length x) (inner_attributes_leads us) (tokens_laid edition x)).laid in
      let few = tokens_short edition x in
      let less = fewer (inner_attributes_leads us) in
      let sum = sizes in
      let spent = all_spent is_top left edition x (omega (arith, short)) h.spent in
      let quiet : told (run is_top left most_tokens [] nothing_found us').1.0 ≡ told (run is_top left h.turns [] nothing_found us').1.0 = ap (λ (r : List ItemView × (Found × Tokens)). told r.1.0) (sym first) ∙ ap length h.sound in
      let calms : Calm is_top left most_tokens [] nothing_found us' =
      calm_by is_top left (length x) h.turns most_tokens [] [] nothing_found us' laid (omega (arith, short)) h.some (omega arith) (ap (λ (r : List ItemView × (Found × Tokens)). r.1.1.left) (sym first) ∙ spent) in
      by_kept (inner_attributes_until (near_parting (part_in edition ts.unended [] w o y)) (near_enters (part_in edition ts.unended [] w o y)) (near_levels (part_in edition ts.unended [] w o y)) ts us first_near)
      (λ g. absurd (calm_left calms g.none)) (λ k. joins calms spent k)

pub joined_whole : (is_top : Bool) (left : ℕ) (edition : EditionYear) (p y : List ℕ) → EndsWhole is_top (suc left) edition p → BeginsAnew edition y → length (p ++ y) < most_tokens → Joined is_top left edition (p ++ y) p y (length p)
joined_whole is_top left edition p y h b short =
    let w = h.ends.before in
    let o = h.ends.last in
    let text_is : p ++ y ≡ w ++ stop o ∷ y = ap (λ z. z ++ y) h.ends.bytes ∙ append_assoc w (stop o ∷ []) y in
    let size : length p ≡ suc (length w) = ap length h.ends.bytes ∙ length-append w (stop o ∷ []) ∙ omega arith in
    subst (λ (z : List ℕ). Joined is_top left edition z p y (length p)) (sym text_is)
    (subst (λ (d : ℕ). Joined is_top left edition (w ++ stop o ∷ y) p y d) (sym size)
    (subst (λ (z : List ℕ). Joined is_top left edition (w ++ stop o ∷ y) z y (suc (length w))) (sym h.ends.bytes)
    (joined is_top left edition w o y h.ends.alone h.ends.ends (subst IsBare h.ends.bytes h.bare) b.bare b (subst (λ (z : List ℕ). length z < most_tokens) text_is short)
    (subst (EndsWhole is_top (suc left) edition) h.ends.bytes h))))

-- ---- the laws

pub inside_join : InsideJoin
inside_join is_top left edition p y h b short = let j = joined_whole is_top left edition p y h b short in record { items = j.items; found = j.found }

found_joined : (edition : EditionYear) (text x y : List ℕ) (d : ℕ) → Joined true 127 edition text x y d → found_in edition x ≡ (read_of edition x).1.0 → found_in edition text ≡ and_all (found_on d (found_in edition y)) (found_in edition x)
unfolding found_in
found_joined edition text x y d j whole =
    ap (λ u. and_problem_at problem.Unterminated u (read_of edition text).1.0) j.unended
    ∙ ap (and_problem_at problem.Unterminated (option_map (λ n. n + d) (read_of edition y).1.1.unended)) j.found
    ∙ unended_join d (read_of edition y).1.1.unended (read_of edition x).1.0 (read_of edition y).1.0
    ∙ ap (and_all (found_on d (and_problem_at problem.Unterminated (read_of edition y).1.1.unended (read_of edition y).1.0))) (sym whole)

pub items_join : ItemsJoin
items_join edition x y h b short =
    let j = joined_whole true 127 edition x y h b short in
    let whole : found_in edition x ≡ (read_of edition x).1.0 =
    subst (λ (z : List ℕ). found_in edition z ≡ (read_of edition z).1.0) (sym h.ends.bytes) (found_whole edition h.ends.before h.ends.last h.ends.alone (subst IsBare h.ends.bytes h.bare)) in
    record { attrs = j.attrs; items = j.items; found = found_joined edition (x ++ y) x y (length x) j whole }
