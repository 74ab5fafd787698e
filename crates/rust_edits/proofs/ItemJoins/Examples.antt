-- Small examples, by computing: a text that ends with its own token, one that ends with a whole item, and one that ends with an item without its end.
use Rattle.std.proofs.Common.{◌||◌, ◌<◌, subst, arith, length, map, ◌++◌, ◌≡◌, ◌==◌, ℕ, suc, true, false, Option, None, List, [], ◌∷◌, codes, refl, sym, ap, ◌∙◌}
use Rattle.rust_edits.proofs.Common.{nest_behind, with_feeds, moved_piece, begins_item, option_to_list, EditionYear, MetaView, ItemView, Inner, semicolon, closing, is_wide_start, is_wide_continue, first_cut, Piece, tokens, most_tokens, progress_from, finding, finding_from, is_list_end, Found, Tokens, tokens_of, symbol, word, text, kind, at, is_empty, is_at_end, bumped, eat, plain_name, is_keyword, is_path_keyword, next_name, name, placed_name, is_behind, is_doc, is_attribute, inner_attributes, modifier, weak_modifier, head, FrontRead, front, written_name, nothing_found, items, by_head, inside, turn, depth_of, behind_attributes, read_of, IsBare, EndsWhole, BeginsAnew, EndsOwn, tokens_at}
use Rattle.hir_input.specs.declared.ast.PlainKind.TheVariants as plain_kind
use Rattle.rust_cursor.specs.Extents.{begins}
use Rattle.rust_cursor.specs.Nests.{flat_behind}
use Rattle.rust_mended.specs.Apart.{StandApart, begin_with_item}
use Rattle.rust_mended.specs.Marks.{marks}
use Rattle.rust_mended.specs.Mended.{closers_reaching}
use Rattle.rust_mended.specs.Texts.{edits, is_matched, mended_text}
use Rattle.rust_edits.specs.ItemJoins.Mended.{StandsInFront, StandsOpen}
use Rattle.rust_edits.specs.ItemJoins.Open.{StandsBefore, nothing_before, open_before, IsOpenItem, end_behind, nest_through, before_rest}
use Rattle.rust_edits.proofs.ItemJoins.Inner.{front_bare, no_inner}
use Rattle.rust_lexer.specs.declared.kind.TokenKind.TheVariants as kinds
use Rattle.rust_leaves.specs.declared.head.Head.TheVariants as heads
use Rattle.rust_cursor.specs.Looks.{sees}

-- the `;` of `mod b;` is its own
module_ends : EndsOwn (codes "mod b;")
unfolding first_cut is_wide_start is_wide_continue
module_ends = record { before = codes "mod b"; last = semicolon; bytes = refl; ends = refl; alone = record { full = refl; ends = refl } }

-- and so is the last `}` of `fn f() { "}" }`
function_ends : EndsOwn (codes "fn f() { \"}\" }")
unfolding first_cut is_wide_start is_wide_continue
function_ends = record { before = codes "fn f() { \"}\" "; last = closing; bytes = refl; ends = refl; alone = record { full = refl; ends = refl } }

-- ---- what is read of one item

most_is : most_tokens ≡ suc (suc 18446744073709551613)
unfolding most_tokens
most_is = refl

one_from : (k : ℕ) (f : Found) (us : Tokens) → is_empty us ≡ false → (turn 128 f us).1.1.left ≡ [] → ((turn 128 f us).1.1.past == us.past) ≡ false
    → finding_from (is_list_end true) (turn 128) (suc (suc k)) [] f us ≡ (option_to_list (turn 128 f us).0, ((turn 128 f us).1.0, (turn 128 f us).1.1))
unfolding is_list_end progress_from is_empty
one_from k f us some none far = rw (some, far, none) refl

one_item : (f : Found) (us : Tokens) → is_empty us ≡ false → (turn 128 f us).1.1.left ≡ [] → ((turn 128 f us).1.1.past == us.past) ≡ false
    → items true 128 f us ≡ (option_to_list (turn 128 f us).0, ((turn 128 f us).1.0, (turn 128 f us).1.1))
unfolding finding
one_item f us some none far = ap (λ k. finding_from (is_list_end true) (turn 128) k [] f us) most_is ∙ one_from 18446744073709551613 f us some none far

-- ---- a text that ends with a whole item, and may stand behind another

pub mod_b : List ℕ
mod_b = codes "mod b;"

-- `mod`, in front of these
unfoldable mod_word : Piece
mod_word = record { kind = kinds.Ident; text = codes "mod"; at = 0 }

abbrev is_module : FrontRead
is_module = record { start = 0; attrs = []; visibility = None; head = heads.Module }

module _ (y : EditionYear) (left : List Piece) where
  unfoldable all : Tokens
  all = tokens_at y 0 (mod_word ∷ left) None

  unfoldable behind : Tokens
  behind = tokens_at y 3 left None

  not_inner : sees (is_behind Inner) all ≡ true
  unfolding all mod_word is_behind is_doc is_attribute symbol kind
  not_inner = refl

  front_is : front all ≡ (is_module, behind)
  unfolding all mod_word behind is_behind is_doc is_attribute modifier weak_modifier symbol kind word bumped at head
  front_is = front_bare all refl refl refl

  not_ended : is_at_end all ≡ false
  unfolding all mod_word is_at_end
  not_ended = refl

  some_left : is_empty all ≡ false
  unfolding all mod_word is_empty
  some_left = refl

  starts : all.past ≡ 0
  unfolding all
  starts = refl

-- `b;`
name_and_end : List Piece
name_and_end = record { kind = kinds.Ident; text = codes "b"; at = 4 } ∷ record { kind = kinds.Punct; text = codes ";"; at = 5 } ∷ []

bare : IsBare mod_b
unfolding mod_b first_cut is_wide_start is_wide_continue
bare = record { mark = refl; shebang = refl; fence = refl }

module _ (y : EditionYear) where
  abbrev module_b : Tokens
  module_b = all y name_and_end

  abbrev behind_mod : Tokens
  behind_mod = behind y name_and_end

  toks : tokens_of y mod_b ≡ module_b
  unfolding all mod_b mod_word name_and_end tokens_of tokens first_cut is_wide_start is_wide_continue
  toks = refl

  -- what is read of an item here
  abbrev read : FrontRead × Tokens → Option ItemView × (Found × Tokens)
  read r = by_head (inside 128) (depth_of 128) r.0.head r.0 nothing_found r.1

  is_turn : turn 128 nothing_found module_b ≡ read (is_module, behind_mod)
  unfolding turn
  is_turn = rw (not_ended y name_and_end) (ap read (front_is y name_and_end))

  -- it is all of the text, and no problem is told
  spent : ((read (is_module, behind_mod)).1.1.left ≡ []) × ((((read (is_module, behind_mod)).1.1.past == 0) ≡ false) × ((read (is_module, behind_mod)).1.0.problems ≡ []))
  unfolding behind name_and_end written_name placed_name name next_name plain_name is_keyword is_path_keyword kind text at eat symbol bumped
  spent = (refl, (refl, refl))

  all_read : read_of y mod_b ≡ (option_to_list (turn 128 nothing_found module_b).0, ((turn 128 nothing_found module_b).1.0, (turn 128 nothing_found module_b).1.1))
  all_read =
      ap (λ (t : Tokens). items true 128 nothing_found (inner_attributes t).1) toks ∙ ap (λ (p : List MetaView × Tokens). items true 128 nothing_found p.1) (no_inner module_b (not_inner y name_and_end))
      ∙ one_item nothing_found module_b (some_left y name_and_end) (ap (λ (r : Option ItemView × (Found × Tokens)). r.1.1.left) is_turn ∙ spent.0)
      (ap (λ (r : Option ItemView × (Found × Tokens)). r.1.1.past == module_b.past) is_turn ∙ ap (λ n. (read (is_module, behind_mod)).1.1.past == n) (starts y name_and_end) ∙ spent.1.0)

  some_there : (behind_attributes y mod_b).left ≡ [] → ⊥
  unfolding all
  some_there e = absurd (let same = ap (λ (p : List MetaView × Tokens). p.1.left) (sym (ap inner_attributes toks ∙ no_inner module_b (not_inner y name_and_end))) ∙ e in cc)

  -- `mod b;` is a whole item
  pub holds : EndsWhole true 128 y mod_b
  unfolding mod_b
  holds = record {
    bare = bare;
    ends = module_ends;
    turns = 0;
    some = some_there;
    sound = ap (λ (r : List ItemView × (Found × Tokens)). r.1.0.problems) all_read ∙ ap (λ (r : Option ItemView × (Found × Tokens)). r.1.0.problems) is_turn ∙ spent.1.1;
    spent = λ e. absurd cc;
  }

-- ---- an item without its end, in front of a module

pub fn_f : List ℕ
fn_f = codes "fn f()"

pub behind_line : List ℕ
behind_line = codes "\nmod b;"

-- `f()`, and the module behind it
unfoldable f_and_module : List Piece
f_and_module =
    record { kind = kinds.Ident; text = codes "f"; at = 3 } ∷ record { kind = kinds.OpenDelim; text = codes "("; at = 4 } ∷ record { kind = kinds.CloseDelim; text = codes ")"; at = 5 }
    ∷ record { kind = kinds.Ident; text = codes "mod"; at = 7 } ∷ record { kind = kinds.Ident; text = codes "b"; at = 11 } ∷ record { kind = kinds.Punct; text = codes ";"; at = 12 } ∷ []

module _ (y : EditionYear) where
  unfoldable from_fn : Tokens
  from_fn = tokens_at y 0 (record { kind = kinds.Ident; text = codes "fn"; at = 0 } ∷ f_and_module) None

  unfoldable from_f : Tokens
  from_f = tokens_at y 2 f_and_module None

  both_are : tokens_of y (fn_f ++ behind_line) ≡ from_fn
  unfolding from_fn f_and_module fn_f behind_line tokens_of tokens first_cut is_wide_start is_wide_continue
  both_are = refl

  front_fn : front from_fn ≡ (record { start = 0; attrs = []; visibility = None; head = heads.Plain plain_kind.Fn }, from_f)
  unfolding from_fn from_f is_behind is_doc is_attribute modifier weak_modifier symbol kind word bumped at head
  front_fn = front_bare from_fn refl refl refl

  parted : tokens (fn_f ++ behind_line) ≡ tokens fn_f ++ map (moved_piece (length fn_f)) (tokens behind_line)
  unfolding fn_f behind_line tokens first_cut is_wide_start is_wide_continue
  parted = refl

  ends_there : end_behind 0 (tokens_of y fn_f).left ≡ length fn_f
  unfolding fn_f tokens_of tokens first_cut is_wide_start is_wide_continue
  ends_there = refl

  module_outer : sees (is_behind Inner) (tokens_of y behind_line) ≡ true
  unfolding behind_line tokens_of tokens first_cut is_wide_start is_wide_continue is_behind is_doc is_attribute symbol kind
  module_outer = refl

  fn_outer : sees (is_behind Inner) from_fn ≡ true
  unfolding from_fn is_behind is_doc is_attribute symbol kind
  fn_outer = refl

  fn_item : is_at_end from_fn ≡ false
  unfolding from_fn is_at_end
  fn_item = refl

  behind_f : (written_name from_f).1.left ≡ record { kind = kinds.OpenDelim; text = codes "("; at = 4 } ∷ record { kind = kinds.CloseDelim; text = codes ")"; at = 5 } ∷ map (moved_piece (length fn_f)) (tokens_of y behind_line).left
  unfolding from_f f_and_module fn_f behind_line tokens_of tokens first_cut is_wide_start is_wide_continue written_name placed_name name next_name plain_name is_keyword is_path_keyword kind text at bumped
  behind_f = refl

  module_some : is_empty (tokens_of y behind_line) ≡ false
  unfolding behind_line tokens_of tokens first_cut is_wide_start is_wide_continue is_empty
  module_some = refl

  module_plain : (symbol (tokens_of y behind_line) == 59 || symbol (tokens_of y behind_line) == 123) ≡ false
  unfolding behind_line tokens_of tokens first_cut is_wide_start is_wide_continue symbol
  module_plain = refl

  -- behind its brackets the module begins
  module_begins : begins (nest_through 2 (flat_behind (before_rest (heads.Plain plain_kind.Fn))) (written_name from_f).1) (tokens_of y behind_line) ≡ true
  unfolding from_f f_and_module behind_line tokens_of tokens first_cut is_wide_start is_wide_continue written_name placed_name name next_name plain_name is_keyword is_path_keyword kind text at bumped nest_behind begins_item word symbol
  module_begins = refl

  -- `fn f()` goes on to the end of its line
  pub is_open : IsOpenItem y fn_f behind_line
  is_open = record {
    parted = parted;
    ends = ends_there;
    outer = ap (sees (is_behind Inner)) both_are ∙ fn_outer;
    item = ap is_at_end both_are ∙ fn_item;
    head = heads.Plain plain_kind.Fn;
    is_head = ap (λ (t : Tokens). (front t).0.head) both_are ∙ ap (λ (r : FrontRead × Tokens). r.0.head) front_fn;
    rest = record { kind = kinds.OpenDelim; text = codes "("; at = 4 } ∷ record { kind = kinds.CloseDelim; text = codes ")"; at = 5 } ∷ [];
    left = ap (λ (t : Tokens). (written_name (front t).1).1.left) both_are ∙ ap (λ (r : FrontRead × Tokens). (written_name r.1).1.left) front_fn ∙ behind_f;
    reaches = refl;
    some = module_some;
    begins = ap (λ (t : Tokens). begins (nest_through 2 (flat_behind (before_rest (heads.Plain plain_kind.Fn))) (written_name (front t).1).1) (tokens_of y behind_line)) both_are
        ∙ ap (λ (r : FrontRead × Tokens). begins (nest_through 2 (flat_behind (before_rest (heads.Plain plain_kind.Fn))) (written_name r.1).1) (tokens_of y behind_line)) front_fn ∙ module_begins;
    outer_behind = module_outer;
    plain = module_plain;
  }

-- ---- texts whose brackets are mended

-- a function that is not closed
pub damaged : List ℕ
damaged = codes "fn f() {"

damaged_mended : mended_text damaged ≡ codes "fn f() {}"
unfolding damaged mended_text edits tokens first_cut is_wide_start is_wide_continue
damaged_mended = refl

matched : is_matched mod_b ≡ true
unfolding mod_b is_matched tokens first_cut is_wide_start is_wide_continue
matched = refl

before_damage : StandApart mod_b [] damaged
unfolding mod_b damaged tokens first_cut is_wide_start is_wide_continue
before_damage = record { blanks = refl; ends = refl; bare = refl; uncut = refl }

-- parameters that are not closed
pub cut_off : List ℕ
cut_off = codes "fn f("

cut_mended : mended_text cut_off ≡ fn_f
unfolding cut_off fn_f mended_text edits tokens first_cut is_wide_start is_wide_continue
cut_mended = refl

behind_damage : StandApart cut_off [] mod_b
unfolding cut_off mod_b tokens first_cut is_wide_start is_wide_continue
behind_damage = record { blanks = refl; ends = refl; bare = refl; uncut = refl }

module _ (y : EditionYear) where
  mod_feeds : with_feeds (mended_text mod_b) ≡ mod_b
  unfolding mod_b mended_text edits tokens first_cut is_wide_start is_wide_continue
  mod_feeds = refl

  line_feeds : with_feeds ([] ++ 10 ∷ mended_text damaged) ≡ codes "\nfn f() {}"
  unfolding damaged mended_text edits tokens first_cut is_wide_start is_wide_continue
  line_feeds = refl

  line_anew : BeginsAnew y (codes "\nfn f() {}")
  unfolding tokens_of tokens first_cut is_wide_start is_wide_continue is_behind is_doc is_attribute symbol kind
  line_anew = record { bare = record { mark = refl; shebang = refl; fence = refl }; uncut = refl; outer = refl; still = refl }

  in_front_short : length (with_feeds (mended_text mod_b ++ ([] ++ 10 ∷ mended_text damaged))) < most_tokens
  unfolding mod_b damaged mended_text edits tokens first_cut is_wide_start is_wide_continue most_tokens
  in_front_short = omega arith

  -- `mod b;` stands in front of the damage
  pub in_front : StandsInFront y mod_b [] damaged
  in_front = record { apart = before_damage; whole = subst (EndsWhole true 128 y) (sym mod_feeds) (holds y); anew = subst (BeginsAnew y) (sym line_feeds) line_anew; short = in_front_short }

  line_is : with_feeds ([] ++ 10 ∷ mended_text mod_b) ≡ behind_line
  unfolding behind_line mod_b mended_text edits tokens first_cut is_wide_start is_wide_continue
  line_is = refl

  open_feeds : with_feeds (mended_text cut_off ++ ([] ++ 10 ∷ mended_text mod_b)) ≡ with_feeds (mended_text cut_off) ++ with_feeds ([] ++ 10 ∷ mended_text mod_b)
  unfolding cut_off mod_b mended_text edits tokens first_cut is_wide_start is_wide_continue
  open_feeds = refl

  item_is : with_feeds (mended_text cut_off) ≡ fn_f
  unfolding cut_off fn_f mended_text edits tokens first_cut is_wide_start is_wide_continue
  item_is = refl

  open_short : length (with_feeds (mended_text cut_off ++ ([] ++ 10 ∷ mended_text mod_b))) < most_tokens
  unfolding cut_off mod_b mended_text edits tokens first_cut is_wide_start is_wide_continue most_tokens
  open_short = omega arith

  alone_before : StandsBefore y fn_f behind_line
  alone_before = open_before [] fn_f behind_line (nothing_before (fn_f ++ behind_line)) (is_open y)

  -- and behind a function of which the parameters are not closed
  pub behind_it : StandsOpen y cut_off [] mod_b
  behind_it = record {
    apart = behind_damage;
    feeds = open_feeds;
    before = subst (λ (t : List ℕ). StandsBefore y t (with_feeds ([] ++ 10 ∷ mended_text mod_b))) (sym item_is) (subst (StandsBefore y fn_f) (sym line_is) alone_before);
    short = open_short;
  }

-- ---- a text that ends with a whole item only when it is mended, in front of a module

-- a module with a closer in it that closes nothing
pub loose_mod : List ℕ
loose_mod = codes "mod ) b;"

pub blank_mod : List ℕ
blank_mod = codes "mod   b;"

loose_mended : with_feeds (mended_text loose_mod) ≡ blank_mod
unfolding loose_mod blank_mod mended_text edits tokens first_cut is_wide_start is_wide_continue
loose_mended = refl

unmatched : is_matched loose_mod ≡ false
unfolding loose_mod is_matched tokens first_cut is_wide_start is_wide_continue
unmatched = refl

blank_ends : EndsOwn (codes "mod   b;")
unfolding first_cut is_wide_start is_wide_continue
blank_ends = record { before = codes "mod   b"; last = semicolon; bytes = refl; ends = refl; alone = record { full = refl; ends = refl } }

-- `b;`, further on
name_further_on : List Piece
name_further_on = record { kind = kinds.Ident; text = codes "b"; at = 6 } ∷ record { kind = kinds.Punct; text = codes ";"; at = 7 } ∷ []

blank_bare : IsBare blank_mod
unfolding blank_mod first_cut is_wide_start is_wide_continue
blank_bare = record { mark = refl; shebang = refl; fence = refl }

loose_apart : StandApart loose_mod [] mod_b
unfolding loose_mod mod_b tokens first_cut is_wide_start is_wide_continue
loose_apart = record { blanks = refl; ends = refl; bare = refl; uncut = refl }

item_next : begin_with_item (marks mod_b) ≡ true
unfolding mod_b tokens first_cut is_wide_start is_wide_continue
item_next = refl

none_too_many : closers_reaching (marks mod_b) ≡ []
unfolding mod_b tokens first_cut is_wide_start is_wide_continue
none_too_many = refl

module _ (y : EditionYear) where
  abbrev blank_all : Tokens
  blank_all = all y name_further_on

  abbrev blank_behind : Tokens
  blank_behind = behind y name_further_on

  blank_toks : tokens_of y blank_mod ≡ blank_all
  unfolding all blank_mod mod_word name_further_on tokens_of tokens first_cut is_wide_start is_wide_continue
  blank_toks = refl

  blank_turn : turn 128 nothing_found blank_all ≡ read y (is_module, blank_behind)
  unfolding turn
  blank_turn = rw (not_ended y name_further_on) (ap (read y) (front_is y name_further_on))

  blank_spent : ((read y (is_module, blank_behind)).1.1.left ≡ []) × ((((read y (is_module, blank_behind)).1.1.past == 0) ≡ false) × ((read y (is_module, blank_behind)).1.0.problems ≡ []))
  unfolding behind name_further_on written_name placed_name name next_name plain_name is_keyword is_path_keyword kind text at eat symbol bumped
  blank_spent = (refl, (refl, refl))

  blank_read : read_of y blank_mod ≡ (option_to_list (turn 128 nothing_found blank_all).0, ((turn 128 nothing_found blank_all).1.0, (turn 128 nothing_found blank_all).1.1))
  blank_read =
      ap (λ (t : Tokens). items true 128 nothing_found (inner_attributes t).1) blank_toks ∙ ap (λ (p : List MetaView × Tokens). items true 128 nothing_found p.1) (no_inner blank_all (not_inner y name_further_on))
      ∙ one_item nothing_found blank_all (some_left y name_further_on) (ap (λ (r : Option ItemView × (Found × Tokens)). r.1.1.left) blank_turn ∙ blank_spent.0)
      (ap (λ (r : Option ItemView × (Found × Tokens)). r.1.1.past == blank_all.past) blank_turn ∙ ap (λ n. (read y (is_module, blank_behind)).1.1.past == n) (starts y name_further_on) ∙ blank_spent.1.0)

  blank_some : (behind_attributes y blank_mod).left ≡ [] → ⊥
  unfolding all
  blank_some e = absurd (let same = ap (λ (p : List MetaView × Tokens). p.1.left) (sym (ap inner_attributes blank_toks ∙ no_inner blank_all (not_inner y name_further_on))) ∙ e in cc)

  blank_holds : EndsWhole true 128 y blank_mod
  unfolding blank_mod
  blank_holds = record {
    bare = blank_bare;
    ends = blank_ends;
    turns = 0;
    some = blank_some;
    sound = ap (λ (r : List ItemView × (Found × Tokens)). r.1.0.problems) blank_read ∙ ap (λ (r : Option ItemView × (Found × Tokens)). r.1.0.problems) blank_turn ∙ blank_spent.1.1;
    spent = λ e. absurd cc;
  }

  module_anew : BeginsAnew y behind_line
  unfolding behind_line tokens_of tokens first_cut is_wide_start is_wide_continue is_behind is_doc is_attribute symbol kind
  module_anew = record { bare = record { mark = refl; shebang = refl; fence = refl }; uncut = refl; outer = refl; still = refl }

  loose_short : length (with_feeds (mended_text loose_mod ++ ([] ++ 10 ∷ mended_text mod_b))) < most_tokens
  unfolding loose_mod mod_b mended_text edits tokens first_cut is_wide_start is_wide_continue most_tokens
  loose_short = omega arith

  pub loose_in_front : StandsInFront y loose_mod [] mod_b
  loose_in_front = record { apart = loose_apart; whole = subst (EndsWhole true 128 y) (sym loose_mended) blank_holds; anew = subst (BeginsAnew y) (sym (line_is y)) module_anew; short = loose_short }
