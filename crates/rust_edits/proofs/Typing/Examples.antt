-- Two small bodies, and a text with the one, by computing.
use Rattle.std.proofs.Common.{◌≡◌, ◌<◌, ◌||◌, ℕ, zero, suc, true, false, Some, None, List, [], ◌∷◌, ◌++◌, length, refl, ap, sym, subst, ◌∙◌, arith}
use Rattle.rust_edits.proofs.Common.{option_to_list, EditionYear, Inner, is_wide_start, is_wide_continue, first_cut, StandsAlone, Piece, tokens, Tokens, tokens_of, symbol, word, text, kind, at, is_empty, is_at_end, is_at_identifier, is_at_doc, is_glued, is_pair, bumped, leads_on, nest_behind, begins_item, begins_impl_or_const, begins_within, stops, ends, is_joined, has_blank, more, taking, excerpt_behind, most_tokens, progress_from, is_behind, is_doc, is_attribute, inner_attributes, modifier, weak_modifier, head, FrontRead, front, implementation, leaf, nothing_found, leaf_turn, finding_from, finding, is_list_end, by_head, inside, turn, depth_of, begins_at, has_body, with_body, OpensAt, IsBody, BeginsPlain, IsTyped, none_loose, loose_in, tokens_at, IsLaid, tokens_laid, through, when, beyond_leads, Span, adds_item, adds_problem_at, adds_use_trees, list_from, turn_found, Rows, found_rows, rest_by, rest_of}
use Rattle.rust_lexer.specs.declared.kind.LiteralKind.TheVariants as literals
use Rattle.rust_lexer.specs.declared.kind.TokenKind.TheVariants as kinds
use Rattle.rust_lexer.specs.Number.{past_digits}
use Rattle.rust_cursor.proofs.TokenPlaces as laid
use Rattle.rust_leaves.specs.declared.head.Head.TheVariants as heads
use Rattle.rust_items.specs.declared.log.ProblemKind.TheVariants as problem
use Rattle.rust_edits.proofs.ItemJoins.Inner.{front_bare, no_inner}
use Rattle.rust_cursor.specs.Looks.{sees}

-- ` 1 `
one : List ℕ
one = 32 ∷ 49 ∷ 32 ∷ []

-- ` "}" // x` and a line feed
two : List ℕ
two = 32 ∷ 34 ∷ 125 ∷ 34 ∷ 32 ∷ 47 ∷ 47 ∷ 32 ∷ 120 ∷ 10 ∷ []

fits_one : StandsAlone one × BeginsPlain one
unfolding one first_cut is_wide_start is_wide_continue past_digits
fits_one = (record { full = refl; begins = refl; ends = refl; matched = refl }, refl)

fits_two : StandsAlone two × BeginsPlain two
unfolding two first_cut is_wide_start is_wide_continue past_digits
fits_two = (record { full = refl; begins = refl; ends = refl; matched = refl }, refl)

-- `#!` alone is no attribute, and `#/**/! [` begins one
hash_plain : BeginsPlain (35 ∷ 33 ∷ [])
unfolding first_cut is_wide_start
hash_plain = refl

not_plain : BeginsPlain (35 ∷ 47 ∷ 42 ∷ 42 ∷ 47 ∷ 33 ∷ 32 ∷ 91 ∷ []) → ⊥
unfolding first_cut is_wide_start
not_plain e = absurd cc

same_loose : loose_in two ≡ loose_in one
unfolding one two first_cut is_wide_start is_wide_continue past_digits
same_loose = refl

-- `({)}`: brackets are counted across braces, and `])(`: the first two close nothing, and the last is open
counted : (loose_in (40 ∷ 123 ∷ 41 ∷ 125 ∷ []) ≡ none_loose) × (loose_in (93 ∷ 41 ∷ 40 ∷ []) ≡ record { closing = 2; opening = 1 })
unfolding first_cut is_wide_start
counted = (refl, refl)

-- ---- a text of which all is so that is asked

-- `impl `
header : List ℕ
header = 105 ∷ 109 ∷ 112 ∷ 108 ∷ 32 ∷ []

impl_word : Piece
impl_word = record { kind = kinds.Ident; text = 105 ∷ 109 ∷ 112 ∷ 108 ∷ []; at = 0 }

-- `{ 1 }`
block : List Piece
block =
    record { kind = kinds.OpenDelim; text = 123 ∷ []; at = 5 } ∷ record { kind = kinds.Literal literals.Int; text = 49 ∷ []; at = 7 }
    ∷ record { kind = kinds.CloseDelim; text = 125 ∷ []; at = 9 } ∷ []

has_first : (n : ℕ) (xs ys : List Span) → has_body n xs ≡ true → has_body n (xs ++ ys) ≡ true
has_first n [] ys e = absurd cc
has_first n (x ∷ xs) ys e = when (begins_at n x.body) (λ t. rw t refl) (λ t. let rest = rw t at e in rw t (has_first n xs ys rest))

module _ (y : EditionYear) where
  all : Tokens
  all = tokens_at y 0 (impl_word ∷ block) None

  behind : Tokens
  behind = tokens_at y 4 block None

  toks : tokens_of y (with_body header one []) ≡ all
  unfolding all impl_word block header one tokens_of tokens first_cut is_wide_start is_wide_continue past_digits
  toks = refl

  plain : sees (is_behind Inner) all ≡ true
  unfolding all impl_word is_behind is_doc is_attribute symbol kind
  plain = refl

  front_is : front all ≡ (record { start = 0; attrs = []; visibility = None; head = heads.Impl }, behind)
  unfolding all impl_word behind is_behind is_doc is_attribute modifier weak_modifier symbol kind word bumped at head
  front_is = front_bare all refl refl refl

  braces_are : (rest_of heads.Impl behind).0.braces ≡ Some (record { start = 5; end = 10 })
  unfolding behind block rest_by excerpt_behind taking stops ends begins_item begins_impl_or_const begins_within is_joined has_blank more nest_behind leads_on symbol word text kind at is_empty is_at_end is_at_identifier is_at_doc is_glued is_pair bumped
  braces_are = refl

  impl_found : has_body 5 (leaf_turn (depth_of 128) (record { start = 0; attrs = []; visibility = None; head = heads.Impl }) nothing_found behind).1.0.spans ≡ true
  unfolding leaf_turn leaf implementation
  impl_found =
      let l = (implementation [] behind).0 in
      let to = (implementation [] behind).1.past in
      ap (has_body 5) (adds_use_trees l.use_trees (adds_problem_at problem.TooDeep l.too_deep (adds_item nothing_found (depth_of 128) 0 to l.body l.kind l.name l.named l.is_ended))).spans
      ∙ ap (λ o. begins_at 5 o || false) braces_are

  some_left : (is_at_end all ≡ false) × (is_list_end true all ≡ false)
  unfolding all impl_word is_at_end is_list_end is_empty
  some_left = (refl, refl)

  turn_finds : has_body 5 (turn 128 nothing_found all).1.0.spans ≡ true
  unfolding turn
  turn_finds = rw some_left.0 (subst (λ (r : FrontRead × Tokens). has_body 5 (by_head (inside 128) (depth_of 128) r.0.head r.0 nothing_found r.1).1.0.spans ≡ true) (sym front_is) impl_found)

  list_finds : (n : ℕ) → 0 < n → has_body 5 (finding_from (is_list_end true) (turn 128) n [] nothing_found all).1.0.spans ≡ true
  list_finds zero h = absurd (omega arith)
  list_finds (suc n) h =
      let end = length (with_body header one []) in
      let whole : IsLaid end all = subst (IsLaid end) toks (tokens_laid y (with_body header one [])) in
      let found = (turn 128 nothing_found all).1.0 in
      let next = progress_from all.past (turn 128 nothing_found all).1.1 in
      let leads = through (turn_found end 128 nothing_found all whole).leads (beyond_leads all.past (turn 128 nothing_found all).1.1) in
      let rest = list_from end (is_list_end true) (turn 128) (turn_found end 128) n ([] ++ option_to_list (turn 128 nothing_found all).0) found next (laid.behind end leads whole).laid in
      rw some_left.1 (ap (has_body 5) rest.found.adds.spans ∙ has_first 5 found.spans _ turn_finds)

  body_is : IsBody y header one []
  unfolding finding most_tokens header
  body_is =
      let x = with_body header one [] in
      ap (λ (r : Rows). has_body 5 r.1.0) (found_rows y x)
      ∙ ap (λ ts. has_body 5 (finding (is_list_end true) (turn 128) nothing_found ts).1.0.spans) (ap (λ ts. (inner_attributes ts).1) toks ∙ ap (λ r. r.1) (no_inner all plain)) ∙ list_finds most_tokens (omega arith)

  impl_opens : OpensAt header (one ++ 125 ∷ [])
  unfolding header one first_cut is_wide_start is_wide_continue past_digits
  impl_opens = record { full = refl; one = refl; plain = refl; unfenced = refl; bare = refl }

  typed : IsTyped y header one two []
  typed = record { opens = impl_opens; body = body_is; alone = fits_one.0; alone_new = fits_two.0; begins = fits_one.1; begins_new = fits_two.1 }
