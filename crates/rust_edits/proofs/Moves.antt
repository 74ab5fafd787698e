-- An edit inside a body moves what is read.
use Rattle.std.proofs.Common.{◌≡◌, ◌≤◌, ◌<◌, ◌+◌, ◌-◌, ◌^◌, ◌&&◌, ℕ, true, false, Option, List, [], ◌∷◌, length, refl, ap, sym, subst, ◌∙◌, map, arith, ◌==◌, ◌||◌, Bool, suc, ◌++◌, take, drop, IsUtf8, append_assoc, length-append}
use Rattle.rust_edits.proofs.Common.{All, nat_le, option_map, list_all, EditionYear, FileAstId, TextRange, Problem, with_feeds, place_in, moved_problem, moved_range, moved_span, FileView, places, IsFile, with_body, IsTyped, close_at, has_place, has_range, has_some_range, has_item, has_problem, HasPlaces, not, slice_index, TokenKind, is_fence, is_wide_start, first_cut, symbol_from, has_mark, is_shebang, tokens_from, begins_bare, ItemPlace, IsFileView, has_body_at, IsBody, loose_in, place_after_edit, shifted_by, moved_place, edited_text, shifted_place, Shifts, ReadsMoved, PlacesAreKept, in_braces, is_alone, loose_inside, same_loose, AreCut, IsShift, common_steps, nat_tests, All-head, All-tail, le-leb, and_from, close_some, AreAlike, no_more, one_more, IsAlike, neither, both, unmoved, moves, SameRange, before, place_le, place_rises_in, place_within, SpanAlike, IsIn, IsMaybeIn, AreIn, spans_in, and_parts, eqb-true, not-true, when, take_at, drop_at, IsUtf8-append, Shift, Parts}
use Rattle.rust_edits.proofs.Typing.ProblemPlaces.{both_told, problems_move}
use Rattle.rust_edits.proofs.Typing.MovedItems.{uses_within, is_read_anew, places_move, body_is_told}
use Rattle.rust_edits.proofs.Typing.ProblemsAlike.{ProblemAlike}
use Rattle.rust_edits.proofs.Typing.ProblemsIn.{problems_in}
use Rattle.rust_edits.proofs.Typing.Returns.{feeds_body, body_length, place_high, place_open}
use Rattle.rust_edits.proofs.Typing.Texts.{IsMoved}
use Rattle.rust_edits.proofs.Typing.Typing.{both_read, typing_inside}
use Rattle.rust_edits.proofs.Typing.WholeCharacters.{feeds_full}
use Rattle.rust_edits.proofs.Typing.BodyStarts.{body_opens}
use Rattle.rust_edits.proofs.StandingAlone.{alone_is, loose_is}
use Rattle.rust_edits.proofs.Steps.{same_is, same_of}
use Rattle.rust_edits.proofs.Typing.ProblemsIn as within

-- ---- what was read of a text has places in the text with an edit in a body

has_low : (s : Shift) (at : ℕ) → at ≤ s.opening → has_place s at ≡ true
has_low s at h = let e : nat_le at s.opening ≡ true = le-leb at s.opening h in rw e refl

has_high : (s : Shift) (at : ℕ) → s.opening < at → s.closing ≤ at → s.closing_new + (at - s.closing) < 2 ^ 64 → has_place s at ≡ true
has_high s at a b c = grind (arith, nat_tests)

module _ (q m m' s : List ℕ) (shift : Shift) (opening : shift.opening ≡ length q) (closing : shift.closing ≡ close_at q m) (closing_new : shift.closing_new ≡ close_at q m') (short : length (with_body q m' s) < 2 ^ 64) where
  abbrev x : List ℕ
  x = with_body (with_feeds q) (with_feeds m) (with_feeds s)

  abbrev place : ℕ → ℕ
  place = place_in (with_body q m s)

  abbrev Same : ℕ → ℕ → Type 0
  Same = IsMoved (with_feeds q) (with_feeds m) (with_feeds m') (with_feeds s)

  -- in the text as it is
  long : length x ≡ length (with_feeds (with_body q m s))
  long = ap length (sym (feeds_body q m s))

  rising : (n k : ℕ) → n ≤ k → k ≤ length x → place n ≤ place k
  rising n k h l = place_le place (length (with_feeds (with_body q m s))) (place_rises_in (with_body q m s)) n k h (omega (arith, long, l))

  low : (n : ℕ) → n ≤ length (with_feeds q) → place n ≤ length q
  low n h =
      let all = body_length (with_feeds q) (with_feeds m) (with_feeds s) in
      let below = rising n (length (with_feeds q)) h (omega (arith, all)) in
      let begins = place_open q m s in
      omega (arith, below, begins)

  top : (n : ℕ) → n ≤ length x → place n ≤ length (with_body q m s)
  top n l =
      let below = rising n (length x) l (omega arith) in
      let end = place_within (with_body q m s) in
      let same : place (length x) ≡ place (length (with_feeds (with_body q m s))) = ap place long in
      omega (arith, below, end, same)

  -- whatever was typed
  place_kept : (w : List ℕ) (n k : ℕ) → n ≤ length x → IsMoved (with_feeds q) (with_feeds m) w (with_feeds s) n k → has_place shift (place n) ≡ true
  place_kept w n k l (unmoved i e) = let here = low n i in has_low shift (place n) (omega (arith, here, opening))
  place_kept w n k l (moves c some e f) =
      let first = close_some (with_feeds s) in
      let all = body_length (with_feeds q) (with_feeds m) (with_feeds s) in
      let old = body_length q m s in
      let new = body_length q m' s in
      let high : place n ≡ close_at q m + (c + before c 1 s) = ap place e ∙ place_high q m s c (omega (arith, first, some)) (omega (arith, e, all, l)) in
      let below = top n l in
      has_high shift (place n) (omega (arith, high, opening)) (omega (arith, high, closing)) (omega (arith, below, high, closing, closing_new, old, new, short))

  range_kept : (r t : TextRange) → IsIn (length x) r → SameRange Same r t → has_range shift (moved_range place r) ≡ true
  range_kept r t l h = and_from (has_place shift (place r.start)) (has_place shift (place r.end)) (place_kept (with_feeds m') r.start t.start l.0 h.start) (place_kept (with_feeds m') r.end t.end l.1 h.end)

  maybe_kept : (o p : Option TextRange) → IsMaybeIn (length x) o → IsAlike (SameRange Same) o p → has_some_range shift (option_map (moved_range place) o) ≡ true
  maybe_kept o p l neither = refl
  maybe_kept o p l (both {x = r} {y = t} h) = range_kept r t l h

  span_kept : (a t : _) → SpanAlike Same a t → IsIn (length x) a.range × (IsMaybeIn (length x) a.name × IsMaybeIn (length x) a.body)
      → (has_range shift (moved_range place a.range) && (has_some_range shift (option_map (moved_range place) a.name) && has_some_range shift (option_map (moved_range place) a.body))) ≡ true
  span_kept a t h l =
      and_from (has_range shift (moved_range place a.range)) (has_some_range shift (option_map (moved_range place) a.name) && has_some_range shift (option_map (moved_range place) a.body)) (range_kept a.range t.range l.0 h.range)
      (and_from (has_some_range shift (option_map (moved_range place) a.name)) (has_some_range shift (option_map (moved_range place) a.body)) (maybe_kept a.name t.name l.1.0 h.name) (maybe_kept a.body t.body l.1.1 h.body))

  items_kept : (ids : List FileAstId) {ss ts : List _} → AreIn (length x) ss → AreAlike (SpanAlike Same) ss ts → list_all (has_item shift) (places ids (map (moved_span place) ss)) ≡ true
  items_kept [] l a = refl
  items_kept (id ∷ ids) l no_more = refl
  items_kept (id ∷ ids) l (one_more {x = a} {y = t} {xs = ss} {ys = ts} h k) =
      and_from (has_range shift (moved_range place a.range) && (has_some_range shift (option_map (moved_range place) a.name) && has_some_range shift (option_map (moved_range place) a.body)))
      (list_all (has_item shift) (places ids (map (moved_span place) ss))) (span_kept a t h l.0) (items_kept ids l.1 k)

  starts_kept : {ns ts : List ℕ} → All (λ n. n ≤ length x) ns → AreAlike Same ns ts → list_all (has_place shift) (map place ns) ≡ true
  starts_kept l no_more = refl
  starts_kept l (one_more {x = n} {y = k} {xs = ns} {ys = ts} h r) =
      and_from (has_place shift (place n)) (list_all (has_place shift) (map place ns)) (place_kept (with_feeds m') n k (All-head (λ i. i ≤ length x) n ns l) h) (starts_kept (All-tail (λ i. i ≤ length x) n ns l) r)

  problems_kept : {ps rs : List Problem} → within.AreIn (length x) ps → AreAlike (ProblemAlike (IsMoved (with_feeds q) (with_feeds m) (with_feeds m) (with_feeds s))) ps rs → list_all (has_problem shift) (map (moved_problem place) ps) ≡ true
  problems_kept l no_more = refl
  problems_kept l (one_more {x = p} {y = r} {xs = ps} {ys = rs} h k) =
      and_from (has_place shift (place p.at)) (list_all (has_problem shift) (map (moved_problem place) ps)) (place_kept (with_feeds m) p.at r.at l.0 h.place) (problems_kept l.1 k)

  -- the text as it was is one in which the same was typed
  unedited : (edition : EditionYear) → IsTyped edition (with_feeds q) (with_feeds m) (with_feeds m') (with_feeds s) → IsTyped edition (with_feeds q) (with_feeds m) (with_feeds m) (with_feeds s)
  unedited edition t = record { opens = t.opens; body = t.body; alone = t.alone; alone_new = t.alone; begins = t.begins; begins_new = t.begins }

  pub read_kept : (edition : EditionYear) (read : FileView) → IsTyped edition (with_feeds q) (with_feeds m) (with_feeds m') (with_feeds s) → IsFile edition (with_feeds (with_body q m s)) (place_in (with_body q m s)) read → HasPlaces shift read
  read_kept edition read t f =
      let f' = subst (λ (z : List ℕ). IsFile edition z place read) (feeds_body q m s) f in
      let r = both_read edition (with_feeds q) (with_feeds m) (with_feeds m') (with_feeds s) t in
      record {
        items = ap (list_all (has_item shift)) f'.places ∙ items_kept f'.ids (spans_in edition x) r.found.spans;
        use_trees = ap (list_all (has_place shift)) f'.use_trees ∙ starts_kept (uses_within edition x) r.found.use_trees;
        problems = ap (list_all (has_problem shift)) f'.problems ∙ problems_kept (problems_in edition x) (both_told edition (with_feeds q) (with_feeds m) (with_feeds m) (with_feeds s) (unedited edition t) refl);
      }

-- ---- what was found to begin with nothing that stands in front of a text alone does not

-- neither a byte order mark, frontmatter nor a shebang line
abbrev pub IsBare : List ℕ → Type 0
IsBare z = (has_mark z ≡ false) × ((is_fence z ≡ false) × (is_shebang (tokens_from 0 0 z) ≡ false))

other_symbol : (k : TokenKind) (b : ℕ) → (b == 35) ≡ false → (symbol_from k b == 35) ≡ false
other_symbol k b e = grind (arith, nat_tests)

-- an attribute
bare_attribute : (z : List ℕ) → IsBare (35 ∷ 91 ∷ z) × IsBare (35 ∷ 33 ∷ 91 ∷ z)
unfolding first_cut is_wide_start
bare_attribute z = ((refl, (refl, refl)), (refl, (refl, refl)))

bare_other : (b : ℕ) (z : List ℕ) → (b == 35) ≡ false → (b == 45) ≡ false → (b == 10) ≡ false → (b == 13) ≡ false → (b == 239) ≡ false → IsBare (b ∷ z)
bare_other b z hash dash feed back mark =
    let s = other_symbol (first_cut b z).kind b hash in
    (rw mark refl, (rw (feed, back, dash) refl, rw s refl))

hash_is : (z : List ℕ) → (slice_index z 0 == 91 || (slice_index z 0 == 33 && slice_index z 1 == 91)) ≡ true → IsBare (with_feeds (35 ∷ z))
hash_is [] e = absurd cc
hash_is (c ∷ z) e =
    when (c == 91) (λ h. subst (λ (k : ℕ). IsBare (with_feeds (35 ∷ k ∷ z))) (sym (eqb-true c 91 h)) (bare_attribute (with_feeds z)).0)
    (λ h. behind c z (and_parts (c == 33) (slice_index z 0 == 91) (rw h at e)))
  where
    behind : (c : ℕ) (z : List ℕ) → ((c == 33) ≡ true) × ((slice_index z 0 == 91) ≡ true) → IsBare (with_feeds (35 ∷ c ∷ z))
    behind c [] p = absurd (let no = p.1 in cc)
    behind c (d ∷ z) p =
        subst (λ (k : ℕ). IsBare (with_feeds (35 ∷ k ∷ d ∷ z))) (sym (eqb-true c 33 p.0))
        (subst (λ (k : ℕ). IsBare (with_feeds (35 ∷ 33 ∷ k ∷ z))) (sym (eqb-true d 91 p.1)) (bare_attribute (with_feeds z)).1)

off : (s t : Bool) → not (s || t) ≡ true → (s ≡ false) × (not t ≡ true)
off s t e = grind (arith, nat_tests)

pub bare_is : (z : List ℕ) → begins_bare z ≡ true → IsBare (with_feeds z)
bare_is [] e = (refl, (refl, refl))
bare_is (b ∷ z) e =
    when (b == 35)
    (λ h. subst (λ (k : ℕ). IsBare (with_feeds (k ∷ z))) (sym (eqb-true b 35 h)) (hash_is z (rw h at e)))
    (λ h. let rest : not (b == 45 || (b == 10 || (b == 13 || b == 239))) ≡ true = rw h at e in
    let dash = off (b == 45) (b == 10 || (b == 13 || b == 239)) rest in
    let feed = off (b == 10) (b == 13 || b == 239) dash.1 in
    let back = off (b == 13) (b == 239) feed.1 in
    rw back.0 (bare_other b (with_feeds z) h dash.0 feed.0 back.0 (not-true (b == 239) back.1)))

-- ---- the texts

body_is : (q a b c s : List ℕ) → q ++ 123 ∷ (a ++ (b ++ (c ++ 125 ∷ s))) ≡ with_body q (a ++ (b ++ c)) s
body_is q a b c s = ap (λ (l : List ℕ). q ++ 123 ∷ l) (ap (λ (l : List ℕ). a ++ l) (sym (append_assoc b c (125 ∷ s))) ∙ sym (append_assoc a (b ++ c) (125 ∷ s)))

edited_is : (old q a b c s : List ℕ) (range : TextRange) (typed : List ℕ) → old ≡ q ++ 123 ∷ (a ++ (b ++ (c ++ 125 ∷ s))) → suc (length q) + length a ≡ range.start → range.start + length b ≡ range.end
    → edited_text old range typed ≡ with_body q (a ++ (typed ++ c)) s
edited_is old q a b c s range typed whole starts ends =
    let front = q ++ 123 ∷ a in
    let back = c ++ 125 ∷ s in
    let first : old ≡ front ++ (b ++ back) = whole ∙ sym (append_assoc q (123 ∷ a) (b ++ back)) in
    let second : old ≡ (front ++ b) ++ back = first ∙ sym (append_assoc front b back) in
    let long = length-append q (123 ∷ a) in
    let longer = length-append front b in
    ap (λ (l : List ℕ). l ++ (typed ++ drop range.end old)) (ap (take range.start) first ∙ take_at front (b ++ back) range.start (omega (arith, long, starts)))
    ∙ ap (λ (l : List ℕ). front ++ (typed ++ l)) (ap (drop range.end) second ∙ drop_at (front ++ b) back range.end (omega (arith, long, longer, starts, ends)))
    ∙ append_assoc q (123 ∷ a) (typed ++ back)
    ∙ body_is q a typed c s

-- ---- the shift

shift_is : (s : Shift) (i j k : ℕ) → s.opening ≡ i → s.closing ≡ j → s.closing_new ≡ k → shifted_place s ≡ place_after_edit i j k
shift_is s i j k e f g = ap (λ (n : ℕ). place_after_edit n s.closing s.closing_new) e ∙ ap (λ (n : ℕ). place_after_edit i n s.closing_new) f ∙ ap (λ (n : ℕ). place_after_edit i j n) g

-- ---- an edit

module _ (old typed : List ℕ) (items : List ItemPlace) (body range : TextRange) (p : Parts) (shift : Shift) (bare : begins_bare old ≡ true) (told : has_body_at body.start items ≡ true)
    (parts : AreCut old body range p) (utf8 : IsUtf8 typed) (alone : is_alone (with_feeds (in_braces (p.front.now ++ (p.replaced.now ++ p.back.now)))) ≡ true)
    (alone_new : is_alone (with_feeds (in_braces (p.front.now ++ (typed ++ p.back.now)))) ≡ true) (moves : IsShift body range (length typed) (length p.back.now) shift) where
  q : List ℕ
  q = p.before.now

  m : List ℕ
  m = p.front.now ++ (p.replaced.now ++ p.back.now)

  m' : List ℕ
  m' = p.front.now ++ (typed ++ p.back.now)

  s : List ℕ
  s = p.behind.now

  old_is : old ≡ with_body q m s
  unfolding q m s
  old_is = parts.about.whole ∙ body_is p.before.now p.front.now p.replaced.now p.back.now p.behind.now

  new_is : edited_text old range typed ≡ with_body q m' s
  unfolding q m' s
  new_is = edited_is old p.before.now p.front.now p.replaced.now p.back.now p.behind.now range typed parts.about.whole parts.about.starts parts.about.ends

  opening : shift.opening ≡ length q
  unfolding q
  opening = moves.opening ∙ sym parts.about.opens

  closing : shift.closing ≡ close_at q m
  unfolding q m
  closing = grind (arith, common_steps)

  closing_new : shift.closing_new ≡ close_at q m'
  unfolding q m'
  closing_new = grind (arith, common_steps)

  by_shift : shifted_place shift ≡ shifted_by q m m'
  by_shift = shift_is shift (length q) (close_at q m) (close_at q m') opening closing closing_new

  typed_is : (edition : EditionYear) (read : FileView) → read.places ≡ items → IsFileView edition (with_body q m s) read → IsTyped edition (with_feeds q) (with_feeds m) (with_feeds m') (with_feeds s)
  unfolding q m m'
  typed_is edition read e f =
      let one = alone_is (p.front.now ++ (p.replaced.now ++ p.back.now)) (IsUtf8-append _ _ parts.about.front_utf8 (IsUtf8-append _ _ parts.about.replaced_utf8 parts.about.back_utf8)) alone in
      let two = alone_is (p.front.now ++ (typed ++ p.back.now)) (IsUtf8-append _ _ parts.about.front_utf8 (IsUtf8-append _ _ utf8 parts.about.back_utf8)) alone_new in
      let front : IsBare (with_body (with_feeds q) (with_feeds m) (with_feeds s)) = subst IsBare (ap with_feeds old_is ∙ feeds_body q m s) (bare_is old bare) in
      let here : has_body_at (length q) read.places ≡ true = ap (λ (n : ℕ). has_body_at n read.places) parts.about.opens ∙ ap (has_body_at body.start) e ∙ told in
      let is : IsBody edition (with_feeds q) (with_feeds m) (with_feeds s) =
      sym (body_is_told edition (with_feeds q) (with_feeds m) (with_feeds s) (with_body q m s) read (feeds_body q m s) f) ∙ ap (λ (n : ℕ). has_body_at n read.places) (place_open q m s) ∙ here in
      record {
        opens = record { full = feeds_full q parts.before_utf8; one = body_opens edition (with_feeds q) (with_feeds m) (with_feeds s) is front.0 front.1.0 front.1.1; plain = front.0; unfenced = front.1.0; bare = front.1.1 };
        body = is;
        alone = one.0;
        alone_new = two.0;
        begins = one.1;
        begins_new = two.1;
      }

  -- brackets are counted in braces, and are as many between them
  module _ (keeps : Bool) (counted : keeps ≡ same_loose (loose_inside (with_feeds (in_braces (p.front.now ++ (p.replaced.now ++ p.back.now))))) (loose_inside (with_feeds (in_braces (p.front.now ++ (typed ++ p.back.now)))))) where
    stood : loose_inside (with_feeds (in_braces (p.front.now ++ (p.replaced.now ++ p.back.now)))) ≡ loose_in (with_feeds (p.front.now ++ (p.replaced.now ++ p.back.now)))
    stood = loose_is (p.front.now ++ (p.replaced.now ++ p.back.now)) (alone_is (p.front.now ++ (p.replaced.now ++ p.back.now)) (IsUtf8-append _ _ parts.about.front_utf8 (IsUtf8-append _ _ parts.about.replaced_utf8 parts.about.back_utf8)) alone).0

    stands : loose_inside (with_feeds (in_braces (p.front.now ++ (typed ++ p.back.now)))) ≡ loose_in (with_feeds (p.front.now ++ (typed ++ p.back.now)))
    stands = loose_is (p.front.now ++ (typed ++ p.back.now)) (alone_is (p.front.now ++ (typed ++ p.back.now)) (IsUtf8-append _ _ parts.about.front_utf8 (IsUtf8-append _ _ utf8 parts.about.back_utf8)) alone_new).0

    pub loose_kept : keeps ≡ true → loose_in (with_feeds (p.front.now ++ (typed ++ p.back.now))) ≡ loose_in (with_feeds (p.front.now ++ (p.replaced.now ++ p.back.now)))
    loose_kept k = sym stands ∙ same_is _ _ (sym counted ∙ k) ∙ stood

    pub kept_loose : loose_in (with_feeds (p.front.now ++ (typed ++ p.back.now))) ≡ loose_in (with_feeds (p.front.now ++ (p.replaced.now ++ p.back.now))) → keeps ≡ true
    kept_loose e = counted ∙ same_of _ _ (stands ∙ e ∙ sym stood)

    kept_here : keeps ≡ true → loose_in (with_feeds m') ≡ loose_in (with_feeds m)
    unfolding m m'
    kept_here = loose_kept

    pub edit_shifts : Shifts items old range typed (record { shift = shift; keeps_problems = keeps })
    edit_shifts edition read again e f g =
        let f' : IsFileView edition (with_body q m s) read = subst (λ (t : List ℕ). IsFileView edition t read) old_is f in
        let g' : IsFileView edition (with_body q m' s) again = subst (λ (t : List ℕ). IsFileView edition t again) new_is g in
        let t = typed_is edition read e f' in
        let moved = places_move edition q m m' s read again t f' g' in
        record {
          syntax = typing_inside edition (with_feeds q) (with_feeds m) (with_feeds m') (with_feeds s) (with_body q m s) (with_body q m' s) read again (feeds_body q m s) (feeds_body q m' s) t f' g';
          items = moved.places ∙ ap (λ (k : ℕ → ℕ). map (moved_place k) read.places) (sym by_shift);
          use_trees = moved.use_trees ∙ ap (λ (k : ℕ → ℕ). map k read.use_trees) (sym by_shift);
          problems = λ k. problems_move edition q m m' s read again t (kept_here k) f' g' ∙ ap (λ (j : ℕ → ℕ). map (moved_problem j) read.problems) (sym by_shift);
        }

    pub edit_reads : ReadsMoved items old range typed (record { shift = shift; keeps_problems = keeps })
    edit_reads edition read e f =
        let f' : IsFileView edition (with_body q m s) read = subst (λ (t : List ℕ). IsFileView edition t read) old_is f in
        let made = is_read_anew edition q m m' s read (typed_is edition read e f') f' in
        let g : IsFileView edition (edited_text old range typed) made.0 = subst (λ (t : List ℕ). IsFileView edition t made.0) (sym new_is) made.1 in
        record { again = made.0; is_read = g; moved = edit_shifts edition read made.0 e f g }

  short : length old < 2 ^ 63 → length typed < 2 ^ 63 → length (with_body q m' s) < 2 ^ 64
  unfolding q m m' s
  short small small_typed = grind (arith, common_steps)

  pub edit_keeps : length old < 2 ^ 63 → length typed < 2 ^ 63 → PlacesAreKept items old range typed shift
  edit_keeps small small_typed edition read e f =
      let f' : IsFileView edition (with_body q m s) read = subst (λ (t : List ℕ). IsFileView edition t read) old_is f in
      read_kept q m m' s shift opening closing closing_new (short small small_typed) edition read (typed_is edition read e f') f'
