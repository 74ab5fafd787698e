-- What was found to stand alone in braces does.
use Rattle.std.proofs.Common.{◌&&◌, Bool, ◌≡◌, ◌≤◌, ◌+◌, ◌-◌, ◌==◌, ℕ, zero, suc, true, false, Option, Some, None, List, [], ◌∷◌, ◌++◌, length, map, IsUtf8, refl, ap, sym, subst, ◌∙◌, arith}
use Rattle.rust_edits.proofs.Common.{nat_le, slice_index, filter, TokenKind, overhang, tokens_in_front, moved_piece, braces_from, StandsAlone, is_continuation, is_wide_start, first_cut, Piece, symbol_from, symbol_of, is_nil, is_significant, piece, tokens, tokens_from, whole_length, rest, with_feeds, first_plain, BeginsPlain, Loose, none_loose, loose_behind, loose_from, loose_in, in_braces, closes_last, begins_plain, is_alone, loose_inside, and_right, and_parts, eqb-true, and_from, nat_tests, plain_is, close_of, close_symbol, left_of, front_of, counted_apart, when}
use Rattle.rust_lexer.proofs.WholeTexts.{OpensAt}
use Rattle.rust_edits.proofs.Typing.WholeCharacters.{feeds_full, feeds_lead}
use Rattle.rust_edits.proofs.Typing.Returns.{feeds_body}
use Rattle.rust_edits.proofs.Typing.Texts.{body_plain}

-- a `}` takes no byte of a `}` behind it
close_whole : (x : List ℕ) → whole_length (first_cut 125 (x ++ 125 ∷ [])) (x ++ 125 ∷ []) ≤ length x
unfolding first_cut is_wide_start
close_whole [] = omega arith
close_whole (b ∷ x) = let more = close_whole x in when (is_continuation b) (λ e. rw e (omega arith)) (λ e. rw e (omega arith))

close_few : (b : ℕ) (x : List ℕ) → (b == 125) ≡ true → whole_length (first_cut b (x ++ 125 ∷ [])) (x ++ 125 ∷ []) ≤ length x
close_few b x e = rw (eqb-true b 125 e) (close_whole x)

close_byte : (k : TokenKind) (b : ℕ) → (symbol_from k b == 125) ≡ true → (b == 125) ≡ true
close_byte k b e = grind (arith, nat_tests)

some_left : (left at : ℕ) (x : List ℕ) → left ≤ length x → is_nil (tokens_from left at (x ++ 125 ∷ [])) ≡ false
some_left zero at [] h = refl
some_left (suc left) at [] h = absurd (omega arith)
some_left zero at (b ∷ x) h = refl
some_left (suc left) at (b ∷ x) h = some_left left (suc at) x (omega arith)

-- nothing is open
abbrev is_shut : Option ℕ → Bool
is_shut None = false
is_shut (Some n) = n == 0

shut_is : (o : Option ℕ) → is_shut o ≡ true → o ≡ Some 0
shut_is o e = grind (arith, nat_tests)

-- A text before a `}`, in braces that are open so many deep: the last token, and no sooner one, closes them, exactly if its braces match and none of its tokens takes the `}`.
closes_is : (d left at from : ℕ) (x : List ℕ) → 1 ≤ d
    → closes_last d (tokens_from left at (x ++ 125 ∷ [])) ≡ (overhang left x (125 ∷ []) == 0 && is_shut (braces_from (d - 1) (tokens_in_front left from x (125 ∷ []))))
unfolding first_cut is_wide_start
closes_is d zero at from [] some =
    when (nat_le d 1)
    (λ l. let one : (d - 1 == 0) ≡ true = grind (arith, nat_tests) in rw (l, one) refl)
    (λ l. let more : (d - 1 == 0) ≡ false = grind (arith, nat_tests) in rw (l, more) refl)
closes_is d (suc left) at from [] some = let over : (suc left == 0) ≡ false = grind (arith, nat_tests) in rw over refl
closes_is d (suc left) at from (b ∷ x) some = closes_is d left (suc at) (suc from) x some
closes_is d zero at from (b ∷ x) some =
    let z = x ++ 125 ∷ [] in
    let n = whole_length (first_cut b z) z in
    let t = piece (first_cut b z) at b z in
    let fs = tokens_in_front n (suc from) x (125 ∷ []) in
    when (symbol_of t == 123)
    (λ o. let deeper : d + 1 - 1 ≡ suc (d - 1) = omega arith in
    rw o (closes_is (d + 1) n (suc at) (suc from) x (omega arith) ∙ ap (λ (k : ℕ). overhang n x (125 ∷ []) == 0 && is_shut (braces_from k fs)) deeper))
    (λ o. when (symbol_of t == 125)
    (λ c. when (nat_le d 1)
    (λ l. let one : (d - 1 == 0) ≡ true = grind (arith, nat_tests) in
    rw (o, c, l, one) (some_left n (suc at) x (close_few b x (close_byte (first_cut b z).kind b c)) ∙ sym (and_right (overhang n x (125 ∷ []) == 0) false refl)))
    (λ l. let more : 1 ≤ d - 1 = grind (arith, nat_tests) in
    let left_open : (d - 1 == 0) ≡ false = grind (arith, nat_tests) in
    rw (o, c, l, left_open) (closes_is (d - 1) n (suc at) (suc from) x more)))
    (λ c. rw (o, c) (closes_is d n (suc at) (suc from) x some)))

brace_tokens : (z : List ℕ) → tokens (123 ∷ z) ≡ tokens_from 0 0 (123 ∷ z)
unfolding first_cut is_wide_start
brace_tokens z = plain_is (123 ∷ z) refl refl refl

brace_whole : (x w : List ℕ) → is_continuation (slice_index x 0) ≡ false → whole_length (first_cut 123 (x ++ 125 ∷ w)) (x ++ 125 ∷ w) ≡ 0
unfolding first_cut is_wide_start
brace_whole [] w e = refl
brace_whole (b ∷ x) w e = rw e refl

closes_behind : (z : List ℕ) → closes_last 0 (tokens_from 0 0 (123 ∷ z)) ≡ closes_last 1 (tokens_from (whole_length (first_cut 123 z) z) 1 z)
unfolding first_cut is_wide_start
closes_behind z = refl

-- a text that stands alone begins in braces as it does by itself
plain_same : (x : List ℕ) → StandsAlone x → begins_plain (tokens (in_braces x)) ≡ first_plain (filter is_significant (tokens_in_front 0 0 x (125 ∷ [])))
unfolding front_of first_cut is_wide_start
plain_same x h =
    let opens : OpensAt [] (x ++ 125 ∷ []) = record { full = refl; one = refl; plain = refl; bare = refl; unfenced = refl } in
    ap (λ l. first_plain (rest l)) (counted_apart [] x x [] opens h h)
    ∙ body_plain 0 x (moved_piece (1 + length x) (close_of [])) (map (moved_piece (1 + length x)) (left_of [])) (close_symbol [])

-- what was found of a text in braces
pub alone_is : (m : List ℕ) → IsUtf8 m → is_alone (with_feeds (in_braces m)) ≡ true → StandsAlone (with_feeds m) × BeginsPlain (with_feeds m)
alone_is m u e = (alone, sym (plain_same x alone) ∙ parts.0)
  where
    x : List ℕ
    x = with_feeds m

    z : List ℕ
    z = with_feeds m ++ 125 ∷ []

    parts : (begins_plain (tokens (123 ∷ z)) ≡ true) × (closes_last 0 (tokens (123 ∷ z)) ≡ true)
    parts = and_parts (begins_plain (tokens (123 ∷ z))) (closes_last 0 (tokens (123 ∷ z))) (subst (λ (w : List ℕ). is_alone w ≡ true) (feeds_body [] m []) e)

    closed : closes_last 1 (tokens_from 0 1 z) ≡ true
    closed = ap (λ n. closes_last 1 (tokens_from n 1 z)) (sym (brace_whole x [] (feeds_lead m u))) ∙ sym (closes_behind z) ∙ ap (closes_last 0) (sym (brace_tokens z)) ∙ parts.1

    matched : (overhang 0 x (125 ∷ []) ≡ 0) × (braces_from 0 (tokens_in_front 0 0 x (125 ∷ [])) ≡ Some 0)
    matched =
        let both = and_parts (overhang 0 x (125 ∷ []) == 0) (is_shut (braces_from 0 (tokens_in_front 0 0 x (125 ∷ [])))) (sym (closes_is 1 0 1 0 x (omega arith)) ∙ closed) in
        (eqb-true (overhang 0 x (125 ∷ [])) 0 both.0, shut_is (braces_from 0 (tokens_in_front 0 0 x (125 ∷ []))) both.1)

    alone : StandsAlone x
    alone = record { full = feeds_full m u; begins = feeds_lead m u; ends = matched.0; matched = matched.1 }

-- and what may stand in a body is found so
pub is_found : (m : List ℕ) → StandsAlone (with_feeds m) × BeginsPlain (with_feeds m) → is_alone (with_feeds (in_braces m)) ≡ true
is_found m h =
    subst (λ (w : List ℕ). is_alone w ≡ true) (sym (feeds_body [] m [])) (and_from (begins_plain (tokens (123 ∷ z))) (closes_last 0 (tokens (123 ∷ z))) (plain_same x h.0 ∙ h.1) closed)
  where
    x : List ℕ
    x = with_feeds m

    z : List ℕ
    z = with_feeds m ++ 125 ∷ []

    closed : closes_last 0 (tokens (123 ∷ z)) ≡ true
    closed = ap (closes_last 0) (brace_tokens z) ∙ closes_behind z ∙ ap (λ n. closes_last 1 (tokens_from n 1 z)) (brace_whole x [] h.0.begins) ∙ closes_is 1 0 1 0 x (omega arith)
        ∙ and_from (overhang 0 x (125 ∷ []) == 0) (is_shut (braces_from 0 (tokens_in_front 0 0 x (125 ∷ [])))) (ap (λ n. n == 0) h.0.ends) (ap is_shut h.0.matched)

-- ---- loose brackets

-- none stand behind the last token
pub none_behind : (l : Loose) (ts : List Piece) → is_nil ts ≡ true → loose_from l ts ≡ l
none_behind l [] e = refl
none_behind l (t ∷ ts) e = absurd cc

loose_outside : (l : Loose) (left at from : ℕ) (x : List ℕ) → overhang left x (125 ∷ []) ≡ 0 → loose_from l (tokens_from left at (x ++ 125 ∷ [])) ≡ loose_from l (tokens_in_front left from x (125 ∷ []))
unfolding first_cut is_wide_start
loose_outside l zero at from [] o = refl
loose_outside l (suc left) at from [] o = absurd cc
loose_outside l (suc left) at from (b ∷ x) o = loose_outside l left (suc at) (suc from) x o
loose_outside l zero at from (b ∷ x) o =
    let z = x ++ 125 ∷ [] in
    let t = piece (first_cut b z) at b z in
    loose_outside (loose_behind l (symbol_of t)) (whole_length (first_cut b z) z) (suc at) (suc from) x o

loose_behind_brace : (z : List ℕ) → loose_from none_loose (tokens_from 0 0 (123 ∷ z)) ≡ loose_from none_loose (tokens_from (whole_length (first_cut 123 z) z) 1 z)
unfolding first_cut is_wide_start
loose_behind_brace z = refl

-- those of a text that stands alone are those of the text in braces
pub loose_is : (m : List ℕ) → StandsAlone (with_feeds m) → loose_inside (with_feeds (in_braces m)) ≡ loose_in (with_feeds m)
loose_is m h =
    let z = with_feeds m ++ 125 ∷ [] in
    ap loose_inside (feeds_body [] m []) ∙ ap (loose_from none_loose) (brace_tokens z) ∙ loose_behind_brace z
    ∙ ap (λ n. loose_from none_loose (tokens_from n 1 z)) (brace_whole (with_feeds m) [] h.begins) ∙ loose_outside none_loose 0 1 0 (with_feeds m) h.ends
