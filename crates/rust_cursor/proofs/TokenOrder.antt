-- The tokens of a text before a brace end before it, and those behind it behind it.
use Rattle.std.proofs.Common.{◌≡◌, ◌≤◌, ◌<◌, ℕ, zero, suc, ◌+◌, List, [], ◌∷◌, ◌++◌, length, take, arith, filter}
use Rattle.rust_lexer.specs.Cut.{first_cut}
use Rattle.rust_cursor.proofs.Common.{Piece, is_significant, piece, tokens_from, whole_length, overhang, tokens_in_front, end_of, AreBefore, AreBehind}
use Rattle.rust_lexer.proofs.WholeTexts.{close_of, left_of, front_of}
use Rattle.rust_cursor.proofs.TokenRests.{when}

take_le : (n : ℕ) (l : List ℕ) → length (take n l) ≤ n
take_le zero l = omega arith
take_le (suc n) [] = omega arith
take_le (suc n) (b ∷ l) = let more = take_le n l in omega arith

before_end : (limit left at past : ℕ) (x w : List ℕ) → overhang left x w ≡ 0 → past ≤ at + left → limit ≡ at + length x → AreBefore limit past (tokens_in_front left at x w)
before_end limit left at past [] w e h l = omega (arith, e)
before_end limit (suc left) at past (b ∷ x) w e h l = before_end limit left (suc at) past x w e (omega arith) (omega arith)
before_end limit zero at past (b ∷ x) w e h l =
    let n = whole_length (first_cut b (x ++ w)) (x ++ w) in
    let short = take_le n (x ++ w) in
    (omega arith, before_end limit n (suc at) (at + suc (length (take n (x ++ w)))) x w e (omega arith) (omega arith))

earlier : (limit past past' : ℕ) (ts : List Piece) → past' ≤ limit → AreBefore limit past ts → AreBefore limit past' ts
earlier limit past past' [] h a = h
earlier limit past past' (t ∷ ts) h a = (h, a.1)

before_counted : (limit past : ℕ) (ts : List Piece) → AreBefore limit past ts → AreBefore limit past (filter is_significant ts)
before_counted limit past [] h = h
before_counted limit past (t ∷ ts) h =
    when (is_significant t) (λ e. rw e (h.0, before_counted limit (end_of t) ts h.1)) (λ e. rw e (before_counted limit past ts (earlier limit (end_of t) past ts h.0 h.1)))

pub front_before : (q : List ℕ) → overhang 0 q (123 ∷ []) ≡ 0 → AreBefore (length q) 0 (front_of q)
unfolding front_of
front_before q e = before_counted (length q) 0 (tokens_in_front 0 0 q (123 ∷ [])) (before_end (length q) 0 0 0 q (123 ∷ []) e (omega arith) (omega arith))

behind_start : (low left at past : ℕ) (z : List ℕ) → low ≤ past → low ≤ at + left → AreBehind low past (tokens_from left at z)
behind_start low (suc left) at past (b ∷ z) h l = behind_start low left (suc at) past z h (omega arith)
behind_start low zero at past (b ∷ z) h l =
    let n = whole_length (first_cut b z) z in
    ((h, omega arith), behind_start low n (suc at) (at + suc (length (take n z))) z (omega arith) (omega arith))
behind_start low _ at past [] h l = h

later : (low past past' : ℕ) (ts : List Piece) → low ≤ past' → AreBehind low past ts → AreBehind low past' ts
later low past past' [] h a = h
later low past past' (t ∷ ts) h a = ((h, a.0.1), a.1)

behind_counted : (low past : ℕ) (ts : List Piece) → AreBehind low past ts → AreBehind low past (filter is_significant ts)
behind_counted low past [] h = h
behind_counted low past (t ∷ ts) h =
    when (is_significant t) (λ e. rw e (h.0, behind_counted low (end_of t) ts h.1)) (λ e. rw e (behind_counted low past ts (later low (end_of t) past ts h.0.0 h.1)))

pub left_behind : (s : List ℕ) → AreBehind (end_of (close_of s)) (end_of (close_of s)) (left_of s)
unfolding close_of left_of
left_behind s =
    let n = whole_length (first_cut 125 s) s in
    let low = end_of (piece (first_cut 125 s) 0 125 s) in
    let short = take_le n s in
    behind_counted low low (tokens_from n 1 s) (behind_start low n 1 low s (omega arith) (omega arith))

pub close_some : (s : List ℕ) → 0 < end_of (close_of s)
unfolding close_of
close_some s = omega arith
