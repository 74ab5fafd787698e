-- Where tokens stand.
use Rattle.std.proofs.Common.{◌≡◌, ◌<◌, ◌≤◌, ◌+◌, ℕ, true, false, List, [], ◌∷◌, ◌++◌, length, ap, arith, length-append, filter}
use Rattle.rust_cursor.proofs.Common.{All-head, All-tail, EditionYear, Piece, tokens, is_significant, text_of, AreInPlace, AreSome, tokens_lossless, tokens_placed, tokens_not_empty, Tokens, tokens_of, end_of, by_first, rest, at, is_empty, bumped}
use Rattle.rust_cursor.proofs.TokenRests.{LeadsTo, here, further, when, Takes, takes}

-- none is empty, each begins behind the one before it, and the first behind a place; the last ends before another
abbrev pub AreLaid : ℕ → ℕ → List Piece → Type 0
AreLaid end past [] = past ≤ end
AreLaid end past (t ∷ ts) = ((past ≤ t.at) × (0 < length t.text)) × AreLaid end (end_of t) ts

pub record IsLaid (end : ℕ) (ts : Tokens) : Type 0 where
  pub laid : AreLaid end ts.past ts.left

-- ---- along tokens

within : (end past : ℕ) (left : List Piece) → AreLaid end past left → past ≤ end
within end past [] h = h
within end past (t ∷ ts) h = let rest = within end (end_of t) ts h.1 in let first : past ≤ t.at = h.0.0 in omega arith

pub past_within : (end : ℕ) (ts : Tokens) → IsLaid end ts → ts.past ≤ end
past_within end ts h = within end ts.past ts.left h.laid

-- where what is left stands behind what was given
pub record IsBehind (end : ℕ) (ts us : Tokens) : Type 0 where
  pub laid : IsLaid end us
  pub past : ts.past ≤ us.past
  pub place : at ts ≤ at us

behind_some : (end past : ℕ) (left : List Piece) → AreLaid end past left
    → (AreLaid end (by_first past end_of left) (rest left) × (past ≤ (by_first past end_of left))) × (by_first past (λ t. t.at) left ≤ by_first (by_first past end_of left) (λ t. t.at) (rest left))
behind_some end past [] h = ((h, omega arith), omega arith)
behind_some end past (t ∷ []) h = let first : past ≤ t.at = h.0.0 in ((h.1, omega arith), omega arith)
behind_some end past (t ∷ u ∷ ts) h = let first : past ≤ t.at = h.0.0 in let next : end_of t ≤ u.at = h.1.0.0 in ((h.1, omega arith), omega arith)

bumped_behind : (end : ℕ) (ts : Tokens) → IsLaid end ts → IsBehind end ts (bumped ts)
unfolding bumped at
bumped_behind end ts h = let b = behind_some end ts.past ts.left h.laid in record { laid = record { laid = b.0.0 }; past = b.0.1; place = b.1 }

pub behind : (end : ℕ) {ts us : Tokens} → LeadsTo ts us → IsLaid end ts → IsBehind end ts us
behind end {ts} here h = record { laid = h; past = omega arith; place = omega arith }
behind end {ts} (further {us = us} p) h =
    let first = bumped_behind end ts h in
    let rest = behind end p first.laid in
    record { laid = rest.laid; past = omega arith; place = omega arith }

one_taken : (end past : ℕ) (left : List Piece) → AreLaid end past left → by_first true (λ _. false) left ≡ false → by_first past (λ t. t.at) left < (by_first past end_of left)
one_taken end past [] h e = absurd cc
one_taken end past (t ∷ ts) h e = let some : 0 < length t.text = h.0.1 in omega arith

-- where a token is taken, what is left stands behind its first byte
pub taken_behind : (end : ℕ) (ts : Tokens) → IsLaid end ts → is_empty ts ≡ false → at ts < (bumped ts).past
unfolding bumped at is_empty
taken_behind end ts h e = one_taken end ts.past ts.left h.laid e

-- where a token is taken, what is left stands behind the first byte of what was given
pub takes_strict : (end : ℕ) {ts us : Tokens} → Takes ts us → IsLaid end ts → at ts < us.past
takes_strict end (takes t before some later) h =
    let first = behind end before h in
    let next = bumped_behind end t first.laid in
    let rest = behind end later next.laid in
    let strict = taken_behind end t first.laid some in
    omega arith

first_behind : (end past : ℕ) (left : List Piece) → AreLaid end past left → past ≤ by_first past (λ t. t.at) left
first_behind end past [] h = omega arith
first_behind end past (t ∷ ts) h = h.0.0

pub at_behind : (end : ℕ) (ts : Tokens) → IsLaid end ts → ts.past ≤ at ts
unfolding at
at_behind end ts h = first_behind end ts.past ts.left h.laid

-- ---- the tokens of a text

earlier : (end past before : ℕ) (left : List Piece) → before ≤ past → AreLaid end past left → AreLaid end before left
earlier end past before [] e h = omega arith
earlier end past before (t ∷ ts) e h = let first : past ≤ t.at = h.0.0 in ((omega arith, h.0.1), h.1)

laid_from : (end place : ℕ) (ts : List Piece) → AreInPlace place ts → AreSome ts → place + length (text_of ts) ≤ end → AreLaid end place (filter is_significant ts)
laid_from end place [] p s h = omega arith
laid_from end place (t ∷ ts) p s h =
    let first : t.at ≡ place = p.0 in
    let some : 0 < length t.text = All-head (λ t. 0 < length t.text) t ts s in
    let both : length (t.text ++ text_of ts) ≡ length t.text + length (text_of ts) = length-append t.text (text_of ts) in
    let laid : AreLaid end (place + length t.text) (filter is_significant ts) = laid_from end (place + length t.text) ts p.1 (All-tail (λ t. 0 < length t.text) t ts s) (omega arith) in
    let same : place + length t.text ≡ end_of t = omega arith in
    when (is_significant t) (λ e. rw e ((omega arith, some), rw same at laid)) (λ e. rw e (earlier end (place + length t.text) place _ (omega arith) laid))

pub tokens_laid : (edition : EditionYear) (text : List ℕ) → IsLaid (length text) (tokens_of edition text)
unfolding tokens_of
tokens_laid edition text =
    let whole : length (text_of (tokens text)) ≡ length text = ap length (tokens_lossless text) in
    record { laid = laid_from (length text) 0 (tokens text) (tokens_placed text) (tokens_not_empty text) (omega arith) }
