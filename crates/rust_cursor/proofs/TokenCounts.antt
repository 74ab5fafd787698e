-- How many tokens there are at most.
use Rattle.std.proofs.Common.{◌≡◌, ◌<◌, ◌≤◌, ◌+◌, ℕ, List, [], ◌∷◌, ◌++◌, length, All, ap, arith, length-append, filter}
use Rattle.rust_cursor.proofs.Common.{All-head, All-tail, EditionYear, Piece, tokens, is_significant, text_of, tokens_lossless, tokens_not_empty, tokens_of}
use Rattle.std.proofs.lemmas.List.Sums.{length-filter, count_by-le-length}

few_of : (ts : List Piece) → All (λ t. 0 < length t.text) ts → length ts ≤ length (text_of ts)
few_of [] h = omega arith
few_of (t ∷ ts) h =
    let first : 0 < length t.text = All-head (λ t. 0 < length t.text) t ts h in
    let rest : length ts ≤ length (text_of ts) = few_of ts (All-tail (λ t. 0 < length t.text) t ts h) in
    let both : length (t.text ++ text_of ts) ≡ length t.text + length (text_of ts) = length-append t.text (text_of ts) in
    omega arith

-- tokens that are not empty are no more than their text has bytes
pub few : (ts : List Piece) (text : List ℕ) → All (λ t. 0 < length t.text) ts → text_of ts ≡ text → length (filter is_significant ts) ≤ length text
few ts text h e =
    let all : length ts ≤ length (text_of ts) = few_of ts h in
    let counted = length-filter is_significant ts in
    let fewer = count_by-le-length is_significant ts in
    let same : length (text_of ts) ≡ length text = ap length e in
    omega arith

pub tokens_short : (edition : EditionYear) (text : List ℕ) → length (tokens_of edition text).left ≤ length text
unfolding tokens_of
tokens_short edition text = few (tokens text) text (tokens_not_empty text) (tokens_lossless text)
