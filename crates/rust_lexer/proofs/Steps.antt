-- The tokens of a text, step by step.
use Rattle.std.proofs.Common.{◌≡◌, ℕ, zero, suc, ◌+◌, ◌≤◌, ◌<◌, false, List, [], ◌∷◌, take, drop, get_or, refl, ap, ◌∙◌, arith, length, Some, subst, ◌-◌}
use Rattle.rust_lexer.proofs.Common.{take_rest, Cut, run_length, cut, first_cut, split_of, Piece, is_nil, lines_from, mark_from, matter_by, matter_from, piece, shebang_from, tokens_from, whole_length}
use Rattle.rust_lexer.specs.declared.bytes.Class.TheVariants as class
use Rattle.rust_lexer.specs.declared.kind.TokenKind.TheVariants as kind

-- what is left of one token is left out
pub tokens_from_drop : (n at : ℕ) (z : List ℕ) → tokens_from n at z ≡ tokens_from 0 (at + length (take n z)) (drop n z)
tokens_from_drop zero at z = let e : at ≡ at + 0 = omega arith in ap (λ k. tokens_from 0 k z) e
tokens_from_drop (suc n) at [] = refl
tokens_from_drop (suc n) at (b ∷ z) =
    let e : suc at + length (take n z) ≡ at + suc (length (take n z)) = omega arith in
    tokens_from_drop n (suc at) z ∙ ap (λ k. tokens_from 0 k (drop n z)) e

-- the token that is split off, and those behind it
split_next : (c : Cut) (at b : ℕ) (z : List ℕ) (t : Piece) (rest : List ℕ) → split_of c at (b ∷ z) ≡ Some (t, rest) → piece c at b z ∷ tokens_from (whole_length c z) (suc at) z ≡ t ∷ tokens_from 0 (at + length t.text) rest
split_next c at b z t rest h =
    let n = whole_length c z in
    let e : (piece c at b z, drop n z) ≡ (t, rest) = cc in
    subst (λ (q : Piece × List ℕ). piece c at b z ∷ tokens_from n (suc at) z ≡ q.0 ∷ tokens_from 0 (at + length q.0.text) q.1) e
    (let f : suc at + length (take n z) ≡ at + suc (length (take n z)) = omega arith in
    ap (λ l. piece c at b z ∷ l) (tokens_from_drop n (suc at) z ∙ ap (λ k. tokens_from 0 k (drop n z)) f))

-- the same, where the cut was made on a slice of the text
pub first_next : (at : ℕ) (text w : List ℕ) (c : Cut) (t : Piece) (rest : List ℕ) → w ≡ text → 1 ≤ length w → c ≡ first_cut (get_or w 0 0) (take (length w - 1) (drop 1 w)) → split_of c at text ≡ Some (t, rest) → tokens_from 0 at text ≡ t ∷ tokens_from 0 (at + length t.text) rest
first_next at [] w c t rest same some is h = absurd (omega (arith, ap length same))
first_next at (b ∷ z) w c t rest same some is h =
    let cut_is : c ≡ first_cut b z = is ∙ ap (first_cut (get_or w 0 0)) (take_rest w 1) ∙ ap (λ l. first_cut (get_or l 0 0) (drop 1 l)) same in
    split_next (first_cut b z) at b z t rest (subst (λ (d : Cut). split_of d at (b ∷ z) ≡ Some (t, rest)) cut_is h)

-- frontmatter
pub matter_next : (n at : ℕ) (text : List ℕ) (t : Piece) (rest : List ℕ) → split_of (cut kind.Frontmatter (n - 1)) at text ≡ Some (t, rest) → matter_by (Some n) at text ≡ t ∷ tokens_from 0 (at + length t.text) rest
matter_next n at [] t rest h = cc
matter_next n at (b ∷ z) t rest h = split_next (cut kind.Frontmatter (n - 1)) at b z t rest h

-- what is split off in front, by what reads the text behind it
front_next : (c : Cut) (read : ℕ → List ℕ → List Piece) (at b : ℕ) (z : List ℕ) (t : Piece) (rest : List ℕ) → split_of c at (b ∷ z) ≡ Some (t, rest)
    → (let u = piece c at b z in u ∷ read (at + length u.text) (drop (whole_length c z) z)) ≡ t ∷ read (at + length t.text) rest
front_next c read at b z t rest h =
    let u = piece c at b z in
    let e : (u, drop (whole_length c z) z) ≡ (t, rest) = cc in
    subst (λ (q : Piece × List ℕ). u ∷ read (at + length u.text) (drop (whole_length c z) z) ≡ q.0 ∷ read (at + length q.0.text) q.1) e refl

pub shebang_next : (at : ℕ) (text w : List ℕ) (n : ℕ) (t : Piece) (rest : List ℕ) → w ≡ text → 1 ≤ length w → n ≡ run_length class.Line (take (length w - 1) (drop 1 w)) → split_of (cut kind.Shebang n) at text ≡ Some (t, rest) → shebang_from at text ≡ t ∷ matter_from (at + length t.text) rest
shebang_next at [] w n t rest same some is h = absurd (omega (arith, ap length same))
shebang_next at (b ∷ z) w n t rest same some is h =
    let n_is : n ≡ run_length class.Line z = is ∙ ap (run_length class.Line) (take_rest w 1) ∙ ap (λ l. run_length class.Line (drop 1 l)) same in
    front_next (cut kind.Shebang (run_length class.Line z)) matter_from at b z t rest
    (subst (λ (k : ℕ). split_of (cut kind.Shebang k) at (b ∷ z) ≡ Some (t, rest)) n_is h)

-- and behind a byte order mark
pub mark_next : (at : ℕ) (text : List ℕ) (t : Piece) (rest : List ℕ) → split_of (cut kind.ByteOrderMark 2) at text ≡ Some (t, rest) → mark_from at text ≡ t ∷ lines_from (at + length t.text) rest
mark_next at [] t rest h = cc
mark_next at (b ∷ z) t rest h = front_next (cut kind.ByteOrderMark 2) lines_from at b z t rest h

-- of a text that is not empty a token is left
pub some_left : (at : ℕ) (z : List ℕ) → 0 < length z → is_nil (tokens_from 0 at z) ≡ false
some_left at [] some = absurd (omega arith)
some_left at (b ∷ z) some = refl
