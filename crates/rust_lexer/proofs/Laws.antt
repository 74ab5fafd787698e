-- What holds of the tokens of every text.
use Rattle.std.proofs.Common.{◌≡◌, ℕ, zero, suc, ◌+◌, ◌-◌, ◌<◌, Option, Some, None, List, [], ◌∷◌, ◌++◌, take, drop, refl, ap, ◌∙◌, arith, length, All, take-append-drop, subst, ◌≤◌, length-drop}
use Rattle.rust_lexer.proofs.Common.{cond_both, All-cons, All-nil, Cut, Front, run_length, cut, first_cut, frontmatter, Piece, AreInPlace, has_mark, is_shebang, lines_from, mark_from, matter_by, matter_from, piece, pieces, shebang_from, text_of, tokens_from, whole_length, tokens}
use Rattle.rust_lexer.specs.declared.bytes.Class.TheVariants as class
use Rattle.rust_lexer.specs.declared.kind.TokenKind.TheVariants as kind
use Rattle.rust_lexer.specs.declared.lexer.Front.TheVariants as front

-- ---- one behind the other they are the text

-- the text of a token, and what is left
joined : (c : Cut) (b : ℕ) (z l : List ℕ) → l ≡ drop (whole_length c z) z → b ∷ (take (whole_length c z) z ++ l) ≡ b ∷ z
joined c b z l e = ap (λ l. b ∷ (take (whole_length c z) z ++ l)) e ∙ ap (λ l. b ∷ l) (take-append-drop (whole_length c z) z)

lossless_from : (left at : ℕ) (z : List ℕ) → text_of (tokens_from left at z) ≡ drop left z
lossless_from zero at [] = refl
lossless_from (suc left) at [] = refl
lossless_from (suc left) at (b ∷ z) = lossless_from left (suc at) z
lossless_from zero at (b ∷ z) = joined (first_cut b z) b z _ (lossless_from (whole_length (first_cut b z) z) (suc at) z)

lossless_matter : (found : Option ℕ) (at : ℕ) (z : List ℕ) → text_of (matter_by found at z) ≡ z
lossless_matter None at z = lossless_from 0 at z
lossless_matter (Some n) at [] = refl
lossless_matter (Some n) at (b ∷ z) = let c = cut kind.Frontmatter (n - 1) in joined c b z _ (lossless_from (whole_length c z) (suc at) z)

lossless_shebang : (at : ℕ) (z : List ℕ) → text_of (shebang_from at z) ≡ z
lossless_shebang at [] = refl
lossless_shebang at (b ∷ z) =
    let c = cut kind.Shebang (run_length class.Line z) in
    let rest = drop (whole_length c z) z in joined c b z _ (lossless_matter (frontmatter 0 rest) (at + suc (length (take (whole_length c z) z))) rest)

lossless_lines : (at : ℕ) (z : List ℕ) → text_of (lines_from at z) ≡ z
lossless_lines at z =
    cond_both (is_shebang (tokens_from 0 at z)) (shebang_from at z) (matter_from at z) (λ ts. text_of ts ≡ z)
    (λ _. lossless_shebang at z) (λ _. lossless_matter (frontmatter 0 z) at z)

lossless_mark : (at : ℕ) (z : List ℕ) → text_of (mark_from at z) ≡ z
lossless_mark at [] = refl
lossless_mark at (b ∷ z) =
    let c = cut kind.ByteOrderMark 2 in joined c b z _ (lossless_lines (at + suc (length (take (whole_length c z) z))) (drop (whole_length c z) z))

pub lossless : (f : Front) (at : ℕ) (z : List ℕ) → text_of (pieces f at z) ≡ z
lossless front.Token at z = lossless_from 0 at z
lossless front.Line at z = lossless_lines at z
lossless front.Matter at z = lossless_matter (frontmatter 0 z) at z
lossless front.Mark at z =
    cond_both (has_mark z) (mark_from at z) (lines_from at z) (λ ts. text_of ts ≡ z) (λ _. lossless_mark at z) (λ _. lossless_lines at z)

-- ---- each begins where the one before it ends

placed_from : (left at : ℕ) (z : List ℕ) → AreInPlace (at + length (take left z)) (tokens_from left at z)
placed_from zero at [] = tt
placed_from (suc left) at [] = tt
placed_from (suc left) at (b ∷ z) =
    let e : suc at + length (take left z) ≡ at + suc (length (take left z)) = omega arith in
    subst (λ (n : ℕ). AreInPlace n (tokens_from left (suc at) z)) e (placed_from left (suc at) z)
placed_from zero at (b ∷ z) =
    let n = whole_length (first_cut b z) z in
    let e : suc at + length (take n z) ≡ at + 0 + suc (length (take n z)) = omega arith in
    (omega arith, subst (λ (m : ℕ). AreInPlace m (tokens_from n (suc at) z)) e (placed_from n (suc at) z))

placed_first : (at : ℕ) (z : List ℕ) → AreInPlace at (tokens_from 0 at z)
placed_first at z = let e : at + 0 ≡ at = omega arith in subst (λ (n : ℕ). AreInPlace n (tokens_from 0 at z)) e (placed_from 0 at z)

placed_matter : (found : Option ℕ) (at : ℕ) (z : List ℕ) → AreInPlace at (matter_by found at z)
placed_matter None at z = placed_first at z
placed_matter (Some k) at [] = tt
placed_matter (Some k) at (b ∷ z) =
    let n = whole_length (cut kind.Frontmatter (k - 1)) z in
    let e : suc at + length (take n z) ≡ at + suc (length (take n z)) = omega arith in
    (refl, subst (λ (m : ℕ). AreInPlace m (tokens_from n (suc at) z)) e (placed_from n (suc at) z))

placed_shebang : (at : ℕ) (z : List ℕ) → AreInPlace at (shebang_from at z)
placed_shebang at [] = tt
placed_shebang at (b ∷ z) =
    let n = whole_length (cut kind.Shebang (run_length class.Line z)) z in (refl, placed_matter (frontmatter 0 (drop n z)) (at + suc (length (take n z))) (drop n z))

placed_lines : (at : ℕ) (z : List ℕ) → AreInPlace at (lines_from at z)
placed_lines at z =
    cond_both (is_shebang (tokens_from 0 at z)) (shebang_from at z) (matter_from at z) (λ ts. AreInPlace at ts)
    (λ _. placed_shebang at z) (λ _. placed_matter (frontmatter 0 z) at z)

placed_mark : (at : ℕ) (z : List ℕ) → AreInPlace at (mark_from at z)
placed_mark at [] = tt
placed_mark at (b ∷ z) = let n = whole_length (cut kind.ByteOrderMark 2) z in (refl, placed_lines (at + suc (length (take n z))) (drop n z))

pub placed : (f : Front) (at : ℕ) (z : List ℕ) → AreInPlace at (pieces f at z)
placed front.Token at z = placed_first at z
placed front.Line at z = placed_lines at z
placed front.Matter at z = placed_matter (frontmatter 0 z) at z
placed front.Mark at z =
    cond_both (has_mark z) (mark_from at z) (lines_from at z) (λ ts. AreInPlace at ts) (λ _. placed_mark at z) (λ _. placed_lines at z)

-- ---- none is empty

abbrev pub AreSome : List Piece → Type 0
AreSome ts = All (λ t. 0 < length t.text) ts

some_more : (c : Cut) (at b : ℕ) (z : List ℕ) (ts : List Piece) → AreSome ts → AreSome (piece c at b z ∷ ts)
some_more c at b z ts h = All-cons (λ t. 0 < length t.text) (piece c at b z) ts (omega arith) h

some_from : (left at : ℕ) (z : List ℕ) → AreSome (tokens_from left at z)
some_from zero at [] = All-nil (λ t. 0 < length t.text)
some_from (suc left) at [] = All-nil (λ t. 0 < length t.text)
some_from (suc left) at (b ∷ z) = some_from left (suc at) z
some_from zero at (b ∷ z) = some_more (first_cut b z) at b z _ (some_from (whole_length (first_cut b z) z) (suc at) z)

some_matter : (found : Option ℕ) (at : ℕ) (z : List ℕ) → AreSome (matter_by found at z)
some_matter None at z = some_from 0 at z
some_matter (Some n) at [] = All-nil (λ t. 0 < length t.text)
some_matter (Some n) at (b ∷ z) =
    let c = cut kind.Frontmatter (n - 1) in some_more c at b z _ (some_from (whole_length c z) (suc at) z)

some_shebang : (at : ℕ) (z : List ℕ) → AreSome (shebang_from at z)
some_shebang at [] = All-nil (λ t. 0 < length t.text)
some_shebang at (b ∷ z) =
    let c = cut kind.Shebang (run_length class.Line z) in
    let rest = drop (whole_length c z) z in some_more c at b z _ (some_matter (frontmatter 0 rest) (at + suc (length (take (whole_length c z) z))) rest)

some_lines : (at : ℕ) (z : List ℕ) → AreSome (lines_from at z)
some_lines at z =
    cond_both (is_shebang (tokens_from 0 at z)) (shebang_from at z) (matter_from at z) AreSome (λ _. some_shebang at z) (λ _. some_matter (frontmatter 0 z) at z)

some_mark : (at : ℕ) (z : List ℕ) → AreSome (mark_from at z)
some_mark at [] = All-nil (λ t. 0 < length t.text)
some_mark at (b ∷ z) =
    let c = cut kind.ByteOrderMark 2 in some_more c at b z _ (some_lines (at + suc (length (take (whole_length c z) z))) (drop (whole_length c z) z))

pub not_empty : (f : Front) (at : ℕ) (z : List ℕ) → AreSome (pieces f at z)
not_empty front.Token at z = some_from 0 at z
not_empty front.Line at z = some_lines at z
not_empty front.Matter at z = some_matter (frontmatter 0 z) at z
not_empty front.Mark at z = cond_both (has_mark z) (mark_from at z) (lines_from at z) AreSome (λ _. some_mark at z) (λ _. some_lines at z)

-- ---- there are no more than bytes

few_from : (left at : ℕ) (z : List ℕ) → length (tokens_from left at z) ≤ length z
few_from zero at [] = omega arith
few_from (suc left) at [] = omega arith
few_from (suc left) at (b ∷ z) = omega (arith, few_from left (suc at) z)
few_from zero at (b ∷ z) = omega (arith, few_from (whole_length (first_cut b z) z) (suc at) z)

few_matter : (found : Option ℕ) (at : ℕ) (z : List ℕ) → length (matter_by found at z) ≤ length z
few_matter None at z = few_from 0 at z
few_matter (Some n) at [] = omega arith
few_matter (Some n) at (b ∷ z) = omega (arith, few_from (whole_length (cut kind.Frontmatter (n - 1)) z) (suc at) z)

few_shebang : (at : ℕ) (z : List ℕ) → length (shebang_from at z) ≤ length z
few_shebang at [] = omega arith
few_shebang at (b ∷ z) =
    let n = whole_length (cut kind.Shebang (run_length class.Line z)) z in
    let behind = few_matter (frontmatter 0 (drop n z)) (at + suc (length (take n z))) (drop n z) in omega (arith, behind, length-drop n z)

few_lines : (at : ℕ) (z : List ℕ) → length (lines_from at z) ≤ length z
few_lines at z =
    cond_both (is_shebang (tokens_from 0 at z)) (shebang_from at z) (matter_from at z) (λ ts. length ts ≤ length z)
    (λ _. few_shebang at z) (λ _. few_matter (frontmatter 0 z) at z)

few_mark : (at : ℕ) (z : List ℕ) → length (mark_from at z) ≤ length z
few_mark at [] = omega arith
few_mark at (b ∷ z) =
    let n = whole_length (cut kind.ByteOrderMark 2) z in
    let behind = few_lines (at + suc (length (take n z))) (drop n z) in omega (arith, behind, length-drop n z)

pub few : (f : Front) (at : ℕ) (z : List ℕ) → length (pieces f at z) ≤ length z
few front.Token at z = few_from 0 at z
few front.Line at z = few_lines at z
few front.Matter at z = few_matter (frontmatter 0 z) at z
few front.Mark at z =
    cond_both (has_mark z) (mark_from at z) (lines_from at z) (λ ts. length ts ≤ length z) (λ _. few_mark at z) (λ _. few_lines at z)

-- ---- and so of `tokens`

pub tokens_lossless : (z : List ℕ) → text_of (tokens z) ≡ z
unfolding tokens
tokens_lossless z = lossless front.Mark 0 z

pub tokens_placed : (z : List ℕ) → AreInPlace 0 (tokens z)
unfolding tokens
tokens_placed z = placed front.Mark 0 z

pub tokens_not_empty : (z : List ℕ) → AreSome (tokens z)
unfolding tokens
tokens_not_empty z = not_empty front.Mark 0 z
