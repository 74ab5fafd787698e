-- A word that is a token of a text stands in it.
use Rattle.std.proofs.Common.{◌≡◌, ◌+◌, ◌++◌, ℕ, false, Option, Some, None, List, [], ◌∷◌, length, refl, sym, ap, ◌∙◌, subst, arith, slice_index, is_some, codes, ◌||◌}
use Rattle.std.proofs.lemmas.List.{get_or-append-add, get_or_append_left, length-append}
use Rattle.std.proofs.lemmas.Slice.Eq.{bytes_eq-Decides}
use Rattle.memchr.specs.Find.{FindsNeedle, OccursAt}
use Rattle.rust_cursor.specs.Words.{word_by}
use Rattle.rust_lexer.specs.Piece.{Piece}
use Rattle.rust_lexer.specs.Tokens.{text_of, tokens}
use Rattle.rust_lexer.specs.declared.kind.TokenKind.{TokenKind}
use Rattle.rust_lexer.specs.declared.kind.TokenKind.TheVariants as kinds
use Rattle.rust_lexer.specs.declared.lexer.Front.TheVariants as fronts
use Rattle.rust_lexer.proofs.Cases.{when}
use Rattle.rust_lexer.proofs.Laws.{lossless}
use Rattle.source_changes.specs.Bodies.{has_const_fn, has_word, is_this_word}

abbrev Absent : List ℕ → List ℕ → Type 0
Absent w z = (k : ℕ) → OccursAt z w k → ⊥

absent_behind : (w xs z : List ℕ) → Absent w (xs ++ z) → Absent w z
absent_behind w xs z a k o =
    let size = length-append xs z in
    a (length xs + k) (record {
      fits = omega (arith, o.fits, size);
      reads = λ j h. ap (slice_index (xs ++ z)) (omega arith) ∙ get_or-append-add xs z (k + j) 0 ∙ o.reads j h;
    })

word_first : (k : TokenKind) (text z : List ℕ) → OccursAt (text ++ z) (word_by k text) 0
word_first kinds.Ident text z = record { fits = omega (arith, length-append text z); reads = λ j h. ap (slice_index (text ++ z)) (omega arith) ∙ get_or_append_left text z 0 j h }
word_first _ text z = record { fits = omega arith; reads = λ j h. absurd (omega (arith, h)) }

absent_first : (w : List ℕ) (t : Piece) (z : List ℕ) → Absent w (t.text ++ z) → is_this_word w t ≡ false
absent_first w t z a =
    when (is_this_word w t)
    (λ e. absurd (a 0 (subst (λ v. OccursAt (t.text ++ z) v 0) ((bytes_eq-Decides (word_by t.kind t.text) w).0 e) (word_first t.kind t.text z))))
    (λ e. e)

absent_from : (w : List ℕ) (ts : List Piece) → Absent w (text_of ts) → has_word ts w ≡ false
absent_from w [] a = refl
absent_from w (t ∷ ts) a = rw (absent_first w t (text_of ts) a) (absent_from w ts (absent_behind w t.text (text_of ts) a))

missing : (w z : List ℕ) (r : Option ℕ) → FindsNeedle z w 0 r → is_some r ≡ false → Absent w z
missing w z None f e k o = f k (omega arith) (omega (arith, o.fits)) o
missing w z (Some i) f e k o = absurd cc

pub absent_word : (w z : List ℕ) (r : Option ℕ) → FindsNeedle z w 0 r → is_some r ≡ false → has_word (tokens z) w ≡ false
unfolding tokens
absent_word w z r f e = absent_from w (tokens z) (subst (Absent w) (sym (lossless fronts.Mark 0 z)) (missing w z r f e))

-- ---- functions that are constant

pub no_const_fn : (ts : List Piece) → has_word ts (codes "const") ≡ false → has_const_fn false ts ≡ false
no_const_fn [] e = refl
no_const_fn (t ∷ ts) e = when (is_this_word (codes "const") t) (λ c. absurd cc) (λ c. rw c (no_const_fn ts (left c)))
  where
    left : is_this_word (codes "const") t ≡ false → has_word ts (codes "const") ≡ false
    left c = subst (λ b. (b || has_word ts (codes "const")) ≡ false) c e
