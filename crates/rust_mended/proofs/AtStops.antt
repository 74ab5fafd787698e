-- A text that ends with a `{`, a `}` or a `;` as a token stands apart from what is behind the end of its line.
use Rattle.std.proofs.Common.{◌≡◌, refl, ◌∙◌, ap, sym, ℕ, suc, ◌+◌, true, false, List, [], ◌∷◌, ◌++◌, length, map, arith, append_assoc, length-append, slice_index}
use Rattle.std.proofs.lemmas.Bool.Decides.{nat_tests}
use Rattle.std.specs.List.{list_all}
use Rattle.rust_lexer.specs.Alone.{EndsAlone, Stop, moved_piece, stop}
use Rattle.rust_lexer.specs.Bytes.{is_continuation}
use Rattle.rust_lexer.specs.Inner.{begins_front, is_blank_byte}
use Rattle.rust_lexer.specs.Tokens.{tokens, tokens_from}
use Rattle.rust_lexer.proofs.TextsApart.{tokens_first, tokens_moved}
use Rattle.rust_lexer.proofs.Cases.{when}
use Rattle.rust_lexer.proofs.WholeTexts.{bare_is}
use Rattle.rust_mended.specs.Apart.{StandApart}
use Rattle.rust_mended.specs.Texts.{is_matched, mended_text}
use Rattle.rust_mended.proofs.Joins.{matched_text}

-- blanks begin with a whole character
blanks_uncut : (z s : List ℕ) → list_all is_blank_byte z ≡ true → is_continuation (slice_index (z ++ 10 ∷ s) 0) ≡ false
blanks_uncut [] s h = refl
blanks_uncut (b ∷ z) s h = when (is_blank_byte b) (λ e. grind (arith, nat_tests)) (λ e. absurd cc)

moved_first : (d : ℕ) (y : List ℕ) → tokens_from 0 d y ≡ map (moved_piece d) (tokens_from 0 0 y)
moved_first d y = let on : d ≡ 0 + d = omega arith in ap (λ k. tokens_from 0 k y) on ∙ tokens_moved d 0 0 y

pub apart_at_stop : (w : List ℕ) (o : Stop) (z s : List ℕ) → EndsAlone w o → list_all is_blank_byte z ≡ true
    → tokens (w ++ stop o ∷ []) ≡ tokens_from 0 0 (w ++ stop o ∷ []) → tokens (w ++ stop o ∷ (z ++ 10 ∷ s)) ≡ tokens_from 0 0 (w ++ stop o ∷ (z ++ 10 ∷ s))
    → tokens s ≡ tokens_from 0 0 s → is_continuation (slice_index s 0) ≡ false → StandApart (w ++ stop o ∷ []) z s
apart_at_stop w o z s alone white bare whole second uncut =
    let q : List ℕ = w ++ stop o ∷ [] in
    let y : List ℕ = z ++ 10 ∷ s in
    let all : length q ≡ length w + 1 = length-append w (stop o ∷ []) in
    let long : 0 + suc (length w) ≡ length q = omega (arith, all) in
    record {
      blanks = white;
      ends = ap tokens (append_assoc w (stop o ∷ []) y) ∙ whole ∙ tokens_first o 0 w y alone (blanks_uncut z s white)
          ∙ ap (λ n. tokens_from 0 0 q ++ tokens_from 0 n y) long ∙ ap (λ ts. ts ++ tokens_from 0 (length q) y) (sym bare) ∙ ap (λ ts. tokens q ++ ts) (moved_first (length q) y);
      bare = second;
      uncut = uncut;
    }

-- where it begins with what stands in front of no text alone
pub apart_plain : (b : ℕ) (w : List ℕ) (o : Stop) (z s : List ℕ) → begins_front b ≡ false → EndsAlone (b ∷ w) o → list_all is_blank_byte z ≡ true
    → tokens s ≡ tokens_from 0 0 s → is_continuation (slice_index s 0) ≡ false → StandApart (b ∷ (w ++ stop o ∷ [])) z s
apart_plain b w o z s front alone white second uncut =
    apart_at_stop (b ∷ w) o z s alone white (sym (bare_is b (w ++ stop o ∷ []) front)) (sym (bare_is b (w ++ stop o ∷ (z ++ 10 ∷ s)) front)) second uncut

-- blanks up to the end of a line, in front of a text
pub blanks_text : (z s : List ℕ) → list_all is_blank_byte z ≡ true → tokens (z ++ 10 ∷ s) ≡ tokens_from 0 0 (z ++ 10 ∷ s) → tokens s ≡ tokens_from 0 0 s → is_continuation (slice_index s 0) ≡ false
    → mended_text (z ++ 10 ∷ s) ≡ z ++ 10 ∷ mended_text s
unfolding tokens is_matched
blanks_text z s white whole second uncut =
    matched_text [] z s (record { blanks = white; ends = whole ∙ moved_first 0 (z ++ 10 ∷ s); bare = second; uncut = uncut }) refl
