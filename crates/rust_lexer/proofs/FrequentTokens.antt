-- The most frequent tokens, by their first byte alone.
use Rattle.std.proofs.Common.{◌≡◌, ℕ, ◌==◌, ◌||◌, true, false, List, refl, arith, nat_le}
use Rattle.rust_lexer.proofs.Common.{is_ascii_alphabetic, is_ascii_digit, nat_tests, is_white, is_wide_start, run_length, cut, first_cut, plain_word, slash, symbol_kind, is_blank_byte, is_letter, is_mark_byte, is_punctuation, is_significant_kind}
use Rattle.rust_lexer.specs.declared.bytes.Class.TheVariants as class
use Rattle.rust_lexer.specs.declared.kind.TokenKind.TheVariants as kind
use Rattle.rust_lexer.proofs.Cases.{when}

pub mark_first : (b : ℕ) (z : List ℕ) → is_mark_byte b ≡ true → first_cut b z ≡ cut (symbol_kind b) 0
unfolding first_cut is_wide_start
mark_first b z e =
    let white : is_white b z ≡ false = grind (arith, nat_tests) in
    let digit : is_ascii_digit b ≡ false = grind (arith, nat_tests) in
    let letter : (is_ascii_alphabetic b || b == 95) ≡ false = grind (arith, nat_tests) in
    let low : nat_le 192 b ≡ false = grind (arith, nat_tests) in
    let slash : (b == 47) ≡ false = grind (arith, nat_tests) in
    let quote : (b == 34) ≡ false = grind (arith, nat_tests) in
    let apostrophe : (b == 39) ≡ false = grind (arith, nat_tests) in
    rw (white, digit, letter, low, slash, quote, apostrophe) refl

pub blank_first : (b : ℕ) (z : List ℕ) → is_blank_byte b ≡ true → first_cut b z ≡ cut kind.Whitespace (run_length class.White z)
unfolding first_cut
blank_first b z e =
    let white : is_white b z ≡ true = grind (arith, nat_tests) in
    rw white refl

pub letter_first : (b : ℕ) (z : List ℕ) → is_letter b ≡ true → first_cut b z ≡ plain_word z
unfolding first_cut
letter_first b z e =
    let white : is_white b z ≡ false = grind (arith, nat_tests) in
    let digit : is_ascii_digit b ≡ false = grind (arith, nat_tests) in
    let letter : (is_ascii_alphabetic b || b == 95) ≡ true = grind (arith, nat_tests) in
    let r : (b == 114) ≡ false = grind (arith, nat_tests) in
    let byte : (b == 98) ≡ false = grind (arith, nat_tests) in
    let c : (b == 99) ≡ false = grind (arith, nat_tests) in
    rw (white, digit, letter, r, byte, c) refl

pub slash_first : (b : ℕ) (z : List ℕ) → b ≡ 47 → first_cut b z ≡ slash z
unfolding first_cut is_wide_start
slash_first b z e = rw e refl

-- a symbol counts
pub symbol_counts : (b : ℕ) → is_significant_kind (symbol_kind b) ≡ true
symbol_counts b =
    when (b == 40 || b == 91 || b == 123) (λ e. rw e refl)
    (λ e. when (b == 41 || b == 93 || b == 125) (λ f. rw (e, f) refl)
    (λ f. when (is_punctuation b) (λ g. rw (e, f, g) refl) (λ g. rw (e, f, g) refl)))
