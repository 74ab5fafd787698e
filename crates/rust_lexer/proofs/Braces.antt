-- Brackets of each kind are tokens that open or close, and no others are.
use Rattle.std.proofs.Common.{◌||◌, ◌&&◌, Bool, ◌≡◌, ℕ, ◌==◌, true, false, Option, Some, None, List, drop, refl, sym, subst, All, not, slice_index}
use Rattle.rust_lexer.proofs.Common.{eqb-true, All-cons, All-nil, Cut, TokenKind, run_length, is_start, is_white, is_word, is_word_start, cut, first_cut, quoted_literal, plain_word, raw_or, raw_identifier, prefixed_raw, b_word, c_word, cut_word, slash, is_raw_lifetime, lifetime, apostrophe, is_punctuation, symbol_kind, is_one_char, raw_string, is_ascii_digit, LiteralKind, Extent, Piece, symbol_from, symbol_of, piece, tokens}
use Rattle.rust_lexer.specs.declared.bytes.Class.TheVariants as class
use Rattle.rust_lexer.specs.declared.kind.TokenKind.TheVariants as kind
use Rattle.rust_lexer.proofs.TokenInduction.{is_front, each_token}

abbrev pub is_open_kind : TokenKind → Bool
is_open_kind kind.OpenDelim = true
is_open_kind _ = false

abbrev pub is_close_kind : TokenKind → Bool
is_close_kind kind.CloseDelim = true
is_close_kind _ = false

-- its kind tells whether it is a bracket, and its byte which
pub record IsBracket (t : Piece) : Type 0 where
  pub opening : is_open_kind t.kind ≡ (symbol_of t == 123 || (symbol_of t == 40 || symbol_of t == 91))
  pub closing : is_close_kind t.kind ≡ (symbol_of t == 125 || (symbol_of t == 41 || symbol_of t == 93))

-- the same of a kind and a first byte
record Fits (k : TokenKind) (b : ℕ) : Type 0 where
  opening : is_open_kind k ≡ (symbol_from k b == 123 || (symbol_from k b == 40 || symbol_from k b == 91))
  closing : is_close_kind k ≡ (symbol_from k b == 125 || (symbol_from k b == 41 || symbol_from k b == 93))

-- neither a bracket nor punctuation
abbrev is_other : TokenKind → Bool
is_other kind.OpenDelim = false
is_other kind.CloseDelim = false
is_other kind.Punct = false
is_other _ = true

other_fits : (k : TokenKind) (b : ℕ) → is_other k ≡ true → Fits k b
other_fits kind.OpenDelim b e = absurd cc
other_fits kind.CloseDelim b e = absurd cc
other_fits kind.Punct b e = absurd cc
other_fits _ b e = record { opening = refl; closing = refl }

by_test : {A : Type 0} (t : Bool) → (t ≡ true → A) → (t ≡ false → A) → A
by_test true so not_so = so refl
by_test false so not_so = not_so refl

quoted_other : (k : LiteralKind) (e : Extent) (z : List ℕ) → is_other (quoted_literal k e z).kind ≡ true
quoted_other k e z = by_test e.is_closed (λ f. rw f refl) (λ f. rw f refl)

raw_other : (k : LiteralKind) (o : Cut) (z : List ℕ) (e : Option Extent) → is_other o.kind ≡ true → is_other (raw_or k o z e).kind ≡ true
raw_other k o z None h = h
raw_other k o z (Some e) h = quoted_other k e z

identifier_other : (z : List ℕ) → is_other (raw_identifier z).kind ≡ true
identifier_other z = by_test (slice_index z 0 == 35 && is_word_start (drop 1 z)) (λ f. rw f refl) (λ f. rw f refl)

prefixed_other : (k : LiteralKind) (z : List ℕ) → is_other (prefixed_raw k z).kind ≡ true
prefixed_other k z = by_test (slice_index z 0 == 114) (λ f. rw f (raw_other k (plain_word z) z (raw_string 1 (drop 1 z)) refl)) (λ f. rw f refl)

b_other : (z : List ℕ) → is_other (b_word z).kind ≡ true
b_other z =
    by_test (slice_index z 0 == 34) (λ f. rw f (quoted_other _ _ z))
    (λ f. rw f (by_test (slice_index z 0 == 39) (λ g. rw g (quoted_other _ _ z)) (λ g. rw g (prefixed_other _ z))))

c_other : (z : List ℕ) → is_other (c_word z).kind ≡ true
c_other z = by_test (slice_index z 0 == 34) (λ f. rw f (quoted_other _ _ z)) (λ f. rw f (prefixed_other _ z))

word_other : (b : ℕ) (z : List ℕ) → is_other (cut_word b z).kind ≡ true
word_other b z =
    by_test (b == 114) (λ e. rw e (raw_other _ (raw_identifier z) z (raw_string 0 z) (identifier_other z)))
    (λ e. rw e (by_test (b == 98) (λ f. rw f (b_other z)) (λ f. rw f (by_test (b == 99) (λ g. rw g (c_other z)) (λ g. rw g refl)))))

lifetime_other : (z : List ℕ) → is_other (lifetime z).kind ≡ true
lifetime_other z =
    by_test (is_raw_lifetime z) (λ e. rw e refl)
    (λ e. rw e (by_test (slice_index z (run_length class.Word z) == 39) (λ f. rw f refl) (λ f. rw f refl)))

apostrophe_other : (z : List ℕ) → is_other (apostrophe z).kind ≡ true
apostrophe_other z = by_test (is_word z && not (is_one_char z)) (λ e. rw e (lifetime_other z)) (λ e. rw e (quoted_other _ _ z))

slash_fits : (z : List ℕ) → Fits (slash z).kind 47
slash_fits z =
    by_test (slice_index z 0 == 47) (λ e. rw e (record { opening = refl; closing = refl }))
    (λ e. rw e (by_test (slice_index z 0 == 42) (λ f. rw f (record { opening = refl; closing = refl })) (λ f. rw f (record { opening = refl; closing = refl }))))

same_fits : (n b : ℕ) → (b == n) ≡ true → Fits (symbol_kind n) n → Fits (symbol_kind b) b
same_fits n b e h = subst (λ (m : ℕ). Fits (symbol_kind m) m) (sym (eqb-true b n e)) h

symbol_fits : (b : ℕ) → Fits (symbol_kind b) b
symbol_fits b =
    by_test (b == 40) (λ e. same_fits 40 b e (record { opening = refl; closing = refl }))
    (λ e. by_test (b == 91) (λ f. same_fits 91 b f (record { opening = refl; closing = refl }))
    (λ f. by_test (b == 123) (λ g. same_fits 123 b g (record { opening = refl; closing = refl }))
    (λ g. by_test (b == 41) (λ h. same_fits 41 b h (record { opening = refl; closing = refl }))
    (λ h. by_test (b == 93) (λ i. same_fits 93 b i (record { opening = refl; closing = refl }))
    (λ i. by_test (b == 125) (λ j. same_fits 125 b j (record { opening = refl; closing = refl }))
    (λ j. by_test (is_punctuation b) (λ k. rw (e, f, g, h, i, j, k) (record { opening = rw (e, f, g) refl; closing = rw (h, i, j) refl }))
    (λ k. rw (e, f, g, h, i, j, k) (record { opening = refl; closing = refl }))))))))

first_fits : (b : ℕ) (z : List ℕ) → Fits (first_cut b z).kind b
unfolding first_cut
first_fits b z =
    by_test (is_white b z) (λ e. rw e (other_fits kind.Whitespace b refl))
    (λ e. rw e (by_test (is_ascii_digit b) (λ f. rw f (record { opening = refl; closing = refl }))
    (λ f. rw f (by_test (is_start b z) (λ g. rw g (other_fits (cut_word b z).kind b (word_other b z)))
    (λ g. rw g (by_test (b == 47) (λ h. rw h (subst (λ (n : ℕ). Fits (slash z).kind n) (sym (eqb-true b 47 h)) (slash_fits z)))
    (λ h. rw h (by_test (b == 34) (λ i. rw i (other_fits _ b (quoted_other _ _ z)))
    (λ i. rw i (by_test (b == 39) (λ j. rw j (other_fits (apostrophe z).kind b (apostrophe_other z))) (λ j. rw j (symbol_fits b))))))))))))

first_bracket : (at b : ℕ) (z : List ℕ) → IsBracket (piece (first_cut b z) at b z)
first_bracket at b z = let f = first_fits b z in record { opening = f.opening; closing = f.closing }

abbrev pub AreBrackets : List Piece → Type 0
AreBrackets ts = All IsBracket ts

front_other : (k : TokenKind) → is_front k ≡ true → is_other k ≡ true
front_other kind.ByteOrderMark e = refl
front_other kind.Shebang e = refl
front_other kind.Frontmatter e = refl
front_other _ e = absurd cc

front_bracket : (k : TokenKind) (n at b : ℕ) (z : List ℕ) → is_front k ≡ true → IsBracket (piece (cut k n) at b z)
front_bracket k n at b z e = let f = other_fits k b (front_other k e) in record { opening = f.opening; closing = f.closing }

pub tokens_brackets : (z : List ℕ) → AreBrackets (tokens z)
tokens_brackets z =
    each_token AreBrackets (All-nil IsBracket) (λ at b z ts h. All-cons IsBracket (piece (first_cut b z) at b z) ts (first_bracket at b z) h)
    (λ k n at b z ts e h. All-cons IsBracket (piece (cut k n) at b z) ts (front_bracket k n at b z e) h) z
