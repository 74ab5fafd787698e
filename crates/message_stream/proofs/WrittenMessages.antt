-- What is written behind a header is a message.
use Rattle.std.proofs.Common.{◌≡◌, inl, ℕ, ◌<◌, ◌≤◌, ◌^◌, ◌==◌, false, IsTrue, List, [], ◌∷◌, ◌++◌, codes, decimal, length, length-append, reverse, refl, sym, ap, ◌∙◌, append_assoc, append-nil, arith}
use Rattle.std.proofs.lemmas.Bool.Decides.{nat_tests}
use Rattle.std.proofs.lemmas.Fmt.{decimal_is_IsNumeral, length-decimal-le}
use Rattle.std.proofs.lemmas.List.Elements.{All-cons, All-from_recursion, All-head, All-nil, All-tail}
use Rattle.std.proofs.lemmas.Str.Parse.{digit_from_value}
use Rattle.std.specs.Char.{is_ascii_digit}
use Rattle.std.specs.Str.Parse.{AllDigits, without_leading_plus}
use Rattle.httparse.specs.Grammar.{AllPass, Field, IsField, crlf, is_ows, is_token_byte, is_value_byte, print_section, skip_ows, trim_ows}
use Rattle.httparse.proofs.TrimLemmas.{AllPass-reverse, trim_ows_space}
use Rattle.message_stream.specs.declared.sections.TheConstants.{MOST_HEADER}
use Rattle.message_stream.specs.Headers.{IsHeaded, IsHeader, IsNumberOf, with_header, length_header}

digit_passes : (c : ℕ) (cs : List ℕ) → AllDigits 10 (c ∷ cs) → IsTrue (is_ascii_digit c)
digit_passes c cs d = let r = digit_from_value c d.0 in grind (arith, nat_tests, r)

digits_pass : (ds : List ℕ) → AllDigits 10 ds → AllPass is_ascii_digit ds
digits_pass [] d = All-nil _
digits_pass (c ∷ cs) d = All-cons (λ b. IsTrue (is_ascii_digit b)) c cs (digit_passes c cs d) (digits_pass cs d.1)

no_space : (c : ℕ) → IsTrue (is_ascii_digit c) → is_ows c ≡ false
no_space c d = grind (arith, nat_tests, d)

-- digits have no white space in front
none_skipped : (ds : List ℕ) → AllPass is_ascii_digit ds → skip_ows ds ≡ ds
none_skipped [] pass = refl
none_skipped (c ∷ cs) pass = rw (no_space c (All-head (λ b. IsTrue (is_ascii_digit b)) c cs pass)) refl

digits_trimmed : (ds : List ℕ) → AllPass is_ascii_digit ds → trim_ows (32 ∷ ds) ≡ ds
digits_trimmed ds pass = trim_ows_space ds (none_skipped ds pass) (none_skipped (reverse ds) (AllPass-reverse is_ascii_digit ds pass))

value_byte : (c : ℕ) → IsTrue (is_ascii_digit c) → IsTrue (is_value_byte c)
value_byte c d = grind (arith, nat_tests, d)

value_bytes : (ds : List ℕ) → AllPass is_ascii_digit ds → AllPass is_value_byte ds
value_bytes [] pass = All-nil _
value_bytes (c ∷ cs) pass =
    All-cons (λ b. IsTrue (is_value_byte b)) c cs (value_byte c (All-head (λ b. IsTrue (is_ascii_digit b)) c cs pass)) (value_bytes cs (All-tail (λ b. IsTrue (is_ascii_digit b)) c cs pass))

no_plus : (ds : List ℕ) → AllPass is_ascii_digit ds → without_leading_plus ds ≡ ds
no_plus [] pass = refl
no_plus (c ∷ cs) pass =
    let d = All-head (λ b. IsTrue (is_ascii_digit b)) c cs pass in
    let other : (c == 43) ≡ false = grind (arith, nat_tests, d) in
    rw other refl

name_passes : AllPass is_token_byte (codes "Content-Length")
unfolding is_token_byte
name_passes =
    All-from_recursion (λ b. IsTrue (is_token_byte b)) (codes "Content-Length")
    (refl, (refl, (refl, (refl, (refl, (refl, (refl, (refl, (refl, (refl, (refl, (refl, (refl, (refl, tt))))))))))))))

field_of : ℕ → Field
field_of n = record { name = codes "Content-Length"; raw = 32 ∷ decimal n; end = crlf }

module _ (n : ℕ) (small : n < 2 ^ 64) where
  digits : AllPass is_ascii_digit (decimal n)
  digits = digits_pass (decimal n) (decimal_is_IsNumeral n small).0.1

  is_field : IsField (field_of n)
  unfolding field_of
  is_field = record {
    name = (omega arith, name_passes);
    raw = All-cons (λ b. IsTrue (is_value_byte b)) 32 (decimal n) refl (value_bytes (decimal n) digits);
  }

  same_bytes : length_header n ≡ print_section (field_of n ∷ []) crlf ++ []
  unfolding field_of
  same_bytes =
      ap (λ l. codes "Content-Length: " ++ l)
      (sym (append_assoc (decimal n) (13 ∷ 10 ∷ []) (13 ∷ 10 ∷ [])) ∙ ap (λ l. l ++ 13 ∷ 10 ∷ []) (sym (append-nil (decimal n ++ 13 ∷ 10 ∷ []))) ∙ sym (append-nil _))

  is_number : IsNumberOf (trim_ows (32 ∷ decimal n)) n
  is_number =
      let value = digits_trimmed (decimal n) digits in
      let whole : without_leading_plus (trim_ows (32 ∷ decimal n)) ≡ decimal n = ap without_leading_plus value ∙ no_plus (decimal n) digits in
      (rw whole (decimal_is_IsNumeral n small).0, rw whole (sym (decimal_is_IsNumeral n small).1))

  short : length (length_header n) ≤ MOST_HEADER
  short =
      let few = length-decimal-le 20 n (omega arith) (omega (arith, small)) small in
      let whole = length-append (codes "Content-Length: ") (decimal n ++ 13 ∷ 10 ∷ 13 ∷ 10 ∷ []) in
      let line = length-append (decimal n) (13 ∷ 10 ∷ 13 ∷ 10 ∷ []) in
      omega (arith, few, whole, line)

  is_header : IsHeader (length_header n) n
  unfolding field_of
  is_header = (
    short,
    (
      field_of n ∷ [],
      crlf,
      (All-cons IsField (field_of n) [] is_field (All-nil IsField), same_bytes),
      (trim_ows (32 ∷ decimal n), inl (refl, refl), is_number),
    ),
  )

-- a text behind its header
pub headed_is : (text : List ℕ) → length text < 2 ^ 64 → IsHeaded (with_header text) text
headed_is text small = (length_header (length text), refl, is_header (length text) small)
