-- Bytes begin with one message behind a header at most.
use Rattle.std.proofs.Common.{◌≡◌, inl, inr, ℕ, List, [], ◌∷◌, ◌++◌, length, map, take, sym, ap, subst, ◌∙◌, append_assoc}
use Rattle.std.proofs.Math.Seq.{take-append_seam}
use Rattle.std.specs.Str.Parse.{digits_value, without_leading_plus}
use Rattle.httparse.specs.Grammar.{ReadsSection, print_section}
use Rattle.httparse.specs.Spans.{name_and_value}
use Rattle.httparse.proofs.GrammarLemmas.{ReadsSection-append, section_unique}
use Rattle.message_stream.specs.Headers.{IsHeaded, SaysLength, IsLengthValue, IsNumberOf}

one_value : (fields : List (List ℕ × List ℕ)) (value other : List ℕ) → IsLengthValue fields value → IsLengthValue fields other → value ≡ other
one_value [] value other is was = absurd is
one_value (field ∷ fields) value other (inl is) (inl was) = is.1 ∙ sym was.1
one_value (field ∷ fields) value other (inl is) (inr was) = absurd (was.0 is.0)
one_value (field ∷ fields) value other (inr is) (inl was) = absurd (is.0 was.0)
one_value (field ∷ fields) value other (inr is) (inr was) = one_value fields value other is.1 was.1

one_number : (value other : List ℕ) (n m : ℕ) → value ≡ other → IsNumberOf value n → IsNumberOf other m → n ≡ m
one_number value other n m same is was = is.1 ∙ ap (λ v. digits_value 10 (without_leading_plus v)) same ∙ sym was.1

-- two headers before what follows them
pub one_header : (header other body rest : List ℕ) (n m : ℕ) → SaysLength header n → SaysLength other m → header ++ body ≡ other ++ rest → (header ≡ other) × (n ≡ m) × (body ≡ rest)
one_header header other body rest n m (fields, last, reads, (value, is_value, is_number)) (others, end, read, (was, was_value, was_number)) same =
    let (same_fields, same_last, same_rest) =
    section_unique (header ++ body) fields others last end body rest (ReadsSection-append header fields last [] body reads)
    (subst (λ b. ReadsSection b others end rest) (sym same) (ReadsSection-append other others end [] rest read)) in (
      reads.1 ∙ ap (λ f. print_section f last ++ []) same_fields ∙ ap (λ l. print_section others l ++ []) same_last ∙ sym read.1,
      one_number value was n m (one_value (map name_and_value others) value was (subst (λ f. IsLengthValue (map name_and_value f) value) same_fields is_value) was_value) is_number was_number,
      same_rest,
    )

front : (one other rest more : List ℕ) → length one ≡ length other → one ++ rest ≡ other ++ more → one ≡ other
front one other rest more long same = sym (take-append_seam one rest) ∙ ap (λ n. take n (one ++ rest)) long ∙ ap (take (length other)) same ∙ take-append_seam other more

pub one_message : (one other message said rest more : List ℕ) → IsHeaded one message → IsHeaded other said → one ++ rest ≡ other ++ more → (one ≡ other) × (message ≡ said)
one_message one other message said rest more (header, both, is) (also, other_both, was) same =
    let apart : header ++ (message ++ rest) ≡ also ++ (said ++ more) =
    sym (append_assoc header message rest) ∙ ap (λ l. l ++ rest) (sym both) ∙ same ∙ ap (λ l. l ++ more) other_both ∙ append_assoc also said more in
    let (same_header, same_length, same_rest) = one_header header also (message ++ rest) (said ++ more) (length message) (length said) is.1 was.1 apart in
    let bodies = front message said rest more same_length same_rest in
    (both ∙ ap (λ h. h ++ message) same_header ∙ ap (λ b. also ++ b) bodies ∙ sym other_both, bodies)
