-- Where fields and an empty line end, and that no whole message is read before a cut.
use Rattle.std.proofs.Common.{◌≡◌, ◌↔◌, ◌≤◌, ◌^◌, Option, Some, None, map, get_or, ◌≢◌, ◌==◌, Bool, true, false, cond, drop, zero, suc, eqb-true, ◌⊎◌, inl, inr, ◌<◌, ℕ, List, [], ◌∷◌, ◌++◌, length, flat_map, refl, sym, ap, subst, ◌∙◌, append_assoc, append-nil, length-append, arith}
use Rattle.httparse.specs.Grammar.{Field, LineEnd, HasNoSection, ReadsSection, print_end, print_field, print_section}
use Rattle.httparse.specs.Borrowed.{header_parts}
use Rattle.httparse.specs.declared.borrowed.Header.{Header}
use Rattle.std.specs.Prelude.{IfNone}
use Rattle.httparse.specs.Grammar.LineEnd.{crlf, lf}
use Rattle.httparse.proofs.GrammarLemmas.{ReadsSection-append}
use Rattle.std.proofs.lemmas.Fmt.{IsAscii-from_digits}
use Rattle.std.proofs.lemmas.List.Elements.{All-cons, All-head, All-nil, All-tail}
use Rattle.std.proofs.lemmas.Str.{IsUtf8-from_ascii}
use Rattle.std.proofs.lemmas.Str.Ascii.{IsAscii-nil}
use Rattle.std.specs.Str.{IsAscii, IsUtf8}
use Rattle.std.specs.Str.Parse.{AllDigits}
use Rattle.message_stream.proofs.Common.{HasNoFeed}
use Rattle.message_stream.proofs.UniqueMessages.{one_header}
use Rattle.message_stream.specs.Headers.{HasNoLength, HasNoMessage, IsLengthName, IsLengthValue, IsNumberOf, SaysLength}
use Rattle.message_stream.specs.Inner.{HasNothingBehind}

-- ---- one list in two ways

abbrev IsPartedTwice : (a b c d : List ℕ) → Type 0
IsPartedTwice a b c d = ((m : List ℕ) × (c ≡ a ++ m) × (b ≡ m ++ d)) ⊎ ((m : List ℕ) × (a ≡ c ++ m) × (d ≡ m ++ b))

parted_behind : (x y : ℕ) (a b c d : List ℕ) → x ≡ y → IsPartedTwice a b c d → IsPartedTwice (x ∷ a) b (y ∷ c) d
parted_behind x y a b c d same (inl (m, p, q)) = let longer : y ∷ c ≡ x ∷ (a ++ m) = cc in inl (m, longer, q)
parted_behind x y a b c d same (inr (m, p, q)) = let longer : x ∷ a ≡ y ∷ (c ++ m) = cc in inr (m, longer, q)

parted : (a b c d : List ℕ) → a ++ b ≡ c ++ d → IsPartedTwice a b c d
parted [] b c d e = inl (c, refl, e)
parted (x ∷ a) b [] d e = inr (x ∷ a, refl, sym e)
parted (x ∷ a) b (y ∷ c) d e =
    let first : x ≡ y = cc in
    let rest : a ++ b ≡ c ++ d = cc in
    parted_behind x y a b c d first (parted a b c d rest)

-- ---- line feeds

abbrev is_no_feed : ℕ → Type 0
is_no_feed byte = byte ≢ 10

last_feed : (k : List ℕ) → HasNoFeed (k ++ 10 ∷ []) → ⊥
last_feed [] none = All-head is_no_feed 10 [] none refl
last_feed (x ∷ k) none = last_feed k (All-tail is_no_feed x (k ++ 10 ∷ []) none)

front_feedless : (m rest : List ℕ) → HasNoFeed (m ++ rest) → HasNoFeed m
front_feedless [] rest none = All-nil is_no_feed
front_feedless (x ∷ m) rest none = All-cons is_no_feed x m (All-head is_no_feed x (m ++ rest) none) (front_feedless m rest (All-tail is_no_feed x (m ++ rest) none))

nothing_left : (k m : List ℕ) → [] ≡ k ++ m → m ≡ []
nothing_left [] m e = sym e
nothing_left (x ∷ k) m e = absurd cc

feed_left : (k m : List ℕ) → 10 ∷ [] ≡ k ++ m → HasNoFeed m → m ≡ []
feed_left [] m e none = absurd (last_feed [] (subst HasNoFeed (sym e) none))
feed_left (x ∷ k) m e none = let rest : [] ≡ k ++ m = cc in nothing_left k m rest

-- what ends with a line feed ends with nothing that has none
feedless_end : (front old m : List ℕ) → front ++ 10 ∷ [] ≡ old ++ m → HasNoFeed m → m ≡ []
feedless_end front old m e none = by_parts (parted front (10 ∷ []) old m e)
  where
    by_parts : IsPartedTwice front (10 ∷ []) old m → m ≡ []
    by_parts (inl (k, p, q)) = feed_left k m q none
    by_parts (inr (k, p, q)) = absurd (last_feed k (subst HasNoFeed q none))

-- ---- sections

end_feed : (last : LineEnd) → (front : List ℕ) × (print_end last ≡ front ++ 10 ∷ [])
end_feed crlf = (13 ∷ [], refl)
end_feed lf = ([], refl)

section_feed : (fields : List Field) (last : LineEnd) → (front : List ℕ) × (print_section fields last ≡ front ++ 10 ∷ [])
section_feed fields last =
    let (front, e) = end_feed last in
    let lines = flat_map print_field fields in
    (lines ++ front, ap (λ l. lines ++ l) e ∙ sym (append_assoc lines front (10 ∷ [])))

-- a part of a line makes no section of bytes that have none
pub no_section : (old line : List ℕ) → HasNoSection old → HasNoFeed line → HasNoSection (old ++ line)
no_section old line none feedless fields last rest (all, e) = by_parts (parted old line (print_section fields last) rest e)
  where
    by_parts : IsPartedTwice old line (print_section fields last) rest → ⊥
    by_parts (inl (m, p, q)) =
        let (front, feed) = section_feed fields last in
        let empty = feedless_end front old m (sym feed ∙ p) (front_feedless m rest (subst HasNoFeed q feedless)) in
        none fields last [] (all, sym (append-nil old) ∙ ap (λ l. old ++ l) (sym empty) ∙ sym p ∙ sym (append-nil (print_section fields last)))
    by_parts (inr (m, p, q)) = none fields last m (all, p)

-- the line feed of the line makes one at most, of all of them
pub nothing_behind : (old line : List ℕ) → HasNoSection old → HasNoFeed line → HasNothingBehind (old ++ (line ++ 10 ∷ []))
nothing_behind old line none feedless fields last rest (all, e) =
    by_parts (parted (old ++ line) (10 ∷ []) (print_section fields last) rest (append_assoc old line (10 ∷ []) ∙ e))
  where
    by_parts : IsPartedTwice (old ++ line) (10 ∷ []) (print_section fields last) rest → rest ≡ []
    by_parts (inl ([], p, q)) = absurd (no_section old line none feedless fields last [] (all, sym (append-nil (old ++ line)) ∙ sym p ∙ sym (append-nil (print_section fields last))))
    by_parts (inl (x ∷ m, p, q)) = let left : [] ≡ m ++ rest = cc in nothing_left m rest left
    by_parts (inr (m, p, q)) = absurd (no_section old line none feedless fields last m (all, p))

-- ---- before a cut

pub nothing_read : HasNoSection []
nothing_read fields last rest (all, e) = let (front, feed) = section_feed fields last in absurd (no_feed front (e ∙ ap (λ l. l ++ rest) feed))
  where
    no_feed : (front : List ℕ) → [] ≡ (front ++ 10 ∷ []) ++ rest → ⊥
    no_feed [] e = absurd cc
    no_feed (x ∷ front) e = absurd cc

pub header_some : (header : List ℕ) (n : ℕ) → SaysLength header n → 0 < length header
header_some header n (fields, last, (all, e), value) =
    let (front, feed) = section_feed fields last in
    let bytes = e ∙ append-nil (print_section fields last) ∙ feed in
    let long = length-append front (10 ∷ []) in
    omega (arith, ap length bytes, long)

pub no_message : (bytes : List ℕ) → HasNoSection bytes → HasNoMessage bytes
no_message bytes none first message rest e (header, both, (short, (fields, last, reads, value))) =
    let apart = e ∙ ap (λ l. l ++ rest) both ∙ append_assoc header message rest in
    none fields last (message ++ rest) (subst (λ b. ReadsSection b fields last (message ++ rest)) (sym apart) (ReadsSection-append header fields last [] (message ++ rest) reads))

pub no_whole_message : (header read : List ℕ) (n : ℕ) → SaysLength header n → length read < n → HasNoMessage (header ++ read)
no_whole_message header read n says short first message rest e (also, both, was) =
    let apart = e ∙ ap (λ l. l ++ rest) both ∙ append_assoc also message rest in
    let (same, long, body) = one_header header also read (message ++ rest) n (length message) says was.1 apart in
    omega (arith, short, long, ap length body, length-append message rest)

-- ---- lengths

plus_ascii : (is_plus : Bool) (c : ℕ) (cs : List ℕ) → (c == 43) ≡ is_plus → AllDigits 10 (drop (cond is_plus 1 0) (c ∷ cs)) → IsAscii (c ∷ cs)
plus_ascii true c cs plus digits zero = omega (arith, eqb-true c 43 plus)
plus_ascii true c cs plus digits (suc i) = IsAscii-from_digits cs digits i
plus_ascii false c cs plus digits i = IsAscii-from_digits (c ∷ cs) digits i

-- the value of a length is of UTF-8
pub number_utf8 : (value : List ℕ) (n : ℕ) → IsNumberOf value n → IsUtf8 value
number_utf8 [] n is = IsUtf8-from_ascii [] IsAscii-nil
number_utf8 (c ∷ cs) n ((some, digits), is) = IsUtf8-from_ascii (c ∷ cs) (plus_ascii (c == 43) c cs refl digits)

-- ---- fields that say no length

abbrev IsSaidAlike : (left all : List Header) → Type 0
IsSaidAlike left all = (value : List ℕ) → IsLengthValue (map header_parts left) value ↔ IsLengthValue (map header_parts all) value

-- the first that is left has the name, and no number
pub first_unsaid : (left all : List Header) (z : Header) → IsSaidAlike left all → 1 ≤ length left → IsLengthName (get_or left 0 z).name.now
    → ((n : ℕ) → IsNumberOf (get_or left 0 z).value.now n → 2 ^ 64 ≤ n) → HasNoLength (map header_parts all)
first_unsaid [] all z same some named none value n says number = omega (arith, some)
first_unsaid (first ∷ left) all z same some named none value n says number = by_first ((same value).1 says)
  where
    by_first : IsLengthValue (map header_parts (first ∷ left)) value → 2 ^ 64 ≤ n
    by_first (inl (is, e)) = none n (subst (λ v. IsNumberOf v n) e number)
    by_first (inr (other, is)) = absurd (other named)

-- none is left
pub none_unsaid : (left all : List Header) → IsSaidAlike left all → length left < 1 → HasNoLength (map header_parts all)
none_unsaid [] all same none value n says number = absurd ((same value).1 says)
none_unsaid (first ∷ left) all same none value n says number = omega (arith, none)

pub on_none : {P Q : Type 0} (o : Option ℕ) → (P → Q) → IfNone o P → IfNone o Q
on_none None f p = f p
on_none (Some n) f p = tt
