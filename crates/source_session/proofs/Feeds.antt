-- No answer holds a line feed.
use Rattle.std.proofs.Common.{◌≡◌, ◌≢◌, ℕ, zero, suc, ◌+◌, ◌/◌, ◌%◌, ◌==◌, Bool, true, false, not, cond, ◌&&◌, ◌||◌, if◌then◌else◌, nat_lt, List, [], ◌∷◌, ◌++◌, Option, Some, None, Ok, Err, is_some, decimal, codes, refl, ap, ◌∙◌, arith, ⊎_elim, pos, negsuc}
use Rattle.std.specs.Fmt.{digits, digits_onto, digit_glyph}
use Rattle.std.specs.Char.{digit_char}
use Rattle.source_session.proofs.Common.{All-cons, All-nil, and_parts, cases_Bool, nat_tests, Open, Outcome, Replies, reply_number, reply_text}
use Rattle.json.specs.Print.{escape_letter, escape_byte, escape, quoted}
use Rattle.serde_json.specs.Data.{Num, unsigned, negative, float, Data, null, boolean, number, string, array, object, Items, no_items, item, Members, no_members, member}
use Rattle.serde_json.specs.View.{items_of}
use Rattle.serde_json.specs.Written.{number_text as digits_text, comma_if, compact_text, items_text, members_text}
use Rattle.message_stream.specs.Lines.{HasNoFeed}
use Rattle.message_stream.specs.Messages.{Told}
use Rattle.source_session.specs.Errors.{error_form}
use Rattle.source_session.specs.Replies.{number_text, outcome_text}

abbrev feedless : List ℕ → Bool
feedless [] = true
feedless (b ∷ bs) = not (b == 10) && feedless bs

join : (xs ys : List ℕ) → feedless xs ≡ true → feedless ys ≡ true → feedless (xs ++ ys) ≡ true
join [] ys h g = g
join (x ∷ xs) ys h g =
    let p = and_parts (not (x == 10)) (feedless xs) h in
    rw (p.0, join xs ys p.1 g) refl

no_feed : (bs : List ℕ) → feedless bs ≡ true → HasNoFeed bs
no_feed [] h = All-nil (λ byte. byte ≢ 10)
no_feed (b ∷ bs) h =
    let p = and_parts (not (b == 10)) (feedless bs) h in
    All-cons (λ byte. byte ≢ 10) b bs (λ e. grind (arith, nat_tests, p.0, e)) (no_feed bs p.1)

one : (b : ℕ) → b ≢ 10 → not (b == 10) ≡ true
one b h = grind (arith, nat_tests, h)

-- ---- numbers

glyph_other : (upper : Bool) (d : ℕ) → (if upper then 55 + d else 87 + d) ≢ 10
glyph_other true d e = omega (arith, e)
glyph_other false d e = omega (arith, e)

glyph : (upper : Bool) (d : ℕ) → digit_glyph upper d ≢ 10
glyph upper d e = ⊎_elim (λ t. let f : 48 + d ≡ 10 = rw t at e in omega (arith, f)) (λ t. glyph_other upper d (rw t at e)) (cases_Bool (nat_lt d 10))

onto : (k base : ℕ) (upper : Bool) (n : ℕ) (acc : List ℕ) → feedless acc ≡ true → feedless (digits_onto k base upper n acc) ≡ true
onto zero base upper n acc h = h
onto (suc k) base upper n acc h =
    let more : feedless (digit_glyph upper (n % base) ∷ acc) ≡ true = rw (one (digit_glyph upper (n % base)) (glyph upper (n % base)), h) refl in
    ⊎_elim (λ t. rw t more) (λ t. rw t (onto k base upper (n / base) (digit_glyph upper (n % base) ∷ acc) more)) (cases_Bool (n / base == 0))

decimals : (n : ℕ) → feedless (decimal n) ≡ true
unfolding digits
decimals n = onto 64 10 false n [] refl

numbers : (n : Num) → feedless (digits_text n) ≡ true
numbers (unsigned n) = decimals n
numbers (negative (pos n)) = decimals n
numbers (negative (negsuc n)) = decimals (suc n)
numbers (float x) = refl

-- ---- strings

hex : (d : ℕ) → digit_char d ≢ 10
hex d e = ⊎_elim (λ t. let f : 48 + d ≡ 10 = rw t at e in omega (arith, f)) (λ t. let f : 87 + d ≡ 10 = rw t at e in omega (arith, f)) (cases_Bool (nat_lt d 10))

letter_by : (x : ℕ) → x ≢ 10 → (a b c d e f : Bool) → cond a x (cond b 98 (cond c 102 (cond d 110 (cond e 114 (cond f 116 0))))) ≢ 10
letter_by x h true b c d e f = h
letter_by x h false true c d e f = λ q. omega (arith, q)
letter_by x h false false true d e f = λ q. omega (arith, q)
letter_by x h false false false true e f = λ q. omega (arith, q)
letter_by x h false false false false true f = λ q. omega (arith, q)
letter_by x h false false false false false true = λ q. omega (arith, q)
letter_by x h false false false false false false = λ q. omega (arith, q)

letter : (x : ℕ) → x ≢ 10 → escape_letter x ≢ 10
letter x h = letter_by x h ((x == 34) || (x == 92)) (x == 8) (x == 12) (x == 10) (x == 13) (x == 9)

other_byte : (x : ℕ) → x ≢ 10 → feedless (escape_byte x) ≡ true
unfolding escape_byte
other_byte x h =
    ⊎_elim (λ t. rw t (rw (one (escape_letter x) (letter x h)) refl))
    (λ t. rw t
    (⊎_elim (λ q. rw q (rw (one (digit_char (x / 16)) (hex (x / 16)), one (digit_char (x % 16)) (hex (x % 16))) refl)) (λ q. rw q (rw (one x h) refl)) (cases_Bool (nat_lt x 32))))
    (cases_Bool (nat_lt 0 (escape_letter x)))

feed : feedless (escape_byte 10) ≡ true
unfolding escape_byte
feed = refl

byte : (x : ℕ) → feedless (escape_byte x) ≡ true
byte x = ⊎_elim (λ t. let same : x ≡ 10 = grind (arith, nat_tests, t) in rw same feed) (λ t. other_byte x (λ e. grind (arith, nat_tests, t, e))) (cases_Bool (x == 10))

escaped : (s : List ℕ) → feedless (escape s) ≡ true
escaped [] = refl
escaped (x ∷ s) = join (escape_byte x) (escape s) (byte x) (escaped s)

strings : (s : List ℕ) → feedless (quoted s) ≡ true
strings s = join (escape s) (34 ∷ []) (escaped s) refl

-- ---- values

comma : (later : Bool) → feedless (comma_if later) ≡ true
comma true = refl
comma false = refl

mutual
  values : (d : Data) → feedless (compact_text d) ≡ true
  values null = refl
  values (boolean true) = refl
  values (boolean false) = refl
  values (number n) = numbers n
  values (string s) = strings s
  values (array ds) = items ds false
  values (object ms) = members ms false

  items : (ds : Items) (later : Bool) → feedless (items_text later ds) ≡ true
  items no_items later = refl
  items (item d ds) later = join (comma_if later) (compact_text d ++ items_text true ds) (comma later) (join (compact_text d) (items_text true ds) (values d) (items ds true))

  members : (ms : Members) (later : Bool) → feedless (members_text later ms) ≡ true
  members no_members later = refl
  members (member k d ms) later =
      join (comma_if later) (quoted k ++ 58 ∷ (compact_text d ++ members_text true ms)) (comma later)
      (join (quoted k) (58 ∷ (compact_text d ++ members_text true ms)) (strings k) (join (compact_text d) (members_text true ms) (values d) (members ms true)))

-- ---- answers

outcomes : (is_open : Bool) (o : Outcome) → feedless (outcome_text is_open o) ≡ true
outcomes is_open (Ok shown) = join (codes "\"shows\":") (compact_text (array (items_of shown))) refl (values (array (items_of shown)))
outcomes is_open (Err e) = join (codes "\"error\":") (compact_text (error_form is_open e)) refl (values (error_form is_open e))

shown_number : (last : Option ℕ) → feedless (number_text last) ≡ true
shown_number None = refl
shown_number (Some n) = decimals n

replies : (id : Data) (last : Option ℕ) (o : Outcome) → feedless (reply_text id last o) ≡ true
replies id last o =
    let begun = codes "{\"id\":" ++ compact_text id in
    let numbered = begun ++ codes ",\"number\":" ++ number_text last in
    let told = outcome_text (is_some last) o in
    let first : feedless begun ≡ true = join (codes "{\"id\":") (compact_text id) refl (values id) in
    let second : feedless numbered ≡ true = join (begun ++ codes ",\"number\":") (number_text last) (join begun (codes ",\"number\":") first refl) (shown_number last) in
    join (numbered ++ codes "," ++ told) (codes "}") (join (numbered ++ codes ",") told (join numbered (codes ",") second refl) (outcomes (is_some last) o)) refl

pub answer_no_feed : (old new : Open) (told : Told) (text : List ℕ) → Replies old told new text → HasNoFeed text
answer_no_feed old new told text h =
    no_feed text (⊎_elim (λ e. ap feedless e ∙ replies h.0.id (reply_number new) h.0.outcome) (λ e. ap feedless e) h.2)
