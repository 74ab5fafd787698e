-- Whether a text is a name.
use Rattle.std.proofs.Common.{◌≡◌, ◌≢◌, ◌==◌, ℕ, List, [], ◌∷◌, Bool, true, false, All, Option, Some, None, if◌then◌else◌, refl, sym, ap, arith}
use Rattle.hir_input.proofs.Common.{SomeIff, list_any, nat_tests, list_any_at, list_any_none, IsName, is_name, name_in}

not_found : (b : Bool) → (if b then false else true) ≡ true → b ≡ false
not_found true h = sym h
not_found false h = refl

feeds_none : (bytes : List ℕ) → All (λ b. b ≢ 10) bytes → list_any (λ c. c == 10) bytes ≡ false
feeds_none bytes h = list_any_none (λ c. c == 10) bytes (λ k d l. let not_feed = h k d l in grind (arith, nat_tests))

feeds_all : (bytes : List ℕ) → list_any (λ c. c == 10) bytes ≡ false → All (λ b. b ≢ 10) bytes
feeds_all bytes h = λ k d l e. let found = list_any_at (λ c. c == 10) bytes k d l (grind (arith, nat_tests)) in cc

is_name-from : (bytes : List ℕ) → IsName bytes → is_name bytes ≡ true
is_name-from [] h = absurd (omega (arith, h.0))
is_name-from (b ∷ bs) h = rw (feeds_none (b ∷ bs) h.1) refl

pub name-from_test : (bytes : List ℕ) → is_name bytes ≡ true → IsName bytes
name-from_test [] h = absurd cc
name-from_test (b ∷ bs) h = (omega arith, feeds_all (b ∷ bs) (not_found (list_any (λ c. c == 10) (b ∷ bs)) h))

named_by : (test : Bool) (bytes : List ℕ) (made : Option (List ℕ)) → (IsName bytes → test ≡ true) → (test ≡ true → IsName bytes) → SomeIff made (IsName bytes) bytes → (if test then Some bytes else None) ≡ made
named_by true bytes None from to h = absurd (h (to refl))
named_by true bytes (Some v) from to h = ap Some (sym h.1)
named_by false bytes None from to h = refl
named_by false bytes (Some v) from to h = absurd (let e = from h.0 in cc)

-- what `Name::new` makes of a text is its reading
pub new_name : (bytes : List ℕ) (made : Option (List ℕ)) → SomeIff made (IsName bytes) bytes → name_in bytes ≡ made
new_name bytes made h = named_by (is_name bytes) bytes made (is_name-from bytes) (name-from_test bytes) h
