-- What a form reads of a value.
use Rattle.std.specs.Prelude.{ℕ, ◌==◌, List, [], ◌∷◌, ◌++◌, codes, if◌then◌else◌, Option, Some, None, flat_map}

-- what a value is read as, or where in it the first value stands that is not of its form: a JSON Pointer (RFC 6901)
pub data Reading (A : Type 0) : Type 0 where
  right : A → Reading A
  wrong : List ℕ → Reading A

-- one reading after another
abbrev pub ◌>>=◌ : {A B : Type 0} → Reading A → (A → Reading B) → Reading B
◌>>=◌ (right a) f = f a
◌>>=◌ (wrong pointer) f = wrong pointer

-- what is made of what is read
abbrev pub reading_map : {A B : Type 0} → (A → B) → Reading A → Reading B
reading_map f (right a) = right (f a)
reading_map f (wrong pointer) = wrong pointer

-- what is made of two that are read, one after the other
abbrev pub reading_both : {A B C : Type 0} → (A → B → C) → Reading A → Reading B → Reading C
reading_both f r s = do
  a ← r
  b ← s
  right (f a b)

-- what there is, or else the value itself is not of its form
abbrev pub here : {A : Type 0} → Option A → Reading A
here (Some a) = right a
here None = wrong []

-- a byte of a key as a pointer has it: a `~` and a `/` are escaped
abbrev pub pointer_byte : ℕ → List ℕ
pointer_byte b = if b == 126 then codes "~0" else (if b == 47 then codes "~1" else b ∷ [])

-- a key as a pointer has it
abbrev pub pointer_step : List ℕ → List ℕ
pointer_step key = flat_map pointer_byte key

-- the pointer of what stands behind a step: at a key, or at the number of an item, in which nothing is escaped
abbrev pub pointer_behind : (step pointer : List ℕ) → List ℕ
pointer_behind step pointer = codes "/" ++ pointer_step step ++ pointer

-- a reading of what stands behind a step
abbrev pub under : {A : Type 0} → List ℕ → Reading A → Reading A
under step (right a) = right a
under step (wrong pointer) = wrong (pointer_behind step pointer)
