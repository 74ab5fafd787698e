-- What is promised of `==`, of hashes and of copies.
use Rattle.std.specs.Prelude.{◌≡◌, Bool, true, Decides}
use Rattle.std.specs.Hash.{HashWrites}

-- the test is true exactly where the two values are one
abbrev pub DecidesEq : {A : Type 0} → (A → A → Bool) → Type 0
DecidesEq {A} test = (a b : A) → Decides (test a b) (a ≡ b)

-- the test is true exactly where the two values are seen as one
abbrev pub DecidesEqOf : {A V : Type 0} → (A → V) → (A → A → Bool) → Type 0
DecidesEqOf {A} view test = (a b : A) → Decides (test a b) (view a ≡ view b)

-- a copy is its source
abbrev pub IsCopied : {A : Type 0} → (A → A → Type 0) → Type 0
IsCopied {A} is_clone = (source copy : A) → is_clone source copy → copy ≡ source

-- a copy is seen as its source is
abbrev pub IsCopiedOf : {A V : Type 0} → (A → V) → (A → A → Type 0) → Type 0
IsCopiedOf {A} view is_clone = (source copy : A) → is_clone source copy → view copy ≡ view source

-- the test is true exactly where the two values are one, and a copy is its source
abbrev pub IsByValue : {A : Type 0} → (A → A → Bool) → (A → A → Type 0) → Type 0
IsByValue test is_clone = DecidesEq test × IsCopied is_clone

-- the same of values by what they are seen as
abbrev pub IsByValueOf : {A V : Type 0} → (A → V) → (A → A → Bool) → (A → A → Type 0) → Type 0
IsByValueOf view test is_clone = DecidesEqOf view test × IsCopiedOf view is_clone

-- values that are tested equal are hashed alike
abbrev pub HashesAlike : {A : Type 0} → (A → A → Bool) → (A → HashWrites) → Type 0
HashesAlike {A} test hash_input = (a b : A) → test a b ≡ true → hash_input a ≡ hash_input b

-- all three of a type whose values are keys
abbrev pub IsKey : {A : Type 0} → (A → A → Bool) → (A → A → Type 0) → (A → HashWrites) → Type 0
IsKey test is_clone hash_input = IsByValue test is_clone × HashesAlike test hash_input
