-- What a reading function answers beside the reading that a form has.
use Rattle.std.specs.Prelude.{◌≡◌, ℕ, List, [], Bool, true, false, Result, Ok, Err, MatchResult}
use Rattle.hir_input_json.specs.declared.fault.Fault.{Fault}
use Rattle.hir_input_json.specs.declared.fault.Fault.TheVariants.{WrongForm, OutOfMemory}
use Rattle.hir_input_json.specs.Reading.{Reading, right, wrong, pointer_behind}

-- whether a fault is of the form, and not of memory
abbrev pub is_wrong_form : Fault → Bool
is_wrong_form (WrongForm pointer) = true
is_wrong_form OutOfMemory = false

-- the pointer that it tells
abbrev pub pointer_in : Fault → List ℕ
pointer_in (WrongForm pointer) = pointer
pointer_in OutOfMemory = []

-- the fault tells where the reading is wrong, or memory ran out
abbrev pub Tells : {V : Type 0} → Reading V → Fault → Type 0
Tells reading e = is_wrong_form e ≡ true → reading ≡ wrong (pointer_in e)

-- the answer is the reading, or the fault tells where it is wrong, or memory ran out
abbrev pub Reads : {T V : Type 0} → (T → V) → Result T Fault → Reading V → Type 0
Reads view r reading = MatchResult r (λ t. reading ≡ right (view t)) (Tells reading)

-- it tells that the value itself is wrong
abbrev pub IsHere : Fault → Type 0
IsHere e = (is_wrong_form e ≡ true) × (pointer_in e ≡ [])

-- it tells that what stands behind a step is wrong, or memory ran out
abbrev pub IsAt : List ℕ → Fault → Type 0
IsAt step e = is_wrong_form e ≡ true → pointer_in e ≡ pointer_behind step []

-- if the second tells of a form, it is the first, told from before the step to where it stands
abbrev pub IsUnder : List ℕ → Fault → Fault → Type 0
IsUnder step e f = is_wrong_form f ≡ true → (is_wrong_form e ≡ true) × (pointer_in f ≡ pointer_behind step (pointer_in e))

-- it is a fault of this kind
abbrev pub IsErrWith : {T : Type 0} → (Fault → Type 0) → Result T Fault → Type 0
IsErrWith P (Ok t) = ⊥
IsErrWith P (Err e) = P e

-- what was read of a part, or its fault told from before the step to where the part stands
abbrev pub IsReadIn : {T : Type 0} → List ℕ → Result T Fault → Result T Fault → Type 0
IsReadIn step (Ok t) r = r ≡ Ok t
IsReadIn step (Err e) r = IsErrWith (IsUnder step e) r
