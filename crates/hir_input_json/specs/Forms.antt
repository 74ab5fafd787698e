-- The readings that forms are made of.
use Rattle.std.specs.Prelude.{ℕ, ◌+◌, ◌^◌, List, [], ◌∷◌, bytes_eq, nat_lt, decimal, Bool, true, false, ◌==◌, if◌then◌else◌, Option, Some, None, option_and_then}
use Rattle.serde_json.specs.Data.{Data, null, Items, no_items, item, Members}
use Rattle.serde_json.specs.Find.{get, as_number, as_u64, as_bool, as_str, as_array, as_object}
use Rattle.hir_input.specs.Name.{name_in}
use Rattle.hir_input_json.specs.Reading.{Reading, right, wrong, reading_map, here, pointer_behind, under, ◌>>=◌}

-- a null counts as absent
abbrev pub unless_null : Data → Option Data
unless_null null = None
unless_null d = Some d

-- the member at this key
unfoldable pub field : List ℕ → Data → Option Data
field key d = option_and_then unless_null (get key d)

-- by the form, or wrong where it is absent
abbrev pub required_by : {A : Type 0} → (Data → Reading A) → Option Data → Reading A
required_by form None = wrong []
required_by form (Some d) = form d

-- by the form, or the default where it is absent
abbrev pub optional : {A : Type 0} → A → (Data → Reading A) → Option Data → Reading A
optional default form None = right default
optional default form (Some d) = form d

-- by the form, or read as None where it is absent
abbrev pub maybe : {A : Type 0} → (Data → Reading A) → Option Data → Reading (Option A)
maybe form None = right None
maybe form (Some d) = reading_map Some (form d)

-- the member at this key by the form; wrong at its place where it is absent
abbrev pub required_at : {A : Type 0} → List ℕ → (Data → Reading A) → Data → Reading A
required_at key form d = under key (required_by form (field key d))

-- the same, or the default where it is absent
abbrev pub optional_at : {A : Type 0} → A → List ℕ → (Data → Reading A) → Data → Reading A
optional_at default key form d = under key (optional default form (field key d))

-- the same, or read as None where it is absent
abbrev pub maybe_at : {A : Type 0} → List ℕ → (Data → Reading A) → Data → Reading (Option A)
maybe_at key form d = under key (maybe form (field key d))

-- by the form of what is there, or otherwise
abbrev pub by_form : {A B : Type 0} → Option B → (B → Reading A) → Reading A → Reading A
by_form None form otherwise = otherwise
by_form (Some b) form otherwise = form b

-- by what stands at this word
abbrev pub on_word : {A : Type 0} → (word key : List ℕ) → Reading A → Reading A → Reading A
on_word word key form otherwise = if bytes_eq word key then form else otherwise

-- the member at this key is not of its form
abbrev pub wrong_at : {A : Type 0} → List ℕ → Reading A
wrong_at key = wrong (pointer_behind key [])

-- an object
abbrev pub object_members : Data → Reading Members
object_members d = here (as_object d)

-- an array
abbrev pub array_items : Data → Reading Items
array_items d = here (as_array d)

-- a text
abbrev pub text_form : Data → Reading (List ℕ)
text_form d = here (as_str d)

-- a truth value
abbrev pub flag : Data → Reading Bool
flag d = here (as_bool d)

-- the number, if it is below the bound
abbrev pub number_below : ℕ → ℕ → Option ℕ
number_below bound n = if nat_lt n bound then Some n else None

-- a whole number below the bound
abbrev pub whole_form : ℕ → Data → Reading ℕ
whole_form bound d = here (option_and_then (number_below bound) (option_and_then as_u64 (as_number d)))

-- the number of a file or of a crate, which is required
abbrev pub number_form : List ℕ → Data → Reading ℕ
number_form key d = required_at key (whole_form (2 ^ 32)) d

-- an object, by the word that it holds at this key
abbrev pub object_by : {A : Type 0} → List ℕ → Data → (List ℕ → Reading A) → Reading A
object_by key d form = do
  _ ← object_members d
  word ← required_at key text_form d
  form word

-- a text that is a name
abbrev pub identifier_form : Data → Reading (List ℕ)
identifier_form d = do
  s ← text_form d
  here (name_in s)

-- each item by the form, the first one with this number
abbrev pub each_from : {A : Type 0} → ℕ → (Data → Reading A) → Items → Reading (List A)
each_from n form no_items = right []
each_from n form (item d ds) = do
  a ← under (decimal n) (form d)
  as' ← each_from (n + 1) form ds
  right (a ∷ as')

-- each item by the form
abbrev pub each : {A : Type 0} → (Data → Reading A) → Items → Reading (List A)
each form ds = each_from 0 form ds

-- a list of the form
abbrev pub list_of : {A : Type 0} → (Data → Reading A) → Data → Reading (List A)
list_of form d = do
  ds ← array_items d
  each form ds

-- the items of the list at this key, none where it is absent
abbrev pub items_at : List ℕ → Data → Reading Items
items_at key d = optional_at no_items key array_items d

-- each item of the list at this key
abbrev pub list_at : {A : Type 0} → (Data → Reading A) → List ℕ → Data → Reading (List A)
list_at form key d = do
  ds ← items_at key d
  under key (each form ds)
