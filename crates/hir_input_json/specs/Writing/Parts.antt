-- The data that others are made of. Each is none where no form reads the value.
use Rattle.std.specs.Prelude.{ℕ, List, [], ◌∷◌, Option, Some, None, option_map, option_and_then}
use Rattle.serde_json.specs.Data.{Data, null, number, unsigned, string, array, Items, no_items, item}
use Rattle.hir_input.specs.Name.{name_in}
use Rattle.hir_input_json.specs.Forms.{number_below}

-- one after another
abbrev pub ◌>>=◌ : {A B : Type 0} → Option A → (A → Option B) → Option B
◌>>=◌ m f = option_and_then f m

-- null where it is absent
abbrev pub maybe_data : {A : Type 0} → (A → Option Data) → Option A → Option Data
maybe_data make None = Some null
maybe_data make (Some a) = make a

-- a text that may be absent
abbrev pub text_or_null : Option (List ℕ) → Data
text_or_null None = null
text_or_null (Some text) = string text

-- one item, and the others behind it
abbrev pub led_items : Option Data → Option Items → Option Items
led_items first others = do
  d ← first
  ds ← others
  Some (item d ds)

-- each of a list
abbrev pub each_data : {A : Type 0} → (A → Option Data) → List A → Option Items
each_data make [] = Some no_items
each_data make (a ∷ as') = led_items (make a) (each_data make as')

-- the array of a list
abbrev pub list_data : {A : Type 0} → (A → Option Data) → List A → Option Data
list_data make as' = option_map array (each_data make as')

-- a whole number, if it is below the bound
abbrev pub whole_data : ℕ → ℕ → Option Data
whole_data bound n = option_map (λ m. number (unsigned m)) (number_below bound n)

-- a text, if it is a name
abbrev pub name_data : List ℕ → Option Data
name_data text = option_map string (name_in text)
