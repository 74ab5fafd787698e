-- Tables and lists, read part by part.
use Rattle.std.proofs.Common.{◌≡◌, ℕ, ◌+◌, ◌<◌, Bool, ◌||◌, List, [], ◌∷◌, ◌++◌, map, length, get_or, drop, Result, Ok, Err, String, Global, string_bytes, refl, sym, ap, ◌∙◌, append_assoc}
use Rattle.std.specs.List.{list_any}
use Rattle.toml.specs.Data.{Data, item}
use Rattle.toml.specs.View.{view, items_view, members_view}
use Rattle.toml.specs.declared.value.Value.{Value}
use Rattle.toml.specs.Data.{as_str, as_table}
use Rattle.toml.proofs.Views.{items_view-drop}
use Rattle.std.proofs.lemmas.List.{map-append}
use Rattle.cargo_manifest.specs.Dependencies.{KnownCrate, SectionPlace, dependency_at, dependency_by}
use Rattle.cargo_manifest.specs.Features.{feature_at}
use Rattle.cargo_manifest.specs.Inner.{ReadsAs, IsReadBehind}
use Rattle.cargo_manifest.specs.Readings.{Refusal, made_of, behind_key, each_member, each_item, texts_value}
use Rattle.cargo_manifest.specs.declared.error.ManifestError.{ManifestError}

-- a test of what is made of each
pub any_of_map : {X Y : Type 0} → (p : Y → Bool) (h : X → Y) (xs : List X) → list_any p (map h xs) ≡ list_any (λ x. p (h x)) xs
any_of_map p h [] = refl
any_of_map p h (x ∷ xs) = ap (λ b. p (h x) || b) (any_of_map p h xs)

-- what was read so far, before what is read of the rest
abbrev pub joined : {A : Type 0} → List A → Result (List A) Refusal → Result (List A) Refusal
joined done r = made_of (λ rest. done ++ rest) r

pub joined_nil : {A : Type 0} → (r : Result (List A) Refusal) → r ≡ joined [] r
joined_nil (Ok rest) = refl
joined_nil (Err e) = refl

joined_twice : {A : Type 0} → (done new : List A) (r : Result (List A) Refusal) → joined done (joined new r) ≡ joined (done ++ new) r
joined_twice done new (Ok rest) = ap Ok (sym (append_assoc done new rest))
joined_twice done new (Err e) = refl

joined_one : {A : Type 0} → (done : List A) (a : A) (r : Result (List A) Refusal) → joined done (made_of (λ rest. a ∷ rest) r) ≡ joined (done ++ a ∷ []) r
joined_one done a (Ok rest) = ap Ok (sym (append_assoc done (a ∷ []) rest))
joined_one done a (Err e) = refl

abbrev pub Entry : Type 0
Entry = String Global × Value

module _ {A : Type 0} (form : List ℕ → Data → Result (List A) Refusal) where
  -- in a loop over a table: the reading of all is what was read, and then the reading of what is left
  abbrev pub HasRead : List Entry → List A → List Entry → Type 0
  HasRead all done left = each_member form (members_view all) ≡ joined done (each_member form (members_view left))

  -- what is read of one member
  abbrev pub entry_reading : Entry → Result (List A) Refusal
  entry_reading e = behind_key (string_bytes e.0) (form (string_bytes e.0) (view e.1))

  pub read_next : (all left rest : List Entry) (done new : List A) (e : Entry) → HasRead all done left → left ≡ e ∷ rest → entry_reading e ≡ Ok new → HasRead all (done ++ new) rest
  read_next all left rest done new e before steps reads =
      let next : each_member form (members_view (e ∷ rest)) ≡ joined new (each_member form (members_view rest)) = rw reads refl in
      before ∙ ap (λ es. joined done (each_member form (members_view es))) steps ∙ ap (joined done) next ∙ joined_twice done new (each_member form (members_view rest))

  pub read_fails : (all left rest : List Entry) (done : List A) (e : Entry) (refusal : Refusal) → HasRead all done left → left ≡ e ∷ rest → entry_reading e ≡ Err refusal → each_member form (members_view all) ≡ Err refusal
  read_fails all left rest done e refusal before steps reads =
      let next : each_member form (members_view (e ∷ rest)) ≡ Err refusal = rw reads refl in
      before ∙ ap (λ es. joined done (each_member form (members_view es))) steps ∙ ap (joined done) next

module _ {A T : Type 0} (shown : T → A) where
  -- one more member was read, and what it gives put behind
  pub taken_next : (form : List ℕ → Data → Result (List A) Refusal) (all left rest : List Entry) (done more new : List T) (e : Entry) → HasRead form all (map shown done) left → left ≡ e ∷ rest
      → entry_reading form e ≡ Ok (map shown more) → new ≡ done ++ more → HasRead form all (map shown new) rest
  taken_next form all left rest done more new e before steps reads pushed =
      read_next form all left rest (map shown done) (map shown more) e before steps reads
      ∙ ap (λ xs. joined xs (each_member form (members_view rest))) (sym (map-append shown done more) ∙ ap (map shown) (sym pushed))

  -- what was read of a value that stands at a key
  pub read_form : (reading : Result A Refusal) (t : T) (key : List ℕ) (r : Result T ManifestError) → ReadsAs shown r reading → IsReadBehind key r (Ok t) → reading ≡ Ok (shown t)
  read_form reading t key (Ok u) reads same = cc
  read_form reading t key (Err e) reads never = absurd never

  -- in a loop over a list: the reading of all is what was read, and then the reading of what is left
  abbrev pub HasReadItems : (Data → Result A Refusal) → List Value → List T → ℕ → Type 0
  HasReadItems form all done i = each_item form (items_view all) ≡ joined (map shown done) (each_item form (items_view (drop i all)))

  pub item_next : (form : Data → Result A Refusal) (all : List Value) (done new : List T) (i : ℕ) (v : Value) (t : T) → HasReadItems form all done i → i < length all → v ≡ get_or all i v
      → form (view v) ≡ Ok (shown t) → new ≡ done ++ t ∷ [] → HasReadItems form all new (i + 1)
  item_next form all done new i v t before within same reads pushed =
      let rest = items_view (drop (i + 1) all) in
      let cell : items_view (drop i all) ≡ item (view v) rest = items_view-drop all i v within ∙ ap (λ x. item (view x) rest) (sym same) in
      let each : each_item form (item (view v) rest) ≡ made_of (λ r. shown t ∷ r) (each_item form rest) = rw reads refl in
      before ∙ ap (λ d. joined (map shown done) (each_item form d)) cell ∙ ap (joined (map shown done)) each ∙ joined_one (map shown done) (shown t) (each_item form rest)
      ∙ ap (λ xs. joined xs (each_item form rest)) (sym (map-append shown done (t ∷ [])) ∙ ap (map shown) (sym pushed))

pub dependency_read : (place : SectionPlace) (e : Entry) (key : List ℕ) (one : KnownCrate) → key ≡ string_bytes e.0 → dependency_by place key (as_str (view e.1)) (as_table (view e.1)) ≡ Ok one
    → entry_reading (dependency_at place) e ≡ Ok (one ∷ [])
dependency_read place e key one same h =
    let read : dependency_by place (string_bytes e.0) (as_str (view e.1)) (as_table (view e.1)) ≡ Ok one = ap (λ k. dependency_by place k (as_str (view e.1)) (as_table (view e.1))) (sym same) ∙ h in
    rw read refl

pub feature_read : (e : Entry) (name : List ℕ) (entries : List (List ℕ)) → name ≡ string_bytes e.0 → texts_value (view e.1) ≡ Ok entries
    → entry_reading feature_at e ≡ Ok (record { name = name; entries = entries } ∷ [])
feature_read e name entries same h = rw (h, same) refl
