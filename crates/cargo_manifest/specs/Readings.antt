-- What a manifest is read as, part by part, or why it is refused.
use Rattle.std.specs.Prelude.{ℕ, ◌==◌, if◌then◌else◌, List, [], ◌∷◌, ◌++◌, length, codes, Bool, Option, Some, None, Result, Ok, Err}
use Rattle.toml.specs.Data.{Data, Items, no_items, item, Members, no_members, member, get_member, as_str, as_bool, as_array, as_table}
use Rattle.cargo_manifest.specs.declared.error.Expected.{Expected}
use Rattle.cargo_manifest.specs.declared.error.Expected.TheVariants.{Text, Flag, Table, Texts}

-- why a manifest is refused: it is no TOML, or its workspace's file is none, it has no package, or a value is not what it has to be, at these keys
pub data Refusal : Type 0 where
  no_toml : Refusal
  no_workspace_toml : Refusal
  no_package : Refusal
  misfit : List ℕ → Expected → Refusal

infixl 10 ◌>>=◌
abbrev ◌>>=◌ : {A B : Type 0} → Result A Refusal → (A → Result B Refusal) → Result B Refusal
(Ok a) >>= f = f a
(Err refusal) >>= f = Err refusal

-- what is made of what is read
abbrev pub made_of : {A B : Type 0} → (A → B) → Result A Refusal → Result B Refusal
made_of f (Ok a) = Ok (f a)
made_of f (Err refusal) = Err refusal

-- what there is, or else the value itself is not what it has to be
abbrev pub expecting : {A : Type 0} → Expected → Option A → Result A Refusal
expecting expected (Some a) = Ok a
expecting expected None = Err (misfit [] expected)

-- keys with one in front, dots between them
abbrev pub dotted_key : List ℕ → List ℕ → List ℕ
dotted_key key keys = if length keys == 0 then key else key ++ codes "." ++ keys

-- a refusal of a value, told of the table that has it at this key
abbrev pub refusal_behind : List ℕ → Refusal → Refusal
refusal_behind key (misfit keys expected) = misfit (dotted_key key keys) expected
refusal_behind key refusal = refusal

-- what is read of a value that stands at a key
abbrev pub behind_key : {A : Type 0} → List ℕ → Result A Refusal → Result A Refusal
behind_key key (Ok a) = Ok a
behind_key key (Err refusal) = Err (refusal_behind key refusal)

-- the forms of plain values
abbrev pub text_value : Data → Result (List ℕ) Refusal
text_value d = expecting Text (as_str d)

abbrev pub flag_value : Data → Result Bool Refusal
flag_value d = expecting Flag (as_bool d)

abbrev pub table_value : Data → Result Members Refusal
table_value d = expecting Table (as_table d)

-- what is read of a value, if there is one
abbrev pub if_there : {A : Type 0} → (Data → Result A Refusal) → Option Data → Result (Option A) Refusal
if_there form None = Ok None
if_there form (Some d) = made_of Some (form d)

-- what is read at a key, if anything stands there
abbrev pub value_read : {A : Type 0} → List ℕ → (Data → Result A Refusal) → Members → Result (Option A) Refusal
value_read key form ms = behind_key key (if_there form (get_member key ms))

-- what the members of a table give, one after the other
abbrev pub each_member : {A : Type 0} → (List ℕ → Data → Result (List A) Refusal) → Members → Result (List A) Refusal
each_member form no_members = Ok []
each_member form (member key d ms) = do
  first ← behind_key key (form key d)
  made_of (λ rest. first ++ rest) (each_member form ms)

-- the same of a table at a key, which may be absent
abbrev pub members_behind : {A : Type 0} → List ℕ → (List ℕ → Data → Result (List A) Refusal) → Option Members → Result (List A) Refusal
members_behind key form None = Ok []
members_behind key form (Some ms) = behind_key key (each_member form ms)

abbrev pub table_members : {A : Type 0} → List ℕ → (List ℕ → Data → Result (List A) Refusal) → Members → Result (List A) Refusal
table_members key form ms = do
  inside ← value_read key table_value ms
  members_behind key form inside

-- each item of a list
abbrev pub each_item : {A : Type 0} → (Data → Result A Refusal) → Items → Result (List A) Refusal
each_item form no_items = Ok []
each_item form (item d ds) = do
  first ← form d
  made_of (λ rest. first ∷ rest) (each_item form ds)

-- the items of a list, or else it is not what is expected
abbrev pub items_value : {A : Type 0} → Expected → (Data → Result A Refusal) → Data → Result (List A) Refusal
items_value expected form d = do
  ds ← expecting expected (as_array d)
  each_item form ds

-- a list of strings
abbrev pub texts_value : Data → Result (List (List ℕ)) Refusal
texts_value d = items_value Texts (λ d. expecting Texts (as_str d)) d

-- a text at a key, where it has to be
abbrev pub required_text : List ℕ → Members → Result (List ℕ) Refusal
required_text key ms = do
  text ← value_read key text_value ms
  behind_key key (expecting Text text)
