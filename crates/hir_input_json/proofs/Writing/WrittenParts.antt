-- What is written of a part, and how parts are put together.
use Rattle.std.proofs.Common.{◌≡◌, ℕ, ◌+◌, List, [], ◌∷◌, map, Bool, true, false, nat_lt, IfSome, Option, Some, None, if◌then◌else◌, option_map, option_and_then, refl, ap, ◌∙◌}
use Rattle.serde_json.specs.Data.{Data, number, unsigned, string, Items, no_items}
use Rattle.serde_json.specs.Written.{has_float}
use Rattle.hir_input_json.proofs.Writing.Common.{Reading, right, is_name, name_in, number_below, identifier_form, text_form, whole_form, Holds, MayHold, HoldEach, each_data, led_items, maybe_data, name_data, text_or_null, whole_data}

-- ---- steps

pub bind : {A B : Type 0} (m : Option A) (f : A → Option B) (P : A → Type 0) (Q : B → Type 0) → IfSome m P → ((a : A) → P a → IfSome (f a) Q) → IfSome (option_and_then f m) Q
bind None f P Q h k = h
bind (Some a) f P Q h k = k a h

-- two parts
pub both : {A B C : Type 0} (m : Option A) (o : Option B) (f : A → B → Option C) (P : A → Type 0) (R : B → Type 0) (Q : C → Type 0) → IfSome m P → IfSome o R → ((a : A) → P a → (b : B) → R b → IfSome (f a b) Q) → IfSome (option_and_then (λ a. option_and_then (f a) o) m) Q
both m o f P R Q h k l = bind m (λ a. option_and_then (f a) o) P Q h (λ a p. bind o (f a) R Q k (l a p))

pub mapped : {A B : Type 0} (m : Option A) (f : A → B) (P : A → Type 0) (Q : B → Type 0) → IfSome m P → ((a : A) → P a → Q (f a)) → IfSome (option_map f m) Q
mapped None f P Q h k = h
mapped (Some a) f P Q h k = k a h

pub weaker : {A : Type 0} (m : Option A) (P : A → Type 0) (Q : A → Type 0) → IfSome m P → ((a : A) → P a → Q a) → IfSome m Q
weaker None P Q h k = h
weaker (Some a) P Q h k = k a h

pub maybe_law : {A : Type 0} (make : A → Option Data) (form : Data → Reading A) → ((a : A) → IfSome (make a) (Holds form a)) → (o : Option A) → IfSome (maybe_data make o) (MayHold form o)
maybe_law make form law None = record { reads = refl; exact = refl }
maybe_law make form law (Some a) = weaker (make a) (Holds form a) (MayHold form (Some a)) (law a) (λ d h. record { reads = rw (h.there, h.reads) refl; exact = h.exact })

-- one item before others
pub next_law : {A : Type 0} (form : Data → Reading A) (a : A) (as' : List A) (m : Option Data) (o : Option Items) (P : Data → Type 0) → IfSome m P → ((d : Data) → P d → form d ≡ right a) → ((d : Data) → P d → has_float d ≡ false) → IfSome o (HoldEach form as')
    → IfSome (led_items m o) (HoldEach form (a ∷ as'))
next_law form a as' None o P h reads exact hs = tt
next_law form a as' (Some d) None P h reads exact hs = tt
next_law form a as' (Some d) (Some ds) P h reads exact hs = record { reads = λ n. rw (reads d h, hs.reads (n + 1)) refl; exact = rw (exact d h, hs.exact) refl }

pub held_next : {A : Type 0} (form : Data → Reading A) (a : A) (as' : List A) (m : Option Data) (o : Option Items) → IfSome m (Holds form a) → IfSome o (HoldEach form as')
    → IfSome (led_items m o) (HoldEach form (a ∷ as'))
held_next form a as' m o h hs = next_law form a as' m o (Holds form a) h (λ d k. k.reads) (λ d k. k.exact) hs

pub each_law : {A : Type 0} (make : A → Option Data) (form : Data → Reading A) → ((a : A) → IfSome (make a) (Holds form a)) → (as' : List A) → IfSome (each_data make as') (HoldEach form as')
each_law make form law [] = record { reads = λ n. refl; exact = refl }
each_law make form law (a ∷ as') = held_next form a as' (make a) (each_data make as') (law a) (each_law make form law as')

-- the same where each is read as what it is seen as
pub each_seen : {A B : Type 0} (make : A → Option Data) (form : Data → Reading B) (seen : A → B) → ((a : A) → IfSome (make a) (Holds form (seen a))) → (as' : List A) → IfSome (each_data make as') (HoldEach form (map seen as'))
each_seen make form seen law [] = record { reads = λ n. refl; exact = refl }
each_seen make form seen law (a ∷ as') = held_next form (seen a) (map seen as') (make a) (each_data make as') (law a) (each_seen make form seen law as')

-- the items are read as a list, of which this is made
pub record HoldAll {A B : Type 0} (form : Data → Reading A) (from : List A → B) (b : B) (ds : Items) : Type 0 where
  pub list : List A
  pub made : from list ≡ b
  pub each : HoldEach form list ds

pub none_of : {A B : Type 0} (form : Data → Reading A) (from : List A → B) → HoldAll form from (from []) no_items
none_of form from = record { list = []; made = refl; each = record { reads = λ n. refl; exact = refl } }

-- one item before others, and what is made of them all
pub next_of : {A B : Type 0} (form : Data → Reading A) (from : List A → B) (step : A → B → B) (a : A) (b : B) (m : Option Data) (o : Option Items) (P : Data → Type 0)
    → ((as' : List A) → from (a ∷ as') ≡ step a (from as')) → IfSome m P → ((d : Data) → P d → form d ≡ right a) → ((d : Data) → P d → has_float d ≡ false)
    → IfSome o (HoldAll form from b) → IfSome (led_items m o) (HoldAll form from (step a b))
next_of form from step a b None o P steps h reads exact hs = tt
next_of form from step a b (Some d) None P steps h reads exact hs = tt
next_of form from step a b (Some d) (Some ds) P steps h reads exact hs =
    record { list = a ∷ hs.list; made = steps hs.list ∙ ap (step a) hs.made; each = next_law form a hs.list (Some d) (Some ds) P h reads exact hs.each }

pub held_of : {A B : Type 0} (form : Data → Reading A) (from : List A → B) (step : A → B → B) (a : A) (b : B) (m : Option Data) (o : Option Items)
    → ((as' : List A) → from (a ∷ as') ≡ step a (from as')) → IfSome m (Holds form a) → IfSome o (HoldAll form from b) → IfSome (led_items m o) (HoldAll form from (step a b))
held_of form from step a b m o steps h hs = next_of form from step a b m o (Holds form a) steps h (λ d k. k.reads) (λ d k. k.exact) hs

-- ---- numbers and texts

below_by : (b : Bool) (n : ℕ) (make : ℕ → Data) (Q : Data → Type 0) → (b ≡ true → Q (make n)) → IfSome (option_map make (if b then Some n else None)) Q
below_by true n make Q k = k refl
below_by false n make Q k = tt

pub below_law : (bound n : ℕ) (make : ℕ → Data) (Q : Data → Type 0) → (nat_lt n bound ≡ true → Q (make n)) → IfSome (option_map make (number_below bound n)) Q
below_law bound n make Q k = below_by (nat_lt n bound) n make Q k

name_by : (b : Bool) (n : List ℕ) (Q : Data → Type 0) → (b ≡ true → Q (string n)) → IfSome (option_map string (if b then Some n else None)) Q
name_by true n Q k = k refl
name_by false n Q k = tt

pub named_law : (n : List ℕ) (Q : Data → Type 0) → (name_in n ≡ Some n → Q (string n)) → IfSome (name_data n) Q
named_law n Q k = name_by (is_name n) n Q (λ e. k (rw e refl))

pub name_law : (n : List ℕ) → IfSome (name_data n) (Holds identifier_form n)
name_law n = named_law n (Holds identifier_form n) (λ e. record { there = refl; reads = rw e refl; exact = refl })

pub whole_law : (bound n : ℕ) → IfSome (whole_data bound n) (Holds (whole_form bound) n)
whole_law bound n = below_law bound n (λ m. number (unsigned m)) (Holds (whole_form bound) n) (λ e. record { there = refl; reads = rw e refl; exact = refl })

pub text_law : (t : Option (List ℕ)) → MayHold text_form t (text_or_null t)
text_law None = record { reads = refl; exact = refl }
text_law (Some t) = record { reads = refl; exact = refl }
