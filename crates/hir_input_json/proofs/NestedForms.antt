-- What is found in a value nests less deep, and a form that looks inside reads itself.
use Rattle.std.proofs.Common.{◌≡◌, ℕ, zero, suc, ◌+◌, ◌<◌, ◌≤◌, max, List, Option, Some, None, option_map, option_and_then, unwrap_or, Ordering, Equal, false, bytes_eq, refl, sym, ap, ◌∙◌, arith, rules}
use Rattle.hir_input_json.proofs.Common.{nat_cmp, match_ordering, slice_cmp, Reading, right, wrong, reading_map, under, field, unless_null, array_items, items_at, list_of, list_at, each, each_from, maybe, optional, required_by, by_form, without_key, nested_reading, nested_at}
use Rattle.serde_json.specs.Data.{Data, null, array, object, Items, no_items, item, Members, no_members, member, depth, items_depth, members_depth}
use Rattle.serde_json.specs.Find.{get, get_member}
use Rattle.hir_input_json.specs.Reading.{◌>>=◌}
use Rattle.hir_input_json.proofs.MemberObjects.{field_without}
use Rattle.hir_input_json.proofs.Laws.{AgreeBelow, LooksInside, ReadsItself}

-- ---- depths

depth_here : (o : Ordering) (d e : Data) (n : ℕ) (found : Option Data) → (found ≡ Some e → depth e ≤ n) → match_ordering o found (Some d) found ≡ Some e → depth e ≤ max (depth d) n
depth_here Equal d e n found within h = let same : depth d ≡ depth e = ap (λ o. unwrap_or (option_map depth o) 0) h in omega (arith, same)
depth_here o d e n found within h = search (rules, within h)

depth-get_member : (name : List ℕ) (ms : Members) (e : Data) → get_member name ms ≡ Some e → depth e ≤ members_depth ms
depth-get_member name no_members e h = search rules
depth-get_member name (member key d ms) e h = depth_here (slice_cmp nat_cmp name key) d e (members_depth ms) (get_member name ms) (depth-get_member name ms e) h

pub depth_get : (name : List ℕ) (d e : Data) → get name d ≡ Some e → depth e < depth d
depth_get name (object ms) e h = omega (arith, depth-get_member name ms e h)
depth_get name d e h = search rules

unless_null-is : (d e : Data) → unless_null d ≡ Some e → d ≡ e
unless_null-is null e h = search rules
unless_null-is d e h = ap (λ o. unwrap_or o e) h

found_unless_null : (name : List ℕ) (d e : Data) (found : Option Data) → get name d ≡ found → option_and_then unless_null found ≡ Some e → get name d ≡ Some e
found_unless_null name d e None is h = search rules
found_unless_null name d e (Some f) is h = is ∙ ap Some (unless_null-is f e h)

pub depth_field : (name : List ℕ) (d e : Data) → field name d ≡ Some e → depth e < depth d
unfolding field
depth_field name d e h = depth_get name d e (found_unless_null name d e (get name d) refl h)

-- ---- what was read

-- what was read, or this where nothing was
abbrev right_or : {A : Type 0} → A → Reading A → A
right_or default (right a) = a
right_or default (wrong pointer) = default

under_right : {A : Type 0} → (step : List ℕ) (r : Reading A) (a : A) → under step r ≡ right a → r ≡ right a
under_right step (right b) a h = h
under_right step (wrong pointer) a h = absurd cc

-- ---- each reading of what is found, where two readings agree on it

pub maybe_same : {A : Type 0} → (f g : Data → Reading A) (found : Option Data) → ((e : Data) → found ≡ Some e → f e ≡ g e) → maybe f found ≡ maybe g found
maybe_same f g None same = refl
maybe_same f g (Some e) same = ap (reading_map Some) (same e refl)

pub required_same : {A : Type 0} → (f g : Data → Reading A) (found : Option Data) → ((e : Data) → found ≡ Some e → f e ≡ g e) → required_by f found ≡ required_by g found
required_same f g None same = refl
required_same f g (Some e) same = same e refl

pub by_first_same : {A B : Type 0} → (f g : B → Reading A) (found : Option B) (a b : Reading A) → ((e : B) → found ≡ Some e → f e ≡ g e) → a ≡ b → by_form found f a ≡ by_form found g b
by_first_same f g None a b same h = h
by_first_same f g (Some e) a b same h = same e refl

each_same : {A : Type 0} → (f g : Data → Reading A) (n : ℕ) (ds : Items) → AgreeBelow f g (suc (items_depth ds)) → each_from n f ds ≡ each_from n g ds
each_same f g n no_items same = refl
each_same f g n (item d ds) same = rw (same d (omega arith), each_same f g (n + 1) ds (λ e h. same e (omega (arith, h)))) refl

list_of_same : {A : Type 0} → (f g : Data → Reading A) (d : Data) → AgreeBelow f g (depth d) → list_of f d ≡ list_of g d
list_of_same f g (array ds) same = each_same f g 0 ds same
list_of_same f g d same = refl

-- a list in a field of d
pub list_in : {A : Type 0} → (f g : Data → Reading A) (key : List ℕ) (d : Data) → AgreeBelow f g (depth d) → (e : Data) → field key d ≡ Some e → list_of f e ≡ list_of g e
list_in f g key d same e h = let less = depth_field key d e h in list_of_same f g e (λ i k. same i (omega (arith, k, less)))

-- what is read of the items of a list that may be absent
abbrev listed : {A : Type 0} → (Data → Reading A) → List ℕ → Option Data → Reading (List A)
listed form key found = do
  ds ← under key (optional no_items array_items found)
  under key (each form ds)

listed_same : {A : Type 0} → (f g : Data → Reading A) (key : List ℕ) (found : Option Data) (n : ℕ) → AgreeBelow f g n → ((e : Data) → found ≡ Some e → depth e < n) → listed f key found ≡ listed g key found
listed_same f g key (Some (array ds)) n same less = ap (under key) (each_same f g 0 ds (λ i k. let l = less (array ds) refl in same i (omega (arith, k, l))))
listed_same f g key found n same less = refl

-- the same where no list is an empty one
pub list_at_same : {A : Type 0} → (f g : Data → Reading A) (key : List ℕ) (d : Data) → AgreeBelow f g (depth d) → list_at f key d ≡ list_at g key d
list_at_same f g key d same = listed_same f g key (field key d) (depth d) same (depth_field key d)

-- ---- any number that is enough gives one reading

pub enough : {A : Type 0} → (form : (Data → Reading A) → Data → Reading A) → LooksInside form → (n m : ℕ) (d : Data) → depth d < n → depth d < m → nested_at form n d ≡ nested_at form m d
enough form inside zero m d h k = absurd (omega (arith, h))
enough form inside (suc n) zero d h k = absurd (omega (arith, k))
enough form inside (suc n) (suc m) d h k = inside (nested_at form n) (nested_at form m) d (λ e l. enough form inside n m e (omega (arith, l, h)) (omega (arith, l, k)))

pub reads_itself : {A : Type 0} → (form : (Data → Reading A) → Data → Reading A) → LooksInside form → ReadsItself form
unfolding nested_reading
reads_itself form inside d =
    inside (nested_at form (depth d)) (nested_reading form) d (λ e l. enough form inside (depth d) (suc (depth e)) e l (omega arith))

-- ---- what was taken out

-- one more than the depth of what was found, or 0
abbrev pub depth_of : Option Data → ℕ
depth_of None = 0
depth_of (Some e) = suc (depth e)

pub depth_array : (d : Data) (ds : Items) → array_items d ≡ right ds → depth d ≡ suc (items_depth ds)
depth_array (array es) ds h = ap (λ r. suc (items_depth (right_or no_items r))) h
depth_array d ds h = absurd cc

found_within : (found : Option Data) (n : ℕ) → ((e : Data) → found ≡ Some e → depth e < n) → depth_of found ≤ n
found_within None n less = omega arith
found_within (Some e) n less = less e refl

pub depth_found_in : (key : List ℕ) (d : Data) → depth_of (field key d) ≤ depth d
depth_found_in key d = found_within (field key d) (depth d) (depth_field key d)

pub depth_found_get : (key : List ℕ) (ms : Members) → depth_of (get_member key ms) ≤ suc (members_depth ms)
depth_found_get key ms = found_within (get_member key ms) (suc (members_depth ms)) (λ e h. let within = depth-get_member key ms e h in omega (arith, within))

listed_within : (found : Option Data) (n : ℕ) (ds : Items) → ((e : Data) → found ≡ Some e → depth e < suc n) → optional no_items array_items found ≡ right ds → items_depth ds < suc n
listed_within None n ds less h = let none : items_depth ds ≡ 0 = sym (ap (λ r. items_depth (right_or no_items r)) h) in omega (arith, none)
listed_within (Some e) n ds less h = let inner = depth_array e ds h in let outer = less e refl in omega (arith, inner, outer)

-- the items of a list in a member
pub depth_listed_in : (key : List ℕ) (ms : Members) (ds : Items) → items_at key (object ms) ≡ right ds → items_depth ds < depth (object ms)
depth_listed_in key ms ds h = listed_within (field key (object ms)) (members_depth ms) ds (depth_field key (object ms)) (under_right key _ ds h)

-- a member of another key was there before
pub field_before : (key other : List ℕ) (d e v : Data) → e ≡ without_key other d → bytes_eq key other ≡ false → Some v ≡ field key e → Some v ≡ field key d
field_before key other d e v is apart found = found ∙ ap (field key) is ∙ field_without key other d apart

-- how much less deep what is taken out of an object is
pub ruleset found_depths = (field_without, depth_found_in)

pub ruleset got_depths = (field_without, depth_found_in, depth_found_get)

pub ruleset listed_depths = (field_without, depth_listed_in)
