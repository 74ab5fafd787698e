-- What is listed holds no float.
use Rattle.line_index.specs.declared.Position.{Position}
use Rattle.source_listing.proofs.Common.{Units, spot_in, Candidate, column_number, found_object, line_number, ◌≡◌, ℕ, ◌+◌, Bool, true, false, ◌||◌, if◌then◌else◌, List, [], ◌∷◌, ◌++◌, Option, Some, None, option_map, refl, filter, map, flat_map, items_of, Node, leaf, parent, Forest, empty, more, Unfolding, ItemPlace, Listed, MemberReading, header_of, members_of, Choice, Source, is_chosen, place_of, Subject, no_subject, is_file_enabled, Entry, EntryKind, of_item, ItemView, item_in, name_form, entry_id, entry_subject, header_form, subject_form, visibility_form, line_form, column_form, names_form, range_form, entry_object, flat_object, item_entry, member_entry, member_spot, member_object, member_objects, file_form, whole_object, own_objects, node_objects, listed_objects, tree_objects, problem_objects}
use Rattle.serde_json.specs.Data.{Data, Items, no_items, string}
use Rattle.serde_json.specs.Written.{has_float, items_have_float}
use Rattle.item_tree.specs.declared.visibility.RawVisibility.{RawVisibility}
use Rattle.item_tree.specs.declared.visibility.RawVisibility.TheVariants.{PubSelf}
use Rattle.item_tree.specs.declared.visibility.VisibilityExplicitness.TheVariants.{Implicit}
use Rattle.rust_items.specs.declared.log.Problem.{Problem}

-- ---- lists

or_none : (a b : Bool) → a ≡ false → b ≡ false → (a || b) ≡ false
or_none a b e f = rw (e, f) refl

first_none : (a b : Bool) → (a || b) ≡ false → a ≡ false
first_none false b e = refl
first_none true b e = absurd (cc)

second_none : (a b : Bool) → (a || b) ≡ false → b ≡ false
second_none false b e = e
second_none true b e = absurd (cc)

pub both_none : (xs ys : List Data) → items_have_float (items_of xs) ≡ false → items_have_float (items_of ys) ≡ false → items_have_float (items_of (xs ++ ys)) ≡ false
both_none [] ys e f = f
both_none (x ∷ xs) ys e f =
    let here = first_none (has_float x) (items_have_float (items_of xs)) e in
    let rest = second_none (has_float x) (items_have_float (items_of xs)) e in or_none (has_float x) (items_have_float (items_of (xs ++ ys))) here (both_none xs ys rest f)

pub one_none : (b : Bool) (d : Data) → has_float d ≡ false → items_have_float (items_of (if b then d ∷ [] else [])) ≡ false
one_none false d e = refl
one_none true d e = or_none (has_float d) false e refl

pub map_none : {A : Type 0} (each : A → Data) (xs : List A) → ((x : A) → has_float (each x) ≡ false) → items_have_float (items_of (map each xs)) ≡ false
map_none each [] h = refl
map_none each (x ∷ xs) h = or_none (has_float (each x)) (items_have_float (items_of (map each xs))) (h x) (map_none each xs h)

pub flat_none : {A : Type 0} (each : A → List Data) (xs : List A) → ((x : A) → items_have_float (items_of (each x)) ≡ false) → items_have_float (items_of (flat_map each xs)) ≡ false
flat_none each [] h = refl
flat_none each (x ∷ xs) h = both_none (each x) (flat_map each xs) (h x) (flat_none each xs h)

-- ---- members

-- of what there may be
pub some_none : {A : Type 0} (form : Option A → Data) (o : Option A) → has_float (form None) ≡ false → ((a : A) → has_float (form (Some a)) ≡ false) → has_float (form o) ≡ false
some_none form None e f = e
some_none form (Some a) e f = f a

header_none : (header : List ℕ) → has_float (header_form header) ≡ false
header_none [] = refl
header_none (b ∷ bs) = refl

subject_none : (reserved : List (List ℕ)) (header : List ℕ) (x : Subject) → has_float (subject_form reserved header x) ≡ false
subject_none reserved header no_subject = header_none header
subject_none reserved header _ = refl

pub visibility_none : (reserved : List (List ℕ)) (o : Option RawVisibility) → has_float (visibility_form reserved o) ≡ false
visibility_none reserved (Some (PubSelf Implicit)) = refl
visibility_none reserved _ = refl

-- ---- outlines

name_none : (name : Option (List ℕ)) → has_float (name_form name) ≡ false
name_none name = some_none name_form name refl (λ a. refl)

id_none : (k : EntryKind) → has_float (entry_id k) ≡ false
id_none (of_item _ _ _) = refl
id_none _ = refl

path_none : (reserved : List (List ℕ)) (k : EntryKind) → has_float (entry_subject reserved k) ≡ false
path_none reserved (of_item id header subject) = subject_none reserved header subject
path_none reserved _ = refl

object_none : (reserved : List (List ℕ)) (e : Entry) (ds : Items) → items_have_float ds ≡ false → has_float (entry_object reserved e ds) ≡ false
object_none reserved e ds h =
    rw (h, some_none column_form e.spot refl (λ a. refl), id_none e.kind, some_none line_form e.spot refl (λ a. refl), name_none e.name, path_none reserved e.kind, some_none range_form e.spot refl (λ a. refl), visibility_none reserved e.visibility) refl

names_none : (names : List (List ℕ)) → has_float (names_form names) ≡ false
names_none names = map_none string names (λ n. refl)

pub flat_object_none : (path : List ℕ) (reserved scope : List (List ℕ)) (e : Entry) → has_float (flat_object path reserved scope e) ≡ false
flat_object_none path reserved scope e =
    rw (some_none column_form e.spot refl (λ a. refl), id_none e.kind, some_none line_form e.spot refl (λ a. refl), name_none e.name, path_none reserved e.kind, some_none range_form e.spot refl (λ a. refl), names_none scope, visibility_none reserved e.visibility) refl

member_none : (units : Units) (text : List ℕ) (reserved : List (List ℕ)) (m : Listed) → has_float (member_object units text reserved m) ≡ false
member_none units text reserved m = object_none reserved (member_entry (member_spot units text m) m) no_items refl

module _ (units : Units) (s : Source) (x : MemberReading) (reserved : List (List ℕ)) (places : List ItemPlace) (c : Choice) where
  at_none : (level : ℕ) (i : ItemView) (place : Option ItemPlace) (ds : List Data) → items_have_float (items_of ds) ≡ false → has_float (whole_object units s x reserved places c level i place ds) ≡ false
  at_none level i place ds e =
      let members = member_objects units s.text reserved c level (members_of x place i.is_active) in
      let none : items_have_float (items_of members) ≡ false = map_none (member_object units s.text reserved) (filter (λ m. is_chosen c (level + 1) m.is_active) (members_of x place i.is_active)) (member_none units s.text reserved) in
      object_none reserved (item_entry (header_of x i.id.kind place) (option_map (spot_in units s.text) place) i) (items_of (members ++ ds)) (both_none members ds none e)

  own_none : (level : ℕ) (i : ItemView) (ds : List Data) → items_have_float (items_of ds) ≡ false → items_have_float (items_of (own_objects units s x reserved places c level i ds)) ≡ false
  own_none level i ds e =
      one_none (is_chosen c level i.is_active) (whole_object units s x reserved places c level i (place_of i.id places) ds) (at_none level i (place_of i.id places) ds e)

  mutual
    node_none : (level : ℕ) (a : Bool) (n : Node) → items_have_float (items_of (node_objects units s x reserved places c level a n)) ≡ false
    node_none level a (leaf h l) = own_none level (item_in a (leaf h l)) [] refl
    node_none level a (parent h t f) = own_none level (item_in a (parent h t f)) (listed_objects units s x reserved places c (level + 1) (item_in a (parent h t f)).is_active f) (forest_none (level + 1) (item_in a (parent h t f)).is_active f)

    forest_none : (level : ℕ) (a : Bool) (f : Forest) → items_have_float (items_of (listed_objects units s x reserved places c level a f)) ≡ false
    forest_none level a empty = refl
    forest_none level a (more n f) = both_none (node_objects units s x reserved places c level a n) (listed_objects units s x reserved places c level a f) (node_none level a n) (forest_none level a f)

  -- the values of an outline hold no float
  pub no_float_in_outline : (u : Unfolding) → items_have_float (items_of (tree_objects units s x reserved places c u)) ≡ false
  no_float_in_outline u = forest_none 0 (is_file_enabled u) u.forest

  -- nor does the object of a file
  pub file_none : (u : Unfolding) → has_float (file_form s.path (items_of (tree_objects units s x reserved places c u))) ≡ false
  file_none u = or_none (items_have_float (items_of (tree_objects units s x reserved places c u))) false (no_float_in_outline u) refl

-- ---- problems

-- the values of problems hold no float
pub no_float_in_problems : (units : Units) (text : List ℕ) (ps : List Problem) → items_have_float (items_of (problem_objects units text ps)) ≡ false
no_float_in_problems units text [] = refl
no_float_in_problems units text (p ∷ ps) = no_float_in_problems units text ps

-- ---- what is found

line_number_none : (p : Option Position) → has_float (line_number p) ≡ false
line_number_none None = refl
line_number_none (Some p) = refl

column_number_none : (p : Option Position) → has_float (column_number p) ≡ false
column_number_none None = refl
column_number_none (Some p) = refl

pub found_none : (path : List ℕ) (p : Option Position) (c : Candidate) → has_float (found_object path p c) ≡ false
found_none path p c = rw (column_number_none p, line_number_none p) refl
