-- Steps of the loop, and why what is closed has all that follows.
use Rattle.std.proofs.Common.{Result, Ok, Err, ◌≡◌, ◌≤◌, ◌<◌, ◌+◌, ℕ, Bool, true, false, ◌||◌, List, [], ◌∷◌, ◌++◌, Option, Some, None, slice_get, slice_index_or, length, take, drop, if◌then◌else◌, refl, sym, ap, subst, ◌∙◌, arith, ◌⊎◌, ⊎_elim}
use Rattle.std.specs.List.{All, Contains, IsDistinct, sum_by, list_any}
use Rattle.std.proofs.lemmas.List.{take-append-le, take_all, take_more, length-append, append-nil, append_assoc, take-append-drop, get_or_append_left}
use Rattle.std.proofs.lemmas.List.Elements.{All-nil, All-cons, All-append, All-weaker, All-push, All-contains, Contains-append_left, Contains-append_right, Contains-push_cases, Contains-get_or}
use Rattle.std.proofs.lemmas.List.Sums.{sum_by-cons, sum_by-append}
use Rattle.std.proofs.lemmas.Option.{slice_get_within, slice_get-get_or, get_or_from_slice_get, same_Some}
use Rattle.std.proofs.lemmas.Bool.{false≢true}
use Rattle.std.proofs.lemmas.Map.Made.{AllPairs-from_IsDistinct}
use Rattle.std.specs.Map.{lookup}
use Rattle.indexmap.specs.IndexSet.{insert_key}
use Rattle.indexmap.proofs.CallerLemmas.{Contains-insert_key}
use Rattle.def_map.specs.declared.{closure.ClosureError.ClosureError, facts.Fact.Fact, facts.ImportTable.ImportTable, fact_index.Key.Key, kinds.Namespace.Namespace}
use Rattle.def_map.specs.declared.closure.ClosureError.TheVariants.{TooManyFacts}
use Rattle.def_map.specs.declared.fact_index.FactIndex.{FactIndex}
use Rattle.def_map.specs.declared.kinds.Namespace.TheVariants.{Types, Values, Macros}
use Rattle.def_map.specs.contracts.facts.FactPartialEq.TheImpl as facts
use Rattle.def_map.specs.contracts.fact_index.KeyPartialEq.TheImpl as keys
use Rattle.def_map.specs.Closure.{follows, concludes, Closes, given, followed, concluded, AreClosed, AreWhole, HasTooManyFacts, HasTooManyJoins, own_keys, met_keys, is_key, once_at, times_at, meetings, joins_behind, joins, most_facts, most_joins}
use Rattle.def_map.specs.Inner.Closing.{meets, met_at, PutsIf, AnswersFact, StaysFew, Reaches, Seeds, IsFactFollowed, IsMet, IsApplied, IsFault, PlacedFacts, IsIndexed, once, placed_items, fact_list, places_at, path_stands_at}
use Rattle.def_map.proofs.Deciding.{fact_decides}
use Rattle.def_map.proofs.Meeting.{none_some, Meets, joined, meets_ahead, meets_back, meets_closes, not_itself}

-- ---- lists that grow

pub kept : (old more new : List Fact) → new ≡ old ++ more → (f : Fact) → Contains old f → Contains new f
kept old more new grows f has = subst (λ l. Contains l f) (sym grows) (Contains-append_left old more f has)

joins_more : (old a mid b new : List Fact) → mid ≡ old ++ a → new ≡ mid ++ b → new ≡ old ++ (a ++ b)
joins_more old a mid b new first second = second ∙ ap (λ l. l ++ b) first ∙ append_assoc old a b

pub kept_at : (old more new : List Fact) → new ≡ old ++ more → (p : ℕ) (f : Fact) → slice_get old p ≡ Some f → slice_get new p ≡ Some f
kept_at old more new grows p f is =
    let within : p < length old = slice_get_within old p f is in
    let longer : length (old ++ more) ≡ length old + length more = length-append old more in
    ap (λ l. slice_get l p) grows ∙ slice_get-get_or (old ++ more) p f (omega (arith, within, longer))
    ∙ ap Some (get_or_append_left old more f p within ∙ get_or_from_slice_get old p f f is)

pub is_in : (at : ℕ) (f : Fact) (old : List Fact) → slice_get old at ≡ Some f → Contains old f
is_in at f old is = subst (Contains old) (get_or_from_slice_get old at f f is) (Contains-get_or old at f (slice_get_within old at f is))

taken_more : (at : ℕ) (f : Fact) (old more new : List Fact) → slice_get old at ≡ Some f → new ≡ old ++ more → take (at + 1) new ≡ take at old ++ f ∷ []
taken_more at f old more new is grows =
    let within : at < length old = slice_get_within old at f is in
    ap (take (at + 1)) grows ∙ take-append-le (at + 1) old more (omega (arith, within)) ∙ take_more old at f within
    ∙ ap (λ g. take at old ++ g ∷ []) (get_or_from_slice_get old at f f is)

further : (at : ℕ) (f : Fact) (old more new : List Fact) → slice_get old at ≡ Some f → new ≡ old ++ more → at + 1 ≤ length new
further at f old more new is grows =
    let within : at < length old = slice_get_within old at f is in
    let longer : length new ≡ length old + length more = ap length grows ∙ length-append old more in
    omega (arith, within, longer)

-- ---- one fact is put

pub puts_of : (wanted : Option Fact) (fact : Fact) (old new : List Fact) → wanted ≡ Some fact → new ≡ insert_key facts.ghosts.eq old fact → PutsIf wanted old new
puts_of wanted fact old new some is = by (list_any (facts.ghosts.eq fact) old) refl
  where
    by : (b : Bool) → list_any (facts.ghosts.eq fact) old ≡ b → PutsIf wanted old new
    by true e = record { more = []; grows = is ∙ ap (λ (b : Bool). if b then old else old ++ fact ∷ []) e ∙ sym (append-nil old); only = All-nil (λ f. wanted ≡ Some f) }
    by false e = record { more = fact ∷ []; grows = is ∙ ap (λ (b : Bool). if b then old else old ++ fact ∷ []) e; only = All-cons (λ f. wanted ≡ Some f) fact [] some (All-nil (λ f. wanted ≡ Some f)) }

pub puts_none : (wanted : Option Fact) (old new : List Fact) → new ≡ old → PutsIf wanted old new
puts_none wanted old new is = record { more = []; grows = is ∙ sym (append-nil old); only = All-nil (λ f. wanted ≡ Some f) }

pub answers_of : (wanted : Option Fact) (fact : Fact) (old new : List Fact) → wanted ≡ Some fact → new ≡ insert_key facts.ghosts.eq old fact → AnswersFact wanted new
answers_of wanted fact old new some is f same =
    subst (λ l. Contains l f) (sym is) (subst (Contains (insert_key facts.ghosts.eq old fact)) (same_Some fact f (sym some ∙ same)) (Contains-insert_key facts.ghosts.eq (λ x y. (fact_decides x y).0) old fact))

-- ---- what a fact reaches

pub reaches_none : (t : ImportTable) (f : Fact) (old new : List Fact) → new ≡ old → Reaches t f old new
reaches_none t f old new is = record { more = []; grows = is ∙ sym (append-nil old); sound = λ seeds all mine. subst (AreClosed t seeds) (sym is) all }

reaches_put : (t : ImportTable) (f : Fact) (answer : Option Fact) (old mid new : List Fact) → Reaches t f old mid → PutsIf answer mid new
    → ((seeds : List Fact) (h : Fact) → AreClosed t seeds mid → Closes t seeds f → answer ≡ Some h → Closes t seeds h) → Reaches t f old new
reaches_put t f answer old mid new so put closes = record {
  more = so.more ++ put.more;
  grows = joins_more old so.more mid put.more new so.grows put.grows;
  sound = λ seeds all mine.
      let before = so.sound seeds all mine in
      subst (AreClosed t seeds) (sym put.grows) (All-append (Closes t seeds) mid put.more before
      (All-weaker (λ h. answer ≡ Some h) (Closes t seeds) (λ h says. closes seeds h before mine says) put.more put.only));
}

pub reaches_follow : (t : ImportTable) (f : Fact) (ns : Namespace) (old mid new : List Fact) → Reaches t f old mid → PutsIf (follows t ns f) mid new → Reaches t f old new
reaches_follow t f ns old mid new so put = reaches_put t f (follows t ns f) old mid new so put (λ seeds h all mine says. followed ns f h mine says)

pub reaches_meet : (t : ImportTable) (f : Fact) (place : ℕ) (old mid new : List Fact) → Reaches t f old mid → PutsIf (met_at t f (slice_get mid place)) mid new → Reaches t f old new
reaches_meet t f place old mid new so put = reaches_put t f (met_at t f (slice_get mid place)) old mid new so put (λ seeds h all mine says. by seeds h all mine (slice_get mid place) refl says)
  where
    by : (seeds : List Fact) (h : Fact) → AreClosed t seeds mid → Closes t seeds f → (o : Option Fact) → slice_get mid place ≡ o → met_at t f o ≡ Some h → Closes t seeds h
    by seeds h all mine None e says = absurd (none_some h says)
    by seeds h all mine (Some g) e says = meets_closes t seeds f g h mine (All-contains (Closes t seeds) mid g all (is_in place g mid e)) says

pub reaches_both : (t : ImportTable) (f : Fact) (old mid new : List Fact) → Reaches t f old mid → Reaches t f mid new → Reaches t f old new
reaches_both t f old mid new a b = record {
  more = a.more ++ b.more;
  grows = joins_more old a.more mid b.more new a.grows b.grows;
  sound = λ seeds all mine. b.sound seeds (a.sound seeds all mine) mine;
}

-- ---- each loop, one further

pub seeds_more : (seeds : List Fact) (x : Fact) (old mid new : List Fact) → Contains seeds x → Seeds seeds old mid → PutsIf (Some x) mid new → Seeds seeds old new
seeds_more seeds x old mid new own so put = record {
  more = so.more ++ put.more;
  grows = joins_more old so.more mid put.more new so.grows put.grows;
  only = All-append (Contains seeds) so.more put.more so.only
      (All-weaker (λ f. Some x ≡ Some f) (Contains seeds) (λ f same. subst (Contains seeds) (same_Some x f same) own) put.more put.only);
}

pub seeds_none : (seeds old new : List Fact) → new ≡ old → Seeds seeds old new
seeds_none seeds old new is = record { more = []; grows = is ∙ sym (append-nil old); only = All-nil (Contains seeds) }

pub all_seeds : (xs : List Fact) (x : Fact) (mid more new : List Fact) → new ≡ mid ++ more → All (Contains mid) xs → AnswersFact (Some x) new → All (Contains new) (xs ++ x ∷ [])
all_seeds xs x mid more new grows so has = All-push (Contains new) xs x (All-weaker (Contains mid) (Contains new) (kept mid more new grows) xs so) (has x refl)

pub all_followed : (t : ImportTable) (f : Fact) (xs : List Namespace) (mid more new : List Fact) → new ≡ mid ++ more → All (IsFactFollowed t f mid) xs → All (IsFactFollowed t f new) xs
all_followed t f xs mid more new grows so = All-weaker (IsFactFollowed t f mid) (IsFactFollowed t f new) (λ ns has h says. kept mid more new grows h (has h says)) xs so

pub followed_more : (t : ImportTable) (f : Fact) (xs : List Namespace) (ns : Namespace) (mid more new : List Fact) → new ≡ mid ++ more → All (IsFactFollowed t f mid) xs → AnswersFact (follows t ns f) new
    → All (IsFactFollowed t f new) (xs ++ ns ∷ [])
followed_more t f xs ns mid more new grows so has = All-push (IsFactFollowed t f new) xs ns (all_followed t f xs mid more new grows so) has

-- met by what was there before, and found in what is there later
pub all_met : (t : ImportTable) (f : Fact) (xs : List ℕ) (older old mid new a b : List Fact) → old ≡ older ++ a → new ≡ mid ++ b → All (IsMet t f old mid) xs → All (IsMet t f older new) xs
all_met t f xs older old mid new a b first second so =
    All-weaker (IsMet t f old mid) (IsMet t f older new) (λ p met g is h says. kept mid b new second h (met g (kept_at older a old first p g is) h says)) xs so

pub met_more : (t : ImportTable) (f : Fact) (xs : List ℕ) (place : ℕ) (old mid new a b : List Fact) → mid ≡ old ++ a → new ≡ mid ++ b → All (IsMet t f old mid) xs
    → AnswersFact (met_at t f (slice_get mid place)) new → All (IsMet t f old new) (xs ++ place ∷ [])
met_more t f xs place old mid new a b first second so has =
    All-push (IsMet t f old new) xs place (all_met t f xs old old mid new [] b (sym (append-nil old)) second so)
    (λ g is h says. has h (ap (met_at t f) (kept_at old a mid first place g is) ∙ says))

-- what each part of a step leaves, the whole leaves
pub applied_of : (t : ImportTable) (f : Fact) (nss : List Namespace) (ps qs : List ℕ) (old a b new : List Fact) → Reaches t f old a → Reaches t f a b → Reaches t f b new
    → All (IsFactFollowed t f a) nss → All (IsMet t f a b) ps → All (IsMet t f b new) qs → IsApplied t f nss ps qs old new
applied_of t f nss ps qs old a b new to_a to_b to_new alone first second = record {
  alone = all_followed t f nss b to_new.more new to_new.grows (all_followed t f nss a to_b.more b to_b.grows alone);
  first = all_met t f ps old a b new to_a.more to_new.more to_a.grows to_new.grows first;
  second = all_met t f qs old b new new (to_a.more ++ to_b.more) [] (joins_more old to_a.more a to_b.more b to_a.grows to_b.grows) (sym (append-nil new)) second;
}

-- ---- the loop

-- what holds of the facts before those that are to be applied from a place on
pub record Goes (t : ImportTable) (seeds : List Fact) (at : ℕ) (facts : List Fact) (places : Key → List ℕ) (count : ℕ) : Type 0 where
  pub sound : AreClosed t seeds facts
  pub has : All (Contains facts) seeds
  pub alone : (f : Fact) → Contains (take at facts) f → (ns : Namespace) (h : Fact) → follows t ns f ≡ Some h → Contains facts h
  pub paired : (f g : Fact) → Contains (take at facts) f → Contains (take at facts) g → (h : Fact) → concludes t f g ≡ Some h → Contains facts h
  pub entered : (key : Key) (g : Fact) → Contains (take at facts) g → path_stands_at t (Some key) g ≡ true → PlacedFacts facts (places key) g
  pub sizes : (key : Key) → length (places key) ≡ sum_by (times_at t (Some key)) (take at facts)
  pub within : at ≤ length facts
  pub few : length facts ≤ most_facts
  pub counted : count ≡ joins t (take at facts)
  pub small : count ≤ most_joins

none_in : {X : Type 0} (x : X) → Contains [] x → ⊥
none_in x h = omega (arith, h.1)

pub goes_first : (t : ImportTable) (seeds old facts : List Fact) (places : Key → List ℕ) → length old ≡ 0 → Seeds seeds old facts → All (Contains facts) seeds → StaysFew old facts
    → ((key : Key) → places key ≡ []) → Goes t seeds 0 facts places 0
goes_first t seeds (x ∷ old) facts places none so has few empty = absurd (omega (arith, none))
goes_first t seeds [] facts places none so has few empty = record {
  sound = subst (AreClosed t seeds) (sym so.grows) (All-weaker (Contains seeds) (Closes t seeds) (λ f in'. given f in') so.more so.only);
  has = has;
  alone = λ f in' ns h says. absurd (none_in f in');
  paired = λ f g in' other h says. absurd (none_in f in');
  entered = λ key g in' stands. absurd (none_in g in');
  sizes = λ key. ap length (empty key);
  within = omega arith;
  few = few (omega arith);
  counted = refl;
  small = omega arith;
}

whole : (t : ImportTable) (seeds facts : List Fact) → All (Contains facts) seeds
    → ((f : Fact) → Contains facts f → (ns : Namespace) (h : Fact) → follows t ns f ≡ Some h → Contains facts h)
    → ((f g : Fact) → Contains facts f → Contains facts g → (h : Fact) → concludes t f g ≡ Some h → Contains facts h) → (f : Fact) → Closes t seeds f → Contains facts f
whole t seeds facts has alone paired _ (given f in') = All-contains (Contains facts) seeds f has in'
whole t seeds facts has alone paired _ (followed ns f g mine says) = alone f (whole t seeds facts has alone paired f mine) ns g says
whole t seeds facts has alone paired _ (concluded f g h mine other says) =
    paired f g (whole t seeds facts has alone paired f mine) (whole t seeds facts has alone paired g other) h says

pub goes_last : (t : ImportTable) (seeds : List Fact) (at : ℕ) (facts : List Fact) (places : Key → List ℕ) (count : ℕ) → Goes t seeds at facts places count → length facts ≤ at → AreWhole t seeds facts
goes_last t seeds at facts places count so past =
    let all : take at facts ≡ facts = take_all at facts past in
    whole t seeds facts so.has
    (λ f in'. so.alone f (subst (λ l. Contains l f) (sym all) in'))
    (λ f g in' other. so.paired f g (subst (λ l. Contains l f) (sym all) in') (subst (λ l. Contains l g) (sym all) other))

pub goes_indexed : (t : ImportTable) (seeds : List Fact) (at : ℕ) (facts : List Fact) (index : FactIndex) (count : ℕ) → Goes t seeds at facts (places_at index) count → length facts ≤ at → IsIndexed t facts index
goes_indexed t seeds at facts index count so past key g in' = so.entered key g (subst (λ l. Contains l g) (sym (take_all at facts past)) in')

-- what a look into the list says
pub item_is : (xs facts : List Fact) (at : ℕ) (f : Fact) → xs ≡ facts → at < length xs → f ≡ slice_index_or xs at f → slice_get facts at ≡ Some f
item_is xs facts at f same low is = subst (λ l. slice_get l at ≡ Some f) same (slice_get-get_or xs at f low ∙ ap Some (sym is))

-- ---- refusals

err_or : {X : Type 0} → ClosureError → Result X ClosureError → ClosureError
err_or d (Ok x) = d
err_or d (Err e) = e

same_error : {X : Type 0} (r : Result X ClosureError) (d e : ClosureError) → r ≡ Err d → r ≡ Err e → d ≡ e
unfolding err_or
same_error r d e is says = ap (err_or d) (sym is ∙ says)

pub too_many_seeds : {X : Type 0} (t : ImportTable) (seeds old new : List Fact) (e : ClosureError) (r : Result X ClosureError) → r ≡ Err e → length old ≡ 0 → Seeds seeds old new
    → IsFault new e → r ≡ Err TooManyFacts → HasTooManyFacts t seeds
too_many_seeds t seeds (x ∷ old) new e r is none so fault says = absurd (omega (arith, none))
too_many_seeds t seeds [] new e r is none so fault says =
    let all = subst (IsFault new) (same_error r e TooManyFacts is says) fault in
    (record { facts = new; closed = subst (AreClosed t seeds) (sym so.grows) (All-weaker (Contains seeds) (Closes t seeds) (λ f in'. given f in') so.more so.only); different = all.1 }, all.0)

pub too_many_facts : {X : Type 0} (t : ImportTable) (seeds : List Fact) (at : ℕ) (f : Fact) (old new : List Fact) (e : ClosureError) (r : Result X ClosureError) → r ≡ Err e
    → AreClosed t seeds old → slice_get old at ≡ Some f → Reaches t f old new → IsFault new e → r ≡ Err TooManyFacts → HasTooManyFacts t seeds
too_many_facts t seeds at f old new e r is all in' step fault says =
    let both = subst (IsFault new) (same_error r e TooManyFacts is says) fault in
    (record { facts = new; closed = step.sound seeds all (All-contains (Closes t seeds) old f all (is_in at f old in')); different = both.1 }, both.0)

pub too_many_joins : (t : ImportTable) (seeds found : List Fact) → AreClosed t seeds found → IsDistinct facts.ghosts.eq found → most_joins < joins t found → HasTooManyJoins t seeds
too_many_joins t seeds found all unique many = (record { facts = found; closed = all; different = AllPairs-from_IsDistinct fact_decides found unique }, many)

pub empty_places : (index : FactIndex) → index.lists.entries ≡ [] → (key : Key) → places_at index key ≡ []
empty_places index none key = ap (λ es. placed_items (λ v. v.items) (lookup (keys.ghosts.eq key) es)) none

-- ---- counts

length-once : {X : Type 0} (key : Key) (own : Option Key) (x : X) → length (once key own x) ≡ once_at key own
length-once key own x = by (is_key key own)
  where
    by : (b : Bool) → length (if b then x ∷ [] else []) ≡ (if b then 1 else 0)
    by true = refl
    by false = refl

never : (t : ImportTable) (xs : List Fact) → sum_by (times_at t None) xs ≡ 0
unfolding times_at
never t [] = refl
never t (x ∷ xs) =
    let here : times_at t None x ≡ 0 = refl in
    let all = sum_by-cons (times_at t None) x xs in
    let rest = never t xs in
    omega (arith, here, all, rest)

joins_behind-append : (t : ImportTable) (before xs ys : List Fact) → joins_behind t before (xs ++ ys) ≡ joins_behind t before xs + joins_behind t (before ++ xs) ys
joins_behind-append t before [] ys = ap (λ l. joins_behind t l ys) (sym (append-nil before)) ∙ omega arith
joins_behind-append t before (x ∷ xs) ys =
    let rest = joins_behind-append t (before ++ x ∷ []) xs ys in
    let same : joins_behind t ((before ++ x ∷ []) ++ xs) ys ≡ joins_behind t (before ++ x ∷ xs) ys = ap (λ l. joins_behind t l ys) (append_assoc before (x ∷ []) xs) in
    omega (arith, rest, same)

joins-push : (t : ImportTable) (xs : List Fact) (f : Fact) → joins t (xs ++ f ∷ []) ≡ joins t xs + meetings t xs f
joins-push t xs f = let all = joins_behind-append t [] xs (f ∷ []) in omega (arith, all)

joins_within : (t : ImportTable) (at : ℕ) (facts : List Fact) → joins t (take at facts) ≤ joins t facts
joins_within t at facts =
    let all = joins_behind-append t [] (take at facts) (drop at facts) in
    let same : joins t (take at facts ++ drop at facts) ≡ joins t facts = ap (joins t) (take-append-drop at facts) in
    omega (arith, all, same)

-- ---- one fact is applied

module _ (t : ImportTable) (seeds : List Fact) (at : ℕ) (f : Fact) (old : List Fact) (places : Key → List ℕ) (count : ℕ) (so : Goes t seeds at old places count) (is : slice_get old at ≡ Some f) where
  mine : Closes t seeds f
  mine = All-contains (Closes t seeds) old f so.sound (is_in at f old is)

  list_sizes : (key : Option Key) → length (fact_list places key) ≡ sum_by (times_at t key) (take at old)
  list_sizes None = sym (never t (take at old))
  list_sizes (Some key) = so.sizes key

  list_entered : (key : Option Key) (g : Fact) → Contains (take at old) g → path_stands_at t key g ≡ true → PlacedFacts old (fact_list places key) g
  unfolding path_stands_at
  list_entered None g in' stands = absurd (false≢true stands)
  list_entered (Some key) g in' stands = so.entered key g in' stands

  -- so many pairs are counted, and as many there are
  pub goes_count : count + (length (fact_list places (met_keys t f).0) + length (fact_list places (met_keys t f).1)) ≡ joins t (take at old ++ f ∷ [])
  goes_count =
      let one = list_sizes (met_keys t f).0 in
      let two = list_sizes (met_keys t f).1 in
      let all = joins-push t (take at old) f in
      omega (arith, one, two, all, so.counted)

  pub goes_many : (first second : ℕ) → first ≡ length (fact_list places (met_keys t f).0) → second ≡ length (fact_list places (met_keys t f).1) → most_joins < count + (first + second) → most_joins < joins t old
  goes_many first second one two many =
      let all = goes_count in
      let upto = joins_within t (at + 1) old in
      let same : joins t (take (at + 1) old) ≡ joins t (take at old ++ f ∷ []) = ap (joins t) (taken_more at f old [] old is (sym (append-nil old))) in
      omega (arith, all, upto, same, one, two, many)

  module _ (new : List Fact) (next : Key → List ℕ) (first second : List ℕ) (step : Reaches t f old new) (done : IsApplied t f (Types ∷ Values ∷ Macros ∷ []) first second old new)
      (one : first ≡ fact_list places (met_keys t f).0) (two : second ≡ fact_list places (met_keys t f).1)
      (enter : (key : Key) → next key ≡ places key ++ once key (own_keys t f).0 at ++ once key (own_keys t f).1 at) where
    taken : take (at + 1) new ≡ take at old ++ f ∷ []
    taken = taken_more at f old step.more new is step.grows

    cases : (g : Fact) → Contains (take (at + 1) new) g → Contains (take at old) g ⊎ (f ≡ g)
    cases g in' = Contains-push_cases (take at old) f g (subst (λ l. Contains l g) taken in')

    each : (ns : Namespace) → Contains (Types ∷ Values ∷ Macros ∷ []) ns
    each Types = Contains-get_or (Types ∷ Values ∷ Macros ∷ []) 0 Types (omega arith)
    each Values = Contains-get_or (Types ∷ Values ∷ Macros ∷ []) 1 Types (omega arith)
    each Macros = Contains-get_or (Types ∷ Values ∷ Macros ∷ []) 2 Types (omega arith)

    alone : (g : Fact) → Contains (take (at + 1) new) g → (ns : Namespace) (h : Fact) → follows t ns g ≡ Some h → Contains new h
    alone g in' ns h says =
        ⊎_elim (λ (before : Contains (take at old) g). kept old step.more new step.grows h (so.alone g before ns h says))
        (λ (same : f ≡ g). All-contains (IsFactFollowed t f new) (Types ∷ Values ∷ Macros ∷ []) ns done.alone (each ns) h (subst (λ x. follows t ns x ≡ Some h) (sym same) says))
        (cases g in')

    partner : (g : Fact) → Contains (take at old) g → Meets t f g → (h : Fact) → meets t f g ≡ Some h → Contains new h
    partner g in' at_key h says =
        ⊎_elim
        (λ (stands : path_stands_at t (met_keys t f).0 g ≡ true).
        let there = list_entered (met_keys t f).0 g in' stands in
        All-contains (IsMet t f old new) first there.0 done.first (subst (λ l. Contains l there.0) (sym one) there.1) g there.2 h says)
        (λ (stands : path_stands_at t (met_keys t f).1 g ≡ true).
        let there = list_entered (met_keys t f).1 g in' stands in
        All-contains (IsMet t f old new) second there.0 done.second (subst (λ l. Contains l there.0) (sym two) there.1) g there.2 h says)
        at_key

    paired : (g k : Fact) → Contains (take (at + 1) new) g → Contains (take (at + 1) new) k → (h : Fact) → concludes t g k ≡ Some h → Contains new h
    paired g k in' other h says =
        ⊎_elim
        (λ (before : Contains (take at old) g). ⊎_elim
        (λ (also : Contains (take at old) k). kept old step.more new step.grows h (so.paired g k before also h says))
        (λ (same : f ≡ k). let says' = subst (λ x. concludes t g x ≡ Some h) (sym same) says in partner g before (joined t g f h says').back h (meets_back t g f h says'))
        (cases k other))
        (λ (same : f ≡ g). let says' = subst (λ x. concludes t x k ≡ Some h) (sym same) says in ⊎_elim
        (λ (also : Contains (take at old) k). partner k also (joined t f k h says').ahead h (meets_ahead t f k h says'))
        (λ (same' : f ≡ k). absurd (not_itself t f h (subst (λ x. concludes t f x ≡ Some h) (sym same') says')))
        (cases k other))
        (cases g in')

    once_in : (key : Key) (own : Option Key) → is_key key own ≡ true → Contains (once key own at) at
    once_in key own e = subst (λ (b : Bool). Contains (if b then at ∷ [] else []) at) (sym e) (Contains-get_or (at ∷ []) 0 at (omega arith))

    entered : (key : Key) (g : Fact) → Contains (take (at + 1) new) g → path_stands_at t (Some key) g ≡ true → PlacedFacts new (next key) g
    unfolding path_stands_at
    entered key g in' stands =
        ⊎_elim
        (λ (before : Contains (take at old) g).
        let there = so.entered key g before stands in (
          there.0,
          subst (λ l. Contains l there.0) (sym (enter key)) (Contains-append_left (places key ++ once key (own_keys t f).0 at) (once key (own_keys t f).1 at) there.0
              (Contains-append_left (places key) (once key (own_keys t f).0 at) there.0 there.1)),
          kept_at old step.more new step.grows there.0 g there.2,
        ))
        (λ (same : f ≡ g).
        let mine' = subst (λ x. path_stands_at t (Some key) x ≡ true) (sym same) stands in (
          at,
          subst (λ l. Contains l at) (sym (enter key)) (by (is_key key (own_keys t f).0) refl mine'),
          kept_at old step.more new step.grows at g (is ∙ ap Some same),
        ))
        (cases g in')
      where
        by : (b : Bool) → is_key key (own_keys t f).0 ≡ b → (is_key key (own_keys t f).0 || is_key key (own_keys t f).1) ≡ true
            → Contains (places key ++ once key (own_keys t f).0 at ++ once key (own_keys t f).1 at) at
        by true e stands' =
            Contains-append_left (places key ++ once key (own_keys t f).0 at) (once key (own_keys t f).1 at) at
            (Contains-append_right (places key) (once key (own_keys t f).0 at) at (once_in key (own_keys t f).0 e))
        by false e stands' =
            Contains-append_right (places key ++ once key (own_keys t f).0 at) (once key (own_keys t f).1 at) at
            (once_in key (own_keys t f).1 (ap (λ b. b || is_key key (own_keys t f).1) (sym e) ∙ stands'))

    sizes : (key : Key) → length (next key) ≡ sum_by (times_at t (Some key)) (take (at + 1) new)
    unfolding times_at
    sizes key =
        let own = own_keys t f in
        let a = length-append (places key ++ once key own.0 at) (once key own.1 at) in
        let b = length-append (places key) (once key own.0 at) in
        let c = length-once key own.0 at in
        let d = length-once key own.1 at in
        let e = sum_by-append (times_at t (Some key)) (take at old) (f ∷ []) in
        let g = sum_by-cons (times_at t (Some key)) f [] in
        let before = so.sizes key in
        ap length (enter key) ∙ omega (arith, a, b, c, d, e, g, before) ∙ ap (sum_by (times_at t (Some key))) (sym taken)

    pub goes_on : (count' : ℕ) → StaysFew old new → count' ≡ count + (length first + length second) → count' ≤ most_joins → Goes t seeds (at + 1) new next count'
    goes_on count' few counts small = record {
      sound = step.sound seeds so.sound mine;
      has = All-weaker (Contains old) (Contains new) (kept old step.more new step.grows) seeds so.has;
      alone = alone;
      paired = paired;
      entered = entered;
      sizes = sizes;
      within = further at f old step.more new is step.grows;
      few = few so.few;
      counted = counts ∙ ap (λ (l : List ℕ). count + (length l + length second)) one ∙ ap (λ (l : List ℕ). count + (length (fact_list places (met_keys t f).0) + length l)) two
          ∙ goes_count ∙ ap (joins t) (sym taken);
      small = small;
    }
