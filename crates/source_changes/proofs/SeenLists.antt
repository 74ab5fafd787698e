-- What of two lists is the same, where the lists are seen as others.
use Rattle.std.proofs.Common.{◌≡◌, ℕ, zero, suc, ◌+◌, Bool, true, false, List, [], ◌∷◌, ◌++◌, map, Option, Some, None, Bor, cond, refl, ap, sym, ◌∙◌}
use Rattle.std.specs.{Prelude.option_map, Prelude.slice_get, List.count_by, List.filter, List.flat_map}
use Rattle.std.proofs.lemmas.List.{map-append, Sums.sum_by-cons}
use Rattle.source_changes.specs.declared.matching.{Keyed.Keyed, Match.Match, Match.TheVariants.Gone}
use Rattle.source_changes.specs.Matches.{partner, partners_behind, partners, gone_if, came_if, gone_of, match_of, matches_of, ranks, ranks_behind, match_map, match_now, same_keys}

-- ---- matches seen as others

twice_one : {A B C : Type 0} (f : A → B) (g : B → C) (m : Match A) → match_map (λ a. g (f a)) m ≡ match_map g (match_map f m)
twice_one f g (Gone x) = refl
twice_one f g _ = refl

map_twice : {A B C : Type 0} (f : A → B) (g : B → C) (ms : List (Match A)) → map (match_map (λ a. g (f a))) ms ≡ map (match_map g) (map (match_map f) ms)
map_twice f g [] = refl
map_twice f g (m ∷ ms) = λ i. twice_one f g m i ∷ map_twice f g ms i

same_one : {A : Type 0} (m : Match A) → match_map (λ a. a) m ≡ m
same_one (Gone x) = refl
same_one _ = refl

map_same : {A : Type 0} (ms : List (Match A)) → map (match_map (λ a. a)) ms ≡ ms
map_same [] = refl
map_same (m ∷ ms) = λ i. same_one m i ∷ map_same ms i

-- ---- lists seen as others

module _ {A B : Type 0} (f : A → B) where
  filter_seen : (p : B → Bool) (xs : List A) → map f (filter (λ x. p (f x)) xs) ≡ filter p (map f xs)
  filter_seen p [] = refl
  filter_seen p (x ∷ xs) = at_either (p (f x)) ∙ ap (λ ys. cond (p (f x)) (f x ∷ ys) ys) (filter_seen p xs)
    where
      at_either : (t : Bool) → map f (cond t (x ∷ filter (λ y. p (f y)) xs) (filter (λ y. p (f y)) xs)) ≡ cond t (f x ∷ map f (filter (λ y. p (f y)) xs)) (map f (filter (λ y. p (f y)) xs))
      at_either true = refl
      at_either false = refl

  count_seen : (p : B → Bool) (xs : List A) → count_by (λ x. p (f x)) xs ≡ count_by p (map f xs)
  count_seen p [] = refl
  count_seen p (x ∷ xs) =
      let one : ℕ = cond (p (f x)) 1 0 in
      sum_by-cons (λ y. cond (p (f y)) 1 0) x xs ∙ ap (λ n. one + n) (count_seen p xs) ∙ sym (sum_by-cons (λ y. cond (p y) 1 0) (f x) (map f xs))

  get_seen : (xs : List A) (n : ℕ) → option_map f (slice_get xs n) ≡ slice_get (map f xs) n
  get_seen [] n = refl
  get_seen (x ∷ xs) zero = refl
  get_seen (x ∷ xs) (suc n) = get_seen xs n

  gone_seen : (x : A) (o : Option A) → map (match_map f) (gone_if x o) ≡ gone_if (f x) (option_map f o)
  gone_seen x None = refl
  gone_seen x (Some y) = refl

  came_seen : (x : A) (o : Option A) → match_map f (came_if x o) ≡ came_if (f x) (option_map f o)
  came_seen x None = refl
  came_seen x (Some y) = refl

  -- how many like each of a list stand before it
  ranks_seen_behind : (like : B → B → Bool) (before xs : List A) → ranks_behind (λ x y. like (f x) (f y)) before xs ≡ ranks_behind like (map f before) (map f xs)
  ranks_seen_behind like before [] = refl
  ranks_seen_behind like before (x ∷ xs) =
      λ i. count_seen (like (f x)) before i ∷ (ranks_seen_behind like (before ++ x ∷ []) xs ∙ ap (λ b. ranks_behind like b (map f xs)) (map-append f before (x ∷ []))) i

  pub ranks_seen : (like : B → B → Bool) (xs : List A) → ranks (λ x y. like (f x) (f y)) xs ≡ ranks like (map f xs)
  ranks_seen like xs = ranks_seen_behind like [] xs

  module _ (like : B → B → Bool) where
    abbrev seen_like : A → A → Bool
    seen_like x y = like (f x) (f y)

    partner_seen : (others before : List A) (x : A) → option_map f (partner seen_like others before x) ≡ partner like (map f others) (map f before) (f x)
    partner_seen others before x = get_seen (filter (seen_like x) others) (count_by (seen_like x) before) ∙ (λ i. slice_get (filter_seen (like (f x)) others i) (count_seen (like (f x)) before i))

    all_gone : (others before xs : List A) → map (match_map f) (flat_map gone_of (partners_behind seen_like others before xs)) ≡ flat_map gone_of (partners_behind like (map f others) (map f before) (map f xs))
    all_gone others before [] = refl
    all_gone others before (x ∷ xs) =
        map-append (match_map f) (gone_if x (partner seen_like others before x)) (flat_map gone_of (partners_behind seen_like others (before ++ x ∷ []) xs))
        ∙ (λ i. (gone_seen x (partner seen_like others before x) ∙ ap (gone_if (f x)) (partner_seen others before x)) i ++ (all_gone others (before ++ x ∷ []) xs ∙ ap (λ b. flat_map gone_of (partners_behind like (map f others) b (map f xs))) (map-append f before (x ∷ []))) i)

    all_came : (others before xs : List A) → map (match_map f) (map match_of (partners_behind seen_like others before xs)) ≡ map match_of (partners_behind like (map f others) (map f before) (map f xs))
    all_came others before [] = refl
    all_came others before (x ∷ xs) =
        λ i. (came_seen x (partner seen_like others before x) ∙ ap (came_if (f x)) (partner_seen others before x)) i ∷ (all_came others (before ++ x ∷ []) xs ∙ ap (λ b. map match_of (partners_behind like (map f others) b (map f xs))) (map-append f before (x ∷ []))) i

    -- what is the same by how things are seen is the same of the things as they are seen
    pub matched_seen : (xs ys : List A) → map (match_map f) (matches_of seen_like xs ys) ≡ matches_of like (map f xs) (map f ys)
    matched_seen xs ys = map-append (match_map f) (flat_map gone_of (partners seen_like ys xs)) (map match_of (partners seen_like xs ys)) ∙ (λ i. all_gone ys [] xs i ++ all_came xs [] ys i)

-- ---- by keys

abbrev keyed_by : {B C : Type 0} → (B → C) → B → C × B
keyed_by key b = (key b, b)

-- what is the same by keys in code is the same by what these are, of pairs of keys and things
pub matched_pairs : {K T B C : Type 0} (equal : K → K → Bool) (same : C → C → Bool) (view : Keyed K T → C × B) → ((a b : Keyed K T) → equal a.key b.key ≡ same (view a).0 (view b).0) → (xs ys : List (Keyed K T)) (us ws : List (C × B))
    → map view xs ≡ us → map view ys ≡ ws → (found : List (Match (Bor (Keyed K T)))) → map match_now found ≡ matches_of (same_keys equal) xs ys
    → map (match_map (λ k. (view k.now).1)) found ≡ map (match_map (λ (p : C × B). p.1)) (matches_of (λ p q. same p.0 q.0) us ws)
matched_pairs {K} {T} {B} {C} equal same view h xs ys us ws e g found is =
    map_twice (λ (k : Bor (Keyed K T)). k.now) (λ k. (view k).1) found ∙ ap (map (match_map (λ k. (view k).1))) (is ∙ (λ i. matches_of (λ a b. h a b i) xs ys))
    ∙ map_twice view (λ (p : C × B). p.1) (matches_of (λ a b. same (view a).0 (view b).0) xs ys)
    ∙ ap (map (match_map (λ (p : C × B). p.1))) (matched_seen view (λ p q. same p.0 q.0) xs ys ∙ (λ i. matches_of (λ p q. same p.0 q.0) (e i) (g i)))

-- and by what they are keys of
pub matched_as : {K T B C : Type 0} (equal : K → K → Bool) (same : C → C → Bool) (view : Keyed K T → C × B) (key : B → C) → ((a b : Keyed K T) → equal a.key b.key ≡ same (view a).0 (view b).0) → (xs ys : List (Keyed K T)) (us ws : List B)
    → map view xs ≡ map (λ b. (key b, b)) us → map view ys ≡ map (λ b. (key b, b)) ws → (found : List (Match (Bor (Keyed K T)))) → map match_now found ≡ matches_of (same_keys equal) xs ys
    → map (match_map (λ k. (view k.now).1)) found ≡ matches_of (λ b c. same (key b) (key c)) us ws
matched_as {K} {T} {B} {C} equal same view key h xs ys us ws e g found is =
    matched_pairs equal same view h xs ys (map (λ b. (key b, b)) us) (map (λ b. (key b, b)) ws) e g found is
    ∙ ap (map (match_map (λ (p : C × B). p.1))) (sym (matched_seen (keyed_by key) (λ p q. same p.0 q.0) us ws))
    ∙ sym (map_twice (keyed_by key) (λ (p : C × B). p.1) (matches_of (λ b c. same (key b) (key c)) us ws)) ∙ map_same (matches_of (λ b c. same (key b) (key c)) us ws)
