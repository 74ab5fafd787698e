-- Which of two lists are the same.
use Rattle.std.specs.Prelude.{◌≡◌, ℕ, ◌+◌, Bool, ◌&&◌, ◌==◌, if◌then◌else◌, List, [], ◌∷◌, ◌++◌, map, Option, Some, None, option_map, slice_get, unwrap_or}
use Rattle.std.specs.{Borrow.Bor, HashMap.get, HashMap.HashMap, List.count_by, List.filter, List.flat_map, declared.hash.BuildHasherDefault.BuildHasherDefault}
use Rattle.std.specs.declared.hash.FoldHasher.{FoldHasher}
use Rattle.source_changes.specs.declared.matching.{Keyed.Keyed, Match.Match, Match.TheVariants.Gone, Match.TheVariants.Came, Match.TheVariants.Stays}

-- of a list, the one that is the same as one that stands behind some: the n-th of those like it, if n of those are like it
abbrev pub partner : {A : Type 0} → (A → A → Bool) → List A → List A → A → Option A
partner like others before x = slice_get (filter (like x) others) (count_by (like x) before)

abbrev pub partners_behind : {A : Type 0} → (A → A → Bool) → List A → List A → List A → List (A × Option A)
partners_behind like others before [] = []
partners_behind like others before (x ∷ xs) = (x, partner like others before x) ∷ partners_behind like others (before ++ x ∷ []) xs

-- each of a list, with the one of others that is the same
abbrev pub partners : {A : Type 0} → (A → A → Bool) → List A → List A → List (A × Option A)
partners like others xs = partners_behind like others [] xs

abbrev pub gone_if : {A : Type 0} → A → Option A → List (Match A)
gone_if x None = Gone x ∷ []
gone_if x (Some y) = []

abbrev pub came_if : {A : Type 0} → A → Option A → Match A
came_if x None = Came x
came_if x (Some y) = Stays y x

-- what is gone, and what came or stays
abbrev pub gone_of : {A : Type 0} → A × Option A → List (Match A)
gone_of p = gone_if p.0 p.1

abbrev pub match_of : {A : Type 0} → A × Option A → Match A
match_of p = came_if p.0 p.1

-- of each of a list behind some, how many of those like it stand before it
abbrev pub ranks_behind : {A : Type 0} → (A → A → Bool) → List A → List A → List ℕ
ranks_behind like before [] = []
ranks_behind like before (x ∷ xs) = count_by (like x) before ∷ ranks_behind like (before ++ x ∷ []) xs

-- of each of a list, how many of those like it stand before it
abbrev pub ranks : {A : Type 0} → (A → A → Bool) → List A → List ℕ
ranks like xs = ranks_behind like [] xs

-- what the old ones alone are, and then what the new ones are
abbrev pub matches_of : {A : Type 0} → (A → A → Bool) → List A → List A → List (Match A)
matches_of like olds news = flat_map gone_of (partners like news olds) ++ map match_of (partners like olds news)

-- the same, where these stay that stand in front of both lists
abbrev pub matched_behind : {A : Type 0} → (A → A → Bool) → List (Match A) → List A → List A → List (Match A)
matched_behind like both olds news = flat_map gone_of (partners like news olds) ++ (both ++ map match_of (partners like olds news))

abbrev pub match_map : {A B : Type 0} → (A → B) → Match A → Match B
match_map f (Gone x) = Gone (f x)
match_map f (Came x) = Came (f x)
match_map f (Stays x y) = Stays (f x) (f y)

-- ---- tables by keys

abbrev pub match_now : {A : Type 0} → Match (Bor A) → Match A
match_now m = match_map (λ x. x.now) m

abbrev pub pair_now : {A : Type 0} → Bor A × Option (Bor A) → A × Option A
pair_now p = (p.0.now, option_map (λ x. x.now) p.1)

module _ {K : Type 0} (same : K → K → Bool) where
  abbrev pub key_count : HashMap K ℕ (BuildHasherDefault FoldHasher) → K → ℕ
  key_count counts k = unwrap_or (get same counts k) 0

  -- one more is counted
  abbrev pub CountsKey : HashMap K ℕ (BuildHasherDefault FoldHasher) → HashMap K ℕ (BuildHasherDefault FoldHasher) → K → Type 0
  CountsKey old new k = (q : K) → key_count new q ≡ key_count old q + (if same k q then 1 else 0)

  -- two things have equal keys
  abbrev pub same_keys : {T : Type 0} → Keyed K T → Keyed K T → Bool
  same_keys a b = same a.key b.key

  -- each key is counted among these
  abbrev pub CountsAll : {T : Type 0} → HashMap K ℕ (BuildHasherDefault FoldHasher) → List (Keyed K T) → Type 0
  CountsAll counts xs = (q : K) → key_count counts q ≡ count_by (λ x. same q x.key) xs

  -- the table finds each of these
  abbrev pub FindsAll : {T : Type 0} → HashMap (K × ℕ) (Bor (Keyed K T)) (BuildHasherDefault FoldHasher) → List (Keyed K T) → Type 0
  FindsAll table xs = (q : K × ℕ) → option_map (λ x. x.now) (get (λ a b. same a.0 b.0 && a.1 == b.1) table q) ≡ slice_get (filter (λ x. same q.0 x.key) xs) q.1
