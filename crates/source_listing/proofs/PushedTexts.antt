-- Texts that are pushed one after another.
use Rattle.std.specs.Prelude.{bytes_eq}
use Rattle.std.specs.List.{list_any}
use Rattle.source_listing.specs.Outlines.{name_around}
use Rattle.source_rows.specs.Sources.{BeginsWith}
use Rattle.source_listing.proofs.Common.{Bor, List, [], ap, append-nil, append_assoc, bare_segment, codes, flat_map, flat_map-append, flat_map-map, get_or, length, length-map, map, map-append, refl, sym, take, take_more, ℕ, ◌++◌, ◌+◌, ◌<◌, ◌==◌, ◌||◌, ◌∙◌, ◌∷◌, ◌≡◌}

-- a line, pushed part by part
pub line_pushed : (o p i j v w n e o1 o2 o3 o4 o5 o6 o7 : List ℕ) → o1 ≡ o ++ p → o2 ≡ o1 ++ i → o3 ≡ o2 ++ j → o4 ≡ o3 ++ v → o5 ≡ o4 ++ w → o6 ≡ o5 ++ n → o7 ≡ o6 ++ e
    → o7 ≡ o ++ (p ++ (i ++ j) ++ v ++ w ++ n ++ e)
line_pushed o p i j v w n e o1 o2 o3 o4 o5 o6 o7 a b c d f g h = rw (h, g, f, d, c, b, a) (simp append_assoc)

-- a text to which something was added begins with what it was
pub grown : (front more new : List ℕ) → new ≡ front ++ more → BeginsWith front new
grown front more new e = (more, e)

-- the same, where it then went on as it was
pub grown_on : (front more text new : List ℕ) → text ≡ front ++ more → BeginsWith text new → BeginsWith front new
grown_on front more text new e b = (more ++ b.0, b.1 ∙ ap (λ t. t ++ b.0) e ∙ append_assoc front more b.0)

pub segments_of : {A : Type 0} (f : A → List ℕ) (xs : List A) → flat_map bare_segment (map f xs) ≡ flat_map (λ x. bare_segment (f x)) xs
segments_of f xs = flat_map-map bare_segment f xs

-- one more, behind the ones before it
pub one_more : {A B : Type 0} (f : B → List ℕ) (view : A → B) (xs : List A) (i : ℕ) (x : A) (o o1 : List ℕ) → i < length xs → x ≡ get_or xs i x → o ≡ flat_map f (map view (take i xs)) → o1 ≡ o ++ f (view x)
    → o1 ≡ flat_map f (map view (take (i + 1) xs))
one_more f view xs i x o o1 h e d g =
    g ∙ ap (λ l. l ++ f (view x)) d
    ∙ sym (flat_map-append f (map view (take i xs)) (view x ∷ []) ∙ ap (λ ts. flat_map f (map view (take i xs)) ++ ts) (append-nil (f (view x))))
    ∙ ap (flat_map f) (sym (map-append view (take i xs) (x ∷ [])) ∙ ap (λ y. map view (take i xs ++ y ∷ [])) e ∙ ap (map view) (sym (take_more xs i x h)))

-- a name behind those around it, pushed part by part
pub name_pushed_in : {A : Type 0} (f : A → List ℕ) (xs : List A) (out blank around named shown : List ℕ) → blank ≡ out ++ codes " " → around ≡ blank ++ flat_map (λ x. name_around (f x)) xs → named ≡ around ++ shown
    → named ≡ out ++ (codes " " ++ flat_map name_around (map f xs) ++ shown)
name_pushed_in f xs out blank around named shown a b c = let names = flat_map-map name_around f xs in rw (c, b, a, names) (simp append_assoc)

-- a word is among those that some hold
pub word_among : (word : List ℕ) (ws : List (Bor (List ℕ))) → list_any (λ other. bytes_eq word other.now) ws ≡ list_any (λ other. bytes_eq word other) (map (λ k. k.now) ws)
word_among word [] = refl
word_among word (w ∷ ws) = ap (λ b. bytes_eq word w.now || b) (word_among word ws)

-- the same, where none stand for all
pub kinds_told : (word : List ℕ) (ws : List (Bor (List ℕ))) → (length ws == 0 || list_any (λ other. bytes_eq word other.now) ws) ≡ (length (map (λ k. k.now) ws) == 0 || list_any (λ other. bytes_eq word other) (map (λ k. k.now) ws))
kinds_told word ws = rw (length-map ws (λ k. k.now), word_among word ws) refl
