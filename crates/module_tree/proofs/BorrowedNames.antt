-- What is above names that are borrowed.
use Rattle.std.proofs.Common.{◌≡◌, ℕ, ◌-◌, ◌==◌, true, false, List, [], ◌∷◌, ◌++◌, length, take, codes, Some, refl, ap, sym, ◌∙◌, slice_get}
use Rattle.std.specs.{Prelude.option_map, Borrow.Bor, Str.bytes_eq}
use Rattle.std.proofs.lemmas.List.{length-map, map-append, take-map}
use Rattle.std.proofs.lemmas.Option.{slice_get-map}
use Rattle.module_tree.specs.{Inner.texts, Paths.final_name, Paths.all_but_last, Paths.above_by}

module _ (names : List (Bor (List ℕ))) where
  count_is : length (texts names) - 1 ≡ length names - 1
  count_is = simp length-map refl

  -- the last of them
  pub last_is : final_name (texts names) ≡ option_map (λ name. name.now) (slice_get names (length names - 1))
  last_is = ap (slice_get (texts names)) count_is ∙ slice_get-map (λ name. name.now) names (length names - 1)

  -- without the last of them
  pub shorter : all_but_last (texts names) ≡ texts (take (length names - 1) names)
  shorter = ap (λ n. take n (texts names)) count_is ∙ take-map (λ name. name.now) (length names - 1) names

  abbrev pub Above : List (List ℕ) → Type 0
  Above ns = ns ≡ above_by (final_name (texts names)) (texts names)

  module _ (last : Bor (List ℕ)) (e : Some last ≡ slice_get names (length names - 1)) where
    at_last : above_by (final_name (texts names)) (texts names) ≡ above_by (Some last.now) (texts names)
    at_last = ap (λ o. above_by o (texts names)) (last_is ∙ ap (option_map (λ name. name.now)) (sym e))

    pub at_top : (length last.now == 0) ≡ true → Above (texts names)
    at_top h = sym (at_last ∙ rw h refl)

    pub at_dots : (dots : Bor (List ℕ)) → dots.now ≡ codes ".." → (length last.now == 0) ≡ false → bytes_eq last.now (codes "..") ≡ true → Above (texts (names ++ dots ∷ []))
    at_dots dots d h k = map-append (λ name. name.now) names (dots ∷ []) ∙ ap (λ t. texts names ++ t ∷ []) d ∙ sym (at_last ∙ rw (h, k) refl)

    pub at_name : (length last.now == 0) ≡ false → bytes_eq last.now (codes "..") ≡ false → Above (texts (take (length names - 1) names))
    at_name h k = sym (at_last ∙ rw (h, k) shorter)
