-- Members that are told one after another.
use Rattle.std.proofs.Common.{◌≡◌, List, [], ◌∷◌, ◌++◌, Option, Some, None, refl, ap, sym, ◌∙◌, append_assoc, option_to_list, filter_map}
use Rattle.std.proofs.lemmas.List.Elements.{filter_map-append}

one_by : {A B : Type 0} (f : A → Option B) (a : A) (o : Option B) → f a ≡ o → filter_map f (a ∷ []) ≡ option_to_list (f a)
one_by f a None e = rw e refl
one_by f a (Some b) e = rw e refl

-- what is told of one more
pub listed_more : {A B : Type 0} (f : A → Option B) (done : List B) (x : A) (rest : List A) (o : Option B) → o ≡ f x → (done ++ option_to_list o) ++ filter_map f rest ≡ done ++ filter_map f (x ∷ rest)
listed_more f done x rest o e =
    append_assoc done (option_to_list o) (filter_map f rest)
    ∙ ap (λ ys. done ++ (ys ++ filter_map f rest)) (ap option_to_list e ∙ sym (one_by f x (f x) refl))
    ∙ ap (λ ys. done ++ ys) (sym (filter_map-append f (x ∷ []) rest))
