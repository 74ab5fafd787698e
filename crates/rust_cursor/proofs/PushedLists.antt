-- Lists to which something was added, or nothing.
use Rattle.std.proofs.Common.{◌≡◌, List, [], ◌∷◌, ◌++◌, map, Option, Some, None, option_map, option_to_list, ap, ◌∙◌}
use Rattle.std.proofs.lemmas.List.{map-append}

-- as what stands for their elements
pub pushed_view : {A B : Type 0} (view : A → B) (old new : List A) (o : Option A) → new ≡ old ++ option_to_list o → map view new ≡ map view old ++ option_to_list (option_map view o)
pushed_view view old new None e = ap (map view) e ∙ map-append view old []
pushed_view view old new (Some x) e = ap (map view) e ∙ map-append view old (x ∷ [])
