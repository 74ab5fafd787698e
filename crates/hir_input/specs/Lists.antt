-- Lists as values of other types.
use Rattle.std.specs.Prelude.{List, [], ◌∷◌}

-- what stands for a list, from what stands for the empty one and from how an element is put in front
abbrev pub list_as : {A L : Type 0} → L → (A → L → L) → List A → L
list_as none front [] = none
list_as none front (x ∷ xs) = front x (list_as none front xs)
