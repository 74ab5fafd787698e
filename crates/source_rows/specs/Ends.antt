-- What a list ends with.
use Rattle.std.specs.Prelude.{◌≡◌, ◌-◌, List, drop, length}

-- what is left of a list behind some of it
abbrev pub IsEndOf : {A : Type 0} → List A → List A → Type 0
IsEndOf left all = drop (length all - length left) all ≡ left
