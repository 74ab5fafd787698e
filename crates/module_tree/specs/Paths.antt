-- Paths of files, as names from the top on down. The first name of an absolute path is empty.
use Rattle.std.specs.Prelude.{ℕ, ◌-◌, ◌==◌, Bool, false, List, [], ◌∷◌, ◌++◌, length, take, codes, Option, Some, None, slice_get, unwrap_or, fold, flat_map, if◌then◌else◌}
use Rattle.std.specs.{List.slice_split, Str.bytes_eq}

abbrev pub final_name : List (List ℕ) → Option (List ℕ)
final_name names = slice_get names (length names - 1)

abbrev pub all_but_last : List (List ℕ) → List (List ℕ)
all_but_last names = take (length names - 1) names

-- what `..` makes of names: above the top of an absolute path is that top, and above where other paths begin stands `..`
abbrev pub above_by : Option (List ℕ) → List (List ℕ) → List (List ℕ)
above_by None names = names ++ codes ".." ∷ []
above_by (Some name) names = if length name == 0 then names else if bytes_eq name (codes "..") then names ++ codes ".." ∷ [] else all_but_last names

-- and what a word between slashes does
abbrev pub stepped_words : List (List ℕ) → List ℕ → List (List ℕ)
stepped_words names word =
    if length word == 0 then names
    else if bytes_eq word (codes ".") then names
    else if bytes_eq word (codes "..") then above_by (final_name names) names
    else names ++ word ∷ []

abbrev pub is_absolute : List ℕ → Bool
is_absolute [] = false
is_absolute (b ∷ bs) = b == 47

-- where a path begins that is seen from a folder
abbrev pub path_base : List (List ℕ) → List ℕ → List (List ℕ)
path_base folder path = if is_absolute path then [] ∷ [] else folder

-- and where it leads
abbrev pub names_from : List (List ℕ) → List ℕ → List (List ℕ)
names_from folder path = fold stepped_words (path_base folder path) (slice_split (λ b. b == 47) path)

-- a folder as text, in front of what stands in it
abbrev pub folder_text : List (List ℕ) → List ℕ
folder_text names = flat_map (λ name. name ++ codes "/") names

-- the path of a file as text
abbrev pub path_text : List (List ℕ) → List ℕ
path_text names = folder_text (all_but_last names) ++ unwrap_or (final_name names) []
