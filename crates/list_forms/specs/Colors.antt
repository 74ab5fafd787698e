-- Texts in colours of a terminal.
use Rattle.std.specs.Prelude.{ℕ, Bool, if◌then◌else◌, List, [], ◌∷◌, ◌++◌, codes}

-- after this a terminal writes faint
abbrev pub faint_code : List ℕ
faint_code = 27 ∷ codes "[2m"

-- after this it writes in red
abbrev pub red_code : List ℕ
red_code = 27 ∷ codes "[31m"

-- after this it writes in green
abbrev pub green_code : List ℕ
green_code = 27 ∷ codes "[32m"

-- after this it writes in yellow
abbrev pub yellow_code : List ℕ
yellow_code = 27 ∷ codes "[33m"

-- after this it writes in cyan
abbrev pub cyan_code : List ℕ
cyan_code = 27 ∷ codes "[36m"

-- after this it writes bold
abbrev pub bold_code : List ℕ
bold_code = 27 ∷ codes "[1m"

-- after this it writes as usual
abbrev pub usual_code : List ℕ
usual_code = 27 ∷ codes "[0m"

-- what makes a terminal write so, if colours are wanted
abbrev pub sequence : Bool → List ℕ → List ℕ
sequence is_colored color = if is_colored then color else []

-- a text in a colour, if colours are wanted
unfoldable pub colored_text : Bool → List ℕ → List ℕ → List ℕ
colored_text is_colored color text = sequence is_colored color ++ text ++ sequence is_colored usual_code
