-- Frontmatter: what a tool may read in front of a text, between two lines of dashes. The numbers count the bytes so far.
use Rattle.std.specs.Prelude.{ℕ, suc, ◌+◌, ◌==◌, ◌&&◌, ◌||◌, nat_le, nat_lt, if◌then◌else◌, Option, Some, None, List, [], ◌∷◌}
use Rattle.rust_lexer.specs.declared.bytes.Class.TheVariants as class
use Rattle.rust_lexer.specs.Bytes.{run_length}

-- up to the end of the first line that begins with so many dashes, behind a line's end
abbrev pub closing_dashes : ℕ → ℕ → List ℕ → Option ℕ
closing_dashes dashes n [] = None
closing_dashes dashes n (b ∷ z) = if b == 10 && nat_le dashes (run_length class.Dash z) then Some (suc n + run_length class.Line z) else closing_dashes dashes (suc n) z

-- three dashes or more, up to the end of a line that begins with as many
abbrev pub fence : ℕ → List ℕ → Option ℕ
fence n z = if nat_lt (run_length class.Dash z) 3 then None else closing_dashes (run_length class.Dash z) n z

-- frontmatter with the line ends before it
abbrev pub frontmatter : ℕ → List ℕ → Option ℕ
frontmatter n [] = None
frontmatter n (b ∷ z) = if b == 10 || b == 13 then frontmatter (suc n) z else fence n (b ∷ z)
