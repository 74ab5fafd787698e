-- Attributes that document in small texts, by computing.
use Rattle.std.proofs.Common.{◌≡◌, ℕ, true, false, List, [], ◌∷◌, codes, refl}
use Rattle.rust_lexer.specs.Bytes.{is_wide_continue, is_wide_start}
use Rattle.rust_lexer.specs.Cut.{first_cut}
use Rattle.rust_lexer.specs.Tokens.{tokens}
use Rattle.source_changes.specs.Skeletons.{skeleton}

-- they count as comments do that document
abbrev Documents : List ℕ → Type 0
Documents text = skeleton false [] text ≡ []

-- and these count whether documentation does or not
abbrev Counts : List ℕ → Type 0
Counts text = skeleton false [] text ≡ skeleton true [] text

outer : Documents (codes "#[doc = \"a\"]")
unfolding tokens first_cut is_wide_start is_wide_continue
outer = refl

inner : Documents (codes "#![doc = r\"a\"]")
unfolding tokens first_cut is_wide_start is_wide_continue
inner = refl

apart : Documents (codes "# [ /* a */ r#doc=\n r#\"a\"# // b\n]")
unfolding tokens first_cut is_wide_start is_wide_continue
apart = refl

asked_for : skeleton true [] (codes "#[doc=\"a\"]") ≡ (0 ∷ codes "#") ∷ (0 ∷ codes "[") ∷ (0 ∷ codes "doc") ∷ (0 ∷ codes "=") ∷ (0 ∷ codes "\"a\"") ∷ (0 ∷ codes "]") ∷ []
unfolding tokens first_cut is_wide_start is_wide_continue
asked_for = refl

hidden : Counts (codes "#[doc(hidden)]")
unfolding tokens first_cut is_wide_start is_wide_continue
hidden = refl

included : Counts (codes "#[doc = include_str!(\"a\")]")
unfolding tokens first_cut is_wide_start is_wide_continue
included = refl

suffixed : Counts (codes "#[doc = \"a\"b]")
unfolding tokens first_cut is_wide_start is_wide_continue
suffixed = refl

of_bytes : Counts (codes "#[doc = b\"a\"]")
unfolding tokens first_cut is_wide_start is_wide_continue
of_bytes = refl

-- marks before and behind are told apart, as by a comment
between : skeleton false [] (codes "=#[doc = \"a\"]>") ≡ skeleton false [] (codes "=/** a */>")
unfolding tokens first_cut is_wide_start is_wide_continue
between = refl
