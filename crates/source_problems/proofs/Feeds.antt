-- Texts with line feeds alone, and texts whose brackets match.
use Rattle.std.proofs.Common.{◌≡◌, ℕ, true, List, [], ap, length, map, subst}
use Rattle.rust_lexer.specs.Tokens.{tokens}
use Rattle.rust_items.specs.LineEnds.{with_feeds, place_by, place_in, returns_from}
use Rattle.rust_mended.proofs.ToldBrackets.{nothing_told}
use Rattle.rust_mended.specs.Texts.{is_matched, tokens_match}
use Rattle.source_problems.specs.Brackets.{mended_problem, bracket_problems}
use Rattle.source_problems.specs.declared.problem.SourceProblem.{SourceProblem}
use Rattle.source_problems.specs.Quotes.{token_problems}
use Rattle.source_problems.specs.Texts.{problem_moved_by, quote_problems}

-- what is wrong with a text with line feeds alone is wrong with the text
pub same_problems : (text feeds : List ℕ) (len : ℕ) (returns : List ℕ) (ps : List SourceProblem) → feeds ≡ with_feeds text → len ≡ length (with_feeds text) → returns ≡ returns_from 0 text
    → ps ≡ map (problem_moved_by (place_by len returns)) (token_problems (tokens feeds)) → ps ≡ quote_problems text
unfolding place_in
same_problems text feeds len returns ps f l r is =
    subst (λ (p : List ℕ × (ℕ × List ℕ)). ps ≡ map (problem_moved_by (place_by p.1.0 p.1.1)) (token_problems (tokens p.0)))
    (let e : (feeds, (len, returns)) ≡ (with_feeds text, (length (with_feeds text), returns_from 0 text)) = cc in e) is

-- where all brackets match, none is wrong
pub none_told : (text : List ℕ) → tokens_match (tokens text) [] ≡ true → bracket_problems text ≡ []
unfolding is_matched
none_told text h = ap (map mended_problem) ((nothing_told text).0 h)
