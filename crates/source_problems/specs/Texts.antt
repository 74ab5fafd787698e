-- All that is wrong with a text.
use Rattle.std.specs.Prelude.{ℕ, List, [], ◌∷◌, ◌++◌, map}
use Rattle.std.specs.BTreeSet.{insert_key}
use Rattle.std.specs.List.Sorted.{IsStrictlySortedBy}
use Rattle.rust_lexer.specs.Tokens.{tokens}
use Rattle.rust_items.specs.LineEnds.{with_feeds, place_in}
use Rattle.rust_items.specs.SourceFiles.{FileView}
use Rattle.source_problems.specs.declared.problem.SourceProblem.{SourceProblem}
use Rattle.source_problems.specs.contracts.problem.SourceProblemOrd.TheImpl as ord
use Rattle.source_problems.specs.Problems.{problem, told_problem}
use Rattle.source_problems.specs.Brackets.{bracket_problems}
use Rattle.source_problems.specs.Quotes.{token_problems}
use Rattle.source_problems.specs.Items.{syntax_problems}

abbrev pub problem_moved_by : (ℕ → ℕ) → SourceProblem → SourceProblem
problem_moved_by place p = problem p.kind (place p.at)

-- what is wrong with the quotes of a text, and its conflict markers, at their places in the text as it is
abbrev pub quote_problems : List ℕ → List SourceProblem
quote_problems text = map (problem_moved_by (place_in text)) (token_problems (tokens (with_feeds text)))

-- all that is wrong with a text of which this was read
abbrev pub all_problems : List ℕ → FileView → List SourceProblem
all_problems text file = bracket_problems text ++ (quote_problems text ++ (map told_problem file.problems ++ syntax_problems file.syntax file.places))

-- each in its place in the order of these, unless it is among them
abbrev pub put_all : List SourceProblem → List SourceProblem → List SourceProblem
put_all known [] = known
put_all known (p ∷ ps) = put_all (insert_key ord.ghosts.cmp known p) ps

-- by their places, and where these are one by their kinds, each once
abbrev pub in_order : List SourceProblem → List SourceProblem
in_order ps = put_all [] ps

-- all that is wrong with a text of which this was read, in order
abbrev pub source_problems : List ℕ → FileView → List SourceProblem
source_problems text file = in_order (all_problems text file)

-- each stands before those behind it, by its place, or at one place by its kind
abbrev pub AreInOrder : List SourceProblem → Type 0
AreInOrder ps = IsStrictlySortedBy ord.ghosts.cmp ps
