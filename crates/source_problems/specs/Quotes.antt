-- What is wrong with the quotes of a text, and its conflict markers.
use Rattle.std.specs.Prelude.{Bool, ◌&&◌, nat_lt, if◌then◌else◌, List, [], ◌∷◌, ◌++◌}
use Rattle.rust_lexer.specs.Piece.{Piece}
use Rattle.rust_lexer.specs.Terminated.{is_terminated}
use Rattle.rust_mended.specs.Texts.{tokens_match}
use Rattle.source_problems.specs.declared.macro_trees.Around.{Around}
use Rattle.source_problems.specs.declared.problem.SourceProblem.{SourceProblem}
use Rattle.source_problems.specs.declared.problem.SourceProblemKind.TheVariants as kind
use Rattle.source_problems.specs.Problems.{problem}
use Rattle.source_problems.specs.MacroTrees.{around_after, outside}
use Rattle.source_problems.specs.Markers.{marker_behind, marker_problems}

-- a literal or a comment without its end
abbrev pub unended_problems : Piece → List SourceProblem
unended_problems t = if is_terminated t then [] else problem kind.Unterminated t.at ∷ []

-- a marker behind a token, unless markers in token trees of macros are left out and it stands in one
abbrev pub marker_outside : Bool → Around → Piece → List Piece → List SourceProblem
marker_outside skips a t ts = if skips && nat_lt 0 a.depth then [] else marker_behind t ts

-- what is wrong with tokens that begin no line
abbrev pub problems_from : Bool → Around → List Piece → List SourceProblem
problems_from skips a [] = []
problems_from skips a (t ∷ ts) = unended_problems t ++ (marker_outside skips (around_after a t) t ts ++ problems_from skips (around_after a t) ts)

-- what is wrong with the tokens of a text, with or without the markers in token trees of macros
abbrev pub problems_in : Bool → List Piece → List SourceProblem
problems_in skips ts = marker_problems ts ++ problems_from skips outside ts

-- what is wrong with the tokens of a text, beside its brackets and its items: where all brackets match, a macro's tokens are no markers
abbrev pub token_problems : List Piece → List SourceProblem
token_problems ts = problems_in (tokens_match ts []) ts
