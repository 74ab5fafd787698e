-- Tokens of a text that are taken one by one.
use Rattle.std.proofs.Common.{◌≡◌, ◌<◌, ◌≤◌, ◌+◌, ℕ, suc, Bool, true, false, ◌&&◌, List, ◌∷◌, ◌++◌, length, ap, sym, ◌∙◌, append_assoc, arith}
use Rattle.rust_lexer.specs.Piece.{Piece}
use Rattle.rust_lexer.specs.Symbol.{symbol_of}
use Rattle.rust_mended.specs.declared.bracket.Bracket.{Bracket}
use Rattle.rust_mended.specs.Texts.{matched_symbol, tokens_match}
use Rattle.source_problems.specs.declared.macro_trees.Around.{Around}
use Rattle.source_problems.specs.declared.problem.SourceProblem.{SourceProblem}
use Rattle.source_problems.specs.MacroTrees.{around_after}
use Rattle.source_problems.specs.Quotes.{marker_outside, problems_from, unended_problems}

-- what is wrong with a token, and behind it
pub problems_turn : (skips : Bool) (a r : Around) (t : Piece) (ts all : List Piece) (old mid new ps : List SourceProblem) → all ≡ t ∷ ts → r ≡ around_after a t → mid ≡ old ++ unended_problems t
    → new ≡ mid ++ marker_outside skips r t ts → old ++ problems_from skips a all ≡ ps → new ++ problems_from skips r ts ≡ ps
problems_turn skips a r t ts all old mid new ps steps is unended marker inv =
    ap (λ x. x ++ problems_from skips r ts) (marker ∙ ap (λ x. x ++ marker_outside skips r t ts) unended)
    ∙ append_assoc (old ++ unended_problems t) (marker_outside skips r t ts) (problems_from skips r ts)
    ∙ append_assoc old (unended_problems t) (marker_outside skips r t ts ++ problems_from skips r ts)
    ∙ ap (λ b. old ++ (unended_problems t ++ (marker_outside skips b t ts ++ problems_from skips b ts))) is
    ∙ ap (λ x. old ++ problems_from skips a x) (sym steps) ∙ inv

-- brackets that match so far
pub matched_turn : (is b : Bool) (t : Piece) (ts all : List Piece) (old new : List Bracket) (symbol : ℕ) (m : Bool) → all ≡ t ∷ ts → is ≡ true → symbol ≡ symbol_of t
    → ((rest : List Bracket → Bool) → (b && rest new) ≡ matched_symbol symbol rest old) → (is && tokens_match all old) ≡ m → (b && tokens_match ts new) ≡ m
matched_turn is b t ts all old new symbol m steps h s f inv =
    f (tokens_match ts) ∙ ap (λ x. matched_symbol x (tokens_match ts) old) s ∙ ap (λ x. tokens_match x old) (sym steps) ∙ ap (λ i. i && tokens_match all old) (sym h) ∙ inv

-- and some that do not
pub torn_turn : (is x y m : Bool) → is ≡ false → (is && x) ≡ m → (is && y) ≡ m
torn_turn is x y m h inv = ap (λ i. i && y) h ∙ sym (ap (λ i. i && x) h) ∙ inv

-- no more brackets are open than there were tokens
pub few_turn : (most d r : ℕ) (t : Piece) (ts all : List Piece) → all ≡ t ∷ ts → r ≤ d + 1 → d + length all < most → r + length ts < most
few_turn most d r t ts all steps h few = let e : length all ≡ suc (length ts) = ap length steps in omega arith
