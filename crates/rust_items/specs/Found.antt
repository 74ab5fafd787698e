-- What is found beside the items of a text: the rows that their ids are made from, their places, those of their use trees, and the problems.
use Rattle.std.specs.Prelude.{◌≡◌, ℕ, List, [], ◌∷◌, ◌++◌, Option, Some, None, Bool, if◌then◌else◌, Result, Ok, Err}
use Rattle.std.specs.declared.alloc.AllocError.{AllocError}
use Rattle.rust_cursor.specs.Tokens.{Tokens}
use Rattle.rust_ids.specs.Row.{Row}
use Rattle.rust_items.specs.declared.log.ItemSpan.{ItemSpan}
use Rattle.rust_items.specs.declared.log.Log.{Log}
use Rattle.rust_items.specs.declared.log.Problem.{Problem}
use Rattle.rust_items.specs.declared.log.ProblemKind.{ProblemKind}

-- the rows and the places of the items, in preorder, the first bytes of the use trees of those among them that are uses, and the problems, in order
pub record Found : Type 0 where
  pub rows : List Row
  pub spans : List ItemSpan
  pub use_trees : List ℕ
  pub problems : List Problem

abbrev pub nothing_found : Found
nothing_found = record { rows = []; spans = []; use_trees = []; problems = [] }

-- with a problem behind
abbrev pub and_problem : ProblemKind → ℕ → Found → Found
and_problem kind at f = record { rows = f.rows; spans = f.spans; use_trees = f.use_trees; problems = f.problems ++ record { kind = kind; at = at } ∷ [] }

abbrev pub and_problem_if : Bool → ProblemKind → ℕ → Found → Found
and_problem_if test kind at f = if test then and_problem kind at f else f

abbrev pub and_problem_at : ProblemKind → Option ℕ → Found → Found
and_problem_at kind None f = f
and_problem_at kind (Some at) f = and_problem kind at f

-- with an item behind
abbrev pub and_row : Row → ItemSpan → Found → Found
and_row row span f = record { rows = f.rows ++ row ∷ []; spans = f.spans ++ span ∷ []; use_trees = f.use_trees; problems = f.problems }

-- with use trees behind
abbrev pub and_use_trees : List ℕ → Found → Found
and_use_trees starts f = record { rows = f.rows; spans = f.spans; use_trees = f.use_trees ++ starts; problems = f.problems }

-- with all of another behind
abbrev pub and_all : Found → Found → Found
and_all more f =
    record { rows = f.rows ++ more.rows; spans = f.spans ++ more.spans; use_trees = f.use_trees ++ more.use_trees; problems = f.problems ++ more.problems }

abbrev pub log_view : Log → Found
log_view l = record { rows = l.rows.items; spans = l.spans.items; use_trees = l.use_trees.items; problems = l.problems.items }

-- A reader that also finds: what was found before it is handed in, and given back with what it finds behind.
abbrev pub Finder : Type 0 → Type 0
Finder A = Found → Tokens → A × (Found × Tokens)

-- what a function that finds ensures: it found this, unless memory ran out
abbrev pub Finds : {X Y : Type 0} → (X → Y) → Y × (Found × Tokens) → Result X AllocError → Found → Tokens → Type 0
Finds view finding (Ok x) found rest = finding ≡ (view x, (found, rest))
Finds view finding (Err e) found rest = Unit {0}
