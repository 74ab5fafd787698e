-- Whether the end of an item was found.
use Rattle.std.specs.Prelude.{ℕ, ◌==◌, ◌&&◌, Bool, true, false, List}
use Rattle.std.specs.List.{list_any}
use Rattle.rust_items.specs.declared.log.Problem.{Problem}
use Rattle.rust_items.specs.declared.log.ProblemKind.{ProblemKind}
use Rattle.rust_items.specs.declared.log.ProblemKind.TheVariants as problem

abbrev pub is_unfinished : ProblemKind → Bool
is_unfinished problem.Unfinished = true
is_unfinished _ = false

-- an item that begins there was read without its end
abbrev pub is_unfinished_at : ℕ → List Problem → Bool
is_unfinished_at place problems = list_any (λ p. is_unfinished p.kind && p.at == place) problems
