use Rattle.source_imports.proofs.Common.{◌≡◌, map, import_choice_view, listed_named_view, first_alike}
use Rattle.std.proofs.Common.{drop}
use Rattle.source_imports.proofs.import_cfgs.ImportChoice.first_alike.Given as goal

abbrev pub invariant-loop-earlier : goal.invariant-loop-earlier
invariant-loop-earlier l =
    first_alike (import_choice_view l.self) (listed_named_view l.import) (map (λ b. listed_named_view b.now) (drop l.earlier-index l.before)) ≡ first_alike (import_choice_view l.self) (listed_named_view l.import) (map (λ b. listed_named_view b.now) l.before)
