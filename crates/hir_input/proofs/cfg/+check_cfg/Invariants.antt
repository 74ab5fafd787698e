use Rattle.std.proofs.Common.{◌≡◌, map, drop}
use Rattle.hir_input.proofs.Common.{cfg_view, truth, first_but}
use Rattle.hir_input.proofs.cfg.+check_cfg.Given as goal

abbrev pub invariant-check_members-loop-member : goal.invariant-check_members-loop-member
invariant-check_members-loop-member l =
    first_but l.neutral (map (λ c. truth l.options (cfg_view c)) (drop l.member-index l.members)) ≡ first_but l.neutral (map (λ c. truth l.options (cfg_view c)) l.members)
