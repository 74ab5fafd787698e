use Rattle.std.proofs.Common.{◌≡◌, ◌++◌, map}
use Rattle.hir_input.specs.Cfg.{cfg_view}
use Rattle.source_listing.specs.MetaCfgs.{cfg_where}
use Rattle.source_listing.proofs.meta_cfgs.push_where.Given as goal

-- what is added, and what is left to be
abbrev pub invariant-loop-cfg : goal.invariant-loop-cfg
invariant-loop-cfg l =
    map cfg_view l.out.items ++ map (cfg_where (cfg_view l.condition)) (map cfg_view l.cfg-iterator.rest.items)
    ≡ map cfg_view l.initial.out.items ++ map (cfg_where (cfg_view l.condition)) (map cfg_view l.initial.cfg-iterator.rest.items)
