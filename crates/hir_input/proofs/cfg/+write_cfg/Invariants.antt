use Rattle.std.proofs.Common.{map, take}
use Rattle.hir_input.proofs.Common.{HasWritten, IsPlainFormatter, by_commas, cfg_view, shown_cfg}
use Rattle.hir_input.proofs.cfg.+write_cfg.Given as goal

abbrev pub invariant-write_members-loop-i : goal.invariant-write_members-loop-i
invariant-write_members-loop-i g l =
    IsPlainFormatter l.fn.f → HasWritten g.W.Write.write_str_gives l.fn.f (by_commas (map (λ c. shown_cfg (cfg_view c)) (take l.i l.members))) l.f
