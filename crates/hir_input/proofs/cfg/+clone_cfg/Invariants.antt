use Rattle.std.proofs.Common.{◌≡◌, map, take}
use Rattle.hir_input.proofs.Common.{cfg_view}
use Rattle.hir_input.proofs.cfg.+clone_cfg.Given as goal

abbrev pub invariant-clone_members-loop-i : goal.invariant-clone_members-loop-i
invariant-clone_members-loop-i l = map cfg_view l.copies.items ≡ map cfg_view (take l.i l.members.items)
