use Rattle.std.proofs.Common.{true, false, map, ap, ◌∙◌}
use Rattle.hir_input.proofs.Common.{cfg_view, truth, truths, first_but}
use Rattle.hir_input.proofs.CfgLemmas.{cfg_view-All, cfg_view-Any, truths-from}
use Rattle.hir_input.proofs.cfg.+check_cfg.Goals as goal

pub check_cfg-returns-in-All : goal.check_cfg-returns-in-All
unfolding truth truths
check_cfg-returns-in-All t c =
    let set = c.args.options.now in
    rw (c.in-All.is, cfg_view-All, truths-from) (c.check_members.ensures ∙ ap (λ ms. first_but true (map (λ m. truth set (cfg_view m)) ms)) c.deref.ensures.value)

pub check_cfg-returns-in-Any : goal.check_cfg-returns-in-Any
unfolding truth truths
check_cfg-returns-in-Any t c =
    let set = c.args.options.now in
    rw (c.in-Any.is, cfg_view-Any, truths-from) (c.check_members-in-Any.ensures ∙ ap (λ ms. first_but false (map (λ m. truth set (cfg_view m)) ms)) c.deref-in-Any.ensures.value)
