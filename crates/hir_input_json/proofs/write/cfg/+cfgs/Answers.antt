-- one more, and the last
use Rattle.std.proofs.Common.{rules, refl}
use Rattle.hir_input_json.proofs.Writing.Lists.{all_made, more_made}
use Rattle.hir_input_json.proofs.write.cfg.+cfgs.Goals as goal

pub cfg_values-loop-member-preserved : goal.cfg_values-loop-member-preserved
cfg_values-loop-member-preserved t c = more_made c.loop-member.invariant c.member-item.result c.in_ok-cfg_value.field-0 (λ x xs. refl) (search rules) (search rules) c.in_ok-push.ensures.items

pub cfg_values-returns : goal.cfg_values-returns
cfg_values-returns t c = all_made c.loop-member.invariant refl (search rules)
