-- what is to be written is what was made, and behind it what is left
use Rattle.std.proofs.Common.{map}
use Rattle.hir_input_json.proofs.Writing.Common.{cfg_view, cfgs_from, cfg_data, cfgs_data}
use Rattle.hir_input_json.proofs.Writing.Lists.{HasMade}
use Rattle.hir_input_json.proofs.write.cfg.+cfgs.Given as goal

abbrev pub invariant-cfg_values-loop-member : goal.invariant-cfg_values-loop-member
invariant-cfg_values-loop-member l = HasMade (λ c. cfg_data (cfg_view c)) (λ cs. cfgs_data (cfgs_from (map cfg_view cs))) l.members l.values.items l.member-index
