use Rattle.std.proofs.Common.{◌≡◌, map, take}
use Rattle.serde_json.specs.Data.{string}
use Rattle.serde_json.specs.View.{view}
use Rattle.hir_input.specs.Cfg.{cfg_view, shown_cfg}
use Rattle.source_imports.proofs.imports.cfgs_value.Given as goal

abbrev pub invariant-loop-cfg : goal.invariant-loop-cfg
invariant-loop-cfg l = map view l.texts.items ≡ map (λ c. string (shown_cfg c)) (map cfg_view (take l.cfg-index l.cfgs))
