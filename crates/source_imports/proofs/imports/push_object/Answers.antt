use Rattle.std.proofs.Common.{ap, map, option_copied, ◌∙◌}
use Rattle.serde_json.specs.Written.{has_float}
use Rattle.hir_input.specs.Cfg.{cfg_view}
use Rattle.source_imports.proofs.Common.{listed_import}
use Rattle.source_imports.proofs.NoFloats.{use_none}
use Rattle.source_imports.proofs.imports.push_object.Goals as goal

pub value_line-requires : goal.value_line-requires
value_line-requires c =
    let a = c.args.around in
    ap has_float c.in_ok-object.ensures
    ∙ use_none c.args.edition.now.reserved.items a.source.path.now a.scope.now (option_copied a.visibility) (map cfg_view a.cfgs.now) c.args.spot c.args.removal (listed_import c.args.import.now)
