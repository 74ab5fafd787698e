-- What the code holds, as plain data.
use Rattle.std.specs.Prelude.{map, option_copied, string_bytes}
use Rattle.hir_input.specs.Cfg.{cfg_view}
use Rattle.source_imports.specs.declared.import_cfgs.UseCfgs as code_cfgs
use Rattle.source_imports.specs.declared.import_cfgs.ImportChoice as code_imports
use Rattle.source_imports.specs.ImportCfgs.{ImportChoice, UseCfgs}
use Rattle.source_imports.specs.declared.repeated.RepeatedImport as code_repeat
use Rattle.source_imports.specs.Repeated.{Repeat}

-- a use and its cfgs as plain data
abbrev pub use_cfgs_view : code_cfgs.UseCfgs → UseCfgs
use_cfgs_view u = record { id = u.id; cfgs = map cfg_view u.cfgs.items }

-- which imports are listed, as plain data
abbrev pub import_choice_view : code_imports.ImportChoice → ImportChoice
import_choice_view c = record { uses = map use_cfgs_view c.uses.now; active_under = option_copied c.active_under }

-- an import that repeats an earlier one, as plain data
abbrev pub repeated_import_view : code_repeat.RepeatedImport → Repeat
repeated_import_view r = record { spot = r.spot; text = string_bytes r.text; first = r.first }
