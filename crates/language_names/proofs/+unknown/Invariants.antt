use Rattle.std.proofs.Common.{◌≡◌, false, map, take, string_bytes}
use Rattle.std.specs.List.{list_any}
use Rattle.hir_input.specs.Cfg.{cfg_view}
use Rattle.language_names.specs.LanguageNames as spec
use Rattle.language_names.proofs.+unknown.Given as goal

abbrev pub invariant-have_unknown-loop-member : goal.invariant-have_unknown-loop-member
invariant-have_unknown-loop-member l = list_any (λ cfg. spec.has_unknown (map string_bytes l.features) (cfg_view cfg)) (take l.member-index l.members) ≡ false
