use Rattle.std.proofs.Common.{ap, map, ◌∙◌}
use Rattle.hir_input.proofs.Common.{atom_view, is_set}
use Rattle.hir_input.proofs.CfgEq.{set_is}
use Rattle.hir_input.proofs.cfg.CfgOptions.contains.Goals as goal

pub returns : goal.returns
returns c =
    let set = ap (map atom_view) c.deref.ensures.value ∙ c.self.view_is in
    c.contains.ensures.value ∙ set_is c.deref.result.now c.args.atom.now ∙ ap (λ s. is_set s (atom_view c.args.atom.now)) set
