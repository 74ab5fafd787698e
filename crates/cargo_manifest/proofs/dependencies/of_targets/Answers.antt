-- the sections of one more target are read
use Rattle.std.proofs.Common.{map, string_bytes, sym, ap, ◌∙◌}
use Rattle.toml.specs.View.{view}
use Rattle.cargo_manifest.specs.Dependencies.{target_sections}
use Rattle.cargo_manifest.specs.Inner.{workspace_view}
use Rattle.cargo_manifest.specs.Readings.{behind_key}
use Rattle.cargo_manifest.specs.Views.{dependency_view}
use Rattle.cargo_manifest.proofs.Lists.{Entry, taken_next, read_form}
use Rattle.cargo_manifest.proofs.dependencies.of_targets.Goals as goal

pub loop-target-preserved : goal.loop-target-preserved
loop-target-preserved c =
    let ws = workspace_view c.args.workspace in
    let e : Entry = (c.in-Some.target.now, c.in-Some.value.now) in
    let read = read_form (λ v. map dependency_view v.items) _ c.in_ok-found.found _ c.of_target.result c.of_target.ensures c.in_ok-found.ensures in
    let whole = ap (behind_key (string_bytes e.0)) (ap (λ k. target_sections ws k (view e.1)) (sym c.deref-in-loop-target.ensures) ∙ read) in
    taken_next dependency_view (target_sections ws) c.args.table.now.entries c.loop-target.target-iterator c.next.new.self c.loop-target.all.items c.in_ok-found.found.items c.append.new.self.items e
    c.loop-target.invariant c.in-Some.ensures.steps whole c.in_ok-append.ensures.items
