-- one more dependency is read
use Rattle.std.proofs.Common.{[], ◌∷◌}
use Rattle.cargo_manifest.specs.Dependencies.{dependency_at}
use Rattle.cargo_manifest.specs.Inner.{section_view}
use Rattle.cargo_manifest.specs.Views.{dependency_view}
use Rattle.cargo_manifest.proofs.Lists.{Entry, taken_next, read_form, dependency_read}
use Rattle.cargo_manifest.proofs.dependencies.dependencies_of.Goals as goal

pub loop-key-preserved : goal.loop-key-preserved
loop-key-preserved c =
    let place = section_view c.args.section.now in
    let e : Entry = (c.in-Some.key.now, c.in-Some.value.now) in
    let read = read_form dependency_view _ c.in_ok-one.one _ c.dependency_of.result c.dependency_of.ensures c.in_ok-one.ensures in
    taken_next dependency_view (dependency_at place) c.args.table.now.entries c.loop-key.key-iterator c.next.new.self c.loop-key.found.items (c.in_ok-one.one ∷ []) c.push.new.self.items e
    c.loop-key.invariant c.in-Some.ensures.steps (dependency_read place e _ _ c.deref-in-loop-key.ensures read) c.in_ok-push.ensures.items
