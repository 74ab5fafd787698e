-- one more feature is read
use Rattle.std.proofs.Common.{[], ◌∷◌, ◌∙◌}
use Rattle.cargo_manifest.specs.Features.{feature_at}
use Rattle.cargo_manifest.specs.Views.{feature_view, texts_view}
use Rattle.cargo_manifest.proofs.Lists.{Entry, taken_next, read_form, feature_read}
use Rattle.cargo_manifest.proofs.features.features_of.Goals as goal

pub loop-key-preserved : goal.loop-key-preserved
loop-key-preserved c =
    let e : Entry = (c.in-Some.key.now, c.in-Some.value.now) in
    let read = read_form texts_view _ c.in_ok-entries.entries _ c.texts_of.result c.texts_of.ensures c.in_ok-entries.ensures in
    taken_next feature_view feature_at c.args.table.now.entries c.loop-key.key-iterator c.next.new.self c.loop-key.found.items (record { name = c.in_ok-name.name; entries = c.in_ok-entries.entries } ∷ []) c.push.new.self.items e
    c.loop-key.invariant c.in-Some.ensures.steps (feature_read e _ _ (c.in_ok-name.ensures.ok ∙ c.deref-in-loop-key.ensures) read) c.in_ok-push.ensures.items
