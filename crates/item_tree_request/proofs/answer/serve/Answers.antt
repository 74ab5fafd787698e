use Rattle.std.proofs.Common.{All, string_bytes, sym, subst}
use Rattle.item_tree_request.proofs.Common.{AreJoined, Knows}
use Rattle.item_tree_request.proofs.Outputs.{shows_known}
use Rattle.item_tree_request.proofs.answer.serve.Goals as goal

pub output_of-requires : goal.output_of-requires
output_of-requires g c =
    let r = c.args.request in
    let u = c.in_ok-sources.sources in
    subst (All (Knows u)) (sym c.deref.ensures.value) (shows_known r.crates.items r.settings.skipped.items r.settings.start _ u c.in_ok-sources.ensures.after r.shows.items c.requires.shows)

pub returns-in-Ok : goal.returns-in-Ok
returns-in-Ok g c =
    let r = c.args.request in
    let u = c.in_ok-sources.sources in
    let text = string_bytes c.in-Ok.text in
    let joined = subst (λ shows. AreJoined (g.T.ShowWriter.is_text r.settings.edition.reserved.items u) shows text) c.deref.ensures.value c.in-Ok.ensures in
    record {
      none_passes = c.in_ok-sources.ensures.none_passes;
      is_output = record { table = u; after = c.in_ok-sources.ensures.after; texts = joined };
    }
