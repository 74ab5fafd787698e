-- an entry without a slash
use Rattle.std.proofs.Common.{◌≡◌, true, false, codes, nat_eq, lit<, sym, map, ◌∙◌}
use Rattle.std.proofs.lemmas.Str.Pattern.{split_once_first, starts_text}
use Rattle.std.specs.List.{list_any, starts_with}
use Rattle.cargo_manifest.specs.Features.{is_slash}
use Rattle.cargo_manifest.specs.Views.{dependency_view}
use Rattle.cargo_manifest.proofs.Entries.{no_slash, plain_entry}
use Rattle.cargo_manifest.proofs.enabled.entry_feature.Goals as goal

pub returns-in-None : goal.returns-in-None
returns-in-None c =
    let split = split_once_first 47 c.args.entry.now c.split_once.result c.split_once.ensures.cases (lit< tt) in
    let lacks : list_any is_slash c.args.entry.now ≡ false = no_slash c.args.entry.now (rw c.in-None.is at split) in
    let begins : starts_with nat_eq c.args.entry.now (codes "dep:") ≡ true = sym (starts_text c.starts_with.result (codes "dep:") c.args.entry.now c.starts_with.ensures.cases) ∙ c.if-starts_with.true in
    sym (plain_entry (map dependency_view c.args.dependencies.now) c.args.entry.now true lacks begins)

pub returns-in-None-2 : goal.returns-in-None-2
returns-in-None-2 c =
    let split = split_once_first 47 c.args.entry.now c.split_once.result c.split_once.ensures.cases (lit< tt) in
    let lacks : list_any is_slash c.args.entry.now ≡ false = no_slash c.args.entry.now (rw c.in-None.is at split) in
    let begins : starts_with nat_eq c.args.entry.now (codes "dep:") ≡ false = sym (starts_text c.starts_with.result (codes "dep:") c.args.entry.now c.starts_with.ensures.cases) ∙ c.if-starts_with.false in
    sym (plain_entry (map dependency_view c.args.dependencies.now) c.args.entry.now false lacks begins)
