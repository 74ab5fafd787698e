use Rattle.std.proofs.Common.{map, flat_map, ap}
use Rattle.def_map.specs.CrateView.{other_view}
use Rattle.def_map.specs.Language.{builtin_crates, prelude_types}
use Rattle.language_names.specs.LanguageNames.{tools}
use Rattle.def_map.specs.Tables.{row_crates}
use Rattle.def_map.specs.Views.{crate_row_view}
use Rattle.def_map.proofs.Gathering.{gathered}
use Rattle.def_map.proofs.gather.others_of.Goals as goal

pub returns : goal.returns
returns c =
    gathered c.args.crates.now builtin_crates prelude_types tools (flat_map row_crates (map crate_row_view c.args.rows.now)) (map other_view c.new-list.result.items) _ _ _ _ (map other_view c.push_crates.new.list.items)
    (ap (map other_view) c.new-list.ensures.items) c.in_ok-push_names.ensures c.in_ok-push_words.ensures c.in_ok-push_words-2.ensures c.in_ok-push_words-3.ensures c.in_ok-push_crates.ensures
