use Rattle.std.proofs.Common.{map, sym, ap, ◌∙◌}
use Rattle.std.specs.Option.{option_copied}
use Rattle.std.proofs.lemmas.Result.{on_ok_weaker}
use Rattle.def_map.specs.Views.{crate_row_view, sources_view}
use Rattle.def_map.proofs.LentItems.{file_joined}
use Rattle.def_map.proofs.files.push_file.Goals as goal

pub returns : goal.returns
returns c =
    on_ok_weaker c.push_tree.result
    (file_joined c.args.ctx.now.parents.now (sources_view c.args.ctx.now.sources) c.args.at c.in-Some.tree.now _ (option_copied c.words_of.result) _ (map crate_row_view c.args.rows.now.items)
    (map crate_row_view c.push_hidden.new.rows.items) (map crate_row_view c.push_tree.new.rows.items) (ap option_copied (sym c.in-Some.is) ∙ c.tree_of.ensures) c.words_of.ensures c.in_ok-push_hidden.ensures)
    c.push_tree.ensures
