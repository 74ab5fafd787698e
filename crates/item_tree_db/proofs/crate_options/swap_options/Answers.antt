use Rattle.std.proofs.Common.{Some, sym, ap, ◌∙◌, option_map}
use Rattle.item_tree_db.proofs.Common.{CrateView}
use Rattle.item_tree_db.proofs.Crates.{crates_given, crate_at}
use Rattle.item_tree_db.proofs.crate_options.swap_options.Goals as goal

pub returns-clause-swapped : goal.returns-clause-swapped
returns-clause-swapped c =
    let x = c.index_mut.result.now in
    crates_given c.args.options.now c.args.crates.now.items c.args.index x (record { root = x.root; cfg = c.swap.new.x; attrs = x.attrs }) c.index_mut.ensures.value (λ j. record { root = x.root; cfg = c.swap.ensures.x_after j; attrs = x.attrs }) c.requires

pub returns-clause-before : goal.returns-clause-before
returns-clause-before c =
    let x = c.index_mut.result.now in
    ap (option_map (λ (k : CrateView). k.options)) (crate_at c.args.crates.now.items c.args.index x c.index_mut.ensures.value c.requires) ∙ ap Some (sym c.swap.ensures.y_after)
