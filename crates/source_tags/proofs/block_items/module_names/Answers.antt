use Rattle.source_tags.proofs.Common.{rules, ◌≡◌, ◌+◌, ◌∷◌, ◌++◌, Bor, List, ℕ, suc, map, option_map, ap, sym, ◌∙◌, arith}
use Rattle.std.proofs.Common.{drop}
use Rattle.std.proofs.Math.Seq.{drop-cons}
use Rattle.hir_input.specs.declared.name.Name.{Name}
use Rattle.rust_cursor.proofs.PushedLists.{pushed_view}
use Rattle.source_rows.proofs.ListedSteps.{listed_more}
use Rattle.source_tags.specs.BlockItems.{modules_of}
use Rattle.source_tags.specs.Inner.{holder_view}
use Rattle.source_tags.specs.declared.block_items.Holder.{Holder}
use Rattle.source_tags.proofs.block_items.module_names.Goals as goal

pub loop-holder-preserved : goal.loop-holder-preserved
loop-holder-preserved c =
    let hs = c.args.holders.now in
    let i = c.loop-holder.holder-index in
    let x = c.holder-item.result in
    let rest = drop (i + 1) hs in
    let one : suc i ≡ i + 1 = omega arith in
    let step : drop i hs ≡ x ∷ rest = drop-cons hs i x c.loop-holder-test.true ∙ (λ k. sym c.holder-item.is k ∷ drop (one k) hs) in
    let text : Bor Name → List ℕ = λ n. n.now in
    let done = map text c.loop-holder.names.items in
    let own : option_map text c.as_ref.result ≡ (holder_view x).name = search rules in
    ap (λ (ys : List (List ℕ)). ys ++ modules_of (map holder_view rest)) (pushed_view text c.loop-holder.names.items c.push_some.new.list.items c.as_ref.result c.in_ok-push_some.ensures)
    ∙ listed_more (λ h. h.name) done (holder_view x) (map holder_view rest) (option_map text c.as_ref.result) own
    ∙ ap (λ (l : List Holder). done ++ modules_of (map holder_view l)) (sym step)
    ∙ c.loop-holder.invariant
