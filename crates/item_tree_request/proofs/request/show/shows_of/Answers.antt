-- the loop as far as it has come
use Rattle.std.proofs.Common.{ℕ, ◌≡◌, ◌∷◌, ◌++◌, [], List, Result, Ok, All, map, length, decimal, rules, sym, ap, ◌∙◌, subst}
use Rattle.item_tree_request.proofs.Common.{map-id, All-push, Reading, each_from, joined, read_next, show, NamesCrate}
use Rattle.serde_json.specs.Data.{Data}
use Rattle.serde_json.specs.View.{items_view, view}
use Rattle.serde_json.specs.declared.value.Value.{Value}
use Rattle.hir_input_json.specs.Reads.{IsReadIn, Reads}
use Rattle.hir_input_json.specs.declared.fault.Fault.{Fault}
use Rattle.item_tree_request.proofs.request.show.shows_of.Goals as goal

-- of values that are seen as themselves
read_next_same : {A : Type 0} → (form : Data → Reading A) (whole : Reading (List A)) (done new : List A) (left rest : List Value) (v : Value) (t : A) (step : List ℕ) (r : Result A Fault)
    → whole ≡ joined done (each_from (length done) form (items_view left))
    → left ≡ v ∷ rest
    → Reads (λ a. a) r (form (view v))
    → IsReadIn step r (Ok t)
    → new ≡ done ++ t ∷ []
    → whole ≡ joined new (each_from (length new) form (items_view rest))
read_next_same form whole done new left rest v t step r before steps reads same pushed =
    read_next (λ a. a) form whole done new left rest v t step r
    (before ∙ ap (λ xs. joined xs (each_from (length done) form (items_view left))) (sym (map-id done))) steps reads same pushed
    ∙ ap (λ xs. joined xs (each_from (length new) form (items_view rest))) (map-id new)

pub loop-item-preserved : goal.loop-item-preserved
loop-item-preserved c =
    let known : NamesCrate c.args.count c.in_ok-read.read = search rules in
    let pushed = c.in_ok-push.ensures.items in (
      read_next_same (show c.args.count) _ _ _ _ _ _ _ (decimal c.len-place.result) _ c.loop-item.invariant.0 c.in-Some.ensures.steps.0 c.show_of.ensures.reads c.in_ok-read.ensures pushed,
      subst (All (NamesCrate c.args.count)) (sym pushed) (All-push (NamesCrate c.args.count) _ _ c.loop-item.invariant.1 known),
    )
