use Rattle.source_tags.proofs.Common.{rules, ◌∙◌, All, List, ap, map, subst, sym, take, take_all, ItemPlace}
use Rattle.source_tags.specs.BlockItems.{bare_place}
use Rattle.source_tags.specs.Inner.{FitsPlace}
use Rattle.source_tags.proofs.Blocks.{bare_block, places_fit}
use Rattle.source_tags.proofs.block_items.block_places.Goals as goal

pub returns-clause-places : goal.returns-clause-places
returns-clause-places c =
    let ps = c.in_ok-read.read.places.items in
    let whole = take_all c.loop-place.place-index ps (search rules) in
    c.loop-place.invariant ∙ ap (λ (l : List ItemPlace). map bare_place (take c.loop-place.place-index l)) c.deref-place-items.ensures.value ∙ ap (map bare_place) whole
    ∙ bare_block c.args.edition c.args.text.now c.in_ok-read.read c.in_ok-read.ensures.block

pub returns-clause-fit : goal.returns-clause-fit
returns-clause-fit c =
    let ps = c.in_ok-read.read.places.items in
    let whole = take_all c.loop-place.place-index ps (search rules) in
    let made = c.loop-place.invariant ∙ ap (λ (l : List ItemPlace). map bare_place (take c.loop-place.place-index l)) c.deref-place-items.ensures.value ∙ ap (map bare_place) whole in
    λ by fits. subst (All (FitsPlace by)) (sym made) (places_fit c.args.text.now _ ps c.in_ok-read.ensures.placed by fits)
