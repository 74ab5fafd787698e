-- A list of events is cut where the two parts of it are, joined; and so are lists of metas.
use Rattle.std.proofs.Common.{◌≡◌, ℕ, List, [], ◌∷◌, ◌++◌, Option, None, Some, refl, sym, ap, ◌∙◌, flat_map, filter_map}
use Rattle.std.proofs.lemmas.{Grind.flat_map-append, List.Sums.take_while-cons}
use Rattle.either.specs.{declared.Either.TheVariants.Left, declared.Either.TheVariants.Right, Either.is_left, Either.left, Either.right}
use Rattle.hir_input.specs.{declared.attr.Attr.Attr, Cfg.AtomView, Cfg.CfgView}
use Rattle.item_tree_attrs.specs.Collected.{Collected, Event, events, first, cut_events, collected_from, join, JoinsLists}

abbrev pub made : List Attr → Option CfgView → Collected
made attrs cfg = record { attrs = attrs; false_cfg = cfg }

abbrev add : Attr → Collected → Collected
add a c = made (a ∷ c.attrs) c.false_cfg

cut-Left : (a : Attr) (es : List Event) → cut_events (Left a ∷ es) ≡ add a (cut_events es)
cut-Left a es = ap (λ xs. made (filter_map left xs) (first (filter_map right es))) (take_while-cons is_left (Left a) es)

cut-Right : (c : CfgView) (es : List Event) → cut_events (Right c ∷ es) ≡ made [] (Some c)
cut-Right c es = ap (λ xs. made (filter_map left xs) (Some c)) (take_while-cons is_left (Right c) es)

join-add : (a : Attr) (xs : List Attr) (o : Option CfgView) (d : Collected) → join (made (a ∷ xs) o) d ≡ add a (join (made xs o) d)
join-add a xs (Some c) d = refl
join-add a xs None d = refl

pub cut-append : (xs ys : List Event) → cut_events (xs ++ ys) ≡ join (cut_events xs) (cut_events ys)
cut-append [] ys = refl
cut-append (Left a ∷ xs) ys =
    cut-Left a (xs ++ ys) ∙ ap (add a) (cut-append xs ys) ∙ sym (join-add a (cut_events xs).attrs (cut_events xs).false_cfg (cut_events ys)) ∙ ap (λ c. join c (cut_events ys)) (sym (cut-Left a xs))
cut-append (Right c ∷ xs) ys = cut-Right c (xs ++ ys) ∙ ap (λ d. join d (cut_events ys)) (sym (cut-Right c xs))

pub joins_lists : (options : List AtomView) (skipped : List (List ℕ)) → JoinsLists (collected_from options skipped)
joins_lists options skipped ms ns = ap cut_events (flat_map-append (events options skipped) ms ns) ∙ cut-append (flat_map (events options skipped) ms) (flat_map (events options skipped) ns)
