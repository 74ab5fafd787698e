use Rattle.std.proofs.Common.{map, sym, ap, ◌∙◌}
use Rattle.std.proofs.lemmas.List.{map-append}
use Rattle.source_changes.specs.Matches.{match_now, matched_behind, same_keys}
use Rattle.source_changes.proofs.Fronts.{by_key, first_stays}
use Rattle.source_changes.proofs.matching.take_front.Goals as goal

pub pairs-preserved : goal.pairs-preserved
pairs-preserved g c =
    let same = same_keys g.K.PartialEq.eq in
    let both = map match_now c.pairs.both.items in
    let olds = c.take_first.new.olds.now in
    let news = c.take_first.new.news.now in
    let first = c.in-Some.ensures.both in
    ap (λ ms. matched_behind same ms olds news) (ap (map match_now) c.in_ok-push.ensures.items ∙ map-append match_now c.pairs.both.items _)
    ∙ first_stays (by_key g.met.K.Eq.laws) both c.in-Some.old.now c.in-Some.new.now olds news first.2 ∙ (λ i. matched_behind same both (sym first.0 i) (sym first.1 i)) ∙ c.pairs.invariant
