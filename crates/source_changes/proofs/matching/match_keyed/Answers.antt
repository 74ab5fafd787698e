use Rattle.std.proofs.Common.{◌++◌, map, ap, ◌∙◌, flat_map}
use Rattle.source_changes.specs.Matches.{gone_of, match_now, match_of, pair_now, same_keys}
use Rattle.source_changes.proofs.Fronts.{all_matched}
use Rattle.source_changes.proofs.matching.match_keyed.Goals as goal

pub returns : goal.returns
returns g c =
    let gone = c.in_ok-push_all_gone.ensures ∙ (λ i. map match_now (c.new-found.ensures.items i) ++ flat_map gone_of (map pair_now (c.deref.ensures.value i))) ∙ ap (flat_map gone_of) c.in_ok-partners.ensures in
    let new = c.in_ok-push_all_new.ensures ∙ ap (λ ps. map match_now c.append.new.self.items ++ map match_of ps) (ap (map pair_now) c.deref-2.ensures.value ∙ c.in_ok-partners-2.ensures) in
    all_matched (same_keys g.K.PartialEq.eq) c.push_all_gone.new.found.items c.in_ok-both.both.items c.append.new.self.items c.push_all_new.new.found.items c.take_front.new.olds.now c.take_front.new.news.now gone c.in_ok-append.ensures.items new
    ∙ c.in_ok-both.ensures
