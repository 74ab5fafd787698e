use Rattle.std.proofs.Common.{rules, ◌≡◌, ◌∷◌, ◌++◌, List, map, filter_map, ap, sym, ◌∙◌, option_copied, option_map}
use Rattle.rust_cursor.proofs.PushedLists.{pushed_view}
use Rattle.rust_items.specs.declared.member.Member.{Member}
use Rattle.source_rows.specs.Listed as spec
use Rattle.source_rows.specs.ListedViews.{closers_view, listed_view}
use Rattle.source_rows.proofs.Common.{member_view}
use Rattle.source_rows.proofs.ListedSteps.{listed_more}
use Rattle.source_rows.proofs.listed.listed_of.Goals as goal

pub loop-member-preserved : goal.loop-member-preserved
loop-member-preserved c =
    let a = c.args.around in
    let told = spec.listed_member (option_map closers_view (option_copied a.mended)) a.options.now a.is_active in
    let m = c.in-Some.member in
    let rest = c.next.new.self.rest.items in
    let step : c.loop-member.member-iterator.rest.items ≡ m ∷ rest = search rules in
    let pushed = pushed_view listed_view c.loop-member.out.items c.push_some.new.list.items c.in_ok-listed.listed c.in_ok-push_some.ensures in
    ap (λ (ys : List spec.Listed). ys ++ filter_map told (map member_view rest)) pushed
    ∙ listed_more told (map listed_view c.loop-member.out.items) (member_view m) (map member_view rest) (option_map listed_view c.in_ok-listed.listed) c.in_ok-listed.ensures
    ∙ ap (λ (ms : List Member). map listed_view c.loop-member.out.items ++ filter_map told (map member_view ms)) (sym step)
    ∙ c.loop-member.invariant
