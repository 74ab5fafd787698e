use Rattle.std.proofs.Common.{◌≡◌, map, sym, ap, subst, ◌∙◌, flat_map}
use Rattle.decl_index.proofs.Common.{AreGone}
use Rattle.std.proofs.lemmas.Result.{IfOk-weaker}
use Rattle.decl_index.proofs.Common.{gone_by}
use Rattle.decl_index.proofs.Refreshes.{gone_of_all}
use Rattle.decl_index.proofs.catalog.Catalog.gone_entries.Goals as goal

pub returns : goal.returns
returns c =
    let s = c.args.sources.now in
    let all = c.args.self.now in
    let lent = ap (map (λ e. e.now)) c.deref.ensures.value ∙ c.in_ok-all.ensures in
    IfOk-weaker c.gone_of.result (λ gone. gone.items ≡ flat_map (gone_by s) (map (λ e. e.now) c.deref.result.now)) (λ gone. AreGone s all gone.items)
    (λ gone is. subst (AreGone s all) (sym (is ∙ ap (flat_map (gone_by s)) lent)) (gone_of_all s all)) c.gone_of.ensures
