use Rattle.std.proofs.Common.{◌∙◌, List, ℕ, ap, arith, subst, sym}
use Rattle.std.specs.List.Sorted.{IsNonDecreasing}
use Rattle.line_index.specs.Points.{point_at}
use Rattle.line_index.specs.Starts.{StyledText}
use Rattle.line_index.proofs.Begins.{point_by, starts_rise}
use Rattle.line_index.proofs.point_index.PointIndex.point.Goals as goal

pub count_up_to-line-requires : goal.count_up_to-line-requires
count_up_to-line-requires c =
    let i = c.self.inside in
    subst (λ (l : List ℕ). IsNonDecreasing l) (sym c.self.invariant.0) (starts_rise i.style.line_ends 0 i.text.now)

pub returns : goal.returns
returns c =
    let i = c.self.inside in
    point_by i.style i.text.now i.starts.now c.hidden_length-first.result c.args.at c.max-at.result c.count_up_to-line.result c.begin_of-begin.result c.units_between.result
    c.self.invariant.0 c.hidden_length-first.ensures.value (omega (arith, c.min.ensures, c.max-at.ensures)) c.count_up_to-line.ensures.bound c.count_up_to-line.ensures.before c.count_up_to-line.ensures.behind c.begin_of-begin.ensures c.units_between.ensures
    ∙ ap (λ (t : StyledText). point_at t.style t.text c.args.at) c.self.view_is
