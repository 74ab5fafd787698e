use Rattle.std.proofs.Common.{◌∙◌, List, ℕ, ap, arith, subst, sym}
use Rattle.std.specs.List.Sorted.{IsNonDecreasing}
use Rattle.line_index.specs.Points.{point_at}
use Rattle.line_index.specs.Starts.{line_starts}
use Rattle.line_index.proofs.Begins.{point_by, starts_rise}
use Rattle.line_index.proofs.starts.LineStarts.point.Goals as goal

pub count_up_to-line-requires : goal.count_up_to-line-requires
count_up_to-line-requires c =
    subst (λ (l : List ℕ). IsNonDecreasing l) (sym (c.as_slice-starts.ensures.value ∙ c.self.view_is ∙ c.requires)) (starts_rise c.args.style.line_ends 0 c.args.text.now)

pub returns : goal.returns
returns c =
    let bytes = c.as_bytes-text.ensures.value in
    let starts = c.as_slice-starts.ensures.value ∙ c.self.view_is ∙ c.requires ∙ ap (line_starts c.args.style.line_ends) (sym bytes) in
    point_by c.args.style c.as_bytes-text.result.now c.as_slice-starts.result.now c.hidden_length-first.result c.args.at c.max-at.result c.count_up_to-line.result c.begin_of-begin.result c.units_of.result
    starts c.hidden_length-first.ensures.value (omega (arith, c.min.ensures, c.max-at.ensures)) c.count_up_to-line.ensures.bound c.count_up_to-line.ensures.before c.count_up_to-line.ensures.behind c.begin_of-begin.ensures c.units_of.ensures
    ∙ ap (λ z. point_at c.args.style z c.args.at) bytes
