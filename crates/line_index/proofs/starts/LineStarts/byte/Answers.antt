use Rattle.std.proofs.Common.{◌∙◌, ap, arith, subst, sym, length, length-drop}
use Rattle.std.specs.Str.{IsCharBoundary}
use Rattle.line_index.specs.Points.{byte_at, bytes_before}
use Rattle.line_index.specs.Starts.{line_starts}
use Rattle.line_index.proofs.Begins.{boundary, byte_by, byte_past, start_fits}
use Rattle.line_index.proofs.starts.LineStarts.byte.Goals as goal

pub returns-then-starts-point-clause-value : goal.returns-then-starts-point-clause-value
returns-then-starts-point-clause-value c =
    let bytes = c.as_bytes-text.ensures.value in
    let starts = c.as_slice-starts.ensures.value ∙ c.self.view_is ∙ c.requires in
    ap length bytes ∙ byte_past c.args.style c.args.text.now c.as_slice-starts.result.now c.args.point starts (omega (arith, c.if-starts-point.true))

pub bytes_behind-requires : goal.bytes_behind-requires
bytes_behind-requires c =
    let starts = c.as_slice-starts.ensures.value ∙ c.self.view_is ∙ c.requires ∙ ap (line_starts c.args.style.line_ends) (sym c.as_bytes-text.ensures.value) in
    start_fits c.args.style c.as_bytes-text.result.now c.as_slice-starts.result.now c.hidden_length.result c.args.point.line c.begin_of-begin.result starts c.hidden_length.ensures.value (omega (arith, c.if-starts-point.false)) c.begin_of-begin.ensures

pub returns-clause-value : goal.returns-clause-value
returns-clause-value c =
    let bytes = c.as_bytes-text.ensures.value in
    let starts = c.as_slice-starts.ensures.value ∙ c.self.view_is ∙ c.requires ∙ ap (line_starts c.args.style.line_ends) (sym bytes) in
    let from = ap (λ z. bytes_before c.args.style 0 c.args.point.column z) c.bytes_behind.ensures in
    byte_by c.args.style c.as_bytes-text.result.now c.as_slice-starts.result.now c.hidden_length.result c.begin_of-begin.result c.byte_in_line.result c.args.point
    starts c.hidden_length.ensures.value (omega (arith, c.if-starts-point.false)) c.begin_of-begin.ensures (c.byte_in_line.ensures.value ∙ from)
    ∙ ap (λ z. byte_at c.args.style z c.args.point) bytes

pub returns-clause-within : goal.returns-clause-within
returns-clause-within c =
    let starts = c.as_slice-starts.ensures.value ∙ c.self.view_is ∙ c.requires ∙ ap (line_starts c.args.style.line_ends) (sym c.as_bytes-text.ensures.value) in
    let first = start_fits c.args.style c.as_bytes-text.result.now c.as_slice-starts.result.now c.hidden_length.result c.args.point.line c.begin_of-begin.result starts c.hidden_length.ensures.value
    (omega (arith, c.if-starts-point.false)) c.begin_of-begin.ensures in
    let bytes = ap length c.as_bytes-text.ensures.value in
    let rest = ap length c.bytes_behind.ensures in
    omega (arith, first, bytes, rest, c.byte_in_line.ensures.within, length-drop c.begin_of-begin.result c.as_bytes-text.result.now)

pub returns-then-starts-point-clause-boundary : goal.returns-then-starts-point-clause-boundary
returns-then-starts-point-clause-boundary c =
    subst (λ n. IsCharBoundary c.args.text.now n) (sym (returns-then-starts-point-clause-value c)) (boundary c.args.style c.args.text.now c.args.point)

pub returns-clause-boundary : goal.returns-clause-boundary
returns-clause-boundary c = subst (λ n. IsCharBoundary c.args.text.now n) (sym (returns-clause-value c)) (boundary c.args.style c.args.text.now c.args.point)
