use Rattle.std.proofs.Common.{◌∙◌, ◌++◌, ap}
use Rattle.line_index.specs.Inner.{starts_before}
use Rattle.line_index.specs.Starts.{line_starts}
use Rattle.line_index.proofs.ReplacedLines.{all_before}
use Rattle.line_index.proofs.starts.LineStarts.new.Goals as goal

pub returns : goal.returns
returns c =
    let bytes = c.as_bytes.ensures.value in
    c.in_ok-push_starts.ensures ∙ ap (λ l. l ++ starts_before c.args.line_ends 0 _ c.as_bytes.result.now) c.new-starts.ensures.items
    ∙ all_before c.args.line_ends c.as_bytes.result.now ∙ ap (line_starts c.args.line_ends) bytes
