use Rattle.std.proofs.Common.{sym}
use Rattle.rust_items.proofs.LineEnds.{feeds_same, none_found, none_stands, one_found, returns_none}
use Rattle.rust_items.proofs.line_ends.has_return.Goals as goal

pub returns-in-Some-clause-stands : goal.returns-in-Some-clause-stands
returns-in-Some-clause-stands c = sym (one_found c.args.text.now c.as_bytes.result.now _ c.as_bytes.ensures.value c.in-Some.ensures)

pub returns-in-None-clause-stands : goal.returns-in-None-clause-stands
returns-in-None-clause-stands c = sym (none_stands c.args.text.now (none_found c.args.text.now c.as_bytes.result.now c.as_bytes.ensures.value c.in-None.ensures))

pub returns-in-None-clause-text : goal.returns-in-None-clause-text
returns-in-None-clause-text c = λ _. feeds_same c.args.text.now (none_found c.args.text.now c.as_bytes.result.now c.as_bytes.ensures.value c.in-None.ensures)

pub returns-in-None-clause-returns : goal.returns-in-None-clause-returns
returns-in-None-clause-returns c = λ _. returns_none 0 c.args.text.now (none_found c.args.text.now c.as_bytes.result.now c.as_bytes.ensures.value c.in-None.ensures)
