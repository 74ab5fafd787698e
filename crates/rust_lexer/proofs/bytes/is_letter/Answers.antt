use Rattle.std.proofs.Common.{refl, arith}
use Rattle.rust_lexer.proofs.Common.{CLASSES, is_letter}
use Rattle.rust_lexer.proofs.Table.{from_table}
use Rattle.rust_lexer.proofs.bytes.is_letter.Goals as goal

pub returns : goal.returns
returns c = from_table CLASSES 4 is_letter c.args.b (omega arith) refl
