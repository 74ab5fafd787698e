use Rattle.std.proofs.Common.{refl, arith}
use Rattle.rust_lexer.proofs.Common.{CLASSES, is_mark_byte}
use Rattle.rust_lexer.proofs.Table.{from_table}
use Rattle.rust_lexer.proofs.bytes.is_mark.Goals as goal

pub returns : goal.returns
returns c = from_table CLASSES 56 is_mark_byte c.args.b (omega arith) refl
