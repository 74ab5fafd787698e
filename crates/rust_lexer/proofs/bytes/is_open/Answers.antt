use Rattle.std.proofs.Common.{refl, arith}
use Rattle.rust_lexer.proofs.Common.{CLASSES, is_open_byte}
use Rattle.rust_lexer.proofs.Table.{from_table}
use Rattle.rust_lexer.proofs.bytes.is_open.Goals as goal

pub returns : goal.returns
returns c = from_table CLASSES 8 is_open_byte c.args.b (omega arith) refl
