use Rattle.std.proofs.Common.{refl, arith}
use Rattle.rust_lexer.proofs.Common.{CLASSES, is_word_byte}
use Rattle.rust_lexer.proofs.Table.{from_table}
use Rattle.rust_lexer.proofs.bytes.is_word_byte.Goals as goal

pub returns : goal.returns
returns c = from_table CLASSES 1 is_word_byte c.args.b (omega arith) refl
