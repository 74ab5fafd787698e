use Rattle.std.proofs.Common.{refl, arith}
use Rattle.std.proofs.lemmas.Simd.{zip2_splat, zip2_splat_left}
use lib.Bits.{bit_and, bit_or}
use Rattle.rust_lexer.proofs.Common.{is_plain_byte}
use Rattle.rust_lexer.proofs.Lanes.{hit, no_more, joined, with_splat, splat_with, told, few_bits}
use Rattle.rust_lexer.proofs.words.plain.Goals as goal

pub returns : goal.returns
returns c =
    let v = c.args.v in
    let long = c.fits-v.0 in
    let lower = zip2_splat bit_or v 16 32 long in
    let letter = joined bit_and _ _ v (splat_with no_more (λ x. bit_or x 32) 97 16 v long lower) (with_splat no_more (λ x. bit_or x 32) 122 16 v long lower) in
    let digit = joined bit_and _ _ v (zip2_splat_left no_more 48 16 v long) (zip2_splat no_more v 16 57 long) in
    let lanes = joined bit_or _ _ v (joined bit_or _ _ v letter digit) (zip2_splat hit v 16 95 long) in
    (told 16 _ is_plain_byte v _ c.fits-v (omega arith) lanes refl, few_bits 16 _ is_plain_byte v _ c.fits-v (omega arith) lanes)
