use Rattle.std.proofs.Common.{ℕ, refl, arith}
use Rattle.std.proofs.lemmas.Simd.{zip2_splat}
use lib.Bits.{bit_or}
use Rattle.rust_lexer.proofs.Common.{is_stop_byte}
use Rattle.rust_lexer.proofs.Lanes.{hit, joined, with_splat, told}
use Rattle.rust_lexer.proofs.stops.stops.Goals as goal

pub returns : goal.returns
returns c =
    let v = c.args.v in
    let is = λ (y : ℕ). zip2_splat hit v 64 y c.fits-v.0 in
    let with = λ (bit y : ℕ). with_splat hit (λ x. bit_or x bit) y 64 v c.fits-v.0 (zip2_splat bit_or v 64 bit c.fits-v.0) in
    told 64 _ is_stop_byte v _ c.fits-v (omega arith) (joined bit_or _ _ v (joined bit_or _ _ v (joined bit_or _ _ v (joined bit_or _ _ v (joined bit_or _ _ v (with 32 123) (with 32 125)) (with 1 41)) (is 34)) (is 39)) (is 47)) refl
