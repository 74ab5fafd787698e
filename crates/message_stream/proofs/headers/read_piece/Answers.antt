use Rattle.std.proofs.Common.{subst, take, length-take-le, arith}
use Rattle.std.specs.Io.BufRead.{FillKeeps}
use Rattle.std.proofs.BufReadLemmas.{Consumes_shown}
use Rattle.message_stream.proofs.HeaderParts.{piece_of}
use Rattle.message_stream.proofs.headers.read_piece.Goals as goal

pub returns : goal.returns
returns g c =
    let shown = c.in-Ok.shown.now in
    let rested = c.fill_buf.follows.lender-at-none in
    let filled = subst (FillKeeps _ (g.R.Read.remaining rested) (g.R.BufRead.consumable_len rested)) c.in-Ok.is c.fill_buf.follows.holds-at-none in
    let count = c.min-count.result in
    let long = length-take-le count shown (omega (arith, c.min-count.ensures)) in
    piece_of _ _ _ _ (take count shown) _ _
    (Consumes_shown _ _ _ _ shown count (omega (arith, c.min-count.ensures)) c.in-Ok.ensures.front c.in-Ok.ensures.end filled.0 filled.1 c.consume.ensures.bytes).0
    (omega (arith, long, c.min-count.ensures)) c.with-longer.ensures.grows c.with-longer.ensures.too_long c.with-longer.ensures.no_memory
