use Rattle.std.proofs.Common.{subst, take}
use Rattle.message_stream.proofs.Common.{Consumes}
use Rattle.std.specs.Io.BufRead.{FillKeeps}
use Rattle.std.proofs.BufReadLemmas.{Consumes_shown}
use Rattle.message_stream.proofs.Parts.{ends_at}
use Rattle.message_stream.proofs.lines.read_part.Goals as goal

pub returns : goal.returns
returns g c =
    let shown = c.in-Ok.shown.now in
    let part = c.first_part-part in
    let rested = c.fill_buf.follows.lender-at-none in
    let filled = subst (FillKeeps _ (g.R.Read.remaining rested) (g.R.BufRead.consumable_len rested)) c.in-Ok.is c.fill_buf.follows.holds-at-none in
    let moved = Consumes_shown _ _ _ _ shown part.result.through part.ensures.consumed c.in-Ok.ensures.front c.in-Ok.ensures.end filled.0 filled.1 c.consume.ensures.bytes in
    record {
      part = take part.result.before shown;
      no_feed = part.ensures.no_feed;
      read = subst (Consumes _ _) part.ensures.through moved.0;
      grows = c.with-line.ensures.grows;
      at_end = ends_at part.result.ending shown _ _ part.ensures.none moved.1;
    }
