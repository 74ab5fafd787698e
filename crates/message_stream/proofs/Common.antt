-- The names that most proofs here cite, passed on from one place. Declares nothing.
pub use Rattle.message_stream.specs.Answers.{Conduct}
pub use Rattle.message_stream.specs.Exchanged.{HasRead, HasWritten, IsNext, TakesBeginning}
pub use Rattle.message_stream.specs.Frames.{Frames}
pub use Rattle.message_stream.specs.Inner.{EndsAt, HasTurned, IsEndIn, IsNone, IsPart, feed_of}
pub use Rattle.message_stream.specs.Lines.{HasNoFeed, begin, with_feed, line_frames, lines}
pub use Rattle.message_stream.specs.Messages.{IsToldOf, Told, message_told}
pub use Rattle.message_stream.specs.Served.{Turn, Intake, HasServed, HasTold, MayRead, IsReady, IsServed, IsTurn, messages_of, rested, intake_at, took}
pub use Rattle.message_stream.specs.declared.error.StreamError.{StreamError}
pub use Rattle.message_stream.specs.declared.message.Message.{Message}
pub use Rattle.std.proofs.KnownBytes.{Appends-kept, Appends-trans, Consumes-trans}
pub use Rattle.std.proofs.lemmas.List.Elements.{All-append, All-head, All-nil, All-tail}
pub use Rattle.std.proofs.lemmas.Result.{err_from_is_err_and}
pub use Rattle.std.specs.Io.KnownBytes.{Appends, Consumes, IsAtEnd}
