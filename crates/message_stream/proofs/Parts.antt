-- The parts of a line, one after another.
use Rattle.std.proofs.Common.{◌≡◌, ◌≢◌, false, ℕ, List, [], ◌∷◌, ◌++◌, Option, None, Some, OnSome, length, refl, sym, subst, append_assoc}
use Rattle.message_stream.proofs.Common.{All-append, Consumes-trans, Consumes, IsAtEnd, IsNext, Message, HasNoFeed, line_frames, message_told, IsToldOf, feed_of, EndsAt, IsNone, IsPart, IsEndIn}
use Rattle.message_stream.specs.declared.framing.Next.{Next}
use Rattle.message_stream.specs.declared.framing.Next.TheVariants as next
use Rattle.message_stream.specs.declared.lines.Ending.{Ending}
use Rattle.message_stream.specs.declared.lines.Ending.TheVariants.{Shown, Feed, End}

-- what was read of a line, with what follows it
abbrev pub IsBegun : (had left : Option (List ℕ)) → Message → List ℕ → Type 0
IsBegun had left line feed = (read : List ℕ) × Consumes had left (read ++ feed) × HasNoFeed read × IsToldOf read (message_told line)

pub at_end : (had mid left : Option (List ℕ)) (bytes : List ℕ) → Consumes had mid bytes → OnSome mid (IsAtEnd left) → OnSome had (IsAtEnd left)
at_end None mid left bytes read end = tt
at_end (Some x) None left bytes read end = absurd read
at_end (Some x) (Some y) left bytes read end = end

pub ends_at : (ending : Ending) (shown : List ℕ) (had left : Option (List ℕ)) → IsNone ending shown → (length shown ≡ 0 → OnSome had (IsAtEnd left)) → EndsAt ending had left
ends_at Shown shown had left none end = tt
ends_at Feed shown had left none end = tt
ends_at End shown had left none end = end none

-- a part more
pub grown : (had mid left : Option (List ℕ)) (old new : Message) (ending : Ending) (read : List ℕ) → Consumes had mid read → HasNoFeed read → IsToldOf read (message_told old)
    → IsPart mid left old new ending → IsBegun had left new (feed_of ending)
grown had mid left old new ending read consumed no_feed is more = (
  read ++ more.part,
  subst (Consumes had left) (sym (append_assoc read more.part (feed_of ending))) (Consumes-trans had mid left read (more.part ++ feed_of ending) consumed more.read),
  All-append (λ byte. byte ≢ 10) read more.part no_feed more.no_feed,
  more.grows read is,
)

-- a line that has its line feed
pub one_next : (had left : Option (List ℕ)) (line : Message) → IsBegun had left line (10 ∷ []) → IsNext line_frames had left (next.Message line false)
one_next had left line (read, consumed, no_feed, is) = (read, (read ++ 10 ∷ [], consumed, (refl, no_feed)), is)

-- the last line
pub last_next : (had left : Option (List ℕ)) (next : Next) (read : List ℕ) → Consumes had left read → HasNoFeed read → OnSome had (IsAtEnd left) → IsEndIn read next → IsNext line_frames had left next
last_next had left (next.Message line is_last) read consumed no_feed end (last, is, some) = rw last (read, (read, consumed, (refl, no_feed, some), end), is)
last_next had left next.Nothing read consumed no_feed end is = (subst (Consumes had left) is consumed, end)
