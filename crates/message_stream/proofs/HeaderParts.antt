-- Parts of a message behind a header, one after another.
use Rattle.std.proofs.Common.{◌≡◌, false, inl, inr, ◌+◌, ◌<◌, ◌≤◌, ℕ, List, [], ◌∷◌, ◌++◌, Option, Result, Ok, Err, length, length-append, append-nil, refl, sym, ap, subst, ◌∙◌, arith}
use Rattle.httparse.specs.Grammar.{HasNoSection}
use Rattle.httparse.specs.Spans.{SectionOverflows}
use Rattle.message_stream.proofs.Common.{Consumes, Consumes-trans, IsToldOf, Message, StreamError, feed_of, message_told}
use Rattle.message_stream.proofs.FieldLines.{header_some, no_message, no_section, no_whole_message, nothing_behind}
use Rattle.message_stream.proofs.Parts.{at_end}
use Rattle.message_stream.specs.declared.error.StreamError.TheVariants.{Header, Length}
use Rattle.message_stream.specs.declared.headers.Head.{Head}
use Rattle.message_stream.specs.declared.lines.Ending.{Ending}
use Rattle.message_stream.specs.declared.lines.Ending.TheVariants.{End}
use Rattle.message_stream.specs.declared.message.Message.TheVariants.{Whole, TooLong, OutOfMemory}
use Rattle.message_stream.specs.declared.message.TheConstants.{MOST_MESSAGE}
use Rattle.message_stream.specs.declared.sections.TheConstants.{MOST_FIELDS, MOST_HEADER}
use Rattle.message_stream.specs.declared.framing.Next.TheVariants as next
use Rattle.message_stream.specs.Exchanged.{IsEndedBy, IsFaultAt, IsNext}
use Rattle.message_stream.specs.Headers.{IsHeadedFault, IsHeader, SaysLength, SaysNoLength, header_frames}
use Rattle.message_stream.specs.Inner.{ComesAnywhere, Grows, HasNothingBehind, HasReadHeader, IsBodyFault, IsBodySoFar, IsEndOfHeader, IsHead, IsHeaderPart, IsPassing, IsPiece, IsSoFar}
use Rattle.message_stream.specs.Messages.{Told, whole, too_long, no_memory}

-- a fault that may come anywhere
anywhere : (had left : Option (List ℕ)) (e : StreamError) (part : List ℕ) → ComesAnywhere e → IsHeadedFault e part × IsEndedBy e had left
anywhere had left e part (inl is) = rw is (tt, tt)
anywhere had left e part (inr is) = rw is (tt, tt)

-- some bytes more, and such a fault
pub cut_more : (had mid left : Option (List ℕ)) (e : StreamError) (read : List ℕ) → Consumes had mid read → IsPassing mid left e → IsFaultAt header_frames had left e
cut_more had mid left e read first (any, (more, then)) = let (fault, end) = anywhere had left e (read ++ more) any in (read ++ more, Consumes-trans had mid left read more first then, fault, end)

-- ---- headers

-- a part of a header more
pub header_more : (had mid left : Option (List ℕ)) (old new : List ℕ) (ending : Ending) → Consumes had mid old → IsHeaderPart mid left old new ending → Consumes had left new
header_more had mid left old new ending first part =
    subst (Consumes had left) (sym part.longer) (Consumes-trans had mid left old (part.part ++ feed_of ending) first part.read)

-- without a line feed it makes none
pub header_shown : (had left : Option (List ℕ)) (old new : List ℕ) (ending : Ending) → feed_of ending ≡ [] → HasNoSection old → IsHeaderPart had left old new ending → HasNoSection new
header_shown had left old new ending none before part =
    subst HasNoSection (sym (part.longer ∙ ap (λ l. old ++ (part.part ++ l)) none ∙ ap (λ l. old ++ l) (append-nil part.part))) (no_section old part.part before part.no_feed)

-- and with one it has nothing behind it
pub header_fed : (had left : Option (List ℕ)) (old new bytes : List ℕ) (ending : Ending) → bytes ≡ new → feed_of ending ≡ 10 ∷ [] → HasNoSection old → IsHeaderPart had left old new ending → HasNothingBehind bytes
header_fed had left old new bytes ending same fed before part =
    subst HasNothingBehind (sym (same ∙ part.longer ∙ ap (λ l. old ++ (part.part ++ l)) fed)) (nothing_behind old part.part before part.no_feed)

pub header_whole : (had mid left : Option (List ℕ)) (old new bytes : List ℕ) (ending : Ending) (n : ℕ) → bytes ≡ new → Consumes had mid old → IsHeaderPart mid left old new ending → length new ≤ MOST_HEADER → SaysLength bytes n
    → (all : List ℕ) × Consumes had left all × IsHeader all n
header_whole had mid left old new bytes ending n same first part short is = (new, header_more had mid left old new ending first part, (short, subst (λ b. SaysLength b n) same is))

pub header_unsaid : (had mid left : Option (List ℕ)) (old new bytes : List ℕ) (ending : Ending) → bytes ≡ new → Consumes had mid old → IsHeaderPart mid left old new ending → SaysNoLength bytes
    → IsFaultAt header_frames had left Length
header_unsaid had mid left old new bytes ending same first part is = (new, header_more had mid left old new ending first part, subst SaysNoLength same is, tt)

-- no header begins so
pub header_wrong : (had mid left : Option (List ℕ)) (old new bytes : List ℕ) (ending : Ending) → bytes ≡ new → Consumes had mid old → IsHeaderPart mid left old new ending → SectionOverflows MOST_FIELDS bytes
    → IsFaultAt header_frames had left Header
header_wrong had mid left old new bytes ending same first part none = (new, header_more had mid left old new ending first part, inl (subst (SectionOverflows MOST_FIELDS) same none), tt)

pub header_long : (had mid left : Option (List ℕ)) (old new : List ℕ) (ending : Ending) → Consumes had mid old → IsHeaderPart mid left old new ending → MOST_HEADER < length new → IsFaultAt header_frames had left Header
header_long had mid left old new ending first part long = (new, header_more had mid left old new ending first part, inr long, tt)

pub header_end : (had mid left : Option (List ℕ)) (old new bytes : List ℕ) (result : Result Head StreamError) → bytes ≡ new → Consumes had mid old → HasNoSection old → IsHeaderPart mid left old new End
    → IsEndOfHeader bytes result → HasReadHeader had left result
header_end had mid left old new bytes (Ok h) same first before part (is, none) =
    subst (IsHead had left) (sym is) (subst (Consumes had left) (sym same ∙ none) (header_more had mid left old new End first part), at_end had mid left old first part.at_end)
header_end had mid left old new bytes (Err e) same first before part (is, some) =
    rw is (new, header_more had mid left old new End first part, (subst (λ b. 0 < length b) same some, no_message new (header_shown mid left old new End refl before part)), at_end had mid left old first part.at_end)

-- ---- bodies

so_far_of : (said : ℕ) (read : List ℕ) (told : Told) → length read ≤ said → said ≤ MOST_MESSAGE → IsToldOf read told → IsSoFar said read told
so_far_of said read (whole bytes) within short is = (is.0, short)
so_far_of said read too_long within short is = omega (arith, within, is)
so_far_of said read no_memory within short is = omega (arith, within, is)

-- a piece more of what is told of a body
pub piece_grows : (old new : Message) (part before : List ℕ) (said : ℕ) → Grows old part new → (old ≡ TooLong → new ≡ TooLong) → (old ≡ OutOfMemory → new ≡ OutOfMemory)
    → length (before ++ part) ≤ said
    → IsBodySoFar said before old → IsBodySoFar said (before ++ part) new
piece_grows (Whole bytes) new part before said grows stays wants within is =
    so_far_of said (before ++ part) (message_told new) within is.1
    (grows before (is.0, omega (arith, length-append before part, within, is.1)))
piece_grows TooLong new part before said grows stays wants within is = subst (IsBodySoFar said (before ++ part)) (sym (stays refl)) is
piece_grows OutOfMemory new part before said grows stays wants within is = subst (IsBodySoFar said (before ++ part)) (sym (wants refl)) is

within_of : (a b n m said : ℕ) → m ≡ a + b → b ≤ n → a + n ≤ said → m ≤ said
within_of a b n m said e f h = omega (arith, e, f, h)

part_within : (a c n : ℕ) → a + c ≡ n → a ≤ n
part_within a c n e = omega (arith, e)

-- the bytes of a piece
pub piece_of : (had left : Option (List ℕ)) (old new : Message) (part : List ℕ) (wanted wants : ℕ) → Consumes had left part → length part + wants ≡ wanted
    → Grows old part new → (old ≡ TooLong → new ≡ TooLong) → (old ≡ OutOfMemory → new ≡ OutOfMemory) → IsPiece had left old wanted new wants
piece_of had left old new part wanted wants read fewer grows stays lacks = record {
  part = part;
  read = read;
  fewer = fewer;
  grows = λ said before within is.
      piece_grows old new part before said grows stays lacks
      (within_of (length before) (length part) wanted (length (before ++ part)) said (length-append before part) (part_within (length part) wants wanted fewer) within) is;
}

sum_of : (a b c n m : ℕ) → m ≡ a + b → b + c ≡ n → m + c ≡ a + n
sum_of a b c n m e f = omega (arith, e, f)

-- a piece of a body more
pub body_more : (had mid left : Option (List ℕ)) (said wanted wants : ℕ) (old new : Message) (read : List ℕ) → Consumes had mid read → length read + wanted ≡ said → IsBodySoFar said read old
    → IsPiece mid left old wanted new wants → (all : List ℕ) × Consumes had left all × (length all + wants ≡ said) × IsBodySoFar said all new
body_more had mid left said wanted wants old new read first sum so_far piece = (
  read ++ piece.part,
  Consumes-trans had mid left read piece.part first piece.read,
  sum_of (length read) (length piece.part) wants wanted (length (read ++ piece.part)) (length-append read piece.part) piece.fewer ∙ sum,
  piece.grows said read (omega (arith, sum)) so_far,
)

-- a fault behind a part of a body
pub body_fault : (had mid left : Option (List ℕ)) (said wanted : ℕ) (e : StreamError) (read : List ℕ) → Consumes had mid read → length read + wanted ≡ said → IsBodyFault mid left wanted e → IsBodyFault had left said e
body_fault had mid left said wanted e read first sum (more, then, inl any) = (read ++ more, Consumes-trans had mid left read more first then, inl any)
body_fault had mid left said wanted e read first sum (more, then, inr (is, (short, end))) =
    (read ++ more, Consumes-trans had mid left read more first then, inr (is, (omega (arith, length-append read more, sum, short), at_end had mid left read first end)))

-- and behind a header
pub message_fault : (had mid left : Option (List ℕ)) (n : ℕ) (e : StreamError) (header : List ℕ) → Consumes had mid header → IsHeader header n → IsBodyFault mid left n e → IsFaultAt header_frames had left e
message_fault had mid left n e header first is (read, then, inl any) = let (fault, end) = anywhere had left e (header ++ read) any in (header ++ read, Consumes-trans had mid left header read first then, fault, end)
message_fault had mid left n e header first is (read, then, inr (cut, (short, end))) =
    rw cut (header ++ read, Consumes-trans had mid left header read first then, (omega (arith, length-append header read, header_some header n is.1), no_whole_message header read n is.1 short), at_end had mid left header first end)

told_of : (n : ℕ) (body : List ℕ) (told : Told) → length body ≡ n → IsSoFar n body told → IsToldOf body told
told_of n body (whole bytes) long is = (is.0, omega (arith, long, is.1))
told_of n body too_long long is = omega (arith, long, is)
told_of n body no_memory long is = omega (arith, long, is)

-- a whole message
pub message_of : (had mid left : Option (List ℕ)) (n : ℕ) (told : Message) (header body : List ℕ) → Consumes had mid header → IsHeader header n → Consumes mid left body → length body ≡ n → IsBodySoFar n body told
    → IsNext header_frames had left (next.Message told false)
message_of had mid left n told header body first is then long so_far = (
  body,
  (header ++ body, Consumes-trans had mid left header body first then, (header, refl, subst (IsHeader header) (sym long) is)),
  told_of n body (message_told told) long so_far,
)
