-- Services that have nothing to tell at a rest, and histories over lines.
use Rattle.std.proofs.Common.{true≢false, true, false, Bool, ◌≡◌, ◌∷◌, ◌++◌, ℕ, List, [], flat_map, map, Option, None, Some, refl, ap, sym, subst, ◌∙◌, append_assoc, append-nil}
use Rattle.message_stream.proofs.Common.{Conduct, Frames, Intake, IsServed, Told, Turn, with_feed, line_frames, lines, messages_of, rested, took}
use Rattle.message_stream.proofs.FedLines.{lines_fed, lines_last}
use Rattle.message_stream.specs.Answers.{OneEach}
use Rattle.message_stream.specs.Exchanged.{IsMessageAt}
use Rattle.message_stream.specs.Lines.{IsServedEach}

-- they never rest
pub never_rests : {S I : Type 0} (F : Frames) (C : Conduct S) (left : I → Option (List ℕ)) (waiting : I → List ℕ) → ((s : S) → C.is_rested s ≡ true)
    → (old new : S) (from to : Intake I) (turns : List Turn) (text : List ℕ) → IsServed F C left waiting old from turns new to text → map took (messages_of turns) ≡ turns
never_rests F C left waiting still old new from to [] text served = refl
never_rests F C left waiting still old new from to (took message ∷ turns) text served =
    let (next, at, texts, later, step, whole, others) = served in ap (λ l. took message ∷ l) (never_rests F C left waiting still next new at to turns later others)
never_rests F C left waiting still old new from to (rested ∷ turns) text served =
    let (next, at, texts, later, step, whole, others) = served in absurd (true≢false (sym (still old) ∙ step.0.1))

-- over lines they have one line for each, where each message is answered by one text
pub served_each : {S I : Type 0} (C : Conduct S) (left : I → Option (List ℕ)) (waiting : I → List ℕ) (Answers : S → Told → S → List ℕ → Type 0)
    → ((old new : S) (told : Told) (texts : List (List ℕ)) → C.Answers old told new texts → OneEach Answers old told new texts) → ((s : S) → C.is_rested s ≡ true)
    → (old new : S) (from to : Intake I) (turns : List Turn) (text : List ℕ) → IsServed line_frames C left waiting old from turns new to text → IsServedEach Answers old (messages_of turns) new text
served_each C left waiting Answers ones still old new from to [] text served = (served.0, served.2)
served_each C left waiting Answers ones still old new from to (took line ∷ turns) text served =
    let (next, at, texts, later, step, whole, others) = served in
    let (ready, read, said, is, answered) = step in
    let (answer, one, by) = ones old next said texts answered in (
      said,
      next,
      answer,
      later,
      is,
      by,
      whole ∙ ap (λ t. flat_map with_feed t ++ later) one ∙ ap (λ l. l ++ later) (append-nil (answer ++ 10 ∷ [])) ∙ append_assoc answer (10 ∷ []) later,
      served_each C left waiting Answers ones still next new at to turns later others,
    )
served_each C left waiting Answers ones still old new from to (rested ∷ turns) text served =
    let (next, at, texts, later, step, whole, others) = served in absurd (true≢false (sym (still old) ∙ step.0.1))

-- what is left of known bytes, and their lines
abbrev IsLinesTo : List ℕ → Option (List ℕ) → List (List ℕ) → Type 0
IsLinesTo all left messages = (rest : List ℕ) × (left ≡ Some rest) × (lines all ≡ messages ++ lines rest)

line_read : (is_last : Bool) (all : List ℕ) (left : Option (List ℕ)) (line : List ℕ) → IsMessageAt line_frames is_last (Some all) left line → IsLinesTo all left (line ∷ [])
line_read false all None line (bytes, read, is) = absurd read
line_read true all None line (bytes, read, is, end) = absurd read
line_read false all (Some more) line (bytes, read, (same, no_feed)) =
    (more, refl, ap lines (read ∙ ap (λ b. b ++ more) same ∙ append_assoc line (10 ∷ []) more) ∙ lines_fed line more no_feed)
line_read true all (Some more) line (bytes, read, (same, no_feed, some), end) = (
  more,
  refl,
  ap lines (read ∙ ap (λ m. bytes ++ m) end ∙ append-nil bytes ∙ same) ∙ lines_last line no_feed some ∙ ap (λ m. line ∷ lines m) (sym end),
)

pub lines_served : {S I : Type 0} (C : Conduct S) (left : I → Option (List ℕ)) (waiting : I → List ℕ) (old new : S) (from to : Intake I) (turns : List Turn) (text all : List ℕ)
    → IsServed line_frames C left waiting old from turns new to text → left from.reader ≡ Some all → IsLinesTo all (left to.reader) (messages_of turns)
lines_served C left waiting old new from to [] text all served known = (all, ap (λ (s : Intake _). left s.reader) served.1 ∙ known, refl)
lines_served C left waiting old new from to (took line ∷ turns) text all served known =
    let (next, at, texts, later, step, whole, others) = served in
    let (more, between, first) = line_read at.is_ended all (left at.reader) line (subst (λ l. IsMessageAt line_frames at.is_ended l (left at.reader) line) known step.1) in
    let (rest, end, then) = lines_served C left waiting next new at to turns later more others between in (rest, end, first ∙ ap (λ l. line ∷ l) then)
lines_served C left waiting old new from to (rested ∷ turns) text all served known =
    let (next, at, texts, later, step, whole, others) = served in
    lines_served C left waiting next new at to turns later all others (ap (λ (s : Intake _). left s.reader) step.1 ∙ known)
