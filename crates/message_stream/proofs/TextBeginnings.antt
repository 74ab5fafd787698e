-- Beginnings of a text that a writer took.
use Rattle.std.proofs.Common.{ℕ, List, ◌++◌, Option, Result, Ok, Err, sym, ap, ◌∙◌, append_assoc}
use Rattle.message_stream.proofs.Common.{Appends-trans, Appends, HasWritten, StreamError, TakesBeginning}

-- of a longer text
pub begun_of_more : (held holds : Option (List ℕ)) (text more : List ℕ) → TakesBeginning held holds text → TakesBeginning held holds (text ++ more)
begun_of_more held holds text more (taken, rest, split, appended) = (taken, rest ++ more, ap (λ l. l ++ more) split ∙ append_assoc taken rest more, appended)

-- after a text that it took
pub begun_after : (held mid holds : Option (List ℕ)) (text more : List ℕ) → Appends held mid text → TakesBeginning mid holds more → TakesBeginning held holds (text ++ more)
begun_after held mid holds text more first (taken, rest, split, appended) =
    (text ++ taken, rest, ap (λ l. text ++ l) split ∙ sym (append_assoc text taken rest), Appends-trans held mid holds text taken first appended)

-- more after a text that it took
pub written_after : {A : Type 0} (result : Result A StreamError) (held mid holds : Option (List ℕ)) (text more : List ℕ) → Appends held mid text → HasWritten result mid holds more → HasWritten result held holds (text ++ more)
written_after (Ok _) held mid holds text more first wrote = Appends-trans held mid holds text more first wrote
written_after (Err e) held mid holds text more first failed = (failed.0, begun_after held mid holds text more first failed.1)
