-- Whole conversations.
use Rattle.std.proofs.Common.{◌≡◌, ◌⊎◌, ℕ, inl, inr, List, [], ◌∷◌, ◌++◌, Bool, true, false, Option, Some, None, Ok, Err, codes, length, take, refl, sym, ap, subst, ◌∙◌, append_assoc, arith}
use Rattle.source_session.proofs.Common.{take_all, unwrap_or, EditionYear, EditionView, Reading, right, wrong, pointer_behind, EditView, last_some, after_none, LineError, NotJson, NotRequest, NotChanged, Refused, TooLong, OutOfMemory, Settings, Asked, first_line, later_line, Open, Outcome, Reply, Replies, IsCarriedOut, IsOutcome, IsRefusedAs, IsReplyUnless, IsReplyOf, IsReply, asked_of, crate_count, of_session, of_opened, opened_session, id_value, reply_number, reply_text, out_of_memory, Session, AreMade, IsUnedited, TextChange, FileTexts, text_in, text_after, left_text, AreMeant}
use Rattle.serde_json.specs.Data.{Data, Members}
use Rattle.serde_json.specs.Find.{as_object}
use Rattle.serde_json.specs.Written.{has_float}
use Rattle.item_tree_request.specs.Requests.{IsJsonText}
use Rattle.message_stream.specs.Lines.{IsServedEach, line_frames}
use Rattle.message_stream.specs.Messages.{Told, whole, too_long, no_memory, IsToldOf}
use Rattle.message_stream.specs.Served.{Turn, Intake, IsServed, messages_of}
use Rattle.message_stream.proofs.EachService.{served_each}
use Rattle.source_session.specs.Replies.{session_conduct}
use Rattle.source_session.specs.Histories.{Says, Exchange, answer_of, AsksNext, AsksFirst, StandAll, StandFirst, Stand, StandOf, IsLedOn, AreOf, OpensNone, IsLedByAnswers, IsLedOnByAnswers}
use Rattle.source_session.specs.Errors.{edit_error}
use Rattle.text_session.specs.declared.error.EditError.{EditError}
use Rattle.text_session.specs.declared.error.EditError.TheVariants as edits
use Rattle.text_session.proofs.EditedSessions.{made_join}
use Rattle.text_session.proofs.ReadTexts.{same_length}
use Rattle.text_session.proofs.MeantEdits.{meant_over}

-- none
made_none : (s : Session) → AreMade s [] [] s
made_none s = record { edition = refl; table = after_none s.table; texts = λ file. refl }

-- ---- what a line leads to, by its answer

record LedOn (s u : Session) (Asks : Asked → Type 0) (outcome : Outcome) : Type 0 where
  edits : List EditView
  changes : List TextChange
  made : AreMade s edits changes u
  stand : Stand outcome Asks s.edition.0 (text_in s.texts) edits changes

led_still : (s u : Session) (Asks : Asked → Type 0) (outcome : Outcome) → u ≡ s → Stand outcome Asks s.edition.0 (text_in s.texts) [] [] → LedOn s u Asks outcome
led_still s u Asks outcome same stand = record { edits = []; changes = []; made = subst (λ v. AreMade s [] [] v) (sym same) (made_none s); stand = stand }

-- if there is no memory for the answer
stand_unsaid : (Asks : Asked → Type 0) (edition : EditionYear) (texts : FileTexts) (outcome : Outcome) (es : List EditView) (cs : List TextChange) → Stand outcome Asks edition texts es cs → Stand (Err OutOfMemory) Asks edition texts es cs
stand_unsaid Asks edition texts (Ok values) es cs h =
    inr (length es, (es, cs, h, sym (take_all (length es) es (omega arith)), sym (take_all (length es) cs (omega (arith, same_length edition texts h.0.edits es cs h.2)))))
stand_unsaid Asks edition texts (Err (Refused place cause)) es cs h = inr (place, h)
stand_unsaid Asks edition texts (Err OutOfMemory) es cs h = h
stand_unsaid Asks edition texts (Err (NotJson column)) es cs h = inl h
stand_unsaid Asks edition texts (Err (NotRequest pointer)) es cs h = inl h
stand_unsaid Asks edition texts (Err (NotChanged place cause)) es cs h = inl h
stand_unsaid Asks edition texts (Err TooLong) es cs h = inl h

-- a line that asks for this
module _ (s : Session) (Asks : Asked → Type 0) (a : Asked) (asks : Asks a) where
  stand_stopped : (es : List EditView) (cs : List TextChange) (n : ℕ) → (n ≡ 0) ⊎ AreMeant s.edition.0 (text_in s.texts) a.edits es cs → Stand (Err OutOfMemory) Asks s.edition.0 (text_in s.texts) (take n es) (take n cs)
  stand_stopped es cs n (inl z) = inl (ap (λ k. take k es) z, ap (λ k. take k cs) z)
  stand_stopped es cs n (inr meant) = inr (n, (es, cs, (a, asks, meant), refl, refl))

  led_undone : (u : Session) (why : EditError) → IsUnedited s a.edits u why → LedOn s u Asks (Err (edit_error why))
  led_undone u (edits.Refused place cause) h = record { edits = take place h.edits; changes = take place h.changes; made = h.made; stand = (h.edits, h.changes, (a, asks, h.meant), refl, refl) }
  led_undone u (edits.NotChanged place cause) h = led_still s u Asks (Err (NotChanged place cause)) h.1 (refl, refl)
  led_undone u edits.OutOfMemory h = record { edits = take h.count h.edits; changes = take h.count h.changes; made = h.made; stand = stand_stopped h.edits h.changes h.count h.meant }

  led_done : (u : Session) (outcome : Outcome) → IsCarriedOut s a u outcome → LedOn s u Asks outcome
  led_done u (Ok values) h = record { edits = h.0.edits; changes = h.0.changes; made = h.0.made; stand = (a, asks, h.0.meant) }
  led_done u (Err e) (inl h) = subst (λ x. LedOn s u Asks (Err x)) (sym h.1) (led_undone u h.0 h.2)
  led_done u (Err e) (inr h) =
      let stand = stand_unsaid Asks s.edition.0 (text_in s.texts) (Ok []) h.0.edits h.0.changes (a, asks, h.0.meant) in
      subst (λ x. LedOn s u Asks (Err x)) (sym h.1) (record { edits = h.0.edits; changes = h.0.changes; made = h.0.made; stand = stand })

led_unsaid : (s u : Session) (Asks : Asked → Type 0) (outcome : Outcome) → LedOn s u Asks outcome → LedOn s u Asks (Err OutOfMemory)
led_unsaid s u Asks outcome led = record { edits = led.edits; changes = led.changes; made = led.made; stand = stand_unsaid Asks s.edition.0 (text_in s.texts) outcome led.edits led.changes led.stand }

-- a line that is refused as a whole
none_stand : (Asks : Asked → Type 0) (edition : EditionYear) (texts : FileTexts) (e : LineError) → OpensNone (Err e) → Stand (Err e) Asks edition texts [] []
none_stand Asks edition texts (NotJson column) h = (refl, refl)
none_stand Asks edition texts (NotRequest pointer) h = (refl, refl)
none_stand Asks edition texts TooLong h = (refl, refl)
none_stand Asks edition texts OutOfMemory h = inl (refl, refl)
none_stand Asks edition texts (Refused place cause) h = absurd h
none_stand Asks edition texts (NotChanged place cause) h = absurd h

-- ---- one line

-- what holds of the outcome of a line, if it holds where the line is refused as a whole and where it is asked
module _ (old : Open) (line : List ℕ) (new : Open) (r : Reply) (P : Outcome → Type 0) (refused : (e : LineError) → OpensNone (Err e) → new ≡ old → P (Err e)) (done : (d : Data) → IsJsonText line d → IsOutcome old (asked_of old d) new r.outcome → P r.outcome) where
  by_refused : (e : LineError) → OpensNone (Err e) → IsRefusedAs e old new r → P r.outcome
  by_refused e none h = subst P (sym (ap (λ (x : Reply). x.outcome) h.1)) (refused e none h.0)

  by_unless : (d : Data) → IsJsonText line d → (b : Bool) → IsReplyUnless b old d new r → P r.outcome
  by_unless d text true h = elim h as (λ _. P r.outcome) [ inl w ↦ by_refused OutOfMemory tt w | inr w ↦ by_refused (NotRequest (pointer_behind (codes "id") [])) tt w ]
  by_unless d text false h = elim h.1 as (λ _. P r.outcome) [ inl w ↦ subst P (sym w.1) (refused OutOfMemory tt w.0) | inr o ↦ done d text o ]

  by_value : (d : Data) → IsJsonText line d → (o : Option Members) → IsReplyOf o old d new r → P r.outcome
  by_value d text None h = by_refused (NotRequest []) tt h
  by_value d text (Some ms) h = by_unless d text (has_float (id_value d)) h

  by_told : (told : Told) → IsToldOf line told → IsReply old told new r → P r.outcome
  by_told (whole bytes) t h = elim h as (λ _. P r.outcome) [
    | inl w ↦ by_refused OutOfMemory tt w
    | inr v ↦ elim v as (λ _. P r.outcome) [
      | inl n ↦ by_refused (NotJson n.column) tt n.refused
      | inr a ↦ by_value a.value (subst (λ bs. IsJsonText bs a.value) t.0 a.text) (as_object a.value) a.reply
    ]
  ]
  by_told too_long t h = by_refused TooLong tt h
  by_told no_memory t h = by_refused OutOfMemory tt h

-- the answer to a line
record Answered (P : Outcome → Type 0) (text : List ℕ) : Type 0 where
  outcome : Outcome
  says : Says text outcome
  holds : P outcome

answered : (P : Outcome → Type 0) (new : Open) (r : Reply) (text : List ℕ) → P r.outcome → (P r.outcome → P (Err OutOfMemory)) → (text ≡ reply_text r.id (reply_number new) r.outcome) ⊎ (text ≡ out_of_memory) → Answered P text
answered P new r text h unsaid (inl e) = record { outcome = r.outcome; says = inl (r.id, reply_number new, e); holds = h }
answered P new r text h unsaid (inr e) = record { outcome = Err OutOfMemory; says = inr (e, refl); holds = unsaid h }

abbrev exchange_of : {P : Outcome → Type 0} → (line text : List ℕ) → Answered P text → Exchange
exchange_of line text a = record { line = line; answer = text; outcome = a.outcome; says = a.says }

-- of an open session
abbrev GoesOn : Session → List ℕ → Open → Outcome → Type 0
GoesOn s line new outcome = (u : Session) × (new ≡ Some u) × LedOn s u (AsksNext (crate_count s) line) outcome

goes_refused : (s : Session) (line : List ℕ) (new : Open) (e : LineError) → OpensNone (Err e) → new ≡ Some s → GoesOn s line new (Err e)
goes_refused s line new e none same = (s, same, led_still s s (AsksNext (crate_count s) line) (Err e) refl (none_stand (AsksNext (crate_count s) line) s.edition.0 (text_in s.texts) e none))

goes_asked : (s : Session) (line : List ℕ) (d : Data) → IsJsonText line d → (r : Reading Asked) → later_line (crate_count s) d ≡ r → (new : Open) (outcome : Outcome) → IsOutcome (Some s) (of_session s r) new outcome → GoesOn s line new outcome
goes_asked s line d text (right a) e new outcome h = (h.0, h.1, led_done s (AsksNext (crate_count s) line) a (d, text, e) h.0 outcome h.2)
goes_asked s line d text (wrong pointer) e new outcome h =
    subst (λ o. GoesOn s line new o) (sym h.1) (goes_refused s line new (NotRequest pointer) tt h.0)

goes_line : (s : Session) (line : List ℕ) (told : Told) (new : Open) (text : List ℕ) → IsToldOf line told → Replies (Some s) told new text → Answered (GoesOn s line new) text
goes_line s line told new text t h =
    let goes = by_told (Some s) line new h.0 (GoesOn s line new) (goes_refused s line new) (λ d is o. goes_asked s line d is (later_line (crate_count s) d) refl new h.0.outcome o) told t h.1 in
    answered (GoesOn s line new) new h.0 text goes (λ g. (g.0, g.1, led_unsaid s g.0 (AsksNext (crate_count s) line) h.0.outcome g.2)) h.2

-- of a conversation without a session
abbrev Opens : List ℕ → Open → Outcome → Type 0
Opens line new outcome =
    (settings : Settings) × (asked : Asked) × AsksFirst settings line asked × ((u : Session) × (new ≡ Some u) × LedOn (opened_session settings) u (AsksFirst settings line) outcome)

abbrev Begins : List ℕ → Open → Outcome → Type 0
Begins line new outcome = ((new ≡ None) × OpensNone outcome) ⊎ Opens line new outcome

begins_asked : (line : List ℕ) (d : Data) → IsJsonText line d → (r : Reading (Settings × Asked)) → first_line d ≡ r → (new : Open) (outcome : Outcome) → IsOutcome None (of_opened r) new outcome → Begins line new outcome
begins_asked line d text (right (settings, a)) e new outcome h =
    inr (settings, a, (d, text, e), (h.0, h.1, led_done (opened_session settings) (AsksFirst settings line) a (d, text, e) h.0 outcome h.2))
begins_asked line d text (wrong pointer) e new outcome h = subst (λ o. Begins line new o) (sym h.1) (inl (h.0, tt))

begins_unsaid : (line : List ℕ) (new : Open) (outcome : Outcome) → Begins line new outcome → Begins line new (Err OutOfMemory)
begins_unsaid line new outcome (inl n) = inl (n.0, tt)
begins_unsaid line new outcome (inr o) = inr (o.0, o.1, o.2, (o.3.0, o.3.1, led_unsaid (opened_session o.0) o.3.0 (AsksFirst o.0 line) outcome o.3.2))

begins_line : (line : List ℕ) (told : Told) (new : Open) (text : List ℕ) → IsToldOf line told → Replies None told new text → Answered (Begins line new) text
begins_line line told new text t h =
    let begins = by_told None line new h.0 (Begins line new) (λ e none same. inl (same, none)) (λ d is o. begins_asked line d is (first_line d) refl new h.0.outcome o) told t h.1 in
    answered (Begins line new) new h.0 text begins (begins_unsaid line new h.0.outcome) h.2

-- ---- over texts that are the same

module _ (edition : EditionYear) (old new : FileTexts) (same : (file : ℕ) → old file ≡ new file) where
  all_over : (Asks : Asked → Type 0) (es : List EditView) (cs : List TextChange) → StandAll Asks edition old es cs → StandAll Asks edition new es cs
  all_over Asks es cs h = (h.0, h.1, meant_over edition old new same h.0.edits es cs h.2)

  first_over : (n : ℕ) (Asks : Asked → Type 0) (es : List EditView) (cs : List TextChange) → StandFirst n Asks edition old es cs → StandFirst n Asks edition new es cs
  first_over n Asks es cs h = (h.0, h.1, all_over Asks h.0 h.1 h.2, h.3, h.4)

  stopped_over : (Asks : Asked → Type 0) (es : List EditView) (cs : List TextChange) → Stand (Err OutOfMemory) Asks edition old es cs → Stand (Err OutOfMemory) Asks edition new es cs
  stopped_over Asks es cs (inl none) = inl none
  stopped_over Asks es cs (inr h) = inr (h.0, first_over h.0 Asks es cs h.1)

  stand_over : (outcome : Outcome) (Asks : Asked → Type 0) (es : List EditView) (cs : List TextChange) → Stand outcome Asks edition old es cs → Stand outcome Asks edition new es cs
  stand_over (Ok values) Asks es cs h = all_over Asks es cs h
  stand_over (Err (Refused place cause)) Asks es cs h = first_over place Asks es cs h
  stand_over (Err OutOfMemory) Asks es cs h = stopped_over Asks es cs h
  stand_over (Err (NotJson column)) Asks es cs h = h
  stand_over (Err (NotRequest pointer)) Asks es cs h = h
  stand_over (Err (NotChanged place cause)) Asks es cs h = h
  stand_over (Err TooLong) Asks es cs h = h

stand_of_over : (count : ℕ) (edition : EditionYear) (old new : FileTexts) → ((file : ℕ) → old file ≡ new file) → (xs : List Exchange) (es : List EditView) (cs : List TextChange) → StandOf (AsksNext count) count edition old xs es cs → StandOf (AsksNext count) count edition new xs es cs
stand_of_over count edition old new same [] es cs h = h
stand_of_over count edition old new same (x ∷ xs) es cs h = (
  h.0,
  h.1,
  h.2,
  h.3,
  stand_over edition old new same x.outcome (AsksNext count x.line) h.0 h.2 h.4,
  stand_of_over count edition (text_after old h.2) (text_after new h.2) (λ file. ap (unwrap_or (last_some (left_text file) h.2)) (same file)) xs h.1 h.3 h.5,
  h.6,
  h.7,
)

-- ---- all lines

led_further : (Asks : List ℕ → Asked → Type 0) (s u : Session) (x : Exchange) (xs : List Exchange) (new : Open) → LedOn s u (Asks x.line) x.outcome → IsLedOn (AsksNext (crate_count u)) u xs new → IsLedOn Asks s (x ∷ xs) new
led_further Asks s u x xs new led rest =
    let by_count = subst (λ k. StandOf (AsksNext k) k u.edition.0 (text_in u.texts) xs rest.edits rest.changes) led.made.table.count rest.stand in
    let by_edition = subst (λ (e : EditionView). StandOf (AsksNext (crate_count s)) (crate_count s) e.0 (text_in u.texts) xs rest.edits rest.changes) led.made.edition by_count in
    let by_texts = stand_of_over (crate_count s) s.edition.0 (text_in u.texts) (text_after (text_in s.texts) led.changes) led.made.texts xs rest.edits rest.changes by_edition in
    record {
      session = rest.session;
      is_open = rest.is_open;
      edits = led.edits ++ rest.edits;
      changes = led.changes ++ rest.changes;
      made = made_join s u rest.session led.edits rest.edits led.changes rest.changes led.made rest.made;
      stand = (led.edits, rest.edits, led.changes, rest.changes, led.stand, by_texts, refl, refl);
    }

are_more : (x : Exchange) (xs : List Exchange) (lines : List (List ℕ)) (text later : List ℕ) → text ≡ x.answer ++ 10 ∷ later → AreOf lines later xs → AreOf (x.line ∷ lines) text (x ∷ xs)
are_more x xs lines text later parts are = (
  ap (λ ls. x.line ∷ ls) are.0,
  parts ∙ sym (append_assoc x.answer (10 ∷ []) later) ∙ ap (λ z. answer_of x ++ z) are.1,
)

goes_on : (s : Session) (lines : List (List ℕ)) (new : Open) (text : List ℕ) → IsServedEach Replies (Some s) lines new text → IsLedOnByAnswers s lines text new
goes_on s [] new text h = ([], (refl, h.1), record { session = s; is_open = h.0; edits = []; changes = []; made = made_none s; stand = (refl, refl) })
goes_on s (line ∷ lines) new text h =
    let a = goes_line s line h.0 h.1 h.2 h.4 h.5 in
    let rest = goes_on a.holds.0 lines new h.3 (subst (λ o. IsServedEach Replies o lines new h.3) a.holds.1 h.7) in (
      exchange_of line h.2 a ∷ rest.0,
      are_more (exchange_of line h.2 a) rest.0 lines text h.3 h.6 rest.1,
      led_further (AsksNext (crate_count s)) s a.holds.0 (exchange_of line h.2 a) rest.0 new a.holds.2 rest.2,
    )

-- behind a line that opens no session
none_more : (x : Exchange) (lines : List (List ℕ)) (text later : List ℕ) (new : Open) → text ≡ x.answer ++ 10 ∷ later → OpensNone x.outcome → IsLedByAnswers lines later new → IsLedByAnswers (x.line ∷ lines) text new
none_more x lines text later new parts none rest =
    (x ∷ rest.0, are_more x rest.0 lines text later parts rest.1, inl (none, rest.2))

-- behind the one that opens it
opened_more : (x : Exchange) (lines : List (List ℕ)) (text later : List ℕ) (next new : Open) → text ≡ x.answer ++ 10 ∷ later → (o : Opens x.line next x.outcome)
    → IsLedOnByAnswers o.3.0 lines later new
    → IsLedByAnswers (x.line ∷ lines) text new
opened_more x lines text later next new parts o rest =
    let led = led_further (AsksFirst o.0) (opened_session o.0) o.3.0 x rest.0 new o.3.2 rest.2 in
    (x ∷ rest.0, are_more x rest.0 lines text later parts rest.1, inr (record { settings = o.0; asked = o.1; opens = o.2; led = led }))

led_by_answers : (lines : List (List ℕ)) (new : Open) (text : List ℕ) → IsServedEach Replies None lines new text → IsLedByAnswers lines text new
led_by_answers [] new text h = ([], (refl, h.1), h.0)
led_by_answers (line ∷ lines) new text h =
    let a = begins_line line h.0 h.1 h.2 h.4 h.5 in
    elim a.holds as (λ _. IsLedByAnswers (line ∷ lines) text new) [
      | inl n ↦ none_more (exchange_of line h.2 a) lines text h.3 new h.6 n.1 (led_by_answers lines new h.3 (subst (λ o. IsServedEach Replies o lines new h.3) n.0 h.7))
      | inr o ↦ opened_more (exchange_of line h.2 a) lines text h.3 h.1 new h.6 o (goes_on o.3.0 lines new h.3 (subst (λ o. IsServedEach Replies o lines new h.3) o.3.1 h.7))
    ]

-- ---- what a reader gives

module _ {I : Type 0} (left : I → Option (List ℕ)) (waiting : I → List ℕ) where
  each_line : (old new : Open) (from to : Intake I) (turns : List Turn) (text : List ℕ) → IsServed line_frames session_conduct left waiting old from turns new to text → IsServedEach Replies old (messages_of turns) new text
  each_line = served_each session_conduct left waiting Replies (λ _ _ _ _ answers. answers) (λ _. refl)

  pub led_on_by_texts : (s : Session) (new : Open) (from to : Intake I) (turns : List Turn) (text : List ℕ) → IsServed line_frames session_conduct left waiting (Some s) from turns new to text → IsLedOnByAnswers s (messages_of turns) text new
  led_on_by_texts s new from to turns text served = goes_on s (messages_of turns) new text (each_line (Some s) new from to turns text served)

  pub led_by_texts : (new : Open) (from to : Intake I) (turns : List Turn) (text : List ℕ) → IsServed line_frames session_conduct left waiting None from turns new to text → IsLedByAnswers (messages_of turns) text new
  led_by_texts new from to turns text served = led_by_answers (messages_of turns) new text (each_line None new from to turns text served)
