-- Histories of a conversation, one turn after another.
use Rattle.std.proofs.Common.{◌≡◌, ℕ, List, [], ◌∷◌, ◌++◌, flat_map, map, Option, ◌+◌, length-append, refl, sym, ap, subst, ◌∙◌, append_assoc, append-nil}
use Rattle.std.proofs.KnownBytes.{Appends-nil}
use Rattle.message_stream.proofs.Common.{Appends, Appends-trans, Conduct, Frames, Intake, HasTold, IsServed, IsTurn, Turn, messages_of, rested, took}

module _ {S I : Type 0} (F : Frames) (C : Conduct S) (left : I → Option (List ℕ)) (waiting : I → List ℕ) where
  -- one turn more
  served_more : (old mid new : S) (from at to : Intake I) (turns : List Turn) (turn : Turn) (text : List ℕ) (texts : List (List ℕ))
      → IsServed F C left waiting old from turns mid at text → IsTurn F C left waiting turn mid new at to texts
      → IsServed F C left waiting old from (turns ++ turn ∷ []) new to (text ++ flat_map F.framed texts)
  served_more old mid new from at to [] turn text texts (same, there, none) step = (
    new,
    to,
    texts,
    [],
    subst (λ s. IsTurn F C left waiting turn s new from to texts) same (subst (λ i. IsTurn F C left waiting turn mid new i to texts) there step),
    ap (λ l. l ++ flat_map F.framed texts) none ∙ sym (append-nil (flat_map F.framed texts)),
    (refl, refl, refl),
  )
  served_more old mid new from at to (first ∷ turns) turn text texts served step =
      let (next, mark, said, later, begins, whole, others) = served in (
        next,
        mark,
        said,
        later ++ flat_map F.framed texts,
        begins,
        ap (λ l. l ++ flat_map F.framed texts) whole ∙ append_assoc (flat_map F.framed said) later (flat_map F.framed texts),
        served_more next mid new mark at to turns turn later texts others step,
      )

  pub none_told : (old : S) (from : Intake I) (held : Option (List ℕ)) → HasTold F C left waiting 0 old old from from held held
  none_told old from held = ([], [], refl, (refl, refl, refl), Appends-nil held)

  pub told_more : (count : ℕ) (old mid new : S) (from at to : Intake I) (held holding holds : Option (List ℕ)) (turn : Turn) (texts : List (List ℕ)) → HasTold F C left waiting count old mid from at held holding
      → IsTurn F C left waiting turn mid new at to texts → Appends holding holds (flat_map F.framed texts) → HasTold F C left waiting (count + 1) old new from to held holds
  told_more count old mid new from at to held holding holds turn texts (turns, text, long, served, written) step wrote = (
    turns ++ turn ∷ [],
    text ++ flat_map F.framed texts,
    length-append turns (turn ∷ []) ∙ ap (λ n. n + 1) long,
    served_more old mid new from at to turns turn text texts served step,
    Appends-trans held holding holds text (flat_map F.framed texts) written wrote,
  )

-- their messages
pub messages_took : (messages : List (List ℕ)) → messages_of (map took messages) ≡ messages
messages_took [] = refl
messages_took (message ∷ messages) = ap (λ l. message ∷ l) (messages_took messages)

pub messages_join : (first more : List Turn) → messages_of (first ++ more) ≡ messages_of first ++ messages_of more
messages_join [] more = refl
messages_join (took message ∷ first) more = ap (λ l. message ∷ l) (messages_join first more)
messages_join (rested ∷ first) more = messages_join first more
