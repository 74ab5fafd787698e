-- Texts without carriage returns at the ends of lines.
use Rattle.std.proofs.Common.{◌≡◌, ℕ, List, ◌∷◌, ◌++◌, length, sym, ap, ◌∙◌, subst, arith}
use Rattle.rust_items.specs.LineEnds.{with_feeds}
use Rattle.rust_items.proofs.LineEnds.{returns_count}
use Rattle.rust_edits.specs.Typing.Laws.{with_body}
use Rattle.rust_edits.proofs.ToldEdits.{back_alike, front_alike, tail_alike}
use Rattle.rust_edits.proofs.Typing.Returns.{body_length, feeds_body}
use Rattle.source_changes.specs.Typing.{AreBraces, StandWithoutReturns}

-- none is in the parts
record NoReturns (q m s : List ℕ) : Type 0 where
  front : with_feeds q ≡ q
  inside : with_feeds m ≡ m
  behind : with_feeds s ≡ s

no_returns : (q m s : List ℕ) → with_feeds (with_body q m s) ≡ with_body q m s → NoReturns q m s
no_returns q m s e =
    let whole : with_body (with_feeds q) (with_feeds m) (with_feeds s) ≡ with_body q m s = sym (feeds_body q m s) ∙ e in
    let sizes = body_length (with_feeds q) (with_feeds m) (with_feeds s) in
    let sizes' = body_length q m s in
    let same : length (with_body (with_feeds q) (with_feeds m) (with_feeds s)) ≡ length (with_body q m s) = ap length whole in
    let first = returns_count 0 q in
    let second = returns_count 0 m in
    let third = returns_count 0 s in
    let long : length (with_feeds q) ≡ length q = omega arith in
    let long' : length (with_feeds m) ≡ length m = omega arith in
    let rest = tail_alike 123 (with_feeds m ++ 125 ∷ with_feeds s) (m ++ 125 ∷ s) (back_alike (with_feeds q) (123 ∷ (with_feeds m ++ 125 ∷ with_feeds s)) q (123 ∷ (m ++ 125 ∷ s)) long whole) in
    record {
      front = front_alike (with_feeds q) (123 ∷ (with_feeds m ++ 125 ∷ with_feeds s)) q (123 ∷ (m ++ 125 ∷ s)) long whole;
      inside = front_alike (with_feeds m) (125 ∷ with_feeds s) m (125 ∷ s) long' rest;
      behind = tail_alike 125 (with_feeds s) s (back_alike (with_feeds m) (125 ∷ with_feeds s) m (125 ∷ s) long' rest);
    }

pub stand_without_returns : StandWithoutReturns
stand_without_returns edition q m m' s e f t =
    let old = no_returns q m s e in
    let new = no_returns q m' s f in
    let there : AreBraces (with_feeds q) (with_feeds m) (with_feeds m') (with_feeds s) = record { opens = t.opens; alone = t.alone; alone_new = t.alone_new } in
    subst (λ q. AreBraces q m m' s) old.front
    (subst (λ m. AreBraces (with_feeds q) m m' s) old.inside
    (subst (λ m'. AreBraces (with_feeds q) (with_feeds m) m' s) new.inside
    (subst (AreBraces (with_feeds q) (with_feeds m) (with_feeds m')) old.behind there)))
