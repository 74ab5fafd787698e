use Rattle.item_tree_request.proofs.Common.{Consumes-trans, Consumes}
use Rattle.std.proofs.Common.{◌≡◌, ◌<◌, ℕ, List, ◌++◌, arith, rules, ap, ◌∙◌, subst, append-nil, length, take, Option}
use Rattle.item_tree_request.proofs.stream.read_to_end.Goals as goal

-- a read of no byte
Consumes-none : (old new : Option (List ℕ)) (bytes room : List ℕ) (n : ℕ) → n ≡ 0 → Consumes old new (bytes ++ take n room) → Consumes old new bytes
Consumes-none old new bytes room n e h = subst (λ l. Consumes old new l) (ap (λ m. bytes ++ take m room) e ∙ append-nil bytes) h

pub returns-in-Ok-eq0-clause-ok : goal.returns-in-Ok-eq0-clause-ok
returns-in-Ok-eq0-clause-ok g c =
    let more = Consumes-trans _ _ _ _ _ c.loop-reads.invariant.read c.in-Ok-eq0.ensures.bytes.0 in
    let room : 0 < length c.read.new.buf = search rules in
    let few = c.loop-reads.invariant.few in
    (Consumes-none _ _ _ _ _ c.in-Ok-eq0.field-0-test more, c.in-Ok-eq0.ensures.bytes.1 c.in-Ok-eq0.field-0-test room, omega arith)
