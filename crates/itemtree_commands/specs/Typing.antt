-- Texts that differ in what is typed inside a body.
use Rattle.std.specs.Prelude.{◌≡◌, ℕ, Bool, List, IsTrue}
use Rattle.hir_input.specs.declared.edition.EditionYear.{EditionYear}
use Rattle.rust_items.specs.LineEnds.{with_feeds}
use Rattle.rust_edits.specs.Typing.Laws.{with_body, IsTyped}

-- the answer is yes, where what stands in a body was typed anew
abbrev pub IsSameInBody : EditionYear → List ℕ → List ℕ → Bool → Type 0
IsSameInBody edition old new same = (q m m' s : List ℕ) → with_feeds old ≡ with_body q m s → with_feeds new ≡ with_body q m' s → IsTyped edition q m m' s → IsTrue same
