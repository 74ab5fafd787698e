-- The names of unseen_other crates, one list behind the unseen_other.
use Rattle.std.proofs.Common.{◌≡◌, ℕ, List, [], ◌++◌, map, ap, ◌∙◌, append_assoc}
use Rattle.std.proofs.lemmas.List.{map-append}
use Rattle.def_map.specs.declared.rows.ItemKey.{ItemKey}
use Rattle.def_map.specs.Crates.{Thing}
use Rattle.def_map.specs.Inner.Walking.{unseen_other}

abbrev Others : Type 0
Others = List (List ℕ × Thing ItemKey)

-- a list behind those that are there
abbrev behind : List (List ℕ) → Others → Others
behind names v = v ++ map unseen_other names

pub gathered : (a b c d e : List (List ℕ)) (v0 v1 v2 v3 v4 v5 : Others) → v0 ≡ [] → v1 ≡ v0 ++ map unseen_other a → v2 ≡ v1 ++ map unseen_other b → v3 ≡ v2 ++ map unseen_other c → v4 ≡ v3 ++ map unseen_other d → v5 ≡ v4 ++ map unseen_other e
    → v5 ≡ map unseen_other (a ++ b ++ c ++ d ++ e)
gathered a b c d e v0 v1 v2 v3 v4 v5 e0 e1 e2 e3 e4 e5 =
    e5 ∙ ap (behind e) (e4 ∙ ap (behind d) (e3 ∙ ap (behind c) (e2 ∙ ap (behind b) (e1 ∙ ap (behind a) e0)))) ∙ joined
  where
    joined : behind e (behind d (behind c (behind b (behind a [])))) ≡ map unseen_other (a ++ b ++ c ++ d ++ e)
    joined = simp (append_assoc, map-append)
