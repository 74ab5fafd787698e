-- The data of a path of a kind.
use Rattle.std.proofs.Common.{◌≡◌, ◌<◌, ℕ, List, [], ◌∷◌, length, Option, Some, None, option_and_then, codes, refl, arith}
use Rattle.serde_json.specs.Data.{Data, Items}
use Rattle.hir_input_json.proofs.Writing.Common.{Plain, word_and_names, kind_data, each_data, led_items, name_data}
use Rattle.hir_input_json.proofs.Writing.Lists.{lists}

plain_by : (n : Option Data) (ns : Option Items)
    → option_and_then (kind_data Plain) (led_items n ns)
    ≡ option_and_then (word_and_names (codes "plain") None) (led_items n ns)
plain_by None ns = refl
plain_by (Some d) None = refl
plain_by (Some d) (Some ds) = refl

-- a plain path, which has a name
pub plain_names : (names : List (List ℕ)) → 0 < length names → option_and_then (kind_data Plain) (each_data name_data names) ≡ option_and_then (word_and_names (codes "plain") None) (each_data name_data names)
plain_names [] h = absurd (omega (arith, h))
plain_names (n ∷ ns) h = plain_by (name_data n) (each_data name_data ns)

-- names behind a word and a number
pub ruleset names_joined = (lists)
