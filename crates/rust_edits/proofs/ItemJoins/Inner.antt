-- What is read where no attribute, no visibility and no modifier stands in front.
use Rattle.std.proofs.Common.{◌≡◌, true, false, Option, None, [], codes, refl, ap, ◌∙◌}
use Rattle.rust_edits.proofs.Common.{bytes_eq, Visibility, Head, Outer, Inner, most_tokens, turns, turns_from, one, Tokens, word, at, visibility, is_behind, attribute, attributes, outer_attributes, inner_attributes, FrontRead, front, front_behind, front_words, modifier, modifiers, head, turns_stop}
use Rattle.rust_leaves.proofs.Steps.{modifiers_stop}
use Rattle.rust_cursor.specs.Grammar.{reads}
use Rattle.rust_cursor.specs.Looks.{sees}

-- an item with nothing in front of its head
abbrev pub bare_front : Tokens → Head × Tokens → FrontRead × Tokens
bare_front us h = (record { start = at us; attrs = []; visibility = None; head = h.0 }, h.1)

-- the words that begin an item, behind a visibility
abbrev words_behind : Option Visibility → Tokens → (Option Visibility × Head) × Tokens
words_behind v ts = ((v, (reads head ts).0), (reads head ts).1)

words_are : (us : Tokens) → reads front_words us ≡ words_behind (reads visibility us).0 (reads modifiers (reads visibility us).1).1
unfolding front_words
words_are us = refl

no_visibility : (us : Tokens) → bytes_eq (word us) (codes "pub") ≡ false → reads visibility us ≡ (None, us)
unfolding visibility
no_visibility us p = rw p refl

no_modifiers : (us : Tokens) → sees modifier us ≡ false → (reads modifiers us).1 ≡ us
unfolding modifiers
no_modifiers us m = modifiers_stop most_tokens us m

words_bare : (us : Tokens) → bytes_eq (word us) (codes "pub") ≡ false → sees modifier us ≡ false → reads front_words us ≡ words_behind None us
words_bare us p m = words_are us ∙ ap (λ r. words_behind r.0 (reads modifiers r.1).1) (no_visibility us p) ∙ ap (words_behind None) (no_modifiers us m)

pub front_bare : (us : Tokens) → sees (is_behind Outer) us ≡ true → bytes_eq (word us) (codes "pub") ≡ false → sees modifier us ≡ false → front us ≡ bare_front us (reads head us)
unfolding front front_behind outer_attributes attributes turns
front_bare us o p m =
    let stop : turns_from (sees (is_behind Outer)) (one (attribute Outer)) most_tokens [] us ≡ ([], us) = turns_stop (sees (is_behind Outer)) (one (attribute Outer)) most_tokens [] us o in
    rw (stop, words_bare us p m) refl

-- where none begins, there are no inner attributes
pub no_inner : (us : Tokens) → sees (is_behind Inner) us ≡ true → inner_attributes us ≡ ([], us)
unfolding inner_attributes attributes turns
no_inner us e = turns_stop (sees (is_behind Inner)) (one (attribute Inner)) most_tokens [] us e
