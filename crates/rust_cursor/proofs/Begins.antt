-- Where no item begins.
use Rattle.std.proofs.Common.{◌≡◌, ◌≢◌, ◌==◌, ◌&&◌, ◌||◌, ℕ, Bool, true, false, List, refl, sym, ap, ◌∙◌, arith, if◌then◌else◌, codes, bytes_eq}
use Rattle.rust_cursor.proofs.Common.{false_from_ne_true, nat_tests, bytes_eq-Decides, Before, Nest, Tokens, symbol, word, is_at_doc, begins, begins_behind, begins_const, begins_impl_or_const, begins_item, begins_within, documents_item, leads_item}
use Rattle.rust_cursor.specs.declared.cursor.nest.Before.TheVariants as befores

no_mark : (c : ℕ) → c ≢ 35 → (c == 35) ≡ false
no_mark c h = grind (arith, nat_tests)

-- a word with none of the lengths and bytes is none of the words
other_word : (w k : List ℕ) → leads_item w ≡ false → leads_item k ≡ true → bytes_eq w k ≡ false
other_word w k e h =
    false_from_ne_true (bytes_eq w k) (λ is. let both : false ≡ true = sym e ∙ ap leads_item ((bytes_eq-Decides w k).0 is) ∙ h in absurd cc)

pub no_item : (ts : Tokens) → leads_item (word ts) ≡ false → begins_item ts ≡ false
unfolding begins_item
no_item ts e =
    let none : (k : List ℕ) → leads_item k ≡ true → bytes_eq (word ts) k ≡ false = λ k h. other_word (word ts) k e h in
    rw (none (codes "pub") refl, none (codes "mod") refl, none (codes "struct") refl, none (codes "enum") refl, none (codes "trait") refl)
    (rw (none (codes "use") refl, none (codes "fn") refl, none (codes "static") refl, none (codes "type") refl)
    (rw (none (codes "macro") refl, none (codes "union") refl, none (codes "macro_rules") refl, none (codes "extern") refl) refl))

no_impl : (ts : Tokens) → leads_item (word ts) ≡ false → begins_impl_or_const ts ≡ false
unfolding begins_impl_or_const
no_impl ts e =
    let none : (k : List ℕ) → leads_item k ≡ true → bytes_eq (word ts) k ≡ false = λ k h. other_word (word ts) k e h in
    rw (none (codes "impl") refl, none (codes "unsafe") refl, none (codes "const") refl) refl

no_behind : (before : Before) (ts : Tokens) → leads_item (word ts) ≡ false → (symbol ts == 35) ≡ false → begins_behind before ts ≡ false
no_behind befores.End ts e h = rw h (no_impl ts e)
no_behind befores.Block ts e h = rw h (no_impl ts e)
no_behind befores.Angle ts e h = no_impl ts e
no_behind _ ts e h = refl

no_within : (ts : Tokens) → leads_item (word ts) ≡ false → begins_within ts ≡ false
unfolding begins_within
no_within ts e =
    let none : (k : List ℕ) → leads_item k ≡ true → bytes_eq (word ts) k ≡ false = λ k h. other_word (word ts) k e h in
    rw (none (codes "pub") refl, none (codes "use") refl) (no_item ts e)

neither : (flat free item behind told named within : Bool) → item ≡ false → behind ≡ false → told ≡ false → named ≡ false → within ≡ false
    → (if flat then item || (behind || (told || named)) else free && within) ≡ false
neither true free item behind told named within i b d c w = rw (i, b, d, c) refl
neither false true item behind told named within i b d c w = w
neither false false item behind told named within i b d c w = refl

no_doc : (nest : Nest) (ts : Tokens) → is_at_doc ts ≡ false → documents_item nest ts ≡ false
no_doc nest ts e = rw e refl

no_const : (nest : Nest) (ts : Tokens) → leads_item (word ts) ≡ false → begins_const nest ts ≡ false
no_const nest ts e = rw (other_word (word ts) (codes "const") e refl) refl

-- a token begins none that is neither a `#`, documentation, nor a word with one of these lengths and bytes
pub none_leads : (nest : Nest) (ts : Tokens) → leads_item (word ts) ≡ false → symbol ts ≢ 35 → is_at_doc ts ≡ false → false ≡ begins nest ts
none_leads nest ts e h d =
    sym (neither (nest.others == 0) (nest.free == 0) (begins_item ts) (begins_behind nest.before ts) (documents_item nest ts) (begins_const nest ts) (begins_within ts) (no_item ts e) (no_behind nest.before ts e (no_mark (symbol ts) h)) (no_doc nest ts d) (no_const nest ts e) (no_within ts e))
