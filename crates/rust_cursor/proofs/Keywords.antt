-- What a test tells of words that are among those that pass it.
use Rattle.std.proofs.Common.{◌≡◌, ℕ, Bool, false, List, [], ◌∷◌, refl, sym, ap, ◌∙◌, codes, bytes_eq}
use Rattle.std.specs.List.{filter, list_any}
use Rattle.std.proofs.lemmas.Map.Views.{any-filter_same}
use Rattle.rust_cursor.proofs.Common.{bytes_eq-Decides, leads_on, may_lead_on}

-- a word that does not pass a test is none of those that do
pub none_passed : (test : List ℕ → Bool) (w : List ℕ) (ks : List (List ℕ)) → test w ≡ false → list_any (bytes_eq w) (filter test ks) ≡ false
none_passed test w ks e = any-filter_same (bytes_eq w) test (test w) (λ k same. ap test (sym ((bytes_eq-Decides w k).0 same))) ks ∙ rw e refl

abbrev leading : List (List ℕ)
leading =
    codes "for" ∷ codes "mut" ∷ codes "where" ∷ codes "const" ∷ codes "impl" ∷ codes "fn" ∷ codes "dyn" ∷ codes "as" ∷ codes "unsafe" ∷
    codes "pub" ∷ codes "async" ∷ codes "break" ∷ codes "continue" ∷ codes "else" ∷ codes "enum" ∷ codes "extern" ∷ codes "if" ∷
    codes "in" ∷ codes "let" ∷ codes "loop" ∷ codes "match" ∷ codes "mod" ∷ codes "move" ∷ codes "ref" ∷ codes "return" ∷
    codes "static" ∷ codes "struct" ∷ codes "trait" ∷ codes "type" ∷ codes "use" ∷ codes "while" ∷ codes "yield" ∷ []

pub leads_none : (w : List ℕ) → may_lead_on w ≡ false → false ≡ leads_on w
unfolding leads_on
leads_none w e = sym (none_passed may_lead_on w leading e)
