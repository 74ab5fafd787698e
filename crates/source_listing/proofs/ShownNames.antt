-- Names behind blanks, and those that no reserved word is.
use Rattle.std.proofs.Common.{◌≡◌, ◌++◌, codes, append_assoc, ℕ, true, false, IsTrue, nat_eq, List, [], ◌∷◌, refl, sym, ap, ◌∙◌, subst}
use Rattle.std.specs.Cmp.Lexicographic.{pointwise, pointwise_decides}
use Rattle.std.specs.List.{list_all}
use Rattle.std.proofs.lemmas.Bool.Decides.{Decides-eqb}
use Rattle.hir_input.specs.Name.{is_among, shown_name}
use Rattle.rust_lexer.proofs.Cases.{when}
use Rattle.rust_paths.specs.Names.{may_be_keyword}

none_among : (words : List (List ℕ)) (name : List ℕ) → list_all may_be_keyword words ≡ true → may_be_keyword name ≡ false → is_among words name ≡ false
none_among [] name all e = refl
none_among (w ∷ ws) name all e =
    when (may_be_keyword w)
    (λ k. let rest : is_among ws name ≡ false = none_among ws name (rw k at all) e in
    when (pointwise nat_eq w name)
    (λ s. let same = (pointwise_decides Decides-eqb w name).0 s in
    let both : true ≡ false = sym k ∙ ap may_be_keyword same ∙ e in absurd cc)
    (λ s. rw (s, rest) refl))
    (λ k. let none : false ≡ true = rw k at all in absurd cc)

-- each of some words may be a keyword, and the name may not
pub shown_bare : (words : List (List ℕ)) (name : List ℕ) → IsTrue (list_all may_be_keyword words) → may_be_keyword name ≡ false → shown_name words name ≡ name
shown_bare words name all e = when (list_all may_be_keyword words) (λ t. rw (none_among words name t e) refl) (λ t. let no : false ≡ true = subst IsTrue t all in absurd cc)

pub name_pushed : (out blank named shown : List ℕ) → blank ≡ out ++ codes " " → named ≡ blank ++ shown → named ≡ out ++ (codes " " ++ shown)
name_pushed out blank named shown b n = n ∙ ap (λ l. l ++ shown) b ∙ append_assoc out (codes " ") shown
