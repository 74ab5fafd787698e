-- Raw names, and names of all editions.
use Rattle.std.proofs.Common.{◌≡◌, ◌≢◌, ◌==◌, ℕ, List, [], ◌∷◌, Bool, true, false, Bor, MatchOption, Option, Some, None, option_map, if◌then◌else◌, refl, sym, arith, bytes_eq}
use Rattle.std.specs.List.{list_any}
use Rattle.rust_paths.proofs.Common.{nat_tests, EditionYear, keywords, keywords_since_2018, keywords_since_2024, is_since_2018, is_since_2024, may_be_keyword, may_be_path_keyword, is_keyword, is_path_keyword, path_keywords, is_underscore, plain_name, behind_hash, name_text, as_name, by_identifier, identifier_name, TokenKind}
use Rattle.hir_input.specs.declared.edition.EditionYear.TheVariants as year
use Rattle.rust_lexer.specs.declared.kind.TokenKind.TheVariants as kinds
use Rattle.rust_cursor.proofs.Keywords.{none_passed}

-- a text without `r` in front
pub hash_no_r : (text : List ℕ) → ((rest : List ℕ) → text ≢ 114 ∷ rest) → behind_hash text ≡ None
hash_no_r [] h = refl
hash_no_r (b ∷ []) h = refl
hash_no_r (b ∷ c ∷ bs) h = let other : (b == 114) ≡ false = grind (arith, nat_tests, h (c ∷ bs)) in rw other refl

-- a text without `#` behind `r`
hash_no_hash : (text rest : List ℕ) → text ≡ 114 ∷ rest → ((word : List ℕ) → rest ≢ 35 ∷ word) → behind_hash text ≡ None
hash_no_hash text [] e h = rw e refl
hash_no_hash text (c ∷ bs) e h = let other : (c == 35) ≡ false = grind (arith, nat_tests, h bs) in rw (e, other) refl

-- what stands behind both
pub hash_then : (text rest : List ℕ) (r : Option (Bor (List ℕ))) → text ≡ 114 ∷ rest → MatchOption r ((word : List ℕ) → rest ≢ 35 ∷ word) (λ x. rest ≡ 35 ∷ x.now) → option_map (λ w. w.now) r ≡ behind_hash text
hash_then text rest None e h = sym (hash_no_hash text rest e h)
hash_then text rest (Some x) e h = rw (e, h) refl

-- ---- keywords

pub no_keyword : (edition : EditionYear) (w : List ℕ) → may_be_keyword w ≡ false → is_keyword edition w ≡ false
unfolding is_keyword
no_keyword edition w e =
    let always : list_any (bytes_eq w) keywords ≡ false = none_passed may_be_keyword w keywords e in
    let since_2018 : list_any (bytes_eq w) keywords_since_2018 ≡ false = none_passed may_be_keyword w keywords_since_2018 e in
    let since_2024 : list_any (bytes_eq w) keywords_since_2024 ≡ false = none_passed may_be_keyword w keywords_since_2024 e in
    rw (always, since_2018, since_2024) refl

pub no_path_keyword : (w : List ℕ) → may_be_path_keyword w ≡ false → false ≡ is_path_keyword w
unfolding is_path_keyword
no_path_keyword w e = sym (none_passed may_be_path_keyword w path_keywords e)

-- ---- editions

named_in : (always since_2018 since_2024 : Bool) (edition : EditionYear) (name : Option (List ℕ)) (n : List ℕ)
    → (if (if always then true else (if since_2018 then is_since_2018 year.E2024 else (if since_2024 then is_since_2024 year.E2024 else false))) then None else name) ≡ Some n
    → (if (if always then true else (if since_2018 then is_since_2018 edition else (if since_2024 then is_since_2024 edition else false))) then None else name) ≡ Some n
named_in true since_2018 since_2024 edition name n e = absurd cc
named_in false true since_2024 edition name n e = absurd cc
named_in false false true edition name n e = absurd cc
named_in false false false edition name n e = e

-- what is a name in the last edition is one in each
pub name_in : (edition : EditionYear) (n : List ℕ) → plain_name year.E2024 n ≡ Some n → plain_name edition n ≡ Some n
unfolding plain_name is_keyword
name_in edition n e =
    named_in (list_any (bytes_eq n) keywords) (list_any (bytes_eq n) keywords_since_2018) (list_any (bytes_eq n) keywords_since_2024) edition
    (if is_path_keyword n then None else (if is_underscore n then None else Some n)) n e

-- a name, by the kind of its token
pub by_kind : (y : EditionYear) (k : Option TokenKind) (z : List ℕ) → as_name (name_text y k z) ≡ by_identifier identifier_name y k z
by_kind y None z = refl
by_kind y (Some kinds.Ident) z = refl
by_kind y (Some kinds.RawIdent) z = refl
by_kind y (Some _) z = refl
