-- How what `find` looks for is written: names, of which the last may be a glob.
use Rattle.std.specs.Prelude.{ℕ, Bool, true, false, ◌==◌, ◌||◌, if◌then◌else◌, List, codes, Option, Some, None, option_and_then, option_map, chars, encode_utf8, encode_utf8_all, flat_map}
use Rattle.caseless.specs.Caseless.{default_case_fold}
use Rattle.source_listing.specs.Sought.{Split, behind_top, can_be_name, split_text, without_raw}

-- what is looked for: names with two colons before each, and a glob of the last name; from the top on or anywhere
pub record Pattern : Type 0 where
  pub scope : List ℕ
  pub name : List ℕ
  pub is_anywhere : Bool

-- a text as it is compared: folded, where letters of two cases are one
abbrev pub as_compared : Bool → List ℕ → List ℕ
as_compared ignores_case text = if ignores_case then encode_utf8_all (default_case_fold (chars text)) else text

-- a letter for a star and for a question mark
abbrev pub letter_for : ℕ → List ℕ
letter_for c = if c == 42 || c == 63 then codes "_" else encode_utf8 c

abbrev pub with_letters : List ℕ → List ℕ
with_letters word = flat_map letter_for (chars word)

-- the glob that a word is, also with `r#`: what is a name with a letter for each mark
abbrev pub name_glob : List ℕ → Option (List ℕ)
name_glob word = if can_be_name (with_letters (without_raw word)) then Some (without_raw word) else None

abbrev pub pattern_from : Bool → Bool → List ℕ → List ℕ → Pattern
pattern_from ignores_case is_anywhere scope name =
    record { scope = as_compared ignores_case scope; name = as_compared ignores_case name; is_anywhere = is_anywhere }

abbrev pub split_pattern : Bool → Bool → Split → Option Pattern
split_pattern ignores_case is_anywhere s = option_map (pattern_from ignores_case is_anywhere s.scope) (name_glob s.last)

abbrev pub pattern_in : Bool → Bool → List ℕ → Option Pattern
pattern_in ignores_case is_anywhere names = option_and_then (split_pattern ignores_case is_anywhere) (split_text names)

abbrev pub pattern_by : Bool → Option (List ℕ) → List ℕ → Option Pattern
pattern_by ignores_case None text = pattern_in ignores_case true text
pattern_by ignores_case (Some names) text = pattern_in ignores_case false names

-- what a text looks for, if it can be looked for
abbrev pub pattern : Bool → List ℕ → Option Pattern
pattern ignores_case text = pattern_by ignores_case (behind_top text) text
