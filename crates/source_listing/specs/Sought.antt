-- How a path of names that is looked for is written.
use Rattle.std.specs.Prelude.{ℕ, Bool, true, false, ◌==◌, ◌&&◌, not, nat_eq, if◌then◌else◌, List, [], ◌∷◌, ◌++◌, codes, length, drop, Option, Some, None, option_and_then, option_map, unwrap_or}
use Rattle.std.specs.List.{slice_split, starts_with}
use Rattle.std.specs.Option.{option_or}
use Rattle.rust_lexer.specs.Identifier.{is_identifier}
use Rattle.rust_paths.specs.Names.{is_path_keyword}
use Rattle.source_listing.specs.Paths.{bare_segment}

-- a path that is looked for: names with two colons before each, from the top on or anywhere
pub record Sought : Type 0 where
  pub path : List ℕ
  pub is_anywhere : Bool

abbrev pub sought_from : Bool → List ℕ → Sought
sought_from is_anywhere path = record { path = path; is_anywhere = is_anywhere }

-- what stands in a text behind these bytes
abbrev pub text_behind : List ℕ → List ℕ → Option (List ℕ)
text_behind front text = if starts_with nat_eq text front then Some (drop (length front) text) else None

-- a word without `r#`
abbrev pub without_raw : List ℕ → List ℕ
without_raw word = unwrap_or (text_behind (codes "r#") word) word

-- an identifier that something can be called
abbrev pub can_be_name : List ℕ → Bool
can_be_name word = is_identifier word && not (is_path_keyword word)

-- the name that a word is, also with `r#`
abbrev pub sought_name : List ℕ → Option (List ℕ)
sought_name word = if can_be_name (without_raw word) then Some (without_raw word) else None

-- the same of a word before a colon, if there is nothing between that and the next colon
abbrev pub name_before : List ℕ → List ℕ → Option (List ℕ)
name_before gap word = if length gap == 0 then sought_name word else None

-- names with two colons before each, and a word behind them
pub record Split : Type 0 where
  pub scope : List ℕ
  pub last : List ℕ

abbrev pub split_at : List ℕ → List ℕ → Split
split_at scope last = record { scope = scope; last = last }

-- a name in front of others
abbrev pub in_front : Option (List ℕ) → Option Split → Option Split
in_front None names = None
in_front (Some name) names = option_map (λ s. split_at (bare_segment name ++ s.scope) s.last) names

-- the names that stand between colons, two after each but the last word, which may be any
abbrev pub split_names : List (List ℕ) → Option Split
split_names [] = None
split_names (word ∷ []) = Some (split_at [] word)
split_names (word ∷ gap ∷ words) = in_front (name_before gap word) (split_names words)

-- the path of names, if the last word is one
abbrev pub whole_path : Split → Option (List ℕ)
whole_path s = option_map (λ name. s.scope ++ bare_segment name) (sought_name s.last)

abbrev pub split_text : List ℕ → Option Split
split_text text = split_names (slice_split (λ b. b == 58) text)

abbrev pub sought_names : List ℕ → Option (List ℕ)
sought_names text = option_and_then whole_path (split_text text)

-- what stands behind `::` or `crate::`, with which a path from the top begins
abbrev pub behind_top : List ℕ → Option (List ℕ)
behind_top text = option_or (text_behind (codes "::") text) (text_behind (codes "crate::") text)

abbrev pub sought_by : Option (List ℕ) → List ℕ → Option Sought
sought_by None text = option_map (sought_from true) (sought_names text)
sought_by (Some names) text = option_map (sought_from false) (sought_names names)

-- the path that a text is, if it is one
abbrev pub sought_path : List ℕ → Option Sought
sought_path text = sought_by (behind_top text) text
