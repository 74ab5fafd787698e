-- Conditions of `cfg` and `cfg_attr`.
use Rattle.std.specs.Prelude.{◌≡◌, refl, ℕ, zero, suc, Bool, true, false, ◌||◌, if◌then◌else◌, Option, Some, None, List, [], ◌∷◌, codes, bytes_eq}
use Rattle.rust_lexer.specs.declared.kind.TokenKind.{TokenKind}
use Rattle.rust_lexer.specs.declared.kind.TokenKind.TheVariants as kinds
use Rattle.hir_input.specs.Cfg.{CfgView, invalid, atom, all_of, any_of, not_of, cfgs_from, flag_atom, key_value}
use Rattle.rust_cursor.specs.Looks.{Lookahead, at_end, at_open, kind_is, may_skip, symbol_is, token_is}
use Rattle.rust_cursor.specs.Grammar.{inside, Grammar, from_outside, gives, in_bracket, on_seen, reads_as, repeats, shows, takes_any, ◌>>=◌}
use Rattle.rust_cursor.specs.Nests.{is_literal_kind}
use Rattle.rust_paths.specs.Names.{as_name, name}
use Rattle.rust_paths.specs.UseTrees.{comma}
use Rattle.rust_metas.specs.Literals.{string_by, is_ended, ended_skipped}

-- ---- conditions

abbrev pub is_word_kind : Option TokenKind → Bool
is_word_kind (Some kinds.Ident) = true
is_word_kind _ = false

-- An option's name comes next as it is written: any word but `_`, keywords too. `r#true` and `r#false` keep their `r#`, since they name
-- options and are not `true` and `false`.
unfoldable pub is_option_word : Lookahead
is_option_word = token_is (λ y k z.
    if bytes_eq z (codes "_") then false
    else (if bytes_eq z (codes "r#true") || bytes_eq z (codes "r#false") then true else is_word_kind k))

pub option_word_short : may_skip is_option_word 0 ≡ true
unfolding is_option_word
option_word_short = refl

-- a word, or another identifier
unfoldable pub option_name : Grammar inside (Option (List ℕ))
option_name = do
  written ← shows (λ y k z. as_name (Some z))
  on_seen is_option_word 0 option_word_short (reads_as (λ _. written) takes_any) (from_outside name)

-- ConfigurationNot has one condition
abbrev pub not_from : List CfgView → CfgView
not_from (c ∷ []) = not_of c
not_from _ = invalid

-- ConfigurationAll, ConfigurationAny and ConfigurationNot
unfoldable pub composed_condition : List ℕ → Option (List CfgView) → CfgView
composed_condition word None = invalid
composed_condition word (Some conditions) =
    if bytes_eq word (codes "all") then all_of (cfgs_from conditions)
    else (if bytes_eq word (codes "any") then any_of (cfgs_from conditions)
    else (if bytes_eq word (codes "not") then not_from conditions else invalid))

abbrev pub pair_from : List ℕ → Option (List ℕ) → CfgView
pair_from key None = invalid
pair_from key (Some value) = atom (key_value key value)

-- ConfigurationOption with a value, behind its `=`
unfoldable pub pair : List ℕ → Grammar inside CfgView
pair key = do
  value ← shows (λ y k z. string_by k z)
  on_seen (kind_is is_literal_kind) 1 refl (gives (pair_from key value)) (gives invalid)

-- a word with conditions in a bracket, one with a value, or alone
abbrev pub named_condition : Grammar inside (Option (List CfgView)) → List ℕ → Grammar inside CfgView
named_condition conditions word =
    on_seen at_open 0 refl (reads_as (composed_condition word) (in_bracket conditions)) (on_seen (symbol_is 61) 1 refl (pair word) (gives (atom (flag_atom word))))

abbrev pub if_named : Grammar inside (Option (List CfgView)) → Option (List ℕ) → Grammar inside CfgView
if_named conditions None = gives invalid
if_named conditions (Some word) = named_condition conditions word

-- a condition up to a comma; with more behind it, it is none
unfoldable pub ended_condition : CfgView → Grammar inside CfgView
ended_condition c = on_seen is_ended 0 ended_skipped (reads_as (λ _. c) (from_outside comma)) (reads_as (λ _. invalid) (from_outside comma))

-- ConfigurationPredicate and the comma behind it, by what reads those inside
abbrev pub condition_with : Grammar inside (Option (List CfgView)) → Grammar inside CfgView
condition_with conditions = do
  word ← option_name
  c ← if_named conditions word
  ended_condition c

-- Conditions up to a bracket that closes. The number bounds how deep they stand in one another; deeper ones are not read.
unfoldable pub conditions : ℕ → Grammar inside (Option (List CfgView))
conditions zero = gives None
conditions (suc depth) = reads_as Some (repeats at_end refl (condition_with (conditions depth)))

unfoldable pub condition : ℕ → Grammar inside CfgView
condition depth = condition_with (conditions depth)
