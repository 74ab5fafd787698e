-- Attributes stay in the brackets that they stand in.
use Rattle.std.proofs.Common.{◌≡◌, ◌==◌, ◌||◌, ◌&&◌, ℕ, zero, suc, Bool, true, false, Option, Some, None, List, [], ◌∷◌, refl, sym, ◌∙◌, subst, codes, if◌then◌else◌, not, slice_index, bytes_eq}
use Rattle.rust_metas.proofs.Common.{eqb-true, PathNode, MetaView, CfgView, DocStyle, Outer, Inner, Tokens, Reader, by_first, symbol, word, kind, text, at, is_empty, bumped, is_at_open, is_at_end, behind_closed, behind_tree, elements, one, begins_item, LeadsTo, here, further, through, Forwards, when, bumped_leads, behind_tree_leads, path, rule_leads, reads, reads_from, sees, past_from, is_literal_kind, is_truth, is_literal, is_ended, style_by, value, comma_from, comma, tree_behind_comma, is_word_kind, is_option_word, option_name, pair, named_condition, if_named, ended_condition, condition_with, conditions, condition, input, plain_meta, is_call, is_at_name, is_named_call, member, conditional, meta_with, meta, behind_docs, behind_attribute, deepest_level, is_style, is_doc, is_attribute, is_behind, bracketed_meta, past_mark, one_attribute, attribute, attributes, inner_attributes}
use Rattle.rust_lexer.specs.declared.kind.TokenKind.{TokenKind}
use Rattle.rust_lexer.specs.declared.kind.TokenKind.TheVariants as kinds
use Rattle.rust_lexer.specs.Piece.{Piece}
use Rattle.rust_lexer.specs.Symbol.{symbol_of}
use Rattle.rust_cursor.proofs.LocalReaders.{both_true}
use Rattle.rust_cursor.proofs.ClosingBrace.{around, is_plain, plain_of, plain_upto, plain_around, other_around, to_around}
use Rattle.rust_cursor.proofs.WithinBrackets.{Within, same_within, Remains, word_symbol, entered_within, inside_within, tree_within, turns_within, elements_within, tree_text_within}
use Rattle.rust_cursor.proofs.SoundTokens.{IsSound, sound_on, NoCloser, OpensAt, round, opens_at, opens_no_closer, not_end}
use Rattle.rust_cursor.proofs.EnclosedItems.{AreEnclosed}
use Rattle.rust_cursor.proofs.EndingTokens.{nothing}
use Rattle.rust_cursor.proofs.Looks.{kind_symbol}
use Rattle.rust_paths.proofs.Segments.{name_within, path_within}
use Rattle.rust_paths.specs.Names.{behind_hash}
use Rattle.rust_paths.specs.Paths.{is_raw}
use Rattle.rust_metas.specs.Metas.{is_text}
use Rattle.rust_cursor.specs.Grammar.{Grammar, inside}
use Rattle.rust_cursor.specs.Anchored.{Anchored}
use Rattle.rust_cursor.proofs.AnchoredRules.{rule_leads_from}
use Rattle.rust_metas.proofs.AttributeRests.{attribute_leads}

-- ---- literals

-- a literal has no symbol
pub literal_symbol : (ts : Tokens) → sees is_literal ts ≡ true → symbol ts ≡ 0
unfolding is_literal is_truth
literal_symbol ts e =
    when (is_literal_kind (kind ts)) (λ f. kind_symbol is_literal_kind refl ts f)
    (λ f. let g = rw f at e in
    when (bytes_eq (word ts) (codes "true")) (λ i. word_symbol (codes "true") ts refl i)
    (λ i. let j = rw i at g in word_symbol (codes "false") ts refl j))

value_around : (c anchor : ℕ) (ts : Tokens) → around c (reads_from anchor value ts).1 ≡ around c ts
unfolding value
value_around c anchor ts =
    when (sees is_literal ts && sees is_ended (bumped ts))
    (λ e. rw e (plain_around c ts (literal_symbol ts (both_true (sees is_literal ts) (sees is_ended (bumped ts)) e).0))) (λ e. rw e refl)

-- ---- conditions

comma_within : (end c n : ℕ) (ts : Tokens) → IsSound end ts → Within c (reads (comma_from n) ts).1 ts
comma_within end c zero ts s = here
comma_within end c (suc n) ts s =
    when (is_at_end ts) (λ e. rw e here)
    (λ e. rw e (when (symbol ts == 44) (λ f. rw f (same_within c (bumped ts) ts (other_around c 44 ts refl f)))
    (λ f. rw f (through (comma_within end c n (behind_tree ts) (sound_on end (behind_tree_leads ts) s)) (tree_within end c ts s (not_end end ts s e))))))

behind_comma_within : (end c : ℕ) (ts : Tokens) → IsSound end ts → Within c (tree_behind_comma ts) ts
unfolding comma
behind_comma_within end c ts s = comma_within end c _ ts s

-- an option's word begins with no symbol, or with the `r` of `r#true`
module _ (P : ℕ → Type 0) (none : P 0) (raw : P 114) where
  option_text : (z : List ℕ) → (if bytes_eq z (codes "_") then false else (if bytes_eq z (codes "r#true") || bytes_eq z (codes "r#false") then true else false)) ≡ true → P (slice_index z 0)
  option_text [] e = none
  option_text (b ∷ z) e =
      when (b == 114) (λ f. subst P (sym (eqb-true b 114 f)) raw)
      (λ f. when (b == 95) (λ g. absurd (let is = eqb-true b 95 g in let no = rw is at e in by_tail z no)) (λ g. absurd (let no = rw (f, g) at e in cc)))
    where
      by_tail : (z : List ℕ) → (if bytes_eq (95 ∷ z) (codes "_") then false else (if bytes_eq (95 ∷ z) (codes "r#true") || bytes_eq (95 ∷ z) (codes "r#false") then true else false)) ≡ true → ⊥
      by_tail z e = when (bytes_eq (95 ∷ z) (codes "_")) (λ f. let no = rw f at e in cc) (λ f. let no = rw f at e in cc)

  option_kind : (k : TokenKind) (z : List ℕ) → (if bytes_eq z (codes "_") then false else (if bytes_eq z (codes "r#true") || bytes_eq z (codes "r#false") then true else is_word_kind (Some k))) ≡ true
      → P (symbol_of (record { kind = k; text = z; at = 0 }))
  option_kind kinds.OpenDelim z e = option_text z e
  option_kind kinds.CloseDelim z e = option_text z e
  option_kind kinds.Punct z e = option_text z e
  option_kind _ z e = none

  pub option_symbol : (ts : Tokens) → sees is_option_word ts ≡ true → P (symbol ts)
  unfolding is_option_word symbol text kind
  option_symbol ts e = first ts.left e
    where
      first : (left : List Piece) → (if bytes_eq (by_first [] (λ t. t.text) left) (codes "_") then false else (if bytes_eq (by_first [] (λ t. t.text) left) (codes "r#true") || bytes_eq (by_first [] (λ t. t.text) left) (codes "r#false") then true else is_word_kind (by_first None (λ t. Some t.kind) left))) ≡ true
          → P (by_first 0 symbol_of left)
      first [] e = none
      first (t ∷ left) e = option_kind t.kind t.text e

option_name_within : (end c : ℕ) → Remains end c (reads option_name)
unfolding option_name
option_name_within end c ts s =
    when (sees is_option_word ts) (λ e. rw e (same_within c (bumped ts) ts (plain_upto c ts (plain_of (symbol ts) (option_symbol (λ s. is_plain s ≡ true) refl refl ts e)))))
    (λ e. rw e (name_within end c ts s))

pair_around : (c : ℕ) (key : List ℕ) (ts : Tokens) → around c (reads (pair key) ts).1 ≡ around c ts
unfolding pair
pair_around c key ts = when (is_literal_kind (kind ts)) (λ f. rw f (plain_around c ts (kind_symbol is_literal_kind refl ts f))) (λ f. rw f refl)

ended_within : (end c : ℕ) (v : CfgView) → Remains end c (reads (ended_condition v))
unfolding ended_condition
ended_within end c v ts s = when (sees is_ended ts) (λ e. rw e (behind_comma_within end c ts s)) (λ e. rw e (behind_comma_within end c ts s))

module _ (end : ℕ) (inner : Grammar inside (Option (List CfgView))) (i : (c : ℕ) → Remains end c (reads inner)) where
  named_within : (c : ℕ) (w : List ℕ) → Remains end c (reads (named_condition inner w))
  named_within c w ts s =
      when (is_at_open ts)
      (λ e. rw e (inside_within end c ts (reads inner (bumped ts)).1 s (opens_at end ts s e) (rule_leads inner (bumped ts)) (i (symbol ts) (bumped ts) (sound_on end (bumped_leads ts) s))))
      (λ e. rw e (when (symbol ts == 61) (λ g. rw g (same_within c _ ts (pair_around c w (bumped ts) ∙ other_around c 61 ts refl g))) (λ g. rw g here)))

  if_named_within : (c : ℕ) (o : Option (List ℕ)) → Remains end c (reads (if_named inner o))
  if_named_within c None ts s = here
  if_named_within c (Some w) ts s = named_within c w ts s

  condition_with_within : (c : ℕ) → Remains end c (reads (condition_with inner))
  condition_with_within c ts s =
      let first = reads option_name ts in
      let second = reads (if_named inner first.0) first.1 in
      let s1 = sound_on end (rule_leads option_name ts) s in
      through (ended_within end c second.0 second.1 (sound_on end (rule_leads (if_named inner first.0) first.1) s1)) (through (if_named_within c first.0 first.1 s1) (option_name_within end c ts s))

conditions_within : (end depth c : ℕ) → Remains end c (reads (conditions depth))
unfolding conditions
conditions_within end zero c ts s = here
conditions_within end (suc depth) c ts s =
    let inner = condition_with (conditions depth) in
    elements_within end c (one (reads inner)) (λ us. rule_leads inner us) (condition_with_within end (conditions depth) (conditions_within end depth) c) ts s

condition_within : (end depth c : ℕ) → Remains end c (reads (condition depth))
unfolding condition
condition_within end depth c ts s = condition_with_within end (conditions depth) (conditions_within end depth) c ts s

-- ---- metas

input_within : (end c anchor : ℕ) (p : Option PathNode) → Remains end c (reads_from anchor (input p))
unfolding input
input_within end c anchor p ts s =
    when (symbol ts == 61) (λ e. rw e (same_within c _ ts (value_around c anchor (bumped ts) ∙ other_around c 61 ts refl e)))
    (λ e. rw e (when (is_at_open ts) (λ f. rw f (tree_text_within c ts (opens_no_closer (symbol ts) (opens_at end ts s f)))) (λ f. rw f here)))

plain_within : (end c anchor : ℕ) → Remains end c (reads_from anchor plain_meta)
unfolding plain_meta
plain_within end c anchor ts s = through (input_within end c anchor (reads path ts).0 (reads path ts).1 (sound_on end (rule_leads path ts) s)) (path_within end c ts s)

-- a name has no symbol, written as `r#name` or not
pub named_symbol : (w : List ℕ) (ts : Tokens) → bytes_eq [] w ≡ false → sees (is_at_name w) ts ≡ true → symbol ts ≡ 0
unfolding is_at_name
named_symbol w ts empty e =
    when (bytes_eq (word ts) w) (λ f. word_symbol w ts empty f)
    (λ f. let raw : (is_raw (kind ts) && is_text w (behind_hash (text ts))) ≡ true = rw f at e in kind_symbol is_raw refl ts (both_true (is_raw (kind ts)) (is_text w (behind_hash (text ts))) raw).0)

-- behind a token without a symbol and a bracket
behind_within : (end c : ℕ) (ts us : Tokens) → symbol ts ≡ 0 → IsSound end ts → is_at_open (bumped ts) ≡ true → LeadsTo (bumped (bumped ts)) us → Within (symbol (bumped ts)) us (bumped (bumped ts))
    → Within c (behind_closed (symbol (bumped ts)) us) ts
behind_within end c ts us plain s e p h =
    let s1 = sound_on end (bumped_leads ts) s in
    through (inside_within end c (bumped ts) us s1 (opens_at end (bumped ts) s1 e) p h) (same_within c (bumped ts) ts (plain_around c ts plain))

-- behind a word and a bracket
call_within : (end c : ℕ) (w : List ℕ) (ts us : Tokens) → bytes_eq [] w ≡ false → IsSound end ts → sees (is_call w) ts ≡ true → LeadsTo (bumped (bumped ts)) us → Within (symbol (bumped ts)) us (bumped (bumped ts))
    → Within c (behind_closed (symbol (bumped ts)) us) ts
unfolding is_call
call_within end c w ts us empty s e p h =
    let first = both_true (bytes_eq (word ts) w) (is_at_open (bumped ts)) e in
    behind_within end c ts us (word_symbol w ts empty first.0) s first.1 p h

-- and behind a name
named_call_within : (end c : ℕ) (w : List ℕ) (ts us : Tokens) → bytes_eq [] w ≡ false → IsSound end ts → sees (is_named_call w) ts ≡ true → LeadsTo (bumped (bumped ts)) us → Within (symbol (bumped ts)) us (bumped (bumped ts))
    → Within c (behind_closed (symbol (bumped ts)) us) ts
unfolding is_named_call
named_call_within end c w ts us empty s e p h =
    let first = both_true (sees (is_at_name w) ts) (is_at_open (bumped ts)) e in
    behind_within end c ts us (named_symbol w ts empty first.0) s first.1 p h

module _ (end anchor : ℕ) (inner : Anchored MetaView) (condition : Grammar inside CfgView) (i : (c : ℕ) → Remains end c (reads_from anchor inner)) (j : (c : ℕ) → Remains end c (reads condition)) where
  member_within : (c : ℕ) → Remains end c (reads_from anchor (member inner))
  member_within c ts s = through (behind_comma_within end c (reads_from anchor inner ts).1 (sound_on end (rule_leads_from anchor inner ts) s)) (i c ts s)

  members_within : (c : ℕ) → Remains end c (elements (one (reads_from anchor (member inner))))
  members_within c = elements_within end c (one (reads_from anchor (member inner))) (λ us. rule_leads_from anchor (member inner) us) (member_within c)

  meta_with_within : (c : ℕ) → Remains end c (reads_from anchor (meta_with inner condition))
  meta_with_within c ts s =
      let twice = bumped (bumped ts) in
      let b = symbol (bumped ts) in
      let s2 : IsSound end twice = sound_on end (further (bumped_leads (bumped ts))) s in
      let behind = reads condition twice in
      when (sees (is_call (codes "unsafe")) ts) (λ e. rw e (call_within end c (codes "unsafe") ts (reads_from anchor inner twice).1 refl s e (rule_leads_from anchor inner twice) (i b twice s2)))
      (λ e. rw e (when (sees (is_named_call (codes "cfg")) ts) (λ g. rw g (named_call_within end c (codes "cfg") ts behind.1 refl s g (rule_leads condition twice) (j b twice s2)))
      (λ g. rw g (when (sees (is_named_call (codes "cfg_attr")) ts)
      (λ h. rw h (named_call_within end c (codes "cfg_attr") ts (reads_from anchor (conditional inner condition) twice).1 refl s h (rule_leads_from anchor (conditional inner condition) twice)
      (through (members_within b behind.1 (sound_on end (rule_leads condition twice) s2)) (j b twice s2))))
      (λ h. rw h (plain_within end c anchor ts s))))))

meta_within : (end anchor depth c : ℕ) → Remains end c (reads_from anchor (meta depth))
unfolding meta
meta_within end anchor zero c ts s = here
meta_within end anchor (suc depth) c ts s = meta_with_within end anchor (meta depth) (condition depth) (meta_within end anchor depth) (condition_within end depth) c ts s

-- ---- attributes

pub doc_symbol : (style : DocStyle) (ts : Tokens) → sees (is_doc style) ts ≡ true → symbol ts ≡ 0
unfolding is_doc
doc_symbol Outer ts e = kind_symbol (λ k. is_style Outer (style_by k)) refl ts e
doc_symbol Inner ts e = kind_symbol (λ k. is_style Inner (style_by k)) refl ts e

square_opens : (ts : Tokens) → (symbol ts == 91) ≡ true → OpensAt (symbol ts)
square_opens ts e = let is = eqb-true (symbol ts) 91 e in round (rw is refl) (rw is refl)

bracketed_within : (end c anchor : ℕ) (ts : Tokens) → IsSound end ts → (symbol ts == 91) ≡ true → Within c (reads_from anchor bracketed_meta ts).1 ts
unfolding bracketed_meta
bracketed_within end c anchor ts s e =
    let us = (reads_from anchor (meta deepest_level) (bumped ts)).1 in
    let is = eqb-true (symbol ts) 91 e in
    let s1 = sound_on end (bumped_leads ts) s in
    when (begins_item us)
    (λ f. rw f (through (meta_within end anchor deepest_level c (bumped ts) s1) (entered_within c ts (square_opens ts e))))
    (λ f. rw f (subst (λ (b : ℕ). Within c (behind_closed b us) ts) is (inside_within end c ts us s (square_opens ts e) (rule_leads_from anchor (meta deepest_level) (bumped ts)) (meta_within end anchor deepest_level (symbol ts) (bumped ts) s1))))

opened_within : (end c anchor : ℕ) (style : DocStyle) (ts : Tokens) → IsSound end ts → sees (is_attribute style) ts ≡ true → Within c (reads_from anchor bracketed_meta (past_mark style ts)).1 ts
unfolding is_attribute
opened_within end c anchor Outer ts s e =
    let both = both_true (symbol ts == 35) (symbol (bumped ts) == 91) e in
    through (bracketed_within end c anchor (bumped ts) (sound_on end (bumped_leads ts) s) both.1) (same_within c (bumped ts) ts (other_around c 35 ts refl both.0))
opened_within end c anchor Inner ts s e =
    let first = both_true (symbol ts == 35) (symbol (bumped ts) == 33 && symbol (bumped (bumped ts)) == 91) e in
    let second = both_true (symbol (bumped ts) == 33) (symbol (bumped (bumped ts)) == 91) first.1 in
    through (bracketed_within end c anchor (bumped (bumped ts)) (sound_on end (further (bumped_leads (bumped ts))) s) second.1)
    (same_within c (bumped (bumped ts)) ts (other_around c 33 (bumped ts) refl second.0 ∙ other_around c 35 ts refl first.0))

either : (a b : Bool) → not (a || b) ≡ false → a ≡ false → b ≡ true
either false true e f = refl
either false false e f = absurd cc
either true b e f = absurd cc

is_one : (style : DocStyle) (ts : Tokens) → sees (is_behind style) ts ≡ false → sees (is_doc style) ts ≡ false → sees (is_attribute style) ts ≡ true
unfolding is_behind
is_one style ts e f = either (sees (is_doc style) ts) (sees (is_attribute style) ts) e f

one_attribute_within : (end c anchor : ℕ) (style : DocStyle) (ts : Tokens) → IsSound end ts → sees (is_behind style) ts ≡ false → Within c (reads_from anchor (one_attribute style) ts).1 ts
unfolding one_attribute
one_attribute_within end c anchor style ts s e =
    when (sees (is_doc style) ts) (λ f. rw f (same_within c (bumped ts) ts (plain_around c ts (doc_symbol style ts f)))) (λ f. rw f (opened_within end c anchor style ts s (is_one style ts e f)))

docs_around : (c n : ℕ) (ts : Tokens) → around c (past_from (sees (is_doc Inner)) n ts) ≡ around c ts
docs_around c zero ts = refl
docs_around c (suc n) ts = when (sees (is_doc Inner) ts) (λ e. rw e (docs_around c n (bumped ts) ∙ plain_around c ts (doc_symbol Inner ts e))) (λ e. rw e refl)

behind_attribute_around : (c : ℕ) (style : DocStyle) (ts : Tokens) → around c (behind_attribute style ts) ≡ around c ts
unfolding behind_docs
behind_attribute_around c Outer ts = docs_around c _ ts
behind_attribute_around c Inner ts = refl

attribute_within : (end c : ℕ) (style : DocStyle) (ts : Tokens) → IsSound end ts → sees (is_behind style) ts ≡ false → Within c (attribute style ts).1 ts
unfolding attribute
attribute_within end c style ts s e =
    let us = (reads_from (at ts) (one_attribute style) ts).1 in
    through (same_within c (behind_attribute style us) us (behind_attribute_around c style us)) (one_attribute_within end c (at ts) style ts s e)

hash_no_closer : (style : DocStyle) (ts : Tokens) → sees (is_attribute style) ts ≡ true → NoCloser (symbol ts)
unfolding is_attribute
hash_no_closer Outer ts e = let both = both_true (symbol ts == 35) (symbol (bumped ts) == 91) e in let is = eqb-true (symbol ts) 35 both.0 in rw is (record { no_brace = refl; no_other = refl })
hash_no_closer Inner ts e =
    let both = both_true (symbol ts == 35) (symbol (bumped ts) == 33 && symbol (bumped (bumped ts)) == 91) e in
    let is = eqb-true (symbol ts) 35 both.0 in
    rw is (record { no_brace = refl; no_other = refl })

attribute_no_closer : (style : DocStyle) (ts : Tokens) → sees (is_behind style) ts ≡ false → NoCloser (symbol ts)
attribute_no_closer style ts e =
    when (sees (is_doc style) ts) (λ f. rw (doc_symbol style ts f) (record { no_brace = refl; no_other = refl })) (λ f. hash_no_closer style ts (is_one style ts e f))

attributes_within : (end c : ℕ) (style : DocStyle) → Remains end c (attributes style)
unfolding attributes
attributes_within end c style ts s =
    turns_within end c (sees (is_behind style)) (one (attribute style)) (attribute_leads style) (attribute_within end c style) (λ ts s e. attribute_no_closer style ts e) ts s

inner_attributes_within : (end c : ℕ) → Remains end c inner_attributes
unfolding inner_attributes
inner_attributes_within end c = attributes_within end c Inner

-- what is left of those of an item's own braces comes to their `}`
to_end : (end : ℕ) (ts us t : Tokens) → IsSound end ts → AreEnclosed ts us t → LeadsTo (inner_attributes (bumped t)).1 (around 123 (bumped t))
to_end end ts us t s h = through (to_around 123 (inner_attributes (bumped t)).1) (inner_attributes_within end 123 (bumped t) (sound_on end (through h.before (bumped_leads t)) s))

-- and to what is left of the item
pub inner_within : (end : ℕ) (ts us t : Tokens) → IsSound end ts → AreEnclosed ts us t → LeadsTo (inner_attributes (bumped t)).1 us
inner_within end ts us t s h = through (to_end end ts us t s h) h.behind

-- so something is left
pub inner_some : (end : ℕ) (ts us t : Tokens) → IsSound end ts → AreEnclosed ts us t → (inner_attributes (bumped t)).1.left ≡ [] → ⊥
unfolding is_empty
inner_some end ts us t s h e = none (around 123 (bumped t)).left (nothing (to_end end ts us t s h) e) h.closed
  where
    none : (left : List Piece) → left ≡ [] → by_first true (λ _. false) left ≡ false → ⊥
    none [] e f = cc
    none (t ∷ left) e f = cc
