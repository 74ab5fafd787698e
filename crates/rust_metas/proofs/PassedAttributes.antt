-- An attribute that plainly tells no condition is passed over as it is read, and is not kept.
use Rattle.std.proofs.Common.{◌≡◌, ◌==◌, ◌&&◌, ◌||◌, ℕ, zero, suc, Bool, true, false, Option, Some, None, List, [], ◌∷◌, refl, sym, ap, ◌∙◌, arith, codes, bytes_eq, is_some, if◌then◌else◌}
use Rattle.hir_input.specs.Name.{is_name}
use Rattle.hir_input.specs.declared.ast.PathNode.{PathNode}
use Rattle.hir_input.specs.declared.edition.EditionYear.{EditionYear}
use Rattle.rust_lexer.specs.Piece.{Piece}
use Rattle.rust_lexer.specs.Symbol.{symbol_of}
use Rattle.rust_lexer.specs.declared.kind.TokenKind.{TokenKind}
use Rattle.rust_lexer.specs.declared.kind.TokenKind.TheVariants as kinds
use Rattle.rust_cursor.specs.Brackets.{behind_closing}
use Rattle.rust_cursor.specs.Nests.{no_bracket}
use Rattle.rust_cursor.specs.Words.{word_by}
use Rattle.rust_cursor.proofs.Common.{eat_pair, is_closing, is_pair, to_closing}
use Rattle.rust_cursor.proofs.Steps.{closing_stop}
use Rattle.rust_paths.proofs.Common.{eat_colons, has_name, is_colons, is_dollar_crate, is_keyword, is_path_colons, is_path_keyword, is_path_start, is_raw, is_segment, is_underscore, more_from, more_segments, name, next_name, other_segment, plain_name, segment}
use Rattle.rust_metas.specs.declared.wanted.WantedMetas.TheVariants as wanted
use Rattle.rust_metas.proofs.Common.{DocStyle, MetaView, Tokens, WantedMetas, and_parts, attribute, at, begins_item, behind_attribute, bracket_end, behind_closed, reads, reads_from, sees, behind_unread, bracketed_meta, bumped, by_first, deepest_level, eqb-true, input, is_at_open, is_call, is_condition_meta, is_at_name, is_named_call, is_doc, is_empty, is_plain_name, is_unread, kept_by, kept_metas, kind, may_condition, meta, one, one_attribute, past_mark, path, plain_bracketed, plain_input, plain_meta, symbol, text, value, when, word}
use Rattle.rust_metas.proofs.Depths.{meta_at}
use Rattle.rust_metas.proofs.RoundTexts.{round_text}

-- ---- a word

-- a word is a token of this kind and text
record IsWord (ts : Tokens) : Type 0 where
  kind_is : kind ts ≡ Some kinds.Ident
  text_is : text ts ≡ word ts
  symbol_is : symbol ts ≡ 0

word_is : (ts : Tokens) → bytes_eq (word ts) [] ≡ false → IsWord ts
unfolding word kind text symbol
word_is ts e = let all = first ts.left e in record { kind_is = all.0; text_is = all.1.0; symbol_is = all.1.1 }
  where
    first : (left : List Piece) → bytes_eq (by_first [] (λ t. word_by t.kind t.text) left) [] ≡ false
        → (by_first None (λ t. Some t.kind) left ≡ Some kinds.Ident) × ((by_first [] (λ t. t.text) left ≡ by_first [] (λ t. word_by t.kind t.text) left) × (by_first 0 symbol_of left ≡ 0))
    first [] e = absurd cc
    first (t ∷ left) e = by t.kind t.text t.at e
      where
        by : (k : TokenKind) (z : List ℕ) (a : ℕ) → bytes_eq (word_by k z) [] ≡ false
            → (Some k ≡ Some kinds.Ident) × ((z ≡ word_by k z) × (symbol_of (record { kind = k; text = z; at = a }) ≡ 0))
        by kinds.Ident z a e = (refl, (refl, refl))
        by _ z a e = absurd cc

-- what has another symbol is no word
no_word : (ts : Tokens) → (symbol ts == 93) ≡ true → word ts ≡ []
unfolding word symbol
no_word ts e = first ts.left e
  where
    first : (left : List Piece) → (by_first 0 symbol_of left == 93) ≡ true → by_first [] (λ t. word_by t.kind t.text) left ≡ []
    first [] e = refl
    first (t ∷ left) e = by t.kind t.text t.at e
      where
        by : (k : TokenKind) (z : List ℕ) (a : ℕ) → (symbol_of (record { kind = k; text = z; at = a }) == 93) ≡ true → word_by k z ≡ []
        by kinds.Ident z a e = absurd cc
        by _ z a e = refl

-- ---- its path

plain_by : (a b c : Bool) (w : List ℕ) → is_some (if a then None else (if b then None else (if c then None else Some w))) ≡ true → (if a then None else (if b then None else (if c then None else Some w))) ≡ Some w
plain_by false false false w e = refl
plain_by false false true w e = absurd cc
plain_by false true c w e = absurd cc
plain_by true b c w e = absurd cc

plain_some : (y : EditionYear) (w : List ℕ) → is_some (plain_name y w) ≡ true → plain_name y w ≡ Some w
unfolding plain_name
plain_some y w e = plain_by (is_keyword y w) (is_path_keyword w) (is_underscore w) w e

name_next : (ts : Tokens) → IsWord ts → sees has_name ts ≡ true → is_name (word ts) ≡ true → next_name ts ≡ Some (word ts)
unfolding has_name next_name
name_next ts w h n =
    let some : is_some (plain_name ts.edition (word ts)) ≡ true = rw (w.kind_is, w.text_is) at h in
    rw (w.kind_is, w.text_is, plain_some ts.edition (word ts) some, n) refl

named_segment : (ts : Tokens) → IsWord ts → next_name ts ≡ Some (word ts) → (reads other_segment ts).1 ≡ bumped ts
unfolding other_segment is_dollar_crate name next_name
named_segment ts w n = let m = rw w.kind_is at n in rw (w.symbol_is, w.kind_is, m) refl

segment_taken : (ts : Tokens) → IsWord ts → next_name ts ≡ Some (word ts) → (reads segment ts).1 ≡ bumped ts
unfolding segment
segment_taken ts w n =
    when (bytes_eq (word ts) (codes "self")) (λ e. rw e refl)
    (λ e. when (bytes_eq (word ts) (codes "super")) (λ f. rw (e, f) refl)
    (λ f. when (bytes_eq (word ts) (codes "crate")) (λ g. rw (e, f, g) refl)
    (λ g. when (bytes_eq (word ts) (codes "Self")) (λ h. rw (e, f, g, h) refl) (λ h. rw (e, f, g, h) (named_segment ts w n)))))

no_colons : (ts : Tokens) → (symbol ts == 58) ≡ false → sees (is_path_colons false) ts ≡ false
unfolding is_path_colons is_colons is_pair
no_colons ts e = rw e refl

no_more : (n : ℕ) (ts : Tokens) → sees (is_path_colons false) ts ≡ false → (reads (more_from false n) ts).1 ≡ ts
no_more zero ts e = refl
no_more (suc n) ts e = rw e refl

path_starts : (ts : Tokens) → sees (is_path_colons false) ts ≡ false → sees has_name ts ≡ true → sees (is_path_start false) ts ≡ true
unfolding is_path_start is_segment
path_starts ts c h =
    when (is_path_keyword (word ts)) (λ e. rw (c, e) refl) (λ e. when (is_raw (kind ts)) (λ f. rw (c, e, f) refl) (λ f. rw (c, e, f, h) refl))

no_front : (ts : Tokens) → (symbol ts == 58) ≡ false → (eat_colons ts).1 ≡ ts
unfolding eat_pair is_pair
no_front ts e = rw e refl

-- a name alone is the whole path
path_taken : (ts : Tokens) → IsWord ts → sees has_name ts ≡ true → next_name ts ≡ Some (word ts) → (symbol (bumped ts) == 58) ≡ false → (reads path ts).1 ≡ bumped ts
unfolding path more_segments
path_taken ts w h n c =
    let none : (symbol ts == 58) ≡ false = rw w.symbol_is refl in
    rw (path_starts ts (no_colons ts none) h)
    (ap (λ t. (reads (more_segments false) (reads segment t).1).1) (no_front ts none) ∙ ap (λ t. (reads (more_segments false) t).1) (segment_taken ts w n) ∙ no_more _ (bumped ts) (no_colons (bumped ts) c))

-- ---- its input

input_passed : (anchor : ℕ) (p : Option PathNode) (ts : Tokens) → (plain_input ts).0 ≡ true → ((reads_from anchor (input p) ts).1 ≡ (plain_input ts).1) × (is_condition_meta (reads_from anchor (input p) ts).0 ≡ false)
unfolding plain_input input value
input_passed anchor p ts h =
    when (symbol ts == 61)
    (λ e. let both = rw e at h in rw (e, both) (refl, refl))
    (λ e. when (is_at_open ts)
    (λ f. let round : (symbol ts == 40) ≡ true = rw (e, f) at h in rw (e, f) (round_text ts f round, refl))
    (λ f. rw (e, f) (refl, refl)))

input_no_colon : (ts : Tokens) → (plain_input ts).0 ≡ true → (symbol ts == 58) ≡ false
unfolding plain_input
input_no_colon ts h =
    when (symbol ts == 61) (λ e. rw (eqb-true (symbol ts) 61 e) refl)
    (λ e. when (is_at_open ts)
    (λ f. let round : (symbol ts == 40) ≡ true = rw (e, f) at h in rw (eqb-true (symbol ts) 40 round) refl)
    (λ f. let square : (symbol ts == 93) ≡ true = rw (e, f) at h in rw (eqb-true (symbol ts) 93 square) refl))

-- ---- in its brackets

-- what a plain name is
record IsPlainName (ts : Tokens) : Type 0 where
  word_here : IsWord ts
  named : sees has_name ts ≡ true
  next : next_name ts ≡ Some (word ts)
  no_unsafe : bytes_eq (word ts) (codes "unsafe") ≡ false
  no_cfg : bytes_eq (word ts) (codes "cfg") ≡ false
  no_cfg_attr : bytes_eq (word ts) (codes "cfg_attr") ≡ false

none_of : (a b c d : Bool) → (a || (b || (c || d))) ≡ false → ((a ≡ false) × (b ≡ false)) × ((c ≡ false) × (d ≡ false))
none_of false false false false e = ((refl, refl), (refl, refl))
none_of false false false true e = absurd cc
none_of false false true d e = absurd cc
none_of false true c d e = absurd cc
none_of true b c d e = absurd cc

not_first : (a b : Bool) → (if a then false else b) ≡ true → (a ≡ false) × (b ≡ true)
not_first false b e = (refl, e)
not_first true b e = absurd cc

plain_is : (ts : Tokens) → is_plain_name ts ≡ true → IsPlainName ts
unfolding is_plain_name
plain_is ts e =
    let parts = not_first (may_condition (word ts)) (sees has_name ts && is_name (word ts)) e in
    let none = none_of (bytes_eq (word ts) []) (bytes_eq (word ts) (codes "cfg")) (bytes_eq (word ts) (codes "cfg_attr")) (bytes_eq (word ts) (codes "unsafe")) parts.0 in
    let both = and_parts (sees has_name ts) (is_name (word ts)) parts.1 in
    let here = word_is ts none.0.0 in
    record { word_here = here; named = both.0; next = name_next ts here both.0 both.1; no_unsafe = none.1.1; no_cfg = none.0.1; no_cfg_attr = none.1.0 }

no_call : (w : List ℕ) (ts : Tokens) → bytes_eq (word ts) w ≡ false → sees (is_call w) ts ≡ false
unfolding is_call
no_call w ts e = rw e refl

-- a word is no other name
no_named_call : (w : List ℕ) (ts : Tokens) → IsWord ts → bytes_eq (word ts) w ≡ false → sees (is_named_call w) ts ≡ false
unfolding is_named_call is_at_name
no_named_call w ts here e = rw (e, here.kind_is) refl

plain_read : (anchor : ℕ) (ts : Tokens) → IsPlainName ts → reads_from anchor (meta deepest_level) ts ≡ reads_from anchor plain_meta ts
plain_read anchor ts n =
    meta_at anchor deepest_level ts (omega arith)
    ∙ rw (no_call (codes "unsafe") ts n.no_unsafe, no_named_call (codes "cfg") ts n.word_here n.no_cfg, no_named_call (codes "cfg_attr") ts n.word_here n.no_cfg_attr) refl

-- a name and its input are read as they are passed over, and tell no condition
meta_passed : (anchor : ℕ) (ts : Tokens) → is_plain_name ts ≡ true → (plain_input (bumped ts)).0 ≡ true
    → ((reads_from anchor (meta deepest_level) ts).1 ≡ (plain_input (bumped ts)).1) × (is_condition_meta (reads_from anchor (meta deepest_level) ts).0 ≡ false)
unfolding plain_meta input plain_input
meta_passed anchor ts e h =
    let n = plain_is ts e in
    let behind : (reads path ts).1 ≡ bumped ts = path_taken ts n.word_here n.named n.next (input_no_colon (bumped ts) h) in
    rw (plain_read anchor ts n, behind) (input_passed anchor (reads path ts).0 (bumped ts) h)

begins_none : (ts : Tokens) → word ts ≡ [] → begins_item ts ≡ false
unfolding begins_item
begins_none ts e = rw e refl

square_shuts : (ts : Tokens) → (symbol ts == 93) ≡ true → is_closing 91 no_bracket ts ≡ true
unfolding is_closing
square_shuts ts e = when (is_empty ts) (λ f. rw f refl) (λ f. rw (f, eqb-true (symbol ts) 93 e) refl)

-- the bracket that closes is behind
square_closed : (ts : Tokens) → (symbol ts == 93) ≡ true → (reads bracket_end ts).1 ≡ bumped ts
unfolding behind_closed to_closing
square_closed ts e = rw (begins_none ts (no_word ts e)) (ap (behind_closing 91) (closing_stop 91 no_bracket ts (square_shuts ts e)) ∙ rw (eqb-true (symbol ts) 93 e) refl)

-- what stands in brackets is read as it is passed over, and tells no condition
bracketed_passed : (anchor : ℕ) (ts : Tokens) → (plain_bracketed ts).0 ≡ true → ((reads_from anchor bracketed_meta ts).1 ≡ (plain_bracketed ts).1) × (is_condition_meta (reads_from anchor bracketed_meta ts).0 ≡ false)
unfolding bracketed_meta plain_bracketed
bracketed_passed anchor ts e =
    let here = bumped ts in
    let input = plain_input (bumped here) in
    let both = and_parts (is_plain_name here) (input.0 && symbol input.1 == 93) e in
    let last = and_parts input.0 (symbol input.1 == 93) both.1 in
    let m = meta_passed anchor here both.0 last.0 in
    (ap (λ us. (reads bracket_end us).1) m.0 ∙ square_closed input.1 last.1, m.1)

-- a meta that tells no condition is dropped
dropped : (m : MetaView) → is_condition_meta m ≡ false → kept_metas wanted.Conditions (m ∷ []) ≡ []
unfolding kept_metas
dropped m e = rw e refl

attribute_by : (style : DocStyle) (ts : Tokens) → sees (is_doc style) ts ≡ false → attribute style ts ≡ ((reads_from (at ts) bracketed_meta (past_mark style ts)).0, behind_attribute style (reads_from (at ts) bracketed_meta (past_mark style ts)).1)
unfolding attribute one_attribute
attribute_by style ts e = rw e refl

unread_passed : (style : DocStyle) (ts : Tokens) → sees (is_doc style) ts ≡ false → is_unread style ts ≡ true → kept_by wanted.Conditions (one (attribute style)) ts ≡ ([], behind_attribute style (behind_unread style ts))
unread_passed style ts e h =
    let r = bracketed_passed (at ts) (past_mark style ts) h in
    let metas : kept_metas wanted.Conditions ((attribute style ts).0 ∷ []) ≡ [] = dropped (attribute style ts).0 (ap (λ q. is_condition_meta q.0) (attribute_by style ts e) ∙ r.1) in
    let rest : (attribute style ts).1 ≡ behind_attribute style (behind_unread style ts) = ap (λ q. q.1) (attribute_by style ts e) ∙ ap (behind_attribute style) r.0 in
    λ i. (metas i, rest i)

-- where it is none of a comment, and is passed over
pub unread_by : (w : WantedMetas) (style : DocStyle) (doc unread : Bool) (ts vs xs us : Tokens) → w ≡ wanted.Conditions → doc ≡ sees (is_doc style) ts → vs ≡ (if doc then behind_attribute style (bumped ts) else ts) → doc ≡ false
    → unread ≡ is_unread style vs → xs ≡ (if unread then behind_unread style vs else vs) → unread ≡ true → us ≡ behind_attribute style xs → kept_by w (one (attribute style)) ts ≡ ([], us)
unread_by w style doc unread ts vs xs us c d v none u x taken n =
    let same : vs ≡ ts = v ∙ rw none refl in
    let is : is_unread style ts ≡ true = ap (is_unread style) (sym same) ∙ sym u ∙ taken in
    let behind : xs ≡ behind_unread style ts = x ∙ rw taken refl ∙ ap (behind_unread style) same in
    rw (c, n, behind) (unread_passed style ts (sym d ∙ none) is)
