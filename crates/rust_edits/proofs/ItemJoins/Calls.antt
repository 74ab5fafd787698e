-- The path of a macro call that may be an item ends before its `!`.
use Rattle.std.proofs.Common.{◌≡◌, ◌==◌, ◌≤◌, ℕ, zero, suc, true, false, Option, Some, None, List, [], codes, refl, arith, bytes_eq}
use Rattle.rust_edits.proofs.Common.{Tokens, symbol, word, kind, bumped, eat, is_pair, is_at_identifier, path, begins_call, is_called, most_tokens, LeadsTo, here, further, through, when, bumped_leads, eat_leads, and_parts, nothing, eqb-true, next_name, name, taken_with}
use Rattle.rust_cursor.specs.Words.{eat_pair}
use Rattle.rust_cursor.proofs.TokenRests.{eat_pair_leads}
use Rattle.rust_cursor.proofs.WithinBrackets.{word_symbol}
use Rattle.rust_paths.specs.Paths.{is_raw, is_colons, is_path_colons, is_dollar_crate, segment, other_segment, more_from, more_segments, is_path_start}
use Rattle.rust_cursor.proofs.Looks.{at_identifier_symbol, kind_symbol}
use Rattle.rust_paths.proofs.UseTreeRests.{name_symbol}
use Rattle.rust_leaves.specs.Heads.{begins_path, segment_word, behind_segments, behind_segments_from}
use Rattle.rust_cursor.specs.Grammar.{reads}
use Rattle.rust_cursor.specs.Looks.{sees}

-- ---- segments

taken_one : (P : Tokens → Type 0) (o : Option (List ℕ)) (ts : Tokens) → P (bumped ts) → P ts → P (taken_with o ts).1
taken_one P None ts b s = s
taken_one P (Some n) ts b s = b

-- a segment that begins with no symbol takes one token or none
segment_one : (P : Tokens → Type 0) (ts : Tokens) → symbol ts ≡ 0 → P (bumped ts) → P ts → P (reads segment ts).1
unfolding segment other_segment is_dollar_crate name next_name
segment_one P ts z b s =
    when (bytes_eq (word ts) (codes "self")) (λ e. rw e b)
    (λ e. when (bytes_eq (word ts) (codes "super")) (λ f. rw (e, f) b)
    (λ f. when (bytes_eq (word ts) (codes "crate")) (λ g. rw (e, f, g) b)
    (λ g. when (bytes_eq (word ts) (codes "Self")) (λ h. rw (e, f, g, h) b)
    (λ h. when (is_raw (kind ts)) (λ i. rw (e, f, g, h, z, i) b) (λ i. rw (e, f, g, h, z, i) (taken_one P (next_name ts) ts b s))))))

-- behind what is no colon none follows
no_more : (n : ℕ) (ts : Tokens) → (symbol ts == 58) ≡ false → reads (more_from false n) ts ≡ ([], ts)
unfolding is_path_colons is_colons is_pair
no_more zero ts e = refl
no_more (suc n) ts e = rw e refl

segments_lead : (m : ℕ) (w : Tokens) → LeadsTo (bumped w) (bumped (behind_segments_from m w))
segments_lead zero w = here
segments_lead (suc m) w = when (sees begins_path w) (λ e. rw e (through (further (further (further here))) (segments_lead m (bumped (bumped (bumped w)))))) (λ e. rw e here)

first_word : (m : ℕ) (w : Tokens) → sees segment_word (behind_segments_from m w) ≡ true → symbol w ≡ 0
first_word zero w e = at_identifier_symbol w (and_parts (is_at_identifier w) _ e).0
first_word (suc m) w e =
    when (sees begins_path w) (λ f. at_identifier_symbol w (and_parts (is_at_identifier w) _ (and_parts (sees segment_word w) _ f).0).0)
    (λ f. at_identifier_symbol w (and_parts (is_at_identifier w) _ (rw f at e)).0)

-- from a segment on, a path comes to the last word of a macro call
more_lead : (n m : ℕ) (w : Tokens) → n ≤ m → sees segment_word (behind_segments_from m w) ≡ true → LeadsTo (reads (more_from false n) (bumped w)).1 (bumped (behind_segments_from m w))
unfolding is_path_colons is_colons
more_lead zero m w l e = segments_lead m w
more_lead (suc n) zero w l e = absurd (omega arith)
more_lead (suc n) (suc m) w l e =
    let next = bumped (bumped (bumped w)) in
    when (sees begins_path w)
    (λ f. let pair = (and_parts (sees segment_word w) (is_pair 58 58 (bumped w)) f).1 in
    let word_there : sees segment_word (behind_segments_from m next) ≡ true = rw f at e in
    let plain = first_word m next word_there in
    let other : (symbol next == 58) ≡ false = rw plain refl in
    rw (f, pair)
    (segment_one (λ s. LeadsTo (reads (more_from false n) s).1 (bumped (behind_segments_from m next))) next plain (more_lead n m next (omega arith) word_there)
    (rw (no_more n next other) (through (bumped_leads next) (segments_lead m next)))))
    (λ f. let here_word : sees segment_word w ≡ true = rw f at e in
    let none : is_pair 58 58 (bumped w) ≡ false = rw here_word at f in rw (f, none) here)

-- ---- the path

-- from a `$` on
module _ (ts : Tokens) (dollar : (symbol ts == 36) ≡ true) where
  is_dollar : symbol ts ≡ 36
  is_dollar = eqb-true (symbol ts) 36 dollar

  not_word : (w : List ℕ) → bytes_eq [] w ≡ false → bytes_eq (word ts) w ≡ false
  not_word w empty = when (bytes_eq (word ts) w) (λ e. absurd (let z = word_symbol w ts empty e in let no = rw z at dollar in cc)) (λ e. e)

  not_raw : is_raw (kind ts) ≡ false
  not_raw = when (is_raw (kind ts)) (λ e. absurd (let z = kind_symbol is_raw refl ts e in let no = rw z at dollar in cc)) (λ e. e)

  not_named : (o : Option (List ℕ)) → next_name ts ≡ o → (taken_with o ts).1 ≡ ts
  not_named None e = refl
  not_named (Some n) e = absurd (let z = name_symbol n ts e in let no = rw z at dollar in cc)

  dollar_segment : (P : Tokens → Type 0) → (bytes_eq (word (bumped ts)) (codes "crate") ≡ true → P (bumped (bumped ts))) → P ts → P (reads segment ts).1
  unfolding segment other_segment is_dollar_crate name next_name
  dollar_segment P b s =
      let self = not_word (codes "self") refl in
      let super = not_word (codes "super") refl in
      let crate = not_word (codes "crate") refl in
      let own = not_word (codes "Self") refl in
      let still = not_named (next_name ts) refl in
      let other : (symbol ts == 60) ≡ false = rw is_dollar refl in
      when (bytes_eq (word (bumped ts)) (codes "crate")) (λ e. rw (self, super, crate, own, other, dollar, e) (b e)) (λ e. rw (self, super, crate, own, other, dollar, e, not_raw, still) s)

-- the last word of the path of a macro call
abbrev last_word : Tokens → Tokens
last_word ts = behind_segments (eat_pair 58 58 (eat 36 ts).1).1

to_last : (ts : Tokens) → LeadsTo ts (bumped (last_word ts))
unfolding behind_segments
to_last ts = let w = (eat_pair 58 58 (eat 36 ts).1).1 in through (eat_leads 36 ts) (through (eat_pair_leads 58 58 (eat 36 ts).1) (through (bumped_leads w) (segments_lead most_tokens w)))

no_pair : (ts : Tokens) → (symbol ts == 58) ≡ false → (eat_pair 58 58 ts).1 ≡ ts
unfolding eat_pair is_pair
no_pair ts e = rw e refl

written_lead : (ts : Tokens) → sees segment_word (last_word ts) ≡ true → LeadsTo (reads (more_segments false) (reads segment (eat_pair 58 58 ts).1).1).1 (bumped (last_word ts))
unfolding more_segments behind_segments eat
written_lead ts e =
    when (symbol ts == 36)
    (λ d. let is = is_dollar ts d in
    let other : (symbol ts == 58) ≡ false = rw is refl in
    rw (no_pair ts other)
    (dollar_segment ts d (λ s. LeadsTo (reads (more_from false most_tokens) s).1 (bumped (last_word ts)))
    (λ c. let plain = word_symbol (codes "crate") (bumped ts) refl c in
    let still : (symbol (bumped ts) == 58) ≡ false = rw plain refl in
    let same : (eat_pair 58 58 (bumped ts)).1 ≡ bumped ts = no_pair (bumped ts) still in
    rw (d, same) (more_lead most_tokens most_tokens (bumped ts) (omega arith) (rw (d, same) at e)))
    (rw (no_more most_tokens ts other) (to_last ts))))
    (λ d. let w = (eat_pair 58 58 ts).1 in
    let word_there : sees segment_word (behind_segments_from most_tokens w) ≡ true = rw d at e in
    let plain = first_word most_tokens w word_there in
    let other : (symbol w == 58) ≡ false = rw plain refl in
    rw d
    (segment_one (λ s. LeadsTo (reads (more_from false most_tokens) s).1 (bumped (behind_segments_from most_tokens w))) w plain (more_lead most_tokens most_tokens w (omega arith) word_there)
    (rw (no_more most_tokens w other) (through (bumped_leads w) (segments_lead most_tokens w)))))

-- so something is left behind it
pub call_left : (ts : Tokens) → begins_call ts ≡ true → (reads path ts).1.left ≡ [] → ⊥
unfolding begins_call path is_called symbol
call_left ts e none =
    let both = and_parts (sees segment_word (last_word ts)) (sees is_called (bumped (last_word ts))) e in
    let to : LeadsTo (reads path ts).1 (bumped (last_word ts)) = when (sees (is_path_start false) ts) (λ f. rw f (written_lead ts both.0)) (λ f. rw f (to_last ts)) in
    let gone : (bumped (last_word ts)).left ≡ [] = nothing to none in
    absurd (let no = rw gone at both.1 in cc)
