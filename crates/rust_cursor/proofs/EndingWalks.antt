-- Walks over the tokens of a text that ends with a `;` or a `}`, and over those of a longer one: they come to the same place, or the one over the longer text passes the end.
use Rattle.std.proofs.Common.{◌≡◌, ℕ, ◌==◌, Bool, true, false, ap, ◌∙◌, sym}
use Rattle.rust_cursor.proofs.Common.{Reach, Nest, is_reached, is_closed, reach_from, reach_end, behind_angles, is_closing, closing, to_closing, behind_closing, behind_closed, behind_tree, progress_from, no_bracket, before_type, nest_behind, Tokens, symbol, is_empty, bumped}
use Rattle.rust_cursor.specs.declared.cursor.generics.Reach.TheVariants as reaches
use Rattle.rust_cursor.proofs.TokenRests.{LeadsTo, when, passing_leads, behind_closing_leads, behind_closed_leads, from_last, closing_empty, reached_empty}
use Rattle.rust_cursor.proofs.Steps.{passing, passing_stop, passing_end, passing_more, some_left}
use Rattle.rust_cursor.proofs.EndingTokens.{Ending, Near, Gone, gone_on, bumped_onward, taken_same, near_twins}
use Rattle.rust_cursor.proofs.PartingReaders.{Onward, into, on, by_next, cond_onward, Parting}
use Rattle.rust_cursor.proofs.Tests.{nest_same, closing_same, reached_same}
use Rattle.rust_cursor.proofs.TwinTokens.{symbol_same, symbol_test, open_same}

near_leads : {b : Ending} {ts us vs ws : Tokens} → Onward (Near b) (Gone b) ts us → LeadsTo ts vs → LeadsTo us ws → (Near b ts us → Onward (Near b) (Gone b) vs ws) → Onward (Near b) (Gone b) vs ws
near_leads o p q same = by_next o (λ g. into (gone_on g p q)) same

-- ---- what stops at the same tokens

module _ (b : Ending) (is_stop : Nest → Tokens → Bool) (is_last : Nest → Bool) (none : (n : Nest) (ts : Tokens) → is_empty ts ≡ true → is_stop n ts ≡ true)
    (same : (n : Nest) (ts us : Tokens) → Near b ts us → is_stop n us ≡ is_stop n ts) where
  passing_near : (us ts : Tokens) (n : Nest) → Near b ts us → Onward (Near b) (Gone b) (passing is_stop is_last n ts) (passing is_stop is_last n us)
  passing_near us ts n h =
      from_last (λ us. (ts : Tokens) (n : Nest) → Near b ts us → Onward (Near b) (Gone b) (passing is_stop is_last n ts) (passing is_stop is_last n us))
      (λ us empty ts n h. let s = none n us empty in
      rw (passing_stop is_stop is_last n us s, passing_stop is_stop is_last n ts (sym (same n ts us h) ∙ s)) (on h))
      (λ us some more ts n h.
      when (is_stop n ts)
      (λ s. rw (passing_stop is_stop is_last n ts s, passing_stop is_stop is_last n us (same n ts us h ∙ s)) (on h))
      (λ s. let left = some_left is_stop none n ts s in
      let s' = same n ts us h ∙ s in
      let nest = nest_same (near_twins b) n ts us h in
      let behind = nest_behind n ts in
      when (is_last behind)
      (λ f. rw (passing_end is_stop is_last n ts left s f, passing_end is_stop is_last n us some s' (ap is_last nest ∙ f)) (bumped_onward b ts us h))
      (λ f. rw (passing_more is_stop is_last n ts left s f, passing_more is_stop is_last n us some s' (ap is_last nest ∙ f), nest)
      (near_leads (bumped_onward b ts us h) (passing_leads is_stop is_last none behind (bumped ts)) (passing_leads is_stop is_last none behind (bumped us)) (λ k. more (bumped ts) behind k)))))
      us ts n h

-- ---- brackets

closing_near : (b : Ending) (bracket : ℕ) (us ts : Tokens) (n : Nest) → Near b ts us → Onward (Near b) (Gone b) (closing bracket n ts) (closing bracket n us)
unfolding closing passing
closing_near b bracket us ts n h = passing_near b (is_closing bracket) (λ _. false) (closing_empty bracket) (closing_same (near_twins b) bracket) us ts n h

behind_closing_near : (b : Ending) (bracket : ℕ) (ts us : Tokens) → Near b ts us → Onward (Near b) (Gone b) (behind_closing bracket ts) (behind_closing bracket us)
behind_closing_near b bracket ts us h =
    when (bracket == 123) (λ e. rw e (bumped_onward b ts us h)) (λ e. rw e (cond_onward (symbol_test (near_twins b) 125 ts us h) (λ _. on h) (λ _. bumped_onward b ts us h)))

pub behind_closed_near : (b : Ending) (bracket : ℕ) (ts us : Tokens) → Near b ts us → Onward (Near b) (Gone b) (behind_closed bracket ts) (behind_closed bracket us)
unfolding behind_closed to_closing
behind_closed_near b bracket ts us h =
    near_leads (closing_near b bracket us ts no_bracket h) (behind_closing_leads bracket _) (behind_closing_leads bracket _) (λ k. behind_closing_near b bracket _ _ k)

pub behind_tree_near : (b : Ending) (ts us : Tokens) → Near b ts us → Onward (Near b) (Gone b) (behind_tree ts) (behind_tree us)
unfolding behind_tree
behind_tree_near b ts us h =
    cond_onward (open_same (near_twins b) ts us h)
    (λ _. rw (symbol_same (near_twins b) ts us h) (near_leads (bumped_onward b ts us h) (behind_closed_leads (symbol ts) (bumped ts)) (behind_closed_leads (symbol ts) (bumped us)) (λ k. behind_closed_near b (symbol ts) _ _ k)))
    (λ _. bumped_onward b ts us h)

pub beyond_near : (b : Ending) (ts us ts' us' : Tokens) → Near b ts us → Near b ts' us' → Onward (Near b) (Gone b) (progress_from ts.past ts') (progress_from us.past us')
unfolding progress_from
beyond_near b ts us ts' us' h k = cond_onward (taken_same b ts us ts' us' h k) (λ _. behind_tree_near b ts' us' k) (λ _. on k)

-- ---- angle brackets

pub reached_near : (b : Ending) (r : Reach) (ts us : Tokens) → Near b ts us → Onward (Near b) (Gone b) (reach_end r ts) (reach_end r us)
unfolding reach_end reach_from passing
reached_near b r ts us h = passing_near b (is_reached r) (is_closed r) (reached_empty r) (reached_same (near_twins b) r) us ts before_type h

pub behind_angles_near : (b : Ending) (ts us : Tokens) → Near b ts us → Onward (Near b) (Gone b) (behind_angles ts) (behind_angles us)
unfolding behind_angles
behind_angles_near b ts us h = cond_onward (symbol_test (near_twins b) 60 ts us h) (λ _. reached_near b reaches.Angles ts us h) (λ _. on h)

abbrev pub near_parting : Ending → Parting
near_parting b = record {
  twins = near_twins b;
  lost = Gone b;
  lost_on = λ ts us vs ws g p q. gone_on g p q;
  closed = behind_closed_near b;
  tree = behind_tree_near b;
  angles = behind_angles_near b;
  field = reached_near b reaches.Field;
  passed = beyond_near b;
}
