-- Use trees of tokens that look alike are the same, until one goes past where the texts part; where they begin is told alike.
use Rattle.std.proofs.Common.{◌≡◌, ◌||◌, ℕ, zero, suc, Bool, true, false, Option, Some, None, List, [], ◌∷◌, ◌++◌, refl, ap, ◌∙◌, is_none, option_to_list}
use Rattle.rust_paths.proofs.Common.{PathNode, Readable, Unreadable, UseTreeView, behind_closed, one, Reader, Tokens, at, bumped, is_at_end, eat_colons, reads, sees, rule_leads, rule_until, through, Forwards, when, eat_pair_leads, behind_closed_leads, turns_leads, Onward, into, on, UntilBy, gone, kept, Parting, by_next, by_kept, cond_until, eat_pair_until, turns_by, Entering, AreAlike, no_more, one_more, alike_join, IsAlike, neither, both, alike_or, end_same, symbol_test, after_symbol, is_last_self, use_path, FoundInUse, rename, begun_trees, with_bare, tree_with_list, begun_list, with_list, star_or_list, self_in_list, with_self, self_tree, renamed_tree, tree_behind, tree_with, comma, tree_behind_comma, element_with, values, all_starts, first_too_deep, all_found, trees, some_list, no_list, list, tree_at, use_tree}
use Rattle.rust_cursor.proofs.Looks.{skipped_are, skipped_same}
use Rattle.rust_paths.specs.Paths.{self_skipped}
use Rattle.rust_paths.proofs.UseTreeRests.{tree_behind_leads, element_leads, list_leads}

-- ---- what is found

-- the same trees, where what is told of places is alike
pub record SameFound (place : ℕ → ℕ → Type 0) {A : Type 0} (f g : FoundInUse A) : Type 0 where
  pub value : g.value ≡ f.value
  pub starts : AreAlike place f.starts g.starts
  pub too_deep : IsAlike place f.too_deep g.too_deep

begun_same : (place : ℕ → ℕ → Type 0) (p : Option PathNode) (s s' : ℕ) (l l' : List ℕ) → place s s' → AreAlike place l l' → AreAlike place (begun_trees p s l) (begun_trees p s' l')
begun_same place None s s' l l' h k = one_more h k
begun_same place (Some Unreadable) s s' l l' h k = no_more
begun_same place (Some (Readable q)) s s' l l' h k = one_more h k

begun_list_same : (place : ℕ → ℕ → Type 0) (p : Option PathNode) (s s' : ℕ) (o o' : Option (List UseTreeView)) (l l' : List ℕ) → place s s' → o' ≡ o → AreAlike place l l' → AreAlike place (begun_list p s o l) (begun_list p s' o' l')
begun_list_same place None s s' None o' l l' h e k = rw e no_more
begun_list_same place None s s' (Some v) o' l l' h e k = rw e (one_more h k)
begun_list_same place (Some q) s s' o o' l l' h e k = begun_same place (Some q) s s' l l' h k

with_list_same : (place : ℕ → ℕ → Type 0) (p : Option PathNode) (s s' : ℕ) (f g : FoundInUse (Option (List UseTreeView))) → place s s' → SameFound place f g → SameFound place (with_list s p f) (with_list s' p g)
with_list_same place p s s' f g h k = record {
  value = ap (tree_with_list p) k.value;
  starts = begun_list_same place p s s' f.value g.value f.starts g.starts h k.value k.starts;
  too_deep = k.too_deep;
}

values_same : (place : ℕ → ℕ → Type 0) (fs gs : List (FoundInUse (Option UseTreeView))) → AreAlike (SameFound place) fs gs → values gs ≡ values fs
values_same place fs gs no_more = refl
values_same place fs gs (one_more {x = f} {y = g} {xs = fs'} {ys = gs'} h k) = ap (λ v. option_to_list v ++ values gs') h.value ∙ ap (λ l. option_to_list f.value ++ l) (values_same place fs' gs' k)

starts_same : (place : ℕ → ℕ → Type 0) (fs gs : List (FoundInUse (Option UseTreeView))) → AreAlike (SameFound place) fs gs → AreAlike place (all_starts fs) (all_starts gs)
starts_same place fs gs no_more = no_more
starts_same place fs gs (one_more {xs = fs'} {ys = gs'} h k) = alike_join h.starts (starts_same place fs' gs' k)

deep_same : (place : ℕ → ℕ → Type 0) (fs gs : List (FoundInUse (Option UseTreeView))) → AreAlike (SameFound place) fs gs → IsAlike place (first_too_deep fs) (first_too_deep gs)
deep_same place fs gs no_more = neither
deep_same place fs gs (one_more {xs = fs'} {ys = gs'} h k) = alike_or h.too_deep (deep_same place fs' gs' k)

all_same : (place : ℕ → ℕ → Type 0) (fs gs : List (FoundInUse (Option UseTreeView))) → AreAlike (SameFound place) fs gs → SameFound place (all_found fs) (all_found gs)
all_same place fs gs h = record { value = values_same place fs gs h; starts = starts_same place fs gs h; too_deep = deep_same place fs gs h }

-- ---- trees

pub behind_comma_onward : (b : Parting) (ts us : Tokens) → b.twins.are ts us → Onward b.twins.are b.lost (tree_behind_comma ts) (tree_behind_comma us)
behind_comma_onward b ts us h = by_kept (rule_until b comma ts us h) (λ g. into g) (λ k. on k.rest)

-- readers of what is found
abbrev pub FoundUntil : {A : Type 0} (b : Parting) → Entering b → FoundInUse A × Tokens → FoundInUse A × Tokens → Type 0
FoundUntil b e = UntilBy (SameFound e.place) b.twins.are b.lost

abbrev UpToFound : {A : Type 0} (b : Parting) → Entering b → Reader (FoundInUse A) → Type 0
UpToFound b e reader = (ts us : Tokens) → b.twins.are ts us → FoundUntil b e (reader ts) (reader us)

bare_same : (place : ℕ → ℕ → Type 0) (s s' : ℕ) (p : Option PathNode) (star : Bool) (r r' : Option _) → place s s' → r' ≡ r → SameFound place (with_bare s p star r) (with_bare s' p star r')
bare_same place s s' p star r r' a e = record { value = ap (λ z. (with_bare s p star z).value) e; starts = begun_same place p s s' [] [] a no_more; too_deep = neither }

self_same : (place : ℕ → ℕ → Type 0) (s s' i i' : ℕ) (p : Option PathNode) (r r' : Option _) → place s s' → place i i' → r' ≡ r → SameFound place (with_self s i p r) (with_self s' i' p r')
self_same place s s' i i' p r r' a c e =
    record { value = ap (λ z. Some (self_in_list p z)) e; starts = begun_same place p s s' (i ∷ []) (i' ∷ []) a (one_more c no_more); too_deep = neither }

module _ (b : Parting) (e : Entering b) (list : Reader (FoundInUse (Option (List UseTreeView)))) (l : UpToFound b e list) (f : Forwards list) where
  self_until : (s s' : ℕ) (p : Option PathNode) → e.place s s' → (ts us : Tokens) → b.twins.are ts us → sees is_last_self ts ≡ true → FoundUntil b e (self_tree s p ts) (self_tree s' p us)
  self_until s s' p a ts us h f =
      by_kept (rule_until b rename (bumped ts) (bumped us) (skipped_are b.twins is_last_self 1 ts us self_skipped h f)) (λ g. gone g)
      (λ r. kept (record { value = self_same e.place s s' (at ts) (at us) p (reads rename (bumped ts)).0 (reads rename (bumped us)).0 a (e.at_place ts us h) r.value; rest = r.rest }))

  star_or_list_until : (s s' : ℕ) (p : Option PathNode) → e.place s s' → (ts us : Tokens) → b.twins.are ts us → FoundUntil b e (star_or_list list s p ts) (star_or_list list s' p us)
  star_or_list_until s s' p a ts us h =
      cond_until (symbol_test b.twins 42 ts us h)
      (λ star. kept (record { value = bare_same e.place s s' p true None None a refl; rest = after_symbol b.twins 42 ts us refl h star }))
      (λ _. cond_until (skipped_same b.twins is_last_self 1 self_skipped ts us h) (λ f. self_until s s' p a ts us h f)
      (λ _. by_kept (l ts us h) (λ g. gone g) (λ k. kept (record { value = with_list_same e.place p s s' (list ts).0 (list us).0 a k.value; rest = k.rest }))))

  renamed_until : (s s' : ℕ) (p : Option PathNode) → e.place s s' → (ts us : Tokens) → b.twins.are ts us → FoundUntil b e (renamed_tree s p ts) (renamed_tree s' p us)
  renamed_until s s' p a ts us h =
      by_kept (rule_until b rename ts us h) (λ g. gone g) (λ r. kept (record { value = bare_same e.place s s' p false (reads rename ts).0 (reads rename us).0 a r.value; rest = r.rest }))

  tree_behind_until : (s s' : ℕ) (p p' : Option PathNode) (j j' : Bool) → e.place s s' → p' ≡ p → j' ≡ j → (ts us : Tokens) → b.twins.are ts us
      → FoundUntil b e (tree_behind list s p j ts) (tree_behind list s' p' j' us)
  tree_behind_until s s' p p' j j' a same i ts us h =
      rw (same, i) (when (j || is_none p) (λ t. rw t (star_or_list_until s s' p a ts us h)) (λ t. rw t (renamed_until s s' p a ts us h)))

  tree_until : UpToFound b e (tree_with list)
  tree_until ts us h =
      let p = reads use_path ts in
      let p' = reads use_path us in
      let c = eat_colons p.1 in
      let c' = eat_colons p'.1 in
      let more = tree_behind_leads list f (at ts) p.0 c.0 c.1 in
      let more' = tree_behind_leads list f (at us) p'.0 c'.0 c'.1 in
      by_kept (rule_until b use_path ts us h) (λ g. gone (b.lost_on _ _ _ _ g (through (eat_pair_leads 58 58 p.1) more) (through (eat_pair_leads 58 58 p'.1) more')))
      (λ k. by_kept (eat_pair_until b 58 58 refl refl p.1 p'.1 k.rest) (λ g. gone (b.lost_on _ _ _ _ g more more'))
      (λ m. tree_behind_until (at ts) (at us) p.0 p'.0 c.0 c'.0 (e.at_place ts us h) k.value m.value c.1 c'.1 m.rest))

  element_until : UpToFound b e (element_with list)
  element_until ts us h =
      by_kept (tree_until ts us h) (λ g. gone (b.lost_on _ _ _ _ g (rule_leads comma (tree_with list ts).1) (rule_leads comma (tree_with list us).1)))
      (λ k. by_next (behind_comma_onward b (tree_with list ts).1 (tree_with list us).1 k.rest) (λ g. gone g) (λ n. kept (record { value = k.value; rest = n })))

  found_until : (ts us : Tokens) → b.twins.are ts us → UntilBy (AreAlike (SameFound e.place)) b.twins.are b.lost (one (element_with list) ts) (one (element_with list) us)
  found_until ts us h = by_kept (element_until ts us h) (λ g. gone g) (λ k. kept (record { value = one_more k.value no_more; rest = k.rest }))

  trees_leads : Forwards (trees (element_with list))
  trees_leads ts = turns_leads is_at_end (one (element_with list)) (element_leads list f) ts

  -- behind the `{` of a list
  trees_until : (ts us : Tokens) → b.twins.are ts us → FoundUntil b e (trees (element_with list) ts) (trees (element_with list) us)
  trees_until ts us h =
      by_kept (turns_by b (AreAlike (SameFound e.place)) (λ xs xs' ys ys' h k. alike_join h k) is_at_end (end_same b.twins) (one (element_with list)) (one (element_with list)) found_until (element_leads list f) (element_leads list f) no_more ts us h)
      (λ g. gone g) (λ k. kept (record { value = all_same e.place _ _ k.value; rest = k.rest }))

  some_list_until : (ts us : Tokens) → b.twins.are ts us
      → FoundUntil b e (some_list (trees (element_with list) (bumped ts)).0, behind_closed 123 (trees (element_with list) (bumped ts)).1) (some_list (trees (element_with list) (bumped us)).0, behind_closed 123 (trees (element_with list) (bumped us)).1)
  some_list_until ts us h =
      let r = trees (element_with list) (bumped ts) in
      let r' = trees (element_with list) (bumped us) in
      by_next (e.onward ts us h) (λ g. gone (b.lost_on _ _ _ _ g (through (trees_leads (bumped ts)) (behind_closed_leads 123 r.1)) (through (trees_leads (bumped us)) (behind_closed_leads 123 r'.1))))
      (λ n. by_kept (trees_until (bumped ts) (bumped us) n) (λ g. gone (b.lost_on _ _ _ _ g (behind_closed_leads 123 r.1) (behind_closed_leads 123 r'.1)))
      (λ k. by_next (b.closed 123 r.1 r'.1 k.rest) (λ g. gone g)
      (λ m. kept (record { value = record { value = ap Some k.value.value; starts = k.value.starts; too_deep = k.value.too_deep }; rest = m }))))

nothing_until : (b : Parting) (e : Entering b) (ts us : Tokens) → b.twins.are ts us → FoundUntil b e (no_list None, ts) (no_list None, us)
nothing_until b e ts us h = kept (record { value = record { value = refl; starts = no_more; too_deep = neither }; rest = h })

list_until : (b : Parting) (e : Entering b) (depth : ℕ) → UpToFound b e (list depth)
unfolding list
list_until b e zero ts us h =
    cond_until (symbol_test b.twins 123 ts us h)
    (λ _. by_next (b.tree ts us h) (λ g. gone g) (λ n. kept (record { value = record { value = refl; starts = no_more; too_deep = both (e.at_place ts us h) }; rest = n })))
    (λ _. nothing_until b e ts us h)
list_until b e (suc depth) ts us h =
    cond_until (symbol_test b.twins 123 ts us h) (λ _. some_list_until b e (list depth) (list_until b e depth) (list_leads depth) ts us h) (λ _. nothing_until b e ts us h)

pub use_tree_until : (b : Parting) (e : Entering b) (ts us : Tokens) → b.twins.are ts us → FoundUntil b e (use_tree ts) (use_tree us)
unfolding use_tree tree_at
use_tree_until b e ts us h = tree_until b e (list 128) (list_until b e 128) (list_leads 128) ts us h
