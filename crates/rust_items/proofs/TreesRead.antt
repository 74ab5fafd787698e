-- Where a use tree tells that trees begin, those of it that can be read are read.
use Rattle.std.proofs.Common.{◌≡◌, ◌==◌, ◌||◌, ℕ, zero, suc, Bool, true, false, Option, Some, None, List, [], ◌∷◌, ◌++◌, codes, refl, sym, ap, ◌∙◌, subst, append-nil, append_assoc, arith, is_none, option_map, option_to_list, not, bytes_eq, if◌then◌else◌}
use Rattle.rust_items.proofs.Common.{AllZip, PathNode, UseTreeView, trees_from, Tokens, symbol, word, kind, at, is_empty, is_pair, eat_pair, bumped, is_at_end, eat_colons, most_tokens, progress_from, turns_from, turns, elements, one, LeadsTo, here, through, when, bumped_leads, eat_pair_leads, behind_closed_leads, behind_tree_leads, beyond_leads, turns_leads, Takes, takes, takes_behind, takes_before, symbol_some, word_none, next_name, name, placed_name, taken_with, is_raw, is_dollar_crate, other_segment, segment, more_segments, front_of_path, written_path, is_path_start, use_path, FoundInUse, begun_trees, begun_list, values, all_starts, bare_tree, tree_with_list, star_or_list, tree_behind, tree_with, tree_at, element_with, list, rename, use_tree, placed_next, list_leads, element_leads, is_readable, all_readable_trees, readable_trees, written_trees}
use Rattle.hir_input.specs.declared.ast.PathNode.TheVariants.{Readable, Unreadable}
use Rattle.hir_input.specs.declared.ast.Rename.{Rename}
use Rattle.hir_input.specs.Words.{PathWord, name_word}
use Rattle.rust_cursor.specs.Reader.{Reader}
use Rattle.rust_paths.specs.Meaning.{path_node}
use Rattle.rust_paths.specs.Paths.{is_colons, is_last_self}
use Rattle.rust_paths.specs.UseTrees.{self_in_list, self_path}
use Rattle.rust_paths.proofs.Trees.{self_reads}
use Rattle.std.proofs.lemmas.Bool.{and_parts}
use Rattle.rust_cursor.specs.Grammar.{reads}
use Rattle.rust_cursor.specs.Looks.{sees}
use Rattle.rust_cursor.proofs.Rules.{rule_leads}
use Rattle.rust_paths.specs.UseTrees.{comma}

-- ---- lists side by side

pub both_zip : {A B : Type 0} (R : A → B → Type 0) (xs us : List A) (ys ws : List B) → AllZip R xs ys → AllZip R us ws → AllZip R (xs ++ us) (ys ++ ws)
both_zip R [] us [] ws p q = q
both_zip R (x ∷ xs) us (y ∷ ys) ws p q = (p.0, both_zip R xs us ys ws p.1 q)
both_zip R _ us _ ws p q = absurd p

pub zip_is : {A B : Type 0} (R S : A → B → Type 0) → ((x : A) (y : B) → R x y → S x y) → (xs : List A) (ys : List B) → AllZip R xs ys → AllZip S xs ys
zip_is R S f [] [] p = tt
zip_is R S f (x ∷ xs) (y ∷ ys) p = (f x y p.0, zip_is R S f xs ys p.1)
zip_is R S f _ _ p = absurd p

-- ---- a path that is read is of tokens

pub word_some : (keyword : List ℕ) → bytes_eq [] keyword ≡ false → (ts : Tokens) → bytes_eq (word ts) keyword ≡ true → is_empty ts ≡ false
word_some keyword some ts e = when (is_empty ts) (λ h. let none = word_none ts h in let wrong : bytes_eq [] keyword ≡ true = rw none at e in absurd cc) (λ h. h)

name_some : (ts : Tokens) (n : List ℕ) → next_name ts ≡ Some n → is_empty ts ≡ false
unfolding placed_name name next_name
name_some ts n e = (placed_next ts (record { name = n; start = at ts; end = (bumped ts).past }) (rw e refl)).some

-- a segment that means something is a token
abbrev SegmentTakes : Option PathWord → Tokens → Tokens → Type 0
SegmentTakes None ts us = Unit {0}
SegmentTakes (Some w) ts us = Takes ts us

keyword_takes : (keyword : List ℕ) → bytes_eq [] keyword ≡ false → (ts : Tokens) → bytes_eq (word ts) keyword ≡ true → Takes ts (bumped ts)
keyword_takes keyword some ts e = takes ts here (word_some keyword some ts e) here

raw_takes : (ts : Tokens) (o : Option (List ℕ)) → next_name ts ≡ o → SegmentTakes (option_map name_word o) ts (bumped ts)
raw_takes ts None e = tt
raw_takes ts (Some n) e = takes ts here (name_some ts n e) here

name_takes : (ts : Tokens) (o : Option (List ℕ)) → next_name ts ≡ o → SegmentTakes (option_map name_word (taken_with o ts).0) ts (taken_with o ts).1
name_takes ts None e = tt
name_takes ts (Some n) e = takes ts here (name_some ts n e) here

other_takes : (ts : Tokens) → SegmentTakes (reads other_segment ts).0 ts (reads other_segment ts).1
unfolding other_segment name next_name
other_takes ts =
    when (symbol ts == 60) (λ e. rw e tt)
    (λ e. rw e (when (sees is_dollar_crate ts) (λ f. rw f tt)
    (λ f. rw f (when (is_raw (kind ts)) (λ g. rw g (raw_takes ts (next_name ts) refl)) (λ g. rw g (name_takes ts (next_name ts) refl))))))

segment_takes : (ts : Tokens) → SegmentTakes (reads segment ts).0 ts (reads segment ts).1
unfolding segment
segment_takes ts =
    when (bytes_eq (word ts) (codes "self")) (λ e. rw e (keyword_takes (codes "self") refl ts e))
    (λ e. rw e (when (bytes_eq (word ts) (codes "super")) (λ f. rw f (keyword_takes (codes "super") refl ts f))
    (λ f. rw f (when (bytes_eq (word ts) (codes "crate")) (λ g. rw g (keyword_takes (codes "crate") refl ts g))
    (λ g. rw g (when (bytes_eq (word ts) (codes "Self")) (λ h. rw h tt) (λ h. rw h (other_takes ts))))))))

-- so is a path
abbrev PathTakes : Option PathNode → Tokens → Tokens → Type 0
PathTakes (Some (Readable q)) ts us = Takes ts us
PathTakes _ ts us = Unit {0}

path_any : (p : Option PathNode) (ts us : Tokens) → Takes ts us → PathTakes p ts us
path_any (Some (Readable q)) ts us t = t
path_any _ ts us t = tt

path_first : (o : Option PathWord) (more : List (Option PathWord)) (ts us vs : Tokens) → SegmentTakes o ts us → LeadsTo us vs → PathTakes (Some (path_node (o ∷ more))) ts vs
path_first None more ts us vs t p = tt
path_first (Some w) more ts us vs t p = path_any (Some (path_node (Some w ∷ more))) ts vs (takes_before t p)

pair_some : (ts : Tokens) → is_pair 58 58 ts ≡ true → is_empty ts ≡ false
unfolding is_pair
pair_some ts e = when (symbol ts == 58) (λ f. symbol_some 58 ts (omega arith) f) (λ f. let wrong : false ≡ true = rw f at e in absurd cc)

-- a path behind `::`, or one that begins there
written_behind : (t : Bool) (ts : Tokens) → is_pair 58 58 ts ≡ t
    → (let us = if t then bumped (bumped ts) else ts in
    PathTakes (Some (path_node (front_of_path t ((reads segment us).0 ∷ (reads (more_segments true) (reads segment us).1).0)))) ts (reads (more_segments true) (reads segment us).1).1)
written_behind true ts e =
    path_any (Some (path_node (front_of_path true ((reads segment (bumped (bumped ts))).0 ∷ (reads (more_segments true) (reads segment (bumped (bumped ts))).1).0)))) ts _
    (takes ts here (pair_some ts e) (through (bumped_leads _) (through (rule_leads segment _) (rule_leads (more_segments true) _))))
written_behind false ts e = path_first (reads segment ts).0 (reads (more_segments true) (reads segment ts).1).0 ts (reads segment ts).1 _ (segment_takes ts) (rule_leads (more_segments true) _)

written_takes : (ts : Tokens) → PathTakes (Some (reads (written_path true) ts).0) ts (reads (written_path true) ts).1
unfolding eat_pair
written_takes ts = written_behind (is_pair 58 58 ts) ts refl

path_takes : (ts : Tokens) → PathTakes (reads use_path ts).0 ts (reads use_path ts).1
unfolding use_path
path_takes ts = when (sees (is_path_start true) ts) (λ e. rw e (written_takes ts)) (λ e. rw e tt)

path_further : (p : Option PathNode) (ts us vs : Tokens) → PathTakes p ts us → LeadsTo us vs → PathTakes p ts vs
path_further (Some (Readable q)) ts us vs t p = takes_before t p
path_further _ ts us vs t p = tt

-- ---- where a tree is read

-- a tree is read behind tokens and before others, and is of a token at least
pub record IsRead (ts us : Tokens) (start : ℕ) (w : UseTreeView) : Type 0 where
  pub from : Tokens
  pub before : LeadsTo ts from
  pub taken : Takes from us
  pub first : at from ≡ start
  pub depth : ℕ
  pub tree : (tree_at depth from).0.value ≡ Some w

pub read_around : {ts from us vs : Tokens} → LeadsTo ts from → LeadsTo us vs → (start : ℕ) (w : UseTreeView) → IsRead from us start w → IsRead ts vs start w
read_around p q start w r = record { from = r.from; before = through p r.before; taken = takes_before r.taken q; first = r.first; depth = r.depth; tree = r.tree }

readable_in : List UseTreeView → List UseTreeView
readable_in ws = all_readable_trees (trees_from ws)

-- a list's trees stand at these places, and where there is no list, there are none
IsListed : (ℕ → UseTreeView → Type 0) → List ℕ → Option (List UseTreeView) → Type 0
IsListed R ss None = ss ≡ []
IsListed R ss (Some ws) = AllZip R ss (readable_in ws)

listed_is : (R S : ℕ → UseTreeView → Type 0) → ((x : ℕ) (t : UseTreeView) → R x t → S x t) → (ss : List ℕ) (l : Option (List UseTreeView)) → IsListed R ss l → IsListed S ss l
unfolding IsListed
listed_is R S f ss None h = h
listed_is R S f ss (Some ws) h = zip_is R S f ss (readable_in ws) h

module _ (R : ℕ → UseTreeView → Type 0) (start : ℕ) where
  bare_at : (p : Option PathNode) (star : Bool) (r : Option Rename) → (is_readable p ≡ true → R start (bare_tree p star r)) → AllZip R (begun_trees p start []) (readable_trees (bare_tree p star r))
  bare_at None star r root = (root refl, tt)
  bare_at (Some Unreadable) star r root = tt
  bare_at (Some (Readable q)) star r root = (root refl, tt)

  self_at : (p : Option PathNode) (inner : ℕ) (r : Option Rename) → (is_readable p ≡ true → R start (self_in_list p r)) → R inner (bare_tree (Some self_path) false r) → AllZip R (begun_trees p start (inner ∷ [])) (readable_trees (self_in_list p r))
  self_at None inner r root below = (root refl, (below, tt))
  self_at (Some Unreadable) inner r root below = tt
  self_at (Some (Readable q)) inner r root below = (root refl, (below, tt))

  none_below : (ss : List ℕ) → ss ≡ [] → AllZip R ss []
  none_below ss e = subst (λ (l : List ℕ). AllZip R l []) (sym e) tt

  listed_at : (p : Option PathNode) (ss : List ℕ) (l : Option (List UseTreeView)) → IsListed R ss l → (is_readable p ≡ true → (w : UseTreeView) → tree_with_list p l ≡ Some w → R start w)
      → AllZip R (begun_list p start l ss) (written_trees (tree_with_list p l))
  unfolding IsListed readable_in
  listed_at None ss None h root = tt
  listed_at (Some Unreadable) ss None h root = tt
  listed_at (Some (Readable q)) ss None h root = (root refl _ refl, none_below ss h)
  listed_at None ss (Some ws) h root = (root refl _ refl, h)
  listed_at (Some Unreadable) ss (Some ws) h root = tt
  listed_at (Some (Readable q)) ss (Some ws) h root = (root refl _ refl, h)

-- ---- what is told of what is read

record ListTold (ts : Tokens) (l : FoundInUse (Option (List UseTreeView)) × Tokens) : Type 0 where
  each : IsListed (IsRead ts l.1) l.0.starts l.0.value
  leads : LeadsTo ts l.1
  some : (ws : List UseTreeView) → l.0.value ≡ Some ws → Takes ts l.1

abbrev TreeTold : Tokens → FoundInUse (Option UseTreeView) × Tokens → Type 0
TreeTold ts t = AllZip (IsRead ts t.1) t.0.starts (written_trees t.0.value)

-- a tree with a list that has a readable path, or none, is of tokens
listed_takes : (p : Option PathNode) (l : Option (List UseTreeView)) (ts us vs : Tokens) → PathTakes p ts us → LeadsTo us vs → ((ws : List UseTreeView) → l ≡ Some ws → Takes ts vs)
    → is_readable p ≡ true → (w : UseTreeView) → tree_with_list p l ≡ Some w → Takes ts vs
listed_takes None None ts us vs t p some r w e = absurd cc
listed_takes None (Some ws) ts us vs t p some r w e = some ws refl
listed_takes (Some Unreadable) l ts us vs t p some r w e = absurd cc
listed_takes (Some (Readable q)) l ts us vs t p some r w e = takes_before t p

either_none : (a b : Bool) → (a || b) ≡ false → b ≡ false
either_none true b e = absurd cc
either_none false b e = e

bare_takes : (p : Option PathNode) (ts us vs : Tokens) → PathTakes p ts us → LeadsTo us vs → is_none p ≡ false → is_readable p ≡ true → Takes ts vs
bare_takes (Some (Readable q)) ts us vs t p e r = takes_before t p
bare_takes _ ts us vs t p e r = absurd cc

self_some : (ts : Tokens) → sees is_last_self ts ≡ true → is_empty ts ≡ false
unfolding is_last_self
self_some ts e = word_some (codes "self") refl ts (and_parts (bytes_eq (word ts) (codes "self")) (not (sees is_colons (bumped ts))) e).0

module _ (depth : ℕ) (h : (ts : Tokens) → ListTold ts (list depth ts)) (ts us : Tokens) (p : Option PathNode) (leads : LeadsTo ts us) (path : PathTakes p ts us) where
  -- the tree that is read from here on is this
  IsTree : Option UseTreeView → Type 0
  IsTree o = (w : UseTreeView) → o ≡ Some w → (tree_at depth ts).0.value ≡ Some w

  root_read : (vs : Tokens) → Takes ts vs → (w : UseTreeView) → (tree_at depth ts).0.value ≡ Some w → IsRead ts vs (at ts) w
  root_read vs t w e = record { from = ts; before = here; taken = t; first = refl; depth = depth; tree = e }

  self_told : (symbol us == 42) ≡ false → sees is_last_self us ≡ true → IsTree (star_or_list (list depth) (at ts) p us).0.value → TreeTold ts (star_or_list (list depth) (at ts) p us)
  unfolding IsTree
  self_told e f is =
      let r = reads rename (bumped us) in
      let v : (star_or_list (list depth) (at ts) p us).0.value ≡ Some (self_in_list p r.0) = rw (e, f) refl in
      let some = self_some us f in
      rw (e, f) (self_at (IsRead ts r.1) (at ts) p (at us) r.0 (λ g. root_read r.1 (takes us leads some (rule_leads rename (bumped us))) _ (is _ v))
      (record { from = us; before = leads; taken = takes us here some (rule_leads rename (bumped us)); first = refl; depth = depth; tree = self_reads depth us f }))

  star_told : IsTree (star_or_list (list depth) (at ts) p us).0.value → TreeTold ts (star_or_list (list depth) (at ts) p us)
  unfolding IsTree
  star_told is =
      when (symbol us == 42)
      (λ e.
      let v : (star_or_list (list depth) (at ts) p us).0.value ≡ Some (bare_tree p true None) = rw e refl in
      let some = takes us leads (symbol_some 42 us (omega arith) e) here in
      rw e (bare_at (IsRead ts (bumped us)) (at ts) p true None (λ r. root_read (bumped us) some _ (is _ v))))
      (λ e. when (sees is_last_self us) (λ f. self_told e f is)
      (λ f.
      let v : (star_or_list (list depth) (at ts) p us).0.value ≡ tree_with_list p (list depth us).0.value = rw (e, f) refl in
      let told = h us in
      let inner = listed_is (IsRead us (list depth us).1) (IsRead ts (list depth us).1) (read_around leads here) (list depth us).0.starts (list depth us).0.value told.each in
      rw (e, f) (listed_at (IsRead ts (list depth us).1) (at ts) p (list depth us).0.starts (list depth us).0.value inner
      (λ r w g. root_read (list depth us).1 (listed_takes p (list depth us).0.value ts us (list depth us).1 path told.leads (λ ws k. takes_behind leads (told.some ws k)) r w g) w (is w (v ∙ g))))))

  behind_told : (joined : Bool) → IsTree (tree_behind (list depth) (at ts) p joined us).0.value → TreeTold ts (tree_behind (list depth) (at ts) p joined us)
  unfolding IsTree
  behind_told joined is =
      when (joined || is_none p)
      (λ e.
      let v : (tree_behind (list depth) (at ts) p joined us).0.value ≡ (star_or_list (list depth) (at ts) p us).0.value = rw e refl in
      let all = star_told (λ w f. is w (v ∙ f)) in
      rw e all)
      (λ e.
      let v : (tree_behind (list depth) (at ts) p joined us).0.value ≡ Some (bare_tree p false (reads rename us).0) = rw e refl in
      let some = either_none joined (is_none p) e in
      rw e (bare_at (IsRead ts (reads rename us).1) (at ts) p false (reads rename us).0 (λ r. root_read (reads rename us).1 (bare_takes p ts us (reads rename us).1 path (rule_leads rename us) some r) _ (is _ v))))

module _ (depth : ℕ) (h : (ts : Tokens) → ListTold ts (list depth ts)) where
  tree_told : (ts : Tokens) → TreeTold ts (tree_with (list depth) ts)
  unfolding tree_at IsTree
  tree_told ts =
      let colons = eat_pair_leads 58 58 (reads use_path ts).1 in
      behind_told depth h ts (eat_colons (reads use_path ts).1).1 (reads use_path ts).0 (through (rule_leads use_path ts) colons) (path_further (reads use_path ts).0 ts (reads use_path ts).1 (eat_colons (reads use_path ts).1).1 (path_takes ts) colons) (eat_colons (reads use_path ts).1).0 (λ w e. e)

  element_told : (ts : Tokens) → TreeTold ts (element_with (list depth) ts)
  element_told ts =
      let t = tree_with (list depth) ts in
      zip_is (IsRead ts t.1) (IsRead ts (element_with (list depth) ts).1) (read_around here (rule_leads comma t.1)) t.0.starts (written_trees t.0.value) (tree_told ts)

-- ---- lists

readable_both : (a b : List UseTreeView) → readable_in (a ++ b) ≡ readable_in a ++ readable_in b
unfolding readable_in
readable_both [] b = refl
readable_both (w ∷ a) b = ap (λ ns. readable_trees w ++ ns) (readable_both a b) ∙ sym (append_assoc (readable_trees w) (readable_in a) (readable_in b))

readable_option : (w : Option UseTreeView) → readable_in (option_to_list w) ≡ written_trees w
unfolding readable_in
readable_option None = refl
readable_option (Some w) = append-nil (readable_trees w)

pub values_push : (fs : List (FoundInUse (Option UseTreeView))) (f : FoundInUse (Option UseTreeView)) → values (fs ++ f ∷ []) ≡ values fs ++ option_to_list f.value
values_push [] f = append-nil (option_to_list f.value)
values_push (g ∷ fs) f = ap (λ ws. option_to_list g.value ++ ws) (values_push fs f) ∙ sym (append_assoc (option_to_list g.value) (values fs) (option_to_list f.value))

pub starts_push : (fs : List (FoundInUse (Option UseTreeView))) (f : FoundInUse (Option UseTreeView)) → all_starts (fs ++ f ∷ []) ≡ all_starts fs ++ f.starts
starts_push [] f = append-nil f.starts
starts_push (g ∷ fs) f = ap (λ ss. g.starts ++ ss) (starts_push fs f) ∙ sym (append_assoc g.starts (all_starts fs) f.starts)

readable_push : (fs : List (FoundInUse (Option UseTreeView))) (f : FoundInUse (Option UseTreeView)) → readable_in (values (fs ++ f ∷ [])) ≡ readable_in (values fs) ++ written_trees f.value
readable_push fs f = ap readable_in (values_push fs f) ∙ readable_both (values fs) (option_to_list f.value) ∙ ap (λ ns. readable_in (values fs) ++ ns) (readable_option f.value)

module _ (read : Reader (FoundInUse (Option UseTreeView))) (h : (ts : Tokens) → TreeTold ts (read ts)) (l : (ts : Tokens) → LeadsTo ts (read ts).1) (base : Tokens) where
  abbrev Told : Tokens → List (FoundInUse (Option UseTreeView)) → Type 0
  Told us fs = AllZip (IsRead base us) (all_starts fs) (readable_in (values fs))

  told_on : {us vs : Tokens} (fs : List (FoundInUse (Option UseTreeView))) → LeadsTo us vs → Told us fs → Told vs fs
  told_on {us} {vs} fs p e = zip_is (IsRead base us) (IsRead base vs) (read_around here p) (all_starts fs) (readable_in (values fs)) e

  more_told : (fs : List (FoundInUse (Option UseTreeView))) (ts : Tokens) → LeadsTo base ts → Told ts fs → Told (read ts).1 (fs ++ (read ts).0 ∷ [])
  more_told fs ts p e =
      let f = (read ts).0 in
      let us = (read ts).1 in
      let next = zip_is (IsRead ts us) (IsRead base us) (read_around p here) f.starts (written_trees f.value) (h ts) in
      let both = both_zip (IsRead base us) (all_starts fs) f.starts (readable_in (values fs)) (written_trees f.value) (told_on fs (l ts) e) next in
      subst (λ (ss : List ℕ). AllZip (IsRead base us) ss (readable_in (values (fs ++ f ∷ [])))) (sym (starts_push fs f)) (subst (AllZip (IsRead base us) (all_starts fs ++ f.starts)) (sym (readable_push fs f)) both)

  turns_told : (n : ℕ) (fs : List (FoundInUse (Option UseTreeView))) (ts : Tokens) → LeadsTo base ts → Told ts fs
      → Told (turns_from is_at_end (one read) n fs ts).1 (turns_from is_at_end (one read) n fs ts).0 × LeadsTo base (turns_from is_at_end (one read) n fs ts).1
  turns_told zero fs ts p e = (e, p)
  turns_told (suc n) fs ts p e =
      when (is_at_end ts) (λ s. rw s (e, p))
      (λ s.
      let past = beyond_leads ts.past (read ts).1 in
      rw s (turns_told n (fs ++ (read ts).0 ∷ []) (progress_from ts.past (read ts).1) (through p (through (l ts) past)) (told_on (fs ++ (read ts).0 ∷ []) past (more_told fs ts p e))))

  elements_told : (ts : Tokens) → LeadsTo base ts → Told (elements (one read) ts).1 (elements (one read) ts).0 × LeadsTo base (elements (one read) ts).1
  unfolding turns readable_in
  elements_told ts p = turns_told most_tokens [] ts p tt

list_none : (ts : Tokens) (o : Option ℕ) (us : Tokens) → LeadsTo ts us → ListTold ts (record { value = None; starts = []; too_deep = o }, us)
unfolding IsListed
list_none ts o us p = record { each = refl; leads = p; some = λ ws e. absurd cc }

list_told : (depth : ℕ) (ts : Tokens) → ListTold ts (list depth ts)
unfolding list IsListed
list_told zero ts = when (symbol ts == 123) (λ e. rw e (list_none ts _ _ (behind_tree_leads ts))) (λ e. rw e (list_none ts _ _ here))
list_told (suc depth) ts =
    when (symbol ts == 123)
    (λ e.
    let element = element_with (list depth) in
    let all = elements_told element (element_told depth (list_told depth)) (element_leads (list depth) (list_leads depth)) ts (bumped ts) (bumped_leads ts) in
    let close = behind_closed_leads 123 (elements (one element) (bumped ts)).1 in
    rw e (record {
      each = zip_is _ _ (read_around here close) _ _ all.0;
      leads = through all.1 close;
      some = λ ws f. takes ts here (symbol_some 123 ts (omega arith) e) (through (turns_leads is_at_end (one element) (element_leads (list depth) (list_leads depth)) (bumped ts)) close);
    }))
    (λ e. rw e (list_none ts _ _ here))

-- where a use tree tells that trees begin, those of it that can be read are read, in their order
pub use_tree_told : (ts : Tokens) → AllZip (IsRead ts (use_tree ts).1) (use_tree ts).0.starts (written_trees (use_tree ts).0.value)
unfolding use_tree tree_at
use_tree_told ts = tree_told 128 (list_told 128) ts
