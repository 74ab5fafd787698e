-- Where a name stands, and that what is left behind use trees is left of the tokens before them.
use Rattle.std.proofs.Common.{◌≡◌, ◌==◌, ◌||◌, ℕ, zero, suc, Bool, true, false, Option, Some, None, List, [], ◌∷◌, refl, sym, ap, is_none}
use Rattle.rust_paths.proofs.Common.{PathNode, UseTreeView, Piece, Tokens, Reader, symbol, kind, at, by_first, is_empty, bumped, is_at_end, one, sees, taken_with, rule_leads, identifier_symbol, further, here, through, Forwards, when, bumped_leads, eat_pair_leads, behind_closed_leads, behind_tree_leads, turns_leads, Placed, placed_if, identifier_name, next_name, name, placed_name, is_last_self, use_path, FoundInUse, rename, star_or_list, renamed_tree, tree_behind, tree_with, comma, element_with, list, tree_at, use_tree}

-- ---- where a name stands

pub placed_name_leads : Forwards placed_name
unfolding placed_name
placed_name_leads ts = rule_leads name ts

-- a name has no symbol
pub name_symbol : (n : List ℕ) (ts : Tokens) → next_name ts ≡ Some n → symbol ts ≡ 0
unfolding next_name
name_symbol n ts e = identifier_symbol identifier_name n ts e

kind_none : (left : List Piece) → by_first true (λ _. false) left ≡ true → by_first None (λ t. Some t.kind) left ≡ None
kind_none [] e = refl
kind_none (t ∷ ts) e = absurd cc

no_name : (ts : Tokens) → is_empty ts ≡ true → next_name ts ≡ None
unfolding is_empty kind next_name
no_name ts e = let none : by_first None (λ t. Some t.kind) ts.left ≡ None = kind_none ts.left e in rw none refl

-- where there is a name, a token comes next
name_some : (ts : Tokens) (n : List ℕ) → next_name ts ≡ Some n → is_empty ts ≡ false
name_some ts n e = when (is_empty ts) (λ h. let none = no_name ts h in absurd cc) (λ h. h)

-- the name is the next token
pub record IsNext (ts : Tokens) (p : Placed) : Type 0 where
  pub some : is_empty ts ≡ false
  pub start : p.start ≡ at ts
  pub end : p.end ≡ (bumped ts).past
  pub left : (placed_name ts).1 ≡ bumped ts

placed_as : (ts : Tokens) (o : Option (List ℕ)) (p : Placed) → next_name ts ≡ o → placed_if (at ts) (taken_with o ts).0 (taken_with o ts).1.past ≡ Some p
    → (is_empty ts ≡ false) × (p.start ≡ at ts) × (p.end ≡ (bumped ts).past) × ((taken_with o ts).1 ≡ bumped ts)
placed_as ts None p n e = absurd cc
placed_as ts (Some name) p n e =
    let same : record { name = name; start = at ts; end = (bumped ts).past } ≡ p = cc in
    (name_some ts name n, sym (ap (λ q. q.start) same), sym (ap (λ q. q.end) same), refl)

pub placed_next : (ts : Tokens) (p : Placed) → (placed_name ts).0 ≡ Some p → IsNext ts p
unfolding placed_name name next_name
placed_next ts p e =
    let n = placed_as ts (next_name ts) p refl e in
    record { some = n.0; start = n.1; end = n.2; left = n.3 }

-- ---- use trees

star_or_list_leads : (list : Reader (FoundInUse (Option (List UseTreeView)))) → Forwards list → (start : ℕ) (p : Option PathNode) → Forwards (star_or_list list start p)
star_or_list_leads list l start p ts =
    when (symbol ts == 42) (λ e. rw e (bumped_leads ts))
    (λ e. rw e (when (sees is_last_self ts) (λ f. rw f (further (rule_leads rename _))) (λ f. rw f (l ts))))

renamed_tree_leads : (start : ℕ) (p : Option PathNode) → Forwards (renamed_tree start p)
renamed_tree_leads start p ts = rule_leads rename ts

pub tree_behind_leads : (list : Reader (FoundInUse (Option (List UseTreeView)))) → Forwards list → (start : ℕ) (p : Option PathNode) (joined : Bool) → Forwards (tree_behind list start p joined)
tree_behind_leads list l start p joined ts =
    when (joined || is_none p) (λ e. rw e (star_or_list_leads list l start p ts)) (λ e. rw e (renamed_tree_leads start p ts))

pub tree_leads : (list : Reader (FoundInUse (Option (List UseTreeView)))) → Forwards list → Forwards (tree_with list)
tree_leads list l ts = through (rule_leads use_path ts) (through (eat_pair_leads _ _ _) (tree_behind_leads list l _ _ _ _))

pub element_leads : (list : Reader (FoundInUse (Option (List UseTreeView)))) → Forwards list → Forwards (element_with list)
element_leads list l ts = through (tree_leads list l ts) (rule_leads comma _)

pub list_leads : (depth : ℕ) → Forwards (list depth)
unfolding list
list_leads zero ts = when (symbol ts == 123) (λ e. rw e (behind_tree_leads ts)) (λ e. rw e here)
list_leads (suc depth) ts =
    when (symbol ts == 123)
    (λ e. rw e (further (through (turns_leads is_at_end (one (element_with (list depth))) (element_leads (list depth) (list_leads depth)) _) (behind_closed_leads _ _))))
    (λ e. rw e here)

pub use_tree_leads : Forwards use_tree
unfolding use_tree tree_at
use_tree_leads ts = tree_leads _ (list_leads _) ts
