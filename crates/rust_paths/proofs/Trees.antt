-- Steps over use trees.
use Rattle.std.proofs.Common.{◌≡◌, ◌≢◌, ◌==◌, ◌<◌, ◌+◌, ◌-◌, ℕ, zero, suc, Bool, true, false, List, [], ◌∷◌, ◌++◌, map, Option, Some, None, option_map, refl, sym, ap, ◌∙◌, not, codes, bytes_eq, rules, arith, append_assoc, append-nil, Vec, Global, option_to_list}
use Rattle.rust_paths.proofs.Common.{option_or, ne_eqb, PathNode, UseTreeView, use_tree_view, tree_from, Tokens, Reader, symbol, word, at, bumped, eat_colons, is_at_end, behind_closed, behind_tree, progress_from, turns_from, one, FoundInUse, and_parts, self_word, is_colons, is_last_self, is_path_colons, is_path_keyword, is_path_start, is_segment, segment, more_segments, use_path, bare_tree, self_path, rename, tree_at, comma_from, reads, sees, list, element, trees, some_list, no_list, values, all_starts, first_too_deep}
use Rattle.hir_input.specs.declared.ast.Rename.{Rename}
use Rattle.hir_input.specs.declared.ast.UseTree.{UseTree, the_lemmas}
use Rattle.hir_input.specs.declared.ast.UseTree.TheViews.{roll-UseTree}
use Rattle.std.proofs.lemmas.Bool.{not-true}
use Rattle.std.proofs.lemmas.Slice.Eq.{bytes_eq-Decides}
use Rattle.rust_cursor.specs.Words.{eat_pair, is_pair}
use Rattle.rust_cursor.proofs.WithinBrackets.{word_symbol}
use Rattle.rust_cursor.proofs.Turns.{turns_stop}
use Rattle.rust_paths.proofs.Steps.{more_stop}

pub use_tree_view_made : (path : Option PathNode) (star : Bool) (rename : Option Rename) (list : Option (Vec UseTree Global))
    → use_tree_view (roll-UseTree (record { path = path; star = star; rename = rename; list = list }))
    ≡ tree_from (record { path = path; star = star; rename = rename }) (option_map (λ v. map use_tree_view v.items) list)
use_tree_view_made path star rename None = search (rules, the_lemmas)
use_tree_view_made path star rename (Some v) = search (rules, the_lemmas)

-- ---- commas

-- nothing more stands in the list
pub comma_end : (n : ℕ) (ts : Tokens) → is_at_end ts ≡ true → (reads (comma_from n) ts).1 ≡ ts
comma_end zero ts e = refl
comma_end (suc n) ts e = rw e refl

-- a comma
pub comma_here : (bound at : ℕ) (ts : Tokens) → at < bound → is_at_end ts ≡ false → (symbol ts == 44) ≡ true → (reads (comma_from (bound - at)) ts).1 ≡ bumped ts
comma_here bound at ts below e f = let turn : bound - at ≡ suc (bound - (at + 1)) = omega arith in rw (turn, e, f) refl

-- something else
pub comma_more : (bound at : ℕ) (ts : Tokens) → at < bound → is_at_end ts ≡ false → symbol ts ≢ 44 → (reads (comma_from (bound - at)) ts).1 ≡ (reads (comma_from (bound - (at + 1))) (behind_tree ts)).1
comma_more bound at ts below e f =
    let turn : bound - at ≡ suc (bound - (at + 1)) = omega arith in
    let other : (symbol ts == 44) ≡ false = ne_eqb (symbol ts) 44 f in
    rw (turn, e, other) refl

-- ---- a last `self`

no_more : (ts : Tokens) → sees is_colons ts ≡ false → reads (more_segments true) ts ≡ ([], ts)
unfolding more_segments is_path_colons
no_more ts e = more_stop true _ ts (rw e refl)

no_pair : (ts : Tokens) → (symbol ts == 58) ≡ false → eat_colons ts ≡ (false, ts)
unfolding eat_pair is_pair
no_pair ts e = rw e refl

end_pair : (ts : Tokens) → sees is_colons ts ≡ false → eat_colons ts ≡ (false, ts)
unfolding eat_pair is_colons
end_pair ts e = rw e refl

self_segment : (ts : Tokens) → word ts ≡ codes "self" → reads segment ts ≡ (Some self_word, bumped ts)
unfolding segment
self_segment ts e = rw e refl

self_starts : (ts : Tokens) → (symbol ts == 58) ≡ false → word ts ≡ codes "self" → sees (is_path_start true) ts ≡ true
unfolding is_path_start is_path_colons is_colons is_pair is_segment is_path_keyword
self_starts ts e f = rw (e, f) refl

self_path_read : (ts : Tokens) → sees is_last_self ts ≡ true → reads use_path ts ≡ (Some self_path, bumped ts)
unfolding use_path is_last_self
self_path_read ts e =
    let both = and_parts (bytes_eq (word ts) (codes "self")) (not (sees is_colons (bumped ts))) e in
    let same = (bytes_eq-Decides (word ts) (codes "self")).0 both.0 in
    let flat : symbol ts ≡ 0 = word_symbol (codes "self") ts refl both.0 in
    let plain : (symbol ts == 58) ≡ false = rw flat refl in
    rw (self_starts ts plain same, no_pair ts plain, self_segment ts same, no_more (bumped ts) (not-true (sees is_colons (bumped ts)) both.1)) refl

-- it is read as a tree by itself, as in braces
pub self_reads : (depth : ℕ) (ts : Tokens) → sees is_last_self ts ≡ true → (tree_at depth ts).0.value ≡ Some (bare_tree (Some self_path) false (reads rename (bumped ts)).0)
unfolding tree_at is_last_self
self_reads depth ts e =
    let end = not-true (sees is_colons (bumped ts)) (and_parts (bytes_eq (word ts) (codes "self")) (not (sees is_colons (bumped ts))) e).1 in
    rw (self_path_read ts e, end_pair (bumped ts) end) refl

-- ---- lists

-- a list that is too deep
pub list_deep : (depth : ℕ) (ts : Tokens) → depth ≡ 0 → (symbol ts == 123) ≡ true → list depth ts ≡ (no_list (Some (at ts)), behind_tree ts)
unfolding list
list_deep zero ts e f = rw f refl
list_deep (suc depth) ts e f = absurd (omega arith)

-- no list
pub list_none : (depth : ℕ) (ts : Tokens) → symbol ts ≢ 123 → list depth ts ≡ (no_list None, ts)
unfolding list
list_none zero ts e = let other : (symbol ts == 123) ≡ false = ne_eqb (symbol ts) 123 e in rw other refl
list_none (suc depth) ts e = let other : (symbol ts == 123) ≡ false = ne_eqb (symbol ts) 123 e in rw other refl

-- a list
pub list_some : (depth : ℕ) (ts : Tokens) → 0 < depth → (symbol ts == 123) ≡ true
    → list depth ts ≡ (some_list (trees (element (depth - 1)) (bumped ts)).0, behind_closed 123 (trees (element (depth - 1)) (bumped ts)).1)
unfolding list element
list_some zero ts h e = absurd (omega arith)
list_some (suc depth) ts h e = let less : suc depth - 1 ≡ depth = omega arith in rw (e, less) refl

-- ---- the trees of a list

-- what was found, with what is found behind it
abbrev pub with_found : List UseTreeView → List ℕ → Option ℕ → List (FoundInUse (Option UseTreeView)) × Tokens → FoundInUse (List UseTreeView) × Tokens
with_found done starts deep r = (record { value = done ++ values r.0; starts = starts ++ all_starts r.0; too_deep = option_or deep (first_too_deep r.0) }, r.1)

turns-by : {A : Type 0} (ends : Tokens → Bool) (reader : Reader (List A)) (n : ℕ) (done : List A) (ts : Tokens) (b : Bool) → ends ts ≡ b
    → turns_from ends reader n (done ++ (reader ts).0) (progress_from ts.past (reader ts).1) ≡ ((done ++ (reader ts).0) ++ (turns_from ends reader n [] (progress_from ts.past (reader ts).1)).0, (turns_from ends reader n [] (progress_from ts.past (reader ts).1)).1)
    → turns_from ends reader n (reader ts).0 (progress_from ts.past (reader ts).1) ≡ ((reader ts).0 ++ (turns_from ends reader n [] (progress_from ts.past (reader ts).1)).0, (turns_from ends reader n [] (progress_from ts.past (reader ts).1)).1)
    → turns_from ends reader (suc n) done ts ≡ (done ++ (turns_from ends reader (suc n) [] ts).0, (turns_from ends reader (suc n) [] ts).1)
turns-by ends reader n done ts true e f g = rw e (ap (λ l. (l, ts)) (sym (append-nil done)))
turns-by ends reader n done ts false e f g =
    let rest = turns_from ends reader n [] (progress_from ts.past (reader ts).1) in
    rw e (f ∙ ap (λ l. (l, rest.1)) (append_assoc done (reader ts).0 rest.0) ∙ ap (λ r. (done ++ r.0, r.1)) (sym g))

-- turns behind something are that and the turns behind nothing
turns-front : {A : Type 0} (ends : Tokens → Bool) (reader : Reader (List A)) (n : ℕ) (done : List A) (ts : Tokens) → turns_from ends reader n done ts ≡ (done ++ (turns_from ends reader n [] ts).0, (turns_from ends reader n [] ts).1)
turns-front ends reader zero done ts = ap (λ l. (l, ts)) (sym (append-nil done))
turns-front ends reader (suc n) done ts =
    let after = progress_from ts.past (reader ts).1 in
    turns-by ends reader n done ts (ends ts) refl (turns-front ends reader n (done ++ (reader ts).0) after) (turns-front ends reader n (reader ts).0 after)

or-assoc : (a b c : Option ℕ) → option_or a (option_or b c) ≡ option_or (option_or a b) c
or-assoc None b c = refl
or-assoc (Some n) b c = refl

or-none : (a : Option ℕ) → option_or a None ≡ a
or-none None = refl
or-none (Some n) = refl

-- nothing is found behind it
found_all : (done : List UseTreeView) (starts : List ℕ) (deep : Option ℕ) (ts : Tokens) → with_found done starts deep ([], ts) ≡ (record { value = done; starts = starts; too_deep = deep }, ts)
found_all done starts deep ts =
    ap (λ l. (record { value = l; starts = starts ++ []; too_deep = option_or deep None }, ts)) (append-nil done)
    ∙ ap (λ l. (record { value = done; starts = l; too_deep = option_or deep None }, ts)) (append-nil starts)
    ∙ ap (λ o. (record { value = done; starts = starts; too_deep = o }, ts)) (or-none deep)

-- no turn more
pub found_over : (tree : Reader (FoundInUse (Option UseTreeView))) (n : ℕ) (done : List UseTreeView) (starts : List ℕ) (deep : Option ℕ) (ts : Tokens) → n ≡ 0
    → with_found done starts deep (turns_from is_at_end (one tree) n [] ts) ≡ (record { value = done; starts = starts; too_deep = deep }, ts)
found_over tree n done starts deep ts e = rw e (found_all done starts deep ts)

-- no tree more
pub found_end : (tree : Reader (FoundInUse (Option UseTreeView))) (n : ℕ) (done : List UseTreeView) (starts : List ℕ) (deep : Option ℕ) (ts : Tokens) → is_at_end ts ≡ true
    → with_found done starts deep (turns_from is_at_end (one tree) n [] ts) ≡ (record { value = done; starts = starts; too_deep = deep }, ts)
found_end tree n done starts deep ts e = ap (with_found done starts deep) (turns_stop is_at_end (one tree) n [] ts e) ∙ found_all done starts deep ts

-- one tree more, or none
pub found_more : (tree : Reader (FoundInUse (Option UseTreeView))) (bound at : ℕ) (done done' : List UseTreeView) (starts starts' : List ℕ) (deep deep' : Option ℕ) (found : FoundInUse (Option UseTreeView)) (ts mid after : Tokens) (all : FoundInUse (List UseTreeView) × Tokens)
    → at < bound → is_at_end ts ≡ false → tree ts ≡ (found, mid) → after ≡ progress_from ts.past mid → done' ≡ done ++ option_to_list found.value → starts' ≡ starts ++ found.starts → deep' ≡ option_or deep found.too_deep
    → with_found done starts deep (turns_from is_at_end (one tree) (bound - at) [] ts) ≡ all → with_found done' starts' deep' (turns_from is_at_end (one tree) (bound - (at + 1)) [] after) ≡ all
found_more tree bound at done done' starts starts' deep deep' found ts mid after all below e told a d s f before =
    let turn : bound - at ≡ suc (bound - (at + 1)) = omega arith in
    let rest = turns_from is_at_end (one tree) (bound - (at + 1)) [] after in
    let same : (tree ts).0 ≡ found = ap (λ p. p.0) told in
    let behind : progress_from ts.past (tree ts).1 ≡ after = ap (λ p. progress_from ts.past p.1) told ∙ sym a in
    let stepped : turns_from is_at_end (one tree) (bound - at) [] ts ≡ turns_from is_at_end (one tree) (bound - (at + 1)) ((tree ts).0 ∷ []) (progress_from ts.past (tree ts).1) = rw (turn, e) refl in
    let turned : turns_from is_at_end (one tree) (bound - at) [] ts ≡ (found ∷ rest.0, rest.1) =
    stepped ∙ ap (λ t. turns_from is_at_end (one tree) (bound - (at + 1)) ((tree ts).0 ∷ []) t) behind
    ∙ ap (λ x. turns_from is_at_end (one tree) (bound - (at + 1)) (x ∷ []) after) same
    ∙ turns-front is_at_end (one tree) (bound - (at + 1)) (found ∷ []) after in
    let value : done' ++ values rest.0 ≡ done ++ (option_to_list found.value ++ values rest.0) = ap (λ l. l ++ values rest.0) d ∙ append_assoc done (option_to_list found.value) (values rest.0) in
    let begun : starts' ++ all_starts rest.0 ≡ starts ++ (found.starts ++ all_starts rest.0) = ap (λ l. l ++ all_starts rest.0) s ∙ append_assoc starts found.starts (all_starts rest.0) in
    let first : option_or deep' (first_too_deep rest.0) ≡ option_or deep (option_or found.too_deep (first_too_deep rest.0)) =
    ap (λ o. option_or o (first_too_deep rest.0)) f ∙ sym (or-assoc deep found.too_deep (first_too_deep rest.0)) in
    ap (λ l. (record { value = l; starts = starts' ++ all_starts rest.0; too_deep = option_or deep' (first_too_deep rest.0) }, rest.1)) value
    ∙ ap (λ l. (record { value = done ++ (option_to_list found.value ++ values rest.0); starts = l; too_deep = option_or deep' (first_too_deep rest.0) }, rest.1)) begun
    ∙ ap (λ o. (record { value = done ++ (option_to_list found.value ++ values rest.0); starts = starts ++ (found.starts ++ all_starts rest.0); too_deep = o }, rest.1)) first
    ∙ ap (with_found done starts deep) (sym turned) ∙ before
