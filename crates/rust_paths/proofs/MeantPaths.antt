-- A path that has one word more.
use Rattle.std.proofs.Common.{◌≡◌, ◌+◌, ℕ, suc, Bool, true, false, List, [], ◌∷◌, ◌++◌, Option, Some, None, option_map, if◌then◌else◌, not, refl, sym, ap, ◌∙◌, append_assoc, append-nil, arith, nat_lt}
use Rattle.rust_paths.proofs.Common.{SomeIff, nat_tests, PathNode, Readable, Unreadable, Path, HasWords, PathWord, self_word, super_word, crate_word, absolute_word, dollar_crate_word, name_word, words, read_names, path_of, read_supers, read_words, fits, node_of, read_all, all_words, path_node, path_start, word_behind, then_word, meant_path, meaning, front_of_path}
use Rattle.std.proofs.lemmas.Iterator.Adapters.{option_map_id}
use Rattle.hir_input.specs.declared.mod_path.PathKind.{PathKind}
use Rattle.hir_input.specs.declared.mod_path.PathKind.TheVariants.{Plain, Super}
use Rattle.hir_input.proofs.Reading.{before_names, behind, read-behind, read-words}

abbrev at_path : PathKind → List (List ℕ) → Path
at_path k ns = record { kind = k; names = ns }

before-last : (ns : List (List ℕ)) (n : List ℕ) (o : Option (List (List ℕ))) → before_names (ns ++ n ∷ []) o ≡ before_names ns (option_map (λ ms. n ∷ ms) o)
before-last ns n None = refl
before-last ns n (Some ms) = ap Some (append_assoc ns (n ∷ []) ms)

-- a name more
step-name : (k : PathKind) (ns : List (List ℕ)) (n : List ℕ) (vs : List PathWord) → HasWords k ns → HasWords k (ns ++ n ∷ [])
    → behind k ns (name_word n ∷ vs) ≡ path_of k (before_names ns (read_names (name_word n ∷ vs))) → behind k (ns ++ n ∷ []) vs ≡ path_of k (before_names (ns ++ n ∷ []) (read_names vs))
    → node_of (read_words (words (at_path k (ns ++ n ∷ [])) ++ vs)) ≡ node_of (read_words (words (at_path k ns) ++ name_word n ∷ vs))
step-name k ns n vs h g e f =
    ap node_of (read-behind k (ns ++ n ∷ []) vs g ∙ f ∙ ap (path_of k) (before-last ns n (read_names vs)) ∙ sym e ∙ sym (read-behind k ns (name_word n ∷ vs) h))

-- a word that no path has there
step-none : (k : PathKind) (ns : List (List ℕ)) (w : PathWord) (vs : List PathWord) → HasWords k ns → behind k ns (w ∷ vs) ≡ None → Unreadable ≡ node_of (read_words (words (at_path k ns) ++ w ∷ vs))
step-none k ns w vs h e = ap node_of (sym (read-behind k ns (w ∷ vs) h ∙ e))

too_many-names : (k : ℕ) (o : Option (List (List ℕ))) → nat_lt k 4294967296 ≡ false → node_of (path_of (Super k) o) ≡ Unreadable
too_many-names k None h = refl
too_many-names k (Some ns) h = rw h refl

-- more `super` than a path can count
too_many : (k : ℕ) (ws : List PathWord) → nat_lt k 4294967296 ≡ false → node_of (read_supers k ws) ≡ Unreadable
too_many k [] h = too_many-names k (Some []) h
too_many k (super_word ∷ ws) h = too_many (suc k) ws (grind (arith, nat_tests))
too_many k (name_word n ∷ ws) h = too_many-names k (read_names (name_word n ∷ ws)) h
too_many k (w ∷ ws) h = refl

super-by : (few : Bool) (k : ℕ) (vs : List PathWord) → nat_lt k 4294967295 ≡ few → meant_path (if few then Some (at_path (Super (k + 1)) []) else None) (Some vs) ≡ node_of (read_words (words (at_path (Super k) []) ++ super_word ∷ vs))
super-by true k vs h =
    let next : k + 1 ≡ suc k = omega arith in
    ap node_of (read-behind (Super (k + 1)) [] vs tt ∙ rw next refl ∙ sym (read-behind (Super k) [] (super_word ∷ vs) tt))
super-by false k vs h =
    sym (ap node_of (read-behind (Super k) [] (super_word ∷ vs) tt) ∙ too_many (suc k) vs (grind (arith, nat_tests)))

step : (k : PathKind) (ns : List (List ℕ)) (w : PathWord) (vs : List PathWord) → meant_path (word_behind k ns w) (Some vs) ≡ node_of (read_words (words (at_path k ns) ++ w ∷ vs))
step Plain [] self_word vs = refl
step Plain [] super_word vs = refl
step Plain [] crate_word vs = refl
step Plain [] absolute_word vs = refl
step Plain [] (dollar_crate_word c) vs = refl
step Plain [] (name_word n) vs = refl
step Plain (m ∷ ms) (name_word n) vs = step-name Plain (m ∷ ms) n vs (omega arith) (omega arith) refl refl
step Plain (m ∷ ms) w vs = step-none Plain (m ∷ ms) w vs (omega arith) refl
step (Super k) [] (name_word n) vs = step-name (Super k) [] n vs tt tt (ap (path_of (Super k)) (sym (option_map_id (read_names (name_word n ∷ vs))))) refl
step (Super k) [] super_word vs = super-by (nat_lt k 4294967295) k vs refl
step (Super k) [] w vs = step-none (Super k) [] w vs tt refl
step (Super k) (m ∷ ms) (name_word n) vs = step-name (Super k) (m ∷ ms) n vs tt tt refl refl
step (Super k) (m ∷ ms) w vs = step-none (Super k) (m ∷ ms) w vs tt refl
step k ns (name_word n) vs = step-name k ns n vs tt tt refl refl
step k ns w vs = step-none k ns w vs tt refl

nothing : (p : Option Path) → meant_path p None ≡ Unreadable
nothing None = refl
nothing (Some p) = refl

step-any : (p : Path) (w : PathWord) (o : Option (List PathWord)) → meant_path (word_behind p.kind p.names w) o ≡ meant_path (Some p) (option_map (λ vs. w ∷ vs) o)
step-any p w None = nothing (word_behind p.kind p.names w)
step-any p w (Some vs) = step p.kind p.names w vs

-- the words behind a path mean what those behind it and the first mean
pub meaning-step : (p : Option Path) (w : Option PathWord) (ws : List (Option PathWord)) → meaning (then_word p w) ws ≡ meaning p (w ∷ ws)
meaning-step None None ws = refl
meaning-step (Some p) None ws = refl
meaning-step None (Some w) ws = refl
meaning-step (Some p) (Some w) ws = step-any p w (all_words ws)

pub meaning-start : (absolute : Bool) (ws : List (Option PathWord)) → path_node (front_of_path absolute ws) ≡ meaning (Some (path_start absolute)) ws
meaning-start true ws = refl
meaning-start false ws = ap (λ o. node_of (read_all o)) (sym (option_map_id (all_words ws)))

abbrev node_or : Option Path → PathNode
node_or None = Unreadable
node_or (Some p) = Readable p

no_words : (k : PathKind) (ns : List (List ℕ)) → (HasWords k ns → ⊥) → read_words (words (at_path k ns) ++ []) ≡ None
no_words Plain [] h = refl
no_words Plain (n ∷ ns) h = absurd (h (omega arith))
no_words k ns h = absurd (h tt)

-- the path of these words alone
meant_node : (p : Path) (made : Option Path) → SomeIff made (HasWords p.kind p.names) p → fits p.kind ≡ true → node_or made ≡ meaning (Some p) []
meant_node p None h f = sym (ap node_of (no_words p.kind p.names h))
meant_node p (Some q) h f =
    sym (ap (λ ws. node_of (read_words ws)) (append-nil (words p)) ∙ ap node_of (read-words p h.0) ∙ rw f (ap Readable (sym h.1)))

-- the path of words that are readable
pub readable_node : (is_readable : Bool) (p q : Path) (value : Option Path) → (if is_readable then Some p else None) ≡ value → not is_readable ≡ false
    → HasWords p.kind p.names → q ≡ p → fits p.kind ≡ true → Readable q ≡ meaning value []
readable_node true p q value e r h i f = meant_node p (Some q) (h, i) f ∙ ap (λ v. meaning v []) e
readable_node false p q value e r h i f = absurd cc
