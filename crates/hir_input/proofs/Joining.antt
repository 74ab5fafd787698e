-- What the words of one path and then those of another mean.
use Rattle.std.proofs.Common.{◌≡◌, ℕ, zero, suc, ◌+◌, ◌<◌, List, [], ◌∷◌, ◌++◌, map, length, replicate, Option, Some, None, IfSome, option_map, refl, ap, ◌∙◌, arith}
use Rattle.hir_input.proofs.Common.{PathKind, Plain, Super, Crate, Abs, DollarCrate, HasWords, PathWord, self_word, super_word, crate_word, absolute_word, dollar_crate_word, name_word, words, read_names, path_of, read_supers, read_words}
use Rattle.hir_input.proofs.Reading.{before_names, behind, read-behind, read_names-all, read_supers-supers}

read_supers-all : (k : ℕ) (ns : List (List ℕ)) → read_supers k (map name_word ns) ≡ Some (record { kind = Super k; names = ns })
read_supers-all k [] = refl
read_supers-all k (n ∷ ns) = ap (path_of (Super k)) (read_names-all (n ∷ ns))

behind-names : (k : PathKind) (ns ms : List (List ℕ)) → behind k ns (map name_word ms) ≡ Some (record { kind = k; names = ns ++ ms })
behind-names (Super k) [] ms = read_supers-all k ms
behind-names k ns ms = ap (λ o. path_of k (before_names ns o)) (read_names-all ms)

-- a plain path adds its names
pub read-join_plain : (k : PathKind) (ns ms : List (List ℕ)) → HasWords k ns → read_words (words (record { kind = k; names = ns }) ++ words (record { kind = Plain; names = ms })) ≡ Some (record { kind = k; names = ns ++ ms })
read-join_plain k ns ms h = read-behind k ns (map name_word ms) h ∙ behind-names k ns ms

-- behind `self` or `super` without names, more `super`s add up
pub read-join_super : (a b : ℕ) (ms : List (List ℕ)) → 0 < b → read_words (words (record { kind = Super a; names = [] }) ++ words (record { kind = Super b; names = ms })) ≡ Some (record { kind = Super (a + b); names = ms })
read-join_super a zero ms h = absurd (omega arith)
read-join_super a (suc b) ms h =
    read-behind (Super a) [] (replicate (suc b) super_word ++ map name_word ms) tt
    ∙ read_supers-supers a (suc b) (map name_word ms)
    ∙ read_supers-all (a + suc b) ms

-- where the second path may not stand behind the first
abbrev pub MayNotFollow : PathKind → List (List ℕ) → PathKind → Type 0
MayNotFollow k ns Plain = ⊥
MayNotFollow (Super k) ns (Super (suc m)) = 0 < length ns
MayNotFollow k ns l = Unit {0}

-- a word that is no name and no `super`
behind-none : (k : PathKind) (ns : List (List ℕ)) (w : PathWord) (ws : List PathWord) → ((n : ℕ) → read_supers n (w ∷ ws) ≡ None) → read_names (w ∷ ws) ≡ None → behind k ns (w ∷ ws) ≡ None
behind-none (Super k) [] w ws h e = h k
behind-none k ns w ws h e = ap (λ o. path_of k (before_names ns o)) e

-- anything else behind a path means nothing
pub read-join_none : (k : PathKind) (ns : List (List ℕ)) (l : PathKind) (ms : List (List ℕ)) → HasWords k ns → MayNotFollow k ns l → read_words (words (record { kind = k; names = ns }) ++ words (record { kind = l; names = ms })) ≡ None
read-join_none k ns Plain ms h w = absurd w
read-join_none k ns Crate ms h w = read-behind k ns _ h ∙ behind-none k ns crate_word _ (λ _. refl) refl
read-join_none k ns Abs ms h w = read-behind k ns _ h ∙ behind-none k ns absolute_word _ (λ _. refl) refl
read-join_none k ns (DollarCrate c) ms h w = read-behind k ns _ h ∙ behind-none k ns (dollar_crate_word c) _ (λ _. refl) refl
read-join_none k ns (Super zero) ms h w = read-behind k ns _ h ∙ behind-none k ns self_word _ (λ _. refl) refl
read-join_none (Super k) [] (Super (suc m)) ms h w = absurd (omega arith)
read-join_none k ns (Super (suc m)) ms h w = read-behind k ns (replicate (suc m) super_word ++ map name_word ms) h

-- what words mean is a path
path_of-any : (k : PathKind) (o : Option (List (List ℕ))) → ((ns : List (List ℕ)) → HasWords k ns) → IfSome (path_of k o) (λ p. HasWords p.kind p.names)
path_of-any k None h = tt
path_of-any k (Some ns) h = h ns

path_of-plain : (n : List ℕ) (o : Option (List (List ℕ))) → IfSome (path_of Plain (option_map (λ ns. n ∷ ns) o)) (λ p. HasWords p.kind p.names)
path_of-plain n None = tt
path_of-plain n (Some ns) = omega arith

read_supers-path : (k : ℕ) (ws : List PathWord) → IfSome (read_supers k ws) (λ p. HasWords p.kind p.names)
read_supers-path k [] = tt
read_supers-path k (super_word ∷ ws) = read_supers-path (suc k) ws
read_supers-path k (name_word n ∷ ws) = path_of-any (Super k) (read_names (name_word n ∷ ws)) (λ _. tt)
read_supers-path k (w ∷ ws) = tt

pub read-path : (ws : List PathWord) → IfSome (read_words ws) (λ p. HasWords p.kind p.names)
read-path [] = tt
read-path (self_word ∷ ws) = read_supers-path 0 ws
read-path (super_word ∷ ws) = read_supers-path 1 ws
read-path (name_word n ∷ ws) = path_of-plain n (read_names ws)
read-path (w ∷ ws) = path_of-any _ (read_names ws) (λ _. tt)
