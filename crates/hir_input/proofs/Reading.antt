-- What words mean: those of a path mean it, and words behind others mean what they mean behind the path of those.
use Rattle.std.proofs.Common.{◌≡◌, ℕ, zero, suc, ◌+◌, List, [], ◌∷◌, ◌++◌, map, replicate, Option, Some, None, option_map, refl, sym, ap, ◌∙◌, append_assoc, append-nil, arith}
use Rattle.std.proofs.lemmas.Iterator.Adapters.{option_map_id}
use Rattle.hir_input.proofs.Common.{PathKind, Plain, Super, Crate, Abs, DollarCrate, Path, HasWords, PathWord, self_word, super_word, crate_word, absolute_word, dollar_crate_word, name_word, kind_words, words, read_names, path_of, read_supers, read_words}

-- names in front of others
abbrev pub before_names : List (List ℕ) → Option (List (List ℕ)) → Option (List (List ℕ))
before_names ns o = option_map (λ ms. ns ++ ms) o

before_names-cons : (n : List ℕ) (ns : List (List ℕ)) (o : Option (List (List ℕ))) → before_names (n ∷ ns) o ≡ option_map (λ ms. n ∷ ms) (before_names ns o)
before_names-cons n ns None = refl
before_names-cons n ns (Some ms) = refl

-- names, and then any words
pub read_names-front : (ns : List (List ℕ)) (ws : List PathWord) → read_names (map name_word ns ++ ws) ≡ before_names ns (read_names ws)
read_names-front [] ws = sym (option_map_id (read_names ws))
read_names-front (n ∷ ns) ws =
    ap (option_map (λ ms. n ∷ ms)) (read_names-front ns ws) ∙ sym (before_names-cons n ns (read_names ws))

pub read_names-all : (ns : List (List ℕ)) → read_names (map name_word ns) ≡ Some ns
read_names-all [] = refl
read_names-all (n ∷ ns) = ap (option_map (λ ms. n ∷ ms)) (read_names-all ns)

-- `super` some times, and then any words
pub read_supers-supers : (k n : ℕ) (ws : List PathWord) → read_supers k (replicate n super_word ++ ws) ≡ read_supers (k + n) ws
read_supers-supers k zero ws = let e : k + 0 ≡ k = omega arith in rw e refl
read_supers-supers k (suc n) ws =
    read_supers-supers (suc k) n ws ∙ (let e : suc k + n ≡ k + suc n = omega arith in rw e refl)

-- what words mean behind a path
abbrev pub behind : PathKind → List (List ℕ) → List PathWord → Option Path
behind (Super k) [] ws = read_supers k ws
behind k ns ws = path_of k (before_names ns (read_names ws))

read_supers-names : (k : ℕ) (ns : List (List ℕ)) (ws : List PathWord) → read_supers k (map name_word ns ++ ws) ≡ behind (Super k) ns ws
read_supers-names k [] ws = refl
read_supers-names k (n ∷ ns) ws = ap (path_of (Super k)) (read_names-front (n ∷ ns) ws)

pub read-behind : (k : PathKind) (ns : List (List ℕ)) (ws : List PathWord) → HasWords k ns → read_words ((kind_words k ++ map name_word ns) ++ ws) ≡ behind k ns ws
read-behind Plain [] ws h = absurd (omega arith)
read-behind Plain (n ∷ ns) ws h = ap (path_of Plain) (read_names-front (n ∷ ns) ws)
read-behind (Super zero) ns ws h = read_supers-names 0 ns ws
read-behind (Super (suc k)) ns ws h =
    ap (read_supers 1) (append_assoc (replicate k super_word) (map name_word ns) ws)
    ∙ read_supers-supers 1 k (map name_word ns ++ ws)
    ∙ (let e : 1 + k ≡ suc k = omega arith in rw e (read_supers-names (suc k) ns ws))
read-behind k ns ws h = ap (path_of k) (read_names-front ns ws)

behind-nothing : (k : PathKind) (ns : List (List ℕ)) → behind k ns [] ≡ Some (record { kind = k; names = ns ++ [] })
behind-nothing (Super k) [] = refl
behind-nothing k ns = refl

-- the words of a path mean it
pub read-words : (p : Path) → HasWords p.kind p.names → read_words (words p) ≡ Some p
read-words p h =
    ap read_words (sym (append-nil (words p)))
    ∙ read-behind p.kind p.names [] h
    ∙ behind-nothing p.kind p.names
    ∙ ap (λ (ns : List (List ℕ)). let q : Path = record { kind = p.kind; names = ns } in Some q) (append-nil p.names)

-- what words that mean a path, or nothing, mean in front of others
abbrev pub then_words : Option Path → List PathWord → Option Path
then_words None ws = None
then_words (Some p) ws = read_words (words p ++ ws)

-- what may be names, in front of what may be names
abbrev then_names : Option (List (List ℕ)) → Option (List (List ℕ)) → Option (List (List ℕ))
then_names None more = None
then_names (Some ns) more = before_names ns more

then_names-cons : (n : List ℕ) (o more : Option (List (List ℕ))) → option_map (λ ms. n ∷ ms) (then_names o more) ≡ then_names (option_map (λ ms. n ∷ ms) o) more
then_names-cons n None more = refl
then_names-cons n (Some ns) more = sym (before_names-cons n ns more)

read_names-append : (ws vs : List PathWord) → read_names (ws ++ vs) ≡ then_names (read_names ws) (read_names vs)
read_names-append [] vs = sym (option_map_id (read_names vs))
read_names-append (name_word n ∷ ws) vs =
    ap (option_map (λ ms. n ∷ ms)) (read_names-append ws vs) ∙ then_names-cons n (read_names ws) (read_names vs)
read_names-append (w ∷ ws) vs = refl

-- behind a kind that names alone may follow
then_words-names : (k : PathKind) (o : Option (List (List ℕ))) (vs : List PathWord) → ((ns : List (List ℕ)) → HasWords k ns × (behind k ns vs ≡ path_of k (before_names ns (read_names vs)))) → path_of k (then_names o (read_names vs)) ≡ then_words (path_of k o) vs
then_words-names k None vs h = refl
then_words-names k (Some ns) vs h = let g = h ns in sym g.1 ∙ sym (read-behind k ns vs g.0)

-- behind a name
then_words-name : (k : PathKind) (n : List ℕ) (o : Option (List (List ℕ))) (vs : List PathWord) → ((ns : List (List ℕ)) → HasWords k (n ∷ ns) × (behind k (n ∷ ns) vs ≡ path_of k (before_names (n ∷ ns) (read_names vs)))) → path_of k (option_map (λ ms. n ∷ ms) (then_names o (read_names vs))) ≡ then_words (path_of k (option_map (λ ms. n ∷ ms) o)) vs
then_words-name k n None vs h = refl
then_words-name k n (Some ns) vs h =
    let g = h ns in
    ap (path_of k) (sym (before_names-cons n ns (read_names vs))) ∙ sym g.1 ∙ sym (read-behind k (n ∷ ns) vs g.0)

read_supers-append : (k : ℕ) (ws vs : List PathWord) → read_supers k (ws ++ vs) ≡ then_words (read_supers k ws) vs
read_supers-append k [] vs = sym (read-behind (Super k) [] vs tt)
read_supers-append k (super_word ∷ ws) vs = read_supers-append (suc k) ws vs
read_supers-append k (name_word n ∷ ws) vs =
    ap (λ o. path_of (Super k) (option_map (λ ms. n ∷ ms) o)) (read_names-append ws vs)
    ∙ then_words-name (Super k) n (read_names ws) vs (λ ns. (tt, refl))
read_supers-append k (w ∷ ws) vs = refl

-- words behind others mean what they mean behind the path of those
pub read-append : (w : PathWord) (ws vs : List PathWord) → read_words ((w ∷ ws) ++ vs) ≡ then_words (read_words (w ∷ ws)) vs
read-append self_word ws vs = read_supers-append 0 ws vs
read-append super_word ws vs = read_supers-append 1 ws vs
read-append crate_word ws vs =
    ap (path_of Crate) (read_names-append ws vs) ∙ then_words-names Crate (read_names ws) vs (λ ns. (tt, refl))
read-append absolute_word ws vs =
    ap (path_of Abs) (read_names-append ws vs) ∙ then_words-names Abs (read_names ws) vs (λ ns. (tt, refl))
read-append (dollar_crate_word c) ws vs =
    ap (path_of (DollarCrate c)) (read_names-append ws vs) ∙ then_words-names (DollarCrate c) (read_names ws) vs (λ ns. (tt, refl))
read-append (name_word n) ws vs =
    ap (λ o. path_of Plain (option_map (λ ms. n ∷ ms) o)) (read_names-append ws vs)
    ∙ then_words-name Plain n (read_names ws) vs (λ ns. (omega arith, refl))
