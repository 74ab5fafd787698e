-- A chain of prefixes, and the path that it means.
use Rattle.std.proofs.Common.{◌≡◌, ℕ, zero, suc, ◌+◌, Bool, true, false, List, [], ◌∷◌, ◌++◌, Option, Some, None, refl, sym, ap, ◌∙◌, append_assoc, append-nil, arith, flat_map, Vec, Global}
use Rattle.item_tree.proofs.Common.{option_and_then, option_map, option_map_or, flat_map-append, PathKind, Plain, Super, Crate, Abs, DollarCrate, Path, HasWords, PathWord, words, read_words, Tree, Branches, single, glob, prefixed, no_branches, branch_and, tree_count, Import, is_self, read_chain, read_below, read_star, kind_below, import_of, imports_from, all_imports_from, UseTree, UseTreeKind, Prefixed, tree_of, tree_of_kind, trees_of}
use Rattle.hir_input.proofs.Reading.{read-append, then_words, read-words}
use Rattle.item_tree.proofs.TreeLemmas.{found_prefixed}
use Rattle.item_tree.specs.declared.use_tree.ImportKind.TheVariants.{Glob}

abbrev pub IsFilled : {A : Type 0} → List A → Type 0
IsFilled [] = ⊥
IsFilled (x ∷ xs) = Unit {0}

filled-append : {A : Type 0} (xs ys : List A) → IsFilled ys → IsFilled (xs ++ ys)
filled-append [] ys h = h
filled-append (x ∷ xs) ys h = tt

words-filled : (k : PathKind) (ns : List (List ℕ)) → HasWords k ns → IsFilled (words (record { kind = k; names = ns }))
words-filled Plain [] h = absurd (omega arith)
words-filled Plain (n ∷ ns) h = tt
words-filled (Super zero) ns h = tt
words-filled (Super (suc k)) ns h = tt
words-filled Crate ns h = tt
words-filled Abs ns h = tt
words-filled (DollarCrate c) ns h = tt

read-append_filled : (ws vs : List PathWord) → IsFilled ws → read_words (ws ++ vs) ≡ then_words (read_words ws) vs
read-append_filled [] vs h = absurd h
read-append_filled (w ∷ ws) vs h = read-append w ws vs

-- a chain with one more path, in front of other words
more_words : (ps : List Path) (p : Path) (vs : List PathWord) → flat_map words (ps ++ p ∷ []) ++ vs ≡ flat_map words ps ++ ((words p ++ []) ++ vs)
more_words ps p vs =
    ap (λ ws. ws ++ vs) (flat_map-append words ps (p ∷ [])) ∙ append_assoc (flat_map words ps) (words p ++ []) vs

more_filled : (ps : List Path) (p : Path) → HasWords p.kind p.names → IsFilled (flat_map words (ps ++ p ∷ []))
more_filled ps p h =
    let e : flat_map words (ps ++ p ∷ []) ≡ flat_map words ps ++ words p = flat_map-append words ps (p ∷ []) ∙ ap (λ ws. flat_map words ps ++ ws) (append-nil (words p)) in
    rw e (filled-append (flat_map words ps) (words p) (words-filled p.kind p.names h))

-- ---- a chain that means what another means, whatever follows, or nothing

abbrev AreFilled : Option (List Path) → Type 0
AreFilled None = Unit {0}
AreFilled (Some qs) = IsFilled qs

abbrev more : Option (List Path) → Path → Option (List Path)
more o p = option_map (λ qs. qs ++ p ∷ []) o

record ReadsAs (ps : List Path) (o : Option (List Path)) : Type 0 where
  reads : (vs : List PathWord) → read_words (flat_map words ps ++ vs) ≡ option_and_then (λ qs. read_words (flat_map words qs ++ vs)) o
  filled : IsFilled ps
  others : AreFilled o

reads-more : (ps : List Path) (o : Option (List Path)) (p : Path) → ReadsAs ps o → ReadsAs (ps ++ p ∷ []) (more o p)
reads-more ps None p h = record { reads = λ vs. rw (more_words ps p vs) (h.reads ((words p ++ []) ++ vs)); filled = filled-append ps (p ∷ []) tt; others = tt }
reads-more ps (Some qs) p h = record {
  reads = λ vs. rw (more_words ps p vs, more_words qs p vs) (h.reads ((words p ++ []) ++ vs));
  filled = filled-append ps (p ∷ []) tt;
  others = filled-append qs (p ∷ []) tt;
}

reads-now : (ps : List Path) (o : Option (List Path)) → ReadsAs ps o → read_chain ps ≡ option_and_then read_chain o
reads-now ps None h = ap read_words (sym (append-nil (flat_map words ps))) ∙ h.reads []
reads-now ps (Some qs) h = ap read_words (sym (append-nil (flat_map words ps))) ∙ h.reads [] ∙ ap read_words (append-nil (flat_map words qs))

reads-below : (b : Bool) (ps : List Path) (o : Option (List Path)) (p : Path) → ReadsAs ps o → read_below b ps p ≡ option_and_then (λ qs. read_below b qs p) o
reads-below true [] o p h = absurd h.filled
reads-below true (x ∷ ps) None p h = reads-now (x ∷ ps) None h
reads-below true (x ∷ ps) (Some []) p h = absurd h.others
reads-below true (x ∷ ps) (Some (y ∷ qs)) p h = reads-now (x ∷ ps) (Some (y ∷ qs)) h
reads-below false ps None p h = reads-now (ps ++ p ∷ []) None (reads-more ps None p h)
reads-below false ps (Some qs) p h = reads-now (ps ++ p ∷ []) (Some (qs ++ p ∷ [])) (reads-more ps (Some qs) p h)

reads-star : (ps : List Path) (o : Option (List Path)) (p : Option Path) → ReadsAs ps o → read_star ps p ≡ option_and_then (λ qs. read_star qs p) o
reads-star ps o None h = reads-now ps o h
reads-star ps o (Some p) h = reads-below (is_self p) ps o p h

-- the kind is the same of all chains
kind-filled : (b : Bool) (ps qs : List Path) → IsFilled ps → IsFilled qs → kind_below b ps ≡ kind_below b qs
kind-filled true [] qs f g = absurd f
kind-filled true (x ∷ ps) [] f g = absurd g
kind-filled true (x ∷ ps) (y ∷ qs) f g = refl
kind-filled false ps qs f g = refl

abbrev imports_as : Option (List Path) → ℕ → Branches → List Import
imports_as o i ts = option_map_or (λ qs. all_imports_from qs i ts) o []

mutual
  reads-imports : (ps : List Path) (o : Option (List Path)) (i : ℕ) (t : Tree) → ReadsAs ps o → imports_from ps i t ≡ option_map_or (λ qs. imports_from qs i t) o []
  reads-imports ps None i (single p a) h = ap (import_of i (kind_below (is_self p) ps) a) (reads-below (is_self p) ps None p h)
  reads-imports ps (Some qs) i (single p a) h =
      ap (λ k. import_of i k a (read_below (is_self p) ps p)) (kind-filled (is_self p) ps qs h.filled h.others)
      ∙ ap (import_of i (kind_below (is_self p) qs) a) (reads-below (is_self p) ps (Some qs) p h)
  reads-imports ps None i (glob p) h = ap (import_of i Glob None) (reads-star ps None p h)
  reads-imports ps (Some qs) i (glob p) h = ap (import_of i Glob None) (reads-star ps (Some qs) p h)
  reads-imports ps None i (prefixed None ts) h = reads-all ps None (i + 1) ts h
  reads-imports ps (Some qs) i (prefixed None ts) h = reads-all ps (Some qs) (i + 1) ts h
  reads-imports ps None i (prefixed (Some p) ts) h = reads-all (ps ++ p ∷ []) None (i + 1) ts (reads-more ps None p h)
  reads-imports ps (Some qs) i (prefixed (Some p) ts) h = reads-all (ps ++ p ∷ []) (Some (qs ++ p ∷ [])) (i + 1) ts (reads-more ps (Some qs) p h)

  reads-all : (ps : List Path) (o : Option (List Path)) (i : ℕ) (ts : Branches) → ReadsAs ps o → all_imports_from ps i ts ≡ imports_as o i ts
  reads-all ps None i no_branches h = refl
  reads-all ps (Some qs) i no_branches h = refl
  reads-all ps None i (branch_and t ts) h = (λ j. reads-imports ps None i t h j ++ reads-all ps None (i + tree_count t) ts h j)
  reads-all ps (Some qs) i (branch_and t ts) h = (λ j. reads-imports ps (Some qs) i t h j ++ reads-all ps (Some qs) (i + tree_count t) ts h j)

-- ---- below a prefix

prefix_reads : (ps : List Path) (p : Path) (o : Option Path) (vs : List PathWord) → HasWords p.kind p.names → read_chain (ps ++ p ∷ []) ≡ o → read_words (flat_map words (ps ++ p ∷ []) ++ vs) ≡ then_words o vs
prefix_reads ps p o vs h e = read-append_filled (flat_map words (ps ++ p ∷ [])) vs (more_filled ps p h) ∙ ap (λ r. then_words r vs) e

-- whose chain means nothing there is no import
no_imports_below : (ps : List Path) (p : Path) (i : ℕ) (ts : Branches) → HasWords p.kind p.names → read_chain (ps ++ p ∷ []) ≡ None → all_imports_from (ps ++ p ∷ []) i ts ≡ []
no_imports_below ps p i ts h e =
    reads-all (ps ++ p ∷ []) None i ts (record { reads = λ vs. prefix_reads ps p None vs h e; filled = filled-append ps (p ∷ []) tt; others = tt })

-- whose chain means a path, that path stands for it
imports_below : (ps : List Path) (p q : Path) (i : ℕ) (ts : Branches) → HasWords p.kind p.names → read_chain (ps ++ p ∷ []) ≡ Some q → all_imports_from (ps ++ p ∷ []) i ts ≡ all_imports_from (q ∷ []) i ts
imports_below ps p q i ts h e =
    reads-all (ps ++ p ∷ []) (Some (q ∷ [])) i ts (record {
      reads = λ vs. prefix_reads ps p (Some q) vs h e ∙ ap (λ ws. read_words (ws ++ vs)) (sym (append-nil (words q)));
      filled = filled-append ps (p ∷ []) tt;
      others = tt;
    })

-- a node with such a path and trees below it, as the code finds it, has the imports of the trees below what the path means
module _ (ps : List Path) (p : Path) (i : ℕ) (t : UseTree) (k : UseTreeKind) (b : Option Path) (list : Vec UseTree Global) (ts : List UseTree) (seen : tree_of_kind k ≡ tree_of t) (listed : k ≡ Prefixed b list) (is : b ≡ Some p) (same : ts ≡ list.items)
    (h : HasWords p.kind p.names) (r : Option Path) (reads : r ≡ read_chain (ps ++ p ∷ [])) where
  all_below : imports_from ps i (tree_of t) ≡ all_imports_from (ps ++ p ∷ []) (i + 1) (trees_of ts)
  all_below = ap (imports_from ps i) (found_prefixed t k (Some p) b list ts seen listed is same)

  pub imports_joined : (q : Path) → r ≡ Some q → imports_from ps i (tree_of t) ≡ all_imports_from (q ∷ []) (i + 1) (trees_of ts)
  imports_joined q e = all_below ∙ imports_below ps p q (i + 1) (trees_of ts) h (sym reads ∙ e)

  pub imports_unjoined : r ≡ None → imports_from ps i (tree_of t) ≡ []
  imports_unjoined e = all_below ∙ no_imports_below ps p (i + 1) (trees_of ts) h (sym reads ∙ e)

-- a path alone means itself
pub read_chain_alone : (p : Path) → HasWords p.kind p.names → read_chain (p ∷ []) ≡ Some p
read_chain_alone p h = ap read_words (append-nil (words p)) ∙ read-words p h

-- a path below another
pub read_chain_both : (p q : Path) → read_chain (p ∷ q ∷ []) ≡ read_words (words p ++ words q)
read_chain_both p q = ap (λ ws. read_words (words p ++ ws)) (append-nil (words q))
