-- What the words of one path and then those of another mean, by the kind that the code finds.
use Rattle.std.proofs.Common.{◌≡◌, ℕ, zero, suc, List, [], ◌∷◌, ◌++◌, Option, Some, None, IfSome, option_map, sym, ap, ◌∙◌, subst, arith}
use Rattle.item_tree.proofs.Common.{SomeIff, PathKind, Plain, Super, Crate, Abs, DollarCrate, Path, HasWords, words, read_words, joined_kind}
use Rattle.hir_input.proofs.Joining.{read-join_plain, read-join_super, read-join_none, read-path}

read_joined : (k : PathKind) (ns : List (List ℕ)) (l : PathKind) (ms : List (List ℕ)) → HasWords k ns → read_words (words (record { kind = k; names = ns }) ++ words (record { kind = l; names = ms })) ≡ option_map (λ j. record { kind = j; names = ns ++ ms }) (joined_kind k ns l)
read_joined k ns Plain ms h = read-join_plain k ns ms h
read_joined k ns Crate ms h = read-join_none k ns Crate ms h tt
read_joined k ns Abs ms h = read-join_none k ns Abs ms h tt
read_joined k ns (DollarCrate c) ms h = read-join_none k ns (DollarCrate c) ms h tt
read_joined (Super a) [] (Super zero) ms h = read-join_none (Super a) [] (Super zero) ms h tt
read_joined (Super a) [] (Super (suc b)) ms h = read-join_super a (suc b) ms (omega arith)
read_joined (Super a) (n ∷ ns) (Super zero) ms h = read-join_none (Super a) (n ∷ ns) (Super zero) ms h tt
read_joined (Super a) (n ∷ ns) (Super (suc b)) ms h = read-join_none (Super a) (n ∷ ns) (Super (suc b)) ms h (omega arith)
read_joined Plain ns (Super zero) ms h = read-join_none Plain ns (Super zero) ms h tt
read_joined Plain ns (Super (suc b)) ms h = read-join_none Plain ns (Super (suc b)) ms h tt
read_joined Crate ns (Super zero) ms h = read-join_none Crate ns (Super zero) ms h tt
read_joined Crate ns (Super (suc b)) ms h = read-join_none Crate ns (Super (suc b)) ms h tt
read_joined Abs ns (Super zero) ms h = read-join_none Abs ns (Super zero) ms h tt
read_joined Abs ns (Super (suc b)) ms h = read-join_none Abs ns (Super (suc b)) ms h tt
read_joined (DollarCrate c) ns (Super zero) ms h = read-join_none (DollarCrate c) ns (Super zero) ms h tt
read_joined (DollarCrate c) ns (Super (suc b)) ms h = read-join_none (DollarCrate c) ns (Super (suc b)) ms h tt

pub read_join : (p q : Path) → HasWords p.kind p.names → read_words (words p ++ words q) ≡ option_map (λ j. record { kind = j; names = p.names ++ q.names }) (joined_kind p.kind p.names q.kind)
read_join p q h = read_joined p.kind p.names q.kind q.names h

-- a path with the words of one that is read is made
made_from : (o : Option Path) (p : Path) → IfSome (Some p) (λ q. HasWords q.kind q.names) → SomeIff o (HasWords p.kind p.names) p → o ≡ Some p
made_from None p h s = absurd (s h)
made_from (Some q) p h s = ap Some s.1

pub joined_made : (p q : Path) (j : PathKind) (ns : List (List ℕ)) (o : Option Path) → HasWords p.kind p.names → Some j ≡ joined_kind p.kind p.names q.kind → ns ≡ p.names ++ q.names → SomeIff o (HasWords j ns) (record { kind = j; names = ns }) → o ≡ read_words (words p ++ words q)
joined_made p q j ns o h k e s =
    let r : read_words (words p ++ words q) ≡ Some (record { kind = j; names = ns }) = read_join p q h ∙ ap (option_map (λ i. record { kind = i; names = p.names ++ q.names })) (sym k) ∙ ap (λ ms. Some (record { kind = j; names = ms })) (sym e) in
    made_from o (record { kind = j; names = ns }) (subst (λ (m : Option Path). IfSome m (λ i. HasWords i.kind i.names)) r (read-path (words p ++ words q))) s ∙ sym r
