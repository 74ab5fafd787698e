-- An item at the beginning of a line of column 0 is mended by itself, whatever is before it.
use Rattle.std.proofs.Common.{◌≡◌, refl, ◌∙◌, ap, sym, ℕ, Bool, true, false, not, ◌&&◌, nat_le, if◌then◌else◌, List, [], ◌∷◌, ◌++◌, ◌⊎◌, inl, inr, Option, Some, None}
use Rattle.std.proofs.Math.Dec.{leb-zero}
use Rattle.rust_mended.specs.declared.bracket.Bracket.{Bracket}
use Rattle.rust_mended.specs.declared.bracket.Bracket.TheVariants as bracket
use Rattle.rust_mended.specs.declared.mark.Mark.{Mark}
use Rattle.rust_mended.specs.declared.mark.MarkKind.{MarkKind}
use Rattle.rust_mended.specs.declared.mark.MarkKind.TheVariants as mark
use Rattle.rust_mended.specs.declared.mark.Opened.{Opened}
use Rattle.rust_mended.specs.Mended.{Written, kept, put, left, closed, is_brace, closes_brace, first_brace, closers_behind_brace, first_other, closers_behind_other, closer_of, closers_past, closers_reached, closer_by, closers_reaching, all_ended, ends_before_item, end_before, is_owed, owed_closer, is_lost, close_own, fits_closer, close_far, keeps, kept_if, opened_by, mark_taken, written_from, all_written}
use Rattle.rust_mended.proofs.MatchedMarks.{no_truth, same_place}

-- ---- the closers of what is open come among those that are left

-- what stands around a closer, and these behind it
abbrev Behind : Option ℕ → (List Mark → Type 0) → List Mark → Type 0
Behind at below [] = ⊥
Behind at below (d ∷ ds) = ((at ≡ Some d.at) × below ds) ⊎ Behind at below ds

abbrev pub ComesBy : Bool → Option ℕ → Option ℕ → (List Mark → Type 0) → List Mark → Type 0
ComesBy false at around below cs = (at ≡ around) × below cs
ComesBy true at around below cs = Behind at below cs

-- the closers that open brackets keep come among these, in their order
abbrev pub Comes : List Opened → List Mark → Type 0
Comes [] cs = Unit {0}
Comes (o ∷ os) cs = ComesBy o.is_closed o.owed (owed_closer os) (Comes os) cs

-- also with more closers
abbrev Grows : (List Mark → Type 0) → Type 0
Grows B = (d : Mark) (ds : List Mark) → B ds → B (d ∷ ds)

grows_by : (k : Bool) (at around : Option ℕ) (B : List Mark → Type 0) → Grows B → Grows (ComesBy k at around B)
grows_by false at around B g d ds h = (h.0, g d ds h.1)
grows_by true at around B g d ds h = inr h

pub comes_grows : (os : List Opened) → Grows (Comes os)
comes_grows [] d ds h = tt
comes_grows (o ∷ os) d ds h = grows_by o.is_closed o.owed (owed_closer os) (Comes os) (comes_grows os) d ds h

behind_all : (at : Option ℕ) (B : List Mark → Type 0) → Grows B → (cs : List Mark) → Behind at B cs → B cs
behind_all at B g [] h = absurd h
behind_all at B g (d ∷ ds) (inl h) = g d ds h.1
behind_all at B g (d ∷ ds) (inr h) = g d ds (behind_all at B g ds h)

below_all : (k : Bool) (at around : Option ℕ) (B : List Mark → Type 0) → Grows B → (cs : List Mark) → ComesBy k at around B cs → B cs
below_all false at around B g cs h = h.1
below_all true at around B g cs h = behind_all at B g cs h

-- what stands around the last bracket
pub comes_around : (o : Opened) (os : List Opened) (cs : List Mark) → Comes (o ∷ os) cs → Comes os cs
comes_around o os cs h = below_all o.is_closed o.owed (owed_closer os) (Comes os) (comes_grows os) cs h

-- ---- opening

-- what closes a bracket comes before what is left behind it
abbrev Finds : Option Mark → (List Mark → Type 0) → List Mark → Type 0
Finds None B cs = B cs
Finds (Some c) B cs = Behind (Some c.at) B cs

if_grows : (b : Bool) (m : Option Mark) (B : List Mark → Type 0) (d : Mark) (ds x : List Mark) → Grows B → (B x → Finds m B ds) → B (if b then ds else x) → Finds (if b then Some d else m) B (d ∷ ds)
if_grows true m B d ds x g f h = inl (refl, h)
if_grows false None B d ds x g f h = g d ds (f h)
if_grows false (Some c) B d ds x g f h = inr (f h)

brace_comes : (B : List Mark → Type 0) → Grows B → (cs : List Mark) → B (closers_behind_brace cs) → Finds (first_brace cs) B cs
brace_comes B g [] h = h
brace_comes B g (c ∷ cs) h = if_grows (closes_brace c.kind) (first_brace cs) B c cs (closers_behind_brace cs) g (brace_comes B g cs) h

if_other : (b : Bool) (B : List Mark → Type 0) (d : Mark) (ds : List Mark) → B (if b then d ∷ ds else ds) → Finds (if b then None else Some d) B (d ∷ ds)
if_other true B d ds h = h
if_other false B d ds h = inl (refl, h)

other_comes : (B : List Mark → Type 0) → (cs : List Mark) → B (closers_behind_other cs) → Finds (first_other cs) B cs
other_comes B [] h = h
other_comes B (c ∷ cs) h = if_other (closes_brace c.kind) B c cs h

closer_comes : (b : Bracket) (B : List Mark → Type 0) → Grows B → (cs : List Mark) → B (closers_past b cs) → Finds (closer_of b cs) B cs
closer_comes bracket.Brace B g cs h = brace_comes B g cs h
closer_comes bracket.Round B g cs h = other_comes B cs h
closer_comes bracket.Square B g cs h = other_comes B cs h

lost_comes : (is_lost : Bool) (m : Option Mark) (B : List Mark → Type 0) → Grows B → (cs : List Mark) → Finds m B cs → Finds (kept_if is_lost m) B cs
lost_comes false m B g cs h = h
lost_comes true None B g cs h = h
lost_comes true (Some c) B g cs h = behind_all (Some c.at) B g cs h

keeps_comes : (b : Bracket) (t : Mark) (os : List Opened) (m : Option Mark) (cs : List Mark) → Finds m (Comes os) cs → Finds (keeps b t os m) (Comes os) cs
keeps_comes b t [] m cs h = h
keeps_comes b t (o ∷ os) m cs h = lost_comes (is_brace b && is_lost t o m) m (Comes (o ∷ os)) (comes_grows (o ∷ os)) cs h

found_comes : (b : Bracket) (t : Mark) (os : List Opened) (m : Option Mark) (cs : List Mark) → Finds m (Comes os) cs → Comes (opened_by b t m os ∷ os) cs
found_comes b t os None cs h = (refl, h)
found_comes b t os (Some c) cs h = h

pub opened_comes : (b : Bracket) (t : Mark) (os : List Opened) (cs : List Mark) → Comes os (closers_past b cs) → Comes (opened_by b t (keeps b t os (closer_of b cs)) os ∷ os) cs
opened_comes b t os cs h =
    found_comes b t os (keeps b t os (closer_of b cs)) cs (keeps_comes b t os (closer_of b cs) cs (closer_comes b (Comes os) (comes_grows os) cs h))

-- ---- closing

not_own_by : (k : Bool) (at around : Option ℕ) (B : List Mark → Type 0) (t : Mark) (ds : List Mark) → (is_owed t around ≡ false → B (t ∷ ds) → B ds) → is_owed t at ≡ false → ComesBy k at around B (t ∷ ds) → ComesBy k at around B ds
not_own_by false at around B t ds f e h = (h.0, f (ap (is_owed t) (sym h.0) ∙ e) h.1)
not_own_by true at around B t ds f e (inl h) = absurd (no_truth (sym e ∙ ap (is_owed t) h.0 ∙ same_place t.at))
not_own_by true at around B t ds f e (inr h) = h

pub comes_not_own : (os : List Opened) (t : Mark) (ds : List Mark) → is_owed t (owed_closer os) ≡ false → Comes os (t ∷ ds) → Comes os ds
comes_not_own [] t ds e h = tt
comes_not_own (o ∷ os) t ds e h = not_own_by o.is_closed o.owed (owed_closer os) (Comes os) t ds (comes_not_own os t ds) e h

pub own_below_by : (k : Bool) (at around : Option ℕ) (B : List Mark → Type 0) → Grows B → (t : Mark) (ds : List Mark) → k ≡ true → ComesBy k at around B (t ∷ ds) → B ds
own_below_by false at around B g t ds e h = absurd (no_truth e)
own_below_by true at around B g t ds e (inl h) = h.1
own_below_by true at around B g t ds e (inr h) = behind_all at B g ds h

pub own_around_by : (k : Bool) (at around : Option ℕ) (B : List Mark → Type 0) (ds : List Mark) → k ≡ false → ComesBy k at around B ds → B ds
own_around_by false at around B ds e h = h.1
own_around_by true at around B ds e h = absurd (no_truth (sym e))

-- ---- at the end

abbrev pub AllUnclosed : List Opened → Type 0
AllUnclosed [] = Unit {0}
AllUnclosed (o ∷ os) = (o.is_closed ≡ false) × AllUnclosed os

unclosed_by : (k : Bool) (at around : Option ℕ) (B : List Mark → Type 0) → ComesBy k at around B [] → (k ≡ false) × B []
unclosed_by false at around B h = (refl, h.1)
unclosed_by true at around B h = absurd h

pub comes_end : (os : List Opened) → Comes os [] → AllUnclosed os
comes_end [] h = tt
comes_end (o ∷ os) h =
    let two : (o.is_closed ≡ false) × Comes os [] = unclosed_by o.is_closed o.owed (owed_closer os) (Comes os) h in (two.0, comes_end os two.1)

-- ---- the walk

abbrev Joined : (List Opened → List Written) → (List Opened → List Written) → List Written → List Mark → Type 0
Joined K L Z cs = (us : List Opened) → Comes us cs → K us ≡ L us ++ Z

joined_if : (b : Bool) (x y u v Z : List Written) → (b ≡ true → x ≡ u ++ Z) → (b ≡ false → y ≡ v ++ Z) → (if b then x else y) ≡ (if b then u else v) ++ Z
joined_if true x y u v Z h g = h refl
joined_if false x y u v Z h g = g refl

end_before_joined : (t : Mark) (os : List Opened) (K L : List Opened → List Written) (Z : List Written) (cs : List Mark) → Joined K L Z cs → Comes os cs → end_before t os K ≡ end_before t os L ++ Z
end_before_joined t [] K L Z cs h s = h [] tt
end_before_joined t (o ∷ os) K L Z cs h s =
    joined_if (ends_before_item t o) (put t.behind o ∷ end_before t os K) (K (o ∷ os)) (put t.behind o ∷ end_before t os L) (L (o ∷ os)) Z
    (λ e. ap (λ ws. put t.behind o ∷ ws) (end_before_joined t os K L Z cs h (comes_around o os cs s))) (λ e. h (o ∷ os) s)

close_own_joined : (t : Mark) (os : List Opened) (K L : List Opened → List Written) (Z : List Written) (cs : List Mark) → Joined K L Z cs → Comes os (t ∷ cs) → close_own t os K ≡ close_own t os L ++ Z
close_own_joined t [] K L Z cs h s = ap (λ ws. left t ∷ ws) (h [] tt)
close_own_joined t (o ∷ os) K L Z cs h s =
    joined_if o.is_closed (closed t o.bracket ∷ K os) (put t.behind o ∷ close_own t os K) (closed t o.bracket ∷ L os) (put t.behind o ∷ close_own t os L) Z
    (λ e. ap (λ ws. closed t o.bracket ∷ ws) (h os (own_below_by o.is_closed o.owed (owed_closer os) (Comes os) (comes_grows os) t cs e s)))
    (λ e. ap (λ ws. put t.behind o ∷ ws) (close_own_joined t os K L Z cs h (own_around_by o.is_closed o.owed (owed_closer os) (Comes os) (t ∷ cs) e s)))

close_far_joined : (t : Mark) (os : List Opened) (K L : List Opened → List Written) (Z : List Written) (cs : List Mark) → Joined K L Z cs → Comes os cs → close_far t os K ≡ close_far t os L ++ Z
close_far_joined t [] K L Z cs h s = ap (λ ws. left t ∷ ws) (h [] tt)
close_far_joined t (o ∷ os) K L Z cs h s =
    let around : Comes os cs = comes_around o os cs s in
    joined_if o.is_closed (left t ∷ K (o ∷ os)) (if fits_closer t o then closed t o.bracket ∷ K os else put t.behind o ∷ close_far t os K)
    (left t ∷ L (o ∷ os)) (if fits_closer t o then closed t o.bracket ∷ L os else put t.behind o ∷ close_far t os L) Z
    (λ e. ap (λ ws. left t ∷ ws) (h (o ∷ os) s))
    (λ e. joined_if (fits_closer t o) (closed t o.bracket ∷ K os) (put t.behind o ∷ close_far t os K) (closed t o.bracket ∷ L os) (put t.behind o ∷ close_far t os L) Z
    (λ e. ap (λ ws. closed t o.bracket ∷ ws) (h os around))
    (λ e. ap (λ ws. put t.behind o ∷ ws) (close_far_joined t os K L Z cs h around)))

taken_joined : (k : MarkKind) (t : Mark) (os : List Opened) (K L : List Opened → List Written) (Z : List Written) (cs : List Mark) → Joined K L Z cs → Comes os (closers_reached k t cs)
    → mark_taken k t (closer_by k cs) K os ≡ mark_taken k t (closer_by k cs) L os ++ Z
taken_joined (mark.Open b) t os K L Z cs h s =
    ap (λ ws. kept t ∷ ws) (h (opened_by b t (keeps b t os (closer_of b cs)) os ∷ os) (opened_comes b t os cs s))
taken_joined (mark.Close b) t os K L Z cs h s =
    joined_if (is_owed t (owed_closer os)) (close_own t os K) (if is_brace b then close_far t os K else left t ∷ K os) (close_own t os L) (if is_brace b then close_far t os L else left t ∷ L os) Z
    (λ e. close_own_joined t os K L Z cs h s)
    (λ e. joined_if (is_brace b) (close_far t os K) (left t ∷ K os) (close_far t os L) (left t ∷ L os) Z
    (λ p. close_far_joined t os K L Z cs h (comes_not_own os t cs e s))
    (λ p. ap (λ ws. left t ∷ ws) (h os (comes_not_own os t cs e s))))
taken_joined mark.Item t os K L Z cs h s =
    end_before_joined t os (λ us. kept t ∷ K us) (λ us. kept t ∷ L us) Z cs (λ us r. ap (λ ws. kept t ∷ ws) (h us r)) s

reaching_before : (q s : List Mark) → closers_reaching s ≡ [] → closers_reaching (q ++ s) ≡ closers_reaching q
reaching_before [] s none = none
reaching_before (t ∷ q) s none = ap (closers_reached t.kind t) (reaching_before q s none)

-- all that is open ends before an item of column 0
end_here : (c x : Bool) (a b : List Written) → c ≡ false → x ≡ true → (if not c && x then a else b) ≡ a
end_here true x a b e p = absurd (no_truth (sym e))
end_here false true a b e p = refl
end_here false false a b e p = absurd (no_truth p)

first_column : (n m : ℕ) → n ≡ 0 → nat_le n m ≡ true
first_column n m e = ap (λ k. nat_le k m) e ∙ leb-zero m

end_before_item : (t : Mark) (os : List Opened) (K : List Opened → List Written) → t.indent ≡ 0 → AllUnclosed os → end_before t os K ≡ all_ended t.behind os ++ K []
end_before_item t [] K c un = refl
end_before_item t (o ∷ os) K c un =
    end_here o.is_closed (nat_le t.indent o.indent) (put t.behind o ∷ end_before t os K) (K (o ∷ os)) un.0 (first_column t.indent o.indent c)
    ∙ ap (λ ws. put t.behind o ∷ ws) (end_before_item t os K c un.1)

item_joined : (at : ℕ) (t : Mark) (s : List Mark) (k : MarkKind) (c : Option Mark) → k ≡ mark.Item → t.indent ≡ 0 → (os : List Opened) → AllUnclosed os
    → mark_taken k t c (written_from at s) os ≡ all_ended t.behind os ++ mark_taken k t c (written_from at s) []
item_joined at t s k c p i os un =
    ap (λ k. mark_taken k t c (written_from at s) os) p ∙ end_before_item t os (λ us. kept t ∷ written_from at s us) i un
    ∙ ap (λ k. all_ended t.behind os ++ mark_taken k t c (written_from at s) []) (sym p)

written_joined : (at : ℕ) (q : List Mark) (t : Mark) (s : List Mark) → t.kind ≡ mark.Item → t.indent ≡ 0 → closers_reaching (t ∷ s) ≡ []
    → Joined (written_from at (q ++ (t ∷ s))) (written_from t.behind q) (all_written at (t ∷ s)) (closers_reaching q)
written_joined at [] t s p i none os h = item_joined at t s t.kind (closer_by t.kind (closers_reaching s)) p i os (comes_end os h)
written_joined at (u ∷ q) t s p i none os h =
    ap (λ cs. mark_taken u.kind u (closer_by u.kind cs) (written_from at (q ++ (t ∷ s))) os) (reaching_before q (t ∷ s) none)
    ∙ taken_joined u.kind u os (written_from at (q ++ (t ∷ s))) (written_from t.behind q) (all_written at (t ∷ s)) (closers_reaching q) (written_joined at q t s p i none) h

-- Items behind: an item at the beginning of a line of column 0, behind which no closer is too much, is mended by itself, whatever is before it.
pub written_behind : (at : ℕ) (q : List Mark) (t : Mark) (s : List Mark) → t.kind ≡ mark.Item → t.indent ≡ 0 → closers_reaching (t ∷ s) ≡ []
    → all_written at (q ++ (t ∷ s)) ≡ all_written t.behind q ++ all_written at (t ∷ s)
written_behind at q t s p i none = written_joined at q t s p i none [] tt
