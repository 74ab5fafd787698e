-- Which edits are told.
use Rattle.std.proofs.Common.{◌≡◌, ◌+◌, ◌-◌, ℕ, suc, List, ◌∷◌, ◌++◌, length, get_or, take, IsUtf8, refl, ap, sym, subst, ◌∙◌, arith, length-append, Bool, true, false, Option, Some, None, ◌<◌, ◌^◌, ◌↔◌}
use Rattle.rust_edits.proofs.Common.{IsCharBoundary, TextRange, ArePartsAbout, AreCut, IsUncut, LacksByte, IsSome, with_feeds, ItemPlace, Loose, loose_in, body_about, begins_bare, MayStandInside, MayEdit, TellsLoose, Shift, IsShift, in_braces, is_alone, EndsFit, common_steps, take_at, append_cancel_left, IsCharBoundary-from_take, IsCharBoundary-after_ascii, false≢true, IsUtf8-append, Parts, same_Some}
use Rattle.rust_edits.specs.Edits.{HasBraces, ShiftsBraces}
use Rattle.rust_edits.proofs.StandingAlone.{alone_is, is_found}

-- ---- lists fall apart in one way at a place

pub front_alike : {A : Type 0} (xs ys zs ws : List A) → length xs ≡ length zs → xs ++ ys ≡ zs ++ ws → xs ≡ zs
front_alike xs ys zs ws n e = sym (take_at xs ys (length zs) n) ∙ ap (take (length zs)) e ∙ take_at zs ws (length zs) refl

pub back_alike : {A : Type 0} (xs ys zs ws : List A) → length xs ≡ length zs → xs ++ ys ≡ zs ++ ws → ys ≡ ws
back_alike xs ys zs ws n e = append_cancel_left xs ys ws (e ∙ ap (λ l. l ++ ws) (sym (front_alike xs ys zs ws n e)))

pub tail_alike : {A : Type 0} (x : A) (xs ys : List A) → x ∷ xs ≡ x ∷ ys → xs ≡ ys
tail_alike x xs ys e = cc

-- ---- where a text may be cut

pub cut_here : (text x y : List ℕ) (n : ℕ) → IsUtf8 text → text ≡ x ++ y → length x ≡ n → IsUtf8 x → IsCharBoundary text n
cut_here text x y n u e l v =
    let long : length text ≡ length x + length y = ap length e ∙ length-append x y in
    IsCharBoundary-from_take text n u (omega (arith, long, l)) (subst IsUtf8 (sym (ap (take n) e ∙ take_at x y n l)) v)

-- ---- the parts

module _ (text : List ℕ) (body range : TextRange) (q a b c s : List ℕ) (p : ArePartsAbout text body range q a b c s) where
  -- what is left behind what is cut off
  pub from_brace : (x y : List ℕ) → text ≡ x ++ y → length x ≡ body.start → y ≡ 123 ∷ (a ++ (b ++ (c ++ 125 ∷ s)))
  from_brace x y e n = back_alike x y q (123 ∷ (a ++ (b ++ (c ++ 125 ∷ s)))) (n ∙ sym p.opens) (sym e ∙ p.whole)

  pub from_front : (x y : List ℕ) → text ≡ x ++ 123 ∷ y → length x ≡ body.start → y ≡ a ++ (b ++ (c ++ 125 ∷ s))
  from_front x y e n = tail_alike 123 y (a ++ (b ++ (c ++ 125 ∷ s))) (from_brace x (123 ∷ y) e n)

  pub from_replaced : (x f y : List ℕ) → text ≡ x ++ 123 ∷ (f ++ y) → length x ≡ body.start → length f ≡ length a → y ≡ b ++ (c ++ 125 ∷ s)
  from_replaced x f y e n l = back_alike f y a (b ++ (c ++ 125 ∷ s)) l (from_front x (f ++ y) e n)

  pub from_back : (x f r y : List ℕ) → text ≡ x ++ 123 ∷ (f ++ (r ++ y)) → length x ≡ body.start → length f ≡ length a → length r ≡ length b → y ≡ c ++ 125 ∷ s
  from_back x f r y e n l m = back_alike r y b (c ++ 125 ∷ s) m (from_replaced x f (r ++ y) e n l)

  pub from_close : (x f r k y : List ℕ) → text ≡ x ++ 123 ∷ (f ++ (r ++ (k ++ y))) → length x ≡ body.start → length f ≡ length a → length r ≡ length b → length k ≡ length c → y ≡ 125 ∷ s
  from_close x f r k y e n l m i = back_alike k y c (125 ∷ s) i (from_back x f r (k ++ y) e n l m)

-- the parts of a text are what it was cut into
pub record SameParts (p : Parts) (a b c : List ℕ) : Type 0 where
  pub front : a ≡ p.front.now
  pub replaced : b ≡ p.replaced.now
  pub back : c ≡ p.back.now

pub same_parts : (text : List ℕ) (body range : TextRange) (p : Parts) (q a b c s : List ℕ) → AreCut text body range p → ArePartsAbout text body range q a b c s → SameParts p a b c
same_parts text body range p q a b c s k h =
    let opens = h.opens in
    let starts = h.starts in
    let ends = h.ends in
    let closes = h.closes in
    let opens_too = k.about.opens in
    let starts_too = k.about.starts in
    let ends_too = k.about.ends in
    let closes_too = k.about.closes in
    let f = p.front.now in
    let r = p.replaced.now in
    let d = p.back.now in
    let w = p.behind.now in
    let one : length a ≡ length f = omega (arith, opens, starts, opens_too, starts_too) in
    let two : length b ≡ length r = omega (arith, ends, ends_too) in
    let three : length c ≡ length d = omega (arith, closes, closes_too) in
    let front_is = sym (from_front text body range q a b c s h p.before.now (f ++ (r ++ (d ++ 125 ∷ w))) k.about.whole k.about.opens) in
    let replaced_is = sym (from_replaced text body range q a b c s h p.before.now f (r ++ (d ++ 125 ∷ w)) k.about.whole k.about.opens (sym one)) in
    let back_is = sym (from_back text body range q a b c s h p.before.now f r (d ++ 125 ∷ w) k.about.whole k.about.opens (sym one) (sym two)) in
    record {
      front = front_alike a (b ++ (c ++ 125 ∷ s)) f (r ++ (d ++ 125 ∷ w)) one front_is;
      replaced = front_alike b (c ++ 125 ∷ s) r (d ++ 125 ∷ w) two replaced_is;
      back = front_alike c (125 ∷ s) d (125 ∷ w) three back_is;
    }

-- ---- a text that is not cut so

-- a text that cannot be cut behind its first byte
pub uncut_byte : (text : List ℕ) (byte : ℕ) → IsUtf8 text → (IsCharBoundary text 1 → ⊥) → LacksByte text byte
uncut_byte text byte u f low rest e =
    let long : length text ≡ suc (length rest) = ap length e in
    let first : get_or text 0 0 ≡ byte = ap (λ l. get_or l 0 0) e in
    f (IsCharBoundary-after_ascii text 0 u (omega (arith, long)) (omega (arith, first, low)))

module _ (text : List ℕ) (body range : TextRange) where
  module _ (x : List ℕ) (opens : length x ≡ body.start) where
    pub uncut_front : (y : List ℕ) (n : ℕ) → text ≡ x ++ 123 ∷ y → IsUtf8 y → n ≡ range.start - body.start - 1 → (IsCharBoundary y n → ⊥) → IsUncut text body range
    uncut_front y n e u same f q a b c s p =
        let first = p.opens in
        let starts = p.starts in
        f (cut_here y a (b ++ (c ++ 125 ∷ s)) n u (from_front text body range q a b c s p x y e opens) (omega (arith, first, starts, same)) p.front_utf8)

    module _ (g : List ℕ) (starts : length g ≡ range.start - body.start - 1) where
      front_long : (q a b c s : List ℕ) → ArePartsAbout text body range q a b c s → length g ≡ length a
      front_long q a b c s p = let first = p.opens in let second = p.starts in omega (arith, first, second, starts)

      pub uncut_replaced : (y : List ℕ) (n : ℕ) → text ≡ x ++ 123 ∷ (g ++ y) → IsUtf8 y → n ≡ range.end - range.start → (IsCharBoundary y n → ⊥) → IsUncut text body range
      uncut_replaced y n e u same f q a b c s p =
          let ends = p.ends in
          f (cut_here y b (c ++ 125 ∷ s) n u (from_replaced text body range q a b c s p x g y e opens (front_long q a b c s p)) (omega (arith, ends, same)) p.replaced_utf8)

      module _ (r : List ℕ) (ends : length r ≡ range.end - range.start) where
        replaced_long : (q a b c s : List ℕ) → ArePartsAbout text body range q a b c s → length r ≡ length b
        replaced_long q a b c s p = let last = p.ends in omega (arith, last, ends)

        pub uncut_back : (y : List ℕ) (n : ℕ) → text ≡ x ++ 123 ∷ (g ++ (r ++ y)) → IsUtf8 y → n ≡ body.end - range.end - 1 → (IsCharBoundary y n → ⊥) → IsUncut text body range
        uncut_back y n e u same f q a b c s p =
            let closes = p.closes in
            f (cut_here y c (125 ∷ s) n u (from_back text body range q a b c s p x g r y e opens (front_long q a b c s p) (replaced_long q a b c s p)) (omega (arith, closes, same)) p.back_utf8)

        pub uncut_shut : (k y : List ℕ) → length k ≡ body.end - range.end - 1 → text ≡ x ++ 123 ∷ (g ++ (r ++ (k ++ y))) → LacksByte y 125 → IsUncut text body range
        uncut_shut k y long e f q a b c s p =
            let closes = p.closes in
            f (omega arith) s (from_close text body range q a b c s p x g r k y e opens (front_long q a b c s p) (replaced_long q a b c s p) (omega (arith, closes, long)))

pub none_told : (A P : Type 0) → (P → ⊥) → IsSome {T = A} None ↔ P
none_told A P f = (λ e. absurd (false≢true e), λ p. absurd (f p))

module _ (items : List ItemPlace) (old typed : List ℕ) (range : TextRange) where
  module _ (body : TextRange) (about : Some body ≡ body_about range.start items) where
    own_parts : (m : MayEdit items old range typed) → ArePartsAbout old body range m.before m.front m.replaced m.back m.behind
    own_parts m = subst (λ (r : TextRange). ArePartsAbout old r range m.before m.front m.replaced m.back m.behind) (same_Some m.body body (sym m.about ∙ sym about)) m.parts

    module _ (p : Parts) (cut : AreCut old body range p) where
      same : (m : MayEdit items old range typed) → SameParts p m.front m.replaced m.back
      same m = same_parts old body range p m.before m.front m.replaced m.back m.behind cut (own_parts m)

      stood_is : (m : MayEdit items old range typed) → m.front ++ (m.replaced ++ m.back) ≡ p.front.now ++ (p.replaced.now ++ p.back.now)
      stood_is m = ap (λ (l : List ℕ). l ++ (m.replaced ++ m.back)) (same m).front ∙ ap (λ (l : List ℕ). p.front.now ++ (l ++ m.back)) (same m).replaced ∙ ap (λ (l : List ℕ). p.front.now ++ (p.replaced.now ++ l)) (same m).back

      stands_is : (m : MayEdit items old range typed) → m.front ++ (typed ++ m.back) ≡ p.front.now ++ (typed ++ p.back.now)
      stands_is m = ap (λ (l : List ℕ). l ++ (typed ++ m.back)) (same m).front ∙ ap (λ (l : List ℕ). p.front.now ++ (typed ++ l)) (same m).back

      pub not_stood : is_alone (with_feeds (in_braces (p.front.now ++ (p.replaced.now ++ p.back.now)))) ≡ false → MayEdit items old range typed → ⊥
      not_stood e m = false≢true (sym e ∙ is_found (p.front.now ++ (p.replaced.now ++ p.back.now)) (subst MayStandInside (stood_is m) m.stood))

      pub not_stands : is_alone (with_feeds (in_braces (p.front.now ++ (typed ++ p.back.now)))) ≡ false → MayEdit items old range typed → ⊥
      not_stands e m = false≢true (sym e ∙ is_found (p.front.now ++ (typed ++ p.back.now)) (subst MayStandInside (stands_is m) m.stands))

      -- whether as many brackets are loose as before
      pub loose_told : (keeps : Bool) → (keeps ≡ true → loose_in (with_feeds (p.front.now ++ (typed ++ p.back.now))) ≡ loose_in (with_feeds (p.front.now ++ (p.replaced.now ++ p.back.now))))
          → (loose_in (with_feeds (p.front.now ++ (typed ++ p.back.now))) ≡ loose_in (with_feeds (p.front.now ++ (p.replaced.now ++ p.back.now))) → keeps ≡ true) → TellsLoose items old range typed keeps
      loose_told keeps to from m =
          let loose : List ℕ → Loose = λ l. loose_in (with_feeds l) in
          (λ k. ap loose (stands_is m) ∙ to k ∙ sym (ap loose (stood_is m)), λ e. from (sym (ap loose (stands_is m)) ∙ e ∙ ap loose (stood_is m)))

      -- the shift has the places of the braces
      pub shift_told : (shift : Shift) → IsShift body range (length typed) (length p.back.now) shift → ShiftsBraces items old range typed shift
      shift_told shift moves m =
          let is_body : body ≡ m.body = same_Some body m.body (about ∙ m.about) in
          let closing = moves.closing in
          let closing_new = moves.closing_new in
          let closes = cut.about.closes in
          let ends = m.parts.ends in
          record {
            opening = moves.opening ∙ ap (λ (r : TextRange). r.start) is_body;
            closing = (let at : suc shift.closing ≡ body.end = omega (arith, closing, closes) in at) ∙ ap (λ (r : TextRange). r.end) is_body;
            closing_new = omega (arith, closing, closing_new, ends);
          }

      -- the places of the `}` fit into memory
      fits : length old < 2 ^ 63 → length typed < 2 ^ 63 → EndsFit range (length typed) (length p.back.now)
      fits small small_typed = grind (arith, common_steps)

      -- all that is asked holds
      pub all_told : {A : Type 0} (o : Option A) → IsSome o ↔ EndsFit range (length typed) (length p.back.now) → length old < 2 ^ 63 → length typed < 2 ^ 63 → begins_bare old ≡ true → IsUtf8 typed
          → is_alone (with_feeds (in_braces (p.front.now ++ (p.replaced.now ++ p.back.now)))) ≡ true → is_alone (with_feeds (in_braces (p.front.now ++ (typed ++ p.back.now)))) ≡ true
          → IsSome o ↔ MayEdit items old range typed
      all_told o t small small_typed bare u stood stands = (
        λ e. record {
          body = body;
          before = p.before.now;
          front = p.front.now;
          replaced = p.replaced.now;
          back = p.back.now;
          behind = p.behind.now;
          bare = bare;
          about = sym about;
          parts = cut.about;
          stood = alone_is (p.front.now ++ (p.replaced.now ++ p.back.now)) (IsUtf8-append _ _ cut.about.front_utf8 (IsUtf8-append _ _ cut.about.replaced_utf8 cut.about.back_utf8)) stood;
          stands = alone_is (p.front.now ++ (typed ++ p.back.now)) (IsUtf8-append _ _ cut.about.front_utf8 (IsUtf8-append _ _ u cut.about.back_utf8)) stands;
        },
        λ m. t.1 (fits small small_typed),
      )
