-- The holes of a text in which something was typed.
use Rattle.std.proofs.Common.{◌≡◌, ◌≤◌, ◌<◌, ◌+◌, ◌-◌, ◌++◌, ◌==◌, ◌⊎◌, inl, inr, ℕ, suc, Bool, true, false, Option, Some, None, List, [], ◌∷◌, length, refl, sym, ap, ◌∙◌, subst, arith, nat_lt, option_map, map, flat_map, append_assoc, append-nil, length-append}
use Rattle.std.specs.List.{Contains, list_any}
use Rattle.std.proofs.Math.Seq.{get_or-append_seam}
use Rattle.std.proofs.lemmas.Bool.{eqb-true, and_parts}
use Rattle.std.proofs.lemmas.Bool.Decides.{nat_tests}
use Rattle.std.proofs.lemmas.Grind.{flat_map-append}
use Rattle.std.proofs.lemmas.List.{map-append}
use Rattle.std.proofs.lemmas.List.Concat.{flat_map-cons}
use Rattle.hir_input.specs.declared.ids.AstIdKind.{AstIdKind}
use Rattle.hir_input.specs.declared.ids.AstIdKind.TheVariants as kind
use Rattle.rust_lexer.proofs.Cases.{when}
use Rattle.rust_paths.specs.declared.names.TextRange.{TextRange}
use Rattle.source_changes.specs.declared.kept.Hole.{Hole}
use Rattle.rust_items.specs.declared.source_file.ItemPlace.{ItemPlace}
use Rattle.rust_items.specs.Places.{IsNameIn}
use Rattle.rust_items.specs.Members.{range_moved_by}
use Rattle.source_changes.specs.Bodies.{is_hole, hole_of}
use Rattle.rust_items.specs.LineEnds.{moved_range}
use Rattle.rust_edits.specs.Typing.Laws.{with_body}
use Rattle.rust_edits.specs.Typing.Moved.{close_at, moved_place, place_after_edit, shifted_by}
use Rattle.hir_input.specs.declared.edition.EditionYear.{EditionYear}
use Rattle.source_changes.specs.Parts.{fn_body}
use Rattle.source_changes.specs.Rows.{hole_inside}
use Rattle.source_changes.specs.Typing.{is_range, has_hole, braces, moved_hole}
use Rattle.source_changes.proofs.LeftOutParts.{moved_on}
use Rattle.source_changes.proofs.Moving.{all_move, all_stay, moves, one_moves, stays}
use Rattle.source_changes.proofs.HoleOrder.{AreRising, as_name, rising_item, rising_within}
use Rattle.source_changes.proofs.ItemHoles.{item_holes, place_holes, item_front, item_behind, none_held}
use Rattle.source_changes.proofs.PartedItems.{Stands, AllStand, AreBefore, may_hold}

-- ---- the braces that are a hole

-- a function with these braces
pub record IsFunction (text : List ℕ) (braces : TextRange) (s : ItemPlace) : Type 0 where
  pub is_fn : s.id.kind ≡ kind.Fn
  pub is_body : s.body ≡ Some braces
  pub own : hole_of text s.range (fn_body s.id.kind s.body) ≡ Some braces

pub range_is : (r : TextRange) (o : Option TextRange) → is_range r o ≡ true → o ≡ Some r
range_is r None e = absurd cc
range_is r (Some s) e =
    let tests = and_parts (s.start == r.start) (s.end == r.end) e in
    let starts : s.start ≡ r.start = eqb-true s.start r.start tests.0 in
    let ends : s.end ≡ r.end = eqb-true s.end r.end tests.1 in
    λ i. Some (record { start = starts i; end = ends i })

pub hole_is : (text : List ℕ) (range braces : TextRange) (o : Option TextRange) → hole_of text range o ≡ Some braces → o ≡ Some braces
hole_is text range braces None e = absurd cc
hole_is text range braces (Some r) e = when (is_hole text range r) (λ h. rw h at e) (λ h. absurd (let no : None ≡ Some braces = rw h at e in cc))

fn_is : (k : AstIdKind) (o : Option TextRange) (braces : TextRange) → fn_body k o ≡ Some braces → (k ≡ kind.Fn) × (o ≡ Some braces)
fn_is kind.Fn o braces e = (refl, e)
fn_is _ o braces e = absurd cc

pub function_is : (text : List ℕ) (braces : TextRange) (s : ItemPlace) → has_hole text braces s ≡ true → IsFunction text braces s
function_is text braces s e =
    let own = range_is braces (hole_of text s.range (fn_body s.id.kind s.body)) e in
    let f = fn_is s.id.kind s.body braces (hole_is text s.range braces (fn_body s.id.kind s.body) own) in
    record { is_fn = f.0; is_body = f.1; own = own }

pub fn_holds_none : (text : List ℕ) (braces : TextRange) (s : ItemPlace) → has_hole text braces s ≡ true → may_hold s.id.kind ≡ false
fn_holds_none text braces s e = ap may_hold (function_is text braces s e).is_fn

-- it has no other hole
own_holes : (edition : EditionYear) (text : List ℕ) (braces : TextRange) (s : ItemPlace) → IsFunction text braces s → place_holes edition text s ≡ hole_inside (Some braces)
own_holes edition text braces s f = rw f.own (rw f.is_fn (append-nil (hole_inside (Some braces))))

-- ---- items before the braces

module _ (edition : EditionYear) (n c c' : ℕ) where
  abbrev move : ℕ → ℕ
  move = place_after_edit n c c'

  pub range_stays : (r : TextRange) → r.start ≤ n → r.end ≤ n → moved_range move r ≡ r
  range_stays r a b = let starts = stays n c c' r.start a in let ends = stays n c c' r.end b in λ i. record { start = starts i; end = ends i }

  pub body_stays : (range : TextRange) (o : Option TextRange) → range.end ≤ n → IsNameIn range o → option_map (moved_range move) o ≡ o
  body_stays range None le b = refl
  body_stays range (Some r) le b = ap Some (range_stays r (omega (arith, b.1, b.2, le)) (omega (arith, b.2, le)))

  place_stays : (text : List ℕ) (p : ItemPlace) → Stands 0 n p → place_holes edition text (moved_place move p) ≡ place_holes edition text p
  place_stays text p s =
      let range = range_stays p.range (omega (arith, s.some, s.ends)) s.ends in
      let body = body_stays p.range p.body s.ends (as_name p.range p.body s.body) in
      λ i. item_holes edition text p.id.kind (range i) (body i)

  -- ---- items behind the braces

  abbrev pub back : TextRange → TextRange
  back r = record { start = r.start - c; end = r.end - c }

  pub range_back : (r : TextRange) → c ≤ r.start → c ≤ r.end → r ≡ range_moved_by c (back r)
  range_back r a b =
      let starts : r.start ≡ c + (r.start - c) = omega (arith, a) in
      let ends : r.end ≡ c + (r.end - c) = omega (arith, b) in λ i. record { start = starts i; end = ends i }

  pub range_on : (r : TextRange) → n < r.start → n < r.end → moved_range move r ≡ range_moved_by c' (back r)
  range_on r a b =
      let starts : move r.start ≡ c' + (r.start - c) = moves n c c' r.start a in
      let ends : move r.end ≡ c' + (r.end - c) = moves n c c' r.end b in λ i. record { start = starts i; end = ends i }

  pub maybe_back : (low : ℕ) (range : TextRange) (o : Option TextRange) → n < low → c ≤ low → low ≤ range.start → IsNameIn range o
      → (o ≡ option_map (range_moved_by c) (option_map back o)) × (option_map (moved_range move) o ≡ option_map (range_moved_by c') (option_map back o))
  maybe_back low range None some le from b = (refl, refl)
  maybe_back low range (Some r) some le from b =
      (ap Some (range_back r (omega (arith, le, from, b.0)) (omega (arith, le, from, b.0, b.1))), ap Some (range_on r (omega (arith, some, from, b.0)) (omega (arith, some, from, b.0, b.1))))

  item_on : (x y : List ℕ) (d : ℕ) (k : AstIdKind) (range : TextRange) (body : Option TextRange) → length x ≡ d → item_holes edition (x ++ y) k (range_moved_by d range) (option_map (range_moved_by d) body) ≡ map (moved_on d) (item_holes edition y k range body)
  item_on x y d k range body e = subst (λ (d : ℕ). item_holes edition (x ++ y) k (range_moved_by d range) (option_map (range_moved_by d) body) ≡ map (moved_on d) (item_holes edition y k range body)) e (item_behind edition x y k range body)

  -- ---- the item with the braces is the only one

  abbrev braces_new : TextRange
  braces_new = record { start = n; end = suc c' }

  module _ (some : n < c') (has : ItemPlace → Bool) (no_holder : (p : ItemPlace) → has p ≡ true → may_hold p.id.kind ≡ false) (is_body : (p : ItemPlace) → has p ≡ true → p.body ≡ Some braces_new) where
    none_before : (p : ItemPlace) → Stands 0 n p ⊎ (may_hold p.id.kind ≡ true) → has (moved_place move p) ≡ false
    none_before p (inl s) =
        when (has (moved_place move p))
        (λ h. let b : IsNameIn p.range p.body = as_name p.range p.body s.body in
        let is : p.body ≡ Some braces_new = sym (body_stays p.range p.body s.ends b) ∙ is_body (moved_place move p) h in
        let k : IsNameIn p.range (Some braces_new) = subst (IsNameIn p.range) is b in
        absurd (omega (arith, k.1, k.2, s.ends, some)))
        (λ h. h)
    none_before p (inr k) =
        when (has (moved_place move p)) (λ h. absurd (let no : false ≡ true = sym (no_holder (moved_place move p) h) ∙ k in cc)) (λ h. h)

    not_there : (low : ℕ) (range : TextRange) (o : Option TextRange) → n < low → low ≤ range.start → IsNameIn range o → option_map (moved_range move) o ≡ Some braces_new → ⊥
    not_there low range None high from b e = absurd cc
    not_there low range (Some r) high from b e =
        let start : move r.start ≡ n = ap (λ o. start_of o) e in
        let moved : move r.start ≡ c' + (r.start - c) = moves n c c' r.start (omega (arith, high, from, b.0)) in
        absurd (omega (arith, start, moved, some))
      where
        start_of : Option TextRange → ℕ
        start_of None = 0
        start_of (Some r) = r.start

    none_behind : (to : ℕ) (ps : List ItemPlace) → n < c → AllStand (suc c) to ps → list_any has (map (moved_place move) ps) ≡ false
    none_behind to [] low a = refl
    none_behind to (p ∷ ps) low a =
        when (has (moved_place move p))
        (λ h. absurd (not_there (suc c) p.range p.body (omega (arith, low)) a.0.begins (as_name p.range p.body a.0.body) (is_body (moved_place move p) h)))
        (λ h. rw h (none_behind to ps low a.1))

    pub only_one : (to : ℕ) (before behind : List ItemPlace) (one : ItemPlace) → n < c → AreBefore n before → AllStand (suc c) to behind → list_any has (map (moved_place move) (before ++ one ∷ behind)) ≡ true → has (moved_place move one) ≡ true
    only_one to [] behind one low a b e =
        when (has (moved_place move one)) (λ h. h) (λ h. absurd (let yes : list_any has (map (moved_place move) behind) ≡ true = rw h at e in let no = none_behind to behind low b in cc))
    only_one to (p ∷ before) behind one low a b e =
        only_one to before behind one low a.1 b (rw (none_before p a.0) at e)

-- ---- the holes of both texts

pub braces_hole : (n c : ℕ) → n < c → hole_inside (Some (record { start = n; end = suc c })) ≡ record { start = suc n; end = c } ∷ []
braces_hole n c some =
    let order : nat_lt n (suc c) ≡ true = grind (arith, nat_tests) in
    let starts : n + 1 ≡ suc n = omega arith in
    let ends : suc c - 1 ≡ c = omega arith in
    rw order (λ i. record { start = starts i; end = ends i } ∷ [])

-- the holes of some items, one, and others
pub parted_holes : (f : ItemPlace → List Hole) (before behind : List ItemPlace) (one : ItemPlace) (h : Hole) → f one ≡ h ∷ [] → flat_map f (before ++ one ∷ behind) ≡ flat_map f before ++ h ∷ flat_map f behind
parted_holes f before behind one h e = flat_map-append f before (one ∷ behind) ∙ ap (λ l. flat_map f before ++ l) (flat_map-cons f one behind ∙ ap (λ l. l ++ flat_map f behind) e)

pub contained : (hs ks : List Hole) (h : Hole) → Contains (hs ++ h ∷ ks) h
contained hs ks h = (length hs, (let all = length-append hs (h ∷ ks) in omega (arith, all)), get_or-append_seam hs h ks h)

-- holes of items of both texts
module _ (f f' : ItemPlace → List Hole) (move : ItemPlace → ItemPlace) (shift : Hole → Hole) where
  abbrev AreMoved : ItemPlace → Type 0
  AreMoved p = f' (move p) ≡ map shift (f p)

  abbrev AllMove : List ItemPlace → Type 0
  AllMove [] = Unit {0}
  AllMove (p ∷ ps) = AreMoved p × AllMove ps

  all_moved : (ps : List ItemPlace) → AllMove ps → flat_map f' (map move ps) ≡ map shift (flat_map f ps)
  all_moved [] a = refl
  all_moved (p ∷ ps) a =
      flat_map-cons f' (move p) (map move ps) ∙ ap (λ l. l ++ flat_map f' (map move ps)) a.0 ∙ ap (λ l. map shift (f p) ++ l) (all_moved ps a.1)
      ∙ sym (map-append shift (f p) (flat_map f ps)) ∙ sym (ap (map shift) (flat_map-cons f p ps))

  -- of items before a place, one, and those behind another
  module _ (at low to : ℕ) (first : (p : ItemPlace) → Stands 0 at p ⊎ (may_hold p.id.kind ≡ true) → AreMoved p) (later : (p : ItemPlace) → Stands low to p → AreMoved p) where
    all_behind : (ps : List ItemPlace) → AllStand low to ps → AllMove ps
    all_behind [] a = tt
    all_behind (p ∷ ps) a = (later p a.0, all_behind ps a.1)

    all_around : (before behind : List ItemPlace) (one : ItemPlace) → AreBefore at before → AreMoved one → AllStand low to behind → AllMove (before ++ one ∷ behind)
    all_around [] behind one a h b = (h, all_behind behind b)
    all_around (p ∷ before) behind one a h b = (first p a.0, all_around before behind one a.1 h b)

    pub around_moved : (before behind : List ItemPlace) (one : ItemPlace) → AreBefore at before → AreMoved one → AllStand low to behind → flat_map f' (map move (before ++ one ∷ behind)) ≡ map shift (flat_map f (before ++ one ∷ behind))
    around_moved before behind one a h b = all_moved (before ++ one ∷ behind) (all_around before behind one a h b)

module _ (edition : EditionYear) (q m m' s : List ℕ) where
  abbrev n : ℕ
  n = length q

  abbrev c : ℕ
  c = close_at q m

  abbrev c' : ℕ
  c' = close_at q m'

  abbrev text : List ℕ → List ℕ
  text m = with_body q m s

  abbrev front : List ℕ
  front = q ++ 123 ∷ []

  abbrev mv : ItemPlace → ItemPlace
  mv = moved_place (shifted_by q m m')

  abbrev mvh : List Hole → List Hole
  mvh hs = map (moved_hole (shifted_by q m m')) hs

  pub text_front : (m : List ℕ) → text m ≡ front ++ (m ++ 125 ∷ s)
  text_front m = sym (append_assoc q (123 ∷ []) (m ++ 125 ∷ s))

  pub text_back : (m : List ℕ) → text m ≡ (q ++ 123 ∷ m) ++ 125 ∷ s
  text_back m = sym (append_assoc q (123 ∷ m) (125 ∷ s))

  pub long : (m : List ℕ) → length (q ++ 123 ∷ m) ≡ close_at q m
  long m = let all = length-append q (123 ∷ m) in omega (arith, all)

  -- an item has the same holes in both texts, moved
  abbrev HolesMove : ItemPlace → Type 0
  HolesMove p = place_holes edition (text m') (mv p) ≡ mvh (place_holes edition (text m) p)

  pub before_moves : (p : ItemPlace) → Stands 0 n p ⊎ (may_hold p.id.kind ≡ true) → HolesMove p
  before_moves p (inl at) =
      let low : n < length front = let all = length-append q (123 ∷ []) in omega (arith, all) in
      let here = λ (m : List ℕ). ap (λ t. place_holes edition t p) (text_front m) ∙ item_front edition front (m ++ 125 ∷ s) n p.id.kind p.range p.body low at.ends at.body in
      let size : p.range.start ≤ p.range.end = omega (arith, at.some) in
      let hs = place_holes edition (text m) p in
      place_stays edition n c c' (text m') p at ∙ here m' ∙ sym (here m) ∙ sym (all_stay n c c' (omega arith) p.range.start hs (rising_within p.range.start p.range.end p.range.start n hs (omega arith) at.ends (rising_item edition (text m) p.id.kind p.range p.body size at.body)))
  before_moves p (inr h) = let none = none_held edition p.id.kind h in none (text m') (mv p).range (mv p).body ∙ sym (ap mvh (none (text m) p.range p.body))

  pub behind_moves : (to : ℕ) (p : ItemPlace) → Stands (suc c) to p → HolesMove p
  behind_moves to p at =
      let from = at.begins in
      let size = at.some in
      let range = range_back edition n c c' p.range (omega (arith, from)) (omega (arith, from, size)) in
      let range' = range_on edition n c c' p.range (omega (arith, from)) (omega (arith, from, size)) in
      let body = maybe_back edition n c c' (suc c) p.range p.body (omega arith) (omega arith) from (as_name p.range p.body at.body) in
      let rest = item_holes edition (125 ∷ s) p.id.kind (back edition n c c' p.range) (option_map (back edition n c c') p.body) in
      let old : place_holes edition (text m) p ≡ map (moved_on c) rest =
      ap (λ t. place_holes edition t p) (text_back m) ∙ (λ i. item_holes edition ((q ++ 123 ∷ m) ++ 125 ∷ s) p.id.kind (range i) (body.0 i)) ∙ item_on edition n c c' (q ++ 123 ∷ m) (125 ∷ s) c p.id.kind (back edition n c c' p.range) (option_map (back edition n c c') p.body) (long m) in
      let new : place_holes edition (text m') (mv p) ≡ map (moved_on c') rest =
      ap (λ t. place_holes edition t (mv p)) (text_back m') ∙ (λ i. item_holes edition ((q ++ 123 ∷ m') ++ 125 ∷ s) p.id.kind (range' i) (body.1 i)) ∙ item_on edition n c c' (q ++ 123 ∷ m') (125 ∷ s) c' p.id.kind (back edition n c c' p.range) (option_map (back edition n c c') p.body) (long m') in
      let rises = subst (AreRising p.range.start p.range.end) old (rising_item edition (text m) p.id.kind p.range p.body (omega (arith, size)) at.body) in
      new ∙ sym (ap mvh old ∙ all_move n c c' (omega arith) p.range.start p.range.end rest (omega (arith, from)) rises)

  module _ (to : ℕ) (before behind : List ItemPlace) (one : ItemPlace) (are_before : AreBefore n before) (are_behind : AllStand (suc c) to behind) (has : has_hole (text m) (braces q m) one ≡ true)
      (has' : list_any (has_hole (text m') (braces q m')) (map mv (before ++ one ∷ behind)) ≡ true) where
    own : place_holes edition (text m) one ≡ record { start = suc n; end = c } ∷ []
    own = own_holes edition (text m) (braces q m) one (function_is (text m) (braces q m) one has) ∙ braces_hole n c (omega arith)

    own_new : place_holes edition (text m') (mv one) ≡ record { start = suc n; end = c' } ∷ []
    own_new =
        let has_one = only_one edition n c c' (omega arith) (has_hole (text m') (braces q m')) (λ p e. fn_holds_none (text m') (braces q m') p e) (λ p e. (function_is (text m') (braces q m') p e).is_body) to before behind one (omega arith) are_before are_behind has' in
        own_holes edition (text m') (braces q m') (mv one) (function_is (text m') (braces q m') (mv one) has_one) ∙ braces_hole n c' (omega arith)

    pub holes_typed : Contains (flat_map (place_holes edition (text m)) (before ++ one ∷ behind)) (record { start = suc n; end = c })
        × (flat_map (place_holes edition (text m')) (map mv (before ++ one ∷ behind)) ≡ mvh (flat_map (place_holes edition (text m)) (before ++ one ∷ behind)))
    holes_typed = (
      subst (λ hs. Contains hs (record { start = suc n; end = c })) (sym (parted_holes (place_holes edition (text m)) before behind one _ own)) (contained (flat_map (place_holes edition (text m)) before) (flat_map (place_holes edition (text m)) behind) _),
      around_moved (place_holes edition (text m)) (place_holes edition (text m')) mv (moved_hole (shifted_by q m m')) n (suc c) to before_moves (behind_moves to) before behind one are_before
          (own_new ∙ sym (ap mvh own ∙ ap (λ h. h ∷ []) (one_moves n c c' (omega arith)))) are_behind,
    )
