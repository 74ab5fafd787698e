-- Holes come in order, one behind the other.
use Rattle.std.proofs.Common.{◌≡◌, ◌≤◌, ◌<◌, ◌+◌, ◌++◌, ℕ, suc, Bool, true, false, Option, Some, None, List, [], ◌∷◌, refl, sym, ap, ◌∙◌, subst, arith, nat_lt, flat_map, append_assoc, append-nil}
use Rattle.std.proofs.lemmas.Bool.Decides.{nat_tests}
use Rattle.std.proofs.lemmas.Grind.{flat_map-append}
use Rattle.std.proofs.lemmas.List.Concat.{flat_map-cons}
use Rattle.hir_input.specs.Syntax.{ItemViews}
use Rattle.hir_input.specs.declared.ids.AstIdKind.{AstIdKind}
use Rattle.hir_input.specs.declared.ids.AstIdKind.TheVariants as kind
use Rattle.rust_lexer.proofs.Cases.{when}
use Rattle.rust_paths.specs.declared.names.TextRange.{TextRange}
use Rattle.source_changes.specs.declared.kept.Hole.{Hole}
use Rattle.rust_items.specs.declared.source_file.ItemPlace.{ItemPlace}
use Rattle.rust_items.specs.Places.{Telling, IsNameIn, IsBodyIn, ArePlaces, nothing, placed}
use Rattle.hir_input.specs.declared.edition.EditionYear.{EditionYear}
use Rattle.rust_metas.specs.declared.wanted.WantedMetas.TheVariants as wanted
use Rattle.rust_items.specs.MemberLists.{members}
use Rattle.rust_items.specs.Members.{MemberRead}
use Rattle.rust_items.specs.MemberPlaces.{ArePlaced}
use Rattle.source_rows.specs.Labels.{has_members}
use Rattle.source_changes.specs.Bodies.{is_hole}
use Rattle.source_rows.specs.Listed.{body_members}
use Rattle.source_changes.specs.Rows.{hole_inside}
use Rattle.source_changes.proofs.ItemHoles.{hole_at, item_holes, place_holes, member_holes, members_are, none_held}
use Rattle.source_changes.proofs.PartedItems.{held_none, may_hold, none_placed}

-- the braces of holes stand from a place on and up to another, each behind those before
abbrev pub AreRising : ℕ → ℕ → List Hole → Type 0
AreRising low high [] = low ≤ high
AreRising low high (h ∷ hs) = (low < h.start) × (h.start ≤ suc h.end) × AreRising (suc h.end) high hs

pub rising_within : (low high low' high' : ℕ) (hs : List Hole) → low' ≤ low → high ≤ high' → AreRising low high hs → AreRising low' high' hs
rising_within low high low' high' [] a b r = omega (arith, r)
rising_within low high low' high' (h ∷ hs) a b r = (omega (arith, r.0), r.1, rising_within (suc h.end) high (suc h.end) high' hs (omega arith) b r.2)

pub rising_le : (low high : ℕ) (hs : List Hole) → AreRising low high hs → low ≤ high
rising_le low high [] r = r
rising_le low high (h ∷ hs) r = omega (arith, r.0, r.1, rising_le (suc h.end) high hs r.2)

rising_append : (low mid high : ℕ) (hs ks : List Hole) → AreRising low mid hs → AreRising mid high ks → AreRising low high (hs ++ ks)
rising_append low mid high [] ks r t = rising_within mid high low high ks r (omega arith) t
rising_append low mid high (h ∷ hs) ks r t = (r.0, r.1, rising_append (suc h.end) mid high hs ks r.2 t)

rising_inside : (low high : ℕ) (o : Option TextRange) → low ≤ high → IsNameIn (record { start = low; end = high }) o → AreRising low high (hole_inside o)
rising_inside low high None le n = le
rising_inside low high (Some r) le n =
    let some : nat_lt r.start r.end ≡ true = let h = n.1 in grind (arith, nat_tests) in
    rw some (omega (arith, n.0), omega (arith, n.1), omega (arith, n.1, n.2))

pub rising_at : (text : List ℕ) (range : TextRange) (o : Option TextRange) → range.start ≤ range.end → IsNameIn range o → AreRising range.start range.end (hole_at text range o)
rising_at text range None le n = le
rising_at text range (Some r) le n = when (is_hole text range r) (λ h. rw h (rising_inside range.start range.end (Some r) le n)) (λ h. rw h le)

rising_members : (text : List ℕ) (from to : ℕ) (ms : List MemberRead) → from ≤ to → ArePlaced from to ms → AreRising from to (member_holes text ms)
rising_members text from to [] le a = le
rising_members text from to (m ∷ ms) le a =
    let here = rising_at text m.range m.body (omega (arith, a.0.some)) a.0.body in
    subst (AreRising from to) (sym (flat_map-cons (λ (m : MemberRead). hole_at text m.range m.body) m ms))
    (rising_append from m.range.end to (hole_at text m.range m.body) (member_holes text ms) (rising_within m.range.start m.range.end from m.range.end (hole_at text m.range m.body) a.0.begins (omega arith) here) (rising_members text m.range.end to ms a.0.ends a.1))

pub as_name : (range : TextRange) (o : Option TextRange) → IsBodyIn range o → IsNameIn range o
as_name range None b = tt
as_name range (Some r) b = (b.0, omega (arith, b.1), omega (arith, b.2))

of_members : (edition : EditionYear) (text : List ℕ) (k : AstIdKind) (has : Bool) (range : TextRange) (body : Option TextRange) → range.start ≤ range.end → IsBodyIn range body → AreRising range.start range.end (member_holes text (body_members edition k text has body))
of_members edition text k false range None le b = le
of_members edition text k false range (Some r) le b = le
of_members edition text k true range None le b = le
of_members edition text k true range (Some r) le b =
    rising_within r.start r.end range.start range.end (member_holes text (members wanted.Conditions edition k text r)) b.0 (omega (arith, b.2)) (rising_members text r.start r.end (members wanted.Conditions edition k text r) (omega (arith, b.1)) (members_are edition k text r))

-- those of an item stand in it
pub rising_item : (edition : EditionYear) (text : List ℕ) (k : AstIdKind) (range : TextRange) (body : Option TextRange) → range.start ≤ range.end → IsBodyIn range body → AreRising range.start range.end (item_holes edition text k range body)
rising_item edition text kind.Fn range body le b = subst (AreRising range.start range.end) (sym (append-nil (hole_at text range body))) (rising_at text range body le (as_name range body b))
rising_item edition text k range body le b = of_members edition text k (has_members k) range body le b

-- ---- those of all items

-- items, and what comes behind them
record Risen (edition : EditionYear) (text : List ℕ) (from to : ℕ) (ps rest : List ItemPlace) : Type 0 where
  list : List ItemPlace
  is : ps ≡ list ++ rest
  rising : AreRising from to (flat_map (place_holes edition text) list)

rises : {N : Telling} {from to : ℕ} {is : ItemViews} {ps rest : List ItemPlace} (edition : EditionYear) (text : List ℕ) → from ≤ to → ArePlaces N from to is ps rest → Risen edition text from to ps rest
rises edition text le nothing = record { list = []; is = refl; rising = le }
rises {N} {from} {to} {rest = rest} edition text le (placed {i = i} {p = p} {ps = ps} {mid = mid} place inside behind) =
    let later = rises edition text place.ends behind in
    let size : p.range.start ≤ p.range.end = omega (arith, place.some) in
    let leaf : may_hold p.id.kind ≡ false → Risen edition text from to (p ∷ ps) rest = λ none.
    record {
      list = p ∷ later.list;
      is = ap (λ l. p ∷ l) (none_placed (subst (λ l. ArePlaces N (p.range.start + 1) p.range.end l ps mid) (held_none i p.id place.id none) inside) ∙ later.is);
      rising = subst (AreRising from to) (sym (flat_map-cons (place_holes edition text) p later.list))
          (rising_append from p.range.end to (place_holes edition text p) (flat_map (place_holes edition text) later.list) (rising_within p.range.start p.range.end from p.range.end (place_holes edition text p) place.begins (omega arith) (rising_item edition text p.id.kind p.range p.body size place.body)) later.rising);
    } in
    let parent : may_hold p.id.kind ≡ true → Risen edition text from to (p ∷ ps) rest = λ some.
    let held = rises edition text (omega (arith, place.some)) inside in
    let all = held.list ++ later.list in
    record {
      list = p ∷ all;
      is = ap (λ l. p ∷ l) (held.is ∙ ap (λ l. held.list ++ l) later.is ∙ sym (append_assoc held.list later.list rest));
      rising = subst (AreRising from to) (sym (flat_map-cons (place_holes edition text) p all ∙ ap (λ l. l ++ flat_map (place_holes edition text) all) (none_held edition p.id.kind some text p.range p.body) ∙ flat_map-append (place_holes edition text) held.list later.list))
          (rising_append from p.range.end to (flat_map (place_holes edition text) held.list) (flat_map (place_holes edition text) later.list)
          (rising_within (p.range.start + 1) p.range.end from p.range.end (flat_map (place_holes edition text) held.list) (omega (arith, place.begins)) (omega arith) held.rising) later.rising);
    } in
    when (may_hold p.id.kind) parent leaf

-- the holes of a text rise
pub all_rise : {N : Telling} {to : ℕ} {is : ItemViews} {ps : List ItemPlace} (edition : EditionYear) (text : List ℕ) → ArePlaces N 0 to is ps [] → AreRising 0 to (flat_map (place_holes edition text) ps)
all_rise {to = to} {ps = ps} edition text are = by (rises edition text (omega arith) are)
  where
    by : Risen edition text 0 to ps [] → AreRising 0 to (flat_map (place_holes edition text) ps)
    by r = subst (λ l. AreRising 0 to (flat_map (place_holes edition text) l)) (sym (r.is ∙ append-nil r.list)) r.rising
