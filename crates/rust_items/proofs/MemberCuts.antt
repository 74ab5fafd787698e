-- Members in a text with bytes in front.
use Rattle.std.proofs.Common.{◌≡◌, ◌<◌, ◌≤◌, ◌+◌, ◌-◌, ◌^◌, ◌&&◌, ◌++◌, ◌∙◌, ℕ, Bool, true, false, Option, Some, None, List, [], ◌∷◌, map, length, take, drop, set, get_or, ap, sym, subst, arith, ⊎_elim, append_assoc, IsTrue, ◌↔◌, IsCharBoundary, nat_le, option_map, slice_range}
use Rattle.std.proofs.lemmas.Bool.{and_parts, cases_Bool, leb-true}
use Rattle.std.proofs.lemmas.Bool.Decides.{nat_tests, same_from_decides}
use Rattle.std.proofs.lemmas.List.{drop_more, drop-set-lt, length-drop, length-take-le, map-append, take_more_set}
use Rattle.rust_items.proofs.MemberCommon.{TextRange, IsNameIn, Member, is_boundary, is_cut, cut_out, MemberRead, moved_member, range_moved_by, ArePlaced, FitsMoved, member_view}

-- what stands in a range that fits fits
pub name_fits : (by : ℕ) (range : TextRange) (name : Option TextRange) → IsNameIn range name → by + range.end < 2 ^ 64 → FitsMoved by name
name_fits by range None n h = tt
name_fits by range (Some r) n h =
    let some : r.start < r.end = n.1 in
    let ends : r.end ≤ range.end = n.2 in
    (omega arith, omega arith)

name_moved : (by : ℕ) (range : TextRange) (name : Option TextRange) → IsNameIn range name → IsNameIn (range_moved_by by range) (option_map (range_moved_by by) name)
name_moved by range None n = tt
name_moved by range (Some r) n =
    let begins : range.start ≤ r.start = n.0 in
    let some : r.start < r.end = n.1 in
    let ends : r.end ≤ range.end = n.2 in
    (omega arith, omega arith, omega arith)

pub placed_moved : (by from to : ℕ) (ms : List MemberRead) → ArePlaced from to ms → ArePlaced (by + from) (by + to) (map (moved_member by) ms)
placed_moved by from to [] p = tt
placed_moved by from to (m ∷ ms) p =
    let begins : from ≤ m.range.start = p.0.begins in
    let some : m.range.start < m.range.end = p.0.some in
    let ends : m.range.end ≤ to = p.0.ends in (
      record { begins = omega arith; some = omega arith; ends = omega arith; name = name_moved by m.range m.name p.0.name; body = name_moved by m.range m.body p.0.body },
      placed_moved by m.range.end to ms p.1,
    )

-- from an earlier place on and up to a later one
pub placed_widened : (low high from to : ℕ) (ms : List MemberRead) → low ≤ from → to ≤ high → ArePlaced from to ms → ArePlaced low high ms
placed_widened low high from to [] l h p = tt
placed_widened low high from to (m ∷ ms) l h p =
    let begins : from ≤ m.range.start = p.0.begins in
    let ends : m.range.end ≤ to = p.0.ends in
    (record { begins = omega arith; some = p.0.some; ends = omega arith; name = p.0.name; body = p.0.body }, placed_widened m.range.end high m.range.end to ms (omega arith) h p.1)

-- ---- parts of a text

pub boundary_is : (text : List ℕ) (at : ℕ) → is_boundary text at ≡ true → IsCharBoundary text at
boundary_is text at e = (grind (arith, nat_tests), λ low high. grind (arith, nat_tests))

boundary_from : (text : List ℕ) (at : ℕ) → IsCharBoundary text at → is_boundary text at ≡ true
boundary_from text at h = let within : at ≤ length text = h.0 in let first : at < length text → 128 ≤ get_or text at 0 → 192 ≤ get_or text at 0 = h.1 in grind (arith, nat_tests)

-- the standard library's test tells the same
pub boundary_tells : (text : List ℕ) (at : ℕ) (told : Bool) → (IsTrue told ↔ IsCharBoundary text at) → told ≡ is_boundary text at
boundary_tells text at told h = same_from_decides told (is_boundary text at) (h.0, h.1) (boundary_is text at, boundary_from text at)

-- a part has its range's length
pub cut_length : (text part : List ℕ) (range : TextRange) → cut_out text range ≡ Some part → (length part + range.start ≡ range.end) × (range.end ≤ length text)
cut_length text part range e = ⊎_elim
    (λ (t : is_cut text range ≡ true).
    let same : Some (slice_range text range.start range.end) ≡ Some part = rw t at e in
    let tests = and_parts (nat_le range.start range.end) (is_boundary text range.start && is_boundary text range.end) t in
    let order : range.start ≤ range.end = leb-true range.start range.end tests.0 in
    let within : range.end ≤ length text = (boundary_is text range.end (and_parts (is_boundary text range.start) (is_boundary text range.end) tests.1).1).0 in
    let long : length (slice_range text range.start range.end) ≡ range.end - range.start =
    length-take-le (range.end - range.start) (drop range.start text) (omega (arith, length-drop range.start text)) in
    let whole : part ≡ slice_range text range.start range.end = cc in
    let one : length part ≡ range.end - range.start = ap length whole ∙ long in
    (omega arith, within))
    (λ (t : is_cut text range ≡ false). let none : None ≡ Some part = rw t at e in absurd cc)
    (cases_Bool (is_cut text range))

-- what stands in a part of a text stands in its range
pub members_moved : (text part : List ℕ) (range : TextRange) (ms : List MemberRead) → cut_out text range ≡ Some part → ArePlaced 0 (length part) ms → ArePlaced range.start range.end (map (moved_member range.start) ms)
members_moved text part range ms e p =
    let long = (cut_length text part range e).0 in
    let there = placed_moved range.start 0 (length part) ms p in
    placed_widened range.start range.end (range.start + 0) (range.start + length part) (map (moved_member range.start) ms) (omega arith) (omega arith) there

-- and fits where it stands
pub members_fit : (text part : List ℕ) (range : TextRange) (ms : List MemberRead) → range.end < 2 ^ 64 → cut_out text range ≡ Some part → ArePlaced 0 (length part) ms → ArePlaced 0 (18446744073709551615 - range.start) ms
members_fit text part range ms fits e p =
    let long = (cut_length text part range e).0 in
    placed_widened 0 (18446744073709551615 - range.start) 0 (length part) ms (omega arith) (omega arith) p

-- ---- one after another, where they stand

-- what is left from the next on
left_more : {A : Type 0} (xs : List A) (i : ℕ) (x : A) → i < length xs → x ≡ get_or xs i x → drop i xs ≡ x ∷ drop (i + 1) xs
left_more xs i x h e = drop_more xs i x h ∙ ap (λ y. y ∷ drop (i + 1) xs) (sym e)

-- what is left behind one that was changed
left_same : {A : Type 0} (xs : List A) (i : ℕ) (y : A) → drop (i + 1) (set xs i y) ≡ drop (i + 1) xs
left_same xs i y = let less : i < i + 1 = omega arith in drop-set-lt (i + 1) xs i y less

-- one more member is moved
pub moved_next : (by : ℕ) (ms : List Member) (i : ℕ) (x y : Member) (all : List MemberRead) → i < length ms → x ≡ get_or ms i x → member_view y ≡ moved_member by (member_view x)
    → map member_view (take i ms) ++ map (moved_member by) (map member_view (drop i ms)) ≡ all
    → map member_view (take (i + 1) (set ms i y)) ++ map (moved_member by) (map member_view (drop (i + 1) (set ms i y))) ≡ all
moved_next by ms i x y all h e w inv =
    let rest = map (moved_member by) (map member_view (drop (i + 1) ms)) in
    ap (λ (l : List Member). map member_view (take (i + 1) (set ms i y)) ++ map (moved_member by) (map member_view l)) (left_same ms i y)
    ∙ ap (λ (l : List Member). map member_view l ++ rest) (take_more_set ms i y h)
    ∙ ap (λ (l : List MemberRead). l ++ rest) (map-append member_view (take i ms) (y ∷ []))
    ∙ append_assoc (map member_view (take i ms)) (member_view y ∷ []) rest
    ∙ ap (λ (m : MemberRead). map member_view (take i ms) ++ m ∷ rest) w
    ∙ sym (ap (λ (l : List Member). map member_view (take i ms) ++ map (moved_member by) (map member_view l)) (left_more ms i x h e))
    ∙ inv

-- those behind the first
pub placed_rest : (to : ℕ) (m : MemberRead) (ms : List MemberRead) → ArePlaced 0 to (m ∷ ms) → ArePlaced 0 to ms
placed_rest to m ms p = placed_widened 0 to m.range.end to ms (omega arith) (omega arith) p.1

-- the same of those that are left
pub placed_next : (to : ℕ) (ms : List Member) (i : ℕ) (x y : Member) → i < length ms → x ≡ get_or ms i x → ArePlaced 0 to (map member_view (drop i ms)) → ArePlaced 0 to (map member_view (drop (i + 1) (set ms i y)))
placed_next to ms i x y h e p =
    let first = subst (λ (l : List Member). ArePlaced 0 to (map member_view l)) (left_more ms i x h e) p in
    subst (λ (l : List Member). ArePlaced 0 to (map member_view l)) (sym (left_same ms i y)) (placed_rest to (member_view x) (map member_view (drop (i + 1) ms)) first)
