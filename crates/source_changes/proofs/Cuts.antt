-- What stands in a part of a text stands in the longer text.
use Rattle.std.proofs.Common.{◌≡◌, ◌≤◌, ◌<◌, ◌+◌, ◌-◌, ◌++◌, ℕ, true, false, Option, Some, None, List, length, refl, ap, ◌∙◌, arith, nat_le, take, drop, option_map, slice_range, slice_index, length-append}
use Rattle.std.proofs.lemmas.Bool.{leb-true}
use Rattle.std.proofs.lemmas.Bool.Decides.{nat_tests}
use Rattle.std.proofs.lemmas.List.{drop-append-le, take-append-le, length-drop, get_or_append_left, get_or-append-add}
use Rattle.std.proofs.Math.Seq.{drop-append-add}
use Rattle.rust_lexer.proofs.Cases.{when}
use Rattle.rust_paths.specs.declared.names.TextRange.{TextRange}
use Rattle.rust_items.specs.MemberLists.{cut_out, is_boundary}
use Rattle.rust_items.specs.Members.{range_moved_by}
use Rattle.source_changes.specs.Bodies.{is_hole, hole_of}

-- ---- at the beginning

boundary_front : (x y : List ℕ) (at : ℕ) → at < length x → is_boundary (x ++ y) at ≡ is_boundary x at
boundary_front x y at low =
    let long = length-append x y in
    let same : slice_index (x ++ y) at ≡ slice_index x at = get_or_append_left x y 0 at low in
    let within : nat_le at (length (x ++ y)) ≡ true = grind (arith, nat_tests, long) in
    let within' : nat_le at (length x) ≡ true = grind (arith, nat_tests) in
    let over : nat_le (length (x ++ y)) at ≡ false = grind (arith, nat_tests, long) in
    let over' : nat_le (length x) at ≡ false = grind (arith, nat_tests) in
    rw (within, within', over, over', same) refl

slice_front : (x y : List ℕ) (a b : ℕ) → a ≤ b → b ≤ length x → slice_range (x ++ y) a b ≡ slice_range x a b
slice_front x y a b le high = ap (take (b - a)) (drop-append-le a x y (omega (arith, le, high))) ∙ take-append-le (b - a) (drop a x) y (omega (arith, length-drop a x, high))

pub cut_front : (x y : List ℕ) (r : TextRange) → r.end < length x → cut_out (x ++ y) r ≡ cut_out x r
cut_front x y r high =
    when (nat_le r.start r.end)
    (λ e. let le = leb-true r.start r.end e in rw (boundary_front x y r.start (omega (arith, le, high)), boundary_front x y r.end high, slice_front x y r.start r.end le (omega (arith, high))) refl)
    (λ e. rw e refl)

-- ---- behind so many bytes

boundary_behind : (x y : List ℕ) (at : ℕ) → is_boundary (x ++ y) (length x + at) ≡ is_boundary y at
boundary_behind x y at =
    let long = length-append x y in
    let same : slice_index (x ++ y) (length x + at) ≡ slice_index y at = get_or-append-add x y at 0 in
    let within : nat_le (length x + at) (length (x ++ y)) ≡ nat_le at (length y) = grind (arith, nat_tests, long) in
    let over : nat_le (length (x ++ y)) (length x + at) ≡ nat_le (length y) at = grind (arith, nat_tests, long) in
    rw (within, over, same) refl

slice_behind : (x y : List ℕ) (a b : ℕ) → slice_range (x ++ y) (length x + a) (length x + b) ≡ slice_range y a b
slice_behind x y a b =
    let many : (length x + b) - (length x + a) ≡ b - a = omega arith in
    ap (λ n. take n (drop (length x + a) (x ++ y))) many ∙ ap (take (b - a)) (drop-append-add x y a)

pub cut_behind : (x y : List ℕ) (r : TextRange) → cut_out (x ++ y) (range_moved_by (length x) r) ≡ cut_out y r
cut_behind x y r =
    let order : nat_le (length x + r.start) (length x + r.end) ≡ nat_le r.start r.end = grind (arith, nat_tests) in
    rw (order, boundary_behind x y r.start, boundary_behind x y r.end, slice_behind x y r.start r.end) refl

-- ---- bodies that are holes

pub hole_front : (x y : List ℕ) (item body : TextRange) → body.start ≤ body.end → body.end < length x → hole_of (x ++ y) item (Some body) ≡ hole_of x item (Some body)
hole_front x y item body le high = rw (cut_front x y (record { start = item.start; end = body.start }) (omega (arith, le, high)), cut_front x y body high) refl

pub hole_behind : (x y : List ℕ) (item : TextRange) (body : Option TextRange) → hole_of (x ++ y) (range_moved_by (length x) item) (option_map (range_moved_by (length x)) body) ≡ option_map (range_moved_by (length x)) (hole_of y item body)
hole_behind x y item None = refl
hole_behind x y item (Some body) =
    rw (cut_behind x y (record { start = item.start; end = body.start }), cut_behind x y body)
    (when (is_hole y item body) (λ e. rw e refl) (λ e. rw e refl))
