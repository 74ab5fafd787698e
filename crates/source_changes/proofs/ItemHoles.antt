-- The holes of items, in texts that begin or end alike.
use Rattle.std.proofs.Common.{◌≡◌, ◌≤◌, ◌<◌, ◌+◌, ◌-◌, ◌++◌, ◌⊎◌, inl, inr, ⊎_elim, ℕ, Bool, true, false, Option, Some, None, List, [], ◌∷◌, length, refl, sym, ap, ◌∙◌, arith, nat_lt, option_map, map, flat_map}
use Rattle.std.proofs.lemmas.Bool.Decides.{nat_tests}
use Rattle.std.proofs.lemmas.Grind.{flat_map-append}
use Rattle.std.proofs.lemmas.List.{map-append}
use Rattle.std.proofs.lemmas.List.Concat.{flat_map-cons}
use Rattle.std.proofs.lemmas.List.Folds.{flat_map-map}
use Rattle.hir_input.specs.declared.ids.AstIdKind.{AstIdKind}
use Rattle.hir_input.specs.declared.ids.AstIdKind.TheVariants as kind
use Rattle.rust_lexer.proofs.Cases.{when}
use Rattle.rust_paths.specs.declared.names.TextRange.{TextRange}
use Rattle.source_changes.specs.declared.kept.Hole.{Hole}
use Rattle.rust_items.specs.declared.source_file.ItemPlace.{ItemPlace}
use Rattle.rust_items.specs.Places.{IsNameIn, IsBodyIn}
use Rattle.hir_input.specs.declared.edition.EditionYear.{EditionYear}
use Rattle.rust_metas.specs.declared.wanted.WantedMetas.TheVariants as wanted
use Rattle.rust_items.specs.MemberLists.{cut_out, members, members_at, members_in}
use Rattle.rust_items.specs.Members.{MemberRead, moved_member, range_moved_by}
use Rattle.rust_items.specs.MemberPlaces.{ArePlaced}
use Rattle.source_rows.specs.Labels.{has_members}
use Rattle.source_changes.specs.Bodies.{hole_of}
use Rattle.source_rows.specs.Listed.{body_members}
use Rattle.source_changes.specs.Parts.{Part, around_behind, fn_body, item_parts_from, member_part, member_parts, members_hidden, part_of_item, part_path, still_open, Outer}
use Rattle.source_changes.specs.Rows.{bodies, hole_inside}
use Rattle.source_changes.proofs.LeftOutParts.{moved_on}
use Rattle.source_changes.proofs.Cuts.{cut_front, cut_behind, hole_front, hole_behind}
use Rattle.source_changes.proofs.PartedItems.{may_hold}
use Rattle.rust_items.proofs.MemberCuts.{members_moved, placed_widened}
use Rattle.rust_items.proofs.MemberPlacing.{members_placed}

-- ---- the holes of one item

-- of a part that stands there
abbrev pub hole_at : List ℕ → TextRange → Option TextRange → List Hole
hole_at text range body = hole_inside (hole_of text range body)

abbrev pub member_holes : List ℕ → List MemberRead → List Hole
member_holes text ms = flat_map (λ m. hole_at text m.range m.body) ms

-- those of an item of this kind and of its members
abbrev pub item_holes : EditionYear → List ℕ → AstIdKind → TextRange → Option TextRange → List Hole
item_holes edition text k range body = hole_at text range (fn_body k body) ++ member_holes text (body_members edition k text (has_members k) body)

abbrev pub place_holes : EditionYear → List ℕ → ItemPlace → List Hole
place_holes edition text s = item_holes edition text s.id.kind s.range s.body

parts_holes : (text path : List ℕ) (hidden : Option Bool) (ms : List MemberRead) → bodies (map (member_part text path hidden) ms) ≡ member_holes text ms
parts_holes text path hidden ms = flat_map-map (λ (p : Part). hole_inside p.body) (member_part text path hidden) ms

-- the holes of a text's parts
pub holes_from : (edition : EditionYear) (text : List ℕ) (around : List Outer) (ss : List ItemPlace) → bodies (item_parts_from edition text around ss) ≡ flat_map (place_holes edition text) ss
holes_from edition text around [] = refl
holes_from edition text around (s ∷ ss) =
    let around_it = still_open s.range.start around in
    let later = around_behind text around_it s.id.kind s in
    let path = part_path edition text around_it s in
    let ms = body_members edition s.id.kind text (has_members s.id.kind) s.body in
    let next = item_parts_from edition text later ss in
    flat_map-append (λ (p : Part). hole_inside p.body) (part_of_item edition text path s ∷ member_parts edition text path s) next
    ∙ ap (λ l. l ++ bodies next)
    (flat_map-cons (λ (p : Part). hole_inside p.body) (part_of_item edition text path s) (member_parts edition text path s) ∙ ap (λ l. hole_at text s.range (fn_body s.id.kind s.body) ++ l) (parts_holes text path (members_hidden edition text s) ms))
    ∙ ap (λ l. place_holes edition text s ++ l) (holes_from edition text later ss)
    ∙ sym (flat_map-cons (place_holes edition text) s ss)

-- ---- kinds

fn_or_none : (k : AstIdKind) (body : Option TextRange) → (fn_body k body ≡ body) ⊎ (fn_body k body ≡ None)
fn_or_none kind.Fn body = inl refl
fn_or_none _ body = inr refl

pub none_held : (edition : EditionYear) (k : AstIdKind) → may_hold k ≡ true → (text : List ℕ) (range : TextRange) (body : Option TextRange) → item_holes edition text k range body ≡ []
none_held edition kind.Module h text range body = refl
none_held edition kind.ExternBlock h text range body = refl
none_held edition _ h text range body = absurd cc

-- ---- in a text that begins so

-- a body ends before a place
abbrev pub EndsBy : ℕ → Option TextRange → Type 0
EndsBy to None = Unit {0}
EndsBy to (Some r) = (r.start < r.end) × (r.end ≤ to)

pub at_front : (x y : List ℕ) (to : ℕ) (range : TextRange) (body : Option TextRange) → to < length x → EndsBy to body → hole_at (x ++ y) range body ≡ hole_at x range body
at_front x y to range None low e = refl
at_front x y to range (Some b) low e = ap hole_inside (hole_front x y range b (omega (arith, e.0)) (omega (arith, e.1, low)))

pub name_ends : (to : ℕ) (range : TextRange) (o : Option TextRange) → range.end ≤ to → IsNameIn range o → EndsBy to o
name_ends to range None le n = tt
name_ends to range (Some r) le n = (n.1, omega (arith, n.2, le))

body_ends : (to : ℕ) (range : TextRange) (o : Option TextRange) → range.end ≤ to → IsBodyIn range o → EndsBy to o
body_ends to range None le b = tt
body_ends to range (Some r) le b = (omega (arith, b.1), omega (arith, b.2, le))

members_front : (x y : List ℕ) (from to : ℕ) (ms : List MemberRead) → to < length x → ArePlaced from to ms → member_holes (x ++ y) ms ≡ member_holes x ms
members_front x y from to [] low a = refl
members_front x y from to (m ∷ ms) low a =
    let step = λ (text : List ℕ). flat_map-cons (λ (m : MemberRead). hole_at text m.range m.body) m ms in
    step (x ++ y) ∙ ap (λ l. l ++ member_holes (x ++ y) ms) (at_front x y to m.range m.body low (name_ends to m.range m.body a.0.ends a.0.body))
    ∙ ap (λ l. hole_at x m.range m.body ++ l) (members_front x y m.range.end to ms low a.1) ∙ sym (step x)

pub members_are : (edition : EditionYear) (k : AstIdKind) (x : List ℕ) (body : TextRange) → ArePlaced body.start body.end (members wanted.Conditions edition k x body)
members_are edition k x body = by (cut_out x body) refl
  where
    by : (o : Option (List ℕ)) → cut_out x body ≡ o → ArePlaced body.start body.end (members wanted.Conditions edition k x body)
    by None e = rw e tt
    by (Some part) e = rw e (members_moved x part body (members_in wanted.Conditions edition k part) e (members_placed wanted.Conditions edition k part))

all_front : (edition : EditionYear) (k : AstIdKind) (x y : List ℕ) (to : ℕ) (has : Bool) (body : Option TextRange) → to < length x → EndsBy to body → member_holes (x ++ y) (body_members edition k (x ++ y) has body) ≡ member_holes x (body_members edition k x has body)
all_front edition k x y to false None low e = refl
all_front edition k x y to false (Some b) low e = refl
all_front edition k x y to true None low e = refl
all_front edition k x y to true (Some b) low e =
    rw (cut_front x y b (omega (arith, e.1, low))) (members_front x y b.start to (members wanted.Conditions edition k x b) low (placed_widened b.start to b.start b.end (members wanted.Conditions edition k x b) (omega arith) e.1 (members_are edition k x b)))

-- an item that ends there has the same holes, whatever comes behind
pub item_front : (edition : EditionYear) (x y : List ℕ) (to : ℕ) (k : AstIdKind) (range : TextRange) (body : Option TextRange) → to < length x → range.end ≤ to → IsBodyIn range body → item_holes edition (x ++ y) k range body ≡ item_holes edition x k range body
item_front edition x y to k range body low le b =
    let ends = body_ends to range body le b in
    let of_fn : EndsBy to (fn_body k body) = ⊎_elim (λ e. rw e ends) (λ e. rw e tt) (fn_or_none k body) in
    ap (λ l. l ++ member_holes (x ++ y) (body_members edition k (x ++ y) (has_members k) body)) (at_front x y to range (fn_body k body) low of_fn)
    ∙ ap (λ l. hole_at x range (fn_body k body) ++ l) (all_front edition k x y to (has_members k) body low ends)

-- ---- in a text that ends so

inside_behind : (d : ℕ) (o : Option TextRange) → hole_inside (option_map (range_moved_by d) o) ≡ map (moved_on d) (hole_inside o)
inside_behind d None = refl
inside_behind d (Some r) =
    let order : nat_lt (d + r.start) (d + r.end) ≡ nat_lt r.start r.end = grind (arith, nat_tests) in
    when (nat_lt r.start r.end)
    (λ e. let starts : d + r.start + 1 ≡ r.start + 1 + d = omega arith in
    let ends : d + r.end - 1 ≡ r.end - 1 + d = grind (arith, nat_tests) in
    rw (order, e) ((λ i. record { start = starts i; end = ends i } ∷ [])))
    (λ e. rw (order, e) refl)

pub at_behind : (x y : List ℕ) (range : TextRange) (body : Option TextRange) → hole_at (x ++ y) (range_moved_by (length x) range) (option_map (range_moved_by (length x)) body) ≡ map (moved_on (length x)) (hole_at y range body)
at_behind x y range body = ap hole_inside (hole_behind x y range body) ∙ inside_behind (length x) (hole_of y range body)

added : (d b : ℕ) (r : TextRange) → range_moved_by (d + b) r ≡ range_moved_by d (range_moved_by b r)
added d b r =
    let starts : d + b + r.start ≡ d + (b + r.start) = omega arith in
    let ends : d + b + r.end ≡ d + (b + r.end) = omega arith in
    λ i. record { start = starts i; end = ends i }

maybe_added : (d b : ℕ) (o : Option TextRange) → option_map (range_moved_by (d + b)) o ≡ option_map (range_moved_by d) (option_map (range_moved_by b) o)
maybe_added d b None = refl
maybe_added d b (Some r) = ap Some (added d b r)

members_behind : (x y : List ℕ) (b : ℕ) (ms : List MemberRead) → member_holes (x ++ y) (map (moved_member (length x + b)) ms) ≡ map (moved_on (length x)) (member_holes y (map (moved_member b) ms))
members_behind x y b [] = refl
members_behind x y b (m ∷ ms) =
    let d = length x in
    let n = moved_member b m in
    let first = λ (m : MemberRead). hole_at (x ++ y) m.range m.body in
    let second = λ (m : MemberRead). hole_at y m.range m.body in
    flat_map-cons first (moved_member (d + b) m) (map (moved_member (d + b)) ms)
    ∙ ap (λ l. l ++ member_holes (x ++ y) (map (moved_member (d + b)) ms)) ((λ i. hole_at (x ++ y) (added d b m.range i) (maybe_added d b m.body i)) ∙ at_behind x y n.range n.body)
    ∙ ap (λ l. map (moved_on d) (hole_at y n.range n.body) ++ l) (members_behind x y b ms)
    ∙ sym (map-append (moved_on d) (hole_at y n.range n.body) (member_holes y (map (moved_member b) ms)))
    ∙ sym (ap (map (moved_on d)) (flat_map-cons second n (map (moved_member b) ms)))

all_behind : (edition : EditionYear) (k : AstIdKind) (x y : List ℕ) (has : Bool) (body : Option TextRange)
    → member_holes (x ++ y) (body_members edition k (x ++ y) has (option_map (range_moved_by (length x)) body)) ≡ map (moved_on (length x)) (member_holes y (body_members edition k y has body))
all_behind edition k x y false None = refl
all_behind edition k x y false (Some b) = refl
all_behind edition k x y true None = refl
all_behind edition k x y true (Some b) = rw (cut_behind x y b) (by (cut_out y b))
  where
    by : (o : Option (List ℕ)) → member_holes (x ++ y) (members_at wanted.Conditions edition k (length x + b.start) o) ≡ map (moved_on (length x)) (member_holes y (members_at wanted.Conditions edition k b.start o))
    by None = refl
    by (Some part) = members_behind x y b.start (members_in wanted.Conditions edition k part)

fn_moved : (k : AstIdKind) (d : ℕ) (body : Option TextRange) → fn_body k (option_map (range_moved_by d) body) ≡ option_map (range_moved_by d) (fn_body k body)
fn_moved kind.Fn d body = refl
fn_moved _ d body = refl

-- an item there has the same holes, moved
pub item_behind : (edition : EditionYear) (x y : List ℕ) (k : AstIdKind) (range : TextRange) (body : Option TextRange)
    → item_holes edition (x ++ y) k (range_moved_by (length x) range) (option_map (range_moved_by (length x)) body) ≡ map (moved_on (length x)) (item_holes edition y k range body)
item_behind edition x y k range body =
    let d = length x in
    ap (λ o. hole_at (x ++ y) (range_moved_by d range) o ++ member_holes (x ++ y) (body_members edition k (x ++ y) (has_members k) (option_map (range_moved_by d) body))) (fn_moved k d body)
    ∙ ap (λ l. l ++ member_holes (x ++ y) (body_members edition k (x ++ y) (has_members k) (option_map (range_moved_by d) body))) (at_behind x y range (fn_body k body))
    ∙ ap (λ l. map (moved_on d) (hole_at y range (fn_body k body)) ++ l) (all_behind edition k x y (has_members k) body)
    ∙ sym (map-append (moved_on d) (hole_at y range (fn_body k body)) (member_holes y (body_members edition k y (has_members k) body)))
