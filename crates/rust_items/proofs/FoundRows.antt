-- What is found in two texts that differ between the braces of one item: the same rows, each where it stands in its text.
use Rattle.std.proofs.Common.{◌≡◌, ◌≤◌, ◌<◌, ◌+◌, ℕ, suc, Bool, true, false, Option, Some, None, List, [], ◌∷◌, ◌++◌, map, refl, ap, sym, subst, ◌∙◌, arith, append_assoc, append-nil, option_map}
use Rattle.rust_items.proofs.Common.{AstIdKind, item_without_bodies, ItemView, ItemViews, Tokens, at, Bodies, Beside, IsSound, behind_at, Gone, AreAlike, no_more, alike_join, SamePlace, Row, TextRange, NameRead, LeafRead, written_name, SameRange, RangeAlike, LeafAlike, ItemSpan, ProblemKind, ItemPlace, Found, Finder, nothing_found, and_problem_if, and_problem_at, span_of, and_flaw, and_item, and_leaf, and_parent, inside, turn, Telling, IsBodyIn, ArePlaces, nothing, placed}
use Rattle.rust_cursor.proofs.Places as places
use Rattle.rust_items.specs.declared.log.ProblemKind.TheVariants as problem
use Rattle.rust_items.proofs.FoundItems.{adds_item, adds_problem_at, adds_use_trees, AreFound, place_span}

-- ---- whose braces they are

-- these braces do not begin there
abbrev pub Elsewhere : ℕ → Option TextRange → Type 0
Elsewhere at None = Unit {0}
Elsewhere at (Some r) = r.start ≡ at → ⊥

-- nor do those of all these items
abbrev pub AreElsewhere : ℕ → List ItemSpan → Type 0
AreElsewhere at [] = Unit {0}
AreElsewhere at (s ∷ ss) = Elsewhere at s.body × AreElsewhere at ss

all_elsewhere : (at : ℕ) (xs ys : List ItemSpan) → AreElsewhere at xs → AreElsewhere at ys → AreElsewhere at (xs ++ ys)
all_elsewhere at [] ys h k = k
all_elsewhere at (x ∷ xs) ys h k = (h.0, all_elsewhere at xs ys h.1 k)

body_behind : (at : ℕ) (range : TextRange) (body : Option TextRange) → IsBodyIn range body → at < range.start → Elsewhere at body
body_behind at range None h l = tt
body_behind at range (Some r) h l = λ e. let begins : range.start ≤ r.start = h.0 in absurd (omega arith)

body_before : (at : ℕ) (range : TextRange) (body : Option TextRange) → IsBodyIn range body → range.end ≤ at → Elsewhere at body
body_before at range None h l = tt
body_before at range (Some r) h l = λ e. let two : r.start + 2 ≤ r.end = h.1 in let ends : r.end ≡ range.end = h.2 in absurd (omega arith)

behind_elsewhere : {N : Telling} {from to : ℕ} {is : ItemViews} {ps rest : List ItemPlace} (at : ℕ) → ArePlaces N from to is ps rest → at < from → AreElsewhere at (map place_span rest) → AreElsewhere at (map place_span ps)
behind_elsewhere at nothing l h = h
behind_elsewhere at (placed {p = p} place inside later) l h =
    let begins = place.begins in
    let some = place.some in
    (body_behind at p.range p.body place.body (omega arith), behind_elsewhere at inside (omega arith) (behind_elsewhere at later (omega arith) h))

before_elsewhere : {N : Telling} {from to : ℕ} {is : ItemViews} {ps rest : List ItemPlace} (at : ℕ) → ArePlaces N from to is ps rest → to ≤ at → AreElsewhere at (map place_span rest) → AreElsewhere at (map place_span ps)
before_elsewhere at nothing l h = h
before_elsewhere at (placed {p = p} place inside later) l h =
    let ends = place.ends in
    (body_before at p.range p.body place.body (omega arith), before_elsewhere at inside (omega arith) (before_elsewhere at later l h))

-- of what was found behind the first, no item has its braces there
pub record Misses (at : ℕ) (f g : Found) : Type 0 where
  pub more : List ItemSpan
  pub is : g.spans ≡ f.spans ++ more
  pub free : AreElsewhere at more

pub misses_none : (at : ℕ) (f g : Found) → g.spans ≡ f.spans → Misses at f g
misses_none at f g e = record { more = []; is = e ∙ sym (append-nil f.spans); free = tt }

pub misses_both : {at : ℕ} {f g h : Found} → Misses at f g → Misses at g h → Misses at f h
misses_both {at} {f} m n = record {
  more = m.more ++ n.more;
  is = n.is ∙ ap (λ l. l ++ n.more) m.is ∙ append_assoc f.spans m.more n.more;
  free = all_elsewhere at m.more n.more m.free n.free;
}

pub found_gone : {b : Bodies} {ts us : Tokens} {f g : Found} {is : ItemViews} → AreFound ts us f g is → Gone b ts → Misses b.opening.at f g
found_gone {b} {ts} a g =
    let low = behind_at (suc b.opening.at) ts.past ts.left g.over in
    record { more = map place_span a.places; is = a.adds.spans; free = behind_elsewhere b.opening.at a.are (omega arith) tt }

pub found_before : (b : Bodies) {ts us : Tokens} {f g : Found} {is : ItemViews} → AreFound ts us f g is → us.past ≤ b.opening.at → Misses b.opening.at f g
found_before b a l = record { more = map place_span a.places; is = a.adds.spans; free = before_elsewhere b.opening.at a.are l tt }

-- ---- what is found

-- where an item stands in the one text and in the other
pub record SpanAlike (same : ℕ → ℕ → Type 0) (s t : ItemSpan) : Type 0 where
  pub range : SameRange same s.range t.range
  pub name : places.IsAlike (SameRange same) s.name t.name
  pub body : places.IsAlike (SameRange same) s.body t.body

-- what is found but for problems
abbrev pub Rows : Type 0
Rows = List Row × (List ItemSpan × List ℕ)

abbrev pub rows_of : Found → Rows
rows_of f = (f.rows, (f.spans, f.use_trees))

-- the same rows, and where their items and use trees stand in each
pub record RowsAlike (same : ℕ → ℕ → Type 0) (r s : Rows) : Type 0 where
  pub rows : s.0 ≡ r.0
  pub spans : AreAlike (SpanAlike same) r.1.0 s.1.0
  pub use_trees : AreAlike same r.1.1 s.1.1

abbrev pub FoundAlike : Bodies → Found → Found → Type 0
FoundAlike b f g = RowsAlike (SamePlace b) (rows_of f) (rows_of g)

-- what is found and what is read is alike, and what is left stands beside
pub record FoundKept {A : Type 0} (alike : A → A → Type 0) (b : Bodies) (p q : A × (Found × Tokens)) : Type 0 where
  pub value : alike p.0 q.0
  pub found : FoundAlike b p.1.0 q.1.0
  pub rest : Beside b p.1.1 q.1.1

-- or the one went into the braces, and they are of no item that was found;
pub data FoundUntil {A : Type 0} (alike : A → A → Type 0) (b : Bodies) (f : Found) (p q : A × (Found × Tokens)) : Type 0 where
  lost : Gone b p.1.1 → Misses b.opening.at f p.1.0 → FoundUntil alike b f p q
  same : FoundKept alike b p q → FoundUntil alike b f p q

-- the same but for body texts
abbrev pub ItemAlike : Option ItemView → Option ItemView → Type 0
ItemAlike o o' = option_map item_without_bodies o' ≡ option_map item_without_bodies o

abbrev pub ListAlike : List ItemView → List ItemView → Type 0
ListAlike is is' = map item_without_bodies is' ≡ map item_without_bodies is

abbrev pub UpToFound : ℕ → Bodies → Finder (Option ItemView) → Type 0
UpToFound end b turn = (f f' : Found) (ts us : Tokens) → IsSound end ts → FoundAlike b f f' → Beside b ts us → FoundUntil ItemAlike b f (turn f ts) (turn f' us)

-- ---- rows

pub nothing_alike : (b : Bodies) → FoundAlike b nothing_found nothing_found
nothing_alike b = record { rows = refl; spans = no_more; use_trees = no_more }

problem_if_rows : (test : Bool) (k : ProblemKind) (at : ℕ) (f : Found) → rows_of (and_problem_if test k at f) ≡ rows_of f
problem_if_rows true k at f = refl
problem_if_rows false k at f = refl

flaw_rows : (is_ended is_nameless : Bool) (start : ℕ) (f : Found) → rows_of (and_flaw is_ended is_nameless start f) ≡ rows_of f
flaw_rows true is_nameless start f = problem_if_rows is_nameless problem.Nameless start f
flaw_rows false is_nameless start f = refl

pub problem_at_rows : (k : ProblemKind) (o : Option ℕ) (f : Found) → rows_of (and_problem_at k o f) ≡ rows_of f
problem_at_rows k None f = refl
problem_at_rows k (Some at) f = refl

-- with an item, with use trees, and with all of another behind
abbrev and_one : Row → ItemSpan → Rows → Rows
and_one row span r = (r.0 ++ row ∷ [], (r.1.0 ++ span ∷ [], r.1.1))

abbrev and_trees : List ℕ → Rows → Rows
and_trees starts r = (r.0, (r.1.0, r.1.1 ++ starts))

abbrev and_more : Rows → Rows → Rows
and_more more r = (r.0 ++ more.0, (r.1.0 ++ more.1.0, r.1.1 ++ more.1.1))

one_alike : {same : ℕ → ℕ → Type 0} (r s : Rows) (x y : Row) (t u : ItemSpan) → y ≡ x → SpanAlike same t u → RowsAlike same r s → RowsAlike same (and_one x t r) (and_one y u s)
one_alike r s x y t u e k a = record { rows = ap (λ (l : List Row). l ++ y ∷ []) a.rows ∙ ap (λ (z : Row). r.0 ++ z ∷ []) e; spans = alike_join a.spans (places.one_more k no_more); use_trees = a.use_trees }

trees_alike : {same : ℕ → ℕ → Type 0} (r s : Rows) (xs ys : List ℕ) → AreAlike same xs ys → RowsAlike same r s → RowsAlike same (and_trees xs r) (and_trees ys s)
trees_alike r s xs ys k a = record { rows = a.rows; spans = a.spans; use_trees = alike_join a.use_trees k }

all_alike : {same : ℕ → ℕ → Type 0} (r s x y : Rows) → RowsAlike same x y → RowsAlike same r s → RowsAlike same (and_more x r) (and_more y s)
all_alike r s x y k a = record {
  rows = ap (λ (l : List Row). l ++ y.0) a.rows ∙ ap (λ (l : List Row). r.0 ++ l) k.rows;
  spans = alike_join a.spans k.spans;
  use_trees = alike_join a.use_trees k.use_trees;
}

pub by_rows : {same : ℕ → ℕ → Type 0} {r s x y : Rows} → x ≡ r → y ≡ s → RowsAlike same r s → RowsAlike same x y
by_rows {same} {r} {s} {x} {y} d e a = subst (λ (z : Rows). RowsAlike same z y) (sym d) (subst (λ (z : Rows). RowsAlike same r z) (sym e) a)

abbrev row_of : ℕ → AstIdKind → List ℕ → Row
row_of depth k name = record { depth = depth; kind = k; name = name }

item_rows : (depth start end : ℕ) (body written_name : Option TextRange) (k : AstIdKind) (name : List ℕ) (is_ended : Bool) (f : Found)
    → rows_of (and_item depth start end body k name written_name is_ended f) ≡ and_one (row_of depth k name) (span_of start end body written_name) (rows_of f)
item_rows depth start end body written_name k name is_ended f = flaw_rows is_ended _ start _

leaf_rows : (depth start end : ℕ) (l : LeafRead) (f : Found) → rows_of (and_leaf depth start end l f) ≡ and_trees l.use_trees (and_one (row_of depth l.kind l.name) (span_of start end l.body l.named) (rows_of f))
leaf_rows depth start end l f = ap (and_trees l.use_trees) (problem_at_rows problem.TooDeep l.too_deep _ ∙ item_rows depth start end l.body l.named l.kind l.name l.is_ended f)

pub leaf_rows_same : (b : Bodies) (depth start end start' end' : ℕ) (l m : LeafRead) (f f' : Found) → SamePlace b start start' → SamePlace b end end' → LeafAlike b l m → FoundAlike b f f'
    → FoundAlike b (and_leaf depth start end l f) (and_leaf depth start' end' m f')
leaf_rows_same b depth start end start' end' l m f f' i j a e =
    let x = row_of depth l.kind l.name in
    let y = row_of depth m.kind m.name in
    let t = span_of start end l.body l.named in
    let u = span_of start' end' m.body m.named in
    let row = ap (λ (k : AstIdKind). row_of depth k m.name) a.kind ∙ ap (λ (n : List ℕ). row_of depth l.kind n) a.name in
    by_rows (leaf_rows depth start end l f) (leaf_rows depth start' end' m f')
    (trees_alike (and_one x t (rows_of f)) (and_one y u (rows_of f')) l.use_trees m.use_trees a.use_trees
    (one_alike (rows_of f) (rows_of f') x y t u row (record { range = record { start = i; end = j }; name = a.named; body = a.body }) e))

pub leaf_misses : (at depth start end : ℕ) (l : LeafRead) (f : Found) → Elsewhere at l.body → Misses at f (and_leaf depth start end l f)
leaf_misses at depth start end l f h = record {
  more = record { range = record { start = start; end = end }; name = l.named; body = l.body } ∷ [];
  is = (adds_use_trees l.use_trees (adds_problem_at problem.TooDeep l.too_deep (adds_item f depth start end l.body l.kind l.name l.named l.is_ended))).spans;
  free = (h, tt);
}

pub elsewhere_by : (at : ℕ) (o : Option TextRange) → ((r : TextRange) → o ≡ Some r → r.start ≡ at → ⊥) → Elsewhere at o
elsewhere_by at None f = tt
elsewhere_by at (Some r) f = f r refl

-- an item that holds others
parent_rows : (depth start end : ℕ) (k : AstIdKind) (n : NameRead) (is_ended : Bool) (g f : Found)
    → rows_of (and_parent depth start end k n is_ended g f) ≡ and_more (rows_of g) (and_one (row_of depth k n.hashed) (span_of start end None n.range) (rows_of f))
parent_rows depth start end k n is_ended g f = ap (and_more (rows_of g)) (item_rows depth start end None n.range k n.hashed is_ended f)

pub parent_same : (b : Bodies) (depth start end start' end' : ℕ) (k : AstIdKind) (n n' : NameRead) (is_ended is_ended' : Bool) (g g' f f' : Found) → SamePlace b start start' → SamePlace b end end'
    → n'.hashed ≡ n.hashed → RangeAlike b n.range n'.range → FoundAlike b g g' → FoundAlike b f f' → FoundAlike b (and_parent depth start end k n is_ended g f) (and_parent depth start' end' k n' is_ended' g' f')
parent_same b depth start end start' end' k n n' is_ended is_ended' g g' f f' i j h r d e =
    let x = row_of depth k n.hashed in
    let y = row_of depth k n'.hashed in
    let t = span_of start end None n.range in
    let u = span_of start' end' None n'.range in
    by_rows (parent_rows depth start end k n is_ended g f) (parent_rows depth start' end' k n' is_ended' g' f')
    (all_alike (and_one x t (rows_of f)) (and_one y u (rows_of f')) (rows_of g) (rows_of g') d
    (one_alike (rows_of f) (rows_of f') x y t u (ap (row_of depth k) h) (record { range = record { start = i; end = j }; name = r; body = places.neither }) e))

pub parent_misses : (at depth start end : ℕ) (k : AstIdKind) (n : NameRead) (is_ended : Bool) (g f : Found) → Misses at nothing_found g → Misses at f (and_parent depth start end k n is_ended g f)
parent_misses at depth start end k n is_ended g f m = record {
  more = record { range = record { start = start; end = end }; name = n.range; body = None } ∷ m.more;
  is = ap (λ l. l ++ g.spans) (adds_item f depth start end None k n.hashed n.range is_ended).spans ∙ append_assoc f.spans _ g.spans ∙ ap (λ l. f.spans ++ record { range = record { start = start; end = end }; name = n.range; body = None } ∷ l) m.is;
  free = (tt, m.free);
}
