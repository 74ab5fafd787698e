-- What is found in a short text is found in a longer one, so much further on.
use Rattle.std.proofs.Common.{◌≡◌, ◌+◌, ℕ, Bool, true, false, Option, Some, None, List, [], ◌∷◌, ◌++◌, refl, sym, ap, ◌∙◌, subst, map, append_assoc}
use Rattle.rust_edits.proofs.Common.{option_map, is_none, AstIdKind, Row, at, TextRange, LeafRead, ProblemKind, Found, nothing_found, and_problem, and_problem_at, and_all, span_of, and_flaw, and_item, and_leaf, moved_span, moved_problem, map-append, Ending}
use Rattle.rust_items.specs.declared.log.ProblemKind.TheVariants as problem
use Rattle.rust_edits.proofs.ItemJoins.EndingFronts.{further_on}
use Rattle.rust_edits.proofs.ItemJoins.EndingParts.{some_on, LeafNear}

abbrev pub place_on : Ending → ℕ → ℕ
place_on b n = n + b.by

-- behind what was found before in the long text, the same is found, so much further on
pub record FoundNear (b : Ending) (before f g : Found) : Type 0 where
  pub rows : f.rows ≡ before.rows ++ g.rows
  pub spans : f.spans ≡ before.spans ++ map (moved_span (place_on b)) g.spans
  pub use_trees : f.use_trees ≡ before.use_trees ++ further_on b g.use_trees
  pub problems : f.problems ≡ before.problems ++ map (moved_problem (place_on b)) g.problems

join_near : {A C : Type 0} (on : A → C) (f before m : List C) (g m' : List A) → f ≡ before ++ map on g → m ≡ map on m' → f ++ m ≡ before ++ map on (g ++ m')
join_near on f before m g m' e d =
    ap (λ l. l ++ m) e ∙ append_assoc before (map on g) m ∙ ap (λ l. before ++ l) (ap (λ l. map on g ++ l) d ∙ sym (map-append on g m'))

row_near : (f before g m : List Row) → f ≡ before ++ g → f ++ m ≡ before ++ (g ++ m)
row_near f before g m e = ap (λ l. l ++ m) e ∙ append_assoc before g m

pub problem_near : (b : Ending) (before f g : Found) (k : ProblemKind) (at at' : ℕ) → at ≡ at' + b.by → FoundNear b before f g → FoundNear b before (and_problem k at f) (and_problem k at' g)
problem_near b before f g k at at' e n = record {
  rows = n.rows;
  spans = n.spans;
  use_trees = n.use_trees;
  problems = join_near (moved_problem (place_on b)) f.problems before.problems _ g.problems (record { kind = k; at = at' } ∷ []) n.problems (ap (λ z. record { kind = k; at = z } ∷ []) e);
}

flaw_near : (b : Ending) (before f g : Found) (ended ended' nameless : Bool) (start start' : ℕ) → ended' ≡ ended → start ≡ start' + b.by → FoundNear b before f g → FoundNear b before (and_flaw ended nameless start f) (and_flaw ended' nameless start' g)
flaw_near b before f g true ended' true start start' e s n = rw e (problem_near b before f g problem.Nameless start start' s n)
flaw_near b before f g true ended' false start start' e s n = rw e n
flaw_near b before f g false ended' nameless start start' e s n = rw e (problem_near b before f g problem.Unfinished start start' s n)

none_same : (b : Ending) (o o' : Option TextRange) → o ≡ some_on b o' → is_none o' ≡ is_none o
none_same b o None e = rw e refl
none_same b o (Some r) e = rw e refl

pub item_near : (b : Ending) (before f g : Found) (depth start start' end end' : ℕ) (body body' : Option TextRange) (k : AstIdKind) (name : List ℕ) (range range' : Option TextRange) (ended ended' : Bool) → start ≡ start' + b.by → end ≡ end' + b.by
    → body ≡ some_on b body' → range ≡ some_on b range' → ended' ≡ ended → FoundNear b before f g
    → FoundNear b before (and_item depth start end body k name range ended f) (and_item depth start' end' body' k name range' ended' g)
item_near b before f g depth start start' end end' body body' k name range range' ended ended' s e o r d n =
    rw (none_same b range range' r)
    (flaw_near b before _ _ ended ended' _ start start' d s
    (record {
      rows = row_near f.rows before.rows g.rows _ n.rows;
      spans = join_near (moved_span (place_on b)) f.spans before.spans _ g.spans (span_of start' end' body' range' ∷ []) n.spans (rw (s, e, o, r) refl);
      use_trees = n.use_trees;
      problems = n.problems;
    }))

deep_near : (b : Ending) (before f g : Found) (o o' : Option ℕ) → o ≡ option_map (λ n. n + b.by) o' → FoundNear b before f g → FoundNear b before (and_problem_at problem.TooDeep o f) (and_problem_at problem.TooDeep o' g)
deep_near b before f g o None e n = rw e n
deep_near b before f g o (Some at) e n = rw e (problem_near b before f g problem.TooDeep (at + b.by) at refl n)

pub leaf_near : (b : Ending) (before f g : Found) (depth start start' end end' : ℕ) (l m : LeafRead) → start ≡ start' + b.by → end ≡ end' + b.by → LeafNear b l m → FoundNear b before f g
    → FoundNear b before (and_leaf depth start end l f) (and_leaf depth start' end' m g)
leaf_near b before f g depth start start' end end' l m s e k n =
    let item = subst (λ (z : AstIdKind). FoundNear b before (and_item depth start end l.body l.kind l.name l.named l.is_ended f) (and_item depth start' end' m.body z m.name m.named m.is_ended g)) (sym k.kind)
    (subst (λ (z : List ℕ). FoundNear b before (and_item depth start end l.body l.kind l.name l.named l.is_ended f) (and_item depth start' end' m.body l.kind z m.named m.is_ended g)) (sym k.name)
    (item_near b before f g depth start start' end end' l.body m.body l.kind l.name l.named m.named l.is_ended m.is_ended s e k.body k.named k.ended n)) in
    let deep = deep_near b before _ _ l.too_deep m.too_deep k.too_deep item in
    record {
      rows = deep.rows;
      spans = deep.spans;
      use_trees = join_near (λ n. n + b.by) _ before.use_trees l.use_trees _ m.use_trees deep.use_trees k.use_trees;
      problems = deep.problems;
    }

-- all of what is found in an item, behind its own
pub all_near : (b : Ending) (before f g more more' : Found) → FoundNear b before f g → FoundNear b nothing_found more more' → FoundNear b before (and_all more f) (and_all more' g)
all_near b before f g more more' n k = record {
  rows = ap (λ l. f.rows ++ l) k.rows ∙ row_near f.rows before.rows g.rows more'.rows n.rows;
  spans = join_near (moved_span (place_on b)) f.spans before.spans more.spans g.spans more'.spans n.spans k.spans;
  use_trees = join_near (λ n. n + b.by) f.use_trees before.use_trees more.use_trees g.use_trees more'.use_trees n.use_trees k.use_trees;
  problems = join_near (moved_problem (place_on b)) f.problems before.problems more.problems g.problems more'.problems n.problems k.problems;
}
