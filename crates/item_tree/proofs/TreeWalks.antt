-- A walk from the top meets each id of a tree once, and where the row of an id stands.
use Rattle.std.proofs.Common.{◌≡◌, ℕ, zero, suc, false, ◌+◌, ◌*◌, ◌/◌, ◌%◌, ◌<◌, ◌≤◌, eqb, inl, inr, List, [], ◌∷◌, ◌++◌, length, map, Some, refl, ap, sym, ◌∙◌, subst, arith, length-append, ◌≢◌, ◌⊎◌, slice_get, is_some, IsSome, All, flat_map, AllPairs, Contains}
use Rattle.item_tree.proofs.Common.{option_map_or, eqb-true, cases_Bool, cases_lt, All-nil, All-cons, All-head, All-tail, All-append, All-weaker, All-contains, Contains-append_left, Contains-append_right, RawVisibility, Trunk, Head, Node, Forest, leaf, parent, empty, more, nodes, node_kind, Unfolding, vis_id, leaf_map, trunk_map, trunk_vis, node_vis, forest_vis, arena_of, LayoutRow, leaf_row, parent_row, node_rows, rows_of, kind_bit, node_row, node_id, ids, node_walk, walk, at_row, nth_node, node_at, inner_ids, node_ids, forest_ids, met_before, top_ids, child_ids, ids_from, all_ids, IsContained, StandFor, children, children_at, IsWalkedOnce}
use Rattle.std.proofs.lemmas.List.Kept.{AllPairs-cons}
use Rattle.item_tree.proofs.Arena.{KnowsAll, KnowsAll-parts, Knows-arena}
use Rattle.item_tree.proofs.Canon.{kind_bit-small, at-id, at-node_id, has_walk, length-node_rows, length-rows_of}
use Rattle.item_tree.proofs.Pieces.{HasFrom, HasFrom-left, HasFrom-right, HasFrom-all}

-- ---- the id of a node that stands somewhere in the walk

-- a node's row is the last of its walk
row-last : (b : ℕ) (n : Node) → node_row b n + 1 ≡ b + length (node_walk n)
row-last b (leaf h l) = refl
row-last b (parent h t f) = omega (arith, length-append (walk f) (parent h t f ∷ []))

row-from : (b : ℕ) (n : Node) → b ≤ node_row b n
row-from b (leaf h l) = omega arith
row-from b (parent h t f) = omega arith

pub row-of_id : (b : ℕ) (n : Node) → node_id b n / 2 ≡ node_row b n
row-of_id b n = let s = kind_bit-small (node_kind n) in omega arith

met_before-id : (b : ℕ) (n : Node) → met_before (node_id b n) n ≡ b
met_before-id b n = rw (row-of_id b n) (omega (arith, row-last b n))

-- what is said by its id of a node that stands in the walk, after b others
said : {X : Type 0} (ns : List Node) (h : ℕ → Node → X) (d : X) (b : ℕ) (n : Node) → HasFrom ns b (node_walk n) → option_map_or (λ m. h (met_before (node_id b n) m) m) (nth_node ns (node_id b n)) d ≡ h b n
said ns h d b n w = ap (λ o. option_map_or (λ m. h (met_before (node_id b n) m) m) o d) (at-node_id ns b n w) ∙ ap (λ k. h k n) (met_before-id b n)

-- the ids of a forest stand for its nodes
pub map-at-ids : (ns : List Node) (b : ℕ) (f : Forest) → HasFrom ns b (walk f) → map (nth_node ns) (ids b f) ≡ map Some (nodes f)
map-at-ids ns b empty w = refl
map-at-ids ns b (more n f) w =
    let e = at-node_id ns b n (HasFrom-left ns b (node_walk n) (walk f) w) in
    let r = map-at-ids ns (b + length (node_walk n)) f (HasFrom-right ns b (node_walk n) (walk f) w) in
    rw (e, r) refl

inner-stand : (ns : List Node) (b : ℕ) (n : Node) → HasFrom ns b (node_walk n) → map (nth_node ns) (inner_ids b n) ≡ map Some (nodes (children n))
inner-stand ns b (leaf h l) w = refl
inner-stand ns b (parent h t f) w = map-at-ids ns b f (HasFrom-left ns b (walk f) (parent h t f ∷ []) w)

-- the bit of an id that stands for a node is that of the node's kind
pub bit-at : (n : Node) (b : ℕ) → IsSome (at_row (Some n) b) → kind_bit (node_kind n) ≡ b
bit-at n b s =
    elim (cases_Bool (eqb (kind_bit (node_kind n)) b)) [
      | inl e ↦ eqb-true (kind_bit (node_kind n)) b e
      | inr e ↦ absurd (let z : is_some (at_row (Some n) b) ≡ false = rw e refl in cc)
    ]

pub row-within : (ns : List Node) (k b : ℕ) → IsSome (at_row (slice_get ns k) b) → k < length ns
row-within [] k b h = cc
row-within (n ∷ ns) zero b h = omega arith
row-within (n ∷ ns) (suc k) b h = let r = row-within ns k b h in omega arith

get-some : {X : Type 0} (xs : List X) (k : ℕ) → k < length xs → (x : X) × (slice_get xs k ≡ Some x)
get-some [] k h = absurd (omega arith)
get-some (x ∷ xs) zero h = (x, refl)
get-some (x ∷ xs) (suc k) h = get-some xs k (omega arith)

-- ---- lists without repetitions

all_pairs_both : {X : Type 0} (R : X → X → Type 0) (xs ys : List X) → AllPairs R xs → AllPairs R ys → All (λ x. All (R x) ys) xs → AllPairs R (xs ++ ys)
all_pairs_both R [] ys p q h = q
all_pairs_both R (x ∷ xs) ys p q h =
    let first : All (R x) xs = λ k d l. p 0 (suc k) d (omega arith) (omega arith) in
    let others : AllPairs R xs = λ i j d l m. p (suc i) (suc j) d (omega arith) (omega arith) in
    AllPairs-cons R x (xs ++ ys) (All-append (R x) xs ys first (All-head (λ z. All (R z) ys) x xs h)) (all_pairs_both R xs ys others q (All-tail (λ z. All (R z) ys) x xs h))

-- ---- in a tree

module _ (u : Unfolding) where
  abbrev arena : List RawVisibility
  arena = arena_of u.forest

  abbrev ns : List Node
  ns = walk u.forest

  abbrev rs : List LayoutRow
  rs = rows_of arena u.forest 0

  -- the row of a node, which is the last of its walk's
  abbrev pub row_of : ℕ → Node → LayoutRow
  row_of b (leaf h l) = (h, leaf_row (leaf_map (vis_id arena) l))
  row_of b (parent h t f) = (h, parent_row (trunk_map (vis_id arena) t) (ids b f))

  -- the walk of a node stands here, and so do its rows
  pub record Lies (b : ℕ) (n : Node) : Type 0 where
    pub walked : HasFrom ns b (node_walk n)
    pub stored : HasFrom rs b (node_rows arena n b)
    pub known : KnowsAll arena (node_vis n)

  record AllLie (b : ℕ) (f : Forest) : Type 0 where
    walked : HasFrom ns b (walk f)
    stored : HasFrom rs b (rows_of arena f b)
    known : KnowsAll arena (forest_vis f)

  lies-first : (b : ℕ) (n : Node) (f : Forest) → AllLie b (more n f) → Lies b n
  lies-first b n f w = record {
    walked = HasFrom-left ns b (node_walk n) (walk f) w.walked;
    stored = HasFrom-left rs b (node_rows arena n b) (rows_of arena f (b + length (node_walk n))) w.stored;
    known = (KnowsAll-parts arena (node_vis n) (forest_vis f) w.known).0;
  }

  lie-others : (b : ℕ) (n : Node) (f : Forest) → AllLie b (more n f) → AllLie (b + length (node_walk n)) f
  lie-others b n f w = record {
    walked = HasFrom-right ns b (node_walk n) (walk f) w.walked;
    stored = subst (λ k. HasFrom rs (b + k) (rows_of arena f (b + length (node_walk n)))) (length-node_rows arena n b) (HasFrom-right rs b (node_rows arena n b) (rows_of arena f (b + length (node_walk n))) w.stored);
    known = (KnowsAll-parts arena (node_vis n) (forest_vis f) w.known).1;
  }

  lie-below : (b : ℕ) (h : Head) (t : Trunk RawVisibility) (f : Forest) → Lies b (parent h t f) → AllLie b f
  lie-below b h t f w = record {
    walked = HasFrom-left ns b (walk f) (parent h t f ∷ []) w.walked;
    stored = HasFrom-left rs b (rows_of arena f b) _ w.stored;
    known = (KnowsAll-parts arena (trunk_vis t) (forest_vis f) w.known).1;
  }

  -- the last of its walk
  node-last : (b : ℕ) (n : Node) → Lies b n → slice_get ns (node_row b n) ≡ Some n
  node-last b (leaf h m) w = w.walked.0
  node-last b (parent h t f) w = (HasFrom-right ns b (walk f) (parent h t f ∷ []) w.walked).0

  stored-last : (b : ℕ) (n : Node) → Lies b n → slice_get rs (node_row b n) ≡ Some (row_of b n)
  stored-last b (leaf h m) w = w.stored.0
  stored-last b (parent h t f) w =
      subst (λ k. slice_get rs (b + k) ≡ Some (row_of b (parent h t f))) (length-rows_of arena f b) (HasFrom-right rs b (rows_of arena f b) (row_of b (parent h t f) ∷ []) w.stored).0

  -- ---- what is said of a node by its id

  pub child_ids-at : (b : ℕ) (n : Node) → Lies b n → child_ids u (node_id b n) ≡ inner_ids b n
  unfolding child_ids node_at
  child_ids-at b n w = said ns inner_ids [] b n w.walked

  ids_from-at : (b : ℕ) (n : Node) → Lies b n → ids_from u (node_id b n) ≡ node_ids b n
  unfolding ids_from node_at
  ids_from-at b n w = said ns node_ids [] b n w.walked

  pub node_at-id : (b : ℕ) (n : Node) → Lies b n → node_at u.forest (node_id b n) ≡ Some n
  unfolding node_at
  node_at-id b n w = at-node_id ns b n w.walked

  pub stand-at : (b : ℕ) (n : Node) → Lies b n → StandFor u (child_ids u (node_id b n)) (children n)
  unfolding node_at
  stand-at b n w = ap (map (node_at u.forest)) (child_ids-at b n w) ∙ inner-stand ns b n w.walked

  from-forest : (b : ℕ) (f : Forest) → AllLie b f → flat_map (ids_from u) (ids b f) ≡ forest_ids b f
  from-forest b empty w = refl
  from-forest b (more n f) w = let e = ids_from-at b n (lies-first b n f w) in let r = from-forest (b + length (node_walk n)) f (lie-others b n f w) in rw (e, r) refl

  from-node : (b : ℕ) (n : Node) → Lies b n → node_ids b n ≡ node_id b n ∷ flat_map (ids_from u) (inner_ids b n)
  from-node b (leaf h l) w = refl
  from-node b (parent h t f) w = ap (λ is. node_id b (parent h t f) ∷ is) (sym (from-forest b f (lie-below b h t f w)))

  -- ---- the ids that a walk meets

  -- the id is that of a node, which stands in its row
  pub record IsMet (i : ℕ) : Type 0 where
    pub first : ℕ
    pub node : Node
    pub lies : Lies first node
    pub id : node_id first node ≡ i
    pub found : node_at u.forest i ≡ Some node
    pub stored : slice_get rs (i / 2) ≡ Some (row_of first node)

  -- the ids are those of the nodes in these rows, each once
  record Covers (In : ℕ → Type 0) (is : List ℕ) : Type 0 where
    met : All (λ i. IsMet i × In (i / 2)) is
    once : AllPairs (λ i j. i ≢ j) is
    meets : (i : ℕ) → IsSome (nth_node ns i) → In (i / 2) → Contains is i

  covers-none : (In : ℕ → Type 0) → ((k : ℕ) → In k → ⊥) → Covers In []
  covers-none In none = record { met = All-nil (λ i. IsMet i × In (i / 2)); once = λ i j d p q. absurd (omega arith); meets = λ i s h. absurd (none (i / 2) h) }

  covers-one : (b : ℕ) (n : Node) → Lies b n → Covers (λ k. k ≡ node_row b n) (node_id b n ∷ [])
  covers-one b n w = record {
    met = All-cons (λ i. IsMet i × (i / 2 ≡ node_row b n)) (node_id b n) [] (record { first = b; node = n; lies = w; id = refl; found = node_at-id b n w; stored = ap (slice_get rs) (row-of_id b n) ∙ stored-last b n w }, row-of_id b n) (All-nil (λ i. IsMet i × (i / 2 ≡ node_row b n)));
    once = λ i j d p q. absurd (omega arith);
    meets = λ i s e.
        let there : slice_get ns (i / 2) ≡ Some n = ap (slice_get ns) e ∙ node-last b n w in
        let bit : kind_bit (node_kind n) ≡ i % 2 = bit-at n (i % 2) (subst (λ o. IsSome (at_row o (i % 2))) there s) in
        (0, omega arith, omega arith);
  }

  covers-both : (P Q R : ℕ → Type 0) (is js : List ℕ) → ((k : ℕ) → R k → P k ⊎ Q k) → ((k : ℕ) → P k → R k) → ((k : ℕ) → Q k → R k) → ((k : ℕ) → P k → Q k → ⊥) → Covers P is → Covers Q js → Covers R (is ++ js)
  covers-both P Q R is js split left right apart p q = record {
    met = All-append (λ i. IsMet i × R (i / 2)) is js (All-weaker (λ i. IsMet i × P (i / 2)) (λ i. IsMet i × R (i / 2)) (λ i m. (m.0, left (i / 2) m.1)) is p.met) (All-weaker (λ i. IsMet i × Q (i / 2)) (λ i. IsMet i × R (i / 2)) (λ i m. (m.0, right (i / 2) m.1)) js q.met);
    once = all_pairs_both (λ i j. i ≢ j) is js p.once q.once
        (All-weaker (λ i. IsMet i × P (i / 2)) (λ i. All (λ j. i ≢ j) js) (λ i m. All-weaker (λ j. IsMet j × Q (j / 2)) (λ j. i ≢ j) (λ j n e. apart (j / 2) (subst (λ z. P (z / 2)) e m.1) n.1) js q.met) is p.met);
    meets = λ i s r. elim (split (i / 2) r) [ inl h ↦ Contains-append_left is js i (p.meets i s h) | inr h ↦ Contains-append_right is js i (q.meets i s h) ];
  }

  abbrev Between : ℕ → ℕ → ℕ → Type 0
  Between b c k = (b ≤ k) × (k < c)

  -- that of a node, behind those below it
  covers-own : (b : ℕ) (n : Node) (js : List ℕ) → Lies b n → Covers (Between b (node_row b n)) js → Covers (Between b (b + length (node_walk n))) (node_id b n ∷ js)
  covers-own b n js w q =
      let last = row-last b n in
      let from = row-from b n in
      covers-both (λ k. k ≡ node_row b n) (Between b (node_row b n)) (Between b (b + length (node_walk n))) (node_id b n ∷ []) js
      (λ k r. elim (cases_lt k (node_row b n)) [ inl h ↦ inr (r.0, h) | inr h ↦ inl (omega arith) ])
      (λ k e. (omega arith, omega arith)) (λ k r. (r.0, omega arith)) (λ k e r. absurd (omega arith)) (covers-one b n w) q

  mutual
    covers-node : (b : ℕ) (n : Node) → Lies b n → Covers (Between b (b + length (node_walk n))) (node_ids b n)
    covers-node b (leaf h l) w = covers-own b (leaf h l) [] w (covers-none (Between b b) (λ k r. absurd (omega arith)))
    covers-node b (parent h t f) w = covers-own b (parent h t f) (forest_ids b f) w (covers-forest b f (lie-below b h t f w))

    covers-forest : (b : ℕ) (f : Forest) → AllLie b f → Covers (Between b (b + length (walk f))) (forest_ids b f)
    covers-forest b empty w = covers-none (Between b (b + 0)) (λ k r. absurd (omega arith))
    covers-forest b (more n f) w =
        let long = length-append (node_walk n) (walk f) in
        let mid = b + length (node_walk n) in
        covers-both (Between b mid) (Between mid (mid + length (walk f))) (Between b (b + length (node_walk n ++ walk f))) (node_ids b n) (forest_ids mid f)
        (λ k r. elim (cases_lt k mid) [ inl h ↦ inl (r.0, h) | inr h ↦ inr (h, omega arith) ])
        (λ k r. (r.0, omega arith)) (λ k r. (omega arith, omega arith)) (λ k r s. absurd (omega arith)) (covers-node b n (lies-first b n f w)) (covers-forest mid f (lie-others b n f w))

  -- ---- so what is said of nodes by their ids holds of all ids

  lain : AllLie 0 u.forest
  lain = record { walked = has_walk u.forest; stored = HasFrom-all rs; known = Knows-arena u.forest }

  covered : Covers (Between 0 (0 + length ns)) (forest_ids 0 u.forest)
  covered = covers-forest 0 u.forest lain

  meets : (i : ℕ) → IsContained u i → Contains (forest_ids 0 u.forest) i
  unfolding node_at
  meets i s = let r = row-within ns (i / 2) (i % 2) s in covered.meets i s (omega arith, omega arith)

  met : (i : ℕ) → Contains (forest_ids 0 u.forest) i → IsMet i
  met i h = (All-contains (λ j. IsMet j × Between 0 (0 + length ns) (j / 2)) (forest_ids 0 u.forest) i covered.met h).0

  pub at-id_of : (i : ℕ) → IsContained u i → IsMet i
  at-id_of i s = met i (meets i s)

  -- what holds at the id of each node that lies in the walk holds at each id that stands for a node
  at-each : (P : ℕ → Type 0) → ((b : ℕ) (n : Node) → Lies b n → P (node_id b n)) → (i : ℕ) → IsContained u i → P i
  at-each P h i s = let m = at-id_of i s in subst P m.id (h m.first m.node m.lies)

  -- in each row stands a node of the walk
  pub row-met : (k : ℕ) → k < length ns → (i : ℕ) × (i / 2 ≡ k) × IsMet i
  unfolding node_at
  row-met k h =
      let n = get-some ns k h in
      let i = 2 * k + kind_bit (node_kind n.0) in
      let small = kind_bit-small (node_kind n.0) in
      (i, omega arith, at-id_of i (ap is_some (at-id ns k n.0 n.1)))

  pub walked_once : IsWalkedOnce u
  unfolding all_ids top_ids
  walked_once = record {
    stand = at-each (λ i. StandFor u (child_ids u i) (children_at u i)) (λ b n w. stand-at b n w ∙ ap (λ o. map Some (nodes (option_map_or children o empty))) (sym (node_at-id b n w)));
    top = sym (from-forest 0 u.forest lain);
    below = at-each (λ i. ids_from u i ≡ i ∷ flat_map (ids_from u) (child_ids u i)) (λ b n w.
        ids_from-at b n w ∙ from-node b n w ∙ ap (λ is. node_id b n ∷ flat_map (ids_from u) is) (sym (child_ids-at b n w)));
    once = covered.once;
    all = λ i. (meets i, (λ h. ap is_some (met i h).found));
  }

  -- the ids at the top are those of the tables, and stand for the nodes there
  pub top_ids-is : top_ids u ≡ ids 0 u.forest
  unfolding top_ids
  top_ids-is = refl

  pub top-stands : map (node_at u.forest) (ids 0 u.forest) ≡ map Some (nodes u.forest)
  unfolding node_at
  top-stands = map-at-ids ns 0 u.forest (has_walk u.forest)
