-- The lines of a page by ids are those of the nodes.
use Rattle.std.proofs.Common.{◌≡◌, ℕ, Bool, true, Option, None, suc, zero, ◌+◌, ◌<◌, ◌≤◌, List, [], ◌∷◌, ◌++◌, length, map, take, get_or, codes, Some, refl, ap, sym, ◌∙◌, false, string_bytes, replicate, ◌*◌, append_assoc, arith, inl, inr, ◌==◌, ◌⊎◌, not, is_some, option_map, String, Result, OnOk}
use Rattle.item_tree.proofs.Common.{option_map_or, cases_Bool, ne_eqb, common_steps, flat_map-append, on_ok_weaker, take_more, map-append, append-nil, FileAstId, Collected, RawVisibility, has_no_attributes, unless, some_unless, Trunk, inline, extern_block, Node, Forest, empty, more, nodes, node_head, Unfolding, trunk_map, vis_at, node_at, IsParent, StandFor, lent_attrs, attrs_at, Line, text, blank, line_text, item_opening, top_opening, with_blanks, id_text, attrs_lines, trunk_header, own_lines, parts, page_parts, page_lines, Gains, Starts, blank_between, item_lines, lent_lines, node_lines, own_lines_at, lines_at, list_lines}
use Rattle.std.specs.declared.alloc.Global.{Global}
use Rattle.item_tree.proofs.Column.{empty-is}
use Rattle.item_tree.proofs.Walking.{map_of_id, parent_of_id}

-- ---- one more part behind others

with_blanks-next : (part : List Line) (others : List (List Line)) (last : List Line) → with_blanks ((part ∷ others) ++ last ∷ []) ≡ with_blanks (part ∷ others) ++ (blank ∷ last)
with_blanks-next part others last = grind (arith, common_steps, flat_map-append)

module _ (reserved : List (List ℕ)) (u : Unfolding) (k : ℕ) where
  more-lines : (is : List ℕ) (j d : ℕ) → j < length is → map (lines_at reserved u k) (take (j + 1) is) ≡ map (lines_at reserved u k) (take j is) ++ lines_at reserved u k (get_or is j d) ∷ []
  more-lines is j d h = ap (map (lines_at reserved u k)) (take_more is j d h) ∙ map-append (lines_at reserved u k) (take j is) (get_or is j d ∷ [])

  first-lines : (is : List ℕ) (j d : ℕ) → j ≤ 0 → j < length is → list_lines reserved u k (take (j + 1) is) ≡ list_lines reserved u k (take j is) ++ lines_at reserved u k (get_or is j d)
  first-lines is zero d z h = ap with_blanks (more-lines is 0 d h) ∙ append-nil (lines_at reserved u k (get_or is 0 d))
  first-lines is (suc j) d z h = absurd (omega arith)

  next-lines : (is : List ℕ) (j d : ℕ) → 0 < j → j < length is → list_lines reserved u k (take (j + 1) is) ≡ list_lines reserved u k (take j is) ++ (blank ∷ lines_at reserved u k (get_or is j d))
  next-lines [] j d p h = absurd (omega arith)
  next-lines (i ∷ is) zero d p h = absurd (omega arith)
  next-lines (i ∷ is) (suc j) d p h = ap with_blanks (more-lines (i ∷ is) (suc j) d h) ∙ with_blanks-next (lines_at reserved u k i) (map (lines_at reserved u k) (take j is)) _

  -- the text after one more item of a list, before which stands a blank unless it is the first
  module _ (old out mid new : String Global) (is : List ℕ) (j i : ℕ) (within : j < length is) (at_j : i ≡ get_or is j i) (before : Gains old out (list_lines reserved u k (take j is))) (item : Gains mid new (lines_at reserved u k i)) where
    pub gains_more : (0 < j) × (string_bytes mid ≡ string_bytes out ++ line_text blank) ⊎ (j ≤ 0) × (mid ≡ out) → Gains old new (list_lines reserved u k (take (j + 1) is))
    gains_more (inl (p, gap)) = rw (next-lines is j i p within, ← at_j) (grind (arith, common_steps, flat_map-append))
    gains_more (inr (z, same)) = rw (first-lines is j i z within, ← at_j) (grind (arith, common_steps, flat_map-append))

-- ---- texts that gain lines, one after another

pub gains_line : (old a new : String Global) (k : ℕ) (line written : List ℕ) → string_bytes a ≡ string_bytes old ++ replicate (4 * k) 32 → string_bytes new ≡ string_bytes a ++ written → written ≡ line ++ 10 ∷ [] → Gains old new (text k line ∷ [])
gains_line old a new k line written p q e = q ∙ ap (λ bytes. string_bytes a ++ bytes) e ∙ ap (λ bytes. bytes ++ (line ++ 10 ∷ [])) p ∙ simp append_assoc

pub gains_both : (old a new : String Global) (first second : List Line) → Gains old a first → Gains a new second → Gains old new (first ++ second)
gains_both old a new first second p q = grind (arith, common_steps, flat_map-append)

-- the line of an id, and that of a header
pub gains_item :
    {T E : Type 0} (r : Result T E) (old mid new : String Global) (k : ℕ) (a : FileAstId) (header written : List ℕ) → Starts old mid k a → OnOk r (string_bytes new ≡ string_bytes mid ++ written) → written ≡ header ++ 10 ∷ [] →
    OnOk r (Gains old new (item_lines k a header))
gains_item r old mid new k a header written p q e = on_ok_weaker r (λ w. w ∙ ap (λ bytes. string_bytes mid ++ bytes) e ∙ ap (λ bytes. bytes ++ (header ++ 10 ∷ [])) p ∙ simp append_assoc) q

-- ---- ids, and the nodes that they stand for

module _ (reserved : List (List ℕ)) where
  parts-nodes : (f : Forest) (k : ℕ) → map (node_lines reserved k) (nodes f) ≡ parts reserved f k
  parts-nodes empty k = refl
  parts-nodes (more n f) k = ap (λ ls. node_lines reserved k n ∷ ls) (parts-nodes f k)

  parts-ids : (u : Unfolding) (f : Forest) (k : ℕ) (is : List ℕ) → StandFor u is f → map (lines_at reserved u k) is ≡ parts reserved f k
  parts-ids u f k is e = map_of_id u [] (node_lines reserved k) is (nodes f) e ∙ parts-nodes f k

  -- attributes that are lent have all lines that attributes have
  lent-lines : (opening : List ℕ) (k : ℕ) (c : Collected) → lent_lines reserved opening k (lent_attrs c) ≡ attrs_lines reserved opening k c
  lent-lines opening k c =
      elim (cases_Bool (has_no_attributes c)) [
        | inl e ↦ rw e (ap (attrs_lines reserved opening k) (sym (empty-is c e)))
        | inr e ↦ rw e refl
      ]

  node-lines : (k : ℕ) (o : Option Node) → option_map_or (node_lines reserved k) o [] ≡ lent_lines reserved item_opening k (option_map_or (λ n. lent_attrs (node_head n).attrs) o None) ++ option_map_or (λ n. own_lines reserved n k) o []
  node-lines k None = refl
  node-lines k (Some n) = ap (λ ls. ls ++ own_lines reserved n k) (sym (lent-lines item_opening k (node_head n).attrs))

  -- the text after an item: its attributes, and its own lines
  pub item_gains :
      (u : Unfolding) (k i : ℕ) (old mid new : String Global) → Gains old mid (lent_lines reserved item_opening k (attrs_at u i)) → Gains mid new (own_lines_at reserved u k i) → Gains old new (lines_at reserved u k i)
  item_gains u k i old mid new p q = rw (node-lines k (node_at u.forest i)) (grind (arith, common_steps, flat_map-append))

  same-trunk : (t s : Trunk RawVisibility) → trunk_map Some t ≡ trunk_map Some s → t ≡ s
  same-trunk (inline n v) (inline m w) e = cc
  same-trunk extern_block extern_block e = refl
  same-trunk _ _ e = absurd (cc)

  -- the lines of an item with children are those of its header, of its children's ids, and of its end
  parent_lines :
      {u : Unfolding} {i : ℕ} {a : FileAstId} {t : Trunk ℕ} {is : List ℕ} (k : ℕ) (item : Trunk RawVisibility) → IsParent u i a t is → trunk_map (vis_at u.forest) t ≡ trunk_map Some item →
      own_lines_at reserved u k i ≡ item_lines k a (trunk_header reserved item) ++ (list_lines reserved u (k + 1) is ++ text k (codes "}") ∷ [])
  parent_lines {u} {i} {a} {t} {is} k item p q =
      let same = same-trunk p.item item (sym p.visible ∙ q) in
      parent_of_id u [] (λ n. own_lines reserved n k) i a t is p
      ∙ (λ j. text k (id_text (sym p.ast_id j)) ∷ text k (trunk_header reserved (same j)) ∷ (with_blanks (sym (parts-ids u p.below (k + 1) is p.children) j) ++ text k (codes "}") ∷ []))

  -- the text after an item with children: the lines of its header, and those of what stands below
  pub parent_gains :
      {u : Unfolding} {i : ℕ} {a : FileAstId} {t : Trunk ℕ} {is : List ℕ} (k : ℕ) (item : Trunk RawVisibility) (old mid new : String Global) → IsParent u i a t is → trunk_map (vis_at u.forest) t ≡ trunk_map Some item →
      Gains old mid (item_lines k a (trunk_header reserved item)) → Gains mid new (list_lines reserved u (k + 1) is ++ text k (codes "}") ∷ []) → Gains old new (own_lines_at reserved u k i)
  parent_gains {u} {i} {a} {t} {is} k item old mid new p e q r = rw (parent_lines k item p e) (gains_both old mid new (item_lines k a (trunk_header reserved item)) (list_lines reserved u (k + 1) is ++ text k (codes "}") ∷ []) q r)

  abbrev has_nodes : Forest → Bool
  has_nodes empty = false
  has_nodes (more n f) = true

  page-parts : (b : Bool) (c : Collected) (f : Forest) →
      page_lines (unless b (attrs_lines reserved top_opening 0 c) ++ parts reserved f 0)
      ≡ lent_lines reserved top_opening 0 (some_unless b c) ++ (blank_between (is_some (some_unless b c)) (has_nodes f) ++ with_blanks (parts reserved f 0))
  page-parts true c empty = refl
  page-parts true c (more n f) = refl
  page-parts false c empty = refl
  page-parts false c (more n f) = refl

  has-ids : (u : Unfolding) (is : List ℕ) (f : Forest) → StandFor u is f → not (length is == 0) ≡ has_nodes f
  has-ids u [] empty e = refl
  has-ids u (i ∷ is) (more n f) e = ap not (ne_eqb (length (i ∷ is)) 0 (omega arith))
  has-ids u _ _ e = absurd (cc)

  -- the page is the lines of the top attributes, and those of the ids at the top
  pub page_of_ids :
      (u : Unfolding) (is : List ℕ) → StandFor u is u.forest →
      page_lines (page_parts reserved u) ≡ lent_lines reserved top_opening 0 (lent_attrs u.top_attrs) ++ (blank_between (is_some (lent_attrs u.top_attrs)) (not (length is == 0)) ++ list_lines reserved u 0 is)
  page_of_ids u is h =
      page-parts (has_no_attributes u.top_attrs) u.top_attrs u.forest
      ∙ (λ j. lent_lines reserved top_opening 0 (lent_attrs u.top_attrs) ++ (blank_between (is_some (lent_attrs u.top_attrs)) (sym (has-ids u is u.forest h) j) ++ with_blanks (sym (parts-ids u u.forest 0 is h) j)))

-- three pieces of text, one behind another
pub gains_three :
    (old a b new : String Global) (attrs between items : List Line) → Gains old a attrs → Gains a b between → Gains b new items → Gains old new (attrs ++ (between ++ items))
gains_three old a b new attrs between items p q r = gains_both old a new attrs (between ++ items) p (gains_both a b new between items q r)

pub is_some-map : {X Y : Type 0} (f : X → Y) (o : Option X) → is_some (option_map f o) ≡ is_some o
is_some-map f None = refl
is_some-map f (Some x) = refl
