-- What the item of an id adds, by what is lent for it.
use Rattle.std.proofs.Common.{◌≡◌, ◌≢◌, ℕ, zero, suc, ◌-◌, ◌+◌, ◌*◌, ◌^◌, ◌<◌, ◌≤◌, sum_by, Bool, true, false, List, [], ◌∷◌, length, get_or, take, map, Option, Some, None, refl, ap, sym, subst, ◌∙◌, arith, length-append, if◌then◌else◌}
use Rattle.std.specs.{List.fold, Option.option_map_or}
use Rattle.hir_input.specs.{declared.attr.Attr.Attr, Cfg.CfgView}
use Rattle.item_tree_attrs.specs.Collected.{Collected}
use Rattle.item_tree.specs.{Size.Fits, Size.item_limit, Walk.count_at, Shown.lent_attrs, Shown.attrs_at}
use Rattle.hir_input.specs.declared.ids.FileAstId.{FileAstId}
use Rattle.item_tree.specs.{declared.visibility.RawVisibility.RawVisibility, declared.items.ModKind.ModKind, declared.items.ModKind.TheVariants.Inline, declared.items.ModKind.TheVariants.Outline}
use Rattle.item_tree.specs.Layout.{leaf_map, trunk_map, node_at, vis_at}
use Rattle.item_tree.specs.Node.{Leaf, plain, outline, Trunk, inline, extern_block, Head, Node, leaf, parent, Forest, empty, more, nodes, count, node_head, file_id, leaf_kind, trunk_kind, Unfolding, nothing}
use Rattle.item_tree.specs.Shown.{StandFor, Lent, lent_leaf, lent_parent, IsLent, IsLeaf, IsParent, IsModule}
use Rattle.item_tree.proofs.Walking.{of_id_is, leaf_of_id, parent_of_id, parent_counts, children_contained, ids_contained, ids_count}
use Rattle.tree_walk.specs.{Rows.hold_no_false, Rows.is_enabled, Rows.is_file_enabled, Inner.Rows.enabled_at}
use Rattle.module_tree.specs.declared.data.{ModuleChoice.ModuleChoice, ModuleId.ModuleId}
use Rattle.module_tree.specs.declared.data.{ModuleChoice.TheVariants.Enabled, ModuleChoice.TheVariants.All, ModuleOrigin.TheVariants.File as file_origin, ModuleOrigin.TheVariants.Inline as inline_origin}
use Rattle.module_tree.specs.Inner.{id_modules, mod_path_at}
use Rattle.module_tree.specs.Modules.{ModuleFiles, Dir, ModItem, ModulePlace, Findings, nothing_found, found_module, unresolved_mod, wanted_paths, FoundModules, Enter, Resolution, wants, fails, finds, mod_item, path_attr, inside_inline, inside_file, outline_module, resolution, is_followed, node_found, forest_found, enter_files, depth_limit, root_place, next_id, module_in, with_module, with_unresolved, with_wanted, with_found, root_id, root_found, crate_modules}

-- a `mod` by its parts
abbrev pub item_of : List ℕ → FileAstId → Option (List ℕ) → ModItem
item_of name a path = record { name = name; id = a; path = path }

-- ---- the attribute `path` of an item, by the attributes that are lent

lent_one : (attrs : List Attr) (false_cfg : Option CfgView) → option_map_or (λ c. path_attr c.attrs) (lent_attrs (record { attrs = attrs; false_cfg = false_cfg })) None ≡ path_attr attrs
lent_one [] None = refl
lent_one [] (Some cfg) = refl
lent_one (a ∷ attrs) cfg = refl

lent_path : (o : Option Node) → option_map_or (λ c. path_attr c.attrs) (option_map_or (λ n. lent_attrs (node_head n).attrs) o None) None ≡ option_map_or (λ n. path_attr (node_head n).attrs.attrs) o None
lent_path None = refl
lent_path (Some n) = lent_one (node_head n).attrs.attrs (node_head n).attrs.false_cfg

pub path_lent : (u : Unfolding) (i : ℕ) (c : Option Collected) → c ≡ attrs_at u i → option_map_or (λ c. path_attr c.attrs) c None ≡ mod_path_at u i
path_lent u i c e = ap (λ o. option_map_or (λ c. path_attr c.attrs) o None) e ∙ lent_path (node_at u.forest i)

-- ---- how many items are left

pub file_falls : (u : Unfolding) (is : List ℕ) (depth : ℕ) → StandFor u is u.forest → Fits u → depth ≢ 0 → (depth - 1) * 2 ^ 33 + 2 * sum_by (count_at u) is + 1 < depth * 2 ^ 33
file_falls u is depth e f some =
    let all : sum_by (count_at u) is ≡ count u.forest = ids_count u is u.forest e in
    let few : count u.forest ≤ item_limit = f.items in
    omega (arith, all, few, some)

-- ---- what is found of items, one after the other

if_splits : (id : ModuleId) (on : Bool) (f g behind : Findings) (s : FoundModules) → with_found id f s ≡ with_found id behind (with_found id g s)
    → with_found id (if on then f else behind) s ≡ with_found id behind (with_found id (if on then g else nothing_found) s)
if_splits id true f g behind s e = e
if_splits id false f g behind s e = refl

-- no more modules are fewer
pub grows : (id : ModuleId) (f : Findings) (s : FoundModules) → length s.modules ≤ length (with_found id f s).modules
grows id nothing_found s = omega arith
grows id (found_module name origin file inside behind) s =
    let t = with_module (module_in id name origin file) s in
    let first : length s.modules ≤ length t.modules = omega (arith, length-append s.modules (module_in id name origin file ∷ [])) in
    let second = grows (next_id s) inside t in
    let third = grows id behind (with_found (next_id s) inside t) in
    omega (arith, first, second, third)
grows id (unresolved_mod m reason paths behind) s = grows id behind (with_unresolved (record { parent = id; name = m.name; id = m.id; reason = reason; paths = paths }) s)
grows id (wanted_paths paths behind) s = grows id behind (with_wanted paths s)

module _ (choice : ModuleChoice) (files : ModuleFiles) where
  -- what is found in front of others is added before them
  abbrev pub Splits : Enter → Type 0
  Splits enter = (id : ModuleId) (p : ModulePlace) (m : ModItem) (file : ℕ) (dir : Dir) (behind : Findings) (s : FoundModules)
      → with_found id (enter p m file dir behind) s ≡ with_found id behind (with_found id (enter p m file dir nothing_found) s)

  pub entered_splits : (depth : ℕ) → Splits (enter_files choice files depth)
  entered_splits zero id p m file dir behind s = refl
  entered_splits (suc depth) id p m file dir behind s = if_splits id (is_followed choice (is_file_enabled (files.tree file))) _ _ behind s refl

  module _ (enter : Enter) (splits : Splits enter) (id : ModuleId) where
    outlined_splits : (p : ModulePlace) (m : ModItem) (r : Resolution) (behind : Findings) (s : FoundModules)
        → with_found id (outline_module enter p m r behind) s ≡ with_found id behind (with_found id (outline_module enter p m r nothing_found) s)
    outlined_splits p m (wants paths) behind s = refl
    outlined_splits p m (fails reason) behind s = refl
    outlined_splits p m (finds file dir) behind s = splits id p m file dir behind s

    node_splits : (p : ModulePlace) (n : Node) (behind : Findings) (s : FoundModules)
        → with_found id (node_found choice files enter p n behind) s ≡ with_found id behind (with_found id (node_found choice files enter p n nothing_found) s)
    node_splits p (leaf h (outline name v)) behind s =
        let m = mod_item (leaf h (outline name v)) name h in
        if_splits id (is_followed choice (hold_no_false h.attrs)) _ _ behind s (outlined_splits p m (resolution files p m) behind s)
    node_splits p (leaf h _) behind s = refl
    node_splits p (parent h (inline name v) f) behind s = if_splits id (is_followed choice (hold_no_false h.attrs)) _ _ behind s refl
    node_splits p (parent h extern_block f) behind s = refl

    -- ids of a forest's nodes add what the forest does
    pub fold_stands : (p : ModulePlace) (u : Unfolding) (is : List ℕ) (f : Forest) (s : FoundModules) → StandFor u is f
        → fold (id_modules choice files enter id p u) s is ≡ with_found id (forest_found choice files enter p f) s
    fold_stands p u [] empty s e = refl
    fold_stands p u (i ∷ is) (more n f) s e =
        let first : node_at u.forest i ≡ Some n = cc in
        let others : map (node_at u.forest) is ≡ map Some (nodes f) = cc in
        let t = with_found id (node_found choice files enter p n nothing_found) s in
        ap (λ t. fold (id_modules choice files enter id p u) t is) (of_id_is u s (λ m. with_found id (node_found choice files enter p m nothing_found) s) i n first) ∙ fold_stands p u is f t others
        ∙ sym (node_splits p n (forest_found choice files enter p f) s)
    fold_stands p u [] (more n f) s e = absurd (cc)
    fold_stands p u (i ∷ is) empty s e = absurd (cc)

  module _ (enter : Enter) (id : ModuleId) (p : ModulePlace) (u : Unfolding) where
    abbrev add : FoundModules → ℕ → FoundModules
    add = id_modules choice files enter id p u

    one_grows : (s : FoundModules) (o : Option Node) → length s.modules ≤ length (option_map_or (λ n. with_found id (node_found choice files enter p n nothing_found) s) o s).modules
    one_grows s None = omega arith
    one_grows s (Some n) = grows id (node_found choice files enter p n nothing_found) s

    fold_grows : (is : List ℕ) (s : FoundModules) → length s.modules ≤ length (fold add s is).modules
    fold_grows [] s = omega arith
    fold_grows (i ∷ is) s =
        let first = one_grows s (node_at u.forest i) in
        let others = fold_grows is (add s i) in
        omega (arith, first, others)

    -- all items have no fewer than those up to one
    pub reaches : (is : List ℕ) (k : ℕ) (s t : FoundModules) (i : ℕ) → k < length is → t ≡ fold add s (take k is) → i ≡ get_or is k i → length (add t i).modules ≤ length (fold add s is).modules
    reaches [] k s t i h e f = absurd (omega arith)
    reaches (j ∷ is) zero s t i h e f = let more = fold_grows is (add s j) in rw (e, f) more
    reaches (j ∷ is) (suc k) s t i h e f = reaches is k (add s j) t i (omega arith) e f

-- whether an item is a `mod`
abbrev is_mod_leaf : {V : Type 0} → Leaf V → Bool
is_mod_leaf (outline name v) = true
is_mod_leaf _ = false

abbrev is_mod_trunk : {V : Type 0} → Trunk V → Bool
is_mod_trunk (inline name v) = true
is_mod_trunk extern_block = false

abbrev pub is_mod : Lent → Bool
is_mod (lent_leaf a l) = is_mod_leaf l
is_mod (lent_parent a t is) = is_mod_trunk t

same_leaf : {V W : Type 0} (f : V → W) (l : Leaf V) → is_mod_leaf (leaf_map f l) ≡ is_mod_leaf l
same_leaf f (plain k n v) = refl
same_leaf f _ = refl

same_trunk : {V W : Type 0} (f : V → W) (t : Trunk V) → is_mod_trunk (trunk_map f t) ≡ is_mod_trunk t
same_trunk f (inline n v) = refl
same_trunk f extern_block = refl

module _ (choice : ModuleChoice) (files : ModuleFiles) (enter : Enter) (splits : Splits choice files enter) (id : ModuleId) (p : ModulePlace) (s : FoundModules) where
  -- what a `mod` without items adds, by whether it is followed
  abbrev of_leaf : Bool → ModItem → FoundModules
  of_leaf on m = with_found id (if is_followed choice on then outline_module enter p m (resolution files p m) nothing_found else nothing_found) s

  -- and one with these items
  abbrev of_parent : Forest → Bool → ModItem → FoundModules
  of_parent below on m = with_found id (if is_followed choice on then found_module m.name (inline_origin m.id) p.file (forest_found choice files enter (inside_inline p m) below) nothing_found else nothing_found) s

  abbrev of_node : Node → FoundModules
  of_node n = with_found id (node_found choice files enter p n nothing_found) s

  outline_leaf : (f : ℕ → Option RawVisibility) (h : Head) (item : Leaf RawVisibility) (a : FileAstId) (name : List ℕ) (v : ℕ) → leaf_map f (outline name v) ≡ leaf_map Some item → a ≡ file_id (leaf_kind item) h
      → of_node (leaf h item) ≡ of_leaf (hold_no_false h.attrs) (item_of name a (path_attr h.attrs.attrs))
  outline_leaf f h (outline other w) a name v e g = let e : name ≡ other = cc in rw (e, g) refl
  outline_leaf f h (plain k n w) a name v e g = absurd (cc)
  outline_leaf f h _ a name v e g = absurd (cc)

  inline_trunk : (f : ℕ → Option RawVisibility) (h : Head) (item : Trunk RawVisibility) (a : FileAstId) (name : List ℕ) (v : ℕ) (below : Forest) → trunk_map f (inline name v) ≡ trunk_map Some item → a ≡ file_id (trunk_kind item) h
      → of_node (parent h item below) ≡ of_parent below (hold_no_false h.attrs) (item_of name a (path_attr h.attrs.attrs))
  inline_trunk f h (inline other w) a name v below e g = let e : name ≡ other = cc in rw (e, g) refl
  inline_trunk f h extern_block a name v below e g = absurd (cc)

  -- another item adds nothing
  other_leaf : (h : Head) (item : Leaf RawVisibility) → is_mod_leaf item ≡ false → of_node (leaf h item) ≡ s
  other_leaf h (outline name v) e = absurd (cc)
  other_leaf h (plain k n v) e = refl
  other_leaf h _ e = refl

  other_trunk : (h : Head) (item : Trunk RawVisibility) (below : Forest) → is_mod_trunk item ≡ false → of_node (parent h item below) ≡ s
  other_trunk h (inline name v) below e = absurd (cc)
  other_trunk h extern_block below e = refl

  module _ (u : Unfolding) (i : ℕ) where
    abbrev pub Adds : FoundModules → Type 0
    Adds t = t ≡ id_modules choice files enter id p u s i

    pub other_adds : (x : Lent) → IsLent u i x → is_mod x ≡ false → Adds s
    other_adds (lent_leaf a l) q e =
        sym (leaf_of_id u s of_node i a l q ∙ other_leaf q.head q.item (sym (same_leaf Some q.item) ∙ ap is_mod_leaf (sym q.visible) ∙ same_leaf (vis_at u.forest) l ∙ e))
    other_adds (lent_parent a t is) q e =
        sym (parent_of_id u s of_node i a t is q ∙ other_trunk q.head q.item q.below (sym (same_trunk Some q.item) ∙ ap is_mod_trunk (sym q.visible) ∙ same_trunk (vis_at u.forest) t ∙ e))

    module _ (a : FileAstId) (name : List ℕ) (v : ℕ) where
      leaf_adds : (q : IsLeaf u i a (outline name v)) (path : Option (List ℕ)) → path ≡ mod_path_at u i → Adds (of_leaf (enabled_at u i) (item_of name a path))
      leaf_adds q path f =
          let on : enabled_at u i ≡ hold_no_false q.head.attrs = leaf_of_id u false is_enabled i a (outline name v) q in
          let at : path ≡ path_attr q.head.attrs.attrs = f ∙ leaf_of_id u None (λ n. path_attr (node_head n).attrs.attrs) i a (outline name v) q in
          ap (λ (b : Bool). of_leaf b (item_of name a path)) on ∙ ap (λ (o : Option (List ℕ)). of_leaf (hold_no_false q.head.attrs) (item_of name a o)) at
          ∙ sym (leaf_of_id u s of_node i a (outline name v) q ∙ outline_leaf (vis_at u.forest) q.head q.item a name v q.visible q.ast_id)

      parent_adds : (is : List ℕ) (q : IsParent u i a (inline name v) is) (path : Option (List ℕ)) → path ≡ mod_path_at u i → Adds (of_parent q.below (enabled_at u i) (item_of name a path))
      parent_adds is q path f =
          let on : enabled_at u i ≡ hold_no_false q.head.attrs = parent_of_id u false is_enabled i a (inline name v) is q in
          let at : path ≡ path_attr q.head.attrs.attrs = f ∙ parent_of_id u None (λ n. path_attr (node_head n).attrs.attrs) i a (inline name v) is q in
          ap (λ (b : Bool). of_parent q.below b (item_of name a path)) on ∙ ap (λ (o : Option (List ℕ)). of_parent q.below (hold_no_false q.head.attrs) (item_of name a o)) at
          ∙ sym (parent_of_id u s of_node i a (inline name v) is q ∙ inline_trunk (vis_at u.forest) q.head q.item a name v q.below q.visible q.ast_id)

      -- so does a `mod` that is not followed
      pub disabled_adds : (k : ModKind) → IsModule u i a name v k → false ≡ is_followed choice (enabled_at u i) → Adds s
      disabled_adds (Inline is) q e =
          ap (λ (b : Bool). with_found id (if b then found_module name (inline_origin a) p.file (forest_found choice files enter (inside_inline p (item_of name a (mod_path_at u i))) q.below) nothing_found else nothing_found) s) e
          ∙ parent_adds is.items q (mod_path_at u i) refl
      disabled_adds Outline q e =
          let m = item_of name a (mod_path_at u i) in
          ap (λ (b : Bool). with_found id (if b then outline_module enter p m (resolution files p m) nothing_found else nothing_found) s) e ∙ leaf_adds q (mod_path_at u i) refl

      -- one that is adds what it means, or itself and what its items add
      pub outline_adds : IsModule u i a name v Outline → (path : Option (List ℕ)) → true ≡ is_followed choice (enabled_at u i) → path ≡ mod_path_at u i
          → Adds (let m = item_of name a path in with_found id (outline_module enter p m (resolution files p m) nothing_found) s)
      outline_adds q path e f =
          let m = item_of name a path in
          ap (λ (b : Bool). with_found id (if b then outline_module enter p m (resolution files p m) nothing_found else nothing_found) s) e ∙ leaf_adds q path f

      pub inline_grows : (is : List ℕ) → IsParent u i a (inline name v) is → (path : Option (List ℕ)) → true ≡ is_followed choice (enabled_at u i) → path ≡ mod_path_at u i
          → length (with_module (module_in id name (inline_origin a) p.file) s).modules ≤ length (id_modules choice files enter id p u s i).modules
      inline_grows is found path e f =
          let inside = forest_found choice files enter (inside_inline p (item_of name a path)) found.below in
          let with_it = with_module (module_in id name (inline_origin a) p.file) s in
          subst (λ (all : FoundModules). length with_it.modules ≤ length all.modules)
          (ap (λ (b : Bool). with_found id (if b then found_module name (inline_origin a) p.file inside nothing_found else nothing_found) s) e ∙ parent_adds is found path f) (grows (next_id s) inside with_it)

      pub inline_adds : (is : List ℕ) → IsParent u i a (inline name v) is → (path : Option (List ℕ)) → true ≡ is_followed choice (enabled_at u i) → path ≡ mod_path_at u i
          → (j : ModuleId) → j ≡ next_id s → (q : ModulePlace) → q ≡ inside_inline p (item_of name a path) → (t : FoundModules) → t ≡ with_module (module_in id name (inline_origin a) p.file) s
          → Adds (fold (id_modules choice files enter j q u) t is)
      inline_adds is found path e f j d q g t h =
          let inside = inside_inline p (item_of name a path) in
          let with_it = with_module (module_in id name (inline_origin a) p.file) s in
          ap (λ w. fold (id_modules choice files enter w q u) t is) d ∙ ap (λ w. fold (id_modules choice files enter (next_id s) w u) t is) g ∙ ap (λ w. fold (id_modules choice files enter (next_id s) inside u) w is) h
          ∙ fold_stands choice files enter splits (next_id s) inside u is found.below with_it found.children
          ∙ ap (λ (b : Bool). with_found id (if b then found_module name (inline_origin a) p.file (forest_found choice files enter inside found.below) nothing_found else nothing_found) s) e
          ∙ parent_adds is found path f

pub ruleset mod_adds = (other_adds, disabled_adds, outline_adds, parent_counts, children_contained)

-- ---- files

-- what no cfg disables is followed
pub followed : (choice : ModuleChoice) → is_followed choice true ≡ true
followed Enabled = refl
followed All = refl

-- a file's items are walked with one level less
entered_less : (choice : ModuleChoice) (files : ModuleFiles) (depth : ℕ) (p : ModulePlace) (m : ModItem) (file : ℕ) (dir : Dir) → depth ≢ 0 → enter_files choice files depth p m file dir nothing_found
    ≡ (if is_followed choice (is_file_enabled (files.tree file)) then found_module m.name (file_origin m.id) file (forest_found choice files (enter_files choice files (depth - 1)) (inside_file p file dir) (files.tree file).forest) nothing_found else nothing_found)
entered_less choice files zero p m file dir e = absurd (e refl)
entered_less choice files (suc depth) p m file dir e = let less : suc depth - 1 ≡ depth = omega arith in rw less refl

module _ (choice : ModuleChoice) (files : ModuleFiles) (depth : ℕ) (id : ModuleId) (p : ModulePlace) (m : ModItem) (file : ℕ) (dir : Dir) (s : FoundModules) (some : depth ≢ 0) where
  abbrev pub Enters : FoundModules → Type 0
  Enters t = t ≡ with_found id (enter_files choice files depth p m file dir nothing_found) s

  abbrev of_tree : Unfolding → Bool → FoundModules
  of_tree u on = with_found id (if on then found_module m.name (file_origin m.id) file (forest_found choice files (enter_files choice files (depth - 1)) (inside_file p file dir) u.forest) nothing_found else nothing_found) s

  tree_enters : (u : Unfolding) (on : Bool) → u ≡ files.tree file → on ≡ is_followed choice (is_file_enabled u) → Enters (of_tree u on)
  tree_enters u on e f =
      ap (of_tree u) (f ∙ ap (λ (w : Unfolding). is_followed choice (is_file_enabled w)) e) ∙ ap (λ (w : Unfolding). of_tree w (is_followed choice (is_file_enabled (files.tree file)))) e
      ∙ ap (λ (f : Findings). with_found id f s) (sym (entered_less choice files depth p m file dir some))

  -- a file without a tree is a module without items
  pub missing_enters : nothing ≡ files.tree file → Enters (with_module (module_in id m.name (file_origin m.id) file) s)
  missing_enters e = tree_enters nothing true e (sym (followed choice))

  -- one that is not followed is none
  pub disabled_enters : (u : Unfolding) → u ≡ files.tree file → false ≡ is_followed choice (is_file_enabled u) → Enters s
  disabled_enters u e f = tree_enters u false e f

  -- and else its items are walked
  pub file_grows : (u : Unfolding) → u ≡ files.tree file → true ≡ is_followed choice (is_file_enabled u)
      → length (with_module (module_in id m.name (file_origin m.id) file) s).modules ≤ length (with_found id (enter_files choice files depth p m file dir nothing_found) s).modules
  file_grows u e f =
      let with_it = with_module (module_in id m.name (file_origin m.id) file) s in
      subst (λ (all : FoundModules). length with_it.modules ≤ length all.modules) (tree_enters u true e f) (grows (next_id s) (forest_found choice files (enter_files choice files (depth - 1)) (inside_file p file dir) u.forest) with_it)

  pub items_enter : (u : Unfolding) → u ≡ files.tree file → true ≡ is_followed choice (is_file_enabled u) → (is : List ℕ) → StandFor u is u.forest → (j : ModuleId) → j ≡ next_id s
      → (q : ModulePlace) → q ≡ inside_file p file dir → (t : FoundModules) → t ≡ with_module (module_in id m.name (file_origin m.id) file) s
      → Enters (fold (id_modules choice files (enter_files choice files (depth - 1)) j q u) t is)
  items_enter u e f is g j d q h t k =
      let less = enter_files choice files (depth - 1) in
      let inside = inside_file p file dir in
      let with_it = with_module (module_in id m.name (file_origin m.id) file) s in
      ap (λ w. fold (id_modules choice files less w q u) t is) d ∙ ap (λ w. fold (id_modules choice files less (next_id s) w u) t is) h ∙ ap (λ w. fold (id_modules choice files less (next_id s) inside u) w is) k
      ∙ fold_stands choice files less (entered_splits choice files (depth - 1)) (next_id s) inside u is u.forest with_it g
      ∙ tree_enters u true e f

pub ruleset file_enters = (missing_enters, disabled_enters, file_falls, ids_contained)

-- ---- the root file

module _ (choice : ModuleChoice) (files : ModuleFiles) (root : ℕ) (path : List ℕ) where
  abbrev pub IsCrate : FoundModules → Type 0
  IsCrate t = t ≡ crate_modules choice files root path

  tree_in_root : (u : Unfolding) (on : Bool) → u ≡ files.tree root → on ≡ is_followed choice (is_file_enabled u)
      → IsCrate (with_found root_id (if on then forest_found choice files (enter_files choice files depth_limit) (root_place root path) u.forest else nothing_found) (root_found root))
  tree_in_root u on e f =
      let inside = forest_found choice files (enter_files choice files depth_limit) (root_place root path) in
      ap (λ (b : Bool). with_found root_id (if b then inside u.forest else nothing_found) (root_found root)) (f ∙ ap (λ (w : Unfolding). is_followed choice (is_file_enabled w)) e)
      ∙ ap (λ (w : Unfolding). with_found root_id (if is_followed choice (is_file_enabled (files.tree root)) then inside w.forest else nothing_found) (root_found root)) e

  pub missing_root : nothing ≡ files.tree root → IsCrate (root_found root)
  missing_root e = tree_in_root nothing true e (sym (followed choice))

  pub disabled_root : (u : Unfolding) → u ≡ files.tree root → false ≡ is_followed choice (is_file_enabled u) → IsCrate (root_found root)
  disabled_root u e f = tree_in_root u false e f

  pub items_in_root : (u : Unfolding) → u ≡ files.tree root → true ≡ is_followed choice (is_file_enabled u) → (is : List ℕ) → StandFor u is u.forest → (j : ModuleId) → j ≡ root_id
      → (q : ModulePlace) → q ≡ root_place root path → (t : FoundModules) → t ≡ root_found root → IsCrate (fold (id_modules choice files (enter_files choice files depth_limit) j q u) t is)
  items_in_root u e f is g j d q h t k =
      let enter = enter_files choice files depth_limit in
      let inside = root_place root path in
      ap (λ w. fold (id_modules choice files enter w q u) t is) d ∙ ap (λ w. fold (id_modules choice files enter root_id w u) t is) h ∙ ap (λ w. fold (id_modules choice files enter root_id inside u) w is) k
      ∙ fold_stands choice files enter (entered_splits choice files depth_limit) root_id inside u is u.forest (root_found root) g
      ∙ tree_in_root u true e f
