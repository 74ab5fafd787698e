-- When more is known, what was found stays found.
use Rattle.std.proofs.Common.{◌≡◌, ◌==◌, ℕ, zero, suc, Bool, true, false, List, [], ◌∷◌, ◌++◌, All, Option, Some, None, refl, ap, sym, subst, ◌∙◌, if◌then◌else◌}
use Rattle.std.specs.List.{list_any}
use Rattle.std.proofs.lemmas.List.Concat.{flat_map-cons}
use Rattle.std.proofs.lemmas.List.Elements.{All-append, All-cons, All-head, All-nil}
use Rattle.item_tree.specs.Node.{outline, inline, extern_block, Node, leaf, parent, Forest, empty, more, Unfolding}
use Rattle.tree_walk.specs.Rows.{hold_no_false, is_file_enabled}
use Rattle.module_tree.specs.declared.{data.ModuleChoice.ModuleChoice, data.UnresolvedReason.TheVariants.NoFile, data.UnresolvedReason.TheVariants.TwoFiles, data.UnresolvedReason.TheVariants.Circle, data.UnresolvedReason.TheVariants.TooDeep}
use Rattle.module_tree.specs.declared.data.ModuleOrigin.TheVariants.{File as file_origin, Inline as inline_origin}
use Rattle.module_tree.specs.declared.{known.KnownPath.KnownPath, known.KnownPath.TheVariants.File, known.KnownPath.TheVariants.Missing}
use Rattle.module_tree.specs.Laws.{GrowsTo, same_nothing, same_module, same_unresolved, now_nothing, now_module, now_unresolved, still_wanted, StaysKnown, FoundStays, EndsOnceKnown}
use Rattle.module_tree.specs.Modules.{ModuleFiles, Dir, ModItem, CandidateFile, Resolution, wants, fails, finds, ModulePlace, Findings, nothing_found, found_module, unresolved_mod, wanted_paths, Enter, candidates, mod_item, unknown_path, unknown_paths, file_found, files_found, resolution_by, resolution_of, outline_module, is_followed, inside_inline, inside_file, node_found, forest_found, enter_files, depth_limit, root_place, root_id, root_found, crate_found}
use Rattle.module_tree.proofs.Wanting.{all_wanted, wanted_are}

none_left : {A : Type 0} (xs ys : List A) → xs ++ ys ≡ [] → xs ≡ []
none_left [] ys e = refl
none_left (x ∷ xs) ys e = absurd (cc)

none_right : {A : Type 0} (xs ys : List A) → xs ++ ys ≡ [] → ys ≡ []
none_right [] ys e = e
none_right (x ∷ xs) ys e = absurd (cc)

if_grows : (on : Bool) (f f' g g' : Findings) → GrowsTo f f' → GrowsTo g g' → GrowsTo (if on then f else g) (if on then f' else g')
if_grows true f f' g g' p q = p
if_grows false f f' g g' p q = q

-- where nothing was wanted nothing changes
unchanged : (f f' : Findings) → GrowsTo f f' → all_wanted f ≡ [] → f' ≡ f
unchanged _ _ same_nothing e = refl
unchanged _ _ (same_module name origin file {inside} {inside'} {behind} {behind'} g h) e =
    let left = unchanged inside inside' g (none_left (all_wanted inside) (all_wanted behind) e) in
    let right = unchanged behind behind' h (none_right (all_wanted inside) (all_wanted behind) e) in
    ap (λ f. found_module name origin file f behind') left ∙ ap (found_module name origin file inside) right
unchanged _ _ (same_unresolved m reason paths {behind} {behind'} g) e = ap (unresolved_mod m reason paths) (unchanged behind behind' g e)
unchanged _ _ _ e = absurd (cc)

module _ (choice : ModuleChoice) (less fuller : ModuleFiles) (root : ℕ) (stays : StaysKnown less fuller root) where
  -- ---- what a `mod` means

  same_path : (path : List ℕ) (o : Option KnownPath) → less.known path ≡ o → unknown_path o path ≡ [] → fuller.known path ≡ o
  same_path path None e f = absurd (cc)
  same_path path (Some k) e f = stays.paths path k e

  same_paths : (cs : List CandidateFile) → unknown_paths less cs ≡ [] → (unknown_paths fuller cs ≡ []) × (files_found fuller cs ≡ files_found less cs)
  same_paths [] e = (refl, refl)
  same_paths (c ∷ cs) e =
      let split : unknown_path (less.known c.path) c.path ++ unknown_paths less cs ≡ [] = sym (flat_map-cons (λ c. unknown_path (less.known c.path) c.path) c cs) ∙ e in
      let here = none_left (unknown_path (less.known c.path) c.path) (unknown_paths less cs) split in
      let same : fuller.known c.path ≡ less.known c.path = same_path c.path (less.known c.path) refl here in
      let rest = same_paths cs (none_right (unknown_path (less.known c.path) c.path) (unknown_paths less cs) split) in (
        flat_map-cons (λ c. unknown_path (fuller.known c.path) c.path) c cs ∙ ap (λ o. unknown_path o c.path ++ unknown_paths fuller cs) same ∙ ap (λ xs. xs ++ unknown_paths fuller cs) here ∙ rest.0,
        flat_map-cons (λ c. file_found (fuller.known c.path) c.dir) c cs ∙ ap (λ o. file_found o c.dir ++ files_found fuller cs) same ∙ ap (λ xs. file_found (less.known c.path) c.dir ++ xs) rest.1
            ∙ sym (flat_map-cons (λ c. file_found (less.known c.path) c.dir) c cs),
      )

  abbrev HasTree : ℕ × Dir → Type 0
  HasTree found = fuller.tree found.0 ≡ less.tree found.0

  same_tree : (path : List ℕ) (dir : Dir) (o : Option KnownPath) → less.known path ≡ o → All HasTree (file_found o dir)
  same_tree path dir None e = All-nil HasTree
  same_tree path dir (Some Missing) e = All-nil HasTree
  same_tree path dir (Some (File file)) e = All-cons HasTree (file, dir) [] (stays.trees path file e) (All-nil HasTree)

  same_trees : (cs : List CandidateFile) → All HasTree (files_found less cs)
  same_trees [] = All-nil HasTree
  same_trees (c ∷ cs) =
      subst (All HasTree) (sym (flat_map-cons (λ c. file_found (less.known c.path) c.dir) c cs))
      (All-append HasTree (file_found (less.known c.path) c.dir) (files_found less cs) (same_tree c.path c.dir (less.known c.path) refl) (same_trees cs))

  -- ---- what is found of a file

  -- what was found stays found where its tree does
  abbrev Agree : Enter → Enter → Type 0
  Agree enter enter' = (p : ModulePlace) (m : ModItem) (file : ℕ) (dir : Dir) (f f' : Findings) → fuller.tree file ≡ less.tree file → GrowsTo f f' → GrowsTo (enter p m file dir f) (enter' p m file dir f')

  -- and it may be found where a path was wanted
  abbrev Appears : Enter → Type 0
  Appears enter' = (path : List ℕ) (paths : List (List ℕ)) (p : ModulePlace) (m : ModItem) (file : ℕ) (dir : Dir) (f f' : Findings) → GrowsTo f f' → GrowsTo (wanted_paths (path ∷ paths) f) (enter' p m file dir f')

  module _ (enter enter' : Enter) (agree : Agree enter enter') (appears : Appears enter') (p : ModulePlace) (m : ModItem) (f f' : Findings) (g : GrowsTo f f') where
    wanted_grows : (path : List ℕ) (paths : List (List ℕ)) (r : Resolution) → GrowsTo (wanted_paths (path ∷ paths) f) (outline_module enter' p m r f')
    wanted_grows path paths (wants others) = still_wanted path paths others g
    wanted_grows path paths (fails reason) = now_unresolved path paths m reason _ g
    wanted_grows path paths (finds file dir) = appears path paths p m file dir f f' g

    one_grows : (one : ℕ × Dir) (is_around : Bool) → HasTree one
        → GrowsTo (outline_module enter p m (if is_around then fails Circle else finds one.0 one.1) f) (outline_module enter' p m (if is_around then fails Circle else finds one.0 one.1) f')
    one_grows one true e = same_unresolved m Circle _ g
    one_grows one false e = agree p m one.0 one.1 f f' e g

    known_grows : (found : List (ℕ × Dir)) → All HasTree found → GrowsTo (outline_module enter p m (resolution_by p.files [] found) f) (outline_module enter' p m (resolution_by p.files [] found) f')
    known_grows [] all = same_unresolved m NoFile _ g
    known_grows (one ∷ []) all = one_grows one (list_any (λ file. file == one.0) p.files) (All-head HasTree one [] all)
    known_grows (one ∷ other ∷ found) all = same_unresolved m TwoFiles _ g

    outlined_grows : (cs : List CandidateFile) (unknown : List (List ℕ)) → unknown_paths less cs ≡ unknown
        → GrowsTo (outline_module enter p m (resolution_by p.files unknown (files_found less cs)) f) (outline_module enter' p m (resolution_of fuller p.files cs) f')
    outlined_grows cs (path ∷ paths) e = wanted_grows path paths (resolution_of fuller p.files cs)
    outlined_grows cs [] e =
        let same = same_paths cs e in
        let before = outline_module enter p m (resolution_by p.files [] (files_found less cs)) f in
        subst (λ (u : List (List ℕ)). GrowsTo before (outline_module enter' p m (resolution_by p.files u (files_found fuller cs)) f')) (sym same.0)
        (subst (λ (found : List (ℕ × Dir)). GrowsTo before (outline_module enter' p m (resolution_by p.files [] found) f')) (sym same.1) (known_grows (files_found less cs) (same_trees cs)))

  module _ (enter enter' : Enter) (agree : Agree enter enter') (appears : Appears enter') where
    mutual
      node_grows : (p : ModulePlace) (n : Node) (f f' : Findings) → GrowsTo f f' → GrowsTo (node_found choice less enter p n f) (node_found choice fuller enter' p n f')
      node_grows p (leaf h (outline name v)) f f' g =
          let m = mod_item (leaf h (outline name v)) name h in
          if_grows (is_followed choice (hold_no_false h.attrs)) _ _ f f' (outlined_grows enter enter' agree appears p m f f' g (candidates p.dir m) (unknown_paths less (candidates p.dir m)) refl) g
      node_grows p (leaf h _) f f' g = g
      node_grows p (parent h (inline name v) is) f f' g =
          let m = mod_item (parent h (inline name v) is) name h in
          if_grows (is_followed choice (hold_no_false h.attrs)) _ _ f f' (same_module name (inline_origin m.id) p.file (forest_grows (inside_inline p m) is) g) g
      node_grows p (parent h extern_block is) f f' g = g

      forest_grows : (p : ModulePlace) (is : Forest) → GrowsTo (forest_found choice less enter p is) (forest_found choice fuller enter' p is)
      forest_grows p empty = same_nothing
      forest_grows p (more n is) = node_grows p n (forest_found choice less enter p is) (forest_found choice fuller enter' p is) (forest_grows p is)

  if_appears : (on : Bool) (path : List ℕ) (paths : List (List ℕ)) (m : ModItem) (file : ℕ) (inside f f' : Findings) → GrowsTo f f'
      → GrowsTo (wanted_paths (path ∷ paths) f) (if on then found_module m.name (file_origin m.id) file inside f' else f')
  if_appears true path paths m file inside f f' g = now_module path paths m.name (file_origin m.id) file inside g
  if_appears false path paths m file inside f f' g = now_nothing path paths g

  entered_appears : (depth : ℕ) → Appears (enter_files choice fuller depth)
  entered_appears zero path paths p m file dir f f' g = now_unresolved path paths m TooDeep _ g
  entered_appears (suc depth) path paths p m file dir f f' g = if_appears (is_followed choice (is_file_enabled (fuller.tree file))) path paths m file _ f f' g

  entered_agrees : (depth : ℕ) → Agree (enter_files choice less depth) (enter_files choice fuller depth)
  entered_agrees zero p m file dir f f' e g = same_unresolved m TooDeep _ g
  entered_agrees (suc depth) p m file dir f f' e g =
      let q = inside_file p file dir in
      subst (λ (u : Unfolding). GrowsTo (enter_files choice less (suc depth) p m file dir f)
      (if is_followed choice (is_file_enabled u) then found_module m.name (file_origin m.id) file (forest_found choice fuller (enter_files choice fuller depth) q u.forest) f' else f')) (sym e)
      (if_grows (is_followed choice (is_file_enabled (less.tree file))) _ _ f f'
      (same_module m.name (file_origin m.id) file (forest_grows (enter_files choice less depth) (enter_files choice fuller depth) (entered_agrees depth) (entered_appears depth) q (less.tree file).forest) g) g)

  pub crate_grows : (path : List ℕ) → GrowsTo (crate_found choice less root path) (crate_found choice fuller root path)
  crate_grows path =
      let q = root_place root path in
      subst (λ (u : Unfolding). GrowsTo (crate_found choice less root path) (if is_followed choice (is_file_enabled u) then forest_found choice fuller (enter_files choice fuller depth_limit) q u.forest else nothing_found)) (sym stays.root_tree)
      (if_grows (is_followed choice (is_file_enabled (less.tree root))) _ _ nothing_found nothing_found
      (forest_grows (enter_files choice less depth_limit) (enter_files choice fuller depth_limit) (entered_agrees depth_limit) (entered_appears depth_limit) q (less.tree root).forest) same_nothing)

pub found_stays : FoundStays
found_stays choice less fuller root path stays = crate_grows choice less fuller root stays path

pub ends_once_known : EndsOnceKnown
ends_once_known choice less fuller root path stays e =
    unchanged (crate_found choice less root path) (crate_found choice fuller root path) (crate_grows choice less fuller root stays path)
    (sym (wanted_are root_id (crate_found choice less root path) (root_found root)) ∙ e)
