-- Nothing is known of a path that is wanted.
use Rattle.std.proofs.Common.{◌≡◌, ◌==◌, ℕ, zero, suc, Bool, true, false, List, [], ◌∷◌, ◌++◌, All, Option, Some, None, refl, ap, sym, subst, ◌∙◌, append-nil, append_assoc, if◌then◌else◌}
use Rattle.std.specs.List.{list_any}
use Rattle.std.proofs.lemmas.List.Concat.{flat_map-cons}
use Rattle.std.proofs.lemmas.List.Elements.{All-append, All-cons, All-nil}
use Rattle.item_tree.specs.Node.{outline, inline, extern_block, Node, leaf, parent, Forest, empty, more}
use Rattle.tree_walk.specs.Rows.{hold_no_false, is_file_enabled}
use Rattle.module_tree.specs.declared.{data.ModuleChoice.ModuleChoice, data.ModuleId.ModuleId, data.UnresolvedReason.TheVariants.Circle, known.KnownPath.KnownPath}
use Rattle.module_tree.specs.Laws.{WantsUnknown}
use Rattle.module_tree.specs.Modules.{ModuleFiles, Dir, ModItem, CandidateFile, fails, finds, ModulePlace, Findings, nothing_found, found_module, unresolved_mod, wanted_paths, FoundModules, Enter, candidates, mod_item, unknown_path, unknown_paths, files_found, resolution_by, outline_module, is_followed, inside_inline, inside_file, next_id, module_in, with_module, with_unresolved, with_wanted, with_found, node_found, forest_found, enter_files, depth_limit, root_place, root_id, root_found, crate_found}

-- all paths that are wanted, in order
abbrev pub all_wanted : Findings → List (List ℕ)
all_wanted nothing_found = []
all_wanted (found_module name origin file inside behind) = all_wanted inside ++ all_wanted behind
all_wanted (unresolved_mod m reason paths behind) = all_wanted behind
all_wanted (wanted_paths paths behind) = paths ++ all_wanted behind

-- the list has them behind those before
pub wanted_are : (id : ModuleId) (f : Findings) (s : FoundModules) → (with_found id f s).wanted ≡ s.wanted ++ all_wanted f
wanted_are id nothing_found s = sym (append-nil s.wanted)
wanted_are id (found_module name origin file inside behind) s =
    let t = with_module (module_in id name origin file) s in
    wanted_are id behind (with_found (next_id s) inside t) ∙ ap (λ w. w ++ all_wanted behind) (wanted_are (next_id s) inside t) ∙ append_assoc s.wanted (all_wanted inside) (all_wanted behind)
wanted_are id (unresolved_mod m reason paths behind) s = wanted_are id behind (with_unresolved (record { parent = id; name = m.name; id = m.id; reason = reason; paths = paths }) s)
wanted_are id (wanted_paths paths behind) s = wanted_are id behind (with_wanted paths s) ∙ append_assoc s.wanted paths (all_wanted behind)

module _ (choice : ModuleChoice) (files : ModuleFiles) where
  abbrev Unknown : List ℕ → Type 0
  Unknown path = files.known path ≡ None

  abbrev Wants : Findings → Type 0
  Wants f = All Unknown (all_wanted f)

  -- what is found of a file wants unknown paths alone
  abbrev Keeps : Enter → Type 0
  Keeps enter = (p : ModulePlace) (m : ModItem) (file : ℕ) (dir : Dir) (behind : Findings) → Wants behind → Wants (enter p m file dir behind)

  if_keeps : (on : Bool) (f g : Findings) → Wants f → Wants g → Wants (if on then f else g)
  if_keeps true f g v w = v
  if_keeps false f g v w = w

  one_unknown : (path : List ℕ) (o : Option KnownPath) → files.known path ≡ o → All Unknown (unknown_path o path)
  one_unknown path None e = All-cons Unknown path [] e (All-nil Unknown)
  one_unknown path (Some k) e = All-nil Unknown

  all_unknown : (cs : List CandidateFile) → All Unknown (unknown_paths files cs)
  all_unknown [] = All-nil Unknown
  all_unknown (c ∷ cs) =
      subst (All Unknown) (sym (flat_map-cons (λ c. unknown_path (files.known c.path) c.path) c cs))
      (All-append Unknown (unknown_path (files.known c.path) c.path) (unknown_paths files cs) (one_unknown c.path (files.known c.path) refl) (all_unknown cs))

  module _ (enter : Enter) (keeps : Keeps enter) where
    one_keeps : (p : ModulePlace) (m : ModItem) (one : ℕ × Dir) (is_around : Bool) (behind : Findings) → Wants behind → Wants (outline_module enter p m (if is_around then fails Circle else finds one.0 one.1) behind)
    one_keeps p m one true behind w = w
    one_keeps p m one false behind w = keeps p m one.0 one.1 behind w

    outlined_keeps : (p : ModulePlace) (m : ModItem) (unknown : List (List ℕ)) (found : List (ℕ × Dir)) (behind : Findings) → All Unknown unknown → Wants behind → Wants (outline_module enter p m (resolution_by p.files unknown found) behind)
    outlined_keeps p m (path ∷ paths) found behind u w = All-append Unknown (path ∷ paths) (all_wanted behind) u w
    outlined_keeps p m [] [] behind u w = w
    outlined_keeps p m [] (one ∷ []) behind u w = one_keeps p m one (list_any (λ file. file == one.0) p.files) behind w
    outlined_keeps p m [] (one ∷ other ∷ found) behind u w = w

    mutual
      node_keeps : (p : ModulePlace) (n : Node) (behind : Findings) → Wants behind → Wants (node_found choice files enter p n behind)
      node_keeps p (leaf h (outline name v)) behind w =
          let m = mod_item (leaf h (outline name v)) name h in
          let cs = candidates p.dir m in
          if_keeps (is_followed choice (hold_no_false h.attrs)) _ behind (outlined_keeps p m (unknown_paths files cs) (files_found files cs) behind (all_unknown cs) w) w
      node_keeps p (leaf h _) behind w = w
      node_keeps p (parent h (inline name v) f) behind w =
          let q = inside_inline p (mod_item (parent h (inline name v) f) name h) in
          if_keeps (is_followed choice (hold_no_false h.attrs)) _ behind (All-append Unknown (all_wanted (forest_found choice files enter q f)) (all_wanted behind) (forest_keeps q f) w) w
      node_keeps p (parent h extern_block f) behind w = w

      forest_keeps : (p : ModulePlace) (f : Forest) → Wants (forest_found choice files enter p f)
      forest_keeps p empty = All-nil Unknown
      forest_keeps p (more n f) = node_keeps p n (forest_found choice files enter p f) (forest_keeps p f)

  entered_keeps : (depth : ℕ) → Keeps (enter_files choice files depth)
  entered_keeps zero p m file dir behind w = w
  entered_keeps (suc depth) p m file dir behind w =
      let inside = forest_found choice files (enter_files choice files depth) (inside_file p file dir) (files.tree file).forest in
      if_keeps (is_followed choice (is_file_enabled (files.tree file))) _ behind
      (All-append Unknown (all_wanted inside) (all_wanted behind) (forest_keeps (enter_files choice files depth) (entered_keeps depth) (inside_file p file dir) (files.tree file).forest) w) w

  crate_keeps : (root : ℕ) (path : List ℕ) → Wants (crate_found choice files root path)
  crate_keeps root path =
      if_keeps (is_followed choice (is_file_enabled (files.tree root))) _ nothing_found
      (forest_keeps (enter_files choice files depth_limit) (entered_keeps depth_limit) (root_place root path) (files.tree root).forest) (All-nil Unknown)

pub wants_unknown : WantsUnknown
wants_unknown choice files root path =
    subst (All (Unknown choice files)) (sym (wanted_are root_id (crate_found choice files root path) (root_found root))) (crate_keeps choice files root path)
