-- The modules of a crate: from the tree of its root file on, each `mod` that is followed, in the order in which they are written.
use Rattle.std.specs.Prelude.{ℕ, zero, suc, ◌^◌, ◌==◌, Bool, true, List, [], ◌∷◌, ◌++◌, length, map, filter, flat_map, codes, Option, Some, None, option_map, if◌then◌else◌}
use Rattle.std.specs.List.{filter_map, list_any}
use Rattle.hir_input.specs.{Attr.string_with_span_of, declared.attr.Attr.Attr, declared.ids.FileAstId.FileAstId}
use Rattle.item_tree.specs.Node.{outline, inline, Head, Node, leaf, parent, Forest, empty, more, node_ast, Unfolding}
use Rattle.item_tree_attrs.specs.{Collected.first, Key.has_key}
use Rattle.tree_walk.specs.Rows.{hold_no_false, is_file_enabled}
use Rattle.module_tree.specs.declared.data.{ModuleChoice.ModuleChoice, ModuleData.ModuleData, ModuleId.ModuleId, ModuleOrigin.ModuleOrigin, UnresolvedReason.UnresolvedReason}
use Rattle.module_tree.specs.declared.data.ModuleChoice.TheVariants.{Enabled, All}
use Rattle.module_tree.specs.declared.data.ModuleOrigin.TheVariants.{CrateRoot, File as file_origin, Inline as inline_origin}
use Rattle.module_tree.specs.declared.data.UnresolvedReason.TheVariants.{NoFile, TwoFiles, Circle, TooDeep}
use Rattle.module_tree.specs.declared.known.KnownPath.{KnownPath}
use Rattle.module_tree.specs.declared.known.KnownPath.TheVariants.{File, Missing}
use Rattle.module_tree.specs.Paths.{all_but_last, names_from, folder_text, path_text}

-- what is known: of a path a file by its number or that there is none, and of each file its tree
pub record ModuleFiles : Type 0 where
  pub known : List ℕ → Option KnownPath
  pub tree : ℕ → Unfolding

-- ---- which file a `mod` means

-- the folder in which the names of modules are looked for, and the one from which a `#[path]` leads
pub record Dir : Type 0 where
  pub names : List (List ℕ)
  pub paths : List (List ℕ)

-- both are one
abbrev pub dir_at : List (List ℕ) → Dir
dir_at folder = record { names = folder; paths = folder }

-- an item `mod`: its name, its id in its file, and the string of the first `#[path]` that has one
pub record ModItem : Type 0 where
  pub name : List ℕ
  pub id : FileAstId
  pub path : Option (List ℕ)

abbrev pub path_attr : List Attr → Option (List ℕ)
path_attr attrs = option_map (λ found. found.0) (first (filter_map string_with_span_of (filter (has_key (codes "path")) attrs)))

abbrev pub mod_item : Node → List ℕ → Head → ModItem
mod_item n name h = record { name = name; id = node_ast n; path = path_attr h.attrs.attrs }

-- where the modules in an inline one are looked for: a `#[path]` of it is a folder
abbrev pub inline_dir_by : Dir → List ℕ → Option (List ℕ) → Dir
inline_dir_by d name None = dir_at (d.names ++ name ∷ [])
inline_dir_by d name (Some path) = dir_at (names_from d.paths path)

abbrev pub inline_dir : Dir → ModItem → Dir
inline_dir d m = inline_dir_by d m.name m.path

-- a file that a `mod` may mean, and where the modules in it are looked for
pub record CandidateFile : Type 0 where
  pub path : List ℕ
  pub dir : Dir

-- `a.rs`, which looks in the folder `a`
abbrev pub named_file : Dir → List ℕ → CandidateFile
named_file d name = record { path = folder_text d.names ++ name ++ codes ".rs"; dir = record { names = d.names ++ name ∷ []; paths = d.names } }

-- `a/mod.rs`, which looks beside itself
abbrev pub mod_rs : Dir → List ℕ → CandidateFile
mod_rs d name = record { path = folder_text d.names ++ name ++ codes "/mod.rs"; dir = dir_at (d.names ++ name ∷ []) }

-- and so does the file that a path leads to
abbrev pub file_at : List (List ℕ) → List ℕ → CandidateFile
file_at folder path = let names = names_from folder path in record { path = path_text names; dir = dir_at (all_but_last names) }

abbrev pub candidates_by : Dir → List ℕ → Option (List ℕ) → List CandidateFile
candidates_by d name None = named_file d name ∷ mod_rs d name ∷ []
candidates_by d name (Some path) = file_at d.paths path ∷ []

abbrev pub candidates : Dir → ModItem → List CandidateFile
candidates d m = candidates_by d m.name m.path

abbrev pub candidate_path : CandidateFile → List ℕ
candidate_path c = c.path

-- ---- what is found

-- what is found where items stand, in the order in which it is written
pub data Findings : Type 0 where
  nothing_found : Findings
  -- a module, by its name, where it comes from and its file: what is found in it, and behind it
  found_module : List ℕ → ModuleOrigin → ℕ → (inside behind : Findings) → Findings
  -- a `mod` without a module: why, and the paths that were looked for
  unresolved_mod : ModItem → UnresolvedReason → List (List ℕ) → (behind : Findings) → Findings
  -- paths of which nothing is known
  wanted_paths : List (List ℕ) → (behind : Findings) → Findings

-- where items stand: in a file, with the files around them, this one too
pub record ModulePlace : Type 0 where
  pub file : ℕ
  pub files : List ℕ
  pub dir : Dir

abbrev pub inside_inline : ModulePlace → ModItem → ModulePlace
inside_inline p m = record { file = p.file; files = p.files; dir = inline_dir p.dir m }

abbrev pub inside_file : ModulePlace → ℕ → Dir → ModulePlace
inside_file p file dir = record { file = file; files = p.files ++ file ∷ []; dir = dir }

-- a `mod` without a module, in front of what is found behind it
abbrev pub no_module : ModulePlace → ModItem → UnresolvedReason → Findings → Findings
no_module p m reason behind = unresolved_mod m reason (map candidate_path (candidates p.dir m)) behind

-- a path, if nothing is known of it
abbrev pub unknown_path : Option KnownPath → List ℕ → List (List ℕ)
unknown_path None path = path ∷ []
unknown_path (Some known) path = []

abbrev pub unknown_paths : ModuleFiles → List CandidateFile → List (List ℕ)
unknown_paths files cs = flat_map (λ c. unknown_path (files.known c.path) c.path) cs

-- a file, if one is known
abbrev pub file_found : Option KnownPath → Dir → List (ℕ × Dir)
file_found None dir = []
file_found (Some Missing) dir = []
file_found (Some (File file)) dir = (file, dir) ∷ []

abbrev pub files_found : ModuleFiles → List CandidateFile → List (ℕ × Dir)
files_found files cs = flat_map (λ c. file_found (files.known c.path) c.dir) cs

-- what a `mod` means: not known before these paths are, no file, or this one
pub data Resolution : Type 0 where
  wants : List (List ℕ) → Resolution
  fails : UnresolvedReason → Resolution
  finds : ℕ → Dir → Resolution

-- once all candidates are known: the one that is a file, and none of those around it
abbrev pub resolution_by : List ℕ → List (List ℕ) → List (ℕ × Dir) → Resolution
resolution_by around (path ∷ paths) found = wants (path ∷ paths)
resolution_by around [] [] = fails NoFile
resolution_by around [] (one ∷ []) = if list_any (λ file. file == one.0) around then fails Circle else finds one.0 one.1
resolution_by around [] (one ∷ other ∷ found) = fails TwoFiles

abbrev pub resolution_of : ModuleFiles → List ℕ → List CandidateFile → Resolution
resolution_of files around cs = resolution_by around (unknown_paths files cs) (files_found files cs)

abbrev pub resolution : ModuleFiles → ModulePlace → ModItem → Resolution
resolution files p m = resolution_of files p.files (candidates p.dir m)

-- what is found of a file that a `mod` means, in front of what is found behind the `mod`
abbrev pub Enter : Type 0
Enter = ModulePlace → ModItem → ℕ → Dir → Findings → Findings

abbrev pub outline_module : Enter → ModulePlace → ModItem → Resolution → Findings → Findings
outline_module enter p m (wants paths) behind = wanted_paths paths behind
outline_module enter p m (fails reason) behind = no_module p m reason behind
outline_module enter p m (finds file dir) behind = enter p m file dir behind

-- whether an item, or a file, is followed, by whether no cfg disables it
abbrev pub is_followed : ModuleChoice → Bool → Bool
is_followed Enabled is_enabled = is_enabled
is_followed All is_enabled = true

-- how deep files may stand in the root file
abbrev pub depth_limit : ℕ
depth_limit = 128

-- the root file looks beside itself
abbrev pub root_place : ℕ → List ℕ → ModulePlace
root_place root path = record { file = root; files = root ∷ []; dir = (file_at [] path).dir }

module _ (choice : ModuleChoice) (files : ModuleFiles) where
  -- what is found in an item, in front of what is found behind it, and in the items of a forest
  abbrev mutual
    pub node_found : Enter → ModulePlace → Node → Findings → Findings
    node_found enter p (leaf h (outline name v)) behind =
        let m = mod_item (leaf h (outline name v)) name h in
        if is_followed choice (hold_no_false h.attrs) then outline_module enter p m (resolution files p m) behind else behind
    node_found enter p (parent h (inline name v) f) behind =
        let m = mod_item (parent h (inline name v) f) name h in
        if is_followed choice (hold_no_false h.attrs) then found_module name (inline_origin m.id) p.file (forest_found enter (inside_inline p m) f) behind else behind
    node_found enter p _ behind = behind

    pub forest_found : Enter → ModulePlace → Forest → Findings
    forest_found enter p empty = nothing_found
    forest_found enter p (more n f) = node_found enter p n (forest_found enter p f)

  -- a file is a module with all in it, if it is followed; so many files may stand in one another
  abbrev pub enter_files : ℕ → Enter
  enter_files zero p m file dir behind = no_module p m TooDeep behind
  enter_files (suc depth) p m file dir behind =
      if is_followed choice (is_file_enabled (files.tree file))
      then found_module m.name (file_origin m.id) file (forest_found (enter_files depth) (inside_file p file dir) (files.tree file).forest) behind
      else behind

  -- what is found in a crate, by the number and the path of its root file
  abbrev pub crate_found : ℕ → List ℕ → Findings
  crate_found root path =
      if is_followed choice (is_file_enabled (files.tree root)) then forest_found (enter_files depth_limit) (root_place root path) (files.tree root).forest else nothing_found

-- ---- the same as lists

-- a `mod` without a module: the module that it stands in, its name and id, why, and the paths that were looked for
pub record Unresolved : Type 0 where
  pub parent : ModuleId
  pub name : List ℕ
  pub id : FileAstId
  pub reason : UnresolvedReason
  pub paths : List (List ℕ)

-- modules, each after the one that it stands in, whose place in the list is its id; and paths of which nothing is known
pub record FoundModules : Type 0 where
  pub modules : List ModuleData
  pub unresolved : List Unresolved
  pub wanted : List (List ℕ)

-- the id of the next module
abbrev pub next_id : FoundModules → ModuleId
next_id s = record { 0 = length s.modules }

abbrev pub module_in : ModuleId → List ℕ → ModuleOrigin → ℕ → ModuleData
module_in id name origin file = record { parent = Some id; name = Some name; origin = origin; file = file }

abbrev pub with_module : ModuleData → FoundModules → FoundModules
with_module m s = record { modules = s.modules ++ m ∷ []; unresolved = s.unresolved; wanted = s.wanted }

abbrev pub with_unresolved : Unresolved → FoundModules → FoundModules
with_unresolved u s = record { modules = s.modules; unresolved = s.unresolved ++ u ∷ []; wanted = s.wanted }

abbrev pub with_wanted : List (List ℕ) → FoundModules → FoundModules
with_wanted paths s = record { modules = s.modules; unresolved = s.unresolved; wanted = s.wanted ++ paths }

-- what was found before, and then this in the module of this id
abbrev pub with_found : ModuleId → Findings → FoundModules → FoundModules
with_found id nothing_found s = s
with_found id (found_module name origin file inside behind) s = with_found id behind (with_found (next_id s) inside (with_module (module_in id name origin file) s))
with_found id (unresolved_mod m reason paths behind) s = with_found id behind (with_unresolved (record { parent = id; name = m.name; id = m.id; reason = reason; paths = paths }) s)
with_found id (wanted_paths paths behind) s = with_found id behind (with_wanted paths s)

abbrev pub root_id : ModuleId
root_id = record { 0 = 0 }

-- the root module alone
abbrev pub root_found : ℕ → FoundModules
root_found root = record { modules = record { parent = None; name = None; origin = CrateRoot; file = root } ∷ []; unresolved = []; wanted = [] }

-- the modules of a crate, by the number and the path of its root file
abbrev pub crate_modules : ModuleChoice → ModuleFiles → ℕ → List ℕ → FoundModules
crate_modules choice files root path = with_found root_id (crate_found choice files root path) (root_found root)

-- the most modules of a crate
abbrev pub most_modules : ℕ
most_modules = 2 ^ 20
