-- For the crate's own functions: what they hold as plain data, and the walk by the ids of items.
use Rattle.std.specs.Prelude.{◌≡◌, ◌<◌, ◌≤◌, ℕ, List, length, map, String, Option, None, Result, IsErrOf, OnOk, option_copied, string_bytes}
use Rattle.std.specs.Borrow.{Bor}
use Rattle.std.specs.declared.alloc.Global.{Global}
use Rattle.item_tree.specs.{Node.Unfolding, Node.node_head, Walk.of_id}
use Rattle.module_tree.specs.declared.data.{ModuleChoice.ModuleChoice, ModuleData.ModuleData, ModuleId.ModuleId, ModuleTreeError.ModuleTreeError, ModuleTreeError.TheVariants.TooManyModules}
use Rattle.module_tree.specs.declared.data.ModuleOrigin.TheVariants.{File as file_origin, Inline as inline_origin}
use Rattle.module_tree.specs.declared.mod_dir as code
use Rattle.module_tree.specs.declared.place as place_code
use Rattle.module_tree.specs.declared.walk as walk_code
use Rattle.module_tree.specs.declared.resolve.Resolved as resolved_code
use Rattle.module_tree.specs.declared.resolve.Resolved.TheVariants.{Wants, Fails, Finds}
use Rattle.module_tree.specs.Modules.{ModuleFiles, Dir, ModItem, CandidateFile, ModulePlace, Enter, nothing_found, FoundModules, Resolution, wants, fails, finds, enter_files, node_found, path_attr, module_in, with_found, most_modules}
use Rattle.module_tree.specs.Views.{files_of}

-- borrowed texts
abbrev pub texts : List (Bor (List ℕ)) → List (List ℕ)
texts names = map (λ name. name.now) names

-- owned ones
abbrev pub path_texts : List (String Global) → List (List ℕ)
path_texts paths = map string_bytes paths

abbrev pub dir_view : code.ModDir.ModDir → Dir
dir_view d = record { names = texts d.names.items; paths = texts d.paths.items }

abbrev pub mod_item_view : code.ModItem.ModItem → ModItem
mod_item_view m = record { name = m.name.now; id = m.id; path = option_copied m.path }

abbrev pub candidate_file_view : code.Candidate.Candidate → CandidateFile
candidate_file_view c = record { path = string_bytes c.path; dir = dir_view c.dir }

-- a file that was found
abbrev pub file_dir : ℕ × Bor code.Candidate.Candidate → ℕ × Dir
file_dir found = (found.0, dir_view found.1.now.dir)

abbrev pub place_view : place_code.Place.Place → ModulePlace
place_view p = record { file = p.file; files = p.files.items; dir = dir_view p.dir }

abbrev pub resolved_view : resolved_code.Resolved → Resolution
resolved_view (Wants paths) = wants (map string_bytes paths.items)
resolved_view (Fails reason) = fails reason
resolved_view (Finds file dir) = finds file (dir_view dir)

-- the module of an inline `mod`, and of one whose file was found
abbrev pub inline_module : place_code.Place.Place → ModItem → ModuleData
inline_module p m = module_in p.module_id m.name (inline_origin m.id) p.file

abbrev pub file_module : place_code.Place.Place → ModItem → ℕ → ModuleData
file_module p m file = module_in p.module_id m.name (file_origin m.id) file

-- what the item of an id adds to what was found before
abbrev pub id_modules : ModuleChoice → ModuleFiles → Enter → ModuleId → ModulePlace → Unfolding → FoundModules → ℕ → FoundModules
id_modules choice files enter id p u s i = of_id u s (λ n. with_found id (node_found choice files enter p n nothing_found) s) i

-- what is found of a file where files may stand so deep in it
abbrev pub entered_in : walk_code.Ctx.Ctx → ℕ → Enter
entered_in ctx depth = enter_files ctx.choice (files_of ctx.known) depth

abbrev pub id_modules_in : walk_code.Ctx.Ctx → ℕ → place_code.Place.Place → Unfolding → FoundModules → ℕ → FoundModules
id_modules_in ctx depth p u = id_modules ctx.choice (files_of ctx.known) (entered_in ctx depth) p.module_id (place_view p) u

-- the string of the first `#[path]` of the item of an id
abbrev pub mod_path_at : Unfolding → ℕ → Option (List ℕ)
mod_path_at u i = of_id u None (λ n. path_attr (node_head n).attrs.attrs) i

-- all was found and is no more than may be, or it is more, or memory ran out
pub record AddsAll {A : Type 0} (new all : FoundModules) (r : Result A ModuleTreeError) : Type 0 where
  pub found : OnOk r (new ≡ all)
  pub few : OnOk r (length new.modules ≤ most_modules)
  pub many : IsErrOf r TooManyModules → most_modules < length all.modules
