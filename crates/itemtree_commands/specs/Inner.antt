-- What is read for lists of rows, and for what is wrong.
use Rattle.std.specs.Prelude.{◌≡◌, ◌≤◌, ◌^◌, ◌⊎◌, ℕ, Bool, List, Option, false, length, map, refl, string_bytes, ◌==◌, ◌&&◌, Some, None, if◌then◌else◌, option_map}
use Rattle.std.specs.HashMap.{HashMap, get}
use Rattle.std.specs.Option.{option_or}
use Rattle.std.specs.declared.hash.BuildHasherDefault.{BuildHasherDefault}
use Rattle.std.specs.declared.hash.FoldHasher.{FoldHasher}
use Rattle.std.specs.Coded.{Coded, code_by, coded×, coded_list, coded_ℕ}
use Rattle.item_tree.specs.Code.Node.{unfolding_code}
use Rattle.item_tree.specs.Node.{Unfolding}
use Rattle.rust_items.specs.contracts.source_file.ItemPlace as place
use Rattle.rust_items.specs.declared.source_file.ItemPlace.{ItemPlace}
use Rattle.hir_input.specs.declared.edition.EditionYear.{EditionYear}
use Rattle.hir_input.specs.declared.ids.FileAstId.{FileAstId}
use Rattle.item_tree.specs.declared.crate_data.CrateData.{CrateData}
use Rattle.item_tree.specs.declared.fault.LowerError.TheVariants.{OutOfMemory}
use Rattle.item_tree.specs.Lowered.{IsTooLargeIn}
use Rattle.tree_walk.specs.Rows as walk
use Rattle.rust_metas.specs.declared.wanted.WantedMetas.TheVariants.{Conditions, Undocumented}
use Rattle.rust_leaves.specs.declared.wanted.Wanted.{Wanted}
use Rattle.source_rows.specs.declared.mended_file.MendedFile.{MendedFile}
use Rattle.rust_items.specs.SourceFiles.{FileView}
use Rattle.source_rows.specs.Places.{is_id, place_of}
use Rattle.source_rows.specs.Listed.{Closers, MemberReading}
use Rattle.source_rows.specs.ListedViews.{text_read}
use Rattle.source_rows.specs.ListedFiles.{IsListedClipped, IsUnlisted, closers_in}
use Rattle.source_rows.specs.declared.read_texts.ReadError.{ReadError}
use Rattle.source_rows.specs.declared.read_texts.ReadError.TheVariants as read
use Rattle.itemtree_commands.specs.declared.Options.{Options}
use Rattle.itemtree_commands.specs.declared.trees.SourceError.{SourceError}
use Rattle.itemtree_commands.specs.declared.trees.SourceError.TheVariants.{TooLong, Lower}
use Rattle.itemtree_commands.specs.declared.trees.SourceTree.{SourceTree}
use Rattle.itemtree_commands.specs.declared.listed.ListedTree.{ListedTree}
use Rattle.itemtree_commands.specs.declared.listed.ListedUses.{ListedUses}
use Rattle.itemtree_commands.specs.declared.module_paths.PathedModule.{PathedModule}
use Rattle.source_imports.specs.ImportCfgs.{file_cfgs}
use Rattle.source_imports.specs.Inner.{id_key}
use Rattle.source_imports.specs.Views.{use_cfgs_view}
use Rattle.itemtree_commands.specs.declared.declarations.Declared as code_items
use Rattle.itemtree_commands.specs.Answers.{HasListed, cfgs_if}
use Rattle.itemtree_commands.specs.declared.import_entries.ToldImport as code_entries
use Rattle.itemtree_commands.specs.declared.import_targets.PlacedTarget as code_targets
use Rattle.itemtree_commands.specs.ImportTargets.{DeclaredItem, PlacedTarget, ToldImport, written_item}
use Rattle.itemtree_commands.specs.ModuleLists.{CrateFile, Pathed}
use Rattle.itemtree_commands.specs.Trees.{IsListedTree, IsTreeIn}

-- neither body texts nor attributes, but for conditions
abbrev pub row_wanted : Wanted
row_wanted = record { bodies = false; metas = Conditions }

-- neither body texts nor documentation
abbrev pub checked_wanted : Wanted
checked_wanted = record { bodies = false; metas = Undocumented }

-- how a text is read, or the mended one in its place
abbrev pub reading_by : Options → Bool → List ℕ → Option MendedFile → MemberReading
reading_by o has_members text mended = record { text = text_read text mended; closers = closers_in mended; edition = o.edition.year; options = cfgs_if o has_members }

-- a tree that has the rows of the tree that lists tell of a text, and the places of its items and use trees
pub record HasListedRows (krate : CrateData) (skipped : List (List ℕ)) (edition : EditionYear) (text : List ℕ) (x : ListedTree) : Type 0 where
  pub whole : SourceTree
  pub is_listed : IsListedTree krate skipped edition text (closers_in x.mended) whole
  pub rows : walk.rows x.source.tree ≡ walk.rows whole.tree
  pub places : x.source.places.items ≡ whole.places.items
  pub use_trees : x.source.use_trees.items ≡ whole.use_trees.items

-- the tree of what is wanted of what lists read of a text
pub record IsClippedTree (w : Wanted) (krate : CrateData) (skipped : List (List ℕ)) (edition : EditionYear) (text : List ℕ) (x : ListedTree) : Type 0 where
  pub file : FileView
  pub is_clipped : IsListedClipped w edition text (closers_in x.mended) file
  pub is_tree : IsTreeIn krate skipped file x.source

-- the same, with its uses that stand under cfgs
pub record IsClippedUses (w : Wanted) (krate : CrateData) (skipped : List (List ℕ)) (edition : EditionYear) (text : List ℕ) (x : ListedUses) : Type 0 where
  pub file : FileView
  pub is_clipped : IsListedClipped w edition text (closers_in x.listed.mended) file
  pub is_tree : IsTreeIn krate skipped file x.listed.source
  pub uses : map use_cfgs_view x.uses.items ≡ file_cfgs file.syntax

-- the tree that lists tell of a text, and its uses that stand under cfgs
pub record HasUses (o : Options) (text : List ℕ) (x : ListedUses) : Type 0 where
  pub listed : HasListed o text (closers_in x.listed.mended) x.listed.source
  pub uses : map use_cfgs_view x.uses.items ≡ file_cfgs listed.file.syntax

-- there is none: the text or its mended one is too long, or what is wanted passes a size, or memory runs out
abbrev pub IsClippedRefused : Wanted → CrateData → List (List ℕ) → EditionYear → List ℕ → SourceError → Type 0
IsClippedRefused w krate skipped edition text TooLong = IsUnlisted text read.TooLong
IsClippedRefused w krate skipped edition text (Lower e) =
    (length text ≤ 2 ^ 32) × ((e ≡ OutOfMemory) ⊎ ((closers : Option Closers) × (file : FileView) × IsListedClipped w edition text closers file × IsTooLargeIn krate false skipped file.syntax e))

-- what a text that is not read is told as
abbrev pub error_told : ReadError → SourceError
error_told read.TooLong = TooLong
error_told read.OutOfMemory = Lower OutOfMemory

-- files in code
abbrev pub crate_file_code : Coded CrateFile
crate_file_code =
    code_by (List ℕ × (List ℕ × (List ItemPlace × (List ℕ × Unfolding))))
    (coded× (coded_list coded_ℕ) (coded× (coded_list coded_ℕ) (coded× (coded_list place.the_row.coded) (coded× (coded_list coded_ℕ) unfolding_code))))
    (λ f. (f.path, (f.text, (f.places, (f.use_trees, f.tree)))))
    (λ p. record { path = p.0; text = p.1.0; places = p.1.1.0; use_trees = p.1.1.1.0; tree = p.1.1.1.1 })
    (λ _. refl)

-- a module with its path as plain data
abbrev pub pathed_view : PathedModule → Pathed
pathed_view p = (p.module_data.now, string_bytes p.path)

-- ---- the items of a file by their ids

abbrev pub written_view : code_items.Declared → DeclaredItem
written_view d = record { position = d.position; name = d.name.now }

abbrev pub ItemKey : Type 0
ItemKey = ℕ × ℕ × ℕ

abbrev pub same_item : ItemKey → ItemKey → Bool
same_item a b = (a.0 == b.0 && a.1 == b.1) && a.2 == b.2

abbrev pub ItemsById : Type 0
ItemsById = HashMap ItemKey code_items.Declared (BuildHasherDefault FoldHasher)

abbrev pub found_by : ItemsById → FileAstId → Option DeclaredItem
found_by items id = option_map written_view (get same_item items (id_key id))

-- each id that had no item has this one, if it is that of the item
abbrev pub PutsItem : List ℕ → ItemsById → ItemsById → ItemPlace → Type 0
PutsItem text old new p = (id : FileAstId) → found_by new id ≡ option_or (found_by old id) (if is_id id p.id then Some (written_item text p) else None)

-- the item of each id is the first of these that has it
abbrev pub FindsItems : List ℕ → ItemsById → List ItemPlace → Type 0
FindsItems text items places = (id : FileAstId) → found_by items id ≡ option_map (written_item text) (place_of id places)

-- ---- imports where they lead

abbrev pub target_view : code_targets.PlacedTarget → PlacedTarget
target_view t = record { kind = t.kind.now; path = string_bytes t.path; file = t.file.now; position = t.position }

abbrev pub told_import_view : code_entries.ToldImport → ToldImport
told_import_view t = record { file = t.file.now; position = t.position; text = string_bytes t.text; verdict = t.verdict; is_private = t.is_private; targets = map target_view t.targets.items }
