-- What holds of the modules of every crate.
use Rattle.std.specs.Prelude.{◌≡◌, ℕ, List, [], ◌∷◌, All, Some, None}
use Rattle.module_tree.specs.declared.data.{ModuleChoice.ModuleChoice, ModuleOrigin.ModuleOrigin, UnresolvedReason.UnresolvedReason}
use Rattle.module_tree.specs.declared.known.KnownPath.{KnownPath}
use Rattle.module_tree.specs.declared.known.KnownPath.TheVariants.{File}
use Rattle.module_tree.specs.Modules.{ModuleFiles, ModItem, Findings, nothing_found, found_module, unresolved_mod, wanted_paths, crate_found, crate_modules}

-- nothing is known of a path that is wanted
abbrev pub WantsUnknown : Type 0
WantsUnknown = (choice : ModuleChoice) (files : ModuleFiles) (root : ℕ) (path : List ℕ) → All (λ wanted. files.known wanted ≡ None) (crate_modules choice files root path).wanted

-- the same is found, but that where paths were wanted there may be nothing now, a module, a `mod` without one, or paths
pub data GrowsTo : Findings → Findings → Type 0 where
  same_nothing : GrowsTo nothing_found nothing_found
  same_module : (name : List ℕ) (origin : ModuleOrigin) (file : ℕ) {inside inside' behind behind' : Findings} → GrowsTo inside inside' → GrowsTo behind behind'
      → GrowsTo (found_module name origin file inside behind) (found_module name origin file inside' behind')
  same_unresolved : (m : ModItem) (reason : UnresolvedReason) (paths : List (List ℕ)) {behind behind' : Findings} → GrowsTo behind behind'
      → GrowsTo (unresolved_mod m reason paths behind) (unresolved_mod m reason paths behind')
  now_nothing : (path : List ℕ) (paths : List (List ℕ)) {behind behind' : Findings} → GrowsTo behind behind' → GrowsTo (wanted_paths (path ∷ paths) behind) behind'
  now_module : (path : List ℕ) (paths : List (List ℕ)) (name : List ℕ) (origin : ModuleOrigin) (file : ℕ) (inside : Findings) {behind behind' : Findings} → GrowsTo behind behind'
      → GrowsTo (wanted_paths (path ∷ paths) behind) (found_module name origin file inside behind')
  now_unresolved : (path : List ℕ) (paths : List (List ℕ)) (m : ModItem) (reason : UnresolvedReason) (others : List (List ℕ)) {behind behind' : Findings} → GrowsTo behind behind'
      → GrowsTo (wanted_paths (path ∷ paths) behind) (unresolved_mod m reason others behind')
  still_wanted : (path : List ℕ) (paths others : List (List ℕ)) {behind behind' : Findings} → GrowsTo behind behind' → GrowsTo (wanted_paths (path ∷ paths) behind) (wanted_paths others behind')

-- what is known stays when more is known: of paths, of the files that they lead to, and of the root file
pub record StaysKnown (less fuller : ModuleFiles) (root : ℕ) : Type 0 where
  pub paths : (path : List ℕ) (k : KnownPath) → less.known path ≡ Some k → fuller.known path ≡ Some k
  pub trees : (path : List ℕ) (file : ℕ) → less.known path ≡ Some (File file) → fuller.tree file ≡ less.tree file
  pub root_tree : fuller.tree root ≡ less.tree root

-- then what was found stays found
abbrev pub FoundStays : Type 0
FoundStays = (choice : ModuleChoice) (less fuller : ModuleFiles) (root : ℕ) (path : List ℕ) → StaysKnown less fuller root
    → GrowsTo (crate_found choice less root path) (crate_found choice fuller root path)

-- and once no path is wanted nothing changes
abbrev pub EndsOnceKnown : Type 0
EndsOnceKnown = (choice : ModuleChoice) (less fuller : ModuleFiles) (root : ℕ) (path : List ℕ) → StaysKnown less fuller root
    → (crate_modules choice less root path).wanted ≡ [] → crate_found choice fuller root path ≡ crate_found choice less root path
