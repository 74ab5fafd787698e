-- What the commands answer, from the text of a file on.
use Rattle.std.specs.Prelude.{◌≡◌, ◌↔◌, ℕ, Bool, true, false, not, IsTrue, if◌then◌else◌, Option, Some, None, List, [], codes, length, string_bytes}
use Rattle.hir_input.specs.Cfg.{AtomView}
use Rattle.hir_input.specs.Name.{is_among}
use Rattle.item_tree.specs.Page.{page}
use Rattle.tree_walk.specs.Rows.{rows}
use Rattle.source_rows.specs.Listed.{Closers, MemberReading}
use Rattle.source_imports.specs.ImportCfgs.{ImportChoice, UseCfgs, file_cfgs}
use Rattle.source_imports.specs.ImportLines.{import_lines}
use Rattle.source_listing.specs.Lines.{Choice, Source, problem_lines}
use Rattle.source_listing.specs.Outlines.{Look, outline_text}
use Rattle.source_listing.specs.Objects.{json_line}
use Rattle.source_listing.specs.Pages.{lines_without_ids}
use Rattle.source_imports.specs.Repeated.{Repeat, repeat_lines, repeated_imports}
use Rattle.source_listing.specs.Uses.{FilePlaces, file_places}
use Rattle.source_listing.specs.Search.{Query, found_lines}
use Rattle.source_tags.specs.Tags.{TagChoice, tags}
use Rattle.source_tags.specs.declared.tags.TagForm.{TagForm}
use Rattle.source_problems.specs.declared.problem.SourceProblem.{SourceProblem}
use Rattle.source_problems.specs.Texts.{source_problems}
use Rattle.list_forms.specs.declared.lines.Form.{Form}
use Rattle.source_changes.specs.Changes.{AreLinesBetween}
use Rattle.source_changes.specs.declared.Compared.{Compared}
use Rattle.source_rows.specs.ListedFiles.{listed_text}
use Rattle.rust_items.specs.SourceFiles.{FileView, IsFileView}
use Rattle.itemtree_commands.specs.declared.trees.SourceTree.{SourceTree}
use Rattle.itemtree_commands.specs.declared.trees.SourceError.{SourceError}
use Rattle.itemtree_commands.specs.Trees.{IsListedTree, IsListRefused, IsTreeRefused, IsTreeOf}
use Rattle.itemtree_commands.specs.declared.Options.{Options}
use Rattle.itemtree_commands.specs.declared.Checked.{Checked}
use Rattle.itemtree_commands.specs.declared.CompareError.{CompareError}
use Rattle.itemtree_commands.specs.declared.CompareError.TheVariants.{Old, New, OutOfMemory}

-- the tree of a text under the options
abbrev pub HasTree : Options → List ℕ → SourceTree → Type 0
HasTree o = IsTreeOf o.krate o.skipped.items o.edition.year

-- which items are listed
abbrev pub choice : Options → Option ℕ → Choice
choice o depth = record { depth = depth; only_active = o.only_active }

-- what is told, in which form, and whether lines are flat
abbrev pub look_of : Options → Option ℕ → Bool → Form → Bool → Look
look_of o depth has_imports form is_flat = record { choice = choice o depth; form = form; is_flat = is_flat; has_imports = has_imports }

-- the cfgs under which members, or what stands in bodies, are listed, if they are
abbrev pub cfgs_if : Options → Bool → Option (List AtomView)
cfgs_if o is_asked = if is_asked then Some o.krate.cfg else None

-- what headers and members are read of: the text that was read for the list
abbrev pub reading_in : Options → Bool → Source → Option Closers → MemberReading
reading_in o has_members s c = record { text = listed_text s.text c; closers = c; edition = o.edition.year; options = cfgs_if o has_members }

-- the tree that lists tell of a text under the options
abbrev pub HasListed : Options → List ℕ → Option Closers → SourceTree → Type 0
HasListed o = IsListedTree o.krate o.skipped.items o.edition.year

-- the places of the items and of the use trees
abbrev pub all_places : SourceTree → FilePlaces
all_places t = file_places t.places.items t.use_trees.items

-- the lines or flat objects of the listed items, with or without those of their listed members and imports
abbrev pub IsOutline : Options → Option ℕ → Bool → Bool → Form → Bool → Source → List ℕ → Type 0
IsOutline o depth has_members has_imports form is_flat s out =
    (c : Option Closers) × (t : SourceTree) × HasListed o s.text c t
    × (out ≡ outline_text s o.edition.reserved.items (look_of o depth has_imports form is_flat) (reading_in o has_members s c) (all_places t) (rows t.tree))

-- their objects, on one line
abbrev pub IsJson : Options → Option ℕ → Bool → Source → List ℕ → Type 0
IsJson o depth has_members s out =
    (c : Option Closers) × (t : SourceTree) × HasListed o s.text c t
    × (out ≡ json_line s (reading_in o has_members s c) o.edition.reserved.items t.places.items (choice o depth) t.tree)

-- the cfgs that are set, if what a cfg disables is left out
abbrev pub if_active : Options → Option (List AtomView)
if_active o = if o.only_active then Some o.krate.cfg else None

-- which imports are listed, by the uses that stand under cfgs
abbrev pub import_choice : Options → List UseCfgs → ImportChoice
import_choice o uses = record { uses = uses; active_under = if_active o }

-- the lines of the listed imports
abbrev pub AreImports : Options → Form → Source → List ℕ → Type 0
AreImports o form s out =
    (c : Option Closers) × (t : SourceTree) × (h : HasListed o s.text c t)
    × (out ≡ import_lines o.edition.reserved.items form (import_choice o (file_cfgs h.file.syntax)) s (all_places t) t.tree.forest)

-- the listed imports that repeat an earlier one
abbrev pub AreRepeats : Options → List ℕ → List Repeat → Type 0
AreRepeats o text rs =
    (c : Option Closers) × (t : SourceTree) × (h : HasListed o text c t)
    × (rs ≡ repeated_imports text o.edition.reserved.items (import_choice o (file_cfgs h.file.syntax)) (all_places t) t.tree.forest)

-- their lines
abbrev pub AreRepeated : Options → Bool → Source → List ℕ → Type 0
AreRepeated o is_colored s out = (rs : List Repeat) × AreRepeats o s.text rs × (out ≡ repeat_lines is_colored s.path rs)

-- the lines of the items that are looked for, and of their members
abbrev pub AreFound : Options → Bool → Query → Source → List ℕ → Type 0
AreFound o has_members q s out =
    (c : Option Closers) × (t : SourceTree) × HasListed o s.text c t
    × (out ≡ found_lines s (reading_in o has_members s c) o.edition.reserved.items t.places.items q (rows t.tree))

-- which tags there are
abbrev pub tag_choice : Options → Bool → Bool → Source → Option Closers → TagChoice
tag_choice o has_members has_bodies s c = record { reading = reading_in o has_members s c; choice = choice o None; bodies = cfgs_if o has_bodies }

-- the tags in a form
abbrev pub AreTags : Options → TagForm → Bool → Bool → Source → List ℕ → Type 0
AreTags o form has_members has_bodies s out =
    (c : Option Closers) × (t : SourceTree) × HasListed o s.text c t
    × (out ≡ tags s form (tag_choice o has_members has_bodies s c) t.places.items (rows t.tree))

-- the debug page, with or without the lines of ids
abbrev pub if_ids : Bool → List ℕ → List ℕ
if_ids has_ids page = if has_ids then page else lines_without_ids page

-- the page of a text's tree
abbrev pub IsPage : Options → Bool → List ℕ → List ℕ → Type 0
IsPage o has_ids text out = (t : SourceTree) × HasTree o text t × (out ≡ if_ids has_ids (page o.edition.reserved.items t.tree))

-- what is wrong with what is read of the text
abbrev pub HasProblems : Options → List ℕ → List SourceProblem → Type 0
HasProblems o text ps = (file : FileView) × IsFileView o.edition.year text file × (ps ≡ source_problems text file)

-- the lines of what is wrong with what is read of the text, and whether there are any
abbrev pub IsCheck : Options → Bool → Source → Checked → Type 0
IsCheck o is_colored s c =
    (file : FileView) × IsFileView o.edition.year s.text file × (string_bytes c.text ≡ problem_lines is_colored s (source_problems s.text file))
    × (IsTrue c.is_clean ↔ (length (source_problems s.text file) ≡ 0))

-- the command has no answer: the text has no tree, or memory runs out
abbrev pub HasNoTree : Options → List ℕ → SourceError → Type 0
HasNoTree o = IsTreeRefused o.krate o.skipped.items o.edition.year

-- a list has no answer: what lists read of the text has no tree, or memory runs out
abbrev pub HasNoList : Options → List ℕ → SourceError → Type 0
HasNoList o = IsListRefused o.krate o.skipped.items o.edition.year

-- the lines of what became of one file in another, with documentation unless it is skipped; none where the two are the same
abbrev pub AreLinesUnless : Bool → Options → Form → Source → Source → List ℕ → Type 0
AreLinesUnless true o form old new lines = lines ≡ []
AreLinesUnless false o form old new lines = AreLinesBetween o.edition.year (not (is_among o.skipped.items (codes "doc"))) form old new lines

-- whether the trees are equal, and the lines of what differs where they are not
abbrev pub AreCompared : Options → Form → Source → Source → Compared → Type 0
AreCompared o form old new c =
    (before after : SourceTree) × HasTree o old.text before × HasTree o new.text after
    × (IsTrue c.is_same ↔ (before.tree ≡ after.tree)) × AreLinesUnless c.is_same o form old new (string_bytes c.text)

-- the text that is said to have no tree has none, and a new one is said so only where the old one has a tree; where neither is, both have trees
abbrev pub IsUncompared : Options → List ℕ → List ℕ → CompareError → Type 0
IsUncompared o old new (Old e) = HasNoTree o old e
IsUncompared o old new (New e) = HasNoTree o new e × ((t : SourceTree) × HasTree o old t)
IsUncompared o old new OutOfMemory = ((t : SourceTree) × HasTree o old t) × ((t : SourceTree) × HasTree o new t)
