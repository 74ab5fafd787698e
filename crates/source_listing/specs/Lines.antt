-- What lines are made of, and those of problems.
use Rattle.std.specs.Prelude.{ℕ, Bool, true, false, not, ◌&&◌, ◌||◌, ◌*◌, ◌==◌, nat_lt, if◌then◌else◌, List, [], ◌++◌, codes, length, replicate, Option, Some, None, flat_map}
use Rattle.hir_input.specs.Name.{shown_name}
use Rattle.hir_input.specs.declared.mod_path.PathKind.{PathKind}
use Rattle.hir_input.specs.declared.mod_path.PathKind.TheVariants.{Super, Crate}
use Rattle.hir_input.specs.Path.{Path, shown_path}
use Rattle.item_tree.specs.declared.visibility.RawVisibility.{RawVisibility}
use Rattle.item_tree.specs.declared.visibility.RawVisibility.TheVariants.{Module, PubSelf}
use Rattle.item_tree.specs.declared.visibility.VisibilityExplicitness.TheVariants.{Implicit}
use Rattle.item_tree.specs.Page.{shown_visibility}
use Rattle.item_tree.specs.Tree.{Tree, single, glob, prefixed}
use Rattle.item_tree.specs.UseText.{shown_prefix, shown_rename}
use Rattle.list_forms.specs.Colors.{colored_text, faint_code, red_code}
use Rattle.tree_walk.specs.Rows.{RowView, Subject, no_subject, used, called}
use Rattle.source_problems.specs.declared.problem.SourceProblem.{SourceProblem}
use Rattle.source_problems.specs.declared.problem.SourceProblemKind.{SourceProblemKind}
use Rattle.source_problems.specs.declared.problem.SourceProblemKind.TheVariants as problem
pub use Rattle.source_rows.specs.Labels.{item_word}
pub use Rattle.source_rows.specs.Sources.{Source, place_at}

-- where something stands in a file; all has a place
abbrev pub at_text : Source → Option ℕ → List ℕ
at_text s None = s.path ++ codes ": "
at_text s (Some at) = place_at s at

-- ---- items

-- which items are listed: those in fewer than so many others, and only those that no cfg disables where that is asked
pub record Choice : Type 0 where
  pub depth : Option ℕ
  pub only_active : Bool

abbrev pub is_within : Option ℕ → ℕ → Bool
is_within None level = true
is_within (Some depth) level = nat_lt level depth

-- an item in so many others, which a cfg disables or not
abbrev pub is_chosen : Choice → ℕ → Bool → Bool
is_chosen c level is_active = is_within c.depth level && (not c.only_active || is_active)

abbrev pub is_listed : Choice → RowView → Bool
is_listed c r = is_chosen c r.level r.is_active

-- `self`, `super` and `crate`
abbrev pub is_short_kind : PathKind → Bool
is_short_kind (Super n) = nat_lt n 2
is_short_kind Crate = true
is_short_kind _ = false

abbrev pub is_one_word : Path → Bool
is_one_word path = if length path.names == 0 then is_short_kind path.kind else false

-- the visibility of the module of a path: `in` stands before any path but these words
abbrev pub visible_in : List (List ℕ) → Path → List ℕ
visible_in reserved path = (if is_one_word path then codes "pub(" else codes "pub(in ") ++ shown_path reserved path ++ codes ")"

-- a visibility is written where it was
abbrev pub visibility_text : List (List ℕ) → Option RawVisibility → List ℕ
visibility_text reserved None = []
visibility_text reserved (Some (PubSelf Implicit)) = []
visibility_text reserved (Some (Module path e)) = visible_in reserved path ++ codes " "
visibility_text reserved (Some v) = shown_visibility reserved v

abbrev pub listed_name : List (List ℕ) → Option (List ℕ) → List ℕ
listed_name reserved None = []
listed_name reserved (Some name) = codes " " ++ shown_name reserved name

-- a use tree in short: the trees of a list are left out
abbrev pub short_tree : List (List ℕ) → Tree → List ℕ
short_tree reserved (single path alias) = shown_path reserved path ++ shown_rename reserved alias
short_tree reserved (glob path) = shown_prefix reserved path ++ codes "*"
short_tree reserved (prefixed path trees) = shown_prefix reserved path ++ codes "{..}"

-- what a use or a macro call is told by
abbrev pub subject_text : List (List ℕ) → Subject → List ℕ
subject_text reserved no_subject = []
subject_text reserved (used tree) = codes " " ++ short_tree reserved tree
subject_text reserved (called path) = codes " " ++ shown_path reserved path ++ codes "!"

abbrev pub line_end : Bool → List ℕ
line_end is_active = if is_active then codes "\n" else codes " (inactive)\n"

-- four blanks a level
abbrev pub indent : ℕ → List ℕ
indent level = replicate (4 * level) 32

-- ---- problems

abbrev pub message : SourceProblemKind → List ℕ
message problem.NoItem = codes "expected an item"
message problem.Unmatched = codes "this bracket closes nothing"
message problem.Unfinished = codes "this item has no end"
message problem.Nameless = codes "this item has no name"
message problem.Unterminated = codes "this literal or comment has no end"
message problem.TooDeep = codes "this stands in too many others to be read"
message problem.Mismatched = codes "this bracket closes one of another kind"
message problem.Unclosed = codes "nothing closes this bracket"
message problem.AttributePath = codes "an attribute here has no path that can be read"
message problem.DeepAttribute = codes "an attribute here is nested too deep to be read"
message problem.VisibilityPath = codes "the path of a visibility here cannot be read"
message problem.UsePath = codes "a path of this use cannot be read"
message problem.MacroPath = codes "the path of this macro call cannot be read"
message problem.ConflictMarker = codes "a merge left this conflict marker"

abbrev pub problem_line : Bool → Source → SourceProblem → List ℕ
problem_line is_colored s p = colored_text is_colored faint_code (place_at s p.at) ++ colored_text is_colored red_code (message p.kind) ++ codes "\n"

-- the lines of problems
abbrev pub problem_lines : Bool → Source → List SourceProblem → List ℕ
problem_lines is_colored s ps = flat_map (problem_line is_colored s) ps
