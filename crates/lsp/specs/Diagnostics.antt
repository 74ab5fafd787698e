-- What is wrong with a document, as the protocol tells it.
use Rattle.std.specs.Prelude.{◌≡◌, ◌≢◌, ◌⊎◌, ◌++◌, ℕ, ℤ, Bool, true, false, List, [], codes, decimal, map, Option, Some, None}
use Rattle.serde_json.specs.Data.{Data, number, string, array, object, Members, no_members, member}
use Rattle.serde_json.specs.Find.{of_integer}
use Rattle.serde_json.specs.View.{items_of}
use Rattle.serde_json.specs.Written.{compact_text}
use Rattle.list_forms.specs.Lines.{count_form}
use Rattle.line_index.specs.declared.Units.{Units}
use Rattle.source_problems.specs.declared.problem.SourceProblem.{SourceProblem}
use Rattle.source_listing.specs.Lines.{message}
use Rattle.source_imports.specs.Repeated.{Repeat}
use Rattle.source_rows.specs.declared.finder.Spot.{Spot}
use Rattle.rust_paths.specs.declared.names.TextRange.{TextRange}
use Rattle.item_tree.specs.declared.fault.LowerError.TheVariants.{OutOfMemory}
use Rattle.itemtree_commands.specs.Answers.{AreRepeats, HasNoList, HasProblems}
use Rattle.itemtree_commands.specs.declared.trees.SourceError.{SourceError}
use Rattle.itemtree_commands.specs.declared.trees.SourceError.TheVariants.{Lower}
use Rattle.itemtree_commands.specs.declared.Options.{Options}
use Rattle.lsp.specs.Bytes.{place_of_byte, range_span}
use Rattle.lsp.specs.Positions.{span_object}
use Rattle.lsp.specs.declared.position.Span.{Span}
use Rattle.lsp.specs.Documents.{Document}

-- the object of what is told of a range: errors are of severity 1, warnings of 2
abbrev pub told_object : Span → List ℕ → ℕ → Data
told_object span message severity =
    object
    (member (codes "message") (string message)
    (member (codes "range") (span_object span)
    (member (codes "severity") (count_form severity)
    (member (codes "source") (string (codes "itemtree")) no_members))))

-- that of a problem, which stands at its place
abbrev pub diagnostic : Units → List ℕ → SourceProblem → Data
diagnostic units text p =
    let start = place_of_byte units text p.at in
    told_object (record { start = start; end = start }) (message p.kind) 1

-- in which line the first import stands that one repeats, if that is known
abbrev pub first_told : Option Spot → List ℕ
first_told None = []
first_told (Some spot) = codes ", first in line " ++ decimal spot.position.line

-- what is said of an import that repeats an earlier one
abbrev pub repeat_message : Repeat → List ℕ
repeat_message r = r.text ++ codes " is imported again" ++ first_told r.first

-- the bytes of an import: those of its use tree
abbrev pub repeat_bytes : Option Spot → TextRange
repeat_bytes None = record { start = 0; end = 0 }
repeat_bytes (Some spot) = spot.range

-- the object of an import that repeats an earlier one
abbrev pub repeat_diagnostic : Units → List ℕ → Repeat → Data
repeat_diagnostic units text r = told_object (range_span units text (repeat_bytes r.spot)) (repeat_message r) 2

-- the version of a document, if it is known
abbrev pub version_members : Option ℤ → Members
version_members None = no_members
version_members (Some v) = member (codes "version") (number (of_integer v)) no_members

-- the parameters of a notification about a document of a name
abbrev pub notice_params : List ℕ → Option ℤ → List Data → Data
notice_params uri version ds = object (member (codes "diagnostics") (array (items_of ds)) (member (codes "uri") (string uri) (version_members version)))

-- the notification of what is wrong with it
abbrev pub notice : List ℕ → Option ℤ → List Data → Data
notice uri version ds =
    object
    (member (codes "jsonrpc") (string (codes "2.0"))
    (member (codes "method") (string (codes "textDocument/publishDiagnostics"))
    (member (codes "params") (notice_params uri version ds) no_members)))

-- the text of the notification that nothing is wrong with a document that is closed
abbrev pub closed_notice : List ℕ → List ℕ
closed_notice uri = compact_text (notice uri None [])

-- these are the problems that are told of a text: those of one that is Rust
abbrev pub AreTold : Options → Bool → List ℕ → List SourceProblem → Type 0
AreTold o true text ps = HasProblems o text ps
AreTold o false text ps = ps ≡ []

-- these are its repeated imports that are told: none where it is not Rust, or has no lists, for another reason than memory
abbrev pub AreRepeatsTold : Options → Bool → List ℕ → List Repeat → Type 0
AreRepeatsTold o true text rs = AreRepeats o text rs ⊎ ((why : SourceError) × HasNoList o text why × (why ≢ Lower OutOfMemory) × (rs ≡ []))
AreRepeatsTold o false text rs = rs ≡ []

-- the objects of problems, and then those of repeated imports
abbrev pub diagnostics : Units → List ℕ → List SourceProblem → List Repeat → List Data
diagnostics units text ps rs = map (diagnostic units text) ps ++ map (repeat_diagnostic units text) rs

-- what is told of the document of a name
abbrev pub IsNoticeOf : Options → Units → List ℕ → Document → List ℕ → Type 0
IsNoticeOf o units uri d out =
    (ps : List SourceProblem) × AreTold o d.is_rust d.text ps × (rs : List Repeat) × AreRepeatsTold o d.is_rust d.text rs
    × (out ≡ compact_text (notice uri d.version (diagnostics units d.text ps rs)))
