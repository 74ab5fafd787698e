-- The request over Rust texts.
use Rattle.std.specs.Prelude.{◌≡◌, ◌⊎◌, ℕ, List, [], ◌∷◌}
use Rattle.hir_input.specs.declared.edition.EditionYear.{EditionYear}
use Rattle.hir_input.specs.Syntax.{SyntaxView, syntax_view}
use Rattle.item_tree_request.specs.declared.request.show.Show.{Show}
use Rattle.item_tree_request.specs.Requests.{IsRequest}
use Rattle.item_tree_request.specs.declared.write.request.RequestOptions.{RequestOptions}
use Rattle.item_tree_request.specs.declared.write.request.RequestFault.{RequestFault}
use Rattle.item_tree_request.specs.declared.write.request.RequestFault.TheVariants.{OutOfMemory}
use Rattle.item_tree_request.specs.Writing.Asked.{asked_data, asked_request}
use Rattle.item_tree_request.specs.Writing.Faults as writing
use Rattle.rust_items.specs.declared.source_file.SourceFile.{SourceFile}
use Rattle.rust_items.specs.SourceFiles.{IsSourceFile}

-- a syntax is that of what is read of a text of an edition
abbrev pub IsReadOf : EditionYear → List ℕ → SyntaxView → Type 0
IsReadOf edition text s = (file : SourceFile) × IsSourceFile edition text file × (syntax_view file.syntax ≡ s)

-- and each is that of its text
abbrev pub AreRead : EditionYear → List (List ℕ) → List SyntaxView → Type 0
AreRead edition [] [] = Unit {0}
AreRead edition (text ∷ texts) (s ∷ ss) = IsReadOf edition text s × AreRead edition texts ss
AreRead edition _ _ = ⊥

-- a text is read as the request over what is read of these, in its edition
abbrev pub IsAsked : RequestOptions → List (List ℕ) → List Show → List ℕ → Type 0
IsAsked o texts shows out = (ss : List SyntaxView) × AreRead o.edition.year texts ss × IsRequest out (asked_request o ss shows)

-- what is read of these has no request in JSON, or one that nests too deep, or memory runs out
abbrev pub AreTextsUnwritten : RequestOptions → List (List ℕ) → List Show → RequestFault → Type 0
AreTextsUnwritten o texts shows e =
    (e ≡ OutOfMemory)
    ⊎ ((ss : List SyntaxView) × AreRead o.edition.year texts ss × writing.IsDataUnwritten (asked_data o ss shows) e)
