-- What is written is read again.
use Rattle.std.specs.Prelude.{◌≡◌, Bool, true, false}
use Rattle.serde_json.specs.Data.{Data}
use Rattle.serde_json.specs.Written.{has_float}
use Rattle.hir_input.specs.Bodies.{without_bodies}
use Rattle.hir_input.specs.Syntax.{SyntaxView}
use Rattle.hir_input_json.specs.Reading.{right}
use Rattle.hir_input_json.specs.Syntaxes.{syntax}

-- with the bodies, or without
abbrev pub kept_bodies : Bool → SyntaxView → SyntaxView
kept_bodies true s = s
kept_bodies false s = without_bodies s

-- the data is read as the syntax, and no number of it is a float
pub record IsReadAs (s : SyntaxView) (d : Data) : Type 0 where
  pub reads : syntax d ≡ right s
  pub no_float : has_float d ≡ false
