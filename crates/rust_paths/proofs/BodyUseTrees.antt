-- Use trees of tokens beside are the same, until one goes into the braces; where they begin is told alike.
use Rattle.rust_paths.proofs.Common.{Bodies, Beside, Tokens, SamePlace, into_braces, braces_enter, went_until, use_tree}
use Rattle.rust_cursor.proofs.BodyValues.{UntilBy}
use Rattle.rust_paths.proofs.UseTrees as alike

pub use_tree_until : (b : Bodies) (ts us : Tokens) → Beside b ts us → UntilBy (alike.SameFound (SamePlace b)) b (use_tree ts) (use_tree us)
use_tree_until b ts us h = went_until (alike.use_tree_until (into_braces b) (braces_enter b) ts us h)
