-- The data of a null.
use Rattle.std.proofs.Common.{◌≡◌, rules}
use Rattle.serde_json.specs.Data.{null}
use Rattle.serde_json.specs.View.{view}
use Rattle.serde_json.specs.declared.value.Value.{Null, the_lemmas}

pub view-Null : view Null ≡ null
view-Null = search (rules, the_lemmas)
