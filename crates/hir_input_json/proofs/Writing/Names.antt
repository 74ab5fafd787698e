-- A name is read again.
use Rattle.std.proofs.Common.{◌≡◌, ℕ, List, Some, refl}
use Rattle.hir_input_json.proofs.Writing.Common.{IsName, name_in}
use Rattle.hir_input.proofs.Naming.{new_name}

pub name_read : (text : List ℕ) → IsName text → name_in text ≡ Some text
name_read text h = new_name text (Some text) (h, refl)
