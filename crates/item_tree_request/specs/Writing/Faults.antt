-- Why a request is not written.
use Rattle.std.specs.Prelude.{◌≡◌, ◌<◌, Option, Some, None}
use Rattle.serde_json.specs.Data.{Data, depth}
use Rattle.serde_json.specs.Read.{max_depth}
use Rattle.hir_input_json.specs.declared.write.fault.WriteFault.{WriteFault}
use Rattle.hir_input_json.specs.declared.write.fault.WriteFault.TheVariants as write
use Rattle.item_tree_request.specs.declared.write.request.RequestFault.{RequestFault}
use Rattle.item_tree_request.specs.declared.write.request.RequestFault.TheVariants.{NoForm, TooDeep, OutOfMemory}

-- a fault of what is in a request, as one of the request
abbrev pub fault_of : WriteFault → RequestFault
fault_of write.NoForm = NoForm
fault_of write.OutOfMemory = OutOfMemory

-- there is no data to be written, or it nests too deep for a text, or memory runs out
abbrev pub IsDataUnwritten : Option Data → RequestFault → Type 0
IsDataUnwritten wanted NoForm = wanted ≡ None
IsDataUnwritten wanted TooDeep = (d : Data) × (wanted ≡ Some d) × (max_depth < depth d)
IsDataUnwritten wanted OutOfMemory = Unit {0}

-- the data nests too deep for a text, or memory runs out
abbrev pub IsNoText : Data → RequestFault → Type 0
IsNoText d NoForm = ⊥
IsNoText d TooDeep = max_depth < depth d
IsNoText d OutOfMemory = Unit {0}
