-- What a writing function answers beside the data that is to be written.
use Rattle.std.specs.Prelude.{◌≡◌, Option, Some, None, Result, MatchResult}
use Rattle.std.specs.declared.alloc.Global.{Global}
use Rattle.std.specs.declared.vec.Vec.{Vec}
use Rattle.serde_json.specs.Data.{Items}
use Rattle.serde_json.specs.View.{items_view}
use Rattle.serde_json.specs.declared.value.Value.{Value}
use Rattle.hir_input_json.specs.declared.write.fault.WriteFault.{WriteFault}
use Rattle.hir_input_json.specs.declared.write.fault.WriteFault.TheVariants.{NoForm}

-- the answer is the data, or there is none, or memory ran out
abbrev pub Writes : {T D : Type 0} → (T → D) → Result T WriteFault → Option D → Type 0
Writes view r wanted = MatchResult r (λ t. wanted ≡ Some (view t)) (λ e. e ≡ NoForm → wanted ≡ None)

-- the same of values one after another
abbrev pub WritesEach : Result (Vec Value Global) WriteFault → Option Items → Type 0
WritesEach r wanted = Writes (λ v. items_view v.items) r wanted
