-- Where a part is too many modules, all is.
use Rattle.std.proofs.Common.{◌≡◌, ◌≤◌, length, Result, Err, IsErrOf, ap, arith}
use Rattle.module_tree.specs.declared.data.{ModuleTreeError.ModuleTreeError, ModuleTreeError.TheVariants.TooManyModules}
use Rattle.module_tree.specs.Inner.{AddsAll}
use Rattle.module_tree.specs.Modules.{FoundModules}

pub refuses : {A B : Type 0} (new new' all whole : FoundModules) (e : ModuleTreeError) → AddsAll {A = A} new all (Err e) → length all.modules ≤ length whole.modules → AddsAll {A = B} new' whole (Err e)
refuses {A} new new' all whole e a h = record {
  found = tt;
  few = tt;
  many = λ f.
      let failed : ModuleTreeError → Result A ModuleTreeError = λ x. Err x in
      let k : e ≡ TooManyModules = cc in
      let g : IsErrOf (failed e) TooManyModules = ap failed k in
      let part = a.many g in
      omega (arith, part, h);
}
