use Rattle.std.proofs.Common.{◌<◌, ◌^◌, length, arith, rules}
use Rattle.hir_input_json.proofs.name.names_of.Goals as goal

pub overflow_add-place : goal.overflow_add-place
overflow_add-place c =
    let small : length c.loop-item.names.items < 2 ^ 63 = search rules in
    omega (arith, small, c.requires)
