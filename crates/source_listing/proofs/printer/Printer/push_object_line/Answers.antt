use Rattle.std.proofs.Common.{ap, map, ◌∙◌}
use Rattle.serde_json.specs.Written.{has_float}
use Rattle.source_listing.specs.Inner.{entry_view, reserved_of}
use Rattle.source_listing.proofs.NoFloats.{flat_object_none}
use Rattle.source_listing.proofs.printer.Printer.push_object_line.Goals as goal

pub value_line-requires : goal.value_line-requires
value_line-requires c = ap has_float c.in_ok-object.ensures ∙ flat_object_none c.args.self.now.path.now (reserved_of c.args.self.now) (map (λ n. n.now) c.args.scope.now) (entry_view c.args.entry)
