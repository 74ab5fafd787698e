use Rattle.rust_paths.proofs.MeantPaths.{readable_node}
use Rattle.rust_paths.proofs.meaning.PathWords.into_node.Goals as goal

pub returns-in-Some : goal.returns-in-Some
returns-in-Some c =
    readable_node c.self.inside.is_readable (record { kind = c.self.inside.kind; names = c.self.inside.names.items }) c.in-Some.path c.args.self
    c.self.view_is c.if-not-self.false (c.in-Some.ensures.0) (c.in-Some.ensures.1) c.self.invariant
