use Rattle.std.proofs.Common.{◌≡◌, [], length, string_bytes}
use Rattle.source_rows.proofs.Common.{first_spacing, spaced_tokens}
use Rattle.source_rows.proofs.headers.spaced_tokens.Given as goal

abbrev pub invariant-tokens : goal.invariant-tokens
invariant-tokens l = spaced_tokens l.is_cut (string_bytes l.out) l.spacing l.cursor ≡ spaced_tokens l.is_cut [] first_spacing l.initial.cursor

abbrev pub decreases-tokens : goal.decreases-tokens
decreases-tokens l = length l.cursor.left
