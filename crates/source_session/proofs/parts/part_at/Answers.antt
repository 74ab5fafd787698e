use Rattle.std.proofs.Common.{◌≡◌, ◌<◌, ◌≤◌, length, get_or, rules}
use Rattle.source_session.proofs.Pieces.{part_found, part_past}
use Rattle.source_session.proofs.parts.part_at.Goals as goal

pub returns-in-Some : goal.returns-in-Some
returns-in-Some c =
    let ps = c.args.parts.now in
    let p = c.in-Some.part.now in
    let within : c.args.at < length ps = search rules in
    let is : p ≡ get_or ps c.args.at p = search rules in
    part_found ps c.args.at p within is

pub returns-in-None : goal.returns-in-None
returns-in-None c =
    let past : length c.args.parts.now ≤ c.args.at = search rules in
    part_past c.args.parts.now c.args.at past
