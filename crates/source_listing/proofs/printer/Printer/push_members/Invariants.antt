use Rattle.source_listing.proofs.Common.{◌≡◌, ◌++◌, map, take, string_bytes, flat_map, listed_view, look_view, IsSameFile, file_of, reserved_of}
use Rattle.source_listing.specs.Outlines.{member_text}
use Rattle.source_listing.proofs.printer.Printer.push_members.Given as goal

abbrev pub invariant-loop-member : goal.invariant-loop-member
invariant-loop-member l =
    let text = member_text (file_of l.fn.self) (reserved_of l.fn.self) (look_view l.fn.look) l.fn.level (map (λ n. n.now) l.fn.scope) in
    record {
      text : string_bytes l.out ≡ string_bytes l.fn.out ++ flat_map text (map listed_view (take l.member-index l.fn.members));
      same : IsSameFile l.fn.self l.self;
    }
