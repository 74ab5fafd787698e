-- Parts and files as plain data.
use Rattle.std.specs.Prelude.{string_bytes}
use Rattle.source_changes.specs.declared.text_parts.Part as code_part
use Rattle.source_changes.specs.declared.text_parts.Around as code_around
use Rattle.source_changes.specs.Parts.{Outer, Part}
use Rattle.source_changes.specs.declared.told.Side as code_side
use Rattle.source_rows.specs.Sources.{Source}

-- a part of an item as plain data
abbrev pub part_view : code_part.Part → Part
part_view p = record { label = string_bytes p.label; at = p.at; range = p.range; kept = p.kept; body = p.body; is_hidden = p.is_hidden }

abbrev pub outer_view : code_around.Around → Outer
outer_view a = record { end = a.end; name = a.name.now }

-- a file with what finds its lines, as plain data
abbrev pub lined_view : code_side.Side → Source
lined_view s = record { path = s.path.now; text = s.lines }
