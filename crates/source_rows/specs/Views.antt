-- Files as plain data.
use Rattle.source_rows.specs.declared.source.Source as code_source
use Rattle.source_rows.specs.Sources.{Source}

-- a file as plain data
abbrev pub source_view : code_source.Source → Source
source_view s = record { path = s.path.now; text = s.text.now }
