-- What the code holds, as plain data.
use Rattle.std.specs.Prelude.{ℕ, List, Option, Some, None, option_copied, option_map, string_bytes}
use Rattle.source_rows.specs.declared.listed.ListedMember.{ListedMember}
use Rattle.source_rows.specs.declared.mended_file.MendedFile.{MendedFile}
use Rattle.source_rows.specs.declared.reading.Reading as code_reading
use Rattle.source_rows.specs.Listed.{Closers, Listed, MemberReading}

-- a listed member as plain data
abbrev pub listed_view : ListedMember → Listed
listed_view m = record { kind = m.kind; name = m.name; visibility = m.visibility; at = m.at; range = m.range; body = m.body; read_body = m.read_body; is_active = m.is_active }

-- where closers were put in a mended text, and where its items stand, as plain data
abbrev pub closers_view : MendedFile → Closers
closers_view m = record { puts = m.mended.puts.items; items = m.items.items }

-- the text that is read of a file: its own, or the mended one
abbrev pub text_read : List ℕ → Option MendedFile → List ℕ
text_read text None = text
text_read text (Some m) = string_bytes m.mended.text

-- how members are read, as plain data
abbrev pub reading_view : code_reading.Reading → MemberReading
reading_view x = record {
  text = text_read x.text.now (option_copied x.mended);
  closers = option_map closers_view (option_copied x.mended);
  edition = x.edition;
  options = option_copied x.options;
}
