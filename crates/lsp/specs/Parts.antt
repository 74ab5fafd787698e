-- Where the items and members of a document stand.
use Rattle.std.specs.Prelude.{◌≡◌, ℕ, nat_le, Bool, true, false, ◌&&◌, List, [], ◌∷◌, codes, flat_map, map, Option, Some}
use Rattle.serde_json.specs.Data.{Data, object, no_members, member}
use Rattle.line_index.specs.declared.Units.{Units}
use Rattle.rust_paths.specs.declared.names.TextRange.{TextRange}
use Rattle.rust_items.specs.declared.source_file.ItemPlace.{ItemPlace}
use Rattle.rust_items.specs.SourceFiles.{FileView}
use Rattle.source_rows.specs.Listed.{Closers, Listed, MemberReading, members_of}
use Rattle.source_rows.specs.ListedFiles.{IsListedFile}
use Rattle.itemtree_commands.specs.Answers.{reading_in}
use Rattle.itemtree_commands.specs.declared.Options.{Options}
use Rattle.lsp.specs.Bytes.{range_span}
use Rattle.lsp.specs.Positions.{span_object}
use Rattle.lsp.specs.Symbols.{member_selection}
use Rattle.lsp.specs.declared.parts.Part.{Part}

-- a member: its range, its name and its braces
abbrev pub listed_part : List ℕ → Listed → Part
listed_part text m = record { range = m.range; name = Some (member_selection text m); body = m.body }

-- an item that stands there, and behind it its members
abbrev pub parts_at : List ℕ → MemberReading → ItemPlace → List Part
parts_at text x p = record { range = p.range; name = p.name; body = p.body } ∷ map (listed_part text) (members_of x (Some p) true)

-- the parts of a text that is Rust, in its order, by what lists read of it; another has none
abbrev pub AreTextParts : Options → Bool → List ℕ → List Part → Type 0
AreTextParts o false text ps = ps ≡ []
AreTextParts o true text ps =
    (closers : Option Closers) × (file : FileView) × IsListedFile o.edition.year text closers file
    × (ps ≡ flat_map (parts_at text (reading_in o true (record { path = []; text = text }) closers)) file.places)

-- a byte stands in a range or at its end
abbrev pub holds_byte : ℕ → TextRange → Bool
holds_byte at r = nat_le r.start at && nat_le at r.end

-- the object of a range
abbrev pub range_data : Units → List ℕ → TextRange → Data
range_data units text r = object (member (codes "range") (span_object (range_span units text r)) no_members)
