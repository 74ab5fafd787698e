-- What the code holds, as plain data.
use Rattle.std.specs.Prelude.{option_copied, option_map}
use Rattle.source_rows.specs.ListedViews.{reading_view}
use Rattle.source_listing.specs.Views.{choice_view}
use Rattle.source_tags.specs.declared.line_searches.Line as code_line
use Rattle.source_tags.specs.LineSearches.{TextLine}
use Rattle.source_tags.specs.declared.tag_bodies.TagChoice as code_tags
use Rattle.source_tags.specs.Tags.{TagChoice}

-- which tags a file has, as plain data
abbrev pub tag_choice_view : code_tags.TagChoice → TagChoice
tag_choice_view a = record { reading = reading_view a.reading; choice = choice_view a.choice; bodies = option_copied a.bodies }

-- a line as plain data
abbrev pub line_view : code_line.Line → TextLine
line_view l = record { text = l.text.now; behind = option_map (λ s. s.now) l.behind }
