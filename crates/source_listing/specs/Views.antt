-- What the code holds, as plain data.
use Rattle.std.specs.Prelude.{map, option_copied, string_bytes}
use Rattle.tree_walk.specs.Views.{subject_view}
pub use Rattle.source_rows.specs.Views.{source_view}
pub use Rattle.source_rows.specs.ListedViews.{reading_view}
use Rattle.source_listing.specs.declared.entries.Item as code_item
use Rattle.source_listing.specs.declared.lines.Choice as code_choice
use Rattle.source_listing.specs.declared.patterns.Pattern as code_pattern
use Rattle.source_listing.specs.declared.search.Candidate as code_candidate
use Rattle.source_listing.specs.declared.search.Query as code_query
use Rattle.source_listing.specs.declared.sought.SoughtPath as code_sought
use Rattle.source_listing.specs.Sought.{Sought}
use Rattle.source_listing.specs.Entries.{ItemView}
use Rattle.source_listing.specs.Lines.{Choice}
use Rattle.source_listing.specs.declared.outlines.Look as code_look
use Rattle.source_listing.specs.Outlines.{Look}
use Rattle.source_listing.specs.Patterns.{Pattern}
use Rattle.source_listing.specs.Search.{Candidate, Query}
use Rattle.source_listing.specs.declared.uses.UseTrees as code_trees
use Rattle.source_listing.specs.Uses.{Trees}

-- an item as plain data
abbrev pub shown_item_view : code_item.Item → ItemView
shown_item_view x = record { id = x.id; name = option_copied x.name; subject = subject_view x.subject; visibility = option_copied x.visibility; is_active = x.is_active }

-- a choice of items as plain data
abbrev pub choice_view : code_choice.Choice → Choice
choice_view c = record { depth = c.depth; only_active = c.only_active }

-- what is told and how, as plain data
abbrev pub look_view : code_look.Look → Look
look_view k = record { choice = choice_view k.choice; form = k.form; is_flat = k.is_flat; has_imports = k.has_imports }

-- what is looked for, as plain data
abbrev pub query_view : code_query.Query → Query
query_view q = record {
  scope = q.scope.now;
  name = q.name.now;
  is_anywhere = q.is_anywhere;
  ignores_case = q.ignores_case;
  kinds = map (λ k. k.now) q.kinds.now;
  only_active = q.only_active;
  form = q.form;
}

-- an item or a member with a name, as plain data
abbrev pub candidate_view : code_candidate.Candidate → Candidate
candidate_view c = record { id = c.id; at = c.at; range = c.range; word = c.word.now; scope = string_bytes c.scope; name = c.name; is_active = c.is_active }

-- a path that is looked for, as plain data
abbrev pub sought_view : code_sought.SoughtPath → Sought
sought_view a = record { path = string_bytes a.path; is_anywhere = a.is_anywhere }

-- the same of a path of which the last name is a glob
abbrev pub pattern_view : code_pattern.Pattern → Pattern
pattern_view p = record { scope = string_bytes p.scope; name = string_bytes p.name; is_anywhere = p.is_anywhere }

-- a use item's place and where its use trees begin, as plain data
abbrev pub placed_trees_view : code_trees.UseTrees → Trees
placed_trees_view t = record { place = t.place; starts = t.starts.now }
