-- The items of a block in the body of a function, and the blocks in its expressions.
use Rattle.std.specs.Prelude.{ℕ, Bool, not, ◌==◌, ◌&&◌, nat_le, nat_lt, if◌then◌else◌, List, [], ◌∷◌, ◌++◌, codes, filter, filter_map, flat_map, map, Option, Some, None, option_map}
use Rattle.std.specs.List.{list_any}
use Rattle.hir_input.specs.declared.ast.Visibility.{Visibility}
use Rattle.hir_input.specs.declared.edition.EditionYear.{EditionYear}
use Rattle.hir_input.specs.declared.ids.AstIdKind.{AstIdKind}
use Rattle.hir_input.specs.declared.ids.AstIdKind.TheVariants as kind
use Rattle.hir_input.specs.declared.ids.FileAstId.{FileAstId}
use Rattle.hir_input.specs.Cfg.{AtomView}
use Rattle.item_tree.specs.declared.visibility.RawVisibility.{RawVisibility}
use Rattle.item_tree.specs.Visibility.{read_visibility}
use Rattle.tree_walk.specs.Rows.{RowView, no_subject}
use Rattle.rust_cursor.specs.Tokens.{Tokens, tokens_of}
use Rattle.rust_cursor.specs.Reader.{Reader}
use Rattle.rust_cursor.specs.Words.{at, bumped, eat, is_at_identifier, is_at_open, is_empty, symbol}
use Rattle.rust_cursor.specs.Brackets.{behind_tree}
use Rattle.rust_cursor.specs.Elements.{turns, perhaps}
use Rattle.rust_cursor.specs.Grammar.{reads}
use Rattle.rust_paths.specs.Names as names
use Rattle.rust_paths.specs.declared.names.TextRange.{TextRange}
use Rattle.rust_metas.specs.Docs.{kept_metas}
use Rattle.rust_metas.specs.declared.wanted.WantedMetas.TheVariants as wanted
use Rattle.rust_leaves.specs.Fronts.{FrontRead, front}
use Rattle.rust_items.specs.declared.source_file.ItemPlace.{ItemPlace}
use Rattle.rust_items.specs.Blocks.{found_of}
use Rattle.rust_items.specs.LineEnds.{moved_span, place_in, with_feeds}
use Rattle.rust_items.specs.Members.{range_moved_by}
use Rattle.rust_items.specs.SourceFiles.{places}
use Rattle.source_rows.specs.Labels.{text_at}
use Rattle.source_listing.specs.MetaCfgs.{holds_no_false, meta_cfgs}

-- a block in the body of a function: the word for that, the names from the outermost around it on, its own last, whether no cfg disables it; and the block's text, with the place where that begins
pub record FnBlock : Type 0 where
  pub word : List ℕ
  pub scope : List (List ℕ)
  pub is_active : Bool
  pub base : ℕ
  pub text : List ℕ

-- ---- where items stand

-- of an item of a block nothing asks for more of its id
abbrev pub bare_id : AstIdKind → FileAstId
bare_id k = record { kind = k; hash = 0; number = 0 }

abbrev pub bare_place : ItemPlace → ItemPlace
bare_place p = record { id = bare_id p.id.kind; range = p.range; name = p.name; body = p.body }

-- where the items of a block stand in its text
unfoldable pub block_places : EditionYear → List ℕ → List ItemPlace
block_places edition text =
    let found = found_of edition (with_feeds text) in
    places (map (λ r. bare_id r.kind) found.rows) (map (moved_span (place_in text)) found.spans)

-- the same in a text with so many bytes in front
abbrev pub place_moved_by : ℕ → ItemPlace → ItemPlace
place_moved_by by p = record { id = p.id; range = range_moved_by by p.range; name = option_map (range_moved_by by) p.name; body = option_map (range_moved_by by) p.body }

-- ---- the blocks in expressions

-- a macro is called: what it is given is passed over
abbrev pub is_call_here : Tokens → Bool
is_call_here ts = is_at_identifier ts && (symbol (bumped ts) == 33 && is_at_open (bumped (bumped ts)))

abbrev pub stands_around : ℕ → ItemPlace → Bool
stands_around place p = nat_le p.range.start place && nat_lt place p.range.end

-- braces that stand in none of these items
abbrev pub own_braces : List ItemPlace → ℕ → ℕ → Option TextRange
own_braces ps start end = if list_any (stands_around start) ps then None else Some (record { start = start; end = end })

unfoldable pub braces_turn : List ItemPlace → Reader (Option TextRange)
braces_turn ps ts =
    if is_call_here ts then (None, behind_tree (bumped (bumped ts)))
    else (if symbol ts == 123 then (own_braces ps (at ts) (behind_tree ts).past, behind_tree ts) else (None, bumped ts))

-- the outermost braces in those of a block with these items
unfoldable pub inner_blocks : EditionYear → List ItemPlace → List ℕ → List TextRange
inner_blocks edition ps text = (turns is_empty (perhaps (braces_turn ps)) (eat 123 (tokens_of edition text)).1).0

-- ---- what is read of an item

-- its name, who sees it, and whether no cfg in front of it disables it
pub record BlockItem : Type 0 where
  pub name : Option (List ℕ)
  pub visibility : Option RawVisibility
  pub is_enabled : Bool

abbrev pub block_item_name : EditionYear → Option TextRange → List ℕ → Option (List ℕ)
block_item_name edition None text = None
block_item_name edition (Some r) text = (reads names.name (tokens_of edition (text_at text r))).0

-- all that have a tag have a visibility, but for `macro_rules`
abbrev pub block_item_visibility : AstIdKind → Option Visibility → Option RawVisibility
block_item_visibility kind.MacroRules v = None
block_item_visibility _ v = Some (read_visibility v)

abbrev pub block_item_front : EditionYear → List ℕ → FrontRead
block_item_front edition text = (front (tokens_of edition text)).0

abbrev pub block_item : EditionYear → List AtomView → List ℕ → ItemPlace → BlockItem
block_item edition options text p = let h = block_item_front edition (text_at text p.range) in record {
  name = block_item_name edition p.name text;
  visibility = block_item_visibility p.id.kind h.visibility;
  is_enabled = holds_no_false options (flat_map meta_cfgs (kept_metas wanted.Conditions h.attrs));
}

-- ---- what stands around an item

-- a module or an extern block: where it ends, the name of a module, and whether no cfg in front of it disables it
pub record Holder : Type 0 where
  pub end : ℕ
  pub name : Option (List ℕ)
  pub is_enabled : Bool

-- those that end behind a place
abbrev pub still_around : ℕ → List Holder → List Holder
still_around place hs = filter (λ h. nat_lt place h.end) hs

-- those around what follows an item
abbrev pub holders_behind : AstIdKind → ℕ → BlockItem → List Holder → List Holder
holders_behind kind.Module end i hs = hs ++ record { end = end; name = i.name; is_enabled = i.is_enabled } ∷ []
holders_behind kind.ExternBlock end i hs = hs ++ record { end = end; name = None; is_enabled = i.is_enabled } ∷ []
holders_behind _ end i hs = hs

abbrev pub modules_of : List Holder → List (List ℕ)
modules_of hs = filter_map (λ h. h.name) hs

-- the word for the innermost: the function, or one of these modules
abbrev pub word_inside : List ℕ → List (List ℕ) → List ℕ
word_inside word [] = word
word_inside word (m ∷ ms) = codes "module"

-- none of these is disabled
abbrev pub all_enabled : List Holder → Bool
all_enabled hs = not (list_any (λ h. not h.is_enabled) hs)

-- the row of an item of a block in these; levels count anew in a block
abbrev pub block_row : FnBlock → List Holder → BlockItem → ItemPlace → RowView
block_row b hs i p = record {
  level = 0;
  scope = b.scope ++ modules_of hs;
  id = p.id;
  name = i.name;
  subject = no_subject;
  visibility = i.visibility;
  is_active = b.is_active && (all_enabled hs && i.is_enabled);
}
