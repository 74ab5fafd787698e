-- Trees that searches go through, and that what is found holds no float.
use Rattle.std.proofs.Common.{◌≡◌, ℕ, false, ◌||◌, List, Option, Some, None, All, flat_map, refl, ap}
use Rattle.serde_json.specs.Written.{has_float}
use Rattle.hir_input.specs.declared.ids.HirFileId.{HirFileId}
use Rattle.item_tree_db.specs.Since.{Change, IsLate, IsSince}
use Rattle.item_tree_db.specs.State.{IsKnown}
use Rattle.tree_walk.specs.Rows.{rows}
use Rattle.source_rows.specs.declared.finder.Spot.{Spot}
use Rattle.source_listing.specs.Search.{Candidate, found_in_rows}
use Rattle.source_listing.proofs.NoFloats.{flat_none, map_none}
use Rattle.source_session.proofs.Common.{All-weaker, AreUnfloating, Block, Crate, File, FileAstId, Place, Session, State, id_form, text_bytes, text_of_place, text_places, text_reading, unfolding_at}
use Rattle.source_session.specs.Searches.{change_matches, match_at, match_form, match_in_file, match_spot, query_of}
use Rattle.source_session.specs.Sought.{Searched}
use Rattle.source_session.specs.ShownTexts.{member_options}

-- ---- trees

-- changed trees are of known crates
pub changes_known : (s : State) (since : ℕ) (changes : List Change) → IsSince s since changes → All (λ c. IsKnown s c.1) changes
changes_known s since changes h = All-weaker (IsLate s since) (λ c. IsKnown s c.1) (λ c late. late.known) changes h.late

-- ---- floats

pub no_float_id : (id : Option FileAstId) → has_float (id_form id) ≡ false
no_float_id None = refl
no_float_id (Some id) = refl

no_float_in_file : (file : HirFileId) (krate : Crate) (spot : Option Spot) (c : Candidate) → has_float (match_in_file file krate spot c) ≡ false
no_float_in_file file krate None c = ap (λ b. b || false) (no_float_id c.id)
no_float_in_file file krate (Some spot) c = ap (λ b. b || false) (no_float_id c.id)

no_float_match : (place : Place) (krate : Crate) (spot : Option Spot) (c : Candidate) → has_float (match_form place krate spot c) ≡ false
no_float_match (File file) krate spot c = no_float_in_file file krate spot c
no_float_match (Block block) krate spot c = ap (λ b. b || false) (no_float_id c.id)

-- of all that is found
pub no_float_in_matches : (u : Session) (q : Searched) (changes : List Change) → AreUnfloating (flat_map (change_matches u q) changes)
no_float_in_matches u q changes =
    flat_none (change_matches u q) changes
    (λ c.
    let t = text_of_place u.texts c.0 in
    let x = text_reading u.edition.0 (member_options u.table c.1 q.has_members) t in
    map_none (match_at q.units (text_bytes t) c.0 c.1) (found_in_rows x (text_places t) (query_of q.pattern) (rows (unfolding_at u.table c.0 c.1.0)))
    (λ d. no_float_match c.0 c.1 (match_spot q.units (text_bytes t) d.at d.range) d))
