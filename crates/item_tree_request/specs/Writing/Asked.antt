-- The request over syntaxes under options, and its data.
use Rattle.std.specs.Prelude.{List, Option, map}
use Rattle.serde_json.specs.Data.{Data}
use Rattle.hir_input.specs.Cfg.{atom_view}
use Rattle.hir_input.specs.Edition.{edition_view}
use Rattle.hir_input.specs.Syntax.{SyntaxView}
use Rattle.item_tree_request.specs.Requests.{Request}
use Rattle.item_tree_request.specs.declared.request.show.Show.{Show}
use Rattle.item_tree_request.specs.declared.write.request.RequestOptions.{RequestOptions}
use Rattle.item_tree_request.specs.Writing.{MeantRequests.meant_request, RequestData.request_data}

-- the request over these syntaxes
abbrev pub asked_request : RequestOptions → List SyntaxView → List Show → Request
asked_request o ss shows = meant_request o.bodies o.skipped.items (edition_view o.edition) (map atom_view o.cfg.items) ss shows

-- its data
abbrev pub asked_data : RequestOptions → List SyntaxView → List Show → Option Data
asked_data o ss shows = request_data o.bodies o.skipped.items (edition_view o.edition) (map atom_view o.cfg.items) ss shows
