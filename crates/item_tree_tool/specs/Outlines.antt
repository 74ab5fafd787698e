-- What is written of the shows of a request.
use Rattle.std.specs.Prelude.{◌≡◌, ℕ, List, [], ◌++◌}
use Rattle.item_tree_db.specs.State.{State, unfolding_at}
use Rattle.item_tree_request.specs.declared.request.show.Show.TheVariants.{OfTree, Changed}
use Rattle.item_tree_request.specs.declared.request.show.TreeShow.{TreeShow}
use Rattle.item_tree_request.specs.declared.request.show.ShowKind.{ShowKind}
use Rattle.item_tree_request.specs.declared.request.show.ShowKind.TheVariants.{Page, Tree, Imports}
use Rattle.item_tree_request.specs.Outputs.{ShowText, heading, AreChanges}
use Rattle.tree_walk.specs.Lines.{forest_lines}

-- the outline of a crate's tree of a place
unfoldable pub outline_of : State → TreeShow → List ℕ
outline_of u show = forest_lines [] (unfolding_at u show.place show.krate.0).forest

-- of a tree the line and the outline, of a page or imports the outline alone
abbrev pub show_text_as : ShowKind → State → TreeShow → List ℕ
show_text_as Page u show = outline_of u show
show_text_as Tree u show = heading u show ++ outline_of u show
show_text_as Imports u show = outline_of u show

-- the text of a show of a tree
abbrev pub show_text : State → TreeShow → List ℕ
show_text u show = show_text_as show.kind u show

-- the text of a show: that of a tree, or the lines of all changes since a number; reserved words do not matter to it
abbrev pub IsOutlined : ShowText
IsOutlined reserved u (OfTree show) text = text ≡ show_text u show
IsOutlined reserved u (Changed since) text = AreChanges u since text
