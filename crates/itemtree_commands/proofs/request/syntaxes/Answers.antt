use Rattle.std.proofs.Common.{◌∙◌, ◌∷◌, [], ap, map, refl, rules, string_bytes, subst, sym}
use Rattle.std.proofs.lemmas.List.{map-append}
use Rattle.itemtree_commands.proofs.Common.{syntax_view}
use Rattle.itemtree_commands.specs.RequestTexts.{AreRead}
use Rattle.itemtree_commands.proofs.RequestTexts.{one_more_turn}
use Rattle.itemtree_commands.proofs.request.syntaxes.Goals as goal

pub loop-text-preserved : goal.loop-text-preserved
loop-text-preserved c = record {
  read = subst (AreRead c.args.edition _) (sym (ap (map syntax_view) c.in_ok-push.ensures.items ∙ map-append syntax_view c.loop-text.files.items (c.in_ok-file.file.syntax ∷ [])))
      (one_more_turn c.args.edition string_bytes c.args.texts.now c.loop-text.text-index c.text-item.result (map syntax_view c.loop-text.files.items) (syntax_view c.in_ok-file.file.syntax) (search rules) c.text-item.is c.loop-text.invariant.read
      (c.in_ok-file.file, search rules, refl));
}
