-- What the steps of collecting say of what they found.
use Rattle.std.specs.Prelude.{◌≡◌, List, [], ◌∷◌, ◌++◌, Option, None, Some, option_map}
use Rattle.std.specs.Borrow.{Bor}
use Rattle.either.specs.declared.Either.{Either, TheVariants.Left, TheVariants.Right}
use Rattle.hir_input.specs.{declared.attr.Attr.Attr, declared.cfg.CfgExpr.CfgExpr, Cfg.cfg_view}
use Rattle.item_tree_attrs.specs.Collected.{Collected, Event}

-- what was found, as a list of events
abbrev pub found_events : Option (Either Attr (Bor CfgExpr)) → List Event
found_events None = []
found_events (Some (Left attr)) = Left attr ∷ []
found_events (Some (Right cfg)) = Right (cfg_view cfg.now) ∷ []

-- the attributes of c now stand behind those that were there, and its false cfg was met
pub record AddsCollected (old new : List Attr) (met : Option (Bor CfgExpr)) (c : Collected) : Type 0 where
  pub attrs : new ≡ old ++ c.attrs
  pub false_cfg : option_map (λ cfg. cfg_view cfg.now) met ≡ c.false_cfg
