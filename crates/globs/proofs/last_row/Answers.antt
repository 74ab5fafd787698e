use Rattle.std.proofs.Common.{◌≡◌, ℕ, ◌∙◌, [], ◌∷◌, ◌++◌, true, false, replicate, length, ap, arith}
use Rattle.globs.proofs.Rows.{last_is}
use Rattle.globs.proofs.last_row.Goals as goal

pub returns : goal.returns
returns c =
    let whole : c.loop-c._c-index ≡ length c.args.path.now = omega arith in
    last_is c.args.path.now c.push-2.new.self.items
    (c.in_ok-push-2.ensures.items ∙ ap (λ (r : _). r ++ true ∷ []) (c.loop-c.invariant ∙ ap (λ (n : ℕ). replicate n false) whole))
