use Rattle.std.proofs.Common.{◌≡◌, ◌+◌, ℕ, Some, arith, ◌∙◌, sym, ap, drop}
use Rattle.rust_lexer.proofs.Common.{take_rest, run_length, Piece}
use Rattle.rust_lexer.specs.declared.bytes.Class.TheVariants as class
use Rattle.rust_lexer.proofs.Boundaries.{run_leads_behind, split_is}
use Rattle.rust_lexer.proofs.lexer.split.Goals as goal

pub split_at-requires : goal.split_at-requires
split_at-requires c =
    let n = c.args.cut.len + 1 in
    let run_is : c.run.result ≡ run_length class.Continuation (drop n c.args.text.now) =
    c.run.ensures.value ∙ ap (run_length class.Continuation) (take_rest c.as_bytes.result.now n)
    ∙ ap (λ l. run_length class.Continuation (drop n l)) c.as_bytes.ensures.value in
    (omega arith, λ below. run_leads_behind c.args.text.now n c.run.result run_is)

pub returns-clause-value : goal.returns-clause-value
returns-clause-value c =
    let n = c.args.cut.len + 1 in
    let run_is : c.run.result ≡ run_length class.Continuation (drop n c.args.text.now) =
    c.run.ensures.value ∙ ap (run_length class.Continuation) (take_rest c.as_bytes.result.now n)
    ∙ ap (λ l. run_length class.Continuation (drop n l)) c.as_bytes.ensures.value in
    split_is c.args.cut c.args.at (n + c.run.result) c.args.text.now c.split_at.result.0.now c.split_at.result.1.now c.requires.within
    (ap (λ (k : ℕ). n + k) run_is) c.split_at.ensures.front c.split_at.ensures.back
    ∙ ap (λ (t : Piece). Some (t, c.split_at.result.1.now)) (sym c.new.ensures)
