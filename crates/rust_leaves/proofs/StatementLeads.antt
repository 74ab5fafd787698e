-- What is left behind a statement is left of the tokens before it.
use Rattle.std.proofs.Common.{◌==◌, ◌||◌, ℕ, zero, suc, Bool, codes, bytes_eq}
use Rattle.rust_leaves.proofs.Common.{Tokens, Reader, symbol, word, kind, is_at_end, is_pair, begins_item, LeadsTo, here, further, through, Forwards, when, bumped_leads, behind_tree_leads, Scan, Step, is_block_word, is_label_kind, behind_label, behind_block_word, block_start, is_block_at, is_use_of, behind_else, behind_own_block, plain_step, part_step, statement_step, by_step, statement_from, statement}
use Rattle.rust_leaves.specs.declared.statements.Scan.TheVariants as scans
use Rattle.rust_leaves.specs.declared.statements.Step.TheVariants as steps

label_leads : (ts : Tokens) → LeadsTo ts (behind_label ts)
unfolding behind_label
label_leads ts = when (is_label_kind (kind ts)) (λ e. rw e (further (bumped_leads _))) (λ e. rw e here)

block_word_leads : (ts : Tokens) → LeadsTo ts (behind_block_word ts)
unfolding behind_block_word
block_word_leads ts = when (is_block_word (word ts)) (λ e. rw e (bumped_leads ts)) (λ e. rw e here)

block_start_leads : (ts : Tokens) → LeadsTo ts (block_start ts)
unfolding block_start
block_start_leads ts = through (label_leads ts) (through (block_word_leads _) (through (block_word_leads _) (block_word_leads _)))

plain_step_leads : (s : Scan) → Forwards (plain_step s)
unfolding plain_step
plain_step_leads s ts = when (is_use_of ts) (λ e. rw e (further (bumped_leads _))) (λ e. rw e (behind_tree_leads ts))

else_leads : (blocks : ℕ) → Forwards (behind_else blocks)
else_leads blocks ts = when (bytes_eq (word ts) (codes "if")) (λ e. rw e (bumped_leads ts)) (λ e. rw e here)

block_leads : (blocks : ℕ) → Forwards (behind_own_block blocks)
unfolding behind_own_block
block_leads blocks ts = when (bytes_eq (word ts) (codes "else")) (λ e. rw e (further (else_leads blocks _))) (λ e. rw e here)

part_step_leads : (s : Scan) → Forwards (part_step s)
unfolding part_step
part_step_leads (scans.Let blocks) ts = when (is_pair 46 61 ts) (λ e. rw e (further (bumped_leads _))) (λ e. rw e (plain_step_leads _ ts))
part_step_leads (scans.Header blocks) ts =
    when (symbol ts == 123) (λ e. rw e (through (behind_tree_leads ts) (block_leads blocks _))) (λ e. rw e (plain_step_leads _ ts))
part_step_leads s ts = plain_step_leads s ts

step_leads : (s : Scan) → Forwards (statement_step s)
unfolding statement_step
step_leads s ts =
    when (is_at_end ts || begins_item ts) (λ e. rw e here)
    (λ e. rw e (when (symbol ts == 59) (λ f. rw f (bumped_leads ts)) (λ f. rw f (part_step_leads s ts))))

by_step_leads : (k : Step) (more : Scan → Reader Bool) → ((s : Scan) → Forwards (more s)) → Forwards (by_step k more)
by_step_leads steps.Stop more m ts = here
by_step_leads steps.End more m ts = here
by_step_leads (steps.On s) more m ts = m s ts

statement_from_leads : (n : ℕ) (s : Scan) → Forwards (statement_from n s)
statement_from_leads zero s ts = here
statement_from_leads (suc n) s ts = through (step_leads s ts) (by_step_leads (statement_step s ts).0 (statement_from n) (statement_from_leads n) (statement_step s ts).1)

pub statement_leads : Forwards statement
unfolding statement
statement_leads ts =
    when (is_block_at (block_start ts)) (λ e. rw e (through (block_start_leads ts) (statement_from_leads _ _ _))) (λ e. rw e (statement_from_leads _ _ ts))
