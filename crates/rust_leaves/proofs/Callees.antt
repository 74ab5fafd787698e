-- Macro calls, behind what they are called by.
use Rattle.std.proofs.Common.{◌≡◌, ◌&&◌, ◌∙◌, Bool, true, false, Option, Some, None, List, [], refl, is_some, if◌then◌else◌}
use Rattle.rust_leaves.proofs.Common.{MetaView, Tokens, Reader, begins_call, is_called, call_behind, some_read, invocation, item_call, bumped, when, bare_name, last_text}
use Rattle.rust_paths.specs.Paths.{path}
use Rattle.rust_leaves.proofs.ClippedLeaves.{invocation_clipped}
use Rattle.rust_leaves.specs.declared.wanted.Wanted.{Wanted}
use Rattle.rust_leaves.specs.Clipped.{with_value, wanted_leaf, wanted_leaf_if}
use Rattle.rust_leaves.specs.Kinds.{CalleeRead, callee}
use Rattle.rust_leaves.specs.Statements.{call_tree, statement_call}
use Rattle.rust_cursor.specs.Grammar.{reads}
use Rattle.rust_cursor.specs.Looks.{sees}

-- what is read behind what it is called by, if it is called
abbrev pub taken_by : {A : Type 0} → (CalleeRead → Reader A) → Option CalleeRead × Tokens → Option A × Tokens
taken_by more (None, ts) = (None, ts)
taken_by more (Some c, ts) = some_read (more c ts)

taken_if : {A : Type 0} (more : CalleeRead → Reader A) (b : Bool) (c : CalleeRead) (ts us : Tokens)
    → (if b then some_read (more c us) else (None, ts)) ≡ taken_by more (if b then (Some c, us) else (None, ts))
taken_if more true c ts us = refl
taken_if more false c ts us = refl

pub call_taken : (attrs : List MetaView) (ts : Tokens) → statement_call attrs ts ≡ taken_by (λ (c : CalleeRead). call_tree attrs c.path c.name) (callee ts)
unfolding statement_call callee
call_taken attrs ts =
    taken_if (λ (c : CalleeRead). call_tree attrs c.path c.name) (is_some (reads path ts).0 && sees is_called (reads path ts).1) (record { path = (reads path ts).0; name = bare_name (last_text (reads path ts).1.past ts) }) ts (bumped (reads path ts).1)

invocation_taken : (w : Wanted) (attrs : List MetaView) (ts : Tokens)
    → with_value (wanted_leaf_if w attrs) (invocation [] ts) ≡ taken_by (λ (c : CalleeRead) us. with_value (wanted_leaf w attrs) (call_behind [] c.path c.name us)) (callee ts)
unfolding callee
invocation_taken w attrs ts =
    invocation_clipped w attrs ts
    ∙ taken_if (λ (c : CalleeRead) us. with_value (wanted_leaf w attrs) (call_behind [] c.path c.name us)) (is_some (reads path ts).0 && sees is_called (reads path ts).1) (record { path = (reads path ts).0; name = bare_name (last_text (reads path ts).1.past ts) }) ts (bumped (reads path ts).1)

pub item_call_taken : (w : Wanted) (attrs : List MetaView) (ts : Tokens) → with_value (wanted_leaf_if w attrs) (item_call [] ts)
    ≡ (if begins_call ts then taken_by (λ (c : CalleeRead) us. with_value (wanted_leaf w attrs) (call_behind [] c.path c.name us)) (callee ts) else (None, ts))
unfolding with_value wanted_leaf_if item_call
item_call_taken w attrs ts = when (begins_call ts) (λ e. rw e (invocation_taken w attrs ts)) (λ e. rw e refl)
