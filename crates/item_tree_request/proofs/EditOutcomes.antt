-- What the outcome of all edits says of the sizes of each.
use Rattle.std.proofs.Common.{◌≡◌, ◌≢◌, ℕ, ◌+◌, ◌<◌, ◌≤◌, eq-or-lt_of_le, inl, inr, List, [], Some, length, take, map, option_map, slice_get, ap, ◌∙◌, subst, arith}
use Rattle.item_tree_request.proofs.Common.{length-take-le, State, present, EditView, set, remove, set_cfg, IsAfter, under_options, crate_after, present_after, last_number, FirstFit, TreePasses, PassesAfter, IsCause, IsMade, IsUnmade, refusal_of, NonePasses, PassesAt}
use Rattle.std.proofs.lemmas.Option.{slice_get-map, slice_get_within}
use Rattle.item_tree.specs.declared.fault.EditFault.{EditFault}
use Rattle.item_tree.specs.declared.fault.EditFault.TheVariants.{TooManyEdits, Lower}
use Rattle.item_tree.specs.declared.fault.LowerError.{LowerError}
use Rattle.item_tree.specs.declared.fault.LowerError.TheVariants.{TooManyItems, TooManyVisibilities, TooManyUseTrees, TooManyAttributes, TooManySupers, OutOfMemory}

pub is_made : (s u : State) (edits : List EditView) → IsAfter s edits u → u.number ≤ last_number → FirstFit s edits (length edits) → IsMade s edits u
is_made s u edits after small fit = record { after = after; none_passes = record { numbers = omega (arith, small, after.number); trees = fit } }

none_before : (s u : State) (edits : List EditView) (place : ℕ) → place ≤ length edits → IsAfter s (take place edits) u → u.number ≤ last_number → FirstFit s edits place → NonePasses s edits place
none_before s u edits place within after small fit = record { numbers = omega (arith, small, after.number, length-take-le place edits within); trees = fit }

full_at : (s u : State) (edits : List EditView) (place : ℕ) → place < length edits → IsAfter s (take place edits) u → u.number ≡ last_number → PassesAt s edits place TooManyEdits
full_at s u edits place within after full = (within, omega (arith, full, after.number, length-take-le place edits (omega (arith, within))))

-- what an edit passes in the table after others, it passes after those
passes_front : (s u : State) (before : List EditView) (edit : EditView) (error : LowerError) → IsAfter s before u → PassesAfter u [] edit error → PassesAfter s before edit error
passes_front s u before (set place syntax) error after h =
    (h.0, subst (λ names. TreePasses names place (crate_after s before h.0) (Some syntax) error) after.skipped (subst (λ krate. TreePasses u.skipped place krate (Some syntax) error) (after.crates h.0) h.1))
passes_front s u before (remove place) error after h = absurd h
passes_front s u before (set_cfg i options) error after h =
    let krate = under_options (Some options) (crate_after s before i) in (
      h.0,
      subst (λ names. TreePasses names h.0 krate (present_after s before h.0) error) after.skipped
          (subst (λ syntax. TreePasses u.skipped h.0 krate syntax error) (after.syntaxes h.0)
          (subst (λ k. TreePasses u.skipped h.0 (under_options (Some options) k) (present u h.0) error) (after.crates i) h.1)),
    )

-- the cause of a refusal that is a size
size_of : (u : State) (edit : EditView) (error : LowerError) → error ≢ OutOfMemory → IsCause u edit (Lower error) → PassesAfter u [] edit error
size_of u (set place syntax) error size (inl e) = absurd (size e)
size_of u (set place syntax) error size (inr h) = h
size_of u (remove place) error size h = absurd h
size_of u (set_cfg i options) error size (inl e) = absurd (size e)
size_of u (set_cfg i options) error size (inr h) = h

-- an edit refused in the table after others
tree_passes : (s u : State) (edits : List EditView) (place : ℕ) (edit : EditView) (error : LowerError)
    → IsAfter s (take place edits) u → slice_get edits place ≡ Some edit → s.number + place + 1 ≤ last_number → NonePasses s edits place → IsCause u edit (Lower error) → IsUnmade s edits (refusal_of place (Lower error))
tree_passes s u edits place edit TooManyItems after found numbered none cause = (none, (numbered, (edit, found, passes_front s u (take place edits) edit TooManyItems after (size_of u edit TooManyItems (λ e. cc) cause))))
tree_passes s u edits place edit TooManyVisibilities after found numbered none cause = (none, (numbered, (edit, found, passes_front s u (take place edits) edit TooManyVisibilities after (size_of u edit TooManyVisibilities (λ e. cc) cause))))
tree_passes s u edits place edit TooManyUseTrees after found numbered none cause = (none, (numbered, (edit, found, passes_front s u (take place edits) edit TooManyUseTrees after (size_of u edit TooManyUseTrees (λ e. cc) cause))))
tree_passes s u edits place edit TooManyAttributes after found numbered none cause = (none, (numbered, (edit, found, passes_front s u (take place edits) edit TooManyAttributes after (size_of u edit TooManyAttributes (λ e. cc) cause))))
tree_passes s u edits place edit TooManySupers after found numbered none cause = (none, (numbered, (edit, found, passes_front s u (take place edits) edit TooManySupers after (size_of u edit TooManySupers (λ e. cc) cause))))
tree_passes s u edits place edit OutOfMemory after found numbered none cause = tt

-- where a number is left, more edits are not the cause
below_last : (n : ℕ) (error : LowerError) → n ≤ last_number → (n ≡ last_number → Lower error ≡ TooManyEdits) → n < last_number
below_last n error small full = elim (eq-or-lt_of_le small) as (λ _. n < last_number) [ inl e ↦ let h = full e in absurd cc | inr l ↦ l ]

pub is_unmade : (s u : State) (edits : List EditView) (place : ℕ) (edit : EditView) (cause : EditFault)
    → slice_get edits place ≡ Some edit → IsAfter s (take place edits) u → u.number ≤ last_number → FirstFit s edits place → IsCause u edit cause → (u.number ≡ last_number → cause ≡ TooManyEdits)
    → IsUnmade s edits (refusal_of place cause)
is_unmade s u edits place edit TooManyEdits found after small fit cause full =
    let within = slice_get_within edits place edit found in
    (none_before s u edits place (omega (arith, within)) after small fit, full_at s u edits place within after cause)
is_unmade s u edits place edit (Lower error) found after small fit cause full =
    let within = slice_get_within edits place edit found in
    let below : u.number < last_number = below_last u.number error small full in
    let numbered : s.number + place + 1 ≤ last_number = omega (arith, below, after.number, length-take-le place edits (omega (arith, within))) in
    tree_passes s u edits place edit error after found numbered (none_before s u edits place (omega (arith, within)) after small fit) cause

-- an element seen as its value
pub found_in_map : {A B : Type 0} → (v : A → B) (xs : List A) (k : ℕ) (x : A) → slice_get xs k ≡ Some x → slice_get (map v xs) k ≡ Some (v x)
found_in_map v xs k x h = slice_get-map v xs k ∙ ap (option_map v) h
