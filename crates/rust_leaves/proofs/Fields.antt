-- The fields of a struct: what is left behind one, and none are read behind the end of the header.
use Rattle.std.proofs.Common.{◌≡◌, ◌≤◌, ◌==◌, ◌||◌, ℕ, Bool, true, false, Option, None, refl, arith, if◌then◌else◌, not}
use Rattle.rust_leaves.proofs.Common.{nat_tests, Visibility, Tokens, symbol, is_at_end, eat, LeadsTo, through, Forwards, when, reached_leads, eat_leads, is_before, header_field, are_over, symbol_within}
use Rattle.rust_cursor.specs.Angles.{behind_field}
use Rattle.rust_metas.proofs.AttributeRests.{outer_attributes_leads}
use Rattle.rust_cursor.proofs.Rules.{rule_leads}
use Rattle.rust_paths.specs.Visibilities.{visibility}

-- behind its visibility
pub type_leads : (ts : Tokens) → LeadsTo ts (eat 44 (behind_field ts)).1
type_leads ts = through (reached_leads _ ts) (eat_leads 44 _)

pub field_leads : (end : ℕ) → Forwards (header_field end)
unfolding header_field
field_leads end ts = through (outer_attributes_leads ts) (through (rule_leads visibility _) (type_leads _))

-- ---- behind the end

pub not_before : (end : ℕ) (ts : Tokens) → end ≤ ts.past → is_before end ts ≡ false
not_before end ts h = grind (arith, nat_tests)

pub over_ends : (end : ℕ) (ts : Tokens) → end ≤ ts.past → are_over end ts ≡ true
over_ends end ts h = rw (not_before end ts h) (or_true (is_at_end ts))
  where
    or_true : (t : Bool) → (t || not false) ≡ true
    or_true true = refl
    or_true false = refl

-- no visibility is read there
pub none_seen : (t t' : Bool) (v v' : Option Visibility) → t ≡ false → t' ≡ false → (if t' then v' else None) ≡ (if t then v else None)
none_seen t t' v v' e f = rw (e, f) refl

pub symbol_is : (end : ℕ) (ts : Tokens) → (symbol_within end ts == 40) ≡ true → (symbol ts == 40) ≡ true
symbol_is end ts e = when (is_before end ts) (λ t. rw t at e) (λ t. absurd (let no = rw t at e in cc))
