-- Bytes as texts.
use Rattle.std.proofs.Common.{◌≡◌, Bool, true, false, ℕ, Some, None, if◌then◌else◌, List, IsUtf8, refl, ap, subst}
use Rattle.rust_metas.proofs.Common.{IsUtf8-from_is_utf8, is_utf8-from_IsUtf8, as_text}
use Rattle.std.specs.Str.{is_utf8}

pub is_text : (bytes found : List ℕ) → IsUtf8 found → found ≡ bytes → Some found ≡ as_text bytes
unfolding as_text
is_text bytes found u e = rw (is_utf8-from_IsUtf8 bytes (subst IsUtf8 e u)) (ap Some e)

no_text_by : (bytes : List ℕ) (test : Bool) → (test ≡ true → IsUtf8 bytes) → (IsUtf8 bytes → ⊥) → None ≡ (if test then Some bytes else None)
no_text_by bytes true from never = absurd (never (from refl))
no_text_by bytes false from never = refl

pub no_text : (bytes : List ℕ) → (IsUtf8 bytes → ⊥) → None ≡ as_text bytes
unfolding as_text
no_text bytes never = no_text_by bytes (is_utf8 bytes) (IsUtf8-from_is_utf8 bytes) never
