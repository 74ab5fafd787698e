-- What entries of features enable.
use Rattle.std.proofs.Common.{◌≡◌, ℕ, suc, ◌+◌, Bool, true, false, not, cond, ◌||◌, List, [], ◌∷◌, ◌++◌, length, Option, Some, None, nat_eq, codes, if◌then◌else◌, refl, sym, append_assoc, append-nil, arith}
use Rattle.std.specs.{List.list_any, List.position_or_len, List.starts_with, List.cons_option, Option.option_to_list}
use Rattle.cargo_manifest.specs.Dependencies.{KnownCrate}
use Rattle.cargo_manifest.specs.Features.{is_slash, entry_feature}

one_slash : (x : Bool) (n m : ℕ) (a : Bool) → cond (not x) (1 + n) 0 ≡ suc m → (n ≡ m → a ≡ false) → (x || a) ≡ false
one_slash true n m a h f = absurd (omega (arith, h))
one_slash false n m a h f = f (omega (arith, h))

pub no_slash : (bs : List ℕ) → position_or_len is_slash bs ≡ length bs → list_any is_slash bs ≡ false
no_slash [] h = refl
no_slash (b ∷ bs) h = one_slash (is_slash b) (position_or_len is_slash bs) (length bs) (list_any is_slash bs) h (no_slash bs)

pub plain_entry : (ds : List KnownCrate) (e : List ℕ) (b : Bool) → list_any is_slash e ≡ false → starts_with nat_eq e (codes "dep:") ≡ b → entry_feature ds e ≡ (if b then None else Some e)
plain_entry ds e b lacks begins = rw (lacks, begins) refl

pub put_option : {A : Type 0} → (names : List A) (o : Option A) (rest : List A) → names ++ cons_option o rest ≡ (names ++ option_to_list o) ++ rest
put_option names None rest = rw append-nil refl
put_option names (Some a) rest = sym (append_assoc names (a ∷ []) rest)
