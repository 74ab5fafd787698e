-- Paths stay in the brackets that they stand in.
use Rattle.std.proofs.Common.{Bool, true, false, ℕ, zero, suc, refl}
use Rattle.rust_cursor.proofs.WithinBrackets.{Remains}
use Rattle.rust_cursor.proofs.InBrackets.{Stays, rule_within}
use Rattle.rust_paths.proofs.Common.{reads, has_name, name, segment, is_segment, is_path_start, other_segment, is_dollar_crate, is_colons, is_joint, is_last_self, is_path_colons, more_from, more_segments, path}

segment_stays : Stays segment
unfolding segment other_segment is_dollar_crate name
segment_stays = (refl, tt, (refl, tt, (refl, tt, (refl, tt, (refl, (tt, λ _. tt), (refl, tt, (tt, λ n. (refl, tt, (tt, λ _. tt)))))))))

more_stays : (in_use : Bool) (n : ℕ) → Stays (more_from in_use n)
unfolding is_path_colons is_colons is_joint is_last_self
more_stays in_use zero = tt
more_stays false (suc n) = (refl, (segment_stays, λ w. (more_stays false n, λ ws. tt)), tt)
more_stays true (suc n) = (refl, (segment_stays, λ w. (more_stays true n, λ ws. tt)), tt)

path_stays : Stays path
unfolding path more_segments is_path_start is_path_colons is_colons is_segment has_name is_dollar_crate
path_stays = (refl, (((refl, refl), λ a. (segment_stays, λ w. (more_stays false _, λ ws. tt))), λ p. tt), tt)

pub path_within : (end c : ℕ) → Remains end c (reads path)
path_within end c = rule_within end c path path_stays

pub name_within : (end c : ℕ) → Remains end c (reads name)
unfolding name
name_within end c = rule_within end c name tt
