-- The parts of a code.
use Rattle.std.specs.Prelude.{ℕ}
use base.Stored.{Gv, gnil, gnum, gcons}

abbrev pub front_code : Gv → Gv
front_code gnil = gnil
front_code (gnum n) = gnil
front_code (gcons a b) = a

abbrev pub behind_code : Gv → Gv
behind_code gnil = gnil
behind_code (gnum n) = gnil
behind_code (gcons a b) = b

-- the number in front of a code
abbrev pub number_of : Gv → ℕ
number_of gnil = 0
number_of (gnum n) = n
number_of (gcons a b) = number_of a
