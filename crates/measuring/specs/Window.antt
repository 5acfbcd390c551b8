-- A window (§ Amplitudes 1, § The relay record 1): twelve places of twelve matched numbers each, by end and system, oldest set
-- first. As the record holds it, a list of 144 numbers.
use Rattle.std.specs.Prelude.{List, ℕ, ◌+◌, ◌*◌, ℤ, pos, ◌-ℤ◌, get_or}
use Rattle.integer.specs.Sum.{sum}
use Rattle.matching.specs.Sets.{System, index}

-- the number of set k, end z and a system
abbrev pub at : List ℤ → (k z : ℕ) → System → ℤ
at win k z l = get_or win (12 * k + (3 * z + index l)) (pos 0)

-- the matched numbers of an end over the window
abbrev pub series : List ℤ → (z : ℕ) → System → ℕ → ℤ
series win z l k = at win k z l

-- their sum over the ends in use
abbrev pub sums : (ends : ℕ) → List ℤ → System → ℕ → ℤ
sums E win l k = sum E (λ z. at win k z l)

-- end 0 minus end 1
abbrev pub difference : List ℤ → System → ℕ → ℤ
difference win l k = at win k 0 l -ℤ at win k 1 l
