-- The check's two sums from those of columns: the bytes stand in rows of 34.
use Rattle.std.specs.Prelude.{List, [], ◌∷◌, ℕ, ◌+◌, ◌*◌, ◌%◌, length}
use Rattle.block.specs.declared.Sums.{Sums}
use Rattle.block.specs.declared.Columns.{Columns}

-- the sum of a list, and that of its sums up to each place: the first of n numbers n times, the last once
unfoldable pub total : List ℕ → ℕ
total [] = 0
total (x ∷ xs) = x + total xs

unfoldable pub weighed : List ℕ → ℕ
weighed [] = 0
weighed (x ∷ xs) = length (x ∷ xs) * x + weighed xs

-- a byte with r rows after its own and n columns from its own on is added to b 34 r + n times
abbrev pub column_sums : Columns → Sums
column_sums c = record { a = total c.sums % 255; b = (weighed c.sums + 34 * total c.rows) % 255 }
