-- `measuring::Folded::amplitudes` meets its contract. The loop's invariant: i is some steps from the first, and the places stepped on before it hold their
-- amplitudes. The measure is what is left of the numbers.
use mathlib.Core.Path.{◌≡◌}
use Prim.Native.Nat.{ℕ, ◌+◌, ◌*◌, ◌-◌}
use Rattle.measuring.specs.Ends.{AmplitudesFrom}
use Rattle.measuring.proofs.Folded.amplitudes.Given as goal

abbrev pub invariant-loop-i : goal.invariant-loop-i
invariant-loop-i l = (t : ℕ) × ((l.i ≡ l.first + t * l.step) × AmplitudesFrom l.self.parts l.first l.step l.i l.n l.a)

abbrev pub decreases-loop-i : goal.decreases-loop-i
decreases-loop-i l = l.n - l.i
