-- `measuring::readings_by` meets its contract: for a window that has these currents, what a system's harmonics hold back is that of the
-- definitions, and so is its reading.
use borrow.Author.Rules.{rules}
use mathlib.Core.Path.{◌≡◌, ◌∙◌}
use mathlib.Core.Bool.{Bool, ◌&&◌, ◌||◌}
use mathlib.Core.List.{List}
use lib.IntN.{ℤ}
use Rattle.setting.specs.declared.Setting.{Setting}
use Rattle.matching.specs.Sets.{System, sys_a, sys_b, sys_c}
use Rattle.characteristic.specs.declared.Currents.{Currents}
use Rattle.characteristic.specs.declared.Held.{Held}
use Rattle.characteristic.specs.Characteristic.{starts, held_by, common_on}
use Rattle.measuring.specs.declared.Reading.{Reading}
use Rattle.measuring.specs.Measuring.{harmonics, holding, blocked, currents_of, reading_of, readings_of}
use Rattle.measuring.proofs.readings_by.Goals as goal

-- a system's currents are those of the definitions, so what its harmonics hold back and its reading are
module _ (v : Setting) (win : List ℤ) (l : System) {cur : Currents} (e : cur ≡ currents_of v.ends win l) where
  own_is : {b : Held} → b ≡ held_by v cur.d cur.h2 cur.h5 → b.own ≡ harmonics v win l
  unfolding currents_of held_by harmonics
  own_is h = rw (h, e)

  others_is : {b : Held} → b ≡ held_by v cur.d cur.h2 cur.h5 → b.others ≡ holding v win l
  unfolding currents_of held_by holding
  others_is h = rw (h, e)

  reading_is : {b : Bool} {r : Reading} → b ≡ blocked v win l →
      r ≡ record { d = cur.d; r = cur.r; h2 = cur.h2; h5 = cur.h5; start = starts v cur.d cur.r; blocked = b } → r ≡ reading_of v win l
  unfolding currents_of reading_of
  reading_is k h = h ∙ rw (e, k)

-- and so is its blocking
blocked_is : (v : Setting) (win : List ℤ) {a b c any : Bool} → a ≡ holding v win sys_a → b ≡ holding v win sys_b → c ≡ holding v win sys_c →
    any ≡ (common_on v && (a || (b || c))) → (l : System) (own : Bool) → own ≡ harmonics v win l → (own || any) ≡ blocked v win l
unfolding blocked
blocked_is v win by-a by-b by-c e l own h = rw (h, e, by-a, by-b, by-c)

pub returns : goal.returns
unfolding readings_of
returns c win a b d =
    let v = c.args.v in
    let of_a : c.map-held.result.a ≡ held_by v c.args.c.a.d c.args.c.a.h2 c.args.c.a.h5 = search rules in
    let of_b : c.map-held.result.b ≡ held_by v c.args.c.b.d c.args.c.b.h2 c.args.c.b.h5 = search rules in
    let of_c : c.map-held.result.c ≡ held_by v c.args.c.c.d c.args.c.c.h2 c.args.c.c.h5 = search rules in
    let is = blocked_is v win (others_is v win sys_a a of_a) (others_is v win sys_b b of_b) (others_is v win sys_c d of_c) c.common-any.ensures in
    let now = c.map_with.result in
    let a_is : now.a ≡ reading_of v win sys_a = reading_is v win sys_a a (is sys_a _ (own_is v win sys_a a of_a)) (search rules) in
    let b_is : now.b ≡ reading_of v win sys_b = reading_is v win sys_b b (is sys_b _ (own_is v win sys_b b of_b)) (search rules) in
    let c_is : now.c ≡ reading_of v win sys_c = reading_is v win sys_c d (is sys_c _ (own_is v win sys_c d of_c)) (search rules) in
    λ i. record { a = a_is i; b = b_is i; c = c_is i }
