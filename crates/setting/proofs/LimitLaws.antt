-- From tests to facts: the limits of a setting whose fields are within their rules, and what is known of values that a block may hold.
use mathlib.Core.Path.{◌≡◌, refl, sym, ap, ◌∙◌}
use mathlib.Core.Bool.{Bool, true, false, not, cond, true≢false}
use Prim.Native.Nat.{ℕ, zero, suc, ◌≤◌, ◌<◌}
use native.Mathlib.Omega.{arith}
use lib.Dec.{T, leb, eqb, leb→le, eqb→eq}
use lib.ListN.{get_or}
use lib.IntN.{ℤ, pos}
use lib.Signed.{le_z, le_z_yes, ◌≤ℤ◌}
use borrow.Author.Tests.{eqb-false, lt-ltb}
use Rattle.integer.specs.Within.{◌within◌}
use Rattle.lists.specs.Tests.{each}
use Rattle.integer.proofs.Reading.{ints}
use Rattle.lists.proofs.TestLaws.{split, each_get, test_each, not-not, each_up_to}
use Rattle.refusal.proofs.Stops.{none_of}
use Rattle.setting.specs.declared.End.{End}
use Rattle.setting.specs.declared.Field.{Field}
use Rattle.setting.specs.declared.Setting.{Setting}
use Rattle.setting.specs.Values.{between, right, end_of, fields, all_right, factor, factors, factor_high, value_rows, store_rows, storable, startable}
use Rattle.setting.specs.Limits.{Limits, TimersOn}
use Rattle.setting.proofs.FactorLaws.{factor_nonneg}
use Rattle.setting.proofs.SlopeLaws.{startable_storable}

-- ---- a field within its rule

record Kept (f : Field) : Type 0 where
  least : f.1 ≡ true → f.2 ≤ f.4
  most : f.4 ≤ f.3

kept : (f : Field) → T (right f) → Kept f
kept f h = by f.1 refl h
  where
    by : (b : Bool) → f.1 ≡ b → T (cond b (between f.2 f.3 f.4) (eqb f.4 0)) → Kept f
    by true e t =
        let k = split (leb f.2 f.4) (leb f.4 f.3) t in
        record { least = λ u. leb→le f.2 f.4 k.0; most = leb→le f.4 f.3 k.1 }
    by false e t = record { least = λ u. absurd (true≢false (sym u ∙ e)); most = omega (arith, eqb→eq f.4 0 t) }

-- x lies in a range
pub record Ranged (low high x : ℕ) : Type 0 where
  pub least : low ≤ x
  pub most : x ≤ high

-- a field that is always in use
ranged : {at low high x : ℕ} → Kept (at, true, low, high, x) → Ranged low high x
ranged k = record { least = k.least refl; most = k.most }

-- ---- the limits of the arithmetic

-- an end, in use or not
pub record Bounded (e : End) : Type 0 where
  pub voltage : e.voltage ≤ 15000
  pub current : e.current ≤ 50000
  pub group : e.group < 12

pub record InUse (e : End) : Type 0 where
  pub voltage : 1 ≤ e.voltage
  pub current : 1 ≤ e.current

module _ (v : Setting) (h : T (all_right (fields v))) where
  field_at : (k : ℕ) → Kept (get_or (fields v) k (0, true, 0, 0, 0))
  field_at k = each_get (test_each right kept (fields v) h) {d = (0, true, 0, 0, 0)} (kept (0, true, 0, 0, 0) tt) k

  power_ranged : Ranged 1 50000 v.power
  power_ranged = ranged (field_at 2)

  bounded : (z : ℕ) → z < 4 → Bounded (end_of v z)
  bounded zero l = record { voltage = (field_at 3).most; current = (field_at 4).most; group = omega (arith, (field_at 5).most) }
  bounded (suc zero) l = record { voltage = (field_at 7).most; current = (field_at 8).most; group = omega (arith, (field_at 9).most) }
  bounded (suc (suc zero)) l = record { voltage = (field_at 11).most; current = (field_at 12).most; group = omega (arith, (field_at 13).most) }
  bounded (suc (suc (suc zero))) l = record { voltage = (field_at 15).most; current = (field_at 16).most; group = omega (arith, (field_at 17).most) }
  bounded (suc (suc (suc (suc z)))) l = absurd (omega arith)

  -- an end in use has a voltage and a current
  in_use_lem : v.ends ≤ 4 → (z : ℕ) → z < v.ends → InUse (end_of v z)
  in_use_lem m zero l = let u = lt-ltb 0 v.ends l in record { voltage = (field_at 3).least u; current = (field_at 4).least u }
  in_use_lem m (suc zero) l = let u = lt-ltb 1 v.ends l in record { voltage = (field_at 7).least u; current = (field_at 8).least u }
  in_use_lem m (suc (suc zero)) l = let u = lt-ltb 2 v.ends l in record { voltage = (field_at 11).least u; current = (field_at 12).least u }
  in_use_lem m (suc (suc (suc zero))) l = let u = lt-ltb 3 v.ends l in record { voltage = (field_at 15).least u; current = (field_at 16).least u }
  in_use_lem m (suc (suc (suc (suc z)))) l = absurd (omega arith)

  pub limits_of : 2 ≤ v.ends → v.ends ≤ 4 → Limits v
  limits_of l m =
      let p = power_ranged in
      record {
        two = l;
        four = m;
        rated = λ z u. let e = bounded z (omega arith) in record { voltage = e.voltage; current = e.current; some = p.least; most = p.most };
        group = λ z u. (bounded z (omega arith)).group;
      }

  -- a curve that is not 0 puts X in use
  timers_of : eqb v.overcurrent.curve 0 ≡ false → TimersOn v.overcurrent
  timers_of e = record { some = omega (arith, eqb-false v.overcurrent.curve 0 e); two = (field_at 27).most; pickup = (field_at 26).least (ap not e) }

-- ---- values that a block may hold

pub record Storable (v : Setting) : Type 0 where
  pub limits : Limits v
  pub confirm : Ranged 1 24 v.confirm
  pub power : Ranged 1 50000 v.power
  pub bounded : (z : ℕ) → z < 4 → Bounded (end_of v z)
  pub in_use_lem : (z : ℕ) → z < v.ends → InUse (end_of v z)
  pub basic : Ranged 100 2500 v.thresholds.basic
  pub high : Ranged 2500 30000 v.thresholds.high
  pub slope1 : Ranged 10 150 v.thresholds.slope1
  pub slope2 : Ranged 10 150 v.thresholds.slope2
  pub knee : Ranged 1500 10000 v.thresholds.knee
  pub second : Ranged 10 50 v.thresholds.second
  pub fifth : Ranged 10 80 v.thresholds.fifth
  pub pickup : v.overcurrent.pickup ≤ 4000
  pub timers : eqb v.overcurrent.curve 0 ≡ false → TimersOn v.overcurrent
  pub factor_within : (z : ℕ) → z < v.ends → factor v z within 1048576

small : (x : ℤ) → pos 0 ≤ℤ x → x ≤ℤ pos 1048576 → x within 1048576
small x = simp ints (omega arith)

pub storable_is : (v : Setting) → T (storable v) → Storable v
unfolding value_rows factor_high
storable_is v h =
    let row = none_of (store_rows v) h in
    let ends = split (leb 2 v.ends) (leb v.ends 4) (not-not (between 2 4 v.ends) (row 4)) in
    let f = not-not (all_right (fields v)) (row 5) in
    let low = each_up_to (λ k. le_z k (pos 1048576)) v.ends (factor v) (not-not (each (λ k. le_z k (pos 1048576)) (factors v)) (row 6)) in
    record {
      limits = limits_of v f (leb→le 2 v.ends ends.0) (leb→le v.ends 4 ends.1);
      confirm = ranged (field_at v f 1);
      power = power_ranged v f;
      bounded = bounded v f;
      in_use_lem = in_use_lem v f (leb→le v.ends 4 ends.1);
      basic = ranged (field_at v f 19);
      high = ranged (field_at v f 20);
      slope1 = ranged (field_at v f 21);
      slope2 = ranged (field_at v f 22);
      knee = ranged (field_at v f 23);
      second = ranged (field_at v f 24);
      fifth = ranged (field_at v f 25);
      pickup = (field_at v f 26).most;
      timers = timers_of v f;
      factor_within = λ z u. small (factor v z) (factor_nonneg v z (power_ranged v f).least) (le_z_yes (low z u));
    }

-- ---- values that a relay can be started on: they are among those

pub startable_is : (v : Setting) → T (startable v) → Storable v
startable_is v h = storable_is v (startable_storable v h)

-- inverse-time elements that are on
pub timers_on : (v : Setting) → T (startable v) → eqb v.overcurrent.curve 0 ≡ false → TimersOn v.overcurrent
timers_on v h = (startable_is v h).timers
