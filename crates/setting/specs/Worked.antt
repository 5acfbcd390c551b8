-- Settings to work with, each of them used by more than one crate.
use Rattle.std.specs.Prelude.{ℕ}
use Rattle.setting.specs.declared.End.{End}
use Rattle.setting.specs.declared.Overcurrent.{Overcurrent}
use Rattle.setting.specs.declared.Setting.{Setting}

-- an end of group 0 with no filter, by V and I (§ Numbers to meet)
abbrev pub rated : (voltage current : ℕ) → End
rated v i = record { voltage = v; current = i; group = 0; filter = 0 }

-- an end that is not in use (§ The setting block 1)
abbrev pub unused : End
unused = rated 0 0

-- no inverse-time elements (§ Backup overcurrent 6: curve 0)
abbrev pub off : Overcurrent
off = record { pickup = 0; curve = 0 }

-- values that are all zero, on which no relay can be started: a start that is refused leaves them (§ The order of refusals 5)
abbrev pub blank : Setting
blank =
    record {
      ends = 0;
      flags = 0;
      confirm = 0;
      power = 0;
      e0 = unused;
      e1 = unused;
      e2 = unused;
      e3 = unused;
      thresholds = record { basic = 0; high = 0; slope1 = 0; slope2 = 0; knee = 0; second = 0; fifth = 0 };
      overcurrent = off;
    }

-- two ends, by S, with no blocking, M 1, P 200, H 8,000, m1 30, m2 70, Q 4,000 (§ Numbers to meet and its bench run); the percents of the
-- harmonics, which no flag turns on, are 15 and 30
abbrev pub two_ends : (power : ℕ) → End → End → Setting
two_ends s a b =
    record {
      ends = 2;
      flags = 0;
      confirm = 1;
      power = s;
      e0 = a;
      e1 = b;
      e2 = unused;
      e3 = unused;
      thresholds = record { basic = 200; high = 8000; slope1 = 30; slope2 = 70; knee = 4000; second = 15; fifth = 30 };
      overcurrent = off;
    }

-- with K 65,536 at both ends: the setting of the windows, starts and bench run of § Numbers to meet
unfoldable pub plain : Setting
plain = two_ends 1351 (rated 780 1000) (rated 780 1000)

-- the same with these flags: 1 second-harmonic blocking, 2 fifth, 4 common
unfoldable pub flagged : ℕ → Setting
flagged f =
    record {
      ends = plain.ends;
      flags = f;
      confirm = plain.confirm;
      power = plain.power;
      e0 = plain.e0;
      e1 = plain.e1;
      e2 = plain.e2;
      e3 = plain.e3;
      thresholds = plain.thresholds;
      overcurrent = plain.overcurrent;
    }

-- a setting with other slopes, m1 and m2
abbrev pub sloped : (m1 m2 : ℕ) → Setting → Setting
sloped m1 m2 v =
    let t = v.thresholds in
    record {
      ends = v.ends;
      flags = v.flags;
      confirm = v.confirm;
      power = v.power;
      e0 = v.e0;
      e1 = v.e1;
      e2 = v.e2;
      e3 = v.e3;
      thresholds =
          record { basic = t.basic; high = t.high; slope1 = m1; slope2 = m2; knee = t.knee; second = t.second; fifth = t.fifth };
      overcurrent = v.overcurrent;
    }

-- slopes that fall: m1 70, m2 30
unfoldable pub fallen : Setting
fallen = sloped 70 30 plain

-- a transformer of 40 MVA, 110/20 kV, Yd5: 110 kV and 300 A, group 0, filter on; 20 kV and 1,200 A, group 5, filter off
unfoldable pub yd5 : Setting
yd5 =
    record {
      ends = 2;
      flags = 3;
      confirm = 2;
      power = 400;
      e0 = record { voltage = 1100; current = 300; group = 0; filter = 1 };
      e1 = record { voltage = 200; current = 1200; group = 5; filter = 0 };
      e2 = unused;
      e3 = unused;
      thresholds = record { basic = 200; high = 8000; slope1 = 30; slope2 = 70; knee = 4000; second = 20; fifth = 35 };
      overcurrent = off;
    }
