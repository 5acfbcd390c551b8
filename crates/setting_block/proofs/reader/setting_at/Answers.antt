-- `setting_block::reader::setting_at` meets its contract: each field is what the call that reads it ensures.
use lib.ListN.{get_or}
use Rattle.setting_block.specs.Layout.{setting_at}
use Rattle.setting_block.proofs.reader.setting_at.Goals as goal

pub returns : goal.returns
unfolding setting_at
returns c =
    let s = c.args.s.now in
    λ i.
    record {
      ends = get_or s 4 0;
      flags = get_or s 5 0;
      confirm = get_or s 6 0;
      power = c.u32_at.ensures i;
      e0 = c.end_at.ensures i;
      e1 = c.end_at-2.ensures i;
      e2 = c.end_at-3.ensures i;
      e3 = c.end_at-4.ensures i;
      thresholds =
          record {
            basic = c.u16_at.ensures i;
            high = c.u16_at-2.ensures i;
            slope1 = c.u16_at-3.ensures i;
            slope2 = c.u16_at-4.ensures i;
            knee = c.u16_at-5.ensures i;
            second = c.u16_at-6.ensures i;
            fifth = c.u16_at-7.ensures i;
          };
      overcurrent = record { pickup = c.u16_at-8.ensures i; curve = get_or s 76 0 };
    }
