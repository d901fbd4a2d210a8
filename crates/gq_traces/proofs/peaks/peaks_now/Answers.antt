-- What is read of a leaf and of its account.
use Rattle.std.proofs.Common.{refl}
use Rattle.gq_model.specs.machine.Amounts.{Ram, Caps}
use Rattle.gq_model.specs.machine.Scenario.{system}
use Rattle.gq_traces.proofs.Peaks_kept.{now_by, taken_is, used_is}
use Rattle.gq_traces.proofs.peaks.peaks_now.Goals as goal

pub returns : goal.returns
returns c =
    let m = c.args.machine.now in
    let x = c.args.leaf in
    let u = c.use_of.result in
    let q = c.quota_of-quota in
    record {
      ram = now_by (system m.scenario) m.world Ram x c.args.turn u.used.ram q.result.ram _ refl (used_is m.scenario m.world x u c.use_of.ensures)
          q.ensures.ram;
      caps = λ two. now_by (system m.scenario) m.world Caps x c.args.turn u.used.caps q.result.caps _ refl
          (taken_is m.scenario m.world x u c.use_of.ensures two) (q.ensures.caps two);
    }
