-- What a leaf holds and does.
use Rattle.gq_model.specs.machine.Amounts.{Ram, Caps}
use Rattle.gq_model.specs.machine.Sums.{held}
use Rattle.gq_traces.proofs.Leaves_standing.{from_some}
use Rattle.gq_traces.proofs.Sound_world_leaves.{there_is}
use Rattle.std.proofs.Common.{◌≡◌, arith}
use Rattle.std.specs.Prelude.{slice_get}
use Rattle.gq_traces.proofs.noted.use_of.Goals as goal

pub returns : goal.returns
returns c =
    let m = c.args.machine.now in
    let x = c.args.leaf in
    let less = c.requires.leaf in
    let long = c.requires.leaves in
    let l = there_is m.world.leaves x (omega (arith, less, long)) in
    record {
      leaf = l.0;
      there = l.1;
      phase = from_some (slice_get m.world.leaves x) (λ l. c.phase.result ≡ l.phase) l.0 l.1 c.phase.ensures;
      ram = from_some (slice_get m.world.leaves x) (λ l. c.used.result.ram ≡ held Ram m.world x l) l.0 l.1 c.used.ensures.ram;
      caps = λ two. from_some (slice_get m.world.leaves x) (λ l. c.used.result.caps ≡ held Caps m.world x l) l.0 l.1 (c.used.ensures.caps two);
    }
