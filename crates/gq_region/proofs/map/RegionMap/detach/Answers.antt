use Rattle.std.proofs.Common.{◌/◌, length, arith, ap}
use Rattle.gq_region.proofs.Lowest_free_region.{taken_there}
use Rattle.gq_region.proofs.map.RegionMap.detach.Goals as goal

pub overflow_cast-place : goal.overflow_cast-place
overflow_cast-place c =
    let there = taken_there c.args.self.now (c.args.base.0 / 67108864) c.requires.attached in
    record { fits = omega (arith, there, ap length c.self.view_is, c.self.invariant.few) }
