-- The leaf has a program and stands somewhere.
use Rattle.std.proofs.Common.{arith}
use Rattle.gq_traces.proofs.tracker.alone_in.Goals as goal

pub bounds-aheads-index : goal.bounds-aheads-index
bounds-aheads-index c =
    let long = c.requires.aheads in
    let at = c.index-2.ensures in
    let less = c.requires.leaf in
    omega (arith, less, long, at)

pub bounds-programs-index : goal.bounds-programs-index
bounds-programs-index c =
    let at = c.index.ensures in
    let less = c.requires.leaf in
    omega (arith, less, at)
