-- The statements of a list are put from the last one on.
use Rattle.std.proofs.Common.{◌≡◌, ◌-◌, ◌<◌, ◌≤◌, suc, ap, arith, length}
use Rattle.gq_model.specs.machine.Program.{size}
use Rattle.gq_program.specs.Statement_trees.{tree_of}
use Rattle.gq_program.proofs.Statement_list_sizes.{size_here}
use Rattle.gq_traces.proofs.Numbered_program_entries.{room_before}
use Rattle.gq_traces.proofs.numbered_program.NumberedProgram.+entries.Goals as goal

pub put_all-put-requires : goal.put_all-put-requires
put_all-put-requires t c =
    let l = c.loop-rest in
    let items = c.statements-statements.result.now in
    let some = c.loop-rest-test.true in
    let few = l.invariant.few in
    let at : l.rest ≡ suc (l.rest - 1) = omega (arith, some) in
    let less : l.rest - 1 < length items = omega (arith, some, few) in
    let here = size_here items (l.rest - 1) c.index-statements-rest.result less c.index-statements-rest.is in
    let all = ap size c.statements-statements.ensures in
    let enough = c.requires in
    let within : size (tree_of items) ≤ c.args.self.now.left = omega (arith, all, enough) in (
      omega (arith, c.decreases, here, all),
      room_before l.self.left c.args.self.now.left 0 items l.rest (l.rest - 1) c.index-statements-rest.result at less
          c.index-statements-rest.is l.invariant.puts.number within,
    )
