-- Who starts after a leaf.
use Rattle.std.proofs.Common.{Some, None, nat_eq, ap, ◌∙◌}
use Rattle.gq_machine.proofs.Released_leaves.{follows_row}
use Rattle.gq_machine.proofs.main_end.starts_after.Goals as goal

pub returns-in-None : goal.returns-in-None
returns-in-None c = follows_row c.args.table.now c.args.number c.args.place c.new.result None c.requires c.new.ensures c.in-None.ensures

pub returns-in-Some : goal.returns-in-Some
returns-in-Some c =
    let x = c.args.number in
    ap (λ n. nat_eq n x) c.index.ensures
    ∙ follows_row c.args.table.now x c.args.place c.new.result (Some c.in-Some.after) c.requires c.new.ensures c.in-Some.ensures
