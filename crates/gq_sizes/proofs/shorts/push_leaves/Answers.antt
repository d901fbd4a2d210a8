use Rattle.std.proofs.Common.{◌∙◌}
use Rattle.std.specs.Prelude.{option_map}
use Rattle.gq_sizes.specs.Point_maxima.{given_in}
use Rattle.gq_sizes.proofs.Printed_short_opens.{leaf_put, program_at}
use Rattle.gq_sizes.proofs.shorts.push_leaves.Goals as goal

pub loop-place-preserved : goal.loop-place-preserved
loop-place-preserved c have =
    let l = c.loop-place in
    let least = given_in c.args.interfaces.now c.args.sums.now in
    let all = c.args.components.now in
    let leaf = c.index-components-place.result in
    let within = c.loop-place-test.true in
    let is = c.index-components-place.is in
    let same = c.program_at.ensures ∙ program_at least all l.place leaf within is c.args.programs.now have in
    leaf_put least all l.place leaf within is c.label.result.now (option_map (λ p. p.now) c.program_at.result) l.text.items c.push_program.new.text.items _
    c.label.ensures same c.in_ok-push_program.ensures (l.invariant have)
