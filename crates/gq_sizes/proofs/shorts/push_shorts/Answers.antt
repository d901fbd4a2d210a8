use Rattle.std.proofs.Common.{◌∙◌, ◌++◌, ap, map, sym}
use Rattle.std.proofs.lemmas.Result.{on_ok_weaker}
use Rattle.gq_sizes.specs.Size.{all_short}
use Rattle.gq_sizes.specs.Point_maxima.{given_in}
use Rattle.gq_sizes.proofs.Printed_short_opens.{least_is, leaves_are}
use Rattle.gq_sizes.proofs.shorts.push_shorts.Goals as goal

pub returns : goal.returns
returns c all given leaves programs same rows =
    let interfaces = c.args.interfaces.now in
    let sums = c.as_slice.result.now in
    let least = given_in interfaces sums in
    let is = least_is all given interfaces sums same (c.as_slice.ensures.value ∙ rows) in
    on_ok_weaker c.push_leaves.result
    (λ e. e ∙ ap (λ l. c.args.text.now.items ++ l) (leaves_are all given least is c.args.components.now ∙ ap (all_short all given) leaves))
    (c.push_leaves.ensures (programs ∙ ap (map (λ d. d.node.program)) (sym leaves)))
