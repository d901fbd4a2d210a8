use Rattle.std.proofs.Common.{◌≡◌, ◌∙◌, suc, ◌-◌, ap, arith, sym}
use Rattle.gq_sizes.specs.Size.{starts_after}
use Rattle.gq_sizes.proofs.Least_leaves.{along_none, along_some, along_zero, at_place, name_there, own_there}
use Rattle.gq_sizes.proofs.leaf_needs.+least_along.Goals as goal

pub returns-then-starts-eq0 : goal.returns-then-starts-eq0
returns-then-starts-eq0 t c all d are owns at =
    let own = c.own_at-least in
    let is = own_there all c.args.components.now c.args.owns.now c.args.leaf d own.result are owns at own.ensures.own in
    along_zero all d own.result is own.ensures.small c.args.starts c.if-starts-eq0.true

pub returns-in-Some : goal.returns-in-Some
returns-in-Some t c all d are owns at =
    let cs = c.args.components.now in
    let own = c.own_at-least in
    let is = own_there all cs c.args.owns.now c.args.leaf d own.result are owns at own.ensures.own in
    let named = c.as_bytes.ensures.bytes ∙ (c.name.ensures ∙ (ap (λ n. n.name) c.leaf.ensures
    ∙ name_there cs c.args.leaf c.index-components-leaf.result d c.requires c.index-components-leaf.is at)) in
    let next = at_place cs c.in-Some.next c.in-Some.ensures.within in
    let n : c.args.starts ≡ suc (c.args.starts - 1) = omega (arith, c.if-starts-eq0.false) in
    c.greater.ensures
    ∙ along_some all d own.result is own.ensures.small c.args.starts (c.args.starts - 1) c.as_bytes.result.now next.0 c.least_along.result n named
    (sym next.1 ∙ (c.in-Some.ensures.next ∙ ap (starts_after c.as_bytes.result.now) are)) (c.least_along.ensures all next.0 are owns next.1)

pub returns-in-None : goal.returns-in-None
returns-in-None t c all d are owns at =
    let cs = c.args.components.now in
    let own = c.own_at-least in
    let is = own_there all cs c.args.owns.now c.args.leaf d own.result are owns at own.ensures.own in
    let named = c.as_bytes.ensures.bytes ∙ (c.name.ensures ∙ (ap (λ n. n.name) c.leaf.ensures
    ∙ name_there cs c.args.leaf c.index-components-leaf.result d c.requires c.index-components-leaf.is at)) in
    let n : c.args.starts ≡ suc (c.args.starts - 1) = omega (arith, c.if-starts-eq0.false) in
    along_none all d own.result is own.ensures.small c.args.starts (c.args.starts - 1) c.as_bytes.result.now n named
    (c.in-None.ensures.next ∙ ap (starts_after c.as_bytes.result.now) are)
