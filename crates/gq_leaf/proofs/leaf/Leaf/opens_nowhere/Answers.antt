-- An `open` that leads nowhere.
use Rattle.std.proofs.Common.{ap, subst, ◌∙◌}
use Rattle.std.specs.Prelude.{slice_get}
use Rattle.gq_leaf.specs.Coded.{Coded, operation_of, coded_of}
use Rattle.gq_leaf.specs.Leaf_steps.{OpensNowhere}
use Rattle.gq_leaf.proofs.Upgrade_open_steps.{opens_nowhere}
use Rattle.gq_leaf.proofs.leaf.Leaf.opens_nowhere.Goals as goal

pub returns : goal.returns
returns c place name n x bs s stands =
    let i = c.self.inside in
    let v : Coded = coded_of i.phase i.current i.reacting i.registers i.steps i.signals i.code in
    let P : Coded → Type 0 = λ o. OpensNowhere x bs name o s in
    subst P c.self.view_is
    (opens_nowhere v c.self.invariant.code c.args.number place name n (ap operation_of c.self.view_is ∙ c.requires)
    (ap (λ (o : Coded). slice_get o.code.longs c.args.number) c.self.view_is ∙ stands) x bs s)
