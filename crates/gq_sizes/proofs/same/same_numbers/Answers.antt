use Rattle.std.proofs.Common.{◌∙◌, ap, sym}
use Rattle.std.specs.Cmp.Lexicographic.{pointwise}
use Rattle.std.proofs.lemmas.Bool.{eqb-true}
use Rattle.std.proofs.Math.Dec.{eqb}
use Rattle.gq_model.proofs.Small_facts.{equal_self}
use Rattle.gq_sizes.proofs.Capability_need_rounds.{pointwise_is}
use Rattle.gq_sizes.proofs.Compared_text_equality.{pointwise_self}
use Rattle.gq_sizes.proofs.same.same_numbers.Goals as goal

pub returns-clause-same : goal.returns-clause-same
returns-clause-same c h = pointwise_is eqb eqb-true c.args.a.now c.args.b.now (sym c.eq.ensures ∙ h)

pub returns-clause-only : goal.returns-clause-only
returns-clause-only c e = c.eq.ensures ∙ (ap (λ l. pointwise eqb l c.args.b.now) e ∙ pointwise_self eqb equal_self c.args.b.now)
