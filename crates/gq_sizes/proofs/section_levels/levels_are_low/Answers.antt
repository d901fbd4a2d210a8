use Rattle.std.proofs.Common.{◌∙◌, ap, subst, below_more, arith}
use Rattle.gq_model.specs.rules.Kinds.{Subject}
use Rattle.gq_model.specs.texts.Code.{IsProgram}
use Rattle.gq_sizes.proofs.Section_level_bound.{all_leaves_low, got, within}
use Rattle.gq_sizes.proofs.section_levels.levels_are_low.Goals as goal

pub loop-verified-preserved : goal.loop-verified-preserved
loop-verified-preserved c =
    below_more _ _ c.loop-verified.invariant
    (λ v there. subst IsProgram
    (c.program-program.ensures ∙ (ap (λ (s : Subject). s.program)
    (c.subject.ensures ∙ (c.verified-item.is ∙ got c.args.leaves.now c.loop-verified.verified-index v c.verified-item.result there))))
    c.laws.ensures)

pub returns : goal.returns
returns c =
    all_leaves_low c.args.leaves.now
    (λ k v there. c.loop-verified.invariant k (let h = within c.args.leaves.now k v there in omega (arith, h, c.loop-verified-test.false)) v there)
