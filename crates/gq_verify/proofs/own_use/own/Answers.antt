use Rattle.std.proofs.Common.{◌+◌, ◌∙◌, ap, arith}
use Rattle.gq_model.specs.machine.Lists.{greatest}
use Rattle.gq_caps.specs.declared.totals.Measure.TheVariants.{Ram, Caps}
use Rattle.gq_rules.specs.List_maxima.{measure_of}
use Rattle.gq_verify.specs.internal.Mains.{main_points}
use Rattle.gq_verify.proofs.own_use.own.Goals as goal

pub overflow_add-result : goal.overflow_add-result
overflow_add-result c = omega (arith, c.requires.small Ram, c.heap-heap.ensures.small)

pub overflow_add-result-2 : goal.overflow_add-result-2
overflow_add-result-2 c = omega (arith, c.requires.small Caps, c.heap-heap.ensures.few)

pub returns-clause-ram : goal.returns-clause-ram
returns-clause-ram c =
    ap (λ n. n + c.heap-heap.result.ram) (c.requires.most Ram) ∙
    ap (λ n. greatest (measure_of Ram) (main_points c.args.subject.now) + n) c.heap-heap.ensures.ram

pub returns-clause-caps : goal.returns-clause-caps
returns-clause-caps c =
    ap (λ n. n + c.heap-heap.result.caps) (c.requires.most Caps) ∙
    ap (λ n. greatest (measure_of Caps) (main_points c.args.subject.now) + n) c.heap-heap.ensures.caps
