use Rattle.std.proofs.Common.{◌∙◌, ap, sym}
use Rattle.gq_caps.specs.Known.{all_known, known}
use Rattle.gq_model.specs.machine.Lists.{any_of}
use Rattle.gq_sizes.specs.Endless.{leads}
use Rattle.gq_sizes.specs.Passing.{passing}
use Rattle.gq_sizes.proofs.Any_test_search.{any_end, any_here, any_map}
use Rattle.gq_sizes.proofs.endless.Sessions.held.Goals as goal

pub returns-then-leads : goal.returns-then-leads
returns-then-leads g c =
    let test = passing c.args.self.now.interfaces.now c.args.self.now.tests.now in
    let items = c.kinds-kind-items.result.now in
    any_here (λ k. leads test (known k)) items c.loop-kind.kind-index _ c.kind-item.result c.loop-kind-test.true c.kind-item.is
    (sym c.leads.ensures ∙ c.if-leads.true) c.loop-kind.invariant
    ∙ (any_map (leads test) known items ∙ ap (λ ks. any_of (leads test) (all_known ks)) c.kinds-kind-items.ensures.kinds)

pub returns : goal.returns
returns g c =
    let test = passing c.args.self.now.interfaces.now c.args.self.now.tests.now in
    let items = c.kinds-kind-items.result.now in
    any_end (λ k. leads test (known k)) items c.loop-kind.kind-index _ c.loop-kind-test.false c.loop-kind.invariant
    ∙ (any_map (leads test) known items ∙ ap (λ ks. any_of (leads test) (all_known ks)) c.kinds-kind-items.ensures.kinds)
