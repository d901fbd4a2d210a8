use Rattle.std.proofs.Common.{◌∙◌, sym, arith}
use Rattle.gq_model.specs.machine.Scenario.{components}
use Rattle.gq_why.proofs.Searched_leaf_name.{place_within}
use Rattle.gq_why.proofs.why.named_text.Goals as goal

pub leaf_text-requires : goal.leaf_text-requires
leaf_text-requires c =
    let less = place_within c.as_bytes.result.now 0 c.in-Some.leaf (components c.args.scenario.now) (sym c.numbered.ensures ∙ c.in-Some.is) in
    omega (arith, less)
