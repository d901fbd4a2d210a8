use Rattle.std.proofs.Common.{codes, sym, ◌∙◌}
use Rattle.gq_scenario.specs.declared.key.Key.TheVariants.{Version}
use Rattle.gq_scenario.proofs.Table_key_lookup.{key_found}
use Rattle.gq_scenario.proofs.key.key_among.Goals as goal

pub returns-then-is : goal.returns-then-is
returns-then-is c =
    key_found c.args.text.now (codes "?") c.args.keys.now c.loop-key.key-index Version c.loop-key-test.true (sym c.is.ensures
    ∙ c.if-is.true) c.loop-key.invariant
