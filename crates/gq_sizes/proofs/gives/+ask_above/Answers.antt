-- What is asked is not the number of the level.
use Rattle.std.proofs.Common.{◌∙◌, refl, sym, arith}
use Rattle.gq_sizes.proofs.Just_asked_levels.{not_asked}
use Rattle.gq_sizes.proofs.Upgrades_apart.{level_is}
use Rattle.gq_sizes.proofs.gives.+ask_above.Goals as goal

pub returns-then-asked-needs : goal.returns-then-asked-needs
returns-then-asked-needs t c f e =
    let level = c.args.level in
    not_asked f level c.args.asked c.args.upgrades.now
    (λ same. c.if-asked-needs.true (same ∙ sym (level_is f c.args.needs.now _ level e refl (omega (arith, c.requires.levels)))))
