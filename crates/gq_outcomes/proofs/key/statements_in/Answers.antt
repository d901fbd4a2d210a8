use Rattle.std.proofs.Common.{◌≤◌, ◌<◌, ◌∙◌, ap, sym, subst, get_or, length}
use Rattle.gq_bytecode.specs.Bytecode_layout.{width}
use Rattle.gq_outcomes.proofs.keys.Section_asks.{narrow}
use Rattle.gq_outcomes.proofs.key.statements_in.Goals as goal

pub returns-then-same_section-clause-small : goal.returns-then-same_section-clause-small
returns-then-same_section-clause-small c =
    let l = c.loop-found in
    let item = c.loop-found-item.result in
    subst (λ b. width b ≤ 65536) (sym c.statements.ensures)
    (narrow c.args.program.now c.laws.ensures l.found-index item
    (subst (λ t. l.found-index < length t) c.sections-found-items.ensures c.loop-found-test.true)
    (c.loop-found-item.is ∙ ap (λ t. get_or t l.found-index item) c.sections-found-items.ensures))
