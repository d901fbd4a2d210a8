use Rattle.std.proofs.Common.{refl, sym, ◌∙◌, subst, option_map}
use Rattle.gq_command.specs.Stored_run.{IsFirstLine}
use Rattle.gq_command.proofs.Stored_laws.{border-turns, parted-step, fallback}
use Rattle.gq_command.proofs.stored.parted.Goals as goal

pub returns-then-is_border-clause-turns : goal.returns-then-is_border-clause-turns
returns-then-is_border-clause-turns c =
    fallback c.first_line.result.1 _ c.unwrap_or.result refl c.unwrap_or.ensures
    ∙ border-turns c.args.input.now c.loop-rest.rest.now c.first_line.result.0.now
    (option_map (λ s. s.now) c.first_line.result.1) c.loop-rest.invariant c.first_line.ensures
    (sym c.is_border.ensures ∙ c.if-is_border.true)

pub loop-rest-preserved : goal.loop-rest-preserved
loop-rest-preserved c =
    parted-step c.args.input.now c.loop-rest.rest.now c.first_line.result.0.now c.in-Some.after.now c.loop-rest.invariant
    (subst (λ o. IsFirstLine c.loop-rest.rest.now c.first_line.result.0.now (option_map (λ s. s.now) o)) c.in-Some.is c.first_line.ensures)
    (sym c.is_border.ensures ∙ c.if-is_border.false)
