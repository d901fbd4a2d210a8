use Rattle.std.proofs.Common.{◌<◌, ◌∙◌, ◌++◌, ap, subst}
use Rattle.std.specs.Prelude.{slice_get}
use Rattle.gq_world.specs.Account_lines.{all_accounts}
use Rattle.gq_outcomes.proofs.Text_lines.{accounts_more}
use Rattle.gq_outcomes.proofs.text.push_accounts.Goals as goal

pub loop-number-preserved : goal.loop-number-preserved
loop-number-preserved c =
    let w = c.args.world.now in
    let l = c.loop-number in
    let less = subst (λ n. l.number < n) c.nodes-number-end.ensures.accounts c.loop-number-test.true in
    accounts_more w.scenario.version (all_accounts w) l.number c.account_of-line.result.items l.text.items c.extend_from_slice.new.self.items less
    (λ a there. c.account_of-line.ensures a (ap (λ n. slice_get (all_accounts w) n) c.new.ensures ∙ there))
    (c.in_ok-extend_from_slice.ensures.items ∙ ap (λ t. l.text.items ++ t) c.as_slice.ensures.value)
    ∙ l.invariant
