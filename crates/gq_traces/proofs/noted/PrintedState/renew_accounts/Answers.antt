-- The accounts, one after the other.
use Rattle.std.proofs.Common.{◌≡◌, ◌∙◌, arith, refl, subst}
use Rattle.std.specs.Prelude.{IfSome, slice_get}
use Rattle.gq_output.specs.Account_values.{reported_of}
use Rattle.gq_world.specs.Account_lines.{all_accounts}
use Rattle.gq_traces.specs.internal.Noted.{standing_in}
use Rattle.gq_traces.proofs.Renewed_trace_notes.{accounts_all, accounts_more, length_set}
use Rattle.gq_traces.proofs.Printed_values_equal.{stands_as}
use Rattle.gq_traces.proofs.noted.PrintedState.renew_accounts.Goals as goal

pub loop-number-preserved : goal.loop-number-preserved
loop-number-preserved c =
    let l = c.loop-number in
    let all = all_accounts c.args.world.now in
    let xs = l.self.accounts.items in
    let less = c.loop-number-test.true in
    let count = c.nodes-number-end.ensures.accounts in
    let long = l.invariant.long in
    let reported = stands_as (slice_get all l.number) c.account.result (standing_in c.account.result) refl
    (subst (λ n. IfSome (slice_get all n) (λ a. c.account.result ≡ reported_of a)) c.new.ensures c.account.ensures.reported) in
    record {
      accounts = accounts_more xs all l.number l.number c.account.result refl (omega (arith, less, count, long)) (omega (arith, less, count)) reported
          l.invariant.accounts;
      long = length_set xs l.number c.account.result ∙ long;
      sessions = l.invariant.sessions;
      count = l.invariant.count;
    }

pub returns-clause-accounts : goal.returns-clause-accounts
returns-clause-accounts c =
    let l = c.loop-number in
    let over = c.loop-number-test.false in
    let count = c.nodes-number-end.ensures.accounts in
    accounts_all l.self.accounts.items (all_accounts c.args.world.now) l.number l.invariant.long (omega (arith, over, count)) l.invariant.accounts
