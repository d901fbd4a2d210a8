use Rattle.std.proofs.Common.{◌<◌, ◌≡◌, ◌∙◌, List, ℕ, IfSome, sym, subst, take, length, refl, arith, add-one}
use Rattle.std.specs.Prelude.{slice_get}
use Rattle.std.proofs.lemmas.Result.{err_from_is_err_and}
use Rattle.std.specs.Io.KnownBytes.{Appends}
use Rattle.gq_model.specs.machine.Accounts.{account_line, account_lines}
use Rattle.gq_model.specs.rules.Accept.{step_budgets}
use Rattle.gq_world.specs.Account_lines.{accounts_by, stored_budgets}
use Rattle.gq_output.specs.Writes.{IsPrefix, IsRaised}
use Rattle.gq_output.proofs.Written_byte_facts.{appends_nothing}
use Rattle.gq_world.proofs.Line_text_prefixes.{next_line, next_prefix, all_lines}
use Rattle.gq_world.proofs.account_lines.write_accounts.Goals as goal

pub loop-number-init : goal.loop-number-init
loop-number-init g c = record { written = appends_nothing (g.W.Write.contents c.args.out.now.writer); counted = refl }

pub line_of-line-requires-clause-node : goal.line_of-line-requires-clause-node
line_of-line-requires-clause-node g c = omega (arith, c.new.ensures, c.account_count-number-end.ensures.nodes, c.loop-number-test.true)

pub returns-in_err-put : goal.returns-in_err-put
returns-in_err-put g c =
    let m = c.args.machine.now in
    let all = accounts_by m.scenario m.world (stored_budgets m.world (step_budgets c.args.budgets.now)) in
    let l = c.loop-number in
    let p = err_from_is_err_and c.from_residual.result c.from_residual.ensures.1 in
    let a = g.W.Write.contents c.args.out.now.writer in
    let b = g.W.Write.contents l.out.writer in
    let d = g.W.Write.contents c.put.new.out.writer in
    let line = c.line_of-line.result.items in
    let less : l.number < length all = omega (arith, c.account_count-number-end.ensures.accounts, c.loop-number-test.true) in
    let here = subst (λ (n : ℕ). IfSome (slice_get all n) (λ r. line ≡ account_line m.scenario.version r)) c.new.ensures c.line_of-line.ensures in
    let h = subst (λ (t : List ℕ). IsPrefix b d t) c.as_slice.ensures.value c.in_err-put.ensures.prefix in
    rw (p.1) (record {
      written = tt;
      counted = tt;
      prefix = next_prefix m.scenario.version l.number all line less here a b d l.invariant.written h;
      raised = subst (λ n. IsRaised n c.put.new.out.failures) l.invariant.counted c.in_err-put.ensures.raised;
    })

pub loop-number-preserved : goal.loop-number-preserved
loop-number-preserved g c =
    let m = c.args.machine.now in
    let all = accounts_by m.scenario m.world (stored_budgets m.world (step_budgets c.args.budgets.now)) in
    let l = c.loop-number in
    let a = g.W.Write.contents c.args.out.now.writer in
    let b = g.W.Write.contents l.out.writer in
    let d = g.W.Write.contents c.put.new.out.writer in
    let line = c.line_of-line.result.items in
    let less : l.number < length all = omega (arith, c.account_count-number-end.ensures.accounts, c.loop-number-test.true) in
    let here = subst (λ (n : ℕ). IfSome (slice_get all n) (λ r. line ≡ account_line m.scenario.version r)) c.new.ensures c.line_of-line.ensures in
    let h = subst (Appends b d) c.as_slice.ensures.value c.in_ok-put.ensures.written in
    let next = next_line m.scenario.version l.number all line less here a b d l.invariant.written h in
    record {
      written = subst (λ (n : ℕ). Appends a d (account_lines m.scenario.version (take n all))) (sym (add-one l.number)) next;
      counted = c.in_ok-put.ensures.counted ∙ l.invariant.counted;
    }

pub returns : goal.returns
returns g c =
    let m = c.args.machine.now in
    let all = accounts_by m.scenario m.world (stored_budgets m.world (step_budgets c.args.budgets.now)) in
    let l = c.loop-number in
    let a = g.W.Write.contents c.args.out.now.writer in
    let b = g.W.Write.contents l.out.writer in
    record {
      written = subst (Appends a b) (all_lines m.scenario.version l.number all
          (omega (arith, c.account_count-number-end.ensures.accounts, c.loop-number-test.false, l.auto.number-end))) l.invariant.written;
      counted = l.invariant.counted;
      prefix = tt;
      raised = tt;
    }
