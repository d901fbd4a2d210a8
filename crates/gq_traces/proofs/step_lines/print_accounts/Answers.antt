-- The accounts of all nodes.
use Rattle.std.proofs.Common.{◌≡◌, ◌∙◌, ◌+◌, ap, arith, length, map, refl, subst, take}
use Rattle.std.specs.Prelude.{IfSome, slice_get, slice_set}
use Rattle.gq_world.specs.Account_lines.{all_accounts}
use Rattle.gq_traces.specs.Trace.{standing_of}
use Rattle.gq_traces.specs.internal.Noted.{standing_in}
use Rattle.gq_traces.specs.internal.Printed_steps.{head_text}
use Rattle.gq_traces.proofs.Printed_changes.{accounts_end, accounts_first, accounts_next}
use Rattle.gq_traces.proofs.Renewed_trace_notes.{accounts_all, accounts_more, later_more, length_set}
use Rattle.gq_traces.proofs.step_lines.print_accounts.Goals as goal

pub loop-number-init : goal.loop-number-init
loop-number-init g c = record {
  reported = accounts_first g.W.Write.contents c.args.world.now c.args.notes.now.accounts.items (head_text c.args.world.now.scenario c.args.head.now)
      c.args.out.now
      c.args.progress;
  accounts = refl;
  later = λ k over. refl;
  long = refl;
  sessions = refl;
  count = refl;
}

pub loop-number-preserved : goal.loop-number-preserved
loop-number-preserved g c =
    let w = c.args.world.now in
    let l = c.loop-number in
    let n = l.number in
    let all = all_accounts w in
    let olds = c.args.notes.now.accounts.items in
    let xs = l.notes.accounts.items in
    let step = c.print_account-progress in
    let renewed = step.ensures.renewed in
    let less = c.loop-number-test.true in
    let count = c.nodes-number-end.ensures.accounts in
    let noted = c.requires.noted in
    let long = l.invariant.long in
    let at = c.new-node.ensures in
    let set : step.new.notes.accounts.items ≡ slice_set xs n renewed.now = renewed.accounts ∙ ap (λ k. slice_set xs k renewed.now) at in
    record {
      reported = accounts_next g.W.Write.contents w olds (head_text w.scenario c.args.head.now) n c.args.out.now l.out step.new.out
          c.args.progress l.progress step.result (omega (arith, less, count, noted)) (omega (arith, less, count)) l.invariant.reported
          (λ x y there reported. step.ensures.reported x y (ap (slice_get all) at ∙ there)
          (ap (slice_get xs) at ∙ (l.invariant.later n (omega arith) ∙ reported)));
      accounts = ap (λ ys. map standing_in (take (n + 1) ys)) set
          ∙ accounts_more xs all n n renewed.now refl (omega (arith, less, count, noted, long)) (omega (arith, less, count))
          (subst (λ k. IfSome (slice_get all k) (λ a. standing_in renewed.now ≡ standing_of a)) at renewed.is) l.invariant.accounts;
      later = λ k over. ap (λ ys. slice_get ys k) set ∙ later_more xs olds n renewed.now l.invariant.later k over;
      long = ap length set ∙ length_set xs n renewed.now ∙ long;
      sessions = renewed.sessions ∙ l.invariant.sessions;
      count = renewed.count ∙ l.invariant.count;
    }

pub print_account-progress-requires-clause-noted : goal.print_account-progress-requires-clause-noted
print_account-progress-requires-clause-noted g c =
    let l = c.loop-number in
    let less = c.loop-number-test.true in
    let count = c.nodes-number-end.ensures.accounts in
    let noted = c.requires.noted in
    let long = l.invariant.long in
    let at = c.new-node.ensures in
    omega (arith, less, count, noted, long, at)

pub returns : goal.returns
returns g c =
    let w = c.args.world.now in
    let l = c.loop-number in
    let over = c.loop-number-test.false in
    let count = c.nodes-number-end.ensures.accounts in
    record {
      reported = accounts_end g.W.Write.contents w c.args.notes.now.accounts.items (head_text w.scenario c.args.head.now) l.number c.args.out.now l.out
          c.args.progress l.progress (omega (arith, over, count)) l.invariant.reported;
      accounts = accounts_all l.notes.accounts.items (all_accounts w) l.number (l.invariant.long ∙ c.requires.noted) (omega (arith, over, count))
          l.invariant.accounts;
      sessions = l.invariant.sessions;
      count = l.invariant.count;
    }
