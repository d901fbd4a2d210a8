use Rattle.std.proofs.Common.{◌≡◌, ◌<◌, ◌+◌, length, get_or, None, arith, sym, ap, subst, ◌∙◌}
use Rattle.gq_ram.specs.Ledgers.{Ledger, IsBalanced}
use Rattle.gq_ram.proofs.Account_sums.{is_same, is_other, owner_default}
use Rattle.gq_ram.proofs.Closed_account_balances.{IsCleared, cleared_more, cleared_skip, cleared_paid}
use Rattle.gq_ram.proofs.accounts.Accounts.free_all.Goals.{then-is_it, else-is_it}
use Rattle.gq_ram.proofs.accounts.Accounts.free_all.Goals as goal

pub loop-k-preserved : goal.loop-k-preserved
loop-k-preserved c =
    let l : Ledger = c.args.self.now in let m : Ledger = c.loop-k.self in let a = c.args.account in let k = c.loop-k.k in
    let v = c.self-in-loop-k.view_is in
    let cleared : IsCleared l m a k = c.loop-k.invariant.cleared in
    let long : length l.owners ≡ c.len-count.result = omega (
      arith,
      ap (λ (n : Ledger). length n.owners) c.self.view_is,
      c.len-count.ensures,
      c.self.inside.owners.ok.0,
    ) in
    let there : k < length m.owners = omega (arith, long, cleared.long, c.loop-k-test.true) in
    let here : get_or m.owners k None ≡ c.index.result.now =
    sym (owner_default m.owners k c.index.result.now there) ∙ ap (λ (n : Ledger). get_or n.owners k c.index.result.now) (sym v) ∙ sym c.index.ensures in
    elim c.if-is_it.branch [
      | then-is_it w ↦ record {
        cleared = subst (λ (n : Ledger). IsCleared l n a (k + 1)) (sym w.self-is) (cleared_more l m w.free.new.self a k _ _ cleared c.requires
            (here ∙ is_same c.index.result.now a (sym c.is_it.ensures ∙ w.if-is_it.true)) w.free.ensures.paid w.free.ensures.gone w.free.ensures.of_none
            w.free.ensures.same_whole);
      }
      | else-is_it w ↦ record {
        cleared = subst (λ (n : Ledger). IsCleared l n a (k + 1)) (sym w.self-is) (cleared_skip l m a k cleared
            (λ own. is_other c.index.result.now a (sym c.is_it.ensures ∙ w.if-is_it.false) (sym here ∙ own)));
      }
    ]

pub returns-clause-paid : goal.returns-clause-paid
returns-clause-paid c =
    let balanced : IsBalanced c.loop-k.self = subst IsBalanced c.self-2.view_is c.self-2.invariant in
    let long : length c.args.self.now.owners ≡ c.len-count.result = omega (
      arith,
      ap (λ (n : Ledger). length n.owners) c.self.view_is,
      c.len-count.ensures,
      c.self.inside.owners.ok.0,
    ) in
    cleared_paid c.args.self.now c.loop-k.self c.args.account c.loop-k.k c.loop-k.invariant.cleared (omega (arith, long, c.loop-k-test.false)) balanced
