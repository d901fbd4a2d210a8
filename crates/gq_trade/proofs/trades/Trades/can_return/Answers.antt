use Rattle.std.proofs.Common.{ap, arith, refl}
use Rattle.gq_tariff.specs.declared.amount.Amount.{Amount}
use Rattle.gq_ram.proofs.Account_caller_facts.{account_within}
use Rattle.gq_trade.proofs.trades.Trades.can_return.Goals as goal

pub overflow_add-then : goal.overflow_add-then
overflow_add-then c =
    let a = c.account_of-account.result.0 in
    record {
      fits = omega (
        arith,
        ap (λ (n : Amount). n.ram) c.avail-avail.ensures,
        account_within (λ x. x.quota.ram) refl c.self.inside.accounts.accounts a,
        c.laws.ensures.quotas,
        c.laws.ensures.small,
        c.price_slice.ensures,
        c.requires.object,
        c.size.ensures.size,
        c.from.ensures,
      );
    }

pub overflow_add-then-2 : goal.overflow_add-then-2
overflow_add-then-2 c =
    let a = c.account_of-account.result.0 in
    record {
      fits = omega (
        arith,
        ap (λ (n : Amount). n.caps) c.avail-avail.ensures,
        account_within (λ x. x.quota.caps) refl c.self.inside.accounts.accounts a,
        c.laws.ensures.caps,
        c.laws.ensures.small_caps,
      );
    }
