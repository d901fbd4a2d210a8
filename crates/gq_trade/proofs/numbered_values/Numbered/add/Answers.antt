use Rattle.std.proofs.Common.{rules}
use Rattle.std.proofs.Common.{◌<◌, ap, sym, subst, arith, length}
use Rattle.gq_trade.specs.Numbers.{Numbers, IsTaken, free_number}
use Rattle.gq_trade.proofs.Lowest_free_number.{added_taken, added_some, added_length}
use Rattle.gq_trade.proofs.numbered_values.Numbered.add.Goals as goal

pub invariant_of-self : goal.invariant_of-self
invariant_of-self g c =
    let s = c.self.inside in let ps = s.places.items in
    let e = c.first_free-number.ensures in
    let there : free_number ps < s.room = omega
    (arith, ap (λ (p : Numbers _). p.room) c.self.view_is, ap (λ (p : Numbers _). free_number p.values) c.self.view_is, c.requires) in
    let now = c.put.ensures.added in
    record {
      within = omega (arith, e, ap length now, added_some c.args.value ps);
      count = omega (arith, ap length now, added_length c.args.value ps s.room c.self.invariant.count there);
      held = omega (arith, c.self.invariant.held, c.put.ensures.capacity);
      below = λ j lt. subst (λ qs. IsTaken qs j) (sym now) (added_taken c.args.value ps j (omega (arith, lt, e)));
    }

pub first_free-number-requires-clause-below : goal.first_free-number-requires-clause-below
first_free-number-requires-clause-below g c = search rules
