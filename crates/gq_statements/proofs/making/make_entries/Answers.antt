use Rattle.std.proofs.Common.{◌≡◌, ◌*◌, length, replicate, List, Option, None, ℕ, ap, arith, rules}
use Rattle.std.proofs.lemmas.List.{length-replicate}
use Rattle.gq_tariff.specs.Prices.{up}
use Rattle.gq_model.specs.machine.World as world
use Rattle.gq_slots.specs.Slots.{Slots}
use Rattle.gq_statements.proofs.Refused_means_unpaid.{refused}
use Rattle.gq_statements.proofs.making.make_entries.Goals as goal

pub returns : goal.returns
returns c =
    let s : Slots = c.args.slots.now in
    let none : Option (List ℕ) = None in
    let long : length (replicate c.args.count none) ≡ c.args.count = length-replicate c.args.count none in
    let price = ap (λ m. up (4 * m)) long in
    record {
      made = record {
        settles = search rules;
        unchanged = search rules;
        unpaid =
            refused s c.args.slot_id (world.Pool c.args.size (replicate c.args.count None)) c.make_pool.result c.lawful.ensures c.requires.payable.there
            c.requires.payable.slot
            c.requires.empty c.requires.payable.below (λ e. let lt = c.make_pool.ensures.refused.exceeded.0 e in omega (arith, lt, price))
            (λ e. ((c.make_pool.ensures.refused.none.0 e).1, omega arith));
      };
    }
