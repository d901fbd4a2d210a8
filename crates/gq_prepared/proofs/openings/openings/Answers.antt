use Rattle.std.proofs.Common.{◌≡◌, ◌∙◌, [], ◌∷◌, length, length-append, Some, refl, ap, arith}
use Rattle.std.specs.Prelude.{slice_get}
use Rattle.std.proofs.lemmas.Option.{slice_get_read, slice_get_within}
use Rattle.gq_prepared.proofs.Open_statement_servers.{all_led, one_led}
use Rattle.gq_prepared.proofs.openings.openings.Goals as goal

pub loop-statement-preserved : goal.loop-statement-preserved
loop-statement-preserved c =
    let l = c.loop-statement in
    let items = c.longs-statement-items.result.now in
    let statement = c.statement-item.result in
    let opening = c.led.result in
    let here = slice_get_read items (length items) l.statement-index statement refl c.loop-statement-test.true c.statement-item.is in
    let grown = c.in_ok-push.ensures.items in
    record {
      made = one_led c.args.table.now c.args.leaf items l.openings.items c.push.new.self.items opening l.statement-index statement grown l.invariant.count
          here c.led.ensures l.invariant.made;
      count = omega (arith, ap length grown, length-append l.openings.items (opening ∷ []), l.invariant.count);
    }

pub returns-clause-openings : goal.returns-clause-openings
returns-clause-openings c =
    let longs = c.args.code.now.longs in
    let items = c.longs-statement-items.result.now in
    all_led c.stated.ensures c.args.table.now c.args.leaf c.args.code.now c.loop-statement.openings.items c.requires.code
    (λ k statement less there.
    let at : slice_get items k ≡ Some statement = ap (λ y. slice_get y k) c.longs-statement-items.ensures ∙ there in
    c.loop-statement.invariant.made k statement (omega (arith, c.loop-statement-test.false, slice_get_within items k statement at)) at)
