use Rattle.std.proofs.Common.{◌∙◌, ℕ, List, true, map, refl, ap, sym, subst}
use Rattle.gq_model.specs.machine.Scenario.{Interface}
use Rattle.gq_sizes.specs.Passing.{tests}
use Rattle.gq_sizes.proofs.Session_chain_rounds.{first_rows}
use Rattle.gq_sizes.proofs.Capability_need_rounds.{AreKnown, all_known}
use Rattle.gq_sizes.proofs.Number_table_rows.{row_more, row_none}
use Rattle.gq_sizes.proofs.endless.first_tests.Goals as goal

pub loop-entry-preserved : goal.loop-entry-preserved
loop-entry-preserved c =
    row_more (λ (e : List ℕ × Interface). tests (λ l. true)) c.entries-entry-items.result.now c.loop-entry._entry-index
    c._entry-item.result c.loop-entry.tests.items c.push.new.self.items _ c.loop-entry-test.true c._entry-item.is c.in_ok-push.ensures.items refl
    c.loop-entry.invariant

pub returns : goal.returns
returns c all same =
    let known : AreKnown all.interfaces c.args.interfaces.now = subst (AreKnown all.interfaces) same (all_known all.interfaces) in
    row_none (λ (e : List ℕ × Interface). tests (λ l. true)) c.entries-entry-items.result.now c.loop-entry._entry-index
    c.loop-entry.tests.items c.loop-entry-test.false c.loop-entry.invariant
    ∙ (ap (map (λ (e : List ℕ × Interface). tests (λ l. true))) c.entries-entry-items.ensures.entries
    ∙ sym (first_rows all c.args.interfaces.now known))
