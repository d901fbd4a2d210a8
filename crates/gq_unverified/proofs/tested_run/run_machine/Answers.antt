use Rattle.std.proofs.Common.{rules, ◌∙◌, ℕ, [], Option, None, ap, length, sym, subst}
use Rattle.gq_model.specs.declared.fault.Wrong.{Wrong}
use Rattle.gq_model.specs.machine.Accounts.{account_lines}
use Rattle.gq_world.specs.internal.Act_transitions.{lines_on}
use Rattle.gq_model.specs.machine.Scenario.{Scenario, components, system}
use Rattle.gq_model.specs.machine.World.{World}
use Rattle.std.specs.Io.KnownBytes.{Appends}
use Rattle.gq_output.specs.Writes.{IsPrefix}
use Rattle.gq_world.specs.Account_lines.{accounts_by}
use Rattle.gq_unverified.specs.internal.Taking.{HasCome, HasRoom, turns_in}
use Rattle.gq_unverified.proofs.Tested_step_counts.{start_room, start_count}
use Rattle.gq_unverified.proofs.Tested_run_text.{wrong_is, ended, complete, cut_lines, cut_turns}
use Rattle.gq_unverified.proofs.tested_run.run_machine.Goals as goal

pub take_all-requires-clause-room : goal.take_all-requires-clause-room
take_all-requires-clause-room g c =
    subst (λ (w : World). HasRoom w (turns_in c.args.turns.now)) (sym c.requires.start)
    (start_room (system c.args.machine.now.scenario) (turns_in c.args.turns.now) c.requires.few)

pub take_all-requires-clause-count : goal.take_all-requires-clause-count
take_all-requires-clause-count g c =
    ap (λ (w : World). length w.leaves) c.requires.start ∙ start_count (system c.args.machine.now.scenario)

pub write_accounts-requires : goal.write_accounts-requires
write_accounts-requires g c =
    let s = c.args.machine.now.scenario in
    let e = c.in-Ok-None.ensures in
    e.leaves ∙ (ap (λ (w : World). length w.leaves) c.requires.start ∙ (start_count (system s) ∙ ap (λ (r : Scenario). length (components r)) (sym e.scenario)))

pub returns-in-Ok-clause-wrong : goal.returns-in-Ok-clause-wrong
returns-in-Ok-clause-wrong g c =
    let s = c.args.machine.now.scenario in
    let turns = c.args.turns.now in
    let old = c.args.machine.now.world in
    let new = c.take_all.new.machine.world in
    let a = g.W.Write.contents c.args.out.now.writer in
    let b = g.W.Write.contents c.take_all.new.out.writer in
    let come = subst (λ (o : Option (ℕ × Wrong)). HasCome (lines_on (system s) turns) old new o a b) c.in-Ok-None.field-0-is c.in-Ok-None.ensures.come in
    wrong_is s turns old c.requires.start a b b new None come

pub returns-in-Ok-clause-writes : goal.returns-in-Ok-clause-writes
returns-in-Ok-clause-writes g c =
    let s = c.args.machine.now.scenario in
    let turns = c.args.turns.now in
    let old = c.args.machine.now.world in
    let new = c.take_all.new.machine.world in
    let a = g.W.Write.contents c.args.out.now.writer in
    let b = g.W.Write.contents c.take_all.new.out.writer in
    let d = g.W.Write.contents c.write_accounts.new.out.writer in
    let come = subst (λ (o : Option (ℕ × Wrong)). HasCome (lines_on (system s) turns) old new o a b) c.in-Ok-None.field-0-is c.in-Ok-None.ensures.come in
    let lines = subst (λ (r : Scenario). Appends b d (account_lines r.version (accounts_by r new []))) c.in-Ok-None.ensures.scenario c.in-Ok.ensures.written in
    record {
      written = complete s turns old c.requires.start a b d new come lines;
      counted = search rules;
      prefix = search rules;
      raised = search rules;
    }

pub returns-in-Err-write_accounts-clause-writes : goal.returns-in-Err-write_accounts-clause-writes
returns-in-Err-write_accounts-clause-writes g c =
    let s = c.args.machine.now.scenario in
    let turns = c.args.turns.now in
    let old = c.args.machine.now.world in
    let new = c.take_all.new.machine.world in
    let a = g.W.Write.contents c.args.out.now.writer in
    let b = g.W.Write.contents c.take_all.new.out.writer in
    let d = g.W.Write.contents c.write_accounts.new.out.writer in
    let come = subst (λ (o : Option (ℕ × Wrong)). HasCome (lines_on (system s) turns) old new o a b) c.in-Ok-None.field-0-is c.in-Ok-None.ensures.come in
    let lines = subst (λ (r : Scenario). IsPrefix b d (account_lines r.version (accounts_by r new []))) c.in-Ok-None.ensures.scenario
    c.in-Err-write_accounts.ensures.prefix in
    record {
      written = search rules;
      counted = search rules;
      prefix = cut_lines s turns old c.requires.start a b d new come lines;
      raised = search rules;
    }

pub returns-in-Ok-Some-clause-wrong : goal.returns-in-Ok-Some-clause-wrong
returns-in-Ok-Some-clause-wrong g c =
    let s = c.args.machine.now.scenario in
    let turns = c.args.turns.now in
    let old = c.args.machine.now.world in
    let new = c.take_all.new.machine.world in
    let a = g.W.Write.contents c.args.out.now.writer in
    let b = g.W.Write.contents c.take_all.new.out.writer in
    sym c.in-Ok-Some.field-0-is ∙ wrong_is s turns old c.requires.start a b b new c.in-Ok-Some.field-0 c.in-Ok-Some.ensures.come

pub returns-in-Ok-Some-clause-writes : goal.returns-in-Ok-Some-clause-writes
returns-in-Ok-Some-clause-writes g c =
    let s = c.args.machine.now.scenario in
    let turns = c.args.turns.now in
    let old = c.args.machine.now.world in
    let new = c.take_all.new.machine.world in
    let a = g.W.Write.contents c.args.out.now.writer in
    let b = g.W.Write.contents c.take_all.new.out.writer in
    let come = subst (λ (o : Option (ℕ × Wrong)). HasCome (lines_on (system s) turns) old new o a b) c.in-Ok-Some.field-0-is c.in-Ok-Some.ensures.come in
    record {
      written = ended s turns old c.requires.start a b b new c.in-Ok-Some.wrong come;
      counted = search rules;
      prefix = search rules;
      raised = search rules;
    }

pub returns-in-Err-clause-writes : goal.returns-in-Err-clause-writes
returns-in-Err-clause-writes g c =
    let a = g.W.Write.contents c.args.out.now.writer in
    let b = g.W.Write.contents c.take_all.new.out.writer in
    record {
      written = search rules;
      counted = search rules;
      prefix = cut_turns c.args.machine.now.scenario c.args.turns.now c.args.machine.now.world c.requires.start a b b c.in-Err.ensures.cut;
      raised = search rules;
    }
