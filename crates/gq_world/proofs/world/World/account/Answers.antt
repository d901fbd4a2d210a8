use Rattle.std.proofs.Common.{◌≡◌, ◌<◌, ◌∙◌, ℕ, List, IfSome, ap, sym, subst}
use Rattle.std.specs.Prelude.{slice_get}
use Rattle.gq_model.specs.machine.Accounts.{Account}
use Rattle.gq_output.specs.Account_values.{reported_of}
use Rattle.gq_world.proofs.World_account_lines.{all_by, all_count, fits_at, keeps_bytes, keeps_caps, keeps_steps, leaves_count}
use Rattle.gq_world.proofs.World_turn_facts.{stands_seen}
use Rattle.gq_world.proofs.world.World.account.Goals as goal

pub account_of-requires-clause-leaves : goal.account_of-requires-clause-leaves
account_of-requires-clause-leaves c = let m = c.self.inside.machine in leaves_count m.scenario m.world c.self.invariant.budgeted.stands

pub returns-clause-reported : goal.returns-clause-reported
returns-clause-reported c =
    let m = c.self.inside.machine in
    let w = c.args.self.now in
    let all = all_by m.scenario m.world c.as_slice.result.now w (ap (λ v. v.scenario) c.self.view_is) (ap (λ v. v.world) c.self.view_is)
    (c.as_slice.ensures.value ∙ c.self.invariant.budgeted.budgets_are) in
    subst (λ (l : List Account). IfSome (slice_get l c.args.node) (λ a. c.account_of.result ≡ reported_of a)) all c.account_of.ensures.reported

pub returns-clause-paid : goal.returns-clause-paid
returns-clause-paid c =
    let m = c.self.inside.machine in
    let w = c.args.self.now in
    let stands = stands_seen m.scenario w.scenario m.world w.world (ap (λ v. v.scenario) c.self.view_is)
    (ap (λ v. v.world) c.self.view_is) c.self.invariant.budgeted.stands in
    let less = subst (λ (k : ℕ). c.args.node < k) (sym (all_count w (leaves_count w.scenario w.world stands))) c.requires in
    fits_at (λ l q. l.used.ram) (λ l q. q.ram) keeps_bytes c.accepted_laws.ensures.promises c.accepted_laws.ensures.accounts w stands c.args.node
    c.account_of.result less (returns-clause-reported c) c.account_of.ensures.held

pub returns-clause-paid_caps : goal.returns-clause-paid_caps
returns-clause-paid_caps c =
    let m = c.self.inside.machine in
    let w = c.args.self.now in
    let stands = stands_seen m.scenario w.scenario m.world w.world (ap (λ v. v.scenario) c.self.view_is)
    (ap (λ v. v.world) c.self.view_is) c.self.invariant.budgeted.stands in
    let less = subst (λ (k : ℕ). c.args.node < k) (sym (all_count w (leaves_count w.scenario w.world stands))) c.requires in
    fits_at (λ l q. l.used.caps) (λ l q. q.caps) keeps_caps c.accepted_laws.ensures.promises c.accepted_laws.ensures.accounts w stands c.args.node
    c.account_of.result less (returns-clause-reported c) c.account_of.ensures.held

pub returns-clause-within_budget : goal.returns-clause-within_budget
returns-clause-within_budget c =
    let m = c.self.inside.machine in
    let w = c.args.self.now in
    let stands = stands_seen m.scenario w.scenario m.world w.world (ap (λ v. v.scenario) c.self.view_is)
    (ap (λ v. v.world) c.self.view_is) c.self.invariant.budgeted.stands in
    let less = subst (λ (k : ℕ). c.args.node < k) (sym (all_count w (leaves_count w.scenario w.world stands))) c.requires in
    fits_at (λ l q. l.steps) (λ l q. l.budget) keeps_steps c.accepted_laws.ensures.promises c.accepted_laws.ensures.accounts w stands c.args.node
    c.account_of.result less (returns-clause-reported c) c.account_of.ensures.held
