use Rattle.std.proofs.Common.{◌∙◌, ap, subst}
use Rattle.gq_output.specs.Writer_failures.{Writes}
use Rattle.gq_world.proofs.World_account_lines.{lines_by, leaves_count}
use Rattle.gq_world.proofs.world.World.write_accounts.Goals as goal

pub write_accounts-requires : goal.write_accounts-requires
write_accounts-requires g c = let m = c.self.inside.machine in leaves_count m.scenario m.world c.self.invariant.budgeted.stands

pub returns : goal.returns
returns g c =
    let m = c.self.inside.machine in
    let text = lines_by m.scenario m.world c.as_slice.result.now c.args.self.now (ap (λ v. v.scenario) c.self.view_is) (ap (λ v. v.world) c.self.view_is)
    (c.as_slice.ensures.value ∙ c.self.invariant.budgeted.budgets_are) in
    subst (λ t. Writes g.W.Write.contents c.args.out.now c.write_accounts.new.out t c.write_accounts.result) text c.write_accounts.ensures
