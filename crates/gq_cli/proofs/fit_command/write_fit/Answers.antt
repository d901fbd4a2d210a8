-- What is fitted decides what fits, and why there is no fit.
use Rattle.std.proofs.Common.{sym, subst}
use Rattle.gq_fit.specs.Fitted.{WritesFit}
use Rattle.gq_cli.specs.Executed.{fits, reasons}
use Rattle.gq_cli.proofs.fit_command.write_fit.Goals as goal

pub returns-in-Quantities : goal.returns-in-Quantities
returns-in-Quantities g c =
    subst (λ fitting. WritesFit g.W.Write.contents (fits fitting c.args.scenario.now) (reasons fitting) c.args.scenario.now c.args.out.now c.fit.new.out
    c.fit.result) (sym c.in-Quantities.is) c.fit.ensures

pub returns-in-Donations : goal.returns-in-Donations
returns-in-Donations g c =
    subst (λ fitting. WritesFit g.W.Write.contents (fits fitting c.args.scenario.now) (reasons fitting) c.args.scenario.now c.args.out.now
    c.fit_donations.new.out c.fit_donations.result) (sym c.in-Donations.is) c.fit_donations.ensures
