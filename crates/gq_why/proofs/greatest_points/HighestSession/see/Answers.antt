use Rattle.std.proofs.Common.{◌≡◌, option_map, refl}
use Rattle.gq_model.specs.machine.Amounts.{Ram, Caps}
use Rattle.gq_verify.specs.Visits.{Sight, section_sights}
use Rattle.gq_why.specs.First_maxima.{picked_session, top_in}
use Rattle.gq_why.specs.declared.greatest_points.HighestSession.{HighestSession}
use Rattle.gq_verify.proofs.Kept_by.{shows_by}
use Rattle.gq_why.proofs.greatest_points.HighestSession.see.Goals as goal

abbrev Leads : HighestSession → Sight → HighestSession → Type 0
Leads a e b =
    (b.section ≡ a.section) × (option_map top_in b.ram ≡ picked_session a.section Ram (option_map top_in a.ram) e)
    × (option_map top_in b.caps ≡ picked_session a.section Caps (option_map top_in a.caps) e)

pub returns-clause-ram : goal.returns-clause-ram
returns-clause-ram c =
    shows_by Leads (λ a. a.section) (λ a. option_map top_in a.ram) (λ section. picked_session section Ram) (λ a e b h. (h.0, h.1)) c.args.section
    (record c.args.self.now { section = c.args.section }) c.visit.new.visitor (section_sights c.args.verified.now c.args.section) refl c.visit.ensures

pub returns-clause-caps : goal.returns-clause-caps
returns-clause-caps c =
    shows_by Leads (λ a. a.section) (λ a. option_map top_in a.caps) (λ section. picked_session section Caps) (λ a e b h. (h.0, h.2)) c.args.section
    (record c.args.self.now { section = c.args.section }) c.visit.new.visitor (section_sights c.args.verified.now c.args.section) refl c.visit.ensures
