use Rattle.std.proofs.Common.{◌≡◌, refl, arith}
use Rattle.gq_model.specs.machine.Amounts.{Ram}
use Rattle.gq_model.specs.rules.Kinds.{AbstractState, session_cost}
use Rattle.gq_verify.specs.Visits.{Sight, raised, section_sights}
use Rattle.gq_verify.proofs.Visited_point_maxima.{most_of_section}
use Rattle.gq_sizes.specs.Size.{section_points}
use Rattle.gq_sizes.specs.Point_maxima.{RaisesRam}
use Rattle.gq_sizes.specs.declared.point_maxima.MostRam.{MostRam}
use Rattle.gq_verify.proofs.Kept_by.{all_raised, shows_by}
use Rattle.gq_sizes.proofs.Slot_costs.{session_ram}
use Rattle.gq_sizes.proofs.point_maxima.most_ram.Goals as goal

abbrev Leads : MostRam → Sight → MostRam → Type 0
Leads a e b = (b.interface ≡ a.interface) × RaisesRam a.interface.now a.most e b.most

pub returns : goal.returns
returns c b there =
    let v = c.args.verified.now in
    let section = c.args.section in
    let i = c.args.interface.now in
    let seen = section_sights v section in
    let h = shows_by Leads (λ a. a.interface) (λ a. a.most) (λ k. raised (λ (s : AbstractState). session_cost Ram k.now s.bank)) (λ a e b h. (h.0, h.1))
    c.args.interface (record { interface = c.args.interface; most = 0 }) c.visit.new.visitor seen refl c.visit.ensures in
    let all = all_raised (λ (s : AbstractState). session_cost Ram i s.bank) 0 seen in
    let most = most_of_section (λ (s : AbstractState). session_cost Ram i s.bank) (λ s. refl) v section b there in
    let same = session_ram i (section_points v section) in
    omega (arith, h, all, most, same)
