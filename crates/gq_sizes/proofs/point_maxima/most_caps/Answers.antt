use Rattle.std.proofs.Common.{◌≡◌, ◌+◌, refl, arith}
use Rattle.gq_model.specs.machine.Amounts.{Caps}
use Rattle.gq_model.specs.rules.Kinds.{AbstractState}
use Rattle.gq_verify.specs.Saturated_numbers.{saturated}
use Rattle.gq_verify.specs.Visits.{Sight, raised, section_sights}
use Rattle.gq_verify.proofs.Visited_point_maxima.{most_of_section}
use Rattle.gq_sizes.specs.Size.{section_points, session_cost, slots_cost}
use Rattle.gq_sizes.specs.Point_maxima.{RaisesCaps, given_in}
use Rattle.gq_sizes.specs.declared.point_maxima.MostCaps.{MostCaps}
use Rattle.gq_verify.proofs.Kept_by.{all_raised, shows_by}
use Rattle.gq_sizes.proofs.Saturated_cost_sums.{greatest_saturated}
use Rattle.gq_sizes.proofs.point_maxima.most_caps.Goals as goal

abbrev Leads : MostCaps → Sight → MostCaps → Type 0
Leads a e b = (b.given ≡ a.given) × RaisesCaps (given_in a.given.now.interfaces.now a.given.now.sums.now) a.most e b.most

pub returns : goal.returns
returns c b i there =
    let v = c.args.verified.now in
    let section = c.args.section in
    let seen = section_sights v section in
    let given = given_in c.args.given.now.interfaces.now c.args.given.now.sums.now in
    let h = shows_by Leads (λ a. a.given) (λ a. a.most)
    (λ k. raised (λ (s : AbstractState). saturated (1 + slots_cost (given_in k.now.interfaces.now k.now.sums.now) Caps s.bank))) (λ a e b h. (h.0, h.1))
    c.args.given
    (record { given = c.args.given; most = 0 }) c.visit.new.visitor seen refl c.visit.ensures in
    let all = all_raised (λ (s : AbstractState). saturated (1 + slots_cost given Caps s.bank)) 0 seen in
    let most = most_of_section (λ (s : AbstractState). saturated (1 + slots_cost given Caps s.bank)) (λ s. refl) v section b there in
    let kept = greatest_saturated (session_cost given Caps i) (section_points v section) in
    omega (arith, h, all, most, kept)
