use Rattle.std.proofs.Common.{◌≡◌, ℕ, ◌<◌, ◌≤◌, ◌^◌, List, [], ◌∷◌, get_or, refl, arith}
use Rattle.std.specs.Prelude.{sum_by}
use Rattle.gq_tariff.specs.Prices.{classes}
use Rattle.gq_model.specs.declared.section.Section.TheVariants.{Main}
use Rattle.gq_model.specs.machine.Amounts.{Caps}
use Rattle.gq_model.specs.rules.Kinds.{AbstractState, kind_places}
use Rattle.gq_verify.specs.Saturated_numbers.{saturated}
use Rattle.gq_verify.specs.Visits.{Sight, raised, section_sights}
use Rattle.gq_verify.proofs.Visited_point_maxima.{shows_most}
use Rattle.gq_sizes.specs.Size.{slots_cost}
use Rattle.gq_sizes.specs.Point_maxima.{AreFewMore, RaisesOwn, RaisesPlaces, given_in}
use Rattle.gq_sizes.specs.declared.point_maxima.MostOwn.{MostOwn}
use Rattle.gq_sizes.proofs.Eight_list_facts.{of_eight}
use Rattle.gq_verify.proofs.Kept_by.{all_raised, shows_by, shows_keep}
use Rattle.gq_sizes.proofs.point_maxima.most_own.Goals as goal

abbrev Leads : MostOwn → Sight → MostOwn → Type 0
Leads a e b =
    (b.given ≡ a.given) × RaisesOwn (given_in a.given.now.interfaces.now a.given.now.sums.now) a.slots e b.slots × RaisesPlaces a.places e b.places
    × AreFewMore a.places b.places

abbrev zeros : List ℕ
zeros = 0 ∷ 0 ∷ 0 ∷ 0 ∷ 0 ∷ 0 ∷ 0 ∷ 0 ∷ []

zero_at : (k : ℕ) → k < 8 → get_or zeros k 0 ≡ 0
zero_at = of_eight (λ k. get_or zeros k 0 ≡ 0) refl refl refl refl refl refl refl refl

pub returns-clause-slots : goal.returns-clause-slots
returns-clause-slots c =
    let given = given_in c.args.given.now.interfaces.now c.args.given.now.sums.now in
    let first : MostOwn = record { given = c.args.given; slots = 0; places = zeros } in
    let seen = section_sights c.args.verified.now Main in
    let h = shows_by Leads (λ a. a.given) (λ a. a.slots)
    (λ k. raised (λ (s : AbstractState). saturated (slots_cost (given_in k.now.interfaces.now k.now.sums.now) Caps s.own))) (λ a e b h. (h.0, h.1)) c.args.given
    first c.visit.new.visitor seen refl c.visit.ensures in
    let all = all_raised (λ (s : AbstractState). saturated (slots_cost given Caps s.own)) 0 seen in
    omega (arith, h, all)

pub returns-clause-places : goal.returns-clause-places
returns-clause-places c k lt =
    let first : MostOwn = record { given = c.args.given; slots = 0; places = zeros } in
    let h = shows_most Leads (λ (a : MostOwn). get_or a.places k 0) (λ (s : AbstractState). sum_by (kind_places (get_or classes k 0)) s.own)
    (λ a e b h. h.2 k lt) first c.visit.new.visitor (section_sights c.args.verified.now Main) c.visit.ensures in
    let none = zero_at k lt in
    omega (arith, h, none)

pub returns-clause-few : goal.returns-clause-few
returns-clause-few c k lt =
    let first : MostOwn = record { given = c.args.given; slots = 0; places = zeros } in
    shows_keep Leads (λ (a : MostOwn). get_or a.places k 0 ≤ 2 ^ 22) (λ a e b h p. h.3 k lt p) first c.visit.new.visitor
    (section_sights c.args.verified.now Main) c.visit.ensures (let none = zero_at k lt in omega (arith, none))
