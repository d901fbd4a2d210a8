use Rattle.std.proofs.Common.{◌≡◌, ◌∙◌, ℕ, ◌<◌, ◌≤◌, ◌^◌, None, ap, get_or, map, refl, arith}
use Rattle.std.specs.Prelude.{option_map}
use Rattle.gq_laws.proofs.verified_programs.Accepted_program_facts.{main_there}
use Rattle.gq_model.specs.declared.section.Section.TheVariants.{Main}
use Rattle.gq_model.specs.machine.Amounts.{Resource, Ram, Caps}
use Rattle.gq_model.specs.rules.Flow.{body, context, start_of}
use Rattle.gq_model.specs.rules.Kinds.{Subject}
use Rattle.gq_model.specs.rules.Verdict.{program_fault}
use Rattle.gq_tariff.specs.Prices.{classes}
use Rattle.gq_verify.specs.Visits.{Sight, after_all, section_sights, shown_points}
use Rattle.gq_verify.proofs.Kept_by.{shows_keep}
use Rattle.gq_verify.proofs.Visited_point_maxima.{shows_all}
use Rattle.gq_why.specs.First_maxima.{AreFewMore, counted_at, own_cost, picked_own, top_in, top_of, top_own}
use Rattle.gq_why.specs.Why.{places_at, points_of}
use Rattle.gq_why.specs.declared.greatest_points.HighestOwn.{HighestOwn}
use Rattle.gq_why.proofs.Highest_cell_count.{counted_highest}
use Rattle.gq_why.proofs.Eight_class_facts.{no_places, zero_at}
use Rattle.gq_why.proofs.First_highest.{each_of, left_highest, picked_left}
use Rattle.gq_why.proofs.Shown_points.{section_shown, shown_of}
use Rattle.gq_why.proofs.greatest_points.HighestOwn.of.Goals as goal

abbrev Leads : HighestOwn → Sight → HighestOwn → Type 0
Leads a e b =
    (option_map top_in b.ram ≡ picked_own Ram (option_map top_in a.ram) e) × (option_map top_in b.caps ≡ picked_own Caps (option_map top_in a.caps) e)
    × ((k : ℕ) → k < 8 → get_or b.places k (0, 0) ≡ counted_at (places_at (get_or classes k 0)) (get_or a.places k (0, 0)) e)
    × AreFewMore a.places b.places

abbrev first : HighestOwn
first = record { ram = None; caps = None; places = no_places }

-- `main` is there, and so are its points
shown : (v : Subject) → program_fault v ≡ None → map shown_of (points_of v Main) ≡ shown_points (section_sights v Main)
shown v faultless = let there = main_there v faultless in section_shown v Main there.0 there.1

top_is : (r : Resource) (v : Subject) → program_fault v ≡ None → after_all (picked_own r) None (section_sights v Main) ≡ top_own r (points_of v Main)
top_is r v faultless =
    picked_left Main (own_cost r) (λ s. s.own) (λ s. refl) (λ s. refl) None (points_of v Main) (section_sights v Main)
    (refl, each_of Main (context v Main) 1 (start_of v Main) (body v Main)) (shown v faultless)
    ∙ ap (option_map (top_of (own_cost r) (λ s. s.own))) (left_highest (own_cost r) (points_of v Main))

pub returns-clause-ram : goal.returns-clause-ram
returns-clause-ram c =
    shows_all Leads (λ a. option_map top_in a.ram) (picked_own Ram) (λ a e b h. h.0) first c.visit.new.visitor (section_sights c.args.verified.now Main)
    c.visit.ensures ∙ top_is Ram c.args.verified.now c.laws.ensures

pub returns-clause-caps : goal.returns-clause-caps
returns-clause-caps c =
    shows_all Leads (λ a. option_map top_in a.caps) (picked_own Caps) (λ a e b h. h.1) first c.visit.new.visitor (section_sights c.args.verified.now Main)
    c.visit.ensures ∙ top_is Caps c.args.verified.now c.laws.ensures

pub returns-clause-places : goal.returns-clause-places
returns-clause-places c k lt =
    let v = c.args.verified.now in
    let seen = section_sights v Main in
    let f = places_at (get_or classes k 0) in
    counted_highest f (λ s. refl) (points_of v Main) seen (shown v c.laws.ensures) (get_or c.visit.new.visitor.places k (0, 0))
    (shows_all Leads (λ a. get_or a.places k (0, 0)) (counted_at f) (λ a e b h. h.2 k lt) first c.visit.new.visitor seen c.visit.ensures
    ∙ ap (λ t. after_all (counted_at f) t seen) (zero_at k lt))

pub returns-clause-few : goal.returns-clause-few
returns-clause-few c k lt =
    shows_keep Leads (λ a. (get_or a.places k (0, 0)).0 ≤ 2 ^ 22) (λ a e b h p. h.3 k lt p) first c.visit.new.visitor (section_sights c.args.verified.now Main)
    c.visit.ensures (let none = ap (λ (t : ℕ × ℕ). t.0) (zero_at k lt) in omega (arith, none))
