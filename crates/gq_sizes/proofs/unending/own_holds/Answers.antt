use Rattle.std.proofs.Common.{◌≡◌, ◌∙◌, refl, sym, false}
use Rattle.gq_model.specs.declared.section.Section.TheVariants.{Main}
use Rattle.gq_model.specs.machine.Lists.{any_of}
use Rattle.gq_model.specs.rules.Kinds.{AbstractState}
use Rattle.gq_verify.specs.Visits.{Sight, section_sights}
use Rattle.gq_sizes.specs.Endless.{leads}
use Rattle.gq_sizes.specs.Passing.{found_by, passing}
use Rattle.gq_sizes.specs.declared.unending.Owned.{Owned}
use Rattle.gq_verify.proofs.Kept_by.{shows_by}
use Rattle.gq_sizes.proofs.Any_test_search.{all_found, any_of_main}
use Rattle.gq_sizes.proofs.unending.own_holds.Goals as goal

abbrev Leads : Owned → Sight → Owned → Type 0
Leads a e b =
    (b.sessions ≡ a.sessions)
    × (b.found ≡ found_by (λ (s : AbstractState). any_of (leads (passing a.sessions.now.interfaces.now a.sessions.now.tests.now)) s.own) a.found e)

pub returns : goal.returns
returns c =
    let v = c.args.verified.now in
    let seen = section_sights v Main in
    let f = λ (s : AbstractState). any_of (leads (passing c.args.sessions.now.interfaces.now c.args.sessions.now.tests.now)) s.own in
    let h = shows_by Leads (λ a. a.sessions) (λ a. a.found)
    (λ k. found_by (λ (s : AbstractState). any_of (leads (passing k.now.interfaces.now k.now.tests.now)) s.own)) (λ a e b h. (h.0, h.1)) c.args.sessions
    (record { sessions = c.args.sessions; found = false }) c.visit.new.visitor seen refl c.visit.ensures in
    h ∙ (all_found f false seen ∙ sym (any_of_main f (λ s. refl) v refl))
