use Rattle.std.proofs.Common.{◌≡◌, ◌∙◌, refl, sym, false}
use Rattle.gq_model.specs.machine.Lists.{any_of}
use Rattle.gq_model.specs.rules.Kinds.{AbstractState}
use Rattle.gq_verify.specs.Visits.{Sight, section_sights}
use Rattle.gq_sizes.specs.Endless.{leads}
use Rattle.gq_sizes.specs.Passing.{found_by, passing}
use Rattle.gq_sizes.specs.declared.endless.Held.{Held}
use Rattle.gq_verify.proofs.Kept_by.{shows_by}
use Rattle.gq_sizes.proofs.Any_test_search.{all_found, any_of_section}
use Rattle.gq_sizes.proofs.endless.section_holds.Goals as goal

abbrev Leads : Held → Sight → Held → Type 0
Leads a e b =
    (b.sessions ≡ a.sessions)
    × (b.found ≡ found_by (λ (s : AbstractState). any_of (leads (passing a.sessions.now.interfaces.now a.sessions.now.tests.now)) s.bank) a.found e)

pub returns : goal.returns
returns c b there =
    let v = c.args.verified.now in
    let section = c.args.section in
    let seen = section_sights v section in
    let f = λ (s : AbstractState). any_of (leads (passing c.args.sessions.now.interfaces.now c.args.sessions.now.tests.now)) s.bank in
    let h = shows_by Leads (λ a. a.sessions) (λ a. a.found)
    (λ k. found_by (λ (s : AbstractState). any_of (leads (passing k.now.interfaces.now k.now.tests.now)) s.bank)) (λ a e b h. (h.0, h.1)) c.args.sessions
    (record { sessions = c.args.sessions; found = false }) c.visit.new.visitor seen refl c.visit.ensures in
    h ∙ (all_found f false seen ∙ sym (any_of_section f (λ s. refl) v section b there))
