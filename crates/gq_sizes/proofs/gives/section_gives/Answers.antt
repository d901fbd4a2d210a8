use Rattle.std.proofs.Common.{◌≡◌, ◌∙◌, ◌&&◌, refl, true}
use Rattle.gq_verify.specs.Visits.{Sight, section_sights}
use Rattle.gq_verify.proofs.Kept_by.{shows_by}
use Rattle.gq_sizes.specs.Gives.{gives_right}
use Rattle.gq_sizes.specs.declared.gives.Exact.{Exact}
use Rattle.gq_sizes.proofs.Giving_right.{all_shown}
use Rattle.gq_sizes.proofs.gives.section_gives.Goals as goal

abbrev Leads : Exact → Sight → Exact → Type 0
Leads a e b = (b.interfaces ≡ a.interfaces) × (b.right ≡ (a.right && gives_right a.interfaces.now e))

pub returns : goal.returns
returns c =
    let seen = section_sights c.args.verified.now c.args.section in
    shows_by Leads (λ a. a.interfaces) (λ a. a.right) (λ k right e. right && gives_right k.now e) (λ a e b h. (h.0, h.1)) c.args.interfaces
    (record { interfaces = c.args.interfaces; right = true }) c.visit.new.visitor seen refl c.visit.ensures
    ∙ all_shown (gives_right c.args.interfaces.now) true seen
