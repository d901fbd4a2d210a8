use Rattle.std.proofs.Common.{◌≡◌, ℕ, List, refl}
use Rattle.std.proofs.Common.{Bor}
use Rattle.gq_verify.specs.Visits.{Sight, section_sights}
use Rattle.gq_sizes.specs.Needing.{given_at}
use Rattle.gq_sizes.specs.declared.gifts.Giving.{Giving}
use Rattle.gq_verify.proofs.Kept_by.{shows_by}
use Rattle.gq_sizes.proofs.gifts.section_gift.Goals as goal

abbrev Leads : Giving → Sight → Giving → Type 0
Leads a e b = (b.service ≡ a.service) × (b.level ≡ a.level) × (b.least ≡ given_at a.service.now a.level a.least e)

abbrev asked : Giving → Bor (List ℕ) × ℕ
asked a = (a.service, a.level)

pub returns : goal.returns
returns c =
    let first : Giving = record { service = c.args.service; level = c.args.level; least = c.args.least } in
    shows_by {K = Bor (List ℕ) × ℕ} Leads asked (λ a. a.least) (λ k. given_at k.0.now k.1) (λ a e b h. ((λ i. (h.0 i, h.1 i)), h.2)) (asked first) first
    c.visit.new.visitor (section_sights c.args.verified.now c.args.section) refl c.visit.ensures
