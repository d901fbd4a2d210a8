-- The first points at which numbers are greatest, as visitors keep them.
use Rattle.std.specs.Prelude.{◌≡◌, ℕ, ◌<◌, ◌≤◌, ◌^◌, nat_lt, if◌then◌else◌, List, Option, Some, None, option_map, get_or}
use Rattle.gq_model.specs.machine.Amounts.{Resource}
use Rattle.gq_model.specs.declared.section.Section.{Section}
use Rattle.gq_model.specs.declared.section.Section.TheVariants.{Main}
use Rattle.gq_model.specs.rules.Kinds.{Kind, AbstractState, kinds_cost}
use Rattle.gq_caps.specs.Known.{all_known}
use Rattle.gq_verify.specs.Visits.{Sight, At_statement, At_point}
use Rattle.gq_why.specs.Why.{Point, highest}
use Rattle.gq_why.specs.declared.greatest_points.Highest.{Highest}

-- the first point at which a sum is greatest: its section, its number, the sum, and the kinds of the slots
abbrev pub Top : Type 0
Top = Section × ℕ × ℕ × List Kind

abbrev pub top_in : {n : ℕ} → Highest n → Top
top_in h = (h.section, h.number, h.sum, all_known h.bank)

-- the higher of both, the first where they are as high
abbrev pub or_higher : Top → Option Top → Option Top
or_higher top None = Some top
or_higher top (Some first) = if nat_lt first.2 top.2 then Some top else Some first

abbrev pub higher : Section → (AbstractState → ℕ) → (AbstractState → List Kind) → ℕ → AbstractState → Option Top → Option Top
higher section f kinds k s = or_higher (section, k, f s, kinds s)

-- the same after what is shown next
abbrev pub picked : Section → (AbstractState → ℕ) → (AbstractState → List Kind) → Option Top → Sight → Option Top
picked section f kinds top (At_statement c s i) = top
picked section f kinds top (At_point k s) = higher section f kinds k s top

-- what slots of a session, and own slots, hold and have lent
abbrev pub bank_cost : Resource → AbstractState → ℕ
bank_cost r s = kinds_cost r s.bank

abbrev pub own_cost : Resource → AbstractState → ℕ
own_cost r s = kinds_cost r s.own

abbrev pub picked_session : Section → Resource → Option Top → Sight → Option Top
picked_session section r = picked section (bank_cost r) (λ s. s.bank)

abbrev pub picked_own : Resource → Option Top → Sight → Option Top
picked_own r = picked Main (own_cost r) (λ s. s.own)

-- the greatest number of places of a class, and the first point that has it
abbrev pub counted_at : (AbstractState → ℕ) → ℕ × ℕ → Sight → ℕ × ℕ
counted_at f top (At_statement c s i) = top
counted_at f top (At_point k s) = if nat_lt top.0 (f s) then (f s, k) else top

-- numbers of places stay few
abbrev pub AreFewMore : List (ℕ × ℕ) → List (ℕ × ℕ) → Type 0
AreFewMore a b = (k : ℕ) → k < 8 → (get_or a k (0, 0)).0 ≤ 2 ^ 22 → (get_or b k (0, 0)).0 ≤ 2 ^ 22

-- OF ALL POINTS

-- what is kept of a point
abbrev pub top_of : (AbstractState → ℕ) → (AbstractState → List Kind) → Point → Top
top_of f kinds p = (p.section, p.number, f p.state, kinds p.state)

-- the first of these points at which slots of a session, or own slots, hold and have lent most
abbrev pub top_session : Resource → List Point → Option Top
top_session r points = option_map (top_of (bank_cost r) (λ s. s.bank)) (highest (bank_cost r) points)

abbrev pub top_own : Resource → List Point → Option Top
top_own r points = option_map (top_of (own_cost r) (λ s. s.own)) (highest (own_cost r) points)

-- the number at a point, if there is one, and the number of the point where that is not nothing
abbrev pub IsCounted : (AbstractState → ℕ) → Option Point → ℕ × ℕ → Type 0
IsCounted f None top = top.0 ≡ 0
IsCounted f (Some p) top = (top.0 ≡ f p.state) × (0 < top.0 → top.1 ≡ p.number)
