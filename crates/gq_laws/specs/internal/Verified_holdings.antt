-- What leaves and sessions hold and have lent, within what was verified.
use Rattle.std.specs.Prelude.{◌≡◌, ◌≤◌, false, ℕ, suc, ◌+◌, List, [], ◌∷◌, replicate, Some, slice_get, sum_by}
use Rattle.gq_tariff.specs.Prices.{classes}
use Rattle.gq_model.specs.declared.phase.Phase.{Phase}
use Rattle.gq_model.specs.declared.phase.Phase.TheVariants.{Pending, Running, Blocked, Serving, Handling, Exited}
use Rattle.gq_model.specs.declared.section.Section.TheVariants.{Main}
use Rattle.gq_model.specs.machine.Amounts.{Resource, part}
use Rattle.gq_model.specs.machine.Lists.{greatest}
use Rattle.gq_model.specs.machine.Scenario.{Interface, System, Component, interface_in}
use Rattle.gq_model.specs.machine.World.{Empty, Session, Ask, Ask_open, Ask_upgrade, Ask_close, Ask_call, Leaf, World, session_at}
use Rattle.gq_model.specs.machine.Sums.{slot_price, bank_price}
use Rattle.gq_model.specs.rules.Kinds.{Kind, AbstractState, Subject, session_cost, kinds_cost, kind_places, need_of}
use Rattle.gq_model.specs.machine.Sections.{is_own_section, level_of}
use Rattle.gq_model.specs.rules.Flow.{points, context, body, start_of}
use Rattle.gq_model.specs.rules.Use.{subject}
use Rattle.gq_model.specs.Promises.{EachOf}
use Rattle.gq_laws.specs.Shapes.{Each}
use Rattle.gq_laws.specs.internal.Remaining.{left_points}
use Rattle.gq_laws.specs.internal.Lending.{slot_given}
use Rattle.gq_laws.specs.Typing.{Extra}

-- WHERE LEAVES STAND

-- a session with these slots costs no more than is needed for it at this level, of each resource that is counted
abbrev pub Covers : Subject → ℕ → List Kind → Type 0
Covers v level bank = (i : Interface) → v.provided ≡ Some i → EachOf i.counted (λ r. session_cost r i bank ≤ part r (need_of i level))

-- the states of `main`, before each statement and at the end
abbrev pub main_points : Subject → List AbstractState
main_points v = points (context v Main) (start_of v Main) (body v Main)

-- a leaf in a section is at one of the section's points, as far as any number reports, and a session current at it is covered
abbrev pub IsBounded : System → Extra
IsBounded system x section state todo loops =
    (c : Component) → slice_get system.components x ≡ Some c
    → ((f : AbstractState → ℕ) → greatest f (left_points (context (subject system c) section) state todo loops)
    ≤ greatest f (points (context (subject system c) section) (start_of (subject system c) section) (body (subject system c) section)))
    × (is_own_section section ≡ false → Covers (subject system c) (level_of section) state.bank)

-- LEAVES

-- what a leaf's own slots hold, and what was lent from them
abbrev pub own_part : Resource → World → Leaf → ℕ
own_part r w leaf = sum_by (slot_price r) leaf.slots + sum_by (slot_given r w) leaf.slots

-- each peak is at most the greatest number of places of its class in `main`
abbrev pub PeaksWithin : List AbstractState → List ℕ → List ℕ → Type 0
PeaksWithin states [] peaks = Unit {0}
PeaksWithin states (c ∷ cs) [] = Unit {0}
PeaksWithin states (c ∷ cs) (peak ∷ peaks) = (peak ≤ greatest (λ s. sum_by (kind_places c) s.own) states) × PeaksWithin states cs peaks

-- a leaf that has not started, and one that has ended, holds nothing
abbrev pub HoldsNone : Leaf → Phase → Type 0
HoldsNone leaf Pending = (leaf.slots ≡ replicate 64 Empty) × (leaf.peaks ≡ replicate 8 0)
HoldsNone leaf Running = Unit {0}
HoldsNone leaf Blocked = Unit {0}
HoldsNone leaf Serving = Unit {0}
HoldsNone leaf Handling = Unit {0}
HoldsNone leaf Exited = (leaf.slots ≡ replicate 64 Empty) × (leaf.peaks ≡ replicate 8 0)

-- of each resource the own slots hold and have lent no more than at some point of `main`, and so have the peaks been
pub record HoldsWithin (system : System) (w : World) (c : Component) (leaf : Leaf) : Type 0 where
  pub own : (r : Resource) → own_part r w leaf ≤ greatest (λ s. kinds_cost r s.own) (main_points (subject system c))
  pub peaks : PeaksWithin (main_points (subject system c)) classes leaf.peaks
  pub none : HoldsNone leaf leaf.phase

abbrev pub AllHold : System → World → Type 0
AllHold system w = (x : ℕ) (c : Component) (leaf : Leaf) → slice_get system.components x ≡ Some c → slice_get w.leaves x ≡ Some leaf
    → HoldsWithin system w c leaf

-- SESSIONS

-- what a session's object and slots hold, and what was lent from them
abbrev pub bank_part : Resource → World → Session → ℕ
bank_part r w s = bank_price r s + sum_by (slot_given r w) s.slots

-- a session costs no more than is needed for it, and as much was given for it
pub record CostsWithin (system : System) (w : World) (s : Session) : Type 0 where
  pub costs : (i : Interface) → interface_in s.service system.interfaces ≡ Some i → EachOf i.counted (λ r. bank_part r w s ≤ part r (need_of i s.level))
  pub given : (i : Interface) → interface_in s.service system.interfaces ≡ Some i → (r : Resource) → part r (need_of i s.level) ≤ part r s.donation

abbrev pub AllCost : System → World → Type 0
AllCost system w = (k : ℕ) (s : Session) → session_at w k ≡ Some s → CostsWithin system w s

-- for an upgrade as much was given as is needed at the next level
abbrev pub GivesFor : Ask → Interface → Session → Type 0
GivesFor Ask_open i s = Unit {0}
GivesFor Ask_upgrade i s = (r : Resource) → part r (need_of i (suc s.level)) ≤ part r s.donation
GivesFor Ask_close i s = Unit {0}
GivesFor (Ask_call value) i s = Unit {0}

abbrev pub AllGive : System → World → Type 0
AllGive system w = Each (λ r. (s : Session) (i : Interface) → session_at w r.session ≡ Some s → interface_in s.service system.interfaces ≡ Some i
    → GivesFor r.ask i s) w.requests

-- WORLDS

pub record IsHeld (system : System) (w : World) : Type 0 where
  pub leaves : AllHold system w
  pub sessions : AllCost system w
  pub requests : AllGive system w
