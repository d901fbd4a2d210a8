-- What stands in each world of a sound scenario: its start has it, each step keeps it, and all that is promised of a world follows from it.
use Rattle.std.specs.Prelude.{ℕ, Option}
use Rattle.gq_model.specs.machine.Amounts.{Resource}
use Rattle.gq_model.specs.machine.Scenario.{Scenario, system}
use Rattle.gq_model.specs.machine.World.{World}
use Rattle.gq_model.specs.rules.Kinds.{Kind}
use Rattle.gq_laws.specs.Sound_scenarios.{IsSound}
use Rattle.gq_laws.specs.Shapes.{IsWholeWorld}
use Rattle.gq_laws.specs.Session_links.{IsLinkedWorld}
use Rattle.gq_laws.specs.Typing.{IsTypedBy}
use Rattle.gq_laws.specs.internal.Remaining_instructions.{AreLeft, IsGood}
use Rattle.gq_laws.specs.internal.Uncounted.{uncounted}
use Rattle.gq_laws.specs.internal.Verified_holdings.{IsBounded, IsHeld}
use Rattle.gq_laws.specs.internal.Section_counts.{since_start, IsCounted}
use Rattle.gq_laws.specs.internal.Init_quanta.{Fit}

-- an invariant of worlds, which speaks of no turns
pub record Stands (s : Scenario) (w : World) : Type 0 where
  pub sound : IsSound s
  -- there is a leaf for each component, with all its slots
  pub whole : IsWholeWorld (system s) w
  -- sessions, the slots that name them, requests and current requests agree
  pub linked : IsLinkedWorld (system s) w
  -- what is left to each leaf are statements of its program
  pub left : AreLeft (IsGood (system s)) (system s) w
  -- each leaf stands at a point of its section by the rules, and each session as its last section left it
  pub promised : ℕ → Option Kind
  pub typed : IsTypedBy promised (IsBounded (uncounted (system s))) (uncounted (system s)) w
  -- leaves and sessions hold and have lent no more than was verified
  pub held : IsHeld (uncounted (system s)) w
  -- the steps that were taken and those that are left are paid by how often sections were asked for
  pub counted : IsCounted (since_start (system s)) (system s) w
  -- each init has handed out no more than it has
  pub fits : (r : Resource) → Fit r s w
