-- Turns, as C gives them.
use Rattle.std.specs.Prelude.{◌≡◌, ℕ, zero, suc, ◌-◌, ◌<◌, nat_lt, nat_le, if◌then◌else◌, Bool, true, false, not, ◌==◌, ◌&&◌, ◌||◌, List, []}
use Rattle.std.specs.Prelude.{length, Option, Some, None}
use Rattle.std.specs.Prelude.{Ok, Err, slice_get}
use Rattle.gq_model.specs.machine.Scenario.{System, system}
use Rattle.gq_model.specs.machine.Lists.{or_first}
use Rattle.gq_model.specs.machine.Rest.{can_run}
use Rattle.gq_model.specs.machine.World as model
use Rattle.gq_model.specs.machine.World.{Leaf}
use Rattle.gq_model.specs.machine.Doing.{Event, Idle, Quiet, Line, Finished, Stepped}
use Rattle.gq_model.specs.machine.Step.{next}
use Rattle.gq_world.specs.World_between_turns.{World}
use Rattle.gq_library.specs.Texts.{IsPut}

-- the number of each event
abbrev pub event_number : Event → ℕ
event_number Idle = 0
event_number Quiet = 1
event_number (Line text) = 2
event_number Finished = 3

-- the text of a line, without the label
abbrev pub event_text : Event → List ℕ
event_text Idle = []
event_text Quiet = []
event_text (Line text) = text
event_text Finished = []

-- a leaf has taken as many steps as are counted
abbrev pub spent_leaf : Option Leaf → Bool
spent_leaf None = false
spent_leaf (Some leaf) = leaf.steps == 18446744073709551615

abbrev pub is_spent : model.World → ℕ → Bool
is_spent w x = spent_leaf (slice_get w.leaves x)

-- the step of the abstract machine; a leaf that has taken as many steps as are counted takes none
abbrev pub counted_next : System → model.World → ℕ → Stepped
counted_next system w x = if is_spent w x then Ok (w, Idle) else next system w x

-- a leaf took a turn: the step of which its event and its text are reported
pub record IsTaken (old new : World) (leaf result : ℕ) (line line_after : List ℕ) (written : ℕ) : Type 0 where
  pub step : Event
  pub next : counted_next (system old.scenario) old.world leaf ≡ Ok (new.world, step)
  pub scenario : new.scenario ≡ old.scenario
  pub stopped : new.stopped ≡ old.stopped
  pub code : result ≡ event_number step
  pub text : IsPut (event_text step) line line_after written

-- BURSTS

-- a leaf can take a step that is counted
abbrev pub can_take : System → model.World → ℕ → Bool
can_take system w x = can_run system w x && not (is_spent w x)

-- turns so far: how many there were, what the last of them showed, and the world after them
pub record Burst : Type 0 where
  pub taken : ℕ
  pub event : Event
  pub world : model.World

abbrev pub burst : ℕ → Event → model.World → Burst
burst taken event w = record { taken = taken; event = event; world = w }

-- a line, or the end of a leaf, is the last of a burst
abbrev pub is_last : Event → Bool
is_last Idle = false
is_last Quiet = false
is_last (Line text) = true
is_last Finished = true

-- one turn more, and where it is not the last further ones
abbrev pub after_event : Burst → (Burst → Burst) → Burst
after_event b go = if is_last b.event then b else go b

abbrev pub after_turn : Burst → Stepped → (Burst → Burst) → Burst
after_turn b (Ok p) go = after_event (burst (suc b.taken) p.1 p.0) go
after_turn b (Err wrong) go = b

-- at most n turns more of the x-th leaf, up to the first that shows a line or the end, and as long as it can take one
abbrev pub taken_on : System → ℕ → ℕ → Burst → Burst
taken_on system x zero b = b
taken_on system x (suc n) b = if can_take system b.world x then after_turn b (next system b.world x) (taken_on system x n) else b

-- from a world on
abbrev pub taken_up_to : System → ℕ → ℕ → model.World → Burst
taken_up_to system x n w = taken_on system x n (burst 0 Idle w)

-- a leaf took turns: those of the definition, of which their number, the last event and its text are reported
pub record AreTaken (old new : World) (leaf most taken result : ℕ) (line line_after : List ℕ) (written : ℕ) : Type 0 where
  pub last : Event
  pub turns : taken_up_to (system old.scenario) leaf most old.world ≡ burst taken last new.world
  pub scenario : new.scenario ≡ old.scenario
  pub stopped : new.stopped ≡ old.stopped
  pub code : result ≡ event_number last
  pub text : IsPut (event_text last) line line_after written

-- TOURS

-- the first leaf from the x-th on, of so many, that can take a turn
abbrev pub first_able : System → model.World → ℕ → ℕ → Option ℕ
first_able system w x zero = None
first_able system w x (suc n) = if can_take system w x then Some x else first_able system w (suc x) n

-- the next one: from the x-th leaf to the last, and then from the first on
abbrev pub next_able : System → model.World → ℕ → Option ℕ
next_able system w x = or_first (first_able system w x (length system.components - x)) (first_able system w 0 (length system.components))

-- turns of leaves so far, and the leaf of the last
pub record Tour : Type 0 where
  pub leaf : ℕ
  pub burst : Burst

-- a tour ends with a line, with the end of a leaf, or with so many turns
abbrev pub is_over : ℕ → Burst → Bool
is_over most b = is_last b.event || nat_le most b.taken

-- the next leaf that can take a turn takes its turns, and where the tour does not end so it goes on
abbrev pub tour_on : System → ℕ → Tour → Option ℕ → (ℕ → Tour → Tour) → Tour
tour_on system most t None go = t
tour_on system most t (Some x) go =
    let b = taken_on system x (most - t.burst.taken) t.burst in
    let u : Tour = record { leaf = x; burst = b } in
    if is_over most b then u else go (suc x) u

-- at most k times a leaf takes its turns, of at most so many together, from the x-th leaf on
abbrev pub tour : ℕ → System → ℕ → ℕ → Tour → Tour
tour zero system most x t = t
tour (suc k) system most x t = tour_on system most t (next_able system t.burst.world x) (λ y u. tour k system most y u)

-- round by round in preorder from a leaf on, from the first where there is no such leaf
abbrev pub first_leaf : System → ℕ → ℕ
first_leaf system leaf = if nat_lt leaf (length system.components) then leaf else 0

abbrev pub tour_from : System → ℕ → ℕ → model.World → Tour
tour_from system most leaf w = tour most system most (first_leaf system leaf) (record { leaf = leaf; burst = burst 0 Idle w })

-- no leaf can take a step that is counted
abbrev pub AllRest : System → model.World → Type 0
AllRest system w = (x : ℕ) → can_take system w x ≡ false

-- leaves took turns: those of the definition, of which the leaf of the last, their number, the last event and its text are reported; where there could be
-- more and the last shows no line and no end, no leaf can take one
pub record AreRun (old new : World) (most leaf leaf_after taken result : ℕ) (line line_after : List ℕ) (written : ℕ) : Type 0 where
  pub last : Event
  pub turns : tour_from (system old.scenario) most leaf old.world ≡ record { leaf = leaf_after; burst = burst taken last new.world }
  pub rests : taken < most → is_last last ≡ false → AllRest (system new.scenario) new.world
  pub scenario : new.scenario ≡ old.scenario
  pub stopped : new.stopped ≡ old.stopped
  pub code : result ≡ event_number last
  pub text : IsPut (event_text last) line line_after written
