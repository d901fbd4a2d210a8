-- The peaks of leaves on the way through a run.
use Rattle.std.specs.Prelude.{◌≡◌, ◌≤◌, ◌+◌, ℕ, zero, suc, nat_lt, if◌then◌else◌, List, [], ◌∷◌, None, Some, length, slice_get, true, false}
use Rattle.gq_model.specs.declared.act.Act.{Act}
use Rattle.gq_model.specs.declared.act.Act.TheVariants.{Turns, Sets, Submits}
use Rattle.gq_model.specs.machine.Amounts.{Resource, Ram, Caps, counts_caps}
use Rattle.gq_model.specs.machine.Run.{Ran, Acts, act_on, turn_from}
use Rattle.gq_model.specs.machine.Scenario.{Scenario, System, system}
use Rattle.gq_model.specs.machine.World as model
use Rattle.gq_model.specs.texts.Turns.{turns_given}
use Rattle.gq_world.specs.World_between_turns.{World}
use Rattle.gq_traces.specs.Account_peaks.{peak_in, quota_in, used_in}
use Rattle.gq_traces.specs.declared.peaks.LeafPeaks.{LeafPeaks}
use Rattle.gq_traces.specs.declared.peaks.Peak.{Peak}

-- ONE LEAF

-- a later use in place of one that is less
abbrev pub higher : Peak → Peak → Peak
higher old new = if nat_lt old.used new.used then new else old

-- what the x-th leaf has of a resource in a world, after so many turns
abbrev pub peak_now : System → model.World → Resource → ℕ → ℕ → Peak
peak_now system w r x turn = record { used = used_in r x w; quota = quota_in system r x w; turn = turn }

-- it is what the x-th leaf has of each resource that is counted
pub record ArePeaksNow (s : Scenario) (w : model.World) (x turn : ℕ) (p : LeafPeaks) : Type 0 where
  pub ram : p.ram ≡ peak_now (system s) w Ram x turn
  pub caps : counts_caps s.version ≡ true → p.caps ≡ peak_now (system s) w Caps x turn

-- the peaks are raised to that
pub record IsRaised (s : Scenario) (w : model.World) (x turn : ℕ) (old new : LeafPeaks) : Type 0 where
  pub ram : new.ram ≡ higher old.ram (peak_now (system s) w Ram x turn)
  pub caps : counts_caps s.version ≡ true → new.caps ≡ higher old.caps (peak_now (system s) w Caps x turn)

-- ALL LEAVES

-- those of all leaves are what they have
abbrev pub AllNow : Scenario → model.World → ℕ → List LeafPeaks → Type 0
AllNow s w turn peaks = (x : ℕ) (p : LeafPeaks) → slice_get peaks x ≡ Some p → ArePeaksNow s w x turn p

-- and are raised to that
pub record AreRaised (s : Scenario) (w : model.World) (turn : ℕ) (olds news : List LeafPeaks) : Type 0 where
  pub long : length news ≡ length olds
  pub raised : (x : ℕ) (p q : LeafPeaks) → slice_get olds x ≡ Some p → slice_get news x ≡ Some q → IsRaised s w x turn p q

-- RUNS

-- each leaf holds and has the same in two worlds
pub record SameUse (system : System) (v w : model.World) : Type 0 where
  pub used : (r : Resource) (y : ℕ) → used_in r y v ≡ used_in r y w
  pub quota : (r : Resource) (y : ℕ) → quota_in system r y v ≡ quota_in system r y w

-- A run, which is here now, is in this world, and no step was wrong so far; what leaves use is as after its first n turns.
pub record IsIn (system : System) (runs : ℕ → Ran) (n : ℕ) (now : Ran) (w : model.World) : Type 0 where
  pub world : now.world ≡ w
  pub right : now.wrong ≡ None
  pub same : SameUse system (runs n).world w

-- behind its first n turns a run, which is here now, has m turns of the x-th leaf
abbrev pub HasTurns : System → ℕ → (ℕ → Ran) → ℕ → Ran → ℕ → Type 0
HasTurns system x runs n now zero = Unit {0}
HasTurns system x runs n now (suc m) =
    let next = turn_from system x now now.wrong in (runs (suc n) ≡ next) × HasTurns system x runs (suc n) next m

-- behind its first n turns it has what a leaf is given
abbrev pub HasAct : System → ℕ → (ℕ → Ran) → ℕ → Ran → Act → Type 0
HasAct system x runs n now (Turns m) = HasTurns system x runs n now m
HasAct system x runs n now (Sets i v) = Unit {0}
HasAct system x runs n now (Submits i) = Unit {0}

-- behind its first n turns it has all of a list
abbrev pub HasAll : System → Acts → (ℕ → Ran) → ℕ → Ran → Type 0
HasAll system [] runs n now = Unit {0}
HasAll system (a ∷ acts) runs n now = HasAct system a.0 runs n now a.1 × HasAll system acts runs (n + turns_given a.1) (act_on system a.0 a.1 now)

-- of the x-th leaf, over the first n turns of a run
pub record ArePeaks (s : Scenario) (runs : ℕ → Ran) (n x : ℕ) (p : LeafPeaks) : Type 0 where
  pub ram : p.ram ≡ peak_in (system s) (λ k. (runs k).world) Ram x n
  pub caps : counts_caps s.version ≡ true → p.caps ≡ peak_in (system s) (λ k. (runs k).world) Caps x n

-- of all leaves
abbrev pub AllPeaks : Scenario → (ℕ → Ran) → ℕ → List LeafPeaks → Type 0
AllPeaks s runs n peaks = (x : ℕ) (p : LeafPeaks) → slice_get peaks x ≡ Some p → ArePeaks s runs n x p

-- A run that was in the first world is here and in the second after m turns, and the peaks over its turns go on.
pub record Comes (s : Scenario) (runs : ℕ → Ran) (n m : ℕ) (now : Ran) (new : model.World) (olds news : List LeafPeaks) : Type 0 where
  pub at : IsIn (system s) runs m now new
  pub peaks : AllPeaks s runs n olds → AllPeaks s runs m news

-- So it is of every run that has this behind its first n turns, and goes on so, with at most so many signals.
pub record Peaked (most : ℕ) (has : (ℕ → Ran) → Ran → Type 0) (go : Ran → Ran) (n m : ℕ) (old new : World) (olds news : List LeafPeaks) : Type 0 where
  pub scenario : new.scenario ≡ old.scenario
  pub running : new.stopped ≡ false
  pub signals : new.signals ≤ old.signals + most
  pub long : length news ≡ length olds
  pub comes : (runs : ℕ → Ran) (now : Ran) → has runs now → IsIn (system old.scenario) runs n now old.world
      → Comes old.scenario runs n m (go now) new.world olds news
