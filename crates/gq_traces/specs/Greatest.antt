-- That a run has no greater use than its peaks, and comes to each of them, in the text of `peaks`.
use Rattle.std.specs.Prelude.{◌≡◌, ◌<◌, ◌≤◌, ℕ, suc, List, [], ◌∷◌, Ok}
use Rattle.gq_model.specs.machine.Amounts.{Resource, Ram, Caps}
use Rattle.gq_model.specs.machine.Run.{Acts}
use Rattle.gq_model.specs.machine.Scenario.{Component, Scenario, components, system}
use Rattle.gq_model.specs.texts.Turns.{turned}
use Rattle.gq_load.specs.Load.{loaded}
use Rattle.gq_traces.specs.First_turns.{turns_in}
use Rattle.gq_traces.specs.Account_peaks.{peak_lines, quota_in, used_in, world_after}
use Rattle.gq_traces.specs.declared.peaks.LeafPeaks.{LeafPeaks}
use Rattle.gq_traces.specs.declared.peaks.Peak.{Peak}

-- so much of a resource the x-th leaf holds after the first n turns of a run
abbrev pub used_after : Scenario → Acts → Resource → ℕ → ℕ → ℕ
used_after s turns r x n = used_in r x (world_after (system s) turns n)

-- it is the greatest use of a resource by the x-th leaf over a run
pub record IsGreatest (s : Scenario) (turns : Acts) (r : Resource) (x : ℕ) (p : Peak) : Type 0 where
  -- the leaf holds no more after any number of turns
  pub greatest : (n : ℕ) → used_after s turns r x n ≤ p.used
  -- it holds so much after the turn that is shown, which is one of the run, and then has the quota that is shown
  pub within : p.turn ≤ turns_in turns
  pub reached : used_after s turns r x p.turn ≡ p.used
  pub quota : quota_in (system s) r x (world_after (system s) turns p.turn) ≡ p.quota
  -- and it holds less before
  pub first : (n : ℕ) → n < p.turn → used_after s turns r x n < p.used

-- so it is of each of these leaves, of which the first is the x-th
abbrev pub AreGreatest : Scenario → Acts → ℕ → List Component → List LeafPeaks → Type 0
AreGreatest s turns x [] [] = Unit {0}
AreGreatest s turns x (c ∷ rest) (p ∷ peaks) = IsGreatest s turns Ram x p.ram × IsGreatest s turns Caps x p.caps × AreGreatest s turns (suc x) rest peaks
AreGreatest s turns x [] (p ∷ peaks) = ⊥
AreGreatest s turns x (c ∷ rest) [] = ⊥

-- from bytes to bytes: the scenario is loaded, and the turns, settings and signals are read; the text has a line for each leaf, with its greatest use over
-- the run
pub record ShowsPeaks (scenario turns text : List ℕ) : Type 0 where
  pub accepted : Scenario
  pub loads : loaded scenario ≡ Ok accepted
  pub all : Acts
  pub reads : turned accepted turns ≡ Ok all
  pub peaks : List LeafPeaks
  pub shows : text ≡ peak_lines accepted.version (components accepted) peaks
  pub greatest : AreGreatest accepted all 0 (components accepted) peaks
