-- The greatest use of each account over a run.
use Rattle.std.specs.Prelude.{ℕ, zero, suc, nat_lt, if◌then◌else◌, List, [], ◌∷◌, ◌++◌, Option, Some, None, slice_get, codes}
use Rattle.gq_model.specs.machine.Accounts.{entry, reported}
use Rattle.gq_model.specs.machine.Amounts.{Resource, Ram, Caps}
use Rattle.gq_model.specs.machine.Run.{Acts, run}
use Rattle.gq_model.specs.machine.Scenario.{Component, Scenario, System, components, system}
use Rattle.gq_model.specs.machine.Sums.{held, quota}
use Rattle.gq_model.specs.machine.World.{Leaf, World}
use Rattle.gq_traces.specs.First_turns.{first_turns, turns_in}
use Rattle.gq_traces.specs.declared.peaks.LeafPeaks.{LeafPeaks}
use Rattle.gq_traces.specs.declared.peaks.Peak.{Peak}

-- ONE NUMBER

-- the later of two numbers, if a function is greater there, else the earlier
abbrev pub greater_of : (ℕ → ℕ) → ℕ → ℕ → ℕ
greater_of f earlier later = if nat_lt (f earlier) (f later) then later else earlier

-- the first of the numbers from 0 to n at which a function is greatest
abbrev pub first_greatest : (ℕ → ℕ) → ℕ → ℕ
first_greatest f zero = zero
first_greatest f (suc n) = greater_of f (first_greatest f n) (suc n)

-- so much is used after the n-th turn, and the quota is this
abbrev pub peak_at : (used quota : ℕ → ℕ) → ℕ → Peak
peak_at used quota n = record { used = used n; quota = quota n; turn = n }

-- the greatest use over n turns: the first turn after which it is so, or 0 if it is so from the start
abbrev pub peak_over : (used quota : ℕ → ℕ) → ℕ → Peak
peak_over used quota n = peak_at used quota (first_greatest used n)

-- LEAVES

-- what the x-th leaf of a world holds of a resource
abbrev pub held_by : Resource → World → ℕ → Option Leaf → ℕ
held_by r w x None = 0
held_by r w x (Some leaf) = held r w x leaf

abbrev pub used_in : Resource → ℕ → World → ℕ
used_in r x w = held_by r w x (slice_get w.leaves x)

-- and its quota
abbrev pub quota_of : Resource → World → ℕ → Option Component → Option Leaf → ℕ
quota_of r w x (Some c) (Some leaf) = quota r w x c leaf
quota_of r w x (Some c) None = 0
quota_of r w x None leaf = 0

abbrev pub quota_in : System → Resource → ℕ → World → ℕ
quota_in system r x w = quota_of r w x (slice_get system.components x) (slice_get w.leaves x)

-- of the x-th leaf, over the first n turns of a run by its worlds
abbrev pub peak_in : System → (ℕ → World) → Resource → ℕ → ℕ → Peak
peak_in system worlds r x n = peak_over (λ k. used_in r x (worlds k)) (λ k. quota_in system r x (worlds k)) n

-- RUNS

-- the world after the first n turns of a run
abbrev pub world_after : System → Acts → ℕ → World
world_after system turns n = (run system (first_turns n turns)).world

abbrev pub peaks_at : System → (ℕ → World) → ℕ → ℕ → LeafPeaks
peaks_at system worlds n x = record { ram = peak_in system worlds Ram x n; caps = peak_in system worlds Caps x n }

-- those of these leaves, of which the first is the x-th
abbrev pub peaks_from : System → (ℕ → World) → ℕ → ℕ → List Component → List LeafPeaks
peaks_from system worlds n x [] = []
peaks_from system worlds n x (c ∷ rest) = peaks_at system worlds n x ∷ peaks_from system worlds n (suc x) rest

-- those of all leaves, over all turns
abbrev pub peaks_of : Scenario → Acts → List LeafPeaks
peaks_of s turns = peaks_from (system s) (world_after (system s) turns) (turns_in turns) 0 (components s)

-- LINES

-- capabilities are shown where the version counts them
abbrev pub peak_line : ℕ → List ℕ → LeafPeaks → List ℕ
peak_line version label p =
    codes "peak " ++ label ++ entry (codes "used") p.ram.used ++ entry (codes "quota") p.ram.quota ++ entry (codes "turn") p.ram.turn
    ++ reported version (entry (codes "caps") p.caps.quota ++ entry (codes "taken") p.caps.used ++ entry (codes "turn") p.caps.turn) ++ 10 ∷ []

abbrev pub peak_lines : ℕ → List Component → List LeafPeaks → List ℕ
peak_lines version [] peaks = []
peak_lines version (c ∷ rest) [] = []
peak_lines version (c ∷ rest) (p ∷ peaks) = peak_line version c.label p ++ peak_lines version rest peaks

abbrev pub peaks_text : Scenario → Acts → List ℕ
peaks_text s turns = peak_lines s.version (components s) (peaks_of s turns)
