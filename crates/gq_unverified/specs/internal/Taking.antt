-- What turns do to the world of a machine, and what they write, up to a wrong step.
use Rattle.std.specs.Prelude.{◌≡◌, ◌<◌, ◌≤◌, ◌+◌, ◌^◌, ℕ, List, [], ◌∷◌, ◌++◌, length, Option, Result, OnOk, OnErr, slice_index}
use Rattle.std.specs.Io.KnownBytes.{Appends}
use Rattle.gq_model.specs.declared.fault.Wrong.{Wrong}
use Rattle.gq_model.specs.declared.act.TurnLine.{TurnLine}
use Rattle.gq_model.specs.declared.act.TurnLine.TheVariants.{Gives, Rests}
use Rattle.gq_model.specs.machine.Run.{Ran}
use Rattle.gq_model.specs.machine.World.{World}
use Rattle.gq_model.specs.texts.Turns.{turns_given}
use Rattle.gq_output.specs.Writer_failures.{failures_of}
use Rattle.gq_output.specs.Writes.{IsRaised}
use Rattle.gq_output.specs.declared.counted.Counted.{Counted}
use Rattle.gq_laws.specs.Turn_effects.{steps_of}
use Rattle.gq_world.specs.internal.Act_transitions.{going}

-- the turns were taken, up to this wrong step if there is one, and what they write was written
pub record HasCome (turns : Ran → Ran) (old new : World) (wrong : Option (ℕ × Wrong)) (before after : Option (List ℕ)) : Type 0 where
  pub text : List ℕ
  pub written : Appends before after text
  pub ran : (prefix : List ℕ) → turns (going old prefix) ≡ record { world = new; text = prefix ++ text; wrong = wrong }

-- what is left of the turns, from here, does what all of them do from the old world
pub record HasLeft (left all : Ran → Ran) (old now : World) (before after : Option (List ℕ)) : Type 0 where
  pub text : List ℕ
  pub written : Appends before after text
  pub same : (prefix : List ℕ) → left (going now (prefix ++ text)) ≡ all (going old prefix)

-- a prefix of what the turns write was written
pub record IsCut (turns : Ran → Ran) (old : World) (before after : Option (List ℕ)) : Type 0 where
  pub text : List ℕ
  pub more : List ℕ → List ℕ
  pub written : Appends before after text
  pub prefix : (prefix : List ℕ) → (turns (going old prefix)).text ≡ prefix ++ text ++ more prefix

-- the steps of so many turns more can be counted
abbrev pub HasRoom : World → ℕ → Type 0
HasRoom w n = (x : ℕ) → slice_index (steps_of w) x + n < 2 ^ 64

-- so many turns lead from one world to another, at most: the leaves are there, and none has taken more steps than that
pub record IsNear (old new : World) (n : ℕ) : Type 0 where
  pub leaves : length new.leaves ≡ length old.leaves
  pub steps : (x : ℕ) → slice_index (steps_of new) x ≤ slice_index (steps_of old) x + n

-- how many turns a line gives at most; settings and signals are none
abbrev pub most_turns : TurnLine → ℕ
most_turns (Gives x act) = turns_given act
most_turns Rests = 1000000

abbrev pub turns_in : List TurnLine → ℕ
turns_in [] = 0
turns_in (line ∷ rest) = most_turns line + turns_in rest

-- a write that failed was counted, and no other
pub record CountsFailures {W A E : Type 0} (old new : Counted W) (result : Result A E) : Type 0 where
  pub counted : OnOk result (failures_of new ≡ failures_of old)
  pub raised : OnErr result (IsRaised (failures_of old) (failures_of new))
