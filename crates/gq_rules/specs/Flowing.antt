-- What the functions that walk through statements answer, and how far loops stand in one another.
use Rattle.std.specs.Prelude.{ℕ, ◌-◌, nat_lt, Bool, true, ◌&&◌, Result, Ok, Err}
use Rattle.gq_model.specs.machine.Program.{Statements, Done, Do, If, Loop}
use Rattle.gq_model.specs.rules.Kinds.{AbstractState}
use Rattle.gq_model.specs.rules.Flow.{Flowed}
use Rattle.gq_rules.specs.declared.broken.Broken.{Broken}

-- the state that a call left, or the rule that it answered with its place
abbrev pub flowed : {A : Type 0} → Result A Broken → AbstractState → Flowed
flowed (Ok a) s = Ok s
flowed (Err broken) s = Err (broken.rule, broken.place)

-- at most n loops stand in one another
abbrev pub few_loops : ℕ → Statements → Bool
few_loops n Done = true
few_loops n (Do i rest) = few_loops n rest
few_loops n (If arm other rest) = few_loops n arm && few_loops n other && few_loops n rest
few_loops n (Loop count body rest) = nat_lt 0 n && few_loops (n - 1) body && few_loops n rest
