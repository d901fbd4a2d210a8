-- What is left to do at a place of the code of statements, found by the statements themselves.
use Rattle.std.specs.Prelude.{ℕ, zero, suc, ◌-◌, nat_lt, if◌then◌else◌, List, [], ◌++◌, slice_index, Option, Some, None}
use Rattle.gq_model.specs.declared.program.Instruction.{Instruction}
use Rattle.gq_model.specs.machine.Program.{Statements, Done, Do, If, Loop}
use Rattle.gq_bytecode.specs.Bytecode_layout.{width}
use Rattle.gq_outcomes.specs.internal.Keys.{loop_key, statements_key}

-- KEYS

-- the key of what is left of these statements at a place, inside so many loops; behind a loop that is open there is the key of what comes after it
abbrev pub left_in : List ℕ → ℕ → Statements → ℕ → List ℕ
left_in rounds d Done p = []
left_in rounds d (Do i rest) zero = statements_key (Do i rest)
left_in rounds d (Do i rest) (suc p) = left_in rounds d rest p
left_in rounds d (If arm other rest) zero = statements_key (If arm other rest)
left_in rounds d (If arm other rest) (suc p) =
    if nat_lt p (suc (width arm)) then left_in rounds d arm p ++ statements_key rest
    else if nat_lt (p - suc (width arm)) (width other) then left_in rounds d other (p - suc (width arm)) ++ statements_key rest
    else left_in rounds d rest (p - suc (width arm) - width other)
left_in rounds d (Loop n body rest) zero = statements_key (Loop n body rest)
left_in rounds d (Loop n body rest) (suc p) =
    if nat_lt p (suc (width body)) then left_in rounds (suc d) body p ++ (loop_key (slice_index rounds d) n body ++ statements_key rest)
    else left_in rounds d rest (p - suc (width body))

-- INSTRUCTIONS

-- what comes next: nothing, an instruction, or another statement
pub data Ahead : Type 0 where
  Nothing : Ahead
  Instructs : (instruction : Instruction) → Ahead
  Other : Ahead

abbrev pub ahead : Statements → Ahead
ahead Done = Nothing
ahead (Do i rest) = Instructs i
ahead (If arm other rest) = Other
ahead (Loop n body rest) = Other

abbrev pub or_else : Ahead → Ahead → Ahead
or_else Nothing b = b
or_else (Instructs i) b = Instructs i
or_else Other b = Other

-- the end of a round is no instruction
abbrev pub in_round : Ahead → Ahead
in_round Nothing = Other
in_round (Instructs i) = Instructs i
in_round Other = Other

-- what comes next of these statements at a place
abbrev pub ahead_in : Statements → ℕ → Ahead
ahead_in Done p = Nothing
ahead_in (Do i rest) zero = Instructs i
ahead_in (Do i rest) (suc p) = ahead_in rest p
ahead_in (If arm other rest) zero = Other
ahead_in (If arm other rest) (suc p) =
    if nat_lt p (suc (width arm)) then or_else (ahead_in arm p) (ahead rest)
    else if nat_lt (p - suc (width arm)) (width other) then or_else (ahead_in other (p - suc (width arm))) (ahead rest)
    else ahead_in rest (p - suc (width arm) - width other)
ahead_in (Loop n body rest) zero = Other
ahead_in (Loop n body rest) (suc p) =
    if nat_lt p (suc (width body)) then in_round (ahead_in body p)
    else ahead_in rest (p - suc (width body))

abbrev pub instruction_of : Ahead → Option Instruction
instruction_of Nothing = None
instruction_of (Instructs i) = Some i
instruction_of Other = None
