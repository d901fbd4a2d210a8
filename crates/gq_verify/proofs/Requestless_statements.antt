-- Statements that ask for nothing make no request.
use Rattle.std.proofs.Common.{◌≡◌, ℕ, arith, ◌+◌, ◌*◌, max, true, ◌&&◌, List, [], refl, ap}
use Rattle.std.proofs.lemmas.Bool.{and_parts}
use Rattle.gq_model.specs.machine.Program.{Statements, Done, Do, If, Loop}
use Rattle.gq_model.specs.declared.section.Section.{Section}
use Rattle.gq_model.specs.declared.program.Instruction.{Instruction}
use Rattle.gq_model.specs.declared.program.Instruction.TheVariants.{Say, Out, Operands, Make, MakePool, Load}
use Rattle.gq_model.specs.declared.program.Instruction.TheVariants.{Store, Free, Take, Give, Peek, Poke, Open, Upgrade, Call, Close}
use Rattle.gq_model.specs.rules.Kinds.{AbstractState, Context, inside}
use Rattle.gq_model.specs.rules.Rules.{judged}
use Rattle.gq_model.specs.rules.Flow.{at, flow, state_or}
use Rattle.gq_model.specs.rules.Budgets.{asks, requests}
use Rattle.gq_rules.specs.internal.List_states.{chosen}
use Rattle.gq_verify.specs.Saturated_numbers.{saturated}
use Rattle.gq_verify.specs.Requested.{Requested, requests_for}
use Rattle.gq_program.specs.Notes.{asks_nothing, is_quiet}

asks_none : (v : List ℕ) (r : Section) (c : Context) (s : AbstractState) (i : Instruction) → asks_nothing i ≡ true → asks v r c s i ≡ 0
asks_none v r c s (Say text) e = refl
asks_none v r c s Out e = refl
asks_none v r c s (Operands o) e = refl
asks_none v r c s (Make form place n) e = refl
asks_none v r c s (MakePool place n m) e = refl
asks_none v r c s (Load width place) e = refl
asks_none v r c s (Store width place) e = refl
asks_none v r c s (Free place) e = refl
asks_none v r c s (Take place) e = refl
asks_none v r c s (Give place) e = refl
asks_none v r c s (Peek place) e = refl
asks_none v r c s (Poke place) e = refl
asks_none v r c s (Open place service n) e = cc
asks_none v r c s (Upgrade place n) e = cc
asks_none v r c s (Call place) e = cc
asks_none v r c s (Close place) e = cc

-- whatever is known before it, a list that asks for nothing makes no request
pub quiet_none : (v : List ℕ) (r : Section) (c : Context) (s : AbstractState) (b : Statements) → is_quiet b ≡ true → requests v r c s b ≡ 0
quiet_none v r c s Done e = refl
quiet_none v r c s (Do i rest) e =
    let p = and_parts (asks_nothing i) (is_quiet rest) e in
    let here = asks_none v r c s i p.0 in
    let next = quiet_none v r c (state_or s (at 1 (judged c s i))) rest p.1 in
    omega (arith, here, next)
quiet_none v r c s (If arm other rest) e =
    let p = and_parts (is_quiet arm && is_quiet other) (is_quiet rest) e in
    let q = and_parts (is_quiet arm) (is_quiet other) p.0 in
    let x = quiet_none v r c (chosen s) arm q.0 in
    let y = quiet_none v r c (chosen s) other q.1 in
    let z = quiet_none v r c (state_or (chosen s) (flow c (chosen s) arm)) rest p.1 in
    omega (arith, x, y, z)
quiet_none v r c s (Loop count body rest) e =
    let p = and_parts (is_quiet body) (is_quiet rest) e in
    let x = ap (λ (n : ℕ). count * n) (quiet_none v r (inside c count) s body p.0) in
    let y = quiet_none v r c s rest p.1 in
    omega (arith, x, y)

pub quiet_arms : (v : List ℕ) (r : Section) (c : Context) (s : AbstractState) (arm other : Statements) (now : ℕ) → is_quiet arm ≡ true → is_quiet other ≡ true →
    now + max (requests v r c (chosen s) arm) (requests v r c (chosen s) other) ≡ now
quiet_arms v r c s arm other now a b = omega (arith, quiet_none v r c (chosen s) arm a, quiet_none v r c (chosen s) other b)

pub quiet_round : (v : List ℕ) (r : Section) (c : Context) (s : AbstractState) (count : ℕ) (body : Statements) (now : ℕ) → is_quiet body ≡ true →
    now + count * requests v r (inside c count) s body ≡ now
quiet_round v r c s count body now a =
    let x = ap (λ (n : ℕ). count * n) (quiet_none v r (inside c count) s body a) in omega (arith, x)

-- so nothing is counted
pub quiet_list : (v : List ℕ) (r : Section) (c : Context) (s : AbstractState) (b : Statements) (none : List Requested) → none ≡ [] → is_quiet b ≡ true →
    saturated (requests_for none v r) ≡ saturated (requests v r c s b)
quiet_list v r c s b none e quiet = let a = ap (λ l. requests_for l v r) e in omega (arith, a, quiet_none v r c s b quiet)
