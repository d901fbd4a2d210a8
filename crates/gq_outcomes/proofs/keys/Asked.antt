-- What comes next at a place of a list of statements.
use Rattle.std.proofs.Common.{◌≡◌, ℕ, zero, suc, ◌+◌, ◌-◌, ◌<◌, ◌≤◌, inl, inr, Bool, true, false, List, [], ◌∷◌, length, drop, get_or, Option}
use Rattle.std.proofs.Common.{refl, ap, sym, ◌∙◌, arith}
use Rattle.std.proofs.lemmas.Bool.{cases_lt}
use Rattle.gq_model.specs.declared.program.Instruction.{Instruction}
use Rattle.gq_model.specs.declared.program.Instruction.TheVariants as instruction
use Rattle.gq_model.specs.machine.Program.{Statements, Done, If, Loop}
use Rattle.gq_program.proofs.Statement_list_sizes.{here_is}
use Rattle.gq_program.specs.Statement_trees.{tree_of}
use Rattle.gq_program.specs.declared.program_tree.Statement.{Statement}
use Rattle.gq_program.specs.declared.program_tree.Statement.TheVariants as statement
use Rattle.gq_bytecode.specs.Bytecode_layout.{width}
use Rattle.gq_outcomes.specs.declared.asks.Asks.{Asks}
use Rattle.gq_outcomes.specs.declared.asks.Asks.TheVariants as asks
use Rattle.gq_outcomes.specs.internal.Asks.{asked, asks_of}
use Rattle.gq_outcomes.specs.internal.Left.{Ahead, Nothing, Instructs, Other, ahead, ahead_in, in_round, or_else}
use Rattle.gq_outcomes.proofs.keys.Left.{cond_false, cond_true, width_here}

-- ONE OR ANOTHER

or_none : (a : Ahead) → a ≡ or_else a Nothing
or_none Nothing = refl
or_none (Instructs i) = refl
or_none Other = refl

round_stays : (a b : Ahead) → in_round a ≡ or_else (in_round a) b
round_stays Nothing b = refl
round_stays (Instructs i) b = refl
round_stays Other b = refl

abbrev is_nothing : Asks → Bool
is_nothing asks.Nothing = true
is_nothing (asks.Opens server) = false
is_nothing (asks.Names slot) = false
is_nothing asks.Other = false

something : (server : List ℕ → Option ℕ) (i : Instruction) → is_nothing (asked server i) ≡ false
something server (instruction.Say text) = refl
something server instruction.Out = refl
something server (instruction.Operands s) = refl
something server (instruction.Make form p n) = refl
something server (instruction.MakePool p n m) = refl
something server (instruction.Load width p) = refl
something server (instruction.Store width p) = refl
something server (instruction.Free p) = refl
something server (instruction.Take p) = refl
something server (instruction.Give p) = refl
something server (instruction.Peek p) = refl
something server (instruction.Poke p) = refl
something server (instruction.Open p service n) = refl
something server (instruction.Upgrade p n) = refl
something server (instruction.Call p) = refl
something server (instruction.Close p) = refl

not_nothing : (server : List ℕ → Option ℕ) (i : Instruction) → asked server i ≡ asks.Nothing → ⊥
not_nothing server i e = apart (sym (something server i) ∙ ap is_nothing e)
  where
    apart : false ≡ true → ⊥
    apart h = cc

-- where one asks nothing, the other one counts
pub when_nothing : (server : List ℕ → Option ℕ) (a b : Ahead) → asks_of server a ≡ asks.Nothing
    → asks_of server (or_else a b) ≡ asks_of server b
when_nothing server Nothing b e = refl
when_nothing server (Instructs i) b e = absurd (not_nothing server i e)
when_nothing server Other b e = absurd (cc e)

pub when_some : (server : List ℕ → Option ℕ) (a b : Ahead) → (asks_of server a ≡ asks.Nothing → ⊥)
    → asks_of server (or_else a b) ≡ asks_of server a
when_some server Nothing b n = absurd (n refl)
when_some server (Instructs i) b n = refl
when_some server Other b n = refl

pub round_over : (server : List ℕ → Option ℕ) (a : Ahead) → asks_of server a ≡ asks.Nothing → asks_of server (in_round a) ≡ asks.Other
round_over server Nothing e = refl
round_over server (Instructs i) e = absurd (not_nothing server i e)
round_over server Other e = absurd (cc e)

pub round_goes : (server : List ℕ → Option ℕ) (a : Ahead) → (asks_of server a ≡ asks.Nothing → ⊥)
    → asks_of server (in_round a) ≡ asks_of server a
round_goes server Nothing n = absurd (n refl)
round_goes server (Instructs i) n = refl
round_goes server Other n = refl

-- STATEMENTS IN A LIST

pub first_ahead : (s : Statement) (rest : List Statement) (p : ℕ) → p < width (tree_of (s ∷ []))
    → ahead_in (tree_of (s ∷ rest)) p ≡ or_else (ahead_in (tree_of (s ∷ [])) p) (ahead (tree_of rest))
first_ahead (statement.Plain i) rest zero l = refl
first_ahead (statement.Plain i) rest (suc p) l = absurd (omega (arith, l))
first_ahead (statement.If arm other) rest zero l = refl
first_ahead (statement.If arm other) rest (suc p) l = elim (cases_lt p (suc (width arm))) [
  | inl a ↦
      cond_true p (suc (width arm)) _ _ a ∙ ap (λ x. or_else x (ahead (tree_of rest))) (or_none (ahead_in arm p) ∙ sym (cond_true p (suc (width arm)) _ _ a))
  | inr a ↦
      let q = p - suc (width arm) in
      let b : q < width other = omega (arith, a, l) in
      cond_false p (suc (width arm)) _ _ a ∙ cond_true q (width other) _ _ b
      ∙ ap (λ x. or_else x (ahead (tree_of rest))) (or_none (ahead_in other q) ∙ sym (cond_false p (suc (width arm)) _ _ a ∙ cond_true q (width other) _ _ b))
]
first_ahead (statement.Loop n body) rest zero l = refl
first_ahead (statement.Loop n body) rest (suc p) l =
    let a : p < suc (width body) = omega (arith, l) in
    cond_true p (suc (width body)) _ _ a ∙ round_stays (ahead_in body p) (ahead (tree_of rest))
    ∙ ap (λ x. or_else x (ahead (tree_of rest))) (sym (cond_true p (suc (width body)) _ _ a))

pub later_ahead : (s : Statement) (rest : List Statement) (p : ℕ) → width (tree_of (s ∷ [])) ≤ p
    → ahead_in (tree_of (s ∷ rest)) p ≡ ahead_in (tree_of rest) (p - width (tree_of (s ∷ [])))
later_ahead (statement.Plain i) rest zero l = absurd (omega (arith, l))
later_ahead (statement.Plain i) rest (suc p) l = ap (ahead_in (tree_of rest)) (omega (arith, l))
later_ahead (statement.If arm other) rest zero l = absurd (omega (arith, l))
later_ahead (statement.If arm other) rest (suc p) l =
    let a : suc (width arm) ≤ p = omega (arith, l) in
    let b : width other ≤ p - suc (width arm) = omega (arith, l) in
    cond_false p (suc (width arm)) _ _ a ∙ cond_false (p - suc (width arm)) (width other) _ _ b ∙ ap (ahead_in (tree_of rest)) (omega (arith, l))
later_ahead (statement.Loop n body) rest zero l = absurd (omega (arith, l))
later_ahead (statement.Loop n body) rest (suc p) l =
    let a : suc (width body) ≤ p = omega (arith, l) in
    cond_false p (suc (width body)) _ _ a ∙ ap (ahead_in (tree_of rest)) (omega (arith, l))

pub ahead_in_arm : (arm other : Statements) (p : ℕ) → 0 < p → p ≤ width arm + 1 → ahead_in (If arm other Done) p ≡ ahead_in arm (p - 1)
ahead_in_arm arm other zero some l = absurd (omega (arith, some))
ahead_in_arm arm other (suc p) some l =
    cond_true p (suc (width arm)) _ _ (omega (arith, l)) ∙ sym (or_none (ahead_in arm p)) ∙ ap (ahead_in arm) (omega arith)

pub ahead_in_other : (arm other : Statements) (p : ℕ) → width arm + 1 < p → p < width (If arm other Done)
    → ahead_in (If arm other Done) p ≡ ahead_in other (p - width arm - 2)
ahead_in_other arm other zero some l = absurd (omega (arith, some))
ahead_in_other arm other (suc p) some l =
    cond_false p (suc (width arm)) _ _ (omega (arith, some)) ∙ cond_true (p - suc (width arm)) (width other) _ _ (omega (arith, some, l))
    ∙ sym (or_none (ahead_in other (p - suc (width arm)))) ∙ ap (ahead_in other) (omega (arith, some))

pub ahead_in_loop : (n : ℕ) (body : Statements) (p : ℕ) → 0 < p → p < width (Loop n body Done)
    → ahead_in (Loop n body Done) p ≡ in_round (ahead_in body (p - 1))
ahead_in_loop n body zero some l = absurd (omega (arith, some))
ahead_in_loop n body (suc p) some l =
    cond_true p (suc (width body)) _ _ (omega (arith, l)) ∙ ap (λ q. in_round (ahead_in body q)) (omega arith)

-- STATEMENTS ONE BY ONE

pub ahead_here : (items : List Statement) (i : ℕ) (s : Statement) (p : ℕ) → i < length items → s ≡ get_or items i s → p < width (tree_of (s ∷ []))
    → ahead_in (tree_of (drop i items)) p ≡ or_else (ahead_in (tree_of (s ∷ [])) p) (ahead (tree_of (drop (i + 1) items)))
ahead_here items i s p l e inside = ap (λ t. ahead_in (tree_of t) p) (here_is items i s l e) ∙ first_ahead s (drop (i + 1) items) p inside

pub ahead_later : (items : List Statement) (i : ℕ) (s : Statement) (p : ℕ) → i < length items → s ≡ get_or items i s → width (tree_of (s ∷ [])) ≤ p
    → ahead_in (tree_of (drop i items)) p ≡ ahead_in (tree_of (drop (i + 1) items)) (p - width (tree_of (s ∷ [])))
ahead_later items i s p l e past = ap (λ t. ahead_in (tree_of t) p) (here_is items i s l e) ∙ later_ahead s (drop (i + 1) items) p past

-- what is asked in a statement, and along statements
pub ruleset inside_rules = (ahead_in_arm, ahead_in_other, ahead_in_loop, round_over, round_goes)

pub ruleset along_rules = (ahead_here, ahead_later, when_nothing, when_some, width_here)
