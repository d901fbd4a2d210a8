-- Steps that only want of quota stops, by the shape of the step's definition; and what follows where the rules allow a statement.
use Rattle.std.proofs.Common.{◌≡◌, ℕ, Bool, true, false, nat_lt, List, [], ◌∷◌, length, Option, Some, None, refl, ap, sym, subst}
use Rattle.std.specs.Prelude.{Ok, Err}
use Rattle.gq_model.specs.declared.fault.Wrong.{Wrong}
use Rattle.gq_model.specs.declared.fault.Wrong.TheVariants.{ExceededQuota}
use Rattle.gq_model.specs.declared.fault.Rule.{Rule}
use Rattle.gq_model.specs.machine.World.{World}
use Rattle.gq_model.specs.machine.Doing.{Event, Stepped, need, when, pop, push}
use Rattle.gq_model.specs.rules.Kinds.{AbstractState, Context}
use Rattle.gq_model.specs.rules.Rules.{Judged, Bounded, given, top, popped, pushed, with_bounds, and_then, within_need, judge, judged}
use Rattle.gq_model.specs.declared.program.Instruction.{Instruction}
use Rattle.gq_laws.specs.Inside_steps.{IsSafe}
use Rattle.gq_model.proofs.Rules_laws.{ok_same, must_holds, within_same}

-- SAFE STEPS

abbrev world_or : World → Stepped → World
world_or w (Ok p) = p.0
world_or w (Err wrong) = w

module _ {P : World → Type 0} where
  pub safe_gives : (w : World) (e : Event) → P w → IsSafe P (Ok (w, e))
  safe_gives w e h = record { ends = λ w' e' q. subst P (ap (world_or w) q) h; short = λ wrong q. absurd (ok_err (w, e) wrong q) }
    where
      ok_err : (p : World × Event) (wrong : Wrong) → ◌≡◌ {A = Stepped} (Ok p) (Err wrong) → ⊥
      ok_err p wrong q = cc

  safe_quota : IsSafe P (Err ExceededQuota)
  safe_quota = record { ends = λ w e q. absurd (err_ok (w, e) q); short = λ wrong q. sym (err_same wrong q) }
    where
      err_ok : (p : World × Event) → ◌≡◌ {A = Stepped} (Err ExceededQuota) (Ok p) → ⊥
      err_ok p q = cc

      err_same : (wrong : Wrong) → ◌≡◌ {A = Stepped} (Err ExceededQuota) (Err wrong) → ExceededQuota ≡ wrong
      err_same wrong q = cc

  -- a test that only want of quota fails
  pub safe_tested : (b : Bool) (next : Stepped) → IsSafe P next → IsSafe P (when b ExceededQuota next)
  safe_tested true next h = h
  safe_tested false next h = safe_quota

  pub safe_need : {A : Type 0} (o : Option A) (wrong : Wrong) (go : A → Stepped) (a : A) → o ≡ Some a → IsSafe P (go a) → IsSafe P (need o wrong go)
  safe_need o wrong go a e h = subst (λ o. IsSafe P (need o wrong go)) (sym e) h

  pub safe_when : (b : Bool) (wrong : Wrong) (next : Stepped) → b ≡ true → IsSafe P next → IsSafe P (when b wrong next)
  safe_when b wrong next e h = subst (λ b. IsSafe P (when b wrong next)) (sym e) h

  pub safe_pop : (operands : List ℕ) (go : ℕ → List ℕ → Stepped) (a : ℕ) (rest : List ℕ) → operands ≡ a ∷ rest → IsSafe P (go a rest)
      → IsSafe P (pop operands go)
  safe_pop operands go a rest e h = subst (λ operands. IsSafe P (pop operands go)) (sym e) h

  pub safe_push : (a : ℕ) (operands : List ℕ) (go : List ℕ → Stepped) → nat_lt (length operands) 16 ≡ true → IsSafe P (go (a ∷ operands))
      → IsSafe P (push a operands go)
  safe_push a operands go e h = safe_when (nat_lt (length operands) 16) _ (go (a ∷ operands)) e h

-- WHAT THE RULES ALLOW

err_ok : {rule : Rule} {s : AbstractState} → ◌≡◌ {A = Judged} (Err rule) (Ok s) → ⊥
err_ok e = cc

pub given_there : {A : Type 0} (o : Option A) (rule : Rule) (go : A → Judged) (t : AbstractState) → given o rule go ≡ Ok t → (a : A) × (o ≡ Some a) ×
    (go a ≡ Ok t)
given_there None rule go t e = absurd (err_ok e)
given_there (Some a) rule go t e = (a, refl, e)

pub top_there : (bounds : List ℕ) (go : ℕ → List ℕ → Judged) (t : AbstractState) → top bounds go ≡ Ok t
    → (b : ℕ) × (rest : List ℕ) × (bounds ≡ b ∷ rest) × (go b rest ≡ Ok t)
top_there [] go t e = absurd (err_ok e)
top_there (b ∷ rest) go t e = (b, rest, refl, e)

pub popped_there : (s : AbstractState) (go : ℕ → AbstractState → Judged) (t : AbstractState) → popped s go ≡ Ok t
    → (b : ℕ) × (rest : List ℕ) × (s.bounds ≡ b ∷ rest) × (go b (record s { bounds = rest }) ≡ Ok t)
popped_there s go t e = top_there s.bounds _ t e

pub pushed_there : (a : ℕ) (s t : AbstractState) → pushed a s ≡ Ok t → (nat_lt (length s.bounds) 16 ≡ true) × (t ≡ record s { bounds = a ∷ s.bounds })
pushed_there a s t e = let h = must_holds (nat_lt (length s.bounds) 16) _ _ t e in (h.0, sym (ok_same h.1))

-- a statement on operands alone changes the bounds of the operands alone
pub bounds_there : (s : AbstractState) (b : Bounded) (t : AbstractState) → with_bounds s b ≡ Ok t
    → (bounds : List ℕ) × (b ≡ Ok bounds) × (record s { bounds = bounds } ≡ t)
bounds_there s (Ok bounds) t e = (bounds, refl, ok_same e)
bounds_there s (Err rule) t e = absurd (err_ok e)

-- what a session costs changes nothing of the state
pub judged_alone : (c : Context) (s : AbstractState) (i : Instruction) (t : AbstractState) → judged c s i ≡ Ok t → judge c s i ≡ Ok t
judged_alone c s i t e = by (judge c s i) e
  where
    by : (j : Judged) → and_then j (within_need c.section c.subject.provided) ≡ Ok t → j ≡ Ok t
    by (Err rule) e = absurd (err_ok e)
    by (Ok u) e = (λ k. Ok (within_same c.section c.subject.provided u t e k))
