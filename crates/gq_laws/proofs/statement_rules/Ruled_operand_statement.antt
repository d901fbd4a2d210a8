-- A statement on operands alone that the rules allow has its operands, and what it leaves is within the bounds that the rules state.
use Rattle.std.proofs.Common.{◌≡◌, ℕ, ◌-◌, ◌/◌, ◌%◌, ◌≤◌, ◌&&◌, min, nat_lt, Bool, true, false, cond, List, [], ◌∷◌, length, Option, Some, None, Ok, Err}
use Rattle.std.proofs.Common.{refl, ap, sym, ◌∙◌, subst, arith}
use Rattle.std.specs.Prelude.{nat_le, slice_get, slice_index, slice_set}
use Rattle.std.proofs.lemmas.Bool.{leb-true}
use Rattle.gq_model.specs.machine.Lists.{all_of, between}
use Rattle.gq_model.specs.declared.program.OperandStatement.{OperandStatement}
use Rattle.gq_model.specs.declared.program.Bare.TheVariants.{Drop, Dup, Combine}
use Rattle.gq_model.specs.declared.program.WithNumber.TheVariants.{Push, Divide, Modulo, Get, Set, Index, Input}
use Rattle.gq_model.specs.declared.program.OperandStatement.TheVariants.{Plain, Numbered}
use Rattle.gq_model.specs.machine.Program.{combined}
use Rattle.gq_model.specs.machine.World.{Round}
use Rattle.gq_model.specs.machine.Operate.{Bench, Operated, left, popped, raised, raised_if, round_of, operate}
use Rattle.gq_model.specs.declared.fault.Rule.{Rule}
use Rattle.gq_model.specs.declared.fault.Rule.TheVariants.{StackTooDeep, ValueTooLarge}
use Rattle.gq_model.specs.texts.Operands.{greatest_number, own_number, in_range}
use Rattle.gq_model.specs.rules.Rules as rules
use Rattle.gq_model.specs.rules.Rules.{Bounded, Limits, bounded, bounds_if, round_raised, without_input, input_raised, bounds_after, bound_of}
use Rattle.gq_laws.specs.Current_section_facts.{Under}
use Rattle.gq_laws.specs.Shapes.{AreInputs}
use Rattle.gq_laws.specs.Typed.{AreCounts}
use Rattle.gq_laws.proofs.statement_rules.Statement_number_bounds.{divided, remains, combines, under_length, under_index, under_set, round_within}

ok_bounds : (xs ys : List ℕ) → ◌≡◌ {A = Bounded} (Ok xs) (Ok ys) → xs ≡ ys
ok_bounds xs ys e = cc

err_bounds : (rule : Rule) (xs : List ℕ) → ◌≡◌ {A = Bounded} (Err rule) (Ok xs) → ⊥
err_bounds rule xs e = cc

-- the operands and the locals that are left are within these bounds, where the rules allow the statement
record IsWithin (limits : List ℕ) (r : Option Operated) (b : Bounded) : Type 0 where
  pub holds : (bounds : List ℕ) → b ≡ Ok bounds → (o : Operated) × (r ≡ Some o) × Under o.operands bounds × Under o.locals limits

module _ (limits locals : List ℕ) (l : Under locals limits) where
  left_within : (operands bounds here : List ℕ) → Under operands bounds → Under here limits → IsWithin limits (left operands here) (Ok bounds)
  left_within operands bounds here u k = record {
    holds = λ other e. (record { operands = operands; locals = here }, refl, subst (Under operands) (ok_bounds bounds other e) u, k);
  }

  if_within : (r : Option Operated) (b : Bool) (rule : Rule) (bounds : List ℕ) → (b ≡ true → IsWithin limits r (Ok bounds))
      → IsWithin limits r (bounds_if b rule bounds)
  if_within r true rule bounds h = h refl
  if_within r false rule bounds h = record { holds = λ other e. absurd (err_bounds rule other e) }

  -- one operand more, and one bound more
  raised_within : (a b : ℕ) (operands bounds : List ℕ) → a ≤ b → Under operands bounds
      → IsWithin limits (raised a operands locals) (rules.raised b bounds)
  raised_within a b operands bounds le u =
      if_within (raised a operands locals) (nat_lt (length bounds) 16) StackTooDeep (b ∷ bounds) (λ room.
      subst (λ t. IsWithin limits (cond t (left (a ∷ operands) locals) None) (Ok (b ∷ bounds)))
      (sym (ap (λ n. nat_lt n 16) (under_length operands bounds u) ∙ room))
      (left_within (a ∷ operands) (b ∷ bounds) locals (le, u) l))

  -- the top operand is taken, and its bound
  popped_within : (operands bounds : List ℕ) (go : ℕ → List ℕ → Option Operated) (rule : ℕ → List ℕ → Bounded) → Under operands bounds
      → ((a b : ℕ) (rest below : List ℕ) → a ≤ b → Under rest below → IsWithin limits (go a rest) (rule b below))
      → IsWithin limits (popped operands go) (bounded bounds rule)
  popped_within [] [] go rule u h = record { holds = λ other e. absurd (err_bounds _ other e) }
  popped_within (a ∷ rest) (b ∷ below) go rule u h = h a b rest below u.0 u.1
  popped_within [] (b ∷ below) go rule u h = absurd u
  popped_within (a ∷ rest) [] go rule u h = absurd u

  -- the round of a loop around, which is below its count
  round_raised_within : (loops : List Round) (counts : List ℕ) (n : ℕ) (operands bounds : List ℕ) → AreCounts loops counts → Under operands bounds
      → IsWithin limits (raised_if (round_of loops n) operands locals) (round_raised (slice_get counts n) bounds)
  round_raised_within loops counts n operands bounds k u = by (slice_get counts n) refl
    where
      by : (o : Option ℕ) → slice_get counts n ≡ o → IsWithin limits (raised_if (round_of loops n) operands locals) (round_raised o bounds)
      by None e = record { holds = λ other e. absurd (err_bounds _ other e) }
      by (Some m) e =
          let r = round_within loops counts n m k e in
          let less = r.2 in
          subst (λ o. IsWithin limits (raised_if o operands locals) (rules.raised (m - 1) bounds)) (sym r.1)
          (raised_within r.0 (m - 1) operands bounds (omega (arith, less)) u)

  -- an input that the leaf has, which is at most its greatest value
  input_raised_within : (greatest inputs : List ℕ) (n : ℕ) (operands bounds : List ℕ) → AreInputs greatest inputs → Under operands bounds
      → IsWithin limits (raised (slice_index inputs n) operands locals) (input_raised (slice_get greatest n) bounds)
  input_raised_within greatest inputs n operands bounds k u = by (slice_get greatest n) refl
    where
      never : (b : Bounded) (other : List ℕ) → without_input b ≡ Ok other → ⊥
      never (Ok bounds) other e = cc
      never (Err rule) other e = cc

      by : (o : Option ℕ) → slice_get greatest n ≡ o → IsWithin limits (raised (slice_index inputs n) operands locals) (input_raised o bounds)
      by None e = record { holds = λ other e. absurd (never (rules.raised 0 bounds) other e) }
      by (Some m) e = raised_within (slice_index inputs n) m operands bounds (k n m e) u

least : (n high : ℕ) → (between 1 high n && true) ≡ true → 1 ≤ n
least n high e = leb-true 1 n (and_left (nat_le 1 n) (nat_le n high) (and_left (between 1 high n) true e))
  where
    and_left : (a b : Bool) → (a && b) ≡ true → a ≡ true
    and_left true b e = refl
    and_left false b e = e

module _ (l : Limits) (b : Bench) (bounds : List ℕ) (u : Under b.operands bounds) (k : Under b.locals l.locals) (counted : AreCounts b.loops l.counts)
    (low : AreInputs l.inputs b.inputs) where
  abbrev IsKept : OperandStatement → Type 0
  IsKept s = IsWithin l.locals (operate b s) (bounds_after l bounds s)

  kept : (s : OperandStatement) → all_of in_range (own_number s) ≡ true → IsKept s
  kept (Plain Drop) ranged = popped_within l.locals b.locals k b.operands bounds _ _ u
      (λ x y rest below le v. left_within l.locals b.locals k rest below b.locals v k)
  kept (Plain Dup) ranged = popped_within l.locals b.locals k b.operands bounds _ _ u
      (λ x y rest below le v. raised_within l.locals b.locals k x y (x ∷ rest) (y ∷ below) le (le, v))
  kept (Plain (Combine f)) ranged = popped_within l.locals b.locals k b.operands bounds _ _ u (λ y top below under le v.
      popped_within l.locals b.locals k below under _ _ v (λ x next rest last less w.
      left_raised (combined f x y) (bound_of f next top) rest last (combines f x y next top less le) w))
    where
      left_raised : (x y : ℕ) (rest last : List ℕ) → x ≤ y → Under rest last → IsWithin l.locals (left (x ∷ rest) b.locals) (rules.raised y last)
      left_raised x y rest last le w = if_within l.locals b.locals k _ (nat_lt (length last) 16) StackTooDeep (y ∷ last)
          (λ room. left_within l.locals b.locals k (x ∷ rest) (y ∷ last) b.locals (le, w) k)
  kept (Numbered Push n) ranged = raised_within l.locals b.locals k n n b.operands bounds (omega arith) u
  kept (Numbered Divide n) ranged = popped_within l.locals b.locals k b.operands bounds _ _ u (λ x y rest below le v.
      if_within l.locals b.locals k _ (nat_lt (length below) 16) StackTooDeep (y / n ∷ below) (λ room.
      left_within l.locals b.locals k (x / n ∷ rest) (y / n ∷ below) b.locals (divided x y n le (least n greatest_number ranged), v) k))
  kept (Numbered Modulo n) ranged = popped_within l.locals b.locals k b.operands bounds _ _ u (λ x y rest below le v.
      if_within l.locals b.locals k _ (nat_lt (length below) 16) StackTooDeep (min y (n - 1) ∷ below) (λ room.
      left_within l.locals b.locals k (x % n ∷ rest) (min y (n - 1) ∷ below) b.locals (remains x y n le (least n greatest_number ranged), v) k))
  kept (Numbered Get n) ranged = raised_within l.locals b.locals k (slice_index b.locals n) (slice_index l.locals n) b.operands bounds
      (under_index b.locals l.locals n k) u
  kept (Numbered Set n) ranged = popped_within l.locals b.locals k b.operands bounds _ _ u (λ x y rest below le v.
      if_within l.locals b.locals k _ (nat_le y (slice_index l.locals n)) ValueTooLarge below (λ within.
      let less = leb-true y (slice_index l.locals n) within in
      left_within l.locals b.locals k rest below (slice_set b.locals n x) v (under_set b.locals l.locals n x k (omega (arith, less, le)))))
  kept (Numbered Index n) ranged = round_raised_within l.locals b.locals k b.loops l.counts n b.operands bounds counted u
  kept (Numbered Input n) ranged = input_raised_within l.locals b.locals k l.inputs b.inputs n b.operands bounds low u

  -- what is left where the rules allow the statement
  pub operated_within : (s : OperandStatement) → all_of in_range (own_number s) ≡ true → (after : List ℕ) → bounds_after l bounds s ≡ Ok after
      → (o : Operated) × (operate b s ≡ Some o) × Under o.operands after × Under o.locals l.locals
  operated_within s ranged after e = (kept s ranged).holds after e
