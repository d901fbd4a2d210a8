-- The signals of a leaf once the first that is submitted is taken.
use Rattle.std.proofs.Common.{◌≡◌, ◌≢◌, ℕ, zero, suc, ◌<◌, Bool, true, false, cond, List, [], ◌∷◌, length, Option, Some, None, refl, ap, subst}
use Rattle.std.proofs.Common.{arith}
use Rattle.gq_model.specs.machine.World.{Signal}
use Rattle.gq_model.specs.machine.Step.{later_signal, first_signal}
use Rattle.gq_laws.specs.internal.Section_counts.{times_taken}
use Rattle.gq_model.proofs.Small_facts.{some_same, none_some}

-- the i-th signal is taken once more, and the others are as they were
pub record Takes (signals : List Signal) (p : ℕ × List Signal) : Type 0 where
  pub below : p.0 < length signals
  pub long : length p.1 ≡ length signals
  pub here : times_taken p.1 p.0 ≡ suc (times_taken signals p.0)
  pub else : (j : ℕ) → j ≢ p.0 → times_taken p.1 j ≡ times_taken signals j

takes_later : (s : Signal) (rest : List Signal) (p : ℕ × List Signal) → Takes rest p → Takes (s ∷ rest) (suc p.0, s ∷ p.1)
takes_later s rest p t =
    record {
      below = (let less = t.below in omega (arith, less));
      long = ap suc t.long;
      here = t.here;
      else = others;
    }
  where
    others : (j : ℕ) → j ≢ suc p.0 → times_taken (s ∷ p.1) j ≡ times_taken (s ∷ rest) j
    others zero e = refl
    others (suc j) e = t.else j (λ same. e (ap suc same))

pub takes_first : (signals : List Signal) (p : ℕ × List Signal) → first_signal signals ≡ Some p → Takes signals p
takes_first [] p e = absurd (none_some e)
takes_first (s ∷ rest) p e = by s.submitted (first_signal rest) (λ q f. takes_first rest q f) e
  where
    others : (j : ℕ) → j ≢ 0 → times_taken (record { submitted = false; taken = suc s.taken } ∷ rest) j ≡ times_taken (s ∷ rest) j
    others zero e = absurd (e refl)
    others (suc j) e = refl

    by : (b : Bool) (o : Option (ℕ × List Signal)) → ((q : ℕ × List Signal) → o ≡ Some q → Takes rest q)
        → cond b (Some (0, record { submitted = false; taken = suc s.taken } ∷ rest)) (later_signal s o) ≡ Some p → Takes (s ∷ rest) p
    by true o f e = subst (Takes (s ∷ rest)) (some_same e) (record { below = omega arith; long = refl; here = refl; else = others })
    by false None f e = absurd (none_some e)
    by false (Some q) f e = subst (Takes (s ∷ rest)) (some_same e) (takes_later s rest q (f q refl))
