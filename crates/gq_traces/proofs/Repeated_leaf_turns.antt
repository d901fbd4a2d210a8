-- Turns of a leaf, one after the other, as long as it can take one.
use Rattle.std.proofs.Common.{◌≡◌, ◌∙◌, ℕ, zero, suc, ◌+◌, ◌-◌, ◌<◌, ◌≤◌, Bool, true, false, Ok}
use Rattle.std.proofs.Common.{Err, refl, ap, sym, arith}
use Rattle.std.specs.Prelude.{if◌then◌else◌}
use Rattle.gq_model.specs.machine.Doing.{Event, Stepped}
use Rattle.gq_model.specs.machine.Scenario.{System}
use Rattle.gq_model.specs.machine.Step.{next}
use Rattle.gq_model.specs.machine.World.{World}
use Rattle.gq_model.specs.machine.Rest.{can_run, one_and, while_can}
use Rattle.gq_traces.specs.internal.Takes.{TakesTurn}

pub while_step : (n : ℕ) (system : System) (w u : World) (x : ℕ) → can_run system w x ≡ true → TakesTurn system x w u
    → while_can (suc n) system w x ≡ (suc (while_can n system u x).0, (while_can n system u x).1)
while_step n system w u x can takes =
    ap (λ (b : Bool). if b then one_and w (next system w x) (λ v. while_can n system v x) else (0, w)) can
    ∙ ap (λ (r : Stepped). one_and w r (λ v. while_can n system v x)) takes.goes

pub while_stops : (n : ℕ) (system : System) (w : World) (x : ℕ) → can_run system w x ≡ false → while_can n system w x ≡ (0, w)
while_stops zero system w x can = refl
while_stops (suc n) system w x can = ap (λ (b : Bool). if b then one_and w (next system w x) (λ v. while_can n system v x) else (0, w)) can

-- so many turns more
abbrev pub further : ℕ → ℕ × World → ℕ × World
further k p = (k + p.0, p.1)

-- after so many turns what is left of the most leads where all of them lead
pub record HasCome (system : System) (x most taken : ℕ) (old now : World) : Type 0 where
  pub few : taken ≤ most
  pub come : while_can most system old x ≡ further taken (while_can (most - taken) system now x)

pub come_first : (system : System) (x most : ℕ) (w : World) → HasCome system x most 0 w w
come_first system x most w =
    record { few = omega arith; come = ap (λ n. while_can n system w x) (omega arith) ∙ ap (λ n. (n, (while_can (most - 0) system w x).1)) (omega arith) }

pub come_on : (system : System) (x most taken : ℕ) (old w u : World) → taken < most → can_run system w x ≡ true → TakesTurn system x w u
    → HasCome system x most taken old w → HasCome system x most (taken + 1) old u
come_on system x most taken old w u less can takes h =
    let left : most - taken ≡ suc (most - (taken + 1)) = omega (arith, less) in
    let rest = while_can (most - (taken + 1)) system u x in
    record {
      few = omega (arith, less);
      come = h.come ∙ (ap (λ n. further taken (while_can n system w x)) left
          ∙ (ap (further taken) (while_step (most - (taken + 1)) system w u x can takes) ∙ ap (λ n. (n, rest.1)) (omega arith)));
    }

pub come_rest : (system : System) (x most taken : ℕ) (old w : World) → can_run system w x ≡ false → HasCome system x most taken old w
    → while_can most system old x ≡ (taken, w)
come_rest system x most taken old w can h =
    h.come ∙ (ap (further taken) (while_stops (most - taken) system w x can) ∙ ap (λ n. (n, w)) (omega arith))

pub come_end : (system : System) (x most taken : ℕ) (old w : World) → (taken < most → ⊥) → HasCome system x most taken old w
    → while_can most system old x ≡ (taken, w)
come_end system x most taken old w over h =
    let few = h.few in
    let none : most - taken ≡ 0 = omega (arith, few, over) in
    h.come ∙ (ap (λ n. further taken (while_can n system w x)) none ∙ ap (λ n. (n, w)) (omega arith))

both_less : {A : Type 0} (m n : ℕ) (a b : A) → ◌≡◌ {A = ℕ × A} (suc m, a) (suc n, b) → ◌≡◌ {A = ℕ × A} (m, a) (n, b)
both_less m n a b e =
    let first = ap (λ p. p.0) e in
    let less : m ≡ n = omega (arith, first) in
    (λ i. (less i, ap (λ p. p.1) e i))

zero_not : {A : Type 0} {n : ℕ} {a b : A} → ◌≡◌ {A = ℕ × A} (0, a) (suc n, b) → ⊥
zero_not e = let none = ap (λ p. p.0) e in omega (arith, none)

pub steps_then : (system : System) (x k n : ℕ) (w u : World) → while_can k system w x ≡ (k, u) → while_can (k + n) system w x ≡ further k (while_can n system
    u x)
steps_then system x zero n w u e =
    ap (λ m. while_can m system w x) (omega arith) ∙ (ap (λ (v : World). while_can n system v x) (ap (λ p. p.1) e)
    ∙ ap (λ m. (m, (while_can n system u x).1)) (omega arith))
steps_then system x (suc k) n w u e =
    by (can_run system w x) refl (next system w x) refl (λ (p : World × Event) (h : while_can k system p.0 x ≡ (k, u)). steps_then system x k n p.0 u h)
  where
    by : (b : Bool) → can_run system w x ≡ b → (o : Stepped) → next system w x ≡ o
        → ((p : World × Event) → while_can k system p.0 x ≡ (k, u) → while_can (k + n) system p.0 x ≡ further k (while_can n system u x))
        → while_can (suc k + n) system w x ≡ further (suc k) (while_can n system u x)
    by false can o goes more = absurd (zero_not (sym (while_stops (suc k) system w x can) ∙ e))
    by true can (Err wrong) goes more =
        absurd (zero_not (sym (ap (λ (b : Bool). if b then one_and w (next system w x) (λ v. while_can k system v x) else (0, w)) can
        ∙ ap (λ (r : Stepped). one_and w r (λ v. while_can k system v x)) goes) ∙ e))
    by true can (Ok p) goes more =
        let takes : TakesTurn system x w p.0 = record { event = p.1; goes = goes } in
        let first = both_less (while_can k system p.0 x).0 k (while_can k system p.0 x).1 u (sym (while_step k system w p.0 x can takes) ∙ e) in
        let next_n : suc k + n ≡ suc (k + n) = omega arith in
        ap (λ m. while_can m system w x) next_n ∙ (while_step (k + n) system w p.0 x can takes
        ∙ (ap (λ (q : ℕ × World). (suc q.0, q.1)) (more p first) ∙ ap (λ m. (m, (while_can n system u x).1)) (omega arith)))

-- so many turns more, each of which is a step
pub come_more : (system : System) (x most taken more : ℕ) (old w u : World) → taken + more ≤ most → while_can more system w x ≡ (more, u)
    → HasCome system x most taken old w → HasCome system x most (taken + more) old u
come_more system x most taken more old w u few steps h =
    let left : most - taken ≡ more + (most - (taken + more)) = omega (arith, few) in
    let rest = while_can (most - (taken + more)) system u x in
    record {
      few = few;
      come = h.come ∙ (ap (λ n. further taken (while_can n system w x)) left
          ∙ (ap (further taken) (steps_then system x more (most - (taken + more)) w u steps) ∙ ap (λ n. (n, rest.1)) (omega arith)));
    }

-- all of them were steps
pub come_all : (system : System) (x most : ℕ) (old now : World) → HasCome system x most most old now → while_can most system old x ≡ (most, now)
come_all system x most old now h = come_end system x most most old now (λ less. omega (arith, less)) h
