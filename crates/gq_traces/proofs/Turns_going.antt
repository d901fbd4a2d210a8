-- Turns that are reported one after the other.
use Rattle.std.proofs.Common.{◌≡◌, ◌∙◌, ◌+◌, ◌≤◌, ℕ, Bool, List, [], ◌++◌, refl, sym, subst, arith, Option}
use Rattle.gq_output.specs.declared.counted.Counted.{Counted}
use Rattle.gq_world.specs.World_between_turns.{World}
use Rattle.gq_model.specs.machine.Scenario.{Scenario, system}
use Rattle.gq_traces.specs.Trace.{Traced, after_turn, after_turns, turn_text, turns_text}
use Rattle.gq_traces.specs.declared.trace.Tracing.{Tracing}
use Rattle.gq_traces.specs.internal.Printed_steps.{CanTrace, IsOn, IsSilent, PrintsTurns, budgets_of}
use Rattle.gq_traces.proofs.Sequential_text_writes.{goes_both, goes_nothing, goes_text}

module _ {W : Type 0} (contents : W → Option (List ℕ)) where
  -- none
  pub no_turns : (text : Traced → List ℕ) (go : Traced → Traced) (turns : ℕ) (w : World) (t : Tracing) (out : Counted W) (was : Bool) → CanTrace w t
      → ((u : Traced) → [] ≡ text u) → ((u : Traced) → u ≡ go u) → PrintsTurns 0 contents text go turns 0 w w t t out out was was
  no_turns text go turns w t out was can none same = record {
    scenario = refl;
    signals = omega arith;
    can = can;
    written = λ u on. goes_text contents out out was was [] (text u) (none u) (goes_nothing contents out was);
    on = λ u on.
        let all : turns ≡ turns + 0 = omega arith in
        subst (λ n. IsOn t.programs.items t.aheads.items w n (go u)) all (subst (IsOn t.programs.items t.aheads.items w turns) (same u) on);
  }

  -- some, and some more
  pub turns_both : (l o : ℕ) (text more whole : Traced → List ℕ) (go further all : Traced → Traced) (turns n m k j : ℕ) (u v w : World) (p q r : Tracing)
      (a b c : Counted W) (x y z : Bool) → j ≡ turns + n → k ≡ n + m → ((t : Traced) → text t ++ more (go t) ≡ whole t)
      → ((t : Traced) → further (go t) ≡ all t) → PrintsTurns l contents text go turns n u v p q a b x y
      → PrintsTurns o contents more further j m v w q r b c y z → PrintsTurns (l + o) contents whole all turns k u w p r a c x z
  turns_both l o text more whole go further all turns n m k j u v w p q r a b c x y z at sum texts gone g h = record {
    scenario = h.scenario ∙ g.scenario;
    signals = (let first = g.signals in let second = h.signals in omega (arith, first, second));
    can = h.can;
    written = λ t on.
        goes_text contents a c x z (text t ++ more (go t)) (whole t) (texts t)
        (goes_both contents a b c x y z (text t) (more (go t)) (g.written t on)
        (h.written (go t) (subst (λ i. IsOn q.programs.items q.aheads.items v i (go t)) (sym at) (g.on t on))));
    on = λ t on.
        let next = h.on (go t) (subst (λ i. IsOn q.programs.items q.aheads.items v i (go t)) (sym at) (g.on t on)) in
        let count : j + m ≡ turns + k = omega (arith, at, sum) in
        subst (λ i. IsOn r.programs.items r.aheads.items w i (all t)) count (subst (IsOn r.programs.items r.aheads.items w (j + m)) (gone t) next);
  }

  -- a turn of a leaf and a scenario that have other names
  pub turn_as : (all : Bool) (s r : Scenario) (x y turns : ℕ) (u v : World) (p q : Tracing) (a b : Counted W) (was now : Bool) → r ≡ s → y ≡ x
      → PrintsTurns 0 contents (turn_text all r (budgets_of r) y) (after_turn (system r) y) turns 1 u v p q a b was now
      → PrintsTurns 0 contents (turn_text all s (budgets_of s) x) (after_turn (system s) x) turns 1 u v p q a b was now
  turn_as all s r x y turns u v p q a b was now same is h =
      subst (λ (z : Scenario). PrintsTurns 0 contents (turn_text all z (budgets_of z) x) (after_turn (system z) x) turns 1 u v p q a b was now) same
      (subst (λ z. PrintsTurns 0 contents (turn_text all r (budgets_of r) z) (after_turn (system r) z) turns 1 u v p q a b was now) is h)

  pub some_as : (all : Bool) (s r : Scenario) (x y n turns : ℕ) (u v : World) (p q : Tracing) (a b : Counted W) (was now : Bool) → r ≡ s → y ≡ x
      → PrintsTurns 0 contents (turns_text all r (budgets_of r) y n) (after_turns (system r) y n) turns n u v p q a b was now
      → PrintsTurns 0 contents (turns_text all s (budgets_of s) x n) (after_turns (system s) x n) turns n u v p q a b was now
  some_as all s r x y n turns u v p q a b was now same is h =
      subst (λ (z : Scenario). PrintsTurns 0 contents (turns_text all z (budgets_of z) x n) (after_turns (system z) x n) turns n u v p q a b was now) same
      (subst (λ z. PrintsTurns 0 contents (turns_text all r (budgets_of r) z n) (after_turns (system r) z n) turns n u v p q a b was now) is h)

  -- turns of which nothing is reported
  pub silent_prints : (all : Bool) (s : Scenario) (x n turns : ℕ) (u v : World) (p q : Tracing) (out : Counted W) (was : Bool) → u.scenario ≡ s
      → IsSilent all x n u v p q → PrintsTurns 0 contents (turns_text all s (budgets_of s) x n) (after_turns (system s) x n) turns n u v p q out out was was
  silent_prints all s x n turns u v p q out was same h =
      subst (λ (z : Scenario). PrintsTurns 0 contents (turns_text all z (budgets_of z) x n) (after_turns (system z) x n) turns n u v p q out out was was) same
      (record {
        scenario = h.scenario;
        signals = (let signals = h.signals in omega (arith, signals));
        can = h.can;
        written = λ t on. goes_text contents out out was was [] _ (h.none turns t on) (goes_nothing contents out was);
        on = λ t on. h.on turns t on;
      })

  -- so many, where the end of the loop is their number
  pub turns_end : (all : Bool) (s : Scenario) (x n m turns : ℕ) (u v : World) (p q : Tracing) (a b : Counted W) (was now : Bool) → n ≡ m
      → PrintsTurns 0 contents (turns_text all s (budgets_of s) x n) (after_turns (system s) x n) turns n u v p q a b was now
      → PrintsTurns 0 contents (turns_text all s (budgets_of s) x m) (after_turns (system s) x m) turns m u v p q a b was now
  turns_end all s x n m turns u v p q a b was now e h =
      subst (λ z. PrintsTurns 0 contents (turns_text all s (budgets_of s) x z) (after_turns (system s) x z) turns z u v p q a b was now) e h

  -- one way of the same text and the same traces
  pub turns_like : (most : ℕ) (text other : Traced → List ℕ) (go way : Traced → Traced) (turns n : ℕ) (u v : World) (p q : Tracing) (a b : Counted W)
      (was now : Bool) → ((t : Traced) → t.world ≡ u.world → text t ≡ other t) → ((t : Traced) → t.world ≡ u.world → go t ≡ way t)
      → PrintsTurns most contents text go turns n u v p q a b was now → PrintsTurns most contents other way turns n u v p q a b was now
  turns_like most text other go way turns n u v p q a b was now texts gone h = record {
    scenario = h.scenario;
    signals = h.signals;
    can = h.can;
    written = λ t on. goes_text contents a b was now (text t) (other t) (texts t on.world) (h.written t on);
    on = λ t on. subst (IsOn q.programs.items q.aheads.items v (turns + n)) (gone t on.world) (h.on t on);
  }

  -- with more signals at most
  pub turns_within : (most more : ℕ) (text : Traced → List ℕ) (go : Traced → Traced) (turns n : ℕ) (u v : World) (p q : Tracing) (a b : Counted W)
      (was now : Bool) → most ≤ more → PrintsTurns most contents text go turns n u v p q a b was now
      → PrintsTurns more contents text go turns n u v p q a b was now
  turns_within most more text go turns n u v p q a b was now few h = record {
    scenario = h.scenario;
    signals = (let signals = h.signals in omega (arith, signals, few));
    can = h.can;
    written = h.written;
    on = h.on;
  }
