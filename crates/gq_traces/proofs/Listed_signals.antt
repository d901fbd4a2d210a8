-- Signals that are submitted and listed one after the other.
use Rattle.std.proofs.Common.{◌≡◌, ◌∙◌, ℕ, suc, ◌+◌, ◌-◌, ◌<◌, ◌≤◌, List, [], ◌∷◌, ◌++◌, length, drop, Option, refl, ap, sym, subst, arith}
use Rattle.std.proofs.Common.{append_assoc, append-nil}
use Rattle.std.specs.Prelude.{IfSome, slice_get}
use Rattle.gq_model.specs.declared.act.Act.TheVariants.{Submits}
use Rattle.gq_model.specs.declared.act.TurnLine.{TurnLine}
use Rattle.gq_model.specs.declared.act.TurnLine.TheVariants.{Gives}
use Rattle.gq_model.specs.machine.Run.{submit}
use Rattle.gq_model.specs.machine.Scenario.{Component}
use Rattle.gq_model.specs.machine.World.{World}
use Rattle.gq_model.specs.texts.Turns.{signals_at}
use Rattle.gq_traces.specs.Schedule.{all_signals, signals_from, with_all_signals, with_signals_from}
use Rattle.gq_traces.proofs.Turn_text_parts.{drop_all, found_at}

-- how many signals a leaf has, by what its world returns
pub count_is : (cs : List Component) (x n : ℕ) → x < length cs → IfSome (slice_get cs x) (λ c. n ≡ c.node.signals) → n ≡ signals_at (slice_get cs x)
count_is cs x n less h =
    let at = found_at cs x less in
    subst (λ (o : Option Component). n ≡ signals_at o) (sym at.1)
    (subst (λ (o : Option Component). IfSome o (λ c. n ≡ c.node.signals)) at.1 h)

-- where all signals of the leaf before the i-th are submitted and listed, of k
pub record GoesFrom (x i k : ℕ) (old now : World) (before after : List TurnLine) : Type 0 where
  pub world : with_signals_from x i (k - i) now ≡ with_signals_from x 0 k old
  pub lines : after ++ signals_from x i (k - i) ≡ before ++ signals_from x 0 k

pub from_first : (x k : ℕ) (w : World) (lines : List TurnLine) → GoesFrom x 0 k w w lines lines
from_first x k w lines =
    let all : k - 0 ≡ k = omega arith in
    record { world = ap (λ n. with_signals_from x 0 n w) all; lines = ap (λ n. lines ++ signals_from x 0 n) all }

pub from_next : (x i k : ℕ) (old now new : World) (before between after : List TurnLine) → i < k → new ≡ submit now x i
    → after ≡ between ++ Gives x (Submits i) ∷ [] → GoesFrom x i k old now before between → GoesFrom x (i + 1) k old new before after
from_next x i k old now new before between after less is listed h =
    let one : i + 1 ≡ suc i = omega arith in
    let rest : k - i ≡ suc (k - suc i) = omega (arith, less) in
    subst (λ n. GoesFrom x n k old new before after) (sym one)
    (record {
      world = ap (with_signals_from x (suc i) (k - suc i)) is ∙ (sym (ap (λ n. with_signals_from x i n now) rest) ∙ h.world);
      lines = ap (λ l. l ++ signals_from x (suc i) (k - suc i)) listed
          ∙ (append_assoc between (Gives x (Submits i) ∷ []) (signals_from x (suc i) (k - suc i))
          ∙ (sym (ap (λ n. between ++ signals_from x i n) rest) ∙ h.lines));
    })

pub from_end : (x i k : ℕ) (old now : World) (before after : List TurnLine) → k ≤ i → GoesFrom x i k old now before after
    → (now ≡ with_signals_from x 0 k old) × (after ≡ before ++ signals_from x 0 k)
from_end x i k old now before after over h =
    let none : k - i ≡ 0 = omega (arith, over) in (
      sym (ap (λ n. with_signals_from x i n now) none) ∙ h.world,
      sym (append-nil after) ∙ (sym (ap (λ n. after ++ signals_from x i n) none) ∙ h.lines),
    )

-- where all signals of the leaves before the x-th are
pub record GoesLeaves (cs : List Component) (x : ℕ) (old now : World) (before after : List TurnLine) : Type 0 where
  pub world : with_all_signals x (drop x cs) now ≡ with_all_signals 0 cs old
  pub lines : after ++ all_signals x (drop x cs) ≡ before ++ all_signals 0 cs

pub leaves_first : (cs : List Component) (w : World) (lines : List TurnLine) → GoesLeaves cs 0 w w lines lines
leaves_first cs w lines = record { world = refl; lines = refl }

pub leaves_next : (cs : List Component) (x : ℕ) (old now new : World) (before between after : List TurnLine) → x < length cs
    → new ≡ with_signals_from x 0 (signals_at (slice_get cs x)) now → after ≡ between ++ signals_from x 0 (signals_at (slice_get cs x))
    → GoesLeaves cs x old now before between → GoesLeaves cs (x + 1) old new before after
leaves_next cs x old now new before between after less is listed h =
    let at = found_at cs x less in
    let one : x + 1 ≡ suc x = omega arith in
    let rest = drop (suc x) cs in
    let count : signals_at (slice_get cs x) ≡ at.0.node.signals = ap signals_at at.1 in
    subst (λ n. GoesLeaves cs n old new before after) (sym one)
    (record {
      world = ap (with_all_signals (suc x) rest) (is ∙ ap (λ k. with_signals_from x 0 k now) count)
          ∙ (sym (ap (λ l. with_all_signals x l now) at.2) ∙ h.world);
      lines = ap (λ l. l ++ all_signals (suc x) rest) (listed ∙ ap (λ k. between ++ signals_from x 0 k) count)
          ∙ (append_assoc between (signals_from x 0 at.0.node.signals) (all_signals (suc x) rest)
          ∙ (sym (ap (λ l. between ++ all_signals x l) at.2) ∙ h.lines));
    })

pub leaves_end : (cs : List Component) (x : ℕ) (old now : World) (before after : List TurnLine) → x ≡ length cs → GoesLeaves cs x old now before after
    → (now ≡ with_all_signals 0 cs old) × (after ≡ before ++ all_signals 0 cs)
leaves_end cs x old now before after all h =
    let none = drop_all cs x all in (
      sym (ap (λ l. with_all_signals x l now) none) ∙ h.world,
      sym (append-nil after) ∙ (sym (ap (λ l. after ++ all_signals x l) none) ∙ h.lines),
    )
