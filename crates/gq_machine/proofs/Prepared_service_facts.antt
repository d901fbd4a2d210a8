-- What a leaf knows of its program and of its service.
use Rattle.std.proofs.Common.{◌≡◌, ◌<◌, ◌≤◌, ℕ, not, cond, eqb, length, get_or, List, Some, sym, ap, subst, ◌∙◌, arith}
use Rattle.std.specs.Prelude.{IfSome, nat_eq, slice_get}
use Rattle.gq_model.specs.machine.Scenario.{Scenario, Component, components}
use Rattle.gq_model.proofs.Small_facts.{get_within}
use Rattle.gq_trade.specs.Numbers.{IsTaken}
use Rattle.gq_trade.specs.Trading.{object_size, session_at}
use Rattle.gq_trade.proofs.Sessions_kept.{between_at}
use Rattle.gq_slots.specs.Slots.{Slots}
use Rattle.gq_statements.specs.Systems.{AreLawful}
use Rattle.gq_statements.specs.Serving.{AreSections}
use Rattle.gq_machine.specs.declared.machine_state.Fixed.{Fixed}
use Rattle.gq_machine.specs.declared.machine_state.Prepared.{Prepared}
use Rattle.gq_machine.specs.declared.machine_state.MachineState.{MachineState}
use Rattle.gq_machine.specs.internal.Machine_invariant.{Holds}

-- capabilities are counted where their price is not 0
pub counted_is : (n version price : ℕ) → n ≡ version → price ≡ cond (eqb version 2) 1 0 → not (nat_eq (cond (eqb n 2) 1 0) 0) ≡ not (nat_eq price 0)
counted_is n version price e is = ap (λ p. not (nat_eq p 0)) (ap (λ v. cond (eqb v 2) 1 0) e ∙ sym is)

module _ (f : Fixed) (m : MachineState) (h : Holds f m) where
  abbrev s : Scenario
  s = f.table

  abbrev t : Slots
  t = m.slots

  pub prepared_there : (x : ℕ) → x < length (components s) → x < length f.prepared.items
  prepared_there x less = let count = h.count_prepared in omega (arith, less, count)

  pub sections_reported : (x : ℕ) → x < length (components s) → (p : Prepared) → slice_get f.prepared.items x ≡ Some p
      → IfSome (slice_get (components s) x) (λ c. AreSections p.sections c)
  sections_reported x less p there =
      let count = h.count in
      let c = get_within (components s) x less in
      let l = get_within m.leaves.items x (omega (arith, less, count)) in
      subst (λ o. IfSome o (λ (d : Component). AreSections p.sections d)) (sym c.1) (h.prepared x c.0 l.0 p c.1 l.1 there).sections

  pub object_reported : (k object service : ℕ) → service ≡ (session_at t.trades.trading k).service → object ≡ get_or f.services.objects service 0
      → object_size t.trades.trading k ≡ object
  object_reported k object service at is =
      ap (λ (l : List ℕ). get_or l (session_at t.trades.trading k).service 0) (h.nodes.objects ∙ sym h.services.objects)
      ∙ (ap (λ i. get_or f.services.objects i 0) (sym at) ∙ sym is)

  module _ (l : AreLawful t) (k : ℕ) (there : IsTaken t.trades.trading.sessions k) where
    service_below : (session_at t.trades.trading k).service < length t.trades.trading.objects
    service_below = (between_at (length t.trades.trading.leaves) (length t.trades.trading.objects) t.trades.trading.sessions k l.trading.between there).service

    pub service_there : (service : ℕ) → service ≡ (session_at t.trades.trading k).service → service < length f.services.objects
    service_there service at =
        let below = service_below in
        let count : length t.trades.trading.objects ≡ length f.services.objects = ap length (h.nodes.objects ∙ sym h.services.objects) in
        omega (arith, below, at, count)

    pub object_small : (object service : ℕ) → service ≡ (session_at t.trades.trading k).service → object ≡ get_or f.services.objects service 0
        → object ≤ 67108864
    object_small object service at is =
        let small = l.trading.objects (session_at t.trades.trading k).service service_below in
        let reported = object_reported k object service at is in
        omega (arith, small, reported)
