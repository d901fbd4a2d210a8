-- The server to which an `open` leads can be asked.
use Rattle.std.proofs.Common.{◌≡◌, ◌<◌, ◌≤◌, ◌==◌, ℕ, zero, suc, inl, inr, Bool, true, false, ◌||◌, List, [], ◌∷◌, length, replicate, Option, Some, None}
use Rattle.std.proofs.Common.{refl, sym, ap, subst, ◌∙◌, arith, eq-eqb}
use Rattle.std.specs.Prelude.{slice_get}
use Rattle.std.proofs.lemmas.Bool.{false≢true, or_cases, or_left, or_right}
use Rattle.std.proofs.lemmas.Option.{slice_get_within}
use Rattle.std.proofs.lemmas.List.{length-replicate}
use Rattle.gq_model.specs.declared.phase.Phase.{Phase}
use Rattle.gq_model.specs.declared.phase.Phase.TheVariants as phase
use Rattle.gq_model.specs.machine.Lists.{any_of}
use Rattle.gq_model.specs.machine.Program.{text_eq}
use Rattle.gq_model.specs.machine.Routes.{server_of}
use Rattle.gq_model.specs.machine.Scenario.{Scenario, System, Component, components, system}
use Rattle.gq_model.specs.rules.Use.{is_there, services, uses}
use Rattle.gq_model.proofs.Small_facts.{get_within, text_is}
use Rattle.gq_laws.proofs.verified_programs.Use_chains.{Chain, Uses, chain_short, resolved_acyclic}
use Rattle.gq_statements.proofs.linked.Session_count.{few}
use Rattle.gq_trade.specs.Numbers.{free_number}
use Rattle.gq_laws.specs.Leaf_phases.{Suits, serves}
use Rattle.gq_laws.specs.Ready.{IsReady}
use Rattle.gq_laws.proofs.ready.Routed_leaf_services.{found, provided}
use Rattle.gq_trade.specs.Trades.{IsLive}
use Rattle.gq_trade.specs.declared.trade_node.Stage.TheVariants.{Live}
use Rattle.gq_slots.specs.Slots.{AreSound}
use Rattle.gq_statements.specs.Systems.{AreLawful, stage_in}
use Rattle.gq_leaf.proofs.Leaf_stance_worlds.{phase_is, there}
use Rattle.gq_machine.specs.Machine_world.{frame_of}
use Rattle.gq_machine.specs.declared.machine_state.Fixed.{Fixed}
use Rattle.gq_machine.specs.declared.machine_state.MachineState.{MachineState}
use Rattle.gq_machine.specs.internal.Machine_invariant.{Holds}
use Rattle.gq_machine.proofs.Stepping_leaf_facts.{live, standing}

-- A SERVER IS ANOTHER LEAF

any_used : (system : System) (c : Component) (x : ℕ) (name : List ℕ) (names : List (List ℕ)) → server_of system c name ≡ Some x
    → any_of (text_eq name) names ≡ true → any_of (λ service. is_there x (server_of system c service)) names ≡ true
any_used system c x name [] routed h = absurd (false≢true h)
any_used system c x name (service ∷ rest) routed h =
    let test : List ℕ → Bool = λ n. is_there x (server_of system c n) in
    elim (or_cases (text_eq name service) (any_of (text_eq name) rest) h) [
      | inl same ↦ or_left (test service) (any_of test rest) (ap test (sym (text_is name service same)) ∙ ap (is_there x) routed ∙ eq-eqb x x refl)
      | inr there ↦ or_right (test service) (any_of test rest) (any_used system c x name rest routed there)
    ]

-- who uses itself does so as often as you like
own_chain : (system : System) (x n : ℕ) → x < length system.components → Uses system x x → Chain system x (replicate n x)
own_chain system x zero less u = less
own_chain system x (suc n) less u = (u, own_chain system x n less u)

pub apart : (s : Scenario) → IsReady s → (x y : ℕ) (c : Component) (name : List ℕ) → slice_get (components s) x ≡ Some c
    → any_of (text_eq name) (services c) ≡ true → server_of (system s) c name ≡ Some y → x ≡ y → ⊥
apart s ready x y c name ec used routed same =
    let own = any_used (system s) c x name (services c) (routed ∙ ap (λ z. Some z) (sym same)) used in
    let n = length (components s) in
    let chain = own_chain (system s) x n (slice_get_within (components s) x c ec) (c, ec, own) in
    let short = chain_short (system s) (resolved_acyclic s ready.resolved.fits) x (replicate n x) chain in
    let count = length-replicate n x in
    omega (arith, short, count)

-- A SERVER IS LIVE

suits_live : (provides : Option (List ℕ)) (service : List ℕ) (signals : ℕ) (p : Phase) → provides ≡ Some service → Suits provides signals p
    → stage_in p ≡ Live
suits_live provides service signals phase.Pending e h = cc
suits_live provides service signals phase.Running e h = refl
suits_live provides service signals phase.Blocked e h = refl
suits_live provides service signals phase.Serving e h = refl
suits_live provides service signals phase.Handling e h = refl
suits_live provides service signals phase.Exited e h = let bad : ◌≡◌ {A = Bool} true false = ap (λ o. serves o signals) (sym e) ∙ h in cc

module _ (f : Fixed) (m : MachineState) (h : Holds f m) (l : AreLawful m.slots) where
  pub server_live : (x y : ℕ) (c : Component) (service : List ℕ) → slice_get (components f.table) x ≡ Some c
      → server_of (system f.table) c service ≡ Some y → IsLive m.slots.trades y
  server_live x y c service ec routed =
      let s = f.table in
      let frame = frame_of s m.leaves.items in
      let d = found s y c service routed in
      let within = slice_get_within (components s) y d.0 d.1 in
      let count = h.count in
      let leaf = get_within m.leaves.items y (omega (arith, within, count)) in
      let provides = provided s x y c d.0 service h.ready ec routed d.1 in
      let stands = (standing f m h l y d.0 leaf.0 d.1 leaf.1).stands in
      let at = there (system s) frame m.slots y d.0 leaf.0.state f.services.buffers l stands in
      let suits = h.phases.suits y d.0 _ d.1 at in
      live f m h l y d.0 leaf.0 d.1 leaf.1
      (suits_live d.0.node.provides service d.0.node.signals leaf.0.state.phase provides
      (subst (Suits d.0.node.provides d.0.node.signals) (phase_is (system s) frame m.slots y d.0 leaf.0.state f.services.buffers l stands) suits))

  -- and there is room for one session more
  pub few_there : AreSound m.slots.trades.trading → free_number m.slots.trades.trading.sessions ≤ 16448
  few_there sound = few (system f.table) (frame_of f.table m.leaves.items) m.slots l h.linked sound
