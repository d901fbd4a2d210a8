-- The end of a section is the last step that the section has left, and keeps worlds counted.
use Rattle.std.proofs.Common.{◌≡◌, ◌≤◌, ℕ, zero, suc, ◌+◌, inl, inr, cond, Bool, true, false, List, [], ◌∷◌, Option, Some, None, Ok, refl, ap, sym, ◌∙◌, subst}
use Rattle.std.proofs.Common.{arith}
use Rattle.std.specs.Prelude.{slice_get}
use Rattle.std.proofs.lemmas.Bool.Decides.{eqb_tells}
use Rattle.gq_model.specs.declared.phase.Phase.{Phase}
use Rattle.gq_model.specs.declared.phase.Phase.TheVariants.{Pending, Running, Blocked, Serving, Handling, Exited}
use Rattle.gq_model.specs.machine.Program.{Done}
use Rattle.gq_model.specs.machine.Scenario.{Component}
use Rattle.gq_model.specs.machine.World.{Slot, Session, Current, Leaf, World, session_at, section_of}
use Rattle.gq_model.specs.machine.Doing.{Doing, Event, Quiet, Finished, standing}
use Rattle.gq_model.specs.machine.Step.{is_named, released, all_released, exited, exit_of, serving, resumed, main_ended, section_ended}
use Rattle.gq_model.specs.rules.Kinds.{Kind, AbstractState, Context}
use Rattle.gq_model.specs.rules.Flow.{context, section_end}
use Rattle.gq_model.specs.rules.Budgets.{cost}
use Rattle.gq_laws.specs.internal.Section_counts.{rounds_cost}
use Rattle.gq_model.specs.rules.Use.{subject}
use Rattle.gq_laws.specs.Session_links.{stance, IsLinkedWorld}
use Rattle.gq_laws.specs.Typed.{Meets}
use Rattle.gq_laws.specs.Inside_steps.{TakesLeaf}
use Rattle.gq_laws.specs.Reply_stances.{HasEnded, Replies, slot_replied, own_then, resuming}
use Rattle.gq_laws.specs.Typing.{IsTypedBy}
use Rattle.gq_laws.specs.internal.Section_counts.{Often, Requests, ahead, served_at, waiting_in, Within, Since, Counts, IsCounted}
use Rattle.gq_laws.proofs.step_shapes.Step_end_shapes.{Ends, gives, when_ends}
use Rattle.gq_model.proofs.Small_facts.{some_same, none_some}
use Rattle.gq_laws.proofs.session_links.Written_world_links.{set_here, set_else}
use Rattle.gq_laws.proofs.reply_rules.World_after_reply.{replies_ruled}
use Rattle.gq_laws.proofs.verified_programs.Sure_system_facts.{IsSure}
use Rattle.gq_laws.proofs.typed_worlds.Typed_world_promises.{stood}
use Rattle.gq_laws.proofs.session_links.Linked_after_reply.{session_of_outline}
use Rattle.gq_laws.proofs.typed_worlds.Reply_typed.{no_request}
use Rattle.gq_laws.proofs.typed_worlds.Typed_world_step.{Acts, handling, ended_typed}
use Rattle.gq_laws.proofs.step_counts.Counted_world_step.{then_served, waiting_else, Rises, Spends, quiet_spends, spends_counted}
use Rattle.gq_laws.proofs.step_counts.Inside_step_counted.{all_left, IsOneOn, one_on, was_ahead}

-- a leaf that takes what another had left, and no more
abbrev Costs : Leaf → Leaf → Type 0
Costs leaf old = leaf.steps + ahead leaf leaf.phase ≤ old.steps + ahead old old.phase

-- LEAVES THAT ARE RELEASED

released_ahead : (leaf : Leaf) (name : List ℕ) (after : Option (List ℕ)) (phase : Phase) → ahead leaf (released name after phase) ≡ ahead leaf phase
released_ahead leaf name after Pending = by (is_named name after)
  where
    by : (b : Bool) → ahead leaf (cond b Running Pending) ≡ ahead leaf Pending
    by true = refl
    by false = refl
released_ahead leaf name after Running = refl
released_ahead leaf name after Blocked = refl
released_ahead leaf name after Serving = refl
released_ahead leaf name after Handling = refl
released_ahead leaf name after Exited = refl

same_ahead : (leaf : Leaf) (p phase : Phase) → ahead (record leaf { phase = p }) phase ≡ ahead leaf phase
same_ahead leaf p Pending = refl
same_ahead leaf p Running = refl
same_ahead leaf p Blocked = refl
same_ahead leaf p Serving = refl
same_ahead leaf p Handling = refl
same_ahead leaf p Exited = refl

-- a leaf that is there was there, with the same steps left
released_back : (name : List ℕ) (cs : List Component) (leaves : List Leaf) (y : ℕ) (leaf : Leaf) → slice_get (all_released name cs leaves) y ≡ Some leaf
    → (old : Leaf) × (slice_get leaves y ≡ Some old) × Costs leaf old
released_back name [] leaves y leaf there = (leaf, there, omega arith)
released_back name (c ∷ cs) [] y leaf there = absurd (none_some there)
released_back name (c ∷ cs) (old ∷ leaves) zero leaf there =
    let p = released name c.node.after old.phase in
    let same = same_ahead old p p ∙ released_ahead old name c.node.after old.phase in
    (old, refl, subst (λ leaf. Costs leaf old) (some_same there) (omega (arith, same)))
released_back name (c ∷ cs) (old ∷ leaves) (suc y) leaf there = released_back name cs leaves y leaf there

-- THE END OF `main`

module _ (left : Requests) (d : Doing) (takes : TakesLeaf d) where
  -- one leaf has ended its section, and all others are as they were
  module _ (new : Leaf) (ends : Costs new takes.old) where
    standing_leaves : (y : ℕ) (leaf : Leaf) → slice_get (standing d new).leaves y ≡ Some leaf
        → (old : Leaf) × (slice_get d.world.leaves y ≡ Some old) × Costs leaf old
    standing_leaves y leaf there =
        elim (eqb_tells y d.x) [
          | inl e ↦ (
            takes.old,
            ap (slice_get d.world.leaves) e.1
                ∙ takes.there,
            subst (λ l. Costs l takes.old) (some_same (sym (set_here d.world.leaves d.x new takes.old takes.there)
                ∙ (ap (slice_get (standing d new).leaves) (sym e.1) ∙ there))) ends,
          )
          | inr e ↦ (leaf, sym (set_else d.world.leaves d.x y new e.1) ∙ there, omega arith)
        ]

  -- no signal was taken more often before
  abbrev SpendsRising : World → Type 0
  SpendsRising w = Rises d.world w → Spends d.system d.world w left left

  serving_spends : Costs (serving d.leaf) takes.old → SpendsRising (standing d (serving d.leaf))
  serving_spends serves rises = quiet_spends d.system d.world (standing d (serving d.leaf)) left rises (λ y q. refl)
      (λ y c leaf at there. standing_leaves (serving d.leaf) serves y leaf there)

  main_spends : Costs (serving d.leaf) takes.old → Costs (exited d.leaf) takes.old → (provides : Option (List ℕ)) (signals : ℕ)
      → Ends SpendsRising (main_ended d provides signals)
  main_spends serves exits (Some service) signals = gives _ Quiet (serving_spends serves)
  main_spends serves exits None (suc n) = gives _ Quiet (serving_spends serves)
  main_spends serves exits None zero =
      when_ends SpendsRising _ _ _
      (gives (exit_of d) Finished (λ rises. quiet_spends d.system d.world (exit_of d) left rises (λ y q. refl) (λ y c leaf at there.
      let o = released_back d.component.node.name d.system.components (standing d (exited d.leaf)).leaves y leaf there in
      let u = standing_leaves (exited d.leaf) exits y o.0 o.1 in
      let a = o.2 in
      let b = u.2 in
      (u.0, u.1, omega (arith, a, b)))))

-- a section of the leaf's own has ended
module _ (left : Requests) (d : Doing) (takes : TakesLeaf d) where
  own_spends : Costs (serving d.leaf) takes.old → Costs (exited d.leaf) takes.old → (reacting : Option ℕ)
      → Ends (SpendsRising left d takes) (section_ended d None reacting)
  own_spends serves exits None = main_spends left d takes serves exits d.component.node.provides d.component.node.signals
  own_spends serves exits (Some i) = gives _ Quiet (serving_spends left d takes serves)

-- REPLIES

-- a client that waited goes on with what it had left
resuming_costs : (leaf : Leaf) (operands : List ℕ) (slots : List Slot) → leaf.phase ≡ Blocked → Costs (resuming leaf operands slots) leaf
resuming_costs leaf operands slots blocked = by leaf.current leaf.reacting
  where
    was : ahead leaf leaf.phase ≡ all_left leaf
    was = ap (ahead leaf) blocked

    by : (current : Option Current) (reacting : Option ℕ) → leaf.steps + ahead
        (record leaf { phase = resumed current reacting; operands = operands; slots = slots }) (resumed current reacting)
        ≤ leaf.steps + ahead leaf leaf.phase
    by None None = omega (arith, was)
    by None (Some i) = omega (arith, was)
    by (Some g) reacting = omega (arith, was)

module _ (promised : ℕ → Option Kind) (left : Requests) (d : Doing) (sure : IsSure d.system) (takes : TakesLeaf d) (h : IsLinkedWorld d.system d.world)
    (t : IsTypedBy promised (Within d.system left) d.system d.world) (at : slice_get d.system.components d.x ≡ Some d.component)
    (own : IsOneOn d takes) (w : World) (rises : Rises d.world w) (a : Acts promised (Within d.system left) d) (nothing : d.leaf.todo ≡ Done)
    (out : d.leaf.loops ≡ []) where
  -- the section's end is left
  one_left : all_left d.leaf ≡ 1
  one_left = (λ i. cost (nothing i) + rounds_cost (out i) + 1)

  serves : Costs (serving d.leaf) takes.old
  serves = let was = was_ahead d takes own a.active in let one = one_on d takes own in omega (arith, was, one, one_left)

  exits : Costs (exited d.leaf) takes.old
  exits = let was = was_ahead d takes own a.active in let one = one_on d takes own in omega (arith, was, one, one_left)

  module _ (g : Current) (s : Session) (mine : d.leaf.current ≡ Some g) (found : session_at d.world g.session ≡ Some s)
      (r : (c : Context) × (state : AbstractState)
      × Replies promised c state d g s w) where
    leaves : (y : ℕ) (leaf : Leaf) → slice_get w.leaves y ≡ Some leaf → (old : Leaf) × (slice_get d.world.leaves y ≡ Some old) × Costs leaf old
    leaves y leaf there =
        elim (eqb_tells y d.x) [
          | inl e ↦ (
            takes.old,
            ap (slice_get d.world.leaves) e.1
                ∙ takes.there,
            subst (λ l. Costs l takes.old) (some_same (sym r.2.server ∙ (ap (slice_get w.leaves) (sym e.1) ∙ there))) serves,
          )
          | inr e ↦ elim (eqb_tells y s.client) [
            | inl f ↦ (
              r.2.client,
              ap (slice_get d.world.leaves) f.1
                  ∙ r.2.was,
              subst (λ l. Costs l r.2.client) (some_same (sym r.2.goes_on ∙ (ap (slice_get w.leaves) (sym f.1) ∙ there)))
                  (resuming_costs r.2.client r.2.operands (own_then s.slot_id (slot_replied g.section g.session) r.2.client.slots) r.2.blocked),
            )
            | inr f ↦ (leaf, sym (r.2.leaves y e.1 f.1) ∙ there, omega arith)
          ]
        ]

    reply_spends : Spends d.system d.world w left left
    reply_spends =
        quiet_spends d.system d.world w left rises
        (λ y q. ap (waiting_in w y q) r.2.requests ∙ waiting_else d.world w g.session (λ j ne. ap served_at (r.2.sessions j ne)
        ∙ then_served s.slot_id _ j (session_at d.world j)) d.world.requests
        (no_request promised (Within d.system left) d sure takes h t at
        (handling promised (Within d.system left) d sure takes h t at g mine a.active) g s mine found) y q)
        (λ y c leaf placed there. leaves y leaf there)

  reply_ended : (last : AbstractState) → Meets promised (context (subject d.system d.component) (section_of d.leaf.current d.leaf.reacting)) a.end d.world
      d.leaf
      → section_end (subject d.system d.component) (section_of d.leaf.current d.leaf.reacting) a.end ≡ Ok last
      → (g : Current) → d.leaf.current ≡ Some g → (event : Event) → section_ended d d.leaf.current d.leaf.reacting ≡ Ok (w, event)
      → Spends d.system d.world w left left
  reply_ended last meets ends g mine event is =
      let handles = handling promised (Within d.system left) d sure takes h t at g mine a.active in
      let handled = h.handles d.x d.leaf.phase g (stood d takes ∙ ap (λ o. Some (stance d.leaf.phase o)) mine) in
      let s = session_of_outline (session_at d.world g.session) handled.0 handled.1 in
      let c : Context = context (subject d.system d.component) g.section in
      let m : Meets promised c a.end d.world d.leaf = subst
      (λ o. Meets promised (context (subject d.system d.component) (section_of o d.leaf.reacting)) a.end d.world d.leaf) mine meets in
      let last_is : section_end (subject d.system d.component) g.section a.end ≡ Ok last =
      subst (λ o. section_end (subject d.system d.component) (section_of o d.leaf.reacting) a.end ≡ Ok last) mine ends in
      let ended : HasEnded promised c a.end d g s.0 w = record {
        meets = m;
        last = last;
        ends = last_is;
        at_current = mine;
        there = s.1;
        event = event;
        ended = is;
      } in
      reply_spends g s.0 mine s.1 (c, a.end, replies_ruled promised c d takes h handles a.end g s.0 w ended)

  spends : (last : AbstractState) → Meets promised (context (subject d.system d.component) (section_of d.leaf.current d.leaf.reacting)) a.end d.world d.leaf
      → section_end (subject d.system d.component) (section_of d.leaf.current d.leaf.reacting) a.end ≡ Ok last
      → (current : Option Current) → d.leaf.current ≡ current → (event : Event) → section_ended d d.leaf.current d.leaf.reacting ≡ Ok (w, event)
      → Spends d.system d.world w left left
  spends last meets ends None mine event is = (own_spends left d takes serves exits d.leaf.reacting).holds w event
      (subst (λ o. section_ended d o d.leaf.reacting ≡ Ok (w, event)) mine is) rises
  spends last meets ends (Some g) mine event is = reply_ended last meets ends g mine event is

  pub ended_counted : (last : AbstractState) → Meets promised (context (subject d.system d.component) (section_of d.leaf.current d.leaf.reacting)) a.end
      d.world d.leaf
      → section_end (subject d.system d.component) (section_of d.leaf.current d.leaf.reacting) a.end ≡ Ok last
      → (event : Event) → section_ended d d.leaf.current d.leaf.reacting ≡ Ok (w, event) → (since : Since) (done : Often) (made : Requests)
      → Counts since done made left d.system d.world → IsCounted since d.system w
  ended_counted last meets ends event is since done made counts =
      spends_counted since done made left left d.system d.world w counts (spends last meets ends d.leaf.current refl event is) promised
      (ended_typed promised (Within d.system left) d sure takes h t at (Within d.system left)
      (λ y section state todo loops ne b. b) w d.leaf.current refl a last meets ends event is)
