-- What a step does not change: inputs stay 0 and a leaf stays pending unless the step ends the leaf that it starts after.
use Rattle.std.proofs.Common.{◌≡◌, ◌≢◌, ◌⊎◌, inl, inr, ℕ, zero, suc, Bool, true, false, cond, nat_lt, List, [], ◌∷◌, Option, Some, None, Ok, refl}
use Rattle.std.proofs.Common.{ap, sym, ◌∙◌, arith}
use Rattle.std.specs.Prelude.{replicate, slice_get}
use Rattle.gq_model.specs.declared.fault.Wrong.TheVariants.{WrongKind, ExceededQuota, MissingSection}
use Rattle.gq_model.specs.declared.phase.Phase.{Phase}
use Rattle.gq_model.specs.declared.phase.Phase.TheVariants.{Pending, Running, Blocked, Serving, Handling, Exited}
use Rattle.gq_model.specs.declared.section.Section.{Section}
use Rattle.gq_model.specs.declared.section.Section.TheVariants.{Main, Opening, Upgrading, Calling, Closing, Reacting}
use Rattle.gq_model.specs.machine.Doing.{Doing, Event, Idle, Quiet, Finished, settled, standing}
use Rattle.gq_model.specs.machine.Program.{Statements, Done, Do, If, Loop, section_in}
use Rattle.gq_model.specs.machine.Scenario.{Component, System}
use Rattle.gq_model.specs.machine.Step.{accept_oldest, active_again, all_empty, all_released, body_ended, exit_of, exited, main_ended, next, no_link}
use Rattle.gq_model.specs.machine.Step.{oldest, perform, replied, reply, reply_close, resumed, section_ended, serving, step_in, step_of, unblocked, instruct}
use Rattle.gq_model.specs.machine.Step.{first_signal, reacting_to, serve}
use Rattle.gq_model.specs.machine.Sums.{paid, with_peaks}
use Rattle.gq_model.specs.machine.World.{Empty, Link, Slot, SlotId, Session, Request, Current, Signal, Round, Leaf, World, session_at, start_leaves, with_leaf}
use Rattle.gq_model.specs.machine.World.{with_slot}
use Rattle.gq_model.proofs.Small_facts.{none_some, some_same, equal_self}
use Rattle.gq_model.specs.declared.program.Instruction.{Instruction}
use Rattle.gq_model.specs.machine.Doing.{Stepped}
use Rattle.gq_laws.specs.Leaf_phases.{serves}
use Rattle.gq_laws.specs.Session_links.{IsLinkedWorld, Stands, at_current, links, one_if, outline, outline_in, stance, stance_in}
use Rattle.gq_laws.proofs.session_links.Asked_request_changes.{same_phase}
use Rattle.gq_laws.proofs.step_shapes.Step_end_shapes.{Ends, fails, gives, need_ends, need_found, when_ends, pop_ends}
use Rattle.gq_laws.proofs.step_shapes.Step_change_shapes.{slot_by, plain_instruct_by, section_by, accept_by}
use Rattle.gq_laws.proofs.step_shapes.Step_end_worlds.{begun, closed}
use Rattle.gq_determined.proofs.rest_accounts.Own_peak_bounds.{put_cases}

-- what is left of a leaf once others are released
released_leaf : (name : List ℕ) (cs : List Component) (leaves : List Leaf) (y : ℕ) (leaf : Leaf) → slice_get (all_released name cs leaves) y ≡ Some leaf
    → (old : Leaf) × (slice_get leaves y ≡ Some old) × (leaf.inputs ≡ old.inputs)
released_leaf name [] leaves y leaf e = (leaf, e, refl)
released_leaf name (c ∷ cs) [] y leaf e = absurd (none_some e)
released_leaf name (c ∷ cs) (l ∷ leaves) zero leaf e = (l, refl, ap (λ (k : Leaf). k.inputs) (sym (some_same e)))
released_leaf name (c ∷ cs) (l ∷ leaves) (suc y) leaf e = released_leaf name cs leaves y leaf e

-- INPUTS

abbrev zeros : List ℕ
zeros = replicate 8 0

-- all inputs are 0
pub record AreUnset (w : World) : Type 0 where
  pub each : (y : ℕ) (leaf : Leaf) → slice_get w.leaves y ≡ Some leaf → leaf.inputs ≡ zeros

leaf_unset : (w : World) (x : ℕ) (leaf : Leaf) → leaf.inputs ≡ zeros → AreUnset w → AreUnset (with_leaf w x leaf)
leaf_unset w x leaf own h = record { each = λ y new e. by y new (put_cases w.leaves x y leaf new e) }
  where
    by : (y : ℕ) (new : Leaf) → ((y ≡ x) × (new ≡ leaf)) ⊎ ((y ≢ x) × (slice_get w.leaves y ≡ Some new)) → new.inputs ≡ zeros
    by y new (inl q) = ap (λ (l : Leaf). l.inputs) q.1 ∙ own
    by y new (inr q) = h.each y new q.1

slot_unset : (w : World) (q : SlotId) (slot : Slot) → AreUnset w → AreUnset (with_slot w q slot)
slot_unset =
    slot_by AreUnset (λ w x leaf slots e h. leaf_unset w x (record leaf { slots = slots }) (h.each x leaf e) h) (λ w sessions h. record { each = h.each })

unblocked_unset : (w : World) (x : ℕ) (f : List ℕ → List ℕ) → AreUnset w → AreUnset (unblocked w x f)
unblocked_unset w x f h = by (slice_get w.leaves x) refl
  where
    by : (o : Option Leaf) → slice_get w.leaves x ≡ o → AreUnset (active_again w x f o)
    by None e = h
    by (Some leaf) e = leaf_unset w x (record leaf { phase = resumed leaf.current leaf.reacting; operands = f leaf.operands }) (h.each x leaf e) h

settled_unset : (u : System) (x : ℕ) (w : World) → AreUnset w → Ends AreUnset (settled u x w)
settled_unset u x w h =
    need_found AreUnset _ _ _ (λ leaf there. when_ends AreUnset _ _ _ (gives _ _ (leaf_unset w x (with_peaks w x leaf) (h.each x leaf there) h)))

module _ (d : Doing) (h : AreUnset d.world) (own : d.leaf.inputs ≡ zeros) where
  main_unset : (o : Option (List ℕ)) (signals : ℕ) → Ends AreUnset (main_ended d o signals)
  main_unset (Some service) signals = gives _ Quiet (leaf_unset d.world d.x (serving d.leaf) own h)
  main_unset None (suc n) = gives _ Quiet (leaf_unset d.world d.x (serving d.leaf) own h)
  main_unset None zero = when_ends AreUnset (no_link d.leaf.slots) WrongKind _ (gives _ Finished (record {
    each = λ y leaf e.
        (let old = released_leaf d.component.node.name d.system.components (standing d (exited d.leaf)).leaves y leaf e in
        let w = leaf_unset d.world d.x (exited d.leaf) refl h in old.2 ∙ w.each y old.0 old.1);
  }))

  section_unset : (current : Option Current) (reacting : Option ℕ) → Ends AreUnset (section_ended d current reacting)
  section_unset =
      section_by d AreUnset slot_unset (leaf_unset d.world d.x (serving d.leaf) own h) unblocked_unset (λ w k hw. record { each = hw.each })
      (main_unset d.component.node.provides d.component.node.signals)

  body_unset : (loops : List Round) → Ends AreUnset (body_ended d loops)
  body_unset [] = section_unset d.leaf.current d.leaf.reacting
  body_unset (r ∷ loops) = gives _ Quiet (by (nat_lt (suc r.round) r.count))
    where
      by : (b : Bool) → AreUnset (standing d (cond b (record d.leaf { todo = r.body; loops = record r { round = suc r.round } ∷ loops })
          (record d.leaf { todo = r.rest; loops = loops })))
      by true = leaf_unset d.world d.x _ own h
      by false = leaf_unset d.world d.x _ own h

  accepted_unset : (o : Option (Request × List Request)) → Ends AreUnset (accept_oldest d o)
  accepted_unset None = gives d.world Idle h
  accepted_unset (Some q) =
      accept_by AreUnset d q.0 q.1 (λ old there. (let w = leaf_unset d.world d.x (begun d q.0 old) own h in record { each = w.each }))

  served_unset : (o : Option (ℕ × List Signal)) → Ends AreUnset (serve d o)
  served_unset None = accepted_unset (oldest d.world d.x d.world.requests)
  served_unset (Some p) = need_ends AreUnset (section_in (Reacting p.0) d.component.node.program.sections) MissingSection _
      (λ body. gives _ Quiet (leaf_unset d.world d.x (reacting_to d.leaf p.0 p.1 body) own h))

instruct_unset : (d : Doing) → AreUnset d.world → d.leaf.inputs ≡ zeros → (todo : Statements) → Ends AreUnset (perform d todo)
instruct_unset d h own Done = body_unset d h own d.leaf.loops
instruct_unset d h own (Do i rest) =
    let e : Doing = record d { leaf = record d.leaf { todo = rest } } in
    plain_instruct_by e AreUnset AreUnset h slot_unset slot_unset (λ w operands locals q hw. leaf_unset w d.x _ own hw)
    (λ w operands hw. leaf_unset w d.x _ own hw) (λ w requests hw. record { each = hw.each }) (settled_unset d.system d.x)
    (λ w sessions hw. record { each = hw.each }) i
instruct_unset d h own (If arm other rest) = pop_ends AreUnset d.leaf.operands _ (λ a below. gives _ Quiet (leaf_unset d.world d.x _ own h))
instruct_unset d h own (Loop count body rest) = gives _ Quiet (leaf_unset d.world d.x _ own h)

step_unset : (d : Doing) → AreUnset d.world → d.leaf.inputs ≡ zeros → (phase : Phase) → Ends AreUnset (step_in d phase)
step_unset d h own Running = instruct_unset d h own d.leaf.todo
step_unset d h own Handling = instruct_unset d h own d.leaf.todo
step_unset d h own Serving = served_unset d h own (first_signal d.leaf.signals)
step_unset d h own Pending = gives d.world Idle h
step_unset d h own Blocked = gives d.world Idle h
step_unset d h own Exited = gives d.world Idle h

next_unset_by : (u : System) (w : World) (x : ℕ) (c : Option Component) (o : Option Leaf) → AreUnset w → slice_get w.leaves x ≡ o
    → Ends AreUnset (step_of u w x c o)
next_unset_by u w x (Some c) (Some leaf) h there =
    step_unset (record { system = u; world = w; x = x; component = c; leaf = record leaf { steps = suc leaf.steps } }) h (h.each x leaf there) leaf.phase
next_unset_by u w x (Some c) None h there = gives w Idle h
next_unset_by u w x None leaf h there = gives w Idle h

pub next_unset : (u : System) (w : World) (x : ℕ) (new : World) (event : Event) → AreUnset w → next u w x ≡ Ok (new, event) → AreUnset new
next_unset u w x new event h e = (next_unset_by u w x (slice_get u.components x) (slice_get w.leaves x) h refl).holds new event e

start_each : (cs : List Component) (y : ℕ) (leaf : Leaf) → slice_get (start_leaves cs) y ≡ Some leaf → leaf.inputs ≡ zeros
start_each [] y leaf e = absurd (none_some e)
start_each (c ∷ cs) zero leaf e = ap (λ (l : Leaf). l.inputs) (sym (some_same e))
start_each (c ∷ cs) (suc y) leaf e = start_each cs y leaf e

pub start_unset : (cs : List Component) → (y : ℕ) (leaf : Leaf) → slice_get (start_leaves cs) y ≡ Some leaf → leaf.inputs ≡ zeros
start_unset = start_each

-- LEAVES THAT ARE PENDING

module _ (u : System) (w0 : World) (linked : IsLinkedWorld u w0) (x y : ℕ) (ne : y ≢ x) (c : Component) (old : Leaf) (there : slice_get w0.leaves x ≡ Some old)
    (busy : old.phase ≡ Blocked → ⊥)
    (was : Leaf) (at_y : slice_get w0.leaves y ≡ Some was) (pends : was.phase ≡ Pending) where
  abbrev d0 : Doing
  d0 = record { system = u; world = w0; x = x; component = c; leaf = record old { steps = suc old.steps } }

  record Pends (w : World) : Type 0 where
    stays : (l : Leaf) → slice_get w.leaves y ≡ Some l → l.phase ≡ Pending

  -- still pending, or the leaf that took the step has exited
  abbrev pub Gone : World → Type 0
  Gone w = (w ≡ exit_of d0) × (serves c.node.provides c.node.signals ≡ false)

  record StaysOr (w : World) : Type 0 where
    is : Pends w ⊎ Gone w

  pends_first : Pends w0
  pends_first = record { stays = λ l e. ap (λ (l : Leaf). l.phase) (some_same (sym e ∙ at_y)) ∙ pends }

  leaf_pends : (w : World) (z : ℕ) (leaf : Leaf) → (y ≡ z → leaf.phase ≡ Pending) → Pends w → Pends (with_leaf w z leaf)
  leaf_pends w z leaf own h = record { stays = λ new e. by new (put_cases w.leaves z y leaf new e) }
    where
      by : (new : Leaf) → ((y ≡ z) × (new ≡ leaf)) ⊎ ((y ≢ z) × (slice_get w.leaves y ≡ Some new)) → new.phase ≡ Pending
      by new (inl q) = ap (λ (l : Leaf). l.phase) q.1 ∙ own q.0
      by new (inr q) = h.stays new q.1

  slot_pends : (w : World) (q : SlotId) (slot : Slot) → Pends w → Pends (with_slot w q slot)
  slot_pends =
      slot_by Pends (λ w z leaf slots e h. leaf_pends w z (record leaf { slots = slots }) (λ q. h.stays leaf (ap (slice_get w.leaves) q ∙ e)) h)
      (λ w sessions h. record { stays = h.stays })

  -- a step of the other leaf, whose statements may have been taken from it
  module _ (leaf : Leaf) (current_same : leaf.current ≡ old.current) where
    abbrev d : Doing
    d = record { system = u; world = w0; x = x; component = c; leaf = leaf }

    stand : (new : Leaf) → Pends (standing d new)
    stand new = leaf_pends w0 x new (λ e. absurd (ne e)) pends_first

    settled_pends : (w : World) → Pends w → Ends Pends (settled u x w)
    settled_pends w h =
        need_ends Pends (slice_get w.leaves x) _ _ (λ l. when_ends Pends _ _ _ (gives _ _ (leaf_pends w x (with_peaks w x l) (λ e. absurd (ne e)) h)))

    instruct_pends : (i : Instruction) → Ends Pends (instruct d i)
    instruct_pends =
        plain_instruct_by d Pends Pends pends_first slot_pends slot_pends (λ w operands locals e hw. leaf_pends w x _ (λ q. absurd (ne q)) hw)
        (λ w operands hw. leaf_pends w x _ (λ q. absurd (ne q)) hw) (λ w requests hw. record { stays = hw.stays }) settled_pends
        (λ w sessions hw. record { stays = hw.stays })

    -- the client of the current session waits, so it is not pending
    client_else : (q : Current) (s : Session) → leaf.current ≡ Some q → session_at w0 q.session ≡ Some s → y ≢ s.client
    client_else q s at at_s e = by (linked.stands q.session (outline s) (ap outline_in at_s))
      where
        stood : (links w0).stances x ≡ Some (stance old.phase (Some q))
        stood = ap stance_in there ∙ ap (λ o. Some (stance old.phase o)) (sym current_same ∙ at)

        server : s.server ≡ x
        server = let m = linked.handles x old.phase q stood in ap (λ (t : Session). t.server) (some_same (sym (ap outline_in at_s) ∙ m.1)) ∙ m.2

        one : at_current q.session ((links w0).stances s.server) ≡ 1
        one = ap (λ z. at_current q.session ((links w0).stances z)) server ∙ (ap (at_current q.session) stood ∙ ap one_if (equal_self q.session))

        pending_blocked : Pending ≡ Blocked → ⊥
        pending_blocked e = cc

        by : Stands (links w0) q.session (outline s) → ⊥
        by (inl a) = let none = a.2 in omega (arith, none, one)
        by (inr a) =
            let m = linked.waits q.session (outline s) (ap outline_in at_s) a.0 in
            pending_blocked (sym pends ∙ same_phase (sym (ap stance_in at_y) ∙ (ap (links w0).stances e ∙ m.1)))

    woken : (w : World) (z : ℕ) (f : List ℕ → List ℕ) → y ≢ z → Pends w → Pends (unblocked w z f)
    woken w z f other h = by (slice_get w.leaves z)
      where
        by : (o : Option Leaf) → Pends (active_again w z f o)
        by None = h
        by (Some l) = leaf_pends w z _ (λ e. absurd (other e)) h

    replied_pends : (k : ℕ) (s : Session) (f : List ℕ → List ℕ) → y ≢ s.client → Ends Pends (replied d k s f)
    replied_pends k s f other =
        gives _ Quiet (woken (with_slot (standing d (serving leaf)) s.slot_id (Link k)) s.client f other
        (slot_pends (standing d (serving leaf)) s.slot_id (Link k) (stand (serving leaf))))

    close_pends : (k : ℕ) (s : Session) → y ≢ s.client → Ends Pends (reply_close d k s)
    close_pends k s other =
        when_ends Pends (all_empty s.slots) WrongKind _ (when_ends Pends (paid u (closed d k s)) ExceededQuota _ (gives (closed d k s) Quiet
        (woken _ s.client (λ operands. operands) other (record {
          stays = (slot_pends (standing d (serving leaf)) s.slot_id Empty (stand (serving leaf))).stays;
        }))))

    reply_pends : (k : ℕ) (section : Section) (s : Session) → y ≢ s.client → Ends Pends (reply d k section s)
    reply_pends k Main s other = fails _
    reply_pends k Opening s other = when_ends Pends _ _ _ (replied_pends k s _ other)
    reply_pends k (Upgrading l) s other = replied_pends k s _ other
    reply_pends k (Calling l) s other = pop_ends Pends _ _ (λ a rest. replied_pends k s _ other)
    reply_pends k (Closing l) s other = close_pends k s other
    reply_pends k (Reacting i) s other = fails _

    stay : (r : Stepped) → Ends Pends r → Ends StaysOr r
    stay r h = record { holds = λ w e is. record { is = inl (h.holds w e is) } }

    module _ (gone : exit_of d ≡ exit_of d0) where
      main_pends : (o : Option (List ℕ)) (n : ℕ) → serves c.node.provides c.node.signals ≡ serves o n → Ends StaysOr (main_ended d o n)
      main_pends (Some service) n e = gives _ Quiet (record { is = inl (stand (serving leaf)) })
      main_pends None (suc n) e = gives _ Quiet (record { is = inl (stand (serving leaf)) })
      main_pends None zero e = when_ends StaysOr (no_link leaf.slots) WrongKind _ (gives _ Finished (record { is = inr (gone, e) }))

      section_pends : (current : Option Current) (reacting : Option ℕ) → leaf.current ≡ current → Ends StaysOr (section_ended d current reacting)
      section_pends None None e = main_pends c.node.provides c.node.signals refl
      section_pends None (Some i) e = gives _ Quiet (record { is = inl (stand (serving leaf)) })
      section_pends (Some q) reacting e =
          need_found StaysOr (session_at w0 q.session) WrongKind _ (λ s at. stay _ (reply_pends q.session q.section s (client_else q s e at)))

      body_pends : (loops : List Round) → Ends StaysOr (body_ended d loops)
      body_pends [] = section_pends leaf.current leaf.reacting refl
      body_pends (r ∷ loops) = gives _ Quiet (by (nat_lt (suc r.round) r.count))
        where
          by : (b : Bool) → StaysOr (standing d (cond b (record leaf { todo = r.body; loops = record r { round = suc r.round } ∷ loops })
              (record leaf { todo = r.rest; loops = loops })))
          by true = record { is = inl (stand _) }
          by false = record { is = inl (stand _) }

  perform_pends : (todo : Statements) → Ends StaysOr (perform d0 todo)
  perform_pends Done = body_pends d0.leaf refl refl old.loops
  perform_pends (Do i rest) = stay d0.leaf refl _ (instruct_pends (record d0.leaf { todo = rest }) refl i)
  perform_pends (If arm other rest) = pop_ends StaysOr old.operands _ (λ a below. gives _ Quiet (record { is = inl (stand d0.leaf refl _) }))
  perform_pends (Loop count body rest) = gives _ Quiet (record { is = inl (stand d0.leaf refl _) })

  accepted_pends : (o : Option (Request × List Request)) → Ends StaysOr (accept_oldest d0 o)
  accepted_pends None = gives w0 Idle (record { is = inl pends_first })
  accepted_pends (Some q) =
      accept_by StaysOr d0 q.0 q.1 (λ s at. record { is = inl (record { stays = (stand d0.leaf refl (begun d0 q.0 s)).stays }) })

  served_pends : (o : Option (ℕ × List Signal)) → Ends StaysOr (serve d0 o)
  served_pends None = accepted_pends (oldest w0 x w0.requests)
  served_pends (Some p) = need_ends StaysOr (section_in (Reacting p.0) c.node.program.sections) MissingSection _
      (λ body. gives _ Quiet (record { is = inl (stand d0.leaf refl (reacting_to d0.leaf p.0 p.1 body)) }))

  step_pends : (phase : Phase) → Ends StaysOr (step_in d0 phase)
  step_pends Running = perform_pends old.todo
  step_pends Handling = perform_pends old.todo
  step_pends Serving = served_pends (first_signal d0.leaf.signals)
  step_pends Pending = gives w0 Idle (record { is = inl pends_first })
  step_pends Blocked = gives w0 Idle (record { is = inl pends_first })
  step_pends Exited = gives w0 Idle (record { is = inl pends_first })

  -- a leaf that was pending is so still, unless the leaf that took the step has exited
  pub pends_or_gone : slice_get u.components x ≡ Some c → (new : World) (event : Event) → next u w0 x ≡ Ok (new, event)
      → ((l : Leaf) → slice_get new.leaves y ≡ Some l → l.phase ≡ Pending) ⊎ Gone new
  pends_or_gone placed new event stepped =
      let r = (step_pends old.phase).holds new event (sym (λ j. step_of u w0 x (placed j) (there j)) ∙ stepped) in
      elim r.is [ inl p ↦ inl p.stays | inr q ↦ inr q ]
