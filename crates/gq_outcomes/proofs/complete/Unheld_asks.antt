-- A section of a server that is never held asks no server that can be held.
use Rattle.std.proofs.Common.{◌≡◌, ◌⊎◌, inl, inr, ℕ, Bool, true, false, [], Some}
use Rattle.std.proofs.Common.{refl, ap, sym, ◌∙◌, subst}
use Rattle.std.specs.Prelude.{is_some, slice_get}
use Rattle.std.proofs.lemmas.Bool.{true≢false}
use Rattle.gq_model.specs.declared.program.Instruction.{Instruction}
use Rattle.gq_model.specs.declared.program.Instruction.TheVariants.{Open, Upgrade, Call, Close}
use Rattle.gq_model.specs.declared.program.OperandSlot.{OperandSlot}
use Rattle.gq_model.specs.declared.program.OperandSlot.TheVariants.{Own, Shared, Object}
use Rattle.gq_model.specs.machine.Program.{Statements, Done, Do, If, Loop}
use Rattle.gq_model.specs.machine.Scenario.{Component, Scenario, System, system}
use Rattle.gq_model.specs.machine.World.{Current, In_leaf, In_object, In_session, Leaf, SlotId, World, slot_at, slot_id_of}
use Rattle.gq_model.proofs.Small_facts.{none_some}
use Rattle.gq_laws.specs.Sound_scenarios.{IsSound}
use Rattle.gq_laws.specs.internal.Remaining_instructions.{AllAre}
use Rattle.gq_laws.specs.internal.Uncounted.{uncounted}
use Rattle.gq_laws.proofs.verified_programs.Use_chains.{Uses}
use Rattle.gq_races.specs.Races.{changes_own, is_own, is_shared, opens_later}
use Rattle.gq_determined.specs.internal.Threads.{who}
use Rattle.gq_determined.proofs.thread_positions.Turn_thread_position.{IsServing, IsWorking, who_is}
use Rattle.gq_determined.proofs.thread_runs.Raceless_first_statements.{OpensThere}
use Rattle.gq_determined.proofs.thread_runs.Remaining_section_statements.{AreSections, Lefts}
use Rattle.gq_outcomes.specs.Choices.{asked_by, asks_next, next_asked, server_at, server_at_slot_id}
use Rattle.gq_outcomes.proofs.complete.Held_worlds.{AreQuiet, Held, view}
use Rattle.gq_outcomes.proofs.complete.Good_worlds.{c, quiet, there_c}
use Rattle.gq_outcomes.proofs.complete.Order_of_requests.{asked_of}
use Rattle.gq_outcomes.proofs.complete.Order_steps.{ordered}
use Rattle.gq_outcomes.proofs.complete.Alike_held.{IsGood, end}
use Rattle.gq_outcomes.proofs.complete.Asked_uses.{IsFound, found_behind, object_none, session_client, uses_at}
use Rattle.gq_outcomes.proofs.complete.Calm_turns.{not_named}
use Rattle.gq_outcomes.proofs.complete.Opened_sections.{AreBy, Begun, IsBy}
use Rattle.gq_outcomes.proofs.complete.Sections_below.{shared_below}
use Rattle.gq_outcomes.proofs.complete.Unsubmitted_signals.{active_at, goes_on}

module _ (s : Scenario) (sound : IsSound s) (holds : ℕ → Bool) (P : ℕ → Component → Bool → Instruction → Type 0)
    (sections : AreSections P (uncounted (system s))) (quiet_of : (w : World) → Lefts P (uncounted (system s)) w → AreQuiet holds w)
    (opens_of : (x : ℕ) (c : Component) (later : Bool) (i : Instruction) → P x c later i → OpensThere (uncounted (system s)) c later i)
    (m : Held) (h : IsGood s sound holds P sections quiet_of m) (opened : AreBy (uncounted (system s)) m.world)
    (shared_of : (z : ℕ) → holds z ≡ false → is_shared (uncounted (system s)) z ≡ true)
    (lower : (y z : ℕ) → holds y ≡ false → Uses (uncounted (system s)) y z → is_shared (uncounted (system s)) z ≡ true → holds z ≡ false)
    (i x : ℕ) (is : who (view m) x ≡ Some i) (off : holds x ≡ false) (begun : Begun m.world x) where
  abbrev u : System
  u = uncounted (system s)

  abbrev d : Component
  d = c s sound holds P sections quiet_of m h i x is

  at_d : slice_get u.components x ≡ Some d
  at_d = there_c s sound holds P sections quiet_of m h i x is

  module _ (leaf : Leaf) (there : slice_get m.world.leaves x ≡ Some leaf) (q : Current) (current : leaf.current ≡ Some q) (z : ℕ) where
    -- a server that is opened
    opened_off : opens_later u z d ≡ true → holds z ≡ false
    opened_off e =
        lower x z off (d, at_d, uses_at u z d true e)
        (shared_below u z x d at_d e (shared_of x off))

    abbrev F : SlotId → Type 0
    F slot = IsFound s sound holds P sections quiet_of m h z slot

    session_off : (a : ℕ) → F (In_session q.session a) → holds z ≡ false
    session_off a f = ap holds (sym f.server) ∙ by (opened.each f.k f.session f.at)
      where
        client : f.session.client ≡ x
        client = session_client s sound holds P sections quiet_of m h z x leaf q there current a f

        by : IsBy u m.world f.session.slot_id f.session.client f.session.server → holds f.session.server ≡ false
        by p = elim p.2 [
          | inl g ↦ absurd (apart (sym f.slot_is ∙ g.1.1))
          | inr g ↦ lower f.session.client f.session.server (ap holds client ∙ off) (h.held.placed.uses f.k f.session f.at)
              (shared_below u f.session.server f.session.client p.0 p.1 g.0 (shared_of f.session.client (ap holds client ∙ off)))
        ]
          where
            apart : {e : ℕ} → In_session q.session a ≡ In_leaf f.session.client e → ⊥
            apart e = cc

    behind_off : (place : OperandSlot) → is_own place ≡ false → server_at m.world x leaf place ≡ Some z → holds z ≡ false
    behind_off (Own a) own e = absurd (true≢false own)
    behind_off (Shared a) own e =
        session_off a (found_behind s sound holds P sections quiet_of m h z (In_session q.session a) (slot_at m.world (In_session q.session a)) refl
        (ap (λ o. server_at_slot_id m.world (slot_id_of x o (Shared a))) (sym current) ∙ e))
    behind_off Object own e =
        absurd (object_none s sound holds P sections quiet_of m h z q.session
        (found_behind s sound holds P sections quiet_of m h z (In_object q.session) (slot_at m.world (In_object q.session)) refl
        (ap (λ o. server_at_slot_id m.world (slot_id_of x o Object)) (sym current) ∙ e)))

    statement_off : (n : Instruction) → changes_own n ≡ false → OpensThere u d true n → asked_by u m.world x d leaf n ≡ Some z → holds z ≡ false
    statement_off (Open place service n) own there_z e = opened_off (there_z z e)
    statement_off (Upgrade place n) own there_z e = behind_off place own e
    statement_off (Call place) own there_z e = behind_off place own e
    statement_off (Close place) own there_z e = behind_off place own e
    statement_off _ own there_z e = absurd (none_some e)

    todo_off : (todo : Statements) → leaf.todo ≡ todo → AllAre (P x d (is_some leaf.current)) todo → next_asked u m.world x d leaf todo ≡ Some z
        → holds z ≡ false
    todo_off Done is_todo all e = absurd (none_some e)
    todo_off (If arm other rest) is_todo all e = absurd (none_some e)
    todo_off (Loop n body rest) is_todo all e = absurd (none_some e)
    todo_off (Do n rest) is_todo all e =
        statement_off n ((quiet s sound holds P sections quiet_of m h).keeps x leaf q n rest there current off is_todo)
        (subst (λ o. OpensThere u d (is_some o) n) current (opens_of x d (is_some leaf.current) n all.0)) e

    next_off : asks_next u m.world x (slice_get u.components x) (slice_get m.world.leaves x) ≡ Some z → holds z ≡ false
    next_off e =
        todo_off leaf.todo refl (h.left.at x leaf there d at_d).0 (sym (λ j. asks_next u m.world x (at_d j) (there j)) ∙ e)

  pub never_asks : (z : ℕ) → holds z ≡ true → asked_of (end s sound holds P sections quiet_of m h i x is) i z ≡ []
  never_asks z can = by (who_is (view m) i x is)
    where
      by : IsWorking (view m) i x ⊎ IsServing (view m) i x → asked_of (end s sound holds P sections quiet_of m h i x is) i z ≡ []
      by (inr p) = (ordered s sound holds P sections quiet_of m h i x is).quiet_then p z
      by (inl w) =
          let q = begun w.at.leaf w.at.there (active_at w.at.leaf.phase (goes_on (view m) h.held.calm i x w)) in
          not_named s sound holds P sections quiet_of m h i x is z
          (λ named. true≢false (sym can ∙ next_off w.at.leaf w.at.there q.0 q.1 z named))
