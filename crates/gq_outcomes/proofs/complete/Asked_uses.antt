-- The server that a leaf's next statement makes a request to is one that the leaf uses.
use Rattle.std.proofs.Common.{◌≡◌, inl, inr, ℕ, ◌&&◌, not, Bool, true, false, List, [], ◌∷◌, Option, Some, None}
use Rattle.std.proofs.Common.{refl, ap, sym, ◌∙◌, subst}
use Rattle.std.specs.Prelude.{is_some, slice_get}
use Rattle.std.proofs.lemmas.Bool.{true≢false, or_cases}
use Rattle.gq_model.specs.declared.program.Instruction.{Instruction}
use Rattle.gq_model.specs.declared.program.Instruction.TheVariants.{Open, Upgrade, Call, Close}
use Rattle.gq_model.specs.declared.program.OperandSlot.{OperandSlot}
use Rattle.gq_model.specs.declared.program.OperandSlot.TheVariants.{Own, Shared, Object}
use Rattle.gq_model.specs.declared.section.Section.{Section}
use Rattle.gq_model.specs.machine.Lists.{any_of}
use Rattle.gq_model.specs.machine.Program.{Statements, Done, Do, If, Loop}
use Rattle.gq_model.specs.machine.Routes.{server_of}
use Rattle.gq_model.specs.machine.Scenario.{Component, Scenario, System, system}
use Rattle.gq_model.specs.machine.World.{Current, In_leaf, In_object, In_session, Leaf, Session, SlotId, World, session_at, slot_at, slot_id_of}
use Rattle.gq_model.specs.machine.World.{Slot, Empty, Bytes, Pool, Link, Waiting}
use Rattle.gq_model.specs.machine.Sections.{is_own_section}
use Rattle.gq_model.specs.rules.Use.{is_there, services_in, services_of, uses}
use Rattle.gq_model.proofs.Small_facts.{none_some, some_same}
use Rattle.gq_laws.specs.Session_links.{Belongs, Handles, Leads, links, naming_in, outline, outline_in, stance, stance_in}
use Rattle.gq_laws.specs.Sound_scenarios.{IsSound}
use Rattle.gq_laws.specs.internal.Remaining_instructions.{AllAre}
use Rattle.gq_laws.specs.internal.Uncounted.{uncounted}
use Rattle.gq_laws.proofs.Outside_step_untouched.{outlined}
use Rattle.gq_laws.proofs.verified_programs.Use_chains.{Uses}
use Rattle.gq_determined.proofs.thread_runs.Raceless_first_statements.{OpensThere, any_left, any_right, opens_at}
use Rattle.gq_determined.proofs.thread_runs.Remaining_section_statements.{AreSections, Lefts}
use Rattle.gq_outcomes.specs.Choices.{asked_by, asks_next, next_asked, server_at_slot_id, server_behind, server_in}
use Rattle.gq_outcomes.proofs.complete.Held_worlds.{AreQuiet, Held}
use Rattle.gq_outcomes.proofs.complete.Alike_held.{IsGood}

right_true : (a b : Bool) → (a && b) ≡ true → b ≡ true
right_true true b e = e
right_true false b e = absurd (true≢false (sym e))

-- whoever opens sessions with a leaf in some sections uses it
opens_uses : (kind : Section → Bool) (test : List ℕ → Bool) (sections : List (Section × Statements))
    → any_of (λ (p : Section × Statements). kind p.0 && any_of test (services_of p.1)) sections ≡ true → any_of test (services_in sections) ≡ true
opens_uses kind test [] e = e
opens_uses kind test (p ∷ rest) e = elim (or_cases (kind p.0 && any_of test (services_of p.1))
    (any_of (λ (p : Section × Statements). kind p.0 && any_of test (services_of p.1)) rest) e) [
      | inl f ↦ any_left test (services_of p.1) (services_in rest) (right_true (kind p.0) (any_of test (services_of p.1)) f)
      | inr f ↦ any_right test (services_of p.1) (services_in rest) (opens_uses kind test rest f)
    ]

pub uses_at : (u : System) (z : ℕ) (d : Component) (later : Bool) → opens_at u z d later ≡ true → uses u d z ≡ true
uses_at u z d true e = opens_uses (λ p. not (is_own_section p)) (λ service. is_there z (server_of u d service)) d.node.program.sections e
uses_at u z d false e = opens_uses is_own_section (λ service. is_there z (server_of u d service)) d.node.program.sections e

module _ (s : Scenario) (sound : IsSound s) (holds : ℕ → Bool) (P : ℕ → Component → Bool → Instruction → Type 0)
    (sections : AreSections P (uncounted (system s))) (quiet_of : (w : World) → Lefts P (uncounted (system s)) w → AreQuiet holds w)
    (m : Held) (h : IsGood s sound holds P sections quiet_of m) (z : ℕ) where
  abbrev u : System
  u = uncounted (system s)

  -- a session with this server, behind a link in a slot
  pub record IsFound (slot : SlotId) : Type 0 where
    pub k : ℕ
    pub session : Session
    pub at : session_at m.world k ≡ Some session
    pub slot_is : session.slot_id ≡ slot
    pub server : session.server ≡ z

  pub found_behind : (slot : SlotId) (o : Option Slot) → slot_at m.world slot ≡ o → server_behind m.world o ≡ Some z → IsFound slot
  found_behind slot None e f = absurd (none_some f)
  found_behind slot (Some Empty) e f = absurd (none_some f)
  found_behind slot (Some (Bytes form n bytes)) e f = absurd (none_some f)
  found_behind slot (Some (Pool n entries)) e f = absurd (none_some f)
  found_behind slot (Some (Waiting k)) e f = absurd (none_some f)
  found_behind slot (Some (Link k)) e f =
      let p = h.held.placed.linked.named slot (Leads k) (ap naming_in e) in
      let t = outlined (session_at m.world k) p.0 p.1 in
      record {
        k = k;
        session = t.0;
        at = t.1;
        slot_is = ap (λ (s : Session). s.slot_id) t.2 ∙ p.2;
        server = some_same (sym (ap server_in t.1) ∙ f);
      }

  belongs : (slot : SlotId) (f : IsFound slot) → Belongs (links m.world) slot f.session.client
  belongs slot f =
      subst (λ slot. Belongs (links m.world) slot f.session.client) f.slot_is (h.held.placed.linked.belongs f.k (outline f.session) (ap outline_in f.at))

  -- in a slot of the current session its client is the leaf
  pub session_client : (x : ℕ) (leaf : Leaf) (q : Current) → slice_get m.world.leaves x ≡ Some leaf → leaf.current ≡ Some q → (a : ℕ)
      (f : IsFound (In_session q.session a)) → f.session.client ≡ x
  session_client x leaf q there current a f =
      let b = belongs (In_session q.session a) f in
      let r : Handles (links m.world) x q
      = h.held.placed.linked.handles x leaf.phase q (ap stance_in there ∙ ap (λ o. Some (stance leaf.phase o)) current) in
      sym b.3 ∙ (ap (λ (t : Session). t.server) (some_same (sym b.1 ∙ r.1)) ∙ r.2)

  -- a session's object has no link
  pub object_none : (k : ℕ) → IsFound (In_object k) → ⊥
  object_none k f = belongs (In_object k) f

  client_uses : (x : ℕ) (slot : SlotId) (f : IsFound slot) → f.session.client ≡ x → Uses u x z
  client_uses x slot f client =
      subst (λ x. Uses u x z) client (subst (λ z. Uses u f.session.client z) f.server (h.held.placed.uses f.k f.session f.at))

  module _ (opens_of : (x : ℕ) (c : Component) (later : Bool) (i : Instruction) → P x c later i → OpensThere (uncounted (system s)) c later i)
      (x : ℕ) (d : Component) (at_d : slice_get (uncounted (system s)).components x ≡ Some d) (leaf : Leaf)
      (there : slice_get m.world.leaves x ≡ Some leaf) where
    place_uses : (place : OperandSlot) (current : Option Current) → leaf.current ≡ current → server_at_slot_id m.world (slot_id_of x current place) ≡ Some z
        → Uses u x z
    place_uses (Own a) current e f =
        let g = found_behind (In_leaf x a) (slot_at m.world (In_leaf x a)) refl f in
        client_uses x (In_leaf x a) g (sym (belongs (In_leaf x a) g))
    place_uses (Shared a) None e f = absurd (none_some f)
    place_uses (Shared a) (Some q) e f =
        let g = found_behind (In_session q.session a) (slot_at m.world (In_session q.session a)) refl f in
        client_uses x (In_session q.session a) g (session_client x leaf q there e a g)
    place_uses Object None e f = absurd (none_some f)
    place_uses Object (Some q) e f = absurd (object_none q.session (found_behind (In_object q.session) (slot_at m.world (In_object q.session)) refl f))

    statement_uses : (n : Instruction) → OpensThere u d (is_some leaf.current) n → asked_by u m.world x d leaf n ≡ Some z → Uses u x z
    statement_uses (Open place service n) there_z e = (d, at_d, uses_at u z d (is_some leaf.current) (there_z z e))
    statement_uses (Upgrade place n) there_z e = place_uses place leaf.current refl e
    statement_uses (Call place) there_z e = place_uses place leaf.current refl e
    statement_uses (Close place) there_z e = place_uses place leaf.current refl e
    statement_uses _ there_z e = absurd (none_some e)

    todo_uses : (todo : Statements) → AllAre (P x d (is_some leaf.current)) todo → next_asked u m.world x d leaf todo ≡ Some z → Uses u x z
    todo_uses Done all e = absurd (none_some e)
    todo_uses (If arm other rest) all e = absurd (none_some e)
    todo_uses (Loop n body rest) all e = absurd (none_some e)
    todo_uses (Do n rest) all e = statement_uses n (opens_of x d (is_some leaf.current) n all.0) e

    pub next_uses : asks_next u m.world x (slice_get u.components x) (slice_get m.world.leaves x) ≡ Some z → Uses u x z
    next_uses e = todo_uses leaf.todo (h.left.at x leaf there d at_d).0 (sym (λ j. asks_next u m.world x (at_d j) (there j)) ∙ e)
