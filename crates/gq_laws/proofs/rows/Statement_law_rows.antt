-- What is taken for granted holds in a world of a worked run: a client is about to store into the buffer behind its link.
use Rattle.std.proofs.Common.{true, ap, ◌≡◌, ◌≢◌, ℕ, zero, suc, List, [], ◌∷◌, codes, replicate, Option, Some, None, refl, sym, subst, arith}
use Rattle.std.specs.Prelude.{slice_get}
use Rattle.gq_model.specs.declared.act.Act.TheVariants.{Turns}
use Rattle.gq_model.specs.machine.Amounts.{Amount, amount}
use Rattle.gq_model.specs.declared.phase.Phase.TheVariants.{Running, Blocked}
use Rattle.gq_model.specs.declared.program.Form.{Form}
use Rattle.gq_model.specs.declared.section.Section.TheVariants.{Main}
use Rattle.gq_model.specs.machine.Program.{Done}
use Rattle.gq_model.specs.machine.Scenario.{System, system}
use Rattle.gq_model.specs.machine.World.{Empty, Bytes, Link, SlotId, In_leaf, In_session, In_object, Session, Leaf, World, session_at, slot_at}
use Rattle.gq_model.specs.machine.Doing.{Doing}
use Rattle.gq_model.specs.machine.Memory.{buffer_of}
use Rattle.gq_model.specs.machine.Step.{perform}
use Rattle.gq_model.specs.machine.Run.{run}
use Rattle.gq_model.specs.rules.Use.{subject}
use Rattle.gq_model.specs.rules.Kinds.{Kind, Link_kind, Empty_kind, AbstractState, Context, no_kinds}
use Rattle.gq_model.specs.rules.Flow.{context, flow, state_or}
use Rattle.gq_model.proofs.Sample_scenarios.{good_log, log_client}
use Rattle.gq_laws.specs.Inside_steps.{IsSafe, TakesLeaf, Grants, LeadsOn}
use Rattle.gq_laws.specs.Shapes.{AreInputs}
use Rattle.gq_laws.specs.Typed.{AreKinds, IsLinkKind, HasBuffer, PromisesLinks, SharesBuffers, Meets}
use Rattle.gq_model.proofs.Small_facts.{some_same, none_some}
use Rattle.gq_laws.proofs.input_settings.Setting_keeps_invariants.{set_linked, submit_linked}
use Rattle.gq_laws.proofs.upheld_worlds.Reached_world_induction.{in_reached}
use Rattle.gq_laws.proofs.session_links.Linked_worlds.{kept_linked, start_linked}
use Rattle.gq_laws.specs.Session_links.{IsLinkedWorld}
use Rattle.gq_laws.proofs.statement_rules.Unblocked_names_nothing.{is_awake}
use Rattle.gq_laws.proofs.statement_rules.Control_statement_rules.{leads_on}
use Rattle.gq_laws.proofs.statement_rules.Statement_number_bounds.{zeros_bytes}
use Rattle.gq_laws.proofs.statement_rules.Stance_frame.{zeros}

abbrev log : System
log = system good_log

-- the client has opened its session and pushed two operands
abbrev w : World
w = (run log ((1, Turns 1) ∷ (0, Turns 4) ∷ (1, Turns 2) ∷ [])).world

linked : IsLinkedWorld log w
linked = in_reached good_log (IsLinkedWorld log) (kept_linked log) (set_linked log) (submit_linked log) (start_linked log) w (record {
  turns =
      (1, Turns 1) ∷ (0, Turns 4) ∷ (1, Turns 2) ∷ [];
  is = refl;
})

abbrev the : {A : Type 0} → A → Option A → A
the a None = a
the a (Some b) = b

abbrev client : Leaf
client =
    the (record {
      phase = Running;
      current = None;
      reacting = None;
      todo = Done;
      loops = [];
      operands = [];
      locals = [];
      slots = [];
      peaks = [];
      steps = 0;
      inputs = [];
      signals = [];
    })
    (slice_get w.leaves 1)

abbrev d : Doing
d = record {
  system = log;
  world = w;
  x = 1;
  component = the (record { label = []; node = log_client; levels = [] }) (slice_get log.components 1);
  leaf = client;
}

abbrev link : Kind
link = Link_kind (codes "log") 0 (amount 8192 0)

abbrev promised : ℕ → Option Kind
promised k = Some link

abbrev c : Context
c = context (subject log d.component) Main

abbrev state : AbstractState
state = record { own = link ∷ replicate 63 Empty_kind; bank = no_kinds; bounds = 77 ∷ 3 ∷ [] }

abbrev end : AbstractState
end = state_or state (flow c state client.todo)

takes : TakesLeaf d
takes = record { old = client; there = refl; slots = refl; phase = refl; current = refl; reacting = refl }

empties : (n : ℕ) → AreKinds promised (replicate n Empty) (replicate n Empty_kind)
empties zero = tt
empties (suc n) = (refl, empties n)

no_link : (n i k : ℕ) → slice_get (replicate n Empty) i ≢ Some (Link k)
no_link zero i k e = none_some e
no_link (suc n) zero k e = empty_link (some_same e)
  where
    empty_link : {k : ℕ} → Empty ≡ Link k → ⊥
    empty_link e = cc
no_link (suc n) (suc i) k e = no_link n i k e

meets : Meets promised c state w client
meets = record {
  own = (refl, empties 63);
  current = refl;
  bank = tt;
  operands = (omega arith, (omega arith, tt));
  locals = zeros 8 c.subject.program.locals refl;
  loops = tt;
}

-- a slot that leads to a session is the client's first, and the session is the first
one_link : (q : SlotId) (k : ℕ) → slot_at w q ≡ Some (Link k) → 0 ≡ k
one_link (In_leaf zero i) k e = absurd (no_link 64 i k e)
one_link (In_leaf (suc zero) zero) k e = number (some_same e)
  where
    number : {j k : ℕ} → Link j ≡ Link k → j ≡ k
    number e = cc
one_link (In_leaf (suc zero) (suc i)) k e = absurd (no_link 63 i k e)
one_link (In_leaf (suc (suc x)) i) k e = absurd (none_some e)
one_link (In_session zero zero) k e = absurd (bytes_link (some_same e))
  where
    bytes_link : {form : Form} {n : ℕ} {bytes : List ℕ} {k : ℕ} → Bytes form n bytes ≡ Link k → ⊥
    bytes_link e = cc
one_link (In_session zero (suc i)) k e = absurd (no_link 7 i k e)
one_link (In_session (suc j) i) k e = absurd (none_some e)
one_link (In_object zero) k e = absurd (bytes_link (some_same e))
  where
    bytes_link : {form : Form} {n : ℕ} {bytes : List ℕ} {k : ℕ} → Bytes form n bytes ≡ Link k → ⊥
    bytes_link e = cc
one_link (In_object (suc j)) k e = absurd (none_some e)

links : PromisesLinks promised w
links q k kind e is = subst IsLinkKind (some_same is) tt

-- the bytes behind it
abbrev first : Session
first = the (record {
  client = 0;
  slot_id = In_object 0;
  server = 0;
  service = [];
  level = 0;
  donation = amount 0 0;
  accepted = true;
  object = Empty;
  slots = [];
})
    (session_at w 0)

buffer : HasBuffer 16 first
buffer = record { bytes = replicate 4096 0; there = refl; count = refl; each = zeros_bytes 4096 }

shares : SharesBuffers log promised w
shares q k service level given e is more =
    let named : codes "log" ≡ service = same (some_same is) in
    subst (λ service. (s : Session) × (session_at w k ≡ Some s) × (s.service ≡ service) × HasBuffer (buffer_of log service) s) named
    (first, ap (session_at w) (sym (one_link q k e)), refl, buffer)
  where
    same : {s t : List ℕ} {l m : ℕ} {a b : Amount} → Link_kind s l a ≡ Link_kind t m b → s ≡ t
    same e = cc

grants : Grants promised c d
grants = record {
  interfaces = refl;
  provided = λ current s e. absurd (none_some e);
  links = links;
  buffers = shares;
  awake =
      is_awake d takes linked running;
  inputs = none;
}
  where
    running : Running ≢ Blocked
    running e = cc

    none : AreInputs [] d.leaf.inputs
    none i n e = absurd (none_some e)

-- so the client's step, which stores a byte, is not wrong but for want of quota, and leads on
goes : IsSafe (LeadsOn promised c state end d) (perform d client.todo)
goes = leads_on promised c d takes grants state end (tt, refl) meets (end, refl, refl)
