-- What is taken for granted of a reply holds in a world of a worked run: a server is at the end of its section `open`, and its client waits.
use Rattle.std.proofs.Common.{true, ◌≡◌, ℕ, zero, suc, [], ◌∷◌, codes, replicate, Option, Some, None, refl}
use Rattle.std.specs.Prelude.{slice_get}
use Rattle.gq_model.specs.machine.Amounts.{amount}
use Rattle.gq_model.specs.declared.act.Act.TheVariants.{Turns}
use Rattle.gq_model.specs.declared.phase.Phase.TheVariants.{Running}
use Rattle.gq_model.specs.declared.program.Form.TheVariants.{Space}
use Rattle.gq_model.specs.declared.section.Section.TheVariants.{Main, Opening}
use Rattle.gq_model.specs.machine.Program.{Done}
use Rattle.gq_model.specs.machine.Scenario.{System, system}
use Rattle.gq_model.specs.machine.World.{Empty, In_object, Session, Current, Leaf, World, session_at}
use Rattle.gq_model.specs.machine.Doing.{Doing, Quiet}
use Rattle.gq_model.specs.machine.Run.{run}
use Rattle.gq_model.specs.rules.Use.{subject}
use Rattle.gq_model.specs.rules.Kinds.{Kind, Link_kind, Memory, Empty_kind, AbstractState, Context, no_kinds}
use Rattle.gq_model.specs.rules.Flow.{context}
use Rattle.gq_model.proofs.Sample_scenarios.{good_log, log_client}
use Rattle.gq_laws.specs.Session_links.{IsLinkedWorld}
use Rattle.gq_laws.specs.Typed.{AreKinds, Meets}
use Rattle.gq_laws.specs.Inside_steps.{TakesLeaf}
use Rattle.gq_laws.specs.Reply_stances.{HasEnded, Replies, Resumes}
use Rattle.gq_laws.proofs.upheld_worlds.Reached_world_induction.{in_reached}
use Rattle.gq_laws.proofs.input_settings.Setting_keeps_invariants.{set_linked, submit_linked}
use Rattle.gq_laws.proofs.session_links.Linked_worlds.{kept_linked, start_linked}
use Rattle.gq_laws.proofs.statement_rules.Statement_number_bounds.{zeros_bytes}
use Rattle.gq_laws.proofs.statement_rules.Stance_frame.{zeros}
use Rattle.gq_laws.proofs.reply_rules.World_after_reply.{replies_ruled}
use Rattle.gq_laws.proofs.reply_rules.Stance_after_reply.{resumes_ruled}

abbrev log : System
log = system good_log

-- the server has made the buffer; then its section ends
abbrev v : World
v = (run log ((1, Turns 1) ∷ (0, Turns 3) ∷ [])).world

abbrev w : World
w = (run log ((1, Turns 1) ∷ (0, Turns 4) ∷ [])).world

linked : IsLinkedWorld log v
linked = in_reached good_log (IsLinkedWorld log) (kept_linked log) (set_linked log) (submit_linked log) (start_linked log) v (record {
  turns =
      (1, Turns 1) ∷ (0, Turns 3) ∷ [];
  is = refl;
})

abbrev the : {A : Type 0} → A → Option A → A
the a None = a
the a (Some b) = b

abbrev none : Leaf
none =
    record {
      phase = Running;
      current = None;
      reacting = None;
      todo = Done;
      loops = [];
      operands = [];
      locals = [];
      slots = [];
      peaks = [];
      steps = 0;
      inputs = [];
      signals = [];
    }

-- the leaf at the fourth step, which is counted
abbrev server : Leaf
server = let leaf = the none (slice_get v.leaves 0) in record leaf { steps = suc leaf.steps }

abbrev d : Doing
d = record {
  system = log;
  world = v;
  x = 0;
  component = the (record { label = []; node = log_client; levels = [] }) (slice_get log.components 0);
  leaf = server;
}

abbrev g : Current
g = record { session = 0; section = Opening }

abbrev s : Session
s = the (record {
  client = 0;
  slot_id = In_object 0;
  server = 0;
  service = [];
  level = 0;
  donation = amount 0 0;
  accepted = true;
  object = Empty;
  slots = [];
})
    (session_at v 0)

abbrev promised : ℕ → Option Kind
promised k = Some (Link_kind (codes "log") 0 (amount 8192 0))

abbrev c : Context
c = context (subject log d.component) Opening

abbrev state : AbstractState
state = record { own = replicate 64 Empty_kind; bank = Memory Space 16 ∷ replicate 7 Empty_kind; bounds = [] }

takes : TakesLeaf d
takes = record { old = the none (slice_get v.leaves 0); there = refl; slots = refl; phase = refl; current = refl; reacting = refl }

empties : (n : ℕ) → AreKinds promised (replicate n Empty) (replicate n Empty_kind)
empties zero = tt
empties (suc n) = (refl, empties n)

ended : HasEnded promised c state d g s w
ended =
    record {
      meets =
          record {
            own = empties 64;
            current = (refl, refl);
            bank = (s, refl, record { slots = ((refl, refl, zeros_bytes 4096), empties 7); object = (refl, refl, zeros_bytes 0) });
            operands = tt;
            locals = zeros 8 c.subject.program.locals refl;
            loops = tt;
          };
      last = state;
      ends = refl;
      at_current = refl;
      there = refl;
      event = Quiet;
      ended = refl;
    }

-- so the world is as reported
is_replied : Replies promised c state d g s w
is_replied = replies_ruled promised c d takes linked refl state g s w ended

resumes : Resumes promised c d g s w
resumes = resumes_ruled promised c d takes linked refl state g s w ended refl

-- the client, whose first slot waited, stands in it with its link
abbrev client : Leaf
client = the none (slice_get v.leaves 1)

abbrev e : Context
e = context (subject log (the (record { label = []; node = log_client; levels = [] }) (slice_get log.components 1))) Main

abbrev linked_state : AbstractState
linked_state = record { own = Link_kind (codes "log") 0 (amount 8192 0) ∷ replicate 63 Empty_kind; bank = no_kinds; bounds = [] }

waited : Meets promised e linked_state v client
waited = record { own = (refl, empties 63); current = refl; bank = tt; operands = tt; locals = zeros 8 e.subject.program.locals refl; loops = tt }

stands : (leaf : Leaf) × (slice_get w.leaves 1 ≡ Some leaf) × Meets promised e linked_state w leaf
stands = resumes.client e linked_state client refl waited
