-- Who a session is opened for, as a statement opens it.
use Rattle.std.proofs.Common.{◌≡◌, ℕ, zero, suc, inl, inr, Bool, true, false, List, [], ◌∷◌, not, ◌&&◌, Option, Some, None, is_some, refl, ap, sym, ◌∙◌, subst}
use Rattle.std.specs.Prelude.{slice_get}
use Rattle.std.proofs.lemmas.Bool.{true≢false, or_cases}
use Rattle.gq_model.specs.declared.program.Instruction.TheVariants.{Open}
use Rattle.gq_model.specs.declared.program.OperandSlot.{OperandSlot}
use Rattle.gq_model.specs.declared.program.OperandSlot.TheVariants.{Own, Shared, Object}
use Rattle.gq_model.specs.declared.section.Section.{Section}
use Rattle.gq_model.specs.machine.Lists.{any_of}
use Rattle.gq_model.specs.machine.Program.{Statements, Done, Do, If, Loop}
use Rattle.gq_model.specs.machine.Routes.{server_of}
use Rattle.gq_model.specs.machine.Scenario.{System, Component}
use Rattle.gq_model.specs.machine.World.{SlotId, Session, Current, Leaf, session_at, slot_id_of}
use Rattle.gq_model.specs.machine.Sections.{is_own_section}
use Rattle.gq_model.specs.rules.Use.{services_of, services_in, is_there, uses}
use Rattle.gq_model.proofs.Small_facts.{none_some, some_same}
use Rattle.gq_laws.specs.Session_links.{stance, stance_in}
use Rattle.gq_laws.proofs.Outside_step_untouched.{outlined}
use Rattle.gq_races.specs.Races.{opens, opens_first, opens_later, changes_own}
use Rattle.gq_determined.specs.internal.Threads.{is_unshared, Starts, Tracked}
use Rattle.gq_determined.proofs.thread_positions.Single_thread_position.{root_at, IsOpened, IsTracked, busy_below}
use Rattle.gq_determined.proofs.thread_steps.Stateless_thread_agreement.{IsStateless}
use Rattle.gq_determined.proofs.thread_runs.Suitable_session_slots.{FirstSuited, FirstsSuited}
use Rattle.gq_determined.proofs.thread_runs.Raceless_first_statements.{opens_at, OpensThere, any_left, any_right}

-- a leaf that opens sessions with another uses it
opened_uses : (u : System) (x : ℕ) (c : Component) (test : Section → Bool) (sections : List (Section × Statements))
    → any_of (λ p. test p.0 && opens u x c p.1) sections ≡ true
    → any_of (λ service. is_there x (server_of u c service)) (services_in sections) ≡ true
opened_uses u x c test [] e = e
opened_uses u x c test (p ∷ rest) e = elim (or_cases (test p.0 && opens u x c p.1) (any_of (λ p. test p.0 && opens u x c p.1) rest) e) [
  | inl here ↦ any_left (λ service. is_there x (server_of u c service)) (services_of p.1) (services_in rest) (second (test p.0) (opens u x c p.1) here)
  | inr further ↦ any_right (λ service. is_there x (server_of u c service)) (services_of p.1) (services_in rest) (opened_uses u x c test rest further)
]
  where
    second : (a b : Bool) → (a && b) ≡ true → b ≡ true
    second true b e = e
    second false b e = absurd cc

pub there_uses : (u : System) (x : ℕ) (c : Component) (later : Bool) → opens_at u x c later ≡ true → uses u c x ≡ true
there_uses u x c false e = opened_uses u x c is_own_section c.node.program.sections e
there_uses u x c true e = opened_uses u x c (λ s. not (is_own_section s)) c.node.program.sections e

module _ (u : System) (g : Tracked) (t : IsTracked u g) (stateless : IsStateless u g.world) (x : ℕ) (c : Component) (at : slice_get u.components x ≡ Some c)
    (leaf : Leaf) (there : slice_get g.world.leaves x ≡ Some leaf) (place : OperandSlot) (service : List ℕ) (n : ℕ) (rest : Statements)
    (begins : leaf.todo ≡ Do (Open place service n) rest) (q : SlotId) (server : ℕ) where
  -- in `main`, for the leaf itself
  opened_first : (place : OperandSlot) → slot_id_of x None place ≡ Some q → opens_first u server c ≡ true → IsOpened u g.own g.root q x server
  opened_first (Own a) named opens = record {
    uses = (c, at, there_uses u server c false opens);
    n = zero;
    z = x;
    starts = (c, at, opens);
    is = subst (λ q. root_at g.own g.root q ≡ g.own x) (some_same named) refl;
  }
  opened_first (Shared a) named opens = absurd (none_some named)
  opened_first Object named opens = absurd (none_some named)

  -- in another section, for whoever the current session was opened for
  module _ (current : Current) (is : leaf.current ≡ Some current) (opens : opens_later u server c ≡ true) where
    handled : (s : Session) × (session_at g.world current.session ≡ Some s) × (s.server ≡ x)
    handled =
        let m = t.placed.linked.handles x leaf.phase current (ap stance_in there ∙ ap (λ o. Some (stance leaf.phase o)) is) in
        let s = outlined (session_at g.world current.session) m.0 m.1 in
        (s.0, s.1, ap (λ (s : Session). s.server) s.2 ∙ m.2)

    for : IsOpened u g.own g.root handled.0.slot_id handled.0.client handled.0.server
    for = t.stands current.session handled.0 handled.1

    root_is : g.root current.session ≡ g.own for.z
    root_is = t.placed.below current.session handled.0 handled.1 ∙ for.is

    own_is : (a : ℕ) → place ≡ Own a → (b : Bool) → is_unshared u x ≡ b → g.own x ≡ g.own for.z
    own_is a e true single =
        busy_below u g t x leaf.phase current (ap stance_in there ∙ ap (λ o. Some (stance leaf.phase o)) is) single ∙ root_is
    own_is a e false shared = absurd (true≢false (ap (λ p. changes_own (Open p service n)) (sym e)
        ∙ stateless.keeps x leaf current (Open place service n) rest there is shared begins))

    slot_id_is : (p : OperandSlot) → place ≡ p → slot_id_of x (Some current) p ≡ Some q → root_at g.own g.root q ≡ g.own for.z
    slot_id_is (Own a) e named = subst (λ q. root_at g.own g.root q ≡ g.own for.z) (some_same named) (own_is a e (is_unshared u x) refl)
    slot_id_is (Shared a) e named = subst (λ q. root_at g.own g.root q ≡ g.own for.z) (some_same named) root_is
    slot_id_is Object e named = subst (λ q. root_at g.own g.root q ≡ g.own for.z) (some_same named) root_is

    opened_later : slot_id_of x (Some current) place ≡ Some q → IsOpened u g.own g.root q x server
    opened_later named = record {
      uses = (c, at, there_uses u server c true opens);
      n = suc for.n;
      z = for.z;
      starts = (x, c, at, opens, subst (Starts u for.n for.z) handled.2 for.starts);
      is = slot_id_is place refl named;
    }

  opened_by : (current : Option Current) → leaf.current ≡ current → slot_id_of x current place ≡ Some q → opens_at u server c (is_some current) ≡ true
      → IsOpened u g.own g.root q x server
  opened_by None is named opens = opened_first place named opens
  opened_by (Some current) is named opens = opened_later current is opens named

-- what comes first, by whether it stands outside `main`
abbrev pub FirstOpens : System → Component → Bool → Statements → Type 0
FirstOpens u c later Done = Unit {0}
FirstOpens u c later (Do i rest) = OpensThere u c later i
FirstOpens u c later (If arm other rest) = Unit {0}
FirstOpens u c later (Loop n body rest) = Unit {0}

-- what comes first in each leaf opens sessions for someone
pub firsts_opened : (u : System) (g : Tracked) → IsTracked u g → IsStateless u g.world
    → ((x : ℕ) (c : Component) (leaf : Leaf) → slice_get u.components x ≡ Some c → slice_get g.world.leaves x ≡ Some leaf
    → FirstOpens u c (is_some leaf.current) leaf.todo)
    → FirstsSuited (IsOpened u g.own g.root) u g.world
firsts_opened u g t stateless opens x c leaf at there = by leaf.todo refl (opens x c leaf at there)
  where
    by : (todo : Statements) → leaf.todo ≡ todo → FirstOpens u c (is_some leaf.current) todo
        → FirstSuited (IsOpened u g.own g.root) (record {
          system = u;
          world = g.world;
          x = x;
          component = c;
          leaf = record leaf {
            steps = suc
                leaf.steps;
          };
        }) todo
    by Done e h = tt
    by (Do (Open place service n) rest) e h = λ q server named routed.
        opened_by u g t stateless x c at leaf there place service n rest e q server leaf.current refl named (h server routed)
    by (Do _ rest) e h = tt
    by (If arm other rest) e h = tt
    by (Loop n body rest) e h = tt
