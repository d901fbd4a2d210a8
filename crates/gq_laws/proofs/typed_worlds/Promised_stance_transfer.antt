-- What is promised of sessions, and how leaves stand, from one world to another.
use Rattle.std.proofs.Common.{◌≡◌, ℕ, ◌+◌, ◌==◌, cond, Bool, true, false, List, [], ◌∷◌, Option, Some, None, refl, ap, sym, ◌∙◌, arith}
use Rattle.std.specs.Prelude.{slice_get}
use Rattle.gq_model.specs.machine.Lists.{or_first}
use Rattle.gq_model.specs.declared.section.Section.{Section}
use Rattle.gq_model.specs.declared.section.Section.TheVariants.{Main, Opening, Upgrading, Calling, Closing, Reacting}
use Rattle.gq_model.specs.declared.phase.Phase.{Phase}
use Rattle.gq_model.specs.declared.phase.Phase.TheVariants.{Pending, Running, Blocked, Serving, Handling, Exited}
use Rattle.gq_model.specs.machine.Program.{Statements}
use Rattle.gq_model.specs.machine.Scenario.{System, Component}
use Rattle.gq_model.specs.machine.World.{Session, Request, Current, Round, Leaf, World, section_of}
use Rattle.gq_model.specs.machine.Step.{section_for, level_then}
use Rattle.gq_model.specs.rules.Kinds.{Kind, AbstractState, Context}
use Rattle.gq_model.specs.rules.Flow.{own_after}
use Rattle.gq_model.specs.rules.Use.{subject}
use Rattle.gq_laws.specs.Current_section_facts.{section_waiting, section_if, current_section, section_asked}
use Rattle.gq_laws.specs.Session_links.{one_if, requests_of, by_current, at_current, stance_in, links, pending_of}
use Rattle.gq_laws.specs.Typed.{AreKinds, Meets}
use Rattle.gq_laws.specs.Inside_steps.{bare}
use Rattle.gq_laws.specs.Typing.{Extra, kind_then, IsAwaited, GoesOnFrom, IsInSection, StandsBy}

-- SESSIONS WITH THE SAME PARTS

kind_bare : (o : Option Section) (s : Session) → kind_then (bare s) o ≡ kind_then s o
kind_bare None s = refl
kind_bare (Some Main) s = refl
kind_bare (Some Opening) s = refl
kind_bare (Some (Upgrading l)) s = refl
kind_bare (Some (Calling l)) s = refl
kind_bare (Some (Closing l)) s = refl
kind_bare (Some (Reacting i)) s = refl

-- what is in a session's slots bears on no promise
pub kind_same : (o : Option Section) (s t : Session) → bare t ≡ bare s → kind_then t o ≡ kind_then s o
kind_same o s t e = sym (kind_bare o t) ∙ (ap (λ u. kind_then u o) e ∙ kind_bare o s)

-- REQUESTS OF A SESSION

pub waiting_same : (k : ℕ) (s t : Session) (rs : List Request) → t.level ≡ s.level → section_waiting k t rs ≡ section_waiting k s rs
waiting_same k s t [] e = refl
waiting_same k s t (r ∷ rs) e =
    ap (λ l. cond (r.session == k) (Some (section_for r.ask (level_then r.ask l))) (section_waiting k t rs)) e
    ∙ ap (cond (r.session == k) (Some (section_for r.ask (level_then r.ask s.level)))) (waiting_same k s t rs e)

-- the same requests and the same section current at the server ask for the same section
pub asked_same : (v w : World) (k : ℕ) (s t : Session) → t.level ≡ s.level → t.server ≡ s.server → w.requests ≡ v.requests
    → current_section k (slice_get w.leaves s.server) ≡ current_section k (slice_get v.leaves s.server) → section_asked w k t ≡ section_asked v k s
asked_same v w k s t level server requests current =
    ap (λ o. or_first o (current_section k (slice_get w.leaves t.server))) (waiting_same k s t w.requests level ∙ ap (section_waiting k s) requests)
    ∙ ap (or_first (section_waiting k s v.requests)) (ap (λ y. current_section k (slice_get w.leaves y)) server ∙ current)

pub waiting_none : (k : ℕ) (s : Session) (rs : List Request) → requests_of k rs ≡ 0 → section_waiting k s rs ≡ None
waiting_none k s [] e = refl
waiting_none k s (r ∷ rs) e = by (r.session == k) e (λ f. waiting_none k s rs f)
  where
    by : (b : Bool) → one_if b + requests_of k rs ≡ 0 → (requests_of k rs ≡ 0 → section_waiting k s rs ≡ None)
        → cond b (Some (section_for r.ask (level_then r.ask s.level))) (section_waiting k s rs) ≡ None
    by true f further = absurd (omega (arith, f))
    by false f further = further (omega (arith, f))

if_none : (k : ℕ) (current : Option Current) → by_current k current ≡ 0 → section_if k current ≡ None
if_none k None e = refl
if_none k (Some current) e = by (current.session == k) e
  where
    by : (b : Bool) → one_if b ≡ 0 → cond b (Some current.section) None ≡ None
    by true f = absurd (omega (arith, f))
    by false f = refl

pub current_none : (k : ℕ) (o : Option Leaf) → at_current k (stance_in o) ≡ 0 → current_section k o ≡ None
current_none k None e = refl
current_none k (Some leaf) e = if_none k leaf.current e

-- a session without request is asked for nothing
pub none_asked : (w : World) (k : ℕ) (s : Session) → pending_of (links w) k s ≡ 0 → section_asked w k s ≡ None
none_asked w k s e =
    ap (λ o. or_first o (current_section k (slice_get w.leaves s.server))) (waiting_none k s w.requests (omega (arith, e)))
    ∙ current_none k (slice_get w.leaves s.server) (omega (arith, e))

pub if_here : (k : ℕ) (current : Current) → (current.session == k) ≡ true → section_if k (Some current) ≡ Some current.section
if_here k current e = ap (λ b. cond b (Some current.section) None) e

-- LEAVES THAT STAND ELSEWHERE

module _ (p q : ℕ → Option Kind) (before after : Extra) (system : System) (v w : World) (x : ℕ) (c : Component) (leaf : Leaf)
    (meets : (e : Context) (state : AbstractState) → Meets p e state v leaf → Meets q e state w leaf)
    (kinds : (ks : List Kind) → AreKinds p leaf.slots ks → AreKinds q leaf.slots ks)
    (awaited : (state next : AbstractState) → IsAwaited system v x state next → IsAwaited system w x state next)
    (carries : (section : Section) (state : AbstractState) (todo : Statements) (loops : List Round) → before x section state todo loops
    → after x section state todo loops) where
  goes_on_from : (phase : Phase) (state next : AbstractState) → GoesOnFrom system v x phase state next → GoesOnFrom system w x phase state next
  goes_on_from Pending state next h = h
  goes_on_from Running state next h = h
  goes_on_from Blocked state next h = awaited state next h
  goes_on_from Serving state next h = h
  goes_on_from Handling state next h = h
  goes_on_from Exited state next h = h

  in_section_else : (phase : Phase) (section : Section) → IsInSection p before system v x c leaf phase section
      → IsInSection q after system w x c leaf phase section
  in_section_else phase section h =
      record {
        state = h.state;
        next = h.next;
        end = h.end;
        meets = meets _ h.state h.meets;
        from = goes_on_from phase h.state h.next h.from;
        goes_on = h.goes_on;
        whole = h.whole;
        listed = h.listed;
        also = carries section h.next leaf.todo leaf.loops h.also;
      }

  -- a leaf stands in another world where it stood, if its slots and the session current at it do
  pub stands_else : (phase : Phase) → StandsBy p before system v x c leaf phase → StandsBy q after system w x c leaf phase
  stands_else Pending h = in_section_else Pending (section_of leaf.current leaf.reacting) h
  stands_else Running h = in_section_else Running (section_of leaf.current leaf.reacting) h
  stands_else Blocked h = in_section_else Blocked (section_of leaf.current leaf.reacting) h
  stands_else Serving h = kinds (own_after (subject system c)) h
  stands_else Handling h = in_section_else Handling (section_of leaf.current leaf.reacting) h
  stands_else Exited h = h
