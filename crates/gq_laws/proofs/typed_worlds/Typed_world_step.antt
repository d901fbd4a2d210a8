-- What a step of an accepted scenario does in a typed world, and that only want of quota is wrong with it.
use Rattle.std.proofs.Common.{◌≡◌, ◌≢◌, ℕ, zero, suc, inl, inr, true, List, [], ◌∷◌, length, Option, Some, None, Ok, refl, ap, sym, ◌∙◌, subst, arith}
use Rattle.std.specs.Prelude.{slice_get}
use Rattle.gq_model.specs.declared.program.Instruction.{Instruction}
use Rattle.gq_model.specs.declared.program.Instruction.TheVariants.{Open, Upgrade, Call, Close}
use Rattle.gq_model.specs.declared.section.Section.{Section}
use Rattle.gq_model.specs.declared.section.Section.TheVariants.{Main, Opening, Upgrading, Calling, Closing, Reacting}
use Rattle.gq_model.specs.declared.phase.Phase.{Phase}
use Rattle.gq_model.specs.declared.phase.Phase.TheVariants.{Pending, Running, Blocked, Serving, Handling, Exited}
use Rattle.gq_model.specs.machine.Program.{Statements, Done, Do, If, Loop, section_in}
use Rattle.gq_model.specs.machine.Sections.{is_section}
use Rattle.gq_model.specs.machine.World.{Request, Current, Signal, Round, session_at, Session, World, own_section, section_of}
use Rattle.gq_model.specs.machine.Doing.{Doing, Idle, Quiet, Stepped, Event, standing}
use Rattle.gq_model.specs.declared.fault.Wrong.TheVariants.{MissingSection}
use Rattle.gq_model.specs.machine.Step.{oldest, perform, section_ended, body_ended, accept_oldest, step_in, accept, instruct, section_for, level_then}
use Rattle.gq_model.specs.machine.Step.{first_signal, take_signal, serve, serving}
use Rattle.gq_model.specs.rules.Kinds.{Kind, AbstractState, Context, Subject}
use Rattle.gq_model.specs.rules.Flow.{Flowed, flow, context, body, start_of, own_after, bank_at, section_end}
use Rattle.gq_model.specs.rules.Use.{subject}
use Rattle.gq_laws.specs.Current_section_facts.{counts_of, within, After, Continues}
use Rattle.gq_laws.specs.Shapes.{AreInputs}
use Rattle.gq_laws.specs.Session_links.{IsAt, Fits, stance, IsLinkedWorld}
use Rattle.gq_laws.specs.Typed.{AreKinds, IsCurrent, Meets}
use Rattle.gq_laws.specs.Section_rules.{IsReadyFor}
use Rattle.gq_laws.specs.internal.Remaining_instructions.{AllAre, IsGood}
use Rattle.gq_laws.specs.Inside_steps.{IsSafe, IsInside, TakesLeaf, LeadsOn, LeavesOthers}
use Rattle.gq_laws.specs.Asking.{IsServed, Awaits, promised_anew}
use Rattle.gq_laws.specs.Typing.{StandsBy, IsTypedBy, IsTyped, Extra, no_extra, IsInSection}
use Rattle.gq_laws.specs.internal.Carrying.{Carries}
use Rattle.gq_laws.proofs.statement_rules.Ruled_step_shapes.{safe_gives}
use Rattle.gq_laws.proofs.statement_rules.Statement_leaves_others.{keeps_to_itself}
use Rattle.gq_laws.proofs.statement_rules.Control_statement_rules.{leads_on}
use Rattle.gq_laws.proofs.reply_rules.Ruled_section_end.{ends_ruled}
use Rattle.gq_laws.proofs.reply_rules.Ruled_reaction_start.{reacts_ruled}
use Rattle.gq_laws.proofs.step_shapes.Step_end_shapes.{Ends, gives, need_found}
use Rattle.gq_laws.proofs.step_shapes.Signal_lists.{takes_first}
use Rattle.gq_laws.proofs.verified_programs.Accepted_program_facts.{section_there, reacting_there, bank_opened, bank_upgraded, bank_called, own_left, keeps_own}
use Rattle.gq_laws.proofs.verified_programs.Sure_system_facts.{IsSure}
use Rattle.gq_laws.proofs.statement_rules.Branch_loop_flow.{do_ok}
use Rattle.gq_laws.proofs.typed_worlds.Asked_typed.{after_typed}
use Rattle.gq_laws.proofs.typed_worlds.Accepted_request_typed.{accept_typed}
use Rattle.gq_laws.proofs.typed_worlds.Main_end_typed.{main_typed, serving_typed, stands_same, same_typed}
use Rattle.gq_laws.proofs.typed_worlds.Taken_signal_typed.{signal_typed}
use Rattle.gq_laws.proofs.typed_worlds.Typed_world_promises.{stood, grants, provided_current, reports_links}
use Rattle.gq_laws.proofs.session_links.Linked_after_reply.{session_of_outline}
use Rattle.gq_laws.proofs.typed_worlds.Inside_step_typed.{IsActive, typed_inside, active_awake}
use Rattle.gq_laws.proofs.typed_worlds.Reply_typed.{LeavesBank, its_level, replied_typed}
use Rattle.gq_laws.proofs.request_rules.Asking_statement_steps.{asks_ruled}
use Rattle.gq_model.specs.rules.Rules.{judged}
use Rattle.std.proofs.lemmas.Bool.{false≢true}
use Rattle.gq_model.proofs.Rules_laws.{section_flows}

-- WHAT COMES NEXT

-- a statement inside, the end of the section, or a statement that asks something of a session
pub data Comes (d : Doing) (todo : Statements) (loops : List Round) : Type 0 where
  Inside : (inside : IsInside todo loops) → Comes d todo loops
  At_end : (done : todo ≡ Done) (out : loops ≡ []) → Comes d todo loops
  Asks : (i : Instruction) (rest : Statements) (is : todo ≡ Do i rest) (served : IsServed (record d { leaf = record d.leaf { todo = rest } }) i)
      → Comes d todo loops

pub comes : (d : Doing) (todo : Statements) (loops : List Round) → AllAre (IsGood d.system d.component) todo → Comes d todo loops
comes d Done [] good = At_end refl refl
comes d Done (r ∷ loops) good = Inside tt
comes d (If arm other rest) loops good = Inside tt
comes d (Loop count body rest) loops good = Inside good.0
comes d (Do (Open place service n) rest) loops good = Asks (Open place service n) rest refl good.0.1
comes d (Do (Upgrade place n) rest) loops good = Asks (Upgrade place n) rest refl tt
comes d (Do (Call place) rest) loops good = Asks (Call place) rest refl tt
comes d (Do (Close place) rest) loops good = Asks (Close place) rest refl tt
comes d (Do i rest) loops good = Inside (tt, good.0.0)

same_state : {s u : AbstractState} → ◌≡◌ {A = Flowed} (Ok s) (Ok u) → s ≡ u
same_state e = cc

-- at the end of its statements a leaf stands at the end of its section
at_its_end : (c : Context) (state end : AbstractState) (todo : Statements) (loops : List Round) → todo ≡ Done → loops ≡ [] → Continues c state todo loops end
    → state ≡ end
at_its_end c state end todo loops done out h =
    let last = subst (λ t. (u : AbstractState) × (flow (within c []) state t ≡ Ok u) × After c [] u end) done (subst (λ l. Continues c state todo l end) out h)
    in
    same_state last.1 ∙ last.2

-- the bank that a section leaves
leaves_bank : (v : Subject) (section : Section) (end last : AbstractState) (level : ℕ) → is_section section ≡ true → IsAt section level
    → flow (context v section) (start_of v section) (body v section) ≡ Ok end → section_end v section end ≡ Ok last → LeavesBank v section end level
leaves_bank v Main end last level is at whole ends = absurd at
leaves_bank v Opening end last level is at whole ends = bank_opened v end whole ∙ ap (bank_at v) at
leaves_bank v (Upgrading zero) end last level is at whole ends = absurd (false≢true is)
leaves_bank v (Upgrading (suc l)) end last level is at whole ends = bank_upgraded v l end whole ∙ ap (bank_at v) at
leaves_bank v (Calling l) end last level is at whole ends = bank_called v l end last ends ∙ ap (bank_at v) at
leaves_bank v (Closing l) end last level is at whole ends = tt
leaves_bank v (Reacting i) end last level is at whole ends = absurd at

-- WHAT A STEP DOES

-- the leaf stands in a section, about to go on
pub record Acts (promised : ℕ → Option Kind) (before : Extra) (d : Doing) : Type 0 where
  pub active : IsActive d.leaf.phase
  pub good : AllAre (IsGood d.system d.component) d.leaf.todo
  pub inputs : AreInputs d.component.node.inputs d.leaf.inputs
  pub state : AbstractState
  pub end : AbstractState
  pub meets : Meets promised (within (context (subject d.system d.component) (section_of d.leaf.current d.leaf.reacting)) d.leaf.loops) state d.world d.leaf
  pub goes_on : Continues (context (subject d.system d.component) (section_of d.leaf.current d.leaf.reacting)) state d.leaf.todo d.leaf.loops end
  pub whole : flow (context (subject d.system d.component) (section_of d.leaf.current d.leaf.reacting))
      (start_of (subject d.system d.component) (section_of d.leaf.current d.leaf.reacting))
      (body (subject d.system d.component) (section_of d.leaf.current d.leaf.reacting)) ≡ Ok end
  pub listed : (list : Statements) × (section_in (section_of d.leaf.current d.leaf.reacting) d.component.node.program.sections ≡ Some list)
  pub also : before d.x (section_of d.leaf.current d.leaf.reacting) state d.leaf.todo d.leaf.loops

-- the same step once the statement is taken from the leaf
abbrev pub with_rest : Doing → Statements → Doing
with_rest d rest = record d { leaf = record d.leaf { todo = rest } }

-- nothing; a step inside a section; a statement that asks something of a session; a request that is taken up; the end of a section
pub data Outcome (promised : ℕ → Option Kind) (before : Extra) (d : Doing) (w : World) : Type 0 where
  Idles : (same : w ≡ d.world) → Outcome promised before d w
  Goes_on : (a : Acts promised before d) (inside : IsInside d.leaf.todo d.leaf.loops) (others : LeavesOthers d w)
      (leads : LeadsOn promised (context (subject d.system d.component) (section_of d.leaf.current d.leaf.reacting)) a.state a.end d w) (event : Event)
      (is : perform d d.leaf.todo ≡ Ok (w, event)) → Outcome promised before d w
  Has_asked : (a : Acts promised before d) (i : Instruction) (rest : Statements) (first : d.leaf.todo ≡ Do i rest) (served : IsServed (with_rest d rest) i)
      (new : AbstractState) (judges : judged (within (context (subject d.system d.component) (section_of d.leaf.current d.leaf.reacting)) d.leaf.loops) a.state
      i ≡ Ok new)
      (goes_on : Continues (context (subject d.system d.component) (section_of d.leaf.current d.leaf.reacting)) new rest d.leaf.loops a.end) (event : Event)
      (is : instruct (with_rest d rest) i ≡ Ok (w, event))
      (awaits : Awaits promised (within (context (subject d.system d.component) (section_of d.leaf.current d.leaf.reacting)) d.leaf.loops) new i
      (with_rest d rest) w)
      → Outcome promised before d w
  Has_taken : (serves : d.leaf.phase ≡ Serving) (r : Request) (rest : List Request) (first : oldest d.world d.x d.world.requests ≡ Some (r, rest))
      (event : Event) (is : accept d r rest ≡ Ok (w, event)) → Outcome promised before d w
  Has_reacted : (serves : d.leaf.phase ≡ Serving) (i : ℕ) (signals : List Signal) (first : first_signal d.leaf.signals ≡ Some (i, signals))
      (event : Event) (is : take_signal d i signals ≡ Ok (w, event)) → Outcome promised before d w
  Has_ended : (a : Acts promised before d) (done : d.leaf.todo ≡ Done) (out : d.leaf.loops ≡ []) (last : AbstractState)
      (meets : Meets promised (context (subject d.system d.component) (section_of d.leaf.current d.leaf.reacting)) a.end d.world d.leaf)
      (ends : section_end (subject d.system d.component) (section_of d.leaf.current d.leaf.reacting) a.end ≡ Ok last) (event : Event)
      (is : section_ended d d.leaf.current d.leaf.reacting ≡ Ok (w, event)) → Outcome promised before d w

module _ (promised : ℕ → Option Kind) (before : Extra) (d : Doing) (sure : IsSure d.system) (takes : TakesLeaf d) (h : IsLinkedWorld d.system d.world)
    (t : IsTypedBy promised before d.system d.world) (at : slice_get d.system.components d.x ≡ Some d.component) where
  abbrev v : Subject
  v = subject d.system d.component

  abbrev c : Context
  c = context v (section_of d.leaf.current d.leaf.reacting)

  abbrev Safe : Stepped → Type 0
  Safe r = IsSafe (Outcome promised before d) r

  idle : Safe (Ok (d.world, Idle))
  idle = safe_gives d.world Idle (Idles refl)

  pub fits : (current : Option Current) → d.leaf.current ≡ current → Fits d.leaf.phase current
  fits current mine = subst (Fits d.leaf.phase) mine (h.fits d.x (stance d.leaf.phase d.leaf.current) (stood d takes))

  pub not_blocked : IsActive d.leaf.phase → d.leaf.phase ≢ Blocked
  not_blocked active = active_awake d.leaf.phase active

  -- a leaf that serves has no current request
  pub serving_none : d.leaf.phase ≡ Serving → d.leaf.current ≡ None
  serving_none serves = by d.leaf.current refl
    where
      by : (o : Option Current) → d.leaf.current ≡ o → o ≡ None
      by None e = refl
      by (Some g) e = absurd (subst (λ p. Fits p (Some g)) serves (fits (Some g) e))

  pub handling : (g : Current) → d.leaf.current ≡ Some g → IsActive d.leaf.phase → d.leaf.phase ≡ Handling
  handling g mine (inl e) = absurd (subst (λ p. Fits p (Some g)) e (fits (Some g) mine))
  handling g mine (inr e) = e

  -- STATEMENTS

  module _ (a : Acts promised before d) where
    inside_safe : IsInside d.leaf.todo d.leaf.loops → Safe (perform d d.leaf.todo)
    inside_safe inside =
        let leads = leads_on promised c d takes (grants promised before d sure h t (section_of d.leaf.current d.leaf.reacting) [] takes (not_blocked a.active)
        at a.inputs)
        a.state a.end inside a.meets a.goes_on in
        record {
          ends = λ w event e. Goes_on a inside (keeps_to_itself d w event inside e) (leads.ends w event e) event e;
          short = leads.short;
        }

    end_safe : d.leaf.todo ≡ Done → d.leaf.loops ≡ [] → Safe (perform d d.leaf.todo)
    end_safe done out =
        let at_end = at_its_end c a.state a.end d.leaf.todo d.leaf.loops done out a.goes_on in
        let m : Meets promised c a.end d.world d.leaf = subst (λ s. Meets promised c s d.world d.leaf) at_end
        (subst (λ l. Meets promised (within c l) a.state d.world d.leaf) out a.meets) in
        let f = section_flows v (section_of d.leaf.current d.leaf.reacting) a.listed.0 (sure.faultless d.x d.component at) a.listed.1 in
        let ends : section_end v (section_of d.leaf.current d.leaf.reacting) a.end ≡ Ok f.1 =
        ap (section_end v (section_of d.leaf.current d.leaf.reacting)) (same_state (sym a.whole ∙ f.2)) ∙ f.3 in
        subst (λ todo. Safe (perform d todo)) (sym done) (subst (λ l. Safe (body_ended d l)) (sym out) (record {
          ends = λ w event e. Has_ended a done out f.1 m ends event e;
          short = λ wrong e. ends_ruled promised c d takes
              (grants promised before d sure h t (section_of d.leaf.current d.leaf.reacting) [] takes (not_blocked a.active) at a.inputs) refl
              a.end f.1 wrong m ends e;
        }))

    taken : (rest : Statements) → TakesLeaf (with_rest d rest)
    taken rest = record { old = takes.old; there = takes.there; slots = takes.slots; phase = takes.phase; current = takes.current; reacting = takes.reacting }

    meets_rest : (rest : Statements) → Meets promised (within c d.leaf.loops) a.state d.world (record d.leaf { todo = rest })
    meets_rest rest = record {
      own = a.meets.own;
      current = a.meets.current;
      bank = a.meets.bank;
      operands = a.meets.operands;
      locals = a.meets.locals;
      loops = a.meets.loops;
    }

    ask_safe : (i : Instruction) (rest : Statements) → d.leaf.todo ≡ Do i rest → IsServed (with_rest d rest) i → Safe (perform d d.leaf.todo)
    ask_safe i rest is served =
        let s = do_ok c a.state a.end i rest d.leaf.loops (subst (λ todo. Continues c a.state todo d.leaf.loops a.end) is a.goes_on) in
        let g = grants promised before (with_rest d rest) sure h t (section_of d.leaf.current d.leaf.reacting) (counts_of d.leaf.loops) (taken rest)
        (not_blocked a.active) at a.inputs in
        let r = asks_ruled promised (within c d.leaf.loops) (with_rest d rest) (taken rest) h
        (reports_links promised d.system d.world h t.reports) g a.state s.0 i served (meets_rest rest) s.1 in
        subst (λ todo. Safe (perform d todo)) (sym is) (record {
          ends = λ w event e. Has_asked a i rest is served s.0 s.1 s.2 event e (r.ends w event e);
          short = r.short;
        })

    performs : Safe (perform d d.leaf.todo)
    performs = by (comes d d.leaf.todo d.leaf.loops a.good)
      where
        by : Comes d d.leaf.todo d.leaf.loops → Safe (perform d d.leaf.todo)
        by (Inside inside) = inside_safe inside
        by (At_end done out) = end_safe done out
        by (Asks i rest is served) = ask_safe i rest is served

  -- SIGNALS

  -- the own slots of a leaf that serves are as `main` left them
  pub own_rests : d.leaf.phase ≡ Serving → AreKinds promised d.leaf.slots (own_after v)
  own_rests serves = subst (λ slots. AreKinds promised slots (own_after v)) (sym takes.slots)
      (subst (StandsBy promised before d.system d.world d.x d.component takes.old) (sym takes.phase ∙ serves)
      (t.leaves d.x d.component takes.old at takes.there))

  -- it takes a signal for which its program has a section
  pub ready_for : d.leaf.phase ≡ Serving → length d.leaf.signals ≡ d.component.node.signals → (i : ℕ) (signals : List Signal)
      → first_signal d.leaf.signals ≡ Some (i, signals) → IsReadyFor promised v i d
  ready_for serves many i signals first = record {
    own = own_rests serves;
    current = serving_none serves;
    body = reacting_there v i (sure.faultless d.x d.component at) (sure.signals d.x d.component at)
        (let less = (takes_first d.leaf.signals (i, signals) first).below in omega (arith, less, many));
  }

  reacts : d.leaf.phase ≡ Serving → length d.leaf.signals ≡ d.component.node.signals → (i : ℕ) (signals : List Signal)
      → first_signal d.leaf.signals ≡ Some (i, signals) → Safe (take_signal d i signals)
  reacts serves many i signals first = record {
    ends = λ w event e. Has_reacted serves i signals first event e;
    short = (reacts_ruled promised d takes i signals (sure.locals d.x d.component at) (ready_for serves many i signals first)).short;
  }

  -- REQUESTS

  accepts : d.leaf.phase ≡ Serving → Safe (accept_oldest d (oldest d.world d.x d.world.requests))
  accepts serves = by (oldest d.world d.x d.world.requests) refl
    where
      by : (p : Option (Request × List Request)) → oldest d.world d.x d.world.requests ≡ p → Safe (accept_oldest d p)
      by None e = idle
      by (Some p) e = record {
        ends = λ w event f. Has_taken serves p.0 p.1 e event f;
        short = (accept_typed promised before no_extra d (λ y section state todo loops ne b. tt) sure takes h t at serves section_there section_flows p.0 p.1
            e (λ old there. tt)).short;
      }

  acting : AllAre (IsGood d.system d.component) d.leaf.todo → AreInputs d.component.node.inputs d.leaf.inputs → IsActive d.leaf.phase → (phase : Phase)
      → (s : IsInSection promised before d.system d.world d.x d.component d.leaf phase (section_of d.leaf.current d.leaf.reacting)) → s.next ≡ s.state
      → Safe (perform d d.leaf.todo)
  acting good inputs active phase s from =
      performs (record {
        active = active;
        good = good;
        inputs = inputs;
        state = s.state;
        end = s.end;
        meets = s.meets;
        goes_on = subst (λ st. Continues c st d.leaf.todo d.leaf.loops s.end) from s.goes_on;
        whole = s.whole;
        listed = s.listed;
        also = subst (λ st. before d.x (section_of d.leaf.current d.leaf.reacting) st d.leaf.todo d.leaf.loops) from s.also;
      })

  serves_safe : d.leaf.phase ≡ Serving → length d.leaf.signals ≡ d.component.node.signals → (found : Option (ℕ × List Signal))
      → first_signal d.leaf.signals ≡ found → Safe (serve d found)
  serves_safe serves many None e = accepts serves
  serves_safe serves many (Some p) e = reacts serves many p.0 p.1 e

  pub outcome : AllAre (IsGood d.system d.component) d.leaf.todo → AreInputs d.component.node.inputs d.leaf.inputs
      → length d.leaf.signals ≡ d.component.node.signals
      → StandsBy promised before d.system d.world d.x d.component d.leaf d.leaf.phase
      → Safe (step_in d d.leaf.phase)
  outcome good inputs many stands = by d.leaf.phase refl stands
    where
      by : (phase : Phase) → d.leaf.phase ≡ phase → StandsBy promised before d.system d.world d.x d.component d.leaf phase → Safe (step_in d phase)
      by Pending e s = idle
      by Running e s = acting good inputs (inl e) Running s s.from
      by Blocked e s = idle
      by Serving e s = serves_safe e many (first_signal d.leaf.signals) refl
      by Handling e s = acting good inputs (inr e) Handling s s.from
      by Exited e s = idle

  -- THE WORLD AFTER IT

  module _ (after : Extra) (carries : Carries d.x before after) (w : World) where
    pub goes_typed : (a : Acts promised before d) → LeavesOthers d w → (leads : LeadsOn promised c a.state a.end d w)
        → after d.x (section_of d.leaf.current d.leaf.reacting) leads.state leads.leaf.todo leads.leaf.loops → IsTypedBy promised after d.system w
    goes_typed a others leads also = typed_inside promised before after d carries takes h t at a.active w others a.state a.end leads a.whole a.listed also

    pub asked_typed : (a : Acts promised before d) (i : Instruction) (rest : Statements) → IsServed (with_rest d rest) i → (new : AbstractState)
        → judged (within c d.leaf.loops) a.state i ≡ Ok new → Continues c new rest d.leaf.loops a.end
        → (event : Event) → instruct (with_rest d rest) i ≡ Ok (w, event) → (b : Awaits promised (within c d.leaf.loops) new i (with_rest d rest) w)
        → after d.x (section_of d.leaf.current d.leaf.reacting) new rest d.leaf.loops → IsTypedBy (promised_anew promised b.k b.kind) after d.system w
    asked_typed a i rest served new judges goes_on event is b also =
        after_typed promised before after (with_rest d rest) carries i a.state new a.end (taken a rest) h (not_blocked a.active) at t
        (reports_links promised d.system d.world h t.reports)
        (grants promised before (with_rest d rest) sure h t (section_of d.leaf.current d.leaf.reacting) (counts_of d.leaf.loops) (taken a rest)
        (not_blocked a.active) at
        a.inputs)
        served
        (meets_rest a rest) judges goes_on a.whole a.listed also w event is b

    pub taken_typed : d.leaf.phase ≡ Serving → (r : Request) (rest : List Request) → oldest d.world d.x d.world.requests ≡ Some (r, rest) → (event : Event)
        → accept d r rest ≡ Ok (w, event)
        → ((old : Session) → session_at d.world r.session ≡ Some old
        → after d.x (section_for r.ask (level_then r.ask old.level)) (start_of v (section_for r.ask (level_then r.ask old.level)))
        (body v (section_for r.ask (level_then r.ask old.level))) []) → IsTypedBy promised after d.system w
    taken_typed serves r rest first event is also = (accept_typed promised before after d carries sure takes h t at serves section_there section_flows r rest
        first also).ends w event is

    pub reacted_typed : d.leaf.phase ≡ Serving → (i : ℕ) (signals : List Signal) → (event : Event) → take_signal d i signals ≡ Ok (w, event)
        → ((list : Statements) → section_in (Reacting i) d.component.node.program.sections ≡ Some list
        → after d.x (Reacting i) (start_of v (Reacting i)) (body v (Reacting i)) []) → IsTypedBy promised after d.system w
    reacted_typed serves i signals event is also = by.holds w event is
      where
        by : Ends (IsTypedBy promised after d.system) (take_signal d i signals)
        by = need_found (IsTypedBy promised after d.system) (section_in (Reacting i) d.component.node.program.sections) MissingSection _
            (λ list listed. gives _ Quiet (
            let flow = section_flows v (Reacting i) list (sure.faultless d.x d.component at) listed in
            signal_typed promised before after d carries takes t at (sure.locals d.x d.component at) i signals
            (record { own = own_rests serves; current = serving_none serves; body = (list, listed) }) flow.0 flow.2 (also list listed)))

    -- the end of a section of the leaf's own
    own_typed : d.leaf.current ≡ None → (reacting : Option ℕ) (end : AbstractState) → Meets promised (context v (own_section reacting)) end d.world d.leaf
        → flow (context v (own_section reacting)) (start_of v (own_section reacting)) (body v (own_section reacting)) ≡ Ok end → (event : Event)
        → section_ended d None reacting ≡ Ok (w, event) → IsTypedBy promised after d.system w
    own_typed mine None end meets whole event is = main_typed promised before after d carries takes t at mine end meets whole w event is
    own_typed mine (Some i) end meets whole event is =
        (gives {P = IsTypedBy promised after d.system} (standing d (serving d.leaf)) Quiet (serving_typed promised before after d carries takes t at mine
        (subst (AreKinds promised d.leaf.slots) (own_left v (Reacting i) end refl whole) meets.own))).holds w event is

    pub ended_typed : (current : Option Current) → d.leaf.current ≡ current → (a : Acts promised before d) (last : AbstractState)
        → Meets promised c a.end d.world d.leaf
        → section_end v (section_of d.leaf.current d.leaf.reacting) a.end ≡ Ok last → (event : Event)
        → section_ended d d.leaf.current d.leaf.reacting ≡ Ok (w, event)
        → IsTypedBy promised after d.system w
    ended_typed None mine a last meets ends event is =
        own_typed mine d.leaf.reacting a.end
        (subst (λ o. Meets promised (context v (section_of o d.leaf.reacting)) a.end d.world d.leaf) mine meets)
        (subst (λ o. flow (context v (section_of o d.leaf.reacting)) (start_of v (section_of o d.leaf.reacting))
        (body v (section_of o d.leaf.reacting)) ≡ Ok a.end) mine a.whole) event
        (subst (λ o. section_ended d o d.leaf.reacting ≡ Ok (w, event)) mine is)
    ended_typed (Some g) mine a last meets ends event is =
        let handles = handling g mine a.active in
        let handled = h.handles d.x d.leaf.phase g (stood d takes ∙ ap (λ o. Some (stance d.leaf.phase o)) mine) in
        let s = session_of_outline (session_at d.world g.session) handled.0 handled.1 in
        let m : Meets promised (context v g.section) a.end d.world d.leaf =
        subst (λ o. Meets promised (context v (section_of o d.leaf.reacting)) a.end d.world d.leaf) mine meets in
        let whole : flow (context v g.section) (start_of v g.section) (body v g.section) ≡ Ok a.end =
        subst (λ o. flow (context v (section_of o d.leaf.reacting)) (start_of v (section_of o d.leaf.reacting)) (body v (section_of o d.leaf.reacting)) ≡ Ok
        a.end) mine a.whole in
        let listed = subst (λ o. (list : Statements) × (section_in (section_of o d.leaf.reacting) d.component.node.program.sections ≡ Some list)) mine a.listed
        in
        let last_is = subst (λ o. section_end v (section_of o d.leaf.reacting) a.end ≡ Ok last) mine ends in
        let own = own_left v g.section a.end (keeps_own g.section (subst (λ o. IsCurrent g.section o d.leaf.reacting) mine m.current).1) whole in
        let bank = leaves_bank v g.section a.end last s.0.level (sure.sections d.x d.component g.section listed.0 at listed.1)
        (its_level promised before d sure takes h t at handles g s.0 mine s.1) whole last_is in
        let provided = sym (provided_current promised before d.system sure d.world h t d.x d.component d.leaf.phase d.leaf.current at
        (stood d takes) g s.0 mine s.1).1 in
        replied_typed promised before d sure takes h t at handles g s.0 mine s.1 after carries a.end last m own bank provided last_is w event is

  -- with nothing else known, the world is typed
  pub outcome_typed : (w : World) → Outcome promised before d w → IsTyped d.system w
  outcome_typed w o = by o
    where
      none : Carries d.x before no_extra
      none y section state todo loops ne b = tt

      by : Outcome promised before d w → IsTyped d.system w
      by (Idles same) = (
        promised,
        subst (IsTypedBy promised no_extra d.system) (sym same)
            (same_typed promised d.system d.world d.world (record { sessions = λ k. refl; requests = refl; all_current = λ k y. refl }) before no_extra t
            (λ x c leaf placed there. stands_same promised d.system d.world d.world
            (record { sessions = λ k. refl; requests = refl; all_current = λ k y. refl }) x c leaf leaf.phase before no_extra (λ section state todo loops b. tt)
            (t.leaves x c leaf placed there))),
      )
      by (Goes_on a inside others leads event is) = (promised, goes_typed no_extra none w a others leads tt)
      by (Has_asked a i rest first served new judges goes_on event is awaits) =
          (promised_anew promised awaits.k awaits.kind, asked_typed no_extra none w a i rest served new judges goes_on event is awaits tt)
      by (Has_taken serves r rest first event is) = (promised, taken_typed no_extra none w serves r rest first event is (λ old there. tt))
      by (Has_reacted serves i signals first event is) = (promised, reacted_typed no_extra none w serves i signals event is (λ list listed. tt))
      by (Has_ended a done out last meets ends event is) = (promised, ended_typed no_extra none w d.leaf.current refl a last meets ends event is)
