-- The world after a step is typed, and each leaf in a section is at one of the section's points with a covered session current at it.
use Rattle.std.proofs.Common.{◌≡◌, ◌≤◌, ℕ, false, List, [], Option, Some, Ok, refl, sym, ◌∙◌, subst, arith, None}
use Rattle.std.specs.Prelude.{slice_get}
use Rattle.gq_model.specs.declared.program.Instruction.{Instruction}
use Rattle.gq_model.specs.declared.section.Section.{Section}
use Rattle.gq_model.specs.declared.section.Section.TheVariants.{Reacting}
use Rattle.gq_model.specs.declared.phase.Phase.TheVariants.{Serving}
use Rattle.gq_model.specs.machine.Lists.{greatest}
use Rattle.gq_model.specs.machine.Program.{Statements, Do, section_in}
use Rattle.gq_model.specs.machine.Scenario.{System, Component}
use Rattle.gq_model.specs.machine.World.{Request, Signal, Round, World, section_of}
use Rattle.gq_model.specs.machine.Doing.{Doing, Event}
use Rattle.gq_model.specs.machine.Step.{oldest, accept, section_ended, section_for, instruct, level_then, take_signal}
use Rattle.gq_model.specs.rules.Kinds.{Kind, AbstractState, Context, Subject}
use Rattle.gq_model.specs.machine.Sections.{is_own_section, level_of}
use Rattle.gq_model.specs.rules.Rules.{judged}
use Rattle.gq_model.specs.rules.Flow.{points, context, body, start_of, section_end}
use Rattle.gq_model.specs.rules.Verdict.{program_fault}
use Rattle.gq_model.specs.rules.Use.{subject}
use Rattle.gq_laws.specs.Current_section_facts.{within, Continues}
use Rattle.gq_laws.specs.Session_links.{IsLinkedWorld}
use Rattle.gq_laws.specs.Typed.{Meets}
use Rattle.gq_laws.specs.Moves.{Moves, Does, Chooses, Enters, Repeats, Leaves}
use Rattle.gq_laws.specs.internal.Remaining.{left_points}
use Rattle.gq_laws.specs.Inside_steps.{TakesLeaf, LeadsOn, LeavesOthers}
use Rattle.gq_laws.specs.Asking.{IsServed, Awaits, promised_anew}
use Rattle.gq_laws.specs.Typing.{no_extra, IsTypedBy}
use Rattle.gq_laws.specs.internal.Carrying.{Carries}
use Rattle.gq_laws.specs.internal.Verified_holdings.{Covers, IsBounded}
use Rattle.gq_model.proofs.Small_facts.{some_same}
use Rattle.gq_laws.proofs.remaining_work.Section_move_cases.{chosen_is}
use Rattle.gq_laws.proofs.remaining_work.Move_keeps_points.{points_start, points_move}
use Rattle.gq_laws.proofs.verified_programs.Accepted_program_facts.{section_there}
use Rattle.gq_laws.proofs.verified_programs.Session_costs.{judged_covers, start_covers}
use Rattle.gq_laws.proofs.verified_programs.Sure_system_facts.{IsSure}
use Rattle.gq_laws.proofs.typed_worlds.Accepted_request_typed.{listed}
use Rattle.gq_laws.proofs.typed_worlds.Typed_world_step.{Acts, with_rest, goes_typed, asked_typed, taken_typed, reacted_typed, ended_typed}
use Rattle.gq_model.proofs.Rules_laws.{section_flows}

-- a move keeps a covered session covered
covers_move : (v : Subject) (section : Section) (s t : AbstractState) (todo left : Statements) (loops around : List Round) → is_own_section section ≡ false
    → Moves (context v section) s todo loops t left around → Covers v (level_of section) s.bank → Covers v (level_of section) t.bank
covers_move v section s t todo left loops around inner (Does i rest is judges goes_on same) h =
    judged_covers (within (context v section) loops) s t i inner judges
covers_move v section s t todo left loops around inner (Chooses arm other rest is from goes_on same) h =
    subst (λ (u : AbstractState). Covers v (level_of section) u.bank) (sym (chosen_is s t from)) h
covers_move v section s t todo left loops around inner (Enters n body rest is stays goes_on more) h =
    subst (λ (u : AbstractState). Covers v (level_of section) u.bank) (sym stays) h
covers_move v section s t todo left loops around inner (Repeats r outer is inside stays again goes_on more) h =
    subst (λ (u : AbstractState). Covers v (level_of section) u.bank) (sym stays) h
covers_move v section s t todo left loops around inner (Leaves r outer is inside stays goes_on out) h =
    subst (λ (u : AbstractState). Covers v (level_of section) u.bank) (sym stays) h

-- what is known of a leaf of this component
abbrev Bounded : System → Section → AbstractState → Statements → List Round → Component → Type 0
Bounded system section state todo loops c =
    ((f : AbstractState → ℕ) → greatest f (left_points (context (subject system c) section) state todo loops)
    ≤ greatest f (points (context (subject system c) section) (start_of (subject system c) section) (body (subject system c) section)))
    × (is_own_section section ≡ false → Covers (subject system c) (level_of section) state.bank)

pub bounded_moves : (system : System) (x : ℕ) (c : Component) (section : Section) (s t end : AbstractState) (todo left : Statements) (loops around : List Round)
    → slice_get system.components x ≡ Some c → Continues (context (subject system c) section) s todo loops end
    → Moves (context (subject system c) section) s todo loops t left around → IsBounded system x section s todo loops → IsBounded system x section t left around
bounded_moves system x c section s t end todo left loops around there goes moves h d placed =
    let b = h c there in
    subst (Bounded system section t left around) (some_same (sym there ∙ placed)) (
      λ f. (let more = points_move f (context (subject system c) section) s t end todo left loops around goes moves in let most = b.0 f in
          omega (arith, more, most)),
      λ inner. covers_move (subject system c) section s t todo left loops around inner moves (b.1 inner),
    )

pub bounded_start : (system : System) (x : ℕ) (c : Component) (section : Section) (list : Statements) → slice_get system.components x ≡ Some c
    → program_fault (subject system c) ≡ None → section_in section c.node.program.sections ≡ Some list
    → IsBounded system x section (start_of (subject system c) section) (body (subject system c) section) []
bounded_start system x c section list there faultless listed d placed =
    subst (Bounded system section (start_of (subject system c) section) (body (subject system c) section) []) (some_same (sym there ∙ placed)) (
      λ f. (let same = points_start f (context (subject system c) section) (start_of (subject system c) section) (body (subject system c) section) refl in
          omega (arith, same)),
      λ inner. start_covers (subject system c) section list faultless listed inner,
    )

module _ (promised : ℕ → Option Kind) (d : Doing) (sure : IsSure d.system) (takes : TakesLeaf d) (h : IsLinkedWorld d.system d.world)
    (t : IsTypedBy promised (IsBounded d.system) d.system d.world) (at : slice_get d.system.components d.x ≡ Some d.component) (w : World) where
  abbrev v : Subject
  v = subject d.system d.component

  abbrev c : Context
  c = context v (section_of d.leaf.current d.leaf.reacting)

  same : Carries d.x (IsBounded d.system) (IsBounded d.system)
  same y section state todo loops ne b = b

  pub goes_bounded : (a : Acts promised (IsBounded d.system) d) → LeavesOthers d w → LeadsOn promised c a.state a.end d w
      → IsTypedBy promised (IsBounded d.system) d.system w
  goes_bounded a others leads =
      goes_typed promised (IsBounded d.system) d sure takes h t at (IsBounded d.system) same w a others leads
      (bounded_moves d.system d.x d.component (section_of d.leaf.current d.leaf.reacting) a.state leads.state a.end d.leaf.todo leads.leaf.todo d.leaf.loops
      leads.leaf.loops at
      a.goes_on leads.moves a.also)

  pub asked_bounded : (a : Acts promised (IsBounded d.system) d) (i : Instruction) (rest : Statements) → d.leaf.todo ≡ Do i rest → IsServed (with_rest d rest) i
      → (new : AbstractState) → judged (within c d.leaf.loops) a.state i ≡ Ok new → Continues c new rest d.leaf.loops a.end
      → (event : Event) → instruct (with_rest d rest) i ≡ Ok (w, event) → (b : Awaits promised (within c d.leaf.loops) new i (with_rest d rest) w)
      → IsTypedBy (promised_anew promised b.k b.kind) (IsBounded d.system) d.system w
  asked_bounded a i rest first served new judges goes_on event is b =
      asked_typed promised (IsBounded d.system) d sure takes h t at (IsBounded d.system) same w a i rest served new judges goes_on event is b
      (bounded_moves d.system d.x d.component (section_of d.leaf.current d.leaf.reacting) a.state new a.end d.leaf.todo rest d.leaf.loops d.leaf.loops at
      a.goes_on
      (Does i rest first judges refl refl) a.also)

  pub taken_bounded : d.leaf.phase ≡ Serving → (r : Request) (rest : List Request) → oldest d.world d.x d.world.requests ≡ Some (r, rest) → (event : Event)
      → accept d r rest ≡ Ok (w, event) → IsTypedBy promised (IsBounded d.system) d.system w
  taken_bounded serves r rest first event is =
      taken_typed promised (IsBounded d.system) d sure takes h t at (IsBounded d.system) same w serves r rest first event is
      (λ old there.
      let l = listed promised (IsBounded d.system) no_extra d
      (λ y section state todo loops ne b. tt) sure takes h t at serves section_there section_flows r rest first old there tt in
      bounded_start d.system d.x d.component (section_for r.ask (level_then r.ask old.level)) l.0 at (sure.faultless d.x d.component at) l.1)

  pub reacted_bounded : d.leaf.phase ≡ Serving → (i : ℕ) (signals : List Signal) (event : Event) → take_signal d i signals ≡ Ok (w, event)
      → IsTypedBy promised (IsBounded d.system) d.system w
  reacted_bounded serves i signals event is =
      reacted_typed promised (IsBounded d.system) d sure takes h t at (IsBounded d.system) same w serves i signals event is
      (λ list listed. bounded_start d.system d.x d.component (Reacting i) list at (sure.faultless d.x d.component at) listed)

  pub ended_bounded : (a : Acts promised (IsBounded d.system) d) (last : AbstractState) → Meets promised c a.end d.world d.leaf
      → section_end v (section_of d.leaf.current d.leaf.reacting) a.end ≡ Ok last → (event : Event)
      → section_ended d d.leaf.current d.leaf.reacting ≡ Ok (w, event)
      → IsTypedBy promised (IsBounded d.system) d.system w
  ended_bounded a last meets ends event is = ended_typed promised (IsBounded d.system) d sure takes h t at
      (IsBounded d.system) same w d.leaf.current refl a last meets ends event is
