-- A statement that asks something of a session keeps worlds typed, and only want of quota stops it.
use Rattle.std.proofs.Common.{◌≡◌, ◌≢◌, ℕ, Option, Some, Ok, sym, subst}
use Rattle.std.specs.Prelude.{slice_get}
use Rattle.gq_model.specs.declared.program.Instruction.{Instruction}
use Rattle.gq_model.specs.declared.phase.Phase.TheVariants.{Blocked}
use Rattle.gq_model.specs.machine.Program.{Statements, section_in}
use Rattle.gq_model.specs.machine.World.{World, section_of}
use Rattle.gq_model.specs.machine.Doing.{Doing, Event}
use Rattle.gq_model.specs.machine.Step.{section_for, instruct, level_then}
use Rattle.gq_model.specs.rules.Kinds.{Kind, AbstractState, Context}
use Rattle.gq_model.specs.rules.Rules.{judged}
use Rattle.gq_model.specs.rules.Flow.{flow, context, body, start_of}
use Rattle.gq_model.specs.rules.Use.{subject}
use Rattle.gq_laws.specs.Current_section_facts.{kind_replied, within, Continues}
use Rattle.gq_laws.specs.Session_links.{IsLinkedWorld}
use Rattle.gq_laws.specs.Typed.{Meets}
use Rattle.gq_laws.specs.Inside_steps.{TakesLeaf, Grants}
use Rattle.gq_laws.specs.Asking.{promised_anew, ReportsLinks, IsServed, IsWithin, Awaits}
use Rattle.gq_laws.specs.Typing.{Extra, IsTypedBy}
use Rattle.gq_laws.specs.internal.Carrying.{Carries}
use Rattle.gq_laws.proofs.typed_worlds.Asked_worlds.{asks_asked}
use Rattle.gq_laws.proofs.typed_worlds.Asked_services.{knows_service, resumes_at}
use Rattle.gq_laws.proofs.typed_worlds.Asked_rule_changes.{asked_reports}
use Rattle.gq_laws.proofs.typed_worlds.Asked_stands.{asked_stands}
use Rattle.gq_laws.proofs.typed_worlds.Asked_rests.{asked_fits, asked_requests}

module _ (promised : ℕ → Option Kind) (before after : Extra) (d : Doing) (carries : Carries d.x before after) (i : Instruction) (state new end : AbstractState)
    (t : TakesLeaf d) (h : IsLinkedWorld d.system d.world) (active : d.leaf.phase ≢ Blocked) (component : slice_get d.system.components d.x ≡ Some d.component)
    (typed : IsTypedBy promised before d.system d.world) (links : ReportsLinks promised d.world)
    (g : Grants promised (within (context (subject d.system d.component) (section_of d.leaf.current d.leaf.reacting)) d.leaf.loops) d) (served : IsServed d i)
    (m : Meets promised (within (context (subject d.system d.component) (section_of d.leaf.current d.leaf.reacting)) d.leaf.loops) state d.world d.leaf)
    (judge : judged (within (context (subject d.system d.component) (section_of d.leaf.current d.leaf.reacting)) d.leaf.loops) state i ≡ Ok new)
    (goes_on : Continues (context (subject d.system d.component) (section_of d.leaf.current d.leaf.reacting)) new d.leaf.todo d.leaf.loops end)
    (whole : flow (context (subject d.system d.component) (section_of d.leaf.current d.leaf.reacting))
    (start_of (subject d.system d.component) (section_of d.leaf.current d.leaf.reacting))
    (body (subject d.system d.component) (section_of d.leaf.current d.leaf.reacting)) ≡ Ok end)
    (listed : (list : Statements) × (section_in (section_of d.leaf.current d.leaf.reacting) d.component.node.program.sections ≡ Some list))
    (also : after d.x (section_of d.leaf.current d.leaf.reacting) new d.leaf.todo d.leaf.loops) where
  abbrev c : Context
  c = within (context (subject d.system d.component) (section_of d.leaf.current d.leaf.reacting)) d.leaf.loops

  pub after_typed : (w : World) (event : Event) → instruct d i ≡ Ok (w, event) → (b : Awaits promised c new i d w)
      → IsTypedBy (promised_anew promised b.k b.kind) after d.system w
  after_typed w event e b =
      let r = asks_asked promised c d i new t h active component w event e b in
      let a = r.0 in
      let knows = knows_service promised c d i state new t links g m judge b.k b.session w a in
      let resumes = resumes_at promised c d i state new t links g m judge b.k b.session w a in
      let promise = subst (λ ask. b.kind ≡ kind_replied (section_for ask (level_then ask b.session.level)) b.session) (sym r.1) b.promise in
      let argument = subst (IsWithin d.system b.session.service) (sym r.1) b.argument in
      let sessions = asked_fits promised b.kind d t h b.k b.session w i a knows typed.sessions in
      record {
        reports = asked_reports d t i b.k b.session w a promised b.kind promise typed.reports;
        leaves = asked_stands promised before after d carries t h i new end w b a goes_on whole listed resumes also component typed.leaves;
        sessions = sessions;
        requests = asked_requests promised b.kind d t h b.k b.session w i a knows (sessions b.k b.session b.found) argument typed.requests;
      }
