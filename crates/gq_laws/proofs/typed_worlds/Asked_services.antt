-- What the rules know of the service of a session that is asked.
use Rattle.std.proofs.Common.{◌≡◌, ℕ, ◌<◌, nat_lt, length, List, ◌∷◌, Option, Some, Ok, refl, ap, sym, ◌∙◌, subst}
use Rattle.std.specs.Prelude.{nat_le}
use Rattle.std.proofs.lemmas.Bool.{ltb-true}
use Rattle.gq_model.specs.machine.Amounts.{Amount}
use Rattle.gq_model.specs.declared.program.OperandSlot.{OperandSlot}
use Rattle.gq_model.specs.declared.program.Instruction.{Instruction}
use Rattle.gq_model.specs.declared.program.Instruction.TheVariants.{Open, Upgrade, Call, Close}
use Rattle.gq_model.specs.machine.Scenario.{System, Interface, interface_in, number_of}
use Rattle.gq_model.specs.machine.World.{Link, SlotId, Session, Ask, Ask_call, World, session_at, slot_at, slot_id_of}
use Rattle.gq_model.specs.machine.Doing.{Doing}
use Rattle.gq_model.specs.machine.Step.{section_for, level_then}
use Rattle.gq_model.specs.rules.Kinds.{Kind, Link_kind, AbstractState, Context, kind_at}
use Rattle.gq_model.specs.rules.Rules.{is_empty_kind, link_kind, may_change, called, judge, judged}
use Rattle.gq_laws.specs.Typed.{IsKind, Meets}
use Rattle.gq_laws.specs.Inside_steps.{TakesLeaf, Grants}
use Rattle.gq_laws.specs.Asking.{ReportsLinks, while_waiting, IsAsk}
use Rattle.gq_laws.specs.Reply_stances.{once_replied}
use Rattle.gq_model.proofs.Small_facts.{some_same}
use Rattle.gq_laws.proofs.statement_rules.Ruled_step_shapes.{given_there, popped_there, pushed_there, judged_alone}
use Rattle.gq_laws.proofs.statement_rules.Ruled_memory_there.{finds}
use Rattle.gq_laws.proofs.request_rules.Asking_statement_steps.{link_is, same_service, same_level}
use Rattle.gq_laws.proofs.typed_worlds.Asked_worlds.{Asked}
use Rattle.gq_model.proofs.Rules_laws.{must_holds}

-- an upgrade is to a level that the interface has
abbrev pub HasNext : Instruction → ℕ → Interface → Type 0
HasNext (Upgrade place n) level interface = level < length interface.upgrades
HasNext _ level interface = Unit {0}

-- what the statement's rule knows of the session's service
pub record KnowsService (system : System) (i : Instruction) (s : Session) : Type 0 where
  pub interface : Interface
  pub known : interface_in s.service system.interfaces ≡ Some interface
  pub next : HasNext i s.level interface

module _ (promised : ℕ → Option Kind) (c : Context) (d : Doing) (t : TakesLeaf d) (reports : ReportsLinks promised d.world) (g : Grants promised c d)
    (state : AbstractState)
    (m : Meets promised c state d.world d.leaf) where
  -- the link is of the session's service and level
  pub linked_service : (place : OperandSlot) (q : SlotId) (k : ℕ) (old : Session) → slot_id_of d.x d.leaf.current place ≡ Some q → slot_at d.world q ≡ Some
      (Link k)
      → session_at d.world k ≡ Some old
      → (l : List ℕ × ℕ × Amount) → link_kind (kind_at c state place) ≡ Some l → (l.0 ≡ old.service) × (l.1 ≡ old.level)
  linked_service place q k old slot_id link there l e =
      let kind : Kind = Link_kind l.0 l.1 l.2 in
      let f = finds promised c d t g state m place kind (link_is (kind_at c state place) l e) in
      let same : f.slot ≡ Link k = some_same (sym f.there ∙ (ap (slot_at d.world) (some_same (sym f.named ∙ slot_id)) ∙ link)) in
      let s = reports q k kind link (subst (λ slot. IsKind promised slot kind) same f.is) in
      let is = some_same (sym s.1 ∙ there) in
      (same_service s.2 ∙ ap (λ (s : Session). s.service) is, same_level s.2 ∙ ap (λ (s : Session). s.level) is)

  interface_there : (service other : List ℕ) (i : Interface) → service ≡ other → interface_in service c.subject.interfaces ≡ Some i
      → interface_in other d.system.interfaces ≡ Some i
  interface_there service other i same e = (λ j. interface_in (sym same j) (sym g.interfaces j)) ∙ e

  same_kind_at : (place : OperandSlot) (bounds : List ℕ) → kind_at c (record state { bounds = bounds }) place ≡ kind_at c state place
  same_kind_at place bounds = refl

  knows_by : (i : Instruction) (k : ℕ) (s : Session) (w : World) (new : AbstractState) → Asked d i k s w → judge c state i ≡ Ok new → KnowsService d.system i s
  knows_by (Open place service n) k s w new a e =
      let old = given_there (kind_at c state place) _ _ new e in
      let empty = must_holds (is_empty_kind old.0) _ _ new old.2 in
      let may = must_holds (may_change c place) _ _ new empty.1 in
      let i = given_there (interface_in service c.subject.interfaces) _ _ new may.1 in
      let same = ap (λ (s : Session). s.service) (sym a.was.5) in
      record { interface = i.0; known = interface_there service s.service i.0 same i.1; next = tt }
  knows_by (Upgrade place n) k s w new a e =
      let l = given_there (link_kind (kind_at c state place)) _ _ new e in
      let i = given_there (interface_in l.0.0 c.subject.interfaces) _ _ new l.2 in
      let level = must_holds (nat_lt l.0.1 (length i.0.upgrades)) _ _ new i.2 in
      let old = a.was.0 in
      let is = linked_service place a.q k old a.slot_id a.was.3 a.was.2 l.0 l.1 in
      record {
        interface = i.0;
        known = interface_there l.0.0 s.service i.0 (is.0 ∙ ap (λ (s : Session). s.service) (sym a.was.4)) i.1;
        next = subst (λ l. l < length i.0.upgrades) (is.1 ∙ ap (λ (s : Session). s.level) (sym a.was.4)) (ltb-true l.0.1 (length i.0.upgrades) level.0);
      }
  knows_by (Call place) k s w new a e =
      let p = popped_there state (λ a t. called c t a place) new e in
      let taken : AbstractState = record state { bounds = p.1 } in
      let l = given_there (link_kind (kind_at c taken place)) _ _ new p.3 in
      let i = given_there (interface_in l.0.0 c.subject.interfaces) _ _ new l.2 in
      let is = linked_service place a.q k s a.slot_id a.was.1 a.was.0 l.0 (ap link_kind (sym (same_kind_at place p.1)) ∙ l.1) in
      record { interface = i.0; known = interface_there l.0.0 s.service i.0 is.0 i.1; next = tt }
  knows_by (Close place) k s w new a e =
      let l = given_there (link_kind (kind_at c state place)) _ _ new e in
      let i = given_there (interface_in l.0.0 c.subject.interfaces) _ _ new l.2 in
      let is = linked_service place a.q k s a.slot_id a.was.1 a.was.0 l.0 l.1 in
      record { interface = i.0; known = interface_there l.0.0 s.service i.0 is.0 i.1; next = tt }
  knows_by _ k s w new a e = absurd a.was

  -- with the reply to a call the leaf stands at the state after the statement
  abbrev Resumed : Instruction → Ask → Session → AbstractState → Type 0
  Resumed i ask s new = new ≡ once_replied (number_of (interface_in s.service d.system.interfaces) (λ i. i.reply)) (section_for ask (level_then ask s.level))
      (while_waiting i new)

  resumed_by : (i : Instruction) (ask : Ask) → IsAsk i ask → (k : ℕ) (s : Session) (w : World) (new : AbstractState) → Asked d i k s w → judge c state i ≡ Ok
      new
      → Resumed i ask s new
  resumed_by (Open place service n) ask is k s w new a e =
      ap (λ ask. once_replied (number_of (interface_in s.service d.system.interfaces) (λ i. i.reply)) (section_for ask (level_then ask s.level)) new) (sym is)
  resumed_by (Upgrade place n) ask is k s w new a e = ap
      (λ ask. once_replied (number_of (interface_in s.service d.system.interfaces) (λ i. i.reply)) (section_for ask (level_then ask s.level)) new) (sym is)
  resumed_by (Close place) ask is k s w new a e = ap (λ ask.
      once_replied (number_of (interface_in s.service d.system.interfaces) (λ i. i.reply)) (section_for ask (level_then ask s.level)) new) (sym is)
  resumed_by (Call place) ask is k s w new a e =
      let p = popped_there state (λ a t. called c t a place) new e in
      let taken : AbstractState = record state { bounds = p.1 } in
      let l = given_there (link_kind (kind_at c taken place)) _ _ new p.3 in
      let i = given_there (interface_in l.0.0 c.subject.interfaces) _ _ new l.2 in
      let fits = must_holds (nat_le p.0 i.0.arg) _ _ new i.2 in
      let same = linked_service place a.q k s a.slot_id a.was.1 a.was.0 l.0 (ap link_kind (sym (same_kind_at place p.1)) ∙ l.1) in
      let most : ℕ = number_of (interface_in s.service d.system.interfaces) (λ i. i.reply) in
      let reply : i.0.reply ≡ most = ap (λ o. number_of o (λ i. i.reply)) (sym (interface_there l.0.0 s.service i.0 same.0 i.1)) in
      let stands : new ≡ record taken { bounds = i.0.reply ∷ p.1 } = (pushed_there i.0.reply taken new fits.1).1 in
      let after : Ask → AbstractState → AbstractState = λ ask new. once_replied most (section_for ask (level_then ask s.level))
      (while_waiting (Call place) new) in
      stands ∙ (ap (λ m. record taken { bounds = m ∷ p.1 }) reply ∙ (ap (after (Ask_call is.0)) (sym stands) ∙ ap (λ ask. after ask new) (sym is.1)))
  resumed_by _ ask is k s w new a e = absurd is

pub knows_service : (promised : ℕ → Option Kind) (c : Context) (d : Doing) (i : Instruction) (state new : AbstractState) → TakesLeaf d → ReportsLinks promised
    d.world
    → Grants promised c d → Meets promised c state d.world d.leaf → judged c state i ≡ Ok new
    → (k : ℕ) (s : Session) (w : World) → Asked d i k s w → KnowsService d.system i s
knows_service promised c d i state new t reports g m e k s w a = knows_by promised c d t reports g state m i k s w new a (judged_alone c state i new e)

pub resumes_at : (promised : ℕ → Option Kind) (c : Context) (d : Doing) (i : Instruction) (state new : AbstractState) → TakesLeaf d → ReportsLinks promised
    d.world
    → Grants promised c d → Meets promised c state d.world d.leaf → judged c state i ≡ Ok new
    → (k : ℕ) (s : Session) (w : World) (a : Asked d i k s w)
    → new ≡ once_replied (number_of (interface_in s.service d.system.interfaces) (λ i. i.reply)) (section_for a.ask (level_then a.ask s.level))
    (while_waiting i new)
resumes_at promised c d i state new t reports g m e k s w a = resumed_by promised c d t reports g state m i a.ask a.is k s w new a
    (judged_alone c state i new e)
