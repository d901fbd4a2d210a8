-- What a statement asks of a session counts as one request for that section of that service.
use Rattle.std.proofs.Common.{◌≡◌, ℕ, suc, List, Option, Some, Ok, refl, ap, sym, ◌∙◌}
use Rattle.gq_model.specs.machine.Amounts.{Amount}
use Rattle.gq_model.specs.declared.program.OperandSlot.{OperandSlot}
use Rattle.gq_model.specs.declared.program.Instruction.{Instruction}
use Rattle.gq_model.specs.declared.program.Instruction.TheVariants.{Open, Upgrade, Call, Close}
use Rattle.gq_model.specs.declared.section.Section.{Section}
use Rattle.gq_model.specs.declared.section.Section.TheVariants.{Opening, Upgrading, Calling, Closing}
use Rattle.gq_model.specs.machine.World.{Session, Ask, World}
use Rattle.gq_model.specs.machine.Doing.{Doing}
use Rattle.gq_model.specs.machine.Step.{section_for, level_then}
use Rattle.gq_model.specs.rules.Kinds.{Kind, AbstractState, Context, kind_at}
use Rattle.gq_model.specs.rules.Rules.{link_kind, called, judge, judged}
use Rattle.gq_model.specs.rules.Budgets.{is_one, by_link, asks}
use Rattle.gq_laws.specs.Typed.{Meets}
use Rattle.gq_laws.specs.Inside_steps.{TakesLeaf, Grants}
use Rattle.gq_laws.specs.Asking.{ReportsLinks}
use Rattle.gq_laws.proofs.statement_rules.Ruled_step_shapes.{given_there, popped_there, judged_alone}
use Rattle.gq_laws.proofs.typed_worlds.Asked_worlds.{Asked}
use Rattle.gq_laws.proofs.typed_worlds.Asked_services.{linked_service}

module _ (promised : ℕ → Option Kind) (c : Context) (d : Doing) (t : TakesLeaf d) (reports : ReportsLinks promised d.world) (g : Grants promised c d)
    (state : AbstractState)
    (m : Meets promised c state d.world d.leaf) (service : List ℕ) (section : Section) where
  -- what is counted on the link is counted on the session
  on_link : (place : OperandSlot) (of : ℕ → Section) (l : List ℕ × ℕ × Amount) → link_kind (kind_at c state place) ≡ Some l → (s : Session) → l.0 ≡ s.service
      → l.1 ≡ s.level
      → by_link service section (link_kind (kind_at c state place)) of ≡ is_one service section s.service (of s.level)
  on_link place of l e s its at = ap (λ o. by_link service section o of) e ∙ (λ i. is_one service section (its i) (of (at i)))

  abbrev Counts : Instruction → Ask → Session → Type 0
  Counts i ask s = asks service section c state i ≡ is_one service section s.service (section_for ask (level_then ask s.level))

  counts_by : (i : Instruction) (k : ℕ) (s : Session) (w : World) (new : AbstractState) (a : Asked d i k s w) → judge c state i ≡ Ok new → Counts i a.ask s
  counts_by (Open place service' n) k s w new a e =
      (λ i. is_one service section (ap (λ (s : Session). s.service) (sym a.was.5) i) Opening)
      ∙ ap (λ ask. is_one service section s.service (section_for ask (level_then ask s.level))) (sym a.is)
  counts_by (Upgrade place n) k s w new a e =
      let l = given_there (link_kind (kind_at c state place)) _ _ new e in
      let old = a.was.0 in
      let is = linked_service promised c d t reports g state m place a.q k old a.slot_id a.was.3 a.was.2 l.0 l.1 in
      on_link place (λ l. Upgrading (suc l)) l.0 l.1 s (is.0 ∙ ap (λ (s : Session). s.service) (sym a.was.4)) (is.1
      ∙ ap (λ (s : Session). s.level) (sym a.was.4))
      ∙ ap (λ ask. is_one service section s.service (section_for ask (level_then ask s.level))) (sym a.is)
  counts_by (Call place) k s w new a e =
      let p = popped_there state (λ a t. called c t a place) new e in
      let taken : AbstractState = record state { bounds = p.1 } in
      let l = given_there (link_kind (kind_at c taken place)) _ _ new p.3 in
      let at : link_kind (kind_at c state place) ≡ Some l.0 = ap link_kind (same place p.1) ∙ l.1 in
      let is = linked_service promised c d t reports g state m place a.q k s a.slot_id a.was.1 a.was.0 l.0 at in
      on_link place (λ l. Calling l) l.0 at s is.0 is.1
      ∙ ap (λ ask. is_one service section s.service (section_for ask (level_then ask s.level))) (sym a.is.1)
    where
      same : (place : OperandSlot) (bounds : List ℕ) → kind_at c state place ≡ kind_at c (record state { bounds = bounds }) place
      same place bounds = refl
  counts_by (Close place) k s w new a e =
      let l = given_there (link_kind (kind_at c state place)) _ _ new e in
      let is = linked_service promised c d t reports g state m place a.q k s a.slot_id a.was.1 a.was.0 l.0 l.1 in
      on_link place (λ l. Closing l) l.0 l.1 s is.0 is.1
      ∙ ap (λ ask. is_one service section s.service (section_for ask (level_then ask s.level))) (sym a.is)
  counts_by _ k s w new a e = absurd a.was

-- the statement's requests are the one that it makes
pub asks_one : (promised : ℕ → Option Kind) (c : Context) (d : Doing) (i : Instruction) (state new : AbstractState) → TakesLeaf d → ReportsLinks promised
    d.world
    → Grants promised c d → Meets promised c state d.world d.leaf → judged c state i ≡ Ok new
    → (k : ℕ) (s : Session) (w : World) (a : Asked d i k s w) (service : List ℕ) (section : Section)
    → asks service section c state i ≡ is_one service section s.service (section_for a.ask (level_then a.ask s.level))
asks_one promised c d i state new t reports g m e k s w a service section =
    counts_by promised c d t reports g state m service section i k s w new a (judged_alone c state i new e)
