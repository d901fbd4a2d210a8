-- What holds of the world after an instruction, a reply and an accepted request, where it is known of each change that these make.
use Rattle.std.proofs.Common.{◌≡◌, ℕ, List, length, Option, Some, None, refl}
use Rattle.std.specs.Prelude.{slice_get, slice_set}
use Rattle.gq_model.specs.declared.program.OperandSlot.{OperandSlot}
use Rattle.gq_model.specs.declared.program.Instruction.{Instruction}
use Rattle.gq_model.specs.declared.program.Instruction.TheVariants.{Say, Operands, Open, Upgrade, Call}
use Rattle.gq_model.specs.declared.section.Section.{Section}
use Rattle.gq_model.specs.declared.section.Section.TheVariants.{Main, Opening, Upgrading, Calling, Closing, Reacting}
use Rattle.gq_model.specs.declared.phase.Phase.TheVariants.{Blocked}
use Rattle.gq_model.specs.declared.fault.Wrong.TheVariants.{WrongKind, ExceededQuota, MissingSection}
use Rattle.gq_model.specs.machine.Program.{section_in}
use Rattle.gq_model.specs.machine.World.{Slot, Empty, Waiting, Link, SlotId, Session, Ask, Ask_call, Request, Current, World, session_at}
use Rattle.gq_model.specs.machine.World.{slot_at, slot_id_of, with_leaf, with_slot}
use Rattle.gq_model.specs.machine.Sums.{paid}
use Rattle.gq_model.specs.machine.Doing.{Doing, Quiet, standing, with_operands, settled}
use Rattle.gq_model.specs.machine.Requests.{asked, open_session, upgrade, call}
use Rattle.gq_model.specs.machine.Step.{bench, instruct, all_empty, serving, unblocked, replied, reply_close, reply, accept, main_ended, section_ended}
use Rattle.gq_laws.proofs.step_shapes.Step_end_shapes.{Ends, gives, fails, need_ends, need_found, when_ends, pop_ends, push_ends, link_in_ends, absent_ends}
use Rattle.gq_laws.proofs.step_shapes.Step_end_shapes.{fill_ends}
use Rattle.gq_laws.proofs.step_shapes.Step_end_shapes.{bytes_in_ends, pool_in_ends}
use Rattle.gq_laws.proofs.step_shapes.Step_end_worlds.{closed, section_taken, taken}
use Rattle.gq_model.proofs.Operand_step_limits.{locals_left}
use Rattle.gq_model.specs.machine.World.{In_leaf, In_session, In_object, Leaf, put_leaf_slot, put_session_slot, put_object}

-- SLOTS

-- P does not speak of sessions, and a leaf may have other slots
module _ (P : World → Type 0)
    (leaves : (w : World) (x : ℕ) (leaf : Leaf) (slots : List Slot) → slice_get w.leaves x ≡ Some leaf → P w
    → P (with_leaf w x (record leaf { slots = slots })))
    (others : (w : World) (sessions : List (Option Session)) → P w → P (record w { sessions = sessions })) where
  pub slot_by : (w : World) (slot_id : SlotId) (slot : Slot) → P w → P (with_slot w slot_id slot)
  slot_by w (In_leaf x i) slot h = go (slice_get w.leaves x) refl
    where
      go : (o : Option Leaf) → slice_get w.leaves x ≡ o → P (put_leaf_slot w o x i slot)
      go None e = h
      go (Some leaf) e = leaves w x leaf (slice_set leaf.slots i slot) e h
  slot_by w (In_session k i) slot h = go (session_at w k)
    where
      go : (o : Option Session) → P (put_session_slot w o k i slot)
      go None = h
      go (Some s) = others w (slice_set w.sessions k (Some (record s { slots = slice_set s.slots i slot }))) h
  slot_by w (In_object k) slot h = go (session_at w k)
    where
      go : (o : Option Session) → P (put_object w o k slot)
      go None = h
      go (Some s) = others w (slice_set w.sessions k (Some (record s { object = slot }))) h

-- INSTRUCTIONS

-- Q holds of the world before the leaf stands in it anew, and P after that
module _ (d : Doing) (Q P : World → Type 0) (here : Q d.world) (writes : (w : World) (slot_id : SlotId) (slot : Slot) → Q w → Q (with_slot w slot_id slot))
    (written : (w : World) (slot_id : SlotId) (slot : Slot) → P w → P (with_slot w slot_id slot))
    (goes_on : (w : World) (operands locals : List ℕ) → length locals ≡ length d.leaf.locals → Q w
    → P (with_leaf w d.x (record d.leaf { operands = operands; locals = locals })))
    (blocks : (w : World) (operands : List ℕ) → Q w → P (with_leaf w d.x (record d.leaf { operands = operands; phase = Blocked })))
    (asks : (w : World) (requests : List Request) → P w → P (record w { requests = requests }))
    (settles : (w : World) → P w → Ends P (settled d.system d.x w)) where
  -- a request of the leaf with these operands
  asked_with : (operands : List ℕ) (w : World) (slot_id : SlotId) (k : ℕ) (ask : Ask) → Q w
      → Ends P (asked (record d { leaf = with_operands d operands }) w slot_id k ask)
  asked_with operands w slot_id k ask h =
      let leaf = record d.leaf { operands = operands; phase = Blocked } in
      when_ends P _ _ _ (gives _ _ (asks (with_slot (with_leaf w d.x leaf) slot_id (Waiting k)) _ (written _ slot_id (Waiting k) (blocks w operands h))))

  pub asked_by : (w : World) (slot_id : SlotId) (k : ℕ) (ask : Ask) → Q w → Ends P (asked d w slot_id k ask)
  asked_by w slot_id k ask h = asked_with d.leaf.operands w slot_id k ask h

  call_ends : (place : OperandSlot) → Ends P (call d place)
  call_ends place = pop_ends P _ _ (λ a rest. need_ends P (slot_id_of d.x d.leaf.current place) WrongKind _
      (λ slot_id. link_in_ends P d.world (slot_at d.world slot_id) _ (λ k s. asked_with rest d.world slot_id k (Ask_call a) here)))

  stands : (w : World) (operands : List ℕ) → Q w → P (with_leaf w d.x (record d.leaf { operands = operands }))
  stands w operands h = goes_on w operands d.leaf.locals refl h

  unchanged : P (standing d d.leaf)
  unchanged = stands d.world d.leaf.operands here

  pub instruct_by : (i : Instruction) → ((place : OperandSlot) (service : List ℕ) (n : ℕ) → i ≡ Open place service n → Ends P (open_session d place service n))
      → ((place : OperandSlot) (n : ℕ) → i ≡ Upgrade place n → Ends P (upgrade d place n)) → Ends P (instruct d i)
  instruct_by (Say text) opens upgrades = gives _ _ unchanged
  instruct_by (Operands s) opens upgrades = need_found P _ _ _
      (λ o at. gives _ _ (goes_on d.world o.operands o.locals ((locals_left (bench d) s).holds o at) here))
  instruct_by (Open place service n) opens upgrades = opens place service n refl
  instruct_by (Upgrade place n) opens upgrades = upgrades place n refl
  instruct_by (Call place) opens upgrades = call_ends place
  instruct_by i opens upgrades = search (
    need_ends,
    when_ends,
    pop_ends,
    push_ends,
    link_in_ends,
    absent_ends,
    fill_ends P P written,
    fill_ends P Q writes,
    bytes_in_ends P P written,
    bytes_in_ends P Q writes,
    pool_in_ends P P written,
    pool_in_ends P Q writes,
    gives,
    here,
    stands,
    unchanged,
    writes,
    written,
    settles,
    asked_by,
  ) depth 14

  -- where P does not speak of sessions
  module _ (others : (w : World) (sessions : List (Option Session)) → Q w → Q (record w { sessions = sessions })) where
    open_ends : (place : OperandSlot) (service : List ℕ) (n : ℕ) → Ends P (open_session d place service n)
    open_ends place service n = search (need_ends, fill_ends P Q writes, here, asked_by, others) depth 14

    upgrade_ends : (place : OperandSlot) (n : ℕ) → Ends P (upgrade d place n)
    upgrade_ends place n = search (need_ends, link_in_ends, here, asked_by, others) depth 14

    pub plain_instruct_by : (i : Instruction) → Ends P (instruct d i)
    plain_instruct_by i = instruct_by i (λ place service n e. open_ends place service n) (λ place n e. upgrade_ends place n)

-- REPLIES

module _ (d : Doing) (P : World → Type 0) (written : (w : World) (slot_id : SlotId) (slot : Slot) → P w → P (with_slot w slot_id slot))
    (serves : P (standing d (serving d.leaf))) (resumes : (w : World) (x : ℕ) (f : List ℕ → List ℕ) → P w → P (unblocked w x f))
    (closes : (w : World) (k : ℕ) → P w → P (record w { sessions = slice_set w.sessions k None })) where
  replied_ends : (k : ℕ) (s : Session) (f : List ℕ → List ℕ) → Ends P (replied d k s f)
  replied_ends k s f =
      gives (unblocked (with_slot (standing d (serving d.leaf)) s.slot_id (Link k)) s.client f) Quiet
      (resumes (with_slot (standing d (serving d.leaf)) s.slot_id (Link k)) s.client f (written (standing d (serving d.leaf)) s.slot_id (Link k) serves))

  close_ends : (k : ℕ) (s : Session) → Ends P (reply_close d k s)
  close_ends k s =
      let w = with_slot (standing d (serving d.leaf)) s.slot_id Empty in
      when_ends P (all_empty s.slots) WrongKind _ (when_ends P (paid d.system (closed d k s)) ExceededQuota _ (gives (closed d k s) Quiet
      (resumes (record w { sessions = slice_set w.sessions k None }) s.client (λ operands. operands)
      (closes w k (written (standing d (serving d.leaf)) s.slot_id Empty serves)))))

  pub reply_by : (k : ℕ) (section : Section) (s : Session) → Ends P (reply d k section s)
  reply_by k Main s = fails _
  reply_by k Opening s = when_ends P _ _ _ (replied_ends k s _)
  reply_by k (Upgrading l) s = replied_ends k s _
  reply_by k (Calling l) s = pop_ends P _ _ (λ a rest. replied_ends k s _)
  reply_by k (Closing l) s = close_ends k s
  reply_by k (Reacting i) s = fails _

  -- the end of a section, where the end of `main` is known
  pub section_by : Ends P (main_ended d d.component.node.provides d.component.node.signals) → (current : Option Current) (reacting : Option ℕ)
      → Ends P (section_ended d current reacting)
  section_by main None None = main
  section_by main None (Some i) = gives _ Quiet serves
  section_by main (Some current) reacting = need_ends P (session_at d.world current.session) WrongKind _ (reply_by current.session current.section)

-- REQUESTS THAT ARE ACCEPTED

pub accept_by : (P : World → Type 0) (d : Doing) (r : Request) (rest : List Request)
    → ((old : Session) → session_at d.world r.session ≡ Some old → P (taken d r rest old)) → Ends P (accept d r rest)
accept_by P d r rest h =
    need_found P (session_at d.world r.session) WrongKind _
    (λ old there. when_ends P (paid d.system (taken d r rest old)) ExceededQuota _
    (need_ends P (section_in (section_taken d r old) d.component.node.program.sections) MissingSection _
    (λ b. gives (taken d r rest old) Quiet (h old there))))
