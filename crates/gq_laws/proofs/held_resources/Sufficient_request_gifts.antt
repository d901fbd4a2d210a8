-- What is given with a request to open a session, or to upgrade it, is enough for its level.
use Rattle.std.proofs.Common.{◌≡◌, ℕ, suc, ◌<◌, ◌≤◌, inl, inr, List, [], ◌∷◌, ◌++◌, length, Option, Some, None, Ok, refl, ap, sym, ◌∙◌, subst, arith}
use Rattle.std.specs.Prelude.{slice_get, slice_index_or}
use Rattle.std.proofs.lemmas.Bool.Decides.{eqb_tells}
use Rattle.gq_model.specs.machine.Amounts.{Resource, Amount, amount, part, plus}
use Rattle.gq_model.specs.declared.program.OperandSlot.{OperandSlot}
use Rattle.gq_model.specs.declared.program.Instruction.{Instruction}
use Rattle.gq_model.specs.declared.program.Instruction.TheVariants.{Open, Upgrade, Call, Close}
use Rattle.gq_model.specs.declared.phase.Phase.TheVariants.{Blocked}
use Rattle.gq_model.specs.declared.fault.Wrong.TheVariants.{ExceededQuota, WrongKind}
use Rattle.gq_model.specs.machine.Scenario.{Interface, interface_in, open_caps, upgrade_caps}
use Rattle.gq_model.specs.machine.World.{Slot, Link, Waiting, SlotId, In_leaf, In_session, In_object, Session, Ask, Ask_open, Ask_upgrade, Request, Leaf, World}
use Rattle.gq_model.specs.machine.World.{joined, session_at, with_leaf, with_session, slot_at, with_slot, put_leaf_slot, put_session_slot, put_object}
use Rattle.gq_model.specs.machine.World.{slot_id_of}
use Rattle.gq_model.specs.machine.Doing.{Doing, Event, Quiet}
use Rattle.gq_model.specs.machine.Routes.{server_of}
use Rattle.gq_model.specs.machine.Sums.{paid}
use Rattle.gq_model.specs.machine.Requests.{asked, add_session, free_place, new_session, open_session, upgrade}
use Rattle.gq_model.specs.machine.Step.{instruct}
use Rattle.gq_model.specs.rules.Kinds.{Kind, Link_kind, AbstractState, Context, kind_at, need_of}
use Rattle.gq_model.specs.rules.Rules.{link_kind, judged}
use Rattle.gq_laws.specs.internal.Lending.{given_by}
use Rattle.gq_laws.specs.Typed.{IsKind, Meets}
use Rattle.gq_laws.specs.Inside_steps.{TakesLeaf, Grants}
use Rattle.gq_laws.specs.Asking.{ReportsLinks, IsAsk}
use Rattle.gq_laws.proofs.step_shapes.Step_end_shapes.{Ends, gives, need_found, when_ends}
use Rattle.gq_model.proofs.Small_facts.{some_same}
use Rattle.gq_laws.proofs.session_links.Written_world_links.{session_here, session_else, slot_requests}
use Rattle.gq_laws.proofs.session_links.Linked_after_request.{link_found}
use Rattle.gq_laws.proofs.session_links.Linked_after_open.{fill_found, free_slot, add_here}
use Rattle.gq_laws.proofs.statement_rules.Ruled_step_shapes.{given_there, judged_alone}
use Rattle.gq_laws.proofs.statement_rules.Ruled_memory_there.{finds}
use Rattle.gq_laws.proofs.request_rules.Asking_statement_steps.{link_is, same_service, same_level}
use Rattle.gq_laws.proofs.verified_programs.Session_costs.{need_next, need_first, open_pays, upgrade_pays}
use Rattle.gq_laws.proofs.held_resources.Session_cost_parts.{IsGiven}
use Rattle.gq_laws.proofs.verified_programs.Session_costs.{part_plus}

-- WHAT IS GIVEN

given_put : (r : Resource) (w : World) (k : ℕ) (s t : Session) → session_at w k ≡ Some t → s.donation ≡ t.donation → (j : ℕ)
    → given_by r (session_at (with_session w k s) j) ≡ given_by r (session_at w j)
given_put r w k s t there same j =
    elim (eqb_tells j k) [
      | inl f ↦ (ap (λ j. given_by r (session_at (with_session w k s) j)) f.1
          ∙ (ap (given_by r) (session_here w k t s there) ∙ (ap (part r) same
          ∙ (sym (ap (given_by r) there) ∙ ap (λ j. given_by r (session_at w j)) (sym f.1)))))
      | inr f ↦ ap (given_by r) (session_else w k j s f.1)
    ]

-- a slot that is written changes nothing of it
given_slot : (r : Resource) (w : World) (q : SlotId) (slot : Slot) (j : ℕ) → given_by r (session_at (with_slot w q slot) j) ≡ given_by r (session_at w j)
given_slot r w (In_leaf x i) slot j = by (slice_get w.leaves x)
  where
    by : (o : Option Leaf) → given_by r (session_at (put_leaf_slot w o x i slot) j) ≡ given_by r (session_at w j)
    by None = refl
    by (Some leaf) = refl
given_slot r w (In_session k i) slot j = by (session_at w k) refl
  where
    by : (o : Option Session) → session_at w k ≡ o → given_by r (session_at (put_session_slot w o k i slot) j) ≡ given_by r (session_at w j)
    by None e = refl
    by (Some s) e = given_put r w k _ s e refl j
given_slot r w (In_object k) slot j = by (session_at w k) refl
  where
    by : (o : Option Session) → session_at w k ≡ o → given_by r (session_at (put_object w o k slot) j) ≡ given_by r (session_at w j)
    by None e = refl
    by (Some s) e = given_put r w k _ s e refl j

-- so much was given for session k with the statement
abbrev pub HowGiven : Doing → Instruction → World → ℕ → Type 0
HowGiven d (Open place service n) w k = (r : Resource) → given_by r (session_at w k) ≡ part r (amount n (open_caps (interface_in service d.system.interfaces)))
HowGiven d (Upgrade place n) w k =
    (old : Session) × (session_at d.world k ≡ Some old) × ((r : Resource)
    → given_by r (session_at w k) ≡ part r (plus old.donation (amount n (upgrade_caps (interface_in old.service d.system.interfaces) old.level))))
HowGiven d i w k = Unit {0}

-- and its request is the last
abbrev HasGiven : Doing → Instruction → World → Type 0
HasGiven d i w = (k : ℕ) × (ask : Ask) × (w.requests ≡ d.world.requests ++ record { session = k; ask = ask } ∷ []) × HowGiven d i w k

asked_gives : (d : Doing) (i : Instruction) (v : World) (q : SlotId) (k : ℕ) (ask : Ask) → v.requests ≡ d.world.requests
    → ((u : World) → ((r : Resource) → given_by r (session_at u k) ≡ given_by r (session_at v k)) → HowGiven d i u k) → Ends (HasGiven d i) (asked d v q k ask)
asked_gives d i v q k ask requests how =
    let blocked = with_leaf v d.x (record d.leaf { phase = Blocked }) in
    let waiting = with_slot blocked q (Waiting k) in
    let after : World = record waiting { requests = waiting.requests ++ record { session = k; ask = ask } ∷ [] } in
    when_ends (HasGiven d i) (paid d.system after) ExceededQuota _
    (gives after Quiet (
      k,
      ask,
      ap (λ rs. rs ++ record { session = k; ask = ask } ∷ []) (slot_requests blocked q (Waiting k) ∙ requests),
      how after (λ r. given_slot r blocked q (Waiting k) k),
    ))

open_gives : (d : Doing) (place : OperandSlot) (service : List ℕ) (n : ℕ) → Ends (HasGiven d (Open place service n)) (open_session d place service n)
open_gives d place service n =
    need_found P (slot_id_of d.x d.leaf.current place) WrongKind _
    (λ q at. fill_found P d.world q (Waiting k) _ (λ empty. need_found P (server_of d.system d.component service) WrongKind _ (λ server found.
    let filled = with_slot d.world q (Waiting k) in
    let new = new_session d.x q server service (amount n (open_caps (interface_in service d.system.interfaces))) in
    let added : World = record filled { sessions = add_session new filled.sessions } in
    let here : session_at added k ≡ Some new = ap (λ j. joined (slice_get (add_session new filled.sessions) j)) (sym (free_slot d.world q (Waiting k)))
    ∙ add_here new filled.sessions in
    asked_gives d (Open place service n) added q k Ask_open (slot_requests d.world q (Waiting k)) (λ u same r. same r ∙ ap (given_by r) here))))
  where
    P : World → Type 0
    P = HasGiven d (Open place service n)

    k : ℕ
    k = free_place d.world.sessions

upgrade_gives : (d : Doing) (place : OperandSlot) (n : ℕ) → Ends (HasGiven d (Upgrade place n)) (upgrade d place n)
upgrade_gives d place n =
    need_found (HasGiven d (Upgrade place n)) _ _ _ (λ q at. link_found (HasGiven d (Upgrade place n)) d.world q _ (λ k s link there.
    let more : Amount = plus s.donation (amount n (upgrade_caps (interface_in s.service d.system.interfaces) s.level)) in
    let v = with_session d.world k (record s { donation = more }) in
    asked_gives d (Upgrade place n) v q k Ask_upgrade refl
    (λ u same. (s, there, λ r. same r ∙ ap (given_by r) (session_here d.world k s (record s { donation = more }) there)))))

last_number : (items : List Request) (a b : Request) → items ++ a ∷ [] ≡ items ++ b ∷ [] → a.session ≡ b.session
last_number [] a b e = ap (λ (r : Request). r.session) (first e)
  where
    first : {a b : Request} → a ∷ [] ≡ b ∷ [] → a ≡ b
    first e = cc
last_number (r ∷ rest) a b e = last_number rest a b (tail e)
  where
    tail : {r : Request} {l m : List Request} → r ∷ l ≡ r ∷ m → l ≡ m
    tail e = cc

-- of the session whose request is the last
module _ (d : Doing) (w : World) (event : Event) (k : ℕ) (last : Ask) (requests : w.requests ≡ d.world.requests
    ++ record { session = k; ask = last } ∷ []) where
  of_last : (i : Instruction) → HasGiven d i w → HowGiven d i w k
  of_last i f = subst (HowGiven d i w) (last_number d.world.requests (record { session = f.0; ask = f.1 }) (record { session = k; ask = last }) (sym f.2
      ∙ requests)) f.3

  pub how_given : (i : Instruction) (ask : Ask) → IsAsk i ask → instruct d i ≡ Ok (w, event) → HowGiven d i w k
  how_given (Open place service n) ask is e = of_last (Open place service n) ((open_gives d place service n).holds w event e)
  how_given (Upgrade place n) ask is e = of_last (Upgrade place n) ((upgrade_gives d place n).holds w event e)
  how_given (Call place) ask is e = tt
  how_given (Close place) ask is e = tt
  how_given _ ask is e = absurd is

-- IT IS ENOUGH

-- the upgrade is to a level that there is, and so much is given that a session of that level needs more
pub record IsEnough (i : Interface) (level : ℕ) (more : Amount) : Type 0 where
  pub less : level < length i.upgrades
  pub pays : (r : Resource) → part r (slice_index_or i.upgrades level (amount 0 0)) ≤ part r more

module _ (promised : ℕ → Option Kind) (c : Context) (d : Doing) (t : TakesLeaf d) (reports : ReportsLinks promised d.world) (g : Grants promised c d)
    (state new : AbstractState) (m : Meets promised c state d.world d.leaf) where
  pub open_enough : (place : OperandSlot) (service : List ℕ) (n : ℕ) → judged c state (Open place service n) ≡ Ok new → (s : Session) → s.service ≡ service
      → s.level ≡ 0
      → ((r : Resource) → part r s.donation ≡ part r (amount n (open_caps (interface_in service d.system.interfaces)))) → IsGiven d.system s
  open_enough place service n e s its first given i known r =
      let there : interface_in service d.system.interfaces ≡ Some i = ap (λ l. interface_in l d.system.interfaces) (sym its) ∙ known in
      let pays = open_pays c state new place service n i (ap (interface_in service) g.interfaces ∙ there) e r in
      let caps = ap (λ o. part r (amount n (open_caps o))) there in
      let need = need_first i r in
      let level = ap (λ l. part r (need_of i l)) first in
      let donation = given r in
      omega (arith, pays, caps, need, level, donation)

  pub upgrade_enough : (place : OperandSlot) (n : ℕ) → judged c state (Upgrade place n) ≡ Ok new → (q : SlotId) (k : ℕ) (old : Session)
      → slot_id_of d.x d.leaf.current place ≡ Some q → slot_at d.world q ≡ Some (Link k) → session_at d.world k ≡ Some old
      → (i : Interface) → interface_in old.service d.system.interfaces ≡ Some i
      → IsEnough i old.level (amount n (upgrade_caps (interface_in old.service d.system.interfaces) old.level))
  upgrade_enough place n e q k old slot_id link there i known =
      let l = given_there (link_kind (kind_at c state place)) _ _ new (judged_alone c state (Upgrade place n) new e) in
      let f = finds promised c d t g state m place (Link_kind l.0.0 l.0.1 l.0.2) (link_is (kind_at c state place) l.0 l.1) in
      let same : f.slot ≡ Link k = some_same (sym f.there ∙ (ap (slot_at d.world) (some_same (sym f.named ∙ slot_id)) ∙ link)) in
      let s = reports q k (Link_kind l.0.0 l.0.1 l.0.2) link (subst (λ slot. IsKind promised slot (Link_kind l.0.0 l.0.1 l.0.2)) same f.is) in
      let is = some_same (sym s.1 ∙ there) in
      let service = same_service s.2 ∙ ap (λ (s : Session). s.service) is in
      let level = same_level s.2 ∙ ap (λ (s : Session). s.level) is in
      let its : interface_in l.0.0 c.subject.interfaces ≡ Some i =
      ap (interface_in l.0.0) g.interfaces ∙ (ap (λ service. interface_in service d.system.interfaces) service ∙ known) in
      let u = upgrade_pays c state new place n l.0.0 l.0.1 l.0.2 i l.1 its e in
      subst (λ o. IsEnough i old.level (amount n (upgrade_caps o old.level))) (sym known)
      (subst (λ level. IsEnough i level (amount n (upgrade_caps (Some i) level))) level (record { less = u.0; pays = u.1 }))

-- then a session that is upgraded was given for the next level
pub next_given : (i : Interface) (level : ℕ) (old more : Amount) (r : Resource) → part r (need_of i level) ≤ part r old → IsEnough i level more
    → part r (need_of i (suc level)) ≤ part r (plus old more)
next_given i level old more r given e =
    let next = need_next i level r e.less in
    let pays = e.pays r in
    let both = part_plus r old more in
    omega (arith, given, next, pays, both)

pub more_given : (old more : Amount) (r : Resource) → part r old ≤ part r (plus old more)
more_given old more r = let both = part_plus r old more in omega (arith, both)
