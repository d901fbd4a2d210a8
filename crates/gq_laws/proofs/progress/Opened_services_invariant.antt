-- The client of each session opens its service in its program, in each world that a scenario comes to.
use Rattle.std.proofs.Common.{◌≡◌, ℕ, suc, inl, inr, true, false, List, [], ◌∷◌, ◌++◌, Option, Some, None, Ok, refl, ap, sym, ◌∙◌, zero}
use Rattle.std.proofs.Common.{subst}
use Rattle.std.specs.Prelude.{slice_get, slice_set}
use Rattle.std.proofs.lemmas.Bool.Decides.{eqb_tells}
use Rattle.gq_model.specs.machine.Lists.{any_of}
use Rattle.gq_model.specs.machine.Program.{Statements, Done, Do, If, Loop, text_eq, section_in}
use Rattle.gq_model.specs.declared.section.Section.{Section}
use Rattle.gq_model.specs.declared.program.OperandSlot.{OperandSlot}
use Rattle.gq_model.specs.declared.program.Instruction.{Instruction}
use Rattle.gq_model.specs.declared.program.Instruction.TheVariants.{Open}
use Rattle.gq_model.specs.declared.phase.Phase.{Phase}
use Rattle.gq_model.specs.declared.phase.Phase.TheVariants.{Pending, Running, Blocked, Serving, Handling, Exited}
use Rattle.gq_model.specs.declared.fault.Wrong.TheVariants.{WrongKind, ExceededQuota, MissingSection}
use Rattle.gq_model.specs.machine.Amounts.{amount}
use Rattle.gq_model.specs.machine.Scenario.{System, Component, interface_in, open_caps}
use Rattle.gq_model.specs.machine.Routes.{server_of}
use Rattle.gq_model.specs.machine.World.{Slot, Waiting, SlotId, In_leaf, In_session, In_object, Session, Ask, Ask_open, Ask_upgrade, Ask_close, Signal}
use Rattle.gq_model.specs.machine.World.{Ask_call, Request, Current, Round, Leaf, World, joined, session_at, slot_at, slot_id_of, with_leaf, with_session}
use Rattle.gq_model.specs.machine.World.{with_slot}
use Rattle.gq_model.specs.machine.World.{put_leaf_slot, put_session_slot, put_object, start}
use Rattle.gq_model.specs.machine.Doing.{Doing, Event, Idle, Quiet, Finished, standing, settled}
use Rattle.gq_model.specs.machine.Sums.{paid, with_peaks}
use Rattle.gq_model.specs.machine.Requests.{add_session, free_place, new_session, asked, open_session, upgrade}
use Rattle.gq_model.specs.machine.Step.{instruct, oldest, accept, accepted_as, serving, active_again, unblocked, serve, first_signal}
use Rattle.gq_model.specs.machine.Step.{exit_of}
use Rattle.gq_model.specs.machine.Step.{main_ended, section_ended, body_ended, perform, accept_oldest, step_in, step_of, next}
use Rattle.gq_model.specs.rules.Use.{opened_by, services_of, services_in, services}
use Rattle.gq_model.proofs.Small_facts.{some_same, none_some, text_self}
use Rattle.gq_laws.specs.Shapes.{Each}
use Rattle.gq_laws.specs.internal.Remaining_instructions.{AllAre, AreLeft, ArePrograms}
use Rattle.gq_laws.proofs.step_shapes.Step_end_shapes.{Ends, gives, need_ends, when_ends, pop_ends, link_in_found}
use Rattle.gq_laws.proofs.step_shapes.Step_end_shapes.{fill_ends}
use Rattle.gq_laws.proofs.session_links.Written_world_links.{set_else, session_here, session_else}
use Rattle.gq_laws.proofs.session_links.Linked_after_open.{add_here, add_else}
use Rattle.gq_laws.proofs.session_links.Linked_after_reply.{gone_here}
use Rattle.gq_laws.proofs.step_shapes.Step_end_worlds.{blocking, asked_world}
use Rattle.std.proofs.lemmas.Bool.{or_left, or_right, or_cases}
use Rattle.gq_laws.proofs.step_shapes.Step_change_shapes.{instruct_by, section_by, accept_by}
use Rattle.gq_model.specs.declared.section.Section.TheVariants.{Reacting}

-- PROGRAMS

-- an `open` names a service that the program opens
abbrev pub OpensOwn : Component → Instruction → Type 0
OpensOwn c (Open place service n) = any_of (text_eq service) (services c) ≡ true
OpensOwn c _ = Unit {0}

any_right : (service : List ℕ) (xs ys : List (List ℕ)) → any_of (text_eq service) ys ≡ true → any_of (text_eq service) (xs ++ ys) ≡ true
any_right service [] ys e = e
any_right service (x ∷ xs) ys e = or_right (text_eq service x) (any_of (text_eq service) (xs ++ ys)) (any_right service xs ys e)

any_left : (service : List ℕ) (xs ys : List (List ℕ)) → any_of (text_eq service) xs ≡ true → any_of (text_eq service) (xs ++ ys) ≡ true
any_left service [] ys e = absurd cc
any_left service (x ∷ xs) ys e =
    elim (or_cases (text_eq service x) (any_of (text_eq service) xs) e) [
      | inl f ↦ or_left (text_eq service x) (any_of (text_eq service) (xs ++ ys)) f
      | inr f ↦ or_right (text_eq service x) (any_of (text_eq service) (xs ++ ys)) (any_left service xs ys f)
    ]

module _ (c : Component) (Q : Instruction → Type 0) where
  -- all that is opened here is opened by the program
  abbrev Among : List (List ℕ) → Type 0
  Among names = (service : List ℕ) → any_of (text_eq service) names ≡ true → any_of (text_eq service) (services c) ≡ true

  opens_one : (i : Instruction) → Among (opened_by i) → OpensOwn c i
  opens_one (Open place service n) h = h service (or_left (text_eq service service) false (text_self service))
  opens_one _ h = tt

  opens_all : (s : Statements) → AllAre Q s → Among (services_of s) → AllAre (OpensOwn c) s
  opens_all Done g h = tt
  opens_all (Do i rest) g h = (
    opens_one i (λ service e. h service (any_left service (opened_by i) (services_of rest) e)),
    opens_all rest g.1 (λ service e. h service (any_right service (opened_by i) (services_of rest) e)),
  )
  opens_all (If arm other rest) g h = (
    opens_all arm g.0 (λ service e. h service (any_left service (services_of arm ++ services_of other) (services_of rest)
        (any_left service (services_of arm) (services_of other) e))),
    opens_all other g.1 (λ service e. h service (any_left service (services_of arm ++ services_of other) (services_of rest)
        (any_right service (services_of arm) (services_of other) e))),
    opens_all rest g.2 (λ service e. h service (any_right service (services_of arm ++ services_of other) (services_of rest) e)),
  )
  opens_all (Loop n body rest) g h = (
    g.0,
    opens_all body g.1 (λ service e. h service (any_left service (services_of body) (services_of rest) e)),
    opens_all rest g.2 (λ service e. h service (any_right service (services_of body) (services_of rest) e)),
  )

  opens_sections : (sections : List (Section × Statements)) → Each (λ p. AllAre Q p.1) sections → Among (services_in sections)
      → Each (λ p. AllAre (OpensOwn c) p.1) sections
  opens_sections [] g h = tt
  opens_sections (p ∷ rest) g h = (
    opens_all p.1 g.0 (λ service e. h service (any_left service (services_of p.1) (services_in rest) e)),
    opens_sections rest g.1 (λ service e. h service (any_right service (services_of p.1) (services_in rest) e)),
  )

-- where loops have rounds, programs open what they open
pub opens_programs : (Q : Component → Instruction → Type 0) (system : System) → ArePrograms Q system → ArePrograms OpensOwn system
opens_programs Q system h x c there = opens_sections c (Q c) c.node.program.sections (h x c there) (λ service e. e)

-- SESSIONS

module _ (system : System) where
  abbrev pub Opens : ℕ → List ℕ → Type 0
  Opens x service = (c : Component) → slice_get system.components x ≡ Some c → any_of (text_eq service) (services c) ≡ true

  -- each session's client opens its service
  pub record AllOpened (w : World) : Type 0 where
    pub at : (k : ℕ) (s : Session) → session_at w k ≡ Some s → Opens s.client s.service

  opened_session : (w : World) (j : ℕ) (t s : Session) → session_at w j ≡ Some t → Opens s.client s.service → AllOpened w → AllOpened (with_session w j s)
  opened_session w j t s e own h = record {
    at = λ k v f. elim (eqb_tells k j) [
      | inl g ↦ subst (λ (v : Session). Opens v.client v.service)
          (some_same (sym (session_here w j t s e) ∙ (ap (session_at (with_session w j s)) (sym g.1) ∙ f))) own
      | inr g ↦ h.at k v (sym (session_else w j k s g.1) ∙ f)
    ];
  }

  opened_same : (w : World) (j : ℕ) (t s : Session) → session_at w j ≡ Some t → s.client ≡ t.client → s.service ≡ t.service → AllOpened w
      → AllOpened (with_session w j s)
  opened_same w j t s e client service h = opened_session w j t s e
      (subst (λ x. Opens x s.service) (sym client) (subst (Opens t.client) (sym service) (h.at j t e))) h

  opened_slot : (w : World) (q : SlotId) (slot : Slot) → AllOpened w → AllOpened (with_slot w q slot)
  opened_slot w (In_leaf x i) slot h = go (slice_get w.leaves x)
    where
      go : (o : Option Leaf) → AllOpened (put_leaf_slot w o x i slot)
      go None = h
      go (Some leaf) = record { at = h.at }
  opened_slot w (In_session j i) slot h = go (session_at w j) refl
    where
      go : (o : Option Session) → session_at w j ≡ o → AllOpened (put_session_slot w o j i slot)
      go None e = h
      go (Some s) e = opened_same w j s (record s { slots = slice_set s.slots i slot }) e refl refl h
  opened_slot w (In_object j) slot h = go (session_at w j) refl
    where
      go : (o : Option Session) → session_at w j ≡ o → AllOpened (put_object w o j slot)
      go None e = h
      go (Some s) e = opened_same w j s (record s { object = slot }) e refl refl h

  opened_added : (w : World) (s : Session) → Opens s.client s.service → AllOpened w → AllOpened (record w { sessions = add_session s w.sessions })
  opened_added w s own h = record {
    at = λ k v e. elim (eqb_tells k (free_place w.sessions)) [
      | inl f ↦ subst (λ (v : Session). Opens v.client v.service)
          (some_same (sym (add_here s w.sessions) ∙ (ap (λ j. joined (slice_get (add_session s w.sessions) j)) (sym f.1) ∙ e))) own
      | inr f ↦ h.at k v (sym (add_else s w.sessions k f.1) ∙ e)
    ];
  }

  opened_gone : (w : World) (j : ℕ) → AllOpened w → AllOpened (record w { sessions = slice_set w.sessions j None })
  opened_gone w j h = record {
    at = λ k v e. elim (eqb_tells k j) [
      | inl f ↦ absurd (none_some (sym (gone_here w.sessions j) ∙ (ap (λ k. joined (slice_get (slice_set w.sessions j None) k)) (sym f.1) ∙ e)))
      | inr f ↦ h.at k v (sym (ap joined (set_else w.sessions j k None f.1)) ∙ e)
    ];
  }

  opened_active : (w : World) (x : ℕ) (f : List ℕ → List ℕ) → AllOpened w → AllOpened (unblocked w x f)
  opened_active w x f h = go (slice_get w.leaves x)
    where
      go : (o : Option Leaf) → AllOpened (active_again w x f o)
      go None = h
      go (Some leaf) = record { at = h.at }

  opened_settled : (x : ℕ) (w : World) → AllOpened w → Ends AllOpened (settled system x w)
  opened_settled x w h = need_ends AllOpened (slice_get w.leaves x) WrongKind _
      (λ leaf. when_ends AllOpened (paid system (with_leaf w x (with_peaks w x leaf))) ExceededQuota (Ok (with_leaf w x (with_peaks w x leaf), Quiet))
      (gives (with_leaf w x (with_peaks w x leaf)) Quiet (record { at = h.at })))

-- STEPS

module _ (d : Doing) (h : AllOpened d.system d.world) (component : slice_get d.system.components d.x ≡ Some d.component) where
  abbrev P : World → Type 0
  P w = AllOpened d.system w

  stands : (leaf : Leaf) → P (standing d leaf)
  stands leaf = record { at = h.at }

  same_slot : (w : World) (q : SlotId) (slot : Slot) → P w → P (with_slot w q slot)
  same_slot = opened_slot d.system

  same_settled : (w : World) → P w → Ends P (settled d.system d.x w)
  same_settled = opened_settled d.system d.x

  asked_opened : (w : World) (q : SlotId) (j : ℕ) (ask : Ask) → P w → Ends P (asked d w q j ask)
  asked_opened w q j ask hw = when_ends P (paid d.system (asked_world d w q j ask)) ExceededQuota (Ok (asked_world d w q j ask, Quiet))
      (gives (asked_world d w q j ask) Quiet (record { at = (same_slot (blocking d w) q (Waiting j) (record { at = hw.at })).at }))

  own_open : (service : List ℕ) → any_of (text_eq service) (services d.component) ≡ true → Opens d.system d.x service
  own_open service e c there = subst (λ c. any_of (text_eq service) (services c) ≡ true) (some_same (sym component ∙ there)) e

  open_opened : (place : OperandSlot) (service : List ℕ) (n : ℕ) → any_of (text_eq service) (services d.component) ≡ true → Ends P
      (open_session d place service n)
  open_opened place service n own =
      need_ends P (slot_id_of d.x d.leaf.current place) WrongKind _
      (λ q. fill_ends P P same_slot d.world q (slot_at d.world q) (Waiting (free_place d.world.sessions)) _ h (λ w hw.
      need_ends P (server_of d.system d.component service) WrongKind _ (λ server.
      let new = new_session d.x q server service (amount n (open_caps (interface_in service d.system.interfaces))) in
      asked_opened (record w { sessions = add_session new w.sessions }) q (free_place d.world.sessions) Ask_open
      (opened_added d.system w new (own_open service own) hw))))

  upgrade_opened : (place : OperandSlot) (n : ℕ) → Ends P (upgrade d place n)
  upgrade_opened place n =
      need_ends P (slot_id_of d.x d.leaf.current place) WrongKind _
      (λ q. link_in_found P d.world (slot_at d.world q) _ (λ j s there. asked_opened _ q j Ask_upgrade (opened_same d.system d.world j s _ there refl refl h)))

  instruct_opened : (i : Instruction) → OpensOwn d.component i → Ends P (instruct d i)
  instruct_opened i own = instruct_by d P P h same_slot same_slot (λ w operands locals same hw. record { at = hw.at }) (λ w operands hw. record { at = hw.at })
      (λ w requests hw. record { at = hw.at }) same_settled i (λ place service n e. open_opened place service n (subst (OpensOwn d.component) e own))
      (λ place n e. upgrade_opened place n)

  main_opened : (provides : Option (List ℕ)) (signals : ℕ) → Ends P (main_ended d provides signals)
  main_opened (Some service) signals = gives (standing d (serving d.leaf)) Quiet (stands (serving d.leaf))
  main_opened None (suc n) = gives (standing d (serving d.leaf)) Quiet (stands (serving d.leaf))
  main_opened None zero = when_ends P _ _ _ (gives (exit_of d) Finished (record { at = h.at }))

  section_opened : (current : Option Current) (reacting : Option ℕ) → Ends P (section_ended d current reacting)
  section_opened current reacting = section_by d P same_slot (stands (serving d.leaf)) (opened_active d.system) (opened_gone d.system)
      (main_opened d.component.node.provides d.component.node.signals) current reacting

  body_opened : (loops : List Round) → Ends P (body_ended d loops)
  body_opened [] = section_opened d.leaf.current d.leaf.reacting
  body_opened (r ∷ loops) = gives _ Quiet (stands _)

  accept_opened : (r : Request) (rest : List Request) → Ends P (accept d r rest)
  accept_opened r rest = accept_by P d r rest (λ old there. record {
    at = (opened_same d.system d.world r.session old (accepted_as d.system r.ask old) there (kept r.ask old).0 (kept r.ask old).1 h).at;
  })
    where
      kept : (ask : Ask) (old : Session) → ((accepted_as d.system ask old).client ≡ old.client) × ((accepted_as d.system ask old).service ≡ old.service)
      kept Ask_open old = (refl, refl)
      kept Ask_upgrade old = (refl, refl)
      kept Ask_close old = (refl, refl)
      kept (Ask_call value) old = (refl, refl)

perform_opened : (d : Doing) → AllOpened d.system d.world → slice_get d.system.components d.x ≡ Some d.component → (todo : Statements)
    → AllAre (OpensOwn d.component) todo → Ends (AllOpened d.system) (perform d todo)
perform_opened d h component Done left = body_opened d h component d.leaf.loops
perform_opened d h component (Do i rest) left = instruct_opened (record d { leaf = record d.leaf { todo = rest } }) h component i left.0
perform_opened d h component (If arm other rest) left = pop_ends (AllOpened d.system) _ _ (λ a below. gives _ Quiet (stands d h component _))
perform_opened d h component (Loop count body rest) left = gives _ Quiet (stands d h component _)

step_opened : (d : Doing) → AllOpened d.system d.world → slice_get d.system.components d.x ≡ Some d.component → AllAre (OpensOwn d.component) d.leaf.todo
    → (phase : Phase) → Ends (AllOpened d.system) (step_in d phase)
step_opened d h component left Pending = gives d.world Idle h
step_opened d h component left Running = perform_opened d h component d.leaf.todo left
step_opened d h component left Blocked = gives d.world Idle h
step_opened d h component left Serving = serve_by (first_signal d.leaf.signals)
  where
    by : (found : Option (Request × List Request)) → Ends (AllOpened d.system) (accept_oldest d found)
    by None = gives d.world Idle h
    by (Some p) = accept_opened d h component p.0 p.1

    serve_by : (found : Option (ℕ × List Signal)) → Ends (AllOpened d.system) (serve d found)
    serve_by None = by (oldest d.world d.x d.world.requests)
    serve_by (Some p) = need_ends (AllOpened d.system) (section_in (Reacting p.0) d.component.node.program.sections) MissingSection _
        (λ body. gives _ Quiet (stands d h component _))
step_opened d h component left Handling = perform_opened d h component d.leaf.todo left
step_opened d h component left Exited = gives d.world Idle h

next_by : (system : System) (w : World) (x : ℕ) (c : Option Component) (leaf : Option Leaf) → AllOpened system w → AreLeft OpensOwn system w
    → slice_get system.components x ≡ c → slice_get w.leaves x ≡ leaf → Ends (AllOpened system) (step_of system w x c leaf)
next_by system w x (Some c) (Some leaf) h left component there =
    step_opened (record { system = system; world = w; x = x; component = c; leaf = record leaf { steps = suc leaf.steps } }) h component
    (left x c leaf component there).todo leaf.phase
next_by system w x (Some c) None h left component there = gives w Idle h
next_by system w x None leaf h left component there = gives w Idle h

pub kept_opened : (system : System) (w : World) (x : ℕ) (new : World) (event : Event) → AllOpened system w → AreLeft OpensOwn system w
    → next system w x ≡ Ok (new, event) → AllOpened system new
kept_opened system w x new event h left stepped =
    (next_by system w x (slice_get system.components x) (slice_get w.leaves x) h left refl refl).holds new event stepped

pub start_opened : (system : System) → AllOpened system (start system)
start_opened system = record { at = λ k s e. absurd (none_some e) }
