-- A step of the system in which no resource is counted reports what the step leads to, but for the test of the quotas.
use Rattle.std.proofs.Common.{◌≡◌, ◌≢◌, ℕ, suc, Bool, true, false, List, [], ◌∷◌, Option, Some, None, refl, ap, sym, ◌∙◌, subst, zero}
use Rattle.std.specs.Prelude.{Ok, Err, slice_get}
use Rattle.gq_model.specs.machine.Program.{Statements, Done, Do, If, Loop, section_in}
use Rattle.gq_model.specs.declared.program.Instruction.{Instruction}
use Rattle.gq_model.specs.declared.program.Instruction.TheVariants.{Call}
use Rattle.gq_model.specs.declared.section.Section.{Section}
use Rattle.gq_model.specs.declared.section.Section.TheVariants.{Main, Opening, Upgrading, Calling, Closing, Reacting}
use Rattle.gq_model.specs.declared.phase.Phase.{Phase}
use Rattle.gq_model.specs.declared.phase.Phase.TheVariants.{Pending, Running, Blocked, Serving, Handling, Exited}
use Rattle.gq_model.specs.declared.fault.Wrong.{Wrong}
use Rattle.gq_model.specs.declared.fault.Wrong.TheVariants.{MissingOperand, WrongKind, UnmappedByte, ExceededQuota, MissingSection}
use Rattle.gq_model.specs.machine.Scenario.{System, Component}
use Rattle.gq_model.specs.machine.World.{Slot, Empty, Bytes, Pool, Link, SlotId, Session, Ask, Ask_call, Request, Current, Round, Leaf, World, session_at}
use Rattle.gq_model.specs.machine.World.{Signal}
use Rattle.gq_model.specs.machine.World.{slot_at}
use Rattle.gq_model.specs.machine.World.{slot_id_of}
use Rattle.gq_model.specs.machine.Sums.{all_paid, paid}
use Rattle.gq_model.specs.machine.Doing.{Event, Idle, Quiet, Finished, Doing, Stepped, need, when, pop, push, if_paid, with_operands, fill, settled}
use Rattle.gq_model.specs.machine.Memory.{bytes_in, pool_in, if_absent}
use Rattle.gq_model.specs.machine.Requests.{link_in, asked}
use Rattle.gq_model.specs.machine.Step.{instruct, oldest, accept, replied, reply, main_ended, section_ended, body_ended, perform, accept_oldest, step_in}
use Rattle.gq_model.specs.machine.Step.{serve, first_signal}
use Rattle.gq_model.specs.machine.Step.{step_of, next}
use Rattle.gq_laws.specs.internal.Uncounted.{uncounted}
use Rattle.std.proofs.lemmas.Bool.{false≢true}

-- all are paid where nothing is counted
none_counted : (w : World) (n : ℕ) (cs : List Component) (leaves : List Leaf) → all_paid [] w n cs leaves ≡ true
none_counted w n [] leaves = refl
none_counted w n (c ∷ cs) [] = refl
none_counted w n (c ∷ cs) (leaf ∷ leaves) = none_counted w (suc n) cs leaves

ok_same : {p q : World × Event} → ◌≡◌ {A = Stepped} (Ok p) (Ok q) → p ≡ q
ok_same e = cc

err_same : {a b : Wrong} → ◌≡◌ {A = Stepped} (Err a) (Err b) → a ≡ b
err_same e = cc

ok_err : {p : World × Event} {a : Wrong} → ◌≡◌ {A = Stepped} (Ok p) (Err a) → ⊥
ok_err e = cc

err_ok : {p : World × Event} {a : Wrong} → ◌≡◌ {A = Stepped} (Err a) (Ok p) → ⊥
err_ok e = cc

-- what is wrong is not the quota
abbrev IsOther : Wrong → Type 0
IsOther wrong = wrong ≢ ExceededQuota

other_operand : IsOther MissingOperand
other_operand e = cc

other_kind : IsOther WrongKind
other_kind e = cc

other_byte : IsOther UnmappedByte
other_byte e = cc

other_section : IsOther MissingSection
other_section e = cc

-- r is the step in the system, and u is it where nothing is counted
record Alike (system : System) (r u : Stepped) : Type 0 where
  pub pays : (w : World) (e : Event) → u ≡ Ok (w, e) → paid system w ≡ true → r ≡ Ok (w, e)
  pub same : (w : World) (e : Event) → r ≡ Ok (w, e) → u ≡ Ok (w, e)
  pub short : (wrong : Wrong) → r ≡ Err wrong → IsOther wrong → u ≡ Err wrong
  pub never : (wrong : Wrong) → u ≡ Err wrong → IsOther wrong

module _ (system : System) where
  abbrev Like : Stepped → Stepped → Type 0
  Like r u = Alike system r u

  ends_alike : (w : World) (e : Event) → Like (Ok (w, e)) (Ok (w, e))
  ends_alike w e = record { pays = λ v f q p. q; same = λ v f q. q; short = λ wrong q n. q; never = λ wrong q. absurd (ok_err q) }

  fails_alike : (wrong : Wrong) → IsOther wrong → Like (Err wrong) (Err wrong)
  fails_alike wrong other = record { pays = λ v f q p. q; same = λ v f q. q; short = λ a q n. q; never = λ a q s. other (err_same q ∙ s) }

  need_alike : {A : Type 0} (o : Option A) (wrong : Wrong) (go on : A → Stepped) → IsOther wrong → ((a : A) → Like (go a) (on a))
      → Like (need o wrong go) (need o wrong on)
  need_alike None wrong go on other h = fails_alike wrong other
  need_alike (Some a) wrong go on other h = h a

  when_alike : (b : Bool) (wrong : Wrong) (r u : Stepped) → IsOther wrong → Like r u → Like (when b wrong r) (when b wrong u)
  when_alike true wrong r u other h = h
  when_alike false wrong r u other h = fails_alike wrong other

  pop_alike : (operands : List ℕ) (go on : ℕ → List ℕ → Stepped) → ((a : ℕ) (rest : List ℕ) → Like (go a rest) (on a rest))
      → Like (pop operands go) (pop operands on)
  pop_alike [] go on h = fails_alike MissingOperand other_operand
  pop_alike (a ∷ rest) go on h = h a rest

  push_alike : (a : ℕ) (operands : List ℕ) (go on : List ℕ → Stepped) → ((rest : List ℕ) → Like (go rest) (on rest))
      → Like (push a operands go) (push a operands on)
  push_alike a operands go on h = when_alike _ MissingOperand _ _ other_operand (h _)

  link_in_alike : (w : World) (o : Option Slot) (go on : ℕ → Session → Stepped) → ((k : ℕ) (s : Session) → Like (go k s) (on k s))
      → Like (link_in w o go) (link_in w o on)
  link_in_alike w (Some (Link k)) go on h = need_alike _ WrongKind _ _ other_kind (h k)
  link_in_alike w _ go on h = fails_alike WrongKind other_kind

  absent_alike : (entry : Option (List ℕ)) (a b c d : Stepped) → Like a c → Like b d → Like (if_absent entry a b) (if_absent entry c d)
  absent_alike None a b c d h k = h
  absent_alike (Some bytes) a b c d h k = k

  fill_alike : (w : World) (slot_id : SlotId) (o : Option Slot) (slot : Slot) (go on : World → Stepped) → ((v : World) → Like (go v) (on v))
      → Like (fill w slot_id o slot go) (fill w slot_id o slot on)
  fill_alike w slot_id (Some Empty) slot go on h = h _
  fill_alike w slot_id _ slot go on h = fails_alike WrongKind other_kind

  bytes_in_alike : (w : World) (slot_id : SlotId) (o : Option Slot) (go on : List ℕ → (List ℕ → World) → Stepped)
      → ((bytes : List ℕ) (put : List ℕ → World) → Like (go bytes put) (on bytes put)) → Like (bytes_in w slot_id o go) (bytes_in w slot_id o on)
  bytes_in_alike w slot_id (Some (Bytes form m bytes)) go on h = h bytes _
  bytes_in_alike w slot_id _ go on h = fails_alike WrongKind other_kind

  pool_in_alike : (w : World) (slot_id : SlotId) (o : Option Slot) (go on : ℕ → List (Option (List ℕ)) → (List (Option (List ℕ)) → World) → Stepped)
      → ((m : ℕ) (entries : List (Option (List ℕ))) (put : List (Option (List ℕ)) → World) → Like (go m entries put) (on m entries put))
      → Like (pool_in w slot_id o go) (pool_in w slot_id o on)
  pool_in_alike w slot_id (Some (Pool m entries)) go on h = h m entries _
  pool_in_alike w slot_id _ go on h = fails_alike WrongKind other_kind

  -- a test of the world in which what follows ends
  tested_alike : (w : World) (b : Bool) (r : Stepped) → paid system w ≡ b → ((v : World) (e : Event) → r ≡ Ok (v, e) → v ≡ w)
      → ((wrong : Wrong) → r ≡ Err wrong → IsOther wrong) → Like (when b ExceededQuota r) r
  tested_alike w true r t h k = record { pays = λ v f q p. q; same = λ v f q. q; short = λ a q n. q; never = k }
  tested_alike w false r t h k =
      record {
        pays = λ v f q p. absurd (false≢true (sym t ∙ (ap (paid system) (sym (h v f q)) ∙ p)));
        same = λ v f q. absurd (err_ok q);
        short = λ a q n. absurd (n (sym (err_same q)));
        never = k;
      }

  untested : (w : World) (r : Stepped) → when (paid (uncounted system) w) ExceededQuota r ≡ r
  untested w r = ap (λ b. when b ExceededQuota r) (none_counted w 0 system.components w.leaves)

  paid_alike : (w : World) (r : Stepped) → ((v : World) (e : Event) → r ≡ Ok (v, e) → v ≡ w) → ((wrong : Wrong) → r ≡ Err wrong → IsOther wrong)
      → Like (when (paid system w) ExceededQuota r) (when (paid (uncounted system) w) ExceededQuota r)
  paid_alike w r h k = subst (λ u. Like (when (paid system w) ExceededQuota r) u) (sym (untested w r)) (tested_alike w (paid system w) r refl h k)

  if_paid_alike : (w : World) (event : Event) → Like (if_paid system w event) (if_paid (uncounted system) w event)
  if_paid_alike w event = paid_alike w (Ok (w, event)) (λ v e q. ap (λ p. p.0) (sym (ok_same q))) (λ wrong q. absurd (ok_err q))

  settled_alike : (x : ℕ) (w : World) → Like (settled system x w) (settled (uncounted system) x w)
  settled_alike x w = need_alike (slice_get w.leaves x) WrongKind _ _ other_kind (λ leaf. if_paid_alike _ Quiet)

-- the same leaf's step, with nothing counted
abbrev free_of_quota : Doing → Doing
free_of_quota d = record d { system = uncounted d.system }

module _ (d : Doing) where
  abbrev Twin : Stepped → Stepped → Type 0
  Twin r u = Alike d.system r u

  asked_alike : (w : World) (slot_id : SlotId) (k : ℕ) (ask : Ask) → Twin (asked d w slot_id k ask) (asked (free_of_quota d) w slot_id k ask)
  asked_alike w slot_id k ask = if_paid_alike d.system _ Quiet

module _ (d : Doing) where
  instruct_alike : (i : Instruction) → Alike d.system (instruct d i) (instruct (free_of_quota d) i)
  instruct_alike (Call place) =
      pop_alike d.system d.leaf.operands _ _ (λ a rest. need_alike d.system (slot_id_of d.x d.leaf.current place) WrongKind _ _ other_kind
      (λ slot_id. link_in_alike d.system d.world (slot_at d.world slot_id) _ _ (λ k s.
      asked_alike (record d { leaf = with_operands d rest }) d.world slot_id k (Ask_call a))))
  instruct_alike i =
      search (
        need_alike d.system,
        when_alike d.system,
        pop_alike d.system,
        push_alike d.system,
        link_in_alike d.system,
        absent_alike d.system,
        fill_alike d.system,
        bytes_in_alike d.system,
        pool_in_alike d.system,
        ends_alike d.system,
        settled_alike d.system,
        if_paid_alike d.system,
        asked_alike d,
        other_operand,
        other_kind,
        other_byte,
        other_section,
      )
      depth 14

  replied_alike : (k : ℕ) (s : Session) (f : List ℕ → List ℕ) → Twin d (replied d k s f) (replied (free_of_quota d) k s f)
  replied_alike k s f = ends_alike d.system _ Quiet

  reply_alike : (k : ℕ) (section : Section) (s : Session) → Twin d (reply d k section s) (reply (free_of_quota d) k section s)
  reply_alike k Main s = fails_alike d.system WrongKind other_kind
  reply_alike k Opening s = when_alike d.system _ WrongKind _ _ other_kind (replied_alike k s _)
  reply_alike k (Upgrading l) s = replied_alike k s _
  reply_alike k (Calling l) s = pop_alike d.system _ _ _ (λ a rest. replied_alike k s _)
  reply_alike k (Closing l) s = when_alike d.system _ WrongKind _ _ other_kind (if_paid_alike d.system _ Quiet)
  reply_alike k (Reacting i) s = fails_alike d.system WrongKind other_kind

  main_alike : (provides : Option (List ℕ)) (signals : ℕ) → Twin d (main_ended d provides signals) (main_ended (free_of_quota d) provides signals)
  main_alike (Some service) signals = ends_alike d.system _ Quiet
  main_alike None (suc n) = ends_alike d.system _ Quiet
  main_alike None zero = when_alike d.system _ WrongKind _ _ other_kind (ends_alike d.system _ Finished)

  section_alike : (current : Option Current) (reacting : Option ℕ)
      → Twin d (section_ended d current reacting) (section_ended (free_of_quota d) current reacting)
  section_alike None None = main_alike d.component.node.provides d.component.node.signals
  section_alike None (Some i) = ends_alike d.system _ Quiet
  section_alike (Some current) reacting = need_alike d.system _ WrongKind _ _ other_kind (λ s. reply_alike current.session current.section s)

  body_alike : (loops : List Round) → Twin d (body_ended d loops) (body_ended (free_of_quota d) loops)
  body_alike [] = section_alike d.leaf.current d.leaf.reacting
  body_alike (r ∷ loops) = ends_alike d.system _ Quiet

  begun_in : (w : World) (body : Option Statements) → ((v : World) (e : Event) → need body MissingSection (λ b. Ok (w, Quiet)) ≡ Ok (v, e) → v ≡ w)
      × ((wrong : Wrong) → need body MissingSection (λ b. Ok (w, Quiet)) ≡ Err wrong → IsOther wrong)
  begun_in w None = (λ v e q. absurd (err_ok q), λ wrong q s. other_section (err_same q ∙ s))
  begun_in w (Some b) = (λ v e q. ap (λ p. p.0) (sym (ok_same q)), λ wrong q. absurd (ok_err q))

  accept_alike : (r : Request) (rest : List Request) → Twin d (accept d r rest) (accept (free_of_quota d) r rest)
  accept_alike r rest = need_alike d.system (session_at d.world r.session) WrongKind _ _ other_kind
      (λ old. (let b = begun_in _ _ in paid_alike d.system _ _ b.0 b.1))

  oldest_alike : (found : Option (Request × List Request)) → Twin d (accept_oldest d found) (accept_oldest (free_of_quota d) found)
  oldest_alike None = ends_alike d.system _ Idle
  oldest_alike (Some p) = accept_alike p.0 p.1

serve_alike : (d : Doing) (found : Option (ℕ × List Signal)) → Twin d (serve d found) (serve (free_of_quota d) found)
serve_alike d None = oldest_alike d (oldest d.world d.x d.world.requests)
serve_alike d (Some p) = need_alike d.system (section_in (Reacting p.0) d.component.node.program.sections) MissingSection _ _ other_section
    (λ body. ends_alike d.system _ Quiet)

perform_alike : (d : Doing) (todo : Statements) → Twin d (perform d todo) (perform (free_of_quota d) todo)
perform_alike d Done = body_alike d d.leaf.loops
perform_alike d (Do i rest) = instruct_alike (record d { leaf = record d.leaf { todo = rest } }) i
perform_alike d (If arm other rest) = pop_alike d.system d.leaf.operands _ _ (λ a below. ends_alike d.system _ Quiet)
perform_alike d (Loop count body rest) = ends_alike d.system _ Quiet

step_alike : (d : Doing) (phase : Phase) → Twin d (step_in d phase) (step_in (free_of_quota d) phase)
step_alike d Pending = ends_alike d.system _ Idle
step_alike d Running = perform_alike d d.leaf.todo
step_alike d Blocked = ends_alike d.system _ Idle
step_alike d Serving = serve_alike d (first_signal d.leaf.signals)
step_alike d Handling = perform_alike d d.leaf.todo
step_alike d Exited = ends_alike d.system _ Idle

module _ (system : System) (w : World) (x : ℕ) where
  next_by : (c : Option Component) (leaf : Option Leaf) → Alike system (step_of system w x c leaf) (step_of (uncounted system) w x c leaf)
  next_by (Some c) (Some leaf) = step_alike (record { system = system; world = w; x = x; component = c; leaf = record leaf { steps = suc leaf.steps } })
      leaf.phase
  next_by (Some c) None = ends_alike system w Idle
  next_by None leaf = ends_alike system w Idle

  both : Alike system (next system w x) (next (uncounted system) w x)
  both = next_by (slice_get system.components x) (slice_get w.leaves x)

-- THE STEP

-- where all is paid afterwards, the step is the same
pub step_paid : (system : System) (w : World) (x : ℕ) (new : World) (event : Event) → next (uncounted system) w x ≡ Ok (new, event) → paid system new ≡ true
    → next system w x ≡ Ok (new, event)
step_paid system w x new event = (both system w x).pays new event

pub step_same : (system : System) (w : World) (x : ℕ) (new : World) (event : Event) → next system w x ≡ Ok (new, event)
    → next (uncounted system) w x ≡ Ok (new, event)
step_same system w x new event = (both system w x).same new event

-- where nothing is counted no quota is exceeded
pub never_short : (system : System) (w : World) (x : ℕ) (wrong : Wrong) → next (uncounted system) w x ≡ Err wrong → wrong ≢ ExceededQuota
never_short system w x wrong = (both system w x).never wrong
