-- What the leaves of a world are worth, and what a step makes of it: how often leaves take turns about.
use Rattle.std.proofs.Common.{◌≡◌, ◌∙◌, ℕ, zero, suc, ◌+◌, ◌<◌, ◌≤◌, ◌⊎◌, inl, inr, Bool, true, false, List, [], ◌∷◌, length, map, Option, Some, None, Ok}
use Rattle.std.proofs.Common.{refl, ap, ap₂, sym, subst, cond, arith, true≢false, is_some}
use Rattle.std.specs.Prelude.{◌||◌, if◌then◌else◌, nat_lt, slice_get, slice_set, sum_by, option_map}
use Rattle.std.proofs.lemmas.List.Sums.{sum_by-cons}
use Rattle.std.proofs.lemmas.Option.{slice_get-map}
use Rattle.gq_model.specs.declared.phase.Phase.{Phase}
use Rattle.gq_model.specs.declared.phase.Phase.TheVariants.{Pending, Running, Blocked, Serving, Handling, Exited}
use Rattle.gq_model.specs.machine.Scenario.{System, Component}
use Rattle.gq_model.specs.machine.World.{Empty, Current, Leaf, Link, Request, Round, Session, Signal, Slot, SlotId, World, session_at, with_leaf, with_slot}
use Rattle.gq_model.specs.machine.Doing.{Doing, Event, Quiet, settled, standing}
use Rattle.gq_model.specs.machine.Sums.{paid}
use Rattle.gq_model.specs.declared.fault.Wrong.TheVariants.{WrongKind, ExceededQuota}
use Rattle.gq_model.specs.declared.section.Section.{Section}
use Rattle.gq_model.specs.declared.section.Section.TheVariants.{Main, Opening, Upgrading, Calling, Closing, Reacting}
use Rattle.gq_model.specs.machine.Step.{accept, accept_oldest, active_again, body_ended, first_signal, oldest, next, perform, step_in, step_of, all_empty}
use Rattle.gq_model.specs.machine.Step.{all_released, reacting_to, serve, take_signal}
use Rattle.gq_model.specs.machine.Step.{exited, instruct, is_named, main_ended, released, replied, reply, reply_close, resumed, section_ended, serving}
use Rattle.gq_model.specs.machine.Step.{unblocked}
use Rattle.gq_model.proofs.Small_facts.{equal_self, none_some, some_same}
use Rattle.gq_model.specs.declared.program.Instruction.{Instruction}
use Rattle.gq_model.specs.machine.Program.{Statements, Done, Do, If, Loop}
use Rattle.gq_laws.specs.Session_links.{Fits, IsLinkedWorld, Stance, at_current, one_if, outline, outline_in, stance, stance_in}
use Rattle.gq_model.specs.machine.Rest.{can_run, runs, runs_as}
use Rattle.gq_laws.proofs.step_shapes.Step_end_shapes.{Ends, fails, gives, need_found, pop_ends, when_ends}
use Rattle.gq_laws.proofs.step_shapes.Step_end_worlds.{begun, closed}
use Rattle.gq_laws.proofs.step_shapes.Step_change_shapes.{accept_by, plain_instruct_by, slot_by}

abbrev pub worth_of : Phase → ℕ
worth_of Pending = 1
worth_of Running = 1
worth_of Blocked = 2
worth_of Serving = 3
worth_of Handling = 1
worth_of Exited = 3

abbrev pub value : Stance → ℕ
value t = worth_of t.phase

abbrev pub stances : World → List Stance
stances w = map (λ (l : Leaf). stance l.phase l.current) w.leaves

-- LISTS

map_set : {A B : Type 0} (f : A → B) (items : List A) (i : ℕ) (a : A) → map f (slice_set items i a) ≡ slice_set (map f items) i (f a)
map_set f [] i a = refl
map_set f (b ∷ rest) zero a = refl
map_set f (b ∷ rest) (suc i) a = ap (λ t. f b ∷ t) (map_set f rest i a)

there_set : {A : Type 0} (items : List A) (i : ℕ) (a : A) → slice_get items i ≡ Some a → slice_set items i a ≡ items
there_set [] i a e = refl
there_set (b ∷ rest) zero a e = ap (λ k. k ∷ rest) (sym (some_same e))
there_set (b ∷ rest) (suc i) a e = ap (λ t. b ∷ t) (there_set rest i a e)

get_set : {A : Type 0} (items : List A) (i : ℕ) (a b : A) → slice_get items i ≡ Some a → slice_get (slice_set items i b) i ≡ Some b
get_set [] i a b e = absurd (none_some e)
get_set (c ∷ rest) zero a b e = refl
get_set (c ∷ rest) (suc i) a b e = get_set rest i a b e

get_other : {A : Type 0} (items : List A) (i j : ℕ) (b : A) → (i ≡ j → ⊥) → slice_get (slice_set items i b) j ≡ slice_get items j
get_other [] i j b h = refl
get_other (c ∷ rest) zero zero b h = absurd (h refl)
get_other (c ∷ rest) zero (suc j) b h = refl
get_other (c ∷ rest) (suc i) zero b h = refl
get_other (c ∷ rest) (suc i) (suc j) b h = get_other rest i j b (λ e. h (ap suc e))

sum_set : (items : List Stance) (i : ℕ) (a b : Stance) → slice_get items i ≡ Some a → sum_by value (slice_set items i b) + value a
    ≡ sum_by value items + value b
sum_set [] i a b e = absurd (none_some e)
sum_set (c ∷ rest) zero a b e =
    let same : value c ≡ value a = ap value (some_same e) in omega (arith, sum_by-cons value b rest, sum_by-cons value c rest, same)
sum_set (c ∷ rest) (suc i) a b e = omega (arith, sum_by-cons value c (slice_set rest i b), sum_by-cons value c rest, sum_set rest i a b e)

-- WHAT SPEAKS OF STANCES ALONE

module _ (F : List Stance → Type 0) where
  of_stances : World → Type 0
  of_stances w = F (stances w)

  same_leaf : (w : World) (y : ℕ) (leaf new : Leaf) → slice_get w.leaves y ≡ Some leaf → stance new.phase new.current ≡ stance leaf.phase leaf.current
      → F (stances w) → F (stances (with_leaf w y new))
  same_leaf w y leaf new there same h =
      subst F (sym (map_set (λ (l : Leaf). stance l.phase l.current) w.leaves y new
      ∙ ap (slice_set (stances w) y) same
      ∙ there_set (stances w) y (stance leaf.phase leaf.current)
      (slice_get-map (λ (l : Leaf). stance l.phase l.current) w.leaves y ∙ ap (option_map (λ (l : Leaf). stance l.phase l.current)) there))) h

  same_slot : (w : World) (slot_id : SlotId) (slot : Slot) → F (stances w) → F (stances (with_slot w slot_id slot))
  same_slot = slot_by (λ w. F (stances w)) (λ w x leaf slots e h. same_leaf w x leaf _ e refl h) (λ w sessions h. h)

  same_settled : (system : System) (x : ℕ) (w : World) → F (stances w) → Ends (λ w. F (stances w)) (settled system x w)
  same_settled system x w h = need_found (λ w. F (stances w)) _ _ _ (λ leaf there. when_ends (λ w. F (stances w)) _ _ _ (gives _ _
      (same_leaf w x leaf _ there refl h)))

-- GAINS

abbrev pub goes : Phase → Bool
goes Pending = false
goes Running = true
goes Blocked = false
goes Serving = false
goes Handling = true
goes Exited = false

-- the x-th leaf runs or handles
pub record IsGoing (x : ℕ) (ts : List Stance) : Type 0 where
  pub found : Stance
  pub there : slice_get ts x ≡ Some found
  pub goes : goes found.phase ≡ true

-- n is lessened by 2 at most, and raised where the x-th leaf does not go on
pub record Gains (n x : ℕ) (ts : List Stance) : Type 0 where
  pub least : n ≤ sum_by value ts + 2
  pub more : IsGoing x ts ⊎ (n < sum_by value ts)

-- what a leaf is worth that runs or handles; it is worth one more when it is blocked
going_worth : (phase : Phase) → goes phase ≡ true → worth_of phase ≡ 1
going_worth Pending g = refl
going_worth Running g = refl
going_worth Blocked g = absurd (true≢false (sym g))
going_worth Serving g = absurd (true≢false (sym g))
going_worth Handling g = refl
going_worth Exited g = absurd (true≢false (sym g))

-- a step of a leaf that runs or handles
module _ (d : Doing) (there : slice_get (stances d.world) d.x ≡ Some (stance d.leaf.phase d.leaf.current)) (going : goes d.leaf.phase ≡ true) where
  stays : Gains (sum_by value (stances d.world)) d.x (stances d.world)
  stays = record { least = omega arith; more = inl (record { found = stance d.leaf.phase d.leaf.current; there = there; goes = going }) }

  stands_anew : (w : World) (leaf : Leaf) → stances w ≡ stances d.world → stances (with_leaf w d.x leaf) ≡ slice_set (stances d.world) d.x
      (stance leaf.phase leaf.current)
  stands_anew w leaf same =
      map_set (λ (l : Leaf). stance l.phase l.current) w.leaves d.x leaf ∙ ap (λ ts. slice_set ts d.x (stance leaf.phase leaf.current)) same

  goes_on : (w : World) (operands locals : List ℕ) → length locals ≡ length d.leaf.locals → stances w ≡ stances d.world
      → Gains (sum_by value (stances d.world)) d.x (stances (with_leaf w d.x (record d.leaf { operands = operands; locals = locals })))
  goes_on w operands locals e same =
      subst (Gains (sum_by value (stances d.world)) d.x)
      (sym (stands_anew w (record d.leaf { operands = operands; locals = locals }) same ∙ there_set (stances d.world) d.x _ there)) stays

  blocks : (w : World) (operands : List ℕ) → stances w ≡ stances d.world
      → Gains (sum_by value (stances d.world)) d.x (stances (with_leaf w d.x (record d.leaf { operands = operands; phase = Blocked })))
  blocks w operands same =
      subst (Gains (sum_by value (stances d.world)) d.x) (sym (stands_anew w (record d.leaf { operands = operands; phase = Blocked }) same)) (
      let sum = sum_set (stances d.world) d.x (stance d.leaf.phase d.leaf.current) (stance Blocked d.leaf.current) there in
      let one = going_worth d.leaf.phase going in
      record { least = omega (arith, sum, one); more = inr (omega (arith, sum, one)) })

  instruct_gains : (i : Instruction) → Ends (λ w. Gains (sum_by value (stances d.world)) d.x (stances w)) (instruct d i)
  instruct_gains i = plain_instruct_by d (λ w. stances w ≡ stances d.world) (λ w. Gains (sum_by value (stances d.world)) d.x (stances w)) refl
      (same_slot (λ ts. ts ≡ stances d.world)) (same_slot (Gains (sum_by value (stances d.world)) d.x)) goes_on blocks (λ w requests h. h)
      (same_settled (Gains (sum_by value (stances d.world)) d.x) d.system d.x) (λ w sessions h. h) i

  -- the same leaf, further on in its statements
  moves_on : (leaf : Leaf) → stance leaf.phase leaf.current ≡ stance d.leaf.phase d.leaf.current
      → Gains (sum_by value (stances d.world)) d.x (stances (standing d leaf))
  moves_on leaf same =
      subst (Gains (sum_by value (stances d.world)) d.x)
      (sym (stands_anew d.world leaf refl ∙ ap (slice_set (stances d.world) d.x) same ∙ there_set (stances d.world) d.x _ there)) stays

-- REPLIES

-- a leaf that is blocked goes on
resumed_stances : (w : World) (ts : List Stance) (y : ℕ) (h : Option Current) (f : List ℕ → List ℕ) → stances w ≡ ts → slice_get ts y ≡ Some (stance Blocked h)
    → (r : Option ℕ) × (stances (unblocked w y f) ≡ slice_set ts y (stance (resumed h r) h))
resumed_stances w ts y h f same there = by (slice_get w.leaves y) refl
  where
    seen : slice_get (stances w) y ≡ option_map (λ (l : Leaf). stance l.phase l.current) (slice_get w.leaves y)
    seen = slice_get-map (λ (l : Leaf). stance l.phase l.current) w.leaves y

    current_of : Option Stance → Option Current
    current_of None = None
    current_of (Some t) = t.current

    by : (o : Option Leaf) → slice_get w.leaves y ≡ o → (r : Option ℕ) × (stances (active_again w y f o) ≡ slice_set ts y (stance (resumed h r) h))
    by None e = absurd (none_some (sym (ap (option_map (λ (l : Leaf). stance l.phase l.current)) e) ∙ (sym seen ∙ (ap (λ us. slice_get us y) same ∙ there))))
    by (Some leaf) e =
        let found = sym (ap (option_map (λ (l : Leaf). stance l.phase l.current)) e) ∙ (sym seen ∙ (ap (λ us. slice_get us y) same ∙ there)) in (
          leaf.reacting,
          map_set (λ (l : Leaf). stance l.phase l.current) w.leaves y
              (record leaf { phase = resumed leaf.current leaf.reacting; operands = f leaf.operands })
              ∙ ap (λ us. slice_set us y (stance (resumed leaf.current leaf.reacting) leaf.current)) same
              ∙ ap (λ (g : Option Current). slice_set ts y (stance (resumed g leaf.reacting) g)) (ap current_of found),
        )

resumed_less : (h : Option Current) (r : Option ℕ) → suc (worth_of (resumed h r)) ≡ worth_of Blocked
resumed_less None None = refl
resumed_less None (Some i) = refl
resumed_less (Some current) r = refl

-- a leaf that handles a request replies to a client that is blocked
module _ (d : Doing) (mine : Current) (there : slice_get (stances d.world) d.x ≡ Some (stance Handling (Some mine)))
    (s : Session) (h : Option Current) (client : slice_get (stances d.world) s.client ≡ Some (stance Blocked h)) where
  abbrev served : List Stance
  served = slice_set (stances d.world) d.x (stance Serving None)

  other : d.x ≡ s.client → ⊥
  other e = differ (some_same (sym there ∙ (ap (slice_get (stances d.world)) e ∙ client)))
    where
      differ : stance Handling (Some mine) ≡ stance Blocked h → ⊥
      differ e = true≢false (ap (λ (t : Stance). goes t.phase) e)

  reply_stances : (w : World) (f : List ℕ → List ℕ) → stances w ≡ served
      → Gains (sum_by value (stances d.world)) d.x (stances (unblocked w s.client f))
  reply_stances w f same =
      let sees : slice_get served s.client ≡ Some (stance Blocked h) = get_other (stances d.world) d.x s.client (stance Serving None) other ∙ client in
      let first = sum_set (stances d.world) d.x (stance Handling (Some mine)) (stance Serving None) there in
      let after = resumed_stances w served s.client h f same sees in
      let second = sum_set served s.client (stance Blocked h) (stance (resumed h after.0) h) sees in
      let less = resumed_less h after.0 in
      subst (Gains (sum_by value (stances d.world)) d.x) (sym after.1)
      (record { least = omega (arith, first, second, less); more = inr (omega (arith, first, second, less)) })

  serves : stances (standing d (serving d.leaf)) ≡ served
  serves = map_set (λ (l : Leaf). stance l.phase l.current) d.world.leaves d.x (serving d.leaf)

  reply_slot : (slot : Slot) → stances (with_slot (standing d (serving d.leaf)) s.slot_id slot) ≡ served
  reply_slot slot = same_slot (λ ts. ts ≡ served) (standing d (serving d.leaf)) s.slot_id slot serves

  abbrev P : World → Type 0
  P w = Gains (sum_by value (stances d.world)) d.x (stances w)

  replied_gains : (k : ℕ) (f : List ℕ → List ℕ) → Ends P (replied d k s f)
  replied_gains k f = gives _ _ (reply_stances (with_slot (standing d (serving d.leaf)) s.slot_id (Link k)) f (reply_slot (Link k)))

  close_gains : (k : ℕ) → Ends P (reply_close d k s)
  close_gains k =
      let w = with_slot (standing d (serving d.leaf)) s.slot_id Empty in
      when_ends P (all_empty s.slots) WrongKind _ (when_ends P (paid d.system (closed d k s)) ExceededQuota _
      (gives (closed d k s) Quiet (reply_stances (record w { sessions = slice_set w.sessions k None }) (λ operands. operands) (reply_slot Empty))))

  reply_gains : (k : ℕ) (section : Section) → Ends P (reply d k section s)
  reply_gains k Main = fails _
  reply_gains k Opening = when_ends P _ _ _ (replied_gains k _)
  reply_gains k (Upgrading l) = replied_gains k _
  reply_gains k (Calling l) = pop_ends P _ _ (λ a rest. replied_gains k _)
  reply_gains k (Closing l) = close_gains k
  reply_gains k (Reacting i) = fails _

-- REQUESTS THAT ARE ACCEPTED, AND SIGNALS THAT ARE TAKEN

signal_gains : (d : Doing) (current : Option Current) → slice_get (stances d.world) d.x ≡ Some (stance Serving current) → (i : ℕ) (signals : List Signal)
    → Ends (λ w. Gains (sum_by value (stances d.world)) d.x (stances w)) (take_signal d i signals)
signal_gains d current there i signals =
    need_found (λ w. Gains (sum_by value (stances d.world)) d.x (stances w)) _ _ _ (λ body e.
    let leaf = reacting_to d.leaf i signals body in
    let new = stance leaf.phase leaf.current in
    let sum = sum_set (stances d.world) d.x (stance Serving current) new there in
    gives _ _ (subst (Gains (sum_by value (stances d.world)) d.x) (sym (map_set (λ (l : Leaf). stance l.phase l.current) d.world.leaves d.x leaf))
    (record {
      least = omega (arith, sum);
      more = inl (record { found = new; there = get_set (stances d.world) d.x (stance Serving current) new there; goes = refl });
    })))

accept_gains : (d : Doing) (current : Option Current) → slice_get (stances d.world) d.x ≡ Some (stance Serving current) → (r : Request) (rest : List Request)
    → Ends (λ w. Gains (sum_by value (stances d.world)) d.x (stances w)) (accept d r rest)
accept_gains d current there r rest =
    accept_by (λ w. Gains (sum_by value (stances d.world)) d.x (stances w)) d r rest (λ old e.
    let new = stance (begun d r old).phase (begun d r old).current in
    let sum = sum_set (stances d.world) d.x (stance Serving current) new there in
    subst (Gains (sum_by value (stances d.world)) d.x) (sym (map_set (λ (l : Leaf). stance l.phase l.current) d.world.leaves d.x (begun d r old)))
    (record {
      least = omega (arith, sum);
      more = inl (record {
        found = new;
        there = get_set (stances d.world) d.x
            (stance Serving current) new there;
        goes = refl;
      });
    }))

-- THE END OF `main`

released_worth : (name : List ℕ) (after : Option (List ℕ)) (phase : Phase) → worth_of (released name after phase) ≡ worth_of phase
released_worth name after Pending = by (is_named name after)
  where
    by : (b : Bool) → worth_of (if b then Running else Pending) ≡ 1
    by true = refl
    by false = refl
released_worth name after Running = refl
released_worth name after Blocked = refl
released_worth name after Serving = refl
released_worth name after Handling = refl
released_worth name after Exited = refl

all_released_worth : (name : List ℕ) (components : List Component) (leaves : List Leaf)
    → sum_by value (map (λ (l : Leaf). stance l.phase l.current) (all_released name components leaves)) ≡ sum_by value (map (λ
    (l : Leaf). stance l.phase l.current) leaves)
all_released_worth name [] leaves = refl
all_released_worth name (c ∷ components) [] = refl
all_released_worth name (c ∷ components) (leaf ∷ leaves) =
    let one = released_worth name c.node.after leaf.phase in
    omega (
      arith,
      sum_by-cons value (stance (released name c.node.after leaf.phase) leaf.current)
          (map (λ (l : Leaf). stance l.phase l.current) (all_released name components leaves)),
      sum_by-cons value (stance leaf.phase leaf.current) (map (λ (l : Leaf). stance l.phase l.current) leaves),
      one,
      all_released_worth name components leaves,
    )

module _ (d : Doing) (there : slice_get (stances d.world) d.x ≡ Some (stance d.leaf.phase d.leaf.current)) (going : goes d.leaf.phase ≡ true) where
  -- a leaf that runs or handles serves then
  serves_then : Ends (λ w. Gains (sum_by value (stances d.world)) d.x (stances w)) (Ok (standing d (serving d.leaf), Quiet))
  serves_then =
      let sum = sum_set (stances d.world) d.x (stance d.leaf.phase d.leaf.current) (stance Serving None) there in
      let one = going_worth d.leaf.phase going in
      gives _ _ (subst (Gains (sum_by value (stances d.world)) d.x) (sym (map_set (λ (l : Leaf). stance l.phase l.current) d.world.leaves d.x (serving d.leaf)))
      (record { least = omega (arith, sum, one); more = inr (omega (arith, sum, one)) }))

  main_gains : (provides : Option (List ℕ)) (signals : ℕ) → Ends (λ w. Gains (sum_by value (stances d.world)) d.x (stances w)) (main_ended d provides signals)
  main_gains (Some service) signals = serves_then
  main_gains None (suc n) = serves_then
  main_gains None zero =
      let sum = sum_set (stances d.world) d.x (stance d.leaf.phase d.leaf.current) (stance Exited d.leaf.current) there in
      let one = going_worth d.leaf.phase going in
      let w = standing d (exited d.leaf) in
      let same = ap (sum_by value) (map_set (λ (l : Leaf). stance l.phase l.current) d.world.leaves d.x (exited d.leaf)) in
      let all = all_released_worth d.component.node.name d.system.components w.leaves in
      when_ends (λ w. Gains (sum_by value (stances d.world)) d.x (stances w)) _ _ _
      (gives _ _ (record { least = omega (arith, sum, same, all, one); more = inr (omega (arith, sum, same, all, one)) }))

-- STEPS

handling_at : (phase : Phase) (current : Option Current) (mine : Current) → Fits phase current → goes phase ≡ true → current ≡ Some mine → phase ≡ Handling
handling_at Pending current mine fits g e = absurd (true≢false (sym g))
handling_at Running None mine fits g e = absurd (none_some e)
handling_at Running (Some current) mine fits g e = absurd fits
handling_at Blocked current mine fits g e = absurd (true≢false (sym g))
handling_at Serving current mine fits g e = absurd (true≢false (sym g))
handling_at Handling current mine fits g e = refl
handling_at Exited current mine fits g e = absurd (true≢false (sym g))

-- the client of a session
abbrev IsBlockedAt : World → Session → Type 0
IsBlockedAt w s = (h : Option Current) × (slice_get (stances w) s.client ≡ Some (stance Blocked h))

section_gains : (d : Doing) → slice_get (stances d.world) d.x ≡ Some (stance d.leaf.phase d.leaf.current) → Fits d.leaf.phase d.leaf.current → goes d.leaf.phase
    ≡ true
    → ((mine : Current) → d.leaf.current ≡ Some mine → (s : Session) → session_at d.world mine.session ≡ Some s → IsBlockedAt d.world s)
    → (o : Option Current) (reacting : Option ℕ) → d.leaf.current ≡ o
    → Ends (λ w. Gains (sum_by value (stances d.world)) d.x (stances w)) (section_ended d o reacting)
section_gains d there fits going clients None None e = main_gains d there going d.component.node.provides d.component.node.signals
section_gains d there fits going clients None (Some i) e = serves_then d there going
section_gains d there fits going clients (Some mine) reacting e =
    need_found (λ w. Gains (sum_by value (stances d.world)) d.x (stances w)) (session_at d.world mine.session) WrongKind _ (λ s found.
    let c = clients mine e s found in
    reply_gains d mine (there ∙ ap₂ (λ p h. Some (stance p h)) (handling_at d.leaf.phase d.leaf.current mine fits going e) e) s c.0 c.1 mine.session
    mine.section)

module _ (d : Doing) (there : slice_get (stances d.world) d.x ≡ Some (stance d.leaf.phase d.leaf.current)) (fits : Fits d.leaf.phase d.leaf.current)
    (going : goes d.leaf.phase ≡ true)
    (clients : (mine : Current) → d.leaf.current ≡ Some mine → (s : Session) → session_at d.world mine.session ≡ Some s → IsBlockedAt d.world s) where
  body_gains : (loops : List Round) → Ends (λ w. Gains (sum_by value (stances d.world)) d.x (stances w)) (body_ended d loops)
  body_gains [] = section_gains d there fits going clients d.leaf.current d.leaf.reacting refl
  body_gains (r ∷ loops) = gives _ _ (moves_on d there going _ (by_round (nat_lt (suc r.round) r.count)))
    where
      next_round : Bool → Leaf
      next_round b =
          cond b (record d.leaf { todo = r.body; loops = record r { round = suc r.round } ∷ loops }) (record d.leaf { todo = r.rest; loops = loops })

      by_round : (b : Bool) → stance (cond b (record d.leaf { todo = r.body; loops = record r { round = suc r.round } ∷ loops })
          (record d.leaf { todo = r.rest; loops = loops })).phase (cond b (record d.leaf { todo = r.body; loops = record r { round = suc r.round } ∷ loops })
          (record d.leaf { todo = r.rest; loops = loops })).current ≡ stance d.leaf.phase d.leaf.current
      by_round true = refl
      by_round false = refl

  perform_gains : (todo : Statements) → Ends (λ w. Gains (sum_by value (stances d.world)) d.x (stances w)) (perform d todo)
  perform_gains Done = body_gains d.leaf.loops
  perform_gains (Do i rest) = instruct_gains (record d { leaf = record d.leaf { todo = rest } }) there going i
  perform_gains (If arm other rest) = pop_ends (λ w. Gains (sum_by value (stances d.world)) d.x (stances w)) _ _
      (λ a below. gives _ _ (moves_on d there going _ refl))
  perform_gains (Loop count body rest) = gives _ _ (moves_on d there going _ refl)

oldest_gains : (d : Doing) (current : Option Current) → slice_get (stances d.world) d.x ≡ Some (stance Serving current)
    → (found : Option (Request × List Request))
    → is_some found ≡ true → Ends (λ w. Gains (sum_by value (stances d.world)) d.x (stances w)) (accept_oldest d found)
oldest_gains d current there None waits = absurd (true≢false (sym waits))
oldest_gains d current there (Some p) waits = accept_gains d current there p.0 p.1

serve_gains : (d : Doing) (current : Option Current) → slice_get (stances d.world) d.x ≡ Some (stance Serving current)
    → (f : Option (ℕ × List Signal)) → is_some f || is_some (oldest d.world d.x d.world.requests) ≡ true
    → Ends (λ w. Gains (sum_by value (stances d.world)) d.x (stances w)) (serve d f)
serve_gains d current there None waits = oldest_gains d current there (oldest d.world d.x d.world.requests) waits
serve_gains d current there (Some p) waits = signal_gains d current there p.0 p.1

step_gains : (d : Doing) → slice_get (stances d.world) d.x ≡ Some (stance d.leaf.phase d.leaf.current) → Fits d.leaf.phase d.leaf.current
    → ((mine : Current) → d.leaf.current ≡ Some mine → (s : Session) → session_at d.world mine.session ≡ Some s → IsBlockedAt d.world s)
    → (phase : Phase) → d.leaf.phase ≡ phase → runs d.world d.x d.leaf phase ≡ true
    → Ends (λ w. Gains (sum_by value (stances d.world)) d.x (stances w)) (step_in d phase)
step_gains d there fits clients Pending e can = absurd (true≢false (sym can))
step_gains d there fits clients Running e can = perform_gains d there fits (ap goes e) clients d.leaf.todo
step_gains d there fits clients Blocked e can = absurd (true≢false (sym can))
step_gains d there fits clients Serving e can =
    serve_gains d d.leaf.current (there ∙ ap (λ p. Some (stance p d.leaf.current)) e) (first_signal d.leaf.signals) can
step_gains d there fits clients Handling e can = perform_gains d there fits (ap goes e) clients d.leaf.todo
step_gains d there fits clients Exited e can = absurd (true≢false (sym can))

-- whom a current request is of is blocked
hands_blocked : (system : System) (w : World) → IsLinkedWorld system w → (x : ℕ) (leaf : Leaf) (mine : Current) → slice_get w.leaves x ≡ Some leaf
    → leaf.current ≡ Some mine → (s : Session) → session_at w mine.session ≡ Some s → IsBlockedAt w s
hands_blocked system w h x leaf mine there current s found =
    let at : stance_in (slice_get w.leaves x) ≡ Some (stance leaf.phase (Some mine)) = ap stance_in there ∙ ap (λ g. Some (stance leaf.phase g)) current in
    let all_current = h.handles x leaf.phase mine at in
    let seen : outline_in (session_at w mine.session) ≡ Some (outline s) = ap outline_in found in
    let server : s.server ≡ x = ap (λ (q : Session). q.server) (some_same (sym seen ∙ all_current.1)) ∙ all_current.2 in
    let held : at_current mine.session (stance_in (slice_get w.leaves s.server)) ≡ 1 =
    ap (λ y. at_current mine.session (stance_in (slice_get w.leaves y))) server ∙ ap (at_current mine.session) at ∙ ap one_if (equal_self mine.session) in
    elim (h.stands mine.session (outline s) seen) [
      | inl f ↦ absurd (omega (arith, held, f.2))
      | inr f ↦ let b = h.waits mine.session (outline s) seen f.0 in (
        b.0,
        slice_get-map (λ (l : Leaf). stance l.phase l.current) w.leaves s.client ∙ (sym
            (plain (slice_get w.leaves s.client)) ∙ b.1),
      )
    ]
  where
    plain : (o : Option Leaf) → stance_in o ≡ option_map (λ (l : Leaf). stance l.phase l.current) o
    plain None = refl
    plain (Some leaf) = refl

next_by : (system : System) (w : World) (x : ℕ) → IsLinkedWorld system w → (c : Option Component) (o : Option Leaf) → slice_get w.leaves x ≡ o
    → runs_as w x c o ≡ true → Ends (λ v. Gains (sum_by value (stances w)) x (stances v)) (step_of system w x c o)
next_by system w x h (Some c) (Some leaf) there can =
    let d : Doing = record { system = system; world = w; x = x; component = c; leaf = record leaf { steps = suc leaf.steps } } in
    step_gains d (slice_get-map (λ (l : Leaf). stance l.phase l.current) w.leaves x ∙ ap (option_map (λ (l : Leaf). stance l.phase l.current)) there)
    (h.fits x (stance leaf.phase leaf.current) (ap stance_in there))
    (λ mine current s found. hands_blocked system w h x leaf mine there current s found) leaf.phase
    refl can
next_by system w x h (Some c) None there can = absurd (true≢false (sym can))
next_by system w x h None o there can = absurd (true≢false (sym can))

-- a turn that is a step lessens what the leaves are worth by 2 at most, and raises it where the leaf can not go on
pub next_gains : (system : System) (w : World) (x : ℕ) (new : World) (event : Event) → IsLinkedWorld system w → can_run system w x ≡ true
    → next system w x ≡ Ok (new, event) → Gains (sum_by value (stances w)) x (stances new)
next_gains system w x new event h can stepped = (next_by system w x h (slice_get system.components x) (slice_get w.leaves x) refl can).holds new event stepped
