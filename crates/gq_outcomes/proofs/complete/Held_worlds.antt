-- Worlds in which each server that does a section is held by the thread that it does it for, with its own slots and all sessions below these.
use Rattle.std.proofs.Common.{◌≡◌, ◌≢◌, ◌⊎◌, inl, inr, ℕ, zero, suc, ◌==◌, ◌&&◌, Bool, true, false, cond, [], Option, Some, None, Ok, refl, ap, sym, ◌∙◌, subst}
use Rattle.std.specs.Prelude.{slice_get}
use Rattle.std.proofs.lemmas.Bool.{true≢false}
use Rattle.std.proofs.lemmas.Bool.Decides.{eqb_tells}
use Rattle.gq_model.specs.declared.phase.Phase.{Phase}
use Rattle.gq_model.specs.declared.phase.Phase.TheVariants.{Pending, Running, Blocked, Serving, Handling, Exited}
use Rattle.gq_model.specs.machine.Doing.{Event}
use Rattle.gq_model.specs.machine.Requests.{free_place}
use Rattle.gq_model.specs.machine.Scenario.{Component, System}
use Rattle.gq_model.specs.machine.Step.{next}
use Rattle.gq_model.specs.machine.Sums.{paid}
use Rattle.gq_model.specs.declared.program.Instruction.{Instruction}
use Rattle.gq_model.specs.declared.program.OperandSlot.{OperandSlot}
use Rattle.gq_model.specs.machine.Program.{Statements, Do}
use Rattle.gq_races.specs.Races.{changes_own}
use Rattle.gq_model.specs.machine.World.{Waiting, SlotId, In_leaf, In_session, In_object, Session, Current, Leaf, World, session_at, slot_at, slot_id_of}
use Rattle.gq_model.proofs.Small_facts.{none_some, some_same}
use Rattle.gq_laws.specs.Session_links.{Belongs, Fits, links, outline, outline_in, stance, stance_in}
use Rattle.gq_laws.proofs.Outside_step_untouched.{outlined}
use Rattle.gq_laws.proofs.session_links.Asked_request_changes.{same_current, same_phase}
use Rattle.gq_laws.proofs.verified_programs.Use_chains.{Uses}
use Rattle.gq_determined.specs.internal.Threads.{Tracked, anew, is_active, moved, stepped_to, thread_by, who, IsSameThread}
use Rattle.gq_determined.proofs.thread_positions.Single_thread_position.{root_at, IsByCurrent, IsPlaced, IsWaiting, Above}
use Rattle.gq_determined.proofs.thread_positions.Single_thread_position.{all_above, by_current_of, handled, root_waits}
use Rattle.gq_determined.proofs.thread_positions.Turn_thread_position.{IsServing, IsWorking, lives_who, who_is}
use Rattle.gq_determined.proofs.thread_positions.First_request_given.{IsGiven, given_left, given_placed, given_right, i_else, lives, moved_else, moved_here}
use Rattle.gq_determined.proofs.thread_positions.First_request_given.{own_new, serving_else, serving_who, who_same, x_else}
use Rattle.gq_determined.proofs.thread_steps.Own_steps.{anew_else, anew_here, not_free}
use Rattle.gq_determined.proofs.thread_steps.Stateless_thread_agreement.{IsStill, Solo, solo}
use Rattle.gq_determined.proofs.thread_steps.Thread_step_frame.{accepts_or_not}
use Rattle.gq_determined.proofs.thread_steps.Tracked_step_world.{fits_active, fresh, kept_new, leaf_of, named_session, same_currents, still_placed}
use Rattle.gq_outcomes.proofs.complete.Unsubmitted_signals.{Unsubmitted, goes_on, no_flag, unsubmitted_next}

-- a world; of each number of a session the leaf in whose own slots it stands, over however many sessions; and of each leaf the thread that holds it
pub record Held : Type 0 where
  pub world : World
  pub base : ℕ → ℕ
  pub hold : ℕ → ℕ

-- the leaf in whose own slots a slot is
abbrev pub base_at : (ℕ → ℕ) → SlotId → ℕ
base_at base (In_leaf y a) = y
base_at base (In_session j a) = base j
base_at base (In_object j) = base j

-- whose all that is
abbrev pub view : Held → Tracked
view m = record { world = m.world; root = λ k. m.hold (m.base k); own = m.hold; wrote = λ y. [] }

-- TURNS

abbrev pub is_serving : Phase → Bool
is_serving Pending = false
is_serving Running = false
is_serving Blocked = false
is_serving Serving = true
is_serving Handling = false
is_serving Exited = false

abbrev pub serving_in : Option Leaf → Bool
serving_in None = false
serving_in (Some l) = is_serving l.phase

abbrev pub active_in : Option Leaf → Bool
active_in None = false
active_in (Some l) = is_active l.phase

-- a server that takes a request is the thread's whose request it is, if it is one of these
abbrev pub holding : Held → ℕ → ℕ → Bool → Held
holding m x i b = record { world = m.world; base = m.base; hold = moved b x i m.hold }

abbrev pub taken : (ℕ → Bool) → Held → ℕ → ℕ → Held
taken holds m x i = holding m x i (serving_in (slice_get m.world.leaves x) && holds x)

-- a new session stands where its slot is
abbrev pub new_base : (ℕ → ℕ) → ℕ → Option Session → ℕ
new_base base i None = i
new_base base i (Some s) = base_at base s.slot_id

abbrev pub after : Held → ℕ → World → Held
after m i new =
    let k = free_place m.world.sessions in
    record { world = new; base = anew m.base k (new_base m.base i (session_at new k)); hold = m.hold }

-- a leaf that has ended a section is its own again
abbrev pub freed : Bool → ℕ → (ℕ → ℕ) → ℕ → ℕ
freed true x f = f
freed false x f = anew f x x

abbrev pub parting : Held → ℕ → Bool → Held
parting m x b = record { world = m.world; base = m.base; hold = freed b x m.hold }

abbrev pub parted : Held → ℕ → Held
parted m x = parting m x (active_in (slice_get m.world.leaves x))

-- after a turn of the x-th leaf for the thread i, which leads to a world
abbrev pub turn : (ℕ → Bool) → Held → ℕ → ℕ → World → Held
turn holds m x i new = parted (after (taken holds m x i) i new) x

-- WHAT FITS

abbrev pub IsBased : Held → Type 0
IsBased m = (k : ℕ) (s : Session) → session_at m.world k ≡ Some s → m.base k ≡ base_at m.base s.slot_id

-- it does a section
abbrev pub InSection : World → ℕ → Type 0
InSection w y = (phase : Phase) × (q : Current) × ((links w).stances y ≡ Some (stance phase (Some q)))

pub record IsHeld (u : System) (holds : ℕ → Bool) (m : Held) : Type 0 where
  pub placed : IsPlaced u (view m)
  pub based : IsBased m
  pub whole : (y : ℕ) → m.hold (m.hold y) ≡ m.hold y
  -- a leaf that can be held is held just where it does a section
  pub only : (y : ℕ) → m.hold y ≢ y → InSection m.world y
  pub busy : (y : ℕ) (phase : Phase) (q : Current) → holds y ≡ true → (links m.world).stances y ≡ Some (stance phase (Some q)) → m.hold y ≢ y
  pub free : (y : ℕ) → holds y ≡ false → m.hold y ≡ y
  -- no signal is submitted
  pub calm : Unsubmitted m.world

-- a leaf that is never held changes no own slot in a section
pub record AreQuiet (holds : ℕ → Bool) (w : World) : Type 0 where
  pub keeps : (x : ℕ) (leaf : Leaf) (q : Current) (i : Instruction) (rest : Statements) → slice_get w.leaves x ≡ Some leaf → leaf.current ≡ Some q
      → holds x ≡ false → leaf.todo ≡ Do i rest → changes_own i ≡ false

-- of a thread is what is of its slot's leaf
root_base : (m : Held) (q : SlotId) → m.hold (base_at m.base q) ≡ root_at m.hold (λ k. m.hold (m.base k)) q
root_base m (In_leaf y a) = refl
root_base m (In_session j a) = refl
root_base m (In_object j) = refl

-- the same with equal roots, whatever was shown
placed_as : (u : System) (g h : Tracked) → g.world ≡ h.world → g.root ≡ h.root → g.own ≡ h.own → IsPlaced u g → IsPlaced u h
placed_as u g h world root own t =
    let s = subst (IsPlaced u) (λ e. record { world = world e; root = root e; own = own e; wrote = g.wrote }) t in
    record {
      acyclic = s.acyclic;
      linked = s.linked;
      below = s.below;
      waits = s.waits;
      uses = s.uses;
      lives = s.lives;
      main = s.main;
      held = s.held;
      signals = s.signals;
    }

pub held_still : (holds : ℕ → Bool) (m : Held) → AreQuiet holds m.world
    → ((y : ℕ) (phase : Phase) (q : Current) → holds y ≡ true → (links m.world).stances y ≡ Some (stance phase (Some q)) → m.hold y ≢ y) → IsStill (view m)
held_still holds m quiet busy = record { keeps = λ x leaf q i rest there at own is. by x leaf q i rest there at own is (holds x) refl }
  where
    by : (x : ℕ) (leaf : Leaf) (q : Current) (i : Instruction) (rest : Statements) → slice_get m.world.leaves x ≡ Some leaf → leaf.current ≡ Some q
        → m.hold x ≡ x → leaf.todo ≡ Do i rest → (b : Bool) → holds x ≡ b → changes_own i ≡ false
    by x leaf q i rest there at own is true e =
        absurd (busy x leaf.phase q e (ap stance_in there ∙ ap (λ o. Some (stance leaf.phase o)) at) own)
    by x leaf q i rest there at own is false e = quiet.keeps x leaf q i rest there at e is

inactive_none : (phase : Phase) (current : Option Current) → Fits phase current → is_active phase ≡ false → current ≡ None
inactive_none Serving None f e = refl
inactive_none Exited None f e = refl
inactive_none Serving (Some q) f e = absurd f
inactive_none Exited (Some q) f e = absurd f
inactive_none Pending current f e = absurd (true≢false e)
inactive_none Running current f e = absurd (true≢false e)
inactive_none Blocked current f e = absurd (true≢false e)
inactive_none Handling current f e = absurd (true≢false e)

-- WHERE SESSIONS WAIT

module _ (u : System) (m : Held) (t : IsPlaced u (view m)) (based : IsBased m) where
  abbrev g : Tracked
  g = view m

  abbrev IsBlocked : ℕ → Type 0
  IsBlocked y = (current : Option Current) × ((links m.world).stances y ≡ Some (stance Blocked current))

  -- a session's slot, and where it waits
  at_base : (k : ℕ) (a : IsWaiting u g t k) → ((q : Current) → a.current ≡ Some q → IsBlocked (m.base q.session)) → IsBlocked (m.base k)
  at_base k a up = by a.session.slot_id (based k a.session a.there) (by_current_of u g t k a)
      (t.linked.belongs k (outline a.session) (ap outline_in a.there))
    where
      by : (q : SlotId) → m.base k ≡ base_at m.base q → IsByCurrent m.hold m.world q → Belongs (links m.world) q a.session.client → IsBlocked (m.base k)
      by (In_leaf y i) is named b = (a.current, ap (links m.world).stances (is ∙ b) ∙ a.client)
      by (In_session j i) is named b =
          let s = outlined (session_at m.world j) b.0 b.1 in
          let server : s.0.server ≡ a.session.client = ap (λ (s : Session). s.server) s.2 ∙ b.3 in
          let p = named s.0 s.1 Blocked a.current (ap (links m.world).stances server ∙ a.client) in
          subst IsBlocked (ap m.base p.2 ∙ sym is) (up p.0 p.1)
      by (In_object j) is named b = absurd b

  base_above : (n k : ℕ) → Above u g t n k → IsBlocked (m.base k)
  base_above zero k f =
      at_base k f.waiting (λ q e.
      let none : f.waiting.current ≡ None = same_current (sym f.waiting.client ∙ (ap (links m.world).stances f.client ∙ f.at)) in
      absurd (none_some (sym none ∙ e)))
  base_above (suc n) k p =
      at_base k p.0.waiting (λ q e.
      let same : q ≡ p.0.parent = some_same (sym e ∙ same_current (sym p.0.waiting.client ∙ p.0.at)) in
      subst (λ (c : Current). IsBlocked (m.base c.session)) (sym same) (base_above n p.0.parent.session p.1))

  -- the leaf in whose own slots a session that waits stands waits, too
  pub base_blocked : (k : ℕ) → IsWaiting u g t k → IsBlocked (m.base k)
  base_blocked k a = let up = all_above u g t k a in base_above up.0 k up.1

  -- a leaf that does not work holds nothing that waits, and is nobody's thread
  module _ (x : ℕ) (idle : (current : Option Current) → (links m.world).stances x ≡ Some (stance Blocked current) → ⊥) where
    pub base_else : (k : ℕ) → IsWaiting u g t k → m.base k ≢ x
    base_else k a e = let b = base_blocked k a in idle b.0 (ap (links m.world).stances (sym e) ∙ b.1)

    pub root_else : (k : ℕ) → IsWaiting u g t k → m.hold (m.base k) ≢ x
    root_else k a e = idle None (ap (links m.world).stances (sym e) ∙ root_waits u g t k a)

-- BEFORE A STEP

module _ (u : System) (holds : ℕ → Bool) (m : Held) (h : IsHeld u holds m) (quiet : AreQuiet holds m.world) (i x : ℕ) (is : who (view m) x ≡ Some i) where
  pub record IsReady (b : Bool) : Type 0 where
    pub placed : IsPlaced u (view (holding m x i b))
    pub whole : (y : ℕ) → (holding m x i b).hold ((holding m x i b).hold y) ≡ (holding m x i b).hold y
    pub who_is_i : who (view (holding m x i b)) x ≡ Some i
    pub only : (y : ℕ) → (y ≢ x) ⊎ (b ≡ false) → (holding m x i b).hold y ≢ y → InSection m.world y
    pub busy : (y : ℕ) (phase : Phase) (q : Current) → holds y ≡ true → (links m.world).stances y ≡ Some (stance phase (Some q))
        → (holding m x i b).hold y ≢ y
    pub free : (y : ℕ) → holds y ≡ false → (holding m x i b).hold y ≡ y
    pub takes : (leaf : Leaf) → slice_get m.world.leaves x ≡ Some leaf → leaf.phase ≡ Serving
        → (x ≢ i) × (((holding m x i b).hold x ≡ i) ⊎ (holds x ≡ false))
    pub left : (j : ℕ) → j ≢ i → j ≢ x → (o : Tracked) → IsSameThread j (view m) o → IsSameThread j (view (holding m x i b)) o
    pub right : (j : ℕ) → j ≢ i → j ≢ x → (o : Tracked) → IsSameThread j o (view m) → IsSameThread j o (view (holding m x i b))

  no_section : (leaf : Leaf) → slice_get m.world.leaves x ≡ Some leaf → leaf.phase ≡ Serving → InSection m.world x → ⊥
  no_section leaf there serves s =
      let same : s.0 ≡ Serving = same_phase (sym s.2 ∙ ap stance_in there) ∙ serves in
      none_some (sym (inactive_none s.0 (Some s.1) (h.placed.linked.fits x (stance s.0 (Some s.1)) s.2) (ap is_active same)))

  -- a server that takes a request is its own so far
  idle_x : (leaf : Leaf) → slice_get m.world.leaves x ≡ Some leaf → leaf.phase ≡ Serving → m.hold x ≡ x
  idle_x leaf there serves = elim (eqb_tells (m.hold x) x) [ inl q ↦ q.1 | inr q ↦ absurd (no_section leaf there serves (h.only x q.1)) ]

  pub given_of : IsServing (view m) i x → IsGiven u (view m) i x
  given_of p = record { serving = p; idle = idle_x p.leaf p.there p.serves }

  ready_true : (p : IsServing (view m) i x) → holds x ≡ true → IsReady true
  ready_true p can =
      let t = h.placed in
      let d = given_of p in
      record {
        placed = given_placed u (view m) t i x d;
        whole = whole;
        who_is_i = who_same u (view m) t i x d;
        only = λ y o ne. h.only y (λ own. elim o [
          | inl other ↦ ne (moved_else x i m.hold y (λ e. other (sym own ∙ e)) ∙ own)
          | inr e ↦ absurd (true≢false e)
        ]);
        busy = λ y phase q b at own. elim (eqb_tells (m.hold y) x) [
          | inl e ↦ i_else u (view m) t i x d (ap m.hold (sym (sym own ∙ moved_here x i m.hold y e.1)) ∙ e.1)
          | inr e ↦ h.busy y phase q b at (sym (moved_else x i m.hold y e.1) ∙ own)
        ];
        free = λ y off. moved_else x i m.hold y (λ e. true≢false (sym can ∙ (ap holds (sym e ∙ h.free y off) ∙ off))) ∙ h.free y off;
        takes = λ leaf there serves. (x_else u (view m) t i x d, inl (own_new u (view m) t i x d));
        left = λ j ne nx o s. given_left u (view m) t i x d j ne nx o s;
        right = λ j ne nx o s. given_right u (view m) t i x d j ne nx o s;
      }
    where
      d : IsGiven u (view m) i x
      d = given_of p

      whole : (y : ℕ) → (holding m x i true).hold ((holding m x i true).hold y) ≡ (holding m x i true).hold y
      whole y = elim (eqb_tells (m.hold y) x) [
        | inl q ↦
            let is = moved_here x i m.hold y q.1 in
            ap (moved true x i m.hold) is
            ∙ (moved_else x i m.hold i (i_else u (view m) h.placed i x d) ∙ (lives u (view m) h.placed i x d ∙ sym is))
        | inr q ↦
            let is = moved_else x i m.hold y q.1 in
            ap (moved true x i m.hold) is
            ∙ (moved_else x i m.hold (m.hold y) (λ f. q.1 (sym (h.whole y) ∙ f)) ∙ (h.whole y ∙ sym is))
      ]

  pub ready_by : (b : Bool) → (serving_in (slice_get m.world.leaves x) && holds x) ≡ b → IsReady b
  ready_by false e = record {
    placed = h.placed;
    whole = h.whole;
    who_is_i = is;
    only = λ y o ne. h.only y ne;
    busy = h.busy;
    free = h.free;
    takes = λ leaf there serves. (
      serving_else u (view m) h.placed i x (serving_who (view m) i x is leaf there (serves, h.calm.none x leaf there)),
      inr (sym (ap (λ a. a && holds x) (ap serving_in there ∙ ap is_serving serves)) ∙ e),
    );
    left = λ j ne nx o s. s;
    right = λ j ne nx o s. s;
  }
  ready_by true e = of (who_is (view m) i x is)
    where
      none : (w : IsWorking (view m) i x) → serving_in (slice_get m.world.leaves x) ≡ false
      none w = ap serving_in w.at.there ∙ elim (goes_on (view m) h.calm i x w) [ inl r ↦ ap is_serving r | inr r ↦ ap is_serving r ]

      second : (a b : Bool) → (a && b) ≡ true → b ≡ true
      second true b e = e
      second false b e = absurd (true≢false (sym e))

      of : IsWorking (view m) i x ⊎ IsServing (view m) i x → IsReady true
      of (inl w) = absurd (true≢false (sym e ∙ ap (λ a. a && holds x) (none w)))
      of (inr p) = ready_true p (second (serving_in (slice_get m.world.leaves x)) (holds x) e)

  abbrev pub b0 : Bool
  b0 = serving_in (slice_get m.world.leaves x) && holds x

  pub ready : IsReady b0
  ready = ready_by b0 refl

  -- A STEP

  abbrev pub m1 : Held
  m1 = taken holds m x i

  pub still1 : IsStill (view m1)
  still1 = held_still holds m1 (record { keeps = quiet.keeps }) ready.busy

  -- a server that is not its own is the thread's
  takes_i : (leaf : Leaf) → slice_get m.world.leaves x ≡ Some leaf → leaf.phase ≡ Serving → m1.hold x ≢ x → m1.hold x ≡ i
  takes_i leaf there serves ne = elim (ready.takes leaf there serves).1 [ inl e ↦ e | inr off ↦ absurd (ne (ready.free x off)) ]

  module _ (pays : (z : World) → paid u z ≡ true) (component : Component) (there_c : slice_get u.components x ≡ Some component) (new : World) (event : Event)
      (stepped : next u m.world x ≡ Ok (new, event)) (uses : (k : ℕ) (s : Session) → session_at new k ≡ Some s → Uses u s.client s.server) where
    pub one : Solo u pays (view m1) ready.placed still1 i x ready.who_is_i component there_c new
    one = solo u pays (view m1) ready.placed still1 i x ready.who_is_i component there_c new event stepped

    abbrev t1 : IsPlaced u (view m1)
    t1 = ready.placed

    abbrev k0 : ℕ
    k0 = free_place m.world.sessions

    abbrev a : Leaf
    a = one.a

    pub lives_i : m1.hold i ≡ i
    lives_i = lives_who u (view m1) t1 i x ready.who_is_i

    pub calm2 : Unsubmitted new
    calm2 = unsubmitted_next u m.world x new event h.calm stepped

    stepped_placed : IsPlaced u (stepped_to (view m1) x i (Ok (new, event)))
    stepped_placed = still_placed u (view m1) t1 i x component one.a one.there new event one.done uses lives_i
        (λ accepts ne. takes_i one.a one.there accepts.0 ne)

    abbrev pub m2 : Held
    m2 = after m1 i new

    abbrev b2 : ℕ
    b2 = new_base m.base i (session_at new k0)

    -- a new session is the thread's
    base_new : m1.hold b2 ≡ i
    base_new = by (session_at new k0) refl
      where
        by : (o : Option Session) → session_at new k0 ≡ o → m1.hold (new_base m.base i o) ≡ i
        by None at = lives_i
        by (Some s) at = elim (one.done.rest.slot_ids k0 s at) [
          | inl o ↦ absurd (not_free m.world k0 o.old o.there refl)
          | inr o ↦
              root_base m1 s.slot_id
              ∙ (sym (kept_new u (view m1) t1 i x component one.a one.there new event one.done uses lives_i
              (λ accepts ne. takes_i one.a one.there accepts.0 ne) s.slot_id s.client o.named
              (one.done.linked.belongs k0 (outline s) (ap outline_in at)))
              ∙ fresh u (view m1) t1 i x component one.a one.there new event one.done uses lives_i
              (λ accepts ne. takes_i one.a one.there accepts.0 ne) s.slot_id o.ours)
        ]

    pub roots : anew (λ k. m1.hold (m1.base k)) k0 i ≡ (λ k. m1.hold (anew m.base k0 b2 k))
    roots = λ e k. by (k == k0) k e
      where
        by : (b : Bool) (k : ℕ) → cond b i (m1.hold (m1.base k)) ≡ m1.hold (cond b b2 (m.base k))
        by true k = sym base_new
        by false k = refl

    pub placed2 : IsPlaced u (view m2)
    placed2 = placed_as u (stepped_to (view m1) x i (Ok (new, event))) (view m2) refl roots refl stepped_placed

    -- where sessions stand
    pub live_else : (j : ℕ) (t : Session) → outline_in (session_at m.world j) ≡ Some t → j ≢ k0
    live_else j t e = let p = outlined (session_at m.world j) t e in not_free m.world j p.0 p.1

    pub base_kept : (j : ℕ) → j ≢ k0 → m2.base j ≡ m.base j
    base_kept j ne = anew_else m.base k0 b2 j ne

    at_kept : (q : SlotId) (client : ℕ) → Belongs (links m.world) q client → base_at m2.base q ≡ base_at m.base q
    at_kept (In_leaf y b) client r = refl
    at_kept (In_session j b) client r = base_kept j (live_else j r.0 r.1)
    at_kept (In_object j) client r = absurd r

    current_there : (q : Current) → a.current ≡ Some q → q.session ≢ k0
    current_there q at =
        let r = h.placed.linked.handles x a.phase q (ap stance_in one.there ∙ ap (λ o. Some (stance a.phase o)) at) in
        live_else q.session r.0 r.1

    pub based2 : IsBased m2
    based2 k s at = elim (one.done.rest.slot_ids k s at) [
      | inl o ↦
          base_kept k (not_free m.world k o.old o.there)
          ∙ (h.based k o.old o.there
          ∙ (sym (at_kept o.old.slot_id o.old.client (h.placed.linked.belongs k (outline o.old) (ap outline_in o.there)))
          ∙ ap (base_at m2.base) (sym o.slot_id)))
      | inr o ↦
          ap m2.base o.free
          ∙ (anew_here m.base k0 b2
          ∙ (ap (new_base m.base i) (ap (session_at new) (sym o.free) ∙ at)
          ∙ sym (named s.slot_id s.client o.named (one.done.linked.belongs k (outline s) (ap outline_in at)))))
    ]
      where
        named : (q : SlotId) (client : ℕ) → (place : OperandSlot) × (slot_id_of x a.current place ≡ Some q) → Belongs (links new) q client
            → base_at m2.base q ≡ base_at m.base q
        named (In_leaf y b) client n r = refl
        named (In_session j b) client n r =
            let q = named_session x a.current n.0 j b n.1 in
            base_kept j (λ e. current_there q.0 q.1 (q.2 ∙ e))
        named (In_object j) client n r = absurd r

    -- another leaf does the same section
    section_else : (y : ℕ) → y ≢ x → InSection m.world y → InSection new y
    section_else y ne s =
        let l = same_currents (slice_get m.world.leaves y) (slice_get new.leaves y) (sym (one.done.rest.currents y ne)) s.0 (Some s.1) s.2 in
        (l.0.phase, s.1, ap stance_in l.1 ∙ ap (λ o. Some (stance l.0.phase o)) l.2)

    section_back : (y : ℕ) → y ≢ x → (phase : Phase) (q : Current) → (links new).stances y ≡ Some (stance phase (Some q))
        → (l : Leaf) × ((links m.world).stances y ≡ Some (stance l.phase (Some q)))
    section_back y ne phase q at =
        let l = same_currents (slice_get new.leaves y) (slice_get m.world.leaves y) (one.done.rest.currents y ne) phase (Some q) at in
        (l.0, ap stance_in l.1 ∙ ap (λ o. Some (stance l.0.phase o)) l.2)

    -- the leaf itself, where it does a section now
    busy_here : (phase : Phase) (q : Current) → holds x ≡ true → (links new).stances x ≡ Some (stance phase (Some q)) → m1.hold x ≢ x
    busy_here phase q can at = elim (accepts_or_not a) [
      | inl accepts ↦
          let r = ready.takes one.a one.there accepts.0 in
          elim r.1 [ inl i_is ↦ (λ e. r.0 (sym e ∙ i_is)) | inr off ↦ absurd (true≢false (sym can ∙ off)) ]
      | inr works_on ↦
          let l = leaf_of (slice_get new.leaves x) phase (Some q) at in
          let act = fits_active u (view m1) t1 i x component one.a one.there new event one.done uses lives_i
          (λ accepts ne. takes_i one.a one.there accepts.0 ne) phase q (one.done.linked.fits x (stance phase (Some q)) at) in
          let current : a.current ≡ Some q = sym (one.done.rest.mine works_on l.0 l.1 (ap is_active l.2 ∙ act)) ∙ l.3 in
          ready.busy x a.phase q can (ap stance_in one.there ∙ ap (λ o. Some (stance a.phase o)) current)
    ]

    busy2 : (y : ℕ) (phase : Phase) (q : Current) → holds y ≡ true → (links new).stances y ≡ Some (stance phase (Some q)) → m1.hold y ≢ y
    busy2 y phase q can at = elim (eqb_tells y x) [
      | inl e ↦ subst (λ y. m1.hold y ≢ y) (sym e.1) (busy_here phase q (ap holds (sym e.1) ∙ can) (ap (links new).stances (sym e.1) ∙ at))
      | inr e ↦ let o = section_back y e.1 phase q at in ready.busy y o.0.phase q can o.1
    ]

    only2 : (y : ℕ) → y ≢ x → m1.hold y ≢ y → InSection new y
    only2 y ne other = section_else y ne (ready.only y (inl ne) other)

    -- the leaf itself, where it works on
    only_here : (l : Leaf) → slice_get new.leaves x ≡ Some l → is_active l.phase ≡ true → m1.hold x ≢ x → InSection new x
    only_here l at act ne = by l.current refl
      where
        by : (current : Option Current) → l.current ≡ current → InSection new x
        by (Some q) e = (l.phase, q, ap stance_in at ∙ ap (λ o. Some (stance l.phase o)) e)
        by None e = elim (accepts_or_not a) [
          | inl accepts ↦
              let r = ready.takes one.a one.there accepts.0 in
              absurd (r.0 (sym (ap (thread_by (anew (λ k. m1.hold (m1.base k)) k0 i) x) e) ∙ one.done.taken accepts l at))
          | inr works_on ↦
              let none : a.current ≡ None = sym (one.done.rest.mine works_on l at act) ∙ e in
              let b : b0 ≡ false = ap (λ a. a && holds x) (ap serving_in one.there
              ∙ no_serving a.phase (λ serves. works_on (serves, h.calm.none x one.a one.there))) in
              let s = ready.only x (inr b) ne in
              absurd (none_some (sym none ∙ same_current (sym (ap stance_in one.there) ∙ s.2)))
        ]
          where
            no_serving : (p : Phase) → (p ≡ Serving → ⊥) → is_serving p ≡ false
            no_serving Serving ne = absurd (ne refl)
            no_serving Pending ne = refl
            no_serving Running ne = refl
            no_serving Blocked ne = refl
            no_serving Handling ne = refl
            no_serving Exited ne = refl

    -- AFTER A STEP

    abbrev pub b3 : Bool
    b3 = active_in (slice_get new.leaves x)

    leaf_new : b3 ≡ true → (l : Leaf) × (slice_get new.leaves x ≡ Some l)
    leaf_new = by (slice_get new.leaves x)
      where
        by : (o : Option Leaf) → active_in o ≡ true → (l : Leaf) × (o ≡ Some l)
        by (Some l) e = (l, refl)
        by None e = absurd (true≢false (sym e))

    still_active : b3 ≡ true → IsHeld u holds (parting m2 x true)
    still_active act =
        let l = leaf_new act in
        record {
          placed = placed2;
          based = based2;
          whole = ready.whole;
          only = λ y ne. elim (eqb_tells y x) [
            | inl e ↦ subst (InSection new) (sym e.1) (only_here l.0 l.1 (sym (ap active_in l.1) ∙ act)
                (λ own. ne (ap m1.hold e.1 ∙ (own ∙ sym e.1))))
            | inr e ↦ only2 y e.1 ne
          ];
          busy = busy2;
          free = ready.free;
          calm = calm2;
        }

    module _ (idle : b3 ≡ false) where
      abbrev pub m3 : Held
      m3 = parting m2 x false

      -- the leaf does not wait, and has no current session
      pub idle_blocked : (current : Option Current) → (links new).stances x ≡ Some (stance Blocked current) → ⊥
      idle_blocked current at =
          let l = leaf_of (slice_get new.leaves x) Blocked current at in
          true≢false (sym (ap active_in l.1 ∙ ap is_active l.2) ∙ idle)

      idle_none : (phase : Phase) (current : Option Current) → (links new).stances x ≡ Some (stance phase current) → current ≡ None
      idle_none phase current at =
          let l = leaf_of (slice_get new.leaves x) phase current at in
          inactive_none phase current (one.done.linked.fits x (stance phase current) at) (ap is_active (sym l.2) ∙ (sym (ap active_in l.1) ∙ idle))

      hold_x : m3.hold x ≡ x
      hold_x = anew_here m1.hold x x

      pub hold_else : (y : ℕ) → y ≢ x → m3.hold y ≡ m1.hold y
      hold_else y ne = anew_else m1.hold x x y ne

      -- nobody is of its thread
      pub not_x : (y : ℕ) → y ≢ x → m1.hold y ≢ x
      not_x y ne e = elim (eqb_tells (m1.hold y) y) [
        | inl q ↦ ne (sym q.1 ∙ e)
        | inr q ↦
            let s = only2 y ne q.1 in
            let w = (handled u (view m2) placed2 y s.0 s.1 s.2).waiting in
            root_else u m2 placed2 based2 x idle_blocked s.1.session w (sym (placed2.held y s.0 s.1 s.2 q.1) ∙ e)
      ]

      -- a session that waits is whose it was
      pub root_kept : (k : ℕ) → IsWaiting u (view m2) placed2 k → m3.hold (m2.base k) ≡ m1.hold (m2.base k)
      root_kept k w = hold_else (m2.base k) (base_else u m2 placed2 based2 x idle_blocked k w)

      whole3 : (y : ℕ) → m3.hold (m3.hold y) ≡ m3.hold y
      whole3 y = elim (eqb_tells y x) [
        | inl e ↦ subst (λ y. m3.hold (m3.hold y) ≡ m3.hold y) (sym e.1) (ap m3.hold hold_x)
        | inr e ↦
            ap m3.hold (hold_else y e.1)
            ∙ (hold_else (m1.hold y) (not_x y e.1) ∙ (ready.whole y ∙ sym (hold_else y e.1)))
      ]

      below3 : (k : ℕ) (s : Session) → session_at new k ≡ Some s → m3.hold (m3.base k) ≡ root_at m3.hold (λ k. m3.hold (m3.base k)) s.slot_id
      below3 k s at = ap m3.hold (based2 k s at) ∙ root_base m3 s.slot_id

      waits3 : (q : SlotId) (k : ℕ) → slot_at new q ≡ Some (Waiting k) → IsByCurrent m3.hold new q
      waits3 (In_leaf y b) k at = λ phase current is own. elim (eqb_tells y x) [
        | inl e ↦ idle_none phase current (ap (links new).stances (sym e.1) ∙ is)
        | inr e ↦ placed2.waits (In_leaf y b) k at phase current is (sym (hold_else y e.1) ∙ own)
      ]
      waits3 (In_session j b) k at = placed2.waits (In_session j b) k at
      waits3 (In_object j) k at = tt

      main3 : (y : ℕ) (phase : Phase) → (links new).stances y ≡ Some (stance phase None) → is_active phase ≡ true → m3.hold y ≡ y
      main3 y phase at act = elim (eqb_tells y x) [
        | inl e ↦ ap m3.hold e.1 ∙ (hold_x ∙ sym e.1)
        | inr e ↦ hold_else y e.1 ∙ placed2.main y phase at act
      ]

      held3 : (y : ℕ) (phase : Phase) (q : Current) → (links new).stances y ≡ Some (stance phase (Some q)) → m3.hold y ≢ y → m3.hold y
          ≡ m3.hold (m3.base q.session)
      held3 y phase q at ne = elim (eqb_tells y x) [
        | inl e ↦ absurd (ne (ap m3.hold e.1 ∙ (hold_x ∙ sym e.1)))
        | inr e ↦
            let w = (handled u (view m2) placed2 y phase q at).waiting in
            hold_else y e.1
            ∙ (placed2.held y phase q at (λ own. ne (hold_else y e.1 ∙ own)) ∙ sym (root_kept q.session w))
      ]

      only3 : (y : ℕ) → m3.hold y ≢ y → InSection new y
      only3 y ne = elim (eqb_tells y x) [
        | inl e ↦ absurd (ne (ap m3.hold e.1 ∙ (hold_x ∙ sym e.1)))
        | inr e ↦ only2 y e.1 (λ own. ne (hold_else y e.1 ∙ own))
      ]

      busy3 : (y : ℕ) (phase : Phase) (q : Current) → holds y ≡ true → (links new).stances y ≡ Some (stance phase (Some q)) → m3.hold y ≢ y
      busy3 y phase q can at own = elim (eqb_tells y x) [
        | inl e ↦ none_some (sym (idle_none phase (Some q) (ap (links new).stances (sym e.1) ∙ at)))
        | inr e ↦ busy2 y phase q can at (sym (hold_else y e.1) ∙ own)
      ]

      pub placed3 : IsPlaced u (view m3)
      placed3 = record {
        acyclic = placed2.acyclic;
        linked = placed2.linked;
        below = below3;
        waits = waits3;
        uses = placed2.uses;
        lives = λ k s at. whole3 (m3.base k);
        main = main3;
        held = held3;
        signals = λ y l at flag. absurd (no_flag new calm2 y l at flag);
      }

      free3 : (y : ℕ) → holds y ≡ false → m3.hold y ≡ y
      free3 y off = elim (eqb_tells y x) [
        | inl e ↦ ap m3.hold e.1 ∙ (hold_x ∙ sym e.1)
        | inr e ↦ hold_else y e.1 ∙ ready.free y off
      ]

      pub freed_held : IsHeld u holds m3
      freed_held = record { placed = placed3; based = based2; whole = whole3; only = only3; busy = busy3; free = free3; calm = calm2 }

    still_by : (b : Bool) → b3 ≡ b → IsHeld u holds (parting m2 x b)
    still_by true e = still_active e
    still_by false e = freed_held e

    -- what holds of worlds with their holders is kept
    pub still_held : IsHeld u holds (turn holds m x i new)
    still_held = still_by b3 refl
