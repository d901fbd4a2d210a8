-- Threads of worlds in which no shared leaf changes its own slots outside `main`.
use Rattle.std.proofs.Common.{◌≡◌, ◌≢◌, ◌⊎◌, ℕ, suc, ◌==◌, ◌&&◌, inl, inr, Bool, true, false, List, Option, Some, None, Ok}
use Rattle.std.proofs.Common.{refl, ap, sym, ◌∙◌}
use Rattle.std.specs.Prelude.{option_map, slice_get}
use Rattle.std.proofs.lemmas.Bool.{true≢false}
use Rattle.std.proofs.lemmas.Bool.Decides.{eqb_tells}
use Rattle.gq_model.specs.declared.phase.Phase.TheVariants.{Blocked, Serving}
use Rattle.gq_model.specs.declared.program.OperandSlot.{OperandSlot}
use Rattle.gq_model.specs.declared.program.OperandSlot.TheVariants.{Own, Shared, Object}
use Rattle.gq_model.specs.declared.program.Bare.TheVariants.{Drop, Dup, Combine}
use Rattle.gq_model.specs.declared.program.Instruction.{Instruction}
use Rattle.gq_model.specs.declared.program.Instruction.TheVariants.{Say, Out, Operands, Make, MakePool, Load}
use Rattle.gq_model.specs.declared.program.Instruction.TheVariants.{Store, Free, Take, Give, Peek, Poke, Open, Upgrade, Call, Close}
use Rattle.gq_model.specs.declared.program.OperandStatement.{OperandStatement}
use Rattle.gq_model.specs.declared.program.OperandStatement.TheVariants.{Plain, Numbered}
use Rattle.gq_model.specs.declared.program.WithNumber.TheVariants.{Push, Divide, Modulo, Get, Set, Index, Input}
use Rattle.gq_model.specs.machine.Operate.{Bench, operate}
use Rattle.gq_model.specs.machine.Program.{Statements, Done, Do, If, Loop}
use Rattle.gq_model.specs.machine.Scenario.{System, Component}
use Rattle.gq_model.specs.machine.World.{SlotId, Current, Leaf, World}
use Rattle.gq_model.specs.machine.Sums.{paid}
use Rattle.gq_model.specs.machine.Doing.{Doing, Event}
use Rattle.gq_model.specs.machine.Requests.{free_place}
use Rattle.gq_model.specs.machine.Step.{bench, accept, accept_oldest, first_signal, serve, step_in, step_of, next}
use Rattle.gq_model.proofs.Small_facts.{none_some, some_same}
use Rattle.gq_laws.specs.Session_links.{stance, stance_in, IsLinkedWorld}
use Rattle.gq_laws.proofs.session_links.Linked_worlds.{kept_linked}
use Rattle.gq_laws.proofs.step_shapes.Step_end_shapes.{Ends}
use Rattle.gq_laws.proofs.step_shapes.Step_change_shapes.{accept_by}
use Rattle.gq_laws.proofs.step_shapes.Step_end_worlds.{begun}
use Rattle.gq_races.specs.Races.{is_own, changes_own, reads_input}
use Rattle.gq_determined.specs.internal.Threads.{Accepts, has_work, is_unshared, Tracked, thread_by, anew, who, works, works_for, IsSameThread}
use Rattle.gq_determined.proofs.passing_threads.Kept_by_steps.{Aside, MayChange, IsAllowed}
use Rattle.gq_determined.proofs.passing_threads.Kept_around.{FirstAllowed}
use Rattle.gq_determined.proofs.thread_positions.Single_thread_position.{IsPlaced, IsTracked}
use Rattle.gq_determined.proofs.regions.Region_changes.{put_at}
use Rattle.gq_determined.proofs.thread_positions.Turn_thread_position.{lives_who, taken_there, IsWorking, IsServing, ServesSame, same_place}
use Rattle.gq_determined.proofs.thread_positions.First_request_given.{working_accepts}
use Rattle.gq_determined.proofs.thread_steps.Signal_flags.{flagged_before}
use Rattle.gq_determined.proofs.thread_steps.Thread_reflexivity.{thread_itself}
use Rattle.gq_determined.proofs.thread_steps.Own_steps.{anew_else, not_free, Goes, goes_working, goes_serving}
use Rattle.gq_determined.proofs.thread_steps.Own_steps as own
use Rattle.gq_determined.proofs.thread_steps.Thread_step_frame.{IsDone}

-- outside `main` of a shared leaf what comes first changes no own slot
pub record IsStateless (u : System) (w : World) : Type 0 where
  pub keeps : (x : ℕ) (leaf : Leaf) (q : Current) (i : Instruction) (rest : Statements) → slice_get w.leaves x ≡ Some leaf → leaf.current ≡ Some q
      → is_unshared u x ≡ false → leaf.todo ≡ Do i rest → changes_own i ≡ false

-- a leaf that is its own outside `main` changes no own slot next
pub record IsStill (g : Tracked) : Type 0 where
  pub keeps : (x : ℕ) (leaf : Leaf) (q : Current) (i : Instruction) (rest : Statements) → slice_get g.world.leaves x ≡ Some leaf → leaf.current ≡ Some q
      → g.own x ≡ x → leaf.todo ≡ Do i rest → changes_own i ≡ false

-- what a step reads beside what threads have: inputs, if it reads any, and the signals of a leaf that accepts a request
pub record ReadSame (w v : World) : Type 0 where
  pub same : (x : ℕ) (a b : Leaf) (i : Instruction) (rest : Statements) → slice_get w.leaves x ≡ Some a → slice_get v.leaves x ≡ Some b → a.todo ≡ Do i rest
      → (reads_input i ≡ false) ⊎ (a.inputs ≡ b.inputs)
  pub served : (x : ℕ) (a b : Leaf) → slice_get w.leaves x ≡ Some a → slice_get v.leaves x ≡ Some b → Accepts a → Accepts b
      → (b.signals ≡ a.signals) × (b.reacting ≡ a.reacting)

pub reads_itself : (w : World) → ReadSame w w
reads_itself w = record {
  same = λ x a b i rest at at_b is. inr (ap (λ (l : Leaf). l.inputs) (some_same (sym at ∙ at_b)));
  served = λ x a b at at_b p q. (
      let same : b ≡ a = some_same (sym at_b ∙ at) in
      (ap (λ (l : Leaf). l.signals) same, ap (λ (l : Leaf). l.reacting) same));
}

pub still_of : (u : System) (g : Tracked) → IsTracked u g → IsStateless u g.world → IsStill g
still_of u g t h = record { keeps = λ x leaf q i rest there at own is. by x leaf q i rest there at own is (is_unshared u x) refl }
  where
    by : (x : ℕ) (leaf : Leaf) (q : Current) (i : Instruction) (rest : Statements) → slice_get g.world.leaves x ≡ Some leaf → leaf.current ≡ Some q
        → g.own x ≡ x → leaf.todo ≡ Do i rest → (single : Bool) → is_unshared u x ≡ single → changes_own i ≡ false
    by x leaf q i rest there at own is true single =
        absurd (t.busy x leaf.phase q (ap stance_in there ∙ ap (λ o. Some (stance leaf.phase o)) at) single own)
    by x leaf q i rest there at own is false shared = h.keeps x leaf q i rest there at shared is

-- a statement on operands alone that reads no input leaves the same with other inputs
pub unread_same : (b : Bench) (inputs : List ℕ) (s : OperandStatement) → reads_input (Operands s) ≡ false
    → operate b s ≡ operate (record b { inputs = inputs }) s
unread_same b inputs (Plain Drop) e = refl
unread_same b inputs (Plain Dup) e = refl
unread_same b inputs (Plain (Combine f)) e = refl
unread_same b inputs (Numbered Push n) e = refl
unread_same b inputs (Numbered Divide n) e = refl
unread_same b inputs (Numbered Modulo n) e = refl
unread_same b inputs (Numbered Get n) e = refl
unread_same b inputs (Numbered Set n) e = refl
unread_same b inputs (Numbered Index n) e = refl
unread_same b inputs (Numbered Input n) e = absurd (true≢false e)

-- WHAT IS ALLOWED

module _ (f : ℕ → ℕ) (aside : Aside) (d : Doing) (v : World) (K : World → World → Type 0) (M : ℕ → Type 0) (O : SlotId → Type 0) where
  abbrev May : OperandSlot → Type 0
  May = MayChange f aside d v K M O

  -- no input is read, or the same in the other world
  abbrev Reads : Instruction → Type 0
  Reads i = (reads_input i ≡ false) ⊎ (d.leaf.inputs ≡ aside.inputs d.leaf.inputs)

  operands_allowed : (s : OperandStatement) → Reads (Operands s) → operate (bench d) s ≡ operate (record (bench d) { inputs = aside.inputs d.leaf.inputs }) s
  operands_allowed s (inl e) = unread_same (bench d) (aside.inputs d.leaf.inputs) s e
  operands_allowed s (inr e) = λ j. operate (record (bench d) { inputs = e j }) s

  module _ (may : (place : OperandSlot) → May place) where
    pub all_allowed : (i : Instruction) → Reads i → IsAllowed f aside d v K M O i
    all_allowed (Make form place m) e = may place
    all_allowed (MakePool place m k) e = may place
    all_allowed (Store width place) e = may place
    all_allowed (Free place) e = may place
    all_allowed (Take place) e = may place
    all_allowed (Give place) e = may place
    all_allowed (Poke place) e = may place
    all_allowed (Open place service m) e = may place
    all_allowed (Upgrade place m) e = may place
    all_allowed (Call place) e = may place
    all_allowed (Close place) e = may place
    all_allowed (Say text) e = tt
    all_allowed Out e = tt
    all_allowed (Operands s) e = operands_allowed s e
    all_allowed (Load width place) e = tt
    all_allowed (Peek place) e = tt

  not_own : (place : OperandSlot) → is_own place ≡ false → May place
  not_own (Own i) e = absurd (true≢false e)
  not_own (Shared i) e = tt
  not_own Object e = tt

  none_allowed : (i : Instruction) → changes_own i ≡ false → Reads i → IsAllowed f aside d v K M O i
  none_allowed (Make form place m) e r = not_own place e
  none_allowed (MakePool place m k) e r = not_own place e
  none_allowed (Store width place) e r = not_own place e
  none_allowed (Free place) e r = not_own place e
  none_allowed (Take place) e r = not_own place e
  none_allowed (Give place) e r = not_own place e
  none_allowed (Poke place) e r = not_own place e
  none_allowed (Open place service m) e r = not_own place e
  none_allowed (Upgrade place m) e r = not_own place e
  none_allowed (Call place) e r = not_own place e
  none_allowed (Close place) e r = not_own place e
  none_allowed (Say text) e r = tt
  none_allowed Out e r = tt
  none_allowed (Operands s) e r = operands_allowed s r
  none_allowed (Load width place) e r = tt
  none_allowed (Peek place) e r = tt

  pub first_allowed : (R : World → World → Type 0) (todo : Statements)
      → ((i : Instruction) (rest : Statements) → todo ≡ Do i rest → IsAllowed f aside d v K M O i)
      → FirstAllowed f aside d v K R M O todo
  first_allowed R Done h = tt
  first_allowed R (Do i rest) h = h i rest refl
  first_allowed R (If arm other rest) h = tt
  first_allowed R (Loop count body rest) h = tt

-- A STEP IN TWO WORLDS

module _ (u : System) (pays : (z : World) → paid u z ≡ true) (g h : Tracked) (t : IsPlaced u g) (th : IsPlaced u h) (stateless : IsStill g)
    (reads : ReadSame g.world h.world) (i x : ℕ) (is : who g x ≡ Some i) (s : IsSameThread i g h) (sx : g.own x ≢ i → IsSameThread (g.own x) g h)
    (component : Component)
    (placed : slice_get u.components x ≡ Some component) where
  -- the leaf in both worlds, and the step
  pub record BothGo (new : World) (event : Event) : Type 0 where
    pub a : Leaf
    pub b : Leaf
    pub there : slice_get g.world.leaves x ≡ Some a
    pub there_h : slice_get h.world.leaves x ≡ Some b
    pub how : (IsWorking g i x × IsWorking h i x) ⊎ ServesSame u g h t th i s x
    pub goes : Goes u pays g h t th i x s sx component a b there there_h new event

  module _ (a b : Leaf) (there : slice_get g.world.leaves x ≡ Some a) (there_h : slice_get h.world.leaves x ≡ Some b) where
    abbrev f : ℕ → ℕ
    f = own.f u pays g h t th i x s sx component a b there there_h

    abbrev aside : Aside
    aside = own.aside u pays g h t th i x s sx component a b there there_h

    abbrev d : Doing
    d = own.d u pays g h t th i x s sx component a b there there_h

    abbrev R : World → World → Type 0
    R = own.R u pays g h t th i x s sx component a b there there_h

    abbrev K : World → World → Type 0
    K = own.K u pays g h t th i x s sx component a b there there_h

    abbrev M : ℕ → Type 0
    M = own.M u pays g h t th i x s sx component a b there there_h

    abbrev O : SlotId → Type 0
    O = own.O u pays g h t th i x s sx component a b there there_h

    pub allowed : (a.current ≡ None → x ≡ i) → ((q : Current) → a.current ≡ Some q → g.root q.session ≡ i)
        → FirstAllowed f aside d h.world K R M O a.todo
    allowed main section = first_allowed f aside d h.world K M O R a.todo (λ instr rest is. by a.current refl instr rest is)
      where
        may : g.own x ≡ i → (g.own x ≡ x → a.current ≡ None) → (place : OperandSlot) → MayChange f aside d h.world K M O place
        may own first (Own k) = (own, refl, first, main)
        may own first (Shared k) = tt
        may own first Object = tt

        by : (current : Option Current) → a.current ≡ current → (instr : Instruction) (rest : Statements) → a.todo ≡ Do instr rest
            → IsAllowed f aside d h.world K M O instr
        by None e instr rest begins =
            all_allowed f aside d h.world K M O (may (ap g.own (main e) ∙ lives_who u g t i x is) (λ own. e)) instr
            (reads.same x a b instr rest there there_h begins)
        by (Some q) e instr rest begins = of (eqb_tells (g.own x) x)
          where
            of : (((g.own x == x) ≡ true) × (g.own x ≡ x)) ⊎ (((g.own x == x) ≡ false) × (g.own x ≢ x)) → IsAllowed f aside d h.world K M O instr
            of (inr ne) =
                let own = t.held x a.phase q (ap stance_in there ∙ ap (λ o. Some (stance a.phase o)) e) ne.1 ∙ section q e in
                all_allowed f aside d h.world K M O (may own (λ is. absurd (ne.1 is))) instr (reads.same x a b instr rest there there_h begins)
            of (inl own) = none_allowed f aside d h.world K M O instr (stateless.keeps x a q instr rest there e own.1 begins)
                (reads.same x a b instr rest there there_h begins)

  pub main_of : (w : IsWorking g i x) → w.at.leaf.current ≡ None → x ≡ i
  main_of w none = sym (ap (thread_by g.root x) none) ∙ w.at.thread

  pub section_of : (w : IsWorking g i x) → (q : Current) → w.at.leaf.current ≡ Some q → g.root q.session ≡ i
  section_of w q at = sym (ap (thread_by g.root x) at) ∙ w.at.thread

  abbrev pub both_go : (IsWorking g i x × IsWorking h i x) ⊎ ServesSame u g h t th i s x → (new : World) (event : Event) → next u g.world x ≡ Ok (new, event)
      → BothGo new event
  both_go (inl w) new event stepped = record {
    a = w.0.at.leaf;
    b = w.1.at.leaf;
    there = w.0.at.there;
    there_h = w.1.at.there;
    how = inl w;
    goes = goes_working u pays g h t th i x s sx component w.0.at.leaf w.1.at.leaf w.0.at.there w.1.at.there w.0 w.1 placed
        (λ busy. allowed w.0.at.leaf w.1.at.leaf w.0.at.there w.1.at.there (main_of w.0) (section_of w.0)) new event stepped;
  }
  both_go (inr w) new event stepped = record {
    a = w.first.leaf;
    b = w.other.leaf;
    there = w.first.there;
    there_h = w.other.there;
    how = inr w;
    goes = (
        let same = reads.served x w.first.leaf w.other.leaf w.first.there w.other.there (w.first.serves, w.first.idle) (w.other.serves, w.other.idle) in
        goes_serving u pays g h t th i x s sx component w.first.leaf w.other.leaf w.first.there w.other.there w same.0 same.1 placed
        (λ busy. absurd (busy w.first.serves)) new event stepped);
  }

-- A STEP IN ONE WORLD

module _ (u : System) (pays : (z : World) → paid u z ≡ true) (g : Tracked) (t : IsPlaced u g) (stateless : IsStill g) (i x : ℕ)
    (is : who g x ≡ Some i)
    (component : Component) (placed : slice_get u.components x ≡ Some component) where
  abbrev itself : IsSameThread i g g
  itself = thread_itself i g

  -- the leaf, and what its step comes to
  pub record Solo (new : World) : Type 0 where
    pub a : Leaf
    pub there : slice_get g.world.leaves x ≡ Some a
    pub ended : x ≢ i → works g x x ≡ false
    pub done : IsDone u g t i x component a there new

  abbrev root : ℕ → ℕ
  root = anew g.root (free_place g.world.sessions) i

  -- a session of the thread is current at the leaf
  record HasThread (w : World) : Type 0 where
    holds : (l : Leaf) → slice_get w.leaves x ≡ Some l → thread_by root x l.current ≡ i

  module _ (p : IsServing g i x) where
    abbrev d_s : Doing
    d_s = record { system = u; world = g.world; x = x; component = component; leaf = record p.leaf { steps = suc p.leaf.steps } }

    root_taken : root p.taken.0.session ≡ i
    root_taken =
        let m = taken_there u g t i x p in
        anew_else g.root (free_place g.world.sessions) i p.taken.0.session (not_free g.world p.taken.0.session m.0 m.1) ∙ p.root

    put_leaf : (o : Option Leaf) (new l : Leaf) → option_map (λ (l : Leaf). new) o ≡ Some l → new ≡ l
    put_leaf None new l e = absurd (none_some e)
    put_leaf (Some o) new l e = some_same e

    accepts : Ends HasThread (accept d_s p.taken.0 p.taken.1)
    accepts = accept_by HasThread d_s p.taken.0 p.taken.1 (λ old there. record {
      holds = λ l at. ap (thread_by root x) (ap (λ (l : Leaf). l.current) (sym (put_leaf (slice_get g.world.leaves x) (begun d_s p.taken.0 old) l
          (sym (put_at g.world.leaves x x (begun d_s p.taken.0 old) refl) ∙ at)))) ∙ root_taken;
    })

    next_accepts : next u g.world x ≡ accept d_s p.taken.0 p.taken.1
    next_accepts = (λ j. step_of u g.world x (placed j) (p.there j))
        ∙ (ap (step_in d_s) p.serves ∙ (ap (serve d_s) p.idle ∙ ap (accept_oldest d_s) p.found))

    thread_taken : (new : World) (event : Event) → next u g.world x ≡ Ok (new, event) → (l : Leaf) → slice_get new.leaves x ≡ Some l
        → thread_by root x l.current ≡ i
    thread_taken new event stepped = (accepts.holds new event (sym next_accepts ∙ stepped)).holds

  serving_blocked : Serving ≡ Blocked → ⊥
  serving_blocked e = cc

  and_false : (b : Bool) → (b && false) ≡ false
  and_false true = refl
  and_false false = refl

  pub solo : (new : World) (event : Event) → next u g.world x ≡ Ok (new, event) → Solo new
  solo new event stepped = by (same_place u g g t t i itself x x is is).how
    where
      linked : IsLinkedWorld u new
      linked = kept_linked u g.world x new event t.linked stepped

      by : (IsWorking g i x × IsWorking g i x) ⊎ ServesSame u g g t t i itself x → Solo new
      by (inl w) =
          let r = both_go u pays g g t t stateless (reads_itself g.world) i x is itself (λ ne. thread_itself (g.own x) g) component placed
          (inl (w.0, w.0)) new event stepped in
          record {
            a = w.0.at.leaf;
            there = w.0.at.there;
            ended = λ ne. ap (works_for g.root x x) w.0.at.there
                ∙ (ap (λ b. has_work w.0.at.leaf.phase (first_signal w.0.at.leaf.signals) && b) (out ne)
                ∙ and_false (has_work w.0.at.leaf.phase (first_signal w.0.at.leaf.signals)));
            done = record {
              active = w.0.at.goes;
              linked = linked;
              rest = r.goes.related.rest;
              was = λ busy. w.0.at.thread;
              taken = λ e. absurd (working_accepts w.0.at.leaf w.0.runs e);
              flags = flagged_before u g.world x new event stepped;
            };
          }
        where
          out : x ≢ i → (thread_by g.root x w.0.at.leaf.current == x) ≡ false
          out ne = elim (eqb_tells (thread_by g.root x w.0.at.leaf.current) x) [ inl q ↦ absurd (ne (sym q.1 ∙ w.0.at.thread)) | inr q ↦ q.0 ]
      by (inr w) =
          let r = both_go u pays g g t t stateless (reads_itself g.world) i x is itself (λ ne. thread_itself (g.own x) g) component placed
          (inr w) new event stepped in
          record {
            a = w.first.leaf;
            there = w.first.there;
            ended = λ ne. ap (works_for g.root x x) w.first.there
                ∙ (λ j. has_work (w.first.serves j) (w.first.idle j) && (thread_by g.root x w.first.leaf.current == x));
            done = record {
              active = λ b. serving_blocked (sym w.first.serves ∙ b);
              linked = linked;
              rest = r.goes.related.rest;
              was = λ busy. absurd (busy (w.first.serves, w.first.idle));
              taken = λ e l at. thread_taken w.first new event stepped l at;
              flags = flagged_before u g.world x new event stepped;
            };
          }
