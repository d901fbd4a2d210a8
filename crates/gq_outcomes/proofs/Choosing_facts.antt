-- What is known of the leaves and slots of a sound machine, and of what a leaf asks.
use Rattle.std.proofs.Common.{◌≡◌, ◌<◌, ◌≤◌, ℕ, zero, suc, Bool, true, false, ◌&&◌, List, [], ◌∷◌, Option, Some, None, length, refl, sym, ap}
use Rattle.std.proofs.Common.{subst, ◌∙◌, arith}
use Rattle.std.specs.Prelude.{IfSome, is_some, option_map, slice_get}
use Rattle.std.specs.Coded.{Coded-set, coded_ℕ}
use Rattle.std.proofs.Math.Logic.{∥∥₁_elim}
use Rattle.std.proofs.lemmas.Option.{slice_get_past}
use Rattle.gq_model.specs.declared.phase.Phase.{Phase}
use Rattle.gq_model.specs.declared.phase.Phase.TheVariants as phase
use Rattle.gq_model.specs.declared.program.Instruction.{Instruction}
use Rattle.gq_model.specs.declared.program.Instruction.TheVariants as instruction
use Rattle.gq_model.specs.machine.Program.{Statements, Done, Do, If, Loop, body_of, section_in}
use Rattle.gq_model.specs.machine.Routes.{server_of}
use Rattle.gq_model.specs.machine.Scenario.{Component, System, components, system}
use Rattle.gq_model.specs.machine.World as model
use Rattle.gq_model.proofs.Small_facts.{get_within, none_some, some_same}
use Rattle.gq_laws.specs.Shapes.{Each, IsWholeLeaf, IsWholeSession}
use Rattle.gq_model.specs.machine.Rest.{can_run, runs, runs_as}
use Rattle.gq_bytecode.specs.Code_positions.{place_at}
use Rattle.gq_bytecode.specs.Cores.{Core}
use Rattle.gq_machine.specs.Machines.{Machine}
use Rattle.gq_machine.specs.Readers.{StandsAt, body_in}
use Rattle.gq_model.specs.machine.World.{section_of}
use Rattle.gq_outcomes.specs.Choices as spec
use Rattle.gq_outcomes.specs.declared.asks.Asks.{Asks}
use Rattle.gq_outcomes.specs.internal.Asked_servers.{server_asked}
use Rattle.gq_outcomes.specs.internal.Asks.{asked, asks_of}
use Rattle.gq_outcomes.specs.internal.Choosing.{IsSoundMachine, is_active}
use Rattle.gq_outcomes.specs.internal.Left.{Ahead, Nothing, Instructs, Other, ahead, ahead_in, instruction_of}
use Rattle.gq_outcomes.proofs.keys.Left.{section_ahead}

pub each_at : {A : Type 0} (P : A → Type 0) (xs : List A) (k : ℕ) (a : A) → Each P xs → slice_get xs k ≡ Some a → P a
each_at P [] k a h e = absurd (none_some e)
each_at P (x ∷ xs) zero a h e = subst P (some_same e) h.0
each_at P (x ∷ xs) (suc k) a h e = each_at P xs k a h.1 e

pub some_map : {A B : Type 0} (f : A → B) (o : Option A) → is_some (option_map f o) ≡ is_some o
some_map f None = refl
some_map f (Some a) = refl

-- SOUND MACHINES

module _ (m : Machine) (sound : IsSoundMachine m) where
  pub leaves_count : length m.world.leaves ≡ length (components m.scenario)
  leaves_count = ∥∥₁_elim sound (Coded-set coded_ℕ (length m.world.leaves) (length (components m.scenario))) (λ h. h.whole.count)

  pub leaf_there : (x : ℕ) → x < length (components m.scenario) → (l : model.Leaf) × (slice_get m.world.leaves x ≡ Some l)
  leaf_there x less = let count = leaves_count in get_within m.world.leaves x (omega (arith, less, count))

  pub own_count : (x : ℕ) (l : model.Leaf) → slice_get m.world.leaves x ≡ Some l → length l.slots ≡ 64
  own_count x l e = ∥∥₁_elim sound (Coded-set coded_ℕ (length l.slots) 64) (λ h. (each_at IsWholeLeaf m.world.leaves x l h.whole.leaves e).0)

  joined_at : (ss : List (Option model.Session)) (k : ℕ) (q : model.Session) (n : ℕ) → Each (IsWholeSession n) ss → model.joined (slice_get ss k) ≡ Some q
      → length q.slots ≡ 8
  joined_at [] k q n h e = absurd (none_some e)
  joined_at (None ∷ ss) zero q n h e = absurd (none_some e)
  joined_at (Some s ∷ ss) zero q n h e = subst (λ (t : model.Session). length t.slots ≡ 8) (some_same e) h.0.0
  joined_at (s ∷ ss) (suc k) q n h e = joined_at ss k q n h.1 e

  pub bank_count : (k : ℕ) (q : model.Session) → model.session_at m.world k ≡ Some q → length q.slots ≡ 8
  bank_count k q e = ∥∥₁_elim sound (Coded-set coded_ℕ (length q.slots) 8) (λ h. joined_at m.world.sessions k q _ h.whole.sessions e)

  -- a slot past the last one
  pub no_own_slot : (x i : ℕ) → 64 ≤ i → model.slot_at m.world (model.In_leaf x i) ≡ None
  no_own_slot x i past = by (slice_get m.world.leaves x) refl
    where
      by : (o : Option model.Leaf) → slice_get m.world.leaves x ≡ o → model.leaf_slot o i ≡ None
      by None e = refl
      by (Some l) e = let count = own_count x l e in slice_get_past l.slots i (omega (arith, past, count))

  pub no_leaf_slot : (x i : ℕ) → length (components m.scenario) ≤ x → model.slot_at m.world (model.In_leaf x i) ≡ None
  no_leaf_slot x i past =
      let count = leaves_count in ap (λ o. model.leaf_slot o i) (slice_get_past m.world.leaves x (omega (arith, past, count)))

  pub no_bank_slot : (k i : ℕ) → 8 ≤ i → model.slot_at m.world (model.In_session k i) ≡ None
  no_bank_slot k i past = by (model.session_at m.world k) refl
    where
      by : (o : Option model.Session) → model.session_at m.world k ≡ o → model.session_slot o i ≡ None
      by None e = refl
      by (Some q) e = let count = bank_count k q e in slice_get_past q.slots i (omega (arith, past, count))

  -- whether a leaf can take a turn, by its phase
  pub take_is : (x : ℕ) (p : Phase) → x < length (components m.scenario) → IfSome (slice_get m.world.leaves x) (λ l. p ≡ l.phase)
      → (l : model.Leaf) → slice_get m.world.leaves x ≡ Some l → can_run (system m.scenario) m.world x ≡ runs m.world x l p
  take_is x p less at l there =
      let c = get_within (components m.scenario) x less in
      let phase : p ≡ l.phase = subst (λ (o : Option model.Leaf). IfSome o (λ l. p ≡ l.phase)) there at in
      (λ i. runs_as m.world x (c.1 i) (there i)) ∙ ap (runs m.world x l) (sym phase)

-- WHAT IS ASKED

active_body : (p : Phase) (b : Statements) → is_active p ≡ true → body_in p b ≡ b
active_body phase.Pending b e = refl
active_body phase.Running b e = refl
active_body phase.Blocked b e = refl
active_body phase.Serving b e = absurd (cc e)
active_body phase.Handling b e = refl
active_body phase.Exited b e = absurd (cc e)

none_todo : (p : ℕ) → (place_at Done p).todo ≡ Done
none_todo zero = refl
none_todo (suc p) = refl

module _ (s : System) (w : model.World) (x : ℕ) (c : Component) (l : model.Leaf) where
  -- of an instruction that comes next
  abbrev asked_of : Option Instruction → Option ℕ
  asked_of None = None
  asked_of (Some i) = spec.asked_by s w x c l i

  asked_is : (i : Instruction) → spec.asked_by s w x c l i ≡ server_asked w x l (asked (server_of s c) i)
  asked_is (instruction.Say text) = refl
  asked_is instruction.Out = refl
  asked_is (instruction.Operands o) = refl
  asked_is (instruction.Make form p n) = refl
  asked_is (instruction.MakePool p n m) = refl
  asked_is (instruction.Load width p) = refl
  asked_is (instruction.Store width p) = refl
  asked_is (instruction.Free p) = refl
  asked_is (instruction.Take p) = refl
  asked_is (instruction.Give p) = refl
  asked_is (instruction.Peek p) = refl
  asked_is (instruction.Poke p) = refl
  asked_is (instruction.Open p service n) = refl
  asked_is (instruction.Upgrade p n) = refl
  asked_is (instruction.Call p) = refl
  asked_is (instruction.Close p) = refl

  next_is : (t : Statements) → spec.next_asked s w x c l t ≡ asked_of (instruction_of (ahead t))
  next_is Done = refl
  next_is (Do i rest) = refl
  next_is (If arm other rest) = refl
  next_is (Loop n body rest) = refl

  ahead_is : (a : Ahead) → asked_of (instruction_of a) ≡ server_asked w x l (asks_of (server_of s c) a)
  ahead_is Nothing = refl
  ahead_is (Instructs i) = asked_is i
  ahead_is Other = refl

  abbrev body : Statements
  body = body_of (section_in (section_of l.current l.reacting) c.node.program.sections)

  -- a leaf that takes steps of its own
  asks_active : (core : Core) → StandsAt c l core → is_active l.phase ≡ true
      → spec.next_asked s w x c l l.todo ≡ server_asked w x l (asks_of (server_of s c) (ahead_in body core.position))
  asks_active core stands active =
      ap (λ st. spec.next_asked s w x c l st.todo) stands
      ∙ ap (λ b. spec.next_asked s w x c l (place_at b core.position).todo) (active_body l.phase body active)
      ∙ next_is (place_at body core.position).todo ∙ ap asked_of (section_ahead body core.position) ∙ ahead_is (ahead_in body core.position)

  -- one that waits for a request
  asks_serving : (core : Core) → StandsAt c l core → l.phase ≡ phase.Serving → spec.next_asked s w x c l l.todo ≡ None
  asks_serving core stands serves =
      ap (λ st. spec.next_asked s w x c l st.todo) stands
      ∙ ap (λ p. spec.next_asked s w x c l (place_at (body_in p body) core.position).todo) serves
      ∙ ap (spec.next_asked s w x c l) (none_todo core.position)

  both_false : (b : Bool) → (b && false) ≡ false
  both_false true = refl
  both_false false = refl

  -- whether it stands at a choice, by its phase and what it asks
  by_phase : (racy : List Bool) (core : Core) (asks : Asks) → StandsAt c l core
      → asks ≡ asks_of (server_of s c) (ahead_in body core.position)
      → (p : Phase) → l.phase ≡ p
      → (runs w x l p && spec.is_one_of racy (spec.next_asked s w x c l l.todo)) ≡ (is_active p && spec.is_one_of racy (server_asked w x l asks))
  by_phase racy core a stands is phase.Pending e = refl
  by_phase racy core a stands is phase.Running e =
      ap (spec.is_one_of racy) (asks_active core stands (ap is_active e) ∙ ap (server_asked w x l) (sym is))
  by_phase racy core a stands is phase.Blocked e = refl
  by_phase racy core a stands is phase.Serving e =
      ap (λ o. runs w x l phase.Serving && spec.is_one_of racy o) (asks_serving core stands e) ∙ both_false (runs w x l phase.Serving)
  by_phase racy core a stands is phase.Handling e =
      ap (spec.is_one_of racy) (asks_active core stands (ap is_active e) ∙ ap (server_asked w x l) (sym is))
  by_phase racy core a stands is phase.Exited e = refl

  pub choice_is : (racy : List Bool) (core : Core) (asks : Asks) → StandsAt c l core → asks ≡ asks_of (server_of s c) (ahead_in body core.position)
      → slice_get s.components x ≡ Some c → slice_get w.leaves x ≡ Some l
      → spec.is_at_choice s racy w x ≡ (is_active l.phase && spec.is_one_of racy (server_asked w x l asks))
  choice_is racy core a stands is ec el =
      (λ i. runs_as w x (ec i) (el i) && spec.is_one_of racy (spec.asks_next s w x (ec i) (el i))) ∙ by_phase racy core a stands is l.phase refl

-- one that takes no step of its own is at no choice
pub none_chooses : (s : System) (w : model.World) (x : ℕ) (racy : List Bool) (c : Component) (l : model.Leaf) (core : Core) → StandsAt c l core
    → is_active l.phase ≡ false → slice_get s.components x ≡ Some c → slice_get w.leaves x ≡ Some l → spec.is_at_choice s racy w x ≡ false
none_chooses s w x racy c l core stands none ec el =
    (λ i. runs_as w x (ec i) (el i) && spec.is_one_of racy (spec.asks_next s w x (ec i) (el i))) ∙ by l.phase refl none
  where
    by : (p : Phase) → l.phase ≡ p → is_active p ≡ false → (runs w x l p && spec.is_one_of racy (spec.next_asked s w x c l l.todo)) ≡ false
    by phase.Pending e n = refl
    by phase.Running e n = absurd (cc n)
    by phase.Blocked e n = refl
    by phase.Serving e n =
        ap (λ o. runs w x l phase.Serving && spec.is_one_of racy o) (asks_serving s w x c l core stands e)
        ∙ both_false s w x c l (runs w x l phase.Serving)
    by phase.Handling e n = absurd (cc n)
    by phase.Exited e n = refl
