-- The machine at the start of a scenario.
use Rattle.std.proofs.Common.{◌≡◌, ◌<◌, ℕ, zero, suc, Bool, true, false, cond, List, [], ◌∷◌, length, replicate, map, get_or, Option, Some, None}
use Rattle.std.proofs.Common.{refl, sym, ap, subst, ◌∙◌, arith}
use Rattle.std.specs.Prelude.{is_some, slice_get}
use Rattle.gq_model.specs.declared.section.Section.TheVariants.{Main}
use Rattle.gq_model.specs.machine.Amounts.{Ram, Caps, counted_in, counts_caps}
use Rattle.gq_model.specs.machine.Program.{Program, Statements, body_of, section_in}
use Rattle.gq_model.specs.machine.Scenario.{Scenario, Component, components, system}
use Rattle.gq_model.specs.machine.World as world
use Rattle.gq_model.proofs.Small_facts.{get_within}
use Rattle.gq_laws.specs.Session_links.{IsLinkedWorld}
use Rattle.gq_laws.proofs.session_links.Linked_worlds.{start_linked}
use Rattle.gq_laws.proofs.quota_payment.Leaf_component_positions.{starts_after}
use Rattle.gq_laws.specs.Room.{IsRoomy}
use Rattle.gq_laws.proofs.room.Reply_room_invariant.{start_roomy}
use Rattle.gq_laws.specs.Leaf_phases.{AreReady}
use Rattle.gq_laws.proofs.progress.Leaf_phase_invariant.{start_ready}
use Rattle.gq_resolve.proofs.Node_table_rows.{places-count}
use Rattle.gq_laws.specs.Ready.{IsReady}
use Rattle.gq_prepared.proofs.Plan_quantum_handing.{afters_fit}
use Rattle.gq_prepared.proofs.Planned_account_nodes.{first_kept, quantum_of, stage_of}
use Rattle.gq_prepared.specs.Account_nodes.{AreNodesOf}
use Rattle.gq_prepared.specs.Scenario_plan.{first_stage}
use Rattle.gq_bytecode.specs.Cores.{Core}
use Rattle.gq_bytecode.specs.Programs.{AreFound, IsCodeOfProgram, ProgramCode, code_in}
use Rattle.gq_bytecode.specs.Views.{state_of}
use Rattle.gq_bytecode.specs.declared.operation.Operation.{Operation}
use Rattle.gq_bytecode.proofs.Shared_statement_operations.{started}
use Rattle.gq_bytecode.proofs.Program_section_codes.{found_body}
use Rattle.gq_store.specs.Store.{Store}
use Rattle.gq_heap.specs.declared.heap.Heap.{Heap}
use Rattle.gq_heap.specs.Heap.{peaks}
use Rattle.gq_trade.specs.Seen_requests.{request_seen}
use Rattle.gq_contents.specs.declared.content.Content.TheVariants.{Empty}
use Rattle.gq_contents.specs.Contents.{seen}
use Rattle.gq_slots.specs.Slots.{Slots, leaf_seen, leaves_seen, memory_of}
use Rattle.gq_statements.specs.Systems.{counted_at, stage_in}
use Rattle.gq_prepared.specs.Prepared.{AreServices}
use Rattle.gq_leaf.specs.Leaf_states.{leaf_of, body_in}
use Rattle.gq_leaf.specs.Coded.{Coded}
use Rattle.gq_leaf.proofs.Sound_program_code.{code_found}
use Rattle.gq_machine.specs.Machine_world.{frame_of, leaf_in, world_of}
use Rattle.gq_machine.specs.declared.machine_state.Fixed.{Fixed}
use Rattle.gq_machine.specs.declared.machine_state.MachineState.{MachineState}
use Rattle.gq_machine.specs.internal.Machine_invariant.{Holds, room}
use Rattle.gq_machine.specs.internal.Starts.{AreFirst, AreFirstSlots, ArePrepared, IsFirstOf}
use Rattle.gq_machine.proofs.Machine_leaf_frames.{leaf_at}

-- ONE LEAF

abbrev first_core : Core
first_core = record { position = 0; operands = []; locals = replicate 8 0; rounds = replicate 4 0; inputs = replicate 8 0 }

record Begins (body : Statements) : Type 0 where
  todo : (state_of body first_core 0).todo ≡ body
  loops : (state_of body first_core 0).loops ≡ []

-- the first place of `main` is its first statement, and in no loop
begins : (code : ProgramCode) (p : Program) → IsCodeOfProgram code p.sections → Begins (body_of (section_in Main p.sections))
begins code p of = by (code_in Main code.sections) refl
  where
    without : (o : Option Statements) → AreFound None code.longs o → Begins (body_of o)
    without None h = record { todo = refl; loops = refl }
    without (Some body) h = absurd h

    by : (found : Option (List Operation)) → code_in Main code.sections ≡ found → Begins (body_of (section_in Main p.sections))
    by None e = without (section_in Main p.sections) (found_body code Main None p.sections (sym e) of)
    by (Some ops) e =
        let s = started ops code.longs (body_of (section_in Main p.sections)) first_core 0 (code_found code Main ops p e of).is in
        record { todo = s.todo; loops = s.loops }

first_body : (after : Option (List ℕ)) (body : Statements) → body_in (world.first_phase after) body ≡ body
first_body None body = refl
first_body (Some name) body = refl

map_replicate : {A B : Type 0} (f : A → B) (n : ℕ) (a : A) → map f (replicate n a) ≡ replicate n (f a)
map_replicate f zero a = refl
map_replicate f (suc n) a = ap (λ l. f a ∷ l) (map_replicate f n a)

one_first : (c : Component) (l : Coded) (st : Store) (h : Heap) → peaks h ≡ replicate 8 0 → IsFirstOf c l
    → leaf_seen (leaf_of c.node.program l.state) st (replicate 64 Empty) h ≡ world.start_leaf c
one_first c l st h none first =
    let p = c.node.program in
    let after = c.node.after in
    let body = body_of (section_in Main p.sections) in
    let b = begins l.code p first.code in
    let same = first_body after body in
    let todo : (state_of (body_in (world.first_phase after) body) first_core 0).todo ≡ body = ap (λ s. (state_of s first_core 0).todo) same ∙ b.todo in
    let loops : (state_of (body_in (world.first_phase after) body) first_core 0).loops ≡ [] = ap (λ s. (state_of s first_core 0).loops) same ∙ b.loops in
    let slots = map_replicate (seen st) 64 Empty in
    ap (λ s. leaf_seen (leaf_of p s) st (replicate 64 Empty) h) first.state
    ∙ (λ j. record {
      phase = world.first_phase after;
      current = None;
      reacting = None;
      todo = todo j;
      loops = loops j;
      operands = [];
      locals = replicate 8 0;
      slots = slots j;
      peaks = none j;
      steps = 0;
      inputs = replicate 8 0;
      signals = replicate c.node.signals (record { submitted = false; taken = 0 });
    })

-- ALL LEAVES

all_first : (cs : List Component) (ls : List Coded) (st : ℕ → Store) (hs : List Heap) → length hs ≡ length cs
    → ((x : ℕ) (h : Heap) → x < length cs → peaks (get_or hs x h) ≡ replicate 8 0) → AreFirst cs (length cs) ls
    → leaves_seen (λ x. leaf_in (slice_get cs x) (slice_get ls x)) st (replicate (length cs) (replicate 64 Empty)) hs ≡ world.start_leaves cs
all_first [] ls st hs count none first = refl
all_first (c ∷ cs) [] st hs count none first = let few = first.count in absurd (omega (arith, few))
all_first (c ∷ cs) (l ∷ ls) st [] count none first = absurd (omega (arith, count))
all_first (c ∷ cs) (l ∷ ls) st (h ∷ hs) count none first =
    let many = first.count in
    let here = one_first c l (st 0) h (none 0 h (omega arith)) (first.each 0 c l refl refl) in
    let further = all_first cs ls (λ x. st (suc x)) hs (omega (arith, count)) (λ x k less. none (suc x) k (omega (arith, less)))
    (record { count = omega (arith, many); each = λ x d m ed em. first.each (suc x) d m ed em }) in
    λ j. here j ∷ further j

map_none : {A B : Type 0} (f : A → B) (xs : List A) → xs ≡ [] → map f xs ≡ []
map_none f xs e = ap (map f) e

module _ (s : Scenario) (ls : List Coded) (t : Slots) (first : AreFirst (components s) (length (components s)) ls) (empty : AreFirstSlots s t) where
  leaf_count : length empty.leaves ≡ length (components s)
  leaf_count = ap length empty.plan.leaves ∙ places-count s

  pub first_world : world_of s ls t ≡ world.start (system s)
  first_world =
      let frame = frame_of s ls in
      let count = leaf_count in
      let heaps = empty.heaps.count in
      let own : t.own ≡ replicate (length (components s)) (replicate 64 Empty) =
      empty.own ∙ ap (λ n. replicate n (replicate 64 Empty)) count in
      let leaves = ap (λ o. leaves_seen frame.leaf (memory_of t) o t.heaps) own
      ∙ all_first (components s) ls (memory_of t) t.heaps (omega (arith, heaps, count))
      (λ x h less. (empty.heaps.each x h (omega (arith, less, count))).peaks) first in
      let sessions = map_none _ t.trades.trading.sessions empty.trades.sessions in
      let requests = map_none request_seen t.trades.trading.requests empty.trades.requests in
      λ j. record { leaves = leaves j; sessions = sessions j; requests = requests j }

  length-replicate : {A : Type 0} (n : ℕ) (a : A) → length (replicate n a) ≡ n
  length-replicate zero a = refl
  length-replicate (suc n) a = ap suc (length-replicate n a)

  pub own_count : length (components s) ≡ length t.own
  own_count =
      let count = leaf_count in
      let own = ap length empty.own ∙ length-replicate (length empty.leaves) (replicate 64 Empty) in
      omega (arith, count, own)

-- HOW ALL STANDS

stage_first : (after : Option (List ℕ)) → first_stage after ≡ stage_in (world.first_phase after)
stage_first None = refl
stage_first (Some name) = refl

counted_first : (version price : ℕ) → price ≡ cond (counts_caps version) 1 0 → counted_in version ≡ counted_at price
counted_first version price e = by (counts_caps version) ∙ sym (ap counted_at e)
  where
    by : (b : Bool) → cond b (Ram ∷ Caps ∷ []) (Ram ∷ []) ≡ counted_at (cond b 1 0)
    by true = refl
    by false = refl

none_of : (provides : Option (List ℕ)) → is_some provides ≡ false → provides ≡ None
none_of None e = refl
none_of (Some name) e = absurd cc

-- who starts after another provides nothing
bare : (s : Scenario) → IsReady s → (x : ℕ) (c : Component) (name : List ℕ) → slice_get (components s) x ≡ Some c → c.node.after ≡ Some name
    → c.node.provides ≡ None
bare s ready x c name there after =
    none_of c.node.provides
    (starts_after (components s) [] (components s) (afters_fit s ready.resolved.fits) x c name there after).0.provides

pub holds_first : (f : Fixed) (m : MachineState) → IsReady f.table → AreFirst (components f.table) (length (components f.table)) m.leaves.items
    → AreFirstSlots f.table m.slots → ArePrepared f.table (length (components f.table)) m.leaves.items f.prepared.items → AreServices f.table f.services
    → Holds f m
holds_first f m ready first empty prepared services =
    let s = f.table in
    let ls = m.leaves.items in
    let t = m.slots in
    let same = first_world s ls t first empty in
    let nodes : AreNodesOf s t.trades =
    first_kept s empty.parents empty.nodes empty.leaves empty.objects room t.trades empty.plan empty.trades in
    record {
      ready = ready;
      services = services;
      count = first.count;
      count_prepared = prepared.count;
      prepared = prepared.each;
      nodes = nodes;
      room_is = empty.trades.room;
      of = record {
        count = own_count s ls t first empty;
        counted = counted_first s.version t.trades.trading.ledger.price nodes.price;
        quanta = λ x c e. quantum_of s t.trades x c ready nodes e;
        stages = λ x less.
            (let count = own_count s ls t first empty in
            let all = first.count in
            let c = get_within (components s) x (omega (arith, less, count)) in
            let l = get_within ls x (omega (arith, less, count, all)) in
            stage_of s empty.parents empty.nodes empty.leaves empty.objects room t.trades x c.0 empty.plan empty.trades c.1
            ∙ stage_first c.0.node.after
            ∙ sym (ap (λ (y : world.Leaf). stage_in y.phase) (leaf_at s ls x c.0 l.0 c.1 l.1)
            ∙ ap (λ y. stage_in y.phase) (first.each x c.0 l.0 c.1 l.1).state));
      };
      linked = subst (IsLinkedWorld (system s)) (sym same) (start_linked (system s));
      roomy = subst IsRoomy (sym same) (start_roomy (system s));
      phases = subst (AreReady (system s)) (sym same) (start_ready (system s) (bare s ready));
    }
