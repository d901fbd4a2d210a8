-- Each statement on operands, locals and memory does what the rules state, and only want of quota stops it.
use Rattle.std.proofs.Common.{◌≡◌, ℕ, ◌+◌, ◌≤◌, ◌&&◌, nat_lt, Bool, true, false, List, ◌∷◌, length, decimal, replicate, Option, Some, None}
use Rattle.std.proofs.Common.{Ok, refl, ap, sym, ◌∙◌, subst, arith}
use Rattle.std.specs.Prelude.{nat_le, slice_get, slice_set, slice_range}
use Rattle.std.proofs.lemmas.Bool.{leb-true, le-leb, ltb-true, lt-ltb}
use Rattle.std.proofs.lemmas.List.{length-set}
use Rattle.gq_model.specs.machine.Lists.{all_of}
use Rattle.gq_model.specs.machine.Program.{little, bytes_of}
use Rattle.gq_model.specs.declared.program.OperandSlot.{OperandSlot}
use Rattle.gq_model.specs.declared.program.Width.{Width}
use Rattle.gq_model.specs.declared.program.OperandStatement.{OperandStatement}
use Rattle.gq_model.specs.declared.program.Instruction.{Instruction}
use Rattle.gq_model.specs.declared.program.Instruction.TheVariants.{Say, Out, Operands, Make, MakePool, Load}
use Rattle.gq_model.specs.declared.program.Instruction.TheVariants.{Store, Free, Take, Give, Peek, Poke, Open, Upgrade, Call, Close}
use Rattle.gq_model.specs.declared.fault.Rule.TheVariants.{WrongKind, OutOfRange}
use Rattle.gq_model.specs.declared.fault.Wrong.TheVariants.{MissingOperand, UnmappedByte}
use Rattle.gq_model.specs.texts.Operands.{operands, own_number, in_range, is_slot}
use Rattle.gq_model.specs.machine.World.{Bytes, Pool, SlotId, Leaf, World, slot_at, with_slot}
use Rattle.gq_model.specs.machine.Doing.{Doing, Event, Stepped, Quiet, Line, need, when, pop, push, standing, with_operands, on_stack, settled}
use Rattle.gq_model.specs.machine.Memory.{entry_byte, entry_with, if_absent, pool_at}
use Rattle.gq_model.specs.machine.Operate.{operate}
use Rattle.gq_model.specs.machine.Step.{bench, operated, instruct}
use Rattle.gq_model.specs.rules.Kinds.{Kind, Memory, Pool_kind, AbstractState, Context, kind_at}
use Rattle.gq_model.specs.rules.Rules.{Judged, must, popped, pushed, pooled, reached, reach, pool_kind, loaded_bound, limits, bounds_after, judge}
use Rattle.gq_laws.specs.Current_section_facts.{Under}
use Rattle.gq_laws.specs.Typed.{AreBytes, IsEntry, Meets}
use Rattle.gq_laws.specs.Inside_steps.{IsSafe, IsOfOwn, TakesLeaf, Grants, StandsAt, GoesAsRuled}
use Rattle.gq_laws.proofs.statement_rules.Ruled_step_shapes.{safe_gives, safe_need, safe_when, safe_pop, safe_push, given_there, popped_there, pushed_there}
use Rattle.gq_laws.proofs.statement_rules.Ruled_step_shapes.{bounds_there}
use Rattle.gq_laws.proofs.statement_rules.Ruled_step_shapes.{judged_alone}
use Rattle.gq_laws.proofs.statement_rules.Statement_number_bounds.{each_set, each_get, under_length, under_top}
use Rattle.gq_laws.proofs.statement_rules.Ruled_operand_statement.{operated_within}
use Rattle.gq_model.proofs.Small_facts.{get_within}
use Rattle.gq_laws.proofs.statement_rules.Statement_number_bounds.{loads, stored, stored_count, stored_bytes, entry_below, entry_changed, fresh_entry}
use Rattle.gq_laws.proofs.statement_rules.Ruled_slot_kinds.{stands_with, safe_settled, put_alike}
use Rattle.gq_laws.proofs.statement_rules.Ruled_memory_there.{Reaches, HasPool, safe_bytes, safe_pool, reaches, pool_found, slots_kept, makes, fresh_bytes}
use Rattle.gq_laws.proofs.statement_rules.Ruled_memory_there.{fresh_pool, frees}
use Rattle.gq_laws.proofs.statement_rules.Ruled_memory_there.{reaches_there, pool_there}
use Rattle.gq_model.proofs.Rules_laws.{ok_same, must_holds}

and_left : (a b : Bool) → (a && b) ≡ true → a ≡ true
and_left true b e = refl
and_left false b e = e

module _ (promised : ℕ → Option Kind) (c : Context) (d : Doing) (t : TakesLeaf d) (g : Grants promised c d) (state : AbstractState)
    (h : Meets promised c state d.world d.leaf) where
  abbrev At : List ℕ → World → Type 0
  At bounds = StandsAt promised c (record state { bounds = bounds }) d

  -- OPERANDS AND LOCALS

  stands : (ops locs bounds : List ℕ) → Under ops bounds → Under locs c.subject.program.locals
      → At bounds (standing d (record d.leaf { operands = ops; locals = locs }))
  stands ops locs bounds u l =
      let leaf : Leaf = record d.leaf { operands = ops; locals = locs } in
      let m : Meets promised c (record state { bounds = bounds }) d.world leaf =
      record { own = h.own; current = h.current; bank = h.bank; operands = u; locals = l; loops = h.loops } in
      stands_with promised c d (record state { bounds = bounds }) d.world t.old leaf t.there m refl refl refl refl refl

  Ends_at : AbstractState → Stepped → Type 0
  Ends_at new r = IsSafe (StandsAt promised c new d) r

  -- a statement takes the top operand, and the rules its bound
  pops : (u : AbstractState) (rule : ℕ → AbstractState → Judged) (ops : List ℕ) (go : ℕ → List ℕ → Stepped) (new : AbstractState) → Under ops u.bounds → popped
      u rule ≡ Ok new
      → ((a b : ℕ) (below rest : List ℕ) → a ≤ b → Under below rest → rule b (record u { bounds = rest }) ≡ Ok new → Ends_at new (go a below))
      → Ends_at new (pop ops go)
  unfolding Ends_at
  pops u rule ops go new under e k =
      let p = popped_there u rule new e in
      let a = under_top ops p.0 p.1 (subst (Under ops) p.2 under) in
      safe_pop ops go a.0 a.1 a.2 (k a.0 p.0 a.1 p.1 a.3 a.4 p.3)

  -- the statement ends with these operands, and the rules with these bounds
  ends : (ops bounds : List ℕ) (new : AbstractState) → Under ops bounds → record state { bounds = bounds } ≡ new → Ends_at new (on_stack d ops)
  unfolding Ends_at
  ends ops bounds new u e = subst (λ new. IsSafe (StandsAt promised c new d) (on_stack d ops)) e
      (safe_gives (standing d (with_operands d ops)) Quiet (stands ops d.leaf.locals bounds u h.locals))

  -- the rules add a bound, and so the statement an operand
  adds : (a b : ℕ) (ops bounds : List ℕ) (new : AbstractState) → a ≤ b → Under ops bounds → pushed b (record state { bounds = bounds }) ≡ Ok new
      → Ends_at new (on_stack d (a ∷ ops))
  adds a b ops bounds new le u e = ends (a ∷ ops) (b ∷ bounds) new (le, u) (sym (pushed_there b (record state { bounds = bounds }) new e).1)

  pushes : (a b : ℕ) (ops bounds : List ℕ) (new : AbstractState) → a ≤ b → Under ops bounds → pushed b (record state { bounds = bounds }) ≡ Ok new
      → Ends_at new (push a ops (on_stack d))
  unfolding Ends_at
  pushes a b ops bounds new le u e =
      safe_push a ops (on_stack d) (ap (λ n. nat_lt n 16) (under_length ops bounds u) ∙ (pushed_there b (record state { bounds = bounds }) new e).0)
      (adds a b ops bounds new le u e)

  -- the step ends in a world where the leaf stands at these bounds
  gives_at : (w : World) (event : Event) (bounds : List ℕ) (new : AbstractState) → At bounds w → record state { bounds = bounds } ≡ new → Ends_at new
      (Ok (w, event))
  unfolding Ends_at
  gives_at w event bounds new s e = subst (λ new. IsSafe (StandsAt promised c new d) (Ok (w, event))) e (safe_gives w event s)

  out_goes : (new : AbstractState) → judge c state Out ≡ Ok new → Ends_at new (instruct d Out)
  out_goes new e =
      pops state (λ a t. Ok t) d.leaf.operands _ new h.operands e (λ a b below rest le u e.
      gives_at _ (Line (decimal a)) rest new (stands below d.leaf.locals rest u h.locals) (ok_same e))

  operands_go : (s : OperandStatement) → all_of in_range (own_number s) ≡ true → (new : AbstractState) → judge c state (Operands s) ≡ Ok new
      → Ends_at new (instruct d (Operands s))
  unfolding Ends_at
  operands_go s ranged new e =
      let b = bounds_there state (bounds_after (limits c) state.bounds s) new e in
      let o = operated_within (limits c) (bench d) state.bounds h.operands h.locals h.loops g.inputs s ranged b.0 b.1 in
      safe_need (operate (bench d) s) MissingOperand (operated d) o.0 o.1
      (gives_at _ Quiet b.0 new (stands o.0.operands o.0.locals b.0 o.2 o.3) b.2)

  -- BYTES

  -- the bytes that the rules reach
  bytes_found : (place : OperandSlot) (i : ℕ) (width : Width) (next : Judged) (new : AbstractState) → reached c state place i width next ≡ Ok new
      → (n : ℕ) × Reaches d d.world place n × (i + bytes_of width ≤ n) × (next ≡ Ok new)
  bytes_found place i width next new e =
      let n = given_there (reach c (kind_at c state place)) WrongKind (λ n. must (nat_le (i + bytes_of width) n) OutOfRange next) new e in
      let m = must_holds (nat_le (i + bytes_of width) n.0) OutOfRange next new n.2 in
      (n.0, reaches promised c d t g state h place n.0 n.1, leb-true (i + bytes_of width) n.0 m.0, m.1)

  load_goes : (width : Width) (place : OperandSlot) (new : AbstractState) → judge c state (Load width place) ≡ Ok new → Ends_at new
      (instruct d (Load width place))
  unfolding Ends_at
  load_goes width place new e =
      pops state (λ i t. reached c state place i width (pushed (loaded_bound width) t)) d.leaf.operands _ new h.operands e (λ i b below rest le u e.
      let f = bytes_found place b width (pushed (loaded_bound width) (record state { bounds = rest })) new e in
      let within = f.2 in
      let count = f.1.count in
      safe_bytes d d.world place f.0 f.1 _
      (safe_when (nat_le (i + bytes_of width) (length f.1.bytes)) _ _ (le-leb (i + bytes_of width) (length f.1.bytes) (omega (arith, le, within, count)))
      (adds (little (slice_range f.1.bytes i (i + bytes_of width))) (loaded_bound width) below rest new (loads width f.1.bytes i f.1.each) u f.3)))

  -- other bytes, as many as there were
  bytes_put : (ops bounds : List ℕ) (n : ℕ) (place : OperandSlot) (r : Reaches d (standing d (with_operands d ops)) place n) (bytes : List ℕ) → Under ops bounds
      → length bytes ≡ length r.bytes → AreBytes bytes
      → At bounds (with_slot (standing d (with_operands d ops)) r.q (Bytes r.form r.size bytes))
  bytes_put ops bounds n place r bytes u count each =
      put_alike promised c d (record state { bounds = bounds }) (standing d (with_operands d ops)) (stands ops d.leaf.locals bounds u h.locals) r.q
      (Bytes r.form r.size r.bytes) (Bytes r.form r.size bytes) r.there
      (λ kind is. (is.0, count ∙ is.1, each))

  store_goes : (width : Width) (place : OperandSlot) (new : AbstractState) → judge c state (Store width place) ≡ Ok new → Ends_at new
      (instruct d (Store width place))
  unfolding Ends_at
  store_goes width place new e =
      pops state (λ v t. popped t (λ i u. reached c state place i width (Ok u))) d.leaf.operands _ new h.operands e (λ v top below rest v_le u e.
      pops (record state { bounds = rest }) (λ i u. reached c state place i width (Ok u)) below _ new u e (λ i b ops bounds le u e.
      let f = bytes_found place b width (Ok (record state { bounds = bounds })) new e in
      let w = standing d (with_operands d ops) in
      let r = reaches_there d d.world w place f.0 (slots_kept promised c d t g state h (with_operands d ops) refl) (λ k. refl) f.1 in
      let within = f.2 in
      let count = r.count in
      let fits : i + bytes_of width ≤ length r.bytes = omega (arith, le, within, count) in
      safe_bytes d w place f.0 r _
      (safe_when (nat_le (i + bytes_of width) (length r.bytes)) _ _ (le-leb (i + bytes_of width) (length r.bytes) fits)
      (gives_at _ Quiet bounds new
      (bytes_put ops bounds f.0 place r (stored r.bytes i (bytes_of width) v) u (stored_count r.bytes i (bytes_of width) v fits)
      (stored_bytes r.bytes i (bytes_of width) v r.each)) (ok_same f.3)))))

  -- POOLS

  -- an entry of a pool that is there
  record HasEntry (w : World) (place : OperandSlot) (i n : ℕ) : Type 0 where
    pub m : ℕ
    pub pool : HasPool d w place n m
    pub entry : Option (List ℕ)
    pub there : slice_get pool.entries i ≡ Some entry
    pub is : IsEntry n entry

  -- the entry that the rules find, for a number within the bound
  entry_found : (w : World) → ((q : SlotId) → slot_at w q ≡ slot_at d.world q) → (place : OperandSlot) (i b : ℕ) (rule : ℕ → Judged) (new : AbstractState) → i
      ≤ b
      → pooled c state place b rule ≡ Ok new → (n : ℕ) × HasEntry w place i n × (rule n ≡ Ok new)
  entry_found w same place i b rule new le e =
      let p = given_there (pool_kind (kind_at c state place)) WrongKind (λ p. must (nat_lt b p.1) OutOfRange (rule p.0)) new e in
      let m = must_holds (nat_lt b p.0.1) OutOfRange (rule p.0.0) new p.2 in
      let pool = pool_there d d.world w place p.0.0 p.0.1 same (pool_found promised c d t g state h place p.0 p.1) in
      let less = ltb-true b p.0.1 m.0 in
      let count = pool.count in
      let f = get_within pool.entries i (omega (arith, le, less, count)) in
      (p.0.0, record { m = p.0.1; pool = pool; entry = f.0; there = f.1; is = each_get (IsEntry p.0.0) pool.entries i f.0 pool.each f.1 }, m.1)

  safe_entry : {P : World → Type 0} (w : World) (place : OperandSlot) (i n : ℕ) (r : HasEntry w place i n) (go : ℕ → List (Option (List ℕ))
      → (List (Option (List ℕ)) → World) → Option (List ℕ) → Stepped)
      → IsSafe P (go n r.pool.entries (λ new. with_slot w r.pool.q (Pool n new)) r.entry)
      → IsSafe P (pool_at d w place (λ n entries put. need (slice_get entries i) UnmappedByte (go n entries put)))
  safe_entry w place i n r go k = safe_pool d w place n r.m r.pool _ (safe_need (slice_get r.pool.entries i) _ _ r.entry r.there k)

  safe_absent : {P : World → Type 0} (entry : Option (List ℕ)) (a b : Stepped) → IsSafe P a → IsSafe P b → IsSafe P (if_absent entry a b)
  safe_absent None a b x y = x
  safe_absent (Some bytes) a b x y = y

  same_slots : (ops : List ℕ) (q : SlotId) → slot_at (standing d (with_operands d ops)) q ≡ slot_at d.world q
  same_slots ops = slots_kept promised c d t g state h (with_operands d ops) refl

  -- another entry
  entry_put : (ops bounds : List ℕ) (n i : ℕ) (place : OperandSlot) (r : HasEntry (standing d (with_operands d ops)) place i n) (entry : Option (List ℕ))
      → Under ops bounds → IsEntry n entry
      → At bounds (with_slot (standing d (with_operands d ops)) r.pool.q (Pool n (slice_set r.pool.entries i entry)))
  entry_put ops bounds n i place r entry u is =
      put_alike promised c d (record state { bounds = bounds }) (standing d (with_operands d ops)) (stands ops d.leaf.locals bounds u h.locals) r.pool.q
      (Pool n r.pool.entries) (Pool n (slice_set r.pool.entries i entry)) r.pool.there
      (λ kind of. (of.0 ∙ ap (Pool_kind n) (sym (length-set r.pool.entries i entry)), each_set (IsEntry n) r.pool.entries i entry is r.pool.each))

  settles : (w : World) (bounds : List ℕ) (new : AbstractState) → At bounds w → record state { bounds = bounds } ≡ new → Ends_at new (settled d.system d.x w)
  unfolding Ends_at
  settles w bounds new s e = subst (λ new. IsSafe (StandsAt promised c new d) (settled d.system d.x w)) e
      (safe_settled promised c d (record state { bounds = bounds }) w s)

  take_goes : (place : OperandSlot) (new : AbstractState) → judge c state (Take place) ≡ Ok new → Ends_at new (instruct d (Take place))
  unfolding Ends_at
  take_goes place new e =
      pops state (λ i t. pooled c state place i (λ n. pushed 1 t)) d.leaf.operands _ new h.operands e (λ i b below rest le u e.
      let ops = 1 ∷ below in
      let w = standing d (with_operands d ops) in
      let f = entry_found w (same_slots ops) place i b (λ n. pushed 1 (record state { bounds = rest })) new le e in
      let x = pushed_there 1 (record state { bounds = rest }) new f.2 in
      safe_entry w place i f.0 f.1 (λ n entries put entry.
      if_absent entry (settled d.system d.x (put (slice_set entries i (Some (replicate n 0))))) (on_stack d (0 ∷ below)))
      (safe_absent f.1.entry _ _
      (settles _ (1 ∷ rest) new (entry_put ops (1 ∷ rest) f.0 i place f.1 (Some (replicate f.0 0)) (omega arith, u) (fresh_entry f.0)) (sym x.1))
      (adds 0 1 below rest new (omega arith) u f.2)))

  give_goes : (place : OperandSlot) (new : AbstractState) → judge c state (Give place) ≡ Ok new → Ends_at new (instruct d (Give place))
  unfolding Ends_at
  give_goes place new e =
      pops state (λ i t. pooled c state place i (λ n. pushed 1 t)) d.leaf.operands _ new h.operands e (λ i b below rest le u e.
      let ops = 1 ∷ below in
      let w = standing d (with_operands d ops) in
      let f = entry_found w (same_slots ops) place i b (λ n. pushed 1 (record state { bounds = rest })) new le e in
      let x = pushed_there 1 (record state { bounds = rest }) new f.2 in
      safe_entry w place i f.0 f.1 (λ n entries put entry. if_absent entry (on_stack d (0 ∷ below)) (Ok (put (slice_set entries i None), Quiet)))
      (safe_absent f.1.entry _ _
      (adds 0 1 below rest new (omega arith) u f.2)
      (gives_at _ Quiet (1 ∷ rest) new (entry_put ops (1 ∷ rest) f.0 i place f.1 None (omega arith, u) tt) (sym x.1))))

  peek_goes : (place : OperandSlot) (new : AbstractState) → judge c state (Peek place) ≡ Ok new → Ends_at new (instruct d (Peek place))
  unfolding Ends_at
  peek_goes place new e =
      pops state (λ k t. popped t (λ i u. pooled c state place i (λ n. must (nat_lt k n) OutOfRange (pushed 255 u)))) d.leaf.operands _ new h.operands e
      (λ k top below rest k_le u e.
      pops (record state { bounds = rest }) (λ i u. pooled c state place i (λ n. must (nat_lt top n) OutOfRange (pushed 255 u))) below _ new u e
      (λ i b ops bounds le u e.
      let f = entry_found d.world (λ q. refl) place i b (λ n. must (nat_lt top n) OutOfRange (pushed 255 (record state { bounds = bounds }))) new le e in
      let m = must_holds (nat_lt top f.0) OutOfRange (pushed 255 (record state { bounds = bounds })) new f.2 in
      let less = ltb-true top f.0 m.0 in
      safe_entry d.world place i f.0 f.1 (λ n entries put entry. when (nat_lt k n) UnmappedByte (on_stack d (entry_byte entry k ∷ ops)))
      (safe_when (nat_lt k f.0) _ _ (lt-ltb k f.0 (omega (arith, less, k_le)))
      (adds (entry_byte f.1.entry k) 255 ops bounds new (entry_below f.0 k f.1.entry f.1.is) u m.1))))

  poke_goes : (place : OperandSlot) (new : AbstractState) → judge c state (Poke place) ≡ Ok new → Ends_at new (instruct d (Poke place))
  unfolding Ends_at
  poke_goes place new e =
      pops state (λ b t. popped t (λ k u. popped u (λ i v. pooled c state place i (λ n. must (nat_lt k n) OutOfRange (Ok v))))) d.leaf.operands _ new h.operands
      e (λ byte most under rest byte_le u e.
      pops (record state { bounds = rest }) (λ k u. popped u (λ i v. pooled c state place i (λ n. must (nat_lt k n) OutOfRange (Ok v)))) under _ new u e
      (λ k top below left k_le u e.
      pops (record state { bounds = left }) (λ i v. pooled c state place i (λ n. must (nat_lt top n) OutOfRange (Ok v))) below _ new u e
      (λ i b ops bounds le u e.
      let w = standing d (with_operands d ops) in
      let f = entry_found w (same_slots ops) place i b (λ n. must (nat_lt top n) OutOfRange (Ok (record state { bounds = bounds }))) new le e in
      let m = must_holds (nat_lt top f.0) OutOfRange (Ok (record state { bounds = bounds })) new f.2 in
      let less = ltb-true top f.0 m.0 in
      safe_entry w place i f.0 f.1 (λ n entries put entry. when (nat_lt k n) UnmappedByte (Ok (put (slice_set entries i (entry_with k byte entry)), Quiet)))
      (safe_when (nat_lt k f.0) _ _ (lt-ltb k f.0 (omega (arith, less, k_le)))
      (gives_at _ Quiet bounds new (entry_put ops bounds f.0 i place f.1 (entry_with k byte f.1.entry) u (entry_changed f.0 k byte f.1.entry f.1.is))
      (ok_same m.1))))))

  -- ALL

  goes : (new : AbstractState) (i : Instruction) → IsOfOwn i → all_of in_range (operands i) ≡ true → judge c state i ≡ Ok new → Ends_at new (instruct d i)
  unfolding Ends_at
  goes new (Say text) own ranged e = gives_at _ (Line text) state.bounds new (stands d.leaf.operands d.leaf.locals state.bounds h.operands h.locals) (ok_same e)
  goes new Out own ranged e = out_goes new e
  goes new (Operands s) own ranged e = operands_go s ranged new e
  goes new (Make form place n) own ranged e = makes promised c d t g state h place _ (Memory form n) new (and_left (is_slot place) _ ranged)
      (fresh_bytes promised c d t g state h form n) e
  goes new (MakePool place n m) own ranged e = makes promised c d t g state h place _ (Pool_kind n m) new (and_left (is_slot place) _ ranged)
      (fresh_pool promised c d t g state h n m) e
  goes new (Load width place) own ranged e = load_goes width place new e
  goes new (Store width place) own ranged e = store_goes width place new e
  goes new (Free place) own ranged e = frees promised c d t g state h place new (and_left (is_slot place) _ ranged) e
  goes new (Take place) own ranged e = take_goes place new e
  goes new (Give place) own ranged e = give_goes place new e
  goes new (Peek place) own ranged e = peek_goes place new e
  goes new (Poke place) own ranged e = poke_goes place new e
  goes new (Open place service n) own ranged e = absurd own
  goes new (Upgrade place n) own ranged e = absurd own
  goes new (Call place) own ranged e = absurd own
  goes new (Close place) own ranged e = absurd own

-- each of them goes as the rules state
pub own_goes : (promised : ℕ → Option Kind) (c : Context) (d : Doing) → TakesLeaf d → Grants promised c d → GoesAsRuled promised c d
unfolding Ends_at
own_goes promised c d t g state new i own ranged h allowed = goes promised c d t g state h new i own ranged (judged_alone c state i new allowed)
