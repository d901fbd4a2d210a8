-- Statements that leave all slots as they are.
use Rattle.std.proofs.Common.{◌≡◌, ℕ, ◌+◌, Bool, true, false, ◌&&◌, List, [], ◌∷◌, length, refl, ap, sym, ◌∙◌, add_assoc}
use Rattle.std.proofs.Common.{Option, Some, None, Result, Ok, Err}
use Rattle.std.specs.Prelude.{nat_lt, nat_le, ◌==◌, OnOk}
use Rattle.gq_model.specs.machine.Amounts.{same_amount}
use Rattle.gq_model.specs.declared.fault.Rule.{Rule}
use Rattle.gq_model.specs.declared.fault.Rule.TheVariants.{LeftoverOperand, JoinDiffers}
use Rattle.gq_model.specs.declared.program.Form.TheVariants.{Block, Slice, Space}
use Rattle.gq_model.specs.declared.program.OperandSlot.{OperandSlot}
use Rattle.gq_model.specs.declared.program.Width.{Width}
use Rattle.gq_model.specs.declared.program.Instruction.{Instruction}
use Rattle.gq_model.specs.declared.program.Instruction.TheVariants.{Say, Out, Operands, Make}
use Rattle.gq_model.specs.declared.program.Instruction.TheVariants.{MakePool, Load, Store, Free, Take, Give, Peek, Poke, Open, Upgrade, Call, Close}
use Rattle.gq_model.specs.machine.Program.{bytes_of, Statements, Done, Do, If, Loop, size}
use Rattle.gq_model.specs.machine.Scenario.{interface_in}
use Rattle.gq_model.specs.rules.Kinds.{Kind, Empty_kind, Memory, Pool_kind, Link_kind, AbstractState, Context, inside, kind_at, same_kind, same_kinds}
use Rattle.gq_model.specs.rules.Rules.{Judged, Bounded, with_bounds, must, given, top, pushed, and_then, reach, pool_kind, link_kind, called, pooled, reached}
use Rattle.gq_model.specs.rules.Rules.{judge, judged, within_need}
use Rattle.gq_model.specs.rules.Flow.{Flowed, at, later, flow_then, chosen_from, none_left, join, flow, is_nil}
use Rattle.gq_program.specs.Notes.{keeps_slots, is_still}
use Rattle.gq_rules.specs.internal.List_states.{chosen}
use Rattle.gq_rules.specs.internal.Open_maxima.{PeaksWith}
use Rattle.gq_rules.specs.declared.broken.Broken.{Broken}
use Rattle.gq_rules.specs.Flowing.{flowed}
use Rattle.gq_rules.specs.Judging.{after}
use Rattle.gq_caps.specs.declared.totals.Totals.{Totals}
use Rattle.gq_rules.proofs.Statement_list_states.{then_ok, later_ok, must_ok, ok_same, chosen_is, joined_is, peaks_stay}
use Rattle.gq_model.proofs.Rules_laws.{within_same, at_ok, nil_is, join_ok}
use Rattle.std.proofs.lemmas.Bool.{and_parts}
use Rattle.gq_model.proofs.Small_facts.{equal_self, text_self}

-- WHAT A STATEMENT LEAVES

pub record Same (s t : AbstractState) : Type 0 where
  pub own : t.own ≡ s.own
  pub bank : t.bank ≡ s.bank

same : (s : AbstractState) → Same s s
same s = record { own = refl; bank = refl }

same_then : (s t u : AbstractState) → Same s t → Same t u → Same s u
same_then s t u h k = record { own = k.own ∙ h.own; bank = k.bank ∙ h.bank }

same_by : (s t u : AbstractState) → t ≡ u → Same s u → Same s t
same_by s t u e h = record { own = ap (λ (t : AbstractState). t.own) e ∙ h.own; bank = ap (λ (t : AbstractState). t.bank) e ∙ h.bank }

-- the banks stay where it breaks no rule
record Keeps (s : AbstractState) (j : Judged) : Type 0 where
  pub holds : (t : AbstractState) → j ≡ Ok t → Same s t

judged_same : (s t : AbstractState) → (let j : Judged = Ok s in j) ≡ Ok t → t ≡ s
judged_same s t e = cc

ok_keeps : (s : AbstractState) (bounds : List ℕ) → Keeps s (Ok (record s { bounds = bounds }))
ok_keeps s bounds =
    record { holds = λ t e. same_by s t (record s { bounds = bounds }) (judged_same (record s { bounds = bounds }) t e) (record { own = refl; bank = refl }) }

bounds_keep : (s : AbstractState) (b : Bounded) → Keeps s (with_bounds s b)
bounds_keep s (Ok bounds) = ok_keeps s bounds
bounds_keep s (Err rule) = record { holds = λ t e. cc }

must_keeps : (s : AbstractState) (b : Bool) (rule : Rule) (next : Judged) → Keeps s next → Keeps s (must b rule next)
must_keeps s true rule next h = record { holds = h.holds }
must_keeps s false rule next h = record { holds = λ t e. cc }

given_keeps : {A : Type 0} (s : AbstractState) (o : Option A) (rule : Rule) (go : A → Judged) → ((a : A) → Keeps s (go a)) → Keeps s (given o rule go)
given_keeps s None rule go each = record { holds = λ t e. cc }
given_keeps s (Some a) rule go each = record { holds = (each a).holds }

top_keeps : (s : AbstractState) (bounds : List ℕ) (go : ℕ → List ℕ → Judged) → ((a : ℕ) (rest : List ℕ) → Keeps s (go a rest)) → Keeps s (top bounds go)
top_keeps s [] go each = record { holds = λ t e. cc }
top_keeps s (a ∷ rest) go each = record { holds = (each a rest).holds }

pushed_keeps : (s : AbstractState) (a : ℕ) (bounds : List ℕ) → Keeps s (pushed a (record s { bounds = bounds }))
pushed_keeps s a bounds = must_keeps s (nat_lt (length bounds) 16) _ _ (ok_keeps s (a ∷ bounds))

pooled_keeps : (c : Context) (s t : AbstractState) (place : OperandSlot) (i : ℕ) (go : ℕ → Judged) → ((n : ℕ) → Keeps s (go n)) → Keeps s
    (pooled c t place i go)
pooled_keeps c s t place i go each = given_keeps s (pool_kind (kind_at c t place)) _ _ (λ p. must_keeps s (nat_lt i p.1) _ _ (each p.0))

reached_keeps : (c : Context) (s t : AbstractState) (place : OperandSlot) (i : ℕ) (width : Width) (next : Judged) → Keeps s next → Keeps s
    (reached c t place i width next)
reached_keeps c s t place i width next h = given_keeps s (reach c (kind_at c t place)) _ _ (λ n. must_keeps s (nat_le (i + bytes_of width) n) _ _ h)

called_keeps : (c : Context) (s : AbstractState) (a : ℕ) (bounds : List ℕ) (place : OperandSlot) → Keeps s (called c (record s { bounds = bounds }) a place)
called_keeps c s a bounds place =
    given_keeps s (link_kind (kind_at c (record s { bounds = bounds }) place)) _ _ (λ l.
    given_keeps s (interface_in l.0 c.subject.interfaces) _ _ (λ i. must_keeps s (nat_le a i.arg) _ _ (pushed_keeps s i.reply bounds)))

judge_keeps : (c : Context) (s : AbstractState) (i : Instruction) → keeps_slots i ≡ true → Keeps s (judge c s i)
judge_keeps c s (Say text) k = ok_keeps s s.bounds
judge_keeps c s Out k = top_keeps s s.bounds _ (λ a rest. ok_keeps s rest)
judge_keeps c s (Operands o) k = bounds_keep s _
judge_keeps c s (Load width place) k = top_keeps s s.bounds _ (λ i rest. reached_keeps c s s place i width _ (pushed_keeps s _ rest))
judge_keeps c s (Store width place) k =
    top_keeps s s.bounds _ (λ v rest. top_keeps s rest _ (λ i below. reached_keeps c s s place i width _ (ok_keeps s below)))
judge_keeps c s (Take place) k = top_keeps s s.bounds _ (λ i rest. pooled_keeps c s s place i _ (λ n. pushed_keeps s 1 rest))
judge_keeps c s (Give place) k = top_keeps s s.bounds _ (λ i rest. pooled_keeps c s s place i _ (λ n. pushed_keeps s 1 rest))
judge_keeps c s (Peek place) k =
    top_keeps s s.bounds _ (λ k rest. top_keeps s rest _ (λ i below. pooled_keeps c s s place i _ (λ n. must_keeps s _ _ _ (pushed_keeps s 255 below))))
judge_keeps c s (Poke place) k =
    top_keeps s s.bounds _ (λ b rest.
    top_keeps s rest _ (λ k below. top_keeps s below _ (λ i last. pooled_keeps c s s place i _ (λ n. must_keeps s _ _ _ (ok_keeps s last)))))
judge_keeps c s (Call place) k = top_keeps s s.bounds _ (λ a rest. called_keeps c s a rest place)
judge_keeps c s (Make form place n) k = cc
judge_keeps c s (MakePool place n m) k = cc
judge_keeps c s (Free place) k = cc
judge_keeps c s (Open place service n) k = cc
judge_keeps c s (Upgrade place n) k = cc
judge_keeps c s (Close place) k = cc

judged_keeps : (c : Context) (s t : AbstractState) (j : Judged) → Keeps s j → and_then j (within_need c.section c.subject.provided) ≡ Ok t → Same s t
judged_keeps c s t (Ok u) h e = same_by s t u (sym (within_same c.section c.subject.provided u t e)) (h.holds u refl)
judged_keeps c s t (Err rule) h e = cc

-- a list of such statements leaves the banks as they were
pub flow_still : (c : Context) (s t : AbstractState) (b : Statements) → is_still b ≡ true → Ok t ≡ flow c s b → Same s t
flow_still c s t Done k e = same_by s t s (ok_same t s e) (same s)
flow_still c s t (Do i rest) k e =
    let a = and_parts (keeps_slots i) (is_still rest) k in
    let p = then_ok (at 1 (judged c s i)) _ t e in
    let here = judged_keeps c s p.0 (judge c s i) (judge_keeps c s i a.0) (at_ok 1 (judged c s i) p.0 p.1) in
    same_then s p.0 t here (flow_still c p.0 t rest a.1 (sym (later_ok 1 (flow c p.0 rest) t p.2)))
flow_still c s t (If arm other rest) k e =
    let a = and_parts (is_still arm && is_still other) (is_still rest) k in
    let d = and_parts (is_still arm) (is_still other) a.0 in
    let p = then_ok (at 1 (chosen_from s)) _ t e in
    let u = chosen_is s p.0 (at_ok 1 (chosen_from s) p.0 p.1) in
    let q = then_ok (later 1 (flow c p.0 arm)) _ t p.2 in
    let r = then_ok (later (1 + size arm) (flow c p.0 other)) _ t q.2 in
    let w = then_ok (at 1 (join q.0 r.0)) _ t r.2 in
    let joined = joined_is q.0 r.0 w.0 (at_ok 1 (join q.0 r.0) w.0 w.1) in
    let h1 = same_by s p.0 (chosen s) u (record { own = refl; bank = refl }) in
    let h2 = flow_still c p.0 q.0 arm d.0 (sym (later_ok 1 (flow c p.0 arm) q.0 (sym q.1))) in
    let h3 = same_by s w.0 q.0 joined (same_then s p.0 q.0 h1 h2) in
    same_then s w.0 t h3 (flow_still c w.0 t rest a.1 (sym (later_ok (1 + size arm + size other) (flow c w.0 rest) t w.2)))
flow_still c s t (Loop count body rest) k e =
    let a = and_parts (is_still body) (is_still rest) k in
    let p = then_ok (at 1 (none_left s)) _ t e in
    let u = must_ok (is_nil s.bounds) LeftoverOperand s p.0 (at_ok 1 (none_left s) p.0 p.1) in
    let q = then_ok (later 1 (flow (inside c count) p.0 body)) _ t p.2 in
    let w = then_ok (at 1 (join p.0 q.0)) _ t q.2 in
    let joined = joined_is p.0 q.0 w.0 (at_ok 1 (join p.0 q.0) w.0 w.1) in
    let h = same_by s w.0 p.0 joined (same_by s p.0 s u (same s)) in
    same_then s w.0 t h (flow_still c w.0 t rest a.1 (sym (later_ok (1 + size body) (flow c w.0 rest) t w.2)))

-- what is measured stays as it was where an instruction changes no slot
pub still_measured : {X : Type 0} (r : Result X Broken) (c : Context) (s t : AbstractState) (i : Instruction) (n : ℕ) (p : Totals) → keeps_slots i ≡ true →
    flowed r t ≡ later n (flow c s (Do i Done)) → OnOk r (PeaksWith p p (s ∷ []) t)
still_measured (Ok u) c s t i n p k e =
    let still : is_still (Do i Done) ≡ true = ap (λ (b : Bool). b && true) k in
    peaks_stay p s t (flow_still c s t (Do i Done) still (sym (later_ok n (flow c s (Do i Done)) t e))).own
still_measured (Err broken) c s t i n p k e = tt

-- A STILL `IF` AND A STILL LOOP

kind_same : (k : Kind) → same_kind k k ≡ true
kind_same Empty_kind = refl
kind_same (Memory Block n) = equal_self n
kind_same (Memory Slice n) = equal_self n
kind_same (Memory Space n) = equal_self n
kind_same (Pool_kind n m) = ap (λ (b : Bool). b && (m == m)) (equal_self n) ∙ equal_self m
kind_same (Link_kind s l a) =
    ap (λ (b : Bool). b && (l == l) && same_amount a a) (text_self s)
    ∙ (ap (λ (b : Bool). b && same_amount a a) (equal_self l) ∙ (ap (λ (b : Bool). b && (a.caps == a.caps)) (equal_self a.ram) ∙ equal_self a.caps))

kinds_same : (ks : List Kind) → same_kinds ks ks ≡ true
kinds_same [] = refl
kinds_same (k ∷ ks) = ap (λ (b : Bool). b && same_kinds ks ks) (kind_same k) ∙ kinds_same ks

-- two ways that leave the slots alike join where no operand is left
pub join_same : (u v : AbstractState) → u.own ≡ v.own → u.bank ≡ v.bank → join u v ≡ must (is_nil u.bounds && is_nil v.bounds) LeftoverOperand (Ok u)
join_same u v a b =
    let x : same_kinds u.own v.own ≡ true = ap (same_kinds u.own) (sym a) ∙ kinds_same u.own in
    let y : same_kinds u.bank v.bank ≡ true = ap (same_kinds u.bank) (sym b) ∙ kinds_same u.bank in
    ap (λ (t : Bool). must (is_nil u.bounds && is_nil v.bounds) LeftoverOperand (must t JoinDiffers (Ok u)))
    (ap (λ (t : Bool). t && same_kinds u.bank v.bank) x ∙ y)

abbrev state_of : List Kind → List Kind → List ℕ → AbstractState
state_of own bank bounds = record { own = own; bank = bank; bounds = bounds }

-- two states with these banks and operands are the same
pub same_state : (s t : AbstractState) → s.own ≡ t.own → s.bank ≡ t.bank → s.bounds ≡ t.bounds → s ≡ t
same_state s t a b d =
    ap (λ (o : List Kind). state_of o s.bank s.bounds) a ∙ (ap (λ (k : List Kind). state_of t.own k s.bounds) b ∙ ap (state_of t.own t.bank) d)

must_either : (b : Bool) (r : Rule) (u v : AbstractState) → (b ≡ true → u ≡ v) → must b r (Ok u) ≡ must b r (Ok v)
must_either true r u v e = ap (λ (s : AbstractState). let j : Judged = Ok s in j) (e refl)
must_either false r u v e = refl

at_join : (n b : ℕ) (j : Judged) → later n (flow_then (at 1 j) (λ w. later b (Ok w))) ≡ at (n + 1) j
at_join n b (Ok w) = refl
at_join n b (Err r) = refl

joins : (n a b : ℕ) (u : AbstractState) (x : Flowed) →
    later n (flow_then (later a x) (λ v. flow_then (at 1 (join u v)) (λ w. later b (Ok w)))) ≡ flow_then (later (n + a) x) (λ v. at (n + 1) (join u v))
joins n a b u (Ok v) = at_join n b (join u v)
joins n a b u (Err f) = ap (λ (k : ℕ). let r : Flowed = Err (f.0, k) in r) (sym (add_assoc n a f.1))

-- what an `if` comes to where its first arm leads to u
pub if_as : (c : Context) (s t u : AbstractState) (arm other : Statements) (n m : ℕ) → Ok t ≡ chosen_from s → Ok u ≡ later m (flow c t arm) →
    later n (flow c s (If arm other Done)) ≡ flow_then (later (n + (1 + size arm)) (flow c t other)) (λ v. at (n + 1) (join u v))
if_as c s t u arm other n m h e =
    let b = 1 + size arm + size other in
    let last = λ (u : AbstractState). flow_then (later (1 + size arm) (flow c t other)) (λ v. flow_then (at 1 (join u v)) (λ w. later b (Ok w))) in
    let k =
    λ (j : Judged). later n (flow_then (at 1 j) (λ t.
    flow_then (later 1 (flow c t arm)) (λ u.
    flow_then (later (1 + size arm) (flow c t other)) (λ v. flow_then (at 1 (join u v)) (λ w. later b (Ok w)))))) in
    let x = later_ok m (flow c t arm) u e in
    ap k (sym h) ∙ (ap (λ (y : Flowed). later n (flow_then (later 1 y) last)) x ∙ joins n (1 + size arm) b u (flow c t other))

-- what a loop comes to where its body leads to u
pub loop_as : (c : Context) (s t u : AbstractState) (count : ℕ) (body : Statements) (n m : ℕ) → Ok t ≡ none_left s → Ok u ≡ later m
    (flow (inside c count) t body) →
    later n (flow c s (Loop count body Done)) ≡ at (n + 1) (join t u)
loop_as c s t u count body n m h e =
    let b = 1 + size body in
    let last = λ (u : AbstractState). flow_then (at 1 (join t u)) (λ w. later b (Ok w)) in
    let k =
    λ (j : Judged). later n (flow_then (at 1 j) (λ t.
    flow_then (later 1 (flow (inside c count) t body)) (λ u. flow_then (at 1 (join t u)) (λ w. later b (Ok w))))) in
    let x = later_ok m (flow (inside c count) t body) u e in
    ap k (sym h) ∙ (ap (λ (y : Flowed). later n (flow_then (later 1 y) last)) x ∙ at_join n b (join t u))

-- the second arm of a still `if` starts where the first does
pub still_second : (c : Context) (s t u : AbstractState) (arm : Statements) (m : ℕ) → is_still arm ≡ true → Ok t ≡ chosen_from s → Ok u ≡ later m
    (flow c t arm) →
    (record u { bounds = [] }) ≡ t
still_second c s t u arm m k h e =
    let w = chosen_is s t (sym h) in
    let z = flow_still c t u arm k (sym (later_ok m (flow c t arm) u e)) in
    same_state (record u { bounds = [] }) t z.own z.bank (sym (ap (λ (s : AbstractState). s.bounds) w))

both_nil : (u v : AbstractState) → (is_nil u.bounds && is_nil v.bounds) ≡ true → u.bounds ≡ v.bounds
both_nil u v e = let p = and_parts (is_nil u.bounds) (is_nil v.bounds) e in nil_is u.bounds p.0 ∙ sym (nil_is v.bounds p.1)

-- where both arms are still the join asks for no more than that no operand is left
pub still_join : (c : Context) (t u v : AbstractState) (arm other : Statements) (m p : ℕ) → is_still arm ≡ true → is_still other ≡ true →
    Ok u ≡ later m (flow c t arm) → Ok v ≡ later p (flow c t other) → join u v ≡ must (is_nil u.bounds && is_nil v.bounds) LeftoverOperand (Ok v)
still_join c t u v arm other m p k l e f =
    let a = flow_still c t u arm k (sym (later_ok m (flow c t arm) u e)) in
    let b = flow_still c t v other l (sym (later_ok p (flow c t other) v f)) in
    let own : u.own ≡ v.own = a.own ∙ sym b.own in
    let bank : u.bank ≡ v.bank = a.bank ∙ sym b.bank in
    join_same u v own bank ∙ must_either (is_nil u.bounds && is_nil v.bounds) LeftoverOperand u v (λ n. same_state u v own bank (both_nil u v n))

nil_and : (l : List ℕ) (b : Bool) → l ≡ [] → (is_nil l && b) ≡ b
nil_and [] b e = refl
nil_and (a ∷ l) b e = cc

pub still_round : (c : Context) (t u : AbstractState) (body : Statements) (m : ℕ) → is_still body ≡ true → t.bounds ≡ [] → Ok u ≡ later m (flow c t body) →
    join t u ≡ none_left u
still_round c t u body m k none e =
    let a = flow_still c t u body k (sym (later_ok m (flow c t body) u e)) in
    join_same t u (sym a.own) (sym a.bank)
    ∙ (must_either (is_nil t.bounds && is_nil u.bounds) LeftoverOperand t u (λ n. same_state t u (sym a.own) (sym a.bank) (both_nil t u n))
    ∙ ap (λ (b : Bool). must b LeftoverOperand (Ok u)) (nil_and t.bounds (is_nil u.bounds) none))

pub on_any : {X Y A : Type 0} (r : Result X Y) → A → OnOk r A
on_any (Ok x) a = a
on_any (Err y) a = tt

must_true : (b : Bool) (r : Rule) (j : Judged) (t : AbstractState) → must b r j ≡ Ok t → b ≡ true
must_true true r j t e = refl
must_true false r j t e = cc

pub none_are : (s t : AbstractState) → Ok t ≡ none_left s → s.bounds ≡ []
none_are s t e = nil_is s.bounds (must_true (is_nil s.bounds) LeftoverOperand (Ok s) t (sym e))

-- where two ways join, either of them goes on
pub after_either : {A : Type 0} (r : Result A Rule) (s t : AbstractState) → after r s ≡ join s t → after r t ≡ join s t
after_either (Ok a) s t e = ap (λ (u : AbstractState). let r : Judged = Ok u in r) (join_ok s t s (sym e)).2 ∙ e
after_either (Err rule) s t e = e
