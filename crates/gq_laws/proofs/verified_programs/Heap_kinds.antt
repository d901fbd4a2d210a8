-- By the rules no kind for which the heap has places comes into a session's bank.
use Rattle.std.proofs.Common.{◌≡◌, ℕ, zero, suc, ◌+◌, ◌&&◌, nat_lt, Bool, true, false, not, List, length, Option, Ok, Err, refl, ap, sym, subst}
use Rattle.std.specs.Prelude.{nat_le, slice_index_or}
use Rattle.gq_model.specs.machine.Amounts.{Amount, amount, plus}
use Rattle.gq_model.specs.declared.program.OperandSlot.{OperandSlot}
use Rattle.gq_model.specs.declared.program.OperandSlot.TheVariants.{Own, Shared, Object}
use Rattle.gq_model.specs.declared.program.Width.{Width}
use Rattle.gq_model.specs.declared.program.Instruction.{Instruction}
use Rattle.gq_model.specs.declared.program.Instruction.TheVariants.{Say, Out, Operands, Make, MakePool, Load}
use Rattle.gq_model.specs.declared.program.Instruction.TheVariants.{Store, Free, Take, Give, Peek, Poke, Open, Upgrade, Call, Close}
use Rattle.gq_model.specs.declared.section.Section.{Section}
use Rattle.gq_model.specs.declared.section.Section.TheVariants.{Main, Opening, Upgrading, Calling, Closing, Reacting}
use Rattle.gq_model.specs.declared.fault.Rule.{Rule}
use Rattle.gq_model.specs.machine.Program.{bytes_of, Statements, Done, Do, If, Loop}
use Rattle.gq_model.specs.machine.Scenario.{Interface, interface_in}
use Rattle.gq_model.specs.rules.Kinds.{Kind, Empty_kind, Memory, Pool_kind, Link_kind, AbstractState, Subject, Context, kind_at, with_kind, no_kinds}
use Rattle.gq_model.specs.rules.Rules.{Judged, Bounded, must, given, top, pushed, is_empty_kind, is_memory_kind, is_kept, may_change, is_heap_kind, is_shared}
use Rattle.gq_model.specs.rules.Rules.{reach, pool_kind, fill, freed, link_kind, linked, opened, upgraded, called, closed, pooled, reached, with_bounds}
use Rattle.gq_model.specs.rules.Rules.{judge, judged}
use Rattle.gq_model.specs.rules.Flow.{Flowed, at, later, chosen_from, flow, state_or, context, body, bank_at, bank_before, start_of}
use Rattle.gq_laws.proofs.statement_rules.Ruled_step_shapes.{given_there, top_there, bounds_there, pushed_there, judged_alone}
use Rattle.gq_laws.proofs.statement_rules.Statement_number_bounds.{each_set}
use Rattle.gq_laws.proofs.verified_programs.Kind_costs.{NoHeap}
use Rattle.gq_model.proofs.Rules_laws.{then_ok, at_ok, later_ok, loop_ok, ok_same, must_holds, if_parts}

-- a kind of the heap's goes to an own slot alone
light_here : (heap shared : Bool) → not (heap && shared) ≡ true → shared ≡ true → heap ≡ false
light_here false shared e is = refl
light_here true shared e is = absurd (by shared e is)
  where
    by : (b : Bool) → not b ≡ true → b ≡ true → ⊥
    by true e is = cc
    by false e is = cc

-- ONE STATEMENT

-- none comes into the bank
record StaysLight (s : AbstractState) (j : Judged) : Type 0 where
  holds : (t : AbstractState) → j ≡ Ok t → NoHeap s.bank → NoHeap t.bank

ok_light : (s : AbstractState) (bounds : List ℕ) → StaysLight s (Ok (record s { bounds = bounds }))
ok_light s bounds = record { holds = λ t e h. subst (λ (u : AbstractState). NoHeap u.bank) (ok_same e) h }

bounds_light : (s : AbstractState) (b : Bounded) → StaysLight s (with_bounds s b)
bounds_light s b = record { holds = λ t e h. subst (λ (u : AbstractState). NoHeap u.bank) (bounds_there s b t e).2 h }

must_light : (s : AbstractState) (b : Bool) (rule : Rule) (next : Judged) → (b ≡ true → StaysLight s next) → StaysLight s (must b rule next)
must_light s b rule next go = record { holds = λ t e h. (let m = must_holds b rule next t e in (go m.0).holds t m.1 h) }

given_light : {A : Type 0} (s : AbstractState) (o : Option A) (rule : Rule) (go : A → Judged) → ((a : A) → StaysLight s (go a)) → StaysLight s (given o rule go)
given_light s o rule go each = record { holds = λ t e h. (let g = given_there o rule go t e in (each g.0).holds t g.2 h) }

top_light : (s : AbstractState) (bounds : List ℕ) (go : ℕ → List ℕ → Judged) → ((a : ℕ) (rest : List ℕ) → StaysLight s (go a rest)) → StaysLight s
    (top bounds go)
top_light s bounds go each = record { holds = λ t e h. (let p = top_there bounds go t e in (each p.0 p.1).holds t p.3 h) }

pushed_light : (s : AbstractState) (a : ℕ) (bounds : List ℕ) → StaysLight s (pushed a (record s { bounds = bounds }))
pushed_light s a bounds = record { holds = λ t e h. subst (λ (u : AbstractState). NoHeap u.bank) (sym (pushed_there a (record s { bounds = bounds }) t e).1) h }

put_light : (s : AbstractState) (place : OperandSlot) (kind : Kind) → (is_shared place ≡ true → is_heap_kind kind ≡ false) → NoHeap s.bank
    → NoHeap (with_kind s place kind).bank
put_light s (Own i) kind light h = h
put_light s (Shared i) kind light h = each_set (λ kind. is_heap_kind kind ≡ false) s.bank i kind (light refl) h
put_light s Object kind light h = h

slot_light : (s : AbstractState) (place : OperandSlot) (kind : Kind) → (is_shared place ≡ true → is_heap_kind kind ≡ false) → StaysLight s
    (Ok (with_kind s place kind))
slot_light s place kind light = record { holds = λ t e h. subst (λ (u : AbstractState). NoHeap u.bank) (ok_same e) (put_light s place kind light h) }

module _ (c : Context) where
  fill_light : (s : AbstractState) (place : OperandSlot) (kind : Kind) → StaysLight s (fill c s place kind)
  fill_light s place kind =
      given_light s (kind_at c s place) _ _ (λ old. must_light s (is_empty_kind old) _ _
      (λ empty. must_light s (may_change c place) _ _ (λ may. must_light s (not (is_heap_kind kind && is_shared place)) _ _ (λ light.
      slot_light s place kind (light_here (is_heap_kind kind) (is_shared place) light)))))

  freed_light : (s : AbstractState) (place : OperandSlot) → StaysLight s (freed c s place)
  freed_light s place =
      given_light s (kind_at c s place) _ _ (λ old. must_light s (is_memory_kind old) _ _
      (λ memory. must_light s (not (is_kept c place)) _ _
      (λ unkept. must_light s (may_change c place) _ _ (λ may. slot_light s place Empty_kind (λ shared. refl)))))

  pooled_light : (s : AbstractState) (place : OperandSlot) (i : ℕ) (go : ℕ → Judged) → ((n : ℕ) → StaysLight s (go n)) → StaysLight s (pooled c s place i go)
  pooled_light s place i go each = given_light s (pool_kind (kind_at c s place)) _ _ (λ p. must_light s (nat_lt i p.1) _ _ (λ within. each p.0))

  reached_light : (s : AbstractState) (place : OperandSlot) (i : ℕ) (width : Width) (next : Judged) → StaysLight s next → StaysLight s
      (reached c s place i width next)
  reached_light s place i width next h = given_light s (reach c (kind_at c s place)) _ _ (λ n. must_light s (nat_le (i + bytes_of width) n) _ _ (λ within. h))

  linked_light : (s : AbstractState) (place : OperandSlot) (go : List ℕ → ℕ → Amount → Interface → Judged)
      → ((service : List ℕ) (level : ℕ) (given : Amount) (i : Interface) → StaysLight s (go service level given i)) → StaysLight s (linked c s place go)
  linked_light s place go each = given_light s (link_kind (kind_at c s place)) _ _
      (λ l. given_light s (interface_in l.0 c.subject.interfaces) _ _ (λ i. each l.0 l.1 l.2 i))

  opened_light : (s : AbstractState) (place : OperandSlot) (service : List ℕ) (n : ℕ) → StaysLight s (opened c s place service n)
  opened_light s place service n =
      given_light s (kind_at c s place) _ _ (λ old. must_light s (is_empty_kind old) _ _
      (λ empty. must_light s (may_change c place) _ _ (λ may.
      given_light s (interface_in service c.subject.interfaces) _ _ (λ i. must_light s (nat_le i.need.ram n) _ _ (λ enough.
      slot_light s place (Link_kind service 0 (amount n i.need.caps)) (λ shared. refl))))))

  upgraded_light : (s : AbstractState) (place : OperandSlot) (n : ℕ) → StaysLight s (upgraded c s place n)
  upgraded_light s place n =
      linked_light s place _ (λ service level given i. must_light s (nat_lt level (length i.upgrades)) _ _
      (λ within. must_light s (may_change c place) _ _ (λ may.
      let next = slice_index_or i.upgrades level (amount 0 0) in
      must_light s (nat_le next.ram n) _ _ (λ enough. slot_light s place (Link_kind service (suc level) (plus given (amount n next.caps))) (λ shared. refl)))))

  called_light : (s : AbstractState) (a : ℕ) (bounds : List ℕ) (place : OperandSlot) → StaysLight s (called c (record s { bounds = bounds }) a place)
  called_light s a bounds place = linked_light s place _ (λ service level given i. must_light s (nat_le a i.arg) _ _ (λ within. pushed_light s i.reply bounds))

  closed_light : (s : AbstractState) (place : OperandSlot) → StaysLight s (closed c s place)
  closed_light s place = linked_light s place _ (λ service level given i.
      must_light s (may_change c place) _ _ (λ may. slot_light s place Empty_kind (λ shared. refl)))

  judge_light : (s : AbstractState) (i : Instruction) → StaysLight s (judge c s i)
  judge_light s (Say text) = ok_light s s.bounds
  judge_light s Out = top_light s s.bounds _ (λ a rest. ok_light s rest)
  judge_light s (Operands o) = bounds_light s _
  judge_light s (Make form place n) = fill_light s place (Memory form n)
  judge_light s (MakePool place n m) = fill_light s place (Pool_kind n m)
  judge_light s (Load width place) = top_light s s.bounds _ (λ i rest. reached_light s place i width _ (pushed_light s _ rest))
  judge_light s (Store width place) =
      top_light s s.bounds _ (λ v rest. top_light s rest _ (λ i below. reached_light s place i width _ (ok_light s below)))
  judge_light s (Free place) = freed_light s place
  judge_light s (Take place) = top_light s s.bounds _ (λ i rest. pooled_light s place i _ (λ n. pushed_light s 1 rest))
  judge_light s (Give place) = top_light s s.bounds _ (λ i rest. pooled_light s place i _ (λ n. pushed_light s 1 rest))
  judge_light s (Peek place) =
      top_light s s.bounds _ (λ k rest. top_light s rest _ (λ i below. pooled_light s place i _ (λ n. must_light s _ _ _ (λ within. pushed_light s 255 below))))
  judge_light s (Poke place) =
      top_light s s.bounds _ (λ b rest. top_light s rest _
      (λ k below. top_light s below _ (λ i last. pooled_light s place i _ (λ n. must_light s _ _ _ (λ within. ok_light s last)))))
  judge_light s (Open place service n) = opened_light s place service n
  judge_light s (Upgrade place n) = upgraded_light s place n
  judge_light s (Call place) = top_light s s.bounds _ (λ a rest. called_light s a rest place)
  judge_light s (Close place) = closed_light s place

-- a statement brings none into the bank
pub judged_no_heap : (c : Context) (s t : AbstractState) (i : Instruction) → judged c s i ≡ Ok t → NoHeap s.bank → NoHeap t.bank
judged_no_heap c s t i e h = (judge_light c s i).holds t (judged_alone c s i t e) h

-- LISTS OF STATEMENTS

chosen_light : (s : AbstractState) → StaysLight s (chosen_from s)
chosen_light s = top_light s s.bounds _ (λ a rest. must_light s _ _ _ (λ none. ok_light s rest))

-- and neither does a list
pub bank_no_heap : (c : Context) (s t : AbstractState) (todo : Statements) → flow c s todo ≡ Ok t → NoHeap s.bank → NoHeap t.bank
bank_no_heap c s t Done e h = subst (λ (u : AbstractState). NoHeap u.bank) (ap (state_or s) e) h
bank_no_heap c s t (Do i rest) e h =
    let p = then_ok (at 1 (judged c s i)) (λ v. later 1 (flow c v rest)) t e in
    bank_no_heap c p.0 t rest (later_ok 1 (flow c p.0 rest) t p.2) (judged_no_heap c s p.0 i (at_ok 1 (judged c s i) p.0 p.1) h)
bank_no_heap c s t (If arm other rest) e h =
    let p = if_parts c s arm other rest t e in
    bank_no_heap c p.1 t rest p.5 (bank_no_heap c p.0 p.1 arm p.3 ((chosen_light s).holds p.0 p.2 h))
bank_no_heap c s t (Loop count inner rest) e h = bank_no_heap c s t rest (loop_ok c s count inner rest t e).2 h

-- BANKS OF SESSIONS

none_light : NoHeap no_kinds
none_light = (refl, (refl, (refl, (refl, (refl, (refl, (refl, (refl, tt))))))))

pub reached_no_heap : (c : Context) (s : AbstractState) (todo : Statements) → NoHeap s.bank → NoHeap (state_or s (flow c s todo)).bank
reached_no_heap c s todo h = by (flow c s todo) refl
  where
    by : (r : Flowed) → flow c s todo ≡ r → NoHeap (state_or s r).bank
    by (Ok t) e = bank_no_heap c s t todo e h
    by (Err fault) e = h

-- between two requests there is none in the bank
pub bank_at_no_heap : (v : Subject) (l : ℕ) → NoHeap (bank_at v l)
bank_at_no_heap v zero = reached_no_heap (context v Opening) (start_of v Opening) (body v Opening) none_light
bank_at_no_heap v (suc l) = reached_no_heap (context v (Upgrading (suc l))) (start_of v (Upgrading (suc l))) (body v (Upgrading (suc l))) (bank_at_no_heap v l)

-- nor where a section starts
pub bank_before_no_heap : (v : Subject) (section : Section) → NoHeap (bank_before v section)
bank_before_no_heap v Main = none_light
bank_before_no_heap v Opening = none_light
bank_before_no_heap v (Upgrading zero) = none_light
bank_before_no_heap v (Upgrading (suc l)) = bank_at_no_heap v l
bank_before_no_heap v (Calling l) = bank_at_no_heap v l
bank_before_no_heap v (Closing l) = bank_at_no_heap v l
bank_before_no_heap v (Reacting i) = none_light
