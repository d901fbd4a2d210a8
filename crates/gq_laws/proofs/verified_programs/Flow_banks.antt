-- What the rules let a list of statements change of the two banks: outside `main` no own slot, and not the first slot of a session with a buffer.
use Rattle.std.proofs.Common.{◌≡◌, ◌≢◌, ℕ, zero, suc, ◌+◌, ◌&&◌, nat_lt, Bool, true, false, cond, List, length, Option, Some, None, Ok, refl, ap, sym, ◌∙◌}
use Rattle.std.proofs.Common.{subst}
use Rattle.std.specs.Prelude.{nat_le, slice_get, slice_index_or}
use Rattle.gq_model.specs.machine.Amounts.{Amount, amount, plus}
use Rattle.gq_model.specs.declared.program.Form.TheVariants.{Space}
use Rattle.gq_model.specs.declared.program.OperandSlot.{OperandSlot}
use Rattle.gq_model.specs.declared.program.OperandSlot.TheVariants.{Own, Shared, Object}
use Rattle.gq_model.specs.declared.program.Width.{Width}
use Rattle.gq_model.specs.declared.program.Instruction.{Instruction}
use Rattle.gq_model.specs.declared.program.Instruction.TheVariants.{Say, Out, Operands, Make, MakePool, Load}
use Rattle.gq_model.specs.declared.program.Instruction.TheVariants.{Store, Free, Take, Give, Peek, Poke, Open, Upgrade, Call, Close}
use Rattle.gq_model.specs.machine.Program.{bytes_of, Statements, Done, Do, If, Loop}
use Rattle.gq_model.specs.machine.Scenario.{Interface, interface_in, number_of}
use Rattle.gq_model.specs.declared.fault.Rule.{Rule}
use Rattle.gq_model.specs.rules.Kinds.{Kind, Empty_kind, Memory, Pool_kind, Link_kind, AbstractState, Context, kind_at, with_kind}
use Rattle.gq_model.specs.machine.Sections.{is_start_section, is_own_section}
use Rattle.gq_model.specs.rules.Rules.{Judged, Bounded, must, given, top, pushed, is_empty_kind, is_memory_kind, is_later, is_kept, may_change, reach}
use Rattle.gq_model.specs.rules.Rules.{pool_kind, fill, freed, link_kind, linked, opened, upgraded, called, closed, pooled, reached, with_bounds, judge}
use Rattle.gq_model.specs.rules.Rules.{judged}
use Rattle.gq_model.specs.rules.Flow.{at, later, chosen_from, flow, state_or}
use Rattle.gq_model.proofs.Small_facts.{none_some, some_same}
use Rattle.gq_laws.proofs.session_links.Written_world_links.{set_else}
use Rattle.gq_laws.proofs.statement_rules.Ruled_step_shapes.{given_there, top_there, bounds_there, pushed_there, judged_alone}
use Rattle.std.proofs.lemmas.Bool.{true≢false, false≢true, not-true}
use Rattle.gq_model.proofs.Rules_laws.{then_ok, at_ok, later_ok, loop_ok, ok_same, must_holds, if_parts}

-- an Empty slot is no memory, and neither is a link
empty_unkept : (kind : Kind) (kept : Bool) → is_empty_kind kind ≡ true → (is_memory_kind kind && kept) ≡ false
empty_unkept Empty_kind kept e = refl
empty_unkept (Memory form n) kept e = absurd (false≢true e)
empty_unkept (Pool_kind n m) kept e = absurd (false≢true e)
empty_unkept (Link_kind service level given) kept e = absurd (false≢true e)

link_unkept : (kind : Kind) (kept : Bool) (l : List ℕ × ℕ × Amount) → link_kind (Some kind) ≡ Some l → (is_memory_kind kind && kept) ≡ false
link_unkept Empty_kind kept l e = refl
link_unkept (Memory form n) kept l e = absurd (none_some e)
link_unkept (Pool_kind n m) kept l e = absurd (none_some e)
link_unkept (Link_kind service level given) kept l e = refl

free_unkept : (memory kept : Bool) → kept ≡ false → (memory && kept) ≡ false
free_unkept true kept e = e
free_unkept false kept e = refl

link_there : (o : Option Kind) (l : List ℕ × ℕ × Amount) → link_kind o ≡ Some l → (old : Kind) × (o ≡ Some old)
link_there None l e = absurd (none_some e)
link_there (Some old) l e = (old, refl)

-- WHAT EACH STATEMENT KEEPS

-- what holds of both banks, and stays where a slot changes that may change
module _ (c : Context) (P : List Kind → List Kind → Type 0) (change : (s : AbstractState) (place : OperandSlot) (old kind : Kind) → kind_at c s place ≡ Some old
    → may_change c place ≡ true → (is_memory_kind old && is_kept c place) ≡ false → P s.own s.bank
    → P (with_kind s place kind).own (with_kind s place kind).bank) where
  record Keeps (s : AbstractState) (j : Judged) : Type 0 where
    holds : (t : AbstractState) → j ≡ Ok t → P s.own s.bank → P t.own t.bank

  ok_keeps : (s : AbstractState) (bounds : List ℕ) → Keeps s (Ok (record s { bounds = bounds }))
  ok_keeps s bounds = record { holds = λ t e h. subst (λ (u : AbstractState). P u.own u.bank) (ok_same e) h }

  bounds_keep : (s : AbstractState) (b : Bounded) → Keeps s (with_bounds s b)
  bounds_keep s b = record { holds = λ t e h. subst (λ (u : AbstractState). P u.own u.bank) (bounds_there s b t e).2 h }

  must_keeps : (s : AbstractState) (b : Bool) (rule : Rule) (next : Judged) → (b ≡ true → Keeps s next) → Keeps s (must b rule next)
  must_keeps s b rule next go = record { holds = λ t e h. (let m = must_holds b rule next t e in (go m.0).holds t m.1 h) }

  given_keeps : {A : Type 0} (s : AbstractState) (o : Option A) (rule : Rule) (go : A → Judged) → ((a : A) → o ≡ Some a → Keeps s (go a)) → Keeps s
      (given o rule go)
  given_keeps s o rule go each = record { holds = λ t e h. (let g = given_there o rule go t e in (each g.0 g.1).holds t g.2 h) }

  top_keeps : (s : AbstractState) (bounds : List ℕ) (go : ℕ → List ℕ → Judged) → ((a : ℕ) (rest : List ℕ) → Keeps s (go a rest)) → Keeps s (top bounds go)
  top_keeps s bounds go each = record { holds = λ t e h. (let p = top_there bounds go t e in (each p.0 p.1).holds t p.3 h) }

  pushed_keeps : (s : AbstractState) (a : ℕ) (bounds : List ℕ) → Keeps s (pushed a (record s { bounds = bounds }))
  pushed_keeps s a bounds = record {
    holds = λ t e h. subst (λ (u : AbstractState). P u.own u.bank) (sym (pushed_there a (record s { bounds = bounds }) t e).1)
        h;
  }

  slot_keeps : (s : AbstractState) (place : OperandSlot) (old kind : Kind) → kind_at c s place ≡ Some old → may_change c place ≡ true
      → (is_memory_kind old && is_kept c place) ≡ false → Keeps s (Ok (with_kind s place kind))
  slot_keeps s place old kind there may unkept = record {
    holds =
        λ t e h. subst (λ (u : AbstractState). P u.own u.bank) (ok_same e) (change s place old kind there may unkept h);
  }

  fill_keeps : (s : AbstractState) (place : OperandSlot) (kind : Kind) → Keeps s (fill c s place kind)
  fill_keeps s place kind =
      given_keeps s (kind_at c s place) _ _ (λ old there. must_keeps s _ _ _ (λ empty. must_keeps s _ _ _ (λ may. must_keeps s _ _ _ (λ light.
      slot_keeps s place old kind there may (empty_unkept old (is_kept c place) empty)))))

  freed_keeps : (s : AbstractState) (place : OperandSlot) → Keeps s (freed c s place)
  freed_keeps s place =
      given_keeps s (kind_at c s place) _ _ (λ old there.
      must_keeps s (is_memory_kind old) _ _ (λ memory. must_keeps s _ _ _ (λ unkept. must_keeps s _ _ _ (λ may.
      slot_keeps s place old Empty_kind there may (free_unkept (is_memory_kind old) (is_kept c place) (not-true (is_kept c place) unkept))))))

  pooled_keeps : (s : AbstractState) (place : OperandSlot) (i : ℕ) (go : ℕ → Judged) → ((n : ℕ) → Keeps s (go n)) → Keeps s (pooled c s place i go)
  pooled_keeps s place i go each = given_keeps s (pool_kind (kind_at c s place)) _ _ (λ p there. must_keeps s (nat_lt i p.1) _ _ (λ within. each p.0))

  reached_keeps : (s : AbstractState) (place : OperandSlot) (i : ℕ) (width : Width) (next : Judged) → Keeps s next → Keeps s (reached c s place i width next)
  reached_keeps s place i width next h = given_keeps s (reach c (kind_at c s place)) _ _
      (λ n there. must_keeps s (nat_le (i + bytes_of width) n) _ _ (λ within. h))

  linked_keeps : (s : AbstractState) (place : OperandSlot) (go : List ℕ → ℕ → Amount → Interface → Judged)
      → ((service : List ℕ) (level : ℕ) (given : Amount) (i : Interface) → link_kind (kind_at c s place) ≡ Some (service, level, given)
      → Keeps s (go service level given i)) → Keeps s (linked c s place go)
  linked_keeps s place go each = given_keeps s (link_kind (kind_at c s place)) _ _
      (λ l there. given_keeps s (interface_in l.0 c.subject.interfaces) _ _ (λ i known. each l.0 l.1 l.2 i there))

  opened_keeps : (s : AbstractState) (place : OperandSlot) (service : List ℕ) (n : ℕ) → Keeps s (opened c s place service n)
  opened_keeps s place service n =
      given_keeps s (kind_at c s place) _ _ (λ old there.
      must_keeps s _ _ _ (λ empty. must_keeps s _ _ _ (λ may.
      given_keeps s (interface_in service c.subject.interfaces) _ _ (λ i known. must_keeps s (nat_le i.need.ram n) _ _ (λ enough.
      slot_keeps s place old (Link_kind service 0 (amount n i.need.caps)) there may (empty_unkept old (is_kept c place) empty))))))

  -- a link's slot changes
  link_keeps : (s : AbstractState) (place : OperandSlot) (l : List ℕ × ℕ × Amount) (kind : Kind) → link_kind (kind_at c s place) ≡ Some l → may_change c
      place ≡ true
      → Keeps s (Ok (with_kind s place kind))
  link_keeps s place l kind e may =
      let o = link_there (kind_at c s place) l e in
      slot_keeps s place o.0 kind o.1 may (link_unkept o.0 (is_kept c place) l (ap link_kind (sym o.1) ∙ e))

  upgraded_keeps : (s : AbstractState) (place : OperandSlot) (n : ℕ) → Keeps s (upgraded c s place n)
  upgraded_keeps s place n =
      linked_keeps s place _ (λ service level given i there.
      must_keeps s (nat_lt level (length i.upgrades)) _ _ (λ within. must_keeps s (may_change c place) _ _ (λ may.
      let next = slice_index_or i.upgrades level (amount 0 0) in
      must_keeps s (nat_le next.ram n) _ _ (λ enough. link_keeps s place (service, level, given)
      (Link_kind service (suc level) (plus given (amount n next.caps))) there may))))

  called_keeps : (s : AbstractState) (a : ℕ) (bounds : List ℕ) (place : OperandSlot) → Keeps s (called c (record s { bounds = bounds }) a place)
  called_keeps s a bounds place = linked_keeps s place _
      (λ service level given i there. must_keeps s (nat_le a i.arg) _ _ (λ within. pushed_keeps s i.reply bounds))

  closed_keeps : (s : AbstractState) (place : OperandSlot) → Keeps s (closed c s place)
  closed_keeps s place = linked_keeps s place _ (λ service level given i there.
      must_keeps s _ _ _ (λ may. link_keeps s place (service, level, given) Empty_kind there may))

  judge_keeps : (s : AbstractState) (i : Instruction) → Keeps s (judge c s i)
  judge_keeps s (Say text) = ok_keeps s s.bounds
  judge_keeps s Out = top_keeps s s.bounds _ (λ a rest. ok_keeps s rest)
  judge_keeps s (Operands o) = bounds_keep s _
  judge_keeps s (Make form place n) = fill_keeps s place (Memory form n)
  judge_keeps s (MakePool place n m) = fill_keeps s place (Pool_kind n m)
  judge_keeps s (Load width place) = top_keeps s s.bounds _ (λ i rest. reached_keeps s place i width _ (pushed_keeps s _ rest))
  judge_keeps s (Store width place) =
      top_keeps s s.bounds _ (λ v rest. top_keeps s rest _ (λ i below. reached_keeps s place i width _ (ok_keeps s below)))
  judge_keeps s (Free place) = freed_keeps s place
  judge_keeps s (Take place) = top_keeps s s.bounds _ (λ i rest. pooled_keeps s place i _ (λ n. pushed_keeps s 1 rest))
  judge_keeps s (Give place) = top_keeps s s.bounds _ (λ i rest. pooled_keeps s place i _ (λ n. pushed_keeps s 1 rest))
  judge_keeps s (Peek place) =
      top_keeps s s.bounds _ (λ k rest. top_keeps s rest _ (λ i below. pooled_keeps s place i _ (λ n. must_keeps s _ _ _ (λ within. pushed_keeps s 255 below))))
  judge_keeps s (Poke place) =
      top_keeps s s.bounds _ (λ b rest. top_keeps s rest _ (λ k below. top_keeps s below _ (λ i last.
      pooled_keeps s place i _ (λ n. must_keeps s _ _ _ (λ within. ok_keeps s last)))))
  judge_keeps s (Open place service n) = opened_keeps s place service n
  judge_keeps s (Upgrade place n) = upgraded_keeps s place n
  judge_keeps s (Call place) = top_keeps s s.bounds _ (λ a rest. called_keeps s a rest place)
  judge_keeps s (Close place) = closed_keeps s place

  chosen_keeps : (s : AbstractState) → Keeps s (chosen_from s)
  chosen_keeps s = top_keeps s s.bounds _ (λ a rest. must_keeps s _ _ _ (λ none. ok_keeps s rest))

  -- so does a list of statements: a loop's body ends as it starts, and both arms of an `if` end alike
  pub flow_keeps : (s t : AbstractState) (todo : Statements) → flow c s todo ≡ Ok t → P s.own s.bank → P t.own t.bank
  flow_keeps s t Done e h = subst (λ (u : AbstractState). P u.own u.bank) (ap (state_or s) e) h
  flow_keeps s t (Do i rest) e h =
      let p = then_ok (at 1 (judged c s i)) (λ v. later 1 (flow c v rest)) t e in
      let first = (judge_keeps s i).holds p.0 (judged_alone c s i p.0 (at_ok 1 (judged c s i) p.0 p.1)) h in
      flow_keeps p.0 t rest (later_ok 1 (flow c p.0 rest) t p.2) first
  flow_keeps s t (If arm other rest) e h =
      let p = if_parts c s arm other rest t e in
      flow_keeps p.1 t rest p.5 (flow_keeps p.0 p.1 arm p.3 ((chosen_keeps s).holds p.0 p.2 h))
  flow_keeps s t (Loop count body rest) e h = flow_keeps s t rest (loop_ok c s count body rest t e).2 h

-- OWN SLOTS

own_set : (c : Context) (s : AbstractState) (place : OperandSlot) (kind : Kind) → is_start_section c.section ≡ false → may_change c place ≡ true →
    (with_kind s place kind).own ≡ s.own
own_set c s (Own i) kind outside may = absurd (true≢false (sym may ∙ outside))
own_set c s (Shared i) kind outside may = refl
own_set c s Object kind outside may = refl

pub own_stays : (c : Context) (s t : AbstractState) (todo : Statements) → is_start_section c.section ≡ false → flow c s todo ≡ Ok t → t.own ≡ s.own
own_stays c s t todo outside e = flow_keeps c (λ own bank. own ≡ s.own) (λ u place old kind there may unkept h. own_set c u place kind outside may
    ∙ h) s t todo e refl

-- THE BUFFER

pub shown : (hidden : Bool) (o : Option Kind) (kind : Kind) → cond hidden None o ≡ Some kind → o ≡ Some kind
shown true o kind e = absurd (none_some e)
shown false o kind e = e

buffer_set : (c : Context) (n : ℕ) (s : AbstractState) (place : OperandSlot) (old kind : Kind) → is_later c.section ≡ true
    → nat_lt 0 (number_of c.subject.provided (λ i. i.buffer)) ≡ true → kind_at c s place ≡ Some old → (is_memory_kind old && is_kept c place) ≡ false
    → slice_get s.bank 0 ≡ Some (Memory Space n) → slice_get (with_kind s place kind).bank 0 ≡ Some (Memory Space n)
buffer_set c n s (Own i) old kind later buffer there unkept h = h
buffer_set c n s Object old kind later buffer there unkept h = h
buffer_set c n s (Shared (suc i)) old kind later buffer there unkept h = set_else s.bank (suc i) 0 kind differ ∙ h
  where
    differ : zero ≢ suc i
    differ e = cc
buffer_set c n s (Shared zero) old kind later buffer there unkept h =
    let same : old ≡ Memory Space n = some_same (sym (shown (is_own_section c.section) (slice_get s.bank 0) old there) ∙ h) in
    let kept : (is_memory_kind old && is_kept c (Shared zero)) ≡ true = (λ i. is_memory_kind (same i) && (later i && buffer i)) in
    absurd (true≢false (sym kept ∙ unkept))

-- in a session that stays open a buffer stays where it is
pub buffer_stays : (c : Context) (s t : AbstractState) (n : ℕ) (todo : Statements) → is_later c.section ≡ true
    → nat_lt 0 (number_of c.subject.provided (λ i. i.buffer)) ≡ true → slice_get s.bank 0 ≡ Some (Memory Space n) → flow c s todo ≡ Ok t
    → slice_get t.bank 0 ≡ Some (Memory Space n)
buffer_stays c s t n todo later buffer there e =
    flow_keeps c (λ own bank. slice_get bank 0 ≡ Some (Memory Space n))
    (λ u place old kind at may unkept h. buffer_set c n u place old kind later buffer at unkept h) s t todo e there
