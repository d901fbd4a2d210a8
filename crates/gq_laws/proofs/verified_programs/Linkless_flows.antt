-- Statements that do not open a service make no link of it: from slots without one they lead to slots without one.
use Rattle.std.proofs.Common.{◌≡◌, ℕ, zero, suc, ◌+◌, ◌&&◌, nat_lt, Bool, true, false, not, List, [], ◌∷◌, ◌++◌, length, Option, Some, None, Ok}
use Rattle.std.proofs.Common.{Err, refl, ap, sym, ◌∙◌, subst}
use Rattle.std.specs.Prelude.{nat_le, slice_get, slice_set, slice_index_or}
use Rattle.gq_model.specs.machine.Lists.{any_of}
use Rattle.gq_model.specs.machine.Amounts.{Amount, amount, plus}
use Rattle.gq_model.specs.declared.program.Form.TheVariants.{Slice}
use Rattle.gq_model.specs.declared.program.OperandSlot.{OperandSlot}
use Rattle.gq_model.specs.declared.program.OperandSlot.TheVariants.{Own, Shared, Object}
use Rattle.gq_model.specs.declared.program.Width.{Width}
use Rattle.gq_model.specs.declared.program.Instruction.{Instruction}
use Rattle.gq_model.specs.declared.program.Instruction.TheVariants.{Say, Out, Operands, Make, MakePool, Load}
use Rattle.gq_model.specs.declared.program.Instruction.TheVariants.{Store, Free, Take, Give, Peek, Poke, Open, Upgrade, Call, Close}
use Rattle.gq_model.specs.machine.Program.{bytes_of, Statements, Done, Do, If, Loop, text_eq}
use Rattle.gq_model.specs.machine.Scenario.{Interface, interface_in, number_of}
use Rattle.gq_model.specs.declared.fault.Rule.{Rule}
use Rattle.gq_model.specs.rules.Kinds.{Kind, Empty_kind, Memory, Pool_kind, Link_kind, AbstractState, Context, kind_at, with_kind}
use Rattle.gq_model.specs.machine.Sections.{is_own_section}
use Rattle.gq_model.specs.rules.Rules.{Judged, Bounded, must, given, top, pushed, is_empty_kind, is_memory_kind, is_heap_kind, is_shared, is_kept, may_change}
use Rattle.gq_model.specs.rules.Rules.{reach, pool_kind, fill, freed, link_kind, linked, opened, upgraded, called, closed, pooled, reached, with_bounds}
use Rattle.gq_model.specs.rules.Rules.{judge, judged}
use Rattle.gq_model.specs.rules.Flow.{Flowed, at, later, chosen_from, flow, state_or}
use Rattle.gq_model.specs.rules.Use.{opened_by, services_of}
use Rattle.gq_model.proofs.Small_facts.{none_some, some_same}
use Rattle.gq_laws.proofs.statement_rules.Ruled_step_shapes.{given_there, top_there, bounds_there, pushed_there, judged_alone}
use Rattle.gq_laws.proofs.verified_programs.Flow_banks.{shown}
use Rattle.std.proofs.lemmas.Bool.{or_parts, or_from}
use Rattle.gq_model.proofs.Rules_laws.{then_ok, at_ok, later_ok, loop_ok, ok_same, must_holds, if_parts}

pub none_append : {A : Type 0} (test : A → Bool) (xs ys : List A) → any_of test (xs ++ ys) ≡ false → (any_of test xs ≡ false) × (any_of test ys ≡ false)
none_append test [] ys e = (refl, e)
none_append test (x ∷ xs) ys e =
    let n = or_parts (test x) (any_of test (xs ++ ys)) e in
    let m = none_append test xs ys n.1 in (or_from (test x) (any_of test xs) n.0 m.0, m.1)

none_at : {A : Type 0} (test : A → Bool) (items : List A) (i : ℕ) (a : A) → any_of test items ≡ false → slice_get items i ≡ Some a → test a ≡ false
none_at test [] i a e f = absurd (none_some f)
none_at test (b ∷ rest) zero a e f = ap test (sym (some_same f)) ∙ (or_parts (test b) (any_of test rest) e).0
none_at test (b ∷ rest) (suc i) a e f = none_at test rest i a (or_parts (test b) (any_of test rest) e).1 f

none_set : {A : Type 0} (test : A → Bool) (items : List A) (i : ℕ) (a : A) → any_of test items ≡ false → test a ≡ false
    → any_of test (slice_set items i a) ≡ false
none_set test [] i a e f = e
none_set test (b ∷ rest) zero a e f = or_from (test a) (any_of test rest) f (or_parts (test b) (any_of test rest) e).1
none_set test (b ∷ rest) (suc i) a e f =
    let n = or_parts (test b) (any_of test rest) e in or_from (test b) (any_of test (slice_set rest i a)) n.0 (none_set test rest i a n.1 f)

-- a link of a session of this service
abbrev pub is_link_of : List ℕ → Kind → Bool
is_link_of service Empty_kind = false
is_link_of service (Memory form n) = false
is_link_of service (Pool_kind n m) = false
is_link_of service (Link_kind s level given) = text_eq service s

-- both banks have none
abbrev pub Linkless : List ℕ → AbstractState → Type 0
Linkless service s = (any_of (is_link_of service) s.own ≡ false) × (any_of (is_link_of service) s.bank ≡ false)

module _ (service : List ℕ) where
  pub no_link : (c : Context) (s : AbstractState) (place : OperandSlot) (kind : Kind) → Linkless service s → kind_at c s place ≡ Some kind → is_link_of service
      kind ≡ false
  no_link c s (Own i) kind h e = none_at (is_link_of service) s.own i kind h.0 e
  no_link c s (Shared i) kind h e = none_at (is_link_of service) s.bank i kind h.1 (shown (is_own_section c.section) (slice_get s.bank i) kind e)
  no_link c s Object kind h e = ap (is_link_of service)
      (sym (some_same (shown (is_own_section c.section) (Some (Memory Slice (number_of c.subject.provided (λ i. i.object)))) kind e)))

  put : (s : AbstractState) (place : OperandSlot) (kind : Kind) → Linkless service s → is_link_of service kind ≡ false → Linkless service
      (with_kind s place kind)
  put s (Own i) kind h e = (none_set (is_link_of service) s.own i kind h.0 e, h.1)
  put s (Shared i) kind h e = (h.0, none_set (is_link_of service) s.bank i kind h.1 e)
  put s Object kind h e = h

  -- a link there is of another service
  other_link : (o : Option Kind) (l : List ℕ × ℕ × Amount) → ((kind : Kind) → o ≡ Some kind → is_link_of service kind ≡ false) → link_kind o ≡ Some l
      → text_eq service l.0 ≡ false
  other_link None l none e = absurd (none_some e)
  other_link (Some Empty_kind) l none e = absurd (none_some e)
  other_link (Some (Memory form n)) l none e = absurd (none_some e)
  other_link (Some (Pool_kind n m)) l none e = absurd (none_some e)
  other_link (Some (Link_kind s level given)) l none e =
      ap (λ (k : List ℕ × ℕ × Amount). text_eq service k.0) (sym (some_same e)) ∙ none (Link_kind s level given) refl

  module _ (c : Context) where
    -- the state after a judgement has none where the state before it has none
    record Keeps (s : AbstractState) (j : Judged) : Type 0 where
      holds : (t : AbstractState) → j ≡ Ok t → Linkless service s → Linkless service t

    ok_keeps : (s : AbstractState) (bounds : List ℕ) → Keeps s (Ok (record s { bounds = bounds }))
    ok_keeps s bounds = record { holds = λ t e h. subst (Linkless service) (ok_same e) h }

    bounds_keep : (s : AbstractState) (b : Bounded) → Keeps s (with_bounds s b)
    bounds_keep s b = record { holds = λ t e h. subst (Linkless service) (bounds_there s b t e).2 h }

    must_keeps : (s : AbstractState) (b : Bool) (rule : Rule) (next : Judged) → (b ≡ true → Keeps s next) → Keeps s (must b rule next)
    must_keeps s b rule next go = record { holds = λ t e h. (let m = must_holds b rule next t e in (go m.0).holds t m.1 h) }

    given_keeps : {A : Type 0} (s : AbstractState) (o : Option A) (rule : Rule) (go : A → Judged) → ((a : A) → o ≡ Some a → Keeps s (go a)) → Keeps s
        (given o rule go)
    given_keeps s o rule go each = record { holds = λ t e h. (let g = given_there o rule go t e in (each g.0 g.1).holds t g.2 h) }

    top_keeps : (s : AbstractState) (bounds : List ℕ) (go : ℕ → List ℕ → Judged) → ((a : ℕ) (rest : List ℕ) → Keeps s (go a rest)) → Keeps s (top bounds go)
    top_keeps s bounds go each = record { holds = λ t e h. (let p = top_there bounds go t e in (each p.0 p.1).holds t p.3 h) }

    pushed_keeps : (s : AbstractState) (a : ℕ) (bounds : List ℕ) → Keeps s (pushed a (record s { bounds = bounds }))
    pushed_keeps s a bounds = record { holds = λ t e h. subst (Linkless service) (sym (pushed_there a (record s { bounds = bounds }) t e).1) h }

    slot_keeps : (s : AbstractState) (place : OperandSlot) (kind : Kind) → (Linkless service s → is_link_of service kind ≡ false) → Keeps s
        (Ok (with_kind s place kind))
    slot_keeps s place kind none = record { holds = λ t e h. subst (Linkless service) (ok_same e) (put s place kind h (none h)) }

    fill_keeps : (s : AbstractState) (place : OperandSlot) (kind : Kind) → is_link_of service kind ≡ false → Keeps s (fill c s place kind)
    fill_keeps s place kind none =
        given_keeps s (kind_at c s place) _ _ (λ old there.
        must_keeps s (is_empty_kind old) _ _ (λ ok. must_keeps s (may_change c place) _ _
        (λ ok. must_keeps s (not (is_heap_kind kind && is_shared place)) _ _ (λ ok. slot_keeps s place kind (λ h. none)))))

    freed_keeps : (s : AbstractState) (place : OperandSlot) → Keeps s (freed c s place)
    freed_keeps s place =
        given_keeps s (kind_at c s place) _ _ (λ old there.
        must_keeps s (is_memory_kind old) _ _ (λ ok. must_keeps s (not (is_kept c place)) _ _
        (λ ok. must_keeps s (may_change c place) _ _ (λ ok. slot_keeps s place Empty_kind (λ h. refl)))))

    pooled_keeps : (s : AbstractState) (place : OperandSlot) (i : ℕ) (go : ℕ → Judged) → ((n : ℕ) → Keeps s (go n)) → Keeps s (pooled c s place i go)
    pooled_keeps s place i go each = given_keeps s (pool_kind (kind_at c s place)) _ _ (λ p there. must_keeps s (nat_lt i p.1) _ _ (λ ok. each p.0))

    reached_keeps : (s : AbstractState) (place : OperandSlot) (i : ℕ) (width : Width) (next : Judged) → Keeps s next → Keeps s (reached c s place i width next)
    reached_keeps s place i width next h = given_keeps s (reach c (kind_at c s place)) _ _
        (λ n there. must_keeps s (nat_le (i + bytes_of width) n) _ _ (λ ok. h))

    linked_keeps : (s : AbstractState) (place : OperandSlot) (go : List ℕ → ℕ → Amount → Interface → Judged)
        → ((of : List ℕ) (level : ℕ) (given : Amount) (i : Interface) → link_kind (kind_at c s place) ≡ Some (of, level, given) → Keeps s (go of level given i))
        → Keeps s (linked c s place go)
    linked_keeps s place go each =
        given_keeps s (link_kind (kind_at c s place)) _ _ (λ l there.
        given_keeps s (interface_in l.0 c.subject.interfaces) _ _ (λ i known. each l.0 l.1 l.2 i there))

    opened_keeps : (s : AbstractState) (place : OperandSlot) (of : List ℕ) (n : ℕ) → text_eq service of ≡ false → Keeps s (opened c s place of n)
    opened_keeps s place of n other =
        given_keeps s (kind_at c s place) _ _ (λ old there.
        must_keeps s (is_empty_kind old) _ _ (λ ok. must_keeps s (may_change c place) _ _
        (λ ok. given_keeps s (interface_in of c.subject.interfaces) _ _ (λ i known. must_keeps s (nat_le i.need.ram n) _ _
        (λ ok. slot_keeps s place (Link_kind of 0 (amount n i.need.caps)) (λ h. other))))))

    upgraded_keeps : (s : AbstractState) (place : OperandSlot) (n : ℕ) → Keeps s (upgraded c s place n)
    upgraded_keeps s place n =
        linked_keeps s place _ (λ of level given i there. must_keeps s (nat_lt level (length i.upgrades)) _ _ (λ ok. must_keeps s (may_change c place) _ _
        (λ ok. let next = slice_index_or i.upgrades level (amount 0 0) in
        must_keeps s (nat_le next.ram n) _ _ (λ ok. slot_keeps s place (Link_kind of (suc level) (plus given (amount n next.caps)))
        (λ h. other_link (kind_at c s place) (of, level, given) (λ kind e. no_link c s place kind h e) there)))))

    called_keeps : (s : AbstractState) (a : ℕ) (bounds : List ℕ) (place : OperandSlot) → Keeps s (called c (record s { bounds = bounds }) a place)
    called_keeps s a bounds place = linked_keeps s place _ (λ of level given i there. must_keeps s (nat_le a i.arg) _ _ (λ ok. pushed_keeps s i.reply bounds))

    closed_keeps : (s : AbstractState) (place : OperandSlot) → Keeps s (closed c s place)
    closed_keeps s place = linked_keeps s place _ (λ of level given i there.
        must_keeps s (may_change c place) _ _ (λ ok. slot_keeps s place Empty_kind (λ h. refl)))

    judge_keeps : (s : AbstractState) (i : Instruction) → any_of (text_eq service) (opened_by i) ≡ false → Keeps s (judge c s i)
    judge_keeps s (Say text) none = ok_keeps s s.bounds
    judge_keeps s Out none = top_keeps s s.bounds _ (λ a rest. ok_keeps s rest)
    judge_keeps s (Operands o) none = bounds_keep s _
    judge_keeps s (Make form place n) none = fill_keeps s place (Memory form n) refl
    judge_keeps s (MakePool place n m) none = fill_keeps s place (Pool_kind n m) refl
    judge_keeps s (Load width place) none = top_keeps s s.bounds _ (λ i rest. reached_keeps s place i width _ (pushed_keeps s _ rest))
    judge_keeps s (Store width place) none =
        top_keeps s s.bounds _ (λ v rest. top_keeps s rest _ (λ i below. reached_keeps s place i width _ (ok_keeps s below)))
    judge_keeps s (Free place) none = freed_keeps s place
    judge_keeps s (Take place) none = top_keeps s s.bounds _ (λ i rest. pooled_keeps s place i _ (λ n. pushed_keeps s 1 rest))
    judge_keeps s (Give place) none = top_keeps s s.bounds _ (λ i rest. pooled_keeps s place i _ (λ n. pushed_keeps s 1 rest))
    judge_keeps s (Peek place) none =
        top_keeps s s.bounds _ (λ k rest. top_keeps s rest _ (λ i below. pooled_keeps s place i _ (λ n. must_keeps s _ _ _ (λ ok. pushed_keeps s 255 below))))
    judge_keeps s (Poke place) none =
        top_keeps s s.bounds _ (λ b rest. top_keeps s rest _
        (λ k below. top_keeps s below _ (λ i last. pooled_keeps s place i _ (λ n. must_keeps s _ _ _ (λ ok. ok_keeps s last)))))
    judge_keeps s (Open place of n) none = opened_keeps s place of n (or_parts (text_eq service of) false none).0
    judge_keeps s (Upgrade place n) none = upgraded_keeps s place n
    judge_keeps s (Call place) none = top_keeps s s.bounds _ (λ a rest. called_keeps s a rest place)
    judge_keeps s (Close place) none = closed_keeps s place

    pub judged_linkless : (s t : AbstractState) (i : Instruction) → any_of (text_eq service) (opened_by i) ≡ false → judged c s i ≡ Ok t → Linkless service s
        → Linkless service t
    judged_linkless s t i none e h = (judge_keeps s i none).holds t (judged_alone c s i t e) h

    chosen_keeps : (s : AbstractState) → Keeps s (chosen_from s)
    chosen_keeps s = top_keeps s s.bounds _ (λ a rest. must_keeps s _ _ _ (λ ok. ok_keeps s rest))

    -- so does a list of statements: a loop's body ends as it starts, and both arms of an `if` end alike
    pub flow_linkless : (s t : AbstractState) (todo : Statements) → any_of (text_eq service) (services_of todo) ≡ false → flow c s todo ≡ Ok t → Linkless
        service s
        → Linkless service t
    flow_linkless s t Done none e h = subst (Linkless service) (ap (state_or s) e) h
    flow_linkless s t (Do i rest) none e h =
        let n = none_append (text_eq service) (opened_by i) (services_of rest) none in
        let p = then_ok (at 1 (judged c s i)) (λ v. later 1 (flow c v rest)) t e in
        let first = judged_linkless s p.0 i n.0 (at_ok 1 (judged c s i) p.0 p.1) h in
        flow_linkless p.0 t rest n.1 (later_ok 1 (flow c p.0 rest) t p.2) first
    flow_linkless s t (If arm other rest) none e h =
        let both = none_append (text_eq service) (services_of arm ++ services_of other) (services_of rest) none in
        let arms = none_append (text_eq service) (services_of arm) (services_of other) both.0 in
        let p = if_parts c s arm other rest t e in
        flow_linkless p.1 t rest both.1 p.5 (flow_linkless p.0 p.1 arm arms.0 p.3 ((chosen_keeps s).holds p.0 p.2 h))
    flow_linkless s t (Loop count body rest) none e h =
        flow_linkless s t rest (none_append (text_eq service) (services_of body) (services_of rest) none).1 (loop_ok c s count body rest t e).2 h

    -- also where a list does not pass, and its start stands for its end
    pub end_linkless : (s : AbstractState) (todo : Statements) → any_of (text_eq service) (services_of todo) ≡ false → Linkless service s
        → Linkless service (state_or s (flow c s todo))
    end_linkless s todo none h = by (flow c s todo) refl
      where
        by : (r : Flowed) → flow c s todo ≡ r → Linkless service (state_or s r)
        by (Ok t) e = flow_linkless s t todo none e h
        by (Err fault) e = h

    pub next_linkless : (s : AbstractState) (i : Instruction) → any_of (text_eq service) (opened_by i) ≡ false → Linkless service s
        → Linkless service (state_or s (at 1 (judged c s i)))
    next_linkless s i none h = by (judged c s i) refl
      where
        by : (r : Judged) → judged c s i ≡ r → Linkless service (state_or s (at 1 r))
        by (Ok t) e = judged_linkless s t i none e h
        by (Err rule) e = h
