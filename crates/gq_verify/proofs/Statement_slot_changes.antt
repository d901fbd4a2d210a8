-- What a statement makes of the slots, whatever operands there are.
use Rattle.std.proofs.Common.{◌≡◌, ◌<◌, ◌≤◌, ◌+◌, ◌*◌, max, ℕ, Bool, true, false, ◌&&◌, List, [], ◌∷◌, drop}
use Rattle.std.proofs.Common.{length, get_or, Option, Some, None, Result, Ok, Err, suc, subst, refl, ap, sym, ◌∙◌, arith}
use Rattle.std.specs.Prelude.{nat_le, nat_lt, not, slice_index_or}
use Rattle.gq_model.specs.declared.fault.Rule.{Rule}
use Rattle.gq_model.specs.declared.fault.Rule.TheVariants.{WrongKind, SlotInUse, OutOfRange, SessionBankChanged, OwnBankChanged, HeapInSession, ShortDonation}
use Rattle.gq_model.specs.declared.fault.Rule.TheVariants.{UnknownService}
use Rattle.gq_model.specs.declared.program.Instruction.{Instruction}
use Rattle.gq_model.specs.declared.program.Instruction.TheVariants.{Say, Out, Operands, Make, MakePool, Load}
use Rattle.gq_model.specs.declared.program.Instruction.TheVariants.{Store, Free, Take, Give, Peek, Poke, Open, Upgrade, Call, Close}
use Rattle.gq_model.specs.declared.program.OperandSlot.{OperandSlot}
use Rattle.gq_model.specs.declared.program.OperandSlot.TheVariants.{Own, Shared, Object}
use Rattle.gq_model.specs.declared.section.Section.{Section}
use Rattle.gq_model.specs.declared.section.Section.TheVariants.{Main, Opening, Upgrading, Calling, Closing, Reacting}
use Rattle.gq_model.specs.machine.Amounts.{Resource, amount, part, plus}
use Rattle.gq_model.specs.machine.Program.{Statements, Do, Done}
use Rattle.gq_model.specs.machine.Scenario.{Interface, interface_in}
use Rattle.gq_model.specs.rules.Budgets.{asks, requests}
use Rattle.gq_model.specs.rules.Kinds.{Kind, Empty_kind, Memory, Pool_kind, Link_kind, AbstractState, Context, kind_at, with_kind, need_of}
use Rattle.gq_model.specs.machine.Sections.{level_of}
use Rattle.gq_model.specs.rules.Kinds.{session_cost}
use Rattle.gq_model.specs.rules.Rules.{Judged, must, given, fill, freed, opened, upgraded, closed, judge, judged, and_then, covered, over, within_need}
use Rattle.gq_model.specs.rules.Rules.{is_empty_kind, is_memory_kind, is_heap_kind, is_shared, is_kept, may_change, link_kind}
use Rattle.gq_model.specs.rules.Flow.{Flowed, at, later, flow, state_or}
use Rattle.gq_model.proofs.Rules_laws.{at_ok}
use Rattle.gq_program.specs.Notes.{keeps_slots, is_still}
use Rattle.gq_program.specs.declared.program_tree.Statement.TheVariants as statement
use Rattle.gq_rules.specs.internal.List_states.{chosen, next_state}
use Rattle.gq_rules.proofs.Statement_list_states.{then_ok, next_is}
use Rattle.gq_rules.proofs.Slot_keeping_statements.{Same, flow_still}
use Rattle.gq_rules.specs.declared.broken.Broken.{Broken}
use Rattle.gq_rules.specs.Flowing.{flowed}
use Rattle.gq_rules.specs.Judging.{after}
use Rattle.gq_program.specs.Statement_trees.{tree_of}
use Rattle.gq_program.specs.declared.program_tree.Statement.{Statement}
use Rattle.gq_verify.specs.Saturated_numbers.{saturated}
use Rattle.gq_verify.specs.Requested.{Requested, requests_for}
use Rattle.gq_verify.specs.internal.Request_sums.{Adds}
use Rattle.gq_verify.specs.internal.Requesting.{requests_in}
use Rattle.gq_verify.proofs.Counts_rights.{right_here, state_on, counted_on}
use Rattle.std.proofs.Math.ListN.{drop_of_length-le}
use Rattle.gq_verify.specs.Rights.{IsRight}
use Rattle.gq_verify.specs.internal.Slot_equal_states.{AreAlike, FromAlike}

-- what is judged, with these operands
abbrev with_bounds : List ℕ → Judged → Judged
with_bounds b (Ok s) = Ok (record s { bounds = b })
with_bounds b (Err rule) = Err rule

alike_is : (s t : AbstractState) → AreAlike s t → t ≡ (record s { bounds = t.bounds })
alike_is s t e = ap (λ (u : AbstractState). let w : AbstractState = record u { bounds = t.bounds } in w) (sym e)

-- what is judged of a state with these operands is the same, with these operands
record Carries (b : List ℕ) (j k : Judged) : Type 0 where
  pub is : k ≡ with_bounds b j

ok_with : (b : List ℕ) (s t : AbstractState) → t ≡ (record s { bounds = b }) → Carries b (Ok s) (Ok t)
ok_with b s t e = record { is = ap (λ (u : AbstractState). let j : Judged = Ok u in j) e }

must_with : (b : List ℕ) (test : Bool) (rule : Rule) (j k : Judged) → Carries b j k → Carries b (must test rule j) (must test rule k)
must_with b true rule j k e = record { is = e.is }
must_with b false rule j k e = record { is = refl }

given_with : {A : Type 0} (b : List ℕ) (o : Option A) (rule : Rule) (go went : A → Judged) → ((a : A) → Carries b (go a) (went a)) →
    Carries b (given o rule go) (given o rule went)
given_with b None rule go went e = record { is = refl }
given_with b (Some a) rule go went e = record { is = (e a).is }

set_with : (b : List ℕ) (s : AbstractState) (place : OperandSlot) (k : Kind) → Carries b (Ok (with_kind s place k))
    (Ok (with_kind (record s { bounds = b }) place k))
set_with b s (Own i) k = record { is = refl }
set_with b s (Shared i) k = record { is = refl }
set_with b s Object k = record { is = refl }

kind_with : (c : Context) (b : List ℕ) (s : AbstractState) (place : OperandSlot) → kind_at c s place ≡ kind_at c (record s { bounds = b }) place
kind_with c b s (Own i) = refl
kind_with c b s (Shared i) = refl
kind_with c b s Object = refl

-- goes on with the kind of a slot, which depends on no operand
kind_given : (c : Context) (b : List ℕ) (s : AbstractState) (place : OperandSlot) {A : Type 0} (of : Option Kind → Option A) (rule : Rule)
    (go went : A → Judged) →
    ((a : A) → Carries b (go a) (went a)) →
    Carries b (given (of (kind_at c s place)) rule go) (given (of (kind_at c (record s { bounds = b }) place)) rule went)
kind_given c b s place of rule go went e =
    subst (λ (o : Option Kind). Carries b (given (of (kind_at c s place)) rule go) (given (of o) rule went)) (kind_with c b s place)
    (given_with b (of (kind_at c s place)) rule go went e)

fill_with : (c : Context) (b : List ℕ) (s : AbstractState) (place : OperandSlot) (k : Kind) → Carries b (fill c s place k)
    (fill c (record s { bounds = b }) place k)
fill_with c b s place k =
    kind_given c b s place (λ o. o) WrongKind _ _ (λ old.
    must_with b (is_empty_kind old) SlotInUse _ _ (must_with b (may_change c place) OwnBankChanged _ _
    (must_with b (not (is_heap_kind k && is_shared place)) HeapInSession _ _ (set_with b s place k))))

freed_with : (c : Context) (b : List ℕ) (s : AbstractState) (place : OperandSlot) → Carries b (freed c s place) (freed c (record s { bounds = b }) place)
freed_with c b s place =
    kind_given c b s place (λ o. o) WrongKind _ _ (λ k.
    must_with b (is_memory_kind k) WrongKind _ _ (must_with b (not (is_kept c place)) SessionBankChanged _ _
    (must_with b (may_change c place) OwnBankChanged _ _ (set_with b s place Empty_kind))))

opened_with : (c : Context) (b : List ℕ) (s : AbstractState) (place : OperandSlot) (service : List ℕ) (n : ℕ) →
    Carries b (opened c s place service n) (opened c (record s { bounds = b }) place service n)
opened_with c b s place service n =
    kind_given c b s place (λ o. o) WrongKind _ _ (λ old.
    must_with b (is_empty_kind old) SlotInUse _ _ (must_with b (may_change c place) OwnBankChanged _ _
    (given_with b (interface_in service c.subject.interfaces) UnknownService _ _ (λ i.
    must_with b (nat_le i.need.ram n) ShortDonation _ _ (set_with b s place (Link_kind service 0 (amount n i.need.caps)))))))

upgraded_with : (c : Context) (b : List ℕ) (s : AbstractState) (place : OperandSlot) (n : ℕ) →
    Carries b (upgraded c s place n) (upgraded c (record s { bounds = b }) place n)
upgraded_with c b s place n =
    kind_given c b s place link_kind WrongKind _ _ (λ l.
    given_with b (interface_in l.0 c.subject.interfaces) UnknownService _ _ (λ i.
    must_with b (nat_lt l.1 (length i.upgrades)) OutOfRange _ _ (must_with b (may_change c place) OwnBankChanged _ _
    (let next = slice_index_or i.upgrades l.1 (amount 0 0) in
    must_with b (nat_le next.ram n) ShortDonation _ _ (set_with b s place (Link_kind l.0 (suc l.1) (plus l.2 (amount n next.caps))))))))

closed_with : (c : Context) (b : List ℕ) (s : AbstractState) (place : OperandSlot) → Carries b (closed c s place) (closed c (record s { bounds = b }) place)
closed_with c b s place =
    kind_given c b s place link_kind WrongKind _ _ (λ l.
    given_with b (interface_in l.0 c.subject.interfaces) UnknownService _ _ (λ i.
    must_with b (may_change c place) OwnBankChanged _ _ (set_with b s place Empty_kind)))

covered_with : (b : List ℕ) (resources : List Resource) (i : Interface) (level : ℕ) (s : AbstractState) →
    Carries b (covered resources i level s) (covered resources i level (record s { bounds = b }))
covered_with b [] i level s = record { is = refl }
covered_with b (r ∷ resources) i level s =
    must_with b (nat_le (session_cost r i s.bank) (part r (need_of i level))) (over r) _ _ (covered_with b resources i level s)

within_with : (b : List ℕ) (section : Section) (provided : Option Interface) (s : AbstractState) →
    Carries b (within_need section provided s) (within_need section provided (record s { bounds = b }))
within_with b Main provided s = record { is = refl }
within_with b (Reacting i) provided s = record { is = refl }
within_with b Opening None s = record { is = refl }
within_with b Opening (Some i) s = covered_with b i.counted i (level_of Opening) s
within_with b (Upgrading l) None s = record { is = refl }
within_with b (Upgrading l) (Some i) s = covered_with b i.counted i (level_of (Upgrading l)) s
within_with b (Calling l) None s = record { is = refl }
within_with b (Calling l) (Some i) s = covered_with b i.counted i (level_of (Calling l)) s
within_with b (Closing l) None s = record { is = refl }
within_with b (Closing l) (Some i) s = covered_with b i.counted i (level_of (Closing l)) s

then_with : (b : List ℕ) (j k : Judged) (section : Section) (provided : Option Interface) → Carries b j k →
    and_then k (within_need section provided) ≡ with_bounds b (and_then j (within_need section provided))
then_with b (Ok s) k section provided e = ap (λ (x : Judged). and_then x (within_need section provided)) e.is ∙ (within_with b section provided s).is
then_with b (Err rule) k section provided e = ap (λ (x : Judged). and_then x (within_need section provided)) e.is

judge_with : (c : Context) (b : List ℕ) (s : AbstractState) (i : Instruction) → keeps_slots i ≡ false →
    Carries b (judge c s i) (judge c (record s { bounds = b }) i)
judge_with c b s (Make form place n) e = fill_with c b s place (Memory form n)
judge_with c b s (MakePool place n m) e = fill_with c b s place (Pool_kind n m)
judge_with c b s (Free place) e = freed_with c b s place
judge_with c b s (Open place service n) e = opened_with c b s place service n
judge_with c b s (Upgrade place n) e = upgraded_with c b s place n
judge_with c b s (Close place) e = closed_with c b s place
judge_with c b s (Say text) e = cc
judge_with c b s Out e = cc
judge_with c b s (Operands o) e = cc
judge_with c b s (Load width place) e = cc
judge_with c b s (Store width place) e = cc
judge_with c b s (Take place) e = cc
judge_with c b s (Give place) e = cc
judge_with c b s (Peek place) e = cc
judge_with c b s (Poke place) e = cc
judge_with c b s (Call place) e = cc

-- an instruction that changes slots does the same to them
judged_alike : (c : Context) (s t u : AbstractState) (i : Instruction) → AreAlike s t → keeps_slots i ≡ false → judged c s i ≡ Ok u →
    judged c t i ≡ Ok (record u { bounds = t.bounds })
judged_alike c s t u i e k h =
    ap (λ (x : AbstractState). judged c x i) (alike_is s t e)
    ∙ (then_with t.bounds (judge c s i) _ c.section c.subject.provided (judge_with c t.bounds s i k) ∙ ap (with_bounds t.bounds) h)

-- what is next after an instruction that is right
right_next : (c : Context) (s : AbstractState) (i : Instruction) → IsRight c s (Do i Done) →
    (u : AbstractState) × (judged c s i ≡ Ok u) × (state_or s (at 1 (judged c s i)) ≡ u)
right_next c s i (t, ok) =
    let p = then_ok (at 1 (judged c s i)) _ t (sym ok) in
    let h = at_ok 1 (judged c s i) p.0 p.1 in
    (p.0, h, ap (λ (j : Judged). state_or s (at 1 j)) h)

same_alike : (s t : AbstractState) → Same s t → AreAlike t s
same_alike s t h =
    ap (λ (o : List Kind). let w : AbstractState = record { own = o; bank = t.bank; bounds = [] } in w) h.own
    ∙ ap (λ (k : List Kind). let w : AbstractState = record { own = s.own; bank = k; bounds = [] } in w) h.bank

judged_is : (u v : AbstractState) → (let j : Judged = Ok u in j) ≡ Ok v → u ≡ v
judged_is u v e = cc

left_is : (u new : AbstractState) (b : List ℕ) (r : Result (Unit {0}) Rule) → after r new ≡ (let j : Judged = Ok (record u { bounds = b }) in j) → AreAlike new
    u
left_is u new b (Ok a) h = ap chosen (judged_is new (record u { bounds = b }) h)
left_is u new b (Err rule) h = cc

pub changed_alike : (c : Context) (s t new : AbstractState) (i : Instruction) (r : Result (Unit {0}) Rule) → AreAlike s t → keeps_slots i ≡ false →
    IsRight c s (Do i Done) → after r new ≡ judged c t i → AreAlike new (state_or s (at 1 (judged c s i)))
changed_alike c s t new i r e k right h =
    let p = right_next c s i right in left_is p.0 new t.bounds r (h ∙ judged_alike c s t p.0 i e k p.1) ∙ ap chosen (sym p.2)

pub kept_alike : (c : Context) (s t : AbstractState) (i : Instruction) → AreAlike s t → keeps_slots i ≡ true → IsRight c s (Do i Done) →
    AreAlike t (state_or s (at 1 (judged c s i)))
kept_alike c s t i e k (u, ok) =
    let still : is_still (Do i Done) ≡ true = ap (λ (b : Bool). b && true) k in
    let next = next_is c s u (statement.Plain i) 0 (sym (ap (later 0) ok)) in
    sym e ∙ (sym (same_alike s u (flow_still c s u (Do i Done) still (sym ok))) ∙ ap chosen next)

-- what an instruction asks for depends on the slots alone
pub asks_alike : (v : List ℕ) (r : Section) (c : Context) (s t : AbstractState) (i : Instruction) → AreAlike s t → asks v r c t i ≡ asks v r c s i
asks_alike v r c s t i e = ap (λ (x : AbstractState). asks v r c x i) (alike_is s t e) ∙ asks_with i where
  asks_with : (i : Instruction) → asks v r c (record s { bounds = t.bounds }) i ≡ asks v r c s i
  asks_with (Open place service n) = refl
  asks_with (Upgrade (Own k) n) = refl
  asks_with (Upgrade (Shared k) n) = refl
  asks_with (Upgrade Object n) = refl
  asks_with (Call (Own k)) = refl
  asks_with (Call (Shared k)) = refl
  asks_with (Call Object) = refl
  asks_with (Close (Own k)) = refl
  asks_with (Close (Shared k)) = refl
  asks_with (Close Object) = refl
  asks_with (Say text) = refl
  asks_with Out = refl
  asks_with (Operands o) = refl
  asks_with (Make form place n) = refl
  asks_with (MakePool place n m) = refl
  asks_with (Load width place) = refl
  asks_with (Store width place) = refl
  asks_with (Free place) = refl
  asks_with (Take place) = refl
  asks_with (Give place) = refl
  asks_with (Peek place) = refl
  asks_with (Poke place) = refl

-- ARMS

ok_is : (u v : AbstractState) → (let j : Flowed = Ok u in j) ≡ Ok v → u ≡ v
ok_is u v e = cc

flowed_is : (u new : AbstractState) (r : Result (Unit {0}) Broken) → flowed r new ≡ (let j : Flowed = Ok u in j) → AreAlike new u
flowed_is u new (Ok a) h = ap chosen (ok_is new u h)
flowed_is u new (Err broken) h = cc

pub arm_alike : (c : Context) (s t new : AbstractState) (arm : Statements) (r : Result (Unit {0}) Broken) (n : ℕ) → AreAlike s t → IsRight c (chosen s) arm →
    flowed r new ≡ later n (flow c (chosen t) arm) → AreAlike new (state_or (chosen s) (flow c (chosen s) arm))
arm_alike c s t new arm r n e (u, ok) h =
    let there : flow c (chosen t) arm ≡ Ok u = ap (λ (x : AbstractState). flow c x arm) (sym e) ∙ ok in
    flowed_is u new r (h ∙ ap (later n) there) ∙ ap chosen (sym (ap (state_or (chosen s)) ok))

pub still_alike : (c : Context) (s t : AbstractState) (arm : Statements) → AreAlike s t → is_still arm ≡ true → IsRight c (chosen s) arm →
    AreAlike t (state_or (chosen s) (flow c (chosen s) arm))
still_alike c s t arm e k (u, ok) =
    sym e ∙ (sym (same_alike (chosen s) u (flow_still c (chosen s) u arm k (sym ok))) ∙ ap chosen (sym (ap (state_or (chosen s)) ok)))

-- LISTS

-- what has been counted of a list from its start to the i-th statement, from a state with other operands
pub record Counted (c : Context) (s t : AbstractState) (asked old : List Requested) (items : List Statement) (i : ℕ) : Type 0 where
  pub now : AbstractState
  pub alike : AreAlike now t
  pub right : IsRight c now (tree_of (drop i items))
  pub stated : state_or s (flow c now (tree_of (drop i items))) ≡ state_or s (flow c s (tree_of items))
  pub counted : (v : List ℕ) (r : Section) → saturated (requests_for asked v r + requests v r c now (tree_of (drop i items))) ≡
      saturated (requests_for old v r + requests v r c s (tree_of items))

pub count_first : (c : Context) (s t : AbstractState) (old : List Requested) (items : List Statement) → AreAlike s t → IsRight c s (tree_of items) →
    Counted c s t old old items 0
count_first c s t old items e right = record { now = s; alike = e; right = right; stated = refl; counted = λ v r. refl }

pub count_next : (c : Context) (s t u : AbstractState) (asked next old : List Requested) (items : List Statement) (i : ℕ) (st : Statement) → i < length items →
    st ≡ get_or items i st → FromAlike c t (tree_of (st ∷ [])) (λ x. AreAlike u (next_state c x st)) →
    FromAlike c t (tree_of (st ∷ [])) (λ x. Adds next asked (λ v r. requests_in v r c x st)) → Counted c s t asked old items i →
    Counted c s u next old items (i + 1)
count_next c s t u asked next old items i st less is goes adds h =
    let here = right_here c h.now items i st less is h.right in
    record {
      now = next_state c h.now st;
      alike = sym (goes h.now h.alike here.0);
      right = here.1;
      stated = state_on c h.now (next_state c h.now st) s items i st less is refl h.right ∙ h.stated;
      counted = λ v r.
          counted_on v r c h.now (next_state c h.now st) items i st (requests_for asked v r) (requests_for next v r) _ less is refl
          (adds h.now h.alike here.0 v r) (h.counted v r);
    }

pub count_end : (c : Context) (s t : AbstractState) (asked old : List Requested) (items : List Statement) (i : ℕ) → length items ≤ i →
    Counted c s t asked old items i →
    AreAlike t (state_or s (flow c s (tree_of items))) × Adds asked old (λ v r. requests v r c s (tree_of items))
count_end c s t asked old items i past h =
    let none = drop_of_length-le items past in
    let last = ap (λ (l : List Statement). state_or s (flow c h.now (tree_of l))) none in (
      sym h.alike ∙ ap chosen (sym last ∙ h.stated),
      λ v r.
          let end = ap (λ (l : List Statement). saturated (requests_for asked v r + requests v r c h.now (tree_of l))) none in
          let zero : saturated (requests_for asked v r) ≡ saturated (requests_for asked v r + 0) = omega arith in
          zero ∙ (sym end ∙ h.counted v r),
    )

pub count_all : (c : Context) (first t : AbstractState) (asked old : List Requested) (items : List Statement) (b : Statements) (i : ℕ) → tree_of items ≡ b →
    length items ≤ i → ((s : AbstractState) → AreAlike s first → IsRight c s (tree_of items) → Counted c s t asked old items i) →
    FromAlike c first b (λ s. AreAlike t (state_or s (flow c s b))) × FromAlike c first b (λ s. Adds asked old (λ v r. requests v r c s b))
count_all c first t asked old items b i same past each =
    subst (λ (b : Statements). FromAlike c first b (λ s. AreAlike t (state_or s (flow c s b)))
    × FromAlike c first b (λ s. Adds asked old (λ v r. requests v r c s b))) same (
      λ s alike right. (count_end c s t asked old items i past (each s alike right)).0,
      λ s alike right. (count_end c s t asked old items i past (each s alike right)).1,
    )

-- those of the arm that makes more
pub arms_counted : (new old m a b x y none other : ℕ) → saturated new ≡ saturated (old + 1 * m) → saturated m ≡ saturated (max a b) →
    saturated a ≡ saturated (none + x) → saturated b ≡ saturated (other + y) → none ≡ 0 → other ≡ 0 → saturated new ≡ saturated (old + max x y)
arms_counted new old m a b x y none other p q h k e f = omega (arith, p, q, h, k, e, f)
