-- What follows where statements, sections and programs break no rule.
use Rattle.std.proofs.Common.{◌≡◌, ℕ, suc, ◌+◌, Bool, true, false, cond, ◌&&◌, List, [], ◌∷◌, Option, Some, None, Ok, Err, refl, ap, sym, ◌∙◌, subst}
use Rattle.std.specs.Prelude.{◌==◌}
use Rattle.std.proofs.lemmas.Bool.{and_parts, eqb-true}
use Rattle.gq_model.specs.machine.Amounts.{Amount, Resource, same_amount}
use Rattle.gq_model.specs.declared.fault.Rule.{Rule}
use Rattle.gq_model.specs.declared.fault.Rule.TheVariants.{LeftoverOperand, JoinDiffers}
use Rattle.gq_model.specs.declared.program.Form.TheVariants.{Block, Slice, Space}
use Rattle.gq_model.specs.declared.section.Section.{Section}
use Rattle.gq_model.specs.declared.section.Section.TheVariants.{Main, Opening, Upgrading, Calling, Closing, Reacting}
use Rattle.gq_model.specs.machine.Program.{Statements, If, Loop, size, text_eq, section_in}
use Rattle.gq_model.specs.machine.Sections.{same_section, all_sections}
use Rattle.gq_model.specs.machine.Scenario.{Interface}
use Rattle.gq_model.specs.rules.Kinds.{Kind, Empty_kind, Memory, Pool_kind, Link_kind, AbstractState, Context, Subject, inside, same_kind, same_kinds}
use Rattle.gq_model.specs.rules.Rules.{Judged, must, covered, within_need}
use Rattle.gq_model.specs.rules.Flow.{Flowed, at, later, flow_then, is_nil, none_left, chosen_from, join, flow, state_or, context, body, start_of}
use Rattle.gq_model.specs.rules.Flow.{section_end, section_flow}
use Rattle.gq_model.specs.rules.Verdict.{first_unwanted, fault_of, first_fault, walked, program_fault}
use Rattle.gq_model.proofs.Small_facts.{none_some, some_none, or_first_none, text_is}

-- STATEMENTS

err_ok : {rule : Rule} {s : AbstractState} → ◌≡◌ {A = Judged} (Err rule) (Ok s) → ⊥
err_ok e = cc

pub ok_same : {s t : AbstractState} → ◌≡◌ {A = Judged} (Ok s) (Ok t) → s ≡ t
ok_same e = cc

pub must_holds : (b : Bool) (rule : Rule) (next : Judged) (t : AbstractState) → must b rule next ≡ Ok t → (b ≡ true) × (next ≡ Ok t)
must_holds true rule next t e = (refl, e)
must_holds false rule next t e = absurd (err_ok e)

covered_same : (resources : List Resource) (i : Interface) (level : ℕ) (s t : AbstractState) → covered resources i level s ≡ Ok t → s ≡ t
covered_same [] i level s t e = ok_same e
covered_same (r ∷ resources) i level s t e = covered_same resources i level s t (must_holds _ _ _ t e).1

pub within_same : (section : Section) (provided : Option Interface) (s t : AbstractState) → within_need section provided s ≡ Ok t → s ≡ t
within_same Main provided s t e = ok_same e
within_same (Reacting i) provided s t e = ok_same e
within_same Opening None s t e = ok_same e
within_same (Upgrading l) None s t e = ok_same e
within_same (Calling l) None s t e = ok_same e
within_same (Closing l) None s t e = ok_same e
within_same Opening (Some i) s t e = covered_same i.counted i _ s t e
within_same (Upgrading l) (Some i) s t e = covered_same i.counted i _ s t e
within_same (Calling l) (Some i) s t e = covered_same i.counted i _ s t e
within_same (Closing l) (Some i) s t e = covered_same i.counted i _ s t e

-- ONE AFTER THE OTHER

pub then_ok : (r : Flowed) (f : AbstractState → Flowed) (t : AbstractState) → flow_then r f ≡ Ok t → (s : AbstractState) × (r ≡ Ok s) × (f s ≡ Ok t)
then_ok (Ok s) f t e = (s, refl, e)
then_ok (Err fault) f t e = cc

pub at_ok : (n : ℕ) (r : Judged) (t : AbstractState) → at n r ≡ Ok t → r ≡ Ok t
at_ok n (Ok s) t e = ap (λ u. Ok (state_or t u)) e
at_ok n (Err rule) t e = cc

pub later_ok : (n : ℕ) (r : Flowed) (t : AbstractState) → later n r ≡ Ok t → r ≡ Ok t
later_ok n (Ok s) t e = e
later_ok n (Err fault) t e = cc

-- STATES THAT THE RULES CALL THE SAME

pub nil_is : (bounds : List ℕ) → is_nil bounds ≡ true → bounds ≡ []
nil_is [] e = refl
nil_is (x ∷ xs) e = cc

amount_is : (a b : Amount) → same_amount a b ≡ true → a ≡ b
amount_is a b e =
    let p = and_parts (a.ram == b.ram) (a.caps == b.caps) e in λ i. record { ram = eqb-true a.ram b.ram p.0 i; caps = eqb-true a.caps b.caps p.1 i }

kind_is : (k l : Kind) → same_kind k l ≡ true → k ≡ l
kind_is Empty_kind Empty_kind e = refl
kind_is (Memory Block n) (Memory Block m) e = ap (Memory Block) (eqb-true n m e)
kind_is (Memory Slice n) (Memory Slice m) e = ap (Memory Slice) (eqb-true n m e)
kind_is (Memory Space n) (Memory Space m) e = ap (Memory Space) (eqb-true n m e)
kind_is (Pool_kind n m) (Pool_kind n' m') e =
    let p = and_parts (n == n') (m == m') e in λ i. Pool_kind (eqb-true n n' p.0 i) (eqb-true m m' p.1 i)
kind_is (Link_kind s l a) (Link_kind s' l' a') e =
    let p = and_parts (text_eq s s' && l == l') (same_amount a a') e in
    let q = and_parts (text_eq s s') (l == l') p.0 in
    λ i. Link_kind (text_is s s' q.0 i) (eqb-true l l' q.1 i) (amount_is a a' p.1 i)
kind_is _ _ e = cc

-- equal kinds by the rules are the same kinds
pub kinds_are : (ks ls : List Kind) → same_kinds ks ls ≡ true → ks ≡ ls
kinds_are [] [] e = refl
kinds_are [] (l ∷ ls) e = cc
kinds_are (k ∷ ks) [] e = cc
kinds_are (k ∷ ks) (l ∷ ls) e = let p = and_parts (same_kind k l) (same_kinds ks ls) e in λ i. kind_is k l p.0 i ∷ kinds_are ks ls p.1 i

-- both sides of a join are the same state
pub join_ok : (s t w : AbstractState) → join s t ≡ Ok w → (w ≡ s) × (s.bounds ≡ []) × (t ≡ s)
join_ok s t w e =
    let a = must_holds (is_nil s.bounds && is_nil t.bounds) LeftoverOperand _ w e in
    let n = and_parts (is_nil s.bounds) (is_nil t.bounds) a.0 in
    let b = must_holds (same_kinds s.own t.own && same_kinds s.bank t.bank) JoinDiffers _ w a.1 in
    let k = and_parts (same_kinds s.own t.own) (same_kinds s.bank t.bank) b.0 in
    let own = sym (kinds_are s.own t.own k.0) in
    let bank = sym (kinds_are s.bank t.bank k.1) in
    let bounds = nil_is t.bounds n.1 ∙ sym (nil_is s.bounds n.0) in
    (ap (λ r. state_or w (at 1 r)) (sym b.1), nil_is s.bounds n.0, λ i. record { own = own i; bank = bank i; bounds = bounds i })

pub none_left_ok : (s t : AbstractState) → none_left s ≡ Ok t → (s.bounds ≡ []) × (t ≡ s)
none_left_ok s t e = let a = must_holds (is_nil s.bounds) LeftoverOperand (Ok s) t e in (nil_is s.bounds a.0, ap (λ r. state_or t (at 1 r)) (sym a.1))

-- IFS AND LOOPS

-- both arms of an `if` lead to where the rest goes on
pub if_parts : (c : Context) (s : AbstractState) (arm other rest : Statements) (u : AbstractState) → flow c s (If arm other rest) ≡ Ok u
    → (t v : AbstractState) × (chosen_from s ≡ Ok t) × (flow c t arm ≡ Ok v) × (flow c t other ≡ Ok v) × (flow c v rest ≡ Ok u)
if_parts c s arm other rest u e =
    let n = 1 + size arm + size other in
    let p = then_ok (at 1 (chosen_from s)) (λ v. flow_then (later 1 (flow c v arm))
    (λ w. flow_then (later (1 + size arm) (flow c v other)) (λ x. flow_then (at 1 (join w x)) (λ y. later n (flow c y rest))))) u e in
    let q = then_ok (later 1 (flow c p.0 arm)) (λ w. flow_then (later (1 + size arm) (flow c p.0 other))
    (λ x. flow_then (at 1 (join w x)) (λ y. later n (flow c y rest)))) u p.2 in
    let r = then_ok (later (1 + size arm) (flow c p.0 other)) (λ x. flow_then (at 1 (join q.0 x)) (λ y. later n (flow c y rest))) u q.2 in
    let j = then_ok (at 1 (join q.0 r.0)) (λ y. later n (flow c y rest)) u r.2 in
    let k = join_ok q.0 r.0 j.0 (at_ok 1 (join q.0 r.0) j.0 j.1) in
    let end : flow c q.0 rest ≡ Ok u = subst (λ w. flow c w rest ≡ Ok u) k.0 (later_ok n (flow c j.0 rest) u j.2) in
    let second : flow c p.0 other ≡ Ok q.0 = later_ok (1 + size arm) (flow c p.0 other) r.0 r.1 ∙ ap Ok k.2 in
    (p.0, q.0, at_ok 1 (chosen_from s) p.0 p.1, later_ok 1 (flow c p.0 arm) q.0 q.1, second, end)

-- a loop starts without operands, and its body leads back to its start
pub loop_ok : (c : Context) (s : AbstractState) (n : ℕ) (body rest : Statements) (u : AbstractState) → flow c s (Loop n body rest) ≡ Ok u
    → (s.bounds ≡ []) × (flow (inside c n) s body ≡ Ok s) × (flow c s rest ≡ Ok u)
loop_ok c s n body rest u e =
    let a = then_ok (at 1 (none_left s)) (λ t. flow_then (later 1 (flow (inside c n) t body))
    (λ v. flow_then (at 1 (join t v)) (λ w. later (1 + size body) (flow c w rest)))) u e in
    let l = none_left_ok s a.0 (at_ok 1 (none_left s) a.0 a.1) in
    let here = subst (λ t. flow_then (later 1 (flow (inside c n) t body)) (λ v. flow_then (at 1 (join t v)) (λ w. later (1 + size body) (flow c w rest)))
    ≡ Ok u) l.1 a.2 in
    let b = then_ok (later 1 (flow (inside c n) s body)) (λ v. flow_then (at 1 (join s v)) (λ w. later (1 + size body) (flow c w rest))) u here in
    let j = then_ok (at 1 (join s b.0)) (λ w. later (1 + size body) (flow c w rest)) u b.2 in
    let k = join_ok s b.0 j.0 (at_ok 1 (join s b.0) j.0 j.1) in
    (l.0, later_ok 1 (flow (inside c n) s body) b.0 b.1 ∙ ap Ok k.2, subst (λ w. flow c w rest ≡ Ok u) k.0 (later_ok (1 + size body) (flow c j.0 rest) u j.2))

-- SECTIONS OF A PROGRAM WITHOUT A FAULT

pub same_section_is : (s t : Section) → same_section s t ≡ true → s ≡ t
same_section_is Main Main e = refl
same_section_is Opening Opening e = refl
same_section_is (Upgrading a) (Upgrading b) e = ap Upgrading (eqb-true a b e)
same_section_is (Calling a) (Calling b) e = ap Calling (eqb-true a b e)
same_section_is (Closing a) (Closing b) e = ap Closing (eqb-true a b e)
same_section_is (Reacting a) (Reacting b) e = ap Reacting (eqb-true a b e)
same_section_is _ _ e = cc

-- a program without a fault lacks no section, and none of its own has a fault
pub accepted : (v : Subject) → program_fault v ≡ None → (first_unwanted v all_sections ≡ None) × (first_fault v v.program.sections ≡ None)
accepted v e = by (first_unwanted v all_sections) refl e
  where
    by : (o : Option Section) → first_unwanted v all_sections ≡ o → walked v o ≡ None
        → (first_unwanted v all_sections ≡ None) × (first_fault v v.program.sections ≡ None)
    by None f e = (f, e)
    by (Some section) f e = absurd (some_none e)

flow_passes : (section : Section) (list : Statements) (r : Flowed) → fault_of section list r ≡ None → (last : AbstractState) × (r ≡ Ok last)
flow_passes section list (Err fault) e = absurd (some_none e)
flow_passes section list (Ok last) e = (last, refl)

-- a section that is there passes the rules
pub passes : (v : Subject) (section : Section) (list : Statements) (pairs : List (Section × Statements)) → first_fault v pairs ≡ None
    → section_in section pairs ≡ Some list → (last : AbstractState) × (section_flow v section ≡ Ok last)
passes v section list [] e there = absurd (none_some there)
passes v section list (p ∷ rest) e there =
    let n = or_first_none (fault_of p.0 p.1 (section_flow v p.0)) (first_fault v rest) e in
    by n.0 (same_section section p.0) refl there (λ f. passes v section list rest n.1 f)
  where
    by : fault_of p.0 p.1 (section_flow v p.0) ≡ None → (same : Bool) → same_section section p.0 ≡ same
        → cond same (Some p.1) (section_in section rest) ≡ Some list
        → (section_in section rest ≡ Some list → (last : AbstractState) × (section_flow v section ≡ Ok last))
        → (last : AbstractState) × (section_flow v section ≡ Ok last)
    by none true same f further =
        let here : fault_of p.0 p.1 (section_flow v section) ≡ None =
        subst (λ q. fault_of p.0 p.1 (section_flow v q) ≡ None) (sym (same_section_is section p.0 same)) none in
        flow_passes p.0 p.1 (section_flow v section) here
    by none false same f further = further f

flows_by : (v : Subject) (section : Section) (last : AbstractState) → section_flow v section ≡ Ok last
    → (end : AbstractState) × (flow (context v section) (start_of v section) (body v section) ≡ Ok end) × (section_end v section end ≡ Ok last)
flows_by v section last e =
    let n = suc (size (body v section)) in
    let a = then_ok (at 0 (within_need section v.provided (start_of v section)))
    (λ s. flow_then (flow (context v section) s (body v section)) (λ t. at n (section_end v section t))) last e in
    let same = within_same section v.provided (start_of v section) a.0 (at_ok 0 (within_need section v.provided (start_of v section)) a.0 a.1) in
    let here = subst (λ s. flow_then (flow (context v section) s (body v section)) (λ t. at n (section_end v section t)) ≡ Ok last) (sym same) a.2 in
    let b = then_ok (flow (context v section) (start_of v section) (body v section)) (λ t. at n (section_end v section t)) last here in
    (b.0, b.1, at_ok n (section_end v section b.0) last b.2)

-- it passes from its start to the end of its statements, and what holds at its end holds there
pub section_flows : (v : Subject) (section : Section) (list : Statements) → program_fault v ≡ None → section_in section v.program.sections ≡ Some list
    → (end : AbstractState) × (last : AbstractState) × (flow (context v section) (start_of v section) (body v section) ≡ Ok end) ×
    (section_end v section end ≡ Ok last)
section_flows v section list e there =
    let p = passes v section list v.program.sections (accepted v e).1 there in
    let f = flows_by v section p.0 p.1 in
    (f.0, p.0, f.1, f.2)
