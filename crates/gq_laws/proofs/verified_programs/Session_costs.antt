-- What the rules say of a session's costs: they stay within its need, no kind of the heap's comes into its bank, and who opens or upgrades a session pays its
-- need.
use Rattle.std.proofs.Common.{◌≡◌, ℕ, zero, suc, ◌+◌, ◌<◌, ◌≤◌, true, false, List, [], ◌∷◌, length, take, Some, None, Ok, Err, refl, ap, sym, ◌∙◌, subst, arith}
use Rattle.std.specs.Prelude.{nat_le, nat_lt, slice_index_or}
use Rattle.std.proofs.lemmas.Bool.{leb-true, true≢false}
use Rattle.gq_model.specs.machine.Amounts.{Resource, Ram, Caps, Amount, amount, part, plus, total}
use Rattle.gq_model.specs.declared.section.Section.{Section}
use Rattle.gq_model.specs.declared.section.Section.TheVariants.{Main, Opening, Upgrading, Calling, Closing, Reacting}
use Rattle.gq_model.specs.declared.program.OperandSlot.{OperandSlot}
use Rattle.gq_model.specs.declared.program.Instruction.{Instruction}
use Rattle.gq_model.specs.declared.program.Instruction.TheVariants.{Open, Upgrade}
use Rattle.gq_model.specs.machine.Program.{Statements, size, section_in}
use Rattle.gq_model.specs.machine.Scenario.{Interface, interface_in}
use Rattle.gq_model.specs.rules.Kinds.{AbstractState, Subject, Context, kind_at, need_of, session_cost}
use Rattle.gq_model.specs.machine.Sections.{is_own_section, level_of}
use Rattle.gq_model.specs.rules.Rules.{Judged, and_then, is_empty_kind, may_change, link_kind, covered, within_need, judge, judged}
use Rattle.gq_model.specs.rules.Flow.{at, flow_then, flow, context, body, bank_before, start_of, section_end, section_flow}
use Rattle.gq_model.specs.rules.Verdict.{program_fault}
use Rattle.gq_model.specs.Promises.{EachOf}
use Rattle.gq_model.proofs.Small_facts.{some_same}
use Rattle.gq_laws.proofs.statement_rules.Ruled_step_shapes.{given_there, judged_alone}
use Rattle.gq_laws.specs.internal.Verified_holdings.{Covers}
use Rattle.gq_model.proofs.Rules_laws.{then_ok, at_ok, must_holds, within_same, accepted, passes}

-- WHAT A SESSION COSTS

covered_each : (resources : List Resource) (i : Interface) (level : ℕ) (s t : AbstractState) → covered resources i level s ≡ Ok t
    → EachOf resources (λ r. session_cost r i s.bank ≤ part r (need_of i level))
covered_each [] i level s t e = tt
covered_each (r ∷ resources) i level s t e =
    let m = must_holds (nat_le (session_cost r i s.bank) (part r (need_of i level))) _ _ t e in
    (leb-true (session_cost r i s.bank) (part r (need_of i level)) m.0, covered_each resources i level s t m.1)

-- outside `main` the rule holds of the state that it lets pass
within_covers : (section : Section) (i : Interface) (s t : AbstractState) → is_own_section section ≡ false → within_need section (Some i) s ≡ Ok t
    → EachOf i.counted (λ r. session_cost r i s.bank ≤ part r (need_of i (level_of section)))
within_covers Main i s t outside e = absurd (true≢false outside)
within_covers Opening i s t outside e = covered_each i.counted i 0 s t e
within_covers (Upgrading l) i s t outside e = covered_each i.counted i l s t e
within_covers (Calling l) i s t outside e = covered_each i.counted i l s t e
within_covers (Closing l) i s t outside e = covered_each i.counted i l s t e
within_covers (Reacting j) i s t outside e = absurd (true≢false outside)

passed_covers : (v : Subject) (section : Section) (s t : AbstractState) → is_own_section section ≡ false → within_need section v.provided s ≡ Ok t
    → Covers v (level_of section) s.bank
passed_covers v section s t outside e i provided = within_covers section i s t outside (ap (λ o. within_need section o s) (sym provided) ∙ e)

-- after each statement
pub judged_covers : (c : Context) (s t : AbstractState) (i : Instruction) → is_own_section c.section ≡ false → judged c s i ≡ Ok t
    → Covers c.subject (level_of c.section) t.bank
judged_covers c s t i outside e = by (judge c s i) e
  where
    by : (j : Judged) → and_then j (within_need c.section c.subject.provided) ≡ Ok t → Covers c.subject (level_of c.section) t.bank
    by (Err rule) e = absurd cc
    by (Ok u) e =
        subst (λ (u : AbstractState). Covers c.subject (level_of c.section) u.bank) (within_same c.section c.subject.provided u t e)
        (passed_covers c.subject c.section u t outside e)

flow_covers : (v : Subject) (section : Section) (last : AbstractState) → is_own_section section ≡ false → section_flow v section ≡ Ok last
    → Covers v (level_of section) (bank_before v section)
flow_covers v section last outside e =
    let n = suc (size (body v section)) in
    let a = then_ok (at 0 (within_need section v.provided (start_of v section)))
    (λ s. flow_then (flow (context v section) s (body v section)) (λ t. at n (section_end v section t))) last e in
    passed_covers v section (start_of v section) a.0 outside (at_ok 0 (within_need section v.provided (start_of v section)) a.0 a.1)

-- where a section starts
pub start_covers : (v : Subject) (section : Section) (list : Statements) → program_fault v ≡ None → section_in section v.program.sections ≡ Some list
    → is_own_section section ≡ false → Covers v (level_of section) (bank_before v section)
start_covers v section list e there outside =
    let p = passes v section list v.program.sections (accepted v e).1 there in flow_covers v section p.0 outside p.1

-- NEEDS

pub part_plus : (r : Resource) (a b : Amount) → part r (plus a b) ≡ part r a + part r b
part_plus Ram a b = refl
part_plus Caps a b = refl

-- one item more of a list adds its amount
total_next : (r : Resource) (amounts : List Amount) (n : ℕ) → n < length amounts
    → part r (total (take (suc n) amounts)) ≡ part r (total (take n amounts)) + part r (slice_index_or amounts n (amount 0 0))
total_next r [] n less = absurd (omega (arith, less))
total_next r (a ∷ rest) zero less = let one = part_plus r a (total []) in let none = nothing r in omega (arith, one, none)
  where
    nothing : (r : Resource) → part r (amount 0 0) ≡ 0
    nothing Ram = refl
    nothing Caps = refl
total_next r (a ∷ rest) (suc n) less =
    let further = total_next r rest n (omega (arith, less)) in
    let more = part_plus r a (total (take (suc n) rest)) in
    let fewer = part_plus r a (total (take n rest)) in
    omega (arith, further, more, fewer)

-- a session of the next level needs what its upgrade adds
pub need_next : (i : Interface) (level : ℕ) (r : Resource) → level < length i.upgrades
    → part r (need_of i (suc level)) ≡ part r (need_of i level) + part r (slice_index_or i.upgrades level (amount 0 0))
need_next i level r less =
    let next = total_next r i.upgrades level less in
    let more = part_plus r i.need (total (take (suc level) i.upgrades)) in
    let fewer = part_plus r i.need (total (take level i.upgrades)) in
    omega (arith, next, more, fewer)

pub need_first : (i : Interface) (r : Resource) → part r (need_of i 0) ≡ part r i.need
need_first i Ram = omega arith
need_first i Caps = omega arith

enough : (a : Amount) (n : ℕ) (r : Resource) → nat_le a.ram n ≡ true → part r a ≤ part r (amount n a.caps)
enough a n Ram e = leb-true a.ram n e
enough a n Caps e = omega arith

-- who opens a session gives its need
pub open_pays : (c : Context) (s t : AbstractState) (place : OperandSlot) (service : List ℕ) (n : ℕ) (i : Interface) → interface_in service
    c.subject.interfaces ≡ Some i
    → judged c s (Open place service n) ≡ Ok t → (r : Resource) → part r i.need ≤ part r (amount n i.need.caps)
open_pays c s t place service n i known e r =
    let old = given_there (kind_at c s place) _ _ t (judged_alone c s (Open place service n) t e) in
    let empty = must_holds (is_empty_kind old.0) _ _ t old.2 in
    let may = must_holds (may_change c place) _ _ t empty.1 in
    let found = given_there (interface_in service c.subject.interfaces) _ _ t may.1 in
    let pays = must_holds (nat_le found.0.need.ram n) _ _ t found.2 in
    enough i.need n r (ap (λ (i : Interface). nat_le i.need.ram n) (some_same (sym known ∙ found.1)) ∙ pays.0)

-- who upgrades one gives what the upgrade adds
pub upgrade_pays : (c : Context) (s t : AbstractState) (place : OperandSlot) (n : ℕ) (service : List ℕ) (level : ℕ) (given : Amount) (i : Interface)
    → link_kind (kind_at c s place) ≡ Some (service, level, given) → interface_in service c.subject.interfaces ≡ Some i → judged c s (Upgrade place n) ≡ Ok t
    → (level < length i.upgrades) × ((r : Resource) → part r (slice_index_or i.upgrades level (amount 0 0))
    ≤ part r (amount n (slice_index_or i.upgrades level (amount 0 0)).caps))
upgrade_pays c s t place n service level given i link known e =
    let l = given_there (link_kind (kind_at c s place)) _ _ t (judged_alone c s (Upgrade place n) t e) in
    let found = given_there (interface_in l.0.0 c.subject.interfaces) _ _ t l.2 in
    let within = must_holds (nat_lt l.0.1 (length found.0.upgrades)) _ _ t found.2 in
    let may = must_holds (may_change c place) _ _ t within.1 in
    let pays = must_holds (nat_le (slice_index_or found.0.upgrades l.0.1 (amount 0 0)).ram n) _ _ t may.1 in
    let same : (service, level, given) ≡ l.0 = some_same (sym link ∙ l.1) in
    let is : i ≡ found.0 = some_same (sym known ∙ (ap (λ (l : List ℕ × ℕ × Amount). interface_in l.0 c.subject.interfaces) same ∙ found.1)) in
    let less : nat_lt level (length i.upgrades) ≡ true = (λ k. nat_lt (same k).1 (length (is k).upgrades)) ∙ within.0 in
    let ram : nat_le (slice_index_or i.upgrades level (amount 0 0)).ram n ≡ true =
    (λ k. nat_le (slice_index_or (is k).upgrades (same k).1 (amount 0 0)).ram n) ∙ pays.0 in
    (leb-true (suc level) (length i.upgrades) less, λ r. enough (slice_index_or i.upgrades level (amount 0 0)) n r ram)
