-- What a program that the verifier accepts has: the sections that are wanted, which pass the rules from their start to their end, and sessions whose banks are
-- as foreseen.
use Rattle.std.proofs.Common.{◌≡◌, ℕ, zero, suc, ◌<◌, ◌≤◌, ◌||◌, nat_lt, Bool, true, false, cond, List, [], ◌∷◌, length, replicate, Option, Some, None}
use Rattle.std.proofs.Common.{Ok, Err, refl, ap, sym, ◌∙◌, subst, arith}
use Rattle.std.specs.Prelude.{nat_le, is_some, slice_get}
use Rattle.std.proofs.lemmas.Bool.{eqb-true, leb-true, le-leb, lt-ltb, ltb-true, false≢true}
use Rattle.gq_model.specs.declared.program.Form.TheVariants.{Block, Slice, Space}
use Rattle.gq_model.specs.declared.section.Section.{Section}
use Rattle.gq_model.specs.declared.section.Section.TheVariants.{Main, Opening, Upgrading, Calling, Closing, Reacting}
use Rattle.gq_model.specs.machine.Program.{Statements, section_in}
use Rattle.gq_model.specs.machine.Sections.{same_section, all_sections, is_start_section, is_own_section}
use Rattle.gq_model.specs.machine.Scenario.{Interface, number_of}
use Rattle.gq_model.specs.machine.Lists.{any_of}
use Rattle.gq_model.specs.rules.Kinds.{Kind, Empty_kind, Memory, Pool_kind, Link_kind, AbstractState, Subject, same_kinds}
use Rattle.gq_model.specs.rules.Rules.{Judged, and_then, is_empty_kind}
use Rattle.gq_model.specs.rules.Flow.{is_nil, none_left, flow, state_or, context, body, own_after, own_before, bank_at, start_of}
use Rattle.gq_model.specs.rules.Flow.{is_space_kind, bank_is_empty, opening_end, section_end}
use Rattle.gq_model.specs.rules.Verdict.{is_wanted, same_truth, first_unwanted, program_fault}
use Rattle.gq_laws.proofs.statement_rules.Ruled_step_shapes.{top_there}
use Rattle.gq_laws.proofs.verified_programs.Flow_banks.{own_stays, buffer_stays}
use Rattle.std.proofs.lemmas.Bool.{and_parts}
use Rattle.gq_model.proofs.Small_facts.{some_none}
use Rattle.gq_model.proofs.Rules_laws.{kinds_are, none_left_ok, must_holds, same_section_is, accepted, section_flows}

-- SECTIONS THAT ARE THERE

is_there : (o : Option Statements) → is_some o ≡ true → (list : Statements) × (o ≡ Some list)
is_there None e = absurd (false≢true e)
is_there (Some list) e = (list, refl)

both_same : (a b : Bool) → same_truth a b ≡ true → a ≡ true → b ≡ true
both_same true b e wanted = e
both_same false b e wanted = absurd (false≢true wanted)

-- a section among those that are looked for
found_there : (v : Subject) (section : Section) (sections : List Section) → first_unwanted v sections ≡ None → any_of (same_section section) sections ≡ true
    → is_wanted v.provided v.signals section ≡ true → (list : Statements) × (section_in section v.program.sections ≡ Some list)
found_there v section [] e among wanted = absurd (false≢true among)
found_there v section (s ∷ rest) e among wanted =
    by (same_truth (is_wanted v.provided v.signals s) (is_some (section_in s v.program.sections))) refl e (λ f more. found_there v section rest f more wanted)
  where
    there : (same : Bool) → same_section section s ≡ same → same_truth (is_wanted v.provided v.signals s) (is_some (section_in s v.program.sections)) ≡ true
        → (same || any_of (same_section section) rest) ≡ true
        → (any_of (same_section section) rest ≡ true → (list : Statements) × (section_in section v.program.sections ≡ Some list))
        → (list : Statements) × (section_in section v.program.sections ≡ Some list)
    there false same t more further = further more
    there true same t more further =
        let here = subst (λ q. same_truth (is_wanted v.provided v.signals q) (is_some (section_in q v.program.sections)) ≡ true)
        (sym (same_section_is section s same)) t in
        is_there (section_in section v.program.sections) (both_same (is_wanted v.provided v.signals section)
        (is_some (section_in section v.program.sections)) here wanted)

    by : (b : Bool) → same_truth (is_wanted v.provided v.signals s) (is_some (section_in s v.program.sections)) ≡ b
        → cond b (first_unwanted v rest) (Some s) ≡ None
        → (first_unwanted v rest ≡ None → any_of (same_section section) rest ≡ true → (list : Statements) × (section_in section v.program.sections ≡ Some list))
        → (list : Statements) × (section_in section v.program.sections ≡ Some list)
    by true t f further = there (same_section section s) refl t among (further f)
    by false t f further = absurd (some_none f)

-- the sections of levels up to 3 are looked for
upgrading_among : (l : ℕ) → 0 < l → l ≤ 3 → any_of (same_section (Upgrading l)) all_sections ≡ true
upgrading_among zero positive few = absurd (omega (arith, positive))
upgrading_among (suc zero) positive few = refl
upgrading_among (suc (suc zero)) positive few = refl
upgrading_among (suc (suc (suc zero))) positive few = refl
upgrading_among (suc (suc (suc (suc l)))) positive few = absurd (omega (arith, few))

calling_among : (l : ℕ) → l ≤ 3 → any_of (same_section (Calling l)) all_sections ≡ true
calling_among zero few = refl
calling_among (suc zero) few = refl
calling_among (suc (suc zero)) few = refl
calling_among (suc (suc (suc zero))) few = refl
calling_among (suc (suc (suc (suc l)))) few = absurd (omega (arith, few))

closing_among : (l : ℕ) → l ≤ 3 → any_of (same_section (Closing l)) all_sections ≡ true
closing_among zero few = refl
closing_among (suc zero) few = refl
closing_among (suc (suc zero)) few = refl
closing_among (suc (suc (suc zero))) few = refl
closing_among (suc (suc (suc (suc l)))) few = absurd (omega (arith, few))

reacting_among : (i signals : ℕ) → signals ≤ 3 → nat_lt i signals ≡ true → any_of (same_section (Reacting i)) all_sections ≡ true
reacting_among zero n less e = refl
reacting_among (suc zero) n less e = refl
reacting_among (suc (suc zero)) n less e = refl
reacting_among (suc (suc (suc i))) n less e = let below = ltb-true (suc (suc (suc i))) n e in absurd (omega (arith, less, below))

level_few : (i : Interface) (l : ℕ) → length i.upgrades ≤ 3 → nat_le l (length i.upgrades) ≡ true → l ≤ 3
level_few i l few e = let within = leb-true l (length i.upgrades) e in omega (arith, few, within)

among_all : (i : Interface) (signals : ℕ) (section : Section) → length i.upgrades ≤ 3 → signals ≤ 3 → is_wanted (Some i) signals section ≡ true
    → ((l : ℕ) → section ≡ Upgrading l → 0 < l)
    → any_of (same_section section) all_sections ≡ true
among_all i n Main few less wanted positive = refl
among_all i n Opening few less wanted positive = refl
among_all i n (Upgrading l) few less wanted positive = upgrading_among l (positive l refl) (level_few i l few wanted)
among_all i n (Calling l) few less wanted positive = calling_among l (level_few i l few wanted)
among_all i n (Closing l) few less wanted positive = closing_among l (level_few i l few wanted)
among_all i n (Reacting j) few less wanted positive = reacting_among j n less wanted

-- what is wanted of a leaf without signals is wanted of one with signals
wanted_more : (i : Interface) (signals : ℕ) (section : Section) → is_wanted (Some i) 0 section ≡ true → is_wanted (Some i) signals section ≡ true
wanted_more i n Main e = refl
wanted_more i n Opening e = refl
wanted_more i n (Upgrading l) e = e
wanted_more i n (Calling l) e = e
wanted_more i n (Closing l) e = e
wanted_more i n (Reacting j) e = let less = ltb-true j 0 e in absurd (omega (arith, less))

-- a section that is wanted is there
pub section_there : (v : Subject) (i : Interface) (section : Section) → program_fault v ≡ None → v.provided ≡ Some i → length i.upgrades ≤ 3
    → is_wanted (Some i) 0 section ≡ true → ((l : ℕ) → section ≡ Upgrading l → 0 < l)
    → (list : Statements) × (section_in section v.program.sections ≡ Some list)
section_there v i section e provided few wanted positive =
    found_there v section all_sections (accepted v e).0 (among_all i 0 section few (omega arith) wanted positive)
    (ap (λ o. is_wanted o v.signals section) provided ∙ wanted_more i v.signals section wanted)

-- and so is the one for each signal
pub reacting_there : (v : Subject) (i : ℕ) → program_fault v ≡ None → v.signals ≤ 3 → i < v.signals
    → (list : Statements) × (section_in (Reacting i) v.program.sections ≡ Some list)
reacting_there v i e few less =
    found_there v (Reacting i) all_sections (accepted v e).0 (reacting_among i v.signals few (lt-ltb i v.signals less)) (by v.provided)
  where
    by : (o : Option Interface) → is_wanted o v.signals (Reacting i) ≡ true
    by None = lt-ltb i v.signals less
    by (Some p) = lt-ltb i v.signals less

main_wanted : (provided : Option Interface) (signals : ℕ) → is_wanted provided signals Main ≡ true
main_wanted None n = refl
main_wanted (Some i) n = refl

pub main_there : (v : Subject) → program_fault v ≡ None → (list : Statements) × (section_in Main v.program.sections ≡ Some list)
main_there v e = found_there v Main all_sections (accepted v e).0 refl (main_wanted v.provided v.signals)

-- BANKS AT THE ENDS OF SECTIONS

pub bank_opened : (v : Subject) (end : AbstractState) → flow (context v Opening) (start_of v Opening) (body v Opening) ≡ Ok end → end.bank ≡ bank_at v 0
bank_opened v end e = ap (λ r. (state_or (start_of v Opening) r).bank) (sym e)

pub bank_upgraded : (v : Subject) (l : ℕ) (end : AbstractState)
    → flow (context v (Upgrading (suc l))) (start_of v (Upgrading (suc l))) (body v (Upgrading (suc l))) ≡ Ok end → end.bank ≡ bank_at v (suc l)
bank_upgraded v l end e = ap (λ r. (state_or (start_of v (Upgrading (suc l))) r).bank) (sym e)

pub own_main : (v : Subject) (end : AbstractState) → flow (context v Main) (start_of v Main) (body v Main) ≡ Ok end → end.own ≡ own_after v
own_main v end e = ap (λ r. (state_or (start_of v Main) r).own) (sym e)

-- a section with a current session changes no own slot
pub keeps_own : (section : Section) → is_own_section section ≡ false → is_start_section section ≡ false
keeps_own Main h = absurd cc
keeps_own Opening h = refl
keeps_own (Upgrading l) h = refl
keeps_own (Calling l) h = refl
keeps_own (Closing l) h = refl
keeps_own (Reacting i) h = absurd cc

own_started : (v : Subject) (section : Section) → is_start_section section ≡ false → own_before v section ≡ own_after v
own_started v Main outside = absurd (false≢true (sym outside))
own_started v Opening outside = refl
own_started v (Upgrading l) outside = refl
own_started v (Calling l) outside = refl
own_started v (Closing l) outside = refl
own_started v (Reacting i) outside = refl

pub own_left : (v : Subject) (section : Section) (end : AbstractState) → is_start_section section ≡ false
    → flow (context v section) (start_of v section) (body v section) ≡ Ok end → end.own ≡ own_after v
own_left v section end outside e = own_stays (context v section) (start_of v section) end (body v section) outside e ∙ own_started v section outside

-- a call leaves the bank as it was
pub bank_called : (v : Subject) (l : ℕ) (end last : AbstractState) → section_end v (Calling l) end ≡ Ok last → end.bank ≡ bank_at v l
bank_called v l end last e =
    let p = top_there end.bounds _ last e in
    let a = must_holds (is_nil p.1) _ _ last p.3 in
    let b = must_holds (nat_le p.0 (number_of v.provided (λ i. i.reply))) _ _ last a.1 in
    kinds_are end.bank (bank_at v l) (must_holds (same_kinds end.bank (bank_at v l)) _ _ last b.1).0

pub then_there : (j : Judged) (go : AbstractState → Judged) (t : AbstractState) → and_then j go ≡ Ok t → (u : AbstractState) × (j ≡ Ok u) × (go u ≡ Ok t)
then_there (Ok u) go t e = (u, refl, e)
then_there (Err rule) go t e = cc

empty_is : (kind : Kind) → is_empty_kind kind ≡ true → kind ≡ Empty_kind
empty_is Empty_kind e = refl
empty_is (Memory form n) e = absurd (false≢true e)
empty_is (Pool_kind n m) e = absurd (false≢true e)
empty_is (Link_kind service level given) e = absurd (false≢true e)

all_empty : (kinds : List Kind) → bank_is_empty kinds ≡ true → kinds ≡ replicate (length kinds) Empty_kind
all_empty [] e = refl
all_empty (kind ∷ kinds) e = let b = and_parts (is_empty_kind kind) (bank_is_empty kinds) e in λ i. empty_is kind b.0 i ∷ all_empty kinds b.1 i

-- BUFFERS

space_is : (n : ℕ) (o : Option Kind) → is_space_kind n o ≡ true → o ≡ Some (Memory Space n)
space_is n None e = absurd (false≢true e)
space_is n (Some Empty_kind) e = absurd (false≢true e)
space_is n (Some (Memory Block m)) e = absurd (false≢true e)
space_is n (Some (Memory Slice m)) e = absurd (false≢true e)
space_is n (Some (Memory Space m)) e = ap (λ k. Some (Memory Space k)) (eqb-true m n e)
space_is n (Some (Pool_kind k m)) e = absurd (false≢true e)
space_is n (Some (Link_kind service level given)) e = absurd (false≢true e)

-- a session with a buffer starts with it
opening_space : (n : ℕ) (s t : AbstractState) → 0 < n → opening_end n s ≡ Ok t → slice_get s.bank 0 ≡ Some (Memory Space n)
opening_space zero s t positive e = absurd (omega (arith, positive))
opening_space (suc n) s t positive e = space_is (suc n) (slice_get s.bank 0) (must_holds (is_space_kind (suc n) (slice_get s.bank 0)) _ _ t e).0

opening_buffer : (v : Subject) (n : ℕ) (end last : AbstractState) → number_of v.provided (λ i. i.buffer) ≡ n → 0 < n → section_end v Opening end ≡ Ok last
    → slice_get end.bank 0 ≡ Some (Memory Space n)
opening_buffer v n end last number positive e =
    let left = then_there (none_left end) (opening_end (number_of v.provided (λ i. i.buffer))) last e in
    let same = (none_left_ok end left.0 left.1).1 in
    let here = subst (λ m. opening_end m left.0 ≡ Ok last) number left.2 in
    subst (λ (u : AbstractState). slice_get u.bank 0 ≡ Some (Memory Space n)) same (opening_space n left.0 last positive here)

opening_never : (l : ℕ) → Opening ≡ Upgrading l → 0 < l
opening_never l e = absurd cc

upgrading_after : (l m : ℕ) → Upgrading (suc l) ≡ Upgrading m → 0 < m
upgrading_after l m e = subst (λ k. 0 < k) (level e) (omega arith)
  where
    level_or : Section → ℕ
    level_or Main = 0
    level_or Opening = 0
    level_or (Upgrading a) = a
    level_or (Calling a) = 0
    level_or (Closing a) = 0
    level_or (Reacting i) = 0

    level : Upgrading (suc l) ≡ Upgrading m → suc l ≡ m
    level f = ap level_or f

-- and keeps it at each level
pub buffer_at : (v : Subject) (i : Interface) (level : ℕ) → program_fault v ≡ None → v.provided ≡ Some i → length i.upgrades ≤ 3 → 0 < i.buffer
    → level ≤ length i.upgrades → slice_get (bank_at v level) 0 ≡ Some (Memory Space i.buffer)
buffer_at v i zero e provided few positive within =
    let there = section_there v i Opening e provided few refl opening_never in
    let f = section_flows v Opening there.0 e there.1 in
    let number : number_of v.provided (λ i. i.buffer) ≡ i.buffer = ap (λ o. number_of o (λ i. i.buffer)) provided in
    ap (λ bank. slice_get bank 0) (sym (bank_opened v f.0 f.2)) ∙ opening_buffer v i.buffer f.0 f.1 number positive f.3
buffer_at v i (suc l) e provided few positive within =
    let there = section_there v i (Upgrading (suc l)) e provided few (le-leb (suc l) (length i.upgrades) within) (upgrading_after l) in
    let f = section_flows v (Upgrading (suc l)) there.0 e there.1 in
    let number : number_of v.provided (λ i. i.buffer) ≡ i.buffer = ap (λ o. number_of o (λ i. i.buffer)) provided in
    let shared : nat_lt 0 (number_of v.provided (λ i. i.buffer)) ≡ true = ap (nat_lt 0) number ∙ lt-ltb 0 i.buffer positive in
    let before = buffer_at v i l e provided few positive (omega (arith, within)) in
    ap (λ bank. slice_get bank 0) (sym (bank_upgraded v l f.0 f.2))
    ∙ buffer_stays (context v (Upgrading (suc l))) (start_of v (Upgrading (suc l))) f.0 i.buffer (body v (Upgrading (suc l))) refl shared before f.2
