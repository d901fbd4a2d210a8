-- How `main` starts, ends, and what is measured in it.
use Rattle.std.proofs.Common.{◌≡◌, ℕ, suc, ◌+◌, Result, arith, List, [], replicate, refl, ap, sym, ◌∙◌, Option}
use Rattle.std.proofs.Common.{Some, None, Ok, Err}
use Rattle.gq_model.specs.machine.Lists.{greatest}
use Rattle.gq_model.specs.declared.fault.Rule.{Rule}
use Rattle.gq_model.specs.declared.section.Section.TheVariants.{Main}
use Rattle.gq_model.specs.rules.Rules.{Judged}
use Rattle.gq_model.specs.machine.Program.{Statements, size, section_in, body_of}
use Rattle.gq_model.specs.rules.Kinds.{AbstractState, Subject, own_empty}
use Rattle.gq_model.specs.rules.Flow.{Flowed, flow_then, flow, points, at, state_or, section_end, context, body, start_of, own_after, section_flow}
use Rattle.gq_model.specs.rules.Verdict.{fault_of, cost_fault, program_fault}
use Rattle.gq_caps.specs.Known.{all_known}
use Rattle.gq_caps.specs.Measured.{total_of}
use Rattle.gq_caps.specs.declared.kind.Kind.{Kind}
use Rattle.gq_caps.specs.declared.kind.Kind.TheVariants.{Empty}
use Rattle.gq_caps.specs.declared.totals.Measure.{Measure}
use Rattle.gq_caps.specs.declared.totals.Totals.{Totals}
use Rattle.gq_rules.specs.List_maxima.{measure_of, Peaks}
use Rattle.gq_verify.specs.internal.Mains.{IsMost, MostWhereRight}
use Rattle.gq_rules.specs.declared.broken.Broken.{Broken}
use Rattle.gq_rules.specs.Flowing.{flowed}
use Rattle.gq_verify.specs.internal.Mains.{MainAnswers}
use Rattle.gq_model.proofs.Rules_laws.{section_flows}

abbrev state_with : List Kind → List Kind → AbstractState
state_with own bank = record { own = all_known own; bank = all_known bank; bounds = [] }

-- `main` starts with no slot in use
pub start_is : (v : Subject) (own bank : List Kind) (s : AbstractState) → own ≡ replicate 64 Empty → bank ≡ replicate 8 Empty →
    s ≡ record { own = all_known own; bank = all_known bank; bounds = [] } → s ≡ start_of v Main
start_is v own bank s a b e = e ∙ (ap (λ (o : List Kind). state_with o bank) a ∙ ap (λ (b : List Kind). state_with (replicate 64 Empty) b) b)

abbrev main_flow : Subject → AbstractState → Flowed
main_flow v s = flow (context v Main) s (body v Main)

-- where it breaks no rule its slots are left as they are at its end
pub main_own : (v : Subject) (s t : AbstractState) → s ≡ start_of v Main → Ok t ≡ flow (context v Main) s (body v Main) → t.own ≡ own_after v
main_own v s t h e = ap (λ (x : Flowed). (state_or (start_of v Main) x).own) (e ∙ ap (main_flow v) h)

-- and else as they were
pub main_stuck : (v : Subject) (s : AbstractState) (f : Rule × ℕ) → s ≡ start_of v Main → Err f ≡ flow (context v Main) s (body v Main) → own_empty ≡ own_after
    v
main_stuck v s f h e = ap (λ (x : Flowed). (state_or (start_of v Main) x).own) (e ∙ ap (main_flow v) h)

pub main_most : (v : Subject) (s : AbstractState) (p q : Totals) → s ≡ start_of v Main → ((m : Measure) → total_of q m ≡ 0) →
    Peaks p q (points (context v Main) s (body v Main)) → IsMost v p
main_most v s p q h z e m =
    let g = ap (λ (s : AbstractState). greatest (measure_of m) (points (context v Main) s (body v Main))) h in omega (arith, z m, e m, g)

both_ways : (x : Flowed) (f : Rule × ℕ) (t : AbstractState) (A : Type 0) → Err f ≡ x → x ≡ Ok t → A
both_ways (Ok s) f t A e h = cc
both_ways (Err g) f t A e h = cc

pub main_never : (v : Subject) (s : AbstractState) (f : Rule × ℕ) (p : Totals) → s ≡ start_of v Main → Err f ≡ flow (context v Main) s (body v Main) →
    MostWhereRight v p
main_never v s f p h e t ok = both_ways (main_flow v (start_of v Main)) f t (IsMost v p) (e ∙ ap (main_flow v) h) ok

abbrev at_end : Subject → AbstractState → Flowed
at_end v t = at (suc (size (body v Main))) (section_end v Main t)

-- at the end of `main` its last rules are judged
pub main_answers : (v : Subject) (s t : AbstractState) (r : Result (Unit {0}) Broken) (j : Judged) (n : ℕ) → s ≡ start_of v Main →
    Ok t ≡ flow (context v Main) s (body v Main) → n ≡ size (body v Main) → flowed r t ≡ at (n + 1) j → j ≡ section_end v Main t → MainAnswers v r
main_answers v s t r j n h e size_is a b =
    let x = e ∙ ap (main_flow v) h in
    let y = ap (λ (y : Flowed). flow_then y (at_end v)) x in
    let m : n + 1 ≡ suc (size (body v Main)) = omega (arith, size_is) in
    (t, a ∙ (ap (at (n + 1)) b ∙ (ap (λ (m : ℕ). at m (section_end v Main t)) m ∙ y)))

pub main_breaks : (v : Subject) (s : AbstractState) (b : Broken) → s ≡ start_of v Main → Err (b.rule, b.place) ≡ flow (context v Main) s (body v Main) →
    MainAnswers v (Err b)
main_breaks v s b h e = (s, ap (λ (y : Flowed). flow_then y (at_end v)) (e ∙ ap (main_flow v) h))

-- WHERE THERE IS NO FAULT

body_ok : (v : Subject) (x : Option Statements) → section_in Main v.program.sections ≡ x →
    ((b : Statements) → x ≡ Some b → (s : AbstractState) × (flow (context v Main) (start_of v Main) (body v Main) ≡ Ok s)) →
    (s : AbstractState) × (flow (context v Main) (start_of v Main) (body v Main) ≡ Ok s)
body_ok v None is go = (start_of v Main, ap (λ (x : Option Statements). flow (context v Main) (start_of v Main) (body_of x)) is)
body_ok v (Some b) is go = go b refl

-- so what was measured is the most
pub most_is : (v : Subject) (p : Totals) → program_fault v ≡ None → MostWhereRight v p → IsMost v p
most_is v p e h =
    let q = body_ok v (section_in Main v.program.sections) refl (λ b is. (let f = section_flows v Main b e is in (f.0, f.2))) in h q.0 q.1

-- so the fault of `main` is known
pub main_ok_fault : (v : Subject) (b : Statements) (r : Result (Unit {0}) Broken) (u : Unit {0}) → MainAnswers v r → r ≡ Ok u →
    cost_fault Main b ≡ fault_of Main b (section_flow v Main)
main_ok_fault v b r u q is = ap (fault_of Main b) (ap (λ (r : Result (Unit {0}) Broken). flowed r q.0) (sym is) ∙ q.1)

pub main_err_fault : (v : Subject) (b : Statements) (r : Result (Unit {0}) Broken) (k : Broken) → MainAnswers v r → r ≡ Err k →
    Some (record { rule = k.rule; section = Main; place = k.place }) ≡ fault_of Main b (section_flow v Main)
main_err_fault v b r k q is = ap (fault_of Main b) (ap (λ (r : Result (Unit {0}) Broken). flowed r q.0) (sym is) ∙ q.1)
