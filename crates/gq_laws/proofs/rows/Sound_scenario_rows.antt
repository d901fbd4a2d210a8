-- What is taken for granted of scenarios holds of a worked one, and budgets are met exactly in worked runs. By computation.
use Rattle.std.proofs.Common.{◌≡◌, ◌≤◌, ◌+◌, ℕ, zero, suc, cond, Bool, true, false, List, [], ◌∷◌, length, map, codes, Some, None, refl, ap, sym, ◌∙◌, subst}
use Rattle.std.proofs.Common.{arith}
use Rattle.std.specs.Prelude.{slice_get, slice_index}
use Rattle.gq_model.specs.declared.act.Act.TheVariants.{Turns}
use Rattle.gq_model.specs.machine.Amounts.{Ram}
use Rattle.gq_model.specs.declared.program.OperandSlot.TheVariants.{Own}
use Rattle.gq_model.specs.declared.program.Form.TheVariants.{Space}
use Rattle.gq_model.specs.declared.program.Instruction.TheVariants.{Make}
use Rattle.gq_model.specs.texts.Code.{IsProgram}
use Rattle.gq_model.specs.machine.Program.{text_eq}
use Rattle.gq_model.specs.machine.Scenario.{Interface, Scenario, Component, components, system, interface_in}
use Rattle.gq_model.specs.machine.World.{Leaf, World}
use Rattle.gq_model.specs.machine.Sums.{held, lent}
use Rattle.gq_model.specs.machine.Run.{run}
use Rattle.gq_model.specs.rules.Accept.{Budget, budgets, refusal}
use Rattle.gq_model.proofs.Sample_scenarios.{one, echo, echo_of, echo_turns}
use Rattle.gq_laws.specs.Names.{NamesDiffer}
use Rattle.gq_laws.specs.Sound_scenarios.{IsSound}
use Rattle.gq_model.proofs.Small_facts.{none_some, some_same}

-- A SCENARIO OF A SERVER AND ITS CLIENT

abbrev s : Scenario
s = echo_of 8192

accepted : refusal s ≡ None
accepted = refl

names : map (λ (c : Component). c.node.name) (components s) ≡ codes "srv" ∷ codes "cli" ∷ []
names = refl

name_of : Component → List ℕ
name_of c = c.node.name

other : codes "srv" ≡ codes "cli" → ⊥
other e = let first = ap (λ l. slice_index l 0) e in absurd (omega (arith, first))

differ : NamesDiffer s
unfolding name_of
differ zero zero c d e f same = refl
differ zero (suc zero) c d e f same = absurd (other (ap name_of (some_same e) ∙ (same ∙ sym (ap name_of (some_same f)))))
differ zero (suc (suc y)) c d e f same = absurd (none_some f)
differ (suc zero) zero c d e f same = absurd (other (ap name_of (some_same f) ∙ (sym same ∙ sym (ap name_of (some_same e)))))
differ (suc zero) (suc zero) c d e f same = refl
differ (suc zero) (suc (suc y)) c d e f same = absurd (none_some f)
differ (suc (suc x)) y c d e f same = absurd (none_some e)

programs : (x : ℕ) (c : Component) → slice_get (components s) x ≡ Some c → IsProgram c.node.program
programs zero c e = subst (λ (c : Component). IsProgram c.node.program) (some_same e) refl
programs (suc zero) c e = subst (λ (c : Component). IsProgram c.node.program) (some_same e) refl
programs (suc (suc x)) c e = absurd (none_some e)

no_signals : (x : ℕ) (c : Component) → slice_get (components s) x ≡ Some c → c.node.signals ≤ 3
no_signals zero c e = subst (λ (c : Component). c.node.signals ≤ 3) (some_same e) (omega arith)
no_signals (suc zero) c e = subst (λ (c : Component). c.node.signals ≤ 3) (some_same e) (omega arith)
no_signals (suc (suc x)) c e = absurd (none_some e)

its_interface : (service : List ℕ) (i : Interface) → interface_in service s.interfaces ≡ Some i → i ≡ echo
its_interface service i e = by (text_eq service (codes "echo")) e
  where
    by : (b : Bool) → cond b (Some echo) None ≡ Some i → i ≡ echo
    by true f = sym (some_same f)
    by false f = absurd (none_some f)

-- it is as the readers give scenarios, and accepted: so every run of it keeps what is promised
echo_sound : IsSound s
echo_sound =
    record {
      formed = record {
        differ = differ;
        programs = programs;
        counted = λ service i e. ap (λ (i : Interface). i.counted) (its_interface service i e);
        upgrades = λ service i e. subst (λ (i : Interface). length i.upgrades ≤ 3) (sym (its_interface service i e)) (omega arith);
        signals = no_signals;
      };
      accepted = accepted;
    }

-- BUDGETS THAT ARE MET

-- a space of the whole quantum: what is held, the budget and the quantum are the same 8192 bytes
abbrev whole_quantum : Scenario
whole_quantum = one 65536 8192 (Make Space (Own 0) 8192 ∷ [])

abbrev budget_of_first : Scenario → List (ℕ × ℕ)
budget_of_first s = map (λ (b : Budget). (b.own.ram, b.steps.from_start)) (budgets s)

abbrev held_and_steps : World → List (ℕ × ℕ)
held_and_steps w = map (λ (l : Leaf). (held Ram w 0 l + lent Ram w 0, l.steps)) w.leaves

bytes_met : (refusal whole_quantum ≡ None) × (budget_of_first whole_quantum ≡ (8192, 2) ∷ [])
    × (held_and_steps (run (system whole_quantum) ((0, Turns 1) ∷ [])).world ≡ (8192, 1) ∷ [])
bytes_met = (refl, refl, refl)

-- its two steps are all that its budget has
steps_met : held_and_steps (run (system whole_quantum) ((0, Turns 9) ∷ [])).world ≡ (0, 2) ∷ []
steps_met = refl

-- server and client take just the steps of their budgets
abbrev steps_in : World → List ℕ
steps_in w = map (λ (l : Leaf). l.steps) w.leaves

steps_of_both : map (λ (b : Budget). b.steps.from_start) (budgets s) ≡ steps_in (run (system s) echo_turns).world
steps_of_both = refl
