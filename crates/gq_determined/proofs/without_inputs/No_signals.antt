-- Where no section is one that a signal begins, no leaf has a signal, and none can be submitted.
use Rattle.std.proofs.Common.{◌≡◌, ◌<◌, ℕ, zero, suc, inl, inr, false, cond, List, [], ◌∷◌, ◌++◌, Option, Some, None, Ok, refl, ap}
use Rattle.std.proofs.Common.{sym, ◌∙◌, subst, arith}
use Rattle.std.specs.Prelude.{replicate, slice_get, slice_set}
use Rattle.gq_model.specs.declared.section.Section.{Section}
use Rattle.gq_model.specs.declared.section.Section.TheVariants.{Main, Opening, Upgrading, Calling, Closing, Reacting}
use Rattle.gq_model.specs.machine.Doing.{Event}
use Rattle.gq_model.specs.machine.Program.{Statements, section_in}
use Rattle.gq_model.specs.machine.Run.{set_input, submit, submit_in, signals_with}
use Rattle.gq_model.specs.machine.Scenario.{Component, Scenario, System, system}
use Rattle.gq_model.specs.machine.Sections.{same_section}
use Rattle.gq_model.specs.machine.Step.{next}
use Rattle.gq_model.specs.machine.World.{Signal, Leaf, World, start_leaves, start, with_leaf}
use Rattle.gq_model.specs.rules.Use.{subject}
use Rattle.gq_model.proofs.Small_facts.{none_some, some_same}
use Rattle.gq_laws.specs.Sound_scenarios.{IsSound}
use Rattle.gq_laws.proofs.input_settings.Setting_keeps_invariants.{of_setting}
use Rattle.gq_laws.proofs.verified_programs.Accepted_program_facts.{reacting_there}
use Rattle.gq_laws.proofs.verified_programs.Sound_systems.{sure_of}
use Rattle.gq_races.specs.Races.{IsSignalFree, Reaction, is_reaction, reactions_from, reactions_in}
use Rattle.gq_determined.proofs.thread_runs.Remaining_section_statements.{set_get}
use Rattle.gq_determined.proofs.thread_steps.Signal_flags.{AreSince, IsSince, since_next}

-- PROGRAMS

none_left : {A : Type 0} (a b : List A) → a ++ b ≡ [] → a ≡ []
none_left [] b e = refl
none_left (x ∷ a) b e = absurd cc

none_right : {A : Type 0} (a b : List A) → a ++ b ≡ [] → b ≡ []
none_right [] b e = e
none_right (x ∷ a) b e = absurd cc

of_leaf : (cs : List Component) (x : ℕ) (c : Component) → reactions_from cs ≡ [] → slice_get cs x ≡ Some c → reactions_in c.label c.node.program.sections ≡ []
of_leaf [] x c e at = absurd (none_some at)
of_leaf (d ∷ cs) zero c e at =
    subst (λ (c : Component). reactions_in c.label c.node.program.sections ≡ []) (some_same at)
    (none_left (reactions_in d.label d.node.program.sections) (reactions_from cs) e)
of_leaf (d ∷ cs) (suc x) c e at = of_leaf cs x c (none_right (reactions_in d.label d.node.program.sections) (reactions_from cs) e) at

no_section : (leaf : List ℕ) (i : ℕ) (sections : List (Section × Statements)) → reactions_in leaf sections ≡ [] → section_in (Reacting i) sections ≡ None
no_section leaf i [] e = refl
no_section leaf i (p ∷ rest) e =
    ap (λ b. cond b (Some p.1) (section_in (Reacting i) rest)) (unlike p.0 (none_left _ _ e))
    ∙ no_section leaf i rest (none_right (cond (is_reaction p.0) _ []) (reactions_in leaf rest) e)
  where
    unlike : (s : Section) → cond {A = List Reaction} (is_reaction s) (record { leaf = leaf; section = s } ∷ []) [] ≡ [] → same_section (Reacting i) s ≡ false
    unlike (Reacting j) e = absurd cc
    unlike Main e = refl
    unlike Opening e = refl
    unlike (Upgrading l) e = refl
    unlike (Calling l) e = refl
    unlike (Closing l) e = refl

-- each accepted program has a section for each signal of its leaf
pub no_signals : (s : Scenario) → IsSound s → IsSignalFree s → (x : ℕ) (c : Component) → slice_get (system s).components x ≡ Some c → c.node.signals ≡ 0
no_signals s sound still x c at = by c.node.signals refl
  where
    by : (n : ℕ) → c.node.signals ≡ n → c.node.signals ≡ 0
    by zero e = e
    by (suc n) e =
        let sure = sure_of s sound in
        let some : 0 < c.node.signals = omega (arith, e) in
        let there = reacting_there (subject (system s) c) 0 (sure.faultless x c at) (sure.signals x c at) some in
        let none = no_section c.label 0 c.node.program.sections (of_leaf (system s).components x c still at) in
        absurd (none_some (sym none ∙ there.1))

-- WORLDS

-- no leaf has a signal
abbrev pub IsStill : World → Type 0
IsStill = AreSince (λ y. [])

nothing : (l : Leaf) → IsSince [] l.signals → l.signals ≡ []
nothing l h = by l.signals h
  where
    by : (s : List Signal) → IsSince [] s → s ≡ []
    by [] h = refl
    by (t ∷ s) h = absurd h

pub still_start : (s : Scenario) → IsSound s → IsSignalFree s → IsStill (start (system s))
still_start s sound still = record { at = λ y l at. started (system s).components y l (λ c there. no_signals s sound still y c there) at }
  where
    started : (cs : List Component) (y : ℕ) (l : Leaf) → ((c : Component) → slice_get cs y ≡ Some c → c.node.signals ≡ 0)
        → slice_get (start_leaves cs) y ≡ Some l → IsSince [] l.signals
    started [] y l none e = absurd (none_some e)
    started (c ∷ cs) zero l none e =
        subst (λ (l : Leaf). IsSince [] l.signals) (some_same e) (subst (λ n. IsSince [] (replicate n (record { submitted = false; taken = 0 })))
        (sym (none c refl)) tt)
    started (c ∷ cs) (suc y) l none e = started cs y l none e

pub still_next : (system : System) (w : World) (x : ℕ) (new : World) (event : Event) → IsStill w → next system w x ≡ Ok (new, event) → IsStill new
still_next = since_next (λ y. [])

pub still_set : (system : System) (w : World) (x i n : ℕ) → IsStill w → IsStill (set_input system w x i n)
still_set system w x i n h =
    of_setting system IsStill w x i n (λ leaf inputs there. record {
      at = λ y l at. elim (set_get w.leaves x y (record leaf { inputs = inputs }) l at) [
        | inl e ↦ subst (λ (l : Leaf). IsSince [] l.signals) e.1 (h.at x leaf there)
        | inr e ↦ h.at y l e
      ];
    }) h

-- so nothing is submitted
put_itself : (leaves : List Leaf) (x : ℕ) (leaf : Leaf) → slice_get leaves x ≡ Some leaf → slice_set leaves x leaf ≡ leaves
put_itself [] x leaf e = refl
put_itself (l ∷ leaves) zero leaf e = ap (λ l. l ∷ leaves) (sym (some_same e))
put_itself (l ∷ leaves) (suc x) leaf e = ap (λ t. l ∷ t) (put_itself leaves x leaf e)

pub submits_none : (w : World) (x i : ℕ) → IsStill w → submit w x i ≡ w
submits_none w x i h = by (slice_get w.leaves x) refl
  where
    by : (o : Option Leaf) → slice_get w.leaves x ≡ o → submit_in w x i o ≡ w
    by None e = refl
    by (Some leaf) e =
        let none = nothing leaf (h.at x leaf e) in
        ap (λ s. with_leaf w x (record leaf { signals = s })) (ap (λ s. signals_with s i) none ∙ sym none)
        ∙ ap (λ (l : List Leaf). record w { leaves = l }) (put_itself w.leaves x leaf e)
