-- Where all threads have the same, two worlds are at rest together, and then have the same accounts.
use Rattle.std.proofs.Common.{◌≡◌, inl, inr, ℕ, ◌==◌, ◌&&◌, ◌||◌, not, Bool, true, false, cond, List, [], ◌∷◌, replicate, Option, Some, None}
use Rattle.std.proofs.Common.{refl, ap, sym, ◌∙◌, subst, arith}
use Rattle.std.specs.Prelude.{is_some, option_map, slice_get}
use Rattle.std.proofs.lemmas.Bool.{true≢false}
use Rattle.std.proofs.lemmas.Option.{slice_get-map, slice_get_within}
use Rattle.gq_model.specs.declared.phase.Phase.{Phase}
use Rattle.gq_model.specs.declared.phase.Phase.TheVariants.{Pending, Running, Blocked, Serving, Handling, Exited}
use Rattle.gq_model.specs.declared.program.Instruction.{Instruction}
use Rattle.gq_model.specs.machine.Accounts.{accounts, handed_to}
use Rattle.gq_model.specs.machine.Scenario.{Component, Scenario, System, system}
use Rattle.gq_model.specs.machine.Step.{first_signal, is_to, oldest}
use Rattle.gq_model.specs.machine.Sums.{handed}
use Rattle.gq_model.specs.machine.World.{Leaf, Request, World, session_at, start}
use Rattle.gq_model.proofs.Small_facts.{equal_self, none_some, some_same, get_within}
use Rattle.gq_laws.specs.Leaf_phases.{Suits, serves}
use Rattle.gq_laws.specs.Progress.{AllRest, once_taken, rests}
use Rattle.gq_laws.specs.Sound_scenarios.{IsSound}
use Rattle.gq_model.specs.machine.Rest.{can_run}
use Rattle.gq_laws.specs.internal.Uncounted.{uncounted}
use Rattle.gq_laws.specs.internal.Verified_holdings.{HoldsNone}
use Rattle.gq_laws.proofs.progress.No_deadlock.{rest_or_run}
use Rattle.gq_determined.specs.internal.Threads.{among, has_work, is_active, thread_by, who, works, works_for}
use Rattle.gq_determined.proofs.rest_accounts.Merged_thread_worlds as merged
use Rattle.gq_determined.proofs.rest_accounts.Node_accounts_equal.{accounts_same}
use Rattle.gq_determined.proofs.rest_accounts.Rest_account_law.{exited_at_rest, phase_at_rest}
use Rattle.gq_determined.proofs.thread_positions.Turn_thread_position.{IsServing, IsWorking, lives_who, who_is, works_at}
use Rattle.gq_determined.proofs.thread_runs.At_rest.{no_thread}
use Rattle.gq_determined.proofs.thread_runs.Remaining_section_statements.{AreSections, Lefts}
use Rattle.gq_outcomes.proofs.complete.Held_worlds.{AreQuiet, Held, view}
use Rattle.gq_outcomes.proofs.complete.Good_worlds.{placed}
use Rattle.gq_outcomes.proofs.complete.Order_of_requests.{asked_of, oldest_roots, oldest_some, roots_in, roots_to}
use Rattle.gq_outcomes.proofs.complete.Alike_held.{AreOne, IsGood, asked_same}
use Rattle.gq_outcomes.proofs.complete.Unsubmitted_signals.{works_as}
use Rattle.gq_model.specs.machine.Step_budgets.{StepBudget, all_steps_in}
use Rattle.gq_determined.proofs.rest_accounts.Step_budgets_same.{budgets_same, signals_in}
use Rattle.gq_determined.proofs.thread_steps.Signal_flags.{signals_at, since_none}

left_true : (a b : Bool) → (a && b) ≡ true → a ≡ true
left_true true b e = refl
left_true false b e = absurd (true≢false (sym e))

at_work : (p : Phase) (w : World) (x : ℕ) (l : Leaf) → rests w x l p ≡ true → is_active p ≡ true → ⊥
at_work Pending w x l e f = true≢false (sym e)
at_work Running w x l e f = true≢false (sym e)
at_work Blocked w x l e f = true≢false (sym e)
at_work Handling w x l e f = true≢false (sym e)
at_work Serving w x l e f = true≢false (sym f)
at_work Exited w x l e f = true≢false (sym f)

none_asks : {A : Type 0} (o : Option A) (a : A) → o ≡ Some a → not (is_some o) ≡ true → ⊥
none_asks None a e f = none_some e
none_asks (Some b) a e f = true≢false (sym f)

-- a server at rest is not asked
not_asked : (p : Phase) (w : World) (x : ℕ) (l : Leaf) (provides : Option (List ℕ)) (n : ℕ) → rests w x l p ≡ true → Suits provides n p
    → serves provides n ≡ true → not (is_some (oldest w x w.requests)) ≡ true
not_asked Serving w x l provides n e s some = neither (is_some (first_signal l.signals)) (is_some (oldest w x w.requests)) e
  where
    neither : (a b : Bool) → not (a || b) ≡ true → not b ≡ true
    neither false b e = e
    neither true b e = absurd (true≢false (sym e))
not_asked Exited w x l provides n e s some = absurd (true≢false (sym some ∙ s))
not_asked Pending w x l provides n e s some = absurd (true≢false (sym e))
not_asked Running w x l provides n e s some = absurd (true≢false (sym e))
not_asked Blocked w x l provides n e s some = absurd (true≢false (sym e))
not_asked Handling w x l provides n e s some = absurd (true≢false (sym e))

-- whoever is asked for is among those of a thread
module _ (root : ℕ → ℕ) (w : World) (x : ℕ) where
  few_asks : (i : ℕ) (rs : List Request) → roots_in root w x rs ≡ [] → roots_in root w x (among root i rs) ≡ []
  few_asks i [] e = refl
  few_asks i (r ∷ rs) e = by (is_to x (session_at w r.session)) refl e (few_asks i rs)
    where
      by : (a : Bool) → is_to x (session_at w r.session) ≡ a → cond a (root r.session ∷ roots_in root w x rs) (roots_in root w x rs) ≡ []
          → (roots_in root w x rs ≡ [] → roots_in root w x (among root i rs) ≡ [])
          → roots_in root w x (cond (root r.session == i) (r ∷ among root i rs) (among root i rs)) ≡ []
      by true f g less = absurd (cons_none g)
        where
          cons_none : root r.session ∷ roots_in root w x rs ≡ [] → ⊥
          cons_none e = cc
      by false f g less = of (root r.session == i)
        where
          of : (b : Bool) → roots_in root w x (cond b (r ∷ among root i rs) (among root i rs)) ≡ []
          of true = ap (λ a. cond a (root r.session ∷ roots_in root w x (among root i rs)) (roots_in root w x (among root i rs))) f ∙ less g
          of false = less g

  pub some_asks : (i : ℕ) (rest : List ℕ) (rs : List Request) → roots_in root w x rs ≡ i ∷ rest → roots_in root w x (among root i rs) ≡ [] → ⊥
  some_asks i rest [] e f = nil_cons e
    where
      nil_cons : [] ≡ i ∷ rest → ⊥
      nil_cons e = cc
  some_asks i rest (r ∷ rs) e f = by (is_to x (session_at w r.session)) refl e (some_asks i rest rs) f
    where
      by : (a : Bool) → is_to x (session_at w r.session) ≡ a → cond a (root r.session ∷ roots_in root w x rs) (roots_in root w x rs) ≡ i ∷ rest
          → (roots_in root w x rs ≡ i ∷ rest → roots_in root w x (among root i rs) ≡ [] → ⊥)
          → roots_in root w x (cond (root r.session == i) (r ∷ among root i rs) (among root i rs)) ≡ [] → ⊥
      by true g e less f = no
          (sym (ap (λ a. cond a (root r.session ∷ roots_in root w x (among root i rs)) (roots_in root w x (among root i rs))) g)
          ∙ ap (λ b. roots_in root w x (cond b (r ∷ among root i rs) (among root i rs))) (sym is) ∙ f)
        where
          head : root r.session ∷ roots_in root w x rs ≡ i ∷ rest → root r.session ≡ i
          head e = cc

          is : (root r.session == i) ≡ true
          is = ap (λ n. n == i) (head e) ∙ equal_self i

          no : root r.session ∷ roots_in root w x (among root i rs) ≡ [] → ⊥
          no e = cc
      by false g e less f = of (root r.session == i) f
        where
          of : (b : Bool) → roots_in root w x (cond b (r ∷ among root i rs) (among root i rs)) ≡ [] → ⊥
          of true f = less e (sym (ap (λ a. cond a (root r.session ∷ roots_in root w x (among root i rs)) (roots_in root w x (among root i rs))) g) ∙ f)
          of false f = less e f

module _ (s : Scenario) (sound : IsSound s) (holds : ℕ → Bool) (P : ℕ → Component → Bool → Instruction → Type 0)
    (sections : AreSections P (uncounted (system s))) (quiet_of : (w : World) → Lefts P (uncounted (system s)) w → AreQuiet holds w) where
  abbrev u : System
  u = uncounted (system s)

  abbrev real : System
  real = system s

  abbrev G : Held → Type 0
  G m = IsGood s sound holds P sections quiet_of m

  -- a leaf that can run does so for a thread
  pub who_runs : (m : Held) (x : ℕ) → can_run real m.world x ≡ true → (i : ℕ) × (who (view m) x ≡ Some i)
  who_runs m x can = by (who (view m) x) refl
    where
      by : (o : Option ℕ) → who (view m) x ≡ o → (i : ℕ) × (who (view m) x ≡ Some i)
      by (Some i) e = (i, e)
      by None e = absurd (true≢false (sym can ∙ no_thread (view m) x (slice_get real.components x) e))

  -- the budgets of steps are the same in all worlds, since no signal is taken
  pub steps_one : (m n : Held) → G m → G n → (budgets : List StepBudget) → all_steps_in n.world budgets ≡ all_steps_in m.world budgets
  steps_one m n h g budgets = budgets_same m.world n.world (λ y. by y (slice_get n.world.leaves y) (slice_get m.world.leaves y) refl refl) budgets
    where
      as_first : (a : Held) → G a → (y : ℕ) (l : Leaf) → slice_get a.world.leaves y ≡ Some l → l.signals ≡ once_taken (signals_at (start u) y)
      as_first a b y l at = since_none (signals_at (start u) y) l.signals (b.since.at y l at) (b.held.calm.none y l at)

      there : (a b : Held) → G a → G b → (y : ℕ) (l : Leaf) → slice_get a.world.leaves y ≡ Some l → (k : Leaf) × (slice_get b.world.leaves y ≡ Some k)
      there a b ga gb y l at =
          let c = placed s sound holds P sections quiet_of a ga y l at in
          let below = slice_get_within u.components y c.0 c.1 in
          let count = gb.lasts.stands.whole.count in get_within b.world.leaves y (omega (arith, below, count))

      by : (y : ℕ) (p q : Option Leaf) → slice_get n.world.leaves y ≡ p → slice_get m.world.leaves y ≡ q → option_map signals_in p ≡ option_map signals_in q
      by y None None at_n at = refl
      by y (Some k) None at_n at = let a = there n m g h y k at_n in absurd (none_some (sym at ∙ a.1))
      by y None (Some l) at_n at = let a = there m n h g y l at in absurd (none_some (sym at_n ∙ a.1))
      by y (Some k) (Some l) at_n at = ap Some (as_first n g y k at_n ∙ sym (as_first m h y l at))

  module _ (m n : Held) (h : G m) (g : G n) (o : AreOne s sound holds P sections quiet_of m n) where
    leaf_m : (z : ℕ) (l : Leaf) → slice_get n.world.leaves z ≡ Some l → (k : Leaf) × (slice_get m.world.leaves z ≡ Some k)
    leaf_m z l at =
        let a = placed s sound holds P sections quiet_of n g z l at in
        let below = slice_get_within u.components z a.0 a.1 in
        let count = h.lasts.stands.whole.count in
        let k = get_within m.world.leaves z (omega (arith, below, count)) in (k.0, k.1)

    module _ (rest : AllRest m.world) where
      no_work : (j x : ℕ) → IsWorking (view n) j x → who (view n) x ≡ Some j → ⊥
      no_work j x w is =
          let t = o.same j (o.back j (lives_who u (view n) g.held.placed j x is)) in
          by (slice_get m.world.leaves x) refl (t.leaves x ∙ works_at (view n) j x w.at)
        where
          by : (p : Option Leaf) → slice_get m.world.leaves x ≡ p → works (view m) j x ≡ true → ⊥
          by None e f = true≢false (sym f ∙ ap (works_for (view m).root j x) e)
          by (Some l) e f =
              at_work l.phase m.world x l (rest x l e) (sym (works_as l (h.held.calm.none x l e))
              ∙ left_true (has_work l.phase (first_signal l.signals)) (thread_by (view m).root x l.current == j)
              (sym (ap (works_for (view m).root j x) e) ∙ f))

      no_serving : (j x : ℕ) → IsServing (view n) j x → who (view n) x ≡ Some j → ⊥
      no_serving j x p is =
          let k = leaf_m x p.leaf p.there in
          let c = placed s sound holds P sections quiet_of n g x p.leaf p.there in
          let serving = subst (Suits c.0.node.provides c.0.node.signals) p.serves (g.lasts.ready.suits x c.0 p.leaf c.1 p.there) in
          by (roots_to m x) refl (not_asked k.0.phase m.world x k.0 c.0.node.provides c.0.node.signals (rest x k.0 k.1)
          (h.lasts.ready.suits x c.0 k.0 c.1 k.1) serving)
        where
          same : asked_of m j x ≡ asked_of n j x
          same = asked_same s sound holds P sections quiet_of m n h j x (o.same j (o.back j (lives_who u (view n) g.held.placed j x is)))

          first : roots_to n x ≡ j ∷ roots_in (view n).root n.world x p.taken.1
          first = (oldest_roots (view n).root n.world x n.world.requests p.taken p.found).0 ∙ ap (λ i. i ∷ roots_in (view n).root n.world x p.taken.1) p.root

          by : (l : List ℕ) → roots_to m x ≡ l → not (is_some (oldest m.world x m.world.requests)) ≡ true → ⊥
          by [] e still =
              some_asks (view n).root n.world x j (roots_in (view n).root n.world x p.taken.1) n.world.requests first
              (sym same ∙ few_asks (view m).root m.world x j m.world.requests e)
          by (a ∷ l) e still =
              let f = oldest_some (view m).root m.world x m.world.requests a l e in none_asks (oldest m.world x m.world.requests) f.0 f.1 still

      -- the other is at rest, too
      pub rest_one : AllRest n.world
      rest_one = elim (rest_or_run s n.world g.lasts) [
        | inl r ↦ r
        | inr r ↦
            let i = who_runs n r.0 r.1 in
            elim (who_is (view n) i.0 r.0 i.1) [
              | inl w ↦ absurd (no_work i.0 r.0 w i.1)
              | inr p ↦ absurd (no_serving i.0 r.0 p i.1)
            ]
      ]

      phases : (y : ℕ) (l k : Leaf) → slice_get m.world.leaves y ≡ Some l → slice_get n.world.leaves y ≡ Some k → k.phase ≡ l.phase
      phases y l k at at_n =
          let c = placed s sound holds P sections quiet_of m h y l at in
          phase_at_rest m.world n.world y y l k c.0.node.provides c.0.node.signals l.phase k.phase (rest y l at) (rest_one y k at_n)
          (h.lasts.ready.suits y c.0 l c.1 at)
          (g.lasts.ready.suits y c.0 k c.1 at_n)

      gone : (a : Held) (b : G a) (y : ℕ) (c : Component) (k : Leaf) → AllRest a.world → slice_get u.components y ≡ Some c → slice_get a.world.leaves y ≡ Some k
          → serves c.node.provides c.node.signals ≡ false → k.peaks ≡ replicate 8 0
      gone a b y c k still at_c at nothing =
          let phase = exited_at_rest a.world y k c.node.provides c.node.signals k.phase (still y k at) nothing (b.lasts.ready.suits y c k at_c at) in
          (subst (HoldsNone k) phase (b.lasts.stands.held.leaves y c k at_c at).none).1

      peaks : (y : ℕ) (l k : Leaf) → slice_get m.world.leaves y ≡ Some l → slice_get n.world.leaves y ≡ Some k → k.peaks ≡ l.peaks
      peaks y l k at at_n = by (serves c.0.node.provides c.0.node.signals) refl
        where
          c : (c : Component) × (slice_get u.components y ≡ Some c)
          c = placed s sound holds P sections quiet_of m h y l at

          by : (b : Bool) → serves c.0.node.provides c.0.node.signals ≡ b → k.peaks ≡ l.peaks
          by true e =
              sym (o.peaks y (λ d found. ap (λ (k : Component). serves k.node.provides k.node.signals) (some_same (sym found ∙ c.1)) ∙ e) l k at at_n)
          by false e = gone n g y c.0 k rest_one c.1 at_n e ∙ sym (gone m h y c.0 l rest c.1 at e)

      steps : (y : ℕ) (l k : Leaf) → slice_get m.world.leaves y ≡ Some l → slice_get n.world.leaves y ≡ Some k → k.steps ≡ l.steps
      steps y l k at at_n = some_same (
          sym (slice_get-map (λ (l : Leaf). l.steps) n.world.leaves y ∙ ap (option_map (λ (l : Leaf). l.steps)) at_n)
          ∙ (ap (λ l. slice_get l y) (sym o.steps)
          ∙ (slice_get-map (λ (l : Leaf). l.steps) m.world.leaves y ∙ ap (option_map (λ (l : Leaf). l.steps)) at)))

      handed_one : (y quantum : ℕ) → handed_to (slice_get n.world.leaves y) quantum ≡ handed_to (slice_get m.world.leaves y) quantum
      handed_one y quantum = by (slice_get m.world.leaves y) (slice_get n.world.leaves y) refl refl
        where
          by : (p q : Option Leaf) → slice_get m.world.leaves y ≡ p → slice_get n.world.leaves y ≡ q → handed_to q quantum ≡ handed_to p quantum
          by None None at at_n = refl
          by None (Some k) at at_n = let a = leaf_m y k at_n in absurd (none_some (sym at ∙ a.1))
          by (Some l) None at at_n =
              let a = placed s sound holds P sections quiet_of m h y l at in
              let below = slice_get_within u.components y a.0 a.1 in
              let count = g.lasts.stands.whole.count in
              let k = get_within n.world.leaves y (omega (arith, below, count)) in absurd (none_some (sym at_n ∙ k.1))
          by (Some l) (Some k) at at_n = ap (λ p. handed p quantum) (phases y l k at at_n)

      pub accounts_one : (budgets : List ℕ) → accounts s n.world budgets ≡ accounts s m.world budgets
      accounts_one budgets =
          accounts_same s budgets m.world n.world
          (λ version y budget. merged.account_same u (view m) (view n) h.held.placed g.held.placed h.held.whole o.same o.back
          (record { phases = phases; steps = steps; peaks = peaks }) version budget y (slice_get (system s).components y)) handed_one
