-- Leaves at choices, and leaves that can take other turns, one leaf after the other.
use Rattle.std.proofs.Common.{◌≡◌, ℕ, zero, suc, ◌+◌, ◌<◌, ◌≤◌, Bool, true, false, ◌||◌, List, [], ◌∷◌, ◌++◌, length, drop, map, get_or, refl, ap, sym, ◌∙◌}
use Rattle.std.proofs.Common.{subst, append_assoc, append-nil, arith}
use Rattle.std.specs.Prelude.{if◌then◌else◌, Some, slice_get}
use Rattle.gq_model.specs.machine.Program.{Program}
use Rattle.gq_model.specs.machine.Routes.{server_of}
use Rattle.gq_model.specs.machine.Scenario.{Component, System}
use Rattle.gq_model.specs.machine.World.{World}
use Rattle.gq_model.proofs.Small_facts.{none_some, some_same}
use Rattle.gq_outcomes.specs.Choices.{can_settle, choices_from, is_at_choice, some_settle}
use Rattle.gq_outcomes.specs.declared.asks.SectionAsks.{SectionAsks}
use Rattle.gq_outcomes.specs.internal.Asks.{AreOfSections}

-- THE REST OF A LIST

pub none_left : (cs : List Component) (k : ℕ) → length cs ≤ k → drop k cs ≡ []
none_left [] zero l = refl
none_left [] (suc k) l = refl
none_left (c ∷ cs) zero l = absurd (omega (arith, l))
none_left (c ∷ cs) (suc k) l = none_left cs k (omega (arith, l))

record Here (cs : List Component) (k : ℕ) : Type 0 where
  component : Component
  rest : drop k cs ≡ component ∷ drop (k + 1) cs

here : (cs : List Component) (k : ℕ) → k < length cs → Here cs k
here [] k l = absurd (omega (arith, l))
here (c ∷ cs) zero l = record { component = c; rest = refl }
here (c ∷ cs) (suc k) l =
    let h = here cs k (omega (arith, l)) in
    let on : suc (k + 1) ≡ suc k + 1 = omega arith in record { component = h.component; rest = h.rest ∙ ap (λ n. h.component ∷ drop n (c ∷ cs)) on }

module _ (s : System) (racy : List Bool) (w : World) (cs : List Component) where
  -- LEAVES AT CHOICES

  abbrev rest_from : ℕ → List ℕ
  rest_from k = choices_from s racy w k (drop k cs)

  next_choice : (k : ℕ) (b : Bool) → k < length cs → is_at_choice s racy w k ≡ b → rest_from k ≡ (if b then k ∷ rest_from (k + 1) else rest_from (k + 1))
  next_choice k b l e =
      let h = here cs k l in
      let on : suc k ≡ k + 1 = omega arith in
      ap (λ cs. choices_from s racy w k cs) h.rest
      ∙ ap (λ b. if b then k ∷ choices_from s racy w (suc k) (drop (k + 1) cs) else choices_from s racy w (suc k) (drop (k + 1) cs)) e
      ∙ ap (λ n. if b then k ∷ choices_from s racy w n (drop (k + 1) cs) else choices_from s racy w n (drop (k + 1) cs)) on

  pub choice_here : (k : ℕ) (old new all : List ℕ) → k < length cs → is_at_choice s racy w k ≡ true → new ≡ old ++ k ∷ []
      → old ++ choices_from s racy w k (drop k cs) ≡ all → new ++ choices_from s racy w (k + 1) (drop (k + 1) cs) ≡ all
  choice_here k old new all l e pushed so_far =
      ap (λ n. n ++ rest_from (k + 1)) pushed ∙ append_assoc old (k ∷ []) (rest_from (k + 1)) ∙ ap (λ r. old ++ r) (sym (next_choice k true l e)) ∙ so_far

  pub choice_past : (k : ℕ) (old all : List ℕ) → k < length cs → is_at_choice s racy w k ≡ false → old ++ choices_from s racy w k (drop k cs) ≡ all
      → old ++ choices_from s racy w (k + 1) (drop (k + 1) cs) ≡ all
  choice_past k old all l e so_far = ap (λ r. old ++ r) (sym (next_choice k false l e)) ∙ so_far

  pub choices_all : (k : ℕ) (old all : List ℕ) → length cs ≤ k → old ++ choices_from s racy w k (drop k cs) ≡ all → old ≡ all
  choices_all k old all l so_far =
      sym (append-nil old) ∙ ap (λ r. old ++ choices_from s racy w k r) (sym (none_left cs k l)) ∙ so_far

  -- OTHER TURNS

  next_settle : (k : ℕ) (b : Bool) → k < length cs → can_settle s racy w k ≡ b
      → some_settle s racy w k (drop k cs) ≡ (b || some_settle s racy w (k + 1) (drop (k + 1) cs))
  next_settle k b l e =
      let h = here cs k l in
      let on : suc k ≡ k + 1 = omega arith in
      ap (λ cs. some_settle s racy w k cs) h.rest
      ∙ ap (λ b. b || some_settle s racy w (suc k) (drop (k + 1) cs)) e
      ∙ ap (λ n. b || some_settle s racy w n (drop (k + 1) cs)) on

  pub settle_here : (k : ℕ) → k < length cs → can_settle s racy w k ≡ true → some_settle s racy w k (drop k cs) ≡ true
  settle_here k l e = next_settle k true l e

  pub settle_past : (k : ℕ) → k < length cs → can_settle s racy w k ≡ false
      → some_settle s racy w k (drop k cs) ≡ some_settle s racy w (k + 1) (drop (k + 1) cs)
  settle_past k l e = next_settle k false l e

  pub settle_none : (k : ℕ) → length cs ≤ k → some_settle s racy w k (drop k cs) ≡ false
  settle_none k l = ap (λ cs. some_settle s racy w k cs) (none_left cs k l)

-- TABLES

pub count_put : {A : Type 0} (old new : List A) (a : A) (n : ℕ) → new ≡ old ++ a ∷ [] → length old ≡ n → length new ≡ n + 1
count_put {A = A} old new a n put count = ap length put ∙ by old n count
  where
    by : (old : List A) (n : ℕ) → length old ≡ n → length (old ++ a ∷ []) ≡ n + 1
    by [] n e = omega (arith, e)
    by (b ∷ old) zero e = absurd (omega (arith, e))
    by (b ∷ old) (suc n) e = let h = by old n (omega (arith, e)) in omega (arith, h)

pub program_there : (cs : List Component) (programs : List Program) (k : ℕ) (p : Program) (c : Component) → programs ≡ map (λ (c : Component). c.node.program)
    cs
    → slice_get cs k ≡ Some c → p ≡ get_or programs k p → p ≡ c.node.program
program_there cs programs k p c same at is = by cs k at (is ∙ ap (λ l. get_or l k p) same)
  where
    by : (cs : List Component) (k : ℕ) → slice_get cs k ≡ Some c → p ≡ get_or (map (λ (c : Component). c.node.program) cs) k p → p ≡ c.node.program
    by [] k at is = absurd (none_some at)
    by (d ∷ cs) zero at is = is ∙ ap (λ (x : Component). x.node.program) (some_same at)
    by (d ∷ cs) (suc k) at is = by cs k at is

-- the table of one more leaf
pub asks_more : {A : Type 0} (items : A → List SectionAsks) (s : System) (cs : List Component) (found : List A) (new : A) (c : Component) (k : ℕ)
    → length found ≡ k → slice_get cs k ≡ Some c → AreOfSections (server_of s c) c.node.program.sections (items new)
    → ((x : ℕ) (c : Component) (a : A) → slice_get cs x ≡ Some c → slice_get found x ≡ Some a
    → AreOfSections (server_of s c) c.node.program.sections (items a))
    → (x : ℕ) (c : Component) (a : A) → slice_get cs x ≡ Some c → slice_get (found ++ new ∷ []) x ≡ Some a
    → AreOfSections (server_of s c) c.node.program.sections (items a)
asks_more items s [] found new c k count at is each x d a e f = absurd (none_some e)
asks_more items s (b ∷ cs) [] new c zero count at is each zero d a e f =
    let both : c ≡ d = sym (some_same at) ∙ some_same e in
    subst (λ a. AreOfSections (server_of s d) d.node.program.sections (items a)) (some_same f)
    (subst (λ (c : Component). AreOfSections (server_of s c) c.node.program.sections (items new)) both is)
asks_more items s (b ∷ cs) [] new c zero count at is each (suc x) d a e f = absurd (none_some f)
asks_more items s (b ∷ cs) [] new c (suc k) count at is each x d a e f = absurd (omega (arith, count))
asks_more items s (b ∷ cs) (p ∷ found) new c zero count at is each x d a e f = absurd (omega (arith, count))
asks_more items s (b ∷ cs) (p ∷ found) new c (suc k) count at is each zero d a e f = each zero d a e f
asks_more items s (b ∷ cs) (p ∷ found) new c (suc k) count at is each (suc x) d a e f =
    asks_more items s cs found new c k (omega (arith, count)) at is (λ x. each (suc x)) x d a e f
