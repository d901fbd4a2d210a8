-- Which servers are held: those that are racy, and those that are not shared. One that is not held has no race, and leads to none.
use Rattle.std.proofs.Common.{◌≡◌, ◌<◌, ◌⊎◌, inl, inr, ℕ, zero, suc, ◌+◌, ◌&&◌, ◌||◌, not, Bool, true, false, List, [], ◌∷◌, length, Option, Some, None}
use Rattle.std.proofs.Common.{refl, ap, sym, ◌∙◌, subst, arith}
use Rattle.std.specs.Prelude.{get_or, is_none, is_some, slice_get}
use Rattle.std.proofs.lemmas.Bool.{true≢false, or_left, or_parts, or_right}
use Rattle.gq_model.specs.declared.program.Instruction.{Instruction}
use Rattle.gq_model.specs.declared.section.Section.{Section}
use Rattle.gq_model.specs.declared.section.Section.TheVariants.{Main, Opening, Upgrading, Calling, Closing, Reacting}
use Rattle.gq_model.specs.machine.Program.{Statements, Done, Do, If, Loop}
use Rattle.gq_model.specs.machine.Scenario.{Component, Scenario, System, system}
use Rattle.gq_model.specs.machine.World.{World}
use Rattle.gq_model.specs.machine.Sections.{is_own_section}
use Rattle.gq_model.specs.rules.Resolve.{cycle_fault}
use Rattle.gq_model.specs.rules.Use.{reaches}
use Rattle.gq_model.proofs.Small_facts.{none_some}
use Rattle.gq_laws.specs.Shapes.{Each}
use Rattle.gq_laws.specs.Sound_scenarios.{IsSound}
use Rattle.gq_laws.specs.internal.Remaining_instructions.{AllAre, IsGood}
use Rattle.gq_laws.specs.internal.Uncounted.{uncounted}
use Rattle.gq_laws.proofs.verified_programs.Sound_systems.{good_of, is_resolved}
use Rattle.gq_laws.proofs.verified_programs.Use_chains.{Uses, resolved_acyclic}
use Rattle.gq_races.specs.Races.{Stated, changes_own, for_several, is_race, is_shared, stated_of}
use Rattle.gq_determined.proofs.thread_runs.Raceless_first_statements.{OpensThere, all_other, each_other, sections_none, sections_there}
use Rattle.gq_determined.proofs.thread_runs.Remaining_section_statements.{AreSections, Lefts}
use Rattle.gq_determined.proofs.thread_runs.Uncounted_uses.{cycle_same, shared_same}
use Rattle.gq_outcomes.specs.Choices.{are_some, has_race, is_racy, leads_to_race, racy_from, racy_servers, races_at}
use Rattle.gq_outcomes.proofs.complete.Held_worlds.{AreQuiet}
use Rattle.gq_outcomes.proofs.complete.Used_servers.{of_real, reach_more, reach_one, reach_used, to_real, used_below, used_server}

not_false : (b : Bool) → not b ≡ false → b ≡ true
not_false true e = refl
not_false false e = absurd (true≢false e)

none_stated : (l : List Stated) → are_some l ≡ false → l ≡ []
none_stated [] e = refl
none_stated (r ∷ rest) e = absurd (true≢false e)

all_both : (P Q : Instruction → Type 0) (t : Statements) → AllAre P t → AllAre Q t → AllAre (λ i. P i × Q i) t
all_both P Q Done p q = tt
all_both P Q (Do i rest) p q = ((p.0, q.0), all_both P Q rest p.1 q.1)
all_both P Q (If arm other rest) p q = (all_both P Q arm p.0 q.0, all_both P Q other p.1 q.1, all_both P Q rest p.2 q.2)
all_both P Q (Loop n body rest) p q = (p.0, all_both P Q body p.1 q.1, all_both P Q rest p.2 q.2)

each_two : (P Q R : Section × Statements → Type 0) → ((p : Section × Statements) → P p → Q p → R p) → (sections : List (Section × Statements))
    → Each P sections → Each Q sections → Each R sections
each_two P Q R f [] p q = tt
each_two P Q R f (t ∷ rest) p q = (f t p.0 q.0, each_two P Q R f rest p.1 q.1)

-- of each leaf, by its number
module _ (u : System) where
  racy_at : (x k : ℕ) (cs : List Component) (c : Component) → slice_get cs k ≡ Some c → get_or (racy_from u x cs) k false ≡ is_racy u (x + k)
  racy_at x k [] c at = absurd (none_some at)
  racy_at x zero (d ∷ cs) c at = let same : x ≡ x + 0 = omega arith in ap (is_racy u) same
  racy_at x (suc k) (d ∷ cs) c at = let same : suc x + k ≡ x + suc k = omega arith in racy_at (suc x) k cs c at ∙ ap (is_racy u) same

  racy_none : (x k : ℕ) (cs : List Component) → slice_get cs k ≡ None → get_or (racy_from u x cs) k false ≡ false
  racy_none x k [] at = refl
  racy_none x zero (d ∷ cs) at = absurd (none_some (sym at))
  racy_none x (suc k) (d ∷ cs) at = racy_none (suc x) k cs at

  -- where it leads to no race, none that is reached has one
  leads_at : (x y k : ℕ) (cs : List Component) → leads_to_race u x y cs ≡ false → k < length cs
      → (reaches (length u.components) u (y + k) x && has_race u (y + k)) ≡ false
  leads_at x y k [] e below = absurd (omega (arith, below))
  leads_at x y zero (c ∷ cs) e below =
      let same : y ≡ y + 0 = omega arith in
      subst (λ n. (reaches (length u.components) u n x && has_race u n) ≡ false) same
      (or_parts (reaches (length u.components) u y x && has_race u y) (leads_to_race u x (suc y) cs) e).0
  leads_at x y (suc k) (c ∷ cs) e below =
      let same : suc y + k ≡ y + suc k = omega arith in
      subst (λ n. (reaches (length u.components) u n x && has_race u n) ≡ false) same
      (leads_at x (suc y) k cs (or_parts (reaches (length u.components) u y x && has_race u y) (leads_to_race u x (suc y) cs) e).1 (omega (arith, below)))

  leads_none : (x y : ℕ) (cs : List Component) → ((z : ℕ) → reaches (length u.components) u z x ≡ true → has_race u z ≡ false)
      → leads_to_race u x y cs ≡ false
  leads_none x y [] none = refl
  leads_none x y (c ∷ cs) none = by (reaches (length u.components) u y x) refl (leads_none x (suc y) cs none)
    where
      by : (b : Bool) → reaches (length u.components) u y x ≡ b → leads_to_race u x (suc y) cs ≡ false
          → (b && has_race u y || leads_to_race u x (suc y) cs) ≡ false
      by false e rest = rest
      by true e rest = λ i. none y e i || rest i

module _ (s : Scenario) (sound : IsSound s) where
  abbrev u : System
  u = uncounted (system s)

  abbrev real : System
  real = system s

  abbrev pub racy : ℕ → Bool
  racy z = get_or (racy_servers real) z false

  -- a server is held if it is racy, or not shared, or not there
  abbrev pub held : ℕ → Bool
  held z = not (is_shared u z) || (racy z || is_none (slice_get u.components z))

  -- what is not held
  record IsOff (z : ℕ) : Type 0 where
    shared : is_shared u z ≡ true
    calm : racy z ≡ false
    component : Component
    there : slice_get u.components z ≡ Some component

  off_is : (z : ℕ) → held z ≡ false → IsOff z
  off_is z off = by (slice_get u.components z) refl both.1
    where
      all : (not (is_shared u z) ≡ false) × ((racy z || is_none (slice_get u.components z)) ≡ false)
      all = or_parts (not (is_shared u z)) (racy z || is_none (slice_get u.components z)) off

      both : (racy z ≡ false) × (is_none (slice_get u.components z) ≡ false)
      both = or_parts (racy z) (is_none (slice_get u.components z)) all.1

      by : (o : Option Component) → slice_get u.components z ≡ o → is_none o ≡ false → IsOff z
      by None at e = absurd (true≢false e)
      by (Some d) at e = record { shared = not_false (is_shared u z) all.0; calm = both.0; component = d; there = at }

  pub shared_of : (z : ℕ) → held z ≡ false → is_shared u z ≡ true
  shared_of z off = (off_is z off).shared

  pub racy_held : (z : ℕ) → racy z ≡ true → held z ≡ true
  racy_held z e =
      or_right (not (is_shared u z)) (racy z || is_none (slice_get u.components z)) (or_left (racy z) (is_none (slice_get u.components z)) e)

  -- what is held and not racy is not shared, or not there
  pub free_of : (z : ℕ) → held z ≡ true → racy z ≡ false → (is_shared u z ≡ false) ⊎ (slice_get u.components z ≡ None)
  free_of z can off = by (is_shared u z) refl (slice_get u.components z) refl
    where
      by : (b : Bool) → is_shared u z ≡ b → (o : Option Component) → slice_get u.components z ≡ o
          → (is_shared u z ≡ false) ⊎ (slice_get u.components z ≡ None)
      by false e o at = inl e
      by true e None at = inr at
      by true e (Some d) at = absurd (true≢false (sym can ∙ (λ i. not (e i) || (off i || is_none (at i)))))

  acyclic : cycle_fault u 0 u.components ≡ None
  acyclic = cycle_same real 0 real.components ∙ resolved_acyclic s (is_resolved s sound.accepted)

  -- NO RACE

  -- a leaf has no race, and nor has any that it reaches
  pub record IsClear (z : ℕ) : Type 0 where
    pub own : has_race real z ≡ false
    pub reached : (y : ℕ) → reaches (length real.components) real y z ≡ true → has_race real y ≡ false

  pub clear_used : (y z : ℕ) → IsClear y → Uses u y z → IsClear z
  clear_used y z h uses = record {
    own = h.reached z (to_real s sound (length real.components) z y (reach_one s sound acyclic y z uses));
    reached = λ x e. h.reached x (to_real s sound (length real.components) x y
        (reach_more s sound acyclic y z x uses (of_real s sound (length real.components) x z e)));
  }

  pub clear_not : (z : ℕ) → IsClear z → racy z ≡ false
  clear_not z h = by (slice_get real.components z) refl
    where
      none : (a b c : Bool) → b ≡ false → c ≡ false → (a && (b || c)) ≡ false
      none true b c e f = λ i. e i || f i
      none false b c e f = refl

      by : (o : Option Component) → slice_get real.components z ≡ o → racy z ≡ false
      by None at = racy_none real 0 z real.components at
      by (Some d) at =
          racy_at real 0 z real.components d at
          ∙ (ap (is_racy real) (let same : 0 + z ≡ z = omega arith in same)
          ∙ none (is_shared real z) (has_race real z) (leads_to_race real z 0 real.components) h.own (leads_none real z 0 real.components h.reached))

  pub clear_off : (z : ℕ) → held z ≡ false → IsClear z
  clear_off z off = record {
    own = both.0;
    reached = λ y e.
        let used = reach_used real (length real.components) y z e in
        let same : 0 + y ≡ y = omega arith in
        second (reaches (length real.components) real y z) (has_race real y) e
        (subst (λ n. (reaches (length real.components) real n z && has_race real n) ≡ false) same
        (leads_at real z 0 y real.components both.1 (used_below s sound used.0 y used.1)));
  }
    where
      h : IsOff z
      h = off_is z off

      second : (a b : Bool) → a ≡ true → (a && b) ≡ false → b ≡ false
      second true b e f = f
      second false b e f = absurd (true≢false (sym e))

      is : racy z ≡ is_racy real z
      is = racy_at real 0 z real.components h.component h.there ∙ ap (is_racy real) (let same : 0 + z ≡ z = omega arith in same)

      both : (has_race real z ≡ false) × (leads_to_race real z 0 real.components ≡ false)
      both = or_parts (has_race real z) (leads_to_race real z 0 real.components)
          (second (is_shared real z) (has_race real z || leads_to_race real z 0 real.components) (sym (shared_same real z) ∙ h.shared) (sym is ∙ h.calm))

  -- what a server that is not held uses is not held, if it is shared
  pub lower : (y z : ℕ) → held y ≡ false → Uses u y z → is_shared u z ≡ true → held z ≡ false
  lower y z off uses shared =
      let none = clear_not z (clear_used y z (clear_off y off) uses) in
      let d = used_server s sound y z uses in
      λ i. not (shared i) || (none i || is_none (d.1 i))

  -- STATEMENTS

  -- outside `main` of a leaf that is not held nothing changes an own slot
  abbrev KeepsOwn : ℕ → Bool → Instruction → Type 0
  KeepsOwn x later i = later ≡ true → held x ≡ false → changes_own i ≡ false

  -- and what opens sessions does so as its program is judged
  abbrev pub Kept : ℕ → Component → Bool → Instruction → Type 0
  Kept x c later i = OpensThere u c later i × KeepsOwn x later i

  -- a section outside those of the leaf's own is not one of a start
  outside : (section : Section) → not (is_own_section section) ≡ true → for_several true section ≡ true
  outside Main e = e
  outside Opening e = refl
  outside (Upgrading l) e = refl
  outside (Calling l) e = refl
  outside (Closing l) e = refl
  outside (Reacting i) e = refl

  own_sections : (x : ℕ) (c : Component) → slice_get u.components x ≡ Some c
      → Each (λ p. AllAre (KeepsOwn x (not (is_own_section p.0))) p.1) c.node.program.sections
  own_sections x c at = by (held x) refl
    where
      by : (b : Bool) → held x ≡ b → Each (λ p. AllAre (KeepsOwn x (not (is_own_section p.0))) p.1) c.node.program.sections
      by true e =
          each_other _ (λ p. AllAre (KeepsOwn x (not (is_own_section p.0))) p.1)
          (λ p h. all_other (IsGood real c) (KeepsOwn x (not (is_own_section p.0))) (λ i good later off. absurd (true≢false (sym e ∙ off))) p.1 h)
          c.node.program.sections (good_of s sound x c at)
      by false off =
          each_other _ (λ p. AllAre (KeepsOwn x (not (is_own_section p.0))) p.1)
          (λ p h. all_other (λ i. is_race (for_several true p.0) i ≡ false) (KeepsOwn x (not (is_own_section p.0)))
          (λ i none later is. sym (λ j. outside p.0 later j && changes_own i) ∙ none) p.1 h)
          c.node.program.sections
          (sections_none u x c (IsGood real c) (λ section. is_race (for_several true section)) c.node.program.sections stated (good_of s sound x c at))
        where
          shared : is_shared real x ≡ true
          shared = sym (shared_same real x) ∙ shared_of x off

          stated : stated_of is_race true c ≡ []
          stated = none_stated (stated_of is_race true c) (sym (λ j. races_at (shared j) (at j)) ∙ (clear_off x off).own)

  pub kept_sections : AreSections Kept u
  kept_sections x c at =
      each_two (λ p. AllAre (OpensThere u c (not (is_own_section p.0))) p.1) (λ p. AllAre (KeepsOwn x (not (is_own_section p.0))) p.1)
      (λ p. AllAre (Kept x c (not (is_own_section p.0))) p.1)
      (λ p h k. all_both (OpensThere u c (not (is_own_section p.0))) (KeepsOwn x (not (is_own_section p.0))) p.1 h k) c.node.program.sections
      (sections_there u x c (IsGood real c) c.node.program.sections (good_of s sound x c at) (λ test e. e)) (own_sections x c at)

  pub quiet_of : (w : World) → Lefts Kept u w → AreQuiet held w
  quiet_of w left = record {
    keeps = λ x leaf q i rest there current off todo.
        let h = off_is x off in
        let all = (left.at x leaf there h.component h.there).0 in
        (subst (AllAre (Kept x h.component (is_some leaf.current))) todo all).0.1 (ap is_some current) off;
  }
