-- Of a scenario that is accepted: each `open` and each `upgrade` gives what is needed at least, and the least sums are no more than what is asked for.
use Rattle.std.proofs.Common.{◌≡◌, ℕ, zero, suc, ◌≤◌, Bool, true, false, List, [], ◌∷◌, ◌++◌, length, max, Option, Some, None, refl, ap, sym, ◌∙◌, subst, arith}
use Rattle.std.specs.Prelude.{nat_lt, slice_get, if◌then◌else◌, codes, decimal, ◌-◌}
use Rattle.std.proofs.lemmas.Bool.Decides.{nat_tests}
use Rattle.gq_model.specs.machine.Amounts.{Ram}
use Rattle.gq_model.specs.machine.Accounts.{entry}
use Rattle.gq_model.specs.declared.section.Section.{Section}
use Rattle.gq_model.specs.machine.Program.{Statements, section_in, body_of}
use Rattle.gq_model.specs.machine.Scenario.{Interface, Component, LeafNode, Scenario, System, system, interface_in}
use Rattle.gq_model.specs.rules.Kinds.{Subject, need_of}
use Rattle.gq_model.specs.rules.Flow.{context, body, start_of}
use Rattle.gq_model.specs.rules.Use.{subject}
use Rattle.gq_model.specs.machine.Sections.{section_word}
use Rattle.gq_laws.specs.Sound_scenarios.{IsSound}
use Rattle.gq_laws.proofs.verified_programs.Session_costs.{need_first}
use Rattle.gq_sizes.specs.Unsized_equality.{AreAsOne, ProvideAsOne, ComponentsAsOne, ScenariosAsOne}
use Rattle.gq_sizes.specs.Size.{Gift, gifts, gifts_in, all_gifts, asked_above, needed, ram_sum, sum_in, opens_from, least_need}
use Rattle.gq_sizes.specs.Size.{short_line, short_lines, short_in, all_short}
use Rattle.gq_scenario.specs.Without_quantities.{unsized}
use Rattle.gq_sizes.proofs.Statement_point_predicates.{Each, both_each, each_so}
use Rattle.gq_sizes.proofs.Accepted_gifts_needs.{Pays, PaysNext, opens_given, gifts_given, sum_small}
use Rattle.gq_sizes.proofs.Program_under_larger_gifts.{flows_through}
use Rattle.gq_sizes.proofs.Faultless_without_quantities.{gifts_free}
use Rattle.gq_sizes.proofs.Freed_scenarios.{pair_of, found_both, none_counted}
use Rattle.gq_model.proofs.Section_laws.{section_found}
use Rattle.gq_sizes.proofs.Session_needs_bounded.{both, interfaces, subjects, fine, needs}

-- SUMS

module _ (all : System) (gs : List Gift) (service : List ℕ) (i j : Interface) (same : AreAsOne i j) where
  needed_same : (l : ℕ) → needed (λ _ _. 0) Ram all service i l ≡ needed (λ _ _. 0) Ram all service j l
  needed_same l = ap (λ n. needed (λ _ _. 0) Ram all service (record i { object = n }) l) same.object

  asked_same : (d l : ℕ) → asked_above (λ k. needed (λ _ _. 0) Ram all service i k) gs service d l
      ≡ asked_above (λ k. needed (λ _ _. 0) Ram all service j k) gs service d l
  asked_same d l = ap (λ n. asked_above (λ k. needed (λ _ _. 0) Ram all service (record i { object = n }) k) gs service d l) same.object

  pub sum_same : (l : ℕ) → ram_sum all gs service i l ≡ ram_sum all gs service j l
  sum_same zero =
      (λ k. max (needed_same 0 k) (asked_same (length i.upgrades) 0 k))
      ∙ ap (λ n. max (needed (λ _ _. 0) Ram all service j 0) (asked_above (λ k. needed (λ _ _. 0) Ram all service j k) gs service n 0)) same.levels
  sum_same (suc l) =
      let rest = sum_same l in
      (λ k. max (max (needed_same (suc l) k) (asked_same (length i.upgrades - suc l) (suc l) k)) (rest k))
      ∙ ap (λ n. max (max (needed (λ _ _. 0) Ram all service j (suc l))
      (asked_above (λ k. needed (λ _ _. 0) Ram all service j k) gs service (n - suc l) (suc l))) (ram_sum all gs service j l)) same.levels

-- NOT SHORT

module _ (all : System) (gs : List Gift) where
  no_line : (c : Component) (section : Section) (o : ℕ × List ℕ × ℕ) (least : ℕ) → least ≤ o.2 → short_line c section o least ≡ []
  no_line c section o least h = by (nat_lt o.2 least) refl
    where
      by : (b : Bool) → nat_lt o.2 least ≡ b
          → (if◌then◌else◌ b (codes "short " ++ c.label ++ codes " in " ++ section_word section ++ codes " at " ++ decimal o.0 ++ entry (codes "gives") o.2
          ++ entry (codes "least") least ++ 10 ∷ []) []) ≡ []
      by false is = refl
      by true is = absurd (grind (arith, nat_tests))

  pub no_lines : (c : Component) (section : Section) (os : List (ℕ × List ℕ × ℕ)) → Each (λ (o : ℕ × List ℕ × ℕ). least_need all gs o.1 ≤ o.2) os
      → short_lines all gs c section os ≡ []
  no_lines c section [] h = refl
  no_lines c section (o ∷ os) h = (λ k. no_line c section o (least_need all gs o.1) h.0 k ++ no_lines c section os h.1 k)

  pub none_in : (c : Component) (pairs : List (Section × Statements)) → ((x : ℕ) (p : Section × Statements) → slice_get pairs x ≡ Some p
      → Each (λ (o : ℕ × List ℕ × ℕ). least_need all gs o.1 ≤ o.2) (opens_from 1 p.1)) → short_in all gs c pairs ≡ []
  none_in c [] h = refl
  none_in c (p ∷ rest) h = (λ k. no_lines c p.0 (opens_from 1 p.1) (h 0 p refl) k ++ none_in c rest (λ x q e. h (suc x) q e) k)

  pub none_short : (cs : List Component) → ((x : ℕ) (c : Component) → slice_get cs x ≡ Some c → (y : ℕ) (p : Section × Statements)
      → slice_get c.node.program.sections y ≡ Some p → Each (λ (o : ℕ × List ℕ × ℕ). least_need all gs o.1 ≤ o.2) (opens_from 1 p.1)) → all_short all gs cs ≡ []
  none_short [] h = refl
  none_short (c ∷ cs) h =
      (λ k. none_in c c.node.program.sections (λ y p e. h 0 c refl y p e) k ++ none_short cs (λ x d e y p f. h (suc x) d e y p f) k)

-- GIFTS

each_gifts_in : (P : Gift → Type 0) (v : Subject) (pairs : List (Section × Statements)) → ((x : ℕ) (p : Section × Statements) → slice_get pairs x ≡ Some p
    → Each P (gifts (context v p.0) (start_of v p.0) p.1)) → Each P (gifts_in v pairs)
each_gifts_in P v [] h = tt
each_gifts_in P v (p ∷ rest) h =
    both_each P (gifts (context v p.0) (start_of v p.0) p.1) (gifts_in v rest) (h 0 p refl) (each_gifts_in P v rest (λ x q e. h (suc x) q e))

each_gift : (P : Gift → Type 0) (all : System) (cs : List Component) → ((x : ℕ) (c : Component) → slice_get cs x ≡ Some c
    → Each P (gifts_in (subject all c) c.node.program.sections)) → Each P (all_gifts all cs)
each_gift P all [] h = tt
each_gift P all (c ∷ cs) h =
    both_each P (gifts_in (subject all c) c.node.program.sections) (all_gifts all cs) (h 0 c refl) (each_gift P all cs (λ x d e. h (suc x) d e))

-- A SCENARIO AND ONE WITHOUT QUANTITIES

module _ (t s : Scenario) (sound : IsSound t) (alike : ScenariosAsOne t s) where
  abbrev own : System
  own = system t

  abbrev pub all : System
  all = system (unsized s)

  abbrev pub gs : List Gift
  gs = all_gifts all all.components

  -- each section of a leaf is one that its partner has
  section_of : (x : ℕ) (c d : Component) → slice_get own.components x ≡ Some c → ComponentsAsOne c d → (y : ℕ) (p : Section × Statements)
      → slice_get d.node.program.sections y ≡ Some p → section_in p.0 c.node.program.sections ≡ Some p.1
  section_of x c d at o y p there =
      let same : d.node.program ≡ c.node.program = ap (λ (n : LeafNode). n.program) o.node in
      section_found c.node.program (sound.formed.programs x c at) y p ((λ k. slice_get (sym same k).sections y) ∙ there)

  paid_in : (x : ℕ) (c d : Component) → slice_get own.components x ≡ Some c → ComponentsAsOne c d
      → Each (PaysNext t.interfaces) (gifts_in (subject all d) d.node.program.sections)
  paid_in x c d at o = each_gifts_in (PaysNext t.interfaces) (subject all d) d.node.program.sections (λ y p there.
      let v = subject own c in let w = subject all d in
      let found = section_of x c d at o y p there in
      let list : body v p.0 ≡ p.1 = ap body_of found in
      let flows = flows_through v p.0 (fine t s sound alike x c d at o) in
      let paid = gifts_given (context v p.0) (start_of v p.0) flows.0 (body v p.0) flows.1 in
      let same = gifts_free v w s.interfaces (subjects t s sound alike c d o) refl (none_counted s.interfaces d.node.provides) (fine t s sound alike x c d at
      o) p.0 in
      subst (λ l. Each (PaysNext t.interfaces) (gifts (context w p.0) (start_of w p.0) l)) list (subst (λ g. Each (PaysNext t.interfaces) g) same paid))

  -- what is given for a level is no less than its upgrade
  pub paid : Each (PaysNext t.interfaces) gs
  paid = each_gift (PaysNext t.interfaces) all all.components (λ x d there.
      let p = pair_of own.components all.components (both t s sound alike) x d there in paid_in x p.0 d p.1 p.2)

  -- the least sums are no more than what is asked for
  pub sums_small : (service : List ℕ) (i : Interface) → interface_in service t.interfaces ≡ Some i → (l : ℕ) → l ≤ length i.upgrades
      → ram_sum all gs service i l ≤ (need_of i l).ram
  sums_small service i known l below =
      sum_small all t.interfaces service i known gs paid (λ m h. needs t s sound alike Ram tt (λ _ _. 0) tt service i i known refl m h) l below

  least_paid : (service : List ℕ) (n : ℕ) → Pays t.interfaces (0, service, n) → least_need all gs service ≤ n
  least_paid service n pays = by (interface_in service t.interfaces) refl (interface_in service all.interfaces) refl
      (found_both service t.interfaces all.interfaces (interfaces t s sound alike))
    where
      by : (o : Option Interface) → interface_in service t.interfaces ≡ o → (q : Option Interface) → interface_in service all.interfaces ≡ q
          → ProvideAsOne (interface_in service t.interfaces) (interface_in service all.interfaces)
          → sum_in (λ i. ram_sum all gs service i 0) (interface_in service all.interfaces) ≤ n
      by o e None f h =
          let z : sum_in (λ i. ram_sum all gs service i 0) (interface_in service all.interfaces) ≡ 0 = ap (sum_in (λ i. ram_sum all gs service i 0)) f in
          omega (arith, z)
      by None e (Some k) f h = absurd (subst (λ q. ProvideAsOne None q) f (subst (λ o. ProvideAsOne o (interface_in service all.interfaces)) e h))
      by (Some i) e (Some k) f h =
          let one : AreAsOne i k = subst (λ q. ProvideAsOne (Some i) q) f (subst (λ o. ProvideAsOne o (interface_in service all.interfaces)) e h) in
          let small = sums_small service i e 0 (omega arith) in
          let first = need_first i Ram in
          let same = sum_same all gs service i k one 0 in
          let enough = pays i e in
          let z : sum_in (λ i. ram_sum all gs service i 0) (interface_in service all.interfaces) ≡ ram_sum all gs service k 0 =
          ap (sum_in (λ i. ram_sum all gs service i 0)) f in
          omega (arith, small, first, same, enough, z)

  opens_enough : (x : ℕ) (c d : Component) → slice_get own.components x ≡ Some c → ComponentsAsOne c d → (y : ℕ) (p : Section × Statements)
      → slice_get d.node.program.sections y ≡ Some p → Each (λ (o : ℕ × List ℕ × ℕ). least_need all gs o.1 ≤ o.2) (opens_from 1 p.1)
  opens_enough x c d at o y p there =
      let v = subject own c in
      let found = section_of x c d at o y p there in
      let list : body v p.0 ≡ p.1 = ap body_of found in
      let flows = flows_through v p.0 (fine t s sound alike x c d at o) in
      each_so (Pays t.interfaces) (λ (o : ℕ × List ℕ × ℕ). least_need all gs o.1 ≤ o.2) (opens_from 1 p.1) (λ q h. least_paid q.1 q.2 h)
      (subst (λ l. Each (Pays t.interfaces) (opens_from 1 l)) list (opens_given (context v p.0) (start_of v p.0) flows.0 (body v p.0) 1 flows.1))

  -- no `open` is short
  pub nothing_short : all_short all gs all.components ≡ []
  nothing_short = none_short all gs all.components (λ x d there y q e.
      let p = pair_of own.components all.components (both t s sound alike) x d there in opens_enough x p.0 d p.1 p.2 y q e)
