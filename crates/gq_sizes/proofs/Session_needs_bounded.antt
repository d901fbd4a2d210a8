-- Of a scenario that is accepted: no session needs more than its interface asks for, nor does any with other quantities.
use Rattle.std.proofs.Common.{◌≡◌, ℕ, zero, suc, ◌+◌, ◌-◌, ◌≤◌, Bool, true, false, List, [], ◌∷◌, length, Option, Some, None, refl, ap, sym, ◌∙◌, subst}
use Rattle.std.proofs.Common.{arith}
use Rattle.std.specs.Prelude.{slice_get, if◌then◌else◌}
use Rattle.gq_model.specs.machine.Amounts.{Resource, Ram, Caps, part, counted_in, counts_caps}
use Rattle.gq_model.specs.declared.section.Section.{Section}
use Rattle.gq_model.specs.machine.Lists.{greatest}
use Rattle.gq_model.specs.machine.Program.{Statements, section_in}
use Rattle.gq_model.specs.machine.Scenario.{Interface, Component, LeafNode, Scenario, System, system, interface_in, service_in, number_of}
use Rattle.gq_model.specs.rules.Kinds.{AbstractState, Subject, need_of}
use Rattle.gq_model.specs.machine.Sections.{is_own_section, level_of}
use Rattle.gq_model.specs.rules.Kinds as kinds
use Rattle.gq_model.specs.rules.Flow.{context, body, start_of}
use Rattle.gq_model.specs.rules.Use.{subject}
use Rattle.gq_model.specs.rules.Verdict.{program_fault}
use Rattle.gq_model.specs.Promises.{EachOf}
use Rattle.gq_model.proofs.Small_facts.{text_is}
use Rattle.gq_laws.specs.Sound_scenarios.{IsSound}
use Rattle.gq_laws.specs.internal.Verified_holdings.{Covers}
use Rattle.gq_laws.proofs.verified_programs.Session_costs.{need_next, start_covers}
use Rattle.gq_laws.proofs.verified_programs.Sure_system_facts.{IsSure}
use Rattle.gq_laws.proofs.verified_programs.Sound_systems.{sure_of}
use Rattle.gq_sizes.specs.Unsized_equality.{AreAsOne, AllAsOne, ProvideAsOne, SubjectsAsOne, PointsAsOne, ComponentsAsOne, AllComponents, ScenariosAsOne}
use Rattle.gq_sizes.specs.Unsized_equality.{caps_for}
use Rattle.gq_sizes.specs.Unsized_equality.{caps_needed, levels_for}
use Rattle.gq_sizes.specs.Size.{Given, session_cost, section_points, is_up_to, is_named, leaf_needed, needed, caps_sum, rounds, least_caps, sum_in}
use Rattle.gq_scenario.specs.Without_quantities.{unsized}
use Rattle.gq_sizes.proofs.Least_sizes_fit.{free}
use Rattle.gq_sizes.proofs.Statement_point_predicates.{Each, each_so}
use Rattle.gq_sizes.proofs.Accepted_gifts_needs.{points_covered}
use Rattle.gq_sizes.proofs.Program_under_larger_gifts.{flows_through}
use Rattle.gq_sizes.proofs.Faultless_without_quantities.{points_free}
use Rattle.gq_sizes.proofs.Freed_scenarios.{all_free, nodes_free, components_both, pair_of, subjects_both, found_both, none_counted}
use Rattle.gq_sizes.proofs.Costs_without_quantities.{Within, greatest_under, greatest_lower, session_lower}
use Rattle.gq_model.proofs.Section_laws.{section_found}
use Rattle.gq_sizes.proofs.Levels_of_sections.{outside_main}
use Rattle.gq_sizes.proofs.Statement_point_predicates.{greatest_each}

-- WHAT IS COUNTED

-- bytes always are, capabilities where the version counts them
abbrev pub Counts : ℕ → Resource → Type 0
Counts version Ram = Unit {0}
Counts version Caps = counts_caps version ≡ true

pub counts_of : (version : ℕ) (r : Resource) (P : Resource → Type 0) → Counts version r → EachOf (counted_in version) P → P r
counts_of version Ram P h e = by (counts_caps version) e
  where
    by : (b : Bool) → EachOf (if◌then◌else◌ b (Ram ∷ Caps ∷ []) (Ram ∷ [])) P → P Ram
    by true e = e.0
    by false e = e.0
counts_of version Caps P h e = (subst (λ (b : Bool). EachOf (if◌then◌else◌ b (Ram ∷ Caps ∷ []) (Ram ∷ [])) P) h e).1.0

-- NEEDS RISE

need_up : (i : Interface) (r : Resource) (l d : ℕ) → l + d ≤ length i.upgrades → part r (need_of i l) ≤ part r (need_of i (l + d))
need_up i r l zero h = let z : l ≡ l + 0 = omega arith in let e = ap (λ k. part r (need_of i k)) z in omega (arith, e)
need_up i r l (suc d) h =
    let a = need_up i r l d (omega (arith, h)) in
    let b = need_next i (l + d) r (omega (arith, h)) in
    let z : suc (l + d) ≡ l + suc d = omega arith in
    let e = ap (λ k. part r (need_of i k)) z in omega (arith, a, b, e)

pub need_upward : (i : Interface) (r : Resource) (l m : ℕ) → l ≤ m → m ≤ length i.upgrades → part r (need_of i l) ≤ part r (need_of i m)
need_upward i r l m h k =
    let z : l + (m - l) ≡ m = omega (arith, h) in
    let a = need_up i r l (m - l) (omega (arith, z, k)) in
    let e = ap (λ k. part r (need_of i k)) z in omega (arith, a, e)

-- A SCENARIO AND ONE WITHOUT QUANTITIES

module _ (t s : Scenario) (sound : IsSound t) (alike : ScenariosAsOne t s) where
  abbrev own : System
  own = system t

  abbrev all : System
  all = system (unsized s)

  sure : IsSure own
  sure = sure_of t sound

  pub both : AllComponents own.components all.components
  both = components_both t (unsized s) alike.default_routes (nodes_free t.nodes s.nodes alike.nodes)

  pub interfaces : AllAsOne t.interfaces (free s.interfaces)
  interfaces = all_free t.interfaces s.interfaces alike.interfaces

  pub subjects : (c d : Component) → ComponentsAsOne c d → SubjectsAsOne (subject own c) (subject all d)
  subjects c d o = subjects_both own all c d interfaces o

  module _ (x : ℕ) (c d : Component) (at : slice_get own.components x ≡ Some c) (o : ComponentsAsOne c d) where
    abbrev v : Subject
    v = subject own c

    abbrev w : Subject
    w = subject all d

    pub fine : program_fault v ≡ None
    fine = sure.faultless x c at

    pub points_so : (section : Section) → PointsAsOne t.interfaces all.interfaces (section_points v section) (section_points w section)
    points_so section = points_free v w s.interfaces (subjects c d o) refl (none_counted s.interfaces d.node.provides) fine section

    -- each point of a section outside `main` is covered
    pub points_paid : (section : Section) (list : Statements) → is_own_section section ≡ false → section_in section c.node.program.sections ≡ Some list
        → Each (λ (s : AbstractState). Covers v (level_of section) s.bank) (section_points v section)
    points_paid section list outside there =
        let p = flows_through v section fine in
        points_covered (context v section) (start_of v section) p.0 (body v section) outside p.1 (start_covers v section list fine there outside)

    module _ (r : Resource) (counts : Counts t.version r) (given : Given) (within : Within t.interfaces all.interfaces given r) (service : List ℕ) (i k :
        Interface)
        (known : interface_in service t.interfaces ≡ Some i) (same : i.object ≡ k.object) (l : ℕ) (below : l ≤ length i.upgrades)
        (provides : c.node.provides ≡ Some service) where
      section_needs : (section : Section) (list : Statements) → is_up_to l section ≡ true → section_in section c.node.program.sections ≡ Some list
          → greatest (session_cost given r k) (section_points w section) ≤ part r (need_of i l)
      section_needs section list up there =
          let outside = outside_main l section up in
          let lower = greatest_lower t.interfaces all.interfaces (λ s. kinds.session_cost r i s.bank) (session_cost given r k) (section_points v section)
          (section_points w section) (λ s t2 o2. session_lower t.interfaces all.interfaces given r within i k s t2 same o2) (points_so section) in
          let provided : v.provided ≡ Some i = ap (λ p. service_in p t.interfaces) provides ∙ known in
          let covered = each_so (λ (s : AbstractState). Covers v (level_of section) s.bank)
          (λ (s : AbstractState). kinds.session_cost r i s.bank ≤ part r (need_of i
          (level_of section)))
          (section_points v section)
          (λ s h. counts_of t.version r (λ r. kinds.session_cost r i s.bank ≤ part r (need_of i (level_of section))) counts
          (subst (λ cs. EachOf cs (λ r. kinds.session_cost r i s.bank ≤ part r (need_of i (level_of section)))) (sound.formed.counted service i known) (h i
          provided)))
          (points_paid section list outside.0 there) in
          let most = greatest_each (λ (s : AbstractState). kinds.session_cost r i s.bank) (section_points v section) (part r (need_of i (level_of section)))
          covered in
          let rises = need_upward i r (level_of section) l outside.1 below in
          omega (arith, lower, most, rises)

      when_needs : (b : Bool) (f n : ℕ) → (b ≡ true → f ≤ n) → (if◌then◌else◌ b f 0) ≤ n
      when_needs true f n h = h refl
      when_needs false f n h = omega arith

      leaf_needs : leaf_needed given r w k l ≤ part r (need_of i l)
      leaf_needs =
          let same_program : c.node.program ≡ d.node.program = (subjects c d o).program in
          subst (λ (p : _). greatest (λ (q : Section × Statements). if is_up_to l q.0 then greatest (session_cost given r k) (section_points w q.0) else 0) p
          ≤ part r (need_of i l)) (ap (λ p. p.sections) same_program)
          (greatest_under (λ (q : Section × Statements). if is_up_to l q.0 then greatest (session_cost given r k) (section_points w q.0) else 0)
          c.node.program.sections (part r (need_of i l)) (λ y q there.
          when_needs (is_up_to l q.0) (greatest (session_cost given r k) (section_points w q.0)) (part r (need_of i l))
          (λ up. section_needs q.0 q.1 up (section_found c.node.program (sound.formed.programs x c at) y q there))))

  pub named_is : (service : List ℕ) (p : Option (List ℕ)) → is_named service p ≡ true → p ≡ Some service
  named_is service None e = absurd cc
  named_is service (Some name) e = ap Some (sym (text_is service name e))

  when_more : (b : Bool) (f n : ℕ) → (b ≡ true → f ≤ n) → (if◌then◌else◌ b f 0) ≤ n
  when_more true f n h = h refl
  when_more false f n h = omega arith

  -- no more is needed than is asked for
  pub needs : (r : Resource) → Counts t.version r → (given : Given) → Within t.interfaces all.interfaces given r → (service : List ℕ) (i k : Interface)
      → interface_in service t.interfaces ≡ Some i → i.object ≡ k.object → (l : ℕ) → l ≤ length i.upgrades
      → needed given r all service k l ≤ part r (need_of i l)
  needs r counts given within service i k known same l below =
      greatest_under (λ (d : Component). if is_named service d.node.provides then leaf_needed given r (subject all d) k l else 0) all.components
      (part r (need_of i l)) (λ x d there.
      let p = pair_of own.components all.components both x d there in
      when_more (is_named service d.node.provides) (leaf_needed given r (subject all d) k l) (part r (need_of i l)) (λ named.
      let provides : p.0.node.provides ≡ Some service =
      ap (λ (n : LeafNode). n.provides) (sym p.2.node) ∙ named_is service d.node.provides named in
      leaf_needs x p.0 d p.1 p.2 r counts given within service i k known same l below provides))

  -- in capabilities, along chains of uses
  pub caps_needs : counts_caps t.version ≡ true → (n : ℕ) (service : List ℕ) (l : ℕ) → l ≤ levels_for t.interfaces service
      → caps_sum n all service l ≤ caps_for t.interfaces service l
  caps_needs two zero service l below = omega arith
  caps_needs two (suc n) service l below = by (interface_in service t.interfaces) refl (interface_in service all.interfaces) refl
      (found_both service t.interfaces all.interfaces interfaces) (caps_needs two n)
    where
      by : (o : Option Interface) → interface_in service t.interfaces ≡ o → (q : Option Interface) → interface_in service all.interfaces ≡ q
          → ProvideAsOne (interface_in service t.interfaces) (interface_in service all.interfaces)
          → ((service : List ℕ) (l : ℕ) → l ≤ levels_for t.interfaces service → caps_sum n all service l ≤ caps_for t.interfaces service l)
          → sum_in (λ i. needed (caps_sum n all) Caps all service i l) (interface_in service all.interfaces) ≤ caps_needed l (interface_in service t.interfaces)
      by o e None f h within =
          let z : sum_in (λ i. needed (caps_sum n all) Caps all service i l) (interface_in service all.interfaces) ≡ 0 =
          ap (sum_in (λ i. needed (caps_sum n all) Caps all service i l)) f in omega (arith, z)
      by None e (Some k) f h within = absurd (subst (λ q. ProvideAsOne None q) f (subst (λ o. ProvideAsOne o (interface_in service all.interfaces)) e h))
      by (Some i) e (Some k) f h within =
          let one : AreAsOne i k = subst (λ q. ProvideAsOne (Some i) q) f (subst (λ o. ProvideAsOne o (interface_in service all.interfaces)) e h) in
          let levels : levels_for t.interfaces service ≡ length i.upgrades = ap (λ o. number_of o (λ i. length i.upgrades)) e in
          let small = needs Caps two (caps_sum n all) within service i k e one.object l (omega (arith, levels, below)) in
          let a = ap (sum_in (λ i. needed (caps_sum n all) Caps all service i l)) f in
          let b = ap (caps_needed l) e in
          omega (arith, small, a, b)

  pub caps_within : (r : Resource) → Counts t.version r → Within t.interfaces all.interfaces (least_caps all) r
  caps_within Ram counts = tt
  caps_within Caps counts = caps_needs counts (rounds all)
