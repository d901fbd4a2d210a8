-- A scenario passes what is judged, where any that differs from it in quantities alone is accepted.
use Rattle.std.proofs.Common.{◌≡◌, ℕ, zero, suc, ◌+◌, ◌||◌, true, false, List, [], ◌∷◌, ◌++◌, Option, Some, None, refl, ap, sym, ◌∙◌, subst, arith}
use Rattle.std.proofs.Common.{nat_le, nat_lt}
use Rattle.std.proofs.lemmas.Bool.Decides.{nat_tests}
use Rattle.std.specs.Prelude.{slice_get, is_some, if◌then◌else◌, codes}
use Rattle.gq_model.specs.machine.Amounts.{Resource, Ram, Caps, Amount, amount, part}
use Rattle.gq_model.specs.machine.Lists.{or_first}
use Rattle.gq_model.specs.machine.Scenario.{Route, LeafNode, Nodes, End, Leaf_node, Init_node, Level, Component, Scenario, System, components_of, level, below}
use Rattle.gq_model.specs.machine.Scenario.{system}
use Rattle.gq_model.specs.rules.Accept.{program_refusal, not_resolved, own_refusal, steps_refusal, budgets_from, budgets}
use Rattle.gq_model.specs.rules.Resolve.{first_handed, handed_out, exceeded, exceeds, first_exceeding, sibling, unfit, unfit_after, after_fault, routes_fault}
use Rattle.gq_model.specs.rules.Resolve.{cycle_fault, offer_fault, quanta_fault, unresolved}
use Rattle.gq_model.specs.rules.Use.{subject}
use Rattle.gq_model.proofs.Small_facts.{none_some, some_same, or_first_none}
use Rattle.gq_laws.specs.Sound_scenarios.{IsSound}
use Rattle.gq_laws.proofs.quota_payment.Leaf_component_positions.{starts_after}
use Rattle.gq_laws.proofs.progress.Lasting_world_invariant.{afters_fit}
use Rattle.gq_laws.proofs.verified_programs.Sound_systems.{is_resolved}
use Rattle.gq_sizes.specs.Unsized_equality.{AllComponents, ScenariosAsOne}
use Rattle.gq_sizes.specs.Size.{refusal_without}
use Rattle.gq_scenario.specs.Without_quantities.{without_quanta, unsized}
use Rattle.gq_sizes.proofs.Faultless_without_quantities.{AnyStep, AnyState, fits_free, free_allows, any_along}
use Rattle.gq_sizes.proofs.Freed_scenarios.{nodes_free, pair_of, none_counted}
use Rattle.gq_sizes.proofs.Session_needs_bounded.{both, interfaces, subjects, fine}
use Rattle.gq_sizes.proofs.Resolved_without_quantities.{offers_so, after_so, routes_so, cycles_so}
use Rattle.gq_sizes.proofs.Sized_program_points.{requests_sized}
use Rattle.gq_sizes.proofs.Equal_section_requests.{AskAsOne, budget_so}
use Rattle.gq_sizes.proofs.Sized_scenario_accepted.{all_pass, steps_none, asks_all, sibling_both, not_less}

-- NODES THAT ARE HANDED NOTHING

first_nothing : (after : Option (List ℕ)) → first_handed after 0 ≡ 0
first_nothing None = refl
first_nothing (Some name) = refl

no_part : (r : Resource) → part r (amount 0 0) ≡ 0
no_part Ram = refl
no_part Caps = refl

hands_nothing : (r : Resource) (ns : Nodes) → handed_out r (without_quanta ns) ≡ 0
hands_nothing r End = refl
hands_nothing r (Leaf_node node rest) =
    (λ i. first_handed node.after (no_part r i) + hands_nothing r rest i) ∙ (λ i. first_nothing node.after i + 0)
hands_nothing r (Init_node node children rest) = (λ i. no_part r i + hands_nothing r rest i)

zero_within : (n : ℕ) → nat_le 0 n ≡ true
zero_within n = grind (arith, nat_tests)

none_exceeds : (r : Resource) (name : List ℕ) (quantum : Amount) (ns : Nodes) → exceeds r name quantum (without_quanta ns) ≡ None
none_exceeds r name quantum ns =
    (λ i. if◌then◌else◌ (nat_le (hands_nothing r ns i) (part r quantum)) None (Some (exceeded r name)))
    ∙ (λ i. if◌then◌else◌ (zero_within (part r quantum) i) None (Some (exceeded r name)))

none_first : (r : Resource) (ns : Nodes) → first_exceeding r (without_quanta ns) ≡ None
none_first r End = refl
none_first r (Leaf_node node rest) = none_first r rest
none_first r (Init_node node children rest) =
    (λ i. or_first (none_exceeds r node.name (amount 0 0) children i) (or_first (none_first r children i) (none_first r rest i)))

quanta_none : (r : Resource) (s : Scenario) → quanta_fault r (unsized s) ≡ None
quanta_none r s = (λ i. or_first (none_exceeds r (codes "init") s.total s.nodes i) (none_first r s.nodes i))

-- these components are handed nothing
abbrev Bare : List Component → Type 0
Bare [] = Unit {0}
Bare (c ∷ cs) = (c.node.quantum ≡ amount 0 0) × Bare cs

both_bare : (cs ds : List Component) → Bare cs → Bare ds → Bare (cs ++ ds)
both_bare [] ds h k = k
both_bare (c ∷ cs) ds h k = (h.0, both_bare cs ds h.1 k)

all_bare : (label : List ℕ) (default_routes : Option (List Route)) (siblings : Nodes) (above : List Level) (ns : Nodes)
    → Bare (components_of label default_routes siblings above (without_quanta ns))
all_bare label default_routes siblings above End = tt
all_bare label default_routes siblings above (Leaf_node node rest) = (refl, all_bare label default_routes siblings above rest)
all_bare label default_routes siblings above (Init_node node children rest) =
    let kids = without_quanta children in
    both_bare (components_of (below label node.name) node.default_routes kids (level node.routes default_routes siblings ∷ above) kids) _
    (all_bare (below label node.name) node.default_routes kids (level node.routes default_routes siblings ∷ above) children)
    (all_bare label default_routes siblings above rest)

bare_at : (x : ℕ) (cs : List Component) (c : Component) → Bare cs → slice_get cs x ≡ Some c → c.node.quantum ≡ amount 0 0
bare_at x [] c h e = absurd (none_some e)
bare_at zero (b ∷ cs) c h e = subst (λ (k : Component). k.node.quantum ≡ amount 0 0) (some_same e) h.0
bare_at (suc x) (b ∷ cs) c h e = bare_at x cs c h.1 e

bare_fits : (before node : LeafNode) → is_some before.provides ≡ false → nat_lt 0 before.signals ≡ false → is_some node.provides ≡ false
    → node.quantum ≡ amount 0 0 → unfit before node ≡ false
bare_fits before node e g f q =
    let ram = ap (λ (n : Amount). n.ram) q in
    let caps = ap (λ (n : Amount). n.caps) q in
    let h : nat_lt before.quantum.ram node.quantum.ram ≡ false = not_less before.quantum.ram node.quantum.ram (omega (arith, ram)) in
    let k : nat_lt before.quantum.caps node.quantum.caps ≡ false = not_less before.quantum.caps node.quantum.caps (omega (arith, caps)) in
    (λ i. e i || g i || f i || h i || k i)

-- THE LAW

module _ (t s : Scenario) (sound : IsSound t) (alike : ScenariosAsOne t s) where
  abbrev mine : System
  mine = system t

  abbrev all : System
  all = system (unsized s)

  pairs : AllComponents mine.components all.components
  pairs = both t s sound alike

  resolved : (offer_fault t ≡ None) × (after_fault mine.components [] mine.components ≡ None) × (routes_fault mine.components ≡ None)
      × (cycle_fault mine 0 mine.components ≡ None)
  resolved =
      let a = or_first_none (quanta_fault Ram t) _ (is_resolved t sound.accepted) in
      let b = or_first_none (quanta_fault Caps t) _ a.1 in
      let c = or_first_none (offer_fault t) _ b.1 in
      let d = or_first_none (after_fault mine.components [] mine.components) _ c.1 in
      let e = or_first_none (routes_fault mine.components) (cycle_fault mine 0 mine.components) d.1 in
      (c.0, d.0, e.0, e.1)

  few_steps : steps_refusal mine.components (budgets t) ≡ None
  few_steps =
      let a = or_first_none (program_refusal mine mine.components) _ sound.accepted in
      let b = or_first_none (not_resolved (unresolved t)) _ a.1 in
      let c = or_first_none (own_refusal Ram mine.components (budgets t)) _ b.1 in
      (or_first_none (steps_refusal mine.components (budgets t)) (own_refusal Caps mine.components (budgets t)) c.1).0

  programs_none : program_refusal all all.components ≡ None
  programs_none = all_pass all all.components (λ x d at.
      let p = pair_of mine.components all.components pairs x d at in
      fits_free (subject mine p.0) (subject all d) s.interfaces (subjects t s sound alike p.0 d p.2) refl (none_counted s.interfaces d.node.provides)
      (fine t s sound alike x p.0 d p.1 p.2))

  after_fits : (x : ℕ) (d : Component) (name : List ℕ) → slice_get all.components x ≡ Some d → d.node.after ≡ Some name
      → unfit_after (sibling name d.levels) d.node ≡ false
  after_fits x d name at after =
      let p = pair_of mine.components all.components pairs x d at in
      let c = p.0 in
      let after_c : c.node.after ≡ Some name = ap (λ (n : LeafNode). n.after) (sym p.2.node) ∙ after in
      let known = (starts_after mine.components [] mine.components (afters_fit t sound) x c name p.1 after_c).0 in
      let b = sibling_both name c.levels d.levels p.2.levels known.before known.there in
      let one : is_some b.0.provides ≡ false = ap (λ (n : LeafNode). is_some n.provides) b.2 ∙ known.before_provides in
      let none : nat_lt 0 b.0.signals ≡ false = ap (λ (n : LeafNode). nat_lt 0 n.signals) b.2 ∙ known.before_signals in
      let two : is_some d.node.provides ≡ false = ap (λ (n : LeafNode). is_some n.provides) p.2.node ∙ known.provides in
      let bare = bare_at x all.components d (all_bare (codes "init") s.default_routes (without_quanta s.nodes) [] s.nodes) at in
      ap (λ o. unfit_after o d.node) b.1 ∙ bare_fits b.0 d.node one none two bare

  resolved_none : unresolved (unsized s) ≡ None
  resolved_none =
      let offers = sym (offers_so t (unsized s) (interfaces t s sound alike) (nodes_free t.nodes s.nodes alike.nodes)) ∙ resolved.0 in
      let after = after_so mine.components all.components pairs [] mine.components all.components pairs after_fits resolved.1 in
      let routes = routes_so mine.components all.components pairs resolved.2 in
      let cycles = cycles_so mine all pairs 0 mine.components all.components pairs resolved.3 in
      (λ i. or_first (quanta_none Ram s i) (or_first (quanta_none Caps s i) (or_first (offers i) (or_first (after i) (or_first (routes i) (cycles i))))))

  asks : AskAsOne mine all mine.components all.components
  asks = asks_all mine all mine.components all.components pairs (λ x c d at o from service section.
      let v = subject mine c in
      let w = subject all d in
      let h = subjects t s sound alike c d o in
      let none = none_counted s.interfaces d.node.provides in
      requests_sized v w h (fine t s sound alike x c d at o) (λ section. AnyStep) (λ section. AnyState)
      (λ section list there. free_allows v w s.interfaces h refl none section) (λ section list there. any_along v w s.interfaces h refl none section)
      from service section)

  steps_fit : steps_refusal all.components (budgets (unsized s)) ≡ None
  steps_fit =
      ap (λ n. steps_refusal all.components (budgets_from n all 0 all.components)) (sym alike.version)
      ∙ steps_none t.version mine all 0 mine.components all.components pairs (λ y c d o. budget_so mine all pairs asks y c d o) few_steps

  pub is_judged : refusal_without s ≡ None
  is_judged = (λ i. or_first (programs_none i) (or_first (not_resolved (resolved_none i)) (steps_fit i)))
