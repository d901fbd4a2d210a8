-- The leaves are those of the scenario without its quantities; they give what is asked, and that is what is needed.
use Rattle.std.proofs.Common.{◌∙◌, ◌&&◌, ap, sym, subst, ◌≡◌}
use Rattle.gq_model.specs.machine.Lists.{all_of}
use Rattle.gq_model.specs.machine.Scenario.{Component, Scenario, system}
use Rattle.gq_model.specs.rules.Use.{subject}
use Rattle.gq_sizes.specs.Gives.{AskJust, leaf_gives_right}
use Rattle.gq_sizes.proofs.Giving_right.{AreDecided, all_subjects, decided_only, decided_true}
use Rattle.gq_sizes.proofs.Sized_texts.{leaves_are, right_programs}
use Rattle.gq_sizes.proofs.gives.gives_by.Goals as goal
use Rattle.gq_sizes.proofs.gives.gives_by.Goals.{then-gives, else-gives}

pub all_verified-requires : goal.all_verified-requires
all_verified-requires c =
    right_programs c.args.free.now c.interfaces.result.now c.args.components.now c.as_slice-programs.result.now c.requires.faultless c.interfaces.ensures
    c.requires.components (c.as_slice-programs.ensures.value ∙ c.requires.programs)

-- both tests are of the scenario
decided : (c : goal.After-drop-leaves) → AreDecided c.args.scenario.now c.all_give-gives.result c.all_ask-asks.result
decided c =
    let s = c.args.scenario.now in
    let free = c.args.free.now in
    let all = system free in
    let ifs = s.interfaces in
    let same = c.interfaces-interfaces.ensures in
    let vs = c.in_ok-leaves.leaves.items in
    let are =
    leaves_are free c.interfaces.result.now c.args.components.now c.as_slice-programs.result.now vs c.interfaces.ensures
    c.requires.components (c.as_slice-programs.ensures.value ∙ c.requires.programs) c.in_ok-leaves.ensures in
    record {
      statements =
          c.all_give-gives.ensures
          ∙ ((λ j. all_of (leaf_gives_right (same j)) ((c.as_slice.ensures.value ∙ are.leaves) j))
          ∙ (all_subjects ifs all all.components
          ∙ ap (λ (f : Scenario). all_of (λ (d : Component). leaf_gives_right ifs (subject (system f) d)) (system f).components) c.requires.free));
      just = λ e. subst (λ (f : Scenario). AskJust (system f) ifs) c.requires.free
          (subst (AskJust all) same (c.all_ask-asks.ensures.just all are.components (c.as_slice-2.ensures.value ∙ are.leaves) e));
      only = λ h. c.all_ask-asks.ensures.only all are.components (c.as_slice-2.ensures.value ∙ are.leaves)
          (subst (AskJust all) (sym same) (subst (λ (f : Scenario). AskJust (system f) ifs) (sym c.requires.free) h));
    }

both : (c : goal.After-drop-leaves) → c.if-gives.result ≡ (c.all_give-gives.result && c.all_ask-asks.result)
both c =
    elim c.if-gives.branch [
      | then-gives w ↦ w.result-is ∙ sym (ap (λ b. b && c.all_ask-asks.result) w.if-gives.true)
      | else-gives w ↦ w.result-is ∙ (w.if-gives.false ∙ sym (ap (λ b. b && c.all_ask-asks.result) w.if-gives.false))
    ]

pub returns-clause-least : goal.returns-clause-least
returns-clause-least c h = decided_true c.args.scenario.now _ _ (decided c) (sym (both c) ∙ h)

pub returns-clause-only : goal.returns-clause-only
returns-clause-only c h = both c ∙ decided_only c.args.scenario.now _ _ (decided c) h
