use Rattle.std.proofs.Common.{◌≡◌, drop, map}
use Rattle.gq_load.specs.Load.{sources_fault}
use Rattle.gq_load.specs.internal.Judged_programs.{first_refusal}
use Rattle.gq_load.proofs.First_leaves.{AreFirst}
use Rattle.gq_load.proofs.surveys.survey_sources.Given as goal

-- what is kept so far, with what there is to keep of the leaves that are left, is all; no text, no code and no program so far is refused
abbrev pub invariant-loop-place : goal.invariant-loop-place
invariant-loop-place l = record {
  made :
      AreFirst l.interfaces l.components (drop l.place l.components) l.surveys.owns.items l.surveys.counted.items
      (map (λ v. v.items) l.surveys.opened.items);
  programs : sources_fault (drop l.place l.components) ≡ sources_fault l.components;
  faultless : first_refusal l.interfaces (drop l.place l.components) ≡ first_refusal l.interfaces l.components;
}
