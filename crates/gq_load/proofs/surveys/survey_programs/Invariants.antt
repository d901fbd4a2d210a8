use Rattle.std.proofs.Common.{◌≡◌, drop, map}
use Rattle.gq_load.specs.internal.Judged_programs.{first_refusal}
use Rattle.gq_load.proofs.First_leaves.{AreFirst}
use Rattle.gq_load.proofs.surveys.survey_programs.Given as goal

-- what is kept so far, with what there is to keep of the leaves that are left, is all; no program so far is refused
abbrev pub invariant-loop-place : goal.invariant-loop-place
invariant-loop-place l = record {
  made :
      AreFirst l.interfaces l.components (drop l.place l.components) l.surveys.owns.items l.surveys.counted.items
      (map (λ v. v.items) l.surveys.opened.items);
  faultless : first_refusal l.interfaces (drop l.place l.components) ≡ first_refusal l.interfaces l.components;
}
