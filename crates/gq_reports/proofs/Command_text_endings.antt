-- How a command ends that writes a text, by how the writing of it ended.
use Rattle.std.proofs.Common.{◌≡◌, ◌∙◌, ℕ, List, Option, Result, Ok, Err, OnOk, ap, refl, subst, sym}
use Rattle.std.specs.Prelude.{IsOkAnd}
use Rattle.std.specs.Io.KnownBytes.{Appends}
use Rattle.gq_load.specs.Load.{LoadRefusal}
use Rattle.gq_model.specs.machine.Scenario.{Scenario}
use Rattle.gq_output.specs.declared.counted.Counted.{Counted}
use Rattle.gq_output.specs.Writer_failures.{Writes, failures_of, written_to}
use Rattle.gq_output.specs.Writes.{IsPrefix, IsRaised}
use Rattle.gq_reports.specs.declared.run_fault.RunFault.{RunFault}
use Rattle.gq_reports.specs.declared.run_fault.RunFault.TheVariants.{Load, NoComponent, Turns, Memory, Write}
use Rattle.gq_reports.specs.Command_outcomes.{IsBefore, IsFaultOf, WritesAs}
use Rattle.gq_reports.specs.Whole.{Written, with_scenario}

never_both : {A : Type 0} (a : A) (fault : RunFault) → ◌≡◌ {A = Result A RunFault} (Ok a) (Err fault) → ⊥
never_both a fault e = cc

same_fault : {A : Type 0} (f g : RunFault) → ◌≡◌ {A = Result A RunFault} (Err f) (Err g) → f ≡ g
same_fault f g e = cc

module _ {W A B E : Type 0} (contents : W → Option (List ℕ)) (w : Written) (text : List ℕ) (given : w ≡ Ok text) (old new : Counted W) where
  whole : (a : A) (b : B) → Writes {E = E} contents old new text (Ok a) → WritesAs contents w old new (Ok b)
  whole a b h =
      record {
        written = record { text = text; given = given; written = h.written };
        counted = h.counted;
        refused = tt;
        silent = tt;
        cut = λ e. absurd (never_both b Write e);
        raised = λ e. absurd (never_both b Write e);
      }

  cut : (e : E) → Writes {A = A} contents old new text (Err e) → WritesAs {A = B} contents w old new (Err Write)
  cut e h =
      record {
        written = tt;
        counted = tt;
        refused = (text, given);
        silent = λ before. absurd before;
        cut = λ same. record { text = text; given = given; written = h.prefix };
        raised = λ same. h.raised;
      }

  -- all of the text was written
  pub all_written : (r : Result A E) (a : A) (b : B) → r ≡ Ok a → Writes contents old new text r → WritesAs contents w old new (Ok b)
  all_written r a b is h = whole a b (subst (Writes contents old new text) is h)

  -- a prefix of it was written
  pub cut_short : (r : Result A E) (e : E) → r ≡ Err e → Writes contents old new text r → WritesAs {A = B} contents w old new (Err Write)
  cut_short r e is h = cut e (subst (Writes contents old new text) is h)

-- nothing was to be written
pub nothing_written : {W A : Type 0} (contents : W → Option (List ℕ)) (w : Written) (old : Counted W) (fault : RunFault) → IsBefore fault → IsFaultOf fault w
    → WritesAs {A = A} contents w old old (Err fault)
nothing_written {A = A} contents w old fault before refused =
    let never : ◌≡◌ {A = Result A RunFault} (Err fault) (Err Write) → ⊥ = λ e. subst IsBefore (same_fault fault Write e) before in
    record {
      written = tt;
      counted = tt;
      refused = refused;
      silent = λ h. refl;
      cut = λ e. absurd (never e);
      raised = λ e. absurd (never e);
    }

-- what was written after a writer had failed no more often is written of more
pub since : {W A E : Type 0} (contents : W → Option (List ℕ)) (old between new : Counted W) (last whole : List ℕ) (r : Result A E)
    → failures_of between ≡ failures_of old → (Appends (written_to contents between) (written_to contents new) last
    → Appends (written_to contents old) (written_to contents new) whole) → (IsPrefix (written_to contents between) (written_to contents new) last
    → IsPrefix (written_to contents old) (written_to contents new) whole) → Writes contents between new last r → Writes contents old new whole r
since contents old between new last whole (Ok a) same all prefix h =
    record { written = all h.written; counted = h.counted ∙ same; prefix = tt; raised = tt }
since contents old between new last whole (Err e) same all prefix h =
    record { written = tt; counted = tt; prefix = prefix h.prefix; raised = subst (λ n. IsRaised n (failures_of new)) same h.raised }

-- what holds where just this text was written holds where it was written as the text of a command
pub whole_text : {W A : Type 0} {contents : W → Option (List ℕ)} {old new : Counted W} {text : List ℕ} (P : Type 0) (r : Result A RunFault)
    → (Appends (written_to contents old) (written_to contents new) text → P) → WritesAs contents (Ok text) old new r → OnOk r P
whole_text {contents = contents} {old = old} {new = new} {text = text} P (Ok a) so h =
    so (subst (Appends (written_to contents old) (written_to contents new)) (same_text h.written.text text (sym h.written.given)) h.written.written)
  where
    same_text : (t u : List ℕ) → ◌≡◌ {A = Written} (Ok t) (Ok u) → t ≡ u
    same_text t u e = cc
whole_text P (Err fault) so h = tt

-- what a definition gives of a scenario that was loaded is the text of the command
pub reported_text : (reported : Scenario → List ℕ) (r : Result Scenario LoadRefusal) (text : List ℕ) → IsOkAnd r (λ s. text ≡ reported s)
    → with_scenario r (λ s. Ok (reported s)) ≡ Ok text
reported_text reported (Ok s) text h = ap Ok (sym h)
reported_text reported (Err fault) text h = absurd h
