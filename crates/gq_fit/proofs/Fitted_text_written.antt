-- A text that was made is written, or none was made.
use Rattle.std.proofs.Common.{◌≡◌, List, ℕ, Option, Result, Ok, Err, IfErr, subst, sym, refl}
use Rattle.gq_output.specs.declared.counted.Counted.{Counted}
use Rattle.gq_output.specs.Writer_failures.{Writes}
use Rattle.gq_fit.specs.Fitted.{IsBefore, WritesFit}
use Rattle.gq_fit.specs.declared.fit_fault.FitFault.{FitFault}
use Rattle.gq_fit.specs.declared.fit_fault.FitFault.TheVariants.{Write}

same : (a b : FitFault) → ◌≡◌ {A = Result (Unit {0}) FitFault} (Err a) (Err b) → a ≡ b
same a b e = cc

no_write : (f : FitFault) → IsBefore f → ◌≡◌ {A = Result (Unit {0}) FitFault} (Err f) (Err Write) → ⊥
no_write f before e = subst IsBefore (same f Write e) before

module _ {W : Type 0} (contents : W → Option (List ℕ)) (fits : List ℕ → Type 0) (why : FitFault → List ℕ → Type 0) (scenario : List ℕ)
    (old new : Counted W) where
  -- a failed write is no fault of the scenario
  pub made_written : (text : List ℕ) (result : Result (Unit {0}) FitFault) → fits text → why Write scenario → Writes contents old new text result
      → IfErr result (λ f. f ≡ Write) → WritesFit contents fits why scenario old new result
  made_written text (Ok u) fitted excused h fault = record {
    written = record { text = text; fitted = fitted; written = h.written };
    counted = h.counted;
    refused = tt {0};
    silent = tt {0};
    cut = λ e. absurd cc;
    raised = λ e. absurd cc;
  }
  made_written text (Err f) fitted excused h fault = record {
    written = tt {0};
    counted = tt {0};
    refused = subst (λ x. why x scenario) (sym fault) excused;
    silent = λ before. absurd (subst IsBefore fault before);
    cut = λ e. record { text = text; fitted = fitted; written = h.prefix };
    raised = λ e. h.raised;
  }

  -- nothing was written
  pub none_made : (f : FitFault) → why f scenario → IsBefore f → WritesFit {A = Unit {0}} contents fits why scenario old old (Err f)
  none_made f reason before = record {
    written = tt {0};
    counted = tt {0};
    refused = reason;
    silent = λ b. refl;
    cut = λ e. absurd (no_write f before e);
    raised = λ e. absurd (no_write f before e);
  }
