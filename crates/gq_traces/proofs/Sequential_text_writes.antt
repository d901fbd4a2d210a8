-- Texts that are written one after the other, up to the first write that fails.
use Rattle.std.proofs.Common.{◌≡◌, ◌∙◌, ℕ, Bool, true, false, List, [], ◌∷◌, ◌++◌, Option, refl, ap, sym, subst, append_assoc, append-nil, true≢false}
use Rattle.gq_output.specs.Writer_failures.{failures_of, written_to}
use Rattle.gq_output.specs.Writes.{IsPrefix, IsRaised}
use Rattle.gq_output.specs.declared.counted.Counted.{Counted}
use Rattle.gq_output.proofs.Written_byte_facts.{appends_both, appends_nothing}
use Rattle.gq_world.proofs.Line_text_prefixes.{prefix_after}
use Rattle.gq_traces.specs.declared.step_output.Progress.{Progress}
use Rattle.gq_traces.specs.internal.Printed_steps.{Goes, Reports, has_begun, more_printed}

module _ {W : Type 0} (contents : W → Option (List ℕ)) where
  -- nothing more
  pub goes_nothing : (out : Counted W) (was : Bool) → Goes contents out out was was []
  goes_nothing out was = record {
    well = λ e. e;
    written = λ e. appends_nothing (written_to contents out);
    counted = λ e. refl;
    failed = λ e. e;
    silent = λ e. refl;
    prefix = λ e f. absurd (true≢false (sym e ∙ f));
    raised = λ e f. absurd (true≢false (sym e ∙ f));
  }

  by_bool : (b : Bool) (P : Type 0) → (b ≡ true → P) → (b ≡ false → P) → P
  by_bool true P f g = f refl
  by_bool false P f g = g refl

  -- one text after another
  pub goes_both : (a b c : Counted W) (x y z : Bool) (s t : List ℕ) → Goes contents a b x y s → Goes contents b c y z t → Goes contents a c x z (s ++ t)
  goes_both a b c x y z s t g h = record {
    well = λ e. g.well (h.well e);
    written = λ e. appends_both (written_to contents a) (written_to contents b) (written_to contents c) s t (g.written (h.well e)) (h.written e);
    counted = λ e. h.counted e ∙ g.counted (h.well e);
    failed = λ e. h.failed (g.failed e);
    silent = λ e. h.silent (g.failed e) ∙ g.silent e;
    prefix = λ e f. by_bool y (IsPrefix (written_to contents a) (written_to contents c) (s ++ t))
        (λ m. prefix_after (written_to contents a) (written_to contents b) (written_to contents c) s t [] (s ++ t) (g.written m) (h.prefix m f)
        (ap (λ l. s ++ l) (sym (append-nil t))))
        (λ m. subst (λ (v : Counted W). IsPrefix (written_to contents a) (written_to contents v) (s ++ t)) (sym (h.silent m))
        (prefix_after (written_to contents a) (written_to contents a) (written_to contents b) [] s t (s ++ t) (appends_nothing (written_to contents a))
        (g.prefix e m) refl));
    raised = λ e f. by_bool y (IsRaised (failures_of a) (failures_of c))
        (λ m. subst (λ n. IsRaised n (failures_of c)) (g.counted m) (h.raised m f))
        (λ m. subst (λ (v : Counted W). IsRaised (failures_of a) (failures_of v)) (sym (h.silent m)) (g.raised e m));
  }

  pub goes_text : (a b : Counted W) (x y : Bool) (s t : List ℕ) → s ≡ t → Goes contents a b x y s → Goes contents a b x y t
  goes_text a b x y s t e g = subst (Goes contents a b x y) e g

  -- STEPS

  more_both : (b : Bool) (head s t : List ℕ) → more_printed b head s ++ more_printed (has_begun b s) head t ≡ more_printed b head (s ++ t)
  more_both true head s t = refl
  more_both false head [] t = refl
  more_both false head (c ∷ s) t = append_assoc head (c ∷ s) t

  begun_both : (b : Bool) (s t : List ℕ) → has_begun (has_begun b s) t ≡ has_begun b (s ++ t)
  begun_both true s t = refl
  begun_both false [] t = refl
  begun_both false (c ∷ s) t = refl

  pub reports_nothing : (out : Counted W) (p : Progress) (head : List ℕ) → Reports contents out out p p head []
  reports_nothing out p head = record { goes = goes_text out out p.going p.going [] _ (by p.begun) (goes_nothing out p.going); begun = same p.begun }
    where
      by : (b : Bool) → [] ≡ more_printed b head []
      by true = refl
      by false = refl

      same : (b : Bool) → b ≡ has_begun b []
      same true = refl
      same false = refl

  pub reports_both : (a b c : Counted W) (p q r : Progress) (head s t : List ℕ) → Reports contents a b p q head s → Reports contents b c q r head t
      → Reports contents a c p r head (s ++ t)
  reports_both a b c p q r head s t g h = record {
    goes = goes_text a c p.going r.going _ _
        (ap (λ u. more_printed p.begun head s ++ more_printed u head t) g.begun ∙ more_both p.begun head s t)
        (goes_both a b c p.going q.going r.going _ _ g.goes h.goes);
    begun = h.begun ∙ ap (λ u. has_begun u t) g.begun ∙ begun_both p.begun s t;
  }

  pub prints_text : (a b : Counted W) (p q : Progress) (head s t : List ℕ) → s ≡ t → Reports contents a b p q head s → Reports contents a b p q head t
  prints_text a b p q head s t e g = subst (Reports contents a b p q head) e g

  -- a line, where the first line is written
  pub prints_line : (a b : Counted W) (p q : Progress) (head line : List ℕ) → p.begun ≡ true → q.begun ≡ true → Goes contents a b p.going q.going line
      → Reports contents a b p q head line
  prints_line a b p q head line begun now g = record {
    goes = goes_text a b p.going q.going line _ (sym (ap (λ u. more_printed u head line) begun)) g;
    begun = now ∙ sym (ap (λ u. has_begun u line) begun);
  }

  -- and where it is not
  pub reports_first : (a b : Counted W) (p q : Progress) (head line : List ℕ) → p.begun ≡ false → q.begun ≡ true → (line ≡ [] → ⊥)
      → Goes contents a b p.going q.going (head ++ line) → Reports contents a b p q head line
  reports_first a b p q head [] begun now some g = absurd (some refl)
  reports_first a b p q head (c ∷ line) begun now some g = record {
    goes = goes_text a b p.going q.going (head ++ c ∷ line) _ (sym (ap (λ u. more_printed u head (c ∷ line)) begun)) g;
    begun = now ∙ sym (ap (λ u. has_begun u (c ∷ line)) begun);
  }
