-- Names of leaves that others start after, in the order that they are met in.
use Rattle.std.proofs.Common.{◌≡◌, ℕ, ◌+◌, ◌<◌, Bool, true, false, ◌||◌, cond, List, [], ◌∷◌, ◌++◌, length, get_or, take, drop, Option, Some, None, refl, ap}
use Rattle.std.proofs.Common.{sym, ◌∙◌}
use Rattle.std.proofs.lemmas.List.{drop_more, take_more}
use Rattle.gq_model.specs.machine.Scenario.{Component}
use Rattle.gq_model.specs.machine.Lists.{any_of}
use Rattle.gq_model.specs.rules.Resolve.{Bad_after, with_name, is_bad_after, after_fault}
use Rattle.gq_resolve.specs.internal.Afters.{named_by, holds, is_named}
use Rattle.gq_scenario.proofs.Repeated_names.{swapped}
use Rattle.std.proofs.Math.Bool.{or-false}

named_by-append : (names : List (List ℕ)) (cs : List Component) (c : Component) → named_by names (cs ++ c ∷ []) ≡ with_name c.node.after (named_by names cs)
named_by-append names [] c = refl
named_by-append names (first ∷ cs) c = named_by-append (with_name first.node.after names) cs c

one_more : (test : List ℕ → Bool) (after : Option (List ℕ)) (names : List (List ℕ))
    → any_of test (with_name after names) ≡ (holds test after || any_of test names)
one_more test None names = refl
one_more test (Some name) names = refl

any_named : (test : List ℕ → Bool) (names : List (List ℕ)) (cs : List Component) → any_of test (named_by names cs) ≡ (is_named test cs || any_of test names)
any_named test names [] = refl
any_named test names (c ∷ cs) =
    any_named test (with_name c.node.after names) cs ∙ (ap (λ b. is_named test cs || b) (one_more test c.node.after names)
    ∙ swapped (is_named test cs) (holds test c.node.after) (any_of test names))

pub named_before : (test : List ℕ → Bool) (cs : List Component) → any_of test (named_by [] cs) ≡ is_named test cs
named_before test cs = any_named test [] cs ∙ or-false (is_named test cs)

module _ (all : List Component) (i : ℕ) (c : Component) (within : i < length all) (is : c ≡ get_or all i c) (b : Bool)
    (bad : b ≡ is_bad_after all (named_by [] (take i all)) c c.node.after) where
  step : after_fault all (named_by [] (take i all)) (drop i all)
      ≡ cond b (Some (Bad_after c.node.name)) (after_fault all (with_name c.node.after (named_by [] (take i all))) (drop (i + 1) all))
  step = rw (drop_more all i c within, ← is, bad) refl

  pub first_bad : b ≡ true → after_fault all (named_by [] (take i all)) (drop i all) ≡ Some (Bad_after c.node.name)
  first_bad e = step ∙ rw e refl

  more : named_by [] (take (i + 1) all) ≡ with_name c.node.after (named_by [] (take i all))
  more = rw (take_more all i c within, ← is) (named_by-append [] (take i all) c)

  pub not_bad : b ≡ false → after_fault all (named_by [] (take (i + 1) all)) (drop (i + 1) all) ≡ after_fault all (named_by [] (take i all)) (drop i all)
  not_bad e = rw more (sym (step ∙ rw e refl))
