-- Names that were seen before.
use Rattle.std.proofs.Common.{◌≡◌, ℕ, ◌+◌, Bool, true, false, ◌||◌, List, [], ◌∷◌, ◌++◌, refl, ◌∙◌}
use Rattle.gq_model.specs.machine.Lists.{any_of}
use Rattle.gq_scenario.specs.Table_keys.{NameTwice}
use Rattle.gq_model.specs.texts.Letters.{is_name}
use Rattle.gq_scenario.specs.Top_table.{document_text}
use Rattle.gq_scenario.specs.Fault_words.{scenario_fault_text}
use Rattle.gq_scenario.specs.declared.scenario_fault.ScenarioFault.TheVariants as fault

-- these names before those that were seen, the last first
abbrev pub seen_after : List (List ℕ) → List (List ℕ) → List (List ℕ)
seen_after seen [] = seen
seen_after seen (name ∷ rest) = seen_after (name ∷ seen) rest

pub seen_after-append : (seen names : List (List ℕ)) (name : List ℕ) → seen_after seen (names ++ name ∷ []) ≡ name ∷ seen_after seen names
seen_after-append seen [] name = refl
seen_after-append seen (first ∷ names) name = seen_after-append (first ∷ seen) names name

pub swapped : (a b c : Bool) → (a || (b || c)) ≡ ((b || a) || c)
swapped true true c = refl
swapped true false c = refl
swapped false true c = refl
swapped false false c = refl

pub any_of-seen : (test : List ℕ → Bool) (seen names : List (List ℕ)) → any_of test (seen_after seen names) ≡ (any_of test names || any_of test seen)
any_of-seen test seen [] = refl
any_of-seen test seen (name ∷ names) = any_of-seen test (name ∷ seen) names ∙ swapped (any_of test names) (test name) (any_of test seen)

or_nothing : (a b : Bool) → (a || (b || false)) ≡ (a || b)
or_nothing true b = refl
or_nothing false true = refl
or_nothing false false = refl

-- the line of a name
pub twice_reported : (name copy : List ℕ) → copy ≡ name → is_name name ≡ true → scenario_fault_text (fault.NameTwice copy) ≡ document_text (NameTwice name)
twice_reported name copy e h = rw (h, e) refl
