-- What the functions that judge a statement answer.
use Rattle.std.specs.Prelude.{◌≡◌, ℕ, Bool, true, false, List, ◌∷◌, Result, Ok, Err}
use Rattle.gq_model.specs.machine.Amounts.{Amount}
use Rattle.gq_model.specs.rules.Kinds.{AbstractState}
use Rattle.gq_caps.specs.Known_links.{service_of, level_of, given_of}
use Rattle.gq_caps.specs.declared.link.Link.{Link}
use Rattle.gq_model.specs.rules.Rules.{Judged}
use Rattle.gq_model.specs.declared.fault.Rule.{Rule}

-- the state that a call left, or the rule that it answered
abbrev pub after : {A : Type 0} → Result A Rule → AbstractState → Judged
after (Ok a) s = Ok s
after (Err rule) s = Err rule

-- one operand more
abbrev pub with_operand : ℕ → AbstractState → AbstractState
with_operand a s = record s { bounds = a ∷ s.bounds }

-- the rule is answered just where the test fails
abbrev pub answered : {A : Type 0} → Result A Rule → Bool → Rule → Type 0
answered (Ok a) test rule = test ≡ true
answered (Err r) test rule = (test ≡ false) × (r ≡ rule)

-- the service, the level and what was given of a link
abbrev pub link_parts : Link → List ℕ × ℕ × Amount
link_parts l = (service_of l, level_of l, given_of l)
