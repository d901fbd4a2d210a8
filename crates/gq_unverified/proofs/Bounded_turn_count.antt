-- The turns of a text are few.
use Rattle.std.proofs.Common.{◌≡◌, ℕ, suc, ◌+◌, ◌*◌, ◌<◌, ◌≤◌, ◌^◌, ◌==◌, nat_le, Bool, true, false, cond, List, [], ◌∷◌, length, Result, Ok, Err}
use Rattle.std.proofs.Common.{refl, subst, arith}
use Rattle.std.proofs.lemmas.Bool.{leb-true}
use Rattle.gq_model.specs.declared.fault.TurnFault.{TurnFault}
use Rattle.gq_model.specs.declared.fault.TurnFault.TheVariants.{TooMany}
use Rattle.gq_model.specs.declared.act.TurnLine.{TurnLine}
use Rattle.gq_model.specs.declared.act.TurnLine.TheVariants.{Gives, Rests}
use Rattle.gq_model.specs.machine.Scenario.{Scenario, Component, components}
use Rattle.gq_model.specs.texts.Letters.{pieces, lines}
use Rattle.gq_model.specs.texts.Turns.{Given, Listed, turn_in, lines_from, line_turns, line_onto, says_nothing, after_line, listed}
use Rattle.gq_model.specs.machine.Rest.{greatest_turns}
use Rattle.gq_world.specs.World_between_turns.{greatest_lines}
use Rattle.gq_world.proofs.Run_text.{lines_are_few}
use Rattle.gq_unverified.specs.internal.Taking.{most_turns, turns_in}

-- with so many before them they are not too many: each line that counts for nothing gives a million turns at most
abbrev AreFewIn : ℕ → Listed → Type 0
AreFewIn n (Ok lines) = n + turns_in lines ≤ 1000000 + 1000000 * length lines
AreFewIn n (Err fault) = Unit {0}

few_line : (line : TurnLine) → most_turns line ≤ line_turns line + 1000000
few_line (Gives x act) = omega arith
few_line Rests = omega arith

onto_few : (n : ℕ) (line : TurnLine) (rest : Listed) → AreFewIn (n + line_turns line) rest → AreFewIn n (line_onto line rest)
onto_few n line (Ok lines) h = let few = few_line line in omega (arith, h, few)
onto_few n line (Err fault) h = tt

limit_few : (b : Bool) (n : ℕ) (answer : Listed) (fault : TurnFault × ℕ) → (b ≡ true → AreFewIn n answer) → AreFewIn n (cond b answer (Err fault))
limit_few true n answer fault h = h refl
limit_few false n answer fault h = tt

after_few : (b : Bool) (given : Given) (k n : ℕ) (go : ℕ → Listed) → n ≤ 1000000 → ((m : ℕ) → m ≤ 1000000 → AreFewIn m (go m))
    → AreFewIn n (after_line b given k n go)
after_few true given k n go least g = g n least
after_few false (Err fault) k n go least g = tt
after_few false (Ok line) k n go least g =
    let more = n + line_turns line in
    limit_few (nat_le more greatest_turns) n (line_onto line (go more)) (TooMany, k)
    (λ e. onto_few n line (go more) (g more (leb-true more greatest_turns e)))

from_few : (version : ℕ) (all : List Component) (k n : ℕ) (text : List (List ℕ)) → n ≤ 1000000 → AreFewIn n (lines_from version all k n text)
from_few version all k n [] least = omega (arith, least)
from_few version all k n (line ∷ rest) least =
    after_few (says_nothing line) (turn_in version all (pieces (λ c. c == 32) line)) k n (λ m. lines_from version all (suc k) m rest) least
    (λ m. from_few version all (suc k) m rest)

listed_few : (s : Scenario) (text : List ℕ) → AreFewIn 0 (listed s text)
listed_few s text =
    limit_few (nat_le (length text) (2 ^ 24)) 0 (lines_from s.version (components s) 1 0 (lines text)) (TooMany, 0)
    (λ e. from_few s.version (components s) 1 0 (lines text) (omega arith))

-- so their number can be counted
pub few_of : (s : Scenario) (text : List ℕ) (ls : List TurnLine) → listed s text ≡ Ok ls → turns_in ls < 2 ^ 64
unfolding greatest_lines
few_of s text ls e =
    let h = subst (AreFewIn 0) e (listed_few s text) in
    let few = lines_are_few s text ls e in
    omega (arith, h, few)
