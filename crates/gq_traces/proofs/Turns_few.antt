-- The lines of a list of turns, one after the other, and how many turns those of a text can have.
use Rattle.std.proofs.Common.{◌≡◌, ℕ, zero, suc, ◌+◌, ◌<◌, ◌≤◌, ◌==◌, ◌^◌, nat_le, Bool, true, false, cond, List, [], ◌∷◌, ◌++◌, length, take, get_or}
use Rattle.std.proofs.Common.{Ok, Err, refl}
use Rattle.std.proofs.Common.{ap, sym, subst, arith}
use Rattle.std.proofs.lemmas.Bool.Decides.{nat_tests}
use Rattle.gq_model.specs.declared.act.TurnLine.{TurnLine}
use Rattle.gq_model.specs.declared.fault.TurnFault.{TurnFault}
use Rattle.gq_model.specs.declared.fault.TurnFault.TheVariants.{TooMany}
use Rattle.gq_model.specs.machine.Rest.{greatest_turns}
use Rattle.gq_model.specs.machine.Scenario.{Component, Scenario, components}
use Rattle.gq_model.specs.texts.Letters.{lines, pieces}
use Rattle.gq_model.specs.texts.Turns.{Given, Listed, after_line, line_onto, line_turns, lines_from, listed, says_nothing, turn_in}
use Rattle.gq_init.specs.Turn_items.{IsOf}
use Rattle.gq_world.specs.World_between_turns.{AreOf, greatest_lines}
use Rattle.gq_traces.specs.internal.Lines_given.{AreFew, IsFew}

-- ONE AFTER THE OTHER

pub take_more : (turns : List TurnLine) (i : ℕ) (p : TurnLine) → i < length turns → p ≡ get_or turns i p → take i turns ++ p ∷ [] ≡ take (suc i) turns
take_more [] i p less e = absurd (omega (arith, less))
take_more (q ∷ turns) zero p less e = ap (λ (x : TurnLine). x ∷ []) e
take_more (q ∷ turns) (suc i) p less e = ap (λ l. q ∷ l) (take_more turns i p (omega (arith, less)) e)

pub of_here : (n : ℕ) (turns : List TurnLine) (i : ℕ) (p : TurnLine) → i < length turns → p ≡ get_or turns i p → AreOf n turns → IsOf n p
of_here n [] i p less e h = absurd (omega (arith, less))
of_here n (q ∷ turns) zero p less e h = subst (IsOf n) (sym e) h.0
of_here n (q ∷ turns) (suc i) p less e h = of_here n turns i p (omega (arith, less)) e h.1

pub few_here : (turns : List TurnLine) (i : ℕ) (p : TurnLine) → i < length turns → p ≡ get_or turns i p → AreFew turns → IsFew p
few_here [] i p less e h = absurd (omega (arith, less))
few_here (q ∷ turns) zero p less e h = subst IsFew (sym e) h.0
few_here (q ∷ turns) (suc i) p less e h = few_here turns i p (omega (arith, less)) e h.1

-- THOSE OF A TEXT

abbrev FewIn : Listed → Type 0
FewIn (Ok turns) = AreFew turns
FewIn (Err fault) = Unit {0}

onto_few : (line : TurnLine) (rest : Listed) → IsFew line → FewIn rest → FewIn (line_onto line rest)
onto_few line (Ok turns) few h = (few, h)
onto_few line (Err fault) few h = tt

within : (n m : ℕ) → nat_le (n + m) greatest_turns ≡ true → m ≤ greatest_turns
within n m e = grind (arith, nat_tests, e)

limit_few : (n : ℕ) (line : TurnLine) (fault : TurnFault × ℕ) (go : ℕ → Listed) (b : Bool) → nat_le (n + line_turns line) greatest_turns ≡ b
    → ((m : ℕ) → FewIn (go m)) → FewIn (cond b (line_onto line (go (n + line_turns line))) (Err fault))
limit_few n line fault go true e g = onto_few line (go (n + line_turns line)) (within n (line_turns line) e) (g (n + line_turns line))
limit_few n line fault go false e g = tt

after_few : (n : ℕ) (b : Bool) (line : Given) (k : ℕ) (go : ℕ → Listed) → ((m : ℕ) → FewIn (go m)) → FewIn (after_line b line k n go)
after_few n true line k go g = g n
after_few n false (Err fault) k go g = tt
after_few n false (Ok line) k go g = limit_few n line (TooMany, k) go (nat_le (n + line_turns line) greatest_turns) refl g

from_few : (version : ℕ) (all : List Component) (k n : ℕ) (text : List (List ℕ)) → FewIn (lines_from version all k n text)
from_few version all k n [] = tt
from_few version all k n (line ∷ rest) =
    after_few n (says_nothing line) (turn_in version all (pieces (λ c. c == 32) line)) k (λ m. lines_from version all (suc k) m rest)
    (λ m. from_few version all (suc k) m rest)

size_few : (b : Bool) (answer : Listed) (fault : TurnFault × ℕ) → FewIn answer → FewIn (cond b answer (Err fault))
size_few true answer fault h = h
size_few false answer fault h = tt

pub few_of : (t : Scenario) (text : List ℕ) (turns : List TurnLine) → listed t text ≡ Ok turns → AreFew turns
few_of t text turns e =
    subst FewIn e (size_few (nat_le (length text) (2 ^ 24)) (lines_from t.version (components t) 1 0 (lines text)) (TooMany, 0)
    (from_few t.version (components t) 1 0 (lines text)))

-- the most lines that it has
pub lines_bound : greatest_lines ≡ 16777217
unfolding greatest_lines
lines_bound = refl
