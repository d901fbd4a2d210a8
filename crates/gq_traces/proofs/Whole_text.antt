-- The text of a list, and of the line behind it.
use Rattle.std.proofs.Common.{◌≡◌, ◌∙◌, ℕ, Bool, List, [], ◌∷◌, ◌++◌, map, refl, ap, sym, append_assoc}
use Rattle.gq_model.specs.machine.Scenario.{Component}
use Rattle.gq_model.specs.declared.act.TurnLine.{TurnLine}
use Rattle.gq_views.specs.Listing.{joined}
use Rattle.gq_traces.specs.Schedule.{cut_lines, given_line, listed_turns, schedule_lines}

parts : (cs : List Component) (lines : List TurnLine) (behind : List (List ℕ))
    → joined (map (given_line cs) lines ++ behind) ≡ joined (map (given_line cs) lines) ++ joined behind
parts cs [] behind = refl
parts cs (line ∷ lines) behind =
    ap (λ (l : List ℕ). given_line cs line ++ 10 ∷ l) (parts cs lines behind)
    ∙ sym (append_assoc (given_line cs line) (10 ∷ joined (map (given_line cs) lines)) (joined behind))

pub text_parts : (cs : List Component) (lines : List TurnLine) (cut : Bool)
    → joined (schedule_lines cs lines cut) ≡ joined (map (given_line cs) lines) ++ joined (cut_lines cut (listed_turns lines))
text_parts cs lines cut = parts cs lines (cut_lines cut (listed_turns lines))
