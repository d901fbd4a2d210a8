-- What is written for a scenario's text.
use Rattle.std.specs.Prelude.{ℕ, List, Ok}
use Rattle.gq_reports.specs.Whole.{Written, with_scenario}
use Rattle.gq_sizes.specs.Judged_scenario.{judged_without}
use Rattle.gq_sizes.specs.Size_text.{size_text}

-- what each quantity is at least
abbrev pub size_written : List ℕ → Written
size_written scenario = with_scenario (judged_without scenario) (λ s. Ok (size_text s))
