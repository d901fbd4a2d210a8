-- Lists of turns that bring all work to rest: by rounds over the leaves, each of which takes as many turns as it can, or by a generator of random numbers; and
-- then, time after time, all signals and the turns that bring what they give to rest.
use Rattle.std.specs.Prelude.{ℕ, zero, suc, ◌+◌, ◌-◌, ◌%◌, ◌^◌, nat_le, ◌==◌, if◌then◌else◌, Bool, true, false, not, ◌||◌, List, [], ◌∷◌, ◌++◌, length, min}
use Rattle.std.specs.Prelude.{Option, Some, None, option_map, unwrap_or, map, slice_get, get_or, sum_by, decimal, codes}
use Rattle.rand_core.specs.Pcg32Seed.{pcg32_seed}
use Rattle.rand_pcg.specs.Lcg.{Lcg}
use Rattle.rand_pcg.specs.Pcg.{pcg32, pcg32_of_seed}
use Rattle.gq_model.specs.machine.Scenario.{System, Component, Scenario, components, system}
use Rattle.gq_model.specs.machine.World.{World, start}
use Rattle.gq_model.specs.machine.Run.{Acts, submit}
use Rattle.gq_model.specs.machine.Rest.{Taken, can_run, greatest_turns, reported_turns, rounds, some_can, while_can}
use Rattle.gq_model.specs.declared.act.Act.{Act}
use Rattle.gq_model.specs.declared.act.Act.TheVariants.{Turns, Sets, Submits}
use Rattle.gq_model.specs.declared.act.TurnLine.{TurnLine}
use Rattle.gq_model.specs.declared.act.TurnLine.TheVariants.{Gives, Rests}
use Rattle.gq_model.specs.texts.Turns.{has_signals, line_turns}
use Rattle.gq_views.specs.Listing.{joined}

-- BY CHANCE

-- the next word of a generator, as a number below that one
abbrev pub drawn : Lcg → ℕ → ℕ × Lcg
drawn g below = let word = pcg32 g in (word.0 % below, word.1)

-- the leaves from the x-th on that can take a turn
abbrev pub able : System → World → ℕ → List Component → List ℕ
able system w x [] = []
able system w x (c ∷ rest) = if can_run system w x then x ∷ able system w (suc x) rest else able system w (suc x) rest

-- a leaf, the most turns that it takes in a row, and the generator after both draws
pub record Choice : Type 0 where
  pub leaf : ℕ
  pub most : ℕ
  pub generator : Lcg

-- each of these leaves with the same weight, and 1 to 16 turns
abbrev pub choice : Lcg → List ℕ → Choice
choice g leaves =
    let place = drawn g (length leaves) in
    let more = drawn place.1 16 in
    record { leaf = get_or leaves place.0 0; most = suc more.0; generator = more.1 }

-- the next one, of the leaves that can take a turn
abbrev pub next_choice : System → World → Lcg → Choice
next_choice system w g = choice g (able system w 0 system.components)

-- its turns, of which at most n may be taken
abbrev pub chosen_turns : System → ℕ → World → Choice → ℕ × World
chosen_turns system n w c = while_can (min c.most n) system w c.leaf

-- no turn
abbrev pub no_turns : ℕ → World → Taken
no_turns n w = record { turns = []; left = n; world = w }

-- those after a choice, where there was one
abbrev pub where_some : List ℕ → Taken → Taken → Taken
where_some [] none some = none
where_some (x ∷ leaves) none some = some

-- at most k times a leaf that can take a turn is chosen, and takes its turns as far as it can
abbrev pub choices : ℕ → System → ℕ → World → Lcg → Taken
choices zero system n w g = no_turns n w
choices (suc k) system zero w g = no_turns zero w
choices (suc k) system (suc n) w g =
    let c = next_choice system w g in
    let taken = chosen_turns system (suc n) w c in
    let more = choices k system (suc n - taken.0) taken.1 c.generator in
    where_some (able system w 0 system.components) (no_turns (suc n) w) (record more { turns = reported_turns c.leaf taken.0 ++ more.turns })

-- so many lines are at most written by chance: with names of 16 bytes more of them could be longer than a list of turns may be
unfoldable pub greatest_choices : ℕ
greatest_choices = 800000

-- BOTH

-- at most n turns, in rounds or by chance where a seed is given, from this world on; the generator is PCG32 from the seed
unfoldable pub rest_by : Option ℕ → System → ℕ → World → Taken
rest_by None system n w = rounds (suc greatest_turns) system n w
rest_by (Some seed) system n w = choices greatest_choices system n w (pcg32_of_seed (pcg32_seed 16 seed))

-- from the start of a scenario
abbrev pub scheduled_by : Option ℕ → Scenario → Taken
scheduled_by seed s = let all = system s in rest_by seed all greatest_turns (start all)

-- SIGNALS

-- so many signals of the x-th leaf, from the i-th on
abbrev pub signals_from : ℕ → ℕ → ℕ → List TurnLine
signals_from x i zero = []
signals_from x i (suc k) = Gives x (Submits i) ∷ signals_from x (suc i) k

-- all signals of the leaves from the x-th on
abbrev pub all_signals : ℕ → List Component → List TurnLine
all_signals x [] = []
all_signals x (c ∷ rest) = signals_from x 0 c.node.signals ++ all_signals (suc x) rest

-- the world in which these signals are submitted
abbrev pub with_signals_from : ℕ → ℕ → ℕ → World → World
with_signals_from x i zero w = w
with_signals_from x i (suc k) w = with_signals_from x (suc i) k (submit w x i)

abbrev pub with_all_signals : ℕ → List Component → World → World
with_all_signals x [] w = w
with_all_signals x (c ∷ rest) w = with_all_signals (suc x) rest (with_signals_from x 0 c.node.signals w)

-- turns as lines of a list
abbrev pub as_lines : List (ℕ × ℕ) → List TurnLine
as_lines [] = []
as_lines (t ∷ turns) = Gives t.0 (Turns t.1) ∷ as_lines turns

-- what such lines give, where none of them brings all work to rest
abbrev pub acts_given : List TurnLine → Acts
acts_given [] = []
acts_given (Gives x act ∷ lines) = (x, act) ∷ acts_given lines
acts_given (Rests ∷ lines) = acts_given lines

-- lines, how many more turns may be taken, and the world after them
pub record Listed : Type 0 where
  pub lines : List TurnLine
  pub left : ℕ
  pub world : World

-- every signal is submitted, and all work is brought to rest
abbrev pub reaction : Option ℕ → System → Listed → Listed
reaction seed system l =
    let t = rest_by seed system l.left (with_all_signals 0 system.components l.world) in
    record { lines = l.lines ++ (all_signals 0 system.components ++ as_lines t.turns); left = t.left; world = t.world }

-- no list that may be read has more lines
unfoldable pub greatest_listed : ℕ
greatest_listed = 4194304

-- some leaf could go on, but no more turns may be taken; or there are too many lines
abbrev pub is_over : System → Listed → Bool
is_over system l = some_can system l.world 0 system.components || nat_le greatest_listed (length l.lines)

-- by chance each time is scheduled by a seed of its own: the next number
abbrev pub next_seed : Option ℕ → Option ℕ
next_seed = option_map (λ n. (n + 1) % 2 ^ 32)

-- so many times
abbrev pub reactions : ℕ → Option ℕ → System → Listed → Listed
reactions zero seed system l = l
reactions (suc k) seed system l = if is_over system l then l else reactions k (next_seed seed) system (reaction (next_seed seed) system l)

-- turns from the start of a scenario, and then so many times all signals and turns, if any
abbrev pub first_listed : Option ℕ → Scenario → Listed
first_listed seed s = let t = scheduled_by seed s in record { lines = as_lines t.turns; left = t.left; world = t.world }

-- only versions with signals have any
abbrev pub times_in : ℕ → Option ℕ → ℕ
times_in version times = if has_signals version then unwrap_or times 0 else 0

unfoldable pub all_listed : (seed times : Option ℕ) → Scenario → Listed
all_listed seed times s = reactions (times_in s.version times) seed (system s) (first_listed seed s)

-- TEXT

abbrev pub name_at : Option Component → List ℕ
name_at None = []
name_at (Some c) = c.node.name

-- what stands behind the name
abbrev pub given_part : Act → List ℕ
given_part (Turns n) = 32 ∷ decimal n
given_part (Sets i n) = []
given_part (Submits i) = 33 ∷ decimal i

abbrev pub given_line : List Component → TurnLine → List ℕ
given_line components (Gives x act) = name_at (slice_get components x) ++ given_part act
given_line components Rests = codes "rest"

-- the first of these lines that fit into so many bytes
abbrev pub fitting : List Component → ℕ → List TurnLine → List TurnLine
fitting components room [] = []
fitting components room (line ∷ lines) =
    let size = suc (length (given_line components line)) in
    if nat_le size room then line ∷ fitting components (room - size) lines else []

-- so many bytes have a text that may be read, but for the line that it was cut
unfoldable pub greatest_text : ℕ
greatest_text = 16777190

abbrev pub listed_turns : List TurnLine → ℕ
listed_turns = sum_by line_turns

-- after how many turns they were cut
abbrev pub cut_lines : Bool → ℕ → List (List ℕ)
cut_lines true n = (codes "# cut after " ++ decimal n ++ codes " turns") ∷ []
cut_lines false n = []

-- lines, and that there are more of them
abbrev pub schedule_lines : List Component → List TurnLine → Bool → List (List ℕ)
schedule_lines components lines cut = map (given_line components) lines ++ cut_lines cut (listed_turns lines)

-- not all of these lines have room in a text, or some leaf could go on
abbrev pub is_cut_in : Scenario → World → List TurnLine → Bool
is_cut_in s w lines =
    let all = system s in
    not (length (fitting (components s) greatest_text lines) == length lines) || some_can all w 0 all.components

abbrev pub list_text : Scenario → World → List TurnLine → List ℕ
list_text s w lines = joined (schedule_lines (components s) (fitting (components s) greatest_text lines) (is_cut_in s w lines))

-- the lines that are written
abbrev pub written_lines : (seed times : Option ℕ) → Scenario → List TurnLine
written_lines seed times s = fitting (components s) greatest_text (all_listed seed times s).lines

abbrev pub is_cut : (seed times : Option ℕ) → Scenario → Bool
is_cut seed times s = let l = all_listed seed times s in is_cut_in s l.world l.lines

abbrev pub schedule_text : (seed times : Option ℕ) → Scenario → List ℕ
schedule_text seed times s = let l = all_listed seed times s in list_text s l.world l.lines
