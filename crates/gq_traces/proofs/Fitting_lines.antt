-- The first lines of a list that fit: they are short enough, and as good as all of them.
use Rattle.std.proofs.Common.{◌≡◌, ◌∙◌, ℕ, suc, ◌+◌, ◌-◌, ◌≤◌, Bool, true, false, List, [], ◌∷◌, ◌++◌, length, length-append, map, refl, ap, arith}
use Rattle.std.specs.Prelude.{if◌then◌else◌, nat_le}
use Rattle.std.proofs.lemmas.Bool.{le-leb}
use Rattle.std.proofs.lemmas.Bool.Decides.{nat_tests}
use Rattle.std.proofs.lemmas.List.Sums.{sum_by-cons}
use Rattle.gq_model.specs.machine.Scenario.{Component}
use Rattle.gq_model.specs.declared.act.TurnLine.{TurnLine}
use Rattle.gq_model.specs.texts.Turns.{line_turns}
use Rattle.gq_views.specs.Listing.{joined}
use Rattle.gq_traces.specs.Schedule.{fitting, given_line, listed_turns}
use Rattle.gq_traces.proofs.Turned_back.{AreGiven}

module _ (components : List Component) where
  abbrev size : TurnLine → ℕ
  size line = suc (length (given_line components line))

  abbrev pub bytes : List TurnLine → ℕ
  bytes lines = length (joined (map (given_line components) lines))

  within : (n room : ℕ) → nat_le n room ≡ true → n ≤ room
  within n room e = grind (arith, nat_tests, e)

  bytes_more : (line : TurnLine) (lines : List TurnLine) → bytes (line ∷ lines) ≡ size line + bytes lines
  bytes_more line lines =
      length-append (given_line components line) (10 ∷ joined (map (given_line components) lines)) ∙ omega arith

  pub fitting_given : (version room : ℕ) (lines : List TurnLine) → AreGiven version components lines
      → AreGiven version components (fitting components room lines)
  fitting_given version room [] h = tt
  fitting_given version room (line ∷ lines) h =
      by (nat_le (size line) room) (fitting_given version (room - size line) lines h.1)
    where
      by : (b : Bool) → AreGiven version components (fitting components (room - size line) lines)
          → AreGiven version components (if b then line ∷ fitting components (room - size line) lines else [])
      by true more = (h.0, more)
      by false more = tt

  pub fitting_few : (room : ℕ) (lines : List TurnLine) → listed_turns (fitting components room lines) ≤ listed_turns lines
  fitting_few room [] = omega arith
  fitting_few room (line ∷ lines) = by (nat_le (size line) room) (fitting_few (room - size line) lines)
    where
      by : (b : Bool) → listed_turns (fitting components (room - size line) lines) ≤ listed_turns lines
          → listed_turns (if b then line ∷ fitting components (room - size line) lines else []) ≤ listed_turns (line ∷ lines)
      by true more =
          let all = sum_by-cons line_turns line lines in
          let some = sum_by-cons line_turns line (fitting components (room - size line) lines) in
          omega (arith, more, all, some)
      by false more = omega arith

  pub fitting_short : (room : ℕ) (lines : List TurnLine) → bytes (fitting components room lines) ≤ room
  fitting_short room [] = omega arith
  fitting_short room (line ∷ lines) = by (nat_le (size line) room) refl (fitting_short (room - size line) lines)
    where
      by : (b : Bool) → nat_le (size line) room ≡ b → bytes (fitting components (room - size line) lines) ≤ room - size line
          → bytes (if b then line ∷ fitting components (room - size line) lines else []) ≤ room
      by true fits more =
          let less = within (size line) room fits in
          let long = bytes_more line (fitting components (room - size line) lines) in
          omega (arith, less, more, long)
      by false fits more = omega arith

  -- a list that is short enough fits
  pub fitting_all : (room : ℕ) (lines : List TurnLine) → bytes lines ≤ room → fitting components room lines ≡ lines
  fitting_all room [] short = refl
  fitting_all room (line ∷ lines) short =
      let long = bytes_more line lines in
      ap (λ (b : Bool). if b then line ∷ fitting components (room - size line) lines else [])
      (le-leb (size line) room (omega (arith, long, short)))
      ∙ ap (λ l. line ∷ l) (fitting_all (room - size line) lines (omega (arith, long, short)))

  -- what fits is the whole, or less
  pub fitting_less : (room : ℕ) (lines : List TurnLine) → length (fitting components room lines) ≤ length lines
  fitting_less room [] = omega arith
  fitting_less room (line ∷ lines) = by (nat_le (size line) room) (fitting_less (room - size line) lines)
    where
      by : (b : Bool) → length (fitting components (room - size line) lines) ≤ length lines
          → length (if b then line ∷ fitting components (room - size line) lines else []) ≤ length (line ∷ lines)
      by true more = omega (arith, more)
      by false more = omega arith

  -- where it has as many lines it is the whole
  pub fitting_whole : (room : ℕ) (lines : List TurnLine) → length (fitting components room lines) ≡ length lines → fitting components room lines ≡ lines
  fitting_whole room [] e = refl
  fitting_whole room (line ∷ lines) e = by (nat_le (size line) room) e (λ same. fitting_whole (room - size line) lines same)
    where
      by : (b : Bool) → length (if b then line ∷ fitting components (room - size line) lines else []) ≡ length (line ∷ lines)
          → (length (fitting components (room - size line) lines) ≡ length lines → fitting components (room - size line) lines ≡ lines)
          → (if b then line ∷ fitting components (room - size line) lines else []) ≡ line ∷ lines
      by true e more = ap (λ l. line ∷ l) (more (omega (arith, e)))
      by false e more = absurd (omega (arith, e))

  -- a list goes on behind what fits
  pub fitting_prefix : (room : ℕ) (lines : List TurnLine) → (rest : List TurnLine) × (lines ≡ fitting components room lines ++ rest)
  fitting_prefix room [] = ([], refl)
  fitting_prefix room (line ∷ lines) = by (nat_le (size line) room) (fitting_prefix (room - size line) lines)
    where
      by : (b : Bool) → (rest : List TurnLine) × (lines ≡ fitting components (room - size line) lines ++ rest)
          → (rest : List TurnLine) × (line ∷ lines ≡ (if b then line ∷ fitting components (room - size line) lines else []) ++ rest)
      by true more = (more.0, ap (λ l. line ∷ l) more.1)
      by false more = (line ∷ lines, refl)
