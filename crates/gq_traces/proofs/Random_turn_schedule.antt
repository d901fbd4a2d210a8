-- Turns by chance are turns of leaves, and a run over them ends in the world after them; what is listed of them so far, and what is to come.
use Rattle.std.proofs.Common.{◌≡◌, ◌∙◌, ℕ, zero, suc, ◌+◌, ◌-◌, ◌<◌, ◌≤◌, min, Bool, true, false, List, [], ◌∷◌, ◌++◌, length, drop, get_or, Some}
use Rattle.std.proofs.Common.{refl, ap, sym, subst, arith, append_assoc, append-nil}
use Rattle.std.specs.Prelude.{if◌then◌else◌, slice_get}
use Rattle.std.proofs.lemmas.Bool.Decides.{nat_tests}
use Rattle.std.proofs.lemmas.Nat.{mod_below}
use Rattle.rand_pcg.specs.Lcg.{Lcg}
use Rattle.rand_pcg.specs.Pcg.{pcg32}
use Rattle.gq_model.specs.declared.act.TurnLine.{TurnLine}
use Rattle.gq_model.specs.machine.Scenario.{Component, System}
use Rattle.gq_model.specs.machine.World.{World}
use Rattle.gq_model.specs.machine.Rest.{can_run, Taken, reported_turns, while_can}
use Rattle.gq_traces.specs.Schedule.{able, as_lines, choice, choices, drawn, no_turns, where_some}
use Rattle.gq_traces.proofs.Turn_text_parts.{drop_all, drop_at, listed_both}
use Rattle.gq_traces.proofs.Round_schedule_text.{IsThrough}
use Rattle.gq_traces.proofs.Scheduled_turn_runs.{IsTaken, both_taken, one_taken, while_few, while_runs}
use Rattle.gq_traces.proofs.Turned_back.{IsCalled}

-- LEAVES THAT CAN TAKE A TURN

-- a number is that of a component, which are numbered from the x-th on
pub record IsOf (cs : List Component) (x y : ℕ) : Type 0 where
  pub place : ℕ
  pub less : place < length cs
  pub found : Component
  pub there : slice_get cs place ≡ Some found
  pub number : y ≡ x + place

later : (c : Component) (cs : List Component) (x y : ℕ) → IsOf cs (suc x) y → IsOf (c ∷ cs) x y
later c cs x y h =
    record {
      place = suc h.place;
      less = omega (arith, h.less);
      found = h.found;
      there = h.there;
      number = omega (arith, h.number);
    }

-- one more leaf, which can or can't, before those of which it holds
one_is : (x i : ℕ) (c : Component) (rest : List Component) (more : List ℕ) (b : Bool) → ((k : ℕ) → k < length more → IsOf rest (suc x) (get_or more k 0))
    → i < length (if b then x ∷ more else more) → IsOf (c ∷ rest) x (get_or (if b then x ∷ more else more) i 0)
one_is x zero c rest more true h less = record { place = 0; less = omega arith; found = c; there = refl; number = omega arith }
one_is x (suc i) c rest more true h less = later c rest x (get_or more i 0) (h i (omega (arith, less)))
one_is x i c rest more false h less = later c rest x (get_or more i 0) (h i less)

pub able_is : (system : System) (w : World) (x : ℕ) (cs : List Component) (i : ℕ) → i < length (able system w x cs)
    → IsOf cs x (get_or (able system w x cs) i 0)
able_is system w x [] i less = absurd (omega (arith, less))
able_is system w x (c ∷ rest) i less =
    one_is x i c rest (able system w (suc x) rest) (can_run system w x) (λ k h. able_is system w (suc x) rest k h) less

-- those found among the leaves before the x-th, with those from there on, are all
abbrev pub FoundSoFar : System → List Component → ℕ → World → List ℕ → Type 0
FoundSoFar system cs x w found = found ++ able system w x (drop x cs) ≡ able system w 0 cs

module _ (system : System) (cs : List Component) (x : ℕ) (w : World) (found : List ℕ) (less : x < length cs) (h : FoundSoFar system cs x w found) where
  able_from : found ++ (if can_run system w x then x ∷ able system w (suc x) (drop (suc x) cs) else able system w (suc x) (drop (suc x) cs))
      ≡ able system w 0 cs
  able_from = sym (ap (λ (l : List Component). found ++ able system w x l) (drop_at cs x less).1) ∙ h

  abbrev more : List ℕ
  more = able system w (suc x) (drop (suc x) cs)

  pub found_one : can_run system w x ≡ true → FoundSoFar system cs (suc x) w (found ++ x ∷ [])
  found_one can = append_assoc found (x ∷ []) more ∙ (sym (ap (λ (b : Bool). found ++ (if b then x ∷ more else more)) can) ∙ able_from)

  pub found_none : can_run system w x ≡ false → FoundSoFar system cs (suc x) w found
  found_none can = sym (ap (λ (b : Bool). found ++ (if b then x ∷ more else more)) can) ∙ able_from

pub found_all : (system : System) (cs : List Component) (x : ℕ) (w : World) (found : List ℕ) → x ≡ length cs → FoundSoFar system cs x w found
    → found ≡ able system w 0 cs
found_all system cs x w found all h =
    sym (append-nil found) ∙ (sym (ap (λ (l : List Component). found ++ able system w x l) (drop_all cs x all)) ∙ h)

-- a number that was drawn is below the count
pub draw_is : (g h : Lcg) (n count : ℕ) → 0 < count → (n, h) ≡ drawn g count → n < count
draw_is g h n count some e =
    let same : n ≡ (drawn g count).0 = ap (λ (p : ℕ × Lcg). p.0) e in
    let less = mod_below (pcg32 g).0 count some in
    omega (arith, same, less)

-- the leaf of a choice is one of them
pub chosen_is : (system : System) (w : World) (g : Lcg) → 0 < length (able system w 0 system.components)
    → IsOf system.components 0 (choice g (able system w 0 system.components)).leaf
chosen_is system w g some =
    able_is system w 0 system.components (drawn g (length (able system w 0 system.components))).0
    (mod_below (pcg32 g).0 (length (able system w 0 system.components)) some)

-- and so is one that is read at a number that was drawn
pub leaf_below : (system : System) (w : World) (g h : Lcg) (leaves : List ℕ) (place leaf : ℕ) → leaves ≡ able system w 0 system.components
    → 0 < length leaves → (place, h) ≡ drawn g (length leaves) → leaf ≡ get_or leaves place 0 → leaf < length system.components
leaf_below system w g h leaves place leaf is some drawn at =
    let here = able system w 0 system.components in
    let less : place < length leaves = draw_is g h place (length leaves) some drawn in
    let found = able_is system w 0 system.components place (subst (λ (l : List ℕ). place < length l) is less) in
    let same : leaf ≡ get_or here place 0 = at ∙ ap (λ (l : List ℕ). get_or l place 0) is in
    let inside = found.less in
    let number = found.number in
    omega (arith, same, inside, number)

-- a leaf is chosen where there is one
some_first : (leaves : List ℕ) (x : ℕ) (rest : List ℕ) → leaves ≡ x ∷ rest → 0 < length leaves
some_first leaves x rest e = let long = ap length e in omega (arith, long)

-- A RUN OVER THEM

module _ (system : System) (called : (x : ℕ) (c : Component) → slice_get system.components x ≡ Some c → IsCalled system.components x) where
  module _ (n : ℕ) (w : World) (g : Lcg) where
    abbrev leaves : List ℕ
    leaves = able system w 0 system.components

    abbrev most : ℕ
    most = min (choice g leaves).most (suc n)

    abbrev taken : ℕ × World
    taken = while_can most system w (choice g leaves).leaf

    few : taken.0 ≤ suc n
    few =
        let h = while_few most system w (choice g leaves).leaf in
        let less : most ≤ suc n = grind (arith, nat_tests) in
        omega (arith, h, less)

    is_called : 0 < length leaves → IsCalled system.components (choice g leaves).leaf
    is_called some =
        let is = chosen_is system w g some in
        let number = is.number in
        subst (IsCalled system.components) (omega (arith, number)) (called is.place is.found is.there)

    -- a choice, and what comes after it
    choice_taken : (more : Taken) → IsTaken system (suc n - taken.0) taken.1 more → (found : List ℕ) → leaves ≡ found
        → IsTaken system (suc n) w (where_some found (no_turns (suc n) w) (record more { turns = reported_turns (choice g leaves).leaf taken.0 ++ more.turns }))
    choice_taken more h [] e = record { turns = tt; counted = omega arith; runs = λ ran at. at }
    choice_taken more h (x ∷ rest) e =
        both_taken system (suc n) w (record { turns = reported_turns (choice g leaves).leaf taken.0; left = suc n - taken.0; world = taken.1 }) more
        (one_taken system (suc n) w taken.1 (choice g leaves).leaf taken.0 (is_called (some_first leaves x rest e)) few
        (while_runs most system w (choice g leaves).leaf)) h

  pub choices_taken : (k n : ℕ) (w : World) (g : Lcg) → IsTaken system n w (choices k system n w g)
  choices_taken zero n w g = record { turns = tt; counted = omega arith; runs = λ ran at. at }
  choices_taken (suc k) zero w g = record { turns = tt; counted = omega arith; runs = λ ran at. at }
  choices_taken (suc k) (suc n) w g =
      let t = taken n w g in
      let after = (choice g (leaves n w g)).generator in
      choice_taken n w g (choices k system (suc n - t.0) t.1 after) (choices_taken k (suc n - t.0) t.1 after) (leaves n w g) refl

-- WHAT IS LISTED OF THEM

-- further choices are to come: what was listed, and their turns, are those of the whole
pub record GoesChoices (whole : Taken) (system : System) (lines left : ℕ) (now : World) (g : Lcg) (before after : List TurnLine) : Type 0 where
  pub done : List (ℕ × ℕ)
  pub turns : whole.turns ≡ done ++ (choices lines system left now g).turns
  pub left_is : whole.left ≡ (choices lines system left now g).left
  pub world_is : whole.world ≡ (choices lines system left now g).world
  pub listed : after ≡ before ++ as_lines done

pub choices_first : (whole : Taken) (system : System) (lines left : ℕ) (w : World) (g : Lcg) (o : List TurnLine)
    → whole ≡ choices lines system left w g → GoesChoices whole system lines left w g o o
choices_first whole system lines left w g o is =
    record {
      done = [];
      turns = ap (λ (t : Taken). t.turns) is;
      left_is = ap (λ (t : Taken). t.left) is;
      world_is = ap (λ (t : Taken). t.world) is;
      listed = sym (append-nil o);
    }

some_here : (leaves : List ℕ) (none some : Taken) → 0 < length leaves → where_some leaves none some ≡ some
some_here [] none some less = absurd (omega (arith, less))
some_here (x ∷ rest) none some less = refl

none_here : (leaves : List ℕ) (none some : Taken) → leaves ≡ [] → where_some leaves none some ≡ none
none_here [] none some e = refl
none_here (x ∷ rest) none some e = absurd (let long = ap length e in omega (arith, long))

-- the turns after a choice
abbrev pub after_choice : System → ℕ → ℕ → World → Lcg → Taken
after_choice system lines left w g =
    let leaves = able system w 0 system.components in
    let taken = while_can (min (choice g leaves).most left) system w (choice g leaves).leaf in
    choices lines system (left - taken.0) taken.1 (choice g leaves).generator

-- those of a choice
abbrev pub of_choice : System → ℕ → World → Lcg → List (ℕ × ℕ)
of_choice system left w g =
    let leaves = able system w 0 system.components in
    reported_turns (choice g leaves).leaf (while_can (min (choice g leaves).most left) system w (choice g leaves).leaf).0

choices_step : (system : System) (lines left : ℕ) (w : World) (g : Lcg) → 0 < lines → 0 < left → 0 < length (able system w 0 system.components)
    → choices lines system left w g
    ≡ record (after_choice system (lines - 1) left w g) { turns = of_choice system left w g ++ (after_choice system (lines - 1) left w g).turns }
choices_step system zero left w g line turn some = absurd (omega (arith, line))
choices_step system (suc k) zero w g line turn some = absurd (omega (arith, turn))
choices_step system (suc k) (suc n) w g line turn some =
    let one : k ≡ suc k - 1 = omega arith in
    some_here (able system w 0 system.components) (no_turns (suc n) w)
    (record (after_choice system k (suc n) w g) { turns = of_choice system (suc n) w g ++ (after_choice system k (suc n) w g).turns }) some
    ∙ ap (λ (m : ℕ).
    let more = after_choice system m (suc n) w g in
    let t : Taken = record more { turns = of_choice system (suc n) w g ++ more.turns } in t) one

-- they end where there is no line more, no turn more, or no leaf that can take one
pub choices_none : (system : System) (lines left : ℕ) (w : World) (g : Lcg) → (0 < lines → 0 < left → able system w 0 system.components ≡ [])
    → choices lines system left w g ≡ no_turns left w
choices_none system zero left w g over = refl
choices_none system (suc k) zero w g over = refl
choices_none system (suc k) (suc n) w g over =
    none_here (able system w 0 system.components) (no_turns (suc n) w)
    (record (after_choice system k (suc n) w g) { turns = of_choice system (suc n) w g ++ (after_choice system k (suc n) w g).turns })
    (over (omega arith) (omega arith))

module _ (whole : Taken) (system : System) (lines left : ℕ) (now : World) (g : Lcg) (before between after : List TurnLine)
    (h : GoesChoices whole system lines left now g before between) where
  abbrev here : List ℕ
  here = able system now 0 system.components

  abbrev mine : List (ℕ × ℕ)
  mine = of_choice system left now g

  module _ (line : 0 < lines) (turn : 0 < left) (some : 0 < length here) where
    step : choices lines system left now g
        ≡ record (after_choice system (lines - 1) left now g) { turns = mine ++ (after_choice system (lines - 1) left now g).turns }
    step = choices_step system lines left now g line turn some

    all_turns : whole.turns ≡ h.done ++ (mine ++ (after_choice system (lines - 1) left now g).turns)
    all_turns = h.turns ∙ ap (λ (t : Taken). h.done ++ t.turns) step

    -- a choice more
    pub choices_on : (taken : ℕ) (new : World)
        → while_can (min (choice g here).most left) system now (choice g here).leaf ≡ (taken, new)
        → after ≡ between ++ as_lines mine
        → GoesChoices whole system (lines - 1) (left - taken) new (choice g here).generator before after
    choices_on taken new is listed =
        let there : after_choice system (lines - 1) left now g ≡ choices (lines - 1) system (left - taken) new (choice g here).generator =
        ap (λ (p : ℕ × World). choices (lines - 1) system (left - p.0) p.1 (choice g here).generator) is in
        record {
          done = h.done ++ mine;
          turns = all_turns ∙ (ap (λ (t : Taken). h.done ++ (mine ++ t.turns)) there
              ∙ sym (append_assoc h.done mine (choices (lines - 1) system (left - taken) new (choice g here).generator).turns));
          left_is = h.left_is ∙ (ap (λ (t : Taken). t.left) step ∙ ap (λ (t : Taken). t.left) there);
          world_is = h.world_is ∙ (ap (λ (t : Taken). t.world) step ∙ ap (λ (t : Taken). t.world) there);
          listed = listed_both h.done mine before between after h.listed listed;
        }

-- all were listed
pub choices_end : (whole : Taken) (system : System) (lines left : ℕ) (now : World) (g : Lcg) (before after : List TurnLine)
    → GoesChoices whole system lines left now g before after → (0 < lines → 0 < left → able system now 0 system.components ≡ [])
    → IsThrough whole left now before after
choices_end whole system lines left now g before after h over =
    let none = choices_none system lines left now g over in
    record {
      left_is = sym (h.left_is ∙ ap (λ (t : Taken). t.left) none);
      world_is = sym (h.world_is ∙ ap (λ (t : Taken). t.world) none);
      listed = subst (λ (l : List (ℕ × ℕ)). after ≡ before ++ as_lines l)
          (sym (h.turns ∙ (ap (λ (t : Taken). h.done ++ t.turns) none ∙ append-nil h.done))) h.listed;
    }
