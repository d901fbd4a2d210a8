-- Turns with tests, one after the other.
use Rattle.std.proofs.Common.{◌≡◌, ℕ, zero, suc, ◌+◌, ◌-◌, ◌<◌, List, [], ◌∷◌, ◌++◌, take, drop, Option, Some, None, Ok, Err, refl, ap, sym, ◌∙◌, arith}
use Rattle.std.proofs.Common.{append_assoc, append-nil}
use Rattle.std.proofs.lemmas.List.{take-append-drop}
use Rattle.std.specs.Io.KnownBytes.{Appends}
use Rattle.gq_model.specs.declared.act.Act.{Act}
use Rattle.gq_model.specs.declared.act.Act.TheVariants.{Turns, Sets, Submits}
use Rattle.gq_model.specs.declared.act.TurnLine.{TurnLine}
use Rattle.gq_model.specs.texts.Turns.{line_acts}
use Rattle.gq_model.specs.declared.fault.Wrong.{Wrong}
use Rattle.gq_model.specs.machine.Doing as doing
use Rattle.gq_model.specs.machine.Run.{Ran, Acts, after_step, turn_from, turns_of, set_input, set_from, submit, submit_from, act_on, run_on}
use Rattle.gq_model.specs.machine.Scenario.{Scenario, System, system}
use Rattle.gq_model.specs.machine.Step.{next}
use Rattle.gq_model.specs.machine.World.{World}
use Rattle.gq_output.specs.Writes.{IsPrefix}
use Rattle.gq_output.proofs.Written_byte_facts.{appends_nothing, appends_both}
use Rattle.gq_world.specs.World_between_turns.{line_reported}
use Rattle.gq_world.specs.internal.Act_transitions.{going, lines_on}
use Rattle.gq_world.proofs.Turn_sequence_runs.{joined}
use Rattle.gq_unverified.specs.internal.Taking.{HasCome, HasLeft, IsCut}

-- ONE TURN

module _ (s : Scenario) (x : ℕ) (old new : World) (before after : Option (List ℕ)) where
  abbrev one_turn : Ran → Ran
  one_turn = turns_of (system s) x 1

  -- a step, and its line
  pub came : (step : doing.Event) → next (system s) old x ≡ Ok (new, step) → Appends before after (line_reported s x step)
      → HasCome one_turn old new None before after
  came step e written =
      record { text = line_reported s x step; written = written; ran = λ prefix. ap (after_step (system s) x (going old prefix)) e }

  -- a step, and a prefix of its line
  pub cut_line : (step : doing.Event) → next (system s) old x ≡ Ok (new, step) → IsPrefix before after (line_reported s x step)
      → IsCut one_turn old before after
  cut_line step e f =
      let line = line_reported s x step in
      record {
        text = take f.0 line;
        more = λ prefix. drop f.0 line;
        written = f.1;
        prefix = λ prefix.
            ap (λ r. (after_step (system s) x (going old prefix) r).text) e
            ∙ (ap (λ l. prefix ++ l) (sym (take-append-drop f.0 line)) ∙ sym (append_assoc prefix (take f.0 line) (drop f.0 line)));
      }

-- a wrong step changes nothing
pub came_wrong : (s : Scenario) (x : ℕ) (old new : World) (wrong : Wrong) (before : Option (List ℕ)) → next (system s) old x ≡ Err wrong → new ≡ old
    → HasCome (turns_of (system s) x 1) old new (Some (x, wrong)) before before
came_wrong s x old new wrong before e same =
    record {
      text = [];
      written = appends_nothing before;
      ran = λ prefix.
          ap (after_step (system s) x (going old prefix)) e
          ∙ (λ i. record { world = sym same i; text = sym (append-nil prefix) i; wrong = Some (x, wrong) });
    }

-- a setting writes nothing, and leaves the world that it makes
pub came_set : (system : System) (x i n : ℕ) (old new : World) (before : Option (List ℕ)) → new ≡ set_input system old x i n
    → HasCome (act_on system x (Sets i n)) old new None before before
came_set system x i n old new before same =
    record {
      text = [];
      written = appends_nothing before;
      ran = λ prefix. (λ k. record { world = sym same k; text = sym (append-nil prefix) k; wrong = None });
    }

-- so does a signal
pub came_submit : (system : System) (x i : ℕ) (old new : World) (before : Option (List ℕ)) → new ≡ submit old x i
    → HasCome (act_on system x (Submits i)) old new None before before
came_submit system x i old new before same =
    record {
      text = [];
      written = appends_nothing before;
      ran = λ prefix. (λ k. record { world = sym same k; text = sym (append-nil prefix) k; wrong = None });
    }

-- AFTER A WRONG STEP

pub turns_stuck : (system : System) (x n : ℕ) (ran : Ran) (p : ℕ × Wrong) → ran.wrong ≡ Some p → turns_of system x n ran ≡ ran
turns_stuck system x zero ran p e = refl
turns_stuck system x (suc n) ran p e =
    let same : turn_from system x ran ran.wrong ≡ ran = ap (turn_from system x ran) e in
    ap (turns_of system x n) same ∙ turns_stuck system x n ran p e

pub act_stuck : (system : System) (x : ℕ) (a : Act) (ran : Ran) (p : ℕ × Wrong) → ran.wrong ≡ Some p → act_on system x a ran ≡ ran
act_stuck system x (Turns n) ran p e = turns_stuck system x n ran p e
act_stuck system x (Sets i n) ran p e = ap (set_from system x i n ran) e
act_stuck system x (Submits i) ran p e = ap (submit_from x i ran) e

pub runs_stuck : (system : System) (turns : Acts) (ran : Ran) (p : ℕ × Wrong) → ran.wrong ≡ Some p → run_on system turns ran ≡ ran
runs_stuck system [] ran p e = refl
runs_stuck system (t ∷ turns) ran p e = ap (run_on system turns) (act_stuck system t.0 t.1 ran p e) ∙ runs_stuck system turns ran p e

pub lines_stuck : (system : System) (lines : List TurnLine) (ran : Ran) (p : ℕ × Wrong) → ran.wrong ≡ Some p → lines_on system lines ran ≡ ran
lines_stuck system [] ran p e = refl
lines_stuck system (line ∷ lines) ran p e =
    ap (lines_on system lines) (runs_stuck system (line_acts system ran line) ran p e) ∙ lines_stuck system lines ran p e

-- TURNS AND WHAT FOLLOWS THEM

-- at the start all is left
pub starts : (all : Ran → Ran) (old : World) (before : Option (List ℕ)) → HasLeft all all old old before before
starts all old before =
    record { text = []; written = appends_nothing before; same = λ prefix. ap (λ l. all (going old l)) (append-nil prefix) }

-- what is left is one part, and the rest
module _ (left rest one all : Ran → Ran) (split : (r : Ran) → left r ≡ rest (one r)) (old now : World) (before between after : Option (List ℕ))
    (h : HasLeft left all old now before between) where
  abbrev here : List ℕ → Ran
  here prefix = going now (prefix ++ h.text)

  pub goes_on : (new : World) → HasCome one now new None between after → HasLeft rest all old new before after
  goes_on new t =
      record {
        text = h.text ++ t.text;
        written = appends_both before between after h.text t.text h.written t.written;
        same = λ prefix.
            ap (λ l. rest (going new l)) (sym (append_assoc prefix h.text t.text))
            ∙ (ap rest (sym (t.ran (prefix ++ h.text))) ∙ (sym (split (here prefix)) ∙ h.same prefix));
      }

  pub ends_wrong : ((r : Ran) (p : ℕ × Wrong) → r.wrong ≡ Some p → rest r ≡ r) → (new : World) (p : ℕ × Wrong)
      → HasCome one now new (Some p) between after → HasCome all old new (Some p) before after
  ends_wrong stuck new p t =
      let came : List ℕ → Ran = λ l. record { world = new; text = l; wrong = Some p } in
      record {
        text = h.text ++ t.text;
        written = appends_both before between after h.text t.text h.written t.written;
        ran = λ prefix.
            sym (h.same prefix)
            ∙ (split (here prefix)
            ∙ (ap rest (t.ran (prefix ++ h.text)) ∙ (stuck (came ((prefix ++ h.text) ++ t.text)) p refl ∙ ap came (append_assoc prefix h.text t.text))));
      }

  pub is_cut : ((r : Ran) → (more : List ℕ) × ((rest r).text ≡ r.text ++ more)) → IsCut one now between after → IsCut all old before after
  is_cut grow k =
      let more : (prefix : List ℕ) → (more : List ℕ) × ((rest (one (here prefix))).text ≡ (one (here prefix)).text ++ more) =
      λ prefix. grow (one (here prefix)) in
      record {
        text = h.text ++ k.text;
        more = λ prefix. k.more (prefix ++ h.text) ++ (more prefix).0;
        written = appends_both before between after h.text k.text h.written k.written;
        prefix = λ prefix.
            ap (λ (r : Ran). r.text) (sym (h.same prefix))
            ∙ (ap (λ (r : Ran). r.text) (split (here prefix))
            ∙ ((more prefix).1
            ∙ (ap (λ l. l ++ (more prefix).0) (k.prefix (prefix ++ h.text)) ∙ joined prefix h.text k.text (k.more (prefix ++ h.text)) (more prefix).0)));
      }

-- at the end nothing is left
pub ends : (system : System) (x left : ℕ) → left ≡ 0 → (all : Ran → Ran) (old new : World) (before after : Option (List ℕ))
    → HasLeft (turns_of system x left) all old new before after → HasCome all old new None before after
ends system x left e all old new before after h =
    record { text = h.text; written = h.written; ran = λ prefix. sym (h.same prefix) ∙ ap (λ n. turns_of system x n (going new (prefix ++ h.text))) e }

pub ends_all : (system : System) (left : List TurnLine) → left ≡ [] → (all : Ran → Ran) (old new : World) (before after : Option (List ℕ))
    → HasLeft (lines_on system left) all old new before after → HasCome all old new None before after
ends_all system left e all old new before after h =
    record { text = h.text; written = h.written; ran = λ prefix. sym (h.same prefix) ∙ ap (λ l. lines_on system l (going new (prefix ++ h.text))) e }

pub one_less : (count i : ℕ) → i < count → count - i ≡ suc (count - (i + 1))
one_less count i less = omega (arith, less)

-- turns that are left are one and the rest
pub one_of : (system : System) (x count i : ℕ) → i < count → (r : Ran)
    → turns_of system x (count - i) r ≡ turns_of system x (count - (i + 1)) (turns_of system x 1 r)
one_of system x count i less r = ap (λ n. turns_of system x n r) (one_less count i less)
