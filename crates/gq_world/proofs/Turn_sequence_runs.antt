-- Turns, one after the other.
use Rattle.std.proofs.Common.{◌≡◌, ℕ, zero, suc, ◌+◌, ◌-◌, ◌<◌, ◌≤◌, List, [], ◌∷◌, ◌++◌, take, drop, Option, Some, None, Result, Ok, Err, length, get_or}
use Rattle.std.proofs.Common.{refl, ap, sym, ◌∙◌, subst, arith, add-one, append_assoc, append-nil}
use Rattle.std.proofs.lemmas.List.{take-append-drop}
use Rattle.std.proofs.Math.Seq.{drop-cons}
use Rattle.std.specs.Prelude.{slice_get, false}
use Rattle.std.specs.Io.KnownBytes.{Appends}
use Rattle.gq_model.specs.declared.act.Act.{Act}
use Rattle.gq_model.specs.declared.act.Act.TheVariants.{Turns, Sets, Submits}
use Rattle.gq_model.specs.declared.act.TurnLine.{TurnLine}
use Rattle.gq_model.specs.texts.Turns.{acts_from, line_acts}
use Rattle.gq_model.specs.machine.Scenario.{Scenario, System, system}
use Rattle.gq_model.specs.declared.fault.Wrong.{Wrong}
use Rattle.gq_model.specs.machine.Doing.{Stepped}
use Rattle.gq_model.specs.machine.Step.{next}
use Rattle.gq_model.specs.machine.Run.{Ran, Acts, label_at, line_of, after_step, turn_from, turns_of, set_input, set_from, submit, submit_from, act_on, run_on}
use Rattle.gq_machine.proofs.Many_machine_turns.{turns_then}
use Rattle.gq_world.specs.World_between_turns.{World}
use Rattle.gq_output.specs.Writes.{IsPrefix}
use Rattle.gq_output.specs.declared.counted.Counted.{Counted}
use Rattle.gq_output.specs.Writer_failures.{written_to}
use Rattle.gq_init.specs.Turn_items.{IsOf}
use Rattle.gq_world.specs.internal.Act_transitions.{going, line_on, lines_on, AreOf, HasRun, HasLeft, IsCut, RunsThrough}
use Rattle.gq_output.proofs.Written_byte_facts.{appends_nothing, appends_both}

-- TEXTS GROW

-- what a run has written stays, and more follows
Grows : Ran → Ran → Type 0
Grows old new = (more : List ℕ) × (new.text ≡ old.text ++ more)

grows_by : (system : System) (x : ℕ) (ran : Ran) (step : Stepped) → Grows ran (after_step system x ran step)
unfolding Grows
grows_by system x ran (Ok p) = (line_of (label_at (slice_get system.components x)) p.1, refl)
grows_by system x ran (Err wrong) = ([], sym (append-nil ran.text))

grows_from : (system : System) (x : ℕ) (ran : Ran) (wrong : Option (ℕ × Wrong)) → Grows ran (turn_from system x ran wrong)
unfolding Grows
grows_from system x ran None = grows_by system x ran (next system ran.world x)
grows_from system x ran (Some p) = ([], sym (append-nil ran.text))

pub turns_grow : (system : System) (x n : ℕ) (ran : Ran) → (more : List ℕ) × ((turns_of system x n ran).text ≡ ran.text ++ more)
unfolding Grows
turns_grow system x zero ran = ([], sym (append-nil ran.text))
turns_grow system x (suc n) ran =
    let a = grows_from system x ran ran.wrong in
    let b = turns_grow system x n (turn_from system x ran ran.wrong) in
    (a.0 ++ b.0, b.1 ∙ (ap (λ t. t ++ b.0) a.1 ∙ append_assoc ran.text a.0 b.0))

-- TURNS UP TO A LINE

joined_here : (prefix text cut more : List ℕ) → (prefix ++ text) ++ cut ++ more ≡ prefix ++ (text ++ cut) ++ more
joined_here prefix text cut more = ap (λ l. l ++ more) (append_assoc prefix text cut)

-- a line between what came before it and what follows, parted
parted : (prefix line more : List ℕ) (k : ℕ) → (prefix ++ line) ++ more ≡ prefix ++ take k line ++ (drop k line ++ more)
parted prefix line more k =
    append_assoc prefix line more
    ∙ (ap (λ l. prefix ++ (l ++ more)) (sym (take-append-drop k line))
    ∙ (ap (λ l. prefix ++ l) (append_assoc (take k line) (drop k line) more) ∙ sym (append_assoc prefix (take k line) (drop k line ++ more))))

whole_is : (count left : ℕ) → left ≤ count → count ≡ (count - left) + left
whole_is count left less = omega (arith, less)

-- turns, as those up to a place and the rest
split : (system : System) (x count left : ℕ) → left ≤ count → (r : Ran)
    → turns_of system x count r ≡ turns_of system x left (turns_of system x (count - left) r)
split system x count left less r = ap (λ n. turns_of system x n r) (whole_is count left less) ∙ turns_then system x (count - left) left r

module _ (s : Scenario) (x count left : ℕ) (less : left ≤ count) (old new : World) (line : List ℕ)
    (took : (prefix : List ℕ) → turns_of (system s) x (count - left) (going old.world prefix) ≡ going new.world (prefix ++ line)) where
  pub has_run : (before after : Option (List ℕ)) → Appends before after line → new.stopped ≡ false
      → HasRun (turns_of (system s) x (count - left)) old new before after
  has_run before after written running = record { text = line; written = written; ran = took; running = running }

  pub is_cut : (before after : Option (List ℕ)) → IsPrefix before after line → IsCut (turns_of (system s) x count) old before after
  is_cut before after prefix =
      let rest : (f : List ℕ) → (more : List ℕ) × ((turns_of (system s) x left (going new.world (f ++ line))).text ≡ (f ++ line) ++ more) =
      λ f. turns_grow (system s) x left (going new.world (f ++ line)) in
      record {
        text = take prefix.0 line;
        more = λ f. drop prefix.0 line ++ (rest f).0;
        written = prefix.1;
        prefix = λ f.
            ap (λ (r : Ran). r.text) (split (system s) x count left less (going old.world f))
            ∙ (ap (λ (r : Ran). (turns_of (system s) x left r).text) (took f) ∙ ((rest f).1 ∙ parted f line (rest f).0 prefix.0));
      }

module _ (s : Scenario) (x l r : ℕ) (less : r ≤ l) (all : Ran → Ran) (old now new : World) (same : now.scenario ≡ s)
    (before between after : Option (List ℕ)) where
  pub goes_on : HasLeft (turns_of (system s) x l) all old now before between
      → HasRun (turns_of (system now.scenario) x (l - r)) now new between after → HasLeft (turns_of (system s) x r) all old new before after
  goes_on h run =
      let q = subst (λ (t : Scenario). HasRun (turns_of (system t) x (l - r)) now new between after) same run in
      record {
        text = h.text ++ q.text;
        written = appends_both before between after h.text q.text h.written q.written;
        same = λ prefix. ap (λ t. turns_of (system s) x r (going new.world t)) (sym (append_assoc prefix h.text q.text))
            ∙ (ap (turns_of (system s) x r) (sym (q.ran (prefix ++ h.text)))
            ∙ (sym (split (system s) x l r less (going now.world (prefix ++ h.text))) ∙ h.same prefix));
        running = q.running;
      }

  pub cut_on : HasLeft (turns_of (system s) x l) all old now before between → IsCut (turns_of (system now.scenario) x l) now between after
      → IsCut all old before after
  cut_on h cut =
      let k = subst (λ (t : Scenario). IsCut (turns_of (system t) x l) now between after) same cut in
      record {
        text = h.text ++ k.text;
        more = λ prefix. k.more (prefix ++ h.text);
        written = appends_both before between after h.text k.text h.written k.written;
        prefix = λ prefix.
            ap (λ (q : Ran). q.text) (sym (h.same prefix))
            ∙ (k.prefix (prefix ++ h.text) ∙ joined_here prefix h.text k.text (k.more (prefix ++ h.text)));
      }

-- at the start all is left
pub starts : (all : Ran → Ran) (old : World) (before : Option (List ℕ)) → old.stopped ≡ false → HasLeft all all old old before before
starts all old before r = record {
  text = [];
  written = appends_nothing before;
  same = λ prefix. ap (λ l. all (going old.world l)) (append-nil prefix);
  running =
      r;
}

-- at the end nothing is
pub ends : (s : Scenario) (x count left : ℕ) → left ≡ 0 → (all : Ran → Ran) (old new : World) (before after : Option (List ℕ))
    → HasLeft (turns_of (system s) x left) all old new before after → HasRun all old new before after
ends s x count left e all old new before after h =
    record {
      text = h.text;
      written = h.written;
      ran = λ prefix. sym (h.same prefix) ∙ ap (λ n. turns_of (system s) x n (going new.world (prefix ++ h.text))) e;
      running = h.running;
    }

-- ALL TURNS

-- a setting shows nothing
set_text : (system : System) (x i n : ℕ) (ran : Ran) (o : Option (ℕ × Wrong)) → (set_from system x i n ran o).text ≡ ran.text
set_text system x i n ran None = refl
set_text system x i n ran (Some p) = refl

submit_text : (x i : ℕ) (ran : Ran) (o : Option (ℕ × Wrong)) → (submit_from x i ran o).text ≡ ran.text
submit_text x i ran None = refl
submit_text x i ran (Some p) = refl

act_grows : (system : System) (x : ℕ) (a : Act) (ran : Ran) → (more : List ℕ) × ((act_on system x a ran).text ≡ ran.text ++ more)
act_grows system x (Turns n) ran = turns_grow system x n ran
act_grows system x (Sets i n) ran = ([], set_text system x i n ran ran.wrong ∙ sym (append-nil ran.text))
act_grows system x (Submits i) ran = ([], submit_text x i ran ran.wrong ∙ sym (append-nil ran.text))

pub runs_grow : (system : System) (turns : Acts) (ran : Ran) → (more : List ℕ) × ((run_on system turns ran).text ≡ ran.text ++ more)
runs_grow system [] ran = ([], sym (append-nil ran.text))
runs_grow system (t ∷ turns) ran =
    let a = act_grows system t.0 t.1 ran in
    let b = runs_grow system turns (act_on system t.0 t.1 ran) in
    (a.0 ++ b.0, b.1 ∙ (ap (λ l. l ++ b.0) a.1 ∙ append_assoc ran.text a.0 b.0))

pub lines_grow : (system : System) (lines : List TurnLine) (ran : Ran) → (more : List ℕ) × ((lines_on system lines ran).text ≡ ran.text ++ more)
lines_grow system [] ran = ([], sym (append-nil ran.text))
lines_grow system (line ∷ lines) ran =
    let a = runs_grow system (line_acts system ran line) ran in
    let b = lines_grow system lines (line_on system line ran) in
    (a.0 ++ b.0, b.1 ∙ (ap (λ l. l ++ b.0) a.1 ∙ append_assoc ran.text a.0 b.0))

pub run_on_both : (system : System) (xs ys : Acts) (ran : Ran) → run_on system (xs ++ ys) ran ≡ run_on system ys (run_on system xs ran)
run_on_both system [] ys ran = refl
run_on_both system (t ∷ xs) ys ran = run_on_both system xs ys (act_on system t.0 t.1 ran)

-- what lines give is what their acts do
pub lines_are : (system : System) (lines : List TurnLine) (ran : Ran) → run_on system (acts_from system ran lines) ran ≡ lines_on system lines ran
lines_are system [] ran = refl
lines_are system (line ∷ lines) ran =
    let acts = line_acts system ran line in
    run_on_both system acts (acts_from system (run_on system acts ran) lines) ran ∙ lines_are system lines (run_on system acts ran)

pub joined : (prefix text cut more after : List ℕ) → (((prefix ++ text) ++ cut) ++ more) ++ after ≡ prefix ++ (text ++ cut) ++ (more ++ after)
joined prefix text cut more after = append_assoc ((prefix ++ text) ++ cut) more after ∙ ap (λ l. l ++ (more ++ after)) (append_assoc prefix text cut)

pub below_at : (n : ℕ) (lines : List TurnLine) (i : ℕ) (t : TurnLine) → drop i lines ≡ t ∷ drop (i + 1) lines → AreOf n (drop i lines)
    → IsOf n t × AreOf n (drop (i + 1) lines)
below_at n lines i t e b = subst (AreOf n) e b

-- a part that comes next, and then the rest
module _ (rest one left all : Ran → Ran) (old now new : World) (before between after : Option (List ℕ))
    (split : (ran : Ran) → rest (one ran) ≡ left ran) where
  pub part_on : HasLeft left all old now before between → HasRun one now new between after → HasLeft rest all old new before after
  part_on h r =
      record {
        text = h.text ++ r.text;
        written = appends_both before between after h.text r.text h.written r.written;
        same = λ prefix.
            ap (λ l. rest (going new.world l)) (sym (append_assoc prefix h.text r.text))
            ∙ (ap rest (sym (r.ran (prefix ++ h.text))) ∙ (split (going now.world (prefix ++ h.text)) ∙ h.same prefix));
        running = r.running;
      }

  pub part_cut : ((ran : Ran) → (more : List ℕ) × ((rest ran).text ≡ ran.text ++ more)) → HasLeft left all old now before between
      → IsCut one now between after → IsCut all old before after
  part_cut grows h k =
      let more : (prefix : List ℕ) → (more : List ℕ) × ((rest (one (going now.world (prefix ++ h.text)))).text
      ≡ (one (going now.world (prefix ++ h.text))).text ++ more) =
      λ prefix. grows (one (going now.world (prefix ++ h.text))) in
      record {
        text = h.text ++ k.text;
        more = λ prefix. k.more (prefix ++ h.text) ++ (more prefix).0;
        written = appends_both before between after h.text k.text h.written k.written;
        prefix = λ prefix.
            ap (λ (r : Ran). r.text) (sym (h.same prefix))
            ∙ (ap (λ (r : Ran). r.text) (sym (split (going now.world (prefix ++ h.text))))
            ∙ ((more prefix).1
            ∙ (ap (λ l. l ++ (more prefix).0) (k.prefix (prefix ++ h.text)) ∙ joined prefix h.text k.text (k.more (prefix ++ h.text)) (more prefix).0)));
      }

-- a line that comes next
module _ (s : Scenario) (lines : List TurnLine) (i : ℕ) (t : TurnLine) (here : drop i lines ≡ t ∷ drop (i + 1) lines) (old now new : World)
    (same : now.scenario ≡ s) (before between after : Option (List ℕ)) where
  next_is : (ran : Ran) → lines_on (system s) (drop (i + 1) lines) (line_on (system s) t ran) ≡ lines_on (system s) (drop i lines) ran
  next_is ran = ap (λ l. lines_on (system s) l ran) (sym here)

  pub goes_on_all : HasLeft (lines_on (system s) (drop i lines)) (lines_on (system s) lines) old now before between
      → HasRun (line_on (system now.scenario) t) now new between after
      → HasLeft (lines_on (system s) (drop (i + 1) lines)) (lines_on (system s) lines) old new before after
  goes_on_all h ran =
      part_on (lines_on (system s) (drop (i + 1) lines)) (line_on (system s) t) (lines_on (system s) (drop i lines)) (lines_on (system s) lines) old now new
      before between after next_is h (subst (λ z. HasRun (line_on (system z) t) now new between after) same ran)

  pub cut_all : HasLeft (lines_on (system s) (drop i lines)) (lines_on (system s) lines) old now before between
      → IsCut (line_on (system now.scenario) t) now between after → IsCut (lines_on (system s) lines) old before after
  cut_all h cut =
      part_cut (lines_on (system s) (drop (i + 1) lines)) (line_on (system s) t) (lines_on (system s) (drop i lines)) (lines_on (system s) lines) old now new
      before between after next_is (lines_grow (system s) (drop (i + 1) lines)) h
      (subst (λ z. IsCut (line_on (system z) t) now between after) same cut)

-- the line that stands there comes next
pub here_is : (lines : List TurnLine) (i : ℕ) (t : TurnLine) → i < length lines → t ≡ get_or lines i t → drop i lines ≡ t ∷ drop (i + 1) lines
here_is lines i t less e =
    drop-cons lines i t less ∙ (ap (λ h. h ∷ drop (suc i) lines) (sym e) ∙ ap (λ n. t ∷ drop n lines) (sym (add-one i)))

-- SETTINGS AND SIGNALS

-- a setting writes nothing, and leaves the world that it makes
pub set_runs : {W E : Type 0} (contents : W → Option (List ℕ)) (old new : World) (out : Counted W) (x i n : ℕ) → new.scenario ≡ old.scenario
    → new.world ≡ set_input (system old.scenario) old.world x i n → new.stopped ≡ false → new.signals ≡ old.signals
    → RunsThrough {W = W} {A = Unit {0}} {E = E} contents (act_on (system old.scenario) x (Sets i n)) 1 old new out out (Ok tt)
set_runs contents old new out x i n same is running signals =
    record {
      scenario = same;
      signals = omega (arith, signals);
      ran = record {
        text = [];
        written = appends_nothing (written_to contents out);
        ran = λ prefix. (λ k. record { world = sym is k; text = sym (append-nil prefix) k; wrong = None });
        running = running;
      };
      counted = refl;
      cut = tt;
      raised = tt;
    }

-- so does a signal
pub submit_runs : {W E : Type 0} (contents : W → Option (List ℕ)) (old new : World) (out : Counted W) (x i : ℕ) → new.scenario ≡ old.scenario
    → new.world ≡ submit old.world x i → new.stopped ≡ false → new.signals ≤ old.signals + 1
    → RunsThrough {W = W} {A = Unit {0}} {E = E} contents (act_on (system old.scenario) x (Submits i)) 1 old new out out (Ok tt)
submit_runs contents old new out x i same is running signals =
    record {
      scenario = same;
      signals = signals;
      ran = record {
        text = [];
        written = appends_nothing (written_to contents out);
        ran = λ prefix. (λ k. record { world = sym is k; text = sym (append-nil prefix) k; wrong = None });
        running = running;
      };
      counted = refl;
      cut = tt;
      raised = tt;
    }

-- one signal more may come
pub runs_more : {W A E : Type 0} (contents : W → Option (List ℕ)) (turns : Ran → Ran) (old new : World) (before after : Counted W) (result : Result A E)
    → RunsThrough contents turns 0 old new before after result → RunsThrough contents turns 1 old new before after result
runs_more contents turns old new before after result h =
    record { scenario = h.scenario; signals = (let few = h.signals in omega (arith, few)); ran = h.ran; counted = h.counted; cut = h.cut; raised = h.raised }
