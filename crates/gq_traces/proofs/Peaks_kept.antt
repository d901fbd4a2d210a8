-- Peaks that go on through the turns of a run.
use Rattle.std.proofs.Common.{◌≡◌, ◌∙◌, ◌<◌, ◌≤◌, ◌+◌, ℕ, zero, suc, inl, inr, List, [], ◌∷◌, ◌++◌, length, get_or, Option, Some, None, Ok}
use Rattle.std.proofs.Common.{refl, ap, sym, subst, arith}
use Rattle.std.specs.Prelude.{slice_get, slice_set, true, false}
use Rattle.std.proofs.lemmas.Bool.Decides.{eqb_tells}
use Rattle.std.proofs.lemmas.Option.{slice_get_within}
use Rattle.gq_bytecode.specs.Alones.{LocalState}
use Rattle.gq_bytecode.specs.Nexts.{GoesAlone, leaf_with}
use Rattle.gq_laws.proofs.session_links.Written_world_links.{set_else, set_here}
use Rattle.gq_model.proofs.Small_facts.{none_some, some_same}
use Rattle.gq_model.specs.declared.act.Act.TheVariants.{Sets, Submits}
use Rattle.gq_model.specs.declared.fault.Wrong.{Wrong}
use Rattle.gq_model.specs.machine.Amounts.{Resource, Ram, Caps, counts_caps}
use Rattle.gq_model.specs.machine.Doing.{Event, Quiet}
use Rattle.gq_model.specs.machine.Run.{Ran, act_on, set_from, set_input, submit, submit_from, turn_from, turns_of}
use Rattle.gq_model.specs.machine.Scenario.{Scenario, System, system}
use Rattle.gq_model.specs.machine.Step.{next}
use Rattle.gq_model.specs.machine.World as model
use Rattle.gq_model.specs.machine.World.{Leaf, with_leaf}
use Rattle.gq_world.specs.World_between_turns.{World}
use Rattle.gq_traces.specs.Account_peaks.{first_greatest, held_by, peak_at, peak_in, quota_in, used_in}
use Rattle.gq_traces.specs.declared.noted.Use.{Use}
use Rattle.gq_traces.specs.declared.peaks.LeafPeaks.{LeafPeaks}
use Rattle.gq_traces.specs.declared.peaks.Peak.{Peak}
use Rattle.gq_traces.specs.internal.Peaking.{AllNow, AllPeaks, ArePeaksNow, AreRaised, Comes, HasAct, HasTurns, IsIn, IsRaised, Peaked, SameUse}
use Rattle.gq_traces.specs.internal.Peaking.{higher, peak_now}
use Rattle.gq_traces.specs.internal.Noted.{IsUse}
use Rattle.gq_traces.proofs.First_greatest.{no_higher, over_more, stays}
use Rattle.gq_traces.proofs.Runs_on.{first_part, goes_to, last_part, turns_sum}
use Rattle.gq_traces.proofs.Same_use.{same_both, set_same, submit_same}
use Rattle.gq_traces.proofs.Sound_world_leaves.{there_is}

-- STEPS OF A LEAF ALONE

-- the world after such a step
abbrev stepped : model.World → ℕ → Leaf → LocalState → model.World
stepped w x leaf s = with_leaf w x (leaf_with leaf s)

other_held : (r : Resource) (y : ℕ) (w : model.World) (x : ℕ) (leaf : Leaf) (s : LocalState) (o : Option Leaf)
    → held_by r (stepped w x leaf s) y o ≡ held_by r w y o
other_held r y w x leaf s None = refl
other_held r y w x leaf s (Some l) = refl

-- it changes nothing that a leaf holds
alone_used : (r : Resource) (y : ℕ) (w : model.World) (x : ℕ) (leaf : Leaf) (s : LocalState) → slice_get w.leaves x ≡ Some leaf
    → used_in r y (stepped w x leaf s) ≡ used_in r y w
alone_used r y w x leaf s there = elim (eqb_tells y x) [
  | inl e ↦ subst (λ z. used_in r z (stepped w x leaf s) ≡ used_in r z w) (sym e.1)
      (ap (held_by r (stepped w x leaf s) x) (set_here w.leaves x (leaf_with leaf s) leaf there) ∙ ap (held_by r w x) (sym there))
  | inr e ↦ ap (held_by r (stepped w x leaf s) y) (set_else w.leaves x y (leaf_with leaf s) e.1) ∙ other_held r y w x leaf s (slice_get w.leaves y)
]

-- a run that takes such steps
record Stays (system : System) (runs : ℕ → Ran) (n m : ℕ) (now : Ran) (v : model.World) : Type 0 where
  at : IsIn system runs m now v
  first : (r : Resource) (y : ℕ) → first_greatest (λ k. used_in r y (runs k).world) m ≡ first_greatest (λ k. used_in r y (runs k).world) n

alone_stays : (system : System) (x : ℕ) (runs : ℕ → Ran) (m n : ℕ) (now : Ran) (w v : model.World) → HasTurns system x runs n now m
    → IsIn system runs n now w → GoesAlone system x m w v → Stays system runs n (n + m) (turns_of system x m now) v
alone_stays system x runs zero n now w v has at goes =
    let none : n ≡ n + 0 = omega arith in
    subst (λ k. Stays system runs n k now v) none (subst (Stays system runs n n now) goes (record { at = at; first = λ r y. refl }))
alone_stays system x runs (suc m) n now w v has at goes =
    let mid = stepped w x goes.0 goes.1 in
    let next = turn_from system x now now.wrong in
    let then = goes_to system runs x n now w mid Quiet has.0 at goes.4 in
    let rest = alone_stays system x runs m (suc n) next mid v has.1 then goes.5 in
    let end : suc n + m ≡ n + suc m = omega arith in
    subst (λ k. Stays system runs n k (turns_of system x m next) v) end (record {
      at = rest.at;
      first = λ r y. rest.first r y ∙ stays (λ k. used_in r y (runs k).world) n
          (then.same.used r y ∙ (alone_used r y w x goes.0 goes.1 goes.2 ∙ sym (at.same.used r y)));
    })

pub alone_peaked : (w v : World) (x n m : ℕ) (peaks : List LeafPeaks) → v.scenario ≡ w.scenario → v.stopped ≡ false → v.signals ≡ w.signals
    → GoesAlone (system w.scenario) x m w.world v.world
    → Peaked 0 (λ runs now. HasTurns (system w.scenario) x runs n now m) (turns_of (system w.scenario) x m) n (n + m) w v peaks peaks
alone_peaked w v x n m peaks same running signals goes = record {
  scenario = same;
  running = running;
  signals = omega (arith, signals);
  long = refl;
  comes = λ runs now has at. (
      let s = w.scenario in
      let all = system s in
      let st = alone_stays all x runs m n now w.world v.world has at goes in
      let on : (r : Resource) (y : ℕ) → peak_in all (λ k. (runs k).world) r y n ≡ peak_in all (λ k. (runs k).world) r y (n + m) =
      λ r y. ap (peak_at (λ k. used_in r y (runs k).world) (λ k. quota_in all r y (runs k).world)) (sym (st.first r y)) in
      record {
        at = st.at;
        peaks = λ h y p there. (let q = h y p there in record { ram = q.ram ∙ on Ram y; caps = λ two. q.caps two ∙ on Caps y });
      });
}

-- ANY STEP

-- what a leaf has in the world of a run after so many turns
now_at : (all : System) (runs : ℕ → Ran) (n y : ℕ) (v : model.World) (r : Resource) → SameUse all (runs n).world v
    → peak_now all v r y n ≡ peak_at (λ k. used_in r y (runs k).world) (λ k. quota_in all r y (runs k).world) n
now_at all runs n y v r same = λ i. record { used = sym (same.used r y) i; quota = sym (same.quota r y) i; turn = n }

raised_on : (all : System) (runs : ℕ → Ran) (n y : ℕ) (v : model.World) (r : Resource) (old new : Peak) → SameUse all (runs (suc n)).world v
    → old ≡ peak_in all (λ k. (runs k).world) r y n → new ≡ higher old (peak_now all v r y (suc n)) → new ≡ peak_in all (λ k. (runs k).world) r y (suc n)
raised_on all runs n y v r old new same was is =
    is ∙ ((λ i. higher (was i) (now_at all runs (suc n) y v r same i))
    ∙ over_more (λ k. used_in r y (runs k).world) (λ k. quota_in all r y (runs k).world) n)

pub step_peaked : (w v : World) (x n turn : ℕ) (olds news : List LeafPeaks) (event : Event) → v.scenario ≡ w.scenario → v.stopped ≡ false
    → v.signals ≡ w.signals
    → next (system w.scenario) w.world x ≡ Ok (v.world, event) → turn ≡ suc n → AreRaised v.scenario v.world turn olds news
    → Peaked 0 (λ runs now. HasTurns (system w.scenario) x runs n now 1) (turns_of (system w.scenario) x 1) n (suc n) w v olds news
step_peaked w v x n turn olds news event same running signals goes is raised = record {
  scenario = same;
  running = running;
  signals = omega (arith, signals);
  long = raised.long;
  comes = λ runs now has at. (
      let s = w.scenario in
      let all = system s in
      let then = goes_to all runs x n now w.world v.world event has.0 at goes in
      record {
        at = then;
        peaks = λ h y q there. (
            let less = slice_get_within news y q there in
            let long = raised.long in
            let old = there_is olds y (omega (arith, less, long)) in
            let was = h y old.0 old.1 in
            let now = subst (λ m. IsRaised s v.world y m old.0 q) is (subst (λ (t : Scenario). IsRaised t v.world y turn old.0 q) same (raised.raised y old.0 q
            old.1 there)) in
            record {
              ram = raised_on all runs n y v.world Ram old.0.ram q.ram then.same was.ram now.ram;
              caps = λ two. raised_on all runs n y v.world Caps old.0.caps q.caps then.same (was.caps two) (now.caps two);
            });
      });
}

-- A SETTING, OR A SIGNAL

pub set_peaked : (w v : World) (x i k n : ℕ) (peaks : List LeafPeaks) → v.scenario ≡ w.scenario → v.stopped ≡ false → v.signals ≡ w.signals
    → v.world ≡ set_input (system w.scenario) w.world x i k
    → Peaked 1 (λ runs now. HasAct (system w.scenario) x runs n now (Sets i k)) (act_on (system w.scenario) x (Sets i k)) n (n + 0) w v peaks peaks
set_peaked w v x i k n peaks same running signals is =
    let all = system w.scenario in
    let none : n ≡ n + 0 = omega arith in
    subst (λ m. Peaked 1 (λ runs now. HasAct all x runs n now (Sets i k)) (act_on all x (Sets i k)) n m w v peaks peaks) none (record {
      scenario = same;
      running = running;
      signals = omega (arith, signals);
      long = refl;
      comes = λ runs now has at. record {
        at = subst (λ (o : Option (ℕ × Wrong)). IsIn all runs n (set_from all x i k now o) v.world) (sym at.right) (record {
          world = ap (λ (u : model.World). set_input all u x i k) at.world ∙ sym is;
          right = at.right;
          same = subst (SameUse all (runs n).world) (sym is) (same_both all (runs n).world w.world (set_input all w.world x i k) at.same
              (set_same all w.world x i k));
        });
        peaks = λ h. h;
      };
    })

pub submit_peaked : (w v : World) (x i n : ℕ) (peaks : List LeafPeaks) → v.scenario ≡ w.scenario → v.stopped ≡ false → v.signals ≤ w.signals + 1
    → v.world ≡ submit w.world x i
    → Peaked 1 (λ runs now. HasAct (system w.scenario) x runs n now (Submits i)) (act_on (system w.scenario) x (Submits i)) n (n + 0) w v peaks peaks
submit_peaked w v x i n peaks same running signals is =
    let all = system w.scenario in
    let none : n ≡ n + 0 = omega arith in
    subst (λ m. Peaked 1 (λ runs now. HasAct all x runs n now (Submits i)) (act_on all x (Submits i)) n m w v peaks peaks) none (record {
      scenario = same;
      running = running;
      signals = signals;
      long = refl;
      comes = λ runs now has at. record {
        at = subst (λ (o : Option (ℕ × Wrong)). IsIn all runs n (submit_from x i now o) v.world) (sym at.right) (record {
          world = ap (λ (u : model.World). submit u x i) at.world ∙ sym is;
          right = at.right;
          same = subst (SameUse all (runs n).world) (sym is) (same_both all (runs n).world w.world (submit w.world x i) at.same
              (submit_same all w.world x i));
        });
        peaks = λ h. h;
      };
    })

-- SOME TURNS AND THEN OTHERS

pub peaked_none : (has : (ℕ → Ran) → Ran → Type 0) (go : Ran → Ran) (n : ℕ) (w : World) (peaks : List LeafPeaks) → w.stopped ≡ false
    → ((now : Ran) → go now ≡ now) → Peaked 0 has go n n w w peaks peaks
peaked_none has go n w peaks running stands = record {
  scenario = refl;
  running = running;
  signals = omega arith;
  long = refl;
  comes = λ runs now h at. record { at = subst (λ r. IsIn (system w.scenario) runs n r w.world) (sym (stands now)) at; peaks = λ all. all };
}

pub peaked_both : (a b : ℕ) (first second both : (ℕ → Ran) → Ran → Type 0) (f g go : Ran → Ran) (n m k : ℕ) (u v w : World) (ps qs rs : List LeafPeaks)
    → ((runs : ℕ → Ran) (now : Ran) → both runs now → first runs now × ((f now).world ≡ v.world → second runs (f now)))
    → ((now : Ran) → (f now).world ≡ v.world → g (f now) ≡ go now)
    → Peaked a first f n m u v ps qs → Peaked b second g m k v w qs rs → Peaked (a + b) both go n k u w ps rs
peaked_both a b first second both f g go n m k u v w ps qs rs parts same p q = record {
  scenario = q.scenario ∙ p.scenario;
  running = q.running;
  signals = (let one = p.signals in let two = q.signals in omega (arith, one, two));
  long = q.long ∙ p.long;
  comes = λ runs now has at. (
      let h = parts runs now has in
      let a = p.comes runs now h.0 at in
      let b = subst (λ (t : Scenario). Comes t runs m k (g (f now)) w.world qs rs) p.scenario (q.comes runs (f now) (h.1 a.at.world)
      (subst (λ (t : Scenario). IsIn (system t) runs m (f now) v.world) (sym p.scenario) a.at)) in
      record { at = subst (λ r. IsIn (system u.scenario) runs k r w.world) (same now a.at.world) b.at; peaks = λ all. b.peaks (a.peaks all) });
}

-- with more signals at most, and by other names of the same
pub peaked_like : (most more : ℕ) (has other : (ℕ → Ran) → Ran → Type 0) (go way : Ran → Ran) (n m k : ℕ) (u v : World) (ps qs : List LeafPeaks)
    → most ≤ more → ((runs : ℕ → Ran) (now : Ran) → now.world ≡ u.world → other runs now → has runs now)
    → ((now : Ran) → now.world ≡ u.world → go now ≡ way now) → m ≡ k
    → Peaked most has go n m u v ps qs → Peaked more other way n k u v ps qs
peaked_like most more has other go way n m k u v ps qs few like same at p = record {
  scenario = p.scenario;
  running = p.running;
  signals = (let signals = p.signals in omega (arith, signals, few));
  long = p.long;
  comes = λ runs now h is. (let c = p.comes runs now (like runs now is.world h) is in
      subst (λ j. Comes u.scenario runs n j (way now) v.world ps qs) at
      (subst (λ r. Comes u.scenario runs n m r v.world ps qs) (same now is.world) c));
}

-- AT THE START

pub peaks_first : (s : Scenario) (runs : ℕ → Ran) (now : Ran) (w : model.World) (peaks : List LeafPeaks) → IsIn (system s) runs 0 now w → AllNow s w 0 peaks
    → AllPeaks s runs 0 peaks
peaks_first s runs now w peaks at all y p there =
    let h = all y p there in
    record {
      ram = h.ram ∙ now_at (system s) runs 0 y w Ram at.same;
      caps = λ two. h.caps two ∙ now_at (system s) runs 0 y w Caps at.same;
    }

-- WHAT IS READ OF A LEAF

pub used_is : (s : Scenario) (w : model.World) (x : ℕ) (u : Use) → IsUse s w x u → u.used.ram ≡ used_in Ram x w
used_is s w x u h = h.ram ∙ sym (ap (held_by Ram w x) h.there)

pub taken_is : (s : Scenario) (w : model.World) (x : ℕ) (u : Use) → IsUse s w x u → counts_caps s.version ≡ true → u.used.caps ≡ used_in Caps x w
taken_is s w x u h two = h.caps two ∙ sym (ap (held_by Caps w x) h.there)

-- what the leaf has in a world, by what is read of it
pub now_by : (all : System) (w : model.World) (r : Resource) (x turn used q : ℕ) (p : Peak) → p ≡ record { used = used; quota = q; turn = turn }
    → used ≡ used_in r x w → q ≡ quota_in all r x w → p ≡ peak_now all w r x turn
now_by all w r x turn used q p is e f = is ∙ (λ i. record { used = e i; quota = f i; turn = turn })

-- a leaf that uses no more than it did raises nothing
pub not_raised : (s : Scenario) (w : model.World) (x turn : ℕ) (u : Use) (old : LeafPeaks) → IsUse s w x u → u.used.ram ≤ old.ram.used
    → u.used.caps ≤ old.caps.used → IsRaised s w x turn old old
not_raised s w x turn u old h few few_caps = record {
  ram = no_higher old.ram (peak_now (system s) w Ram x turn) (let e = used_is s w x u h in omega (arith, e, few));
  caps = λ two. no_higher old.caps (peak_now (system s) w Caps x turn) (let e = taken_is s w x u h two in omega (arith, e, few_caps));
}

pub is_raised : (s : Scenario) (w : model.World) (x turn : ℕ) (old now new : LeafPeaks) → ArePeaksNow s w x turn now → new.ram ≡ higher old.ram now.ram
    → new.caps ≡ higher old.caps now.caps → IsRaised s w x turn old new
is_raised s w x turn old now new h ram caps = record {
  ram = ram ∙ ap (higher old.ram) h.ram;
  caps = λ two. caps ∙ ap (higher old.caps) (h.caps two);
}

-- ONE LEAF AFTER THE OTHER

-- of a list with one more at its end
pub at_end : {A : Type 0} (P : ℕ → A → Type 0) (xs : List A) (a : A) → ((x : ℕ) (b : A) → slice_get xs x ≡ Some b → P x b) → P (length xs) a
    → (x : ℕ) (b : A) → slice_get (xs ++ a ∷ []) x ≡ Some b → P x b
at_end P [] a all here zero b e = subst (P 0) (some_same e) here
at_end P [] a all here (suc x) b e = absurd (none_some e)
at_end P (c ∷ xs) a all here zero b e = all 0 b e
at_end P (c ∷ xs) a all here (suc x) b e = at_end (λ y. P (suc y)) xs a (λ y d there. all (suc y) d there) here x b e

-- one of them is raised, where those before it were
pub raised_more : (s : Scenario) (w : model.World) (turn n k : ℕ) (olds news : List LeafPeaks) (d new : LeafPeaks) → k ≡ n → n < length news
    → IsRaised s w k turn (get_or news n d) new
    → ((x : ℕ) (p q : LeafPeaks) → x < n → slice_get olds x ≡ Some p → slice_get news x ≡ Some q → IsRaised s w x turn p q)
    → ((x : ℕ) → n ≤ x → slice_get news x ≡ slice_get olds x)
    → (x : ℕ) (p q : LeafPeaks) → x < n + 1 → slice_get olds x ≡ Some p → slice_get (slice_set news n new) x ≡ Some q → IsRaised s w x turn p q
raised_more s w turn n k olds news d new at less here all others x p q below was now = elim (eqb_tells x n) [
  | inl t ↦ (
      let there = got news n less in
      let first : get_or news n d ≡ p = some_same (sym there ∙ (others n (omega arith) ∙ (ap (slice_get olds) (sym t.1) ∙ was))) in
      let then : new ≡ q = some_same (sym (set_here news n new (get_or news n d) there) ∙ (ap (slice_get (slice_set news n new)) (sym t.1) ∙ now)) in
      subst (λ y. IsRaised s w y turn p q) (at ∙ sym t.1) (subst (λ c. IsRaised s w k turn p c) then (subst (λ c. IsRaised s w k turn c new) first here)))
  | inr o ↦ (
      let other = o.1 in
      all x p q (before x n below other) was (sym (set_else news n x new other) ∙ now))
]
  where
    before : (x n : ℕ) → x < n + 1 → (x ≡ n → ⊥) → x < n
    before x n below other = grind (arith, below, other)

    got : (xs : List LeafPeaks) (n : ℕ) → n < length xs → slice_get xs n ≡ Some (get_or xs n d)
    got [] n less = absurd (omega (arith, less))
    got (c ∷ xs) zero less = refl
    got (c ∷ xs) (suc n) less = got xs n (omega (arith, less))

-- turns of a leaf and more of them
pub turns_then : (u v w : World) (x n a b c : ℕ) (ps qs rs : List LeafPeaks) → c ≡ a + b
    → Peaked 0 (λ runs now. HasTurns (system u.scenario) x runs n now a) (turns_of (system u.scenario) x a) n (n + a) u v ps qs
    → Peaked 0 (λ runs now. HasTurns (system v.scenario) x runs (n + a) now b) (turns_of (system v.scenario) x b) (n + a) (n + a + b) v w qs rs
    → Peaked 0 (λ runs now. HasTurns (system u.scenario) x runs n now c) (turns_of (system u.scenario) x c) n (n + c) u w ps rs
turns_then u v w x n a b c ps qs rs is p q =
    let s = system u.scenario in
    let sum : n + c ≡ n + a + b = omega (arith, is) in
    let second = subst (λ (t : Scenario). Peaked 0 (λ runs now. HasTurns (system t) x runs (n + a) now b) (turns_of (system t) x b) (n + a) (n + a + b) v w
    qs rs) p.scenario q in
    subst (λ t. Peaked 0 (λ runs now. HasTurns s x runs n now c) (turns_of s x c) n t u w ps rs) (sym sum)
    (peaked_both 0 0 (λ runs now. HasTurns s x runs n now a) (λ runs now. HasTurns s x runs (n + a) now b) (λ runs now. HasTurns s x runs n now c)
    (turns_of s x a) (turns_of s x b) (turns_of s x c) n (n + a) (n + a + b) u v w ps qs rs
    (λ runs now has. (first_part s x runs a b n c now is has, λ at. last_part s x runs a b n c now is has))
    (λ now at. turns_sum s x (λ k. now) a b now ∙ ap (λ m. turns_of s x m now) (sym is)) p second)

-- turns that a leaf takes alone, and one more
pub alone_then : (u v w : World) (x n m k : ℕ) (olds news : List LeafPeaks) (event : Event) → k ≡ m + 1 → v.scenario ≡ u.scenario → v.stopped ≡ false
    → v.signals ≡ u.signals → w.scenario ≡ v.scenario → w.stopped ≡ false → w.signals ≡ v.signals
    → GoesAlone (system u.scenario) x m u.world v.world → next (system v.scenario) v.world x ≡ Ok (w.world, event)
    → AreRaised w.scenario w.world (n + k) olds news
    → Peaked 0 (λ runs now. HasTurns (system u.scenario) x runs n now k) (turns_of (system u.scenario) x k) n (n + k) u w olds news
alone_then u v w x n m k olds news event is first first_running first_signals second running signals alone step raised =
    let sum : n + k ≡ suc (n + m) = omega (arith, is) in
    turns_then u v w x n m 1 k olds olds news is (alone_peaked u v x n m olds first first_running first_signals alone)
    (let one : suc (n + m) ≡ n + m + 1 = omega arith in
    subst (λ t. Peaked 0 (λ runs now. HasTurns (system v.scenario) x runs (n + m) now 1) (turns_of (system v.scenario) x 1) (n + m) t v w olds news) one
    (step_peaked v w x (n + m) (n + k) olds news event second running signals step sum raised))
