-- A step that takes up and asks for no more than what it pays keeps worlds counted.
use Rattle.std.proofs.Common.{◌≡◌, ◌≢◌, ◌≤◌, ℕ, ◌+◌, ◌==◌, ◌&&◌, cond, Bool, true, false, List, [], ◌∷◌, ◌++◌, Option, Some, None, refl, ap, subst, arith}
use Rattle.std.specs.Prelude.{slice_get}
use Rattle.gq_model.specs.declared.section.Section.{Section}
use Rattle.gq_model.specs.declared.section.Section.TheVariants.{Main, Opening, Upgrading, Calling, Closing, Reacting}
use Rattle.gq_model.specs.machine.Sections.{same_section, is_own_section}
use Rattle.gq_model.specs.machine.Scenario.{System, Component}
use Rattle.gq_model.specs.machine.World.{Slot, SlotId, In_leaf, In_session, In_object, Session, Ask, Ask_open, Ask_upgrade, Ask_close, Ask_call, Request, Leaf}
use Rattle.gq_model.specs.machine.World.{World, session_at}
use Rattle.gq_model.specs.machine.Step.{is_to, oldest, kept_before, section_for}
use Rattle.gq_model.specs.rules.Use.{subject, from_sections, provided_by, steps_of}
use Rattle.gq_model.specs.rules.Kinds.{Kind}
use Rattle.gq_laws.specs.Session_links.{requests_of}
use Rattle.gq_laws.specs.Reply_stances.{bank_then, session_then}
use Rattle.gq_laws.specs.Typing.{IsTypedBy}
use Rattle.gq_laws.specs.internal.Section_counts.{Often, Requests, ahead, one_at, served_at, asks_at, waiting_in, waiting, made_for, Within, Since}
use Rattle.gq_laws.specs.internal.Section_counts.{steps_taken, taken_in, Counts, IsCounted}
use Rattle.gq_model.proofs.Small_facts.{some_same, none_some}
use Rattle.gq_laws.proofs.session_links.Asked_request_changes.{one_one}
use Rattle.gq_laws.proofs.step_counts.Section_request_sums.{steps_add, from_add, made_for_add}

-- REQUESTS THAT WAIT

-- a slot of a session changes neither its server nor its level
pub then_served : (q : SlotId) (slot : Slot) (j : ℕ) (o : Option Session) → served_at (session_then q slot j o) ≡ served_at o
then_served (In_leaf x i) slot j o = refl
then_served (In_object k) slot j o = refl
then_served (In_session k i) slot j o = by (j == k) o
  where
    by : (b : Bool) (o : Option Session) → served_at (cond b (bank_then i slot o) o) ≡ served_at o
    by false o = refl
    by true None = refl
    by true (Some s) = refl

-- where each session keeps its server and its level, requests are for the sections that they were for
pub waiting_all : (v w : World) → ((j : ℕ) → served_at (session_at w j) ≡ served_at (session_at v j)) → (rs : List Request) (x : ℕ) (q : Section)
    → waiting_in w x q rs ≡ waiting_in v x q rs
waiting_all v w same [] x q = refl
waiting_all v w same (r ∷ rest) x q =
    let here = ap (λ p. asks_at r.ask p x q) (same r.session) in
    let further = waiting_all v w same rest x q in
    omega (arith, here, further)

-- it is enough where no request is of a session that does not
pub waiting_else : (v w : World) (k : ℕ) → ((j : ℕ) → j ≢ k → served_at (session_at w j) ≡ served_at (session_at v j)) → (rs : List Request)
    → requests_of k rs ≡ 0 → (x : ℕ) (q : Section) → waiting_in w x q rs ≡ waiting_in v x q rs
waiting_else v w k same [] none x q = refl
waiting_else v w k same (r ∷ rest) none x q =
    let here = ap (λ p. asks_at r.ask p x q) (same r.session (λ e. (let one = one_one r.session k e in omega (arith, none, one)))) in
    let further = waiting_else v w k same rest (omega (arith, none)) x q in
    omega (arith, here, further)

-- the last request
pub waiting_last : (w : World) (x : ℕ) (q : Section) (rs : List Request) (r : Request)
    → waiting_in w x q (rs ++ r ∷ []) ≡ waiting_in w x q rs + asks_at r.ask (served_at (session_at w r.session)) x q
waiting_last w x q [] r = omega arith
waiting_last w x q (s ∷ rest) r = let further = waiting_last w x q rest r in omega (arith, further)

-- the oldest request to a server
module _ (v w : World) (x y : ℕ) (q : Section) where
  abbrev Splits : List Request → Request × List Request → Type 0
  Splits rs p = waiting_in w y q rs ≡ asks_at p.0.ask (served_at (session_at w p.0.session)) y q + waiting_in w y q p.1

  oldest_by : (r : Request) (rs : List Request) (b : Bool) (o : Option (Request × List Request)) → ((p : Request × List Request) → o ≡ Some p → Splits rs p)
      → (a : Request × List Request) → cond b (Some (r, rs)) (kept_before r o) ≡ Some a → Splits (r ∷ rs) a
  oldest_by r rs true o f a e = subst (Splits (r ∷ rs)) (some_same e) refl
  oldest_by r rs false None f a e = absurd (none_some e)
  oldest_by r rs false (Some p) f a e = subst (Splits (r ∷ rs)) (some_same e) (let further = f p refl in omega (arith, further))

  pub waiting_oldest : (rs : List Request) (p : Request × List Request) → oldest v x rs ≡ Some p → Splits rs p
  waiting_oldest [] p e = absurd (none_some e)
  waiting_oldest (r ∷ rs) p e = oldest_by r rs (is_to x (session_at v r.session)) (oldest v x rs) (λ a f. waiting_oldest rs a f) p e

-- no request is for `main`
pub none_own : (z : ℕ) (ask : Ask) (level x : ℕ) (section : Section) → is_own_section section ≡ true → one_at z (section_for ask level) x section ≡ 0
none_own z ask level x section own = by (z == x) (same_section section (section_for ask level)) (never section own ask)
  where
    never : (section : Section) → is_own_section section ≡ true → (ask : Ask) → same_section section (section_for ask level) ≡ false
    never Main own Ask_open = refl
    never Main own Ask_upgrade = refl
    never Main own Ask_close = refl
    never Main own (Ask_call value) = refl
    never (Reacting i) own Ask_open = refl
    never (Reacting i) own Ask_upgrade = refl
    never (Reacting i) own Ask_close = refl
    never (Reacting i) own (Ask_call value) = refl
    never Opening own ask = absurd cc
    never (Upgrading l) own ask = absurd cc
    never (Calling l) own ask = absurd cc
    never (Closing l) own ask = absurd cc

    by : (a b : Bool) → b ≡ false → ◌≡◌ {A = ℕ} (cond (a && b) 1 0) 0
    by true b e = ap (λ b. cond b 1 0) e
    by false b e = refl

-- WHAT A STEP PAYS

-- a step from one world to another takes up some sections and asks for others; what it takes up pays its steps and the requests that are left then
pub record Spends (system : System) (v w : World) (left new : Requests) : Type 0 where
  pub begun : Often
  pub more : Often
  pub further : Requests
  pub waits : (y : ℕ) (q : Section) → waiting w y q + begun y q ≡ waiting v y q + more y q
  pub no_main : (y : ℕ) → more y Main ≡ 0
  pub reacts : (y i : ℕ) → more y (Reacting i) + taken_in v y i ≤ taken_in w y i
  pub covered : (y : ℕ) (q : Section) → is_own_section q ≡ false → more y q ≤ made_for further system y q (provided_by (slice_get system.components y))
  pub leaves : (y : ℕ) (c : Component) (leaf : Leaf) → slice_get system.components y ≡ Some c → slice_get w.leaves y ≡ Some leaf
      → (old : Leaf) × (slice_get v.leaves y ≡ Some old) × (leaf.steps + ahead leaf leaf.phase
      ≤ old.steps + ahead old old.phase + steps_of (begun y) c.node.program.sections)
  pub pays : (y : ℕ) (c : Component) → slice_get system.components y ≡ Some c → (service : List ℕ) (section : Section)
      → further y service section + new y service section
      ≤ left y service section + from_sections (begun y) (subject system c) service section c.node.program.sections

-- no signal was taken more often before
abbrev pub Rises : World → World → Type 0
Rises v w = (y i : ℕ) → taken_in v y i ≤ taken_in w y i

-- a step that takes up nothing and asks for nothing
pub quiet_spends : (system : System) (v w : World) (left : Requests) → Rises v w → ((y : ℕ) (q : Section) → waiting w y q ≡ waiting v y q)
    → ((y : ℕ) (c : Component) (leaf : Leaf) → slice_get system.components y ≡ Some c → slice_get w.leaves y ≡ Some leaf
    → (old : Leaf) × (slice_get v.leaves y ≡ Some old) × (leaf.steps + ahead leaf leaf.phase ≤ old.steps + ahead old old.phase))
    → Spends system v w left left
quiet_spends system v w left rises waits leaves =
    record {
      begun = λ y q. 0;
      more = λ y q. 0;
      further = λ y service q. 0;
      waits = λ y q. (let same = waits y q in omega (arith, same));
      no_main = λ y. refl;
      reacts = λ y i. (let most = rises y i in omega (arith, most));
      covered = λ y q other. omega arith;
      leaves = λ y c leaf at there. (let o = leaves y c leaf at there in let most = o.2 in (o.0, o.1, omega (arith, most)));
      pays = λ y c at service section. omega arith;
    }

module _ (since : Since) (done : Often) (made left new : Requests) (system : System) (v w : World) (h : Counts since done made left system v)
    (s : Spends system v w left new) where
  taken : (x : ℕ) (c : Component) (leaf : Leaf) → slice_get system.components x ≡ Some c → slice_get w.leaves x ≡ Some leaf
      → leaf.steps + ahead leaf leaf.phase + steps_of (waiting w x) c.node.program.sections ≤ steps_taken since.world x + steps_of (λ q. done x q + s.more x q)
      c.node.program.sections
  taken x c leaf at there =
      let o = s.leaves x c leaf at there in
      let most = o.2 in
      let before = h.taken x c o.0 at o.1 in
      let sections = c.node.program.sections in
      let same : steps_of (λ q. waiting w x q + s.begun x q) sections ≡ steps_of (λ q. waiting v x q + s.more x q) sections =
      (λ i. steps_of (λ q. s.waits x q i) sections) in
      let a = steps_add (waiting w x) (s.begun x) sections in
      let b = steps_add (waiting v x) (s.more x) sections in
      let c = steps_add (done x) (s.more x) sections in
      omega (arith, most, before, same, a, b, c)

  requests : (y : ℕ) (c : Component) → slice_get system.components y ≡ Some c → (service : List ℕ) (section : Section)
      → made y service section + s.further y service section + new y service section + from_sections (waiting w y)
      (subject system c) service section c.node.program.sections
      ≤ from_sections (λ q. done y q + s.more y q) (subject system c) service section c.node.program.sections
  requests y c at service section =
      let most = s.pays y c at service section in
      let before = h.requests y c at service section in
      let u = subject system c in
      let sections = c.node.program.sections in
      let same : from_sections (λ q. waiting w y q + s.begun y q) u service section sections
      ≡ from_sections (λ q. waiting v y q + s.more y q) u service section sections = (λ i. from_sections (λ q. s.waits y q i) u service section sections) in
      let a = from_add (waiting w y) (s.begun y) u service section sections in
      let b = from_add (waiting v y) (s.more y) u service section sections in
      let c = from_add (done y) (s.more y) u service section sections in
      omega (arith, most, before, same, a, b, c)

  -- so all is paid after it
  pub spends_counts : Counts since (λ y q. done y q + s.more y q) (λ y u q. made y u q + s.further y u q) new system w
  spends_counts =
      record {
        once = λ x. (let before = h.once x in let none = s.no_main x in omega (arith, before, none));
        reacted = λ x i. (let before = h.reacted x i in let more = s.reacts x i in omega (arith, before, more));
        taken = taken;
        asked = λ x section not_main.
            let provides = provided_by (slice_get system.components x) in
            let before = h.asked x section not_main in
            let more = s.covered x section not_main in
            let both = made_for_add system x section made s.further provides in
            omega (arith, before, more, both);
        requests = requests;
      }

  -- and a world that is typed is counted
  pub spends_counted : (promised : ℕ → Option Kind) → IsTypedBy promised (Within system new) system w → IsCounted since system w
  spends_counted promised typed =
      record {
        promised = promised;
        done = λ y q. done y q + s.more y q;
        made = λ y u q. made y u q + s.further y u q;
        left = new;
        typed = typed;
        counts = spends_counts;
      }
