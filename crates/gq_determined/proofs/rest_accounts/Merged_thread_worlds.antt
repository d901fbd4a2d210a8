-- Two worlds in which each thread that has its own leaf has the same: by one name for each session, leaves and sessions are the same.
use Rattle.std.proofs.Common.{◌≡◌, ℕ, inl, inr, Bool, true, [], map, Option, Some, None, refl, ap, sym, ◌∙◌}
use Rattle.std.proofs.lemmas.Bool.Decides.{eqb_tells}
use Rattle.std.specs.Prelude.{option_map, slice_get}
use Rattle.std.proofs.lemmas.Option.{slice_get-map}
use Rattle.gq_model.specs.machine.Program.{Done}
use Rattle.gq_model.specs.machine.Scenario.{System, Component}
use Rattle.gq_model.specs.machine.World.{Session, Leaf, World, joined, session_at}
use Rattle.gq_model.specs.machine.Accounts.{account_at}
use Rattle.gq_model.proofs.Small_facts.{none_some, some_same}
use Rattle.gq_laws.specs.Separation.{own_session}
use Rattle.gq_laws.specs.Renamed.{renamed_slot, renamed_leaf, renamed_session}
use Rattle.gq_laws.specs.internal.Corresponding.{own_at, Correspond, IsSame}
use Rattle.gq_laws.proofs.Renamed_session_sums.{same_account}
use Rattle.gq_determined.specs.internal.Threads.{Tracked, slots_of, IsSameRegion, IsSameThread}
use Rattle.gq_determined.proofs.regions.Region_changes.{within_there, within_here}
use Rattle.gq_determined.proofs.regions.Renamed_regions.{region_renamed}
use Rattle.gq_determined.proofs.thread_positions.Single_thread_position.{IsPlaced}

-- what an account reports of a leaf, and its slots
abbrev bare : Leaf → Leaf
bare leaf =
    record {
      phase = leaf.phase;
      current = None;
      reacting = None;
      todo = Done;
      loops = [];
      operands = [];
      locals = [];
      slots = leaf.slots;
      peaks = leaf.peaks;
      steps = leaf.steps;
      inputs = [];
      signals = [];
    }

abbrev bare_world : World → World
bare_world w = record { leaves = map bare w.leaves; sessions = w.sessions; requests = [] }

-- so an account is the same
bare_account : (version budget y : ℕ) (w : World) (c : Option Component)
    → account_at version (bare_world w) y c (slice_get (bare_world w).leaves y) budget ≡ account_at version w y c (slice_get w.leaves y) budget
bare_account version budget y w c =
    ap (λ o. account_at version (bare_world w) y c o budget) (slice_get-map bare w.leaves y) ∙ by c (slice_get w.leaves y)
  where
    by : (c : Option Component) (o : Option Leaf) → account_at version (bare_world w) y c (option_map bare o) budget ≡ account_at version w y c o budget
    by None o = refl
    by (Some c) None = refl
    by (Some c) (Some leaf) = refl

abbrev all : ℕ → Bool
all x = true

own_all : (o : Option Session) → own_session all o ≡ o
own_all None = refl
own_all (Some s) = refl

-- leaves of the same phase and peaks that have taken as many steps
pub record AreAlike (w v : World) : Type 0 where
  pub phases : (y : ℕ) (l m : Leaf) → slice_get w.leaves y ≡ Some l → slice_get v.leaves y ≡ Some m → m.phase ≡ l.phase
  pub steps : (y : ℕ) (l m : Leaf) → slice_get w.leaves y ≡ Some l → slice_get v.leaves y ≡ Some m → m.steps ≡ l.steps
  pub peaks : (y : ℕ) (l m : Leaf) → slice_get w.leaves y ≡ Some l → slice_get v.leaves y ≡ Some m → m.peaks ≡ l.peaks

module _ (system : System) (g h : Tracked) (t : IsPlaced system g) (th : IsPlaced system h)
    (whole : (y : ℕ) → g.own (g.own y) ≡ g.own y) (same : (i : ℕ) → g.own i ≡ i → IsSameThread i g h)
    (back : (i : ℕ) → h.own i ≡ i → g.own i ≡ i) where
  -- the names of a thread's region
  abbrev Names : ℕ → Type 0
  Names i = (f : ℕ → ℕ) × (g.own i ≡ i → IsSameRegion f g.own g.root h.root i g.world h.world)

  names : (i : ℕ) → Names i
  names i = elim (eqb_tells (g.own i) i) [ inl q ↦ let s = same i q.1 in (s.f, λ own. s.region) | inr q ↦ (λ k. k, λ own. absurd (q.1 own)) ]

  abbrev merged : ℕ → ℕ
  merged k = (names (g.root k)).0 k

  region : (i : ℕ) → g.own i ≡ i → IsSameRegion merged g.own g.root h.root i g.world h.world
  region i own = region_renamed system g t (names i).0 merged i (λ k s there is. ap (λ j. (names j).0 k) is) h.root h.world ((names i).1 own)

  -- a session, and that at its new number
  there : (k : ℕ) (s : Session) → session_at g.world k ≡ Some s
      → (h.root (merged k) ≡ g.root k) × (session_at h.world (merged k) ≡ Some (renamed_session merged s))
  there k s e =
      let i = g.root k in
      within_there h.root i h.world.sessions (merged k) (renamed_session merged s)
      ((region i (t.lives k s e)).sessions.there k s (within_here g.root i g.world.sessions k refl ∙ e))

  sessions : Correspond merged (own_at all g.world.sessions) (own_at all h.world.sessions)
  sessions = record {
    there = λ k s e. own_all (joined (slice_get h.world.sessions (merged k))) ∙ (there k s (sym (own_all (joined (slice_get g.world.sessions k))) ∙ e)).1;
    back = λ m u e.
        (let i = h.root m in
        let at = sym (own_all (joined (slice_get h.world.sessions m))) ∙ e in
        let p = (region i (back i (th.lives m u at))).sessions.back m u (within_here h.root i h.world.sessions m refl ∙ at) in
        let q = within_there g.root i g.world.sessions p.0 p.1 p.2 in
        (p.0, p.1, own_all (joined (slice_get g.world.sessions p.0)) ∙ q.1, p.3));
    single = λ j k s u e q r.
        (let at = sym (own_all (joined (slice_get g.world.sessions j))) ∙ e in
        let at_k = sym (own_all (joined (slice_get g.world.sessions k))) ∙ q in
        let i = g.root k in
        let roots : g.root j ≡ g.root k = sym (there j s at).0 ∙ (ap h.root r ∙ (there k u at_k).0) in
        (region i (t.lives k u at_k)).sessions.single j k s u (within_here g.root i g.world.sessions j roots ∙ at)
        (within_here g.root i g.world.sessions k refl ∙ at_k) r);
  }

  module _ (alike : AreAlike g.world h.world) where
    leaf_same : (y : ℕ) → slice_get (bare_world h.world).leaves y ≡ option_map (renamed_leaf merged) (slice_get (bare_world g.world).leaves y)
    leaf_same y =
        slice_get-map bare h.world.leaves y
        ∙ (by (slice_get g.world.leaves y) (slice_get h.world.leaves y) refl refl
        ((region (g.own y) (whole y)).slots y refl)
        ∙ ap (option_map (renamed_leaf merged)) (sym (slice_get-map bare g.world.leaves y)))
      where
        by : (o p : Option Leaf) → slice_get g.world.leaves y ≡ o → slice_get h.world.leaves y ≡ p
            → option_map slots_of p ≡ option_map (λ leaf. map (renamed_slot merged) (slots_of leaf)) o
            → option_map bare p ≡ option_map (renamed_leaf merged) (option_map bare o)
        by None None at at_h e = refl
        by None (Some m) at at_h e = absurd (none_some (sym e))
        by (Some l) None at at_h e = absurd (none_some e)
        by (Some l) (Some m) at at_h e =
            let phase = alike.phases y l m at at_h in
            let steps = alike.steps y l m at at_h in
            let peaks = alike.peaks y l m at at_h in
            let slots = some_same e in
            λ i. Some (record {
              phase = phase i;
              current = None;
              reacting = None;
              todo = Done;
              loops = [];
              operands = [];
              locals = [];
              slots = slots i;
              peaks = peaks i;
              steps = steps i;
              inputs = [];
              signals = [];
            })

    bare_same : IsSame all merged (bare_world g.world) (bare_world h.world)
    bare_same = record { leaves = λ y inside. leaf_same y; sessions = sessions; requests = refl }

    -- the account of each leaf is the same
    pub account_same : (version budget y : ℕ) (c : Option Component)
        → account_at version h.world y c (slice_get h.world.leaves y) budget ≡ account_at version g.world y c (slice_get g.world.leaves y) budget
    account_same version budget y c =
        sym (bare_account version budget y h.world c)
        ∙ (same_account merged all (bare_world g.world) (bare_world h.world) bare_same y refl version budget c ∙ bare_account version budget y g.world c)
