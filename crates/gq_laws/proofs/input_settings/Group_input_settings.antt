-- Settings, signals and groups of leaves: what one outside the group changes is not seen, and one inside does the same in two worlds that are the same for the
-- group.
use Rattle.std.proofs.Common.{◌≡◌, ℕ, inl, inr, Bool, true, false, cond, List, [], ◌∷◌, map, Option, Some, None, refl, ap, sym, ◌∙◌, subst}
use Rattle.std.specs.Prelude.{is_some, option_map, slice_get}
use Rattle.std.proofs.lemmas.Bool.Decides.{eqb_tells}
use Rattle.gq_model.specs.machine.Run.{is_within, inputs_with, set_in, set_input, signals_with, submit_in, submit}
use Rattle.gq_model.specs.machine.Scenario.{System, Component}
use Rattle.gq_model.specs.machine.World.{Request, Signal, Leaf, World, session_at, with_leaf}
use Rattle.gq_laws.specs.Separation.{own_session, own_requests, IsUntouched, SameRequests}
use Rattle.gq_laws.specs.Renamed.{renamed_leaf, renamed_request}
use Rattle.gq_laws.specs.internal.Corresponding.{IsSame}
use Rattle.gq_laws.proofs.Outside_changes_untouched.{outside_ne}
use Rattle.gq_laws.proofs.session_links.Written_world_links.{set_here, set_else}
use Rattle.gq_laws.proofs.input_settings.Setting_keeps_invariants.{of_setting, of_submit}

-- a leaf bears on no request
own_leaf : (group : ℕ → Bool) (w : World) (x : ℕ) (leaf : Leaf) (rs : List Request) → own_requests group (with_leaf w x leaf) rs ≡ own_requests group w rs
own_leaf group w x leaf [] = refl
own_leaf group w x leaf (r ∷ rs) =
    ap (λ t. cond (is_some (own_session group (session_at w r.session))) (r ∷ t) t) (own_leaf group w x leaf rs)

-- OUTSIDE

-- the group is as it was in this world
record AsItWas (group : ℕ → Bool) (old w : World) : Type 0 where
  pub untouched : IsUntouched group old w
  pub requests : SameRequests group old w

pub outside_kept : (system : System) (group : ℕ → Bool) (w : World) (x i n : ℕ) → group x ≡ false
    → IsUntouched group w (set_input system w x i n) × SameRequests group w (set_input system w x i n)
outside_kept system group w x i n out =
    let h = of_setting system (AsItWas group w) w x i n
    (λ leaf inputs there. record {
      untouched = record {
        leaves = λ y inside. set_else w.leaves x y (record leaf { inputs = inputs }) (outside_ne group x y out inside);
        sessions = λ k. refl;
      };
      requests = own_leaf group w x (record leaf { inputs = inputs }) w.requests;
    })
    (record { untouched = record { leaves = λ y inside. refl; sessions = λ k. refl }; requests = refl }) in
    (h.untouched, h.requests)

pub outside_submitted : (group : ℕ → Bool) (w : World) (x i : ℕ) → group x ≡ false
    → IsUntouched group w (submit w x i) × SameRequests group w (submit w x i)
outside_submitted group w x i out =
    let h = of_submit (AsItWas group w) w x i
    (λ leaf there. record {
      untouched = record {
        leaves = λ y inside. set_else w.leaves x y (record leaf { signals = signals_with leaf.signals i }) (outside_ne group x y out inside);
        sessions = λ k. refl;
      };
      requests = own_leaf group w x (record leaf { signals = signals_with leaf.signals i }) w.requests;
    })
    (record { untouched = record { leaves = λ y inside. refl; sessions = λ k. refl }; requests = refl }) in
    (h.untouched, h.requests)

-- INSIDE

module _ (group : ℕ → Bool) (f : ℕ → ℕ) (w v : World) (h : IsSame group f w v) (x : ℕ) (inside : group x ≡ true) where
  -- the same leaf with the same inputs and signals in both
  same_with : (leaf : Leaf) (inputs : List ℕ) (signals : List Signal) → slice_get w.leaves x ≡ Some leaf
      → IsSame group f (with_leaf w x (record leaf { inputs = inputs; signals = signals }))
      (with_leaf v x (record (renamed_leaf f leaf) { inputs = inputs; signals = signals }))
  same_with leaf inputs signals there =
      let new : Leaf = record leaf { inputs = inputs; signals = signals } in
      let other : Leaf = record (renamed_leaf f leaf) { inputs = inputs; signals = signals } in
      let at : slice_get v.leaves x ≡ Some (renamed_leaf f leaf) = h.leaves x inside ∙ ap (option_map (renamed_leaf f)) there in
      record {
        leaves = λ y mine. elim (eqb_tells y x) [
          | inl e ↦ ap (slice_get (with_leaf v x other).leaves) e.1
              ∙ (set_here v.leaves x other (renamed_leaf f leaf) at
              ∙ (sym (ap (option_map (renamed_leaf f)) (set_here w.leaves x new leaf there))
              ∙ ap (λ y. option_map (renamed_leaf f) (slice_get (with_leaf w x new).leaves y)) (sym e.1)))
          | inr e ↦ set_else v.leaves x y other e.1
              ∙ (h.leaves y mine ∙ ap (option_map (renamed_leaf f)) (sym (set_else w.leaves x y new e.1)))
        ];
        sessions = h.sessions;
        requests = own_leaf group v x other v.requests ∙ (h.requests ∙ ap (map (renamed_request f)) (sym (own_leaf group w x new w.requests)));
      }

  pub inside_same : (system : System) (i n : ℕ) → IsSame group f (set_input system w x i n) (set_input system v x i n)
  inside_same system i n = by (slice_get system.components x) (slice_get w.leaves x) refl (slice_get v.leaves x) refl
    where
      by : (o : Option Component) (p : Option Leaf) → slice_get w.leaves x ≡ p → (q : Option Leaf) → slice_get v.leaves x ≡ q
          → IsSame group f (set_in w x i n o p) (set_in v x i n o q)
      by None p e q g = h
      by (Some c) None e None g = h
      by (Some c) (Some leaf) e q g =
          let is : Some (renamed_leaf f leaf) ≡ q = sym (h.leaves x inside ∙ ap (option_map (renamed_leaf f)) e) ∙ g in
          subst (λ q. IsSame group f (set_in w x i n (Some c) (Some leaf)) (set_in v x i n (Some c) q)) is
          (fits (is_within (slice_get c.node.inputs i) n))
        where
          fits : (b : Bool) → IsSame group f (cond b (with_leaf w x (record leaf { inputs = inputs_with leaf.phase leaf.inputs i n })) w)
              (cond b (with_leaf v x (record (renamed_leaf f leaf) { inputs = inputs_with leaf.phase leaf.inputs i n })) v)
          fits true = same_with leaf (inputs_with leaf.phase leaf.inputs i n) leaf.signals e
          fits false = h
      by (Some c) None e (Some leaf) g = absurd (none (sym (h.leaves x inside ∙ ap (option_map (renamed_leaf f)) e) ∙ g))
        where
          none : ◌≡◌ {A = Option Leaf} None (Some leaf) → ⊥
          none e = cc

  pub inside_submitted : (i : ℕ) → IsSame group f (submit w x i) (submit v x i)
  inside_submitted i = by (slice_get w.leaves x) refl (slice_get v.leaves x) refl
    where
      by : (p : Option Leaf) → slice_get w.leaves x ≡ p → (q : Option Leaf) → slice_get v.leaves x ≡ q → IsSame group f (submit_in w x i p) (submit_in v x i q)
      by None e None g = h
      by (Some leaf) e q g =
          let is : Some (renamed_leaf f leaf) ≡ q = sym (h.leaves x inside ∙ ap (option_map (renamed_leaf f)) e) ∙ g in
          subst (λ q. IsSame group f (submit_in w x i (Some leaf)) (submit_in v x i q)) is (same_with leaf leaf.inputs (signals_with leaf.signals i) e)
      by None e (Some leaf) g = absurd (none (sym (h.leaves x inside ∙ ap (option_map (renamed_leaf f)) e) ∙ g))
        where
          none : ◌≡◌ {A = Option Leaf} None (Some leaf) → ⊥
          none e = cc
