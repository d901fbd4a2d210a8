-- Leaves that run once another has exited, one after another.
use Rattle.std.proofs.Common.{◌≡◌, ◌<◌, ◌≤◌, ◌+◌, ℕ, inl, inr, Bool, true, false, List, Option, Some, None, IfSome, length, length-set}
use Rattle.std.proofs.Common.{option_map, refl, sym, ap, subst, ◌∙◌, arith}
use Rattle.std.specs.Prelude.{slice_get, slice_set}
use Rattle.std.proofs.lemmas.Bool.{cases_eq, cases_lt}
use Rattle.std.proofs.lemmas.Bool.Decides.{eqb_tells}
use Rattle.std.proofs.lemmas.Option.{slice_get_within}
use Rattle.gq_model.specs.machine.Routes.{numbered}
use Rattle.gq_model.specs.machine.Scenario.{Scenario, components}
use Rattle.gq_model.proofs.Small_facts.{some_same}
use Rattle.gq_laws.proofs.session_links.Written_world_links.{set_else, set_here}
use Rattle.gq_resolve.specs.NodeTables.{LeafRow, leaf_rows, number_named}
use Rattle.gq_resolve.proofs.Node_table_rows.{row_at}
use Rattle.gq_trade.specs.Leaf_ends.{is_number}
use Rattle.gq_leaf.specs.Coded.{Coded}
use Rattle.gq_leaf.specs.Section_boundaries.{exited}
use Rattle.gq_machine.specs.internal.Endings.{AreGone, AreReleased, AreReleasedBelow, follows, released_if}
use Rattle.gq_machine.specs.internal.Machine_invariant.{OfLeaf}

-- a leaf starts after another as its row says
pub follows_row : (s : Scenario) (x place leaf : ℕ) (after : Option ℕ) → place < length (components s) → leaf ≡ place
    → IfSome (slice_get (leaf_rows s) leaf) (λ r. after ≡ r.after) → is_number x after ≡ follows s x (slice_get (components s) place)
follows_row s x place leaf after less same reported =
    let row = row_at s place less in
    let is : after ≡ number_named row.component.node.after (λ name. numbered 0 name (components s)) =
    subst (λ (o : Option LeafRow). IfSome o (λ r. after ≡ r.after)) (ap (slice_get (leaf_rows s)) same ∙ row.row) reported in
    ap (is_number x) is ∙ sym (ap (follows s x) row.there)

module _ (s : Scenario) (x : ℕ) (ls : List Coded) where
  pub none_below : AreReleasedBelow s x 0 ls ls
  none_below = record { count = refl; done = λ y less. absurd (omega (arith, less)); left = λ y le. refl }

  pub one_below : (place : ℕ) (ms : List Coded) (item new : Coded) → AreReleasedBelow s x place ls ms → slice_get ms place ≡ Some item
      → new ≡ released_if (follows s x (slice_get (components s) place)) item → AreReleasedBelow s x (place + 1) ls (slice_set ms place new)
  one_below place ms item new h there is =
      record {
        count = length-set ms place new ∙ h.count;
        done = λ y less. elim (eqb_tells y place) [
          | inl t ↦
              let same = t.1 in
              let its : slice_get ls y ≡ Some item = sym (h.left y (omega (arith, same))) ∙ ap (slice_get ms) same ∙ there in
              ap (slice_get (slice_set ms place new)) same ∙ set_here ms place new item there
              ∙ ap (λ l. Some l) is ∙ sym (ap (λ z. Some (released_if (follows s x (slice_get (components s) z)) item)) same)
              ∙ sym (ap (option_map (released_if (follows s x (slice_get (components s) y)))) its)
          | inr t ↦ let apart = t.1 in set_else ms place y new apart ∙ h.done y (below y place less apart)
        ];
        left = λ y le. set_else ms place y new (λ e. absurd (omega (arith, le, e))) ∙ h.left y (omega (arith, le));
      }
    where
      below : (y place : ℕ) → y < place + 1 → (y ≡ place → ⊥) → y < place
      below y place less apart = elim (cases_eq y place) [
        | inl same ↦ absurd (apart same)
        | inr other ↦ omega (arith, less, other)
      ]

  pub all_released : (place : ℕ) (ms : List Coded) → AreReleasedBelow s x place ls ms → length ls ≤ place → AreReleased s x ls ms
  all_released place ms h past =
      record { count = h.count; each = λ y. elim (cases_lt y place) [ inl less ↦ h.done y less | inr le ↦ beyond y (slice_get ls y) refl le ] }
    where
      beyond : (y : ℕ) (o : Option Coded) → slice_get ls y ≡ o → place ≤ y
          → slice_get ms y ≡ option_map (released_if (follows s x (slice_get (components s) y))) (slice_get ls y)
      beyond y None e le = h.left y le ∙ e ∙ sym (ap (option_map (released_if (follows s x (slice_get (components s) y)))) e)
      beyond y (Some l) e le = let there = slice_get_within ls y l e in absurd (omega (arith, there, le, past))

  -- a leaf that has exited stays so
  pub gone_then : (old new : Coded) (ms : List Coded) → slice_get ls x ≡ Some old → new ≡ record old { state = exited old.state }
      → AreReleased s x (slice_set ls x new) ms → AreGone s x ls ms
  gone_then old new ms there is h =
      record {
        count = h.count ∙ length-set ls x new;
        own = λ l e.
            let b = follows s x (slice_get (components s) x) in
            let same : old ≡ l = some_same (sym there ∙ e) in
            h.each x ∙ ap (option_map (released_if b)) (set_here ls x new old there) ∙ ap (λ k. Some (released_if b k)) is ∙ ap (λ k. Some k) (stays b old)
            ∙ ap (λ (k : Coded). Some (record k { state = exited k.state })) same;
        others = λ y n. h.each y ∙ ap (option_map (released_if (follows s x (slice_get (components s) y)))) (set_else ls x y new n);
      }
    where
      stays : (b : Bool) (l : Coded) → released_if b (record l { state = exited l.state }) ≡ record l { state = exited l.state }
      stays true l = refl
      stays false l = refl

-- where something is said of a leaf, it is there
pub of_within : (P : Coded → Type 0) (ls : List Coded) (x : ℕ) → OfLeaf P (slice_get ls x) → x < length ls
of_within P ls x h = by (slice_get ls x) refl h
  where
    by : (o : Option Coded) → slice_get ls x ≡ o → OfLeaf P o → x < length ls
    by None e h = absurd h
    by (Some l) e h = slice_get_within ls x l e
