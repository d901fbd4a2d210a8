-- A leaf that ends, in the machine's world.
use Rattle.std.proofs.Common.{◌≡◌, ℕ, zero, suc, ◌<◌, ◌&&◌, true, false, not, List, [], ◌∷◌, map, drop, get_or, length, Some, None, refl, sym, ap, ◌∙◌, arith}
use Rattle.std.specs.Prelude.{slice_get, slice_set, Ok, Err}
use Rattle.std.proofs.lemmas.Bool.{and_parts}
use Rattle.gq_model.specs.machine.Scenario.{Component}
use Rattle.gq_model.specs.machine.World as world
use Rattle.gq_model.specs.machine.Doing.{Doing, Finished, standing, when}
use Rattle.gq_model.specs.declared.fault.Wrong.TheVariants.{WrongKind}
use Rattle.gq_model.specs.machine.Step.{all_released, exit_of, exited, main_ended, no_link, released}
use Rattle.gq_model.proofs.Small_facts.{some_same, none_some}
use Rattle.gq_store.specs.Store.{Store}
use Rattle.gq_heap.specs.declared.heap.Heap.{Heap}
use Rattle.gq_contents.specs.declared.content.Content.{Content}
use Rattle.gq_contents.specs.declared.content.Content.TheVariants as content
use Rattle.gq_contents.specs.Contents.{seen}
use Rattle.gq_trade.specs.declared.session.SlotId.TheVariants.{InLeaf}
use Rattle.gq_trade.specs.Leaf_ends.{HasNoSessions}
use Rattle.gq_slots.specs.Slots.{AreRead, Frame, Slots, leaves_seen, memory_of, slot_of, world_seen}
use Rattle.gq_slots.specs.Session_calls.{EndsLeaf, bare, bare_in}
use Rattle.gq_laws.proofs.session_links.Written_world_links.{leaf_there}
use Rattle.gq_statements.specs.Serving.{IsAloneWithoutLinks, IsReleased, leaving, own_slots}
use Rattle.gq_statements.specs.internal.Content_tests.{has_no_link, is_link}

-- LINKS

no_link_first : (st : Store) (t : Content) (slots : List world.Slot) → no_link (seen st t ∷ slots) ≡ (not (is_link t) && no_link slots)
no_link_first st content.Empty slots = refl
no_link_first st (content.Block p m) slots = refl
no_link_first st (content.Slice k m) slots = refl
no_link_first st (content.Space k m) slots = refl
no_link_first st (content.Pool p) slots = refl
no_link_first st (content.Link k) slots = refl
no_link_first st (content.Waiting k) slots = refl

no_link_seen : (st : Store) (ts : List Content) → no_link (map (seen st) ts) ≡ has_no_link ts
no_link_seen st [] = refl
no_link_seen st (t ∷ ts) = no_link_first st t (map (seen st) ts) ∙ ap (λ b. not (is_link t) && b) (no_link_seen st ts)

no_link_at : (ts : List Content) → has_no_link ts ≡ true → (i k : ℕ) → get_or ts i content.Empty ≡ content.Link k → ⊥
no_link_at [] h i k e = cc
no_link_at (t ∷ ts) h zero k e = let f = ap is_link e in let n = (and_parts (not (is_link t)) (has_no_link ts) h).0 in cc
no_link_at (t ∷ ts) h (suc i) k e = no_link_at ts (and_parts (not (is_link t)) (has_no_link ts) h).1 i k e

pub no_sessions : (s : Slots) (x : ℕ) → has_no_link (own_slots s x) ≡ true → IsAloneWithoutLinks s x → HasNoSessions s.trades.trading x
no_sessions s x h alone = alone (λ i k lt e. no_link_at (own_slots s x) h i k e)

-- the next of the slots that are left
pub next_slot : (ts : List Content) (i : ℕ) → i < length ts
    → has_no_link (drop i ts) ≡ (not (is_link (get_or ts i content.Empty)) && has_no_link (drop (suc i) ts))
next_slot [] i lt = absurd (omega (arith, lt))
next_slot (t ∷ ts) zero lt = refl
next_slot (t ∷ ts) (suc i) lt = next_slot ts i (omega (arith, lt))

pub no_more : (ts : List Content) (i : ℕ) → length ts ≡ i → has_no_link (drop i ts) ≡ true
no_more [] zero e = refl
no_more [] (suc i) e = refl
no_more (t ∷ ts) zero e = absurd (omega (arith, e))
no_more (t ∷ ts) (suc i) e = no_more ts i (omega (arith, e))

-- LEAVES

slots_seen : (leaf : ℕ → world.Leaf) (st : ℕ → Store) (own : List (List Content)) (hs : List Heap) (x : ℕ) (l : world.Leaf)
    → slice_get (leaves_seen leaf st own hs) x ≡ Some l → l.slots ≡ map (seen (st x)) (get_or own x [])
slots_seen leaf st [] hs x l e = cc
slots_seen leaf st (ts ∷ own) [] x l e = cc
slots_seen leaf st (ts ∷ own) (h ∷ hs) zero l e = ap (λ y. y.slots) (sym (some_same e))
slots_seen leaf st (ts ∷ own) (h ∷ hs) (suc x) l e = slots_seen (λ y. leaf (suc y)) (λ y. st (suc y)) own hs x l e

module _ (name : List ℕ) where
  -- a leaf that stands in a list keeps its slots while others are released
  released_slots : (cs : List Component) (ls : List world.Leaf) (x : ℕ) (a m : world.Leaf)
      → slice_get (all_released name cs (slice_set ls x a)) x ≡ Some m → m.slots ≡ a.slots
  released_slots [] [] x a m e = absurd (none_some e)
  released_slots [] (l ∷ ls) zero a m e = ap (λ y. y.slots) (sym (some_same e))
  released_slots [] (l ∷ ls) (suc x) a m e = released_slots [] ls x a m e
  released_slots (c ∷ cs) [] x a m e = absurd (none_some e)
  released_slots (c ∷ cs) (l ∷ ls) zero a m e = ap (λ y. y.slots) (sym (some_same e))
  released_slots (c ∷ cs) (l ∷ ls) (suc x) a m e = released_slots cs ls x a m e

  -- it is emptied before or behind that
  released_bare : (cs : List Component) (ls : List world.Leaf) (x : ℕ) (a m : world.Leaf)
      → slice_get (all_released name cs (slice_set ls x a)) x ≡ Some m
      → slice_set (all_released name cs (slice_set ls x a)) x (bare m) ≡ all_released name cs (slice_set ls x (bare a))
  released_bare [] [] x a m e = absurd (none_some e)
  released_bare [] (l ∷ ls) zero a m e = ap (λ y. bare y ∷ ls) (sym (some_same e))
  released_bare [] (l ∷ ls) (suc x) a m e = ap (λ rest. l ∷ rest) (released_bare [] ls x a m e)
  released_bare (c ∷ cs) [] x a m e = absurd (none_some e)
  released_bare (c ∷ cs) (l ∷ ls) zero a m e = ap (λ y. bare y ∷ all_released name cs ls) (sym (some_same e))
  released_bare (c ∷ cs) (l ∷ ls) (suc x) a m e =
      ap (λ rest. record l { phase = released name c.node.after l.phase } ∷ rest) (released_bare cs ls x a m e)

-- THE END OF `main`

module _ (f : Frame) (d : Doing) (s : Slots) (x : ℕ) (is : d.x ≡ x) (h : IsReleased d f s) (read : AreRead s) (lt : x < length s.own) where
  abbrev name : List ℕ
  name = d.component.node.name

  abbrev others : List world.Leaf
  others = all_released name d.system.components (slice_set d.world.leaves d.x (leaving d.leaf))

  here : (l : world.Leaf) × (slice_get (world_seen f s).leaves x ≡ Some l)
  here = let t = leaf_there (world_seen f s) x 0 (slot_of s (InLeaf x 0)) (read f (InLeaf x 0) (lt, omega arith)) in (t.0, t.1)

  there : slice_get others d.x ≡ Some here.0
  there = (λ i. slice_get (h i).leaves (is i)) ∙ here.1

  links : no_link d.leaf.slots ≡ has_no_link (own_slots s x)
  links =
      ap no_link (sym (released_slots name d.system.components d.world.leaves d.x (leaving d.leaf) here.0 there)
      ∙ slots_seen f.leaf (memory_of s) s.own s.heaps x here.0 here.1)
      ∙ no_link_seen (memory_of s x) (own_slots s x)

  pub linked_end : has_no_link (own_slots s x) ≡ false → main_ended d None 0 ≡ Err WrongKind
  linked_end e = ap (λ b. when b WrongKind (Ok (exit_of d, Finished))) (links ∙ e)

  exit_is : exit_of d ≡ bare_in (world_seen f s) x (slice_get (world_seen f s).leaves x)
  exit_is =
      ap (λ ls. record (standing d (exited d.leaf)) { leaves = ls })
      (sym (released_bare name d.system.components d.world.leaves d.x (leaving d.leaf) here.0 there))
      ∙ ((λ i. world.with_leaf (h i) (is i) (bare here.0)) ∙ sym (ap (bare_in (world_seen f s) x) here.1))

  pub free_end : (t : Slots) → has_no_link (own_slots s x) ≡ true → EndsLeaf s t x → main_ended d None 0 ≡ Ok (world_seen f t, Finished)
  free_end t e ends =
      ap (λ b. when b WrongKind (Ok (exit_of d, Finished))) (links ∙ e) ∙ ap (λ w. Ok (w, Finished)) (exit_is ∙ sym (ends.seen_so f))
