-- What is empty in the slots is empty in the machine's world.
use Rattle.std.proofs.Common.{◌≡◌, ℕ, zero, suc, ◌&&◌, Bool, true, false, List, [], ◌∷◌, map, get_or, refl, ap}
use Rattle.std.proofs.lemmas.Bool.{and_parts}
use Rattle.gq_model.specs.machine.World as world
use Rattle.gq_model.specs.machine.Step as step
use Rattle.gq_store.specs.Store.{Store}
use Rattle.gq_contents.specs.declared.content.Content.{Content}
use Rattle.gq_contents.specs.declared.content.Content.TheVariants as content
use Rattle.gq_contents.specs.Contents.{seen}
use Rattle.gq_slots.specs.Slots.{IsMark}
use Rattle.gq_statements.specs.internal.Content_tests.{are_empty, is_empty}

empty_seen : (st : Store) (t : Content) → step.is_empty (seen st t) ≡ is_empty t
empty_seen st content.Empty = refl
empty_seen st (content.Block p m) = refl
empty_seen st (content.Slice k m) = refl
empty_seen st (content.Space k m) = refl
empty_seen st (content.Pool p) = refl
empty_seen st (content.Link k) = refl
empty_seen st (content.Waiting k) = refl

pub all_empty_seen : (st : Store) (ts : List Content) → step.all_empty (map (seen st) ts) ≡ are_empty ts
all_empty_seen st [] = refl
all_empty_seen st (t ∷ ts) = λ i. empty_seen st t i && all_empty_seen st ts i

empty_is : (t : Content) → is_empty t ≡ true → t ≡ content.Empty
empty_is content.Empty e = refl
empty_is (content.Block p m) e = cc
empty_is (content.Slice k m) e = cc
empty_is (content.Space k m) e = cc
empty_is (content.Pool p) e = cc
empty_is (content.Link k) e = cc
empty_is (content.Waiting k) e = cc

pub empty_each : (ts : List Content) → are_empty ts ≡ true → (i : ℕ) → get_or ts i content.Empty ≡ content.Empty
empty_each [] e i = refl
empty_each (t ∷ ts) e zero = empty_is t (and_parts (is_empty t) (are_empty ts) e).0
empty_each (t ∷ ts) e (suc i) = empty_each ts (and_parts (is_empty t) (are_empty ts) e).1 i

is_waiting : world.Slot → Bool
is_waiting (world.Waiting k) = true
is_waiting _ = false

-- what reads as a slot that waits is a mark
pub waiting_mark : (st : Store) (t : Content) (k : ℕ) → seen st t ≡ world.Waiting k → IsMark t
waiting_mark st content.Empty k e = tt
waiting_mark st (content.Block p m) k e = let f = ap is_waiting e in cc
waiting_mark st (content.Slice j m) k e = let f = ap is_waiting e in cc
waiting_mark st (content.Space j m) k e = let f = ap is_waiting e in cc
waiting_mark st (content.Pool p) k e = let f = ap is_waiting e in cc
waiting_mark st (content.Link j) k e = tt
waiting_mark st (content.Waiting j) k e = tt
