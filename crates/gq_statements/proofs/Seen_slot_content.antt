-- What a slot of the world, and what holds inside slots, report of what stands there.
use Rattle.std.proofs.Common.{◌≡◌, ℕ, zero, suc, ◌<◌, inl, inr, true, List, [], ◌∷◌, map, get_or, length, Option, Some, None, refl, ap, subst, arith}
use Rattle.std.proofs.lemmas.Bool.{and_parts}
use Rattle.std.proofs.lemmas.Bool.Decides.{eqb_tells}
use Rattle.gq_model.specs.declared.program.Form.{Form}
use Rattle.gq_model.specs.machine.Step.{all_empty, is_empty}
use Rattle.gq_model.specs.machine.World as world
use Rattle.gq_model.proofs.Small_facts.{some_same, none_some}
use Rattle.gq_store.specs.Store.{Store}
use Rattle.gq_pool.specs.declared.pool.Pool.{Pool}
use Rattle.gq_contents.specs.declared.content.Content.{Content}
use Rattle.gq_contents.specs.declared.content.Content.TheVariants as content
use Rattle.gq_contents.specs.Contents.{seen}
use Rattle.gq_trade.specs.declared.requests.Ask.TheVariants.{Open}
use Rattle.gq_trade.specs.declared.requests.Request.{Request}
use Rattle.gq_trade.specs.Queues.{kept_before, oldest_to}
use Rattle.gq_trade.specs.declared.session.Session.{Session}
use Rattle.gq_trade.specs.Trading.{session_in}
use Rattle.gq_slots.specs.internal.Slots_invariant.{AreUnmade, IsObject, IsUnmade}

-- nothing stands where the test finds nothing
tested_empty : (st : Store) (t : Content) → is_empty (seen st t) ≡ true → t ≡ content.Empty
tested_empty st content.Empty e = refl
tested_empty st (content.Block p n) e = cc
tested_empty st (content.Slice k n) e = cc
tested_empty st (content.Space k n) e = cc
tested_empty st (content.Pool p) e = cc
tested_empty st (content.Link k) e = cc
tested_empty st (content.Waiting k) e = cc

pub empty_content : (st : Store) (t : Content) → seen st t ≡ world.Empty → t ≡ content.Empty
empty_content st t e = tested_empty st t (ap is_empty e)

-- so it is of all slots of a session
pub empty_contents : (st : Store) (ts : List Content) → all_empty (map (seen st) ts) ≡ true → (i : ℕ) → i < length ts
    → get_or ts i content.Empty ≡ content.Empty
empty_contents st [] e i lt = absurd (omega (arith, lt))
empty_contents st (t ∷ ts) e zero lt = tested_empty st t (and_parts (is_empty (seen st t)) (all_empty (map (seen st) ts)) e).0
empty_contents st (t ∷ ts) e (suc i) lt =
    empty_contents st ts (and_parts (is_empty (seen st t)) (all_empty (map (seen st) ts)) e).1 i (omega (arith, lt))

-- what reads as bytes is no pool
pub bytes_no_pool : (st : Store) (t : Content) (g : Form) (n : ℕ) (bytes : List ℕ) → seen st t ≡ world.Bytes g n bytes → (p : Pool) → t ≡ content.Pool p → ⊥
bytes_no_pool st t g n bytes e p is = is_pool (ap (seen st) is)
  where
    is_pool : seen st t ≡ seen st (content.Pool p) → ⊥
    is_pool h = cc

-- INSIDE SLOTS

-- an object is no pool
pub object_no_pool : (t : Content) → IsObject t → (p : Pool) → t ≡ content.Pool p → ⊥
object_no_pool t o p e = subst IsObject e o

-- of a session whose request to open is the oldest there is no object yet
unmade_taken : (ss : List (Option Session)) (x : ℕ) (rs : List Request) (p : Request × List Request) → AreUnmade ss rs → oldest_to x rs ≡ Some p
    → IsUnmade p.0.ask (session_in ss p.0.session).object
unmade_taken ss x [] p u e = absurd (none_some e)
unmade_taken ss x (r ∷ rs) p u e = elim (eqb_tells r.server x) [
  | inl t ↦ first (r, rs) u.0 (rw t.0 at e)
  | inr n ↦ later (oldest_to x rs) (λ q f. unmade_taken ss x rs q u.1 f) (rw n.0 at e)
]
  where
    first : (q : Request × List Request) → IsUnmade q.0.ask (session_in ss q.0.session).object → Some q ≡ Some p
        → IsUnmade p.0.ask (session_in ss p.0.session).object
    first q v f = subst (λ (y : Request × List Request). IsUnmade y.0.ask (session_in ss y.0.session).object) (some_same f) v

    later : (o : Option (Request × List Request)) → ((q : Request × List Request) → o ≡ Some q → IsUnmade q.0.ask (session_in ss q.0.session).object)
        → kept_before r o ≡ Some p → IsUnmade p.0.ask (session_in ss p.0.session).object
    later None all f = absurd (none_some f)
    later (Some q) all f = first (q.0, r ∷ q.1) (all q refl) f

pub unmade_oldest : (ss : List (Option Session)) (x : ℕ) (rs : List Request) (r : Request) (others : List Request) → AreUnmade ss rs
    → oldest_to x rs ≡ Some (r, others) → r.ask ≡ Open → (session_in ss r.session).object ≡ content.Empty
unmade_oldest ss x rs r others u e is =
    subst (λ a. IsUnmade a (session_in ss r.session).object) is (unmade_taken ss x rs (r, others) u e)
