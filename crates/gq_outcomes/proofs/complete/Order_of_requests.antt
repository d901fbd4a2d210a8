-- What a step does to the order in which servers are asked, by the threads that ask.
use Rattle.std.proofs.Common.{◌≡◌, ◌≢◌, inl, inr, ℕ, ◌==◌, Bool, true, false, cond, ◌++◌, List, [], ◌∷◌, Option, Some, None}
use Rattle.std.proofs.Common.{refl, ap, sym, ◌∙◌, subst}
use Rattle.std.proofs.lemmas.Bool.Decides.{eqb_tells}
use Rattle.std.proofs.lemmas.List.{append_assoc, append-nil}
use Rattle.gq_model.specs.machine.Step.{is_to, kept_before, oldest}
use Rattle.gq_model.specs.machine.World.{Session, Request, World, session_at}
use Rattle.gq_model.proofs.Small_facts.{none_some, some_same, equal_self}
use Rattle.gq_laws.specs.Shapes.{Each}
use Rattle.gq_determined.specs.internal.Threads.{among}
use Rattle.gq_determined.proofs.thread_positions.First_request_given.{equal_of}
use Rattle.gq_outcomes.proofs.complete.Held_worlds.{Held, view}

-- ORDERS

-- the threads whose requests wait for a server, the oldest first
abbrev pub roots_in : (ℕ → ℕ) → World → ℕ → List Request → List ℕ
roots_in root w z [] = []
roots_in root w z (r ∷ rs) = cond (is_to z (session_at w r.session)) (root r.session ∷ roots_in root w z rs) (roots_in root w z rs)

abbrev pub roots_to : Held → ℕ → List ℕ
roots_to m z = roots_in (view m).root m.world z m.world.requests

-- those of them that are a thread's
abbrev pub asked_of : Held → ℕ → ℕ → List ℕ
asked_of m i z = roots_in (view m).root m.world z (among (view m).root i m.world.requests)

pub roots_more : (root : ℕ → ℕ) (w : World) (z : ℕ) (a b : List Request) → roots_in root w z (a ++ b) ≡ roots_in root w z a ++ roots_in root w z b
roots_more root w z [] b = refl
roots_more root w z (r ∷ a) b = by (is_to z (session_at w r.session)) (roots_more root w z a b)
  where
    by : (c : Bool) → roots_in root w z (a ++ b) ≡ roots_in root w z a ++ roots_in root w z b
        → cond c (root r.session ∷ roots_in root w z (a ++ b)) (roots_in root w z (a ++ b))
        ≡ cond c (root r.session ∷ roots_in root w z a) (roots_in root w z a) ++ roots_in root w z b
    by true e = ap (λ l. root r.session ∷ l) e
    by false e = e

-- a request of the same thread and for the same servers in two worlds
abbrev pub SameAsk : (ℕ → ℕ) → (ℕ → ℕ) → World → World → Request → Type 0
SameAsk root other w v r = (other r.session ≡ root r.session) × ((z : ℕ) → is_to z (session_at v r.session) ≡ is_to z (session_at w r.session))

pub roots_same : (root other : ℕ → ℕ) (w v : World) (z : ℕ) (rs : List Request) → Each (SameAsk root other w v) rs → roots_in other v z rs
    ≡ roots_in root w z rs
roots_same root other w v z [] each = refl
roots_same root other w v z (r ∷ rs) each =
    λ e. cond (each.0.1 z e) (each.0.0 e ∷ roots_same root other w v z rs each.1 e) (roots_same root other w v z rs each.1 e)

-- the oldest request for a server, and those that are left
module _ (root : ℕ → ℕ) (w : World) (x : ℕ) where
  abbrev Taken : List Request → Option (Request × List Request) → Type 0
  Taken rs o = (p : Request × List Request) → o ≡ Some p
      → (roots_in root w x rs ≡ root p.0.session ∷ roots_in root w x p.1) × ((z : ℕ) → z ≢ x → roots_in root w z rs ≡ roots_in root w z p.1)

  server_one : (z : ℕ) (o : Option Session) → is_to x o ≡ true → z ≢ x → is_to z o ≡ false
  server_one z None e ne = refl
  server_one z (Some s) e ne = elim (eqb_tells s.server z) [ inl q ↦ absurd (ne (sym q.1 ∙ equal_of s.server x e)) | inr q ↦ q.0 ]

  taken_kept : (r : Request) (rs : List Request) (o : Option (Request × List Request)) → is_to x (session_at w r.session) ≡ false → Taken rs o
      → Taken (r ∷ rs) (kept_before r o)
  taken_kept r rs None out h p e = absurd (none_some e)
  taken_kept r rs (Some q) out h p e =
      let same : (q.0, r ∷ q.1) ≡ p = some_same e in
      let old = h q refl in (
        ap (λ c. cond c (root r.session ∷ roots_in root w x rs) (roots_in root w x rs)) out
            ∙ (old.0 ∙ (ap (λ l. root q.0.session ∷ l)
            (sym (ap (λ c. cond c (root r.session ∷ roots_in root w x q.1) (roots_in root w x q.1)) out))
            ∙ ap (λ (p : Request × List Request). root p.0.session ∷ roots_in root w x p.1) same)),
        λ z ne. ap (λ l. cond (is_to z (session_at w r.session)) (root r.session ∷ l) l) (old.1 z ne)
            ∙ ap (λ (p : Request × List Request). roots_in root w z p.1) same,
      )

  pub oldest_roots : (rs : List Request) → Taken rs (oldest w x rs)
  oldest_roots [] = λ p e. absurd (none_some e)
  oldest_roots (r ∷ rs) = by (is_to x (session_at w r.session)) refl (oldest_roots rs)
    where
      by : (b : Bool) → is_to x (session_at w r.session) ≡ b → Taken rs (oldest w x rs)
          → Taken (r ∷ rs) (cond b (Some (r, rs)) (kept_before r (oldest w x rs)))
      by true is h = λ p e. (
          let same : (r, rs) ≡ p = some_same e in (
            ap (λ c. cond c (root r.session ∷ roots_in root w x rs) (roots_in root w x rs)) is
                ∙ ap (λ (p : Request × List Request). root p.0.session ∷ roots_in root w x p.1) same,
            λ z ne. ap (λ c. cond c (root r.session ∷ roots_in root w z rs) (roots_in root w z rs))
                (server_one z (session_at w r.session) is ne)
                ∙ ap (λ (p : Request × List Request). roots_in root w z p.1) same,
          ))
      by false is h = taken_kept r rs (oldest w x rs) is h

  -- where one waits there is an oldest
  pub oldest_some : (rs : List Request) (i : ℕ) (l : List ℕ) → roots_in root w x rs ≡ i ∷ l
      → (p : Request × List Request) × (oldest w x rs ≡ Some p) × (root p.0.session ≡ i)
  oldest_some [] i l = λ e. absurd (cc e)
  oldest_some (r ∷ rs) i l = by (is_to x (session_at w r.session)) refl (oldest_some rs i l)
    where
      kept : (o : Option (Request × List Request)) → (p : Request × List Request) × (o ≡ Some p) × (root p.0.session ≡ i)
          → (p : Request × List Request) × (kept_before r o ≡ Some p) × (root p.0.session ≡ i)
      kept o q = ((q.0.0, r ∷ q.0.1), ap (kept_before r) q.1, q.2)

      head : {a : ℕ} → a ∷ roots_in root w x rs ≡ i ∷ l → a ≡ i
      head e = cc

      by : (b : Bool) → is_to x (session_at w r.session) ≡ b
          → (roots_in root w x rs ≡ i ∷ l → (p : Request × List Request) × (oldest w x rs ≡ Some p) × (root p.0.session ≡ i))
          → cond b (root r.session ∷ roots_in root w x rs) (roots_in root w x rs) ≡ i ∷ l
          → (p : Request × List Request) × (cond b (Some (r, rs)) (kept_before r (oldest w x rs)) ≡ Some p) × (root p.0.session ≡ i)
      by true is h e = ((r, rs), refl, head e)
      by false is h e = kept (oldest w x rs) (h e)

pub each_taken : (P : Request → Type 0) (w : World) (x : ℕ) (rs : List Request) → Each P rs → (p : Request × List Request) → oldest w x rs ≡ Some p → Each P p.1
each_taken P w x [] each = λ p e. absurd (none_some e)
each_taken P w x (r ∷ rs) each = by (is_to x (session_at w r.session)) (each_taken P w x rs each.1)
  where
    kept : (o : Option (Request × List Request)) → ((p : Request × List Request) → o ≡ Some p → Each P p.1) → (p : Request × List Request)
        → kept_before r o ≡ Some p → Each P p.1
    kept None h p e = absurd (none_some e)
    kept (Some q) h p e = subst (λ (p : Request × List Request). Each P p.1) (some_same e) (each.0, h q refl)

    by : (b : Bool) → ((p : Request × List Request) → oldest w x rs ≡ Some p → Each P p.1) → (p : Request × List Request)
        → cond b (Some (r, rs)) (kept_before r (oldest w x rs)) ≡ Some p → Each P p.1
    by true h p e = subst (λ (p : Request × List Request). Each P p.1) (some_same e) each.1
    by false h p e = kept (oldest w x rs) h p e

pub each_left : (P : Request → Type 0) (a b : List Request) → Each P (a ++ b) → Each P a × Each P b
each_left P [] b e = (tt, e)
each_left P (r ∷ a) b e = let h = each_left P a b e.1 in ((e.0, h.0), h.1)

pub each_both : (P Q : Request → Type 0) (rs : List Request) → Each P rs → Each Q rs → Each (λ r. P r × Q r) rs
each_both P Q [] e f = tt
each_both P Q (r ∷ rs) e f = ((e.0, f.0), each_both P Q rs e.1 f.1)

pub each_map : (P Q : Request → Type 0) → ((r : Request) → P r → Q r) → (rs : List Request) → Each P rs → Each Q rs
each_map P Q f [] e = tt
each_map P Q f (r ∷ rs) e = (f r e.0, each_map P Q f rs e.1)

-- lists of requests none, or all, of which are a thread's
pub among_none : (root : ℕ → ℕ) (i : ℕ) (rs : List Request) → Each (λ r. root r.session ≢ i) rs → among root i rs ≡ []
among_none root i [] e = refl
among_none root i (r ∷ rs) e = elim (eqb_tells (root r.session) i) [
  | inl q ↦ absurd (e.0 q.1)
  | inr q ↦ ap (λ b. cond b (r ∷ among root i rs) (among root i rs)) q.0 ∙ among_none root i rs e.1
]

pub among_all : (root : ℕ → ℕ) (i : ℕ) (rs : List Request) → Each (λ r. root r.session ≡ i) rs → among root i rs ≡ rs
among_all root i [] e = refl
among_all root i (r ∷ rs) e =
    ap (λ b. cond b (r ∷ among root i rs) (among root i rs)) (ap (λ n. n == i) e.0 ∙ equal_self i) ∙ ap (λ l. r ∷ l) (among_all root i rs e.1)

pub among_more : (root : ℕ → ℕ) (i : ℕ) (a b : List Request) → among root i (a ++ b) ≡ among root i a ++ among root i b
among_more root i [] b = refl
among_more root i (r ∷ a) b = by (root r.session == i) (among_more root i a b)
  where
    by : (c : Bool) → among root i (a ++ b) ≡ among root i a ++ among root i b
        → cond c (r ∷ among root i (a ++ b)) (among root i (a ++ b)) ≡ cond c (r ∷ among root i a) (among root i a) ++ among root i b
    by true e = ap (λ l. r ∷ l) e
    by false e = e

-- what stands behind another list, and in no other thread's part, is the thread's
pub behind : (root : ℕ → ℕ) (i : ℕ) (a b : List Request) → ((y : ℕ) → y ≢ i → among root y (a ++ b) ≡ among root y a) → Each (λ r. root r.session ≡ i) b
behind root i a [] same = tt
behind root i a (r ∷ b) same = elim (eqb_tells (root r.session) i) [
  | inl q ↦ (
    q.1,
    behind root i (a ++ (r ∷ [])) b (λ y ne.
        ap (among root y) (append_assoc a (r ∷ []) b)
        ∙ (same y ne ∙ sym (among_more root y a (r ∷ []) ∙ (ap (λ l. among root y a ++ l) (alone r y (λ e. ne (sym e ∙ q.1))) ∙ append-nil (among root y a))))),
  )
  | inr q ↦ absurd (no_more (among root (root r.session) a) r (among root (root r.session) b)
      (ap (λ l. among root (root r.session) a ++ l) (sym (here r b)) ∙ (sym (among_more root (root r.session) a (r ∷ b)) ∙ same (root r.session) q.1)))
]
  where
    alone : (r : Request) (y : ℕ) → root r.session ≢ y → among root y (r ∷ []) ≡ []
    alone r y ne = elim (eqb_tells (root r.session) y) [ inl q ↦ absurd (ne q.1) | inr q ↦ ap (λ c. cond c (r ∷ []) []) q.0 ]

    here : (r : Request) (b : List Request) → among root (root r.session) (r ∷ b) ≡ r ∷ among root (root r.session) b
    here r b = ap (λ c. cond c (r ∷ among root (root r.session) b) (among root (root r.session) b)) (equal_self (root r.session))

    no_more : (l : List Request) (r : Request) (k : List Request) → l ++ (r ∷ k) ≡ l → ⊥
    no_more [] r k e = cc e
    no_more (q ∷ l) r k e = no_more l r k (tail e)
      where
        tail : {a b : List Request} → q ∷ a ≡ q ∷ b → a ≡ b
        tail e = cc
