-- The oldest requests for a leaf inside correspond, and so do those that are left.
use Rattle.std.proofs.Common.{◌≡◌, ℕ, ◌||◌, inl, inr, Bool, true, false, cond, List, [], ◌∷◌, map, Option, Some, None, refl, ap, sym, ◌∙◌}
use Rattle.std.specs.Prelude.{is_some, option_map}
use Rattle.std.proofs.lemmas.Bool.{true≢false}
use Rattle.std.proofs.lemmas.Bool.Decides.{eqb_tells}
use Rattle.gq_model.specs.machine.World.{Session, Request, World, session_at}
use Rattle.gq_model.specs.machine.Step.{is_to, kept_before, oldest}
use Rattle.gq_model.proofs.Small_facts.{some_same, none_some, some_none}
use Rattle.gq_laws.specs.Separation.{own_session, own_requests}
use Rattle.gq_laws.specs.Renamed.{renamed_session, renamed_request}
use Rattle.gq_laws.specs.internal.Corresponding.{own_at, IsSame}
use Rattle.gq_laws.proofs.Session_renaming.{own_there}

abbrev pub Found : Type 0
Found = Option (Request × List Request)

module _ (group : ℕ → Bool) (x : ℕ) (inside : group x ≡ true) where
  own_server : (s : Session) → group s.server ≡ true → own_session group (Some s) ≡ Some s
  own_server s e = by (group s.client) (group s.server) e
    where
      by : (a b : Bool) → b ≡ true → cond (a || b) (Some s) None ≡ Some s
      by true b e = refl
      by false true e = refl
      by false false e = absurd cc

  -- a session to a leaf inside is the group's
  pub to_own : (o : Option Session) → is_to x o ≡ true → (s : Session) × (own_session group o ≡ Some s)
  to_own None e = absurd cc
  to_own (Some s) e = elim (eqb_tells s.server x) [
    | inl t ↦ (s, own_server s (ap group t.1 ∙ inside))
    | inr t ↦ absurd (true≢false (sym e ∙ t.0))
  ]

  -- AMONG THE GROUP'S REQUESTS

  module _ (w : World) where
    abbrev own_left : Request × List Request → Request × List Request
    own_left p = (p.0, own_requests group w p.1)

    abbrev is_own : Request → Bool
    is_own r = is_some (own_session group (session_at w r.session))

    keeps : (r : Request) (o : Found) → is_own r ≡ true → kept_before r (option_map own_left o) ≡ option_map own_left (kept_before r o)
    keeps r None e = refl
    keeps r (Some p) e = λ t. Some (p.0, cond (sym e t) (r ∷ own_requests group w p.1) (own_requests group w p.1))

    drops : (r : Request) (o : Found) → is_own r ≡ false → option_map own_left o ≡ option_map own_left (kept_before r o)
    drops r None e = refl
    drops r (Some p) e = λ t. Some (p.0, cond (sym e t) (r ∷ own_requests group w p.1) (own_requests group w p.1))

    owns : (r : Request) → is_to x (session_at w r.session) ≡ true → is_own r ≡ true
    owns r e = let s = to_own (session_at w r.session) e in ap is_some s.1

    first : (r : Request) (rs : List Request) (b c : Bool) → is_to x (session_at w r.session) ≡ b → is_own r ≡ c
        → oldest w x (own_requests group w rs) ≡ option_map own_left (oldest w x rs)
        → oldest w x (cond c (r ∷ own_requests group w rs) (own_requests group w rs))
        ≡ option_map own_left (cond b (Some (r, rs)) (kept_before r (oldest w x rs)))
    first r rs true true to is further =
        ap (λ b. cond b (Some (r, own_requests group w rs)) (kept_before r (oldest w x (own_requests group w rs)))) to
    first r rs true false to is further = absurd (true≢false (sym (owns r to) ∙ is))
    first r rs false true to is further =
        ap (λ b. cond b (Some (r, own_requests group w rs)) (kept_before r (oldest w x (own_requests group w rs)))) to
        ∙ (ap (kept_before r) further ∙ keeps r (oldest w x rs) is)
    first r rs false false to is further = further ∙ drops r (oldest w x rs) is

    oldest_own : (rs : List Request) → oldest w x (own_requests group w rs) ≡ option_map own_left (oldest w x rs)
    oldest_own [] = refl
    oldest_own (r ∷ rs) = first r rs (is_to x (session_at w r.session)) (is_own r) refl refl (oldest_own rs)

  -- IN BOTH WORLDS

  module _ (f : ℕ → ℕ) (w v : World) (h : IsSame group f w v) where
    abbrev all_renamed : Request × List Request → Request × List Request
    all_renamed p = (renamed_request f p.0, map (renamed_request f) p.1)

    renames : (r : Request) (o : Found) → kept_before (renamed_request f r) (option_map all_renamed o) ≡ option_map all_renamed (kept_before r o)
    renames r None = refl
    renames r (Some p) = refl

    same_to : (k : ℕ) (s : Session) → own_at group w.sessions k ≡ Some s → is_to x (session_at v (f k)) ≡ is_to x (session_at w k)
    same_to k s e =
        ap (is_to x) (own_there group (session_at v (f k)) (renamed_session f s) (h.sessions.there k s e))
        ∙ ap (is_to x) (sym (own_there group (session_at w k) s e))

    renamed_first : (r : Request) (rest : List Request) (b c : Bool) → b ≡ c
        → oldest v x (map (renamed_request f) rest) ≡ option_map all_renamed (oldest w x rest)
        → cond b (Some (renamed_request f r, map (renamed_request f) rest)) (kept_before (renamed_request f r) (oldest v x (map (renamed_request f) rest)))
        ≡ option_map all_renamed (cond c (Some (r, rest)) (kept_before r (oldest w x rest)))
    renamed_first r rest true true e further = refl
    renamed_first r rest false false e further = ap (kept_before (renamed_request f r)) further ∙ renames r (oldest w x rest)
    renamed_first r rest true false e further = absurd (true≢false e)
    renamed_first r rest false true e further = absurd (true≢false (sym e))

    renamed_own : (r : Request) (rest : List Request) (o : Option Session) → own_at group w.sessions r.session ≡ o
        → oldest v x (map (renamed_request f) rest) ≡ option_map all_renamed (oldest w x rest)
        → oldest v x (map (renamed_request f) (cond (is_some o) (r ∷ rest) rest)) ≡ option_map all_renamed (oldest w x (cond (is_some o) (r ∷ rest) rest))
    renamed_own r rest None e further = further
    renamed_own r rest (Some s) e further = renamed_first r rest _ _ (same_to r.session s e) further

    renamed_oldest : (rs : List Request)
        → oldest v x (map (renamed_request f) (own_requests group w rs)) ≡ option_map all_renamed (oldest w x (own_requests group w rs))
    renamed_oldest [] = refl
    renamed_oldest (r ∷ rs) = renamed_own r (own_requests group w rs) (own_session group (session_at w r.session)) refl (renamed_oldest rs)

    both_oldest : option_map (own_left v) (oldest v x v.requests) ≡ option_map all_renamed (option_map (own_left w) (oldest w x w.requests))
    both_oldest =
        sym (oldest_own v v.requests) ∙ (ap (oldest v x) h.requests
        ∙ (renamed_oldest w.requests ∙ ap (option_map all_renamed) (oldest_own w w.requests)))

    -- the oldest requests correspond
    pub record AreFirst (p q : Request × List Request) : Type 0 where
      pub request : q.0 ≡ renamed_request f p.0
      pub left : own_requests group v q.1 ≡ map (renamed_request f) (own_requests group w p.1)

    -- where there is one for the leaf in the one world, there is one in the other
    abbrev pub Match : Found → Found → Type 0
    Match None None = Unit {0}
    Match None (Some q) = ⊥
    Match (Some p) None = ⊥
    Match (Some p) (Some q) = AreFirst p q

    matches : (o q : Found) → option_map (own_left v) q ≡ option_map all_renamed (option_map (own_left w) o) → Match o q
    matches None None e = tt
    matches None (Some q) e = some_none e
    matches (Some p) None e = none_some e
    matches (Some p) (Some q) e =
        let same = some_same e in
        record { request = ap (λ (a : Request × List Request). a.0) same; left = ap (λ (a : Request × List Request). a.1) same }

    pub matched : Match (oldest w x w.requests) (oldest v x v.requests)
    matched = matches (oldest w x w.requests) (oldest v x v.requests) both_oldest
