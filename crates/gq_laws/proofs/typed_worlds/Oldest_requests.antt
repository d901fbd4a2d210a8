-- The oldest request for a server: it is the first of its session, and of other sessions the same requests are left.
use Rattle.std.proofs.Common.{◌≡◌, ◌≢◌, ℕ, ◌==◌, inl, inr, cond, Bool, true, false, List, [], ◌∷◌, Option, Some, None, refl, ap, sym, ◌∙◌, subst}
use Rattle.std.proofs.lemmas.Bool.Decides.{eqb_tells}
use Rattle.gq_model.specs.declared.section.Section.{Section}
use Rattle.gq_model.specs.machine.World.{Session, Request, World, session_at}
use Rattle.gq_model.specs.machine.Step.{is_to, oldest, kept_before, section_for, level_then}
use Rattle.gq_laws.specs.Current_section_facts.{section_waiting}
use Rattle.gq_model.proofs.Small_facts.{some_same, none_some}
use Rattle.std.proofs.lemmas.Bool.{false≢true}

module _ (w : World) (x k : ℕ) (s : Session) where
  -- the section that this request starts
  abbrev its_section : Request → Option Section
  its_section r = Some (section_for r.ask (level_then r.ask s.level))

  skips : (r : Request) (rest : List Request) → (r.session == k) ≡ false → section_waiting k s (r ∷ rest) ≡ section_waiting k s rest
  skips r rest e = ap (λ b. cond b (its_section r) (section_waiting k s rest)) e

  starts : (r : Request) (rest : List Request) → r.session ≡ k → section_waiting k s (r ∷ rest) ≡ its_section r
  starts r rest e = elim (eqb_tells r.session k) [ inl f ↦ ap (λ b. cond b (its_section r) (section_waiting k s rest)) f.0 | inr f ↦ absurd (f.1 e) ]

  -- FIRST

  abbrev IsFirst : List Request → Request × List Request → Type 0
  IsFirst rs p = p.0.session ≡ k → section_waiting k s rs ≡ its_section p.0

  module _ (to : is_to x (session_at w k) ≡ true) where
    first_by : (q : Request) (qs : List Request) (b : Bool) → is_to x (session_at w q.session) ≡ b → (o : Option (Request × List Request))
        → ((p : Request × List Request) → o ≡ Some p → IsFirst qs p) → (a : Request × List Request) → cond b (Some (q, qs)) (kept_before q o) ≡ Some a
        → IsFirst (q ∷ qs) a
    first_by q qs true t o f a e = subst (IsFirst (q ∷ qs)) (some_same e) (λ same. starts q qs same)
    first_by q qs false t None f a e = absurd (none_some e)
    first_by q qs false t (Some p) f a e = subst (IsFirst (q ∷ qs)) (some_same e) (λ same. skips q qs apart ∙ f p refl same)
      where
        apart : (q.session == k) ≡ false
        apart = elim (eqb_tells q.session k) [ inl g ↦ absurd (false≢true (sym t ∙ (ap (λ j. is_to x (session_at w j)) g.1 ∙ to))) | inr g ↦ g.0 ]

    -- of the session of the oldest request to its server it is the first
    pub oldest_first : (rs : List Request) (p : Request × List Request) → oldest w x rs ≡ Some p → p.0.session ≡ k
        → section_waiting k s rs ≡ Some (section_for p.0.ask (level_then p.0.ask s.level))
    oldest_first [] p e same = absurd (none_some e)
    oldest_first (q ∷ qs) p e same = first_by q qs (is_to x (session_at w q.session)) refl (oldest w x qs) (λ a f. oldest_first qs a f) p e same

  -- OTHERS

  abbrev IsLeft : List Request → Request × List Request → Type 0
  IsLeft rs p = p.0.session ≢ k → section_waiting k s p.1 ≡ section_waiting k s rs

  left_by : (q : Request) (qs : List Request) (b : Bool) (o : Option (Request × List Request)) → ((p : Request × List Request) → o ≡ Some p → IsLeft qs p)
      → (a : Request × List Request) → cond b (Some (q, qs)) (kept_before q o) ≡ Some a → IsLeft (q ∷ qs) a
  left_by q qs true o f a e = subst (IsLeft (q ∷ qs)) (some_same e)
      (λ ne. elim (eqb_tells q.session k) [ inl g ↦ absurd (ne g.1) | inr g ↦ sym (skips q qs g.0) ])
  left_by q qs false None f a e = absurd (none_some e)
  left_by q qs false (Some p) f a e = subst (IsLeft (q ∷ qs)) (some_same e) (λ ne. ap (cond (q.session == k) (its_section q)) (f p refl ne))

  -- without the oldest request the other sessions wait for what they waited for
  pub oldest_left : (rs : List Request) (p : Request × List Request) → oldest w x rs ≡ Some p → p.0.session ≢ k
      → section_waiting k s p.1 ≡ section_waiting k s rs
  oldest_left [] p e ne = absurd (none_some e)
  oldest_left (q ∷ qs) p e ne = left_by q qs (is_to x (session_at w q.session)) (oldest w x qs) (λ a f. oldest_left qs a f) p e ne
