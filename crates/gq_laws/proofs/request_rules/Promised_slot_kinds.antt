-- Slots by their kinds where something else is promised of one session: those that do not name it stay of their kinds.
use Rattle.std.proofs.Common.{◌≡◌, ◌≢◌, ℕ, zero, suc, inl, inr, cond, List, [], ◌∷◌, Option, Some, None, refl, ap, sym, ◌∙◌, subst, arith}
use Rattle.std.specs.Prelude.{slice_get, slice_set}
use Rattle.std.proofs.lemmas.Bool.Decides.{eqb_tells}
use Rattle.gq_model.specs.declared.program.Form.TheVariants.{Slice}
use Rattle.gq_model.specs.machine.Scenario.{number_of}
use Rattle.gq_model.specs.machine.World.{Slot, Empty, Bytes, Pool, Link, Waiting, Session, Current, World, session_at}
use Rattle.gq_model.specs.rules.Kinds.{Kind, Memory, Context}
use Rattle.gq_laws.specs.Session_links.{Naming, Leads, Waits, named, naming}
use Rattle.gq_laws.specs.Typed.{IsKind, AreKinds, CurrentMeets}
use Rattle.gq_laws.specs.Asking.{promised_anew}

suc_zero : (j : ℕ) → suc j ≢ 0
suc_zero j e = omega (arith, e)

zero_suc : (j : ℕ) → 0 ≢ suc j
zero_suc j e = omega (arith, e)

suc_else : (j i : ℕ) → j ≢ i → suc j ≢ suc i
suc_else j i ne e = ne (omega (arith, e))

module _ (promised : ℕ → Option Kind) (k : ℕ) (kind : Kind) where
  abbrev pub anew : ℕ → Option Kind
  anew = promised_anew promised k kind

  -- a slot that does not name the session
  abbrev pub Free : Slot → Type 0
  Free s = (n : Naming) → naming s ≡ Some n → named n ≢ k

  abbrev pub AreFree : List Slot → Type 0
  AreFree slots = (i : ℕ) (s : Slot) → slice_get slots i ≡ Some s → Free s

  abbrev pub AreFreeBut : ℕ → List Slot → Type 0
  AreFreeBut i slots = (j : ℕ) (s : Slot) → j ≢ i → slice_get slots j ≡ Some s → Free s

  pub anew_here : anew k ≡ Some kind
  anew_here = elim (eqb_tells k k) [ inl a ↦ ap (λ b. cond b (Some kind) (promised k)) a.0 | inr a ↦ absurd (a.1 refl) ]

  pub anew_else : (j : ℕ) → j ≢ k → anew j ≡ promised j
  anew_else j ne = elim (eqb_tells j k) [ inl a ↦ absurd (ne a.1) | inr a ↦ ap (λ b. cond b (Some kind) (promised j)) a.0 ]

  pub kind_anew : (s : Slot) (l : Kind) → Free s → IsKind promised s l → IsKind anew s l
  kind_anew Empty l f is = is
  kind_anew (Bytes form n bytes) l f is = is
  kind_anew (Pool n entries) l f is = is
  kind_anew (Link j) l f is = anew_else j (f (Leads j) refl) ∙ is
  kind_anew (Waiting j) l f is = anew_else j (f (Waits j) refl) ∙ is

  pub kinds_anew : (slots : List Slot) (kinds : List Kind) → AreFree slots → AreKinds promised slots kinds → AreKinds anew slots kinds
  kinds_anew [] [] f h = tt
  kinds_anew (s ∷ slots) (l ∷ kinds) f h = (kind_anew s l (f 0 s refl) h.0, kinds_anew slots kinds (λ i. f (suc i)) h.1)
  kinds_anew [] (l ∷ kinds) f h = absurd h
  kinds_anew (s ∷ slots) [] f h = absurd h

  -- the slot that names it waits for what is promised
  pub kinds_waiting : (slots : List Slot) (kinds : List Kind) (i : ℕ) → AreFreeBut i slots → AreKinds promised slots kinds
      → AreKinds anew (slice_set slots i (Waiting k)) (slice_set kinds i kind)
  kinds_waiting [] [] i f h = tt
  kinds_waiting (s ∷ slots) (l ∷ kinds) zero f h = (anew_here, kinds_anew slots kinds (λ j t. f (suc j) t (suc_zero j)) h.1)
  kinds_waiting (s ∷ slots) (l ∷ kinds) (suc i) f h = (
    kind_anew s l (f 0 s (zero_suc i) refl) h.0,
    kinds_waiting slots kinds i (λ j t ne. f (suc j) t (suc_else j i ne)) h.1,
  )
  kinds_waiting [] (l ∷ kinds) i f h = absurd h
  kinds_waiting (s ∷ slots) [] i f h = absurd h

  -- the current session, with the same slots in another world
  pub current_anew : (c : Context) (kinds : List Kind) (v w : World) (current : Option Current)
      → ((g : Current) (s : Session) → current ≡ Some g → session_at v g.session ≡ Some s
      → (t : Session) × (session_at w g.session ≡ Some t) × (t.slots ≡ s.slots) × (t.object ≡ s.object) × AreFree s.slots × Free s.object)
      → CurrentMeets promised c kinds v current → CurrentMeets anew c kinds w current
  current_anew c kinds v w None same h = tt
  current_anew c kinds v w (Some g) same h =
      let t = same g h.0 refl h.1 in (
        t.0,
        t.1,
        record {
          slots = subst (λ l. AreKinds anew l kinds) (sym t.2) (kinds_anew h.0.slots kinds t.4 h.2.slots);
          object = subst (λ o. IsKind anew o (Memory Slice (number_of c.subject.provided (λ i. i.object)))) (sym t.3) (kind_anew h.0.object _ t.5 h.2.object);
        },
      )
