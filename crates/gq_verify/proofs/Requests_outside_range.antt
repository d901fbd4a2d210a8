-- Of requests that are not for a service nothing is reported that is asked of it.
use Rattle.std.proofs.Common.{◌≡◌, ◌≤◌, ◌*◌, ℕ, arith, Bool, false, List, [], ◌∷◌, ◌++◌, drop, ap}
use Rattle.std.specs.Prelude.{if◌then◌else◌, ◌&&◌, ◌||◌}
use Rattle.gq_model.specs.machine.Program.{text_eq}
use Rattle.gq_model.specs.machine.Sections.{same_section}
use Rattle.gq_model.specs.declared.section.Section.{Section}
use Rattle.gq_verify.specs.declared.asked.Asker.{Asker}
use Rattle.gq_verify.specs.Requested.{Requested, is_asked, requests_for}
use Rattle.gq_verify.specs.Askers.{askers_of}
use Rattle.gq_verify.specs.internal.Service_keys.{IsOutside}
use Rattle.gq_program.proofs.Skipped_list_ends as skip

module _ {A : Type 0} (service : List ℕ) (f : List Requested → A)
    (next : (x : Requested) (xs : List Requested) → text_eq service x.service ≡ false → f (x ∷ xs) ≡ f xs) where
  -- without those before the first place
  pub skipped : (items : List Requested) (first end : ℕ) → IsOutside service items first end → f (drop first items) ≡ f items
  skipped items first end h = skip.skipped (λ a. text_eq service a.service ≡ false) f next items first end h

  -- from the last place on
  pub rest : (items : List Requested) (first end n : ℕ) → IsOutside service items first end → end ≤ n → f (drop n items) ≡ f []
  rest items first end n h past = skip.rest (λ a. text_eq service a.service ≡ false) f next items first end n h past

pub not_asker : (service : List ℕ) (leaf part : ℕ) (x : Requested) (xs : List Requested) → text_eq service x.service ≡ false →
    askers_of service leaf part (x ∷ xs) ≡ askers_of service leaf part xs
not_asker service leaf part x xs e =
    let here : Asker = record { leaf = leaf; part = part; section = x.section; count = x.count } in
    ap (λ (b : Bool). (if b then here ∷ [] else []) ++ askers_of service leaf part xs) e

pub not_asked : (service : List ℕ) (x : Requested) (xs : List Requested) → text_eq service x.service ≡ false → is_asked service (x ∷ xs) ≡ is_asked service xs
not_asked service x xs e = ap (λ (b : Bool). b || is_asked service xs) e

pub not_counted : (service : List ℕ) (section : Section) (x : Requested) (xs : List Requested) → text_eq service x.service ≡ false →
    requests_for (x ∷ xs) service section ≡ requests_for xs service section
not_counted service section x xs e =
    let h : (if text_eq service x.service && same_section section x.section then 1 else 0) * x.count ≡ 0 * x.count =
    ap (λ (b : Bool). (if b && same_section section x.section then 1 else 0) * x.count) e in
    omega (arith, h)
