-- Requests that are put at the end of a list, entry by entry.
use Rattle.std.proofs.Common.{◌≡◌, ◌<◌, ℕ, ◌+◌, Bool, true, false, List, [], ◌∷◌, ◌++◌, drop, length, get_or, ap, sym, ◌∙◌, append_assoc, append-nil}
use Rattle.std.specs.Prelude.{if◌then◌else◌}
use Rattle.std.proofs.lemmas.List.{drop_more}
use Rattle.gq_model.specs.machine.Program.{text_eq}
use Rattle.gq_verify.specs.declared.asked.Asker.{Asker}
use Rattle.gq_verify.specs.Requested.{Requested}
use Rattle.gq_verify.specs.Askers.{askers_of}

module _ (service : List ℕ) (leaf part : ℕ) (items : List Requested) (i : ℕ) where
  abbrev asker_by : Requested → Asker
  asker_by a = record { leaf = leaf; part = part; section = a.section; count = a.count }

  step : (a : Requested) → i < length items → a ≡ get_or items i a →
      askers_of service leaf part (drop i items) ≡
      (if text_eq service a.service then asker_by a ∷ [] else []) ++ askers_of service leaf part (drop (i + 1) items)
  step a less at =
      ap (askers_of service leaf part) (drop_more items i a less)
      ∙ ap (λ (a : Requested). (if text_eq service a.service then asker_by a ∷ [] else []) ++ askers_of service leaf part (drop (i + 1) items)) (sym at)

  -- with one more, which is for the service
  pub put_here : (a : Requested) (made made' all : List Asker) → i < length items → a ≡ get_or items i a → text_eq service a.service ≡ true →
      made' ≡ made ++ asker_by a ∷ [] → made ++ askers_of service leaf part (drop i items) ≡ all →
      made' ++ askers_of service leaf part (drop (i + 1) items) ≡ all
  put_here a made made' all less at is more e =
      let rest = askers_of service leaf part (drop (i + 1) items) in
      ap (λ (l : List Asker). l ++ rest) more
      ∙ (append_assoc made (asker_by a ∷ []) rest
      ∙ (ap (λ (b : Bool). made ++ ((if b then asker_by a ∷ [] else []) ++ rest)) (sym is)
      ∙ (ap (λ (l : List Asker). made ++ l) (sym (step a less at)) ∙ e)))

  -- without one, which is not for the service
  pub put_past : (a : Requested) (made all : List Asker) → i < length items → a ≡ get_or items i a → text_eq service a.service ≡ false →
      made ++ askers_of service leaf part (drop i items) ≡ all → made ++ askers_of service leaf part (drop (i + 1) items) ≡ all
  put_past a made all less at is e =
      let rest = askers_of service leaf part (drop (i + 1) items) in
      ap (λ (b : Bool). made ++ ((if b then asker_by a ∷ [] else []) ++ rest)) (sym is)
      ∙ (ap (λ (l : List Asker). made ++ l) (sym (step a less at)) ∙ e)

  pub put_all : (made all : List Asker) → askers_of service leaf part (drop i items) ≡ [] → made ++ askers_of service leaf part (drop i items) ≡ all →
      made ≡ all
  put_all made all none e = sym (append-nil made) ∙ (ap (λ (l : List Asker). made ++ l) (sym none) ∙ e)
