use Rattle.std.proofs.Common.{◌≡◌, ◌∙◌, ℕ, ◌≤◌, ◌^◌, max, List, [], ◌∷◌, get_or, refl, ap, arith}
use Rattle.std.specs.Prelude.{sum_by}
use Rattle.gq_tariff.specs.Prices.{classes}
use Rattle.gq_tariff.specs.declared.class.Class.TheVariants.{Bytes16, Bytes32, Bytes64, Bytes128, Bytes256, Bytes512, Bytes1024, Bytes2048}
use Rattle.gq_caps.specs.declared.totals.Measure.TheVariants.{Places}
use Rattle.gq_model.specs.machine.Amounts.{Caps}
use Rattle.gq_model.specs.rules.Kinds.{Kind, kind_places}
use Rattle.gq_verify.specs.Saturated_numbers.{saturated}
use Rattle.gq_sizes.specs.Size.{slots_cost}
use Rattle.gq_sizes.specs.Point_maxima.{given_in}
use Rattle.gq_sizes.proofs.Eight_list_facts.{of_eight}
use Rattle.gq_sizes.proofs.point_maxima.MostOwnVisitor.point.Goals as goal

pub returns : goal.returns
returns c =
    let old : List ℕ = c.args.self.now.places in
    let new : List ℕ =
    c.max.result ∷ c.max-2.result ∷ c.max-3.result ∷ c.max-4.result ∷ c.max-5.result ∷ c.max-6.result ∷ c.max-7.result ∷ c.max-8.result ∷ [] in
    let own = c.own-2.ensures in
    let given = c.args.self.now.given in
    let sums = c.totals-totals.ensures.sums in (
      refl,
      c.max-self.ensures
          ∙ ap (max c.args.self.now.slots)
          (c.slots.ensures ∙ ap (λ (ks : List Kind). saturated (slots_cost (given_in given.now.interfaces.now given.now.sums.now) Caps ks)) c.own.ensures),
      of_eight (λ k. get_or new k 0 ≡ max (get_or old k 0) (sum_by (kind_places (get_or classes k 0)) c.args.state.now.own))
          (c.max.ensures ∙ ap (max (get_or old 0 0)) (c.places.ensures.places ∙ (sums (Places Bytes16) ∙ ap (sum_by (kind_places 16)) own)))
          (c.max-2.ensures ∙ ap (max (get_or old 1 0)) (c.places-2.ensures.places ∙ (sums (Places Bytes32) ∙ ap (sum_by (kind_places 32)) own)))
          (c.max-3.ensures ∙ ap (max (get_or old 2 0)) (c.places-3.ensures.places ∙ (sums (Places Bytes64) ∙ ap (sum_by (kind_places 64)) own)))
          (c.max-4.ensures ∙ ap (max (get_or old 3 0)) (c.places-4.ensures.places ∙ (sums (Places Bytes128) ∙ ap (sum_by (kind_places 128)) own)))
          (c.max-5.ensures ∙ ap (max (get_or old 4 0)) (c.places-5.ensures.places ∙ (sums (Places Bytes256) ∙ ap (sum_by (kind_places 256)) own)))
          (c.max-6.ensures ∙ ap (max (get_or old 5 0)) (c.places-6.ensures.places ∙ (sums (Places Bytes512) ∙ ap (sum_by (kind_places 512)) own)))
          (c.max-7.ensures ∙ ap (max (get_or old 6 0)) (c.places-7.ensures.places ∙ (sums (Places Bytes1024) ∙ ap (sum_by (kind_places 1024)) own)))
          (c.max-8.ensures ∙ ap (max (get_or old 7 0)) (c.places-8.ensures.places ∙ (sums (Places Bytes2048) ∙ ap (sum_by (kind_places 2048)) own))),
      of_eight (λ k. get_or old k 0 ≤ 2 ^ 22 → get_or new k 0 ≤ 2 ^ 22) (λ h. let m = c.max.ensures in let s = c.places.ensures.small in omega (arith, m, s, h))
          (λ h. let m = c.max-2.ensures in let s = c.places-2.ensures.small in omega (arith, m, s, h))
          (λ h. let m = c.max-3.ensures in let s = c.places-3.ensures.small in omega (arith, m, s, h))
          (λ h. let m = c.max-4.ensures in let s = c.places-4.ensures.small in omega (arith, m, s, h))
          (λ h. let m = c.max-5.ensures in let s = c.places-5.ensures.small in omega (arith, m, s, h))
          (λ h. let m = c.max-6.ensures in let s = c.places-6.ensures.small in omega (arith, m, s, h))
          (λ h. let m = c.max-7.ensures in let s = c.places-7.ensures.small in omega (arith, m, s, h))
          (λ h. let m = c.max-8.ensures in let s = c.places-8.ensures.small in omega (arith, m, s, h)),
    )
