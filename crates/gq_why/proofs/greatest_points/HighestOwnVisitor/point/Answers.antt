use Rattle.std.proofs.Common.{◌≡◌, ◌∙◌, ℕ, ◌≤◌, ◌^◌, List, [], ◌∷◌, get_or, ap, ap₂}
use Rattle.std.specs.Prelude.{nat_lt, if◌then◌else◌, option_map, sum_by}
use Rattle.gq_caps.specs.Measured.{total_of}
use Rattle.gq_caps.specs.declared.totals.Measure.TheVariants.{Places}
use Rattle.gq_model.specs.declared.section.Section.TheVariants.{Main}
use Rattle.gq_model.specs.machine.Amounts.{Ram, Caps}
use Rattle.gq_model.specs.rules.Kinds.{Kind, kind_places, kinds_cost}
use Rattle.gq_tariff.specs.Prices.{class_size, classes}
use Rattle.gq_tariff.specs.declared.class.Class.{Class}
use Rattle.gq_tariff.specs.declared.class.Class.TheVariants.{Bytes16, Bytes32, Bytes64, Bytes128, Bytes256, Bytes512, Bytes1024, Bytes2048}
use Rattle.gq_why.specs.First_maxima.{or_higher, top_in}
use Rattle.gq_why.specs.Why.{places_at}
use Rattle.gq_why.proofs.Highest_cell_count.{count_is, few_more}
use Rattle.gq_why.proofs.Eight_class_facts.{of_eight}
use Rattle.gq_why.proofs.greatest_points.HighestOwnVisitor.point.Goals as goal

pub returns : goal.returns
returns c =
    let old : List (ℕ × ℕ) = c.args.self.now.places in
    let new : List (ℕ × ℕ) =
    c.counted.result ∷ c.counted-2.result ∷ c.counted-3.result ∷ c.counted-4.result
    ∷ c.counted-5.result ∷ c.counted-6.result ∷ c.counted-7.result ∷ c.counted-8.result ∷ [] in
    let s = c.args.state.now in
    let k = c.args.number in
    let own = c.own-own.ensures in
    let cost = c.cost-cost.ensures in
    let ram = c.raise.ensures ∙ ap₂ (λ n (kinds : List Kind). or_higher (Main, k, n, kinds) (option_map top_in c.args.self.now.ram))
    (cost.ram ∙ ap (kinds_cost Ram) own) own in
    let caps = c.raise-2.ensures ∙ ap₂ (λ n (kinds : List Kind). or_higher (Main, k, n, kinds) (option_map top_in c.args.self.now.caps))
    (cost.caps ∙ ap (kinds_cost Caps) own) own in
    let same = λ (class : Class) (top new : ℕ × ℕ) (n : ℕ) (e : new ≡ (if nat_lt top.0 n then (n, k) else top))
    (is : n ≡ total_of c.totals-totals.result.now (Places class)). count_is top new n (places_at (class_size class) s) k e
    (is ∙ (c.totals-totals.ensures.sums (Places class) ∙ ap (sum_by (kind_places (class_size class))) own)) in
    let places = of_eight (λ j. get_or new j (0, 0) ≡ (if nat_lt (get_or old j (0, 0)).0 (places_at (get_or classes j 0) s)
    then (places_at (get_or classes j 0) s, k) else get_or old j (0, 0)))
    (same Bytes16 (get_or old 0 (0, 0)) c.counted.result c.places.result c.counted.ensures c.places.ensures.places)
    (same Bytes32 (get_or old 1 (0, 0)) c.counted-2.result c.places-2.result c.counted-2.ensures c.places-2.ensures.places)
    (same Bytes64 (get_or old 2 (0, 0)) c.counted-3.result c.places-3.result c.counted-3.ensures c.places-3.ensures.places)
    (same Bytes128 (get_or old 3 (0, 0)) c.counted-4.result c.places-4.result c.counted-4.ensures c.places-4.ensures.places)
    (same Bytes256 (get_or old 4 (0, 0)) c.counted-5.result c.places-5.result c.counted-5.ensures c.places-5.ensures.places)
    (same Bytes512 (get_or old 5 (0, 0)) c.counted-6.result c.places-6.result c.counted-6.ensures c.places-6.ensures.places)
    (same Bytes1024 (get_or old 6 (0, 0)) c.counted-7.result c.places-7.result c.counted-7.ensures c.places-7.ensures.places)
    (same Bytes2048 (get_or old 7 (0, 0)) c.counted-8.result c.places-8.result c.counted-8.ensures c.places-8.ensures.places) in
    let few = of_eight (λ j. (get_or old j (0, 0)).0 ≤ 2 ^ 22 → (get_or new j (0, 0)).0 ≤ 2 ^ 22)
    (few_more (get_or old 0 (0, 0)) c.counted.result c.places.result k (2 ^ 22) c.counted.ensures c.places.ensures.small)
    (few_more (get_or old 1 (0, 0)) c.counted-2.result c.places-2.result k (2 ^ 22) c.counted-2.ensures c.places-2.ensures.small)
    (few_more (get_or old 2 (0, 0)) c.counted-3.result c.places-3.result k (2 ^ 22) c.counted-3.ensures c.places-3.ensures.small)
    (few_more (get_or old 3 (0, 0)) c.counted-4.result c.places-4.result k (2 ^ 22) c.counted-4.ensures c.places-4.ensures.small)
    (few_more (get_or old 4 (0, 0)) c.counted-5.result c.places-5.result k (2 ^ 22) c.counted-5.ensures c.places-5.ensures.small)
    (few_more (get_or old 5 (0, 0)) c.counted-6.result c.places-6.result k (2 ^ 22) c.counted-6.ensures c.places-6.ensures.small)
    (few_more (get_or old 6 (0, 0)) c.counted-7.result c.places-7.result k (2 ^ 22) c.counted-7.ensures c.places-7.ensures.small)
    (few_more (get_or old 7 (0, 0)) c.counted-8.result c.places-8.result k (2 ^ 22) c.counted-8.ensures c.places-8.ensures.small) in
    (ram, caps, places, few)
