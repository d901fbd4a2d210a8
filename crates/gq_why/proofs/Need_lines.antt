-- The part of a level of a session, as a text that grows at its end.
use Rattle.std.proofs.Common.{◌≡◌, ℕ, suc, ◌+◌, ◌-◌, ◌<◌, List, [], ◌∷◌, ◌++◌, Option, Some, None, refl, ap, ap₂, sym, ◌∙◌, append_assoc}
use Rattle.std.proofs.Common.{codes, arith}
use Rattle.std.specs.Prelude.{decimal, if◌then◌else◌, option_map}
use Rattle.std.proofs.lemmas.Bool.Decides.{nat_tests}
use Rattle.gq_model.specs.declared.program.Form.TheVariants.{Slice}
use Rattle.gq_model.specs.declared.section.Section.{Section}
use Rattle.gq_model.specs.machine.Accounts as accounts
use Rattle.gq_model.specs.machine.Amounts.{Amount, Resource, Ram, Caps, part}
use Rattle.gq_model.specs.machine.Scenario.{Interface}
use Rattle.gq_model.specs.rules.Kinds.{Memory, Subject, kind_price, need_of, session_cost}
use Rattle.gq_caps.specs.Known.{all_known}
use Rattle.gq_caps.specs.declared.kind.Kind as caps
use Rattle.gq_resolve.proofs.Mapped_list_growth.{onto}
use Rattle.gq_why.specs.First_maxima.{Top, bank_cost, top_of, top_session}
use Rattle.gq_why.specs.Why.{Point, highest, item_line, item_lines, level_parts, need_part, or_later, place_words, point_lines, point_sum, points_at}
use Rattle.gq_why.specs.internal.Visitor_lines.{session_lines}

-- a session costs most where its slots do
later_same : (r : Resource) (i : Interface) (p : Point) (o : Option Point) → or_later (λ s. session_cost r i s.bank) p o ≡ or_later (bank_cost r) p o
later_same r i p None = refl
later_same r i p (Some q) =
    ap (λ b. if b then q else p) (grind (arith, nat_tests))

highest_same : (r : Resource) (i : Interface) (points : List Point) → highest (λ s. session_cost r i s.bank) points ≡ highest (bank_cost r) points
highest_same r i [] = refl
highest_same r i (p ∷ rest) =
    ap (λ o. Some (or_later (λ s. session_cost r i s.bank) p o)) (highest_same r i rest) ∙ ap (λ q. Some q) (later_same r i p (highest (bank_cost r) rest))

-- the lines of a session at a point are by what is kept of it
session_is : (r : Resource) (i : Interface) (given : ℕ) (o : Option Point) → session_lines r i given (option_map (top_of (bank_cost r) (λ s. s.bank)) o) ≡
    decimal (point_sum r i o) ++ codes " of " ++ decimal given ++ 10 ∷ [] ++ point_lines r i o
session_is r i given None = simp append_assoc
session_is r i given (Some p) = simp append_assoc

-- the amount of a resource
pub part_is : (r : Resource) (a : Amount) (f : Resource → ℕ) → a.ram ≡ f Ram → a.caps ≡ f Caps → part r a ≡ f r
part_is Ram a f ram caps = ram
part_is Caps a f ram caps = caps

-- the lines of a session at a point, one piece after the other
pub session_put : (r : Resource) (i : Interface) (given cost object : ℕ) (section : Section) (k sum : ℕ) (bank kinds : List caps.Kind) →
    cost ≡ session_cost r i (all_known bank) → object ≡ i.object → kinds ≡ bank → (t u v w x y z : List ℕ) →
    u ≡ t ++ decimal cost ++ codes " of " ++ decimal given ++ 10 ∷ [] → v ≡ u ++ place_words section k → w ≡ v ++ decimal cost → x ≡ w ++ 10 ∷ [] →
    y ≡ x ++ item_line (codes "obj") (codes "slice " ++ decimal object) (kind_price r (Memory Slice object)) →
    z ≡ y ++ item_lines r (codes "s") 0 (all_known kinds) → z ≡ t ++ session_lines r i given (Some (section, k, sum, all_known bank))
session_put r i given cost object section k sum bank kinds cost_is object_is kinds_are t u v w x y z d e f g h l =
    let bytes = λ (object : ℕ). item_line (codes "obj") (codes "slice " ++ decimal object) (kind_price r (Memory Slice object)) in
    let slots = λ (kinds : List caps.Kind). item_lines r (codes "s") 0 (all_known kinds) in
    let reported = λ (cost object : ℕ) (kinds : List caps.Kind). decimal cost ++ codes " of " ++ decimal given ++ 10 ∷ [] ++ place_words section k ++ decimal
    cost
    ++ 10 ∷ [] ++ bytes object ++ slots kinds in
    six t (decimal cost) (codes " of ") (decimal given) (place_words section k) (bytes object) (slots kinds) u v w x y z d e f g h l
    ∙ (λ j. t ++ reported (cost_is j) (object_is j) (kinds_are j))
  where
    six : (t a o b c d e u v w x y z : List ℕ) → u ≡ t ++ a ++ o ++ b ++ 10 ∷ [] → v ≡ u ++ c → w ≡ v ++ a → x ≡ w ++ 10 ∷ [] → y ≡ x ++ d → z ≡ y ++ e →
        z ≡ t ++ (a ++ o ++ b ++ 10 ∷ [] ++ c ++ a ++ 10 ∷ [] ++ d ++ e)
    six t a o b c d e u v w x y z f g h i j k = rw (k, j, i, h, g, f) (simp append_assoc)

pieces : (t a b c d e f g h k u w : List ℕ) → u ≡ t ++ a ++ b ++ c ++ d ++ e → w ≡ u ++ (f ++ g ++ h ++ 10 ∷ [] ++ k) →
    w ≡ t ++ (a ++ b ++ c ++ d ++ e ++ f ++ g ++ h ++ 10 ∷ [] ++ k)
pieces t a b c d e f g h k u w p q = rw (q, p) (simp append_assoc)

-- the part of a resource, one piece after the other
pub need_put : (r : Resource) (words service : List ℕ) (i : Interface) (l given : ℕ) (points : List Point) (top : Option Top) → top ≡ top_session r points →
    given ≡ part r (need_of i l) → (t u w : List ℕ) → u ≡ t ++ words ++ service ++ codes " at level " ++ decimal l ++ codes " " →
    w ≡ u ++ session_lines r i given top → w ≡ t ++ need_part r words service i l points
need_put r words service i l given points top highest_is given_is t u w p q =
    let h = highest (bank_cost r) points in
    let o = highest (λ s. session_cost r i s.bank) points in
    let g = part r (need_of i l) in
    let reported = λ (o : Option Point). decimal (point_sum r i o) ++ codes " of " ++ decimal g ++ 10 ∷ [] ++ point_lines r i o in
    let lines : session_lines r i given top ≡ reported o =
    ap₂ (session_lines r i) given_is highest_is ∙ (session_is r i g h ∙ ap reported (sym (highest_same r i points))) in
    pieces t words service (codes " at level ") (decimal l) (codes " ") (decimal (point_sum r i o)) (codes " of ") (decimal g) (point_lines r i o) u w p
    (q ∙ ap (λ l. u ++ l) lines)

-- the part of a level was put at the end, and those of what is left follow
pub level_put : (version : ℕ) (v : Subject) (service : List ℕ) (i : Interface) (l count : ℕ) → l < suc count → (t u whole : List ℕ) →
    u ≡ t ++ need_part Ram (codes "need of ") service i l (points_at v l v.program.sections)
    ++ accounts.reported version (need_part Caps (codes "need caps of ") service i l (points_at v l v.program.sections)) →
    t ++ level_parts version v service i l (suc count - l) ≡ whole → u ++ level_parts version v service i (l + 1) (suc count - (l + 1)) ≡ whole
level_put version v service i l count within t u whole put inv =
    let ram = need_part Ram (codes "need of ") service i l (points_at v l v.program.sections) in
    let caps = accounts.reported version (need_part Caps (codes "need caps of ") service i l (points_at v l v.program.sections)) in
    let first = ram ++ caps in
    let here : suc count - l ≡ suc (count - l) = omega (arith, within) in
    let after : count - l ≡ suc count - (l + 1) = omega arith in
    let next : suc l ≡ l + 1 = omega arith in
    onto t u first (level_parts version v service i (l + 1) (suc count - (l + 1))) _ whole (put ∙ append_assoc t ram caps)
    (ap (level_parts version v service i l) here ∙ ap₂ (λ m n. first ++ level_parts version v service i m n) next after) inv
