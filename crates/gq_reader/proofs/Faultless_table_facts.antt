-- What is known of a table without faults.
use Rattle.std.proofs.Common.{◌≡◌, ℕ, Bool, true, false, ◌||◌, not, cond, List, [], ◌∷◌, Option, Some, None, is_some, Ordering, Less, Equal, Greater, nat_cmp}
use Rattle.std.proofs.Common.{refl, sym, ◌∙◌}
use Rattle.std.specs.Ordering.{match_ordering}
use Rattle.std.specs.Cmp.Lexicographic.{slice_cmp}
use Rattle.std.proofs.lemmas.Map.Lookups.{exact_bytes}
use Rattle.toml.specs.Data.{Data, Members, no_members, member, get_member}
use Rattle.gq_model.specs.machine.Lists.{any_of, or_first}
use Rattle.gq_model.specs.machine.Program.{text_eq}
use Rattle.gq_scenario.specs.Table_keys.{KeyRule, required, has, unknown_key, missing_key, bad_value, is_bad, table_fault}
use Rattle.gq_model.proofs.Small_facts.{or_first_none, not_both}
use Rattle.std.proofs.Math.Bool.{or-false}
use Rattle.std.proofs.lemmas.Bool.{not-false}

-- a test that reported no fault
pub none_at_false : {A : Type 0} (b : Bool) (x : A) (rest : Option A) → cond b (Some x) rest ≡ None → (b ≡ false) × (rest ≡ None)
none_at_false true x rest e = absurd cc
none_at_false false x rest e = (refl, e)

none_at_true : {A : Type 0} (b : Bool) (x : A) (rest : Option A) → cond b rest (Some x) ≡ None → (b ≡ true) × (rest ≡ None)
none_at_true true x rest e = (refl, e)
none_at_true false x rest e = absurd cc

-- a key without a rule is not there
absent_by : (o : Ordering) (key k : List ℕ) (d : Data) (got : Option Data) (rules : List KeyRule) → o ≡ slice_cmp nat_cmp key k → got ≡ None
    → any_of (λ r. text_eq key r.key) rules ≡ false → any_of (λ r. text_eq k r.key) rules ≡ true → match_ordering o got (Some d) got ≡ None
absent_by Less key k d got rules e h a b = h
absent_by Greater key k d got rules e h a b = h
absent_by Equal key k d got rules e h a b = let same : key ≡ k = exact_bytes key k (sym e) in absurd (not_both _ (rw same b) a)

pub absent : (rules : List KeyRule) (entries : Members) (key : List ℕ) → unknown_key rules entries ≡ None → any_of (λ r. text_eq key r.key) rules ≡ false
    → get_member key entries ≡ None
absent rules no_members key e f = refl
absent rules (member k d rest) key e f =
    let p = none_at_true (any_of (λ r. text_eq k r.key) rules) _ (unknown_key rules rest) e in
    absent_by (slice_cmp nat_cmp key k) key k d (get_member key rest) rules refl (absent rules rest key p.1 f) f p.0

-- a required key is there
pub present : (key : List ℕ) (fits : Data → Bool) (rules : List KeyRule) (entries : Members) → missing_key (required key fits ∷ rules) entries ≡ None
    → (has entries key ≡ true) × (missing_key rules entries ≡ None)
present key fits rules entries e =
    let p = none_at_false (not (has entries key || false)) _ (missing_key rules entries) e in
    (sym (or-false (has entries key)) ∙ not-false (has entries key || false) p.0, p.1)

-- a value at a key fits
fits_by : (fits : Data → Bool) (o : Option Data) (key : List ℕ) (entries : Members) → is_some o ≡ true → is_bad (required key fits) entries o ≡ false
    → (d : Data) × (o ≡ Some d) × (fits d ≡ true)
fits_by fits None key entries s e = absurd cc
fits_by fits (Some d) key entries s e = (d, refl, not-false (fits d) (sym (or-false (not (fits d))) ∙ e))

pub good : (key : List ℕ) (fits : Data → Bool) (rules : List KeyRule) (entries : Members) → has entries key ≡ true
    → bad_value (required key fits ∷ rules) entries ≡ None
    → ((d : Data) × (get_member key entries ≡ Some d) × (fits d ≡ true)) × (bad_value rules entries ≡ None)
good key fits rules entries h e =
    let p = none_at_false (is_bad (required key fits) entries (get_member key entries)) _ (bad_value rules entries) e in
    (fits_by fits (get_member key entries) key entries h p.0, p.1)

-- a table of three required keys
pub record Three (key1 key2 key3 : List ℕ) (fits1 fits2 fits3 : Data → Bool) (entries : Members) : Type 0 where
  pub first : (d : Data) × (get_member key1 entries ≡ Some d) × (fits1 d ≡ true)
  pub second : (d : Data) × (get_member key2 entries ≡ Some d) × (fits2 d ≡ true)
  pub third : (d : Data) × (get_member key3 entries ≡ Some d) × (fits3 d ≡ true)
  pub others : (key : List ℕ) → any_of (text_eq key) (key1 ∷ key2 ∷ key3 ∷ []) ≡ false → get_member key entries ≡ None

pub three : (key1 key2 key3 : List ℕ) (fits1 fits2 fits3 : Data → Bool) (entries : Members)
    → table_fault (required key1 fits1 ∷ required key2 fits2 ∷ required key3 fits3 ∷ []) entries ≡ None → Three key1 key2 key3 fits1 fits2 fits3 entries
three key1 key2 key3 fits1 fits2 fits3 entries e =
    let rules3 : List KeyRule = required key3 fits3 ∷ [] in
    let rules2 : List KeyRule = required key2 fits2 ∷ rules3 in
    let rules1 : List KeyRule = required key1 fits1 ∷ rules2 in
    let (known, more) = or_first_none (unknown_key rules1 entries) (or_first (missing_key rules1 entries) (bad_value rules1 entries)) e in
    let (there, bad) = or_first_none (missing_key rules1 entries) (bad_value rules1 entries) more in
    let (has1, there2) = present key1 fits1 rules2 entries there in
    let (has2, there3) = present key2 fits2 rules3 entries there2 in
    let (has3, there4) = present key3 fits3 [] entries there3 in
    let (good1, bad2) = good key1 fits1 rules2 entries has1 bad in
    let (good2, bad3) = good key2 fits2 rules3 entries has2 bad2 in
    let (good3, bad4) = good key3 fits3 [] entries has3 bad3 in
    record { first = good1; second = good2; third = good3; others = λ key f. absent rules1 entries key known f }
