-- Faults reported one after the other.
use Rattle.std.proofs.Common.{◌≡◌, ◌<◌, ◌≤◌, ◌+◌, ℕ, zero, suc, List, [], ◌∷◌, ◌++◌, length, map, get_or, drop, Option, Result, Ok, Err, refl, ap, sym, ◌∙◌}
use Rattle.std.proofs.Common.{append_assoc, take, subst}
use Rattle.std.specs.Prelude.{IsErrAnd, codes, decimal}
use Rattle.std.specs.Io.KnownBytes.{Appends}
use Rattle.std.proofs.lemmas.List.{drop_more, drop_all, take-append-drop}
use Rattle.std.proofs.Math.Seq.{take-append_seam}
use Rattle.gq_faults.specs.Found_lists.{all_found}
use Rattle.gq_faults.proofs.Joined_fault_lists.{map-append}
use Rattle.gq_output.proofs.Written_byte_facts.{appends_nothing, appends_both}
use Rattle.gq_output.specs.Writes.{IsPrefix}
use Rattle.gq_scenario.specs.Table_keys.{DocumentFault}
use Rattle.gq_scenario.specs.Top_table.{document_text}
use Rattle.gq_faults.specs.Reported_faults.{AreReported, EndsEarly, IsReported, Reporting, WritesFaults, WritesPrefix, place_text}
use Rattle.gq_faults.specs.declared.report_error.ReportError.{ReportError}
use Rattle.gq_faults.specs.declared.report_error.ReportError.TheVariants.{Memory, Write}

-- the line of a fault, and its details
pub reported_is : (path fault details text : List ℕ) (line column : ℕ)
    → text ≡ path ++ (58 ∷ (decimal line ++ (58 ∷ (decimal column ++ (58 ∷ 32 ∷ (fault ++ 10 ∷ []))))))
    → text ++ details ≡ place_text path line column ++ fault ++ codes "\n" ++ details
reported_is path fault details text line column e = rw e (simp append_assoc)

both_reported : (path : List ℕ) (a b : List (List ℕ)) (x y : List ℕ) → AreReported path a x → AreReported path b y → AreReported path (a ++ b) (x ++ y)
both_reported path [] b x y h k = subst (AreReported path b) (ap (λ t. t ++ y) (sym h)) k
both_reported path (fault ∷ a) b x y h k =
    let (prefix, rest, reported, more, is) = h in
    (prefix, rest ++ y, reported, both_reported path a b rest y more k, ap (λ t. t ++ y) is ∙ append_assoc prefix rest y)

early_after : (e : ReportError) (a b c : ℕ) → b ≡ a → EndsEarly e b c → EndsEarly e a c
early_after Memory a b c e h = h ∙ e
early_after Write a b c e h = subst (λ n. EndsEarly Write n c) e h

-- PREFIXES

-- any faults can be reported
some_text : (path : List ℕ) (faults : List (List ℕ)) → (text : List ℕ) × AreReported path faults text
some_text path [] = ([], refl)
some_text path (fault ∷ faults) =
    let line = place_text path 1 1 ++ fault ++ codes "\n" ++ [] in
    let reported : IsReported path fault line =
    record { line = 1; column = 1; details = []; form = record { details = []; single = tt; is = refl }; is = refl } in
    let more = some_text path faults in
    (line ++ more.0, (line, more.0, reported, more.1, refl))

-- what a text begins with is a prefix of it
prefix_of : (before after : Option (List ℕ)) (begun rest : List ℕ) → Appends before after begun → IsPrefix before after (begun ++ rest)
prefix_of before after begun rest h = (length begun, subst (Appends before after) (sym (take-append_seam begun rest)) h)

-- a prefix of one text is a prefix of that text and another
prefix_before : (before after : Option (List ℕ)) (a b : List ℕ) → IsPrefix before after a → IsPrefix before after (a ++ b)
prefix_before before after a b h =
    let parts : take h.0 a ++ (drop h.0 a ++ b) ≡ a ++ b =
    sym (append_assoc (take h.0 a) (drop h.0 a) b) ∙ ap (λ t. t ++ b) (take-append-drop h.0 a) in
    subst (IsPrefix before after) parts (prefix_of before after (take h.0 a) (drop h.0 a ++ b) h.1)

-- after one text a prefix of another was written
prefix_after : (before between after : Option (List ℕ)) (a b : List ℕ) → Appends before between a → IsPrefix between after b
    → IsPrefix before after (a ++ b)
prefix_after before between after a b w h =
    let parts : (a ++ take h.0 b) ++ drop h.0 b ≡ a ++ b =
    append_assoc a (take h.0 b) (drop h.0 b) ∙ ap (λ t. a ++ t) (take-append-drop h.0 b) in
    subst (IsPrefix before after) parts
    (prefix_of before after (a ++ take h.0 b) (drop h.0 b) (appends_both before between after a (take h.0 b) w h.1))

-- nothing was written
pub prefix_none : (path : List ℕ) (faults : List (List ℕ)) (before : Option (List ℕ)) → WritesPrefix path faults before before
prefix_none path faults before =
    let any = some_text path faults in record { text = any.0; reported = any.1; written = (0, appends_nothing before) }

-- of no faults nothing is a prefix but nothing
pub prefix_of_none : (path other : List ℕ) (faults : List (List ℕ)) (before after : Option (List ℕ)) → WritesPrefix path [] before after
    → WritesPrefix other faults before after
prefix_of_none path other faults before after h =
    let any = some_text other faults in
    let written = subst (IsPrefix before after) h.reported h.written in
    record { text = any.0; reported = any.1; written = (0, subst (Appends before after) (none written.0) written.1) }
  where
    none : (k : ℕ) → take {A = ℕ} k [] ≡ []
    none zero = refl
    none (suc k) = refl

-- a prefix of the first of them
prefix_first : (path : List ℕ) (x y : List (List ℕ)) (before after : Option (List ℕ)) → WritesPrefix path x before after
    → WritesPrefix path (x ++ y) before after
prefix_first path x y before after h =
    let any = some_text path y in
    record {
      text = h.text ++ any.0;
      reported = both_reported path x y h.text any.0 h.reported any.1;
      written = prefix_before before after h.text any.0 h.written;
    }

-- these, and a prefix of those behind them
prefix_both : (path : List ℕ) (x y : List (List ℕ)) (before between after : Option (List ℕ)) → WritesFaults path x before between
    → WritesPrefix path y between after → WritesPrefix path (x ++ y) before after
prefix_both path x y before between after h j = record {
  text = h.text ++ j.text;
  reported = both_reported path x y h.text j.text h.reported j.reported;
  written = prefix_after before between after h.text j.text h.written j.written;
}

module _ (path : List ℕ) where
  -- nothing was reported
  pub reports_none : {A : Type 0} (before : Option (List ℕ)) (m : ℕ) (a : A) → Reporting path [] before before m m (Ok a)
  reports_none before m a = record { reported = record { text = []; reported = refl; written = appends_nothing before }; counted = refl; cut = tt; ended = tt }

  -- the host refused memory before anything was reported
  pub reports_memory : {A : Type 0} (all : List (List ℕ)) (before : Option (List ℕ)) (m : ℕ) → Reporting {A = A} path all before before m m (Err Memory)
  reports_memory all before m = record { reported = tt; counted = tt; cut = prefix_none path all before; ended = refl }

  pub memory_ends : {A : Type 0} (all : List (List ℕ)) (before : Option (List ℕ)) (m : ℕ) (r : Result A ReportError) → IsErrAnd r (λ e. e ≡ Memory)
      → Reporting path all before before m m r
  memory_ends all before m (Ok a) h = absurd h
  memory_ends {A = A} all before m (Err e) h =
      subst (λ (f : ReportError). Reporting {A = A} path all before before m m (Err f)) (sym h) (reports_memory all before m)

  -- these were reported, and then those
  pub reports_both : {A B : Type 0} (x y : List (List ℕ)) (before between after : Option (List ℕ)) (m k n : ℕ) (u : A) (r : Result B ReportError)
      → Reporting path x before between m k (Ok u) → Reporting path y between after k n r → Reporting path (x ++ y) before after m n r
  reports_both x y before between after m k n u (Ok a) h j = record {
    reported = record {
      text = h.reported.text ++ j.reported.text;
      reported = both_reported path x y h.reported.text j.reported.text h.reported.reported j.reported.reported;
      written = appends_both before between after h.reported.text j.reported.text h.reported.written j.reported.written;
    };
    counted = j.counted ∙ h.counted;
    cut = tt;
    ended = tt;
  }
  reports_both x y before between after m k n u (Err e) h j = record {
    reported = tt;
    counted = tt;
    cut = prefix_both path x y before between after h.reported j.cut;
    ended = early_after e m k n h.counted j.ended;
  }

  -- who ends early reports no more
  pub reports_early : {A B : Type 0} (all x y : List (List ℕ)) (before after : Option (List ℕ)) (m n : ℕ) (e : ReportError) → all ≡ x ++ y
      → Reporting {A = A} path x before after m n (Err e) → Reporting {A = B} path all before after m n (Err e)
  reports_early all x y before after m n e is h = record {
    reported = tt;
    counted = tt;
    cut = subst (λ (l : List (List ℕ)). WritesPrefix path l before after) (sym is) (prefix_first path x y before after h.cut);
    ended = h.ended;
  }

  -- the same for faults of a document
  pub reports_fewer : {A B : Type 0} (all x y : List DocumentFault) (before after : Option (List ℕ)) (m n : ℕ) (e : ReportError) → all ≡ x ++ y
      → Reporting {A = A} path (map document_text x) before after m n (Err e) → Reporting {A = B} path (map document_text all) before after m n (Err e)
  reports_fewer all x y before after m n e is h =
      reports_early (map document_text all) (map document_text x) (map document_text y) before after m n e
      (ap (map document_text) is ∙ map-append document_text x y) h

  -- of the faults of a document the first part was begun
  pub reports_begun : {A : Type 0} (x y : List DocumentFault) (before after : Option (List ℕ)) (m n : ℕ) (e : ReportError)
      → Reporting {A = A} path (map document_text x) before after m n (Err e) → Reporting {A = A} path (map document_text (x ++ y)) before after m n (Err e)
  reports_begun x y before after m n e h = reports_fewer (x ++ y) x y before after m n e refl h

  -- the same for faults of a document
  pub reports_more : {A B : Type 0} (x y : List DocumentFault) (before between after : Option (List ℕ)) (m k n : ℕ) (u : A) (r : Result B ReportError)
      → Reporting path (map document_text x) before between m k (Ok u) → Reporting path (map document_text y) between after k n r
      → Reporting path (map document_text (x ++ y)) before after m n r
  reports_more x y before between after m k n u r h j =
      subst (λ (l : List (List ℕ)). Reporting path l before after m n r) (sym (map-append document_text x y))
      (reports_both (map document_text x) (map document_text y) before between after m k n u r h j)

  -- the same where these and those are all
  pub next_reported : {A B : Type 0} (all x y : List DocumentFault) (before between after : Option (List ℕ)) (m k n : ℕ) (u : A) (r : Result B ReportError)
      → all ≡ x ++ y → Reporting path (map document_text x) before between m k (Ok u) → Reporting path (map document_text y) between after k n r
      → Reporting path (map document_text all) before after m n r
  next_reported all x y before between after m k n u r e h j =
      subst (λ (l : List DocumentFault). Reporting path (map document_text l) before after m n r) (sym e) (reports_more x y before between after m k n u r h j)

  -- there is none
  pub none_reported : {A : Type 0} (all : List DocumentFault) (before : Option (List ℕ)) (m : ℕ) (a : A) → all ≡ []
      → Reporting path (map document_text all) before before m m (Ok a)
  none_reported all before m a e =
      subst (λ (l : List DocumentFault). Reporting path (map document_text l) before before m m (Ok a)) (sym e) (reports_none before m a)

  -- the same of any lines
  pub next_lines : {A B : Type 0} (all x y : List (List ℕ)) (before between after : Option (List ℕ)) (m k n : ℕ) (u : A) (r : Result B ReportError)
      → all ≡ x ++ y → Reporting path x before between m k (Ok u) → Reporting path y between after k n r → Reporting path all before after m n r
  next_lines all x y before between after m k n u r e h j =
      subst (λ (l : List (List ℕ)). Reporting path l before after m n r) (sym e) (reports_both x y before between after m k n u r h j)

  pub no_lines : {A : Type 0} (all : List (List ℕ)) (before : Option (List ℕ)) (m : ℕ) (a : A) → all ≡ [] → Reporting path all before before m m (Ok a)
  no_lines all before m a e = subst (λ (l : List (List ℕ)). Reporting path l before before m m (Ok a)) (sym e) (reports_none before m a)

  pub reported_as : {A : Type 0} (x y : List (List ℕ)) (before after : Option (List ℕ)) (m n : ℕ) (r : Result A ReportError) → x ≡ y
      → Reporting path x before after m n r → Reporting path y before after m n r
  reported_as x y before after m n r e h = subst (λ (l : List (List ℕ)). Reporting path l before after m n r) e h

-- WHAT IS FOUND OF EACH

pub each_next : {A B C : Type 0} (f : B → List C) (h : A → B) (xs : List A) (i : ℕ) (x : A) → i < length xs → x ≡ get_or xs i x
    → all_found f (map h (drop i xs)) ≡ f (h x) ++ all_found f (map h (drop (i + 1) xs))
each_next f h xs i x less is = rw (drop_more xs i x less, ← is) refl

pub each_end : {A B C : Type 0} (f : B → List C) (h : A → B) (xs : List A) (i : ℕ) → length xs ≤ i → all_found f (map h (drop i xs)) ≡ []
each_end f h xs i past = rw (drop_all i xs past) refl

pub lines_next : {A : Type 0} (h : A → List ℕ) (xs : List A) (i : ℕ) (x : A) → i < length xs → x ≡ get_or xs i x
    → map h (drop i xs) ≡ (h x ∷ []) ++ map h (drop (i + 1) xs)
lines_next h xs i x less is = rw (drop_more xs i x less, ← is) refl
