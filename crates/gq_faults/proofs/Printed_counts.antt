-- Counts that are reported.
use Rattle.std.proofs.Common.{◌≡◌, ℕ, Bool, List, ◌++◌, length, map, filter, Option, Some, None, Result, refl, ap, sym, ◌∙◌, subst}
use Rattle.std.specs.Prelude.{nat_lt, codes}
use Rattle.toml.specs.Data.{Items, Members, get_member}
use Rattle.gq_scenario.specs.Document.{is_long, keys_of, routes_at, routes_in, table_of}
use Rattle.gq_scenario.specs.Table_keys.{TooMany, list_length, listed}
use Rattle.gq_scenario.specs.Top_table.{document_text}
use Rattle.gq_faults.specs.Documents.{DocumentNode, counts_faults, is_inner, is_leaf, long_lists, nodes_in, too_many}
use Rattle.gq_faults.specs.Found_lists.{all_found, when}
use Rattle.gq_faults.specs.Reported_faults.{Reporting}
use Rattle.gq_faults.specs.declared.report_error.ReportError.{ReportError}
use Rattle.gq_faults.proofs.Document_value_views.{routes_length}

long_is : (o : Option Items) → is_long (routes_in o) ≡ nat_lt 64 (list_length o)
long_is None = refl
long_is (Some items) = ap (nat_lt 64) (routes_length (listed items))

module _ {A : Type 0} (path : List ℕ) where
  pub count_reported : (m n : ℕ) (before after : Option (List ℕ)) (k j : ℕ) (r : Result A ReportError) → m ≡ n
      → Reporting path (map document_text (too_many m)) before after k j r → Reporting path (map document_text (too_many n)) before after k j r
  count_reported m n before after k j r e h = subst (λ (n : ℕ). Reporting path (map document_text (too_many n)) before after k j r) e h

  pub long_reported : (n : ℕ) (o : Option Items) (before after : Option (List ℕ)) (k j : ℕ) (r : Result A ReportError) → n ≡ list_length o
      → Reporting path (map document_text (too_many n)) before after k j r
      → Reporting path (map document_text (when (is_long (routes_in o)) TooMany)) before after k j r
  long_reported n o before after k j r e h =
      subst (λ (b : Bool). Reporting path (map document_text (when b TooMany)) before after k j r) (ap (nat_lt 64) e ∙ sym (long_is o)) h

pub counts_is : (nodes : List DocumentNode) (top : Members) → nodes ≡ nodes_in top
    → counts_faults top ≡ too_many (length (filter is_leaf nodes)) ++ too_many (length (filter is_inner nodes))
    ++ too_many (length (keys_of (table_of (get_member (codes "interface") top)))) ++ when (is_long (routes_at (codes "default-route") top)) TooMany
    ++ all_found long_lists nodes
counts_is nodes top e = rw e refl
