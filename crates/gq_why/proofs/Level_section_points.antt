-- The points of the sections of a level.
use Rattle.std.proofs.Common.{◌≡◌, ℕ, ◌+◌, ◌<◌, Bool, true, false, List, [], ◌++◌, Option, Some, None, length, get_or, drop, refl, ap, sym, ◌∙◌}
use Rattle.std.specs.Prelude.{if◌then◌else◌, option_map}
use Rattle.gq_model.specs.declared.section.Section.{Section}
use Rattle.gq_model.specs.machine.Amounts.{Resource}
use Rattle.gq_model.specs.machine.Program.{Statements, section_in}
use Rattle.gq_model.specs.rules.Flow.{body, context, start_of}
use Rattle.gq_model.specs.rules.Kinds.{Subject}
use Rattle.gq_verify.specs.Visits.{after_all, section_sights}
use Rattle.gq_verify.proofs.List_remainders.{next_left}
use Rattle.gq_why.specs.First_maxima.{Top, bank_cost, picked_session, top_of, top_session}
use Rattle.gq_why.specs.Why.{Point, highest, is_of_level, points_at, points_of}
use Rattle.gq_why.proofs.First_highest.{each_of, left, left-append, left_highest, picked_left}
use Rattle.gq_why.proofs.Shown_points.{section_shown}

abbrev session_top : Resource → Option Point → Option Top
session_top r = option_map (top_of (bank_cost r) (λ s. s.bank))

-- with the points of these sections, what is kept is the highest of all of a level
pub record Goes (r : Resource) (v : Subject) (l : ℕ) (sections : List (Section × Statements)) (top : Option Top) : Type 0 where
  pub point : Option Point
  pub kept : top ≡ session_top r point
  pub on : left (bank_cost r) point (points_at v l sections) ≡ highest (bank_cost r) (points_at v l v.program.sections)

pub goes_none : (r : Resource) (v : Subject) (l : ℕ) (sections : List (Section × Statements)) (top : Option Top) → top ≡ None →
    sections ≡ v.program.sections → Goes r v l sections top
goes_none r v l sections top none all =
    record {
      point = None;
      kept = none;
      on = ap (λ (ps : List (Section × Statements)). left (bank_cost r) None (points_at v l ps)) all
          ∙ left_highest (bank_cost r) (points_at v l v.program.sections);
    }

pub goes_all : (r : Resource) (v : Subject) (l : ℕ) (top : Option Top) → Goes r v l [] top → top ≡ top_session r (points_at v l v.program.sections)
goes_all r v l top h = h.kept ∙ ap (session_top r) h.on

-- the points of a section that is there are seen
seen_section : (r : Resource) (v : Subject) (section : Section) (b : Statements) → section_in section v.program.sections ≡ Some b → (o : Option Point) →
    after_all (picked_session section r) (session_top r o) (section_sights v section) ≡ session_top r (left (bank_cost r) o (points_of v section))
seen_section r v section b there o =
    picked_left section (bank_cost r) (λ s. s.bank) (λ s. refl) (λ s. refl) o (points_of v section) (section_sights v section)
    (refl, each_of section (context v section) 1 (start_of v section) (body v section)) (section_shown v section b there)

module _ (r : Resource) (v : Subject) (l : ℕ) (sections : List (Section × Statements)) (i : ℕ) (p : Section × Statements) (within : i < length sections)
    (is : p ≡ get_or sections i p) where
  -- what is left is a section and what follows
  here : (b : Bool) → is_of_level l p.0 ≡ b → points_at v l (drop i sections) ≡ (if b then points_of v p.0 else []) ++ points_at v l (drop (i + 1) sections)
  here b e =
      ap (points_at v l) (next_left sections i p within is)
      ∙ ap (λ (x : Bool). (if x then points_of v p.0 else []) ++ points_at v l (drop (i + 1) sections)) e

  pub goes_on : (old new : Option Top) → is_of_level l p.0 ≡ true → section_in p.0 v.program.sections ≡ Some p.1 →
      new ≡ after_all (picked_session p.0 r) old (section_sights v p.0) → Goes r v l (drop i sections) old → Goes r v l (drop (i + 1) sections) new
  goes_on old new of there put h =
      record {
        point = left (bank_cost r) h.point (points_of v p.0);
        kept = put ∙ (ap (λ o. after_all (picked_session p.0 r) o (section_sights v p.0)) h.kept ∙ seen_section r v p.0 p.1 there h.point);
        on = sym (left-append (bank_cost r) h.point (points_of v p.0) (points_at v l (drop (i + 1) sections)))
            ∙ (ap (left (bank_cost r) h.point) (sym (here true of)) ∙ h.on);
      }

  pub goes_by : (old new : Option Top) → is_of_level l p.0 ≡ false → new ≡ old → Goes r v l (drop i sections) old → Goes r v l (drop (i + 1) sections) new
  goes_by old new of same h =
      record { point = h.point; kept = same ∙ h.kept; on = ap (left (bank_cost r) h.point) (sym (here false of)) ∙ h.on }
