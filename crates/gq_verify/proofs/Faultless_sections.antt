-- The sections of a program without a fault.
use Rattle.std.proofs.Common.{◌≡◌, ap, sym, subst, Some, None}
use Rattle.gq_model.specs.machine.Program.{Statements, section_in, body_of}
use Rattle.gq_model.specs.declared.section.Section.{Section}
use Rattle.gq_model.specs.rules.Kinds.{AbstractState, Context, Subject}
use Rattle.gq_model.specs.rules.Flow.{context, start_of}
use Rattle.gq_model.specs.rules.Verdict.{program_fault}
use Rattle.gq_verify.specs.Rights.{IsRight}
use Rattle.gq_model.proofs.Rules_laws.{section_flows}

-- no section of it breaks a rule
pub section_right : (v : Subject) (section : Section) (b : Statements) (c : Context) (s : AbstractState) → program_fault v ≡ None →
    section_in section v.program.sections ≡ Some b → c ≡ context v section → s ≡ start_of v section → IsRight c s b
section_right v section b c s none is at start =
    let f = section_flows v section b none is in
    let here = subst (λ (b : Statements). IsRight (context v section) (start_of v section) b) (ap body_of is) (f.0, f.2) in
    subst (λ (s : AbstractState). IsRight c s b) (sym start) (subst (λ (c : Context). IsRight c (start_of v section) b) (sym at) here)
