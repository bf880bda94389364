use Rattle.std.proofs.Common.{None, Some, subst}
use Rattle.std.specs.List.{Contains}
use Rattle.std.proofs.lemmas.Bool.{false≢true}
use Rattle.bl_graph.specs.Graphs.{use_of}
use Rattle.bl_witness.specs.LookupAnswers.{IsWritten}
use Rattle.bl_witness.proofs.chains.is_linked.Goals as goal

pub returns-in-Some : goal.returns-in-Some
returns-in-Some c =
    let written : IsWritten c.args.writes.now c.args.former.0 (Some c.in-Some.var) = subst (IsWritten c.args.writes.now c.args.former.0) c.in-Some.is c.written_at.ensures in (
      λ h. (c.in-Some.var.0, written, c.is_listed.ensures.0 h),
      λ link. c.is_listed.ensures.1 (subst (λ x. Contains c.args.uses.now (use_of c.args.at.0 x)) (c.requires.one c.args.former.0 link.0 c.in-Some.var.0 link.1 written) link.2),
    )

pub returns-in-None : goal.returns-in-None
returns-in-None c =
    let none : IsWritten c.args.writes.now c.args.former.0 None = subst (IsWritten c.args.writes.now c.args.former.0) c.in-None.is c.written_at.ensures in
    (λ h. absurd (false≢true h), λ link. absurd (none link.0 link.1))
