use Rattle.std.proofs.Common.{ℕ, subst}
use Rattle.std.specs.FinSet as fin
use Rattle.std.specs.Prelude.{MatchOption}
use Rattle.bl_graph.proofs.AskedLists.{in_asked}
use Rattle.bl_cut.specs.Least.{LeastUnder}
use Rattle.bl_transient.specs.Transient.{Asked}
use Rattle.bl_transient.specs.Verdicts.{asked_of}
use Rattle.bl_iface.specs.RoleTests.{IsFirstGiven, IsGiven}
use Rattle.bl_iface.proofs.SideLemmas.{same_asked}
use Rattle.bl_iface.proofs.choice.least_under.Goals as goal

pub returns-in-Some-clause-refused : goal.returns-in-Some-clause-refused
returns-in-Some-clause-refused c =
    subst (λ (a : Asked). IsFirstGiven a c.args.program.now c.in-Some.position.0) (same_asked c.args.role c.args.iface.now c.args.program.now c.in_ok-asked.asked c.in_ok-asked.ensures.asked)
    (subst (λ o. MatchOption o ((position : ℕ) → IsGiven (asked_of c.in_ok-asked.asked) c.args.program.now position → ⊥) (λ position. IsFirstGiven (asked_of c.in_ok-asked.asked) c.args.program.now position.0))
    c.in-Some.is c.in_ok-first.ensures)

pub least_under_of-requires-clause-sinks : goal.least_under_of-requires-clause-sinks
least_under_of-requires-clause-sinks c =
    let none =
    subst (λ o. MatchOption o ((position : ℕ) → IsGiven (asked_of c.in_ok-asked.asked) c.args.program.now position → ⊥) (λ position. IsFirstGiven (asked_of c.in_ok-asked.asked) c.args.program.now position.0))
    c.in_default.is c.in_ok-first.ensures in
    λ position x reads h. none position (x, reads, in_asked c.in_ok-asked.asked.transient x h)

pub returns-clause-least : goal.returns-clause-least
returns-clause-least c =
    subst (λ (a : Asked). LeastUnder a c.args.program.now (fin.contains c.in_ok-choice.choice.protects))
    (same_asked c.args.role c.args.iface.now c.args.program.now c.in_ok-asked.asked c.in_ok-asked.ensures.asked) c.in_ok-choice.ensures.least
