use Rattle.std.proofs.Common.{subst}
use Rattle.bl_base.specs.declared.names.Role.TheVariants.{Client, Library}
use Rattle.bl_program.specs.Sites.{is_protected}
use Rattle.bl_iface.specs.RoleTests.{JudgesAs}
use Rattle.bl_build.specs.JoinStages.{client_fails, library_fails}
use Rattle.bl_build.proofs.join.first_failing.Goals as goal

pub returns-in-No : goal.returns-in-No
returns-in-No c =
    client_fails c.in-No.position.0 (subst (JudgesAs Client c.args.iface.now c.args.client.now (is_protected c.args.client.now)) c.in-No.is c.in_ok-position.ensures).1

pub returns-in-No-2 : goal.returns-in-No-2
returns-in-No-2 c =
    library_fails c.in-No-2.position.0 (subst (JudgesAs Client c.args.iface.now c.args.client.now (is_protected c.args.client.now)) c.in-Yes.is c.in_ok-position.ensures)
    (subst (JudgesAs Library c.args.iface.now c.args.library.now (is_protected c.args.library.now)) c.in-No-2.is c.in_ok-position-in-Yes.ensures).1
