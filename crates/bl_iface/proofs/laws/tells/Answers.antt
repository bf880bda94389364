use Rattle.bl_iface.specs.RoleTests.{asked}
use Rattle.bl_iface.proofs.RoleTestLemmas.{as_from_under, asked_apart, bad_fails, none_passes, under_from_as}
use Rattle.bl_iface.proofs.laws.tells.Goals as goal

pub returns-clause-fails : goal.returns-clause-fails
returns-clause-fails c = λ role iface program typing set position h bad. bad_fails (asked role iface program) program set typing position (under_from_as iface program typing set role h) bad

pub returns-clause-passes : goal.returns-clause-passes
returns-clause-passes c = λ role iface program typing set well matches exact none.
    as_from_under iface program typing set role
    (none_passes (asked role iface program) program set (asked_apart iface program well.rule2 well.rule3 matches role) typing exact none)
