use Rattle.std.proofs.Common.{refl, subst}
use Rattle.bl_build.specs.StageAnswers.{FindsFailing, sides_in}
use Rattle.bl_build.proofs.InterfaceWork.{typed, united}
use Rattle.bl_build.proofs.join.unite.Goals as goal

pub returns-in-None : goal.returns-in-None
returns-in-None c =
    let sides = sides_in c.args.client.now c.args.library.now c.args.iface.now in
    typed sides c.whole.result c.requires.types
    (united sides (subst (FindsFailing sides) c.in-None.is c.in_ok-role.ensures) c.requires.types c.args.joined c.whole.result c.requires.joined c.whole.ensures)

pub returns-in-Some : goal.returns-in-Some
returns-in-Some c =
    let sides = sides_in c.args.client.now c.args.library.now c.args.iface.now in
    (sides, (refl, c.requires.types), subst (FindsFailing sides) c.in-Some.is c.in_ok-role.ensures)
