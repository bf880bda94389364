use Rattle.bl_cmd.proofs.TableLemmas.{reads_variable, reads_constant}
use Rattle.bl_cmd.proofs.place.Place.reads.Goals as goal

pub returns-in-Var : goal.returns-in-Var
returns-in-Var c = reads_variable c.args.self.now _ _ _ c.in-Var.is c.is_readable.ensures

pub returns-in-Const : goal.returns-in-Const
returns-in-Const c = reads_constant c.args.self.now _ _ c.in-Const.is
