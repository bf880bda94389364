-- What contracts see of the machine.
use Rattle.bl_program.specs.declared.definitions.ProgramParts.{ProgramParts}
use Rattle.bl_rob.specs.declared.machine.Machine.{Machine}

-- the program, and the machine between two steps
pub record RobView : Type 0 where
  pub program : ProgramParts
  pub machine : Machine
