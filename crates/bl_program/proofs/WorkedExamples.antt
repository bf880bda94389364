-- A worked run: a function that adds 1 to its argument, and its rules.
use Rattle.std.proofs.Common.{◌≡◌, [], ◌∷◌, refl}
use Rattle.bl_base.specs.Runs.{returned, EndsAfter, last, more}
use Rattle.bl_base.specs.Trap.{kinds}
use Rattle.std.specs.Prelude.{map, take, ◌++◌, true, false}
use Rattle.bl_base.specs.declared.names.Label.TheVariants.{Public}
use Rattle.bl_base.specs.declared.names.ValueType.TheVariants.{I32}
use Rattle.bl_base.specs.declared.start.Start.{Start}
use Rattle.bl_ops.specs.declared.op.Op.TheVariants.{Move, I32Add}
use Rattle.bl_ops.specs.Numerics.{meaning}
use Rattle.bl_program.specs.Layout.{running}
use Rattle.bl_program.specs.Outcomes.{opening}
use Rattle.bl_program.specs.Rules.{variable}
use Rattle.bl_program.specs.Sites.{weight_of}
use Rattle.bl_program.specs.Steps.{plain_step}
use Rattle.bl_program.specs.declared.command.Command.TheVariants.{Set, Jump, Out, Ret, Trap}
use Rattle.bl_program.specs.declared.command.Mark.{Mark}
use Rattle.bl_program.specs.declared.command.Operand.TheVariants.{Const}
use Rattle.bl_program.specs.declared.definitions.ProgramParts.{ProgramParts as Program}

abbrev mark : Mark
mark = record { depth = 0; protect = false }

abbrev increment : Program
increment = record {
  globals = [];
  memories = [];
  functions = record { params = record { kind = I32; label = Public } ∷ []; results = I32 ∷ []; vars = 5; length = 6 } ∷ [];
  exports = [];
  commands = map Trap (take 7 kinds)
      ++ Jump (record { 0 = 8 })
      ∷ Set mark Move (record { 0 = 2 }) (variable 0) (Const 0) (Const 0)
      ∷ Set mark Move (record { 0 = 3 }) (Const 1) (Const 0) (Const 0)
      ∷ Set mark I32Add (record { 0 = 4 }) (variable 2) (variable 3) (Const 0)
      ∷ Out mark 0 (variable 4)
      ∷ Ret
      ∷ [];
  demands = [];
  weights = [];
}

abbrev greatest : Start
greatest = record { args = 4294967295 ∷ []; patches = [] }

-- of 4294967295 it returns 0 after six commands
runs : EndsAfter (plain_step increment) 6 (opening increment 0 greatest) (returned (0 ∷ []) [])
unfolding meaning
runs = more 5 _ _ _ refl (more 4 _ _ _ refl (more 3 _ _ _ refl (more 2 _ _ _ refl (more 1 _ _ _ refl (last _ _ refl)))))

-- its four sites weigh 1 each
weighs : weight_of increment (λ _. true) ≡ 4
weighs = refl

-- position 11 is its own
runs_in : running increment 11 ≡ 0
runs_in = refl
