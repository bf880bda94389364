-- Worked runs.
use Rattle.std.proofs.Common.{◌≡◌, ℕ, Bool, true, false, List, [], ◌∷◌, ◌++◌, replicate, Some, None, refl}
use Rattle.bl_base.specs.Runs.{returned}
use Rattle.bl_base.specs.declared.names.Label.TheVariants.{Public}
use Rattle.bl_base.specs.declared.names.ValueType.TheVariants.{I32}
use Rattle.bl_base.specs.declared.start.Start.{Start}
use Rattle.bl_base.specs.declared.trap.Trap.TheVariants as trap_kind
use Rattle.bl_ops.specs.declared.access.AccessKind.TheVariants.{I32Load8U}
use Rattle.bl_ops.specs.declared.op.Op.TheVariants.{Move, I32Add}
use Rattle.bl_program.specs.declared.command.Command.{Command}
use Rattle.bl_program.specs.declared.command.Command.TheVariants.{Set, Load, Test, Jump, Out, Ret, Trap}
use Rattle.bl_program.specs.declared.command.Mark.{Mark}
use Rattle.bl_program.specs.declared.command.Operand.{Operand}
use Rattle.bl_program.specs.declared.command.Operand.TheVariants.{Var, Const}
use Rattle.bl_program.specs.declared.definitions.ProgramParts.{ProgramParts as Program}
use Rattle.bl_rob.specs.Machines.{State, at_position, end_in, outcome_by}
use Rattle.bl_rob.specs.Observations.{observed, observed_from, reached}
use Rattle.bl_rob.specs.declared.directive.Directive.{Directive}
use Rattle.bl_rob.specs.declared.directive.Directive.TheVariants.{Fetch, Predict, Exec, Retire}
use Rattle.bl_rob.specs.declared.directive.End.TheVariants as ending
use Rattle.bl_rob.specs.declared.directive.Observation.TheVariants.{Nothing, Read, Rollback}

-- ---- a function that adds 1: it is fetched, executed and retired

abbrev plain : Mark
plain = record { depth = 0; protect = false }

abbrev traps : List Command
traps = Trap trap_kind.Unreachable ∷ Trap trap_kind.DivideByZero ∷ Trap trap_kind.Overflow ∷ Trap trap_kind.OutOfBounds ∷ Trap trap_kind.UndefinedElement
    ∷ Trap trap_kind.UninitializedElement ∷ Trap trap_kind.TypeMismatch ∷ []

abbrev v : ℕ → Operand
v x = Var (record { 0 = x })

abbrev inc : Program
inc = record {
  globals = [];
  memories = [];
  functions = record { params = record { kind = I32; label = Public } ∷ []; results = I32 ∷ []; vars = 5; length = 6 } ∷ [];
  exports = [];
  commands = traps ++ (Jump (record { 0 = 8 })
      ∷ Set plain Move (record { 0 = 2 }) (v 0) (Const 0) (Const 0)
      ∷ Set plain Move (record { 0 = 3 }) (Const 1) (Const 0) (Const 0)
      ∷ Set plain I32Add (record { 0 = 4 }) (v 2) (v 3) (Const 0)
      ∷ Out plain 0 (v 4)
      ∷ Ret
      ∷ []);
  demands = [];
  weights = [];
}

abbrev forty_one : Start
forty_one = record { args = 41 ∷ []; patches = [] }

abbrev in_order : List Directive
in_order = replicate 6 Fetch ++ (Exec 1 ∷ Exec 2 ∷ Exec 3 ∷ Exec 4 ∷ replicate 6 Retire)

inc_observed : observed 64 inc 0 forty_one in_order ≡ record { made = replicate 16 Nothing; refused = None }
inc_observed = refl

inc_ended : end_in (reached 64 inc 0 forty_one in_order) ≡ Some ending.Returned
inc_ended = refl

inc_outcome : outcome_by inc (reached 64 inc 0 forty_one in_order) ending.Returned ≡ returned (42 ∷ []) []
unfolding Rattle.bl_ops.specs.Numerics.meaning
inc_outcome = refl

-- in a buffer of one entry the second fetch isn't enabled
inc_alone : observed 1 inc 0 forty_one in_order ≡ record { made = Nothing ∷ []; refused = Some 2 }
inc_alone = refl

-- ---- a load behind a guess that it is inside its memory, and a second load at what it gave

abbrev chased : Bool → Program
chased protect = record {
  globals = [];
  memories = [];
  functions = record { params = record { kind = I32; label = Public } ∷ []; results = I32 ∷ []; vars = 7; length = 10 } ∷ [];
  exports = [];
  commands = traps ++ (Jump (record { 0 = 8 })
      ∷ Set plain Move (record { 0 = 2 }) (v 0) (Const 0) (Const 0)
      ∷ Set plain Move (record { 0 = 3 }) (Const 1) (Const 0) (Const 0)
      ∷ Test (v 3) (record { 0 = 3 }) (record { 0 = 11 })
      ∷ Load (record { depth = 0; protect = protect }) I32Load8U 0 (record { 0 = 4 }) 0 (v 2)
      ∷ Set plain Move (record { 0 = 5 }) (Const 1) (Const 0) (Const 0)
      ∷ Test (v 5) (record { 0 = 3 }) (record { 0 = 14 })
      ∷ Load plain I32Load8U 0 (record { 0 = 6 }) 0 (v 4)
      ∷ Out plain 0 (v 6)
      ∷ Ret
      ∷ []);
  demands = [];
  weights = [];
}

abbrev at_two : State
at_two = record {
  buffer = [];
  front = at_position 7 [];
  registers = λ depth x. 2;
  space = 0 ∷ 0 ∷ 5 ∷ 0 ∷ 0 ∷ 9 ∷ [];
  retired = 0;
}

abbrev guessed : List Directive
guessed = Fetch ∷ Fetch ∷ Fetch ∷ Predict false ∷ Fetch ∷ Fetch ∷ Predict false ∷ Fetch ∷ Exec 1 ∷ Exec 4 ∷ Exec 7 ∷ Exec 2 ∷ Exec 3 ∷ Fetch ∷ Retire ∷ Retire ∷ Retire ∷ Retire ∷ []

-- the second load is executed at the value that the first one gave
leaks : observed_from 64 (chased false) 1 guessed at_two ≡ record {
  made = replicate 9 Nothing ++ (Read 2 8 ∷ Read 5 72 ∷ Nothing ∷ Rollback 3 ∷ replicate 5 Nothing);
  refused = None;
}
unfolding Rattle.bl_ops.specs.Numerics.meaning
leaks = refl

-- where that is protected, it isn't enabled
stops : observed_from 64 (chased true) 1 guessed at_two ≡ record { made = replicate 9 Nothing ++ (Read 2 8 ∷ []); refused = Some 11 }
unfolding Rattle.bl_ops.specs.Numerics.meaning
stops = refl
