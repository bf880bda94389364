-- Which things have a code.
use Rattle.std.proofs.Common.{◌≡◌, ℕ, ◌≤◌, List, length, drop, Result as Answer, refl, arith}
use Rattle.std.specs.Result.{IsErrAnd}
use Rattle.bl_base.specs.declared.number.Pos.{Pos}
use Rattle.bl_base.specs.declared.number.Var.{Var as Variable}
use Rattle.bl_base.specs.declared.trap.Trap.{Trap as TrapKind}
use Rattle.bl_ops.specs.declared.access.AccessKind.{AccessKind}
use Rattle.bl_ops.specs.declared.op.Op.{Op}
use Rattle.bl_program.specs.declared.command.Mark.{Mark}
use Rattle.bl_program.specs.declared.command.Operand.{Operand}
use Rattle.bl_program.specs.declared.command.Operand.TheVariants.{Var, Const}
use Rattle.bl_program.specs.declared.command.Command.{Command}
use Rattle.bl_program.specs.declared.command.Command.TheVariants.{Set, Load, Store, Test, Jump, Arg, Call, Out, Ret, Trap}
use Rattle.bl_program.specs.declared.definitions.Demand.{Demand}
use Rattle.bl_program.specs.declared.definitions.Demand.TheVariants as demands
use Rattle.bl_program.specs.Programs.{IsCommand}
use Rattle.bl_leb.specs.Grammar.{given}
use Rattle.bl_format.specs.Image.{operand_code, demand_code, command_code, fields}
use Rattle.bl_image.specs.ReaderAnswers.{Begins, NoneBegins, Finds, fields_behind}
use Rattle.bl_image.specs.declared.error.Malformed.{Malformed}
use Rattle.bl_image.proofs.ReaderLemmas.{fails, begins_case, begins_given, none_case, none_given, none_unless}

-- ---- operands

pub is_var : (y : Operand) → operand_code y ≡ 0 → (x : ℕ) × (y ≡ Var (record { 0 = x }))
is_var (Var x) e = (x.0, refl)
is_var (Const n) e = absurd (omega arith)

pub is_const : (y : Operand) → operand_code y ≡ 1 → (n : ℕ) × (y ≡ Const n)
is_const (Var x) e = absurd (omega arith)
is_const (Const n) e = (n, refl)

-- ---- demands

-- a result, by the function and the index
abbrev pub ResultParts : Type 0
ResultParts = ℕ × ℕ

abbrev pub to_result : ResultParts → Demand
to_result parts = demands.Result parts.0 parts.1

pub is_result : (y : Demand) → demand_code y ≡ 0 → (parts : ResultParts) × (y ≡ to_result parts)
is_result (demands.Result f index) e = ((f, index), refl)
is_result (demands.Global x) e = absurd (omega arith)

pub is_global : (y : Demand) → demand_code y ≡ 1 → (x : ℕ) × (y ≡ demands.Global x)
is_global (demands.Result f index) e = absurd (omega arith)
is_global (demands.Global x) e = (x, refl)

-- ---- commands, by their parts

-- the parts of a Load
abbrev pub LoadParts : Type 0
LoadParts = Mark × (AccessKind × (ℕ × (Variable × (ℕ × Operand))))

abbrev pub to_load : LoadParts → Command
to_load p = Load p.0 p.1.0 p.1.1.0 p.1.1.1.0 p.1.1.1.1.0 p.1.1.1.1.1

pub is_load : (y : Command) → command_code y ≡ 1 → (p : LoadParts) × (y ≡ to_load p)
is_load (Load m kind space to offset address) e = ((m, (kind, (space, (to, (offset, address))))), refl)
is_load _ e = absurd (omega arith)

-- of a Store
abbrev pub StoreParts : Type 0
StoreParts = AccessKind × (ℕ × (ℕ × (Operand × Operand)))

abbrev pub to_store : StoreParts → Command
to_store p = Store p.0 p.1.0 p.1.1.0 p.1.1.1.0 p.1.1.1.1

pub is_store : (y : Command) → command_code y ≡ 2 → (p : StoreParts) × (y ≡ to_store p)
is_store (Store kind space offset address value) e = ((kind, (space, (offset, (address, value)))), refl)
is_store _ e = absurd (omega arith)

-- of a Test
abbrev pub TestParts : Type 0
TestParts = Operand × (Pos × Pos)

abbrev pub to_test : TestParts → Command
to_test p = Test p.0 p.1.0 p.1.1

pub is_test : (y : Command) → command_code y ≡ 3 → (p : TestParts) × (y ≡ to_test p)
is_test (Test cond one other) e = ((cond, (one, other)), refl)
is_test _ e = absurd (omega arith)

-- of a Jump
pub is_jump : (y : Command) → command_code y ≡ 4 → (to : Pos) × (y ≡ Jump to)
is_jump (Jump to) e = (to, refl)
is_jump _ e = absurd (omega arith)

-- of an Arg
abbrev pub ArgParts : Type 0
ArgParts = Mark × (ℕ × (ℕ × Operand))

abbrev pub to_arg : ArgParts → Command
to_arg p = Arg p.0 p.1.0 p.1.1.0 p.1.1.1

pub is_arg : (y : Command) → command_code y ≡ 5 → (p : ArgParts) × (y ≡ to_arg p)
is_arg (Arg m callee index value) e = ((m, (callee, (index, value))), refl)
is_arg _ e = absurd (omega arith)

-- of a Call
pub is_call : (y : Command) → command_code y ≡ 6 → (callee : ℕ) × (y ≡ Call callee)
is_call (Call callee) e = (callee, refl)
is_call _ e = absurd (omega arith)

-- of an Out
abbrev pub OutParts : Type 0
OutParts = Mark × (ℕ × Operand)

abbrev pub to_out : OutParts → Command
to_out p = Out p.0 p.1.0 p.1.1

pub is_out : (y : Command) → command_code y ≡ 7 → (p : OutParts) × (y ≡ to_out p)
is_out (Out m index value) e = ((m, (index, value)), refl)
is_out _ e = absurd (omega arith)

-- a Ret has none
pub is_ret : (y : Command) → command_code y ≡ 8 → y ≡ Ret
is_ret Ret e = refl
is_ret _ e = absurd (omega arith)

-- of a Trap
pub is_trap : (y : Command) → command_code y ≡ 9 → (kind : TrapKind) × (y ≡ Trap kind)
is_trap (Trap kind) e = (kind, refl)
is_trap _ e = absurd (omega arith)

-- of a Set, whose operands are read by the operator
abbrev pub SetParts : Type 0
SetParts = Mark × (Op × Variable)

-- a Set by its parts and its operands
abbrev pub Operands : Type 0
Operands = Operand × (Operand × Operand)

abbrev pub to_set : SetParts × Operands → Command
to_set p = Set p.0.0 p.0.1.0 p.0.1.1 p.1.0 p.1.1.0 p.1.1.1

pub is_set : (y : Command) → command_code y ≡ 0 → (p : SetParts × Operands) × (y ≡ to_set p)
is_set (Set m op to a b c) e = (((m, (op, to)), (a, (b, c))), refl)
is_set _ e = absurd (omega arith)

-- ---- the fields of a command, read by its parts

module _ {A : Type 0} (to : A → Command) (code : ℕ) (cover : (y : Command) → command_code y ≡ code → (p : A) × (y ≡ to p)) (bytes : List ℕ) (i : ℕ) where
  pub fields_fails : (r : Answer (Command × ℕ) Malformed) (e : Malformed) → IsErrAnd r (λ y. y ≡ e) → NoneBegins (λ p. fields (to p)) (drop i bytes) → Finds (fields_behind code) bytes i r
  fields_fails r e gives none =
      fails (λ p. fields (to p)) (fields_behind code) bytes i i r e gives
      (λ none. none_case command_code (λ y. given (IsCommand y) (fields y)) to code (drop i bytes) cover (none_given (λ p. fields (to p)) (λ p. IsCommand (to p)) (drop i bytes) none)) none

  pub fields_found : (j : ℕ) (a : A) → command_code (to a) ≡ code → IsCommand (to a) → (j ≤ length bytes) × Begins (λ p. fields (to p)) (drop i bytes) a (drop j bytes) → (j ≤ length bytes) × Begins (fields_behind code) (drop i bytes) (to a) (drop j bytes)
  fields_found j a is holds h =
      (h.0, begins_case command_code (λ y. given (IsCommand y) (fields y)) to code (drop i bytes) (drop j bytes) a is cover (begins_given (λ p. fields (to p)) (λ p. IsCommand (to p)) (drop i bytes) (drop j bytes) a holds h.1))

  -- where what is read is no command
  pub fields_unless : (j : ℕ) (a : A) → (IsCommand (to a) → ⊥) → Begins (λ p. fields (to p)) (drop i bytes) a (drop j bytes) → NoneBegins (fields_behind code) (drop i bytes)
  fields_unless j a never h = none_case command_code (λ y. given (IsCommand y) (fields y)) to code (drop i bytes) cover (none_unless (λ p. fields (to p)) (λ p. IsCommand (to p)) (drop i bytes) (drop j bytes) a never h)
