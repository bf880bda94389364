-- The rules of the grammar of images, each with one spelling of one thing.
use Rattle.std.proofs.Common.{◌≡◌, ℕ, zero, suc, ◌+◌, ◌<◌, ◌≤◌, Bool, true, false, List, length, Some, ap, ap₂, sym, ◌∙◌, refl, arith}
use Rattle.std.specs.Prelude.{nat_lt, if◌then◌else◌}
use Rattle.std.proofs.lemmas.Bool.{ltb-true}
use Rattle.std.proofs.lemmas.Option.{same_Some}
use Rattle.bl_base.specs.Trap.{trap_of, trap_number as trap_code}
use Rattle.bl_base.specs.declared.number.Pos.{Pos}
use Rattle.bl_base.specs.declared.number.Var.{Var as Variable}
use Rattle.bl_base.specs.declared.trap.Trap.{Trap as TrapKind}
use Rattle.bl_base.specs.declared.trap.Trap.TheVariants as kinds
use Rattle.bl_base.specs.declared.names.Label.{Label}
use Rattle.bl_base.specs.declared.names.Label.TheVariants.{Public, Secret}
use Rattle.bl_base.specs.declared.names.ValueType.{ValueType}
use Rattle.bl_base.specs.declared.names.ValueType.TheVariants.{I32, I64}
use Rattle.bl_ops.specs.Access.{access_kind, access_code}
use Rattle.bl_ops.specs.declared.op.Op.{Op}
use Rattle.bl_ops.specs.declared.op.Op.TheVariants.{Move}
use Rattle.bl_ops.specs.OperatorTable.{image_code_of, image_operator_of}
use Rattle.bl_program.specs.Programs.{arity, IsCommand}
use Rattle.bl_program.specs.declared.command.Operand.{Operand}
use Rattle.bl_program.specs.declared.command.Operand.TheVariants.{Var, Const}
use Rattle.bl_program.specs.declared.command.Command.{Command}
use Rattle.bl_program.specs.declared.command.Command.TheVariants.{Set, Load, Store, Test, Jump, Arg, Call, Out, Ret, Trap}
use Rattle.bl_program.specs.declared.definitions.Demand.{Demand}
use Rattle.bl_program.specs.declared.definitions.Demand.TheVariants.{Result, Global}
use Rattle.bl_program.specs.declared.definitions.ExportDef.{ExportDef}
use Rattle.bl_program.specs.declared.definitions.FunctionDef.{FunctionDef}
use Rattle.bl_program.specs.declared.definitions.GlobalDef.{GlobalDef}
use Rattle.bl_program.specs.declared.definitions.MemRow.{MemRow}
use Rattle.bl_program.specs.declared.definitions.MemoryDef.{MemoryDef}
use Rattle.bl_program.specs.declared.definitions.ParamDef.{ParamDef}
use Rattle.bl_program.specs.declared.definitions.SiteWeight.{SiteWeight}
use Rattle.bl_leb.specs.Grammar.{Spellings, ◌⨾◌, nothing, exactly, byte, given}
use Rattle.bl_format.specs.Grammar.{each, u32, u64, vec}
use Rattle.bl_format.specs.Image.{type_code, value_type, label_code, label, operand_code, operand_fields, operand, mark, operator, access, trap_kind, global, row, rows, memory, param, function, text, export, exports, demand_code, demand_fields, demand, weight, weights, command_code, fields, command}
use Rattle.bl_image.specs.ReaderAnswers.{operands_of}
use Rattle.bl_image.proofs.CodeCases.{is_var, is_const, to_result, is_result, is_global, LoadParts, to_load, is_load, StoreParts, to_store, is_store, TestParts, to_test, is_test, is_jump, ArgParts, to_arg, is_arg, is_call, OutParts, to_out, is_out, is_ret, is_trap, Operands, SetParts, to_set, is_set}
use Rattle.bl_format.proofs.OperandLists.{second_part, three}
use Rattle.bl_image.proofs.Operands.{only_part, two, three_only, set_parts, set_spelled, set_from}
use Rattle.bl_image.proofs.UniqueSpellings.{IsUnique, unique_via, unique_from, unique_given, unique_after, unique_both, unique_pair, unique_case, unique_nothing, unique_byte, unique_code, unique_exactly, unique_u64, unique_u32, unique_each, unique_vec, unique_rising}
use Rattle.bl_ops.proofs.AccessLemmas.{access_found}

-- ---- parts of several tables

type_same : (x y : ValueType) → type_code x ≡ type_code y → x ≡ y
type_same I32 I32 e = refl
type_same I32 I64 e = absurd (omega arith)
type_same I64 I32 e = absurd (omega arith)
type_same I64 I64 e = refl

label_same : (x y : Label) → label_code x ≡ label_code y → x ≡ y
label_same Public Public e = refl
label_same Public Secret e = absurd (omega arith)
label_same Secret Public e = absurd (omega arith)
label_same Secret Secret e = refl

op_found : (op : Op) → image_operator_of (image_code_of op) ≡ Some op
op_found op = elim op as (λ o. image_operator_of (image_code_of o) ≡ Some o) [ Move ↦ refl | _ ↦ refl ]

trap_found : (kind : TrapKind) → trap_of (trap_code kind) ≡ Some kind
trap_found kind = elim kind as (λ k. trap_of (trap_code k) ≡ Some k) [ kinds.Unreachable ↦ refl | _ ↦ refl ]

type_one : IsUnique value_type
type_one = unique_code type_code type_same

label_one : IsUnique label
label_one = unique_code label_code label_same

operator_one : IsUnique operator
operator_one = unique_code image_code_of (λ x y e. same_Some x y (sym (op_found x) ∙ ap image_operator_of e ∙ op_found y))

access_one : IsUnique access
access_one = unique_code access_code (λ x y e. same_Some x y (sym (access_found x) ∙ ap access_kind e ∙ access_found y))

trap_one : IsUnique trap_kind
trap_one = unique_code trap_code (λ x y e. same_Some x y (sym (trap_found x) ∙ ap trap_of e ∙ trap_found y))

variable_one : IsUnique (λ (x : Variable). u32 x.0)
variable_one = unique_from unique_u32 (λ (x : Variable). x.0) (λ n. record { 0 = n }) (λ y. refl)

position_one : IsUnique (λ (x : Pos). u32 x.0)
position_one = unique_from unique_u32 (λ (x : Pos). x.0) (λ n. record { 0 = n }) (λ y. refl)

operand_one : IsUnique operand
operand_one = unique_after byte operand_code operand_fields unique_byte cases
  where
    cases : (x : Operand) → IsUnique (λ y. given (operand_code y ≡ operand_code x) (operand_fields y))
    cases (Var x) = unique_case operand_code operand_fields Var 0 (λ y e. let c = is_var y e in (record { 0 = c.0 }, c.1)) variable_one
    cases (Const n) = unique_case operand_code operand_fields Const 1 is_const unique_u64

-- ---- the parts in front of the commands

global_one : IsUnique global
global_one = unique_from (unique_pair type_one (unique_pair label_one unique_u64)) (λ (y : GlobalDef). (y.kind, (y.label, y.first))) (λ p. record { kind = p.0; label = p.1.0; first = p.1.1 }) (λ y. refl)

param_one : IsUnique param
param_one = unique_from (unique_pair type_one label_one) (λ (y : ParamDef). (y.kind, y.label)) (λ p. record { kind = p.0; label = p.1 }) (λ y. refl)

function_one : IsUnique function
function_one =
    unique_from (unique_pair (unique_vec param param_one) (unique_pair (unique_vec value_type type_one) (unique_pair unique_u32 unique_u32)))
    (λ (y : FunctionDef). (y.params, (y.results, (y.vars, y.length)))) (λ p. record { params = p.0; results = p.1.0; vars = p.1.1.0; length = p.1.1.1 }) (λ y. refl)

text_one : IsUnique text
text_one = unique_after u64 length exactly unique_u64 (λ x. unique_exactly (length x))

export_one : IsUnique export
export_one = unique_from (unique_pair text_one unique_u32) (λ (y : ExportDef). (y.name, y.function)) (λ p. record { name = p.0; function = p.1 }) (λ y. refl)

exports_one : IsUnique exports
exports_one = unique_after u64 length (each export) unique_u64 (λ x. unique_each export (length x) export_one)

rows_one : IsUnique rows
rows_one = unique_rising (λ (one : MemRow). one.number) row here
  where
    here : (x : MemRow) → IsUnique (λ (y : MemRow). given (y.number ≡ x.number) (row y))
    here x =
        unique_via (λ these. given (length these ≡ 16) (exactly these)) (λ (y : MemRow). given (y.number ≡ x.number) (row y)) (λ y. y.bytes) (unique_exactly 16) (λ y t h. h.1)
        (λ y z a b h k e. ap₂ (λ n bytes. record { number = n; bytes = bytes }) (h.0 ∙ sym k.0) e)

weights_one : IsUnique weights
weights_one = unique_rising (λ (one : SiteWeight). one.at.0) weight here
  where
    here : (x : SiteWeight) → IsUnique (λ (y : SiteWeight). given (y.at.0 ≡ x.at.0) (weight y))
    here x =
        unique_via u64 (λ (y : SiteWeight). given (y.at.0 ≡ x.at.0) (weight y)) (λ y. y.weight) unique_u64 (λ y t h. h.1)
        (λ y z a b h k e. ap₂ (λ n w. record { at = record { 0 = n }; weight = w }) (h.0 ∙ sym k.0) e)

memory_one : IsUnique memory
memory_one =
    unique_from (unique_pair unique_u32 (unique_pair unique_u32 (unique_pair label_one rows_one)))
    (λ (y : MemoryDef). (y.pages, (y.reserve, (y.label, y.rows)))) (λ p. record { pages = p.0; reserve = p.1.0; label = p.1.1.0; rows = p.1.1.1 }) (λ y. refl)

demand_one : IsUnique demand
demand_one = unique_after byte demand_code demand_fields unique_byte cases
  where
    cases : (x : Demand) → IsUnique (λ y. given (demand_code y ≡ demand_code x) (demand_fields y))
    cases (Result f index) = unique_case demand_code demand_fields to_result 0 is_result (unique_pair unique_u32 unique_u32)
    cases (Global x) = unique_case demand_code demand_fields Global 1 is_global unique_u32

-- globals, memories, functions, exports
abbrev pub Defined : Type 0
Defined = List GlobalDef × (List MemoryDef × (List FunctionDef × List ExportDef))

abbrev pub defined_parts : Defined → Spellings
defined_parts d = vec global d.0 ⨾ vec memory d.1.0 ⨾ vec function d.1.1.0 ⨾ exports d.1.1.1

pub definitions_one : IsUnique defined_parts
definitions_one = unique_pair (unique_vec global global_one) (unique_pair (unique_vec memory memory_one) (unique_pair (unique_vec function function_one) exports_one))

-- demands and weights
abbrev pub listed_parts : List Demand × List SiteWeight → Spellings
listed_parts both = vec demand both.0 ⨾ weights both.1

pub listed_one : IsUnique listed_parts
listed_one = unique_pair (unique_vec demand demand_one) weights_one

-- ---- commands

mark_same : (d : ℕ) (b : Bool) (e : ℕ) (c : Bool) → d ≤ 6 → e ≤ 6 → d + (if b then 8 else 0) ≡ e + (if c then 8 else 0) → (d ≡ e) × (b ≡ c)
mark_same d true e true p q h = (omega arith, refl)
mark_same d true e false p q h = absurd (omega arith)
mark_same d false e true p q h = absurd (omega arith)
mark_same d false e false p q h = (omega arith, refl)

mark_one : IsUnique mark
mark_one =
    unique_via byte mark (λ y. y.depth + (if y.protect then 8 else 0)) unique_byte (λ y t h. h.1)
    (λ x y a b h k e. let same = mark_same x.depth x.protect y.depth y.protect h.0 k.0 e in ap₂ (λ d p. record { depth = d; protect = p }) same.0 same.1)

-- an operator takes one to three operands
arity_some : (op : Op) → (nat_lt 0 (arity op) ≡ true) × (nat_lt (arity op) 4 ≡ true)
arity_some op = elim op as (λ o. (nat_lt 0 (arity o) ≡ true) × (nat_lt (arity o) 4 ≡ true)) [ Move ↦ (refl, refl) | _ ↦ (refl, refl) ]

operands_one : (n : ℕ) → 0 < n → n < 4 → IsUnique (operands_of n)
operands_one zero some few = absurd (omega arith)
operands_one (suc zero) some few =
    unique_via operand (operands_of 1) (λ y. y.0) operand_one (λ y t h. only_part (operand y.0) t h.1)
    (λ x y a b h k e. ap₂ (λ s t. (s, t)) e (ap₂ (λ s t. (s, t)) (h.0.0 (omega arith) ∙ sym (k.0.0 (omega arith))) (h.0.1 (omega arith) ∙ sym (k.0.1 (omega arith)))))
operands_one (suc (suc zero)) some few =
    unique_via two (operands_of 2) (λ y. (y.0, y.1.0)) (unique_pair operand_one operand_one)
    (λ y t h. second_part (operand y.0) (operand y.1.0 ⨾ nothing) (operand y.1.0) t (λ u. only_part (operand y.1.0) u) h.1)
    (λ x y a b h k e. ap₂ (λ (p : Operand × Operand) t. (p.0, (p.1, t))) e (h.0.1 (omega arith) ∙ sym (k.0.1 (omega arith))))
operands_one (suc (suc (suc zero))) some few =
    unique_via three (operands_of 3) (λ y. y) (unique_pair operand_one (unique_pair operand_one operand_one)) (λ y t h. three_only y t h.1) (λ x y a b h k e. e)
operands_one (suc (suc (suc (suc n)))) some few = absurd (omega arith)

-- what is spelled of a command behind its code
abbrev behind_code : Command → Spellings
behind_code y = given (IsCommand y) (fields y)

set_one : IsUnique (λ (p : SetParts × Operands). behind_code (to_set p))
set_one =
    unique_via set_spelled (λ (p : SetParts × Operands). behind_code (to_set p)) (λ p. p)
    (unique_both set_parts (λ q. operands_of (arity q.1.0)) (unique_pair mark_one (unique_pair operator_one variable_one))
    (λ q. operands_one (arity q.1.0) (ltb-true 0 (arity q.1.0) (arity_some q.1.0).0) (ltb-true (arity q.1.0) 4 (arity_some q.1.0).1)))
    (λ y t h. set_from y t h) (λ x y a b h k e. e)

load_one : IsUnique (λ (p : LoadParts). fields (to_load p))
load_one = unique_pair mark_one (unique_pair access_one (unique_pair unique_u32 (unique_pair variable_one (unique_pair unique_u32 operand_one))))

store_one : IsUnique (λ (p : StoreParts). fields (to_store p))
store_one = unique_pair access_one (unique_pair unique_u32 (unique_pair unique_u32 (unique_pair operand_one operand_one)))

test_one : IsUnique (λ (p : TestParts). fields (to_test p))
test_one = unique_pair operand_one (unique_pair position_one position_one)

arg_one : IsUnique (λ (p : ArgParts). fields (to_arg p))
arg_one = unique_pair mark_one (unique_pair unique_u32 (unique_pair unique_u32 operand_one))

out_one : IsUnique (λ (p : OutParts). fields (to_out p))
out_one = unique_pair mark_one (unique_pair unique_u32 operand_one)

-- a case of the commands
case_one : {A : Type 0} (to : A → Command) (n : ℕ) → ((y : Command) → command_code y ≡ n → (b : A) × (y ≡ to b)) → IsUnique (λ b. fields (to b)) → IsUnique (λ y. given (command_code y ≡ n) (behind_code y))
case_one to n cover p = unique_case command_code behind_code to n cover (unique_given (λ b. fields (to b)) (λ b. IsCommand (to b)) p)

pub command_one : IsUnique command
command_one = unique_after byte command_code behind_code unique_byte cases
  where
    cases : (x : Command) → IsUnique (λ y. given (command_code y ≡ command_code x) (behind_code y))
    cases (Set m op to a b c) = unique_case command_code behind_code to_set 0 is_set set_one
    cases (Load m kind space to offset address) = case_one to_load 1 is_load load_one
    cases (Store kind space offset address value) = case_one to_store 2 is_store store_one
    cases (Test cond one other) = case_one to_test 3 is_test test_one
    cases (Jump to) = case_one Jump 4 is_jump position_one
    cases (Arg m callee index value) = case_one to_arg 5 is_arg arg_one
    cases (Call callee) = case_one Call 6 is_call unique_u32
    cases (Out m index value) = case_one to_out 7 is_out out_one
    cases Ret = case_one (λ (u : Unit {0}). Ret) 8 (λ y e. (tt, is_ret y e)) (unique_nothing (λ x y. refl))
    cases (Trap kind) = case_one Trap 9 is_trap trap_one
