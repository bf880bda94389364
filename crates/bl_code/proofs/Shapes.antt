-- The grammar of instructions by their codes and immediates.
use Rattle.std.proofs.Common.{◌≡◌, ℕ, ◌≤◌, List, [], ◌∷◌, ◌++◌, Some, None, Bool, true, ◌&&◌, IsTrue, ap, ◌∙◌, refl, subst, arith}
use Rattle.std.specs.Prelude.{nat_le, Option}
use Rattle.std.proofs.lemmas.Bool.Decides.{nat_tests}
use Rattle.bl_ops.specs.Access.{access_code}
use Rattle.bl_ops.specs.OperatorTable.{operator_code}
use Rattle.bl_ops.specs.declared.access.AccessKind.{AccessKind}
use Rattle.bl_ops.specs.declared.access.AccessKind.TheVariants.{I32Load}
use Rattle.bl_ops.specs.declared.op.Op.{Op}
use Rattle.bl_ops.specs.declared.op.Op.TheVariants.{I32Eqz}
use Rattle.bl_wasm.specs.Codes.{float_access_code}
use Rattle.bl_leb.specs.Grammar.{Spellings, ◌⨾◌, byte}
use Rattle.bl_wasm.specs.Instructions.{instruction}
use Rattle.bl_wasm.specs.declared.float.FloatAccess.{FloatAccess}
use Rattle.bl_wasm.specs.declared.float.FloatAccess.TheVariants.{F32Load, F64Load, F32Store, F64Store}
use Rattle.bl_wasm.specs.declared.instruction.Instr.{Instr}
use Rattle.bl_wasm.specs.declared.instruction.Instr.TheVariants.{Unreachable, Nop, Block, Loop, If, Else, End, Br, BrIf, BrTable, Return, Call, CallIndirect, Drop, Select, LocalGet, LocalSet, LocalTee, GlobalGet, GlobalSet, Load, Store, FloatAccess as FloatAccessed, MemorySize, MemoryGrow, I32Const, I64Const, F32Const, F64Const, Integer, Float}
use Rattle.bl_code.specs.Shapes.{shape_of, IsCodeOf, immediates}

-- a byte, and what stands behind it
pub after_byte : {S : Spellings} (c code : ℕ) (rest : List ℕ) → (byte c ⨾ S) (code ∷ rest) → (c ≡ code) × S rest
after_byte {S} c code rest h =
    let whole : code ∷ rest ≡ c ∷ h.rest = h.whole ∙ ap (λ t. t ++ h.rest) h.first in
    let first : c ≡ code = cc in
    let same : h.rest ≡ rest = cc in
    (first, subst S same h.second)

-- a byte, and nothing
pub only_byte : (c code : ℕ) (rest : List ℕ) → byte c (code ∷ rest) → (c ≡ code) × (rest ≡ [])
only_byte c code rest h = (cc, cc)

-- no byte, and yet one
no_bytes : {S : Spellings} {c : ℕ} → (byte c ⨾ S) [] → ⊥
no_bytes {S} {c} h = let whole : [] ≡ c ∷ h.rest = h.whole ∙ ap (λ t. t ++ h.rest) h.first in cc

-- from 45 on, where there is a code
abbrev is_numeric : Option ℕ → Bool
is_numeric None = true
is_numeric (Some code) = nat_le 0x45 code

op_numeric : (op : Op) → IsTrue (is_numeric (operator_code op))
op_numeric op = elim op as (λ (o : Op). IsTrue (is_numeric (operator_code o))) [ I32Eqz ↦ refl | _ ↦ refl ]

access_in : (kind : AccessKind) → IsTrue (nat_le 0x28 (access_code kind) && nat_le (access_code kind) 0x3E)
access_in kind = elim kind as (λ (k : AccessKind). IsTrue (nat_le 0x28 (access_code k) && nat_le (access_code k) 0x3E)) [ I32Load ↦ refl | _ ↦ refl ]

-- a numeric operator's code
numeric_in : (o : Option ℕ) (code : ℕ) → IsTrue (is_numeric o) → o ≡ Some code → 0x45 ≤ code
numeric_in None code h e = absurd cc
numeric_in (Some c) code h e = let same : c ≡ code = cc in rw (← same) (grind (arith, nat_tests))

access_code_in : (kind : AccessKind) (code : ℕ) → access_code kind ≡ code → (0x28 ≤ code) × (code ≤ 0x3E)
access_code_in kind code e =
    let h = access_in kind in
    let low : 0x28 ≤ access_code kind = grind (arith, nat_tests) in
    let high : access_code kind ≤ 0x3E = grind (arith, nat_tests) in
    rw (← e) (low, high)

float_access_in : (kind : FloatAccess) (code : ℕ) → float_access_code kind ≡ code → (0x28 ≤ code) × (code ≤ 0x3E)
float_access_in F32Load code e = (omega arith, omega arith)
float_access_in F64Load code e = (omega arith, omega arith)
float_access_in F32Store code e = (omega arith, omega arith)
float_access_in F64Store code e = (omega arith, omega arith)

-- a spelling has a first byte
pub never_empty : (x : Instr) → instruction x [] → ⊥
never_empty Unreachable h = cc
never_empty Nop h = cc
never_empty (Block x) h = no_bytes h
never_empty (Loop x) h = no_bytes h
never_empty (If x) h = no_bytes h
never_empty Else h = cc
never_empty End h = cc
never_empty (Br x) h = no_bytes h
never_empty (BrIf x) h = no_bytes h
never_empty (BrTable default labels) h = no_bytes h
never_empty Return h = cc
never_empty (Call x) h = no_bytes h
never_empty (CallIndirect type) h = no_bytes h
never_empty Drop h = cc
never_empty Select h = cc
never_empty (LocalGet x) h = no_bytes h
never_empty (LocalSet x) h = no_bytes h
never_empty (LocalTee x) h = no_bytes h
never_empty (GlobalGet x) h = no_bytes h
never_empty (GlobalSet x) h = no_bytes h
never_empty (Load kind argument) h = no_bytes h.1
never_empty (Store kind argument) h = no_bytes h.1
never_empty (FloatAccessed kind argument) h = no_bytes h
never_empty MemorySize h = no_bytes h
never_empty MemoryGrow h = no_bytes h
never_empty (I32Const x) h = no_bytes h
never_empty (I64Const x) h = no_bytes h
never_empty (F32Const x) h = no_bytes h
never_empty (F64Const x) h = no_bytes h
never_empty (Integer op) h = let none = h.2 in cc
never_empty (Float op) h = let none = h.1 in cc

-- behind an instruction's code stand its immediates
pub shaped : (x : Instr) (code : ℕ) (rest : List ℕ) → instruction x (code ∷ rest) → IsCodeOf (shape_of x) code × immediates (shape_of x) rest
shaped Unreachable code rest h = let p = only_byte 0x00 code rest h in (grind arith, p.1)
shaped Nop code rest h = let p = only_byte 0x01 code rest h in (grind arith, p.1)
shaped (Block x) code rest h = let p = after_byte 0x02 code rest h in (grind arith, p.1)
shaped (Loop x) code rest h = let p = after_byte 0x03 code rest h in (grind arith, p.1)
shaped (If x) code rest h = let p = after_byte 0x04 code rest h in (grind arith, p.1)
shaped Else code rest h = let p = only_byte 0x05 code rest h in (grind arith, p.1)
shaped End code rest h = let p = only_byte 0x0B code rest h in (grind arith, p.1)
shaped (Br x) code rest h = let p = after_byte 0x0C code rest h in (grind arith, p.1)
shaped (BrIf x) code rest h = let p = after_byte 0x0D code rest h in (grind arith, p.1)
shaped (BrTable default labels) code rest h = let p = after_byte 0x0E code rest h in (grind arith, p.1)
shaped Return code rest h = let p = only_byte 0x0F code rest h in (grind arith, p.1)
shaped (Call x) code rest h = let p = after_byte 0x10 code rest h in (grind arith, p.1)
shaped (CallIndirect type) code rest h = let p = after_byte 0x11 code rest h in (grind arith, p.1)
shaped Drop code rest h = let p = only_byte 0x1A code rest h in (grind arith, p.1)
shaped Select code rest h = let p = only_byte 0x1B code rest h in (grind arith, p.1)
shaped (LocalGet x) code rest h = let p = after_byte 0x20 code rest h in (grind arith, p.1)
shaped (LocalSet x) code rest h = let p = after_byte 0x21 code rest h in (grind arith, p.1)
shaped (LocalTee x) code rest h = let p = after_byte 0x22 code rest h in (grind arith, p.1)
shaped (GlobalGet x) code rest h = let p = after_byte 0x23 code rest h in (grind arith, p.1)
shaped (GlobalSet x) code rest h = let p = after_byte 0x24 code rest h in (grind arith, p.1)
shaped (Load kind argument) code rest h = let p = after_byte (access_code kind) code rest h.1 in (access_code_in kind code p.0, p.1)
shaped (Store kind argument) code rest h = let p = after_byte (access_code kind) code rest h.1 in (access_code_in kind code p.0, p.1)
shaped (FloatAccessed kind argument) code rest h = let p = after_byte (float_access_code kind) code rest h in (float_access_in kind code p.0, p.1)
shaped MemorySize code rest h = let p = after_byte 0x3F code rest h in (grind arith, p.1)
shaped MemoryGrow code rest h = let p = after_byte 0x40 code rest h in (grind arith, p.1)
shaped (I32Const x) code rest h = let p = after_byte 0x41 code rest h in (grind arith, p.1)
shaped (I64Const x) code rest h = let p = after_byte 0x42 code rest h in (grind arith, p.1)
shaped (F32Const x) code rest h = let p = after_byte 0x43 code rest h in (grind arith, p.1)
shaped (F64Const x) code rest h = let p = after_byte 0x44 code rest h in (grind arith, p.1)
shaped (Integer op) code rest h = let p = only_byte h.0 code rest h.2 in let large = numeric_in (operator_code op) code (op_numeric op) (h.1 ∙ ap Some p.0) in (grind arith, p.1)
shaped (Float op) code rest h = let p = only_byte op code rest h.1 in let large : 0x45 ≤ code = rw (← p.0) h.0.0 in (grind arith, p.1)
