-- Every instruction except jumps, calls and returns goes on to the next one, or has no step.
use Rattle.std.proofs.Common.{ℕ, Bool, true, false, Option, Some, None, cond}
use Rattle.bl_x64.specs.Registers.{bytes_in, width_of}
use Rattle.bl_x64.specs.Operations.{extended_bytes, holds}
use Rattle.bl_x64.specs.Machines.{Areas, Core, Effect, goes_on, jumps, faults, by, if_holds, is_allowed, address_in, read, effect, divide}
use Rattle.bl_x64.specs.declared.instruction.Instruction.{Instruction}
use Rattle.bl_x64.specs.declared.instruction.Instruction.TheVariants.{Mov, Store, Constant, Extend, Alu, Test, Imul, Rotate, Count, SetIf, MoveIf, FillSign, Divide, Lfence, Jump, JumpIf, Call, Ret}

-- an effect that is no jump, call or return
pub data Falls : Effect → Type 0 where
  falls_on : (c : Core) → Falls (goes_on c)
  falls_out : Falls faults

-- an instruction that is no jump, call or return
abbrev pub IsPlain : Instruction → Type 0
IsPlain (Jump to) = ⊥
IsPlain (JumpIf condition to) = ⊥
IsPlain (Call to) = ⊥
IsPlain Ret = ⊥
IsPlain i = Unit {0}

by_falls : (o : Option ℕ) (f : ℕ → Effect) → ((value : ℕ) → Falls (f value)) → Falls (by o f)
by_falls None f h = falls_out
by_falls (Some value) f h = h value

if_falls : (o : Option Bool) (one other : Effect) → Falls one → Falls other → Falls (if_holds o one other)
if_falls None one other h g = falls_out
if_falls (Some true) one other h g = h
if_falls (Some false) one other h g = g

cond_falls : (b : Bool) (one other : Effect) → Falls one → Falls other → Falls (cond b one other)
cond_falls true one other h g = h
cond_falls false one other h g = g

divide_falls : (sign : Bool) (n high lowest divisor : ℕ) (c : Core) → Falls (divide sign n high lowest divisor c)
divide_falls false n high lowest divisor c = cond_falls _ _ _ falls_out (cond_falls _ _ _ (falls_on _) falls_out)
divide_falls true n high lowest divisor c = cond_falls _ _ _ falls_out (cond_falls _ _ _ falls_out (falls_on _))

pub plain_falls : (areas : Areas) (i : Instruction) (c : Core) → IsPlain i → Falls (effect areas i c)
plain_falls areas (Mov size to from) c h = by_falls (read areas (bytes_in size) from c) _ (λ _. falls_on _)
plain_falls areas (Store width to from) c h = cond_falls (is_allowed areas (address_in c.registers to) (width_of width)) _ _ (falls_on _) falls_out
plain_falls areas (Constant to value) c h = falls_on _
plain_falls areas (Extend how size to from) c h = by_falls (read areas (extended_bytes how) from c) _ (λ _. falls_on _)
plain_falls areas (Alu op size to from) c h = by_falls (read areas (bytes_in size) from c) _ (λ _. falls_on _)
plain_falls areas (Test size one other) c h = falls_on _
plain_falls areas (Imul size to from) c h = by_falls (read areas (bytes_in size) from c) _ (λ _. falls_on _)
plain_falls areas (Rotate op size to) c h = falls_on _
plain_falls areas (Count op size to from) c h = by_falls (read areas (bytes_in size) from c) _ (λ _. falls_on _)
plain_falls areas (SetIf condition to) c h = if_falls (holds condition c.flags) _ _ (falls_on _) (falls_on _)
plain_falls areas (MoveIf condition size to from) c h =
    by_falls (read areas (bytes_in size) from c) _ (λ value. if_falls (holds condition c.flags) _ _ (falls_on _) (falls_on _))
plain_falls areas (FillSign size) c h = falls_on _
plain_falls areas (Divide sign size divisor) c h = divide_falls sign _ _ _ _ c
plain_falls areas Lfence c h = falls_on _
plain_falls areas (Jump to) c h = absurd h
plain_falls areas (JumpIf condition to) c h = absurd h
plain_falls areas (Call to) c h = absurd h
plain_falls areas Ret c h = absurd h
