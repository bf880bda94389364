-- Each access that a run of a well-formed program reaches lies in the space of all memories.
use Rattle.std.proofs.Common.{◌≡◌, ℕ, zero, suc, ◌+◌, ◌*◌, ◌%◌, ◌^◌, ◌<◌, ◌≤◌, List, [], ◌∷◌, length, Some, refl, ◌∙◌, arith}
use Rattle.bl_base.proofs.RunLemmas.{comes_then}
use Rattle.bl_base.specs.Runs.{StepsTo}
use Rattle.bl_base.specs.Quantity.{limit_of}
use Rattle.bl_base.specs.declared.quantity.Quantity.TheVariants as quantity
use Rattle.bl_base.specs.declared.number.Var.{Var as Variable}
use Rattle.bl_ops.specs.Access.{width_of}
use Rattle.bl_ops.specs.declared.access.AccessKind.{AccessKind}
use Rattle.bl_program.specs.Layout.{base, command_at, sum_before}
use Rattle.bl_program.specs.Outcomes.{opening}
use Rattle.bl_program.specs.Steps.{Plain, value_of, plain_step}
use Rattle.bl_program.specs.declared.command.Command.{Command}
use Rattle.bl_program.specs.declared.command.Command.TheVariants.{Set, Arg, Out, Load, Store, Test, Jump, Call, Ret, Trap}
use Rattle.bl_program.specs.declared.command.Mark.{Mark}
use Rattle.bl_program.specs.declared.command.Operand.{Operand}
use Rattle.bl_program.specs.declared.definitions.MemoryDef.{MemoryDef}
use Rattle.bl_program.specs.declared.definitions.ProgramParts.{ProgramParts as Program}
use Rattle.bl_seq.specs.OwnMemory.{IsReached, IsInside}
use Rattle.bl_seq.proofs.FinalBytes.{room, space_long}
use Rattle.bl_seq.proofs.OwnAccesses.{inside}
use Rattle.bl_seq.proofs.OwnSizes.{whole}
use Rattle.bl_select.specs.Selection.{Selection, LiesWithin, RunsChosen, RunsSelected}
use Rattle.bl_select.specs.Simulation.{IsWithin}
use Rattle.bl_x64.specs.declared.instruction.Instruction.{Instruction}

-- a sum of some items of a list is at most that of all
sum_most : (f : MemoryDef → ℕ) (xs : List MemoryDef) (n : ℕ) → sum_before f xs n ≤ sum_before f xs (length xs)
sum_most f xs zero = omega arith
sum_most f [] (suc n) = omega arith
sum_most f (x ∷ xs) (suc n) = omega (arith, sum_most f xs n)

-- the bytes of pages
bytes_of_pages : (xs : List MemoryDef) (n : ℕ) → sum_before (λ (m : MemoryDef). m.reserve * 65536) xs n ≡ sum_before (λ (m : MemoryDef). m.reserve) xs n * 65536
bytes_of_pages xs zero = refl
bytes_of_pages [] (suc n) = refl
bytes_of_pages (x ∷ xs) (suc n) = omega (arith, bytes_of_pages xs n)

-- few pages have few bytes
few_bytes : (bytes pages most : ℕ) → bytes ≡ pages * 65536 → pages ≤ most → most ≤ 1024 → bytes < 2 ^ 63
few_bytes bytes pages most e le small = omega arith

-- an access that ends before the next memory ends in the space
ends_within : (from address offset width next whole long : ℕ) → from + (address + (offset + width)) ≤ next → next ≤ whole → long ≡ whole → from + (address + offset) + width ≤ long
ends_within from address offset width next whole long h le e = omega arith

module _ (program : Program) (s : Plain) (r : IsReached program s) where
  long : length s.space ≡ room program.memories
  long = space_long program r.facts r.rules r.function r.start r.start_fits r.steps s r.comes

  small : length s.space < 2 ^ 63
  small = few_bytes (length s.space) (sum_before (λ (m : MemoryDef). m.reserve) program.memories (length program.memories)) (limit_of quantity.Reserve)
      (long ∙ bytes_of_pages program.memories (length program.memories)) r.rules.rule1.total (omega arith)

  within_by : (memory offset : ℕ) (kind : AccessKind) (a : Operand) → IsInside program s (record { address = a; memory = memory; bytes = offset + width_of kind }) → IsWithin program s kind memory offset a
  within_by memory offset kind a h = record {
    ends = ends_within (base program memory) (value_of program a s % 2 ^ 32) offset (width_of kind) (base program (suc memory)) (room program.memories) (length s.space) h.space
        (sum_most (λ (m : MemoryDef). m.reserve * 65536) program.memories (suc memory)) long;
    small = small;
  }

  pub lies_within : (command : Command) → command_at program s.position ≡ Some command → LiesWithin program s command
  lies_within (Load mark kind memory x offset a) e =
      within_by memory offset kind a (inside program r.facts r.rules s (whole program r.facts r.rules s r) (Load mark kind memory x offset a) e)
  lies_within (Store kind memory offset a b) e =
      within_by memory offset kind a (inside program r.facts r.rules s (whole program r.facts r.rules s r) (Store kind memory offset a b) e)
  lies_within (Set mark op x a b c) e = tt
  lies_within (Test a one other) e = tt
  lies_within (Jump to) e = tt
  lies_within (Arg mark function index a) e = tt
  lies_within (Call function) e = tt
  lies_within (Out mark index a) e = tt
  lies_within Ret e = tt
  lies_within (Trap kind) e = tt

-- a run along chosen commands from a state that a run of a well-formed program reaches is one along selected commands
pub runs_within : (program : Program) (e : Selection) (code : List Instruction) (n : ℕ) (s t : Plain) → IsReached program s → RunsChosen program e code n s t → RunsSelected program e code n s t
runs_within program e code zero s t r run = run
runs_within program e code (suc n) s t r run =
    let next = run.0 in
    let chosen = run.2 in
    let comes : StepsTo (plain_step program) (r.steps + 1) (opening program r.function r.start) next =
    comes_then (plain_step program) r.steps 1 (opening program r.function r.start) s next r.comes (next, run.1, refl) in
    let reached : IsReached program next = record { facts = r.facts; rules = r.rules; function = r.function; start = r.start; start_fits = r.start_fits; steps = r.steps + 1; comes = comes } in
    (next, run.1, record { chosen = chosen; within = lies_within program s r chosen.command chosen.is }, runs_within program e code n next t reached run.3)
