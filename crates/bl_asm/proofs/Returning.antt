-- A call, and a return at its target, come back behind the call.
use Rattle.std.proofs.Common.{◌≡◌, ℕ, suc, ◌+◌, ◌-◌, ◌%◌, ◌^◌, ◌<◌, ◌≤◌, IsTrue, Some, None, cond, slice_get, List, length, refl, ap, ◌∙◌, arith}
use Rattle.bl_base.specs.Bytes.{number_of, bytes_of}
use Rattle.bl_base.specs.Runs.{goes, StepsTo}
use Rattle.bl_x64.specs.Machines.{Areas, Core, returns, by, bytes_at, is_allowed, popped, pushed_at, written}
use Rattle.bl_x64.specs.Programs.{Machine, after, came_back, entered, machine_step, perform, position_of}
use Rattle.bl_x64.specs.Registers.{put}
use Rattle.bl_x64.specs.declared.instruction.Instruction.{Instruction}
use Rattle.bl_x64.specs.declared.instruction.Instruction.TheVariants.{Call, Ret}
use Rattle.bl_x64.specs.declared.register.Register.{Register}
use Rattle.bl_x64.specs.declared.register.Register.TheVariants.{Rax, Rcx, Rdx, Rbx, Rsp, Rbp, Rsi, Rdi, R8, R9, R10, R11, R12, R13, R14, R15}
use Rattle.bl_x64.proofs.MemoryLemmas.{number_written, written_outside}
use Rattle.bl_asm.specs.ByteMachines.{HasHost, HasPlaces}
use Rattle.bl_asm.specs.Returns.{IsBack}
use Rattle.bl_asm.proofs.Addresses.{address_found}
use Rattle.bl_asm.proofs.Places.{is_within, place_within}

module _ (areas : Areas) (code : List Instruction) (at : HasPlaces areas code) (away : HasHost areas code) (position to : ℕ) (c : Core) (calls_to : slice_get code position ≡ Some (Call to))
    (returns_there : slice_get code to ≡ Some Ret) (allowed : IsTrue (is_allowed areas (pushed_at c) 8)) (small : c.registers Rsp < 2 ^ 64) where
  abbrev count : ℕ
  count = length code + 2

  abbrev back : ℕ
  back = areas.starts (suc position)

  abbrev standing : ℕ → Core → Machine
  standing k core = record { position = k; core = core }

  -- the state at the target
  abbrev called : Core
  called = record { registers = put c.registers Rsp (pushed_at c); flags = c.flags; memory = written c.memory (pushed_at c) (bytes_of 8 back) }

  within : suc position ≤ length code
  within = omega (arith, is_within code position (Call to) calls_to)

  back_small : back < 256 ^ 8
  back_small = omega (arith, at.each (suc position) within, at.below, place_within code (suc position) within)

  first : machine_step areas code (standing position c) ≡ goes (standing to called)
  first = ap (λ o. perform areas count o (standing position c)) calls_to ∙ ap (λ t. entered to (cond t (Some called) None)) allowed

  second : machine_step areas code (standing to called) ≡ goes (standing (suc position) (popped called))
  second =
      let number = number_of (bytes_at called.memory (pushed_at c) 8) in
      let same : number ≡ back = number_written c.memory (pushed_at c) 8 back back_small in
      ap (λ o. perform areas count o (standing to called)) returns_there
      ∙ ap (λ t. after areas count (suc to) (by (cond t (Some number) None) (λ address. returns address (popped called)))) allowed
      ∙ ap (λ address. came_back (position_of areas.starts count address) (popped called)) same
      ∙ ap (λ o. came_back o (popped called)) (address_found areas code at away (suc position) (omega (arith, within)))

  registers_back : (r : Register) → (popped called).registers r ≡ c.registers r
  registers_back Rsp = omega (arith, small)
  registers_back Rax = refl
  registers_back Rcx = refl
  registers_back Rdx = refl
  registers_back Rbx = refl
  registers_back Rbp = refl
  registers_back Rsi = refl
  registers_back Rdi = refl
  registers_back R8 = refl
  registers_back R9 = refl
  registers_back R10 = refl
  registers_back R11 = refl
  registers_back R12 = refl
  registers_back R13 = refl
  registers_back R14 = refl
  registers_back R15 = refl

  pub comes_back : (d : Core) × StepsTo (machine_step areas code) 2 (standing position c) (standing (suc position) d) × IsBack c d
  comes_back = (
    popped called,
    (standing to called, first, (standing (suc position) (popped called), second, refl)),
    record {
      registers = registers_back;
      flags = refl;
      memory = λ address outside. written_outside c.memory (pushed_at c) address (bytes_of 8 back) outside;
    },
  )
