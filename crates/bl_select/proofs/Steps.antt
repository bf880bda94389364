-- Instructions that run are steps of the machine where they stand in a program.
use Rattle.std.proofs.Common.{◌≡◌, ℕ, suc, ◌+◌, ◌<◌, ◌≤◌, Some, List, [], ◌∷◌, length, slice_get, refl, ap, ◌∙◌, subst, arith}
use Rattle.std.proofs.lemmas.Option.{none-some, same_Some}
use Rattle.bl_base.specs.Runs.{goes, StepsTo}
use Rattle.bl_x64.specs.Machines.{Areas, Core, Effect, goes_on, jumps, calls, returns, faults, effect}
use Rattle.bl_x64.specs.Programs.{Machine, after, perform, machine_step}
use Rattle.bl_x64.specs.declared.instruction.Instruction.{Instruction}
use Rattle.bl_select.specs.StraightRuns.{Stands, next, runs}

abbrev pub standing : ℕ → Core → Machine
standing position c = record { position = position; core = c }

-- one step
pub one_step : (areas : Areas) (code : List Instruction) (at : ℕ) (i : Instruction) (c d : Core) → slice_get code at ≡ Some i → effect areas i c ≡ goes_on d
    → machine_step areas code (standing at c) ≡ goes (standing (suc at) d)
one_step areas code at i c d e is = ap (λ o. perform areas (length code + 2) o (standing at c)) e ∙ ap (after areas (length code + 2) (suc at)) is

-- a jump
pub one_jump : (areas : Areas) (code : List Instruction) (at to : ℕ) (i : Instruction) (c d : Core) → slice_get code at ≡ Some i → effect areas i c ≡ jumps to d
    → machine_step areas code (standing at c) ≡ goes (standing to d)
one_jump areas code at to i c d e is = ap (λ o. perform areas (length code + 2) o (standing at c)) e ∙ ap (after areas (length code + 2) (suc at)) is

pub steps_of : (areas : Areas) (code : List Instruction) (xs : List Instruction) (at : ℕ) (c d : Core) → Stands code at xs → runs areas xs c ≡ Some d
    → StepsTo (machine_step areas code) (length xs) (standing at c) (standing (length xs + at) d)
steps_of areas code [] at c d h e =
    let none : at ≡ 0 + at = omega arith in
    ap (λ p. standing p c) none ∙ ap (λ k. standing (0 + at) k) (same_Some c d e)
steps_of areas code (i ∷ xs) at c d h e = by_effect (effect areas i c) (λ b r. steps_of areas code xs (suc at) b d h.1 r) refl e
  where
    by_effect : (x : Effect) → ((b : Core) → runs areas xs b ≡ Some d → StepsTo (machine_step areas code) (length xs) (standing (suc at) b) (standing (length xs + suc at) d))
        → effect areas i c ≡ x → next x (runs areas xs) ≡ Some d → StepsTo (machine_step areas code) (suc (length xs)) (standing at c) (standing (suc (length xs) + at) d)
    by_effect (goes_on b) more is r =
        let place : length xs + suc at ≡ suc (length xs) + at = omega arith in (
          standing (suc at) b,
          one_step areas code at i c b h.0 is,
          subst (λ p. StepsTo (machine_step areas code) (length xs) (standing (suc at) b) (standing p d)) place (more b r),
        )
    by_effect (jumps to b) more is r = absurd (none-some d r)
    by_effect (calls to b) more is r = absurd (none-some d r)
    by_effect (returns address b) more is r = absurd (none-some d r)
    by_effect faults more is r = absurd (none-some d r)
