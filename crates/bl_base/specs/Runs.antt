-- Runs of a machine that steps from one configuration to the next, until it ends.
use Rattle.std.specs.Prelude.{◌≡◌, ◌≤◌, ℕ, zero, suc, List, map, Option, Some, None}
use Rattle.bl_base.specs.declared.run.Pages.{Pages}
use Rattle.bl_base.specs.declared.run.Run.{Run}
use Rattle.bl_base.specs.declared.run.Run.TheVariants as run
use Rattle.bl_base.specs.declared.trap.Trap.{Trap}

-- a memory: its pages of 65,536 bytes, and its bytes
pub record MemoryState : Type 0 where
  pub pages : ℕ
  pub bytes : List ℕ

-- how a run ends: with values or by a trap, and with each memory
pub data Outcome : Type 0 where
  returned : (values : List ℕ) → (memories : List MemoryState) → Outcome
  trapped : (kind : Trap) → (memories : List MemoryState) → Outcome

-- one step: to a configuration, or to the run's end; or there is none
pub data Next (C : Type 0) : Type 0 where
  goes : C → Next C
  ends : Outcome → Next C
  stuck : Next C

-- there is a step
abbrev pub HasStep : {C : Type 0} → Next C → Type 0
HasStep (goes c) = Unit {0}
HasStep (ends outcome) = Unit {0}
HasStep stuck = ⊥

module _ {C : Type 0} (step : C → Next C) where
  -- the run from a configuration comes to another one in exactly so many steps
  abbrev pub StepsTo : ℕ → C → C → Type 0
  StepsTo zero c d = c ≡ d
  StepsTo (suc n) c d = (next : C) × (step c ≡ goes next) × StepsTo n next d

  -- the run from a configuration ends with that outcome after exactly so many steps, the last included
  pub data EndsAfter : ℕ → C → Outcome → Type 0 where
    last : (c : C) (o : Outcome) → step c ≡ ends o → EndsAfter 1 c o
    more : (n : ℕ) (c d : C) (o : Outcome) → step c ≡ goes d → EndsAfter n d o → EndsAfter (suc n) c o

-- ---- what is told of a run that was given so many steps

-- a memory as a run's end has it
abbrev pub memory_of : Pages → MemoryState
memory_of pages = record { pages = pages.pages; bytes = pages.bytes }

-- the outcome that an answer tells; none where the steps were spent
abbrev pub outcome_of : Run → Option Outcome
outcome_of (run.Returned values memories) = Some (returned values (map memory_of memories))
outcome_of (run.Trapped kind memories) = Some (trapped kind (map memory_of memories))
outcome_of run.Spent = None

-- of runs that end with an outcome after so many steps: one ends so within that many, or none does
abbrev pub IsWithin : (ℕ → Outcome → Type 0) → ℕ → Option Outcome → Type 0
IsWithin ends_with steps (Some outcome) = (n : ℕ) × ends_with n outcome × (n ≤ steps)
IsWithin ends_with steps None = (n : ℕ) (outcome : Outcome) → ends_with n outcome → n ≤ steps → ⊥

-- an answer that is true of these runs: the outcome within so many steps, and `Spent` exactly where there is none
abbrev pub AnswersRun : (ℕ → Outcome → Type 0) → ℕ → Run → Type 0
AnswersRun ends_with steps answer = IsWithin ends_with steps (outcome_of answer)
