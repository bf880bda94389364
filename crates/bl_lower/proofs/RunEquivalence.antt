-- Source runs and plain runs end alike.
use Rattle.std.proofs.Common.{◌≡◌, ℕ, ◌*◌, ◌≤◌, List, [], ◌∷◌, ◌++◌, drop, reverse, ap, ◌∙◌, subst, arith}
use Rattle.std.specs.List.{All, AllZip}
use Rattle.std.proofs.lemmas.List.{reverse-append}
use Rattle.bl_base.specs.Runs.{Outcome, Next, EndsAfter, goes, ends, stuck}
use Rattle.bl_base.specs.declared.names.ValueType.{ValueType}
use Rattle.bl_base.proofs.RunLemmas.{Simulates, Follows, forward, backward}
use Rattle.bl_ops.specs.Access.{access_type}
use Rattle.bl_wasm.specs.Linked.{IsFunction, HasImmediates}
use Rattle.bl_reduce.specs.Runnable.{IsRunnable}
use Rattle.bl_wasm.specs.Typing.{Context, Open, Types, integer}
use Rattle.bl_wasm.specs.declared.instruction.Instr.{Instr}
use Rattle.bl_wasm.specs.declared.instruction.Instr.TheVariants.{If, BrIf, BrTable, CallIndirect, Load, Store, MemoryGrow}
use Rattle.bl_wasm.specs.declared.types.WasmType.{WasmType}
use Rattle.bl_wasm.specs.declared.types.WasmType.TheVariants.{I32}
use Rattle.bl_wasm.specs.declared.linked.Tree.{Tree}
use Rattle.bl_reduce.proofs.Places.{behind_item}
use Rattle.bl_reduce.specs.Configurations.{Config, entering, running}
use Rattle.bl_reduce.specs.Steps.{source_step}
use Rattle.bl_reduce.specs.TypedConfigurations.{IsTyped, IsTypedStep, IsValue}
use Rattle.bl_reduce.proofs.Soundness.{preservation, progress, drop_head}
use Rattle.bl_base.proofs.Lists.{all_get}
use Rattle.bl_program.specs.Steps.{Plain}
use Rattle.bl_lower.proofs.Machine.{Program, plain_step}
use Rattle.bl_lower.proofs.MatchStates.{IsProgram, Matches}
use Rattle.bl_lower.proofs.BranchSteps.{IsSmall}
use Rattle.bl_lower.proofs.Frames.{Reaches}
use Rattle.bl_lower.proofs.Simulation.{Tested, Immediate, TestedIn, step_reaches}

-- an i32 is topmost
topmost : (stack lower types : List WasmType) (values : List ℕ) → stack ≡ lower ++ (types ++ I32 ∷ []) → AllZip IsValue (reverse stack) values → IsSmall values
topmost stack lower types [] e h = tt
topmost stack lower types (v ∷ vs) e h =
    (subst (λ turned. AllZip IsValue turned (v ∷ vs)) (ap reverse e ∙ reverse-append lower (types ++ I32 ∷ []) ∙ ap (λ l. l ++ reverse lower) (reverse-append types (I32 ∷ []))) h).0

-- an i32 is below the topmost
second : (stack lower : List WasmType) (type : WasmType) (values : List ℕ) → stack ≡ lower ++ (I32 ∷ type ∷ []) → AllZip IsValue (reverse stack) values → IsSmall (drop 1 values)
second stack lower type [] e h = tt
second stack lower type (v ∷ []) e h = tt
second stack lower type (v ∷ w ∷ vs) e h =
    (subst (λ turned. AllZip IsValue turned (v ∷ w ∷ vs)) (ap reverse e ∙ reverse-append lower (I32 ∷ type ∷ [])) h).1.0

module _ (c : Context) where
  tested : (open_ones : List Open) (items : List Instr) (stack : List WasmType) (later : List (List WasmType)) (values : List ℕ) → Types c open_ones items (stack ∷ later)
      → AllZip IsValue (reverse stack) values → Tested items values
  tested open_ones [] stack later values h all = tt
  tested open_ones (If r ∷ items) stack later values h all = let b = (behind_item c (If r) items open_ones stack later h).rule in topmost stack b.lower b.type.params values b.before all
  tested open_ones (BrIf l ∷ items) stack later values h all = let b = (behind_item c (BrIf l) items open_ones stack later h).rule in topmost stack b.rule.2.lower b.rule.0 values b.rule.2.before all
  tested open_ones (BrTable default ls ∷ items) stack later values h all = let b = (behind_item c (BrTable default ls) items open_ones stack later h).rule in topmost stack b.rule.2.lower b.rule.0 values b.rule.2.before all
  tested open_ones (Load kind argument ∷ items) stack later values h all = let b = (behind_item c (Load kind argument) items open_ones stack later h).rule in topmost stack b.rule.3.lower [] values b.rule.3.before all
  tested open_ones (Store kind argument ∷ items) stack later values h all = let b = (behind_item c (Store kind argument) items open_ones stack later h).rule in second stack b.rule.3.lower (integer (access_type kind)) values b.rule.3.before all
  tested open_ones (MemoryGrow ∷ items) stack later values h all = let b = (behind_item c MemoryGrow items open_ones stack later h).rule in topmost stack b.rule.1.lower [] values b.rule.1.before all
  tested open_ones (CallIndirect i ∷ items) stack later values h all = let b = (behind_item c (CallIndirect i) items open_ones stack later h).rule in topmost stack b.rule.3.lower b.rule.0.params values b.rule.3.before all
  tested open_ones (item ∷ items) stack later values h all = tt

module _ (tree : Tree) (linked : IsRunnable tree) (program : Program) (bound : ℕ) (is : IsProgram tree program bound) (some : 1 ≤ bound) (results : List ValueType) where
  -- a configuration that is typed, and a plain state that stands for it
  abbrev pub Meets : Config → Plain → Type 0
  Meets config s = IsTyped tree results config × Matches program bound config s

  tested_in : (config : Config) → IsTyped tree results config → TestedIn tree program bound is some config
  tested_in (entering store number arguments callers) h = tt
  tested_in (running state) h =
      let function : IsFunction tree state.frame.function = all_get (IsFunction tree) tree.functions state.frame.number state.frame.function linked.functions h.frame_is.exists in
      (tested _ h.open_ones state.frame.rest h.stack h.begins.later state.frame.values h.begins.typing h.frame_is.values, immediate state.frame.function.code.items h.begins.place state.frame.rest h.begins.left function.immediates, h.frame_is.exists)
    where
      immediate : (items : List Instr) (place : ℕ) (rest : List Instr) → rest ≡ drop place items → All HasImmediates items → Immediate rest
      immediate items place [] e all = tt
      immediate items place (item ∷ rest) e all = all_get HasImmediates items place item all (drop_head items place item rest e)

  follows : (next : Next Config) (s : Plain) → IsTypedStep tree results next → Reaches tree program bound 0 next s → Follows (source_step tree) (plain_step program) bound Meets next s
  follows (goes config) s typed h = (h.0, h.1, h.2, omega (arith, h.3), h.4, (typed, h.5))
  follows (ends o) s typed h = (h.0, h.1, omega (arith, h.2), h.3)
  follows stuck s typed h = absurd h

  pub simulates : Simulates (source_step tree) (plain_step program) bound Meets
  simulates config s h =
      follows (source_step tree config) s (preservation tree linked results config h.0)
      (step_reaches tree program bound is some config s h.1 (tested_in config h.0) (progress tree linked results config h.0))

  pub plain_follows : (n : ℕ) (config : Config) (s : Plain) (o : Outcome) → Meets config s → EndsAfter (source_step tree) n config o
      → (m : ℕ) × EndsAfter (plain_step program) m s o × (n ≤ m) × (m ≤ bound * n)
  plain_follows n config s o h r = forward (source_step tree) (plain_step program) bound Meets simulates n config s o h r

  pub source_follows : (m : ℕ) (config : Config) (s : Plain) (o : Outcome) → Meets config s → EndsAfter (plain_step program) m s o
      → (n : ℕ) × EndsAfter (source_step tree) n config o × (n ≤ m) × (m ≤ bound * n)
  source_follows m config s o h r = backward (source_step tree) (plain_step program) bound Meets simulates m config s o h r
