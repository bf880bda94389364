-- What other protects leave as it was.
use Rattle.std.proofs.Common.{◌≡◌, ℕ, zero, suc, ◌+◌, Bool, List, [], ◌∷◌, length, Some, slice_get, refl, ap, ◌∙◌, arith}
use Rattle.std.specs.Prelude.{option_map}
use Rattle.std.proofs.Math.Path.{fun_ext}
use Rattle.bl_base.specs.Runs.{Outcome}
use Rattle.bl_base.specs.declared.start.Start.{Start}
use Rattle.bl_program.specs.Layout.{command_at}
use Rattle.bl_program.specs.Outcomes.{plain}
use Rattle.bl_program.specs.declared.command.Command.{Command}
use Rattle.bl_program.specs.declared.command.Command.TheVariants.{Set}
use Rattle.bl_program.specs.declared.definitions.ProgramParts.{ProgramParts as Program}
use Rattle.bl_cut.proofs.Remarked.{remarked, run_same as remarked_run, run_back as run_remarked}
use Rattle.bl_cut.specs.Marks.{guarded, marked, marked_from, protected}

-- ---- what stands at a position

pub marked_at : (set : ℕ → Bool) (i : ℕ) (commands : List Command) (k : ℕ) → slice_get (marked_from set i commands) k ≡ option_map (marked (set (i + k))) (slice_get commands k)
marked_at set i [] k = refl
marked_at set i (command ∷ commands) zero = let same : i ≡ i + 0 = omega arith in ap (λ j. Some (marked (set j) command)) same
marked_at set i (command ∷ commands) (suc k) =
    let same : suc i + k ≡ i + suc k = omega arith in
    marked_at set (suc i) commands k ∙ ap (λ j. option_map (marked (set j)) (slice_get commands k)) same

pub marked_length : (set : ℕ → Bool) (i : ℕ) (commands : List Command) → length (marked_from set i commands) ≡ length commands
marked_length set i [] = refl
marked_length set i (command ∷ commands) = ap suc (marked_length set (suc i) commands)

pub command_is : (set : ℕ → Bool) (program : Program) (s : ℕ) → command_at (protected set program) s ≡ option_map (marked (set s)) (command_at program s)
command_is set program s = marked_at set 0 program.commands s ∙ ap (λ j. option_map (marked (set j)) (command_at program s)) (omega arith)

marked_is : (b : Bool) (command : Command) → marked b command ≡ remarked (guarded b) command
marked_is b (Set mark op to a c d) = refl
marked_is b _ = refl

pub alike : (set : ℕ → Bool) (program : Program) (s : ℕ) → command_at (protected set program) s ≡ option_map (remarked (guarded (set s))) (command_at program s)
alike set program s = command_is set program s ∙ ap (λ (mark : Command → Command). option_map mark (command_at program s)) (fun_ext (marked_is (set s)))

-- ---- protects change no plain run

module _ (set : ℕ → Bool) (program : Program) (function : ℕ) (start : Start) (steps : ℕ) (outcome : Outcome) where
  pub run_same : plain (protected set program) function start steps outcome → plain program function start steps outcome
  run_same = remarked_run program (marked_from set 0 program.commands) program.weights (λ s. guarded (set s)) (alike set program) function start steps outcome

  pub run_back : plain program function start steps outcome → plain (protected set program) function start steps outcome
  run_back = run_remarked program (marked_from set 0 program.commands) program.weights (λ s. guarded (set s)) (alike set program) function start steps outcome
