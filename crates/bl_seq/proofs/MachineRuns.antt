-- Steps of the machine, and runs of them.
use Rattle.std.proofs.Common.{◌≡◌, ℕ, ◌+◌, ◌<◌, List, refl, sym, ap, subst, arith}
use Rattle.std.specs.Prelude.{IfOk, Result, Ok, Err}
use Rattle.std.proofs.Math.Path.{fun_ext}
use Rattle.bl_base.specs.Runs.{Outcome, Next, goes, ends, stuck, StepsTo, EndsAfter, last, more, IsWithin, AnswersRun, outcome_of}
use Rattle.bl_base.specs.declared.run.Run.{Run}
use Rattle.bl_base.specs.declared.start.Start.{Start}
use Rattle.bl_base.proofs.RunLemmas.{comes_then, comes_to_end, run_after, run_pos}
use Rattle.bl_program.specs.Outcomes.{IsStart, opening, plain}
use Rattle.bl_program.specs.Steps.{Plain, plain_step}
use Rattle.bl_program.specs.declared.definitions.ProgramParts.{ProgramParts as Program}
use Rattle.bl_seq.specs.RegisterTrees.{File, register_at}
use Rattle.bl_seq.specs.Machines.{RunsTo, next_of, told}
use Rattle.bl_seq.specs.declared.state.Progress.{Progress}

-- a state where registers have the same numbers
abbrev pub state_of : ℕ → List ℕ → List ℕ → (ℕ → ℕ → ℕ) → Plain
state_of position chain space registers = record { position = position; chain = chain; registers = registers; space = space }

pub shown_same : (position : ℕ) (chain space : List ℕ) (old new : File) → ((d v : ℕ) → register_at new d v ≡ register_at old d v)
    → state_of position chain space (λ d v. register_at new d v) ≡ state_of position chain space (λ d v. register_at old d v)
shown_same position chain space old new e = ap (λ r. state_of position chain space r) (fun_ext (λ d. fun_ext (λ v. e d v)))

module _ (program : Program) (from : Plain) where
  -- so many steps and one more
  pub goes_on : (n : ℕ) (s t : Plain) → StepsTo (plain_step program) n from s → plain_step program s ≡ goes t → StepsTo (plain_step program) (n + 1) from t
  goes_on n s t comes e = comes_then (plain_step program) n 1 from s t comes (t, e, refl)

  pub has_ended : (n steps : ℕ) (s : Plain) (outcome : Outcome) → StepsTo (plain_step program) n from s → plain_step program s ≡ ends outcome → n < steps
      → RunsTo program from steps (ends outcome)
  has_ended n steps s outcome comes e lt = (n + 1, comes_to_end (plain_step program) n 1 from s outcome comes (last s outcome e), omega arith)

  no_end : (k : ℕ) (s : Plain) (outcome : Outcome) → plain_step program s ≡ stuck → EndsAfter (plain_step program) k s outcome → ⊥
  no_end k s outcome e (last _ _ f) = cc
  no_end k s outcome e (more n _ d _ f r) = cc

  pub is_stuck : (n steps : ℕ) (s : Plain) → StepsTo (plain_step program) n from s → plain_step program s ≡ stuck → RunsTo program from steps stuck
  is_stuck n steps s comes e m outcome r le = let rest = run_after (plain_step program) n m from s outcome comes r in no_end rest.0 s outcome e rest.2

-- what is told of what was come to
module _ (program : Program) (function : ℕ) (start : Start) (steps : ℕ) (fits : IsStart program function start) where
  within : (next : Next Plain) → RunsTo program (opening program function start) steps next → IsWithin (plain program function start) steps (told next)
  within (goes s) comes = λ n outcome run le.
      let rest = run_after (plain_step program) steps n (opening program function start) s outcome comes run.run in
      let one = run_pos (plain_step program) rest.0 s outcome rest.2 in
      let all = rest.1 in
      omega arith
  within (ends outcome) leads = (leads.0, record { start_fits = fits; run = leads.1 }, leads.2)
  within stuck leads = λ n outcome run le. leads n outcome run.run le

  pub answered : (next : Next Plain) (run : Run) → RunsTo program (opening program function start) steps next → outcome_of run ≡ told next → AnswersRun (plain program function start) steps run
  answered next run leads e = subst (λ o. IsWithin (plain program function start) steps o) (sym e) (within next leads)

-- the answer on a run, where the parts that were run are the program's
pub told_run : (program : Program) (function : ℕ) (start : Start) (steps : ℕ) (fits : IsStart program function start) {E : Type 0} (r : Result Run E)
    (parts : Program) (opened ended : Plain) (progress : Progress) → parts ≡ program → opened ≡ opening parts function start
    → RunsTo parts opened steps (next_of parts progress ended) → IfOk r (λ run. outcome_of run ≡ told (next_of parts progress ended))
    → IfOk r (λ run. AnswersRun (plain program function start) steps run)
told_run program function start steps fits (Ok run) parts opened ended progress same at_start leads e =
    let led : RunsTo program (opening program function start) steps (next_of parts progress ended) =
    subst (λ p. RunsTo p (opening p function start) steps (next_of parts progress ended)) same
    (subst (λ o. RunsTo parts o steps (next_of parts progress ended)) at_start leads) in
    answered program function start steps fits (next_of parts progress ended) run led e
told_run program function start steps fits (Err y) parts opened ended progress same at_start leads e = tt
