-- `forward`: its job, and what is said where it is done.
use Rattle.std.specs.Prelude.{◌≡◌, ◌↔◌, ℕ, Bool, true, false, IsTrue, List, ◌++◌, codes}
use Rattle.bl_program.specs.declared.definitions.ProgramParts.{ProgramParts as Program}
use Rattle.bl_forward.specs.ForwardMachines.{HasEqualForwarding, forward_step, observed_forwarding}
use Rattle.bl_forward.specs.SightTexts.{are_same, seen_text}
use Rattle.bl_forward.specs.Verdicts.{AssessesForward}
use Rattle.bl_forward.specs.declared.seen.Seen.{Seen}
use Rattle.bl_sct.specs.declared.verdict.Verdict.{Verdict}
use Rattle.bl_sct.specs.declared.verdict.Verdict.TheVariants.{Safe, NotConstantTime, NotStable}
use Rattle.bl_graph.specs.Labels.{ConstantTime}
use Rattle.bl_outcome.specs.Lines.{line}
use Rattle.bl_rob.specs.Observations.{Observed}
use Rattle.bl_sct.specs.OtherSecrets.{HidesGlobalsBy}
use Rattle.bl_sct.specs.Verdicts.{IsStable}
use Rattle.bl_twin.specs.TwinComparisons.{TellsBy, agreement_text, comparison_by, twin_text_by}
use Rattle.bl_twin.specs.declared.comparison.Comparison.{Comparison}
use Rattle.bl_words.specs.Requests.{TwinRequest}
use Rattle.bl_app.specs.TwinJob.{StartsAgree, twin_staged, twin_status}
use Rattle.bl_build.specs.TraceStages.{Twinned, entry_of}
use Rattle.bl_job.specs.Jobs.{Plan, saying}
use Rattle.bl_job.specs.StagedJobs.{Staged}
use Rattle.bl_job.specs.declared.status.Status.TheVariants.{No}

-- ---- what is observed

-- what is observed of the directives from the first start, where stores are forwarded and the buffer has room for 32 entries
abbrev pub forwarded_of : Twinned → Observed Seen
forwarded_of twinned =
    observed_forwarding 32 (entry_of twinned).program (entry_of twinned).function twinned.speculated.entered.start twinned.speculated.directives

-- from the other start
abbrev pub other_forwarded : Twinned → Observed Seen
other_forwarded twinned =
    observed_forwarding 32 (entry_of twinned).program (entry_of twinned).function twinned.other twinned.speculated.directives

-- how the two runs compare
abbrev pub forward_comparison : Twinned → Comparison
forward_comparison twinned = comparison_by are_same (forwarded_of twinned) (other_forwarded twinned)

-- ---- the verdict

-- some labelling keeps the label rules, and the program's own marks pass the transient rules
abbrev pub IsSafe : Program → Type 0
IsSafe program = ConstantTime program × IsStable program

abbrev pub is_verdict_safe : Verdict → Bool
is_verdict_safe Safe = true
is_verdict_safe (NotConstantTime chain) = false
is_verdict_safe (NotStable position) = false

abbrev pub safe_text : Bool → List ℕ
safe_text true = line (codes "safe yes")
safe_text false = line (codes "safe no")

-- ---- the command

-- printing whether the program is safe, whether the starts agree in public, the common observations, and how the runs go on
pub record ForwardPlans (twinned : Twinned) (plan : Plan) : Type 0 where
  pub safe : Bool
  pub is_safe : IsTrue safe ↔ IsSafe (entry_of twinned).program
  pub agree : Bool
  pub agrees : IsTrue agree ↔ StartsAgree twinned
  pub is_plan : plan
      ≡ saying (twin_status (forward_comparison twinned))
      (safe_text safe ++ twin_text_by are_same seen_text agree (forwarded_of twinned) (other_forwarded twinned))

-- a text that begins with another one
abbrev pub BeginsWith : List ℕ → List ℕ → Type 0
BeginsWith front text = (rest : List ℕ) × (text ≡ front ++ rest)

-- the text says what is observed of the two runs, each from its own start, and where they differ. It begins with `safe yes` exactly where any
-- verdict on the program is that it is safe; and there two runs from starts that agree in public are observed alike, whatever the directives and the
-- size of the buffer, also where one of them is of the same program with other first values of its secret globals. Where it begins with `safe yes` and
-- `public agree`, the runs don't differ
pub record ForwardMeans (twinned : Twinned) (plan : Plan) : Type 0 where
  pub tells : TellsBy are_same (forwarded_of twinned) (other_forwarded twinned)
  pub assessed : (verdict : Verdict) → AssessesForward (entry_of twinned).program verdict
      → verdict ≡ Safe ↔ BeginsWith (safe_text true) plan.text
  pub equal : BeginsWith (safe_text true) plan.text → HasEqualForwarding (entry_of twinned).program
  pub hides : BeginsWith (safe_text true) plan.text → HidesGlobalsBy forward_step (entry_of twinned).program
  pub safe : BeginsWith (safe_text true ++ agreement_text true) plan.text → plan.status ≡ No → ⊥

-- the files of `twin` are read, and whether the program is safe and how the runs compare is printed
abbrev pub forward_staged : TwinRequest → Staged Twinned
forward_staged request = record {
  reads = (twin_staged request).reads;
  keeps = (twin_staged request).keeps;
  reading = (twin_staged request).reading;
  Plans = ForwardPlans;
  Means = λ contents. ForwardMeans;
}
