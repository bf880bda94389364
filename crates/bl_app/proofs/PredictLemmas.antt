-- The command `predict` keeps the laws; what is said where it is done; and `spec` follows the trace file that it keeps.
use Rattle.std.proofs.Common.{◌≡◌, ◌↔◌, ◌∙◌, ◌+◌, ◌*◌, ◌^◌, ◌%◌, ◌<◌, ◌≤◌, ◌++◌, append_assoc, ℕ, Bool, true, false, List, [], ◌∷◌, drop, get_or, length, map, Option, Some, None, Ok, slice_get, refl, ap, sym, subst, arith, inl, inr, IsTrue}
use Rattle.std.specs.Fmt.{decimal}
use Rattle.std.specs.List.{All, flat_map}
use Rattle.std.proofs.lemmas.Bool.{false≢true}
use Rattle.std.proofs.lemmas.Fmt.{decimal_by_steps}
use Rattle.std.proofs.lemmas.List.{length-append}
use Rattle.std.proofs.lemmas.List.Elements.{All-head, All-tail, length_all_zip}
use Rattle.std.proofs.Math.Seq.{drop-append_seam}
use Rattle.bl_base.specs.Fits.{Fits}
use Rattle.bl_base.specs.Runs.{Outcome, outcome_of, returned, trapped}
use Rattle.bl_base.specs.declared.start.Start.{Start}
use Rattle.bl_base.proofs.Classical.{either}
use Rattle.bl_text.proofs.LineTexts.{all_read, lines_counted}
use Rattle.bl_text.specs.Lines.{lines_of}
use Rattle.bl_program.specs.Outcomes.{Agree, IsStart, opening as plain_opening}
use Rattle.bl_program.specs.Programs.{IsProgram}
use Rattle.bl_program.specs.Rules.{IsWellFormed}
use Rattle.bl_program.specs.declared.definitions.ProgramParts.{ProgramParts as Program}
use Rattle.bl_predict.specs.Drives.{AreSame, DriveState, IsDriven, begun, driven}
use Rattle.bl_predict.specs.declared.driver.Driven.{Driven}
use Rattle.bl_predict.specs.DriveDirectives.{IsNear, IsTaken}
use Rattle.bl_predict.specs.Outlines.{none as no_entries}
use Rattle.bl_predict.proofs.DrivePairs.{drives_from, driven_same, two_drives}
use Rattle.bl_predict.proofs.EnabledChoices.{each_taken}
use Rattle.bl_rob.specs.CallResults.{outcome_in}
use Rattle.bl_rob.specs.Machines.{State, opening, directive_step}
use Rattle.bl_rob.specs.Observations.{IsConsistent, observed, reached}
use Rattle.bl_rob.specs.declared.directive.Directive.{Directive}
use Rattle.bl_rob.specs.declared.directive.Directive.TheVariants.{Fetch, Predict, Exec, Retire}
use Rattle.bl_rob.proofs.BufferInvariant.{consistent}
use Rattle.bl_rob.proofs.OtherGlobals.{with_globals, step_same, observed_same}
use Rattle.bl_sct.proofs.EqualObservations.{equal}
use Rattle.bl_sct.proofs.OtherSecrets.{hides}
use Rattle.bl_sct.specs.OtherSecrets.{IsOtherGlobal, HasOtherSecrets, HidesGlobals}
use Rattle.bl_sct.specs.Verdicts.{Assesses}
use Rattle.bl_sct.specs.declared.verdict.Verdict.{Verdict}
use Rattle.bl_sct.specs.declared.verdict.Verdict.TheVariants.{Safe, NotConstantTime, NotStable}
use Rattle.bl_trace.proofs.StartFits.{answered_fits}
use Rattle.bl_trace.proofs.WrittenTraces.{no_feeds, reads_back}
use Rattle.bl_trace.specs.Observations.{observation_text}
use Rattle.bl_trace.specs.Traces.{IsWritten, directive_of, directive_text, trace_of, trace_text}
use Rattle.bl_words.specs.Requests.{AreDriveStepsInRange, PredictRequest}
use Rattle.bl_build.specs.EntryStages.{Entered, Entry, Finds, IsImaged, Starts, entering, kinds_of, pages_of}
use Rattle.bl_build.specs.TraceStages.{Speculated, Traced}
use Rattle.bl_job.specs.Jobs.{Plan}
use Rattle.bl_job.specs.Status.{kind_of}
use Rattle.bl_job.proofs.StagedJobLemmas.{IsStagedCommand, one_done}
use Rattle.bl_app.specs.RunJob.{plain_text}
use Rattle.bl_app.specs.ForwardJob.{BeginsWith, IsSafe}
use Rattle.bl_app.specs.Outcomes.{outcome_status}
use Rattle.bl_app.specs.PredictJob.{IsFollowed, PredictMeans, PredictPlans, alike_text, drive_outcome, driven_of, following, met, met_by, met_text, predict_job, predict_plan, predict_staged}
use Rattle.bl_app.specs.SpecJob.{end_text, last_text, seen_of, spec_job, spec_plan, spec_staged, spec_status}
use Rattle.bl_app.proofs.RunLemmas.{deed_of_run, entering_lawful, entering_total}
use Rattle.bl_app.proofs.SpecLemmas.{ended_so, spec_staged_is}
use Rattle.bl_app.proofs.TwinLemmas.{one_bool}

-- ---- one plan

pub one_predict_plan : (steps : ℕ) (word : List ℕ) (entered : Entered) (p q : Plan) → PredictPlans steps word entered p → PredictPlans steps word entered q → p ≡ q
one_predict_plan steps word entered p q h k =
    h.is_plan ∙ ap (predict_plan steps word entered) (one_bool (IsSafe entered.entry.program) h.safe k.safe h.is_safe k.is_safe) ∙ sym k.is_plan

some_predict_plan : (steps : ℕ) (word : List ℕ) (entered : Entered) → ((plan : Plan) → PredictPlans steps word entered plan → ⊥) → ⊥
some_predict_plan steps word entered none =
    either (IsSafe entered.entry.program) (λ cases. elim cases as (λ _. ⊥) [
      | inl safe ↦ none _ (record { safe = true; is_safe = (λ e. safe, λ _. refl); is_plan = refl })
      | inr unsafe ↦ none _ (record { safe = false; is_safe = (λ e. absurd (false≢true e), λ safe. absurd (unsafe safe)); is_plan = refl })
    ])

-- what is planned by what a drive has come to
pub planned_by : (steps : ℕ) (word : List ℕ) (entered : Entered) (driven : Driven) → IsDriven entered.entry.program (driven_of steps entered) driven → (safe : Bool)
    → IsTrue safe ↔ IsSafe entered.entry.program → (plan : Plan)
    → plan
    ≡ (record {
      status = outcome_status (outcome_of driven.run);
      keeps = (word, trace_text driven.trace) ∷ [];
      text = met_by driven ++ alike_text safe ++ plain_text entered steps (outcome_of driven.run);
    })
    → PredictPlans steps word entered plan
planned_by steps word entered driven is safe is_safe plan e = record {
  safe = safe;
  is_safe = is_safe;
  is_plan = e
      ∙ (λ i. record {
        status = outcome_status (is.run i);
        keeps = (word, trace_text (is.trace i)) ∷ [];
        text = met_text (length (is.trace i)) (is.rollbacks i) (is.hits i) (is.misses i) ++ alike_text safe ++ plain_text entered steps (is.run i);
      });
}

-- ---- what is entered

module _ (export start image : List ℕ) (entered : Entered) (prepared : (entering export start).Passes image entered) where
  imaged : IsImaged image prepared.0
  imaged = prepared.1

  entry : Entry
  entry = prepared.2.0

  found : Finds export prepared.0 prepared.2.0
  found = prepared.2.1

  starts : Starts start prepared.2.0 entered
  starts = prepared.2.2

  same_program : prepared.0 ≡ entered.entry.program
  same_program = sym (ap (λ (e : Entry). e.program) starts.same_entry ∙ found.same_program)

  facts : IsProgram entered.entry.program
  facts = subst IsProgram same_program imaged.image.is_program

  rules : IsWellFormed entered.entry.program
  rules = subst IsWellFormed same_program imaged.rules

  fits : IsStart entered.entry.program entered.entry.function entered.start
  fits =
      let exists : slice_get prepared.2.0.program.functions prepared.2.0.function ≡ Some prepared.2.0.defined
      = subst (λ p. slice_get p.functions prepared.2.0.function ≡ Some prepared.2.0.defined) (sym found.same_program) found.defined in
      record {
        defined = entered.entry.defined;
        exists = subst (λ (e : Entry). slice_get e.program.functions e.function ≡ Some e.defined) (sym starts.same_entry) exists;
        fits = subst (λ (e : Entry). Fits (kinds_of e.defined) (pages_of e.program) entered.start) (sym starts.same_entry)
            (answered_fits (kinds_of prepared.2.0.defined) (pages_of prepared.2.0.program) start entered.start starts.read);
      }

-- ---- what is meant

says_yes : (safe : Bool) (behind rest : List ℕ) → alike_text safe ++ behind ≡ alike_text true ++ rest → safe ≡ true
says_yes true behind rest e = refl
says_yes false behind rest e = let differs = ap (λ l. get_or l 6 0) e in absurd (omega (arith, differs))

says_behind : (front : List ℕ) (safe : Bool) (behind rest : List ℕ) → front ++ alike_text safe ++ behind ≡ front ++ alike_text true ++ rest → safe ≡ true
says_behind front safe behind rest e =
    says_yes safe behind rest
    (sym (drop-append_seam front (alike_text safe ++ behind))
    ∙ ap (drop (length front)) (sym (append_assoc front (alike_text safe) behind) ∙ e ∙ append_assoc front (alike_text true) rest)
    ∙ drop-append_seam front (alike_text true ++ rest))

module _ (steps : ℕ) (word : List ℕ) (entered : Entered) (plan : Plan) (h : PredictPlans steps word entered plan) where
  abbrev drive : DriveState
  drive = driven_of steps entered

  abbrev Alike : Type 0
  Alike = BeginsWith (met (driven_of steps entered) ++ alike_text true) plan.text

  text_is : plan.text ≡ met (driven_of steps entered) ++ alike_text h.safe ++ plain_text entered steps (drive_outcome steps entered)
  text_is = ap (λ p. p.text) h.is_plan

  safe_by : Alike → IsSafe entered.entry.program
  safe_by begins =
      h.is_safe.0 (says_behind (met (driven_of steps entered)) h.safe (plain_text entered steps (drive_outcome steps entered)) begins.0 (sym text_is ∙ begins.1))

  alike_by : IsSafe entered.entry.program → Alike
  alike_by safe =
      (_, text_is ∙ ap (λ a. met (driven_of steps entered) ++ alike_text a ++ plain_text entered steps (drive_outcome steps entered)) (h.is_safe.1 safe))

  assessed_so : (verdict : Verdict) → Assesses entered.entry.program verdict → verdict ≡ Safe ↔ Alike
  assessed_so Safe a = (λ e. alike_by (a.0, a.1), λ begins. refl)
  assessed_so (NotConstantTime chain) a = (λ e. absurd cc, λ begins. absurd (a.1 (safe_by begins).0))
  assessed_so (NotStable position) a = (λ e. absurd cc, λ begins. absurd (a.passes_not (safe_by begins).1))

-- what was taken of a drive
taken : (steps : ℕ) (entered : Entered) → IsTaken entered.entry.program entered.entry.function entered.start steps (driven_of steps entered)
taken steps entered = each_taken entered.entry.program entered.entry.function entered.start steps

-- a drive of the same program with other first values of secret globals
hidden_drive : (program : Program) → HidesGlobals program → (other : Program) → HasOtherSecrets program other → (function : ℕ) (a b : Start) → Agree program function a b → (most : ℕ)
    → AreSame (driven program most (begun program function a)) (driven other most (begun other function b))
hidden_drive program hidden other differs function a b agree most =
    let same = sym (length_all_zip IsOtherGlobal program.globals other.globals differs.globals) in
    let beside = with_globals program other.globals same in
    let step : (s : State) (d : Directive) → directive_step 64 beside s d ≡ directive_step 64 program s d = step_same program other.globals same 64 in
    let future : (directives : List Directive) → observed 64 program function a directives ≡ observed 64 beside function b directives =
    subst (λ p. (directives : List Directive) → observed 64 program function a directives ≡ observed 64 p function b directives) differs.is
    (λ directives. (hidden other differs 64 (omega arith) (omega arith) function directives a b agree).observed) in
    subst (λ p. AreSame (driven program most (begun program function a)) (driven p most (begun p function b))) (sym differs.is)
    (subst (λ d. AreSame (driven program most (begun program function a)) d) (sym (driven_same beside program step most (begun beside function b)))
    (drives_from program (opening program function a) (opening beside function b) (record { entries = no_entries; front = refl })
    (λ directives. future directives ∙ observed_same (directive_step 64 beside) (directive_step 64 program) step 1 directives (opening beside function b)) most))

predict_means : (export start image : List ℕ) (steps : ℕ) (word : List ℕ) (entered : Entered) → (entering export start).Passes image entered → (plan : Plan)
    → PredictPlans steps word entered plan → PredictMeans steps entered plan
predict_means export start image steps word entered prepared plan h =
    let program = entered.entry.program in
    let function = entered.entry.function in record {
      consistent = ended_so program function entered.start (fits export start image entered prepared) (driven_of steps entered).state
          (subst (IsConsistent program (plain_opening program function entered.start)) (taken steps entered).leads (consistent 64 program function entered.start (driven_of steps entered).trace));
      assessed = assessed_so steps word entered plan h;
      alike = λ begins other agree.
          let safe = safe_by steps word entered plan h begins in
          two_drives program (equal program (facts export start image entered prepared) (rules export start image entered prepared) safe.0 safe.1) function entered.start other agree steps;
      hides = λ begins beside differs other agree.
          let safe = safe_by steps word entered plan h begins in
          hidden_drive program (hides program (facts export start image entered prepared) (rules export start image entered prepared) safe.0 safe.1) beside differs function entered.start other agree steps;
    }

-- ---- the command

pub predict_staged_is : (request : PredictRequest) → IsStagedCommand (Unit {0}) (predict_staged request)
predict_staged_is request = record {
  small = (omega arith, (omega arith, tt));
  lawful = λ image start. entering_lawful request.export start;
  total = λ given image start. (entering_total request.export start).always image tt;
  one_status = λ entered p q h k. ap (λ plan. plan.status) (one_predict_plan request.steps request.trace entered p q h k);
  status_of_deed = λ entered plan h. ap (λ p. kind_of p.status) h.is_plan ∙ deed_of_run (drive_outcome request.steps entered);
  keeps_named = λ entered plan h. inl (ap (λ p. map (λ keep. keep.0) p.keeps) h.is_plan);
  means = λ image start entered prepared plan h. predict_means request.export start image request.steps request.trace entered prepared plan h;
  planned = λ image start entered prepared. some_predict_plan request.steps request.trace entered;
}

-- ---- the trace file that is kept

near_written : (directive : Directive) → IsNear directive → IsWritten directive
near_written (Exec n) near = omega (arith, near)
near_written Fetch near = tt
near_written (Predict predicted) near = tt
near_written Retire near = tt

abbrev HasFewDigits : ℕ → List ℕ → Type 0
HasFewDigits n digits = (n < 10 → length digits ≤ 1) × (n < 100 → length digits ≤ 2)

few_digits : (n : ℕ) → n < 2 ^ 64 → HasFewDigits n (decimal n)
few_digits =
    decimal_by_steps HasFewDigits (λ n lt. (λ _. omega arith, λ _. omega arith))
    (λ n digits le h. (
      λ lt. absurd (omega (arith, lt, le)),
      λ lt. let few = h.0 (omega (arith, lt)) in let count = length-append digits ((48 + n % 10) ∷ []) in omega (arith, few, count),
    ))

line_short : (directive : Directive) → IsNear directive → length (directive_text directive ++ 10 ∷ []) ≤ 8
line_short Fetch near = omega arith
line_short (Predict true) near = omega arith
line_short (Predict false) near = omega arith
line_short (Exec n) near =
    let few = (few_digits n (omega (arith, near))).1 (omega (arith, near)) in
    let count = length-append (decimal n) (10 ∷ []) in
    omega (arith, few, count)
line_short Retire near = omega arith

text_short : (directives : List Directive) → All IsNear directives → length (trace_text directives) ≤ 8 * length directives
text_short [] near = omega arith
text_short (directive ∷ directives) near =
    let first = line_short directive (All-head IsNear directive directives near) in
    let rest = text_short directives (All-tail IsNear directive directives near) in
    let count = length-append (directive_text directive ++ 10 ∷ []) (trace_text directives) in
    omega (arith, first, rest, count)

-- what is told of an outcome that there is doesn't depend on the steps
same_end : (entered : Entered) (steps : ℕ) (outcome : Option Outcome) (end : Outcome) → outcome ≡ Some end → end_text entered outcome ≡ plain_text entered steps outcome
same_end entered steps (Some (returned values memories)) end e = refl
same_end entered steps (Some (trapped kind memories)) end e = refl
same_end entered steps None end e = cc

pub followed : (request : PredictRequest) → AreDriveStepsInRange request.steps → (image start : List ℕ) (told : Plan) → (predict_job request).Does (image ∷ start ∷ []) told
    → IsFollowed request image start told
followed request within image start told h =
    let entered = h.made in
    let prepared = h.passes in
    let drive = driven_of request.steps entered in
    let took = taken request.steps entered in
    let written : All IsWritten drive.trace = λ k d lt. near_written _ (took.near k d lt) in
    let trace = trace_text drive.trace in
    let counted : length (lines_of trace) ≡ length drive.trace = lines_counted directive_of directive_text IsWritten reads_back no_feeds drive.trace written in
    let size = text_short drive.trace took.near in
    let few = took.few in
    let most = within.few in
    let s : Speculated = record { entered = entered; directives = drive.trace } in
    let traced : Traced = record { entry = prepared.2.0; directives = drive.trace } in
    let read : trace_of trace ≡ Ok drive.trace = all_read directive_of directive_text IsWritten reads_back no_feeds drive.trace written in
    let ended : outcome_in entered.entry.program (reached 64 entered.entry.program entered.entry.function entered.start drive.trace) ≡ drive_outcome request.steps entered
    = ap (outcome_in entered.entry.program) took.leads in
    let does : (spec_job (following request)).Does (image ∷ trace ∷ start ∷ []) (spec_plan s) = record {
      made = s;
      passes = (
        prepared.0,
        prepared.1,
        (
          prepared.2.0,
          prepared.2.1,
          (traced, record { same_entry = refl; few = omega (arith, counted, few, most); read = read }, (entered, prepared.2.2, refl)),
        ),
      );
      plans = refl;
    } in
    record {
      trace = trace;
      kept = ap (λ p. p.keeps) h.plans.is_plan;
      short = omega (arith, size, few, most);
      plan = spec_plan s;
      does = does;
      alone = λ other other_does. one_done (spec_staged (following request)) (spec_staged_is (following request)) (λ made p q h k. h ∙ sym k) (image ∷ trace ∷ start ∷ []) other (spec_plan s) other_does does;
      done = ap spec_status took.enabled;
      entered = entered;
      passes = prepared;
      status = ap (λ p. p.status) h.plans.is_plan;
      told_last = (met drive ++ alike_text h.plans.safe, ap (λ p. p.text) h.plans.is_plan);
      said_last = (
        flat_map observation_text (seen_of s).made,
        λ i. flat_map observation_text (seen_of s).made ++ last_text entered (ended i) (took.enabled i),
      );
      same = same_end entered request.steps (drive_outcome request.steps entered);
    }
