-- The stages of images always answer: bytes are the image of a well-formed program, or of one whose first broken rule is told, or none.
use Rattle.std.proofs.Common.{◌≡◌, ℕ, ◌≤◌, Bool, true, false, List, length, Option, Some, None, refl, inl, inr, sym, ◌∙◌, cond}
use Rattle.std.specs.Prelude.{Result, Ok, Err, nat_lt}
use Rattle.std.proofs.lemmas.Bool.{cases_lt}
use Rattle.std.proofs.lemmas.Option.{slice_get_past, none-some}
use Rattle.bl_base.proofs.Lists.{within_get}
use Rattle.bl_base.specs.Quantity.{limit_of}
use Rattle.bl_base.specs.declared.names.ValueType.{ValueType}
use Rattle.bl_base.specs.declared.quantity.Quantity.TheVariants as quantity
use Rattle.bl_base.specs.declared.start.Start.{Start}
use Rattle.bl_base.proofs.Classical.{NotFalse, all_of, some_first}
use Rattle.bl_text.specs.Lines.{lines_of}
use Rattle.bl_program.specs.Rules.{AtCommand, Breaks, IsFirstBroken, IsWellFormed, Rule4, Rule5, Rule6, Rule7, Rule8, accesses, demands, exports, functions, growths, memories, ranges, targets, variables}
use Rattle.bl_program.specs.declared.command.Command.{Command}
use Rattle.bl_program.specs.declared.definitions.ProgramParts.{ProgramParts as Program}
use Rattle.bl_rob.specs.declared.directive.Directive.{Directive}
use Rattle.bl_trace.specs.StartFiles.{answer_by, answer_of, said}
use Rattle.bl_trace.specs.Traces.{trace_of}
use Rattle.bl_trace.specs.declared.error.StartError.{StartError}
use Rattle.bl_trace.specs.declared.error.StartError.TheVariants.{Line, Count, Memory}
use Rattle.bl_witness.specs.Shapes.{certificate_of}
use Rattle.bl_build.specs.CertificateStages.{certifying, is_not_json, is_other_shape, not_json, other_shape}
use Rattle.bl_build.specs.EntryStages.{Entry, FindingRefuses, Finds, bad_line, broken_rule, few_arguments, no_export, not_an_image, finding, function_named, ill_formed, imaging, kinds_of, line_is_bad, no_image, pages_of, starting, too_few}
use Rattle.bl_build.specs.TraceStages.{Traced, Traces, TracingRefuses, bad_directive, no_directive, program_speculating, starting_traced, too_many, tracing}
use Rattle.bl_job.specs.Refusals.{Refusal, limit}
use Rattle.bl_job.specs.Stages.{Anything, IsTotalStage, Stage, chain}
use Rattle.bl_build.proofs.ExportedFunctions.{named_exists}
use Rattle.bl_job.proofs.StageLemmas.{beside_total, chain_total}

module _ (program : Program) (fine : (rule position : ℕ) → Breaks rule position program → ⊥) where
  -- what can't be false at a position can't be false at all of them
  at_each : (Keeps : ℕ → ℕ → Command → Type 0) → ((position : ℕ) → NotFalse (AtCommand program position (Keeps position)))
      → NotFalse ((position : ℕ) → AtCommand program position (Keeps position))
  at_each Keeps each wrong =
      all_of (λ position. AtCommand program position (Keeps position)) (length program.commands) (λ position lt. each position)
      (λ within. wrong (λ position. elim (cases_lt position (length program.commands)) as (λ _. AtCommand program position (Keeps position)) [
        | inl lt ↦ within position lt
        | inr past ↦ λ function command holds stands. absurd (none-some command (sym (slice_get_past program.commands position past) ∙ stands))
      ]))

  not_broken : NotFalse (IsWellFormed program)
  not_broken wrong =
      fine 1 0 (memories refl refl (λ rule1. fine 2 0 (functions refl refl (λ rule2. fine 3 0 (exports refl refl (λ rule3. fine 9 0 (demands refl refl (λ rule9.
      at_each (λ position function. Rule4 program function) (λ position bad. fine 4 position (variables refl bad)) (λ rule4.
      at_each (λ position function. Rule5 program function position) (λ position bad. fine 5 position (targets refl bad)) (λ rule5.
      at_each (λ position function. Rule6 program function) (λ position bad. fine 6 position (ranges refl bad)) (λ rule6.
      at_each (λ position function. Rule7 program function position) (λ position bad. fine 7 position (accesses refl bad)) (λ rule7.
      at_each (λ position function. Rule8 program function position) (λ position bad. fine 8 position (growths refl bad)) (λ rule8.
      wrong (record { rule1 = rule1; rule2 = rule2; rule3 = rule3; rule4 = rule4; rule5 = rule5; rule6 = rule6; rule7 = rule7; rule8 = rule8; rule9 = rule9 })
      )))))))))))))

-- a program is well-formed, or there is a first rule that it breaks
pub well_or_broken : (program : Program) → (IsWellFormed program → ⊥) → ((rule position : ℕ) → IsFirstBroken rule position program → ⊥) → ⊥
well_or_broken program ill first =
    not_broken program (λ rule position breaks.
    some_first (λ at_. (other : ℕ) × Breaks other at_ program) position (rule, breaks) (λ place.
    some_first (λ other. Breaks other place.0 program) place.1.is.0 place.1.is.1 (λ least.
    first least.0 place.0 (record {
      broken = least.1.is;
      least_position = λ other from b. place.1.least from (other, b);
      least_rule = λ other b. least.1.least other b;
    })))) ill

pub imaging_total : IsTotalStage Anything imaging
imaging_total = record {
  always = λ bytes given made refused.
      refused not_an_image (no_image (λ program image.
      well_or_broken program (λ rules. made program (record { image = image; rules = rules }))
      (λ rule position first. refused (broken_rule rule position) (ill_formed program rule position image first refl))) refl);
}

-- a stage on the program of an image
pub imaged_total : {B : Type 0} (stage : Stage Program B) → IsTotalStage IsWellFormed stage → IsTotalStage Anything (chain imaging stage)
imaged_total stage s = chain_total Anything IsWellFormed imaging stage imaging_total s (λ bytes program given imaged. imaged.rules)

-- ---- exported functions

module _ (export : List ℕ) (program : Program) (rules : IsWellFormed program) (made : (entry : Entry) → Finds export program entry → ⊥)
    (refused : (refusal : Refusal) → FindingRefuses export program refusal → ⊥) where
  of_name : (found : Option ℕ) → function_named export program.exports ≡ found → ⊥
  of_name None e = refused no_export (record { not_exported = e; is_refusal = refl })
  of_name (Some function) e =
      let defined = within_get program.functions function (named_exists (length program.functions) export program.exports function rules.rule3.exist e) in
      made (record { program = program; function = function; defined = defined.0 }) (record { same_program = refl; exported = e; defined = defined.1 })

pub finding_total : (export : List ℕ) → IsTotalStage IsWellFormed (finding export)
finding_total export = record { always = λ program rules made refused. of_name export program rules made refused (function_named export program.exports) refl }

-- ---- starts

not_memory : (params : List ValueType) (told : Result Start ℕ) → answer_by params told ≡ Err Memory → ⊥
not_memory params (Ok start) e = of_test (nat_lt (length start.args) (length params)) e
  where
    of_test : (few : Bool) → cond few (Err (Count (length start.args))) (Ok start) ≡ Err Memory → ⊥
    of_test true e = cc
    of_test false e = cc
not_memory params (Err number) e = cc

-- a start file has a start, a bad line or too few arguments
module _ (params : List ValueType) (sizes bytes : List ℕ) where
  pub answered : ((start : Start) → answer_of params sizes bytes ≡ Ok start → ⊥) → ((line : ℕ) → answer_of params sizes bytes ≡ Err (Line line) → ⊥)
      → ((count : ℕ) → answer_of params sizes bytes ≡ Err (Count count) → ⊥) → ⊥
  answered made line count = of_answer (answer_of params sizes bytes) refl
    where
      of_answer : (answer : Result Start StartError) → answer_of params sizes bytes ≡ answer → ⊥
      of_answer (Ok start) e = made start e
      of_answer (Err (Line number)) e = line number e
      of_answer (Err (Count number)) e = count number e
      of_answer (Err Memory) e = not_memory params (said params sizes 0 (lines_of bytes)) e

pub starting_total : (bytes : List ℕ) → IsTotalStage Anything (starting bytes)
starting_total bytes = record {
  always = λ entry given made refused.
      answered (kinds_of entry.defined) (pages_of entry.program) bytes (λ start e. made (record { entry = entry; start = start }) (record { same_entry = refl; read = e }))
      (λ line e. refused (bad_line line) (line_is_bad line e refl)) (λ count e. refused (few_arguments count) (too_few count e refl));
}

-- ---- trace files

module _ (bytes : List ℕ) (entry : Entry) (made : (traced : Traced) → Traces bytes entry traced → ⊥) (refused : (refusal : Refusal) → TracingRefuses bytes refusal → ⊥) where
  of_trace : length (lines_of bytes) ≤ limit_of quantity.Directives → (found : Result (List Directive) ℕ) → trace_of bytes ≡ found → ⊥
  of_trace few (Ok directives) e = made (record { entry = entry; directives = directives }) (record { same_entry = refl; few = few; read = e })
  of_trace few (Err line) e = refused (bad_directive line) (no_directive line few e refl)

  is_traced : ⊥
  is_traced = elim (cases_lt (limit_of quantity.Directives) (length (lines_of bytes))) [
    | inl more ↦ refused (limit quantity.Directives (length (lines_of bytes))) (too_many more refl)
    | inr few ↦ of_trace few (trace_of bytes) refl
  ]

pub tracing_total : (trace : List ℕ) → IsTotalStage Anything (tracing trace)
tracing_total trace = record { always = λ entry given made refused. is_traced trace entry made refused }

pub program_speculating_total : (export trace start : List ℕ) → IsTotalStage IsWellFormed (program_speculating export trace start)
program_speculating_total export trace start =
    chain_total IsWellFormed Anything (finding export) (chain (tracing trace) (starting_traced start)) (finding_total export)
    (chain_total Anything Anything (tracing trace) (starting_traced start) (tracing_total trace) (beside_total _ (starting start) _ Anything (starting_total start)) (λ entry traced given traces. tt))
    (λ program entry rules found. tt)

-- ---- certificates

pub certifying_total : (bytes : List ℕ) → IsTotalStage IsWellFormed (certifying bytes)
certifying_total bytes = record {
  always = λ program rules made refused.
      refused not_json (is_not_json (λ data_ json. elim (certificate_of data_) as (λ found. certificate_of data_ ≡ found → ⊥) [
        | None ↦ λ e. refused other_shape (is_other_shape (data_, json, e) refl)
        | Some certificate ↦ λ e. made (record { program = program; certificate = certificate }) (record { same_program = refl; read = (data_, json, e) })
      ] refl) refl);
}
