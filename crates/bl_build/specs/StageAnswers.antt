-- What the functions of the stages answer.
use Rattle.std.specs.Prelude.{◌≡◌, ◌≤◌, ℕ, get_or, length, List, [], option_map, slice_get, Option, Some, None, Result, Ok, Err}
use Rattle.std.proofs.Common.{Bor}
use Rattle.bl_base.specs.Quantity.{limit_of}
use Rattle.bl_base.specs.declared.quantity.Quantity.TheVariants as quantity
use Rattle.bl_base.specs.declared.start.Start.{Start}
use Rattle.bl_program.specs.Outcomes.{IsStart}
use Rattle.bl_program.specs.declared.definitions.FunctionDef.{FunctionDef}
use Rattle.bl_program.specs.declared.definitions.ProgramParts.{ProgramParts as Program}
use Rattle.bl_base.specs.declared.number.Pos.{Pos}
use Rattle.bl_base.specs.declared.names.Role.{Role}
use Rattle.bl_text.specs.Lines.{lines_of}
use Rattle.bl_iface.specs.declared.choice.UnderError.{UnderError}
use Rattle.bl_iface.specs.declared.choice.UnderError.TheVariants as under
use Rattle.bl_iface.specs.declared.error.IfaceError.{IfaceError}
use Rattle.bl_iface.specs.declared.error.IfaceError.TheVariants as interface
use Rattle.bl_iface.specs.declared.error.JoinError.{JoinError}
use Rattle.bl_iface.specs.declared.error.JoinError.TheVariants as join
use Rattle.bl_iface.specs.declared.error.TargetsError.{TargetsError}
use Rattle.bl_iface.specs.declared.error.TargetsError.TheVariants as targets
use Rattle.bl_iface.specs.declared.iface.Iface.{Iface}
use Rattle.bl_image.specs.declared.error.ImageError.{ImageError}
use Rattle.bl_image.specs.declared.error.ImageError.TheVariants as image
use Rattle.bl_decode.specs.declared.error.DecodeError.{DecodeError}
use Rattle.bl_decode.specs.declared.error.DecodeError.TheVariants as decode
use Rattle.bl_labels.specs.declared.error.LabelError.{LabelError}
use Rattle.bl_link.specs.declared.error.LinkError.{LinkError}
use Rattle.bl_link.specs.declared.error.LinkError.TheVariants as link
use Rattle.bl_validate.specs.declared.verdict.Invalid.{Invalid}
use Rattle.bl_validate.specs.declared.verdict.Invalid.TheVariants as invalid
use Rattle.bl_rob.specs.declared.directive.Directive.{Directive}
use Rattle.bl_trace.specs.Traces.{trace_of}
use Rattle.bl_trace.specs.declared.error.StartError.{StartError}
use Rattle.bl_trace.specs.declared.error.StartError.TheVariants as start
use Rattle.bl_trace.specs.declared.error.TraceError.{TraceError}
use Rattle.bl_trace.specs.declared.error.TraceError.TheVariants as trace
use Rattle.bl_wasm.specs.declared.linked.Tree.{Tree}
use Rattle.bl_build.specs.BuildStages.{Built, sizing}
use Rattle.bl_build.specs.EntryStages.{Entered, Entry, bad_line, broken_rule, few_arguments, not_an_image}
use Rattle.bl_build.specs.HardenStage.{Hardened}
use Rattle.bl_build.specs.InterfaceStages.{Parted, bad_interface_line, given_sink, unmatched_function}
use Rattle.bl_build.specs.JoinStages.{BothPass, Sides, Union, Unites, fails, other_types, taken_export, whole}
use Rattle.bl_build.specs.LoadStages.{LabelledModule, Named, bad_labels, data_range, element_range, fault_of, invalid_function, invalid_module, malformed, mismatched_import, unknown_import, unsupported}
use Rattle.bl_job.specs.Refusals.{Refusal, limit}
use Rattle.bl_build.specs.InvocationStages.{Invoked}
use Rattle.bl_build.specs.TraceStages.{Speculated, TracingRefuses, Twinned, bad_directive}
use Rattle.bl_build.specs.CertificateStages.{Certified, ReadingRefuses, not_json, other_shape}
use Rattle.bl_graph.specs.declared.certificate.Certificate.{Certificate}
use Rattle.bl_witness.specs.Shapes.{ReadsCertificate}
use Rattle.bl_witness.specs.declared.error.CertError.{CertError}
use Rattle.bl_witness.specs.declared.error.CertError.TheVariants as cert
use Rattle.bl_job.specs.WorkAnswers.{IsTold, Tells}
use Rattle.bl_build.specs.declared.build.Built.{Built as BuiltMade}
use Rattle.bl_build.specs.declared.certificate.Certified.{Certified as CertifiedMade}
use Rattle.bl_build.specs.declared.entry.Found.{Found}
use Rattle.bl_build.specs.declared.harden.Hardened.{Hardened as HardenedMade}
use Rattle.bl_build.specs.declared.invocation.Invocation.{Invocation}
use Rattle.bl_build.specs.declared.join.Union.{Union as UnionMade}
use Rattle.bl_build.specs.declared.join.Union.TheVariants as union
use Rattle.bl_build.specs.declared.loading.Checked.{Checked}
use Rattle.bl_build.specs.declared.loading.Ready.{Ready}
use Rattle.bl_build.specs.declared.loading.Spelled.{Spelled}
use Rattle.bl_build.specs.declared.part.Parted.{Parted as PartedMade}
use Rattle.bl_build.specs.declared.prepared.Prepared.{Prepared}
use Rattle.bl_job.specs.declared.refusal.WorkError.{WorkError}
use Rattle.bl_build.specs.declared.speculation.Speculation.{Speculation}
use Rattle.bl_build.specs.declared.twins.Twins.{Twins}

-- modules under their names
abbrev pub spelled_in : Spelled → Named
spelled_in spelled = record { name = spelled.name.now; tree = spelled.tree }

abbrev pub checked_in : Checked → Named
checked_in checked = record { name = checked.name.now; tree = checked.wasm }

abbrev pub ready_in : Ready → LabelledModule
ready_in ready = record { name = ready.name.now; tree = ready.wasm; labels = ready.labels }

-- ---- errors as the refusals that they are told as; want of memory is told as none

abbrev pub refusal_of_decoding : List ℕ → DecodeError → Option Refusal
refusal_of_decoding name decode.Malformed = Some (malformed name)
refusal_of_decoding name decode.Unsupported = Some (unsupported name)
refusal_of_decoding name (decode.Limit which value) = Some (limit which value)
refusal_of_decoding name decode.Memory = None

abbrev pub refusal_of_validation : List ℕ → Invalid → Option Refusal
refusal_of_validation name (invalid.Function index) = Some (invalid_function name index)
refusal_of_validation name invalid.Module = Some (invalid_module name)
refusal_of_validation name invalid.Memory = None

abbrev pub refusal_of_labels : List ℕ → LabelError → Option Refusal
refusal_of_labels name error = option_map (bad_labels name) (fault_of error)

-- an error of linking modules of those names, by the name of the part that it names
abbrev pub IsLinkingError : List (Bor (List ℕ)) → LinkError → WorkError → Type 0
IsLinkingError names (link.Unknown part import) e =
    (name : Bor (List ℕ)) × (slice_get names part ≡ Some name) × IsTold (Some (unknown_import name.now import)) e
IsLinkingError names (link.Mismatch part import) e =
    (name : Bor (List ℕ)) × (slice_get names part ≡ Some name) × IsTold (Some (mismatched_import name.now import)) e
IsLinkingError names (link.ElementRange part) e =
    (name : Bor (List ℕ)) × (slice_get names part ≡ Some name) × IsTold (Some (element_range name.now)) e
IsLinkingError names (link.DataRange part) e =
    (name : Bor (List ℕ)) × (slice_get names part ≡ Some name) × IsTold (Some (data_range name.now)) e
IsLinkingError names (link.Limit which value) e = IsTold (Some (limit which value)) e
IsLinkingError names link.Memory e = IsTold None e

abbrev pub refusal_of_start : StartError → Option Refusal
refusal_of_start (start.Line number) = Some (bad_line number)
refusal_of_start (start.Count count) = Some (few_arguments count)
refusal_of_start start.Memory = None

abbrev pub refusal_of_trace : TraceError → Option Refusal
refusal_of_trace (trace.Line number) = Some (bad_directive number)
refusal_of_trace trace.Memory = None

abbrev pub refusal_of_image : ImageError → Option Refusal
refusal_of_image image.NotAnImage = Some not_an_image
refusal_of_image (image.IllFormed rule position) = Some (broken_rule rule position.0)
refusal_of_image image.Memory = None

abbrev pub refusal_of_certificate : CertError → Option Refusal
refusal_of_certificate cert.NotJson = Some not_json
refusal_of_certificate cert.Shape = Some other_shape
refusal_of_certificate cert.Memory = None

abbrev pub refusal_of_interface : IfaceError → Option Refusal
refusal_of_interface (interface.Line number) = Some (bad_interface_line number)
refusal_of_interface interface.Memory = None

abbrev pub refusal_of_targets : TargetsError → Option Refusal
refusal_of_targets (targets.Unmatched index) = Some (unmatched_function index)
refusal_of_targets targets.Memory = None

abbrev pub refusal_of_choice : UnderError → Option Refusal
refusal_of_choice (under.Sink position) = Some (given_sink position.0)
refusal_of_choice under.Memory = None

abbrev pub refusal_of_join : JoinError → Option Refusal
refusal_of_join (join.Types index) = Some (other_types index)
refusal_of_join (join.Export index) = Some (taken_export index)
refusal_of_join (join.Limit which value) = Some (limit which value)
refusal_of_join join.Memory = None

-- ---- values

-- a function of a tree, its type and its start
abbrev pub invoked_in : Tree → Invocation → Invoked
invoked_in tree invocation =
    record { tree = tree; function = invocation.function; type = invocation.kind.now; start = invocation.start }

-- what a program says of a function; nothing of one that it doesn't have
abbrev pub defined_in : Program → ℕ → FunctionDef
defined_in program function = get_or program.functions function (record { params = []; results = []; vars = 0; length = 0 })

-- a function of a program
abbrev pub entry_in : Program → ℕ → Entry
entry_in program function = record { program = program; function = function; defined = defined_in program function }

abbrev pub found_in : Found → Entry
found_in found = entry_in found.program found.function

-- a function of a program and its start
abbrev pub entered_in : Entry → Start → Entered
entered_in entry start = record { entry = entry; start = start }

abbrev pub prepared_in : Prepared → Entered
prepared_in prepared = entered_in (entry_in prepared.program prepared.function) prepared.start

-- the start fits the function
abbrev pub IsPrepared : Prepared → Type 0
IsPrepared prepared = IsStart prepared.program prepared.function prepared.start

-- a program and its image
abbrev pub built_in : BuiltMade → Built
built_in built = record { program = built.program; image = built.image }

-- a program with its protects
abbrev pub hardened_in : HardenedMade → Hardened
hardened_in hardened = record {
  program = hardened.program;
  certificate = hardened.certificate;
  verdict = hardened.verdict;
  image = hardened.image;
}

-- a function of a program, a start of it, and directives
abbrev pub speculated_in : Speculation → Speculated
speculated_in speculation = record { entered = prepared_in speculation.prepared; directives = speculation.directives }

-- and another start
abbrev pub twinned_in : Twins → Twinned
twinned_in twins = record { speculated = speculated_in twins.speculation; other = twins.other }

-- the other start fits the function too
abbrev pub HasOther : Twins → Type 0
HasOther twins = IsStart twins.speculation.prepared.program twins.speculation.prepared.function twins.other

-- a program, and a certificate that is given for it
abbrev pub certified_in : CertifiedMade → Certified
certified_in certified = record { program = certified.program; certificate = certified.certificate }

-- the directives of a trace file's bytes, or why they are refused
abbrev pub IsTraced : List ℕ → Result (List Directive) WorkError → Type 0
IsTraced bytes (Ok directives) = (length (lines_of bytes) ≤ limit_of quantity.Directives) × (trace_of bytes ≡ Ok directives)
IsTraced bytes (Err e) = Tells (TracingRefuses bytes) e

-- the certificate that bytes are, or why they are refused
abbrev pub IsCertificateOf : List ℕ → Result Certificate WorkError → Type 0
IsCertificateOf bytes (Ok certificate) = ReadsCertificate bytes (Ok certificate)
IsCertificateOf bytes (Err e) = Tells (ReadingRefuses bytes) e

-- ---- interfaces

-- a program with its protects on one side of an interface
abbrev pub parted_in : PartedMade → Parted
parted_in parted = record { program = parted.program; image = parted.image }

-- two programs and an interface
abbrev pub sides_in : Program → Program → Iface → Sides
sides_in client library iface = record { client = client; library = library; iface = iface }

-- what comes of two programs
abbrev pub union_in : UnionMade → Union
union_in (union.Fails role position) = fails role position.0
union_in (union.Whole built) = whole (built_in built)

-- which of two programs doesn't pass, and the position that tells why; or both pass
abbrev pub FindsFailing : Sides → Option (Role × Pos) → Type 0
FindsFailing sides None = BothPass sides
FindsFailing sides (Some found) = Unites sides (fails found.0 found.1.0)

-- what comes of a joined program, or of why there is none
abbrev pub IsWhole : Result Program JoinError → Result UnionMade WorkError → Type 0
IsWhole (Ok program) (Ok made) = (built : Built) × sizing.Passes program built × (union_in made ≡ whole built)
IsWhole (Ok program) (Err e) = Tells (sizing.Refuses program) e
IsWhole (Err error) (Ok made) = ⊥
IsWhole (Err error) (Err e) = IsTold (refusal_of_join error) e
