-- An image runs as the modules do that it was made of.
use Rattle.bl_reduce.specs.Runnable.{runnable}
use Rattle.std.proofs.Common.{◌≡◌, ℕ, ◌*◌, ◌≤◌, List, [], ◌∷◌, map, cond, Option, Some, None, slice_get, refl, sym, ap, ◌∙◌, subst, arith}
use Rattle.std.specs.Str.{bytes_eq}
use Rattle.std.proofs.Math.Nat.{mul-le-mul_left}
use Rattle.std.proofs.lemmas.Option.{same_Some}
use Rattle.bl_base.specs.Runs.{MemoryState, Outcome, returned, trapped}
use Rattle.bl_base.specs.declared.names.ValueType.{ValueType}
use Rattle.bl_base.specs.declared.start.Start.{Start}
use Rattle.bl_program.specs.declared.definitions.ProgramParts.{ProgramParts as Program}
use Rattle.bl_wasm.specs.Exports.{Pairs, value_named}
use Rattle.bl_wasm.specs.declared.linked.Signature.{Signature}
use Rattle.bl_wasm.specs.declared.linked.Tree.{Tree}
use Rattle.bl_reduce.specs.Outcomes.{first_store, source}
use Rattle.bl_program.specs.Outcomes.{first_memories, plain}
use Rattle.bl_format.specs.Image.{Image}
use Rattle.bl_image.proofs.Prefixes.{one_program}
use Rattle.bl_lower.specs.Trees.{export_def, low_tree, memory_def, step_bound}
use Rattle.bl_lower.proofs.DefinedFunctions.{IsDefined, has_type, is_defined}
use Rattle.bl_lower.proofs.InitialStates.{memories_first}
use Rattle.bl_lower.proofs.TreeLayout.{map_map}
use Rattle.bl_trace.specs.StartFiles.{answer_of}
use Rattle.bl_outcome.specs.Outcomes.{outcome_text}
use Rattle.bl_build.specs.BuildStages.{AreCompiled, Built}
use Rattle.bl_build.specs.WeightStages.{AreBuilt, IsWeighedBy}
use Rattle.bl_build.proofs.WeightLemmas.{are_well_formed}
use Rattle.bl_build.specs.EntryStages.{Entered, entering, function_named, kinds_of, pages_of}
use Rattle.bl_app.specs.RunJob.{HasPlainOutcome, RunDoes, plain_text}
use Rattle.bl_app.specs.InterpJob.{HasOutcome, InterpDoes, printed_of}
use Rattle.bl_job.specs.Jobs.{Plan, saying}
use Rattle.bl_build.specs.LoadStages.{parts_of}
use Rattle.bl_app.specs.Outcomes.{outcome_status}
use Rattle.bl_words.specs.Requests.{InterpRequest, RunRequest}
use Rattle.bl_wasm.specs.Linked.{type_of}
use Rattle.bl_build.specs.InvocationStages.{Invoked, Invokes, sizes_of}
use Rattle.bl_job.specs.declared.status.Status.TheVariants.{Spent}
use Rattle.bl_build.proofs.LoadLemmas.{loading_lawful}
use Rattle.bl_app.proofs.RunLemmas.{entering_lawful}

-- ---- exports

pub same_exports : (name : List ℕ) (pairs : Pairs) → function_named name (map export_def pairs) ≡ value_named name pairs
same_exports name [] = refl
same_exports name (pair ∷ pairs) = ap (cond (bytes_eq name pair.0) (Some pair.1)) (same_exports name pairs)

-- ---- runs

-- the text of a run that ended doesn't tell its steps
steps_aside : (outcome : Outcome) (kinds : List ValueType) (memories : List MemoryState) (m n : ℕ) → outcome_text kinds memories m (Some outcome) ≡ outcome_text kinds memories n (Some outcome)
steps_aside (returned values after) kinds memories m n = refl
steps_aside (trapped kind after) kinds memories m n = refl

-- what weights don't change
record IsAlike (one other : Program) : Type 0 where
  functions : one.functions ≡ other.functions
  exports : one.exports ≡ other.exports
  pages : pages_of one ≡ pages_of other
  first : (start : Start) → first_memories one start ≡ first_memories other start

weighed_alike : (counts : Option (List ℕ)) (program weighted : Program) → IsWeighedBy counts program weighted → IsAlike weighted program
weighed_alike None program weighted e =
    record { functions = ap (λ p. p.functions) e; exports = ap (λ p. p.exports) e; pages = ap pages_of e; first = λ start. ap (λ p. first_memories p start) e }
weighed_alike (Some bytes) program weighted is =
    let e = is.is_program in
    record { functions = ap (λ p. p.functions) e; exports = ap (λ p. p.exports) e; pages = ap pages_of e; first = λ start. ap (λ p. first_memories p start) e }

module _ (request : InterpRequest) (image_name start_name start : List ℕ) (contents : List (List ℕ)) (counts : Option (List ℕ)) (built : Built)
    (compiled : AreBuilt request.modules contents counts built) where
  abbrev tree : Tree
  tree = compiled.tree

  abbrev program : Program
  program = built.program

  alike : IsAlike program (low_tree tree)
  alike = weighed_alike counts (low_tree tree) program compiled.weighed

  pages_are : pages_of program ≡ sizes_of tree
  pages_are = alike.pages ∙ map_map memory_def (λ memory. memory.pages) tree.memories

  exports_are : function_named request.export program.exports ≡ value_named request.export tree.exports
  exports_are = ap (function_named request.export) alike.exports ∙ same_exports request.export tree.exports

  abbrev run_of : ℕ → RunRequest
  run_of steps = record { image = image_name; export = request.export; start = start_name; steps = steps; counts = None }

  -- what is invoked of the tree is entered of its image
  module _ (invoked : Invoked) (o : Invokes request.export start tree invoked) where
    abbrev d : IsDefined tree invoked.function invoked.type
    d = is_defined tree compiled.linked invoked.function invoked.type o.typed

    abbrev entered : Entered
    entered = record { entry = record { program = program; function = invoked.function; defined = d.defined }; start = invoked.start }

    passes : (entering request.export start).Passes built.image entered
    passes = (
      program,
      record { image = compiled.image; rules = are_well_formed request.modules contents counts built compiled },
      (
        entered.entry,
        record { same_program = refl; exported = exports_are ∙ o.exported; defined = ap (λ functions. slice_get functions invoked.function) alike.functions ∙ d.exists },
        record { same_entry = refl; read = (λ i. answer_of (d.kinds i) (pages_are i) start) ∙ o.read },
      ),
    )

    same_memories : first_memories program invoked.start ≡ (first_store invoked.tree invoked.start).memories
    same_memories = alike.first invoked.start ∙ memories_first tree (runnable tree compiled.linked) invoked.function invoked.start ∙ ap (λ t. (first_store t invoked.start).memories) (sym o.same_tree)

    same_plan : (outcome : Outcome) (m n : ℕ) → saying (outcome_status (Some outcome)) (printed_of invoked n (Some outcome)) ≡ saying (outcome_status (Some outcome)) (plain_text entered m (Some outcome))
    same_plan outcome m n =
        ap (saying (outcome_status (Some outcome)))
        (sym (λ i. outcome_text (d.results i) (same_memories i) n (Some outcome)) ∙ steps_aside outcome d.defined.results (first_memories program invoked.start) n m)

  within_bound : (m n : ℕ) → m ≤ step_bound tree * n → n ≤ request.steps → m ≤ step_bound tree * request.steps
  within_bound m n bound few = let more : step_bound tree * n ≤ step_bound tree * request.steps = mul-le-mul_left (step_bound tree) few in omega (arith, bound, more)

  -- `interp` told an end
  ran_as : (plan : Plan) (invoked : Invoked) (o : Invokes request.export start tree invoked) (outcome : Option Outcome) → HasOutcome invoked request.steps outcome
      → plan ≡ saying (outcome_status outcome) (printed_of invoked request.steps outcome) → (plan.status ≡ Spent → ⊥) → RunDoes (run_of (step_bound tree * request.steps)) (built.image ∷ start ∷ []) plan
  ran_as plan invoked o None within is_plan ended = absurd (ended (ap (λ p. p.status) is_plan))
  ran_as plan invoked o (Some outcome) within is_plan ended =
      let source_run = subst (λ t. source t invoked.function invoked.start within.0 outcome) o.same_tree within.1 in
      let f = compiled.same_outcomes.follows invoked.function invoked.start outcome within.0 source_run in
      record {
        made = entered invoked o;
        passes = passes invoked o;
        plans = record {
          outcome = Some outcome;
          within = (f.0, f.1, within_bound f.0 within.0 f.3 within.2);
          is_plan = is_plan ∙ same_plan invoked o outcome (step_bound tree * request.steps) request.steps;
        };
      }

  pub forward : (plan : Plan) → InterpDoes request (start ∷ contents) plan → (plan.status ≡ Spent → ⊥) → RunDoes (run_of (step_bound tree * request.steps)) (built.image ∷ start ∷ []) plan
  forward plan h ended =
      let same = loading_lawful.one_result (parts_of request.modules contents) h.passes.0 tree h.passes.1 compiled.loaded in
      ran_as plan h.made (subst (λ t. Invokes request.export start t h.made) same h.passes.2) h.plans.outcome h.plans.within h.plans.is_plan ended

  -- what is entered of the image was invoked of the tree
  is_invoked : (found : Entered) → (entering request.export start).Passes built.image found → (type : Signature) × Invokes request.export start tree (record { tree = tree; function = found.entry.function; type = type; start = found.start })
  is_invoked found p =
      let same : p.0 ≡ program = one_program p.0 program built.image p.1.image compiled.image in
      let entry = ap (λ e. e.function) p.2.2.same_entry in
      let number = p.2.0.function in
      let exists = ap (λ functions. slice_get functions number) (sym alike.functions) ∙ subst (λ q. slice_get q.functions number ≡ Some p.2.0.defined) same p.2.1.defined in
      let typed = has_type tree compiled.linked number p.2.0.defined exists in
      let d = is_defined tree compiled.linked number typed.0 typed.1 in
      let kinds : kinds_of p.2.0.defined ≡ typed.0.params = ap kinds_of (same_Some p.2.0.defined d.defined (sym exists ∙ d.exists)) ∙ d.kinds in
      let pages : pages_of p.2.0.program ≡ sizes_of tree = ap pages_of (p.2.1.same_program ∙ same) ∙ pages_are in (
        typed.0,
        record {
          same_tree = refl;
          exported = sym exports_are ∙ subst (λ q. function_named request.export q.exports ≡ Some number) same p.2.1.exported ∙ ap Some (sym entry);
          typed = ap (type_of tree) entry ∙ typed.1;
          read = sym (λ i. answer_of (kinds i) (pages i) start) ∙ p.2.2.read;
        },
      )

  -- `run` told an end
  told_as : (plan : Plan) (found : Entered) (invoked : Invoked) (o : Invokes request.export start tree invoked) → found ≡ entered invoked o → (outcome : Option Outcome) → HasPlainOutcome found request.steps outcome
      → plan ≡ saying (outcome_status outcome) (plain_text found request.steps outcome) → (plan.status ≡ Spent → ⊥) → InterpDoes request (start ∷ contents) plan
  told_as plan found invoked o same None within is_plan ended = absurd (ended (ap (λ p. p.status) is_plan))
  told_as plan found invoked o same (Some outcome) within is_plan ended =
      let here = subst (λ e. plain e.entry.program e.entry.function e.start within.0 outcome) same within.1 in
      let f = compiled.same_outcomes.comes_from invoked.function invoked.start outcome within.0 here in
      record {
        made = invoked;
        passes = (tree, compiled.loaded, o);
        plans = record {
          outcome = Some outcome;
          within = (f.0, subst (λ t. source t invoked.function invoked.start f.0 outcome) (sym o.same_tree) f.1, omega (arith, f.2, within.2));
          is_plan = is_plan ∙ ap (λ e. saying (outcome_status (Some outcome)) (plain_text e request.steps (Some outcome))) same ∙ sym (same_plan invoked o outcome request.steps request.steps);
        };
      }

  pub backward : (plan : Plan) → RunDoes (run_of request.steps) (built.image ∷ start ∷ []) plan → (plan.status ≡ Spent → ⊥) → InterpDoes request (start ∷ contents) plan
  backward plan h ended =
      let is = is_invoked h.made h.passes in
      let invoked : Invoked = record { tree = tree; function = h.made.entry.function; type = is.0; start = h.made.start } in
      let same = (entering_lawful request.export start).one_result built.image h.made (entered invoked is.1) h.passes (passes invoked is.1) in
      told_as plan h.made invoked is.1 same h.plans.outcome h.plans.within h.plans.is_plan ended

-- ---- without a count file

pub built_of : (words contents : List (List ℕ)) (built : Built) → AreCompiled words contents built → AreBuilt words contents None built
built_of words contents built is = record {
  tree = is.tree;
  loaded = is.loaded;
  linked = is.linked;
  few = is.builds.few;
  weighed = is.builds.is_program;
  image = subst (λ p. Image p built.image) (sym is.builds.is_program) is.builds.image;
  short = is.builds.short;
  same_outcomes = is.same_outcomes;
}

pub compiled_of : (words contents : List (List ℕ)) (built : Built) → AreBuilt words contents None built → AreCompiled words contents built
compiled_of words contents built is = record {
  tree = is.tree;
  loaded = is.loaded;
  linked = is.linked;
  builds = record { is_program = is.weighed; few = is.few; image = subst (λ p. Image p built.image) is.weighed is.image; short = is.short };
  same_outcomes = is.same_outcomes;
}
