-- The calls on the worked files meet all that the law on joined images asks, and what they join answers as the library does.
use Rattle.std.proofs.Common.{◌≡◌, ◌∙◌, ℕ, zero, suc, ◌-◌, ◌^◌, ◌<◌, ◌≤◌, ◌||◌, ◌&&◌, Bool, List, [], ◌∷◌, length, true, false, Option, None, Some, Ok, codes, inr, refl, sym, subst, slice_get, arith}
use Rattle.std.specs.Prelude.{IsSomeAnd, IsTrue, nat_le}
use Rattle.std.specs.List.{All, list_all}
use Rattle.std.proofs.Math.Dec.{leb}
use Rattle.std.proofs.lemmas.Bool.{false≢true, leb-true}
use Rattle.std.proofs.lemmas.List.Elements.{All-cons, All-head, All-nil, All-weaker}
use Rattle.std.proofs.lemmas.Option.{none-some}
use Rattle.std.proofs.lemmas.List.Sums.{AllPass-from_list_all}
use Rattle.bl_base.specs.Fits.{AreBytes, PatchFits}
use Rattle.bl_base.specs.Quantity.{limit_of}
use Rattle.bl_base.specs.Runs.{MemoryState, Outcome, last, more, returned, trapped}
use Rattle.bl_base.specs.declared.names.Flow.{Flow}
use Rattle.bl_base.specs.declared.names.Flow.TheVariants as flow
use Rattle.bl_base.specs.declared.names.Role.{Role}
use Rattle.bl_base.specs.declared.names.Role.TheVariants.{Client, Library}
use Rattle.bl_base.specs.declared.start.Start.{Start}
use Rattle.bl_base.specs.declared.quantity.Quantity.TheVariants as quantity
use Rattle.bl_text.specs.Names.{module_name}
use Rattle.bl_decode.specs.Supported.{IsIntegerCode, IsIntegerFunction, IsIntegerImport, IsIntegerInstr, IsSupported}
use Rattle.bl_decode.proofs.Trees.{one_spelled}
use Rattle.bl_wasm.specs.Limits.{first_excess}
use Rattle.bl_wasm.specs.Linked.{IsLinked}
use Rattle.bl_wasm.specs.Modules.{Spells}
use Rattle.bl_wasm.specs.Validity.{IsInteger, Typed}
use Rattle.bl_wasm.specs.declared.instruction.Instr.{Instr}
use Rattle.bl_wasm.specs.declared.instruction.Instr.TheVariants.{Call, I32Const}
use Rattle.bl_wasm.specs.declared.linked.Tree.{Tree}
use Rattle.bl_wasm.specs.declared.module.DataSegment.{DataSegment}
use Rattle.bl_wasm.specs.declared.module.DefinedGlobal.{DefinedGlobal}
use Rattle.bl_wasm.specs.declared.module.ElementSegment.{ElementSegment}
use Rattle.bl_wasm.specs.declared.module.Import.{Import}
use Rattle.bl_wasm.specs.declared.module.LocalRun.{LocalRun}
use Rattle.bl_wasm.specs.declared.module.Module.{Module}
use Rattle.bl_wasm.specs.declared.types.Limits.{Limits}
use Rattle.bl_wasm.specs.declared.types.WasmType.TheVariants.{I32}
use Rattle.bl_labels.specs.LabelledPlaces.{unlabelled}
use Rattle.bl_link.specs.Linkable.{IsSound}
use Rattle.bl_link.specs.Links.{links, part_of}
use Rattle.bl_link.specs.declared.part.Part.{Part as LinkPart}
use Rattle.bl_link.proofs.LinkedTrees.{linked as runs}
use Rattle.bl_reduce.specs.Outcomes.{source}
use Rattle.bl_program.specs.Outcomes.{plain}
use Rattle.bl_program.specs.Layout.{param, result}
use Rattle.bl_program.specs.Sites.{IsLoad, Loads, is_protected, weight_of}
use Rattle.bl_program.specs.declared.command.Command.{Command}
use Rattle.bl_program.specs.declared.definitions.ProgramParts.{ProgramParts as Program}
use Rattle.bl_graph.proofs.RangeLemmas.{in_range}
use Rattle.bl_transient.specs.Transient.{Asked, FlowsUnder, TransUnder, given, loaded, moved, nothing}
use Rattle.bl_cut.specs.Least.{LeastUnder}
use Rattle.bl_cut.specs.Marks.{protected}
use Rattle.bl_format.specs.Image.{Image}
use Rattle.bl_lower.specs.Trees.{low_tree}
use Rattle.bl_lower.proofs.WellFormed.{facts, rules}
use Rattle.bl_iface.specs.InterfaceFunctions.{IsMatched, Matches}
use Rattle.bl_iface.specs.JoinedProgram.{exported, joined}
use Rattle.bl_iface.specs.Roles.{KeepsRole, PassesAs}
use Rattle.bl_iface.specs.RoleTests.{asked, is_called, is_flow}
use Rattle.bl_iface.specs.declared.iface.FnIface.{FnIface}
use Rattle.bl_iface.proofs.JoinedWellFormed.{joined_is}
use Rattle.bl_rename.specs.Renamings.{Alike, Numbers}
use Rattle.bl_build.specs.BuildStages.{Built}
use Rattle.bl_build.specs.InterfaceStages.{IsFileOf, Parted, parting, side_of}
use Rattle.bl_build.specs.JoinStages.{Sides, are_joined, client_side, joining, library_side, pair_of, sides_of, whole}
use Rattle.bl_build.specs.LoadStages.{AreLoadable, AreTold, Decodes, IsPassed, LabelledModule, Named, Part, ReadsLabels, loading}
use Rattle.bl_build.proofs.ModuleFiles.{are_loadable}
use Rattle.bl_app.specs.JoinJob.{join_plan}
use Rattle.bl_app.specs.JoinedModules.{AreKept, AreLoaded, EndsAsLinked, File, IsWanted, KeepTo, Keeps, Trees, contents_of, join_call, modules_in, numbers_in, part_call}
use Rattle.bl_app.specs.PartJob.{part_job, part_plan}
use Rattle.bl_app.specs.WorkedCalls.{AreMet, Returns, client_image, interface_file, joined_image, library_image, library_module, plain_start, stub_file, user_file, worked_calls}
use Rattle.bl_app.proofs.JoinedModules.{joined_ends}
use Rattle.bl_app.proofs.KeptImages.{client_spelled, joined_spelled, library_spelled}
use Rattle.bl_app.proofs.WorkedApart.{can_join, client, function, iface, library, library_part, linked, made, names, names_apart, one, own, room, stub, stub_part, two_apart, user_part, wanted, whole as both_linked}
use Rattle.bl_app.proofs.WorkedFiles.{library_spelled as library_read, stub_spelled as stub_read, user_spelled as user_read}

-- ---- files of modules

-- the bytes of a file are those of a module, which is supported, within the limits and valid, and has no labels
record Holds (file : File) (wasm : Module) : Type 0 where
  spelled : Spells file.bytes wasm
  supported : IsSupported wasm
  within : first_excess wasm ≡ None
  typed : Typed wasm
  told : AreTold wasm (Ok unlabelled)

abbrev named : File → Module → Named
named file wasm = record { name = module_name file.word; tree = wasm }

abbrev labelled : File → Module → LabelledModule
labelled file wasm = record { name = module_name file.word; tree = wasm; labels = unlabelled }

abbrev part_in : File → Part
part_in file = record { name = module_name file.word; bytes = file.bytes }

abbrev linked_as : File → Module → LinkPart
linked_as file wasm = part_of (module_name file.word) wasm unlabelled

module _ (file : File) (wasm : Module) (holds : Holds file wasm) where
  decodes : Decodes (part_in file) (named file wasm)
  decodes = record { same_name = refl; spelled = holds.spelled; supported = holds.supported; within = holds.within }

  is_valid : IsPassed Typed (named file wasm) (named file wasm)
  is_valid = record { same = refl; holds = holds.typed }

  reads_none : ReadsLabels (named file wasm) (labelled file wasm)
  reads_none = record { same_name = refl; same_tree = refl; told = holds.told }

  one_loaded : (tree : Tree) → links (linked_as file wasm ∷ []) ≡ Ok tree → IsLinked tree → loading.Passes (modules_in (file ∷ [])) tree
  one_loaded tree is_tree can_run = (
    named file wasm ∷ [],
    (decodes, tt),
    (
      named file wasm ∷ [],
      (is_valid, tt),
      (labelled file wasm ∷ [], (reads_none, tt), record { is_tree = is_tree; can_run = can_run }),
    ),
  )

two_loaded : (file other : File) (wasm another : Module) → Holds file wasm → Holds other another → (tree : Tree) → links (linked_as file wasm ∷ linked_as other another ∷ []) ≡ Ok tree → IsLinked tree
    → loading.Passes (modules_in (file ∷ other ∷ [])) tree
two_loaded file other wasm another first second tree is_tree can_run = (
  named file wasm ∷ named other another ∷ [],
  (decodes file wasm first, (decodes other another second, tt)),
  (
    named file wasm ∷ named other another ∷ [],
    (is_valid file wasm first, (is_valid other another second, tt)),
    (
      labelled file wasm ∷ labelled other another ∷ [],
      (reads_none file wasm first, (reads_none other another second, tt)),
      record { is_tree = is_tree; can_run = can_run },
    ),
  ),
)

supported : (imports : List Import) (memories : List Limits) (item : Instr) (name : List ℕ) (index : ℕ) → All (λ (entry : Import). IsIntegerImport entry.kind) imports → IsIntegerInstr item
    → IsSupported (made imports memories (item ∷ []) name index)
unfolding IsIntegerCode IsIntegerFunction
supported imports memories item name index integers is = record {
  types = one IsIntegerFunction _ (All-nil IsInteger, one IsInteger I32 tt);
  imports = integers;
  globals = All-nil (λ (global : DefinedGlobal). IsInteger global.kind.kind × All IsIntegerInstr global.initial);
  start = refl;
  elements = All-nil (λ (segment : ElementSegment). All IsIntegerInstr segment.offset);
  bodies = one IsIntegerCode _ (All-nil (λ (run : LocalRun). IsInteger run.kind), one IsIntegerInstr item is);
  segments = All-nil (λ (segment : DataSegment). All IsIntegerInstr segment.offset);
}

abbrev IsIntegerEntry : Import → Type 0
IsIntegerEntry entry = IsIntegerImport entry.kind

stub_sound : IsSound stub_part
stub_sound = All-head IsSound stub_part [] linked.stub_sound

library_sound : IsSound library_part
library_sound = All-head IsSound library_part [] linked.library_sound

user_sound : IsSound user_part
user_sound = All-head IsSound user_part [] linked.users_sound

stub_held : Holds stub_file stub_part.wasm
stub_held = record { spelled = stub_read; supported = supported [] [] (I32Const 0) (codes "f") 0 (All-nil IsIntegerEntry) tt; within = refl; typed = stub_sound.typed; told = refl }

library_held : Holds library_module library_part.wasm
library_held =
    record { spelled = library_read; supported = supported [] (room ∷ []) (I32Const 7) (codes "f") 0 (All-nil IsIntegerEntry) tt; within = refl; typed = library_sound.typed; told = refl }

user_held : Holds user_file user_part.wasm
user_held =
    record { spelled = user_read; supported = supported (wanted ∷ []) [] (Call 0) (codes "g") 1 (one IsIntegerEntry wanted tt) tt; within = refl; typed = user_sound.typed; told = refl }

-- ---- all modules

stub_runs : IsLinked stub
stub_runs = runs (stub_part ∷ []) stub linked.stub_parts linked.stub_sound linked.stub_is

library_runs : IsLinked library
library_runs = runs (library_part ∷ []) library linked.library_parts linked.library_sound linked.library_is

client_runs : IsLinked client
client_runs = runs (stub_part ∷ user_part ∷ []) client linked.client_parts (All-cons IsSound stub_part (user_part ∷ []) stub_sound linked.users_sound) linked.client_is

whole_runs : IsLinked both_linked
whole_runs = runs (library_part ∷ user_part ∷ []) both_linked linked.whole_parts (All-cons IsSound library_part (user_part ∷ []) library_sound linked.users_sound) linked.whole_is

abbrev trees : Trees
trees = record { stub = stub; client = client; library = library; whole = both_linked }

bytes_are : (bytes : List ℕ) → list_all (λ (byte : ℕ). leb (suc byte) 256) bytes ≡ true → AreBytes bytes
bytes_are bytes h =
    All-weaker (λ (byte : ℕ). leb (suc byte) 256 ≡ true) (λ (byte : ℕ). byte < 2 ^ 8) (λ byte small. omega (arith, leb-true (suc byte) 256 small)) bytes
    (AllPass-from_list_all (λ (byte : ℕ). leb (suc byte) 256) bytes h)

loadable : (file : File) → module_name file.word ≡ codes "lib" → length file.bytes ≤ limit_of quantity.Module → AreBytes file.bytes → AreLoadable (modules_in (file ∷ user_file ∷ []))
loadable file name short bytes =
    are_loadable (file.word ∷ user_file.word ∷ []) (file.bytes ∷ user_file.bytes ∷ []) (omega arith)
    (record { apart = two_apart module_name file.word user_file.word (λ e. names_apart (sym name ∙ e)) }) (short, (omega arith, tt))
    (All-cons AreBytes file.bytes (user_file.bytes ∷ []) bytes (one AreBytes user_file.bytes (bytes_are user_file.bytes refl)))

are_loaded : AreLoaded worked_calls trees
are_loaded = record {
  loadable = loadable stub_file refl (omega arith) (bytes_are stub_file.bytes refl);
  loadable_whole = loadable library_module refl (omega arith) (bytes_are library_module.bytes refl);
  stub = one_loaded stub_file stub_part.wasm stub_held stub linked.stub_is stub_runs;
  client = two_loaded stub_file user_file stub_part.wasm user_part.wasm stub_held user_held client linked.client_is client_runs;
  library = one_loaded library_module library_part.wasm library_held library linked.library_is library_runs;
  whole = two_loaded library_module user_file library_part.wasm user_part.wasm library_held user_held both_linked linked.whole_is whole_runs;
}

-- ---- they keep to the interface

interface_read : IsFileOf interface_file.bytes iface
interface_read = record { says = refl; distinct = λ i j d less lt. absurd (omega (arith, less, lt)) }

abbrev Wants : Module → Type 0
Wants wasm = All (IsWanted (user_file ∷ []) iface) wasm.imports

keep : KeepTo worked_calls iface trees
keep = record {
  imports = one (λ (file : File). (wasm : Module) → Spells file.bytes wasm → Wants wasm) user_file
      (λ wasm spelled. subst Wants (one_spelled user_file.bytes user_part.wasm wasm user_read spelled) (one (IsWanted (user_file ∷ []) iface) wanted (inr refl)));
  names = names;
}

-- ---- protects: nothing is loaded, so that none is needed

abbrev none : ℕ → Bool
none s = false

-- what is asked to be transient, of a program without loads
record IsQuiet (asked : Asked) (program : Program) : Type 0 where
  loads : (s : ℕ) → IsLoad program s → ⊥
  given : (x : ℕ) → IsTrue (asked.transient x) → ⊥
  light : weight_of program none ≡ 0

module _ (asked : Asked) (program : Program) (is : IsQuiet asked program) where
  flows : (set : ℕ → Bool) → FlowsUnder asked program none set
  flows set = record {
    assigns = record {
      loads = λ s x load writes free. absurd (is.loads s load);
      moves = λ s x y reads writes free transient. absurd (false≢true transient);
      given = λ x asks. absurd (is.given x asks);
    };
    sinks = λ position x reads. refl;
    stable = λ x asks. refl;
  }

  none_transient : (x : ℕ) → TransUnder asked program none x → ⊥
  none_transient x (loaded s _ load writes free) = is.loads s load
  none_transient x (moved s y _ reads writes free t) = none_transient y t
  none_transient x (given _ asks) = is.given x asks

  least : LeastUnder asked program none
  least = record {
    sites = λ s h. absurd (false≢true h);
    passes = (none, flows none);
    lightest = λ other sites passes. subst (λ (w : ℕ). w ≤ weight_of program other) (sym is.light) (omega arith);
    nearest = λ other sites passes same x t. absurd (none_transient x t);
  }

-- of each command that it is no load
abbrev Loadless : List Command → Type 0
Loadless [] = Unit {0}
Loadless (command ∷ commands) = (Loads command → ⊥) × Loadless commands

no_load : (commands : List Command) → Loadless commands → (s : ℕ) → IsSomeAnd (slice_get commands s) Loads → ⊥
no_load [] h s load = load
no_load (command ∷ commands) h zero load = h.0 load
no_load (command ∷ commands) h (suc s) load = no_load commands h.1 s load

first_true : (a : Bool) → (a || false) ≡ true → a ≡ true
first_true true h = refl
first_true false h = h

not_called : (flows : List Flow) → ((k : ℕ) → is_flow flow.Transient (slice_get flows k) ≡ false) → (first x : ℕ) → is_called flow.Transient flows first x ≡ true → ⊥
not_called flows none_so first x h = by (nat_le first x) (is_flow flow.Transient (slice_get flows (x - first))) (none_so (x - first)) h
  where
    by : (a b : Bool) → b ≡ false → (a && b) ≡ true → ⊥
    by true b e h = false≢true (sym e ∙ h)
    by false b e h = false≢true h

all_stable : (k : ℕ) → is_flow flow.Transient (slice_get (flow.Stable ∷ []) k) ≡ false
all_stable zero = refl
all_stable (suc k) = refl

client_loads : Loadless (low_tree client).commands
client_loads =
    (λ l. l, (λ l. l, (λ l. l, (λ l. l, (λ l. l, (λ l. l, (λ l. l, (λ l. l, (λ l. l, (λ l. l, (λ l. l, (λ l. l, (λ l. l, (λ l. l, (λ l. l, (λ l. l, tt))))))))))))))))

library_loads : Loadless (low_tree library).commands
library_loads = (λ l. l, (λ l. l, (λ l. l, (λ l. l, (λ l. l, (λ l. l, (λ l. l, (λ l. l, (λ l. l, (λ l. l, (λ l. l, tt)))))))))))

client_quiet : IsQuiet (asked Client iface (low_tree client)) (low_tree client)
client_quiet = record {
  loads = no_load (low_tree client).commands client_loads;
  given = λ x asks. not_called (flow.Stable ∷ []) all_stable (result (low_tree client) 0 0) x (first_true _ asks);
  light = refl;
}

library_quiet : IsQuiet (asked Library iface (low_tree library)) (low_tree library)
library_quiet = record {
  loads = no_load (low_tree library).commands library_loads;
  given = λ x asks. not_called [] (λ k. refl) (param (low_tree library) 0 0) x (first_true _ asks);
  light = refl;
}

-- ---- parts

client_short : length (low_tree client).commands ≤ limit_of quantity.Commands
client_short = leb-true _ _ refl

library_short : length (low_tree library).commands ≤ limit_of quantity.Commands
library_short = leb-true _ _ refl

client_is : Image (low_tree client) client_image.bytes
client_is = record { is_program = facts client client_runs; spelled = client_spelled }

library_is : Image (low_tree library) library_image.bytes
library_is = record { is_program = facts library library_runs; spelled = library_spelled }

client_matches : Matches (low_tree client) iface
client_matches = one (IsMatched (low_tree client)) _ (refl, refl)

library_matches : Matches (low_tree library) iface
library_matches = one (IsMatched (low_tree library)) _ (refl, refl)

module _ (role : Role) (files : List File) (tree : Tree) (image : File) (loads : loading.Passes (modules_in files) tree) (can_run : IsLinked tree)
    (few : length (low_tree tree).commands ≤ limit_of quantity.Commands) (is : Image (low_tree tree) image.bytes) (short : length image.bytes ≤ limit_of quantity.Image)
    (matches : Matches (low_tree tree) iface) (quiet : IsQuiet (asked role iface (low_tree tree)) (low_tree tree)) (bare : low_tree tree ≡ protected none (low_tree tree)) where
  abbrev built : Built
  built = record { program = low_tree tree; image = image.bytes }

  abbrev parted : Parted
  parted = record { program = low_tree tree; image = image.bytes }

  passes : (parting role interface_file.bytes).Passes (modules_in files) parted
  passes = (
    built,
    (tree, loads, (low_tree tree, (refl, few), record { is_program = refl; image = is; short = short })),
    (
      parted,
      (
        side_of (low_tree tree) iface,
        (iface, interface_read, refl),
        (
          side_of (low_tree tree) iface,
          (refl, matches),
          record {
            range = in_range (low_tree tree) is.is_program (rules tree can_run few);
            set = none;
            least = least (asked role iface (low_tree tree)) (low_tree tree) quiet;
            is_program = bare;
            image = is;
          },
        ),
      ),
      refl,
    ),
  )

  part_keeps : Keeps (part_job (part_call role interface_file image files)) (interface_file.bytes ∷ contents_of files) image
  part_keeps = record {
    plan = part_plan (part_call role interface_file image files) parted;
    does = record { made = parted; passes = passes; plans = refl };
    status = refl;
    kept = refl;
  }

-- ---- what is joined

abbrev program : Program
program = joined (low_tree client) (low_tree library) iface

program_is : Image program joined_image.bytes
program_is = record { is_program = joined_is (low_tree client) (low_tree library) iface client_is.is_program library_is.is_program; spelled = joined_spelled }

bare_quiet : (asks : Asked) (part : Program) → IsQuiet asks part → IsQuiet nothing part
bare_quiet asks part is = record { loads = is.loads; given = λ x h. false≢true h; light = is.light }

abbrev Sided : Role → Program → FnIface → Type 0
Sided role part one = (f : ℕ) → exported part.exports one.name ≡ Some f → KeepsRole role one part none f

not_transient : (i : ℕ) → ◌≡◌ {A = Option Flow} (slice_get (flow.Stable ∷ []) i) (Some flow.Transient) → ⊥
not_transient zero e = cc
not_transient (suc i) e = none-some flow.Transient e

client_passes : PassesAs Client iface (low_tree client) (is_protected (low_tree client))
client_passes = (
  none,
  record {
    flows = flows nothing (low_tree client) (bare_quiet (asked Client iface (low_tree client)) (low_tree client) client_quiet) (is_protected (low_tree client));
    sides = one (Sided Client (low_tree client)) _ (λ f e. (λ i stable. refl, λ i transient. absurd (not_transient i transient)));
  },
)

library_passes : PassesAs Library iface (low_tree library) (is_protected (low_tree library))
library_passes = (
  none,
  record {
    flows = flows nothing (low_tree library) (bare_quiet (asked Library iface (low_tree library)) (low_tree library) library_quiet) (is_protected (low_tree library));
    sides = one (Sided Library (low_tree library)) _ (λ f e. (λ i transient. absurd (none-some flow.Transient transient), λ i stable. refl));
  },
)

abbrev sides : Sides
sides = sides_of (pair_of (low_tree client) (low_tree library)) iface

abbrev union : Built
union = record { program = program; image = joined_image.bytes }

joins : (joining interface_file.bytes library_image.bytes).Passes client_image.bytes (whole union)
joins = (
  pair_of (low_tree client) (low_tree library),
  (
    low_tree client,
    record { image = client_is; rules = rules client client_runs client_short },
    (low_tree library, record { image = library_is; rules = rules library library_runs library_short }, refl),
  ),
  (
    sides,
    (iface, interface_read, refl),
    (
      sides,
      (sides, (client_side sides, (refl, client_matches), refl), (library_side sides, (refl, library_matches), refl)),
      (
        sides,
        (refl, can_join.types),
        are_joined union (record { client = client_passes; library = library_passes }) can_join (record { is_program = refl; image = program_is; short = omega arith }),
      ),
    ),
  ),
)

kept : AreKept worked_calls
kept = record {
  client = part_keeps Client (stub_file ∷ user_file ∷ []) client client_image are_loaded.client client_runs client_short client_is (omega arith) client_matches client_quiet refl;
  library = part_keeps Library (library_module ∷ []) library library_image are_loaded.library library_runs library_short library_is (omega arith) library_matches library_quiet refl;
  joined = record {
    plan = join_plan (join_call worked_calls) (whole union);
    does = record { made = whole union; passes = joins; plans = refl };
    status = refl;
    kept = refl;
  };
}

-- ---- what g returns

-- entering g, its call, entering the library's f, its constant, and both returns
returns_seven : source both_linked 1 plain_start 6 (returned (7 ∷ []) (record { pages = 0; bytes = [] } ∷ []))
returns_seven = record {
  start_fits = record {
    function = function 1 (Call 0 ∷ []);
    exists = refl;
    type = _;
    typed = refl;
    fits = record { arguments = tt; patches = All-nil (PatchFits (0 ∷ [])) };
  };
  run = more 5 _ _ _ refl (more 4 _ _ _ refl (more 3 _ _ _ refl (more 2 _ _ _ refl (more 1 _ _ _ refl (last _ _ refl)))));
}

-- what ends alike returns the same values
module _ (numbers : Numbers) (program : Program) (number : ℕ) (start : Start) (commands : ℕ) (values : List ℕ) (memories : List MemoryState) where
  same_values : (o : Outcome) → plain program number start commands o → Alike numbers (returned values memories) o → (states : List MemoryState) × plain program number start commands (returned values states)
  same_values (returned others states) run alike = (states, subst (λ (v : List ℕ). plain program number start commands (returned v states)) alike.0 run)
  same_values (trapped kind states) run alike = absurd alike

ends : EndsAsLinked trees iface program (codes "main/g") 1
ends = joined_ends worked_calls iface trees program program kept interface_read are_loaded keep program_is refl (codes "main/g") 1 refl own

returns_too : Returns trees program (codes "main/g") (7 ∷ [])
returns_too =
    let memories : List MemoryState = record { pages = 0; bytes = [] } ∷ [] in
    let run = ends.alike.follows plain_start 6 (returned (7 ∷ []) memories) returns_seven in
    let same = same_values (numbers_in trees) program 1 plain_start run.0 (7 ∷ []) memories run.1 run.2 run.3 in
    record {
      function = 1;
      number = 1;
      steps = 6;
      commands = run.0;
      memories = memories;
      states = same.0;
      stands = refl;
      exported = ends.exported;
      linked = returns_seven;
      joined = same.1;
    }

pub are_met : AreMet worked_calls (codes "main/g") (7 ∷ [])
are_met = record {
  iface = iface;
  trees = trees;
  program = program;
  kept = kept;
  file = interface_read;
  loaded = are_loaded;
  keep = keep;
  image = program_is;
  own = own;
  returns = returns_too;
}
