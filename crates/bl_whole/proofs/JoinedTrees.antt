-- Joining commutes with lowering.
use Rattle.std.proofs.Common.{◌≡◌, ℕ, suc, ◌+◌, ◌-◌, Bool, true, false, cond, List, [], ◌∷◌, ◌++◌, length, map, take, Option, Some, slice_get, refl, sym, ap, ap₂, ◌∙◌, arith}
use Rattle.std.specs.Prelude.{not}
use Rattle.std.specs.List.{All, filter}
use Rattle.std.proofs.lemmas.List.{length-map, map-append, append-nil, append_assoc}
use Rattle.std.proofs.lemmas.List.Elements.{filter-append}
use Rattle.std.proofs.lemmas.Option.{slice_get_within}
use Rattle.bl_base.proofs.Lists.{all_get}
use Rattle.bl_base.specs.Trap.{kinds}
use Rattle.bl_wasm.specs.Linked.{IsFunction, IsLinked}
use Rattle.bl_wasm.specs.declared.linked.Function.{Function}
use Rattle.bl_wasm.specs.declared.linked.Global.{Global}
use Rattle.bl_wasm.specs.declared.linked.Signature.{Signature}
use Rattle.bl_wasm.specs.declared.linked.Tree.{Tree}
use Rattle.bl_program.specs.Layout.{first_of, statics as statics_of}
use Rattle.bl_program.specs.declared.command.Command.{Command}
use Rattle.bl_program.specs.declared.command.Command.TheVariants.{Trap}
use Rattle.bl_program.specs.declared.definitions.Demand.{Demand}
use Rattle.bl_program.specs.declared.definitions.Demand.TheVariants as demand
use Rattle.bl_program.specs.declared.definitions.ExportDef.{ExportDef}
use Rattle.bl_program.specs.declared.definitions.FunctionDef.{FunctionDef}
use Rattle.bl_program.specs.declared.definitions.ProgramParts.{ProgramParts as Program}
use Rattle.bl_emit.specs.Numbers.{function_size, function_variables}
use Rattle.bl_lower.specs.Trees.{demanded_from, demanded_results, export_def, function_def, global_def, low_function, low_functions, low_tree, memory_def, params_by, results_by}
use Rattle.bl_iface.specs.JoinedProgram.{HasSameTypes, Renaming, client_numbers, is_named, is_result, joined, library_numbers, library_shift, moved_demand, moved_export}
use Rattle.bl_iface.specs.declared.iface.Iface.{Iface}
use Rattle.bl_wasm.specs.IndexMaps.{Names}
use Rattle.bl_rename.specs.Renamings.{function_by}
use Rattle.bl_whole.specs.JoinedTree.{behind, client_names, joined_tree, kept_in, library_names}
use Rattle.bl_whole.proofs.PartTrees.{Placed, size_same, variables_same}
use Rattle.bl_whole.proofs.PartCommands.{functions_are}
use Rattle.bl_whole.proofs.JoinedPlaces.{mine_long, our_place, their_place}
use Rattle.bl_whole.proofs.JoinedNumbers.{our_numbers, their_numbers}

-- ---- lists that are put together

functions_both : (tree : Tree) (xs ys : List Function) (k j : ℕ) → j ≡ k + length xs → low_functions tree k (xs ++ ys) ≡ low_functions tree k xs ++ low_functions tree j ys
functions_both tree [] ys k j e = let same : k ≡ j = omega arith in ap (λ k. low_functions tree k ys) same
functions_both tree (x ∷ xs) ys k j e =
    ap (λ (l : List Command). low_function tree k x ++ l) (functions_both tree xs ys (suc k) j (omega arith))
    ∙ sym (append_assoc (low_function tree k x) (low_functions tree (suc k) xs) (low_functions tree j ys))

flags_both : (named : ℕ → Demand) (xs ys : List Bool) (k j : ℕ) → j ≡ k + length xs → demanded_from named k (xs ++ ys) ≡ demanded_from named k xs ++ demanded_from named j ys
flags_both named [] ys k j e = let same : k ≡ j = omega arith in ap (λ k. demanded_from named k ys) same
flags_both named (true ∷ xs) ys k j e = ap (λ l. named k ∷ l) (flags_both named xs ys (suc k) j (omega arith))
flags_both named (false ∷ xs) ys k j e = flags_both named xs ys (suc k) j (omega arith)

results_both : (xs ys : List Function) (k j : ℕ) → j ≡ k + length xs → demanded_results k (xs ++ ys) ≡ demanded_results k xs ++ demanded_results j ys
results_both [] ys k j e = let same : k ≡ j = omega arith in ap (λ k. demanded_results k ys) same
results_both (x ∷ xs) ys k j e =
    ap (λ (l : List Demand). demanded_from (demand.Result k) 0 x.demanded ++ l) (results_both xs ys (suc k) j (omega arith))
    ∙ sym (append_assoc (demanded_from (demand.Result k) 0 x.demanded) (demanded_results (suc k) xs) (demanded_results j ys))

-- ---- demands

demands_moved : (names : Names) (memories tables : ℕ) (functions : List Function) (k : ℕ) → demanded_results k (map (function_by (behind names memories tables)) functions) ≡ demanded_results k functions
demands_moved names memories tables [] k = refl
demands_moved names memories tables (function ∷ functions) k =
    ap (λ (l : List Demand). demanded_from (demand.Result k) 0 function.demanded ++ l) (demands_moved names memories tables functions (suc k))

module _ (client : Program) where
  one_shifted : (function index : ℕ) (flags : List Bool) → map (moved_demand (library_shift client)) (demanded_from (demand.Result function) index flags) ≡ demanded_from (demand.Result (length client.functions + function)) index flags
  one_shifted function index [] = refl
  one_shifted function index (true ∷ flags) = ap (λ l. demand.Result (length client.functions + function) index ∷ l) (one_shifted function (suc index) flags)
  one_shifted function index (false ∷ flags) = one_shifted function (suc index) flags

  results_shifted : (k j : ℕ) (functions : List Function) → j ≡ length client.functions + k → map (moved_demand (library_shift client)) (demanded_results k functions) ≡ demanded_results j functions
  results_shifted k j [] e = refl
  results_shifted k j (function ∷ functions) e =
      map-append (moved_demand (library_shift client)) (demanded_from (demand.Result k) 0 function.demanded) (demanded_results (suc k) functions)
      ∙ ap₂ (λ (x y : List Demand). x ++ y) (one_shifted k 0 function.demanded ∙ ap (λ n. demanded_from (demand.Result n) 0 function.demanded) (sym e))
      (results_shifted (suc k) (suc j) functions (omega arith))

  globals_shifted : (k j : ℕ) (flags : List Bool) → j ≡ length client.globals + k → map (moved_demand (library_shift client)) (demanded_from demand.Global k flags) ≡ demanded_from demand.Global j flags
  globals_shifted k j [] e = refl
  globals_shifted k j (true ∷ flags) e = ap₂ (λ n l. demand.Global n ∷ l) (sym e) (globals_shifted (suc k) (suc j) flags (omega arith))
  globals_shifted k j (false ∷ flags) e = globals_shifted (suc k) (suc j) flags (omega arith)

one_results : (function index : ℕ) (flags : List Bool) → filter is_result (demanded_from (demand.Result function) index flags) ≡ demanded_from (demand.Result function) index flags
one_results function index [] = refl
one_results function index (true ∷ flags) = ap (λ l. demand.Result function index ∷ l) (one_results function (suc index) flags)
one_results function index (false ∷ flags) = one_results function (suc index) flags

one_none : (function index : ℕ) (flags : List Bool) → filter (λ one. not (is_result one)) (demanded_from (demand.Result function) index flags) ≡ []
one_none function index [] = refl
one_none function index (true ∷ flags) = one_none function (suc index) flags
one_none function index (false ∷ flags) = one_none function (suc index) flags

all_results : (k : ℕ) (functions : List Function) → filter is_result (demanded_results k functions) ≡ demanded_results k functions
all_results k [] = refl
all_results k (function ∷ functions) =
    filter-append is_result (demanded_from (demand.Result k) 0 function.demanded) (demanded_results (suc k) functions)
    ∙ ap₂ (λ (x y : List Demand). x ++ y) (one_results k 0 function.demanded) (all_results (suc k) functions)

no_results : (k : ℕ) (functions : List Function) → filter (λ one. not (is_result one)) (demanded_results k functions) ≡ []
no_results k [] = refl
no_results k (function ∷ functions) =
    filter-append (λ one. not (is_result one)) (demanded_from (demand.Result k) 0 function.demanded) (demanded_results (suc k) functions)
    ∙ ap₂ (λ (x y : List Demand). x ++ y) (one_none k 0 function.demanded) (no_results (suc k) functions)

all_globals : (k : ℕ) (flags : List Bool) → filter (λ one. not (is_result one)) (demanded_from demand.Global k flags) ≡ demanded_from demand.Global k flags
all_globals k [] = refl
all_globals k (true ∷ flags) = ap (λ l. demand.Global k ∷ l) (all_globals (suc k) flags)
all_globals k (false ∷ flags) = all_globals (suc k) flags

no_globals : (k : ℕ) (flags : List Bool) → filter is_result (demanded_from demand.Global k flags) ≡ []
no_globals k [] = refl
no_globals k (true ∷ flags) = no_globals (suc k) flags
no_globals k (false ∷ flags) = no_globals (suc k) flags

-- the demands of results and of globals, apart
front_only : (k j : ℕ) (functions : List Function) (flags : List Bool) → filter is_result (demanded_results k functions ++ demanded_from demand.Global j flags) ≡ demanded_results k functions
front_only k j functions flags =
    filter-append is_result (demanded_results k functions) (demanded_from demand.Global j flags)
    ∙ ap₂ (λ (x y : List Demand). x ++ y) (all_results k functions) (no_globals j flags) ∙ append-nil (demanded_results k functions)

back_only : (k j : ℕ) (functions : List Function) (flags : List Bool) → filter (λ one. not (is_result one)) (demanded_results k functions ++ demanded_from demand.Global j flags) ≡ demanded_from demand.Global j flags
back_only k j functions flags =
    filter-append (λ one. not (is_result one)) (demanded_results k functions) (demanded_from demand.Global j flags)
    ∙ ap₂ (λ (x y : List Demand). x ++ y) (no_results k functions) (all_globals j flags)

-- ---- exports

pub kept_same : (iface : Iface) (exports : List (List ℕ × ℕ)) → filter (λ (export : ExportDef). not (is_named iface.functions export.name)) (map export_def exports) ≡ map export_def (kept_in iface exports)
kept_same iface [] = refl
kept_same iface (pair ∷ exports) =
    ap (λ l. cond (not (is_named iface.functions pair.0)) (export_def pair ∷ l) l) (kept_same iface exports) ∙ by (not (is_named iface.functions pair.0)) (kept_in iface exports)
  where
    by : (b : Bool) (l : List (List ℕ × ℕ)) → cond b (export_def pair ∷ map export_def l) (map export_def l) ≡ map export_def (cond b (pair ∷ l) l)
    by true l = refl
    by false l = refl

exports_moved : (k j : ℕ) (exports : List (List ℕ × ℕ)) → k ≡ j → map (moved_export k) (map export_def exports) ≡ map export_def (map (λ pair. (pair.0, j + pair.1)) exports)
exports_moved k j [] e = refl
exports_moved k j (pair ∷ exports) e =
    ap₂ (λ (n : ℕ) (l : List ExportDef). let x : ExportDef = record { name = pair.0; function = n + pair.1 } in x ∷ l) e (exports_moved k j exports e)

-- ---- functions

module _ (part whole : Tree) (names : Names) (memories tables : ℕ) (at_ : ℕ → ℕ) (linked : IsLinked part) (placed : Placed part whole names memories tables at_) (numbers : Renaming) where
  defined_same : (f : ℕ) (function : Function) → slice_get part.functions f ≡ Some function → function_def whole (function_by (behind names memories tables) function) ≡ function_def part function
  defined_same f function e =
      let is = all_get (IsFunction part) part.functions f function linked.functions e in
      let typed = placed.types function.type_index (slice_get_within part.types function.type_index is.type is.exists) in
      let vars = variables_same part whole names memories tables at_ linked placed numbers 0 0 f function e in
      let size = size_same part whole names memories tables at_ linked placed numbers 0 0 f function e in
      ap (λ (o : Option Signature). let d : FunctionDef = record { params = params_by o function.labels; results = results_by o; vars = function_variables whole (function_by (behind names memories tables) function); length = function_size whole (function_by (behind names memories tables) function) } in d) typed
      ∙ ap₂ (λ (v k : ℕ). let d : FunctionDef = record { params = params_by (slice_get part.types function.type_index) function.labels; results = results_by (slice_get part.types function.type_index); vars = v; length = k } in d) vars size

  defined_from : (functions : List Function) (k : ℕ) → ((i : ℕ) (function : Function) → slice_get functions i ≡ Some function → slice_get part.functions (k + i) ≡ Some function)
      → map (function_def whole) (map (function_by (behind names memories tables)) functions) ≡ map (function_def part) functions
  defined_from [] k has = refl
  defined_from (function ∷ functions) k has =
      ap₂ (λ (x : FunctionDef) (l : List FunctionDef). x ∷ l) (defined_same (k + 0) function (has 0 function refl))
      (defined_from functions (suc k) (λ i g e. let shifted : suc k + i ≡ k + suc i = omega arith in ap (slice_get part.functions) shifted ∙ has (suc i) g e))

  defined : map (function_def whole) (map (function_by (behind names memories tables)) part.functions) ≡ map (function_def part) part.functions
  defined = defined_from part.functions 0 (λ i function e. let same : 0 + i ≡ i = omega arith in ap (slice_get part.functions) same ∙ e)

-- ---- the whole

module _ (client library : Tree) (iface : Iface) (linked : IsLinked client) (others : IsLinked library) (types : All (HasSameTypes (low_tree client) (low_tree library)) iface.functions) where
  abbrev W : Tree
  W = joined_tree client library iface

  abbrev P : Program
  P = low_tree client

  abbrev Q : Program
  Q = low_tree library

  abbrev ours : Names
  ours = client_names iface client library

  abbrev theirs : Names
  theirs = library_names client

  abbrev mine : List Function
  mine = map (function_by (behind ours 0 0)) client.functions

  abbrev its : List Function
  its = map (function_by (behind theirs (length client.memories) (length client.tables))) library.functions

  abbrev Sits_ : ℕ → ℕ
  Sits_ f = length client.functions + f

  commands_same : (joined P Q iface).commands ≡ (low_tree W).commands
  commands_same =
      let first = functions_are client W ours 0 0 (λ f. f) linked (our_place client library iface linked others types) (client_numbers iface P Q) (statics_of Q) 0 (our_numbers client library iface linked others types) in
      let second = functions_are library W theirs (length client.memories) (length client.tables) Sits_ others (their_place client library iface linked others types) (library_numbers P Q)
      (first_of P (length P.functions)) (length P.commands - 7) (their_numbers client library iface linked others types) in
      let long = mine_long client library iface linked others types in
      ap (λ (l : List Command). map Trap (take 7 kinds) ++ l)
      (ap₂ (λ (x y : List Command). x ++ y) first second ∙ sym (functions_both W mine its 0 (length client.functions + 0) (omega arith)))

  functions_same : (joined P Q iface).functions ≡ (low_tree W).functions
  functions_same =
      ap₂ (λ (x y : List FunctionDef). x ++ y)
      (sym (defined client W ours 0 0 (λ f. f) linked (our_place client library iface linked others types) (client_numbers iface P Q)))
      (sym (defined library W theirs (length client.memories) (length client.tables) Sits_ others (their_place client library iface linked others types) (library_numbers P Q)))
      ∙ sym (map-append (function_def W) mine its)

  exports_same : (joined P Q iface).exports ≡ (low_tree W).exports
  exports_same =
      ap₂ (λ (x y : List ExportDef). x ++ y) (kept_same iface client.exports) (exports_moved (length P.functions) (length client.functions) library.exports (length-map client.functions (function_def client)))
      ∙ sym (map-append export_def (kept_in iface client.exports) (map (λ pair. (pair.0, length client.functions + pair.1)) library.exports))

  demands_same : (joined P Q iface).demands ≡ (low_tree W).demands
  demands_same =
      let flags = map (λ (global : Global). global.demanded) client.globals in
      let others_flags = map (λ (global : Global). global.demanded) library.globals in
      let long = length-map client.functions (function_def client) in
      let many = length-map client.globals global_def in
      let flags_long = length-map client.globals (λ (global : Global). global.demanded) in
      let mine_is = mine_long client library iface linked others types in
      let moved : map (moved_demand (library_shift P)) Q.demands ≡ demanded_results (length client.functions + 0) library.functions ++ demanded_from demand.Global (length client.globals + 0) others_flags
      = map-append (moved_demand (library_shift P)) (demanded_results 0 library.functions) (demanded_from demand.Global 0 others_flags)
      ∙ ap₂ (λ (x y : List Demand). x ++ y) (results_shifted P 0 (length client.functions + 0) library.functions (omega arith)) (globals_shifted P 0 (length client.globals + 0) others_flags (omega arith)) in
      ap₂ (λ (x y : List Demand). x ++ y)
      (ap₂ (λ (x y : List Demand). x ++ y) (front_only 0 0 client.functions flags) (ap (filter is_result) moved ∙ front_only (length client.functions + 0) (length client.globals + 0) library.functions others_flags)
      ∙ ap₂ (λ (x y : List Demand). x ++ y) (sym (demands_moved ours 0 0 client.functions 0)) (sym (demands_moved theirs (length client.memories) (length client.tables) library.functions (length client.functions + 0)))
      ∙ sym (results_both mine its 0 (length client.functions + 0) (omega arith)))
      (ap₂ (λ (x y : List Demand). x ++ y) (back_only 0 0 client.functions flags)
      (ap (filter (λ one. not (is_result one))) moved ∙ back_only (length client.functions + 0) (length client.globals + 0) library.functions others_flags)
      ∙ sym (flags_both demand.Global flags others_flags 0 (length client.globals + 0) (omega arith))
      ∙ ap (demanded_from demand.Global 0) (sym (map-append (λ (global : Global). global.demanded) client.globals library.globals)))

  pub joined_low : joined (low_tree client) (low_tree library) iface ≡ low_tree (joined_tree client library iface)
  joined_low =
      let globals = sym (map-append global_def client.globals library.globals) in
      let memories = sym (map-append memory_def client.memories library.memories) in
      let a = functions_same in
      let b = exports_same in
      let c = commands_same in
      let d = demands_same in
      cc
