-- A user of one function, its stub and its library: what the laws of joined images ask of modules can be met.
use Rattle.std.proofs.Common.{◌≡◌, ◌∙◌, refl, sym, ap, subst, ℕ, zero, suc, ◌^◌, ◌<◌, ◌≤◌, ◌||◌, Bool, List, [], ◌∷◌, length, true, false, codes, Some, None, slice_get, inr, arith}
use Rattle.std.specs.Prelude.{option_map}
use Rattle.std.specs.List.{All}
use Rattle.std.specs.Str.{bytes_eq}
use Rattle.std.proofs.lemmas.Bool.{false≢true, leb-true}
use Rattle.std.proofs.lemmas.List.Elements.{All-cons, All-from_recursion, All-nil}
use Rattle.std.proofs.lemmas.Option.{none-some, same_Some}
use Rattle.std.proofs.lemmas.Slice.Eq.{bytes_eq-Decides}
use Rattle.bl_base.specs.Fits.{AreBytes}
use Rattle.bl_base.specs.Quantity.{limit_of}
use Rattle.bl_base.specs.declared.names.Label.TheVariants as label
use Rattle.bl_base.specs.declared.names.Flow.TheVariants as flow
use Rattle.bl_base.specs.declared.names.ValueType.TheVariants as value
use Rattle.bl_base.specs.declared.quantity.Quantity.TheVariants as quantity
use Rattle.bl_wasm.specs.Exports.{value_named}
use Rattle.bl_wasm.specs.Limits.{local_count}
use Rattle.bl_wasm.specs.Linked.{HasImmediates}
use Rattle.bl_wasm.specs.Validity.{HasIntegers, HasTyping, IsCode, IsData, IsElement, IsFunctionType, IsInitial, IsInteger, IsLimits, IsMemory, Typed, functions_of, global_of, globals_of, imported, memories_of, space_of, tables_of}
use Rattle.bl_wasm.specs.declared.instruction.Instr.{Instr}
use Rattle.bl_wasm.specs.declared.instruction.Instr.TheVariants.{Call, I32Const}
use Rattle.bl_wasm.specs.declared.linked.Function.{Function}
use Rattle.bl_wasm.specs.declared.linked.Tree.{Tree}
use Rattle.bl_wasm.specs.declared.module.Code.{Code}
use Rattle.bl_wasm.specs.declared.module.DataSegment.{DataSegment}
use Rattle.bl_wasm.specs.declared.module.DefinedGlobal.{DefinedGlobal}
use Rattle.bl_wasm.specs.declared.module.Export.{Export}
use Rattle.bl_wasm.specs.declared.module.ExportKind.TheVariants as export
use Rattle.bl_wasm.specs.declared.module.Import.{Import}
use Rattle.bl_wasm.specs.declared.module.ImportKind.TheVariants as import
use Rattle.bl_wasm.specs.declared.module.LocalRun.{LocalRun}
use Rattle.bl_wasm.specs.declared.module.Module.{Module}
use Rattle.bl_wasm.specs.declared.types.FuncType.{FuncType}
use Rattle.bl_wasm.specs.declared.types.GlobalType.{GlobalType}
use Rattle.bl_wasm.specs.declared.types.Limits.{Limits}
use Rattle.bl_wasm.specs.declared.types.WasmType.TheVariants.{I32}
use Rattle.bl_labels.specs.LabelledPlaces.{unlabelled}
use Rattle.bl_link.specs.Linkable.{AreParts, IsPart, IsSound, NoSolidus}
use Rattle.bl_link.specs.Links.{part_of}
use Rattle.bl_link.specs.declared.part.Part.{Part}
use Rattle.bl_program.specs.declared.definitions.ExportDef.{ExportDef}
use Rattle.bl_lower.specs.Trees.{low_tree}
use Rattle.bl_iface.specs.JoinedProgram.{CanJoin, HasSameTypes, IsNew, IsWithin, kept, sums, types_of}
use Rattle.bl_iface.specs.declared.iface.FnIface.{FnIface}
use Rattle.bl_iface.specs.declared.iface.Iface.{Iface}
use Rattle.bl_whole.specs.JoinedTree.{joined_tree}
use Rattle.bl_apart.specs.BesideStores.{Exports}
use Rattle.bl_apart.specs.LinkedApart.{AreLinked, AreUsers, IsExported, IsGiven, IsOwn}
use Rattle.bl_apart.proofs.JoinedExports.{export_kept}
use Rattle.bl_app.proofs.JoinedUsers.{AreBoth, StandFor}

-- ---- the modules

-- from nothing to an i32
abbrev pub type : FuncType
type = record { params = []; results = I32 ∷ [] }

-- a module of one function, which it exports
abbrev pub made : List Import → List Limits → List Instr → List ℕ → ℕ → Module
made imports memories items name index = record {
  types = type ∷ [];
  imports = imports;
  functions = 0 ∷ [];
  tables = [];
  memories = memories;
  globals = [];
  exports = record { name = name; kind = export.Function; index = index } ∷ [];
  start = None;
  elements = [];
  bodies = record { locals = []; items = items } ∷ [];
  segments = [];
  customs = [];
}

abbrev pub room : Limits
room = record { min = 0; max = Some 1 }

abbrev pub wanted : Import
wanted = record { from = codes "lib"; name = codes "f"; kind = import.Function 0 }

-- f is 0 in the stub, and 7 in the library, which has a memory; g calls f
abbrev pub stub_part : Part
stub_part = part_of (codes "lib") (made [] [] (I32Const 0 ∷ []) (codes "f") 0) unlabelled

abbrev pub library_part : Part
library_part = part_of (codes "lib") (made [] (room ∷ []) (I32Const 7 ∷ []) (codes "f") 0) unlabelled

abbrev pub user_part : Part
user_part = part_of (codes "main") (made (wanted ∷ []) [] (Call 0 ∷ []) (codes "g") 1) unlabelled

abbrev pub iface : Iface
iface = record { functions = record { name = codes "lib/f"; params = []; results = flow.Stable ∷ [] } ∷ [] }

-- ---- the trees

abbrev pub function : ℕ → List Instr → Function
function index items = record { type_index = index; labels = []; demanded = false ∷ []; code = record { locals = []; items = items }; memory = None; table = None }

abbrev pub stub : Tree
stub = record {
  types = record { params = []; results = value.I32 ∷ [] } ∷ [];
  functions = function 0 (I32Const 0 ∷ []) ∷ [];
  globals = [];
  memories = [];
  tables = [];
  exports = (codes "lib/f", 0) ∷ [];
}

abbrev pub client : Tree
client = record {
  types = record { params = []; results = value.I32 ∷ [] } ∷ record { params = []; results = value.I32 ∷ [] } ∷ [];
  functions = function 0 (I32Const 0 ∷ []) ∷ function 1 (Call 0 ∷ []) ∷ [];
  globals = [];
  memories = [];
  tables = [];
  exports = (codes "lib/f", 0) ∷ (codes "main/g", 1) ∷ [];
}

abbrev pub library : Tree
library = record {
  types = record { params = []; results = value.I32 ∷ [] } ∷ [];
  functions = record (function 0 (I32Const 7 ∷ [])) { memory = Some 0 } ∷ [];
  globals = [];
  memories = record { pages = 0; reserve = 1; label = label.Public; bytes = [] } ∷ [];
  tables = [];
  exports = (codes "lib/f", 0) ∷ [];
}

abbrev pub whole : Tree
whole = record {
  types = record { params = []; results = value.I32 ∷ [] } ∷ record { params = []; results = value.I32 ∷ [] } ∷ [];
  functions = record (function 0 (I32Const 7 ∷ [])) { memory = Some 0 } ∷ function 1 (Call 0 ∷ []) ∷ [];
  globals = [];
  memories = record { pages = 0; reserve = 1; label = label.Public; bytes = [] } ∷ [];
  tables = [];
  exports = (codes "lib/f", 0) ∷ (codes "main/g", 1) ∷ [];
}

-- ---- they are parts

pub one : {A : Type 0} (P : A → Type 0) (x : A) → P x → All P (x ∷ [])
one P x h = All-cons P x [] h (All-nil P)

alone : {A : Type 0} (x : A) (i j : ℕ) (a b : A) → slice_get (x ∷ []) i ≡ Some a → slice_get (x ∷ []) j ≡ Some b → i ≡ j
alone x zero zero a b e f = refl
alone x zero (suc j) a b e f = absurd (none-some b f)
alone x (suc i) j a b e f = absurd (none-some a e)

-- what is left to say of a module of one item
record IsMade (wasm : Module) (item : Instr) : Type 0 where
  typing : HasTyping wasm 0
  integers : HasIntegers item
  functions : All (λ index. index < length wasm.types) (functions_of wasm)
  tables : tables_of wasm ≡ []
  memories : length (memories_of wasm) ≤ 1
  limits : All IsMemory (memories_of wasm)
  globals : globals_of wasm ≡ []

module _ (imports : List Import) (memories : List Limits) (item : Instr) (name : List ℕ) (index : ℕ) where
  abbrev wasm : Module
  wasm = made imports memories (item ∷ []) name index

  is_typed : IsMade wasm item → index < length (functions_of wasm) → Typed wasm
  is_typed is exists = record {
    functions = only;
    rules = record {
      types = one IsFunctionType type (record { params = All-nil IsInteger; results = one IsInteger I32 tt });
      functions = is.functions;
      counts = refl;
      codes = one IsCode (record { locals = []; items = item ∷ [] })
          (record { locals = All-nil (λ (run : LocalRun). IsInteger run.kind); items = one HasIntegers item is.integers });
      one_table = subst (λ (l : List Limits). length l ≤ 1) (sym is.tables) (omega arith);
      one_memory = is.memories;
      tables = subst (λ (l : List Limits). All IsLimits l) (sym is.tables) (All-nil IsLimits);
      memories = is.limits;
      kinds = subst (λ (l : List GlobalType). All (λ (type : GlobalType). IsInteger type.kind) l) (sym is.globals) (All-nil (λ (type : GlobalType). IsInteger type.kind));
      initials = All-nil (λ (global : DefinedGlobal). IsInitial (imported global_of wasm) global.kind.kind global.initial);
      elements = All-nil (IsElement wasm);
      segments = All-nil (IsData wasm);
      exports = one (λ (entry : Export). entry.index < space_of wasm entry.kind) (record { name = name; kind = export.Function; index = index }) exists;
      distinct = λ i j a b e f same. alone (record { name = name; kind = export.Function; index = index }) i j a b e f;
      start = refl;
    };
  }
    where
      only : (number : ℕ) → number < 1 → HasTyping wasm number
      only zero lt = is.typing
      only (suc number) lt = absurd (omega arith)

  is_sound : (part : List ℕ) → HasImmediates item → Typed wasm → IsSound (part_of part wasm unlabelled)
  is_sound part immediates typed = record {
    typed = typed;
    widths = record {
      bodies = one (λ (code : Code). All HasImmediates code.items) (record { locals = []; items = item ∷ [] }) (one HasImmediates item immediates);
      initials = All-nil (λ (global : DefinedGlobal). All HasImmediates global.initial);
      bytes = All-nil (λ (segment : DataSegment). AreBytes segment.bytes);
    };
  }

  is_part : (part : List ℕ) → NoSolidus part → length (functions_of wasm) ≤ 2 → length imports ≤ 1 → globals_of wasm ≡ [] → All (λ (limits : Limits). limits.min ≤ limit_of quantity.Memory) memories
      → IsPart (part_of part wasm unlabelled)
  is_part part named few imports_few none room = record {
    name = named;
    functions = omega (arith, few);
    results = one (λ (type : FuncType). length type.results ≤ limit_of quantity.Results) type (omega arith);
    locals = one (λ (defined : ℕ × Code). local_count (type ∷ []) defined ≤ limit_of quantity.Locals) (0, record { locals = []; items = item ∷ [] }) (omega arith);
    memories = room;
    globals = subst (λ (l : List GlobalType). length l < 2 ^ 26) (sym none) (omega arith);
    types = omega arith;
    imports = omega (arith, imports_few);
    labels = λ index listed. absurd (false≢true listed);
  }

stub_made : IsMade stub_part.wasm (I32Const 0)
stub_made = record {
  typing = record {
    index = 0;
    type = type;
    code = record { locals = []; items = I32Const 0 ∷ [] };
    places = [] ∷ (I32 ∷ []) ∷ [];
    named = refl;
    exists = refl;
    body = refl;
    typing = (refl, ([], record { inside = refl; rule = record { lower = []; before = refl; behind = refl } }, (refl, refl)));
  };
  integers = tt;
  functions = one (λ index. index < 1) 0 (omega arith);
  tables = refl;
  memories = omega arith;
  limits = All-nil IsMemory;
  globals = refl;
}

library_made : IsMade library_part.wasm (I32Const 7)
library_made = record {
  typing = record {
    index = 0;
    type = type;
    code = record { locals = []; items = I32Const 7 ∷ [] };
    places = [] ∷ (I32 ∷ []) ∷ [];
    named = refl;
    exists = refl;
    body = refl;
    typing = (refl, ([], record { inside = refl; rule = record { lower = []; before = refl; behind = refl } }, (refl, refl)));
  };
  integers = tt;
  functions = one (λ index. index < 1) 0 (omega arith);
  tables = refl;
  memories = omega arith;
  limits = one IsMemory room (record { limits = omega arith; min = omega arith; max = omega arith });
  globals = refl;
}

user_made : IsMade user_part.wasm (Call 0)
user_made = record {
  typing = record {
    index = 0;
    type = type;
    code = record { locals = []; items = Call 0 ∷ [] };
    places = [] ∷ (I32 ∷ []) ∷ [];
    named = refl;
    exists = refl;
    body = refl;
    typing = (refl, ([], record { inside = refl; rule = (type, (0, refl, refl), record { lower = []; before = refl; behind = refl }) }, (refl, refl)));
  };
  integers = tt;
  functions = All-cons (λ index. index < 1) 0 (0 ∷ []) (omega arith) (one (λ index. index < 1) 0 (omega arith));
  tables = refl;
  memories = omega arith;
  limits = All-nil IsMemory;
  globals = refl;
}

abbrev NotSolidus : ℕ → Type 0
NotSolidus byte = byte ≡ 0x2F → ⊥

lib_named : NoSolidus (codes "lib")
lib_named = All-cons NotSolidus 108 (105 ∷ 98 ∷ []) (λ e. omega (arith, e)) (All-cons NotSolidus 105 (98 ∷ []) (λ e. omega (arith, e)) (one NotSolidus 98 (λ e. omega (arith, e))))

main_named : NoSolidus (codes "main")
main_named =
    All-cons NotSolidus 109 (97 ∷ 105 ∷ 110 ∷ []) (λ e. omega (arith, e)) (All-cons NotSolidus 97 (105 ∷ 110 ∷ []) (λ e. omega (arith, e))
    (All-cons NotSolidus 105 (110 ∷ []) (λ e. omega (arith, e)) (one NotSolidus 110 (λ e. omega (arith, e)))))

abbrev InRoom : Limits → Type 0
InRoom limits = limits.min ≤ limit_of quantity.Memory

stub_is : IsPart stub_part
stub_is = is_part [] [] (I32Const 0) (codes "f") 0 (codes "lib") lib_named (omega arith) (omega arith) refl (All-nil InRoom)

library_is : IsPart library_part
library_is = is_part [] (room ∷ []) (I32Const 7) (codes "f") 0 (codes "lib") lib_named (omega arith) (omega arith) refl (one InRoom room (omega arith))

user_is : IsPart user_part
user_is = is_part (wanted ∷ []) [] (Call 0) (codes "g") 1 (codes "main") main_named (omega arith) (omega arith) refl (All-nil InRoom)

one_part : (part : Part) → IsPart part → AreParts (part ∷ [])
one_part part is = record { each = one IsPart part is; few = omega arith; distinct = λ i j a b e f same. alone part i j a b e f }

-- two of other names stand apart
pub two_apart : {A : Type 0} (name : A → List ℕ) (x y : A) → (name x ≡ name y → ⊥) → (i j : ℕ) (a b : A) → slice_get (x ∷ y ∷ []) i ≡ Some a → slice_get (x ∷ y ∷ []) j ≡ Some b
    → name a ≡ name b → i ≡ j
two_apart name x y apart zero zero a b e f same = refl
two_apart name x y apart zero (suc zero) a b e f same = absurd (apart (ap name (same_Some x a e) ∙ same ∙ sym (ap name (same_Some y b f))))
two_apart name x y apart zero (suc (suc j)) a b e f same = absurd (none-some b f)
two_apart name x y apart (suc zero) zero a b e f same = absurd (apart (ap name (same_Some x b f) ∙ sym same ∙ sym (ap name (same_Some y a e))))
two_apart name x y apart (suc zero) (suc zero) a b e f same = refl
two_apart name x y apart (suc zero) (suc (suc j)) a b e f same = absurd (none-some b f)
two_apart name x y apart (suc (suc i)) j a b e f same = absurd (none-some a e)

two_parts : (part other : Part) → IsPart part → IsPart other → (part.name ≡ other.name → ⊥) → AreParts (part ∷ other ∷ [])
two_parts part other is are apart =
    record { each = All-cons IsPart part (other ∷ []) is (one IsPart other are); few = omega arith; distinct = two_apart (λ (p : Part). p.name) part other apart }

pub names_apart : codes "lib" ≡ codes "main" → ⊥
names_apart e = let lengths : 3 ≡ 4 = ap (λ (l : List ℕ). length l) e in omega (arith, lengths)

pub linked : AreLinked (stub_part ∷ []) (library_part ∷ []) (user_part ∷ []) stub library client whole
linked = record {
  stub_parts = one_part stub_part stub_is;
  library_parts = one_part library_part library_is;
  client_parts = two_parts stub_part user_part stub_is user_is names_apart;
  whole_parts = two_parts library_part user_part library_is user_is names_apart;
  stub_sound = one IsSound stub_part (is_sound [] [] (I32Const 0) (codes "f") 0 (codes "lib") (omega arith) (is_typed [] [] (I32Const 0) (codes "f") 0 stub_made (omega arith)));
  library_sound = one IsSound library_part
      (is_sound [] (room ∷ []) (I32Const 7) (codes "f") 0 (codes "lib") (omega arith) (is_typed [] (room ∷ []) (I32Const 7) (codes "f") 0 library_made (omega arith)));
  users_sound = one IsSound user_part (is_sound (wanted ∷ []) [] (Call 0) (codes "g") 1 (codes "main") tt (is_typed (wanted ∷ []) [] (Call 0) (codes "g") 1 user_made (omega arith)));
  stub_is = refl;
  library_is = refl;
  client_is = refl;
  whole_is = refl;
}

-- ---- they keep to the interface

pub joins : AreUsers iface stub client library (user_part ∷ [])
joins =
    one (λ (user : Part). All (IsGiven iface stub client library (user_part ∷ [])) user.wasm.imports) user_part
    (one (IsGiven iface stub client library (user_part ∷ [])) wanted
    (inr (record { function = 0; callee = 0; stands = refl; exported = refl; goes = refl })))

both : All (λ (one : FnIface). AreBoth client library one.name) iface.functions
both = one (λ (one : FnIface). AreBoth client library one.name) (record { name = codes "lib/f"; params = []; results = flow.Stable ∷ [] })
    (record { function = 0; callee = 0; here = refl; there = refl })

pub names : StandFor iface stub library
names one other function h k e f = by (bytes_eq one (codes "lib/f")) refl (bytes_eq other (codes "lib/f")) refl h k
  where
    by : (a : Bool) → bytes_eq one (codes "lib/f") ≡ a → (b : Bool) → bytes_eq other (codes "lib/f") ≡ b → (a || false) ≡ true → (b || false) ≡ true
        → value_named one library.exports ≡ value_named other library.exports
    by true x true y h k =
        ap (λ (name : List ℕ). value_named name library.exports) ((bytes_eq-Decides one (codes "lib/f")).0 x ∙ sym ((bytes_eq-Decides other (codes "lib/f")).0 y))
    by true x false y h k = absurd (false≢true k)
    by false x b y h k = absurd (false≢true h)

pub own : IsOwn stub client (codes "main/g")
own function (zero, e) lt =
    let same : codes "lib/f" ≡ codes "main/g" = ap (λ (pair : List ℕ × ℕ). pair.0) (same_Some (codes "lib/f", 0) (codes "main/g", function) e) in
    let lengths : 5 ≡ 6 = ap (λ (l : List ℕ). length l) same in
    absurd (omega (arith, lengths))
own function (suc zero, e) lt =
    let same : 1 ≡ function = ap (λ (pair : List ℕ × ℕ). pair.1) (same_Some (codes "main/g", 1) (codes "main/g", function) e) in
    absurd (omega (arith, same, lt))
own function (suc (suc i), e) lt = absurd (none-some (codes "main/g", function) e)

-- ---- their programs can be joined

pub can_join : CanJoin (low_tree client) (low_tree library) iface
can_join = record {
  types = one (HasSameTypes (low_tree client) (low_tree library)) (record { name = codes "lib/f"; params = []; results = flow.Stable ∷ [] })
      (λ function callee e f. sym (ap (λ (n : ℕ). types_of (low_tree client) n) (same_Some 0 function e)) ∙ ap (λ (n : ℕ). types_of (low_tree library) n) (same_Some 0 callee f));
  exports = one (IsNew (kept iface (low_tree client))) (record { name = codes "lib/f"; function = 0 })
      (one (λ (export : ExportDef). export.name ≡ codes "lib/f" → ⊥) (record { name = codes "main/g"; function = 1 })
      (λ e. let lengths : 6 ≡ 5 = ap (λ (l : List ℕ). length l) e in omega (arith, lengths)));
  limits = All-from_recursion IsWithin (sums (low_tree client) (low_tree library))
      (leb-true _ _ refl, (leb-true _ _ refl, (leb-true _ _ refl, (leb-true _ _ refl, (leb-true _ _ refl, tt)))));
}

-- ---- and what follows: the linked modules' g is the joined tree's, which calls the library's f

exported : Exports (joined_tree client library iface) (codes "main/g") 1
exported =
    export_kept iface (stub_part ∷ []) (library_part ∷ []) (user_part ∷ []) stub library client whole linked joins (codes "main/g") 1
    (one (IsExported library) (record { name = codes "lib/f"; params = []; results = flow.Stable ∷ [] }) (0, (0, refl))) own (1, refl)

calls : option_map (λ (f : Function). f.code.items) (slice_get (joined_tree client library iface).functions 1) ≡ Some (Call 2 ∷ [])
calls = refl
