-- What the spelling of a module in bytes says of its numbers: they are of their widths.
use Rattle.std.proofs.Common.{◌≡◌, ℕ, ◌-◌, ◌^◌, ◌<◌, List, [], ◌∷◌, ◌++◌, length, inl, inr, ap, sym, subst, arith}
use Rattle.std.proofs.lemmas.Int.{ints}
use Rattle.std.specs.Prelude.{ℤ, pos, negsuc}
use Rattle.std.specs.List.{All}
use Rattle.std.proofs.lemmas.List.Elements.{All-nil, All-cons, All-head, All-tail}
use Rattle.bl_base.specs.Fits.{AreBytes}
use Rattle.bl_leb.specs.Numbers.{IsSignedNumber}
use Rattle.bl_leb.proofs.Signed.{bounded as signed_bounded}
use Rattle.bl_leb.proofs.Unsigned.{bounded}
use Rattle.bl_ops.specs.Integer.{unsigned}
use Rattle.bl_wasm.specs.Instructions.{instruction}
use Rattle.bl_wasm.specs.Linked.{HasImmediates}
use Rattle.bl_wasm.specs.Modules.{Spells, ◌▷◌}
use Rattle.bl_wasm.specs.Sections.{code_entry, code_section, data_entry, data_section, export_entry, export_section, global_entry, global_section, vec_section}
use Rattle.bl_leb.specs.Grammar.{Spellings}
use Rattle.bl_wasm.specs.Values.{each}
use Rattle.bl_wasm.specs.declared.instruction.Instr.{Instr}
use Rattle.bl_wasm.specs.declared.instruction.Instr.TheVariants.{Unreachable, Nop, Block, Loop, If, Else, End, Br, BrIf, BrTable, Return, Call, CallIndirect, Drop, Select, LocalGet, LocalSet, LocalTee, GlobalGet, GlobalSet, Load, Store, FloatAccess, MemorySize, MemoryGrow, I32Const, I64Const, F32Const, F64Const, Integer, Float}
use Rattle.bl_wasm.specs.declared.module.CustomSection.{CustomSection}
use Rattle.bl_wasm.specs.declared.module.Module.{Module}
use Rattle.bl_labels.specs.declared.labels.Labels.{Labels}
use Rattle.bl_link.specs.Linkable.{HasFewExports, HasWidths, IsShortExport}
use Rattle.bl_link.specs.Links.{part_of}

-- ---- bytes of parts

bytes_front : (front rest : List ℕ) → AreBytes (front ++ rest) → AreBytes front
bytes_front [] rest all = All-nil (λ byte. byte < 2 ^ 8)
bytes_front (byte ∷ front) rest all =
    All-cons (λ byte. byte < 2 ^ 8) byte front (All-head (λ byte. byte < 2 ^ 8) byte (front ++ rest) all) (bytes_front front rest (All-tail (λ byte. byte < 2 ^ 8) byte (front ++ rest) all))

bytes_rest : (front rest : List ℕ) → AreBytes (front ++ rest) → AreBytes rest
bytes_rest [] rest all = all
bytes_rest (byte ∷ front) rest all = bytes_rest front rest (All-tail (λ byte. byte < 2 ^ 8) byte (front ++ rest) all)

split_bytes : (bytes front rest : List ℕ) → bytes ≡ front ++ rest → AreBytes bytes → AreBytes front × AreBytes rest
split_bytes bytes front rest whole all = let both = subst AreBytes whole all in (bytes_front front rest both, bytes_rest front rest both)

each_all : {A : Type 0} (B : A → Spellings) (P : A → Type 0) → ((x : A) (bytes : List ℕ) → B x bytes → AreBytes bytes → P x) → (xs : List A) (bytes : List ℕ) → each B xs bytes → AreBytes bytes → All P xs
each_all B P gives [] bytes h all = All-nil P
each_all B P gives (x ∷ xs) bytes h all =
    let parts = split_bytes bytes h.front h.rest h.whole all in
    All-cons P x xs (gives x h.front h.first parts.0) (each_all B P gives xs h.rest h.second parts.1)

section_all : {A : Type 0} (id : ℕ) (B : A → Spellings) (P : A → Type 0) → ((x : A) (bytes : List ℕ) → B x bytes → AreBytes bytes → P x) → (xs : List A) (bytes : List ℕ) → vec_section id B xs bytes → AreBytes bytes → All P xs
section_all id B P gives xs bytes (inl h) all =
    let behind = (split_bytes bytes h.front h.rest h.whole all).1 in
    let contents = (split_bytes h.rest h.second.size h.second.contents h.second.whole behind).1 in
    let vector = h.second.spelled in
    each_all B P gives xs vector.rest vector.second (split_bytes h.second.contents vector.front vector.rest vector.whole contents).1
section_all id B P gives xs bytes (inr none) all = subst (All P) (sym none.0) (All-nil P)

-- ---- immediates

unsigned_below : (N : ℕ) (z : ℤ) → IsSignedNumber N z → 0 < 2 ^ N → 2 ^ (N - 1) < 2 ^ N → unsigned N z < 2 ^ N
unsigned_below N (pos i) is some less = omega (arith, ints, is.1, less)
unsigned_below N (negsuc i) is some less = omega (arith, some)

item_fits : (item : Instr) (bytes : List ℕ) → instruction item bytes → HasImmediates item
item_fits (I32Const n) bytes h = let is = h.second in subst (λ m. m < 2 ^ 32) (sym is.2) (unsigned_below 32 is.0 (signed_bounded 32 h.rest is.0 is.1) (omega arith) (omega arith))
item_fits (I64Const n) bytes h = let is = h.second in subst (λ m. m < 2 ^ 64) (sym is.2) (unsigned_below 64 is.0 (signed_bounded 64 h.rest is.0 is.1) (omega arith) (omega arith))
item_fits (Load kind argument) bytes h = bounded 32 h.1.second.rest argument.offset h.1.second.second
item_fits (Store kind argument) bytes h = bounded 32 h.1.second.rest argument.offset h.1.second.second
item_fits (Block type) bytes h = tt
item_fits (Loop type) bytes h = tt
item_fits (If type) bytes h = tt
item_fits Else bytes h = tt
item_fits End bytes h = tt
item_fits Unreachable bytes h = tt
item_fits Nop bytes h = tt
item_fits (Br l) bytes h = tt
item_fits (BrIf l) bytes h = tt
item_fits (BrTable default others) bytes h = tt
item_fits Return bytes h = tt
item_fits (Call function) bytes h = tt
item_fits (CallIndirect type) bytes h = tt
item_fits Drop bytes h = tt
item_fits Select bytes h = tt
item_fits (LocalGet x) bytes h = tt
item_fits (LocalSet x) bytes h = tt
item_fits (LocalTee x) bytes h = tt
item_fits (GlobalGet x) bytes h = tt
item_fits (GlobalSet x) bytes h = tt
item_fits (FloatAccess kind argument) bytes h = tt
item_fits MemorySize bytes h = tt
item_fits MemoryGrow bytes h = tt
item_fits (F32Const bits) bytes h = tt
item_fits (F64Const bits) bytes h = tt
item_fits (Integer op) bytes h = tt
item_fits (Float op) bytes h = tt

items_fit : (items : List Instr) (bytes : List ℕ) → each instruction items bytes → All HasImmediates items
items_fit [] bytes h = All-nil HasImmediates
items_fit (item ∷ items) bytes h = All-cons HasImmediates item items (item_fits item h.front h.first) (items_fit items h.rest h.second)

-- ---- the sections of a module

-- a section in bytes, and what is behind it
record Stands (Section : Spellings) (Behind : List CustomSection → Spellings) : Type 0 where
  section : List ℕ
  spelled : Section section
  bytes : AreBytes section
  customs : List CustomSection
  rest : List ℕ
  behind : Behind customs rest
  left : AreBytes rest

stands : {Section : Spellings} {Behind : List CustomSection → Spellings} (customs : List CustomSection) (bytes : List ℕ) → AreBytes bytes → (Section ▷ Behind) customs bytes → Stands Section Behind
stands customs bytes all h =
    let s = h.spelled in
    let tail = (split_bytes bytes s.front s.rest s.whole all).1 in
    let parts = split_bytes s.rest s.second.front s.second.rest s.second.whole tail in
    record { section = s.second.front; spelled = s.second.first; bytes = parts.0; customs = h.after; rest = s.second.rest; behind = s.second.second; left = parts.1 }

-- the section is there
record Found (Section : Spellings) : Type 0 where
  section : List ℕ
  spelled : Section section
  bytes : AreBytes section

found : {Section : Spellings} {Behind : List CustomSection → Spellings} → Stands Section Behind → Found Section
found s = record { section = s.section; spelled = s.spelled; bytes = s.bytes }

-- the sections that have such numbers
record Sections (tree : Module) : Type 0 where
  globals : Found (global_section tree.globals)
  exports : Found (export_section tree.exports)
  codes : Found (code_section tree.bodies)
  segments : Found (data_section tree.segments)

sections_of : (bytes : List ℕ) (tree : Module) → AreBytes bytes → Spells bytes tree → Sections tree
sections_of bytes tree all h =
    let start = h.1.second in
    let version = (split_bytes bytes h.1.front h.1.rest h.1.whole all).1 in
    let types = stands tree.customs start.rest (split_bytes h.1.rest start.front start.rest start.whole version).1 start.second in
    let imports = stands types.customs types.rest types.left types.behind in
    let functions = stands imports.customs imports.rest imports.left imports.behind in
    let tables = stands functions.customs functions.rest functions.left functions.behind in
    let memories = stands tables.customs tables.rest tables.left tables.behind in
    let globals = stands memories.customs memories.rest memories.left memories.behind in
    let exports = stands globals.customs globals.rest globals.left globals.behind in
    let start_function = stands exports.customs exports.rest exports.left exports.behind in
    let elements = stands start_function.customs start_function.rest start_function.left start_function.behind in
    let codes = stands elements.customs elements.rest elements.left elements.behind in
    let segments = stands codes.customs codes.rest codes.left codes.behind in
    record { globals = found globals; exports = found exports; codes = found codes; segments = found segments }

pub has_widths : (name bytes : List ℕ) (tree : Module) (labels : Labels) → AreBytes bytes → Spells bytes tree → HasWidths (part_of name tree labels)
has_widths name bytes tree labels all h =
    let s = sections_of bytes tree all h in
    record {
      bodies = section_all 10 code_entry (λ code. All HasImmediates code.items)
          (λ code these spelled bytes. let body = spelled.spelled.1.second.1 in items_fit code.items body.front body.first) tree.bodies s.codes.section s.codes.spelled s.codes.bytes;
      initials = section_all 6 global_entry (λ global. All HasImmediates global.initial)
          (λ global these spelled bytes. let first = spelled.second.1 in items_fit global.initial first.front first.first) tree.globals s.globals.section s.globals.spelled s.globals.bytes;
      bytes = section_all 11 data_entry (λ segment. AreBytes segment.bytes)
          (λ segment these spelled bytes.
          let behind = (split_bytes these spelled.front spelled.rest spelled.whole bytes).1 in
          let vector = spelled.second.second in
          let last = (split_bytes spelled.rest spelled.second.front spelled.second.rest spelled.second.whole behind).1 in
          subst AreBytes vector.second (split_bytes spelled.second.rest vector.front vector.rest vector.whole last).1) tree.segments s.segments.section s.segments.spelled s.segments.bytes;
    }

section_few : {A : Type 0} (id : ℕ) (B : A → Spellings) (xs : List A) (bytes : List ℕ) → vec_section id B xs bytes → length xs < 2 ^ 32
section_few id B xs bytes (inl h) = let vector = h.second.spelled in bounded 32 vector.front (length xs) vector.first
section_few id B xs bytes (inr none) = omega (arith, ap length none.0)

-- exports are counted in 32 bits, and so are the bytes of their names
pub few_exports : (name bytes : List ℕ) (tree : Module) (labels : Labels) → AreBytes bytes → Spells bytes tree → length name < 2 ^ 63 → HasFewExports (part_of name tree labels)
few_exports name bytes tree labels all h short =
    let s = (sections_of bytes tree all h).exports in
    record {
      name = short;
      few = section_few 7 export_entry tree.exports s.section s.spelled;
      names = section_all 7 export_entry IsShortExport (λ entry these spelled bytes. let vector = spelled.first.1 in bounded 32 vector.front (length entry.name) vector.first) tree.exports s.section s.spelled s.bytes;
    }
