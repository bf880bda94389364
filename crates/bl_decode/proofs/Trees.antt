-- The sections of a module as a chain.
use Rattle.std.proofs.Common.{◌≡◌, inl, inr, ℕ, ◌<◌, List, [], ◌∷◌, ◌++◌, All, ap, ap₂, sym, ◌∙◌, subst, arith, drop, Result, Err}
use Rattle.std.specs.List.{AllByRecursion}
use Rattle.std.specs.Result.{IsErrAnd}
use Rattle.std.proofs.lemmas.Result.{err_from_is_err_and}
use Rattle.std.proofs.lemmas.List.Elements.{All-from_recursion}
use Rattle.bl_leb.specs.Grammar.{Spellings, ◌⨾◌}
use Rattle.bl_wasm.specs.Values.{each, u32}
use Rattle.bl_wasm.specs.Types.{function_type, table_type, memory_type}
use Rattle.bl_wasm.specs.Sections.{vec_section, custom_section, start_section, import_entry, global_entry, export_entry, element_entry, code_entry, code_section, data_entry}
use Rattle.bl_wasm.specs.Modules.{◌▷◌, magic, version, sections, Spells}
use Rattle.bl_wasm.specs.declared.module.Module.{Module}
use Rattle.bl_wasm.specs.declared.module.DataSegment.{DataSegment}
use Rattle.bl_wasm.specs.declared.module.Code.{Code}
use Rattle.bl_wasm.specs.declared.module.CustomSection.{CustomSection}
use Rattle.bl_code.specs.Laws.{u32_prefix_free}
use Rattle.bl_code.specs.Unique.{PrefixFree}
use Rattle.bl_code.specs.declared.error.CodeError.{CodeError}
use Rattle.bl_code.specs.declared.error.CodeError.TheVariants.{Malformed, Memory}
use Rattle.bl_code.proofs.Limits.{limits_prefix_free}
use Rattle.bl_decode.specs.Chains.{IsSection, IsTail, IsLink, ReadsTail}
use Rattle.bl_decode.specs.Laws.{function_type_prefix_free, import_entry_prefix_free, table_type_prefix_free, global_entry_prefix_free, export_entry_prefix_free, element_entry_prefix_free, code_entry_prefix_free, data_entry_prefix_free}
use Rattle.bl_decode.specs.Grammar.{IsInGrammar}
use Rattle.bl_decode.specs.AllBytes.{ReadsAll}
use Rattle.bl_decode.proofs.OptionalSections.{vectors_section, start_is_section}
use Rattle.bl_decode.proofs.Tails.{chain_tail, end_tail}

-- the sections from one on: what it holds and how it is spelled, and the same of those behind it
pub record Chain (id : ℕ) : Type 1 where
  pub First : Type 0
  pub Behind : Type 0
  pub least : ℕ
  pub section : First → Spellings
  pub behind : Behind → List CustomSection → Spellings
  pub link : IsLink id least section behind

-- one section more
abbrev next : {A : Type 0} {id : ℕ} (new : ℕ) (T : A → Spellings) → 0 < new → new < id → IsSection new T → Chain id → Chain new
next {A} {id} new T positive rising is chain = record {
  First = A;
  Behind = chain.First × chain.Behind;
  least = id;
  section = T;
  behind = λ t. chain.section t.0 ▷ chain.behind t.1;
  link = record { positive = positive; rising = rising; section = is; tail = chain_tail {S = chain.section} {R = chain.behind} chain.link };
}

-- one section more of a vector
abbrev vectors : {A : Type 0} {id : ℕ} (new : ℕ) (T : A → Spellings) → 0 < new → new < id → PrefixFree T → Chain id → Chain new
vectors new T positive rising free chain = next new (vec_section new T) positive rising (vectors_section new T free) chain

abbrev pub chain_11 : Chain 11
chain_11 = record {
  First = List DataSegment;
  Behind = Unit {0};
  least = 12;
  section = vec_section 11 data_entry;
  behind = λ t. each custom_section;
  link = record { positive = omega arith; rising = omega arith; section = vectors_section 11 data_entry data_entry_prefix_free; tail = end_tail };
}

abbrev pub chain_10 : Chain 10
chain_10 = vectors 10 code_entry (omega arith) (omega arith) code_entry_prefix_free chain_11

abbrev pub chain_9 : Chain 9
chain_9 = vectors 9 element_entry (omega arith) (omega arith) element_entry_prefix_free chain_10

abbrev pub chain_8 : Chain 8
chain_8 = next 8 start_section (omega arith) (omega arith) start_is_section chain_9

abbrev pub chain_7 : Chain 7
chain_7 = vectors 7 export_entry (omega arith) (omega arith) export_entry_prefix_free chain_8

abbrev pub chain_6 : Chain 6
chain_6 = vectors 6 global_entry (omega arith) (omega arith) global_entry_prefix_free chain_7

abbrev pub chain_5 : Chain 5
chain_5 = vectors 5 memory_type (omega arith) (omega arith) limits_prefix_free chain_6

abbrev pub chain_4 : Chain 4
chain_4 = vectors 4 table_type (omega arith) (omega arith) table_type_prefix_free chain_5

abbrev pub chain_3 : Chain 3
chain_3 = vectors 3 u32 (omega arith) (omega arith) u32_prefix_free chain_4

abbrev pub chain_2 : Chain 2
chain_2 = vectors 2 import_entry (omega arith) (omega arith) import_entry_prefix_free chain_3

abbrev pub chain_1 : Chain 1
chain_1 = vectors 1 function_type (omega arith) (omega arith) function_type_prefix_free chain_2

-- what all sections hold, and their spellings
abbrev pub Tree : Type 0
Tree = chain_1.First × chain_1.Behind

abbrev pub all : Tree → List CustomSection → Spellings
all t = chain_1.section t.0 ▷ chain_1.behind t.1

pub all_tail : IsTail 1 all
all_tail = chain_tail {S = chain_1.section} {R = chain_1.behind} chain_1.link

-- what the sections of a module hold
abbrev pub parts_of : Module → Tree
parts_of m = (m.types, (m.imports, (m.functions, (m.tables, (m.memories, (m.globals, (m.exports, (m.start, (m.elements, (m.bodies, (m.segments, tt)))))))))))

-- a module by what its sections hold
abbrev module_of : Tree → List CustomSection → Module
module_of t customs = record {
  types = t.0;
  imports = t.1.0;
  functions = t.1.1.0;
  tables = t.1.1.1.0;
  memories = t.1.1.1.1.0;
  globals = t.1.1.1.1.1.0;
  exports = t.1.1.1.1.1.1.0;
  start = t.1.1.1.1.1.1.1.0;
  elements = t.1.1.1.1.1.1.1.1.0;
  bodies = t.1.1.1.1.1.1.1.1.1.0;
  segments = t.1.1.1.1.1.1.1.1.1.1.0;
  customs = customs;
}

-- bytes spell the sections of one module
pub one_tree : (x y : Module) (bytes : List ℕ) → sections x x.customs bytes → sections y y.customs bytes → x ≡ y
one_tree x y bytes p q =
    let same = all_tail.one (parts_of x) (parts_of y) x.customs y.customs bytes p q in
    ap₂ module_of same.0 same.1

-- behind the header
pub behind_header : (S : Spellings) (bytes : List ℕ) → (magic ⨾ version ⨾ S) bytes → S (drop 8 bytes)
behind_header S bytes h =
    let rest = h.second in
    let whole : bytes ≡ (0x00 ∷ 0x61 ∷ 0x73 ∷ 0x6D ∷ []) ++ ((0x01 ∷ 0x00 ∷ 0x00 ∷ 0x00 ∷ []) ++ rest.rest)
    = h.whole ∙ ap (λ f. f ++ h.rest) h.first ∙ ap (λ r. (0x00 ∷ 0x61 ∷ 0x73 ∷ 0x6D ∷ []) ++ r) (rest.whole ∙ ap (λ f. f ++ rest.rest) rest.first) in
    subst S (sym (ap (drop 8) whole)) rest.second

pub spelled_sections : (bytes : List ℕ) (x : Module) → Spells bytes x → sections x x.customs (drop 8 bytes)
spelled_sections bytes x h = behind_header (sections x x.customs) bytes h.1

pub one_spelled : (bytes : List ℕ) (x y : Module) → Spells bytes x → Spells bytes y → x ≡ y
one_spelled bytes x y p q = one_tree x y (drop 8 bytes) (spelled_sections bytes x p) (spelled_sections bytes y q)

-- why they aren't read is why no module is spelled
pub sections_err : (bytes : List ℕ) (i : ℕ) (old new : List CustomSection) (r : Result Module CodeError) (e : CodeError) → IsErrAnd r (λ y. y ≡ e) → ReadsTail all bytes i old new (Err e) → ReadsAll (λ tree these. sections tree tree.customs these) (drop i bytes) r
sections_err bytes i old new r e gives h = let p = err_from_is_err_and r gives in rw (p.1, p.2) (refused e h)
  where
    refused : (e : CodeError) → ReadsTail all bytes i old new (Err e) → ReadsAll (λ (tree : Module) these. sections tree tree.customs these) (drop i bytes) (Err e)
    refused Malformed none = λ x spelled. none (parts_of x) x.customs spelled
    refused Memory none = tt

pub module_err : (bytes : List ℕ) (r : Result Module CodeError) (e : CodeError) → IsErrAnd r (λ y. y ≡ e) → ReadsAll (λ tree these. sections tree tree.customs these) (drop 8 bytes) (Err e) → ReadsAll (λ tree these. Spells these tree) bytes r
module_err bytes r e gives h = let p = err_from_is_err_and r gives in rw (p.1, p.2) (refused e h)
  where
    refused : (e : CodeError) → ReadsAll (λ (tree : Module) these. sections tree tree.customs these) (drop 8 bytes) (Err e) → ReadsAll (λ (tree : Module) these. Spells these tree) bytes (Err e)
    refused Malformed none = λ x spelled. none x (spelled_sections bytes x spelled)
    refused Memory none = tt

-- the grammar's rules on the code of each function
spelled_each : (bodies : List Code) (bytes : List ℕ) → each code_entry bodies bytes → AllByRecursion IsInGrammar bodies
spelled_each [] bytes h = tt
spelled_each (c ∷ cs) bytes h = (record { few = h.first.spelled.0; nests = h.first.spelled.1.second.0 }, spelled_each cs h.rest h.second)

spelled_section : (bodies : List Code) (bytes : List ℕ) → code_section bodies bytes → All IsInGrammar bodies
spelled_section bodies bytes (inl h) = All-from_recursion IsInGrammar bodies (spelled_each bodies h.second.spelled.rest h.second.spelled.second)
spelled_section bodies bytes (inr h) = subst (λ (l : List Code). All IsInGrammar l) (sym h.0) (All-from_recursion IsInGrammar [] tt)

pub spelled_bodies : (bytes : List ℕ) (x : Module) → Spells bytes x → All IsInGrammar x.bodies
spelled_bodies bytes x h =
    let types = h.1.second.second in
    let imports = types.spelled.second.second in
    let functions = imports.spelled.second.second in
    let tables = functions.spelled.second.second in
    let memories = tables.spelled.second.second in
    let globals = memories.spelled.second.second in
    let exports = globals.spelled.second.second in
    let start = exports.spelled.second.second in
    let elements = start.spelled.second.second in
    let codes = elements.spelled.second.second in
    spelled_section x.bodies codes.spelled.second.front codes.spelled.second.first
