-- What begins no instruction, by the readers of immediates.
use Rattle.std.proofs.Common.{◌≡◌, ◌≢◌, ℕ, List, [], ◌∷◌, Some, refl, subst, arith}
use Rattle.bl_ops.specs.Access.{access_code}
use Rattle.bl_ops.specs.declared.access.AccessKind.{AccessKind}
use Rattle.bl_ops.specs.OperatorTable.{operator_code}
use Rattle.bl_ops.specs.declared.op.Op.{Op}
use Rattle.bl_wasm.specs.Codes.{IsFloatCode, float_access_code}
use Rattle.bl_wasm.specs.Types.{block_type}
use Rattle.bl_leb.specs.Grammar.{Spellings, ◌⨾◌, byte}
use Rattle.bl_wasm.specs.Values.{u32, int, f32, f64, vec}
use Rattle.bl_wasm.specs.Instructions.{instruction, memory_argument}
use Rattle.bl_wasm.specs.declared.float.FloatAccess.{FloatAccess}
use Rattle.bl_wasm.specs.declared.instruction.Instr.{Instr}
use Rattle.bl_wasm.specs.declared.instruction.Instr.TheVariants.{Unreachable, Nop, Else, End, Return, Drop, Select, Load, Store, FloatAccess as FloatAccessed, Integer, Float}
use Rattle.bl_wasm.specs.declared.instruction.MemoryArgument.{MemoryArgument}
use Rattle.bl_wasm.specs.declared.types.BlockType.{BlockType}
use Rattle.bl_wasm.specs.declared.types.BlockType.TheVariants.{Empty}
use Rattle.bl_code.specs.Laws.{u32_prefix_free}
use Rattle.bl_code.specs.ReaderAnswers.{IsAt, NoneAt, Refuses, behind}
use Rattle.bl_code.specs.Shapes.{Shape, Bare, Typed, Indexed, Labels, Indirect, Access, Zero, Int32, Int64, Float32, Float64, shape_of, IsCodeOf, immediates, IsTypedCode, IsIndexedCode, IsAccessCode, IsZeroCode, IsOtherCode, IsNumericCode}
use Rattle.bl_code.specs.declared.error.CodeError.{CodeError}
use Rattle.bl_code.proofs.Places.{stands, is_at, one_at, same_at, err_along}
use Rattle.bl_code.proofs.Shapes.{after_byte, shaped}
use Rattle.bl_code.proofs.Unique.{byte_same}

-- a byte, and then a spelling
pub before : {S : Spellings} (c : ℕ) (t : List ℕ) → S t → (byte c ⨾ S) (c ∷ t)
before c t s = record { front = c ∷ []; rest = t; whole = refl; first = refl; second = s }

-- the parts of immediates, where they are of that kind
abbrev pub type_part : Shape → BlockType
type_part (Typed type) = type
type_part s = Empty

abbrev pub number_part : Shape → ℕ
number_part (Indexed x) = x
number_part (Labels labels default) = default
number_part (Indirect type) = type
number_part (Int32 n) = n
number_part (Int64 n) = n
number_part (Float32 n) = n
number_part (Float64 n) = n
number_part s = 0

abbrev pub labels_part : Shape → List ℕ
labels_part (Labels labels default) = labels
labels_part s = []

abbrev pub argument_part : Shape → MemoryArgument
argument_part (Access argument) = argument
argument_part s = record { alignment = 0; offset = 0 }

typed_rest : (s : Shape) (code : ℕ) (t : List ℕ) → IsTypedCode code → IsCodeOf s code → immediates s t → block_type (type_part s) t
typed_rest (Typed type) code t ok c h = h
typed_rest s code t ok c h = absurd (omega arith)

indexed_rest : (s : Shape) (code : ℕ) (t : List ℕ) → IsIndexedCode code → IsCodeOf s code → immediates s t → u32 (number_part s) t
indexed_rest (Indexed x) code t ok c h = h
indexed_rest s code t ok c h = absurd (omega arith)

labels_rest : (s : Shape) (code : ℕ) (t : List ℕ) → code ≡ 0x0E → IsCodeOf s code → immediates s t → (vec u32 (labels_part s) ⨾ u32 (number_part s)) t
labels_rest (Labels labels default) code t ok c h = h
labels_rest s code t ok c h = absurd (omega arith)

indirect_rest : (s : Shape) (code : ℕ) (t : List ℕ) → code ≡ 0x11 → IsCodeOf s code → immediates s t → (u32 (number_part s) ⨾ u32 0) t
indirect_rest (Indirect type) code t ok c h = h
indirect_rest s code t ok c h = absurd (omega arith)

access_rest : (s : Shape) (code : ℕ) (t : List ℕ) → IsAccessCode code → IsCodeOf s code → immediates s t → memory_argument (argument_part s) t
access_rest (Access argument) code t ok c h = h
access_rest s code t ok c h = absurd (omega arith)

zero_rest : (s : Shape) (code : ℕ) (t : List ℕ) → IsZeroCode code → IsCodeOf s code → immediates s t → byte 0x00 t
zero_rest Zero code t ok c h = h
zero_rest s code t ok c h = absurd (omega arith)

int32_rest : (s : Shape) (code : ℕ) (t : List ℕ) → code ≡ 0x41 → IsCodeOf s code → immediates s t → int 32 (number_part s) t
int32_rest (Int32 n) code t ok c h = h
int32_rest s code t ok c h = absurd (omega arith)

int64_rest : (s : Shape) (code : ℕ) (t : List ℕ) → code ≡ 0x42 → IsCodeOf s code → immediates s t → int 64 (number_part s) t
int64_rest (Int64 n) code t ok c h = h
int64_rest s code t ok c h = absurd (omega arith)

float32_rest : (s : Shape) (code : ℕ) (t : List ℕ) → code ≡ 0x43 → IsCodeOf s code → immediates s t → f32 (number_part s) t
float32_rest (Float32 n) code t ok c h = h
float32_rest s code t ok c h = absurd (omega arith)

float64_rest : (s : Shape) (code : ℕ) (t : List ℕ) → code ≡ 0x44 → IsCodeOf s code → immediates s t → f64 (number_part s) t
float64_rest (Float64 n) code t ok c h = h
float64_rest s code t ok c h = absurd (omega arith)

-- why the immediates aren't read is why the instruction isn't
module _ (code : ℕ) (bytes : List ℕ) (j : ℕ) (e : CodeError) where
  along : {A : Type 0} (F : A → Spellings) (f : Shape → A) → ((s : Shape) (t : List ℕ) → IsCodeOf s code → immediates s t → F (f s) t) → Refuses F bytes j e → Refuses (behind instruction code) bytes j e
  along F f rest h = err_along F (behind instruction code) (λ x. f (shape_of x)) bytes j e (λ x t p. let s = shaped x code t p in rest (shape_of x) t s.0 s.1) h

  pub err_typed : IsTypedCode code → Refuses block_type bytes j e → Refuses (behind instruction code) bytes j e
  err_typed ok = along block_type type_part (λ s t. typed_rest s code t ok)

  pub err_indexed : IsIndexedCode code → Refuses u32 bytes j e → Refuses (behind instruction code) bytes j e
  err_indexed ok = along u32 number_part (λ s t. indexed_rest s code t ok)

  pub err_access : IsAccessCode code → Refuses memory_argument bytes j e → Refuses (behind instruction code) bytes j e
  err_access ok = along memory_argument argument_part (λ s t. access_rest s code t ok)

  pub err_labels : code ≡ 0x0E → Refuses (λ (s : Shape). vec u32 (labels_part s) ⨾ u32 (number_part s)) bytes j e → Refuses (behind instruction code) bytes j e
  err_labels ok = along (λ (s : Shape). vec u32 (labels_part s) ⨾ u32 (number_part s)) (λ s. s) (λ s t. labels_rest s code t ok)

  pub err_indirect : code ≡ 0x11 → Refuses (λ (s : Shape). u32 (number_part s) ⨾ u32 0) bytes j e → Refuses (behind instruction code) bytes j e
  err_indirect ok = along (λ (s : Shape). u32 (number_part s) ⨾ u32 0) (λ s. s) (λ s t. indirect_rest s code t ok)

  pub err_zero : IsZeroCode code → Refuses (λ (s : Shape). byte 0) bytes j e → Refuses (behind instruction code) bytes j e
  err_zero ok = along (λ (s : Shape). byte 0) (λ s. s) (λ s t. zero_rest s code t ok)

  pub err_int32 : code ≡ 0x41 → Refuses (int 32) bytes j e → Refuses (behind instruction code) bytes j e
  err_int32 ok = along (int 32) number_part (λ s t. int32_rest s code t ok)

  pub err_int64 : code ≡ 0x42 → Refuses (int 64) bytes j e → Refuses (behind instruction code) bytes j e
  err_int64 ok = along (int 64) number_part (λ s t. int64_rest s code t ok)

  pub err_float32 : code ≡ 0x43 → Refuses f32 bytes j e → Refuses (behind instruction code) bytes j e
  err_float32 ok = along f32 number_part (λ s t. float32_rest s code t ok)

  pub err_float64 : code ≡ 0x44 → Refuses f64 bytes j e → Refuses (behind instruction code) bytes j e
  err_float64 ok = along f64 number_part (λ s t. float64_rest s code t ok)

-- another number is no zero
pub not_zero : (bytes : List ℕ) (j k z : ℕ) → z ≢ 0 → IsAt u32 bytes j k z → NoneAt (λ (s : Shape). u32 0) bytes j
not_zero bytes j k z other h s end p =
    other (one_at bytes j k end z 0 u32_prefix_free h (is_at u32 bytes j end 0 (stands (λ (s : Shape). u32 0) bytes j end s p))).1

-- nor is another byte
pub not_zero_byte : (bytes : List ℕ) (j k z : ℕ) → z ≢ 0 → IsAt byte bytes j k z → NoneAt (λ (s : Shape). byte 0) bytes j
not_zero_byte bytes j k z other h s end p =
    other (same_at bytes j k end (byte_same z 0) (stands byte bytes j k z h) (stands (λ (s : Shape). byte 0) bytes j end s p)).1

-- a code with no immediates has none
bare_shape : (s : Shape) (code : ℕ) → IsOtherCode code → IsCodeOf s code → s ≡ Bare
bare_shape Bare code ok c = refl
bare_shape s code ok c = absurd (omega arith)

bare_rest : (s : Shape) (t : List ℕ) → s ≡ Bare → immediates s t → t ≡ []
bare_rest s t e h = subst (λ (r : Shape). immediates r t) e h

pub none_bare : (code : ℕ) (bytes : List ℕ) (j : ℕ) → IsOtherCode code → ((x : Instr) → shape_of x ≡ Bare → instruction x (code ∷ []) → ⊥) → NoneAt (behind instruction code) bytes j
none_bare code bytes j ok none x end h =
    let s = stands (behind instruction code) bytes j end x h in
    let p = shaped x code s.front s.spelled in
    let bare = bare_shape (shape_of x) code ok p.0 in
    none x bare (subst (λ (t : List ℕ). instruction x (code ∷ t)) (bare_rest (shape_of x) s.front bare p.1) s.spelled)

-- a code of nothing but numeric instructions, and of no numeric one, begins none
pub none_numeric : (code : ℕ) (bytes : List ℕ) (j : ℕ) → IsNumericCode code → ((op : Op) → operator_code op ≡ Some code → ⊥) → (IsFloatCode code → ⊥) → NoneAt (behind instruction code) bytes j
none_numeric code bytes j ok integer float = none_bare code bytes j (grind arith) never
  where
    never : (x : Instr) → shape_of x ≡ Bare → instruction x (code ∷ []) → ⊥
    never (Integer op) s h = let same : h.0 ≡ code = cc in integer op (subst (λ (c : ℕ). operator_code op ≡ Some c) same h.1)
    never (Float op) s h = let same : op ≡ code = cc in float (subst IsFloatCode same h.0)
    never Unreachable s h = let same : code ≡ 0x00 = cc in absurd (omega arith)
    never Nop s h = let same : code ≡ 0x01 = cc in absurd (omega arith)
    never Else s h = let same : code ≡ 0x05 = cc in absurd (omega arith)
    never End s h = let same : code ≡ 0x0B = cc in absurd (omega arith)
    never Return s h = let same : code ≡ 0x0F = cc in absurd (omega arith)
    never Drop s h = let same : code ≡ 0x1A = cc in absurd (omega arith)
    never Select s h = let same : code ≡ 0x1B = cc in absurd (omega arith)
    never x s h = absurd cc

-- a code of no access begins none
pub none_access : (code : ℕ) → IsAccessCode code → ((kind : AccessKind) → access_code kind ≡ code → ⊥) → ((kind : FloatAccess) → float_access_code kind ≡ code → ⊥) → (x : Instr) (rest : List ℕ) → instruction x (code ∷ rest) → ⊥
none_access code ok other float (Load kind argument) rest h = other kind (after_byte (access_code kind) code rest h.1).0
none_access code ok other float (Store kind argument) rest h = other kind (after_byte (access_code kind) code rest h.1).0
none_access code ok other float (FloatAccessed kind argument) rest h = float kind (after_byte (float_access_code kind) code rest h).0
none_access code ok other float x rest h = let s = (shaped x code rest h).0 in absurd (omega arith)
