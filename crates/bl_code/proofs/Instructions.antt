-- Instructions are prefix-free.
use Rattle.std.proofs.Common.{◌≡◌, ◌≢◌, ℕ, ◌≤◌, ◌<◌, List, [], ◌∷◌, ◌++◌, Some, None, Bool, true, false, ap, ap₂, sym, ◌∙◌, refl, subst, arith, ◌⊎◌, inl, inr, lit<}
use Rattle.std.specs.Prelude.{Option, ◌==◌, nat_lt, if◌then◌else◌, find, IsTrue}
use Rattle.std.proofs.lemmas.Bool.Decides.{nat_tests}
use Rattle.bl_ops.specs.Access.{access_code, access_kind, is_load}
use Rattle.bl_ops.specs.OperatorTable.{operator_code, operator_of, operators, image_code_of}
use Rattle.bl_ops.specs.declared.access.AccessKind.{AccessKind}
use Rattle.bl_ops.specs.declared.op.Op.{Op}
use Rattle.bl_ops.specs.declared.op.Op.TheVariants.{I32Eqz, Move, Select as Selected, Outside}
use Rattle.bl_wasm.specs.Codes.{IsFloatCode, float_access_code}
use Rattle.bl_wasm.specs.Instructions.{instruction, memory_argument}
use Rattle.bl_wasm.specs.declared.float.FloatAccess.{FloatAccess}
use Rattle.bl_wasm.specs.declared.float.FloatAccess.TheVariants.{F32Load, F64Load, F32Store, F64Store}
use Rattle.bl_wasm.specs.declared.instruction.Instr.{Instr}
use Rattle.bl_wasm.specs.declared.instruction.Instr.TheVariants.{Unreachable, Nop, Block, Loop, If, Else, End, Br, BrIf, BrTable, Return, Call, CallIndirect, Drop, Select, LocalGet, LocalSet, LocalTee, GlobalGet, GlobalSet, Load, Store, FloatAccess as FloatAccessed, MemorySize, MemoryGrow, I32Const, I64Const, F32Const, F64Const, Integer, Float}
use Rattle.bl_wasm.specs.declared.instruction.MemoryArgument.{MemoryArgument}
use Rattle.bl_code.specs.Shapes.{Shape, Bare, Typed, Indexed, Labels, Indirect, Access, Zero, Int32, Int64, Float32, Float64, shape_of, IsCodeOf, immediates}
use Rattle.bl_code.specs.Laws.{u32_prefix_free}
use Rattle.bl_code.specs.Unique.{Same, PrefixFree}
use Rattle.bl_code.proofs.BlockTypes.{block_type_prefix_free}
use Rattle.bl_code.proofs.Shapes.{after_byte, only_byte, never_empty, shaped}
use Rattle.bl_code.proofs.Unique.{byte_same, u32_same, seq_same, vec_prefix_free, then_same, nothing_same, int_same, f32_same, f64_same}
use Rattle.bl_ops.proofs.AccessLemmas.{access_found}

-- the instruction of a numeric code
abbrev numeric : ℕ → Option Op → Instr
numeric code (Some op) = Integer op
numeric code None = Float code

-- the access of a code
abbrev access : ℕ → MemoryArgument → Option AccessKind → Instr
access code argument None = (if code == 0x2A then FloatAccessed F32Load argument else (if code == 0x2B then FloatAccessed F64Load argument else (if code == 0x38 then FloatAccessed F32Store argument else FloatAccessed F64Store argument)))
access code argument (Some kind) = (if is_load kind then Load kind argument else Store kind argument)

-- the first of the choices whose code this is
abbrev choose : {A : Type 0} → ℕ → List (ℕ × A) → A → A
choose code [] last = last
choose code (row ∷ rows) last = (if code == row.0 then row.1 else choose code rows last)

-- the instruction without immediates of a code
abbrev bare : ℕ → Instr
bare code =
    (if nat_lt code 0x45
    then choose code ((0x00, Unreachable) ∷ (0x01, Nop) ∷ (0x05, Else) ∷ (0x0B, End) ∷ (0x0F, Return) ∷ (0x1A, Drop) ∷ []) Select
    else numeric code (operator_of code))

-- the instruction of a code and of immediates
abbrev rebuilt : ℕ → Shape → Instr
rebuilt code Bare = bare code
rebuilt code (Typed type) = choose code ((2, Block type) ∷ (3, Loop type) ∷ []) (If type)
rebuilt code (Indexed x) = choose code ((0x0C, Br x) ∷ (0x0D, BrIf x) ∷ (0x10, Call x) ∷ (0x20, LocalGet x) ∷ (0x21, LocalSet x) ∷ (0x22, LocalTee x) ∷ (0x23, GlobalGet x) ∷ []) (GlobalSet x)
rebuilt code (Labels labels default) = BrTable default labels
rebuilt code (Indirect type) = CallIndirect type
rebuilt code (Access argument) = access code argument (access_kind code)
rebuilt code Zero = choose code ((0x3F, MemorySize) ∷ []) MemoryGrow
rebuilt code (Int32 n) = I32Const n
rebuilt code (Int64 n) = I64Const n
rebuilt code (Float32 bits) = F32Const bits
rebuilt code (Float64 bits) = F64Const bits

load_rebuilt : (kind : AccessKind) (argument : MemoryArgument) → IsTrue (is_load kind) → access (access_code kind) argument (access_kind (access_code kind)) ≡ Load kind argument
load_rebuilt kind argument load = rw (access_found, load) refl

store_rebuilt : (kind : AccessKind) (argument : MemoryArgument) → is_load kind ≡ false → access (access_code kind) argument (access_kind (access_code kind)) ≡ Store kind argument
store_rebuilt kind argument store = rw (access_found, store) refl

float_rebuilt : (kind : FloatAccess) (argument : MemoryArgument) → access (float_access_code kind) argument (access_kind (float_access_code kind)) ≡ FloatAccessed kind argument
float_rebuilt kind argument = elim kind as (λ (k : FloatAccess). access (float_access_code k) argument (access_kind (float_access_code k)) ≡ FloatAccessed k argument) [ F32Load ↦ refl | _ ↦ refl ]

-- an operator is that of its code
abbrev IsRebuilt : Op → Option ℕ → Type 0
IsRebuilt op None = Unit {0}
IsRebuilt op (Some code) = bare code ≡ Integer op

op_rebuilt : (op : Op) → IsRebuilt op (operator_code op)
op_rebuilt op = elim op as (λ (o : Op). IsRebuilt o (operator_code o)) [ I32Eqz ↦ refl | Move ↦ tt | Selected ↦ tt | Outside ↦ tt | _ ↦ refl ]

integer_rebuilt : (op : Op) (o : Option ℕ) (code : ℕ) → IsRebuilt op o → o ≡ Some code → bare code ≡ Integer op
integer_rebuilt op None code h e = absurd cc
integer_rebuilt op (Some c) code h e = let same : c ≡ code = cc in subst (λ (n : ℕ). bare n ≡ Integer op) same h

-- what is found passes the test
found_passes : {A : Type 0} (p : A → Bool) (xs : List A) (x : A) → find p xs ≡ Some x → p x ≡ true
found_passes p [] x e = absurd cc
found_passes p (y ∷ xs) x e = by_test (p y) refl (found_passes p xs x)
  where
    by_test : (b : Bool) → p y ≡ b → (find p xs ≡ Some x → p x ≡ true) → p x ≡ true
    by_test true is rest = let same : Some y ≡ Some x = rw is at e in let first : y ≡ x = cc in ap p (sym first) ∙ is
    by_test false is rest = rest (rw is at e)

-- an operator's byte in an image is its code, but for three below 45
op_image : (op : Op) → (operator_code op ≡ Some (image_code_of op)) ⊎ (image_code_of op < 0x45)
op_image op = elim op as (λ (o : Op). (operator_code o ≡ Some (image_code_of o)) ⊎ (image_code_of o < 0x45)) [ I32Eqz ↦ inl refl | Move ↦ inr (lit< tt) | Selected ↦ inr (lit< tt) | Outside ↦ inr (lit< tt) | _ ↦ inl refl ]

code_if : (op : Op) (code : ℕ) → image_code_of op ≡ code → 0x45 ≤ code → operator_code op ≡ Some code
code_if op code e large = elim (op_image op) [ inl is ↦ is ∙ ap Some e | inr small ↦ absurd (omega arith) ]

float_op_rebuilt : (code : ℕ) → IsFloatCode code → bare code ≡ Float code
float_op_rebuilt code float =
    let low : nat_lt code 0x45 ≡ false = grind (arith, nat_tests) in
    rw low (none (operator_of code) refl)
  where
    none : (o : Option Op) → operator_of code ≡ o → numeric code o ≡ Float code
    none None e = refl
    none (Some op) e =
        let test : (image_code_of op == code) ≡ true = found_passes (λ o. image_code_of o == code) operators op e in
        let same : image_code_of op ≡ code = grind (arith, nat_tests) in
        absurd (float.2 op (code_if op code same float.0))

-- an instruction is that of its code and its immediates
pub rebuilds : (x : Instr) (code : ℕ) (rest : List ℕ) → instruction x (code ∷ rest) → rebuilt code (shape_of x) ≡ x
rebuilds Unreachable code rest h = subst (λ (c : ℕ). bare c ≡ Unreachable) (only_byte 0x00 code rest h).0 refl
rebuilds Nop code rest h = subst (λ (c : ℕ). bare c ≡ Nop) (only_byte 0x01 code rest h).0 refl
rebuilds (Block x) code rest h = subst (λ (c : ℕ). rebuilt c (Typed x) ≡ Block x) (after_byte 0x02 code rest h).0 refl
rebuilds (Loop x) code rest h = subst (λ (c : ℕ). rebuilt c (Typed x) ≡ Loop x) (after_byte 0x03 code rest h).0 refl
rebuilds (If x) code rest h = subst (λ (c : ℕ). rebuilt c (Typed x) ≡ If x) (after_byte 0x04 code rest h).0 refl
rebuilds Else code rest h = subst (λ (c : ℕ). bare c ≡ Else) (only_byte 0x05 code rest h).0 refl
rebuilds End code rest h = subst (λ (c : ℕ). bare c ≡ End) (only_byte 0x0B code rest h).0 refl
rebuilds (Br x) code rest h = subst (λ (c : ℕ). rebuilt c (Indexed x) ≡ Br x) (after_byte 0x0C code rest h).0 refl
rebuilds (BrIf x) code rest h = subst (λ (c : ℕ). rebuilt c (Indexed x) ≡ BrIf x) (after_byte 0x0D code rest h).0 refl
rebuilds (BrTable default labels) code rest h = refl
rebuilds Return code rest h = subst (λ (c : ℕ). bare c ≡ Return) (only_byte 0x0F code rest h).0 refl
rebuilds (Call x) code rest h = subst (λ (c : ℕ). rebuilt c (Indexed x) ≡ Call x) (after_byte 0x10 code rest h).0 refl
rebuilds (CallIndirect type) code rest h = refl
rebuilds Drop code rest h = subst (λ (c : ℕ). bare c ≡ Drop) (only_byte 0x1A code rest h).0 refl
rebuilds Select code rest h = subst (λ (c : ℕ). bare c ≡ Select) (only_byte 0x1B code rest h).0 refl
rebuilds (LocalGet x) code rest h = subst (λ (c : ℕ). rebuilt c (Indexed x) ≡ LocalGet x) (after_byte 0x20 code rest h).0 refl
rebuilds (LocalSet x) code rest h = subst (λ (c : ℕ). rebuilt c (Indexed x) ≡ LocalSet x) (after_byte 0x21 code rest h).0 refl
rebuilds (LocalTee x) code rest h = subst (λ (c : ℕ). rebuilt c (Indexed x) ≡ LocalTee x) (after_byte 0x22 code rest h).0 refl
rebuilds (GlobalGet x) code rest h = subst (λ (c : ℕ). rebuilt c (Indexed x) ≡ GlobalGet x) (after_byte 0x23 code rest h).0 refl
rebuilds (GlobalSet x) code rest h = subst (λ (c : ℕ). rebuilt c (Indexed x) ≡ GlobalSet x) (after_byte 0x24 code rest h).0 refl
rebuilds (Load kind argument) code rest h = subst (λ (c : ℕ). access c argument (access_kind c) ≡ Load kind argument) (after_byte (access_code kind) code rest h.1).0 (load_rebuilt kind argument h.0)
rebuilds (Store kind argument) code rest h = subst (λ (c : ℕ). access c argument (access_kind c) ≡ Store kind argument) (after_byte (access_code kind) code rest h.1).0 (store_rebuilt kind argument h.0)
rebuilds (FloatAccessed kind argument) code rest h = subst (λ (c : ℕ). access c argument (access_kind c) ≡ FloatAccessed kind argument) (after_byte (float_access_code kind) code rest h).0 (float_rebuilt kind argument)
rebuilds MemorySize code rest h = subst (λ (c : ℕ). rebuilt c (Zero) ≡ MemorySize) (after_byte 0x3F code rest h).0 refl
rebuilds MemoryGrow code rest h = subst (λ (c : ℕ). rebuilt c (Zero) ≡ MemoryGrow) (after_byte 0x40 code rest h).0 refl
rebuilds (I32Const x) code rest h = refl
rebuilds (I64Const x) code rest h = refl
rebuilds (F32Const x) code rest h = refl
rebuilds (F64Const x) code rest h = refl
rebuilds (Integer op) code rest h = integer_rebuilt op (operator_code op) code (op_rebuilt op) (h.1 ∙ ap Some (only_byte h.0 code rest h.2).0)
rebuilds (Float op) code rest h = let same = (only_byte op code rest h.1).0 in subst (λ (c : ℕ). bare c ≡ Float op) same (float_op_rebuilt op h.0)

abbrev made : ℕ → ℕ → MemoryArgument
made alignment offset = record { alignment = alignment; offset = offset }

pub memory_argument_prefix_free : PrefixFree memory_argument
memory_argument_prefix_free = record { same = λ x y. seq_same (u32_same x.alignment y.alignment) (λ first. then_same (λ second. argument_same x y first second) (u32_same x.offset y.offset)) }
  where
    argument_same : (x y : MemoryArgument) → x.alignment ≡ y.alignment → x.offset ≡ y.offset → x ≡ y
    argument_same x y first second =
        ap₂ made first second

-- immediates of one code
immediates_same : (s t : Shape) (code : ℕ) → IsCodeOf s code → IsCodeOf t code → Same (immediates s) (immediates t) (s ≡ t)
immediates_same Bare Bare code c d = nothing_same refl
immediates_same (Typed x) (Typed y) code c d = then_same (ap Typed) (block_type_prefix_free.same x y)
immediates_same (Indexed x) (Indexed y) code c d = then_same (ap Indexed) (u32_same x y)
immediates_same (Labels xs x) (Labels ys y) code c d = seq_same ((vec_prefix_free u32_prefix_free).same xs ys) (λ first. then_same (λ second. ap₂ Labels first second) (u32_same x y))
immediates_same (Indirect x) (Indirect y) code c d = seq_same (u32_same x y) (λ first. then_same (λ _. ap Indirect first) (u32_same 0 0))
immediates_same (Access x) (Access y) code c d = then_same (ap Access) (memory_argument_prefix_free.same x y)
immediates_same Zero Zero code c d = then_same (λ _. refl) (byte_same 0 0)
immediates_same (Int32 x) (Int32 y) code c d = then_same (ap Int32) (int_same 32 x y)
immediates_same (Int64 x) (Int64 y) code c d = then_same (ap Int64) (int_same 64 x y)
immediates_same (Float32 x) (Float32 y) code c d = then_same (ap Float32) (f32_same x y)
immediates_same (Float64 x) (Float64 y) code c d = then_same (ap Float64) (f64_same x y)
immediates_same s t code c d = absurd (omega arith)

-- instructions are prefix-free
instruction_same : (x y : Instr) (a b u v : List ℕ) → instruction x a → instruction y b → a ++ u ≡ b ++ v → (a ≡ b) × (x ≡ y)
instruction_same x y [] b u v p q e = absurd (never_empty x p)
instruction_same x y (c ∷ a) [] u v p q e = absurd (never_empty y q)
instruction_same x y (c ∷ a) (d ∷ b) u v p q e =
    let code : c ≡ d = cc in
    let tails : a ++ u ≡ b ++ v = cc in
    let f = shaped x c a p in
    let g = shaped y d b q in
    let here : IsCodeOf (shape_of y) c = subst (λ (n : ℕ). IsCodeOf (shape_of y) n) (sym code) g.0 in
    let same = (immediates_same (shape_of x) (shape_of y) c f.0 here).both a b u v f.1 g.1 tails in
    (ap₂ (λ n t. n ∷ t) code same.0, sym (rebuilds x c a p) ∙ ap₂ rebuilt code same.1 ∙ rebuilds y d b q)

pub instruction_prefix_free : PrefixFree instruction
instruction_prefix_free = record { same = λ x y. record { both = λ a b u v p q e. instruction_same x y a b u v p q e } }
