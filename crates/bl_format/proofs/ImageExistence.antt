-- Each well-formed program whose numbers are of their widths has an image, in bytes where its rows and names are.
use Rattle.std.proofs.Common.{◌≡◌, ℕ, zero, suc, ◌+◌, ◌-◌, ◌*◌, ◌/◌, ◌%◌, ◌^◌, ◌<◌, ◌≤◌, Bool, true, false, List, [], ◌∷◌, ◌++◌, length, take, drop, slice_index_or, inl, inr, refl, ap, sym, ◌∙◌, subst, arith, ◌⊎◌, length-append, length-drop}
use Rattle.std.specs.Prelude.{if◌then◌else◌, option_map, unwrap_or}
use Rattle.std.specs.List.{All}
use Rattle.std.proofs.lemmas.Bool.{cases_lt}
use Rattle.std.proofs.lemmas.List.{get_or-drop}
use Rattle.std.proofs.lemmas.List.Elements.{All-append, All-cons, All-head, All-nil, All-tail}
use Rattle.std.proofs.lemmas.Nat.{pow-add}
use Rattle.std.proofs.lemmas.Option.{slice_get-get_or, slice_get_past}
use Rattle.bl_base.specs.Fits.{ArgumentFits, AreBytes}
use Rattle.bl_base.specs.Quantity.{limit_of}
use Rattle.bl_base.specs.Trap.{trap_number}
use Rattle.bl_base.specs.declared.names.Label.{Label}
use Rattle.bl_base.specs.declared.names.Label.TheVariants.{Public, Secret}
use Rattle.bl_base.specs.declared.names.ValueType.{ValueType}
use Rattle.bl_base.specs.declared.names.ValueType.TheVariants.{I32, I64}
use Rattle.bl_base.specs.declared.quantity.Quantity.TheVariants as quantity
use Rattle.bl_base.specs.declared.trap.Trap.{Trap as TrapKind}
use Rattle.bl_base.specs.declared.trap.Trap.TheVariants as kinds
use Rattle.bl_base.proofs.Lists.{all_get, within_get}
use Rattle.bl_leb.specs.Grammar.{Spellings, ◌⨾◌, byte, nothing}
use Rattle.bl_leb.specs.Numbers.{IsUnsigned}
use Rattle.bl_leb.specs.Spellings.{IsShortest}
use Rattle.bl_leb.proofs.Bits.{power_grows}
use Rattle.bl_leb.proofs.Unsigned.{power_split, shortest_one, shortest_more}
use Rattle.bl_ops.specs.Access.{access_code}
use Rattle.bl_ops.specs.OperatorTable.{image_code_of}
use Rattle.bl_ops.specs.declared.access.AccessKind.{AccessKind}
use Rattle.bl_ops.specs.declared.access.AccessKind.TheVariants.{I32Load}
use Rattle.bl_ops.specs.declared.op.Op.{Op}
use Rattle.bl_ops.specs.declared.op.Op.TheVariants.{Move}
use Rattle.bl_program.specs.Layout.{Holds, first_of, params_of, results_of, statics}
use Rattle.bl_program.specs.Programs.{IsCommand, IsProgram, arity}
use Rattle.bl_program.specs.Rules.{IsDemand, IsMark, IsMemory, IsOwn, IsReadable, IsWellFormed, IsWritable, Rule4, Rule5, Rule6, operands_of}
use Rattle.bl_program.specs.Sites.{Among, Names, listed}
use Rattle.bl_program.specs.declared.command.Command.{Command}
use Rattle.bl_program.specs.declared.command.Command.TheVariants.{Set, Load, Store, Test, Jump, Arg, Call, Out, Ret, Trap}
use Rattle.bl_program.specs.declared.command.Mark.{Mark}
use Rattle.bl_program.specs.declared.command.Operand.{Operand}
use Rattle.bl_program.specs.declared.command.Operand.TheVariants.{Var, Const}
use Rattle.bl_program.specs.declared.definitions.Demand.{Demand}
use Rattle.bl_program.specs.declared.definitions.Demand.TheVariants.{Result, Global}
use Rattle.bl_program.specs.declared.definitions.ExportDef.{ExportDef}
use Rattle.bl_program.specs.declared.definitions.FunctionDef.{FunctionDef}
use Rattle.bl_program.specs.declared.definitions.GlobalDef.{GlobalDef}
use Rattle.bl_program.specs.declared.definitions.MemRow.{MemRow}
use Rattle.bl_program.specs.declared.definitions.MemoryDef.{MemoryDef}
use Rattle.bl_program.specs.declared.definitions.ParamDef.{ParamDef}
use Rattle.bl_program.specs.declared.definitions.ProgramParts.{ProgramParts as Program}
use Rattle.bl_program.specs.declared.definitions.SiteWeight.{SiteWeight}
use Rattle.bl_program.proofs.Layouts.{first_below, held_by, holds_within, number_is, own_exists, result_own}
use Rattle.bl_program.specs.Widths.{HasByteWidths, HasConstants, HasWidth, HasWidths}
use Rattle.bl_format.specs.Grammar.{each, each_after, gap, u32, u64, vec}
use Rattle.bl_format.specs.Image.{Image, additions, command, command_code, definitions, demand, export, fields, function, global, image, label, magic, mark, memory, operand, param, row, value_type, weight, weights, label_code, type_code, version}
use Rattle.bl_format.specs.WriterAnswers.{DefinitionsFit, FunctionFits, Rises}
use Rattle.bl_format.proofs.SpellableParts.{additions_fit, definitions_fit, found_within, member, memory_fits, rows_few, site_within}

abbrev IsByte : ℕ → Type 0
IsByte n = n < 2 ^ 8

-- ---- codes are bytes

small_type : (kind : ValueType) → type_code kind < 2 ^ 8
small_type I32 = omega arith
small_type I64 = omega arith

small_label : (one : Label) → label_code one < 2 ^ 8
small_label Public = omega arith
small_label Secret = omega arith

small_access : (kind : AccessKind) → access_code kind < 2 ^ 8
small_access kind = elim kind as (λ k. access_code k < 2 ^ 8) [ I32Load ↦ omega arith | _ ↦ omega arith ]

small_operator : (op : Op) → image_code_of op < 2 ^ 8
small_operator op = elim op as (λ o. image_code_of o < 2 ^ 8) [ Move ↦ omega arith | _ ↦ omega arith ]

small_trap : (kind : TrapKind) → trap_number kind < 2 ^ 8
small_trap kind = elim kind as (λ k. trap_number k < 2 ^ 8) [ kinds.Unreachable ↦ omega arith | _ ↦ omega arith ]

small_command : (one : Command) → command_code one < 2 ^ 8
small_command one = elim one as (λ c. command_code c < 2 ^ 8) [ Ret ↦ omega arith | _ ↦ omega arith ]

small_version : (ds : List Demand) (ws : List SiteWeight) → version ds ws < 2 ^ 8
small_version [] [] = omega arith
small_version [] (listed ∷ more) = omega arith
small_version (demanded ∷ more) ws = omega arith

small_mark : (depth : ℕ) (protect : Bool) → depth ≤ 6 → depth + (if protect then 8 else 0) < 2 ^ 8
small_mark depth true le = omega arith
small_mark depth false le = omega arith

magic_bytes : AreBytes magic
magic_bytes =
    All-cons IsByte 0x42 (0x4C ∷ 0x49 ∷ 0x4D ∷ []) (omega arith) (All-cons IsByte 0x4C (0x49 ∷ 0x4D ∷ []) (omega arith)
    (All-cons IsByte 0x49 (0x4D ∷ []) (omega arith) (All-cons IsByte 0x4D [] (omega arith) (All-nil IsByte))))

-- parameters and results of each function, and bytes of each name, are few
pub record AreSmall (most : ℕ) (program : Program) : Type 0 where
  pub functions : All (λ one. 2 * length one.params + length one.results ≤ most) program.functions
  pub names : All (λ one. length one.name ≤ most) program.exports

-- ---- what is spelled

module _ (program : Program) (facts : IsProgram program) (well : IsWellFormed program) (widths : HasWidths program) where
  -- something has a spelling of at most so many bytes, in bytes where the rows and the names of the program are
  record IsSpelled (most : ℕ) (S : Spellings) : Type 0 where
    bytes : List ℕ
    few : length bytes ≤ most
    spelled : S bytes
    are : HasByteWidths program → AreBytes bytes

  one_byte : (n : ℕ) → n < 2 ^ 8 → IsSpelled 1 (byte n)
  one_byte n small = record { bytes = n ∷ []; few = omega arith; spelled = refl; are = λ _. All-cons IsByte n [] small (All-nil IsByte) }

  no_bytes : IsSpelled 0 nothing
  no_bytes = record { bytes = []; few = omega arith; spelled = refl; are = λ _. All-nil IsByte }

  and : {m n : ℕ} {F S : Spellings} → IsSpelled m F → IsSpelled n S → IsSpelled (m + n) (F ⨾ S)
  and f s = record {
    bytes = f.bytes ++ s.bytes;
    few = omega (arith, length-append f.bytes s.bytes, f.few, s.few);
    spelled = record { front = f.bytes; rest = s.bytes; whole = refl; first = f.spelled; second = s.spelled };
    are = λ has. All-append IsByte f.bytes s.bytes (f.are has) (s.are has);
  }

  up : {m n : ℕ} {S : Spellings} → IsSpelled m S → m ≤ n → IsSpelled n S
  up one le = record { bytes = one.bytes; few = omega (arith, one.few, le); spelled = one.spelled; are = one.are }

  -- ---- numbers

  short : (n width : ℕ) → n < 128 → n < 2 ^ width → IsSpelled 1 (λ bytes. IsShortest (IsUnsigned width) bytes n)
  short n width small narrow = record { bytes = n ∷ []; few = omega arith; spelled = shortest_one width n small narrow; are = λ _. All-cons IsByte n [] (omega (arith, small)) (All-nil IsByte) }

  shortest : (most n width : ℕ) → n < 2 ^ (7 * suc most) → n < 2 ^ width → IsSpelled (suc most) (λ bytes. IsShortest (IsUnsigned width) bytes n)
  shortest zero n width fits narrow = short n width (omega arith) narrow
  shortest (suc most) n width fits narrow =
      elim (cases_lt n 128) as (λ _. IsSpelled (suc (suc most)) (λ bytes. IsShortest (IsUnsigned width) bytes n)) [
        | inl small ↦ up (short n width small narrow) (omega arith)
        | inr large ↦
            let cases : (width ≤ 7) ⊎ (7 < width) = grind arith in
            let wide : 7 < width = elim cases [ inl low ↦ (let all = power_grows width 7 low in absurd (omega arith)) | inr more ↦ more ] in
            let split = power_split width wide in
            let long : 7 * suc (suc most) ≡ 7 + 7 * suc most = omega arith in
            let more = ap (λ k. 2 ^ k) long ∙ pow-add 2 7 (7 * suc most) in
            let rest = shortest most (n / 128) (width - 7) (omega arith) (omega arith) in
            record {
              bytes = (n % 128 + 128) ∷ rest.bytes;
              few = omega (arith, rest.few);
              spelled = shortest_more width (n % 128 + 128) (n / 128) n rest.bytes (omega arith) (omega arith) wide rest.spelled (omega arith) (omega arith);
              are = λ has. All-cons IsByte (n % 128 + 128) rest.bytes (omega arith) (rest.are has);
            }
      ]

  long_number : (n : ℕ) → n < 2 ^ 64 → IsSpelled 10 (u64 n)
  long_number n fits = let more = power_grows 64 70 (omega arith) in shortest 9 n 64 (omega arith) fits

  number : (n : ℕ) → n < 2 ^ 32 → IsSpelled 10 (u32 n)
  number n fits =
      let more = power_grows 32 64 (omega arith) in
      let all = long_number n (omega arith) in
      record { bytes = all.bytes; few = all.few; spelled = (fits, all.spelled); are = all.are }

  -- ---- lists

  Every : {A : Type 0} → ℕ → (A → Spellings) → List A → Type 0
  Every m B [] = Unit {0}
  Every m B (x ∷ xs) = IsSpelled m (B x) × Every m B xs

  some_of : {A : Type 0} (m : ℕ) (B : A → Spellings) (n : ℕ) (xs : List A) → Every m B xs → IsSpelled (m * length xs) (each B (take n xs))
  unfolding Every
  some_of m B zero xs h = up no_bytes (omega arith)
  some_of m B (suc n) [] h = up no_bytes (omega arith)
  some_of m B (suc n) (x ∷ xs) h = up (and h.0 (some_of m B n xs h.1)) (omega arith)

  all_of : {A : Type 0} {m : ℕ} (B : A → Spellings) (P : A → Type 0) → ((x : A) → P x → IsSpelled m (B x)) → (xs : List A) → All P xs → IsSpelled (m * length xs) (each B xs)
  all_of B P gives [] h = up no_bytes (omega arith)
  all_of B P gives (x ∷ xs) h = up (and (gives x (All-head P x xs h)) (all_of B P gives xs (All-tail P x xs h))) (omega arith)

  any_of : {A : Type 0} {m : ℕ} (B : A → Spellings) → ((x : A) → IsSpelled m (B x)) → (xs : List A) → IsSpelled (m * length xs) (each B xs)
  any_of B gives xs = all_of B (λ x. Unit {0}) (λ x h. gives x) xs (λ k d lt. tt)

  counted : {A : Type 0} {m : ℕ} (B : A → Spellings) (xs : List A) → length xs < 2 ^ 32 → IsSpelled m (each B xs) → IsSpelled (10 + m) (vec B xs)
  counted B xs few all = and (number (length xs) few) all

  -- things whose numbers rise
  module _ {A : Type 0} {m : ℕ} (numbered : A → ℕ) (B : A → Spellings) (P : A → Type 0) (gives : (x : A) → P x → (numbered x < 2 ^ 32) × IsSpelled m (B x)) where
    rise : (least : ℕ) (xs : List A) → Rises numbered least xs → All P xs → IsSpelled ((10 + m) * length xs) (each_after (λ least x. suc (numbered x)) (λ least x. gap least (numbered x) ⨾ B x) least xs)
    rise least [] rises h = up no_bytes (omega arith)
    rise least (x ∷ xs) rises h =
        let known = gives x (All-head P x xs h) in
        let small = known.0 in
        let low = rises.0 in
        let far = number (numbered x - least) (omega arith) in
        let step : IsSpelled 10 (gap least (numbered x)) = record { bytes = far.bytes; few = far.few; spelled = (small, numbered x - least, omega arith, far.spelled); are = far.are } in
        up (and (and step known.1) (rise (suc (numbered x)) xs rises.1 (All-tail P x xs h))) (omega arith)

  -- ---- the parts of a program

  first_fits : (kind : ValueType) (n : ℕ) → ArgumentFits kind n → n < 2 ^ 64
  first_fits I32 n fits = let more = power_grows 32 64 (omega arith) in omega arith
  first_fits I64 n fits = fits

  a_type : (kind : ValueType) → IsSpelled 1 (value_type kind)
  a_type kind = one_byte (type_code kind) (small_type kind)

  a_label : (one : Label) → IsSpelled 1 (label one)
  a_label one = one_byte (label_code one) (small_label one)

  a_global : (one : GlobalDef) → ArgumentFits one.kind one.first → IsSpelled 12 (global one)
  a_global one fits = and (a_type one.kind) (and (a_label one.label) (long_number one.first (first_fits one.kind one.first fits)))

  a_param : (one : ParamDef) → IsSpelled 2 (param one)
  a_param one = and (a_type one.kind) (a_label one.label)

  an_export : (functions : ℕ) → functions < 2 ^ 32 → (one : ExportDef) → (length one.name < 2 ^ 64) × (one.function < functions) × (HasByteWidths program → AreBytes one.name) → IsSpelled (20 + length one.name) (export one)
  an_export functions few one h =
      up (and (and {n = length one.name} (long_number (length one.name) h.0) (record { bytes = one.name; few = omega arith; spelled = refl; are = h.2 })) (number one.function (omega (arith, h.1)))) (omega arith)

  fits : DefinitionsFit program
  fits = definitions_fit program well

  functions_few : length program.functions < 2 ^ 32
  functions_few = fits.functions

  vars_below : first_of program (length program.functions) < 2 ^ 31
  vars_below = well.rule2.variables

  commands_few : length program.commands < 2 ^ 32
  commands_few = let few = well.rule2.commands in omega (arith, few)

  -- ---- numbers of functions, variables and positions

  params_few : (f : ℕ) → f < length program.functions → params_of program f < 2 ^ 32
  params_few f lt =
      let got = within_get program.functions f lt in
      let few = (all_get FunctionFits program.functions f got.0 fits.each_function got.1).params in
      omega (arith, few, number_is (λ (one : FunctionDef). length one.params) program.functions f got.0 got.1)

  results_few : (f : ℕ) → f < length program.functions → results_of program f < 2 ^ 32
  results_few f lt =
      let got = within_get program.functions f lt in
      let few = (all_get FunctionFits program.functions f got.0 fits.each_function got.1).results in
      omega (arith, few, number_is (λ (one : FunctionDef). length one.results) program.functions f got.0 got.1)

  index_small : (f index : ℕ) → index < results_of program f → index < 2 ^ 32
  index_small f index lt = elim (cases_lt f (length program.functions)) as (λ _. index < 2 ^ 32) [
    | inl exists ↦ omega (arith, lt, results_few f exists)
    | inr none ↦
        let zero_is : results_of program f ≡ 0 = ap (λ o. unwrap_or (option_map (λ (one : FunctionDef). length one.results) o) 0) (slice_get_past program.functions f none) in
        absurd (omega (arith, lt, zero_is))
  ]

  own_small : (f x : ℕ) → IsOwn program f x → x < 2 ^ 32
  own_small f x own =
      let exists = own_exists program f x own in
      let up = first_below program (suc f) (omega (arith, exists)) in
      let high = own.1 in
      let all = vars_below in
      omega (arith, up, high, all)

  static_small : (x : ℕ) → x < statics program → x < 2 ^ 32
  static_small x lt =
      let up = first_below program 0 (omega arith) in
      let all = vars_below in
      omega (arith, lt, up, all)

  readable_small : (f x : ℕ) → IsReadable program f x → x < 2 ^ 32
  readable_small f x (inl low) = static_small x low
  readable_small f x (inr (inl own)) = own_small f x own
  readable_small f x (inr (inr other)) = own_small other.0 x (result_own program other.0 x well.rule2 other.1)

  writable_small : (f x : ℕ) → IsWritable program f x → x < 2 ^ 32
  writable_small f x (inl low) = static_small x low
  writable_small f x (inr local) = own_small f x local.0

  target_small : (f to : ℕ) → (to < 7) ⊎ Holds program f to → to < 2 ^ 32
  target_small f to (inl low) = omega (arith, low)
  target_small f to (inr holds) = omega (arith, holds_within program f to facts holds, commands_few)

  -- ---- commands

  an_operand : (a : Operand) → HasWidth a → ((x : ℕ) → Names a x → x < 2 ^ 32) → IsSpelled 11 (operand a)
  an_operand (Var x) wide small = and (one_byte 0 (omega arith)) (number x.0 (small x.0 refl))
  an_operand (Const n) wide small = and (one_byte 1 (omega arith)) (long_number n wide)

  a_mark : (m : Mark) → IsMark m → IsSpelled 1 (mark m)
  a_mark m is = let code = one_byte (m.depth + (if m.protect then 8 else 0)) (small_mark m.depth m.protect is) in record { bytes = code.bytes; few = code.few; spelled = (is, code.spelled); are = code.are }

  module _ (f position : ℕ) where
    the_fields : (one : Command) → IsCommand one → HasConstants one → ((x : ℕ) → Among (operands_of one) x → x < 2 ^ 32) → Rule4 program f one → Rule5 program f position one → Rule6 program f one → IsSpelled 63 (fields one)
    unfolding Every
    the_fields (Set m op to a b c) is wide small rule4 rule5 rule6 =
        up (and (and (a_mark m rule6) (and (one_byte _ (small_operator op)) (number to.0 (writable_small f to.0 rule4.writes))))
        (some_of 11 operand (arity op) (a ∷ b ∷ c ∷ [])
        (an_operand a wide.0 (λ x h. small x (inl h)), (an_operand b wide.1 (λ x h. small x (inr (inl h))), (an_operand c wide.2 (λ x h. small x (inr (inr (inl h)))), tt))))) (omega arith)
    the_fields (Load m kind space to offset address) is wide small rule4 rule5 rule6 =
        up (and (a_mark m rule6.0) (and (one_byte _ (small_access kind)) (and (number space (omega (arith, rule6.1, fits.memories)))
        (and (number to.0 (writable_small f to.0 rule4.writes)) (and (number offset is.1) (an_operand address wide (λ x h. small x (inl h)))))))) (omega arith)
    the_fields (Store kind space offset address value) is wide small rule4 rule5 rule6 =
        up (and (one_byte _ (small_access kind)) (and (number space (omega (arith, rule6, fits.memories))) (and (number offset is.1)
        (and (an_operand address wide.0 (λ x h. small x (inl h))) (an_operand value wide.1 (λ x h. small x (inr (inl h)))))))) (omega arith)
    the_fields (Test cond one other) is wide small rule4 rule5 rule6 =
        up (and (an_operand cond wide (λ x h. small x (inl h)))
        (and (number one.0 (target_small f one.0 (rule5.targets one.0 (inl refl)))) (number other.0 (target_small f other.0 (rule5.targets other.0 (inr refl)))))) (omega arith)
    the_fields (Jump to) is wide small rule4 rule5 rule6 = up (number to.0 (target_small f to.0 (rule5.targets to.0 refl))) (omega arith)
    the_fields (Arg m callee index value) is wide small rule4 rule5 rule6 =
        up (and (a_mark m rule6.0) (and (number callee (omega (arith, rule6.1, functions_few)))
        (and (number index (omega (arith, rule6.2, params_few callee rule6.1))) (an_operand value wide (λ x h. small x (inl h)))))) (omega arith)
    the_fields (Call callee) is wide small rule4 rule5 rule6 = up (number callee (omega (arith, rule6, functions_few))) (omega arith)
    the_fields (Out m index value) is wide small rule4 rule5 rule6 =
        up (and (a_mark m rule6.0) (and (number index (index_small f index rule6.1)) (an_operand value wide (λ x h. small x (inl h))))) (omega arith)
    the_fields Ret is wide small rule4 rule5 rule6 = up no_bytes (omega arith)
    the_fields (Trap kind) is wide small rule4 rule5 rule6 = up (one_byte _ (small_trap kind)) (omega arith)

  a_command : (k : ℕ) (d : Command) → k < length (drop 7 program.commands) → IsSpelled 64 (command (slice_index_or (drop 7 program.commands) k d))
  a_command k d less =
      let xs = program.commands in
      let within : 7 + k < length xs = omega (arith, less, length-drop 7 xs) in
      let one = slice_index_or xs (7 + k) d in
      let holds = held_by program (7 + k) facts (omega arith) within in
      let here = slice_get-get_or xs (7 + k) d within in
      let rule4 = well.rule4 (7 + k) holds.0 one holds.1 here in
      let is = facts.commands (7 + k) d within in
      let all = the_fields holds.0 (7 + k) one is (widths.constants (7 + k) d within) (λ x h. readable_small holds.0 x (rule4.reads x h)) rule4 (well.rule5 (7 + k) holds.0 one holds.1 here) (well.rule6 (7 + k) holds.0 one holds.1 here) in
      subst (λ c. IsSpelled 64 (command c)) (sym (get_or-drop 7 xs k d)) (and (one_byte (command_code one) (small_command one)) (record { bytes = all.bytes; few = all.few; spelled = (is, all.spelled); are = all.are }))

  -- ---- definitions

  a_memory : (one : MemoryDef) → IsMemory one → All (λ row. length row.bytes ≡ 16) one.rows → (HasByteWidths program → All (λ row. AreBytes row.bytes) one.rows) → IsSpelled 33554496 (memory one)
  a_memory one is sixteen bytes =
      let known = memory_fits one is in
      let pages = is.pages in
      let reserve = is.reserve in
      up (and (number one.pages (omega (arith, pages, reserve))) (and (number one.reserve (omega (arith, reserve))) (and (a_label one.label)
      (and (number (length one.rows) known.few) (rise {m = 16} (λ (one : MemRow). one.number) row (λ (one : MemRow). (one.number < 2 ^ 32) × (length one.bytes ≡ 16) × (HasByteWidths program → AreBytes one.bytes))
      (λ row h. (h.0, record { bytes = row.bytes; few = omega (arith, h.1); spelled = (h.1, refl); are = h.2 })) 0 one.rows known.rise
      (λ k d lt. (let low = (is.rows k d lt).within in omega (arith, low, pages, reserve), sixteen k d lt, λ has. bytes has k d lt))))))) (omega (arith, rows_few one is))

  a_function : (one : FunctionDef) → FunctionFits one → one.vars < 2 ^ 32 → one.length < 2 ^ 32 → IsSpelled (40 + (2 * length one.params + length one.results)) (function one)
  a_function one few vars long =
      up (and (counted param one.params few.params (any_of param a_param one.params))
      (and (counted value_type one.results few.results (any_of value_type a_type one.results)) (and (number one.vars vars) (number one.length long)))) (omega arith)

  the_definitions : (most : ℕ) → AreSmall most program
      → IsSpelled (40 + 12 * length program.globals + 33554496 * length program.memories + (40 + most) * length program.functions + (20 + most) * length program.exports) (definitions program)
  the_definitions most small =
      up (and (counted global program.globals fits.globals (all_of global (λ (one : GlobalDef). ArgumentFits one.kind one.first) a_global program.globals well.rule2.globals))
      (and (counted memory program.memories fits.memories (all_of memory (λ (one : MemoryDef). IsMemory one × All (λ row. length row.bytes ≡ 16) one.rows × (HasByteWidths program → All (λ row. AreBytes row.bytes) one.rows))
      (λ one h. a_memory one h.0 h.1 h.2) program.memories (λ k d lt. (well.rule1.memories k d lt, widths.rows k d lt, λ has. has.rows k d lt))))
      (and (counted function program.functions fits.functions (all_of {m = 40 + most} function (λ (one : FunctionDef). FunctionFits one × (one.vars < 2 ^ 32) × (one.length < 2 ^ 32) × (2 * length one.params + length one.results ≤ most)) (λ one h. up (a_function one h.0 h.1 h.2) (omega (arith, h.3))) program.functions
      (λ k d lt. (
        fits.each_function k d lt,
        (let part = member (λ (one : FunctionDef). one.vars) program.functions k d lt in let all = vars_below in omega (arith, part, all)),
        (let part = member (λ (one : FunctionDef). one.length) program.functions k d lt in let all = commands_few in let sum = facts.lengths in omega (arith, part, all, sum)),
        small.functions k d lt,
      ))))
      (and (long_number (length program.exports) widths.exports) (all_of {m = 20 + most} export (λ (one : ExportDef). (length one.name < 2 ^ 64) × (one.function < length program.functions) × (HasByteWidths program → AreBytes one.name) × (length one.name ≤ most)) (λ one h. up (an_export (length program.functions) functions_few one (h.0, h.1, h.2)) (omega (arith, h.3))) program.exports
      (λ k d lt. (widths.names k d lt, well.rule3.exist k d lt, λ has. has.names k d lt, small.names k d lt))))))) (omega arith)

  -- ---- demands and weights

  a_demand : (one : Demand) → IsDemand program one → IsSpelled 21 (demand one)
  a_demand (Result f index) is = and (one_byte 0 (omega arith)) (and (number f (omega (arith, is.0, functions_few))) (number index (omega (arith, is.1, results_few f is.0))))
  a_demand (Global x) is = up (and (one_byte 1 (omega arith)) (number x (omega (arith, found_within program.globals x _ is, fits.globals)))) (omega arith)

  the_weights : IsSpelled (10 + 20 * length program.weights) (weights program.weights)
  the_weights =
      let adds = additions_fit program well in
      let position : SiteWeight → ℕ = λ entry. entry.at.0 in
      let ws = program.weights in
      and (number (length ws) adds.few_weights) (rise position weight (λ (entry : SiteWeight). (entry.at.0 < 2 ^ 32) × (entry.weight < 2 ^ 64)) (λ entry h. (h.0, long_number entry.weight h.1)) 0 ws adds.rise
      (λ k d lt. (
        (let site = site_within (listed ws (slice_index_or ws k d).at.0) program.commands (slice_index_or ws k d).at.0 (well.rule9.weights k d lt).site in let few = commands_few in omega (arith, site, few)),
        widths.weights k d lt,
      )))

  more : {m : ℕ} (ds : List Demand) (ws : List SiteWeight) → IsSpelled m (vec demand ds ⨾ weights ws) → IsSpelled m (additions ds ws)
  more [] [] h = up no_bytes (omega arith)
  more [] (entry ∷ ws) h = h
  more (one ∷ ds) ws h = h

  the_demands : IsSpelled (10 + 21 * length program.demands) (vec demand program.demands)
  the_demands = counted demand program.demands (additions_fit program well).few_demands (all_of demand (IsDemand program) a_demand program.demands well.rule9.demands)

  the_image : (most : ℕ) → AreSmall most program
      → IsSpelled (65 + 12 * length program.globals + 33554496 * length program.memories + (40 + most) * length program.functions + (20 + most) * length program.exports
      + 21 * length program.demands + 20 * length program.weights + 64 * length program.commands) (image program)
  the_image most small =
      up (and (and {m = 4} (record { bytes = magic; few = omega arith; spelled = refl; are = λ _. magic_bytes }) (one_byte _ (small_version program.demands program.weights)))
      (and (the_definitions most small) (and (more program.demands program.weights (and the_demands the_weights))
      (all_of command (λ one. IsSpelled 64 (command one)) (λ one h. h) (drop 7 program.commands) a_command)))) (omega (arith, length-drop 7 program.commands))

  pub some_bytes : (bytes : List ℕ) × Image program bytes × (HasByteWidths program → AreBytes bytes)
  some_bytes =
      let all = the_image (2 ^ 64) (record {
        functions = λ k d lt. (let few = fits.each_function k d lt in omega (arith, few.params, few.results));
        names = λ k d lt. omega (arith, widths.names k d lt);
      }) in
      (all.bytes, record { is_program = facts; spelled = all.spelled }, all.are)

  pub some_image : (bytes : List ℕ) × Image program bytes
  some_image = (some_bytes.0, some_bytes.1)

  pub some_short_image : AreSmall 44 program → length program.memories ≤ 1
      → length program.globals + length program.functions + length program.exports + length program.demands + length program.weights ≤ 300000
      → (bytes : List ℕ) × Image program bytes × (length bytes ≤ limit_of quantity.Image)
  some_short_image small memories few =
      let all = the_image 44 small in
      (all.bytes, record { is_program = facts; spelled = all.spelled }, omega (arith, all.few, well.rule2.commands, memories, few))
