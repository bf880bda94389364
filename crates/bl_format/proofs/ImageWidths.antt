-- The numbers of a program that has an image are of their widths, and it has no more exports than the image has bytes.
use Rattle.std.proofs.Common.{◌≡◌, ℕ, zero, suc, ◌-◌, ◌^◌, ◌<◌, ◌≤◌, true, List, [], ◌∷◌, length, take, drop, inl, inr, refl, sym, ap, ◌∙◌, subst, arith, length-append}
use Rattle.std.specs.Prelude.{nat_lt}
use Rattle.std.specs.List.{All}
use Rattle.std.proofs.lemmas.Bool.{cases_lt, ltb-true}
use Rattle.std.proofs.lemmas.List.Elements.{All-cons, All-nil}
use Rattle.std.proofs.lemmas.Option.{same_Some}
use Rattle.bl_base.proofs.Lists.{all_from, all_get}
use Rattle.bl_leb.specs.Grammar.{Spellings, ◌⨾◌}
use Rattle.bl_leb.proofs.Unsigned.{bounded}
use Rattle.bl_ops.specs.declared.op.Op.{Op}
use Rattle.bl_ops.specs.declared.op.Op.TheVariants.{Move}
use Rattle.bl_program.specs.Programs.{IsProgram, IsZero, arity}
use Rattle.bl_program.specs.declared.command.Command.{Command}
use Rattle.bl_program.specs.declared.command.Command.TheVariants.{Set, Load, Store, Test, Arg, Out, Trap}
use Rattle.bl_program.specs.declared.command.Operand.{Operand}
use Rattle.bl_program.specs.declared.command.Operand.TheVariants as operands
use Rattle.bl_program.specs.declared.definitions.Demand.{Demand}
use Rattle.bl_program.specs.declared.definitions.ExportDef.{ExportDef}
use Rattle.bl_program.specs.declared.definitions.MemRow.{MemRow}
use Rattle.bl_program.specs.declared.definitions.MemoryDef.{MemoryDef}
use Rattle.bl_program.specs.declared.definitions.ProgramParts.{ProgramParts as Program}
use Rattle.bl_program.specs.declared.definitions.SiteWeight.{SiteWeight}
use Rattle.bl_program.specs.Widths.{HasConstants, HasWidth, HasWidths}
use Rattle.bl_program.proofs.AppendLemmas.{get_drop}
use Rattle.bl_format.specs.Grammar.{each, each_after, gap, u64}
use Rattle.bl_format.specs.Image.{Image, additions, command, export, memory, operand, row, weight, weights}

-- ---- lists

-- what each spelling says of an item holds of all
all_spelled : {A : Type 0} (B : A → Spellings) (P : A → Type 0) → ((x : A) (bytes : List ℕ) → B x bytes → P x) → (xs : List A) (bytes : List ℕ) → each B xs bytes → All P xs
all_spelled B P says [] bytes h = All-nil P
all_spelled B P says (x ∷ xs) bytes h = All-cons P x xs (says x h.front h.first) (all_spelled B P says xs h.rest h.second)

all_rising : {A : Type 0} (number : A → ℕ) (B : A → Spellings) (P : A → Type 0) → ((x : A) (bytes : List ℕ) → B x bytes → P x) → (least : ℕ) (xs : List A) (bytes : List ℕ)
    → each_after (λ least x. suc (number x)) (λ least x. gap least (number x) ⨾ B x) least xs bytes → All P xs
all_rising number B P says least [] bytes h = All-nil P
all_rising number B P says least (x ∷ xs) bytes h =
    All-cons P x xs (says x h.first.rest h.first.second) (all_rising number B P says (suc (number x)) xs h.rest h.second)

-- there are as many bytes as items, where each has some
few_spelled : {A : Type 0} (B : A → Spellings) → ((x : A) (bytes : List ℕ) → B x bytes → 0 < length bytes) → (xs : List A) (bytes : List ℕ) → each B xs bytes → length xs ≤ length bytes
few_spelled B some [] bytes h = omega arith
few_spelled B some (x ∷ xs) bytes h =
    let here = some x h.front h.first in
    let rest = few_spelled B some xs h.rest h.second in
    let long = ap length h.whole ∙ length-append h.front h.rest in
    omega arith

-- ---- numbers

small : (n : ℕ) (bytes : List ℕ) → u64 n bytes → n < 2 ^ 64
small n bytes h = bounded 64 bytes n h.spelled

some_bytes : (n : ℕ) (bytes : List ℕ) → u64 n bytes → 0 < length bytes
some_bytes n [] h = absurd h.spelled
some_bytes n (b ∷ bytes) h = omega arith

-- ---- commands

operand_width : (one : Operand) (bytes : List ℕ) → operand one bytes → HasWidth one
operand_width (operands.Var x) bytes h = tt
operand_width (operands.Const n) bytes h = small n h.rest h.second

zero_width : (one : Operand) → IsZero one → HasWidth one
zero_width one is = subst HasWidth (sym is) (omega arith)

-- an operator takes an operand
some_operand : (op : Op) → nat_lt 0 (arity op) ≡ true
some_operand op = elim op as (λ o. nat_lt 0 (arity o) ≡ true) [ Move ↦ refl | _ ↦ refl ]

-- so many operands are spelled, and the others are 0
set_widths : (n : ℕ) (a b c : Operand) (bytes : List ℕ) → 0 < n → (n < 2 → IsZero b) → (n < 3 → IsZero c) → each operand (take n (a ∷ b ∷ c ∷ [])) bytes → HasWidth a × HasWidth b × HasWidth c
set_widths zero a b c bytes some second third h = absurd (omega arith)
set_widths (suc zero) a b c bytes some second third h =
    (operand_width a h.front h.first, zero_width b (second (omega arith)), zero_width c (third (omega arith)))
set_widths (suc (suc zero)) a b c bytes some second third h =
    (operand_width a h.front h.first, operand_width b h.second.front h.second.first, zero_width c (third (omega arith)))
set_widths (suc (suc (suc n))) a b c bytes some second third h =
    (operand_width a h.front h.first, operand_width b h.second.front h.second.first, operand_width c h.second.second.front h.second.second.first)

constants : (one : Command) (bytes : List ℕ) → command one bytes → HasConstants one
constants (Set mark op to a b c) bytes h =
    let fields = h.second.1 in
    set_widths (arity op) a b c fields.rest (ltb-true 0 (arity op) (some_operand op)) h.second.0.0 h.second.0.1 fields.second
constants (Load mark kind space to offset address) bytes h = let fields = h.second.1 in operand_width address fields.second.second.second.second.rest fields.second.second.second.second.second
constants (Store kind space offset address value) bytes h =
    let fields = h.second.1 in
    let last = fields.second.second.second in
    (operand_width address last.front last.first, operand_width value last.rest last.second)
constants (Test cond one other) bytes h = let fields = h.second.1 in operand_width cond fields.front fields.first
constants (Arg mark callee index value) bytes h = let fields = h.second.1 in operand_width value fields.second.second.rest fields.second.second.second
constants (Out mark index value) bytes h = let fields = h.second.1 in operand_width value fields.second.rest fields.second.second
constants _ bytes h = tt

all_constants : (program : Program) → IsProgram program → All HasConstants (drop 7 program.commands) → All HasConstants program.commands
all_constants program facts behind =
    all_from HasConstants program.commands (λ i one stands. elim (cases_lt i 7) as (λ _. HasConstants one) [
      | inl lt ↦ let trap = facts.traps i lt in subst HasConstants (same_Some (Trap trap.0) one (sym trap.2 ∙ stands)) tt
      | inr past ↦ all_get HasConstants (drop 7 program.commands) (i - 7) one behind (get_drop 7 program.commands i (i - 7) (omega arith) ∙ stands)
    ])

-- ---- definitions

whole_rows : (one : MemoryDef) (bytes : List ℕ) → memory one bytes → All (λ (row : MemRow). length row.bytes ≡ 16) one.rows
whole_rows one bytes h =
    let rows = h.second.second.second in
    all_rising (λ (row : MemRow). row.number) row (λ (row : MemRow). length row.bytes ≡ 16) (λ row these spelled. spelled.0) 0 one.rows rows.rest rows.second

short_name : (one : ExportDef) (bytes : List ℕ) → export one bytes → length one.name < 2 ^ 64
short_name one bytes h = small (length one.name) h.first.front h.first.first

some_export : (one : ExportDef) (bytes : List ℕ) → export one bytes → 0 < length bytes
some_export one bytes h =
    let here = some_bytes (length one.name) h.first.front h.first.first in
    let first = ap length h.first.whole ∙ length-append h.first.front h.first.rest in
    let long = ap length h.whole ∙ length-append h.front h.rest in
    omega arith

abbrev IsSmall : SiteWeight → Type 0
IsSmall entry = entry.weight < 2 ^ 64

listed_weights : (ws : List SiteWeight) (bytes : List ℕ) → weights ws bytes → All IsSmall ws
listed_weights ws bytes h = all_rising (λ (entry : SiteWeight). entry.at.0) weight IsSmall (λ entry these spelled. small entry.weight these spelled) 0 ws h.rest h.second

all_weights : (ds : List Demand) (ws : List SiteWeight) (bytes : List ℕ) → additions ds ws bytes → All IsSmall ws
all_weights [] [] bytes h = All-nil IsSmall
all_weights [] (entry ∷ ws) bytes h = listed_weights (entry ∷ ws) h.rest h.second
all_weights (one ∷ ds) ws bytes h = listed_weights ws h.rest h.second

-- ---- programs

module _ (program : Program) (bytes : List ℕ) (is : Image program bytes) where
  pub image_widths : HasWidths program
  image_widths =
      let definitions = is.spelled.second.first in
      let memories = definitions.second.first in
      let exports = definitions.second.second.second in
      let added = is.spelled.second.second in
      record {
        constants = all_constants program is.is_program (all_spelled command HasConstants constants (drop 7 program.commands) added.rest added.second);
        rows = all_spelled memory (λ (one : MemoryDef). All (λ (row : MemRow). length row.bytes ≡ 16) one.rows) whole_rows program.memories memories.rest memories.second;
        exports = small (length program.exports) exports.front exports.first;
        names = all_spelled export (λ (one : ExportDef). length one.name < 2 ^ 64) short_name program.exports exports.rest exports.second;
        weights = all_weights program.demands program.weights added.front added.first;
      }

  pub few_exports : length program.exports ≤ length bytes
  few_exports =
      let behind = is.spelled.second in
      let definitions = behind.first in
      let after_globals = definitions.second in
      let after_memories = after_globals.second in
      let exports = after_memories.second in
      let few = few_spelled export some_export program.exports exports.rest exports.second in
      let a = ap length is.spelled.whole ∙ length-append is.spelled.front is.spelled.rest in
      let b = ap length behind.whole ∙ length-append behind.front behind.rest in
      let c = ap length definitions.whole ∙ length-append definitions.front definitions.rest in
      let d = ap length after_globals.whole ∙ length-append after_globals.front after_globals.rest in
      let e = ap length after_memories.whole ∙ length-append after_memories.front after_memories.rest in
      let f = ap length exports.whole ∙ length-append exports.front exports.rest in
      omega arith
