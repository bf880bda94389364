-- A typed body is laid out where the commands that it is lowered to stand.
use Rattle.std.proofs.Common.{◌≡◌, ℕ, zero, suc, ◌+◌, ◌*◌, ◌≤◌, true, false, List, [], ◌∷◌, ◌++◌, length, take, drop, reverse, replicate, Option, Some, None, slice_get, refl, sym, ap, ◌∙◌, subst, arith, length-append, length-drop, ◌⊎◌, inl, inr}
use Rattle.std.specs.List.{All}
use Rattle.std.proofs.lemmas.List.{length-reverse, length-replicate, length-take-le}
use Rattle.std.proofs.lemmas.List.Elements.{All-head, All-tail}
use Rattle.std.proofs.lemmas.Option.{none-some, same_Some}
use Rattle.bl_ops.specs.Access.{access_type}
use Rattle.bl_ops.specs.OperatorTable.{row_of, row_operands}
use Rattle.bl_wasm.specs.OpenConstructs.{of_block, of_loop, then_part, else_part}
use Rattle.bl_wasm.specs.Typing.{Context, Open, opened, Types, Rule, HasType, labels, expanded, taken_by, integer}
use Rattle.bl_wasm.specs.declared.instruction.Instr.{Instr}
use Rattle.bl_wasm.specs.declared.instruction.Instr.TheVariants.{Unreachable, Nop, Block, Loop, If, Else, End, Br, BrIf, BrTable, Return, Call, CallIndirect, Drop, Select, LocalGet, LocalSet, LocalTee, GlobalGet, GlobalSet, Load, Store, MemorySize, MemoryGrow, I32Const, I64Const, Integer}
use Rattle.bl_wasm.specs.declared.types.BlockType.{BlockType}
use Rattle.bl_wasm.specs.declared.types.WasmType.{WasmType}
use Rattle.bl_wasm.specs.declared.types.WasmType.TheVariants.{I32, I64}
use Rattle.bl_wasm.specs.declared.types.FuncType.{FuncType}
use Rattle.bl_reduce.proofs.Places.{behind_item}
use Rattle.bl_access.specs.Templates.{chain, variable, jump_to, shift, set as set_command}
use Rattle.bl_program.specs.declared.command.Command.{Command}
use Rattle.bl_program.specs.declared.command.Operand.{Operand}
use Rattle.bl_lower.proofs.CodeLayout.{HasAt, Fresh, if_target, then_point, else_point, live, dead, second_of, operands_of, IsLaidOut, EndsAt, OutsAt, ToAt, TestsAt, SecondAt, SlotsFrom, SlotAt, behind_first, flat, code_of, tests, yes_of, slot_tests}
use Rattle.bl_lower.proofs.Machine.{Program}
use Rattle.bl_emit.specs.Constructs.{pad, reads, moves, outs, top, whole, again, Target, as_whole, taken, first_to, mark_of, Point, point, behind, inside, branched}
use Rattle.bl_emit.specs.Items.{arms_from, checks, check_of, check_size, check_new, left, right, after, arm_size, branch_size, branch_most, branch_mosts, size_of, most_of, left_next, left_most, to_label, arms, slot_head, slot_arm, slot_arms, template, leaving}
use Rattle.bl_emit.specs.LoweredBodies.{Body, done, step, leave, block, loop, choice, Extent, closed_size, most_in, Reached, on, off, next_in, Lowered, closed, takes_of, size_in}
use Rattle.bl_emit.specs.Shapes.{Slot, armed, uninitialized, mistyped, Counts, Shape}
use Rattle.bl_lower.proofs.ConstructExits.{moves_length, reads_count}
use Rattle.bl_lower.proofs.Sizes.{Low, Size, Sized, ReachedAs, sizes, left_next_is, part_length, padded_length, checks_length, label_length, template_length, after_position, after_next, calls, slot_arm_length, slot_head_length}
use Rattle.bl_lower.proofs.Typings.{IsOrdinary, IsLeave, IsFor, IsSecondPart, IsBody, arrow_lengths, leaves_enough, at_end, at_else, neither, opens, stays}
use Rattle.bl_lower.proofs.OperandOrder.{OperandsOrdered, ordered_later, ordered_tail, ordered_new, ordered_reads, ordered_taken, ordered_looped, new_fresh, avoids_fresh, branch_fresh}
use Rattle.bl_emit.proofs.Lists.{shift_is}
use Rattle.bl_lower.proofs.IndexTests.{chain_length, arms_from_length, tests_are, slot_tests_are}

-- the arms of slots have the numbers of the type that is wanted
abbrev pub ArmsFit : Program → Counts → List Slot → Type 0
ArmsFit program wanted [] = Unit {0}
ArmsFit program wanted (armed f ∷ slots) = ((program.shape f).params ≡ wanted.params) × ((program.shape f).results ≡ wanted.results) × ArmsFit program wanted slots
ArmsFit program wanted (slot ∷ slots) = ArmsFit program wanted slots

module _ (program : Program) (bound number : ℕ) where
  -- ---- commands that stand in the function

  abbrev pub At : ℕ → List Command → Type 0
  At position [] = Unit {0}
  At position (command ∷ commands) = ((slice_get program.commands position ≡ Some command) × (program.running position ≡ number)) × At (suc position) commands

  pub front : (position : ℕ) (a b : List Command) → At position (a ++ b) → At position a
  front position [] b h = tt
  front position (x ∷ a) b h = (h.0, front (suc position) a b h.1)

  pub back : (position size : ℕ) (a b : List Command) → length a ≡ size → At position (a ++ b) → At (position + size) b
  back position size a b e h = subst (λ n. At n b) (shift_is (length a) position ∙ ap (λ n. position + n) e) (go position a h)
    where
      go : (position : ℕ) (a : List Command) → At position (a ++ b) → At (shift (length a) position) b
      go position [] h = h
      go position (x ∷ a) h = go (suc position) a h.1

  pub has : (position : ℕ) (commands : List Command) → At position commands → HasAt program.commands position commands
  has position [] h = tt
  has position (x ∷ commands) h = (h.0.0, has (suc position) commands h.1)

  pub outs_at : (mark index position : ℕ) (ops : List Operand) → At position (outs mark index ops) → OutsAt program bound number mark position index ops
  outs_at mark index position [] h = h.0
  outs_at mark index position (a ∷ ops) h = (h.0.0, h.0.1, outs_at mark (suc index) (suc position) ops h.1)

  abbrev blocks : BlockType → Counts
  blocks = program.blocks

  abbrev shapes : ℕ → Shape
  shapes = program.shape

  abbrev results : ℕ
  results = (program.shape number).results

  -- ---- branches

  -- a branch has what it takes
  abbrev pub HasFor : ℕ → List Operand → Option Target → Type 0
  HasFor used stack None = (results ≤ length stack) × (used + (2 * results + 2) ≤ bound)
  HasFor used stack (Some t) = (taken t ≤ length stack) × Fresh (first_to t) (reverse (pad (taken t) stack)) × (used + (taken t + 1) ≤ bound)

  to_at : (mark used position : ℕ) (stack : List Operand) (o : Option Target) → HasFor used stack o → At position (branched mark results o stack) → ToAt program bound number mark used position stack o
  to_at mark used position stack None is h = record { outs = outs_at mark 0 position (reverse (pad results stack)) h; enough = is.0; most = is.1 }
  to_at mark used position stack (Some t) is h = record { commands = has position (branched mark results (Some t) stack) h; enough = is.0; fresh = is.1; most = is.2 }

  module _ (c : Context) (results_are : length c.results ≡ results) where
    -- a construct that is open, for lowering and for typing
    pub record IsOpen (t : Target) (one : Open) : Type 0 where
      pub taken_is : taken t ≡ length (taken_by one.kind one.type)
      pub leaves : t.arity ≡ length (one.type.results)

    abbrev pub AreOpen : List Target → List Open → Type 0
    AreOpen [] [] = Unit {0}
    AreOpen (t ∷ ts) (one ∷ ones) = IsOpen t one × AreOpen ts ones
    AreOpen ts ones = ⊥

    branches : (used next : ℕ) (open_ones : List Target) (ones : List Open) (l : ℕ) (types : List WasmType) (stack : List Operand) → AreOpen open_ones ones → OperandsOrdered open_ones stack next → slice_get (labels c ones) l ≡ Some types
        → length types ≤ length stack → used + branch_most results (slice_get (takes_of open_ones) l) ≤ bound → HasFor used stack (slice_get open_ones l)
    branches used next [] [] zero types stack h operands_ordered e room most = (omega (arith, ap length (same_Some c.results types e), results_are, room), most)
    branches used next [] [] (suc l) types stack h operands_ordered e room most = absurd (none-some types e)
    branches used next [] (one ∷ ones) l types stack h operands_ordered e room most = absurd h
    branches used next (t ∷ ts) [] l types stack h operands_ordered e room most = absurd h
    branches used next (t ∷ ts) (one ∷ ones) zero types stack h operands_ordered e room most =
        let enough : taken t ≤ length stack = omega (arith, ap length (same_Some (taken_by one.kind one.type) types e), h.0.taken_is, room) in
        (enough, branch_fresh t stack next enough operands_ordered.below operands_ordered.above_open.1 operands_ordered.clear.0, most)
    branches used next (t ∷ ts) (one ∷ ones) (suc l) types stack h operands_ordered e room most =
        branches used next ts ones l types stack h.1 (record { below = operands_ordered.below; clear = operands_ordered.clear.1; above_open = operands_ordered.above_open.2 }) e room most

    -- the tests of a br_table, and its arms
    tests_at : (used next : ℕ) (open_ones : List Target) (ones : List Open) (types : List WasmType) (stack : List Operand) (index : Operand) (position x j arm default : ℕ) (ls : List ℕ) → AreOpen open_ones ones → OperandsOrdered open_ones stack next
        → length types ≤ length stack → All (λ l. slice_get (labels c ones) l ≡ Some types) (ls ++ default ∷ [])
        → used + (2 * length ls + branch_most results (slice_get (takes_of open_ones) default)) ≤ bound → used + (2 * length ls + branch_mosts results (takes_of open_ones) ls) ≤ bound
        → At position (tests shapes number open_ones index position x j arm ls) → At (position + 2 * length ls) (to_label shapes number open_ones stack default) → At arm (arms shapes number open_ones stack ls)
        → TestsAt program bound number used open_ones stack index position x j ls default
    tests_at used next open_ones ones types stack index position x j arm default [] opens_are operands_ordered room all most mosts h d a =
        to_at (mark_of open_ones) used position stack (slice_get open_ones default) (branches used next open_ones ones default types stack opens_are operands_ordered (All-head (λ l. slice_get (labels c ones) l ≡ Some types) default [] all) room (omega (arith, most)))
        (let same : position + 2 * 0 ≡ position = omega arith in subst (λ n. At n (to_label shapes number open_ones stack default)) same d)
    tests_at used next open_ones ones types stack index position x j arm default (l ∷ ls) opens_are operands_ordered room all most mosts h d a =
        let size = branch_size results (slice_get (takes_of open_ones) l) in
        let one = to_label shapes number open_ones stack l in (
          arm,
          (h.0.0, (h.1.0.0, tt)),
          to_at (mark_of open_ones) (suc (suc used)) arm stack (slice_get open_ones l) (branches (suc (suc used)) next open_ones ones l types stack opens_are operands_ordered (All-head (λ l. slice_get (labels c ones) l ≡ Some types) l (ls ++ default ∷ []) all) room (omega (arith, mosts))) (front arm one (arms shapes number open_ones stack ls) a),
          tests_at (suc (suc used)) next open_ones ones types stack index (suc (suc position)) (suc x) (suc j) (arm + size) default ls opens_are operands_ordered room (All-tail (λ l. slice_get (labels c ones) l ≡ Some types) l (ls ++ default ∷ []) all) (omega (arith, most)) (omega (arith, mosts)) h.1.1
              (let same : position + 2 * suc (length ls) ≡ suc (suc position) + 2 * length ls = omega arith in subst (λ n. At n (to_label shapes number open_ones stack default)) same d)
              (back arm size one (arms shapes number open_ones stack ls) (label_length blocks shapes number open_ones stack l) a),
        )

    -- ---- items

    module _ (wanted_are : (i : ℕ) (type : FuncType) → slice_get c.types i ≡ Some type → (((program.shape number).wanted i).params ≡ length type.params) × (((program.shape number).wanted i).results ≡ length type.results))
        (arms_are : (i : ℕ) → ArmsFit program ((program.shape number).wanted i) ((program.shape number).slots i)) (blocks_are : (kind : BlockType) (type : FuncType) → expanded c.types kind ≡ Some type → ((program.blocks kind).params ≡ length type.params) × ((program.blocks kind).results ≡ length type.results)) (called : (f : ℕ) (type : FuncType) → HasType c f type → ((program.shape f).params ≡ length type.params) × ((program.shape f).results ≡ length type.results)) where
      abbrev LaidLive : List Target → Point → List Instr → Type 0
      LaidLive open_ones p items = IsLaidOut program bound number open_ones (live p) items

      abbrev LaidDead : List Target → ℕ → ℕ → List Instr → Type 0
      LaidDead open_ones depth next items = IsLaidOut program bound number open_ones (dead depth next) items

      abbrev limit : ℕ
      limit = (program.shape number).limit

      abbrev Behind_item : List Target → Instr → Point → Point
      Behind_item open_ones item p = after shapes number open_ones item p

      slot_at : (slot : Slot) (mark : ℕ) (wanted : Counts) (stack : List Operand) (at_ first behind_it : ℕ) (those : List Slot) → ArmsFit program wanted (slot ∷ those) → At at_ (slot_arms shapes number mark stack first behind_it (slot ∷ those))
          → SlotAt program bound number mark wanted slot (yes_of shapes number slot at_) stack first behind_it
      slot_at uninitialized mark wanted stack at_ first behind_it those fit g = refl
      slot_at mistyped mark wanted stack at_ first behind_it those fit g = refl
      slot_at (armed f) mark wanted stack at_ first behind_it those fit g =
          (has at_ (slot_arm shapes number mark stack first behind_it (armed f)) (front at_ (slot_arm shapes number mark stack first behind_it (armed f)) (slot_arms shapes number mark stack first behind_it those) g), fit.0, fit.1)

      fit_rest : (slot : Slot) (those : List Slot) (wanted : Counts) → ArmsFit program wanted (slot ∷ those) → ArmsFit program wanted those
      fit_rest uninitialized those wanted fit = fit
      fit_rest mistyped those wanted fit = fit
      fit_rest (armed f) those wanted fit = fit.2

      pub record Stepped (open_ones : List Target) (item : Instr) (p : Point) (k : List Instr) (to : List WasmType) : Type 0 where
        pub lays : At p.position (template shapes number open_ones item p) → (Behind_item open_ones item p).next ≤ limit → LaidLive open_ones (Behind_item open_ones item p) k → LaidLive open_ones p (item ∷ k)
        pub long : length (Behind_item open_ones item p).stack ≡ length to

      -- the tests of slots, and their arms
      slots_at : (those : List Slot) (mark : ℕ) (wanted : Counts) (index : Operand) (stack : List Operand) (position x j at_ first behind_it : ℕ) (slot : Slot) → ArmsFit program wanted (slot ∷ those)
          → At position (slot_tests shapes number mark index position x j at_ (slot ∷ those)) → At at_ (slot_arms shapes number mark stack first behind_it (slot ∷ those))
          → SlotsFrom program bound number mark wanted index stack first behind_it position x j (slot ∷ those)
      slots_at [] mark wanted index stack position x j at_ first behind_it slot fit h g = (
        yes_of shapes number slot at_,
        4,
        (h.0.0, (h.1.0.0, tt)),
        slot_at slot mark wanted stack at_ first behind_it [] fit g,
        refl,
      )
      slots_at (next_slot ∷ those) mark wanted index stack position x j at_ first behind_it slot fit h g = (
        yes_of shapes number slot at_,
        suc (suc position),
        (h.0.0, (h.1.0.0, tt)),
        slot_at slot mark wanted stack at_ first behind_it (next_slot ∷ those) fit g,
        slots_at those mark wanted index stack (suc (suc position)) (suc x) (suc j) (at_ + arm_size (calls blocks shapes number) slot) first behind_it next_slot (fit_rest slot (next_slot ∷ those) wanted fit) h.1.1
            (back at_ (arm_size (calls blocks shapes number) slot) (slot_arm shapes number mark stack first behind_it slot) (slot_arms shapes number mark stack first behind_it (next_slot ∷ those))
            (slot_arm_length blocks shapes number mark stack first behind_it slot) g),
      )

      indirect_at : (those : List Slot) (mark : ℕ) (wanted : Counts) (index : Operand) (stack : List Operand) (position x first behind_it : ℕ) → ArmsFit program wanted those
          → At position (slot_head shapes number mark index position x those ++ slot_arms shapes number mark stack first behind_it those)
          → SlotsFrom program bound number mark wanted index stack first behind_it position x 0 those ⊎ (slice_get program.commands position ≡ Some (jump_to 4)) × (those ≡ [])
      indirect_at [] mark wanted index stack position x first behind_it fit h = inr (h.0.0, refl)
      indirect_at (slot ∷ those) mark wanted index stack position x first behind_it fit h =
          let head = slot_head shapes number mark index position x (slot ∷ those) in
          let rest = slot_arms shapes number mark stack first behind_it (slot ∷ those) in
          inl (slots_at those mark wanted index stack position x 0 (position + 2 * suc (length those)) first behind_it slot fit
          (subst (At position) (slot_tests_are shapes number mark index position x 0 (position + 2 * suc (length those)) (slot ∷ those)) (front position head rest h))
          (back position (2 * suc (length those)) head rest (slot_head_length blocks shapes number mark index position x (slot ∷ those)) h))

      stepped : (item : Instr) (open_ones : List Target) (ones : List Open) (p : Point) (k : List Instr) (from : List WasmType) (os : List Open) (to : List WasmType) → IsOrdinary item → Rule c item ones from os to → AreOpen open_ones ones
          → OperandsOrdered open_ones p.stack p.next → length p.stack ≡ length from → most_of (calls blocks shapes number) (shapes number).wanted (shapes number).slots results (takes_of open_ones) item ≤ bound → Stepped open_ones item p k to
      stepped (I32Const n) open_ones ones p k from os to ordinary rule opens_are operands_ordered long most =
          let a = arrow_lengths [] (I32 ∷ []) from to rule.rule in record { lays = λ h le laid. ((h.0.0, tt), le, laid); long = omega (arith, long, a.before, a.behind) }
      stepped (I64Const n) open_ones ones p k from os to ordinary rule opens_are operands_ordered long most =
          let a = arrow_lengths [] (I64 ∷ []) from to rule.rule in record { lays = λ h le laid. ((h.0.0, tt), le, laid); long = omega (arith, long, a.before, a.behind) }
      stepped (LocalGet x) open_ones ones p k from os to ordinary rule opens_are operands_ordered long most =
          let a = arrow_lengths [] (rule.rule.0 ∷ []) from to rule.rule.2 in record { lays = λ h le laid. ((h.0.0, tt), le, laid); long = omega (arith, long, a.before, a.behind) }
      stepped (LocalSet x) open_ones ones p k from os to ordinary rule opens_are operands_ordered long most =
          let a = arrow_lengths (rule.rule.0 ∷ []) [] from to rule.rule.2 in record { lays = λ h le laid. ((h.0.0, tt), le, laid); long = omega (arith, length-drop 1 p.stack, long, a.before, a.behind) }
      stepped (LocalTee x) open_ones ones p k from os to ordinary rule opens_are operands_ordered long most =
          let a = arrow_lengths (rule.rule.0 ∷ []) (rule.rule.0 ∷ []) from to rule.rule.2 in record { lays = λ h le laid. ((h.0.0, tt), le, laid); long = omega (arith, long, a.before, a.behind) }
      stepped (GlobalGet x) open_ones ones p k from os to ordinary rule opens_are operands_ordered long most =
          let a = arrow_lengths [] (rule.rule.0.kind ∷ []) from to rule.rule.2 in record { lays = λ h le laid. ((h.0.0, tt), le, laid); long = omega (arith, long, a.before, a.behind) }
      stepped (GlobalSet x) open_ones ones p k from os to ordinary rule opens_are operands_ordered long most =
          let a = arrow_lengths (rule.rule.0.kind ∷ []) [] from to rule.rule.3 in record { lays = λ h le laid. ((h.0.0, tt), le, laid); long = omega (arith, length-drop 1 p.stack, long, a.before, a.behind) }
      stepped (Integer o) open_ones ones p k from os to ordinary rule opens_are operands_ordered long most =
          let row = rule.rule.0 in
          let a = arrow_lengths (replicate row.operands (integer row.from)) (integer row.to ∷ []) from to rule.rule.2 in
          let count : row_operands (row_of o) ≡ row.operands = ap row_operands rule.rule.1 in
          let many : length (replicate row.operands (integer row.from)) ≡ row.operands = length-replicate {A = WasmType} row.operands (integer row.from) in
          let x = left (row_operands (row_of o)) p.stack in
          let y = right (row_operands (row_of o)) p.stack in
          let cs = checks (mark_of open_ones) (check_of o) p.position p.next x y in
          let command = set_command (mark_of open_ones) o (shift (check_new (check_of o)) p.next) x y in
          record {
            lays = λ h le laid. (
              record {
                tests = has p.position cs (front p.position cs (command ∷ []) h);
                command = subst (λ n. slice_get program.commands n ≡ Some command) (sym (shift_is (check_size (check_of o)) p.position))
                    (back p.position (check_size (check_of o)) cs (command ∷ []) (checks_length (mark_of open_ones) (check_of o) p.position p.next x y) h).0.0;
                enough = omega (arith, long, a.before, count, many);
                most = most;
              },
              le,
              laid,
            );
            long = omega (arith, length-drop (row_operands (row_of o)) p.stack, long, a.before, a.behind, count, many);
          }
      stepped Select open_ones ones p k from os to ordinary rule opens_are operands_ordered long most =
          let type = rule.rule.0 in
          let a = arrow_lengths (type ∷ type ∷ I32 ∷ []) (type ∷ []) from to rule.rule.1 in
          record { lays = λ h le laid. ((h.0.0, tt), le, laid); long = omega (arith, length-drop 1 p.stack, length-drop 1 (drop 1 p.stack), length-drop 1 (drop 1 (drop 1 p.stack)), long, a.before, a.behind) }
      stepped Nop open_ones ones p k from os to ordinary rule opens_are operands_ordered long most =
          let a = arrow_lengths [] [] from to rule.rule in record { lays = λ h le laid. ((h.0.0, tt), le, laid); long = omega (arith, long, a.before, a.behind) }
      stepped Drop open_ones ones p k from os to ordinary rule opens_are operands_ordered long most =
          let a = arrow_lengths (rule.rule.0 ∷ []) [] from to rule.rule.1 in record { lays = λ h le laid. ((h.0.0, tt), le, laid); long = omega (arith, length-drop 1 p.stack, long, a.before, a.behind) }
      stepped (BrIf l) open_ones ones p k from os to ordinary rule opens_are operands_ordered long most =
          let types = rule.rule.0 in
          let a = arrow_lengths (types ++ I32 ∷ []) types from to rule.rule.2 in
          let lost : length (drop 1 p.stack) ≡ length to = omega (arith, length-drop 1 p.stack, long, a.before, a.behind, length-append types (I32 ∷ [])) in
          record {
            lays = λ h le laid. (
              ((h.0.0, tt), to_at (mark_of open_ones) 1 (suc p.position) (drop 1 p.stack) (slice_get open_ones l) (branches 1 p.next open_ones ones l types (drop 1 p.stack) opens_are (ordered_tail open_ones 1 p.stack p.next operands_ordered) rule.rule.1 (omega (arith, lost, a.behind)) most) h.1),
              le,
              laid,
            );
            long = lost;
          }
      stepped (Call f) open_ones ones p k from os to ordinary rule opens_are operands_ordered long most =
          let type = rule.rule.0 in
          let a = arrow_lengths type.params type.results from to rule.rule.2 in
          let is = called f type rule.rule.1 in
          let count = (program.shape f).results in
          record {
            lays = λ h le laid. (
              record { commands = has p.position (template shapes number open_ones (Call f) p) h; enough = omega (arith, long, a.before, is.0); most = most },
              le,
              laid,
            );
            long = omega (
              arith,
              length-append (reverse (reads p.next count)) (drop (program.shape f).params p.stack),
              length-reverse (reads p.next count),
              reads_count p.next count,
              length-drop (program.shape f).params p.stack,
              long,
              a.before,
              a.behind,
              is.0,
              is.1,
            );
          }
      stepped (CallIndirect i) open_ones ones p k from os to ordinary rule opens_are operands_ordered long most =
          let type = rule.rule.0 in
          let a = arrow_lengths (type.params ++ I32 ∷ []) type.results from to rule.rule.3 in
          let counts = wanted_are i type rule.rule.1 in
          let those = (program.shape number).slots i in
          let wanted = (program.shape number).wanted i in
          record {
            lays = λ h le laid. (
              record {
                begins = indirect_at those (mark_of open_ones) wanted (top p.stack) (drop 1 p.stack) p.position p.next (p.next + length those) (Behind_item open_ones (CallIndirect i) p).position (arms_are i) h;
                enough = omega (arith, long, a.before, length-append type.params (I32 ∷ []), counts.0);
                most = most;
              },
              le,
              laid,
            );
            long = omega (
              arith,
              length-append (reverse (reads (p.next + length those) wanted.results)) (drop wanted.params (drop 1 p.stack)),
              length-reverse (reads (p.next + length those) wanted.results),
              reads_count (p.next + length those) wanted.results,
              length-drop wanted.params (drop 1 p.stack),
              length-drop 1 p.stack,
              long,
              a.before,
              a.behind,
              length-append type.params (I32 ∷ []),
              counts.0,
              counts.1,
            );
          }
      stepped (Load kind argument) open_ones ones p k from os to ordinary rule opens_are operands_ordered long most =
          let a = arrow_lengths (I32 ∷ []) (integer (access_type kind) ∷ []) from to rule.rule.3 in
          record { lays = λ h le laid. ((has p.position (template shapes number open_ones (Load kind argument) p) h, most), le, laid); long = omega (arith, length-drop 1 p.stack, long, a.before, a.behind) }
      stepped (Store kind argument) open_ones ones p k from os to ordinary rule opens_are operands_ordered long most =
          let a = arrow_lengths (I32 ∷ integer (access_type kind) ∷ []) [] from to rule.rule.3 in
          record { lays = λ h le laid. ((has p.position (template shapes number open_ones (Store kind argument) p) h, most), le, laid); long = omega (arith, length-drop 1 p.stack, length-drop 1 (drop 1 p.stack), long, a.before, a.behind) }
      stepped MemorySize open_ones ones p k from os to ordinary rule opens_are operands_ordered long most =
          let a = arrow_lengths [] (I32 ∷ []) from to rule.rule.1 in record { lays = λ h le laid. ((h.0.0, tt), le, laid); long = omega (arith, long, a.before, a.behind) }
      stepped MemoryGrow open_ones ones p k from os to ordinary rule opens_are operands_ordered long most =
          let a = arrow_lengths (I32 ∷ []) (I32 ∷ []) from to rule.rule.1 in
          record { lays = λ h le laid. ((has p.position (template shapes number open_ones MemoryGrow p) h, most), le, laid); long = omega (arith, length-drop 1 p.stack, long, a.before, a.behind) }
      stepped (Block r) open_ones ones p k from os to ordinary rule opens_are operands_ordered long most = absurd ordinary
      stepped (Loop r) open_ones ones p k from os to ordinary rule opens_are operands_ordered long most = absurd ordinary
      stepped (If r) open_ones ones p k from os to ordinary rule opens_are operands_ordered long most = absurd ordinary
      stepped Else open_ones ones p k from os to ordinary rule opens_are operands_ordered long most = absurd ordinary
      stepped End open_ones ones p k from os to ordinary rule opens_are operands_ordered long most = absurd ordinary
      stepped (Br l) open_ones ones p k from os to ordinary rule opens_are operands_ordered long most = absurd ordinary
      stepped (BrTable default ls) open_ones ones p k from os to ordinary rule opens_are operands_ordered long most = absurd ordinary
      stepped Return open_ones ones p k from os to ordinary rule opens_are operands_ordered long most = absurd ordinary
      stepped Unreachable open_ones ones p k from os to ordinary rule opens_are operands_ordered long most = absurd ordinary
      stepped item open_ones ones p k from os to ordinary rule opens_are operands_ordered long most = absurd rule.rule

      -- the operands behind an item
      one_new : (temps n : ℕ) (open_ones : List Target) (stack : List Operand) (next : ℕ) → OperandsOrdered open_ones stack next → OperandsOrdered open_ones (variable (shift temps next) ∷ drop n stack) (suc (shift temps next))
      one_new temps n open_ones stack next h = ordered_new open_ones (drop n stack) (shift temps next)
          (ordered_later open_ones (drop n stack) next (shift temps next) (omega (arith, shift_is temps next)) (ordered_tail open_ones n stack next h))

      ordered_after : (item : Instr) (open_ones : List Target) (p : Point) → OperandsOrdered open_ones p.stack p.next → OperandsOrdered open_ones (Behind_item open_ones item p).stack (Behind_item open_ones item p).next
      ordered_after (I32Const n) open_ones p h = one_new 0 0 open_ones p.stack p.next h
      ordered_after (I64Const n) open_ones p h = one_new 0 0 open_ones p.stack p.next h
      ordered_after (LocalGet x) open_ones p h = one_new 0 0 open_ones p.stack p.next h
      ordered_after (GlobalGet x) open_ones p h = one_new 0 0 open_ones p.stack p.next h
      ordered_after (Integer o) open_ones p h = one_new (check_new (check_of o)) (row_operands (row_of o)) open_ones p.stack p.next h
      ordered_after Select open_ones p h =
          ordered_new open_ones (drop 1 (drop 1 (drop 1 p.stack))) p.next (ordered_tail open_ones 1 (drop 1 (drop 1 p.stack)) p.next (ordered_tail open_ones 1 (drop 1 p.stack) p.next (ordered_tail open_ones 1 p.stack p.next h)))
      ordered_after (Load kind argument) open_ones p h = one_new 1 1 open_ones p.stack p.next h
      ordered_after (Store kind argument) open_ones p h = ordered_later open_ones (drop 1 (drop 1 p.stack)) p.next (suc p.next) (omega arith) (ordered_tail open_ones 1 (drop 1 p.stack) p.next (ordered_tail open_ones 1 p.stack p.next h))
      ordered_after (CallIndirect i) open_ones p h =
          let those = (program.shape number).slots i in
          ordered_reads ((program.shape number).wanted i).results (p.next + length those) open_ones (drop ((program.shape number).wanted i).params (drop 1 p.stack))
          (ordered_later open_ones (drop ((program.shape number).wanted i).params (drop 1 p.stack)) p.next (p.next + length those) (omega arith)
          (ordered_tail open_ones ((program.shape number).wanted i).params (drop 1 p.stack) p.next (ordered_tail open_ones 1 p.stack p.next h)))
      ordered_after MemorySize open_ones p h = one_new 0 0 open_ones p.stack p.next h
      ordered_after MemoryGrow open_ones p h = one_new 2 1 open_ones p.stack p.next h
      ordered_after (LocalSet x) open_ones p h = ordered_tail open_ones 1 p.stack p.next h
      ordered_after (GlobalSet x) open_ones p h = ordered_tail open_ones 1 p.stack p.next h
      ordered_after Drop open_ones p h = ordered_tail open_ones 1 p.stack p.next h
      ordered_after (BrIf l) open_ones p h = ordered_tail open_ones 1 p.stack p.next h
      ordered_after (Call f) open_ones p h = ordered_reads (program.shape f).results p.next open_ones (drop (program.shape f).params p.stack) (ordered_tail open_ones (program.shape f).params p.stack p.next h)
      ordered_after item open_ones p h = h

      -- an item behind which what follows is dead
      left_at : (item : Instr) (open_ones : List Target) (ones : List Open) (p : Point) (k : List Instr) (from : List WasmType) (os : List Open) (to : List WasmType) → IsLeave item → Rule c item ones from os to → AreOpen open_ones ones
          → OperandsOrdered open_ones p.stack p.next → length p.stack ≡ length from → left_most (calls blocks shapes number) (shapes number).wanted (shapes number).slots results (takes_of open_ones) item ≤ bound → left_next (calls blocks shapes number) (shapes number).wanted (shapes number).slots results item p.next ≤ limit
          → At p.position (leaving shapes number open_ones item p) → LaidDead open_ones 0 (left_next (calls blocks shapes number) (shapes number).wanted (shapes number).slots results item p.next) k → LaidLive open_ones p (item ∷ k)
      left_at (Br l) open_ones ones p k from os to leaves rule opens_are operands_ordered long most room h laid =
          (to_at (mark_of open_ones) 0 p.position p.stack (slice_get open_ones l) (branches 0 p.next open_ones ones l rule.rule.0 p.stack opens_are operands_ordered rule.rule.1 (omega (arith, long, leaves_enough rule.rule.0 from rule.rule.2)) (omega (arith, most))) h, laid)
      left_at (BrTable default ls) open_ones ones p k from os to leaves rule opens_are operands_ordered long most room h laid =
          let types = rule.rule.0 in
          let stack = drop 1 p.stack in
          let index = top p.stack in
          let arm = p.position + (2 * length ls + branch_size results (slice_get (takes_of open_ones) default)) in
          let those = arms_from results (takes_of open_ones) arm ls in
          let ts = chain index p.next those (p.position + 2 * length ls) p.position (mark_of open_ones) in
          let d = to_label shapes number open_ones stack default in
          let a = arms shapes number open_ones stack ls in
          let size = branch_size results (slice_get (takes_of open_ones) default) in
          let behind_tests = back p.position (2 * length ls) ts (d ++ a) (chain_length index p.next 0 those (p.position + 2 * length ls) p.position (mark_of open_ones) ∙ ap (λ n. 2 * n) (arms_from_length results (takes_of open_ones) arm ls)) h in
          let same : p.position + 2 * length ls + size ≡ arm = omega arith in (
            tests_at 0 p.next open_ones ones types stack index p.position p.next 0 arm default ls opens_are (ordered_tail open_ones 1 p.stack p.next operands_ordered)
                (omega (arith, length-drop 1 p.stack, long, leaves_enough (types ++ I32 ∷ []) from rule.rule.2, length-append types (I32 ∷ []))) rule.rule.1 (omega (arith, most)) (omega (arith, most))
                (subst (At p.position) (tests_are shapes number open_ones index p.position p.next 0 arm (p.position + 2 * length ls) ls refl) (front p.position ts (d ++ a) h)) (front (p.position + 2 * length ls) d a behind_tests)
                (subst (λ n. At n a) same (back (p.position + 2 * length ls) size d a (label_length blocks shapes number open_ones stack default) behind_tests)),
            room,
            laid,
          )
      left_at Return open_ones ones p k from os to leaves rule opens_are operands_ordered long most room h laid =
          (to_at (mark_of open_ones) 0 p.position p.stack None (omega (arith, long, leaves_enough c.results from rule.rule, results_are), omega (arith, most)) h, laid)
      left_at Unreachable open_ones ones p k from os to leaves rule opens_are operands_ordered long most room h laid = ((h.0.0, tt), laid)
      left_at item open_ones ones p k from os to leaves rule opens_are operands_ordered long most room h laid = absurd leaves

      -- ---- dead code

      skip_item : (item : Instr) (open_ones : List Target) (depth next : ℕ) (k : List Instr) → IsOrdinary item ⊎ IsLeave item → LaidDead open_ones depth next k → LaidDead open_ones depth next (item ∷ k)
      skip_item (Block r) open_ones depth next k h laid = neither h
      skip_item (Loop r) open_ones depth next k h laid = neither h
      skip_item (If r) open_ones depth next k h laid = neither h
      skip_item Else open_ones depth next k h laid = neither h
      skip_item End open_ones depth next k h laid = neither h
      skip_item item open_ones depth next k h laid = laid

      dead_end : (open_ones : List Target) (depth next : ℕ) (k : List Instr) → LaidDead open_ones depth next k → LaidDead open_ones (suc depth) next (End ∷ k)
      dead_end [] depth next k h = h
      dead_end (t ∷ open_ones) depth next k h = h

      dead_else : (open_ones : List Target) (depth next : ℕ) (k : List Instr) → LaidDead open_ones (suc depth) next k → LaidDead open_ones (suc depth) next (Else ∷ k)
      dead_else [] depth next k h = h
      dead_else (t ∷ open_ones) depth next k h = h

      -- what is laid out behind a body, whatever its typing says
      abbrev Ending : List Open → List Instr → Type 0 → Type 0
      Ending ones k Laid_behind = (to : List WasmType) (later : List (List WasmType)) → Types c ones k (to ∷ later) → Laid_behind

      skips : (body : Body) (open_ones : List Target) (ones : List Open) (depth next : ℕ) (k : List Instr) (from : List WasmType) (later : List (List WasmType)) → IsBody body → Types c ones (flat body k) (from ∷ later)
          → Ending ones k (LaidDead open_ones depth next k) → LaidDead open_ones depth next (flat body k)
      skips done open_ones ones depth next k from later are h then = then from later h
      skips (step item body) open_ones ones depth next k from later are h then =
          let b = behind_item c item (flat body k) ones from later h in
          skip_item item open_ones depth next (flat body k) (inl are.0) (skips body open_ones ones depth next k b.to b.later are.1 (stays c item ones (flat body k) from (inl are.0) b) then)
      skips (leave item body) open_ones ones depth next k from later are h then =
          let b = behind_item c item (flat body k) ones from later h in
          skip_item item open_ones depth next (flat body k) (inr are.0) (skips body open_ones ones depth next k b.to b.later are.1 (stays c item ones (flat body k) from (inr are.0) b) then)
      skips (block r inner body) open_ones ones depth next k from later are h then =
          let b = behind_item c (Block r) (flat inner (End ∷ flat body k)) ones from later h in
          let one = opened of_block b.rule.type b.rule.lower in
          skips inner open_ones (one ∷ ones) (suc depth) next (End ∷ flat body k) b.rule.type.params b.later are.0 (opens c one b.rule.type.params (Block r) ones (flat inner (End ∷ flat body k)) from b b.rule.inside b.rule.behind) (λ to later typing.
          let e = at_end c one ones (flat body k) to later typing in
          dead_end open_ones depth next (flat body k) (skips body open_ones ones depth next k (one.lower ++ one.type.results) e.later are.1 e.typing then))
      skips (loop r inner body) open_ones ones depth next k from later are h then =
          let b = behind_item c (Loop r) (flat inner (End ∷ flat body k)) ones from later h in
          let one = opened of_loop b.rule.type b.rule.lower in
          skips inner open_ones (one ∷ ones) (suc depth) next (End ∷ flat body k) b.rule.type.params b.later are.0 (opens c one b.rule.type.params (Loop r) ones (flat inner (End ∷ flat body k)) from b b.rule.inside b.rule.behind) (λ to later typing.
          let e = at_end c one ones (flat body k) to later typing in
          dead_end open_ones depth next (flat body k) (skips body open_ones ones depth next k (one.lower ++ one.type.results) e.later are.1 e.typing then))
      skips (choice r first true second body) open_ones ones depth next k from later are h then =
          let rest = Else ∷ flat second (End ∷ flat body k) in
          let b = behind_item c (If r) (flat first rest) ones from later h in
          let one = opened then_part b.rule.type b.rule.lower in
          skips first open_ones (one ∷ ones) (suc depth) next rest b.rule.type.params b.later are.0 (opens c one b.rule.type.params (If r) ones (flat first rest) from b b.rule.inside b.rule.behind) (λ to later typing.
          let m = at_else c one ones (flat second (End ∷ flat body k)) to later typing in
          let other = opened else_part one.type one.lower in
          dead_else open_ones depth next (flat second (End ∷ flat body k)) (skips second open_ones (other ∷ ones) (suc depth) next (End ∷ flat body k) one.type.params m.later are.1 m.typing (λ to later typing.
          let e = at_end c other ones (flat body k) to later typing in
          dead_end open_ones depth next (flat body k) (skips body open_ones ones depth next k (other.lower ++ other.type.results) e.later are.2 e.typing then))))
      skips (choice r first false second body) open_ones ones depth next k from later are h then =
          let rest = End ∷ flat body k in
          let b = behind_item c (If r) (flat first rest) ones from later h in
          let one = opened then_part b.rule.type b.rule.lower in
          skips first open_ones (one ∷ ones) (suc depth) next rest b.rule.type.params b.later are.0 (opens c one b.rule.type.params (If r) ones (flat first rest) from b b.rule.inside b.rule.behind) (λ to later typing.
          let e = at_end c one ones (flat body k) to later typing in
          dead_end open_ones depth next (flat body k) (skips body open_ones ones depth next k (one.lower ++ one.type.results) e.later are.2 e.typing then))

      -- ---- the ends of constructs

      -- what is known where the end of a body is reached
      abbrev pub Ended : List Target → Reached → List WasmType → Type 0
      Ended open_ones (on q) to = (length q.stack ≡ length to) × OperandsOrdered open_ones q.stack q.next
      Ended open_ones (off next) to = Unit {0}

      ends_at : (t : Target) (q : Point) (open_ones : List Target) (position : ℕ) (e : Extent) (to : List WasmType) → ReachedAs blocks shapes number e position (on q) → Ended (t ∷ open_ones) (on q) to → length to ≡ t.arity → t.arity + 1 ≤ bound
          → At (position + e.size) (closed (mark_of (t ∷ open_ones)) t (on q)) → EndsAt program bound number (mark_of (t ∷ open_ones)) t q.position q.stack
      ends_at t q open_ones position e to is ended exact most h = record {
        commands = has q.position (closed (mark_of (t ∷ open_ones)) t (on q)) (subst (λ n. At n (closed (mark_of (t ∷ open_ones)) t (on q))) (sym is.1) h);
        exact = ended.0 ∙ exact;
        fresh = avoids_fresh t q.stack ended.1.clear.0;
        most = most;
      }

      end_at : (t : Target) (reached : Reached) (open_ones : List Target) (position : ℕ) (e : Extent) (to : List WasmType) → ReachedAs blocks shapes number e position reached → Ended (t ∷ open_ones) reached to → length to ≡ t.arity → t.arity + 1 ≤ bound
          → At (position + e.size) (closed (mark_of (t ∷ open_ones)) t reached) → (k : List Instr) → SecondAt program bound number t.kind (mark_of open_ones) t
          → LaidLive open_ones (behind t (next_in reached)) k → IsLaidOut program bound number (t ∷ open_ones) (code_of reached) (End ∷ k)
      end_at t (on q) open_ones position e to is ended exact most h k second laid = (ends_at t q open_ones position e to is ended exact most h, second, laid)
      end_at t (off next) open_ones position e to is ended exact most h k second laid = (second, laid)

      else_at : (t : Target) (reached : Reached) (open_ones : List Target) (position : ℕ) (e : Extent) (to : List WasmType) → ReachedAs blocks shapes number e position reached → Ended (t ∷ open_ones) reached to → length to ≡ t.arity → t.arity + 1 ≤ bound
          → At (position + e.size) (closed (mark_of (t ∷ open_ones)) t reached) → (k : List Instr)
          → IsLaidOut program bound number (as_whole t ∷ open_ones) (live (point (second_of t.kind) (operands_of t.kind) (next_in reached))) k → IsLaidOut program bound number (t ∷ open_ones) (code_of reached) (Else ∷ k)
      else_at t (on q) open_ones position e to is ended exact most h k laid = (ends_at t q open_ones position e to is ended exact most h, laid)
      else_at t (off next) open_ones position e to is ended exact most h k laid = laid

      -- an empty second part ends where it begins
      ends_empty : (second : Body) (open_ones : List Target) (q : Point) → IsFor second → (Low blocks shapes number open_ones second q).reached ≡ on q
      ends_empty done open_ones q is = refl
      ends_empty second open_ones q is = absurd is

      -- the commands of an if: where its parts stand, and what follows it
      record Parts (mark : ℕ) (p : Point) (t : Target) (e f : Extent) (within others rest : Lowered) : Type 0 where
        first : At (suc p.position) within.commands
        first_end : At (suc p.position + e.size) (closed mark t within.reached)
        second : At (suc p.position + closed_size t.arity e) others.commands
        second_end : At (suc p.position + closed_size t.arity e + f.size) (closed mark (as_whole t) others.reached)
        later : At (suc p.position + closed_size t.arity e + closed_size t.arity f) rest.commands

      parts : (mark : ℕ) (operands : List Operand) (p q : Point) (t : Target) (e f : Extent) (within others rest : Lowered) → Sized blocks shapes number e q within → Sized blocks shapes number f (point (suc p.position + closed_size t.arity e) operands (next_in within.reached)) others
          → At (suc p.position) (((within.commands ++ closed mark t within.reached) ++ (others.commands ++ closed mark (as_whole t) others.reached)) ++ rest.commands) → Parts mark p t e f within others rest
      parts mark operands p q t e f within others rest h i all =
          let a = within.commands ++ closed mark t within.reached in
          let b = others.commands ++ closed mark (as_whole t) others.reached in
          let middle = suc p.position + closed_size t.arity e in
          let a_size = part_length blocks shapes number mark t e q within h in
          let b_size = part_length blocks shapes number mark (as_whole t) f (point middle operands (next_in within.reached)) others i in
          let both = front (suc p.position) (a ++ b) rest.commands all in
          let one = front (suc p.position) a b both in
          let two = back (suc p.position) (closed_size t.arity e) a b a_size both in
          let whole_size : suc p.position + (closed_size t.arity e + closed_size t.arity f) ≡ middle + closed_size t.arity f = omega arith in
          record {
            first = front (suc p.position) within.commands (closed mark t within.reached) one;
            first_end = back (suc p.position) e.size within.commands (closed mark t within.reached) h.size one;
            second = front middle others.commands (closed mark (as_whole t) others.reached) two;
            second_end = back middle f.size others.commands (closed mark (as_whole t) others.reached) i.size two;
            later = subst (λ n. At n rest.commands) whole_size
                (back (suc p.position) (closed_size t.arity e + closed_size t.arity f) (a ++ b) rest.commands (omega (arith, length-append a b, a_size, b_size)) all);
          }

      behind_length : (t : Target) (lower : ℕ) (types : List WasmType) (next : ℕ) → t.arity ≡ length types → length t.below ≡ lower → length (behind t next).stack ≡ lower + length types
      behind_length t lower types next e f = omega (arith, length-append (reverse (reads t.first t.arity)) t.below, length-reverse (reads t.first t.arity), reads_count t.first t.arity, e, f)

      -- the operands behind a construct
      ordered_behind : (t : Target) (open_ones : List Target) (next : ℕ) → t.first + t.arity ≤ next → OperandsOrdered open_ones t.below t.first → OperandsOrdered open_ones (behind t next).stack next
      ordered_behind t open_ones next le h = ordered_later open_ones (behind t next).stack (t.first + t.arity) next le (ordered_reads t.arity t.first open_ones t.below h)

      -- ---- bodies

      pub lays : (body : Body) (open_ones : List Target) (ones : List Open) (p : Point) (k : List Instr) (from : List WasmType) (later : List (List WasmType)) → IsBody body → AreOpen open_ones ones → OperandsOrdered open_ones p.stack p.next
          → length p.stack ≡ length from → p.next + (Size blocks shapes number open_ones body).new ≤ limit → most_in blocks (calls blocks shapes number) (shapes number).wanted (shapes number).slots results (takes_of open_ones) body ≤ bound
          → At p.position (Low blocks shapes number open_ones body p).commands → Types c ones (flat body k) (from ∷ later)
          → ((to : List WasmType) (later : List (List WasmType)) → Types c ones k (to ∷ later) → Ended open_ones (Low blocks shapes number open_ones body p).reached to → IsLaidOut program bound number open_ones (code_of (Low blocks shapes number open_ones body p).reached) k)
          → LaidLive open_ones p (flat body k)
      lays done open_ones ones p k from later are opens_are operands_ordered long room most h typing then = then from later typing (long, operands_ordered)
      lays (leave item body) open_ones ones p k from later are opens_are operands_ordered long room most h typing then =
          let b = behind_item c item (flat body k) ones from later typing in
          left_at item open_ones ones p (flat body k) from b.behind b.to are.0 b.rule opens_are operands_ordered long (omega (arith, most)) (omega (arith, left_next_is blocks shapes number item p.next, room)) h
          (skips body open_ones ones 0 (left_next (calls blocks shapes number) (shapes number).wanted (shapes number).slots results item p.next) k b.to b.later are.1 (stays c item ones (flat body k) from (inr are.0) b) (λ to later typing. then to later typing tt))
      lays (step item body) open_ones ones p k from later are opens_are operands_ordered long room most h typing then =
          let b = behind_item c item (flat body k) ones from later typing in
          let q = Behind_item open_ones item p in
          let s = stepped item open_ones ones p (flat body k) from b.behind b.to are.0 b.rule opens_are operands_ordered long (omega (arith, most)) in
          let rest = (Low blocks shapes number open_ones body q).commands in
          let t = template shapes number open_ones item p in
          let next = after_next blocks shapes number open_ones item p in
          s.lays (front p.position t rest h) (omega (arith, next, room))
          (lays body open_ones ones q k b.to b.later are.1 opens_are (ordered_after item open_ones p operands_ordered) s.long (omega (arith, next, room)) (omega (arith, most))
          (subst (λ n. At n rest) (sym (after_position blocks shapes number open_ones item p)) (back p.position (size_of (calls blocks shapes number) (shapes number).wanted (shapes number).slots results (takes_of open_ones) item) t rest (template_length blocks shapes number open_ones item p) h))
          (stays c item ones (flat body k) from (inl are.0) b) then)
      lays (block r inner body) open_ones ones p k from later are opens_are operands_ordered long room most h typing then =
          let b = behind_item c (Block r) (flat inner (End ∷ flat body k)) ones from later typing in
          let type = b.rule.type in
          let lower = b.rule.lower in
          let counts = blocks_are r type b.rule.named in
          let n = (blocks r).params in
          let m = (blocks r).results in
          let one = opened of_block type lower in
          let e = size_in blocks shapes number (m ∷ takes_of open_ones) inner in
          let t = inside whole m (suc p.position + closed_size m e) (drop n p.stack) p.next in
          let q = point (suc p.position) (take n p.stack) (p.next + m) in
          let w = Low blocks shapes number (t ∷ open_ones) inner q in
          let s = sizes blocks shapes number (t ∷ open_ones) inner q in
          let rest = (Low blocks shapes number open_ones body (behind t (next_in w.reached))).commands in
          let mark = mark_of (t ∷ open_ones) in
          let cs = closed mark t w.reached in
          let mine = front (suc p.position) (w.commands ++ cs) rest h.1 in
          let whole_long : length p.stack ≡ length lower + length type.params = omega (arith, long, ap length b.rule.before, length-append lower (type.params ++ []), length-append type.params []) in
          let enough : n ≤ length p.stack = omega (arith, whole_long, counts.0) in
          let left_over : length (drop n p.stack) ≡ length lower = omega (arith, length-drop n p.stack, whole_long, counts.0) in
          let under : OperandsOrdered open_ones (drop n p.stack) p.next = ordered_tail open_ones n p.stack p.next operands_ordered in (
            t.end,
            (h.0.0, tt),
            enough,
            omega (arith, room),
            lays inner (t ∷ open_ones) (one ∷ ones) q (End ∷ flat body k) type.params b.later are.0 (record { taken_is = counts.1; leaves = counts.1 }, opens_are)
                (ordered_taken t open_ones n p.stack p.next q.next (omega arith) (omega arith) refl operands_ordered) (length-take-le n p.stack enough ∙ counts.0) (omega (arith, room)) (omega (arith, most)) (front (suc p.position) w.commands cs mine)
                (opens c one type.params (Block r) ones (flat inner (End ∷ flat body k)) from b b.rule.inside b.rule.behind) (λ to later typing ended.
                let x = at_end c one ones (flat body k) to later typing in
                end_at t w.reached open_ones (suc p.position) e to s.reached ended (ap length x.full ∙ sym counts.1) (omega (arith, most)) (back (suc p.position) e.size w.commands cs s.size mine) (flat body k) tt
                (lays body open_ones ones (behind t (next_in w.reached)) k (one.lower ++ one.type.results) x.later are.1 opens_are (ordered_behind t open_ones (next_in w.reached) (omega (arith, s.new)) under)
                (behind_length t (length lower) one.type.results (next_in w.reached) counts.1 left_over ∙ sym (length-append one.lower (one.type.results))) (omega (arith, room, s.new)) (omega (arith, most))
                (back (suc p.position) (closed_size m e) (w.commands ++ cs) rest (part_length blocks shapes number mark t e q w s) h.1) x.typing then)),
          )
      lays (loop r inner body) open_ones ones p k from later are opens_are operands_ordered long room most h typing then =
          let b = behind_item c (Loop r) (flat inner (End ∷ flat body k)) ones from later typing in
          let type = b.rule.type in
          let lower = b.rule.lower in
          let counts = blocks_are r type b.rule.named in
          let n = (blocks r).params in
          let m = (blocks r).results in
          let one = opened of_loop type lower in
          let e = size_in blocks shapes number (n ∷ takes_of open_ones) inner in
          let start = shift n p.position in
          let t = inside (again start n p.next) m (suc start + closed_size m e) (drop n p.stack) (p.next + n) in
          let q = point (suc start) (reverse (reads p.next n)) (p.next + n + m) in
          let w = Low blocks shapes number (t ∷ open_ones) inner q in
          let s = sizes blocks shapes number (t ∷ open_ones) inner q in
          let rest = (Low blocks shapes number open_ones body (behind t (next_in w.reached))).commands in
          let mark = mark_of (t ∷ open_ones) in
          let cs = closed mark t w.reached in
          let ms = moves (mark_of open_ones) p.next (reverse (pad n p.stack)) in
          let prologue = ms ++ jump_to (suc start) ∷ [] in
          let ms_length : length ms ≡ n = moves_length (mark_of open_ones) p.next (reverse (pad n p.stack)) ∙ padded_length n p.stack in
          let prologue_length : length prologue ≡ n + 1 = omega (arith, length-append ms (jump_to (suc start) ∷ []), ms_length) in
          let all = front p.position ((prologue ++ w.commands) ++ cs) rest h in
          let with_prologue = front p.position (prologue ++ w.commands) cs all in
          let opens_at = front p.position prologue w.commands with_prologue in
          let there = shift_is n p.position in
          let jump = back p.position n ms (jump_to (suc start) ∷ []) ms_length opens_at in
          let inner_at = back p.position (n + 1) prologue w.commands prologue_length with_prologue in
          let cs_at = back p.position (n + 1 + e.size) (prologue ++ w.commands) cs (omega (arith, length-append prologue w.commands, prologue_length, s.size)) all in
          let rest_at = back p.position (n + 1 + closed_size m e) ((prologue ++ w.commands) ++ cs) rest
          (omega (arith, length-append (prologue ++ w.commands) cs, length-append prologue w.commands, prologue_length, part_length blocks shapes number mark t e q w s, length-append w.commands cs)) h in
          let inner_there : p.position + (n + 1) ≡ suc start = omega (arith, there) in
          let cs_there : p.position + (n + 1 + e.size) ≡ suc start + e.size = omega (arith, there) in
          let rest_there : p.position + (n + 1 + closed_size m e) ≡ suc start + closed_size m e = omega (arith, there) in
          let whole_long : length p.stack ≡ length lower + length type.params = omega (arith, long, ap length b.rule.before, length-append lower (type.params ++ []), length-append type.params []) in
          let enough : n ≤ length p.stack = omega (arith, whole_long, counts.0) in
          let left_over : length (drop n p.stack) ≡ length lower = omega (arith, length-drop n p.stack, whole_long, counts.0) in
          let inside_long : length (reverse (reads p.next n)) ≡ length type.params = length-reverse (reads p.next n) ∙ reads_count p.next n ∙ counts.0 in
          let under : OperandsOrdered open_ones (drop n p.stack) (p.next + n) = ordered_later open_ones (drop n p.stack) p.next (p.next + n) (omega arith) (ordered_tail open_ones n p.stack p.next operands_ordered) in (
            p.next,
            p.next + n,
            start,
            t.end,
            inl (record { commands = has p.position ms (front p.position ms (jump_to (suc start) ∷ []) opens_at); jump = refl; fresh = new_fresh n p.next p.stack operands_ordered.below; new = omega arith; most = omega (arith, most) }),
            (subst (λ x. slice_get program.commands x ≡ Some (jump_to (suc start))) (sym there) jump.0.0, tt),
            enough,
            omega arith,
            omega arith,
            omega (arith, room),
            lays inner (t ∷ open_ones) (one ∷ ones) q (End ∷ flat body k) type.params b.later are.0 (record { taken_is = counts.0; leaves = counts.1 }, opens_are)
                (ordered_looped t open_ones n p.stack p.next q.next (omega arith) (omega arith) refl operands_ordered) inside_long (omega (arith, room)) (omega (arith, most)) (subst (λ x. At x w.commands) inner_there inner_at)
                (opens c one type.params (Loop r) ones (flat inner (End ∷ flat body k)) from b b.rule.inside b.rule.behind) (λ to later typing ended.
                let x = at_end c one ones (flat body k) to later typing in
                end_at t w.reached open_ones (suc start) e to s.reached ended (ap length x.full ∙ sym counts.1) (omega (arith, most)) (subst (λ x. At x cs) cs_there cs_at) (flat body k) tt
                (lays body open_ones ones (behind t (next_in w.reached)) k (one.lower ++ one.type.results) x.later are.1 opens_are (ordered_behind t open_ones (next_in w.reached) (omega (arith, s.new)) under)
                (behind_length t (length lower) one.type.results (next_in w.reached) counts.1 left_over ∙ sym (length-append one.lower (one.type.results))) (omega (arith, room, s.new)) (omega (arith, most))
                (subst (λ x. At x rest) rest_there rest_at) x.typing then)),
          )
      lays (choice r first has_second second body) open_ones ones p k from later are opens_are operands_ordered long room most h typing then =
          let ahead = behind_first has_second (flat second) (flat body k) in
          let b = behind_item c (If r) (flat first ahead) ones from later typing in
          let type = b.rule.type in
          let lower = b.rule.lower in
          let counts = blocks_are r type b.rule.named in
          let n = (blocks r).params in
          let m = (blocks r).results in
          let one = opened then_part type lower in
          let another = opened else_part type lower in
          let e = size_in blocks shapes number (m ∷ takes_of open_ones) first in
          let f = size_in blocks shapes number (m ∷ takes_of open_ones) second in
          let stack = drop 1 p.stack in
          let t = if_target blocks shapes number open_ones r p first second in
          let q = then_point blocks shapes number open_ones r p in
          let w = Low blocks shapes number (t ∷ open_ones) first q in
          let s = sizes blocks shapes number (t ∷ open_ones) first q in
          let q' = else_point blocks shapes number open_ones r p first w.reached in
          let v = Low blocks shapes number (as_whole t ∷ open_ones) second q' in
          let s' = sizes blocks shapes number (as_whole t ∷ open_ones) second q' in
          let rest = Low blocks shapes number open_ones body (behind t (next_in v.reached)) in
          let mark = mark_of open_ones in
          let cs = parts mark q.stack p q t e f w v rest s s' h.1 in
          let lost : length stack ≡ length lower + length type.params = omega (arith, length-drop 1 p.stack, long, ap length b.rule.before, length-append lower (type.params ++ I32 ∷ []), length-append type.params (I32 ∷ [])) in
          let enough : n ≤ length stack = omega (arith, lost, counts.0) in
          let left_over : length (drop n stack) ≡ length lower = omega (arith, length-drop n stack, lost, counts.0) in
          let inside_long : length q.stack ≡ length type.params = length-take-le n stack enough ∙ counts.0 in
          let above = ordered_tail open_ones 1 p.stack p.next operands_ordered in
          let under = ordered_tail open_ones n stack p.next above in
          let inner_ordered = ordered_taken (as_whole t) open_ones n stack p.next q'.next (omega arith) (omega (arith, s.new)) refl above in
          let goes_on : (later : List (List WasmType)) → Types c ones (flat body k) ((lower ++ type.results) ∷ later) → LaidLive open_ones (behind t (next_in v.reached)) (flat body k) = λ later typing.
          lays body open_ones ones (behind t (next_in v.reached)) k (lower ++ type.results) later are.2 opens_are (ordered_behind t open_ones (next_in v.reached) (omega (arith, s.new, s'.new)) under)
          (behind_length t (length lower) type.results (next_in v.reached) counts.1 left_over ∙ sym (length-append lower type.results)) (omega (arith, room, s.new, s'.new)) (omega (arith, most)) cs.later typing then in (
            t.end,
            q'.position,
            (h.0.0, tt),
            enough,
            omega (arith, room),
            lays first (t ∷ open_ones) (one ∷ ones) q ahead type.params b.later are.0 (record { taken_is = counts.1; leaves = counts.1 }, opens_are)
                (ordered_taken t open_ones n stack p.next q.next (omega arith) (omega arith) refl above) inside_long (omega (arith, room)) (omega (arith, most)) cs.first
                (opens c one type.params (If r) ones (flat first ahead) from b b.rule.inside b.rule.behind) (λ to later typing ended.
                elim has_second as (λ has_second. IsSecondPart has_second second (IsBody second) → Types c (one ∷ ones) (behind_first has_second (flat second) (flat body k)) (to ∷ later)
                → IsLaidOut program bound number (t ∷ open_ones) (code_of w.reached) (behind_first has_second (flat second) (flat body k))) [
                  | true ↦ λ is typing.
                      let o = at_else c one ones (flat second (End ∷ flat body k)) to later typing in
                      else_at t w.reached open_ones (suc p.position) e to s.reached ended (ap length o.full ∙ sym counts.1) (omega (arith, most)) cs.first_end (flat second (End ∷ flat body k))
                      (lays second (as_whole t ∷ open_ones) (another ∷ ones) q' (End ∷ flat body k) type.params o.later is (record { taken_is = counts.1; leaves = counts.1 }, opens_are)
                      inner_ordered inside_long (omega (arith, room, s.new)) (omega (arith, most)) cs.second o.typing (λ to later typing ended.
                      let x = at_end c another ones (flat body k) to later typing in
                      end_at (as_whole t) v.reached open_ones q'.position f to s'.reached ended (ap length x.full ∙ sym counts.1) (omega (arith, most)) cs.second_end (flat body k) tt (goes_on x.later x.typing)))
                  | false ↦ λ is typing.
                      let x = at_end c one ones (flat body k) to later typing in
                      let empty = ends_empty second (as_whole t ∷ open_ones) q' is in
                      end_at t w.reached open_ones (suc p.position) e to s.reached ended (ap length x.full ∙ sym counts.1) (omega (arith, most)) cs.first_end (flat body k)
                      (ends_at (as_whole t) q' open_ones q'.position f type.params (subst (ReachedAs blocks shapes number f q'.position) empty s'.reached) (inside_long, inner_ordered) (ap length (x.bare refl) ∙ sym counts.1)
                      (omega (arith, most)) (subst (λ reached. At (q'.position + f.size) (closed mark (as_whole t) reached)) empty cs.second_end))
                      (subst (λ reached. LaidLive open_ones (behind t (next_in reached)) (flat body k)) empty (goes_on x.later x.typing))
                ] are.1 typing),
          )
