-- Indirect calls.
use Rattle.std.proofs.Common.{◌≡◌, ℕ, zero, suc, ◌+◌, ◌*◌, ◌^◌, ◌<◌, ◌≤◌, Bool, true, false, List, [], ◌∷◌, ◌++◌, length, map, drop, reverse, Option, Some, None, slice_get, refl, sym, ap, ◌∙◌, subst, arith, append_assoc, length-append, length-drop, ◌⊎◌, inl, inr}
use Rattle.std.specs.Prelude.{if◌then◌else◌, option_and_then}
use Rattle.std.proofs.lemmas.List.{length-map}
use Rattle.bl_base.specs.Runs.{last, ends, trapped}
use Rattle.bl_base.specs.declared.trap.Trap.{Trap as TrapKind}
use Rattle.bl_base.specs.declared.trap.Trap.TheVariants as trap_kind
use Rattle.bl_ops.specs.Numerics.{meaning}
use Rattle.bl_ops.specs.declared.op.Op.TheVariants as op
use Rattle.bl_wasm.specs.declared.linked.Signature.{Signature}
use Rattle.bl_wasm.specs.declared.linked.Tree.{Tree}
use Rattle.bl_wasm.specs.Linked.{type_of}
use Rattle.bl_wasm.specs.TypeNumbers.{is_same_type}
use Rattle.bl_reduce.specs.Calls.{call_at, call_through, call_indirect}
use Rattle.bl_reduce.specs.Configurations.{State, trap, known, with_values}
use Rattle.bl_access.specs.Templates.{jump_to, shift}
use Rattle.bl_program.specs.Steps.{Registers, written, Plain, depth}
use Rattle.bl_program.specs.declared.command.Command.TheVariants.{Trap, Call as CallOf}
use Rattle.bl_program.specs.declared.command.Operand.{Operand}
use Rattle.bl_program.specs.declared.command.Operand.TheVariants.{Const}
use Rattle.bl_lower.proofs.CodeLayout.{HasAt, live, IsLaidOut, Indirect, SlotsFrom, SlotAt}
use Rattle.bl_lower.proofs.Machine.{Program, value_of}
use Rattle.bl_lower.proofs.MatchStates.{Holds, Here, IsProgram}
use Rattle.bl_emit.specs.Constructs.{pad, reads, moves, args, mark_of, Target, top, point}
use Rattle.bl_emit.specs.Shapes.{Slot, armed, mistyped, Counts, bottom, result_reads}
use Rattle.bl_emit.specs.Numbers.{slot_of, slot_by}
use Rattle.bl_lower.proofs.BranchSteps.{IsSmall, equal_is_one, above_is_zero}
use Rattle.bl_lower.proofs.CallSteps.{call_at_reaches, has_type}
use Rattle.bl_lower.proofs.Frames.{static_low, static_next, here_above, Reaches, Then, reaches_later, popping, knowing}
use Rattle.bl_lower.proofs.StraightLineItems.{LaidOut}
use Rattle.bl_lower.proofs.ConstructExits.{moves_length}
use Rattle.bl_lower.proofs.Sizes.{args_length, padded_length, reads_length}
use Rattle.bl_lower.proofs.OperatorSteps.{zero_test, tries}
use Rattle.bl_lower.proofs.States.{states_are}
use Rattle.bl_lower.proofs.PlainRuns.{Kept, at, does, holds_value, holds_later, kept_written, has_front, has_back}
use Rattle.bl_emit.proofs.Lists.{shift_is}

module _ (tree : Tree) (program : Program) (bound : ℕ) (is : IsProgram tree program bound) (open_ones : List Target) (next : ℕ) where
  -- a trap at one of the first positions
  falls_at : (used : ℕ) (kind : TrapKind) (position : ℕ) (stack : List Operand) (state : State) (s : Plain) → Here program bound open_ones stack next state s → s.position ≡ position → slice_get program.commands position ≡ Some (Trap kind)
      → used + 1 ≤ bound → Reaches tree program bound used (trap kind state) s
  falls_at used kind position stack state s h e command most =
      (1, omega arith, omega (arith, most), last s (trapped kind state.store.memories) (does program s (Trap kind) (subst (λ n. slice_get program.commands n ≡ Some (Trap kind)) (sym e) command) ∙ ap (λ m. ends (trapped kind m)) (states_are program s state.store h.store)))

  module _ (wanted : Signature) (counts : Counts) (index : Operand) (stack : List Operand) (first behind_it v : ℕ) (small : v < 2 ^ 32) (state : State) (above : next ≤ first) (limit : first + counts.results ≤ (program.shape state.frame.number).limit)
      (enough : counts.params ≤ length stack)
      (laid : IsLaidOut program bound state.frame.number open_ones (live (point behind_it (reverse (reads first counts.results) ++ drop counts.params stack) (first + counts.results))) state.frame.rest) where
    abbrev mark : ℕ
    mark = mark_of open_ones

    -- what a slot's test leads to
    hits : (used : ℕ) (o : Option ℕ) (s : Plain) → Here program bound open_ones stack next state s → used + (counts.params + 1) ≤ bound
        → SlotAt program bound state.frame.number mark counts (slot_of tree wanted o) s.position stack first behind_it → Then tree program bound used (call_through tree wanted (Some o) state) s
    hits used None s h most at_ has = falls_at used trap_kind.UninitializedElement 5 stack state s h at_ is.layout.traps.1.1.1.1.1.0 (omega (arith, most))
    hits used (Some f) s h most at_ has =
        knowing tree program bound used (type_of tree f) s (λ type. if is_same_type type wanted then call_at type f state else trap trap_kind.TypeMismatch state) (λ type got.
        by_type type got (is_same_type type wanted) (subst (λ o. SlotAt program bound state.frame.number mark counts (slot_by wanted f o) s.position stack first behind_it) got at_)) has
      where
        by_type : (type : Signature) → type_of tree f ≡ Some type → (b : Bool) → SlotAt program bound state.frame.number mark counts (if b then armed f else mistyped) s.position stack first behind_it
            → Then tree program bound used (if b then call_at type f state else trap trap_kind.TypeMismatch state) s
        by_type type got false at_ has = falls_at used trap_kind.TypeMismatch 6 stack state s h at_ is.layout.traps.1.1.1.1.1.1.0 (omega (arith, most))
        by_type type got true at_ has =
            let t = has_type tree program bound is f type got in
            let shape = program.shape f in
            let ops = reverse (pad shape.params stack) in
            let front = args mark f 0 ops in
            let back = moves mark first (result_reads shape 0 shape.results) in
            let whole : HasAt program.commands s.position ((front ++ CallOf f ∷ back) ++ jump_to behind_it ∷ []) =
            subst (HasAt program.commands s.position) (sym (append_assoc front (CallOf f ∷ back) (jump_to behind_it ∷ []))) at_.0 in
            let long : length (front ++ CallOf f ∷ back) ≡ shape.params + suc shape.results =
            omega (arith, length-append front (CallOf f ∷ back), args_length mark f 0 ops, padded_length shape.params stack, moves_length mark first (result_reads shape 0 shape.results), reads_length shape 0 shape.results) in
            let there : shift (length (front ++ CallOf f ∷ back)) s.position ≡ shift shape.results (suc (shift shape.params s.position)) =
            omega (arith, shift_is (length (front ++ CallOf f ∷ back)) s.position, shift_is shape.results (suc (shift shape.params s.position)), shift_is shape.params s.position, long) in
            let jump = subst (λ n. HasAt program.commands n (jump_to behind_it ∷ [])) there (has_back program.commands s.position (front ++ CallOf f ∷ back) (jump_to behind_it ∷ []) whole) in
            call_at_reaches tree program bound is used f type open_ones stack next first behind_it state s h (is.functions f t.function type t.exists t.typed).params
            (has_front program.commands s.position (front ++ CallOf f ∷ back) (jump_to behind_it ∷ []) whole) (omega (arith, at_.1, enough)) (omega (arith, at_.1, most)) above (omega (arith, at_.2, limit)) (inr jump.0)
            (subst (λ n. IsLaidOut program bound state.frame.number open_ones (live (point behind_it (reverse (reads first n) ++ drop shape.params stack) (first + n))) state.frame.rest) (sym at_.2)
            (subst (λ n. IsLaidOut program bound state.frame.number open_ones (live (point behind_it (reverse (reads first counts.results) ++ drop n stack) (first + counts.results))) state.frame.rest) (sym at_.1) laid))

    -- from one of the tests on
    walks : (table : List (Option ℕ)) (used x j m : ℕ) (s : Plain) → Here program bound open_ones stack next state s → Holds s.registers (depth s) (bottom (program.shape state.frame.number)) next index v → v ≡ j + m → next ≤ x
        → used + (2 * length table + (counts.params + 1)) ≤ bound → SlotsFrom program bound state.frame.number mark counts index stack first behind_it s.position x j (map (slot_of tree wanted) table)
        → Then tree program bound used (call_through tree wanted (slice_get table m) state) s
    walks [] used x j m s h holds e le most at_ = λ has. falls_at used trap_kind.UndefinedElement 4 stack state s h at_ is.layout.traps.1.1.1.1.0 (omega (arith, most))
    walks (o ∷ table) used x j m s h holds e le most at_ = by_place m e (λ m e. walks table (used + 2) (suc x) (suc j) m (at at_.1 r' s) (moved_to at_.1)
        (holds_later s.registers r' (depth s) low next low next index v (λ y above below. keeps (depth s) y (λ same up down. omega (arith, below, le, up))) (omega arith) (omega arith) holds)
        (omega (arith, e)) (omega (arith, le)) (omega (arith, most)) at_.4)
      where
        low : ℕ
        low = bottom (program.shape state.frame.number)

        w : ℕ
        w = meaning op.I32Eq v j 0

        r' : Registers
        r' = written s.registers (depth s) x w

        keeps : Kept s.registers r' (depth s) x 1
        keeps = kept_written s.registers (depth s) x 0 w

        static : program.statics ≤ x
        static = let a = static_next program bound is.layout open_ones stack next state s h in omega (arith, a, le)

        moved_to : (position : ℕ) → Here program bound open_ones stack next state (at position r' s)
        moved_to position = here_above program bound is.layout open_ones stack next x 1 position r' state s le keeps h

        value : meaning op.I32Eq (value_of program index s) j 0 ≡ w
        value = ap (λ n. meaning op.I32Eq n j 0) (holds_value program s low next index v (static_low program bound is.layout state.frame.number) holds)

        by_place : (m : ℕ) → v ≡ j + m → ((m : ℕ) → v ≡ j + suc m → Then tree program bound (used + 2) (call_through tree wanted (slice_get table m) state) (at at_.1 r' s)) → Then tree program bound used (call_through tree wanted (slice_get (o ∷ table) m) state) s
        by_place zero e more has =
            reaches_later tree program bound used 2 (call_through tree wanted (Some o) state) s (at at_.0 r' s)
            (tries tree program bound is.layout s mark op.I32Eq x w index (Const j) at_.0 at_.1 false at_.2.0 at_.2.1.0 static value (ap zero_test (equal_is_one v j (omega (arith, e))))).comes
            (hits (used + 2) o (at at_.0 r' s) (moved_to at_.0) (omega (arith, most)) at_.3 has)
        by_place (suc m) e more has =
            reaches_later tree program bound used 2 (call_through tree wanted (slice_get table m) state) s (at at_.1 r' s)
            (tries tree program bound is.layout s mark op.I32Eq x w index (Const j) at_.0 at_.1 true at_.2.0 at_.2.1.0 static value (ap zero_test (above_is_zero v j small (omega (arith, e))))).comes
            (more m e has)

  pub indirect_reaches : (i : ℕ) (stack : List Operand) (state : State) (s : Plain) → Here program bound open_ones stack next state s → IsSmall state.frame.values → slice_get tree.functions state.frame.number ≡ Some state.frame.function
      → Indirect program bound state.frame.number (mark_of open_ones) i (point s.position stack next)
      → next + length ((program.shape state.frame.number).slots i) + ((program.shape state.frame.number).wanted i).results ≤ (program.shape state.frame.number).limit
      → (behind_it : ℕ) → SlotsFrom program bound state.frame.number (mark_of open_ones) ((program.shape state.frame.number).wanted i) (top stack) (drop 1 stack) (next + length ((program.shape state.frame.number).slots i)) behind_it s.position next 0 ((program.shape state.frame.number).slots i)
      ⊎ (slice_get program.commands s.position ≡ Some (jump_to 4)) × ((program.shape state.frame.number).slots i ≡ [])
      → LaidOut tree program bound is.layout state open_ones behind_it (reverse (reads (next + length ((program.shape state.frame.number).slots i)) ((program.shape state.frame.number).wanted i).results) ++ drop ((program.shape state.frame.number).wanted i).params (drop 1 stack))
      (next + length ((program.shape state.frame.number).slots i) + ((program.shape state.frame.number).wanted i).results) → Then tree program bound 0 (call_indirect tree i state) s
  indirect_reaches i stack state s h small exists ind limit behind_it begins laid =
      popping tree program bound open_ones next 0 stack state s (λ index state. known (option_and_then (slice_get tree.tables) state.frame.function.table) (λ table.
      known (slice_get tree.types i) (λ wanted. call_through tree wanted (slice_get table index) state))) h (λ v vs e holds here.
      knowing tree program bound 0 (option_and_then (slice_get tree.tables) state.frame.function.table) s (λ table. known (slice_get tree.types i) (λ wanted. call_through tree wanted (slice_get table v) (with_values vs state))) (λ table got_table.
      knowing tree program bound 0 (slice_get tree.types i) s (λ wanted. call_through tree wanted (slice_get table v) (with_values vs state)) (λ wanted got_wanted.
      goes_through v vs (subst IsSmall e small) holds here table wanted (is.tables state.frame.number state.frame.function table i wanted exists got_table got_wanted) begins)))
    where
      those : List Slot
      those = (program.shape state.frame.number).slots i

      counts : Counts
      counts = (program.shape state.frame.number).wanted i

      goes_through : (v : ℕ) (vs : List ℕ) → v < 2 ^ 32 → Holds s.registers (depth s) (bottom (program.shape state.frame.number)) next (top stack) v → Here program bound open_ones (drop 1 stack) next (with_values vs state) s → (table : List (Option ℕ)) (wanted : Signature)
          → those ≡ map (slot_of tree wanted) table
          → SlotsFrom program bound state.frame.number (mark_of open_ones) counts (top stack) (drop 1 stack) (next + length those) behind_it s.position next 0 those ⊎ (slice_get program.commands s.position ≡ Some (jump_to 4)) × (those ≡ [])
          → Then tree program bound 0 (call_through tree wanted (slice_get table v) (with_values vs state)) s
      goes_through v vs fits holds here table wanted same (inl from) =
          let size : length those ≡ length table = ap length same ∙ length-map table (slot_of tree wanted) in
          walks wanted counts (top stack) (drop 1 stack) (next + length those) behind_it v fits (with_values vs state) (omega arith) (omega (arith, limit)) (omega (arith, length-drop 1 stack, ind.enough)) laid table 0 next 0 v s here holds (omega arith) (omega arith)
          (omega (arith, ind.most, size))
          (subst (SlotsFrom program bound state.frame.number (mark_of open_ones) counts (top stack) (drop 1 stack) (next + length those) behind_it s.position next 0) same from)
      goes_through v vs fits holds here table wanted same (inr jump) = by_table table (sym (sym jump.1 ∙ same))
        where
          t : Plain
          t = at 4 s.registers s

          moved_to : Here program bound open_ones (drop 1 stack) next (with_values vs state) t
          moved_to = record { store = here.store; frame_is = here.frame_is; callers = here.callers }

          by_table : (table : List (Option ℕ)) → map (slot_of tree wanted) table ≡ [] → Then tree program bound 0 (call_through tree wanted (slice_get table v) (with_values vs state)) s
          by_table [] e has = reaches_later tree program bound 0 1 (trap trap_kind.UndefinedElement (with_values vs state)) s t (t, does program s (jump_to 4) jump.0, refl)
              (falls_at (0 + 1) trap_kind.UndefinedElement 4 (drop 1 stack) (with_values vs state) t moved_to refl is.layout.traps.1.1.1.1.0 (omega (arith, ind.most)))
          by_table (o ∷ table) e has = absurd (cc e)
