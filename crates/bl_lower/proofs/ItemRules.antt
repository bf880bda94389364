-- Each piece of a body keeps the rules as far as it goes itself.
use Rattle.std.proofs.Common.{◌≡◌, ℕ, suc, ◌+◌, ◌*◌, ◌<◌, ◌≤◌, List, [], ◌∷◌, ◌++◌, length, drop, reverse, Some, slice_get, sym, ap, ◌∙◌, subst, arith, length-append, inl, inr}
use Rattle.std.proofs.lemmas.List.{append-nil}
use Rattle.bl_ops.specs.OperatorTable.{row_of, row_operands}
use Rattle.bl_ops.specs.declared.op.Op.{Op}
use Rattle.bl_ops.specs.declared.op.Op.TheVariants as op
use Rattle.bl_ops.specs.declared.op.OpRow.{OpRow}
use Rattle.bl_wasm.specs.Linked.{IsLinked, IsFunction, context}
use Rattle.bl_wasm.specs.declared.instruction.Instr.{Instr}
use Rattle.bl_wasm.specs.declared.instruction.Instr.TheVariants.{BrIf, Call, CallIndirect, Select, LocalGet, LocalSet, LocalTee, GlobalGet, GlobalSet, Load, Store, MemorySize, MemoryGrow, I32Const, I64Const, Integer}
use Rattle.bl_wasm.specs.declared.linked.Function.{Function}
use Rattle.bl_wasm.specs.declared.linked.Tree.{Tree}
use Rattle.bl_program.specs.declared.command.Command.{Command}
use Rattle.bl_program.specs.declared.command.Command.TheVariants as command
use Rattle.bl_program.specs.declared.command.Operand.{Operand}
use Rattle.bl_program.specs.declared.command.Operand.TheVariants.{Const}
use Rattle.bl_access.specs.Templates.{shift, variable, set_of, jump_to, set as set_command}
use Rattle.bl_emit.specs.Shapes.{Slot, Shape, local, bottom, result_reads}
use Rattle.bl_emit.specs.Constructs.{top, pad, moves, args, mark_of, Target, Point}
use Rattle.bl_emit.specs.Items.{check_of, check_size, check_new, checks, left, right, arms_size, head_size, hits_from, calls_in, after, to_label, slot_arms, slot_head, template}
use Rattle.bl_emit.specs.Numbers.{blocks, shape}
use Rattle.bl_lower.proofs.IndexTests.{hits_from_length}
use Rattle.bl_lower.proofs.PieceRules.{LawfulPiece, simple_piece, readable, AllReady, ready_get, branched_simple, chain_simple}
use Rattle.bl_lower.proofs.LawfulCommands.{mark_small, new_local, Readable, reads_const, reads_static, Goes, Simple, Writes, set_simple, test_simple, jump_simple}
use Rattle.bl_lower.proofs.Pieces.{EachAt, each_both}
use Rattle.bl_lower.proofs.FunctionPlaces.{arms_at}
use Rattle.bl_lower.proofs.OperandRanges.{Ranged, AllRanged, ranged_tail, ranged_top, ranged_left, ranged_right}
use Rattle.bl_lower.proofs.Sizes.{slot_head_length, template_length, after_position, checks_length}
use Rattle.bl_lower.proofs.TypedItems.{Sound}
use Rattle.bl_emit.proofs.Lists.{shift_is}
use Rattle.bl_lower.proofs.Templates.{row_padded, check_fits, arms_exist, spans, local_own, local_read, functions_number, globals_number, size_static, checks_simple, called_simple, hits_into, slots_simple, one_good, move_good, load_good, store_good, grow_good}

module _ (tree : Tree) (linked : IsLinked tree) (number : ℕ) (B : ℕ → Type 0) (function : Function) (exists : slice_get tree.functions number ≡ Some function) (is : IsFunction tree function) where
  abbrev Mine : Shape
  Mine = shape tree number

  abbrev Ops : ℕ → List Operand → Type 0
  Ops next stack = AllRanged (bottom Mine) next stack

  abbrev LawfulPieceAt : ℕ → List Command → Type 0
  LawfulPieceAt start commands = LawfulPiece tree linked number B start commands

  abbrev new : (x : ℕ) → bottom Mine ≤ x → x < Mine.limit → Writes tree linked number B x
  new x low high = inl (new_local tree linked number B x low high)

  reads_stack : (next : ℕ) (a : Operand) → next ≤ Mine.limit → Ranged (bottom Mine) next a → Readable tree linked number B a
  reads_stack next a le h = readable tree linked number B next a le h

  -- an operator, behind its tests
  operates : (o : Op) (row : OpRow) (depth : ℕ) (p : Point) → row_of o ≡ Some row → depth ≤ 6 → Ops p.next p.stack → bottom Mine ≤ p.next → suc (shift (check_new (check_of o)) p.next) ≤ Mine.limit
      → B (suc (shift (check_size (check_of o)) p.position))
      → LawfulPieceAt p.position (checks depth (check_of o) p.position p.next (left (row_operands (row_of o)) p.stack) (right (row_operands (row_of o)) p.stack)
      ++ set_command depth o (shift (check_new (check_of o)) p.next) (left (row_operands (row_of o)) p.stack) (right (row_operands (row_of o)) p.stack) ∷ [])
  operates o row depth p e small ranged low room ends =
      simple_piece tree linked number B p.position (cs ++ set_ ∷ []) (omega (arith, long))
      (each_both (Simple tree linked number B p.position n) p.position (p.position + k) cs (set_ ∷ []) (omega (arith, checks_long))
      (checks_simple tree linked number B function exists is p.position n (p.position + n) goes (check_of o) p.position depth p.next a b (check_fits o) small low (omega (arith, room, new_there)) ra rb (omega arith) (omega (arith, long))) (
        set_simple tree linked number B p.position n (p.position + k) depth o x a b (Const 0) small (row_padded o row p.stack e) ra rb (reads_const tree linked number B 0)
            (new x (omega (arith, low, new_there)) (omega (arith, room))) (goes (suc (p.position + k)) (omega arith) (omega (arith, long))),
        tt,
      ))
    where
      a : Operand
      a = left (row_operands (row_of o)) p.stack

      b : Operand
      b = right (row_operands (row_of o)) p.stack

      k : ℕ
      k = check_size (check_of o)

      x : ℕ
      x = shift (check_new (check_of o)) p.next

      cs : List Command
      cs = checks depth (check_of o) p.position p.next a b

      set_ : Command
      set_ = set_command depth o x a b

      n : ℕ
      n = length (cs ++ set_ ∷ [])

      checks_long : length cs ≡ k
      checks_long = checks_length depth (check_of o) p.position p.next a b

      long : n ≡ k + 1
      long = length-append cs (set_ ∷ []) ∙ ap (λ m. m + 1) checks_long

      new_there : x ≡ p.next + check_new (check_of o)
      new_there = shift_is (check_new (check_of o)) p.next

      goes : (q : ℕ) → p.position < q → q ≤ p.position + n → Goes tree linked number B p.position n q
      goes = spans tree linked number B function exists is p.position n (let there : suc (shift k p.position) ≡ p.position + n = omega (arith, shift_is k p.position, long) in subst B there ends)

      ra : Readable tree linked number B a
      ra = reads_stack p.next a (omega (arith, room, new_there)) (ranged_left (bottom Mine) (row_operands (row_of o)) p.next p.stack ranged)

      rb : Readable tree linked number B b
      rb = reads_stack p.next b (omega (arith, room, new_there)) (ranged_right (bottom Mine) (row_operands (row_of o)) p.next p.stack ranged)

  abbrev Template : List Target → Instr → Point → List Command
  Template open_ones item p = template (shape tree) number open_ones item p

  -- positions of a piece behind which the code goes on
  ends_there : (open_ones : List Target) (item : Instr) (p : Point) → B (after (shape tree) number open_ones item p).position → B (p.position + length (Template open_ones item p))
  ends_there open_ones item p ends =
      let there : (after (shape tree) number open_ones item p).position ≡ p.position + length (Template open_ones item p)
      = after_position (blocks tree) (shape tree) number open_ones item p ∙ ap (λ n. p.position + n) (sym (template_length (blocks tree) (shape tree) number open_ones item p)) in
      subst B there ends

  -- the tests of slots, or the one jump
  head_simple : (start size stop : ℕ) → ((q : ℕ) → start < q → q ≤ stop → Goes tree linked number B start size q) → (those : List Slot) (depth x : ℕ) (index : Operand) → depth ≤ 6 → bottom Mine ≤ x → x + length those ≤ Mine.limit
      → Readable tree linked number B index → start + (head_size those + arms_size (calls_in (shape tree) number) those) ≤ stop → EachAt (Simple tree linked number B start size) start (slot_head (shape tree) number depth index start x those)
  head_simple start size stop goes [] depth x index small low high reads_ room = (jump_simple tree linked number B start size start 4 (inl (omega arith)), tt)
  head_simple start size stop goes (slot ∷ those) depth x index small low high reads_ room =
      let at_ = start + 2 * suc (length those) in
      let hits = hits_from (calls_in (shape tree) number) at_ (slot ∷ those) in
      let long = hits_from_length (calls_in (shape tree) number) at_ (slot ∷ those) in
      chain_simple tree linked number B start size stop goes start depth x 0 4 index hits small (omega arith) (omega (arith, room, long)) low (omega (arith, high, long)) reads_
      (hits_into tree linked number B function exists is start size stop goes at_ (slot ∷ those) (omega arith) (omega (arith, room))) (λ some. inl (omega arith))

  pub template_good : (item : Instr) (open_ones : List Target) (p : Point) → Sound (context tree is.type function) item → AllReady tree linked number B open_ones → Ops p.next p.stack → bottom Mine ≤ p.next
      → p.next ≤ Mine.limit → (after (shape tree) number open_ones item p).next ≤ Mine.limit → B (after (shape tree) number open_ones item p).position → LawfulPieceAt p.position (Template open_ones item p)
  template_good (I32Const n) open_ones p sound ready ranged low le room ends =
      move_good tree linked number B function exists is p.position (mark_of open_ones) p.next (Const n) (mark_small open_ones) (reads_const tree linked number B n) (new p.next low (omega (arith, room))) ends
  template_good (I64Const n) open_ones p sound ready ranged low le room ends =
      move_good tree linked number B function exists is p.position (mark_of open_ones) p.next (Const n) (mark_small open_ones) (reads_const tree linked number B n) (new p.next low (omega (arith, room))) ends
  template_good (LocalGet x) open_ones p sound ready ranged low le room ends =
      move_good tree linked number B function exists is p.position (mark_of open_ones) p.next (variable (local Mine x)) (mark_small open_ones) (local_read tree linked number B function exists is x sound) (new p.next low (omega (arith, room))) ends
  template_good (LocalSet x) open_ones p sound ready ranged low le room ends =
      move_good tree linked number B function exists is p.position (mark_of open_ones) (local Mine x) (top p.stack) (mark_small open_ones) (reads_stack p.next (top p.stack) le (ranged_top (bottom Mine) p.next p.stack ranged)) (inl (local_own tree linked number B function exists is x sound)) ends
  template_good (LocalTee x) open_ones p sound ready ranged low le room ends =
      move_good tree linked number B function exists is p.position (mark_of open_ones) (local Mine x) (top p.stack) (mark_small open_ones) (reads_stack p.next (top p.stack) le (ranged_top (bottom Mine) p.next p.stack ranged)) (inl (local_own tree linked number B function exists is x sound)) ends
  template_good (GlobalGet x) open_ones p sound ready ranged low le room ends =
      let lt = globals_number tree linked number B function exists is x sound in
      move_good tree linked number B function exists is p.position (mark_of open_ones) p.next (variable x) (mark_small open_ones) (reads_static tree linked number B x (omega (arith, lt))) (new p.next low (omega (arith, room))) ends
  template_good (GlobalSet x) open_ones p sound ready ranged low le room ends =
      move_good tree linked number B function exists is p.position (mark_of open_ones) x (top p.stack) (mark_small open_ones) (reads_stack p.next (top p.stack) le (ranged_top (bottom Mine) p.next p.stack ranged)) (inr (globals_number tree linked number B function exists is x sound)) ends
  template_good (Integer o) open_ones p sound ready ranged low le room ends = operates o sound.0 (mark_of open_ones) p sound.1 (mark_small open_ones) ranged low room ends
  template_good Select open_ones p sound ready ranged low le room ends =
      let two = ranged_tail (bottom Mine) 1 p.next p.stack ranged in
      let three = ranged_tail (bottom Mine) 1 p.next (drop 1 p.stack) two in
      one_good tree linked number B function exists is p.position (set_of (mark_of open_ones) op.Select p.next (top (drop 1 (drop 1 p.stack))) (top (drop 1 p.stack)) (top p.stack))
      (set_simple tree linked number B p.position 1 p.position (mark_of open_ones) op.Select p.next (top (drop 1 (drop 1 p.stack))) (top (drop 1 p.stack)) (top p.stack) (mark_small open_ones)
      ((λ lt. absurd (omega (arith, lt))), (λ lt. absurd (omega (arith, lt))))
      (reads_stack p.next (top (drop 1 (drop 1 p.stack))) le (ranged_top (bottom Mine) p.next (drop 1 (drop 1 p.stack)) three)) (reads_stack p.next (top (drop 1 p.stack)) le (ranged_top (bottom Mine) p.next (drop 1 p.stack) two))
      (reads_stack p.next (top p.stack) le (ranged_top (bottom Mine) p.next p.stack ranged)) (new p.next low (omega (arith, room))) (inr (inl ends)))
  template_good (Load kind argument) open_ones p sound ready ranged low le room ends =
      load_good tree linked number B function exists is p.position (mark_of open_ones) p.next argument.offset kind (top p.stack) (mark_small open_ones) sound.0 sound.1 sound.2 low (omega (arith, room)) (ranged_top (bottom Mine) p.next p.stack ranged) ends
  template_good (Store kind argument) open_ones p sound ready ranged low le room ends =
      store_good tree linked number B function exists is p.position (mark_of open_ones) p.next argument.offset kind (top (drop 1 p.stack)) (top p.stack) (mark_small open_ones) sound.0 sound.1 sound.2 low (omega (arith, room))
      (ranged_top (bottom Mine) p.next (drop 1 p.stack) (ranged_tail (bottom Mine) 1 p.next p.stack ranged)) (ranged_top (bottom Mine) p.next p.stack ranged) ends
  template_good MemorySize open_ones p sound ready ranged low le room ends =
      move_good tree linked number B function exists is p.position (mark_of open_ones) p.next (variable Mine.size) (mark_small open_ones) (reads_static tree linked number B Mine.size (size_static tree linked number B function exists is sound)) (new p.next low (omega (arith, room))) ends
  template_good MemoryGrow open_ones p sound ready ranged low le room ends =
      grow_good tree linked number B function exists is p.position (mark_of open_ones) p.next (top p.stack) (mark_small open_ones) sound low (omega (arith, room)) (ranged_top (bottom Mine) p.next p.stack ranged) ends
  template_good (BrIf l) open_ones p sound ready ranged low le room ends =
      let one = to_label (shape tree) number open_ones (drop 1 p.stack) l in
      let n = suc (length one) in
      let goes = spans tree linked number B function exists is p.position n (ends_there open_ones (BrIf l) p ends) in
      simple_piece tree linked number B p.position (Template open_ones (BrIf l) p) (omega arith) (
        test_simple tree linked number B p.position n p.position (top p.stack) (suc p.position) (after (shape tree) number open_ones (BrIf l) p).position (reads_stack p.next (top p.stack) le (ranged_top (bottom Mine) p.next p.stack ranged))
            (goes (suc p.position) (omega arith) (omega arith)) (inr (inl ends)),
        branched_simple tree linked number B p.position n (p.position + n) goes (suc p.position) (mark_of open_ones) p.next (slice_get open_ones l) (drop 1 p.stack) (mark_small open_ones) (omega arith) (omega arith) le
            (ready_get tree linked number B open_ones l ready) (ranged_tail (bottom Mine) 1 p.next p.stack ranged),
      )
  template_good (Call f) open_ones p sound ready ranged low le room ends =
      let t = Template open_ones (Call f) p in
      let n = length t in
      let long = template_length (blocks tree) (shape tree) number open_ones (Call f) p in
      let depth = mark_of open_ones in
      let given = args depth f 0 (reverse (pad (shape tree f).params p.stack)) in
      let back = moves depth p.next (result_reads (shape tree f) 0 (shape tree f).results) in
      simple_piece tree linked number B p.position t (omega (arith, long))
      (subst (EachAt (Simple tree linked number B p.position n) p.position) (ap (λ l. given ++ command.Call f ∷ l) (append-nil back))
      (called_simple tree linked number B function exists is p.position n (p.position + n) (spans tree linked number B function exists is p.position n (ends_there open_ones (Call f) p ends)) p.position depth f p.next p.next p.stack []
      (mark_small open_ones) (omega arith) (omega (arith, long)) (functions_number tree linked number B function exists is f sound) low room le ranged tt))
  template_good (CallIndirect i) open_ones p sound ready ranged low le room ends =
      let those = Mine.slots i in
      let t = Template open_ones (CallIndirect i) p in
      let n = length t in
      let depth = mark_of open_ones in
      let behind_it = (after (shape tree) number open_ones (CallIndirect i) p).position in
      let head = slot_head (shape tree) number depth (top p.stack) p.position p.next those in
      let rest = slot_arms (shape tree) number depth (drop 1 p.stack) (p.next + length those) behind_it those in
      let long = template_length (blocks tree) (shape tree) number open_ones (CallIndirect i) p in
      let goes = spans tree linked number B function exists is p.position n (ends_there open_ones (CallIndirect i) p ends) in
      simple_piece tree linked number B p.position t (let some = heads those in omega (arith, long, some))
      (each_both (Simple tree linked number B p.position n) p.position (p.position + head_size those) head rest (let l = slot_head_length (blocks tree) (shape tree) number depth (top p.stack) p.position p.next those in omega (arith, l))
      (head_simple p.position n (p.position + n) goes those depth p.next (top p.stack) (mark_small open_ones) low (omega (arith, room)) (reads_stack p.next (top p.stack) le (ranged_top (bottom Mine) p.next p.stack ranged)) (omega (arith, long)))
      (slots_simple tree linked number B function exists is p.position n (p.position + n) goes (p.position + head_size those) depth (p.next + length those) behind_it p.next (Mine.wanted i) (drop 1 p.stack) those (mark_small open_ones) (omega arith) (omega (arith, long))
      (arms_exist tree (slice_get tree.functions number) i) (arms_at tree (slice_get tree.functions number) i) (omega (arith, low)) room le (ranged_tail (bottom Mine) 1 p.next p.stack ranged) (inr (inl ends))))
    where
      heads : (those : List Slot) → 1 ≤ head_size those
      heads [] = omega arith
      heads (slot ∷ those) = omega arith
  template_good item open_ones p sound ready ranged low le room ends = one_good tree linked number B function exists is p.position (jump_to (suc p.position)) (jump_simple tree linked number B p.position 1 p.position (suc p.position) (inr (inl ends)))
