-- The pieces of a body keep the rules as far as they go themselves.
use Rattle.std.proofs.Common.{◌≡◌, ℕ, suc, ◌+◌, ◌-◌, ◌*◌, ◌<◌, ◌≤◌, List, [], ◌∷◌, ◌++◌, length, drop, take, reverse, Option, Some, None, slice_get, refl, sym, ap, ◌∙◌, subst, arith, length-append, inl, inr}
use Rattle.bl_base.specs.declared.trap.Trap.TheVariants as trap_kind
use Rattle.bl_ops.specs.OperatorTable.{row_of, row_operands}
use Rattle.bl_wasm.specs.Linked.{IsLinked, IsFunction, context}
use Rattle.bl_wasm.specs.declared.instruction.Instr.{Instr}
use Rattle.bl_wasm.specs.declared.instruction.Instr.TheVariants.{Br, BrIf, BrTable, Return, Call, CallIndirect, Drop, Select, LocalGet, LocalSet, GlobalGet, GlobalSet, Load, Store, MemorySize, MemoryGrow, I32Const, I64Const, Integer}
use Rattle.bl_wasm.specs.declared.linked.Function.{Function}
use Rattle.bl_wasm.specs.declared.linked.Tree.{Tree}
use Rattle.bl_program.specs.declared.command.Command.{Command}
use Rattle.bl_program.specs.declared.command.Command.TheVariants as command
use Rattle.bl_program.specs.declared.command.Operand.{Operand}
use Rattle.bl_access.specs.Templates.{shift, variable, test_of, jump_to, chain}
use Rattle.bl_emit.specs.Shapes.{Shape, bottom}
use Rattle.bl_emit.specs.Constructs.{top, pad, moves, mark_of, Target, branched, Point, as_whole, behind}
use Rattle.bl_emit.specs.Items.{check_of, check_new, branch_size, arms_from, after, to_label, arms, template, leaving}
use Rattle.bl_emit.specs.LoweredBodies.{takes_of, closed, Reached, on, Body, done, step, leave, block, loop, choice, Extent, closed_size, closing, off, next_in, size_in, low, left_to}
use Rattle.bl_emit.specs.Numbers.{blocks, shape}
use Rattle.bl_lower.proofs.CodeLayout.{block_target, block_point, loop_target, loop_point, if_target, then_point, else_point}
use Rattle.bl_lower.proofs.IndexTests.{chain_length, arms_from_length}
use Rattle.bl_lower.proofs.PieceRules.{LawfulPiece, simple_piece, readable, Ready, AllReady, ReadyFor, ready_get, branched_simple, chain_simple, moved_simple}
use Rattle.bl_lower.proofs.ConstructExits.{moves_length}
use Rattle.bl_lower.proofs.LawfulCommands.{mark_small, new_local, Simple, Writes, test_simple, jump_simple, trap_simple}
use Rattle.bl_lower.proofs.Pieces.{each_both, all_of, singles, AllAt, all_at_front, all_at_back, all_at_both, closed_pieces, pieces, whole_is}
use Rattle.bl_lower.proofs.OperandRanges.{AllRanged, ranged_later, ranged_tail, ranged_top, ranged_pad, ranged_front, ranged_reads, ranged_new}
use Rattle.bl_lower.proofs.Sizes.{padded_length, branch_length, label_length, template_length, after_position, leaving_length, left_next_is, ReachedAs, sizes, closed_length, after_next}
use Rattle.bl_lower.proofs.TypedItems.{Sound, EachIn}
use Rattle.bl_emit.proofs.Lists.{shift_is}
use Rattle.bl_lower.proofs.ItemRules.{template_good}
use Rattle.bl_lower.proofs.Templates.{a_command, within, one_good, move_good, arms_into, arms_simple}

module _ (tree : Tree) (linked : IsLinked tree) (number : ℕ) (B : ℕ → Type 0) (function : Function) (exists : slice_get tree.functions number ≡ Some function) (is : IsFunction tree function) where
  abbrev Mine : Shape
  Mine = shape tree number

  abbrev Ops : ℕ → List Operand → Type 0
  Ops next stack = AllRanged (bottom Mine) next stack

  abbrev LawfulPieceAt : ℕ → List Command → Type 0
  LawfulPieceAt start commands = LawfulPiece tree linked number B start commands

  abbrev Begins : ℕ → List Command → Type 0
  Begins start commands = B start

  -- ---- items behind which what follows is dead

  branch_some : (depth : ℕ) (o : Option Target) (stack : List Operand) → 1 ≤ length (branched depth Mine.results o stack)
  branch_some depth None stack = let l = branch_length (blocks tree) (shape tree) number depth None stack in omega (arith, l)
  branch_some depth (Some t) stack = let l = branch_length (blocks tree) (shape tree) number depth (Some t) stack in omega (arith, l)

  branch_good : (start depth next : ℕ) (o : Option Target) (stack : List Operand) → depth ≤ 6 → next ≤ Mine.limit → ReadyFor tree linked number B o → Ops next stack → LawfulPieceAt start (branched depth Mine.results o stack)
  branch_good start depth next o stack small le ready ranged =
      let n = length (branched depth Mine.results o stack) in
      let some = branch_some depth o stack in
      simple_piece tree linked number B start (branched depth Mine.results o stack) some
      (branched_simple tree linked number B start n (start + n - 1) (within tree linked number B function exists is start n some) start depth next o stack small (omega arith) (omega (arith, some)) le ready ranged)

  leaving_good : (item : Instr) (open_ones : List Target) (p : Point) → AllReady tree linked number B open_ones → Ops p.next p.stack → bottom Mine ≤ p.next → p.next ≤ Mine.limit
      → left_to (blocks tree) (shape tree) number item p.next ≤ Mine.limit → LawfulPieceAt p.position (leaving (shape tree) number open_ones item p)
  leaving_good (Br l) open_ones p ready ranged low le room = branch_good p.position (mark_of open_ones) p.next (slice_get open_ones l) p.stack (mark_small open_ones) le (ready_get tree linked number B open_ones l ready) ranged
  leaving_good Return open_ones p ready ranged low le room = branch_good p.position (mark_of open_ones) p.next None p.stack (mark_small open_ones) le tt ranged
  leaving_good (BrTable default ls) open_ones p ready ranged low le room =
      let start = p.position in
      let depth = mark_of open_ones in
      let all = leaving (shape tree) number open_ones (BrTable default ls) p in
      let n = length all in
      let long = leaving_length (blocks tree) (shape tree) number open_ones (BrTable default ls) p in
      let takes = takes_of open_ones in
      let size = branch_size Mine.results (slice_get takes default) in
      let one = a_command Mine.results (slice_get takes default) in
      let those = arms_from Mine.results takes (start + (2 * length ls + size)) ls in
      let many = arms_from_length Mine.results takes (start + (2 * length ls + size)) ls in
      let tests = chain (top p.stack) p.next those (start + 2 * length ls) start depth in
      let tests_long : length tests ≡ 2 * length ls = chain_length (top p.stack) p.next 0 those (start + 2 * length ls) start depth ∙ ap (λ k. 2 * k) many in
      let d = to_label (shape tree) number open_ones (drop 1 p.stack) default in
      let d_long = label_length (blocks tree) (shape tree) number open_ones (drop 1 p.stack) default in
      let a = arms (shape tree) number open_ones (drop 1 p.stack) ls in
      let stop = start + n - 1 in
      let some : 1 ≤ n = omega (arith, long, one) in
      let goes = within tree linked number B function exists is start n some in
      let below = ranged_tail (bottom Mine) 1 p.next p.stack ranged in
      simple_piece tree linked number B start all some
      (each_both (Simple tree linked number B start n) start (start + 2 * length ls) tests (d ++ a) (omega (arith, tests_long))
      (chain_simple tree linked number B start n stop goes start depth p.next 0 (start + 2 * length ls) (top p.stack) those (mark_small open_ones) (omega arith) (omega (arith, many, long, one)) low (omega (arith, many, room))
      (readable tree linked number B p.next (top p.stack) le (ranged_top (bottom Mine) p.next p.stack ranged)) (arms_into tree linked number B function exists is start n stop goes (start + (2 * length ls + size)) takes ls (omega (arith, one)) (omega (arith, long, one)))
      (λ has. goes (start + 2 * length ls) (omega (arith, has, many)) (omega (arith, long, one))))
      (each_both (Simple tree linked number B start n) (start + 2 * length ls) (start + 2 * length ls + size) d a (omega (arith, d_long))
      (branched_simple tree linked number B start n stop goes (start + 2 * length ls) depth p.next (slice_get open_ones default) (drop 1 p.stack) (mark_small open_ones) (omega arith) (omega (arith, d_long, long, one)) le (ready_get tree linked number B open_ones default ready) below)
      (arms_simple tree linked number B function exists is start n stop goes (start + 2 * length ls + size) p.next open_ones (drop 1 p.stack) ls (omega arith) (omega (arith, long, one)) le ready below)))
  leaving_good item open_ones p ready ranged low le room = one_good tree linked number B function exists is p.position (command.Trap trap_kind.Unreachable) (trap_simple tree linked number B p.position 1 p.position trap_kind.Unreachable)

  -- ---- the ends of constructs

  abbrev pub EndsIn : Reached → Type 0
  EndsIn (on q) = B q.position
  EndsIn (off next) = Unit {0}

  abbrev pub StackIn : Reached → Type 0
  StackIn (on q) = Ops q.next q.stack
  StackIn (off next) = Unit {0}

  closed_good : (depth : ℕ) (t : Target) (q : Point) → depth ≤ 6 → Ready tree linked number B t → Ops q.next q.stack → q.next ≤ Mine.limit → LawfulPieceAt q.position (closed depth t (on q))
  closed_good depth t q small ready ranged le =
      let ms = moves depth t.first (reverse (pad t.arity q.stack)) in
      let n = length (closed depth t (on q)) in
      let long : n ≡ t.arity + 1 = omega (arith, length-append ms (jump_to t.end ∷ []), moves_length depth t.first (reverse (pad t.arity q.stack)), padded_length t.arity q.stack) in
      simple_piece tree linked number B q.position (closed depth t (on q)) (omega (arith, long))
      (moved_simple tree linked number B q.position n (q.position + n - 1) (within tree linked number B function exists is q.position n (omega (arith, long))) q.position depth t.first t.arity q.next t.end q.stack small
      (omega arith) (omega (arith, long)) ready.low ready.high le ranged (inr (inl ready.ends)))

  closed_ends : (depth : ℕ) (t : Target) (reached : Reached) (e : Extent) (position : ℕ) → ReachedAs (blocks tree) (shape tree) number e position reached → AllAt Begins (position + e.size) (closed_pieces depth t reached) → EndsIn reached
  closed_ends depth t (on q) e position reaches h = subst B (sym reaches.1) h.0
  closed_ends depth t (off next) e position reaches h = tt

  closed_goods : (depth : ℕ) (t : Target) (reached : Reached) (e : Extent) (position : ℕ) → depth ≤ 6 → ReachedAs (blocks tree) (shape tree) number e position reached → StackIn reached → next_in reached ≤ Mine.limit
      → Ready tree linked number B t → AllAt LawfulPieceAt (position + e.size) (closed_pieces depth t reached)
  closed_goods depth t (on q) e position small reaches ranged le ready = (subst (λ n. LawfulPieceAt n (closed depth t (on q))) reaches.1 (closed_good depth t q small ready ranged le), tt)
  closed_goods depth t (off next) e position small reaches ranged le ready = tt

  closed_pieces_length : (depth : ℕ) (t : Target) (reached : Reached) (e : Extent) (position : ℕ) → ReachedAs (blocks tree) (shape tree) number e position reached → length (all_of (closed_pieces depth t reached)) ≡ closing e.ends t.arity
  closed_pieces_length depth t (on q) e position reaches =
      let l = closed_length (blocks tree) (shape tree) number depth t (on q) e position reaches in
      let a = length-append (closed depth t (on q)) [] in
      omega (arith, l, a)
  closed_pieces_length depth t (off next) e position reaches = closed_length (blocks tree) (shape tree) number depth t (off next) e position reaches

  -- ---- bodies

  abbrev Pieces : List Target → Body → Point → List (List Command)
  Pieces open_ones body p = pieces (blocks tree) (shape tree) number open_ones body p

  abbrev End : List Target → Body → Point → Reached
  End open_ones body p = (low (blocks tree) (shape tree) number open_ones body p).reached

  abbrev Size_of : List Target → Body → Extent
  Size_of open_ones body = size_in (blocks tree) (shape tree) number (takes_of open_ones) body

  pieces_length : (open_ones : List Target) (body : Body) (p : Point) → length (all_of (Pieces open_ones body p)) ≡ (Size_of open_ones body).size
  pieces_length open_ones body p = ap length (whole_is (blocks tree) (shape tree) number open_ones body p) ∙ (sizes (blocks tree) (shape tree) number open_ones body p).size

  -- the first of pieces, or where they end
  starts : (position : ℕ) (those : List (List Command)) → AllAt Begins position those → B (position + length (all_of those)) → B position
  starts position [] h ends = let same : position + 0 ≡ position = omega arith in subst B same ends
  starts position (piece ∷ those) h ends = h.0

  pub begins : (open_ones : List Target) (body : Body) (p : Point) → AllAt Begins p.position (Pieces open_ones body p) → EndsIn (End open_ones body p) → B p.position
  begins open_ones done p h ends = ends
  begins open_ones (leave item body) p h ends = h.0
  begins open_ones (step item body) p h ends = h.0
  begins open_ones (block r inner body) p h ends = h.0
  begins open_ones (choice r first other second body) p h ends = h.0
  begins open_ones (loop r inner body) p h ends = first (singles (moves (mark_of open_ones) p.next (reverse (pad ((blocks tree) r).params p.stack)))) _ _ h
    where
      first : (a : List (List Command)) (x : List Command) (b : List (List Command)) → AllAt Begins p.position (a ++ (x ∷ b)) → B p.position
      first [] x b h = h.0
      first (y ∷ a) x b h = h.0

  -- a new variable on a stack, behind so many others
  pub one_more : (temps next : ℕ) (stack : List Operand) → bottom Mine ≤ next → Ops next stack → Ops (suc (shift temps next)) (variable (shift temps next) ∷ stack)
  one_more temps next stack low h =
      let there = shift_is temps next in
      ((omega (arith, there, low), omega arith), ranged_later (bottom Mine) next (suc (shift temps next)) stack (omega (arith, there)) h)

  ranged_after : (item : Instr) (open_ones : List Target) (p : Point) → bottom Mine ≤ p.next → Ops p.next p.stack
      → Ops (after (shape tree) number open_ones item p).next (after (shape tree) number open_ones item p).stack
  ranged_after (I32Const n) open_ones p low h = one_more 0 p.next p.stack low h
  ranged_after (I64Const n) open_ones p low h = one_more 0 p.next p.stack low h
  ranged_after (LocalGet x) open_ones p low h = one_more 0 p.next p.stack low h
  ranged_after (GlobalGet x) open_ones p low h = one_more 0 p.next p.stack low h
  ranged_after (Integer o) open_ones p low h = one_more (check_new (check_of o)) p.next (drop (row_operands (row_of o)) p.stack) low (ranged_tail (bottom Mine) (row_operands (row_of o)) p.next p.stack h)
  ranged_after Select open_ones p low h =
      one_more 0 p.next (drop 1 (drop 1 (drop 1 p.stack))) low (ranged_tail (bottom Mine) 1 p.next (drop 1 (drop 1 p.stack)) (ranged_tail (bottom Mine) 1 p.next (drop 1 p.stack) (ranged_tail (bottom Mine) 1 p.next p.stack h)))
  ranged_after (Load kind argument) open_ones p low h = one_more 1 p.next (drop 1 p.stack) low (ranged_tail (bottom Mine) 1 p.next p.stack h)
  ranged_after (Store kind argument) open_ones p low h =
      ranged_later (bottom Mine) p.next (suc p.next) (drop 1 (drop 1 p.stack)) (omega arith) (ranged_tail (bottom Mine) 1 p.next (drop 1 p.stack) (ranged_tail (bottom Mine) 1 p.next p.stack h))
  ranged_after MemorySize open_ones p low h = one_more 0 p.next p.stack low h
  ranged_after MemoryGrow open_ones p low h = one_more 2 p.next (drop 1 p.stack) low (ranged_tail (bottom Mine) 1 p.next p.stack h)
  ranged_after (LocalSet x) open_ones p low h = ranged_tail (bottom Mine) 1 p.next p.stack h
  ranged_after (GlobalSet x) open_ones p low h = ranged_tail (bottom Mine) 1 p.next p.stack h
  ranged_after Drop open_ones p low h = ranged_tail (bottom Mine) 1 p.next p.stack h
  ranged_after (BrIf l) open_ones p low h = ranged_tail (bottom Mine) 1 p.next p.stack h
  ranged_after (Call f) open_ones p low h =
      let called = (shape tree) f in
      ranged_reads (bottom Mine) (p.next + called.results) called.results p.next (drop called.params p.stack) low (omega arith)
      (ranged_later (bottom Mine) p.next (p.next + called.results) (drop called.params p.stack) (omega arith) (ranged_tail (bottom Mine) called.params p.next p.stack h))
  ranged_after (CallIndirect i) open_ones p low h =
      let from = p.next + length (Mine.slots i) in
      let count = (Mine.wanted i).results in
      let rest = drop (Mine.wanted i).params (drop 1 p.stack) in
      ranged_reads (bottom Mine) (from + count) count from rest (omega (arith, low)) (omega arith)
      (ranged_later (bottom Mine) p.next (from + count) rest (omega arith) (ranged_tail (bottom Mine) (Mine.wanted i).params p.next (drop 1 p.stack) (ranged_tail (bottom Mine) 1 p.next p.stack h)))
  ranged_after item open_ones p low h = h

  singles_length : (depth first : ℕ) (operands : List Operand) → length (all_of (singles (moves depth first operands))) ≡ length operands
  singles_length depth first [] = refl
  singles_length depth first (a ∷ operands) = ap suc (singles_length depth (suc first) operands)

  -- so many moves, each a piece
  singles_good : (depth position first next : ℕ) (operands : List Operand) → depth ≤ 6 → AllAt Begins position (singles (moves depth first operands)) → B (position + length operands) → next ≤ Mine.limit → Ops next operands
      → ((x : ℕ) → first ≤ x → x < first + length operands → Writes tree linked number B x) → AllAt LawfulPieceAt position (singles (moves depth first operands))
  singles_good depth position first next [] small h ends le ranged writes = tt
  singles_good depth position first next (a ∷ operands) small h ends le ranged writes =
      let one : position + 1 ≡ suc position = omega arith in
      let there : position + suc (length operands) ≡ position + 1 + length operands = omega arith in
      let rest = singles_good depth (position + 1) (suc first) next operands small h.1 (subst B there ends) le ranged.1 (λ x above below. writes x (omega (arith, above)) (omega (arith, below))) in
      let next_begins = starts (position + 1) (singles (moves depth (suc first) operands)) h.1 (subst B (there ∙ ap (λ n. position + 1 + n) (sym (singles_length depth (suc first) operands))) ends) in (
        move_good tree linked number B function exists is position depth first a small (readable tree linked number B next a le ranged.0) (writes first (omega arith) (omega arith)) (subst B one next_begins),
        rest,
      )

  abbrev Both : List Target → Body → Point → Type 0
  Both open_ones body p = AllAt LawfulPieceAt p.position (Pieces open_ones body p) × StackIn (End open_ones body p)

  -- a part with its end, and the pieces that stand behind it
  module _ (open_ones : List Target) (t : Target) (inner : Body) (q : Point) (depth : ℕ) (rest : List (List Command)) where
    abbrev w : Reached
    w = End (t ∷ open_ones) inner q

    abbrev part_pieces : List (List Command)
    part_pieces = Pieces (t ∷ open_ones) inner q ++ (closed_pieces depth t w ++ rest)

    abbrev end : ℕ
    end = q.position + (Size_of (t ∷ open_ones) inner).size

    reached : ReachedAs (blocks tree) (shape tree) number (Size_of (t ∷ open_ones) inner) q.position w
    reached = (sizes (blocks tree) (shape tree) number (t ∷ open_ones) inner q).reached

    parted : (to : ℕ) → to ≡ q.position + closed_size t.arity (Size_of (t ∷ open_ones) inner) → AllAt Begins q.position part_pieces → AllAt Begins q.position (Pieces (t ∷ open_ones) inner q) × EndsIn w × AllAt Begins to rest
    parted to there h =
        let others = all_at_back Begins q.position end (Pieces (t ∷ open_ones) inner q) (closed_pieces depth t w ++ rest) (omega (arith, pieces_length (t ∷ open_ones) inner q)) h in (
          all_at_front Begins q.position (Pieces (t ∷ open_ones) inner q) (closed_pieces depth t w ++ rest) h,
          closed_ends depth t w (Size_of (t ∷ open_ones) inner) q.position reached (all_at_front Begins end (closed_pieces depth t w) rest others),
          all_at_back Begins end to (closed_pieces depth t w) rest (omega (arith, there, closed_pieces_length depth t w (Size_of (t ∷ open_ones) inner) q.position reached)) others,
        )

    part_good : (to : ℕ) → to ≡ q.position + closed_size t.arity (Size_of (t ∷ open_ones) inner) → depth ≤ 6 → Ready tree linked number B t → next_in w ≤ Mine.limit → Both (t ∷ open_ones) inner q → AllAt LawfulPieceAt to rest
        → AllAt LawfulPieceAt q.position part_pieces
    part_good to there small ready le good others =
        all_at_both LawfulPieceAt q.position end (Pieces (t ∷ open_ones) inner q) (closed_pieces depth t w ++ rest) (omega (arith, pieces_length (t ∷ open_ones) inner q)) good.0
        (all_at_both LawfulPieceAt end to (closed_pieces depth t w) rest (omega (arith, there, closed_pieces_length depth t w (Size_of (t ∷ open_ones) inner) q.position reached))
        (closed_goods depth t w (Size_of (t ∷ open_ones) inner) q.position small reached good.1 le ready) others)

  pub bodies : (body : Body) (open_ones : List Target) (p : Point) → EachIn (Sound (context tree is.type function)) body → AllReady tree linked number B open_ones → Ops p.next p.stack → bottom Mine ≤ p.next
      → p.next + (Size_of open_ones body).new ≤ Mine.limit → AllAt Begins p.position (Pieces open_ones body p) → EndsIn (End open_ones body p) → Both open_ones body p
  bodies done open_ones p sound ready ranged low room h ends = (tt, ranged)
  bodies (leave item body) open_ones p sound ready ranged low room h ends =
      ((leaving_good item open_ones p ready ranged low (omega (arith, room)) (omega (arith, left_next_is (blocks tree) (shape tree) number item p.next, room)), tt), tt)
  bodies (step item body) open_ones p sound ready ranged low room h ends =
      let t = template (shape tree) number open_ones item p in
      let q = after (shape tree) number open_ones item p in
      let there : p.position + length t ≡ q.position
      = ap (λ n. p.position + n) (template_length (blocks tree) (shape tree) number open_ones item p) ∙ sym (after_position (blocks tree) (shape tree) number open_ones item p) in
      let next = after_next (blocks tree) (shape tree) number open_ones item p in
      let later = subst (λ n. AllAt Begins n (Pieces open_ones body q)) there h.1 in
      let rest = bodies body open_ones q sound.1 ready (ranged_after item open_ones p low ranged) (omega (arith, low, next)) (omega (arith, next, room)) later ends in (
        (
          template_good tree linked number B function exists is item open_ones p sound.0 ready ranged low (omega (arith, room)) (omega (arith, next, room)) (begins open_ones body q later ends),
          subst (λ n. AllAt LawfulPieceAt n (Pieces open_ones body q)) (sym there) rest.0,
        ),
        rest.1,
      )
  bodies (block r inner body) open_ones p sound ready ranged low room h ends =
      let n = (blocks tree r).params in
      let m = (blocks tree r).results in
      let t = block_target (blocks tree) (shape tree) number open_ones r p inner in
      let q = block_point (blocks tree) (shape tree) number open_ones r p in
      let w = End (t ∷ open_ones) inner q in
      let s = sizes (blocks tree) (shape tree) number (t ∷ open_ones) inner q in
      let depth = mark_of (t ∷ open_ones) in
      let u = behind t (next_in w) in
      let one : p.position + 1 ≡ suc p.position = omega arith in
      let r_pieces = Pieces open_ones body u in
      let those = part_pieces open_ones t inner q depth r_pieces in
      let h = parted open_ones t inner q depth r_pieces u.position (omega arith) (subst (λ k. AllAt Begins k those) one h.1) in
      let behind_it = begins open_ones body u h.2 ends in
      let t_ready : Ready tree linked number B t = record { lands = behind_it; ends = behind_it; low_to = low; high_to = omega (arith, room); low = low; high = omega (arith, room) } in
      let i = bodies inner (t ∷ open_ones) q sound.0 (t_ready, ready) (ranged_later (bottom Mine) p.next (p.next + m) (take n p.stack) (omega arith) (ranged_front (bottom Mine) n p.next p.stack ranged)) (omega (arith, low)) (omega (arith, room)) h.0 h.1 in
      let below = ranged_tail (bottom Mine) n p.next p.stack ranged in
      let stack = ranged_reads (bottom Mine) (next_in w) m p.next (drop n p.stack) low (omega (arith, s.new)) (ranged_later (bottom Mine) p.next (next_in w) (drop n p.stack) (omega (arith, s.new)) below) in
      let rest = bodies body open_ones u sound.1 ready stack (omega (arith, low, s.new)) (omega (arith, s.new, room)) h.2 ends in (
        (
          one_good tree linked number B function exists is p.position (jump_to (suc p.position)) (jump_simple tree linked number B p.position 1 p.position (suc p.position) (inr (inl (begins (t ∷ open_ones) inner q h.0 h.1)))),
          subst (λ k. AllAt LawfulPieceAt k those) (sym one)
              (part_good open_ones t inner q depth r_pieces u.position (omega arith) (mark_small (t ∷ open_ones)) t_ready (omega (arith, s.new, room)) i rest.0),
        ),
        rest.1,
      )
  bodies (loop r inner body) open_ones p sound ready ranged low room h ends =
      let n = (blocks tree r).params in
      let m = (blocks tree r).results in
      let start = shift n p.position in
      let t = loop_target (blocks tree) (shape tree) number open_ones r p inner in
      let q = loop_point (blocks tree) (shape tree) number open_ones r p in
      let w = End (t ∷ open_ones) inner q in
      let s = sizes (blocks tree) (shape tree) number (t ∷ open_ones) inner q in
      let depth = mark_of (t ∷ open_ones) in
      let u = behind t (next_in w) in
      let there : start ≡ p.position + n = shift_is n p.position in
      let ops = reverse (pad n p.stack) in
      let ops_long = padded_length n p.stack in
      let ms = singles (moves (mark_of open_ones) p.next ops) in
      let jump = jump_to (suc start) ∷ [] in
      let r_pieces = Pieces open_ones body u in
      let those = part_pieces open_ones t inner q depth r_pieces in
      let one : start + 1 ≡ suc start = omega arith in
      let ms_long : length (all_of ms) ≡ n = singles_length (mark_of open_ones) p.next ops ∙ ops_long in
      let m_begins = all_at_front Begins p.position ms (jump ∷ those) h in
      let from_jump = all_at_back Begins p.position start ms (jump ∷ those) (omega (arith, ms_long, there)) h in
      let h = parted open_ones t inner q depth r_pieces u.position (omega arith) (subst (λ k. AllAt Begins k those) one from_jump.1) in
      let behind_it = begins open_ones body u h.2 ends in
      let t_ready : Ready tree linked number B t = record { lands = from_jump.0; ends = behind_it; low_to = low; high_to = omega (arith, room); low = omega (arith, low); high = omega (arith, room) } in
      let i = bodies inner (t ∷ open_ones) q sound.0 (t_ready, ready) (ranged_new (bottom Mine) (p.next + n + m) n p.next low (omega arith)) (omega (arith, low)) (omega (arith, room)) h.0 h.1 in
      let below = ranged_tail (bottom Mine) n p.next p.stack ranged in
      let stack = ranged_reads (bottom Mine) (next_in w) m (p.next + n) (drop n p.stack) (omega (arith, low)) (omega (arith, s.new)) (ranged_later (bottom Mine) p.next (next_in w) (drop n p.stack) (omega (arith, s.new)) below) in
      let rest = bodies body open_ones u sound.1 ready stack (omega (arith, low, s.new)) (omega (arith, s.new, room)) h.2 ends in
      let m_good = singles_good (mark_of open_ones) p.position p.next p.next ops (mark_small open_ones) m_begins (let same : start ≡ p.position + length ops = omega (arith, there, ops_long) in subst B same from_jump.0) (omega (arith, room))
      (ranged_pad (bottom Mine) p.next n p.stack ranged) (λ x above under. inl (new_local tree linked number B x (omega (arith, low, above)) (omega (arith, under, ops_long, room)))) in (
        all_at_both LawfulPieceAt p.position start ms (jump ∷ those) (omega (arith, ms_long, there)) m_good (
          one_good tree linked number B function exists is start (jump_to (suc start)) (jump_simple tree linked number B start 1 start (suc start) (inr (inl (begins (t ∷ open_ones) inner q h.0 h.1)))),
          subst (λ k. AllAt LawfulPieceAt k those) (sym one)
              (part_good open_ones t inner q depth r_pieces u.position (omega arith) (mark_small (t ∷ open_ones)) t_ready (omega (arith, s.new, room)) i rest.0),
        ),
        rest.1,
      )
  bodies (choice r first other second body) open_ones p sound ready ranged low room h ends =
      let n = (blocks tree r).params in
      let m = (blocks tree r).results in
      let stack = drop 1 p.stack in
      let t = if_target (blocks tree) (shape tree) number open_ones r p first second in
      let t' = as_whole t in
      let q = then_point (blocks tree) (shape tree) number open_ones r p in
      let w = End (t ∷ open_ones) first q in
      let s = sizes (blocks tree) (shape tree) number (t ∷ open_ones) first q in
      let q' = else_point (blocks tree) (shape tree) number open_ones r p first w in
      let v = End (t' ∷ open_ones) second q' in
      let s' = sizes (blocks tree) (shape tree) number (t' ∷ open_ones) second q' in
      let depth = mark_of open_ones in
      let u = behind t (next_in v) in
      let one : p.position + 1 ≡ suc p.position = omega arith in
      let r_pieces = Pieces open_ones body u in
      let back = part_pieces open_ones t' second q' depth r_pieces in
      let those = part_pieces open_ones t first q depth back in
      let g = parted open_ones t first q depth back q'.position (omega arith) (subst (λ k. AllAt Begins k those) one h.1) in
      let h = parted open_ones t' second q' depth r_pieces u.position (omega arith) g.2 in
      let behind_it = begins open_ones body u h.2 ends in
      let t_ready : Ready tree linked number B t = record { lands = behind_it; ends = behind_it; low_to = low; high_to = omega (arith, room); low = low; high = omega (arith, room) } in
      let t_ready' : Ready tree linked number B t' = record { lands = behind_it; ends = behind_it; low_to = low; high_to = omega (arith, room); low = low; high = omega (arith, room) } in
      let above = ranged_tail (bottom Mine) 1 p.next p.stack ranged in
      let front = ranged_front (bottom Mine) n p.next stack above in
      let below = ranged_tail (bottom Mine) n p.next stack above in
      let i = bodies first (t ∷ open_ones) q sound.0 (t_ready, ready) (ranged_later (bottom Mine) p.next (p.next + m) q.stack (omega arith) front) (omega (arith, low)) (omega (arith, room)) g.0 g.1 in
      let j = bodies second (t' ∷ open_ones) q' sound.1 (t_ready', ready) (ranged_later (bottom Mine) p.next (next_in w) q.stack (omega (arith, s.new)) front) (omega (arith, low, s.new)) (omega (arith, s.new, room)) h.0 h.1 in
      let left = ranged_reads (bottom Mine) (next_in v) m p.next (drop n stack) low (omega (arith, s.new, s'.new)) (ranged_later (bottom Mine) p.next (next_in v) (drop n stack) (omega (arith, s.new, s'.new)) below) in
      let rest = bodies body open_ones u sound.2 ready left (omega (arith, low, s.new, s'.new)) (omega (arith, s.new, s'.new, room)) h.2 ends in (
        (
          one_good tree linked number B function exists is p.position (test_of (top p.stack) q.position q'.position)
              (test_simple tree linked number B p.position 1 p.position (top p.stack) q.position q'.position (readable tree linked number B p.next (top p.stack) (omega (arith, room)) (ranged_top (bottom Mine) p.next p.stack ranged))
              (inr (inl (begins (t ∷ open_ones) first q g.0 g.1))) (inr (inl (begins (t' ∷ open_ones) second q' h.0 h.1)))),
          subst (λ k. AllAt LawfulPieceAt k those) (sym one)
              (part_good open_ones t first q depth back q'.position (omega arith) (mark_small open_ones) t_ready (omega (arith, s.new, room)) i
              (part_good open_ones t' second q' depth r_pieces u.position (omega arith) (mark_small open_ones) t_ready' (omega (arith, s.new, s'.new, room)) j rest.0)),
        ),
        rest.1,
      )
