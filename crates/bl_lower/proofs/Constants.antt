-- Constants of lowered programs are numbers of 64 bits.
use Rattle.std.proofs.Common.{◌≡◌, ℕ, zero, suc, ◌+◌, ◌*◌, ◌^◌, ◌<◌, List, [], ◌∷◌, ◌++◌, length, map, take, drop, reverse, replicate, append-nil, Option, Some, None, slice_get, refl, sym, subst, arith, length-append}
use Rattle.std.specs.List.{All}
use Rattle.std.proofs.lemmas.List.Elements.{All-cons, All-drop, All-head, All-nil, All-replicate, All-tail, All-take}
use Rattle.bl_base.proofs.Lists.{all_get}
use Rattle.bl_base.specs.Trap.{kinds}
use Rattle.bl_base.specs.declared.trap.Trap.{Trap as TrapKind}
use Rattle.bl_ops.specs.OperatorTable.{row_operands, row_of}
use Rattle.bl_ops.specs.declared.op.Op.{Op}
use Rattle.bl_ops.specs.declared.op.Op.TheVariants.{I32DivS, I64DivS}
use Rattle.bl_ops.proofs.AccessLemmas.{width_small}
use Rattle.bl_wasm.specs.Linked.{HasImmediates, IsFunction, IsLinked, IsMemory, context}
use Rattle.bl_wasm.specs.declared.instruction.Instr.{Instr}
use Rattle.bl_wasm.specs.declared.instruction.Instr.TheVariants.{Br, BrIf, BrTable, Return, Call, CallIndirect, Drop, GlobalGet, GlobalSet, I32Const, I64Const, Integer, Load, LocalGet, LocalSet, LocalTee, MemoryGrow, MemorySize, Select, Store}
use Rattle.bl_wasm.specs.declared.linked.Function.{Function}
use Rattle.bl_wasm.specs.declared.linked.Memory.{Memory}
use Rattle.bl_wasm.specs.declared.linked.Tree.{Tree}
use Rattle.bl_wasm.specs.declared.types.BlockType.{BlockType}
use Rattle.bl_wasm.proofs.LeadsLemmas.{typing_nests}
use Rattle.bl_wasm.proofs.OpenConstructLemmas.{closes}
use Rattle.bl_program.specs.declared.command.Command.{Command}
use Rattle.bl_program.specs.declared.command.Command.TheVariants as command
use Rattle.bl_program.specs.declared.command.Operand.{Operand}
use Rattle.bl_program.specs.declared.command.Operand.TheVariants.{Const}
use Rattle.bl_program.specs.Widths.{HasConstants, HasWidth}
use Rattle.bl_access.specs.Templates.{chain_from, jump_to, shift, test_of}
use Rattle.bl_emit.specs.Shapes.{Counts, Shape, Slot, armed, bottom, result_reads, mistyped, uninitialized}
use Rattle.bl_emit.specs.Constructs.{Point, Target, again, args, as_whole, behind, branched, first_to, inside, mark_of, moves, outs, pad, part, point, reads, start_of, taken, top, whole}
use Rattle.bl_emit.specs.Items.{Check, after, arms, calls_in, check_of, checks, free, hits_from, leaving, left, nonzero, quotient, results_in, right, slot_arm, slot_arms, slot_head, template, to_label}
use Rattle.bl_emit.specs.LoweredBodies.{Body, Lowered, Reached, block, choice, closed, closed_size, done, leave, loop, low, next_in, off, on, size_in, step, takes_of}
use Rattle.bl_emit.specs.Numbers.{blocks, body_of, reserve_in, shape, start_at}
use Rattle.bl_lower.specs.Trees.{last, low_body, low_function, low_functions, low_tree}
use Rattle.bl_lower.proofs.NestedItems.{nested_is}
use Rattle.bl_lower.proofs.TypedItems.{Each, EachIn, each_in}
use Rattle.bl_lower.proofs.Typings.{nested_body}
use Rattle.bl_lower.proofs.OperandOrder.{reverse_step}

zero_fits : 0 < 2 ^ 64
zero_fits = omega arith

-- ---- operands

abbrev Wide : List Operand → Type 0
Wide operands = All HasWidth operands

wide_top : (stack : List Operand) → Wide stack → HasWidth (top stack)
wide_top [] h = zero_fits
wide_top (a ∷ stack) h = All-head HasWidth a stack h

wide_left : (n : ℕ) (stack : List Operand) → Wide stack → HasWidth (left n stack)
wide_left zero stack h = wide_top stack h
wide_left (suc zero) stack h = wide_top stack h
wide_left (suc (suc n)) stack h = wide_top (drop 1 stack) (All-drop HasWidth 1 stack h)

wide_right : (n : ℕ) (stack : List Operand) → Wide stack → HasWidth (right n stack)
wide_right zero stack h = zero_fits
wide_right (suc zero) stack h = zero_fits
wide_right (suc (suc n)) stack h = wide_top stack h

wide_reads : (first count : ℕ) → Wide (reads first count)
wide_reads first zero = All-nil HasWidth
wide_reads first (suc count) = All-cons HasWidth _ (reads (suc first) count) tt (wide_reads (suc first) count)

wide_results : (mine : Shape) (index count : ℕ) → Wide (result_reads mine index count)
wide_results mine index zero = All-nil HasWidth
wide_results mine index (suc count) = All-cons HasWidth _ (result_reads mine (suc index) count) tt (wide_results mine (suc index) count)

onto_reversed : (xs acc : List Operand) → Wide xs → Wide acc → Wide (reverse xs ++ acc)
onto_reversed [] acc h g = g
onto_reversed (x ∷ xs) acc h g =
    subst Wide (sym (reverse_step x xs acc)) (onto_reversed xs (x ∷ acc) (All-tail HasWidth x xs h) (All-cons HasWidth x acc (All-head HasWidth x xs h) g))

reversed : (xs : List Operand) → Wide xs → Wide (reverse xs)
reversed xs h = subst Wide (append-nil (reverse xs)) (onto_reversed xs [] h (All-nil HasWidth))

wide_pad : (n : ℕ) (stack : List Operand) → Wide stack → Wide (pad n stack)
wide_pad zero stack h = All-nil HasWidth
wide_pad (suc n) [] h = All-cons HasWidth (Const 0) (pad n []) zero_fits (wide_pad n [] h)
wide_pad (suc n) (a ∷ stack) h = All-cons HasWidth a (pad n stack) (All-head HasWidth a stack h) (wide_pad n stack (All-tail HasWidth a stack h))

padded : (n : ℕ) (stack : List Operand) → Wide stack → Wide (reverse (pad n stack))
padded n stack h = reversed (pad n stack) (wide_pad n stack h)

-- ---- commands: a list of fewer than 2^64 has such constants, since those that number tests are below its length

abbrev Fine : List Command → Type 0
Fine [] = Unit {0}
Fine (c ∷ commands) = HasConstants c × Fine commands

abbrev Small : List Command → Type 0
Small commands = length commands < 2 ^ 64 → Fine commands

fine_append : (a b : List Command) → Fine a → Fine b → Fine (a ++ b)
fine_append [] b h k = k
fine_append (c ∷ a) b h k = (h.0, fine_append a b h.1 k)

small_append : (a b : List Command) → Small a → Small b → Small (a ++ b)
small_append a b h k lt = fine_append a b (h (omega (arith, lt, length-append a b))) (k (omega (arith, lt, length-append a b)))

fine_moves : (depth first : ℕ) (operands : List Operand) → Wide operands → Fine (moves depth first operands)
fine_moves depth first [] h = tt
fine_moves depth first (a ∷ operands) h = ((All-head HasWidth a operands h, zero_fits, zero_fits), fine_moves depth (suc first) operands (All-tail HasWidth a operands h))

fine_args : (depth f index : ℕ) (operands : List Operand) → Wide operands → Fine (args depth f index operands)
fine_args depth f index [] h = tt
fine_args depth f index (a ∷ operands) h = (All-head HasWidth a operands h, fine_args depth f (suc index) operands (All-tail HasWidth a operands h))

fine_outs : (depth index : ℕ) (operands : List Operand) → Wide operands → Fine (outs depth index operands)
fine_outs depth index [] h = (tt, tt)
fine_outs depth index (a ∷ operands) h = (All-head HasWidth a operands h, fine_outs depth (suc index) operands (All-tail HasWidth a operands h))

fine_moved : (depth first to : ℕ) (operands : List Operand) → Wide operands → Fine (moves depth first operands ++ jump_to to ∷ [])
fine_moved depth first to operands h = fine_append (moves depth first operands) (jump_to to ∷ []) (fine_moves depth first operands h) (tt, tt)

fine_chain : (index : Operand) (x number : ℕ) (arms : List ℕ) (last at_ depth : ℕ) → HasWidth index → number + length (chain_from index x number arms last at_ depth) < 2 ^ 64 → Fine (chain_from index x number arms last at_ depth)
fine_chain index x number [] last at_ depth wide lt = tt
fine_chain index x number (arm ∷ arms) last at_ depth wide lt =
    ((wide, omega (arith, lt), zero_fits), (tt, fine_chain index (suc x) (suc number) arms last (suc (suc at_)) depth wide (omega (arith, lt))))

small_chain : (index : Operand) (x : ℕ) (arms : List ℕ) (last at_ depth : ℕ) → HasWidth index → Small (chain_from index x 0 arms last at_ depth)
small_chain index x arms last at_ depth wide lt = fine_chain index x 0 arms last at_ depth wide (omega (arith, lt))

abbrev CheckFits : Check → Type 0
CheckFits free = Unit {0}
CheckFits (nonzero eqz) = Unit {0}
CheckFits (quotient eqz eq least ones) = (least < 2 ^ 64) × (ones < 2 ^ 64)

check_fits : (o : Op) → CheckFits (check_of o)
check_fits o = elim o as (λ k. CheckFits (check_of k)) [ I32DivS ↦ (omega arith, omega arith) | I64DivS ↦ (omega arith, omega arith) | _ ↦ tt ]

fine_checks : (depth : ℕ) (check : Check) (position x : ℕ) (a b : Operand) → CheckFits check → HasWidth a → HasWidth b → Fine (checks depth check position x a b)
fine_checks depth free position x a b fits wa wb = tt
fine_checks depth (nonzero eqz) position x a b fits wa wb = ((wb, zero_fits, zero_fits), (tt, tt))
fine_checks depth (quotient eqz eq least ones) position x a b fits wa wb =
    ((wb, zero_fits, zero_fits), (tt, ((wa, fits.0, zero_fits), ((wb, fits.1, zero_fits), ((tt, tt, zero_fits), (tt, tt))))))

fine_branch : (depth results : ℕ) (o : Option Target) (stack : List Operand) → Wide stack → Fine (branched depth results o stack)
fine_branch depth results None stack h = fine_outs depth 0 (reverse (pad results stack)) (padded results stack h)
fine_branch depth results (Some t) stack h = fine_moved depth (first_to t) (start_of t.kind t.end) (reverse (pad (taken t) stack)) (padded (taken t) stack h)

-- the operands that are left at an end
abbrev Ends : Reached → Type 0
Ends (on q) = Wide q.stack
Ends (off next) = Unit {0}

module _ (shapes : ℕ → Shape) (number : ℕ) (room : (shapes number).reserve < 2 ^ 64) where
  fine_label : (open_ones : List Target) (stack : List Operand) (l : ℕ) → Wide stack → Fine (to_label shapes number open_ones stack l)
  fine_label open_ones stack l h = fine_branch (mark_of open_ones) (results_in shapes number) (slice_get open_ones l) stack h

  fine_arms : (open_ones : List Target) (stack : List Operand) (ls : List ℕ) → Wide stack → Fine (arms shapes number open_ones stack ls)
  fine_arms open_ones stack [] h = tt
  fine_arms open_ones stack (l ∷ ls) h =
      fine_append (to_label shapes number open_ones stack l) (arms shapes number open_ones stack ls) (fine_label open_ones stack l h) (fine_arms open_ones stack ls h)

  fine_slot_arm : (depth : ℕ) (stack : List Operand) (first behind_it : ℕ) (slot : Slot) → Wide stack → Fine (slot_arm shapes number depth stack first behind_it slot)
  fine_slot_arm depth stack first behind_it (armed f) h =
      fine_append (args depth f 0 (reverse (pad (shapes f).params stack))) _ (fine_args depth f 0 (reverse (pad (shapes f).params stack)) (padded (shapes f).params stack h))
      (tt, fine_moved depth first behind_it (result_reads (shapes f) 0 (shapes f).results) (wide_results (shapes f) 0 (shapes f).results))
  fine_slot_arm depth stack first behind_it uninitialized h = tt
  fine_slot_arm depth stack first behind_it mistyped h = tt

  fine_slot_arms : (depth : ℕ) (stack : List Operand) (first behind_it : ℕ) (those : List Slot) → Wide stack → Fine (slot_arms shapes number depth stack first behind_it those)
  fine_slot_arms depth stack first behind_it [] h = tt
  fine_slot_arms depth stack first behind_it (slot ∷ those) h =
      fine_append (slot_arm shapes number depth stack first behind_it slot) (slot_arms shapes number depth stack first behind_it those)
      (fine_slot_arm depth stack first behind_it slot h) (fine_slot_arms depth stack first behind_it those h)

  small_slot_head : (depth : ℕ) (index : Operand) (position x : ℕ) (those : List Slot) → HasWidth index → Small (slot_head shapes number depth index position x those)
  small_slot_head depth index position x [] h = λ lt. (tt, tt)
  small_slot_head depth index position x (slot ∷ those) h = small_chain index x (hits_from (calls_in shapes number) (position + 2 * suc (length those)) (slot ∷ those)) 4 position depth h

  small_template : (open_ones : List Target) (item : Instr) (p : Point) → HasImmediates item → Wide p.stack → Small (template shapes number open_ones item p)
  small_template open_ones item p = elim item as (λ k. HasImmediates k → Wide p.stack → Small (template shapes number open_ones k p)) [
    | I32Const n ↦ λ is h lt. ((omega (arith, is), zero_fits, zero_fits), tt)
    | I64Const n ↦ λ is h lt. ((is, zero_fits, zero_fits), tt)
    | LocalGet x ↦ λ is h lt. ((tt, zero_fits, zero_fits), tt)
    | LocalSet x ↦ λ is h lt. ((wide_top p.stack h, zero_fits, zero_fits), tt)
    | LocalTee x ↦ λ is h lt. ((wide_top p.stack h, zero_fits, zero_fits), tt)
    | GlobalGet x ↦ λ is h lt. ((tt, zero_fits, zero_fits), tt)
    | GlobalSet x ↦ λ is h lt. ((wide_top p.stack h, zero_fits, zero_fits), tt)
    | MemorySize ↦ λ is h lt. ((tt, zero_fits, zero_fits), tt)
    | Integer o ↦ λ is h lt.
        let a = wide_left (row_operands (row_of o)) p.stack h in
        let b = wide_right (row_operands (row_of o)) p.stack h in
        fine_append (checks (mark_of open_ones) (check_of o) p.position p.next _ _) _ (fine_checks (mark_of open_ones) (check_of o) p.position p.next _ _ (check_fits o) a b) ((a, b, zero_fits), tt)
    | Select ↦ λ is h lt.
        let one = All-drop HasWidth 1 p.stack h in
        ((wide_top (drop 1 (drop 1 p.stack)) (All-drop HasWidth 1 (drop 1 p.stack) one), wide_top (drop 1 p.stack) one, wide_top p.stack h), tt)
    | Load kind argument ↦ λ is h lt.
        let a = wide_top p.stack h in
        ((a, tt, omega (arith, is, width_small kind)), (tt, (a, tt)))
    | Store kind argument ↦ λ is h lt.
        let a = wide_top (drop 1 p.stack) (All-drop HasWidth 1 p.stack h) in
        ((a, tt, omega (arith, is, width_small kind)), (tt, ((a, wide_top p.stack h), tt)))
    | MemoryGrow ↦ λ is h lt.
        let a = wide_top p.stack h in
        ((room, tt, zero_fits), ((a, tt, zero_fits), (tt, ((tt, zero_fits, zero_fits), ((tt, a, zero_fits), (tt, ((omega arith, zero_fits, zero_fits), tt)))))))
    | BrIf l ↦ λ is h lt. (wide_top p.stack h, fine_label open_ones (drop 1 p.stack) l (All-drop HasWidth 1 p.stack h))
    | Call f ↦ λ is h lt. fine_append (args (mark_of open_ones) f 0 (reverse (pad (shapes f).params p.stack))) _ (fine_args (mark_of open_ones) f 0 (reverse (pad (shapes f).params p.stack)) (padded (shapes f).params p.stack h))
        (tt, fine_moves (mark_of open_ones) p.next (result_reads (shapes f) 0 (shapes f).results) (wide_results (shapes f) 0 (shapes f).results))
    | CallIndirect i ↦ λ is h. small_append (slot_head shapes number (mark_of open_ones) (top p.stack) p.position p.next ((shapes number).slots i)) _
        (small_slot_head (mark_of open_ones) (top p.stack) p.position p.next ((shapes number).slots i) (wide_top p.stack h))
        (λ lt. fine_slot_arms (mark_of open_ones) (drop 1 p.stack) _ _ ((shapes number).slots i) (All-drop HasWidth 1 p.stack h))
    | _ ↦ λ is h lt. (tt, tt)
  ]

  small_leaving : (open_ones : List Target) (item : Instr) (p : Point) → Wide p.stack → Small (leaving shapes number open_ones item p)
  small_leaving open_ones item p h = elim item as (λ k. Small (leaving shapes number open_ones k p)) [
    | Br l ↦ λ lt. fine_label open_ones p.stack l h
    | BrTable default ls ↦ small_append _ _ (small_chain (top p.stack) p.next _ _ p.position (mark_of open_ones) (wide_top p.stack h))
        (λ lt. fine_append (to_label shapes number open_ones (drop 1 p.stack) default) (arms shapes number open_ones (drop 1 p.stack) ls)
        (fine_label open_ones (drop 1 p.stack) default (All-drop HasWidth 1 p.stack h)) (fine_arms open_ones (drop 1 p.stack) ls (All-drop HasWidth 1 p.stack h)))
    | Return ↦ λ lt. fine_branch (mark_of open_ones) (results_in shapes number) None p.stack h
    | _ ↦ λ lt. (tt, tt)
  ]

  -- ---- stacks

  one_more : (x : Operand) (stack : List Operand) → HasWidth x → Wide stack → Wide (x ∷ stack)
  one_more x stack = All-cons HasWidth x stack

  wide_after : (open_ones : List Target) (item : Instr) (p : Point) → Wide p.stack → Wide (after shapes number open_ones item p).stack
  wide_after open_ones item p h = elim item as (λ k. Wide (after shapes number open_ones k p).stack) [
    | I32Const n ↦ one_more _ p.stack tt h
    | I64Const n ↦ one_more _ p.stack tt h
    | LocalGet x ↦ one_more _ p.stack tt h
    | GlobalGet x ↦ one_more _ p.stack tt h
    | MemorySize ↦ one_more _ p.stack tt h
    | LocalSet x ↦ All-drop HasWidth 1 p.stack h
    | GlobalSet x ↦ All-drop HasWidth 1 p.stack h
    | Drop ↦ All-drop HasWidth 1 p.stack h
    | BrIf l ↦ All-drop HasWidth 1 p.stack h
    | Integer o ↦ one_more _ (drop (row_operands (row_of o)) p.stack) tt (All-drop HasWidth (row_operands (row_of o)) p.stack h)
    | Select ↦ one_more _ (drop 1 (drop 1 (drop 1 p.stack))) tt (All-drop HasWidth 1 (drop 1 (drop 1 p.stack)) (All-drop HasWidth 1 (drop 1 p.stack) (All-drop HasWidth 1 p.stack h)))
    | Load kind argument ↦ one_more _ (drop 1 p.stack) tt (All-drop HasWidth 1 p.stack h)
    | MemoryGrow ↦ one_more _ (drop 1 p.stack) tt (All-drop HasWidth 1 p.stack h)
    | Store kind argument ↦ All-drop HasWidth 1 (drop 1 p.stack) (All-drop HasWidth 1 p.stack h)
    | Call f ↦ onto_reversed (reads p.next (shapes f).results) (drop (shapes f).params p.stack) (wide_reads p.next (shapes f).results) (All-drop HasWidth (shapes f).params p.stack h)
    | CallIndirect i ↦ onto_reversed _ (drop ((shapes number).wanted i).params (drop 1 p.stack)) (wide_reads _ ((shapes number).wanted i).results)
        (All-drop HasWidth ((shapes number).wanted i).params (drop 1 p.stack) (All-drop HasWidth 1 p.stack h))
    | _ ↦ h
  ]

  small_closed : (depth : ℕ) (t : Target) (reached : Reached) → Ends reached → Small (closed depth t reached)
  small_closed depth t (on q) h lt = fine_moved depth t.first t.end (reverse (pad t.arity q.stack)) (padded t.arity q.stack h)
  small_closed depth t (off next) h lt = tt

  wide_behind : (t : Target) (next : ℕ) → Wide t.below → Wide (behind t next).stack
  wide_behind t next h = onto_reversed (reads t.first t.arity) t.below (wide_reads t.first t.arity) h

  -- ---- bodies

  record Kept (lowered : Lowered) : Type 0 where
    commands : Small lowered.commands
    ends : Ends lowered.reached

  -- what opens a construct, its body with its end, and what stands behind it
  small_construct : (opening : List Command) (depth : ℕ) (t : Target) (within later : Lowered) → Small opening → Kept within → Kept later
      → Small (((opening ++ within.commands) ++ closed depth t within.reached) ++ later.commands)
  small_construct opening depth t within later h k l =
      small_append ((opening ++ within.commands) ++ closed depth t within.reached) later.commands
      (small_append (opening ++ within.commands) (closed depth t within.reached) (small_append opening within.commands h k.commands) (small_closed depth t within.reached k.ends)) l.commands

  module _ (kinds_of : BlockType → Counts) where
    abbrev lowered : List Target → Body → Point → Lowered
    lowered open_ones body p = low kinds_of shapes number open_ones body p

    kept_low : (open_ones : List Target) (body : Body) (p : Point) → EachIn HasImmediates body → Wide p.stack → Kept (lowered open_ones body p)
    kept_low open_ones done p is h = record { commands = λ lt. tt; ends = h }
    kept_low open_ones (leave item body) p is h = record { commands = small_leaving open_ones item p h; ends = tt }
    kept_low open_ones (step item body) p is h =
        let rest = kept_low open_ones body (after shapes number open_ones item p) is.1 (wide_after open_ones item p h) in
        record {
          commands = small_append (template shapes number open_ones item p) (lowered open_ones body (after shapes number open_ones item p)).commands (small_template open_ones item p is.0 h) rest.commands;
          ends = rest.ends;
        }
    kept_low open_ones (block r inner body) p is h =
        let n = (kinds_of r).params in
        let m = (kinds_of r).results in
        let i = size_in kinds_of shapes number (m ∷ takes_of open_ones) inner in
        let t = inside whole m (suc p.position + closed_size m i) (drop n p.stack) p.next in
        let q = point (suc p.position) (take n p.stack) (p.next + m) in
        let later = behind t (next_in (lowered (t ∷ open_ones) inner q).reached) in
        let rest = kept_low open_ones body later is.1 (wide_behind t (next_in (lowered (t ∷ open_ones) inner q).reached) (All-drop HasWidth n p.stack h)) in
        record {
          commands = small_construct (jump_to (suc p.position) ∷ []) (mark_of (t ∷ open_ones)) t (lowered (t ∷ open_ones) inner q) (lowered open_ones body later) (λ lt. (tt, tt))
              (kept_low (t ∷ open_ones) inner q is.0 (All-take HasWidth n p.stack h)) rest;
          ends = rest.ends;
        }
    kept_low open_ones (loop r inner body) p is h =
        let n = (kinds_of r).params in
        let m = (kinds_of r).results in
        let i = size_in kinds_of shapes number (n ∷ takes_of open_ones) inner in
        let start = shift n p.position in
        let t = inside (again start n p.next) m (suc start + closed_size m i) (drop n p.stack) (p.next + n) in
        let q = point (suc start) (reverse (reads p.next n)) (p.next + n + m) in
        let later = behind t (next_in (lowered (t ∷ open_ones) inner q).reached) in
        let rest = kept_low open_ones body later is.1 (wide_behind t (next_in (lowered (t ∷ open_ones) inner q).reached) (All-drop HasWidth n p.stack h)) in
        record {
          commands = small_construct (moves (mark_of open_ones) p.next (reverse (pad n p.stack)) ++ jump_to (suc start) ∷ []) (mark_of (t ∷ open_ones)) t (lowered (t ∷ open_ones) inner q) (lowered open_ones body later)
              (λ lt. fine_moved (mark_of open_ones) p.next (suc start) (reverse (pad n p.stack)) (padded n p.stack h))
              (kept_low (t ∷ open_ones) inner q is.0 (reversed (reads p.next n) (wide_reads p.next n))) rest;
          ends = rest.ends;
        }
    kept_low open_ones (choice r first other second body) p is h =
        let n = (kinds_of r).params in
        let m = (kinds_of r).results in
        let i = size_in kinds_of shapes number (m ∷ takes_of open_ones) first in
        let j = size_in kinds_of shapes number (m ∷ takes_of open_ones) second in
        let middle = suc p.position + closed_size m i in
        let below = All-drop HasWidth 1 p.stack h in
        let operands = take n (drop 1 p.stack) in
        let t = inside (part middle operands) m (middle + closed_size m j) (drop n (drop 1 p.stack)) p.next in
        let q = point (suc p.position) operands (p.next + m) in
        let one = kept_low (t ∷ open_ones) first q is.0 (All-take HasWidth n (drop 1 p.stack) below) in
        let o = point middle operands (next_in (lowered (t ∷ open_ones) first q).reached) in
        let two = kept_low (as_whole t ∷ open_ones) second o is.1 (All-take HasWidth n (drop 1 p.stack) below) in
        let others = lowered (as_whole t ∷ open_ones) second o in
        let later = behind t (next_in others.reached) in
        let rest = kept_low open_ones body later is.2 (wide_behind t (next_in others.reached) (All-drop HasWidth n (drop 1 p.stack) below)) in
        let ended = small_append others.commands (closed (mark_of open_ones) (as_whole t) others.reached) two.commands (small_closed (mark_of open_ones) (as_whole t) others.reached two.ends) in
        let test = test_of (top p.stack) (suc p.position) middle in
        let within = lowered (t ∷ open_ones) first q in
        record {
          commands = small_append (((test ∷ within.commands) ++ closed (mark_of open_ones) t within.reached) ++ (others.commands ++ closed (mark_of open_ones) (as_whole t) others.reached)) (lowered open_ones body later).commands
              (small_append ((test ∷ within.commands) ++ closed (mark_of open_ones) t within.reached) (others.commands ++ closed (mark_of open_ones) (as_whole t) others.reached)
              (small_append (test ∷ within.commands) (closed (mark_of open_ones) t within.reached) (λ lt. (wide_top p.stack h, one.commands (omega (arith, lt)))) (small_closed (mark_of open_ones) t within.reached one.ends)) ended) rest.commands;
          ends = rest.ends;
        }

-- ---- programs

small_last : (results : ℕ) (reached : Reached) → Ends reached → Small (last results reached)
small_last results (on q) h lt = fine_outs 0 0 (reverse (pad results q.stack)) (padded results q.stack h)
small_last results (off next) h lt = tt

reserve_small : (o : Option Memory) → ((memory : Memory) → o ≡ Some memory → memory.reserve < 2 ^ 64) → reserve_in o < 2 ^ 64
reserve_small None h = zero_fits
reserve_small (Some memory) h = h memory refl

all_items : (items : List Instr) → All HasImmediates items → Each HasImmediates items
all_items [] h = tt
all_items (item ∷ items) h = (All-head HasImmediates item items h, all_items items (All-tail HasImmediates item items h))

fine_traps : (these : List TrapKind) → Fine (map command.Trap these)
fine_traps [] = tt
fine_traps (kind ∷ these) = (tt, fine_traps these)

all_fine : (commands : List Command) → Fine commands → All HasConstants commands
all_fine [] h = All-nil HasConstants
all_fine (c ∷ commands) h = All-cons HasConstants c commands h.0 (all_fine commands h.1)

module _ (tree : Tree) (linked : IsLinked tree) where
  reserve_fits : (number : ℕ) → (shape tree number).reserve < 2 ^ 64
  reserve_fits number = reserve_small (slice_get tree.memories _) (λ memory e. let most = (all_get IsMemory tree.memories _ memory linked.memories e).most in omega (arith, most))

  immediates : (function : Function) → IsFunction tree function → EachIn HasImmediates (body_of tree function)
  immediates function is =
      (each_in HasImmediates (body_of tree function) [] (nested_body function.code.items)
      (subst (Each HasImmediates) (sym (nested_is function.code.items (closes function.code.items (typing_nests (context tree is.type function) function.code.items is.places is.typing)))) (all_items function.code.items is.immediates))).0

  small_function : (number : ℕ) (function : Function) → IsFunction tree function → Small (low_function tree number function)
  small_function number function is =
      let mine = shape tree number in
      let first = mine.first + mine.params + mine.results in
      let body = low_body tree number function in
      let kept = kept_low (shape tree) number (reserve_fits number) (blocks tree) [] (body_of tree function) (point (start_at tree number) [] (bottom mine)) (immediates function is) (All-nil HasWidth) in
      small_append (moves 0 first (replicate mine.locals (Const 0)) ++ jump_to (start_at tree number) ∷ []) (body.commands ++ last mine.results body.reached)
      (λ lt. fine_moved 0 first (start_at tree number) (replicate mine.locals (Const 0)) (All-replicate HasWidth mine.locals (Const 0) zero_fits))
      (small_append body.commands (last mine.results body.reached) kept.commands (small_last mine.results body.reached kept.ends))

  small_functions : (number : ℕ) (functions : List Function) → All (IsFunction tree) functions → Small (low_functions tree number functions)
  small_functions number [] h = λ lt. tt
  small_functions number (function ∷ functions) h =
      small_append (low_function tree number function) (low_functions tree (suc number) functions) (small_function number function (All-head (IsFunction tree) function functions h))
      (small_functions (suc number) functions (All-tail (IsFunction tree) function functions h))

  pub constants : length (low_tree tree).commands < 2 ^ 64 → All HasConstants (low_tree tree).commands
  constants few =
      all_fine (low_tree tree).commands
      (small_append (map command.Trap (take 7 kinds)) (low_functions tree 0 tree.functions) (λ lt. fine_traps (take 7 kinds)) (small_functions 0 tree.functions linked.functions) few)
