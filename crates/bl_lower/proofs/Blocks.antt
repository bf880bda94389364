-- Items that open, part and close constructs.
use Rattle.std.proofs.Common.{◌≡◌, ℕ, suc, ◌+◌, ◌<◌, ◌≤◌, List, [], ◌∷◌, ◌++◌, length, reverse, take, drop, Some, slice_get, refl, sym, ◌∙◌, subst, arith, length-append, ◌⊎◌, inl, inr}
use Rattle.std.specs.Prelude.{◌==◌, if◌then◌else◌}
use Rattle.std.proofs.lemmas.List.{reverse-reverse, length-reverse, take_at, drop_at}
use Rattle.bl_base.specs.Runs.{StepsTo}
use Rattle.bl_base.proofs.RunLemmas.{comes_then}
use Rattle.bl_wasm.specs.declared.instruction.Instr.{Instr}
use Rattle.bl_wasm.specs.declared.instruction.Instr.TheVariants.{Loop}
use Rattle.bl_wasm.specs.declared.types.BlockType.{BlockType}
use Rattle.bl_wasm.specs.declared.types.FuncType.{FuncType}
use Rattle.bl_wasm.specs.declared.linked.Tree.{Tree}
use Rattle.bl_reduce.specs.Configurations.{State, with_values}
use Rattle.bl_reduce.specs.Control.{items_behind_end, items_of_else, enter_with, enter_block, enter_loop, enter_if, reach_end, reach_else}
use Rattle.bl_base.proofs.Lists.{zip_reverse}
use Rattle.bl_access.specs.Templates.{test_of, jump_to, shift}
use Rattle.bl_program.specs.Steps.{Registers, Plain, depth}
use Rattle.bl_program.specs.declared.command.Operand.{Operand}
use Rattle.bl_program.specs.declared.command.Operand.TheVariants.{Var, Const}
use Rattle.bl_lower.proofs.CodeLayout.{HasAt, Fresh, AllUnder, floor, target_point, live, IsLaidOut, EndsAt, Brings}
use Rattle.bl_lower.proofs.Machine.{Program, plain_step}
use Rattle.bl_lower.proofs.MatchStates.{Holds, AllHold, Layout, Here}
use Rattle.bl_emit.specs.Constructs.{reads, moves, whole, again, part, mark_of, Target, as_whole, taken, first_to, behind, top, point, inside}
use Rattle.bl_emit.specs.Shapes.{bottom}
use Rattle.bl_lower.proofs.ConstructLayout.{Behind, ends_here, Second, seconds_here}
use Rattle.bl_lower.proofs.BranchSteps.{IsSmall}
use Rattle.bl_lower.proofs.Frames.{static_low, next_low, floor_is_above, store_kept, targets_later, locals_kept, callers_kept, Reaches, Then, popping}
use Rattle.bl_lower.proofs.StraightLineItems.{arrives, tests}
use Rattle.bl_lower.proofs.ConstructExits.{leaves_label, zip_take, zip_drop, reads_count, pad_is_take, taken_length}
use Rattle.bl_lower.proofs.PlainRuns.{Kept, at, does, moved, held_values, holds_value, all_later}

module _ (tree : Tree) (program : Program) (bound : ℕ) (layout : Layout program) (open_ones : List Target) where
  abbrev LaidWith : State → List Target → ℕ → List Operand → ℕ → List Instr → Type 0
  LaidWith state opened position operands next items = IsLaidOut program bound state.frame.number opened (live (point position operands next)) items

  -- a construct is entered with so many values
  entered : (used j : ℕ) (t : Target) (count position to label_next : ℕ) (continuation items : List Instr) (operands : List Operand) (next : ℕ) (state : State) (s : Plain) (r : Registers) → Here program bound open_ones operands next state s
      → Kept s.registers r (depth s) next 0 ⊎ Kept s.registers r (depth s) (first_to t) count → floor program bound state.frame.number open_ones ≤ first_to t → first_to t + taken t ≤ label_next → label_next ≤ (program.shape state.frame.number).limit
      → AllHold s.registers (depth s) (bottom (program.shape state.frame.number)) (first_to t) t.below (drop count state.frame.values)
      → IsLaidOut program bound state.frame.number open_ones (live (target_point t label_next)) continuation
      → first_to t ≤ t.first → t.first + t.arity ≤ to → to ≤ (program.shape state.frame.number).limit
      → (inside_operands : List Operand) → AllHold r (depth s) (bottom (program.shape state.frame.number)) to inside_operands (take count state.frame.values)
      → LaidWith state (t ∷ open_ones) position inside_operands to items → 1 ≤ j → used + j ≤ bound
      → StepsTo (plain_step program) j s (at position r s) → Reaches tree program bound used (enter_with (taken t) count continuation items state) s
  entered used j t count position to label_next continuation items operands next state s r h kept above reached label_limit below later order le limit inside_operands values laid one most way =
      arrives tree program bound layout used j (t ∷ open_ones) inside_operands to inner s (at position r s) one most way (record {
        store = store_kept program bound layout s.registers r s state.store (λ x lt. keeps 0 x (λ same. omega (arith, same))) h.store;
        frame_is = record {
          arity = h.frame_is.arity;
          size = h.frame_is.size;
          locals = locals_kept program bound layout s.registers r (depth s) state.frame.number state.frame.locals (λ x down. under x (omega (arith, down, deep, above))) h.frame_is.size h.frame_is.locals;
          labels = (
            record {
              arity = refl;
              next = label_next;
              order = order;
              reached = reached;
              limit = label_limit;
              laid = later;
              below = all_later s.registers r (depth s) low (first_to t) low (first_to t) t.below (drop count state.frame.values) (λ x up down. under x down) (omega arith) (omega arith) below;
              above = above;
            },
            targets_later program bound layout s.registers r (depth s) state.frame.number (first_to t) open_ones state.frame.labels (λ x up down. under x down) above h.frame_is.labels,
          );
          values = values;
          above = le;
          limit = limit;
        };
        callers = callers_kept program bound layout s.registers r state.frame.number state.callers s.chain (λ e x some le. keeps e x (λ same. omega (arith, same, le))) h.callers;
      }) laid
    where
      low : ℕ
      low = bottom (program.shape state.frame.number)

      deep : low ≤ floor program bound state.frame.number open_ones
      deep = floor_is_above program bound layout s.registers (depth s) state.frame.number open_ones state.frame.labels h.frame_is.labels

      keeps : (e x : ℕ) → ((e ≡ depth s) → ⊥) → r e x ≡ s.registers e x
      keeps e x ne = elim kept [ inl k ↦ k e x (λ same up down. ne same) | inr k ↦ k e x (λ same up down. ne same) ]

      under : (x : ℕ) → x < first_to t → r (depth s) x ≡ s.registers (depth s) x
      under x lt = elim kept [ inl k ↦ k (depth s) x (λ same up down. omega (arith, up, down)) | inr k ↦ k (depth s) x (λ same up down. omega (arith, up, lt)) ]

      inner : State
      inner = record state {
        frame = record state.frame {
          labels = record { arity = taken t; continuation = continuation; below = drop count state.frame.values } ∷ state.frame.labels;
          values = take count state.frame.values;
          rest = items;
        };
      }

  -- entered without a move: the values that are taken along stay where they are
  stays : (used j : ℕ) (t : Target) (count position to label_next : ℕ) (continuation items : List Instr) (operands : List Operand) (next : ℕ) (state : State) (s : Plain) → Here program bound open_ones operands next state s
      → first_to t ≡ next → first_to t + taken t ≤ label_next → label_next ≤ (program.shape state.frame.number).limit → t.below ≡ drop count operands
      → IsLaidOut program bound state.frame.number open_ones (live (target_point t label_next)) continuation
      → first_to t ≤ t.first → t.first + t.arity ≤ to → to ≤ (program.shape state.frame.number).limit
      → LaidWith state (t ∷ open_ones) position (take count operands) to items → 1 ≤ j → used + j ≤ bound
      → StepsTo (plain_step program) j s (at position s.registers s) → Reaches tree program bound used (enter_with (taken t) count continuation items state) s
  stays used j t count position to label_next continuation items operands next state s h from reached label_limit below later order le limit laid one most way =
      let low = bottom (program.shape state.frame.number) in
      let all = h.frame_is.values in
      entered used j t count position to label_next continuation items operands next state s s.registers h (inl (λ e x out. refl)) (omega (arith, from, h.frame_is.above)) reached label_limit
      (subst (λ l. AllHold s.registers (depth s) low (first_to t) l (drop count state.frame.values)) (sym below)
      (subst (λ n. AllHold s.registers (depth s) low n (drop count operands) (drop count state.frame.values)) (sym from) (zip_drop (Holds s.registers (depth s) low next) count operands state.frame.values all)))
      later order le limit (take count operands)
      (all_later s.registers s.registers (depth s) low next low to (take count operands) (take count state.frame.values) (λ x up down. refl) (omega arith) (omega (arith, from, order, le)) (zip_take (Holds s.registers (depth s) low next) count operands state.frame.values all))
      laid one most way

  module _ (r : BlockType) (type : FuncType) (counts : ((program.blocks r).params ≡ length type.params) × ((program.blocks r).results ≡ length type.results)) where
    abbrev n : ℕ
    n = (program.blocks r).params

    abbrev m : ℕ
    m = (program.blocks r).results

    -- a block with the numbers of the type is one with those of the program
    as_counted : (taken_ count : ℕ) (used : ℕ) (continuation items : List Instr) (state : State) (s : Plain) → (arity : ℕ) → taken_ ≡ arity → n ≡ count → Reaches tree program bound used (enter_with taken_ n continuation items state) s
        → Reaches tree program bound used (enter_with arity count continuation items state) s
    as_counted taken_ count used continuation items state s arity e f h =
        subst (λ a. Reaches tree program bound used (enter_with a count continuation items state) s) e (subst (λ c. Reaches tree program bound used (enter_with taken_ c continuation items state) s) f h)

    pub block_reaches : (end : ℕ) (stack : List Operand) (next : ℕ) (state : State) (s : Plain) → Here program bound open_ones stack next state s
        → slice_get program.commands s.position ≡ Some (jump_to (suc s.position)) → 1 ≤ bound → next + m ≤ (program.shape state.frame.number).limit
        → LaidWith state (inside whole m end (drop n stack) next ∷ open_ones) (suc s.position) (take n stack) (next + m) state.frame.rest
        → Reaches tree program bound 0 (enter_block type state.frame.rest state) s
    block_reaches end stack next state s h command most limit laid =
        let t = inside whole m end (drop n stack) next in
        let b = ends_here program bound state.frame.number t open_ones (point (suc s.position) (take n stack) (next + m)) state.frame.rest limit laid in
        as_counted m (length type.params) 0 (items_behind_end [] state.frame.rest) state.frame.rest state s (length type.results) counts.1 counts.0
        (stays 0 1 t n (suc s.position) (next + m) b.next (items_behind_end [] state.frame.rest) state.frame.rest stack next state s h refl b.later b.limit refl b.laid (omega arith) (omega arith) limit laid (omega arith) (omega (arith, most))
        (at (suc s.position) s.registers s, does program s (jump_to (suc s.position)) command, refl))

    pub if_reaches : (end second : ℕ) (stack : List Operand) (next : ℕ) (state : State) (s : Plain) → Here program bound open_ones stack next state s → IsSmall state.frame.values
        → slice_get program.commands s.position ≡ Some (test_of (top stack) (suc s.position) second) → 1 ≤ bound → next + m ≤ (program.shape state.frame.number).limit
        → LaidWith state (inside (part second (take n (drop 1 stack))) m end (drop n (drop 1 stack)) next ∷ open_ones) (suc s.position) (take n (drop 1 stack)) (next + m) state.frame.rest
        → Then tree program bound 0 (enter_if type state) s
    if_reaches end second stack next state s h small command most limit laid =
        popping tree program bound open_ones next 0 stack state s
        (λ condition state. if condition == 0 then enter_block type (items_of_else [] state.frame.rest) state else enter_block type state.frame.rest state) h (λ v vs e holds here.
        tests tree program bound layout 0 s (top stack) (suc s.position) second v (enter_block type (items_of_else [] state.frame.rest) (with_values vs state)) (enter_block type state.frame.rest (with_values vs state)) command
        (holds_value program s (bottom (program.shape state.frame.number)) next (top stack) v (static_low program bound layout state.frame.number) holds) (subst IsSmall e small)
        (λ way has. as_counted m (length type.params) 0 (items_behind_end [] state.frame.rest) (items_of_else [] state.frame.rest) (with_values vs state) s (length type.results) counts.1 counts.0
        (stays 0 1 (as_whole t) n second c.next b.next (items_behind_end [] state.frame.rest) (items_of_else [] state.frame.rest) (drop 1 stack) next (with_values vs state) s here refl b.later b.limit refl b.laid (omega arith) c.later c.limit c.laid (omega arith) (omega (arith, most)) way))
        (λ way has. as_counted m (length type.params) 0 (items_behind_end [] state.frame.rest) state.frame.rest (with_values vs state) s (length type.results) counts.1 counts.0
        (stays 0 1 t n (suc s.position) (next + m) b.next (items_behind_end [] state.frame.rest) state.frame.rest (drop 1 stack) next (with_values vs state) s here refl b.later b.limit refl b.laid (omega arith) (omega arith) limit laid (omega arith) (omega (arith, most)) way)))
      where
        operands : List Operand
        operands = take n (drop 1 stack)

        t : Target
        t = inside (part second operands) m end (drop n (drop 1 stack)) next

        b : Behind program bound state.frame.number t open_ones (next + m) (items_behind_end [] state.frame.rest)
        b = ends_here program bound state.frame.number t open_ones (point (suc s.position) operands (next + m)) state.frame.rest limit laid

        c : Second program bound state.frame.number t open_ones (next + m) (items_of_else [] state.frame.rest)
        c = seconds_here program bound state.frame.number t tt open_ones (point (suc s.position) operands (next + m)) state.frame.rest limit laid

    -- ---- loops

    -- what is known of a loop's place but for how its parameters come there
    pub record LoopAt (stack : List Operand) (next first results start end : ℕ) (state : State) : Type 0 where
      pub jump : slice_get program.commands start ≡ Some (jump_to (suc start))
      pub enough : n ≤ length stack
      pub order : next ≤ results
      pub reached : first + n ≤ results
      pub limit : results + m ≤ (program.shape state.frame.number).limit
      pub laid : LaidWith state (inside (again start n first) m end (drop n stack) results ∷ open_ones) (suc start) (reverse (reads first n)) (results + m) state.frame.rest

    -- what a branch to the loop goes on with
    again_laid : (stack : List Operand) (next first results start end : ℕ) (state : State) → LoopAt stack next first results start end state → floor program bound state.frame.number open_ones ≤ first → AllUnder first (drop n stack)
        → IsLaidOut program bound state.frame.number open_ones (live (target_point (inside (again start n first) m end (drop n stack) results) (first + n))) (Loop r ∷ state.frame.rest)
    again_laid stack next first results start end state l above under =
        let below = drop n stack in
        let whole_stack = reverse (reads first n) ++ below in
        let long : length (reverse (reads first n)) ≡ n = length-reverse (reads first n) ∙ reads_count first n in
        let same : drop n whole_stack ≡ below = drop_at (reverse (reads first n)) below n long in (
          first,
          results,
          start,
          end,
          inr (record { operands = take_at (reverse (reads first n)) below n long; jump = refl; above = above; under = subst (AllUnder first) (sym same) under }),
          (l.jump, tt),
          omega (arith, length-append (reverse (reads first n)) below, long),
          l.reached,
          l.reached,
          l.limit,
          subst (λ b. LaidWith state (inside (again start n first) m end b results ∷ open_ones) (suc start) (reverse (reads first n)) (results + m) state.frame.rest) (sym same) l.laid,
        )

    all_under : (r' : Registers) (d low high : ℕ) (operands : List Operand) (vs : List ℕ) → AllHold r' d low high operands vs → AllUnder high operands
    all_under r' d low high [] vs h = tt
    all_under r' d low high (a ∷ operands) [] h = absurd h
    all_under r' d low high (Var x ∷ operands) (v ∷ vs) h = (h.0.1, all_under r' d low high operands vs h.1)
    all_under r' d low high (Const c ∷ operands) (v ∷ vs) h = (tt, all_under r' d low high operands vs h.1)

    under_more : (a b : ℕ) (operands : List Operand) → a ≤ b → AllUnder a operands → AllUnder b operands
    under_more a b [] le h = tt
    under_more a b (Var x ∷ operands) le h = (omega (arith, h.0, le), under_more a b operands le h.1)
    under_more a b (Const c ∷ operands) le h = (tt, under_more a b operands le h.1)

    hold_under : (r' : Registers) (d low high first : ℕ) (operands : List Operand) (vs : List ℕ) → AllUnder first operands → AllHold r' d low high operands vs → AllHold r' d low first operands vs
    hold_under r' d low high first [] [] u h = tt
    hold_under r' d low high first [] (v ∷ vs) u h = absurd h
    hold_under r' d low high first (a ∷ operands) [] u h = absurd h
    hold_under r' d low high first (Var x ∷ operands) (v ∷ vs) u h = ((h.0.0, u.0, h.0.2), hold_under r' d low high first operands vs u.1 h.1)
    hold_under r' d low high first (Const c ∷ operands) (v ∷ vs) u h = (h.0, hold_under r' d low high first operands vs u.1 h.1)

    pub loop_reaches : (first results start end : ℕ) (stack : List Operand) (next : ℕ) (state : State) (s : Plain) → Here program bound open_ones stack next state s
        → Brings program bound state.frame.number open_ones n first start (point s.position stack next) → 1 ≤ bound → LoopAt stack next first results start end state
        → Reaches tree program bound 0 (enter_loop r type state) s
    loop_reaches first results start end stack next state s h (inr is) some l =
        let t = inside (again start n first) m end (drop n stack) results in
        let low = bottom (program.shape state.frame.number) in
        let all = h.frame_is.values in
        as_counted n (length type.params) 0 (Loop r ∷ state.frame.rest) state.frame.rest state s (length type.params) counts.0 counts.0
        (entered 0 1 t n (suc start) (results + m) (first + n) (Loop r ∷ state.frame.rest) state.frame.rest stack next state s s.registers h (inl (λ e x out. refl)) is.above (omega arith) (omega (arith, l.reached, l.limit))
        (hold_under s.registers (depth s) low next first (drop n stack) (drop n state.frame.values) is.under (zip_drop (Holds s.registers (depth s) low next) n stack state.frame.values all))
        (again_laid stack next first results start end state l is.above is.under) (omega (arith, l.reached)) (omega arith) l.limit (reverse (reads first n))
        (subst (λ ops. AllHold s.registers (depth s) low (results + m) ops (take n state.frame.values)) is.operands
        (all_later s.registers s.registers (depth s) low next low (results + m) (take n stack) (take n state.frame.values) (λ x up down. refl) (omega arith) (omega (arith, l.order)) (zip_take (Holds s.registers (depth s) low next) n stack state.frame.values all)))
        l.laid (omega arith) (omega (arith, some)) (at (suc start) s.registers s, does program s (jump_to (suc start)) (subst (λ x. slice_get program.commands x ≡ Some (jump_to (suc start))) is.jump l.jump), refl))
    loop_reaches first results start end stack next state s h (inl b) some l =
        let t = inside (again start n first) m end (drop n stack) results in
        let low = bottom (program.shape state.frame.number) in
        let all = h.frame_is.values in
        let static = static_low program bound layout state.frame.number in
        let deep = next_low program bound layout open_ones stack next state s h in
        let mark = mark_of open_ones in
        let same = pad_is_take n stack l.enough in
        let ops = reverse (take n stack) in
        let long = taken_length n stack l.enough in
        let v = moved program s mark ops (reverse (take n state.frame.values)) first n long (subst (λ k. HasAt program.commands s.position (moves mark first (reverse k))) same b.commands)
        (omega (arith, static, deep, b.new)) (subst (λ k. Fresh first (reverse k)) same b.fresh)
        (held_values s.registers program.statics (depth s) low next ops (reverse (take n state.frame.values)) static
        (zip_reverse (Holds s.registers (depth s) low next) (take n stack) (take n state.frame.values) (zip_take (Holds s.registers (depth s) low next) n stack state.frame.values all))) in
        let mid = at (shift n s.position) v.registers s in
        let under = under_more next first (drop n stack) b.new (all_under s.registers (depth s) low next (drop n stack) (drop n state.frame.values) (zip_drop (Holds s.registers (depth s) low next) n stack state.frame.values all)) in
        let above : floor program bound state.frame.number open_ones ≤ first = omega (arith, h.frame_is.above, b.new) in
        as_counted n (length type.params) 0 (Loop r ∷ state.frame.rest) state.frame.rest state s (length type.params) counts.0 counts.0
        (entered 0 (n + 1) t n (suc start) (results + m) (first + n) (Loop r ∷ state.frame.rest) state.frame.rest stack next state s v.registers h (inr v.kept) above (omega arith) (omega (arith, l.reached, l.limit))
        (hold_under s.registers (depth s) low next first (drop n stack) (drop n state.frame.values) under (zip_drop (Holds s.registers (depth s) low next) n stack state.frame.values all))
        (again_laid stack next first results start end state l above under) (omega (arith, l.reached)) (omega arith) l.limit (reverse (reads first n))
        (all_later v.registers v.registers (depth s) first (first + n) low (results + m) (reverse (reads first n)) (take n state.frame.values) (λ x up down. refl) (omega (arith, deep, b.new)) (omega (arith, l.reached))
        (subst (AllHold v.registers (depth s) first (first + n) (reverse (reads first n))) (reverse-reverse (take n state.frame.values))
        (zip_reverse (Holds v.registers (depth s) first (first + n)) (reads first n) (reverse (take n state.frame.values)) v.holds)))
        l.laid (omega arith) (omega (arith, b.most))
        (comes_then (plain_step program) n 1 s mid (at (suc start) v.registers s) v.comes (at (suc start) v.registers s, does program mid (jump_to (suc start)) (subst (λ x. slice_get program.commands x ≡ Some (jump_to (suc start))) b.jump l.jump), refl)))

  pub end_reaches : (t : Target) (stack : List Operand) (next : ℕ) (state : State) (s : Plain) → Here program bound (t ∷ open_ones) stack next state s
      → EndsAt program bound state.frame.number (mark_of (t ∷ open_ones)) t s.position stack → IsLaidOut program bound state.frame.number open_ones (live (behind t next)) state.frame.rest
      → Then tree program bound 0 (reach_end state) s
  end_reaches t stack next state s h at_ laid =
      leaves_label tree program bound layout (mark_of (t ∷ open_ones)) t open_ones state.frame.labels state.frame.rest stack next state s h h.frame_is.labels at_ next h.frame_is.above h.frame_is.limit laid

  pub else_reaches : (t : Target) (second : ℕ) (operands : List Operand) (stack : List Operand) (next : ℕ) (state : State) (s : Plain) → Here program bound (t ∷ open_ones) stack next state s
      → EndsAt program bound state.frame.number (mark_of (t ∷ open_ones)) t s.position stack → LaidWith state (as_whole t ∷ open_ones) second operands next state.frame.rest
      → Then tree program bound 0 (reach_else state) s
  else_reaches t second operands stack next state s h at_ laid =
      let b = ends_here program bound state.frame.number (as_whole t) open_ones (point second operands next) state.frame.rest h.frame_is.limit laid in
      leaves_label tree program bound layout (mark_of (t ∷ open_ones)) t open_ones state.frame.labels (items_behind_end [] state.frame.rest) stack next state s h h.frame_is.labels at_ b.next (omega (arith, h.frame_is.above, b.later)) b.limit b.laid
