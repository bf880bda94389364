-- Returns, and branches.
use Rattle.std.proofs.Common.{◌≡◌, ℕ, zero, suc, ◌+◌, ◌-◌, ◌*◌, ◌<◌, ◌≤◌, List, [], ◌∷◌, ◌++◌, length, reverse, take, Some, slice_get, refl, sym, ap, ap₂, ◌∙◌, subst, arith, ◌⊎◌, inl, inr}
use Rattle.std.specs.List.{AllZip}
use Rattle.std.proofs.lemmas.List.{reverse-reverse, length-reverse}
use Rattle.bl_base.proofs.RunLemmas.{comes_then}
use Rattle.bl_base.specs.Runs.{StepsTo, last, goes, ends, returned}
use Rattle.bl_wasm.specs.declared.linked.Tree.{Tree}
use Rattle.bl_reduce.specs.Configurations.{Store, Frame, State}
use Rattle.bl_reduce.specs.Returns.{return_to, return}
use Rattle.bl_base.proofs.Lists.{zip_reverse, zip_append, zip_length}
use Rattle.bl_access.specs.Templates.{jump_to, out_of, shift}
use Rattle.bl_program.specs.Steps.{Registers, written, Plain, depth, on}
use Rattle.bl_program.specs.declared.command.Command.TheVariants.{Ret}
use Rattle.bl_program.specs.declared.command.Operand.{Operand}
use Rattle.bl_lower.proofs.CodeLayout.{HasAt, AreNot, Fresh, OutsAt, LeavesAt}
use Rattle.bl_lower.proofs.Machine.{Program, value_of, results_from, states, plain_step, ret}
use Rattle.bl_lower.proofs.MatchStates.{Holds, AllHold, Layout, IsStore, IsFrame, AreCallers, Here}
use Rattle.bl_emit.specs.Constructs.{reads, moves, mark_of, Target}
use Rattle.bl_emit.specs.Shapes.{Shape, result, bottom, result_reads}
use Rattle.bl_lower.proofs.Frames.{floor_is_above, static_low, store_kept, frame_kept, frame_rebuilt, callers_kept, Reaches, reaches_later}
use Rattle.bl_lower.proofs.StraightLineItems.{arrives}
use Rattle.bl_lower.proofs.ConstructExits.{pad_is_take, zip_take, taken_length}
use Rattle.bl_lower.proofs.Sizes.{reads_length}
use Rattle.bl_lower.proofs.States.{states_are}
use Rattle.bl_lower.proofs.PlainRuns.{Kept, at, does, Moved, moved, Value, holds_value, all_later, read_written, read_deeper, kept_written}

-- values are in the results of a function from an index on
abbrev pub ResultsAt : Registers → ℕ → Shape → ℕ → List ℕ → Type 0
ResultsAt r d shape index [] = Unit {0}
ResultsAt r d shape index (v ∷ vs) = (r d (result shape index) ≡ v) × ResultsAt r d shape (suc index) vs

results_are : (r : Registers) (shape : Shape) (index count : ℕ) (vs : List ℕ) → length vs ≡ count → ResultsAt r 0 shape index vs → results_from shape r index count ≡ vs
results_are r shape index zero [] e h = refl
results_are r shape index zero (v ∷ vs) e h = absurd (omega (arith, e))
results_are r shape index (suc count) [] e h = absurd (omega (arith, e))
results_are r shape index (suc count) (v ∷ vs) e h = ap₂ (λ x xs. x ∷ xs) h.0 (results_are r shape (suc index) count vs (omega (arith, e)) h.1)

results_reads : (r : Registers) (statics d : ℕ) (shape : Shape) (index : ℕ) (vs : List ℕ) → statics ≤ shape.first → ResultsAt r d shape index vs → AllZip (Value r statics d) (result_reads shape index (length vs)) vs
results_reads r statics d shape index [] le h = tt
results_reads r statics d shape index (v ∷ vs) le h = ((omega (arith, le), h.0), results_reads r statics d shape (suc index) vs le h.1)

-- results are none of the variables that they go to
results_not : (shape : Shape) (x index count : ℕ) → ((i : ℕ) → i < index + count → result shape i ≡ x → ⊥) → AreNot x (result_reads shape index count)
results_not shape x index zero apart = tt
results_not shape x index (suc count) apart = (apart index (omega arith), results_not shape x (suc index) count (λ i lt. apart i (omega (arith, lt))))

results_fresh : (shape : Shape) (first low high index count : ℕ) → low ≤ first → first + count ≤ high → ((i x : ℕ) → i < index + count → low ≤ x → x < high → result shape i ≡ x → ⊥) → Fresh first (result_reads shape index count)
results_fresh shape first low high index zero le ge apart = tt
results_fresh shape first low high index (suc count) le ge apart =
    (results_not shape first (suc index) count (λ i lt e. apart i first (omega (arith, lt)) le (omega (arith, ge)) e), results_fresh shape (suc first) low high (suc index) count (omega (arith, le)) (omega (arith, ge)) (λ i x lt. apart i x (omega (arith, lt))))

module _ (tree : Tree) (program : Program) (bound : ℕ) (layout : Layout program) where
  -- results were given to the caller's depth
  pub record Given (number : ℕ) (s : Plain) (index count : ℕ) (vs : List ℕ) : Type 0 where
    pub registers : Registers
    pub comes : StepsTo (plain_step program) count s (at (shift count s.position) registers s)
    pub kept : Kept s.registers registers (length s.chain) (result (program.shape number) index) count
    pub results : ResultsAt registers (length s.chain) (program.shape number) index vs
    pub ret_is : slice_get program.commands (shift count s.position) ≡ Some Ret
    pub runs : program.running (shift count s.position) ≡ number

  outs_run : (mark number : ℕ) (s : Plain) (operands : List Operand) (vs : List ℕ) (index low next : ℕ) → OutsAt program bound number mark s.position index operands → program.statics ≤ low
      → AllHold s.registers (depth s) low next operands vs → Given number s index (length operands) vs
  outs_run mark number s [] [] index low next h le all = record { registers = s.registers; comes = refl; kept = λ e x out. refl; results = tt; ret_is = h.0; runs = h.1 }
  outs_run mark number s [] (v ∷ vs) index low next h le all = absurd all
  outs_run mark number s (a ∷ operands) [] index low next h le all = absurd all
  outs_run mark number s (a ∷ operands) (v ∷ vs) index low next h le all =
      let shape = program.shape number in
      let up = length s.chain in
      let r' = written s.registers up (result shape index) v in
      let t = at (suc s.position) r' s in
      let step : plain_step program s ≡ goes t = does program s (out_of mark index a) h.0
      ∙ ap (λ n. on s (written s.registers up (result (program.shape n) index) (value_of program a s))) h.1
      ∙ ap (λ n. on s (written s.registers up (result shape index) n)) (holds_value program s low next a v le all.0) in
      let g = outs_run mark number t operands vs (suc index) low next h.2 le
      (all_later s.registers r' (depth s) low next low next operands vs (λ x above below. read_deeper s.registers up (result shape index) v (depth s) x (λ e. omega (arith, e))) (omega arith) (omega arith) all.1) in
      let later : result shape (suc index) ≡ suc (result shape index) = omega arith in
      record {
        registers = g.registers;
        comes = (t, step, g.comes);
        kept = λ e x out. g.kept e x (λ same above below. out same (omega (arith, later, above)) (omega (arith, later, below)))
            ∙ kept_written s.registers up (result shape index) (length operands) v e x out;
        results = (g.kept up (result shape index) (λ same above below. omega (arith, later, above)) ∙ read_written s.registers up (result shape index) v, g.results);
        ret_is = g.ret_is;
        runs = g.runs;
      }

  -- values are put on a frame's operands
  pub frame_put : (r : Registers) (d : ℕ) (open_ones : List Target) (stack operands : List Operand) (next count : ℕ) (vs : List ℕ) (frame : Frame) → IsFrame program bound r d open_ones stack next frame → bottom (program.shape frame.number) ≤ next
      → next + count ≤ (program.shape frame.number).limit → AllHold r d next (next + count) operands vs
      → IsFrame program bound r d open_ones (operands ++ stack) (next + count) (record frame { values = vs ++ frame.values })
  frame_put r d open_ones stack operands next count vs frame h over limit all =
      let low = bottom (program.shape frame.number) in
      frame_rebuilt tree program bound r d open_ones stack (operands ++ stack) next (next + count) (vs ++ frame.values) frame.rest frame h
      (zip_append (Holds r d low (next + count)) operands stack vs frame.values (all_later r r d next (next + count) low (next + count) operands vs (λ x above below. refl) over (omega arith) all)
      (all_later r r d low next low (next + count) stack frame.values (λ x above below. refl) (omega arith) (omega arith) h.values)) (omega (arith, h.above)) limit

  -- the results, topmost first, are on the caller's operands
  resumes : (used number count : ℕ) (callers : List Frame) (chain : List ℕ) (vs : List ℕ) (store : Store) (r : Registers) (s : Plain) → s.chain ≡ chain → IsStore program s.registers s.space store
      → length vs ≡ count → count ≡ (program.shape number).results → used + (2 * count + 2) ≤ bound → AreCallers program bound r number callers chain
      → (g : Given number s 0 count (reverse vs)) → s.registers ≡ r → Reaches tree program bound (used + count) (return_to callers vs store) (at (shift count s.position) g.registers s)
  resumes used number count [] [] vs store r s e memories long is most h g same =
      (1, omega arith, omega (arith, most), last t (returned (reverse vs) store.memories) (does program t Ret g.ret_is ∙ step))
    where
      t : Plain
      t = at (shift count s.position) g.registers s

      step : ret program s.chain t ≡ ends (returned (reverse vs) store.memories)
      step = ap (λ chain. ret program chain t) e
          ∙ ap (λ n. ends (returned (results_from (program.shape n) g.registers 0 (program.shape n).results) (states program t))) g.runs
          ∙ ap₂ (λ l m. ends (returned l m)) (results_are g.registers (program.shape number) 0 (program.shape number).results (reverse vs) (length-reverse vs ∙ long ∙ is)
          (subst (λ c. ResultsAt g.registers (length c) (program.shape number) 0 (reverse vs)) e g.results)) (states_are program t store (store_kept program bound layout s.registers g.registers s store (λ x lt. g.kept 0 x (λ zero above below. let a = layout.above number in omega (arith, lt, above, a))) memories))
  resumes used number count [] (back ∷ chain) vs store r s e memories long is most h g same = absurd h
  resumes used number count (caller ∷ callers) [] vs store r s e memories long is most h g same = absurd h
  resumes used number count (caller ∷ callers) (back ∷ chain) vs store r s e memories long is most h g same =
      let shape = program.shape number in
      let t = at (shift count s.position) g.registers s in
      let t2 : Plain = record { position = back; chain = chain; registers = g.registers; space = s.space } in
      let up : length s.chain ≡ suc (length chain) = ap length e in
      let before : (d x : ℕ) → g.registers d x ≡ s.registers d x → g.registers d x ≡ r d x = λ d x f. f ∙ ap (λ q. q d x) same in
      let w = h.0 in
      let f = frame_kept program bound layout r g.registers (suc (length chain)) w.open_ones w.stack w.next caller
      (λ x own side. before (suc (length chain)) x (g.kept (suc (length chain)) x (λ same above below.
      layout.apart caller.number number (x - result shape 0) x (omega (arith, is, above, below)) own (omega (arith, above))))) w.frame_is in
      let low = floor_is_above program bound layout g.registers (suc (length chain)) caller.number w.open_ones caller.labels f.labels in
      let m = moved_results (mark_of w.open_ones) shape t2 w.next vs (omega (arith, long, is)) (let a = layout.above number in omega (arith, a)) (let b = static_low program bound layout caller.number in omega (arith, b, low, f.above)) (λ i x lt above below e.
      layout.apart caller.number number i x lt
      (omega (arith, above, low, f.above), omega (arith, below, w.room), λ over. omega (arith, above, low, f.above)) (sym e))
      w.moves_are (subst (λ n. ResultsAt g.registers n shape 0 (reverse vs)) up g.results) in
      let t3 = at (shift shape.results back) m.registers t2 in
      let k = shape.results in
      let frame' = record caller { values = vs ++ caller.values } in
      let ret_step : plain_step program t ≡ goes t2 = does program t Ret g.ret_is ∙ ap (λ chain. ret program chain t) e in
      let ending = jumped w.after_it t t2 t3 k ret_step m.comes w.jumps in
      arrives tree program bound layout (used + count) ending.0 w.open_ones (reverse (reads w.next k) ++ w.stack) (w.next + k)
      (record { store = store; frame = frame'; callers = callers }) t (at w.after_it t3.registers t3) ending.1 (omega (arith, most, is, ending.2)) ending.3
      (record {
        store = store_kept program bound layout r m.registers s store (λ x lt. m.kept 0 x (λ same above below. omega (arith, same)) ∙ before 0 x (g.kept 0 x (λ same above below. omega (arith, same, up)))) (subst (λ q. IsStore program q s.space store) same memories);
        frame_is = frame_put m.registers (suc (length chain)) w.open_ones w.stack (reverse (reads w.next k)) w.next k vs caller
            (frame_kept program bound layout g.registers m.registers (suc (length chain)) w.open_ones w.stack w.next caller
            (λ x own side. m.kept (suc (length chain)) x (λ same above below. elim side [ inl lt ↦ omega (arith, lt, above, low, f.above) | inr lt ↦ omega (arith, lt, above) ])) f) (omega (arith, low, f.above)) w.room
            (subst (AllHold m.registers (suc (length chain)) w.next (w.next + k) (reverse (reads w.next k))) (reverse-reverse vs)
            (zip_reverse (Holds m.registers (suc (length chain)) w.next (w.next + k)) (reads w.next k) (reverse vs) m.holds));
        callers = callers_kept program bound layout g.registers m.registers caller.number callers chain (λ d x some le. m.kept d x (λ same above below. omega (arith, same, le)))
            (callers_kept program bound layout r g.registers caller.number callers chain (λ d x some le. before d x (g.kept d x (λ same above below. omega (arith, same, up, le)))) h.1);
      }) w.laid
    where
      jumped : (to : ℕ) (t t2 t3 : Plain) (k : ℕ) → plain_step program t ≡ goes t2 → StepsTo (plain_step program) k t2 t3 → (to ≡ t3.position) ⊎ (slice_get program.commands t3.position ≡ Some (jump_to to))
          → (j : ℕ) × (1 ≤ j) × (j ≤ suc (suc k)) × StepsTo (plain_step program) j t (at to t3.registers t3)
      jumped to t t2 t3 k step way (inl same) = (suc k, omega arith, omega arith, (t2, step, subst (λ n. StepsTo (plain_step program) k t2 (at n t3.registers t3)) (sym same) way))
      jumped to t t2 t3 k step way (inr jump) =
          (suc k + 1, omega arith, omega arith, comes_then (plain_step program) (suc k) 1 t t3 (at to t3.registers t3) (t2, step, way) (at to t3.registers t3, does program t3 (jump_to to) jump, refl))

      moved_results : (mark : ℕ) (shape : Shape) (t : Plain) (next : ℕ) (vs : List ℕ) → length vs ≡ shape.results → program.statics ≤ shape.first → program.statics ≤ next
          → ((i x : ℕ) → i < shape.results → next ≤ x → x < next + shape.results → result shape i ≡ x → ⊥)
          → HasAt program.commands t.position (moves mark next (result_reads shape 0 shape.results)) → ResultsAt t.registers (depth t) shape 0 (reverse vs) → Moved program t next shape.results (reverse vs)
      moved_results mark shape t next vs long own le apart stands results =
          let all = length-reverse vs ∙ long in
          moved program t mark (result_reads shape 0 shape.results) (reverse vs) next shape.results (reads_length shape 0 shape.results) stands le
          (results_fresh shape next next (next + shape.results) 0 shape.results (omega arith) (omega arith) (λ i x lt. apart i x (omega (arith, lt))))
          (subst (λ n. AllZip (Value t.registers program.statics (depth t)) (result_reads shape 0 n) (reverse vs)) all
          (results_reads t.registers program.statics (depth t) shape 0 (reverse vs) own results))

  pub return_reaches : (used mark : ℕ) (open_ones : List Target) (stack : List Operand) (next : ℕ) (state : State) (s : Plain) → Here program bound open_ones stack next state s
      → LeavesAt program bound state.frame.number mark used s.position stack → Reaches tree program bound used (return state) s
  return_reaches used mark open_ones stack next state s h leaves =
      let number = state.frame.number in
      let count = (program.shape number).results in
      let low = bottom (program.shape number) in
      let ops = reverse (take count stack) in
      let vs = take state.frame.arity state.frame.values in
      let same : take count state.frame.values ≡ vs = ap (λ n. take n state.frame.values) (sym h.frame_is.arity) in
      let long = taken_length count stack leaves.enough in
      let all : AllHold s.registers (depth s) low next ops (reverse vs) = subst (λ vs. AllHold s.registers (depth s) low next ops (reverse vs)) same
      (zip_reverse (Holds s.registers (depth s) low next) (take count stack) (take count state.frame.values) (zip_take (Holds s.registers (depth s) low next) count stack state.frame.values h.frame_is.values)) in
      let g = subst (λ n. Given number s 0 n (reverse vs)) long (outs_run mark number s ops (reverse vs) 0 low next (subst (λ l. OutsAt program bound number mark s.position 0 (reverse l)) (pad_is_take count stack leaves.enough) leaves.outs) (static_low program bound layout number) all) in
      let values : length vs ≡ count = sym (length-reverse vs) ∙ sym (zip_length (Holds s.registers (depth s) low next) ops (reverse vs) all) ∙ long in
      reaches_later tree program bound used count (return state) s (at (shift count s.position) g.registers s) g.comes
      (resumes used number count state.callers s.chain vs state.store s.registers s refl h.store values refl leaves.most h.callers g refl)
