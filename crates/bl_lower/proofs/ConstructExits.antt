-- Branches, returns and the ends of constructs.
use Rattle.std.proofs.Common.{◌≡◌, ℕ, zero, suc, ◌+◌, ◌≤◌, List, [], ◌∷◌, ◌++◌, length, reverse, take, drop, Some, None, slice_get, refl, ap, ◌∙◌, subst, arith, ◌⊎◌, inl, inr}
use Rattle.std.specs.List.{AllZip}
use Rattle.std.proofs.lemmas.List.{reverse-reverse, length-reverse, length-take-le, take_all}
use Rattle.bl_base.specs.Runs.{StepsTo}
use Rattle.bl_base.proofs.RunLemmas.{comes_then}
use Rattle.bl_wasm.specs.declared.instruction.Instr.{Instr}
use Rattle.bl_wasm.specs.declared.linked.Tree.{Tree}
use Rattle.bl_reduce.specs.Configurations.{ControlLabel, State, go}
use Rattle.bl_reduce.specs.Control.{leave_label}
use Rattle.bl_base.proofs.Lists.{zip_reverse, zip_append, zip_length}
use Rattle.bl_access.specs.Templates.{jump_to, shift}
use Rattle.bl_program.specs.Steps.{Registers, Plain, depth}
use Rattle.bl_program.specs.declared.command.Operand.{Operand}
use Rattle.bl_lower.proofs.CodeLayout.{HasAt, Fresh, floor, live, IsLaidOut, EndsAt}
use Rattle.bl_lower.proofs.Machine.{Program, plain_step}
use Rattle.bl_lower.proofs.MatchStates.{Holds, AllHold, Layout, IsTarget, AreTargets, Here}
use Rattle.bl_emit.specs.Constructs.{pad, reads, moves, Target, first_to, behind, point}
use Rattle.bl_emit.specs.Shapes.{bottom}
use Rattle.bl_lower.proofs.Frames.{floor_is_above, static_low, store_kept, targets_later, locals_kept, callers_kept, Reaches, Then}
use Rattle.bl_lower.proofs.StraightLineItems.{arrives}
use Rattle.bl_lower.proofs.PlainRuns.{Agree, Kept, at, does, moved, held_values, all_later, has_front, has_back}

pub zip_take : {A B : Type 0} (R : A → B → Type 0) (n : ℕ) (xs : List A) (ys : List B) → AllZip R xs ys → AllZip R (take n xs) (take n ys)
zip_take R zero xs ys h = tt
zip_take R (suc n) [] [] h = tt
zip_take R (suc n) [] (y ∷ ys) h = absurd h
zip_take R (suc n) (x ∷ xs) [] h = absurd h
zip_take R (suc n) (x ∷ xs) (y ∷ ys) h = (h.0, zip_take R n xs ys h.1)

pub zip_drop : {A B : Type 0} (R : A → B → Type 0) (n : ℕ) (xs : List A) (ys : List B) → AllZip R xs ys → AllZip R (drop n xs) (drop n ys)
zip_drop R zero xs ys h = h
zip_drop R (suc n) [] [] h = tt
zip_drop R (suc n) [] (y ∷ ys) h = absurd h
zip_drop R (suc n) (x ∷ xs) [] h = absurd h
zip_drop R (suc n) (x ∷ xs) (y ∷ ys) h = zip_drop R n xs ys h.1

pub reads_count : (first count : ℕ) → length (reads first count) ≡ count
reads_count first zero = refl
reads_count first (suc count) = ap suc (reads_count (suc first) count)

pub moves_length : (mark first : ℕ) (operands : List Operand) → length (moves mark first operands) ≡ length operands
moves_length mark first [] = refl
moves_length mark first (a ∷ operands) = ap suc (moves_length mark (suc first) operands)

pub pad_is_take : (count : ℕ) (stack : List Operand) → count ≤ length stack → pad count stack ≡ take count stack
pad_is_take zero stack le = refl
pad_is_take (suc count) [] le = absurd (omega (arith, le))
pad_is_take (suc count) (a ∷ stack) le = ap (λ l. a ∷ l) (pad_is_take count stack (omega (arith, le)))

pub taken_length : (count : ℕ) (stack : List Operand) → count ≤ length stack → length (reverse (take count stack)) ≡ count
taken_length count stack le = length-reverse (take count stack) ∙ length-take-le count stack le

module _ (tree : Tree) (program : Program) (bound : ℕ) (layout : Layout program) where
  -- ---- operands go to variables, and then there is a jump

  pub record Gone (s : Plain) (first count : ℕ) (vs : List ℕ) (to : ℕ) : Type 0 where
    pub registers : Registers
    pub comes : StepsTo (plain_step program) (count + 1) s (at to registers s)
    pub kept : Kept s.registers registers (depth s) first count
    pub holds : AllHold registers (depth s) first (first + count) (reverse (reads first count)) vs

  gone : (s : Plain) (mark low next : ℕ) (stack : List Operand) (values : List ℕ) (first count to : ℕ) → HasAt program.commands s.position (moves mark first (reverse (pad count stack)) ++ jump_to to ∷ [])
      → count ≤ length stack → Fresh first (reverse (pad count stack)) → program.statics ≤ low → low ≤ first → AllHold s.registers (depth s) low next stack values → Gone s first count (take count values) to
  gone s mark low next stack values first count to padded le fresh static above all =
      let same = pad_is_take count stack le in
      let commands : HasAt program.commands s.position (moves mark first (reverse (take count stack)) ++ jump_to to ∷ []) =
      subst (λ l. HasAt program.commands s.position (moves mark first (reverse l) ++ jump_to to ∷ [])) same padded in
      let ops = reverse (take count stack) in
      let long = taken_length count stack le in
      let back = subst (λ n. HasAt program.commands (shift n s.position) (jump_to to ∷ [])) (moves_length mark first ops ∙ long) (has_back program.commands s.position (moves mark first ops) (jump_to to ∷ []) commands) in
      let m = moved program s mark ops (reverse (take count values)) first count long (has_front program.commands s.position (moves mark first ops) (jump_to to ∷ []) commands)
      (omega (arith, static, above)) (subst (λ l. Fresh first (reverse l)) same fresh)
      (held_values s.registers program.statics (depth s) low next ops (reverse (take count values)) static
      (zip_reverse (Holds s.registers (depth s) low next) (take count stack) (take count values) (zip_take (Holds s.registers (depth s) low next) count stack values all))) in
      let t = at (shift count s.position) m.registers s in
      record {
        registers = m.registers;
        comes = comes_then (plain_step program) count 1 s t (at to m.registers s) m.comes (at to m.registers s, does program t (jump_to to) back.0, refl);
        kept = m.kept;
        holds = subst (AllHold m.registers (depth s) first (first + count) (reverse (reads first count))) (reverse-reverse (take count values))
            (zip_reverse (Holds m.registers (depth s) first (first + count)) (reads first count) (reverse (take count values)) m.holds);
      }

  -- where it leads: behind other labels, above the values of a construct
  pub lands : (used mark : ℕ) (open_ones outer : List Target) (labels : List ControlLabel) (stack : List Operand) (from next high first count : ℕ) (below : List Operand) (under : List ℕ) (rest : List Instr) (to : ℕ) (state : State) (s : Plain)
      → Here program bound open_ones stack from state s → HasAt program.commands s.position (moves mark first (reverse (pad count stack)) ++ jump_to to ∷ []) → count ≤ length stack
      → Fresh first (reverse (pad count stack)) → used + (count + 1) ≤ bound
      → AreTargets program bound s.registers (depth s) state.frame.number outer labels → floor program bound state.frame.number outer ≤ high → high ≤ first
      → first + count ≤ next → next ≤ (program.shape state.frame.number).limit
      → AllHold s.registers (depth s) (bottom (program.shape state.frame.number)) high below under
      → IsLaidOut program bound state.frame.number outer (live (point to (reverse (reads first count) ++ below) next)) rest
      → Reaches tree program bound used (go (record state { frame = record state.frame { labels = labels; values = take count state.frame.values ++ under; rest = rest } })) s
  lands used mark open_ones outer labels stack from next high first count below under rest to state s h commands enough fresh most targets above higher reached limit all laid =
      let d = depth s in
      let low = bottom (program.shape state.frame.number) in
      let deep = floor_is_above program bound layout s.registers d state.frame.number outer labels targets in
      let g = gone s mark low from stack state.frame.values first count to commands enough fresh (static_low program bound layout state.frame.number) (omega (arith, deep, above, higher)) h.frame_is.values in
      let under_first : Agree s.registers g.registers d low high = λ x up down. g.kept d x (λ same over under. omega (arith, down, over, higher)) in
      arrives tree program bound layout used (count + 1) outer (reverse (reads first count) ++ below) next
      (record state { frame = record state.frame { labels = labels; values = take count state.frame.values ++ under; rest = rest } }) s (at to g.registers s) (omega arith) most g.comes
      (record {
        store = store_kept program bound layout s.registers g.registers s state.store (λ x lt. g.kept 0 x (λ same over under. omega (arith, same))) h.store;
        frame_is = record {
          arity = h.frame_is.arity;
          size = h.frame_is.size;
          locals = locals_kept program bound layout s.registers g.registers d state.frame.number state.frame.locals
              (λ x down. g.kept d x (λ same over under. omega (arith, down, over, deep, above, higher))) h.frame_is.size h.frame_is.locals;
          labels = targets_later program bound layout s.registers g.registers d state.frame.number high outer labels under_first above targets;
          values = zip_append (Holds g.registers d low next) (reverse (reads first count)) below (take count state.frame.values) under
              (all_later g.registers g.registers d first (first + count) low next (reverse (reads first count)) (take count state.frame.values) (λ x up down. refl) (omega (arith, deep, above, higher)) reached g.holds)
              (all_later s.registers g.registers d low high low next below under under_first (omega arith) (omega (arith, reached, higher)) all);
          above = omega (arith, above, higher, reached);
          limit = limit;
        };
        callers = callers_kept program bound layout s.registers g.registers state.frame.number state.callers s.chain (λ e x some le. g.kept e x (λ same over under. omega (arith, same, le))) h.callers;
      }) laid

  -- the end of a construct or part, and its label
  pub leaves_label : (mark : ℕ) (t : Target) (outer : List Target) (labels : List ControlLabel) (rest : List Instr) (stack : List Operand) (next : ℕ) (state : State) (s : Plain)
      → Here program bound (t ∷ outer) stack next state s → AreTargets program bound s.registers (depth s) state.frame.number (t ∷ outer) labels
      → EndsAt program bound state.frame.number mark t s.position stack → (to : ℕ) → t.first + t.arity ≤ to → to ≤ (program.shape state.frame.number).limit
      → IsLaidOut program bound state.frame.number outer (live (behind t to)) rest
      → Then tree program bound 0 (leave_label labels rest state) s
  leaves_label mark t outer [] rest stack next state s h targets e to le limit laid has = absurd has
  leaves_label mark t outer (label ∷ labels) rest stack next state s h targets e to le limit laid has =
      let whole : take t.arity state.frame.values ≡ state.frame.values =
      take_all t.arity state.frame.values (omega (arith, zip_length (Holds s.registers (depth s) (bottom (program.shape state.frame.number)) next) stack state.frame.values h.frame_is.values, e.exact)) in
      subst (λ values. Reaches tree program bound 0 (go (record state { frame = record state.frame { labels = labels; values = values ++ label.below; rest = rest } })) s) whole
      (lands 0 mark (t ∷ outer) outer labels stack next to (first_to t) t.first t.arity t.below label.below rest t.end state s h e.commands (omega (arith, e.exact)) e.fresh (omega (arith, e.most))
      targets.1 targets.0.above targets.0.order le limit targets.0.below laid)

  -- ---- branches

  -- the construct of a label
  pub record ToTarget (r : Registers) (d number : ℕ) (open_ones : List Target) (labels : List ControlLabel) (l : ℕ) : Type 0 where
    pub t : Target
    pub outer : List Target
    pub label : ControlLabel
    pub of_open : slice_get open_ones l ≡ Some t
    pub of_labels : slice_get labels l ≡ Some label
    pub is : IsTarget program bound r d number outer t label
    pub others : AreTargets program bound r d number outer (drop (l + 1) labels)

  pub find_target : (r : Registers) (d number : ℕ) (open_ones : List Target) (labels : List ControlLabel) (l : ℕ) → AreTargets program bound r d number open_ones labels
      → ToTarget r d number open_ones labels l ⊎ (slice_get open_ones l ≡ None) × (slice_get labels l ≡ None)
  find_target r d number [] [] l h = inr (refl, refl)
  find_target r d number [] (label ∷ labels) l h = absurd h
  find_target r d number (t ∷ open_ones) [] l h = absurd h
  find_target r d number (t ∷ open_ones) (label ∷ labels) zero h = inl (record {
    t = t;
    outer = open_ones;
    label = label;
    of_open = refl;
    of_labels = refl;
    is = h.0;
    others = h.1;
  })
  find_target r d number (t ∷ open_ones) (label ∷ labels) (suc l) h = elim (find_target r d number open_ones labels l h.1) [
    | inr n ↦ inr n
    | inl f ↦ inl (let next : suc (l + 1) ≡ suc l + 1 = omega arith in record {
      t = f.t;
      outer = f.outer;
      label = f.label;
      of_open = f.of_open;
      of_labels = f.of_labels;
      is = f.is;
      others = subst (λ n. AreTargets program bound r d number f.outer (drop n (label ∷ labels))) next f.others;
    })
  ]
