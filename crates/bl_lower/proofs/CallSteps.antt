-- Calls, and the entering of functions.
use Rattle.std.proofs.Common.{◌≡◌, ℕ, zero, suc, ◌+◌, ◌<◌, ◌≤◌, List, [], ◌∷◌, ◌++◌, length, reverse, replicate, take, drop, Option, Some, None, slice_get, nat_lt, refl, sym, ap, ◌∙◌, subst, arith, ◌⊎◌, inl, inr, length-append}
use Rattle.std.specs.Prelude.{if◌then◌else◌, option_and_then}
use Rattle.std.specs.List.{AllZip}
use Rattle.std.proofs.lemmas.List.{length-replicate}
use Rattle.std.proofs.lemmas.Bool.{lt-ltb, le-ltb, cases_lt}
use Rattle.std.proofs.lemmas.Option.{none-some, same_Some}
use Rattle.bl_base.specs.Quantity.{most_calls}
use Rattle.bl_base.specs.Runs.{Next, StepsTo, last, goes, ends, trapped}
use Rattle.bl_base.specs.declared.trap.Trap.TheVariants.{StackExhausted}
use Rattle.bl_base.proofs.RunLemmas.{comes_then, comes_to_end}
use Rattle.bl_wasm.specs.Validity.{locals_of}
use Rattle.bl_wasm.specs.declared.linked.Signature.{Signature}
use Rattle.bl_wasm.specs.declared.linked.Function.{Function}
use Rattle.bl_wasm.specs.declared.linked.Tree.{Tree}
use Rattle.bl_wasm.specs.Linked.{type_of}
use Rattle.bl_reduce.specs.Calls.{depth as source_depth, entered, enter, operands, caller, call_at, call}
use Rattle.bl_reduce.specs.Configurations.{Store, Frame, State, Config, entering, go, trap, known}
use Rattle.bl_base.proofs.Lists.{zip_reverse, zip_length}
use Rattle.bl_access.specs.Templates.{arg_of, jump_to, shift}
use Rattle.bl_program.specs.Steps.{Registers, written, Plain, depth, on}
use Rattle.bl_program.specs.declared.command.Command.{Command}
use Rattle.bl_program.specs.declared.command.Command.TheVariants.{Call as CallOf}
use Rattle.bl_program.specs.declared.command.Operand.{Operand}
use Rattle.bl_program.specs.declared.command.Operand.TheVariants.{Const}
use Rattle.bl_lower.proofs.CodeLayout.{HasAt, AreNot, Fresh, live, IsLaidOut, Calls}
use Rattle.bl_lower.proofs.Machine.{Program, states, plain_step}
use Rattle.bl_lower.proofs.MatchStates.{Holds, AllHold, AreCallers, Here, ArgumentsAt, IsEntry, IsLowered, IsProgram}
use Rattle.bl_emit.specs.Constructs.{pad, reads, moves, args, mark_of, Target, point}
use Rattle.bl_emit.specs.Shapes.{Shape, local, param, bottom, result_reads}
use Rattle.bl_lower.proofs.Frames.{local_value, static_low, store_kept, frame_kept, frame_rebuilt, callers_kept, Reaches, Then, knowing}
use Rattle.bl_lower.proofs.StraightLineItems.{arrives}
use Rattle.bl_lower.proofs.ConstructExits.{pad_is_take, zip_take, zip_drop, taken_length, moves_length}
use Rattle.bl_lower.proofs.Sizes.{args_length}
use Rattle.bl_lower.proofs.States.{states_are}
use Rattle.bl_lower.proofs.PlainRuns.{Kept, at, does, Moved, moved, Value, holds_value, all_later, has_front, has_back, read_written, read_deeper, kept_written}

module _ (tree : Tree) (program : Program) (bound : ℕ) (is : IsProgram tree program bound) where
  -- arguments were given to a deeper depth
  record Passed (called : ℕ) (s : Plain) (index count : ℕ) (vs : List ℕ) : Type 0 where
    registers : Registers
    comes : StepsTo (plain_step program) count s (at (shift count s.position) registers s)
    kept : Kept s.registers registers (suc (depth s)) (param (program.shape called) index) count
    arguments : ArgumentsAt program bound registers (suc (depth s)) called index vs

  args_run : (mark called : ℕ) (s : Plain) (ops : List Operand) (vs : List ℕ) (index low next : ℕ) → HasAt program.commands s.position (args mark called index ops) → program.statics ≤ low
      → AllHold s.registers (depth s) low next ops vs → Passed called s index (length ops) vs
  args_run mark called s [] [] index low next h le all = record { registers = s.registers; comes = refl; kept = λ e x out. refl; arguments = tt }
  args_run mark called s [] (v ∷ vs) index low next h le all = absurd all
  args_run mark called s (a ∷ ops) [] index low next h le all = absurd all
  args_run mark called s (a ∷ ops) (v ∷ vs) index low next h le all =
      let shape = program.shape called in
      let down = suc (depth s) in
      let r' = written s.registers down (param shape index) v in
      let t = at (suc s.position) r' s in
      let g = args_run mark called t ops vs (suc index) low next h.1 le
      (all_later s.registers r' (depth s) low next low next ops vs (λ x above below. read_deeper s.registers down (param shape index) v (depth s) x (λ e. omega (arith, e))) (omega arith) (omega arith) all.1) in
      let later : param shape (suc index) ≡ suc (param shape index) = omega arith in
      record {
        registers = g.registers;
        comes = (t, does program s (arg_of mark called index a) h.0 ∙ ap (λ n. on s (written s.registers down (param shape index) n)) (holds_value program s low next a v le all.0), g.comes);
        kept = λ e x out. g.kept e x (λ same above below. out same (omega (arith, later, above)) (omega (arith, later, below)))
            ∙ kept_written s.registers down (param shape index) (length ops) v e x out;
        arguments = (g.kept down (param shape index) (λ same above below. omega (arith, later, above)) ∙ read_written s.registers down (param shape index) v, g.arguments);
      }

  -- as many callers as positions
  as_deep : (r : Registers) (called : ℕ) (callers : List Frame) (chain : List ℕ) → AreCallers program bound r called callers chain → length callers ≡ length chain
  as_deep r called [] [] h = refl
  as_deep r called [] (back ∷ chain) h = absurd h
  as_deep r called (frame ∷ callers) [] h = absurd h
  as_deep r called (frame ∷ callers) (back ∷ chain) h = ap suc (as_deep r frame.number callers chain h.1)

  pub call_at_reaches : (used f : ℕ) (type : Signature) (open_ones : List Target) (stack : List Operand) (next : ℕ) (results_at after_it : ℕ) (state : State) (s : Plain) → Here program bound open_ones stack next state s
      → (program.shape f).params ≡ length type.params
      → HasAt program.commands s.position (args (mark_of open_ones) f 0 (reverse (pad (program.shape f).params stack)) ++ CallOf f ∷ moves (mark_of open_ones) results_at (result_reads (program.shape f) 0 (program.shape f).results))
      → (program.shape f).params ≤ length stack → used + ((program.shape f).params + 1) ≤ bound → next ≤ results_at
      → results_at + (program.shape f).results ≤ (program.shape state.frame.number).limit
      → (after_it ≡ shift (program.shape f).results (suc (shift (program.shape f).params s.position))) ⊎ (slice_get program.commands (shift (program.shape f).results (suc (shift (program.shape f).params s.position))) ≡ Some (jump_to after_it))
      → IsLaidOut program bound state.frame.number open_ones
      (live (point after_it (reverse (reads results_at (program.shape f).results) ++ drop (program.shape f).params stack) (results_at + (program.shape f).results))) state.frame.rest
      → Reaches tree program bound used (call_at type f state) s
  call_at_reaches used f type open_ones stack next results_at after_it state s h typed calls_commands calls_enough calls_most later limit jumps laid =
      subst (λ n. Reaches tree program bound used (called n) s) typed (elim (cases_lt (source_depth state) most_calls) [ inl lt ↦ goes_in lt | inr le ↦ exhausted le ])
    where
      called : ℕ → Next Config
      called n = if nat_lt (source_depth state) most_calls then goes (entering state.store f (operands n state) (caller n state ∷ state.callers)) else trap StackExhausted state

      mark : ℕ
      mark = mark_of open_ones

      count : ℕ
      count = (program.shape f).params

      low : ℕ
      low = bottom (program.shape state.frame.number)

      ops : List Operand
      ops = reverse (take count stack)

      back : List Command
      back = CallOf f ∷ moves (mark_of open_ones) results_at (result_reads (program.shape f) 0 (program.shape f).results)

      commands : HasAt program.commands s.position (args mark f 0 ops ++ back)
      commands = subst (λ l. HasAt program.commands s.position (args mark f 0 (reverse l) ++ back)) (pad_is_take count stack calls_enough) calls_commands

      long : length ops ≡ count
      long = taken_length count stack calls_enough

      all : AllHold s.registers (depth s) low next ops (operands count state)
      all = zip_reverse (Holds s.registers (depth s) low next) (take count stack) (take count state.frame.values) (zip_take (Holds s.registers (depth s) low next) count stack state.frame.values h.frame_is.values)

      p : Passed f s 0 count (operands count state)
      p = subst (λ n. Passed f s 0 n (operands count state)) long (args_run mark f s ops (operands count state) 0 low next (has_front program.commands s.position (args mark f 0 ops) back commands) (static_low program bound is.layout state.frame.number) all)

      t : Plain
      t = at (shift count s.position) p.registers s

      behind : HasAt program.commands (shift count s.position) back
      behind = subst (λ n. HasAt program.commands (shift n s.position) back) (args_length mark f 0 ops ∙ long) (has_back program.commands s.position (args mark f 0 ops) back commands)

      same_depth : length state.callers ≡ length s.chain
      same_depth = as_deep s.registers state.frame.number state.callers s.chain h.callers

      exhausted : most_calls ≤ source_depth state → Reaches tree program bound used (called count) s
      exhausted le =
          subst (λ b. Reaches tree program bound used (if b then goes (entering state.store f (operands count state) (caller count state ∷ state.callers)) else trap StackExhausted state) s) (sym (le-ltb (source_depth state) most_calls le)) (
            count + 1,
            omega arith,
            omega (arith, calls_most),
            comes_to_end (plain_step program) count 1 s t (trapped StackExhausted state.store.memories) p.comes
                (last t (trapped StackExhausted state.store.memories) (does program t (CallOf f) behind.0
                ∙ ap (λ b. if b then goes (record t { position = (program.shape f).entry; chain = suc t.position ∷ t.chain }) else ends (trapped StackExhausted (states program t))) (le-ltb (depth t) most_calls (omega (arith, same_depth, le)))
                ∙ ap (λ m. ends (trapped StackExhausted m)) (states_are program t state.store (store_kept program bound is.layout s.registers p.registers s state.store (λ x lt. p.kept 0 x (λ same above below. omega (arith, same))) h.store)))),
          )

      u : Plain
      u = record t { position = (program.shape f).entry; chain = suc t.position ∷ t.chain }

      -- the depths up to this one are as before
      before : (e x : ℕ) → e ≤ depth s → p.registers e x ≡ s.registers e x
      before e x le = p.kept e x (λ same above below. omega (arith, same, le))

      goes_in : source_depth state < most_calls → Reaches tree program bound used (called count) s
      goes_in lt =
          subst (λ b. Reaches tree program bound used (if b then goes (entering state.store f (operands count state) (caller count state ∷ state.callers)) else trap StackExhausted state) s) (sym (lt-ltb (source_depth state) most_calls lt)) (
            count + 1,
            u,
            omega arith,
            omega (arith, calls_most),
            comes_then (plain_step program) count 1 s t u p.comes (
              u,
              does program t (CallOf f) behind.0
                  ∙ ap (λ b. if b then goes u else ends (trapped StackExhausted (states program t))) (lt-ltb (depth t) most_calls (omega (arith, same_depth, lt))),
              refl,
            ),
            record {
              store_is = store_kept program bound is.layout s.registers p.registers s state.store (λ x lt. before 0 x (omega arith)) h.store;
              position = refl;
              count = sym (zip_length (Holds s.registers (depth s) low next) ops (operands count state) all) ∙ long;
              arguments_are = p.arguments;
              callers_are = (
                record {
                  open_ones = open_ones;
                  stack = drop count stack;
                  next = results_at;
                  frame_is = frame_kept program bound is.layout s.registers p.registers (depth s) open_ones (drop count stack) results_at (caller count state) (λ x own side. before (depth s) x (omega arith)) (
                      frame_rebuilt tree program bound s.registers (depth s) open_ones stack (drop count stack) next results_at (drop count state.frame.values) state.frame.rest state.frame h.frame_is
                      (all_later s.registers s.registers (depth s) low next low results_at (drop count stack) (drop count state.frame.values) (λ x up down. refl) (omega arith) later
                      (zip_drop (Holds s.registers (depth s) low next) count stack state.frame.values h.frame_is.values)) (omega (arith, h.frame_is.above, later)) (omega (arith, limit)));
                  moves_are = behind.1;
                  room = limit;
                  after_it = after_it;
                  jumps = jumps;
                  laid = laid;
                },
                callers_kept program bound is.layout s.registers p.registers state.frame.number state.callers s.chain (λ e x some le. before e x (omega (arith, le))) h.callers,
              );
            },
          )

  -- the type of a function of the tree
  pub record HasType (f : ℕ) (type : Signature) : Type 0 where
    pub function : Function
    pub exists : slice_get tree.functions f ≡ Some function
    pub typed : slice_get tree.types function.type_index ≡ Some type

  pub has_type : (f : ℕ) (type : Signature) → type_of tree f ≡ Some type → HasType f type
  has_type f type e = from (slice_get tree.functions f) refl e
    where
      from : (o : Option Function) → slice_get tree.functions f ≡ o → option_and_then (λ function. slice_get tree.types function.type_index) o ≡ Some type → HasType f type
      from None g e = absurd (none-some type e)
      from (Some function) g e = record { function = function; exists = g; typed = e }

  pub call_reaches : (f : ℕ) (open_ones : List Target) (stack : List Operand) (next : ℕ) (state : State) (s : Plain) → Here program bound open_ones stack next state s
      → Calls program bound state.frame.number (mark_of open_ones) f (point s.position stack next) → next + (program.shape f).results ≤ (program.shape state.frame.number).limit
      → IsLaidOut program bound state.frame.number open_ones
      (live (point (shift (program.shape f).results (suc (shift (program.shape f).params s.position))) (reverse (reads next (program.shape f).results) ++ drop (program.shape f).params stack) (next + (program.shape f).results))) state.frame.rest
      → Then tree program bound 0 (call tree f state) s
  call_reaches f open_ones stack next state s h calls limit laid =
      knowing tree program bound 0 (type_of tree f) s (λ type. call_at type f state) (λ type got has.
      let t = has_type f type got in
      call_at_reaches 0 f type open_ones stack next next (shift (program.shape f).results (suc (shift (program.shape f).params s.position))) state s h (is.functions f t.function type t.exists t.typed).params calls.commands calls.enough (omega (arith, calls.most)) (omega arith) limit (inl refl) laid)

  -- ---- entering

  argument_at : (r : Registers) (d number index x v : ℕ) (vs : List ℕ) → ArgumentsAt program bound r d number index vs → slice_get vs x ≡ Some v → r d (param (program.shape number) (index + x)) ≡ v
  argument_at r d number index x v [] h e = absurd (none-some v e)
  argument_at r d number index zero v (u ∷ vs) h e =
      let same : index ≡ index + 0 = omega arith in subst (λ n. r d (param (program.shape number) n) ≡ v) same (h.0 ∙ same_Some u v e)
  argument_at r d number index (suc x) v (u ∷ vs) h e =
      let same : suc index + x ≡ index + suc x = omega arith in subst (λ n. r d (param (program.shape number) n) ≡ v) same (argument_at r d number (suc index) x v vs h.1 e)

  read_at : (r : Registers) (d low high first x v : ℕ) (vs : List ℕ) → AllHold r d low high (reads first (length vs)) vs → slice_get vs x ≡ Some v → r d (first + x) ≡ v
  read_at r d low high first x v [] h e = absurd (none-some v e)
  read_at r d low high first zero v (u ∷ vs) h e = let same : first ≡ first + 0 = omega arith in subst (λ n. r d n ≡ v) same (h.0.2 ∙ same_Some u v e)
  read_at r d low high first (suc x) v (u ∷ vs) h e =
      let same : suc first + x ≡ first + suc x = omega arith in subst (λ n. r d n ≡ v) same (read_at r d low high (suc first) x v vs h.1 e)

  get_append : (xs ys : List ℕ) (x v : ℕ) → slice_get (xs ++ ys) x ≡ Some v → (x < length xs) × (slice_get xs x ≡ Some v) ⊎ (y : ℕ) × (x ≡ length xs + y) × (slice_get ys y ≡ Some v)
  get_append [] ys x v e = inr (x, omega arith, e)
  get_append (u ∷ xs) ys zero v e = inl (omega arith, e)
  get_append (u ∷ xs) ys (suc x) v e = elim (get_append xs ys x v e) [
    | inl h ↦ inl (omega (arith, h.0), h.1)
    | inr h ↦ inr (h.0, omega (arith, h.1), h.2)
  ]

  zeros_hold : (r : Registers) (statics d count : ℕ) → AllZip (Value r statics d) (replicate count (Const 0)) (replicate count 0)
  zeros_hold r statics d zero = tt
  zeros_hold r statics d (suc count) = (refl, zeros_hold r statics d count)

  zeros_not : (x count : ℕ) → AreNot x (replicate count (Const 0))
  zeros_not x zero = tt
  zeros_not x (suc count) = (tt, zeros_not x count)

  zeros_fresh : (first count : ℕ) → Fresh first (replicate count (Const 0))
  zeros_fresh first zero = tt
  zeros_fresh first (suc count) = (zeros_not first count, zeros_fresh (suc first) count)

  pub enter_reaches : (store : Store) (number : ℕ) (arguments : List ℕ) (callers : List Frame) (s : Plain) → IsEntry program bound store number arguments callers s
      → Then tree program bound 0 (enter tree store number arguments callers) s
  enter_reaches store number arguments callers s h =
      knowing tree program bound 0 (slice_get tree.functions number) s (λ function. known (slice_get tree.types function.type_index) (λ type.
      go (record { store = store; frame = entered number function type arguments; callers = callers }))) (λ function exists.
      knowing tree program bound 0 (slice_get tree.types function.type_index) s (λ type. go (record { store = store; frame = entered number function type arguments; callers = callers })) (λ type typed has.
      begins function type (is.functions number function type exists typed)))
    where
      begins : (function : Function) (type : Signature) → IsLowered program bound number function type
          → Reaches tree program bound 0 (go (record { store = store; frame = entered number function type arguments; callers = callers })) s
      begins function type l =
          arrives tree program bound is.layout 0 (count + 1) [] [] (bottom shape) (record { store = store; frame = entered number function type arguments; callers = callers }) s u (omega arith) (omega (arith, l.most))
          (comes_then (plain_step program) count 1 s t u m.comes (u, does program t (jump_to (suc (shift count shape.entry))) jump.0, refl))
          (record {
            store = store_kept program bound is.layout s.registers m.registers s store (λ x lt. m.kept 0 x (λ same above below. omega (arith, same))) h.store_is;
            frame_is = record {
              arity = sym l.results;
              size = omega (arith, length-append arguments (replicate (length (locals_of function.code)) 0), length-replicate {A = ℕ} (length (locals_of function.code)) 0, h.count, l.locals);
              locals = λ x v got. locals_are x v (subst (λ n. slice_get (arguments ++ replicate n 0) x ≡ Some v) (sym l.locals) got);
              labels = tt;
              values = tt;
              above = omega arith;
              limit = is.layout.room number;
            };
            callers = callers_kept program bound is.layout s.registers m.registers number callers s.chain (λ e x some le. m.kept e x (λ same above below. omega (arith, same, le))) h.callers_are;
          }) l.body
        where
          shape : Shape
          shape = program.shape number

          count : ℕ
          count = shape.locals

          first : ℕ
          first = shape.first + shape.params + shape.results

          commands : HasAt program.commands s.position (moves 0 first (replicate count (Const 0)) ++ jump_to (suc (shift count shape.entry)) ∷ [])
          commands = subst (λ n. HasAt program.commands n (moves 0 first (replicate count (Const 0)) ++ jump_to (suc (shift count shape.entry)) ∷ [])) (sym h.position) l.entry

          long : length (replicate count (Const 0)) ≡ count
          long = length-replicate {A = Operand} count (Const 0)

          m : Moved program s first count (replicate count 0)
          m = moved program s 0 (replicate count (Const 0)) (replicate count 0) first count long
              (has_front program.commands s.position (moves 0 first (replicate count (Const 0))) (jump_to (suc (shift count shape.entry)) ∷ []) commands)
              (let a = is.layout.above number in omega (arith, a)) (zeros_fresh first count) (zeros_hold s.registers program.statics (depth s) count)

          t : Plain
          t = at (shift count s.position) m.registers s

          u : Plain
          u = at (suc (shift count shape.entry)) m.registers s

          jump : HasAt program.commands (shift count s.position) (jump_to (suc (shift count shape.entry)) ∷ [])
          jump = subst (λ n. HasAt program.commands (shift n s.position) (jump_to (suc (shift count shape.entry)) ∷ [])) (moves_length 0 first (replicate count (Const 0)) ∙ long)
              (has_back program.commands s.position (moves 0 first (replicate count (Const 0))) (jump_to (suc (shift count shape.entry)) ∷ []) commands)

          zeros : AllHold m.registers (depth s) first (first + count) (reads first (length {A = ℕ} (replicate count 0))) (replicate count 0)
          zeros = subst (λ n. AllHold m.registers (depth s) first (first + count) (reads first n) (replicate count 0)) (sym (length-replicate {A = ℕ} count 0)) m.holds

          locals_are : (x v : ℕ) → slice_get (arguments ++ replicate count 0) x ≡ Some v → m.registers (depth s) (local shape x) ≡ v
          locals_are x v got = from (local_value shape x) (get_append arguments (replicate count 0) x v got)
            where
              from : ((x < shape.params) × (local shape x ≡ shape.first + x)) ⊎ ((shape.params ≤ x) × (local shape x ≡ shape.first + shape.results + x))
                  → (x < length arguments) × (slice_get arguments x ≡ Some v) ⊎ (y : ℕ) × (x ≡ length arguments + y) × (slice_get (replicate count 0) y ≡ Some v) → m.registers (depth s) (local shape x) ≡ v
              from (inl i) (inl g) =
                  let same : shape.first + x ≡ shape.first + (0 + x) = omega arith in
                  ap (m.registers (depth s)) (i.1 ∙ same) ∙ m.kept (depth s) (shape.first + (0 + x)) (λ same above below. omega (arith, above, i.0))
                  ∙ argument_at s.registers (depth s) number 0 x v arguments h.arguments_are g.1
              from (inl i) (inr g) = absurd (omega (arith, i.0, g.1, h.count))
              from (inr i) (inl g) = absurd (omega (arith, i.0, g.0, h.count))
              from (inr i) (inr g) =
                  let same : local shape x ≡ first + g.0 = omega (arith, i.1, g.1, h.count) in
                  ap (m.registers (depth s)) same ∙ read_at m.registers (depth s) first (first + count) first g.0 v (replicate count 0) zeros g.2
