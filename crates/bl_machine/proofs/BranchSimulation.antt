-- The machine follows branches and returns.
use Rattle.std.proofs.Common.{◌≡◌, ℕ, zero, suc, ◌+◌, ◌-◌, ◌≤◌, Bool, true, false, List, [], ◌∷◌, ◌++◌, length, reverse, take, drop, get_or, Option, Some, None, slice_get, refl, sym, ap, ◌∙◌, subst, arith, append_assoc, length-append}
use Rattle.std.specs.Prelude.{◌==◌, nat_lt, if◌then◌else◌, unwrap_or}
use Rattle.std.proofs.lemmas.Bool.{lt-ltb, le-ltb}
use Rattle.std.proofs.lemmas.List.{length-reverse, reverse-append, reverse-reverse}
use Rattle.std.proofs.lemmas.Option.{none-some}
use Rattle.std.proofs.Math.Dec.{eqb-suc-zero}
use Rattle.std.proofs.Math.Seq.{take-append_seam, get_or-append_seam}
use Rattle.bl_base.specs.Runs.{stuck, returned as returned_with}
use Rattle.bl_base.proofs.Lists.{past_end}
use Rattle.bl_wasm.specs.declared.instruction.Instr.{Instr}
use Rattle.bl_wasm.specs.declared.linked.Tree.{Tree}
use Rattle.bl_reduce.specs.Configurations.{ControlLabel, Frame, State, go, with_values}
use Rattle.bl_reduce.specs.Control.{branch_to, branch, branch_if, branch_by}
use Rattle.bl_reduce.specs.Returns.{return_to, return}
use Rattle.bl_machine.specs.Machines.{Stepped, running, popped, label_count, label_at, no_exit, to_label, left, resumed, returned}
use Rattle.bl_machine.specs.MatchStates.{Stacks, under, values_of, IsExit, AreExits, IsActivation, AreActivations, IsState, simulates}
use Rattle.bl_machine.specs.Transitions.{branched_to, branched, branched_if, branched_by}
use Rattle.bl_machine.specs.declared.machine.Exit.{Exit}
use Rattle.bl_machine.specs.declared.machine.Activation.{Activation}
use Rattle.bl_machine.specs.declared.machine.Machine.{Machine}
use Rattle.bl_machine.specs.declared.machine.Progress.TheVariants.{Returned}
use Rattle.bl_machine.proofs.BlockSimulation.{either}
use Rattle.bl_machine.proofs.StackLemmas.{Carries, unwound, unwound_is, last_is, front_is, on_top, on_others}
use Rattle.bl_machine.proofs.StraightLineSimulation.{Then, popping, with_upper}

-- ---- labels

-- the exit of a label
pub record Found (body : List Instr) (base : ℕ) (labels : List ControlLabel) (exits : List Exit) (l : ℕ) (label : ControlLabel) : Type 0 where
  pub inner : List Exit
  pub exit : Exit
  pub others : List Exit
  pub split : exits ≡ inner ++ exit ∷ others
  pub count : length inner ≡ l
  pub is_exit : IsExit body base label (drop (l + 1) labels) exit
  pub are_exits : AreExits body base (drop (l + 1) labels) others
  pub between : List ℕ
  pub lies : under labels ≡ between ++ (label.below ++ under (drop (l + 1) labels))

pub find_exit : (body : List Instr) (base : ℕ) (labels : List ControlLabel) (exits : List Exit) (l : ℕ) (label : ControlLabel) → AreExits body base labels exits → slice_get labels l ≡ Some label
    → Found body base labels exits l label
find_exit body base [] exits l label h e = absurd (none-some label e)
find_exit body base (first ∷ labels) [] l label h e = absurd h
find_exit body base (first ∷ labels) (exit ∷ exits) zero label h e =
    let same : first ≡ label = cc in
    subst (Found body base (first ∷ labels) (exit ∷ exits) zero) same (record {
      inner = [];
      exit = exit;
      others = exits;
      split = refl;
      count = refl;
      is_exit = h.0;
      are_exits = h.1;
      between = [];
      lies = refl;
    })
find_exit body base (first ∷ labels) (exit ∷ exits) (suc l) label h e =
    let f = find_exit body base labels exits l label h.1 e in
    let next : suc (l + 1) ≡ suc l + 1 = omega arith in
    record {
      inner = exit ∷ f.inner;
      exit = f.exit;
      others = f.others;
      split = ap (λ exits. exit ∷ exits) f.split;
      count = ap suc f.count;
      is_exit = subst (λ n. IsExit body base label (drop n (first ∷ labels)) f.exit) next f.is_exit;
      are_exits = subst (λ n. AreExits body base (drop n (first ∷ labels)) f.others) next f.are_exits;
      between = first.below ++ f.between;
      lies = ap (λ u. first.below ++ u) f.lies ∙ sym (append_assoc first.below f.between (label.below ++ under (drop (l + 1) labels)))
          ∙ ap (λ n. (first.below ++ f.between) ++ (label.below ++ under (drop n (first ∷ labels)))) next;
    }

pub as_many : (body : List Instr) (base : ℕ) (labels : List ControlLabel) (exits : List Exit) → AreExits body base labels exits → length labels ≡ length exits
as_many body base [] [] h = refl
as_many body base [] (exit ∷ exits) h = absurd h
as_many body base (label ∷ labels) [] h = absurd h
as_many body base (label ∷ labels) (exit ∷ exits) h = ap suc (as_many body base labels exits h.1)

module _ (tree : Tree) where
  abbrev items_of : State → List Instr
  items_of state = state.frame.function.code.items

  module _ (m : Machine) (state : State) (is : IsState tree m state) where
    -- ---- a branch within the function

    module _ (l : ℕ) (label : ControlLabel) (got : slice_get state.frame.labels l ≡ Some label) where
      found : Found (items_of state) (length is.lower.values) state.frame.labels is.current.exits l label
      found = find_exit (items_of state) (length is.lower.values) state.frame.labels is.current.exits l label is.current.are_exits got

      abbrev outer : List ControlLabel
      outer = drop (l + 1) state.frame.labels

      abbrev kept : List Exit
      kept = is.lower.labels ++ reverse found.others

      labels_shape : m.labels ≡ kept ++ found.exit ∷ reverse found.inner
      labels_shape =
          is.current.labels ∙ ap (λ exits. is.lower.labels ++ reverse exits) found.split ∙ on_others is.lower.labels found.inner (found.exit ∷ found.others)
          ∙ ap (λ ls. ls ++ reverse found.inner) (on_top is.lower.labels found.exit found.others) ∙ append_assoc kept (found.exit ∷ []) (reverse found.inner)

      labels_length : length m.labels ≡ length kept + (length found.inner + 1)
      labels_length = ap length labels_shape ∙ length-append kept (found.exit ∷ reverse found.inner) ∙ ap (λ n. length kept + n) (one_more (length-reverse found.inner))
        where
          one_more : length (reverse found.inner) ≡ length found.inner → length (found.exit ∷ reverse found.inner) ≡ length found.inner + 1
          one_more e = omega (arith, e)

      height_is : length m.labels - 1 - l ≡ length kept
      height_is = omega (arith, labels_length, found.count)

      within : nat_lt l (label_count m) ≡ true
      within = lt-ltb l (length m.labels - m.current.labels) (omega (arith, labels_length, found.count, is.current.labels_below, length-append is.lower.labels (reverse found.others)))

      label_found : label_at l m ≡ Some (found.exit, length kept)
      label_found =
          ap (λ b. if b then Some (get_or m.labels (length m.labels - 1 - l) no_exit, length m.labels - 1 - l) else None) within
          ∙ ap (λ n. Some (get_or m.labels n no_exit, n)) height_is
          ∙ ap (λ ls. Some (get_or ls (length kept) no_exit, length kept)) labels_shape
          ∙ ap (λ x. Some (x, length kept)) (get_or-append_seam kept found.exit (reverse found.inner) no_exit)

      abbrev base_values : List ℕ
      base_values = is.lower.values ++ reverse (label.below ++ under outer)

      stack_shape : m.stack ≡ (base_values ++ reverse found.between) ++ reverse state.frame.values
      stack_shape =
          is.current.values ∙ ap (λ u. is.lower.values ++ reverse (state.frame.values ++ u)) found.lies
          ∙ on_others is.lower.values state.frame.values (found.between ++ (label.below ++ under outer))
          ∙ ap (λ s. s ++ reverse state.frame.values) (on_others is.lower.values found.between (label.below ++ under outer))

      base_length : found.exit.height ≡ length base_values
      base_length = found.is_exit.height ∙ ap (λ n. length is.lower.values + n) (sym (length-reverse (label.below ++ under outer)))
          ∙ sym (length-append is.lower.values (reverse (label.below ++ under outer)))

      stack_behind : Carries label.arity state.frame.values
          → unwound found.exit.height found.exit.arity m.stack ≡ is.lower.values ++ reverse ((take label.arity state.frame.values ++ label.below) ++ under outer)
      stack_behind carries =
          ap (λ h. unwound h found.exit.arity m.stack) base_length ∙ ap (λ n. unwound (length base_values) n m.stack) found.is_exit.arity
          ∙ ap (unwound (length base_values) label.arity) stack_shape ∙ unwound_is base_values (reverse found.between) state.frame.values label.arity carries
          ∙ sym (on_others is.lower.values (take label.arity state.frame.values) (label.below ++ under outer))
          ∙ ap (λ v. is.lower.values ++ reverse v) (sym (append_assoc (take label.arity state.frame.values) label.below (under outer)))

      branched_there : Carries label.arity state.frame.values → simulates tree (running (to_label found.exit (length kept) m)) (branch_to (Some label) l state)
      branched_there carries = record {
        memories = is.memories;
        globals = is.globals;
        lower = is.lower;
        current = record {
          exists = is.current.exists;
          number = is.current.number;
          place = found.is_exit.place;
          arity = is.current.arity;
          values = stack_behind carries;
          locals = is.current.locals;
          exits = found.others;
          labels = ap (take (length kept)) labels_shape ∙ take-append_seam kept (found.exit ∷ reverse found.inner);
          are_exits = found.are_exits;
          values_below = is.current.values_below;
          locals_below = is.current.locals_below;
          labels_below = is.current.labels_below;
        };
        callers = is.callers;
      }

      to_label_simulates : Carries label.arity state.frame.values → simulates tree (branched l m) (branch_to (Some label) l state)
      to_label_simulates carries = subst (λ o. simulates tree (branched_to o m) (branch_to (Some label) l state)) (sym label_found) (branched_there carries)

    -- ---- returns

    module _ (carries : Carries state.frame.arity state.frame.values) where
      abbrev results : List ℕ
      results = take state.frame.arity state.frame.values

      -- the machine without the function, whose results lie on its callers' values
      abbrev bare : Machine
      bare = record m { stack = is.lower.values ++ reverse results; locals = is.lower.locals; labels = is.lower.labels }

      stack_left : unwound m.current.values m.current.arity m.stack ≡ is.lower.values ++ reverse results
      stack_left =
          ap (λ h. unwound h m.current.arity m.stack) is.current.values_below ∙ ap (λ n. unwound (length is.lower.values) n m.stack) is.current.arity
          ∙ ap (unwound (length is.lower.values) state.frame.arity) (is.current.values ∙ on_others is.lower.values state.frame.values (under state.frame.labels))
          ∙ unwound_is is.lower.values (reverse (under state.frame.labels)) state.frame.values state.frame.arity carries

      locals_left : take m.current.locals m.locals ≡ is.lower.locals
      locals_left = ap (λ n. take n m.locals) is.current.locals_below ∙ ap (take (length is.lower.locals)) is.current.locals ∙ take-append_seam is.lower.locals state.frame.locals

      labels_left : take m.current.labels m.labels ≡ is.lower.labels
      labels_left = ap (λ n. take n m.labels) is.current.labels_below ∙ ap (take (length is.lower.labels)) is.current.labels ∙ take-append_seam is.lower.labels (reverse is.current.exits)

      left_is : left m ≡ bare
      left_is =
          ap (λ s. record m { stack = s; locals = take m.current.locals m.locals; labels = take m.current.labels m.labels }) stack_left
          ∙ ap (λ ls. record m { stack = is.lower.values ++ reverse results; locals = ls; labels = take m.current.labels m.labels }) locals_left
          ∙ ap (λ ls. record m { stack = is.lower.values ++ reverse results; locals = is.lower.locals; labels = ls }) labels_left

      -- with the callers as the machine keeps them
      abbrev bare_with : List Activation → Machine
      bare_with callers = record bare { callers = callers }

      resumed_in : (frame : Frame) (a : Activation) (lower : Stacks) (frames : List Frame) (others : List Activation) → IsActivation tree frame a lower is.lower
          → AreActivations tree frames others lower
          → IsState tree (record bare { current = a; callers = reverse others }) (record { store = state.store; frame = record frame { values = results ++ frame.values }; callers = frames })
      resumed_in frame a lower frames others ia others_are = record {
        memories = is.memories;
        globals = is.globals;
        lower = lower;
        current = with_upper tree frame (results ++ frame.values) a lower is.lower bare.stack ia (
            ap (λ s. s ++ reverse results) ia.values ∙ sym (on_others lower.values results (values_of frame))
            ∙ ap (λ v. lower.values ++ reverse v) (sym (append_assoc results frame.values (under frame.labels)))
            );
        callers = subst (λ cs. AreActivations tree frames cs lower) (sym (reverse-reverse others)) others_are;
      }

      abbrev more_callers : List Activation → Activation → Machine
      more_callers others a = bare_with (reverse others ++ a ∷ [])

      some_callers : (others : List Activation) (a : Activation) → (length (reverse others ++ a ∷ []) == 0) ≡ false
      some_callers others a = ap (λ n. n == 0) (long (length-append (reverse others) (a ∷ []))) ∙ eqb-suc-zero (length (reverse others))
        where
          long : length (reverse others ++ a ∷ []) ≡ length (reverse others) + 1 → length (reverse others ++ a ∷ []) ≡ suc (length (reverse others))
          long e = omega (arith, e)

      resumed_is : (others : List Activation) (a : Activation) → resumed (more_callers others a) ≡ running (record bare { current = a; callers = reverse others })
      resumed_is others a =
          let cs = reverse others ++ a ∷ [] in
          let on : Stepped = running (record (bare_with cs) { current = get_or cs (length cs - 1) m.current; callers = take (length cs - 1) cs }) in
          let over : Stepped = record { progress = Returned; machine = bare_with cs } in
          ap (λ b. if b then over else on) (some_callers others a)
          ∙ ap (λ c. running (record bare { current = c; callers = take (length cs - 1) cs })) (last_is (reverse others) a m.current)
          ∙ ap (λ c. running (record bare { current = a; callers = c })) (front_is (reverse others) a)

      resuming : (frames : List Frame) (others : List Activation) → AreActivations tree frames others is.lower → simulates tree (resumed (bare_with (reverse others))) (return_to frames results state.store)
      resuming [] [] h =
          let values : is.lower.values ++ reverse results ≡ reverse results = ap (λ v. v ++ reverse results) h.values in
          ap (λ memories. returned_with (reverse results) memories) (sym is.memories) ∙ ap (λ v. returned_with v m.memories) (sym values)
      resuming [] (a ∷ others) h = absurd h
      resuming (frame ∷ frames) [] h = absurd h
      resuming (frame ∷ frames) (a ∷ others) h =
          let turned : reverse (a ∷ others) ≡ reverse others ++ a ∷ [] = reverse-append (a ∷ []) others in
          subst (λ cs. simulates tree (resumed (bare_with cs)) (return_to (frame ∷ frames) results state.store)) (sym turned)
          (subst (λ s. simulates tree s (return_to (frame ∷ frames) results state.store)) (sym (resumed_is others a)) (resumed_in frame a h.0 frames others h.1 h.2))

      pub return_simulates : simulates tree (returned m) (return state)
      return_simulates =
          subst (λ n. simulates tree (resumed n) (return state)) (sym left_is)
          (subst (λ cs. simulates tree (resumed (bare_with cs)) (return state)) (reverse-reverse m.callers) (resuming state.callers (reverse m.callers) is.callers))

  -- ---- branches

  -- the values that a branch takes are there
  abbrev pub Branches : State → Option ControlLabel → Type 0
  Branches state None = Carries state.frame.arity state.frame.values
  Branches state (Some label) = Carries label.arity state.frame.values

  none_found : (m : Machine) (state : State) (is : IsState tree m state) (l : ℕ) → slice_get state.frame.labels l ≡ None → label_at l m ≡ None
  none_found m state is l got =
      let many = as_many (items_of state) (length is.lower.values) state.frame.labels is.current.exits is.current.are_exits in
      let past = past_end state.frame.labels l got in
      let count : label_count m ≤ l =
      omega (arith, past, many, is.current.labels_below, ap length is.current.labels, length-append is.lower.labels (reverse is.current.exits), length-reverse is.current.exits) in
      ap (λ b. if b then Some (get_or m.labels (length m.labels - 1 - l) no_exit, length m.labels - 1 - l) else None) (le-ltb l (label_count m) count)

  out_of_all : (b : Bool) (m : Machine) (state : State) (is : IsState tree m state) → Carries state.frame.arity state.frame.values
      → Then tree (returned m) (if b then return state else stuck)
  out_of_all true m state is carries has = return_simulates m state is carries
  out_of_all false m state is carries has = absurd has

  pub branch_simulates : (m : Machine) (state : State) (l : ℕ) → IsState tree m state → Branches state (slice_get state.frame.labels l) → Then tree (branched l m) (branch l state)
  branch_simulates m state l is carries = from (slice_get state.frame.labels l) refl carries
    where
      from : (o : Option ControlLabel) → slice_get state.frame.labels l ≡ o → Branches state o → Then tree (branched l m) (branch_to o l state)
      from None e carries = subst (λ o. Then tree (branched_to o m) (branch_to None l state)) (sym (none_found m state is l e)) (out_of_all (l == length state.frame.labels) m state is carries)
      from (Some label) e carries = λ has. to_label_simulates m state is l label e carries

  pub branch_if_simulates : (m : Machine) (state : State) (l : ℕ) → IsState tree m state
      → ((v : ℕ) (vs : List ℕ) → state.frame.values ≡ v ∷ vs → Branches (with_values vs state) (slice_get state.frame.labels l)) → Then tree (branched_if l m) (branch_if l state)
  branch_if_simulates m state l is carries =
      popping tree m state is (λ condition state. if condition == 0 then go state else branch l state) (branched_if l m) (λ v vs e t below.
      subst (λ x. Then tree (if x == 0 then running (popped m) else branched l (popped m)) (if v == 0 then go (with_values vs state) else branch l (with_values vs state))) (sym t)
      (either tree (v == 0) (running (popped m)) (branched l (popped m)) (go (with_values vs state)) (branch l (with_values vs state))
      (λ has. below) (branch_simulates (popped m) (with_values vs state) l below (carries v vs e))))

  pub branch_by_simulates : (m : Machine) (state : State) (ls : List ℕ) (default : ℕ) → IsState tree m state
      → ((v : ℕ) (vs : List ℕ) → state.frame.values ≡ v ∷ vs → Branches (with_values vs state) (slice_get state.frame.labels (unwrap_or (slice_get ls v) default)))
      → Then tree (branched_by ls default m) (branch_by ls default state)
  branch_by_simulates m state ls default is carries =
      popping tree m state is (λ index state. branch (unwrap_or (slice_get ls index) default) state) (branched_by ls default m) (λ v vs e t below.
      subst (λ x. Then tree (branched (unwrap_or (slice_get ls x) default) (popped m)) (branch (unwrap_or (slice_get ls v) default) (with_values vs state))) (sym t)
      (branch_simulates (popped m) (with_values vs state) (unwrap_or (slice_get ls v) default) below (carries v vs e)))
