-- The machine follows the items that open, part and close constructs.
use Rattle.std.proofs.Common.{◌≡◌, ℕ, ◌+◌, ◌-◌, Bool, true, false, List, [], ◌∷◌, ◌≤◌, ◌++◌, length, reverse, take, drop, refl, sym, ap, ◌∙◌, subst, arith, append_assoc, length-append, length-drop}
use Rattle.std.specs.Prelude.{◌==◌, if◌then◌else◌}
use Rattle.std.proofs.lemmas.List.{length-reverse, take-append-drop}
use Rattle.bl_base.specs.Runs.{Next}
use Rattle.bl_wasm.specs.declared.instruction.Instr.{Instr}
use Rattle.bl_wasm.specs.declared.instruction.Instr.TheVariants.{Loop}
use Rattle.bl_wasm.specs.declared.types.BlockType.{BlockType}
use Rattle.bl_wasm.specs.declared.types.FuncType.{FuncType}
use Rattle.bl_wasm.specs.declared.linked.Tree.{Tree}
use Rattle.bl_reduce.specs.Configurations.{ControlLabel, State, Config, with_values}
use Rattle.bl_reduce.specs.Control.{items_behind_end, items_of_else, enter_block, enter_loop, enter_if, leave_label, reach_end, reach_else}
use Rattle.bl_machine.specs.Machines.{Stepped, running, popped, at_place, opened, closed}
use Rattle.bl_machine.specs.MatchStates.{under, values_of, IsExit, AreExits, IsState}
use Rattle.bl_machine.specs.Transitions.{in_block, in_loop, chosen_part}
use Rattle.bl_machine.specs.declared.jumps.Jump.{Jump}
use Rattle.bl_machine.specs.declared.machine.Exit.{Exit}
use Rattle.bl_machine.specs.declared.machine.Machine.{Machine}
use Rattle.bl_machine.proofs.ConstructEnds.{IsJump}
use Rattle.bl_machine.proofs.StackLemmas.{front_is, on_top}
use Rattle.bl_machine.proofs.StraightLineSimulation.{Then, popping}

-- the exit of the innermost label, and the others
pub record Innermost (body : List Instr) (base : ℕ) (label : ControlLabel) (labels : List ControlLabel) (exits : List Exit) : Type 0 where
  pub exit : Exit
  pub others : List Exit
  pub split : exits ≡ exit ∷ others
  pub is_exit : IsExit body base label labels exit
  pub are_exits : AreExits body base labels others

pub innermost_exit : (body : List Instr) (base : ℕ) (label : ControlLabel) (labels : List ControlLabel) (exits : List Exit) → AreExits body base (label ∷ labels) exits
    → Innermost body base label labels exits
innermost_exit body base label labels [] h = absurd h
innermost_exit body base label labels (exit ∷ others) h = record { exit = exit; others = others; split = refl; is_exit = h.0; are_exits = h.1 }

module _ (tree : Tree) where
  abbrev body_of : State → List Instr
  body_of state = state.frame.function.code.items

  -- ---- opening

  abbrev inside_of : ℕ → ℕ → List Instr → List Instr → State → State
  inside_of arity count continuation inside state = record state {
    frame = record state.frame {
      labels = record { arity = arity; continuation = continuation; below = drop count state.frame.values } ∷ state.frame.labels;
      values = take count state.frame.values;
      rest = inside;
    };
  }

  module _ (m : Machine) (state : State) (is : IsState tree m state) (count : ℕ) (enough : count ≤ length state.frame.values) where
    -- a label more parts the values, and is nothing else
    parted : values_of state.frame ≡ take count state.frame.values ++ (drop count state.frame.values ++ under state.frame.labels)
    parted = ap (λ v. v ++ under state.frame.labels) (sym (take-append-drop count state.frame.values))
        ∙ append_assoc (take count state.frame.values) (drop count state.frame.values) (under state.frame.labels)

    below_it : length m.stack - count ≡ length is.lower.values + length (drop count state.frame.values ++ under state.frame.labels)
    below_it =
        let high : length m.stack ≡ length is.lower.values + length (values_of state.frame) =
        ap length is.current.values ∙ length-append is.lower.values (reverse (values_of state.frame)) ∙ ap (λ n. length is.lower.values + n) (length-reverse (values_of state.frame)) in
        omega (
          arith,
          high,
          enough,
          length-append state.frame.values (under state.frame.labels),
          length-append (drop count state.frame.values) (under state.frame.labels),
          length-drop count state.frame.values,
        )

    opened_is : (arity place next : ℕ) (continuation inside : List Instr) → continuation ≡ drop place (body_of state) → inside ≡ drop next (body_of state)
        → IsState tree (at_place next (opened arity count place m)) (inside_of arity count continuation inside state)
    opened_is arity place next continuation inside there here =
        let exit : Exit = record { arity = arity; place = place; height = length m.stack - count } in record {
          memories = is.memories;
          globals = is.globals;
          lower = is.lower;
          current = record {
            exists = is.current.exists;
            number = is.current.number;
            place = here;
            arity = is.current.arity;
            values = is.current.values ∙ ap (λ v. is.lower.values ++ reverse v) parted;
            locals = is.current.locals;
            exits = exit ∷ is.current.exits;
            labels = ap (λ labels. labels ++ exit ∷ []) is.current.labels ∙ sym (on_top is.lower.labels exit is.current.exits);
            are_exits = (record { arity = refl; place = there; height = below_it }, is.current.are_exits);
            values_below = is.current.values_below;
            locals_below = is.current.locals_below;
            labels_below = is.current.labels_below;
          };
          callers = is.callers;
        }

  -- the counts that were found for an item are those of the type of the construct that it opens
  pub record HasCounts (jump : Jump) (type : FuncType) : Type 0 where
    pub params : jump.counts.params ≡ length type.params
    pub results : jump.counts.results ≡ length type.results

  module _ (m : Machine) (state : State) (type : FuncType) (jump : Jump) (is : IsState tree m state) (counts : HasCounts jump type) (enough : length type.params ≤ length state.frame.values) where
    -- a block is entered, or a part of an if
    inside_block : (next : ℕ) (inside : List Instr) → IsJump (body_of state) state.frame.rest jump.ends → inside ≡ drop next (body_of state)
        → Then tree (running (at_place next (in_block jump m))) (enter_block type inside state)
    inside_block next inside lands here has =
        subst (λ n. IsState tree (at_place next (opened jump.counts.results n jump.ends.end m)) (inside_of (length type.results) (length type.params) (items_behind_end [] state.frame.rest) inside state)) (sym counts.params)
        (subst (λ n. IsState tree (at_place next (opened n (length type.params) jump.ends.end m)) (inside_of (length type.results) (length type.params) (items_behind_end [] state.frame.rest) inside state)) (sym counts.results)
        (opened_is m state is (length type.params) enough (length type.results) jump.ends.end next (items_behind_end [] state.frame.rest) inside lands.end here))

    pub block_simulates : IsJump (body_of state) state.frame.rest jump.ends → Then tree (running (in_block jump m)) (enter_block type state.frame.rest state)
    block_simulates lands = inside_block m.current.place state.frame.rest lands is.current.place

    pub else_part_simulates : IsJump (body_of state) state.frame.rest jump.ends
        → Then tree (running (at_place jump.ends.else_part (in_block jump m))) (enter_block type (items_of_else [] state.frame.rest) state)
    else_part_simulates lands = inside_block jump.ends.else_part (items_of_else [] state.frame.rest) lands lands.else_part

    pub loop_simulates : (kind : BlockType) (place : ℕ) → Loop kind ∷ state.frame.rest ≡ drop place (body_of state) → Then tree (running (in_loop place jump m)) (enter_loop kind type state)
    loop_simulates kind place here has =
        subst (λ n. IsState tree (opened n n place m) (inside_of (length type.params) (length type.params) (Loop kind ∷ state.frame.rest) state.frame.rest state)) (sym counts.params)
        (opened_is m state is (length type.params) enough (length type.params) place m.current.place (Loop kind ∷ state.frame.rest) state.frame.rest here is.current.place)

  pub either : (b : Bool) (one other : Stepped) (first second : Next Config) → Then tree one first → Then tree other second
      → Then tree (if b then one else other) (if b then first else second)
  either true one other first second h i = h
  either false one other first second h i = i

  pub if_simulates : (m : Machine) (state : State) (type : FuncType) (jump : Jump) → IsState tree m state → IsJump (body_of state) state.frame.rest jump.ends → HasCounts jump type
      → ((v : ℕ) (vs : List ℕ) → state.frame.values ≡ v ∷ vs → length type.params ≤ length vs) → Then tree (chosen_part jump m) (enter_if type state)
  if_simulates m state type jump is lands counts enough =
      popping tree m state is
      (λ condition state. if condition == 0 then enter_block type (items_of_else [] state.frame.rest) state else enter_block type state.frame.rest state)
      (chosen_part jump m) (λ v vs e t below.
      let within = with_values vs state in
      let other : Stepped = running (at_place jump.ends.else_part (in_block jump (popped m))) in
      let first : Stepped = running (in_block jump (popped m)) in
      subst (λ x. Then tree (if x == 0 then other else first) (if v == 0 then enter_block type (items_of_else [] state.frame.rest) within else enter_block type state.frame.rest within)) (sym t)
      (either (v == 0) other first (enter_block type (items_of_else [] state.frame.rest) within) (enter_block type state.frame.rest within)
      (else_part_simulates (popped m) within type jump below counts (enough v vs e) lands) (block_simulates (popped m) within type jump below counts (enough v vs e) lands)))

  -- ---- closing

  closed_is : (m : Machine) (state : State) (place : ℕ) (label : ControlLabel) (labels : List ControlLabel) (rest : List Instr) (is : IsState tree m state) → state.frame.labels ≡ label ∷ labels
      → rest ≡ drop place (body_of state)
      → IsState tree (at_place place (closed m)) (record state { frame = record state.frame { labels = labels; values = state.frame.values ++ label.below; rest = rest } })
  closed_is m state place label labels rest is e here =
      let i = innermost_exit (body_of state) (length is.lower.values) label labels is.current.exits (subst (λ ls. AreExits (body_of state) (length is.lower.values) ls is.current.exits) e is.current.are_exits) in
      let shape : m.labels ≡ (is.lower.labels ++ reverse i.others) ++ i.exit ∷ [] =
      is.current.labels ∙ ap (λ exits. is.lower.labels ++ reverse exits) i.split ∙ on_top is.lower.labels i.exit i.others in
      let same : state.frame.values ++ under state.frame.labels ≡ (state.frame.values ++ label.below) ++ under labels =
      ap (λ ls. state.frame.values ++ under ls) e ∙ sym (append_assoc state.frame.values label.below (under labels)) in
      record {
        memories = is.memories;
        globals = is.globals;
        lower = is.lower;
        current = record {
          exists = is.current.exists;
          number = is.current.number;
          place = here;
          arity = is.current.arity;
          values = is.current.values ∙ ap (λ values. is.lower.values ++ reverse values) same;
          locals = is.current.locals;
          exits = i.others;
          labels = ap (λ labels. take (length labels - 1) labels) shape ∙ front_is (is.lower.labels ++ reverse i.others) i.exit;
          are_exits = i.are_exits;
          values_below = is.current.values_below;
          locals_below = is.current.locals_below;
          labels_below = is.current.labels_below;
        };
        callers = is.callers;
      }

  leaving : (m : Machine) (state : State) (place : ℕ) (rest : List Instr) (is : IsState tree m state) → rest ≡ drop place (body_of state)
      → Then tree (running (at_place place (closed m))) (leave_label state.frame.labels rest state)
  leaving m state place rest is here = from state.frame.labels refl
    where
      from : (labels : List ControlLabel) → state.frame.labels ≡ labels → Then tree (running (at_place place (closed m))) (leave_label labels rest state)
      from [] e has = absurd has
      from (label ∷ labels) e has = closed_is m state place label labels rest is e here

  pub end_simulates : (m : Machine) (state : State) → IsState tree m state → Then tree (running (closed m)) (reach_end state)
  end_simulates m state is = leaving m state m.current.place state.frame.rest is is.current.place

  pub else_simulates : (m : Machine) (state : State) (jump : Jump) → IsState tree m state → IsJump (body_of state) state.frame.rest jump.ends
      → Then tree (running (at_place jump.ends.end (closed m))) (reach_else state)
  else_simulates m state jump is lands = leaving m state jump.ends.end (items_behind_end [] state.frame.rest) is lands.end
