-- The machine follows calls through tables.
use Rattle.std.proofs.Common.{◌≡◌, ℕ, ◌==◌, ◌≤◌, Bool, true, false, List, ◌∷◌, length, Option, Some, None, slice_get, refl, sym, ap, ◌∙◌, subst}
use Rattle.std.specs.Prelude.{if◌then◌else◌, option_and_then, option_map, unwrap_or}
use Rattle.std.proofs.lemmas.Option.{slice_get-map, same_Some}
use Rattle.bl_base.specs.Runs.{trapped as trapped_with}
use Rattle.bl_base.specs.declared.trap.Trap.TheVariants as trap_kind
use Rattle.bl_wasm.specs.declared.linked.Function.{Function}
use Rattle.bl_wasm.specs.declared.linked.Signature.{Signature}
use Rattle.bl_wasm.specs.declared.linked.Tree.{Tree}
use Rattle.bl_wasm.specs.Linked.{type_of}
use Rattle.bl_wasm.specs.TypeNumbers.{first_of, is_same_type}
use Rattle.bl_wasm.proofs.EqualTypes.{numbers_tell, same_type}
use Rattle.bl_reduce.specs.Calls.{call_at, call_through, call_indirect}
use Rattle.bl_reduce.specs.Configurations.{State, trap, known, with_values}
use Rattle.bl_machine.specs.Bodies.{body_of, prepared_of}
use Rattle.bl_machine.specs.Machines.{trapped, top, popped}
use Rattle.bl_machine.specs.MatchStates.{IsState}
use Rattle.bl_machine.specs.Transitions.{call_of, slot_in, is_of_kind, called_through}
use Rattle.bl_machine.specs.declared.machine.Machine.{Machine}
use Rattle.bl_machine.proofs.CallSimulation.{bodies, body_got, call_simulates}
use Rattle.bl_machine.proofs.StraightLineSimulation.{Then, popping, knowing}

-- ---- calls

module _ (tree : Tree) (index : ℕ) where
  abbrev kind : Option ℕ
  kind = slice_get (prepared_of tree).kinds index

  -- the operands of a function of the type that is wanted are there
  abbrev pub AreThere : State → Type 0
  AreThere state = (wanted : Signature) → slice_get tree.types index ≡ Some wanted → length wanted.params ≤ length state.frame.values

  module _ (m : Machine) (state : State) (is : IsState tree m state) (enough : AreThere state) (wanted : Signature) (got : slice_get tree.types index ≡ Some wanted) where
    kind_is : kind ≡ Some (first_of tree.types wanted)
    kind_is = slice_get-map (first_of tree.types) tree.types index ∙ ap (option_map (first_of tree.types)) got

    module _ (number : ℕ) where
      tested : (type : Signature) → type_of tree number ≡ Some type → is_of_kind (slice_get (bodies tree) number) kind ≡ is_same_type type wanted
      tested type typed = from (slice_get tree.functions number) refl typed
        where
          from : (o : Option Function) → slice_get tree.functions number ≡ o → option_and_then (λ function. slice_get tree.types function.type_index) o ≡ Some type
              → is_of_kind (slice_get (bodies tree) number) kind ≡ is_same_type type wanted
          from None e typed = cc
          from (Some function) e typed =
              ap (λ o. is_of_kind o kind) (body_got tree number function e) ∙ ap (is_of_kind (Some (body_of tree function))) kind_is
              ∙ ap (λ o. unwrap_or o (length tree.types) == first_of tree.types wanted)
              (slice_get-map (first_of tree.types) tree.types function.type_index ∙ ap (option_map (first_of tree.types)) typed) ∙ numbers_tell tree.types type wanted function.type_index index typed got

      by_test : (type : Signature) → type_of tree number ≡ Some type → (b : Bool) → is_same_type type wanted ≡ b
          → Then tree (if b then call_of (slice_get (bodies tree) number) number m else trapped trap_kind.TypeMismatch m)
          (if b then call_at type number state else trap trap_kind.TypeMismatch state)
      by_test type typed true same =
          subst (λ o. Then tree (call_of (slice_get (bodies tree) number) number m) (known o (λ type. call_at type number state))) typed
          (call_simulates tree m state is number (λ found there.
          subst (λ t. length t.params ≤ length state.frame.values) (sym (same_Some found type (sym there ∙ typed) ∙ same_type type wanted same)) (enough wanted got)))
      by_test type typed false same = λ has. ap (trapped_with trap_kind.TypeMismatch) (sym is.memories)

    through : (slot : Option (Option ℕ)) → Then tree (called_through (prepared_of tree) kind slot m) (call_through tree wanted slot state)
    through None = λ has. ap (trapped_with trap_kind.UndefinedElement) (sym is.memories)
    through (Some None) = λ has. ap (trapped_with trap_kind.UninitializedElement) (sym is.memories)
    through (Some (Some number)) =
        knowing tree (type_of tree number) (λ type. if is_same_type type wanted then call_at type number state else trap trap_kind.TypeMismatch state)
        (called_through (prepared_of tree) kind (Some (Some number)) m) (λ type typed.
        subst (λ b. Then tree (if b then call_of (slice_get (bodies tree) number) number m else trapped trap_kind.TypeMismatch m)
        (if is_same_type type wanted then call_at type number state else trap trap_kind.TypeMismatch state)) (sym (tested number type typed))
        (by_test number type typed (is_same_type type wanted) refl))

  module _ (m : Machine) (state : State) (is : IsState tree m state) (enough : AreThere state) (v : ℕ) where
    in_table : (o : Option (List (Option ℕ)))
        → Then tree (called_through (prepared_of tree) kind (slot_in o v) m) (known o (λ table. known (slice_get tree.types index) (λ wanted. call_through tree wanted (slice_get table v) state)))
    in_table None has = absurd has
    in_table (Some table) has =
        knowing tree (slice_get tree.types index) (λ wanted. call_through tree wanted (slice_get table v) state) (called_through (prepared_of tree) kind (slice_get table v) m)
        (λ wanted got. through m state is enough wanted got (slice_get table v)) has

    of_function : (o : Option ℕ)
        → Then tree (called_through (prepared_of tree) kind (slot_in (slice_get tree.tables (unwrap_or o (length tree.tables))) v) m)
        (known (option_and_then (slice_get tree.tables) o) (λ table. known (slice_get tree.types index) (λ wanted. call_through tree wanted (slice_get table v) state)))
    of_function None has = absurd has
    of_function (Some number) has = in_table (slice_get tree.tables number) has

  pub call_indirect_simulates : (m : Machine) (state : State) → IsState tree m state → ((v : ℕ) (vs : List ℕ) → state.frame.values ≡ v ∷ vs → AreThere (with_values vs state))
      → Then tree (called_through (prepared_of tree) kind (slot_in (slice_get tree.tables (unwrap_or state.frame.function.table (length tree.tables))) (top m)) (popped m)) (call_indirect tree index state)
  call_indirect_simulates m state is enough =
      popping tree m state is (λ v state. known (option_and_then (slice_get tree.tables) state.frame.function.table) (λ table.
      known (slice_get tree.types index) (λ wanted. call_through tree wanted (slice_get table v) state)))
      (called_through (prepared_of tree) kind (slot_in (slice_get tree.tables (unwrap_or state.frame.function.table (length tree.tables))) (top m)) (popped m)) (λ v vs e t below.
      subst (λ x. Then tree (called_through (prepared_of tree) kind (slot_in (slice_get tree.tables (unwrap_or state.frame.function.table (length tree.tables))) x) (popped m))
      (known (option_and_then (slice_get tree.tables) state.frame.function.table) (λ table.
      known (slice_get tree.types index) (λ wanted. call_through tree wanted (slice_get table v) (with_values vs state))))) (sym t)
      (of_function (popped m) (with_values vs state) below (enough v vs e) v state.frame.function.table))
