-- Plain steps of the program of a linked tree, by shapes and as the program's own.
use Rattle.std.proofs.Common.{◌≡◌, ℕ, zero, suc, ◌+◌, ◌*◌, ◌%◌, ◌^◌, cond, List, [], ◌∷◌, ◌++◌, length, map, take, drop, Option, Some, None, slice_get, refl, sym, ap, ap₂, ◌∙◌, arith}
use Rattle.std.specs.Prelude.{nat_lt, ◌==◌}
use Rattle.bl_base.specs.Quantity.{most_calls}
use Rattle.bl_base.specs.Runs.{MemoryState, Outcome, Next, goes, ends, returned, trapped, EndsAfter, last, more}
use Rattle.bl_base.specs.declared.trap.Trap.TheVariants as trap_kind
use Rattle.bl_ops.specs.Numerics.{meaning}
use Rattle.bl_reduce.specs.Runnable.{IsRunnable}
use Rattle.bl_wasm.specs.declared.linked.Memory.{Memory}
use Rattle.bl_wasm.specs.declared.linked.Tree.{Tree}
use Rattle.bl_program.specs.Layout.{size_of, result as result_of, param as param_of, running, sum_before}
use Rattle.bl_program.specs.Outcomes.{space_of as spaces_of}
use Rattle.bl_program.specs.Steps.{Registers, Plain, written, depth, held, on, to, loaded, stored, values_from, states_from as states_at, states as states_of, effective as effective_of, ret as ret_of, perform as perform_of, plain_step as step_of, value_of as value_in}
use Rattle.bl_program.specs.declared.command.Command.{Command}
use Rattle.bl_program.specs.declared.command.Command.TheVariants.{Set, Load, Store, Test, Jump, Arg, Call, Out, Ret, Trap}
use Rattle.bl_program.specs.declared.command.Operand.{Operand}
use Rattle.bl_program.specs.declared.command.Operand.TheVariants.{Var, Const}
use Rattle.bl_emit.specs.Shapes.{Shape, result, param}
use Rattle.bl_lower.specs.Trees.{global_def, memory_def, low_tree}
use Rattle.bl_emit.specs.Numbers.{shape}
use Rattle.bl_lower.proofs.Machine.{base, padded, space_of, place, value_of, results_from, states_from, states, effective, ret, perform, plain_step}
use Rattle.bl_lower.proofs.TreeLayout.{statics_are, entry_is, first_is, results_number, params_number}
use Rattle.bl_lower.proofs.FunctionPlaces.{shaped}
use Rattle.std.proofs.lemmas.List.{length-map}

-- ---- memories

base_is : (memories : List Memory) (n : ℕ) → sum_before (λ m. m.reserve * 65536) (map memory_def memories) n ≡ base memories n
base_is [] zero = refl
base_is [] (suc n) = refl
base_is (memory ∷ memories) zero = refl
base_is (memory ∷ memories) (suc n) = ap (λ k. memory.reserve * 65536 + k) (base_is memories n)

pub space_is : (memories : List Memory) (those : List MemoryState) → spaces_of (map memory_def memories) those ≡ space_of memories those
space_is [] those = refl
space_is (memory ∷ memories) [] = refl
space_is (memory ∷ memories) (state ∷ those) = ap (λ l. padded memory state ++ l) (space_is memories those)

memories_are : (r : Registers) (space : List ℕ) (memories : List Memory) (size from : ℕ) → states_at r space size from (map memory_def memories) ≡ states_from r space size from memories
memories_are r space [] size from = refl
memories_are r space (memory ∷ memories) size from =
    ap (λ l. record { pages = r 0 size; bytes = take (r 0 size * 65536) (drop from space) } ∷ l) (memories_are r space memories (suc size) (from + memory.reserve * 65536))

values_are : (shape : Shape) (r : Registers) (count index x : ℕ) → x ≡ result shape index → values_from r 0 x count ≡ results_from shape r index count
values_are shape r zero index x e = refl
values_are shape r (suc count) index x e = ap₂ (λ v l. v ∷ l) (ap (r 0) e) (values_are shape r count (suc index) (suc x) (omega (arith, e)))

-- ---- steps

module _ (tree : Tree) (linked : IsRunnable tree) where
  place_is : (s : Plain) (x : ℕ) → held (low_tree tree) (depth s) x ≡ place (shaped tree) x s
  place_is s x = ap (λ n. cond (nat_lt x n) 0 (depth s)) (statics_are tree)

  value_is : (s : Plain) (a : Operand) → value_in (low_tree tree) a s ≡ value_of (shaped tree) a s
  value_is s (Var x) = ap (λ d. s.registers d x.0) (place_is s x.0)
  value_is s (Const c) = refl

  param_is : (f index : ℕ) → param_of (low_tree tree) f index ≡ param (shape tree f) index
  param_is f index = ap (λ n. n + index) (first_is tree f)

  result_is : (f index : ℕ) → result_of (low_tree tree) f index ≡ result (shape tree f) index
  result_is f index = ap₂ (λ a b. a + b + index) (first_is tree f) (params_number tree linked f)

  states_same : (s : Plain) → states_of (low_tree tree) s ≡ states (shaped tree) s
  states_same s =
      let e : size_of (low_tree tree) 0 ≡ length tree.globals = omega (arith, length-map tree.globals global_def) in
      ap (λ n. states_at s.registers s.space n 0 (map memory_def tree.memories)) e ∙ memories_are s.registers s.space tree.memories (length tree.globals) 0

  effective_is : (memory offset address : ℕ) → effective_of (low_tree tree) memory offset address ≡ effective (shaped tree) memory offset address
  effective_is memory offset address = ap (λ n. n + (address % 2 ^ 32 + offset)) (base_is tree.memories memory)

  ret_is : (chain : List ℕ) (s : Plain) → ret_of (low_tree tree) chain s ≡ ret (shaped tree) chain s
  ret_is [] s =
      let f = running (low_tree tree) s.position in
      let x : result_of (low_tree tree) f 0 ≡ result (shape tree f) 0 = result_is f 0 in
      ap₂ (λ vs ms. ends (returned vs ms))
      (ap (λ n. values_from s.registers 0 (result_of (low_tree tree) f 0) n) (results_number tree f) ∙ values_are (shape tree f) s.registers (shape tree f).results 0 (result_of (low_tree tree) f 0) x)
      (states_same s)
  ret_is (back ∷ chain) s = refl

  perform_is : (o : Option Command) (s : Plain) → perform_of (low_tree tree) o s ≡ perform (shaped tree) o s
  perform_is None s = refl
  perform_is (Some (Set mark op x a b c)) s =
      ap (λ d. on s (written s.registers d x.0 (meaning op (value_in (low_tree tree) a s) (value_in (low_tree tree) b s) (value_in (low_tree tree) c s)))) (place_is s x.0)
      ∙ ap (λ v. on s (written s.registers (place (shaped tree) x.0 s) x.0 (meaning op v (value_in (low_tree tree) b s) (value_in (low_tree tree) c s)))) (value_is s a)
      ∙ ap (λ v. on s (written s.registers (place (shaped tree) x.0 s) x.0 (meaning op (value_of (shaped tree) a s) v (value_in (low_tree tree) c s)))) (value_is s b)
      ∙ ap (λ v. on s (written s.registers (place (shaped tree) x.0 s) x.0 (meaning op (value_of (shaped tree) a s) (value_of (shaped tree) b s) v))) (value_is s c)
  perform_is (Some (Load mark kind memory x offset a)) s =
      ap (λ d. on s (written s.registers d x.0 (loaded kind s.space (effective_of (low_tree tree) memory offset (value_in (low_tree tree) a s))))) (place_is s x.0)
      ∙ ap (λ v. on s (written s.registers (place (shaped tree) x.0 s) x.0 (loaded kind s.space (effective_of (low_tree tree) memory offset v)))) (value_is s a)
      ∙ ap (λ n. on s (written s.registers (place (shaped tree) x.0 s) x.0 (loaded kind s.space n))) (effective_is memory offset (value_of (shaped tree) a s))
  perform_is (Some (Store kind memory offset a b)) s =
      ap (λ v. stores (effective_of (low_tree tree) memory offset v) (value_in (low_tree tree) b s)) (value_is s a)
      ∙ ap (λ n. stores n (value_in (low_tree tree) b s)) (effective_is memory offset (value_of (shaped tree) a s))
      ∙ ap (λ v. stores (effective (shaped tree) memory offset (value_of (shaped tree) a s)) v) (value_is s b)
    where
      stores : ℕ → ℕ → Next Plain
      stores from v = goes (record s { position = suc s.position; space = stored kind from v s.space })
  perform_is (Some (Test condition one other)) s = ap (λ v. cond (v % 2 ^ 32 == 0) (to other.0 s) (to one.0 s)) (value_is s condition)
  perform_is (Some (Jump position)) s = refl
  perform_is (Some (Arg mark function index a)) s =
      ap₂ (λ x v. on s (written s.registers (suc (depth s)) x v)) (param_is function index) (value_is s a)
  perform_is (Some (Call function)) s =
      ap₂ (λ next those. cond (nat_lt (depth s) most_calls) (goes (record s { position = next; chain = suc s.position ∷ s.chain })) (ends (trapped trap_kind.StackExhausted those)))
      (entry_is tree function) (states_same s)
  perform_is (Some (Out mark index a)) s =
      ap₂ (λ x v. on s (written s.registers (length s.chain) x v)) (result_is (running (low_tree tree) s.position) index) (value_is s a)
  perform_is (Some Ret) s = ret_is s.chain s
  perform_is (Some (Trap kind)) s = ap (λ ms. ends (trapped kind ms)) (states_same s)

  step_is : (s : Plain) → step_of (low_tree tree) s ≡ plain_step (shaped tree) s
  step_is s = perform_is (slice_get (low_tree tree).commands s.position) s

  pub from_program : (n : ℕ) (s : Plain) (o : Outcome) → EndsAfter (step_of (low_tree tree)) n s o → EndsAfter (plain_step (shaped tree)) n s o
  from_program _ s o (last _ _ e) = last s o (sym (step_is s) ∙ e)
  from_program _ s o (more n _ d _ e rest) = more n s d o (sym (step_is s) ∙ e) (from_program n d o rest)

  pub to_program : (n : ℕ) (s : Plain) (o : Outcome) → EndsAfter (plain_step (shaped tree)) n s o → EndsAfter (step_of (low_tree tree)) n s o
  to_program _ s o (last _ _ e) = last s o (step_is s ∙ e)
  to_program _ s o (more n _ d _ e rest) = more n s d o (step_is s ∙ e) (to_program n d o rest)
