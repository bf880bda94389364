-- Commands of a function that keep the rules as far as their piece goes.
use Rattle.bl_reduce.specs.Runnable.{runnable}
use Rattle.std.proofs.Common.{◌≡◌, ℕ, zero, suc, ◌+◌, ◌<◌, ◌≤◌, List, [], ◌∷◌, length, None, refl, subst, arith, ◌⊎◌, inl, inr}
use Rattle.std.proofs.lemmas.List.{length-map}
use Rattle.bl_ops.specs.declared.op.Op.{Op}
use Rattle.bl_ops.specs.declared.op.Op.TheVariants as op
use Rattle.bl_base.specs.declared.trap.Trap.{Trap as TrapKind}
use Rattle.bl_wasm.specs.Linked.{IsLinked}
use Rattle.bl_wasm.specs.declared.linked.Tree.{Tree}
use Rattle.bl_program.specs.Layout.{size_of as size_variable, result as result_of}
use Rattle.bl_program.specs.Programs.{IsCommand, ArePadded, arity}
use Rattle.bl_program.specs.Rules.{IsOwn, IsResult, IsLocal, IsReadable, Rule4, Rule6, Rule8, GoesTo, Leaves, reach_of}
use Rattle.bl_program.specs.Sites.{Names}
use Rattle.bl_program.specs.declared.command.Command.{Command}
use Rattle.bl_program.specs.declared.command.Command.TheVariants.{Call, Ret, Trap}
use Rattle.bl_program.specs.declared.command.Operand.{Operand}
use Rattle.bl_program.specs.declared.command.Operand.TheVariants.{Const}
use Rattle.bl_access.specs.Templates.{variable, set_of, test_of, jump_to, arg_of, out_of, move}
use Rattle.bl_emit.specs.Shapes.{Shape, result, bottom, result_reads}
use Rattle.bl_emit.specs.Constructs.{moves, args, outs, mark_of, Target}
use Rattle.bl_lower.specs.Trees.{low_tree, global_def}
use Rattle.bl_emit.specs.Numbers.{shape, statics}
use Rattle.bl_lower.proofs.TreeLayout.{statics_are, first_is, results_number, params_number}
use Rattle.bl_lower.proofs.Pieces.{EachAt}

pub mark_small : (open_ones : List Target) → mark_of open_ones ≤ 6
mark_small open_ones = omega arith

module _ (tree : Tree) (linked : IsLinked tree) (number : ℕ) (B : ℕ → Type 0) where
  abbrev mine : Shape
  mine = shape tree number

  -- ---- variables

  pub own : (x : ℕ) → mine.first ≤ x → x < mine.limit → IsOwn (low_tree tree) number x
  own x low high = (omega (arith, first_is tree number, low), omega (arith, first_is tree (suc number), high))

  result_start : (f : ℕ) → result_of (low_tree tree) f 0 ≡ (shape tree f).first + (shape tree f).params
  result_start f = omega (arith, first_is tree f, params_number tree (runnable tree linked) f)

  not_result : (x : ℕ) → (mine.first + mine.params ≤ x → mine.first + mine.params + mine.results ≤ x) → IsResult (low_tree tree) number x → ⊥
  not_result x above is =
      let over = above (omega (arith, result_start number, is.0)) in
      omega (arith, over, is.1, first_is tree number, params_number tree (runnable tree linked) number, results_number tree number)

  pub own_local : (x : ℕ) → mine.first ≤ x → x < mine.limit → (mine.first + mine.params ≤ x → mine.first + mine.params + mine.results ≤ x) → IsLocal (low_tree tree) number x
  own_local x low high above = (own x low high, not_result x above)

  pub new_local : (x : ℕ) → bottom mine ≤ x → x < mine.limit → IsLocal (low_tree tree) number x
  new_local x low high = own_local x (omega (arith, low)) high (λ above. omega (arith, low))

  -- ---- operands

  abbrev pub Readable : Operand → Type 0
  Readable a = (x : ℕ) → Names a x → IsReadable (low_tree tree) number x

  pub reads_const : (c : ℕ) → Readable (Const c)
  reads_const c x h = absurd h

  pub reads_own : (y : ℕ) → mine.first ≤ y → y < mine.limit → Readable (variable y)
  reads_own y low high x e = inr (inl (subst (IsOwn (low_tree tree) number) e (own y low high)))

  pub reads_static : (y : ℕ) → y < statics tree → Readable (variable y)
  reads_static y lt x e = inl (omega (arith, e, lt, statics_are tree))

  pub reads_result : (f index : ℕ) → index < (shape tree f).results → Readable (variable (result (shape tree f) index))
  reads_result f index lt x e = inr (inr (f, (omega (arith, e, result_start f), omega (arith, e, lt, first_is tree f, params_number tree (runnable tree linked) f, results_number tree f))))

  abbrev pub AllReadable : List Operand → Type 0
  AllReadable [] = Unit {0}
  AllReadable (a ∷ operands) = Readable a × AllReadable operands

  pub result_readable : (f index count : ℕ) → index + count ≤ (shape tree f).results → AllReadable (result_reads (shape tree f) index count)
  result_readable f index zero le = tt
  result_readable f index (suc count) le = (reads_result f index (omega (arith, le)), result_readable f (suc index) count (omega (arith, le)))

  -- ---- commands of a piece, from a position on and so many

  abbrev pub Goes : ℕ → ℕ → ℕ → Type 0
  Goes start size t = (t < 7) ⊎ B t ⊎ ((start < t) × (t < start + size))

  -- but for what stands before an access or a write of a size
  pub record Lawful (start size position : ℕ) (command : Command) : Type 0 where
    pub is : IsCommand command
    pub rule4 : Rule4 (low_tree tree) number command
    pub rule6 : Rule6 (low_tree tree) number command
    pub targets : (t : ℕ) → GoesTo command t → Goes start size t
    pub falls : Leaves command ⊎ Goes start size (suc position)

  -- a command that is no access and writes no size
  pub record Simple (start size position : ℕ) (command : Command) : Type 0 where
    pub lawful : Lawful start size position command
    pub reach : reach_of command ≡ None
    pub rule8 : Rule8 (low_tree tree) number position command

  -- what a Set or a Load writes but for sizes
  abbrev pub Writes : ℕ → Type 0
  Writes x = IsLocal (low_tree tree) number x ⊎ (x < length tree.globals)

  globals_number : length (low_tree tree).globals ≡ length tree.globals
  globals_number = length-map tree.globals global_def

  pub no_size : (x : ℕ) → Writes x → (memory : ℕ) → memory < length (low_tree tree).memories → x ≡ size_variable (low_tree tree) memory → ⊥
  no_size x (inl l) memory lt e = omega (arith, l.0.0, e, lt, first_is tree number, statics_are tree)
  no_size x (inr g) memory lt e = omega (arith, g, e, globals_number)

  writable : (x : ℕ) → Writes x → (x < length (low_tree tree).globals + length (low_tree tree).memories) ⊎ IsLocal (low_tree tree) number x
  writable x (inl l) = inr l
  writable x (inr g) = inl (omega (arith, g, globals_number))

  module _ (start size : ℕ) where
    simply : (position : ℕ) (command : Command) → IsCommand command → Rule4 (low_tree tree) number command → Rule6 (low_tree tree) number command → ((t : ℕ) → GoesTo command t → Goes start size t)
        → Leaves command ⊎ Goes start size (suc position) → reach_of command ≡ None → Rule8 (low_tree tree) number position command → Simple start size position command
    simply position command is rule4 rule6 targets falls reach rule8 = record { lawful = record { is = is; rule4 = rule4; rule6 = rule6; targets = targets; falls = falls }; reach = reach; rule8 = rule8 }

    pub set_simple : (position depth : ℕ) (o : Op) (x : ℕ) (a b c : Operand) → depth ≤ 6 → ArePadded o b c → Readable a → Readable b → Readable c → Writes x → Goes start size (suc position)
        → Simple start size position (set_of depth o x a b c)
    set_simple position depth o x a b c small padded ra rb rc writes falls =
        simply position (set_of depth o x a b c) padded
        (record { reads = λ y h. elim h [ inl e ↦ ra y e | inr i ↦ elim i [ inl e ↦ rb y e | inr j ↦ elim j [ inl e ↦ rc y e | inr k ↦ absurd k ] ] ]; writes = writable x writes })
        small (λ t h. absurd h) (inr falls) refl (λ memory lt e. absurd (no_size x writes memory lt e))

    pub two_padded : (o : Op) (b : Operand) → arity o ≡ 2 → ArePadded o b (Const 0)
    two_padded o b e = (λ lt. absurd (omega (arith, lt, e)), λ lt. refl)

    pub one_padded : (o : Op) → ArePadded o (Const 0) (Const 0)
    one_padded o = (λ lt. refl, λ lt. refl)

    pub move_simple : (position depth x : ℕ) (a : Operand) → depth ≤ 6 → Readable a → Writes x → Goes start size (suc position) → Simple start size position (move depth x a)
    move_simple position depth x a small ra writes falls =
        set_simple position depth op.Move x a (Const 0) (Const 0) small (one_padded op.Move) ra (reads_const 0) (reads_const 0) writes falls

    pub test_simple : (position : ℕ) (a : Operand) (one other : ℕ) → Readable a → Goes start size one → Goes start size other → Simple start size position (test_of a one other)
    test_simple position a one other ra g h =
        simply position (test_of a one other) tt (record { reads = λ y i. elim i [ inl e ↦ ra y e | inr k ↦ absurd k ]; writes = tt }) tt (λ t i. elim i [ inl e ↦ subst (Goes start size) e g | inr e ↦ subst (Goes start size) e h ]) (inl tt) refl tt

    pub jump_simple : (position to : ℕ) → Goes start size to → Simple start size position (jump_to to)
    jump_simple position to g = simply position (jump_to to) tt (record { reads = λ y i. absurd i; writes = tt }) tt (λ t e. subst (Goes start size) e g) (inl tt) refl tt

    pub arg_simple : (position depth f index : ℕ) (a : Operand) → depth ≤ 6 → f < length (low_tree tree).functions → index < (shape tree f).params → Readable a → Goes start size (suc position)
        → Simple start size position (arg_of depth f index a)
    arg_simple position depth f index a small lt within ra falls =
        simply position (arg_of depth f index a) tt (record { reads = λ y i. elim i [ inl e ↦ ra y e | inr k ↦ absurd k ]; writes = tt }) (small, lt, omega (arith, within, params_number tree (runnable tree linked) f)) (λ t h. absurd h) (inr falls) refl tt

    pub call_simple : (position f : ℕ) → f < length (low_tree tree).functions → Goes start size (suc position) → Simple start size position (Call f)
    call_simple position f lt falls = simply position (Call f) tt (record { reads = λ y i. absurd i; writes = tt }) lt (λ t h. absurd h) (inr falls) refl tt

    pub out_simple : (position depth index : ℕ) (a : Operand) → depth ≤ 6 → index < mine.results → Readable a → Goes start size (suc position) → Simple start size position (out_of depth index a)
    out_simple position depth index a small within ra falls =
        simply position (out_of depth index a) tt (record { reads = λ y i. elim i [ inl e ↦ ra y e | inr k ↦ absurd k ]; writes = tt }) (small, omega (arith, within, results_number tree number)) (λ t h. absurd h) (inr falls) refl tt

    pub ret_simple : (position : ℕ) → Simple start size position Ret
    ret_simple position = simply position Ret tt (record { reads = λ y i. absurd i; writes = tt }) tt (λ t h. absurd h) (inl tt) refl tt

    pub trap_simple : (position : ℕ) (kind : TrapKind) → Simple start size position (Trap kind)
    trap_simple position kind = simply position (Trap kind) tt (record { reads = λ y i. absurd i; writes = tt }) tt (λ t h. absurd h) (inl tt) refl tt

    -- ---- lists of them; the piece's positions up to one can be come to

    module _ (stop : ℕ) (goes : (q : ℕ) → start < q → q ≤ stop → Goes start size q) where
      pub moves_simple : (position depth first : ℕ) (operands : List Operand) → depth ≤ 6 → start ≤ position → position + length operands ≤ stop
          → ((x : ℕ) → first ≤ x → x < first + length operands → IsLocal (low_tree tree) number x) → AllReadable operands → EachAt (Simple start size) position (moves depth first operands)
      moves_simple position depth first [] small low high locals reads = tt
      moves_simple position depth first (a ∷ operands) small low high locals reads = (
        move_simple position depth first a small reads.0 (inl (locals first (omega arith) (omega arith))) (goes (suc position) (omega (arith, low)) (omega (arith, high))),
        moves_simple (suc position) depth (suc first) operands small (omega (arith, low)) (omega (arith, high)) (λ x le lt. locals x (omega (arith, le)) (omega (arith, lt))) reads.1,
      )

      pub args_simple : (position depth f index : ℕ) (operands : List Operand) → depth ≤ 6 → start ≤ position → position + length operands ≤ stop → f < length (low_tree tree).functions
          → index + length operands ≤ (shape tree f).params → AllReadable operands → EachAt (Simple start size) position (args depth f index operands)
      args_simple position depth f index [] small low high lt within reads = tt
      args_simple position depth f index (a ∷ operands) small low high lt within reads = (
        arg_simple position depth f index a small lt (omega (arith, within)) reads.0 (goes (suc position) (omega (arith, low)) (omega (arith, high))),
        args_simple (suc position) depth f (suc index) operands small (omega (arith, low)) (omega (arith, high)) lt (omega (arith, within)) reads.1,
      )

      pub outs_simple : (position depth index : ℕ) (operands : List Operand) → depth ≤ 6 → start ≤ position → position + length operands ≤ stop
          → index + length operands ≤ mine.results → AllReadable operands → EachAt (Simple start size) position (outs depth index operands)
      outs_simple position depth index [] small low high within reads = (ret_simple position, tt)
      outs_simple position depth index (a ∷ operands) small low high within reads = (
        out_simple position depth index a small (omega (arith, within)) reads.0 (goes (suc position) (omega (arith, low)) (omega (arith, high))),
        outs_simple (suc position) depth (suc index) operands small (omega (arith, low)) (omega (arith, high)) (omega (arith, within)) reads.1,
      )
