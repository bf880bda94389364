-- What an item becomes keeps the rules as far as it goes itself.
use Rattle.std.proofs.Common.{◌≡◌, ◌≢◌, ℕ, suc, ◌+◌, ◌-◌, ◌^◌, ◌<◌, ◌≤◌, true, false, Bool, List, [], ◌∷◌, ◌++◌, length, reverse, map, Option, Some, None, slice_get, unwrap_or, refl, sym, ap, ◌∙◌, subst, arith, length-append, inl, inr}
use Rattle.std.specs.Prelude.{IfSome, IsTrue, IsFalse, not, option_map, option_and_then, if◌then◌else◌}
use Rattle.std.proofs.lemmas.Bool.{cases_lt}
use Rattle.std.proofs.lemmas.List.{length-map}
use Rattle.std.proofs.lemmas.Option.{none-some, slice_get-map, slice_get_within}
use Rattle.bl_base.proofs.Lists.{within_get}
use Rattle.bl_ops.specs.Access.{is_load, width_of}
use Rattle.bl_ops.specs.OperatorTable.{row_of, row_operands}
use Rattle.bl_ops.specs.declared.access.AccessKind.{AccessKind}
use Rattle.bl_ops.specs.declared.op.Op.{Op}
use Rattle.bl_ops.specs.declared.op.Op.TheVariants as op
use Rattle.bl_ops.specs.declared.op.OpRow.{OpRow}
use Rattle.bl_wasm.specs.TypeNumbers.{is_same_type}
use Rattle.bl_wasm.specs.Linked.{IsLinked, IsFunction, context, global_type, seen, type_of}
use Rattle.bl_wasm.specs.Typing.{Context, integer}
use Rattle.bl_wasm.specs.Validity.{locals_of}
use Rattle.bl_wasm.specs.declared.linked.Function.{Function}
use Rattle.bl_wasm.specs.declared.linked.Signature.{Signature}
use Rattle.bl_wasm.specs.declared.linked.Tree.{Tree}
use Rattle.bl_program.specs.Programs.{ArePadded, arity, arity_by}
use Rattle.bl_program.specs.Rules.{IsLocal, Rule8, reach_of}
use Rattle.bl_program.specs.declared.command.Command.{Command}
use Rattle.bl_program.specs.declared.command.Command.TheVariants as command
use Rattle.bl_program.specs.declared.command.Operand.{Operand}
use Rattle.bl_program.specs.declared.command.Operand.TheVariants.{Var, Const}
use Rattle.bl_access.specs.Templates.{shift, variable, load_of, jump_to, set as set_command, move, bounds, growth}
use Rattle.bl_emit.specs.Shapes.{Counts, Slot, armed, uninitialized, mistyped, Shape, local, bottom, result_reads}
use Rattle.bl_emit.specs.Constructs.{pad, moves, args, mark_of, Target}
use Rattle.bl_emit.specs.Items.{Check, free, nonzero, quotient, check_of, check_size, check_new, checks, right, branch_size, branch_sizes, arms_from, arm_size, arms_size, hits_from, calls_in, to_label, arms, slot_arm, slot_arms}
use Rattle.bl_emit.specs.LoweredBodies.{takes_of}
use Rattle.bl_lower.specs.Trees.{low_tree, function_def, global_def, memory_def}
use Rattle.bl_emit.specs.Numbers.{blocks, shape, statics, counts, counts_of, memory_in, reserve_in, locals_in, slot_by, slot_of, slots_in, slots_at}
use Rattle.bl_lower.proofs.Frames.{is_local}
use Rattle.bl_lower.proofs.PieceRules.{accesses, grows, LawfulPiece, simple_piece, readable, readables, AllReady, ready_get, branched_simple, AllInto}
use Rattle.bl_lower.proofs.ConstructExits.{moves_length}
use Rattle.bl_lower.proofs.LawfulCommands.{mark_small, own, own_local, new_local, Readable, reads_const, reads_own, reads_static, result_readable, Goes, Lawful, Simple, Writes, no_size, set_simple, two_padded, one_padded, move_simple, test_simple, jump_simple, call_simple, moves_simple, args_simple}
use Rattle.bl_lower.proofs.BodyLayout.{ArmsFit}
use Rattle.bl_lower.proofs.Pieces.{EachAt, each_both}
use Rattle.bl_lower.proofs.FunctionPlaces.{shaped, type_is, room_of}
use Rattle.bl_lower.proofs.OperandRanges.{Ranged, AllRanged, ranged_pad}
use Rattle.bl_lower.proofs.Sizes.{padded_length, args_length, reads_length, label_length, slot_arm_length}
use Rattle.bl_emit.proofs.Operands.{right_one}

-- the tests before a division have operators of two operands where two are written
abbrev pub CheckFits : Check → Type 0
CheckFits free = Unit {0}
CheckFits (nonzero eqz) = Unit {0}
CheckFits (quotient eqz eq least ones) = arity eq ≡ 2

pub check_fits : (o : Op) → CheckFits (check_of o)
check_fits o = elim o as (λ o. CheckFits (check_of o)) [ op.I32DivS ↦ refl | op.I64DivS ↦ refl | _ ↦ tt ]

pub row_padded : (o : Op) (row : OpRow) (stack : List Operand) → row_of o ≡ Some row → ArePadded o (right (row_operands (row_of o)) stack) (Const 0)
row_padded o row stack e =
    let counted : arity o ≡ row.operands = ap (arity_by o) e in
    let same : row_operands (row_of o) ≡ row.operands = ap row_operands e in
    ((λ lt. right_one (row_operands (row_of o)) stack (omega (arith, lt, counted, same))), λ lt. refl)

-- a variable below another isn't it
not_new : (low next x : ℕ) (a : Operand) → next ≤ x → Ranged low next a → a ≢ variable x
not_new low next x (Var y) le h e = let same : y.0 ≡ x = cc e in omega (arith, h.1, le, same)
not_new low next x (Const c) le h e = absurd (cc e)

pub a_command : (results : ℕ) (o : Option ℕ) → 1 ≤ branch_size results o
a_command results None = omega arith
a_command results (Some n) = omega arith

abbrev pub ArmsExist : Tree → List Slot → Type 0
ArmsExist tree [] = Unit {0}
ArmsExist tree (armed f ∷ those) = (f < length (low_tree tree).functions) × ArmsExist tree those
ArmsExist tree (uninitialized ∷ those) = ArmsExist tree those
ArmsExist tree (mistyped ∷ those) = ArmsExist tree those

module _ (tree : Tree) where
  arm_exists : (type : Signature) (f : ℕ) (those : List Slot) (o : Option Signature) → type_of tree f ≡ o → ArmsExist tree those → ArmsExist tree (slot_by type f o ∷ those)
  arm_exists type f those None e h = h
  arm_exists type f those (Some own) e h = by_test (is_same_type own type)
    where
      found : (o : Option Function) → slice_get tree.functions f ≡ o → option_and_then (λ function. slice_get tree.types function.type_index) o ≡ Some own → f < length (low_tree tree).functions
      found None g i = absurd (none-some own i)
      found (Some function) g i = omega (arith, slice_get_within tree.functions f function g, length-map tree.functions (function_def tree))

      by_test : (b : Bool) → ArmsExist tree ((if b then armed f else mistyped) ∷ those)
      by_test false = h
      by_test true = (found (slice_get tree.functions f) refl e, h)

  arms_exist_of : (type : Signature) (table : List (Option ℕ)) → ArmsExist tree (map (slot_of tree type) table)
  arms_exist_of type [] = tt
  arms_exist_of type (None ∷ table) = arms_exist_of type table
  arms_exist_of type (Some f ∷ table) = arm_exists type f (map (slot_of tree type) table) (type_of tree f) refl (arms_exist_of type table)

  arms_exist_in : (t : Option (List (Option ℕ))) (o : Option Signature) → ArmsExist tree (slots_in tree t o)
  arms_exist_in None o = tt
  arms_exist_in (Some table) None = tt
  arms_exist_in (Some table) (Some type) = arms_exist_of type table

  pub arms_exist : (o : Option Function) (i : ℕ) → ArmsExist tree (slots_at tree o i)
  arms_exist None i = tt
  arms_exist (Some function) i = arms_exist_in (option_and_then (slice_get tree.tables) function.table) (slice_get tree.types i)

module _ (tree : Tree) (linked : IsLinked tree) (number : ℕ) (B : ℕ → Type 0) (function : Function) (exists : slice_get tree.functions number ≡ Some function) (is : IsFunction tree function) where
  abbrev Mine : Shape
  Mine = shape tree number

  abbrev c : Context
  c = context tree is.type function

  abbrev Ops : ℕ → List Operand → Type 0
  Ops next stack = AllRanged (bottom Mine) next stack

  abbrev LawfulPieceAt : ℕ → List Command → Type 0
  LawfulPieceAt start commands = LawfulPiece tree linked number B start commands

  -- ---- positions of a piece

  pub spans : (start n : ℕ) → B (start + n) → (q : ℕ) → start < q → q ≤ start + n → Goes tree linked number B start n q
  spans start n ends q low high = elim (cases_lt q (start + n)) [
    | inl lt ↦ inr (inr (low, lt))
    | inr le ↦ let same : start + n ≡ q = omega (arith, high, le) in inr (inl (subst B same ends))
  ]

  pub within : (start n : ℕ) → 1 ≤ n → (q : ℕ) → start < q → q ≤ start + n - 1 → Goes tree linked number B start n q
  within start n some q low high = inr (inr (low, omega (arith, high, some)))

  -- ---- names

  locals_number : Mine.params + Mine.locals ≡ length c.locals
  locals_number =
      let typed : counts tree number ≡ counts_of (Some is.type) = ap counts_of (type_is tree number function is.type exists is.exists) in
      omega (arith, ap (λ n. n.params) typed, ap locals_in exists, length-append (map integer is.type.params) (locals_of function.code), length-map is.type.params integer)

  pub local_own : (x : ℕ) → x < length c.locals → IsLocal (low_tree tree) number (local Mine x)
  local_own x lt =
      let l = is_local Mine x (room_of tree number) (omega (arith, lt, locals_number)) in
      own_local tree linked number B (local Mine x) l.own.0 l.own.1 l.own.2

  pub local_read : (x : ℕ) → x < length c.locals → Readable tree linked number B (variable (local Mine x))
  local_read x lt =
      let l = is_local Mine x (room_of tree number) (omega (arith, lt, locals_number)) in
      reads_own tree linked number B (local Mine x) l.own.0 l.own.1

  pub functions_number : (f : ℕ) → f < length c.functions → f < length (low_tree tree).functions
  functions_number f lt = omega (arith, lt, length-map tree.functions (λ g. g.type_index), length-map tree.functions (function_def tree))

  pub globals_number : (x : ℕ) → x < length c.globals → x < length tree.globals
  globals_number x lt = omega (arith, lt, length-map tree.globals global_type)

  pub memory_within : 1 ≤ c.memories → Mine.memory < length tree.memories
  memory_within some = subst (λ n. n < length tree.memories) (sym (ap memory_in exists)) (by function.memory some is.memory)
    where
      by : (o : Option ℕ) → 1 ≤ seen o → IfSome o (λ n. n < length tree.memories) → unwrap_or o 0 < length tree.memories
      by None le h = absurd (omega (arith, le))
      by (Some n) le h = h

  pub memory_exists : 1 ≤ c.memories → Mine.memory < length (low_tree tree).memories
  memory_exists some = omega (arith, memory_within some, length-map tree.memories memory_def)

  pub size_static : 1 ≤ c.memories → Mine.size < statics tree
  size_static some = omega (arith, memory_within some)

  -- ---- lists of commands

  module _ (start size stop : ℕ) (goes : (q : ℕ) → start < q → q ≤ stop → Goes tree linked number B start size q) where
    abbrev SimpleAt : ℕ → List Command → Type 0
    SimpleAt position commands = EachAt (Simple tree linked number B start size) position commands

    abbrev One : ℕ → Command → Type 0
    One position command_ = Simple tree linked number B start size position command_

    abbrev new_one : (x : ℕ) → bottom Mine ≤ x → x < Mine.limit → Writes tree linked number B x
    new_one x low high = inl (new_local tree linked number B x low high)

    new_read : (x : ℕ) → bottom Mine ≤ x → x < Mine.limit → Readable tree linked number B (variable x)
    new_read x low high = reads_own tree linked number B x (omega (arith, low)) high

    -- a Set of two operands to a new variable
    two : (position depth : ℕ) (o : Op) (x : ℕ) (a b : Operand) → depth ≤ 6 → ArePadded o b (Const 0) → Readable tree linked number B a → Readable tree linked number B b → bottom Mine ≤ x → x < Mine.limit
        → start ≤ position → suc position ≤ stop → One position (set_command depth o x a b)
    two position depth o x a b small padded ra rb low high from to_ =
        set_simple tree linked number B start size position depth o x a b (Const 0) small padded ra rb (reads_const tree linked number B 0) (new_one x low high) (goes (suc position) (omega (arith, from)) to_)

    -- the test whether a divisor is zero
    zero_simple : (eqz : Op) (position depth x : ℕ) (a b : Operand) → depth ≤ 6 → bottom Mine ≤ x → x < Mine.limit → Readable tree linked number B b → start ≤ position → position + 2 ≤ stop
        → SimpleAt position (checks depth (nonzero eqz) position x a b)
    zero_simple eqz position depth x a b small low high rb from to_ =
        let is_zero = two position depth eqz x b (Const 0) small (one_padded tree linked number B start size eqz) rb (reads_const tree linked number B 0) low high from (omega (arith, to_)) in
        let test = test_simple tree linked number B start size (suc position) (variable x) 1 (suc (suc position)) (new_read x low high) (inl (omega arith)) (goes (suc (suc position)) (omega (arith, from)) (omega (arith, to_))) in
        (is_zero, (test, tt))

    pub checks_simple : (check : Check) (position depth x : ℕ) (a b : Operand) → CheckFits check → depth ≤ 6 → bottom Mine ≤ x → x + check_new check ≤ Mine.limit → Readable tree linked number B a → Readable tree linked number B b
        → start ≤ position → position + check_size check ≤ stop → SimpleAt position (checks depth check position x a b)
    checks_simple free position depth x a b fits small low high ra rb from to_ = tt
    checks_simple (nonzero eqz) position depth x a b fits small low high ra rb from to_ = zero_simple eqz position depth x a b small low (omega (arith, high)) rb from (omega (arith, to_))
    checks_simple (quotient eqz eq least ones) position depth x a b fits small low high ra rb from to_ =
        let zero_test = zero_simple eqz position depth x a b small low (omega (arith, high)) rb from (omega (arith, to_)) in
        let is_least = two (suc (suc position)) depth eq (suc x) a (Const least) small (two_padded tree linked number B start size eq (Const least) fits) ra (reads_const tree linked number B least) (omega (arith, low)) (omega (arith, high)) (omega (arith, from)) (omega (arith, to_)) in
        let is_ones = two (suc (suc (suc position))) depth eq (suc (suc x)) b (Const ones) small (two_padded tree linked number B start size eq (Const ones) fits) rb (reads_const tree linked number B ones) (omega (arith, low)) (omega (arith, high)) (omega (arith, from)) (omega (arith, to_)) in
        let are_both = two (suc (suc (suc (suc position)))) depth op.I32And (suc (suc (suc x))) (variable (suc x)) (variable (suc (suc x))) small (two_padded tree linked number B start size op.I32And (variable (suc (suc x))) refl)
        (new_read (suc x) (omega (arith, low)) (omega (arith, high))) (new_read (suc (suc x)) (omega (arith, low)) (omega (arith, high))) (omega (arith, low)) (omega (arith, high)) (omega (arith, from)) (omega (arith, to_)) in
        let test = test_simple tree linked number B start size (suc (suc (suc (suc (suc position))))) (variable (suc (suc (suc x)))) 2 (suc (suc (suc (suc (suc (suc position))))))
        (new_read (suc (suc (suc x))) (omega (arith, low)) (omega (arith, high))) (inl (omega arith)) (goes (suc (suc (suc (suc (suc (suc position)))))) (omega (arith, from)) (omega (arith, to_))) in
        (zero_test.0, (zero_test.1.0, (is_least, (is_ones, (are_both, (test, tt))))))

    -- arms of a table, one behind another
    pub arms_into : (position : ℕ) (takes ls : List ℕ) → start < position → position + branch_sizes Mine.results takes ls ≤ suc stop → AllInto tree linked number B start size stop goes (arms_from Mine.results takes position ls)
    arms_into position takes [] low high = tt
    arms_into position takes (l ∷ ls) low high =
        let some = a_command Mine.results (slice_get takes l) in
        (goes position low (omega (arith, high, some)), arms_into (position + branch_size Mine.results (slice_get takes l)) takes ls (omega (arith, low)) (omega (arith, high)))

    pub arms_simple : (position next : ℕ) (open_ones : List Target) (stack : List Operand) (ls : List ℕ) → start ≤ position → position + branch_sizes Mine.results (takes_of open_ones) ls ≤ suc stop → next ≤ Mine.limit
        → AllReady tree linked number B open_ones → Ops next stack → SimpleAt position (arms (shape tree) number open_ones stack ls)
    arms_simple position next open_ones stack [] low high le ready ranged = tt
    arms_simple position next open_ones stack (l ∷ ls) low high le ready ranged =
        let one = to_label (shape tree) number open_ones stack l in
        let long = label_length (blocks tree) (shape tree) number open_ones stack l in
        each_both (Simple tree linked number B start size) position (position + branch_size Mine.results (slice_get (takes_of open_ones) l)) one (arms (shape tree) number open_ones stack ls) (omega (arith, long))
        (branched_simple tree linked number B start size stop goes position (mark_of open_ones) next (slice_get open_ones l) stack (mark_small open_ones) low (omega (arith, high, long)) le (ready_get tree linked number B open_ones l ready) ranged)
        (arms_simple (position + branch_size Mine.results (slice_get (takes_of open_ones) l)) next open_ones stack ls (omega (arith, low)) (omega (arith, high)) le ready ranged)

    -- a call, whose results go to variables from one on, and what is behind it
    pub called_simple : (position depth f first next : ℕ) (stack : List Operand) (rest : List Command) → depth ≤ 6 → start ≤ position → position + (shape tree f).params + suc (shape tree f).results ≤ stop
        → f < length (low_tree tree).functions → bottom Mine ≤ first → first + (shape tree f).results ≤ Mine.limit → next ≤ Mine.limit → Ops next stack → SimpleAt (position + (shape tree f).params + suc (shape tree f).results) rest
        → SimpleAt position (args depth f 0 (reverse (pad (shape tree f).params stack)) ++ command.Call f ∷ (moves depth first (result_reads (shape tree f) 0 (shape tree f).results) ++ rest))
    called_simple position depth f first next stack rest small low high lt above most le ranged others =
        let ops = reverse (pad (shape tree f).params stack) in
        let long = padded_length (shape tree f).params stack in
        let back = result_reads (shape tree f) 0 (shape tree f).results in
        let many = reads_length (shape tree f) 0 (shape tree f).results in
        let there = position + (shape tree f).params in
        each_both (Simple tree linked number B start size) position there (args depth f 0 ops) (command.Call f ∷ (moves depth first back ++ rest)) (omega (arith, args_length depth f 0 ops, long))
        (args_simple tree linked number B start size stop goes position depth f 0 ops small low (omega (arith, high, long)) lt (omega (arith, long)) (readables tree linked number B next ops le (ranged_pad (bottom Mine) next (shape tree f).params stack ranged))) (
          call_simple tree linked number B start size there f lt (goes (suc there) (omega (arith, low)) (omega (arith, high))),
          each_both (Simple tree linked number B start size) (suc there) (there + suc (shape tree f).results) (moves depth first back) rest (omega (arith, moves_length depth first back, many))
              (moves_simple tree linked number B start size stop goes (suc there) depth first back small (omega (arith, low)) (omega (arith, high, many)) (λ x a b. new_local tree linked number B x (omega (arith, above, a)) (omega (arith, most, b, many)))
              (result_readable tree linked number B f 0 (shape tree f).results (omega arith)))
              others,
        )

    pub hits_into : (position : ℕ) (those : List Slot) → start < position → position + arms_size (calls_in (shape tree) number) those ≤ suc stop → AllInto tree linked number B start size stop goes (hits_from (calls_in (shape tree) number) position those)
    hits_into position [] low high = tt
    hits_into position (armed f ∷ those) low high =
        (goes position low (omega (arith, high)), hits_into (position + arm_size (calls_in (shape tree) number) (armed f)) those (omega (arith, low)) (omega (arith, high)))
    hits_into position (uninitialized ∷ those) low high = (inl (omega arith), hits_into (position + 0) those (omega (arith, low)) (omega (arith, high)))
    hits_into position (mistyped ∷ those) low high = (inl (omega arith), hits_into (position + 0) those (omega (arith, low)) (omega (arith, high)))

    pub slots_simple : (position depth first behind_it next : ℕ) (wants : Counts) (stack : List Operand) (those : List Slot) → depth ≤ 6 → start ≤ position → position + arms_size (calls_in (shape tree) number) those ≤ suc stop
        → ArmsExist tree those → ArmsFit (shaped tree) wants those → bottom Mine ≤ first → first + wants.results ≤ Mine.limit → next ≤ Mine.limit → Ops next stack
        → Goes tree linked number B start size behind_it → SimpleAt position (slot_arms (shape tree) number depth stack first behind_it those)
    slots_simple position depth first behind_it next wants stack [] small low high there fit above most le ranged into = tt
    slots_simple position depth first behind_it next wants stack (uninitialized ∷ those) small low high there fit above most le ranged into =
        slots_simple position depth first behind_it next wants stack those small low (omega (arith, high)) there fit above most le ranged into
    slots_simple position depth first behind_it next wants stack (mistyped ∷ those) small low high there fit above most le ranged into =
        slots_simple position depth first behind_it next wants stack those small low (omega (arith, high)) there fit above most le ranged into
    slots_simple position depth first behind_it next wants stack (armed f ∷ those) small low high there fit above most le ranged into =
        let arm = slot_arm (shape tree) number depth stack first behind_it (armed f) in
        let later = position + arm_size (calls_in (shape tree) number) (armed f) in
        each_both (Simple tree linked number B start size) position later arm (slot_arms (shape tree) number depth stack first behind_it those) (omega (arith, slot_arm_length (blocks tree) (shape tree) number depth stack first behind_it (armed f)))
        (called_simple position depth f first next stack (jump_to behind_it ∷ []) small low (omega (arith, high)) there.0 above (omega (arith, most, fit.1)) le ranged
        (jump_simple tree linked number B start size (position + (shape tree f).params + suc (shape tree f).results) behind_it into, tt))
        (slots_simple later depth first behind_it next wants stack those small (omega (arith, low)) (omega (arith, high)) there.1 fit.2 above most le ranged into)

  -- ---- pieces

  pub one_good : (start : ℕ) (c_ : Command) → Simple tree linked number B start 1 start c_ → LawfulPieceAt start (c_ ∷ [])
  one_good start c_ s = simple_piece tree linked number B start (c_ ∷ []) (omega arith) (s, tt)

  -- a move to a new variable, or to one that is written
  pub move_good : (start depth x : ℕ) (a : Operand) → depth ≤ 6 → Readable tree linked number B a → Writes tree linked number B x → B (suc start) → LawfulPieceAt start (move depth x a ∷ [])
  move_good start depth x a small ra writes ends = one_good start (move depth x a) (move_simple tree linked number B start 1 start depth x a small ra writes (inr (inl ends)))

  -- the test of an access, and the access
  guarded_good : (start depth t reach : ℕ) (address : Operand) (last : Command) → depth ≤ 6 → 1 ≤ c.memories → bottom Mine ≤ t → t < Mine.limit → Ranged (bottom Mine) t address
      → reach_of last ≡ Some (record { address = address; memory = Mine.memory; bytes = reach }) → Rule8 (low_tree tree) number (suc (suc start)) last
      → Lawful tree linked number B start 3 (suc (suc start)) last → LawfulPieceAt start (bounds Mine.size address reach t start depth ++ last ∷ [])
  guarded_good start depth t reach address last small some low high ranged reaches quiet_ lawful = record {
    each = (
      (set_simple tree linked number B start 3 start depth op.Outside t address (variable Mine.size) (Const reach) small ((λ lt. absurd (omega (arith, lt))), (λ lt. absurd (omega (arith, lt))))
          (readable tree linked number B t address (omega (arith, high)) ranged) (reads_static tree linked number B Mine.size (size_static some)) (reads_const tree linked number B reach)
          (inl (new_local tree linked number B t low high)) (inr (inr (omega arith, omega arith)))).lawful,
      (
        (test_simple tree linked number B start 3 (suc start) (variable t) 3 (suc (suc start)) (reads_own tree linked number B t (omega (arith, low)) high) (inl (omega arith)) (inr (inr (omega arith, omega arith)))).lawful,
        (lawful, tt),
      ),
    );
    some = omega arith;
    sort = accesses (record {
      depth = depth;
      t = t;
      address = address;
      memory = Mine.memory;
      size = Mine.size;
      size_is = omega (arith, length-map tree.globals global_def);
      bytes = reach;
      last = last;
      are = refl;
      reaches = reaches;
      own = new_local tree linked number B t low high;
      apart = not_new (bottom Mine) t t address (omega arith) ranged;
      quiet = quiet_;
    });
  }

  pub load_good : (start depth t offset : ℕ) (kind : AccessKind) (address : Operand) → depth ≤ 6 → IsTrue (is_load kind) → 1 ≤ c.memories → offset < 2 ^ 32 → bottom Mine ≤ t → suc t < Mine.limit → Ranged (bottom Mine) t address
      → B (suc (suc (suc start))) → LawfulPieceAt start (bounds Mine.size address (offset + width_of kind) t start depth ++ load_of depth kind Mine.memory (suc t) offset address ∷ [])
  load_good start depth t offset kind address small loads some fits low high ranged ends =
      let writes : Writes tree linked number B (suc t) = inl (new_local tree linked number B (suc t) (omega (arith, low)) high) in
      guarded_good start depth t (offset + width_of kind) address (load_of depth kind Mine.memory (suc t) offset address) small some low (omega (arith, high)) ranged refl
      (λ any lt e. no_size tree linked number B (suc t) writes any lt e)
      (record {
        is = (loads, fits);
        rule4 = record { reads = λ y i. elim i [ inl e ↦ readable tree linked number B t address (omega (arith, high)) ranged y e | inr k ↦ absurd k ]; writes = inr (new_local tree linked number B (suc t) (omega (arith, low)) high) };
        rule6 = (small, memory_exists some);
        targets = λ q h. absurd h;
        falls = inr (inr (inl ends));
      })

  pub store_good : (start depth t offset : ℕ) (kind : AccessKind) (address value : Operand) → depth ≤ 6 → IsFalse (is_load kind) → 1 ≤ c.memories → offset < 2 ^ 32 → bottom Mine ≤ t → t < Mine.limit → Ranged (bottom Mine) t address
      → Ranged (bottom Mine) t value → B (suc (suc (suc start))) → LawfulPieceAt start (bounds Mine.size address (offset + width_of kind) t start depth ++ command.Store kind Mine.memory offset address value ∷ [])
  store_good start depth t offset kind address value small stores some fits low high ranged valued ends =
      guarded_good start depth t (offset + width_of kind) address (command.Store kind Mine.memory offset address value) small some low high ranged refl tt
      (record {
        is = (ap not stores, fits);
        rule4 = record {
          reads = λ y i. elim i [ inl e ↦ readable tree linked number B t address (omega (arith, high)) ranged y e | inr j ↦ elim j [ inl e ↦ readable tree linked number B t value (omega (arith, high)) valued y e | inr k ↦ absurd k ] ];
          writes = tt;
        };
        rule6 = memory_exists some;
        targets = λ q h. absurd h;
        falls = inr (inr (inl ends));
      })

  pub grow_good : (start depth next : ℕ) (delta : Operand) → depth ≤ 6 → 1 ≤ c.memories → bottom Mine ≤ next → suc (suc next) < Mine.limit → Ranged (bottom Mine) next delta → B (shift 7 start)
      → LawfulPieceAt start (growth Mine.size Mine.reserve delta next (shift 1 next) (shift 2 next) start depth)
  grow_good start depth next delta small some low high ranged ends =
      let room = inner_set start op.I32Sub next (Const Mine.reserve) (variable Mine.size) (two_padded tree linked number B start 7 op.I32Sub (variable Mine.size) refl) (reads_const tree linked number B Mine.reserve) size_read (new next (omega arith) (omega (arith, high))) (omega arith) (omega arith) in
      let exceeds = inner_set (suc start) op.I32GtU (suc next) delta (variable next) (two_padded tree linked number B start 7 op.I32GtU (variable next) refl) delta_read (reads_own tree linked number B next (omega (arith, low)) (omega (arith, high))) (new (suc next) (omega arith) (omega (arith, high))) (omega arith) (omega arith) in
      let test = test_simple tree linked number B start 7 (shift 2 start) (variable (suc next)) (shift 6 start) (shift 3 start) (reads_own tree linked number B (suc next) (omega (arith, low)) (omega (arith, high))) (inside (omega arith) (omega arith)) (inside (omega arith) (omega arith)) in
      let old = move_simple tree linked number B start 7 (shift 3 start) depth (suc (suc next)) (variable Mine.size) small size_read (new (suc (suc next)) (omega arith) high) (inside (omega arith) (omega arith)) in
      let added : Lawful tree linked number B start 7 (shift 4 start) (set_command depth op.I32Add Mine.size (variable Mine.size) delta) = record {
        is = two_padded tree linked number B start 7 op.I32Add delta refl;
        rule4 = record {
          reads = λ y i. elim i [ inl e ↦ size_read y e | inr j ↦ elim j [ inl e ↦ delta_read y e | inr k ↦ elim k [ inl e ↦ absurd e | inr l ↦ absurd l ] ] ];
          writes = inl (omega (arith, size_static some, length-map tree.globals global_def, length-map tree.memories memory_def));
        };
        rule6 = small;
        targets = λ q h. absurd h;
        falls = inr (inside (omega arith) (omega arith));
      } in
      let jump = jump_simple tree linked number B start 7 (shift 5 start) (shift 7 start) (inr (inl ends)) in
      let refused = move_simple tree linked number B start 7 (shift 6 start) depth (suc (suc next)) (Const 4294967295) small (reads_const tree linked number B 4294967295) (new (suc (suc next)) (omega arith) high) (inr (inl ends)) in
      record {
        each = (room.lawful, (exceeds.lawful, (test.lawful, (old.lawful, (added, (jump.lawful, (refused.lawful, tt)))))));
        some = omega arith;
        sort = grows (record {
          depth = depth;
          next = next;
          delta = delta;
          memory = Mine.memory;
          size = Mine.size;
          size_is = omega (arith, length-map tree.globals global_def);
          reserve = Mine.reserve;
          reserved = reserved_is;
          are = refl;
          own_r = new_local tree linked number B next low (omega (arith, high));
          own_t = new_local tree linked number B (suc next) (omega (arith, low)) (omega (arith, high));
          own_v = new_local tree linked number B (suc (suc next)) (omega (arith, low)) high;
          apart_r = not_new (bottom Mine) next next delta (omega arith) ranged;
          apart_t = not_new (bottom Mine) next (suc next) delta (omega arith) ranged;
          apart_v = not_new (bottom Mine) next (suc (suc next)) delta (omega arith) ranged;
        });
      }
    where
      size_read : Readable tree linked number B (variable Mine.size)
      size_read = reads_static tree linked number B Mine.size (size_static some)

      delta_read : Readable tree linked number B delta
      delta_read = readable tree linked number B next delta (omega (arith, high)) ranged

      new : (x : ℕ) → next ≤ x → x < Mine.limit → Writes tree linked number B x
      new x above below = inl (new_local tree linked number B x (omega (arith, low, above)) below)

      inside : {q : ℕ} → start < q → q < start + 7 → Goes tree linked number B start 7 q
      inside above below = inr (inr (above, below))

      inner_set : (position : ℕ) (o : Op) (x : ℕ) (a b : Operand) → ArePadded o b (Const 0) → Readable tree linked number B a → Readable tree linked number B b → Writes tree linked number B x → start < suc position → suc position < start + 7
          → Simple tree linked number B start 7 position (set_command depth o x a b)
      inner_set position o x a b padded ra rb writes above below = set_simple tree linked number B start 7 position depth o x a b (Const 0) small padded ra rb (reads_const tree linked number B 0) writes (inr (inr (above, below)))

      found : (m : ℕ) → m < length tree.memories → option_map (λ defined. defined.reserve) (option_map memory_def (slice_get tree.memories m)) ≡ Some (reserve_in (slice_get tree.memories m))
      found m lt =
          let got = within_get tree.memories m lt in
          ap (λ o. option_map (λ defined. defined.reserve) (option_map memory_def o)) got.1 ∙ sym (ap (λ o. Some (reserve_in o)) got.1)

      reserved_is : option_map (λ defined. defined.reserve) (slice_get (low_tree tree).memories Mine.memory) ≡ Some Mine.reserve
      reserved_is = ap (λ o. option_map (λ defined. defined.reserve) o) (slice_get-map memory_def tree.memories Mine.memory) ∙ found Mine.memory (memory_within some)
