-- The numbers of both parts' commands can be moved to where they stand in the joined program.
use Rattle.std.proofs.Common.{◌⊎◌, inl, inr, ◌≡◌, ℕ, ◌+◌, ◌-◌, ◌^◌, ◌<◌, List, length, drop, take, refl, sym, ◌∙◌, arith}
use Rattle.std.specs.List.{All}
use Rattle.std.proofs.lemmas.List.{length-drop, take_all}
use Rattle.std.proofs.lemmas.Option.{slice_get_within}
use Rattle.bl_base.proofs.Lists.{all_from}
use Rattle.bl_program.specs.Layout.{first_of, Holds}
use Rattle.bl_program.specs.Programs.{IsProgram}
use Rattle.bl_program.specs.Rules.{IsWellFormed, Rule4, Rule5, Rule6, operands_of}
use Rattle.bl_program.specs.Sites.{Among, Names}
use Rattle.bl_program.specs.declared.command.Command.{Command}
use Rattle.bl_program.specs.declared.command.Command.TheVariants.{Set, Load, Store, Test, Jump, Arg, Call, Out, Ret, Trap}
use Rattle.bl_program.specs.declared.command.Operand.{Operand}
use Rattle.bl_program.specs.declared.command.Operand.TheVariants.{Var, Const}
use Rattle.bl_program.specs.declared.definitions.ProgramParts.{ProgramParts as Program}
use Rattle.bl_program.proofs.Layouts.{held_by, holds_within}
use Rattle.bl_program.proofs.AppendLemmas.{get_drop}
use Rattle.bl_program.proofs.VariableBounds.{readable_small, writable_small}
use Rattle.bl_iface.specs.JoinedProgram.{CanJoin, client_shift, library_shift}
use Rattle.bl_iface.specs.MovableNumbers.{IsMovable, IsNear, IsSmall, IsSmallOperand}
use Rattle.bl_iface.specs.declared.iface.Iface.{Iface}
use Rattle.bl_iface.specs.declared.shift.Shift.{Shift}
use Rattle.bl_iface.proofs.JoinedWellFormed.{commands_fit, functions_fit, variables_fit}

-- a part has room where it is moved to
pub record HasRoom (part : Program) (shift : Shift) : Type 0 where
  pub vars : (x : ℕ) → x < first_of part (length part.functions) → IsSmall shift x
  pub commands : length part.commands + shift.commands < 2 ^ 32
  pub memories : shift.memories + length part.memories < 2 ^ 32
  pub functions : shift.functions + length part.functions < 2 ^ 32

module _ (part : Program) (shift : Shift) (facts : IsProgram part) (well : IsWellFormed part) (room : HasRoom part shift) where
  near : (f t : ℕ) → (t < 7) ⊎ Holds part f t → IsNear shift t
  near f t h =
      let all = facts.lengths in
      let fits = room.commands in
      elim h as (λ _. IsNear shift t) [
        | inl low ↦ omega arith
        | inr held ↦ let within = holds_within part f t facts held in omega arith
      ]

  operand : (f : ℕ) (c : Command) (o : Operand) → Rule4 part f c → ((x : ℕ) → Names o x → Among (operands_of c) x) → IsSmallOperand shift o
  operand f c (Var x) four among = room.vars x.0 (readable_small part well.rule2 f x.0 (four.reads x.0 (among x.0 refl)))
  operand f c (Const number) four among = tt

  memory_near : (m : ℕ) → m < length part.memories → shift.memories + m < 2 ^ 32
  memory_near m lt = let fits = room.memories in omega arith

  function_near : (g : ℕ) → g < length part.functions → shift.functions + g < 2 ^ 32
  function_near g lt = let fits = room.functions in omega arith

  movable : (f p : ℕ) (c : Command) → Rule4 part f c → Rule5 part f p c → Rule6 part f c → IsMovable shift c
  movable f p (Set mark op to a b c) four five six = (
    room.vars to.0 (writable_small part well.rule2 f to.0 four.writes),
    operand f (Set mark op to a b c) a four (λ x h. inl h),
    operand f (Set mark op to a b c) b four (λ x h. inr (inl h)),
    operand f (Set mark op to a b c) c four (λ x h. inr (inr (inl h))),
  )
  movable f p (Load mark kind memory to offset address) four five six = (
    room.vars to.0 (writable_small part well.rule2 f to.0 four.writes),
    operand f (Load mark kind memory to offset address) address four (λ x h. inl h),
    memory_near memory six.1,
  )
  movable f p (Store kind memory offset address value) four five six = (
    operand f (Store kind memory offset address value) address four (λ x h. inl h),
    operand f (Store kind memory offset address value) value four (λ x h. inr (inl h)),
    memory_near memory six,
  )
  movable f p (Test cond one other) four five six =
      (operand f (Test cond one other) cond four (λ x h. inl h), near f one.0 (five.targets one.0 (inl refl)), near f other.0 (five.targets other.0 (inr refl)))
  movable f p (Jump to) four five six = near f to.0 (five.targets to.0 refl)
  movable f p (Arg mark function index value) four five six = (operand f (Arg mark function index value) value four (λ x h. inl h), function_near function six.1)
  movable f p (Call function) four five six = function_near function six
  movable f p (Out mark index value) four five six = operand f (Out mark index value) value four (λ x h. inl h)
  movable f p Ret four five six = tt
  movable f p (Trap kind) four five six = tt

  pub all_movable : All (IsMovable shift) (drop 7 part.commands)
  all_movable = all_from (IsMovable shift) (drop 7 part.commands) (λ k c stands.
      let p : ℕ = 7 + k in
      let at = sym (get_drop 7 part.commands (7 + k) k refl) ∙ stands in
      let held = held_by part (7 + k) facts (omega arith) (slice_get_within part.commands (7 + k) c at) in
      movable held.0 (7 + k) c (well.rule4 (7 + k) held.0 c held.1 at) (well.rule5 (7 + k) held.0 c held.1 at) (well.rule6 (7 + k) held.0 c held.1 at))

module _ (client library : Program) (iface : Iface) (facts : IsProgram client) (other_facts : IsProgram library) (well : IsWellFormed client) (other_well : IsWellFormed library)
    (can : CanJoin client library iface) where
  pub client_room : HasRoom client (client_shift library)
  client_room =
      let vars = variables_fit client library iface facts other_facts well other_well can in
      let commands = commands_fit client library iface facts other_facts well other_well can in
      let functions = functions_fit client library iface facts other_facts well other_well can in
      record {
        vars = λ x lt. record { globals = omega arith; sizes = omega arith; vars = omega arith };
        commands = omega arith;
        memories = omega arith;
        functions = omega arith;
      }

  pub library_room : HasRoom library (library_shift client)
  library_room =
      let vars = variables_fit client library iface facts other_facts well other_well can in
      let commands = commands_fit client library iface facts other_facts well other_well can in
      let functions = functions_fit client library iface facts other_facts well other_well can in
      let long = facts.lengths in
      let also = other_facts.lengths in
      record {
        vars = λ x lt. record { globals = omega arith; sizes = omega arith; vars = omega arith };
        commands = omega arith;
        memories = omega arith;
        functions = omega arith;
      }

-- all behind the traps
pub behind : (xs : List Command) → take (length xs - 7) (drop 7 xs) ≡ drop 7 xs
behind xs = let long = length-drop 7 xs in take_all (length xs - 7) (drop 7 xs) (omega arith)
