-- The premises of the law on runs hold for the small program of specs/Counting.antt.
use Rattle.std.proofs.Common.{◌≡◌, ◌≢◌, ℕ, zero, suc, ◌+◌, ◌*◌, ◌-◌, ◌^◌, ◌<◌, ◌≤◌, ◌⊎◌, inl, inr, Bool, true, false, ◌&&◌, ◌||◌, leb, ltb, IsTrue, All, [], ◌∷◌, get_or, Some, slice_index, refl, subst, arith}
use Rattle.std.specs.List.{AllPairs}
use Rattle.std.proofs.lemmas.Bool.{cases_lt, ltb-true}
use Rattle.std.proofs.lemmas.Option.{none-some, same_Some, slice_get_within}
use Rattle.bl_base.specs.Runs.{StepsTo}
use Rattle.bl_base.specs.declared.trap.Trap.TheVariants.{Unreachable, DivideByZero, Overflow, OutOfBounds, UndefinedElement, UninitializedElement, TypeMismatch}
use Rattle.bl_ops.specs.Numerics.{meaning}
use Rattle.bl_ops.specs.declared.op.Op.TheVariants.{I32Add}
use Rattle.bl_program.specs.Layout.{command_at, first_of, Holds}
use Rattle.bl_program.specs.Programs.{IsCommand, IsProgram, IsTrapAt}
use Rattle.bl_program.specs.Rules.{AtCommand, GoesTo, IsFunction, IsReadable, IsWellFormed, operands_of, Precedes, Rule4, Rule5, Rule6, Rule7, Rule8, variable}
use Rattle.bl_program.specs.Sites.{Among, weight_of}
use Rattle.bl_program.specs.Steps.{Plain, held, plain_step}
use Rattle.bl_program.specs.declared.command.Command.{Command}
use Rattle.bl_program.specs.declared.command.Command.TheVariants.{Set, Test}
use Rattle.bl_program.specs.declared.command.Operand.TheVariants.{Const}
use Rattle.bl_program.specs.declared.definitions.FunctionDef.{FunctionDef}
use Rattle.bl_select.specs.Frames.{IsFrame, Matches, held_at}
use Rattle.bl_seq.specs.OwnMemory.{IsReached}
use Rattle.bl_layout.specs.Blocks.{IsWritable, count_from}
use Rattle.bl_layout.specs.Counting.{counting, nothing, begun, counting_starts, counting_code, counting_frame, counting_core}
use Rattle.bl_layout.specs.Layouts.{IsLaidOut}
use Rattle.bl_layout.specs.Slots.{AreFew, HasRoom, is_alive_in, location_in, slots_of, placing_at}

and_second : (a b : Bool) → (a && b) ≡ true → b ≡ true
and_second true b e = e
and_second false b e = cc

-- ---- the frame

pub frame_is : IsFrame counting_frame
frame_is = record {
  context_slots = inl (omega arith);
  context_memory = inl (omega arith);
  slots_memory = inl (omega arith);
  context_ends = omega arith;
  slots_end = omega arith;
  memory_ends = omega arith;
  begins = omega arith;
  ends = omega arith;
}

room_by : (function : ℕ) → 8 * (first_of counting (suc function) - first_of counting function) ≤ 8
room_by zero = omega arith
room_by (suc function) = omega arith

pub has_room : HasRoom counting counting_frame
has_room = record { context = omega arith; context_short = omega arith; slots = room_by; slots_short = omega arith }

-- ---- the code

abbrev adds : Command
adds = Set (record { depth = 0; protect = false }) I32Add (record { 0 = 0 }) (variable 0) (Const 1) (Const 0)

abbrev tests : Command
tests = Test (variable 0) (record { 0 = 7 }) (record { 0 = 0 })

-- a fact of both commands of the function is one of each command from position 7 on
module _ (Keeps : ℕ → Command → Type 0) (first : Keeps 7 adds) (second : Keeps 8 tests) where
  at_seven : (command : Command) → command_at counting 7 ≡ Some command → Keeps 7 command
  at_seven command got = subst (λ c. Keeps 7 c) (same_Some adds command got) first

  at_eight : (command : Command) → command_at counting 8 ≡ Some command → Keeps 8 command
  at_eight command got = subst (λ c. Keeps 8 c) (same_Some tests command got) second

  both : (position : ℕ) (command : Command) → 7 ≤ position → command_at counting position ≡ Some command → Keeps position command
  both position command from got = by_order (cases_lt position 8) (slice_get_within counting.commands position command got)
    where
      by_order : (position < 8) ⊎ (8 ≤ position) → position < 9 → Keeps position command
      by_order (inl lt) within =
          let is : 7 ≡ position = omega arith in
          subst (λ p. command_at counting p ≡ Some command → Keeps p command) is (at_seven command) got
      by_order (inr le) within =
          let is : 8 ≡ position = omega arith in
          subst (λ p. command_at counting p ≡ Some command → Keeps p command) is (at_eight command) got

few_is : (position : ℕ) → AreFew (slots_of counting position)
few_is zero = record { context = omega arith; frame = omega arith }
few_is (suc position) = record { context = omega arith; frame = omega arith }

count_is : (k : ℕ) → k ≤ 9 → slice_index counting_starts k ≡ count_from counting (slice_index counting_starts) 0 counting.commands k
count_is zero h = refl
count_is (suc zero) h = refl
count_is (suc (suc zero)) h = refl
count_is (suc (suc (suc zero))) h = refl
count_is (suc (suc (suc (suc zero)))) h = refl
count_is (suc (suc (suc (suc (suc zero))))) h = refl
count_is (suc (suc (suc (suc (suc (suc zero)))))) h = refl
count_is (suc (suc (suc (suc (suc (suc (suc zero))))))) h = refl
count_is (suc (suc (suc (suc (suc (suc (suc (suc zero)))))))) h = refl
count_is (suc (suc (suc (suc (suc (suc (suc (suc (suc zero))))))))) h = refl
count_is (suc (suc (suc (suc (suc (suc (suc (suc (suc (suc k)))))))))) h = absurd (omega arith)

pub laid_out : IsLaidOut counting counting_starts counting_code
laid_out = record {
  writable = record { each = both (IsWritable counting) (record { few = few_is 0; written = (refl, refl, omega arith, omega arith) }) (record { few = few_is 0; written = refl }) };
  starts_are = record { count = refl; each = count_is };
  code_is = refl;
}

-- ---- the program

trap_is : (position : ℕ) → position < 7 → IsTrapAt counting.commands position
trap_is zero h = (Unreachable, refl, refl)
trap_is (suc zero) h = (DivideByZero, refl, refl)
trap_is (suc (suc zero)) h = (Overflow, refl, refl)
trap_is (suc (suc (suc zero))) h = (OutOfBounds, refl, refl)
trap_is (suc (suc (suc (suc zero)))) h = (UndefinedElement, refl, refl)
trap_is (suc (suc (suc (suc (suc zero))))) h = (UninitializedElement, refl, refl)
trap_is (suc (suc (suc (suc (suc (suc zero)))))) h = (TypeMismatch, refl, refl)
trap_is (suc (suc (suc (suc (suc (suc (suc position))))))) h = absurd (omega arith)

commands_are : (k : ℕ) (d : Command) → k < 9 → IsCommand (get_or counting.commands k d)
commands_are zero d h = tt
commands_are (suc zero) d h = tt
commands_are (suc (suc zero)) d h = tt
commands_are (suc (suc (suc zero))) d h = tt
commands_are (suc (suc (suc (suc zero)))) d h = tt
commands_are (suc (suc (suc (suc (suc zero))))) d h = tt
commands_are (suc (suc (suc (suc (suc (suc zero)))))) d h = tt
commands_are (suc (suc (suc (suc (suc (suc (suc zero))))))) d h = (λ few. absurd (omega (arith, few)), λ more. refl)
commands_are (suc (suc (suc (suc (suc (suc (suc (suc zero)))))))) d h = tt
commands_are (suc (suc (suc (suc (suc (suc (suc (suc (suc k))))))))) d h = absurd (omega (arith, h))

pub facts : IsProgram counting
facts = record { commands = commands_are; traps = trap_is; lengths = refl }

none : {X : Type 0} (P : X → Type 0) → All P []
none P = λ k d lt. absurd (omega (arith, lt))

no_pairs : {X : Type 0} (R : X → X → Type 0) → AllPairs R []
no_pairs R = λ i j d lt below. absurd (omega (arith, below))

function_is : (k : ℕ) (d : FunctionDef) → k < 1 → IsFunction (get_or counting.functions k d)
function_is zero d h = record { command = omega arith; variables = omega arith }
function_is (suc k) d h = absurd (omega (arith, h))

-- the function that holds a position
holds_seven : Holds counting 0 7
holds_seven = record { exists = omega arith; from = omega arith; below = omega arith }

module _ (Keeps : ℕ → ℕ → Command → Type 0) (first : Keeps 7 0 adds) (second : Keeps 8 0 tests) where
  each : (position : ℕ) → AtCommand counting position (Keeps position)
  each position function command holds got =
      let is : 0 ≡ function = omega (arith, holds.exists) in
      subst (λ f. Keeps position f command) is (both (λ p c. Keeps p 0 c) first second position command (omega (arith, holds.from)) got)

rule4_adds : Rule4 counting 0 adds
rule4_adds = record { reads = read; writes = inr ((omega arith, omega arith), λ r. omega (arith, r.0, r.1)) }
  where
    read : (x : ℕ) → Among (operands_of adds) x → IsReadable counting 0 x
    read x (inl e) = inr (inl (omega (arith, e), omega (arith, e)))
    read x (inr (inl e)) = absurd e
    read x (inr (inr (inl e))) = absurd e
    read x (inr (inr (inr e))) = absurd e

rule4_tests : Rule4 counting 0 tests
rule4_tests = record { reads = read; writes = tt }
  where
    read : (x : ℕ) → Among (operands_of tests) x → IsReadable counting 0 x
    read x (inl e) = inr (inl (omega (arith, e), omega (arith, e)))
    read x (inr e) = absurd e

rule5_adds : Rule5 counting 0 7 adds
rule5_adds = record { targets = λ target goes. absurd goes; last = λ e. omega (arith, e) }

rule5_tests : Rule5 counting 0 8 tests
rule5_tests = record { targets = to; last = λ e. tt }
  where
    to : (target : ℕ) → GoesTo tests target → (target < 7) ⊎ Holds counting 0 target
    to target (inl e) = inr (subst (Holds counting 0) e holds_seven)
    to target (inr e) = inl (omega (arith, e))

weighs : weight_of counting (λ _. true) ≡ 1
weighs = refl

pub rules : IsWellFormed counting
rules = record {
  rule1 = record { memories = none _; total = omega arith };
  rule2 = record { functions = omega arith; each = function_is; variables = omega arith; commands = omega arith; globals = none _ };
  rule3 = record { distinct = λ i j a b got other same. absurd (none-some a got); exist = none _ };
  rule4 = each (λ position. Rule4 counting) rule4_adds rule4_tests;
  rule5 = each (λ position function. Rule5 counting function position) rule5_adds rule5_tests;
  rule6 = each (λ position. Rule6 counting) (omega arith) tt;
  rule7 = each (λ position function. Rule7 counting function position) tt tt;
  rule8 = each (λ position function. Rule8 counting function position) (λ memory lt is. absurd (omega (arith, lt))) tt;
  rule9 = record { demands_rise = no_pairs Precedes; demands = none _; weights_rise = λ i j d lt below. absurd (omega (arith, below)); weights = none _; total = omega (arith, weighs) };
}

-- ---- the run

pub reached : IsReached counting begun
reached = record {
  facts = facts;
  rules = rules;
  function = 0;
  start = nothing;
  start_fits = record { defined = record { params = []; results = []; vars = 1; length = 2 }; exists = refl; fits = record { arguments = tt; patches = none _ } };
  steps = 0;
  comes = refl;
}

-- its only variable
only : (x : ℕ) → IsTrue (is_alive_in (slots_of counting 0) x) → 0 ≡ x
only x h = by_test (ltb x 0) refl h
  where
    by_test : (t : Bool) → ltb x 0 ≡ t → (t || (leb 0 x && ltb x 1)) ≡ true → 0 ≡ x
    by_test true e g = absurd (omega (arith, ltb-true x 0 e))
    by_test false e g = let below : ltb x 1 ≡ true = and_second (leb 0 x) (ltb x 1) g in omega (arith, ltb-true x 1 below)

pub matches : Matches counting counting_frame (placing_at counting 7) begun counting_core
matches = record {
  slots = refl;
  context = refl;
  memory = refl;
  variables = λ x h. subst (λ y. held_at counting_frame counting_core (location_in (slots_of counting 0) y) ≡ begun.registers (held counting 1 y) y) (only x h) refl;
  fits = λ x h. subst (λ y. begun.registers (held counting 1 y) y < 2 ^ 64) (only x h) (omega arith);
  space = λ place lt. absurd (omega (arith, lt));
  bytes = λ address. omega arith;
  room = omega arith;
}

pub runs : (t : Plain) × StepsTo (plain_step counting) 2 begun t
unfolding meaning
runs = (_, (_, refl, (_, refl, refl)))
