-- Where the instructions of each command stand, and how many there are.
use Rattle.std.proofs.Common.{◌≡◌, ℕ, zero, suc, ◌+◌, ◌*◌, ◌<◌, ◌≤◌, ◌⊎◌, inl, inr, Bool, true, false, cond, ltb, List, [], ◌∷◌, ◌++◌, length, drop, get_or, Some, slice_get, slice_index, refl, sym, ap, ap₂, ◌∙◌, subst, append_assoc, arith, length-append}
use Rattle.std.proofs.Math.ListN.{get_or-append}
use Rattle.std.proofs.Math.Seq.{drop-append-add}
use Rattle.std.proofs.lemmas.Bool.{cases_lt}
use Rattle.std.proofs.lemmas.List.{get_or_push}
use Rattle.std.proofs.lemmas.Option.{none-some, same_Some, slice_get-get_or, slice_get_within}
use Rattle.bl_program.specs.Layout.{base, command_at}
use Rattle.bl_program.specs.declared.command.Command.{Command}
use Rattle.bl_program.specs.declared.command.Command.TheVariants.{Set, Load, Store, Test, Jump}
use Rattle.bl_program.specs.declared.definitions.ProgramParts.{ProgramParts as Program}
use Rattle.bl_x64.specs.declared.instruction.Instruction.{Instruction}
use Rattle.bl_select.specs.Frames.{Placing, source_of}
use Rattle.bl_select.specs.StraightRuns.{Stands}
use Rattle.bl_select.specs.Templates.{jump_template}
use Rattle.bl_select.proofs.Lengths.{set_length, load_length, store_length}
use Rattle.bl_layout.specs.Blocks.{AreWritable, IsWritable, block_of, block_at, blocks_from, count_from}
use Rattle.bl_layout.specs.Layouts.{AreStarts}
use Rattle.bl_layout.specs.Slots.{placing_at}

-- ---- lengths

block_few : (p : Placing) (bases begins : ℕ → ℕ) (command : Command) → length (block_of p bases begins command) ≤ 21
block_few p bases begins (Set mark op x a b c) = (set_length mark.protect op (p.location x.0) (source_of p a) (source_of p b) (source_of p c)).1
block_few p bases begins (Load mark kind memory x offset a) = (load_length mark.protect kind (p.location x.0) (bases memory + offset) (source_of p a)).1
block_few p bases begins (Store kind memory offset a b) = (store_length kind (bases memory + offset) (source_of p a) (source_of p b)).1
block_few p bases begins (Test a one other) = omega arith
block_few p bases begins (Jump to) = omega arith
block_few p bases begins command = omega arith

block_same : (p : Placing) (bases one other : ℕ → ℕ) (command : Command) → length (block_of p bases one command) ≡ length (block_of p bases other command)
block_same p bases one other (Set mark op x a b c) = refl
block_same p bases one other (Load mark kind memory x offset a) = refl
block_same p bases one other (Store kind memory offset a b) = refl
block_same p bases one other (Test a taken fallen) = refl
block_same p bases one other (Jump to) = refl
block_same p bases one other command = refl

module _ (program : Program) where
  -- no command has more than 21 instructions
  pub few_at : (begins : ℕ → ℕ) (position : ℕ) (command : Command) → length (block_at program begins position command) ≤ 21
  few_at begins position command = by_test (ltb position 7)
    where
      by_test : (t : Bool) → length (cond t (jump_template (begins position)) (block_of (placing_at program position) (base program) begins command)) ≤ 21
      by_test true = omega arith
      by_test false = block_few (placing_at program position) (base program) begins command

  -- their number does not depend on the targets
  same_at : (one other : ℕ → ℕ) (position : ℕ) (command : Command) → length (block_at program one position command) ≡ length (block_at program other position command)
  same_at one other position command = by_test (ltb position 7)
    where
      by_test : (t : Bool) → length (cond t (jump_template (one position)) (block_of (placing_at program position) (base program) one command))
          ≡ length (cond t (jump_template (other position)) (block_of (placing_at program position) (base program) other command))
      by_test true = refl
      by_test false = block_same (placing_at program position) (base program) one other command

  pub count_same : (one other : ℕ → ℕ) (from : ℕ) (commands : List Command) (k : ℕ) → count_from program one from commands k ≡ count_from program other from commands k
  count_same one other from commands zero = refl
  count_same one other from [] (suc k) = refl
  count_same one other from (command ∷ commands) (suc k) = ap₂ (λ (a b : ℕ). a + b) (same_at one other from command) (count_same one other (suc from) commands k)

  pub starts_same : (one other : ℕ → ℕ) (starts : List ℕ) → AreStarts program one starts → AreStarts program other starts
  starts_same one other starts are = record { count = are.count; each = λ k h. are.each k h ∙ count_same one other 0 program.commands k }

  -- ---- one command more

  module _ (begins : ℕ → ℕ) where
    pub count_next : (from : ℕ) (commands : List Command) (k : ℕ) (command : Command) → slice_get commands k ≡ Some command
        → count_from program begins from commands (suc k) ≡ count_from program begins from commands k + length (block_at program begins (from + k) command)
    count_next from [] k command e = absurd (none-some command e)
    count_next from (first ∷ commands) zero command e =
        let place : from + 0 ≡ from = omega arith in
        omega (arith, ap₂ (λ p c. length (block_at program begins p c)) (sym place) (same_Some first command e))
    count_next from (first ∷ commands) (suc k) command e =
        let place : suc from + k ≡ from + suc k = omega arith in
        omega (arith, count_next (suc from) commands k command e, ap (λ p. length (block_at program begins p command)) place)

    -- the instructions from a command on
    pub blocks_at : (from : ℕ) (commands : List Command) (k : ℕ) (command : Command) → slice_get commands k ≡ Some command
        → drop (count_from program begins from commands k) (blocks_from program begins from commands)
        ≡ block_at program begins (from + k) command ++ blocks_from program begins (suc (from + k)) (drop (suc k) commands)
    blocks_at from [] k command e = absurd (none-some command e)
    blocks_at from (first ∷ commands) zero command e =
        let place : from ≡ from + 0 = omega arith in
        ap₂ (λ p c. block_at program begins p c ++ blocks_from program begins (suc p) commands) place (same_Some first command e)
    blocks_at from (first ∷ commands) (suc k) command e =
        let place : suc from + k ≡ from + suc k = omega arith in
        drop-append-add (block_at program begins from first) (blocks_from program begins (suc from) commands) (count_from program begins (suc from) commands k)
        ∙ blocks_at (suc from) commands k command e
        ∙ ap (λ p. block_at program begins p command ++ blocks_from program begins (suc p) (drop (suc k) commands)) place

-- ---- instructions that a program has from a number on

first_got : (code : List Instruction) (k : ℕ) (i : Instruction) (rest : List Instruction) → drop k code ≡ i ∷ rest → (slice_get code k ≡ Some i) × (drop (suc k) code ≡ rest)
first_got [] zero i rest e = cc
first_got [] (suc k) i rest e = cc
first_got (j ∷ code) zero i rest e = let same : j ≡ i = cc in let more : code ≡ rest = cc in (ap (λ x. Some x) same, more)
first_got (j ∷ code) (suc k) i rest e = first_got code k i rest e

pub stands_at : (code : List Instruction) (k : ℕ) (block rest : List Instruction) → drop k code ≡ block ++ rest → Stands code k block
stands_at code k [] rest e = tt
stands_at code k (i ∷ block) rest e = let got = first_got code k i (block ++ rest) e in (got.0, stands_at code (suc k) block rest got.1)

from_there : (commands : List Command) (k : ℕ) (command : Command) → slice_get commands k ≡ Some command → drop k commands ≡ command ∷ drop (suc k) commands
from_there [] k command e = absurd (none-some command e)
from_there (first ∷ commands) zero command e = ap (λ x. x ∷ commands) (same_Some first command e)
from_there (first ∷ commands) (suc k) command e = from_there commands k command e

-- ---- tables

pub table_more : (f : ℕ → ℕ) (i x : ℕ) (old new : List ℕ) → new ≡ old ++ x ∷ [] → length old ≡ i + 1 → x ≡ f (i + 1)
    → ((k : ℕ) → k ≤ i → slice_index old k ≡ f k) → (k : ℕ) → k ≤ i + 1 → slice_index new k ≡ f k
table_more f i x old new e count is so_far k h = by_order (cases_lt k (i + 1))
  where
    by_order : (k < i + 1) ⊎ (i + 1 ≤ k) → slice_index new k ≡ f k
    by_order (inl lt) = rw e (get_or-append old (x ∷ []) 0 k (omega arith) ∙ so_far k (omega arith))
    by_order (inr le) =
        let last : k ≡ length old = omega arith in
        let same : f k ≡ f (i + 1) = ap f (omega arith) in
        rw e (get_or_push old x 0 k (sym last)) ∙ is ∙ sym same

-- the first instruction of the next command
pub start_more : (program : Program) (targets : ℕ → ℕ) (k start count next : ℕ) (command : Command) → slice_get program.commands k ≡ Some command
    → start ≡ count_from program targets 0 program.commands k → count ≡ length (block_at program targets k command) → next ≡ start + count
    → next ≡ count_from program targets 0 program.commands (k + 1)
start_more program targets k start count next command got so_far few is =
    let none : 0 + k ≡ k = omega arith in
    let one : k + 1 ≡ suc k = omega arith in
    rw one (omega (arith, so_far, few, is, count_next program targets 0 program.commands k command got, ap (λ n. length (block_at program targets n command)) none))

-- the code with the instructions of one command more
pub code_more : (program : Program) (targets : ℕ → ℕ) (k : ℕ) (command : Command) (old new all : List Instruction) → slice_get program.commands k ≡ Some command
    → new ≡ old ++ block_at program targets k command → old ++ blocks_from program targets k (drop k program.commands) ≡ all
    → new ++ blocks_from program targets (k + 1) (drop (k + 1) program.commands) ≡ all
code_more program targets k command old new all got e so_far =
    let one : k + 1 ≡ suc k = omega arith in
    rw (one, e) (append_assoc old (block_at program targets k command) (blocks_from program targets (suc k) (drop (suc k) program.commands))
    ∙ ap (λ l. old ++ blocks_from program targets k l) (sym (from_there program.commands k command got)) ∙ so_far)

-- ---- the check of each command

-- the command that a loop over the commands reads
pub item_there : (program : Program) (xs : List Command) (n : ℕ) (d : Command) → xs ≡ program.commands → n < length xs → command_at program n ≡ Some (get_or xs n d)
item_there program xs n d e lt = ap (λ l. slice_get l n) (sym e) ∙ slice_get-get_or xs n d lt

pub one_writable : (program : Program) (n : ℕ) (item : Command) → command_at program n ≡ Some item
    → ((other : ℕ) (earlier : Command) → 7 ≤ other → other < n → command_at program other ≡ Some earlier → IsWritable program other earlier)
    → (7 ≤ n → IsWritable program n item)
    → (other : ℕ) (earlier : Command) → 7 ≤ other → other < n + 1 → command_at program other ≡ Some earlier → IsWritable program other earlier
one_writable program n item there so_far good other earlier le below got = by_order (cases_lt other n)
  where
    by_order : (other < n) ⊎ (n ≤ other) → IsWritable program other earlier
    by_order (inl low) = so_far other earlier le low got
    by_order (inr high) =
        let here : n ≡ other = omega arith in
        let same : item ≡ earlier = same_Some item earlier (sym there ∙ ap (command_at program) here ∙ got) in
        subst (λ k. IsWritable program k earlier) here (subst (λ x. IsWritable program n x) same (good (omega arith)))

pub all_writable : (program : Program) (n : ℕ) → length program.commands ≤ n
    → ((other : ℕ) (earlier : Command) → 7 ≤ other → other < n → command_at program other ≡ Some earlier → IsWritable program other earlier) → AreWritable program
all_writable program n le h = record { each = λ position command from got. h position command from (omega (arith, slice_get_within program.commands position command got)) got }

-- a position at which the test fails is one of a function
pub refused_late : (position : ℕ) (Fine : Type 0) → ((7 ≤ position → Fine) → false ≡ true) → 7 ≤ position
refused_late position Fine told = by_order (cases_lt position 7)
  where
    false_true : false ≡ true → ⊥
    false_true e = cc

    by_order : (position < 7) ⊎ (7 ≤ position) → 7 ≤ position
    by_order (inl low) = absurd (false_true (told (λ high. absurd (omega (arith, low, high)))))
    by_order (inr high) = high
