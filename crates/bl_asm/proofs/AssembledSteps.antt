-- The machine over bytes does the same steps as the machine over instructions.
use Rattle.std.proofs.Common.{◌≡◌, ℕ, zero, suc, ◌+◌, ◌-◌, ◌%◌, ◌^◌, ◌<◌, ◌≤◌, Bool, true, false, cond, eqb, Option, Some, None, slice_get, List, [], ◌∷◌, ◌++◌, length, drop, refl, sym, ap, ◌∙◌, arith, length-drop, mod-lt}
use Rattle.std.proofs.lemmas.Bool.{eqb-true}
use Rattle.std.proofs.lemmas.List.{drop_all}
use Rattle.std.proofs.lemmas.Option.{none-some, same_Some}
use Rattle.bl_base.specs.Runs.{goes, stuck, StepsTo}
use Rattle.bl_x64.specs.Operations.{holds}
use Rattle.bl_x64.specs.Machines.{Areas, Core, Effect, goes_on, jumps, calls, returns, faults, by, if_holds, loaded, popped, pushed, widened, effect}
use Rattle.bl_x64.specs.Programs.{IsInstruction, Machine, machine_step, position_of, came_back}
use Rattle.bl_x64.specs.Programs.{after as after_instruction, entered as entered_instruction, perform as perform_instruction}
use Rattle.bl_x64.specs.declared.register.Register.TheVariants.{Rsp}
use Rattle.bl_x64.specs.declared.instruction.Instruction.{Instruction}
use Rattle.bl_x64.specs.declared.instruction.Instruction.TheVariants.{Mov, Jump, JumpIf, Call, Ret}
use Rattle.bl_x64.proofs.Effects.{Falls, plain_falls}
use Rattle.bl_asm.specs.Encoding.{encoded}
use Rattle.bl_asm.specs.Decoding.{decode}
use Rattle.bl_asm.specs.Assembly.{IsCode, IsAimed, place_of, distance, aimed, bytes_from, assembled}
use Rattle.bl_asm.specs.ByteMachines.{HasPlaces, after, byte_step, entered, origin, perform, place_at, placed, placed_next}
use Rattle.bl_asm.proofs.Places.{bytes_at, from_there, is_within, jump_lands, length-aimed, length-bytes, past_end, place_next, place_within}
use Rattle.bl_asm.proofs.RoundTrip.{decode_is}

-- ---- addresses

module _ (areas : Areas) (code : List Instruction) (at : HasPlaces areas code) where
  -- the place of an instruction's address
  pub place_is : (k : ℕ) → k ≤ length code → place_at areas (areas.starts k) ≡ place_of code k
  place_is k h = omega (arith, at.each k h, at.below, place_within code k h)

  pub placed_is : (m : Machine) → m.position ≤ length code → placed areas m ≡ record { place = place_of code m.position; core = m.core }
  placed_is m h = ap (λ p. record { place = p; core = m.core }) (place_is m.position h)

-- the position of an address is one that has this address
pub position_has : (starts : ℕ → ℕ) (count address k : ℕ) → position_of starts count address ≡ Some k → starts k ≡ address
position_has starts zero address k e = absurd (none-some k e)
position_has starts (suc count) address k e = by_test (eqb (starts count) address) refl e (position_has starts count address k)
  where
    by_test : (t : Bool) → eqb (starts count) address ≡ t → cond t (Some count) (position_of starts count address) ≡ Some k
        → (position_of starts count address ≡ Some k → starts k ≡ address) → starts k ≡ address
    by_test true is got rest = ap starts (sym (same_Some count k got)) ∙ eqb-true (starts count) address is
    by_test false is got rest = rest got

-- ---- what an instruction does from its end on

module _ (areas : Areas) (code : List Instruction) (ok : IsCode code) (at : HasPlaces areas code) (count : ℕ) where
  falls_alike : (k end : ℕ) (e : Effect) → suc k ≤ length code → place_of code (suc k) ≡ end → Falls e
      → after areas end e ≡ placed_next areas (after_instruction areas count (suc k) e)
  falls_alike k end (goes_on c) h is f = ap (λ p. goes (record { place = p; core = c })) (sym (place_is areas code at (suc k) h ∙ is))
  falls_alike k end (jumps to c) h is f = elim f [ ]
  falls_alike k end (calls to c) h is f = elim f [ ]
  falls_alike k end (returns address c) h is f = elim f [ ]
  falls_alike k end faults h is f = refl

  lands : (end to : ℕ) → end ≤ place_of code (length code) → to ≤ length code → (end + widened (distance end (place_of code to))) % 2 ^ 64 ≡ place_at areas (areas.starts to)
  lands end to h g =
      jump_lands end (place_of code to) (omega (arith, ok.short, h)) (omega (arith, ok.short, place_within code to g)) ∙ sym (place_is areas code at to g)

  jump_alike : (end to : ℕ) (c : Core) → end ≤ place_of code (length code) → to ≤ length code
      → goes (record { place = (end + widened (distance end (place_of code to))) % 2 ^ 64; core = c }) ≡ placed_next areas (goes (record { position = to; core = c }))
  jump_alike end to c h g = ap (λ p. goes (record { place = p; core = c })) (lands end to h g)

  branch_alike : (k end to : ℕ) (c : Core) (o : Option Bool) → suc k ≤ length code → place_of code (suc k) ≡ end
      → end ≤ place_of code (length code) → to ≤ length code
      → after areas end (if_holds o (jumps (distance end (place_of code to)) c) (goes_on c)) ≡ placed_next areas (after_instruction areas count (suc k) (if_holds o (jumps to c) (goes_on c)))
  branch_alike k end to c None le is h g = refl
  branch_alike k end to c (Some true) le is h g = jump_alike end to c h g
  branch_alike k end to c (Some false) le is h g = ap (λ p. goes (record { place = p; core = c })) (sym (place_is areas code at (suc k) le ∙ is))

  entered_alike : (place to : ℕ) (o : Option Core) → place ≡ place_at areas (areas.starts to) → entered place o ≡ placed_next areas (entered_instruction to o)
  entered_alike place to None e = refl
  entered_alike place to (Some c) e = ap (λ p. goes (record { place = p; core = c })) e

  -- both machines push the same address
  call_alike : (k end to : ℕ) (c : Core) → suc k ≤ length code → place_of code (suc k) ≡ end → end ≤ place_of code (length code) → to ≤ length code
      → after areas end (calls (distance end (place_of code to)) c) ≡ placed_next areas (after_instruction areas count (suc k) (calls to c))
  call_alike k end to c le is h g =
      let address : (origin areas + end) % 2 ^ 64 ≡ areas.starts (suc k) = omega (arith, at.each (suc k) le, at.below, is, h) in
      ap (λ a. entered ((end + widened (distance end (place_of code to))) % 2 ^ 64) (pushed areas a c)) address
      ∙ entered_alike _ to (pushed areas (areas.starts (suc k)) c) (lands end to h g)

  module _ (k end : ℕ) (c : Core) (le : suc k ≤ length code) (is : place_of code (suc k) ≡ end) (within : end ≤ place_of code (length code)) where
    abbrev Alike : Instruction → Type 0
    Alike i = after areas end (effect areas (aimed code end i) c) ≡ placed_next areas (after_instruction areas count (suc k) (effect areas i c))

    effect_alike : (i : Instruction) → IsAimed code i → (i ≡ Ret → ⊥) → Alike i
    effect_alike (Mov size to from) h other = falls_alike k end _ le is (plain_falls areas (Mov size to from) c tt)
    effect_alike (Jump to) h other = jump_alike end to c within h
    effect_alike (JumpIf condition to) h other = branch_alike k end to c (holds condition c.flags) le is within h
    effect_alike (Call to) h other = call_alike k end to c le is within h
    effect_alike Ret h other = absurd (other refl)
    effect_alike i h other = falls_alike k end _ le is (plain_falls areas i c tt)

    -- a return that has a step goes to the place of its address
    came_alike : (address : ℕ) (o : Option ℕ) (d : Core) (next : Machine) → position_of areas.starts count address ≡ o → came_back o d ≡ goes next
        → goes (record { place = place_at areas address; core = d }) ≡ placed_next areas (goes next)
    came_alike address None d next got e = cc
    came_alike address (Some position) d next got e =
        ap (λ a. goes (record { place = place_at areas a; core = d })) (sym (position_has areas.starts count address position got)) ∙ ap (placed_next areas) e

    return_alike : (o : Option ℕ) (next : Machine) → after_instruction areas count (suc k) (by o (λ address. returns address (popped c))) ≡ goes next
        → after areas end (by o (λ address. returns address (popped c))) ≡ placed_next areas (goes next)
    return_alike None next e = cc
    return_alike (Some address) next e = came_alike address (position_of areas.starts count address) (popped c) next refl e

    goes_alike : (i : Instruction) (next : Machine) → IsAimed code i → after_instruction areas count (suc k) (effect areas i c) ≡ goes next
        → after areas end (effect areas (aimed code end i) c) ≡ placed_next areas (goes next)
    goes_alike (Mov size to from) next h e = effect_alike (Mov size to from) h (λ x. cc) ∙ ap (placed_next areas) e
    goes_alike Ret next h e = return_alike (loaded areas 8 (c.registers Rsp) c.memory) next e
    goes_alike i next h e = effect_alike i h (λ x. cc) ∙ ap (placed_next areas) e

-- an aim keeps an instruction one
aimed_is : (code : List Instruction) (end : ℕ) (i : Instruction) → IsInstruction i → IsInstruction (aimed code end i)
aimed_is code end (Jump to) h = mod-lt (place_of code to + 2 ^ 32 - end) (omega arith)
aimed_is code end (JumpIf condition to) h = mod-lt (place_of code to + 2 ^ 32 - end) (omega arith)
aimed_is code end (Call to) h = mod-lt (place_of code to + 2 ^ 32 - end) (omega arith)
aimed_is code end i h = h

-- ---- one step

module _ (areas : Areas) (code : List Instruction) (ok : IsCode code) (at : HasPlaces areas code) (m : Machine) (h : m.position ≤ length code) where
  abbrev bytes : List ℕ
  bytes = assembled code

  abbrev here : ℕ
  here = place_of code m.position

  abbrev count : ℕ
  count = length code + 2

  from_here : drop here bytes ≡ bytes_from code here (drop m.position code)
  from_here = let none : 0 + here ≡ here = omega arith in bytes_at code code 0 m.position h ∙ ap (λ b. bytes_from code b (drop m.position code)) none

  at_end : slice_get code m.position ≡ None → perform areas bytes (decode (drop here bytes)) m.core ≡ stuck
  at_end e =
      let nothing : drop m.position code ≡ [] = drop_all m.position code (past_end code m.position e) in
      let read : drop here bytes ≡ [] = from_here ∙ ap (λ l. bytes_from code here l) nothing in
      ap (λ l. perform areas bytes (decode l) m.core) read

  at_instruction : (i : Instruction) → slice_get code m.position ≡ Some i
      → perform areas bytes (decode (drop here bytes)) m.core ≡ after areas (here + length (encoded i)) (effect areas (aimed code (here + length (encoded i)) i) m.core)
  at_instruction i e =
      let end = here + length (encoded i) in
      let next = place_next code m.position i e in
      let more = is_within code m.position i e in
      let rest = bytes_from code end (drop (suc m.position) code) in
      let within = place_within code (suc m.position) (omega (arith, more)) in
      let read : drop here bytes ≡ encoded (aimed code end i) ++ rest = from_here ∙ ap (λ l. bytes_from code here l) (from_there code m.position i e) in
      let behind : drop (place_of code (suc m.position)) bytes ≡ rest =
      bytes_at code code 0 (suc m.position) (omega (arith, more)) ∙ ap (λ b. bytes_from code b (drop (suc m.position) code)) (omega (arith, next)) in
      let count : length bytes - length rest ≡ end =
      omega (arith, next, within, length-bytes code code 0, length-drop (place_of code (suc m.position)) bytes, ap length behind) in
      ap (λ l. perform areas bytes (decode l) m.core) read
      ∙ ap (λ d. perform areas bytes d m.core) (decode_is (aimed code end i) (aimed_is code end i (ok.each m.position i e)) rest)
      ∙ ap (λ n. after areas n (effect areas (aimed code end i) m.core)) count

  -- the place of this state
  from_place : byte_step areas bytes (placed areas m) ≡ perform areas bytes (decode (drop here bytes)) m.core
  from_place = ap (byte_step areas bytes) (placed_is areas code at m h)

  same_by : (o : Option Instruction) → slice_get code m.position ≡ o → (o ≡ Some Ret → ⊥) → byte_step areas bytes (placed areas m) ≡ placed_next areas (perform_instruction areas count o m)
  same_by None e other = from_place ∙ at_end e
  same_by (Some i) e other =
      let more = is_within code m.position i e in
      let next = place_next code m.position i e in
      let within = place_within code (suc m.position) (omega (arith, more)) in
      from_place ∙ at_instruction i e
      ∙ effect_alike areas code ok at count m.position (here + length (encoded i)) m.core (omega (arith, more)) next (omega (arith, next, within)) i (ok.aims m.position i e) (λ is. other (ap (λ x. Some x) is))

  goes_by : (o : Option Instruction) (next : Machine) → slice_get code m.position ≡ o → perform_instruction areas count o m ≡ goes next → byte_step areas bytes (placed areas m) ≡ placed_next areas (goes next)
  goes_by None next e got = cc
  goes_by (Some i) n e got =
      let more = is_within code m.position i e in
      let next = place_next code m.position i e in
      let within = place_within code (suc m.position) (omega (arith, more)) in
      from_place ∙ at_instruction i e
      ∙ goes_alike areas code ok at count m.position (here + length (encoded i)) m.core (omega (arith, more)) next (omega (arith, next, within)) i n (ok.aims m.position i e) got

pub same_step : (areas : Areas) (code : List Instruction) → IsCode code → HasPlaces areas code → (m : Machine) → m.position ≤ length code → (slice_get code m.position ≡ Some Ret → ⊥)
    → byte_step areas (assembled code) (placed areas m) ≡ placed_next areas (machine_step areas code m)
same_step areas code ok at m h other = same_by areas code ok at m h (slice_get code m.position) refl other

-- an instruction that has a step is one of the program's
pub has_instruction : (areas : Areas) (code : List Instruction) (m next : Machine) → machine_step areas code m ≡ goes next → m.position ≤ length code
has_instruction areas code m next e = by_instruction (slice_get code m.position) refl e
  where
    by_instruction : (o : Option Instruction) → slice_get code m.position ≡ o → perform_instruction areas (length code + 2) o m ≡ goes next → m.position ≤ length code
    by_instruction None got is = cc
    by_instruction (Some i) got is = omega (arith, is_within code m.position i got)

pub step_goes : (areas : Areas) (code : List Instruction) → IsCode code → HasPlaces areas code → (m next : Machine) → machine_step areas code m ≡ goes next
    → byte_step areas (assembled code) (placed areas m) ≡ goes (placed areas next)
step_goes areas code ok at m next e = goes_by areas code ok at m (has_instruction areas code m next e) (slice_get code m.position) next refl e

-- ---- runs

pub same_run : (areas : Areas) (code : List Instruction) → IsCode code → HasPlaces areas code → (steps : ℕ) (m n : Machine)
    → StepsTo (machine_step areas code) steps m n → StepsTo (byte_step areas (assembled code)) steps (placed areas m) (placed areas n)
same_run areas code ok at zero m n run = ap (placed areas) run
same_run areas code ok at (suc steps) m n run =
    (placed areas run.0, step_goes areas code ok at m run.0 run.1, same_run areas code ok at steps run.0 n run.2)
