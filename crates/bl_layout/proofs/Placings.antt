-- Variables that are in the frame and the context have locations that are apart, in each frame with room for them.
use Rattle.std.proofs.Common.{◌≡◌, ◌≢◌, ℕ, suc, ◌+◌, ◌-◌, ◌*◌, ◌^◌, ◌<◌, ◌≤◌, ◌⊎◌, inl, inr, Bool, true, false, ◌&&◌, ◌||◌, cond, leb, ltb, IsTrue, List, [], ◌∷◌, length, refl, sym, ap, ◌∙◌, arith}
use Rattle.std.proofs.lemmas.Bool.{cases_lt, leb-true, ltb-true, ltb-false, lt-ltb, le-ltb}
use Rattle.bl_program.specs.Layout.{holding, statics, running, Holds}
use Rattle.bl_program.specs.Rules.{IsWellFormed}
use Rattle.bl_program.specs.declared.definitions.FunctionDef.{FunctionDef}
use Rattle.bl_program.specs.declared.definitions.ProgramParts.{ProgramParts as Program}
use Rattle.bl_program.proofs.Layouts.{running_is}
use Rattle.bl_select.specs.Frames.{Frame, IsPlacing, IsLocation, Apart, Passes}
use Rattle.bl_select.specs.declared.location.Location.{Location}
use Rattle.bl_select.specs.declared.location.Location.TheVariants.{Slot, Context}
use Rattle.bl_layout.specs.Slots.{HasRoom, is_alive_in, location_in, placing_in, slots_of, slots_outside, slots_at, placing_at}
use Rattle.bl_layout.specs.declared.slots.Slots.{Slots}

-- ---- tests

both_true : (a b : Bool) → (a && b) ≡ true → (a ≡ true) × (b ≡ true)
both_true true b e = (refl, e)
both_true false b e = cc

-- ---- locations

-- a frame that has room for these variables
record Fits (slots : Slots) (frame : Frame) : Type 0 where
  context : 8 * slots.statics ≤ frame.areas.context.size
  context_short : frame.areas.context.size < 2 ^ 31
  own : 8 * (slots.next - slots.first) ≤ frame.size
  own_short : frame.size < 2 ^ 31

module _ (slots : Slots) (frame : Frame) (room : Fits slots frame) where
  abbrev Alive : ℕ → Bool → Type 0
  Alive x t = IsTrue (t || (leb slots.first x && ltb x slots.next))

  abbrev place_by : ℕ → Bool → Location
  place_by x t = cond t (Context (8 * x)) (Slot (8 * (x - slots.first)))

  -- the number of a variable of the function
  own : (x : ℕ) → Alive x false → (slots.first ≤ x) × (x < slots.next)
  own x h = let both = both_true (leb slots.first x) (ltb x slots.next) h in (leb-true slots.first x both.0, ltb-true x slots.next both.1)

  location_by : (x : ℕ) (t : Bool) → ltb x slots.statics ≡ t → Alive x t → IsLocation frame (place_by x t)
  location_by x true e h =
      let lt = ltb-true x slots.statics e in
      (omega (arith, lt, room.context, room.context_short), omega (arith, lt, room.context))
  location_by x false e h =
      let within = own x h in
      (omega (arith, within.0, within.1, room.own, room.own_short), omega (arith, within.0, within.1, room.own))

  apart_by : (x y : ℕ) (t u : Bool) → x ≢ y → Alive x t → Alive y u → Apart (place_by x t) (place_by y u)
  apart_by x y true false ne h g = tt
  apart_by x y false true ne h g = tt
  apart_by x y true true ne h g = by_order (cases_lt x y)
    where
      by_order : (x < y) ⊎ (y ≤ x) → (8 * x + 8 ≤ 8 * y) ⊎ (8 * y + 8 ≤ 8 * x)
      by_order (inl lt) = inl (omega arith)
      by_order (inr le) = inr (omega (arith, ne))
  apart_by x y false false ne h g = by_order (cases_lt x y) (own x h) (own y g)
    where
      by_order : (x < y) ⊎ (y ≤ x) → (slots.first ≤ x) × (x < slots.next) → (slots.first ≤ y) × (y < slots.next)
          → (8 * (x - slots.first) + 8 ≤ 8 * (y - slots.first)) ⊎ (8 * (y - slots.first) + 8 ≤ 8 * (x - slots.first))
      by_order (inl lt) one other = inl (omega (arith, one.0, other.0))
      by_order (inr le) one other = inr (omega (arith, ne, one.0, other.0))

  placing_fits : IsPlacing frame (placing_in slots)
  placing_fits = record {
    locations = λ x h. location_by x (ltb x slots.statics) refl h;
    apart = λ x y h g ne. apart_by x y (ltb x slots.statics) (ltb y slots.statics) ne h g;
  }

-- ---- placings of a program

module _ (program : Program) (frame : Frame) (room : HasRoom program frame) where
  outside_fits : Fits (slots_outside program) frame
  outside_fits = record { context = room.context; context_short = room.context_short; own = omega arith; own_short = room.slots_short }

  function_fits : (function : ℕ) → Fits (slots_of program function) frame
  function_fits function = record { context = room.context; context_short = room.context_short; own = room.slots function; own_short = room.slots_short }

  fits_by : (function : ℕ) (t : Bool) → Fits (cond t (slots_outside program) (slots_of program function)) frame
  fits_by function true = outside_fits
  fits_by function false = function_fits function

  pub placings : (position : ℕ) → IsPlacing frame (placing_at program position)
  placings position = placing_fits (slots_at program position) frame (fits_by (running program position) (ltb position 7))

-- ---- the variables at a position

-- there are few functions
holding_within : (f : FunctionDef → ℕ) (xs : List FunctionDef) (x : ℕ) → holding f xs x ≤ length xs
holding_within f [] x = omega arith
holding_within f (y ∷ xs) x = by_test (ltb x (f y)) (holding_within f xs (x - f y))
  where
    by_test : (t : Bool) → holding f xs (x - f y) ≤ length xs → cond t 0 (suc (holding f xs (x - f y))) ≤ suc (length xs)
    by_test true h = omega arith
    by_test false h = omega arith

pub running_small : (program : Program) (position : ℕ) → IsWellFormed program → running program position < 2 ^ 31
running_small program position rules =
    omega (arith, holding_within (λ (f : FunctionDef). f.length) program.functions (position - 7), rules.rule2.functions)

module _ (program : Program) where
  pub behind_traps : (position : ℕ) → 7 ≤ position → slots_at program position ≡ slots_of program (running program position)
  behind_traps position h = ap (λ t. cond t (slots_outside program) (slots_of program (running program position))) (le-ltb position 7 h)

  -- the variables at a position of a function
  pub slots_held : (function position : ℕ) → Holds program function position → slots_at program position ≡ slots_of program function
  slots_held function position holds =
      behind_traps position (omega (arith, holds.from)) ∙ ap (slots_of program) (running_is program function position holds)

  pub slots_trap : (position : ℕ) → position < 7 → slots_at program position ≡ slots_outside program
  slots_trap position h = ap (λ t. cond t (slots_outside program) (slots_of program (running program position))) (lt-ltb position 7 h)

  -- from a function to a trap: only globals and sizes are alive there
  static_by : (function y : ℕ) (t : Bool) → IsTrue (t || (leb 0 y && ltb y 0)) → t ≡ true
  static_by function y true h = refl
  static_by function y false h = absurd (omega (arith, ltb-true y 0 (both_true (leb 0 y) (ltb y 0) h).1))

  alive_static : (slots : Slots) (y : ℕ) → ltb y slots.statics ≡ true → IsTrue (is_alive_in slots y)
  alive_static slots y e = ap (λ t. t || (leb slots.first y && ltb y slots.next)) e

  static_place : (slots : Slots) (y : ℕ) → ltb y slots.statics ≡ true → location_in slots y ≡ Context (8 * y)
  static_place slots y e = ap (λ t. cond t (Context (8 * y)) (Slot (8 * (y - slots.first)))) e

  pub passes_out : (function : ℕ) → Passes (placing_in (slots_of program function)) (placing_in (slots_outside program))
  passes_out function = record {
    others = λ y h.
        let static : ltb y (statics program) ≡ true = static_by function y (ltb y (statics program)) h in
        (alive_static (slots_of program function) y static, static_place (slots_outside program) y static ∙ sym (static_place (slots_of program function) y static));
  }
