-- What the write of a location does.
use Rattle.std.proofs.Common.{◌≡◌, ◌≢◌, ℕ, ◌+◌, ◌*◌, ◌%◌, ◌^◌, ◌<◌, ◌≤◌, ◌⊎◌, inl, inr, Bool, true, false, IsTrue, cond, eqb, Some, [], ◌∷◌, length, refl, sym, ap, ◌∙◌, arith, mod-eq_of_lt, eq-eqb}
use Rattle.std.specs.Prelude.{nat_eq}
use Rattle.std.proofs.lemmas.Bool.Decides.{nat_tests}
use Rattle.bl_base.specs.Bytes.{number_of, bytes_of}
use Rattle.bl_base.proofs.ByteLemmas.{length-bytes_of}
use Rattle.bl_x64.specs.Registers.{code_of}
use Rattle.bl_x64.specs.Machines.{Areas, Core, goes_on, faults, is_allowed, bytes_at, written, stored, with_register, effect}
use Rattle.bl_x64.specs.declared.register.Register.{Register}
use Rattle.bl_x64.specs.declared.register.Register.TheVariants.{Rax, Rcx, Rdx, Rsp, R14, R15}
use Rattle.bl_x64.specs.declared.instruction.Instruction.TheVariants.{Lfence}
use Rattle.bl_x64.proofs.MemoryLemmas.{bytes_outside, number_written, written_byte, written_outside}
use Rattle.bl_select.specs.Frames.{Frame, KeepsFrames, IsFrame, AreApart, IsLocation, Apart, held_at, is_free}
use Rattle.bl_select.specs.StraightRuns.{runs}
use Rattle.bl_select.specs.Templates.{behind, write, finish}
use Rattle.bl_select.specs.declared.location.Location.{Location}
use Rattle.bl_select.specs.declared.location.Location.TheVariants.{Register as InRegister, Slot, Context}
use Rattle.bl_select.proofs.Keeping.{HasBases, address_is, allowed_slots, allowed_context, runs_next}

-- the state behind the write of a number
abbrev pub after_write : Frame → Core → Location → ℕ → Core
after_write f c (InRegister r) v = with_register c r v
after_write f c (Slot at) v = record c { memory = written c.memory (f.base + at) (bytes_of 8 v) }
after_write f c (Context at) v = record c { memory = written c.memory (f.areas.context.start + at) (bytes_of 8 v) }

stored_is : (areas : Areas) (from at v : ℕ) (c : Core) → from ≡ at → is_allowed areas at 8 ≡ true
    → stored areas 8 from v c ≡ goes_on (record c { memory = written c.memory at (bytes_of 8 v) })
stored_is areas from at v c e allowed =
    ap (λ x. stored areas 8 x v c) e ∙ ap (λ t. cond t (goes_on (record c { memory = written c.memory at (bytes_of 8 v) })) faults) allowed

pub write_is : (f : Frame) (c : Core) (l : Location) (v : ℕ) → HasBases f c → IsLocation f l → c.registers Rax ≡ v → v < 2 ^ 64
    → effect f.areas (write l) c ≡ goes_on (after_write f c l v)
write_is f c (InRegister r) v b h is fits = ap (λ (x : ℕ). goes_on (with_register c r x)) (ap (λ (x : ℕ). x % 2 ^ 64) is ∙ mod-eq_of_lt fits)
write_is f c (Slot at) v b h is fits =
    let place = f.base + at in
    let address = address_is c.registers Rsp at f.base b.slots h.0 (omega (arith, h.1, b.frame.ends, b.frame.slots_end)) in
    stored_is f.areas _ place (c.registers Rax) c address (allowed_slots f.areas place 8 (omega (arith, b.frame.begins)) (omega (arith, h.1, b.frame.ends)))
    ∙ ap (λ x. goes_on (record c { memory = written c.memory place (bytes_of 8 x) })) is
write_is f c (Context at) v b h is fits =
    let place = f.areas.context.start + at in
    let address = address_is c.registers R15 at f.areas.context.start b.context h.0 (omega (arith, h.1, b.frame.context_ends)) in
    stored_is f.areas _ place (c.registers Rax) c address (allowed_context f.areas place 8 (omega arith) (omega (arith, h.1)))
    ∙ ap (λ x. goes_on (record c { memory = written c.memory place (bytes_of 8 x) })) is

pub finish_runs : (f : Frame) (c : Core) (l : Location) (v : ℕ) (protect : Bool) → HasBases f c → IsLocation f l → c.registers Rax ≡ v → v < 2 ^ 64
    → runs f.areas (finish protect l) c ≡ Some (after_write f c l v)
finish_runs f c l v true b h is fits = runs_next f.areas (write l) (Lfence ∷ []) c (after_write f c l v) (write_is f c l v b h is fits)
finish_runs f c l v false b h is fits = runs_next f.areas (write l) [] c (after_write f c l v) (write_is f c l v b h is fits)

-- ---- what is there

same_code : (r : Register) → nat_eq (code_of r) (code_of r) ≡ true
same_code r = eq-eqb (code_of r) (code_of r) refl

pub held_here : (f : Frame) (c : Core) (l : Location) (v : ℕ) → v < 2 ^ 64 → held_at f (after_write f c l v) l ≡ v
held_here f c (InRegister r) v h = rw (same_code r) refl
held_here f c (Slot at) v h = number_written c.memory (f.base + at) 8 v h
held_here f c (Context at) v h = number_written c.memory (f.areas.context.start + at) 8 v h

other_code : (a b : ℕ) → a ≢ b → nat_eq a b ≡ false
other_code a b h = grind (arith, nat_tests)

-- eight bytes elsewhere
elsewhere : (m : ℕ → ℕ) (from at v : ℕ) → (at + 8 ≤ from) ⊎ (from + 8 ≤ at) → number_of (bytes_at (written m from (bytes_of 8 v)) at 8) ≡ number_of (bytes_at m at 8)
elsewhere m from at v h = ap number_of (bytes_outside m from at 8 (bytes_of 8 v) h)

pub held_other : (f : Frame) (c : Core) (l k : Location) (v : ℕ) → IsFrame f → IsLocation f l → IsLocation f k → Apart l k → held_at f (after_write f c l v) k ≡ held_at f c k
held_other f c (InRegister r) (InRegister q) v ok h g a = rw (other_code (code_of q) (code_of r) (λ e. a (sym e))) refl
held_other f c (InRegister r) (Slot at) v ok h g a = refl
held_other f c (InRegister r) (Context at) v ok h g a = refl
held_other f c (Slot from) (InRegister q) v ok h g a = refl
held_other f c (Slot from) (Slot at) v ok h g (inl le) = elsewhere c.memory (f.base + from) (f.base + at) v (inr (omega arith))
held_other f c (Slot from) (Slot at) v ok h g (inr le) = elsewhere c.memory (f.base + from) (f.base + at) v (inl (omega arith))
held_other f c (Slot from) (Context at) v ok h g a = by_areas ok.context_slots
  where
    by_areas : AreApart f.areas.context f.areas.slots → held_at f (after_write f c (Slot from) v) (Context at) ≡ held_at f c (Context at)
    by_areas (inl le) = elsewhere c.memory (f.base + from) (f.areas.context.start + at) v (inl (omega (arith, g.1, ok.begins)))
    by_areas (inr le) = elsewhere c.memory (f.base + from) (f.areas.context.start + at) v (inr (omega (arith, h.1, ok.ends)))
held_other f c (Context from) (InRegister q) v ok h g a = refl
held_other f c (Context from) (Slot at) v ok h g a = by_areas ok.context_slots
  where
    by_areas : AreApart f.areas.context f.areas.slots → held_at f (after_write f c (Context from) v) (Slot at) ≡ held_at f c (Slot at)
    by_areas (inl le) = elsewhere c.memory (f.areas.context.start + from) (f.base + at) v (inr (omega (arith, h.1, ok.begins)))
    by_areas (inr le) = elsewhere c.memory (f.areas.context.start + from) (f.base + at) v (inl (omega (arith, g.1, ok.ends)))
held_other f c (Context from) (Context at) v ok h g (inl le) = elsewhere c.memory (f.areas.context.start + from) (f.areas.context.start + at) v (inr (omega arith))
held_other f c (Context from) (Context at) v ok h g (inr le) = elsewhere c.memory (f.areas.context.start + from) (f.areas.context.start + at) v (inl (omega arith))

-- the registers that hold no variable
free_codes : (r : Register) → IsTrue (is_free r) → (0 ≢ code_of r) × (1 ≢ code_of r) × (2 ≢ code_of r) × (4 ≢ code_of r) × (14 ≢ code_of r) × (15 ≢ code_of r)
free_codes Rax h = cc
free_codes Rcx h = cc
free_codes Rdx h = cc
free_codes Rsp h = cc
free_codes R14 h = cc
free_codes R15 h = cc
free_codes r h = ((λ e. omega arith), (λ e. omega arith), (λ e. omega arith), (λ e. omega arith), (λ e. omega arith), (λ e. omega arith))

not_free : (r q : Register) → IsTrue (is_free r) → is_free q ≡ false → code_of q ≢ code_of r
not_free r Rax h g = (free_codes r h).0
not_free r Rcx h g = (free_codes r h).1
not_free r Rdx h g = (free_codes r h).2
not_free r Rsp h g = (free_codes r h).3
not_free r R14 h g = (free_codes r h).4
not_free r R15 h g = (free_codes r h).5
not_free r q h g = cc

pub fixed_stays : (f : Frame) (c : Core) (l : Location) (v : ℕ) (q : Register) → IsLocation f l → is_free q ≡ false → (after_write f c l v).registers q ≡ c.registers q
fixed_stays f c (InRegister r) v q h g = rw (other_code (code_of q) (code_of r) (not_free r q h g)) refl
fixed_stays f c (Slot at) v q h g = refl
fixed_stays f c (Context at) v q h g = refl

-- ---- the bytes of the memories

pub memory_stays : (f : Frame) (c : Core) (l : Location) (v place : ℕ) → IsFrame f → IsLocation f l → place < f.areas.memory.size
    → (after_write f c l v).memory (f.areas.memory.start + place) ≡ c.memory (f.areas.memory.start + place)
memory_stays f c (InRegister r) v place ok h lt = refl
memory_stays f c (Slot at) v place ok h lt = by_areas ok.slots_memory
  where
    by_areas : AreApart f.areas.slots f.areas.memory → (after_write f c (Slot at) v).memory (f.areas.memory.start + place) ≡ c.memory (f.areas.memory.start + place)
    by_areas (inl le) = written_outside c.memory (f.base + at) (f.areas.memory.start + place) (bytes_of 8 v) (inr (omega (arith, h.1, ok.ends, length-bytes_of 8 v)))
    by_areas (inr le) = written_outside c.memory (f.base + at) (f.areas.memory.start + place) (bytes_of 8 v) (inl (omega (arith, ok.begins)))
memory_stays f c (Context at) v place ok h lt = by_areas ok.context_memory
  where
    by_areas : AreApart f.areas.context f.areas.memory → (after_write f c (Context at) v).memory (f.areas.memory.start + place) ≡ c.memory (f.areas.memory.start + place)
    by_areas (inl le) = written_outside c.memory (f.areas.context.start + at) (f.areas.memory.start + place) (bytes_of 8 v) (inr (omega (arith, h.1, length-bytes_of 8 v)))
    by_areas (inr le) = written_outside c.memory (f.areas.context.start + at) (f.areas.memory.start + place) (bytes_of 8 v) (inl (omega arith))

pub bytes_stay : (f : Frame) (c : Core) (l : Location) (v : ℕ) → ((at : ℕ) → c.memory at < 2 ^ 8) → (at : ℕ) → (after_write f c l v).memory at < 2 ^ 8
bytes_stay f c (InRegister r) v h at = h at
bytes_stay f c (Slot from) v h at = written_byte c.memory (f.base + from) 8 v at (h at)
bytes_stay f c (Context from) v h at = written_byte c.memory (f.areas.context.start + from) 8 v at (h at)

-- ---- the other frames

pub frames_stay : (f : Frame) (c : Core) (l : Location) (v : ℕ) → IsFrame f → IsLocation f l → KeepsFrames f c (after_write f c l v)
frames_stay f c (InRegister r) v ok h address above below = refl
frames_stay f c (Slot at) v ok h address above below = written_outside c.memory (f.base + at) address (bytes_of 8 v) (inr (omega (arith, h.1, length-bytes_of 8 v)))
frames_stay f c (Context at) v ok h address above below = by_areas ok.context_slots
  where
    by_areas : AreApart f.areas.context f.areas.slots → written c.memory (f.areas.context.start + at) (bytes_of 8 v) address ≡ c.memory address
    by_areas (inl le) = written_outside c.memory (f.areas.context.start + at) address (bytes_of 8 v) (inr (omega (arith, h.1, ok.begins, length-bytes_of 8 v)))
    by_areas (inr le) = written_outside c.memory (f.areas.context.start + at) address (bytes_of 8 v) (inl (omega arith))
