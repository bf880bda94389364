-- What templates leave as it was, and what they read.
use Rattle.std.proofs.Common.{◌≡◌, ◌≢◌, ℕ, suc, ◌+◌, ◌-◌, ◌*◌, ◌/◌, ◌%◌, ◌^◌, ◌<◌, ◌≤◌, ◌⊎◌, Bool, true, false, IsTrue, cond, ltb, ◌&&◌, ◌||◌, Option, Some, None, List, [], ◌∷◌, ◌++◌, refl, ap, ◌∙◌, arith, mod-eq_of_lt}
use Rattle.std.specs.Prelude.{nat_eq}
use Rattle.std.proofs.lemmas.Bool.Decides.{nat_tests}
use Rattle.bl_base.specs.Bytes.{number_of}
use Rattle.bl_x64.specs.Registers.{Registers, code_of, put, bytes_in}
use Rattle.bl_x64.specs.Machines.{Area, Areas, Core, Effect, goes_on, jumps, calls, returns, faults, by, is_in, is_allowed, bytes_at, address_in, loaded, read, with_register, effect, widened}
use Rattle.bl_x64.specs.declared.register.Register.{Register}
use Rattle.bl_x64.specs.declared.register.Register.TheVariants.{Rax, Rcx, Rdx, Rsp, R15}
use Rattle.bl_x64.specs.declared.instruction.Size.{Size}
use Rattle.bl_x64.specs.declared.instruction.Size.TheVariants.{Long, Quad}
use Rattle.bl_x64.specs.declared.instruction.Place.TheVariants as place
use Rattle.bl_x64.specs.declared.instruction.Instruction.{Instruction}
use Rattle.bl_select.specs.Frames.{is_scratch, is_free, Frame, IsFrame, IsLocation, held_at}
use Rattle.bl_select.specs.Shapes.{at_size}
use Rattle.bl_select.specs.StraightRuns.{next, runs}
use Rattle.bl_select.specs.Templates.{behind, load}
use Rattle.bl_select.specs.declared.location.Location.TheVariants.{Register as InRegister, Slot, Context}
use Rattle.bl_select.specs.declared.location.Source.{Source}
use Rattle.bl_select.specs.declared.location.Source.TheVariants.{At, Number}

-- ---- memory and the registers that aren't scratch stay

pub record Keeps (c d : Core) : Type 0 where
  pub memory : d.memory ≡ c.memory
  pub registers : (r : Register) → is_scratch r ≡ false → d.registers r ≡ c.registers r

pub keeps_all : (c : Core) → Keeps c c
keeps_all c = record { memory = refl; registers = λ r h. refl }

not_rax : (r : Register) → is_scratch r ≡ false → nat_eq (code_of r) 0 ≡ false
not_rax Rax h = cc
not_rax r h = refl

not_rcx : (r : Register) → is_scratch r ≡ false → nat_eq (code_of r) 1 ≡ false
not_rcx Rcx h = cc
not_rcx r h = refl

not_rdx : (r : Register) → is_scratch r ≡ false → nat_eq (code_of r) 2 ≡ false
not_rdx Rdx h = cc
not_rdx r h = refl

pub put_scratch : (registers : Registers) (to r : Register) (v : ℕ) → is_scratch to ≡ true → is_scratch r ≡ false → put registers to v r ≡ registers r
put_scratch registers Rax r v h g = rw (not_rax r g) refl
put_scratch registers Rcx r v h g = rw (not_rcx r g) refl
put_scratch registers Rdx r v h g = rw (not_rdx r g) refl
put_scratch registers to r v h g = cc

-- another number in a scratch register
pub keeps_put : (c d e : Core) (to : Register) (v : ℕ) → is_scratch to ≡ true → e.registers ≡ put d.registers to v → e.memory ≡ d.memory → Keeps c d → Keeps c e
keeps_put c d e to v h is same k = record {
  memory = same ∙ k.memory;
  registers = λ r g. ap (λ (x : Registers). x r) is ∙ put_scratch d.registers to r v h g ∙ k.registers r g;
}

pub keeps_same : (c d e : Core) → e.registers ≡ d.registers → e.memory ≡ d.memory → Keeps c d → Keeps c e
keeps_same c d e is same k = record { memory = same ∙ k.memory; registers = λ r g. ap (λ (x : Registers). x r) is ∙ k.registers r g }

-- ---- runs

pub runs_next : (areas : Areas) (i : Instruction) (rest : List Instruction) (c d : Core) → effect areas i c ≡ goes_on d → runs areas (i ∷ rest) c ≡ runs areas rest d
runs_next areas i rest c d e = ap (λ x. next x (runs areas rest)) e

-- the rest behind some
abbrev behind_some : Areas → List Instruction → Option Core → Option Core
behind_some areas ys None = None
behind_some areas ys (Some c) = runs areas ys c

append_runs : (areas : Areas) (xs ys : List Instruction) (c : Core) → runs areas (xs ++ ys) c ≡ behind_some areas ys (runs areas xs c)
append_runs areas [] ys c = refl
append_runs areas (i ∷ xs) ys c = by_effect (effect areas i c) (λ d. append_runs areas xs ys d)
  where
    by_effect : (x : Effect) → ((d : Core) → runs areas (xs ++ ys) d ≡ behind_some areas ys (runs areas xs d)) → next x (runs areas (xs ++ ys)) ≡ behind_some areas ys (next x (runs areas xs))
    by_effect (goes_on d) h = h d
    by_effect (jumps to d) h = refl
    by_effect (calls to d) h = refl
    by_effect (returns address d) h = refl
    by_effect faults h = refl

pub runs_append : (areas : Areas) (xs ys : List Instruction) (c d : Core) → runs areas xs c ≡ Some d → runs areas (xs ++ ys) c ≡ runs areas ys d
runs_append areas xs ys c d e = append_runs areas xs ys c ∙ ap (behind_some areas ys) e

-- instructions run to a state that keeps all but scratch registers and has a value in RAX
pub record Comes (areas : Areas) (xs : List Instruction) (c : Core) (v : ℕ) : Type 0 where
  pub core : Core
  pub run : runs areas xs c ≡ Some core
  pub value : core.registers Rax ≡ v
  pub keeps : Keeps c core

-- ---- operands

-- where a source has a number
abbrev pub HasNumber : Frame → Core → Source → ℕ → Type 0
HasNumber f c (At l) v = IsLocation f l × (held_at f c l ≡ v)
HasNumber f c (Number number) v = number ≡ v

-- the bases of frame and context
pub record HasBases (f : Frame) (c : Core) : Type 0 where
  pub frame : IsFrame f
  pub slots : c.registers Rsp ≡ f.base
  pub context : c.registers R15 ≡ f.areas.context.start
  pub bytes : (address : ℕ) → c.memory address < 2 ^ 8

pub bases_kept : (f : Frame) (c d : Core) → Keeps c d → HasBases f c → HasBases f d
bases_kept f c d k h = record { frame = h.frame; slots = k.registers Rsp refl ∙ h.slots; context = k.registers R15 refl ∙ h.context; bytes = λ at. omega (arith, h.bytes at, ap (λ m. m at) k.memory) }

free_stays : (r : Register) → IsTrue (is_free r) → is_scratch r ≡ false
free_stays Rax h = cc
free_stays Rcx h = cc
free_stays Rdx h = cc
free_stays r h = refl

pub number_kept : (f : Frame) (c d : Core) (source : Source) (v : ℕ) → Keeps c d → HasNumber f c source v → HasNumber f d source v
number_kept f c d (At (InRegister r)) v k h = (h.0, k.registers r (free_stays r h.0) ∙ h.1)
number_kept f c d (At (Slot at)) v k h = (h.0, ap (λ m. number_of (bytes_at m (f.base + at) 8)) k.memory ∙ h.1)
number_kept f c d (At (Context at)) v k h = (h.0, ap (λ m. number_of (bytes_at m (f.areas.context.start + at) 8)) k.memory ∙ h.1)
number_kept f c d (Number number) v k h = h

at_size_low : (size : Size) (v : ℕ) → v < 2 ^ 64 → v % 2 ^ (8 * bytes_in size) ≡ at_size size v
at_size_low Long v h = refl
at_size_low Quad v h = mod-eq_of_lt h

-- a displacement that is no negative one
pub widened_is : (d : ℕ) → d < 2 ^ 31 → widened d ≡ d
widened_is d h = let test : ltb d (2 ^ 31) ≡ true = grind (arith, nat_tests) in rw test refl

pub address_is : (registers : Registers) (base : Register) (d at : ℕ) → registers base ≡ at → d < 2 ^ 31 → at + d < 2 ^ 64 → address_in registers (behind base d) ≡ at + d
address_is registers base d at is small fits =
    ap (λ (w : ℕ). (registers base + 0 + w) % 2 ^ 64) (widened_is d small) ∙ omega (arith, is)

-- the bytes of a location are allowed
within : (a : Area) (from count : ℕ) → a.start ≤ from → from + count ≤ a.start + a.size → is_in a from count ≡ true
within a from count h g = grind (arith, nat_tests)

pub allowed_slots : (areas : Areas) (from count : ℕ) → areas.slots.start ≤ from → from + count ≤ areas.slots.start + areas.slots.size → is_allowed areas from count ≡ true
allowed_slots areas from count h g = rw (within areas.slots from count h g) (any (is_in areas.context from count) (is_in areas.memory from count))
  where
    any : (a b : Bool) → (a || true || b) ≡ true
    any true b = refl
    any false b = refl

pub allowed_context : (areas : Areas) (from count : ℕ) → areas.context.start ≤ from → from + count ≤ areas.context.start + areas.context.size → is_allowed areas from count ≡ true
allowed_context areas from count h g = rw (within areas.context from count h g) refl

pub allowed_memory : (areas : Areas) (from count : ℕ) → areas.memory.start ≤ from → from + count ≤ areas.memory.start + areas.memory.size → is_allowed areas from count ≡ true
allowed_memory areas from count h g = rw (within areas.memory from count h g) (any (is_in areas.context from count || is_in areas.slots from count))
  where
    any : (a : Bool) → (a || true) ≡ true
    any true = refl
    any false = refl

-- ---- loads

-- fewer bytes of a number
four_of_eight : (m : ℕ → ℕ) (at : ℕ) → ((address : ℕ) → m address < 2 ^ 8) → number_of (bytes_at m at 4) ≡ number_of (bytes_at m at 8) % 2 ^ 32
four_of_eight m at h =
    omega (arith, h at, h (suc at), h (suc (suc at)), h (suc (suc (suc at))))

number_at_size : (m : ℕ → ℕ) (at : ℕ) (size : Size) → ((address : ℕ) → m address < 2 ^ 8) → number_of (bytes_at m at (bytes_in size)) ≡ at_size size (number_of (bytes_at m at 8))
number_at_size m at Long h = four_of_eight m at h
number_at_size m at Quad h = refl

size_within : (size : Size) → bytes_in size ≤ 8
size_within Long = omega arith
size_within Quad = omega arith

-- what is read at an address
read_at : (areas : Areas) (size : Size) (m : ℕ → ℕ) (from at v : ℕ) → ((address : ℕ) → m address < 2 ^ 8) → from ≡ at → is_allowed areas at (bytes_in size) ≡ true
    → number_of (bytes_at m at 8) ≡ v → loaded areas (bytes_in size) from m ≡ Some (at_size size v)
read_at areas size m from at v h is allowed v_is =
    ap (λ x. loaded areas (bytes_in size) x m) is
    ∙ ap (λ t. cond t (Some (number_of (bytes_at m at (bytes_in size)))) None) allowed
    ∙ ap Some (number_at_size m at size h ∙ ap (at_size size) v_is)

pub load_is : (f : Frame) (c : Core) (size : Size) (to : Register) (source : Source) (v : ℕ) → HasBases f c → HasNumber f c source v → v < 2 ^ 64
    → effect f.areas (load size to source) c ≡ goes_on (with_register c to (at_size size v))
load_is f c size to (At (InRegister r)) v b h fits =
    ap (λ x. goes_on (with_register c to x)) (ap (λ (x : ℕ). x % 2 ^ (8 * bytes_in size)) h.1 ∙ at_size_low size v fits)
load_is f c size to (At (Slot at)) v b h fits =
    let place = f.base + at in
    let inside = size_within size in
    let address = address_is c.registers Rsp at f.base b.slots h.0.0 (omega (arith, h.0.1, b.frame.ends, b.frame.slots_end)) in
    let allowed = allowed_slots f.areas place (bytes_in size) (omega (arith, b.frame.begins)) (omega (arith, h.0.1, b.frame.ends)) in
    ap (λ o. by o (λ x. goes_on (with_register c to x))) (read_at f.areas size c.memory _ place v b.bytes address allowed h.1)
load_is f c size to (At (Context at)) v b h fits =
    let place = f.areas.context.start + at in
    let inside = size_within size in
    let address = address_is c.registers R15 at f.areas.context.start b.context h.0.0 (omega (arith, h.0.1, b.frame.context_ends)) in
    let allowed = allowed_context f.areas place (bytes_in size) (omega arith) (omega (arith, h.0.1)) in
    ap (λ o. by o (λ x. goes_on (with_register c to x))) (read_at f.areas size c.memory _ place v b.bytes address allowed h.1)
load_is f c Long to (Number number) v b h fits = ap (λ (x : ℕ). goes_on (with_register c to (x % 2 ^ 32))) h
load_is f c Quad to (Number number) v b h fits = ap (λ (x : ℕ). goes_on (with_register c to x)) h
