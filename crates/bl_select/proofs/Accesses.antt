-- Loads and stores do what their commands do.
use Rattle.std.proofs.Common.{◌≡◌, ◌≢◌, ℕ, suc, ◌+◌, ◌-◌, ◌*◌, ◌%◌, ◌^◌, ◌<◌, ◌≤◌, ◌⊎◌, inl, inr, Bool, true, false, ◌&&◌, cond, Some, None, List, [], ◌∷◌, ◌++◌, length, take, drop, refl, sym, ap, ◌∙◌, subst, arith, mod-eq_of_lt}
use Rattle.bl_base.specs.Bytes.{number_of, bytes_of}
use Rattle.bl_base.proofs.ByteLemmas.{length-bytes_of}
use Rattle.bl_ops.specs.Access.{is_load, width_of, extended}
use Rattle.bl_ops.specs.declared.access.AccessKind.{AccessKind}
use Rattle.bl_ops.specs.declared.access.AccessKind.TheVariants.{I32Load, I64Load, I32Load8S, I32Load8U, I32Load16S, I32Load16U, I64Load8S, I64Load8U, I64Load16S, I64Load16U, I64Load32S, I64Load32U, I32Store, I64Store, I32Store8, I32Store16, I64Store8, I64Store16, I64Store32}
use Rattle.bl_ops.proofs.Fits.{load_fits}
use Rattle.bl_bytes.specs.Overlays.{overlay}
use Rattle.bl_bytes.specs.Overlays as plain
use Rattle.bl_bytes.proofs.OverlayLemmas.{overlay_length}
use Rattle.bl_program.specs.Steps.{Plain, held, depth, value_of, effective}
use Rattle.bl_program.specs.Steps.{written as plain_written}
use Rattle.bl_program.specs.Layout.{base}
use Rattle.bl_program.specs.declared.command.Operand.{Operand}
use Rattle.bl_program.specs.declared.definitions.ProgramParts.{ProgramParts as Program}
use Rattle.bl_x64.specs.Registers.{Registers}
use Rattle.bl_x64.specs.Operations.{alu_flags}
use Rattle.bl_x64.specs.Machines.{Areas, Core, goes_on, faults, by, bytes_at, written, address_in, loaded, stored, with_register, with_result, effect}
use Rattle.bl_x64.specs.declared.register.Register.TheVariants.{Rax, Rcx, Rsp, R14, R15}
use Rattle.bl_x64.specs.declared.instruction.Size.TheVariants.{Long, Quad}
use Rattle.bl_x64.specs.declared.instruction.Alu.TheVariants as alu
use Rattle.bl_x64.specs.declared.instruction.Instruction.{Instruction}
use Rattle.bl_x64.specs.declared.instruction.Instruction.TheVariants as i
use Rattle.bl_x64.proofs.MemoryLemmas.{bytes_outside, written_byte, written_outside}
use Rattle.bl_select.specs.Frames.{Frame, IsFrame, KeepsFrames, AreApart, Placing, IsPlacing, Assigns, Passes, source_of, IsSource, Matches, IsLocation, held_at}
use Rattle.bl_select.specs.StraightRuns.{runs}
use Rattle.bl_select.specs.Templates.{in_register, load, address, accessed, load_from, store_to, load_template, store_template, finish}
use Rattle.bl_select.specs.declared.location.Location.{Location}
use Rattle.bl_select.specs.declared.location.Location.TheVariants.{Register as InRegister, Slot, Context}
use Rattle.bl_select.specs.declared.location.Source.{Source}
use Rattle.bl_select.specs.declared.location.Source.TheVariants.{At}
use Rattle.bl_select.proofs.Keeping.{Keeps, keeps_all, keeps_put, HasBases, bases_kept, HasNumber, number_kept, load_is, allowed_memory, runs_next}
use Rattle.bl_select.proofs.Matching.{bases, source_is, source_fits, matches_behind}
use Rattle.bl_select.proofs.Spaces.{HasSpace, read_space, number_below, lowest_bytes, write_space}
use Rattle.bl_select.proofs.Writes.{after_write, finish_runs, frames_stay}

-- ---- what an access is on the machine

load_effect : (kind : AccessKind) → is_load kind ≡ true → (areas : Areas) (c : Core)
    → effect areas (load_from kind) c ≡ by (loaded areas (width_of kind) (address_in c.registers accessed) c.memory) (λ n. goes_on (with_register c Rax (extended kind n)))
load_effect I32Load h areas c = refl
load_effect I64Load h areas c = refl
load_effect I32Load8S h areas c = refl
load_effect I32Load8U h areas c = refl
load_effect I32Load16S h areas c = refl
load_effect I32Load16U h areas c = refl
load_effect I64Load8S h areas c = refl
load_effect I64Load8U h areas c = refl
load_effect I64Load16S h areas c = refl
load_effect I64Load16U h areas c = refl
load_effect I64Load32S h areas c = refl
load_effect I64Load32U h areas c = refl
load_effect kind h areas c = cc

store_effect : (kind : AccessKind) → is_load kind ≡ false → (areas : Areas) (c : Core)
    → effect areas (store_to kind) c ≡ stored areas (width_of kind) (address_in c.registers accessed) (c.registers Rcx) c
store_effect I32Store h areas c = refl
store_effect I64Store h areas c = refl
store_effect I32Store8 h areas c = refl
store_effect I32Store16 h areas c = refl
store_effect I64Store8 h areas c = refl
store_effect I64Store16 h areas c = refl
store_effect I64Store32 h areas c = refl
store_effect kind h areas c = cc

wide_power : (kind : AccessKind) → 256 ^ width_of kind ≡ 2 ^ (8 * width_of kind)
wide_power I32Load = refl
wide_power kind = refl

loaded_fits : (kind : AccessKind) (number : ℕ) → number < 256 ^ width_of kind → extended kind number < 2 ^ 64
loaded_fits I32Load number h = omega (arith, load_fits I32Load number (omega (arith, wide_power I32Load)))
loaded_fits kind number h = omega (arith, load_fits kind number (omega (arith, wide_power kind)))

-- ---- the address

module _ (f : Frame) (c : Core) (a : Source) (va offset : ℕ) (b : HasBases f c) (is : HasNumber f c a va) (fits : va < 2 ^ 64)
    (begins : c.registers R14 ≡ f.areas.memory.start) (near : va % 2 ^ 32 + offset < 2 ^ 63) where
  abbrev pub addressed : Core
  addressed =
      let first = with_register (with_register c Rax (va % 2 ^ 32)) Rcx offset in
      with_result first Rax ((va % 2 ^ 32 % 2 ^ 64 + offset % 2 ^ 64) % 2 ^ 64) (alu_flags alu.Add 64 (va % 2 ^ 32 % 2 ^ 64) (offset % 2 ^ 64))

  pub address_runs : (rest : List Instruction) → runs f.areas (address a offset ++ rest) c ≡ runs f.areas rest addressed
  address_runs rest =
      runs_next f.areas (load Long Rax a) (i.Constant Rcx offset ∷ i.Alu alu.Add Quad Rax (in_register Rcx) ∷ rest) c (with_register c Rax (va % 2 ^ 32))
      (load_is f c Long Rax a va b is fits)

  pub address_keeps : Keeps c addressed
  address_keeps =
      let one = with_register c Rax (va % 2 ^ 32) in
      let two = with_register one Rcx offset in
      keeps_put c two addressed Rax _ refl refl refl (keeps_put c one two Rcx offset refl refl refl (keeps_put c c one Rax (va % 2 ^ 32) refl refl refl (keeps_all c)))

  sum_is : (va % 2 ^ 32 % 2 ^ 64 + offset % 2 ^ 64) % 2 ^ 64 ≡ va % 2 ^ 32 + offset
  sum_is = omega arith

  -- any state with the same RAX and R14
  accessed_is : (registers : Registers) → registers Rax ≡ addressed.registers Rax → registers R14 ≡ c.registers R14 → f.areas.memory.start + (va % 2 ^ 32 + offset) < 2 ^ 64
      → address_in registers accessed ≡ f.areas.memory.start + (va % 2 ^ 32 + offset)
  accessed_is registers rax r14 small = omega (arith, rax, r14, begins, sum_is)

-- ---- a Load

module _ (program : Program) (f : Frame) (p : Placing) (s : Plain) (c : Core) (ok : IsFrame f) (placing : IsPlacing f p) (m : Matches program f p s c)
    (memory offset : ℕ) (a : Operand) (a_ok : IsSource p a) where
  abbrev from : ℕ
  from = effective program memory offset (value_of program a s)

  abbrev distance : ℕ
  distance = base program memory + offset

  abbrev va : ℕ
  va = value_of program a s

  is_bases : HasBases f c
  is_bases = bases program f p s c ok placing m

  place_is : from ≡ va % 2 ^ 32 + distance
  place_is = omega arith

  near_is : (width : ℕ) → from + width ≤ length s.space → f.areas.memory.start + (va % 2 ^ 32 + distance) + width ≤ f.areas.memory.start + f.areas.memory.size
  near_is width h = omega (arith, m.room)

  pub load_runs : (q : Placing) (protect : Bool) (kind : AccessKind) (x : ℕ) → is_load kind ≡ true → IsPlacing f q → Assigns p q x
      → from + width_of kind ≤ length s.space → length s.space < 2 ^ 63
      → (d : Core) × (runs f.areas (load_template protect kind (q.location x) distance (source_of p a)) c ≡ Some d)
      × Matches program f q (record s { position = suc s.position; registers = plain_written s.registers (held program (depth s) x) x (plain.loaded kind s.space from) }) d
      × KeepsFrames f c d
  load_runs q protect kind x loads behind assigns inside small =
      let number_is = source_is program f p s c ok placing m a a_ok in
      let fits = source_fits program f p s c ok placing m a a_ok in
      let width = width_of kind in
      let near : va % 2 ^ 32 + distance < 2 ^ 63 = omega arith in
      let first = addressed f c (source_of p a) va distance is_bases number_is fits m.memory near in
      let keeps_first = address_keeps f c (source_of p a) va distance is_bases number_is fits m.memory near in
      let at = f.areas.memory.start + (va % 2 ^ 32 + distance) in
      let ends = near_is width inside in
      let place = accessed_is f c (source_of p a) va distance is_bases number_is fits m.memory near first.registers refl (keeps_first.registers R14 refl) (omega (arith, ok.memory_ends)) in
      let allowed = allowed_memory f.areas at width (omega arith) ends in
      let number = number_of (bytes_at first.memory at width) in
      let v = extended kind number in
      let second = with_register first Rax v in
      let keeps_second = keeps_put c first second Rax v refl refl refl keeps_first in
      let read = ap (λ z. by (loaded f.areas width z first.memory) (λ n. goes_on (with_register first Rax (extended kind n)))) place
      ∙ ap (λ t. by (cond t (Some number) None) (λ n. goes_on (with_register first Rax (extended kind n)))) allowed in
      let bytes : bytes_at first.memory at width ≡ take width (drop from s.space) =
      ap (λ z. bytes_at c.memory (f.areas.memory.start + z) width) (sym place_is) ∙ read_space c.memory f.areas.memory.start from width s.space m.space inside in
      let same : v ≡ plain.loaded kind s.space from = ap (λ l. extended kind (number_of l)) bytes in
      let small_v : v < 2 ^ 64 = loaded_fits kind number (number_below first.memory at width m.bytes) in
      let result = matches_behind program f p s c ok placing m q x v second keeps_second behind assigns small_v in (
        after_write f second (q.location x) v,
        address_runs f c (source_of p a) va distance is_bases number_is fits m.memory near (load_from kind ∷ finish protect (q.location x))
            ∙ runs_next f.areas (load_from kind) (finish protect (q.location x)) first second (load_effect kind loads f.areas first ∙ read)
            ∙ finish_runs f second (q.location x) v protect (bases_kept f c second keeps_second is_bases) (behind.locations x assigns.here) refl small_v,
        subst (λ n. Matches program f q (record s { position = suc s.position; registers = plain_written s.registers (held program (depth s) x) x n }) (after_write f second (q.location x) v)) same result,
        λ address above below. frames_stay f second (q.location x) v ok (behind.locations x assigns.here) address above below ∙ ap (λ b. b address) keeps_second.memory,
      )

  -- ---- a Store

  -- bytes of the memories are none of a location
  location_stays : (l : Location) (at v width : ℕ) → IsLocation f l → at + width ≤ length s.space
      → (d : Core) → Keeps c d → held_at f (record d { memory = written d.memory (f.areas.memory.start + at) (bytes_of width v) }) l ≡ held_at f d l
  location_stays (InRegister r) at v width h le d k = refl
  location_stays (Slot n) at v width h le d k = by_areas ok.slots_memory
    where
      new : List ℕ
      new = bytes_of width v

      by_areas : AreApart f.areas.slots f.areas.memory → number_of (bytes_at (written d.memory (f.areas.memory.start + at) (bytes_of width v)) (f.base + n) 8) ≡ number_of (bytes_at d.memory (f.base + n) 8)
      by_areas (inl q) = ap number_of (bytes_outside d.memory (f.areas.memory.start + at) (f.base + n) 8 (bytes_of width v) (inl (omega (arith, h.1, ok.ends))))
      by_areas (inr q) = ap number_of (bytes_outside d.memory (f.areas.memory.start + at) (f.base + n) 8 (bytes_of width v) (inr (omega (arith, ok.begins, m.room, length-bytes_of width v))))
  location_stays (Context n) at v width h le d k = by_areas ok.context_memory
    where
      by_areas : AreApart f.areas.context f.areas.memory → number_of (bytes_at (written d.memory (f.areas.memory.start + at) (bytes_of width v)) (f.areas.context.start + n) 8) ≡ number_of (bytes_at d.memory (f.areas.context.start + n) 8)
      by_areas (inl q) = ap number_of (bytes_outside d.memory (f.areas.memory.start + at) (f.areas.context.start + n) 8 (bytes_of width v) (inl (omega (arith, h.1))))
      by_areas (inr q) = ap number_of (bytes_outside d.memory (f.areas.memory.start + at) (f.areas.context.start + n) 8 (bytes_of width v) (inr (omega (arith, m.room, length-bytes_of width v))))

  module _ (q : Placing) (passes : Passes p q) (kind : AccessKind) (vb : ℕ) (d : Core) (k : Keeps c d) (inside : from + width_of kind ≤ length s.space) where
    abbrev new_bytes : List ℕ
    new_bytes = bytes_of (width_of kind) vb

    abbrev stored_core : Core
    stored_core = record d { memory = written d.memory (f.areas.memory.start + from) new_bytes }

    abbrev stored_plain : Plain
    stored_plain = record s { position = suc s.position; space = overlay from new_bytes s.space }

    has_space : HasSpace d.memory f.areas.memory.start s.space
    has_space place lt = ap (λ b. b (f.areas.memory.start + place)) k.memory ∙ m.space place lt

    matches_stored : Matches program f q stored_plain stored_core
    matches_stored =
        let long = overlay_length from new_bytes s.space in
        record {
          slots = k.registers Rsp refl ∙ m.slots;
          context = k.registers R15 refl ∙ m.context;
          memory = k.registers R14 refl ∙ m.memory;
          variables = λ y h.
              let was = passes.others y h in
              let kept = number_kept f c d (At (p.location y)) (s.registers (held program (depth s) y) y) k (placing.locations y was.0, m.variables y was.0) in
              location_stays (q.location y) from vb (width_of kind) (subst (IsLocation f) (sym was.1) (placing.locations y was.0)) inside d k
              ∙ ap (held_at f d) was.1 ∙ kept.1;
          fits = λ y h. m.fits y (passes.others y h).0;
          space = λ place lt. write_space from new_bytes s.space (omega (arith, inside, length-bytes_of (width_of kind) vb)) d.memory f.areas.memory.start has_space place (omega (arith, long));
          bytes = λ at. written_byte d.memory (f.areas.memory.start + from) (width_of kind) vb at ((bases_kept f c d k is_bases).bytes at);
          room = omega (arith, long, m.room);
        }

  -- a store changes nothing of the other frames
  frames_stored : (width v : ℕ) (d : Core) (address : ℕ) → from + width ≤ length s.space → f.base + f.size ≤ address → address < f.areas.slots.start + f.areas.slots.size
      → written d.memory (f.areas.memory.start + from) (bytes_of width v) address ≡ d.memory address
  frames_stored width v d address le above below = by_areas ok.slots_memory
    where
      by_areas : AreApart f.areas.slots f.areas.memory → written d.memory (f.areas.memory.start + from) (bytes_of width v) address ≡ d.memory address
      by_areas (inl q) = written_outside d.memory (f.areas.memory.start + from) address (bytes_of width v) (inl (omega arith))
      by_areas (inr q) = written_outside d.memory (f.areas.memory.start + from) address (bytes_of width v) (inr (omega (arith, ok.begins, m.room, length-bytes_of width v)))

  pub store_runs : (q : Placing) (kind : AccessKind) (b : Operand) → is_load kind ≡ false → IsSource p b → Passes p q
      → from + width_of kind ≤ length s.space → length s.space < 2 ^ 63
      → (d : Core) × (runs f.areas (store_template kind distance (source_of p a) (source_of p b)) c ≡ Some d)
      × Matches program f q (record s { position = suc s.position; space = plain.stored kind from (value_of program b s) s.space }) d
      × KeepsFrames f c d
  store_runs q kind b stores b_ok passes inside small =
      let number_is = source_is program f p s c ok placing m a a_ok in
      let fits = source_fits program f p s c ok placing m a a_ok in
      let vb = value_of program b s in
      let width = width_of kind in
      let near : va % 2 ^ 32 + distance < 2 ^ 63 = omega arith in
      let first = addressed f c (source_of p a) va distance is_bases number_is fits m.memory near in
      let keeps_first = address_keeps f c (source_of p a) va distance is_bases number_is fits m.memory near in
      let second = with_register first Rcx vb in
      let keeps_second = keeps_put c first second Rcx vb refl refl refl keeps_first in
      let at = f.areas.memory.start + (va % 2 ^ 32 + distance) in
      let ends = near_is width inside in
      let place = accessed_is f c (source_of p a) va distance is_bases number_is fits m.memory near second.registers refl (keeps_second.registers R14 refl) (omega (arith, ok.memory_ends)) in
      let allowed = allowed_memory f.areas at width (omega arith) ends in
      let third = record second { memory = written second.memory (f.areas.memory.start + from) (bytes_of width vb) } in
      let load_b = load_is f first Quad Rcx (source_of p b) vb (bases_kept f c first keeps_first is_bases) (number_kept f c first (source_of p b) vb keeps_first (source_is program f p s c ok placing m b b_ok)) (source_fits program f p s c ok placing m b b_ok) in
      let written_is = ap (λ z. stored f.areas width z vb second) place
      ∙ ap (λ t. cond t (goes_on (record second { memory = written second.memory at (bytes_of width vb) })) faults) allowed
      ∙ ap (λ z. goes_on (record second { memory = written second.memory (f.areas.memory.start + z) (bytes_of width vb) })) (sym place_is) in
      let same : overlay from (bytes_of width vb) s.space ≡ plain.stored kind from vb s.space = ap (λ l. overlay from l s.space) (sym (lowest_bytes width vb)) in (
        third,
        address_runs f c (source_of p a) va distance is_bases number_is fits m.memory near (load Quad Rcx (source_of p b) ∷ store_to kind ∷ [])
            ∙ runs_next f.areas (load Quad Rcx (source_of p b)) (store_to kind ∷ []) first second load_b
            ∙ runs_next f.areas (store_to kind) [] second third (store_effect kind stores f.areas second ∙ written_is),
        subst (λ l. Matches program f q (record s { position = suc s.position; space = l }) third) same (matches_stored q passes kind vb second keeps_second inside),
        λ address above below. frames_stored width vb second address inside above below ∙ ap (λ b. b address) keeps_second.memory,
      )
