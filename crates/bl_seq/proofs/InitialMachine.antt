-- The machine before the first step.
use Rattle.std.proofs.Common.{◌≡◌, ◌≢◌, ℕ, zero, suc, ◌+◌, ◌-◌, ◌*◌, ◌<◌, ◌≤◌, Bool, true, false, List, [], ◌∷◌, ◌++◌, length, map, drop, replicate, get_or, Option, Some, None, slice_get, refl, sym, ap, ◌∙◌, subst, arith}
use Rattle.std.specs.Prelude.{nat_lt, if◌then◌else◌, IfOk, Result, Ok, Err}
use Rattle.std.specs.List.{All, fold}
use Rattle.std.proofs.lemmas.List.Elements.{All-get_or}
use Rattle.std.proofs.Math.Seq.{drop-cons}
use Rattle.std.proofs.lemmas.Bool.{ltb-true, ltb-false}
use Rattle.std.proofs.lemmas.List.{length-replicate}
use Rattle.bl_base.specs.Bytes.{patch_over, patched, write}
use Rattle.bl_base.specs.Fits.{LiesIn, PatchFits}
use Rattle.bl_base.specs.Runs.{MemoryState}
use Rattle.bl_base.specs.declared.start.Patch.{Patch}
use Rattle.bl_base.specs.declared.start.Start.{Start}
use Rattle.bl_base.proofs.Lists.{zip_got, zip_set, get_mapped}
use Rattle.std.proofs.Math.Path.{fun_ext}
use Rattle.bl_program.specs.Layout.{entry_of, first_of}
use Rattle.bl_program.specs.Outcomes.{first_memories, first_memory, first_registers, opening, space_of, with_row}
use Rattle.bl_program.specs.Steps.{Plain}
use Rattle.bl_program.specs.declared.definitions.MemRow.{MemRow}
use Rattle.bl_program.specs.declared.definitions.MemoryDef.{MemoryDef}
use Rattle.bl_program.specs.declared.definitions.ProgramParts.{ProgramParts as Program}
use Rattle.bl_seq.specs.RegisterTrees.{File, register_at, filled}
use Rattle.bl_seq.specs.InitialMemories.{IsSized, AreSized, LiesInside}
use Rattle.bl_seq.proofs.RegisterWrites.{fill_before, fill_apart, fill_behind}
use Rattle.bl_bytes.proofs.OverlayLemmas.{length_write, overlay_length}

-- ---- memories

length_rows : (rows : List MemRow) (bytes : List ℕ) → length (fold with_row bytes rows) ≡ length bytes
length_rows [] bytes = refl
length_rows (row ∷ rows) bytes = length_rows rows (with_row bytes row) ∙ overlay_length (row.number * 16) row.bytes bytes

pub first_length : (memory : MemoryDef) → length (first_memory memory).bytes ≡ memory.pages * 65536
first_length memory = length_rows memory.rows (replicate (memory.pages * 65536) 0) ∙ length-replicate (memory.pages * 65536) 0

pub sized_first : (memories : List MemoryDef) → AreSized memories (map first_memory memories)
sized_first [] = tt
sized_first (memory ∷ memories) =
    (record { len = first_length memory }, sized_first memories)

pub lies_inside : (memories : List MemoryDef) (states : List MemoryState) (patch : Patch) → AreSized memories states → PatchFits (map (λ memory. memory.pages) memories) patch
    → LiesInside patch states
lies_inside memories states patch sized fits = record {
  within = λ state e.
      let got = zip_got IsSized memories states patch.memory state sized e in
      let room : patch.offset + length patch.bytes ≤ got.0.pages * 65536 =
      subst (λ o. LiesIn patch.offset (length patch.bytes) o) (get_mapped (λ (memory : MemoryDef). memory.pages) memories patch.memory got.0 got.1) fits.0 in
      let len = got.2.len in
      omega arith;
}

pub sized_patched : (memories : List MemoryDef) (states : List MemoryState) (patch : Patch) → AreSized memories states → LiesInside patch states → AreSized memories (patched states patch)
sized_patched memories states patch sized inside = by (slice_get states patch.memory) refl
  where
    by : (o : Option MemoryState) → slice_get states patch.memory ≡ o → AreSized memories (patch_over o states patch)
    by None e = sized
    by (Some state) e =
        let got = zip_got IsSized memories states patch.memory state sized e in
        zip_set IsSized memories states patch.memory got.0 (write state patch.offset patch.bytes) sized got.1
        (record { len = length_write state patch.offset patch.bytes (inside.within state e) ∙ got.2.len })

-- what is told of contents is told of what they are
pub told_as : {X E : Type 0} (f : X → List MemoryState) (r : Result X E) (a b : List MemoryState) → IfOk r (λ x. f x ≡ a) → a ≡ b → IfOk r (λ x. f x ≡ b)
told_as f (Ok x) a b e same = e ∙ same
told_as f (Err y) a b e same = tt

-- one patch of those that are written in order
pub inside_at : (memories : List MemoryDef) (states : List MemoryState) (patches : List Patch) (i : ℕ) (patch : Patch) → AreSized memories states
    → All (PatchFits (map (λ memory. memory.pages) memories)) patches → i < length patches → patch ≡ get_or patches i patch → LiesInside patch states
inside_at memories states patches i patch sized fits lt is =
    lies_inside memories states patch sized
    (subst (PatchFits (map (λ memory. memory.pages) memories)) (sym is) (All-get_or (PatchFits (map (λ memory. memory.pages) memories)) patches i patch lt fits))

pub patch_next : (states : List MemoryState) (patches : List Patch) (i : ℕ) (patch : Patch) → i < length patches → patch ≡ get_or patches i patch
    → fold patched (patched states patch) (drop (i + 1) patches) ≡ fold patched states (drop i patches)
patch_next states patches i patch lt is =
    let next : i + 1 ≡ suc i = omega arith in
    rw (next, drop-cons patches i patch lt) (ap (λ p. fold patched (patched states p) (drop (suc i) patches)) is)

-- ---- registers

module _ (program : Program) (function : ℕ) (start : Start) (one two : File) (statics : List ℕ)
    (are : statics ≡ map (λ global. global.first) program.globals ++ map (λ memory. memory.pages) program.memories)
    (first : (d v : ℕ) → register_at one d v ≡ filled (λ d v. 0) 0 0 statics d v)
    (second : (d v : ℕ) → register_at two d v ≡ filled (λ d v. register_at one d v) 1 (first_of program function) start.args d v) where
  beside : (d v : ℕ) → d ≢ 0 → register_at one d v ≡ 0
  beside d v ne = first d v ∙ fill_apart (λ d v. 0) 0 0 statics d v ne

  pub registers_at : (d v : ℕ) → register_at two d v ≡ first_registers program function start d v
  registers_at zero v =
      let same : v - 0 ≡ v = omega arith in
      second 0 v ∙ fill_apart (λ d v. register_at one d v) 1 (first_of program function) start.args 0 v (λ e. omega arith) ∙ first 0 v
      ∙ fill_behind (λ d v. 0) 0 0 statics v (omega arith) (λ w le. refl) ∙ ap (λ k. get_or statics k 0) same ∙ ap (λ l. get_or l v 0) are
  registers_at (suc zero) v = by (nat_lt v (first_of program function)) refl
    where
      by : (b : Bool) → nat_lt v (first_of program function) ≡ b → register_at two 1 v ≡ (if b then 0 else get_or start.args (v - first_of program function) 0)
      by true e = second 1 v ∙ fill_before (λ d v. register_at one d v) 1 (first_of program function) start.args 1 v (ltb-true v (first_of program function) e) ∙ beside 1 v (λ e. omega arith)
      by false e = second 1 v ∙ fill_behind (λ d v. register_at one d v) 1 (first_of program function) start.args v (ltb-false v (first_of program function) e) (λ w le. beside 1 w (λ e. omega arith))
  registers_at (suc (suc d)) v =
      second (suc (suc d)) v ∙ fill_apart (λ d v. register_at one d v) 1 (first_of program function) start.args (suc (suc d)) v (λ e. omega arith) ∙ beside (suc (suc d)) v (λ e. omega arith)

pub registers_of : (program : Program) (function : ℕ) (start : Start) {E : Type 0} (r : Result File E) (one : File) (first : ℕ) (arguments : List ℕ)
    → first ≡ first_of program function → arguments ≡ start.args
    → ((d v : ℕ) → register_at one d v ≡ filled (λ d v. 0) 0 0 (map (λ global. global.first) program.globals ++ map (λ memory. memory.pages) program.memories) d v)
    → IfOk r (λ two. (d v : ℕ) → register_at two d v ≡ filled (λ d v. register_at one d v) 1 first arguments d v)
    → IfOk r (λ two. (d v : ℕ) → register_at two d v ≡ first_registers program function start d v)
registers_of program function start (Ok two) one first arguments is are begun e =
    registers_at program function start one two _ refl begun
    (λ d v. e d v ∙ ap (λ n. filled (λ d v. register_at one d v) 1 n arguments d v) is ∙ ap (λ l. filled (λ d v. register_at one d v) 1 (first_of program function) l d v) are)
registers_of program function start (Err y) one first arguments is are begun e = tt

pub opens : (program : Program) (function : ℕ) (start : Start) (position : ℕ) (chain : List ℕ) (file : File) (space : List ℕ)
    → position ≡ entry_of program function → chain ≡ [] → ((d v : ℕ) → register_at file d v ≡ first_registers program function start d v)
    → space ≡ space_of program.memories (first_memories program start)
    → (let s : Plain = record { position = position; chain = chain; registers = λ d v. register_at file d v; space = space } in s) ≡ opening program function start
opens program function start position chain file space p c r s =
    let same : (λ d v. register_at file d v) ≡ first_registers program function start = fun_ext (λ d. fun_ext (λ v. r d v)) in
    ap (λ x. let s : Plain = record { position = x; chain = chain; registers = λ d v. register_at file d v; space = space } in s) p
    ∙ ap (λ x. let s : Plain = record { position = entry_of program function; chain = x; registers = λ d v. register_at file d v; space = space } in s) c
    ∙ ap (λ x. let s : Plain = record { position = entry_of program function; chain = []; registers = x; space = space } in s) same
    ∙ ap (λ x. let s : Plain = record { position = entry_of program function; chain = []; registers = first_registers program function start; space = x } in s) s
