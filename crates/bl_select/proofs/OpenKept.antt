-- What templates and plain steps of one frame leave of the others.
use Rattle.std.proofs.Common.{◌≡◌, ◌≢◌, ℕ, zero, suc, ◌+◌, ◌<◌, ◌≤◌, Bool, true, false, ◌&&◌, cond, ltb, List, [], ◌∷◌, length, refl, sym, ap, ap₂, ◌∙◌, arith}
use Rattle.std.specs.Prelude.{nat_eq}
use Rattle.std.proofs.lemmas.Bool.Decides.{nat_tests}
use Rattle.bl_base.specs.Bytes.{number_of}
use Rattle.bl_program.specs.Layout.{statics}
use Rattle.bl_program.specs.Steps.{Registers, written, held}
use Rattle.bl_program.specs.declared.definitions.ProgramParts.{ProgramParts as Program}
use Rattle.bl_x64.specs.Machines.{Areas, Bytes, Core, bytes_at}
use Rattle.bl_select.specs.Frames.{Frame, KeepsFrames}
use Rattle.bl_select.specs.OpenFrames.{OpenFrame, IsKept, AreOpen}
use Rattle.bl_select.specs.declared.location.Location.{Location}
use Rattle.bl_select.specs.declared.location.Location.TheVariants.{Register as InRegister, Slot, Context}

-- bytes that are the same
same_bytes : (one other : Bytes) (from count : ℕ) → ((at : ℕ) → from ≤ at → at < from + count → other at ≡ one at) → bytes_at other from count ≡ bytes_at one from count
same_bytes one other from zero h = refl
same_bytes one other from (suc count) h =
    ap₂ (λ (x : ℕ) l. x ∷ l) (h from (omega arith) (omega arith)) (same_bytes one other (suc from) count (λ at p q. h at (omega arith) (omega arith)))

kept_by : (o : OpenFrame) (one other : Bytes) (n m : ℕ) (l : Location) → ((at : ℕ) → o.base ≤ at → at < o.base + o.size → other at ≡ one at) → n ≡ m → IsKept o one n l → IsKept o other m l
kept_by o one other n m (InRegister r) same e h = h
kept_by o one other n m (Slot at) same e h =
    (h.0, ap number_of (same_bytes one other (o.base + at) 8 (λ k p q. same k (omega arith) (omega (arith, h.0)))) ∙ h.1 ∙ e)
kept_by o one other n m (Context at) same e h = h

-- where the bytes from `low` on are the same, and so are the numbers at the depths of the open frames
pub open_kept : (program : Program) (areas : Areas) (frames : List OpenFrame) (chain : List ℕ) (r q : Registers) (one other : Bytes) (low : ℕ)
    → ((at : ℕ) → low ≤ at → at < areas.slots.start + areas.slots.size → other at ≡ one at)
    → ((d x : ℕ) → 1 ≤ d → d ≤ length chain → statics program ≤ x → q d x ≡ r d x)
    → AreOpen program areas frames chain r one low → AreOpen program areas frames chain q other low
open_kept program areas [] [] r q one other low same numbers h = tt
open_kept program areas (o ∷ frames) [] r q one other low same numbers h = h
open_kept program areas [] (back ∷ chain) r q one other low same numbers h = h
open_kept program areas (o ∷ frames) (back ∷ chain) r q one other low same numbers h = (
  h.0,
  h.1,
  h.2,
  (λ x s a. kept_by o one other (r (suc (length chain)) x) (q (suc (length chain)) x) (o.placing.location x)
      (λ at p g. same at (omega (arith, h.0)) (omega (arith, h.1))) (sym (numbers (suc (length chain)) x (omega arith) (omega arith) s)) (h.3 x s a)),
  open_kept program areas frames chain r q one other (o.base + o.size) (λ at p g. same at (omega (arith, h.0)) g) (λ d x p g s. numbers d x p (omega arith) s) h.4,
)

-- ---- a template of the running frame, and a plain step that writes one of its variables

-- a write at the running depth, or of a static at depth 0, is at no depth of an open frame
pub written_elsewhere : (program : Program) (registers : Registers) (depth x v d y : ℕ) → 1 ≤ d → d < depth → statics program ≤ y
    → written registers (held program depth x) x v d y ≡ registers d y
written_elsewhere program registers depth x v d y some lower s = by_static (ltb x (statics program))
  where
    by_static : (t : Bool) → cond (nat_eq d (cond t 0 depth) && nat_eq y x) v (registers d y) ≡ registers d y
    by_static true = let ne : nat_eq d 0 ≡ false = grind (arith, nat_tests) in ap (λ t. cond (t && nat_eq y x) v (registers d y)) ne
    by_static false = let ne : nat_eq d depth ≡ false = grind (arith, nat_tests) in ap (λ t. cond (t && nat_eq y x) v (registers d y)) ne

pub open_behind : (program : Program) (f : Frame) (frames : List OpenFrame) (chain : List ℕ) (registers : Registers) (x v : ℕ) (c d : Core) → KeepsFrames f c d
    → AreOpen program f.areas frames chain registers c.memory (f.base + f.size)
    → AreOpen program f.areas frames chain (written registers (held program (suc (length chain)) x) x v) d.memory (f.base + f.size)
open_behind program f frames chain registers x v c d k h =
    open_kept program f.areas frames chain registers (written registers (held program (suc (length chain)) x) x v) c.memory d.memory (f.base + f.size) k
    (λ e y p g s. written_elsewhere program registers (suc (length chain)) x v e y p (omega arith) s) h

pub open_stays : (program : Program) (f : Frame) (frames : List OpenFrame) (chain : List ℕ) (registers : Registers) (c d : Core) → KeepsFrames f c d
    → AreOpen program f.areas frames chain registers c.memory (f.base + f.size) → AreOpen program f.areas frames chain registers d.memory (f.base + f.size)
open_stays program f frames chain registers c d k h =
    open_kept program f.areas frames chain registers registers c.memory d.memory (f.base + f.size) k (λ e y p g s. refl) h
