-- What templates show is a function of what their commands show.
use Rattle.std.proofs.Common.{◌≡◌, ◌≢◌, ℕ, ◌+◌, ◌*◌, ◌-◌, ◌/◌, ◌%◌, ◌^◌, ◌<◌, ◌≤◌, Bool, true, false, not, eqb, Option, Some, List, [], ◌∷◌, ◌++◌, append_assoc, refl, sym, ap, ap₂, ◌∙◌, subst, arith}
use Rattle.std.proofs.lemmas.Option.{none-some, same_Some}
use Rattle.bl_ops.specs.Access.{is_load, width_of}
use Rattle.bl_ops.specs.Integer.{bit}
use Rattle.bl_ops.specs.OperatorTable.{is_division}
use Rattle.bl_ops.specs.declared.op.Op.{Op}
use Rattle.bl_ops.specs.declared.op.Op.TheVariants as op
use Rattle.bl_ops.specs.declared.access.AccessKind.{AccessKind}
use Rattle.bl_ops.specs.declared.access.AccessKind.TheVariants.{I32Load, I64Load, I32Load8S, I32Load8U, I32Load16S, I32Load16U, I64Load8S, I64Load8U, I64Load16S, I64Load16U, I64Load32S, I64Load32U, I32Store, I64Store, I32Store8, I32Store16, I64Store8, I64Store16, I64Store32}
use Rattle.bl_program.specs.Steps.{Plain, value_of}
use Rattle.bl_program.specs.Layout.{base}
use Rattle.bl_program.specs.declared.command.Operand.{Operand}
use Rattle.bl_program.specs.declared.definitions.ProgramParts.{ProgramParts as Program}
use Rattle.bl_x64.specs.Registers.{Registers, bits_of}
use Rattle.bl_x64.specs.Operations.{Flags, alu_flags, holds}
use Rattle.bl_x64.specs.declared.instruction.Alu.TheVariants as alu
use Rattle.bl_x64.specs.Machines.{Areas, Core, Effect, goes_on, jumps, calls, returns, faults, if_holds, address_in, with_register, effect}
use Rattle.bl_x64.specs.Observations.{Observation, shown, reads, writes, branches, divides}
use Rattle.bl_x64.specs.declared.register.Register.TheVariants.{Rax, Rcx, Rdx, Rsp, R14, R15}
use Rattle.bl_x64.specs.declared.instruction.Size.{Size}
use Rattle.bl_x64.specs.declared.instruction.Size.TheVariants.{Long, Quad}
use Rattle.bl_x64.specs.declared.instruction.Condition.TheVariants.{NotEqual}
use Rattle.bl_x64.specs.declared.instruction.Instruction.{Instruction}
use Rattle.bl_x64.specs.declared.instruction.Instruction.TheVariants as i
use Rattle.bl_select.specs.Frames.{Frame, Placing, source_of, IsSource}
use Rattle.bl_select.specs.Shapes.{at_size}
use Rattle.bl_select.specs.Silence.{SameBases, IsWritable, Ends}
use Rattle.bl_select.specs.Simulation.{IsStage, IsWithin}
use Rattle.bl_select.specs.StraightRuns.{next, runs, next_shown, shows}
use Rattle.bl_select.specs.Templates.{load, two_of, zero_guard, minus_guard, guards, divide_by_rcx, take_rest, division_of, address, accessed, load_from, store_to, finish, set_template, load_template, store_template, test_template}
use Rattle.bl_select.specs.declared.location.Location.{Location}
use Rattle.bl_select.specs.declared.location.Source.{Source}
use Rattle.bl_select.proofs.Accesses.{addressed, address_keeps, address_runs}
use Rattle.bl_select.proofs.Quotients.{minus_dividend, minus_divisor, zero_dividend, zero_divisor}
use Rattle.bl_select.proofs.Shapes.{size_below}
use Rattle.bl_select.proofs.Values.{and_same}
use Rattle.bl_select.proofs.Divisions.{Two, loaded_two, minus_guarded, minus_dividend-small, minus_divisor-small, two_then, zero_guarded}
use Rattle.bl_select.proofs.Keeping.{Keeps, keeps_put, HasBases, bases_kept, HasNumber, number_kept, load_is, runs_next, runs_append}
use Rattle.bl_select.proofs.Matching.{bases, source_is, source_fits}
use Rattle.bl_select.proofs.Silence.{AreSteady, finish_steady, leaves, load_steady, shown_same, shows_one, shows_same}

-- ---- one after another

shows_append : (areas : Areas) (xs ys : List Instruction) (c d : Core) → runs areas xs c ≡ Some d → shows areas (xs ++ ys) c ≡ shows areas xs c ++ shows areas ys d
shows_append areas [] ys c d e = ap (shows areas ys) (same_Some c d e)
shows_append areas (x ∷ xs) ys c d e = by_effect (effect areas x c) (λ b r. shows_append areas xs ys b d r) e
  where
    by_effect : (z : Effect) → ((b : Core) → runs areas xs b ≡ Some d → shows areas (xs ++ ys) b ≡ shows areas xs b ++ shows areas ys d) → next z (runs areas xs) ≡ Some d
        → shown x c ++ next_shown z (shows areas (xs ++ ys)) ≡ (shown x c ++ next_shown z (shows areas xs)) ++ shows areas ys d
    by_effect (goes_on b) more r = ap (λ l. shown x c ++ l) (more b r) ∙ sym (append_assoc (shown x c) (shows areas xs b) (shows areas ys d))
    by_effect (jumps to b) more r = absurd (none-some d r)
    by_effect (calls to b) more r = absurd (none-some d r)
    by_effect (returns address b) more r = absurd (none-some d r)
    by_effect faults more r = absurd (none-some d r)

ends_by : (o : Option Core) (d : Core) → o ≡ Some d → Ends o
ends_by o d e = subst Ends (sym e) tt

ends_same : (o p : Option Core) → o ≡ p → Ends o → Ends p
ends_same o p e h = subst Ends e h

-- a steady part, and what stands behind it
alike_then : (areas : Areas) (xs ys : List Instruction) (c d a b : Core) → AreSteady xs → SameBases c d → runs areas xs c ≡ Some a → runs areas xs d ≡ Some b
    → shows areas ys a ≡ shows areas ys b → shows areas (xs ++ ys) c ≡ shows areas (xs ++ ys) d
alike_then areas xs ys c d a b steady same e f rest =
    shows_append areas xs ys c a e
    ∙ ap₂ (λ (x y : List Observation). x ++ y) (shows_same areas xs c d steady same (ends_by (runs areas xs c) a e) (ends_by (runs areas xs d) b f)) rest
    ∙ sym (shows_append areas xs ys d b f)

bases_then : (c d a b : Core) → Keeps c a → Keeps d b → SameBases c d → SameBases a b
bases_then c d a b k l same = record {
  slots = k.registers Rsp refl ∙ same.slots ∙ sym (l.registers Rsp refl);
  context = k.registers R15 refl ∙ same.context ∙ sym (l.registers R15 refl);
}

-- ---- accesses

load_shown : (kind : AccessKind) (c : Core) → is_load kind ≡ true → shown (load_from kind) c ≡ reads (address_in c.registers accessed) (width_of kind) ∷ []
load_shown I32Load c h = refl
load_shown I64Load c h = refl
load_shown I32Load8S c h = refl
load_shown I32Load8U c h = refl
load_shown I32Load16S c h = refl
load_shown I32Load16U c h = refl
load_shown I64Load8S c h = refl
load_shown I64Load8U c h = refl
load_shown I64Load16S c h = refl
load_shown I64Load16U c h = refl
load_shown I64Load32S c h = refl
load_shown I64Load32U c h = refl
load_shown kind c h = cc

load_leaves : (kind : AccessKind) → leaves (load_from kind) ≡ true
load_leaves I32Load = refl
load_leaves kind = refl

store_shown : (kind : AccessKind) (c : Core) → is_load kind ≡ false → shown (store_to kind) c ≡ writes (address_in c.registers accessed) (width_of kind) ∷ []
store_shown I32Store c h = refl
store_shown I64Store c h = refl
store_shown I32Store8 c h = refl
store_shown I32Store16 c h = refl
store_shown I64Store8 c h = refl
store_shown I64Store16 c h = refl
store_shown I64Store32 c h = refl
store_shown kind c h = cc

store_leaves : (kind : AccessKind) → leaves (store_to kind) ≡ true
store_leaves I32Store = refl
store_leaves kind = refl

accessed_same : (r q : Registers) → r Rax ≡ q Rax → r R14 ≡ q R14 → address_in r accessed ≡ address_in q accessed
accessed_same r q e f = ap₂ (λ (x y : ℕ). (y + x + 0) % 2 ^ 64) e f

address_steady : (a : Source) (offset : ℕ) → AreSteady (address a offset)
address_steady a offset = (load_steady Long Rax a refl, (refl, (refl, tt)))

-- the flags of a test, and what they say
abbrev tested_flags : ℕ → Flags
tested_flags x = alu_flags alu.And 32 (x % 2 ^ 32 % 2 ^ 32) (x % 2 ^ 32 % 2 ^ 32)

condition_is : (x : ℕ) → x < 2 ^ 64 → holds NotEqual (tested_flags x) ≡ Some (not (eqb (x % 2 ^ 32) 0))
condition_is x h =
    let small : x % 2 ^ 32 % 2 ^ 32 ≡ x % 2 ^ 32 = omega arith in
    ap₂ (λ u v. holds NotEqual (alu_flags alu.And 32 u v)) small small ∙ ap (λ z. Some (not z)) (and_same Long x h)

-- two states of plain runs with the machines that match them
module _ (program : Program) (f : Frame) (p : Placing) (s t : Plain) (c d : Core) (one : IsStage program f p s c) (other : IsStage program f p t d) where
  stages_same : SameBases c d
  stages_same = record { slots = one.matches.slots ∙ sym other.matches.slots; context = one.matches.context ∙ sym other.matches.context }

  module _ (a : Operand) (a_ok : IsSource p a) where
    bases_c : HasBases f c
    bases_c = bases program f p s c one.frame one.placing one.matches

    bases_d : HasBases f d
    bases_d = bases program f p t d other.frame other.placing other.matches

    number_c : HasNumber f c (source_of p a) (value_of program a s)
    number_c = source_is program f p s c one.frame one.placing one.matches a a_ok

    number_d : HasNumber f d (source_of p a) (value_of program a t)
    number_d = source_is program f p t d other.frame other.placing other.matches a a_ok

    fits_c : value_of program a s < 2 ^ 64
    fits_c = source_fits program f p s c one.frame one.placing one.matches a a_ok

    fits_d : value_of program a t < 2 ^ 64
    fits_d = source_fits program f p t d other.frame other.placing other.matches a a_ok

    module _ (memory offset : ℕ) (kind : AccessKind) (address_is : value_of program a s % 2 ^ 32 ≡ value_of program a t % 2 ^ 32)
        (in_s : IsWithin program s kind memory offset a) (in_t : IsWithin program t kind memory offset a) where
      abbrev distance : ℕ
      distance = base program memory + offset

      near_s : value_of program a s % 2 ^ 32 + distance < 2 ^ 63
      near_s = omega (arith, in_s.ends, in_s.small)

      near_t : value_of program a t % 2 ^ 32 + distance < 2 ^ 63
      near_t = omega (arith, in_t.ends, in_t.small)

      abbrev first_c : Core
      first_c = addressed f c (source_of p a) (value_of program a s) distance bases_c number_c fits_c one.matches.memory near_s

      abbrev first_d : Core
      first_d = addressed f d (source_of p a) (value_of program a t) distance bases_d number_d fits_d other.matches.memory near_t

      keeps_c : Keeps c first_c
      keeps_c = address_keeps f c (source_of p a) (value_of program a s) distance bases_c number_c fits_c one.matches.memory near_s

      keeps_d : Keeps d first_d
      keeps_d = address_keeps f d (source_of p a) (value_of program a t) distance bases_d number_d fits_d other.matches.memory near_t

      runs_c : (rest : List Instruction) → runs f.areas (address (source_of p a) distance ++ rest) c ≡ runs f.areas rest first_c
      runs_c rest = address_runs f c (source_of p a) (value_of program a s) distance bases_c number_c fits_c one.matches.memory near_s rest

      runs_d : (rest : List Instruction) → runs f.areas (address (source_of p a) distance ++ rest) d ≡ runs f.areas rest first_d
      runs_d rest = address_runs f d (source_of p a) (value_of program a t) distance bases_d number_d fits_d other.matches.memory near_t rest

      rax_same : first_c.registers Rax ≡ first_d.registers Rax
      rax_same = ap (λ (x : ℕ). (x % 2 ^ 64 + distance % 2 ^ 64) % 2 ^ 64) address_is

      r14_same : first_c.registers R14 ≡ first_d.registers R14
      r14_same = keeps_c.registers R14 refl ∙ one.matches.memory ∙ sym other.matches.memory ∙ sym (keeps_d.registers R14 refl)

      pub load_shows : (protect : Bool) (to : Location) → is_load kind ≡ true → IsWritable to
          → Ends (runs f.areas (load_template protect kind to distance (source_of p a)) c) → Ends (runs f.areas (load_template protect kind to distance (source_of p a)) d)
          → shows f.areas (load_template protect kind to distance (source_of p a)) c ≡ shows f.areas (load_template protect kind to distance (source_of p a)) d
      load_shows protect to loads free u v =
          let rest = load_from kind ∷ finish protect to in
          let same = bases_then c d first_c first_d keeps_c keeps_d stages_same in
          let shown_is = load_shown kind first_c loads ∙ ap (λ x. reads x (width_of kind) ∷ []) (accessed_same first_c.registers first_d.registers rax_same r14_same) ∙ sym (load_shown kind first_d loads) in
          alike_then f.areas (address (source_of p a) distance) rest c d first_c first_d (address_steady (source_of p a) distance) stages_same (runs_c []) (runs_d [])
          (shows_one f.areas (load_from kind) (finish protect to) first_c first_d (load_leaves kind) shown_is same
          (λ x y k q r. shows_same f.areas (finish protect to) x y (finish_steady protect to free) k q r)
          (ends_same _ _ (runs_c rest) u) (ends_same _ _ (runs_d rest) v))

      pub store_shows : (b : Operand) → is_load kind ≡ false → IsSource p b
          → Ends (runs f.areas (store_template kind distance (source_of p a) (source_of p b)) c) → Ends (runs f.areas (store_template kind distance (source_of p a) (source_of p b)) d)
          → shows f.areas (store_template kind distance (source_of p a) (source_of p b)) c ≡ shows f.areas (store_template kind distance (source_of p a) (source_of p b)) d
      store_shows b stores b_ok u v =
          let front = address (source_of p a) distance ++ load Quad Rcx (source_of p b) ∷ [] in
          let last = store_to kind ∷ [] in
          let vs = value_of program b s in
          let vt = value_of program b t in
          let second_c = with_register first_c Rcx vs in
          let second_d = with_register first_d Rcx vt in
          let step_c = load_is f first_c Quad Rcx (source_of p b) vs (bases_kept f c first_c keeps_c bases_c)
          (number_kept f c first_c (source_of p b) vs keeps_c (source_is program f p s c one.frame one.placing one.matches b b_ok)) (source_fits program f p s c one.frame one.placing one.matches b b_ok) in
          let step_d = load_is f first_d Quad Rcx (source_of p b) vt (bases_kept f d first_d keeps_d bases_d)
          (number_kept f d first_d (source_of p b) vt keeps_d (source_is program f p t d other.frame other.placing other.matches b b_ok)) (source_fits program f p t d other.frame other.placing other.matches b b_ok) in
          let k = keeps_put c first_c second_c Rcx vs refl refl refl keeps_c in
          let l = keeps_put d first_d second_d Rcx vt refl refl refl keeps_d in
          let front_c : runs f.areas front c ≡ Some second_c = runs_c (load Quad Rcx (source_of p b) ∷ []) ∙ runs_next f.areas (load Quad Rcx (source_of p b)) [] first_c second_c step_c in
          let front_d : runs f.areas front d ≡ Some second_d = runs_d (load Quad Rcx (source_of p b) ∷ []) ∙ runs_next f.areas (load Quad Rcx (source_of p b)) [] first_d second_d step_d in
          let shown_is = store_shown kind second_c stores ∙ ap (λ x. writes x (width_of kind) ∷ []) (accessed_same second_c.registers second_d.registers rax_same r14_same) ∙ sym (store_shown kind second_d stores) in
          alike_then f.areas front last c d second_c second_d (load_steady Long Rax (source_of p a) refl, (refl, (refl, (load_steady Quad Rcx (source_of p b) refl, tt)))) stages_same front_c front_d
          (shows_one f.areas (store_to kind) [] second_c second_d (store_leaves kind) shown_is (bases_then c d second_c second_d k l stages_same) (λ x y m q r. refl)
          (ends_same _ _ (runs_append f.areas front last c second_c front_c) u) (ends_same _ _ (runs_append f.areas front last d second_d front_d) v))

    -- ---- a Test

    module _ (yes_at no_at : ℕ) where
      abbrev source : Source
      source = source_of p a

      rest_shown : (g : Core) (o : Option Bool) (t : Bool) → o ≡ Some t → next_shown (if_holds o (jumps yes_at g) (goes_on g)) (shows f.areas (i.Jump no_at ∷ [])) ≡ []
      rest_shown g o true e = ap (λ z. next_shown (if_holds z (jumps yes_at g) (goes_on g)) (shows f.areas (i.Jump no_at ∷ []))) e
      rest_shown g o false e = ap (λ z. next_shown (if_holds z (jumps yes_at g) (goes_on g)) (shows f.areas (i.Jump no_at ∷ []))) e

      -- the load of the condition, and the way
      way_shown : (g : Core) (x : ℕ) (o : Bool) → effect f.areas (load Long Rax source) g ≡ goes_on (with_register g Rax (x % 2 ^ 32)) → holds NotEqual (tested_flags x) ≡ Some o
          → shows f.areas (test_template source yes_at no_at) g ≡ shown (load Long Rax source) g ++ branches (Some o) ∷ []
      way_shown g x o loads is =
          let m = record (with_register g Rax (x % 2 ^ 32)) { flags = tested_flags x } in
          ap (λ z. shown (load Long Rax source) g ++ next_shown z (shows f.areas (i.Test Long Rax Rax ∷ i.JumpIf NotEqual yes_at ∷ i.Jump no_at ∷ []))) loads
          ∙ ap₂ (λ z w. shown (load Long Rax source) g ++ (branches z ∷ w)) is (rest_shown m (holds NotEqual (tested_flags x)) o is)

      pub test_shows : eqb (value_of program a s % 2 ^ 32) 0 ≡ eqb (value_of program a t % 2 ^ 32) 0 → shows f.areas (test_template source yes_at no_at) c ≡ shows f.areas (test_template source yes_at no_at) d
      test_shows same =
          way_shown c (value_of program a s) (not (eqb (value_of program a s % 2 ^ 32) 0)) (load_is f c Long Rax source (value_of program a s) bases_c number_c fits_c) (condition_is (value_of program a s) fits_c)
          ∙ ap₂ (λ x y. x ++ branches (Some (not y)) ∷ []) (shown_same (load Long Rax source) c d (load_steady Long Rax source refl) stages_same) same
          ∙ sym (way_shown d (value_of program a t) (not (eqb (value_of program a t % 2 ^ 32) 0)) (load_is f d Long Rax source (value_of program a t) bases_d number_d fits_d) (condition_is (value_of program a t) fits_d))

-- ---- divisions

-- the operands behind the guards
abbrev guarded_dividend : Bool → ℕ → ℕ → ℕ → ℕ
guarded_dividend false n x y = zero_dividend x y
guarded_dividend true n x y = zero_dividend (minus_dividend n x y) (minus_divisor n y)

abbrev guarded_divisor : Bool → ℕ → ℕ → ℕ
guarded_divisor false n y = zero_divisor y
guarded_divisor true n y = zero_divisor (minus_divisor n y)

guarded_front : (f : Frame) (c : Core) (a b : Source) (va vb : ℕ) → HasBases f c → HasNumber f c a va → HasNumber f c b vb → va < 2 ^ 64 → vb < 2 ^ 64 → (sign : Bool) (size : Size)
    → Two f.areas (two_of size a b ++ guards sign size a b) c (guarded_dividend sign (bits_of size) (at_size size va) (at_size size vb)) (guarded_divisor sign (bits_of size) (at_size size vb))
guarded_front f c a b va vb bases a_is b_is a_fits b_fits false size =
    let two = loaded_two f c a b va vb bases a_is b_is a_fits b_fits size in
    two_then f.areas (two_of size a b) (zero_guard size) c _ _ _ _ two
    (zero_guarded f.areas size two.core (at_size size va) (at_size size vb) two.rax two.rcx (size_below size va a_fits) (size_below size vb b_fits))
guarded_front f c a b va vb bases a_is b_is a_fits b_fits true size =
    let x = at_size size va in
    let y = at_size size vb in
    let two = loaded_two f c a b va vb bases a_is b_is a_fits b_fits size in
    let minus = minus_guarded f c a b va vb bases a_is b_is a_fits b_fits size two.core two.keeps two.rax two.rcx in
    let zero = zero_guarded f.areas size minus.core (minus_dividend (bits_of size) x y) (minus_divisor (bits_of size) y) minus.rax minus.rcx
    (minus_dividend-small size x y (size_below size va a_fits)) (minus_divisor-small size y (size_below size vb b_fits)) in
    two_then f.areas (two_of size a b) (minus_guard size a b ++ zero_guard size) c _ _ _ _ two
    (two_then f.areas (minus_guard size a b) (zero_guard size) two.core _ _ _ _ minus zero)

front_steady : (sign : Bool) (size : Size) (a b : Source) → AreSteady (two_of size a b ++ guards sign size a b)
front_steady false size a b = (load_steady size Rax a refl, (load_steady size Rcx b refl, (refl, (refl, (refl, (refl, (refl, tt)))))))
front_steady true size a b = (
  load_steady size Rax a refl,
  (
    load_steady size Rcx b refl,
    (
      refl,
      (
        refl,
        (
          refl,
          (
            refl,
            (
              load_steady size Rax a refl,
              (
                refl,
                (
                  load_steady size Rcx b refl,
                  (
                    refl,
                    (
                      refl,
                      (refl, (refl, (refl, (refl, (refl, tt))))),
                    ),
                  ),
                ),
              ),
            ),
          ),
        ),
      ),
    ),
  ),
)

rest_steady : (rest protect : Bool) (to : Location) → IsWritable to → AreSteady (take_rest rest ++ finish protect to)
rest_steady false protect to h = finish_steady protect to h
rest_steady true protect to h = (refl, finish_steady protect to h)

-- from two states with the same operands in RAX and RCX
divide_alike : (areas : Areas) (sign : Bool) (size : Size) (tail : List Instruction) (g h : Core) → AreSteady tail → SameBases g h → g.registers Rax ≡ h.registers Rax → g.registers Rcx ≡ h.registers Rcx
    → Ends (runs areas (divide_by_rcx sign size ++ tail) g) → Ends (runs areas (divide_by_rcx sign size ++ tail) h)
    → shows areas (divide_by_rcx sign size ++ tail) g ≡ shows areas (divide_by_rcx sign size ++ tail) h
divide_alike areas false size tail g h steady same rax rcx u v =
    let n = bits_of size in
    let m = with_register g Rdx 0 in
    let k = with_register h Rdx 0 in
    shows_one areas (i.Divide false size Rcx) tail m k refl
    (ap₂ (λ (x y : ℕ). divides (0 % 2 ^ n) (x % 2 ^ n) (y % 2 ^ n) ∷ []) rax rcx) (record { slots = same.slots; context = same.context })
    (λ x y e q r. shows_same areas tail x y steady e q r) u v
divide_alike areas true size tail g h steady same rax rcx u v =
    let n = bits_of size in
    let m = with_register g Rdx (bit (g.registers Rax % 2 ^ n) (n - 1) * (2 ^ n - 1)) in
    let k = with_register h Rdx (bit (h.registers Rax % 2 ^ n) (n - 1) * (2 ^ n - 1)) in
    shows_one areas (i.Divide true size Rcx) tail m k refl
    (ap₂ (λ (x y : ℕ). divides (bit (x % 2 ^ n) (n - 1) * (2 ^ n - 1) % 2 ^ n) (x % 2 ^ n) (y % 2 ^ n) ∷ []) rax rcx) (record { slots = same.slots; context = same.context })
    (λ x y e q r. shows_same areas tail x y steady e q r) u v

module _ (program : Program) (f : Frame) (p : Placing) (s t : Plain) (c d : Core) (one : IsStage program f p s c) (other : IsStage program f p t d)
    (a b : Operand) (a_ok : IsSource p a) (b_ok : IsSource p b) (a_same : value_of program a s ≡ value_of program a t) (b_same : value_of program b s ≡ value_of program b t) where
  division_alike : (sign : Bool) (size : Size) (tail : List Instruction) → AreSteady tail
      → Ends (runs f.areas ((two_of size (source_of p a) (source_of p b) ++ guards sign size (source_of p a) (source_of p b)) ++ (divide_by_rcx sign size ++ tail)) c)
      → Ends (runs f.areas ((two_of size (source_of p a) (source_of p b) ++ guards sign size (source_of p a) (source_of p b)) ++ (divide_by_rcx sign size ++ tail)) d)
      → shows f.areas ((two_of size (source_of p a) (source_of p b) ++ guards sign size (source_of p a) (source_of p b)) ++ (divide_by_rcx sign size ++ tail)) c
      ≡ shows f.areas ((two_of size (source_of p a) (source_of p b) ++ guards sign size (source_of p a) (source_of p b)) ++ (divide_by_rcx sign size ++ tail)) d
  division_alike sign size tail steady u v =
      let n = bits_of size in
      let front = two_of size (source_of p a) (source_of p b) ++ guards sign size (source_of p a) (source_of p b) in
      let back = divide_by_rcx sign size ++ tail in
      let g = guarded_front f c (source_of p a) (source_of p b) (value_of program a s) (value_of program b s) (bases_c program f p s t c d one other a a_ok)
      (number_c program f p s t c d one other a a_ok) (number_c program f p s t c d one other b b_ok) (fits_c program f p s t c d one other a a_ok) (fits_c program f p s t c d one other b b_ok) sign size in
      let h = guarded_front f d (source_of p a) (source_of p b) (value_of program a t) (value_of program b t) (bases_d program f p s t c d one other a a_ok)
      (number_d program f p s t c d one other a a_ok) (number_d program f p s t c d one other b b_ok) (fits_d program f p s t c d one other a a_ok) (fits_d program f p s t c d one other b b_ok) sign size in
      let same = stages_same program f p s t c d one other in
      let rax = g.rax ∙ ap₂ (λ (x y : ℕ). guarded_dividend sign n (at_size size x) (at_size size y)) a_same b_same ∙ sym h.rax in
      let rcx = g.rcx ∙ ap (λ (y : ℕ). guarded_divisor sign n (at_size size y)) b_same ∙ sym h.rcx in
      alike_then f.areas front back c d g.core h.core (front_steady sign size (source_of p a) (source_of p b)) same g.run h.run
      (divide_alike f.areas sign size tail g.core h.core steady (bases_then c d g.core h.core g.keeps h.keeps same) rax rcx
      (ends_same _ _ (runs_append f.areas front back c g.core g.run) u) (ends_same _ _ (runs_append f.areas front back d h.core h.run) v))

  pub shape_shows : (sign rest : Bool) (size : Size) (protect : Bool) (to : Location) → IsWritable to
      → Ends (runs f.areas (division_of sign rest size (source_of p a) (source_of p b) ++ finish protect to) c)
      → Ends (runs f.areas (division_of sign rest size (source_of p a) (source_of p b) ++ finish protect to) d)
      → shows f.areas (division_of sign rest size (source_of p a) (source_of p b) ++ finish protect to) c ≡ shows f.areas (division_of sign rest size (source_of p a) (source_of p b) ++ finish protect to) d
  shape_shows false false size protect to free u v = division_alike false size (finish protect to) (rest_steady false protect to free) u v
  shape_shows false true size protect to free u v = division_alike false size (take_rest true ++ finish protect to) (rest_steady true protect to free) u v
  shape_shows true false size protect to free u v = division_alike true size (finish protect to) (rest_steady false protect to free) u v
  shape_shows true true size protect to free u v = division_alike true size (take_rest true ++ finish protect to) (rest_steady true protect to free) u v

  pub division_shows : (o : Op) (e : Source) (protect : Bool) (to : Location) → is_division o ≡ true → IsWritable to
      → Ends (runs f.areas (set_template protect o to (source_of p a) (source_of p b) e) c) → Ends (runs f.areas (set_template protect o to (source_of p a) (source_of p b) e) d)
      → shows f.areas (set_template protect o to (source_of p a) (source_of p b) e) c ≡ shows f.areas (set_template protect o to (source_of p a) (source_of p b) e) d
  division_shows op.I32DivS e protect to h free u v = shape_shows true false Long protect to free u v
  division_shows op.I32DivU e protect to h free u v = shape_shows false false Long protect to free u v
  division_shows op.I32RemS e protect to h free u v = shape_shows true true Long protect to free u v
  division_shows op.I32RemU e protect to h free u v = shape_shows false true Long protect to free u v
  division_shows op.I64DivS e protect to h free u v = shape_shows true false Quad protect to free u v
  division_shows op.I64DivU e protect to h free u v = shape_shows false false Quad protect to free u v
  division_shows op.I64RemS e protect to h free u v = shape_shows true true Quad protect to free u v
  division_shows op.I64RemU e protect to h free u v = shape_shows false true Quad protect to free u v
  division_shows o e protect to h free u v = cc
