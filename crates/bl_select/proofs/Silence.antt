-- A Set shows the same from any two states with the same bases, and stays short.
use Rattle.std.proofs.Common.{◌≡◌, ℕ, ◌+◌, ◌*◌, ◌/◌, ◌%◌, eqb, ltb, ◌^◌, ◌<◌, ◌≤◌, Bool, true, false, not, ◌&&◌, IsTrue, cond, Option, Some, None, List, [], ◌∷◌, ◌++◌, length, refl, sym, ap, ap₂, ◌∙◌, arith, length-append}
use Rattle.std.specs.Prelude.{int_div}
use Rattle.std.proofs.lemmas.Option.{none-some}
use Rattle.bl_ops.specs.Integer.{signed}
use Rattle.bl_ops.specs.OperatorTable.{is_division}
use Rattle.bl_ops.specs.declared.op.Op.{Op}
use Rattle.bl_ops.specs.declared.op.Op.TheVariants as op
use Rattle.bl_x64.specs.Registers.{Registers, put, bytes_in, width_of}
use Rattle.bl_x64.specs.Operations.{Flags, extended_bytes, holds, alu_writes, unknown, overflows}
use Rattle.bl_x64.specs.Machines.{Areas, Core, Effect, goes_on, jumps, calls, returns, faults, by, divide, divided, if_holds, is_allowed, address_in, index_in, widened, read, with_result_if, effect}
use Rattle.bl_x64.specs.Observations.{Observation, shown, shown_by, reads, writes}
use Rattle.bl_x64.specs.declared.register.Register.{Register}
use Rattle.bl_x64.specs.declared.register.Register.TheVariants.{Rax, Rcx, Rdx, Rsp, R15}
use Rattle.bl_x64.specs.declared.instruction.Size.{Size}
use Rattle.bl_x64.specs.declared.instruction.Size.TheVariants.{Long, Quad}
use Rattle.bl_x64.specs.declared.instruction.Address.{Address}
use Rattle.bl_x64.specs.declared.instruction.Place.{Place}
use Rattle.bl_x64.specs.declared.instruction.Place.TheVariants as place
use Rattle.bl_x64.specs.declared.instruction.Instruction.{Instruction}
use Rattle.bl_x64.specs.declared.instruction.Instruction.TheVariants.{Mov, Store, Constant, Extend, Alu, Test, Imul, Rotate, Count, SetIf, MoveIf, FillSign, Divide, Lfence, Jump, JumpIf, Call, Ret}
use Rattle.bl_select.specs.Frames.{is_free}
use Rattle.bl_select.specs.Shapes.{divides, shape_of}
use Rattle.bl_select.specs.Silence.{SameBases, IsWritable, Ends, most_of}
use Rattle.bl_select.specs.StraightRuns.{next, runs, next_shown, shows}
use Rattle.bl_select.specs.Templates.{place_of, load, load_reach, write, finish, value, set_template}
use Rattle.bl_select.proofs.Values.{after_reach}
use Rattle.bl_select.specs.declared.location.Location.{Location}
use Rattle.bl_select.specs.declared.location.Location.TheVariants.{Register as InRegister, Slot, Context}
use Rattle.bl_select.specs.declared.location.Source.{Source}
use Rattle.bl_select.specs.declared.location.Source.TheVariants.{At, Number}
use Rattle.bl_select.specs.declared.location.Shape.{Shape}
use Rattle.bl_select.specs.declared.location.Shape.TheVariants as shape

-- ---- instructions whose addresses are of RSP or R15 alone, which they leave, and that neither branch nor divide

abbrev is_base : Register → Bool
is_base Rsp = true
is_base R15 = true
is_base r = false

abbrev has_no_index : Option Register → Bool
has_no_index None = true
has_no_index (Some r) = false

abbrev is_steady_address : Address → Bool
is_steady_address a = is_base a.base && has_no_index a.index

abbrev is_steady_place : Place → Bool
is_steady_place (place.Register r) = true
is_steady_place (place.Memory a) = is_steady_address a

abbrev pub is_steady : Instruction → Bool
is_steady (Mov size to from) = not (is_base to) && is_steady_place from
is_steady (Store width to from) = is_steady_address to
is_steady (Constant to value) = not (is_base to)
is_steady (Extend how size to from) = not (is_base to) && is_steady_place from
is_steady (Alu op size to from) = not (is_base to) && is_steady_place from
is_steady (Test size one other) = true
is_steady (Imul size to from) = not (is_base to) && is_steady_place from
is_steady (Rotate op size to) = not (is_base to)
is_steady (Count op size to from) = not (is_base to) && is_steady_place from
is_steady (SetIf condition to) = not (is_base to)
is_steady (MoveIf condition size to from) = not (is_base to) && is_steady_place from
is_steady (FillSign size) = true
is_steady (Divide sign size divisor) = false
is_steady Lfence = true
is_steady (Jump to) = false
is_steady (JumpIf condition to) = false
is_steady (Call to) = false
is_steady Ret = false

-- it writes neither, and neither jumps, calls nor returns
abbrev pub leaves : Instruction → Bool
leaves (Mov size to from) = not (is_base to)
leaves (Store width to from) = true
leaves (Constant to value) = not (is_base to)
leaves (Extend how size to from) = not (is_base to)
leaves (Alu op size to from) = not (is_base to)
leaves (Test size one other) = true
leaves (Imul size to from) = not (is_base to)
leaves (Rotate op size to) = not (is_base to)
leaves (Count op size to from) = not (is_base to)
leaves (SetIf condition to) = not (is_base to)
leaves (MoveIf condition size to from) = not (is_base to)
leaves (FillSign size) = true
leaves (Divide sign size divisor) = true
leaves Lfence = true
leaves (Jump to) = false
leaves (JumpIf condition to) = false
leaves (Call to) = false
leaves Ret = false

abbrev pub AreSteady : List Instruction → Type 0
AreSteady [] = Unit {0}
AreSteady (i ∷ rest) = (is_steady i ≡ true) × AreSteady rest

first_of : (a b : Bool) → (a && b) ≡ true → a ≡ true
first_of true b e = refl
first_of false b e = cc

second_of : (a b : Bool) → (a && b) ≡ true → b ≡ true
second_of true b e = e
second_of false b e = cc

both_of : (a b : Bool) → a ≡ true → b ≡ true → (a && b) ≡ true
both_of a b e f = rw (e, f) refl

not_true : (a : Bool) → not a ≡ true → a ≡ false
not_true true e = cc
not_true false e = refl

-- ---- what is shown

base_same : (r : Register) (c d : Core) → is_base r ≡ true → SameBases c d → c.registers r ≡ d.registers r
base_same Rsp c d e h = h.slots
base_same R15 c d e h = h.context
base_same r c d e h = cc

index_same : (index : Option Register) (c d : Core) → has_no_index index ≡ true → index_in c.registers index ≡ index_in d.registers index
index_same None c d e = refl
index_same (Some r) c d e = cc

address_same : (a : Address) (c d : Core) → is_steady_address a ≡ true → SameBases c d → address_in c.registers a ≡ address_in d.registers a
address_same a c d e h =
    ap₂ (λ (x y : ℕ). (x + y + widened a.displacement) % 2 ^ 64)
    (base_same a.base c d (first_of (is_base a.base) (has_no_index a.index) e) h)
    (index_same a.index c d (second_of (is_base a.base) (has_no_index a.index) e))

place_same : (p : Place) (count : ℕ) (c d : Core) → is_steady_place p ≡ true → SameBases c d → shown_by count p c ≡ shown_by count p d
place_same (place.Register r) count c d e h = refl
place_same (place.Memory a) count c d e h = ap (λ x. reads x count ∷ []) (address_same a c d e h)

pub shown_same : (i : Instruction) (c d : Core) → is_steady i ≡ true → SameBases c d → shown i c ≡ shown i d
shown_same (Mov size to from) c d e h = place_same from (bytes_in size) c d (second_of (not (is_base to)) (is_steady_place from) e) h
shown_same (Store width to from) c d e h = ap (λ x. writes x (width_of width) ∷ []) (address_same to c d e h)
shown_same (Constant to value) c d e h = refl
shown_same (Extend how size to from) c d e h = place_same from (extended_bytes how) c d (second_of (not (is_base to)) (is_steady_place from) e) h
shown_same (Alu op size to from) c d e h = place_same from (bytes_in size) c d (second_of (not (is_base to)) (is_steady_place from) e) h
shown_same (Test size one other) c d e h = refl
shown_same (Imul size to from) c d e h = place_same from (bytes_in size) c d (second_of (not (is_base to)) (is_steady_place from) e) h
shown_same (Rotate op size to) c d e h = refl
shown_same (Count op size to from) c d e h = place_same from (bytes_in size) c d (second_of (not (is_base to)) (is_steady_place from) e) h
shown_same (SetIf condition to) c d e h = refl
shown_same (MoveIf condition size to from) c d e h = place_same from (bytes_in size) c d (second_of (not (is_base to)) (is_steady_place from) e) h
shown_same (FillSign size) c d e h = refl
shown_same (Divide sign size divisor) c d e h = cc
shown_same Lfence c d e h = refl
shown_same (Jump to) c d e h = cc
shown_same (JumpIf condition to) c d e h = cc
shown_same (Call to) c d e h = cc
shown_same Ret c d e h = cc

-- ---- the bases stay

pub data Stays (c : Core) : Effect → Type 0 where
  stays_on : (d : Core) → SameBases c d → Stays c (goes_on d)
  stays_out : Stays c faults

put_base : (registers : Registers) (to base : Register) (v : ℕ) → is_base to ≡ false → is_base base ≡ true → registers base ≡ put registers to v base
put_base registers to Rsp v e f = not_rsp to e
  where
    not_rsp : (r : Register) → is_base r ≡ false → registers Rsp ≡ put registers r v Rsp
    not_rsp Rsp h = cc
    not_rsp r h = refl
put_base registers to R15 v e f = not_r15 to e
  where
    not_r15 : (r : Register) → is_base r ≡ false → registers R15 ≡ put registers r v R15
    not_r15 R15 h = cc
    not_r15 r h = refl
put_base registers to r v e f = cc

by_put : (c d : Core) (to : Register) (v : ℕ) → is_base to ≡ false → d.registers ≡ put c.registers to v → Stays c (goes_on d)
by_put c d to v e is = stays_on d (record {
  slots = put_base c.registers to Rsp v e refl ∙ ap (λ (x : Registers). x Rsp) (sym is);
  context = put_base c.registers to R15 v e refl ∙ ap (λ (x : Registers). x R15) (sym is);
})

by_none : (c d : Core) → d.registers ≡ c.registers → Stays c (goes_on d)
by_none c d is = stays_on d (record { slots = ap (λ (x : Registers). x Rsp) (sym is); context = ap (λ (x : Registers). x R15) (sym is) })

by_none_of : (c d : Core) → d.registers Rsp ≡ c.registers Rsp → d.registers R15 ≡ c.registers R15 → Stays c (goes_on d)
by_none_of c d slots context = stays_on d (record { slots = sym slots; context = sym context })

by_value : (c : Core) (o : Option ℕ) (g : ℕ → Effect) → ((v : ℕ) → Stays c (g v)) → Stays c (by o g)
by_value c None g h = stays_out
by_value c (Some v) g h = h v

by_condition : (c : Core) (o : Option Bool) (one other : Effect) → Stays c one → Stays c other → Stays c (if_holds o one other)
by_condition c None one other h g = stays_out
by_condition c (Some true) one other h g = h
by_condition c (Some false) one other h g = g

by_test : (c : Core) (t : Bool) (one : Effect) → Stays c one → Stays c (cond t one faults)
by_test c true one h = h
by_test c false one h = stays_out

by_written : (c : Core) (t : Bool) (to : Register) (v : ℕ) (flags : Flags) → is_base to ≡ false → Stays c (goes_on (with_result_if t c to v flags))
by_written c true to v flags e = by_put c (with_result_if true c to v flags) to v e refl
by_written c false to v flags e = by_none c (with_result_if false c to v flags) refl

by_division : (c : Core) (sign : Bool) (n high lowest divisor : ℕ) → Stays c (divide sign n high lowest divisor c)
by_division c sign n high lowest divisor = by_sign sign
  where
    quotient : (q r : ℕ) → Stays c (divided c q r)
    quotient q r = by_none_of c (record { registers = put (put c.registers Rax q) Rdx r; flags = unknown; memory = c.memory }) refl refl

    turned : (t : Bool) (e : Effect) → Stays c e → Stays c (cond t faults e)
    turned true e h = stays_out
    turned false e h = h

    by_sign : (s : Bool) → Stays c (divide s n high lowest divisor c)
    by_sign false = turned (eqb divisor 0) _ (by_test c (ltb ((high * 2 ^ n + lowest) / divisor) (2 ^ n)) _ (quotient ((high * 2 ^ n + lowest) / divisor) ((high * 2 ^ n + lowest) % divisor)))
    by_sign true = turned (eqb divisor 0) _ (turned (overflows n (int_div (signed (2 * n) (high * 2 ^ n + lowest)) (signed n divisor))) _ (quotient _ _))

module _ (areas : Areas) (c : Core) where
  leaves_stays : (i : Instruction) → leaves i ≡ true → Stays c (effect areas i c)
  leaves_stays (Mov size to from) e = by_value c (read areas (bytes_in size) from c) _ (λ v. by_put c _ to v (not_true (is_base to) e) refl)
  leaves_stays (Store width to from) e = by_test c (is_allowed areas (address_in c.registers to) (width_of width)) _ (by_none c _ refl)
  leaves_stays (Constant to value) e = by_put c _ to value (not_true (is_base to) e) refl
  leaves_stays (Extend how size to from) e = by_value c (read areas (extended_bytes how) from c) _ (λ v. by_put c _ to _ (not_true (is_base to) e) refl)
  leaves_stays (Alu op size to from) e = by_value c (read areas (bytes_in size) from c) _ (λ v. by_written c (alu_writes op) to _ _ (not_true (is_base to) e))
  leaves_stays (Test size one other) e = by_none c _ refl
  leaves_stays (Imul size to from) e = by_value c (read areas (bytes_in size) from c) _ (λ v. by_put c _ to _ (not_true (is_base to) e) refl)
  leaves_stays (Rotate op size to) e = by_put c _ to _ (not_true (is_base to) e) refl
  leaves_stays (Count op size to from) e = by_value c (read areas (bytes_in size) from c) _ (λ v. by_put c _ to _ (not_true (is_base to) e) refl)
  leaves_stays (SetIf condition to) e = by_condition c (holds condition c.flags) _ _ (by_put c _ to _ (not_true (is_base to) e) refl) (by_put c _ to _ (not_true (is_base to) e) refl)
  leaves_stays (MoveIf condition size to from) e =
      by_value c (read areas (bytes_in size) from c) _ (λ v. by_condition c (holds condition c.flags) _ _ (by_put c _ to _ (not_true (is_base to) e) refl) (by_put c _ to _ (not_true (is_base to) e) refl))
  leaves_stays (FillSign size) e = by_put c _ Rdx _ refl refl
  leaves_stays (Divide sign size divisor) e = by_division c sign _ _ _ _
  leaves_stays Lfence e = by_none c _ refl
  leaves_stays (Jump to) e = cc
  leaves_stays (JumpIf condition to) e = cc
  leaves_stays (Call to) e = cc
  leaves_stays Ret e = cc

steady_leaves : (i : Instruction) → is_steady i ≡ true → leaves i ≡ true
steady_leaves (Mov size to from) e = first_of (not (is_base to)) (is_steady_place from) e
steady_leaves (Store width to from) e = refl
steady_leaves (Constant to value) e = e
steady_leaves (Extend how size to from) e = first_of (not (is_base to)) (is_steady_place from) e
steady_leaves (Alu op size to from) e = first_of (not (is_base to)) (is_steady_place from) e
steady_leaves (Test size one other) e = refl
steady_leaves (Imul size to from) e = first_of (not (is_base to)) (is_steady_place from) e
steady_leaves (Rotate op size to) e = e
steady_leaves (Count op size to from) e = first_of (not (is_base to)) (is_steady_place from) e
steady_leaves (SetIf condition to) e = e
steady_leaves (MoveIf condition size to from) e = first_of (not (is_base to)) (is_steady_place from) e
steady_leaves (FillSign size) e = refl
steady_leaves (Divide sign size divisor) e = refl
steady_leaves Lfence e = refl
steady_leaves (Jump to) e = e
steady_leaves (JumpIf condition to) e = e
steady_leaves (Call to) e = e
steady_leaves Ret e = e

-- ---- two runs

both_same : (c d a b : Core) → SameBases c d → SameBases c a → SameBases d b → SameBases a b
both_same c d a b h g k = record { slots = sym g.slots ∙ h.slots ∙ k.slots; context = sym g.context ∙ h.context ∙ k.context }

-- an instruction that shows the same, and what stands behind it
pub shows_one : (areas : Areas) (i : Instruction) (xs : List Instruction) (c d : Core) → leaves i ≡ true → shown i c ≡ shown i d → SameBases c d
    → ((a b : Core) → SameBases a b → Ends (runs areas xs a) → Ends (runs areas xs b) → shows areas xs a ≡ shows areas xs b)
    → Ends (runs areas (i ∷ xs) c) → Ends (runs areas (i ∷ xs) d) → shows areas (i ∷ xs) c ≡ shows areas (i ∷ xs) d
shows_one areas i xs c d l same h more p q =
    ap₂ (λ (x y : List Observation). x ++ y) same (by_effects (effect areas i c) (effect areas i d) (leaves_stays areas c i l) (leaves_stays areas d i l) p q)
  where
    by_effects : (x y : Effect) → Stays c x → Stays d y → Ends (next x (runs areas xs)) → Ends (next y (runs areas xs))
        → next_shown x (shows areas xs) ≡ next_shown y (shows areas xs)
    by_effects (goes_on a) (goes_on b) (stays_on _ g) (stays_on _ k) u v = more a b (both_same c d a b h g k) u v
    by_effects (goes_on a) (jumps to b) g k u v = elim k [ ]
    by_effects (goes_on a) (calls to b) g k u v = elim k [ ]
    by_effects (goes_on a) (returns address b) g k u v = elim k [ ]
    by_effects (jumps to a) y g k u v = elim g [ ]
    by_effects (calls to a) y g k u v = elim g [ ]
    by_effects (returns address a) y g k u v = elim g [ ]
    by_effects faults y g k u v = absurd u
    by_effects (goes_on a) faults g k u v = absurd v

pub shows_same : (areas : Areas) (xs : List Instruction) (c d : Core) → AreSteady xs → SameBases c d → Ends (runs areas xs c) → Ends (runs areas xs d) → shows areas xs c ≡ shows areas xs d
shows_same areas [] c d e h p q = refl
shows_same areas (i ∷ xs) c d e h p q =
    shows_one areas i xs c d (steady_leaves i e.0) (shown_same i c d e.0 h) h (λ a b k u v. shows_same areas xs a b e.1 k u v) p q

-- ---- templates are steady

free_base : (r : Register) → IsTrue (is_free r) → not (is_base r) ≡ true
free_base Rsp h = cc
free_base R15 h = cc
free_base r h = refl

place_steady : (l : Location) → is_steady_place (place_of l) ≡ true
place_steady (InRegister r) = refl
place_steady (Slot at) = refl
place_steady (Context at) = refl

write_steady : (l : Location) → IsWritable l → is_steady (write l) ≡ true
write_steady (InRegister r) h = both_of (not (is_base r)) true (free_base r h) refl
write_steady (Slot at) h = refl
write_steady (Context at) h = refl

pub finish_steady : (protect : Bool) (l : Location) → IsWritable l → AreSteady (finish protect l)
finish_steady true l h = (write_steady l h, (refl, tt))
finish_steady false l h = (write_steady l h, tt)

pub load_steady : (size : Size) (to : Register) (source : Source) → not (is_base to) ≡ true → is_steady (load size to source) ≡ true
load_steady size to (At l) h = both_of (not (is_base to)) (is_steady_place (place_of l)) h (place_steady l)
load_steady Long to (Number number) h = h
load_steady Quad to (Number number) h = h

append_steady : (xs ys : List Instruction) → AreSteady xs → AreSteady ys → AreSteady (xs ++ ys)
append_steady [] ys h g = g
append_steady (i ∷ xs) ys h g = (h.0, append_steady xs ys h.1 g)

reach_steady : (source : Source) → AreSteady (load_reach source)
reach_steady (At l) = (place_steady l, (refl, (refl, tt)))
reach_steady (Number number) = (refl, tt)

value_steady : (s : Shape) (a b c : Source) → divides s ≡ false → AreSteady (value s a b c)
value_steady (shape.Alu op size) a b c h = (load_steady size Rax a refl, (load_steady size Rcx b refl, (refl, tt)))
value_steady (shape.Multiply size) a b c h = (load_steady size Rax a refl, (load_steady size Rcx b refl, (refl, tt)))
value_steady (shape.Rotate op size) a b c h = (load_steady size Rax a refl, (load_steady size Rcx b refl, (refl, tt)))
value_steady (shape.Compare condition size) a b c h = (load_steady size Rax a refl, (load_steady size Rcx b refl, (refl, (refl, (refl, tt)))))
value_steady (shape.IsZero size) a b c h = (load_steady size Rax a refl, (refl, (refl, (refl, tt))))
value_steady (shape.Count op size) a b c h = (load_steady size Rax a refl, (refl, tt))
value_steady (shape.Extend how size) a b c h = (load_steady Quad Rax a refl, (refl, tt))
value_steady (shape.Same size) a b c h = (load_steady size Rax a refl, tt)
value_steady shape.Select a b c h = (load_steady Quad Rax a refl, (load_steady Quad Rcx b refl, (load_steady Long Rdx c refl, (refl, (refl, tt)))))
value_steady shape.Outside a b c h =
    append_steady (load_reach c) (after_reach a b) (reach_steady c)
    (load_steady Long Rax a refl, (refl, (load_steady Long Rcx b refl, (refl, (refl, (refl, (refl, (refl, tt))))))))
value_steady (shape.Divide sign rest size) a b c h = cc

not_divides : (o : Op) → is_division o ≡ false → divides (shape_of o) ≡ false
not_divides op.I32DivS h = cc
not_divides op.I32DivU h = cc
not_divides op.I32RemS h = cc
not_divides op.I32RemU h = cc
not_divides op.I64DivS h = cc
not_divides op.I64DivU h = cc
not_divides op.I64RemS h = cc
not_divides op.I64RemU h = cc
not_divides o h = refl

pub set_steady : (protect : Bool) (op : Op) (to : Location) (a b c : Source) → is_division op ≡ false → IsWritable to → AreSteady (set_template protect op to a b c)
set_steady protect op to a b c plain h =
    append_steady (value (shape_of op) a b c) (finish protect to) (value_steady (shape_of op) a b c (not_divides op plain)) (finish_steady protect to h)

-- ---- templates are short

reach_short : (source : Source) → length (load_reach source) ≤ 3
reach_short (At l) = omega arith
reach_short (Number number) = omega arith

finish_short : (protect : Bool) (to : Location) → length (finish protect to) ≤ 2
finish_short true to = omega arith
finish_short false to = omega arith

value_short : (s : Shape) (a b c : Source) → length (value s a b c) + 2 ≤ most_of s
value_short shape.Outside a b c = omega (arith, length-append (load_reach c) (after_reach a b), reach_short c)
value_short (shape.Divide false false Long) a b c = omega arith
value_short (shape.Divide false false Quad) a b c = omega arith
value_short (shape.Divide false true Long) a b c = omega arith
value_short (shape.Divide false true Quad) a b c = omega arith
value_short (shape.Divide true false Long) a b c = omega arith
value_short (shape.Divide true false Quad) a b c = omega arith
value_short (shape.Divide true true Long) a b c = omega arith
value_short (shape.Divide true true Quad) a b c = omega arith
value_short (shape.Alu op size) a b c = omega arith
value_short s a b c = omega arith

pub set_short : (protect : Bool) (op : Op) (to : Location) (a b c : Source) → length (set_template protect op to a b c) ≤ most_of (shape_of op)
set_short protect op to a b c =
    omega (arith, length-append (value (shape_of op) a b c) (finish protect to), value_short (shape_of op) a b c, finish_short protect to)

pub set_shows : (protect : Bool) (op : Op) (to : Location) (a b e : Source) → is_division op ≡ false → IsWritable to → (areas : Areas) (c d : Core) → SameBases c d
    → Ends (runs areas (set_template protect op to a b e) c) → Ends (runs areas (set_template protect op to a b e) d)
    → shows areas (set_template protect op to a b e) c ≡ shows areas (set_template protect op to a b e) d
set_shows protect op to a b e plain h areas c d same p q = shows_same areas (set_template protect op to a b e) c d (set_steady protect op to a b e plain h) same p q
