-- What is laid out inside a construct is laid out behind its end, and in its second part.
use Rattle.std.proofs.Common.{◌≡◌, ℕ, zero, suc, ◌+◌, ◌≤◌, Bool, true, false, List, [], ◌∷◌, ◌++◌, length, take, drop, reverse, refl, sym, ap, ◌∙◌, subst, arith}
use Rattle.bl_wasm.specs.declared.instruction.Instr.{Instr}
use Rattle.bl_wasm.specs.declared.instruction.Instr.TheVariants.{Unreachable, Block, Loop, If, Else, End, Br, BrTable, Return, Integer}
use Rattle.std.specs.Prelude.{if◌then◌else◌, unwrap_or}
use Rattle.bl_wasm.specs.OpenConstructs.{Kind as NestKind, of_block, of_loop, then_part, else_part, Construct, construct, behind_else, open_behind}
use Rattle.bl_reduce.specs.Control.{items_behind_end, items_of_else}
use Rattle.bl_lower.proofs.CodeLayout.{Code, live, dead, second_of, IsLaidOut, EndsAt, SecondAt, params_of, arity_of, operands_of}
use Rattle.bl_lower.proofs.Machine.{Program}
use Rattle.bl_emit.specs.Constructs.{Kind, whole, again, part, Target, as_whole, Point, point, behind, inside, reads, mark_of}
use Rattle.bl_emit.specs.Items.{check_of, check_new, after}
use Rattle.bl_emit.proofs.Lists.{shift_is}

not_none : (inner : List Target) (t : Target) (open_ones : List Target) → inner ++ t ∷ open_ones ≡ [] → ⊥
not_none [] t open_ones e = cc e
not_none (x ∷ inner) t open_ones e = cc e

-- the first free variable, and how many dead constructs are open
abbrev pub next_of : Code → ℕ
next_of (live p) = p.next
next_of (dead depth next) = next

-- the constructs that are open in the flat list, where so many are open in the live part
abbrev pub depth_of : Code → ℕ → ℕ
depth_of (live p) k = k
depth_of (dead zero next) k = k
depth_of (dead (suc depth) next) k = suc (depth_of (dead depth next) k)

-- ---- the parts of a construct, by how many constructs are open within

-- what stands behind the end of the construct that is the innermost but so many; or the second part of an if with its end, from
-- inside its first part
abbrev pub found : ℕ → Bool → List Instr → List Instr
found depth second [] = []
found depth second (Block r ∷ items) = found (suc depth) second items
found depth second (Loop r ∷ items) = found (suc depth) second items
found depth second (If r ∷ items) = found (suc depth) second items
found zero true (Else ∷ items) = items
found zero true (End ∷ items) = End ∷ items
found zero false (End ∷ items) = items
found (suc depth) second (End ∷ items) = found depth second items
found depth second (item ∷ items) = found depth second items

-- behind an `else` as many are open
as_many : (inner : List Construct) → length (unwrap_or (open_behind Else inner) inner) ≡ length inner
as_many [] = refl
as_many (x ∷ inner) = by_kind x.kind
  where
    by_kind : (kind : NestKind) → length (unwrap_or (behind_else (construct kind x.type ∷ inner)) (construct kind x.type ∷ inner)) ≡ suc (length inner)
    by_kind of_block = refl
    by_kind of_loop = refl
    by_kind then_part = refl
    by_kind else_part = refl

found_is : (second : Bool) (items : List Instr) (inner : List Construct) → (if second then items_of_else inner items else items_behind_end inner items) ≡ found (length inner) second items
found_is true [] inner = refl
found_is false [] inner = refl
found_is second (Block r ∷ items) [] = found_is second items (construct of_block r ∷ [])
found_is second (Block r ∷ items) (x ∷ inner) = found_is second items (construct of_block r ∷ x ∷ inner)
found_is second (Loop r ∷ items) [] = found_is second items (construct of_loop r ∷ [])
found_is second (Loop r ∷ items) (x ∷ inner) = found_is second items (construct of_loop r ∷ x ∷ inner)
found_is second (If r ∷ items) [] = found_is second items (construct then_part r ∷ [])
found_is second (If r ∷ items) (x ∷ inner) = found_is second items (construct then_part r ∷ x ∷ inner)
found_is true (Else ∷ items) [] = refl
found_is false (Else ∷ items) [] = found_is false items []
found_is second (Else ∷ items) (x ∷ inner) = found_is second items (unwrap_or (open_behind Else (x ∷ inner)) (x ∷ inner)) ∙ ap (λ n. found n second items) (as_many (x ∷ inner))
found_is true (End ∷ items) [] = refl
found_is false (End ∷ items) [] = refl
found_is second (End ∷ items) (x ∷ inner) = found_is second items inner
found_is second (item ∷ items) [] = found_is second items []
found_is second (item ∷ items) (x ∷ inner) = found_is second items (x ∷ inner)

module _ (program : Program) (bound number : ℕ) where
  next_grows : (open_ones : List Target) (item : Instr) (p : Point) → p.next ≤ (after program.shape number open_ones item p).next
  next_grows open_ones item p = elim item as (λ item. p.next ≤ (after program.shape number open_ones item p).next) [
    | Integer o ↦ omega (arith, shift_is (check_new (check_of o)) p.next)
    | _ ↦ omega arith
  ]

  abbrev LaidHere : List Target → Code → List Instr → Type 0
  LaidHere open_ones code rest = IsLaidOut program bound number open_ones code rest

  -- what is laid out from a free variable on that is a given one or a later one
  pub record Onward (Laid : ℕ → Type 0) (from : ℕ) : Type 0 where
    pub next : ℕ
    pub later : from ≤ next
    pub limit : next ≤ (program.shape number).limit
    pub laid : Laid next

  onward : (Laid : ℕ → Type 0) (from to : ℕ) → to ≤ from → Onward Laid from → Onward Laid to
  onward Laid from to le b = record { next = b.next; later = omega (arith, le, b.later); limit = b.limit; laid = b.laid }

  -- behind a construct, or its second part
  abbrev Laid : Bool → Target → List Target → List Instr → ℕ → Type 0
  Laid false t open_ones rest next = LaidHere open_ones (live (behind t next)) rest
  Laid true t open_ones rest next = LaidHere (as_whole t ∷ open_ones) (live (point (second_of t.kind) (operands_of t.kind) next)) rest

  abbrev pub Behind : Target → List Target → ℕ → List Instr → Type 0
  Behind t open_ones from rest = Onward (λ next. Laid false t open_ones rest next) from

  abbrev pub Second : Target → List Target → ℕ → List Instr → Type 0
  Second t open_ones from rest = Onward (λ next. Laid true t open_ones rest next) from

  abbrev pub IsPart : Kind → Type 0
  IsPart (part second operands) = Unit {0}
  IsPart kind = ⊥

  -- only an if has a second part
  abbrev HasThat : Bool → Target → Type 0
  HasThat false t = Unit {0}
  HasThat true t = IsPart t.kind

  -- an empty second part
  empty : (t : Target) → IsPart t.kind → (open_ones : List Target) (next : ℕ) (rest : List Instr) → next ≤ (program.shape number).limit → SecondAt program bound number t.kind (mark_of open_ones) t → LaidHere open_ones (live (behind t next)) rest
      → Second t open_ones next (End ∷ rest)
  empty t is open_ones next rest le h laid = record { limit = le; next = next; later = omega arith; laid = (filled t.kind is h, tt, laid) }
    where
      filled : (kind : Kind) → IsPart kind → SecondAt program bound number kind (mark_of open_ones) t → EndsAt program bound number (mark_of open_ones) (as_whole t) (second_of kind) (operands_of kind)
      filled (part other others) is h = h
      filled kind is h = absurd is

  walks : (second : Bool) (t : Target) → HasThat second t → (open_ones inner : List Target) (code : Code) (rest : List Instr) → next_of code ≤ (program.shape number).limit → LaidHere (inner ++ t ∷ open_ones) code rest
      → Onward (λ next. Laid second t open_ones (found (depth_of code (length inner)) second rest) next) (next_of code)
  walks second t is open_ones inner (live p) [] le h = absurd (not_none inner t open_ones h.0)
  walks second t is open_ones inner (live p) (Block r ∷ rest) le h =
      let n = params_of program bound number r in
      let m = arity_of program bound number r in
      onward _ (p.next + m) p.next (omega arith)
      (walks second t is open_ones (inside whole m h.0 (drop n p.stack) p.next ∷ inner) (live (point (suc p.position) (take n p.stack) (p.next + m))) rest h.3 h.4)
  walks second t is open_ones inner (live p) (Loop r ∷ rest) le h =
      let n = params_of program bound number r in
      let m = arity_of program bound number r in
      onward _ (h.1 + m) p.next (omega (arith, h.7))
      (walks second t is open_ones (inside (again h.2 n h.0) m h.3 (drop n p.stack) h.1 ∷ inner) (live (point (suc h.2) (reverse (reads h.0 n)) (h.1 + m))) rest h.9 h.10)
  walks second t is open_ones inner (live p) (If r ∷ rest) le h =
      let n = params_of program bound number r in
      let m = arity_of program bound number r in
      onward _ (p.next + m) p.next (omega arith)
      (walks second t is open_ones (inside (part h.1 (take n (drop 1 p.stack))) m h.0 (drop n (drop 1 p.stack)) p.next ∷ inner) (live (point (suc p.position) (take n (drop 1 p.stack)) (p.next + m))) rest h.4 h.5)
  walks true t is open_ones [] (live p) (Else ∷ rest) le h = record { next = p.next; later = omega arith; limit = le; laid = h.1 }
  walks false t is open_ones [] (live p) (Else ∷ rest) le h = walks false (as_whole t) is open_ones [] (live (point (second_of t.kind) (operands_of t.kind) p.next)) rest le h.1
  walks second t is open_ones (u ∷ inner) (live p) (Else ∷ rest) le h = walks second t is open_ones (as_whole u ∷ inner) (live (point (second_of u.kind) (operands_of u.kind) p.next)) rest le h.1
  walks true t is open_ones [] (live p) (End ∷ rest) le h = empty t is open_ones p.next rest le h.1 h.2
  walks false t is open_ones [] (live p) (End ∷ rest) le h = record { next = p.next; later = omega arith; limit = le; laid = h.2 }
  walks second t is open_ones (u ∷ inner) (live p) (End ∷ rest) le h = walks second t is open_ones inner (live (behind u p.next)) rest le h.2
  walks second t is open_ones inner (live p) (Br l ∷ rest) le h = walks second t is open_ones inner (dead 0 p.next) rest le h.1
  walks second t is open_ones inner (live p) (BrTable default ls ∷ rest) le h =
      onward _ (p.next + length ls) p.next (omega arith) (walks second t is open_ones inner (dead 0 (p.next + length ls)) rest h.1 h.2)
  walks second t is open_ones inner (live p) (Return ∷ rest) le h = walks second t is open_ones inner (dead 0 p.next) rest le h.1
  walks second t is open_ones inner (live p) (Unreachable ∷ rest) le h = walks second t is open_ones inner (dead 0 p.next) rest le h.1
  walks second t is open_ones inner (live p) (item ∷ rest) le h =
      let q = after program.shape number (inner ++ t ∷ open_ones) item p in
      onward _ q.next p.next (next_grows (inner ++ t ∷ open_ones) item p) (walks second t is open_ones inner (live q) rest h.1 h.2)
  walks second t is open_ones inner (dead depth next) [] le h = absurd (not_none inner t open_ones h)
  walks second t is open_ones inner (dead depth next) (Block r ∷ rest) le h = walks second t is open_ones inner (dead (suc depth) next) rest le h
  walks second t is open_ones inner (dead depth next) (Loop r ∷ rest) le h = walks second t is open_ones inner (dead (suc depth) next) rest le h
  walks second t is open_ones inner (dead depth next) (If r ∷ rest) le h = walks second t is open_ones inner (dead (suc depth) next) rest le h
  walks true t is open_ones [] (dead zero next) (Else ∷ rest) le h = record { next = next; later = omega arith; limit = le; laid = h }
  walks false t is open_ones [] (dead zero next) (Else ∷ rest) le h = walks false (as_whole t) is open_ones [] (live (point (second_of t.kind) (operands_of t.kind) next)) rest le h
  walks second t is open_ones (u ∷ inner) (dead zero next) (Else ∷ rest) le h = walks second t is open_ones (as_whole u ∷ inner) (live (point (second_of u.kind) (operands_of u.kind) next)) rest le h
  walks second t is open_ones inner (dead (suc depth) next) (Else ∷ rest) le h = walks second t is open_ones inner (dead (suc depth) next) rest le h
  walks true t is open_ones [] (dead zero next) (End ∷ rest) le h = empty t is open_ones next rest le h.0 h.1
  walks false t is open_ones [] (dead zero next) (End ∷ rest) le h = record { next = next; later = omega arith; limit = le; laid = h.1 }
  walks second t is open_ones (u ∷ inner) (dead zero next) (End ∷ rest) le h = walks second t is open_ones inner (live (behind u next)) rest le h.1
  walks second t is open_ones inner (dead (suc depth) next) (End ∷ rest) le h = walks second t is open_ones inner (dead depth next) rest le h
  walks second t is open_ones inner (dead depth next) (item ∷ rest) le h = walks second t is open_ones inner (dead depth next) rest le h

  -- the second part of the innermost construct, and its end
  pub seconds_here : (t : Target) → IsPart t.kind → (open_ones : List Target) (p : Point) (rest : List Instr) → p.next ≤ (program.shape number).limit → LaidHere (t ∷ open_ones) (live p) rest → Second t open_ones p.next (items_of_else [] rest)
  seconds_here t is open_ones p rest le h = subst (λ rest. Second t open_ones p.next rest) (sym (found_is true rest [])) (walks true t is open_ones [] (live p) rest le h)

  pub ends_here : (t : Target) (open_ones : List Target) (p : Point) (rest : List Instr) → p.next ≤ (program.shape number).limit → LaidHere (t ∷ open_ones) (live p) rest → Behind t open_ones p.next (items_behind_end [] rest)
  ends_here t open_ones p rest le h = subst (λ rest. Behind t open_ones p.next rest) (sym (found_is false rest [])) (walks false t tt open_ones [] (live p) rest le h)
