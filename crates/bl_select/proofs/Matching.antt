-- A Set does what its command does.
use Rattle.std.proofs.Common.{◌≡◌, ◌≢◌, ℕ, suc, ◌+◌, ◌*◌, ◌%◌, ◌^◌, ◌<◌, ◌≤◌, ◌⊎◌, Bool, true, false, ◌&&◌, IsTrue, cond, eqb, Some, [], ◌∷◌, ◌++◌, refl, sym, ap, ap₂, ◌∙◌, subst, arith, eq-eqb}
use Rattle.std.specs.Prelude.{nat_eq}
use Rattle.std.proofs.lemmas.Bool.{eqb-true, eqb-false}
use Rattle.bl_ops.specs.Numerics.{meaning}
use Rattle.bl_ops.specs.declared.op.Op.{Op}
use Rattle.bl_ops.specs.declared.op.Op.TheVariants as op
use Rattle.bl_ops.proofs.Fits.{meaning_fits, truth-below}
use Rattle.bl_program.specs.Steps.{Plain, written, held, depth, value_of}
use Rattle.bl_program.specs.declared.command.Operand.{Operand}
use Rattle.bl_program.specs.declared.command.Operand.TheVariants.{Var, Const}
use Rattle.bl_program.specs.declared.definitions.ProgramParts.{ProgramParts as Program}
use Rattle.bl_x64.specs.Machines.{Core}
use Rattle.bl_x64.specs.declared.register.Register.TheVariants.{Rsp, R14, R15}
use Rattle.bl_select.specs.Frames.{Frame, IsFrame, KeepsFrames, Placing, IsPlacing, Assigns, source_of, IsSource, Matches, held_at, IsLocation}
use Rattle.bl_select.specs.Shapes.{shape_of}
use Rattle.bl_select.specs.StraightRuns.{runs}
use Rattle.bl_select.specs.Templates.{value, finish, set_template}
use Rattle.bl_select.specs.declared.location.Source.TheVariants.{At}
use Rattle.bl_select.proofs.Keeping.{Keeps, HasBases, bases_kept, HasNumber, number_kept, runs_append}
use Rattle.bl_select.proofs.Shapes.{meaning_is}
use Rattle.bl_select.proofs.Values.{IsShape, value_comes}
use Rattle.bl_select.proofs.Writes.{after_write, finish_runs, frames_stay, held_here, held_other, fixed_stays, memory_stays, bytes_stay}

-- ---- operators

pub op_shape : (o : Op) → IsShape (shape_of o)
op_shape op.I32Add = refl
op_shape op.I32Sub = refl
op_shape op.I32And = refl
op_shape op.I32Or = refl
op_shape op.I32Xor = refl
op_shape op.I64Add = refl
op_shape op.I64Sub = refl
op_shape op.I64And = refl
op_shape op.I64Or = refl
op_shape op.I64Xor = refl
op_shape o = tt

pub meaning_below : (o : Op) (a b c : ℕ) → a < 2 ^ 64 → b < 2 ^ 64 → meaning o a b c < 2 ^ 64
unfolding meaning
meaning_below op.Move a b c p q = p
meaning_below op.Select a b c p q = by_test (eqb (c % 2 ^ 32) 0)
  where
    by_test : (t : Bool) → cond t b a < 2 ^ 64
    by_test true = q
    by_test false = p
meaning_below op.Outside a b c p q = truth-below 64 _ (omega arith)
meaning_below o a b c p q = omega (arith, meaning_fits o a b c p q)

-- ---- operands

module _ (program : Program) (f : Frame) (p : Placing) (s : Plain) (c : Core) (ok : IsFrame f) (placing : IsPlacing f p) (m : Matches program f p s c) where
  pub bases : HasBases f c
  bases = record { frame = ok; slots = m.slots; context = m.context; bytes = m.bytes }

  pub source_is : (operand : Operand) → IsSource p operand → HasNumber f c (source_of p operand) (value_of program operand s)
  source_is (Var x) h = (placing.locations x.0 h, m.variables x.0 h)
  source_is (Const number) h = refl

  pub source_fits : (operand : Operand) → IsSource p operand → value_of program operand s < 2 ^ 64
  source_fits (Var x) h = m.fits x.0 h
  source_fits (Const number) h = h

  -- a variable that is written: the machine matches where the plain run has the number
  module _ (q : Placing) (x v : ℕ) (d : Core) (k : Keeps c d) (behind : IsPlacing f q) (assigns : Assigns p q x) (fits : v < 2 ^ 64) where
    abbrev then_plain : Plain
    then_plain = record s { position = suc s.position; registers = written s.registers (held program (depth s) x) x v }

    abbrev then_core : Core
    then_core = after_write f d (q.location x) v

    location : IsLocation f (q.location x)
    location = behind.locations x assigns.here

    here_is : held_at f then_core (q.location x) ≡ written s.registers (held program (depth s) x) x v (held program (depth s) x) x
    here_is = held_here f d (q.location x) v fits ∙ sym (ap₂ (λ t u. cond (t && u) v (s.registers (held program (depth s) x) x)) (eq-eqb (held program (depth s) x) (held program (depth s) x) refl) (eq-eqb x x refl))

    other_is : (y : ℕ) → IsTrue (q.alive y) → y ≢ x → (other : nat_eq y x ≡ false) → written s.registers (held program (depth s) x) x v (held program (depth s) y) y ≡ s.registers (held program (depth s) y) y
    other_is y h ne other = ap (λ t. cond (nat_eq (held program (depth s) y) (held program (depth s) x) && t) v (s.registers (held program (depth s) y) y)) other ∙ by_test (nat_eq (held program (depth s) y) (held program (depth s) x))
      where
        by_test : (t : Bool) → cond (t && false) v (s.registers (held program (depth s) y) y) ≡ s.registers (held program (depth s) y) y
        by_test true = refl
        by_test false = refl

    others_held : (y : ℕ) → IsTrue (q.alive y) → y ≢ x → held_at f then_core (q.location y) ≡ s.registers (held program (depth s) y) y
    others_held y h ne =
        let was = assigns.others y h ne in
        let kept = number_kept f c d (At (p.location y)) (s.registers (held program (depth s) y) y) k (placing.locations y was.0, m.variables y was.0) in
        held_other f d (q.location x) (q.location y) v ok location (behind.locations y h) (behind.apart x y assigns.here h (λ e. ne (sym e)))
        ∙ ap (held_at f d) was.1 ∙ kept.1

    variable_is : (y : ℕ) → IsTrue (q.alive y) → (t : Bool) → nat_eq y x ≡ t → held_at f then_core (q.location y) ≡ written s.registers (held program (depth s) x) x v (held program (depth s) y) y
    variable_is y h true e = let same : y ≡ x = eqb-true y x e in subst (λ z. held_at f then_core (q.location z) ≡ written s.registers (held program (depth s) x) x v (held program (depth s) z) z) (sym same) here_is
    variable_is y h false e = let ne : y ≢ x = eqb-false y x e in others_held y h ne ∙ sym (other_is y h ne e)

    variable_fits : (y : ℕ) → IsTrue (q.alive y) → (t : Bool) → nat_eq y x ≡ t → written s.registers (held program (depth s) x) x v (held program (depth s) y) y < 2 ^ 64
    variable_fits y h true e =
        let same : y ≡ x = eqb-true y x e in
        subst (λ z. written s.registers (held program (depth s) x) x v (held program (depth s) z) z < 2 ^ 64) (sym same) (omega (arith, sym here_is, held_here f d (q.location x) v fits))
    variable_fits y h false e =
        let ne : y ≢ x = eqb-false y x e in
        omega (arith, other_is y h ne e, m.fits y (assigns.others y h ne).0)

    pub matches_behind : Matches program f q then_plain then_core
    matches_behind = record {
      slots = fixed_stays f d (q.location x) v Rsp location refl ∙ k.registers Rsp refl ∙ m.slots;
      context = fixed_stays f d (q.location x) v R15 location refl ∙ k.registers R15 refl ∙ m.context;
      memory = fixed_stays f d (q.location x) v R14 location refl ∙ k.registers R14 refl ∙ m.memory;
      variables = λ y h. variable_is y h (nat_eq y x) refl;
      fits = λ y h. variable_fits y h (nat_eq y x) refl;
      space = λ place lt. memory_stays f d (q.location x) v place ok location (omega (arith, m.room)) ∙ ap (λ b. b (f.areas.memory.start + place)) k.memory ∙ m.space place lt;
      bytes = bytes_stay f d (q.location x) v (bases_kept f c d k bases).bytes;
      room = m.room;
    }

  -- ---- a Set

  pub set_runs : (q : Placing) (protect : Bool) (o : Op) (x : ℕ) (a b e : Operand) → IsPlacing f q → Assigns p q x
      → IsSource p a → IsSource p b → IsSource p e
      → (d : Core) × (runs f.areas (set_template protect o (q.location x) (source_of p a) (source_of p b) (source_of p e)) c ≡ Some d)
      × Matches program f q (record s { position = suc s.position; registers = written s.registers (held program (depth s) x) x (meaning o (value_of program a s) (value_of program b s) (value_of program e s)) }) d
      × KeepsFrames f c d
  set_runs q protect o x a b e behind assigns a_ok b_ok e_ok =
      let v = meaning o (value_of program a s) (value_of program b s) (value_of program e s) in
      let fits = meaning_below o (value_of program a s) (value_of program b s) (value_of program e s) (source_fits a a_ok) (source_fits b b_ok) in
      let comes = value_comes (shape_of o) f c (source_of p a) (source_of p b) (source_of p e) (value_of program a s) (value_of program b s) (value_of program e s)
      (op_shape o) bases (source_is a a_ok) (source_is b b_ok) (source_is e e_ok) (source_fits a a_ok) (source_fits b b_ok) (source_fits e e_ok) in
      let is = comes.value ∙ sym (meaning_is o (value_of program a s) (value_of program b s) (value_of program e s)) in
      let d = comes.core in (
        after_write f d (q.location x) v,
        runs_append f.areas (value (shape_of o) (source_of p a) (source_of p b) (source_of p e)) (finish protect (q.location x)) c d comes.run
            ∙ finish_runs f d (q.location x) v protect (bases_kept f c d comes.keeps bases) (behind.locations x assigns.here) is fits,
        matches_behind q x v d comes.keeps behind assigns fits,
        λ address above below. frames_stay f d (q.location x) v ok (behind.locations x assigns.here) address above below ∙ ap (λ b. b address) comes.keeps.memory,
      )
