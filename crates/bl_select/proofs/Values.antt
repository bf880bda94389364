-- The value of a shape comes to RAX.
use Rattle.std.proofs.Common.{◌≡◌, ℕ, ◌+◌, ◌-◌, ◌*◌, ◌/◌, ◌%◌, ◌^◌, ◌<◌, ◌≤◌, Bool, true, false, not, cond, eqb, ltb, List, [], ◌∷◌, ◌++◌, Option, Some, refl, ap, ap₂, ◌∙◌, arith, mod-eq_of_lt, mod-lt}
use Rattle.std.specs.Int.Bits.{and_self}
use Rattle.std.proofs.lemmas.Nat.{and_mask}
use Rattle.bl_ops.specs.Integer.{truth, iand}
use Rattle.bl_ops.proofs.Bits.{iand_is}
use Rattle.bl_x64.specs.Registers.{Registers, bits_of, bytes_in, put_byte}
use Rattle.bl_x64.specs.Operations.{Flags, alu_result, alu_flags, alu_writes, imul_result, imul_flags, rotation_result, rotation_flags, count_result, count_flags, extended_bytes, extension_result, holds}
use Rattle.bl_x64.specs.Machines.{Areas, Core, goes_on, if_holds, with_register, with_result, with_result_if}
use Rattle.bl_x64.specs.declared.register.Register.TheVariants.{Rax, Rcx, Rdx}
use Rattle.bl_x64.specs.declared.instruction.Size.{Size}
use Rattle.bl_x64.specs.declared.instruction.Size.TheVariants.{Long, Quad}
use Rattle.bl_x64.specs.declared.instruction.Alu.{Alu as Operation}
use Rattle.bl_x64.specs.declared.instruction.Alu.TheVariants as alu
use Rattle.bl_x64.specs.declared.instruction.Rotation.{Rotation}
use Rattle.bl_x64.specs.declared.instruction.Count.{Count as Counting}
use Rattle.bl_x64.specs.declared.instruction.Extension.{Extension}
use Rattle.bl_x64.specs.declared.instruction.Extension.TheVariants as extension
use Rattle.bl_x64.specs.declared.instruction.Condition.{Condition}
use Rattle.bl_x64.specs.declared.instruction.Condition.TheVariants.{Below, Equal}
use Rattle.bl_x64.specs.declared.instruction.Instruction.{Instruction}
use Rattle.bl_x64.specs.declared.instruction.Instruction.TheVariants as i
use Rattle.bl_select.specs.Frames.{Frame}
use Rattle.bl_select.specs.StraightRuns.{runs}
use Rattle.bl_select.specs.Templates.{in_register, load, load_reach, value}
use Rattle.bl_select.specs.Shapes.{at_size, compares, value_of}
use Rattle.bl_select.specs.declared.location.Shape.{Shape}
use Rattle.bl_select.specs.declared.location.Shape.TheVariants.{Alu, Multiply, Rotate, Compare, IsZero, Count, Extend, Same, Select, Outside, Divide}
use Rattle.bl_select.specs.declared.location.Source.{Source}
use Rattle.bl_select.specs.declared.location.Source.TheVariants.{At, Number}
use Rattle.bl_select.proofs.Conditions.{holds_is}
use Rattle.bl_select.proofs.Divisions.{divide_comes}
use Rattle.bl_select.proofs.Keeping.{Comes, Keeps, keeps_all, keeps_put, keeps_same, HasBases, bases_kept, HasNumber, number_kept, load_is, runs_next, runs_append}
use Rattle.bl_select.proofs.Shapes.{count_low, size_below}

-- what is read of a register that has an operand
low_is : (size : Size) (v : ℕ) → v < 2 ^ 64 → at_size size v % 2 ^ bits_of size ≡ at_size size v
low_is size v h = mod-eq_of_lt (size_below size v h)

place_low : (size : Size) (v : ℕ) → v < 2 ^ 64 → at_size size v % 2 ^ (8 * bytes_in size) ≡ at_size size v
place_low Long v h = mod-eq_of_lt (size_below Long v h)
place_low Quad v h = mod-eq_of_lt h

-- a number whose bits are all its own
pub and_same : (size : Size) (v : ℕ) → v < 2 ^ 64 → eqb (iand (bits_of size) (at_size size v) (at_size size v)) 0 ≡ eqb (at_size size v) 0
and_same size v h = ap (λ x. eqb x 0) (iand_is (bits_of size) (at_size size v) (at_size size v) (size_below size v h) (size_below size v h) ∙ and_self (at_size size v))

module _ (f : Frame) (c : Core) (a b : Source) (va vb : ℕ) (bases : HasBases f c)
    (a_is : HasNumber f c a va) (b_is : HasNumber f c b vb) (a_fits : va < 2 ^ 64) (b_fits : vb < 2 ^ 64) where
  abbrev with_one : Size → Core
  with_one size = with_register c Rax (at_size size va)

  abbrev with_two : Size → Core
  with_two size = with_register (with_one size) Rcx (at_size size vb)

  keeps_one : (size : Size) → Keeps c (with_one size)
  keeps_one size = keeps_put c c (with_one size) Rax (at_size size va) refl refl refl (keeps_all c)

  keeps_two : (size : Size) → Keeps c (with_two size)
  keeps_two size = keeps_put c (with_one size) (with_two size) Rcx (at_size size vb) refl refl refl (keeps_one size)

  one_loaded : (size : Size) (rest : List Instruction) → runs f.areas (load size Rax a ∷ rest) c ≡ runs f.areas rest (with_one size)
  one_loaded size rest = runs_next f.areas (load size Rax a) rest c (with_one size) (load_is f c size Rax a va bases a_is a_fits)

  two_loaded : (size : Size) (rest : List Instruction) → runs f.areas (load size Rax a ∷ load size Rcx b ∷ rest) c ≡ runs f.areas rest (with_two size)
  two_loaded size rest =
      one_loaded size (load size Rcx b ∷ rest)
      ∙ runs_next f.areas (load size Rcx b) rest (with_one size) (with_two size)
      (load_is f (with_one size) size Rcx b vb (bases_kept f c (with_one size) (keeps_one size) bases) (number_kept f c (with_one size) b vb (keeps_one size) b_is) b_fits)

  -- ---- one operation

  alu_comes : (op : Operation) (size : Size) → alu_writes op ≡ true
      → Comes f.areas (load size Rax a ∷ load size Rcx b ∷ i.Alu op size Rax (in_register Rcx) ∷ []) c (alu_result op (bits_of size) (at_size size va) (at_size size vb))
  alu_comes op size h =
      let n = bits_of size in
      let x = at_size size va % 2 ^ n in
      let y = at_size size vb % 2 ^ (8 * bytes_in size) in
      let end = with_result (with_two size) Rax (alu_result op n x y) (alu_flags op n x y) in
      record {
        core = end;
        run = two_loaded size (i.Alu op size Rax (in_register Rcx) ∷ [])
            ∙ ap (λ t. Some (with_result_if t (with_two size) Rax (alu_result op n x y) (alu_flags op n x y))) h;
        value = ap₂ (alu_result op n) (low_is size va a_fits) (place_low size vb b_fits);
        keeps = keeps_put c (with_two size) end Rax (alu_result op n x y) refl refl refl (keeps_two size);
      }

  multiply_comes : (size : Size)
      → Comes f.areas (load size Rax a ∷ load size Rcx b ∷ i.Imul size Rax (in_register Rcx) ∷ []) c (imul_result (bits_of size) (at_size size va) (at_size size vb))
  multiply_comes size =
      let n = bits_of size in
      let x = at_size size va % 2 ^ n in
      let y = at_size size vb % 2 ^ (8 * bytes_in size) in
      let end = with_result (with_two size) Rax (imul_result n x y) (imul_flags n x y) in
      record {
        core = end;
        run = two_loaded size (i.Imul size Rax (in_register Rcx) ∷ []);
        value = ap₂ (imul_result n) (low_is size va a_fits) (place_low size vb b_fits);
        keeps = keeps_put c (with_two size) end Rax (imul_result n x y) refl refl refl (keeps_two size);
      }

  rotate_comes : (op : Rotation) (size : Size)
      → Comes f.areas (load size Rax a ∷ load size Rcx b ∷ i.Rotate op size Rax ∷ []) c (rotation_result op (bits_of size) (at_size size va) (at_size size vb))
  rotate_comes op size =
      let n = bits_of size in
      let x = at_size size va % 2 ^ n in
      let count = at_size size vb % 2 ^ 8 in
      let end = with_result (with_two size) Rax (rotation_result op n x count) (rotation_flags op n x count c.flags) in
      record {
        core = end;
        run = two_loaded size (i.Rotate op size Rax ∷ []);
        value = ap (λ k. rotation_result op n k count) (low_is size va a_fits) ∙ count_low op size (at_size size va) (at_size size vb);
        keeps = keeps_put c (with_two size) end Rax (rotation_result op n x count) refl refl refl (keeps_two size);
      }

  count_comes : (op : Counting) (size : Size) → Comes f.areas (load size Rax a ∷ i.Count op size Rax (in_register Rax) ∷ []) c (count_result op (bits_of size) (at_size size va))
  count_comes op size =
      let n = bits_of size in
      let x = at_size size va % 2 ^ (8 * bytes_in size) in
      let end = with_result (with_one size) Rax (count_result op n x) (count_flags op n x) in
      record {
        core = end;
        run = one_loaded size (i.Count op size Rax (in_register Rax) ∷ []);
        value = ap (count_result op n) (place_low size va a_fits);
        keeps = keeps_put c (with_one size) end Rax (count_result op n x) refl refl refl (keeps_one size);
      }

  extend_comes : (how : Extension) (size : Size)
      → Comes f.areas (load Quad Rax a ∷ i.Extend how size Rax (in_register Rax) ∷ []) c (extension_result how (bits_of size) (va % 2 ^ (8 * extended_bytes how)))
  extend_comes how size =
      let result = extension_result how (bits_of size) (va % 2 ^ (8 * extended_bytes how)) in
      let end = with_register (with_one Quad) Rax result in
      record {
        core = end;
        run = one_loaded Quad (i.Extend how size Rax (in_register Rax) ∷ []);
        value = refl;
        keeps = keeps_put c (with_one Quad) end Rax result refl refl refl (keeps_one Quad);
      }

  same_comes : (size : Size) → Comes f.areas (load size Rax a ∷ []) c (at_size size va)
  same_comes size = record { core = with_one size; run = one_loaded size []; value = refl; keeps = keeps_one size }

  -- ---- 1 or 0

  truth_small : (t : Bool) (x : ℕ) → (x - x % 2 ^ 8 + truth t) % 2 ^ 8 ≡ truth t
  truth_small true x = omega arith
  truth_small false x = omega arith

  set_is : (o : Option Bool) (t : Bool) (registers : Registers) (flags : Flags) (memory : ℕ → ℕ) → o ≡ Some t
      → if_holds o (goes_on (record { registers = put_byte registers Rax 1; flags = flags; memory = memory })) (goes_on (record { registers = put_byte registers Rax 0; flags = flags; memory = memory }))
      ≡ goes_on (record { registers = put_byte registers Rax (truth t); flags = flags; memory = memory })
  set_is o t registers flags memory e = ap (λ x. if_holds x (goes_on (record { registers = put_byte registers Rax 1; flags = flags; memory = memory })) (goes_on (record { registers = put_byte registers Rax 0; flags = flags; memory = memory }))) e ∙ by_test t
    where
      by_test : (s : Bool) → if_holds (Some s) (goes_on (record { registers = put_byte registers Rax 1; flags = flags; memory = memory })) (goes_on (record { registers = put_byte registers Rax 0; flags = flags; memory = memory }))
          ≡ goes_on (record { registers = put_byte registers Rax (truth s); flags = flags; memory = memory })
      by_test true = refl
      by_test false = refl

  -- from flags at which a condition holds, or not
  truth_comes : (condition : Condition) (t : Bool) (d : Core) → Keeps c d → holds condition d.flags ≡ Some t
      → Comes f.areas (i.SetIf condition Rax ∷ i.Extend extension.Zero8 Long Rax (in_register Rax) ∷ []) d (truth t)
  truth_comes condition t d k h =
      let last = i.Extend extension.Zero8 Long Rax (in_register Rax) in
      let middle = record d { registers = put_byte d.registers Rax (truth t) } in
      let number = (d.registers Rax - d.registers Rax % 2 ^ 8 + truth t) % 2 ^ 8 in
      let end = with_register middle Rax number in
      record {
        core = end;
        run = runs_next f.areas (i.SetIf condition Rax) (last ∷ []) d middle (set_is (holds condition d.flags) t d.registers d.flags d.memory h);
        value = truth_small t (d.registers Rax);
        keeps = keeps_put d middle end Rax number refl refl refl (keeps_put d d middle Rax _ refl refl refl (keeps_all d));
      }

  then_comes : (xs ys : List Instruction) (d : Core) (v : ℕ) → runs f.areas xs c ≡ runs f.areas ys d → Keeps c d → Comes f.areas ys d v → Comes f.areas xs c v
  then_comes xs ys d v same k h = record {
    core = h.core;
    run = same ∙ h.run;
    value = h.value;
    keeps = record { memory = h.keeps.memory ∙ k.memory; registers = λ r g. h.keeps.registers r g ∙ k.registers r g };
  }

  compare_comes : (condition : Condition) (size : Size)
      → Comes f.areas (value (Compare condition size) a b a) c (truth (compares condition (bits_of size) (at_size size va) (at_size size vb)))
  compare_comes condition size =
      let n = bits_of size in
      let x = at_size size va % 2 ^ n in
      let y = at_size size vb % 2 ^ (8 * bytes_in size) in
      let rest = i.SetIf condition Rax ∷ i.Extend extension.Zero8 Long Rax (in_register Rax) ∷ [] in
      let middle = record (with_two size) { flags = alu_flags alu.Cmp n x y } in
      let k = keeps_same c (with_two size) middle refl refl (keeps_two size) in
      let told = ap₂ (λ p q. holds condition (alu_flags alu.Cmp n p q)) (low_is size va a_fits) (place_low size vb b_fits)
      ∙ holds_is condition size (at_size size va) (at_size size vb) (size_below size va a_fits) (size_below size vb b_fits) in
      then_comes (value (Compare condition size) a b a) rest middle _ (two_loaded size (i.Alu alu.Cmp size Rax (in_register Rcx) ∷ rest)) k
      (truth_comes condition (compares condition n (at_size size va) (at_size size vb)) middle k told)

  zero_comes : (size : Size) → Comes f.areas (value (IsZero size) a b a) c (truth (eqb (at_size size va) 0))
  zero_comes size =
      let n = bits_of size in
      let x = at_size size va % 2 ^ n in
      let rest = i.SetIf Equal Rax ∷ i.Extend extension.Zero8 Long Rax (in_register Rax) ∷ [] in
      let middle = record (with_one size) { flags = alu_flags alu.And n x x } in
      let k = keeps_same c (with_one size) middle refl refl (keeps_one size) in
      let told = ap₂ (λ p q. holds Equal (alu_flags alu.And n p q)) (low_is size va a_fits) (low_is size va a_fits) ∙ ap Some (and_same size va a_fits) in
      then_comes (value (IsZero size) a b a) rest middle _ (one_loaded size (i.Test size Rax Rax ∷ rest)) k
      (truth_comes Equal (eqb (at_size size va) 0) middle k told)

-- ---- the choice and the bounds test

choice : (o : Option Bool) (t : Bool) (m : Core) (x y : ℕ) → o ≡ Some t
    → if_holds o (goes_on (with_register m Rax x)) (goes_on (with_register m Rax y)) ≡ goes_on (with_register m Rax (cond t x y))
choice o t m x y e = ap (λ z. if_holds z (goes_on (with_register m Rax x)) (goes_on (with_register m Rax y))) e ∙ by_test t
  where
    by_test : (s : Bool) → if_holds (Some s) (goes_on (with_register m Rax x)) (goes_on (with_register m Rax y)) ≡ goes_on (with_register m Rax (cond s x y))
    by_test true = refl
    by_test false = refl

-- instructions run to a state that has a number in RDX
pub record Reaches (areas : Areas) (xs : List Instruction) (c : Core) (v : ℕ) : Type 0 where
  pub core : Core
  pub run : runs areas xs c ≡ Some core
  pub value : core.registers Rdx ≡ v
  pub keeps : Keeps c core

mask_is : (v : ℕ) → v < 2 ^ 64 → iand 64 (v % 2 ^ 64) ((2 ^ 34 - 1) % 2 ^ 64) ≡ v % 2 ^ 34
mask_is v h =
    ap (λ (x : ℕ). iand 64 x (2 ^ 34 - 1)) (mod-eq_of_lt h)
    ∙ iand_is 64 v (2 ^ 34 - 1) h (omega arith) ∙ and_mask v 34

reach_comes : (f : Frame) (c : Core) (d : Source) (v : ℕ) → HasBases f c → HasNumber f c d v → v < 2 ^ 64 → Reaches f.areas (load_reach d) c (v % 2 ^ 34)
reach_comes f c (Number number) v bases is fits =
    let end = with_register c Rdx (number % 2 ^ 34) in
    record { core = end; run = refl; value = ap (λ (x : ℕ). x % 2 ^ 34) is; keeps = keeps_put c c end Rdx _ refl refl refl (keeps_all c) }
reach_comes f c (At l) v bases is fits =
    let first = with_register c Rdx v in
    let second = with_register first Rcx (2 ^ 34 - 1) in
    let mask = i.Constant Rcx (2 ^ 34 - 1) ∷ i.Alu alu.And Quad Rdx (in_register Rcx) ∷ [] in
    let result = iand 64 (v % 2 ^ 64) ((2 ^ 34 - 1) % 2 ^ 64) in
    let end = with_result second Rdx result (alu_flags alu.And 64 (v % 2 ^ 64) ((2 ^ 34 - 1) % 2 ^ 64)) in
    record {
      core = end;
      run = runs_next f.areas (load Quad Rdx (At l)) mask c first (load_is f c Quad Rdx (At l) v bases is fits);
      value = mask_is v fits;
      keeps = keeps_put c second end Rdx result refl refl refl (keeps_put c first second Rcx _ refl refl refl (keeps_put c c first Rdx v refl refl refl (keeps_all c)));
    }

abbrev pub after_reach : Source → Source → List Instruction
after_reach a b =
    load Long Rax a ∷ i.Alu alu.Add Quad Rax (in_register Rdx) ∷ load Long Rcx b ∷ i.Constant Rdx 65536
    ∷ i.Imul Quad Rcx (in_register Rdx) ∷ i.Alu alu.Cmp Quad Rcx (in_register Rax) ∷ i.SetIf Below Rax
    ∷ i.Extend extension.Zero8 Long Rax (in_register Rax) ∷ []

module _ (f : Frame) (c : Core) (a b d : Source) (va vb vd : ℕ) (bases : HasBases f c)
    (a_is : HasNumber f c a va) (b_is : HasNumber f c b vb) (d_is : HasNumber f c d vd) (a_fits : va < 2 ^ 64) (b_fits : vb < 2 ^ 64) (d_fits : vd < 2 ^ 64) where
  select_comes : Comes f.areas (value Select a b d) c (value_of Select va vb vd)
  select_comes =
      let two = with_two f c a b va vb bases a_is b_is a_fits b_fits Quad in
      let k2 = keeps_two f c a b va vb bases a_is b_is a_fits b_fits Quad in
      let three = with_register two Rdx (vd % 2 ^ 32) in
      let k3 = keeps_put c two three Rdx (vd % 2 ^ 32) refl refl refl k2 in
      let flags = alu_flags alu.And 32 (vd % 2 ^ 32 % 2 ^ 32) (vd % 2 ^ 32 % 2 ^ 32) in
      let tested = record three { flags = flags } in
      let k4 = keeps_same c three tested refl refl k3 in
      let told = ap₂ (λ p q. holds Equal (alu_flags alu.And 32 p q)) (low_is Long vd d_fits) (low_is Long vd d_fits) ∙ ap Some (and_same Long vd d_fits) in
      let number = cond (eqb (vd % 2 ^ 32) 0) (vb % 2 ^ 64) (va % 2 ^ 64) in
      let end = with_register tested Rax number in
      let last = i.MoveIf Equal Quad Rax (in_register Rcx) in
      let rest = i.Test Long Rdx Rdx ∷ last ∷ [] in
      record {
        core = end;
        run = two_loaded f c a b va vb bases a_is b_is a_fits b_fits Quad (load Long Rdx d ∷ rest)
            ∙ runs_next f.areas (load Long Rdx d) rest two three (load_is f two Long Rdx d vd (bases_kept f c two k2 bases) (number_kept f c two d vd k2 d_is) d_fits)
            ∙ runs_next f.areas last [] tested end (choice (holds Equal flags) (eqb (vd % 2 ^ 32) 0) tested (vb % 2 ^ 64) (va % 2 ^ 64) told);
        value = ap₂ (λ (x y : ℕ). cond (eqb (vd % 2 ^ 32) 0) x y) (mod-eq_of_lt b_fits) (mod-eq_of_lt a_fits);
        keeps = keeps_put c tested end Rax number refl refl refl k4;
      }

  outside_by : Reaches f.areas (load_reach d) c (vd % 2 ^ 34) → Comes f.areas (value Outside a b d) c (value_of Outside va vb vd)
  outside_by r =
      let e0 = r.core in
      let k0 = r.keeps in
      let reach = e0.registers Rdx in
      let reach_is : reach ≡ vd % 2 ^ 34 = r.value in
      let e1 = with_register e0 Rax (va % 2 ^ 32) in
      let k1 = keeps_put c e0 e1 Rax (va % 2 ^ 32) refl refl refl k0 in
      let sum = (va % 2 ^ 32 % 2 ^ 64 + reach % 2 ^ 64) % 2 ^ 64 in
      let e2 = with_result e1 Rax sum (alu_flags alu.Add 64 (va % 2 ^ 32 % 2 ^ 64) (reach % 2 ^ 64)) in
      let k2 = keeps_put c e1 e2 Rax sum refl refl refl k1 in
      let e3 = with_register e2 Rcx (vb % 2 ^ 32) in
      let k3 = keeps_put c e2 e3 Rcx (vb % 2 ^ 32) refl refl refl k2 in
      let e4 = with_register e3 Rdx 65536 in
      let k4 = keeps_put c e3 e4 Rdx 65536 refl refl refl k3 in
      let bytes = (vb % 2 ^ 32 % 2 ^ 64 * (65536 % 2 ^ 64)) % 2 ^ 64 in
      let e5 = with_result e4 Rcx bytes (imul_flags 64 (vb % 2 ^ 32 % 2 ^ 64) (65536 % 2 ^ 64)) in
      let k5 = keeps_put c e4 e5 Rcx bytes refl refl refl k4 in
      let e6 = record e5 { flags = alu_flags alu.Cmp 64 (bytes % 2 ^ 64) (sum % 2 ^ 64) } in
      let k6 = keeps_same c e5 e6 refl refl k5 in
      let rest = i.SetIf Below Rax ∷ i.Extend extension.Zero8 Long Rax (in_register Rax) ∷ [] in
      let more = i.Constant Rdx 65536 ∷ i.Imul Quad Rcx (in_register Rdx) ∷ i.Alu alu.Cmp Quad Rcx (in_register Rax) ∷ rest in
      let sum_is : sum % 2 ^ 64 ≡ va % 2 ^ 32 + vd % 2 ^ 34 = omega arith in
      let bytes_are : bytes % 2 ^ 64 ≡ vb % 2 ^ 32 * 65536 = omega arith in
      let told : Some (ltb (bytes % 2 ^ 64) (sum % 2 ^ 64)) ≡ Some (ltb (vb % 2 ^ 32 * 65536) (va % 2 ^ 32 + vd % 2 ^ 34)) = ap₂ (λ (x y : ℕ). Some (ltb x y)) bytes_are sum_is in
      then_comes f c a b va vb bases a_is b_is a_fits b_fits (value Outside a b d) rest e6 _
      (runs_append f.areas (load_reach d) (after_reach a b) c e0 r.run
      ∙ runs_next f.areas (load Long Rax a) (i.Alu alu.Add Quad Rax (in_register Rdx) ∷ load Long Rcx b ∷ more) e0 e1 (load_is f e0 Long Rax a va (bases_kept f c e0 k0 bases) (number_kept f c e0 a va k0 a_is) a_fits)
      ∙ runs_next f.areas (load Long Rcx b) more e2 e3 (load_is f e2 Long Rcx b vb (bases_kept f c e2 k2 bases) (number_kept f c e2 b vb k2 b_is) b_fits))
      k6
      (truth_comes f c a b va vb bases a_is b_is a_fits b_fits Below (ltb (vb % 2 ^ 32 * 65536) (va % 2 ^ 32 + vd % 2 ^ 34)) e6 k6 told)

-- ---- every shape

-- the shape of an operator is no comparison alone
abbrev pub IsShape : Shape → Type 0
IsShape (Alu op size) = alu_writes op ≡ true
IsShape shape = Unit {0}

pub value_comes : (shape : Shape) (f : Frame) (c : Core) (a b d : Source) (va vb vd : ℕ) → IsShape shape → HasBases f c
    → HasNumber f c a va → HasNumber f c b vb → HasNumber f c d vd → va < 2 ^ 64 → vb < 2 ^ 64 → vd < 2 ^ 64
    → Comes f.areas (value shape a b d) c (value_of shape va vb vd)
value_comes (Alu op size) f c a b d va vb vd p bases x y z h i j = alu_comes f c a b va vb bases x y h i op size p
value_comes (Multiply size) f c a b d va vb vd p bases x y z h i j = multiply_comes f c a b va vb bases x y h i size
value_comes (Rotate op size) f c a b d va vb vd p bases x y z h i j = rotate_comes f c a b va vb bases x y h i op size
value_comes (Compare condition size) f c a b d va vb vd p bases x y z h i j = compare_comes f c a b va vb bases x y h i condition size
value_comes (IsZero size) f c a b d va vb vd p bases x y z h i j = zero_comes f c a b va vb bases x y h i size
value_comes (Count op size) f c a b d va vb vd p bases x y z h i j = count_comes f c a b va vb bases x y h i op size
value_comes (Extend how size) f c a b d va vb vd p bases x y z h i j = extend_comes f c a b va vb bases x y h i how size
value_comes (Same size) f c a b d va vb vd p bases x y z h i j = same_comes f c a b va vb bases x y h i size
value_comes Select f c a b d va vb vd p bases x y z h i j = select_comes f c a b d va vb vd bases x y z h i j
value_comes Outside f c a b d va vb vd p bases x y z h i j = outside_by f c a b d va vb vd bases x y z h i j (reach_comes f c d vd bases z j)
value_comes (Divide sign rest size) f c a b d va vb vd p bases x y z h i j = divide_comes f c a b va vb bases x y h i sign rest size
