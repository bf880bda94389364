-- No memory has more pages than its reserve.
use Rattle.std.proofs.Common.{◌≡◌, ◌≢◌, inl, inr, ℕ, zero, suc, ◌+◌, ◌%◌, ◌^◌, ◌<◌, ◌≤◌, List, [], ◌∷◌, ◌++◌, length, map, Option, Some, None, slice_get, true, false, Bool, refl, sym, ap, ◌∙◌, subst, arith}
use Rattle.std.specs.Prelude.{nat_lt, ◌==◌, if◌then◌else◌, slice_index, option_map}
use Rattle.std.proofs.lemmas.Bool.{cases_eq}
use Rattle.std.proofs.lemmas.Option.{none-some, slice_get_within, same_Some}
use Rattle.bl_base.specs.Quantity.{most_calls}
use Rattle.bl_base.proofs.Lists.{all_get}
use Rattle.bl_base.proofs.RunLemmas.{IsNext}
use Rattle.bl_base.specs.Runs.{Outcome, goes, ends, trapped}
use Rattle.bl_base.specs.declared.trap.Trap.TheVariants as trap_kind
use Rattle.bl_ops.specs.Numerics.{meaning}
use Rattle.bl_ops.specs.declared.op.Op.{Op}
use Rattle.bl_ops.specs.declared.op.Op.TheVariants.{I32Add, I32Sub, I32GtU, Move}
use Rattle.bl_program.specs.Layout.{size_of, result, running, entry_of, command_at, Holds}
use Rattle.bl_program.specs.Outcomes.{first_registers}
use Rattle.bl_program.specs.Programs.{IsProgram}
use Rattle.bl_program.specs.Rules.{IsWellFormed, IsMemory, IsLocal, IsPassed, IsSum, IsGrowth, variable}
use Rattle.bl_program.specs.Steps.{Plain, depth, place, written, value_of, states, to, ret, perform}
use Rattle.bl_program.specs.declared.command.Command.{Command}
use Rattle.bl_program.specs.declared.command.Command.TheVariants.{Set, Load, Store, Test, Jump, Arg, Call, Out, Ret, Trap}
use Rattle.bl_program.specs.declared.command.Operand.{Operand}
use Rattle.bl_program.specs.declared.command.Operand.TheVariants.{Const}
use Rattle.bl_program.specs.declared.definitions.GlobalDef.{GlobalDef}
use Rattle.bl_program.specs.declared.definitions.MemoryDef.{MemoryDef}
use Rattle.bl_program.specs.declared.definitions.ProgramParts.{ProgramParts as Program}
use Rattle.bl_seq.specs.OwnMemory.{IsReached, HasSizes}
use Rattle.bl_seq.proofs.OwnSteps.{Reached, opens, steps, reached_by, Stands, stands, trap_ends, Came, came, passed}
use Rattle.bl_seq.proofs.OwnWrites.{other_written, deep_written, growth_then, size_value, size_apart, set_result, set_other, test_zero}

-- ---- at the start

memory_first : (memories : List MemoryDef) (memory : ℕ) (defined : MemoryDef) → slice_get memories memory ≡ Some defined → slice_index (map (λ m. m.pages) memories) memory ≡ defined.pages
memory_first [] memory defined e = absurd (none-some defined e)
memory_first (m ∷ memories) zero defined e = ap (λ (m : MemoryDef). m.pages) (same_Some m defined e)
memory_first (m ∷ memories) (suc memory) defined e = memory_first memories memory defined e

size_first : (globals : List GlobalDef) (memories : List MemoryDef) (memory : ℕ) (defined : MemoryDef) → slice_get memories memory ≡ Some defined
    → slice_index (map (λ g. g.first) globals ++ map (λ m. m.pages) memories) (length globals + memory) ≡ defined.pages
size_first [] memories memory defined e =
    let none : memory ≡ 0 + memory = omega arith in
    subst (λ i. slice_index (map (λ m. m.pages) memories) i ≡ defined.pages) none (memory_first memories memory defined e)
size_first (g ∷ globals) memories memory defined e =
    let more : suc (length globals + memory) ≡ length (g ∷ globals) + memory = omega arith in
    subst (λ i. slice_index (map (λ g. g.first) (g ∷ globals) ++ map (λ m. m.pages) memories) i ≡ defined.pages) more (size_first globals memories memory defined e)

module _ (program : Program) (facts : IsProgram program) (rules : IsWellFormed program) where
  -- a run's first state
  pub whole : (s : Plain) → IsReached program s → Reached program s
  whole s r = reached_by program r.steps _ s r.comes (opens _ r.function (slice_get_within program.functions r.function r.start_fits.defined r.start_fits.exists) refl refl first)
    where
      first : HasSizes program (first_registers program r.function r.start)
      first memory defined e =
          let is = size_first program.globals program.memories memory defined e in
          let le = (all_get IsMemory program.memories memory defined rules.rule1.memories e).pages in
          subst (λ n. n ≤ defined.reserve) (sym is) le

  -- ---- a growth: what its five commands made of the size

  module _ (f position memory : ℕ) (delta : Operand) (g : IsGrowth program f position memory delta) (exists : memory < length program.memories) where
    abbrev size : Operand
    size = variable (size_of program memory)

    abbrev First : Command
    First = Set g.mark_r I32Sub (record { 0 = g.r }) (Const g.reserve) size (Const 0)

    abbrev Second : Command
    Second = Set g.mark_t I32GtU (record { 0 = g.t }) delta (variable g.r) (Const 0)

    abbrev Third : Command
    Third = Test (variable g.t) (record { 0 = g.yes }) (record { 0 = suc (suc (suc g.first)) })

    abbrev Fourth : Command
    Fourth = Set g.mark_v Move (record { 0 = g.v }) size (Const 0) (Const 0)

    -- where the four commands before it were performed
    grown_by : (s : Plain) (c3 : Came program (suc (suc (suc g.first))) Fourth s) (c2 : Came program (suc (suc g.first)) Third c3.before) (c1 : Came program (suc g.first) Second c2.before)
        (c0 : Came program g.first First c1.before) → value_of program size s ≤ g.reserve → g.reserve ≤ 256 → meaning I32Add (value_of program size s) (value_of program delta s) 0 ≤ g.reserve
    grown_by s c3 c2 c1 c0 le few =
        let untaken : (value_of program (variable g.t) c2.before % 2 ^ 32 ≡ 0) × ((y : Operand) → value_of program y c3.before ≡ value_of program y c2.before) = test_zero program c2 g.away c3.place in
        growth_then (value_of program delta s) (value_of program size s) g.reserve (value_of program delta c1.before) (value_of program size c0.before)
        (value_of program (variable g.r) c1.before) (value_of program (variable g.t) c2.before) le few
        (set_other program c3 delta g.apart_v ∙ untaken.1 delta ∙ set_other program c1 delta g.apart_t)
        (set_other program c3 size (apart g.v g.own_v) ∙ untaken.1 size ∙ set_other program c1 size (apart g.t g.own_t) ∙ set_other program c0 size (apart g.r g.own_r))
        (set_result program c0) (set_result program c1) untaken.0
      where
        apart : (x : ℕ) → IsLocal program f x → size ≢ variable x
        apart x own = size_apart program f memory x exists own

    grown : (s : Plain) → Reached program s → s.position ≡ position → value_of program size s ≤ g.reserve → g.reserve ≤ 256
        → meaning I32Add (value_of program size s) (value_of program delta s) 0 ≤ g.reserve
    grown s r is = third (came program facts rules (suc (suc (suc g.first))) Fourth g.old (λ _ h. cc) (passed program _ _ (subst (λ p. IsPassed program p) g.place g.passed_size)) s r (is ∙ g.place))
      where
        first : (c3 : Came program (suc (suc (suc g.first))) Fourth s) (c2 : Came program (suc (suc g.first)) Third c3.before) (c1 : Came program (suc g.first) Second c2.before)
            → value_of program size s ≤ g.reserve → g.reserve ≤ 256 → meaning I32Add (value_of program size s) (value_of program delta s) 0 ≤ g.reserve
        first c3 c2 c1 = grown_by s c3 c2 c1 (came program facts rules g.first First g.room (λ _ h. cc) (passed program _ _ g.passed_t) c1.before c1.reached c1.place)

        second : (c3 : Came program (suc (suc (suc g.first))) Fourth s) (c2 : Came program (suc (suc g.first)) Third c3.before)
            → value_of program size s ≤ g.reserve → g.reserve ≤ 256 → meaning I32Add (value_of program size s) (value_of program delta s) 0 ≤ g.reserve
        second c3 c2 = first c3 c2 (came program facts rules (suc g.first) Second g.exceeds (λ _ h. cc) (passed program _ _ g.passed_test) c2.before c2.reached c2.place)

        third : (c3 : Came program (suc (suc (suc g.first))) Fourth s)
            → value_of program size s ≤ g.reserve → g.reserve ≤ 256 → meaning I32Add (value_of program size s) (value_of program delta s) 0 ≤ g.reserve
        third c3 = second c3 (came program facts rules (suc (suc g.first)) Third g.test (λ _ h. cc) g.guarded c3.before c3.reached c3.place)

  -- ---- a step

  module _ (s t : Plain) (r : Reached program s) (f : ℕ) (holds : Holds program f s.position) (z : HasSizes program s.registers) where
    kept : s.registers ≡ t.registers → HasSizes program t.registers
    kept e = subst (HasSizes program) e z

    wrote : (d x value : ℕ) → written s.registers d x value ≡ t.registers
        → ((memory : ℕ) (defined : MemoryDef) → slice_get program.memories memory ≡ Some defined → written s.registers d x value 0 (size_of program memory) ≤ defined.reserve)
        → HasSizes program t.registers
    wrote d x value e le = subst (HasSizes program) e le

    exists : (memory : ℕ) (defined : MemoryDef) → slice_get program.memories memory ≡ Some defined → memory < length program.memories
    exists memory defined e = slice_get_within program.memories memory defined e

    apart_from : (d x value memory : ℕ) (defined : MemoryDef) → slice_get program.memories memory ≡ Some defined → size_of program memory ≢ x → written s.registers d x value 0 (size_of program memory) ≤ defined.reserve
    apart_from d x value memory defined e apart = subst (λ n. n ≤ defined.reserve) (sym (other_written s.registers d x value 0 (size_of program memory) apart)) (z memory defined e)

    -- a number that fits, or the one that was there
    either : (b : Bool) (value old most : ℕ) → value ≤ most → old ≤ most → (if b then value else old) ≤ most
    either true value old most new le = new
    either false value old most new le = le

    same_size : (memory : ℕ) (defined : MemoryDef) (op : Op) (a b c : Operand) → slice_get program.memories memory ≡ Some defined → IsSum program memory op a c → IsGrowth program f s.position memory b
        → meaning op (value_of program a s) (value_of program b s) (value_of program c s) ≤ defined.reserve
    same_size memory defined op a b c e sum g =
        let lt = exists memory defined e in
        let rule = all_get IsMemory program.memories memory defined rules.rule1.memories e in
        let reserve_is : defined.reserve ≡ g.reserve = same_Some defined.reserve g.reserve (sym (ap (option_map (λ (m : MemoryDef). m.reserve)) e) ∙ g.reserved) in
        let size_is = size_value program memory s lt in
        let few = rule.reserve in
        let old = z memory defined e in
        let fits = grown f s.position memory b g lt s r refl (omega arith) (omega arith) in
        let value_is : meaning op (value_of program a s) (value_of program b s) (value_of program c s) ≡ meaning I32Add (value_of program (variable (size_of program memory)) s) (value_of program b s) 0 =
        ap (λ o. meaning o (value_of program a s) (value_of program b s) (value_of program c s)) sum.sum
        ∙ ap (λ o. meaning I32Add (value_of program o s) (value_of program b s) (value_of program c s)) sum.from_size
        ∙ ap (λ o. meaning I32Add (value_of program (variable (size_of program memory)) s) (value_of program b s) (value_of program o s)) sum.no_third in
        omega arith

    set_sized : (x : ℕ) (op : Op) (a b c : Operand)
        → ((memory : ℕ) → memory < length program.memories → x ≡ size_of program memory → IsSum program memory op a c × IsGrowth program f s.position memory b)
        → written s.registers (place program x s) x (meaning op (value_of program a s) (value_of program b s) (value_of program c s)) ≡ t.registers → HasSizes program t.registers
    set_sized x op a b c rule h = wrote (place program x s) x _ h (λ memory defined e. elim (cases_eq x (size_of program memory)) as (λ _. written s.registers (place program x s) x (meaning op (value_of program a s) (value_of program b s) (value_of program c s)) 0 (size_of program memory) ≤ defined.reserve) [
      | inl same ↦ let grows = rule memory (exists memory defined e) same in either _ _ _ defined.reserve (same_size memory defined op a b c e grows.0 grows.1) (z memory defined e)
      | inr apart ↦ apart_from (place program x s) x _ memory defined e (λ u. apart (sym u))
    ])

    test_sized : (one other : ℕ) (b : Bool) → IsNext (if b then to other s else to one s) t → HasSizes program t.registers
    test_sized one other true h = kept (ap (λ (x : Plain). x.registers) h)
    test_sized one other false h = kept (ap (λ (x : Plain). x.registers) h)

    call_sized : (callee : ℕ) (deep : Outcome) (b : Bool) → IsNext (if b then goes (record s { position = entry_of program callee; chain = suc s.position ∷ s.chain }) else ends deep) t → HasSizes program t.registers
    call_sized callee deep true h = kept (ap (λ (x : Plain). x.registers) h)
    call_sized callee deep false h = absurd h

    ret_sized : (chain : List ℕ) → IsNext (ret program chain s) t → HasSizes program t.registers
    ret_sized [] h = absurd h
    ret_sized (back ∷ chain) h = kept (ap (λ (x : Plain). x.registers) h)

    sized_by : (o : Option Command) → command_at program s.position ≡ o → IsNext (perform program o s) t → HasSizes program t.registers
    sized_by None e h = absurd h
    sized_by (Some (Set m op x a b c)) e h = set_sized x.0 op a b c (rules.rule8 s.position f _ holds e) (ap (λ (x : Plain). x.registers) h)
    sized_by (Some (Load m kind k x offset a)) e h =
        wrote (place program x.0 s) x.0 _ (ap (λ (x : Plain). x.registers) h) (λ memory defined found. apart_from (place program x.0 s) x.0 _ memory defined found
        (λ u. (rules.rule8 s.position f (Load m kind k x offset a) holds e) memory (exists memory defined found) (sym u)))
    sized_by (Some (Store kind k offset a b)) e h = kept (ap (λ (x : Plain). x.registers) h)
    sized_by (Some (Test cond one other)) e h = test_sized one.0 other.0 (value_of program cond s % 2 ^ 32 == 0) h
    sized_by (Some (Jump p)) e h = kept (ap (λ (x : Plain). x.registers) h)
    sized_by (Some (Arg m callee i a)) e h =
        wrote (suc (depth s)) _ _ (ap (λ (x : Plain). x.registers) h) (λ memory defined found. subst (λ n. n ≤ defined.reserve) (sym (deep_written s.registers (depth s) _ _ (size_of program memory))) (z memory defined found))
    sized_by (Some (Call callee)) e h = call_sized callee (trapped trap_kind.StackExhausted (states program s)) (nat_lt (depth s) most_calls) h
    sized_by (Some (Out m i a)) e h =
        wrote (length s.chain) (result program (running program s.position) i) _ (ap (λ (x : Plain). x.registers) h) (λ memory defined found. let lt = exists memory defined found in
        apart_from (length s.chain) (result program (running program s.position) i) _ memory defined found (λ u. omega (arith, u)))
    sized_by (Some Ret) e h = ret_sized s.chain h
    sized_by (Some (Trap kind)) e h = absurd h

  pub sized : (t : Plain) → Reached program t → HasSizes program t.registers
  sized t (opens _ f lt entry none first) = first
  sized t (steps s _ r h) = by (stands program facts rules s r) (sized s r)
    where
      by : Stands program s → HasSizes program s.registers → HasSizes program t.registers
      by at_position z = elim at_position.position as (λ _. HasSizes program t.registers) [
        | inl lt ↦ absurd (trap_ends program facts rules s t lt h)
        | inr own ↦ sized_by s t r own.0 own.1 z (command_at program s.position) refl h
      ]
