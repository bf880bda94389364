-- Two plain runs over what is fetched: each step keeps them alike.
use Rattle.std.proofs.Common.{◌≡◌, ◌⊎◌, inl, inr, ℕ, zero, suc, ◌+◌, ◌*◌, ◌<◌, ◌≤◌, Bool, true, false, List, length, Option, Some, None, refl, sym, ap, ◌∙◌, subst, arith, lit≤}
use Rattle.std.proofs.lemmas.Bool.{cases_lt, eqb-true}
use Rattle.std.specs.Prelude.{◌&&◌, not, nat_eq, nat_lt, if◌then◌else◌, slice_get, IsTrue}
use Rattle.std.proofs.lemmas.Option.{same_Some}
use Rattle.bl_base.proofs.Lists.{within_get}
use Rattle.bl_base.proofs.RunLemmas.{IsNext}
use Rattle.bl_base.specs.Bytes.{number_of, bytes_of}
use Rattle.bl_base.specs.Quantity.{most_calls}
use Rattle.bl_base.specs.Runs.{Next, goes, ends, stuck, HasStep}
use Rattle.bl_base.specs.declared.names.Label.{Label}
use Rattle.bl_base.specs.declared.names.Label.TheVariants.{Public, Secret}
use Rattle.bl_base.proofs.BoolLemmas.{each_true}
use Rattle.bl_base.proofs.ByteLemmas.{length-bytes_of}
use Rattle.bl_ops.specs.Access.{extended, narrowed, width_of}
use Rattle.bl_ops.specs.declared.access.AccessKind.{AccessKind}
use Rattle.bl_ops.specs.declared.access.AccessKind.TheVariants.{I32Load}
use Rattle.bl_program.proofs.Layouts.{sum_item, sum_apart}
use Rattle.bl_program.specs.Layout.{base, command_at}
use Rattle.bl_program.specs.Programs.{IsProgram}
use Rattle.bl_program.specs.Rules.{IsWellFormed}
use Rattle.bl_program.specs.Steps.{Registers, Plain, written, effective, loaded, stored, value_at, overlay, plain_step}
use Rattle.bl_program.specs.declared.command.Command.{Command}
use Rattle.bl_program.specs.declared.command.Command.TheVariants as command
use Rattle.bl_program.specs.declared.command.Operand.{Operand}
use Rattle.bl_program.specs.declared.command.Operand.TheVariants as operand
use Rattle.bl_program.specs.declared.definitions.MemoryDef.{MemoryDef}
use Rattle.bl_program.specs.declared.definitions.ProgramParts.{ProgramParts as Program}
use Rattle.bl_program.proofs.ByteAgreement.{parts, overlay_same, overlay_other}
use Rattle.bl_graph.specs.Labels.{KeepsLabelRules}
use Rattle.bl_seq.specs.OwnMemory.{IsInside}
use Rattle.bl_seq.proofs.OwnAccesses.{inside}
use Rattle.bl_seq.proofs.OwnSteps.{Reached, steps, has_step}
use Rattle.bl_rob.specs.Machines.{Fetched, Straight, Branch, Nowhere, at_position, fetched, fetched_from, before, source_of, truth}
use Rattle.bl_rob.specs.declared.directive.End.{End}
use Rattle.bl_rob.specs.declared.entry.Register.{Register}
use Rattle.bl_rob.specs.declared.entry.Source.{Source}
use Rattle.bl_rob.specs.declared.entry.Source.TheVariants.{Const, Holds}
use Rattle.bl_rob.specs.declared.entry.Work.{Work}
use Rattle.bl_rob.specs.declared.entry.Work.TheVariants.{Nop, Assign, Load, Held, Done, Store, Ready, Guard, Fail}
use Rattle.bl_rob.specs.declared.front.Front.{Front}
use Rattle.bl_rob.proofs.FetchedRuns.{config_of, Follows, follows}
use Rattle.bl_rob.proofs.PlainTracks.{Config, value_in, registers_after, space_after, next_at, next, run_on, IsThere}
use Rattle.bl_sct.specs.Lockstep.{IsPublicPlace}
use Rattle.bl_sct.proofs.Rules.{IsClear, IsPublicMemory, Labels, LabelsOf, labels_before}

-- ---- one write each

choose : {A : Type 0} (b : Bool) (v w x y : A) → (b ≡ true → v ≡ w) → x ≡ y → (if b then v else x) ≡ (if b then w else y)
choose true v w x y h k = h refl
choose false v w x y h k = k

abbrev pub AgreeIn : (ℕ → Bool) → Registers → Registers → Type 0
AgreeIn clear rs ss = (depth x : ℕ) → IsTrue (clear x) → rs depth x ≡ ss depth x

module _ (clear : ℕ → Bool) where
  pub value_agrees : (rs ss : Registers) (a : Source) → AgreeIn clear rs ss → IsClear clear a → value_in rs a ≡ value_in ss a
  value_agrees rs ss (Const number) h k = refl
  value_agrees rs ss (Holds x) h k = h x.depth x.var k

  written_agrees : (rs ss : Registers) (to : Register) (v w : ℕ) → AgreeIn clear rs ss → (IsTrue (clear to.var) → v ≡ w)
      → AgreeIn clear (written rs to.depth to.var v) (written ss to.depth to.var w)
  written_agrees rs ss to v w h e depth x q =
      choose (nat_eq depth to.depth && nat_eq x to.var) v w (rs depth x) (ss depth x)
      (λ t. e (subst (λ y. IsTrue (clear y)) (eqb-true x to.var (each_true _ _ t).1) q)) (h depth x q)

-- ---- where an access lies

-- an access lies in a memory of the program
pub record LiesIn (program : Program) (memory from count : ℕ) : Type 0 where
  pub defined : MemoryDef
  pub exists : slice_get program.memories memory ≡ Some defined
  pub above : base program memory ≤ from
  pub below : from + count ≤ base program (suc memory)

width_some : (kind : AccessKind) → 1 ≤ width_of kind
width_some kind = elim kind as (λ k. 1 ≤ width_of k) [ I32Load ↦ lit≤ tt | _ ↦ lit≤ tt ]

module _ (program : Program) where
  -- the accesses of an entry that is executed in its turn
  abbrev pub Inside : Config → Work → Type 0
  Inside c Nop = Unit {0}
  Inside c (Assign protect op to a b z) = Unit {0}
  Inside c (Load protect kind memory to offset address) =
      LiesIn program memory (effective program memory offset (value_in c.registers address)) (width_of kind)
  Inside c (Held to value) = Unit {0}
  Inside c (Done to value) = Unit {0}
  Inside c (Store kind memory offset address value) =
      LiesIn program memory (effective program memory offset (value_in c.registers address)) (width_of kind)
  Inside c (Ready kind memory offset address value) = Unit {0}
  Inside c (Guard cond predicted other chain) = Unit {0}
  Inside c (Fail kind) = Unit {0}

  abbrev pub InsideOf : Config → Fetched → Type 0
  InsideOf c (Straight work front) = Inside c work
  InsideOf c (Branch cond one other) = Unit {0}
  InsideOf c Nowhere = Unit {0}

  -- a state of the plain run
  abbrev pub plain_of : Config → Plain
  plain_of c = record { position = c.front.position; chain = c.front.chain; registers = c.registers; space = c.space }

  source_is : (registers : Registers) (depth : ℕ) (a : Operand) → value_at program registers depth a ≡ value_in registers (source_of program depth a)
  source_is registers depth (operand.Var x) = refl
  source_is registers depth (operand.Const number) = refl

  lies : (c : Config) (a : Operand) (memory offset width : ℕ) → 1 ≤ width
      → IsInside program (plain_of c) (record { address = a; memory = memory; bytes = offset + width })
      → LiesIn program memory (effective program memory offset (value_in c.registers (source_of program (suc (length c.front.chain)) a))) width
  lies c a memory offset width some h =
      let room = h.space in
      let exists = within_get program.memories memory (sum_item (λ (m : MemoryDef). m.reserve * 65536) program.memories memory (omega arith)) in
      subst (λ v. LiesIn program memory (effective program memory offset v) width) (source_is c.registers (suc (length c.front.chain)) a)
      (record { defined = exists.0; exists = exists.1; above = omega arith; below = omega arith })

  inside_call : (c : Config) (few : Bool) (one other : Fetched) → InsideOf c one → InsideOf c other → InsideOf c (if few then one else other)
  inside_call c true one other h k = h
  inside_call c false one other h k = k

  module _ (facts : IsProgram program) (rules : IsWellFormed program) (c : Config) (r : Reached program (plain_of c)) where
    inside_at : (o : Option Command) → command_at program c.front.position ≡ o → InsideOf c (fetched program c.front.position c.front.chain o)
    inside_at None e = tt
    inside_at (Some (command.Load mark kind memory to offset address)) e =
        lies c address memory offset (width_of kind) (width_some kind) (inside program facts rules (plain_of c) r (command.Load mark kind memory to offset address) e)
    inside_at (Some (command.Store kind memory offset address value)) e =
        lies c address memory offset (width_of kind) (width_some kind) (inside program facts rules (plain_of c) r (command.Store kind memory offset address value) e)
    inside_at (Some (command.Call function)) e = inside_call c (nat_lt (suc (length c.front.chain)) most_calls) _ _ tt tt
    inside_at (Some _) e = tt

    pub inside_from : (end : Option End) → InsideOf c (fetched_from program c.front end)
    inside_from None = inside_at (command_at program c.front.position) refl
    inside_from (Some end) = tt

-- ---- one step of both

-- what two plain runs have in common, as far as it shows
pub record Agrees (program : Program) (clear : ℕ → Bool) (c d : Config) : Type 0 where
  pub front : c.front ≡ d.front
  pub registers : AgreeIn clear c.registers d.registers
  pub bytes : (place : ℕ) → IsPublicPlace program place → slice_get c.space place ≡ slice_get d.space place

abbrev AgreeAt : Program → List ℕ → List ℕ → Type 0
AgreeAt program m n = (place : ℕ) → IsPublicPlace program place → slice_get m place ≡ slice_get n place

module _ (program : Program) (labelling : ℕ → Bool) (ok : KeepsLabelRules program labelling) where
  abbrev open_ : ℕ → Bool
  open_ x = not (labelling x)

  loads_alike : (kind : AccessKind) (memory from : ℕ) (m n : List ℕ) → AgreeAt program m n → LiesIn program memory from (width_of kind)
      → IsPublicMemory program labelling ok memory → loaded kind m from ≡ loaded kind n from
  loads_alike kind memory from m n h lies p =
      ap (λ l. extended kind (number_of l)) (parts from (width_of kind) m n (λ i le lt. h i (place i le lt)))
    where
      place : (i : ℕ) → from ≤ i → i < from + width_of kind → IsPublicPlace program i
      place i le lt =
          let above = lies.above in
          let below = lies.below in
          record { memory = memory; defined = lies.defined; exists = lies.exists; label = p lies.defined lies.exists; from = omega arith; below = omega arith }

  registers_agree : (c d : Config) (work : Work) → Agrees program open_ c d → Labels program labelling ok work → Inside program c work
      → AgreeIn open_ (registers_after program work c.registers c.space) (registers_after program work d.registers d.space)
  registers_agree c d Nop g l i = g.registers
  registers_agree c d (Assign protect op to a b z) g l i =
      written_agrees open_ c.registers d.registers to _ _ g.registers (λ q.
      let h = l q in
      let x = value_agrees open_ c.registers d.registers a g.registers h.0 in
      let y = value_agrees open_ c.registers d.registers b g.registers h.1 in
      let w = value_agrees open_ c.registers d.registers z g.registers h.2 in
      rw (x, y, w) refl)
  registers_agree c d (Load protect kind memory to offset address) g l i =
      written_agrees open_ c.registers d.registers to _ _ g.registers (λ q.
      loads_alike kind memory (effective program memory offset (value_in c.registers address)) c.space d.space g.bytes i (l.1 q)
      ∙ ap (λ v. loaded kind d.space (effective program memory offset v)) (value_agrees open_ c.registers d.registers address g.registers l.0))
  registers_agree c d (Held to value) g l i = absurd l
  registers_agree c d (Done to value) g l i = absurd l
  registers_agree c d (Store kind memory offset address value) g l i = g.registers
  registers_agree c d (Ready kind memory offset address value) g l i = absurd l
  registers_agree c d (Guard cond predicted other chain) g l i = absurd l
  registers_agree c d (Fail kind) g l i = g.registers

  -- a place of a public memory isn't in a secret one
  elsewhere : (memory from count i : ℕ) (lies : LiesIn program memory from count) → IsPublicPlace program i → lies.defined.label ≡ Secret
      → (i < from) ⊎ (from + count ≤ i)
  elsewhere memory from count i lies p s = elim (cases_lt i from) as (λ _. (i < from) ⊎ (from + count ≤ i)) [
    | inl less ↦ inl less
    | inr more ↦ elim (cases_lt i (from + count)) as (λ _. (i < from) ⊎ (from + count ≤ i)) [
      | inl within ↦ absurd (both within more)
      | inr past ↦ inr past
    ]
  ]
    where
      both : i < from + count → from ≤ i → ⊥
      both within more =
          let above = lies.above in
          let below = lies.below in
          let low = p.from in
          let high = p.below in
          let same : memory ≡ p.memory =
          sum_apart (λ (m : MemoryDef). m.reserve * 65536) program.memories 0 memory p.memory i (omega arith) (omega arith) (omega arith) (omega arith) in
          let one : lies.defined ≡ p.defined =
          same_Some lies.defined p.defined (sym lies.exists ∙ ap (λ k. slice_get program.memories k) same ∙ p.exists) in
          let label : Secret ≡ Public = sym s ∙ ap (λ (m : MemoryDef). m.label) one ∙ p.label in
          cc

  stores_alike : (kind : AccessKind) (memory from v w : ℕ) (m n : List ℕ) (lies : LiesIn program memory from (width_of kind)) (label : Label) → lies.defined.label ≡ label
      → AgreeAt program m n → (lies.defined.label ≡ Public → v ≡ w) → AgreeAt program (stored kind from v m) (stored kind from w n)
  stores_alike kind memory from v w m n lies Public e h same place p =
      overlay_same (bytes_of (width_of kind) (narrowed kind v)) m n from place (h place p)
      ∙ ap (λ x. slice_get (overlay from (bytes_of (width_of kind) (narrowed kind x)) n) place) (same e)
  stores_alike kind memory from v w m n lies Secret e h same place p =
      let apart = elsewhere memory from (width_of kind) place lies p e in
      overlay_other (bytes_of (width_of kind) (narrowed kind v)) m from place (subst (λ k. (place < from) ⊎ (from + k ≤ place)) (sym (length-bytes_of (width_of kind) (narrowed kind v))) apart)
      ∙ h place p
      ∙ sym (overlay_other (bytes_of (width_of kind) (narrowed kind w)) n from place (subst (λ k. (place < from) ⊎ (from + k ≤ place)) (sym (length-bytes_of (width_of kind) (narrowed kind w))) apart))

  space_agrees : (c d : Config) (work : Work) → Agrees program open_ c d → Labels program labelling ok work → Inside program c work
      → AgreeAt program (space_after program work c.registers c.space) (space_after program work d.registers d.space)
  space_agrees c d Nop g l i = g.bytes
  space_agrees c d (Assign protect op to a b z) g l i = g.bytes
  space_agrees c d (Load protect kind memory to offset address) g l i = g.bytes
  space_agrees c d (Held to value) g l i = absurd l
  space_agrees c d (Done to value) g l i = absurd l
  space_agrees c d (Store kind memory offset address value) g l i = λ place p.
      stores_alike kind memory (effective program memory offset (value_in c.registers address)) _ _ c.space d.space i i.defined.label refl g.bytes
      (λ q. value_agrees open_ c.registers d.registers value g.registers (l.1 i.defined i.exists q)) place p
      ∙ ap (λ v. slice_get (stored kind (effective program memory offset v) (value_in d.registers value) d.space) place)
      (value_agrees open_ c.registers d.registers address g.registers l.0)
  space_agrees c d (Ready kind memory offset address value) g l i = absurd l
  space_agrees c d (Guard cond predicted other chain) g l i = absurd l
  space_agrees c d (Fail kind) g l i = g.bytes

  next_agrees : (c d : Config) (x : Fetched) → Agrees program open_ c d → LabelsOf program labelling ok x → InsideOf program c x
      → Agrees program open_ (next_at program c x) (next_at program d x)
  next_agrees c d (Straight work front) g l i = record { front = refl; registers = registers_agree c d work g l i; bytes = space_agrees c d work g l i }
  next_agrees c d (Branch cond one other) g l i = record {
    front = ap (λ (f : Front). if truth (value_in c.registers cond) then at_position one f.chain else at_position other f.chain) g.front
        ∙ ap (λ v. if truth v then at_position one d.front.chain else at_position other d.front.chain) (value_agrees open_ c.registers d.registers cond g.registers l);
    registers = g.registers;
    bytes = g.bytes;
  }
  next_agrees c d Nowhere g l i = g

-- ---- runs

-- both are where runs come to, as long as they haven't ended
pub record Pair (program : Program) (clear : ℕ → Bool) (c d : Config) : Type 0 where
  pub agrees : Agrees program clear c d
  pub one : c.front.end ≡ None → Reached program (plain_of program c)
  pub other : d.front.end ≡ None → Reached program (plain_of program d)

module _ (program : Program) (facts : IsProgram program) (rules : IsWellFormed program) where
  -- it is a state of the plain run
  pub is_config : (c : Config) → c.front.end ≡ None → config_of (plain_of program c) ≡ c
  is_config c h =
      ap (λ (e : Option End). record { front = record { position = c.front.position; chain = c.front.chain; end = e }; registers = c.registers; space = c.space }) (sym h)

  pub reached_by_step : (s : Plain) (there : Type 0) (d : Config) (x : Next Plain) → plain_step program s ≡ x → Reached program s → Follows program s d there x
      → d.front.end ≡ None → Reached program (plain_of program d)
  reached_by_step s there d (goes t) e r f h =
      subst (Reached program) (sym (ap (plain_of program) f)) (steps s t r (subst (λ x. IsNext x t) (sym e) refl))
  reached_by_step s there d (ends outcome) e r f h = let no = f.front in cc
  reached_by_step s there d stuck e r f h = absurd (subst HasStep e (has_step program facts rules s r))

  pub reached_next : (c : Config) → c.front.end ≡ None → Reached program (plain_of program c) → (next program c).front.end ≡ None
      → Reached program (plain_of program (next program c))
  reached_next c h r q =
      let s = plain_of program c in
      let same : next program (config_of s) ≡ next program c = ap (next program) (is_config c h) in
      subst (λ d. Reached program (plain_of program d)) same
      (reached_by_step s (IsThere (before program (config_of s).front)) (next program (config_of s)) (plain_step program s) refl r (follows program s)
      (ap (λ (d : Config). d.front.end) same ∙ q))

  -- it has ended, so nothing follows
  pub stays_ended : (c : Config) (end : End) → c.front.end ≡ Some end → next program c ≡ c
  stays_ended c end h = ap (next_at program c) (ap (fetched_from program c.front) h)

  module _ (labelling : ℕ → Bool) (ok : KeepsLabelRules program labelling) where
    abbrev shown : ℕ → Bool
    shown x = not (labelling x)

    agrees_next : (c d : Config) → Pair program shown c d → c.front.end ≡ None → Agrees program shown (next program c) (next program d)
    agrees_next c d p h =
        subst (λ f. Agrees program shown (next program c) (next_at program d (before program f))) p.agrees.front
        (next_agrees program labelling ok c d (before program c.front) p.agrees (labels_before program labelling ok c.front)
        (inside_from program facts rules c (p.one h) c.front.end))

    pub pair_next : (c d : Config) → Pair program shown c d → Pair program shown (next program c) (next program d)
    pair_next c d p = by c.front.end refl
      where
        by : (end : Option End) → c.front.end ≡ end → Pair program shown (next program c) (next program d)
        by None h = record {
          agrees = agrees_next c d p h;
          one = reached_next c h (p.one h);
          other = let h' = sym (ap (λ (f : Front). f.end) p.agrees.front) ∙ h in reached_next d h' (p.other h');
        }
        by (Some end) h =
            let h' = sym (ap (λ (f : Front). f.end) p.agrees.front) ∙ h in
            subst (λ x. Pair program shown x (next program d)) (sym (stays_ended c end h))
            (subst (λ y. Pair program shown c y) (sym (stays_ended d end h')) p)

    pub pair_run : (n : ℕ) (c d : Config) → Pair program shown c d → Pair program shown (run_on program n c) (run_on program n d)
    pair_run zero c d p = p
    pair_run (suc n) c d p = pair_run n (next program c) (next program d) (pair_next c d p)
