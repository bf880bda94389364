-- The commands of items in both numberings.
use Rattle.std.proofs.Common.{◌≡◌, ℕ, suc, ◌+◌, ◌*◌, ◌≤◌, List, [], ◌∷◌, ◌++◌, length, map, drop, reverse, Option, Some, None, slice_get, refl, sym, ap, ap₂, ◌∙◌, arith}
use Rattle.std.specs.Prelude.{min, option_map}
use Rattle.std.proofs.lemmas.List.{length-map, map-append}
use Rattle.bl_ops.specs.OperatorTable.{row_of, row_operands}
use Rattle.bl_wasm.specs.declared.instruction.Instr.{Instr}
use Rattle.bl_wasm.specs.declared.instruction.Instr.TheVariants.{Br, BrIf, BrTable, Return, Call, CallIndirect, Drop, Select, LocalGet, LocalSet, LocalTee, GlobalGet, GlobalSet, Load, Store, MemorySize, MemoryGrow, I32Const, I64Const, Integer}
use Rattle.bl_program.specs.declared.command.Command.{Command}
use Rattle.bl_program.specs.declared.command.Command.TheVariants as command
use Rattle.bl_program.specs.declared.command.Operand.{Operand}
use Rattle.bl_access.specs.Templates.{chain, chain_from, jump_to, set, shift, test_of}
use Rattle.bl_access.proofs.Moving.{get_map, up, up_shift, up_sum, ups_within}
use Rattle.bl_emit.specs.Shapes.{Counts, Slot, armed, bottom, mistyped, result_reads, uninitialized}
use Rattle.bl_emit.specs.Constructs.{Point, Target, args, branched, first_to, mark_of, moves, onto, outs, pad, point, reads, start_of, taken, top}
use Rattle.bl_emit.specs.Items.{after, arm_size, arms, arms_from, branch_size, check_new, check_of, check_size, checks, hit_of, hits_from, indirect_size, leaving, left, right, size_to, slot_arm, slot_arms, slot_head, template, to_label}
use Rattle.bl_emit.specs.LoweredBodies.{left_to, takes_of}
use Rattle.bl_emit.proofs.Lists.{shift_is}
use Rattle.bl_lower.proofs.IndexTests.{arms_from_length, hits_from_length}
use Rattle.bl_lower.proofs.Sizes.{padded_length, reads_length}
use Rattle.bl_iface.specs.JoinedProgram.{Renaming, operand_by, renamed}
use Rattle.bl_wasm.specs.IndexMaps.{renamed as item_by}
use Rattle.bl_whole.proofs.RenamedTemplates.{args_by, below_by, chain_by, checks_by, growth_by, left_by, moved_all, moved_stack, moves_by, outs_by, padded_by, result_reads_by, right_by, stacked_by, top_by}
use Rattle.bl_whole.proofs.Settings.{AllFew, AllLead, AllReady, Fits, Leads, Moves, ReadyFor, Setting, mine, point_to, slot_to, target_to, theirs}
use Rattle.bl_whole.proofs.RenamedSizes.{all_alike, arm_size_by, calls, calls_there, first_kind, indirect_by, lead_rest, loops_to, ready_get, size_to_by, start_to, taken_to, takes_to, targets_to}

module _ (s : Setting) (keeps : Moves s) where
  abbrev N : Renaming
  N = s.numbers

  abbrev d : ℕ
  d = s.vars

  abbrev e : ℕ
  e = s.commands

  abbrev low : ℕ
  low = bottom (mine s)

  abbrev high : ℕ
  high = (mine s).limit

  -- ---- branches

  pub moved_by : (depth first count to : ℕ) (stack : List Operand) → low ≤ first → first + count ≤ high → 7 ≤ to
      → moved_all N (moves depth first (reverse (pad count stack)) ++ jump_to to ∷ [])
      ≡ moves depth (up d first) (reverse (pad count (moved_stack N stack))) ++ jump_to (up e to) ∷ []
  moved_by depth first count to stack a b c =
      let long = padded_length count stack in
      let w = ups_within N.write d low high first (first + length (reverse (pad count stack))) keeps.writes a (omega arith) in
      map-append (renamed N) (moves depth first (reverse (pad count stack))) (jump_to to ∷ [])
      ∙ ap₂ (λ (x y : List Command). x ++ y)
      (moves_by N d depth first (reverse (pad count stack)) w ∙ ap (moves depth (up d first)) (padded_by N count stack))
      (ap (λ q. jump_to q ∷ []) (keeps.goes to c))

  pub branched_by : (depth : ℕ) (o : Option Target) (stack : List Operand) → ReadyFor s o
      → moved_all N (branched depth (mine s).results o stack) ≡ branched depth (theirs s).results (option_map (target_to s) o) (moved_stack N stack)
  branched_by depth None stack h =
      outs_by N depth 0 (reverse (pad (mine s).results stack)) ∙ ap (outs depth 0) (padded_by N (mine s).results stack)
      ∙ ap (λ r. outs depth 0 (reverse (pad r (moved_stack N stack)))) (sym keeps.results)
  branched_by depth (Some t) stack h =
      let base = moved_by depth (first_to t) (taken t) (start_of t.kind t.end) stack h.low h.high h.start in
      let x = first_kind s t.kind t.first in
      let k = taken_to s t in
      let q = start_to s t.kind t.end in
      base
      ∙ ap₂ (λ x k. moves depth x (reverse (pad k (moved_stack N stack))) ++ jump_to (up e (start_of t.kind t.end)) ∷ []) (sym x) (sym k)
      ∙ ap (λ q. moves depth (first_to (target_to s t)) (reverse (pad (taken (target_to s t)) (moved_stack N stack))) ++ jump_to q ∷ []) (sym q)

  pub label_by : (open_ones : List Target) (stack : List Operand) (l : ℕ) → AllReady s open_ones
      → moved_all N (to_label s.shapes s.number open_ones stack l) ≡ to_label s.shapes_in s.number_in (targets_to s open_ones) (moved_stack N stack) l
  label_by open_ones stack l h =
      branched_by (mark_of open_ones) (slice_get open_ones l) stack (ready_get s open_ones l h)
      ∙ ap₂ (λ k o. branched (min 6 k) (theirs s).results o (moved_stack N stack)) (sym (loops_to s open_ones)) (sym (get_map (target_to s) open_ones l))

  arms_by : (open_ones : List Target) (stack : List Operand) (ls : List ℕ) → AllReady s open_ones
      → moved_all N (arms s.shapes s.number open_ones stack ls) ≡ arms s.shapes_in s.number_in (targets_to s open_ones) (moved_stack N stack) ls
  arms_by open_ones stack [] h = refl
  arms_by open_ones stack (l ∷ ls) h =
      map-append (renamed N) (to_label s.shapes s.number open_ones stack l) (arms s.shapes s.number open_ones stack ls)
      ∙ ap₂ (λ (x y : List Command). x ++ y) (label_by open_ones stack l h) (arms_by open_ones stack ls h)

  arms_from_by : (takes : List ℕ) (position : ℕ) (ls : List ℕ) → 7 ≤ position
      → map N.position (arms_from (mine s).results takes position ls) ≡ arms_from (theirs s).results takes (up e position) ls
  arms_from_by takes position [] le = refl
  arms_from_by takes position (l ∷ ls) le =
      let size = branch_size (mine s).results (slice_get takes l) in
      ap₂ (λ (x : ℕ) (y : List ℕ). x ∷ y) (keeps.goes position le)
      (arms_from_by takes (position + size) ls (omega arith)
      ∙ ap (λ k. arms_from (theirs s).results takes k ls) (up_sum e position size ∙ ap (λ r. up e position + branch_size r (slice_get takes l)) (sym keeps.results)))

  -- ---- calls

  given_by : (depth f : ℕ) (stack : List Operand) → Leads s f
      → moved_all N (args depth f 0 (reverse (pad (s.shapes f).params stack)))
      ≡ args depth (s.names.function f) 0 (reverse (pad (s.shapes_in (s.names.function f)).params (moved_stack N stack)))
  given_by depth f stack h =
      args_by N depth f 0 (reverse (pad (s.shapes f).params stack))
      ∙ ap₂ (λ g l. args depth g 0 l) h.callee (padded_by N (s.shapes f).params stack ∙ ap (λ k. reverse (pad k (moved_stack N stack))) (sym h.alike.params))

  back_by : (depth f first : ℕ) → Leads s f → low ≤ first → first + (s.shapes f).results ≤ high
      → moved_all N (moves depth first (result_reads (s.shapes f) 0 (s.shapes f).results))
      ≡ moves depth (up d first) (result_reads (s.shapes_in (s.names.function f)) 0 (s.shapes_in (s.names.function f)).results)
  back_by depth f first h a b =
      let long = reads_length (s.shapes f) 0 (s.shapes f).results in
      let w = ups_within N.write d low high first (first + length (result_reads (s.shapes f) 0 (s.shapes f).results)) keeps.writes a (omega arith) in
      moves_by N d depth first (result_reads (s.shapes f) 0 (s.shapes f).results) w
      ∙ ap (moves depth (up d first)) (
      result_reads_by N (s.shapes f) (s.shapes_in (s.names.function f)) 0 (s.shapes f).results (λ i above below. h.reads i (omega arith))
      ∙ ap (result_reads (s.shapes_in (s.names.function f)) 0) (sym h.alike.results))

  -- ---- slots

  hit_by : (slot : Slot) (position : ℕ) → 7 ≤ position → N.position (hit_of slot position) ≡ hit_of (slot_to s.names slot) (up e position)
  hit_by (armed f) position le = keeps.goes position le
  hit_by uninitialized position le = keeps.traps 5 (omega arith)
  hit_by mistyped position le = keeps.traps 6 (omega arith)

  hits_by : (position : ℕ) (slots : List Slot) → AllLead s slots → 7 ≤ position
      → map N.position (hits_from (calls s) position slots) ≡ hits_from (calls_there s) (up e position) (map (slot_to s.names) slots)
  hits_by position [] h le = refl
  hits_by position (slot ∷ slots) h le =
      let size = arm_size (calls s) slot in
      ap₂ (λ (x : ℕ) (y : List ℕ). x ∷ y) (hit_by slot position le)
      (hits_by (position + size) slots (lead_rest s slot slots h) (omega arith)
      ∙ ap (λ k. hits_from (calls_there s) k (map (slot_to s.names) slots)) (up_sum e position size ∙ ap (λ k. up e position + k) (sym (arm_size_by s slot slots (all_alike s (slot ∷ slots) h)))))

  slot_head_by : (depth : ℕ) (index : Operand) (position x : ℕ) (slots : List Slot) → AllLead s slots → 7 ≤ position → low ≤ x → x + length slots ≤ high
      → moved_all N (slot_head s.shapes s.number depth index position x slots)
      ≡ slot_head s.shapes_in s.number_in depth (operand_by N.read index) (up e position) (up d x) (map (slot_to s.names) slots)
  slot_head_by depth index position x [] h le a b = ap (λ q. jump_to q ∷ []) (keeps.traps 4 (omega arith))
  slot_head_by depth index position x (slot ∷ slots) h le a b =
      let first = position + 2 * suc (length slots) in
      let those = hits_from (calls s) first (slot ∷ slots) in
      let long = hits_from_length (calls s) first (slot ∷ slots) in
      let w = ups_within N.write d low high x (x + length those) keeps.writes a (omega arith) in
      let r = ups_within N.read d low high x (x + length those) keeps.reads a (omega arith) in
      chain_by N d e index x 0 those 4 position depth w r keeps.goes le
      ∙ ap₂ (λ l last. chain_from (operand_by N.read index) (up d x) 0 l last (up e position) depth)
      (hits_by first (slot ∷ slots) h (omega arith)
      ∙ ap (λ k. hits_from (calls_there s) k (map (slot_to s.names) (slot ∷ slots)))
      (up_sum e position (2 * suc (length slots)) ∙ ap (λ k. up e position + 2 * suc k) (sym (length-map slots (slot_to s.names)))))
      (keeps.traps 4 (omega arith))

  slot_arm_by : (depth : ℕ) (stack : List Operand) (first behind_it most : ℕ) (slot : Slot) (slots : List Slot) → AllLead s (slot ∷ slots) → AllFew s most (slot ∷ slots)
      → low ≤ first → first + most ≤ high → 7 ≤ behind_it
      → moved_all N (slot_arm s.shapes s.number depth stack first behind_it slot)
      ≡ slot_arm s.shapes_in s.number_in depth (moved_stack N stack) (up d first) (up e behind_it) (slot_to s.names slot)
  slot_arm_by depth stack first behind_it most (armed f) slots h few a b le =
      let small = few.0 in
      let given = args depth f 0 (reverse (pad (s.shapes f).params stack)) in
      let back = moves depth first (result_reads (s.shapes f) 0 (s.shapes f).results) in
      map-append (renamed N) given (command.Call f ∷ (back ++ jump_to behind_it ∷ []))
      ∙ ap₂ (λ (x y : List Command). x ++ y) (given_by depth f stack h.0)
      (ap₂ (λ (g : ℕ) (l : List Command). command.Call g ∷ l) h.0.callee
      (map-append (renamed N) back (jump_to behind_it ∷ [])
      ∙ ap₂ (λ (x y : List Command). x ++ y) (back_by depth f first h.0 a (omega arith)) (ap (λ q. jump_to q ∷ []) (keeps.goes behind_it le))))
  slot_arm_by depth stack first behind_it most uninitialized slots h few a b le = refl
  slot_arm_by depth stack first behind_it most mistyped slots h few a b le = refl

  few_rest : (most : ℕ) (slot : Slot) (slots : List Slot) → AllFew s most (slot ∷ slots) → AllFew s most slots
  few_rest most (armed f) slots h = h.1
  few_rest most uninitialized slots h = h
  few_rest most mistyped slots h = h

  slot_arms_by : (depth : ℕ) (stack : List Operand) (first behind_it most : ℕ) (slots : List Slot) → AllLead s slots → AllFew s most slots
      → low ≤ first → first + most ≤ high → 7 ≤ behind_it
      → moved_all N (slot_arms s.shapes s.number depth stack first behind_it slots)
      ≡ slot_arms s.shapes_in s.number_in depth (moved_stack N stack) (up d first) (up e behind_it) (map (slot_to s.names) slots)
  slot_arms_by depth stack first behind_it most [] h few a b le = refl
  slot_arms_by depth stack first behind_it most (slot ∷ slots) h few a b le =
      map-append (renamed N) (slot_arm s.shapes s.number depth stack first behind_it slot) (slot_arms s.shapes s.number depth stack first behind_it slots)
      ∙ ap₂ (λ (x y : List Command). x ++ y) (slot_arm_by depth stack first behind_it most slot slots h few a b le)
      (slot_arms_by depth stack first behind_it most slots (lead_rest s slot slots h) (few_rest most slot slots few) a b le)

  -- ---- points

  onto_by : (size temps : ℕ) (stack other : List Operand) (p : Point) → N.read (shift temps p.next) ≡ up d (shift temps p.next) → moved_stack N stack ≡ other
      → point_to s (onto size temps stack p) ≡ onto size temps other (point_to s p)
  onto_by size temps stack other p h k =
      let a = up_shift e size p.position in
      let b = up_shift d temps p.next in
      cc

  abbrev After : List Target → Instr → Point → Point
  After open_ones item p = after s.shapes s.number open_ones item p

  abbrev There : List Target → Instr → Point → Point
  There open_ones item p = after s.shapes_in s.number_in (targets_to s open_ones) (item_by s.names item) (point_to s p)

  pub after_by : (open_ones : List Target) (item : Instr) (p : Point) → Fits s item → low ≤ p.next → (After open_ones item p).next ≤ high
      → point_to s (After open_ones item p) ≡ There open_ones item p
  after_by open_ones (BrIf l) p h a b =
      let k = size_to_by s keeps.results open_ones l in
      let u = up_shift e (size_to s.shapes s.number (slice_get open_ones l)) (suc p.position) in
      let below = below_by N 1 p.stack in
      cc
  after_by open_ones (Call f) p h a b =
      let r = (s.shapes f).results in
      let q = (s.shapes f).params in
      let there = s.shapes_in (s.names.function f) in
      ap₂ (λ (x : ℕ) (y : List Operand). point x y (up d (p.next + r)))
      (up_shift e r (suc (shift q p.position)) ∙ ap (λ k. shift r (suc k)) (up_shift e q p.position) ∙ ap₂ (λ r q. shift r (suc (shift q (up e p.position)))) (sym h.alike.results) (sym h.alike.params))
      (map-append (operand_by N.read) (reverse (reads p.next r)) (drop q p.stack)
      ∙ ap₂ (λ (x y : List Operand). x ++ y)
      (stacked_by N d p.next r (ups_within N.read d low high p.next (p.next + r) keeps.reads a b) ∙ ap (λ k. reverse (reads (up d p.next) k)) (sym h.alike.results))
      (sym (below_by N q p.stack) ∙ ap (λ k. drop k (moved_stack N p.stack)) (sym h.alike.params)))
      ∙ ap (point (shift there.results (suc (shift there.params (up e p.position)))) (reverse (reads (up d p.next) there.results) ++ drop there.params (moved_stack N p.stack)))
      (up_sum d p.next r ∙ ap (λ k. up d p.next + k) (sym h.alike.results))
  after_by open_ones (CallIndirect i) p h a b =
      let w = (mine s).wanted i in
      let w_there = (theirs s).wanted (s.names.type i) in
      let slots = (mine s).slots i in
      let slots_there = (theirs s).slots (s.names.type i) in
      let n = length slots in
      let n_there = length slots_there in
      let many : n_there ≡ n = ap length h.1 ∙ length-map slots (slot_to s.names) in
      let from : up d (p.next + n) ≡ up d p.next + n_there = up_sum d p.next n ∙ ap (λ k. up d p.next + k) (sym many) in
      let r : w.results ≡ w_there.results = ap (λ (c : Counts). c.results) (sym h.0) in
      let q : w.params ≡ w_there.params = ap (λ (c : Counts). c.params) (sym h.0) in
      ap₂ (λ (x : ℕ) (y : List Operand). point x y (up d (p.next + n + w.results)))
      (up_sum e p.position (indirect_size (calls s) slots) ∙ ap (λ k. up e p.position + k) (sym (indirect_by s slots (all_alike s slots h.2)) ∙ ap (indirect_size (calls_there s)) (sym h.1)))
      (map-append (operand_by N.read) (reverse (reads (p.next + n) w.results)) (drop w.params (drop 1 p.stack))
      ∙ ap₂ (λ (x y : List Operand). x ++ y)
      (stacked_by N d (p.next + n) w.results (ups_within N.read d low high (p.next + n) (p.next + n + w.results) keeps.reads (omega arith) b)
      ∙ ap₂ (λ x k. reverse (reads x k)) from r)
      (sym (below_by N w.params (drop 1 p.stack)) ∙ ap₂ (λ k l. drop k l) q (sym (below_by N 1 p.stack))))
      ∙ ap (point (up e p.position + indirect_size (calls_there s) slots_there) (reverse (reads (up d p.next + n_there) w_there.results) ++ drop w_there.params (drop 1 (moved_stack N p.stack))))
      (up_sum d (p.next + n) w.results ∙ ap₂ (λ x k. x + k) from r)
  after_by open_ones Drop p h a b = ap (λ l. point (suc (up e p.position)) l (up d p.next)) (sym (below_by N 1 p.stack))
  after_by open_ones Select p h a b =
      let three = sym (below_by N 1 (drop 1 (drop 1 p.stack))) ∙ ap (drop 1) (sym (below_by N 1 (drop 1 p.stack)) ∙ ap (drop 1) (sym (below_by N 1 p.stack))) in
      onto_by 0 0 (drop 1 (drop 1 (drop 1 p.stack))) (drop 1 (drop 1 (drop 1 (moved_stack N p.stack)))) p (keeps.reads p.next a (omega arith)) three
  after_by open_ones (LocalGet x) p h a b = onto_by 0 0 p.stack (moved_stack N p.stack) p (keeps.reads p.next a (omega arith)) refl
  after_by open_ones (LocalSet x) p h a b = ap (λ l. point (suc (up e p.position)) l (up d p.next)) (sym (below_by N 1 p.stack))
  after_by open_ones (GlobalGet x) p h a b = onto_by 0 0 p.stack (moved_stack N p.stack) p (keeps.reads p.next a (omega arith)) refl
  after_by open_ones (GlobalSet x) p h a b = ap (λ l. point (suc (up e p.position)) l (up d p.next)) (sym (below_by N 1 p.stack))
  after_by open_ones (Load kind argument) p h a b = onto_by 2 1 (drop 1 p.stack) (drop 1 (moved_stack N p.stack)) p (keeps.reads (suc p.next) (omega arith) (omega arith)) (sym (below_by N 1 p.stack))
  after_by open_ones (Store kind argument) p h a b =
      ap (λ l. point (suc (suc (suc (up e p.position)))) l (suc (up d p.next))) (sym (below_by N 1 (drop 1 p.stack)) ∙ ap (drop 1) (sym (below_by N 1 p.stack)))
  after_by open_ones MemorySize p h a b = onto_by 0 0 p.stack (moved_stack N p.stack) p (keeps.reads p.next a (omega arith)) refl
  after_by open_ones MemoryGrow p h a b = onto_by 6 2 (drop 1 p.stack) (drop 1 (moved_stack N p.stack)) p (keeps.reads (suc (suc p.next)) (omega arith) (omega arith)) (sym (below_by N 1 p.stack))
  after_by open_ones (I32Const n) p h a b = onto_by 0 0 p.stack (moved_stack N p.stack) p (keeps.reads p.next a (omega arith)) refl
  after_by open_ones (I64Const n) p h a b = onto_by 0 0 p.stack (moved_stack N p.stack) p (keeps.reads p.next a (omega arith)) refl
  after_by open_ones (Integer o) p h a b =
      let k = check_new (check_of o) in
      let there = shift_is k p.next in
      onto_by (check_size (check_of o)) k (drop (row_operands (row_of o)) p.stack) (drop (row_operands (row_of o)) (moved_stack N p.stack)) p
      (keeps.reads (shift k p.next) (omega arith) (omega arith)) (sym (below_by N (row_operands (row_of o)) p.stack))
  after_by open_ones item p h a b = refl

  -- ---- items behind which the code goes on

  abbrev Template : List Target → Instr → Point → List Command
  Template open_ones item p = template s.shapes s.number open_ones item p

  abbrev TemplateThere : List Target → Instr → Point → List Command
  TemplateThere open_ones item p = template s.shapes_in s.number_in (targets_to s open_ones) (item_by s.names item) (point_to s p)

  second_by : (stack : List Operand) → top (drop 1 (moved_stack N stack)) ≡ operand_by N.read (top (drop 1 stack))
  second_by stack = ap top (below_by N 1 stack) ∙ top_by N (drop 1 stack)

  third_by : (stack : List Operand) → top (drop 1 (drop 1 (moved_stack N stack))) ≡ operand_by N.read (top (drop 1 (drop 1 stack)))
  third_by stack = ap (λ l. top (drop 1 l)) (below_by N 1 stack) ∙ second_by (drop 1 stack)

  pub template_by : (open_ones : List Target) (item : Instr) (p : Point) → Fits s item → AllReady s open_ones → 7 ≤ p.position → low ≤ p.next → (After open_ones item p).next ≤ high
      → 7 ≤ (After open_ones item p).position
      → moved_all N (Template open_ones item p) ≡ TemplateThere open_ones item p
  template_by open_ones (I32Const n) p h ready le a b c = let k = loops_to s open_ones in let w = keeps.writes p.next a (omega arith) in cc
  template_by open_ones (I64Const n) p h ready le a b c = let k = loops_to s open_ones in let w = keeps.writes p.next a (omega arith) in cc
  template_by open_ones (LocalGet x) p h ready le a b c = let k = loops_to s open_ones in let w = keeps.writes p.next a (omega arith) in cc
  template_by open_ones (LocalSet x) p h ready le a b c = let k = loops_to s open_ones in let t = top_by N p.stack in cc
  template_by open_ones (LocalTee x) p h ready le a b c = let k = loops_to s open_ones in let t = top_by N p.stack in cc
  template_by open_ones (GlobalGet x) p h ready le a b c = let k = loops_to s open_ones in let w = keeps.writes p.next a (omega arith) in cc
  template_by open_ones (GlobalSet x) p h ready le a b c = let k = loops_to s open_ones in let t = top_by N p.stack in cc
  template_by open_ones MemorySize p h ready le a b c = let k = loops_to s open_ones in let w = keeps.writes p.next a (omega arith) in cc
  template_by open_ones Select p h ready le a b c =
      let k = loops_to s open_ones in
      let w = keeps.writes p.next a (omega arith) in
      let one = top_by N p.stack in
      let two = second_by p.stack in
      let three = third_by p.stack in
      cc
  template_by open_ones (Load kind argument) p h ready le a b c =
      let k = loops_to s open_ones in
      let w = keeps.writes p.next a (omega arith) in
      let r = keeps.reads p.next a (omega arith) in
      let w1 = keeps.writes (suc p.next) (omega arith) (omega arith) in
      let t = keeps.traps 3 (omega arith) in
      let q = keeps.goes (suc (suc p.position)) (omega arith) in
      let one = top_by N p.stack in
      cc
  template_by open_ones (Store kind argument) p h ready le a b c =
      let k = loops_to s open_ones in
      let w = keeps.writes p.next a (omega arith) in
      let r = keeps.reads p.next a (omega arith) in
      let t = keeps.traps 3 (omega arith) in
      let q = keeps.goes (suc (suc p.position)) (omega arith) in
      let one = top_by N p.stack in
      let two = second_by p.stack in
      cc
  template_by open_ones MemoryGrow p h ready le a b c =
      let k = loops_to s open_ones in
      let w = ups_within N.write d low high p.next (p.next + 3) keeps.writes a (omega arith) in
      let r = ups_within N.read d low high p.next (p.next + 3) keeps.reads a (omega arith) in
      let base = growth_by N d e (mine s).size (theirs s).size (mine s).reserve (top p.stack) p.next p.position (mark_of open_ones) h.0 h.1 w r keeps.goes le in
      let one = top_by N p.stack in
      let room = h.2 in
      cc
  template_by open_ones (Integer o) p h ready le a b c =
      let k = loops_to s open_ones in
      let check = check_of o in
      let there = shift_is (check_new check) p.next in
      let x = left (row_operands (row_of o)) p.stack in
      let y = right (row_operands (row_of o)) p.stack in
      let w = ups_within N.write d low high p.next (p.next + check_new check) keeps.writes a (omega arith) in
      let r = ups_within N.read d low high p.next (p.next + check_new check) keeps.reads a (omega arith) in
      let base = checks_by N d e (mark_of open_ones) check p.position p.next x y w r keeps.goes keeps.traps le in
      let to : N.write (shift (check_new check) p.next) ≡ shift (check_new check) (up d p.next) = keeps.writes (shift (check_new check) p.next) (omega arith) (omega arith) ∙ up_shift d (check_new check) p.next in
      let xl = left_by N (row_operands (row_of o)) p.stack in
      let yr = right_by N (row_operands (row_of o)) p.stack in
      map-append (renamed N) (checks (mark_of open_ones) check p.position p.next x y) (set (mark_of open_ones) o (shift (check_new check) p.next) x y ∷ [])
      ∙ ap₂ (λ (u v : List Command). u ++ v) base (ap (λ t. set (mark_of open_ones) o t (operand_by N.read x) (operand_by N.read y) ∷ []) to)
      ∙ ap₂ (λ u v. checks (mark_of open_ones) check (up e p.position) (up d p.next) u v ++ set (mark_of open_ones) o (shift (check_new check) (up d p.next)) u v ∷ []) (sym xl) (sym yr)
      ∙ ap (λ m. checks (min 6 m) check (up e p.position) (up d p.next) (left (row_operands (row_of o)) (moved_stack N p.stack)) (right (row_operands (row_of o)) (moved_stack N p.stack))
      ++ set (min 6 m) o (shift (check_new check) (up d p.next)) (left (row_operands (row_of o)) (moved_stack N p.stack)) (right (row_operands (row_of o)) (moved_stack N p.stack)) ∷ []) (sym k)
  template_by open_ones (BrIf l) p h ready le a b c =
      let q : N.position (After open_ones (BrIf l) p).position ≡ (There open_ones (BrIf l) p).position = keeps.goes (After open_ones (BrIf l) p).position c ∙ ap (λ (x : Point). x.position) (after_by open_ones (BrIf l) p h a b) in
      let one = top_by N p.stack in
      let next = keeps.goes (suc p.position) (omega arith) in
      ap₂ (λ (x : Command) (l : List Command). x ∷ l)
      (ap₂ (λ u v. test_of u v (N.position (After open_ones (BrIf l) p).position)) (sym one) next ∙ ap (test_of (top (moved_stack N p.stack)) (suc (up e p.position))) q)
      (label_by open_ones (drop 1 p.stack) l ready ∙ ap (λ st. to_label s.shapes_in s.number_in (targets_to s open_ones) st l) (sym (below_by N 1 p.stack)))
  template_by open_ones (Call f) p h ready le a b c =
      let depth = mark_of open_ones in
      let there = s.shapes_in (s.names.function f) in
      map-append (renamed N) (args depth f 0 (reverse (pad (s.shapes f).params p.stack))) (command.Call f ∷ moves depth p.next (result_reads (s.shapes f) 0 (s.shapes f).results))
      ∙ ap₂ (λ (x y : List Command). x ++ y) (given_by depth f p.stack h)
      (ap₂ (λ (g : ℕ) (l : List Command). command.Call g ∷ l) h.callee (back_by depth f p.next h a b))
      ∙ ap (λ m. args (min 6 m) (s.names.function f) 0 (reverse (pad there.params (moved_stack N p.stack))) ++ command.Call (s.names.function f) ∷ moves (min 6 m) (up d p.next) (result_reads there 0 there.results))
      (sym (loops_to s open_ones))
  template_by open_ones (CallIndirect i) p h ready le a b c =
      let slots = (mine s).slots i in
      let n = length slots in
      let depth = mark_of open_ones in
      let behind_it = (After open_ones (CallIndirect i) p).position in
      let there = (There open_ones (CallIndirect i) p).position in
      let q : up e behind_it ≡ there = ap (λ (x : Point). x.position) (after_by open_ones (CallIndirect i) p h a b) in
      let one = top_by N p.stack in
      let tail = below_by N 1 p.stack in
      let k = loops_to s open_ones in
      let images = map (slot_to s.names) slots in
      let many : length images ≡ n = length-map slots (slot_to s.names) in
      map-append (renamed N) (slot_head s.shapes s.number depth (top p.stack) p.position p.next slots) (slot_arms s.shapes s.number depth (drop 1 p.stack) (p.next + n) behind_it slots)
      ∙ ap₂ (λ (x y : List Command). x ++ y)
      (slot_head_by depth (top p.stack) p.position p.next slots h.2 le a (omega arith) ∙ ap₂ (λ m u. slot_head s.shapes_in s.number_in (min 6 m) u (up e p.position) (up d p.next) images) (sym k) (sym one))
      (slot_arms_by depth (drop 1 p.stack) (p.next + n) behind_it ((mine s).wanted i).results slots h.2 h.3 (omega arith) b c
      ∙ ap₂ (λ m st. slot_arms s.shapes_in s.number_in (min 6 m) st (up d (p.next + n)) (up e behind_it) images) (sym k) (sym tail)
      ∙ ap₂ (λ x y. slot_arms s.shapes_in s.number_in (mark_of (targets_to s open_ones)) (drop 1 (moved_stack N p.stack)) x y images) (up_sum d p.next n ∙ ap (λ k. up d p.next + k) (sym many)) q)
      ∙ ap (λ those. slot_head s.shapes_in s.number_in (mark_of (targets_to s open_ones)) (top (moved_stack N p.stack)) (up e p.position) (up d p.next) those
      ++ slot_arms s.shapes_in s.number_in (mark_of (targets_to s open_ones)) (drop 1 (moved_stack N p.stack)) (up d p.next + length those) there those) (sym h.1)
  template_by open_ones item p h ready le a b c = ap (λ q. jump_to q ∷ []) (keeps.goes (suc p.position) (omega arith))

  -- ---- items behind which what follows is dead

  pub left_to_by : (item : Instr) (next : ℕ) → up d (left_to s.blocks s.shapes s.number item next) ≡ left_to s.blocks_in s.shapes_in s.number_in (item_by s.names item) (up d next)
  left_to_by (BrTable default ls) next = up_sum d next (length ls)
  left_to_by item next = refl

  pub leaving_by : (open_ones : List Target) (item : Instr) (p : Point) → AllReady s open_ones → 7 ≤ p.position → low ≤ p.next → left_to s.blocks s.shapes s.number item p.next ≤ high
      → moved_all N (leaving s.shapes s.number open_ones item p) ≡ leaving s.shapes_in s.number_in (targets_to s open_ones) (item_by s.names item) (point_to s p)
  leaving_by open_ones (Br l) p ready le a b = label_by open_ones p.stack l ready
  leaving_by open_ones Return p ready le a b =
      branched_by (mark_of open_ones) None p.stack tt ∙ ap (λ k. branched (min 6 k) (theirs s).results None (moved_stack N p.stack)) (sym (loops_to s open_ones))
  leaving_by open_ones (BrTable default ls) p ready le a b =
      let r = (mine s).results in
      let takes = takes_of open_ones in
      let depth = mark_of open_ones in
      let size = branch_size r (slice_get takes default) in
      let first = p.position + (2 * length ls + size) in
      let those = arms_from r takes first ls in
      let long = arms_from_length r takes first ls in
      let last = p.position + 2 * length ls in
      let w = ups_within N.write d low high p.next (p.next + length those) keeps.writes a (omega arith) in
      let rd = ups_within N.read d low high p.next (p.next + length those) keeps.reads a (omega arith) in
      let k = loops_to s open_ones in
      let one = top_by N p.stack in
      let rs = (theirs s).results in
      let last_is : N.position last ≡ up e p.position + 2 * length ls = keeps.goes last (omega arith) ∙ up_sum e p.position (2 * length ls) in
      let first_is : up e first ≡ up e p.position + (2 * length ls + branch_size rs (slice_get takes default))
      = up_sum e p.position (2 * length ls + size) ∙ ap (λ r. up e p.position + (2 * length ls + branch_size r (slice_get takes default))) (sym keeps.results) in
      let tail = sym (below_by N 1 p.stack) in
      map-append (renamed N) (chain (top p.stack) p.next those last p.position depth) (to_label s.shapes s.number open_ones (drop 1 p.stack) default ++ arms s.shapes s.number open_ones (drop 1 p.stack) ls)
      ∙ ap₂ (λ (x y : List Command). x ++ y)
      (chain_by N d e (top p.stack) p.next 0 those last p.position depth w rd keeps.goes le
      ∙ ap₂ (λ u v. chain_from u (up d p.next) 0 v (N.position last) (up e p.position) depth) (sym one) (arms_from_by takes first ls (omega arith) ∙ ap (λ k. arms_from rs takes k ls) first_is)
      ∙ ap₂ (λ u m. chain_from (top (moved_stack N p.stack)) (up d p.next) 0 (arms_from rs takes (up e p.position + (2 * length ls + branch_size rs (slice_get takes default))) ls) u (up e p.position) (min 6 m)) last_is (sym k)
      ∙ ap (λ t. chain_from (top (moved_stack N p.stack)) (up d p.next) 0 (arms_from rs t (up e p.position + (2 * length ls + branch_size rs (slice_get t default))) ls) (up e p.position + 2 * length ls) (up e p.position) (mark_of (targets_to s open_ones)))
      (sym (takes_to s open_ones)))
      (map-append (renamed N) (to_label s.shapes s.number open_ones (drop 1 p.stack) default) (arms s.shapes s.number open_ones (drop 1 p.stack) ls)
      ∙ ap₂ (λ (x y : List Command). x ++ y)
      (label_by open_ones (drop 1 p.stack) default ready ∙ ap (λ st. to_label s.shapes_in s.number_in (targets_to s open_ones) st default) tail)
      (arms_by open_ones (drop 1 p.stack) ls ready ∙ ap (λ st. arms s.shapes_in s.number_in (targets_to s open_ones) st ls) tail))
  leaving_by open_ones item p ready le a b = refl
