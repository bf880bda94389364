-- A tree that stands in a whole with other numbers: its functions become the same commands there but for numbers.
use Rattle.std.proofs.Common.{◌≡◌, ℕ, zero, suc, ◌+◌, ◌<◌, ◌≤◌, Bool, true, false, List, [], ◌∷◌, ◌++◌, length, map, reverse, replicate, Option, Some, None, slice_get, refl, sym, ap, ap₂, ◌∙◌, subst, arith, length-append}
use Rattle.std.specs.Prelude.{IfSome, if◌then◌else◌, nat_lt, option_map, unwrap_or}
use Rattle.std.proofs.lemmas.Bool.{ltb-true, ltb-false}
use Rattle.std.proofs.lemmas.List.{length-map, length-replicate, map-append}
use Rattle.std.proofs.lemmas.Option.{slice_get_within}
use Rattle.bl_wasm.specs.Linked.{IsFunction, IsLinked, global_type, seen}
use Rattle.bl_wasm.specs.Typing.{Context, integer}
use Rattle.bl_wasm.specs.Validity.{locals_of}
use Rattle.bl_wasm.specs.declared.instruction.Instr.{Instr}
use Rattle.bl_wasm.specs.declared.instruction.Instr.TheVariants.{Block, Loop, If, Call, CallIndirect, LocalGet, LocalSet, LocalTee, GlobalGet, GlobalSet, Load, Store, MemorySize, MemoryGrow}
use Rattle.bl_wasm.specs.declared.linked.Function.{Function}
use Rattle.bl_wasm.specs.declared.linked.Tree.{Tree}
use Rattle.bl_program.specs.declared.command.Command.{Command}
use Rattle.bl_program.specs.declared.command.Operand.{Operand}
use Rattle.bl_program.specs.declared.command.Operand.TheVariants.{Const}
use Rattle.bl_access.specs.Templates.{jump_to, shift}
use Rattle.bl_access.proofs.Moving.{Ups, up, up_shift, up_sum}
use Rattle.bl_emit.specs.Shapes.{Counts, Shape, Slot, armed, bottom, local, mistyped, result, uninitialized}
use Rattle.bl_emit.specs.Constructs.{moves, outs, pad, point}
use Rattle.bl_emit.specs.LoweredBodies.{Body, Extent, Lowered, Reached, low, off, on}
use Rattle.bl_emit.specs.Numbers.{blocks, body_of, counts, counts_of, function_variables, memory_in, reserve_in, shape, start_at, wanted}
use Rattle.bl_emit.proofs.Lists.{shift_is}
use Rattle.bl_lower.specs.Trees.{function_def, last, low_body, low_function, low_functions}
use Rattle.bl_lower.proofs.BodyLayout.{ArmsFit}
use Rattle.bl_lower.proofs.FunctionPlaces.{arms_at, counts_are, extent_is, locals_are, results_are, room_of, shaped, total_some}
use Rattle.bl_lower.proofs.Sizes.{Size}
use Rattle.bl_lower.proofs.Templates.{ArmsExist, arms_exist}
use Rattle.bl_lower.proofs.TypedItems.{Sound}
use Rattle.bl_iface.specs.JoinedProgram.{Renaming, renamed}
use Rattle.bl_wasm.specs.IndexMaps.{Names}
use Rattle.bl_rename.specs.Renamings.{function_by}
use Rattle.bl_whole.specs.JoinedTree.{behind}
use Rattle.bl_whole.proofs.RenamedTemplates.{moved_all, moved_stack, moves_by, outs_by, padded_by}
use Rattle.bl_whole.proofs.Settings.{AllFew, AllLead, Fits, FitsIn, Leads, Moves, Setting, body_by, reached_to}
use Rattle.bl_whole.proofs.RenamedNames.{Named, nested_by}
use Rattle.bl_whole.proofs.RenamedBodies.{low_by, lowered_to}
use Rattle.bl_whole.proofs.PartTrees.{Placed, alike_at, blocks_at, c, counts_same, functions_within, in_body, is, setting, slots_there, there, types_within}

-- what its commands read, write and call there
pub record Sits (part whole : Tree) (names : Names) (memories tables : ℕ) (at_ : ℕ → ℕ) (n : Renaming) (vars commands : ℕ) : Type 0 where
  pub globals_read : (x : ℕ) → x < length part.globals → n.read x ≡ names.global x
  pub globals_write : (x : ℕ) → x < length part.globals → n.write x ≡ names.global x
  pub sizes_read : (m : ℕ) → m < length part.memories → n.read (length part.globals + m) ≡ length whole.globals + (memories + m)
  pub sizes_write : (m : ℕ) → m < length part.memories → n.write (length part.globals + m) ≡ length whole.globals + (memories + m)
  pub memory : (m : ℕ) → n.memory m ≡ memories + m
  pub memory_at : (m : ℕ) → m < length part.memories → slice_get whole.memories (memories + m) ≡ slice_get part.memories m
  pub callee : (f : ℕ) → n.callee f ≡ names.function f
  pub first : (f : ℕ) → f < length part.functions → (shape whole (at_ f)).first ≡ up vars (shape part f).first
  pub entry : (f : ℕ) → f < length part.functions → (shape whole (at_ f)).entry ≡ up commands (shape part f).entry
  pub writes : (f : ℕ) → f < length part.functions → Ups n.write vars (shape part f).first (shape part f).limit
  pub reads : (f x : ℕ) → f < length part.functions → (shape part f).first ≤ x → x < (shape part f).limit
      → (result (shape part f) 0 ≤ x → x < result (shape part f) (shape part f).results → ⊥) → n.read x ≡ up vars x
  pub results : (f i : ℕ) → f < length part.functions → i < (shape part f).results → n.read (result (shape part f) i) ≡ result (shape whole (names.function f)) i
  pub goes : (p : ℕ) → 7 ≤ p → n.position p ≡ up commands p
  pub traps : (p : ℕ) → p < 7 → n.position p ≡ p
  pub next : (k : ℕ) → at_ (suc k) ≡ suc (at_ k)

module _ (part whole : Tree) (names : Names) (memories tables : ℕ) (at_ : ℕ → ℕ) (linked : IsLinked part) (placed : Placed part whole names memories tables at_) (n : Renaming) (vars commands : ℕ)
    (sits : Sits part whole names memories tables at_ n vars commands) where
  module _ (f : ℕ) (function : Function) (exists : slice_get part.functions f ≡ Some function) (within : f < length part.functions) where
    abbrev s : Setting
    s = setting part whole names memories tables at_ linked placed n vars commands f function exists

    abbrev cc_ : Context
    cc_ = c part whole names memories tables at_ linked placed n vars commands f function exists

    abbrev moved : Function
    moved = function_by (behind names memories tables) function

    abbrev Mine : Shape
    Mine = shape part f

    abbrev There : Shape
    There = shape whole (at_ f)

    abbrev is_one : IsFunction part function
    is_one = is part whole names memories tables at_ linked placed n vars commands f function exists

    there_is : slice_get whole.functions (at_ f) ≡ Some moved
    there_is = there part whole names memories tables at_ linked placed n vars commands f function exists

    same : counts whole (at_ f) ≡ counts part f
    same = counts_same part whole names memories tables at_ linked placed n vars commands f function exists

    params_same : There.params ≡ Mine.params
    params_same = ap (λ (c : Counts). c.params) same

    outcomes_same : There.results ≡ Mine.results
    outcomes_same = ap (λ (c : Counts). c.results) same

    locals_same : There.locals ≡ Mine.locals
    locals_same = locals_are whole (at_ f) moved there_is ∙ sym (locals_are part f function exists)

    -- ---- own variables

    reads_up : Ups n.read vars (bottom Mine) Mine.limit
    reads_up x low high = sits.reads f x within (omega arith) high (λ from to. omega arith)

    writes_up : Ups n.write vars (bottom Mine) Mine.limit
    writes_up x low high = sits.writes f within x (omega arith) high

    pub keeps : Moves s
    keeps = record { results = outcomes_same; writes = writes_up; reads = reads_up; goes = sits.goes; traps = sits.traps }

    locals_long : length cc_.locals ≡ Mine.params + Mine.locals
    locals_long =
        let a = length-append (map integer is_one.type.params) (locals_of function.code) in
        let b = length-map is_one.type.params integer in
        let l = locals_are part f function exists in
        let p : Mine.params ≡ length is_one.type.params = ap (λ (c : Counts). c.params) (counts_are part f function exists ∙ ap counts_of is_one.exists) in
        omega arith

    local_up : (x : ℕ) → local There x ≡ up vars (local Mine x)
    local_up x =
        ap₂ (λ p r. if nat_lt x p then There.first + x else There.first + r + x) params_same outcomes_same
        ∙ ap (λ k. if nat_lt x Mine.params then k + x else k + Mine.results + x) (sits.first f within) ∙ by (nat_lt x Mine.params)
      where
        by : (b : Bool) → (if b then up vars Mine.first + x else up vars Mine.first + Mine.results + x) ≡ up vars (if b then Mine.first + x else Mine.first + Mine.results + x)
        by true = sym (up_sum vars Mine.first x)
        by false = sym (up_sum vars (Mine.first + Mine.results) x ∙ ap (λ k. k + x) (up_sum vars Mine.first Mine.results))

    -- a local is the function's own, and none of its results
    record IsLocal (x : ℕ) : Type 0 where
      low : Mine.first ≤ local Mine x
      high : local Mine x < Mine.limit
      apart : result Mine 0 ≤ local Mine x → local Mine x < result Mine Mine.results → ⊥

    local_is : (x : ℕ) → x < length cc_.locals → IsLocal x
    local_is x lt = by (nat_lt x Mine.params) refl
      where
        room : bottom Mine ≤ Mine.limit
        room = room_of part f

        by : (b : Bool) → nat_lt x Mine.params ≡ b → IsLocal x
        by true e =
            let less = ltb-true x Mine.params e in
            let is_it : local Mine x ≡ Mine.first + x = ap (λ b. if b then Mine.first + x else Mine.first + Mine.results + x) e in
            let r = room in
            record { low = omega arith; high = omega arith; apart = λ from to. omega arith }
        by false e =
            let more = ltb-false x Mine.params e in
            let is_it : local Mine x ≡ Mine.first + Mine.results + x = ap (λ b. if b then Mine.first + x else Mine.first + Mine.results + x) e in
            let r = room in
            let long = locals_long in
            record { low = omega arith; high = omega arith; apart = λ from to. omega arith }

    local_read : (x : ℕ) → x < length cc_.locals → n.read (local Mine x) ≡ local There x
    local_read x lt = let l = local_is x lt in sits.reads f (local Mine x) within l.low l.high l.apart ∙ sym (local_up x)

    local_write : (x : ℕ) → x < length cc_.locals → n.write (local Mine x) ≡ local There x
    local_write x lt = let l = local_is x lt in sits.writes f within (local Mine x) l.low l.high ∙ sym (local_up x)

    -- ---- the memory

    abbrev number_of : Option ℕ → ℕ
    number_of o = unwrap_or o 0

    memory_mine : Mine.memory ≡ number_of function.memory
    memory_mine = ap memory_in exists

    memory_there : There.memory ≡ number_of (option_map (λ m. memories + m) function.memory)
    memory_there = ap memory_in there_is

    memory_moved : (o : Option ℕ) → IfSome o (λ m. m < length part.memories) → 1 ≤ seen o → (number_of o < length part.memories) × (number_of (option_map (λ m. memories + m) o) ≡ memories + number_of o)
    memory_moved None h le = absurd (omega arith)
    memory_moved (Some m) h le = (h, refl)

    record HasMemory : Type 0 where
      exists_ : Mine.memory < length part.memories
      is_there : There.memory ≡ memories + Mine.memory

    has_memory : 1 ≤ cc_.memories → HasMemory
    has_memory some =
        let m = memory_moved function.memory is_one.memory some in
        record {
          exists_ = subst (λ k. k < length part.memories) (sym memory_mine) m.0;
          is_there = memory_there ∙ m.1 ∙ ap (λ k. memories + k) (sym memory_mine);
        }

    size_read : HasMemory → n.read Mine.size ≡ There.size
    size_read h = sits.sizes_read Mine.memory h.exists_ ∙ ap (λ k. length whole.globals + k) (sym h.is_there)

    size_write : HasMemory → n.write Mine.size ≡ There.size
    size_write h = sits.sizes_write Mine.memory h.exists_ ∙ ap (λ k. length whole.globals + k) (sym h.is_there)

    number_is : HasMemory → n.memory Mine.memory ≡ There.memory
    number_is h = sits.memory Mine.memory ∙ sym h.is_there

    reserve_is : HasMemory → There.reserve ≡ Mine.reserve
    reserve_is h = ap reserve_in (ap (slice_get whole.memories) h.is_there ∙ sits.memory_at Mine.memory h.exists_)

    -- ---- calls

    leads : (g : ℕ) → g < length part.functions → Leads s g
    leads g lt = record {
      alike = alike_at part whole names memories tables at_ linked placed n vars commands f function exists g lt;
      callee = sits.callee g;
      reads = λ i few. sits.results g i lt few;
    }

    all_lead : (slots : List Slot) → ArmsExist part slots → AllLead s slots
    all_lead [] h = tt
    all_lead (armed g ∷ slots) h = (leads g (let long = length-map part.functions (function_def part) in let lt = h.0 in omega arith), all_lead slots h.1)
    all_lead (uninitialized ∷ slots) h = all_lead slots h
    all_lead (mistyped ∷ slots) h = all_lead slots h

    all_few : (w : Counts) (slots : List Slot) → ArmsFit (shaped part) w slots → AllFew s w.results slots
    all_few w [] h = tt
    all_few w (armed g ∷ slots) h = (let e = h.1 in omega arith, all_few w slots h.2)
    all_few w (uninitialized ∷ slots) h = all_few w slots h
    all_few w (mistyped ∷ slots) h = all_few w slots h

    -- ---- items

    fits : (item : Instr) → Sound cc_ item → Named cc_ item → Fits s item
    fits (Block r) h k = blocks_at part whole names memories tables at_ linked placed r k.0 k.1
    fits (Loop r) h k = blocks_at part whole names memories tables at_ linked placed r k.0 k.1
    fits (If r) h k = blocks_at part whole names memories tables at_ linked placed r k.0 k.1
    fits (Call g) h k = leads g (functions_within part whole names memories tables at_ linked placed n vars commands f function exists g h)
    fits (CallIndirect i) h k =
        let lt = types_within part whole names memories tables at_ linked placed i k.0 k.1 in (
          ap counts_of (placed.types i lt),
          slots_there part whole names memories tables at_ linked placed n vars commands f function exists i lt,
          all_lead (Mine.slots i) (arms_exist part (slice_get part.functions f) i),
          all_few (wanted part i) (Mine.slots i) (arms_at part (slice_get part.functions f) i),
        )
    fits (LocalGet x) h k = local_read x h
    fits (LocalSet x) h k = local_write x h
    fits (LocalTee x) h k = local_write x h
    fits (GlobalGet x) h k = sits.globals_read x (let long = length-map part.globals global_type in omega arith)
    fits (GlobalSet x) h k = sits.globals_write x (let long = length-map part.globals global_type in omega arith)
    fits (Load kind argument) h k = let m = has_memory h.1 in (number_is m, size_read m)
    fits (Store kind argument) h k = let m = has_memory h.1 in (number_is m, size_read m)
    fits MemorySize h k = size_read (has_memory h)
    fits MemoryGrow h k = let m = has_memory h in (size_read m, size_write m, reserve_is m)
    fits item h k = tt

    fits_body : FitsIn s (body_of part function)
    fits_body = in_body part whole names memories tables at_ linked placed n vars commands f function exists (Fits s) fits

    -- ---- the commands of the function

    start_up : start_at whole (at_ f) ≡ up commands (start_at part f)
    start_up =
        ap₂ (λ l e. suc (shift l e)) locals_same (sits.entry f within) ∙ ap suc (sym (up_shift commands Mine.locals Mine.entry))

    start_behind : 7 ≤ start_at part f
    start_behind = let e = shift_is Mine.locals Mine.entry in omega arith

    opens_up : There.first + There.params + There.results ≡ up vars (Mine.first + Mine.params + Mine.results)
    opens_up =
        ap₂ (λ p r. There.first + p + r) params_same outcomes_same ∙ ap (λ k. k + Mine.params + Mine.results) (sits.first f within)
        ∙ sym (up_sum vars (Mine.first + Mine.params) Mine.results ∙ ap (λ k. k + Mine.results) (up_sum vars Mine.first Mine.params))

    bottom_up : bottom There ≡ up vars (bottom Mine)
    bottom_up = ap₂ (λ a b. a + b) opens_up locals_same ∙ sym (up_sum vars (Mine.first + Mine.params + Mine.results) Mine.locals)

    zeros : (k : ℕ) → moved_stack n (replicate k (Const 0)) ≡ replicate k (Const 0)
    zeros zero = refl
    zeros (suc k) = ap (λ l. Const 0 ∷ l) (zeros k)

    prologue_by : moved_all n (moves 0 (Mine.first + Mine.params + Mine.results) (replicate Mine.locals (Const 0)) ++ jump_to (start_at part f) ∷ [])
        ≡ moves 0 (There.first + There.params + There.results) (replicate There.locals (Const 0)) ++ jump_to (start_at whole (at_ f)) ∷ []
    prologue_by =
        let first = Mine.first + Mine.params + Mine.results in
        let those : List Operand = replicate Mine.locals (Const 0) in
        let many = length-replicate {A = Operand} Mine.locals (Const 0) in
        let room = room_of part f in
        map-append (renamed n) (moves 0 first those) (jump_to (start_at part f) ∷ [])
        ∙ ap₂ (λ (x y : List Command). x ++ y)
        (moves_by n vars 0 first those (λ x low high. sits.writes f within x (omega arith) (omega arith))
        ∙ ap₂ (λ k (l : List Operand). moves 0 k l) (sym opens_up) (zeros Mine.locals ∙ ap (λ k. replicate k (Const 0)) (sym locals_same)))
        (ap (λ q. jump_to q ∷ []) (sits.goes (start_at part f) start_behind ∙ sym start_up))

    last_by : (reached : Reached) → moved_all n (last Mine.results reached) ≡ last There.results (reached_to s reached)
    last_by (on q) = outs_by n 0 0 (reverse (pad Mine.results q.stack)) ∙ ap (outs 0 0) (padded_by n Mine.results q.stack)
        ∙ ap (λ k. outs 0 0 (reverse (pad k (moved_stack n q.stack)))) (sym outcomes_same)
    last_by (off next) = refl

    body_is : lowered_to s keeps (low_body part f function) ≡ low_body whole (at_ f) moved
    body_is =
        let start = point (start_at part f) [] (bottom Mine) in
        let room : bottom Mine + (Size (blocks part) (shape part) f [] (body_of part function)).new ≤ Mine.limit = omega (
          arith,
          total_some (function_variables part) part.functions f function exists,
          ap (λ (e : Extent). e.new) (extent_is part f function exists),
          ap (λ (c : Counts). c.params) (counts_are part f function exists),
          results_are part f function exists,
          locals_are part f function exists,
        ) in
        low_by s keeps [] (body_of part function) start fits_body tt start_behind (omega arith) room
        ∙ ap₂ (λ p x. low (blocks whole) (shape whole) (at_ f) [] (body_by names (body_of part function)) (point p [] x)) (sym start_up) (sym bottom_up)
        ∙ ap (λ (b : Body). low (blocks whole) (shape whole) (at_ f) [] b (point (start_at whole (at_ f)) [] (bottom There))) (sym (nested_by names function.code.items))

    pub function_is : moved_all n (low_function part f function) ≡ low_function whole (at_ f) moved
    function_is =
        let w = low_body part f function in
        let prologue = moves 0 (Mine.first + Mine.params + Mine.results) (replicate Mine.locals (Const 0)) ++ jump_to (start_at part f) ∷ [] in
        map-append (renamed n) prologue (w.commands ++ last Mine.results w.reached)
        ∙ ap₂ (λ (x y : List Command). x ++ y) prologue_by
        (map-append (renamed n) w.commands (last Mine.results w.reached) ∙ ap (λ (y : List Command). moved_all n w.commands ++ y) (last_by w.reached)
        ∙ ap (λ (l : Lowered). l.commands ++ last There.results l.reached) body_is)

  -- ---- all functions

  functions_from : (functions : List Function) (k : ℕ) → ((i : ℕ) (function : Function) → slice_get functions i ≡ Some function → slice_get part.functions (k + i) ≡ Some function)
      → moved_all n (low_functions part k functions) ≡ low_functions whole (at_ k) (map (function_by (behind names memories tables)) functions)
  functions_from [] k has = refl
  functions_from (function ∷ functions) k has =
      let here : k + 0 ≡ k = omega arith in
      let exists : slice_get part.functions k ≡ Some function = ap (slice_get part.functions) (sym here) ∙ has 0 function refl in
      let within = slice_get_within part.functions k function exists in
      map-append (renamed n) (low_function part k function) (low_functions part (suc k) functions)
      ∙ ap₂ (λ (x y : List Command). x ++ y) (function_is k function exists within)
      (functions_from functions (suc k) (λ i g e. let shifted : suc k + i ≡ k + suc i = omega arith in ap (slice_get part.functions) shifted ∙ has (suc i) g e)
      ∙ ap (λ k. low_functions whole k (map (function_by (behind names memories tables)) functions)) (sits.next k))

  pub functions_are : moved_all n (low_functions part 0 part.functions) ≡ low_functions whole (at_ 0) (map (function_by (behind names memories tables)) part.functions)
  functions_are = functions_from part.functions 0 (λ i function e. let same : 0 + i ≡ i = omega arith in ap (slice_get part.functions) same ∙ e)
