-- A program's steps look at how many globals it has, and at nothing else of them.
use Rattle.std.proofs.Common.{◌≡◌, ℕ, suc, ◌+◌, Bool, true, false, List, [], ◌∷◌, length, take, Option, Some, None, refl, ap, ◌∙◌}
use Rattle.std.specs.Prelude.{nat_lt, if◌then◌else◌, slice_get}
use Rattle.bl_ops.specs.declared.access.AccessKind.{AccessKind}
use Rattle.bl_program.specs.Layout.{sum_before, first_of, param, result, params_of}
use Rattle.bl_program.specs.Steps.{Registers}
use Rattle.bl_program.specs.declared.command.Command.{Command}
use Rattle.bl_program.specs.declared.command.Command.TheVariants as command
use Rattle.bl_program.specs.declared.command.Operand.{Operand}
use Rattle.bl_program.specs.declared.command.Operand.TheVariants as operand
use Rattle.bl_program.specs.declared.definitions.GlobalDef.{GlobalDef}
use Rattle.bl_program.specs.declared.definitions.ProgramParts.{ProgramParts as Program}
use Rattle.bl_rob.specs.Machines.{State, Fetched, Straight, Branch, at_position, moved, register_of, source_of, fetched, fetched_from, before, fetch, predict, has_room, visible_of, guards, has_store, loads, stores, act, acted, exec_entry, retire_work, retire, directive_step}
use Rattle.bl_rob.specs.Observations.{Rules, go_on, after_by, Observed, see, observed_by}
use Rattle.bl_rob.specs.declared.directive.Directive.{Directive}
use Rattle.bl_rob.specs.declared.directive.Directive.TheVariants.{Fetch, Predict, Exec, Retire}
use Rattle.bl_rob.specs.declared.directive.End.{End}
use Rattle.bl_rob.specs.declared.entry.Entry.{Entry}
use Rattle.bl_rob.specs.declared.entry.Register.{Register}
use Rattle.bl_rob.specs.declared.entry.Source.{Source}
use Rattle.bl_rob.specs.declared.entry.Source.TheVariants.{Holds}
use Rattle.bl_rob.specs.declared.entry.Work.{Work}
use Rattle.bl_rob.specs.declared.entry.Work.TheVariants.{Nop, Assign, Load, Store}
use Rattle.bl_rob.specs.declared.front.Front.{Front}

both : {A B C : Type 0} (f : A → B → C) (a c : A) (b d : B) → a ≡ c → b ≡ d → f a b ≡ f c d
both f a c b d h k = ap (λ x. f x b) h ∙ ap (f c) k

module _ (program : Program) (globals : List GlobalDef) (same : length globals ≡ length program.globals) where
  abbrev pub with_globals : Program
  with_globals = record program { globals = globals }

  -- ---- what is fetched

  register_same : (depth x : ℕ) → register_of with_globals depth x ≡ register_of program depth x
  register_same depth x =
      ap (λ n. let r : Register = record { depth = if nat_lt x (n + length program.memories) then 0 else depth; var = x } in r) same

  source_same : (depth : ℕ) (a : Operand) → source_of with_globals depth a ≡ source_of program depth a
  source_same depth (operand.Var x) = ap Holds (register_same depth x.0)
  source_same depth (operand.Const number) = refl

  pub first_same : (function : ℕ) → first_of with_globals function ≡ first_of program function
  first_same function = ap (λ n. n + length program.memories + sum_before (λ f. f.vars) program.functions function) same

  param_same : (function index : ℕ) → param with_globals function index ≡ param program function index
  param_same function index = ap (λ n. n + index) (first_same function)

  result_same : (function index : ℕ) → result with_globals function index ≡ result program function index
  result_same function index = ap (λ n. n + params_of program function + index) (first_same function)

  fetched_same : (position : ℕ) (chain : List ℕ) (o : Option Command) → fetched with_globals position chain o ≡ fetched program position chain o
  fetched_same position chain None = refl
  fetched_same position chain (Some (command.Set mark op to a b c)) =
      let depth = suc (length chain) in
      let made : (Register → Source → Source → Source → Fetched) = λ r x y z. Straight (Assign mark.protect op r x y z) (at_position (suc position) chain) in
      both (λ r x. made r x (source_of with_globals depth b) (source_of with_globals depth c)) _ _ _ _ (register_same depth to.0) (source_same depth a)
      ∙ both (made (register_of program depth to.0) (source_of program depth a)) _ _ _ _ (source_same depth b) (source_same depth c)
  fetched_same position chain (Some (command.Load mark kind memory to offset address)) =
      let depth = suc (length chain) in
      both (λ r x. Straight (Load mark.protect kind memory r offset x) (at_position (suc position) chain)) _ _ _ _ (register_same depth to.0) (source_same depth address)
  fetched_same position chain (Some (command.Store kind memory offset address value)) =
      let depth = suc (length chain) in
      both (λ x y. Straight (Store kind memory offset x y) (at_position (suc position) chain)) _ _ _ _ (source_same depth address) (source_same depth value)
  fetched_same position chain (Some (command.Test cond one other)) = ap (λ x. Branch x one.0 other.0) (source_same (suc (length chain)) cond)
  fetched_same position chain (Some (command.Arg mark function index value)) =
      let depth = suc (length chain) in
      both (λ n x. Straight (moved mark.protect (suc depth) n x) (at_position (suc position) chain)) _ _ _ _ (param_same function index) (source_same depth value)
  fetched_same position chain (Some (command.Out mark index value)) =
      let depth = suc (length chain) in
      both (λ n x. Straight (moved mark.protect (length chain) n x) (at_position (suc position) chain)) _ _ _ _ (result_same _ index) (source_same depth value)
  fetched_same position chain (Some _) = refl

  before_by : (front : Front) (end : Option End) → fetched_from with_globals front end ≡ fetched_from program front end
  before_by front None = fetched_same front.position front.chain (slice_get program.commands front.position)
  before_by front (Some end) = refl

  -- ---- what is executed and retired

  loads_same : (space : List ℕ) (mask : ℕ) (before protect : Bool) (kind : AccessKind) (memory : ℕ) (to : Register) (offset : ℕ) (o : Option ℕ)
      → loads with_globals space mask before protect kind memory to offset o ≡ loads program space mask before protect kind memory to offset o
  loads_same space mask before protect kind memory to offset None = refl
  loads_same space mask true protect kind memory to offset (Some address) = refl
  loads_same space mask false protect kind memory to offset (Some address) = refl

  stores_same : (mask : ℕ) (kind : AccessKind) (memory offset : ℕ) (o p : Option ℕ)
      → stores with_globals mask kind memory offset o p ≡ stores program mask kind memory offset o p
  stores_same mask kind memory offset None p = refl
  stores_same mask kind memory offset (Some address) None = refl
  stores_same mask kind memory offset (Some address) (Some value) = refl

  act_same : (registers : Registers) (space : List ℕ) (entries : List Entry) (work : Work)
      → act with_globals registers space entries work ≡ act program registers space entries work
  act_same registers space entries (Load protect kind memory to offset address) =
      loads_same space (guards entries) (has_store entries) protect kind memory to offset (visible_of registers entries address)
  act_same registers space entries (Store kind memory offset address value) =
      stores_same (guards entries) kind memory offset (visible_of registers entries address) (visible_of registers entries value)
  act_same registers space entries _ = refl

  exec_same : (n : ℕ) (s : State) (o : Option Entry) → exec_entry with_globals n s o ≡ exec_entry program n s o
  exec_same n s None = refl
  exec_same n s (Some entry) = ap (acted n s entry) (act_same s.registers s.space (take n s.buffer) entry.work)

  retired_same : (s : State) (entries : List Entry) (work : Work) → retire_work with_globals s entries work ≡ retire_work program s entries work
  retired_same s entries Nop = refl
  retired_same s entries _ = refl

  retire_same : (s : State) (entries : List Entry) → retire with_globals s entries ≡ retire program s entries
  retire_same s [] = refl
  retire_same s (entry ∷ entries) = retired_same s entries entry.work

  -- ---- directives

  pub step_same : (most : ℕ) (s : State) (d : Directive) → directive_step most with_globals s d ≡ directive_step most program s d
  step_same most s Fetch = ap (fetch (has_room most s) s) (before_by s.front s.front.end)
  step_same most s (Predict predicted) = ap (predict (has_room most s) predicted s) (before_by s.front s.front.end)
  step_same most s (Exec n) = exec_same n s (slice_get s.buffer n)
  step_same most s Retire = retire_same s s.buffer

-- ---- lists of directives, by rules of which each step is the same

module _ {O : Type 0} (one other : Rules O) (same_step : (s : State) (d : Directive) → one s d ≡ other s d) where
  go_same : (f g : State → State) (s : State) (o : Option (State × O)) → ((t : State) → f t ≡ g t) → go_on f s o ≡ go_on g s o
  go_same f g s None h = refl
  go_same f g s (Some step) h = h step.0

  pub after_same : (directives : List Directive) (s : State) → after_by one directives s ≡ after_by other directives s
  after_same [] s = refl
  after_same (d ∷ directives) s =
      ap (go_on (after_by one directives) s) (same_step s d)
      ∙ go_same (after_by one directives) (after_by other directives) s (other s d) (after_same directives)

  see_same : (f g : State → Observed O) (place : ℕ) (o : Option (State × O)) → ((t : State) → f t ≡ g t) → see f place o ≡ see g place o
  see_same f g place None h = refl
  see_same f g place (Some step) h = ap (λ (x : Observed O). let y : Observed O = record { made = step.1 ∷ x.made; refused = x.refused } in y) (h step.0)

  pub observed_same : (place : ℕ) (directives : List Directive) (s : State) → observed_by one place directives s ≡ observed_by other place directives s
  observed_same place [] s = refl
  observed_same place (d ∷ directives) s =
      ap (see (observed_by one (suc place) directives) place) (same_step s d)
      ∙ see_same (observed_by one (suc place) directives) (observed_by other (suc place) directives) place
      (other s d) (observed_same (suc place) directives)
