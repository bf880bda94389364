-- Programs of instructions that are selected from programs of commands, and plain runs along commands that have templates: Set, Load, Store, Test
-- and Jump. The other commands (Arg, Call, Out, Ret, Trap) have no template.
use Rattle.std.specs.Prelude.{◌≡◌, ℕ, zero, suc, ◌+◌, true, false, List, [], length, Some}
use Rattle.bl_base.specs.Runs.{goes, StepsTo}
use Rattle.bl_ops.specs.Access.{is_load}
use Rattle.bl_program.specs.Layout.{base, command_at}
use Rattle.bl_program.specs.Steps.{Plain, plain_step}
use Rattle.bl_program.specs.declared.command.Command.{Command}
use Rattle.bl_program.specs.declared.command.Command.TheVariants.{Set, Load, Store, Test, Jump}
use Rattle.bl_program.specs.declared.definitions.ProgramParts.{ProgramParts as Program}
use Rattle.bl_x64.specs.declared.instruction.Instruction.{Instruction}
use Rattle.bl_select.specs.Frames.{Frame, Placing, IsPlacing, Assigns, Passes, source_of, IsSource}
use Rattle.bl_select.specs.Simulation.{IsWithin}
use Rattle.bl_select.specs.StraightRuns.{Stands}
use Rattle.bl_select.specs.Templates.{set_template, load_template, store_template, test_template, jump_template}

-- what was chosen: the frame, the placing at each position, and the number of the first instruction of each command
pub record Selection : Type 0 where
  pub frame : Frame
  pub placing : ℕ → Placing
  pub begins : ℕ → ℕ

-- the instructions of a command at a position
abbrev pub template_of : Program → Selection → ℕ → Command → List Instruction
template_of program e position (Set mark op x a b c) =
    let p = e.placing position in
    set_template mark.protect op ((e.placing (suc position)).location x.0) (source_of p a) (source_of p b) (source_of p c)
template_of program e position (Load mark kind memory x offset a) =
    load_template mark.protect kind ((e.placing (suc position)).location x.0) (base program memory + offset) (source_of (e.placing position) a)
template_of program e position (Store kind memory offset a b) =
    store_template kind (base program memory + offset) (source_of (e.placing position) a) (source_of (e.placing position) b)
template_of program e position (Test a one other) = test_template (source_of (e.placing position) a) (e.begins one.0) (e.begins other.0)
template_of program e position (Jump to) = jump_template (e.begins to.0)
template_of program e position command = []

-- the conditions on the placings before and after a command, on its operands, and on the kind of its access
abbrev pub ArePlaced : Program → Selection → ℕ → Command → Type 0
ArePlaced program e position (Set mark op x a b c) =
    Assigns (e.placing position) (e.placing (suc position)) x.0 × IsSource (e.placing position) a × IsSource (e.placing position) b × IsSource (e.placing position) c
ArePlaced program e position (Load mark kind memory x offset a) =
    Assigns (e.placing position) (e.placing (suc position)) x.0 × IsSource (e.placing position) a × (is_load kind ≡ true)
ArePlaced program e position (Store kind memory offset a b) =
    Passes (e.placing position) (e.placing (suc position)) × IsSource (e.placing position) a × IsSource (e.placing position) b × (is_load kind ≡ false)
ArePlaced program e position (Test a one other) =
    Passes (e.placing position) (e.placing one.0) × Passes (e.placing position) (e.placing other.0) × IsSource (e.placing position) a
ArePlaced program e position (Jump to) = Passes (e.placing position) (e.placing to.0)
ArePlaced program e position command = ⊥

-- the access of a command, if it has one, lies in the space of all memories
abbrev pub LiesWithin : Program → Plain → Command → Type 0
LiesWithin program s (Load mark kind memory x offset a) = IsWithin program s kind memory offset a
LiesWithin program s (Store kind memory offset a b) = IsWithin program s kind memory offset a
LiesWithin program s command = Unit {0}

-- unless the command is a Test or a Jump, the template of the next position begins right after that of this command
abbrev pub Continues : Selection → ℕ → List Instruction → Command → Type 0
Continues e position template (Test a one other) = Unit {0}
Continues e position template (Jump to) = Unit {0}
Continues e position template command = e.begins (suc position) ≡ length template + e.begins position

-- a state of a plain run at which a program of instructions has the template of the command
pub record IsChosen (program : Program) (e : Selection) (code : List Instruction) (s : Plain) : Type 0 where
  pub command : Command
  pub is : command_at program s.position ≡ Some command
  pub stands : Stands code (e.begins s.position) (template_of program e s.position command)
  pub continues : Continues e s.position (template_of program e s.position command) command
  pub placed : ArePlaced program e s.position command

-- such a state, at which the access of the command lies in the space of all memories
pub record IsSelected (program : Program) (e : Selection) (code : List Instruction) (s : Plain) : Type 0 where
  pub chosen : IsChosen program e code s
  pub open chosen use *
  pub within : LiesWithin program s command

-- a plain run of n steps, each from a state with a chosen command
abbrev pub RunsChosen : Program → Selection → List Instruction → ℕ → Plain → Plain → Type 0
RunsChosen program e code zero s t = s ≡ t
RunsChosen program e code (suc n) s t = (next : Plain) × (plain_step program s ≡ goes next) × IsChosen program e code s × RunsChosen program e code n next t

-- the same, with accesses that lie in the space of all memories
abbrev pub RunsSelected : Program → Selection → List Instruction → ℕ → Plain → Plain → Type 0
RunsSelected program e code zero s t = s ≡ t
RunsSelected program e code (suc n) s t = (next : Plain) × (plain_step program s ≡ goes next) × IsSelected program e code s × RunsSelected program e code n next t
