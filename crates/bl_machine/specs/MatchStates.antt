-- How the machine stands for a configuration of the rules: what the functions that were entered have lies on one another on
-- its stacks, and what is left to execute is a place of a body.
use Rattle.std.specs.Prelude.{◌≡◌, ℕ, ◌+◌, List, [], ◌∷◌, ◌++◌, length, drop, reverse, slice_get, Some}
use Rattle.bl_base.specs.Runs.{Next, goes, ends, returned, trapped}
use Rattle.bl_wasm.specs.declared.instruction.Instr.{Instr}
use Rattle.bl_wasm.specs.declared.linked.Tree.{Tree}
use Rattle.bl_reduce.specs.Configurations.{Store, ControlLabel, Frame, State, Config, entering, running}
use Rattle.bl_machine.specs.declared.machine.Exit.{Exit}
use Rattle.bl_machine.specs.declared.machine.Activation.{Activation}
use Rattle.bl_machine.specs.declared.machine.Machine.{Machine}
use Rattle.bl_machine.specs.declared.machine.Progress.{Progress}
use Rattle.bl_machine.specs.declared.machine.Progress.TheVariants.{Running, Entering, Returned, Trapped}
use Rattle.bl_machine.specs.Machines.{Stepped}

-- what lies on the stacks up to some function
pub record Stacks : Type 0 where
  pub values : List ℕ
  pub locals : List ℕ
  pub labels : List Exit

abbrev pub stacks_of : Machine → Stacks
stacks_of m = record { values = m.stack; locals = m.locals; labels = m.labels }

-- the values of a function below its innermost label, topmost first
abbrev pub under : List ControlLabel → List ℕ
under [] = []
under (label ∷ labels) = label.below ++ under labels

-- all values of a function, topmost first
abbrev pub values_of : Frame → List ℕ
values_of frame = frame.values ++ under frame.labels

-- a label of a function whose values begin at a height, with the labels round it
pub record IsExit (body : List Instr) (base : ℕ) (label : ControlLabel) (outer : List ControlLabel) (exit : Exit) : Type 0 where
  pub arity : exit.arity ≡ label.arity
  pub place : label.continuation ≡ drop exit.place body
  pub height : exit.height ≡ base + length (label.below ++ under outer)

-- labels of a function, innermost first
abbrev pub AreExits : List Instr → ℕ → List ControlLabel → List Exit → Type 0
AreExits body base [] [] = Unit {0}
AreExits body base (label ∷ labels) (exit ∷ exits) = IsExit body base label labels exit × AreExits body base labels exits
AreExits body base labels exits = ⊥

-- a function that was entered, whose parts lie on those of its callers
pub record IsActivation (tree : Tree) (frame : Frame) (a : Activation) (lower upper : Stacks) : Type 0 where
  pub exists : slice_get tree.functions frame.number ≡ Some frame.function
  pub number : a.function ≡ frame.number
  pub place : frame.rest ≡ drop a.place frame.function.code.items
  pub arity : a.arity ≡ frame.arity
  pub values : upper.values ≡ lower.values ++ reverse (values_of frame)
  pub locals : upper.locals ≡ lower.locals ++ frame.locals
  pub exits : List Exit
  pub labels : upper.labels ≡ lower.labels ++ reverse exits
  pub are_exits : AreExits frame.function.code.items (length lower.values) frame.labels exits
  pub values_below : a.values ≡ length lower.values
  pub locals_below : a.locals ≡ length lower.locals
  pub labels_below : a.labels ≡ length lower.labels

-- nothing lies there
pub record IsBare (base_stacks : Stacks) : Type 0 where
  pub values : base_stacks.values ≡ []
  pub locals : base_stacks.locals ≡ []
  pub labels : base_stacks.labels ≡ []

-- the callers, innermost first
abbrev pub AreActivations : Tree → List Frame → List Activation → Stacks → Type 0
AreActivations tree [] [] upper = IsBare upper
AreActivations tree (frame ∷ frames) (a ∷ others) upper =
    (lower : Stacks) × IsActivation tree frame a lower upper × AreActivations tree frames others lower
AreActivations tree frames others upper = ⊥

-- a function executes
pub record IsState (tree : Tree) (m : Machine) (state : State) : Type 0 where
  pub memories : m.memories ≡ state.store.memories
  pub globals : m.globals ≡ state.store.globals
  pub lower : Stacks
  pub current : IsActivation tree state.frame m.current lower (stacks_of m)
  pub callers : AreActivations tree state.callers (reverse m.callers) lower

-- a function is about to be entered, whose arguments are the topmost locals
pub record IsEntry (tree : Tree) (m : Machine) (store : Store) (arguments : List ℕ) (callers : List Frame) : Type 0 where
  pub memories : m.memories ≡ store.memories
  pub globals : m.globals ≡ store.globals
  pub lower : Stacks
  pub values : m.stack ≡ lower.values
  pub locals : m.locals ≡ lower.locals ++ arguments
  pub labels : m.labels ≡ lower.labels
  pub callers_are : AreActivations tree callers (reverse m.callers) lower

-- the machine stands for a configuration
abbrev pub match_states : Tree → Progress → Machine → Config → Type 0
match_states tree Running m (running state) = IsState tree m state
match_states tree (Entering called) m (entering store number arguments callers) = (called ≡ number) × IsEntry tree m store arguments callers
match_states tree progress m config = ⊥

-- the machine has come where a step of the rules leads
abbrev pub MatchesNext : Tree → Progress → Machine → Next Config → Type 0
MatchesNext tree Running m (goes config) = match_states tree Running m config
MatchesNext tree (Entering number) m (goes config) = match_states tree (Entering number) m config
MatchesNext tree Returned m (ends outcome) = outcome ≡ returned m.stack m.memories
MatchesNext tree (Trapped kind) m (ends outcome) = outcome ≡ trapped kind m.memories
MatchesNext tree progress m next = ⊥

abbrev pub simulates : Tree → Stepped → Next Config → Type 0
simulates tree stepped next = MatchesNext tree stepped.progress stepped.machine next
