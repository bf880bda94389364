-- One page of the registers that is held before the others.
use Rattle.std.specs.Prelude.{◌≡◌, Bool, true, false, ℕ, ◌<◌, ◌≤◌, ◌&&◌, List, Option, None, if◌then◌else◌, length, nat_eq, set, slice_get}
use Rattle.bl_seq.specs.RegisterTrees.{File, Tree, cell_of, page_of, register_at}
use Rattle.bl_seq.specs.declared.registers.Window.{Window}

-- the number of a variable at a depth, if it has a cell in the window
abbrev pub found : Window → ℕ → ℕ → Option ℕ
found window depth x = if nat_eq window.depth depth && nat_eq window.page (page_of x) then slice_get window.leaf (cell_of x) else None

-- the registers behind a window
abbrev pub seen : List Tree → Window → File
seen trees window = record { trees = trees; depth = window.depth; page = window.page; leaf = window.leaf }

-- the same number for each depth and variable
abbrev pub AreEqual : File → File → Type 0
AreEqual old new = (depth x : ℕ) → register_at new depth x ≡ register_at old depth x

-- a window is at the page of a variable at a depth
pub record IsAt (window : Window) (depth x : ℕ) : Type 0 where
  pub depth_is : window.depth ≡ depth
  pub page_is : window.page ≡ page_of x

-- a window behind a write to a cell that it has
pub record Sets (old new : Window) (depth x number : ℕ) : Type 0 where
  pub holds : IsAt old depth x
  pub room : cell_of x < length old.leaf
  pub new_is : new ≡ record old { leaf = set old.leaf (cell_of x) number }

-- a window without a cell for a variable at a depth
pub record Lacks (window : Window) (depth x : ℕ) : Type 0 where
  pub lacks : IsAt window depth x → length window.leaf ≤ cell_of x

abbrev pub MaySet : Bool → Window → Window → ℕ → ℕ → ℕ → Type 0
MaySet true old new depth x number = Sets old new depth x number
MaySet false old new depth x number = Lacks old depth x × (new ≡ old)
