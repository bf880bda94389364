-- Registers as lists of lists that are filled as far as there is room for them, and strays beside them.
use Rattle.std.specs.Prelude.{◌≡◌, Bool, true, false, ℕ, suc, ◌/◌, ◌%◌, ◌<◌, ◌≤◌, ◌⊎◌, ◌&&◌, List, [], ◌∷◌, length, if◌then◌else◌, nat_eq, set, slice_index_or, unwrap_or}
use Rattle.std.specs.Map.{lookup}
use Rattle.std.specs.Ordering.{is_eq, nat_cmp}
use Rattle.bl_program.specs.Steps.{written}

-- the page of a variable, which is 512 variables in a row, and its cell there
abbrev pub page_of : ℕ → ℕ
page_of x = x / 512

abbrev pub cell_of : ℕ → ℕ
cell_of x = x % 512

-- the numbers of a depth: branches of 64 leaves, a leaf for a page; and strays, each with its variable
pub record Tree : Type 0 where
  pub branches : List (List (List ℕ))
  pub strays : List (ℕ × ℕ)

abbrev pub bare : Tree
bare = record { branches = []; strays = [] }

-- the leaf of a page
abbrev pub page_in : List (List (List ℕ)) → ℕ → List ℕ
page_in branches page = slice_index_or (slice_index_or branches (page / 64) []) (page % 64) []

-- the branches with another leaf of a page
abbrev pub put_page : List (List (List ℕ)) → ℕ → List ℕ → List (List (List ℕ))
put_page branches page leaf = set branches (page / 64) (set (slice_index_or branches (page / 64) []) (page % 64) leaf)

-- the stray of a variable; 0 where there is none
abbrev pub stray_at : List (ℕ × ℕ) → ℕ → ℕ
stray_at strays x = unwrap_or (lookup (λ variable. is_eq (nat_cmp x variable)) strays) 0

-- the number of a variable: its cell where the leaf has that one, else its stray
abbrev pub in_tree : Tree → ℕ → ℕ
in_tree tree x = slice_index_or (page_in tree.branches (page_of x)) (cell_of x) (stray_at tree.strays x)

-- the number of a variable at a depth
abbrev pub number_at : List Tree → ℕ → ℕ → ℕ
number_at trees depth x = in_tree (slice_index_or trees depth bare) x

-- the numbers of all depths, and a leaf before them of a page at a depth
pub record File : Type 0 where
  pub trees : List Tree
  pub depth : ℕ
  pub page : ℕ
  pub leaf : List ℕ

-- a number of a variable behind a leaf of a page at a depth
abbrev pub behind : ℕ → ℕ → List ℕ → ℕ → ℕ → ℕ → ℕ
behind depth page leaf d x number = if nat_eq depth d && nat_eq page (page_of x) then slice_index_or leaf (cell_of x) number else number

-- the number of a variable at a depth, where the leaf goes before the trees
abbrev pub register_at : File → ℕ → ℕ → ℕ
register_at file d x = behind file.depth file.page file.leaf d x (number_at file.trees d x)

-- the registers with numbers written at a depth from a variable on
abbrev pub filled : (ℕ → ℕ → ℕ) → ℕ → ℕ → List ℕ → ℕ → ℕ → ℕ
filled registers depth from [] = registers
filled registers depth from (number ∷ numbers) = filled (written registers depth from number) depth (suc from) numbers

-- ---- the same numbers, where lists may have got blanks behind their ends

abbrev pub IsSameBranch : List (List ℕ) → List (List ℕ) → Type 0
IsSameBranch old new = (leaf : ℕ) → slice_index_or new leaf [] ≡ slice_index_or old leaf []

abbrev pub Widens : Tree → Tree → Type 0
Widens old new = ((branch : ℕ) → slice_index_or new.branches branch [] ≡ slice_index_or old.branches branch []) × (new.strays ≡ old.strays)

abbrev pub Deepens : List Tree → List Tree → Type 0
Deepens old new = (depth : ℕ) → slice_index_or new depth bare ≡ slice_index_or old depth bare

abbrev pub IsSameTree : Tree → Tree → Type 0
IsSameTree old new = (x : ℕ) → in_tree new x ≡ in_tree old x

abbrev pub AreSame : List Tree → List Tree → Type 0
AreSame old new = (depth x : ℕ) → number_at new depth x ≡ number_at old depth x

-- ---- a number put where there is room for it, if there is

abbrev pub SetsLeaf : Bool → List ℕ → List ℕ → ℕ → ℕ → Type 0
SetsLeaf true old new cell number = (cell < length old) × (new ≡ set old cell number)
SetsLeaf false old new cell number = (length old ≤ cell) × (new ≡ old)

abbrev pub SetsBranch : Bool → List (List ℕ) → List (List ℕ) → ℕ → ℕ → ℕ → Type 0
SetsBranch true old new leaf cell number = (cell < length (slice_index_or old leaf [])) × (new ≡ set old leaf (set (slice_index_or old leaf []) cell number))
SetsBranch false old new leaf cell number = (length (slice_index_or old leaf []) ≤ cell) × (new ≡ old)

-- another number of a variable
abbrev pub Puts : Tree → Tree → ℕ → ℕ → Type 0
Puts old new x number = (v : ℕ) → in_tree new v ≡ (if nat_eq v x then number else in_tree old v)

abbrev pub SetsTree : Bool → Tree → Tree → ℕ → ℕ → Type 0
SetsTree true old new x number = Puts old new x number
SetsTree false old new x number = (length (page_in old.branches (page_of x)) ≤ cell_of x) × (new ≡ old)

-- another number of a variable at a depth
abbrev pub Writes : List Tree → List Tree → ℕ → ℕ → ℕ → Type 0
Writes old new depth x number = (d v : ℕ) → number_at new d v ≡ written (λ d v. number_at old d v) depth x number d v

abbrev pub SetsPages : Bool → List Tree → List Tree → ℕ → ℕ → ℕ → Type 0
SetsPages true old new depth x number = Writes old new depth x number
SetsPages false old new depth x number = new ≡ old

-- a leaf exchanged for another one, where one of the two is empty
abbrev pub SwapsBranch : Bool → List (List ℕ) → List (List ℕ) → ℕ → List ℕ → List ℕ → Type 0
SwapsBranch true old new leaf before after = (leaf < length old) × (new ≡ set old leaf before) × (after ≡ slice_index_or old leaf []) × (before ≡ [] ⊎ after ≡ [])
SwapsBranch false old new leaf before after = (new ≡ old) × (after ≡ before)

-- the numbers of a depth behind a leaf of a page, which stay the same where that leaf becomes another one
abbrev pub SettlesTree : ℕ → List ℕ → List ℕ → Tree → Tree → Type 0
SettlesTree page before after old new = (x : ℕ) → (if nat_eq page (page_of x) then slice_index_or after (cell_of x) (in_tree new x) else in_tree new x)
    ≡ (if nat_eq page (page_of x) then slice_index_or before (cell_of x) (in_tree old x) else in_tree old x)

abbrev pub Settles : ℕ → ℕ → List ℕ → List ℕ → List Tree → List Tree → Type 0
Settles depth page before after old new = (d x : ℕ) → behind depth page after d x (number_at new d x) ≡ behind depth page before d x (number_at old d x)
