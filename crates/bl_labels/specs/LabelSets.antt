-- Sets of what labels name.
use Rattle.std.specs.Prelude.{◌≡◌, ℕ, ◌+◌, ◌*◌, ◌^◌, ◌<◌, ◌≤◌, false, List}
use Rattle.std.specs.FinSet.{FinSet, contains}
use Rattle.std.specs.Ordering.{nat_cmp}
use Rattle.bl_labels.specs.LabelledPlaces.{is_listed, is_place}
use Rattle.bl_labels.specs.declared.labels.Labels.{Labels}
use Rattle.bl_labels.specs.declared.labels.Place.{Place}

-- the number of a place
abbrev pub key : ℕ → ℕ → ℕ
key function index = function * 2 ^ 32 + index

-- the set has the numbers of those places, whose indices are of 32 bits
pub record HoldsPlaces (set : FinSet nat_cmp) (places : List Place) : Type 0 where
  pub near : (function index : ℕ) → index < 2 ^ 32 → contains set (key function index) ≡ is_place places function index
  pub far : (function index : ℕ) → 2 ^ 32 ≤ index → is_place places function index ≡ false

-- the set has those numbers
pub record HoldsNumbers (set : FinSet nat_cmp) (numbers : List ℕ) : Type 0 where
  pub is : (number : ℕ) → contains set number ≡ is_listed numbers number

-- labels by their lists
abbrev pub labels_with : List Place → List ℕ → List ℕ → List Place → List ℕ → Labels
labels_with params globals memories results demanded = record {
  params = params;
  globals = globals;
  memories = memories;
  results = results;
  demanded = demanded;
}
