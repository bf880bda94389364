-- Lists that agree in public, as far as a loop has come.
use Rattle.std.proofs.Common.{◌≡◌, ◌∙◌, ℕ, ◌+◌, ◌<◌, ◌≤◌, List, [], ◌∷◌, length, map, Option, Some, None, slice_get, get_or, option_map, below_more, refl, sym, ap, subst, arith}
use Rattle.std.proofs.lemmas.List.{length-map, length-set}
use Rattle.std.proofs.lemmas.Option.{slice_get_within, slice_get-get_or, slice_get-map, slice_get_read, get_or_from_slice_get, same_Some}
use Rattle.std.proofs.lemmas.Slice.Zip.{AllZip-long}
use Rattle.std.specs.List.{fold}
use Rattle.bl_base.specs.Bytes.{patch_over, patched}
use Rattle.bl_base.specs.Fits.{ArgumentFits}
use Rattle.bl_base.specs.Runs.{MemoryState}
use Rattle.bl_base.specs.declared.names.Label.{Label}
use Rattle.bl_base.specs.declared.names.Label.TheVariants.{Public}
use Rattle.bl_base.specs.declared.start.Patch.{Patch}
use Rattle.bl_base.specs.declared.start.Start.{Start}
use Rattle.bl_program.specs.Outcomes.{Agree, IsStart, first_memories, first_memory}
use Rattle.bl_program.specs.declared.definitions.FunctionDef.{FunctionDef}
use Rattle.bl_program.specs.declared.definitions.MemoryDef.{MemoryDef}
use Rattle.bl_program.specs.declared.definitions.ParamDef.{ParamDef}
use Rattle.bl_program.specs.declared.definitions.ProgramParts.{ProgramParts as Program}
use Rattle.bl_twin.specs.PublicAgreement.{AgreeWherePublic}

-- equal items at the places below a number of those things that aren't declared secret
pub record AgreeBelow {A B : Type 0} (label_of : A → Label) (things : List A) (one other : List B) (bound : ℕ) : Type 0 where
  pub each : (index : ℕ) (thing : A) → index < bound → slice_get things index ≡ Some thing → label_of thing ≡ Public
      → slice_get one index ≡ slice_get other index

module _ {A B : Type 0} (label_of : A → Label) (things : List A) (one other : List B) where
  pub below_none : AgreeBelow label_of things one other 0
  below_none = record { each = λ index thing lt. absurd (omega (arith, lt)) }

  pub below_next : (n : ℕ) (thing : A) → AgreeBelow label_of things one other n → slice_get things n ≡ Some thing
      → (label_of thing ≡ Public → slice_get one n ≡ slice_get other n) → AgreeBelow label_of things one other (n + 1)
  below_next n thing below here agree =
      let P : ℕ → Type 0 = λ k. (x : A) → slice_get things k ≡ Some x → label_of x ≡ Public → slice_get one k ≡ slice_get other k in
      let all : (k : ℕ) → k < n + 1 → P k = below_more P n (λ k lt x. below.each k x lt)
      (λ x got is. agree (subst (λ y. label_of y ≡ Public) (same_Some x thing (sym got ∙ here)) is)) in
      record { each = λ index x lt. all index lt x }

  pub below_all : (n : ℕ) → length things ≤ n → AgreeBelow label_of things one other n → AgreeWherePublic label_of things one other
  below_all n le below = record { each = λ index x got. below.each index x (omega (arith, slice_get_within things index x got)) got }

  module _ (n : ℕ) (x : A) (y z : B) (there : slice_get things n ≡ Some x) (first : slice_get one n ≡ Some y) (second : slice_get other n ≡ Some z) where
    -- one thing more
    pub below_step : (label_of x ≡ Public → y ≡ z) → AgreeBelow label_of things one other n → AgreeBelow label_of things one other (n + 1)
    below_step agree below = below_next n x below there (λ is. first ∙ ap (λ w. Some w) (agree is) ∙ sym second)

    -- what is said of one of the things
    pub agree_there : AgreeWherePublic label_of things one other → label_of x ≡ Public → y ≡ z
    agree_there agree is = same_Some y z (sym first ∙ agree.each n x there is ∙ second)

-- the item at a place of a list, and its image
pub item_at : {A : Type 0} (xs : List A) (n : ℕ) (d : A) → n < length xs → slice_get xs n ≡ Some (get_or xs n d)
item_at xs n d lt = slice_get-get_or xs n d lt

pub image_at : {A B : Type 0} (f : A → B) (xs : List A) (n : ℕ) (x : A) → n < length xs → x ≡ get_or xs n x → slice_get (map f xs) n ≡ Some (f x)
image_at f xs n x lt is = slice_get-map f xs n ∙ ap (option_map f) (slice_get_read xs (length xs) n x refl lt is)

-- ---- how many memories there are

patched_count_by : (o : Option MemoryState) (memories : List MemoryState) (patch : Patch) → length (patch_over o memories patch) ≡ length memories
patched_count_by None memories patch = refl
patched_count_by (Some memory) memories patch = length-set memories patch.memory _

patched_count : (memories : List MemoryState) (patches : List Patch) → length (fold patched memories patches) ≡ length memories
patched_count memories [] = refl
patched_count memories (patch ∷ patches) =
    patched_count (patched memories patch) patches ∙ patched_count_by (slice_get memories patch.memory) memories patch

-- as many as the program defines
pub memory_count : (program : Program) (start : Start) → length (first_memories program start) ≡ length program.memories
memory_count program start = patched_count (map first_memory program.memories) start.patches ∙ length-map program.memories first_memory

-- ---- agreement by its parts

abbrev pub ArgumentsAgree : List ParamDef → List ℕ → List ℕ → Type 0
ArgumentsAgree params one other = AgreeWherePublic (λ param. param.label) params one other

abbrev pub MemoriesAgree : List MemoryDef → List MemoryState → List MemoryState → Type 0
MemoriesAgree memories one other = AgreeWherePublic (λ memory. memory.label) memories one other

-- the same of equal lists
pub carried : {A B : Type 0} (label_of : A → Label) (things others : List A) (one same : List B) (other alike : List B)
    → things ≡ others → one ≡ same → other ≡ alike → AgreeWherePublic label_of things one other → AgreeWherePublic label_of others same alike
carried label_of things others one same other alike e f g agree =
    subst (λ l. AgreeWherePublic label_of l same alike) e
    (subst (λ l. AgreeWherePublic label_of things l alike) f (subst (λ l. AgreeWherePublic label_of things one l) g agree))

-- what stands at a function's number
pub there : (all held : List FunctionDef) (n : ℕ) (x y : FunctionDef) → held ≡ all → slice_get all n ≡ Some y → x ≡ get_or held n x
    → slice_get all n ≡ Some x
there all held n x y same got is =
    got ∙ ap (λ z. Some z) (sym (is ∙ ap (λ l. get_or l n x) same ∙ get_or_from_slice_get all n y x got))

module _ (program : Program) (function : ℕ) (defined : FunctionDef) (exists : slice_get program.functions function ≡ Some defined) where
  pub one_function : (start : Start) (fits : IsStart program function start) → fits.defined ≡ defined
  one_function start fits = same_Some fits.defined defined (sym fits.exists ∙ exists)

  -- there are as many arguments as parameters
  pub argument_count : (start : Start) → IsStart program function start → length start.args ≡ length defined.params
  argument_count start fits =
      AllZip-long ArgumentFits (map (λ (p : ParamDef). p.kind) fits.defined.params) start.args fits.fits.arguments
      ∙ length-map fits.defined.params (λ (p : ParamDef). p.kind) ∙ ap (λ (d : FunctionDef). length d.params) (one_function start fits)

  module _ (one other : Start) where
    pub agree_from : IsStart program function one → IsStart program function other → ArgumentsAgree defined.params one.args other.args
        → MemoriesAgree program.memories (first_memories program one) (first_memories program other) → Agree program function one other
    agree_from first second arguments memories = record {
      one_fits = first;
      other_fits = second;
      arguments = λ index param got is.
          arguments.each index param (subst (λ (d : FunctionDef). slice_get d.params index ≡ Some param) (one_function one first) got) is;
      memories = memories.each;
    }

    pub arguments_from : Agree program function one other → ArgumentsAgree defined.params one.args other.args
    arguments_from agree = record {
      each = λ index param got is. agree.arguments index param
          (subst (λ (d : FunctionDef). slice_get d.params index ≡ Some param) (sym (one_function one agree.one_fits)) got) is;
    }

    pub memories_from : Agree program function one other → MemoriesAgree program.memories (first_memories program one) (first_memories program other)
    memories_from agree = record { each = agree.memories }
