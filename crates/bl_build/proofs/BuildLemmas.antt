-- Building keeps the laws of stages, and gives a program that ends as its linked tree does.
use Rattle.bl_reduce.specs.Runnable.{IsRunnable, runnable}
use Rattle.std.proofs.Common.{◌≡◌, ℕ, ◌-◌, ◌^◌, ◌≤◌, List, length, inl, inr, refl, ap, sym, ◌∙◌, subst, arith}
use Rattle.std.specs.Prelude.{Result, Ok, Err, min}
use Rattle.std.proofs.lemmas.Bool.{cases_lt}
use Rattle.bl_base.specs.Quantity.{limit_of}
use Rattle.bl_base.specs.declared.quantity.Quantity.TheVariants as quantity
use Rattle.bl_base.proofs.RunLemmas.{run_unique}
use Rattle.bl_wasm.specs.declared.linked.Tree.{Tree}
use Rattle.bl_reduce.specs.Outcomes.{opening as source_opening}
use Rattle.bl_reduce.specs.Steps.{source_step}
use Rattle.bl_program.specs.Outcomes.{opening}
use Rattle.bl_program.specs.Steps.{plain_step}
use Rattle.bl_program.specs.declared.definitions.ProgramParts.{ProgramParts as Program}
use Rattle.bl_format.specs.Image.{Image}
use Rattle.bl_image.proofs.Prefixes.{one_image}
use Rattle.bl_lower.specs.Trees.{low_tree}
use Rattle.bl_lower.proofs.InitialStates.{ends_after, plain_ended}
use Rattle.bl_build.specs.BuildStages.{AreCompilable, AreCompiled, Builds, Built, HasLongImage, IsSized, building, command_count, compiling, lowering, sizing, without_image}
use Rattle.bl_build.specs.LoadStages.{Part, loading, parts_of}
use Rattle.bl_build.specs.ProgramMeaning.{SameOutcomes}
use Rattle.bl_job.specs.Refusals.{Refusal, limit}
use Rattle.bl_job.specs.Stages.{IsLawfulStage, IsTotalStage, Stage, at_first, at_second, chain}
use Rattle.bl_job.specs.WorkAnswers.{IsStaged, refusal_in}
use Rattle.bl_job.specs.declared.refusal.WorkError.{WorkError}
use Rattle.bl_job.specs.declared.refusal.WorkError.TheVariants as error
use Rattle.bl_build.proofs.ImagesExist.{IsOfParts, has_image, of_parts}
use Rattle.bl_build.proofs.LoadLemmas.{loading_lawful}
use Rattle.bl_build.proofs.LoadTotal.{loading_total}
use Rattle.bl_job.proofs.StageLemmas.{chain_lawful, chain_total}

-- ---- the stages

pub lowering_lawful : IsLawfulStage lowering
lowering_lawful = record {
  one_result = λ tree a b p q. p.0 ∙ sym q.0;
  one_refusal = λ tree r s h k. h.told ∙ sym k.told;
  not_both = λ tree program r p h. let few = p.1 in let many = h.many in omega (arith, few, many);
}

module _ (program : Program) where
  one_sized : (a b : Built) → IsSized program a → IsSized program b → a ≡ b
  one_sized a b p q =
      let programs = p.is_program ∙ sym q.is_program in
      let images = one_image program a.image b.image p.image q.image in
      λ i. record { program = programs i; image = images i }

  one_long : (a b : Refusal) → HasLongImage program a → HasLongImage program b → a ≡ b
  one_long a b h k = h.told ∙ (ap (λ bytes. limit quantity.Image (length bytes)) (one_image program h.bytes k.bytes h.image k.image) ∙ sym k.told)

  sized_not_both : (a : Built) (r : Refusal) → IsSized program a → HasLongImage program r → ⊥
  sized_not_both a r p h =
      let same = ap length (one_image program h.bytes a.image h.image p.image) in
      let short = p.short in
      let long = h.long in
      omega (arith, same, long, short)

pub sizing_lawful : IsLawfulStage sizing
sizing_lawful = record { one_result = one_sized; one_refusal = one_long; not_both = sized_not_both }

-- each linked tree is lowered, or refused
pub lowering_total : {Given : Tree → Type 0} → IsTotalStage Given lowering
lowering_total = record {
  always = λ tree given made refused.
      elim (cases_lt (limit_of quantity.Commands) (command_count tree)) as (λ _. ⊥) [
        | inl many ↦ refused (limit quantity.Commands (min (command_count tree) (2 ^ 64 - 1))) (record { many = many; told = refl })
        | inr few ↦ made (low_tree tree) (refl, few)
      ];
}

-- a program that has an image is sized, or refused
abbrev pub HasImage : Program → Type 0
HasImage program = (bytes : List ℕ) × Image program bytes

pub sizing_total : IsTotalStage HasImage sizing
sizing_total = record {
  always = λ program own made refused.
      elim (cases_lt (limit_of quantity.Image) (length own.0)) as (λ _. ⊥) [
        | inl long ↦ refused (limit quantity.Image (length own.0)) (record { bytes = own.0; image = own.1; long = long; told = refl })
        | inr short ↦ made (record { program = program; image = own.0 }) (record { is_program = refl; image = own.1; short = short })
      ];
}

pub building_lawful : IsLawfulStage building
building_lawful = chain_lawful lowering sizing lowering_lawful sizing_lawful

-- a tree that is linked of few parts is built, or refused
pub building_total : IsTotalStage IsOfParts building
building_total = chain_total IsOfParts HasImage lowering sizing lowering_total sizing_total (λ tree program given lowered. subst HasImage (sym lowered.0) (has_image tree given lowered.1))

pub compiling_lawful : IsLawfulStage compiling
compiling_lawful = chain_lawful loading building loading_lawful building_lawful

-- modules are compiled, or refused
pub compiling_total : IsTotalStage AreCompilable compiling
compiling_total =
    chain_total AreCompilable IsOfParts loading building (record { always = λ parts given made refused. loading_total.always parts given.loadable made refused }) building_total of_parts

-- a tree is built where the program and its image are within the limits
module _ (tree : Tree) (few : command_count tree ≤ limit_of quantity.Commands) (short : (bytes : List ℕ) → Image (low_tree tree) bytes → length bytes ≤ limit_of quantity.Image) where
  built_within : (refusal : Refusal) → building.Refuses tree refusal → ⊥
  built_within refusal (at_first h) = let many = h.many in omega (arith, few, many)
  built_within refusal (at_second program lowered h) =
      let long = h.long in let within = short h.bytes (subst (λ program. Image program h.bytes) lowered.0 h.image) in omega (arith, long, within)

  -- and so are modules that are linked to it
  pub compiled_within : (parts : List Part) → loading.Passes parts tree → (refusal : Refusal) → compiling.Refuses parts refusal → ⊥
  compiled_within parts loaded refusal (at_first r) = loading_lawful.not_both parts tree refusal loaded r
  compiled_within parts loaded refusal (at_second other passed r) =
      built_within refusal (subst (λ tree. building.Refuses tree refusal) (loading_lawful.one_result parts other tree passed loaded) r)

-- what is built of a tree
pub builds_of : (tree : Tree) (built : Built) → building.Passes tree built → Builds tree built
builds_of tree built p = record {
  is_program = p.2.is_program ∙ p.1.0;
  few = p.1.1;
  image = subst (λ program. Image program built.image) p.1.0 p.2.image;
  short = p.2.short;
}

-- ---- what functions answer

-- what one stage refuses, another one does too
module _ {A B C X Y : Type 0} (one : Stage A B) (other : Stage A C) (f : X → B) (g : Y → C) (a : A) where
  pub still_refused : ((refusal : Refusal) → one.Refuses a refusal → other.Refuses a refusal) → (e : WorkError) → IsStaged one f a (Err e) → IsStaged other g a (Err e)
  still_refused on (error.Refused refusal) r = on (refusal_in refusal) r
  still_refused on error.Memory r = tt

-- what comes of a value that one stage passes on
module _ {A B C X : Type 0} (first : Stage A B) (second : Stage B C) (f : X → C) (a : A) (b : B) where
  pub staged_behind : (result : Result X WorkError) → first.Passes a b → IsStaged second f b result → IsStaged (chain first second) f a result
  staged_behind (Ok x) passed h = (b, passed, h)
  staged_behind (Err (error.Refused refusal)) passed h = at_second b passed h
  staged_behind (Err error.Memory) passed h = tt

-- ---- a program whose image isn't made

-- what comes of a value that one stage passes on
module _ {A B : Type 0} (first : Stage A B) (second : Stage B Built) (a : A) (b : B) where
  pub unmade_behind : (result : Result Program WorkError) → first.Passes a b → IsStaged (without_image second) (λ (program : Program). program) b result
      → IsStaged (without_image (chain first second)) (λ (program : Program). program) a result
  unmade_behind (Ok program) passed h = (h.0, (b, passed, h.1))
  unmade_behind (Err (error.Refused refusal)) passed h = at_second b passed h
  unmade_behind (Err error.Memory) passed h = tt

-- an image that is made is the one that was judged
pub sized_again : (program other : Program) (image : List ℕ) (built : Built) → IsSized program (record { program = other; image = image }) → built.program ≡ other → Image other built.image
    → IsSized program built
sized_again program other image built p same made =
    let is = same ∙ p.is_program in
    let own = subst (λ (q : Program). Image q built.image) p.is_program made in
    record {
      is_program = is;
      image = own;
      short = subst (λ (bytes : List ℕ). length bytes ≤ limit_of quantity.Image) (one_image program image built.image p.image own) p.short;
    }

pub compiled_again : (parts : List Part) (other : Program) (built : Built) → (without_image compiling).Passes parts other → built.program ≡ other → Image other built.image → compiling.Passes parts built
compiled_again parts other built p same made =
    let made_of = p.1.2 in
    (p.1.0, p.1.1, (made_of.0, made_of.1, sized_again made_of.0 other p.0 built made_of.2 same made))

-- ---- what it means

-- a linked tree and its program end alike
pub same_outcomes : (tree : Tree) → IsRunnable tree → SameOutcomes tree (low_tree tree)
same_outcomes tree linked = record {
  follows = λ function start o n h. ends_after tree linked function start h.start_fits n o h;
  comes_from = λ function start o m h. plain_ended tree linked function start m o h;
  source_unique = λ function start o p n k h i. run_unique (source_step tree) n k (source_opening tree function start) o p h.run i.run;
  plain_unique = λ function start o p m k h i. run_unique (plain_step (low_tree tree)) m k (opening (low_tree tree) function start) o p h.run i.run;
}

-- what is compiled of modules
pub are_compiled : (words contents : List (List ℕ)) (built : Built) → compiling.Passes (parts_of words contents) built → AreCompiled words contents built
are_compiled words contents built p =
    let builds = builds_of p.0 built p.2 in
    record {
      tree = p.0;
      loaded = p.1;
      linked = p.1.2.2.2.can_run;
      builds = builds;
      same_outcomes = subst (SameOutcomes p.0) (sym builds.is_program) (same_outcomes p.0 (runnable p.0 p.1.2.2.2.can_run));
    }
