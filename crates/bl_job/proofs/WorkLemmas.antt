-- As many contents as reads; the contents of the first file, and of all behind it.
use Rattle.std.proofs.Common.{◌≡◌, refl, ◌+◌, ◌-◌, ◌≤◌, List, [], ◌∷◌, ◌++◌, length, get_or, take, drop, sym, arith}
use Rattle.std.specs.Prelude.{Option}
use Rattle.std.proofs.lemmas.List.{take_all}
use Rattle.bl_outside.specs.Shelf.{Files}
use Rattle.bl_job.specs.WorkAnswers.{content_in, contents_in}
use Rattle.bl_job.specs.Jobs.{AreRead, Read}
use Rattle.bl_job.specs.declared.content.Content.{Content}

pub as_many : (files : Option Files) (reads : List Read) (contents : List Content) → AreRead files reads (contents_in contents) → length contents ≡ length reads
as_many files [] [] read = refl
as_many files [] (x ∷ contents) read = absurd read
as_many files (r ∷ reads) [] read = absurd read
as_many files (r ∷ reads) (x ∷ contents) read = let rest = as_many files reads contents read.1 in omega (arith, rest)

-- the first, and all behind it
pub first_and_rest : {A : Type 0} (contents : List A) (first : A) → 1 ≤ length contents → first ≡ get_or contents 0 first → contents ≡ first ∷ take (length contents - 1) (drop 1 contents)
first_and_rest [] first some is = absurd (omega (arith, some))
first_and_rest (x ∷ contents) first some is =
    let count : length contents ≤ length (x ∷ contents) - 1 = omega arith in
    let rest : take (length (x ∷ contents) - 1) contents ≡ contents = take_all (length (x ∷ contents) - 1) contents count in
    λ i. sym is i ∷ sym rest i

-- the first one that is taken off
pub first_taken : (contents rest : List Content) (first : Content) → 1 ≤ length contents → first ≡ get_or contents 0 first → rest ≡ take 0 contents ++ drop (0 + 1) contents
    → contents_in contents ≡ content_in first ∷ contents_in rest
first_taken [] rest first some is these = absurd (omega (arith, some))
first_taken (x ∷ contents) rest first some is these = λ i. content_in (sym is i) ∷ contents_in (sym these i)
