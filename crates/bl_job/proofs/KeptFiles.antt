-- Files that are kept are there afterwards.
use Rattle.std.proofs.Common.{◌≡◌, ℕ, true, false, cond, List, [], ◌∷◌, Option, Some, None, refl, ap, ◌∙◌}
use Rattle.std.specs.Cmp.{eq_by_cmp_equiv}
use Rattle.std.specs.Cmp.Lexicographic.{nat_list_cmp_total}
use Rattle.std.specs.FinMap as fin
use Rattle.std.specs.FinMap.{get-insert}
use Rattle.std.specs.Str.{bytes_eq}
use Rattle.std.proofs.lemmas.Map.Text.{is_eq-slice_cmp}
use Rattle.std.proofs.lemmas.Slice.Eq.{bytes_eq-Decides}
use Rattle.bl_outside.specs.Shelf.{Files, with_file}
use Rattle.bl_job.specs.Jobs.{FileIs}
use Rattle.bl_job.specs.StagedJobs.{AreOthers, Stand}
use Rattle.bl_job.specs.Worlds.{with_files}

-- what an entry made new leaves at each name
get_inserted : (files : Files) (name bytes other : List ℕ) → fin.get (fin.insert files name bytes) other ≡ cond (bytes_eq name other) (Some bytes) (fin.get files other)
get_inserted files name bytes other =
    get-insert nat_list_cmp_total files name bytes other
    ∙ ap (λ b. cond b (Some bytes) (fin.get files other)) ((eq_by_cmp_equiv nat_list_cmp_total).symm other name ∙ is_eq-slice_cmp name other)

bytes_same : (name : List ℕ) → bytes_eq name name ≡ true
bytes_same name = (bytes_eq-Decides name name).1 refl

kept_last : (files : Option Files) (name bytes : List ℕ) → FileIs (with_file files name bytes) name bytes
kept_last None name bytes = tt
kept_last (Some files) name bytes = get_inserted files name bytes name ∙ ap (λ b. cond b (Some bytes) (fin.get files name)) (bytes_same name)

kept_still : (files : Option Files) (name bytes other those : List ℕ) → bytes_eq name other ≡ false → FileIs files other those → FileIs (with_file files name bytes) other those
kept_still None name bytes other those differ is = tt
kept_still (Some files) name bytes other those differ is =
    get_inserted files name bytes other ∙ ap (λ b. cond b (Some bytes) (fin.get files other)) differ ∙ is

-- others that are kept behind a file leave it
still_there : (files : Option Files) (keeps : List (List ℕ × List ℕ)) (name bytes : List ℕ) → AreOthers name keeps → FileIs files name bytes → FileIs (with_files files keeps) name bytes
still_there files [] name bytes others is = is
still_there files (keep ∷ keeps) name bytes others is =
    still_there (with_file files keep.0 keep.1) keeps name bytes others.1 (kept_still files keep.0 keep.1 name bytes others.0 is)

pub all_stand : (files : Option Files) (keeps : List (List ℕ × List ℕ)) → Stand (with_files files keeps) keeps
all_stand files [] = tt
all_stand files (keep ∷ keeps) =
    (λ others. still_there (with_file files keep.0 keep.1) keeps keep.0 keep.1 others (kept_last files keep.0 keep.1), all_stand (with_file files keep.0 keep.1) keeps)
